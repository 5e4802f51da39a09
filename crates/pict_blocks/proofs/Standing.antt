-- What the block of a node stands for: the node's part, with the values of its frame.
use Rattle.std.proofs.Common.{ℕ, ◌≤◌, ◌≡◌, false, cond, nat_lt, List, [], ◌∷◌, length, map, refl, sym, ap, ◌∙◌, subst, Some, arith}
use Rattle.std.proofs.lemmas.Bool.Decides.{nat_tests}
use Rattle.pict_syntax.specs.declared.limits.TheConstants.{NARROW_LIMIT}
use Rattle.pict_core.specs.Term.{Process}
use Rattle.pict_code.specs.Frames.{frame_of}
use Rattle.pict_code.specs.Instruction.{Node}
use Rattle.pict_code.specs.Nodes.{Place, place}
use Rattle.pict_code.specs.Standing.{with_frame}
use Rattle.pict_code.proofs.Numbering.{PlacedAt}
use Rattle.pict_blocks.specs.Framed.{gathered}
use Rattle.pict_heap.specs.HeapState.{HeapState}
use Rattle.pict_blocks.specs.Blocks.{values_in_words, frame_values, node_process, process_of, IsNodeBlock}
use Rattle.pict_desk.specs.Known.{value_in, value_fields, known}
use Rattle.pict_blocks.specs.Laws.{NarrowBlocks}
use Rattle.pict_desk.proofs.Parts.{node_with, placed_at}
use Rattle.pict_desk.proofs.Nodes.{IsNodeAt, part_of}

-- ---- narrow frames

module _ (h : HeapState) (values : List (ℕ × ℕ)) where
  values_back : (ls : List ℕ) → values_in_words (value_in h) (gathered values ls) ≡ map (known h values) ls
  values_back [] = refl
  values_back (l ∷ ls) = ap (λ vs. known h values l ∷ vs) (values_back ls)

  pub frame_back : (ls : List ℕ) (n : ℕ) → n ≤ NARROW_LIMIT → frame_values (value_in h) n (gathered values ls) ≡ map (known h values) ls
  frame_back [] n few = refl
  frame_back (l ∷ ls) n few =
      let test : nat_lt NARROW_LIMIT n ≡ false = grind (arith, nat_tests) in
      ap (λ b. cond b (value_fields (known h values l)) (values_in_words (value_in h) (gathered values (l ∷ ls)))) test ∙ values_back (l ∷ ls)

pub narrow_blocks : NarrowBlocks
narrow_blocks core h values number node at narrow = record {
  at = at;
  frame = gathered values node.frame;
  words_are = refl;
  holds = frame_back h values node.frame (length node.frame) narrow;
}

-- ---- a block of a node

-- the part of a block's node, and what the block stands for
pub record StandsAs (core : Process) (h : HeapState) (values : List (ℕ × ℕ)) (number : ℕ) (node : Node) (words : List ℕ) : Type 0 where
  pub part : Place
  pub at : IsNodeAt core number node part
  pub is : process_of core (value_in h) words ≡ node_with part.around (known h values) part.process

pub stands_as : (core : Process) (h : HeapState) (values : List (ℕ × ℕ)) (number : ℕ) (node : Node) (words : List ℕ)
    → IsNodeBlock core h values number node words → StandsAs core h values number node words
stands_as core h values number node words b =
    let p = part_of core number node b.at in
    let frame : node.frame ≡ frame_of p.0.around p.0.process = sym (ap (λ (n : Node). n.frame) p.1.node_is) in
    record {
      part = p.0;
      at = p.1;
      is = ap (process_of core (value_in h)) b.words_are
          ∙ ap (node_process (value_in h) b.frame) p.1.at
          ∙ ap (with_frame p.0) (ap (λ ls. frame_values (value_in h) (length ls) b.frame) (sym frame) ∙ b.holds ∙ ap (map (known h values)) frame);
    }

-- a node at the number of a part is that part's
pub same_part : (core : Process) (i n : ℕ) (q : Process) (node : Node) (p : Place) → PlacedAt core i n q → IsNodeAt core i node p → place n q ≡ p
same_part core i n q node p placed at = let e : Some (place n q) ≡ Some p = sym (placed_at core i n q placed) ∙ at.at in cc

-- what a block at the number of a part stands for
pub part_stands : (core : Process) (h : HeapState) (values : List (ℕ × ℕ)) (i number n : ℕ) (q : Process) (node : Node) (words : List ℕ)
    → number ≡ i → PlacedAt core i n q → IsNodeBlock core h values number node words → process_of core (value_in h) words ≡ node_with n (known h values) q
part_stands core h values i number n q node words e placed b =
    let s = stands_as core h values number node words b in
    let is : place n q ≡ s.part = same_part core number n q node s.part (subst (λ k. PlacedAt core k n q) (sym e) placed) s.at in
    s.is ∙ sym (ap (λ (x : Place). node_with x.around (known h values) x.process) is)
