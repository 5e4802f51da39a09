-- Who keeps the turn where the levels of its frame keep their words.
use Rattle.std.proofs.Common.{ℕ, suc, ◌≡◌, ◌==◌, ◌||◌, Bool, true, false, List, [], ◌∷◌, map, refl, sym, ap, ◌∙◌, arith, Some}
use Rattle.std.proofs.lemmas.Bool.Decides.{nat_tests}
use Rattle.std.specs.List.{AllByRecursion, slice_get}
use Rattle.pict_core.specs.Term.{Process}
use Rattle.pict_code.specs.Instruction.{Node}
use Rattle.pict_code.specs.Levels.{has}
use Rattle.pict_code.specs.Nodes.{nodes_of}
use Rattle.pict_blocks.specs.Framed.{gathered}
use Rattle.pict_desk.specs.Known.{pair_at, value_in, known}
use Rattle.pict_heap.specs.HeapState.{HeapState}
use Rattle.pict_turns.specs.Turns.{IsTurn}
use Rattle.pict_turns.specs.Views.{frame_in, words_of_turn}
use Rattle.pict_turns.specs.declared.turn.Turn.{Turn}
use Rattle.pict_turns.specs.declared.turn.Turn.TheVariants.{Nobody, Node as NodeTurn, Wide, Output}
use Rattle.pict_turns.proofs.Turns.{frame_is}

-- ---- the levels of a frame

either : (a b : Bool) → b ≡ true → a || b ≡ true
either true b e = refl
either false b e = e

pub each_level : (P : ℕ → Type 0) (frame : List ℕ) → ((level : ℕ) → has level frame ≡ true → P level) → AllByRecursion P frame
each_level P [] holds = tt
each_level P (l ∷ ls) holds =
    let here : (l == l) ≡ true = grind (arith, nat_tests) in
    (holds l (ap (λ b. b || has l ls) here), each_level P ls (λ level h. holds level (either (level == l) (has level ls) h)))

module _ (before after : List (ℕ × ℕ)) where
  words_same : (frame : List ℕ) → AllByRecursion (λ level. pair_at after level ≡ pair_at before level) frame → gathered after frame ≡ gathered before frame
  words_same [] same = refl
  words_same (l ∷ ls) same =
      ap (λ (p : ℕ × ℕ). p.0 ∷ p.1 ∷ gathered after ls) same.0 ∙ ap (λ ws. (pair_at before l).0 ∷ (pair_at before l).1 ∷ ws) (words_same ls same.1)

  known_same : (h : HeapState) (frame : List ℕ) → AllByRecursion (λ level. pair_at after level ≡ pair_at before level) frame → map (known h after) frame ≡ map (known h before) frame
  known_same h [] same = refl
  known_same h (l ∷ ls) same =
      ap (λ (p : ℕ × ℕ). value_in h p.0 p.1 ∷ map (known h after) ls) same.0 ∙ ap (λ vs. known h before l ∷ vs) (known_same h ls same.1)

-- ---- who has the turn, with the frame of this node

module _ (core : Process) (before after : List (ℕ × ℕ)) (number : ℕ) (node : Node) (held : List ℕ) (at : slice_get (nodes_of core) number ≡ Some node)
    (same : AllByRecursion (λ level. pair_at after level ≡ pair_at before level) node.frame) where
  node_kept : (n : ℕ) (frame : List ℕ) → frame ≡ node.frame → (suc n ∷ gathered after frame) ∷ [] ≡ (suc n ∷ gathered before frame) ∷ []
  node_kept n frame e =
      ap (λ ls. (suc n ∷ gathered after ls) ∷ []) e ∙ ap (λ ws. (suc n ∷ ws) ∷ []) (words_same before after node.frame same)
      ∙ sym (ap (λ ls. (suc n ∷ gathered before ls) ∷ []) e)

  pub words_kept : (t : Turn) → words_of_turn (nodes_of core) before t ≡ (suc number ∷ held) ∷ [] → words_of_turn (nodes_of core) after t ≡ words_of_turn (nodes_of core) before t
  words_kept Nobody e = refl
  words_kept (NodeTurn n) e =
      let is : n ≡ number = cc in
      node_kept n (frame_in (nodes_of core) n) (ap (frame_in (nodes_of core)) is ∙ frame_is core number node at)
  words_kept (Wide n pair) e = refl
  words_kept (Output kept) e = refl

  pub turn_kept : (h : HeapState) (t : Turn) → words_of_turn (nodes_of core) before t ≡ (suc number ∷ held) ∷ [] → IsTurn core h before t → IsTurn core h after t
  turn_kept h Nobody e is = tt
  turn_kept h (NodeTurn n) e is = is
  turn_kept h (Wide n pair) e is =
      let number_is : n ≡ number = cc in
      let there : Some is.node ≡ Some node = sym is.is.at ∙ ap (slice_get (nodes_of core)) number_is ∙ at in
      let node_is : node ≡ is.node = cc in
      let levels : map (known h after) is.node.frame ≡ map (known h before) is.node.frame =
      ap (λ (x : Node). map (known h after) x.frame) (sym node_is) ∙ known_same before after h node.frame same ∙ ap (λ (x : Node). map (known h before) x.frame) node_is in
      record {
        node = is.node;
        wide = is.wide;
        is = record { at = is.is.at; frame = is.is.frame; words_are = is.is.words_are; holds = is.is.holds ∙ sym levels };
        record_is = is.record_is;
      }
  turn_kept h (Output kept) e is = is
