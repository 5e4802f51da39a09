-- How many blocks several steps make together.
use Rattle.std.proofs.Common.{ℕ, ◌≤◌, ◌≡◌, Bool, cond, List, [], ◌∷◌, sym, ap, ◌∙◌, subst, arith, option_map, unwrap_or}
use Rattle.pict_core.specs.Term.{Val, Boolean}
use Rattle.pict_code.specs.Instruction.{Node}
use Rattle.pict_region.specs.RegionState.{spare, KeepsBlocks}
use Rattle.pict_queue.specs.QueuesState.{QueuesState}
use Rattle.pict_blocks.specs.Parts.{block_width}
use Rattle.pict_desk.specs.Code.{HasFrame}
use Rattle.pict_turns.specs.Widths.{MakesOnly, part_width}

-- ---- steps one after another

pub makes_nothing : (old new : QueuesState) (needed : List ℕ) → KeepsBlocks old.region new.region → MakesOnly old new needed
makes_nothing old new needed keeps = record {
  least = λ width. let e = keeps width in omega (arith, e);
  most = λ width. let e = keeps width in omega (arith, e);
}

-- a block more may be needed
pub makes_beside : (old new : QueuesState) (width : ℕ) (needed : List ℕ) → MakesOnly old new needed → MakesOnly old new (width ∷ needed)
makes_beside old new width needed makes = record { least = makes.least; most = λ w. let m = makes.most w in omega (arith, m) }

module _ (old mid new : QueuesState) (needed : List ℕ) where
  -- blocks are only moved, taken and given afterwards
  pub makes_before : MakesOnly old mid needed → KeepsBlocks mid.region new.region → MakesOnly old new needed
  makes_before makes keeps = record {
    least = λ width. let m = makes.least width in let e = keeps width in omega (arith, m, e);
    most = λ width. let m = makes.most width in let e = keeps width in omega (arith, m, e);
  }

  -- blocks are only moved and given before
  pub makes_after : KeepsBlocks old.region mid.region → ((width : ℕ) → spare old.region width ≤ spare mid.region width) → MakesOnly mid new needed → MakesOnly old new needed
  makes_after keeps more makes = record {
    least = λ width. let e = keeps width in let m = makes.least width in omega (arith, e, m);
    most = λ width. let e = keeps width in let s = more width in let m = makes.most width in omega (arith, e, s, m);
  }

-- ---- the widths of parts

module _ (nodes : List Node) where
  pub part_width_is : (number : ℕ) (frame : List ℕ) → HasFrame nodes number frame → part_width nodes number ≡ block_width frame
  part_width_is number frame f = ap (λ o. block_width (unwrap_or (option_map (λ (n : Node). n.frame) o) [])) f.at ∙ ap block_width f.is

  pub makes_part : (old new : QueuesState) (number : ℕ) (frame : List ℕ) → HasFrame nodes number frame → MakesOnly old new (block_width frame ∷ []) → MakesOnly old new (part_width nodes number ∷ [])
  makes_part old new number frame f = subst (λ (w : ℕ). MakesOnly old new (w ∷ [])) (sym (part_width_is number frame f))

  pub makes_parts : (old new : QueuesState) (left right : ℕ) (first second : List ℕ) → HasFrame nodes left first → HasFrame nodes right second
      → MakesOnly old new (block_width first ∷ block_width second ∷ []) → MakesOnly old new (part_width nodes left ∷ part_width nodes right ∷ [])
  makes_parts old new left right first second f g makes =
      subst (λ (w : ℕ). MakesOnly old new (w ∷ part_width nodes right ∷ [])) (sym (part_width_is left first f))
      (subst (λ (w : ℕ). MakesOnly old new (block_width first ∷ w ∷ [])) (sym (part_width_is right second g)) makes)

  -- the part that a truth value chooses
  pub makes_chosen : (old new : QueuesState) (test : Val) (a b : Bool) (l r number : ℕ) (frame : List ℕ) → test ≡ Boolean a → test ≡ Boolean b → number ≡ cond a l r
      → HasFrame nodes number frame → MakesOnly old new (block_width frame ∷ []) → MakesOnly old new (part_width nodes (cond b l r) ∷ [])
  makes_chosen old new test a b l r number frame one other chosen f makes =
      let both : Boolean a ≡ Boolean b = sym one ∙ other in
      let same : a ≡ b = cc in
      subst (λ (k : ℕ). MakesOnly old new (part_width nodes k ∷ [])) (chosen ∙ ap (λ t. cond t l r) same) (makes_part old new number frame f makes)
