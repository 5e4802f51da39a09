-- How wide the block of who has the turn would be.
use Rattle.std.proofs.Common.{ℕ, ◌≡◌, ◌≤◌, ◌<◌, ◌+◌, Bool, true, false, nat_lt, inl, inr, List, length, refl, ap, arith}
use Rattle.std.proofs.lemmas.Bool.Decides.{nat_tests}
use Rattle.pict_syntax.specs.declared.limits.TheConstants.{NARROW_LIMIT}
use Rattle.pict_core.specs.Term.{Process}
use Rattle.pict_blocks.specs.Parts.{block_width}
use Rattle.pict_blocks.proofs.Holding.{width_narrow, width_wide}
use Rattle.pict_turns.specs.Acting.{HasActing}
use Rattle.pict_turns.specs.Views.{acting_words}
use Rattle.pict_turns.specs.declared.store.Store.{Store}
use Rattle.pict_turns.proofs.Turns.{acting_block}
use Rattle.pict_turns.proofs.Wide.{node_wide}

width_low : (frame : List ℕ) → block_width frame ≤ 65535
width_low frame = by_case (nat_lt NARROW_LIMIT (length frame)) refl
  where
    by_case : (b : Bool) → nat_lt NARROW_LIMIT (length frame) ≡ b → block_width frame ≤ 65535
    by_case true e = let many : NARROW_LIMIT < length frame = grind (arith, nat_tests) in let w = width_wide frame many in omega (arith, w)
    by_case false e = let few : length frame ≤ NARROW_LIMIT = grind (arith, nat_tests) in let w = width_narrow frame few in omega (arith, w, few)

pub acting_low : (core : Process) (s : Store) → HasActing core s → length (acting_words core s) + 1 ≤ 65535
acting_low core s a = elim (acting_block core s a) [
  | inl n ↦ let w = node_wide core s.desk.heap (acting_words core s) n in let low = width_low n.node.frame in omega (arith, w, low)
  | inr k ↦ let w = ap length k.is in omega (arith, w)
]
