use Rattle.std.proofs.Common.{◌∙◌}
use Rattle.std.specs.Int.{w64}
use Rattle.std.proofs.lemmas.Int.{to_z-of_z}
use Rattle.pict_core.specs.Plain.{plain_val}
use Rattle.pict_prim.proofs.SameNumbers.{same_numbers}
use Rattle.pict_prim.proofs.numbers.act_on_numbers.Goals as goal

pub returns-in-None : goal.returns-in-None
returns-in-None c = (
  c.in-None.ensures (plain_val c.args.k.now)
      ∙ same_numbers c.args.p c.args.a c.args.b _ _ (plain_val c.args.k.now) (to_z-of_z w64 c.args.a c.ranges.a) (to_z-of_z w64 c.args.b c.ranges.b),
  tt,
)
