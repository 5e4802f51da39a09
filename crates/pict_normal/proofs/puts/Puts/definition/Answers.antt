-- The entry is a definition, and stands behind the binders.
use Rattle.std.proofs.Common.{◌-◌, ap, subst, arith}
use Rattle.pict_types.specs.Plain.{plain_arg}
use Rattle.pict_types.specs.PlainContext.{plain_context}
use Rattle.pict_types.specs.PlainEntries.{plain_what}
use Rattle.pict_types.specs.Places.{IsWhatAt}
use Rattle.pict_normal.specs.Putting.{replacement_by}
use Rattle.pict_normal.proofs.puts.Puts.definition.Goals as goal

pub returns-in-Some-Definition : goal.returns-in-Some-Definition
returns-in-Some-Definition c =
    let d = plain_context c.args.self.now.context.now in
    let place = c.args.i - c.args.depth in
    record {
      arg = plain_arg c.in-Some-Definition.field-0-0;
      there = subst (λ w. IsWhatAt d place (plain_what w)) c.in-Some-Definition.field-0-is c.in-Some-Definition.ensures.some;
      behind = omega arith;
      put = ap (λ s. replacement_by s d) c.in-Entries.is;
    }
