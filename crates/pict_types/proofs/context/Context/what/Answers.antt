-- The entry that is read stands at its place.
use Rattle.std.proofs.Common.{◌-◌, length, get_or, subst}
use Rattle.pict_types.specs.PlainEntries.{plain_entries, plain_what}
use Rattle.pict_types.specs.Places.{IsWhatAt}
use Rattle.pict_types.proofs.Places.{what_at}
use Rattle.pict_types.proofs.context.Context.what.Goals as goal

pub returns-clause-some : goal.returns-clause-some
returns-clause-some c =
    let es = c.as_slice-entries.result.now in
    subst (λ xs. IsWhatAt (plain_entries xs) c.args.i (plain_what (get_or es (length es - 1 - c.args.i) c.index-entries-entries.result).what)) c.as_slice-entries.ensures.value
    (what_at es c.args.i c.index-entries-entries.result c.if-i-entries.false)
