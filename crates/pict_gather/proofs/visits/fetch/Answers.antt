use Rattle.std.proofs.Common.{◌∙◌, sym, subst}
use Rattle.std.specs.Str.{IsUtf8}
use Rattle.pict_gather.proofs.Asking.{too_long_told, placed_at}
use Rattle.pict_gather.proofs.Printable.{name_utf8}
use Rattle.pict_gather.proofs.visits.fetch.Goals as goal

pub returns-in_ok-add_empty-in-Ok-TooLong-clause-found : goal.returns-in_ok-add_empty-in-Ok-TooLong-clause-found
returns-in_ok-add_empty-in-Ok-TooLong-clause-found g c = (
  c.in_ok-add_empty-in-Ok-TooLong.ensures,
  placed_at _ _ c.next_number-number.ensures,
  too_long_told _ c.args.name.now c.in-Ok.text.now c.args.left c.in-Ok-TooLong.field-0 _ c.in-Ok-TooLong.field-0-is ((c.in-Ok.ensures.cases).0 ∙ c.slice.ensures) c.in-Ok-TooLong.ensures.too_long,
)

pub unreachable-requires : goal.unreachable-requires
unreachable-requires g c = c.in_default.ensures.cases.0 (subst IsUtf8 (sym c.slice.ensures) (name_utf8 c.args.name.now c.requires.name))
