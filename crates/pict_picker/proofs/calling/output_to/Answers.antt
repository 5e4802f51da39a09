use Rattle.std.proofs.Common.{refl, sym, rules}
use Rattle.pict_desk.proofs.Pairs.{value_packed}
use Rattle.pict_picker.proofs.calling.output_to.Goals as goal

pub returns : goal.returns
returns c h to message = record {
  to_pair = record { word = c.args.to; is = to; fits = c.pack.ensures.fits; packs = sym c.pack.ensures.pair };
  to_is = value_packed h c.args.to c.pack.result c.pack.ensures.fits (sym c.pack.ensures.pair);
  message_pair = record { word = c.args.message; is = message; fits = c.pack-2.ensures.fits; packs = sym c.pack-2.ensures.pair };
  message_is = value_packed h c.args.message c.pack-2.result c.pack-2.ensures.fits (sym c.pack-2.ensures.pair);
  at_is = refl;
  fits = search rules;
}
