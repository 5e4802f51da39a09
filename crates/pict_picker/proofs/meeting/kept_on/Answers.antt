use Rattle.std.proofs.Common.{refl, sym}
use Rattle.pict_heap.specs.declared.word.Word.TheVariants as word
use Rattle.pict_desk.proofs.Pairs.{value_packed}
use Rattle.pict_picker.proofs.meeting.kept_on.Goals as goal

pub returns : goal.returns
returns c = record {
  to = λ h. (
    record { word = word.Chan c.args.channel; is = tt; fits = c.pack.ensures.fits; packs = sym c.pack.ensures.pair },
    value_packed h (word.Chan c.args.channel) c.pack.result c.pack.ensures.fits (sym c.pack.ensures.pair),
  );
  message_is = refl;
  at_is = refl;
}
