use Rattle.std.proofs.Common.{refl}
use Rattle.pict_gather.proofs.Asking.{too_long_told}
use Rattle.pict_gather.proofs.entry.ask.Goals as goal

pub returns-in-Ok-TooLong-clause-asked : goal.returns-in-Ok-TooLong-clause-asked
returns-in-Ok-TooLong-clause-asked g c =
    (refl, too_long_told _ c.args.file.now c.args.file.now _ c.in-Ok-TooLong.field-0 _ c.in-Ok-TooLong.field-0-is refl c.in-Ok-TooLong.ensures.too_long)
