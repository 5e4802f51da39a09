use Rattle.std.specs.Fmt.{decimal}
use Rattle.pict_outside.specs.Texts as texts
use Rattle.pict_web.specs.Asked.{words_for, texts_cut}
use Rattle.pict_web.proofs.Delivering.{nothing}
use Rattle.pict_web.proofs.pict_web_call.Goals as goal

pub returns-in-Err-clause-answered : goal.returns-in-Err-clause-answered
returns-in-Err-clause-answered c =
    nothing (words_for c.args.command c.args.bare (decimal c.args.fuel) (decimal c.args.seed) (decimal c.args.sites)) (texts.texts_of (texts_cut c.args.cuts.now c.args.texts.now)) c.number-in-Err.result
    c.call.new.out c.call.new.err c.number-in-Err.ensures
