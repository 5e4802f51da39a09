use Rattle.pict_top.specs.Changes.{change_of}
use Rattle.pict_top.specs.Headline.{shelf_change}
use Rattle.pict_words.specs.Plain.{texts_of}
use Rattle.pict_top.proofs.Meeting.{headline}
use Rattle.pict_top.proofs.top.pict.Goals as goal

pub returns-clause-headline : goal.returns-clause-headline
returns-clause-headline g c =
    headline (texts_of c.args.words.now) (shelf_change g.S.Shelf.held g.S.Shelf.faults g.S.Shelf.misses c.args.shelf.now c.do_words.new.shelf)
    (change_of g.O.Sink.taken g.O.Sink.faults c.args.out.now c.do_words.new.out) (change_of g.E.Sink.taken g.E.Sink.faults c.args.err.now c.do_words.new.err)
    c.do_words.result c.do_words.ensures.meets c.do_words.ensures.usage c.do_words.ensures.each
