use Rattle.std.proofs.Common.{ap}
use Rattle.pict_outside.specs.Entries.{pairs_of}
use Rattle.pict_words.specs.Plain.{texts_of}
use Rattle.pict_web.proofs.Delivering.{delivered}
use Rattle.pict_web.proofs.over.Goals as goal

pub returns : goal.returns
returns c =
    delivered (texts_of c.args.words.now) (pairs_of c.args.entries.items) c.new-shelf.result c.pict-status.new.shelf
    c.in_ok-printed.printed c.pict-status.new.out c.in_ok-reported.reported c.pict-status.new.err c.pict-status.result
    c.args.room c.args.report_room
    (ap (λ s. s.pairs) c.new-shelf.ensures) (ap (λ s. s.taken) c.in_ok-printed.ensures) (ap (λ s. s.taken) c.in_ok-reported.ensures)
    (c.has_room.ensures c.if-not-has_room.false) (c.has_room-2.ensures c.if-not-has_room-2.false)
    c.pict-status.ensures.headline
