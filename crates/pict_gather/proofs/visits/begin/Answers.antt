use Rattle.std.proofs.Common.{◌-◌, refl, arith}
use Rattle.pict_gather.proofs.Beginning.{begun_said, unread_said, last_is}
use Rattle.pict_gather.proofs.visits.begin.Goals as goal

pub returns-clause-begun : goal.returns-clause-begun
returns-clause-begun c =
    begun_said c.args.sources.now c.args.gathering.now c.args.name.now c.args.text.items _ (record { names = c.read-said.new.names; ended = c.args.gathering.now.ended; decs = c.args.gathering.now.decs; left = c.args.gathering.now.left - c.len.result }) c.next_number-number.result
    (last_is c.push.new.self.items c.args.sources.now.list.items c.in_ok-name.name c.args.name.now c.from_vec-text.result c.args.text.items c.in_ok-push.ensures.items c.in_ok-name.ensures c.from_vec-text.ensures)
    c.next_number-number.ensures c.requires.kept c.requires.few c.requires.fits (rw (c.deref.ensures.value) at c.read-said.ensures.bound) refl refl (omega (arith, c.len.ensures, c.args.text.ok)) c.read-said.result (rw (c.deref.ensures.value) at c.read-said.ensures.said)

pub returns-clause-unread : goal.returns-clause-unread
returns-clause-unread c =
    unread_said c.args.sources.now c.args.gathering.now c.args.name.now c.args.text.items _ (record { names = c.read-said.new.names; ended = c.args.gathering.now.ended; decs = c.args.gathering.now.decs; left = 0 }) c.next_number-number.result
    (last_is c.push.new.self.items c.args.sources.now.list.items c.in_ok-name.name c.args.name.now c.from_vec-text.result c.args.text.items c.in_ok-push.ensures.items c.in_ok-name.ensures c.from_vec-text.ensures)
    c.next_number-number.ensures c.read-said.result (rw (c.deref.ensures.value) at c.read-said.ensures.said)
