use Rattle.std.proofs.Common.{◌<◌, ◌+◌, ℕ, length, arith}
use Rattle.pict_object.specs.Heads.{lent}
use Rattle.pict_object.proofs.Numbering.{many_lent, lent_at, names_more, one_more}
use Rattle.pict_object.proofs.decoding.number.Goals as goal

pub returns-in_err-push-clause-gained : goal.returns-in_err-push-clause-gained
returns-in_err-push-clause-gained c =
    let texts = c.args.table.now in
    let i : ℕ = c.loop-text.text-index in
    let less : i < length (lent texts) = omega (arith, c.loop-text-test.true, many_lent texts) in
    (i + 1, names_more c.args.names.now c.loop-text.names c.intern.new.self (lent texts) c.loop-text.labels.items i _ c.loop-text.invariant less (lent_at texts i) c.in_ok-label.ensures.added)

pub loop-text-preserved : goal.loop-text-preserved
loop-text-preserved c =
    let texts = c.args.table.now in
    let i : ℕ = c.loop-text.text-index in
    let less : i < length (lent texts) = omega (arith, c.loop-text-test.true, many_lent texts) in
    one_more c.args.names.now c.loop-text.names c.intern.new.self (lent texts) c.loop-text.labels.items c.push.new.self.items i _ c.in_ok-label.label
    c.loop-text.invariant less (lent_at texts i) c.in_ok-label.ensures.added c.in_ok-label.ensures.stands c.in_ok-push.ensures.items
