use Rattle.std.proofs.Common.{◌≡◌, ◌++◌, ◌∷◌, [], ap}
use Rattle.std.proofs.lemmas.Result.{err_from_is_err_and}
use Rattle.std.proofs.lemmas.List.{map_push}
use Rattle.pict_object.specs.Reading.{text_at, counted_at}
use Rattle.pict_object.specs.Heads.{lent}
use Rattle.pict_object.proofs.Loops.{count_ends, begins, goes_on, ends, is_done}
use Rattle.pict_object.proofs.table.read_texts.Goals as goal

pub returns-in_err-count : goal.returns-in_err-count
returns-in_err-count c =
    let p = err_from_is_err_and c.from_residual.result c.from_residual.ensures.1 in
    rw (p.1, p.2) (count_ends text_at c.in_err-count.field-0.0 c.args.bytes.now c.in_err-count.ensures)

pub loop-init : goal.loop-init
loop-init c = begins text_at (lent c.new-texts.result.items) c.in_ok-count.count c.args.bytes.now c.in_ok-count.first.now (ap lent c.new-texts.ensures.items) c.in_ok-count.ensures

pub returns-in_err-text : goal.returns-in_err-text
returns-in_err-text c =
    let p = err_from_is_err_and c.from_residual-in_err-text.result c.from_residual-in_err-text.ensures.1 in
    rw (p.1, p.2) (ends text_at c.in_err-text.field-0.0 (lent c.loop.texts.items) c.in_ok-count.count c.loop.counter c.loop.rest.now (counted_at text_at c.args.bytes.now) c.loop-test.true c.in_err-text.ensures c.loop.invariant)

pub loop-preserved : goal.loop-preserved
loop-preserved c =
    let e : lent c.push.new.self.items ≡ lent c.loop.texts.items ++ c.in_ok-text.text.now ∷ [] = rw c.in_ok-push.ensures.items (map_push _ c.loop.texts.items c.in_ok-text.text) in
    rw e (goes_on text_at (lent c.loop.texts.items) c.in_ok-count.count c.loop.counter c.loop.rest.now c.in_ok-text.text.now c.in_ok-text.after.now (counted_at text_at c.args.bytes.now) c.loop-test.true c.in_ok-text.ensures c.loop.invariant)

pub returns : goal.returns
returns c = is_done text_at (lent c.loop.texts.items) c.in_ok-count.count c.loop.counter c.loop.rest.now (counted_at text_at c.args.bytes.now) c.loop-test.false c.loop.invariant
