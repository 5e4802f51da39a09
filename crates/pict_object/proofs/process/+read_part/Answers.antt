use Rattle.std.proofs.Common.{◌≡◌, ◌<◌, ◌-◌, ◌∙◌, length, take, drop, get_or, ap, subst, arith}
use Rattle.std.proofs.lemmas.Result.{err_from_is_err_and}
use Rattle.pict_core.specs.Closed.{binds}
use Rattle.pict_core.specs.Plain.{plain_val, plain_pat}
use Rattle.pict_object.specs.declared.process.Receiver.{Receiver}
use Rattle.pict_object.specs.Reading.{GivesReading, part_and, more, process_at, tagged_at}
use Rattle.pict_object.proofs.Forms.{no_bytes, some_bytes, process_empty, process_is_tagged, receiver_ends, receiver_goes_on}
use Rattle.pict_object.proofs.process.+read_part.Goals as goal

pub read_part-returns-in-empty : goal.read_part-returns-in-empty
read_part-returns-in-empty t c =
    ap (process_at c.args.labels.now c.args.left c.args.bound) (no_bytes c.args.rest.now.now c.in-empty.len_below) ∙ process_empty c.args.labels.now c.args.left c.args.bound

pub read_part-returns-in-len1-up : goal.read_part-returns-in-len1-up
read_part-returns-in-len1-up t c =
    let labels = c.args.labels.now in
    let bytes = c.args.rest.now.now in
    let rest = take (length bytes - 1) (drop 1 bytes) in
    let some : 0 < c.args.left = omega (arith, c.if-left-eq0.false) in
    let is : process_at labels c.args.left c.args.bound bytes ≡ tagged_at labels (process_at labels (c.args.left - 1)) c.args.bound (get_or bytes 0 0) rest =
    ap (process_at labels c.args.left c.args.bound) (some_bytes bytes c.in-len1-up.len_at_least) ∙ process_is_tagged labels c.args.left c.args.bound (get_or bytes 0 0) rest some in
    rw is c.read_tagged.ensures

pub read_in-returns-in_err-receiver : goal.read_in-returns-in_err-receiver
read_in-returns-in_err-receiver t c =
    let p = err_from_is_err_and c.from_residual.result c.from_residual.ensures.1 in
    rw (p.1, p.2)
    (receiver_ends c.args.labels.now c.args.replicated (process_at c.args.labels.now c.args.left) c.args.bound c.args.rest.now.now c.in_err-receiver.field-0.0 c.in_err-receiver.ensures)

pub read_in-returns : goal.read_in-returns
read_in-returns t c =
    let part = process_at c.args.labels.now c.args.left in
    let receiver = c.in_ok-receiver.receiver.value in
    let inner : c.inside-inner.result ≡ more c.args.bound (binds (plain_pat receiver.pattern)) = c.inside-inner.ensures ∙ ap (λ (r : Receiver). more c.args.bound (binds (plain_pat r.pattern))) c.deref.ensures in
    subst (GivesReading (part_and c.read_part-body.new.rest.now) c.input.result)
    (receiver_goes_on c.args.labels.now c.args.replicated part c.args.bound c.args.rest.now.now (plain_val receiver.chan) (plain_pat receiver.pattern) c.take_receiver.new.rest.now c.inside-inner.result
    c.in_ok-receiver.ensures inner)
    (c.input.ensures (part c.inside-inner.result c.take_receiver.new.rest.now) c.read_part-body.new.rest.now c.read_part-body.ensures)
