use Rattle.std.proofs.Common.{◌≡◌, ◌+◌, ◌≤◌, ◌++◌, [], OnErr, Result, Ok, Err, sym, ap, ◌∙◌, subst, arith}
use Rattle.std.specs.Io.KnownBytes.{Appends}
use Rattle.pict_outside.specs.Bytes.{AppendsFront, IsFrontOf}
use Rattle.pict_outside.proofs.Gaining.{appends_then}
use Rattle.pict_code.specs.Plain.{plain_code, plain_node}
use Rattle.pict_code.specs.Listing.{line_text, listing_text}
use Rattle.pict_code.proofs.Lines.{first_lines, next_lent, first_is_front, torn_line, on_err}
use Rattle.pict_code.proofs.writing.listing.Goals as goal

pub returns-in_err-line-clause-part : goal.returns-in_err-line-clause-part
returns-in_err-line-clause-part g c =
    on_err c.from_residual.result (record {
      front = first_lines c.args.names.now c.args.code.now.nodes.items c.loop-number.number;
      of_whole = first_is_front c.args.names.now c.args.code.now.nodes.items c.loop-number.number;
      appended = c.loop-number.invariant.0;
    })

pub returns-in_err-write-clause-part : goal.returns-in_err-write-clause-part
returns-in_err-write-clause-part g c =
    let names = c.args.names.now in
    let nodes = c.args.code.now.nodes.items in
    let i = c.loop-number.number in
    on_err c.from_residual-in_err-write.result
    (torn_line (g.O.Sink.taken c.args.out.now) (g.O.Sink.taken c.loop-number.out) (g.O.Sink.taken c.write.new.self)
    (first_lines names nodes i) (line_text names i (plain_node c.node-item.result)) (listing_text names (plain_code c.args.code.now))
    c.loop-number.invariant.0
    (subst (AppendsFront (g.O.Sink.taken c.loop-number.out) (g.O.Sink.taken c.write.new.self)) (c.deref.ensures.value ∙ c.in_ok-line.ensures) c.in_err-write.ensures.part)
    (subst (λ t. IsFrontOf t (listing_text names (plain_code c.args.code.now))) (next_lent names nodes c.deref-node-items.result.now i c.node-item.result c.deref-node-items.ensures.value c.loop-number-test.true c.node-item.is) (first_is_front names nodes (i + 1))))

pub loop-number-preserved : goal.loop-number-preserved
loop-number-preserved g c =
    let names = c.args.names.now in
    let nodes = c.args.code.now.nodes.items in
    let i = c.loop-number.number in (
      subst (Appends (g.O.Sink.taken c.args.out.now) (g.O.Sink.taken c.write.new.self)) (sym (next_lent names nodes c.deref-node-items.result.now i c.node-item.result c.deref-node-items.ensures.value c.loop-number-test.true c.node-item.is))
          (appends_then (g.O.Sink.taken c.args.out.now) (g.O.Sink.taken c.loop-number.out) (g.O.Sink.taken c.write.new.self)
          (first_lines names nodes i) (line_text names i (plain_node c.node-item.result)) c.loop-number.invariant.0
          (subst (Appends (g.O.Sink.taken c.loop-number.out) (g.O.Sink.taken c.write.new.self)) (c.deref.ensures.value ∙ c.in_ok-line.ensures) c.in_ok-write.ensures.all)),
      omega (arith, c.write.ensures.faults_stay, c.loop-number.invariant.1),
    )
