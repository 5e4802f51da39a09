-- One argument after the other.
use Rattle.pict_types.specs.Plain.{plain_args, plain_bounds}
use Rattle.pict_infer.specs.Environments.{environment_of}
use Rattle.pict_lines.proofs.Arguments.{argument_bound, argument_labels, argument_refused, arguments_so_far, no_argument, one_argument_more}
use Rattle.pict_lines.proofs.records.written_arguments.Goals as goal

pub loop-i-init : goal.loop-i-init
loop-i-init c = no_argument (environment_of c.args.env.now) c.args.span c.args.ts.now (plain_bounds c.args.bs.now) c.new-args.result.items c.new-args.ensures.items

pub written_argument-requires-clause-labels : goal.written_argument-requires-clause-labels
written_argument-requires-clause-labels c =
    argument_labels (environment_of c.args.env.now) c.args.span c.args.ts.now c.loop-i.i c.index-ts-i.result c.args.bs.now c.loop-i-test.true c.index-ts-i.is c.requires.right

pub written_argument-requires-clause-b : goal.written_argument-requires-clause-b
written_argument-requires-clause-b c =
    rw c.deref.ensures.value
    (argument_bound (environment_of c.args.env.now) c.args.span c.args.ts.now c.loop-i.i c.index-ts-i.result c.args.bs.now c.index-bs-i.result (plain_args c.loop-i.args.items) c.loop-i-test.true c.requires.count c.index-bs-i.is c.requires.right c.loop-i.invariant)

pub written_argument-requires-clause-earlier : goal.written_argument-requires-clause-earlier
written_argument-requires-clause-earlier c =
    rw c.deref.ensures.value
    (arguments_so_far (environment_of c.args.env.now) c.args.span c.args.ts.now c.loop-i.i c.index-ts-i.result c.args.bs.now (plain_args c.loop-i.args.items) c.loop-i-test.true c.requires.right c.loop-i.invariant)

pub returns-in-Err : goal.returns-in-Err
returns-in-Err c =
    argument_refused (environment_of c.args.env.now) c.args.span c.args.ts.now c.loop-i.i c.index-ts-i.result c.args.bs.now c.index-bs-i.result (plain_args c.loop-i.args.items) c.in-Err.e c.loop-i-test.true c.requires.count c.index-ts-i.is c.index-bs-i.is
    c.loop-i.invariant (rw c.deref.ensures.value at c.in-Err.ensures)

pub loop-i-preserved : goal.loop-i-preserved
loop-i-preserved c =
    one_argument_more (environment_of c.args.env.now) c.args.span c.args.ts.now c.loop-i.i c.index-ts-i.result c.args.bs.now c.index-bs-i.result c.loop-i.args.items c.push.new.self.items c.in-Ok.a c.loop-i-test.true c.requires.count c.index-ts-i.is c.index-bs-i.is
    c.in_ok-push-in-Ok.ensures.items c.loop-i.invariant (rw c.deref.ensures.value at c.in-Ok.ensures)
