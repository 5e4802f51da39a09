-- One type binder more is open against its field, or is refused.
use Rattle.std.proofs.Common.{◌≡◌, ◌+◌, ◌<◌, length, ◌∙◌, ap, arith}
use Rattle.pict_syntax.specs.PlainTrees.{binders_on}
use Rattle.pict_syntax.specs.Trees.{no_binders}
use Rattle.pict_types.specs.Entries.{variables}
use Rattle.pict_types.specs.Plain.{plain_bound, plain_bounds}
use Rattle.pict_types.specs.PlainContext.{names_of, plain_context, type_context}
use Rattle.std.proofs.Common.{take}
use Rattle.pict_rules.specs.Rules.{binders_against}
use Rattle.pict_rules.specs.Typing.{rule}
use Rattle.pict_infer.specs.Places.{environment_in}
use Rattle.pict_infer.proofs.Handed.{opens_err}
use Rattle.pict_infer.proofs.OpenedBinders.{against_fits, against_refused, labels_of_binder, none_against, one_against}
use Rattle.pict_infer.proofs.binders.open_against.Goals as goal

pub loop-i-init : goal.loop-i-init
loop-i-init c = record {
  so_far = none_against (names_of c.args.c.now) (plain_context c.args.c.now) c.args.bs.now (plain_bounds c.args.fields.now) c.args.fields.now;
  grows = omega arith;
}

pub binder_against-requires : goal.binder_against-requires
binder_against-requires c = record { labels = labels_of_binder c.args.bs.now c.loop-i.i c.index-bs-i.result c.loop-i-test.true c.index-bs-i.is c.requires.right.labels }

pub returns-in_err-binder_against-clause-answer : goal.returns-in_err-binder_against-clause-answer
returns-in_err-binder_against-clause-answer c =
    let e = environment_in c.args.c.now in
    let d = environment_in c.loop-i.c in
    let fs = c.args.fields.now in
    let err = c.in_err-binder_against.field-0.0 in
    let k : c.loop-i.i < length fs = omega (arith, c.loop-i-test.true, c.requires.count) in
    opens_err e d (rule e (binders_against (binders_on no_binders c.args.bs.now) (plain_bounds fs))) (λ (v : Unit {0}). plain_bounds fs) c.from_residual.result err c.from_residual.ensures.1
    (against_refused e d c.args.bs.now fs c.loop-i.i c.index-bs-i.result c.index-fields-i.result (plain_bounds (take c.loop-i.i fs)) err c.loop-i-test.true c.index-bs-i.is k c.index-fields-i.is c.loop-i.invariant.so_far c.in_err-binder_against.ensures)

pub push-requires : goal.push-requires
push-requires c =
    let fs = c.args.fields.now in
    let k : c.loop-i.i < length fs = omega (arith, c.loop-i-test.true, c.requires.count) in
    record {
      formed = against_fits (names_of c.args.c.now) (names_of c.loop-i.c) (plain_context c.args.c.now) (plain_context c.loop-i.c) c.args.bs.now fs c.loop-i.i c.index-bs-i.result c.index-fields-i.result (plain_bound c.in_ok-copy.field-0)
          c.loop-i-test.true c.index-bs-i.is k c.index-fields-i.is c.requires.right c.loop-i.invariant.so_far c.in_ok-binder_against.ensures c.in_ok-copy.ensures.same;
    }

pub loop-i-preserved : goal.loop-i-preserved
loop-i-preserved c =
    let fs = c.args.fields.now in
    let k : c.loop-i.i < length fs = omega (arith, c.loop-i-test.true, c.requires.count) in
    let pushed = c.in_ok-push.ensures.pushed in
    let count : length (type_context c.push.new.self) ≡ 1 + length (type_context c.loop-i.c) = ap (λ z. length (variables z)) pushed ∙ omega arith in
    record {
      so_far =
          one_against (names_of c.args.c.now) (names_of c.loop-i.c) (names_of c.push.new.self) (plain_context c.args.c.now) (plain_context c.loop-i.c) (plain_context c.push.new.self) c.args.bs.now fs c.loop-i.i c.index-bs-i.result
          c.index-fields-i.result (plain_bound c.in_ok-copy.field-0) c.loop-i-test.true c.index-bs-i.is k c.index-fields-i.is c.loop-i.invariant.so_far c.in_ok-binder_against.ensures c.in_ok-copy.ensures.same c.push.ensures.names pushed;
      grows = omega (arith, count);
    }
