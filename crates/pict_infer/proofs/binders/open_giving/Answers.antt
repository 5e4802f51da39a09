-- One type binder more is open, or is refused.
use Rattle.std.proofs.Common.{◌≡◌, ◌+◌, length, ◌∙◌, ap, arith, Global}
use Rattle.std.specs.Prelude.{Vec}
use Rattle.std.specs.Option.{option_map}
use Rattle.pict_syntax.specs.PlainTrees.{binders_on, held_bound, kind_of}
use Rattle.pict_syntax.specs.Trees.{no_binders}
use Rattle.pict_types.specs.declared.types.Bound.{Bound}
use Rattle.pict_types.specs.Entries.{variables}
use Rattle.pict_types.specs.Plain.{plain_bound, plain_bounds}
use Rattle.pict_types.specs.PlainContext.{names_of, plain_context, type_context}
use Rattle.pict_normal.specs.Normal.{and_bound, kind_bound}
use Rattle.pict_normal.proofs.Trees.{bounds_and}
use Rattle.pict_rules.specs.Rules.{binders_give}
use Rattle.pict_rules.specs.Typing.{rule}
use Rattle.pict_infer.specs.Opening.{bound_or_free}
use Rattle.pict_infer.specs.Places.{environment_in}
use Rattle.pict_infer.proofs.BinderLines.{bound_is_normal}
use Rattle.pict_infer.proofs.Handed.{opens_err}
use Rattle.pict_infer.proofs.OpenedBinders.{labels_of_binder, none_opened, one_fits, one_opened, opening_refused}
use Rattle.pict_infer.proofs.binders.open_giving.Goals as goal

pub loop-b-init : goal.loop-b-init
loop-b-init c = record {
  so_far = none_opened (names_of c.args.c.now) (plain_context c.args.c.now) c.args.bs.now (plain_bounds c.new-bounds.result.items) (ap plain_bounds c.new-bounds.ensures.items);
  grows = omega arith;
}

pub written_bound-requires : goal.written_bound-requires
written_bound-requires c = record { labels = labels_of_binder c.args.bs.now c.loop-b.b-index c.b-item.result c.loop-b-test.true c.b-item.is c.requires.right.labels }

pub returns-in_err-written-clause-answer : goal.returns-in_err-written-clause-answer
returns-in_err-written-clause-answer c =
    let e = environment_in c.args.c.now in
    let d = environment_in c.loop-b.c in
    let err = c.in_err-written.field-0.0 in
    opens_err e d (rule e (binders_give (binders_on no_binders c.args.bs.now))) (λ (v : Vec Bound Global). plain_bounds v.items) c.from_residual.result err c.from_residual.ensures.1
    (opening_refused e d c.args.bs.now c.loop-b.b-index c.b-item.result (plain_bounds c.loop-b.bounds.items) err c.loop-b-test.true c.b-item.is c.loop-b.invariant.so_far c.in_err-written.ensures.refused)

pub push-requires-in-loop-b : goal.push-requires-in-loop-b
push-requires-in-loop-b c =
    let d = environment_in c.loop-b.c in
    let b = c.b-item.result in
    let is = c.in_ok-bound.ensures ∙ ap (λ w. kind_bound (option_map kind_of b.kind) (bound_or_free w)) c.in_ok-written.ensures.bound ∙ ap (kind_bound (option_map kind_of b.kind)) (bound_is_normal d (held_bound b.bound)) in
    record {
      formed = one_fits (names_of c.args.c.now) (names_of c.loop-b.c) (plain_context c.args.c.now) (plain_context c.loop-b.c) c.args.bs.now c.loop-b.b-index b (plain_bounds c.loop-b.bounds.items) (plain_bound c.in_ok-bound.bound)
          c.loop-b-test.true c.b-item.is c.requires.right c.loop-b.invariant.so_far c.in_ok-written.ensures.clear is;
    }

pub loop-b-preserved : goal.loop-b-preserved
loop-b-preserved c =
    let d = environment_in c.loop-b.c in
    let b = c.b-item.result in
    let x = plain_bounds c.loop-b.bounds.items in
    let is = c.in_ok-bound.ensures ∙ ap (λ w. kind_bound (option_map kind_of b.kind) (bound_or_free w)) c.in_ok-written.ensures.bound ∙ ap (kind_bound (option_map kind_of b.kind)) (bound_is_normal d (held_bound b.bound)) in
    let more = ap plain_bounds c.in_ok-push.ensures.items ∙ bounds_and c.loop-b.bounds.items c.in_ok-copy.field-0 ∙ ap (and_bound x) c.in_ok-copy.ensures.same in
    let pushed = c.in_ok-push-2.ensures.pushed in
    let count : length (type_context c.push-in-loop-b.new.self) ≡ 1 + length (type_context c.loop-b.c) = ap (λ z. length (variables z)) pushed ∙ omega arith in
    record {
      so_far =
          one_opened (names_of c.args.c.now) (names_of c.loop-b.c) (names_of c.push-in-loop-b.new.self) (plain_context c.args.c.now) (plain_context c.loop-b.c) (plain_context c.push-in-loop-b.new.self) c.args.bs.now c.loop-b.b-index b
          x (plain_bounds c.push.new.self.items) (plain_bound c.in_ok-bound.bound)
          c.loop-b-test.true c.b-item.is c.loop-b.invariant.so_far c.in_ok-written.ensures.clear is c.push-in-loop-b.ensures.names pushed more;
      grows = omega (arith, count);
    }
