-- A bound that is written is expanded, or refused.
use Rattle.std.proofs.Common.{rules, ◌≡◌, None, Some, ◌∙◌, ap, subst, sym}
use Rattle.pict_syntax.specs.declared.type_tree.KindTree.TheVariants.{Plain}
use Rattle.std.specs.Option.{option_map}
use Rattle.pict_syntax.specs.PlainTrees.{binder_of, held_bound, kind_of, type_of}
use Rattle.pict_syntax.specs.Trees.{bound, plain_kind}
use Rattle.pict_types.specs.Plain.{plain}
use Rattle.pict_normal.specs.Normal.{kind_stop, normal}
use Rattle.pict_normal.proofs.RawSteps.{passed_up}
use Rattle.pict_rules.specs.Clauses.{stop_of_binder}
use Rattle.pict_infer.specs.Answering.{IsStopped}
use Rattle.pict_infer.specs.Opening.{expanded_bound}
use Rattle.pict_infer.specs.Places.{environment_in}
use Rattle.pict_infer.proofs.BinderLines.{stop_read}
use Rattle.pict_infer.proofs.Forming.{expanded_is, refused_is}
use Rattle.pict_infer.proofs.binders.written_bound.Goals as goal

pub returns-in_err-expanded-in-Some-Plain-clause-refused : goal.returns-in_err-expanded-in-Some-Plain-clause-refused
returns-in_err-expanded-in-Some-Plain-clause-refused c =
    let e = environment_in c.args.c.now in
    let b = c.args.b.now in
    let t = type_of c.deref-in-Some-Plain.result.now in
    let err = c.in_err-expanded-in-Some-Plain.field-0.0 in
    let kind : b.kind ≡ Some Plain = search rules in
    let plainly : option_map kind_of b.kind ≡ Some plain_kind = ap (option_map kind_of) kind in
    let is = stop_read e b (Some plain_kind) (bound t) plainly (ap held_bound c.in-Some.is ∙ ap (λ u. bound (type_of u)) (sym c.deref-in-Some-Plain.ensures)) in
    passed_up c.from_residual-in_err-expanded-in-Some-Plain.result err (λ x. IsStopped (stop_of_binder e (binder_of b)) x) c.from_residual-in_err-expanded-in-Some-Plain.ensures.1
    (subst (λ o. IsStopped o err) (sym is) (refused_is (kind_stop e.names e.context t) (normal e.names e.context t) err c.in_err-expanded-in-Some-Plain.ensures.answer))

pub returns-in_err-expanded-in-None-clause-refused : goal.returns-in_err-expanded-in-None-clause-refused
returns-in_err-expanded-in-None-clause-refused c =
    let e = environment_in c.args.c.now in
    let b = c.args.b.now in
    let t = type_of c.deref-in-None.result.now in
    let err = c.in_err-expanded-in-None.field-0.0 in
    let is = stop_read e b None (bound t) (ap (option_map kind_of) c.in-None.is) (ap held_bound c.in-Some.is ∙ ap (λ u. bound (type_of u)) (sym c.deref-in-None.ensures)) in
    passed_up c.from_residual-in_err-expanded-in-None.result err (λ x. IsStopped (stop_of_binder e (binder_of b)) x) c.from_residual-in_err-expanded-in-None.ensures.1
    (subst (λ o. IsStopped o err) (sym is) (refused_is (kind_stop e.names e.context t) (normal e.names e.context t) err c.in_err-expanded-in-None.ensures.answer))

pub returns-in_ok-expanded-in-Some-Plain-clause-clear : goal.returns-in_ok-expanded-in-Some-Plain-clause-clear
returns-in_ok-expanded-in-Some-Plain-clause-clear c =
    let e = environment_in c.args.c.now in
    let b = c.args.b.now in
    let t = type_of c.deref-in-Some-Plain.result.now in
    let kind : b.kind ≡ Some Plain = search rules in
    let plainly : option_map kind_of b.kind ≡ Some plain_kind = ap (option_map kind_of) kind in
    let is = stop_read e b (Some plain_kind) (bound t) plainly (ap held_bound c.in-Some.is ∙ ap (λ u. bound (type_of u)) (sym c.deref-in-Some-Plain.ensures)) in
    is ∙ (expanded_is (kind_stop e.names e.context t) (normal e.names e.context t) (plain c.in_ok-expanded-in-Some-Plain.field-0) c.in_ok-expanded-in-Some-Plain.ensures.answer).0

pub returns-in_ok-expanded-in-Some-Plain-clause-bound : goal.returns-in_ok-expanded-in-Some-Plain-clause-bound
returns-in_ok-expanded-in-Some-Plain-clause-bound c =
    let e = environment_in c.args.c.now in
    let t = type_of c.deref-in-Some-Plain.result.now in
    ap Some (expanded_is (kind_stop e.names e.context t) (normal e.names e.context t) (plain c.in_ok-expanded-in-Some-Plain.field-0) c.in_ok-expanded-in-Some-Plain.ensures.answer).1
    ∙ sym (ap (expanded_bound e) (ap held_bound c.in-Some.is ∙ ap (λ u. bound (type_of u)) (sym c.deref-in-Some-Plain.ensures)))

pub returns-in_ok-expanded-in-None-clause-clear : goal.returns-in_ok-expanded-in-None-clause-clear
returns-in_ok-expanded-in-None-clause-clear c =
    let e = environment_in c.args.c.now in
    let b = c.args.b.now in
    let t = type_of c.deref-in-None.result.now in
    let is = stop_read e b None (bound t) (ap (option_map kind_of) c.in-None.is) (ap held_bound c.in-Some.is ∙ ap (λ u. bound (type_of u)) (sym c.deref-in-None.ensures)) in
    is ∙ (expanded_is (kind_stop e.names e.context t) (normal e.names e.context t) (plain c.in_ok-expanded-in-None.field-0) c.in_ok-expanded-in-None.ensures.answer).0

pub returns-in_ok-expanded-in-None-clause-bound : goal.returns-in_ok-expanded-in-None-clause-bound
returns-in_ok-expanded-in-None-clause-bound c =
    let e = environment_in c.args.c.now in
    let t = type_of c.deref-in-None.result.now in
    ap Some (expanded_is (kind_stop e.names e.context t) (normal e.names e.context t) (plain c.in_ok-expanded-in-None.field-0) c.in_ok-expanded-in-None.ensures.answer).1
    ∙ sym (ap (expanded_bound e) (ap held_bound c.in-Some.is ∙ ap (λ u. bound (type_of u)) (sym c.deref-in-None.ensures)))
