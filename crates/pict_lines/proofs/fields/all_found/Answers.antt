-- One is missing, one more is found, and all are.
use Rattle.std.proofs.Common.{rules, sym, ◌∙◌, subst}
use Rattle.std.proofs.lemmas.List.{take_all}
use Rattle.pict_types.specs.declared.types.Arg.TheVariants.{Plain}
use Rattle.pict_types.specs.Plain.{plain_args}
use Rattle.pict_lines.proofs.Finding.{AreFound, found_given, found_next, missing_refused}
use Rattle.pict_lines.proofs.fields.all_found.Goals as goal

pub returns-in-None : goal.returns-in-None
returns-in-None c = λ bs.
    rw c.deref-x-items.ensures.value at (missing_refused bs c.deref-x-items.result.now c.loop-x.x-index c.x-item.result c.args.node c.loop-x-test.true (sym c.x-item.is ∙ c.in-None.is))

pub loop-x-preserved : goal.loop-x-preserved
loop-x-preserved c =
    found_next c.deref-x-items.result.now c.loop-x.x-index c.x-item.result c.in-Some.t (Plain c.in_ok-copy-in-Some.field-0) c.loop-x.args.items c.push.new.self.items
    c.loop-x-test.true c.x-item.is c.in-Some.is (search rules) c.in_ok-push-in-Some.ensures.items c.loop-x.invariant

pub returns : goal.returns
returns c = λ bs.
    rw c.deref-x-items.ensures.value at (found_given bs c.deref-x-items.result.now (plain_args c.loop-x.args.items) c.args.node
    (subst (λ z. AreFound z (plain_args c.loop-x.args.items)) (take_all c.loop-x.x-index c.deref-x-items.result.now c.loop-x-test.false) c.loop-x.invariant))
