use Rattle.std.proofs.Common.{◌≡◌, ◌++◌, Some, ap, ◌∙◌, subst}
use Rattle.pict_core.specs.Plain.{plain_core}
use Rattle.pict_object.specs.Objects.{labels_of}
use Rattle.pict_object.specs.Collected.{numbers}
use Rattle.pict_object.specs.Heads.{UsesAll}
use Rattle.pict_object.specs.Reading.{whole_at}
use Rattle.pict_object.proofs.decoding.check.Goals as goal

pub returns-then-branch-clause-ok : goal.returns-then-branch-clause-ok
returns-then-branch-clause-ok c =
    let p = plain_core c.in_ok-core.core in
    record {
      process = p;
      is = subst (λ ls. whole_at ls c.args.bytes.now ≡ Some p) (c.deref.ensures.value ∙ c.in_ok-labels.ensures) c.in_ok-core.ensures;
      all = subst (UsesAll c.args.many) (ap numbers c.deref-2.ensures.value ∙ c.in_ok-collect.ensures ∙ ap (λ xs. numbers xs ++ labels_of p) c.new-used.ensures.items) (c.in_ok-uses_all.ensures.yes c.if-branch.true);
    }
