-- One type binder more is open.
use Rattle.std.proofs.Common.{[], refl, sym, ◌∙◌, ap, ap₂}
use Rattle.pict_syntax.specs.PlainTrees.{binder_of}
use Rattle.pict_syntax.specs.Trees.{no_binders}
use Rattle.pict_syntax.proofs.TypeLists.{binders_none}
use Rattle.pict_types.specs.Plain.{plain_bound}
use Rattle.pict_normal.specs.BinderEntries.{entries_under}
use Rattle.pict_rules.specs.Complete.{are_bounded, has_kind_or_bound}
use Rattle.pict_infer.specs.Environments.{known_entries, known_names}
use Rattle.pict_infer.proofs.Growing.{grew_types}
use Rattle.pict_infer.proofs.MadeKnown.{grew_twice}
use Rattle.pict_infer.proofs.OpenedBinders.{labels_of_binder}
use Rattle.pict_lines.proofs.CompleteEnds.{binder_bounded, binder_opened}
use Rattle.pict_lines.proofs.complete.open_bounded.Goals as goal

pub loop-b-init : goal.loop-b-init
loop-b-init c =
    let e = c.args.env.now in
    record {
      so_far = ap (are_bounded (known_names e) (known_entries e)) (sym (binders_none no_binders));
      entries = ap (entries_under (known_entries e)) (sym (binders_none no_binders));
      grew = grew_types e e [] refl refl refl;
    }

pub has_kind_or_bound-requires : goal.has_kind_or_bound-requires
has_kind_or_bound-requires c = record { labels = labels_of_binder c.args.bs.now c.loop-b.b-index c.b-item.result c.loop-b-test.true c.b-item.is c.requires.labels }

pub loop-b-preserved : goal.loop-b-preserved
loop-b-preserved c =
    let e = c.args.env.now in
    let d = c.loop-b.env in
    let b = c.b-item.result in
    let one = c.in_ok-one.ensures ∙ ap₂ (λ ns es. has_kind_or_bound ns es (binder_of b)) c.loop-b.invariant.grew.texts c.loop-b.invariant.entries in
    record {
      so_far = binder_bounded (known_names e) (known_entries e) c.args.bs.now c.loop-b.b-index b c.loop-b.bounded c.in_ok-one.one c.both-bounded.result c.loop-b-test.true c.b-item.is c.loop-b.invariant.so_far one c.both-bounded.ensures;
      entries =
          binder_opened d c.push_type.new.self (known_entries e) c.args.bs.now c.loop-b.b-index b (plain_bound c.in_ok-bound.bound) c.loop-b-test.true c.b-item.is c.loop-b.invariant.entries c.in_ok-push_type.ensures.known
          c.in_ok-bound.ensures;
      grew = grew_twice e d c.push_type.new.self c.loop-b.invariant.grew c.in_ok-push_type.ensures.grew;
    }
