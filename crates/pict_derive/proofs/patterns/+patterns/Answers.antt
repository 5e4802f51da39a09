-- The core patterns of the forms, one answer a form.
use Rattle.std.proofs.Common.{◌≡◌, ◌∙◌, ◌∷◌, [], ap, sym, arith, rules, map}
use Rattle.pict_syntax.specs.Trees.{no_labelled_pats}
use Rattle.pict_syntax.specs.PlainTrees.{labelled_pats_on}
use Rattle.pict_core.specs.Term as core
use Rattle.pict_core.specs.Plain.{plain_pat}
use Rattle.pict_core.specs.declared.pattern.CorePat.TheVariants as pattern
use Rattle.pict_derive.specs.declared.patterns.Opened.{Opened}
use Rattle.pict_translation.specs.Patterns.{labelled_opened, labelled_names_in, names_opened}
use Rattle.pict_derive.specs.Built.{numbers_of, opened_field}
use Rattle.pict_derive.proofs.PatternForms.{opened_is, bind_opened, any_opened, fold_opened, joined_is, none_opened, none_labelled, one_opened, one_labelled_opened, patterns_grow, names_grow, fields_grow, sorted_fields, sorted_patterns}
use Rattle.pict_derive.proofs.Surrounding.{plain_bind, plain_any}
use Rattle.pict_derive.proofs.patterns.+patterns.Goals as goal
use Rattle.std.proofs.lemmas.List.{take_all}

pub open-returns-in_ok-push-in-Bind : goal.open-returns-in_ok-push-in-Bind
open-returns-in_ok-push-in-Bind t c =
    let items : c.push.new.self.items ≡ c.in-Bind.id.name ∷ [] = search rules in
    let o : Opened = record { pattern = pattern.Bind; names = c.push.new.self } in
    opened_is o (record { pattern = core.Bind; names = c.in-Bind.id.name.0 ∷ [] }) plain_bind (ap numbers_of items) ∙ sym (bind_opened _ _ _ _ _ c.in-Bind.is)

pub open-returns-in-Any : goal.open-returns-in-Any
open-returns-in-Any t c =
    let o : Opened = record { pattern = pattern.Any; names = c.new.result } in
    opened_is o (record { pattern = core.Any; names = [] }) plain_any (ap numbers_of c.new.ensures.items) ∙ sym (any_opened _ _ _ _ c.in-Any.is)

pub open-returns-in_ok-joined-in-Fields : goal.open-returns-in_ok-joined-in-Fields
open-returns-in_ok-joined-in-Fields t c =
    let p = rw (c.deref-in-Fields.ensures.value, c.deref.ensures) at c.in_ok-positional-in-Fields.ensures in
    let l = rw (c.deref-in-Fields-3.ensures.value, c.deref-in-Fields-2.ensures) at c.in_ok-labelled-in-Fields.ensures in
    joined_is c.args.names.now c.args.tree.now _ _ c.in_ok-joined-in-Fields.field-0 c.in_ok-positional-in-Fields.positional.patterns.items c.in_ok-labelled-in-Fields.labelled.patterns.items _ _ c.in-Fields.is p.patterns p.names l.patterns l.names c.in_ok-joined-in-Fields.ensures.pattern c.in_ok-joined-in-Fields.ensures.names

pub open-returns-in_ok-open-in-Fold : goal.open-returns-in_ok-open-in-Fold
open-returns-in_ok-open-in-Fold t c = rw c.deref-in-Fold.ensures at c.in_ok-open-in-Fold.ensures ∙ sym (fold_opened _ _ _ _ _ c.in-Fold.is)

pub open_labelled-loop-tree-init : goal.open_labelled-loop-tree-init
open_labelled-loop-tree-init t c = ap (map opened_field) c.new-fields.ensures.items ∙ sym (none_labelled c.args.names.now)

pub open_labelled-loop-tree-preserved : goal.open_labelled-loop-tree-preserved
open_labelled-loop-tree-preserved t c =
    fields_grow c.loop-tree.fields.items c.push.new.self.items _ _ _ c.loop-tree.invariant c.in_ok-push.ensures.items (one_labelled_opened c.args.names.now c.args.trees.now c.loop-tree.tree-index c.tree-item.result c.in_ok-opened.opened (omega arith) c.tree-item.is c.in_ok-opened.ensures)

pub open_labelled-returns-clause-patterns : goal.open_labelled-returns-clause-patterns
open_labelled-returns-clause-patterns t c =
    sorted_patterns _ c.sort_labels.new.items.items _ c.in_ok-apart.ensures.patterns
    (sorted_fields c.args.names.now c.loop-tree.fields.items c.sort_labels.new.items.items _ c.in_ok-sort_labels.ensures.sorted (c.loop-tree.invariant ∙ ap (λ l. labelled_opened c.args.names.now (labelled_pats_on no_labelled_pats l)) (take_all c.loop-tree.tree-index c.args.trees.now (omega arith))))

pub open_labelled-returns-clause-names : goal.open_labelled-returns-clause-names
open_labelled-returns-clause-names t c =
    c.in_ok-apart.ensures.names
    ∙ ap labelled_names_in (sorted_fields c.args.names.now c.loop-tree.fields.items c.sort_labels.new.items.items _ c.in_ok-sort_labels.ensures.sorted (c.loop-tree.invariant ∙ ap (λ l. labelled_opened c.args.names.now (labelled_pats_on no_labelled_pats l)) (take_all c.loop-tree.tree-index c.args.trees.now (omega arith))))

pub open_positional-loop-tree-init : goal.open_positional-loop-tree-init
open_positional-loop-tree-init t c = record {
  patterns = ap (map plain_pat) c.new-patterns.ensures.items ∙ sym (ap (map (λ o. o.pattern)) (none_opened c.args.names.now));
  bound = ap numbers_of c.new-bound.ensures.items ∙ sym (ap names_opened (none_opened c.args.names.now));
}

pub open_positional-loop-tree-preserved : goal.open_positional-loop-tree-preserved
open_positional-loop-tree-preserved t c =
    let o = c.in_ok-opened.opened in
    let more = one_opened c.args.names.now c.args.trees.now c.loop-tree.tree-index c.tree-item.result o (omega arith) c.tree-item.is c.in_ok-opened.ensures in
    record {
      patterns = patterns_grow c.loop-tree.patterns.items c.push.new.self.items o _ _ c.loop-tree.invariant.patterns c.in_ok-push.ensures.items more;
      bound = names_grow c.loop-tree.bound.items c.extend_from_slice.new.self.items o _ _ c.loop-tree.invariant.bound (rw c.deref.ensures.value at c.in_ok-extend_from_slice.ensures.items) more;
    }
