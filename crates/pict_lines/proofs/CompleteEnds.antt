-- Complete patterns, one lemma for each way that a body ends.
use Rattle.std.proofs.Common.{◌≡◌, ℕ, ◌+◌, ◌<◌, Bool, ◌&&◌, is_some, Box, Global, List, [], ◌∷◌, length, get_or, take, Option, Some, None, refl, sym, ◌∙◌, ap, ap₂}
use Rattle.pict_syntax.specs.declared.id.Id.{Id}
use Rattle.pict_syntax.specs.declared.pattern.FieldPats.{FieldPats as RFieldPats}
use Rattle.pict_syntax.specs.declared.pattern.LabelledPat.{LabelledPat as RLabelledPat}
use Rattle.pict_syntax.specs.declared.pattern.Pat.{Pat as RPat, Bind, Any, Fold}
use Rattle.pict_syntax.specs.declared.span.Span.{Span}
use Rattle.pict_syntax.specs.declared.type_tree.RType.{RType as RRType}
use Rattle.pict_syntax.specs.declared.type_tree.TypeTree.{TypeTree as RTypeTree}
use Rattle.pict_syntax.specs.declared.type_tree.TypeBinder.{TypeBinder as RTypeBinder}
use Rattle.std.specs.Option.{option_map}
use Rattle.pict_syntax.specs.PlainTrees.{annotation_of, binder_of, binders_on, field_pats_of, held_annotation, kind_of, labelled_pats_on, pat_of, pats_on}
use Rattle.pict_syntax.specs.Trees.{Pat, bound, field_pats, no_binders, no_labelled_pats, no_pats}
use Rattle.pict_types.specs.Entries.{PlainContext, PlainEntry, Variable}
use Rattle.pict_types.specs.Types.{Free, PlainBound}
use Rattle.pict_normal.specs.BinderEntries.{entries_under}
use Rattle.pict_normal.specs.Normal.{kind_bound}
use Rattle.pict_rules.specs.Complete.{are_bounded, are_complete, are_fields_complete, are_labels_complete, has_kind_or_bound, is_complete}
use Rattle.pict_rules.specs.Environments.{Environment, extended, only_types}
use Rattle.pict_infer.specs.declared.env.Env.{Env}
use Rattle.pict_infer.specs.Environments.{environment_of, known_entries, known_names, IsAsBefore}
use Rattle.pict_infer.proofs.Forms.{any_is, bind_is, fold_is, next_binder, next_labelled, next_pat}

-- A WRITTEN BOUND

-- TYPE BINDERS

pub binder_bounded : (ns : List (List ℕ)) (c : PlainContext) (xs : List RTypeBinder) (i : ℕ) (b : RTypeBinder) (so_far one all : Bool) → i < length xs → b ≡ get_or xs i b → so_far ≡ are_bounded ns c (binders_on no_binders (take i xs))
    → one ≡ has_kind_or_bound ns (entries_under c (binders_on no_binders (take i xs))) (binder_of b) → all ≡ (so_far && one) → all ≡ are_bounded ns c (binders_on no_binders (take (i + 1) xs))
binder_bounded ns c xs i b so_far one all h is p q k = k ∙ ap₂ (λ x y. x && y) p q ∙ ap (are_bounded ns c) (sym (next_binder xs i b h is))

pub binder_opened : (e d : Env) (c : PlainContext) (xs : List RTypeBinder) (i : ℕ) (b : RTypeBinder) (w : PlainBound) → i < length xs → b ≡ get_or xs i b → known_entries e ≡ entries_under c (binders_on no_binders (take i xs))
    → environment_of d ≡ extended (environment_of e) (only_types (record { name = b.id.name.0; bound = w } ∷ [])) → w ≡ kind_bound (option_map kind_of b.kind) Free → known_entries d ≡ entries_under c (binders_on no_binders (take (i + 1) xs))
binder_opened e d c xs i b w h is p k q =
    ap (λ (z : Environment). z.context) k ∙ ap₂ (λ (v : PlainBound) (es : PlainContext). let x : PlainEntry = record { name = b.id.name.0; what = Variable v } in x ∷ es) q p
    ∙ ap (entries_under c) (sym (next_binder xs i b h is))

-- PATTERNS

-- what is complete stays so where as much is known
pub complete_still : (old new : Env) (p : Pat) → IsAsBefore old new → is_complete (known_names new) (known_entries new) p ≡ is_complete (known_names old) (known_entries old) p
complete_still old new p h = ap (λ (e : Environment). is_complete e.names e.context p) h.known

-- an annotation is there
annotated : (r : RRType) → is_some r.of ≡ is_some (annotation_of r)
annotated r = go r.of
  where
    go : (o : Option (Box RTypeTree Global)) → is_some o ≡ is_some (held_annotation o)
    go None = refl
    go (Some t) = refl

pub bind_complete : (ns : List (List ℕ)) (c : PlainContext) (p : RPat) (s : Span) (x : Id) (r : RRType) (b : Bool) → p ≡ Bind s x r → b ≡ is_some r.of → b ≡ is_complete ns c (pat_of p)
bind_complete ns c p s x r b is h = h ∙ annotated r ∙ ap (is_complete ns c) (sym (bind_is p s x r is))

pub any_complete : (ns : List (List ℕ)) (c : PlainContext) (p : RPat) (s : Span) (r : RRType) (b : Bool) → p ≡ Any s r → b ≡ is_some r.of → b ≡ is_complete ns c (pat_of p)
any_complete ns c p s r b is h = h ∙ annotated r ∙ ap (is_complete ns c) (sym (any_is p s r is))

pub fold_complete : (ns : List (List ℕ)) (c : PlainContext) (p : RPat) (s : Span) (r : RRType) (q : Box RPat Global) (inside : RPat) (some inner all : Bool) → p ≡ Fold s r q → inside ≡ q.value → some ≡ is_some r.of → inner ≡ is_complete ns c (pat_of inside)
    → all ≡ (some && inner) → all ≡ is_complete ns c (pat_of p)
fold_complete ns c p s r q inside some inner all is v h k w =
    w ∙ ap₂ (λ x y. x && y) (h ∙ annotated r) (k ∙ ap (λ z. is_complete ns c (pat_of z)) v) ∙ ap (is_complete ns c) (sym (fold_is p s r q is))

-- the fields of a record pattern, the parts under its own type binders
pub fields_complete : (old opened mid : Env) (f : RFieldPats) (xs : List RTypeBinder) (ys : List RPat) (zs : List RLabelledPat) (b p l all : Bool)
    → field_pats_of f ≡ field_pats (binders_on no_binders xs) (pats_on no_pats ys) (labelled_pats_on no_labelled_pats zs) → b ≡ are_bounded (known_names old) (known_entries old) (binders_on no_binders xs)
    → known_names opened ≡ known_names old → known_entries opened ≡ entries_under (known_entries old) (binders_on no_binders xs) → IsAsBefore opened mid → p ≡ are_complete (known_names opened) (known_entries opened) (pats_on no_pats ys)
    → l ≡ are_labels_complete (known_names mid) (known_entries mid) (labelled_pats_on no_labelled_pats zs) → all ≡ (b && (p && l)) → all ≡ are_fields_complete (known_names old) (known_entries old) (field_pats_of f)
fields_complete old opened mid f xs ys zs b p l all is hb n e h hp hl k =
    let ps = hp ∙ ap₂ (λ ns es. are_complete ns es (pats_on no_pats ys)) n e in
    let ls = hl ∙ ap (λ (d : Environment). are_labels_complete d.names d.context (labelled_pats_on no_labelled_pats zs)) h.known ∙ ap₂ (λ ns es. are_labels_complete ns es (labelled_pats_on no_labelled_pats zs)) n e in
    k ∙ ap₂ (λ x y. x && y) hb (ap₂ (λ x y. x && y) ps ls) ∙ ap (are_fields_complete (known_names old) (known_entries old)) (sym is)

pub pattern_complete : (ns : List (List ℕ)) (c : PlainContext) (xs : List RPat) (i : ℕ) (p : RPat) (so_far one all : Bool) → i < length xs → p ≡ get_or xs i p → so_far ≡ are_complete ns c (pats_on no_pats (take i xs))
    → one ≡ is_complete ns c (pat_of p) → all ≡ (so_far && one) → all ≡ are_complete ns c (pats_on no_pats (take (i + 1) xs))
pattern_complete ns c xs i p so_far one all h is q r k = k ∙ ap₂ (λ x y. x && y) q r ∙ ap (are_complete ns c) (sym (next_pat xs i p h is))

pub label_complete : (ns : List (List ℕ)) (c : PlainContext) (xs : List RLabelledPat) (i : ℕ) (l : RLabelledPat) (so_far one all : Bool) → i < length xs → l ≡ get_or xs i l → so_far ≡ are_labels_complete ns c (labelled_pats_on no_labelled_pats (take i xs))
    → one ≡ is_complete ns c (pat_of l.pat) → all ≡ (so_far && one) → all ≡ are_labels_complete ns c (labelled_pats_on no_labelled_pats (take (i + 1) xs))
label_complete ns c xs i l so_far one all h is q r k = k ∙ ap₂ (λ x y. x && y) q r ∙ ap (are_labels_complete ns c) (sym (next_labelled xs i l h is))
