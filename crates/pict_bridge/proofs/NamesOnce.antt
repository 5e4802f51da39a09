-- Where no rule of scopes fails, a pattern binds each name once, in whichever order its names are taken.
use Rattle.std.proofs.Common.{◌≡◌, ◌≤◌, ℕ, ◌+◌, Bool, true, false, List, [], ◌∷◌, ◌++◌, Option, Some, None, refl, sym, ◌∙◌, ap, subst, arith, nat_eq, eqb-true, inl, append-nil}
use Rattle.std.specs.Prelude.{if◌then◌else◌}
use Rattle.std.specs.Ordering.{is_lt}
use Rattle.std.proofs.lemmas.Bool.{eq-eqb}
use Rattle.pict_syntax.specs.declared.code.Code.TheVariants.{S3}
use Rattle.pict_syntax.specs.declared.id.Id.{Id}
use Rattle.pict_syntax.specs.Labels.{label_cmp, with_label, in_label_order}
use Rattle.pict_syntax.specs.Trees.{RType, Pat, bind_pat, any_pat, fields_pat, fold_pat, FieldPats, field_pats, Pats, no_pats, more_pats, LabelledPats, no_labelled_pats, more_labelled_pats}
use Rattle.pict_binders.specs.declared.binders.Binder.{Binder}
use Rattle.pict_binders.specs.Numbered.{nearest}
use Rattle.pict_scope.specs.Around.{Around, before_pattern}
use Rattle.pict_scope.specs.Marks.{stands_twice}
use Rattle.pict_scope.specs.Outlines.{Outline, empty, ◌▸◌, closed, value_use, type_use, binds_value, binds_type, binds_all, defines, pattern_value, pattern_type, pattern, group, once, opens, marks, twice_if_bound}
use Rattle.pict_scope.specs.Forms.{in_pat, in_field_pats, in_annotation}
use Rattle.pict_rules.specs.Environments.{KnownValue, known_type}
use Rattle.pict_rules.specs.SameNames.{value_names, bound_names, EachMark, IsNoStop}
use Rattle.pict_rules.proofs.SameNamesAsked.{left, right}
use Rattle.pict_rules.proofs.BoundIds.{value_ids, field_value_ids, field_type_ids, pats_value_ids, labelled_value_ids}
use Rattle.pict_rules.proofs.Names.{id_names, ids_of_both}
use Rattle.pict_rules.proofs.Opened.{binds_pat, binds_fields, then_binds, binds_none}
use Rattle.pict_rules.proofs.Kept.{pattern_keeps_annotation}
use Rattle.pict_translation.specs.Patterns.{Opened, opened, all_opened, labelled_opened, pat_names, names_opened, labelled_names_in, names_before, names_after}
use Rattle.pict_bridge.proofs.Ordered.{ordered_last}
use Rattle.pict_scope.proofs.BindersRead.{same_patterns}

eq_itself : (n : ℕ) → nat_eq n n ≡ true
eq_itself n = eq-eqb n n refl

-- how often a name stands in a list
abbrev pub one_if : Bool → ℕ
one_if true = 1
one_if false = 0

abbrev pub times : ℕ → List ℕ → ℕ
times m [] = 0
times m (n ∷ ns) = one_if (nat_eq m n) + times m ns

pub times_both : (m : ℕ) (ns ms : List ℕ) → times m (ns ++ ms) ≡ times m ns + times m ms
times_both m [] ms = omega arith
times_both m (n ∷ ns) ms = let e = times_both m ns ms in omega (arith, e)

-- ---- no name is bound twice

not_bound : (bs : List Binder) (m : ℕ) → nearest bs m ≡ None → times m (bound_names bs) ≡ 0
not_bound [] m h = refl
not_bound (b ∷ bs) m h = go (nat_eq b.name m) refl (nat_eq m b.name) refl (not_bound bs m)
  where
    go : (x : Bool) → nat_eq b.name m ≡ x → (y : Bool) → nat_eq m b.name ≡ y → (nearest bs m ≡ None → times m (bound_names bs) ≡ 0) → times m (bound_names (b ∷ bs)) ≡ 0
    go true p y q k = absurd (let e : Some b.number ≡ None = rw p at h in cc)
    go false p true q k = absurd (let e : nat_eq b.name m ≡ true = subst (λ z. nat_eq z m ≡ true) (eqb-true m b.name q) (eq_itself m) in let f : true ≡ false = sym e ∙ p in cc)
    go false p false q k = let e = k (rw p at h) in rw q (rw e (omega arith))

no_name_twice : (o : Option ℕ) (x : Id) → EachMark IsNoStop (twice_if_bound o x) → o ≡ None
no_name_twice None x h = refl
no_name_twice (Some n) x h = absurd (stopped (h.each (stands_twice S3 x.span) (inl refl)))
  where
    stopped : IsNoStop (stands_twice S3 x.span) → ⊥
    stopped e = cc

abbrev IsOnce : ℕ → Around → Type 0
IsOnce m a = times m (bound_names a.pattern_values) ≤ 1

once_kept : (o : Outline) (a : Around) (m : ℕ) → EachMark IsNoStop (marks o a) → IsOnce m a → IsOnce m (opens o a)
unfolding opens marks
once_kept empty a m c h = h
once_kept (o ▸ p) a m c h = once_kept p (opens o a) m (right (marks o a) _ c) (once_kept o a m (left _ _ c) h)
once_kept (closed o) a m c h = once_kept o a m c h
once_kept (value_use s n) a m c h = h
once_kept (type_use s n) a m c h = h
once_kept (binds_value x) a m c h = h
once_kept (binds_type x o) a m c h = once_kept o _ m c h
once_kept (binds_all xs) a m c h = subst (λ bs. times m (bound_names bs) ≤ 1) (sym (same_patterns xs a)) h
once_kept (defines x) a m c h = h
once_kept (pattern_value x) a m c h = go (nat_eq m x.name.0) refl
  where
    none : nearest a.pattern_values x.name.0 ≡ None
    none = no_name_twice (nearest a.pattern_values x.name.0) x (left _ _ c)

    go : (b : Bool) → nat_eq m x.name.0 ≡ b → one_if (nat_eq m x.name.0) + times m (bound_names a.pattern_values) ≤ 1
    go true q = let e : times m (bound_names a.pattern_values) ≡ 0 = subst (λ z. times z (bound_names a.pattern_values) ≡ 0) (sym (eqb-true m x.name.0 q)) (not_bound a.pattern_values x.name.0 none) in rw q (rw e (omega arith))
    go false q = rw q (omega (arith, h))
once_kept (pattern_type x o) a m c h = once_kept o _ m (right (twice_if_bound (nearest a.pattern_types x.name.0) x) _ c) h
once_kept (pattern o p) a m c h = once_kept p _ m (right (marks o (before_pattern a)) _ c) h
once_kept (group o) a m c h = once_kept o _ m c h
once_kept (once k x) a m c h = h

-- the names that a pattern binds, as the outline of it has them
pub pattern_once : (p : Pat) (q : Outline) (a : Around) (m : ℕ) → EachMark IsNoStop (marks (pattern (in_pat p) q) a) → times m (id_names (value_ids p)) ≤ 1
unfolding marks
pattern_once p q a m c =
    subst (λ ns. times m ns ≤ 1) ((binds_pat p).values (before_pattern a) ∙ append-nil (id_names (value_ids p)))
    (once_kept (in_pat p) (before_pattern a) m (left _ _ c) (omega arith))

pub function_once : (f : FieldPats) (r : RType) (q : Outline) (a : Around) (m : ℕ) → EachMark IsNoStop (marks (pattern (in_field_pats f ▸ in_annotation r) q) a) → times m (id_names (field_value_ids f)) ≤ 1
unfolding marks
function_once f r q a m c =
    subst (λ ns. times m ns ≤ 1) ((then_binds (field_value_ids f) [] (field_type_ids f) [] (binds_fields f) (binds_none (pattern_keeps_annotation r))).values (before_pattern a) ∙ append-nil (id_names (field_value_ids f)))
    (once_kept (in_field_pats f ▸ in_annotation r) (before_pattern a) m (left _ _ c) (omega arith))

-- ---- the same names in the order of the core pattern

names_last : (xs : List Opened) (y : Opened) (m : ℕ) → times m (names_opened (xs ++ y ∷ [])) ≡ times m (names_opened xs) + times m y.names
names_last [] y m = times_both m y.names [] ∙ omega arith
names_last (x ∷ xs) y m =
    let e = names_last xs y m in
    let f = times_both m x.names (names_opened (xs ++ y ∷ [])) in
    let g = times_both m x.names (names_opened xs) in
    omega (arith, e, f, g)

labelled_put : (names : List (List ℕ)) (l : ℕ) (y : Opened) (xs : List (ℕ × Opened)) (m : ℕ) → times m (labelled_names_in (with_label names l y xs)) ≡ times m (labelled_names_in xs) + times m y.names
labelled_put names l y [] m = times_both m y.names [] ∙ omega arith
labelled_put names l y (x ∷ xs) m = go (is_lt (label_cmp names l x.0)) (labelled_put names l y xs m)
  where
    go : (b : Bool) → times m (labelled_names_in (with_label names l y xs)) ≡ times m (labelled_names_in xs) + times m y.names → times m (labelled_names_in (if b then (l, y) ∷ x ∷ xs else x ∷ with_label names l y xs)) ≡ times m (labelled_names_in (x ∷ xs)) + times m y.names
    go true k = let e = times_both m y.names (labelled_names_in (x ∷ xs)) in omega (arith, e)
    go false k =
        let e = times_both m x.1.names (labelled_names_in (with_label names l y xs)) in
        let f = times_both m x.1.names (labelled_names_in xs) in
        omega (arith, e, f, k)

times_ids : (m : ℕ) (xs ys : List Id) → times m (id_names (xs ++ ys)) ≡ times m (id_names xs) + times m (id_names ys)
times_ids m xs ys = ap (times m) (ids_of_both xs ys) ∙ times_both m (id_names xs) (id_names ys)

mutual
  unfolding opened

  pub same_times : (names : List (List ℕ)) (p : Pat) (m : ℕ) → times m (pat_names names p) ≡ times m (id_names (value_ids p))
  same_times names (bind_pat s x r) m = refl
  same_times names (any_pat s r) m = refl
  same_times names (fields_pat s (field_pats bs ps ls)) m =
      let a = positional_times names ps m in
      let b = labelled_times names ls m in
      let c = times_both m (names_opened (all_opened names ps)) (labelled_names_in (in_label_order names (labelled_opened names ls))) in
      let d = times_ids m (labelled_value_ids ls) (pats_value_ids ps) in
      omega (arith, a, b, c, d)
  same_times names (fold_pat s r p) m = same_times names p m

  pub positional_times : (names : List (List ℕ)) (ps : Pats) (m : ℕ) → times m (names_opened (all_opened names ps)) ≡ times m (id_names (pats_value_ids ps))
  positional_times names no_pats m = refl
  positional_times names (more_pats ps p) m =
      let a = positional_times names ps m in
      let b = same_times names p m in
      let c = names_last (all_opened names ps) (opened names p) m in
      let d = times_ids m (value_ids p) (pats_value_ids ps) in
      omega (arith, a, b, c, d)

  pub labelled_times : (names : List (List ℕ)) (ls : LabelledPats) (m : ℕ) → times m (labelled_names_in (in_label_order names (labelled_opened names ls))) ≡ times m (id_names (labelled_value_ids ls))
  labelled_times names no_labelled_pats m = refl
  labelled_times names (more_labelled_pats ls l p) m =
      let a = labelled_times names ls m in
      let b = same_times names p m in
      let c = ap (λ z. times m (labelled_names_in z)) (ordered_last names (labelled_opened names ls) l.name.0 (opened names p)) ∙ labelled_put names l.name.0 (opened names p) (in_label_order names (labelled_opened names ls)) m in
      let d = times_ids m (value_ids p) (labelled_value_ids ls) in
      omega (arith, a, b, c, d)

pub function_times : (names : List (List ℕ)) (f : FieldPats) (m : ℕ) → times m (names_before names f) + times m (names_after names f) ≡ times m (id_names (field_value_ids f))
function_times names (field_pats bs ps ls) m =
    let a = positional_times names ps m in
    let b = labelled_times names ls m in
    let d = times_ids m (labelled_value_ids ls) (pats_value_ids ps) in
    omega (arith, a, b, d)

-- a name that isn't known stands nowhere
pub unknown_times : (vs : List KnownValue) (m : ℕ) → known_type vs m ≡ None → times m (value_names vs) ≡ 0
unknown_times [] m h = refl
unknown_times (v ∷ vs) m h = go (nat_eq v.name m) refl (nat_eq m v.name) refl (unknown_times vs m)
  where
    go : (x : Bool) → nat_eq v.name m ≡ x → (y : Bool) → nat_eq m v.name ≡ y → (known_type vs m ≡ None → times m (value_names vs) ≡ 0) → times m (value_names (v ∷ vs)) ≡ 0
    go true p y q k = absurd (let e : Some v.has ≡ None = rw p at h in cc)
    go false p true q k = absurd (let e : nat_eq v.name m ≡ true = subst (λ z. nat_eq z m ≡ true) (eqb-true m v.name q) (eq_itself m) in let f : true ≡ false = sym e ∙ p in cc)
    go false p false q k = let e = k (rw p at h) in rw q (rw e (omega arith))
