-- Names around a place of a translation: old ones and new ones, by what the scopes have around there.
use Rattle.std.proofs.Common.{◌≡◌, ℕ, ◌+◌, ◌<◌, ◌≤◌, false, List, [], ◌∷◌, length, Option, Some, None, refl, sym, ◌∙◌, ap, arith, unwrap_or, nat_lt, ltb-true, ltb-false}
use Rattle.std.proofs.lemmas.Option.{slice_get_past}
use Rattle.std.specs.Option.{option_map}
use Rattle.pict_syntax.specs.declared.span.Span.{Span}
use Rattle.pict_syntax.specs.declared.name.Name.{Name}
use Rattle.pict_syntax.specs.declared.id.Id.{Id}
use Rattle.pict_syntax.specs.Names.{text_of}
use Rattle.pict_core.specs.Term as core
use Rattle.pict_binders.specs.Numbered.{nearest}
use Rattle.pict_scope.specs.declared.target.Target.{Target}
use Rattle.pict_scope.specs.declared.target.Target.TheVariants.{Prim}
use Rattle.pict_scope.specs.PrimitiveNames.{primitive_named}
use Rattle.pict_scope.specs.Around.{Around, is_among, meaning, or_primitive as or_prim, with_value, with_values}
use Rattle.pict_scope.specs.Marks.{first_stop, value_used}
use Rattle.pict_scope.specs.Outlines.{Outline, empty, ◌▸◌, closed, value_use, type_use, binds_value, binds_type, binds_all, defines, pattern_value, pattern_type, pattern, group, once, opens, marks}
use Rattle.pict_scope.proofs.Clean.{left_clean, right_clean}
use Rattle.pict_translation.specs.Simple.{value_at, use_of, or_primitive}
use Rattle.pict_apart.specs.Apart.{own_or, renamed}
use Rattle.pict_apart.proofs.Looking.{Values, Binds, Opens, TellsOf, number_same, tested, some}

-- no rule of scopes fails in an outline at a place
abbrev pub Clean : Outline → Around → Type 0
Clean o a = first_stop (marks o a) ≡ None

pub first_clean : (o p : Outline) (a : Around) → Clean (o ▸ p) a → Clean o a
unfolding marks
first_clean o p a h = left_clean (marks o a) (marks p (opens o a)) h

pub second_clean : (o p : Outline) (a : Around) → Clean (o ▸ p) a → Clean p (opens o a)
unfolding marks
second_clean o p a h = right_clean (marks o a) (marks p (opens o a)) h

-- numbers of binders go up
pub values_count_up : (xs : List Id) (a : Around) → a.next_value ≤ (with_values xs a).next_value
values_count_up [] a = omega arith
values_count_up (x ∷ xs) a = let h = values_count_up xs (with_value x a) in omega (arith, h)

pub counts_up : (o : Outline) (a : Around) → a.next_value ≤ (opens o a).next_value
unfolding opens
counts_up empty a = omega arith
counts_up (o ▸ p) a = let h = counts_up o a in let k = counts_up p (opens o a) in omega (arith, h, k)
counts_up (closed o) a = counts_up o a
counts_up (value_use s n) a = omega arith
counts_up (type_use s n) a = omega arith
counts_up (binds_value x) a = omega arith
counts_up (binds_type x o) a = counts_up o _
counts_up (binds_all xs) a = values_count_up xs a
counts_up (defines x) a = omega arith
counts_up (pattern_value x) a = omega arith
counts_up (pattern_type x o) a = counts_up o _
counts_up (pattern o p) a = let h = counts_up o _ in let k = counts_up p _ in le_both h k
  where
    le_both : {m n l : ℕ} → m ≤ n → n ≤ l → m ≤ l
    le_both h k = omega (arith, h, k)
counts_up (group o) a = counts_up o _
counts_up (once c x) a = omega arith

-- the values of the names around a place, under the old names and under the new ones: the binder k of the scopes has the name
-- base + k there
pub record Alike (base : ℕ) (names : List (List ℕ)) (a : Around) (e d : Values) : Type 0 where
  pub texts : a.texts ≡ names
  pub enough : length names ≤ base
  pub below : (n k : ℕ) → nearest a.values n ≡ Some k → k < a.next_value
  pub bound : (n k : ℕ) → nearest a.values n ≡ Some k → (v : core.Val) × (value_at e n ≡ Some v) × (value_at d (base + k) ≡ Some v)
  pub unbound : (n : ℕ) → nearest a.values n ≡ None → value_at e n ≡ None
  pub fresh : (n : ℕ) → n < base → value_at d n ≡ None

-- the same values are bound at a later place
pub later : {base : ℕ} {names : List (List ℕ)} {a : Around} (b : Around) {e d : Values} → Alike base names a e d → b.texts ≡ a.texts → b.values ≡ a.values → a.next_value ≤ b.next_value → Alike base names b e d
later b h t v le = record {
  texts = t ∙ h.texts;
  enough = h.enough;
  below = λ n k p. let q = h.below n k (ap (λ x. nearest x n) (sym v) ∙ p) in omega (arith, q, le);
  bound = λ n k p. h.bound n k (ap (λ x. nearest x n) (sym v) ∙ p);
  unbound = λ n p. h.unbound n (ap (λ x. nearest x n) (sym v) ∙ p);
  fresh = h.fresh;
}

pub within : {base : ℕ} {names : List (List ℕ)} {a b : Around} {e d e' d' : Values} (ns : List ℕ) (h : ℕ → ℕ) → Alike base names a e d
    → Opens ns a.values b.values a.next_value b.next_value → TellsOf base h ns b.values → b.texts ≡ a.texts → Binds ns h e e' d d' → Alike base names b e' d'
within {base = base} {a = a} {b = b} {e' = e'} {d' = d'} ns h x y told texts z = record {
  texts = texts ∙ x.texts;
  enough = x.enough;
  below = λ n k p. tested (is_among ns n)
      (λ t. let i = y.inside n t in let s = number_same i.0 k i.1 p in let lt = i.3 in omega (arith, s, lt))
      (λ f. let q = x.below n k (sym (y.outside n f) ∙ p) in let g = y.grows in omega (arith, q, g));
  bound = λ n k p. tested (is_among ns n)
      (λ t. let w = z.inside n t in (w.0, w.1, ap (value_at d') (sym (told n k t p)) ∙ w.2))
      (λ f. old n k f (sym (y.outside n f) ∙ p));
  unbound = λ n p. tested (is_among ns n)
      (λ t. let i = y.inside n t in absurd (let q : some i.0 ≡ None = sym i.1 ∙ p in cc))
      (λ f. z.outside n f ∙ x.unbound n (sym (y.outside n f) ∙ p));
  fresh = λ m lt. z.others m (λ n t s. let i = y.inside n t in let g = told n i.0 t i.1 in omega (arith, g, s, lt)) ∙ x.fresh m lt;
}
  where
    old : (n k : ℕ) → is_among ns n ≡ false → nearest a.values n ≡ Some k → (v : core.Val) × (value_at e' n ≡ Some v) × (value_at d' (base + k) ≡ Some v)
    old n k f p =
        let w = x.bound n k p in
        let lt = x.below n k p in
        (w.0, z.outside n f ∙ w.1, z.others (base + k) (λ m t s. let i = y.inside m t in let g = told m i.0 t i.1 in let le = i.2 in omega (arith, g, s, lt, le)) ∙ w.2)

-- a use means the same value under both names
abbrev target : Target → Option Target
target t = Some t

none_used : (s : Span) (o : Option Target) → first_stop (value_used s o ∷ []) ≡ None → o ≡ None → ⊥
none_used s None h k = cc
none_used s (Some t) h k = cc

-- a name that no text has is that of no primitive
no_text : (texts : List (List ℕ)) (n : ℕ) → length texts ≤ n → text_of texts n ≡ []
no_text texts n le = ap (λ o. unwrap_or o []) (slice_get_past texts n le)

at_text : (a : Around) (s : Span) (n : ℕ) → Clean (value_use s n) a → nearest a.values n ≡ None → n < length a.texts
unfolding marks
at_text a s n h k = tested (nat_lt n (length a.texts)) (λ t. ltb-true n (length a.texts) t) (λ f. absurd (none_used s (meaning a n) h (unmeant f)))
  where
    unmeant : nat_lt n (length a.texts) ≡ false → meaning a n ≡ None
    unmeant f = ap (λ o. or_prim o (text_of a.texts n)) k ∙ ap (λ t. option_map Prim (primitive_named t)) (no_text a.texts n (ltb-false n (length a.texts) f))

pub same_use : {base : ℕ} {names : List (List ℕ)} {a : Around} {e d : Values} (s : Span) (n : Name) → Alike base names a e d → Clean (value_use s n.0) a
    → use_of (record { names = names; values = d }) (renamed base a n).0 ≡ use_of (record { names = names; values = e }) n.0
same_use {base = base} {names = names} {a = a} {e = e} {d = d} s n x c = go (nearest a.values n.0) refl
  where
    go : (o : Option ℕ) → nearest a.values n.0 ≡ o → use_of (record { names = names; values = d }) (own_or base n o).0 ≡ use_of (record { names = names; values = e }) n.0
    go (Some k) h = let w = x.bound n.0 k h in ap (or_primitive (text_of names (base + k))) w.2 ∙ sym (ap (or_primitive (text_of names n.0)) w.1)
    go None h =
        let lt = at_text a s n.0 c h in
        let le = x.enough in
        let same : length a.texts ≡ length names = ap length x.texts in
        ap (or_primitive (text_of names n.0)) (x.fresh n.0 (omega (arith, lt, le, same))) ∙ sym (ap (or_primitive (text_of names n.0)) (x.unbound n.0 h))
