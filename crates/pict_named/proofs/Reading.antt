-- Outlines that read as phrases.
use Rattle.std.proofs.Common.{◌≡◌, ℕ, List, [], ◌∷◌, ◌++◌, refl, sym, ◌∙◌, ap, ap₂, append-nil, append_assoc}
use Rattle.pict_syntax.specs.declared.code.Code.{Code}
use Rattle.pict_syntax.specs.declared.span.Span.{Span}
use Rattle.pict_syntax.specs.declared.id.Id.{Id}
use Rattle.pict_scope.specs.Outlines.{Outline, empty, ◌▸◌, closed, value_use, type_use, binds_type, binds_all, defines, pattern_value, pattern_type, pattern, group, once}
use Rattle.pict_named.specs.Phrases.{Phrase, nothing, uses_value, uses_type, ◌⨾◌, over_values, over_types, value_uses, type_uses}
use Rattle.pict_named.specs.Extents.{over_pattern}
use Rattle.pict_named.proofs.Standing.{Ids, no_pattern, onto, stands, value_uses_of, type_uses_of}

-- an outline has the uses of a phrase
pub record Reads (o : Outline) (p : Phrase) : Type 0 where
  pub values : (g : Ids) → value_uses_of o g ≡ value_uses g.values p
  pub types_ : (g : Ids) → type_uses_of o g ≡ type_uses g.types_ p

-- and binds nothing over what is behind it
pub record Is (o : Outline) (p : Phrase) : Type 0 where
  pub values : (g : Ids) → value_uses_of o g ≡ value_uses g.values p
  pub types_ : (g : Ids) → type_uses_of o g ≡ type_uses g.types_ p
  pub keeps_values : (g : Ids) → (stands o g).values ≡ g.values
  pub keeps_types : (g : Ids) → (stands o g).types_ ≡ g.types_

-- an outline, with what is behind it, has the uses of a phrase
pub record Binds (o : Outline) (f : Phrase → Phrase) : Type 0 where
  pub values : (g : Ids) (p : Phrase) → value_uses_of o g ++ value_uses (stands o g).values p ≡ value_uses g.values (f p)
  pub types_ : (g : Ids) (p : Phrase) → type_uses_of o g ++ type_uses (stands o g).types_ p ≡ type_uses g.types_ (f p)

-- a type also binds nothing in the pattern that it stands in
pub record InPattern (o : Outline) (vs ts : List Id) : Type 0 where
  pub values : (g : Ids) → (stands o g).pattern_values ≡ vs ++ g.pattern_values
  pub types_ : (g : Ids) → (stands o g).pattern_types ≡ ts ++ g.pattern_types

pub reads : {o : Outline} {p : Phrase} → Is o p → Reads o p
reads h = record { values = h.values; types_ = h.types_ }

pub is_empty : Is empty nothing
unfolding stands value_uses_of type_uses_of
is_empty = record { values = λ g. refl; types_ = λ g. refl; keeps_values = λ g. refl; keeps_types = λ g. refl }

pub is_value_use : {s : Span} {n : ℕ} → Is (value_use s n) (uses_value n)
unfolding stands value_uses_of type_uses_of
is_value_use = record { values = λ g. refl; types_ = λ g. refl; keeps_values = λ g. refl; keeps_types = λ g. refl }

pub is_type_use : {s : Span} {n : ℕ} → Is (type_use s n) (uses_type n)
unfolding stands value_uses_of type_uses_of
is_type_use = record { values = λ g. refl; types_ = λ g. refl; keeps_values = λ g. refl; keeps_types = λ g. refl }

pub is_both : {o q : Outline} {p r : Phrase} → Is o p → Is q r → Is (o ▸ q) (p ⨾ r)
unfolding stands value_uses_of type_uses_of
is_both {o = o} {r = r} h k = record {
  values = λ g. ap₂ (λ us vs. us ++ vs) (h.values g) (k.values (stands o g) ∙ ap (λ xs. value_uses xs r) (h.keeps_values g));
  types_ = λ g. ap₂ (λ us vs. us ++ vs) (h.types_ g) (k.types_ (stands o g) ∙ ap (λ xs. type_uses xs r) (h.keeps_types g));
  keeps_values = λ g. k.keeps_values (stands o g) ∙ h.keeps_values g;
  keeps_types = λ g. k.keeps_types (stands o g) ∙ h.keeps_types g;
}

pub is_group : {o : Outline} {p : Phrase} → Is o p → Is (group o) p
unfolding stands value_uses_of type_uses_of
is_group h = record { values = λ g. h.values g; types_ = λ g. h.types_ g; keeps_values = λ g. h.keeps_values g; keeps_types = λ g. h.keeps_types g }

pub is_once : {c : Code} {x : Id} {o : Outline} {p : Phrase} → Is o p → Is (once c x ▸ o) p
unfolding stands value_uses_of type_uses_of
is_once h = record { values = λ g. h.values g; types_ = λ g. h.types_ g; keeps_values = λ g. h.keeps_values g; keeps_types = λ g. h.keeps_types g }

pub is_defined : {x : Id} {o : Outline} {p : Phrase} → Is o p → Is (defines x ▸ o) p
unfolding stands value_uses_of type_uses_of
is_defined h = record { values = λ g. h.values g; types_ = λ g. h.types_ g; keeps_values = λ g. h.keeps_values g; keeps_types = λ g. h.keeps_types g }

pub is_named : {x : Id} {o : Outline} {p : Phrase} → Is o p → Is (pattern_value x ▸ o) p
unfolding stands value_uses_of type_uses_of
is_named h = record { values = λ g. h.values _; types_ = λ g. h.types_ _; keeps_values = λ g. h.keeps_values _; keeps_types = λ g. h.keeps_types _ }

pub binds_none : Binds empty (λ p. p)
unfolding stands value_uses_of type_uses_of
binds_none = record { values = λ g p. refl; types_ = λ g p. refl }

pub binds_is : {o : Outline} {q : Phrase} → Is o q → Binds o (λ p. q ⨾ p)
unfolding stands value_uses_of type_uses_of
binds_is h = record {
  values = λ g p. ap₂ (λ us vs. us ++ vs) (h.values g) (ap (λ xs. value_uses xs p) (h.keeps_values g));
  types_ = λ g p. ap₂ (λ us vs. us ++ vs) (h.types_ g) (ap (λ xs. type_uses xs p) (h.keeps_types g));
}

pub binds_both : {o q : Outline} {f k : Phrase → Phrase} → Binds o f → Binds q k → Binds (o ▸ q) (λ p. f (k p))
unfolding stands value_uses_of type_uses_of
binds_both {o = o} {q = q} {k = k} h i = record {
  values = λ g p. append_assoc (value_uses_of o g) (value_uses_of q (stands o g)) (value_uses (stands q (stands o g)).values p) ∙ (ap (λ us. value_uses_of o g ++ us) (i.values (stands o g) p) ∙ h.values g (k p));
  types_ = λ g p. append_assoc (type_uses_of o g) (type_uses_of q (stands o g)) (type_uses (stands q (stands o g)).types_ p) ∙ (ap (λ us. type_uses_of o g ++ us) (i.types_ (stands o g) p) ∙ h.types_ g (k p));
}

pub binds_group : {o : Outline} {f : Phrase → Phrase} → Binds o f → Binds (group o) f
unfolding stands value_uses_of type_uses_of
binds_group h = record { values = λ g p. h.values g p; types_ = λ g p. h.types_ g p }

pub binds_once : {c : Code} {x : Id} {o : Outline} {f : Phrase → Phrase} → Binds o f → Binds (once c x ▸ o) f
unfolding stands value_uses_of type_uses_of
binds_once h = record { values = λ g p. h.values g p; types_ = λ g p. h.types_ g p }

-- a binder of a type without bound, and one with what stands in its bound or in its definition
pub binds_alone : {x : Id} → Binds (binds_type x empty) (λ p. over_types (x ∷ []) p)
unfolding stands value_uses_of type_uses_of
binds_alone = record { values = λ g p. refl; types_ = λ g p. refl }

pub binds_bound : {x : Id} {o : Outline} {q : Phrase} → Is o q → Binds (binds_type x o) (λ p. q ⨾ over_types (x ∷ []) p)
unfolding stands value_uses_of type_uses_of
binds_bound {x = x} h = record {
  values = λ g p. ap₂ (λ us vs. us ++ vs) (h.values g) (ap (λ xs. value_uses xs p) (h.keeps_values g));
  types_ = λ g p. ap₂ (λ us vs. us ++ vs) (h.types_ g) (ap (λ xs. type_uses (x ∷ xs) p) (h.keeps_types g));
}

pub binds_pattern_bound : {x : Id} {o : Outline} {q : Phrase} → Is o q → Binds (pattern_type x o) (λ p. q ⨾ over_types (x ∷ []) p)
unfolding stands value_uses_of type_uses_of
binds_pattern_bound {x = x} h = record {
  values = λ g p. ap₂ (λ us vs. us ++ vs) (h.values g) (ap (λ xs. value_uses xs p) (h.keeps_values g));
  types_ = λ g p. ap₂ (λ us vs. us ++ vs) (h.types_ g) (ap (λ xs. type_uses (x ∷ xs) p) (h.keeps_types g));
}

-- the names of a `def`
pub binds_names : (xs ys : List Id) → ((around : List Id) → onto xs around ≡ ys ++ around) → Binds (binds_all xs) (λ p. over_values ys p)
unfolding stands value_uses_of type_uses_of
binds_names xs ys h = record { values = λ g p. ap (λ zs. value_uses zs p) (h g.values); types_ = λ g p. refl }

-- what is bound inside ends with it
pub reads_behind : {o q : Outline} {f : Phrase → Phrase} {r : Phrase} → Binds o f → Reads q r → Reads (o ▸ q) (f r)
unfolding stands value_uses_of type_uses_of
reads_behind {o = o} {r = r} h k = record {
  values = λ g. ap (λ us. value_uses_of o g ++ us) (k.values (stands o g)) ∙ h.values g r;
  types_ = λ g. ap (λ us. type_uses_of o g ++ us) (k.types_ (stands o g)) ∙ h.types_ g r;
}

pub closes : {o : Outline} {p : Phrase} → Reads o p → Is (closed o) p
unfolding stands value_uses_of type_uses_of
closes h = record { values = λ g. h.values g; types_ = λ g. h.types_ g; keeps_values = λ g. refl; keeps_types = λ g. refl }

pub reads_alone : {o : Outline} {f : Phrase → Phrase} → Binds o f → Reads o (f nothing)
reads_alone h = record { values = λ g. sym (append-nil _) ∙ h.values g nothing; types_ = λ g. sym (append-nil _) ∙ h.types_ g nothing }

-- a pattern, with a value behind it that is out of its scope
over_both : (vs ts : List Id) (inside g : Ids) → inside.pattern_values ≡ vs ++ [] → inside.pattern_types ≡ ts ++ []
    → ((inside.pattern_values ++ g.values) ≡ (vs ++ g.values)) × ((inside.pattern_types ++ g.types_) ≡ (ts ++ g.types_))
over_both vs ts inside g h k = (ap (λ xs. xs ++ g.values) (h ∙ append-nil vs), ap (λ xs. xs ++ g.types_) (k ∙ append-nil ts))

pub binds_pattern : {o : Outline} {p : Phrase} {vs ts : List Id} → Reads o p → InPattern o vs ts → Binds (pattern o empty) (λ r. p ⨾ over_pattern vs ts r)
unfolding stands value_uses_of type_uses_of
binds_pattern {o = o} {vs = vs} {ts = ts} h n = record {
  values = λ g r. ap₂ (λ us ws. us ++ ws) (append-nil (value_uses_of o (no_pattern g)) ∙ h.values (no_pattern g)) (ap (λ xs. value_uses xs r) (over_both vs ts (stands o (no_pattern g)) g (n.values (no_pattern g)) (n.types_ (no_pattern g))).0);
  types_ = λ g r. ap₂ (λ us ws. us ++ ws) (append-nil (type_uses_of o (no_pattern g)) ∙ h.types_ (no_pattern g)) (ap (λ xs. type_uses xs r) (over_both vs ts (stands o (no_pattern g)) g (n.values (no_pattern g)) (n.types_ (no_pattern g))).1);
}

pub binds_let : {o q : Outline} {p v : Phrase} {vs ts : List Id} → Reads o p → InPattern o vs ts → Is q v → Binds (pattern o q) (λ r. p ⨾ v ⨾ over_pattern vs ts r)
unfolding stands value_uses_of type_uses_of
binds_let {o = o} {q = q} {v = v} {vs = vs} {ts = ts} h n k = record {
  values = λ g r. append_assoc (value_uses_of o (no_pattern g)) (value_uses_of q g) _ ∙ ap₂ (λ us ws. us ++ ws) (h.values (no_pattern g)) (ap₂ (λ us ws. us ++ ws) (k.values g) (ap (λ xs. value_uses xs r) (here g).0));
  types_ = λ g r. append_assoc (type_uses_of o (no_pattern g)) (type_uses_of q g) _ ∙ ap₂ (λ us ws. us ++ ws) (h.types_ (no_pattern g)) (ap₂ (λ us ws. us ++ ws) (k.types_ g) (ap (λ xs. type_uses xs r) (here g).1));
}
  where
    here : (g : Ids) → (((stands o (no_pattern g)).pattern_values ++ (stands q g).values) ≡ (vs ++ g.values)) × (((stands o (no_pattern g)).pattern_types ++ (stands q g).types_) ≡ (ts ++ g.types_))
    here g =
        let b = over_both vs ts (stands o (no_pattern g)) g (n.values (no_pattern g)) (n.types_ (no_pattern g)) in
        (ap (λ xs. (stands o (no_pattern g)).pattern_values ++ xs) (k.keeps_values g) ∙ b.0, ap (λ xs. (stands o (no_pattern g)).pattern_types ++ xs) (k.keeps_types g) ∙ b.1)

-- what a pattern binds
pub pattern_none : InPattern empty [] []
unfolding stands
pattern_none = record { values = λ g. refl; types_ = λ g. refl }

pub pattern_type_use : {s : Span} {n : ℕ} → InPattern (type_use s n) [] []
unfolding stands
pattern_type_use = record { values = λ g. refl; types_ = λ g. refl }

pub pattern_once : {c : Code} {x : Id} {o : Outline} {vs ts : List Id} → InPattern o vs ts → InPattern (once c x ▸ o) vs ts
unfolding stands
pattern_once h = record { values = λ g. h.values g; types_ = λ g. h.types_ g }

pub pattern_group : {o : Outline} {vs ts : List Id} → InPattern o vs ts → InPattern (group o) vs ts
unfolding stands
pattern_group h = record { values = λ g. h.values g; types_ = λ g. h.types_ g }

pub pattern_closed : {o : Outline} {vs ts : List Id} → InPattern o vs ts → InPattern (closed o) vs ts
unfolding stands
pattern_closed h = record { values = λ g. h.values g; types_ = λ g. h.types_ g }

pub pattern_binds : {x : Id} {o : Outline} {vs ts : List Id} → InPattern o vs ts → InPattern (binds_type x o) vs ts
unfolding stands
pattern_binds h = record { values = λ g. h.values g; types_ = λ g. h.types_ g }

pub pattern_named : {x : Id} {o : Outline} → InPattern o [] [] → InPattern (pattern_value x ▸ o) (x ∷ []) []
unfolding stands
pattern_named h = record { values = λ g. h.values _; types_ = λ g. h.types_ _ }

pub pattern_bound : {x : Id} {o : Outline} → InPattern o [] [] → InPattern (pattern_type x o) [] (x ∷ [])
unfolding stands
pattern_bound {x = x} h = record { values = λ g. h.values g; types_ = λ g. ap (λ xs. x ∷ xs) (h.types_ g) }

-- one after the other, where the first or the second binds none, and where both may bind
pub pattern_behind : {o q : Outline} {vs ts : List Id} → InPattern o [] [] → InPattern q vs ts → InPattern (o ▸ q) vs ts
unfolding stands
pattern_behind {o = o} {vs = vs} {ts = ts} h k = record {
  values = λ g. k.values (stands o g) ∙ ap (λ xs. vs ++ xs) (h.values g);
  types_ = λ g. k.types_ (stands o g) ∙ ap (λ xs. ts ++ xs) (h.types_ g);
}

pub pattern_before : {o q : Outline} {vs ts : List Id} → InPattern o vs ts → InPattern q [] [] → InPattern (o ▸ q) vs ts
unfolding stands
pattern_before {o = o} h k = record { values = λ g. k.values (stands o g) ∙ h.values g; types_ = λ g. k.types_ (stands o g) ∙ h.types_ g }

pub pattern_both : {o q : Outline} {vs ts ws us : List Id} → InPattern o vs ts → InPattern q ws us → InPattern (o ▸ q) (ws ++ vs) (us ++ ts)
unfolding stands
pattern_both {o = o} {vs = vs} {ts = ts} {ws = ws} {us = us} h k = record {
  values = λ g. k.values (stands o g) ∙ (ap (λ xs. ws ++ xs) (h.values g) ∙ sym (append_assoc ws vs g.pattern_values));
  types_ = λ g. k.types_ (stands o g) ∙ (ap (λ xs. us ++ xs) (h.types_ g) ∙ sym (append_assoc us ts g.pattern_types));
}
