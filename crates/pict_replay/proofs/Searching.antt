-- Looking for values, and for lines, among finitely many.
use Rattle.std.proofs.Common.{◌≡◌, ℕ, ℤ, pos, negsuc, zero, suc, ◌≤◌, ◌<◌, ◌^◌, ◌⊎◌, inl, inr, true, false, List, [], ◌∷◌, length, Some, slice_get, refl, sym, subst, arith, FitsSigned}
use Rattle.std.specs.Int.{w64}
use Rattle.std.specs.List.{AllByRecursion}
use Rattle.std.proofs.lemmas.Bool.{cases_lt}
use Rattle.pict_syntax.specs.declared.primitive.Primitive.{Primitive}
use Rattle.pict_syntax.specs.Primitives.{primitives, primitive_number}
use Rattle.pict_syntax.proofs.Numbered.{found_at}
use Rattle.pict_core.specs.Term.{Val, Vals, Labelled, Var, Chan, Int, Char, Boolean, Text, PrimitiveVal, Record, no_vals, more_vals, no_labelled, more_labelled}
use Rattle.pict_replay.proofs.SomeReading.{below}

-- ---- what can be decided

abbrev pub Decided : Type 0 → Type 0
Decided P = P ⊎ (P → ⊥)

pub both : {P Q : Type 0} → Decided P → Decided Q → Decided (P × Q)
both (inl p) (inl q) = inl (p, q)
both (inl p) (inr n) = inr (λ h. n h.1)
both (inr n) q = inr (λ h. n h.0)

pub all_four : {P Q R S : Type 0} → Decided P → Decided Q → Decided R → Decided S → Decided (P × Q × R × S)
all_four (inr n) q r s = inr (λ h. n h.0)
all_four (inl p) (inr n) r s = inr (λ h. n h.1)
all_four (inl p) (inl q) (inr n) s = inr (λ h. n h.2)
all_four (inl p) (inl q) (inl r) (inr n) = inr (λ h. n h.3)
all_four (inl p) (inl q) (inl r) (inl s) = inl (p, q, r, s)

pub either : {P Q : Type 0} → Decided P → Decided Q → Decided (P ⊎ Q)
either (inl p) q = inl (inl p)
either (inr n) (inl q) = inl (inr q)
either (inr n) (inr m) = inr (λ h. elim h [ inl p ↦ n p | inr q ↦ m q ])

pub less_or_not : (a b : ℕ) → Decided (a < b)
less_or_not a b = elim (cases_lt a b) [ inl l ↦ inl l | inr g ↦ inr (λ l. omega (arith, l, g)) ]

pub most_or_not : (a b : ℕ) → Decided (a ≤ b)
most_or_not a b = elim (cases_lt b a) [ inl l ↦ inr (λ g. omega (arith, l, g)) | inr g ↦ inl g ]

-- some x of which P and Q hold
abbrev pub Found : {A : Type 0} → (A → Type 0) → (A → Type 0) → Type 0
Found {A = A} P Q = (x : A) × P x × Q x

-- whatever can be decided of each can be looked for among those with P
abbrev pub Searchable : {A : Type 0} → (A → Type 0) → Type 1
Searchable {A = A} P = (Q : A → Type 0) → ((x : A) → Decided (Q x)) → Decided (Found P Q)

pub search_below : (bound : ℕ) → Searchable (λ n. n < bound)
search_below bound Q q = below Q q bound

-- ---- texts

abbrev pub IsShort : ℕ → ℕ → List ℕ → Type 0
IsShort bound n text = AllByRecursion (λ b. b < bound) text × (length text ≤ n)

empty_alone : (bound : ℕ) (Q : List ℕ → Type 0) → (Q [] → ⊥) → (t : List ℕ) → IsShort bound 0 t → Q t → ⊥
empty_alone bound Q never [] s h = never h
empty_alone bound Q never (x ∷ t) s h = let few = s.1 in omega (arith, few)

longer : (bound n : ℕ) (Q : List ℕ → Type 0) → (Q [] → ⊥) → (Found (λ b. b < bound) (λ b. Found (IsShort bound n) (λ t. Q (b ∷ t))) → ⊥) → (t : List ℕ) → IsShort bound (suc n) t → Q t → ⊥
longer bound n Q never none [] s h = never h
longer bound n Q never none (x ∷ t) ((a, each), few) h = none (x, a, (t, (each, omega (arith, few)), h))

pub search_texts : (bound n : ℕ) → Searchable (IsShort bound n)
search_texts bound zero Q q = elim (q []) [
  | inl h ↦ inl ([], (tt, omega arith), h)
  | inr never ↦ inr (λ x. empty_alone bound Q never x.0 x.1 x.2)
]
search_texts bound (suc n) Q q = elim (q []) [
  | inl h ↦ inl ([], (tt, omega arith), h)
  | inr never ↦ elim (search_below bound (λ b. Found (IsShort bound n) (λ t. Q (b ∷ t))) (λ b. search_texts bound n (λ t. Q (b ∷ t)) (λ t. q (b ∷ t)))) [
    | inl x ↦ let few = x.2.1.1 in inl (x.0 ∷ x.2.0, ((x.1, x.2.1.0), omega (arith, few)), x.2.2)
    | inr none ↦ inr (λ x. longer bound n Q never none x.0 x.1 x.2)
  ]
]

-- ---- values: with labels below m, of which so many nest, and with at most n parts in each

abbrev mutual
  pub IsWithin : ℕ → ℕ → ℕ → Val → Type 0
  IsWithin m d n (Var level) = ⊥
  IsWithin m d n (Chan number) = number < 2 ^ 32
  IsWithin m d n (Int i) = FitsSigned w64 i
  IsWithin m d n (Char byte) = byte < 2 ^ 8
  IsWithin m d n (Boolean b) = Unit {0}
  IsWithin m d n (Text bytes) = IsShort (2 ^ 8) n bytes
  IsWithin m d n (PrimitiveVal p) = Unit {0}
  IsWithin m d n (Record vs ls) = (e : ℕ) × (d ≡ suc e) × AreWithin m e n n vs × LabelledWithin m e n n ls

  pub AreWithin : ℕ → ℕ → ℕ → ℕ → Vals → Type 0
  AreWithin m d n k no_vals = Unit {0}
  AreWithin m d n k (more_vals v vs) = (j : ℕ) × (k ≡ suc j) × IsWithin m d n v × AreWithin m d n j vs

  pub LabelledWithin : ℕ → ℕ → ℕ → ℕ → Labelled → Type 0
  LabelledWithin m d n k no_labelled = Unit {0}
  LabelledWithin m d n k (more_labelled l v ls) = (j : ℕ) × (k ≡ suc j) × (l < m) × IsWithin m d n v × LabelledWithin m d n j ls

one_less : (k j : ℕ) → suc k ≡ suc j → k ≡ j
one_less k j e = omega (arith, e)

module _ (m n d : ℕ) (values : Searchable (IsWithin m d n)) where
  no_vals_else : (Q : Vals → Type 0) → (Q no_vals → ⊥) → (vs : Vals) → AreWithin m d n 0 vs → Q vs → ⊥
  no_vals_else Q never no_vals s h = never h
  no_vals_else Q never (more_vals v vs) (j, e, a, s) h = omega (arith, e)

  more_vals_else : (k : ℕ) (Q : Vals → Type 0) → (Q no_vals → ⊥) → (Found (IsWithin m d n) (λ v. Found (AreWithin m d n k) (λ vs. Q (more_vals v vs))) → ⊥)
      → (vs : Vals) → AreWithin m d n (suc k) vs → Q vs → ⊥
  more_vals_else k Q never none no_vals s h = never h
  more_vals_else k Q never none (more_vals v vs) (j, e, a, s) h = none (v, a, (vs, subst (λ i. AreWithin m d n i vs) (sym (one_less k j e)) s, h))

  pub search_vals : (k : ℕ) → Searchable (AreWithin m d n k)
  search_vals zero Q q = elim (q no_vals) [
    | inl h ↦ inl (no_vals, tt, h)
    | inr never ↦ inr (λ x. no_vals_else Q never x.0 x.1 x.2)
  ]
  search_vals (suc k) Q q = elim (q no_vals) [
    | inl h ↦ inl (no_vals, tt, h)
    | inr never ↦ elim (values (λ v. Found (AreWithin m d n k) (λ vs. Q (more_vals v vs))) (λ v. search_vals k (λ vs. Q (more_vals v vs)) (λ vs. q (more_vals v vs)))) [
      | inl (v, a, (vs, s, h)) ↦ inl (more_vals v vs, (k, refl, a, s), h)
      | inr none ↦ inr (λ x. more_vals_else k Q never none x.0 x.1 x.2)
    ]
  ]

  no_labelled_else : (Q : Labelled → Type 0) → (Q no_labelled → ⊥) → (ls : Labelled) → LabelledWithin m d n 0 ls → Q ls → ⊥
  no_labelled_else Q never no_labelled s h = never h
  no_labelled_else Q never (more_labelled l v ls) (j, e, few, a, s) h = omega (arith, e)

  -- a label, a value and more of them
  abbrev Further : ℕ → (Labelled → Type 0) → Type 0
  Further k Q = Found (λ l. l < m) (λ l. Found (IsWithin m d n) (λ v. Found (LabelledWithin m d n k) (λ ls. Q (more_labelled l v ls))))

  more_labelled_else : (k : ℕ) (Q : Labelled → Type 0) → (Q no_labelled → ⊥) → (Further k Q → ⊥) → (ls : Labelled) → LabelledWithin m d n (suc k) ls → Q ls → ⊥
  more_labelled_else k Q never none no_labelled s h = never h
  more_labelled_else k Q never none (more_labelled l v ls) (j, e, few, a, s) h = none (l, few, (v, a, (ls, subst (λ i. LabelledWithin m d n i ls) (sym (one_less k j e)) s, h)))

  pub search_labelled : (k : ℕ) → Searchable (LabelledWithin m d n k)
  search_labelled zero Q q = elim (q no_labelled) [
    | inl h ↦ inl (no_labelled, tt, h)
    | inr never ↦ inr (λ x. no_labelled_else Q never x.0 x.1 x.2)
  ]
  search_labelled (suc k) Q q = elim (q no_labelled) [
    | inl h ↦ inl (no_labelled, tt, h)
    | inr never ↦ elim (search_below m (λ l. Found (IsWithin m d n) (λ v. Found (LabelledWithin m d n k) (λ ls. Q (more_labelled l v ls))))
        (λ l. values (λ v. Found (LabelledWithin m d n k) (λ ls. Q (more_labelled l v ls))) (λ v. search_labelled k (λ ls. Q (more_labelled l v ls)) (λ ls. q (more_labelled l v ls))))) [
          | inl (l, few, (v, a, (ls, s, h))) ↦ inl (more_labelled l v ls, (k, refl, few, a, s), h)
          | inr none ↦ inr (λ x. more_labelled_else k Q never none x.0 x.1 x.2)
        ]
  ]

-- ---- numbers and primitives

ints_else : (Q : ℤ → Type 0) → (Found (λ n. n < 2 ^ 63) (λ n. Q (pos n)) → ⊥) → (Found (λ n. n < 2 ^ 63) (λ n. Q (negsuc n)) → ⊥) → (i : ℤ) → FitsSigned w64 i → Q i → ⊥
ints_else Q no_pos no_neg (pos n) s h = no_pos (n, omega (arith, s), h)
ints_else Q no_pos no_neg (negsuc n) s h = no_neg (n, omega (arith, s), h)

pub search_ints : Searchable (FitsSigned w64)
search_ints Q q = elim (search_below (2 ^ 63) (λ n. Q (pos n)) (λ n. q (pos n))) [
  | inl (n, few, h) ↦ inl (pos n, omega (arith, few), h)
  | inr no_pos ↦ elim (search_below (2 ^ 63) (λ n. Q (negsuc n)) (λ n. q (negsuc n))) [
    | inl (n, few, h) ↦ inl (negsuc n, omega (arith, few), h)
    | inr no_neg ↦ inr (λ x. ints_else Q no_pos no_neg x.0 x.1 x.2)
  ]
]

abbrev AnyOf : (Primitive → Type 0) → List Primitive → Type 0
AnyOf Q [] = ⊥
AnyOf Q (p ∷ ps) = Q p ⊎ AnyOf Q ps

any_or_not : (Q : Primitive → Type 0) → ((p : Primitive) → Decided (Q p)) → (ps : List Primitive) → ((p : Primitive) × Q p) ⊎ (AnyOf Q ps → ⊥)
any_or_not Q q [] = inr (λ h. h)
any_or_not Q q (p ∷ ps) = elim (q p) [
  | inl h ↦ inl (p, h)
  | inr never ↦ elim (any_or_not Q q ps) [ inl x ↦ inl x | inr none ↦ inr (λ h. elim h [ inl a ↦ never a | inr b ↦ none b ]) ]
]

of_any : (Q : Primitive → Type 0) (ps : List Primitive) (i : ℕ) (p : Primitive) → slice_get ps i ≡ Some p → Q p → AnyOf Q ps
of_any Q [] i p e h = cc
of_any Q (x ∷ ps) zero p e h = let same : p ≡ x = cc in inl (subst Q same h)
of_any Q (x ∷ ps) (suc i) p e h = inr (of_any Q ps i p e h)

each_of : (Q : Primitive → Type 0) (p : Primitive) → Q p → AnyOf Q primitives
each_of Q p h = of_any Q primitives (primitive_number p) p (found_at p) h

-- ---- values

module _ (m n : ℕ) where
  -- one without parts
  abbrev Plain : (Val → Type 0) → Type 0
  Plain Q =
      Found (λ k. k < 2 ^ 32) (λ k. Q (Chan k)) ⊎ (Found (FitsSigned w64) (λ i. Q (Int i)) ⊎ (Found (λ b. b < 2 ^ 8) (λ b. Q (Char b)) ⊎
      (Found (IsShort (2 ^ 8) n) (λ t. Q (Text t)) ⊎ ((Q (Boolean true) ⊎ Q (Boolean false)) ⊎ ((p : Primitive) × Q (PrimitiveVal p))))))

  primitive_or_not : (Q : Val → Type 0) → ((v : Val) → Decided (Q v)) → Decided ((p : Primitive) × Q (PrimitiveVal p))
  primitive_or_not Q q = elim (any_or_not (λ p. Q (PrimitiveVal p)) (λ p. q (PrimitiveVal p)) primitives) [
    | inl x ↦ inl x
    | inr none ↦ inr (λ x. none (each_of (λ p. Q (PrimitiveVal p)) x.0 x.1))
  ]

  plain_or_not : (Q : Val → Type 0) → ((v : Val) → Decided (Q v)) → Decided (Plain Q)
  plain_or_not Q q =
      either (search_below (2 ^ 32) (λ k. Q (Chan k)) (λ k. q (Chan k)))
      (either (search_ints (λ i. Q (Int i)) (λ i. q (Int i)))
      (either (search_below (2 ^ 8) (λ b. Q (Char b)) (λ b. q (Char b)))
      (either (search_texts (2 ^ 8) n (λ t. Q (Text t)) (λ t. q (Text t)))
      (either (either (q (Boolean true)) (q (Boolean false))) (primitive_or_not Q q)))))

  abbrev Records : ℕ → (Val → Type 0) → Type 0
  Records d Q = (vs : Vals) × (ls : Labelled) × IsWithin m d n (Record vs ls) × Q (Record vs ls)

  of_plain : (d : ℕ) (Q : Val → Type 0) → Plain Q → Found (IsWithin m d n) Q
  of_plain d Q (inl (k, few, h)) = (Chan k, few, h)
  of_plain d Q (inr (inl (i, fits, h))) = (Int i, fits, h)
  of_plain d Q (inr (inr (inl (b, few, h)))) = (Char b, few, h)
  of_plain d Q (inr (inr (inr (inl (t, short, h))))) = (Text t, short, h)
  of_plain d Q (inr (inr (inr (inr (inl (inl h)))))) = (Boolean true, tt, h)
  of_plain d Q (inr (inr (inr (inr (inl (inr h)))))) = (Boolean false, tt, h)
  of_plain d Q (inr (inr (inr (inr (inr (p, h)))))) = (PrimitiveVal p, tt, h)

  value_else : (d : ℕ) (Q : Val → Type 0) → (Plain Q → ⊥) → (Records d Q → ⊥) → (v : Val) → IsWithin m d n v → Q v → ⊥
  value_else d Q never none (Var level) s h = absurd s
  value_else d Q never none (Chan k) s h = never (inl (k, s, h))
  value_else d Q never none (Int i) s h = never (inr (inl (i, s, h)))
  value_else d Q never none (Char b) s h = never (inr (inr (inl (b, s, h))))
  value_else d Q never none (Text t) s h = never (inr (inr (inr (inl (t, s, h)))))
  value_else d Q never none (Boolean true) s h = never (inr (inr (inr (inr (inl (inl h))))))
  value_else d Q never none (Boolean false) s h = never (inr (inr (inr (inr (inl (inr h))))))
  value_else d Q never none (PrimitiveVal p) s h = never (inr (inr (inr (inr (inr (p, h))))))
  value_else d Q never none (Record vs ls) s h = none (vs, ls, s, h)

  value_by : (d : ℕ) (Q : Val → Type 0) → ((v : Val) → Decided (Q v)) → Decided (Records d Q) → Decided (Found (IsWithin m d n) Q)
  value_by d Q q (inl (vs, ls, s, h)) = inl (Record vs ls, s, h)
  value_by d Q q (inr none) = elim (plain_or_not Q q) [
    | inl x ↦ inl (of_plain d Q x)
    | inr never ↦ inr (λ x. value_else d Q never none x.0 x.1 x.2)
  ]

  no_records : (Q : Val → Type 0) → Records 0 Q → ⊥
  no_records Q (vs, ls, (e, f, a, b), h) = omega (arith, f)

  -- positional fields, and fields with labels
  abbrev Fields : ℕ → (Val → Type 0) → Type 0
  Fields e Q = Found (AreWithin m e n n) (λ vs. Found (LabelledWithin m e n n) (λ ls. Q (Record vs ls)))

  of_records : (e : ℕ) (Q : Val → Type 0) → Records (suc e) Q → Fields e Q
  of_records e Q (vs, ls, (c, f, a, b), h) =
      let same = one_less e c f in (vs, subst (λ x. AreWithin m x n n vs) (sym same) a, (ls, subst (λ x. LabelledWithin m x n n ls) (sym same) b, h))

  to_records : (e : ℕ) (Q : Val → Type 0) → Fields e Q → Records (suc e) Q
  to_records e Q (vs, a, (ls, b, h)) = (vs, ls, (e, refl, a, b), h)

  records_by : (e : ℕ) → Searchable (IsWithin m e n) → (Q : Val → Type 0) → ((v : Val) → Decided (Q v)) → Decided (Records (suc e) Q)
  records_by e values Q q = elim (search_vals m n e values n (λ vs. Found (LabelledWithin m e n n) (λ ls. Q (Record vs ls)))
      (λ vs. search_labelled m n e values n (λ ls. Q (Record vs ls)) (λ ls. q (Record vs ls)))) [
        | inl x ↦ inl (to_records e Q x)
        | inr none ↦ inr (λ x. none (of_records e Q x))
      ]

  pub search_values : (d : ℕ) → Searchable (IsWithin m d n)
  search_values zero Q q = value_by 0 Q q (inr (no_records Q))
  search_values (suc e) Q q = value_by (suc e) Q q (records_by e (search_values e) Q q)
