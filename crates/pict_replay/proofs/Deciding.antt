-- Labels are the same or not.
use Rattle.std.proofs.Common.{ℕ, ◌≡◌, ◌≢◌, ◌⊎◌, inl, inr, ℤ, pos, negsuc, Bool, true, false, List, [], ◌∷◌, refl, ap, ◌∙◌}
use Rattle.std.proofs.lemmas.Bool.Decides.{eqb_tells}
use Rattle.pict_syntax.specs.declared.primitive.Primitive.{Primitive}
use Rattle.pict_syntax.specs.Primitives.{primitive_number}
use Rattle.pict_syntax.proofs.Numbered.{one_number}
use Rattle.pict_core.specs.Term.{Val, Vals, Labelled, Var, Chan, Int, Char, Boolean, Text, PrimitiveVal, Record, no_vals, more_vals, no_labelled, more_labelled}
use Rattle.pict_core.specs.Step.{Label, Quiet, Comm, Print}
use Rattle.pict_core.proofs.Replacing.{two}

abbrev pub Decided : {A : Type 0} → A → A → Type 0
Decided x y = (x ≡ y) ⊎ (x ≢ y)

pub nats : (m n : ℕ) → Decided m n
nats m n = elim (eqb_tells m n) [ inl e ↦ inl e.1 | inr e ↦ inr e.1 ]

ints : (m n : ℤ) → Decided m n
ints (pos m) (pos n) = elim (nats m n) [ inl e ↦ inl (ap pos e) | inr n ↦ inr (λ e. n cc) ]
ints (negsuc m) (negsuc n) = elim (nats m n) [ inl e ↦ inl (ap negsuc e) | inr n ↦ inr (λ e. n cc) ]
ints (pos m) (negsuc n) = inr (λ e. cc)
ints (negsuc m) (pos n) = inr (λ e. cc)

bools : (a b : Bool) → Decided a b
bools true true = inl refl
bools false false = inl refl
bools true false = inr (λ e. cc)
bools false true = inr (λ e. cc)

texts : (xs ys : List ℕ) → Decided xs ys
texts [] [] = inl refl
texts [] (y ∷ ys) = inr (λ e. cc)
texts (x ∷ xs) [] = inr (λ e. cc)
texts (x ∷ xs) (y ∷ ys) = elim (nats x y) [
  | inl e ↦ elim (texts xs ys) [ inl f ↦ inl (ap (λ z. z ∷ xs) e ∙ ap (λ l. y ∷ l) f) | inr n ↦ inr (λ f. n cc) ]
  | inr n ↦ inr (λ f. n cc)
]

performers : (p q : Primitive) → Decided p q
performers p q = elim (nats (primitive_number p) (primitive_number q)) [ inl e ↦ inl (one_number p q e) | inr n ↦ inr (λ e. n (ap primitive_number e)) ]

mutual
  values : (v w : Val) → Decided v w
  values (Var a) (Var b) = elim (nats a b) [ inl e ↦ inl (ap Var e) | inr n ↦ inr (λ e. n cc) ]
  values (Chan a) (Chan b) = elim (nats a b) [ inl e ↦ inl (ap Chan e) | inr n ↦ inr (λ e. n cc) ]
  values (Int a) (Int b) = elim (ints a b) [ inl e ↦ inl (ap Int e) | inr n ↦ inr (λ e. n cc) ]
  values (Char a) (Char b) = elim (nats a b) [ inl e ↦ inl (ap Char e) | inr n ↦ inr (λ e. n cc) ]
  values (Boolean a) (Boolean b) = elim (bools a b) [ inl e ↦ inl (ap Boolean e) | inr n ↦ inr (λ e. n cc) ]
  values (Text a) (Text b) = elim (texts a b) [ inl e ↦ inl (ap Text e) | inr n ↦ inr (λ e. n cc) ]
  values (PrimitiveVal a) (PrimitiveVal b) = elim (performers a b) [ inl e ↦ inl (ap PrimitiveVal e) | inr n ↦ inr (λ e. n cc) ]
  values (Record vs ls) (Record ws ks) = elim (all_values vs ws) [
    | inl e ↦ elim (labelled_values ls ks) [ inl f ↦ inl (two Record e f) | inr n ↦ inr (λ f. n cc) ]
    | inr n ↦ inr (λ f. n cc)
  ]
  values v w = inr (λ e. cc)

  all_values : (vs ws : Vals) → Decided vs ws
  all_values no_vals no_vals = inl refl
  all_values (more_vals v vs) (more_vals w ws) = elim (values v w) [
    | inl e ↦ elim (all_values vs ws) [ inl f ↦ inl (two more_vals e f) | inr n ↦ inr (λ f. n cc) ]
    | inr n ↦ inr (λ f. n cc)
  ]
  all_values vs ws = inr (λ e. cc)

  labelled_values : (ls ks : Labelled) → Decided ls ks
  labelled_values no_labelled no_labelled = inl refl
  labelled_values (more_labelled l v ls) (more_labelled k w ks) = elim (nats l k) [
    | inl d ↦ elim (values v w) [
      | inl e ↦ elim (labelled_values ls ks) [ inl f ↦ inl (two (more_labelled l) e f ∙ ap (λ z. more_labelled z w ks) d) | inr n ↦ inr (λ f. n cc) ]
      | inr n ↦ inr (λ f. n cc)
    ]
    | inr n ↦ inr (λ f. n cc)
  ]
  labelled_values ls ks = inr (λ e. cc)

pub labels : (a b : Label) → Decided a b
labels Quiet Quiet = inl refl
labels (Comm c v) (Comm d w) = elim (nats c d) [
  | inl e ↦ elim (values v w) [ inl f ↦ inl (two Comm e f) | inr n ↦ inr (λ f. n cc) ]
  | inr n ↦ inr (λ f. n cc)
]
labels (Print a) (Print b) = elim (texts a b) [ inl e ↦ inl (ap Print e) | inr n ↦ inr (λ e. n cc) ]
labels a b = inr (λ e. cc)

pub lines : (xs ys : List (ℕ × Label)) → Decided xs ys
lines [] [] = inl refl
lines [] (y ∷ ys) = inr (λ e. cc)
lines (x ∷ xs) [] = inr (λ e. cc)
lines (x ∷ xs) (y ∷ ys) = elim (nats x.0 y.0) [
  | inl d ↦ elim (labels x.1 y.1) [
    | inl e ↦ elim (lines xs ys) [
      | inl f ↦ inl (ap (λ z. z ∷ xs) (two (λ (a : ℕ) (b : Label). (a, b)) d e) ∙ ap (λ l. y ∷ l) f)
      | inr n ↦ inr (λ f. n cc)
    ]
    | inr n ↦ inr (λ f. let k : x ≡ y = cc in n (ap (λ (z : ℕ × Label). z.1) k))
  ]
  | inr n ↦ inr (λ f. let k : x ≡ y = cc in n (ap (λ (z : ℕ × Label). z.0) k))
]
