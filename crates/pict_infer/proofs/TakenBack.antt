-- Type variables that are taken back, and what is left.
use Rattle.std.proofs.Common.{◌≡◌, ℕ, ◌+◌, List, [], ◌∷◌, ◌++◌, length, refl, sym, ◌∙◌, ap, ap₂, arith}
use Rattle.pict_types.specs.Types.{PlainBound}
use Rattle.pict_types.specs.Entries.{PlainContext, PlainEntry, Variable}
use Rattle.pict_rules.specs.Environments.{KnownType, entries_of}

length_entries : (bs : List KnownType) (c : PlainContext) → length (entries_of bs ++ c) ≡ length bs + length c
length_entries [] c = omega arith
length_entries (b ∷ bs) c = omega (arith, length_entries bs c)

first_entry : (x y : PlainEntry) (c d : PlainContext) → x ∷ c ≡ y ∷ d → (x ≡ y) × (c ≡ d)
first_entry x y c d h = (cc, cc)

same_known : (b d : KnownType) → (let x : PlainEntry = record { name = b.name; what = Variable b.bound } in x) ≡ record { name = d.name; what = Variable d.bound } → b ≡ d
same_known b d h =
    let n : b.name ≡ d.name = ap (λ (x : PlainEntry). x.name) h in
    let w : Variable b.bound ≡ Variable d.bound = ap (λ (x : PlainEntry). x.what) h in
    let v : b.bound ≡ d.bound = cc in
    ap₂ (λ (m : ℕ) (u : PlainBound). let k : KnownType = record { name = m; bound = u } in k) n v

entries_apart : (xs ys : List KnownType) (c d : PlainContext) → length c ≡ length d → entries_of xs ++ c ≡ entries_of ys ++ d → (xs ≡ ys) × (c ≡ d)
entries_apart [] [] c d l h = (refl, h)
entries_apart [] (y ∷ ys) c d l h = absurd (omega (arith, l, ap length h, length_entries ys d))
entries_apart (x ∷ xs) [] c d l h = absurd (omega (arith, l, ap length h, length_entries xs c))
entries_apart (x ∷ xs) (y ∷ ys) c d l h =
    let first = first_entry _ _ (entries_of xs ++ c) (entries_of ys ++ d) h in
    let rest = entries_apart xs ys c d l first.1 in
    (ap₂ (λ (b : KnownType) (bs : List KnownType). b ∷ bs) (same_known x y first.0) rest.0, rest.1)

-- the context under these variables, and the same with what was taken: these are the variables, and that is the context
pub record IsTakenBack (c : PlainContext) (own taken : List KnownType) (left : PlainContext) : Type 0 where
  pub own_ : taken ≡ own
  pub left_ : left ≡ c

pub taken_back : (c : PlainContext) (own taken : List KnownType) (whole left : PlainContext) → whole ≡ entries_of own ++ c → whole ≡ entries_of taken ++ left → length left ≡ length c → IsTakenBack c own taken left
taken_back c own taken whole left h k l = let e = entries_apart taken own left c l (sym k ∙ h) in record { own_ = e.0; left_ = e.1 }
