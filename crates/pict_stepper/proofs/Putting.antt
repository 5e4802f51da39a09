-- A list by rising stamps, taken apart by a test at stamps and put together again.
use Rattle.std.proofs.Common.{ℕ, ◌≡◌, ◌+◌, ◌<◌, ◌≤◌, refl, ◌∙◌, ap, arith, Bool, true, false, not, ◌||◌, cond, nat_lt, nat_le, List, [], ◌∷◌, Option}
use Rattle.std.proofs.lemmas.Bool.Decides.{nat_tests}
use Rattle.pict_core.specs.Configuration.{Entry, StampsRise}
use Rattle.pict_stepper.specs.Told.{is_either, put, put_all}
use Rattle.pict_stepper.proofs.Touched.{keeping, is_other}

rises : (low next : ℕ) (es : List Entry) → StampsRise low es next → low ≤ next
rises low next [] r = r
rises low next (e ∷ es) r = let later = rises (e.stamp + 1) next es r.1 in omega (arith, later, r.0)

-- ---- putting

put_first : (e : Entry) (next : ℕ) (es : List Entry) → StampsRise (e.stamp + 1) es next → put e es ≡ e ∷ es
put_first e next [] r = refl
put_first e next (d ∷ es) r =
    let low : e.stamp + 1 ≤ d.stamp = r.0 in
    let off : nat_lt d.stamp e.stamp ≡ false = grind (arith, nat_tests, low) in
    ap (λ b. cond b (d ∷ put e es) (e ∷ d ∷ es)) off

put_behind : (d e : Entry) (es : List Entry) → d.stamp < e.stamp → put e (d ∷ es) ≡ d ∷ put e es
put_behind d e es low =
    let on : nat_lt d.stamp e.stamp ≡ true = grind (arith, nat_tests, low) in
    ap (λ b. cond b (d ∷ put e es) (e ∷ d ∷ es)) on

one_behind : (b : Bool) (d e : Entry) (xs ys : List Entry) → d.stamp < e.stamp → put_all xs (d ∷ ys) ≡ d ∷ put_all xs ys
    → put_all (cond b (e ∷ xs) xs) (d ∷ ys) ≡ d ∷ put_all (cond b (e ∷ xs) xs) ys
one_behind true d e xs ys low h = ap (put e) h ∙ put_behind d e (put_all xs ys) low
one_behind false d e xs ys low h = h

all_behind : (f : ℕ → Bool) (d : Entry) (low next : ℕ) (es ys : List Entry) → d.stamp < low → StampsRise low es next
    → put_all (keeping f es) (d ∷ ys) ≡ d ∷ put_all (keeping f es) ys
all_behind f d low next [] ys h r = refl
all_behind f d low next (e ∷ es) ys h r =
    let above : d.stamp < e.stamp = omega (arith, h, r.0) in
    let beyond : d.stamp < e.stamp + 1 = omega (arith, above) in
    one_behind (f e.stamp) d e (keeping f es) ys above (all_behind f d (e.stamp + 1) next es ys beyond r.1)

one_more : (b : Bool) (e : Entry) (next : ℕ) (xs ys es : List Entry) → StampsRise (e.stamp + 1) es next
    → put_all xs (e ∷ ys) ≡ e ∷ put_all xs ys → put_all xs ys ≡ es → put_all (cond b (e ∷ xs) xs) (cond (not b) (e ∷ ys) ys) ≡ e ∷ es
one_more true e next xs ys es r behind h = ap (put e) h ∙ put_first e next es r
one_more false e next xs ys es r behind h = behind ∙ ap (λ zs. e ∷ zs) h

-- those that pass, put among those that don't, are all
pub put_together : (f : ℕ → Bool) (low next : ℕ) (es : List Entry) → StampsRise low es next → put_all (keeping f es) (keeping (λ k. not (f k)) es) ≡ es
put_together f low next [] r = refl
put_together f low next (e ∷ es) r =
    let beyond : e.stamp < e.stamp + 1 = omega arith in
    one_more (f e.stamp) e next (keeping f es) (keeping (λ k. not (f k)) es) es r.1
    (all_behind f e (e.stamp + 1) next es (keeping (λ k. not (f k)) es) beyond r.1) (put_together f (e.stamp + 1) next es r.1)

-- ---- where no stamp is new

or_false : (b : Bool) → b || false ≡ b
or_false true = refl
or_false false = refl

abbrev pub stays : ℕ → Option ℕ → ℕ → Bool
stays s r k = not (is_either s r k)

-- those that are touched are those who leave
pub none_is_new : (n s : ℕ) (r : Option ℕ) (low : ℕ) (es : List Entry) → StampsRise low es n → keeping (is_other n s r) es ≡ keeping (stays s r) es
none_is_new n s r low [] up = refl
none_is_new n s r low (e ∷ es) up =
    let later : e.stamp + 1 ≤ n = rises (e.stamp + 1) n es up.1 in
    let old : nat_le n e.stamp ≡ false = grind (arith, nat_tests, later) in
    let same : is_other n s r e.stamp ≡ stays s r e.stamp = ap (λ b. not (is_either s r e.stamp || b)) old ∙ ap not (or_false (is_either s r e.stamp)) in
    ap (λ b. cond b (e ∷ keeping (is_other n s r) es) (keeping (is_other n s r) es)) same
    ∙ ap (λ zs. cond (stays s r e.stamp) (e ∷ zs) zs) (none_is_new n s r (e.stamp + 1) es up.1)
