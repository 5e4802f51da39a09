-- Names and values that are bound one after the other, under old names and under new ones.
use Rattle.std.proofs.Common.{◌≡◌, ℕ, suc, ◌+◌, ◌<◌, ◌≤◌, Bool, true, false, ◌||◌, if◌then◌else◌, List, [], ◌∷◌, ◌++◌, map, length, Option, Some, None, refl, sym, ◌∙◌, ap, subst, arith, nat_eq, eqb-true, eq-eqb, true≢false}
use Rattle.pict_core.specs.Term as core
use Rattle.pict_binders.specs.declared.binders.Binder.{Binder}
use Rattle.pict_binders.specs.Numbered.{nearest}
use Rattle.pict_scope.specs.Around.{is_among}
use Rattle.pict_translation.specs.Simple.{value_at, binding}

abbrev pub Values : Type 0
Values = List (ℕ × core.Val)

abbrev pub some : {A : Type 0} → A → Option A
some x = Some x

-- a test, with what it is
pub tested : (b : Bool) {P : Type 0} → (b ≡ true → P) → (b ≡ false → P) → P
tested true f g = f refl
tested false f g = g refl

pub never : {P : Type 0} {b : Bool} → b ≡ true → b ≡ false → P
never h k = absurd (true≢false (sym h ∙ k))

pub eq_itself : (n : ℕ) → nat_eq n n ≡ true
eq_itself n = eq-eqb n n refl

pub eq_back : (n m : ℕ) → nat_eq n m ≡ false → nat_eq m n ≡ false
eq_back n m h = tested (nat_eq m n) (λ t. never (eq-eqb n m (sym (eqb-true m n t))) h) (λ f. f)

pub not_eq : (n m : ℕ) → (n ≡ m → ⊥) → nat_eq n m ≡ false
not_eq n m f = tested (nat_eq n m) (λ t. absurd (f (eqb-true n m t))) (λ h. h)

pub or_right : (a b : Bool) → b ≡ true → (a || b) ≡ true
or_right true b h = refl
or_right false b h = h

pub or_left : (a b : Bool) → a ≡ true → (a || b) ≡ true
or_left a b h = ap (λ x. x || b) h

pub or_parts : (a b : Bool) → (a || b) ≡ false → (a ≡ false) × (b ≡ false)
or_parts true b h = never refl h
or_parts false b h = (refl, h)

pub or_other : (a b : Bool) → (a || b) ≡ true → b ≡ false → a ≡ true
or_other true b h k = refl
or_other false b h k = never h k

-- names in two lists, one behind the other
pub among_both : (ns ms : List ℕ) (n : ℕ) → is_among (ns ++ ms) n ≡ (is_among ns n || is_among ms n)
among_both [] ms n = refl
among_both (x ∷ ns) ms n = ap (λ b. nat_eq x n || b) (among_both ns ms n) ∙ go (nat_eq x n)
  where
    go : (b : Bool) → (b || (is_among ns n || is_among ms n)) ≡ ((b || is_among ns n) || is_among ms n)
    go true = refl
    go false = refl

-- no two of these names get one new name
abbrev pub Tells : (ℕ → ℕ) → List ℕ → Type 0
Tells h ns = (n m : ℕ) → is_among ns n ≡ true → is_among ns m ≡ true → h n ≡ h m → n ≡ m

-- old names ns are bound in e, which becomes e', as their new names are in d, which becomes d'
pub record Binds (ns : List ℕ) (h : ℕ → ℕ) (e e' d d' : Values) : Type 0 where
  pub inside : (n : ℕ) → is_among ns n ≡ true → (v : core.Val) × (value_at e' n ≡ Some v) × (value_at d' (h n) ≡ Some v)
  pub outside : (n : ℕ) → is_among ns n ≡ false → value_at e' n ≡ value_at e n
  pub others : (m : ℕ) → ((n : ℕ) → is_among ns n ≡ true → h n ≡ m → ⊥) → value_at d' m ≡ value_at d m

at_head : (n : ℕ) (v : core.Val) (e : Values) → value_at ((n, v) ∷ e) n ≡ Some v
at_head n v e = ap (λ b. if b then some v else value_at e n) (eq_itself n)

past_head : (n m : ℕ) (v : core.Val) (e : Values) → nat_eq n m ≡ false → value_at ((m, v) ∷ e) n ≡ value_at e n
past_head n m v e h = ap (λ b. if b then some v else value_at e n) h

more_binds : (x : ℕ) (ns : List ℕ) (h : ℕ → ℕ) (v : core.Val) (e e' d d' : Values) → Tells h (x ∷ ns) → Binds ns h ((x, v) ∷ e) e' ((h x, v) ∷ d) d' → Binds (x ∷ ns) h e e' d d'
more_binds x ns h v e e' d d' apart rest = record {
  inside = λ n k. tested (is_among ns n) (λ t. rest.inside n t) (λ f. here n (or_other (nat_eq x n) (is_among ns n) k f) f);
  outside = λ n k. let p = or_parts (nat_eq x n) (is_among ns n) k in rest.outside n p.1 ∙ past_head n x v e (eq_back x n p.0);
  others = λ m f. rest.others m (λ n k. f n (or_right (nat_eq x n) (is_among ns n) k)) ∙ past_head m (h x) v d (not_eq m (h x) (λ s. f x (or_left (nat_eq x x) (is_among ns x) (eq_itself x)) (sym s)));
}
  where
    here_own : is_among ns x ≡ false → (w : core.Val) × (value_at e' x ≡ Some w) × (value_at d' (h x) ≡ Some w)
    here_own f = (v, rest.outside x f ∙ at_head x v e, rest.others (h x) (λ m k s. never (subst (λ y. is_among ns y ≡ true) (apart m x (or_right (nat_eq x m) (is_among ns m) k) (or_left (nat_eq x x) (is_among ns x) (eq_itself x)) s) k) f) ∙ at_head (h x) v d)

    here : (n : ℕ) → nat_eq x n ≡ true → is_among ns n ≡ false → (w : core.Val) × (value_at e' n ≡ Some w) × (value_at d' (h n) ≡ Some w)
    here n s f = subst (λ y. is_among ns y ≡ false → (w : core.Val) × (value_at e' y ≡ Some w) × (value_at d' (h y) ≡ Some w)) (eqb-true x n s) here_own f

pub binds : (ns : List ℕ) (h : ℕ → ℕ) (vs : List core.Val) (e d : Values) → length ns ≤ length vs → Tells h ns → Binds ns h e (binding ns vs e) d (binding (map h ns) vs d)
binds [] h vs e d le apart = record { inside = λ n k. never k refl; outside = λ n k. refl; others = λ m k. refl }
binds (x ∷ ns) h [] e d le apart = absurd (omega (arith, le))
binds (x ∷ ns) h (v ∷ vs) e d le apart =
    more_binds x ns h v e (binding ns vs ((x, v) ∷ e)) d (binding (map h ns) vs ((h x, v) ∷ d)) apart
    (binds ns h vs ((x, v) ∷ e) ((h x, v) ∷ d) (omega (arith, le)) (λ n m p q. apart n m (or_right (nat_eq x n) (is_among ns n) p) (or_right (nat_eq x m) (is_among ns m) q)))

-- some, and then others
pub binds_both : (ns ms : List ℕ) (h : ℕ → ℕ) {e e' e'' d d' d'' : Values} → Tells h (ns ++ ms) → Binds ns h e e' d d' → Binds ms h e' e'' d' d'' → Binds (ns ++ ms) h e e'' d d''
binds_both ns ms h {e'' = e''} {d'' = d''} apart p q = record {
  inside = λ n k. tested (is_among ms n) (λ t. q.inside n t) (λ f. first n (or_other (is_among ns n) (is_among ms n) (sym (among_both ns ms n) ∙ k) f) f);
  outside = λ n k. let f = or_parts (is_among ns n) (is_among ms n) (sym (among_both ns ms n) ∙ k) in q.outside n f.1 ∙ p.outside n f.0;
  others = λ m f. q.others m (λ n k. f n (among_both ns ms n ∙ or_right (is_among ns n) (is_among ms n) k)) ∙ p.others m (λ n k. f n (among_both ns ms n ∙ or_left (is_among ns n) (is_among ms n) k));
}
  where
    first : (n : ℕ) → is_among ns n ≡ true → is_among ms n ≡ false → (v : core.Val) × (value_at e'' n ≡ Some v) × (value_at d'' (h n) ≡ Some v)
    first n t f =
        let x = p.inside n t in
        (x.0, q.outside n f ∙ x.1, q.others (h n) (λ m k s. never (subst (λ y. is_among ms y ≡ true) (apart m n (among_both ns ms m ∙ or_right (is_among ns m) (is_among ms m) k) (among_both ns ms n ∙ or_left (is_among ns n) (is_among ms n) t) s) k) f) ∙ x.2)

-- the nearest binder among these, and else among those
pub nearest_first : (bs cs : List Binder) (n k : ℕ) → nearest bs n ≡ Some k → nearest (bs ++ cs) n ≡ Some k
nearest_first [] cs n k h = absurd cc
nearest_first (b ∷ bs) cs n k h = go (nat_eq b.name n) h (nearest_first bs cs n k)
  where
    go : (t : Bool) → (if t then Some b.number else nearest bs n) ≡ Some k → (nearest bs n ≡ Some k → nearest (bs ++ cs) n ≡ Some k) → (if t then Some b.number else nearest (bs ++ cs) n) ≡ Some k
    go true e f = e
    go false e f = f e

pub nearest_later : (bs cs : List Binder) (n : ℕ) → nearest bs n ≡ None → nearest (bs ++ cs) n ≡ nearest cs n
nearest_later [] cs n h = refl
nearest_later (b ∷ bs) cs n h = go (nat_eq b.name n) h (nearest_later bs cs n)
  where
    go : (t : Bool) → (if t then Some b.number else nearest bs n) ≡ None → (nearest bs n ≡ None → nearest (bs ++ cs) n ≡ nearest cs n) → (if t then Some b.number else nearest (bs ++ cs) n) ≡ nearest cs n
    go true e f = absurd cc
    go false e f = f e

-- these names are bound more, each under a number from lo to below hi, and no two under one
pub record Opens (ns : List ℕ) (old new : List Binder) (lo hi : ℕ) : Type 0 where
  pub inside : (n : ℕ) → is_among ns n ≡ true → (k : ℕ) × (nearest new n ≡ Some k) × (lo ≤ k) × (k < hi)
  pub outside : (n : ℕ) → is_among ns n ≡ false → nearest new n ≡ nearest old n
  pub apart : (n m k : ℕ) → is_among ns n ≡ true → is_among ns m ≡ true → nearest new n ≡ Some k → nearest new m ≡ Some k → n ≡ m
  pub grows : lo ≤ hi

pub number_same : {o : Option ℕ} (j k : ℕ) → o ≡ Some j → o ≡ Some k → j ≡ k
number_same j k f g = let x : some j ≡ some k = sym f ∙ g in cc

-- nothing is bound
pub opens_none : {old new : List Binder} {lo hi : ℕ} → new ≡ old → lo ≤ hi → Opens [] old new lo hi
opens_none h le = record {
  inside = λ n k. never k refl;
  outside = λ n k. ap (λ x. nearest x n) h;
  apart = λ n m k p. never p refl;
  grows = le;
}

-- one name
pub one_name : (x n : ℕ) → is_among (x ∷ []) n ≡ true → x ≡ n
one_name x n h = eqb-true x n (or_other (nat_eq x n) false h refl)

pub at_one : (x k : ℕ) (bs : List Binder) → nearest (record { name = x; number = k } ∷ bs) x ≡ Some k
at_one x k bs = ap (λ b. if b then some k else nearest bs x) (eq_itself x)

pub past_one : (x k : ℕ) (bs : List Binder) (n : ℕ) → nat_eq x n ≡ false → nearest (record { name = x; number = k } ∷ bs) n ≡ nearest bs n
past_one x k bs n h = ap (λ b. if b then some k else nearest bs n) h

pub opens_one : (x k : ℕ) (bs : List Binder) → Opens (x ∷ []) bs (record { name = x; number = k } ∷ bs) k (suc k)
opens_one x k bs = record {
  inside = λ n t. (k, subst (λ m. nearest (record { name = x; number = k } ∷ bs) m ≡ Some k) (one_name x n t) (at_one x k bs), omega arith, omega arith);
  outside = λ n t. past_one x k bs n (or_parts (nat_eq x n) false t).0;
  apart = λ n m j p q e f. sym (one_name x n p) ∙ one_name x m q;
  grows = omega arith;
}

-- some, and then others
pub opens_both : {xs ys zs : List Binder} {lo mid hi : ℕ} (ns ms : List ℕ) → Opens ns xs ys lo mid → Opens ms ys zs mid hi → Opens (ns ++ ms) xs zs lo hi
opens_both {zs = zs} ns ms o p = record {
  inside = λ n k. tested (is_among ms n)
      (λ t. let i = p.inside n t in let g = o.grows in let le = i.2 in (i.0, i.1, omega (arith, g, le), i.3))
      (λ f. let i = o.inside n (first n k f) in let g = p.grows in let lt = i.3 in (i.0, p.outside n f ∙ i.1, i.2, omega (arith, g, lt)));
  outside = λ n k. let f = or_parts (is_among ns n) (is_among ms n) (sym (among_both ns ms n) ∙ k) in p.outside n f.1 ∙ o.outside n f.0;
  apart = λ n m k a e f g. tested (is_among ms n)
      (λ t. tested (is_among ms m) (λ u. p.apart n m k t u f g) (λ v. absurd (cross n m k t (first m e v) v f g)))
      (λ w. tested (is_among ms m)
      (λ u. absurd (cross m n k u (first n a w) w g f))
      (λ v. o.apart n m k (first n a w) (first m e v) (sym (p.outside n w) ∙ f) (sym (p.outside m v) ∙ g)));
  grows = let g = o.grows in let l = p.grows in omega (arith, g, l);
}
  where
    first : (n : ℕ) → is_among (ns ++ ms) n ≡ true → is_among ms n ≡ false → is_among ns n ≡ true
    first n k f = or_other (is_among ns n) (is_among ms n) (sym (among_both ns ms n) ∙ k) f

    -- numbers of the second are above those of the first
    cross : (n m k : ℕ) → is_among ms n ≡ true → is_among ns m ≡ true → is_among ms m ≡ false → nearest zs n ≡ Some k → nearest zs m ≡ Some k → ⊥
    cross n m k t u v f g =
        let i = p.inside n t in
        let j = o.inside m u in
        let a = number_same i.0 k i.1 f in
        let e = number_same j.0 k j.1 (sym (p.outside m v) ∙ g) in
        let le = i.2 in
        let lt = j.3 in
        omega (arith, a, e, le, lt)

-- and nothing more behind them
pub opens_on : {old new late : List Binder} {lo mid hi : ℕ} (ns : List ℕ) → late ≡ new → mid ≤ hi → Opens ns old new lo mid → Opens ns old late lo hi
opens_on ns h le o = record {
  inside = λ n k. let i = o.inside n k in let lt = i.3 in (i.0, ap (λ x. nearest x n) h ∙ i.1, i.2, omega (arith, lt, le));
  outside = λ n k. ap (λ x. nearest x n) h ∙ o.outside n k;
  apart = λ n m k p q e f. o.apart n m k p q (ap (λ x. nearest x n) (sym h) ∙ e) (ap (λ x. nearest x m) (sym h) ∙ f);
  grows = let g = o.grows in omega (arith, g, le);
}

-- the same names in another order
pub opens_as : {old new : List Binder} {lo hi : ℕ} (ns ms : List ℕ) → ((n : ℕ) → is_among ms n ≡ is_among ns n) → Opens ns old new lo hi → Opens ms old new lo hi
opens_as ns ms s o = record {
  inside = λ n k. o.inside n (sym (s n) ∙ k);
  outside = λ n k. o.outside n (sym (s n) ∙ k);
  apart = λ n m k p q. o.apart n m k (sym (s n) ∙ p) (sym (s m) ∙ q);
  grows = o.grows;
}

-- what is bound by itself, before others
pub opens_before : {bs : List Binder} {lo mid : ℕ} (ns : List ℕ) (cs : List Binder) (hi : ℕ) → Opens ns [] bs lo mid → mid ≤ hi → Opens ns cs (bs ++ cs) lo hi
opens_before {bs = bs} ns cs hi o le = record {
  inside = λ n t. let i = o.inside n t in let lt = i.3 in (i.0, nearest_first bs cs n i.0 i.1, i.2, omega (arith, lt, le));
  outside = λ n t. nearest_later bs cs n (o.outside n t);
  apart = λ n m k p q e f. o.apart n m k p q (own n k p e) (own m k q f);
  grows = let g = o.grows in omega (arith, g, le);
}
  where
    own : (n k : ℕ) → is_among ns n ≡ true → nearest (bs ++ cs) n ≡ Some k → nearest bs n ≡ Some k
    own n k t e = let i = o.inside n t in subst (λ j. nearest bs n ≡ Some j) (number_same i.0 k (nearest_first bs cs n i.0 i.1) e) i.1

-- new names that are told by the numbers
abbrev pub TellsOf : ℕ → (ℕ → ℕ) → List ℕ → List Binder → Type 0
TellsOf base h ns new = (n k : ℕ) → is_among ns n ≡ true → nearest new n ≡ Some k → h n ≡ base + k

pub told_apart : {old new : List Binder} {lo hi : ℕ} (base : ℕ) (ns : List ℕ) (h : ℕ → ℕ) → Opens ns old new lo hi → TellsOf base h ns new → Tells h ns
told_apart {new = new} base ns h o t n m p q e =
    let i = o.inside n p in
    let j = o.inside m q in
    let a = t n i.0 p i.1 in
    let b = t m j.0 q j.1 in
    let s : j.0 ≡ i.0 = omega (arith, a, b, e) in
    o.apart n m i.0 p q i.1 (subst (λ k. nearest new m ≡ Some k) s j.1)
