-- Entries put in the order of their stamps.
use Rattle.std.proofs.Common.{ℕ, ◌≡◌, ◌≤◌, ◌<◌, Bool, true, false, nat_eq, nat_lt, not, cond, ◌⊎◌, inl, inr, List, [], ◌∷◌, ◌++◌, map, filter, refl, sym, ap, ◌∙◌, Some, None, arith}
use Rattle.std.specs.List.{AllByRecursion}
use Rattle.std.proofs.lemmas.Bool.Decides.{nat_tests}
use Rattle.pict_core.specs.Term.{Process}
use Rattle.pict_core.specs.Configuration.{Entry}
use Rattle.pict_core.specs.Step.{least, entry_at, with_process}
use Rattle.pict_core.proofs.Partners.{own_channel}
use Rattle.pict_network.specs.Network.{put, by_stamp}
use Rattle.pict_network.specs.Invariant.{Apart, Below}

-- ---- lists

pub all_append : {X : Type 0} (P : X → Type 0) (xs ys : List X) → AllByRecursion P xs → AllByRecursion P ys → AllByRecursion P (xs ++ ys)
all_append P [] ys h k = k
all_append P (x ∷ xs) ys h k = (h.0, all_append P xs ys h.1 k)

pub all_front : {X : Type 0} (P : X → Type 0) (xs ys : List X) → AllByRecursion P (xs ++ ys) → AllByRecursion P xs
all_front P [] ys h = tt
all_front P (x ∷ xs) ys h = (h.0, all_front P xs ys h.1)

pub all_rest : {X : Type 0} (P : X → Type 0) (xs ys : List X) → AllByRecursion P (xs ++ ys) → AllByRecursion P ys
all_rest P [] ys h = h
all_rest P (x ∷ xs) ys h = all_rest P xs ys h.1

abbrev pub is_other : ℕ → Entry → Type 0
is_other t e = nat_eq t e.stamp ≡ false

abbrev pub is_below : ℕ → Entry → Type 0
is_below n e = e.stamp < n

-- ---- stamps

pub less : (a b : ℕ) → a < b → nat_lt a b ≡ true
less a b h = grind (arith, nat_tests)

pub no_less : (a b : ℕ) → b ≤ a → nat_lt a b ≡ false
no_less a b h = grind (arith, nat_tests)

pub is_less : (a b : ℕ) → nat_lt a b ≡ true → a < b
is_less a b h = grind (arith, nat_tests)

pub is_no_less : (a b : ℕ) → nat_lt a b ≡ false → b ≤ a
is_no_less a b h = grind (arith, nat_tests)

differ : (a b : ℕ) → nat_eq a b ≡ false → a ≡ b → ⊥
differ a b h e = grind (arith, nat_tests)

pub apart_back : (a b : ℕ) → nat_eq a b ≡ false → nat_eq b a ≡ false
apart_back a b h = grind (arith, nat_tests)

pub tests : (b : Bool) → (b ≡ true) ⊎ (b ≡ false)
tests true = inl refl
tests false = inr refl

pub unequal_below : (a b : ℕ) → a < b → nat_eq a b ≡ false
unequal_below a b h = grind (arith, nat_tests)

pub unequal_above : (a b : ℕ) → b < a → nat_eq a b ≡ false
unequal_above a b h = grind (arith, nat_tests)

pub put_first : (e f : Entry) (fs : List Entry) → e.stamp < f.stamp → put e (f ∷ fs) ≡ e ∷ f ∷ fs
put_first e f fs h = ap (λ b. cond b (e ∷ f ∷ fs) (f ∷ put e fs)) (less e.stamp f.stamp h)

pub put_later : (e f : Entry) (fs : List Entry) → f.stamp ≤ e.stamp → put e (f ∷ fs) ≡ f ∷ put e fs
put_later e f fs h = ap (λ b. cond b (e ∷ f ∷ fs) (f ∷ put e fs)) (no_less e.stamp f.stamp h)

-- a before b
ordered : (a b f : Entry) (fs : List Entry) → a.stamp < b.stamp → put a (put b fs) ≡ put b (put a fs) → put a (put b (f ∷ fs)) ≡ put b (put a (f ∷ fs))
ordered a b f fs h rest = elim (tests (nat_lt b.stamp f.stamp)) [
  | inl k ↦
      let less_b = is_less b.stamp f.stamp k in
      let less_a : a.stamp < f.stamp = omega (arith, h, less_b) in
      ap (put a) (put_first b f fs less_b) ∙ put_first a b (f ∷ fs) h ∙ sym (ap (put b) (put_first a f fs less_a) ∙ put_later b a (f ∷ fs) (omega (arith, h)) ∙ ap (λ z. a ∷ z) (put_first b f fs less_b))
  | inr k ↦
      let more_b = is_no_less b.stamp f.stamp k in
      elim (tests (nat_lt a.stamp f.stamp)) [
        | inl l ↦
            let less_a = is_less a.stamp f.stamp l in
            ap (put a) (put_later b f fs more_b) ∙ put_first a f (put b fs) less_a ∙ sym (ap (put b) (put_first a f fs less_a) ∙ put_later b a (f ∷ fs) (omega (arith, h)) ∙ ap (λ z. a ∷ z) (put_later b f fs more_b))
        | inr l ↦
            let more_a = is_no_less a.stamp f.stamp l in
            ap (put a) (put_later b f fs more_b) ∙ put_later a f (put b fs) more_a ∙ ap (λ z. f ∷ z) rest ∙ sym (ap (put b) (put_later a f fs more_a) ∙ put_later b f (put a fs) more_b)
      ]
]

one_before : (a b : Entry) → a.stamp < b.stamp → put a (b ∷ []) ≡ put b (a ∷ [])
one_before a b h = put_first a b [] h ∙ sym (put_later b a [] (omega (arith, h)))

swapped : (a b : Entry) (es : List Entry) → a.stamp < b.stamp → put a (put b es) ≡ put b (put a es)
swapped a b [] h = one_before a b h
swapped a b (f ∷ fs) h = ordered a b f fs h (swapped a b fs h)

below_other : (a b : ℕ) → nat_eq a b ≡ false → b ≤ a → b < a
below_other a b h k = grind (arith, nat_tests)

either : (a b : ℕ) → nat_eq a b ≡ false → (a < b) ⊎ (b < a)
either a b h = elim (tests (nat_lt a b)) [ inl k ↦ inl (is_less a b k) | inr k ↦ inr (below_other a b h (is_no_less a b k)) ]

pub put_swap : (a b : Entry) (es : List Entry) → nat_eq a.stamp b.stamp ≡ false → put a (put b es) ≡ put b (put a es)
put_swap a b es h = elim (either a.stamp b.stamp h) [ inl k ↦ swapped a b es k | inr k ↦ sym (swapped b a es k) ]

-- an entry may be put last, wherever it stands
pub pull : (xs : List Entry) (x : Entry) (ys : List Entry) → Apart x.stamp xs → by_stamp (xs ++ x ∷ ys) ≡ put x (by_stamp (xs ++ ys))
pull [] x ys h = refl
pull (z ∷ xs) x ys h = ap (put z) (pull xs x ys h.1) ∙ put_swap z x (by_stamp (xs ++ ys)) (apart_back x.stamp z.stamp h.0)

-- ---- what is apart

chosen_apart : (t : ℕ) (b : Bool) (xs ys : List Entry) → Apart t xs → Apart t ys → Apart t (cond b xs ys)
chosen_apart t true xs ys h k = h
chosen_apart t false xs ys h k = k

pub apart_put : (t : ℕ) (e : Entry) (es : List Entry) → nat_eq t e.stamp ≡ false → Apart t es → Apart t (put e es)
apart_put t e [] h k = (h, tt)
apart_put t e (f ∷ fs) h k = chosen_apart t (nat_lt e.stamp f.stamp) (e ∷ f ∷ fs) (f ∷ put e fs) (h, k) (k.0, apart_put t e fs h k.1)

pub apart_by_stamp : (t : ℕ) (es : List Entry) → Apart t es → Apart t (by_stamp es)
apart_by_stamp t [] h = tt
apart_by_stamp t (e ∷ es) h = apart_put t e (by_stamp es) h.0 (apart_by_stamp t es h.1)

chosen_below : (n : ℕ) (b : Bool) (xs ys : List Entry) → Below n xs → Below n ys → Below n (cond b xs ys)
chosen_below n true xs ys h k = h
chosen_below n false xs ys h k = k

pub below_put : (n : ℕ) (e : Entry) (es : List Entry) → e.stamp < n → Below n es → Below n (put e es)
below_put n e [] h k = (h, tt)
below_put n e (f ∷ fs) h k = chosen_below n (nat_lt e.stamp f.stamp) (e ∷ f ∷ fs) (f ∷ put e fs) (h, k) (k.0, below_put n e fs h k.1)

pub below_by_stamp : (n : ℕ) (es : List Entry) → Below n es → Below n (by_stamp es)
below_by_stamp n [] h = tt
below_by_stamp n (e ∷ es) h = below_put n e (by_stamp es) h.0 (below_by_stamp n es h.1)

-- ---- what steps do to an entry that is put

-- an entry of the greatest stamp goes last
pub put_last : (e : Entry) (es : List Entry) → Below e.stamp es → put e es ≡ es ++ e ∷ []
put_last e [] h = refl
put_last e (f ∷ fs) h = put_later e f fs (omega (arith, h.0)) ∙ ap (λ z. f ∷ z) (put_last e fs h.1)

not_gone : (t : ℕ) (es : List Entry) → Apart t es → filter (λ (e : Entry). not (nat_eq t e.stamp)) es ≡ es
not_gone t [] h = refl
not_gone t (e ∷ es) h =
    ap (λ b. cond (not b) (e ∷ filter (λ (e : Entry). not (nat_eq t e.stamp)) es) (filter (λ (e : Entry). not (nat_eq t e.stamp)) es)) h.0 ∙ ap (λ z. e ∷ z) (not_gone t es h.1)

own_gone : (e : Entry) (es : List Entry) → Apart e.stamp es → filter (λ (u : Entry). not (nat_eq e.stamp u.stamp)) (e ∷ es) ≡ es
own_gone e es h =
    ap (λ b. cond (not b) (e ∷ filter (λ (u : Entry). not (nat_eq e.stamp u.stamp)) es) (filter (λ (u : Entry). not (nat_eq e.stamp u.stamp)) es)) (own_channel e.stamp) ∙ not_gone e.stamp es h

-- what is put goes away again
pub gone_put : (e : Entry) (es : List Entry) → Apart e.stamp es → filter (λ (u : Entry). not (nat_eq e.stamp u.stamp)) (put e es) ≡ es
gone_put e [] h = own_gone e [] tt
gone_put e (f ∷ fs) h = elim (tests (nat_lt e.stamp f.stamp)) [
  | inl k ↦ ap (filter (λ (u : Entry). not (nat_eq e.stamp u.stamp))) (put_first e f fs (is_less e.stamp f.stamp k)) ∙ own_gone e (f ∷ fs) h
  | inr k ↦ ap (filter (λ (u : Entry). not (nat_eq e.stamp u.stamp))) (put_later e f fs (is_no_less e.stamp f.stamp k))
      ∙ ap (λ b. cond (not b) (f ∷ filter (λ (u : Entry). not (nat_eq e.stamp u.stamp)) (put e fs)) (filter (λ (u : Entry). not (nat_eq e.stamp u.stamp)) (put e fs))) h.0
      ∙ ap (λ z. f ∷ z) (gone_put e fs h.1)
]

not_kept : (t : ℕ) (p : Process) (es : List Entry) → Apart t es → map (with_process t p) es ≡ es
not_kept t p [] h = refl
not_kept t p (e ∷ es) h = ap (λ b. cond b (record e { process = p }) e ∷ map (with_process t p) es) h.0 ∙ ap (λ z. e ∷ z) (not_kept t p es h.1)

own_kept : (e : Entry) (p : Process) (es : List Entry) → Apart e.stamp es → map (with_process e.stamp p) (e ∷ es) ≡ record e { process = p } ∷ es
own_kept e p es h = ap (λ b. cond b (record e { process = p }) e ∷ map (with_process e.stamp p) es) (own_channel e.stamp) ∙ ap (λ z. record e { process = p } ∷ z) (not_kept e.stamp p es h)

-- what is put gets another process
pub kept_put : (e : Entry) (p : Process) (es : List Entry) → Apart e.stamp es → map (with_process e.stamp p) (put e es) ≡ put (record e { process = p }) es
kept_put e p [] h = own_kept e p [] tt
kept_put e p (f ∷ fs) h = elim (tests (nat_lt e.stamp f.stamp)) [
  | inl k ↦ ap (map (with_process e.stamp p)) (put_first e f fs (is_less e.stamp f.stamp k)) ∙ own_kept e p (f ∷ fs) h ∙ sym (put_first (record e { process = p }) f fs (is_less e.stamp f.stamp k))
  | inr k ↦ ap (map (with_process e.stamp p)) (put_later e f fs (is_no_less e.stamp f.stamp k))
      ∙ ap (λ b. cond b (record f { process = p }) f ∷ map (with_process e.stamp p) (put e fs)) h.0
      ∙ ap (λ z. f ∷ z) (kept_put e p fs h.1) ∙ sym (put_later (record e { process = p }) f fs (is_no_less e.stamp f.stamp k))
]

own_found : (e : Entry) (es : List Entry) → entry_at e.stamp (e ∷ es) ≡ Some e
own_found e es = ap (λ b. cond b (Some e) (entry_at e.stamp es)) (own_channel e.stamp)

-- what is put is found
pub found_put : (e : Entry) (es : List Entry) → Apart e.stamp es → entry_at e.stamp (put e es) ≡ Some e
found_put e [] h = own_found e []
found_put e (f ∷ fs) h = elim (tests (nat_lt e.stamp f.stamp)) [
  | inl k ↦ ap (entry_at e.stamp) (put_first e f fs (is_less e.stamp f.stamp k)) ∙ own_found e (f ∷ fs)
  | inr k ↦ ap (entry_at e.stamp) (put_later e f fs (is_no_less e.stamp f.stamp k)) ∙ ap (λ b. cond b (Some f) (entry_at e.stamp (put e fs))) h.0 ∙ found_put e fs h.1
]

-- ---- the least that passes a test

abbrev pub passes_above : ℕ → (Entry → Bool) → Entry → Type 0
passes_above t test e = test e ≡ true → t < e.stamp

-- each that passes the test has a greater stamp
abbrev pub PassAbove : ℕ → (Entry → Bool) → List Entry → Type 0
PassAbove t test es = AllByRecursion (passes_above t test) es

failed : (test : Entry → Bool) (e : Entry) (es : List Entry) → test e ≡ false → least test (e ∷ es) ≡ least test es
failed test e es h = ap (λ b. cond b (Some e) (least test es)) h

passed : (test : Entry → Bool) (e : Entry) (es : List Entry) → test e ≡ true → least test (e ∷ es) ≡ Some e
passed test e es h = ap (λ b. cond b (Some e) (least test es)) h

same_least : (test : Entry → Bool) (f : Entry) (xs ys : List Entry) → least test xs ≡ least test ys → least test (f ∷ xs) ≡ least test (f ∷ ys)
same_least test f xs ys h = ap (λ o. cond (test f) (Some f) o) h

-- what fails the test doesn't count
pub least_other : (test : Entry → Bool) (e : Entry) (es : List Entry) → test e ≡ false → least test (put e es) ≡ least test es
least_other test e [] h = failed test e [] h
least_other test e (f ∷ fs) h = elim (tests (nat_lt e.stamp f.stamp)) [
  | inl k ↦ ap (least test) (put_first e f fs (is_less e.stamp f.stamp k)) ∙ failed test e (f ∷ fs) h
  | inr k ↦ ap (least test) (put_later e f fs (is_no_less e.stamp f.stamp k)) ∙ same_least test f (put e fs) fs (least_other test e fs h)
]

-- what passes it below all others that do is the least
fails_below : (test : Entry → Bool) (f : Entry) (t : ℕ) → f.stamp ≤ t → (test f ≡ true → t < f.stamp) → test f ≡ false
fails_below test f t l h = elim (tests (test f)) [ inl k ↦ absurd (omega (arith, l, h k)) | inr k ↦ k ]

pub least_put : (test : Entry → Bool) (e : Entry) (es : List Entry) → test e ≡ true → PassAbove e.stamp test es → least test (put e es) ≡ Some e
least_put test e [] h k = passed test e [] h
least_put test e (f ∷ fs) h k = elim (tests (nat_lt e.stamp f.stamp)) [
  | inl l ↦ ap (least test) (put_first e f fs (is_less e.stamp f.stamp l)) ∙ passed test e (f ∷ fs) h
  | inr l ↦
      let fails : test f ≡ false = fails_below test f e.stamp (is_no_less e.stamp f.stamp l) k.0 in
      ap (least test) (put_later e f fs (is_no_less e.stamp f.stamp l)) ∙ failed test f (put e fs) fails ∙ least_put test e fs h k.1
]

chosen_above : (t : ℕ) (test : Entry → Bool) (b : Bool) (xs ys : List Entry) → PassAbove t test xs → PassAbove t test ys → PassAbove t test (cond b xs ys)
chosen_above t test true xs ys h k = h
chosen_above t test false xs ys h k = k

above_put : (t : ℕ) (test : Entry → Bool) (e : Entry) (es : List Entry) → (test e ≡ true → t < e.stamp) → PassAbove t test es → PassAbove t test (put e es)
above_put t test e [] h k = (h, tt)
above_put t test e (f ∷ fs) h k = chosen_above t test (nat_lt e.stamp f.stamp) (e ∷ f ∷ fs) (f ∷ put e fs) (h, k) (k.0, above_put t test e fs h k.1)

pub above_by_stamp : (t : ℕ) (test : Entry → Bool) (es : List Entry) → PassAbove t test es → PassAbove t test (by_stamp es)
above_by_stamp t test [] h = tt
above_by_stamp t test (e ∷ es) h = above_put t test e (by_stamp es) h.0 (above_by_stamp t test es h.1)

abbrev pub fails : (Entry → Bool) → Entry → Type 0
fails test e = test e ≡ false

-- none passes
abbrev pub NonePasses : (Entry → Bool) → List Entry → Type 0
NonePasses test es = AllByRecursion (fails test) es

pub least_of_none : (test : Entry → Bool) (es : List Entry) → NonePasses test es → least test (by_stamp es) ≡ None
least_of_none test [] h = refl
least_of_none test (e ∷ es) h = least_other test e (by_stamp es) h.0 ∙ least_of_none test es h.1

-- those in front that fail don't count
pub least_behind : (test : Entry → Bool) (xs ys : List Entry) → NonePasses test xs → least test (by_stamp (xs ++ ys)) ≡ least test (by_stamp ys)
least_behind test [] ys h = refl
least_behind test (x ∷ xs) ys h = least_other test x (by_stamp (xs ++ ys)) h.0 ∙ least_behind test xs ys h.1
