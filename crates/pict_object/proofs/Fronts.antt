-- What stands at the front of bytes: numbers, bytes and texts that are read are those that were written, and what was written is
-- read again.
use Rattle.std.proofs.Common.{◌≡◌, ℕ, suc, ◌+◌, ◌%◌, ◌^◌, ◌<◌, ◌≤◌, pos, Bool, true, false, cond, ltb, List, [], ◌∷◌, ◌++◌, length, get_or, take, drop, Option, Some, None, refl, sym, ap, subst, ◌∙◌, append_assoc, arith, inl, inr}
use Rattle.std.specs.Prelude.{IfSome, FitsSigned}
use Rattle.std.specs.Int.{Width, w32, w64, byte_len, from_be_bytes, to_be_bytes, cast_signed, int_wrap}
use Rattle.std.proofs.lemmas.Bool.{cases_lt, ltb-false, le-ltb}
use Rattle.std.proofs.lemmas.Int.{SFits-int_wrap}
use Rattle.std.proofs.lemmas.List.{take_at, drop_at, take-append-drop, length-append, length-take, get_or-drop, get_or-take, get_or_past}
use Rattle.std.proofs.lemmas.Nat.{be_bytes_4, be_bytes_8, from_be_bytes-to_be_bytes_4, from_be_bytes-to_be_bytes_8}
use Rattle.pict_object.specs.Objects.{count_bytes}
use Rattle.pict_object.specs.Reading.{◌>>=◌, number_at, byte_at, text_at}

abbrev pub IsBytes : List ℕ → Type 0
IsBytes bytes = (i : ℕ) → get_or bytes i 0 < 256

pub IsBytes-drop : (n : ℕ) (bytes : List ℕ) → IsBytes bytes → IsBytes (drop n bytes)
IsBytes-drop n bytes h i = rw get_or-drop (h (n + i))

IsBytes-take : (n : ℕ) (bytes : List ℕ) → IsBytes bytes → IsBytes (take n bytes)
IsBytes-take n bytes h i =
    elim (cases_lt i n) [
      | inl lt ↦ rw (get_or-take n bytes i 0 lt) (h i)
      | inr le ↦ rw (get_or_past (take n bytes) i 0 (omega (arith, length-take n bytes))) (omega arith)
    ]

pub IsBytes-rest : (byte : ℕ) (bytes : List ℕ) → IsBytes (byte ∷ bytes) → IsBytes bytes
IsBytes-rest byte bytes h i = h (suc i)

-- what a reader took from the front, and what is behind it
pub record Takes (bytes text rest : List ℕ) : Type 0 where
  pub parts : bytes ≡ text ++ rest
  pub fits : IsBytes rest

pub takes_none : (bytes : List ℕ) → IsBytes bytes → Takes bytes [] bytes
takes_none bytes fits = record { parts = refl; fits = fits }

pub takes_both : (a x b y c : List ℕ) → Takes a x b → Takes b y c → Takes a (x ++ y) c
takes_both a x b y c p q = record { parts = p.parts ∙ ap (λ t. x ++ t) q.parts ∙ sym (append_assoc x y c); fits = q.fits }

pub takes_tag : (tag : ℕ) (rest text behind : List ℕ) → Takes rest text behind → Takes (tag ∷ rest) (tag ∷ text) behind
takes_tag tag rest text behind h = record { parts = ap (λ z. tag ∷ z) h.parts; fits = h.fits }

-- ---- readings, step by step

pub if_then : {A B : Type 0} (r : Option A) (f : A → Option B) (P : A → Type 0) (Q : B → Type 0) → IfSome r P → ((x : A) → P x → IfSome (f x) Q) → IfSome (r >>= f) Q
if_then None f P Q h k = tt
if_then (Some x) f P Q h k = k x h

pub if_not : {A : Type 0} (b : Bool) (x : Option A) (P : A → Type 0) → (b ≡ false → IfSome x P) → IfSome (cond b None x) P
if_not true x P h = tt
if_not false x P h = h refl

pub if_either : {A : Type 0} (b : Bool) (x y : Option A) (P : A → Type 0) → (b ≡ true → IfSome x P) → IfSome y P → IfSome (cond b x y) P
if_either true x y P h k = h refl
if_either false x y P h k = k

pub if_weaker : {A : Type 0} (o : Option A) (P Q : A → Type 0) → ((x : A) → P x → Q x) → IfSome o P → IfSome o Q
if_weaker None P Q f h = tt
if_weaker (Some x) P Q f h = f x h

-- ---- numbers

pub record IsWide (w : Width) (limit : ℕ) : Type 0 where
  pub len : (n : ℕ) → length (to_be_bytes w n) ≡ byte_len w
  pub back : (bytes : List ℕ) → length bytes ≡ byte_len w → IsBytes bytes → to_be_bytes w (from_be_bytes w bytes) ≡ bytes
  pub again : (n : ℕ) → n < limit → from_be_bytes w (to_be_bytes w n) ≡ n
  pub below : (bytes : List ℕ) → IsBytes bytes → from_be_bytes w bytes < limit

pub wide32 : IsWide w32 (2 ^ 32)
wide32 = record {
  len = λ n. refl;
  back = λ bytes len fits. be_bytes_4 bytes _ len fits refl;
  again = λ n lt. from_be_bytes-to_be_bytes_4 n lt;
  below = λ bytes fits. omega (arith, fits 0, fits 1, fits 2, fits 3);
}

pub wide64 : IsWide w64 (2 ^ 64)
wide64 = record {
  len = λ n. refl;
  back = λ bytes len fits. be_bytes_8 bytes _ len fits refl;
  again = λ n lt. from_be_bytes-to_be_bytes_8 n lt;
  below = λ bytes fits. omega (arith, fits 0, fits 1, fits 2, fits 3, fits 4, fits 5, fits 6, fits 7);
}

abbrev pub IsNumberRead : Width → ℕ → List ℕ → ℕ × List ℕ → Type 0
IsNumberRead w limit bytes r = Takes bytes (to_be_bytes w r.0) r.1 × (r.0 < limit)

pub number_read : (w : Width) (limit : ℕ) → IsWide w limit → (bytes : List ℕ) → IsBytes bytes → IfSome (number_at w bytes) (IsNumberRead w limit bytes)
number_read w limit wide bytes fits =
    if_not (ltb (length bytes) (byte_len w)) (Some (from_be_bytes w (take (byte_len w) bytes), drop (byte_len w) bytes)) (IsNumberRead w limit bytes) (λ e.
    let long : byte_len w ≤ length bytes = ltb-false (length bytes) (byte_len w) e in
    let front : to_be_bytes w (from_be_bytes w (take (byte_len w) bytes)) ≡ take (byte_len w) bytes =
    wide.back (take (byte_len w) bytes) (omega (arith, length-take (byte_len w) bytes)) (IsBytes-take (byte_len w) bytes fits) in (
      record { parts = sym (take-append-drop (byte_len w) bytes) ∙ ap (λ t. t ++ drop (byte_len w) bytes) (sym front); fits = IsBytes-drop (byte_len w) bytes fits },
      wide.below (take (byte_len w) bytes) (IsBytes-take (byte_len w) bytes fits),
    ))

pub number_again : (w : Width) (limit : ℕ) → IsWide w limit → (n : ℕ) (rest : List ℕ) → n < limit → number_at w (to_be_bytes w n ++ rest) ≡ Some (n, rest)
number_again w limit wide n rest lt =
    let len = wide.len n in
    let long : ltb (length (to_be_bytes w n ++ rest)) (byte_len w) ≡ false = le-ltb _ _ (omega (arith, length-append (to_be_bytes w n) rest)) in
    rw (long, take_at (to_be_bytes w n) rest (byte_len w) len, drop_at (to_be_bytes w n) rest (byte_len w) len, wide.again n lt) refl

pub count_again : (n : ℕ) (rest : List ℕ) → n < 2 ^ 32 → number_at w32 (count_bytes n ++ rest) ≡ Some (n, rest)
count_again n rest lt = number_again w32 (2 ^ 32) wide32 n rest lt

-- the number with sign of 64 bits fits them
pub signed_fits : (n : ℕ) → n < 2 ^ 64 → FitsSigned w64 (cast_signed w64 n)
unfolding int_wrap
signed_fits n h =
    let same : n % 2 ^ 64 ≡ n = omega arith in
    subst (λ m. FitsSigned w64 (cast_signed w64 m)) same (SFits-int_wrap w64 (pos n))

-- ---- bytes and texts

abbrev pub IsByteRead : List ℕ → ℕ × List ℕ → Type 0
IsByteRead bytes r = Takes bytes (r.0 ∷ []) r.1

pub byte_read : (bytes : List ℕ) → IsBytes bytes → IfSome (byte_at bytes) (IsByteRead bytes)
unfolding byte_at
byte_read [] fits = tt
byte_read (byte ∷ rest) fits = record { parts = refl; fits = IsBytes-rest byte rest fits }

abbrev pub IsTextRead : List ℕ → List ℕ × List ℕ → Type 0
IsTextRead bytes r = Takes bytes (count_bytes (length r.0) ++ r.0) r.1 × (length r.0 < 2 ^ 32)

pub text_read : (bytes : List ℕ) → IsBytes bytes → IfSome (text_at bytes) (IsTextRead bytes)
unfolding text_at
text_read bytes fits =
    if_then (number_at w32 bytes) (λ n. cond (ltb (length n.1) n.0) None (Some (take n.0 n.1, drop n.0 n.1))) (IsNumberRead w32 (2 ^ 32) bytes) (IsTextRead bytes)
    (number_read w32 (2 ^ 32) wide32 bytes fits) (λ n h.
    if_not (ltb (length n.1) n.0) (Some (take n.0 n.1, drop n.0 n.1)) (IsTextRead bytes) (λ e.
    let long : n.0 ≤ length n.1 = ltb-false (length n.1) n.0 e in
    let len : length (take n.0 n.1) ≡ n.0 = omega (arith, length-take n.0 n.1) in
    let second : Takes n.1 (take n.0 n.1) (drop n.0 n.1) = record { parts = sym (take-append-drop n.0 n.1); fits = IsBytes-drop n.0 n.1 h.0.fits } in (
      subst (λ k. Takes bytes (count_bytes k ++ take n.0 n.1) (drop n.0 n.1)) (sym len) (takes_both bytes (count_bytes n.0) n.1 (take n.0 n.1) (drop n.0 n.1) h.0 second),
      omega (arith, h.1, len),
    )))

pub text_again : (text rest : List ℕ) → length text < 2 ^ 32 → text_at (count_bytes (length text) ++ (text ++ rest)) ≡ Some (text, rest)
unfolding text_at
text_again text rest lt =
    let long : ltb (length (text ++ rest)) (length text) ≡ false = le-ltb _ _ (omega (arith, length-append text rest)) in
    ap (λ z. z >>= λ n. cond (ltb (length n.1) n.0) None (Some (take n.0 n.1, drop n.0 n.1))) (count_again (length text) (text ++ rest) lt)
    ∙ rw (long, take_at text rest (length text) refl, drop_at text rest (length text) refl) refl
