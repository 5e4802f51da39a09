-- From the left: each step into a nested application. The outermost is that to the last value.
use Rattle.std.proofs.Common.{◌≡◌, ℕ, suc, zero, ◌+◌, ◌≤◌, ◌<◌, refl, sym, ◌∙◌, ap, subst, List, [], ◌∷◌, ◌++◌, length, get_or, take, Option, None, arith}
use Rattle.pict_syntax.specs.declared.span.Span.{Span}
use Rattle.pict_syntax.specs.declared.id.Id.{Id}
use Rattle.pict_syntax.specs.Trees.{Val}
use Rattle.pict_types.specs.Types.{PlainType}
use Rattle.pict_rules.specs.Found.{Found, mentions_missing}
use Rattle.pict_rules.specs.Shapes.{applied_to, left_nested}
use Rattle.pict_rules.specs.Environments.{Environment}
use Rattle.pict_infer.specs.declared.error.InferError.{InferError}
use Rattle.pict_infer.specs.Answering.{IsRefused, IsStopped}
use Rattle.pict_lines.specs.Judging.{IsRefusedFor}
use Rattle.pict_lines.specs.Chains.{Applied, head, IsHead, nested_left, before_fields, wanted_first, room_stop, IsBegun, AreBegun, wanted_within}
use Rattle.pict_lines.proofs.Applying.{Field1, On, refused_by, roomless_by, both_first, on_fields, for_refused}

-- the application to the first n values
abbrev pub Taken : Span → Id → ℕ → List Val → Val
Taken s f n vs = nested_left s f (take n vs)

next_to : (s : Span) (f : Id) (v : Val) (ws : List Val) (n : ℕ) (d : Val) → n < length ws → left_nested s f v (take (suc n) ws) ≡ applied_to s f (left_nested s f v (take n ws)) (get_or ws n d)
next_to s f v [] n d h = absurd (omega arith)
next_to s f v (w ∷ ws) zero d h = refl
next_to s f v (w ∷ ws) (suc n) d h = next_to s f (applied_to s f v w) ws n d (omega arith)

-- the value one further out
pub left_next : (s : Span) (f : Id) (vs : List Val) (n : ℕ) (d : Val) → 1 ≤ n → n < length vs → Taken s f (suc n) vs ≡ applied_to s f (Taken s f n vs) (get_or vs n d)
left_next s f [] n d k h = absurd (omega arith)
left_next s f (v ∷ vs) zero d k h = absurd (omega arith)
left_next s f (v ∷ vs) (suc n) d k h = next_to s f v vs n d (omega arith)

take_all : (vs : List Val) → take (length vs) vs ≡ vs
take_all [] = refl
take_all (v ∷ vs) = ap (λ z. v ∷ z) (take_all vs)

pub left_all : (s : Span) (f : Id) (vs : List Val) → Taken s f (length vs) vs ≡ nested_left s f vs
left_all s f vs = ap (nested_left s f) (take_all vs)

-- a refusal within all applications that are begun is one of the whole
refused_to : (e : Environment) (s : Span) (f : Id) (o : Applied) (vs : List Val) (x : Option PlainType) (gs : List Found) (y : InferError) (n m : ℕ) (d : Val) → IsHead e f o → AreBegun e s o x gs → 1 ≤ n → n + length gs ≡ m → m ≤ length vs → IsRefusedFor e (Taken s f n vs) (wanted_within o x gs) y → IsRefusedFor e (Taken s f m vs) x y
refused_to e s f o vs x [] y n m d h k a b c r = subst (λ z. IsRefusedFor e (Taken s f z vs) x y) (omega (arith, b)) r
refused_to e s f o vs x (g ∷ gs) y n zero d h k a b c r = absurd (omega (arith, b))
refused_to e s f o vs x (g ∷ gs) y n (suc m) d h k a b c r =
    let l : n + length gs ≡ m = omega (arith, b) in
    let ih = refused_to e s f o vs (wanted_first o g) gs y n m d h k.1 a l (omega arith) r in
    subst (λ z. IsRefusedFor e z x y) (sym (left_next s f vs m d (omega arith) (omega arith)))
    (for_refused e s f (Taken s f m vs) (get_or vs m d) x y
    (on_fields e s f (Taken s f m vs) (get_or vs m d) o x y h
    (both_first e s (Taken s f m vs) (get_or vs m d) o (before_fields e o x) y
    (subst (λ z. IsRefused (Field1 e s (Taken s f m vs) o z) y) k.0.before
    (refused_by (mentions_missing g o.first) e s (Taken s f m vs) o.first g y k.0.room ih)))))

pub refused_within : (e : Environment) (s : Span) (f : Id) (o : Applied) (vs : List Val) (x : Option PlainType) (gs : List Found) (y : InferError) (n : ℕ) (d : Val) → IsHead e f o → AreBegun e s o x gs → 1 ≤ n → n + length gs ≡ length vs → IsRefusedFor e (Taken s f n vs) (wanted_within o x gs) y → IsRefusedFor e (nested_left s f vs) x y
refused_within e s f o vs x gs y n d h k a b r = subst (λ z. IsRefusedFor e z x y) (left_all s f vs) (refused_to e s f o vs x gs y n (length vs) d h k a b (omega arith) r)

-- one more is begun
pub begun_more : (e : Environment) (s : Span) (o : Applied) (x : Option PlainType) (gs : List Found) (g : Found) → AreBegun e s o x gs → IsBegun e s o (wanted_within o x gs) g → AreBegun e s o x (gs ++ g ∷ [])
begun_more e s o x [] g k h = (h, tt)
begun_more e s o x (g' ∷ gs) g k h = (k.0, begun_more e s o (wanted_first o g') gs g k.1 h)

pub within_more : (o : Applied) (x : Option PlainType) (gs : List Found) (g : Found) → wanted_within o x (gs ++ g ∷ []) ≡ wanted_first o g
within_more o x [] g = refl
within_more o x (g' ∷ gs) g = within_more o (wanted_first o g') gs g

-- the ways that an application that is begun ends
abbrev pub value_at : List Val → ℕ → Val → Val
value_at vs n d = get_or vs n d

pub left_refused : (e : Environment) (s : Span) (f : Id) (o : Applied) (vs : List Val) (x : Option PlainType) (fs : List Found) (n : ℕ) (d : Val) (y : InferError) → IsHead e f o → AreBegun e s o x fs → 1 ≤ n → suc n + length fs ≡ length vs → IsRefused (On e s f (Taken s f n vs) (value_at vs n d) (wanted_within o x fs)) y → IsRefusedFor e (nested_left s f vs) x y
left_refused e s f o vs x fs n d y h k a b r =
    refused_within e s f o vs x fs y (suc n) d h k (omega arith) b
    (subst (λ z. IsRefusedFor e z (wanted_within o x fs) y) (sym (left_next s f vs n d a (omega (arith, b)))) (for_refused e s f (Taken s f n vs) (value_at vs n d) (wanted_within o x fs) y r))

-- what is known of a step
pub record IsBeginning (e e' : Environment) (s : Span) (f : Id) (o : Applied) (vs : List Val) (x : Option PlainType) (fs : List Found) (b : Found) (w : Option PlainType) : Type 0 where
  pub head : IsHead e f o
  pub begun : AreBegun e s o x fs
  pub more : suc (length fs) < length vs
  pub before : b ≡ before_fields e' o w
  pub inside : w ≡ wanted_within o x fs
  pub same : e' ≡ e

begun_before : (e e' : Environment) (s : Span) (f : Id) (o : Applied) (vs : List Val) (x : Option PlainType) (fs : List Found) (b : Found) (w : Option PlainType) → IsBeginning e e' s f o vs x fs b w → b ≡ before_fields e o (wanted_within o x fs)
begun_before e e' s f o vs x fs b w p = p.before ∙ (ap (λ z. before_fields z o w) p.same ∙ ap (before_fields e o) p.inside)

pub beginning_refused : (e e' : Environment) (s : Span) (f : Id) (o : Applied) (vs : List Val) (x : Option PlainType) (fs : List Found) (b : Found) (w : Option PlainType) (d : Val) (y : InferError) (n : ℕ) → suc (suc n) + length fs ≡ length vs → IsBeginning e e' s f o vs x fs b w → IsStopped (room_stop e' s (wanted_first o b)) y → IsRefusedFor e (nested_left s f vs) x y
beginning_refused e e' s f o vs x fs b w d y n l p z =
    left_refused e s f o vs x fs (suc n) d y p.head p.begun (omega arith) l
    (on_fields e s f (Taken s f (suc n) vs) (value_at vs (suc n) d) o (wanted_within o x fs) y p.head
    (both_first e s (Taken s f (suc n) vs) (value_at vs (suc n) d) o (before_fields e o (wanted_within o x fs)) y
    (subst (λ g. IsRefused (Field1 e s (Taken s f (suc n) vs) o g) y) (begun_before e e' s f o vs x fs b w p)
    (roomless_by (mentions_missing b o.first) e s (Taken s f (suc n) vs) o.first b y (subst (λ k. IsStopped (room_stop k s (wanted_first o b)) y) p.same z)))))

pub beginning_more : (e e' : Environment) (s : Span) (f : Id) (o : Applied) (vs : List Val) (x : Option PlainType) (fs : List Found) (b : Found) (w : Option PlainType) → IsBeginning e e' s f o vs x fs b w → room_stop e' s (wanted_first o b) ≡ None → AreBegun e s o x (fs ++ b ∷ [])
beginning_more e e' s f o vs x fs b w p z =
    begun_more e s o x fs b p.begun
    (record {
      before = begun_before e e' s f o vs x fs b w p;
      room = subst (λ k. room_stop k s (wanted_first o b) ≡ None) p.same z;
    })

pub beginning_inside : (o : Applied) (x : Option PlainType) (fs : List Found) (g : Found) (w : Option PlainType) → w ≡ wanted_first o g → w ≡ wanted_within o x (fs ++ g ∷ [])
beginning_inside o x fs g w h = h ∙ sym (within_more o x fs g)
