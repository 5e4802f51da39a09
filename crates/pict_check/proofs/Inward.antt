-- From the right: each step into a nested application. The outermost is that to the first value.
use Rattle.std.proofs.Common.{ℕ, suc, ◌<◌, sym, subst, List, length, get_or, drop, Option, arith, ◌≡◌, refl, ◌∙◌, [], ◌∷◌, ◌++◌, None}
use Rattle.pict_syntax.specs.declared.span.Span.{Span}
use Rattle.pict_syntax.specs.declared.id.Id.{Id}
use Rattle.pict_syntax.specs.Trees.{Val}
use Rattle.pict_types.specs.Types.{PlainType}
use Rattle.pict_rules.specs.Found.{Found, mentions_missing}
use Rattle.pict_rules.specs.Environments.{Environment}
use Rattle.pict_rules.specs.Rules.{found_, value_fits, application, ok}
use Rattle.pict_infer.specs.Asking.{IsWellAsked}
use Rattle.pict_lines.specs.Judging.{IsAskedFor, IsFor, IsRefusedFor}
use Rattle.pict_lines.specs.Chains.{Applied, IsHead, nested, before_fields, AreEntered, wanted_inside, head, two, wanted_by, room_stop, IsEntered}
use Rattle.pict_lines.proofs.AppliedAsked.{application_asked, fields_asked, FieldsAsked, first_asked}
use Rattle.pict_lines.proofs.Rights.{nested_next, refused_inside, wanted_more, Inner, level_refused, level_room, last_is}
use Rattle.pict_lines.proofs.NestedAsked.{inside_asked}
use Rattle.pict_rules.specs.Derivations.{Runs}
use Rattle.pict_rules.specs.Typing.{rule}
use Rattle.pict_infer.specs.declared.error.InferError.{InferError}
use Rattle.pict_infer.specs.Answering.{IsRefused, IsStopped}
use Rattle.pict_lines.proofs.Applying.{Field1, roomless_by, both_first, on_fields, for_refused}

-- one more is entered
pub entered_more : (e : Environment) (s : Span) (o : Applied) (vs : List Val) (x : Option PlainType) (gs : List Found) (g : Found) (d : Val) → AreEntered e s o vs x gs → length gs < length vs → IsEntered e s o (get_or vs (length gs) d) (wanted_inside o x gs) g → AreEntered e s o vs x (gs ++ g ∷ [])
entered_more e s o [] x gs g d k n h = absurd (omega arith)
entered_more e s o (v ∷ vs) x [] g d k n h = (h, tt)
entered_more e s o (v ∷ vs) x (g' ∷ gs) g d k n h = (k.0, entered_more e s o vs (wanted_by o g') gs g d k.1 (omega arith) h)

level_first : (e : Environment) (s : Span) (f : Id) (o : Applied) (vs : List Val) (x : Option PlainType) (gs : List Found) (y : InferError) (d : Val) → IsHead e f o → AreEntered e s o vs x gs → suc (length gs) < length vs → IsRefused (Field1 e s (get_or vs (length gs) d) o (before_fields e o (wanted_inside o x gs))) y → IsRefusedFor e (nested s f vs) x y
level_first e s f o vs x gs y d h k n r =
    level_refused e s f o vs x gs y d h k n (on_fields e s f (get_or vs (length gs) d) (Inner s f vs gs) o (wanted_inside o x gs) y h (both_first e s (get_or vs (length gs) d) (Inner s f vs gs) o (before_fields e o (wanted_inside o x gs)) y r))

-- the head is no operator
pub head_refused : (e : Environment) (s : Span) (f : Id) (vs : List Val) (x : Option PlainType) (y : InferError) → 1 < length vs → ((v w : Val) (t : Option PlainType) → IsRefused (rule e (application s (head f) (two v w) t)) y) → IsRefusedFor e (nested s f vs) x y
head_refused e s f [] x y h r = absurd (omega arith)
head_refused e s f (v ∷ []) x y h r = absurd (omega arith)
head_refused e s f (v ∷ w ∷ vs) x y h r = for_refused e s f v (nested s f (w ∷ vs)) x y (r v (nested s f (w ∷ vs)) x)

-- what is known of a step
pub record IsStep (e e' : Environment) (s : Span) (f : Id) (o : Applied) (vs : List Val) (x : Option PlainType) (fs : List Found) (i : ℕ) (b : Found) (w : Option PlainType) : Type 0 where
  pub head : IsHead e f o
  pub entered : AreEntered e s o vs x fs
  pub count : length fs ≡ i
  pub more : suc i < length vs
  pub before : b ≡ before_fields e' o w
  pub inside : w ≡ wanted_inside o x fs
  pub same : e' ≡ e

-- the first field as the definition has it
field_is : (e e' : Environment) (s : Span) (f : Id) (o : Applied) (vs : List Val) (x : Option PlainType) (fs : List Found) (i : ℕ) (b : Found) (w : Option PlainType) (d : Val) → IsStep e e' s f o vs x fs i b w → Field1 e' s (get_or vs i d) o b ≡ Field1 e s (get_or vs (length fs) d) o (before_fields e o (wanted_inside o x fs))
field_is e e' s f o vs x fs i b w d p = rw (p.before, p.inside, p.same, sym p.count) refl

pub step_more : (e e' : Environment) (s : Span) (f : Id) (o : Applied) (vs : List Val) (x : Option PlainType) (fs : List Found) (i : ℕ) (b : Found) (w : Option PlainType) → IsStep e e' s f o vs x fs i b w → suc (length fs) < length vs
step_more e e' s f o vs x fs i b w p = omega (arith, p.count, p.more)

pub first_refused : (e e' : Environment) (s : Span) (f : Id) (o : Applied) (vs : List Val) (x : Option PlainType) (fs : List Found) (i : ℕ) (b : Found) (w : Option PlainType) (d : Val) (y : InferError) → IsStep e e' s f o vs x fs i b w → IsRefused (rule e' (value_fits s (get_or vs i d) o.first b)) y → IsRefusedFor e (nested s f vs) x y
first_refused e e' s f o vs x fs i b w d y p r =
    level_first e s f o vs x fs y d p.head p.entered (step_more e e' s f o vs x fs i b w p) (subst (λ z. IsRefused z y) (field_is e e' s f o vs x fs i b w d p) r)

pub room_refused : (e e' e2 : Environment) (s : Span) (f : Id) (o : Applied) (vs : List Val) (x : Option PlainType) (fs : List Found) (i : ℕ) (b : Found) (w : Option PlainType) (d : Val) (g : Found) (y : InferError) → IsStep e e' s f o vs x fs i b w → e2 ≡ e' → Runs (rule e' (value_fits s (get_or vs i d) o.first b)) (ok g) → IsStopped (room_stop e2 s (wanted_by o g)) y → IsRefusedFor e (nested s f vs) x y
room_refused e e' e2 s f o vs x fs i b w d g y p q r z =
    level_room e s f o vs x fs g y d p.head p.entered (step_more e e' s f o vs x fs i b w p) (subst (λ z. Runs z (ok g)) (field_is e e' s f o vs x fs i b w d p) r)
    (roomless_by (mentions_missing g o.second) e s (Inner s f vs fs) o.second g y (subst (λ k. IsStopped (room_stop k s (wanted_by o g)) y) (q ∙ p.same) z))

pub step_entered : (e e' e2 : Environment) (s : Span) (f : Id) (o : Applied) (vs : List Val) (x : Option PlainType) (fs : List Found) (i : ℕ) (b : Found) (w : Option PlainType) (d : Val) (g : Found) → IsStep e e' s f o vs x fs i b w → e2 ≡ e' → Runs (rule e' (value_fits s (get_or vs i d) o.first b)) (ok g) → room_stop e2 s (wanted_by o g) ≡ None → AreEntered e s o vs x ((fs ++ g ∷ []))
step_entered e e' e2 s f o vs x fs i b w d g p q r z =
    subst (AreEntered e s o vs x) refl
    (entered_more e s o vs x fs g d p.entered (omega (arith, step_more e e' s f o vs x fs i b w p))
    (record {
      field = subst (λ z. Runs z (ok g)) (field_is e e' s f o vs x fs i b w d p) r;
      room = subst (λ k. room_stop k s (wanted_by o g) ≡ None) (q ∙ p.same) z;
    }))

pub step_inside : (o : Applied) (x : Option PlainType) (fs : List Found) (g : Found) (w : Option PlainType) → w ≡ wanted_by o g → w ≡ wanted_inside o x (fs ++ g ∷ [])
step_inside o x fs g w h = h ∙ sym (wanted_more o x fs g)

pub last_refused : (e e' : Environment) (s : Span) (f : Id) (o : Applied) (vs : List Val) (x : Option PlainType) (fs : List Found) (n : ℕ) (w : Option PlainType) (d : Val) (y : InferError) → IsHead e f o → AreEntered e s o vs x fs → length fs ≡ n → suc n ≡ length vs → w ≡ wanted_inside o x fs → e' ≡ e → IsRefusedFor e' (get_or vs n d) w y → IsRefusedFor e (nested s f vs) x y
last_refused e e' s f o vs x fs n w d y h k c l q p r =
    refused_inside e s f o vs x fs y h k (omega (arith, c, l))
    (subst (λ m. IsRefusedFor e (nested s f (drop m vs)) (wanted_inside o x fs) y) (sym c)
    (subst (λ v. IsRefusedFor e v (wanted_inside o x fs) y) (sym (last_is s f vs n d l))
    (subst (λ z. IsRefusedFor e (get_or vs n d) z y) q (subst (λ z. IsRefusedFor z (get_or vs n d) w y) p r))))

pub last_for : (e e' : Environment) (s : Span) (f : Id) (o : Applied) (vs : List Val) (x : Option PlainType) (fs : List Found) (n : ℕ) (w g : Option PlainType) (d : Val) → length fs ≡ n → suc n ≡ length vs → w ≡ wanted_inside o x fs → e' ≡ e → IsFor e' (get_or vs n d) w g → IsFor e (nested s f (drop (length fs) vs)) (wanted_inside o x fs) g
last_for e e' s f o vs x fs n w g d c l q p h =
    subst (λ m. IsFor e (nested s f (drop m vs)) (wanted_inside o x fs) g) (sym c)
    (subst (λ v. IsFor e v (wanted_inside o x fs) g) (sym (last_is s f vs n d l))
    (subst (λ z. IsFor e (get_or vs n d) z g) q (subst (λ z. IsFor z (get_or vs n d) w g) p h)))

-- the fields of the application one further in
pub level_asked : (e : Environment) (s : Span) (f : Id) (o : Applied) (vs : List Val) (x : Option PlainType) (gs : List Found) (d : Val) → IsHead e f o → IsAskedFor e (nested s f vs) x → AreEntered e s o vs x gs → suc (length gs) < length vs → FieldsAsked e s (get_or vs (length gs) d) (nested s f (drop (suc (length gs)) vs)) o (before_fields e o (wanted_inside o x gs))
level_asked e s f o vs x gs d h a k n =
    fields_asked e s f (get_or vs (length gs) d) (nested s f (drop (suc (length gs)) vs)) o (wanted_inside o x gs) h
    (application_asked e s f (get_or vs (length gs) d) (nested s f (drop (suc (length gs)) vs)) (wanted_inside o x gs)
    (subst (λ v. IsAskedFor e v (wanted_inside o x gs)) (nested_next s f vs (length gs) d n) (inside_asked e s f o vs x gs h a k (omega arith))))

pub step_asked : (e e' : Environment) (s : Span) (f : Id) (o : Applied) (vs : List Val) (x : Option PlainType) (fs : List Found) (i : ℕ) (b : Found) (w : Option PlainType) (d : Val) → IsStep e e' s f o vs x fs i b w → IsAskedFor e (nested s f vs) x → IsWellAsked found_ e' (value_fits s (get_or vs i d) o.first b)
step_asked e e' s f o vs x fs i b w d p a =
    let n : suc (length fs) < length vs = step_more e e' s f o vs x fs i b w p in
    let h = first_asked e s (get_or vs (length fs) d) (nested s f (drop (suc (length fs)) vs)) o (before_fields e o (wanted_inside o x fs)) (level_asked e s f o vs x fs d p.head a p.entered n) in
    rw (p.before, p.inside, p.same, sym p.count) h
