-- From the right: each step out of a nested application. The outermost is that to the first value.
use Rattle.std.proofs.Common.{◌≡◌, ℕ, suc, zero, ◌<◌, refl, sym, ◌∙◌, ap, subst, List, [], ◌∷◌, ◌++◌, length, get_or, drop, Option, Some, None, arith}
use Rattle.pict_syntax.specs.declared.span.Span.{Span}
use Rattle.pict_syntax.specs.declared.id.Id.{Id}
use Rattle.pict_syntax.specs.Trees.{Val}
use Rattle.pict_syntax.specs.Grammar.{val_span}
use Rattle.pict_types.specs.Types.{PlainType, PlainArg}
use Rattle.pict_rules.specs.Found.{Found, mentions_missing}
use Rattle.pict_rules.specs.Shapes.{applied_to}
use Rattle.pict_rules.specs.Environments.{Environment}
use Rattle.pict_rules.specs.Rules.{ok}
use Rattle.pict_rules.specs.Derivations.{Runs}
use Rattle.pict_infer.specs.declared.error.InferError.{InferError}
use Rattle.pict_infer.specs.declared.error.InferError.TheVariants.{Memory}
use Rattle.pict_infer.specs.Answering.{IsRefused}
use Rattle.pict_lines.specs.Judging.{IsFor, IsRefusedFor}
use Rattle.pict_lines.specs.Lines.{fields_end, application_end}
use Rattle.pict_lines.specs.Chains.{Applied, head, IsHead, nested, before_fields, wanted_by, room_stop, field_lines, IsEntered, AreEntered, wanted_inside}
use Rattle.pict_lines.proofs.Applying.{Field1, Field2, On, field_by, after_by, refused_by, both_ok, both_second, both_end, on_ok, on_fields, on_end, for_on, for_refused}

-- a refusal inside all applications that are entered is one of the whole
pub refused_inside : (e : Environment) (s : Span) (f : Id) (o : Applied) (vs : List Val) (x : Option PlainType) (gs : List Found) (y : InferError) → IsHead e f o → AreEntered e s o vs x gs → length gs < length vs → IsRefusedFor e (nested s f (drop (length gs) vs)) (wanted_inside o x gs) y → IsRefusedFor e (nested s f vs) x y
refused_inside e s f o vs x [] y h k n r = r
refused_inside e s f o [] x (g ∷ gs) y h k n r = absurd k
refused_inside e s f o (v ∷ []) x (g ∷ gs) y h k n r = absurd (omega arith)
refused_inside e s f o (v ∷ w ∷ vs) x (g ∷ gs) y h k n r =
    let ih = refused_inside e s f o (w ∷ vs) (wanted_by o g) gs y h k.1 (omega arith) r in
    for_refused e s f v (nested s f (w ∷ vs)) x y
    (on_fields e s f v (nested s f (w ∷ vs)) o x y h
    (both_second e s v (nested s f (w ∷ vs)) o (before_fields e o x) g y k.0.field
    (refused_by (mentions_missing g o.second) e s (nested s f (w ∷ vs)) o.second g y k.0.room ih)))

pub wanted_more : (o : Applied) (x : Option PlainType) (gs : List Found) (g : Found) → wanted_inside o x (gs ++ g ∷ []) ≡ wanted_by o g
wanted_more o x [] g = refl
wanted_more o x (g' ∷ gs) g = wanted_more o (wanted_by o g') gs g

-- one less
pub entered_less : (e : Environment) (s : Span) (o : Applied) (vs : List Val) (x : Option PlainType) (gs : List Found) (g : Found) → AreEntered e s o vs x (gs ++ g ∷ []) → AreEntered e s o vs x gs
entered_less e s o vs x [] g k = tt
entered_less e s o [] x (g' ∷ gs) g k = k
entered_less e s o (v ∷ vs) x (g' ∷ gs) g k = (k.0, entered_less e s o vs (wanted_by o g') gs g k.1)

pub entered_last : (e : Environment) (s : Span) (o : Applied) (vs : List Val) (x : Option PlainType) (gs : List Found) (g : Found) (d : Val) → AreEntered e s o vs x (gs ++ g ∷ []) → IsEntered e s o (get_or vs (length gs) d) (wanted_inside o x gs) g
entered_last e s o [] x [] g d k = absurd k
entered_last e s o (v ∷ vs) x [] g d k = k.0
entered_last e s o [] x (g' ∷ gs) g d k = absurd k
entered_last e s o (v ∷ vs) x (g' ∷ gs) g d k = entered_last e s o vs (wanted_by o g') gs g d k.1

-- the value one further out
pub nested_next : (s : Span) (f : Id) (vs : List Val) (n : ℕ) (d : Val) → suc n < length vs → nested s f (drop n vs) ≡ applied_to s f (get_or vs n d) (nested s f (drop (suc n) vs))
nested_next s f [] n d h = absurd (omega arith)
nested_next s f (v ∷ []) n d h = absurd (omega arith)
nested_next s f (v ∷ w ∷ vs) zero d h = refl
nested_next s f (v ∷ w ∷ vs) (suc n) d h = nested_next s f (w ∷ vs) n d (omega arith)

-- the ways that an application that is entered ends
abbrev pub Inner : Span → Id → List Val → List Found → Val
Inner s f vs gs = nested s f (drop (suc (length gs)) vs)

pub level_refused : (e : Environment) (s : Span) (f : Id) (o : Applied) (vs : List Val) (x : Option PlainType) (gs : List Found) (y : InferError) (d : Val) → IsHead e f o → AreEntered e s o vs x gs → suc (length gs) < length vs → IsRefused (On e s f (get_or vs (length gs) d) (Inner s f vs gs) (wanted_inside o x gs)) y → IsRefusedFor e (nested s f vs) x y
level_refused e s f o vs x gs y d h k n r =
    refused_inside e s f o vs x gs y h k (omega arith)
    (subst (λ z. IsRefusedFor e z (wanted_inside o x gs) y) (sym (nested_next s f vs (length gs) d n)) (for_refused e s f (get_or vs (length gs) d) (Inner s f vs gs) (wanted_inside o x gs) y r))

pub level_room : (e : Environment) (s : Span) (f : Id) (o : Applied) (vs : List Val) (x : Option PlainType) (gs : List Found) (g : Found) (y : InferError) (d : Val) → IsHead e f o → AreEntered e s o vs x gs → suc (length gs) < length vs → Runs (Field1 e s (get_or vs (length gs) d) o (before_fields e o (wanted_inside o x gs))) (ok g) → IsRefused (Field2 e s (Inner s f vs gs) o g) y → IsRefusedFor e (nested s f vs) x y
level_room e s f o vs x gs g y d h k n p r =
    level_refused e s f o vs x gs y d h k n (on_fields e s f (get_or vs (length gs) d) (Inner s f vs gs) o (wanted_inside o x gs) y h (both_second e s (get_or vs (length gs) d) (Inner s f vs gs) o (before_fields e o (wanted_inside o x gs)) g y p r))

some_of : (vs : List Val) (n : ℕ) → n < length vs → Val
some_of [] n h = absurd (omega arith)
some_of (v ∷ vs) n h = v

level_second : (e : Environment) (s : Span) (f : Id) (o : Applied) (vs : List Val) (x : Option PlainType) (gs : List Found) (g : Found) (y : InferError) → IsHead e f o → AreEntered e s o vs x (gs ++ g ∷ []) → suc (length gs) < length vs → IsRefused (Field2 e s (Inner s f vs gs) o g) y → IsRefusedFor e (nested s f vs) x y
level_second e s f o vs x gs g y h k n r =
    let d = some_of vs (suc (length gs)) n in
    level_room e s f o vs x gs g y d h (entered_less e s o vs x gs g k) n (entered_last e s o vs x gs g d k).field r

level_end : (e : Environment) (s : Span) (f : Id) (o : Applied) (vs : List Val) (x : Option PlainType) (gs : List Found) (g g2 : Found) (y : InferError) → IsHead e f o → AreEntered e s o vs x (gs ++ g ∷ []) → suc (length gs) < length vs → Runs (Field2 e s (Inner s f vs gs) o g) (ok g2) → IsRefused (fields_end e s o.binders g2) y → IsRefusedFor e (nested s f vs) x y
level_end e s f o vs x gs g g2 y h k n q r =
    let d = some_of vs (suc (length gs)) n in
    level_refused e s f o vs x gs y d h (entered_less e s o vs x gs g k) n (on_fields e s f (get_or vs (length gs) d) (Inner s f vs gs) o (wanted_inside o x gs) y h (both_end e s (get_or vs (length gs) d) (Inner s f vs gs) o (before_fields e o (wanted_inside o x gs)) g g2 y (entered_last e s o vs x gs g d k).field q r))

level_answer : (e : Environment) (s : Span) (f : Id) (o : Applied) (vs : List Val) (x : Option PlainType) (gs : List Found) (g g2 : Found) (args : List PlainArg) (y : InferError) → IsHead e f o → AreEntered e s o vs x (gs ++ g ∷ []) → suc (length gs) < length vs → Runs (Field2 e s (Inner s f vs gs) o g) (ok g2) → Runs (fields_end e s o.binders g2) (ok args) → IsRefused (application_end e s o.answer args (wanted_inside o x gs)) y → IsRefusedFor e (nested s f vs) x y
level_answer e s f o vs x gs g g2 args y h k n q r z =
    let d = some_of vs (suc (length gs)) n in
    level_refused e s f o vs x gs y d h (entered_less e s o vs x gs g k) n (on_end e s f (get_or vs (length gs) d) (Inner s f vs gs) o (wanted_inside o x gs) args y h (both_ok e s (get_or vs (length gs) d) (Inner s f vs gs) o (before_fields e o (wanted_inside o x gs)) g g2 args (entered_last e s o vs x gs g d k).field q r) z)

level_ok : (e : Environment) (s : Span) (f : Id) (o : Applied) (vs : List Val) (x : Option PlainType) (gs : List Found) (g g2 : Found) (args : List PlainArg) (t : PlainType) → IsHead e f o → AreEntered e s o vs x (gs ++ g ∷ []) → suc (length gs) < length vs → Runs (Field2 e s (Inner s f vs gs) o g) (ok g2) → Runs (fields_end e s o.binders g2) (ok args) → Runs (application_end e s o.answer args (wanted_inside o x gs)) (ok t) → IsFor e (nested s f (drop (length gs) vs)) (wanted_inside o x gs) (Some t)
level_ok e s f o vs x gs g g2 args t h k n q r z =
    let d = some_of vs (suc (length gs)) n in
    subst (λ w. IsFor e w (wanted_inside o x gs) (Some t)) (sym (nested_next s f vs (length gs) d n))
    (for_on e s f (get_or vs (length gs) d) (Inner s f vs gs) (wanted_inside o x gs) t
    (on_ok e s f (get_or vs (length gs) d) (Inner s f vs gs) o (wanted_inside o x gs) args t h
    (both_ok e s (get_or vs (length gs) d) (Inner s f vs gs) o (before_fields e o (wanted_inside o x gs)) g g2 args (entered_last e s o vs x gs g d k).field q r) z))

-- what is known of a level
pub record IsLevel (e e' : Environment) (s : Span) (f : Id) (o : Applied) (vs : List Val) (x : Option PlainType) (all fs : List Found) (g : Found) (at : Span) (given : Option PlainType) : Type 0 where
  pub head : IsHead e f o
  pub items : all ≡ fs ++ g ∷ []
  pub entered : AreEntered e s o vs x all
  pub few : length all < length vs
  pub place : val_span (nested s f (drop (length all) vs)) ≡ at
  pub inner : IsFor e (nested s f (drop (length all) vs)) (wanted_inside o x all) given
  pub same : e' ≡ e

pub one_longer : (fs : List Found) (g : Found) → length (fs ++ g ∷ []) ≡ suc (length fs)
one_longer [] g = refl
one_longer (f ∷ fs) g = ap suc (one_longer fs g)

level_count : (all fs : List Found) (g : Found) → all ≡ fs ++ g ∷ [] → length all ≡ suc (length fs)
level_count all fs g h = ap length h ∙ one_longer fs g

level_few : (all fs : List Found) (g : Found) (n : ℕ) → all ≡ fs ++ g ∷ [] → length all < n → suc (length fs) < n
level_few all fs g n h k = subst (λ m. m < n) (level_count all fs g h) k

pub level_entered : {e e' : Environment} {s : Span} {f : Id} {o : Applied} {vs : List Val} {x : Option PlainType} {all fs : List Found} {g : Found} {at : Span} {given : Option PlainType} → IsLevel e e' s f o vs x all fs g at given → AreEntered e s o vs x (fs ++ g ∷ [])
level_entered {e = e} {s = s} {o = o} {vs = vs} {x = x} {fs = fs} {g = g} p = subst (AreEntered e s o vs x) p.items p.entered

level_room_of : {e e' : Environment} {s : Span} {f : Id} {o : Applied} {vs : List Val} {x : Option PlainType} {all fs : List Found} {g : Found} {at : Span} {given : Option PlainType} → IsLevel e e' s f o vs x all fs g at given → room_stop e s (wanted_by o g) ≡ None
level_room_of {e = e} {s = s} {o = o} {vs = vs} {x = x} {all = all} {fs = fs} {g = g} p = (entered_last e s o vs x fs g (some_of vs (length all) p.few) (level_entered p)).room

level_at : {e e' : Environment} {s : Span} {f : Id} {o : Applied} {vs : List Val} {x : Option PlainType} {all fs : List Found} {g : Found} {at : Span} {given : Option PlainType} → IsLevel e e' s f o vs x all fs g at given → val_span (Inner s f vs fs) ≡ at
level_at {s = s} {f = f} {vs = vs} {all = all} {fs = fs} {g = g} {at = at} p = subst (λ n. val_span (nested s f (drop n vs)) ≡ at) (level_count all fs g p.items) p.place

level_given : {e e' : Environment} {s : Span} {f : Id} {o : Applied} {vs : List Val} {x : Option PlainType} {all fs : List Found} {g : Found} {at : Span} {given : Option PlainType} → IsLevel e e' s f o vs x all fs g at given → IsFor e (Inner s f vs fs) (wanted_by o g) given
level_given {e = e} {s = s} {f = f} {o = o} {vs = vs} {x = x} {all = all} {fs = fs} {g = g} {given = given} p =
    subst (λ w. IsFor e (Inner s f vs fs) w given) (ap (λ z. wanted_inside o x z) p.items ∙ wanted_more o x fs g)
    (subst (λ n. IsFor e (nested s f (drop n vs)) (wanted_inside o x all) given) (level_count all fs g p.items) p.inner)

-- the second field
second_ok : {e e' : Environment} {s : Span} {f : Id} {o : Applied} {vs : List Val} {x : Option PlainType} {all fs : List Found} {g : Found} {at : Span} {given : Option PlainType} (g2 : Found) → IsLevel e e' s f o vs x all fs g at given → ((v : Val) → val_span v ≡ at → Runs (field_lines e' s v o.second g given) (ok g2)) → Runs (Field2 e s (Inner s f vs fs) o g) (ok g2)
second_ok {e = e} {s = s} {f = f} {o = o} {vs = vs} {fs = fs} {g = g} {given = given} g2 p h =
    field_by (mentions_missing g o.second) e s (Inner s f vs fs) o.second g g2 given (level_room_of p) (level_given p)
    (subst (λ k. Runs (field_lines k s (Inner s f vs fs) o.second g given) (ok g2)) p.same (h (Inner s f vs fs) (level_at p)))

pub second_refused : {e e' : Environment} {s : Span} {f : Id} {o : Applied} {vs : List Val} {x : Option PlainType} {all fs : List Found} {g : Found} {at : Span} {given : Option PlainType} (y : InferError) → IsLevel e e' s f o vs x all fs g at given → ((v : Val) → val_span v ≡ at → IsRefused (field_lines e' s v o.second g given) y) → IsRefusedFor e (nested s f vs) x y
second_refused {e = e} {s = s} {f = f} {o = o} {vs = vs} {x = x} {all = all} {fs = fs} {g = g} {given = given} y p h =
    level_second e s f o vs x fs g y p.head (level_entered p) (level_few all fs g (length vs) p.items p.few)
    (after_by (mentions_missing g o.second) e s (Inner s f vs fs) o.second g given y (level_room_of p) (level_given p)
    (subst (λ k. IsRefused (field_lines k s (Inner s f vs fs) o.second g given) y) p.same (h (Inner s f vs fs) (level_at p))))

pub end_refused : {e e' : Environment} {s : Span} {f : Id} {o : Applied} {vs : List Val} {x : Option PlainType} {all fs : List Found} {g : Found} {at : Span} {given : Option PlainType} (g2 : Found) (y : InferError) → IsLevel e e' s f o vs x all fs g at given → ((v : Val) → val_span v ≡ at → Runs (field_lines e' s v o.second g given) (ok g2)) → IsRefused (fields_end e' s o.binders g2) y → IsRefusedFor e (nested s f vs) x y
end_refused {e = e} {s = s} {f = f} {o = o} {vs = vs} {x = x} {all = all} {fs = fs} {g = g} g2 y p h r =
    level_end e s f o vs x fs g g2 y p.head (level_entered p) (level_few all fs g (length vs) p.items p.few) (second_ok g2 p h)
    (subst (λ k. IsRefused (fields_end k s o.binders g2) y) p.same r)

pub answer_refused : {e e' : Environment} {s : Span} {f : Id} {o : Applied} {vs : List Val} {x : Option PlainType} {all fs : List Found} {g : Found} {at : Span} {given : Option PlainType} (g2 : Found) (a : List PlainArg) (w : Option PlainType) (y : InferError) → IsLevel e e' s f o vs x all fs g at given → ((v : Val) → val_span v ≡ at → Runs (field_lines e' s v o.second g given) (ok g2)) → Runs (fields_end e' s o.binders g2) (ok a) → w ≡ wanted_inside o x fs → IsRefused (application_end e' s o.answer a w) y → IsRefusedFor e (nested s f vs) x y
answer_refused {e = e} {s = s} {f = f} {o = o} {vs = vs} {x = x} {all = all} {fs = fs} {g = g} g2 a w y p h r q z =
    level_answer e s f o vs x fs g g2 a y p.head (level_entered p) (level_few all fs g (length vs) p.items p.few) (second_ok g2 p h)
    (subst (λ k. Runs (fields_end k s o.binders g2) (ok a)) p.same r)
    (subst (λ k. IsRefused (application_end e s o.answer a k) y) q (subst (λ k. IsRefused (application_end k s o.answer a w) y) p.same z))

pub level_done : {e e' : Environment} {s : Span} {f : Id} {o : Applied} {vs : List Val} {x : Option PlainType} {all fs : List Found} {g : Found} {at : Span} {given : Option PlainType} (g2 : Found) (a : List PlainArg) (w : Option PlainType) (t : PlainType) → IsLevel e e' s f o vs x all fs g at given → ((v : Val) → val_span v ≡ at → Runs (field_lines e' s v o.second g given) (ok g2)) → Runs (fields_end e' s o.binders g2) (ok a) → w ≡ wanted_inside o x fs → Runs (application_end e' s o.answer a w) (ok t) → IsFor e (nested s f (drop (length fs) vs)) (wanted_inside o x fs) (Some t)
level_done {e = e} {s = s} {f = f} {o = o} {vs = vs} {x = x} {all = all} {fs = fs} {g = g} g2 a w t p h r q z =
    subst (λ n. IsFor e (nested s f (drop n vs)) (wanted_inside o x fs) (Some t)) refl
    (level_ok e s f o vs x fs g g2 a t p.head (level_entered p) (level_few all fs g (length vs) p.items p.few) (second_ok g2 p h)
    (subst (λ k. Runs (fields_end k s o.binders g2) (ok a)) p.same r)
    (subst (λ k. Runs (application_end e s o.answer a k) (ok t)) q (subst (λ k. Runs (application_end k s o.answer a w) (ok t)) p.same z)))

pub level_span : {e e' : Environment} {s : Span} {f : Id} {o : Applied} {vs : List Val} {x : Option PlainType} {all fs : List Found} {g : Found} {at : Span} {given : Option PlainType} → IsLevel e e' s f o vs x all fs g at given → val_span (nested s f (drop (length fs) vs)) ≡ s
level_span {s = s} {f = f} {vs = vs} {all = all} {fs = fs} {g = g} p =
    let few = level_few all fs g (length vs) p.items p.few in
    subst (λ n. val_span (nested s f (drop n vs)) ≡ s) refl (ap val_span (nested_next s f vs (length fs) (some_of vs (suc (length fs)) few) few))

pub level_left : {e e' : Environment} {s : Span} {f : Id} {o : Applied} {vs : List Val} {x : Option PlainType} {all fs : List Found} {g : Found} {at : Span} {given : Option PlainType} → IsLevel e e' s f o vs x all fs g at given → AreEntered e s o vs x fs
level_left {e = e} {s = s} {o = o} {vs = vs} {x = x} {fs = fs} {g = g} p = entered_less e s o vs x fs g (level_entered p)

-- the last value
drop_last : (vs : List Val) (n : ℕ) (d : Val) → suc n ≡ length vs → drop n vs ≡ get_or vs n d ∷ []
drop_last [] n d h = absurd (omega arith)
drop_last (v ∷ []) zero d h = refl
drop_last (v ∷ []) (suc n) d h = absurd (omega arith)
drop_last (v ∷ w ∷ vs) zero d h = absurd (omega arith)
drop_last (v ∷ w ∷ vs) (suc n) d h = drop_last (w ∷ vs) n d (omega arith)

pub last_is : (s : Span) (f : Id) (vs : List Val) (n : ℕ) (d : Val) → suc n ≡ length vs → nested s f (drop n vs) ≡ (get_or vs n d)
last_is s f vs n d h = ap (nested s f) (drop_last vs n d h)

pub last_at : (s : Span) (f : Id) (vs : List Val) (m n : ℕ) (d : Val) → m ≡ n → suc n ≡ length vs → val_span (nested s f (drop m vs)) ≡ val_span (get_or vs n d)
last_at s f vs m n d c l = rw c (ap val_span (last_is s f vs n d l))

-- want of memory is a refusal of any value
pub memory_refused : (e : Environment) (v : Val) (w : Option PlainType) (y : InferError) → y ≡ Memory → IsRefusedFor e v w y
memory_refused e v None y h = rw h tt
memory_refused e v (Some u) y h = rw h tt

pub level_less : {e e' : Environment} {s : Span} {f : Id} {o : Applied} {vs : List Val} {x : Option PlainType} {all fs : List Found} {g : Found} {at : Span} {given : Option PlainType} → IsLevel e e' s f o vs x all fs g at given → length fs < length vs
level_less {vs = vs} {all = all} {fs = fs} {g = g} p = omega (arith, level_few all fs g (length vs) p.items p.few)
