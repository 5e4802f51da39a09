-- From the left: each step out of a nested application. The outermost is that to the last value.
use Rattle.std.proofs.Common.{◌≡◌, ℕ, suc, zero, ◌+◌, ◌≤◌, ◌<◌, refl, sym, ◌∙◌, ap, subst, List, [], ◌∷◌, ◌++◌, length, get_or, Option, Some, arith}
use Rattle.pict_syntax.specs.declared.span.Span.{Span}
use Rattle.pict_syntax.specs.declared.id.Id.{Id}
use Rattle.pict_syntax.specs.Trees.{Val}
use Rattle.pict_syntax.specs.Grammar.{val_span}
use Rattle.pict_types.specs.Types.{PlainType, PlainArg}
use Rattle.pict_rules.specs.Found.{Found, mentions_missing}
use Rattle.pict_rules.specs.Environments.{Environment}
use Rattle.pict_rules.specs.Rules.{value_fits, application, ok, found_}
use Rattle.pict_rules.specs.Derivations.{Runs}
use Rattle.pict_rules.specs.Typing.{rule}
use Rattle.pict_infer.specs.declared.error.InferError.{InferError}
use Rattle.pict_infer.specs.Answering.{IsRefused}
use Rattle.pict_lines.specs.Judging.{IsFor, IsRefusedFor, IsAskedFor}
use Rattle.pict_lines.specs.Lines.{fields_end, application_end}
use Rattle.pict_lines.specs.Chains.{Applied, head, two, IsHead, nested_left, before_fields, wanted_first, field_lines, IsBegun, AreBegun, wanted_within}
use Rattle.pict_lines.proofs.Rights.{one_longer}
use Rattle.pict_lines.proofs.Applying.{Field1, Both, On, field_by, after_by, both_ok, both_first, both_second, both_end, on_ok, on_fields, on_end, for_on, for_refused}
use Rattle.pict_lines.proofs.Lefts.{Taken, left_next, left_all, refused_within, within_more, value_at, left_refused}
use Rattle.pict_rules.specs.Regular.{IsExpected}
use Rattle.pict_infer.specs.Asking.{IsWellAsked}
use Rattle.pict_lines.specs.Operators.{IsFoundFor, AreFoundFor, HaveRoom}
use Rattle.pict_lines.proofs.AppliedAsked.{second_asked}
use Rattle.pict_lines.proofs.NestedAsked.{within_asked, turn_asked}
use Rattle.pict_lines.proofs.NestedFormed.{expected_for, begun_found, begun_room, found_less}

-- the first value
pub left_first : (s : Span) (f : Id) (vs : List Val) (d : Val) → 0 < length vs → Taken s f 1 vs ≡ get_or vs 0 d
left_first s f [] d h = absurd (omega arith)
left_first s f (v ∷ vs) d h = refl

-- one less
pub begun_less : (e : Environment) (s : Span) (o : Applied) (x : Option PlainType) (gs : List Found) (g : Found) → AreBegun e s o x (gs ++ g ∷ []) → AreBegun e s o x gs
begun_less e s o x [] g k = tt
begun_less e s o x (g' ∷ gs) g k = (k.0, begun_less e s o (wanted_first o g') gs g k.1)

pub begun_last : (e : Environment) (s : Span) (o : Applied) (x : Option PlainType) (gs : List Found) (g : Found) → AreBegun e s o x (gs ++ g ∷ []) → IsBegun e s o (wanted_within o x gs) g
begun_last e s o x [] g k = k.0
begun_last e s o x (g' ∷ gs) g k = begun_last e s o (wanted_first o g') gs g k.1

-- what is known of an application to the value of number n
pub record IsTurn (e e' : Environment) (s : Span) (f : Id) (o : Applied) (vs : List Val) (x : Option PlainType) (all fs : List Found) (g : Found) (n : ℕ) (at : Span) (given : Option PlainType) : Type 0 where
  pub head : IsHead e f o
  pub items : all ≡ fs ++ g ∷ []
  pub begun : AreBegun e s o x all
  pub some : 1 ≤ n
  pub count : n + length all ≡ length vs
  pub place : val_span (Taken s f n vs) ≡ at
  pub inner : IsFor e (Taken s f n vs) (wanted_within o x all) given
  pub same : e' ≡ e

pub turn_count : {e e' : Environment} {s : Span} {f : Id} {o : Applied} {vs : List Val} {x : Option PlainType} {all fs : List Found} {g : Found} {n : ℕ} {at : Span} {given : Option PlainType} → IsTurn e e' s f o vs x all fs g n at given → suc n + length fs ≡ length vs
turn_count {fs = fs} {g = g} p = omega (arith, p.count, ap length p.items, one_longer fs g)

pub turn_begun : {e e' : Environment} {s : Span} {f : Id} {o : Applied} {vs : List Val} {x : Option PlainType} {all fs : List Found} {g : Found} {n : ℕ} {at : Span} {given : Option PlainType} → IsTurn e e' s f o vs x all fs g n at given → AreBegun e s o x (fs ++ g ∷ [])
turn_begun {e = e} {s = s} {o = o} {x = x} p = subst (AreBegun e s o x) p.items p.begun

pub turn_left : {e e' : Environment} {s : Span} {f : Id} {o : Applied} {vs : List Val} {x : Option PlainType} {all fs : List Found} {g : Found} {n : ℕ} {at : Span} {given : Option PlainType} → IsTurn e e' s f o vs x all fs g n at given → AreBegun e s o x fs
turn_left {e = e} {s = s} {o = o} {x = x} {fs = fs} {g = g} p = begun_less e s o x fs g (turn_begun p)

turn_entry : {e e' : Environment} {s : Span} {f : Id} {o : Applied} {vs : List Val} {x : Option PlainType} {all fs : List Found} {g : Found} {n : ℕ} {at : Span} {given : Option PlainType} → IsTurn e e' s f o vs x all fs g n at given → IsBegun e s o (wanted_within o x fs) g
turn_entry {e = e} {s = s} {o = o} {x = x} {fs = fs} {g = g} p = begun_last e s o x fs g (turn_begun p)

turn_given : {e e' : Environment} {s : Span} {f : Id} {o : Applied} {vs : List Val} {x : Option PlainType} {all fs : List Found} {g : Found} {n : ℕ} {at : Span} {given : Option PlainType} → IsTurn e e' s f o vs x all fs g n at given → IsFor e (Taken s f n vs) (wanted_first o g) given
turn_given {e = e} {s = s} {f = f} {o = o} {vs = vs} {x = x} {fs = fs} {g = g} {n = n} {given = given} p =
    subst (λ w. IsFor e (Taken s f n vs) w given) (ap (wanted_within o x) p.items ∙ within_more o x fs g) p.inner

-- the first field
turn_first : {e e' : Environment} {s : Span} {f : Id} {o : Applied} {vs : List Val} {x : Option PlainType} {all fs : List Found} {g : Found} {n : ℕ} {at : Span} {given : Option PlainType} (g1 : Found) → IsTurn e e' s f o vs x all fs g n at given → ((v : Val) → val_span v ≡ at → Runs (field_lines e' s v o.first g given) (ok g1)) → Runs (Field1 e s (Taken s f n vs) o (before_fields e o (wanted_within o x fs))) (ok g1)
turn_first {e = e} {s = s} {f = f} {o = o} {vs = vs} {fs = fs} {g = g} {n = n} {given = given} g1 p h =
    subst (λ z. Runs (Field1 e s (Taken s f n vs) o z) (ok g1)) (turn_entry p).before
    (field_by (mentions_missing g o.first) e s (Taken s f n vs) o.first g g1 given (turn_entry p).room (turn_given p)
    (subst (λ k. Runs (field_lines k s (Taken s f n vs) o.first g given) (ok g1)) p.same (h (Taken s f n vs) p.place)))

turn_refused : {e e' : Environment} {s : Span} {f : Id} {o : Applied} {vs : List Val} {x : Option PlainType} {all fs : List Found} {g : Found} {n : ℕ} {at : Span} {given : Option PlainType} (d : Val) (y : InferError) → IsTurn e e' s f o vs x all fs g n at given → IsRefused (On e s f (Taken s f n vs) (value_at vs n d) (wanted_within o x fs)) y → IsRefusedFor e (nested_left s f vs) x y
turn_refused {e = e} {s = s} {f = f} {o = o} {vs = vs} {x = x} {fs = fs} {n = n} d y p r =
    left_refused e s f o vs x fs n d y p.head (turn_left p) p.some (turn_count p) r

pub turn_first_refused : {e e' : Environment} {s : Span} {f : Id} {o : Applied} {vs : List Val} {x : Option PlainType} {all fs : List Found} {g : Found} {n : ℕ} {at : Span} {given : Option PlainType} (d : Val) (y : InferError) → IsTurn e e' s f o vs x all fs g n at given → ((v : Val) → val_span v ≡ at → IsRefused (field_lines e' s v o.first g given) y) → IsRefusedFor e (nested_left s f vs) x y
turn_first_refused {e = e} {s = s} {f = f} {o = o} {vs = vs} {x = x} {fs = fs} {g = g} {n = n} {given = given} d y p h =
    turn_refused d y p
    (on_fields e s f (Taken s f n vs) (value_at vs n d) o (wanted_within o x fs) y p.head
    (both_first e s (Taken s f n vs) (value_at vs n d) o (before_fields e o (wanted_within o x fs)) y
    (subst (λ z. IsRefused (Field1 e s (Taken s f n vs) o z) y) (turn_entry p).before
    (after_by (mentions_missing g o.first) e s (Taken s f n vs) o.first g given y (turn_entry p).room (turn_given p)
    (subst (λ k. IsRefused (field_lines k s (Taken s f n vs) o.first g given) y) p.same (h (Taken s f n vs) p.place))))))

-- what is known once the first field is done
pub record IsHalf (e e' : Environment) (s : Span) (f : Id) (o : Applied) (vs : List Val) (x : Option PlainType) (fs : List Found) (n : ℕ) (g1 : Found) : Type 0 where
  pub head : IsHead e f o
  pub begun : AreBegun e s o x fs
  pub some : 1 ≤ n
  pub count : suc n + length fs ≡ length vs
  pub first : Runs (Field1 e s (Taken s f n vs) o (before_fields e o (wanted_within o x fs))) (ok g1)
  pub same : e' ≡ e

pub half : {e e' : Environment} {s : Span} {f : Id} {o : Applied} {vs : List Val} {x : Option PlainType} {all fs : List Found} {g : Found} {n : ℕ} {at : Span} {given : Option PlainType} (g1 : Found) → IsTurn e e' s f o vs x all fs g n at given → ((v : Val) → val_span v ≡ at → Runs (field_lines e' s v o.first g given) (ok g1)) → IsHalf e e' s f o vs x fs n g1
half g1 p h = record { head = p.head; begun = turn_left p; some = p.some; count = turn_count p; first = turn_first g1 p h; same = p.same }

half_refused : {e e' : Environment} {s : Span} {f : Id} {o : Applied} {vs : List Val} {x : Option PlainType} {fs : List Found} {n : ℕ} {g1 : Found} (d : Val) (y : InferError) → IsHalf e e' s f o vs x fs n g1 → IsRefused (On e s f (Taken s f n vs) (value_at vs n d) (wanted_within o x fs)) y → IsRefusedFor e (nested_left s f vs) x y
half_refused {e = e} {s = s} {f = f} {o = o} {vs = vs} {x = x} {fs = fs} {n = n} d y p r =
    left_refused e s f o vs x fs n d y p.head p.begun p.some p.count r

pub half_second : {e e' : Environment} {s : Span} {f : Id} {o : Applied} {vs : List Val} {x : Option PlainType} {fs : List Found} {n : ℕ} {g1 : Found} (d : Val) (y : InferError) → IsHalf e e' s f o vs x fs n g1 → IsRefused (rule e' (value_fits s (get_or vs n d) o.second g1)) y → IsRefusedFor e (nested_left s f vs) x y
half_second {e = e} {s = s} {f = f} {o = o} {vs = vs} {x = x} {fs = fs} {n = n} {g1 = g1} d y p r =
    half_refused d y p
    (on_fields e s f (Taken s f n vs) (value_at vs n d) o (wanted_within o x fs) y p.head
    (both_second e s (Taken s f n vs) (value_at vs n d) o (before_fields e o (wanted_within o x fs)) g1 y p.first
    (subst (λ k. IsRefused (rule k (value_fits s (value_at vs n d) o.second g1)) y) p.same r)))

pub half_end : {e e' e2 : Environment} {s : Span} {f : Id} {o : Applied} {vs : List Val} {x : Option PlainType} {fs : List Found} {n : ℕ} {g1 : Found} (d : Val) (g2 : Found) (y : InferError) → IsHalf e e' s f o vs x fs n g1 → e2 ≡ e' → Runs (rule e' (value_fits s (get_or vs n d) o.second g1)) (ok g2) → IsRefused (fields_end e2 s o.binders g2) y → IsRefusedFor e (nested_left s f vs) x y
half_end {e = e} {s = s} {f = f} {o = o} {vs = vs} {x = x} {fs = fs} {n = n} {g1 = g1} d g2 y p q r z =
    half_refused d y p
    (on_fields e s f (Taken s f n vs) (value_at vs n d) o (wanted_within o x fs) y p.head
    (both_end e s (Taken s f n vs) (value_at vs n d) o (before_fields e o (wanted_within o x fs)) g1 g2 y p.first
    (subst (λ k. Runs (rule k (value_fits s (value_at vs n d) o.second g1)) (ok g2)) p.same r)
    (subst (λ k. IsRefused (fields_end k s o.binders g2) y) (q ∙ p.same) z)))

both_of : {e e' e2 : Environment} {s : Span} {f : Id} {o : Applied} {vs : List Val} {x : Option PlainType} {fs : List Found} {n : ℕ} {g1 : Found} (d : Val) (g2 : Found) (a : List PlainArg) → IsHalf e e' s f o vs x fs n g1 → e2 ≡ e' → Runs (rule e' (value_fits s (get_or vs n d) o.second g1)) (ok g2) → Runs (fields_end e2 s o.binders g2) (ok a) → Runs (Both e s (Taken s f n vs) (value_at vs n d) o (before_fields e o (wanted_within o x fs))) (ok a)
both_of {e = e} {s = s} {f = f} {o = o} {vs = vs} {x = x} {fs = fs} {n = n} {g1 = g1} d g2 a p q r z =
    both_ok e s (Taken s f n vs) (value_at vs n d) o (before_fields e o (wanted_within o x fs)) g1 g2 a p.first
    (subst (λ k. Runs (rule k (value_fits s (value_at vs n d) o.second g1)) (ok g2)) p.same r)
    (subst (λ k. Runs (fields_end k s o.binders g2) (ok a)) (q ∙ p.same) z)

pub half_answer : {e e' e2 : Environment} {s : Span} {f : Id} {o : Applied} {vs : List Val} {x : Option PlainType} {fs : List Found} {n : ℕ} {g1 : Found} (d : Val) (g2 : Found) (a : List PlainArg) (w : Option PlainType) (y : InferError) → IsHalf e e' s f o vs x fs n g1 → e2 ≡ e' → Runs (rule e' (value_fits s (get_or vs n d) o.second g1)) (ok g2) → Runs (fields_end e2 s o.binders g2) (ok a) → w ≡ wanted_within o x fs → IsRefused (application_end e2 s o.answer a w) y → IsRefusedFor e (nested_left s f vs) x y
half_answer {e = e} {s = s} {f = f} {o = o} {vs = vs} {x = x} {fs = fs} {n = n} d g2 a w y p q r z i h =
    half_refused d y p
    (on_end e s f (Taken s f n vs) (value_at vs n d) o (wanted_within o x fs) a y p.head (both_of d g2 a p q r z)
    (subst (λ k. IsRefused (application_end e s o.answer a k) y) i (subst (λ k. IsRefused (application_end k s o.answer a w) y) (q ∙ p.same) h)))

pub half_done : {e e' e2 : Environment} {s : Span} {f : Id} {o : Applied} {vs : List Val} {x : Option PlainType} {fs : List Found} {n : ℕ} {g1 : Found} (d : Val) (g2 : Found) (a : List PlainArg) (w : Option PlainType) (t : PlainType) → IsHalf e e' s f o vs x fs n g1 → e2 ≡ e' → Runs (rule e' (value_fits s (get_or vs n d) o.second g1)) (ok g2) → Runs (fields_end e2 s o.binders g2) (ok a) → w ≡ wanted_within o x fs → Runs (application_end e2 s o.answer a w) (ok t) → IsFor e (Taken s f (suc n) vs) (wanted_within o x fs) (Some t)
half_done {e = e} {s = s} {f = f} {o = o} {vs = vs} {x = x} {fs = fs} {n = n} d g2 a w t p q r z i h =
    subst (λ v. IsFor e v (wanted_within o x fs) (Some t)) (sym (left_next s f vs n d p.some (omega (arith, p.count))))
    (for_on e s f (Taken s f n vs) (value_at vs n d) (wanted_within o x fs) t
    (on_ok e s f (Taken s f n vs) (value_at vs n d) o (wanted_within o x fs) a t p.head (both_of d g2 a p q r z)
    (subst (λ k. Runs (application_end e s o.answer a k) (ok t)) i (subst (λ k. Runs (application_end k s o.answer a w) (ok t)) (q ∙ p.same) h))))

-- where it stands
pub half_span : {e e' : Environment} {s : Span} {f : Id} {o : Applied} {vs : List Val} {x : Option PlainType} {fs : List Found} {n : ℕ} {g1 : Found} (d : Val) → IsHalf e e' s f o vs x fs n g1 → val_span (Taken s f (suc n) vs) ≡ s
half_span {s = s} {f = f} {vs = vs} {n = n} d p = ap val_span (left_next s f vs n d p.some (omega (arith, p.count)))

-- the first value, in all applications
pub first_value_refused : (e e' : Environment) (s : Span) (f : Id) (o : Applied) (vs : List Val) (x : Option PlainType) (fs : List Found) (w : Option PlainType) (d : Val) (y : InferError) → IsHead e f o → AreBegun e s o x fs → suc (length fs) ≡ length vs → w ≡ wanted_within o x fs → e' ≡ e → IsRefusedFor e' (get_or vs 0 d) w y → IsRefusedFor e (nested_left s f vs) x y
first_value_refused e e' s f o vs x fs w d y h k c q p r =
    refused_within e s f o vs x fs y 1 d h k (omega arith) (omega (arith, c))
    (subst (λ v. IsRefusedFor e v (wanted_within o x fs) y) (sym (left_first s f vs d (omega (arith, c))))
    (subst (λ z. IsRefusedFor e (get_or vs 0 d) z y) q (subst (λ z. IsRefusedFor z (get_or vs 0 d) w y) p r)))

pub first_value_for : (e e' : Environment) (s : Span) (f : Id) (o : Applied) (vs : List Val) (x : Option PlainType) (fs : List Found) (w g : Option PlainType) (d : Val) → suc (length fs) ≡ length vs → w ≡ wanted_within o x fs → e' ≡ e → IsFor e' (get_or vs 0 d) w g → IsFor e (Taken s f 1 vs) (wanted_within o x fs) g
first_value_for e e' s f o vs x fs w g d c q p h =
    subst (λ v. IsFor e v (wanted_within o x fs) g) (sym (left_first s f vs d (omega (arith, c))))
    (subst (λ z. IsFor e (get_or vs 0 d) z g) q (subst (λ z. IsFor z (get_or vs 0 d) w g) p h))

-- the head of all applications
pub left_head_refused : (e : Environment) (s : Span) (f : Id) (vs : List Val) (x : Option PlainType) (d : Val) (y : InferError) → 1 < length vs → ((v w : Val) (t : Option PlainType) → IsRefused (rule e (application s (head f) (two v w) t)) y) → IsRefusedFor e (nested_left s f vs) x y
left_head_refused e s f vs x d y h r = refused_outer (length vs) h refl
  where
    refused_outer : (m : ℕ) → 1 < m → m ≡ length vs → IsRefusedFor e (nested_left s f vs) x y
    refused_outer zero k l = absurd (omega arith)
    refused_outer (suc m) k l =
        subst (λ z. IsRefusedFor e z x y) (sym (left_next s f vs m d (omega arith) (omega (arith, l))) ∙ (ap (λ n. Taken s f n vs) l ∙ left_all s f vs))
        (for_refused e s f (Taken s f m vs) (get_or vs m d) x y (r (Taken s f m vs) (get_or vs m d) x))

-- what its steps may be asked

pub turn_found : {e e' : Environment} {s : Span} {f : Id} {o : Applied} {vs : List Val} {x : Option PlainType} {all fs : List Found} {g : Found} {n : ℕ} {at : Span} {given : Option PlainType} (d : Val) → IsTurn e e' s f o vs x all fs g n at given → IsAskedFor e (nested_left s f vs) x → AreFoundFor e o.binders fs × IsFoundFor e o.binders g
turn_found {e = e} {s = s} {f = f} {o = o} {vs = vs} {x = x} {all = all} {fs = fs} {g = g} {n = n} d p a =
    found_less e o.binders fs g (subst (AreFoundFor e o.binders) p.items (begun_found e s f o vs x all n d p.head a p.begun p.some p.count))

pub turn_room : {e e' : Environment} {s : Span} {f : Id} {o : Applied} {vs : List Val} {x : Option PlainType} {all fs : List Found} {g : Found} {n : ℕ} {at : Span} {given : Option PlainType} → IsTurn e e' s f o vs x all fs g n at given → HaveRoom e s o.first fs
turn_room {e = e} {s = s} {o = o} {x = x} {fs = fs} p = begun_room e s o x fs (turn_left p)

pub turn_wanted : {e e' : Environment} {s : Span} {f : Id} {o : Applied} {vs : List Val} {x : Option PlainType} {all fs : List Found} {g : Found} {n : ℕ} {at : Span} {given : Option PlainType} (d : Val) → IsTurn e e' s f o vs x all fs g n at given → IsAskedFor e (nested_left s f vs) x → IsExpected e (wanted_within o x fs)
turn_wanted {e = e} {s = s} {f = f} {o = o} {vs = vs} {x = x} {fs = fs} {n = n} d p a =
    expected_for e _ (wanted_within o x fs) (within_asked e s f o vs x fs (suc n) d p.head a (turn_left p) (omega arith) (turn_count p))

-- the second field, once the first is done
pub half_asked : {e e' : Environment} {s : Span} {f : Id} {o : Applied} {vs : List Val} {x : Option PlainType} {fs : List Found} {n : ℕ} {g1 : Found} (d : Val) → IsHalf e e' s f o vs x fs n g1 → IsAskedFor e (nested_left s f vs) x → IsWellAsked found_ e' (value_fits s (get_or vs n d) o.second g1)
half_asked {e = e} {e' = e'} {s = s} {f = f} {o = o} {vs = vs} {x = x} {fs = fs} {n = n} {g1 = g1} d p a =
    subst (λ k. IsWellAsked found_ k (value_fits s (get_or vs n d) o.second g1)) (sym p.same)
    (second_asked e s (Taken s f n vs) (get_or vs n d) o (before_fields e o (wanted_within o x fs)) g1 (turn_asked e s f o vs x fs n d p.head a p.begun p.some p.count) p.first)
