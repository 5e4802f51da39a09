-- What is well formed in nested applications: the operator, what is found, and what is wanted.
use Rattle.std.proofs.Common.{◌≡◌, ℕ, zero, suc, ◌+◌, ◌≤◌, ◌<◌, refl, sym, ◌∙◌, ap, subst, List, [], ◌∷◌, ◌++◌, length, get_or, take, Option, Some, None, arith}
use Rattle.pict_syntax.specs.declared.span.Span.{Span}
use Rattle.pict_syntax.specs.declared.id.Id.{Id}
use Rattle.pict_syntax.specs.Trees.{Val}
use Rattle.pict_types.specs.Types.{PlainType, PlainBounds}
use Rattle.pict_types.specs.Kinds.{kinds_under, IsWellFormed}
use Rattle.pict_sub.specs.Exposing.{exposure}
use Rattle.pict_rules.specs.Found.{Found}
use Rattle.pict_rules.specs.Shapes.{Function, applicable}
use Rattle.pict_rules.specs.Environments.{Environment, context_of, type_of_use}
use Rattle.pict_rules.specs.Rules.{type_, found_, gives, value_fits, ok}
use Rattle.pict_rules.specs.Derivations.{Runs, give_}
use Rattle.pict_rules.specs.Typing.{rule}
use Rattle.pict_rules.specs.Regular.{IsRegular, IsExpected, IsTypeIn, kinds_in}
use Rattle.pict_rules.proofs.RegularAbstractions.{FunctionFormed}
use Rattle.pict_rules.proofs.RegularAll.{regularity}
use Rattle.pict_rules.proofs.RegularArguments.{applied_formed}
use Rattle.pict_rules.proofs.RegularProcesses.{exposed_formed}
use Rattle.pict_infer.specs.Asking.{IsWellAsked}
use Rattle.pict_lines.specs.Judging.{IsAskedFor}
use Rattle.pict_lines.specs.Chains.{Applied, as_function, head, IsHead, nested, nested_left, before_fields, room_stop, wanted_at, wanted_in, wanted_by, wanted_first, AreEntered, AreBegun}
use Rattle.pict_lines.specs.Functions.{FunctionIsFormed}
use Rattle.pict_lines.specs.Operators.{IsFoundFor, AreFoundFor, HaveRoom}
use Rattle.pict_lines.proofs.AppliedAsked.{application_asked, fields_asked, FieldsAsked, first_asked, second_asked, value_asked}
use Rattle.pict_lines.proofs.Lefts.{Taken, left_next, left_all}

-- what is asked in a regular environment, of a type that is well formed
pub regular_for : (e : Environment) (v : Val) (x : Option PlainType) → IsAskedFor e v x → IsRegular e
regular_for e v None h = h.regular
regular_for e v (Some u) h = h.regular

pub expected_for : (e : Environment) (v : Val) (x : Option PlainType) → IsAskedFor e v x → IsExpected e x
expected_for e v None h = tt
expected_for e v (Some u) h = h.asked

-- what a value gave where nothing is wanted
pub given_for : (e : Environment) (v : Val) (t : PlainType) → IsAskedFor e v None → Runs (rule e (gives v)) (ok t) → IsTypeIn e t
given_for e v t h r = regularity type_ e (gives v) t h.labels h.regular h.asked r

-- the operator
formed_as : (e : Environment) (o : Applied) (x : Option Function) → x ≡ Some (as_function o) → FunctionFormed e x → FunctionIsFormed e (as_function o)
formed_as e o x h w = let k : FunctionFormed e (Some (as_function o)) = subst (FunctionFormed e) h w in record { fields = k.0; answer_ = k.1 }

pub operator_formed : (e : Environment) (f : Id) (o : Applied) → IsHead e f o → IsRegular e → FunctionIsFormed e (as_function o)
operator_formed e f o h r =
    formed_as e o (applicable (exposure (context_of e) (type_of_use e f.name.0))) h
    (applied_formed e (exposure (context_of e) (type_of_use e f.name.0))
    (exposed_formed e (type_of_use e f.name.0) r (regularity type_ e (gives (head f)) (type_of_use e f.name.0) tt r tt give_)))

pub first_formed : (e : Environment) (o : Applied) → FunctionIsFormed e (as_function o) → IsWellFormed e.names (kinds_under (kinds_in e) o.binders) o.first
first_formed e o w = w.fields.1.0.0

pub second_formed : (e : Environment) (o : Applied) → FunctionIsFormed e (as_function o) → IsWellFormed e.names (kinds_under (kinds_in e) o.binders) o.second
second_formed e o w = w.fields.1.0.1.0

-- what is found before the fields, and by one of them
pub before_found : (e : Environment) (s : Span) (v w : Val) (o : Applied) (g : Found) → FieldsAsked e s v w o g → IsFoundFor e o.binders g
before_found e s v w o g h = record { kinds_ = h.asked.1.0; fits = h.asked.1.1.0 }

pub after_found : (e : Environment) (s : Span) (v : Val) (bs : PlainBounds) (t : PlainType) (f g : Found) → IsFoundFor e bs f → IsWellAsked found_ e (value_fits s v t f) → Runs (rule e (value_fits s v t f)) (ok g) → IsFoundFor e bs g
after_found e s v bs t f g k h r =
    let x = regularity found_ e (value_fits s v t f) g h.labels h.regular h.asked r in
    record { kinds_ = x.0 ∙ k.kinds_; fits = x.1 }

-- FROM THE RIGHT

pub entered_found : (e : Environment) (s : Span) (f : Id) (o : Applied) (vs : List Val) (x : Option PlainType) (gs : List Found) → IsHead e f o → IsAskedFor e (nested s f vs) x → AreEntered e s o vs x gs → length gs < length vs → AreFoundFor e o.binders gs
entered_found e s f o vs x [] h a k n = tt
entered_found e s f o [] x (g ∷ gs) h a k n = absurd k
entered_found e s f o (v ∷ []) x (g ∷ gs) h a k n = absurd (omega arith)
entered_found e s f o (v ∷ w ∷ vs) x (g ∷ gs) h a k n =
    let b = fields_asked e s f v (nested s f (w ∷ vs)) o x h (application_asked e s f v (nested s f (w ∷ vs)) x a) in
    let c = second_asked e s v (nested s f (w ∷ vs)) o (before_fields e o x) g b k.0.field in
    let i = after_found e s v o.binders o.first (before_fields e o x) g (before_found e s v (nested s f (w ∷ vs)) o (before_fields e o x) b) (first_asked e s v (nested s f (w ∷ vs)) o (before_fields e o x) b) k.0.field in
    (i, entered_found e s f o (w ∷ vs) (wanted_by o g) gs h (value_asked e s (nested s f (w ∷ vs)) o.second g k.0.room c) k.1 (omega arith))

pub entered_room : (e : Environment) (s : Span) (o : Applied) (vs : List Val) (x : Option PlainType) (gs : List Found) → AreEntered e s o vs x gs → HaveRoom e s o.second gs
entered_room e s o vs x [] k = tt
entered_room e s o [] x (g ∷ gs) k = absurd k
entered_room e s o (v ∷ vs) x (g ∷ gs) k = (k.0.room, entered_room e s o vs (wanted_by o g) gs k.1)

-- FROM THE LEFT

found_to : (e : Environment) (s : Span) (f : Id) (o : Applied) (vs : List Val) (x : Option PlainType) (gs : List Found) (n m : ℕ) (d : Val) → IsHead e f o → AreBegun e s o x gs → 1 ≤ n → n + length gs ≡ m → m ≤ length vs → IsAskedFor e (Taken s f m vs) x → AreFoundFor e o.binders gs
found_to e s f o vs x [] n m d h k a b c r = tt
found_to e s f o vs x (g ∷ gs) n zero d h k a b c r = absurd (omega (arith, b))
found_to e s f o vs x (g ∷ gs) n (suc m) d h k a b c r =
    let l : n + length gs ≡ m = omega (arith, b) in
    let q = subst (λ z. IsAskedFor e z x) (left_next s f vs m d (omega (arith, a, l)) (omega (arith, c))) r in
    let i = fields_asked e s f (Taken s f m vs) (get_or vs m d) o x h (application_asked e s f (Taken s f m vs) (get_or vs m d) x q) in
    let j = first_asked e s (Taken s f m vs) (get_or vs m d) o (before_fields e o x) i in
    let y = before_found e s (Taken s f m vs) (get_or vs m d) o (before_fields e o x) i in (
      subst (IsFoundFor e o.binders) (sym k.0.before) y,
      found_to e s f o vs (wanted_first o g) gs n m d h k.1 a l (omega (arith, c))
          (value_asked e s (Taken s f m vs) o.first g k.0.room (subst (λ z. IsWellAsked found_ e (value_fits s (Taken s f m vs) o.first z)) (sym k.0.before) j)),
    )

pub begun_found : (e : Environment) (s : Span) (f : Id) (o : Applied) (vs : List Val) (x : Option PlainType) (gs : List Found) (n : ℕ) (d : Val) → IsHead e f o → IsAskedFor e (nested_left s f vs) x → AreBegun e s o x gs → 1 ≤ n → n + length gs ≡ length vs → AreFoundFor e o.binders gs
begun_found e s f o vs x gs n d h r k a b = found_to e s f o vs x gs n (length vs) d h k a b (omega arith) (subst (λ z. IsAskedFor e z x) (sym (left_all s f vs)) r)

pub begun_room : (e : Environment) (s : Span) (o : Applied) (x : Option PlainType) (gs : List Found) → AreBegun e s o x gs → HaveRoom e s o.first gs
begun_room e s o x [] k = tt
begun_room e s o x (g ∷ gs) k = (k.0.room, begun_room e s o (wanted_first o g) gs k.1)

-- THE LAST OF THOSE ENTERED OR BEGUN

split_last : (fs : List Found) (n : ℕ) (d : Found) → suc n ≡ length fs → fs ≡ take n fs ++ get_or fs n d ∷ []
split_last [] n d h = absurd (omega arith)
split_last (f ∷ []) zero d h = refl
split_last (f ∷ []) (suc n) d h = absurd (omega arith)
split_last (f ∷ g ∷ fs) zero d h = absurd (omega arith)
split_last (f ∷ g ∷ fs) (suc n) d h = ap (λ z. f ∷ z) (split_last (g ∷ fs) n d (omega arith))

pub wanted_in_more : (t : PlainType) (x : Option PlainType) (gs : List Found) (g : Found) → wanted_in t x (gs ++ g ∷ []) ≡ wanted_at t g
wanted_in_more t x [] g = refl
wanted_in_more t x (g' ∷ gs) g = wanted_in_more t (wanted_at t g') gs g

pub last_wanted : (t : PlainType) (x : Option PlainType) (fs : List Found) (n : ℕ) (d : Found) → suc n ≡ length fs → wanted_at t (get_or fs n d) ≡ wanted_in t x fs
last_wanted t x fs n d h = sym (ap (wanted_in t x) (split_last fs n d h) ∙ wanted_in_more t x (take n fs) (get_or fs n d))

pub last_found : (e : Environment) (bs : PlainBounds) (fs : List Found) (n : ℕ) (d : Found) → n < length fs → AreFoundFor e bs fs → IsFoundFor e bs (get_or fs n d)
last_found e bs [] n d h k = absurd (omega arith)
last_found e bs (f ∷ fs) zero d h k = k.0
last_found e bs (f ∷ fs) (suc n) d h k = last_found e bs fs n d (omega arith) k.1

pub last_room : (e : Environment) (s : Span) (t : PlainType) (fs : List Found) (n : ℕ) (d : Found) → n < length fs → HaveRoom e s t fs → room_stop e s (wanted_at t (get_or fs n d)) ≡ None
last_room e s t [] n d h k = absurd (omega arith)
last_room e s t (f ∷ fs) zero d h k = k.0
last_room e s t (f ∷ fs) (suc n) d h k = last_room e s t fs n d (omega arith) k.1

pub found_less : (e : Environment) (bs : PlainBounds) (fs : List Found) (g : Found) → AreFoundFor e bs (fs ++ g ∷ []) → AreFoundFor e bs fs × IsFoundFor e bs g
found_less e bs [] g k = (tt, k.0)
found_less e bs (f ∷ fs) g k = let x = found_less e bs fs g k.1 in ((k.0, x.0), x.1)
