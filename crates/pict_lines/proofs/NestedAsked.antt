-- What is asked in nested applications is well asked, where it is of the whole; and what is answered there is well formed.
use Rattle.std.proofs.Common.{◌≡◌, ℕ, suc, zero, ◌+◌, ◌≤◌, ◌<◌, sym, subst, List, [], ◌∷◌, length, get_or, drop, Option, arith}
use Rattle.pict_syntax.specs.declared.span.Span.{Span}
use Rattle.pict_syntax.specs.declared.id.Id.{Id}
use Rattle.pict_syntax.specs.Trees.{Val}
use Rattle.pict_types.specs.Types.{PlainType}
use Rattle.pict_rules.specs.Found.{Found}
use Rattle.pict_rules.specs.Environments.{Environment}
use Rattle.pict_rules.specs.Rules.{found_, value_fits}
use Rattle.pict_infer.specs.Asking.{IsWellAsked}
use Rattle.pict_lines.specs.Judging.{IsAskedFor}
use Rattle.pict_lines.specs.Chains.{Applied, IsHead, nested, nested_left, before_fields, wanted_by, wanted_first, AreEntered, wanted_inside, AreBegun, wanted_within}
use Rattle.pict_lines.proofs.AppliedAsked.{application_asked, fields_asked, FieldsAsked, first_asked, second_asked, value_asked}
use Rattle.pict_lines.proofs.Lefts.{Taken, left_next, left_all}

-- FROM THE RIGHT

-- inside all applications that are entered
pub inside_asked : (e : Environment) (s : Span) (f : Id) (o : Applied) (vs : List Val) (x : Option PlainType) (gs : List Found) → IsHead e f o → IsAskedFor e (nested s f vs) x → AreEntered e s o vs x gs → length gs < length vs → IsAskedFor e (nested s f (drop (length gs) vs)) (wanted_inside o x gs)
inside_asked e s f o vs x [] h a k n = a
inside_asked e s f o [] x (g ∷ gs) h a k n = absurd k
inside_asked e s f o (v ∷ []) x (g ∷ gs) h a k n = absurd (omega arith)
inside_asked e s f o (v ∷ w ∷ vs) x (g ∷ gs) h a k n =
    let b = fields_asked e s f v (nested s f (w ∷ vs)) o x h (application_asked e s f v (nested s f (w ∷ vs)) x a) in
    let c = second_asked e s v (nested s f (w ∷ vs)) o (before_fields e o x) g b k.0.field in
    inside_asked e s f o (w ∷ vs) (wanted_by o g) gs h (value_asked e s (nested s f (w ∷ vs)) o.second g k.0.room c) k.1 (omega arith)

-- FROM THE LEFT

-- within all applications that are begun
asked_to : (e : Environment) (s : Span) (f : Id) (o : Applied) (vs : List Val) (x : Option PlainType) (gs : List Found) (n m : ℕ) (d : Val) → IsHead e f o → AreBegun e s o x gs → 1 ≤ n → n + length gs ≡ m → m ≤ length vs → IsAskedFor e (Taken s f m vs) x → IsAskedFor e (Taken s f n vs) (wanted_within o x gs)
asked_to e s f o vs x [] n m d h k a b c r = subst (λ z. IsAskedFor e (Taken s f z vs) x) (omega (arith, b)) r
asked_to e s f o vs x (g ∷ gs) n zero d h k a b c r = absurd (omega (arith, b))
asked_to e s f o vs x (g ∷ gs) n (suc m) d h k a b c r =
    let l : n + length gs ≡ m = omega (arith, b) in
    let q = subst (λ z. IsAskedFor e z x) (left_next s f vs m d (omega (arith, a, l)) (omega (arith, c))) r in
    let i = fields_asked e s f (Taken s f m vs) (get_or vs m d) o x h (application_asked e s f (Taken s f m vs) (get_or vs m d) x q) in
    let j = first_asked e s (Taken s f m vs) (get_or vs m d) o (before_fields e o x) i in
    asked_to e s f o vs (wanted_first o g) gs n m d h k.1 a l (omega (arith, c))
    (value_asked e s (Taken s f m vs) o.first g k.0.room (subst (λ z. IsWellAsked found_ e (value_fits s (Taken s f m vs) o.first z)) (sym k.0.before) j))

pub within_asked : (e : Environment) (s : Span) (f : Id) (o : Applied) (vs : List Val) (x : Option PlainType) (gs : List Found) (n : ℕ) (d : Val) → IsHead e f o → IsAskedFor e (nested_left s f vs) x → AreBegun e s o x gs → 1 ≤ n → n + length gs ≡ length vs → IsAskedFor e (Taken s f n vs) (wanted_within o x gs)
within_asked e s f o vs x gs n d h r k a b = asked_to e s f o vs x gs n (length vs) d h k a b (omega arith) (subst (λ z. IsAskedFor e z x) (sym (left_all s f vs)) r)

-- the fields of the application to the value of number n
pub turn_asked : (e : Environment) (s : Span) (f : Id) (o : Applied) (vs : List Val) (x : Option PlainType) (gs : List Found) (n : ℕ) (d : Val) → IsHead e f o → IsAskedFor e (nested_left s f vs) x → AreBegun e s o x gs → 1 ≤ n → suc n + length gs ≡ length vs → FieldsAsked e s (Taken s f n vs) (get_or vs n d) o (before_fields e o (wanted_within o x gs))
turn_asked e s f o vs x gs n d h r k a b =
    fields_asked e s f (Taken s f n vs) (get_or vs n d) o (wanted_within o x gs) h
    (application_asked e s f (Taken s f n vs) (get_or vs n d) (wanted_within o x gs)
    (subst (λ v. IsAskedFor e v (wanted_within o x gs)) (left_next s f vs n d a (omega (arith, b))) (within_asked e s f o vs x gs (suc n) d h r k (omega arith) b)))
