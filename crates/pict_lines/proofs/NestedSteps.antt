-- The steps of nested applications, by what the steps of fields answer.
use Rattle.std.proofs.Common.{◌≡◌, ◌≢◌, ◌<◌, ◌-◌, ℕ, zero, suc, Bool, true, false, nat_eq, if◌then◌else◌, refl, sym, ◌∙◌, ap, subst, List, [], ◌∷◌, length, get_or, Option, Some, None, Result, Ok, Err, IfErr, arith}
use Rattle.std.proofs.lemmas.Bool.{ne_eqb}
use Rattle.pict_syntax.specs.declared.code.Code.TheVariants.{Y4, Y5, Y6}
use Rattle.pict_syntax.specs.declared.id.Id.{Id}
use Rattle.pict_syntax.specs.declared.name.Name.{Name}
use Rattle.pict_syntax.specs.declared.span.Span.{Span}
use Rattle.pict_syntax.specs.Trees.{Val, true_val}
use Rattle.pict_syntax.specs.Stops.{Stop}
use Rattle.pict_types.specs.Types.{PlainType, Boolean, PlainTypes, PlainLabels, no_label, PlainArg, PlainBounds, count_types}
use Rattle.pict_types.specs.Kinds.{IsWellFormed, kinds_under}
use Rattle.pict_types.specs.Plain.{plain, plain_labels, plain_types}
use Rattle.pict_types.specs.Replacing.{FitTheirFields}
use Rattle.pict_types.specs.declared.types.Bound.{Bound}
use Rattle.pict_types.specs.declared.types.Ty.{Ty}
use Rattle.pict_types.proofs.Contexts.{entries_context}
use Rattle.pict_types.proofs.Rows.{count_types_length}
use Rattle.pict_normal.specs.Normal.{size_stop}
use Rattle.pict_normal.specs.Written.{kinds_with}
use Rattle.pict_normal.proofs.Instances.{kinds_fit}
use Rattle.pict_sub.specs.Exposing.{exposure}
use Rattle.pict_match.specs.declared.found.Found.{Found as CFound}
use Rattle.pict_rules.specs.Environments.{Environment, context_of, type_of_use}
use Rattle.pict_rules.specs.Found.{Found, matched, mentions_missing, with_found}
use Rattle.pict_rules.specs.Regular.{IsRegular, IsTypeIn, kinds_in, kinds_within}
use Rattle.pict_rules.specs.Rules.{type_, found_, give, has, ok, unless_stopped}
use Rattle.pict_rules.specs.Shapes.{applicable}
use Rattle.pict_rules.specs.Shapes as shapes
use Rattle.pict_rules.specs.Typing.{rule}
use Rattle.pict_rules.specs.Derivations.{Runs, give_, part_ok}
use Rattle.pict_rules.proofs.RegularArguments.{fields_kinds}
use Rattle.pict_rules.proofs.RegularMatched.{matched_in}
use Rattle.pict_infer.specs.declared.error.InferError.{InferError}
use Rattle.pict_infer.specs.declared.error.InferError.TheVariants.{Named, Memory}
use Rattle.pict_infer.specs.declared.error.Told.TheVariants.{Nothing}
use Rattle.pict_infer.specs.Answering.{IsRefused, IsStopped}
use Rattle.pict_lines.specs.Lines.{formed}
use Rattle.pict_infer.specs.Steps.{below, changed_or_same}
use Rattle.pict_lines.specs.Chains.{IsHead, IsNoOperator, IsUnfit, as_function, field_lines, if_given, room_stop, wanted_at, wanted_in}
use Rattle.pict_lines.specs.declared.functions.Function.{Function}
use Rattle.pict_lines.specs.Functions.{IsNoFunction, function_of}
use Rattle.pict_lines.specs.Operators.{AreFoundFor, HaveRoom, IsFoundFor, found_by, frames_by, operator_of}
use Rattle.pict_lines.specs.declared.operators.Applied.{Applied}
use Rattle.pict_lines.specs.Reading.{found_for}
use Rattle.pict_lines.proofs.Frames.{frame_at, length_frames}
use Rattle.pict_lines.proofs.Heads.{no_operator, two_types, unfit_label, unfit_number, unfit_operator}
use Rattle.pict_lines.proofs.NestedFormed.{last_found, last_room, last_wanted}
use Rattle.pict_infer.proofs.Forming.{refused_is}

-- what isn't empty has some
pub some_there : (n : ℕ) (b : Bool) → b ≡ nat_eq n 0 → b ≡ false → 0 < n
some_there zero b h k = absurd cc
some_there (suc n) b h k = omega arith

-- THE OPERATOR

labels_none : {L : Type 0} (f : List L → PlainLabels) (ls : List L) → length ls ≡ 0 → f [] ≡ no_label → f ls ≡ no_label
labels_none f [] h k = k
labels_none f (l ∷ ls) h k = absurd (omega (arith, h))

-- an operator's function is the one that the code has
pub as_its_function : (o : Applied) → as_function (operator_of o) ≡ function_of o.function
as_its_function o =
    ap (λ (ps : PlainTypes). let f : shapes.Function = record { binders = (function_of o.function).binders; positional = ps; labelled = no_label; answer = (function_of o.function).answer } in f) (sym (two_types o.function.fields.positional.items o.two))
    ∙ ap (λ (ls : PlainLabels). let f : shapes.Function = record { binders = (function_of o.function).binders; positional = (function_of o.function).positional; labelled = ls; answer = (function_of o.function).answer } in f) (sym (labels_none plain_labels o.function.fields.labelled.items o.unlabelled refl))

other_number : (xs : List Ty) → length xs ≢ 2 → nat_eq 2 (count_types (plain_types xs)) ≡ false
other_number xs h = rw (count_types_length xs) (ne_eqb 2 (length xs) (λ e. h (sym e)))

this_number : (xs : List Ty) → length xs ≡ 2 → nat_eq 2 (count_types (plain_types xs)) ≡ true
this_number xs h = ap (nat_eq 2) (count_types_length xs ∙ h)

some_label : (ls : List (Name × Ty)) → 0 < length ls → plain_labels ls ≡ no_label → ⊥
some_label [] n h = absurd (omega (arith, n))
some_label (l ∷ ls) n h = cc

pub unfit_by_number : (e : Environment) (f : Function) (s : Span) → length f.fields.positional.items ≢ 2 → IsUnfit e (function_of f) s (Named Y5 s Nothing)
unfit_by_number e f s h = unfit_number e (function_of f) s (other_number f.fields.positional.items h)

pub unfit_by_label : (e : Environment) (f : Function) (s : Span) → length f.fields.positional.items ≡ 2 → 0 < length f.fields.labelled.items → IsUnfit e (function_of f) s (Named Y6 s Nothing)
unfit_by_label e f s h n = unfit_label e (function_of f) s (this_number f.fields.positional.items h) (some_label f.fields.labelled.items n)

pub head_is : (e : Environment) (f : Id) (g : Function) (t : PlainType) (o : Applied) → t ≡ type_of_use e f.name.0 → applicable (exposure (context_of e) t) ≡ Some (function_of g) → o.function ≡ g → IsHead e f (operator_of o)
head_is e f g t o is h k = ap (λ z. applicable (exposure (context_of e) z)) (sym is) ∙ (h ∙ (ap (λ z. Some (function_of z)) (sym k) ∙ ap (λ z. Some z) (sym (as_its_function o))))

pub no_head : (e : Environment) (s : Span) (f : Id) (t : PlainType) (y : InferError) → t ≡ type_of_use e f.name.0 → IsNoFunction (applicable (exposure (context_of e) t)) f.span y → IsNoOperator e s f y
no_head e s f t y is h = no_operator e s f y (subst (λ z. IsNoFunction (applicable (exposure (context_of e) z)) f.span y) is h)

pub unfit_head : (e : Environment) (s : Span) (f : Id) (g : Function) (t : PlainType) (y : InferError) → t ≡ type_of_use e f.name.0 → applicable (exposure (context_of e) t) ≡ Some (function_of g) → IsUnfit e (function_of g) s y → IsNoOperator e s f y
unfit_head e s f g t y is h k = unfit_operator e s f (function_of g) y (ap (λ z. applicable (exposure (context_of e) z)) (sym is) ∙ h) k

-- THE TRUE LITERAL

pub true_has : (e : Environment) (s : Span) (t : PlainType) → Runs (below e Boolean t Y4 s) (ok tt) → Runs (rule e (has (true_val s) t)) (ok tt)
true_has e s t h = part_ok give_ h

pub true_refused : (e : Environment) (s : Span) (t : PlainType) (y : InferError) → IsRefused (below e Boolean t Y4 s) y → IsRefused (rule e (has (true_val s) t)) y
true_refused e s t (Named c i told) h = part_ok give_ h
true_refused e s t Memory h = tt

-- WHAT A FIELD IS WANTED TO HAVE

formed_clear : (o : Option Stop) (w u : PlainType) → Runs {s = type_} (unless_stopped o (give w)) (ok u) → o ≡ None
formed_clear None w u h = refl
formed_clear (Some x) w u h = elim h [ ]

formed_given : (o : Option Stop) (w u : PlainType) → Runs {s = type_} (unless_stopped o (give w)) (ok u) → u ≡ w
formed_given None w u give_ = refl
formed_given (Some x) w u h = elim h [ ]

known_wanted : (t : PlainType) (g : Found) → mentions_missing g t ≡ false → wanted_at t g ≡ Some (with_found g t)
known_wanted t g h = ap (λ (m : Bool). if m then None else Some (with_found g t)) h

-- and one that doesn't
wanted_is : (e : Environment) (s : Span) (t u : PlainType) (g : Found) → mentions_missing g t ≡ false → Runs (formed e (with_found g t) s) (ok u) → Some u ≡ wanted_at t g
wanted_is e s t u g h r = ap (λ z. Some z) (formed_given (size_stop e.context (with_found g t) s) (with_found g t) u r) ∙ sym (known_wanted t g h)

wanted_room : (e : Environment) (s : Span) (t u : PlainType) (g : Found) → mentions_missing g t ≡ false → Runs (formed e (with_found g t) s) (ok u) → room_stop e s (wanted_at t g) ≡ None
wanted_room e s t u g h r = ap (room_stop e s) (known_wanted t g h) ∙ formed_clear (size_stop e.context (with_found g t) s) (with_found g t) u r

pub wanted_stopped : (e : Environment) (s : Span) (t : PlainType) (g : Found) (y : InferError) → mentions_missing g t ≡ false → IsRefused (formed e (with_found g t) s) y → IsStopped (room_stop e s (wanted_at t g)) y
wanted_stopped e s t g y h r = subst (λ w. IsStopped (room_stop e s w) y) (sym (known_wanted t g h)) (refused_is (size_stop e.context (with_found g t) s) (with_found g t) y r)

-- as the code has it
pub shown_wanted : (e : Environment) (s : Span) (o : Applied) (t : Ty) (g : CFound) (bs : List Bound) (r w : Option Ty) → bs ≡ o.function.fields.binders.items → mentions_missing (found_by o g) (plain t) ≡ false → Runs (formed e (with_found (found_for bs g) (plain t)) s) (ok (changed_or_same r t)) → r ≡ w → Some (changed_or_same w t) ≡ wanted_at (plain t) (found_by o g)
shown_wanted e s o t g bs r w is m h k =
    wanted_is e s (plain t) (changed_or_same w t) (found_by o g) m
    (subst (λ z. Runs (formed e (with_found (found_by o g) (plain t)) s) (ok (changed_or_same z t))) k (subst (λ z. Runs (formed e (with_found (found_for z g) (plain t)) s) (ok (changed_or_same r t))) is h))

pub shown_room : (e : Environment) (s : Span) (o : Applied) (t : Ty) (g : CFound) (bs : List Bound) (r : Option Ty) → bs ≡ o.function.fields.binders.items → mentions_missing (found_by o g) (plain t) ≡ false → Runs (formed e (with_found (found_for bs g) (plain t)) s) (ok (changed_or_same r t)) → room_stop e s (wanted_at (plain t) (found_by o g)) ≡ None
shown_room e s o t g bs r is m h = wanted_room e s (plain t) (changed_or_same r t) (found_by o g) m (subst (λ z. Runs (formed e (with_found (found_for z g) (plain t)) s) (ok (changed_or_same r t))) is h)

-- no refusal is left but want of memory
only_memory : (o : Option Stop) (y : InferError) → o ≡ None → IsStopped o y → y ≡ Memory
only_memory o (Named c i told) h k = absurd cc
only_memory o Memory h k = refl

pub memory_alone : {T : Type 0} (o : Option Stop) (r : Result T InferError) → o ≡ None → IfErr r (IsStopped o) → IfErr r (λ y. y ≡ Memory)
memory_alone o (Ok x) h k = tt
memory_alone o (Err y) h k = only_memory o y h k

-- THE LAST OF THE FRAMES

last_frame : (o : Applied) (fs : List CFound) (r : CFound) → 0 < length fs → r ≡ get_or fs (length fs - 1) r → get_or (frames_by o fs) (length fs - 1) (found_by o r) ≡ found_by o r
last_frame o fs r n is = frame_at o fs (length fs - 1) r (omega (arith, n)) ∙ ap (found_by o) (sym is)

pub frame_found : (e : Environment) (o : Applied) (bs : PlainBounds) (fs : List CFound) (r : CFound) → 0 < length fs → r ≡ get_or fs (length fs - 1) r → AreFoundFor e bs (frames_by o fs) → IsFoundFor e bs (found_by o r)
frame_found e o bs fs r n is k = subst (IsFoundFor e bs) (last_frame o fs r n is) (last_found e bs (frames_by o fs) (length fs - 1) (found_by o r) (omega (arith, n, length_frames o fs)) k)

pub frame_wanted : (o : Applied) (t : PlainType) (x : Option PlainType) (fs : List CFound) (r : CFound) → 0 < length fs → r ≡ get_or fs (length fs - 1) r → wanted_at t (found_by o r) ≡ wanted_in t x (frames_by o fs)
frame_wanted o t x fs r n is = ap (wanted_at t) (sym (last_frame o fs r n is)) ∙ last_wanted t x (frames_by o fs) (length fs - 1) (found_by o r) (omega (arith, n, length_frames o fs))

pub frame_room : (e : Environment) (s : Span) (o : Applied) (t : PlainType) (fs : List CFound) (r : CFound) → 0 < length fs → r ≡ get_or fs (length fs - 1) r → HaveRoom e s t (frames_by o fs) → room_stop e s (wanted_at t (found_by o r)) ≡ None
frame_room e s o t fs r n is k =
    subst (λ z. room_stop e s (wanted_at t z) ≡ None) (last_frame o fs r n is) (last_room e s t (frames_by o fs) (length fs - 1) (found_by o r) (omega (arith, n, length_frames o fs)) k)

-- WHAT A FIELD FINDS

either_way : (m : Bool) (g : Found) → Runs {s = found_} (if m then give g else give g) (ok g)
either_way true g = give_
either_way false g = give_

-- its value gave no type
pub nothing_given : (e : Environment) (s : Span) (v : Val) (t : PlainType) (g : Found) (x : Option PlainType) → x ≡ None → Runs (field_lines e s v t g x) (ok g)
nothing_given e s v t g x h = subst (λ z. Runs (field_lines e s v t g z) (ok g)) (sym h) (either_way (mentions_missing g t) g)

-- or its type mentions nothing that isn't found
pub known_given : (e : Environment) (s : Span) (v : Val) (t : PlainType) (g : Found) (x : Option PlainType) → mentions_missing g t ≡ false → Runs (field_lines e s v t g x) (ok g)
known_given e s v t g x h = subst (λ (m : Bool). Runs {s = found_} (if m then if_given e s v t g x else give g) (ok g)) (sym h) give_

-- what is found is of the fields' kinds
pub within_fields : (e : Environment) (bs : PlainBounds) (t : PlainType) (g : Found) → IsWellFormed e.names (kinds_under (kinds_in e) bs) t → IsFoundFor e bs g → IsWellFormed e.names (kinds_within (kinds_in e) g) t
within_fields e bs t g w h = subst (λ ks. IsWellFormed e.names ks t) (fields_kinds (kinds_in e) g bs h.kinds_) w

pub matched_found : (e : Environment) (bs : PlainBounds) (t u : PlainType) (g h : Found) → IsRegular e → IsWellFormed e.names (kinds_under (kinds_in e) bs) t → IsTypeIn e u → IsFoundFor e bs g → h ≡ matched (context_of e) 0 t u g → IsFoundFor e bs h
matched_found e bs t u g h r w x k q =
    let m = matched_in e (context_of e) t u g (entries_context e.names e.context r.entries) refl (within_fields e bs t g w k) x k.fits in
    subst (IsFoundFor e bs) (sym q) (record { kinds_ = m.kinds_ ∙ k.kinds_; fits = m.fits })

-- THE ANSWER

-- the answer's type is well formed under the arguments
pub answer_under : (e : Environment) (bs : PlainBounds) (u : PlainType) (args : List PlainArg) → FitTheirFields args bs → IsWellFormed e.names (kinds_under (kinds_in e) bs) u → IsWellFormed e.names (kinds_with args (kinds_in e)) u
answer_under e bs u args h w = subst (λ ks. IsWellFormed e.names ks u) (kinds_fit (kinds_in e) args bs h) w
