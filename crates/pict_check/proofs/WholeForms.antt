-- Forms from the right and from the left, once their operators are known: the value that is looked at between the ways in and out.
use Rattle.std.proofs.Common.{◌≡◌, suc, ◌-◌, refl, sym, ◌∙◌, ap, subst, List, length, get_or, Option, arith}
use Rattle.pict_syntax.specs.declared.id.Id.{Id}
use Rattle.pict_syntax.specs.declared.span.Span.{Span}
use Rattle.pict_syntax.specs.declared.tree.Val.{Val as RVal}
use Rattle.pict_syntax.specs.PlainTrees.{val_of}
use Rattle.pict_syntax.specs.Trees.{true_val}
use Rattle.pict_types.specs.declared.types.Ty.{Ty}
use Rattle.pict_types.specs.Types.{PlainType}
use Rattle.pict_match.specs.declared.found.Found.{Found}
use Rattle.pict_rules.specs.Environments.{Environment}
use Rattle.pict_infer.specs.declared.error.InferError.{InferError}
use Rattle.pict_lines.specs.declared.operators.Applied.{Applied}
use Rattle.pict_lines.specs.Chains.{IsHead, nested, nested_left}
use Rattle.pict_lines.specs.Judging.{IsAskedFor, IsFor, IsRefusedFor}
use Rattle.pict_lines.specs.Nesting.{AreAllBegun, AreAllEntered, IsLeftForm, IsRightForm, left_first, left_form, right_form, right_inside, wanted_left, wanted_right}
use Rattle.pict_lines.specs.Operators.{AreFoundFor, HaveRoom, frames_by, operator_of, type_if, vals_of}
use Rattle.pict_lines.proofs.Frames.{length_frames, length_vals, val_at}
use Rattle.pict_check.proofs.Outward.{first_value_for, first_value_refused}
use Rattle.pict_check.proofs.Outward as outward
use Rattle.pict_lines.proofs.NestedAsked.{inside_asked, within_asked}
use Rattle.pict_lines.proofs.NestedFormed.{begun_found, begun_room, entered_found, entered_room}
use Rattle.pict_check.proofs.Inward.{last_for, last_refused}
use Rattle.pict_lines.proofs.Rights.{last_is}

-- THE OPERATOR STANDS WHERE THE FORM HAS IT

pub right_form_of : {e : Environment} {f : Id} {s : Span} {vs : List RVal} {x : Option Ty} (o : Applied) → o.name ≡ f → o.span ≡ s → IsHead e f (operator_of o) → IsAskedFor e (nested s f (vals_of vs)) (type_if x) → IsRightForm e o vs x
right_form_of {e = e} {f = f} {s = s} {vs = vs} {x = x} o name place h k = record {
  head = subst (λ z. IsHead e z (operator_of o)) (sym name) h;
  asked = subst (λ z. IsAskedFor e (nested z o.name (vals_of vs)) (type_if x)) (sym place) (subst (λ z. IsAskedFor e (nested s z (vals_of vs)) (type_if x)) (sym name) k);
}

pub left_form_of : {e : Environment} {f : Id} {s : Span} {vs : List RVal} {x : Option Ty} (o : Applied) → o.name ≡ f → o.span ≡ s → IsHead e f (operator_of o) → IsAskedFor e (nested_left s f (vals_of vs)) (type_if x) → IsLeftForm e o vs x
left_form_of {e = e} {f = f} {s = s} {vs = vs} {x = x} o name place h k = record {
  head = subst (λ z. IsHead e z (operator_of o)) (sym name) h;
  asked = subst (λ z. IsAskedFor e (nested_left z o.name (vals_of vs)) (type_if x)) (sym place) (subst (λ z. IsAskedFor e (nested_left s z (vals_of vs)) (type_if x)) (sym name) k);
}

pub form_is : {f : Id} {s : Span} (o : Applied) (vs : List RVal) → o.name ≡ f → o.span ≡ s → right_form o vs ≡ nested s f (vals_of vs)
form_is {s = s} o vs name place = ap (λ z. nested z o.name (vals_of vs)) place ∙ ap (λ z. nested s z (vals_of vs)) name

pub form_is_left : {f : Id} {s : Span} (o : Applied) (vs : List RVal) → o.name ≡ f → o.span ≡ s → left_form o vs ≡ nested_left s f (vals_of vs)
form_is_left {s = s} o vs name place = ap (λ z. nested_left z o.name (vals_of vs)) place ∙ ap (λ z. nested_left s z (vals_of vs)) name

-- FROM THE RIGHT

entered_count : {e : Environment} {o : Applied} {vs : List RVal} {x : Option Ty} {fs : List Found} → AreAllEntered e o vs x fs → suc (length (frames_by o fs)) ≡ length (vals_of vs)
entered_count {o = o} {vs = vs} {fs = fs} k = omega (arith, k.count, length_frames o fs, length_vals vs)

pub all_entered_found : {e e' : Environment} {o : Applied} {vs : List RVal} {x : Option Ty} {fs ds : List Found} → IsRightForm e o vs x → AreAllEntered e o vs x fs → e' ≡ e → ds ≡ fs → AreFoundFor e' (operator_of o).binders (frames_by o ds)
all_entered_found {e = e} {o = o} {vs = vs} {x = x} {fs = fs} {ds = ds} p k q is =
    subst (λ z. AreFoundFor z (operator_of o).binders (frames_by o ds)) (sym q)
    (subst (λ z. AreFoundFor e (operator_of o).binders (frames_by o z)) (sym is)
    (entered_found e o.span o.name (operator_of o) (vals_of vs) (type_if x) (frames_by o fs) p.head p.asked k.entered (omega (arith, entered_count k))))

pub all_entered_room : {e e' : Environment} {o : Applied} {vs : List RVal} {x : Option Ty} {fs ds : List Found} {u : PlainType} → AreAllEntered e o vs x fs → e' ≡ e → ds ≡ fs → u ≡ (operator_of o).second → HaveRoom e' o.span u (frames_by o ds)
all_entered_room {e = e} {o = o} {vs = vs} {x = x} {fs = fs} {ds = ds} {u = u} k q is second =
    subst (λ z. HaveRoom z o.span u (frames_by o ds)) (sym q)
    (subst (λ z. HaveRoom e o.span u (frames_by o z)) (sym is)
    (subst (λ t. HaveRoom e o.span t (frames_by o fs)) (sym second) (entered_room e o.span (operator_of o) (vals_of vs) (type_if x) (frames_by o fs) k.entered)))

-- the last value
last_value : {e : Environment} {o : Applied} {vs : List RVal} {x : Option Ty} {fs : List Found} (r : RVal) → AreAllEntered e o vs x fs → r ≡ get_or vs (length vs - 1) r → get_or (vals_of vs) (length (frames_by o fs)) (val_of r) ≡ val_of r
last_value {o = o} {vs = vs} {fs = fs} r k is =
    let last : length (frames_by o fs) ≡ length vs - 1 = omega (arith, k.count, length_frames o fs) in
    val_at vs (length (frames_by o fs)) r (val_of r) (omega (arith, k.count, length_frames o fs)) ∙ ap val_of (ap (λ n. get_or vs n r) last ∙ sym is)

pub last_asked : {e e' : Environment} {o : Applied} {vs : List RVal} {x : Option Ty} {fs : List Found} {w : Option PlainType} (r : RVal) → IsRightForm e o vs x → AreAllEntered e o vs x fs → e' ≡ e → w ≡ wanted_right o x fs → r ≡ get_or vs (length vs - 1) r → IsAskedFor e' (val_of r) w
last_asked {e = e} {o = o} {vs = vs} {x = x} {fs = fs} {w = w} r p k q wanted is =
    subst (λ z. IsAskedFor z (val_of r) w) (sym q)
    (subst (IsAskedFor e (val_of r)) (sym wanted)
    (subst (λ v. IsAskedFor e v (wanted_right o x fs)) (last_is o.span o.name (vals_of vs) (length (frames_by o fs)) (val_of r) (entered_count k) ∙ last_value r k is)
    (inside_asked e o.span o.name (operator_of o) (vals_of vs) (type_if x) (frames_by o fs) p.head p.asked k.entered (omega (arith, entered_count k)))))

pub last_value_refused : {e e' : Environment} {o : Applied} {vs : List RVal} {x : Option Ty} {fs : List Found} {w : Option PlainType} (r : RVal) (y : InferError) → IsRightForm e o vs x → AreAllEntered e o vs x fs → e' ≡ e → w ≡ wanted_right o x fs → r ≡ get_or vs (length vs - 1) r → IsRefusedFor e' (val_of r) w y → IsRefusedFor e (right_form o vs) (type_if x) y
last_value_refused {e = e} {e' = e'} {o = o} {vs = vs} {x = x} {fs = fs} {w = w} r y p k q wanted is h =
    last_refused e e' o.span o.name (operator_of o) (vals_of vs) (type_if x) (frames_by o fs) (length (frames_by o fs)) w (val_of r) y p.head k.entered refl (entered_count k) wanted q
    (subst (λ v. IsRefusedFor e' v w y) (sym (last_value r k is)) h)

pub last_value_for : {e e' : Environment} {o : Applied} {vs : List RVal} {x : Option Ty} {fs : List Found} {w : Option PlainType} (g : Option PlainType) (r : RVal) → AreAllEntered e o vs x fs → e' ≡ e → w ≡ wanted_right o x fs → r ≡ get_or vs (length vs - 1) r → IsFor e' (val_of r) w g → IsFor e (right_inside o vs fs) (wanted_right o x fs) g
last_value_for {e = e} {e' = e'} {o = o} {vs = vs} {x = x} {fs = fs} {w = w} g r k q wanted is h =
    last_for e e' o.span o.name (operator_of o) (vals_of vs) (type_if x) (frames_by o fs) (length (frames_by o fs)) w g (val_of r) refl (entered_count k) wanted q
    (subst (λ v. IsFor e' v w g) (sym (last_value r k is)) h)

-- FROM THE LEFT

begun_count : {e : Environment} {o : Applied} {vs : List RVal} {x : Option Ty} {fs : List Found} → AreAllBegun e o vs x fs → suc (length (frames_by o fs)) ≡ length (vals_of vs)
begun_count {o = o} {vs = vs} {fs = fs} k = omega (arith, k.count, length_frames o fs, length_vals vs)

pub all_begun_found : {e : Environment} {o : Applied} {vs : List RVal} {x : Option Ty} {fs ds : List Found} → IsLeftForm e o vs x → AreAllBegun e o vs x fs → ds ≡ fs → AreFoundFor e (operator_of o).binders (frames_by o ds)
all_begun_found {e = e} {o = o} {vs = vs} {x = x} {fs = fs} p k is =
    subst (λ z. AreFoundFor e (operator_of o).binders (frames_by o z)) (sym is)
    (begun_found e o.span o.name (operator_of o) (vals_of vs) (type_if x) (frames_by o fs) 1 (true_val o.span) p.head p.asked k.begun (omega arith) (omega (arith, begun_count k)))

pub all_begun_room : {e : Environment} {o : Applied} {vs : List RVal} {x : Option Ty} {fs ds : List Found} {u : PlainType} → AreAllBegun e o vs x fs → ds ≡ fs → u ≡ (operator_of o).first → HaveRoom e o.span u (frames_by o ds)
all_begun_room {e = e} {o = o} {x = x} {fs = fs} {u = u} k is first =
    subst (λ z. HaveRoom e o.span u (frames_by o z)) (sym is)
    (subst (λ t. HaveRoom e o.span t (frames_by o fs)) (sym first) (begun_room e o.span (operator_of o) (type_if x) (frames_by o fs) k.begun))

-- the first value
first_value : {e : Environment} {o : Applied} {vs : List RVal} {x : Option Ty} {fs : List Found} (r : RVal) → AreAllBegun e o vs x fs → r ≡ get_or vs 0 r → get_or (vals_of vs) 0 (val_of r) ≡ val_of r
first_value {vs = vs} r k is = val_at vs 0 r (val_of r) (omega (arith, k.count)) ∙ ap val_of (sym is)

pub first_asked : {e : Environment} {o : Applied} {vs : List RVal} {x : Option Ty} {fs : List Found} {w : Option PlainType} (r : RVal) → IsLeftForm e o vs x → AreAllBegun e o vs x fs → w ≡ wanted_left o x fs → r ≡ get_or vs 0 r → IsAskedFor e (val_of r) w
first_asked {e = e} {o = o} {vs = vs} {x = x} {fs = fs} r p k wanted is =
    subst (IsAskedFor e (val_of r)) (sym wanted)
    (subst (λ v. IsAskedFor e v (wanted_left o x fs)) (outward.left_first o.span o.name (vals_of vs) (val_of r) (omega (arith, begun_count k)) ∙ first_value r k is)
    (within_asked e o.span o.name (operator_of o) (vals_of vs) (type_if x) (frames_by o fs) 1 (val_of r) p.head p.asked k.begun (omega arith) (omega (arith, begun_count k))))

pub first_refused : {e : Environment} {o : Applied} {vs : List RVal} {x : Option Ty} {fs : List Found} {w : Option PlainType} (r : RVal) (y : InferError) → IsLeftForm e o vs x → AreAllBegun e o vs x fs → w ≡ wanted_left o x fs → r ≡ get_or vs 0 r → IsRefusedFor e (val_of r) w y → IsRefusedFor e (left_form o vs) (type_if x) y
first_refused {e = e} {o = o} {vs = vs} {x = x} {fs = fs} {w = w} r y p k wanted is h =
    first_value_refused e e o.span o.name (operator_of o) (vals_of vs) (type_if x) (frames_by o fs) w (val_of r) y p.head k.begun (begun_count k) wanted refl
    (subst (λ v. IsRefusedFor e v w y) (sym (first_value r k is)) h)

pub first_for : {e : Environment} {o : Applied} {vs : List RVal} {x : Option Ty} {fs : List Found} {w : Option PlainType} (g : Option PlainType) (r : RVal) → AreAllBegun e o vs x fs → w ≡ wanted_left o x fs → r ≡ get_or vs 0 r → IsFor e (val_of r) w g → IsFor e (left_first o vs) (wanted_left o x fs) g
first_for {e = e} {o = o} {vs = vs} {x = x} {fs = fs} {w = w} g r k wanted is h =
    first_value_for e e o.span o.name (operator_of o) (vals_of vs) (type_if x) (frames_by o fs) w g (val_of r) (begun_count k) wanted refl
    (subst (λ v. IsFor e v w g) (sym (first_value r k is)) h)
