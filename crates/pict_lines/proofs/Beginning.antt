-- Into the applications of a form from the left.
use Rattle.std.proofs.Common.{◌≡◌, suc, ◌+◌, ◌-◌, ◌<◌, ◌≤◌, refl, sym, ◌∙◌, ap, subst, List, [], ◌∷◌, ◌++◌, length, Option, None, arith, length-append}
use Rattle.pict_syntax.specs.declared.tree.Val.{Val as RVal}
use Rattle.pict_syntax.specs.Trees.{true_val}
use Rattle.pict_types.specs.declared.types.Ty.{Ty}
use Rattle.pict_types.specs.Types.{PlainType}
use Rattle.pict_match.specs.declared.found.Found.{Found}
use Rattle.pict_rules.specs.Environments.{Environment}
use Rattle.pict_rules.specs.Regular.{IsExpected}
use Rattle.pict_infer.specs.declared.error.InferError.{InferError}
use Rattle.pict_infer.specs.Answering.{IsStopped}
use Rattle.pict_lines.specs.declared.operators.Applied.{Applied}
use Rattle.pict_lines.specs.Chains.{AreBegun, before_fields, room_stop, wanted_at, wanted_within}
use Rattle.pict_lines.specs.Judging.{IsRefusedFor}
use Rattle.pict_lines.specs.Nesting.{AreBegunSoFar, IsLeftForm, left_form, wanted_left}
use Rattle.pict_lines.specs.Operators.{IsFoundFor, found_by, frames_by, operator_of, type_if, vals_of}
use Rattle.pict_lines.proofs.Frames.{frames_more, length_frames, length_vals}
use Rattle.pict_lines.proofs.Lefts.{IsBeginning, Taken, beginning_inside, beginning_more, beginning_refused}
use Rattle.pict_lines.proofs.NestedAsked.{turn_asked, within_asked}
use Rattle.pict_lines.proofs.NestedFormed.{before_found, expected_for}

-- so many applications are begun, and this is wanted within
pub record AreStarted (e : Environment) (o : Applied) (vs : List RVal) (x : Option Ty) (fs : List Found) (w : Option Ty) : Type 0 where
  pub form : IsLeftForm e o vs x
  pub begun : AreBegunSoFar e o x fs
  pub few : length fs < length vs
  pub within : type_if w ≡ wanted_left o x fs

-- none yet
pub started_first : {e : Environment} {o : Applied} {vs : List RVal} {x w : Option Ty} {fs : List Found} → IsLeftForm e o vs x → fs ≡ [] → 0 < length vs → type_if w ≡ type_if x → AreStarted e o vs x fs w
started_first {e = e} {o = o} {x = x} p none some h = record {
  form = p;
  begun = subst (λ z. AreBegun e o.span (operator_of o) (type_if x) (frames_by o z)) (sym none) tt;
  few = omega (arith, some, ap length none);
  within = h ∙ ap (wanted_left o x) (sym none);
}

pub started_wanted : {e : Environment} {o : Applied} {vs : List RVal} {x : Option Ty} {fs : List Found} {w : Option Ty} → AreStarted e o vs x fs w → IsExpected e (type_if w)
started_wanted {e = e} {o = o} {vs = vs} {x = x} {fs = fs} p =
    let n = length (vals_of vs) - length (frames_by o fs) in
    let some : 1 ≤ n = omega (arith, p.few, length_frames o fs, length_vals vs) in
    let all : n + length (frames_by o fs) ≡ length (vals_of vs) = omega (arith, p.few, length_frames o fs, length_vals vs) in
    subst (IsExpected e) (sym p.within)
    (expected_for e (Taken o.span o.name n (vals_of vs)) (wanted_left o x fs) (within_asked e o.span o.name (operator_of o) (vals_of vs) (type_if x) (frames_by o fs) n (true_val o.span) p.form.head p.form.asked p.begun some all))

-- one application more, and what is found before its fields
pub record StartsNext (e : Environment) (o : Applied) (vs : List RVal) (x : Option Ty) (fs : List Found) (w : Option Ty) (b : Found) : Type 0 where
  pub so_far : AreStarted e o vs x fs w
  pub more : suc (length fs) < length vs
  pub before : found_by o b ≡ before_fields e (operator_of o) (type_if w)

pub starts_next : {e : Environment} {o : Applied} {vs : List RVal} {x : Option Ty} {fs : List Found} {w : Option Ty} (b : Found) → AreStarted e o vs x fs w → suc (length fs) < length vs → found_by o b ≡ before_fields e (operator_of o) (type_if w) → StartsNext e o vs x fs w b
starts_next b p m h = record { so_far = p; more = m; before = h }

beginning_of : {e : Environment} {o : Applied} {vs : List RVal} {x : Option Ty} {fs : List Found} {w : Option Ty} {b : Found} → StartsNext e o vs x fs w b → IsBeginning e e o.span o.name (operator_of o) (vals_of vs) (type_if x) (frames_by o fs) (found_by o b) (type_if w)
beginning_of {o = o} {vs = vs} {fs = fs} p = record {
  head = p.so_far.form.head;
  begun = p.so_far.begun;
  more = omega (arith, p.more, length_frames o fs, length_vals vs);
  before = p.before;
  inside = p.so_far.within;
  same = refl;
}

pub next_found : {e : Environment} {o : Applied} {vs : List RVal} {x : Option Ty} {fs : List Found} {w : Option Ty} {b : Found} → StartsNext e o vs x fs w b → IsFoundFor e (operator_of o).binders (found_by o b)
next_found {e = e} {o = o} {vs = vs} {x = x} {fs = fs} p =
    let n = length (vals_of vs) - 1 - length (frames_by o fs) in
    let some : 1 ≤ n = omega (arith, p.more, length_frames o fs, length_vals vs) in
    let all : suc n + length (frames_by o fs) ≡ length (vals_of vs) = omega (arith, p.more, length_frames o fs, length_vals vs) in
    subst (IsFoundFor e (operator_of o).binders) (sym (p.before ∙ ap (before_fields e (operator_of o)) p.so_far.within))
    (before_found e o.span _ _ (operator_of o) (before_fields e (operator_of o) (wanted_left o x fs))
    (turn_asked e o.span o.name (operator_of o) (vals_of vs) (type_if x) (frames_by o fs) n (true_val o.span) p.so_far.form.head p.so_far.form.asked p.so_far.begun some all))

-- what is wanted of its first field passes a limit, or not
pub next_stopped : {e : Environment} {o : Applied} {vs : List RVal} {x : Option Ty} {fs : List Found} {w : Option Ty} {b : Found} {u : PlainType} (y : InferError) → StartsNext e o vs x fs w b → u ≡ (operator_of o).first → IsStopped (room_stop e o.span (wanted_at u (found_by o b))) y → IsRefusedFor e (left_form o vs) (type_if x) y
next_stopped {e = e} {o = o} {vs = vs} {x = x} {fs = fs} {w = w} {b = b} y p is z =
    let m = length (vals_of vs) - 2 - length (frames_by o fs) in
    let all : suc (suc m) + length (frames_by o fs) ≡ length (vals_of vs) = omega (arith, p.more, length_frames o fs, length_vals vs) in
    beginning_refused e e o.span o.name (operator_of o) (vals_of vs) (type_if x) (frames_by o fs) (found_by o b) (type_if w) (true_val o.span) y m all (beginning_of p)
    (subst (λ t. IsStopped (room_stop e o.span (wanted_at t (found_by o b))) y) is z)

pub started_next : {e : Environment} {o : Applied} {vs : List RVal} {x : Option Ty} {fs gs : List Found} {w v : Option Ty} {b : Found} {u : PlainType} → StartsNext e o vs x fs w b → u ≡ (operator_of o).first → room_stop e o.span (wanted_at u (found_by o b)) ≡ None → type_if v ≡ wanted_at u (found_by o b) → gs ≡ fs ++ b ∷ [] → AreStarted e o vs x gs v
started_next {e = e} {o = o} {vs = vs} {x = x} {fs = fs} {gs = gs} {w = w} {b = b} p is room wanted items =
    let more = frames_more o fs gs b items in
    record {
      form = p.so_far.form;
      begun = subst (AreBegun e o.span (operator_of o) (type_if x)) (sym more)
          (beginning_more e e o.span o.name (operator_of o) (vals_of vs) (type_if x) (frames_by o fs) (found_by o b) (type_if w) (beginning_of p) (subst (λ t. room_stop e o.span (wanted_at t (found_by o b)) ≡ None) is room));
      few = omega (arith, p.more, ap length items, length-append fs (b ∷ []));
      within = beginning_inside (operator_of o) (type_if x) (frames_by o fs) (found_by o b) _ (wanted ∙ ap (λ t. wanted_at t (found_by o b)) is) ∙ ap (wanted_within (operator_of o) (type_if x)) (sym more);
    }
