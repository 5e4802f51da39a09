-- Into the applications of a form from the right.
use Rattle.std.proofs.Common.{◌≡◌, ℕ, suc, ◌+◌, ◌<◌, sym, ◌∙◌, ap, subst, List, [], ◌∷◌, ◌++◌, length, get_or, drop, Option, None, arith, length-append}
use Rattle.pict_syntax.specs.declared.tree.Val.{Val as RVal}
use Rattle.pict_syntax.specs.PlainTrees.{val_of}
use Rattle.pict_types.specs.declared.types.Bound.{Bound}
use Rattle.pict_types.specs.declared.types.Ty.{Ty}
use Rattle.pict_types.specs.Types.{PlainType}
use Rattle.pict_match.specs.declared.found.Found.{Found}
use Rattle.pict_rules.specs.Environments.{Environment}
use Rattle.pict_rules.specs.Regular.{IsExpected}
use Rattle.pict_rules.specs.Rules.{found_, value_fits, ok}
use Rattle.pict_rules.specs.Derivations.{Runs}
use Rattle.pict_rules.specs.Typing.{rule}
use Rattle.pict_infer.specs.declared.error.InferError.{InferError}
use Rattle.pict_infer.specs.Answering.{IsRefused, IsStopped}
use Rattle.pict_infer.specs.Asking.{IsWellAsked}
use Rattle.pict_lines.specs.declared.operators.Applied.{Applied}
use Rattle.pict_lines.specs.Chains.{AreEntered, before_fields, nested, room_stop, wanted_at, wanted_inside}
use Rattle.pict_lines.specs.Judging.{IsRefusedFor}
use Rattle.pict_lines.specs.Nesting.{AreEnteredSoFar, IsRightForm, right_form, wanted_right}
use Rattle.pict_lines.specs.Operators.{IsFoundFor, found_by, frames_by, operator_of, type_if, vals_of}
use Rattle.pict_lines.specs.Reading.{found_for}
use Rattle.pict_lines.proofs.Frames.{frames_more, length_frames, length_vals, val_at, FieldFinds}
use Rattle.pict_lines.proofs.NestedAsked.{inside_asked}
use Rattle.pict_check.proofs.Inward.{level_asked, step_asked, IsStep, first_refused, room_refused, step_entered, step_inside}
use Rattle.pict_lines.proofs.NestedFormed.{after_found, before_found, expected_for}

-- so many applications are entered, and this is wanted inside
pub record IsEntering (e : Environment) (o : Applied) (vs : List RVal) (x : Option Ty) (fs : List Found) (w : Option Ty) (i : ℕ) : Type 0 where
  pub form : IsRightForm e o vs x
  pub entered : AreEnteredSoFar e o vs x fs
  pub count : length fs ≡ i
  pub inside : type_if w ≡ wanted_right o x fs

-- none yet
pub entering_first : {e : Environment} {o : Applied} {vs : List RVal} {x w : Option Ty} {fs : List Found} → IsRightForm e o vs x → fs ≡ [] → type_if w ≡ type_if x → IsEntering e o vs x fs w 0
entering_first {e = e} {o = o} {vs = vs} {x = x} p none h = record {
  form = p;
  entered = subst (λ z. AreEntered e o.span (operator_of o) (vals_of vs) (type_if x) (frames_by o z)) (sym none) tt;
  count = ap length none;
  inside = h ∙ ap (wanted_right o x) (sym none);
}

pub entering_wanted : {e e' : Environment} {o : Applied} {vs : List RVal} {x : Option Ty} {fs : List Found} {w : Option Ty} {i : ℕ} → IsEntering e o vs x fs w i → i < length vs → e' ≡ e → IsExpected e' (type_if w)
entering_wanted {e = e} {o = o} {vs = vs} {x = x} {fs = fs} {w = w} p n q =
    let few : length (frames_by o fs) < length (vals_of vs) = omega (arith, length_frames o fs, length_vals vs, p.count, n) in
    subst (λ k. IsExpected k (type_if w)) (sym q)
    (subst (IsExpected e) (sym p.inside)
    (expected_for e (nested o.span o.name (drop (length (frames_by o fs)) (vals_of vs))) (wanted_right o x fs)
    (inside_asked e o.span o.name (operator_of o) (vals_of vs) (type_if x) (frames_by o fs) p.form.head p.form.asked p.entered few)))

-- one application more: what is found before its fields, its value, and its first field
pub record EntersNext (e e' : Environment) (o : Applied) (vs : List RVal) (x : Option Ty) (fs : List Found) (w : Option Ty) (i : ℕ) (b : Found) (r : RVal) (bs : List Bound) (u : PlainType) : Type 0 where
  pub so_far : IsEntering e o vs x fs w i
  pub more : suc i < length vs
  pub before : found_by o b ≡ before_fields e' (operator_of o) (type_if w)
  pub value : r ≡ get_or vs i r
  pub bounds : bs ≡ o.function.fields.binders.items
  pub first : u ≡ (operator_of o).first
  pub same : e' ≡ e

pub enters_next : {e e' : Environment} {o : Applied} {vs : List RVal} {x : Option Ty} {fs : List Found} {w : Option Ty} {i : ℕ} {bs : List Bound} {u : PlainType} (b : Found) (r : RVal) → IsEntering e o vs x fs w i → suc i < length vs → found_by o b ≡ before_fields e' (operator_of o) (type_if w) → r ≡ get_or vs i r → bs ≡ o.function.fields.binders.items → u ≡ (operator_of o).first → e' ≡ e → EntersNext e e' o vs x fs w i b r bs u
enters_next b r p m f v h t q = record { so_far = p; more = m; before = f; value = v; bounds = h; first = t; same = q }

step_of : {e e' : Environment} {o : Applied} {vs : List RVal} {x : Option Ty} {fs : List Found} {w : Option Ty} {i : ℕ} {b : Found} {r : RVal} {bs : List Bound} {u : PlainType} → EntersNext e e' o vs x fs w i b r bs u → IsStep e e' o.span o.name (operator_of o) (vals_of vs) (type_if x) (frames_by o fs) i (found_by o b) (type_if w)
step_of {o = o} {vs = vs} {fs = fs} p = record {
  head = p.so_far.form.head;
  entered = p.so_far.entered;
  count = length_frames o fs ∙ p.so_far.count;
  more = omega (arith, p.more, length_vals vs);
  before = p.before;
  inside = p.so_far.inside;
  same = p.same;
}

value_is : {e e' : Environment} {o : Applied} {vs : List RVal} {x : Option Ty} {fs : List Found} {w : Option Ty} {i : ℕ} {b : Found} {r : RVal} {bs : List Bound} {u : PlainType} → EntersNext e e' o vs x fs w i b r bs u → get_or (vals_of vs) i (val_of r) ≡ val_of r
value_is {vs = vs} {i = i} {r = r} p = val_at vs i r (val_of r) (omega (arith, p.more)) ∙ ap val_of (sym p.value)

pub next_asked : {e e' : Environment} {o : Applied} {vs : List RVal} {x : Option Ty} {fs : List Found} {w : Option Ty} {i : ℕ} {b : Found} {r : RVal} {bs : List Bound} {u : PlainType} → EntersNext e e' o vs x fs w i b r bs u → IsWellAsked found_ e' (value_fits o.span (val_of r) u (found_for bs b))
next_asked {e = e} {e' = e'} {o = o} {vs = vs} {x = x} {fs = fs} {w = w} {i = i} {b = b} {r = r} {bs = bs} {u = u} p =
    subst (λ z. IsWellAsked found_ e' (value_fits o.span (val_of r) u (found_for z b))) (sym p.bounds)
    (subst (λ t. IsWellAsked found_ e' (value_fits o.span (val_of r) t (found_by o b))) (sym p.first)
    (subst (λ v. IsWellAsked found_ e' (value_fits o.span v (operator_of o).first (found_by o b))) (value_is p)
    (step_asked e e' o.span o.name (operator_of o) (vals_of vs) (type_if x) (frames_by o fs) i (found_by o b) (type_if w) (val_of r) (step_of p) p.so_far.form.asked)))

pub next_refused : {e e' : Environment} {o : Applied} {vs : List RVal} {x : Option Ty} {fs : List Found} {w : Option Ty} {i : ℕ} {b : Found} {r : RVal} {bs : List Bound} {u : PlainType} (y : InferError) → EntersNext e e' o vs x fs w i b r bs u → IsRefused (rule e' (value_fits o.span (val_of r) u (found_for bs b))) y → IsRefusedFor e (right_form o vs) (type_if x) y
next_refused {e = e} {e' = e'} {o = o} {vs = vs} {x = x} {fs = fs} {w = w} {i = i} {b = b} {r = r} {bs = bs} {u = u} y p h =
    first_refused e e' o.span o.name (operator_of o) (vals_of vs) (type_if x) (frames_by o fs) i (found_by o b) (type_if w) (val_of r) y (step_of p)
    (subst (λ v. IsRefused (rule e' (value_fits o.span v (operator_of o).first (found_by o b))) y) (sym (value_is p))
    (subst (λ t. IsRefused (rule e' (value_fits o.span (val_of r) t (found_by o b))) y) p.first
    (subst (λ z. IsRefused (rule e' (value_fits o.span (val_of r) u (found_for z b))) y) p.bounds h)))

ran : {e e' : Environment} {o : Applied} {vs : List RVal} {x : Option Ty} {fs : List Found} {w : Option Ty} {i : ℕ} {b : Found} {r : RVal} {bs : List Bound} {u : PlainType} (g : Found) → EntersNext e e' o vs x fs w i b r bs u → FieldFinds e' o b r bs u g → Runs (rule e' (value_fits o.span (get_or (vals_of vs) i (val_of r)) (operator_of o).first (found_by o b))) (ok (found_by o g))
ran {e' = e'} {o = o} {b = b} {r = r} {u = u} g p h =
    subst (λ v. Runs (rule e' (value_fits o.span v (operator_of o).first (found_by o b))) (ok (found_by o g))) (sym (value_is p))
    (subst (λ t. Runs (rule e' (value_fits o.span (val_of r) t (found_by o b))) (ok (found_by o g))) p.first
    (subst (λ z. Runs (rule e' (value_fits o.span (val_of r) u (found_for z b))) (ok (found_for z g))) p.bounds h))

pub next_found : {e e' e2 : Environment} {o : Applied} {vs : List RVal} {x : Option Ty} {fs : List Found} {w : Option Ty} {i : ℕ} {b : Found} {r : RVal} {bs : List Bound} {u : PlainType} (g : Found) → EntersNext e e' o vs x fs w i b r bs u → FieldFinds e' o b r bs u g → e2 ≡ e' → IsFoundFor e2 (operator_of o).binders (found_by o g)
next_found {e = e} {e' = e'} {o = o} {vs = vs} {x = x} {fs = fs} {w = w} {i = i} {b = b} {r = r} g p h q =
    let s = step_of p in
    let few : suc (length (frames_by o fs)) < length (vals_of vs) = omega (arith, s.count, s.more) in
    let first : found_by o b ≡ before_fields e (operator_of o) (wanted_right o x fs) =
    s.before ∙ (ap (λ k. before_fields k (operator_of o) (type_if w)) s.same ∙ ap (before_fields e (operator_of o)) s.inside) in
    let known = before_found e o.span (get_or (vals_of vs) (length (frames_by o fs)) (val_of r)) (nested o.span o.name (drop (suc (length (frames_by o fs))) (vals_of vs))) (operator_of o) (before_fields e (operator_of o) (wanted_right o x fs)) (level_asked e o.span o.name (operator_of o) (vals_of vs) (type_if x) (frames_by o fs) (val_of r) p.so_far.form.head p.so_far.form.asked p.so_far.entered few) in
    subst (λ k. IsFoundFor k (operator_of o).binders (found_by o g)) (sym q)
    (after_found e' o.span (get_or (vals_of vs) i (val_of r)) (operator_of o).binders (operator_of o).first (found_by o b) (found_by o g)
    (subst (λ k. IsFoundFor k (operator_of o).binders (found_by o b)) (sym p.same) (subst (IsFoundFor e (operator_of o).binders) (sym first) known))
    (step_asked e e' o.span o.name (operator_of o) (vals_of vs) (type_if x) (frames_by o fs) i (found_by o b) (type_if w) (val_of r) s p.so_far.form.asked) (ran g p h))

-- what is wanted of the second one passes a limit, or not
pub next_stopped : {e e' e2 : Environment} {o : Applied} {vs : List RVal} {x : Option Ty} {fs : List Found} {w : Option Ty} {i : ℕ} {b : Found} {r : RVal} {bs : List Bound} {u t : PlainType} (g : Found) (y : InferError) → EntersNext e e' o vs x fs w i b r bs u → FieldFinds e' o b r bs u g → e2 ≡ e' → t ≡ (operator_of o).second → IsStopped (room_stop e2 o.span (wanted_at t (found_by o g))) y → IsRefusedFor e (right_form o vs) (type_if x) y
next_stopped {e = e} {e' = e'} {e2 = e2} {o = o} {vs = vs} {x = x} {fs = fs} {w = w} {i = i} {b = b} {r = r} g y p h q is z =
    room_refused e e' e2 o.span o.name (operator_of o) (vals_of vs) (type_if x) (frames_by o fs) i (found_by o b) (type_if w) (val_of r) (found_by o g) y (step_of p) q (ran g p h)
    (subst (λ t. IsStopped (room_stop e2 o.span (wanted_at t (found_by o g))) y) is z)

pub next_entered : {e e' e2 : Environment} {o : Applied} {vs : List RVal} {x : Option Ty} {fs gs : List Found} {w v : Option Ty} {i : ℕ} {b : Found} {r : RVal} {bs : List Bound} {u t : PlainType} (g : Found) → EntersNext e e' o vs x fs w i b r bs u → FieldFinds e' o b r bs u g → e2 ≡ e' → t ≡ (operator_of o).second → room_stop e2 o.span (wanted_at t (found_by o g)) ≡ None → type_if v ≡ wanted_at t (found_by o g) → gs ≡ fs ++ g ∷ [] → IsEntering e o vs x gs v (i + 1)
next_entered {e = e} {e' = e'} {e2 = e2} {o = o} {vs = vs} {x = x} {fs = fs} {gs = gs} {w = w} {i = i} {b = b} {r = r} g p h q is room wanted items =
    let more = frames_more o fs gs g items in
    record {
      form = p.so_far.form;
      entered = subst (AreEntered e o.span (operator_of o) (vals_of vs) (type_if x)) (sym more)
          (step_entered e e' e2 o.span o.name (operator_of o) (vals_of vs) (type_if x) (frames_by o fs) i (found_by o b) (type_if w) (val_of r) (found_by o g) (step_of p) q (ran g p h)
          (subst (λ t. room_stop e2 o.span (wanted_at t (found_by o g)) ≡ None) is room));
      count = omega (arith, p.so_far.count, ap length items, length-append fs (g ∷ []));
      inside = step_inside (operator_of o) (type_if x) (frames_by o fs) (found_by o g) _ (wanted ∙ ap (λ t. wanted_at t (found_by o g)) is) ∙ ap (wanted_inside (operator_of o) (type_if x)) (sym more);
    }
