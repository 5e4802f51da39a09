-- Out of the applications of a form from the left.
use Rattle.std.proofs.Common.{◌≡◌, ℕ, suc, ◌-◌, ◌<◌, sym, ◌∙◌, ap, subst, List, [], ◌∷◌, ◌++◌, length, get_or, Option, Some, arith, length-append}
use Rattle.pict_syntax.specs.declared.span.Span.{Span}
use Rattle.pict_syntax.specs.declared.tree.Val.{Val as RVal}
use Rattle.pict_syntax.specs.Grammar.{val_span}
use Rattle.pict_syntax.specs.PlainTrees.{val_of}
use Rattle.pict_syntax.specs.Trees.{Val, true_val}
use Rattle.pict_types.specs.declared.types.Arg.{Arg}
use Rattle.pict_types.specs.declared.types.Bound.{Bound}
use Rattle.pict_types.specs.declared.types.Ty.{Ty}
use Rattle.pict_types.specs.Plain.{plain_args}
use Rattle.pict_types.specs.Types.{PlainType}
use Rattle.pict_match.specs.declared.found.Found.{Found}
use Rattle.pict_rules.specs.Environments.{Environment}
use Rattle.pict_rules.specs.Regular.{IsExpected}
use Rattle.pict_rules.specs.Rules.{found_, value_fits, ok}
use Rattle.pict_rules.specs.Derivations.{Runs}
use Rattle.pict_rules.specs.Typing.{rule}
use Rattle.pict_infer.specs.declared.error.InferError.{InferError}
use Rattle.pict_infer.specs.Answering.{IsRefused}
use Rattle.pict_infer.specs.Asking.{IsWellAsked}
use Rattle.pict_lines.specs.declared.operators.Applied.{Applied}
use Rattle.pict_lines.specs.Chains.{field_lines, wanted_in}
use Rattle.pict_lines.specs.Judging.{IsFor, IsRefusedFor}
use Rattle.pict_lines.specs.Lines.{application_end, fields_end}
use Rattle.pict_lines.specs.Nesting.{AreBegunSoFar, AreAllBegun, IsLeftForm, left_first, left_form, wanted_left}
use Rattle.pict_lines.specs.Operators.{AreFoundFor, HaveRoom, IsFoundFor, found_by, frames_by, operator_of, type_if, vals_of}
use Rattle.pict_lines.specs.Reading.{found_for}
use Rattle.pict_lines.proofs.Frames.{frames_more, length_frames, length_vals, val_at, FieldFinds}
use Rattle.pict_check.proofs.Outward.{IsHalf, IsTurn, half, half_answer, half_done, half_end, half_second, half_span, turn_first_refused, half_asked, turn_found, turn_room, turn_wanted}
use Rattle.pict_lines.proofs.Lefts.{Taken, left_all}
use Rattle.pict_check.proofs.Outward as outward
use Rattle.pict_lines.proofs.NestedFormed.{after_found}

-- what stands within the applications that are begun still has its judgement
abbrev within : Applied → List RVal → List Found → Val
within o vs fs = Taken o.span o.name (length vs - length fs) (vals_of vs)

pub record IsFinishing (e : Environment) (o : Applied) (vs : List RVal) (x : Option Ty) (fs : List Found) (at : Span) (given : Option Ty) : Type 0 where
  pub form : IsLeftForm e o vs x
  pub begun : AreBegunSoFar e o x fs
  pub few : length fs < length vs
  pub place : val_span (within o vs fs) ≡ at
  pub inner : IsFor e (within o vs fs) (wanted_left o x fs) (type_if given)
  pub formed : IsExpected e (type_if given)

-- all of them
pub finishing_first : {e : Environment} {o : Applied} {vs : List RVal} {x : Option Ty} {fs : List Found} {at : Span} {given : Option Ty} (r : RVal) → IsLeftForm e o vs x → AreAllBegun e o vs x fs → IsFor e (left_first o vs) (wanted_left o x fs) (type_if given) → IsExpected e (type_if given) → r ≡ get_or vs 0 r → at ≡ val_span (val_of r) → IsFinishing e o vs x fs at given
finishing_first {e = e} {o = o} {vs = vs} {x = x} {fs = fs} {at = at} {given = given} r p h k f is place =
    let one : 1 ≡ length vs - length fs = omega (arith, h.count) in
    let some : 0 < length vs = omega (arith, h.count) in
    let first : val_span (left_first o vs) ≡ at =
    ap val_span (outward.left_first o.span o.name (vals_of vs) (val_of r) (omega (arith, length_vals vs, some)) ∙ (val_at vs 0 r (val_of r) some ∙ ap val_of (sym is))) ∙ sym place in
    record {
      form = p;
      begun = h.begun;
      few = omega (arith, h.count);
      place = subst (λ k. val_span (Taken o.span o.name k (vals_of vs)) ≡ at) one first;
      inner = subst (λ k. IsFor e (Taken o.span o.name k (vals_of vs)) (wanted_left o x fs) (type_if given)) one k;
      formed = f;
    }

-- none is left
pub finished : {e : Environment} {o : Applied} {vs : List RVal} {x : Option Ty} {fs : List Found} {at : Span} {given : Option Ty} → IsFinishing e o vs x fs at given → fs ≡ [] → IsFor e (left_form o vs) (type_if x) (type_if given)
finished {e = e} {o = o} {vs = vs} {x = x} {given = given} p none =
    let h = subst (λ z. IsFor e (within o vs z) (wanted_left o x z) (type_if given)) none p.inner in
    let all : length vs - 0 ≡ length (vals_of vs) = omega (arith, length_vals vs) in
    subst (λ v. IsFor e v (type_if x) (type_if given)) (ap (λ k. Taken o.span o.name k (vals_of vs)) all ∙ left_all o.span o.name (vals_of vs)) h

pub finishing_given : {e e' : Environment} {o : Applied} {vs : List RVal} {x : Option Ty} {fs : List Found} {at : Span} {given : Option Ty} → IsFinishing e o vs x fs at given → e' ≡ e → IsExpected e' (type_if given)
finishing_given {given = given} p q = subst (λ k. IsExpected k (type_if given)) (sym q) p.formed

-- THE APPLICATION THAT IS ENDED NEXT

pub record EndsNext (e e' : Environment) (o : Applied) (vs : List RVal) (x : Option Ty) (all fs : List Found) (g : Found) (at : Span) (given : Option Ty) : Type 0 where
  pub so_far : IsFinishing e o vs x all at given
  pub items : all ≡ fs ++ g ∷ []
  pub same : e' ≡ e

pub ends_next : {e e' : Environment} {o : Applied} {vs : List RVal} {x : Option Ty} {all : List Found} {at : Span} {given : Option Ty} (fs : List Found) (g : Found) → IsFinishing e o vs x all at given → all ≡ fs ++ g ∷ [] → e' ≡ e → EndsNext e e' o vs x all fs g at given
ends_next fs g p h q = record { so_far = p; items = h; same = q }

counted : {e e' : Environment} {o : Applied} {vs : List RVal} {x : Option Ty} {all fs : List Found} {g : Found} {at : Span} {given : Option Ty} → EndsNext e e' o vs x all fs g at given → suc (length fs) ≡ length all
counted {fs = fs} {g = g} p = omega (arith, ap length p.items, length-append fs (g ∷ []))

turn_of : {e e' : Environment} {o : Applied} {vs : List RVal} {x : Option Ty} {all fs : List Found} {g : Found} {at : Span} {given : Option Ty} → EndsNext e e' o vs x all fs g at given → IsTurn e e' o.span o.name (operator_of o) (vals_of vs) (type_if x) (frames_by o all) (frames_by o fs) (found_by o g) (length vs - length all) at (type_if given)
turn_of {o = o} {vs = vs} {all = all} {fs = fs} {g = g} p = record {
  head = p.so_far.form.head;
  items = frames_more o fs all g p.items;
  begun = p.so_far.begun;
  some = omega (arith, p.so_far.few);
  count = omega (arith, p.so_far.few, length_frames o all, length_vals vs);
  place = p.so_far.place;
  inner = p.so_far.inner;
  same = p.same;
}

pub next_found : {e e' : Environment} {o : Applied} {vs : List RVal} {x : Option Ty} {all fs : List Found} {g : Found} {at : Span} {given : Option Ty} → EndsNext e e' o vs x all fs g at given → IsFoundFor e' (operator_of o).binders (found_by o g)
next_found {o = o} {g = g} p = subst (λ k. IsFoundFor k (operator_of o).binders (found_by o g)) (sym p.same) (turn_found (true_val o.span) (turn_of p) p.so_far.form.asked).1

pub next_refused : {e e' : Environment} {o : Applied} {vs : List RVal} {x : Option Ty} {all fs : List Found} {g : Found} {at : Span} {given : Option Ty} {u : PlainType} (y : InferError) → EndsNext e e' o vs x all fs g at given → u ≡ (operator_of o).first → ((v : Val) → val_span v ≡ at → IsRefused (field_lines e' o.span v u (found_by o g) (type_if given)) y) → IsRefusedFor e (left_form o vs) (type_if x) y
next_refused {e' = e'} {o = o} {g = g} {given = given} y p is h =
    turn_first_refused (true_val o.span) y (turn_of p) (λ v k. subst (λ t. IsRefused (field_lines e' o.span v t (found_by o g) (type_if given)) y) is (h v k))

-- what is wanted around it
pub around_found : {e e' e2 : Environment} {o : Applied} {vs : List RVal} {x : Option Ty} {all fs ds : List Found} {g : Found} {at : Span} {given : Option Ty} → EndsNext e e' o vs x all fs g at given → e2 ≡ e' → ds ≡ fs → AreFoundFor e2 (operator_of o).binders (frames_by o ds)
around_found {e = e} {o = o} {ds = ds} p q is =
    subst (λ k. AreFoundFor k (operator_of o).binders (frames_by o ds)) (sym (q ∙ p.same))
    (subst (λ z. AreFoundFor e (operator_of o).binders (frames_by o z)) (sym is) (turn_found (true_val o.span) (turn_of p) p.so_far.form.asked).0)

pub around_room : {e e' e2 : Environment} {o : Applied} {vs : List RVal} {x : Option Ty} {all fs ds : List Found} {g : Found} {at : Span} {given : Option Ty} {u : PlainType} → EndsNext e e' o vs x all fs g at given → e2 ≡ e' → ds ≡ fs → u ≡ (operator_of o).first → HaveRoom e2 o.span u (frames_by o ds)
around_room {e = e} {o = o} {fs = fs} {ds = ds} {u = u} p q is first =
    subst (λ k. HaveRoom k o.span u (frames_by o ds)) (sym (q ∙ p.same))
    (subst (λ z. HaveRoom e o.span u (frames_by o z)) (sym is)
    (subst (λ t. HaveRoom e o.span t (frames_by o fs)) (sym first) (turn_room (turn_of p))))

pub around_is : {fs ds : List Found} {u : PlainType} {w : Option PlainType} (o : Applied) (x : Option Ty) → w ≡ wanted_in u (type_if x) (frames_by o ds) → u ≡ (operator_of o).first → ds ≡ fs → w ≡ wanted_left o x fs
around_is {ds = ds} o x h first is = h ∙ (ap (λ t. wanted_in t (type_if x) (frames_by o ds)) first ∙ ap (λ z. wanted_in (operator_of o).first (type_if x) (frames_by o z)) is)

pub around_wanted : {e e' e2 : Environment} {o : Applied} {vs : List RVal} {x : Option Ty} {all fs : List Found} {g : Found} {at : Span} {given : Option Ty} {w : Option PlainType} → EndsNext e e' o vs x all fs g at given → e2 ≡ e' → w ≡ wanted_left o x fs → IsExpected e2 w
around_wanted {e = e} {o = o} {w = w} p q is =
    subst (λ k. IsExpected k w) (sym (q ∙ p.same)) (subst (IsExpected e) (sym is) (turn_wanted (true_val o.span) (turn_of p) p.so_far.form.asked))

-- ONCE ITS FIRST FIELD IS DONE

pub record IsMidway (e e' : Environment) (o : Applied) (vs : List RVal) (x : Option Ty) (fs : List Found) (n : ℕ) (g : Found) (r : RVal) (bs : List Bound) (u : PlainType) : Type 0 where
  pub form : IsLeftForm e o vs x
  pub here : IsHalf e e' o.span o.name (operator_of o) (vals_of vs) (type_if x) (frames_by o fs) n (found_by o g)
  pub found : IsFoundFor e' (operator_of o).binders (found_by o g)
  pub value : get_or (vals_of vs) n (val_of r) ≡ val_of r
  pub bounds : bs ≡ o.function.fields.binders.items
  pub second : u ≡ (operator_of o).second
  pub next : suc n ≡ length vs - length fs

pub midway : {e e' : Environment} {o : Applied} {vs : List RVal} {x : Option Ty} {all fs : List Found} {g : Found} {at : Span} {given : Option Ty} {t u : PlainType} {bs : List Bound} (h : Found) (r : RVal) (k : ℕ) → EndsNext e e' o vs x all fs g at given → t ≡ (operator_of o).first → ((v : Val) → val_span v ≡ at → Runs (field_lines e' o.span v t (found_by o g) (type_if given)) (ok (found_by o h))) → IsFoundFor e' (operator_of o).binders (found_by o h) → r ≡ get_or vs k r → k ≡ length vs - 1 - length fs → bs ≡ o.function.fields.binders.items → u ≡ (operator_of o).second → IsMidway e e' o vs x fs (length vs - length all) h r bs u
midway {e' = e'} {o = o} {vs = vs} {all = all} {fs = fs} {g = g} {given = given} h r k p first lines found is at bounds second =
    let one = counted p in
    let here : length vs - length all ≡ k = omega (arith, at, one, p.so_far.few) in
    record {
      form = p.so_far.form;
      here = half (found_by o h) (turn_of p) (λ v q. subst (λ t. Runs (field_lines e' o.span v t (found_by o g) (type_if given)) (ok (found_by o h))) first (lines v q));
      found = found;
      value = val_at vs (length vs - length all) r (val_of r) (omega (arith, one, p.so_far.few)) ∙ ap val_of (ap (λ m. get_or vs m r) here ∙ sym is);
      bounds = bounds;
      second = second;
      next = omega (arith, one, p.so_far.few);
    }

midway_fits : {e e' : Environment} {o : Applied} {vs : List RVal} {x : Option Ty} {fs : List Found} {n : ℕ} {g : Found} {r : RVal} {bs : List Bound} {u : PlainType} → IsMidway e e' o vs x fs n g r bs u → IsWellAsked found_ e' (value_fits o.span (get_or (vals_of vs) n (val_of r)) (operator_of o).second (found_by o g))
midway_fits {r = r} p = half_asked (val_of r) p.here p.form.asked

pub midway_asked : {e e' : Environment} {o : Applied} {vs : List RVal} {x : Option Ty} {fs : List Found} {n : ℕ} {g : Found} {r : RVal} {bs : List Bound} {u : PlainType} → IsMidway e e' o vs x fs n g r bs u → IsWellAsked found_ e' (value_fits o.span (val_of r) u (found_for bs g))
midway_asked {e' = e'} {o = o} {g = g} {r = r} {u = u} p =
    subst (λ z. IsWellAsked found_ e' (value_fits o.span (val_of r) u (found_for z g))) (sym p.bounds)
    (subst (λ t. IsWellAsked found_ e' (value_fits o.span (val_of r) t (found_by o g))) (sym p.second)
    (subst (λ v. IsWellAsked found_ e' (value_fits o.span v (operator_of o).second (found_by o g))) p.value (midway_fits p)))

pub midway_refused : {e e' : Environment} {o : Applied} {vs : List RVal} {x : Option Ty} {fs : List Found} {n : ℕ} {g : Found} {r : RVal} {bs : List Bound} {u : PlainType} (y : InferError) → IsMidway e e' o vs x fs n g r bs u → IsRefused (rule e' (value_fits o.span (val_of r) u (found_for bs g))) y → IsRefusedFor e (left_form o vs) (type_if x) y
midway_refused {e' = e'} {o = o} {g = g} {r = r} {u = u} y p h =
    half_second (val_of r) y p.here
    (subst (λ v. IsRefused (rule e' (value_fits o.span v (operator_of o).second (found_by o g))) y) (sym p.value)
    (subst (λ t. IsRefused (rule e' (value_fits o.span (val_of r) t (found_by o g))) y) p.second
    (subst (λ z. IsRefused (rule e' (value_fits o.span (val_of r) u (found_for z g))) y) p.bounds h)))

ran : {e e' : Environment} {o : Applied} {vs : List RVal} {x : Option Ty} {fs : List Found} {n : ℕ} {g : Found} {r : RVal} {bs : List Bound} {u : PlainType} (h : Found) → IsMidway e e' o vs x fs n g r bs u → FieldFinds e' o g r bs u h → Runs (rule e' (value_fits o.span (get_or (vals_of vs) n (val_of r)) (operator_of o).second (found_by o g))) (ok (found_by o h))
ran {e' = e'} {o = o} {g = g} {r = r} {u = u} h p k =
    subst (λ v. Runs (rule e' (value_fits o.span v (operator_of o).second (found_by o g))) (ok (found_by o h))) (sym p.value)
    (subst (λ t. Runs (rule e' (value_fits o.span (val_of r) t (found_by o g))) (ok (found_by o h))) p.second
    (subst (λ z. Runs (rule e' (value_fits o.span (val_of r) u (found_for z g))) (ok (found_for z h))) p.bounds k))

pub midway_found : {e e' e2 : Environment} {o : Applied} {vs : List RVal} {x : Option Ty} {fs : List Found} {n : ℕ} {g : Found} {r : RVal} {bs : List Bound} {u : PlainType} (h : Found) → IsMidway e e' o vs x fs n g r bs u → FieldFinds e' o g r bs u h → e2 ≡ e' → IsFoundFor e2 (operator_of o).binders (found_by o h)
midway_found {e' = e'} {o = o} {vs = vs} {n = n} {g = g} {r = r} h p k q =
    subst (λ z. IsFoundFor z (operator_of o).binders (found_by o h)) (sym q)
    (after_found e' o.span (get_or (vals_of vs) n (val_of r)) (operator_of o).binders (operator_of o).second (found_by o g) (found_by o h) p.found (midway_fits p) (ran h p k))

pub midway_end : {e e' e2 : Environment} {o : Applied} {vs : List RVal} {x : Option Ty} {fs : List Found} {n : ℕ} {g : Found} {r : RVal} {bs : List Bound} {u : PlainType} (h : Found) (y : InferError) → IsMidway e e' o vs x fs n g r bs u → FieldFinds e' o g r bs u h → e2 ≡ e' → IsRefused (fields_end e2 o.span (operator_of o).binders (found_by o h)) y → IsRefusedFor e (left_form o vs) (type_if x) y
midway_end {o = o} {r = r} h y p k q z = half_end (val_of r) (found_by o h) y p.here q (ran h p k) z

pub midway_answer : {e e' e2 : Environment} {o : Applied} {vs : List RVal} {x : Option Ty} {fs : List Found} {n : ℕ} {g : Found} {r : RVal} {bs : List Bound} {u : PlainType} {args out : List Arg} {w : Option PlainType} (h : Found) (y : InferError) → IsMidway e e' o vs x fs n g r bs u → FieldFinds e' o g r bs u h → e2 ≡ e' → Runs (fields_end e2 o.span (operator_of o).binders (found_by o h)) (ok (plain_args args)) → w ≡ wanted_left o x fs → out ≡ args → IsRefused (application_end e2 o.span (operator_of o).answer (plain_args out) w) y → IsRefusedFor e (left_form o vs) (type_if x) y
midway_answer {e2 = e2} {o = o} {r = r} {args = args} {w = w} h y p k q found wanted is z =
    half_answer (val_of r) (found_by o h) (plain_args args) w y p.here q (ran h p k) found wanted
    (subst (λ l. IsRefused (application_end e2 o.span (operator_of o).answer (plain_args l) w) y) is z)

pub midway_done : {e e' e2 : Environment} {o : Applied} {vs : List RVal} {x : Option Ty} {fs : List Found} {n : ℕ} {g : Found} {r : RVal} {bs : List Bound} {u t : PlainType} {args out : List Arg} {w : Option PlainType} (h : Found) → IsMidway e e' o vs x fs n g r bs u → FieldFinds e' o g r bs u h → e2 ≡ e' → Runs (fields_end e2 o.span (operator_of o).binders (found_by o h)) (ok (plain_args args)) → w ≡ wanted_left o x fs → out ≡ args → Runs (application_end e2 o.span (operator_of o).answer (plain_args out) w) (ok t) → IsFor e (within o vs fs) (wanted_left o x fs) (Some t)
midway_done {e = e} {e2 = e2} {o = o} {vs = vs} {x = x} {fs = fs} {r = r} {t = t} {args = args} {w = w} h p k q found wanted is z =
    subst (λ m. IsFor e (Taken o.span o.name m (vals_of vs)) (wanted_left o x fs) (Some t)) p.next
    (half_done (val_of r) (found_by o h) (plain_args args) w t p.here q (ran h p k) found wanted
    (subst (λ l. Runs (application_end e2 o.span (operator_of o).answer (plain_args l) w) (ok t)) is z))

pub midway_span : {e e' : Environment} {o : Applied} {vs : List RVal} {x : Option Ty} {fs : List Found} {n : ℕ} {g : Found} {r : RVal} {bs : List Bound} {u : PlainType} → IsMidway e e' o vs x fs n g r bs u → val_span (within o vs fs) ≡ o.span
midway_span {o = o} {vs = vs} {r = r} p = subst (λ m. val_span (Taken o.span o.name m (vals_of vs)) ≡ o.span) p.next (half_span (val_of r) p.here)

pub finishing_next : {e e' : Environment} {o : Applied} {vs : List RVal} {x : Option Ty} {fs : List Found} {n : ℕ} {g : Found} {r : RVal} {bs : List Bound} {u : PlainType} {given : Option Ty} → IsMidway e e' o vs x fs n g r bs u → IsFor e (within o vs fs) (wanted_left o x fs) (type_if given) → IsExpected e (type_if given) → IsFinishing e o vs x fs o.span given
finishing_next {o = o} {vs = vs} {fs = fs} p h f = record {
  form = p.form;
  begun = p.here.begun;
  few = omega (arith, p.here.count, length_frames o fs, length_vals vs);
  place = midway_span p;
  inner = h;
  formed = f;
}
