-- Out of the applications of a form from the right.
use Rattle.std.proofs.Common.{◌≡◌, suc, ◌-◌, ◌<◌, refl, sym, ◌∙◌, ap, subst, List, [], ◌∷◌, ◌++◌, length, get_or, Option, Some, arith}
use Rattle.pict_syntax.specs.declared.span.Span.{Span}
use Rattle.pict_syntax.specs.declared.tree.Val.{Val as RVal}
use Rattle.pict_syntax.specs.Grammar.{val_span}
use Rattle.pict_syntax.specs.PlainTrees.{val_of}
use Rattle.pict_syntax.specs.Trees.{Val}
use Rattle.pict_types.specs.declared.types.Arg.{Arg}
use Rattle.pict_types.specs.declared.types.Ty.{Ty}
use Rattle.pict_types.specs.Plain.{plain, plain_args}
use Rattle.pict_types.specs.Types.{PlainType}
use Rattle.pict_match.specs.declared.found.Found.{Found}
use Rattle.pict_rules.specs.Environments.{Environment}
use Rattle.pict_rules.specs.Regular.{IsExpected}
use Rattle.pict_rules.specs.Rules.{ok}
use Rattle.pict_rules.specs.Derivations.{Runs}
use Rattle.pict_infer.specs.declared.error.InferError.{InferError}
use Rattle.pict_infer.specs.Answering.{IsRefused}
use Rattle.pict_lines.specs.declared.operators.Applied.{Applied}
use Rattle.pict_lines.specs.Chains.{field_lines, wanted_in}
use Rattle.pict_lines.specs.Judging.{IsFor, IsRefusedFor}
use Rattle.pict_lines.specs.Lines.{application_end, fields_end}
use Rattle.pict_lines.specs.Nesting.{AreEnteredSoFar, AreAllEntered, IsRightForm, right_form, right_inside, wanted_right}
use Rattle.pict_lines.specs.Operators.{AreFoundFor, HaveRoom, IsFoundFor, found_by, frames_by, operator_of, type_if, vals_of}
use Rattle.pict_lines.proofs.Frames.{frames_more, length_frames, length_vals, val_at}
use Rattle.pict_lines.proofs.NestedLevels.{level_found, level_room_left, level_wanted}
use Rattle.pict_lines.proofs.Rights.{IsLevel, answer_refused, end_refused, last_at, level_done, level_left, level_less, level_span, second_refused}

-- what stands inside the applications that are entered still has its judgement
pub record IsLeaving (e : Environment) (o : Applied) (vs : List RVal) (x : Option Ty) (fs : List Found) (at : Span) (given : Option Ty) : Type 0 where
  pub form : IsRightForm e o vs x
  pub entered : AreEnteredSoFar e o vs x fs
  pub few : length (frames_by o fs) < length (vals_of vs)
  pub place : val_span (right_inside o vs fs) ≡ at
  pub inner : IsFor e (right_inside o vs fs) (wanted_right o x fs) (type_if given)
  pub formed : IsExpected e (type_if given)

-- all of them
pub leaving_first : {e : Environment} {o : Applied} {vs : List RVal} {x : Option Ty} {fs : List Found} {at : Span} {given : Option Ty} (r : RVal) → IsRightForm e o vs x → AreAllEntered e o vs x fs → IsFor e (right_inside o vs fs) (wanted_right o x fs) (type_if given) → IsExpected e (type_if given) → r ≡ get_or vs (length vs - 1) r → at ≡ val_span (val_of r) → IsLeaving e o vs x fs at given
leaving_first {o = o} {vs = vs} {fs = fs} r p k h f is place =
    let n = length (frames_by o fs) in
    let count : suc n ≡ length (vals_of vs) = omega (arith, k.count, length_frames o fs, length_vals vs) in
    let last : n ≡ length vs - 1 = omega (arith, k.count, length_frames o fs) in
    record {
      form = p;
      entered = k.entered;
      few = omega (arith, count);
      place =
          last_at o.span o.name (vals_of vs) n n (val_of r) refl count
          ∙ (ap val_span (val_at vs n r (val_of r) (omega (arith, k.count, length_frames o fs)) ∙ ap val_of (ap (λ m. get_or vs m r) last ∙ sym is)) ∙ sym place);
      inner = h;
      formed = f;
    }

-- none is left
pub all_left : {e : Environment} {o : Applied} {vs : List RVal} {x : Option Ty} {fs : List Found} {at : Span} {given : Option Ty} → IsLeaving e o vs x fs at given → fs ≡ [] → IsFor e (right_form o vs) (type_if x) (type_if given)
all_left {e = e} {o = o} {vs = vs} {x = x} {given = given} p none = subst (λ z. IsFor e (right_inside o vs z) (wanted_right o x z) (type_if given)) none p.inner

-- THE APPLICATION THAT IS LEFT NEXT

pub record LeavesNext (e : Environment) (o : Applied) (vs : List RVal) (x : Option Ty) (all fs : List Found) (g : Found) (at : Span) (given : Option Ty) : Type 0 where
  pub so_far : IsLeaving e o vs x all at given
  pub items : all ≡ fs ++ g ∷ []

pub leaves_next : {e : Environment} {o : Applied} {vs : List RVal} {x : Option Ty} {all : List Found} {at : Span} {given : Option Ty} (fs : List Found) (g : Found) → IsLeaving e o vs x all at given → all ≡ fs ++ g ∷ [] → LeavesNext e o vs x all fs g at given
leaves_next fs g p h = record { so_far = p; items = h }

level_of : {e : Environment} {o : Applied} {vs : List RVal} {x : Option Ty} {all fs : List Found} {g : Found} {at : Span} {given : Option Ty} → LeavesNext e o vs x all fs g at given → IsLevel e e o.span o.name (operator_of o) (vals_of vs) (type_if x) (frames_by o all) (frames_by o fs) (found_by o g) at (type_if given)
level_of {o = o} {all = all} {fs = fs} {g = g} p = record {
  head = p.so_far.form.head;
  items = frames_more o fs all g p.items;
  entered = p.so_far.entered;
  few = p.so_far.few;
  place = p.so_far.place;
  inner = p.so_far.inner;
  same = refl;
}

pub next_found : {e : Environment} {o : Applied} {vs : List RVal} {x : Option Ty} {all fs : List Found} {g : Found} {at : Span} {given : Option Ty} → LeavesNext e o vs x all fs g at given → IsFoundFor e (operator_of o).binders (found_by o g)
next_found p = (level_found (level_of p) p.so_far.form.asked).1

-- what the second field finds, as the code has it
abbrev pub Lines : Environment → Applied → Span → PlainType → Found → Option Ty → Found → Type 0
Lines e o at u g given h = (v : Val) → val_span v ≡ at → Runs (field_lines e o.span v u (found_by o g) (type_if given)) (ok (found_by o h))

lines_of : {u : PlainType} (e : Environment) (o : Applied) (at : Span) (g : Found) (given : Option Ty) (h : Found) → u ≡ (operator_of o).second → Lines e o at u g given h → Lines e o at (operator_of o).second g given h
lines_of e o at g given h is k v q = subst (λ t. Runs (field_lines e o.span v t (found_by o g) (type_if given)) (ok (found_by o h))) is (k v q)

pub next_refused : {e : Environment} {o : Applied} {vs : List RVal} {x : Option Ty} {all fs : List Found} {g : Found} {at : Span} {given : Option Ty} {u : PlainType} (y : InferError) → LeavesNext e o vs x all fs g at given → u ≡ (operator_of o).second → ((v : Val) → val_span v ≡ at → IsRefused (field_lines e o.span v u (found_by o g) (type_if given)) y) → IsRefusedFor e (right_form o vs) (type_if x) y
next_refused {e = e} {o = o} {g = g} {given = given} y p is h =
    second_refused y (level_of p) (λ v k. subst (λ t. IsRefused (field_lines e o.span v t (found_by o g) (type_if given)) y) is (h v k))

pub next_end : {e : Environment} {o : Applied} {vs : List RVal} {x : Option Ty} {all fs : List Found} {g : Found} {at : Span} {given : Option Ty} {u : PlainType} (h : Found) (y : InferError) → LeavesNext e o vs x all fs g at given → u ≡ (operator_of o).second → Lines e o at u g given h → IsRefused (fields_end e o.span (operator_of o).binders (found_by o h)) y → IsRefusedFor e (right_form o vs) (type_if x) y
next_end {e = e} {o = o} {g = g} {at = at} {given = given} h y p is k z = end_refused (found_by o h) y (level_of p) (lines_of e o at g given h is k) z

-- what is wanted around it
pub around_found : {e : Environment} {o : Applied} {vs : List RVal} {x : Option Ty} {all fs ds : List Found} {g : Found} {at : Span} {given : Option Ty} → LeavesNext e o vs x all fs g at given → ds ≡ fs → AreFoundFor e (operator_of o).binders (frames_by o ds)
around_found {e = e} {o = o} p is = subst (λ z. AreFoundFor e (operator_of o).binders (frames_by o z)) (sym is) (level_found (level_of p) p.so_far.form.asked).0

pub around_room : {e : Environment} {o : Applied} {vs : List RVal} {x : Option Ty} {all fs ds : List Found} {g : Found} {at : Span} {given : Option Ty} {u : PlainType} → LeavesNext e o vs x all fs g at given → ds ≡ fs → u ≡ (operator_of o).second → HaveRoom e o.span u (frames_by o ds)
around_room {e = e} {o = o} {fs = fs} {u = u} p is second =
    subst (λ z. HaveRoom e o.span u (frames_by o z)) (sym is) (subst (λ t. HaveRoom e o.span t (frames_by o fs)) (sym second) (level_room_left (level_of p)))

pub around_wanted : {e : Environment} {o : Applied} {vs : List RVal} {x : Option Ty} {all fs : List Found} {g : Found} {at : Span} {given : Option Ty} {w : Option PlainType} → LeavesNext e o vs x all fs g at given → w ≡ wanted_right o x fs → IsExpected e w
around_wanted {e = e} p is = subst (IsExpected e) (sym is) (level_wanted (level_of p) p.so_far.form.asked)

-- its answer
pub next_answer : {e : Environment} {o : Applied} {vs : List RVal} {x : Option Ty} {all fs : List Found} {g : Found} {at : Span} {given : Option Ty} {u : PlainType} {args out : List Arg} {w : Option PlainType} (h : Found) (y : InferError) → LeavesNext e o vs x all fs g at given → u ≡ (operator_of o).second → Lines e o at u g given h → Runs (fields_end e o.span (operator_of o).binders (found_by o h)) (ok (plain_args args)) → w ≡ wanted_right o x fs → out ≡ args → IsRefused (application_end e o.span (operator_of o).answer (plain_args out) w) y → IsRefusedFor e (right_form o vs) (type_if x) y
next_answer {e = e} {o = o} {g = g} {at = at} {given = given} {args = args} {w = w} h y p is k found wanted same z =
    answer_refused (found_by o h) (plain_args args) w y (level_of p) (lines_of e o at g given h is k) found wanted
    (subst (λ l. IsRefused (application_end e o.span (operator_of o).answer (plain_args l) w) y) same z)

pub leaving_next : {e : Environment} {o : Applied} {vs : List RVal} {x : Option Ty} {all fs : List Found} {g : Found} {at : Span} {given : Option Ty} {u : PlainType} {args out : List Arg} {w : Option PlainType} (h : Found) (t : Ty) → LeavesNext e o vs x all fs g at given → u ≡ (operator_of o).second → Lines e o at u g given h → Runs (fields_end e o.span (operator_of o).binders (found_by o h)) (ok (plain_args args)) → w ≡ wanted_right o x fs → out ≡ args → Runs (application_end e o.span (operator_of o).answer (plain_args out) w) (ok (plain t)) → IsExpected e (type_if (Some t)) → IsLeaving e o vs x fs o.span (Some t)
leaving_next {e = e} {o = o} {g = g} {at = at} {given = given} {args = args} {w = w} h t p is k found wanted same z f =
    let l = level_of p in
    record {
      form = p.so_far.form;
      entered = level_left l;
      few = level_less l;
      place = level_span l;
      inner =
          level_done (found_by o h) (plain_args args) w (plain t) l (lines_of e o at g given h is k) found wanted
          (subst (λ a. Runs (application_end e o.span (operator_of o).answer (plain_args a) w) (ok (plain t))) same z);
      formed = f;
    }

-- what is wanted inside, by what the code has
pub inside_is : {fs ds : List Found} {u : PlainType} {w : Option PlainType} (o : Applied) (x : Option Ty) → w ≡ wanted_in u (type_if x) (frames_by o ds) → u ≡ (operator_of o).second → ds ≡ fs → w ≡ wanted_right o x fs
inside_is {ds = ds} o x h second is = h ∙ (ap (λ t. wanted_in t (type_if x) (frames_by o ds)) second ∙ ap (λ z. wanted_in (operator_of o).second (type_if x) (frames_by o z)) is)
