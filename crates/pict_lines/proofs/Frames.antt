-- Frames and values of the code, as the rules see them.
use Rattle.std.proofs.Common.{◌≡◌, ℕ, suc, ◌<◌, refl, sym, ◌∙◌, ap, List, [], ◌∷◌, ◌++◌, length, get_or, Option, Some, None}
use Rattle.std.proofs.lemmas.List.{length-map, map-append, get_or-map}
use Rattle.pict_syntax.specs.declared.tree.Val.{Val as RVal}
use Rattle.pict_syntax.specs.PlainTrees.{val_of}
use Rattle.pict_syntax.specs.Trees.{Val}
use Rattle.pict_types.specs.declared.types.Ty.{Ty}
use Rattle.pict_types.specs.declared.types.Bound.{Bound}
use Rattle.pict_types.specs.Types.{PlainBounds, PlainType}
use Rattle.pict_types.specs.Plain.{plain_bounds}
use Rattle.pict_match.specs.declared.found.Found.{Found}
use Rattle.pict_match.specs.PlainFound.{slots, later_bounds}
use Rattle.pict_rules.specs.Regular.{kinds_found, kinds_of_fields}
use Rattle.pict_lines.specs.declared.operators.Applied.{Applied}
use Rattle.pict_lines.specs.Operators.{found_by, frames_by, vals_of}
use Rattle.pict_rules.specs.Environments.{Environment}
use Rattle.pict_rules.specs.Rules.{value_fits, ok}
use Rattle.pict_rules.specs.Derivations.{Runs}
use Rattle.pict_rules.specs.Typing.{rule}
use Rattle.pict_lines.specs.Reading.{found_for}

pub frames_more : (o : Applied) (fs gs : List Found) (g : Found) → gs ≡ fs ++ g ∷ [] → frames_by o gs ≡ frames_by o fs ++ found_by o g ∷ []
frames_more o fs gs g h = ap (frames_by o) h ∙ map-append (found_by o) fs (g ∷ [])

pub length_frames : (o : Applied) (fs : List Found) → length (frames_by o fs) ≡ length fs
length_frames o fs = length-map fs (found_by o)

pub length_vals : (vs : List RVal) → length (vals_of vs) ≡ length vs
length_vals vs = length-map vs val_of

pub val_at : (vs : List RVal) (i : ℕ) (d : RVal) (e : Val) → i < length vs → get_or (vals_of vs) i e ≡ val_of (get_or vs i d)
val_at vs i d e h = get_or-map val_of vs i d e h

pub frame_at : (o : Applied) (fs : List Found) (i : ℕ) (d : Found) → i < length fs → get_or (frames_by o fs) i (found_by o d) ≡ found_by o (get_or fs i d)
frame_at o fs i d h = get_or-map (found_by o) fs i d (found_by o d) h

-- as many are found as there are type fields
pub kinds_length : (bs : PlainBounds) (xs : List (Option Ty)) → length (kinds_found (slots bs xs)) ≡ length xs
kinds_length bs [] = refl
kinds_length bs (None ∷ xs) = ap suc (kinds_length (later_bounds bs) xs)
kinds_length bs (Some t ∷ xs) = ap suc (kinds_length (later_bounds bs) xs)

pub fields_length : (bs : List Bound) → length (kinds_of_fields (plain_bounds bs)) ≡ length bs
fields_length [] = refl
fields_length (b ∷ bs) = ap suc (fields_length bs)

pub found_count : (o : Applied) (g : Found) → kinds_found (found_by o g) ≡ kinds_of_fields (plain_bounds o.function.fields.binders.items) → length o.function.fields.binders.items ≡ length g.list.items
found_count o g h = sym (fields_length o.function.fields.binders.items) ∙ (ap length (sym h) ∙ kinds_length (plain_bounds o.function.fields.binders.items) g.list.items)

-- a field found this, where that was found before it
abbrev pub FieldFinds : Environment → Applied → Found → RVal → List Bound → PlainType → Found → Type 0
FieldFinds e o f v bs t g = Runs (rule e (value_fits o.span (val_of v) t (found_for bs f))) (ok (found_for bs g))
