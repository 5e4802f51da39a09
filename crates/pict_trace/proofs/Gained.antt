-- Which names reading adds: the labels, each where it first stands.
use Rattle.std.proofs.Common.{◌≡◌, ℕ, Bool, true, false, List, [], ◌∷◌, ◌++◌, refl, sym, ◌∙◌, ap, append-nil, if◌then◌else◌}
use Rattle.std.specs.List.{list_any}
use Rattle.std.specs.Str.{bytes_eq}
use Rattle.pict_syntax.specs.Names.{text_of, with_name, with_names}
use Rattle.pict_core.specs.Term.{Val, Vals, Labelled, Var, Chan, Int, Char, Boolean, Text, PrimitiveVal, Record, no_vals, more_vals, no_labelled, more_labelled}
use Rattle.pict_trace.specs.Readable.{IsOrderly, AreOrderly, LabelsAfter, labels_of, labels_of_all, labels_of_labelled}
use Rattle.pict_trace.proofs.Kept.{Extends, text_kept, extends_on}

name_extends : (names : List (List ℕ)) (x : List ℕ) → Extends names (with_name names x)
name_extends names x = by (list_any (bytes_eq x) names)
  where
    by : (t : Bool) → Extends names (if t then names else names ++ x ∷ [])
    by true = ([], sym (append-nil names))
    by false = (x ∷ [], refl)

pub names_extend : (names xs : List (List ℕ)) → Extends names (with_names names xs)
names_extend names [] = ([], sym (append-nil names))
names_extend names (x ∷ xs) = extends_on names (with_name names x) (with_names (with_name names x) xs) (name_extends names x) (names_extend (with_name names x) xs)

mutual
  pub labels_kept : (old more : List (List ℕ)) (v : Val) → IsOrderly old v → labels_of (old ++ more) v ≡ labels_of old v
  labels_kept old more (Record vs ls) h = ap (λ t. t ++ labels_of_labelled (old ++ more) ls) (all_kept old more vs h.0) ∙ ap (λ t. labels_of_all old vs ++ t) (labelled_kept old more [] ls h.1)
  labels_kept old more (Var x) h = absurd h
  labels_kept old more (Chan x) h = refl
  labels_kept old more (Int x) h = refl
  labels_kept old more (Char x) h = refl
  labels_kept old more (Boolean x) h = refl
  labels_kept old more (Text x) h = refl
  labels_kept old more (PrimitiveVal x) h = refl

  pub all_kept : (old more : List (List ℕ)) (vs : Vals) → AreOrderly old vs → labels_of_all (old ++ more) vs ≡ labels_of_all old vs
  all_kept old more no_vals h = refl
  all_kept old more (more_vals v vs) h = ap (λ t. t ++ labels_of_all (old ++ more) vs) (labels_kept old more v h.0) ∙ ap (λ t. labels_of old v ++ t) (all_kept old more vs h.1)

  pub labelled_kept : (old more : List (List ℕ)) (before : List ℕ) (ls : Labelled) → LabelsAfter old before ls → labels_of_labelled (old ++ more) ls ≡ labels_of_labelled old ls
  labelled_kept old more before no_labelled h = refl
  labelled_kept old more before (more_labelled l v ls) h =
      ap (λ t. t ∷ (labels_of (old ++ more) v ++ labels_of_labelled (old ++ more) ls)) (text_kept old more l h.0.0)
      ∙ ap (λ t. text_of old l ∷ (t ++ labels_of_labelled (old ++ more) ls)) (labels_kept old more v h.2)
      ∙ ap (λ t. text_of old l ∷ (labels_of old v ++ t)) (labelled_kept old more (text_of old l) ls h.3)
