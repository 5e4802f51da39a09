-- Names that grow keep their texts, and so the texts of values.
use Rattle.std.proofs.Common.{◌≡◌, ℕ, suc, zero, List, [], ◌∷◌, ◌++◌, Some, refl, sym, ◌∙◌, ap, subst, append_assoc, slice_get, unwrap_or, nat_cmp}
use Rattle.std.specs.Cmp.Lexicographic.{slice_cmp}
use Rattle.pict_syntax.specs.Names.{text_of}
use Rattle.pict_syntax.specs.Tokens.{IsWord}
use Rattle.pict_core.specs.Term.{Val, Vals, Labelled, Var, Chan, Int, Char, Boolean, Text, PrimitiveVal, Record, no_vals, more_vals, no_labelled, more_labelled}
use Rattle.pict_show.specs.Values.{value_text, positional_texts, labelled_texts, in_brackets}
use Rattle.pict_trace.specs.Readable.{IsIdentifier, IsOrderly, AreOrderly, LabelsAfter}
use Rattle.pict_trace.specs.Reading.{spaced_labels}
use Rattle.pict_trace.proofs.Unique.{spaced, name_stands}

-- the second names begin with the first
abbrev pub Extends : List (List ℕ) → List (List ℕ) → Type 0
Extends old new = (more : List (List ℕ)) × (new ≡ old ++ more)

pub extends_on : (a b c : List (List ℕ)) → Extends a b → Extends b c → Extends a c
extends_on a b c (m, e) (n, f) = (m ++ n, f ∙ ap (λ t. t ++ n) e ∙ append_assoc a m n)

get_more : (xs ys : List (List ℕ)) (l : ℕ) (t : List ℕ) → slice_get xs l ≡ Some t → slice_get (xs ++ ys) l ≡ Some t
get_more [] ys l t e = cc
get_more (x ∷ xs) ys zero t e = e
get_more (x ∷ xs) ys (suc l) t e = get_more xs ys l t e

pub text_kept : (old more : List (List ℕ)) (l : ℕ) → IsWord (text_of old l) → text_of (old ++ more) l ≡ text_of old l
text_kept old more l h = ap (λ o. unwrap_or o []) (get_more old more l (text_of old l) (name_stands old l h))

mutual
  pub kept_value : (old more : List (List ℕ)) (v : Val) → IsOrderly old v → (value_text (old ++ more) v ≡ value_text old v) × IsOrderly (old ++ more) v
  kept_value old more (Record vs ls) h =
      let a = kept_vals old more vs h.0 in
      let b = kept_labels old more [] ls h.1 in
      (ap (λ t. in_brackets (t ++ labelled_texts (old ++ more) ls)) a.0 ∙ ap (λ t. in_brackets (positional_texts old vs ++ t)) b.0, (a.1, b.1))
  kept_value old more (Var x) h = absurd h
  kept_value old more (Chan x) h = (refl, h)
  kept_value old more (Int x) h = (refl, h)
  kept_value old more (Char x) h = (refl, h)
  kept_value old more (Boolean x) h = (refl, h)
  kept_value old more (Text x) h = (refl, h)
  kept_value old more (PrimitiveVal x) h = (refl, h)

  pub kept_vals : (old more : List (List ℕ)) (vs : Vals) → AreOrderly old vs → (positional_texts (old ++ more) vs ≡ positional_texts old vs) × AreOrderly (old ++ more) vs
  kept_vals old more no_vals h = (refl, tt)
  kept_vals old more (more_vals v vs) h =
      let a = kept_value old more v h.0 in
      let b = kept_vals old more vs h.1 in
      (ap (λ t. t ∷ positional_texts (old ++ more) vs) a.0 ∙ ap (λ t. value_text old v ∷ t) b.0, (a.1, b.1))

  pub kept_labels : (old more : List (List ℕ)) (before : List ℕ) (ls : Labelled) → LabelsAfter old before ls → (labelled_texts (old ++ more) ls ≡ labelled_texts old ls) × LabelsAfter (old ++ more) before ls
  kept_labels old more before no_labelled h = (refl, tt)
  kept_labels old more before (more_labelled l v ls) h =
      let t = text_kept old more l h.0.0 in
      let a = kept_value old more v h.2 in
      let b = kept_labels old more (text_of old l) ls h.3 in (
        ap (λ x. (x ++ (61 ∷ value_text (old ++ more) v)) ∷ labelled_texts (old ++ more) ls) t ∙ ap (λ x. (text_of old l ++ (61 ∷ x)) ∷ labelled_texts (old ++ more) ls) a.0 ∙ ap (λ x. (text_of old l ++ (61 ∷ value_text old v)) ∷ x) b.0,
        (subst IsIdentifier (sym t) h.0, ap (slice_cmp nat_cmp before) t ∙ h.1, a.1, subst (λ x. LabelsAfter (old ++ more) x ls) (sym t) b.1),
      )

pub kept_spaced : (old more : List (List ℕ)) (vs : Vals) (r : List ℕ) → AreOrderly old vs → spaced (old ++ more) vs r ≡ spaced old vs r
kept_spaced old more no_vals r h = refl
kept_spaced old more (more_vals v vs) r h = ap (λ t. 32 ∷ (t ++ spaced (old ++ more) vs r)) (kept_value old more v h.0).0 ∙ ap (λ t. 32 ∷ (value_text old v ++ t)) (kept_spaced old more vs r h.1)

pub kept_spaced_labels : (old more : List (List ℕ)) (before : List ℕ) (ls : Labelled) (r : List ℕ) → LabelsAfter old before ls → spaced_labels (old ++ more) ls r ≡ spaced_labels old ls r
kept_spaced_labels old more before no_labelled r h = refl
kept_spaced_labels old more before (more_labelled l v ls) r h =
    ap (λ x. 32 ∷ (x ++ (61 ∷ (value_text (old ++ more) v ++ spaced_labels (old ++ more) ls r)))) (text_kept old more l h.0.0)
    ∙ ap (λ x. 32 ∷ (text_of old l ++ (61 ∷ (x ++ spaced_labels (old ++ more) ls r)))) (kept_value old more v h.2).0
    ∙ ap (λ x. 32 ∷ (text_of old l ++ (61 ∷ (value_text old v ++ x)))) (kept_spaced_labels old more (text_of old l) ls r h.3)
