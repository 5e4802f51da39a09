-- What the pieces of a value say, when one is taken and others are put back.
use Rattle.std.proofs.Common.{◌≡◌, ◌+◌, ℕ, true, false, List, [], ◌∷◌, ◌++◌, Option, Some, None, refl, sym, ◌∙◌, ap, append_assoc}
use Rattle.std.specs.Option.{option_map, is_some}
use Rattle.pict_syntax.specs.Names.{text_of}
use Rattle.pict_core.specs.Term.{Val, Vals, Labelled, no_vals, more_vals, no_labelled, more_labelled}
use Rattle.pict_show.specs.Values.{value_text}
use Rattle.pict_show.specs.Pending.{rest_text, fields_text}
use Rattle.pict_show.proofs.Pieces.{first_positional, first_labelled, rest_positional, rest_labelled}
use Rattle.pict_heap.specs.Fields.{positional_field, labelled_field_at}
use Rattle.pict_heap.specs.HeapState.{HeapState, value_of}
use Rattle.pict_heap.specs.declared.word.Word.TheVariants as word
use Rattle.pict_show_words.specs.Fields.{positional_from, labelled_from}
use Rattle.pict_show_words.specs.Pending.{piece_text, pending}
use Rattle.pict_show_words.specs.declared.writing.Piece.{Piece}
use Rattle.pict_show_words.proofs.Rests.{from_some, from_none, labelled_from_some, labelled_from_none, none_from, none_labelled_from}
use Rattle.pict_show_words.proofs.Words.{fields_are}

-- a field is there where it was found
pub none_is : {A B : Type 0} (f : A → B) (found : Option A) (there : Option B) → option_map f found ≡ there → is_some found ≡ false → there ≡ None
none_is f None there e none = sym e
none_is f (Some x) there e none = cc

pub some_is : {A B : Type 0} (f : A → B) (found : Option A) (there : Option B) → option_map f found ≡ there → is_some found ≡ true → there ≡ None → ⊥
some_is f None there e some none = cc
some_is f (Some x) there e some none = cc

pub none_found : {A B : Type 0} (f : A → B) (found : Option A) (there : Option B) → option_map f found ≡ there → ((x : A) → found ≡ Some x → ⊥) → there ≡ None
none_found f None there e none = sym e
none_found f (Some x) there e none = absurd (none x refl)

-- ---- what a record still shows

module _ (names : List (List ℕ)) (v : Val) (i j : ℕ) where
  pub at_positional : (x : Val) → positional_field v i ≡ Some x
      → fields_text names (positional_from i v) (labelled_from j v) ≡ value_text names x ++ rest_text names (positional_from (i + 1) v) (labelled_from j v)
  at_positional x e = ap (λ vs. fields_text names vs (labelled_from j v)) (from_some v x i e) ∙ first_positional names x (positional_from (i + 1) v) (labelled_from j v)

  pub at_labelled : (l : ℕ) (x : Val) → positional_field v i ≡ None → labelled_field_at v j ≡ Some (l, x)
      → fields_text names (positional_from i v) (labelled_from j v)
      ≡ text_of names l ++ (61 ∷ (value_text names x ++ rest_text names (positional_from i v) (labelled_from (j + 1) v)))
  at_labelled l x none e =
      ap (λ vs. fields_text names vs (labelled_from j v)) (from_none v i none)
      ∙ ap (fields_text names no_vals) (labelled_from_some v x j l e)
      ∙ first_labelled names l x (labelled_from (j + 1) v)
      ∙ ap (λ vs. text_of names l ++ (61 ∷ (value_text names x ++ rest_text names vs (labelled_from (j + 1) v)))) (sym (from_none v i none))

  pub fields_end : positional_field v i ≡ None → labelled_field_at v j ≡ None → fields_text names (positional_from i v) (labelled_from j v) ≡ 93 ∷ []
  fields_end none none' = ap (λ vs. fields_text names vs (labelled_from j v)) (from_none v i none) ∙ ap (fields_text names no_vals) (labelled_from_none v j none')

  pub rest_ends : positional_field v i ≡ None → labelled_field_at v j ≡ None → rest_text names (positional_from i v) (labelled_from j v) ≡ 93 ∷ []
  rest_ends none none' = ap (λ vs. rest_text names vs (labelled_from j v)) (from_none v i none) ∙ ap (rest_text names no_vals) (labelled_from_none v j none')

  pub rest_goes_on : (positional_field v i ≡ None → labelled_field_at v j ≡ None → ⊥)
      → rest_text names (positional_from i v) (labelled_from j v) ≡ 32 ∷ fields_text names (positional_from i v) (labelled_from j v)
  rest_goes_on some = by (positional_from i v) (labelled_from j v) (λ e f. some (none_from v i e) (none_labelled_from v j f))
    where
      by : (vs : Vals) (ls : Labelled) → (vs ≡ no_vals → ls ≡ no_labelled → ⊥) → rest_text names vs ls ≡ 32 ∷ fields_text names vs ls
      by no_vals no_labelled some = absurd (some refl refl)
      by no_vals (more_labelled l x ls) some = rest_labelled names l x ls
      by (more_vals x vs) ls some = rest_positional names x vs ls

-- the word of a record shows its fields between brackets
pub record_text : (names : List (List ℕ)) (h : HeapState) (number : ℕ)
    → value_text names (value_of h (word.Fields number)) ≡ 91 ∷ fields_text names (positional_from 0 (value_of h (word.Fields number))) (labelled_from 0 (value_of h (word.Fields number)))
record_text names h number = ap (value_text names) (fields_are h number)

-- ---- the pieces

module _ (names : List (List ℕ)) (h : HeapState) where
  pending_push : (ps : List Piece) (p : Piece) (after : List ℕ) → pending names h (ps ++ p ∷ []) after ≡ piece_text names h p ++ pending names h ps after
  pending_push [] p after = refl
  pending_push (q ∷ qs) p after = pending_push qs p (piece_text names h q ++ after)

  -- a rest and then a front are pushed
  pub two_pushed : (old between new : List Piece) (p q : Piece) (whole : List ℕ) → between ≡ old ++ q ∷ [] → new ≡ between ++ p ∷ []
      → whole ≡ piece_text names h p ++ piece_text names h q → pending names h new [] ≡ whole ++ pending names h old []
  two_pushed old between new p q whole e f is =
      ap (λ l. pending names h l []) f ∙ pending_push between p []
      ∙ ap (λ l. piece_text names h p ++ pending names h l []) e
      ∙ ap (λ t. piece_text names h p ++ t) (pending_push old q [])
      ∙ sym (append_assoc (piece_text names h p) (piece_text names h q) (pending names h old []))
      ∙ ap (λ t. t ++ pending names h old []) (sym is)

  -- one turn of the loop
  pub turned : (out out' : List ℕ) (ps taken ps' : List Piece) (p : Piece) → ps ≡ taken ++ p ∷ []
      → out' ++ pending names h ps' [] ≡ out ++ (piece_text names h p ++ pending names h taken []) → out' ++ pending names h ps' [] ≡ out ++ pending names h ps []
  turned out out' ps taken ps' p e f = f ∙ ap (λ t. out ++ t) (sym (ap (λ l. pending names h l []) e ∙ pending_push taken p []))
