-- What was written is read back over the same names.
use Rattle.std.proofs.Common.{◌≡◌, ℕ, true, List, [], ◌∷◌, slice_get, Some, IsTrue, sym, ◌∙◌, ap, subst, refl}
use Rattle.std.specs.List.{AllByRecursion, list_any}
use Rattle.std.specs.Str.{bytes_eq}
use Rattle.pict_syntax.specs.Names.{text_of, with_names}
use Rattle.pict_syntax.proofs.NamesLemmas.{has_name, has_standing, with_there}
use Rattle.pict_core.specs.Term.{Process}
use Rattle.pict_object.specs.Objects.{labels_of}
use Rattle.pict_object.specs.Cores.{IsObject}
use Rattle.pict_object.proofs.Decoded.{found}
use Rattle.pict_object.proofs.Encoded.{all_placed}
use Rattle.pict_object.proofs.Lists.{all_weaker}
use Rattle.pict_object.proofs.Objects.{has_text, one_core}
use Rattle.pict_object.proofs.Tables.{In, not_itself, after_it, in_first, in_rest}
use Rattle.pict_built.specs.Laws.{WrittenIsReadBack}
use Rattle.pict_built.proofs.Labels.{one_head}

-- each label of an object is a name
module _ (names : List (List ℕ)) (bytes : List ℕ) (p : Process) (f : IsObject names bytes p) where
  named : (label : ℕ) → In (text_of names label) f.table → has_name names (text_of names label) ≡ true
  named label h =
      let some : text_of names label ≡ [] → ⊥ = λ e. not_itself [] (after_it [] [] f.table f.labels.rise (subst (λ t. In t f.table) e h)) in
      has_standing names (text_of names label) label (has_text names label some)

  is_named : (text : List ℕ) → In text f.table → has_name names text ≡ true
  is_named text h =
      found (λ t. has_name names t ≡ true) names text (labels_of p)
      (all_weaker (λ label. In (text_of names label) f.table) (λ label. has_name names (text_of names label) ≡ true) named (labels_of p) (all_placed names f.table p f.labels))
      ((f.labels.exactly text).0 h)

-- texts that are names already add none
none_lacked : (names table : List (List ℕ)) → ((text : List ℕ) → In text table → has_name names text ≡ true) → with_names names table ≡ names
none_lacked names [] h = refl
none_lacked names (text ∷ table) h =
    ap (λ ns. with_names ns table) (with_there names text (h text (in_first text table))) ∙ none_lacked names table (λ t k. h t (in_rest t text table k))

pub written_is_read_back : WrittenIsReadBack
written_is_read_back names new bytes p q distinct f decoded =
    let same = one_head names new bytes p q f decoded.object in
    let kept : new ≡ names = decoded.names ∙ ap (with_names names) (sym same.0) ∙ none_lacked names f.table (is_named names bytes p f) in
    (kept, sym decoded.without_places ∙ sym (one_core names distinct bytes p q f (subst (λ ns. IsObject ns bytes q) kept decoded.object)))
