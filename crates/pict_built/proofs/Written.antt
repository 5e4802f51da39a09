-- What is read of the object of a process runs as that process.
use Rattle.std.proofs.Common.{◌≡◌, ℕ, ◌+◌, List, [], length, Option, Some, IsTrue, refl, sym, ◌∙◌, ap, ap₂, subst, unwrap_or, arith, if◌then◌else◌}
use Rattle.std.specs.Prelude.{slice_get}
use Rattle.std.specs.List.{list_any}
use Rattle.std.specs.Str.{bytes_eq}
use Rattle.pict_syntax.specs.declared.name.Name.{Name}
use Rattle.pict_syntax.specs.Names.{text_of, number_of, HasNoRepeats}
use Rattle.pict_syntax.proofs.NamesLemmas.{stands_there}
use Rattle.pict_core.specs.Term.{Process}
use Rattle.pict_core.specs.Step.{Label}
use Rattle.pict_core.specs.Run.{End, Done, FuelSpent, Trap, Misshapen, Runs, bytes_of}
use Rattle.pict_object.specs.Objects.{process_bytes, place_in}
use Rattle.pict_object.specs.Cores.{ComesBefore, IsObject}
use Rattle.pict_object.specs.Decoded.{IsDecoded}
use Rattle.pict_object.specs.Dressing.{Dress, KeepsLabelsApart, dressed, dressed_end, dressed_labels, undressed, anew}
use Rattle.pict_object.specs.Heads.{own_labels}
use Rattle.pict_object.specs.Reading.{label_in, whole_at}
use Rattle.pict_object.proofs.Places.{number_below}
use Rattle.pict_object.proofs.Tables.{In, not_itself, after_it}
use Rattle.pict_object.proofs.Decoded.{places_up}
use Rattle.pict_object.proofs.Objects.{has_text, own_label}
use Rattle.pict_object.proofs.Whole.{without_places, labels_extend}
use Rattle.pict_object.proofs.Again.{relabelled, whole_again}
use Rattle.pict_object.proofs.DressedSteps.{runs_are_dressed}
use Rattle.pict_built.specs.Laws.{placeless, DecodedRunsAsWritten}
use Rattle.pict_built.proofs.Labels.{own_names, own_number, own_length, one_head, decoded_distinct}
use Rattle.pict_built.proofs.Alike.{alike}

-- ---- what is read

module _ (names : List (List ℕ)) (bytes : List ℕ) (p : Process) (f : IsObject names bytes p) where
  abbrev Placed : ℕ → Type 0
  Placed l = IsTrue (list_any (bytes_eq (text_of names l)) f.table)

  -- labels with their places as numbers
  abbrev by_place : Dress
  by_place = relabelled (own_labels (length f.table)) (place_in names f.table)

  read_whole : whole_at (own_labels (length f.table)) (process_bytes (place_in names f.table) p) ≡ Some (dressed by_place p)
  read_whole =
      let many = own_length (length f.table) in
      whole_again (own_labels (length f.table)) (place_in names f.table) Placed (ComesBefore names)
      (record {
        few = omega (arith, many, f.fits.few);
        low = λ l h. omega (arith, many, number_below f.table (text_of names l) h);
        rise = λ l m h k b. places_up f.table f.labels.rise (text_of names l) (text_of names m) h k b;
      })
      p f.core.closed f.core.shallow f.core.nests f.fits.labels f.core.rising

  -- their numbers among the labels of the object, where these are the names
  place_number : (l : ℕ) → Placed l → by_place.label l ≡ number_of f.table (text_of names l)
  place_number l h = own_number (length f.table) (number_of f.table (text_of names l)) (number_below f.table (text_of names l) h)

  -- other numbers for labels, among those of the object, which keep all labels apart
  abbrev by_label : Dress
  by_label = anew names f.table

  same_number : (l : ℕ) → Placed l → by_place.label l ≡ by_label.label l
  same_number l h = place_number l h ∙ sym (ap (λ there. if there then number_of f.table (text_of names l) else length f.table + l) h)

  dressed_alike : dressed by_place p ≡ dressed by_label p
  dressed_alike = alike by_place by_label Placed same_number (λ at. refl) p f.fits.labels

  kept_apart : HasNoRepeats names → KeepsLabelsApart by_label
  kept_apart distinct l m = labels_extend names f.table l m (λ e h. own_label names distinct p f.table f.labels l m h e)

-- what is read by no names but its own labels has their places as numbers
module _ (names : List (List ℕ)) (bytes : List ℕ) (p : Process) (d : IsDecoded [] names bytes p) where
  own_place : (l : ℕ) → Placed names bytes p d.object l → (by_place names bytes p d.object).label l ≡ l
  own_place l h =
      let table = d.object.table in
      let same : names ≡ table = d.names ∙ own_names table d.object.labels.rise in
      let text : List ℕ = text_of names l in
      let some : text ≡ [] → ⊥ = λ e. not_itself [] (after_it [] [] table d.object.labels.rise (subst (λ t. In t table) e h)) in
      let there : slice_get names (number_of table text) ≡ Some text = subst (λ ns. slice_get ns (number_of table text) ≡ Some text) (sym same) (stands_there table text h) in
      place_number names bytes p d.object l h ∙ decoded_distinct bytes names p d (number_of table text) l text there (has_text names l some)

  read_is : dressed (by_place names bytes p d.object) p ≡ p
  read_is = alike (by_place names bytes p d.object) undressed (Placed names bytes p d.object) own_place (λ at. refl) p d.object.fits.labels ∙ without_places p ∙ d.without_places

some_one : (p q : Process) → Some p ≡ Some q → p ≡ q
some_one p q e = ap (λ (o : Option Process). unwrap_or o p) e

-- what is read of an object is the process of which it was written, with other numbers for its labels and without places
read_as : (names others : List (List ℕ)) (bytes : List ℕ) (p q : Process) → (f : IsObject names bytes p) → IsDecoded [] others bytes q → dressed (by_label names bytes p f) p ≡ q
read_as names others bytes p q f d =
    let g : IsObject others bytes q = d.object in
    let head = one_head names others bytes p q f g in
    let read : Some (dressed (by_place names bytes p f) p) ≡ Some (dressed (by_place others bytes q g) q) =
    sym (read_whole names bytes p f) ∙ ap₂ (λ n b. whole_at (own_labels n) b) (ap length head.0) head.1 ∙ read_whole others bytes q g in
    sym (dressed_alike names bytes p f) ∙ some_one _ _ read ∙ read_is others bytes q d

without_place : (names : List (List ℕ)) (bytes : List ℕ) (p : Process) (f : IsObject names bytes p) (end : End) → dressed_end (by_label names bytes p f) end ≡ placeless end
without_place names bytes p f Done = refl
without_place names bytes p f FuelSpent = refl
without_place names bytes p f (Trap at) = refl
without_place names bytes p f Misshapen = refl

pub runs_as_written : DecodedRunsAsWritten
runs_as_written names others bytes p q distinct f d fuel end labels r =
    let dress = by_label names bytes p f in
    let run = runs_are_dressed dress (kept_apart names bytes p f distinct) p fuel end labels r in
    let here : Runs q fuel (dressed_end dress end) (dressed_labels dress labels) = subst (λ x. Runs x fuel (dressed_end dress end) (dressed_labels dress labels)) (read_as names others bytes p q f d) run.0 in
    (dressed_labels dress labels, subst (λ e. Runs q fuel e (dressed_labels dress labels)) (without_place names bytes p f end) here, run.1)
