-- Lines written one after the other.
use Rattle.std.proofs.Common.{◌≡◌, ℕ, ◌+◌, ◌<◌, List, [], ◌∷◌, ◌++◌, length, take, drop, get_or, Option, Result, Ok, Err, OnErr, sym, ◌∙◌, ap, subst, append_assoc}
use Rattle.std.proofs.lemmas.List.{take_more, take-append-drop, append-nil}
use Rattle.std.proofs.lemmas.Grind.{flat_map-append}
use Rattle.std.specs.List.{flat_map}
use Rattle.std.specs.Io.KnownBytes.{Appends}
use Rattle.pict_outside.specs.Bytes.{AppendsFront, IsFrontOf}
use Rattle.pict_outside.proofs.Gaining.{appends_then}

module _ {A : Type 0} (text : A → List ℕ) (lines : List A) where
  -- a line more
  next_line : (i : ℕ) (d : A) → i < length lines → flat_map text (take (i + 1) lines) ≡ flat_map text (take i lines) ++ text (get_or lines i d)
  next_line i d within =
      ap (flat_map text) (take_more lines i d within) ∙ flat_map-append text (take i lines) (get_or lines i d ∷ [])
      ∙ ap (λ t. flat_map text (take i lines) ++ t) (append-nil (text (get_or lines i d)))

  first_is_front : (i : ℕ) → IsFrontOf (flat_map text (take i lines)) (flat_map text lines)
  first_is_front i = record { rest = flat_map text (drop i lines); joined = sym (flat_map-append text (take i lines) (drop i lines)) ∙ ap (flat_map text) (take-append-drop i lines) }

  pub wrote_first : (old new : Option (List ℕ)) (i : ℕ) → Appends old new (flat_map text (take i lines)) → AppendsFront old new (flat_map text lines)
  wrote_first old new i all = record { front = flat_map text (take i lines); of_whole = first_is_front i; appended = all }

  -- the write of a line broke off
  pub wrote_part : (old mid new : Option (List ℕ)) (i : ℕ) (d : A) → i < length lines → Appends old mid (flat_map text (take i lines)) → AppendsFront mid new (text (get_or lines i d)) → AppendsFront old new (flat_map text lines)
  wrote_part old mid new i d within before part =
      let front : List ℕ = flat_map text (take i lines) in
      let whole = subst (λ t. IsFrontOf t (flat_map text lines)) (next_line i d within) (first_is_front (i + 1)) in
      record {
        front = front ++ part.front;
        of_whole = record {
          rest = part.of_whole.rest ++ whole.rest;
          joined = append_assoc front part.front (part.of_whole.rest ++ whole.rest) ∙ ap (λ t. front ++ t) (sym (append_assoc part.front part.of_whole.rest whole.rest) ∙ ap (λ t. t ++ whole.rest) part.of_whole.joined)
              ∙ sym (append_assoc front (text (get_or lines i d)) whole.rest) ∙ whole.joined;
        };
        appended = appends_then old mid new front part.front before part.appended;
      }

pub on_err : {T E P : Type 0} (r : Result T E) → P → OnErr r P
on_err (Ok x) h = tt
on_err (Err e) h = h
