-- Lines of choices, one more at a time.
use Rattle.std.proofs.Common.{ℕ, ◌≡◌, ◌+◌, ◌<◌, List, [], ◌∷◌, ◌++◌, take, length, get_or, map, sym, ap, ◌∙◌, append_assoc, append-nil}
use Rattle.std.proofs.lemmas.List.{take_more, map-append}
use Rattle.std.proofs.lemmas.Grind.{flat_map-append}
use Rattle.pict_orders.specs.Plain.{place_of}
use Rattle.pict_orders.specs.declared.choice.Choice.{Choice}
use Rattle.pict_replay.specs.Files.{choice_text, choices_text}

-- a piece, and what is written behind it
pub before : (old mid new piece rest : List ℕ) → mid ≡ old ++ piece → new ≡ mid ++ rest → new ≡ old ++ (piece ++ rest)
before old mid new piece rest e f = f ∙ ap (λ t. t ++ rest) e ∙ append_assoc old piece rest

module _ (cs : List Choice) (i : ℕ) (d : Choice) (within : i < length cs) where
  -- the places of one choice more
  pub place_more : map place_of (take (i + 1) cs) ≡ map place_of (take i cs) ++ place_of (get_or cs i d) ∷ []
  place_more = ap (map place_of) (take_more cs i d within) ∙ map-append place_of (take i cs) (get_or cs i d ∷ [])

  lines_more : choices_text (map place_of (take (i + 1) cs)) ≡ choices_text (map place_of (take i cs)) ++ choice_text (place_of (get_or cs i d))
  lines_more =
      ap choices_text place_more ∙ flat_map-append choice_text (map place_of (take i cs)) (place_of (get_or cs i d) ∷ [])
      ∙ ap (λ t. choices_text (map place_of (take i cs)) ++ t) (append-nil (choice_text (place_of (get_or cs i d))))

  -- its line behind theirs
  pub choice_more : (old out new : List ℕ) → out ≡ old ++ choices_text (map place_of (take i cs)) → new ≡ out ++ choice_text (place_of (get_or cs i d))
      → new ≡ old ++ choices_text (map place_of (take (i + 1) cs))
  choice_more old out new e f = before old out new (choices_text (map place_of (take i cs))) (choice_text (place_of (get_or cs i d))) e f ∙ ap (λ t. old ++ t) (sym lines_more)
