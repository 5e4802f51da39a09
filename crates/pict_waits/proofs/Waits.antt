-- Those who wait, one entry more at a time.
use Rattle.std.proofs.Common.{◌≡◌, ℕ, ◌+◌, ◌<◌, List, [], ◌∷◌, ◌++◌, take, length, get_or, map, sym, ap, ◌∙◌, append-nil}
use Rattle.std.proofs.lemmas.List.{take_more, map-append}
use Rattle.std.proofs.lemmas.Grind.{flat_map-append}
use Rattle.pict_reference.specs.Plain.{plain_entry}
use Rattle.pict_reference.specs.declared.entry.Entry.{Entry}
use Rattle.pict_waits.specs.Waiting.{waiting_by, waits_of}

pub next_waits : (es : List Entry) (i : ℕ) (e : Entry) → i < length es → e ≡ get_or es i e
    → waits_of (map plain_entry (take (i + 1) es)) ≡ waits_of (map plain_entry (take i es)) ++ waiting_by (plain_entry e)
next_waits es i e within is =
    ap (λ l. waits_of (map plain_entry l)) (take_more es i e within ∙ ap (λ y. take i es ++ y ∷ []) (sym is))
    ∙ ap waits_of (map-append plain_entry (take i es) (e ∷ []))
    ∙ flat_map-append waiting_by (map plain_entry (take i es)) (plain_entry e ∷ [])
    ∙ ap (λ ws. waits_of (map plain_entry (take i es)) ++ ws) (append-nil (waiting_by (plain_entry e)))
