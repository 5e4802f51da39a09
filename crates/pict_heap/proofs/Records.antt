-- The word of a record stands for a record.
use Rattle.std.proofs.Common.{ℕ, ◌<◌, ◌≤◌, ◌≡◌, List, [], ◌∷◌, length, refl, ⊎_elim}
use Rattle.std.proofs.lemmas.Bool.{cases_lt}
use Rattle.std.proofs.lemmas.List.{get_or_past}
use Rattle.std.proofs.lemmas.List.Elements.{All-nil, All-push}
use Rattle.std.specs.List.{All, fold, slice_index_or}
use Rattle.pict_core.specs.Term as term
use Rattle.pict_core.specs.Term.{Val, Vals, Labelled}
use Rattle.pict_heap.specs.HeapState.{HeapState, RecordState, record_value, more_values, heap_values, value_of}
use Rattle.pict_heap.specs.declared.word.Word.TheVariants as word

abbrev IsRecord : Val → Type 0
IsRecord v = (vs : Vals) × (ls : Labelled) × (v ≡ term.Record vs ls)

values_are : (texts : List (List ℕ)) (rs : List RecordState) (values : List Val) → All IsRecord values → All IsRecord (fold (more_values texts) values rs)
values_are texts [] values all = all
values_are texts (r ∷ rs) values all = values_are texts rs (more_values texts values r) (All-push IsRecord values (record_value texts values r) all (_, _, refl))

record_at : (vs : List Val) (i : ℕ) → All IsRecord vs → IsRecord (slice_index_or vs i (term.Record term.no_vals term.no_labelled))
record_at vs i all = ⊎_elim
    (λ (low : i < length vs). all i (term.Record term.no_vals term.no_labelled) low)
    (λ (past : length vs ≤ i). (term.no_vals, term.no_labelled, get_or_past vs i (term.Record term.no_vals term.no_labelled) past))
    (cases_lt i (length vs))

pub record_is : (h : HeapState) (number : ℕ) → (vs : Vals) × (ls : Labelled) × (value_of h (word.Fields number) ≡ term.Record vs ls)
record_is h number = record_at (heap_values h.texts h.records) number (values_are h.texts h.records [] (All-nil IsRecord))
