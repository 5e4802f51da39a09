-- What decoding answers, by what its parts answer.
use Rattle.std.proofs.Common.{◌≡◌, ℕ, List, ◌++◌, inr, length, take, drop, Some, None, Result, Ok, Err, refl, sym, ap, subst, ◌∙◌, append_assoc}
use Rattle.std.specs.Prelude.{IfOk}
use Rattle.std.specs.Borrow.{Bor}
use Rattle.std.specs.List.{flat_map}
use Rattle.std.proofs.lemmas.List.{drop_at}
use Rattle.pict_syntax.specs.declared.name.Name.{Name}
use Rattle.pict_syntax.specs.Names.{with_names}
use Rattle.pict_core.specs.declared.process.Core.{Core}
use Rattle.pict_core.specs.Plain.{plain_core}
use Rattle.pict_object.specs.declared.error.DecodeError.{DecodeError}
use Rattle.pict_object.specs.declared.error.DecodeError.TheVariants as error
use Rattle.pict_object.specs.Objects.{count_bytes, text_bytes, header}
use Rattle.pict_object.specs.Reading.{GivesReading, whole_at}
use Rattle.pict_object.specs.Decoded.{IsDecoded, GainsLabels}
use Rattle.pict_object.specs.Heads.{lent, IsHead, UsesLabels, AreNumbered}
use Rattle.pict_object.proofs.Fronts.{IsBytes, IsBytes-drop}
use Rattle.pict_object.proofs.Decoded.{decoded, read_at_last, gained}

-- what is behind the head of bytes are bytes
pub behind_head : (bytes rest : List ℕ) (table : List (List ℕ)) → IsBytes bytes → IsHead bytes table rest → IsBytes rest
behind_head bytes rest table fits head =
    let front : List ℕ = header ++ (count_bytes (length table) ++ flat_map text_bytes table) in
    let parts : bytes ≡ front ++ rest = head.is ∙ ap (λ z. header ++ z) (sym (append_assoc (count_bytes (length table)) (flat_map text_bytes table) rest)) in
    subst IsBytes (ap (drop (length front)) parts ∙ drop_at front rest (length front) refl) (IsBytes-drop (length front) bytes fits)

-- the process is read with the labels' numbers
pub decoded_as : (old new table : List (List ℕ)) (labels lent_labels : List Name) (bytes rest : List ℕ) (result : Result Core DecodeError) → lent_labels ≡ labels → IsBytes rest → IsHead bytes table rest → UsesLabels (length table) rest
    → AreNumbered old new table labels → GivesReading (λ core. plain_core core) result (whole_at lent_labels rest) → IfOk result (λ core. IsDecoded old new bytes (plain_core core))
decoded_as old new table labels lent_labels bytes rest (Err e) same fits head used numbered read = tt
decoded_as old new table labels lent_labels bytes rest (Ok core) same fits head used numbered read =
    decoded old new table labels bytes rest fits head used numbered (plain_core core) (subst (λ ls. whole_at ls rest ≡ Some (plain_core core)) same read)

-- and it isn't refused then
pub never_refused : (old new table : List (List ℕ)) (labels lent_labels : List Name) (bytes rest : List ℕ) (result : Result Core DecodeError) → lent_labels ≡ labels → IsBytes rest → IsHead bytes table rest → UsesLabels (length table) rest
    → AreNumbered old new table labels → GivesReading (λ core. plain_core core) result (whole_at lent_labels rest) → result ≡ Err error.NotObject → ⊥
never_refused old new table labels lent_labels bytes rest (Ok core) same fits head used numbered read e = cc
never_refused old new table labels lent_labels bytes rest (Err error.Memory) same fits head used numbered read e = cc
never_refused old new table labels lent_labels bytes rest (Err error.NotObject) same fits head used numbered read e =
    read_at_last old new table labels bytes rest fits head used numbered (subst (λ ls. whole_at ls rest ≡ None) same read)

-- the names have gained labels of its table
pub gains : (old new : List (List ℕ)) (texts seen : List (Bor (List ℕ))) (bytes rest : List ℕ) → seen ≡ texts → IsBytes rest → IsHead bytes (lent texts) rest → UsesLabels (length (lent texts)) rest
    → (count : ℕ) × (new ≡ with_names old (take count (lent seen))) → GainsLabels bytes old new
gains old new texts seen bytes rest same fits head used (count, e) = inr (gained old new (lent texts) bytes rest count fits head used (e ∙ ap (λ xs. with_names old (take count (lent xs))) same))
