-- The headline over the texts of a call and two empty pages, and what was copied out of these.
use Rattle.std.proofs.Common.{◌≡◌, ◌≤◌, ◌⊎◌, ℕ, List, [], ◌++◌, length, take, Some, refl, sym, ◌∙◌, subst, ap, inl, inr}
use Rattle.pict_outside.specs.Bytes.{IsFrontOf}
use Rattle.pict_outside.specs.Counts.{Rose}
use Rattle.pict_outside.specs.Texts.{Texts, texts_of}
use Rattle.pict_top.specs.Changes.{SinkChange, Untouched, GainedFront, FailedWithin, change_of}
use Rattle.pict_top.specs.Headline.{Headline, shelf_change}
use Rattle.pict_top.specs.Meets.{SomeOutcome, Breaks}
use Rattle.pict_top.specs.Numbers.{number_of}
use Rattle.pict_top.specs.Outcome.{Outcome}
use Rattle.pict_top.specs.Owed.{OwesWords, FaultsWords}
use Rattle.pict_top.specs.declared.status.Status.{Status}
use Rattle.pict_top.specs.declared.status.Status.TheVariants.{ReadFault, WriteFault, Memory}
use Rattle.pict_web.specs.Held.{BundleState, PageState, page_faults}
use Rattle.pict_web.specs.Delivered.{IsDelivered, IsInBuffers, IsAnswered}
use Rattle.pict_web.proofs.Filling.{never_fails, full_by}

-- the change of a sink that was empty
abbrev fresh : ℕ → ℕ → List ℕ → SinkChange
fresh old new taken = record { old_taken = Some []; new_taken = Some taken; old_faults = old; new_faults = new }

front_of : (taken : List ℕ) (old new : ℕ) (o : Outcome) → GainedFront (fresh old new taken) o.printed → IsFrontOf taken o.printed
front_of taken old new o gained = record { rest = gained.of_whole.rest; joined = ap (λ l. l ++ gained.of_whole.rest) gained.appended ∙ gained.of_whole.joined }

beginning_of : (Owes : Outcome → Type 0) (taken : List ℕ) (old new : ℕ)
    → Untouched (fresh old new taken) ⊎ SomeOutcome Owes (λ o. GainedFront (fresh old new taken) o.printed)
    → (taken ≡ []) ⊎ SomeOutcome Owes (λ o. IsFrontOf taken o.printed)
beginning_of Owes taken old new (inl nothing) = inl nothing
beginning_of Owes taken old new (inr some) = inr (some.0, some.1, front_of taken old new some.0 some.2)

-- a page that failed has no room left
full_of : (words : List (List ℕ)) (texts : Texts) (misses new_misses : ℕ) (out err : PageState) (old old_err : ℕ) (status : Status)
    → Headline words (record { held = Some texts; old_faults = 0; new_faults = 0; old_misses = misses; new_misses = new_misses })
    (fresh old (page_faults out) out.taken) (fresh old_err (page_faults err) err.taken) status
    → status ≡ WriteFault → (out.room ≤ length out.taken) ⊎ (err.room ≤ length err.taken)
full_of words texts misses new_misses out err old old_err status headline is = go (headline.write_fault is)
  where
    broken : (o : Outcome) → Breaks (fresh old (page_faults out) out.taken) (fresh old_err (page_faults err) err.taken) o
        → (out.room ≤ length out.taken) ⊎ (err.room ≤ length err.taken)
    broken o (inl f) = inl (full_by old out f.0.failed)
    broken o (inr f) = inr (full_by old_err err f.1.failed)

    go : SomeOutcome (OwesWords words (Some texts)) (Breaks (fresh old (page_faults out) out.taken) (fresh old_err (page_faults err) err.taken))
        ⊎ (Rose 0 0 × SomeOutcome (FaultsWords words (Some texts)) (λ o. Untouched (fresh old (page_faults out) out.taken)
        × FailedWithin (fresh old_err (page_faults err) err.taken) o.report))
        → (out.room ≤ length out.taken) ⊎ (err.room ≤ length err.taken)
    go (inl some) = broken some.0 some.2
    go (inr faults) = absurd (never_fails faults.0)

-- the headline over texts that don't fail and two empty pages
of_empty_pages : (words : List (List ℕ)) (texts : Texts) (misses new_misses : ℕ) (out err : PageState) (old old_err : ℕ) (status : Status)
    → Headline words (record { held = Some texts; old_faults = 0; new_faults = 0; old_misses = misses; new_misses = new_misses })
    (fresh old (page_faults out) out.taken) (fresh old_err (page_faults err) err.taken) status
    → IsDelivered words texts status out.room out.taken err.room err.taken
of_empty_pages words texts misses new_misses out err old old_err status headline = record {
  decided = λ is. let m = headline.decided is in (m.0, m.1, (m.2.0, m.2.1.printed, m.2.1.reported));
  beginning = beginning_of (OwesWords words (Some texts)) out.taken old (page_faults out) headline.printed;
  read = λ is. let f = headline.read_fault is in never_fails f.0;
  full = full_of words texts misses new_misses out err old old_err status headline;
}

-- the headline over these texts, and two pages that had taken nothing
pub delivered : (words : List (List ℕ)) (pairs : List (List ℕ × List ℕ)) (shelf new_shelf : BundleState) (out new_out err new_err : PageState) (status : Status)
    (room report_room : ℕ)
    → shelf.pairs ≡ pairs → out.taken ≡ [] → err.taken ≡ [] → new_out.room ≡ room → new_err.room ≡ report_room
    → Headline words (shelf_change (λ s. Some (texts_of s.pairs)) (λ _. 0) (λ s. s.misses) shelf new_shelf)
    (change_of (λ s. Some s.taken) page_faults out new_out) (change_of (λ s. Some s.taken) page_faults err new_err) status
    → IsDelivered words (texts_of pairs) status room new_out.taken report_room new_err.taken
delivered words pairs shelf new_shelf out new_out err new_err status room report_room of_shelf of_out of_err of_room of_report_room headline =
    let Stands : List (List ℕ × List ℕ) → List ℕ → List ℕ → Type 0 =
    λ p o e. Headline words (record { held = Some (texts_of p); old_faults = 0; new_faults = 0; old_misses = shelf.misses; new_misses = new_shelf.misses })
    (record { old_taken = Some o; new_taken = Some new_out.taken; old_faults = page_faults out; new_faults = page_faults new_out })
    (record { old_taken = Some e; new_taken = Some new_err.taken; old_faults = page_faults err; new_faults = page_faults new_err }) status in
    subst (λ r. IsDelivered words (texts_of pairs) status r new_out.taken report_room new_err.taken) of_room
    (subst (λ r. IsDelivered words (texts_of pairs) status new_out.room new_out.taken r new_err.taken) of_report_room
    (of_empty_pages words (texts_of pairs) shelf.misses new_shelf.misses new_out new_err (page_faults out) (page_faults err) status
    (subst (λ p. Stands p [] []) of_shelf (subst (λ o. Stands shelf.pairs o []) of_out (subst (λ e. Stands shelf.pairs out.taken e) of_err headline)))))

-- what both pages have taken stands at the beginning of the buffers
pub moved : (words : List (List ℕ)) (texts : Texts) (status : Status) (room report_room : ℕ) (printed reported out err : List ℕ)
    → room ≡ length out → report_room ≡ length err → take (length printed) out ≡ printed → take (length reported) err ≡ reported
    → IsDelivered words texts status room printed report_room reported → IsInBuffers words texts status out (length printed) err (length reported)
moved words texts status room report_room printed reported out err of_room of_report_room of_out of_err is =
    subst (λ x. IsDelivered words texts status (length out) x (length err) (take (length reported) err)) (sym of_out)
    (subst (λ x. IsDelivered words texts status (length out) printed (length err) x) (sym of_err)
    (subst (λ r. IsDelivered words texts status r printed (length err) reported) of_room
    (subst (λ r. IsDelivered words texts status room printed r reported) of_report_room is)))

pub answered : (words : List (List ℕ)) (texts : Texts) (status : Status) (out err : List ℕ) (printed reported : ℕ)
    → IsInBuffers words texts status out printed err reported → IsAnswered words texts (number_of status) out printed err reported
answered words texts status out err printed reported is = (status, refl, is)

-- want of memory, with nothing in the buffers
pub nothing : (words : List (List ℕ)) (texts : Texts) (number : ℕ) (out err : List ℕ) → number ≡ number_of Memory → IsAnswered words texts number out 0 err 0
nothing words texts number out err is = (Memory, is, record { decided = λ impossible. absurd impossible; beginning = inl refl; read = λ e. cc; full = λ e. (let never : ⊥ = cc in absurd never) })
