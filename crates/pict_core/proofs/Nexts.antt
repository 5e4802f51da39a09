-- The oldest-first step is what the least ready entry does with its least partner.
use Rattle.std.proofs.Common.{◌≡◌, refl, ap, ◌∙◌, Option, Some, None, option_map, option_and_then}
use Rattle.pict_core.specs.Configuration.{Entry, Configuration, IsConfiguration}
use Rattle.pict_core.specs.Step.{Finished, least, entry_at, is_ready, is_partner, act, act_entry, Choice, step_by, next}
use Rattle.pict_core.proofs.Stamps.{least_stands}

partner_found : (C : Configuration) → IsConfiguration C → (e : Entry) (o : Option Entry) → least (is_partner e.process) C.entries ≡ o → option_and_then (λ r. entry_at r C.entries) (option_map (λ (u : Entry). u.stamp) o) ≡ o
partner_found C is e None h = refl
partner_found C is e (Some u) h = least_stands (is_partner e.process) 0 C.entries C.next_stamp u is.stamps h

choice_of : (C : Configuration) → Option Entry → Option Choice
choice_of C o = option_map (λ (e : Entry). record { acting = e.stamp; partner = option_map (λ (u : Entry). u.stamp) (least (is_partner e.process) C.entries) }) o

pub next_acts : (C : Configuration) → IsConfiguration C → (e : Entry) → least is_ready C.entries ≡ Some e → next C ≡ act C e.stamp (least (is_partner e.process) C.entries) e.process
unfolding choice_of
next_acts C is e h =
    ap (λ o. step_by C (choice_of C o)) h
    ∙ ap (λ a. act_entry C a (option_and_then (λ r. entry_at r C.entries) (option_map (λ (u : Entry). u.stamp) (least (is_partner e.process) C.entries)))) (least_stands is_ready 0 C.entries C.next_stamp e is.stamps h)
    ∙ ap (act_entry C (Some e)) (partner_found C is e (least (is_partner e.process) C.entries) refl)

pub next_finished : (C : Configuration) → least is_ready C.entries ≡ None → next C ≡ Finished
unfolding choice_of
next_finished C h = ap (λ o. step_by C (choice_of C o)) h
