-- Steps, one after the other.
use Rattle.std.proofs.Common.{ℕ, zero, suc, ◌≡◌, ◌+◌, ◌*◌, ◌≤◌, ◌⊎◌, inl, inr, refl, sym, ◌∙◌, ap, subst, arith, List, [], ◌∷◌, ◌++◌, length, take, Option, append_assoc, append-nil}
use Rattle.pict_core.specs.Term.{Process}
use Rattle.pict_core.specs.Closed.{IsClosed}
use Rattle.pict_core.specs.Configuration.{Entry, Configuration, IsConfiguration, opening}
use Rattle.pict_core.specs.Step.{Label, Steps, next}
use Rattle.pict_core.specs.Table.{Row, ends, forks, makes_channel, takes_first, takes_second, primitive_ends, primitive_answers, output_parks, output_meets_reader, output_meets_server, input_parks, reader_meets_message, server_meets_message}
use Rattle.pict_core.specs.Run.{Reaches, shown}
use Rattle.pict_core.proofs.Kept.{free_steps_keep, oldest_first_is_free}
use Rattle.pict_reference.specs.Plain.{plain_label}
use Rattle.pict_stepper.specs.declared.run.Step.{Step}
use Rattle.pict_stepper.specs.declared.run.End.{End}
use Rattle.pict_stepper.specs.declared.run.End.TheVariants as end
use Rattle.pict_stepper.specs.Told.{after_step, after_steps, shown_by}
use Rattle.pict_stepper.specs.Steps.{IsStep, LeadTo, EndsBy, Tells}
use Rattle.pict_stepper.proofs.Turns.{step_is_next}

-- a step takes at most one channel and two stamps
record Grows (C D : Configuration) : Type 0 where
  channels : D.channels ≤ C.channels + 1
  stamps : D.next_stamp ≤ C.next_stamp + 2

row_grows : (C : Configuration) (s : ℕ) (o : Option Entry) (p : Process) (D : Configuration) (label : Label) → Row C s o p D label → Grows C D
row_grows C s o p D label ends = record { channels = omega arith; stamps = omega arith }
row_grows C s o p D label forks = record { channels = omega arith; stamps = omega arith }
row_grows C s o p D label makes_channel = record { channels = omega arith; stamps = omega arith }
row_grows C s o p D label takes_first = record { channels = omega arith; stamps = omega arith }
row_grows C s o p D label takes_second = record { channels = omega arith; stamps = omega arith }
row_grows C s o p D label (primitive_ends h n) = record { channels = omega arith; stamps = omega arith }
row_grows C s o p D label (primitive_answers h n) = record { channels = omega arith; stamps = omega arith }
row_grows C s o p D label output_parks = record { channels = omega arith; stamps = omega arith }
row_grows C s o p D label (output_meets_reader h m) = record { channels = omega arith; stamps = omega arith }
row_grows C s o p D label (output_meets_server h m) = record { channels = omega arith; stamps = omega arith }
row_grows C s o p D label input_parks = record { channels = omega arith; stamps = omega arith }
row_grows C s o p D label (reader_meets_message h m) = record { channels = omega arith; stamps = omega arith }
row_grows C s o p D label (server_meets_message h m) = record { channels = omega arith; stamps = omega arith }

-- what holds after the steps
pub record Follows (p : Process) (steps : List Step) (C : Configuration) : Type 0 where
  pub leads : LeadTo (opening p) steps C
  pub told : (k : ℕ) → k ≤ length steps → Tells p (opening p).entries k (take k steps)
  pub all : after_steps (opening p).entries steps ≡ C.entries
  pub is : IsConfiguration C
  pub reaches : Reaches (length steps) (opening p) (shown_by 1 steps) C
  pub channels : C.channels ≤ length steps
  pub stamps : C.next_stamp ≤ 2 * length steps + 1

append : (C D E : Configuration) (ts : List Step) (t : Step) → LeadTo C ts D → IsStep D t E → LeadTo C (ts ++ t ∷ []) E
append C D E [] t h step = (E, subst (λ X. IsStep X t E) (sym h) step, refl)
append C D E (u ∷ us) t h step = (h.0, h.1, append h.0 D E us t h.2 step)

length_one_more : (ts : List Step) (t : Step) → length (ts ++ t ∷ []) ≡ suc (length ts)
length_one_more [] t = refl
length_one_more (u ∷ us) t = ap suc (length_one_more us t)

-- ---- what steps tell

shown_more : (n m : ℕ) (ts : List Step) (t : Step) → n + length ts ≡ m → shown_by n (ts ++ t ∷ []) ≡ shown_by n ts ++ shown m (plain_label t.label)
shown_more n m [] t h =
    let same : n ≡ m = omega (arith, h) in
    append-nil (shown n (plain_label t.label)) ∙ ap (λ k. shown k (plain_label t.label)) same
shown_more n m (u ∷ us) t h =
    let later : suc n + length us ≡ m = omega (arith, h) in
    ap (λ ls. shown n (plain_label u.label) ++ ls) (shown_more (suc n) m us t later)
    ∙ sym (append_assoc (shown n (plain_label u.label)) (shown_by (suc n) us) (shown m (plain_label t.label)))

told_more : (es : List Entry) (ts : List Step) (t : Step) → after_steps es (ts ++ t ∷ []) ≡ after_step (after_steps es ts) t
told_more es [] t = refl
told_more es (u ∷ us) t = told_more (after_step es u) us t

take_of_more : (k : ℕ) (ts : List Step) (t : Step) → k ≤ length ts → take k (ts ++ t ∷ []) ≡ take k ts
take_of_more zero ts t h = refl
take_of_more (suc k) [] t h = let no : ⊥ = omega (arith, h) in absurd no
take_of_more (suc k) (u ∷ us) t h = let below : k ≤ length us = omega (arith, h) in ap (λ xs. u ∷ xs) (take_of_more k us t below)

take_whole : (ts : List Step) → take (length ts) ts ≡ ts
take_whole [] = refl
take_whole (t ∷ ts) = ap (λ xs. t ∷ xs) (take_whole ts)

-- the last of them or an earlier one
last_or_earlier : (k n : ℕ) → k ≤ suc n → (k ≤ n) ⊎ (k ≡ suc n)
last_or_earlier zero n h = inl (omega arith)
last_or_earlier (suc k) zero h = inr (omega (arith, h))
last_or_earlier (suc k) (suc n) h =
    let below : k ≤ suc n = omega (arith, h) in
    elim (last_or_earlier k n below) [
      | inl earlier ↦ inl (omega (arith, earlier))
      | inr last ↦ inr (ap suc last)
    ]

pub one_more : (p : Process) (ts : List Step) (t : Step) (C D : Configuration) → Follows p ts C → IsStep C t D → Follows p (ts ++ t ∷ []) D
one_more p ts t C D f step =
    let e : next C ≡ Steps D (plain_label t.label) = step_is_next C D t f.is step in
    let free = oldest_first_is_free C D (plain_label t.label) f.is e in
    let grown : Grows C D = row_grows C _ _ _ D _ step.row in
    let more : length (ts ++ t ∷ []) ≡ suc (length ts) = length_one_more ts t in
    let last : 1 + length ts ≡ suc (length ts) = omega arith in
    let labels : shown_by 1 (ts ++ t ∷ []) ≡ shown_by 1 ts ++ shown (suc (length ts)) (plain_label t.label)
    = shown_more 1 (suc (length ts)) ts t last in
    let reaches : Reaches (suc (length ts)) (opening p) (shown_by 1 (ts ++ t ∷ [])) D
    = (C, shown_by 1 ts, plain_label t.label, f.reaches, e, labels) in
    let all : after_steps (opening p).entries (ts ++ t ∷ []) ≡ D.entries
    = told_more (opening p).entries ts t ∙ ap (λ es. after_step es t) f.all ∙ step.told in
    let whole : take (suc (length ts)) (ts ++ t ∷ []) ≡ ts ++ t ∷ []
    = subst (λ n. take n (ts ++ t ∷ []) ≡ ts ++ t ∷ []) more (take_whole (ts ++ t ∷ [])) in
    record {
      leads = append (opening p) C D ts t f.leads step;
      told = λ k h. let few : k ≤ suc (length ts) = subst (λ n. k ≤ n) more h in
          elim (last_or_earlier k (length ts) few) [
            | inl earlier ↦ subst (Tells p (opening p).entries k) (sym (take_of_more k ts t earlier)) (f.told k earlier)
            | inr same ↦ subst (λ n. Tells p (opening p).entries n (take n (ts ++ t ∷ []))) (sym same)
                (subst (Tells p (opening p).entries (suc (length ts))) (sym whole) (D, reaches, all))
          ];
      all = all;
      is = free_steps_keep C free.0 D (plain_label t.label) f.is free.1;
      reaches = subst (λ n. Reaches n (opening p) (shown_by 1 (ts ++ t ∷ [])) D) (sym more) reaches;
      channels = omega (arith, grown.channels, f.channels, more);
      stamps = omega (arith, grown.stamps, f.stamps, more);
    }

-- before the first step
pub none_yet : (p : Process) → IsClosed p → Follows p [] (opening p)
none_yet p closed = record {
  leads = refl;
  told = λ k h. let none : k ≡ 0 = omega (arith, h) in
      subst (λ n. Tells p (opening p).entries n (take n [])) (sym none) (opening p, (refl, refl), refl);
  all = refl;
  is = record { stamps = (omega arith, omega arith); closed = (closed, tt) };
  reaches = (refl, refl);
  channels = omega arith;
  stamps = omega arith;
}

-- the same from entries that are those of the beginning
pub tells_from : (p : Process) (es : List Entry) (steps : List Step) (C : Configuration) → Follows p steps C → es ≡ (opening p).entries
    → (k : ℕ) → k ≤ length steps → Tells p es k (take k steps)
tells_from p es steps C f same = subst (λ xs. (k : ℕ) → k ≤ length steps → Tells p xs k (take k steps)) (sym same) f.told

-- ---- where a run stands that is followed no further

-- a fact beside the one that holds where no step has ended it
pub ends_beside : (A B : Type 0) (C : Configuration) (e : End) → A → EndsBy B C e → EndsBy (A × B) C e
ends_beside A B C end.Finished a h = h
ends_beside A B C (end.Trap at) a h = h
ends_beside A B C end.GoesOn a h = (a, h)
