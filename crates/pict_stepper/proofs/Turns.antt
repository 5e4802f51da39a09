-- Who acts next, and by which row.
use Rattle.std.proofs.Common.{ℕ, Bool, false, ◌≡◌, ◌≤◌, arith, refl, sym, ap, ◌∙◌, subst, List, [], ◌∷◌, map, filter, Option, Some, None, option_map}
use Rattle.pict_core.specs.Term.{Val, Var, Chan, Int, Char, Boolean, Text, PrimitiveVal, Record}
use Rattle.pict_core.specs.Plain.{plain_core}
use Rattle.pict_core.specs.Configuration.{Configuration, IsConfiguration}
use Rattle.pict_core.specs.Configuration as plain
use Rattle.pict_core.specs.Step.{Steps, least, is_ready, is_partner, at_channel, act, next}
use Rattle.pict_core.specs.Table.{Row}
use Rattle.pict_core.proofs.Nexts.{next_acts}
use Rattle.pict_core.proofs.Tabled.{row_of, act_of}
use Rattle.pict_core.proofs.Kept.{free_steps_keep, oldest_first_is_free}
use Rattle.pict_reference.specs.Plain.{plain_entry, plain_label}
use Rattle.pict_core.specs.Step.{Label as PlainLabel}
use Rattle.pict_reference.specs.declared.outcome.Label.{Label}
use Rattle.pict_reference.specs.declared.entry.Entry.{Entry}
use Rattle.pict_stepper.specs.declared.rule.Rule.{Rule}
use Rattle.pict_stepper.specs.Rules.{rule_of_row}
use Rattle.pict_stepper.specs.declared.run.Turn.{Turn}
use Rattle.pict_stepper.specs.declared.run.Step.{Step}
use Rattle.pict_stepper.specs.Steps.{channel_number, IsStep, IsStepOf, IsTurn, Acts}
use Rattle.pict_stepper.specs.Told.{stamp_of, put_all, after_step}
use Rattle.pict_stepper.specs.Touched.{is_touched}
use Rattle.pict_stepper.proofs.Touched.{is_other, keeping, others_stay}
use Rattle.pict_stepper.proofs.Putting.{stays, put_together, none_is_new}

-- nobody passes a test that is never passed
pub least_of_none : (es : List plain.Entry) → least (λ e. false) es ≡ None
least_of_none [] = refl
least_of_none (e ∷ es) = least_of_none es

-- who is parked at a value: at a channel those of its number, elsewhere nobody
pub least_elsewhere : (test : ℕ → plain.Entry → Bool) (v : Val) (es : List plain.Entry) → None ≡ channel_number v → None ≡ least (at_channel test v) es
least_elsewhere test (Chan c) es h = cc
least_elsewhere test (Var x) es h = sym (least_of_none es)
least_elsewhere test (Int x) es h = sym (least_of_none es)
least_elsewhere test (Char x) es h = sym (least_of_none es)
least_elsewhere test (Boolean x) es h = sym (least_of_none es)
least_elsewhere test (Text x) es h = sym (least_of_none es)
least_elsewhere test (PrimitiveVal x) es h = sym (least_of_none es)
least_elsewhere test (Record x y) es h = sym (least_of_none es)

pub least_there : (test : ℕ → plain.Entry → Bool) (v : Val) (c : ℕ) (es : List plain.Entry) → Some c ≡ channel_number v → least (test c) es ≡ least (at_channel test v) es
least_there test (Chan n) c es h = let same : c ≡ n = cc in ap (λ k. least (test k) es) same
least_there test (Var x) c es h = cc
least_there test (Int x) c es h = cc
least_there test (Char x) c es h = cc
least_there test (Boolean x) c es h = cc
least_there test (Text x) c es h = cc
least_there test (PrimitiveVal x) c es h = cc
least_there test (Record x y) c es h = cc

-- copies of the process and of its partner act as these do
pub acts_copied : (es : List plain.Entry) (a b : Entry) (p : Option Entry) (o : Option plain.Entry) (r : Rule)
    → Some (plain_entry a) ≡ least is_ready es → plain_entry b ≡ plain_entry a → o ≡ least (is_partner (plain_core a.process)) es → option_map plain_entry p ≡ o
    → ((C D : Configuration) (s : ℕ) (label : PlainLabel) (row : Row C s o (plain_core a.process) D label) → r ≡ rule_of_row row)
    → Acts es (record { actor = b; partner = p; rule = r })
acts_copied es a b p o r ready copy partner copies rule =
    let process : plain_core b.process ≡ plain_core a.process = ap (λ (e : plain.Entry). e.process) copy in
    record {
      actor = sym ready ∙ ap Some (sym copy);
      partner = copies ∙ partner ∙ ap (λ q. least (is_partner q) es) (sym process);
      rule = λ C D s label.
          subst (λ q. (row : Row C s (option_map plain_entry p) q D label) → r ≡ rule_of_row row) (sym process)
          (subst (λ x. (row : Row C s x (plain_core a.process) D label) → r ≡ rule_of_row row) (sym copies) (rule C D s label));
    }

-- the next step is what the process does whose turn it is
acts_by : (C : Configuration) (t : Turn) → IsConfiguration C → Acts C.entries t → next C ≡ act C t.actor.stamp (option_map plain_entry t.partner) (plain_core t.actor.process)
acts_by C t is a = next_acts C is (plain_entry t.actor) a.actor ∙ ap (λ o. act C t.actor.stamp o (plain_core t.actor.process)) (sym a.partner)

-- who comes by a turn, of those who are there afterwards
abbrev pub come_of : ℕ → Turn → List plain.Entry → List plain.Entry
come_of from t after = filter (λ e. is_touched from t.actor.stamp (stamp_of (option_map plain_entry t.partner)) e.stamp) after

abbrev pub step_by_turn : Turn → Label → Step → Step
step_by_turn t label step = record { actor = t.actor; partner = t.partner; rule = t.rule; label = label; come = step.come }

-- who is there afterwards, of a step by a row of the table
told_by : (C D : Configuration) (t : Turn) (label : Label) (step : Step) → IsConfiguration C → IsConfiguration D
    → Row C t.actor.stamp (option_map plain_entry t.partner) (plain_core t.actor.process) D (plain_label label)
    → map plain_entry step.come.items ≡ come_of C.next_stamp t D.entries
    → after_step C.entries (step_by_turn t label step) ≡ D.entries
told_by C D t label step is after row come =
    let n = C.next_stamp in
    let s = t.actor.stamp in
    let r = stamp_of (option_map plain_entry t.partner) in
    let same : n ≤ n = omega arith in
    let others : keeping (is_other n s r) D.entries ≡ keeping (is_other n s r) C.entries
    = others_stay n C s (option_map plain_entry t.partner) (plain_core t.actor.process) D (plain_label label) same row in
    let stay : keeping (stays s r) C.entries ≡ keeping (is_other n s r) D.entries
    = sym (none_is_new n s r 0 C.entries is.stamps) ∙ sym others in
    ap (λ xs. put_all xs (keeping (stays s r) C.entries)) come
    ∙ ap (λ ys. put_all (come_of n t D.entries) ys) stay
    ∙ put_together (is_touched n s r) 0 D.next_stamp D.entries after.stamps

taken : (C D : Configuration) (t : Turn) (label : Label) (step : Step) → IsConfiguration C → Acts C.entries t → next C ≡ Steps D (plain_label label)
    → map plain_entry step.come.items ≡ come_of C.next_stamp t D.entries → IsStep C (step_by_turn t label step) D
taken C D t label step is a e come =
    let row : Row C t.actor.stamp (option_map plain_entry t.partner) (plain_core t.actor.process) D (plain_label label)
    = row_of C t.actor.stamp (option_map plain_entry t.partner) (plain_core t.actor.process) D (plain_label label) (sym (acts_by C t is a) ∙ e) in
    let free = oldest_first_is_free C D (plain_label label) is e in
    let after : IsConfiguration D = free_steps_keep C free.0 D (plain_label label) is free.1 in
    record {
      actor = a.actor;
      partner = a.partner;
      row = row;
      rule = a.rule C D t.actor.stamp (plain_label label) row;
      told = told_by C D t label step is after row come;
    }

pub turn_taken : (C D : Configuration) (es fs : List plain.Entry) (t : Turn) (label : Label) (from : ℕ) (step : Step) → es ≡ C.entries → fs ≡ D.entries
    → from ≡ C.next_stamp → IsTurn es (Some t) → IsConfiguration C → next C ≡ Steps D (plain_label label) → IsStepOf t label from fs step → IsStep C step D
turn_taken C D es fs t label from step before after n a is e of =
    subst (λ x. IsStep C x D) (sym of.made)
    (taken C D t label step is (subst (λ xs. Acts xs t) before a) e
    (subst (λ k. map plain_entry step.come.items ≡ come_of k t D.entries) n
    (subst (λ xs. map plain_entry step.come.items ≡ come_of from t xs) after of.come)))

-- a step of the table is the oldest-first one
pub step_is_next : (C D : Configuration) (t : Step) → IsConfiguration C → IsStep C t D → next C ≡ Steps D (plain_label t.label)
step_is_next C D t is h =
    next_acts C is (plain_entry t.actor) h.actor ∙ ap (λ o. act C t.actor.stamp o (plain_core t.actor.process)) (sym h.partner)
    ∙ act_of C t.actor.stamp (option_map plain_entry t.partner) (plain_core t.actor.process) D (plain_label t.label) h.row
