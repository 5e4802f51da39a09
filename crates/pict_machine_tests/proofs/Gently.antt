-- No free run of a gentle process is wrong.
use Rattle.std.proofs.Common.{ℕ, zero, suc, ◌+◌, ◌-◌, ◌<◌, ◌≡◌, nat_lt, nat_eq, Bool, true, false, ◌&&◌, List, [], ◌∷◌, ◌++◌, map, length, Option, Some, None, slice_get, unwrap_or, option_and_then, if◌then◌else◌, sym, subst, arith, rules}
use Rattle.pict_core.specs.Term.{Val, Var, Chan, Int, Char, Boolean, Text, PrimitiveVal, Record, Process, Zero, Par, New, Out, In, Any}
use Rattle.pict_core.specs.Closed.{IsClosed, IsUnder}
use Rattle.pict_core.specs.Substitution.{replace_value, substitution, substitute}
use Rattle.pict_core.specs.Configuration.{Mark, Ready, Parked, Entry, Configuration, IsConfiguration, opening}
use Rattle.pict_core.specs.Step as step
use Rattle.pict_core.specs.Step.{StepOutcome, Steps, Traps, Wrong, Finished, gone, kept, added, with_process, with_channel, served, took, meet_reader, meet_message, act, act_entry, entry_at, is_partner, NamesPartner, Choice, IsChoice, free_step}
use Rattle.pict_core.proofs.Stamps.{EntryClosed, least_closed}
use Rattle.pict_core.proofs.Entries.{Each, each_without, each_added, each_found}
use Rattle.pict_reduction.specs.Reduction.{IsName, variable, channel}
use Rattle.pict_reduction.specs.Reached.{FreelyReaches, NoFreeRunIsWrong, at_start, by_step}
use Rattle.pict_reduction.proofs.Apart.{opening_reached, freely_reached}
use Rattle.pict_syntax.specs.declared.span.Span.{Span}
use Rattle.pict_core.specs.Closed.{IsOver}
use Rattle.pict_core.specs.Plain.{plain_val, plain_pat}
use Rattle.pict_core.specs.declared.pattern.CorePat.{the_lemmas as pattern_lemmas}
use Rattle.pict_core.specs.declared.pattern.CorePat.TheVariants as pattern
use Rattle.pict_core.specs.declared.value.CoreVal.{the_lemmas}
use Rattle.pict_core.specs.declared.value.CoreVal.TheVariants as value
use Rattle.pict_machine_tests.specs.Gentle.{IsGentleOver, IsGentle, ends, both, opens, sends, reads}

-- ---- substitution of channels

name_or : (b : Bool) (level : ℕ) (v : Val) → IsName v → IsName (if b then Var level else v)
name_or true level v h = variable
name_or false level v h = h

AreNames : List Val → Type 0
AreNames [] = Unit {0}
AreNames (v ∷ vs) = IsName v × AreNames vs

name_at : (vs : List Val) (i : ℕ) (d : Val) → AreNames vs → IsName d → IsName (unwrap_or (slice_get vs i) d)
unfolding AreNames
name_at [] i d h k = k
name_at (v ∷ vs) zero d h k = h.0
name_at (v ∷ vs) (suc i) d h k = name_at vs i d h.1 k

module _ (m : ℕ) (vs : List Val) (names : AreNames vs) where
  name_of : (v : Val) → IsName v → IsName (replace_value (substitution m vs) v)
  name_of (Var level) (variable) = name_or (nat_lt level m) level _ (name_at vs (level - m) (Var (level - length vs)) names variable)
  name_of (Chan number) (channel) = channel
  name_of (Int i) h = elim h [ ]
  name_of (Char byte) h = elim h [ ]
  name_of (Boolean b) h = elim h [ ]
  name_of (Text bytes) h = elim h [ ]
  name_of (PrimitiveVal p) h = elim h [ ]
  name_of (Record vs ls) h = elim h [ ]

  gentle_still : (p : Process) → IsGentle p → IsGentle (substitute m vs p)
  gentle_still p ends = ends
  gentle_still p (both {p = a} {q = b} g h) = both (gentle_still a g) (gentle_still b h)
  gentle_still p (opens {p = a} g) = opens (gentle_still a g)
  gentle_still p (sends {chan = v} k) = sends (name_of v k)
  gentle_still p (reads {chan = v} k) = reads (name_of v k)

-- ---- configurations

abbrev IsGentleAt : Entry → Type 0
IsGentleAt e = IsGentle e.process

abbrev AreGentle : Configuration → Type 0
AreGentle C = Each IsGentleAt C.entries

with_cons : (s : ℕ) (p : Process) (e : Entry) (b : Bool) → IsGentle p → IsGentle e.process → IsGentle (if b then record e { process = p } else e).process
with_cons s p e true g h = g
with_cons s p e false g h = h

with_each : (s : ℕ) (p : Process) (es : List Entry) → IsGentle p → Each IsGentleAt es → Each IsGentleAt (map (with_process s p) es)
with_each s p [] g h = tt
with_each s p (e ∷ es) g h = (with_cons s p e (nat_eq s e.stamp) g h.0, with_each s p es g h.1)

module _ (C : Configuration) (all : AreGentle C) where
  gone_gentle : (s : ℕ) → AreGentle (gone s C)
  gone_gentle s = each_without IsGentleAt s C.entries all

  kept_gentle : (s : ℕ) (p : Process) → IsGentle p → AreGentle (kept s p C)
  kept_gentle s p g = with_each s p C.entries g all

  added_gentle : (mark : Mark) (p : Process) → IsGentle p → AreGentle (added mark p C)
  added_gentle mark p g = each_added IsGentleAt C.entries (record { stamp = C.next_stamp; mark = mark; process = p }) all g

served_gentle : (b : Bool) (p : Process) (C : Configuration) → IsGentle p → AreGentle C → AreGentle (served b p C)
served_gentle true p C g all = added_gentle C all Parked p g
served_gentle false p C g all = all

took_gentle : (b : Bool) (s : ℕ) (C : Configuration) → AreGentle C → AreGentle (took b s C)
took_gentle true s C all = all
took_gentle false s C all = gone_gentle C all s

-- ---- steps

-- it isn't wrong, and what it leads to is gentle
abbrev IsFine : StepOutcome → Type 0
IsFine (Steps D label) = AreGentle D
IsFine (Traps at) = Unit {0}
IsFine Wrong = ⊥
IsFine Finished = Unit {0}

abbrev IsFit : Process → Option Entry → Type 0
IsFit p None = Unit {0}
IsFit p (Some u) = IsGentle u.process × (is_partner p u ≡ true)

module _ (C : Configuration) (all : AreGentle C) (s : ℕ) where
  meets_reader : (c : ℕ) (message : Val) (r : ℕ) (q : Process) → IsGentle q → step.reads c q ≡ true → IsFine (meet_reader C s c message r q)
  meets_reader c message r q ends e = cc
  meets_reader c message r q (both g h) e = cc
  meets_reader c message r q (opens g) e = cc
  meets_reader c message r q (sends k) e = cc
  meets_reader c message r q (reads {chan = v} {replicated = b} k) e =
      let one = gone_gentle C all s in
      let two = gone_gentle (gone s C) one r in
      served_gentle b (In v b Any Zero) (added Ready Zero (gone r (gone s C))) (reads k) (added_gentle (gone r (gone s C)) two Ready Zero ends)

  meets_message : (c : ℕ) (b : Bool) (r : ℕ) (q : Process) → IsGentle q → step.sends c q ≡ true → IsFine (meet_message C s c b Any Zero r q)
  meets_message c b r q ends e = cc
  meets_message c b r q (both g h) e = cc
  meets_message c b r q (opens g) e = cc
  meets_message c b r q (reads k) e = cc
  meets_message c b r q (sends k) e = added_gentle (gone r (took b s C)) (gone_gentle (took b s C) (took_gentle b s C all) r) Ready Zero ends

  both_true : (a b : Bool) → a && b ≡ true → b ≡ true
  both_true true b e = e
  both_true false b e = cc

  fine : (p : Process) → IsGentle p → IsUnder 0 C.channels p → (partner : Option Entry) → IsFit p partner → IsFine (act C s partner p)
  fine p ends u partner f = gone_gentle C all s
  fine p (both {p = a} {q = b} g h) u partner f = added_gentle (kept s a C) (kept_gentle C all s a g) Ready b h
  fine p (opens {p = a} g) u partner f =
      kept_gentle (with_channel C) all s (substitute 0 (Chan C.channels ∷ []) a) (gentle_still 0 (Chan C.channels ∷ []) (unfold AreNames in (channel, tt)) a g)
  fine p (sends {chan = v} {message = m} {at = at} variable) u partner f = absurd (let l = u.0 in omega (arith, l))
  fine p (sends {chan = Chan c} {message = m} {at = at} channel) u None f = added_gentle (gone s C) (gone_gentle C all s) Parked (Out (Chan c) m at) (sends channel)
  fine p (sends {chan = Chan c} {message = m} {at = at} channel) u (Some q) f = meets_reader c m q.stamp q.process f.0 (both_true _ (step.reads c q.process) f.1)
  fine p (reads {chan = v} {replicated = b} variable) u partner f = absurd (let l = u.0 in omega (arith, l))
  fine p (reads {chan = Chan c} {replicated = b} channel) u None f = added_gentle (gone s C) (gone_gentle C all s) Parked (In (Chan c) b Any Zero) (reads channel)
  fine p (reads {chan = Chan c} {replicated = b} channel) u (Some q) f = meets_message c b q.stamp q.process f.0 (both_true _ (step.sends c q.process) f.1)

module _ (C : Configuration) (is : IsConfiguration C) (all : AreGentle C) where
  at_choice : (acting : ℕ) (o : Option ℕ) (a : Entry) → entry_at acting C.entries ≡ Some a → NamesPartner C.entries a.process o
      → IsFine (act_entry C (entry_at acting C.entries) (option_and_then (λ r. entry_at r C.entries) o))
  at_choice acting o a e n =
      let g : IsGentle a.process = each_found IsGentleAt _ C.entries a all e in
      let u : IsUnder 0 C.channels a.process = subst (EntryClosed C.channels) e (least_closed C.channels _ C.entries is.closed) in
      subst (λ x. IsFine (act_entry C x (option_and_then (λ r. entry_at r C.entries) o))) (sym e) (by o n g u)
    where
      by : (o : Option ℕ) → NamesPartner C.entries a.process o → IsGentle a.process → IsUnder 0 C.channels a.process → IsFine (act_entry C (Some a) (option_and_then (λ r. entry_at r C.entries) o))
      by None n g u = fine C all a.stamp a.process g u None tt
      by (Some r) (q, f, h) g u = subst (λ x. IsFine (act_entry C (Some a) x)) (sym f) (fine C all a.stamp a.process g u (Some q) (each_found IsGentleAt _ C.entries q all f, h))

  fine_choice : (choice : Choice) → IsChoice C choice → IsFine (free_step C choice)
  fine_choice choice c = at_choice choice.acting choice.partner c.actor c.stands c.partner

module _ (p : Process) (closed : IsClosed p) (gentle : IsGentle p) where
  still_gentle : (C : Configuration) → FreelyReaches (opening p) C → AreGentle C
  still_gentle C at_start = (gentle, tt)
  still_gentle C (by_step {D = D} {choice = choice} before free) =
      subst IsFine free.steps (fine_choice D (freely_reached (opening p) D (opening_reached p closed) before).is (still_gentle D before) choice free.chosen)

  pub gently_right : NoFreeRunIsWrong p
  gently_right C reached wrong = subst IsFine wrong.wrong (fine_choice C (freely_reached (opening p) C (opening_reached p closed) reached).is (still_gentle C reached) wrong.choice wrong.chosen)

-- ---- gentle processes, made of others

pub gentle_both : (n : ℕ) (p q : Process) → IsGentleOver n p → IsGentleOver n q → IsGentleOver n (Par p q)
gentle_both n p q x y = record { gentle = both x.gentle y.gentle; under = (x.under, y.under) }

pub gentle_new : (p : Process) → IsGentleOver 1 p → IsGentleOver 0 (New p)
gentle_new p x = record { gentle = opens x.gentle; under = x.under }

-- the same of terms of the code
var_is : (n : ℕ) → plain_val (value.Var n) ≡ Var n
var_is n = search (rules, the_lemmas)

pub gentle_sender : (message : Val) (at : Span) → IsOver 1 0 message → IsGentleOver 1 (Out (plain_val (value.Var 0)) message at)
gentle_sender message at over =
    let plain : IsGentleOver 1 (Out (Var 0) message at) = record { gentle = sends variable; under = (omega arith, over) } in
    subst (λ v. IsGentleOver 1 (Out v message at)) (sym (var_is 0)) plain

any_is : plain_pat pattern.Any ≡ Any
any_is = search (rules, pattern_lemmas)

-- a reader at the first variable, whose body ends
pub gentle_reader : (p : Process) → p ≡ Zero → IsGentleOver 1 (In (plain_val (value.Var 0)) false (plain_pat pattern.Any) p)
gentle_reader p e =
    let plain : IsGentleOver 1 (In (Var 0) false Any Zero) = record { gentle = reads variable; under = (omega arith, tt) } in
    let body : IsGentleOver 1 (In (Var 0) false Any p) = subst (λ q. IsGentleOver 1 (In (Var 0) false Any q)) (sym e) plain in
    let reader : IsGentleOver 1 (In (plain_val (value.Var 0)) false Any p) = subst (λ v. IsGentleOver 1 (In v false Any p)) (sym (var_is 0)) body in
    subst (λ x. IsGentleOver 1 (In (plain_val (value.Var 0)) false x p)) (sym any_is) reader
