-- How a call meets what is owed.
use Rattle.std.proofs.Common.{◌≤◌, ◌≡◌, ℕ, List, Some, ap, refl, sym, ◌∙◌, subst, ◌⊎◌, inl, inr, arith}
use Rattle.pict_outside.specs.Counts.{Rose}
use Rattle.pict_outside.proofs.Gaining.{front_of_all}
use Rattle.pict_top.specs.Outcome.{Outcome}
use Rattle.pict_top.specs.Changes.{SinkChange, Gained, GainedFront, Untouched, Failed}
use Rattle.pict_top.specs.Meets.{Meets, Reports, Tells, IsDecided, Delivers, SomeOutcome}
use Rattle.pict_top.specs.Headline.{Headline, ShelfChange, ShelfFailed}
use Rattle.pict_top.specs.Owed.{OwesWords, OwesWithEach, FaultsWords}
use Rattle.pict_report.specs.Reports.{usage_report}
use Rattle.pict_words.specs.Words.{HasNoShape}
use Rattle.pict_top.specs.Origins.{origin_of}
use Rattle.pict_top.specs.declared.status.Status.{Status}
use Rattle.pict_top.specs.declared.status.Status.TheVariants as status
use Rattle.pict_top.specs.declared.status.Status.TheVariants.{ReadFault, WriteFault, Memory}
use Rattle.pict_top.proofs.Sound.{accepted_freely_sound, accepted_sound}
use Rattle.pict_top.proofs.Reading.{told_shelf}
use Rattle.pict_top.proofs.One.{at_most_one, usage_is_for_no_shape}
use Rattle.pict_top.proofs.Load.{one_of_load, never_asked, load_not_missing, each_not_missing}

decided : (Owes Faults : Outcome → Type 0) (failed : Type 0) (out err : SinkChange) (s : Status) → IsDecided s → (o : Outcome) → Owes o → o.status ≡ s → Delivers out err o → Meets Owes Faults failed out err s
decided Owes Faults failed out err ReadFault is o owes e d = absurd is
decided Owes Faults failed out err WriteFault is o owes e d = absurd is
decided Owes Faults failed out err Memory is o owes e d = absurd is
decided Owes Faults failed out err s is o owes e d = (o, owes, (e, d))

some_more : (Owes More P : Outcome → Type 0) → ((o : Outcome) → Owes o → More o) → SomeOutcome Owes P → SomeOutcome More P
some_more Owes More P f m = (m.0, f m.0 m.1, m.2)

-- what is owed may grow, and so may faults where the shelf failed
pub weaken : (Owes Faults More MoreFaults : Outcome → Type 0) (failed more_failed : Type 0) (out err : SinkChange) (s : Status) → ((o : Outcome) → Owes o → More o) → (failed → more_failed × ((o : Outcome) → Faults o → MoreFaults o))
    → Meets Owes Faults failed out err s → Meets More MoreFaults more_failed out err s
weaken Owes Faults More MoreFaults failed more_failed out err ReadFault f g m = let h = g m.0 in (h.0, some_more Faults MoreFaults _ h.1 m.1)
weaken Owes Faults More MoreFaults failed more_failed out err WriteFault f g m =
    elim m [ inl broke ↦ inl (some_more Owes More _ f broke) | inr (p, broke) ↦ let h = g p in inr (h.0, some_more Faults MoreFaults _ h.1 broke) ]
weaken Owes Faults More MoreFaults failed more_failed out err Memory f g m =
    (m.0, elim m.1 [ inl none ↦ inl none | inr part ↦ inr (some_more Owes More _ f part) ])
weaken Owes Faults More MoreFaults failed more_failed out err s f g m = some_more Owes More _ f m

-- the same, or something else
pub weaken_either : (Owes Faults More MoreFaults : Outcome → Type 0) (failed more_failed else_ : Type 0) (out err : SinkChange) (s : Status) → ((o : Outcome) → Owes o → More o) → (failed → more_failed × ((o : Outcome) → Faults o → MoreFaults o))
    → Meets Owes Faults failed out err s ⊎ else_ → Meets More MoreFaults more_failed out err s ⊎ else_
weaken_either Owes Faults More MoreFaults failed more_failed else_ out err s f g (inl m) = inl (weaken Owes Faults More MoreFaults failed more_failed out err s f g m)
weaken_either Owes Faults More MoreFaults failed more_failed else_ out err s f g (inr x) = inr x

-- the same, where what else there is may grow too
pub weaken_else : (Owes Faults More MoreFaults : Outcome → Type 0) (failed more_failed else_ more_else : Type 0) (out err : SinkChange) (s : Status) → ((o : Outcome) → Owes o → More o)
    → (failed → more_failed × ((o : Outcome) → Faults o → MoreFaults o)) → (else_ → more_else) → Meets Owes Faults failed out err s ⊎ else_ → Meets More MoreFaults more_failed out err s ⊎ more_else
weaken_else Owes Faults More MoreFaults failed more_failed else_ more_else out err s f g h (inl m) = inl (weaken Owes Faults More MoreFaults failed more_failed out err s f g m)
weaken_else Owes Faults More MoreFaults failed more_failed else_ more_else out err s f g h (inr x) = inr (h x)

-- a count that rose had risen from before
pub rose_earlier : (first before now : ℕ) → first ≤ before → Rose before now → Rose first now
rose_earlier first before now few rose many = let more = rose many in omega (arith, more, few)

-- a count that is 0 didn't rise
pub never_rises : Rose 0 0 → ⊥
never_rises rose = let less = rose (λ e. omega (arith, e)) in omega (arith, less)

-- a text is written behind an outcome that prints nothing
pub told : (Owes Faults : Outcome → Type 0) (failed : Type 0) (out err : SinkChange) (s : Status) (o : Outcome) → Owes o → IsDecided o.status → Gained out o.printed → Tells o.status o.report err s → Meets Owes Faults failed out err s
told Owes Faults failed out err s o owes is printed tells =
    let P : Status → Type 0 = Meets Owes Faults failed out err in
    elim tells [
      | inl (e, text) ↦ decided Owes Faults failed out err s (subst IsDecided (sym e) is) o owes (sym e) (record { printed = printed; reported = text })
      | inr (e, text) ↦ subst P (sym e) (inl (o, owes, inr (printed, text)))
    ]

-- the same, where memory may run out for the text
pub reported : (Owes Faults : Outcome → Type 0) (failed : Type 0) (out err : SinkChange) (s : Status) (o : Outcome) → Owes o → IsDecided o.status → Gained out o.printed → Reports o.status o.report err s → Meets Owes Faults failed out err s
reported Owes Faults failed out err s o owes is printed reports =
    let P : Status → Type 0 = Meets Owes Faults failed out err in
    elim reports [
      | inl tells ↦ told Owes Faults failed out err s o owes is printed tells
      | inr (e, kept) ↦ subst P (sym e) (kept, inr (o, owes, front_of_all out.old_taken out.new_taken o.printed printed))
    ]

-- the shelf failed, and the text about that is written
pub faulted : (Owes Faults : Outcome → Type 0) (failed : Type 0) (out err : SinkChange) (s : Status) (o : Outcome) → failed → Faults o → Untouched out → Reports ReadFault o.report err s → Meets Owes Faults failed out err s
faulted Owes Faults failed out err s o rose faults kept reports =
    let P : Status → Type 0 = Meets Owes Faults failed out err in
    elim reports [
      | inl tells ↦ elim tells [
        | inl (e, text) ↦ subst P (sym e) (rose, (o, faults, (kept, text)))
        | inr (e, text) ↦ subst P (sym e) (inr (rose, (o, faults, (kept, text))))
      ]
      | inr (e, none) ↦ subst P (sym e) (none, inl kept)
    ]

-- nothing is to be written behind it
pub delivered : (Owes Faults : Outcome → Type 0) (failed : Type 0) (out err : SinkChange) (s : Status) (o : Outcome) → Owes o → IsDecided o.status → Gained out o.printed → Gained err o.report → s ≡ o.status → Meets Owes Faults failed out err s
delivered Owes Faults failed out err s o owes is printed report e =
    decided Owes Faults failed out err s (subst IsDecided (sym e) is) o owes (sym e) (record { printed = printed; reported = report })

pub when_decided : (Owes Faults : Outcome → Type 0) (failed : Type 0) (out err : SinkChange) (s : Status) → Meets Owes Faults failed out err s → IsDecided s → SomeOutcome Owes (λ o. (o.status ≡ s) × Delivers out err o)
when_decided Owes Faults failed out err ReadFault m is = absurd is
when_decided Owes Faults failed out err WriteFault m is = absurd is
when_decided Owes Faults failed out err Memory m is = absurd is
when_decided Owes Faults failed out err s m is = m

-- where no count rose, that of the shelf only where it could fail, the status is decided, or memory ran out
pub when_no_fault : (Owes Faults : Outcome → Type 0) (failed : Type 0) (out err : SinkChange) (s : Status) → Meets Owes Faults failed out err s → (failed → (o : Outcome) → Faults o → ⊥) → ¬ (Failed out) → ¬ (Failed err) → IsDecided s ⊎ (s ≡ Memory)
when_no_fault Owes Faults failed out err ReadFault m a b c = absurd (a m.0 m.1.0 m.1.1)
when_no_fault Owes Faults failed out err WriteFault m a b c =
    elim m [
      | inl (p, owes, broke) ↦ elim broke [ inl (f, kept) ↦ absurd (b f.failed) | inr (printed, f) ↦ absurd (c f.failed) ]
      | inr (rose, more) ↦ absurd (a rose more.0 more.1)
    ]
when_no_fault Owes Faults failed out err Memory m a b c = inr refl
when_no_fault Owes Faults failed out err s m a b c = inl tt

-- then it is that of the outcome, where only one is owed
one_status : (Owes Faults : Outcome → Type 0) (failed : Type 0) (out err : SinkChange) (s : Status) (o : Outcome) → ((p : Outcome) → Owes p → p ≡ o) → Meets Owes Faults failed out err s → IsDecided s ⊎ (s ≡ Memory) → (s ≡ o.status) ⊎ (s ≡ Memory)
one_status Owes Faults failed out err s o one m (inl is) = let some = when_decided Owes Faults failed out err s m is in inl (sym some.2.0 ∙ ap (λ x. x.status) (one some.0 some.1))
one_status Owes Faults failed out err s o one m (inr is) = inr is

-- whatever the status, a beginning of what is owed was printed
pub front_printed : (Owes Faults : Outcome → Type 0) (failed : Type 0) (out err : SinkChange) (s : Status) → Meets Owes Faults failed out err s → Untouched out ⊎ SomeOutcome Owes (λ o. GainedFront out o.printed)
front_printed Owes Faults failed out err ReadFault m = inl m.1.2.0
front_printed Owes Faults failed out err WriteFault m =
    elim m [
      | inl (o, owes, broke) ↦ elim broke [ inl (f, kept) ↦ inr (o, owes, f.part) | inr (printed, f) ↦ inr (o, owes, front_of_all out.old_taken out.new_taken o.printed printed) ]
      | inr (rose, more) ↦ inl more.2.0
    ]
front_printed Owes Faults failed out err Memory m = m.1
front_printed Owes Faults failed out err s m = inr (m.0, m.1, front_of_all out.old_taken out.new_taken m.0.printed m.2.1.printed)

pub when : (Owes Faults : Outcome → Type 0) (failed : Type 0) (out err : SinkChange) (s t : Status) → Meets Owes Faults failed out err s → s ≡ t → Meets Owes Faults failed out err t
when Owes Faults failed out err s t m e = let P : Status → Type 0 = Meets Owes Faults failed out err in subst P e m

-- what `pict` promises, from what its parts do
pub headline : (words : List (List ℕ)) (shelf : ShelfChange) (out err : SinkChange) (s : Status) → Meets (OwesWords words shelf.held) (FaultsWords words shelf.held) (ShelfFailed shelf) out err s
    → (HasNoShape words → Untouched out × Tells status.Usage usage_report err s)
    → Meets (OwesWithEach words shelf.held) (FaultsWords words shelf.held) (ShelfFailed shelf) out err s ⊎ Rose shelf.old_misses shelf.new_misses → Headline words shelf out err s
headline words shelf out err s m usage each =
    let Owes = OwesWords words shelf.held in
    let Each = OwesWithEach words shelf.held in
    let Faults = FaultsWords words shelf.held in
    record {
      complete = λ texts o told owes a b c. one_status Owes Faults (ShelfFailed shelf) out err s o
          (λ p q. at_most_one words (Some texts) p o (λ command shape. told_shelf texts (origin_of command)) (subst (λ held. OwesWords words held p) told q) owes) m
          (when_no_fault Owes Faults (ShelfFailed shelf) out err s m (λ failed. absurd (a failed)) b c);
      answered = λ a. when_no_fault Owes Faults (ShelfFailed shelf) out err s m (λ failed. absurd (a failed));
      decided = when_decided Owes Faults (ShelfFailed shelf) out err s m;
      write_fault = λ e. when Owes Faults (ShelfFailed shelf) out err s WriteFault m e;
      read_fault = λ e. when Owes Faults (ShelfFailed shelf) out err s ReadFault m e;
      memory = λ e. (when Owes Faults (ShelfFailed shelf) out err s Memory m e).0;
      printed = front_printed Owes Faults (ShelfFailed shelf) out err s m;
      missing = λ e. elim each [
        | inl n ↦ let o = when Each Faults (ShelfFailed shelf) out err s status.Missing n e in absurd (each_not_missing words shelf.held o.0 o.1 o.2.0)
        | inr rose ↦ rose
      ];
      absent = λ is. elim each [ inl n ↦ inl (when_decided Each Faults (ShelfFailed shelf) out err s n is) | inr rose ↦ inr rose ];
      usage = usage;
      load_never = λ n shape. (
        λ e. let fault = when Owes Faults (ShelfFailed shelf) out err s ReadFault m e in never_asked words n shelf.held shape fault.1.0 fault.1.1,
        λ e. let o = when Owes Faults (ShelfFailed shelf) out err s status.Missing m e in load_not_missing words n shelf.held o.0 shape o.1 o.2.0,
      );
      load_complete = λ n o shape owes b c. one_status Owes Faults (ShelfFailed shelf) out err s o (λ p q. one_of_load words n shelf.held p o shape q owes) m
          (when_no_fault Owes Faults (ShelfFailed shelf) out err s m (λ failed. never_asked words n shelf.held shape) b c);
      sound = accepted_sound words shelf.held;
      any_order = accepted_freely_sound words shelf.held;
      usage_only = λ e. let o = when Owes Faults (ShelfFailed shelf) out err s status.Usage m e in usage_is_for_no_shape words shelf.held o.0 o.1 o.2.0;
    }
