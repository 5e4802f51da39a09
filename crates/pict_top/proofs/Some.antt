-- Words come to an outcome over a shelf that tells its texts, and the words `load N` over any; and so to exactly one.
use Rattle.std.proofs.Common.{◌≡◌, ℕ, Bool, true, false, inl, inr, List, [], Option, Some, None, refl, sym, subst, arith}
use Rattle.pict_outside.specs.Texts.{Texts}
use Rattle.pict_core.specs.Term.{Process}
use Rattle.pict_core.specs.Closed.{IsClosed}
use Rattle.pict_core.specs.Configuration.{opening}
use Rattle.pict_core.specs.Run.{steps_done}
use Rattle.pict_reduction.specs.Reached.{NoFreeRunIsWrong}
use Rattle.pict_view.specs.Right.{RunsRight}
use Rattle.pict_code.specs.Nodes.{nodes_of}
use Rattle.pict_code.specs.Listing.{listing_text}
use Rattle.pict_words.specs.Words.{Command, Run, Trace, Check, Code, Load, Pick, Picked, Replay, Build, Exec, Sites, default_fuel}
use Rattle.pict_words.proofs.Some.{shape_or_not}
use Rattle.pict_gather.specs.Phases.{Phase, accepts, refuses}
use Rattle.pict_gather.specs.Fetching.{MayGive}
use Rattle.pict_gather.specs.Gathered.{EarlyEnd, refused, failed}
use Rattle.pict_syntax.specs.declared.source.Source.{Source}
use Rattle.pict_front.specs.Front.{Front, Accepted, IsFront}
use Rattle.pict_front.proofs.TypedPrograms.{accepted_is_typed}
use Rattle.pict_front.proofs.EachPhase.{one_front}
use Rattle.pict_front.proofs.ObjectCores.{accepted_has_object}
use Rattle.pict_object.specs.Cores.{IsObjectCore}
use Rattle.pict_built.proofs.Sized.{sized}
use Rattle.pict_syntax.specs.declared.limits.TheConstants.{OBJECT_LIMIT}
use Rattle.pict_machine.specs.Events.{end_of}
use Rattle.pict_machine.specs.declared.event.End.{End}
use Rattle.pict_machine.specs.declared.event.End.TheVariants.{Done}
use Rattle.pict_top.specs.Origins.{origin_of, name_of, prelude_of, trace_of, TakesText, Works, builds, given}
use Rattle.pict_top.specs.Answer.{Answer, Absent, Refusal, Ended, IsAnswer, IsBuilt, built, too_big, IsMade, IsWorked, IsDone, Does, Shows, Writing}
use Rattle.pict_top.specs.Outcome.{Outcome, outcome_of, usage_outcome}
use Rattle.pict_top.specs.Owed.{Owes, OwesText, OwesWords}
use Rattle.pict_top.specs.Laws.{OneOutcome, LoadNeedsNoShelf}
use Rattle.pict_top.proofs.NoFault.{front_unfailed}
use Rattle.pict_top.proofs.Reading.{IsTold, told_shelf}
use Rattle.pict_top.proofs.Continuing.{continues_from}
use Rattle.pict_top.proofs.Recording.{some_picked}
use Rattle.pict_top.proofs.Sited.{some_sited}
use Rattle.pict_top.proofs.Replayed.{some_replayed}
use Rattle.pict_top.proofs.Executions.{some_executed}
use Rattle.pict_top.proofs.Files.{owes_text, owes_run, works_by}
use Rattle.pict_top.proofs.Right.{runs_right, accepted_is_freely_right}
use Rattle.pict_top.proofs.Sound.{accepted_closed}
use Rattle.pict_top.proofs.One.{at_most_one}
use Rattle.pict_top.proofs.Load.{told_load, one_of_load, never_asked}

-- ---- answers

some_shown : (p : Process) (fuel : ℕ) (written : Writing) → RunsRight p fuel → (e : End) × (bytes : List ℕ) × Shows p fuel written e bytes
some_shown p fuel written right =
    let on = continues_from 0 (opening p) fuel [] (opening p) right (omega arith) (refl, refl) in
    (on.end, written (steps_done (end_of on.end) on.runs.steps) on.end on.rest, record { labels = on.rest; runs = on.runs; shows = refl })

-- a command's work ends somehow
some_work : (command : Command) (names : List (List ℕ)) (p : Process) → Works command → IsClosed p → NoFreeRunIsWrong p → (e : End) × (bytes : List ℕ) × Does command names p e bytes
some_work (Run o) names p works closed right = some_shown p o.fuel _ (runs_right p closed right o.fuel)
some_work (Trace o) names p works closed right = some_shown p o.fuel _ (runs_right p closed right o.fuel)
some_work (Check o) names p works closed right = (Done, [], record { done = refl; nothing = refl })
some_work (Code o) names p works closed right = (Done, listing_text names (nodes_of p), record { done = refl; listing = refl })
some_work (Load n) names p works closed right = some_shown p default_fuel _ (runs_right p closed right default_fuel)
some_work (Pick seed o) names p works closed right = some_picked p seed o.fuel _ closed right
some_work (Picked seed o) names p works closed right = some_picked p seed o.fuel _ closed right
some_work (Replay o trace) names p works closed right = (Done, [], record { done = refl; nothing = refl })
some_work (Build o) names p works closed right = absurd works
some_work (Exec fuel object) names p works closed right = absurd works
some_work (Sites sites seed o) names p works closed right = some_sited p sites seed o.fuel closed right

some_built : (sources : List Source) (front : Front) → IsObjectCore front.names front.core → (a : Answer) × IsBuilt sources front a
some_built sources front core = elim (sized front.names front.core OBJECT_LIMIT core) [
  | inl f ↦ (_, built f.1 f.2)
  | inr none ↦ (_, too_big none)
]

some_made : (by : Bool) (command : Command) (sources : List Source) (front : Front) → builds command ≡ by → TakesText command → IsObjectCore front.names front.core → IsClosed front.core → NoFreeRunIsWrong front.core
    → (a : Answer) × IsMade by command sources front a
some_made true command sources front is takes core closed right = some_built sources front core
some_made false command sources front is takes core closed right =
    let some = some_work command front.names front.core (works_by command takes is) closed right in (Ended sources some.0 some.1, (some.0, some.1, some.2, refl))

some_worked : (texts : Texts) (command : Command) (sources : List Source) (front : Front) (t : Option (List ℕ)) → TakesText command → IsObjectCore front.names front.core → IsClosed front.core
    → NoFreeRunIsWrong front.core → (a : Answer) × IsWorked (MayGive (Some texts)) command sources front t a
some_worked texts command sources front None takes core closed right = some_made (builds command) command sources front refl takes core closed right
some_worked texts command sources front (Some trace) takes core closed right = some_replayed texts trace front closed right

some_done : (texts : Texts) (command : Command) (said : Option (Phase EarlyEnd Accepted)) → TakesText command → IsFront (MayGive (Some texts)) (prelude_of (origin_of command)) (name_of (origin_of command)) said
    → (a : Answer) × IsDone (MayGive (Some texts)) command said a
some_done texts command None takes stands = (Absent (name_of (origin_of command)), refl)
some_done texts command (Some (refuses (refused sources code span))) takes stands = (Refusal sources code span, refl)
some_done texts command (Some (refuses (failed sources))) takes stands =
    absurd (front_unfailed (MayGive (Some texts)) (λ name no. no) (prelude_of (origin_of command)) (name_of (origin_of command)) (refuses (failed sources)) stands)
some_done texts command (Some (accepts p)) takes stands =
    let accepted = accepted_is_typed (Some texts) (prelude_of (origin_of command)) (name_of (origin_of command)) p stands in
    let core = accepted_has_object (Some texts) (prelude_of (origin_of command)) (name_of (origin_of command)) p stands in
    some_worked texts command p.sources p.front (trace_of command) takes core (accepted_closed p.front accepted) (accepted_is_freely_right p.front accepted)

-- ---- outcomes

some_of_file : (texts : Texts) (command : Command) → TakesText command → (o : Outcome) × Owes (MayGive (Some texts)) command o
some_of_file texts command takes =
    let one = one_front texts (prelude_of (origin_of command)) (name_of (origin_of command)) in
    let a = some_done texts command one.0 takes one.1 in
    (outcome_of a.0, owes_text (MayGive (Some texts)) command (outcome_of a.0) takes (record { answer = a.0; answers = record { said = one.0; front = one.1; done = a.1 }; comes = refl }))

some_of_texts : (texts : Texts) (command : Command) → (o : Outcome) × Owes (MayGive (Some texts)) command o
some_of_texts texts (Exec fuel object) = let a = some_executed texts object fuel in (outcome_of a.0, owes_run (MayGive (Some texts)) object fuel (outcome_of a.0) (a.0, a.1, refl))
some_of_texts texts (Run o) = some_of_file texts (Run o) tt
some_of_texts texts (Trace o) = some_of_file texts (Trace o) tt
some_of_texts texts (Check o) = some_of_file texts (Check o) tt
some_of_texts texts (Code o) = some_of_file texts (Code o) tt
some_of_texts texts (Load n) = some_of_file texts (Load n) tt
some_of_texts texts (Pick seed o) = some_of_file texts (Pick seed o) tt
some_of_texts texts (Picked seed o) = some_of_file texts (Picked seed o) tt
some_of_texts texts (Replay o trace) = some_of_file texts (Replay o trace) tt
some_of_texts texts (Build o) = some_of_file texts (Build o) tt
some_of_texts texts (Sites sites seed o) = some_of_file texts (Sites sites seed o) tt

some_of_command : (held : Option Texts) (command : Command) → IsTold held (origin_of command) → (o : Outcome) × Owes (given held (origin_of command)) command o
some_of_command held command (texts, told) =
    let some = some_of_texts texts command in (some.0, subst (λ reads. Owes (MayGive reads) command some.0) (sym told) some.1)

some_outcome : (words : List (List ℕ)) (texts : Texts) → (o : Outcome) × OwesWords words (Some texts) o
some_outcome words texts = elim (shape_or_not words) [
  | inl c ↦ let o = some_of_command (Some texts) c.0 (told_shelf texts (origin_of c.0)) in (o.0, inl (c.0, c.1, o.1))
  | inr none ↦ (usage_outcome, inr (none, refl))
]

pub one_outcome : OneOutcome
one_outcome words texts =
    let some = some_outcome words texts in (some.0, some.1, λ p owes. at_most_one words (Some texts) p some.0 (λ command shape. told_shelf texts (origin_of command)) owes some.1)

pub load_needs_no_shelf : LoadNeedsNoShelf
load_needs_no_shelf words n held shape =
    let some = some_of_command held (Load n) (told_load held n) in
    let owes : OwesWords words held some.0 = inl (Load n, shape, some.1) in
    ((some.0, owes, λ p owed. one_of_load words n held p some.0 shape owed owes), never_asked words n held shape)
