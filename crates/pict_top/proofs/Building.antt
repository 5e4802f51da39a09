-- An object that is written, and that it runs as its program.
use Rattle.std.proofs.Common.{◌≡◌, ℕ, ◌<◌, ◌≤◌, ◌^◌, ◌-◌, min, inl, inr, List, [], length, refl, sym, ◌∙◌, ap, subst, arith}
use Rattle.pict_syntax.specs.declared.limits.TheConstants.{OBJECT_LIMIT}
use Rattle.pict_syntax.specs.declared.source.Source.{Source}
use Rattle.pict_core.specs.Term.{Process}
use Rattle.pict_core.specs.Run as run
use Rattle.pict_core.specs.Run.{Runs, bytes_of}
use Rattle.pict_object.specs.Objects.{object_bytes, nowhere}
use Rattle.pict_object.specs.Cores.{IsObject}
use Rattle.pict_object.specs.Small.{IsTooBig}
use Rattle.pict_object.proofs.Tables.{tables_are_one}
use Rattle.pict_built.specs.Laws.{AreBytes, placeless}
use Rattle.pict_built.proofs.Deciding.{decided}
use Rattle.pict_built.proofs.Written.{runs_as_written}
use Rattle.pict_exec.specs.Ends as guarded_ends
use Rattle.pict_exec.specs.declared.guarded.ExecEnd.{ExecEnd}
use Rattle.pict_exec.specs.declared.guarded.ExecEnd.TheVariants as guarded
use Rattle.pict_front.specs.Front.{Front}
use Rattle.pict_front.proofs.InOrder.{accepted_is_ordered}
use Rattle.pict_outside.proofs.Gaining.{appends_nothing}
use Rattle.pict_top.specs.Answer.{Ended, Executed, executed, built}
use Rattle.pict_top.specs.Changes.{SinkChange, Untouched}
use Rattle.pict_machine.specs.Events.{end_of}
use Rattle.pict_top.specs.Laws.{BuiltRunsAsText}
use Rattle.pict_top.specs.Meets.{Meets, Tells}
use Rattle.pict_top.specs.Outcome.{Outcome, outcome_of, status_of_end, status_of_guarded}
use Rattle.pict_top.specs.Owed.{OwesObject}
use Rattle.pict_machine.specs.declared.event.End.{End}
use Rattle.pict_machine.specs.declared.event.End.TheVariants.{Done, FuelSpent, Trap}
use Rattle.pict_top.specs.declared.status.Status.{Status}
use Rattle.pict_top.specs.declared.status.Status.TheVariants as status
use Rattle.pict_top.proofs.Meeting.{delivered}

-- what is too big has no object within the limit
pub none_within : (names : List (List ℕ)) (p : Process) (limit n : ℕ) → IsTooBig names p limit n → (bytes : List ℕ) → IsObject names bytes p → limit < length bytes
none_within names p limit n big bytes f =
    let same : length bytes ≡ length (object_bytes names big.table p) = ap length f.is ∙ ap (λ table. length (object_bytes names table p)) (tables_are_one names p f.table big.table f.labels big.labels) in
    let size = big.size in
    let more = big.more in
    omega (arith, same, size, more)

-- the object was written
pub told_object : (sources : List Source) (front : Front) (out err : SinkChange) (s : Status) (object : List ℕ) → IsObject front.names object front.core → length object ≤ OBJECT_LIMIT → Untouched err
    → Tells status.Done object out s → Meets (OwesObject sources front) (λ o. ⊥) ⊥ out err s
told_object sources front out err s object f few kept tells =
    let P : Status → Type 0 = Meets (OwesObject sources front) (λ o. ⊥) ⊥ out err in
    let o : Outcome = outcome_of (Ended sources Done object) in
    let owes : OwesObject sources front o = (_, built f few, refl) in
    elim tells [
      | inl (e, gained) ↦ delivered (OwesObject sources front) (λ o. ⊥) ⊥ out err s o owes tt gained (appends_nothing _ _ kept) e
      | inr (e, broke) ↦ subst P (sym e) (inl (o, owes, inl (broke, kept)))
    ]

-- ---- its run

-- the end of the run of an object, which has no places
abbrev guarded_by : End → ExecEnd
guarded_by Done = guarded.Done
guarded_by FuelSpent = guarded.FuelSpent
guarded_by (Trap at) = guarded.Trap nowhere

same_end : (end : End) → placeless (end_of end) ≡ guarded_ends.end_of (guarded_by end)
same_end Done = refl
same_end FuelSpent = refl
same_end (Trap at) = refl

same_status : (end : End) → status_of_guarded (guarded_by end) ≡ status_of_end end
same_status Done = refl
same_status FuelSpent = refl
same_status (Trap at) = refl

pub built_runs_as_text : BuiltRunsAsText
built_runs_as_text held prelude file object t bytes a fuel end front f few fits gives r = elim (decided t fits) [
  | inl d ↦
      let names = a.front.names in
      let core = a.front.core in
      let ordered = accepted_is_ordered held prelude file a front in
      let written = runs_as_written names d.0 t core d.1 ordered.0 f d.2 fuel (end_of end) r.labels r.runs in (
        guarded_by end,
        same_status end,
        executed gives few fits (record {
          names = d.0;
          process = d.1;
          is = d.2;
          labels = written.0;
          runs = subst (λ e. Runs d.1 fuel e written.0) (same_end end) written.1;
          prints = r.shows ∙ sym written.2;
        }),
      )
  | inr none ↦ absurd (none a.front.names a.front.core f)
]
