-- What a run on several sites, whose events are chosen by a seed, says of what it prints.
use Rattle.std.proofs.Common.{◌≡◌, ◌≢◌, ℕ, zero, suc, ◌+◌, ◌-◌, ◌<◌, ◌≤◌, List, [], ◌∷◌, ◌++◌, refl, sym, ap, ◌∙◌, subst, append_assoc, arith}
use Rattle.std.proofs.lemmas.List.{append-nil}
use Rattle.rand_pcg.specs.Lcg.{Lcg}
use Rattle.pict_outside.proofs.Gaining.{front_of_none}
use Rattle.pict_core.specs.Term.{Process}
use Rattle.pict_core.specs.Closed.{IsClosed}
use Rattle.pict_core.specs.Step.{Label}
use Rattle.pict_core.specs.Run as run
use Rattle.pict_core.specs.Run.{bytes_of, shown, steps_done}
use Rattle.pict_reduction.specs.Reached.{NoFreeRunIsWrong}
use Rattle.pict_seed.specs.Stream.{generator}
use Rattle.pict_network.specs.Network.{Network, opening_network}
use Rattle.pict_network.specs.Events.{Happening, Moved, Stepped, Stopped, Misshapen, NoEvent}
use Rattle.pict_network.specs.Runs.{Chooses, by_move, by_step, SeedRuns, EndsAfter, choice, next_happening}
use Rattle.pict_network.proofs.Seeds.{seed_runs_are_one, seeds_choose_runs}
use Rattle.pict_network.proofs.Alone.{one_site_runs_oldest_first}
use Rattle.pict_sites.specs.Runs.{RanOn, BrokeOffOn, IsRightFrom}
use Rattle.pict_view.specs.Watching.{Saw, SawOrTore}
use Rattle.pict_top.specs.Answer.{Shows, printed}
use Rattle.pict_top.specs.Changes.{SinkChange, Gained, GainedFront, FailedWithin, Failed, Untouched}
use Rattle.pict_machine.specs.Events.{end_of}
use Rattle.pict_top.specs.Laws.{OneSiteRunsAsText}
use Rattle.pict_top.specs.Printed.{form_of, written_after, WrittenInPart, Finished, Somehow}
use Rattle.pict_top.specs.Siting.{NetworkShows}
use Rattle.pict_top.specs.declared.form.Form.TheVariants.{Printed}
use Rattle.pict_machine.specs.declared.event.End.{End}
use Rattle.pict_machine.specs.declared.event.End.TheVariants.{Done}
use Rattle.pict_top.proofs.Recording.{end_that}
use Rattle.pict_top.proofs.Running.{written_is_shown}
use Rattle.pict_top.proofs.Written.{saw_all, saw_part}

-- a seed chooses a run
pub some_sited : (p : Process) (sites seed fuel : ℕ) → IsClosed p → NoFreeRunIsWrong p → (end : End) × (bytes : List ℕ) × NetworkShows p sites seed fuel end bytes
some_sited p sites seed fuel closed right =
    let r = seeds_choose_runs (sites - 1) p seed fuel closed right in
    let f = end_that r.0 r.3 in
    (f.0, bytes_of r.1, record { labels = r.1; runs = subst (λ e. SeedRuns (sites - 1) p seed fuel e r.1) (sym f.1) r.2; shows = refl })

-- and it is one
pub one_sited : (p : Process) (sites seed fuel : ℕ) (e g : End) (a b : List ℕ) → NetworkShows p sites seed fuel e a → NetworkShows p sites seed fuel g b → (end_of e ≡ end_of g) × (a ≡ b)
one_sited p sites seed fuel e g a b x y =
    let one = seed_runs_are_one (sites - 1) p seed fuel (end_of e) (end_of g) x.labels y.labels x.runs y.runs in
    (one.0, x.shows ∙ ap bytes_of one.1 ∙ sym y.shows)

-- on one site it is that of `run`
pub one_site_runs_as_text : OneSiteRunsAsText
one_site_runs_as_text p seed fuel end bytes closed x =
    let r = one_site_runs_oldest_first p seed fuel (end_of end) x.labels x.runs closed in
    record { labels = x.labels; runs = r.0; shows = x.shows }

-- ---- a run that broke off

module _ (others : ℕ) (p : Process) (seed fuel : ℕ) (right : IsRightFrom (opening_network others p) (generator seed)) where
  abbrev Leads : ℕ → ℕ → List (ℕ × Label) → Network → Lcg → Type 0
  Leads count steps labels M h = Chooses (opening_network others p) (generator seed) count steps labels M h

  -- the whole run has these labels and some behind them
  abbrev RunsBeyond : List (ℕ × Label) → Type 0
  RunsBeyond labels = (end : run.End) × (rest : List (ℕ × Label)) × SeedRuns others p seed fuel end (labels ++ rest) × (end ≢ run.Misshapen)

  ended : (end : run.End) (count steps : ℕ) (labels : List (ℕ × Label)) (M : Network) (h : Lcg) → Leads count steps labels M h → EndsAfter fuel count (next_happening M h) end → end ≢ run.Misshapen → RunsBeyond labels
  ended end count steps labels M h on e fits =
      (end, [], record { count = count; steps = steps; last = M; after = h; chooses = subst (λ ls. Leads count steps ls M h) (sym (append-nil labels)) on; ends = e }, fits)

  longer : (labels more : List (ℕ × Label)) → RunsBeyond (labels ++ more) → RunsBeyond labels
  longer labels more (end, rest, r, fits) = (end, more ++ rest, subst (SeedRuns others p seed fuel end) (append_assoc labels more rest) r, fits)

  last_there : (count steps : ℕ) (labels : List (ℕ × Label)) (M : Network) (h : Lcg) → Leads count steps labels M h → count ≡ fuel → (o : Happening) → next_happening M h ≡ o → RunsBeyond labels
  last_there count steps labels M h on l NoEvent e = ended run.Done count steps labels M h on (omega (arith, l), e) (λ k. cc)
  last_there count steps labels M h on l (Moved K) e = ended run.FuelSpent count steps labels M h on (l, λ k. let z : Moved K ≡ NoEvent = sym e ∙ k in cc) (λ k. cc)
  last_there count steps labels M h on l (Stepped K label) e = ended run.FuelSpent count steps labels M h on (l, λ k. let z : Stepped K label ≡ NoEvent = sym e ∙ k in cc) (λ k. cc)
  last_there count steps labels M h on l (Stopped at) e = ended run.FuelSpent count steps labels M h on (l, λ k. let z : Stopped at ≡ NoEvent = sym e ∙ k in cc) (λ k. cc)
  last_there count steps labels M h on l Misshapen e = ended run.FuelSpent count steps labels M h on (l, λ k. let z : Misshapen ≡ NoEvent = sym e ∙ k in cc) (λ k. cc)

  goes_on : (count steps : ℕ) (labels : List (ℕ × Label)) (M : Network) (h : Lcg) → Leads count steps labels M h → count < fuel
      → ((s : ℕ) (ls : List (ℕ × Label)) (K : Network) (w : Lcg) → Leads (count + 1) s ls K w → RunsBeyond ls) → (o : Happening) → next_happening M h ≡ o → RunsBeyond labels
  goes_on count steps labels M h on l more NoEvent e = ended run.Done count steps labels M h on (omega (arith, l), e) (λ k. cc)
  goes_on count steps labels M h on l more (Moved K) e = more steps labels K (choice M h).1 (by_move on e)
  goes_on count steps labels M h on l more (Stepped K label) e =
      longer labels (shown (steps + 1) label) (more (steps + 1) (labels ++ shown (steps + 1) label) K (choice M h).1 (by_step on e))
  goes_on count steps labels M h on l more (Stopped at) e = ended (run.Trap at) count steps labels M h on (l, e) (λ k. cc)
  goes_on count steps labels M h on l more Misshapen e = absurd (right count steps labels M h on e)

  run_on : (left count steps : ℕ) (labels : List (ℕ × Label)) (M : Network) (h : Lcg) → Leads count steps labels M h → count + left ≡ fuel → RunsBeyond labels
  run_on zero count steps labels M h on l = last_there count steps labels M h on (omega (arith, l)) (next_happening M h) refl
  run_on (suc left) count steps labels M h on l =
      goes_on count steps labels M h on (omega (arith, l)) (λ s ls K w x. run_on left (count + 1) s ls K w x (omega (arith, l))) (next_happening M h) refl

  pub goes_beyond : (count steps : ℕ) (labels : List (ℕ × Label)) (M : Network) (h : Lcg) → Leads count steps labels M h → count ≤ fuel → RunsBeyond labels
  goes_beyond count steps labels M h on l = let left : count + (fuel - count) ≡ fuel = omega (arith, l) in run_on (fuel - count) count steps labels M h on left

-- ---- what was written

module _ (names : List (List ℕ)) (p : Process) (sites seed fuel : ℕ) (g : Lcg) (from : g ≡ generator seed) where
  -- the run came to its end
  pub has_run_on : (Stands : Network → Type 0) (out : SinkChange) (end : End)
      → RanOn Stands (opening_network (sites - 1) p) g fuel (end_of end) (Saw (written_after (form_of Printed names)) out.old_taken out.new_taken)
      → Finished (NetworkShows p sites seed fuel) end out
  has_run_on Stands out end ran =
      let labels : List (ℕ × Label) = ran.comes.labels in
      let runs : SeedRuns (sites - 1) p seed fuel (end_of end) labels =
      record {
        count = ran.count;
        steps = ran.steps;
        last = ran.comes.last;
        after = ran.after;
        chooses = subst (λ k. Chooses (opening_network (sites - 1) p) k ran.count ran.steps labels ran.comes.last ran.after) from ran.comes.chooses;
        ends = ran.ends;
      } in
      record {
        bytes = bytes_of labels;
        does = record { labels = labels; runs = runs; shows = refl };
        written = subst (Gained out) (written_is_shown Printed names 0 Done labels) (saw_all (form_of Printed names) out.old_taken out.new_taken labels ran.comes.seen);
      }

  module _ (right : IsRightFrom (opening_network (sites - 1) p) (generator seed)) where
    -- it broke off, and what was written is a beginning of what the whole run prints
    pub some_run_on_part : (Stands : Network → Type 0) (out : SinkChange)
        → BrokeOffOn Stands (opening_network (sites - 1) p) g fuel (SawOrTore (written_after (form_of Printed names)) (WrittenInPart (form_of Printed names)) out.old_taken out.new_taken)
        → Somehow (NetworkShows p sites seed fuel) (GainedFront out)
    some_run_on_part Stands out broke =
        let chooses = subst (λ k. Chooses (opening_network (sites - 1) p) k broke.count broke.steps broke.comes.labels broke.comes.last broke.after) from broke.comes.chooses in
        let on = goes_beyond (sites - 1) p seed fuel right broke.count broke.steps broke.comes.labels broke.comes.last broke.after chooses broke.few in
        let f = end_that on.0 on.3 in
        let labels : List (ℕ × Label) = broke.comes.labels ++ on.1 in
        record {
          end = f.0;
          bytes = bytes_of labels;
          does = record { labels = labels; runs = subst (λ e. SeedRuns (sites - 1) p seed fuel e labels) (sym f.1) on.2; shows = refl };
          holds = subst (GainedFront out) (written_is_shown Printed names 0 Done labels) (saw_part (form_of Printed names) out.old_taken out.new_taken broke.comes.labels on.1 broke.comes.seen);
        }

    pub some_run_on_failed : (Stands : Network → Type 0) (out : SinkChange)
        → BrokeOffOn Stands (opening_network (sites - 1) p) g fuel (SawOrTore (written_after (form_of Printed names)) (WrittenInPart (form_of Printed names)) out.old_taken out.new_taken)
        → Failed out → Somehow (NetworkShows p sites seed fuel) (FailedWithin out)
    some_run_on_failed Stands out broke failed =
        let some = some_run_on_part Stands out broke in
        record { end = some.end; bytes = some.bytes; does = some.does; holds = record { part = some.holds; failed = failed } }

-- nothing is written
pub sited_nothing : (p : Process) (sites seed fuel : ℕ) (out : SinkChange) → IsClosed p → NoFreeRunIsWrong p → Untouched out → Somehow (NetworkShows p sites seed fuel) (GainedFront out)
sited_nothing p sites seed fuel out closed right kept =
    let some = some_sited p sites seed fuel closed right in
    record { end = some.0; bytes = some.1; does = some.2; holds = front_of_none out.old_taken out.new_taken some.1 kept }
