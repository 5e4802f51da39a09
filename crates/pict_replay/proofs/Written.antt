-- What is written of a run that a seed picks is a file of it alone.
use Rattle.std.proofs.Common.{ℕ, ◌<◌, ◌≤◌, ◌^◌, ◌/◌, ◌%◌, List, length, refl, sym, subst, arith, ⊎_elim}
use Rattle.std.specs.List.{AllByRecursion}
use Rattle.std.specs.Prelude.{bit_xor}
use Rattle.std.proofs.lemmas.Bool.{cases_lt}
use Rattle.std.proofs.lemmas.Nat.{or_lt, mod_below, shr_le}
use Rattle.std.proofs.Math.Nat.{mod-le}
use Rattle.rand_pcg.specs.Lcg.{Lcg}
use Rattle.rand_pcg.specs.Pcg.{pcg32}
use Rattle.pict_core.specs.Configuration.{Configuration, opening}
use Rattle.pict_core.specs.Step.{Label}
use Rattle.pict_core.specs.Places.{Place, ready_entries, partners_at}
use Rattle.pict_seed.specs.Stream.{generator, chosen}
use Rattle.pict_seed.proofs.Choosing.{chosen_few, chosen_more}
use Rattle.pict_pick.specs.Picked.{picked, Picks, at_start, by_step}
use Rattle.pict_pick.proofs.Running.{picked_runs_are_free}
use Rattle.pict_trace.specs.Lines.{lines_text}
use Rattle.pict_trace.proofs.ReadBack.{free_runs_are_read_back}
use Rattle.pict_replay.specs.Files.{IsWritable, IsFile, file_text}
use Rattle.pict_replay.specs.Laws.{PickedIsAnswered}
use Rattle.pict_replay.proofs.OneReading.{writable_more}
use Rattle.pict_replay.proofs.Filing.{one_file}
use Rattle.pict_replay.proofs.Replaying.{picked_agrees}

-- ---- what is chosen is below 2^64

word_small : (g : Lcg) → (pcg32 g).0 < 2 ^ 32
word_small g =
    let low : bit_xor (g.state / 2 ^ 18) g.state / 2 ^ 27 % 2 ^ 32 < 2 ^ 32 = mod_below (bit_xor (g.state / 2 ^ 18) g.state / 2 ^ 27) (2 ^ 32) (omega arith) in
    let left = shr_le (bit_xor (g.state / 2 ^ 18) g.state / 2 ^ 27 % 2 ^ 32) (g.state / 2 ^ 59 % 32) in
    let small : (bit_xor (g.state / 2 ^ 18) g.state / 2 ^ 27 % 2 ^ 32) / 2 ^ (g.state / 2 ^ 59 % 32) < 2 ^ 32 = omega (arith, low, left) in
    or_lt 32 _ _ small (mod_below _ (2 ^ 32) (omega arith))

chosen_small : (count : ℕ) (g : Lcg) → (chosen count g).0 < 2 ^ 64
chosen_small count g = ⊎_elim
    (λ (few : count < 2). subst (λ (z : ℕ × Lcg). z.0 < 2 ^ 64) (sym (chosen_few count g (omega (arith, few)))) (omega arith))
    (λ (many : 2 ≤ count). subst (λ (z : ℕ × Lcg). z.0 < 2 ^ 64) (sym (chosen_more count g many)) (let w = word_small g in let l = mod-le (pcg32 g).0 count in omega (arith, w, l)))
    (cases_lt count 2)

picked_writable : (C : Configuration) (g : Lcg) → IsWritable (picked C g).0
picked_writable C g = (
  chosen_small (length (ready_entries C)) g,
  chosen_small (length (partners_at C (chosen (length (ready_entries C)) g).0)) (chosen (length (ready_entries C)) g).1,
)

picks_writable : (C : Configuration) (g : Lcg) (places : List Place) (labels : List (ℕ × Label)) (D : Configuration) (h : Lcg) → Picks C g places labels D h → AllByRecursion IsWritable places
picks_writable C g places labels D h at_start = tt
picks_writable C g places labels D h (by_step {places = ps} {labels = ls} {D = M} {h = k} before e) = writable_more ps (picked M k).0 (picks_writable C g ps ls M k before) (picked_writable M k)

pub picked_is_answered : PickedIsAnswered
picked_is_answered names p seed fuel end places labels distinct ordered r fits =
    let back = free_runs_are_read_back names p places labels r.last distinct ordered (picked_runs_are_free p seed fuel end places labels r) fits in
    let file : IsFile names (file_text names places labels) places labels
    = record {
      trace = lines_text names labels;
      choices_are = record { writable = picks_writable (opening p) (generator seed) places labels r.last r.after r.picks; whole = refl };
      lines_are = back.0;
    } in
    record {
      file = file;
      only = λ others lines f. one_file (file_text names places labels) names others places lines labels distinct f file;
      agrees = picked_agrees p seed fuel end places labels r;
    }
