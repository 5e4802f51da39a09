-- Configurations whose processes are the same, in another order and with other names for channels, have congruent readings.
use Rattle.std.proofs.Common.{ℕ, zero, suc, ◌+◌, ◌<◌, ◌≤◌, ◌≡◌, ◌⊎◌, inl, inr, List, [], ◌∷◌, length, map, refl, sym, ap, ◌∙◌, subst, arith, Some, Bool, Result, Ok, Err, IfOk, IsTrue}
use Rattle.std.specs.List.{slice_get, slice_index_or, remove}
use Rattle.std.specs.declared.alloc.AllocError.{AllocError}
use Rattle.pict_core.specs.Term.{Val, Process, Var, Par}
use Rattle.pict_core.specs.Substitution.{replace}
use Rattle.pict_core.specs.Configuration.{Entry, Configuration}
use Rattle.pict_core.proofs.Replacing.{two, replace-after}
use Rattle.pict_reduction.specs.Congruence.{Congruent, transitive, renaming}
use Rattle.pict_reduction.specs.Reading.{naming, read, composition, declare, reading}
use Rattle.pict_reduction.specs.Components.{renamed, Permutes}
use Rattle.pict_reduction.proofs.Renaming.{fun_ext, below_or}
use Rattle.pict_reduction.proofs.Reductions.{same_process, declared_congruent}
use Rattle.pict_reduction.proofs.Rebuilding.{together, permuted, Picks, here, there, Picked, picked_together}
use Rattle.pict_shared.specs.declared.held.Held.{Held}
use Rattle.pict_shared.specs.Plain.{plain_held}
use Rattle.pict_orders.specs.declared.state.State.{State}
use Rattle.pict_orders.specs.Plain.{configuration_of, entries_of}
use Rattle.pict_shared.specs.Alike.{through, renaming_by, AreInverse, renamed_processes, processes, Rearranges}

-- ---- lists of names

past : (xs : List ℕ) (i d : ℕ) → length xs ≤ i → slice_index_or xs i d ≡ d
past [] i d h = refl
past (x ∷ xs) zero d h = absurd (omega (arith, h))
past (x ∷ xs) (suc i) d h = past xs i d (omega (arith, h))

pub permutes_by : (names back : List ℕ) → AreInverse names back → Permutes 0 (length names) (through names)
permutes_by names back h = record {
  inverse = through back;
  back = λ x. there_and_back x (below_or x (length names));
  forth = λ x. back_and_there x (below_or x (length back));
  fixed_below = λ x l. absurd (omega (arith, l));
  fixed_above = λ x l. past names x x (omega (arith, l));
}
  where
    same : length names ≡ length back
    same = h.lengths

    there_and_back : (x : ℕ) → (x < length names) ⊎ (length names ≤ x) → through back (through names x) ≡ x
    there_and_back x (inl l) = (h.there x l).1
    there_and_back x (inr l) = ap (through back) (past names x x l) ∙ past back x x (omega (arith, l, same))

    back_and_there : (x : ℕ) → (x < length back) ⊎ (length back ≤ x) → through names (through back x) ≡ x
    back_and_there x (inl l) = (h.again x l).1
    back_and_there x (inr l) = ap (through names) (past back x x l) ∙ past names x x (omega (arith, l, same))

-- ---- other names for channels are other names for variables of the reading

read_renamed : (n : ℕ) (names : List ℕ) → Permutes 0 n (through names) → (p : Process) → renamed (through names) (read n p) ≡ read n (replace (renaming_by names) p)
read_renamed n names h p =
    replace-after (renaming (through names)) (naming n) p
    ∙ ap (λ (f : ℕ → Val). replace (record { variable = f; channel = λ c. Var (through names c) }) p) (fun_ext (λ level. ap Var (h.fixed_above (level + n) (omega arith))))
    ∙ sym (replace-after (naming n) (renaming_by names) p)

composition_renamed : (n : ℕ) (names : List ℕ) → Permutes 0 n (through names) → (es : List Entry) → renamed (through names) (composition n es) ≡ together (map (read n) (renamed_processes names es))
composition_renamed n names h [] = refl
composition_renamed n names h (e ∷ es) = two Par (read_renamed n names h e.process) (composition_renamed n names h es)

composed : (n : ℕ) (es : List Entry) → together (map (read n) (processes es)) ≡ composition n es
composed n [] = refl
composed n (e ∷ es) = ap (Par (read n e.process)) (composed n es)

-- ---- another order

module _ (g : Process → Process) where
  picks_at : (xs : List Process) (i : ℕ) (y : Process) → slice_get xs i ≡ Some y → Picks (g y) (map g xs) (map g (remove xs i))
  picks_at [] i y e = cc
  picks_at (x ∷ xs) zero y e = let f : x ≡ y = cc in subst (λ z. Picks (g z) (map g (x ∷ xs)) (map g xs)) f here
  picks_at (x ∷ xs) (suc i) y e = there (picks_at xs i y e)

  picked : (xs ys : List Process) → Rearranges xs ys → Picked (map g xs) (map g ys)
  picked xs [] e = ap (map g) e
  picked xs (y ∷ ys) r = (map g (remove xs r.0), picks_at xs r.0 y r.1, picked (remove xs r.0) ys r.2)

pub alike_readings : (C D : Configuration) (names : List ℕ) → length names ≡ C.channels → C.channels ≡ D.channels → Permutes 0 (length names) (through names)
    → Rearranges (renamed_processes names C.entries) (processes D.entries) → Congruent 0 (reading C) (reading D)
alike_readings C D names many same h r =
    let n = C.channels in
    let p : Permutes 0 n (through names) = subst (λ k. Permutes 0 k (through names)) many h in
    transitive (permuted 0 n (through names) p (composition n C.entries))
    (transitive (same_process (ap (declare n) (composition_renamed n names p C.entries)))
    (transitive (declared_congruent n _ _ (picked_together _ _ (picked (read n) _ _ r)))
    (same_process (ap (declare n) (composed n D.entries) ∙ ap (λ k. declare k (composition k D.entries)) same))))

pub alike_by : (r : Result Bool AllocError) (one other : State) (xs ys : List Held) (names : List ℕ) → length names ≡ one.channels → one.channels ≡ other.channels → Permutes 0 (length names) (through names)
    → xs ≡ one.entries.items → ys ≡ other.entries.items
    → IfOk r (λ answer. IsTrue answer → Rearranges (renamed_processes names (map plain_held xs)) (processes (map plain_held ys)))
    → IfOk r (λ answer. IsTrue answer → Congruent 0 (reading (configuration_of one)) (reading (configuration_of other)))
alike_by (Ok answer) one other xs ys names many same h e f k = λ t.
    alike_readings (configuration_of one) (configuration_of other) names many same h
    (subst (λ (l : List Held). Rearranges (renamed_processes names (map plain_held l)) (processes (entries_of other))) e
    (subst (λ (l : List Held). Rearranges (renamed_processes names (map plain_held xs)) (processes (map plain_held l))) f (k t)))
alike_by (Err x) one other xs ys names many same h e f k = k
