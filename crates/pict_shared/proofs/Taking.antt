-- Processes are taken out of a list, one after the other.
use Rattle.std.proofs.Common.{ℕ, zero, suc, ◌+◌, ◌<◌, ◌≡◌, List, [], ◌∷◌, length, map, drop, get_or, refl, sym, ap, ◌∙◌, subst, Some, option_map, Global}
use Rattle.std.specs.List.{slice_get, remove}
use Rattle.std.specs.declared.rc.Rc.{Rc}
use Rattle.std.proofs.lemmas.List.{drop_more}
use Rattle.std.proofs.lemmas.Option.{slice_get-map, slice_get_read}
use Rattle.pict_core.specs.Term.{Process}
use Rattle.pict_core.specs.Plain.{plain_core}
use Rattle.pict_core.specs.Substitution.{replace}
use Rattle.pict_shared.specs.declared.held.Held.{Held}
use Rattle.pict_shared.specs.declared.shaped.Shaped.{Shaped}
use Rattle.pict_shared.specs.Plain.{plain_held}
use Rattle.pict_shared.specs.Alike.{renaming_by, processes, Rearranges}
use Rattle.pict_shared.specs.Taking.{renamed_core, Takes}

module _ {X : Type 0} (f : X → Process) where
  map_remove : (xs : List X) (i : ℕ) → map f (remove xs i) ≡ remove (map f xs) i
  map_remove [] zero = refl
  map_remove [] (suc i) = refl
  map_remove (x ∷ xs) zero = refl
  map_remove (x ∷ xs) (suc i) = ap (λ l. f x ∷ l) (map_remove xs i)

  pub taken_at : (xs : List X) (i : ℕ) (x : X) (p : Process) → i < length xs → x ≡ get_or xs i x → f x ≡ p → slice_get (map f xs) i ≡ Some p
  taken_at xs i x p h k e = slice_get-map f xs i ∙ ap (option_map f) (slice_get_read xs (length xs) i x refl h k) ∙ ap Some e

  pub taken : (left less : List X) (p : Process) (ys : List Process) (i : ℕ) → slice_get (map f left) i ≡ Some p → less ≡ remove left i → Rearranges (map f less) ys → Rearranges (map f left) (p ∷ ys)
  taken left less p ys i e h r = (i, e, subst (λ l. Rearranges l ys) (ap (map f) h ∙ map_remove left i) r)

-- the next of the others, and then the rest of them
pub taken_next : (names : List ℕ) (left less : List (Rc Shaped Global)) (others : List Held) (k : ℕ) (e : Held) (shaped : Shaped) → k < length others → e ≡ get_or others k e → shaped ≡ e.process.value
    → Takes names left less (plain_core shaped.core) → Rearranges (map (renamed_core names) less) (processes (map plain_held (drop (k + 1) others)))
    → Rearranges (map (renamed_core names) left) (processes (map plain_held (drop k others)))
taken_next names left less others k e shaped within is same t r =
    subst (λ (l : List Held). Rearranges (map (renamed_core names) left) (processes (map plain_held l))) (sym (drop_more others k e within ∙ ap (λ (x : Held). x ∷ drop (k + 1) others) (sym is)))
    (taken (renamed_core names) left less (plain_held e).process (processes (map plain_held (drop (k + 1) others))) t.0 (t.1 ∙ ap (λ (x : Shaped). Some (plain_core x.core)) same) t.2 r)

-- the one at this index is taken
pub takes_at : (names : List ℕ) (old left new : List (Rc Shaped Global)) (i : ℕ) (x : Rc Shaped Global) (shaped : Shaped) (p : Process) → left ≡ old → i < length old → x ≡ get_or left i x → shaped ≡ x.value
    → replace (renaming_by names) (plain_core shaped.core) ≡ p → new ≡ remove left i → Takes names old new p
takes_at names old left new i x shaped p unchanged within is same e h =
    subst (λ (l : List (Rc Shaped Global)). Takes names l new p) unchanged
    (i, taken_at (renamed_core names) left i x p (subst (λ (l : List (Rc Shaped Global)). i < length l) (sym unchanged) within) is (ap (λ (y : Shaped). replace (renaming_by names) (plain_core y.core)) (sym same) ∙ e), h)
