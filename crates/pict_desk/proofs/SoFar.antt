-- Values bound part by part.
use Rattle.std.proofs.Common.{ℕ, ◌+◌, ◌≤◌, ◌≡◌, Bool, true, false, ◌||◌, List, [], ◌∷◌, ◌++◌, map, refl, sym, ap, ◌∙◌, subst, arith, append_assoc, append-nil, Option, Some, None}
use Rattle.std.proofs.lemmas.List.{map-append}
use Rattle.std.specs.Option.{IsSome}
use Rattle.pict_core.specs.Term.{Val}
use Rattle.pict_core.specs.Matching.{both}
use Rattle.pict_core.specs.Found.{after}
use Rattle.pict_core.proofs.Matched.{after-both}
use Rattle.pict_code.specs.Levels.{has, Rises}
use Rattle.pict_code.proofs.Levels.{has_append, none_below}
use Rattle.pict_desk.specs.Known.{pair_at, value_in, known}
use Rattle.pict_heap.specs.HeapState.{HeapState}
use Rattle.pict_desk.specs.Binding.{Binds}

-- Of all levels these are to get what is left, and those before them have got the rest of the whole.
pub record BindsSoFar (h : HeapState) (all rest : List ℕ) (whole left : Option (List Val)) (before now : List (ℕ × ℕ)) : Type 0 where
  pub done : List ℕ
  pub found : List Val
  pub levels : all ≡ done ++ rest
  pub same : whole ≡ after found left
  pub here : map (known h now) done ≡ found
  pub others : (level : ℕ) → has level done ≡ false → pair_at now level ≡ pair_at before level

after_none : (o : Option (List Val)) → o ≡ after [] o
after_none None = refl
after_none (Some vs) = refl

pub nothing_yet : (h : HeapState) (all : List ℕ) (whole : Option (List Val)) (values : List (ℕ × ℕ)) → BindsSoFar h all all whole whole values values
nothing_yet h all whole values = record { done = []; found = []; levels = refl; same = after_none whole; here = refl; others = λ level no. refl }

-- ---- rising levels

rises_more : (low high : ℕ) (ls : List ℕ) → low ≤ high → Rises high ls → Rises low ls
rises_more low high [] h r = tt
rises_more low high (l ∷ ls) h r = (let e = r.0 in omega (arith, h, e), r.1)

pub rises_front : (low : ℕ) (xs ys : List ℕ) → Rises low (xs ++ ys) → Rises low xs
rises_front low [] ys r = tt
rises_front low (x ∷ xs) ys r = (r.0, rises_front (x + 1) xs ys r.1)

pub rises_back : (xs ys : List ℕ) (low : ℕ) → Rises low (xs ++ ys) → Rises 0 ys
rises_back [] ys low r = rises_more 0 low ys (omega arith) r
rises_back (x ∷ xs) ys low r = rises_back xs ys (x + 1) r.1

or_false : (a b : Bool) → a || b ≡ false → b ≡ false
or_false true b e = cc
or_false false b e = e

pub neither : (a b : Bool) → a || b ≡ false → (a ≡ false) × (b ≡ false)
neither true b e = cc
neither false b e = (refl, e)

-- what the later levels get leaves the earlier ones
pub earlier_stay : (f g : ℕ → Val) (low : ℕ) (xs ys : List ℕ) → Rises low (xs ++ ys) → ((level : ℕ) → has level ys ≡ false → g level ≡ f level) → map g xs ≡ map f xs
earlier_stay f g low [] ys r same = refl
earlier_stay f g low (x ∷ xs) ys r same =
    let none : has x (xs ++ ys) ≡ false = none_below (x + 1) x (xs ++ ys) r.1 (omega arith) in
    let here : g x ≡ f x = same x (or_false (has x xs) (has x ys) (sym (has_append x xs ys) ∙ none)) in
    cc (here, earlier_stay f g (x + 1) xs ys r.1 same)

-- ---- a part more

module _ (h : HeapState) (all rest ls left_levels : List ℕ) (whole left o left' : Option (List Val)) (before now next : List (ℕ × ℕ)) (rising : Rises 0 all) (s : BindsSoFar h all rest whole left before now)
    (next_levels : rest ≡ ls ++ left_levels) (next_found : left ≡ both o left') (b : Binds h ls o now next) where
  levels_split : all ≡ (s.done ++ ls) ++ left_levels
  levels_split = s.levels ∙ ap (λ xs. s.done ++ xs) next_levels ∙ sym (append_assoc s.done ls left_levels)

  earlier_same : map (known h next) s.done ≡ map (known h now) s.done
  earlier_same =
      earlier_stay (known h now) (known h next) 0 s.done ls (rises_front 0 (s.done ++ ls) left_levels (subst (Rises 0) levels_split rising))
      (λ level no. ap (λ (x : ℕ × ℕ). value_in h x.0 x.1) (b.others level no))

  pub a_part_more : BindsSoFar h all left_levels whole left' before next
  a_part_more = record {
    done = s.done ++ ls;
    found = s.found ++ b.bound;
    levels = levels_split;
    same = s.same ∙ ap (after s.found) (next_found ∙ ap (λ x. both x left') b.fits) ∙ after-both s.found b.bound left';
    here = map-append (known h next) s.done ls ∙ ap (λ vs. vs ++ map (known h next) ls) (earlier_same ∙ s.here) ∙ ap (λ vs. s.found ++ vs) b.here;
    others = λ level no.
        let n = neither (has level s.done) (has level ls) (sym (has_append level s.done ls) ∙ no) in
        b.others level n.1 ∙ s.others level n.0;
  }

pub all_parts : (h : HeapState) (all rest : List ℕ) (whole left : Option (List Val)) (before now : List (ℕ × ℕ)) → BindsSoFar h all rest whole left before now → rest ≡ [] → left ≡ Some [] → Binds h all whole before now
all_parts h all rest whole left before now s no_more nothing =
    let levels : s.done ≡ all = sym (append-nil s.done) ∙ ap (λ xs. s.done ++ xs) (sym no_more) ∙ sym s.levels in
    record {
      bound = s.found;
      fits = s.same ∙ ap (after s.found) nothing ∙ ap Some (append-nil s.found);
      here = ap (map (known h now)) (sym levels) ∙ s.here;
      others = λ level no. s.others level (ap (has level) levels ∙ no);
    }

-- ---- what is left fits where the whole does

left_fits : (found : List Val) (left : Option (List Val)) → IsSome (after found left) → IsSome left
left_fits found None h = h
left_fits found (Some vs) h = refl

pub both_first : (o p : Option (List Val)) → IsSome (both o p) → IsSome o
both_first None p h = h
both_first (Some vs) p h = refl

pub both_second : (o p : Option (List Val)) → IsSome (both o p) → IsSome p
both_second None p h = cc
both_second (Some vs) None h = h
both_second (Some vs) (Some ws) h = refl

pub both_nothing : (o : Option (List Val)) → o ≡ both o (Some [])
both_nothing None = refl
both_nothing (Some vs) = ap Some (sym (append-nil vs))

pub rest_fits : (h : HeapState) (all rest : List ℕ) (whole left : Option (List Val)) (before now : List (ℕ × ℕ)) → BindsSoFar h all rest whole left before now → IsSome whole → IsSome left
rest_fits h all rest whole left before now s some = left_fits s.found left (subst IsSome s.same some)

-- two parts are the whole
pub two_parts : (h : HeapState) (xs ys : List ℕ) (o p : Option (List Val)) (before mid after_both : List (ℕ × ℕ)) → Rises 0 (xs ++ ys) → Binds h xs o before mid → Binds h ys p mid after_both
    → Binds h (xs ++ ys) (both o p) before after_both
two_parts h xs ys o p before mid last rising first second =
    all_parts h (xs ++ ys) [] (both o p) (Some []) before last
    (a_part_more h (xs ++ ys) ys ys [] (both o p) p p (Some []) before mid last rising
    (a_part_more h (xs ++ ys) (xs ++ ys) xs ys (both o p) (both o p) o p before before mid rising (nothing_yet h (xs ++ ys) (both o p) before) refl refl first)
    (sym (append-nil ys)) (both_nothing p) second)
    refl refl
