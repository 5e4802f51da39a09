-- A word is read back from its pair, and pairs of words among the words of levels.
use Rattle.std.proofs.Common.{ℕ, ◌<◌, ◌≤◌, ◌≡◌, ◌≢◌, ◌==◌, Bool, true, false, cond, nat_lt, List, length, replicate, set, refl, sym, ap, ◌∙◌, subst, arith, rules, Some, None, option_map, unwrap_or, pos}
use Rattle.std.proofs.lemmas.List.{get_or-set_same, get_or-set_other, get_or-replicate, get_or_past, length-replicate}
use Rattle.std.proofs.lemmas.Bool.Decides.{nat_tests}
use Rattle.std.proofs.lemmas.Int.{to_z-of_z}
use Rattle.std.specs.Int.{w64}
use Rattle.pict_core.specs.Term.{Int}
use Rattle.pict_desk.specs.Known.{pair_at, value_in, known}
use Rattle.pict_heap.specs.HeapState.{HeapState, value_of, IsWord}
use Rattle.pict_syntax.proofs.Numbered.{found_at}
use Rattle.pict_heap.specs.Packed.{packed, unpacked, FitsWord}
use Rattle.pict_heap.specs.declared.word.Word.{Word}
use Rattle.pict_heap.specs.declared.word.Word.TheVariants as word
use Rattle.pict_desk.specs.Pairs.{IsPair, ArePairs}

bool_back : (b : Bool) → unpacked (packed (word.Bool b)).0 (packed (word.Bool b)).1 ≡ Some (word.Bool b)
bool_back true = refl
bool_back false = refl

pub packed_back : (w : Word) → FitsWord w → unpacked (packed w).0 (packed w).1 ≡ Some w
packed_back (word.Int n) fits = ap (λ m. Some (word.Int m)) (to_z-of_z w64 n fits)
packed_back (word.Char byte) fits =
    let small : byte < 256 = omega (arith, fits) in
    let test : nat_lt byte 256 ≡ true = grind (arith, nat_tests) in
    ap (λ b. cond b (Some (word.Char byte)) None) test
packed_back (word.Bool b) fits = bool_back b
packed_back (word.Chan number) fits =
    let small : number < 4294967296 = omega (arith, fits) in
    let test : nat_lt number 4294967296 ≡ true = grind (arith, nat_tests) in
    ap (λ b. cond b (Some (word.Chan number)) None) test
packed_back (word.Prim p) fits = ap (option_map word.Prim) (found_at p)
packed_back (word.Text number) fits = refl
packed_back (word.Fields number) fits = refl

-- ---- the words of levels

pub value_packed : (h : HeapState) (w : Word) (pair : ℕ × ℕ) → FitsWord w → packed w ≡ pair → value_in h pair.0 pair.1 ≡ value_of h w
value_packed h w pair fits e =
    ap (λ (x : ℕ × ℕ). value_in h x.0 x.1) (sym e) ∙ ap (λ o. unwrap_or (option_map (value_of h) o) (Int (pos 0))) (packed_back w fits)

module _ (h : HeapState) (values : List (ℕ × ℕ)) (level : ℕ) (w : Word) (pair : ℕ × ℕ) (fits : FitsWord w) (packs : packed w ≡ pair) (inside : level < length values) where
  pub set_here : known h (set values level pair) level ≡ value_of h w
  set_here = ap (λ (x : ℕ × ℕ). value_in h x.0 x.1) (get_or-set_same values level pair (0, 0) inside) ∙ value_packed h w pair fits packs

  pub set_pairs : IsWord h w → ArePairs h values → ArePairs h (set values level pair)
  set_pairs is pairs other = by_case (other == level) refl
    where
      by_case : (b : Bool) → (other == level) ≡ b → IsPair h (pair_at (set values level pair) other)
      by_case true e =
          let same : level ≡ other = grind (arith, nat_tests) in
          subst (λ l. IsPair h (pair_at (set values level pair) l)) same
          (subst (IsPair h) (sym (get_or-set_same values level pair (0, 0) inside)) (record { word = w; is = is; fits = fits; packs = packs }))
      by_case false e =
          let apart : other ≢ level = grind (arith, nat_tests) in
          subst (IsPair h) (sym (get_or-set_other values level other pair (0, 0) apart)) (pairs other)

-- ---- values of levels that are all 0

zero_pair : (h : HeapState) → IsPair h (0, 0)
zero_pair h = record { word = word.Int (pos 0); is = tt; fits = search rules; packs = refl }

always_zero : (n level : ℕ) → pair_at (replicate n (0, 0)) level ≡ (0, 0)
always_zero n level = by_side (nat_lt level n) refl
  where
    by_side : (b : Bool) → nat_lt level n ≡ b → pair_at (replicate n (0, 0)) level ≡ (0, 0)
    by_side true low = get_or-replicate n level (0, 0) (0, 0) (grind (arith, nat_tests))
    by_side false high = let past : n ≤ level = grind (arith, nat_tests) in get_or_past (replicate n (0, 0)) level (0, 0) (let zeros : List (ℕ × ℕ) = replicate n (0, 0) in let many : length zeros ≡ n = length-replicate {A = ℕ × ℕ} n (0, 0) in omega (arith, past, many))

pub zeros_are_pairs : (h : HeapState) (values : List (ℕ × ℕ)) (n : ℕ) → values ≡ replicate n (0, 0) → ArePairs h values
zeros_are_pairs h values n e level = subst (IsPair h) (sym (ap (λ vs. pair_at vs level) e ∙ always_zero n level)) (zero_pair h)
