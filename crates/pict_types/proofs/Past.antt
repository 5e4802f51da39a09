-- What stands for the variables of a type under binders, where types and operators are put for others.
use Rattle.std.proofs.Common.{◌≡◌, ℕ, zero, suc, ◌+◌, ◌-◌, ◌<◌, ◌≤◌, List, [], ◌∷◌, length, get_or, refl, sym, ◌∙◌, ap, subst, arith}
use Rattle.pict_types.specs.declared.types.Arg.{Arg}
use Rattle.pict_types.specs.Plain.{plain_arg, plain_args}
use Rattle.pict_types.specs.Types.{PlainType, Top, Var, PlainTypes, no_type, types, PlainBounds, no_bound, bounds, count_bounds}
use Rattle.pict_types.specs.Renaming.{beyond, beyond_times, plus, rename, moved}
use Rattle.pict_types.specs.Replacing.{Filling, fill, with_type, with_types, no_filling, Head, variable, operator, nothing, rename_head, Replacement, replacement_past, replacement_beyond_all, type_in, head_in, with_arg, with_args, arguments, no_replacement}
use Rattle.pict_types.specs.Filling.{moved_by}
use Rattle.pict_types.proofs.Renamed.{Joins, joins_beyond, renamed_twice, Stays, stays_beyond, rename_same}
use Rattle.pict_types.proofs.Replaced.{beyond_after}
use Rattle.pict_types.proofs.Composed.{IsAfter, fill_after}

pub type_low : (s : Replacement) (d i : ℕ) → i < d → (replacement_past d s).type_of i ≡ Var i
type_low s zero i h = absurd (omega arith)
type_low s (suc d) zero h = refl
type_low s (suc d) (suc i) h = ap (rename suc) (type_low s d i (omega arith))

pub type_high : (s : Replacement) (d i j : ℕ) → i ≡ j + d → (replacement_past d s).type_of i ≡ rename (moved d 0) (s.type_of j)
type_high s zero i j e =
    let k : i ≡ j = omega arith in
    ap s.type_of k ∙ sym (rename_same (s.type_of j) (record { each = λ n. none n }))
  where
    none : (n : ℕ) → n + 0 ≡ n
    none n = omega arith
type_high s (suc d) zero j e = absurd (omega arith)
type_high s (suc d) (suc i) j e =
    ap (rename suc) (type_high s d i j (omega arith)) ∙ renamed_twice (s.type_of j) (record { each = λ n. more n })
  where
    more : (n : ℕ) → suc (n + d) ≡ n + suc d
    more n = omega arith

joins_times : (n : ℕ) {g f k : ℕ → ℕ} → Joins g f k → Joins (beyond_times n g) (beyond_times n f) (beyond_times n k)
joins_times zero h = h
joins_times (suc n) h = joins_beyond (joins_times n h)

stays_past : (n : ℕ) {f : ℕ → ℕ} → Stays f → Stays (beyond_times n f)
stays_past zero h = h
stays_past (suc n) h = stays_beyond (stays_past n h)

pub head_same : {f : ℕ → ℕ} (h : Head) → Stays f → rename_head f h ≡ h
head_same (variable i) x = ap variable (x.each i)
head_same (operator n t) x = ap (operator n) (rename_same t (stays_past n x))
head_same nothing x = refl

pub head_twice : {g f k : ℕ → ℕ} (h : Head) → Joins g f k → rename_head g (rename_head f h) ≡ rename_head k h
head_twice (variable i) x = ap variable (x.each i)
head_twice (operator n t) x = ap (operator n) (renamed_twice t (joins_times n x))
head_twice nothing x = refl

pub head_low : (s : Replacement) (d i : ℕ) → i < d → (replacement_past d s).head_of i ≡ variable i
head_low s zero i h = absurd (omega arith)
head_low s (suc d) zero h = refl
head_low s (suc d) (suc i) h = ap (rename_head suc) (head_low s d i (omega arith))

pub head_high : (s : Replacement) (d i j : ℕ) → i ≡ j + d → (replacement_past d s).head_of i ≡ rename_head (plus d) (s.head_of j)
head_high s zero i j e =
    let k : i ≡ j = omega arith in
    ap s.head_of k ∙ sym (head_same (s.head_of j) (record { each = λ n. none n }))
  where
    none : (n : ℕ) → n + 0 ≡ n
    none n = omega arith
head_high s (suc d) zero j e = absurd (omega arith)
head_high s (suc d) (suc i) j e =
    ap (rename_head suc) (head_high s d i j (omega arith)) ∙ head_twice (s.head_of j) (record { each = λ n. more n })
  where
    more : (n : ℕ) → suc (n + d) ≡ n + suc d
    more n = omega arith

pub all_past : (d : ℕ) (s : Replacement) (bs : PlainBounds) → replacement_beyond_all bs (replacement_past d s) ≡ replacement_past (d + count_bounds bs) s
all_past d s no_bound = ap (λ n. replacement_past n s) (omega arith)
all_past d s (bounds b bs) = all_past (suc d) s bs ∙ ap (λ n. replacement_past n s) (omega arith)

-- the body of an operator, moved under d binders, with arguments
after_type : {s : Filling} {f : ℕ → ℕ} {r : Filling} (t : PlainType) → IsAfter s f r → IsAfter (with_type t s) (beyond f) (with_type t r)
after_type {s = s} {f = f} {r = r} t h = record { types_ = go; heads_ = go2 }
  where
    go : (i : ℕ) → (with_type t s).type_for (beyond f i) ≡ (with_type t r).type_for i
    go zero = refl
    go (suc i) = h.types_ i

    go2 : (i : ℕ) → (with_type t s).head_for (beyond f i) ≡ (with_type t r).head_for i
    go2 zero = refl
    go2 (suc i) = h.heads_ i

after_types : (n : ℕ) (us : PlainTypes) {s : Filling} {f : ℕ → ℕ} {r : Filling} → IsAfter s f r → IsAfter (with_types n us s) (beyond_times n f) (with_types n us r)
after_types zero us h = h
after_types (suc n) no_type {s = s} {f = f} {r = r} h =
    subst (λ g. IsAfter (with_types n no_type (with_type Top s)) g (with_types n no_type (with_type Top r))) (beyond_after n f) (after_types n no_type (after_type Top h))
after_types (suc n) (types t ts) {s = s} {f = f} {r = r} h =
    subst (λ g. IsAfter (with_types n ts (with_type t s)) g (with_types n ts (with_type t r))) (beyond_after n f) (after_types n ts (after_type t h))

pub applied_moved : (n d : ℕ) (us : PlainTypes) (t : PlainType) → fill (with_types n us no_filling) (rename (moved d n) t) ≡ fill (with_types n us (moved_by d)) t
applied_moved n d us t = fill_after (after_types n us (record { types_ = λ i. refl; heads_ = λ i. refl })) t

-- what stands for a variable, moved again
pub moved_type : (d by : ℕ) (t : PlainType) → rename (moved d 0) (rename (moved by 0) t) ≡ rename (moved (by + d) 0) t
moved_type d by t = renamed_twice t (record { each = λ n. more n })
  where
    more : (n : ℕ) → n + by + d ≡ n + (by + d)
    more n = omega arith

pub moved_operator : (n d by : ℕ) (t : PlainType) → rename (beyond_times n (plus d)) (rename (moved by n) t) ≡ rename (moved (by + d) n) t
moved_operator n d by t = renamed_twice t (joins_times n (record { each = λ i. more i }))
  where
    more : (i : ℕ) → i + by + d ≡ i + (by + d)
    more i = omega arith

pub not_moved : (n : ℕ) (t : PlainType) → rename (moved 0 n) t ≡ t
not_moved n t = rename_same t (stays_past n (record { each = λ i. none i }))
  where
    none : (i : ℕ) → i + 0 ≡ i
    none i = omega arith

-- the arguments stand for the innermost variables, the last one for variable 0
args_rest : (xs : List Arg) (s : Replacement) (j k : ℕ) → j ≡ k + length xs → (with_args (plain_args xs) s).type_of j ≡ s.type_of k
args_rest [] s j k e = let h : j ≡ k = omega arith in ap s.type_of h
args_rest (x ∷ xs) s j k e = args_rest xs (with_arg (plain_arg x) s) j (suc k) (omega arith)

args_at : (xs : List Arg) (s : Replacement) (p j : ℕ) (d : Arg) → j + suc p ≡ length xs → (with_args (plain_args xs) s).type_of j ≡ type_in (plain_arg (get_or xs p d))
args_at [] s p j d e = absurd (omega arith)
args_at (x ∷ xs) s zero j d e = args_rest xs (with_arg (plain_arg x) s) j 0 (omega arith)
args_at (x ∷ xs) s (suc p) j d e = args_at xs (with_arg (plain_arg x) s) p j d (omega arith)

heads_rest : (xs : List Arg) (s : Replacement) (j k : ℕ) → j ≡ k + length xs → (with_args (plain_args xs) s).head_of j ≡ s.head_of k
heads_rest [] s j k e = let h : j ≡ k = omega arith in ap s.head_of h
heads_rest (x ∷ xs) s j k e = heads_rest xs (with_arg (plain_arg x) s) j (suc k) (omega arith)

heads_at : (xs : List Arg) (s : Replacement) (p j : ℕ) (d : Arg) → j + suc p ≡ length xs → (with_args (plain_args xs) s).head_of j ≡ head_in (plain_arg (get_or xs p d))
heads_at [] s p j d e = absurd (omega arith)
heads_at (x ∷ xs) s zero j d e = heads_rest xs (with_arg (plain_arg x) s) j 0 (omega arith)
heads_at (x ∷ xs) s (suc p) j d e = heads_at xs (with_arg (plain_arg x) s) p j d (omega arith)

pub argument_type : (xs : List Arg) (i : ℕ) (d : Arg) → i < length xs → (arguments (plain_args xs)).type_of i ≡ type_in (plain_arg (get_or xs (length xs - 1 - i) d))
argument_type xs i d h = args_at xs no_replacement (length xs - 1 - i) i d (omega arith)

pub argument_head : (xs : List Arg) (i : ℕ) (d : Arg) → i < length xs → (arguments (plain_args xs)).head_of i ≡ head_in (plain_arg (get_or xs (length xs - 1 - i) d))
argument_head xs i d h = heads_at xs no_replacement (length xs - 1 - i) i d (omega arith)

pub beyond_arguments : (xs : List Arg) (i : ℕ) → length xs ≤ i → (arguments (plain_args xs)).type_of i ≡ Var (i - length xs)
beyond_arguments xs i h = args_rest xs no_replacement i (i - length xs) (omega arith)

pub beyond_heads : (xs : List Arg) (i : ℕ) → length xs ≤ i → (arguments (plain_args xs)).head_of i ≡ variable (i - length xs)
beyond_heads xs i h = heads_rest xs no_replacement i (i - length xs) (omega arith)

pub ruleset argument_rules = (argument_type, argument_head, beyond_arguments, beyond_heads)

-- what stands for variable j outside stands, moved, for variable i under d binders
pub type_under : (s : Replacement) (d i j : ℕ) (t u : PlainType) → i ≡ j + d → t ≡ s.type_of j → u ≡ rename (moved d 0) t → u ≡ (replacement_past d s).type_of i
type_under s d i j t u e h k = k ∙ ap (rename (moved d 0)) h ∙ sym (type_high s d i j e)

pub head_under : (s : Replacement) (d i j : ℕ) (t u : Head) → i ≡ j + d → t ≡ s.head_of j → u ≡ rename_head (plus d) t → u ≡ (replacement_past d s).head_of i
head_under s d i j t u e h k = k ∙ ap (rename_head (plus d)) h ∙ sym (head_high s d i j e)
