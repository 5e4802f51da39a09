-- The names of a pattern, bound to the variables from a level on.
use Rattle.std.proofs.Common.{◌≡◌, ◌≤◌, ℕ, zero, suc, ◌+◌, Bool, true, false, List, [], ◌∷◌, ◌++◌, length, drop, get_or, Option, Some, None, refl, sym, ◌∙◌, ap, subst, arith, nat_eq}
use Rattle.std.specs.Prelude.{slice_get}
use Rattle.std.proofs.lemmas.Bool.{eq-eqb}
use Rattle.pict_core.specs.Term as core
use Rattle.pict_core.specs.Term.{Var}
use Rattle.pict_translation.specs.Placed.{variables}
use Rattle.pict_translation.specs.Simple.{value_at, binding, nothing}
use Rattle.pict_bridge.specs.Opening.{named}
use Rattle.pict_bridge.proofs.NamesOnce.{one_if, times}

-- how often a name stands among the names of variables
abbrev pub is_slot : ℕ → Option ℕ → ℕ
is_slot m None = 0
is_slot m (Some n) = one_if (nat_eq m n)

abbrev pub slot_times : ℕ → List (Option ℕ) → ℕ
slot_times m [] = 0
slot_times m (o ∷ slots) = is_slot m o + slot_times m slots

pub named_times : (m : ℕ) (ns : List ℕ) → slot_times m (named ns) ≡ times m ns
named_times m [] = refl
named_times m (n ∷ ns) = ap (λ k. one_if (nat_eq m n) + k) (named_times m ns)

pub slots_both : (m : ℕ) (xs ys : List (Option ℕ)) → slot_times m (xs ++ ys) ≡ slot_times m xs + slot_times m ys
slots_both m [] ys = omega arith
slots_both m (x ∷ xs) ys = let e = slots_both m xs ys in omega (arith, e)

-- the values after a pattern: each name has the variable at its place, and the other names have what they had
pub record Binds (slots : List (Option ℕ)) (level : ℕ) (before after : List (ℕ × core.Val)) : Type 0 where
  pub at_ : (m place : ℕ) → slice_get slots place ≡ Some (Some m) → value_at after m ≡ Some (Var (level + place))
  pub others : (m : ℕ) → slot_times m slots ≡ 0 → value_at after m ≡ value_at before m

-- ---- look-up

passed : (m : ℕ) (ns : List ℕ) (vs : List core.Val) (around : List (ℕ × core.Val)) → times m ns ≡ 0 → value_at (binding ns vs around) m ≡ value_at around m
passed m [] vs around h = refl
passed m (n ∷ ns) [] around h = refl
passed m (n ∷ ns) (v ∷ vs) around h = go (nat_eq m n) refl (passed m ns vs ((n, v) ∷ around))
  where
    go : (b : Bool) → nat_eq m n ≡ b → (times m ns ≡ 0 → value_at (binding ns vs ((n, v) ∷ around)) m ≡ value_at ((n, v) ∷ around) m) → value_at (binding ns vs ((n, v) ∷ around)) m ≡ value_at around m
    go true q k = absurd (let e : 1 + times m ns ≡ 0 = ap (λ b. one_if b + times m ns) (sym q) ∙ h in omega (arith, e))
    go false q k = k (let e : 0 + times m ns ≡ 0 = ap (λ b. one_if b + times m ns) (sym q) ∙ h in omega (arith, e)) ∙ rw q refl

-- a name that stands once has the variable at its place
placed_at : (m j level more : ℕ) (ns : List ℕ) (around : List (ℕ × core.Val)) → times m ns ≤ 1 → slice_get ns j ≡ Some m → value_at (binding ns (variables level (length ns + more)) around) m ≡ Some (Var (level + j))
placed_at m j level more [] around x e = absurd (cc)
placed_at m zero level more (n ∷ ns) around x e =
    let q : n ≡ m = cc in
    let r : nat_eq m n ≡ true = eq-eqb m n (sym q) in
    let k : 1 + times m ns ≤ 1 = subst (λ b. one_if b + times m ns ≤ 1) r x in
    let l : length (n ∷ ns) + more ≡ suc (length ns + more) = omega arith in
    let z : level ≡ level + 0 = omega arith in
    ap (λ i. value_at (binding (n ∷ ns) (variables level i) around) m) l
    ∙ passed m ns (variables (level + 1) (length ns + more)) ((n, Var level) ∷ around) (omega (arith, k))
    ∙ rw r (ap (λ i. Some (Var i)) z)
placed_at m (suc j) level more (n ∷ ns) around x e =
    let l : length (n ∷ ns) + more ≡ suc (length ns + more) = omega arith in
    let z : level + 1 + j ≡ level + suc j = omega arith in
    ap (λ i. value_at (binding (n ∷ ns) (variables level i) around) m) l
    ∙ placed_at m j (level + 1) more ns ((n, Var level) ∷ around) (omega (arith, x)) e
    ∙ ap (λ i. Some (Var i)) z

unnamed_at : (ns : List ℕ) (j m : ℕ) → slice_get (named ns) j ≡ Some (Some m) → slice_get ns j ≡ Some m
unnamed_at [] j m e = absurd (cc)
unnamed_at (n ∷ ns) zero m e = let q : n ≡ m = cc in ap Some q
unnamed_at (n ∷ ns) (suc j) m e = unnamed_at ns j m e

-- the names of a pattern
pub names_bind : (ns : List ℕ) (level : ℕ) (before : List (ℕ × core.Val)) → ((m : ℕ) → times m ns ≤ 1) → Binds (named ns) level before (binding ns (variables level (length ns)) before)
names_bind ns level before h = record {
  at_ = λ m place e. let z : length ns ≡ length ns + 0 = omega arith in ap (λ i. value_at (binding ns (variables level i) before) m) z ∙ placed_at m place level 0 ns before (h m) (unnamed_at ns place m e);
  others = λ m e. passed m ns (variables level (length ns)) before (sym (named_times m ns) ∙ e);
}

-- ---- the names of a function's fields, with a variable without a name between them

get_variable : (level n i : ℕ) → suc i ≤ n → get_or (variables level n) i nothing ≡ Var (level + i)
get_variable level zero i h = absurd (omega (arith, h))
get_variable level (suc n) zero h = let z : level ≡ level + 0 = omega arith in ap Var z
get_variable level (suc n) (suc i) h = let z : level + 1 + i ≡ level + suc i = omega arith in get_variable (level + 1) n i (omega (arith, h)) ∙ ap Var z

drop_variables : (level k n : ℕ) → drop k (variables level (k + n)) ≡ variables (level + k) n
drop_variables level zero n = let e : 0 + n ≡ n = omega arith in let z : level ≡ level + 0 = omega arith in ap (variables level) e ∙ ap (λ i. variables i n) z
drop_variables level (suc k) n =
    let e : suc k + n ≡ suc (k + n) = omega arith in
    let z : level + 1 + k ≡ level + suc k = omega arith in
    ap (λ i. drop (suc k) (variables level i)) e ∙ drop_variables (level + 1) k n ∙ ap (λ i. variables i n) z

-- where a name stands in two lists with one place between them
data Among (xs ys : List ℕ) (m place : ℕ) : Type 0 where
  in_first : slice_get xs place ≡ Some m → Among xs ys m place
  in_second : (j : ℕ) → slice_get ys j ≡ Some m → place ≡ length xs + 1 + j → Among xs ys m place

among : (xs ys : List ℕ) (m place : ℕ) → slice_get ((named xs ++ None ∷ []) ++ named ys) place ≡ Some (Some m) → Among xs ys m place
among [] ys m zero e = absurd (cc)
among [] ys m (suc j) e = in_second j (unnamed_at ys j m e) (omega arith)
among (x ∷ xs) ys m zero e = in_first (let q : x ≡ m = cc in ap Some q)
among (x ∷ xs) ys m (suc j) e = go (among xs ys m j e)
  where
    go : Among xs ys m j → Among (x ∷ xs) ys m (suc j)
    go (in_first k) = in_first k
    go (in_second i k z) = in_second i k (omega (arith, z))

stands_in : (m j : ℕ) (ns : List ℕ) → slice_get ns j ≡ Some m → 1 ≤ times m ns
stands_in m j [] e = absurd (cc)
stands_in m zero (n ∷ ns) e = let q : n ≡ m = cc in let r : nat_eq m n ≡ true = eq-eqb m n (sym q) in subst (λ b. 1 ≤ one_if b + times m ns) (sym r) (omega arith)
stands_in m (suc j) (n ∷ ns) e = let k = stands_in m j ns e in omega (arith, k)

pub function_names_bind : (xs ys : List ℕ) (level : ℕ) (before : List (ℕ × core.Val)) → ((m : ℕ) → times m xs + times m ys ≤ 1)
    → Binds ((named xs ++ None ∷ []) ++ named ys) level before (binding ys (drop (length xs + 1) (variables level (length xs + suc (length ys)))) (binding xs (variables level (length xs + suc (length ys))) before))
function_names_bind xs ys level before h = record { at_ = λ m place e. find m place (among xs ys m place e); others = λ m e. miss m (apart m ∙ e) }
  where
    inner : List (ℕ × core.Val)
    inner = binding xs (variables level (length xs + suc (length ys))) before

    dropped : drop (length xs + 1) (variables level (length xs + suc (length ys))) ≡ variables (level + (length xs + 1)) (length ys)
    dropped = let e : length xs + suc (length ys) ≡ length xs + 1 + length ys = omega arith in ap (λ i. drop (length xs + 1) (variables level i)) e ∙ drop_variables level (length xs + 1) (length ys)

    apart : (m : ℕ) → times m xs + times m ys ≡ slot_times m ((named xs ++ None ∷ []) ++ named ys)
    apart m =
        let a = slots_both m (named xs ++ None ∷ []) (named ys) in
        let b = slots_both m (named xs) (None ∷ []) in
        let c = named_times m xs in
        let d = named_times m ys in
        omega (arith, a, b, c, d)

    find : (m place : ℕ) → Among xs ys m place → value_at (binding ys (drop (length xs + 1) (variables level (length xs + suc (length ys)))) inner) m ≡ Some (Var (level + place))
    find m place (in_first k) =
        let a = stands_in m place xs k in
        let b = h m in
        passed m ys _ inner (omega (arith, a, b)) ∙ placed_at m place level (suc (length ys)) xs before (omega (arith, b)) k
    find m place (in_second j k z) =
        let b = h m in
        let e : length ys ≡ length ys + 0 = omega arith in
        let i : level + (length xs + 1) + j ≡ level + place = omega (arith, z) in
        ap (λ vs. value_at (binding ys vs inner) m) (dropped ∙ ap (variables (level + (length xs + 1))) e)
        ∙ placed_at m j (level + (length xs + 1)) 0 ys inner (omega (arith, b)) k
        ∙ ap (λ n. Some (Var n)) i

    miss : (m : ℕ) → times m xs + times m ys ≡ 0 → value_at (binding ys (drop (length xs + 1) (variables level (length xs + suc (length ys)))) inner) m ≡ value_at before m
    miss m e = passed m ys _ inner (omega (arith, e)) ∙ passed m xs _ before (omega (arith, e))

-- the answer's channel is the variable without a name
pub answer_is : (xs : List ℕ) (level n : ℕ) → get_or (variables level (length xs + suc n)) (length xs) nothing ≡ Var (level + length xs)
answer_is xs level n = get_variable level (length xs + suc n) (length xs) (omega arith)
