-- From a node of a code to the part that it is of, and from its instruction to the form of the part.
use Rattle.std.proofs.Common.{ℕ, zero, suc, ◌+◌, ◌<◌, ◌≡◌, ◌⊎◌, inl, inr, Bool, true, false, List, [], ◌∷◌, ◌++◌, length, refl, sym, ap, ◌∙◌, subst, arith, Option, Some, None, option_map}
use Rattle.std.specs.List.{slice_get}
use Rattle.std.proofs.lemmas.Option.{slice_get_within}
use Rattle.pict_syntax.specs.declared.span.Span.{Span}
use Rattle.pict_core.specs.Term.{Val, Pat, Process, Zero, Par, New, Out, In, If}
use Rattle.pict_core.specs.Closed.{binds}
use Rattle.pict_code.specs.Instruction as code
use Rattle.pict_code.specs.Instruction.{Node, Op, CodePat}
use Rattle.pict_code.specs.Nodes.{Place, place, places, size, node_of, nodes_of, op_of, leveled}
use Rattle.pict_code.proofs.Numbering.{Holds, PlacedAt, at_before}
use Rattle.pict_code.proofs.Rebuilding.{node_at}

-- ---- where a part stands, its own parts stand behind it

some_at : (xs : List Place) (j : ℕ) → j < length xs → (x : Place) × (slice_get xs j ≡ Some x)
some_at [] j h = absurd (omega arith)
some_at (x ∷ xs) zero h = (x, refl)
some_at (x ∷ xs) (suc j) h = some_at xs j (omega arith)

all_of : (xs : List Place) → Holds xs 0 xs
all_of xs j low = let e : 0 + j ≡ j = omega arith in rw e refl

in_front : (xs ys : List Place) (i : ℕ) (some : List Place) → Holds xs i some → Holds (xs ++ ys) i some
in_front xs ys i some h j low =
    let s = some_at some j low in
    at_before xs ys (i + j) (slice_get_within xs (i + j) s.0 (h j low ∙ s.1)) ∙ h j low

behind : (x : Place) (xs : List Place) (i : ℕ) (some : List Place) → Holds xs i some → Holds (x ∷ xs) (suc i) some
behind x xs i some h j low = let e : suc i + j ≡ suc (i + j) = omega arith in rw e (h j low)

at_back : (xs ys : List Place) (i : ℕ) (some : List Place) → Holds ys i some → Holds (xs ++ ys) (length xs + i) some
at_back [] ys i some h = let e : i ≡ 0 + i = omega arith in subst (λ m. Holds ys m some) e h
at_back (x ∷ xs) ys i some h =
    let e : suc (length xs + i) ≡ length (x ∷ xs) + i = omega arith in
    subst (λ m. Holds (x ∷ (xs ++ ys)) m some) e (behind x (xs ++ ys) (length xs + i) some (at_back xs ys i some h))

one_side : (xs ys : List Place) (i : ℕ) (p : Place) → slice_get (xs ++ ys) i ≡ Some p
    → (slice_get xs i ≡ Some p) ⊎ ((k : ℕ) × (i ≡ length xs + k) × (slice_get ys k ≡ Some p))
one_side [] ys i p e = inr (i, omega arith, e)
one_side (x ∷ xs) ys zero p e = inl e
one_side (x ∷ xs) ys (suc i) p e = elim (one_side xs ys i p e) [
  | inl h ↦ inl h
  | inr r ↦ inr (r.0, (let f : i ≡ length xs + r.0 = r.1 in omega arith), r.2)
]

first_part : (n : ℕ) (q : Process) (p : Place) → place n q ≡ p → Holds (places n q) 0 (places p.around p.process)
first_part n q p e = subst (λ (x : Place). Holds (places n q) 0 (places x.around x.process)) e (all_of (places n q))

two_sides : (n : ℕ) (x : Place) (l r : Process) (i : ℕ) (p : Place)
    → (slice_get (places n l) i ≡ Some p → Holds (places n l) i (places p.around p.process))
    → ((k : ℕ) → slice_get (places n r) k ≡ Some p → Holds (places n r) k (places p.around p.process))
    → slice_get (places n l ++ places n r) i ≡ Some p → Holds (x ∷ (places n l ++ places n r)) (suc i) (places p.around p.process)
two_sides n x l r i p left right e = behind x (places n l ++ places n r) i (places p.around p.process) (elim (one_side (places n l) (places n r) i p e) [
  | inl h ↦ in_front (places n l) (places n r) i (places p.around p.process) (left h)
  | inr s ↦ subst (λ m. Holds (places n l ++ places n r) m (places p.around p.process)) (sym s.1) (at_back (places n l) (places n r) s.0 (places p.around p.process) (right s.0 s.2))
])

pub parts_follow : (n : ℕ) (q : Process) (i : ℕ) (p : Place) → slice_get (places n q) i ≡ Some p → Holds (places n q) i (places p.around p.process)
parts_follow n Zero zero p e = first_part n Zero p cc
parts_follow n Zero (suc i) p e = cc
parts_follow n (Par l r) zero p e = first_part n (Par l r) p cc
parts_follow n (Par l r) (suc i) p e = two_sides n (place n (Par l r)) l r i p (parts_follow n l i p) (λ k. parts_follow n r k p) e
parts_follow n (New q) zero p e = first_part n (New q) p cc
parts_follow n (New q) (suc i) p e = behind (place n (New q)) (places (n + 1) q) i (places p.around p.process) (parts_follow (n + 1) q i p e)
parts_follow n (Out chan message at) zero p e = first_part n (Out chan message at) p cc
parts_follow n (Out chan message at) (suc i) p e = cc
parts_follow n (In chan replicated pattern body) zero p e = first_part n (In chan replicated pattern body) p cc
parts_follow n (In chan replicated pattern body) (suc i) p e =
    behind (place n (In chan replicated pattern body)) (places (n + binds pattern) body) i (places p.around p.process) (parts_follow (n + binds pattern) body i p e)
parts_follow n (If test l r) zero p e = first_part n (If test l r) p cc
parts_follow n (If test l r) (suc i) p e = two_sides n (place n (If test l r)) l r i p (parts_follow n l i p) (λ k. parts_follow n r k p) e

-- ---- the part of a node

pub record IsNodeAt (core : Process) (i : ℕ) (node : Node) (p : Place) : Type 0 where
  pub at : slice_get (places 0 core) i ≡ Some p
  pub node_is : node_of i p ≡ node
  pub placed : PlacedAt core i p.around p.process

part_by : (core : Process) (i : ℕ) (node : Node) (o : Option Place) → slice_get (places 0 core) i ≡ o → option_map (node_of i) o ≡ Some node → (p : Place) × IsNodeAt core i node p
part_by core i node None e f = cc
part_by core i node (Some p) e f = (p, record { at = e; node_is = cc; placed = parts_follow 0 core i p e })

pub part_of : (core : Process) (i : ℕ) (node : Node) → slice_get (nodes_of core) i ≡ Some node → (p : Place) × IsNodeAt core i node p
part_of core i node e =
    let number : 0 + i ≡ i = omega arith in
    part_by core i node (slice_get (places 0 core) i) refl
    (ap (λ k. option_map (node_of k) (slice_get (places 0 core) i)) (sym number) ∙ sym (node_at 0 (places 0 core) i) ∙ e)

-- the instruction of a part is that of its node
pub op_is : (core : Process) (number : ℕ) (node : Node) (p : Place) (o : Op) → IsNodeAt core number node p → node.op ≡ o → op_of number p.around p.process ≡ o
op_is core number node p o at e = ap (λ (n : Node). n.op) at.node_is ∙ e

-- ---- the form of a part, by its instruction

pub is_zero : (i n : ℕ) (p : Process) → op_of i n p ≡ code.Zero → p ≡ Zero
is_zero i n Zero e = refl
is_zero i n (Par p q) e = cc
is_zero i n (New p) e = cc
is_zero i n (Out chan message at) e = cc
is_zero i n (In chan true pattern body) e = cc
is_zero i n (In chan false pattern body) e = cc
is_zero i n (If test p q) e = cc

pub record IsPar (i : ℕ) (left right : ℕ) (process : Process) : Type 0 where
  pub p : Process
  pub q : Process
  pub is : process ≡ Par p q
  pub left_is : left ≡ i + 1
  pub right_is : right ≡ i + 1 + size p

pub is_par : (i n left right : ℕ) (p : Process) → op_of i n p ≡ code.Par left right → IsPar i left right p
is_par i n left right Zero e = cc
is_par i n left right (Par p q) e = record { p = p; q = q; is = refl; left_is = cc; right_is = cc }
is_par i n left right (New p) e = cc
is_par i n left right (Out chan message at) e = cc
is_par i n left right (In chan true pattern body) e = cc
is_par i n left right (In chan false pattern body) e = cc
is_par i n left right (If test p q) e = cc

pub record IsNew (i n : ℕ) (level part : ℕ) (process : Process) : Type 0 where
  pub p : Process
  pub is : process ≡ New p
  pub level_is : level ≡ n
  pub part_is : part ≡ i + 1

pub is_new : (i n level part : ℕ) (p : Process) → op_of i n p ≡ code.New level part → IsNew i n level part p
is_new i n level part Zero e = cc
is_new i n level part (Par p q) e = cc
is_new i n level part (New p) e = record { p = p; is = refl; level_is = cc; part_is = cc }
is_new i n level part (Out chan message at) e = cc
is_new i n level part (In chan true pattern body) e = cc
is_new i n level part (In chan false pattern body) e = cc
is_new i n level part (If test p q) e = cc

pub is_out : (i n : ℕ) (chan message : Val) (at : Span) (p : Process) → op_of i n p ≡ code.Out chan message at → p ≡ Out chan message at
is_out i n chan message at Zero e = cc
is_out i n chan message at (Par p q) e = cc
is_out i n chan message at (New p) e = cc
is_out i n chan message at (Out c m a) e = cc
is_out i n chan message at (In c true pattern body) e = cc
is_out i n chan message at (In c false pattern body) e = cc
is_out i n chan message at (If test p q) e = cc

-- an input, or a replicated one
pub record IsInput (i n : ℕ) (chan : Val) (replicated : Bool) (leveled_pattern : CodePat) (part : ℕ) (process : Process) : Type 0 where
  pub pattern : Pat
  pub body : Process
  pub is : process ≡ In chan replicated pattern body
  pub pattern_is : leveled_pattern ≡ leveled n pattern
  pub part_is : part ≡ i + 1

pub is_in : (i n : ℕ) (chan : Val) (pattern : CodePat) (part : ℕ) (p : Process) → op_of i n p ≡ code.In chan pattern part → IsInput i n chan false pattern part p
is_in i n chan pattern part Zero e = cc
is_in i n chan pattern part (Par p q) e = cc
is_in i n chan pattern part (New p) e = cc
is_in i n chan pattern part (Out c m a) e = cc
is_in i n chan pattern part (In c true q body) e = cc
is_in i n chan pattern part (In c false q body) e =
    let same : c ≡ chan = cc in
    record { pattern = q; body = body; is = ap (λ v. In v false q body) same; pattern_is = cc; part_is = cc }
is_in i n chan pattern part (If test p q) e = cc

pub is_serve : (i n : ℕ) (chan : Val) (pattern : CodePat) (part : ℕ) (p : Process) → op_of i n p ≡ code.Serve chan pattern part → IsInput i n chan true pattern part p
is_serve i n chan pattern part Zero e = cc
is_serve i n chan pattern part (Par p q) e = cc
is_serve i n chan pattern part (New p) e = cc
is_serve i n chan pattern part (Out c m a) e = cc
is_serve i n chan pattern part (In c false q body) e = cc
is_serve i n chan pattern part (In c true q body) e =
    let same : c ≡ chan = cc in
    record { pattern = q; body = body; is = ap (λ v. In v true q body) same; pattern_is = cc; part_is = cc }
is_serve i n chan pattern part (If test p q) e = cc

pub record IsIf (i : ℕ) (test : Val) (first second : ℕ) (process : Process) : Type 0 where
  pub p : Process
  pub q : Process
  pub is : process ≡ If test p q
  pub first_is : first ≡ i + 1
  pub second_is : second ≡ i + 1 + size p

pub is_if : (i n : ℕ) (test : Val) (first second : ℕ) (p : Process) → op_of i n p ≡ code.If test first second → IsIf i test first second p
is_if i n test first second Zero e = cc
is_if i n test first second (Par p q) e = cc
is_if i n test first second (New p) e = cc
is_if i n test first second (Out c m a) e = cc
is_if i n test first second (In c true pattern body) e = cc
is_if i n test first second (In c false pattern body) e = cc
is_if i n test first second (If t p q) e =
    let same : t ≡ test = cc in
    record { p = p; q = q; is = ap (λ v. If v p q) same; first_is = cc; second_is = cc }
