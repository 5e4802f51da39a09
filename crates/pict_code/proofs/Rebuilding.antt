-- A process is read back from its code.
use Rattle.std.proofs.Common.{ℕ, zero, suc, ◌+◌, ◌<◌, ◌≤◌, ◌≡◌, Bool, true, false, List, [], ◌∷◌, ◌++◌, length, map, refl, sym, ap, ◌∙◌, subst, arith, Option, Some, None, option_map, unwrap_or}
use Rattle.std.specs.List.{slice_get}
use Rattle.pict_core.specs.Term as term
use Rattle.pict_core.specs.Term.{Val, Pat, Pats, LabelledPats, Process, Zero, Par, New, Out, In, If}
use Rattle.pict_core.specs.Closed.{binds, binds_all}
use Rattle.pict_code.specs.Instruction as code
use Rattle.pict_code.specs.Instruction.{Node, Op}
use Rattle.pict_code.specs.Nodes.{Place, place, places, size, node_of, nodes_from, nodes_of, op_of, leveled, leveled_all, leveled_labelled, input_op}
use Rattle.pict_code.specs.ReadBack.{op_at, built, built_at, core_of, unleveled, unleveled_all, unleveled_labelled}
use Rattle.pict_code.proofs.Numbering.{PlacedAt, first_of, par_placed, if_placed, new_placed, in_placed, whole_placed, length_places}

mutual
  pub pattern_back : (level : ℕ) (p : Pat) → unleveled (leveled level p) ≡ p
  pattern_back level term.Bind = refl
  pattern_back level term.Any = refl
  pattern_back level (term.RecordPat ps ls) = cc (patterns_back level ps, labels_back (level + binds_all ps) ls)

  patterns_back : (level : ℕ) (ps : Pats) → unleveled_all (leveled_all level ps) ≡ ps
  patterns_back level term.no_pats = refl
  patterns_back level (term.more_pats p ps) = cc (pattern_back level p, patterns_back (level + binds p) ps)

  labels_back : (level : ℕ) (ls : LabelledPats) → unleveled_labelled (leveled_labelled level ls) ≡ ls
  labels_back level term.no_labelled_pats = refl
  labels_back level (term.more_labelled_pats label p ps) = cc (pattern_back level p, labels_back (level + binds p) ps)

pub node_at : (number : ℕ) (ps : List Place) (i : ℕ) → slice_get (nodes_from number ps) i ≡ option_map (node_of (number + i)) (slice_get ps i)
node_at number [] i = refl
node_at number (p ∷ ps) zero = let e : number + 0 ≡ number = omega arith in rw e refl
node_at number (p ∷ ps) (suc i) = let e : number + suc i ≡ suc number + i = omega arith in rw e (node_at (suc number) ps i)

-- the instruction of a part is that of its node
pub op_placed : (core : Process) (i n : ℕ) (p : Process) (ps : List Place) → slice_get (places 0 core) i ≡ Some (place n p) → op_at (nodes_of core) i ≡ op_of i n p
op_placed core i n p ps h =
    let e : 0 + i ≡ i = omega arith in
    ap (λ o. unwrap_or (option_map (λ (m : Node). m.op) o) code.Zero) (node_at 0 (places 0 core) i ∙ ap (option_map (node_of (0 + i))) h) ∙ ap (λ k. op_of k n p) e

built_input : (f : ℕ → Process) (replicated : Bool) (chan : Val) (pattern : Pat) (n body : ℕ) → built f (input_op replicated chan (leveled n pattern) body) ≡ In chan replicated pattern (f body)
built_input f true chan pattern n body = ap (λ p. In chan true p (f body)) (pattern_back n pattern)
built_input f false chan pattern n body = ap (λ p. In chan false p (f body)) (pattern_back n pattern)

module _ (core : Process) where
  here : (i n : ℕ) (p : Process) (ps : List Place) → places n p ≡ place n p ∷ ps → PlacedAt core i n p → op_at (nodes_of core) i ≡ op_of i n p
  here i n p ps e h = op_placed core i n p ps (first_of (places 0 core) i (place n p) ps (subst (λ l. (j : ℕ) → j < length l → slice_get (places 0 core) (i + j) ≡ slice_get l j) e h))

  built_back : (p : Process) (i n depth : ℕ) → PlacedAt core i n p → size p ≤ depth → built_at (nodes_of core) depth i ≡ p
  built_back Zero i n zero h low = refl
  built_back Zero i n (suc d) h low = ap (built (built_at (nodes_of core) d)) (here i n Zero [] refl h)
  built_back (Par p q) i n zero h low = absurd (omega arith)
  built_back (Par p q) i n (suc d) h low =
      let parts = par_placed core i n p q h in
      ap (built (built_at (nodes_of core) d)) (here i n (Par p q) _ refl h)
      ∙ cc (built_back p (i + 1) n d parts.0 (omega arith), built_back q (i + 1 + size p) n d parts.1 (omega arith))
  built_back (If test p q) i n zero h low = absurd (omega arith)
  built_back (If test p q) i n (suc d) h low =
      let parts = if_placed core i n test p q h in
      ap (built (built_at (nodes_of core) d)) (here i n (If test p q) _ refl h)
      ∙ cc (built_back p (i + 1) n d parts.0 (omega arith), built_back q (i + 1 + size p) n d parts.1 (omega arith))
  built_back (New p) i n zero h low = absurd (omega arith)
  built_back (New p) i n (suc d) h low = ap (built (built_at (nodes_of core) d)) (here i n (New p) _ refl h) ∙ ap New (built_back p (i + 1) (n + 1) d (new_placed core i n p h) (omega arith))
  built_back (Out chan message at) i n zero h low = absurd (omega arith)
  built_back (Out chan message at) i n (suc d) h low = ap (built (built_at (nodes_of core) d)) (here i n (Out chan message at) [] refl h)
  built_back (In chan replicated pattern body) i n zero h low = absurd (omega arith)
  built_back (In chan replicated pattern body) i n (suc d) h low =
      ap (built (built_at (nodes_of core) d)) (here i n (In chan replicated pattern body) _ refl h)
      ∙ built_input (built_at (nodes_of core) d) replicated chan pattern n (i + 1)
      ∙ ap (In chan replicated pattern) (built_back body (i + 1) (n + binds pattern) d (in_placed core i n chan replicated pattern body h) (omega arith))

pub length_nodes : (number : ℕ) (ps : List Place) → length (nodes_from number ps) ≡ length ps
length_nodes number [] = refl
length_nodes number (p ∷ ps) = ap suc (length_nodes (suc number) ps)

-- the code of a process is the code of no other
pub core_of_nodes : (p : Process) → core_of (nodes_of p) ≡ p
core_of_nodes p = built_back p p 0 0 (length (nodes_of p)) (whole_placed p) (omega (arith, length_nodes 0 (places 0 p), length_places 0 p))
