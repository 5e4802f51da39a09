-- Parts of closed processes are closed over what is bound around them, and closed values put in close them.
use Rattle.std.proofs.Common.{ℕ, zero, suc, ◌+◌, ◌-◌, ◌<◌, ◌≤◌, ◌≡◌, ◌==◌, Bool, true, false, List, [], ◌∷◌, ◌++◌, refl, sym, ap, ◌∙◌, subst, arith, cond, nat_lt, Option, Some, option_map}
use Rattle.std.proofs.lemmas.Bool.Decides.{nat_tests}
use Rattle.std.specs.List.{slice_get}
use Rattle.pict_core.specs.Term.{Val, Vals, Labelled, Process, Var, Chan, Int, Char, Boolean, Text, PrimitiveVal, Record, no_vals, more_vals, no_labelled, more_labelled, Zero, Par, New, Out, In, If}
use Rattle.pict_core.specs.Closed.{IsOver, AreOver, LabelledOver, AllOver, IsUnder, IsClosed, Lacks, IsDistinct, binds}
use Rattle.pict_core.specs.Substitution.{Replacement, replace, replace_value, replace_values, replace_labelled}
use Rattle.pict_core.proofs.Closed.{over_more}
use Rattle.pict_code.specs.Frames.{frame_of}
use Rattle.pict_code.specs.Nodes.{Place, place, places, node_of, nodes_of}
use Rattle.pict_code.specs.Standing.{closing, value_at, with_frame, StandsFor, IsNodeOf}
use Rattle.pict_code.proofs.Framed.{frame_is_enough}
use Rattle.pict_code.proofs.Rebuilding.{node_at}

-- ---- closed values put in

closed_if : (c : ℕ) (v w : Val) (b : Bool) → IsOver 0 c v → IsOver 0 c w → IsOver 0 c (cond b v w)
closed_if c v w true o u = o
closed_if c v w false o u = u

value_closed : (c : ℕ) (ls : List ℕ) (vs : List Val) (level : ℕ) → AllOver 0 c vs → IsOver 0 c (value_at ls vs level)
value_closed c [] vs level o = tt
value_closed c (l ∷ ls) [] level o = tt
value_closed c (l ∷ ls) (v ∷ vs) level o = closed_if c v (value_at ls vs level) (level == l) o.0 (value_closed c ls vs level o.1)

module _ (n c : ℕ) (values : ℕ → Val) (closed : (level : ℕ) → IsOver 0 c (values level)) where
  variable_over : (k level : ℕ) (b : Bool) → nat_lt level n ≡ b → level < n + k → IsOver k c (cond b (values level) (Var (level - n)))
  variable_over k level true e h = over_more 0 k c c (omega arith) (omega arith) (values level) (closed level)
  variable_over k level false e h = let high : n ≤ level = grind (arith, nat_tests) in omega (arith, high, h)

  lacks_label : (label : ℕ) (ls : Labelled) → Lacks label ls → Lacks label (replace_labelled (closing n values) ls)
  lacks_label label no_labelled h = tt
  lacks_label label (more_labelled l v ls) h = (h.0, lacks_label label ls h.1)

  distinct_labels : (ls : Labelled) → IsDistinct ls → IsDistinct (replace_labelled (closing n values) ls)
  distinct_labels no_labelled h = tt
  distinct_labels (more_labelled l v ls) h = (lacks_label l ls h.0, distinct_labels ls h.1)

  mutual
    value_over : (k : ℕ) (v : Val) → IsOver (n + k) 0 v → IsOver k c (replace_value (closing n values) v)
    value_over k (Var level) o = variable_over k level (nat_lt level n) refl o
    value_over k (Chan number) o = absurd (omega arith)
    value_over k (Int i) o = tt
    value_over k (Char i) o = tt
    value_over k (Boolean i) o = tt
    value_over k (Text i) o = tt
    value_over k (PrimitiveVal i) o = tt
    value_over k (Record vs ls) o = (values_over k vs o.0, labelled_over k ls o.1, distinct_labels ls o.2)

    values_over : (k : ℕ) (vs : Vals) → AreOver (n + k) 0 vs → AreOver k c (replace_values (closing n values) vs)
    values_over k no_vals o = tt
    values_over k (more_vals v vs) o = (value_over k v o.0, values_over k vs o.1)

    labelled_over : (k : ℕ) (ls : Labelled) → LabelledOver (n + k) 0 ls → LabelledOver k c (replace_labelled (closing n values) ls)
    labelled_over k no_labelled o = tt
    labelled_over k (more_labelled label v ls) o = (value_over k v o.0, labelled_over k ls o.1)

  closing_under : (m k : ℕ) (p : Process) → m ≡ n + k → IsUnder m 0 p → IsUnder k c (replace (closing n values) p)
  closing_under m k Zero e u = tt
  closing_under m k (Par p q) e u = (closing_under m k p e u.0, closing_under m k q e u.1)
  closing_under m k (New p) e u = closing_under (m + 1) (k + 1) p (omega arith) u
  closing_under m k (Out chan message at) e u =
      (value_over k chan (subst (λ x. IsOver x 0 chan) e u.0), value_over k message (subst (λ x. IsOver x 0 message) e u.1))
  closing_under m k (In chan replicated pattern body) e u =
      (value_over k chan (subst (λ x. IsOver x 0 chan) e u.0), closing_under (m + binds pattern) (k + binds pattern) body (omega arith) u.1)
  closing_under m k (If test p q) e u =
      (value_over k test (subst (λ x. IsOver x 0 test) e u.0), closing_under m k p e u.1, closing_under m k q e u.2)

-- ---- the parts of a closed process

AllUnder : ℕ → List Place → Type 0
AllUnder c [] = Unit {0}
AllUnder c (p ∷ ps) = IsUnder p.around c p.process × AllUnder c ps

all_append : (c : ℕ) (ps qs : List Place) → AllUnder c ps → AllUnder c qs → AllUnder c (ps ++ qs)
unfolding AllUnder
all_append c [] qs h k = k
all_append c (p ∷ ps) qs h k = (h.0, all_append c ps qs h.1 k)

all_under : (n c : ℕ) (p : Process) → IsUnder n c p → AllUnder c (places n p)
unfolding AllUnder
all_under n c Zero u = (u, tt)
all_under n c (Par p q) u = (u, all_append c (places n p) (places n q) (all_under n c p u.0) (all_under n c q u.1))
all_under n c (New p) u = (u, all_under (n + 1) c p u)
all_under n c (Out chan message at) u = (u, tt)
all_under n c (In chan replicated pattern body) u = (u, all_under (n + binds pattern) c body u.1)
all_under n c (If test p q) u = (u, all_append c (places n p) (places n q) (all_under n c p u.1) (all_under n c q u.2))

one_under : (c : ℕ) (ps : List Place) (i : ℕ) (p : Place) → AllUnder c ps → slice_get ps i ≡ Some p → IsUnder p.around c p.process
unfolding AllUnder
one_under c [] i p h e = cc
one_under c (q ∷ qs) zero p h e = let is : q ≡ p = cc in subst (λ (x : Place). IsUnder x.around c x.process) is h.0
one_under c (q ∷ qs) (suc i) p h e = one_under c qs i p h.1 e

stands_for : (p : Place) → IsUnder p.around 0 p.process → StandsFor p
stands_for p u = record {
  enough = λ values. frame_is_enough p.around values p.process;
  closed = λ c vs o. closing_under p.around c (value_at (frame_of p.around p.process) vs) (λ level. value_closed c (frame_of p.around p.process) vs level o) p.around 0 p.process (omega arith) u;
}

-- a part of a closed process has no variables but those around it
pub part_under : (core : Process) (number : ℕ) (p : Place) → IsClosed core → slice_get (places 0 core) number ≡ Some p → IsUnder p.around 0 p.process
part_under core number p closed at = one_under 0 (places 0 core) number p (all_under 0 0 core closed) at

pub nodes_stand : (core : Process) (number : ℕ) (p : Place) → IsClosed core → slice_get (places 0 core) number ≡ Some p → IsNodeOf core number p
nodes_stand core number p closed at = record {
  node = node_at 0 (places 0 core) number ∙ ap (option_map (node_of (0 + number))) at ∙ ap (λ k. Some (node_of k p)) (omega arith);
  stands = stands_for p (part_under core number p closed at);
}
