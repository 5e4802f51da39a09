-- Nodes and sizes laid from the last place to the first.
use Rattle.std.proofs.Common.{◌≡◌, ℕ, zero, suc, ◌+◌, ◌-◌, ◌<◌, ◌≤◌, Bool, true, false, List, [], ◌∷◌, ◌++◌, map, drop, take, reverse, length, get_or, refl, sym, ap, ◌∙◌, subst, arith, append-nil, slice_get, Option, None, Some, option_map, unwrap_or, Vec, Global}
use Rattle.std.specs.declared.rc.Rc.{Rc}
use Rattle.std.proofs.lemmas.List.{get_or-reverse, get_or_past, length-reverse, length-map, reverse-append, map-append, drop_more}
use Rattle.std.proofs.lemmas.Option.{slice_get-get_or, unwrap_or-slice_get}
use Rattle.pict_core.specs.Term.{Process, Zero, Par, New, Out, In, If}
use Rattle.pict_core.specs.Closed.{binds}
use Rattle.pict_core.specs.Plain.{plain_core}
use Rattle.pict_core.specs.declared.process.Core.{Core}
use Rattle.pict_code.specs.Instruction.{Node}
use Rattle.pict_code.specs.Frames.{frame_of}
use Rattle.pict_code.specs.Nodes.{Place, place, places, size, op_of, node_of, nodes_from, nodes_of}
use Rattle.pict_code.specs.Plain.{plain_op, plain_node}
use Rattle.pict_code.specs.declared.instruction.Op.{Op}
use Rattle.pict_code.specs.declared.instruction.Node as code
use Rattle.pict_code.proofs.Numbering.{length_places}
use Rattle.pict_code.proofs.Rebuilding.{node_at}
use Rattle.pict_lower.specs.Parts.{parts, parts_of, all_places, plain_place, frame_at, size_at, frame_of_option, size_of_option}
use Rattle.pict_lower.specs.Laid.{IsLaid, IsNext, has_first, has_second, frame_or_none, frame_back, size_back}
use Rattle.pict_lower.specs.declared.places.Place as made
use Rattle.pict_lower.proofs.Piling.{parts_follow, opened, From, from}
use Rattle.pict_syntax.proofs.ListLemmas.{map_reverse}

-- ---- reading from the end

past : {A : Type 0} (xs : List A) (k : ℕ) → length xs ≤ k → slice_get xs k ≡ None
past [] k h = refl
past (x ∷ xs) zero h = absurd (omega arith)
past (x ∷ xs) (suc k) h = past xs k (omega arith)

get_map : {A B : Type 0} (f : A → B) (xs : List A) (k : ℕ) (d : A) → get_or (map f xs) k (f d) ≡ f (get_or xs k d)
get_map f [] k d = refl
get_map f (x ∷ xs) zero d = refl
get_map f (x ∷ xs) (suc k) d = get_map f xs k d

pub size_past : (sizes : List ℕ) (k : ℕ) → length sizes ≤ k → 0 ≡ size_back true (reverse sizes) k
size_past sizes k h =
    let turned : length (reverse sizes) ≡ length sizes = length-reverse sizes in ap (λ o. unwrap_or o 0) (sym (past (reverse sizes) k (omega arith)))

-- ---- where the parts stand

at_front : (xs ys : List Place) (i : ℕ) → i ≡ length xs → slice_get (xs ++ ys) i ≡ slice_get ys 0
at_front [] ys i e = ap (slice_get ys) e
at_front (x ∷ xs) ys zero e = absurd (omega arith)
at_front (x ∷ xs) ys (suc i) e = at_front xs ys i (omega arith)

head_place : (n : ℕ) (p : Process) (ps : List Place) → slice_get (places n p ++ ps) 0 ≡ Some (place n p)
head_place n p ps = ap (λ l. slice_get (l ++ ps) 0) (parts_follow n p)

next_place : (n m : ℕ) (p q : Process) (ps : List Place) → slice_get (places n p ++ (places m q ++ ps)) (size p) ≡ Some (place m q)
next_place n m p q ps = at_front (places n p) (places m q ++ ps) (size p) (sym (length_places n p)) ∙ head_place m q ps

first_place : (n : ℕ) (p : Process) (ps : List Place) → has_first p ≡ true → slice_get (all_places (parts n p ++ ps)) 0 ≡ slice_get (parts n p) 0
first_place n Zero ps h = cc
first_place n (Par p q) ps h = head_place n p _
first_place n (New p) ps h = head_place (n + 1) p _
first_place n (Out chan message at) ps h = cc
first_place n (In chan replicated pattern body) ps h = head_place (n + binds pattern) body _
first_place n (If test p q) ps h = head_place n p _

second_place : (n : ℕ) (p : Process) (ps : List Place) → has_second p ≡ true → slice_get (all_places (parts n p ++ ps)) (size_at (parts n p) 0) ≡ slice_get (parts n p) 1
second_place n Zero ps h = cc
second_place n (Par p q) ps h = next_place n n p q _
second_place n (New p) ps h = cc
second_place n (Out chan message at) ps h = cc
second_place n (In chan replicated pattern body) ps h = cc
second_place n (If test p q) ps h = next_place n n p q _

no_first : (n : ℕ) (p : Process) → has_first p ≡ false → slice_get (parts n p) 0 ≡ None
no_first n Zero h = refl
no_first n (Par p q) h = cc
no_first n (New p) h = cc
no_first n (Out chan message at) h = refl
no_first n (In chan replicated pattern body) h = cc
no_first n (If test p q) h = cc

no_second : (n : ℕ) (p : Process) → has_second p ≡ false → slice_get (parts n p) 1 ≡ None
no_second n Zero h = refl
no_second n (Par p q) h = cc
no_second n (New p) h = refl
no_second n (Out chan message at) h = refl
no_second n (In chan replicated pattern body) h = refl
no_second n (If test p q) h = cc

frame_of_node : (number : ℕ) (o : Option Place) → frame_or_none (option_map (node_of number) o) ≡ frame_of_option o
frame_of_node number None = refl
frame_of_node number (Some p) = refl

size_of_place : (o : Option Place) → unwrap_or (option_map (λ (p : Place). size p.process) o) 0 ≡ size_of_option o
size_of_place None = refl
size_of_place (Some p) = refl

get_option : {A B : Type 0} (f : A → B) (xs : List A) (k : ℕ) → slice_get (map f xs) k ≡ option_map f (slice_get xs k)
get_option f [] k = refl
get_option f (x ∷ xs) zero = refl
get_option f (x ∷ xs) (suc k) = get_option f xs k

module _ (number n : ℕ) (p : Process) (rest : List Place) (nodes : List code.Node) (sizes : List ℕ) (laid : IsLaid number (all_places (parts n p ++ rest)) nodes sizes) where
  frame_found : (b : Bool) (i j : ℕ) → (b ≡ true → slice_get (all_places (parts n p ++ rest)) i ≡ slice_get (parts n p) j) → (b ≡ false → slice_get (parts n p) j ≡ None)
      → frame_back b (reverse (map plain_node nodes)) i ≡ frame_at (parts n p) j
  frame_found true i j found none =
      ap (λ l. frame_or_none (slice_get l i)) laid.nodes ∙ ap frame_or_none (node_at number (all_places (parts n p ++ rest)) i)
      ∙ frame_of_node (number + i) (slice_get (all_places (parts n p ++ rest)) i) ∙ ap frame_of_option (found refl)
  frame_found false i j found none = ap frame_of_option (sym (none refl))

  size_found : (b : Bool) (i j : ℕ) → (b ≡ true → slice_get (all_places (parts n p ++ rest)) i ≡ slice_get (parts n p) j) → (b ≡ false → slice_get (parts n p) j ≡ None)
      → size_back b (reverse sizes) i ≡ size_at (parts n p) j
  size_found true i j found none =
      ap (λ l. unwrap_or (slice_get l i) 0) laid.sizes ∙ ap (λ o. unwrap_or o 0) (get_option (λ (q : Place). size q.process) (all_places (parts n p ++ rest)) i)
      ∙ size_of_place (slice_get (all_places (parts n p ++ rest)) i) ∙ ap size_of_option (found refl)
  size_found false i j found none = ap size_of_option (sym (none refl))

  pub first_frame : (b : Bool) → b ≡ has_first p → frame_back b (reverse (map plain_node nodes)) 0 ≡ frame_at (parts n p) 0
  first_frame b e = frame_found b 0 0 (λ h. first_place n p rest (sym e ∙ h)) (λ h. no_first n p (sym e ∙ h))

  pub first_size : (b : Bool) → b ≡ has_first p → size_back b (reverse sizes) 0 ≡ size_at (parts n p) 0
  first_size b e = size_found b 0 0 (λ h. first_place n p rest (sym e ∙ h)) (λ h. no_first n p (sym e ∙ h))

  pub second_frame : (b : Bool) (i : ℕ) → b ≡ has_second p → i ≡ size_at (parts n p) 0 → frame_back b (reverse (map plain_node nodes)) i ≡ frame_at (parts n p) 1
  second_frame b i e at = ap (frame_back b (reverse (map plain_node nodes))) at ∙ frame_found b (size_at (parts n p) 0) 1 (λ h. second_place n p rest (sym e ∙ h)) (λ h. no_second n p (sym e ∙ h))

  pub second_size : (b : Bool) (i : ℕ) → b ≡ has_second p → i ≡ size_at (parts n p) 0 → size_back b (reverse sizes) i ≡ size_at (parts n p) 1
  second_size b i e at = ap (size_back b (reverse sizes)) at ∙ size_found b (size_at (parts n p) 0) 1 (λ h. second_place n p rest (sym e ∙ h)) (λ h. no_second n p (sym e ∙ h))

pub size_is : (n : ℕ) (p : Process) → size p ≡ 1 + size_at (parts n p) 0 + size_at (parts n p) 1
size_is n Zero = refl
size_is n (Par p q) = omega arith
size_is n (New p) = omega arith
size_is n (Out chan message at) = refl
size_is n (In chan replicated pattern body) = omega arith
size_is n (If test p q) = omega arith

pub node_made : (number : ℕ) (p : Place) (frame : Rc (Vec ℕ Global) Global) (op : Op) → frame.value.items ≡ frame_of p.around p.process → plain_op op ≡ op_of number p.around p.process
    → plain_node (record { frame = frame; op = op }) ≡ node_of number p
node_made number p frame op e f = cc (e, f)

-- a place's own node and size behind those of what stands after it
pub laid_more : (number : ℕ) (p : Place) (rest : List Place) (nodes nodes' : List code.Node) (sizes sizes' : List ℕ) (node : code.Node) (count : ℕ)
    → nodes' ≡ nodes ++ node ∷ [] → sizes' ≡ sizes ++ count ∷ [] → plain_node node ≡ node_of number p → count ≡ size p.process
    → IsLaid (number + 1) (all_places (parts_of p ++ rest)) nodes sizes → IsLaid number (all_places (p ∷ rest)) nodes' sizes'
laid_more number p rest nodes nodes' sizes sizes' node count e f is same laid = record {
  nodes = ap (λ l. reverse (map plain_node l)) e ∙ ap reverse (map-append plain_node nodes (node ∷ [])) ∙ reverse-append (map plain_node nodes) (plain_node node ∷ [])
      ∙ ap (λ n. n ∷ reverse (map plain_node nodes)) is ∙ ap (λ l. node_of number p ∷ l) (laid.nodes ∙ ap (λ k. nodes_from k (all_places (parts_of p ++ rest))) (omega arith))
      ∙ ap (nodes_from number) (sym (opened p rest));
  sizes = ap reverse f ∙ reverse-append sizes (count ∷ []) ∙ ap (λ n. n ∷ reverse sizes) same ∙ ap (λ l. size p.process ∷ l) laid.sizes
      ∙ ap (map (λ (q : Place). size q.process)) (sym (opened p rest));
}

-- ---- the loop

-- from a place of a list of places on
pub record Next (ps : List made.Place) (i : ℕ) (x : made.Place) : Type 0 where
  pub rest : List Place
  pub here : drop i (map plain_place ps) ≡ all_places (plain_place x ∷ rest)
  pub behind : drop (i + 1) (map plain_place ps) ≡ all_places (parts_of (plain_place x) ++ rest)

from_whole : (core : Process) (ps : List Place) (i : ℕ) → ps ≡ places 0 core → i < length ps → From ps i
from_whole core ps i e h =
    let whole : ps ≡ all_places (place 0 core ∷ []) = e ∙ sym (append-nil (places 0 core)) in
    subst (λ l. From l i) (sym whole) (from i (place 0 core ∷ []) (subst (λ l. i < length l) whole h))

next_from : (ps : List made.Place) (i : ℕ) (x : made.Place) → i < length ps → x ≡ get_or ps i x → From (map plain_place ps) i → Next ps i x
next_from ps i x h is f =
    let count : length (map plain_place ps) ≡ length ps = length-map ps plain_place in
    let head : get_or (map plain_place ps) i (plain_place x) ≡ plain_place x = get_map plain_place ps i x ∙ ap plain_place (sym is) in
    let front : plain_place x ∷ drop (i + 1) (map plain_place ps) ≡ f.first ∷ all_places (parts_of f.first ++ f.rest) =
    ap (λ p. p ∷ drop (i + 1) (map plain_place ps)) (sym head) ∙ sym (drop_more (map plain_place ps) i (plain_place x) (omega arith)) ∙ f.here ∙ opened f.first f.rest in
    let same : f.first ≡ plain_place x = cc in
    record {
      rest = f.rest;
      here = f.here ∙ ap (λ p. all_places (p ∷ f.rest)) same;
      behind = f.behind ∙ ap (λ (p : Place). all_places (parts_of p ++ f.rest)) same;
    }

pub next : (core : Process) (ps : List made.Place) (i : ℕ) (x : made.Place) → map plain_place ps ≡ places 0 core → i < length ps → x ≡ get_or ps i x → Next ps i x
next core ps i x e h is =
    let count : length (map plain_place ps) ≡ length ps = length-map ps plain_place in
    next_from ps i x h is (from_whole core (map plain_place ps) i e (omega arith))

-- the nodes of all places, put in their order
pub whole_laid : (core : Process) (ps : List made.Place) (number : ℕ) (nodes nodes' : List code.Node) (sizes : List ℕ) → map plain_place ps ≡ places 0 core → number ≡ 0
    → IsLaid number (drop number (map plain_place ps)) nodes sizes → nodes' ≡ reverse nodes → map plain_node nodes' ≡ nodes_of core
whole_laid core ps number nodes nodes' sizes e none laid f =
    let all : IsLaid 0 (map plain_place ps) nodes sizes = subst (λ k. IsLaid k (drop k (map plain_place ps)) nodes sizes) none laid in
    ap (map plain_node) f ∙ map_reverse plain_node nodes ∙ all.nodes ∙ ap (nodes_from 0) e

pub laid_behind : (ps : List made.Place) (i number : ℕ) (x : made.Place) (nodes : List code.Node) (sizes : List ℕ) (n : Next ps i x) → number ≡ i + 1
    → IsLaid number (drop number (map plain_place ps)) nodes sizes → IsLaid (i + 1) (all_places (parts_of (plain_place x) ++ n.rest)) nodes sizes
laid_behind ps i number x nodes sizes n e laid =
    subst (λ l. IsLaid (i + 1) l nodes sizes) n.behind (subst (λ k. IsLaid k (drop k (map plain_place ps)) nodes sizes) e laid)

pub laid_here : (ps : List made.Place) (i : ℕ) (x : made.Place) (nodes : List code.Node) (sizes : List ℕ) (n : Next ps i x)
    → IsLaid i (all_places (plain_place x ∷ n.rest)) nodes sizes → IsLaid i (drop i (map plain_place ps)) nodes sizes
laid_here ps i x nodes sizes n laid = subst (λ l. IsLaid i l nodes sizes) (sym n.here) laid
