-- Nodes of a code: their frames, and where the parts of a node stand.
use Rattle.std.proofs.Common.{ℕ, zero, suc, ◌+◌, ◌<◌, ◌≤◌, ◌≡◌, Bool, true, false, cond, List, [], ◌∷◌, length, map, sym, ap, ◌∙◌, subst, arith, Some, option_map}
use Rattle.std.proofs.lemmas.Option.{slice_get_within}
use Rattle.std.proofs.lemmas.List.{length-map}
use Rattle.std.proofs.lemmas.List.Elements.{All-nil, All-push, All-filter}
use Rattle.std.specs.List.{All, AllByRecursion, slice_get}
use Rattle.pict_core.specs.Term.{Process}
use Rattle.pict_code.specs.Frames.{frame_of, levels_below, occurs}
use Rattle.pict_code.specs.Instruction.{Node}
use Rattle.pict_code.specs.Levels.{Rises}
use Rattle.pict_code.specs.Nodes.{Place, place, places, node_of, nodes_of}
use Rattle.pict_code.specs.Plain.{plain_node}
use Rattle.pict_code.specs.declared.instruction.Node as written
use Rattle.pict_code.proofs.Levels.{frame_rises}
use Rattle.pict_code.proofs.Numbering.{PlacedAt}
use Rattle.pict_code.proofs.Rebuilding.{node_at}
use Rattle.pict_desk.proofs.Nodes.{part_of}
use Rattle.pict_desk.proofs.Parts.{placed_at}
use Rattle.pict_desk.specs.Code.{core_in, IsCode, HasFrame}

-- ---- frames

pub all_below : (n m : ℕ) → n ≤ m → All (λ level. level < m) (levels_below n)
all_below zero m h = All-nil (λ level. level < m)
all_below (suc n) m h = All-push (λ level. level < m) (levels_below n) n (all_below n m (omega arith)) (omega arith)

pub place_low : (n : ℕ) (ps : List Place) (i : ℕ) (p : Place) → AllByRecursion (λ (x : Place). x.around ≤ n) ps → slice_get ps i ≡ Some p → p.around ≤ n
place_low n [] i p a e = cc
place_low n (x ∷ ps) zero p a e = let same : x ≡ p = cc in subst (λ (y : Place). y.around ≤ n) same a.0
place_low n (x ∷ ps) (suc i) p a e = place_low n ps i p a.1 e

-- where there is a place for each level of the code, there is one for each level of a node's frame
pub frame_below : (core : Process) (n : ℕ) → AllByRecursion (λ (x : Place). x.around ≤ n) (places 0 core) → (number : ℕ) (node : Node) → slice_get (nodes_of core) number ≡ Some node
    → All (λ level. level < n) node.frame
frame_below core n levels number node at =
    let p = part_of core number node at in
    let low = place_low n (places 0 core) number p.0 levels p.1.at in
    let frame : frame_of p.0.around p.0.process ≡ node.frame = ap (λ (n : Node). n.frame) p.1.node_is in
    subst (All (λ level. level < n)) frame (All-filter (λ level. occurs level p.0.process) (λ level. level < n) (levels_below p.0.around) (all_below p.0.around n low))

pub frame_rising : (core : Process) (number : ℕ) (node : Node) → slice_get (nodes_of core) number ≡ Some node → Rises 0 node.frame
frame_rising core number node at =
    let p = part_of core number node at in
    subst (Rises 0) (ap (λ (n : Node). n.frame) p.1.node_is) (frame_rises p.0.around p.0.process)

module _ (code : List written.Node) (is : IsCode (map plain_node code)) where
  -- the node of a number, of the process of the code
  pub coded_at : (number : ℕ) (frame : List ℕ) → (f : HasFrame (map plain_node code) number frame) → slice_get (nodes_of (core_in code)) number ≡ Some f.node
  coded_at number frame f = ap (λ (ns : List Node). slice_get ns number) is.nodes_are ∙ f.at

  pub coded_rising : (number : ℕ) (frame : List ℕ) → HasFrame (map plain_node code) number frame → Rises 0 frame
  coded_rising number frame f = subst (Rises 0) f.is (frame_rising (core_in code) number f.node (coded_at number frame f))

  pub in_code : (number : ℕ) → number < length (nodes_of (core_in code)) → number < length code
  in_code number low =
      let e : length (nodes_of (core_in code)) ≡ length code = ap length is.nodes_are ∙ length-map code plain_node in
      omega (arith, low, e)

-- the nodes of the code are those of its process
pub coded_frame : (code : List written.Node) → IsCode (map plain_node code) → (number : ℕ) (frame : List ℕ) → HasFrame (map plain_node code) number frame → HasFrame (nodes_of (core_in code)) number frame
coded_frame code is number frame f = subst (λ ns. HasFrame ns number frame) (sym is.nodes_are) f

-- a node has one frame
pub same_frame : (nodes : List Node) (number : ℕ) (xs ys : List ℕ) → HasFrame nodes number xs → HasFrame nodes number ys → xs ≡ ys
same_frame nodes number xs ys f g =
    let there : Some f.node ≡ Some g.node = sym f.at ∙ g.at in
    let same : f.node ≡ g.node = cc in
    sym f.is ∙ ap (λ (n : Node). n.frame) same ∙ g.is

-- the part that a test chooses
pub chosen_low : (b : Bool) (l r n k : ℕ) → l < n → r < n → k ≡ cond b l r → k < n
chosen_low true l r n k low high e = omega (arith, low, e)
chosen_low false l r n k low high e = omega (arith, high, e)

-- ---- parts of a node

pub part_node : (core : Process) (i n : ℕ) (p : Process) → PlacedAt core i n p → slice_get (nodes_of core) i ≡ Some (node_of i (place n p))
part_node core i n p placed =
    let number : 0 + i ≡ i = omega arith in
    node_at 0 (places 0 core) i ∙ ap (option_map (node_of (0 + i))) (placed_at core i n p placed) ∙ ap (λ (k : ℕ). Some (node_of k (place n p))) number

pub inside : (core : Process) (number i n : ℕ) (p : Process) → number ≡ i → PlacedAt core i n p → number < length (nodes_of core)
inside core number i n p e placed =
    let low = slice_get_within (nodes_of core) i (node_of i (place n p)) (part_node core i n p placed) in omega (arith, e, low)
