-- The rows of the table of steps cost at most what the sizes of their instructions allow.
use Rattle.std.proofs.Common.{ℕ, zero, suc, ◌+◌, ◌*◌, ◌≤◌, ◌≡◌, Bool, true, false, cond, nat_lt, List, ◌∷◌, length, max, refl, ap, ◌∙◌, arith, Some, option_map, unwrap_or}
use Rattle.std.specs.List.{slice_get}
use Rattle.pict_syntax.specs.declared.limits.TheConstants.{NARROW_LIMIT}
use Rattle.pict_syntax.specs.declared.span.Span.{Span}
use Rattle.pict_core.specs.Term as term
use Rattle.pict_core.specs.Term.{Val, Chan, Process}
use Rattle.pict_code.specs.Instruction as op
use Rattle.pict_code.specs.Instruction.{CodePat, Node, Op}
use Rattle.pict_code.specs.Nodes.{nodes_of, input_op}
use Rattle.pict_queue.specs.Contents.{contents}
use Rattle.pict_blocks.specs.Blocks.{process_of}
use Rattle.pict_desk.specs.Known.{value_in}
use Rattle.pict_turns.specs.Acting.{ActsBy}
use Rattle.pict_turns.specs.Cost.{value_size, pattern_size, frame_size, op_size, instruction_size, block_size, input_size, partner_size, cost_of}
use Rattle.pict_blocks.specs.Parts.{block_width}
use Rattle.pict_desk.specs.Code.{HasFrame}
use Rattle.pict_turns.specs.Views.{acting_words}
use Rattle.pict_turns.specs.declared.store.Store.{Store}

-- ---- widths and sizes

width_by : (b : Bool) (n : ℕ) → cond b 4 (2 + 2 * n) ≤ 4 + 2 * n
width_by true n = omega arith
width_by false n = omega arith

-- a block is at most as wide as four words and two for each level
width_most : (frame : List ℕ) → block_width frame ≤ 4 + 2 * length frame
width_most frame = width_by (nat_lt NARROW_LIMIT (length frame)) (length frame)

module _ (nodes : List Node) where
  frame_is : (number : ℕ) (frame : List ℕ) → HasFrame nodes number frame → frame_size nodes number ≡ length frame
  frame_is number frame f = ap (λ o. unwrap_or (option_map (λ (n : Node). length n.frame) o) 0) f.at ∙ ap length f.is

  node_size : (number : ℕ) (held : List ℕ) (node : Node) → slice_get nodes number ≡ Some node → block_size nodes (suc number ∷ held) ≡ instruction_size nodes node
  node_size number held node at = ap (λ o. unwrap_or (option_map (instruction_size nodes) o) 0) at

  -- the size of a node's block, by its frame and its instruction
  size_is : (number : ℕ) (held : List ℕ) (o : Op) (node : Node) → slice_get nodes number ≡ Some node → node.op ≡ o → block_size nodes (suc number ∷ held) ≡ 1 + (length node.frame + op_size nodes o)
  size_is number held o node at is = node_size number held node at ∙ ap (λ q. 1 + (length node.frame + op_size nodes q)) is

input_size_is : (nodes : List Node) (replicated : Bool) (chan : Val) (pattern : CodePat) (part : ℕ) → op_size nodes (input_op replicated chan pattern part) ≡ value_size chan + pattern_size pattern + frame_size nodes part
input_size_is nodes true chan pattern part = refl
input_size_is nodes false chan pattern part = refl

-- ---- steps, with forty units beside the frames: each frame is read once and written once at most

module _ (core : Process) (s : Store) where
  module _ (o : Op) (a : ActsBy core s o) where
    own_size : block_size (nodes_of core) (acting_words core s) ≡ 1 + (length a.node.frame + op_size (nodes_of core) o)
    own_size = ap (block_size (nodes_of core)) a.is.words_are ∙ size_is (nodes_of core) a.number a.is.frame o a.node a.is.at a.op_is

    pub alone_fits : (n : ℕ) → n ≤ 40 + 2 * block_width a.node.frame → n ≤ cost_of core s (acting_words core s)
    alone_fits n few = let e = own_size in let w = width_most a.node.frame in omega (arith, few, e, w)

  pub fork_fits : (l r : ℕ) (a : ActsBy core s (op.Par l r)) (first second : List ℕ) → HasFrame (nodes_of core) l first → HasFrame (nodes_of core) r second
      → (n : ℕ) → n ≤ 40 + 2 * (block_width a.node.frame + block_width first + block_width second) → n ≤ cost_of core s (acting_words core s)
  fork_fits l r a first second g h n few =
      let e = own_size (op.Par l r) a in
      let i = frame_is (nodes_of core) l first g in
      let j = frame_is (nodes_of core) r second h in
      let w = width_most a.node.frame in
      let v = width_most first in
      let u = width_most second in
      omega (arith, few, e, i, j, w, v, u)

  pub choose_fits : (test : Val) (l r : ℕ) (a : ActsBy core s (op.If test l r)) (first second : List ℕ) → HasFrame (nodes_of core) l first → HasFrame (nodes_of core) r second
      → (n : ℕ) → n ≤ 40 + 2 * (block_width a.node.frame + max (block_width first) (block_width second)) → n ≤ cost_of core s (acting_words core s)
  choose_fits test l r a first second g h n few =
      let e = own_size (op.If test l r) a in
      let i = frame_is (nodes_of core) l first g in
      let j = frame_is (nodes_of core) r second h in
      let w = width_most a.node.frame in
      let v = width_most first in
      let u = width_most second in
      omega (arith, few, e, i, j, w, v, u)

  pub new_fits : (level part : ℕ) (a : ActsBy core s (op.New level part)) (theirs : List ℕ) → HasFrame (nodes_of core) part theirs
      → (n : ℕ) → n ≤ 40 + 2 * (block_width a.node.frame + block_width theirs) → n ≤ cost_of core s (acting_words core s)
  new_fits level part a theirs g n few =
      let e = own_size (op.New level part) a in
      let i = frame_is (nodes_of core) part theirs g in
      let w = width_most a.node.frame in
      let v = width_most theirs in
      omega (arith, few, e, i, w, v)

  pub input_fits : (replicated : Bool) (chan : Val) (pattern : CodePat) (part : ℕ) (a : ActsBy core s (input_op replicated chan pattern part)) (theirs : List ℕ) → HasFrame (nodes_of core) part theirs
      → (n : ℕ) → n ≤ 40 + 2 * (block_width a.node.frame + block_width theirs) → n ≤ cost_of core s (acting_words core s)
  input_fits replicated chan pattern part a theirs g n few =
      let e = own_size (input_op replicated chan pattern part) a in
      let o = input_size_is (nodes_of core) replicated chan pattern part in
      let i = frame_is (nodes_of core) part theirs g in
      let w = width_most a.node.frame in
      let v = width_most theirs in
      omega (arith, few, e, o, i, w, v)

  -- ---- steps of outputs of kept values

  pub kept_fits : (held : List ℕ) → acting_words core s ≡ zero ∷ held → (n : ℕ) → n ≤ 256 → n ≤ cost_of core s (acting_words core s)
  kept_fits held is n few =
      let e : block_size (nodes_of core) (acting_words core s) ≡ 4 = ap (block_size (nodes_of core)) is in
      omega (arith, few, e)

  -- ---- steps of outputs that meet an input

  module _ (c : ℕ) (v : Val) (at : Span) (out : process_of core (value_in s.desk.heap) (acting_words core s) ≡ term.Out (Chan c) v at)
      (reader part : ℕ) (held : List ℕ) (others : List (List ℕ)) (waits : contents s.queues (c + 1) ≡ (suc reader ∷ held) ∷ others)
      (node : Node) (there : slice_get (nodes_of core) reader ≡ Some node) (replicated : Bool) (chan : Val) (pattern : CodePat) (is : node.op ≡ input_op replicated chan pattern part)
      (body : List ℕ) (body_frame : HasFrame (nodes_of core) part body) where
    reader_size : 1 + (length node.frame + length body) ≤ partner_size (nodes_of core) s.queues (process_of core (value_in s.desk.heap) (acting_words core s))
    reader_size =
        let e = ap (partner_size (nodes_of core) s.queues) out ∙ ap (input_size (nodes_of core)) waits
        ∙ size_is (nodes_of core) reader held (input_op replicated chan pattern part) node there is in
        let o = input_size_is (nodes_of core) replicated chan pattern part in
        let i = frame_is (nodes_of core) part body body_frame in
        omega (arith, e, o, i)

    pub meets_fits : (chan' message : Val) (place : Span) (a : ActsBy core s (op.Out chan' message place))
        → (n : ℕ) → n ≤ 40 + 2 * (block_width a.node.frame + block_width node.frame + block_width body) → n ≤ cost_of core s (acting_words core s)
    meets_fits chan' message place a n few =
        let e = own_size (op.Out chan' message place) a in
        let r = reader_size in
        let w = width_most a.node.frame in
        let x = width_most node.frame in
        let y = width_most body in
        omega (arith, few, e, r, w, x, y)

    pub kept_meets_fits : (rest : List ℕ) → acting_words core s ≡ zero ∷ rest
        → (n : ℕ) → n ≤ 40 + 2 * (block_width node.frame + block_width body) → n ≤ cost_of core s (acting_words core s)
    kept_meets_fits rest first n few =
        let e : block_size (nodes_of core) (acting_words core s) ≡ 4 = ap (block_size (nodes_of core)) first in
        let r = reader_size in
        let x = width_most node.frame in
        let y = width_most body in
        omega (arith, few, e, r, x, y)
