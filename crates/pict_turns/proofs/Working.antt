-- What the parts of a step cost.
use Rattle.std.proofs.Common.{ℕ, zero, suc, ◌+◌, ◌*◌, ◌<◌, ◌≤◌, ◌≡◌, max, List, [], ◌∷◌, length, map, refl, sym, ap, ◌∙◌, subst, arith, Some}
use Rattle.std.proofs.lemmas.List.{length-map}
use Rattle.std.specs.List.{slice_get}
use Rattle.pict_core.specs.Term as term
use Rattle.pict_core.specs.Term.{Val, Process, Chan}
use Rattle.pict_code.specs.Instruction as op
use Rattle.pict_code.specs.Instruction.{Op, Node as AnyNode}
use Rattle.pict_code.specs.Nodes.{nodes_of}
use Rattle.pict_code.specs.Plain.{plain_node}
use Rattle.pict_code.specs.declared.instruction.Node.{Node}
use Rattle.pict_queue.specs.QueuesState.{QueuesState, CostsAtMost}
use Rattle.pict_queue.specs.Contents.{contents}
use Rattle.pict_heap.specs.HeapState.{HeapState}
use Rattle.pict_blocks.specs.Blocks.{process_of}
use Rattle.pict_desk.specs.Known.{value_in}
use Rattle.pict_turns.proofs.Wide.{node_of, node_wide}
use Rattle.pict_turns.specs.Acting.{HasActing, ActsBy, IsRefused}
use Rattle.pict_desk.specs.Code.{core_in, IsCode, HasFrame}
use Rattle.pict_turns.specs.Cost.{block_size, partner_size, input_size, output_size, cost_of, first_cost, step_cost}
use Rattle.pict_blocks.specs.Parts.{block_width}
use Rattle.pict_turns.specs.Reserving.{OnlyReserves}
use Rattle.pict_turns.specs.Turns.{handing, turn_cost}
use Rattle.pict_turns.specs.Views.{acting_words, ready_words, IsBlock, IsKept}
use Rattle.pict_turns.specs.declared.store.Store.{Store}
use Rattle.pict_turns.specs.declared.turn.Turn.TheVariants.{Nobody}
use Rattle.pict_turns.proofs.Numbered.{fork_parts, if_parts, new_part}
use Rattle.pict_desk.proofs.Numbered.{in_code, coded_frame}
use Rattle.pict_turns.proofs.Turns.{words_nobody, ready_nobody, ready_is, acting_block, cost_is, cost_nobody, same_words}
use Rattle.pict_turns.specs.Stepping.{GivesTurn}
use Rattle.pict_turns.specs.Work.{Fits}
use Rattle.pict_turns.proofs.Costing.{alone_fits, fork_fits, choose_fits, new_fits, kept_fits}

-- ---- sums

pub costs_then : (a b c : QueuesState) (j k n : ℕ) → CostsAtMost j a b → CostsAtMost k b c → j + k ≤ n → CostsAtMost n a c
costs_then a b c j k n x y low =
    let d = x.least in
    let e = x.most in
    let f = y.least in
    let g = y.most in
    record { least = omega (arith, d, f); most = omega (arith, e, g, low) }

pub costs_reserved : (old mid : Store) (new : QueuesState) (k n : ℕ) → OnlyReserves old mid → CostsAtMost k mid.queues new → k ≤ n → CostsAtMost n old.queues new
costs_reserved old mid new k n r c low =
    let same = r.work in
    let e = c.least in
    let f = c.most in
    record { least = omega (arith, same, e); most = omega (arith, same, f, low) }

pub costs_same : (a b : QueuesState) (n : ℕ) → b.region.work ≡ a.region.work → CostsAtMost n a b
costs_same a b n same = record { least = omega (arith, same); most = omega (arith, same) }

-- ---- who has the turn

module _ (core : Process) (s : Store) where
  -- a node's block would be as wide as that of its frame
  pub own_wide : (o : Op) (a : ActsBy core s o) → length (acting_words core s) + 1 ≡ block_width a.node.frame
  own_wide o a =
      let n = node_of core s.desk.heap a.number a.is.frame (acting_words core s) a.is.words_are (subst (IsBlock core s.desk.heap) a.is.words_are (acting_block core s a.acting)) in
      let there : Some n.0.node ≡ Some a.node = sym n.0.at ∙ ap (slice_get (nodes_of core)) n.1 ∙ a.is.at in
      let same : n.0.node ≡ a.node = cc in
      node_wide core s.desk.heap (acting_words core s) n.0 ∙ ap (λ (x : AnyNode). block_width x.frame) same

  pub own_cost : (o : Op) (a : ActsBy core s o) → turn_cost core s ≡ block_width a.node.frame + 4
  own_cost o a =
      let e = cost_is core s (acting_words core s) a.acting.has in
      let w = own_wide o a in
      omega (arith, e, w)

  pub kept_length : IsKept s.desk.heap (acting_words core s) → length (acting_words core s) ≡ 8
  kept_length k = ap length k.is

  pub kept_cost : HasActing core s → IsKept s.desk.heap (acting_words core s) → turn_cost core s ≡ 13
  kept_cost a k =
      let e = cost_is core s (acting_words core s) a.has in
      let n = kept_length k in
      omega (arith, e, n)

-- a step that isn't done leaves the turn with who had it
pub refused_cost : (core : Process) (old new : Store) → IsRefused core old new → turn_cost core new ≡ turn_cost core old
refused_cost core old new r = ap handing (same_words core old new r.turn r.values)

-- ---- steps

pub fits_by : (core : Process) (old new : Store) (k m : ℕ) → CostsAtMost k old.queues new.queues → turn_cost core new ≤ m → turn_cost core old + m + k ≤ cost_of core old (acting_words core old) → Fits core old new
fits_by core old new k m c turn low = let e = c.most in record { least = c.least; most = omega (arith, e, turn, low) }

-- ---- frames

frame_at_number : (nodes : List AnyNode) (n : ℕ) → n < length nodes → (frame : List ℕ) × HasFrame nodes n frame
frame_at_number [] n low = absurd (omega arith)
frame_at_number (x ∷ xs) zero low = (x.frame, record { node = x; at = refl; is = refl })
frame_at_number (x ∷ xs) (suc n) low = let f = frame_at_number xs n (omega (arith, low)) in (f.0, record { node = f.1.node; at = f.1.at; is = f.1.is })

pub frame_there : (code : List Node) (n : ℕ) → n < length code → (frame : List ℕ) × HasFrame (map plain_node code) n frame
frame_there code n low = frame_at_number (map plain_node code) n (omega (arith, low, length-map code plain_node))

-- ---- steps without a partner

-- who has the turn ends, waits, or calls a primitive
pub alone_works : (core : Process) (s new : Store) (o : Op) (a : ActsBy core s o) (k m : ℕ) → CostsAtMost k s.queues new.queues → turn_cost core new ≤ m → m + k ≤ block_width a.node.frame + 30 → Fits core s new
alone_works core s new o a k m cost turn few =
    let own = own_cost core s o a in
    fits_by core s new k m cost turn (alone_fits core s o a (turn_cost core s + m + k) (omega (arith, own, few)))

pub end_works : (core : Process) (s new : Store) → ActsBy core s op.Zero → new ≡ record s { turn = Nobody } → Fits core s new
end_works core s new a e =
    let idle = cost_nobody core new (ap (λ (x : Store). x.turn) e) in
    alone_works core s new op.Zero a 0 0 (costs_same s.queues new.queues 0 (ap (λ (x : Store). x.queues.region.work) e)) (omega (arith, idle)) (omega arith)

pub kept_works : (core : Process) (s new : Store) → HasActing core s → IsKept s.desk.heap (acting_words core s) → (k m : ℕ) → CostsAtMost k s.queues new.queues → turn_cost core new ≤ m → m + k ≤ 200 → Fits core s new
kept_works core s new acting kept k m cost turn few =
    let own = kept_cost core s acting kept in
    fits_by core s new k m cost turn (kept_fits core s _ kept.is (turn_cost core s + m + k) (omega (arith, own, few)))

module _ (code : List Node) (is : IsCode (map plain_node code)) (s new : Store) where
  pub fork_works : (l r : ℕ) → ActsBy (core_in code) s (op.Par l r)
      → ((first : List ℕ) → HasFrame (map plain_node code) l first → turn_cost (core_in code) new ≤ turn_cost (core_in code) s + (block_width first + 4))
      → ((second : List ℕ) → HasFrame (map plain_node code) r second → CostsAtMost (block_width second + 2) s.queues new.queues) → Fits (core_in code) s new
  fork_works l r a turn cost =
      let core = core_in code in
      let low = fork_parts core s l r a in
      let x = frame_there code l (in_code code is l low.0) in
      let y = frame_there code r (in_code code is r low.1) in
      let own = own_cost core s (op.Par l r) a in
      fits_by core s new (block_width y.0 + 2) (turn_cost core s + (block_width x.0 + 4)) (cost y.0 y.1) (turn x.0 x.1)
      (fork_fits core s l r a x.0 y.0 (coded_frame code is l x.0 x.1) (coded_frame code is r y.0 y.1) (turn_cost core s + (turn_cost core s + (block_width x.0 + 4)) + (block_width y.0 + 2)) (omega (arith, own)))

  pub choose_works : (test : Val) (l r : ℕ) → ActsBy (core_in code) s (op.If test l r)
      → ((first second : List ℕ) → HasFrame (map plain_node code) l first → HasFrame (map plain_node code) r second
      → turn_cost (core_in code) new ≤ turn_cost (core_in code) s + (max (block_width first) (block_width second) + 4)) → new.queues.region.work ≡ s.queues.region.work → Fits (core_in code) s new
  choose_works test l r a turn work =
      let core = core_in code in
      let low = if_parts core s test l r a in
      let x = frame_there code l (in_code code is l low.0) in
      let y = frame_there code r (in_code code is r low.1) in
      let own = own_cost core s (op.If test l r) a in
      fits_by core s new 0 (turn_cost core s + (max (block_width x.0) (block_width y.0) + 4)) (costs_same s.queues new.queues 0 work) (turn x.0 y.0 x.1 y.1)
      (choose_fits core s test l r a x.0 y.0 (coded_frame code is l x.0 x.1) (coded_frame code is r y.0 y.1) (turn_cost core s + (turn_cost core s + (max (block_width x.0) (block_width y.0) + 4)) + 0) (omega (arith, own)))

  pub new_works : (level part : ℕ) → ActsBy (core_in code) s (op.New level part)
      → ((frame : List ℕ) → HasFrame (map plain_node code) part frame → turn_cost (core_in code) new ≤ turn_cost (core_in code) s + (block_width frame + 4))
      → new.queues.region.work ≡ s.queues.region.work → Fits (core_in code) s new
  new_works level part a turn work =
      let core = core_in code in
      let low = new_part core s level part a in
      let x = frame_there code part (in_code code is part low.0) in
      let own = own_cost core s (op.New level part) a in
      fits_by core s new 0 (turn_cost core s + (block_width x.0 + 4)) (costs_same s.queues new.queues 0 work) (turn x.0 x.1)
      (new_fits core s level part a x.0 (coded_frame code is part x.0 x.1) (turn_cost core s + (turn_cost core s + (block_width x.0 + 4)) + 0) (omega (arith, own)))

-- ---- the whole step

partner_stays : (nodes : List AnyNode) (old new : QueuesState) → ((c : ℕ) → contents new (c + 1) ≡ contents old (c + 1)) → (p : Process) → partner_size nodes new p ≡ partner_size nodes old p
partner_stays nodes old new same (term.Out (term.Chan c) message at) = ap (input_size nodes) (same c)
partner_stays nodes old new same (term.Out (term.Var n) message at) = refl
partner_stays nodes old new same (term.Out (term.Int n) message at) = refl
partner_stays nodes old new same (term.Out (term.Char n) message at) = refl
partner_stays nodes old new same (term.Out (term.Boolean n) message at) = refl
partner_stays nodes old new same (term.Out (term.Text n) message at) = refl
partner_stays nodes old new same (term.Out (term.PrimitiveVal n) message at) = refl
partner_stays nodes old new same (term.Out (term.Record vs ls) message at) = refl
partner_stays nodes old new same (term.In (term.Chan c) replicated pattern body) = ap (output_size nodes) (same c)
partner_stays nodes old new same (term.In (term.Var n) replicated pattern body) = refl
partner_stays nodes old new same (term.In (term.Int n) replicated pattern body) = refl
partner_stays nodes old new same (term.In (term.Char n) replicated pattern body) = refl
partner_stays nodes old new same (term.In (term.Boolean n) replicated pattern body) = refl
partner_stays nodes old new same (term.In (term.Text n) replicated pattern body) = refl
partner_stays nodes old new same (term.In (term.PrimitiveVal n) replicated pattern body) = refl
partner_stays nodes old new same (term.In (term.Record vs ls) replicated pattern body) = refl
partner_stays nodes old new same term.Zero = refl
partner_stays nodes old new same (term.Par p q) = refl
partner_stays nodes old new same (term.New p) = refl
partner_stays nodes old new same (term.If test p q) = refl

-- somebody has the turn, and acts
module _ (core : Process) (s taken acted : Store) (g : GivesTurn core s taken) (f : Fits core taken acted) where
  cost_before : cost_of core taken (acting_words core taken) ≡ first_cost core s (ready_words core s)
  cost_before =
      let words = acting_words core taken in
      let p = process_of core (value_in s.desk.heap) words in
      let same = partner_stays (nodes_of core) s.queues taken.queues (λ k. g.others (k + 1) (λ e. omega (arith, e))) p in
      ap (λ (h : HeapState). 64 * (block_size (nodes_of core) words + partner_size (nodes_of core) taken.queues (process_of core (value_in h) words))) g.heap
      ∙ ap (λ n. 64 * (block_size (nodes_of core) words + n)) same
      ∙ ap (first_cost core s) (sym (ready_is core taken words g.acting.has) ∙ g.ready)

  -- with what it takes to set the turn down
  work_to_rest : turn_cost core acted + acted.queues.region.work ≤ s.queues.region.work + first_cost core s (ready_words core s)
  work_to_rest = let b = g.work.most in let h = f.most in let total = cost_before in omega (arith, b, h, total)

  pub running_works : CostsAtMost (first_cost core s (ready_words core s)) s.queues acted.queues
  running_works =
      let a = g.work.least in
      let l = f.least in
      let most = work_to_rest in
      record { least = omega (arith, a, l); most = omega (arith, most) }

  -- and the turn is set down
  pub step_works : (new : Store) → s.turn ≡ Nobody → CostsAtMost (turn_cost core acted) acted.queues new.queues → CostsAtMost (step_cost core s) s.queues new.queues
  step_works new idle after =
      let a = g.work.least in
      let l = f.least in
      let most = work_to_rest in
      let total : first_cost core s (ready_words core s) ≡ step_cost core s = ap (first_cost core s) (ready_nobody core s (words_nobody core s idle)) in
      let c = after.least in
      let d = after.most in
      record { least = omega (arith, a, l, c); most = omega (arith, most, d, total) }
