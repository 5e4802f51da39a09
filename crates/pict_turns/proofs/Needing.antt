-- Which blocks a step needs, from the clauses of what it does.
use Rattle.std.proofs.Common.{ℕ, zero, suc, ◌+◌, ◌≡◌, Bool, if◌then◌else◌, List, [], ◌∷◌, ◌++◌, length, map, refl, sym, ap, ◌∙◌, subst, arith, Option, Some, None, IsSome, option_map, unwrap_or}
use Rattle.std.specs.List.{slice_get}
use Rattle.pict_syntax.specs.declared.span.Span.{Span}
use Rattle.pict_syntax.specs.declared.primitive.Primitive.{Primitive}
use Rattle.pict_core.specs.Closed.{IsClosed, IsUnder}
use Rattle.pict_core.specs.Primitives.{Effect, effect_of}
use Rattle.pict_core.specs.Term as term
use Rattle.pict_core.specs.Term.{Val, Process, Boolean, Chan, PrimitiveVal}
use Rattle.pict_code.specs.Instruction as op
use Rattle.pict_code.specs.Instruction.{Op, Node}
use Rattle.pict_code.specs.Nodes.{nodes_of}
use Rattle.pict_code.specs.Plain.{plain_node}
use Rattle.pict_code.proofs.Closings.{part_under}
use Rattle.pict_code.specs.declared.instruction.Node as written
use Rattle.pict_queue.specs.QueuesState.{QueuesState}
use Rattle.pict_queue.specs.Contents.{contents}
use Rattle.pict_region.specs.RegionState.{spare, KeepsBlocks}
use Rattle.pict_heap.specs.HeapState.{HeapState}
use Rattle.pict_blocks.specs.Writing.{OnlyWorks}
use Rattle.pict_blocks.proofs.Held.{works_blocks}
use Rattle.pict_blocks.specs.Blocks.{process_of}
use Rattle.pict_desk.specs.Known.{value_in, known, operand_value}
use Rattle.pict_desk.proofs.Nodes.{is_if, op_is}
use Rattle.pict_desk.proofs.OperandsAround.{same_operand}
use Rattle.pict_desk.proofs.Parts.{node_with, if_stands}
use Rattle.pict_turns.specs.Acting.{ActsBy, IsRight}
use Rattle.pict_desk.specs.Code.{core_in, IsCode}
use Rattle.pict_turns.specs.Views.{acting_words, ready_words}
use Rattle.pict_turns.specs.Widths.{MakesOnly, how_many, part_width, answer_widths}
use Rattle.pict_turns.specs.declared.store.Store.{Store}
use Rattle.pict_turns.proofs.Making.{makes_before, makes_after, makes_beside}
use Rattle.pict_turns.proofs.Numbered.{standing, test_boolean}
use Rattle.pict_turns.proofs.Turns.{words_nobody, ready_nobody, ready_is}
use Rattle.pict_turns.specs.declared.turn.Turn.TheVariants.{Nobody}
use Rattle.pict_turns.specs.Stepping.{GivesTurn}
use Rattle.pict_turns.specs.Needs.{served_widths, taken_widths, output_widths, receipt_widths, choice_widths, node_widths, block_widths, widths_of, first_widths, needed_widths, turn_widths, running_widths, MakesNeeded}

-- ---- what waits at channels stays, and so do the blocks that are needed

module _ (nodes : List Node) (old new : QueuesState) (same : (c : ℕ) → contents new (c + 1) ≡ contents old (c + 1)) where
  output_stays : (to_wait : List ℕ) (p : Process) → output_widths nodes new to_wait p ≡ output_widths nodes old to_wait p
  output_stays to_wait (term.Out (term.Chan c) message at) = ap (served_widths nodes to_wait) (same c)
  output_stays to_wait (term.Out (term.Var n) message at) = refl
  output_stays to_wait (term.Out (term.Int n) message at) = refl
  output_stays to_wait (term.Out (term.Char n) message at) = refl
  output_stays to_wait (term.Out (term.Boolean n) message at) = refl
  output_stays to_wait (term.Out (term.Text n) message at) = refl
  output_stays to_wait (term.Out (term.PrimitiveVal n) message at) = refl
  output_stays to_wait (term.Out (term.Record vs ls) message at) = refl
  output_stays to_wait term.Zero = refl
  output_stays to_wait (term.Par p q) = refl
  output_stays to_wait (term.New p) = refl
  output_stays to_wait (term.In chan replicated pattern body) = refl
  output_stays to_wait (term.If test p q) = refl

  receipt_stays : (part : ℕ) (p : Process) → receipt_widths nodes new part p ≡ receipt_widths nodes old part p
  receipt_stays part (term.In (term.Chan c) replicated pattern body) = ap (taken_widths nodes part) (same c)
  receipt_stays part (term.In (term.Var n) replicated pattern body) = refl
  receipt_stays part (term.In (term.Int n) replicated pattern body) = refl
  receipt_stays part (term.In (term.Char n) replicated pattern body) = refl
  receipt_stays part (term.In (term.Boolean n) replicated pattern body) = refl
  receipt_stays part (term.In (term.Text n) replicated pattern body) = refl
  receipt_stays part (term.In (term.PrimitiveVal n) replicated pattern body) = refl
  receipt_stays part (term.In (term.Record vs ls) replicated pattern body) = refl
  receipt_stays part term.Zero = refl
  receipt_stays part (term.Par p q) = refl
  receipt_stays part (term.New p) = refl
  receipt_stays part (term.Out chan message at) = refl
  receipt_stays part (term.If test p q) = refl

  node_stays : (o : Op) (p : Process) → node_widths nodes new o p ≡ node_widths nodes old o p
  node_stays op.Zero p = refl
  node_stays (op.Par left right) p = refl
  node_stays (op.New level part) p = refl
  node_stays (op.Out chan message at) p = output_stays (9 ∷ []) p
  node_stays (op.In chan pattern part) p = receipt_stays part p
  node_stays (op.Serve chan pattern part) p = receipt_stays part p
  node_stays (op.If test left right) p = refl

  found_stays : (p : Process) (o : Option Node) → unwrap_or (option_map (λ (n : Node). node_widths nodes new n.op p) o) [] ≡ unwrap_or (option_map (λ (n : Node). node_widths nodes old n.op p) o) []
  found_stays p None = refl
  found_stays p (Some n) = node_stays n.op p

  block_stays : (words : List ℕ) (p : Process) → block_widths nodes new words p ≡ block_widths nodes old words p
  block_stays [] p = refl
  block_stays (zero ∷ held) p = output_stays [] p
  block_stays (suc number ∷ held) p = found_stays p (slice_get nodes number)

-- ---- the whole step

pub many_append : (width : ℕ) (xs ys : List ℕ) → how_many width (xs ++ ys) ≡ how_many width xs + how_many width ys
many_append width [] ys = omega arith
many_append width (x ∷ xs) ys = let e = many_append width xs ys in omega (arith, e)

many_beside : (width w : ℕ) (ws : List ℕ) → how_many width (w ∷ ws) ≡ how_many width (w ∷ []) + how_many width ws
many_beside width w ws = many_append width (w ∷ []) ws

-- somebody has the turn, and acts
module _ (core : Process) (s taken acted : Store) (g : GivesTurn core s taken) (makes : MakesNeeded core taken acted) where
  -- what is needed beside the block of who has the turn
  makes_more : MakesOnly taken.queues acted.queues ((length (acting_words core taken) + 1) ∷ first_widths core s (ready_words core s))
  makes_more =
      let words = acting_words core taken in
      let heap : widths_of core taken words ≡ block_widths (nodes_of core) taken.queues words (process_of core (value_in s.desk.heap) words) =
      ap (λ (h : HeapState). block_widths (nodes_of core) taken.queues words (process_of core (value_in h) words)) g.heap in
      let stays = block_stays (nodes_of core) s.queues taken.queues (λ c. g.others (c + 1) (λ e. omega (arith, e))) words (process_of core (value_in s.desk.heap) words) in
      let total : widths_of core s words ≡ first_widths core s (ready_words core s) = ap (first_widths core s) (sym (ready_is core taken words g.acting.has) ∙ g.ready) in
      subst (λ (ws : List ℕ). MakesOnly taken.queues acted.queues ((length words + 1) ∷ ws)) (heap ∙ stays ∙ total) makes

  pub running_needs : MakesOnly s.queues acted.queues (running_widths core s)
  running_needs = record {
    least = λ width. let least = makes_more.least width in let before = g.blocks width in omega (arith, least, before);
    most = λ width.
        let words = acting_words core taken in
        let needed = first_widths core s (ready_words core s) in
        let most = makes_more.most width in
        let beside = many_beside width (length words + 1) needed in
        let own : how_many width (turn_widths core taken) ≡ how_many width ((length words + 1) ∷ []) =
        ap (λ (ws : List (List ℕ)). how_many width (map (λ (w : List ℕ). length w + 1) ws)) g.acting.has in
        let free = g.freed width in
        let both = many_append width (turn_widths core s) needed in
        let before = g.blocks width in
        omega (arith, most, beside, own, free, both, before);
  }

  -- and the turn is set down
  pub needed_whole : (last : Store) → s.turn ≡ Nobody → KeepsBlocks acted.queues.region last.queues.region → MakesOnly s.queues last.queues (needed_widths core s)
  needed_whole last idle keeps =
      let none = words_nobody core s idle in
      let same : running_widths core s ≡ needed_widths core s =
      ap (λ (ws : List (List ℕ)). map (λ (w : List ℕ). length w + 1) ws ++ first_widths core s (ready_words core s)) none ∙ ap (first_widths core s) (ready_nobody core s none) in
      subst (λ (ws : List ℕ). MakesOnly s.queues last.queues ws) same (makes_before s.queues acted.queues last.queues (running_widths core s) running_needs keeps)

-- ---- while queues work

pub only_worked : (old mid new : QueuesState) (needed : List ℕ) → OnlyWorks old mid → MakesOnly mid new needed → MakesOnly old new needed
only_worked old mid new needed works makes =
    makes_after old mid new needed (works_blocks old mid works) (λ width. let e = ap (λ (q : QueuesState). spare q.region width) works in omega (arith, e)) makes

-- ---- what a node's step needs

module _ (core : Process) (s : Store) where
  abbrev pub block_process : Process
  block_process = process_of core (value_in s.desk.heap) (acting_words core s)

  -- beside the block of who had the turn
  pub needed_beside : (new : Store) (needed : List ℕ) → widths_of core s (acting_words core s) ≡ needed → MakesOnly s.queues new.queues ((length (acting_words core s) + 1) ∷ needed) → MakesNeeded core s new
  needed_beside new needed e makes = subst (λ (ws : List ℕ). MakesOnly s.queues new.queues ((length (acting_words core s) + 1) ∷ ws)) (sym e) makes

  pub needed_by : (new : Store) (needed : List ℕ) → widths_of core s (acting_words core s) ≡ needed → MakesOnly s.queues new.queues needed → MakesNeeded core s new
  needed_by new needed e makes = needed_beside new needed e (makes_beside s.queues new.queues (length (acting_words core s) + 1) needed makes)

  pub node_needs : (o : Op) → ActsBy core s o → widths_of core s (acting_words core s) ≡ node_widths (nodes_of core) s.queues o block_process
  node_needs o a =
      ap (λ (ws : List ℕ). block_widths (nodes_of core) s.queues ws block_process) a.is.words_are
      ∙ ap (λ (n : Option Node). unwrap_or (option_map (λ (x : Node). node_widths (nodes_of core) s.queues x.op block_process) n) []) a.is.at
      ∙ ap (λ (x : Op). node_widths (nodes_of core) s.queues x block_process) a.op_is

  pub kept_needs : (held : List ℕ) → acting_words core s ≡ zero ∷ held → widths_of core s (acting_words core s) ≡ output_widths (nodes_of core) s.queues [] block_process
  kept_needs held is = ap (λ (ws : List ℕ). block_widths (nodes_of core) s.queues ws block_process) is

  -- a conditional
  pub choice_needs : (test : Val) (left right : ℕ) (a : ActsBy core s (op.If test left right)) (b : Bool) (p q : Process) → block_process ≡ term.If (Boolean b) p q
      → widths_of core s (acting_words core s) ≡ part_width (nodes_of core) (if b then left else right) ∷ []
  choice_needs test left right a b p q is = node_needs (op.If test left right) a ∙ ap (choice_widths (nodes_of core) left right) is

  -- ---- outputs

  module _ (to_wait : List ℕ) (needs : widths_of core s (acting_words core s) ≡ output_widths (nodes_of core) s.queues to_wait block_process) where
    called : (o : Option Effect) → IsSome o → (e : Effect) × (o ≡ Some e)
    called None some = cc
    called (Some e) some = (e, refl)

    -- to a primitive
    pub call_needed : (new : Store) (p : Primitive) (v : Val) (at : Span) → block_process ≡ term.Out (PrimitiveVal p) v at → IsSome (effect_of p v)
        → ((e : Effect) → effect_of p v ≡ Some e → MakesOnly s.queues new.queues (answer_widths e)) → MakesNeeded core s new
    call_needed new p v at is takes makes =
        let e = called (effect_of p v) takes in
        needed_by new (answer_widths e.0) (needs ∙ ap (output_widths (nodes_of core) s.queues to_wait) is ∙ ap (λ (o : Option Effect). unwrap_or (option_map answer_widths o) []) e.1) (makes e.0 e.1)

-- ---- the rows of nodes that need no partner

-- the process of a conditional
pub choice_process : (core : Process) (s : Store) (test : Val) (left right : ℕ) → IsClosed core → ActsBy core s (op.If test left right)
    → (p : Process) × (q : Process) × (block_process core s ≡ term.If (operand_value (known s.desk.heap s.desk.values.items) test) p q)
choice_process core s test left right closed a =
    let st = standing core s (op.If test left right) a in
    let n = st.part.around in
    let value = known s.desk.heap s.desk.values.items in
    let form = is_if a.number n test left right st.part.process (op_is core a.number a.node st.part (op.If test left right) st.at a.op_is) in
    let under : IsUnder n 0 (term.If test form.p form.q) = subst (IsUnder n 0) form.is (part_under core a.number st.part closed st.at.at) in (
      node_with n value form.p,
      node_with n value form.q,
      st.is ∙ ap (node_with n value) form.is ∙ if_stands n value test form.p form.q
          ∙ ap (λ v. term.If v (node_with n value form.p) (node_with n value form.q)) (same_operand n value test under.0),
    )

module _ (code : List written.Node) (is : IsCode (map plain_node code)) (s : Store) (new : Store) where
  pub fork_made : (left right : ℕ) → ActsBy (core_in code) s (op.Par left right)
      → MakesOnly s.queues new.queues (part_width (map plain_node code) left ∷ part_width (map plain_node code) right ∷ []) → MakesNeeded (core_in code) s new
  fork_made left right a makes =
      needed_by (core_in code) s new _ (node_needs (core_in code) s (op.Par left right) a)
      (subst (λ (ns : List Node). MakesOnly s.queues new.queues (part_width ns left ∷ part_width ns right ∷ [])) (sym is.nodes_are) makes)

  pub new_made : (level part : ℕ) → ActsBy (core_in code) s (op.New level part) → MakesOnly s.queues new.queues (part_width (map plain_node code) part ∷ []) → MakesNeeded (core_in code) s new
  new_made level part a makes =
      needed_by (core_in code) s new _ (node_needs (core_in code) s (op.New level part) a)
      (subst (λ (ns : List Node). MakesOnly s.queues new.queues (part_width ns part ∷ [])) (sym is.nodes_are) makes)

  pub choice_made : (test : Val) (left right : ℕ) → ActsBy (core_in code) s (op.If test left right) → IsRight (core_in code) s
      → ((b : Bool) → operand_value (known s.desk.heap s.desk.values.items) test ≡ Boolean b → MakesOnly s.queues new.queues (part_width (map plain_node code) (if b then left else right) ∷ []))
      → MakesNeeded (core_in code) s new
  choice_made test left right a right_step makes =
      let b = test_boolean (core_in code) s test left right is.closed a right_step in
      let p = choice_process (core_in code) s test left right is.closed a in
      needed_by (core_in code) s new _ (choice_needs (core_in code) s test left right a b.0 p.0 p.1 (p.2 ∙ ap (λ v. term.If v p.0 p.1) b.1))
      (subst (λ (ns : List Node). MakesOnly s.queues new.queues (part_width ns (if b.0 then left else right) ∷ [])) (sym is.nodes_are) (makes b.0 b.1))
