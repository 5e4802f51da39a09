-- What a step needs of the heap, from the clauses of what it does.
use Rattle.std.proofs.Common.{ℕ, zero, suc, ◌+◌, ◌≡◌, ◌||◌, Bool, true, false, if◌then◌else◌, inl, inr, List, [], ◌∷◌, refl, sym, ap, ◌∙◌, subst, arith, Option, Some, None, IsSome, option_map, unwrap_or, map}
use Rattle.std.specs.List.{slice_get}
use Rattle.std.proofs.lemmas.Bool.Decides.{nat_tests}
use Rattle.pict_syntax.specs.declared.span.Span.{Span}
use Rattle.pict_syntax.specs.declared.primitive.Primitive.{Primitive}
use Rattle.pict_core.specs.Primitives.{Effect, effect_of}
use Rattle.pict_core.specs.Term as term
use Rattle.pict_core.specs.Term.{Val, Vals, Labelled, Pat, Process, Boolean, Chan, PrimitiveVal}
use Rattle.pict_code.specs.Frames.{in_value, in_values, in_labelled}
use Rattle.pict_code.specs.Instruction as op
use Rattle.pict_code.specs.Instruction.{Op, Node}
use Rattle.pict_code.specs.Nodes.{nodes_of}
use Rattle.pict_code.specs.Plain.{plain_node}
use Rattle.pict_code.specs.declared.instruction.Node as written
use Rattle.pict_queue.specs.QueuesState.{QueuesState}
use Rattle.pict_queue.specs.Contents.{contents}
use Rattle.pict_heap.specs.HeapState.{HeapState}
use Rattle.pict_prim.specs.Acts.{UsesNeed, answer_need}
use Rattle.pict_prim.specs.declared.act.Need.{Need}
use Rattle.pict_blocks.specs.Blocks.{process_of}
use Rattle.pict_desk.specs.Known.{value_in, known, operand_value}
use Rattle.pict_desk.specs.Needs.{no_need, both_needs, need_of}
use Rattle.pict_desk.specs.AtHand.{IsOfHeap}
use Rattle.pict_desk.specs.Constants.{HasNoVariable, HaveNoVariable, LabelledHaveNone}
use Rattle.pict_desk.specs.Code.{core_in, IsCode}
use Rattle.pict_desk.specs.declared.desk.Desk.{Desk}
use Rattle.pict_desk.proofs.MakingRoom.{uses_nothing, need_narrow}
use Rattle.pict_desk.proofs.Nodes.{op_is}
use Rattle.pict_turns.specs.Growing.{argument_need, AddsAtMost, part_need, has_variable, have_variable, labelled_have, message_need, given_need, input_need, served_need, taken_need, output_need, receipt_need, choice_need, node_need, block_need, words_need, first_need, heap_need, running_need, AddsNeeded}
use Rattle.pict_turns.specs.Acting.{ActsBy, IsRight}
use Rattle.pict_turns.specs.Views.{acting_words}
use Rattle.pict_turns.specs.declared.store.Store.{Store}
use Rattle.pict_turns.specs.declared.turn.Turn.TheVariants.{Nobody}
use Rattle.pict_turns.proofs.Adding.{used_less, used_same, part_need_is}
use Rattle.pict_turns.proofs.Numbered.{test_boolean}
use Rattle.pict_turns.proofs.Turns.{words_nobody, ready_nobody, ready_is}
use Rattle.pict_turns.specs.Plain.{IsPlainInput, NeedsNoWord, HasWord, HasPlainRoom, ActsInPlace, MeetsInPlace}
use Rattle.pict_turns.specs.Stepping.{GivesTurn}
use Rattle.pict_turns.proofs.Needing.{block_process, choice_process}

-- ---- operands without variables

or_neither : (a b : Bool) → a ≡ false → b ≡ false → a || b ≡ false
or_neither true b e f = cc
or_neither false b e f = f

neither : (a b c d : Bool) → a || b ≡ false → (a ≡ false → c ≡ false) → (b ≡ false → d ≡ false) → c || d ≡ false
neither true b c d none f g = cc
neither false b c d none f g = or_neither c d (f refl) (g none)

mutual
  none_there : (v : Val) → has_variable v ≡ false → HasNoVariable v
  none_there (term.Var l) none = cc
  none_there (term.Chan c) none = λ level. refl
  none_there (term.Int i) none = λ level. refl
  none_there (term.Char b) none = λ level. refl
  none_there (term.Boolean b) none = λ level. refl
  none_there (term.Text bytes) none = λ level. refl
  none_there (term.PrimitiveVal p) none = λ level. refl
  none_there (term.Record vs ls) none = λ level.
      neither (have_variable vs) (labelled_have ls) (in_values level vs) (in_labelled level ls) none (λ e. none_in vs e level) (λ e. none_labelled ls e level)

  none_in : (vs : Vals) → have_variable vs ≡ false → HaveNoVariable vs
  none_in term.no_vals none = λ level. refl
  none_in (term.more_vals v vs) none = λ level.
      neither (has_variable v) (have_variable vs) (in_value level v) (in_values level vs) none (λ e. none_there v e level) (λ e. none_in vs e level)

  none_labelled : (ls : Labelled) → labelled_have ls ≡ false → LabelledHaveNone ls
  none_labelled term.no_labelled none = λ level. refl
  none_labelled (term.more_labelled label v ls) none = λ level.
      neither (has_variable v) (labelled_have ls) (in_value level v) (in_labelled level ls) none (λ e. none_there v e level) (λ e. none_labelled ls e level)

there_by : (v : Val) (b : Bool) → has_variable v ≡ b → ¬ HasNoVariable v → b ≡ true
there_by v true e some = refl
there_by v false e some = absurd (some (none_there v e))

variable_there : (v : Val) → ¬ HasNoVariable v → has_variable v ≡ true
variable_there v some = there_by v (has_variable v) refl some

-- what has no constant needs its word
pub message_is : (v : Val) → (IsOfHeap v → ¬ HasNoVariable v) → message_need v ≡ need_of v
message_is (term.Var l) some = refl
message_is (term.Chan c) some = refl
message_is (term.Int i) some = refl
message_is (term.Char b) some = refl
message_is (term.Boolean b) some = refl
message_is (term.Text bytes) some = absurd (some tt (λ level. refl))
message_is (term.PrimitiveVal p) some = refl
message_is (term.Record vs ls) some = ap (λ b. if b then need_of (term.Record vs ls) else no_need) (variable_there (term.Record vs ls) (some tt))

pub given_is : (v : Val) → (IsOfHeap v → ¬ HasNoVariable v) → given_need v ≡ argument_need v
given_is (term.Var l) some = refl
given_is (term.Chan c) some = refl
given_is (term.Int i) some = refl
given_is (term.Char b) some = refl
given_is (term.Boolean b) some = refl
given_is (term.Text bytes) some = absurd (some tt (λ level. refl))
given_is (term.PrimitiveVal p) some = refl
given_is (term.Record vs ls) some = ap (λ b. if b then argument_need (term.Record vs ls) else no_need) (variable_there (term.Record vs ls) (some tt))

-- ---- what waits at channels stays, and so does what is needed

module _ (nodes : List Node) (old new : QueuesState) (same : (c : ℕ) → contents new (c + 1) ≡ contents old (c + 1)) where
  output_stays : (message argument : Need) (p : Process) → output_need nodes new message argument p ≡ output_need nodes old message argument p
  output_stays message argument (term.Out (term.Chan c) v at) = ap (λ (ws : List (List ℕ)). both_needs message (served_need nodes ws)) (same c)
  output_stays message argument (term.Out (term.Var n) v at) = refl
  output_stays message argument (term.Out (term.Int n) v at) = refl
  output_stays message argument (term.Out (term.Char n) v at) = refl
  output_stays message argument (term.Out (term.Boolean n) v at) = refl
  output_stays message argument (term.Out (term.Text n) v at) = refl
  output_stays message argument (term.Out (term.PrimitiveVal n) v at) = refl
  output_stays message argument (term.Out (term.Record vs ls) v at) = refl
  output_stays message argument term.Zero = refl
  output_stays message argument (term.Par p q) = refl
  output_stays message argument (term.New p) = refl
  output_stays message argument (term.In chan replicated pattern body) = refl
  output_stays message argument (term.If test p q) = refl

  receipt_stays : (part : ℕ) (p : Process) → receipt_need nodes new part p ≡ receipt_need nodes old part p
  receipt_stays part (term.In (term.Chan c) replicated pattern body) = ap (taken_need nodes part) (same c)
  receipt_stays part (term.In (term.Var n) replicated pattern body) = refl
  receipt_stays part (term.In (term.Int n) replicated pattern body) = refl
  receipt_stays part (term.In (term.Char n) replicated pattern body) = refl
  receipt_stays part (term.In (term.Boolean n) replicated pattern body) = refl
  receipt_stays part (term.In (term.Text n) replicated pattern body) = refl
  receipt_stays part (term.In (term.PrimitiveVal n) replicated pattern body) = refl
  receipt_stays part (term.In (term.Record vs ls) replicated pattern body) = refl
  receipt_stays part term.Zero = refl
  receipt_stays part (term.Par p q) = refl
  receipt_stays part (term.New p) = refl
  receipt_stays part (term.Out chan message at) = refl
  receipt_stays part (term.If test p q) = refl

  node_stays : (o : Op) (p : Process) → node_need nodes new o p ≡ node_need nodes old o p
  node_stays op.Zero p = refl
  node_stays (op.Par left right) p = refl
  node_stays (op.New level part) p = refl
  node_stays (op.Out chan message at) p = output_stays (message_need message) (given_need message) p
  node_stays (op.In chan pattern part) p = receipt_stays part p
  node_stays (op.Serve chan pattern part) p = receipt_stays part p
  node_stays (op.If test left right) p = refl

  found_stays : (p : Process) (o : Option Node) → unwrap_or (option_map (λ (n : Node). node_need nodes new n.op p) o) no_need ≡ unwrap_or (option_map (λ (n : Node). node_need nodes old n.op p) o) no_need
  found_stays p None = refl
  found_stays p (Some n) = node_stays n.op p

  block_stays : (words : List ℕ) (p : Process) → block_need nodes new words p ≡ block_need nodes old words p
  block_stays [] p = refl
  block_stays (zero ∷ held) p = output_stays no_need no_need p
  block_stays (suc number ∷ held) p = found_stays p (slice_get nodes number)

-- ---- the whole step

-- somebody has the turn, and acts
module _ (core : Process) (s taken acted : Store) (g : GivesTurn core s taken) (adds : AddsNeeded core taken acted) where
  pub running_adds : UsesNeed s.desk.heap.room acted.desk.heap.room (running_need core s)
  running_adds =
      let words = acting_words core taken in
      let heap : words_need core taken words ≡ block_need (nodes_of core) taken.queues words (process_of core (value_in s.desk.heap) words) =
      ap (λ (h : HeapState). block_need (nodes_of core) taken.queues words (process_of core (value_in h) words)) g.heap in
      let stays = block_stays (nodes_of core) s.queues taken.queues (λ c. g.others (c + 1) (λ e. omega (arith, e))) words (process_of core (value_in s.desk.heap) words) in
      let total : words_need core s words ≡ running_need core s = ap (first_need core s) (sym (ready_is core taken words g.acting.has) ∙ g.ready) in
      used_same s.desk.heap taken.desk.heap acted.desk.heap.room (running_need core s) g.heap
      (subst (λ (n : Need). UsesNeed taken.desk.heap.room acted.desk.heap.room n) (heap ∙ stays ∙ total) adds)

  -- and the turn is set down
  pub whole_adds : (last : Store) → s.turn ≡ Nobody → last.desk.heap ≡ acted.desk.heap → UsesNeed s.desk.heap.room last.desk.heap.room (heap_need core s)
  whole_adds last idle same =
      subst (λ (h : HeapState). UsesNeed s.desk.heap.room h.room (heap_need core s)) (sym same)
      (subst (λ (n : Need). UsesNeed s.desk.heap.room acted.desk.heap.room n) (ap (first_need core s) (ready_nobody core s (words_nobody core s idle))) running_adds)

-- ---- what a node's step needs

-- the desk stays
pub desk_same : (old new : Store) → new.desk ≡ old.desk → AddsAtMost old new no_need
desk_same old new same = subst (λ (d : Desk). UsesNeed old.desk.heap.room d.heap.room no_need) (sym same) (uses_nothing old.desk.heap.room)

module _ (core : Process) (s : Store) where
  pub adds_by : (new : Store) (need : Need) → words_need core s (acting_words core s) ≡ need → AddsAtMost s new need → AddsNeeded core s new
  adds_by new need e adds = subst (λ (n : Need). AddsAtMost s new n) (sym e) adds

  -- nothing is added
  pub adds_none : (new : Store) → AddsAtMost s new no_need → AddsNeeded core s new
  adds_none new adds = used_less s.desk.heap.room new.desk.heap.room (words_need core s (acting_words core s)) adds

  pub node_adds : (o : Op) → ActsBy core s o → words_need core s (acting_words core s) ≡ node_need (nodes_of core) s.queues o (block_process core s)
  node_adds o a =
      ap (λ (ws : List ℕ). block_need (nodes_of core) s.queues ws (block_process core s)) a.is.words_are
      ∙ ap (λ (n : Option Node). unwrap_or (option_map (λ (x : Node). node_need (nodes_of core) s.queues x.op (block_process core s)) n) no_need) a.is.at
      ∙ ap (λ (x : Op). node_need (nodes_of core) s.queues x (block_process core s)) a.op_is

  pub kept_adds : (held : List ℕ) → acting_words core s ≡ zero ∷ held → words_need core s (acting_words core s) ≡ output_need (nodes_of core) s.queues no_need no_need (block_process core s)
  kept_adds held is = ap (λ (ws : List ℕ). block_need (nodes_of core) s.queues ws (block_process core s)) is

  -- ---- outputs

  module _ (message argument : Need) (needs : words_need core s (acting_words core s) ≡ output_need (nodes_of core) s.queues message argument (block_process core s)) where
    called : (o : Option Effect) → IsSome o → (e : Effect) × (o ≡ Some e)
    called None some = cc
    called (Some e) some = (e, refl)

    -- to a primitive
    pub call_adds : (new : Store) (p : Primitive) (v : Val) (at : Span) → (block_process core s) ≡ term.Out (PrimitiveVal p) v at → IsSome (effect_of p v)
        → ((e : Effect) → effect_of p v ≡ Some e → AddsAtMost s new (both_needs argument (answer_need e))) → AddsNeeded core s new
    call_adds new p v at is takes adds =
        let e = called (effect_of p v) takes in
        adds_by new (both_needs argument (answer_need e.0))
        (needs ∙ ap (output_need (nodes_of core) s.queues message argument) is ∙ ap (λ (o : Option Effect). both_needs argument (unwrap_or (option_map answer_need o) no_need)) e.1)
        (adds e.0 e.1)

-- ---- the rows of nodes that need no partner

module _ (code : List written.Node) (is : IsCode (map plain_node code)) (s : Store) (new : Store) where
  pub fork_added : (left right : ℕ) → ActsBy (core_in code) s (op.Par left right)
      → AddsAtMost s new (both_needs (part_need (map plain_node code) left) (part_need (map plain_node code) right)) → AddsNeeded (core_in code) s new
  fork_added left right a adds =
      adds_by (core_in code) s new _ (node_adds (core_in code) s (op.Par left right) a)
      (subst (λ (ns : List Node). AddsAtMost s new (both_needs (part_need ns left) (part_need ns right))) (sym is.nodes_are) adds)

  pub new_added : (level part : ℕ) → ActsBy (core_in code) s (op.New level part) → AddsAtMost s new (part_need (map plain_node code) part) → AddsNeeded (core_in code) s new
  new_added level part a adds =
      adds_by (core_in code) s new _ (node_adds (core_in code) s (op.New level part) a)
      (subst (λ (ns : List Node). AddsAtMost s new (part_need ns part)) (sym is.nodes_are) adds)

  pub choice_added : (test : Val) (left right : ℕ) → ActsBy (core_in code) s (op.If test left right) → IsRight (core_in code) s
      → ((b : Bool) → operand_value (known s.desk.heap s.desk.values.items) test ≡ Boolean b → AddsAtMost s new (part_need (map plain_node code) (if b then left else right)))
      → AddsNeeded (core_in code) s new
  choice_added test left right a right_step adds =
      let b = test_boolean (core_in code) s test left right is.closed a right_step in
      let p = choice_process (core_in code) s test left right is.closed a in
      adds_by (core_in code) s new _
      (node_adds (core_in code) s (op.If test left right) a ∙ ap (choice_need (nodes_of (core_in code)) left right) (p.2 ∙ ap (λ v. term.If v p.0 p.1) b.1))
      (subst (λ (ns : List Node). AddsAtMost s new (part_need ns (if b.0 then left else right))) (sym is.nodes_are) (adds b.0 b.1))

-- ---- a plain meeting needs nothing

or_left : (a b : Bool) → a || b ≡ false → a ≡ false
or_left true b h = cc
or_left false b h = refl

or_right : (a b : Bool) → a || b ≡ false → b ≡ false
or_right true b h = cc
or_right false b h = h

mutual
  no_variable : (v : Val) → HasNoVariable v → has_variable v ≡ false
  no_variable (term.Var l) none = let e = none l in absurd (grind (arith, nat_tests, e))
  no_variable (term.Chan c) none = refl
  no_variable (term.Int i) none = refl
  no_variable (term.Char b) none = refl
  no_variable (term.Boolean b) none = refl
  no_variable (term.Text bytes) none = refl
  no_variable (term.PrimitiveVal p) none = refl
  no_variable (term.Record vs ls) none =
      or_neither (have_variable vs) (labelled_have ls) (no_variable_in vs (λ level. or_left _ _ (none level))) (no_labelled_variable ls (λ level. or_right (in_values level vs) _ (none level)))

  no_variable_in : (vs : Vals) → HaveNoVariable vs → have_variable vs ≡ false
  no_variable_in term.no_vals none = refl
  no_variable_in (term.more_vals v vs) none =
      or_neither (has_variable v) (have_variable vs) (no_variable v (λ level. or_left _ _ (none level))) (no_variable_in vs (λ level. or_right (in_value level v) _ (none level)))

  no_labelled_variable : (ls : Labelled) → LabelledHaveNone ls → labelled_have ls ≡ false
  no_labelled_variable term.no_labelled none = refl
  no_labelled_variable (term.more_labelled label v ls) none =
      or_neither (has_variable v) (labelled_have ls) (no_variable v (λ level. or_left _ _ (none level))) (no_labelled_variable ls (λ level. or_right (in_value level v) _ (none level)))

plain_message : (v : Val) → (IsOfHeap v → HasNoVariable v) → message_need v ≡ no_need
plain_message (term.Var l) none = refl
plain_message (term.Chan c) none = refl
plain_message (term.Int i) none = refl
plain_message (term.Char b) none = refl
plain_message (term.Boolean b) none = refl
plain_message (term.Text bytes) none = refl
plain_message (term.PrimitiveVal p) none = refl
plain_message (term.Record vs ls) none = ap (λ b. if b then need_of (term.Record vs ls) else no_need) (no_variable (term.Record vs ls) (none tt))

-- what is found of a node is that of its instruction
found : (f : Op → Need) (o : Option Node) (p : Op) → option_map (λ (n : Node). n.op) o ≡ Some p → unwrap_or (option_map (λ (n : Node). f n.op) o) no_need ≡ f p
found f None p e = cc
found f (Some n) p e =
    let there : Some n.op ≡ Some p = e in
    let same : n.op ≡ p = cc in
    ap f same

module _ (core : Process) (s : Store) where
  narrow_part : (part : ℕ) (acting waiting : List ℕ) → HasPlainRoom core s part acting waiting → part_need (nodes_of core) part ≡ no_need
  narrow_part part acting waiting room = part_need_is (nodes_of core) part room.frame room.has ∙ need_narrow room.frame room.narrow

  served_in_place : (waiting : List ℕ) (others : List (List ℕ)) (part : ℕ) → IsPlainInput (nodes_of core) waiting part → served_need (nodes_of core) (waiting ∷ others) ≡ part_need (nodes_of core) part
  served_in_place [] others part i = let e = i.is in cc
  served_in_place (zero ∷ held) others part i = let e = i.is in cc
  served_in_place (suc number ∷ held) others part i = found (input_need (nodes_of core)) (slice_get (nodes_of core) number) (op.In i.chan i.pattern part) i.is

  wordless : (words : List ℕ) (p : Process) (c : ℕ) (v : Val) (at : Span) → HasWord (nodes_of core) words → p ≡ term.Out (Chan c) v at
      → block_need (nodes_of core) s.queues words p ≡ both_needs no_need (served_need (nodes_of core) (contents s.queues (c + 1)))
  wordless [] p c v at word is = absurd word
  wordless (zero ∷ held) p c v at word is = ap (output_need (nodes_of core) s.queues no_need no_need) is
  wordless (suc number ∷ held) p c v at word is =
      let out : NeedsNoWord (nodes_of core) (suc number ∷ held) = word in
      found (λ o. node_need (nodes_of core) s.queues o p) (slice_get (nodes_of core) number) (op.Out out.chan out.message out.at) out.is
      ∙ ap (output_need (nodes_of core) s.queues (message_need out.message) (given_need out.message)) is
      ∙ ap (λ (n : Need). both_needs n (served_need (nodes_of core) (contents s.queues (c + 1)))) (plain_message out.message out.needs_none)

  received_so : (acting : List ℕ) (part c : ℕ) (p : Process) (form : Pat) (body : Process) → IsPlainInput (nodes_of core) acting part → p ≡ term.In (Chan c) false form body
      → block_need (nodes_of core) s.queues acting p ≡ taken_need (nodes_of core) part (contents s.queues (c + 1))
  received_so [] part c p form body i is = let e = i.is in cc
  received_so (zero ∷ held) part c p form body i is = let e = i.is in cc
  received_so (suc number ∷ held) part c p form body i is =
      found (λ o. node_need (nodes_of core) s.queues o p) (slice_get (nodes_of core) number) (op.In i.chan i.pattern part) i.is ∙ ap (receipt_need (nodes_of core) s.queues part) is

  acts_in_place : (acting : List ℕ) → ActsInPlace core s acting → words_need core s acting ≡ no_need
  acts_in_place acting (inl x) =
      wordless acting (process_of core (value_in s.desk.heap) acting) x.channel x.message x.at x.word x.out
      ∙ ap (λ (ws : List (List ℕ)). both_needs no_need (served_need (nodes_of core) ws)) x.waits
      ∙ ap (both_needs no_need) (served_in_place x.waiting x.others x.part x.input ∙ narrow_part x.part acting x.waiting x.room)
  acts_in_place acting (inr x) =
      received_so acting x.part x.channel (process_of core (value_in s.desk.heap) acting) x.pattern x.body x.input x.receives
      ∙ ap (taken_need (nodes_of core) x.part) x.waits ∙ narrow_part x.part acting (zero ∷ x.held) x.room

  pub plain_need : MeetsInPlace core s → heap_need core s ≡ no_need
  plain_need m = ap (first_need core s) m.first ∙ acts_in_place m.acting m.plainly
