-- A message and an input that isn't replicated meet, and no memory is taken: which instructions do, and for how long.
use Rattle.std.proofs.Common.{ℕ, zero, suc, ◌+◌, ◌-◌, ◌≤◌, ◌≡◌, inl, inr, List, ◌∷◌, refl, sym, ap, ◌∙◌, subst, arith, Some, option_map, Result, ◌⊎◌, Bool, true, false}
use Rattle.std.specs.declared.alloc.AllocError.{AllocError}
use Rattle.pict_syntax.specs.declared.primitive.Primitive.{Primitive}
use Rattle.pict_syntax.specs.declared.span.Span.{Span}
use Rattle.pict_core.specs.Term as term
use Rattle.pict_core.specs.Term.{Val, Process, Chan, PrimitiveVal}
use Rattle.pict_code.specs.Instruction as op
use Rattle.pict_code.specs.Instruction.{Op, Node, CodePat}
use Rattle.pict_code.specs.Nodes.{nodes_of, input_op}
use Rattle.pict_region.specs.RegionState.{spare}
use Rattle.pict_queue.specs.QueuesState.{QueuesState}
use Rattle.pict_queue.specs.Contents.{contents}
use Rattle.pict_heap.specs.HeapState.{HeapState}
use Rattle.pict_blocks.specs.Keeping.{kept_words}
use Rattle.pict_blocks.specs.Writing.{OnlyWorks}
use Rattle.pict_blocks.proofs.Held.{works_blocks}
use Rattle.pict_blocks.specs.Blocks.{process_of}
use Rattle.pict_desk.specs.Known.{value_in}
use Rattle.pict_desk.specs.AtHand.{IsOfHeap}
use Rattle.pict_turns.specs.Acting.{ActsBy}
use Rattle.pict_blocks.specs.Parts.{block_width}
use Rattle.pict_turns.specs.Views.{IsKept, acting_words}
use Rattle.pict_turns.specs.declared.store.Store.{Store}
use Rattle.pict_turns.proofs.Turns.{words_nobody, ready_nobody, ready_is}
use Rattle.pict_turns.specs.declared.turn.Turn.TheVariants.{Nobody}
use Rattle.pict_desk.specs.Constants.{HasNoVariable}
use Rattle.pict_turns.specs.Plain.{instruction_of, NeedsNoWord, HasWord, HasPlainRoom, SendsInPlace, ReceivesInPlace, ActsInPlace, FirstMeetsInPlace, MeetsInPlace, RunsInPlace, TakesNoMemory}
use Rattle.pict_turns.specs.Stepping.{GivesTurn}

-- ---- what waits at channels stays, and so does a plain meeting

module _ (core : Process) (old new : Store) (heap : new.desk.heap ≡ old.desk.heap) (same : (c : ℕ) → contents new.queues (c + 1) ≡ contents old.queues (c + 1))
    (more : (width : ℕ) → spare old.queues.region width ≤ spare new.queues.region width) (acting : List ℕ) where
  process_same : process_of core (value_in new.desk.heap) acting ≡ process_of core (value_in old.desk.heap) acting
  process_same = ap (λ (h : HeapState). process_of core (value_in h) acting) heap

  free_same : (width : ℕ) (P : Type 0) → 1 ≤ spare old.queues.region width ⊎ P → 1 ≤ spare new.queues.region width ⊎ P
  free_same width P (inl one) = let up = more width in inl (omega (arith, one, up))
  free_same width P (inr p) = inr p

  room_same : (part : ℕ) (waiting : List ℕ) → HasPlainRoom core old part acting waiting → HasPlainRoom core new part acting waiting
  room_same part waiting r = record {
    frame = r.frame;
    has = r.has;
    narrow = r.narrow;
    room = free_same (block_width r.frame) _ r.room;
  }

  sends_same : SendsInPlace core old acting → SendsInPlace core new acting
  sends_same x = record {
    channel = x.channel;
    message = x.message;
    at = x.at;
    out = process_same ∙ x.out;
    word = x.word;
    waiting = x.waiting;
    others = x.others;
    waits = same x.channel ∙ x.waits;
    part = x.part;
    input = x.input;
    room = room_same x.part x.waiting x.room;
  }

  receives_same : ReceivesInPlace core old acting → ReceivesInPlace core new acting
  receives_same x = record {
    channel = x.channel;
    pattern = x.pattern;
    body = x.body;
    receives = process_same ∙ x.receives;
    part = x.part;
    input = x.input;
    held = x.held;
    others = x.others;
    waits = same x.channel ∙ x.waits;
    room = room_same x.part (zero ∷ x.held) x.room;
  }

  acts_same : ActsInPlace core old acting → ActsInPlace core new acting
  acts_same (inl x) = inl (sends_same x)
  acts_same (inr x) = inr (receives_same x)

-- somebody has the turn, and then acts
pub given_in_place : (core : Process) (s taken : Store) → GivesTurn core s taken → RunsInPlace core s → ActsInPlace core taken (acting_words core taken)
given_in_place core s taken g m =
    let both : m.acting ∷ m.ready ≡ acting_words core taken ∷ contents taken.queues 0 = sym m.first ∙ sym g.ready ∙ ready_is core taken (acting_words core taken) g.acting.has in
    let acting : m.acting ≡ acting_words core taken = cc in
    subst (ActsInPlace core taken) acting (acts_same core s taken g.heap (λ c. g.others (c + 1) (λ e. omega (arith, e))) g.spare m.acting m.plainly)

-- nobody had it
pub idle_in_place : (core : Process) (s : Store) → s.turn ≡ Nobody → MeetsInPlace core s → RunsInPlace core s
idle_in_place core s idle = subst (FirstMeetsInPlace core s) (sym (ready_nobody core s (words_nobody core s idle)))

-- while queues work
module _ (core : Process) (s : Store) (queues : QueuesState) (works : OnlyWorks s.queues queues) (acting : List ℕ) where
  same_contents : (c : ℕ) → contents queues (c + 1) ≡ contents s.queues (c + 1)
  same_contents c = ap (λ (q : QueuesState). contents q (c + 1)) works

  same_spare : (width : ℕ) → spare s.queues.region width ≤ spare queues.region width
  same_spare width = let e = ap (λ (q : QueuesState). spare q.region width) works in omega (arith, e)

  pub sent_in_place : SendsInPlace core s acting → SendsInPlace core (record s { queues = queues }) acting
  sent_in_place = sends_same core s (record s { queues = queues }) refl same_contents same_spare acting

  pub received_in_place : ReceivesInPlace core s acting → ReceivesInPlace core (record s { queues = queues }) acting
  received_in_place = receives_same core s (record s { queues = queues }) refl same_contents same_spare acting

pub nothing_worked : {T : Type 0} (s : Store) (queues : QueuesState) (new : Store) (result : Result T AllocError) → OnlyWorks s.queues queues → TakesNoMemory (record s { queues = queues }) new result → TakesNoMemory s new result
nothing_worked s queues new result works x = (x.0, λ width. x.1 width ∙ works_blocks s.queues queues works width)

-- ---- which instructions meet plainly

module _ (core : Process) (s : Store) (o : Op) (a : ActsBy core s o) where
  instruction_is : instruction_of (nodes_of core) (acting_words core s) ≡ Some o
  instruction_is =
      ap (instruction_of (nodes_of core)) a.is.words_are ∙ ap (option_map (λ (n : Node). n.op)) a.is.at ∙ ap Some a.op_is

  -- an output of a node
  pub wordless_output : SendsInPlace core s (acting_words core s) → (chan message : Val) × (at : Span) × (o ≡ op.Out chan message at) × (IsOfHeap message → HasNoVariable message)
  wordless_output x =
      let f : NeedsNoWord (nodes_of core) (suc a.number ∷ a.is.frame) = subst (HasWord (nodes_of core)) a.is.words_are x.word in
      let there : Some o ≡ Some (op.Out f.chan f.message f.at) = sym instruction_is ∙ ap (instruction_of (nodes_of core)) a.is.words_are ∙ f.is in
      (f.chan, f.message, f.at, cc, f.needs_none)

  -- an input that isn't replicated
  pub plain_input : (x : ReceivesInPlace core s (acting_words core s)) → (chan : Val) × (pattern : CodePat) × (o ≡ op.In chan pattern x.part)
  plain_input x =
      let there : Some o ≡ Some (op.In x.input.chan x.input.pattern x.part) = sym instruction_is ∙ x.input.is in
      (x.input.chan, x.input.pattern, cc)

-- what has no partner doesn't meet
abbrev pub HasPartner : Op → Type 0
HasPartner op.Zero = ⊥
HasPartner (op.Par left right) = ⊥
HasPartner (op.New level part) = ⊥
HasPartner (op.If test left right) = ⊥
HasPartner (op.Out chan message at) = Unit {0}
HasPartner (op.In chan pattern part) = Unit {0}
HasPartner (op.Serve chan pattern part) = ⊥

module _ (core : Process) (s : Store) (o : Op) (a : ActsBy core s o) where
  pub has_partner : ActsInPlace core s (acting_words core s) → HasPartner o
  has_partner (inl x) = let f = wordless_output core s o a x in subst HasPartner (sym f.3) tt
  has_partner (inr x) = let i = plain_input core s o a x in subst HasPartner (sym i.2) tt

-- a node's output sends, and its input receives
pub output_sends : (core : Process) (s : Store) (chan message : Val) (at : Span) → ActsBy core s (op.Out chan message at) → ActsInPlace core s (acting_words core s)
    → SendsInPlace core s (acting_words core s)
output_sends core s chan message at a (inl x) = x
output_sends core s chan message at a (inr x) = let i = plain_input core s (op.Out chan message at) a x in let e : op.Out chan message at ≡ op.In i.0 i.1 x.part = i.2 in cc

pub input_receives : (core : Process) (s : Store) (replicated : Bool) (chan : Val) (pattern : CodePat) (part : ℕ) → ActsBy core s (input_op replicated chan pattern part)
    → ActsInPlace core s (acting_words core s) → ReceivesInPlace core s (acting_words core s)
input_receives core s true chan pattern part a x = absurd (has_partner core s (op.Serve chan pattern part) a x)
input_receives core s false chan pattern part a (inl x) = let f = wordless_output core s (op.In chan pattern part) a x in let e : op.In chan pattern part ≡ op.Out f.0 f.1 f.2 = f.3 in cc
input_receives core s false chan pattern part a (inr x) = x

-- an output of kept values sends
pub kept_sends : (core : Process) (s : Store) → IsKept s.desk.heap (acting_words core s) → ActsInPlace core s (acting_words core s) → SendsInPlace core s (acting_words core s)
kept_sends core s k (inl x) = x
kept_sends core s k (inr x) = let e : instruction_of (nodes_of core) (kept_words k.kept) ≡ Some (op.In x.input.chan x.input.pattern x.part) = ap (instruction_of (nodes_of core)) (sym k.is) ∙ x.input.is in cc

-- a call of a primitive meets nothing
pub no_plain_call : (core : Process) (s : Store) (acting : List ℕ) (p : Primitive) (v : Val) (at : Span) → process_of core (value_in s.desk.heap) acting ≡ term.Out (PrimitiveVal p) v at → SendsInPlace core s acting → ⊥
no_plain_call core s acting p v at is x = let e : term.Out (Chan x.channel) x.message x.at ≡ term.Out (PrimitiveVal p) v at = sym x.out ∙ is in cc
