-- What is known of an output that has the turn, of a node or of kept values: its two words, and what it is sent to.
use Rattle.std.proofs.Common.{ℕ, ◌≡◌, ◌≢◌, List, ◌∷◌, map, refl, ap, ◌∙◌, subst, Some, None, ◌-◌, sym}
use Rattle.pict_syntax.specs.declared.span.Span.{Span}
use Rattle.pict_core.specs.Term.{Val, Process, Chan, Out, PrimitiveVal}
use Rattle.pict_view.specs.Moved.{Misshapen}
use Rattle.pict_view.specs.Placed.{next_view}
use Rattle.pict_view.proofs.Rows.{act}
use Rattle.pict_queue.specs.Contents.{contents}
use Rattle.pict_blocks.specs.Blocks.{view_of_contents, process_of}
use Rattle.pict_desk.specs.Known.{value_in, known, operand_value}
use Rattle.pict_turns.specs.Acting.{HasActing, IsRight, ActsBy}
use Rattle.pict_turns.specs.Views.{channel_lists, acting_words, IsKept}
use Rattle.pict_turns.specs.declared.store.Store.{Store}
use Rattle.pict_turns.proofs.Turns.{view_is, kept_acts, kept_turn}
use Rattle.pict_syntax.specs.declared.primitive.Primitive.{Primitive}
use Rattle.pict_core.specs.Term as term
use Rattle.pict_core.specs.Closed.{IsClosed}
use Rattle.pict_code.specs.Instruction as op
use Rattle.pict_blocks.proofs.Meeting.{outputs_stand}
use Rattle.pict_desk.proofs.Nodes.{op_is}
use Rattle.pict_desk.specs.AtHand.{channel_named}
use Rattle.pict_blocks.specs.Keeping.{kept_words}
use Rattle.pict_desk.specs.declared.kept.Kept.{Kept}
use Rattle.pict_heap.specs.HeapState.{HeapState, IsWord, value_of}
use Rattle.pict_heap.specs.Packed.{packed, FitsWord}
use Rattle.pict_heap.specs.declared.word.Word.{Word}
use Rattle.pict_desk.specs.Pairs.{IsPair}
use Rattle.pict_desk.proofs.Pairs.{value_packed}
use Rattle.pict_turns.specs.declared.turn.Turn.TheVariants.{Output}

-- who has the turn acts before the others that are ready
pub right_acting : (core : Process) (s : Store) → HasActing core s → IsRight core s
    → next_view (view_of_contents core (value_in s.desk.heap) (acting_words core s ∷ contents s.queues 0) (channel_lists s.queues)) ≢ Misshapen
right_acting core s acting right = subst (λ v. next_view v ≢ Misshapen) (view_is core s (acting_words core s) acting.has) right

-- ---- channels, primitives and other values

-- the channel that a value is
pub named_channel : (v : Val) (c : ℕ) → Some c ≡ channel_named v → v ≡ Chan c
named_channel (term.Chan n) c e = let same : n ≡ c = cc in ap term.Chan same
named_channel (term.Var n) c e = cc
named_channel (term.Int n) c e = cc
named_channel (term.Char n) c e = cc
named_channel (term.Boolean n) c e = cc
named_channel (term.Text n) c e = cc
named_channel (term.PrimitiveVal n) c e = cc
named_channel (term.Record vs ls) c e = cc

-- what is sent to is a channel or a primitive
primitive_sent : (rest : List Process) (lists : List (List Process)) (v message : Val) (at : Span)
    → act rest lists (Out v message at) ≢ Misshapen → None ≡ channel_named v → (p : Primitive) × (v ≡ PrimitiveVal p)
primitive_sent rest lists (term.PrimitiveVal p) message at right none = (p, refl)
primitive_sent rest lists (term.Chan c) message at right none = cc
primitive_sent rest lists _ message at right none = absurd (right refl)

-- ---- an output, of a node or of kept values

module _ (core : Process) (s : Store) (acting : HasActing core s) (right : IsRight core s) (message : Val) (at : Span) where
  -- what it is sent to, where that is no channel
  pub sent_to : (v : Val) → process_of core (value_in s.desk.heap) (acting_words core s) ≡ Out v message at → None ≡ channel_named v → (p : Primitive) × (v ≡ PrimitiveVal p)
  sent_to v is none =
      let rest = map (process_of core (value_in s.desk.heap)) (contents s.queues 0) in
      let lists = map (map (process_of core (value_in s.desk.heap))) (channel_lists s.queues) in
      primitive_sent rest lists v message at (λ wrong. right_acting core s acting right (ap (act rest lists) is ∙ wrong)) none

-- what an output of a node is sent to, where that is no channel
pub node_sent_to : (core : Process) (s : Store) → IsClosed core → (chan message : Val) (at : Span) → ActsBy core s (op.Out chan message at) → IsRight core s
    → None ≡ channel_named (operand_value (known s.desk.heap s.desk.values.items) chan) → (p : Primitive) × (operand_value (known s.desk.heap s.desk.values.items) chan ≡ PrimitiveVal p)
node_sent_to core s closed chan message at a right =
    sent_to core s a.acting right (operand_value (known s.desk.heap s.desk.values.items) message) at (operand_value (known s.desk.heap s.desk.values.items) chan)
    (outputs_stand core s.desk.heap s.desk.values.items a.number chan message at a.node (acting_words core s) closed a.is a.op_is)

-- ---- two words

module _ (h : HeapState) (pair : ℕ × ℕ) (p : IsPair h pair) (w : Word) (only : (x : Word) → FitsWord x → packed x ≡ pair → w ≡ x) where
  pair_word : w ≡ p.word
  pair_word = only p.word p.fits p.packs

  pub word_is : IsWord h w
  word_is = subst (IsWord h) (sym pair_word) p.is

  pub pair_value : value_in h pair.0 pair.1 ≡ value_of h w
  pair_value = value_packed h p.word pair p.fits p.packs ∙ ap (value_of h) (sym pair_word)

-- ---- an output of kept values

same_to : (k l : Kept) → kept_words k ≡ kept_words l → l.to ≡ k.to
same_to k l e =
    let a : l.to.0 ≡ k.to.0 = cc in
    let b : l.to.1 ≡ k.to.1 = cc in
    ap (λ x. (x, l.to.1)) a ∙ ap (λ y. (k.to.0, y)) b

same_message : (k l : Kept) → kept_words k ≡ kept_words l → l.message ≡ k.message
same_message k l e =
    let a : l.message.0 ≡ k.message.0 = cc in
    let b : l.message.1 ≡ k.message.1 = cc in
    ap (λ x. (x, l.message.1)) a ∙ ap (λ y. (k.message.0, y)) b

module _ (core : Process) (s : Store) (acting : HasActing core s) (kept : Kept) (has : s.turn ≡ Output kept) where
  abbrev held : IsKept s.desk.heap (kept_words kept)
  held = kept_turn core s acting kept has

  pub kept_to : IsPair s.desk.heap kept.to
  kept_to = subst (IsPair s.desk.heap) (same_to kept held.kept held.is) held.to

  pub kept_message : IsPair s.desk.heap kept.message
  kept_message = subst (IsPair s.desk.heap) (same_message kept held.kept held.is) held.message

  abbrev pub kept_is : IsKept s.desk.heap (acting_words core s)
  kept_is = record { kept = held.kept; is = kept_acts core s acting kept has ∙ held.is; fits = held.fits; to = held.to; message = held.message }

  pub kept_to_is : kept_is.kept.to ≡ kept.to
  kept_to_is = same_to kept held.kept held.is

  pub kept_process : process_of core (value_in s.desk.heap) (acting_words core s) ≡ Out (value_in s.desk.heap kept.to.0 kept.to.1) (value_in s.desk.heap kept.message.0 kept.message.1) kept.at
  kept_process = ap (process_of core (value_in s.desk.heap)) (kept_acts core s acting kept has)
