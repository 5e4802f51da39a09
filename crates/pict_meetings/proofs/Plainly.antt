-- A message and an input that isn't replicated meet, and no memory is taken.
use Rattle.std.proofs.Common.{ℕ, zero, suc, ◌+◌, ◌-◌, ◌≤◌, ◌≡◌, ◌==◌, Bool, true, false, cond, IsTrue, inl, inr, List, [], ◌∷◌, length, map, take, refl, sym, ap, ◌∙◌, subst, arith, Option, Some, None, option_map, ◌⊎◌, ⊎_elim}
use Rattle.std.proofs.lemmas.Bool.Decides.{nat_tests}
use Rattle.std.specs.List.{slice_get}
use Rattle.pict_syntax.specs.declared.limits.TheConstants.{NARROW_LIMIT}
use Rattle.pict_syntax.specs.declared.span.Span.{Span}
use Rattle.pict_core.specs.Term as term
use Rattle.pict_core.specs.Term.{Val, Pat, Process, Chan}
use Rattle.pict_code.specs.Instruction as op
use Rattle.pict_code.specs.Instruction.{Node, CodePat}
use Rattle.pict_code.specs.Nodes.{nodes_of, input_op}
use Rattle.pict_code.specs.Plain.{plain_node}
use Rattle.pict_code.specs.declared.instruction.Node as written
use Rattle.pict_region.specs.RegionState.{spare, blocks, live_blocks, KeepsBlocks}
use Rattle.pict_queue.specs.Contents.{contents}
use Rattle.pict_blocks.specs.Keeping.{kept_words}
use Rattle.pict_blocks.specs.Blocks.{process_of}
use Rattle.pict_desk.specs.Known.{value_in}
use Rattle.pict_meetings.specs.Room.{as_wide}
use Rattle.pict_meetings.specs.Serving.{IsInputWith}
use Rattle.pict_meetings.specs.Waiting.{oldest, waits_first}
use Rattle.pict_meetings.specs.declared.waiting.Waiting.TheVariants.{Output, Input}
use Rattle.pict_meetings.proofs.Firsts.{first_input, first_message}
use Rattle.pict_turns.proofs.Wide.{node_of, node_wide}
use Rattle.pict_meetings.proofs.Ops.{same_input}
use Rattle.pict_meetings.proofs.Wide.{first_reused}
use Rattle.pict_turns.specs.Acting.{IsStore}
use Rattle.pict_desk.specs.Code.{core_in, IsCode, HasFrame}
use Rattle.pict_blocks.specs.Parts.{block_width}
use Rattle.pict_turns.specs.Reserving.{OnlyReserves}
use Rattle.pict_turns.specs.Views.{acting_words}
use Rattle.pict_turns.specs.Widths.{MakesOnly}
use Rattle.pict_turns.specs.declared.store.Store.{Store}
use Rattle.pict_blocks.proofs.Holding.{width_narrow}
use Rattle.pict_desk.proofs.Numbered.{same_frame}
use Rattle.pict_turns.specs.Plain.{IsPlainInput, SendsInPlace, ReceivesInPlace}
use Rattle.pict_meetings.specs.Sending.{EndsAsWide}

-- ---- the input that waits first

plain_reader : (nodes : List Node) (waiting : List ℕ) (part : ℕ) (others : List (List ℕ)) → IsPlainInput nodes waiting part
    → (number : ℕ) × (pattern : CodePat) × (oldest (waiting ∷ others) ≡ Input number) × IsInputWith nodes number false pattern part
plain_reader nodes [] part others i = let e = i.is in cc
plain_reader nodes (zero ∷ held) part others i = let e = i.is in cc
plain_reader nodes (suc number ∷ held) part others i = there (slice_get nodes number) refl i.is
  where
    there : (n : Option Node) → slice_get nodes number ≡ n → option_map (λ (x : Node). x.op) n ≡ Some (op.In i.chan i.pattern part)
        → (number' : ℕ) × (pattern : CodePat) × (oldest ((suc number ∷ held) ∷ others) ≡ Input number') × IsInputWith nodes number' false pattern part
    there None at e = cc
    there (Some n) at e = (number, i.pattern, refl, record { node = n; at = at; chan = i.chan; is = let f : Some n.op ≡ Some (op.In i.chan i.pattern part) = e in cc })

-- an output that meets an input plainly, on this channel
module _ (core : Process) (s : Store) (acting : List ℕ) (channel : ℕ) (v : Val) (at : Span) (is : process_of core (value_in s.desk.heap) acting ≡ term.Out (Chan channel) v at) (x : SendsInPlace core s acting) where
  sent_on : x.channel ≡ channel
  sent_on = let e : term.Out (Chan x.channel) x.message x.at ≡ term.Out (Chan channel) v at = sym x.out ∙ is in cc

  waits_there : contents s.queues (channel + 1) ≡ x.waiting ∷ x.others
  waits_there = ap (λ (c : ℕ). contents s.queues (c + 1)) (sym sent_on) ∙ x.waits

  pub serves : (number : ℕ) × (pattern : CodePat) × (waits_first s.queues channel ≡ Input number) × IsInputWith (nodes_of core) number false pattern x.part
  serves =
      let r = plain_reader (nodes_of core) x.waiting x.part x.others x.input in
      (r.0, r.1, ap oldest waits_there ∙ r.2, r.3)

-- an input that meets an output plainly, on this channel
module _ (core : Process) (s : Store) (acting : List ℕ) (channel : ℕ) (replicated : Bool) (pattern : Pat) (body : Process)
    (is : process_of core (value_in s.desk.heap) acting ≡ term.In (Chan channel) replicated pattern body) (x : ReceivesInPlace core s acting) where
  received_from : x.channel ≡ channel
  received_from = let e : term.In (Chan x.channel) false x.pattern x.body ≡ term.In (Chan channel) replicated pattern body = sym x.receives ∙ is in cc

  pub not_replicated : replicated ≡ false
  not_replicated = let e : term.In (Chan x.channel) false x.pattern x.body ≡ term.In (Chan channel) replicated pattern body = sym x.receives ∙ is in cc

  pub message_waits : waits_first s.queues channel ≡ Output
  message_waits = ap (λ (c : ℕ). oldest (contents s.queues (c + 1))) (sym received_from) ∙ ap oldest x.waits

-- ---- room

-- a block of the width is free, and none is made
module _ (old mid : Store) (width : ℕ) (r : OnlyReserves old mid) (makes : MakesOnly old.queues mid.queues (width ∷ [])) (one : 1 ≤ spare old.queues.region width) where
  none_made : KeepsBlocks old.queues.region mid.queues.region
  none_made w = by_side (w == width) refl
    where
      by_side : (b : Bool) → (w == width) ≡ b → blocks mid.queues.region w ≡ blocks old.queues.region w
      by_side b test =
          let low = r.spare w in
          let same : live_blocks mid.queues.region w ≡ live_blocks old.queues.region w = ap (λ live. live_blocks (record old.queues.region { live = live }) w) r.live in
          let most : blocks mid.queues.region w ≤ blocks old.queues.region w + ((cond b 1 0 + 0) - spare old.queues.region w) =
          subst (λ (t : Bool). blocks mid.queues.region w ≤ blocks old.queues.region w + ((cond t 1 0 + 0) - spare old.queues.region w)) test (makes.most w) in
          let free : cond b 1 0 + 0 ≤ spare old.queues.region w = some_free b test in
          omega (arith, low, same, most, free)
        where
          some_free : (t : Bool) → (w == width) ≡ t → cond t 1 0 + 0 ≤ spare old.queues.region w
          some_free false e = omega arith
          some_free true e = let here : w ≡ width = grind (arith, nat_tests) in subst (λ (k : ℕ). 1 + 0 ≤ spare old.queues.region k) (sym here) (omega (arith, one))

-- where one of the blocks that end is as wide, or one is free
pub room_plain : {P : Type 0} (old mid : Store) (width : ℕ) (reuses : Bool) → OnlyReserves old mid → MakesOnly old.queues mid.queues (width ∷ []) → (IsTrue reuses → P) → (1 ≤ spare old.queues.region width → P)
    → (IsTrue reuses → KeepsBlocks old.queues.region mid.queues.region) → 1 ≤ spare old.queues.region width ⊎ IsTrue reuses → P × KeepsBlocks old.queues.region mid.queues.region
room_plain old mid width reuses r makes plain enough keeps (inl one) = (enough one, none_made old mid width r makes one)
room_plain old mid width reuses r makes plain enough keeps (inr reused) = (plain reused, keeps reused)

-- ---- how wide the blocks that meet are

module _ (code : List written.Node) (is : IsCode (map plain_node code)) (s : Store) (store : IsStore (core_in code) s) (channel reader : ℕ) (first : waits_first s.queues channel ≡ Input reader) where
  -- the block of the input that waits first
  reader_wide : (own held : List ℕ) (rest : List (List ℕ)) → contents s.queues (channel + 1) ≡ (suc reader ∷ held) ∷ rest → HasFrame (map plain_node code) reader own → length (suc reader ∷ held) + 1 ≡ block_width own
  reader_wide own held rest here has =
      let f = first_input (core_in code) s.desk.heap (contents s.queues (channel + 1)) reader (store.blocks (channel + 1)) (store.waiting channel) first in
      let both : (suc reader ∷ f.held) ∷ f.rest ≡ (suc reader ∷ held) ∷ rest = sym f.is ∙ here in
      let words : suc reader ∷ held ≡ suc reader ∷ f.held = cc in
      let n = node_of (core_in code) s.desk.heap reader f.held (suc reader ∷ held) words f.block in
      let at : slice_get (map plain_node code) reader ≡ Some n.0.node = ap (λ (ns : List Node). slice_get ns reader) (sym is.nodes_are) ∙ ap (slice_get (nodes_of (core_in code))) (sym n.1) ∙ n.0.at in
      node_wide (core_in code) s.desk.heap (suc reader ∷ held) n.0
      ∙ ap block_width (same_frame (map plain_node code) reader n.0.node.frame own (record { node = n.0.node; at = at; is = refl }) has)

  -- the block that is given back is as wide as that of the frame
  pub one_given : (replicated : Bool) (pattern : CodePat) (part : ℕ) → IsInputWith (map plain_node code) reader replicated pattern part → (frame : List ℕ) → EndsAsWide (map plain_node code) reader frame
      → 1 ≤ as_wide (block_width frame) (cond replicated [] (take 1 (contents s.queues (channel + 1))))
  one_given replicated pattern part i frame e =
      let f = first_input (core_in code) s.desk.heap (contents s.queues (channel + 1)) reader (store.blocks (channel + 1)) (store.waiting channel) first in
      let same = same_input (map plain_node code) reader replicated false pattern e.pattern part e.part i e.input in
      let given : cond replicated [] (take 1 (contents s.queues (channel + 1))) ≡ (suc reader ∷ f.held) ∷ [] =
      ap (λ (b : Bool). cond b [] (take 1 (contents s.queues (channel + 1)))) same.0 ∙ ap (take 1) f.is in
      subst (λ (ws : List (List ℕ)). 1 ≤ as_wide (block_width frame) ws) (sym given)
      (first_reused (block_width frame) (suc reader ∷ f.held) [] (reader_wide e.own f.held f.rest f.is e.has ∙ e.wide))

  module _ (v : Val) (at : Span) (out : process_of (core_in code) (value_in s.desk.heap) (acting_words (core_in code) s) ≡ term.Out (Chan channel) v at)
      (x : SendsInPlace (core_in code) s (acting_words (core_in code) s)) where
    -- the input that waits first is the one that meets plainly
    pub served : (pattern : CodePat) × IsInputWith (map plain_node code) reader false pattern x.part
    served =
        let r = serves (core_in code) s (acting_words (core_in code) s) channel v at out x in
        let e : Input r.0 ≡ Input reader = sym r.2 ∙ first in
        let same : r.0 ≡ reader = cc in
        (r.1, subst (λ (ns : List Node). IsInputWith ns reader false r.1 x.part) is.nodes_are (subst (λ (n : ℕ). IsInputWith (nodes_of (core_in code)) n false r.1 x.part) same r.3))

    pub part_has : HasFrame (map plain_node code) x.part x.room.frame
    part_has = subst (λ (ns : List Node). HasFrame ns x.part x.room.frame) is.nodes_are x.room.has

    module _ (own_room : 1 ≤ spare s.queues.region (length (acting_words (core_in code) s) + 1)) where
      -- a block of the width is free, also that of who has the turn, or the input's own is as wide
      pub sends_room : (frame : List ℕ) → frame ≡ x.room.frame → 1 ≤ spare s.queues.region (block_width frame) ⊎ EndsAsWide (map plain_node code) reader frame
      sends_room frame same = subst (λ (f : List ℕ). 1 ≤ spare s.queues.region (block_width f) ⊎ EndsAsWide (map plain_node code) reader f) (sym same) (cases x.room.room)
        where
          cases : 1 ≤ spare s.queues.region (block_width x.room.frame) ⊎ length (acting_words (core_in code) s) + 1 ≡ block_width x.room.frame ⊎ length x.waiting + 1 ≡ block_width x.room.frame
              → 1 ≤ spare s.queues.region (block_width x.room.frame) ⊎ EndsAsWide (map plain_node code) reader x.room.frame
          cases (inl one) = inl one
          cases (inr (inl e)) = inl (subst (λ (w : ℕ). 1 ≤ spare s.queues.region w) e own_room)
          cases (inr (inr e)) =
              let f = first_input (core_in code) s.desk.heap (contents s.queues (channel + 1)) reader (store.blocks (channel + 1)) (store.waiting channel) first in
              let both : (suc reader ∷ f.held) ∷ f.rest ≡ x.waiting ∷ x.others = sym f.is ∙ waits_there (core_in code) s (acting_words (core_in code) s) channel v at out x in
              let words : x.waiting ≡ suc reader ∷ f.held = cc in
              let i = served.1 in
              let own : HasFrame (map plain_node code) reader i.node.frame = record { node = i.node; at = i.at; is = refl } in
              inr (record {
                pattern = served.0;
                part = x.part;
                input = i;
                own = i.node.frame;
                has = own;
                wide = sym (reader_wide i.node.frame f.held f.rest f.is own) ∙ ap (λ (ws : List ℕ). length ws + 1) (sym words) ∙ e;
              })

      -- room for the part is made without memory
      pub sends_kept : {P : Type 0} (mid : Store) (frame : List ℕ) (reuses : Bool) → frame ≡ x.room.frame
          → (EndsAsWide (map plain_node code) reader frame → IsTrue reuses) → OnlyReserves s mid → MakesOnly s.queues mid.queues (block_width frame ∷ [])
          → (IsTrue reuses → length frame ≤ NARROW_LIMIT → P) → (length frame ≤ NARROW_LIMIT → 1 ≤ spare s.queues.region (block_width frame) → P)
          → (IsTrue reuses → length frame ≤ NARROW_LIMIT → KeepsBlocks s.queues.region mid.queues.region) → P × KeepsBlocks s.queues.region mid.queues.region
      sends_kept mid frame reuses same tells r makes plain enough keeps =
          let narrow : length frame ≤ NARROW_LIMIT = subst (λ (f : List ℕ). length f ≤ NARROW_LIMIT) (sym same) x.room.narrow in
          room_plain s mid (block_width frame) reuses r makes (λ reused. plain reused narrow) (enough narrow) (λ reused. keeps reused narrow)
          (⊎_elim (λ one. inl one) (λ fits. inr (tells fits)) (sends_room frame same))

-- ---- the part of an input

pub same_part : (replicated : Bool) (v w : Val) (p q : CodePat) (l m : ℕ) → input_op replicated v p l ≡ op.In w q m → l ≡ m
same_part true v w p q l m e = cc
same_part false v w p q l m e = cc

-- what waits first is a message
pub message_length : (core : Process) (s : Store) (acting : List ℕ) → IsStore core s → (x : ReceivesInPlace core s acting) → length (zero ∷ x.held) ≡ 8
message_length core s acting store x =
    let f = first_message core s.desk.heap (contents s.queues (x.channel + 1)) (store.blocks (x.channel + 1)) (ap oldest x.waits) in
    let both : (zero ∷ x.held) ∷ x.others ≡ kept_words f.kept ∷ f.rest = sym x.waits ∙ f.is in
    let words : zero ∷ x.held ≡ kept_words f.kept = cc in
    ap length words

-- a message's block is never as wide as that of a frame
even_width : (frame : List ℕ) → length frame ≤ NARROW_LIMIT → 9 ≡ block_width frame → ⊥
even_width frame narrow e = let w = width_narrow frame narrow in omega (arith, w, e)

-- a block of the part's width is free, also that of who has the turn
module _ (core : Process) (s : Store) (own_room : 1 ≤ spare s.queues.region (length (acting_words core s) + 1)) (x : ReceivesInPlace core s (acting_words core s)) (message : length (zero ∷ x.held) ≡ 8) where
  receives_room : 1 ≤ spare s.queues.region (block_width x.room.frame)
  receives_room = cases x.room.room
    where
      cases : 1 ≤ spare s.queues.region (block_width x.room.frame) ⊎ length (acting_words core s) + 1 ≡ block_width x.room.frame ⊎ length (zero ∷ x.held) + 1 ≡ block_width x.room.frame
          → 1 ≤ spare s.queues.region (block_width x.room.frame)
      cases (inl one) = one
      cases (inr (inl e)) = subst (λ (w : ℕ). 1 ≤ spare s.queues.region w) e own_room
      cases (inr (inr e)) = absurd (even_width x.room.frame x.room.narrow (omega (arith, message, e)))

  pub receives_kept : {P : Type 0} (mid : Store) (frame : List ℕ) → frame ≡ x.room.frame → OnlyReserves s mid → MakesOnly s.queues mid.queues (block_width frame ∷ [])
      → (length frame ≤ NARROW_LIMIT → 1 ≤ spare s.queues.region (block_width frame) → P) → P × KeepsBlocks s.queues.region mid.queues.region
  receives_kept mid frame same r makes enough =
      let narrow : length frame ≤ NARROW_LIMIT = subst (λ (f : List ℕ). length f ≤ NARROW_LIMIT) (sym same) x.room.narrow in
      let one : 1 ≤ spare s.queues.region (block_width frame) = subst (λ (f : List ℕ). 1 ≤ spare s.queues.region (block_width f)) (sym same) receives_room in
      (enough narrow one, none_made s mid (block_width frame) r makes one)
