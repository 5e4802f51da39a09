-- The deeds of nodes, by words.
use Rattle.std.proofs.Common.{ℕ, ◌<◌, ◌≤◌, ◌≡◌, Bool, cond, List, length, set, sym, ap, ◌∙◌, subst, arith, Some, None, option_map, Vec, Global}
use Rattle.std.proofs.lemmas.List.{get_or-set_other, length-map}
use Rattle.std.proofs.lemmas.Option.{slice_get-map}
use Rattle.std.specs.List.{AllByRecursion, slice_get}
use Rattle.std.specs.Option.{IsSome}
use Rattle.pict_syntax.specs.declared.span.Span.{Span}
use Rattle.pict_core.specs.Term.{Val, Process, Boolean, Chan, Out, In}
use Rattle.pict_core.specs.Deed as deeds
use Rattle.pict_core.specs.Deed.{Misfits}
use Rattle.pict_core.specs.Matching.{match_value}
use Rattle.pict_code.specs.Instruction as op
use Rattle.pict_code.specs.Instruction.{Op, CodePat}
use Rattle.pict_code.specs.Nodes.{Place, places, input_op}
use Rattle.pict_code.specs.ReadBack.{unleveled}
use Rattle.pict_code.specs.declared.instruction.Node as written
use Rattle.pict_heap.specs.HeapState.{HeapState, KeepsWords}
use Rattle.pict_heap.specs.Packed.{packed, FitsWord}
use Rattle.pict_heap.specs.declared.word.Word.TheVariants as word
use Rattle.pict_view.specs.View.{list_at}
use Rattle.pict_desk.specs.Binding.{BindsPattern}
use Rattle.pict_desk.specs.Code.{core_in}
use Rattle.pict_desk.specs.Constants.{OnlyMakes}
use Rattle.pict_desk.specs.Known.{known, operand_value}
use Rattle.pict_desk.specs.Pairs.{IsPair, ArePairs}
use Rattle.pict_desk.specs.Room.{KeepsHeap}
use Rattle.pict_desk.specs.declared.desk.Desk.{Desk}
use Rattle.pict_desk.specs.declared.kept.Kept.{Kept}
use Rattle.pict_desk.proofs.Making.{keeps_all, pairs_keep}
use Rattle.pict_desk.proofs.Pairs.{set_here, set_pairs}
use Rattle.pict_picker.specs.Acting.{IsProcessOf, ActsBy, WaitAt, SendsOn, ReceivesOn, ReadsAt, SentAt, IsKeptOn}
use Rattle.pict_picker.specs.Deeds.{deed_at, IsDeed}
use Rattle.pict_picker.specs.Parts.{IsPart, KeepsDesk}
use Rattle.pict_picker.specs.Picker.{IsDesk}
use Rattle.pict_picker.specs.Waiting.{pair_value, node_process, kept_process, process_of, IsParked}
use Rattle.pict_picker.specs.declared.deed.Deed.TheVariants as deed
use Rattle.pict_picker.specs.declared.waiting.Waiting.{Waiting}
use Rattle.pict_picker.specs.declared.waiting.Waiting.TheVariants as waiting
use Rattle.pict_picker.proofs.Acts.{all_at}
use Rattle.pict_picker.proofs.AtChannel.{there_at, alone_row, beside_row, serves_fits, serves_row, reader_alone, reader_beside, reads_in, takes_fits, takes_row}
use Rattle.pict_picker.proofs.Rows.{zero_row, fork_row, if_row, new_row, in_row, in_bound, body_of}
use Rattle.pict_picker.proofs.Standing.{part_waits}

-- ---- what a desk keeps

pub keeps_desk : (core : Process) (d : Desk) → IsDesk core d → KeepsDesk core d d
keeps_desk core d is = record { words = keeps_all d.heap; desk = is }

-- a heap that is as it was keeps its texts and its records
pub heap_stays : (old new : HeapState) → new ≡ old → KeepsHeap old new
heap_stays old new e = record { texts = ap (λ (h : HeapState). h.texts) e; records = ap (λ (h : HeapState). h.records) e }

-- words may have been made
pub makes_desk : (core : Process) (old new : Desk) → OnlyMakes old new → IsDesk core old → KeepsDesk core old new
makes_desk core old new m is = record {
  words = m.words;
  desk = record {
    pairs = subst (ArePairs new.heap) (sym m.values) (pairs_keep old.heap new.heap m.words old.values.items is.pairs);
    levels = subst (λ (vs : List (ℕ × ℕ)). AllByRecursion (λ (p : Place). p.around ≤ length vs) (places 0 core)) (sym m.values) is.levels;
  };
}

-- other values stand at the levels
pub values_desk : (core : Process) (old new : Desk) → new.heap ≡ old.heap → ArePairs old.heap new.values.items → length new.values.items ≡ length old.values.items → IsDesk core old → KeepsDesk core old new
values_desk core old new heap pairs many is = record {
  words = subst (KeepsWords old.heap) (sym heap) (keeps_all old.heap);
  desk = record {
    pairs = subst (λ h. ArePairs h new.values.items) (sym heap) pairs;
    levels = subst (λ n. AllByRecursion (λ (p : Place). p.around ≤ n) (places 0 core)) (sym many) is.levels;
  };
}

-- ---- nodes that need no partner

module _ (code : List written.Node) (d : Desk) (lists : List (List Process)) (j : ℕ) (own : Process) where
  pub zero_deed : ActsBy code d lists j op.Zero own → IsDeed (core_in code) d.heap lists j own (deed.Ends None)
  zero_deed a = record { is = ap (deed_at lists j) (zero_row (core_in code) (known d.heap d.values.items) own a.node); fits = tt }

  pub fork_deed : (l r : ℕ) (first second : Waiting) → ActsBy code d lists j (op.Par l r) own → IsPart (core_in code) d.values.items l first → IsPart (core_in code) d.values.items r second
      → IsDeed (core_in code) d.heap lists j own (deed.Forks first second)
  fork_deed l r first second a x y = record {
    is = ap (deed_at lists j) (fork_row (core_in code) d.heap d.values.items l r own a.node first second x y);
    fits = (part_waits d.heap d.values.items (core_in code) a.may.desk.pairs l first x, part_waits d.heap d.values.items (core_in code) a.may.desk.pairs r second y);
  }

  pub choose_deed : (test : Val) (l r k : ℕ) (b : Bool) (w : Waiting) → ActsBy code d lists j (op.If test l r) own → operand_value (known d.heap d.values.items) test ≡ Boolean b → k ≡ cond b l r
      → IsPart (core_in code) d.values.items k w → IsDeed (core_in code) d.heap lists j own (deed.Keeps w None)
  choose_deed test l r k b w a is chosen x = record {
    is = if_row (core_in code) d.heap d.values.items test l r own a.may.code_is.closed a.node lists j b k w is chosen x;
    fits = (part_waits d.heap d.values.items (core_in code) a.may.desk.pairs k w x, tt);
  }

  module _ (level l c : ℕ) (pair : ℕ × ℕ) (fits : FitsWord (word.Chan c)) (packs : packed (word.Chan c) ≡ pair) (inside : level < length d.values.items) where
    pub opened_pairs : ArePairs d.heap d.values.items → ArePairs d.heap (set d.values.items level pair)
    opened_pairs pairs = set_pairs d.heap d.values.items level (word.Chan c) pair fits packs inside tt pairs

    pub open_deed : (w : Waiting) → ActsBy code d lists j (op.New level l) own → length lists ≡ c → IsPart (core_in code) (set d.values.items level pair) l w
        → IsDeed (core_in code) d.heap lists j own (deed.Opens w)
    open_deed w a many x = record {
      is = new_row (core_in code) d.heap d.values.items level l own a.node (set d.values.items level pair) c w
          (λ k apart. get_or-set_other d.values.items level k pair (0, 0) apart) (set_here d.heap d.values.items level (word.Chan c) pair fits packs inside) x lists j many;
      fits = part_waits d.heap (set d.values.items level pair) (core_in code) (opened_pairs a.may.desk.pairs) l w x;
    }

-- ---- what waits at a channel

-- the waiting process is the node with this number, of this frame
abbrev pub IsNodeOf : Waiting → ℕ → List (ℕ × ℕ) → Type 0
IsNodeOf (waiting.Node n f) number frame = (n ≡ number) × (f.items ≡ frame)
IsNodeOf (waiting.Output kept) number frame = ⊥

module _ (code : List written.Node) (d : Desk) (lists : List (List Process)) (channel : ℕ) (items : List Waiting) (w : WaitAt code d lists channel items) where
  pub waits_as : (j : ℕ) (x : Waiting) → slice_get items j ≡ Some x → slice_get (list_at channel lists) j ≡ Some (process_of (core_in code) d.heap x)
  waits_as j x e = ap (λ (ps : List Process). slice_get ps j) w.list ∙ slice_get-map (process_of (core_in code) d.heap) items j ∙ ap (option_map (process_of (core_in code) d.heap)) e

  pub waits_past : (j : ℕ) → length items ≤ j → length (list_at channel lists) ≤ j
  waits_past j past = let e = ap length w.list in let f = length-map items (process_of (core_in code) d.heap) in omega (arith, past, e, f)

  -- a node that waits is read there
  pub reads_at : (j number : ℕ) (x : Waiting) (frame : List (ℕ × ℕ)) → slice_get items j ≡ Some x → IsNodeOf x number frame → ReadsAt code d lists j channel number frame
  reads_at j number (waiting.Node n f) frame e is =
      let p = all_at (IsParked (core_in code) d.heap) items j (waiting.Node n f) w.parked e in
      let core = core_in code in
      subst (λ (k : ℕ). ReadsAt code d lists j channel k frame) is.0
      (subst (ReadsAt code d lists j channel n) is.1 (record { node = p.0; input = p.1; waits = waits_as j (waiting.Node n f) e }))
  reads_at j number (waiting.Output kept) frame e is = absurd is

  -- a message that waits is there
  pub sent_at : (j : ℕ) (kept : Kept) → slice_get items j ≡ Some (waiting.Output kept) → SentAt d lists j channel kept.message
  sent_at j kept e = record {
    pair = (all_at (IsParked (core_in code) d.heap) items j (waiting.Output kept) w.parked e).0.message;
    to = pair_value d.heap kept.to;
    at = kept.at;
    waits = waits_as j (waiting.Output kept) e;
  }

-- ---- outputs

module _ (code : List written.Node) (d : Desk) (lists : List (List Process)) (j channel : ℕ) (message : ℕ × ℕ) (at : Span) (own : Process) (s : SendsOn code d lists j channel message at own)
    (kept : Kept) (k : IsKeptOn channel message at kept) where
  kept_is : kept_process d.heap kept ≡ Out (Chan channel) (pair_value d.heap message) at
  kept_is =
      ap (λ v. Out v (pair_value d.heap kept.message) kept.at) (k.to d.heap).1
      ∙ ap (λ m. Out (Chan channel) (pair_value d.heap m) kept.at) k.message_is
      ∙ ap (Out (Chan channel) (pair_value d.heap message)) k.at_is

  parked_deed : deed_at lists j own ≡ deeds.Parks channel (Out (Chan channel) (pair_value d.heap message) at) → IsDeed (core_in code) d.heap lists j own (deed.Parks channel kept)
  parked_deed e = record {
    is = e ∙ ap (deeds.Parks channel) (sym kept_is);
    fits = (s.there, record { to = (k.to d.heap).0; message = subst (IsPair d.heap) (sym k.message_is) s.pair });
  }

  module _ (items : List Waiting) (w : WaitAt code d lists channel items) where
    pub alone_deed : length items ≤ j → IsDeed (core_in code) d.heap lists j own (deed.Parks channel kept)
    alone_deed past =
        parked_deed (alone_row lists j channel own (pair_value d.heap message) at s.is (waits_past code d lists channel items w j past))

    pub beside_deed : (other : Kept) → slice_get items j ≡ Some (waiting.Output other) → IsDeed (core_in code) d.heap lists j own (deed.Parks channel kept)
    beside_deed other e =
        parked_deed (beside_row lists j channel own (pair_value d.heap message) at s.is (pair_value d.heap other.to) (pair_value d.heap other.message) other.at
        (waits_as code d lists channel items w j (waiting.Output other) e))

-- An output that meets an input: `read` is the desk once the input's frame is read, and `bound` once its levels are bound.
module _ (code : List written.Node) (d read bound : Desk) (lists : List (List Process)) (j channel number part : ℕ) (message : ℕ × ℕ) (at : Span) (frame : List (ℕ × ℕ)) (own : Process)
    (s : SendsOn code d lists j channel message at own) (r : ReadsAt code d lists j channel number frame) (replicated : Bool) (chan : Val) (pattern : CodePat)
    (read_heap : read.heap ≡ d.heap) (acts : IsProcessOf (core_in code) (known d.heap read.values.items) (input_op replicated chan pattern part) (node_process d.heap frame (slice_get (places 0 (core_in code)) number))) where
  abbrev reader : Process
  reader = node_process d.heap frame (slice_get (places 0 (core_in code)) number)

  reader_is : reader ≡ In (operand_value (known d.heap read.values.items) chan) replicated (unleveled pattern) (body_of (core_in code) d.heap read.values.items replicated chan pattern part reader s.may.code_is.closed acts)
  reader_is = in_row (core_in code) d.heap read.values.items replicated chan pattern part reader s.may.code_is.closed acts

  pub served_fits : IsSome (match_value (unleveled pattern) (pair_value d.heap message))
  served_fits =
      serves_fits lists j channel own (pair_value d.heap message) at s.is reader (operand_value (known d.heap read.values.items) chan) replicated (unleveled pattern)
      (body_of (core_in code) d.heap read.values.items replicated chan pattern part reader s.may.code_is.closed acts) r.waits reader_is s.may.right

  pub served_deed : (w : Waiting) → BindsPattern d.heap pattern (pair_value d.heap message) read.values.items bound.values.items → ArePairs d.heap bound.values.items
      → IsPart (core_in code) bound.values.items part w → IsDeed (core_in code) d.heap lists j own (deed.Serves channel message replicated w)
  served_deed w binds pairs x =
      let b = in_bound (core_in code) d.heap read.values.items replicated chan pattern part reader s.may.code_is.closed acts bound.values.items (pair_value d.heap message) w binds x in
      record {
        is = serves_row lists j channel own (pair_value d.heap message) at s.is reader (operand_value (known d.heap read.values.items) chan) replicated (unleveled pattern)
            (body_of (core_in code) d.heap read.values.items replicated chan pattern part reader s.may.code_is.closed acts) r.waits reader_is b.bound (process_of (core_in code) d.heap w) b.fits b.is;
        fits = (s.there, (there_at (list_at channel lists) j reader r.waits).0, s.pair, part_waits d.heap bound.values.items (core_in code) pairs part w x);
      }

-- ---- inputs

module _ (code : List written.Node) (d : Desk) (lists : List (List Process)) (j channel : ℕ) (replicated : Bool) (pattern : CodePat) (part : ℕ) (own : Process)
    (r : ReceivesOn code d lists j channel replicated pattern part own) where
  abbrev receiver_body : Process
  receiver_body = body_of (core_in code) d.heap d.values.items replicated r.chan pattern part own r.acts.may.code_is.closed r.acts.node

  receiver_is : own ≡ In (Chan channel) replicated (unleveled pattern) receiver_body
  receiver_is =
      in_row (core_in code) d.heap d.values.items replicated r.chan pattern part own r.acts.may.code_is.closed r.acts.node
      ∙ ap (λ v. In v replicated (unleveled pattern) receiver_body) r.from

  waits_deed : deed_at lists j own ≡ deeds.Parks channel own → IsDeed (core_in code) d.heap lists j own (deed.Waits channel)
  waits_deed e = record { is = e; fits = (r.there, reads_in lists j channel own replicated (unleveled pattern) receiver_body receiver_is) }

  module _ (items : List Waiting) (w : WaitAt code d lists channel items) where
    pub receiver_alone : length items ≤ j → IsDeed (core_in code) d.heap lists j own (deed.Waits channel)
    receiver_alone past = waits_deed (reader_alone lists j channel own replicated (unleveled pattern) receiver_body receiver_is (waits_past code d lists channel items w j past))

    pub receiver_beside : (number : ℕ) (frame : List (ℕ × ℕ)) (x : Waiting) → slice_get items j ≡ Some x → IsNodeOf x number frame → IsDeed (core_in code) d.heap lists j own (deed.Waits channel)
    receiver_beside number frame x e is =
        let at = reads_at code d lists channel items w j number x frame e is in
        waits_deed (reader_beside lists j channel own replicated (unleveled pattern) receiver_body receiver_is (node_process d.heap frame (slice_get (places 0 (core_in code)) number)) at.waits at.input)

  module _ (message : ℕ × ℕ) (sent : SentAt d lists j channel message) where
    pub taken_fits : IsSome (match_value (unleveled pattern) (pair_value d.heap message))
    taken_fits =
        takes_fits lists j channel own replicated (unleveled pattern) receiver_body receiver_is sent.to (pair_value d.heap message) sent.at sent.waits r.acts.may.right

    pub taken_deed : (later : List (ℕ × ℕ)) (w : Waiting) → BindsPattern d.heap pattern (pair_value d.heap message) d.values.items later → ArePairs d.heap later
        → IsPart (core_in code) later part w → IsDeed (core_in code) d.heap lists j own (deed.Takes channel message replicated w)
    taken_deed later w binds pairs x =
        let b = in_bound (core_in code) d.heap d.values.items replicated r.chan pattern part own r.acts.may.code_is.closed r.acts.node later (pair_value d.heap message) w binds x in
        record {
          is = takes_row lists j channel own replicated (unleveled pattern) receiver_body receiver_is sent.to (pair_value d.heap message) sent.at sent.waits
              b.bound (process_of (core_in code) d.heap w) b.fits b.is;
          fits = (r.there, (there_at (list_at channel lists) j (Out sent.to (pair_value d.heap message) sent.at) sent.waits).0, sent.pair, part_waits d.heap later (core_in code) pairs part w x);
        }

-- a waiting process that was found to be a node
pub node_is : (w : Waiting) (number : ℕ) (frame : Vec (ℕ × ℕ) Global) → w ≡ waiting.Node number frame → IsNodeOf w number frame.items
node_is (waiting.Node n f) number frame e =
    let same : n ≡ number = cc in
    let frames : f ≡ frame = cc in
    (same, ap (λ (v : Vec (ℕ × ℕ) Global). v.items) frames)
node_is (waiting.Output kept) number frame e = cc
