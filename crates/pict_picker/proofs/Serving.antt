-- What is known of an input that meets a message: one that waits, and one that acts.
use Rattle.std.proofs.Common.{ℕ, ◌<◌, ◌≡◌, Bool, List, length, map, get_or, sym, ◌∙◌, subst}
use Rattle.std.specs.List.{All, AllByRecursion, slice_get}
use Rattle.std.specs.Option.{IsSome}
use Rattle.std.proofs.lemmas.List.Elements.{All-from_recursion}
use Rattle.pict_syntax.specs.declared.span.Span.{Span}
use Rattle.pict_core.specs.Term.{Val, Process}
use Rattle.pict_core.specs.Matching.{match_value}
use Rattle.pict_code.specs.Instruction.{Op, CodePat}
use Rattle.pict_code.specs.Levels.{Rises}
use Rattle.pict_code.specs.Nodes.{places, input_op}
use Rattle.pict_code.specs.Plain.{plain_node, plain_op}
use Rattle.pict_code.specs.ReadBack.{unleveled}
use Rattle.pict_code.specs.declared.instruction.Node as written
use Rattle.pict_heap.specs.HeapState.{HeapState}
use Rattle.pict_desk.specs.Binding.{levels_of, BindsPattern}
use Rattle.pict_desk.specs.Code.{core_in}
use Rattle.pict_desk.specs.Known.{pair_at, known}
use Rattle.pict_desk.specs.Pairs.{IsPair, ArePairs}
use Rattle.pict_desk.specs.declared.desk.Desk.{Desk}
use Rattle.pict_desk.proofs.Numbered.{in_code}
use Rattle.pict_picker.specs.Acting.{IsProcessOf, SendsOn, ReceivesOn, ReadsAt, SentAt}
use Rattle.pict_picker.specs.Deeds.{IsDeed}
use Rattle.pict_picker.specs.Parts.{IsPart, KeepsDesk}
use Rattle.pict_picker.specs.Waiting.{pair_value, node_process}
use Rattle.pict_picker.specs.declared.deed.Deed.TheVariants as deed
use Rattle.pict_picker.specs.declared.waiting.Waiting.{Waiting}
use Rattle.pict_picker.proofs.Acts.{HasInput, node_low, node_at, as_many, levels_inside, levels_rise, node_acts, has_input}
use Rattle.pict_picker.proofs.Deeds.{values_desk, served_fits, served_deed, taken_deed}
use Rattle.pict_picker.proofs.Rows.{in_rises, in_places, in_inside}

module _ (code : List written.Node) (d : Desk) (lists : List (List Process)) (j channel : ℕ) (message : ℕ × ℕ) (at : Span) (own : Process) (s : SendsOn code d lists j channel message at own)
    (number : ℕ) (frame : List (ℕ × ℕ)) (r : ReadsAt code d lists j channel number frame) where
  pub serve_low : number < length code
  serve_low = node_low code s.may.code_is d.heap number frame r.node

  module _ (node : written.Node) (there : node ≡ get_or code number node) where
    pub serve_many : length frame ≡ length node.frame.value.items
    serve_many = as_many code s.may.code_is d.heap number frame r.node node there

    pub serve_frame_inside : All (λ level. level < length d.values.items) node.frame.value.items
    serve_frame_inside = levels_inside code s.may.code_is d.heap number frame r.node node there d s.may.desk

    pub serve_frame_rises : Rises 0 node.frame.value.items
    serve_frame_rises = levels_rise code s.may.code_is d.heap number frame r.node node there

    module _ (read : Desk) (heap : read.heap ≡ d.heap) (len : length read.values.items ≡ length d.values.items)
        (pairs : (h : HeapState) → ArePairs h d.values.items → All (IsPair h) frame → ArePairs h read.values.items) (is : map (pair_at read.values.items) node.frame.value.items ≡ frame) where
      read_pairs : ArePairs d.heap read.values.items
      read_pairs = pairs d.heap s.may.desk.pairs (All-from_recursion (IsPair d.heap) frame r.node.pairs)

      pub read_desk : KeepsDesk (core_in code) d read
      read_desk = values_desk (core_in code) d read heap read_pairs len s.may.desk

      reader_acts : IsProcessOf (core_in code) (known d.heap read.values.items) (plain_op node.op) (node_process d.heap frame (slice_get (places 0 (core_in code)) number))
      reader_acts = node_acts (core_in code) d.heap read.values.items number (plain_node node) frame (node_at code s.may.code_is d.heap number frame r.node node there) is

      pub serve_input : HasInput (plain_op node.op)
      serve_input = has_input (core_in code) (known d.heap read.values.items) (plain_op node.op) (node_process d.heap frame (slice_get (places 0 (core_in code)) number)) reader_acts r.input

      module _ (replicated : Bool) (chan : Val) (pattern : CodePat) (part : ℕ) (o : plain_op node.op ≡ input_op replicated chan pattern part) where
        acts : IsProcessOf (core_in code) (known d.heap read.values.items) (input_op replicated chan pattern part) (node_process d.heap frame (slice_get (places 0 (core_in code)) number))
        acts = subst (λ (x : Op). IsProcessOf (core_in code) (known d.heap read.values.items) x (node_process d.heap frame (slice_get (places 0 (core_in code)) number))) o reader_acts

        pub serve_pair : IsPair read.heap message
        serve_pair = subst (λ h. IsPair h message) (sym heap) s.pair

        pub serve_fits : IsSome (match_value (unleveled pattern) (pair_value read.heap message))
        serve_fits =
            subst (λ h. IsSome (match_value (unleveled pattern) (pair_value h message))) (sym heap)
            (served_fits code d read read lists j channel number part message at frame own s r replicated chan pattern heap acts)

        pub serve_places : AllByRecursion (λ level. level < length read.values.items) (levels_of pattern)
        serve_places = in_places (core_in code) d.heap read.values.items replicated chan pattern part (node_process d.heap frame (slice_get (places 0 (core_in code)) number)) s.may.code_is.closed acts read read_desk.desk

        pub serve_rises : Rises 0 (levels_of pattern)
        serve_rises = in_rises (core_in code) d.heap read.values.items replicated chan pattern part (node_process d.heap frame (slice_get (places 0 (core_in code)) number)) s.may.code_is.closed acts

        pub serve_inside : part < length code
        serve_inside =
            in_code code s.may.code_is part
            (in_inside (core_in code) d.heap read.values.items replicated chan pattern part (node_process d.heap frame (slice_get (places 0 (core_in code)) number)) s.may.code_is.closed acts)

        module _ (bound : Desk) (bound_heap : bound.heap ≡ read.heap) (bound_len : length bound.values.items ≡ length read.values.items) (bound_pairs : ArePairs read.heap bound.values.items) where
          own_pairs : ArePairs d.heap bound.values.items
          own_pairs = subst (λ h. ArePairs h bound.values.items) heap bound_pairs

          pub bound_desk : KeepsDesk (core_in code) d bound
          bound_desk = values_desk (core_in code) d bound (bound_heap ∙ heap) own_pairs (bound_len ∙ len) s.may.desk

          pub serve_deed : (w : Waiting) → BindsPattern read.heap pattern (pair_value read.heap message) read.values.items bound.values.items → IsPart (core_in code) bound.values.items part w
              → IsDeed (core_in code) bound.heap lists j own (deed.Serves channel message replicated w)
          serve_deed w binds x =
              subst (λ h. IsDeed (core_in code) h lists j own (deed.Serves channel message replicated w)) (sym (bound_heap ∙ heap))
              (served_deed code d read bound lists j channel number part message at frame own s r replicated chan pattern heap acts w
              (subst (λ h. BindsPattern h pattern (pair_value h message) read.values.items bound.values.items) heap binds) own_pairs x)

-- an input that acts takes a message
module _ (code : List written.Node) (d : Desk) (lists : List (List Process)) (j channel : ℕ) (replicated : Bool) (pattern : CodePat) (part : ℕ) (own : Process)
    (r : ReceivesOn code d lists j channel replicated pattern part own) where
  pub take_places : AllByRecursion (λ level. level < length d.values.items) (levels_of pattern)
  take_places = in_places (core_in code) d.heap d.values.items replicated r.chan pattern part own r.acts.may.code_is.closed r.acts.node d r.acts.may.desk

  pub take_rises : Rises 0 (levels_of pattern)
  take_rises = in_rises (core_in code) d.heap d.values.items replicated r.chan pattern part own r.acts.may.code_is.closed r.acts.node

  pub take_inside : part < length code
  take_inside = in_code code r.acts.may.code_is part (in_inside (core_in code) d.heap d.values.items replicated r.chan pattern part own r.acts.may.code_is.closed r.acts.node)

  module _ (bound : Desk) (heap : bound.heap ≡ d.heap) (len : length bound.values.items ≡ length d.values.items) (pairs : ArePairs d.heap bound.values.items) where
    pub take_desk : KeepsDesk (core_in code) d bound
    take_desk = values_desk (core_in code) d bound heap pairs len r.acts.may.desk

    pub take_deed : (message : ℕ × ℕ) → SentAt d lists j channel message → (w : Waiting) → BindsPattern d.heap pattern (pair_value d.heap message) d.values.items bound.values.items
        → IsPart (core_in code) bound.values.items part w → IsDeed (core_in code) bound.heap lists j own (deed.Takes channel message replicated w)
    take_deed message sent w binds x =
        subst (λ h. IsDeed (core_in code) h lists j own (deed.Takes channel message replicated w)) (sym heap)
        (taken_deed code d lists j channel replicated pattern part own r message sent bound.values.items w binds pairs x)
