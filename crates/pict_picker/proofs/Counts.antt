-- The partners of a process, counted at its channel.
use Rattle.std.proofs.Common.{ℕ, zero, suc, ◌+◌, ◌<◌, ◌≤◌, ◌≡◌, ◌≢◌, ◌==◌, ◌⊎◌, inl, inr, Bool, true, false, cond, List, [], ◌∷◌, Vec, Global, length, map, drop, filter, get_or, refl, sym, ap, ◌∙◌, subst, arith, Option, Some, None, option_map, unwrap_or}
use Rattle.std.proofs.lemmas.Bool.Decides.{nat_tests}
use Rattle.std.proofs.lemmas.List.{length-map}
use Rattle.std.proofs.lemmas.Option.{slice_get-map}
use Rattle.std.specs.List.{AllByRecursion, slice_get}
use Rattle.pict_syntax.specs.declared.span.Span.{Span}
use Rattle.pict_core.specs.Term.{Val, Pat, Process, Chan, Zero, Par, New, Out, In, If}
use Rattle.pict_core.specs.Closed.{IsUnder}
use Rattle.pict_core.specs.Configuration.{Configuration}
use Rattle.pict_core.specs.Places.{ready_entries, partners_at}
use Rattle.pict_core.specs.Configuration.{Entry}
use Rattle.pict_core.specs.Step.{reads, sends}
use Rattle.pict_core.specs.Substitution.{replace}
use Rattle.pict_code.specs.Instruction.{Node}
use Rattle.pict_code.specs.Frames.{frame_of}
use Rattle.pict_code.specs.Nodes.{op_of, places, nodes_of}
use Rattle.pict_code.specs.Standing.{closing, value_at}
use Rattle.pict_code.proofs.Closings.{part_under}
use Rattle.pict_core.specs.Closed.{IsClosed}
use Rattle.pict_heap.specs.HeapState.{HeapState}
use Rattle.pict_view.specs.Partners.{is_input, is_output, partners_in}
use Rattle.pict_view.specs.View.{View, StandsFor, KeepsApart, AreOutputs, AreInputs, list_at}
use Rattle.pict_view.proofs.Seen.{partners_are_seen}
use Rattle.pict_desk.specs.AtHand.{channel_named}
use Rattle.pict_desk.specs.Known.{operand_value}
use Rattle.pict_desk.specs.declared.kept.Kept.{Kept}
use Rattle.pict_desk.proofs.Nodes.{part_of, op_is}
use Rattle.pict_desk.proofs.OperandsAround.{same_operand}
use Rattle.pict_desk.proofs.Parts.{operand}
use Rattle.pict_ranked.specs.Ranking.{Ranking}
use Rattle.pict_picker.specs.Partners.{stands_at, stands_by, is_partner_of}
use Rattle.pict_picker.specs.Picker.{channel_items, channel_processes, view_of_lists, AreLists}
use Rattle.pict_picker.specs.Waiting.{pair_value, node_process, process_of, processes_of, AreParked}
use Rattle.pict_picker.specs.declared.lists.Lists.{Lists}
use Rattle.pict_picker.specs.declared.waiting.Waiting.{Waiting}
use Rattle.pict_picker.specs.declared.waiting.Waiting.TheVariants as waiting
use Rattle.pict_picker.proofs.Acts.{all_at}
use Rattle.pict_picker.proofs.Places.{who_is}

-- ---- the value of a level in a frame

test_same : (a b : ℕ) → b ≡ a → (a == b) ≡ true
test_same a b e = grind (arith, nat_tests, e)

test_apart : (a b : ℕ) → b ≢ a → (a == b) ≡ false
test_apart a b n = grind (arith, nat_tests, n)

module _ (h : HeapState) (level : ℕ) where
  pub value_here : (ls : List ℕ) (fs : List (ℕ × ℕ)) (k : ℕ) → k < length ls → length fs ≡ length ls → get_or ls k 0 ≡ level
      → value_at (drop k ls) (map (pair_value h) (drop k fs)) level ≡ pair_value h (get_or fs k (0, 0))
  value_here [] fs k low many e = absurd (omega arith)
  value_here (l ∷ ls) [] k low many e = absurd (omega arith)
  value_here (l ∷ ls) (f ∷ fs) zero low many e = ap (λ b. cond b (pair_value h f) (value_at ls (map (pair_value h) fs) level)) (test_same level l e)
  value_here (l ∷ ls) (f ∷ fs) (suc k) low many e = value_here ls fs k (omega arith) (omega arith) e

  pub value_next : (ls : List ℕ) (fs : List (ℕ × ℕ)) (k : ℕ) → k < length ls → length fs ≡ length ls → get_or ls k 0 ≢ level
      → value_at (drop (k + 1) ls) (map (pair_value h) (drop (k + 1) fs)) level ≡ value_at (drop k ls) (map (pair_value h) (drop k fs)) level
  value_next [] fs k low many n = absurd (omega arith)
  value_next (l ∷ ls) [] k low many n = absurd (omega arith)
  value_next (l ∷ ls) (f ∷ fs) zero low many n = sym (ap (λ b. cond b (pair_value h f) (value_at ls (map (pair_value h) fs) level)) (test_apart level l n))
  value_next (l ∷ ls) (f ∷ fs) (suc k) low many n =
      let e : suc k + 1 ≡ suc (k + 1) = omega arith in
      ap (λ m. value_at (drop m (l ∷ ls)) (map (pair_value h) (drop m (f ∷ fs))) level) e ∙ value_next ls fs k (omega arith) (omega arith) n

  pub value_past : (ls : List ℕ) (fs : List (ℕ × ℕ)) (k : ℕ) → length ls ≤ k → channel_named (value_at (drop k ls) (map (pair_value h) (drop k fs)) level) ≡ None
  value_past [] fs zero high = refl
  value_past [] fs (suc k) high = refl
  value_past (l ∷ ls) fs zero high = absurd (omega arith)
  value_past (l ∷ ls) [] (suc k) high = by_end (drop k ls)
    where
      by_end : (zs : List ℕ) → channel_named (value_at zs [] level) ≡ None
      by_end [] = refl
      by_end (z ∷ zs) = refl
  value_past (l ∷ ls) (f ∷ fs) (suc k) high = value_past ls fs k (omega arith)

-- ---- at which channel a process stands

stands_out : (v m : Val) (at : Span) → stands_at (Out v m at) ≡ option_map (λ c. (c, true)) (channel_named v)
stands_out (Chan c) m at = refl
stands_out _ m at = refl

stands_in : (v : Val) (b : Bool) (pattern : Pat) (body : Process) → stands_at (In v b pattern body) ≡ option_map (λ c. (c, false)) (channel_named v)
stands_in (Chan c) b pattern body = refl
stands_in _ b pattern body = refl

stands_of : (i n : ℕ) (value : ℕ → Val) (p : Process) → IsUnder n 0 p → stands_at (replace (closing n value) p) ≡ stands_by (operand_value value) (op_of i n p)
stands_of i n value (Out chan m at) u =
    stands_out (operand n value chan) (operand n value m) at ∙ ap (λ v. option_map (λ c. (c, true)) (channel_named v)) (same_operand n value chan u.0)
stands_of i n value (In chan true pattern body) u =
    stands_in (operand n value chan) true pattern _ ∙ ap (λ v. option_map (λ c. (c, false)) (channel_named v)) (same_operand n value chan u.0)
stands_of i n value (In chan false pattern body) u =
    stands_in (operand n value chan) false pattern _ ∙ ap (λ v. option_map (λ c. (c, false)) (channel_named v)) (same_operand n value chan u.0)
stands_of i n value Zero u = refl
stands_of i n value (Par p q) u = refl
stands_of i n value (New p) u = refl
stands_of i n value (If test p q) u = refl

pub node_stands_at : (core : Process) (h : HeapState) (number : ℕ) (node : Node) (frame : List (ℕ × ℕ)) → IsClosed core → slice_get (nodes_of core) number ≡ Some node
    → stands_at (node_process h frame (slice_get (places 0 core) number)) ≡ stands_by (operand_value (value_at node.frame (map (pair_value h) frame))) node.op
node_stands_at core h number node frame closed at =
    let p = part_of core number node at in
    let vs = map (pair_value h) frame in
    let levels : frame_of p.0.around p.0.process ≡ node.frame = ap (λ (x : Node). x.frame) p.1.node_is in
    ap (λ o. stands_at (node_process h frame o)) p.1.at
    ∙ stands_of number p.0.around (value_at (frame_of p.0.around p.0.process) vs) p.0.process (part_under core number p.0 closed p.1.at)
    ∙ ap (stands_by (operand_value (value_at (frame_of p.0.around p.0.process) vs))) (op_is core number node p.0 node.op p.1 refl)
    ∙ ap (λ ls. stands_by (operand_value (value_at ls vs)) node.op) levels

-- ---- the partners of one that stands at a channel

abbrev pub partners_by : List (List Process) → Option (ℕ × Bool) → List Process
partners_by lists None = []
partners_by lists (Some side) = filter (is_partner_of side.1) (list_at side.0 lists)

pub partners_are : (lists : List (List Process)) (p : Process) → partners_in lists p ≡ partners_by lists (stands_at p)
partners_are lists (Out (Chan c) m at) = refl
partners_are lists (In (Chan c) b pattern body) = refl
partners_are lists (Out _ m at) = refl
partners_are lists (In _ b pattern body) = refl
partners_are lists _ = refl

pub partners_count : (v : View) (i : ℕ) (n : ℕ) → KeepsApart v → (p : Process) → slice_get v.ready i ≡ Some p → n ≡ length (partners_in v.channels p)
    → (C : Configuration) → StandsFor v C → n ≡ length (partners_at C i)
partners_count v i n apart p here e C stands =
    e ∙ sym (ap length (partners_are_seen v C i p apart stands here)) ∙ length-map (partners_at C i) (λ (x : Entry). x.process)

pub ready_counted : (v : View) (C : Configuration) → StandsFor v C → length v.ready ≡ length (ready_entries C)
ready_counted v C stands = sym (ap length stands.ready) ∙ length-map (ready_entries C) (λ (x : Entry). x.process)

-- ---- all of them, or none

filter_all : (f : Process → Bool) (ps : List Process) → AllByRecursion (λ p. f p ≡ true) ps → filter f ps ≡ ps
filter_all f [] a = refl
filter_all f (p ∷ ps) a = ap (λ b. cond b (p ∷ filter f ps) (filter f ps)) a.0 ∙ ap (λ l. p ∷ l) (filter_all f ps a.1)

filter_none : (f : Process → Bool) (ps : List Process) → AllByRecursion (λ p. f p ≡ false) ps → filter f ps ≡ []
filter_none f [] a = refl
filter_none f (p ∷ ps) a = ap (λ b. cond b (p ∷ filter f ps) (filter f ps)) a.0 ∙ filter_none f ps a.1

all_weaker : (P Q : Process → Type 0) → ((p : Process) → P p → Q p) → (ps : List Process) → AllByRecursion P ps → AllByRecursion Q ps
all_weaker P Q f [] a = tt
all_weaker P Q f (p ∷ ps) a = (f p a.0, all_weaker P Q f ps a.1)

out_sent : (c : ℕ) (p : Process) → sends c p ≡ true → (is_output p ≡ true) × (is_input p ≡ false)
out_sent c (Out chan m at) e = (refl, refl)
out_sent c _ e = cc

in_read : (c : ℕ) (p : Process) → reads c p ≡ true → (is_input p ≡ true) × (is_output p ≡ false)
in_read c (In chan b pattern body) e = (refl, refl)
in_read c _ e = cc

module _ (c : ℕ) (ps : List Process) where
  outputs_partner : (b : Bool) → AreOutputs c ps → length (filter (is_partner_of b) ps) ≡ cond b 0 (length ps)
  outputs_partner true a = ap length (filter_none is_input ps (all_weaker (λ p. sends c p ≡ true) (λ p. is_input p ≡ false) (λ p e. (out_sent c p e).1) ps a))
  outputs_partner false a = ap length (filter_all is_output ps (all_weaker (λ p. sends c p ≡ true) (λ p. is_output p ≡ true) (λ p e. (out_sent c p e).0) ps a))

  inputs_partner : (b : Bool) → AreInputs c ps → length (filter (is_partner_of b) ps) ≡ cond b (length ps) 0
  inputs_partner true a = ap length (filter_all is_input ps (all_weaker (λ p. reads c p ≡ true) (λ p. is_input p ≡ true) (λ p e. (in_read c p e).0) ps a))
  inputs_partner false a = ap length (filter_none is_output ps (all_weaker (λ p. reads c p ≡ true) (λ p. is_output p ≡ false) (λ p e. (in_read c p e).1) ps a))

-- whether the first of these, if there is one, is an output
abbrev pub BeginsWith : Bool → List Waiting → Type 0
BeginsWith output [] = Unit {0}
BeginsWith true (waiting.Output kept ∷ ws) = Unit {0}
BeginsWith true (waiting.Node number frame ∷ ws) = ⊥
BeginsWith false (waiting.Output kept ∷ ws) = ⊥
BeginsWith false (waiting.Node number frame ∷ ws) = Unit {0}

module _ (core : Process) (h : HeapState) (c : ℕ) where
  pub count_none : (ws : List Waiting) (b : Bool) → length ws ≡ 0 → length (filter (is_partner_of b) (processes_of core h ws)) ≡ 0
  count_none [] b e = refl
  count_none (w ∷ ws) b e = absurd (omega arith)

  pub count_outputs : (ws : List Waiting) (b : Bool) → BeginsWith true ws → AreParked core h ws → AreOutputs c (processes_of core h ws) ⊎ AreInputs c (processes_of core h ws)
      → length (filter (is_partner_of b) (processes_of core h ws)) ≡ cond b 0 (length ws)
  count_outputs [] true f a o = refl
  count_outputs [] false f a o = refl
  count_outputs (waiting.Node number frame ∷ ws) b f a o = absurd f
  count_outputs (waiting.Output kept ∷ ws) b f a (inl o) =
      outputs_partner c (processes_of core h (waiting.Output kept ∷ ws)) b o ∙ ap (cond b 0) (length-map (waiting.Output kept ∷ ws) (process_of core h))
  count_outputs (waiting.Output kept ∷ ws) b f a (inr o) = let e = o.0 in cc

  pub count_inputs : (ws : List Waiting) (b : Bool) → BeginsWith false ws → AreParked core h ws → AreOutputs c (processes_of core h ws) ⊎ AreInputs c (processes_of core h ws)
      → length (filter (is_partner_of b) (processes_of core h ws)) ≡ cond b (length ws) 0
  count_inputs [] true f a o = refl
  count_inputs [] false f a o = refl
  count_inputs (waiting.Output kept ∷ ws) b f a o = absurd f
  count_inputs (waiting.Node number frame ∷ ws) b f a (inr o) =
      inputs_partner c (processes_of core h (waiting.Node number frame ∷ ws)) b o ∙ ap (λ n. cond b n 0) (length-map (waiting.Node number frame ∷ ws) (process_of core h))
  count_inputs (waiting.Node number frame ∷ ws) b f a (inl o) =
      let no = (out_sent c (process_of core h (waiting.Node number frame)) o.0).1 in
      let yes = a.0.1 in
      cc

-- the first one tells
pub begins_with_output : (ws : List Waiting) (w : Waiting) (kept : Kept) → slice_get ws 0 ≡ Some w → w ≡ waiting.Output kept → BeginsWith true ws
begins_with_output [] w kept e is = tt
begins_with_output (waiting.Output k ∷ ws) w kept e is = tt
begins_with_output (waiting.Node number frame ∷ ws) w kept e is = let same : waiting.Node number frame ≡ w = cc in cc

pub begins_as_node : (ws : List Waiting) (w : Waiting) (number : ℕ) (frame : Vec (ℕ × ℕ) Global) → slice_get ws 0 ≡ Some w → w ≡ waiting.Node number frame → BeginsWith false ws
begins_as_node [] w number frame e is = tt
begins_as_node (waiting.Node n f ∷ ws) w number frame e is = tt
begins_as_node (waiting.Output k ∷ ws) w number frame e is = let same : waiting.Output k ≡ w = cc in cc

-- ---- the partners are counted at a channel

module _ (core : Process) (h : HeapState) (lists : Lists) (c : ℕ) (sends : Bool) where
  at_channel : (o : Option (Ranking Waiting)) → slice_get lists.channels.items c ≡ o → slice_get (channel_items lists) c ≡ option_map (λ (r : Ranking Waiting). r.items) o
  at_channel o e = slice_get-map (λ (r : Ranking Waiting). r.items) lists.channels.items c ∙ ap (option_map (λ (r : Ranking Waiting). r.items)) e

  there_at : (o : Option (List Waiting)) → slice_get (channel_items lists) c ≡ o → list_at c (channel_processes core h lists) ≡ unwrap_or (option_map (processes_of core h) o) []
  there_at o e = ap (λ (x : Option (List Process)). unwrap_or x []) (slice_get-map (processes_of core h) (channel_items lists) c ∙ ap (option_map (processes_of core h)) e)

  pub counted_some : (list : Ranking Waiting) (n : ℕ) → slice_get lists.channels.items c ≡ Some list → AreLists core h lists → KeepsApart (view_of_lists core h lists)
      → (AreParked core h list.items → AreOutputs c (processes_of core h list.items) ⊎ AreInputs c (processes_of core h list.items) → n ≡ length (filter (is_partner_of sends) (processes_of core h list.items)))
      → n ≡ length (filter (is_partner_of sends) (list_at c (channel_processes core h lists)))
  counted_some list n e are apart counts =
      let here = at_channel (Some list) e in
      let same : list_at c (channel_processes core h lists) ≡ processes_of core h list.items = there_at (Some list.items) here in
      counts (all_at (AreParked core h) (channel_items lists) c list.items are.parked here) (subst (λ ps. AreOutputs c ps ⊎ AreInputs c ps) same (apart.apart c))
      ∙ ap (λ ps. length (filter (is_partner_of sends) ps)) (sym same)

  pub counted_none : slice_get lists.channels.items c ≡ None → 0 ≡ length (filter (is_partner_of sends) (list_at c (channel_processes core h lists)))
  counted_none e =
      let same : list_at c (channel_processes core h lists) ≡ [] = there_at None (at_channel None e) in
      sym (ap (λ ps. length (filter (is_partner_of sends) ps)) same)

module _ (core : Process) (h : HeapState) (lists : Lists) (i : ℕ) (w : Waiting) (here : slice_get lists.ready.items i ≡ Some w) (o : Option (ℕ × Bool)) (n : ℕ)
    (side : o ≡ stands_at (process_of core h w)) (count : n ≡ length (partners_by (channel_processes core h lists) o)) where
  pub seen_by : (p : Process) → slice_get (processes_of core h lists.ready.items) i ≡ Some p → n ≡ length (partners_in (channel_processes core h lists) p)
  seen_by p at =
      let ls = channel_processes core h lists in
      count ∙ ap (λ x. length (partners_by ls x)) (side ∙ ap stands_at (who_is core h lists.ready.items i w p here at)) ∙ sym (ap length (partners_are ls p))

  pub seen_for : KeepsApart (view_of_lists core h lists) → (C : Configuration) → StandsFor (view_of_lists core h lists) C → n ≡ length (partners_at C i)
  seen_for apart C stands =
      let p = process_of core h w in
      let at : slice_get (processes_of core h lists.ready.items) i ≡ Some p = slice_get-map (process_of core h) lists.ready.items i ∙ ap (option_map (process_of core h)) here in
      partners_count (view_of_lists core h lists) i n apart p at (seen_by p at) C stands
