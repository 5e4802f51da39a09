-- No step of a code costs more than the greatest cost, or makes more than three blocks.
use Rattle.std.proofs.Common.{ℕ, zero, suc, ◌+◌, ◌*◌, ◌≤◌, ◌≡◌, ◌≢◌, ◌==◌, inl, inr, max, Bool, true, false, if◌then◌else◌, List, [], ◌∷◌, ◌++◌, length, map, refl, sym, ap, ◌∙◌, subst, arith, Option, Some, None, option_map, unwrap_or}
use Rattle.std.specs.List.{slice_get, AllByRecursion}
use Rattle.std.proofs.lemmas.Bool.Decides.{nat_tests}
use Rattle.pict_core.specs.Primitives.{Leaves, Nothing, Answer, Trap, Effect, effect_of}
use Rattle.pict_core.specs.Term.{Process, Var, Chan, Int, Char, Boolean, Text, PrimitiveVal, Record, Zero, Par, New, Out, In, If}
use Rattle.pict_code.specs.Instruction as op
use Rattle.pict_code.specs.Instruction.{Op, Node}
use Rattle.pict_code.specs.Nodes.{nodes_of}
use Rattle.pict_heap.specs.HeapState.{HeapState}
use Rattle.pict_queue.specs.QueuesState.{QueuesState}
use Rattle.pict_queue.specs.Contents.{contents}
use Rattle.pict_region.specs.RegionState.{KeepsBlocks}
use Rattle.pict_blocks.specs.Blocks.{process_of}
use Rattle.pict_desk.specs.Known.{value_in}
use Rattle.pict_blocks.specs.Framed.{gathered}
use Rattle.pict_turns.specs.Acting.{IsStore}
use Rattle.pict_turns.specs.Cost.{instruction_size, block_size, partner_size, input_size, output_size, cost_of, first_cost}
use Rattle.pict_blocks.specs.Parts.{block_width}
use Rattle.pict_turns.specs.Turns.{handing, turn_cost}
use Rattle.pict_turns.specs.Views.{frame_in, words_of_turn, ready_words, IsBlock}
use Rattle.pict_turns.specs.Widths.{MakesOnly, how_many, part_width, leaves_widths, answer_widths}
use Rattle.pict_turns.specs.declared.turn.Turn.{Turn}
use Rattle.pict_turns.specs.declared.turn.Turn.TheVariants.{Nobody, Node as NodeTurn, Wide, Output}
use Rattle.pict_turns.specs.declared.store.Store.{Store}
use Rattle.pict_blocks.proofs.Holding.{held_width}
use Rattle.pict_turns.proofs.Turns.{turn_blocks}
use Rattle.pict_acting.specs.Bounds.{largest, greatest_cost, half_cost, total_blocks, IsWidthIn, MakesFew}
use Rattle.pict_turns.specs.Needs as needs
use Rattle.pict_turns.specs.Needs.{input_widths, served_widths, taken_widths, output_widths, receipt_widths, choice_widths, node_widths, block_widths, first_widths, turn_widths}
use Rattle.pict_turns.proofs.Needing.{many_append}

-- ---- what a step costs

four_low : (all ns : List Node) → 4 ≤ largest all ns
four_low all [] = omega arith
four_low all (n ∷ ns) = let low = four_low all ns in omega (arith, low)

low : (all ns : List Node) (i : ℕ) (n : Node) → slice_get ns i ≡ Some n → instruction_size all n ≤ largest all ns
low all [] i n e = cc
low all (m ∷ ns) zero n e =
    let same : m ≡ n = cc in
    let le : instruction_size all m ≤ max (instruction_size all m) (largest all ns) = omega arith in
    subst (λ (x : Node). instruction_size all x ≤ max (instruction_size all m) (largest all ns)) same le
low all (m ∷ ns) (suc i) n e = let le = low all ns i n e in omega (arith, le)

some_low : (all : List Node) (o : Option Node) (bound : ℕ) → ((n : Node) → o ≡ Some n → instruction_size all n ≤ bound) → unwrap_or (option_map (instruction_size all) o) 0 ≤ bound
some_low all None bound f = omega arith
some_low all (Some n) bound f = f n refl

block_low : (all : List Node) (words : List ℕ) → block_size all words ≤ largest all all
block_low all [] = omega arith
block_low all (zero ∷ held) = four_low all all
block_low all (suc number ∷ held) = some_low all (slice_get all number) (largest all all) (λ n e. low all all number n e)

input_low : (all : List Node) (list : List (List ℕ)) → input_size all list ≤ largest all all
input_low all [] = omega arith
input_low all ([] ∷ rest) = omega arith
input_low all ((zero ∷ held) ∷ rest) = omega arith
input_low all ((suc number ∷ held) ∷ rest) = block_low all (suc number ∷ held)

output_low : (all : List Node) (list : List (List ℕ)) → output_size all list ≤ largest all all
output_low all [] = omega arith
output_low all ([] ∷ rest) = omega arith
output_low all ((zero ∷ held) ∷ rest) = block_low all (zero ∷ held)
output_low all ((suc number ∷ held) ∷ rest) = omega arith

partner_low : (all : List Node) (s : QueuesState) (p : Process) → partner_size all s p ≤ largest all all
partner_low all s Zero = omega arith
partner_low all s (Par p q) = omega arith
partner_low all s (New p) = omega arith
partner_low all s (If t p q) = omega arith
partner_low all s (Out (Chan c) m at) = input_low all (contents s (c + 1))
partner_low all s (Out (Var l) m at) = omega arith
partner_low all s (Out (Int l) m at) = omega arith
partner_low all s (Out (Char l) m at) = omega arith
partner_low all s (Out (Boolean l) m at) = omega arith
partner_low all s (Out (Text l) m at) = omega arith
partner_low all s (Out (PrimitiveVal l) m at) = omega arith
partner_low all s (Out (Record l k) m at) = omega arith
partner_low all s (In (Chan c) r m b) = output_low all (contents s (c + 1))
partner_low all s (In (Var l) r m b) = omega arith
partner_low all s (In (Int l) r m b) = omega arith
partner_low all s (In (Char l) r m b) = omega arith
partner_low all s (In (Boolean l) r m b) = omega arith
partner_low all s (In (Text l) r m b) = omega arith
partner_low all s (In (PrimitiveVal l) r m b) = omega arith
partner_low all s (In (Record l k) r m b) = omega arith

cost_low : (core : Process) (s : Store) (words : List ℕ) → cost_of core s words ≤ greatest_cost core
cost_low core s words =
    let one = block_low (nodes_of core) words in
    let other = partner_low (nodes_of core) s.queues (process_of core (value_in s.desk.heap) words) in
    omega (arith, one, other)

pub first_low : (core : Process) (s : Store) (list : List (List ℕ)) → first_cost core s list ≤ greatest_cost core
first_low core s [] = omega arith
first_low core s (words ∷ rest) = cost_low core s words

-- ---- what it costs to set down who has the turn

frame_low : (all : List Node) (o : Option Node) → ((n : Node) → o ≡ Some n → instruction_size all n ≤ largest all all) → length (unwrap_or (option_map (λ (n : Node). n.frame) o) []) ≤ largest all all
frame_low all None f = omega arith
frame_low all (Some n) f = let le = f n refl in omega (arith, le)

words_length : (values : List (ℕ × ℕ)) (levels : List ℕ) → length (gathered values levels) ≡ 2 * length levels
words_length values [] = refl
words_length values (l ∷ ls) = let e = words_length values ls in omega (arith, e)

handing_low : (all : List Node) (values : List (ℕ × ℕ)) (t : Turn) → handing (words_of_turn all values t) ≤ 64 * largest all all
handing_low all values Nobody = omega arith
handing_low all values (NodeTurn number) =
    let e = words_length values (frame_in all number) in
    let le = frame_low all (slice_get all number) (λ n is. low all all number n is) in
    let four = four_low all all in
    omega (arith, e, le, four)
handing_low all values (Wide number pair) = let four = four_low all all in omega (arith, four)
handing_low all values (Output kept) = let four = four_low all all in omega (arith, four)

pub turn_half : (core : Process) (s : Store) → turn_cost core s ≤ half_cost core
turn_half core s = handing_low (nodes_of core) s.desk.values.items s.turn

pub turn_low : (core : Process) (s : Store) → turn_cost core s ≤ greatest_cost core
turn_low core s = let half = turn_half core s in omega (arith, half)

-- ---- how many blocks a step needs

-- at most so much for one part of a node, or for one output of kept values, where f counts widths
module _ (core : Process) (f : List ℕ → ℕ) (most : ℕ) (none : f [] ≤ 0) (both : (xs ys : List ℕ) → f (xs ++ ys) ≡ f xs + f ys) (part : (number : ℕ) → f (part_width (nodes_of core) number ∷ []) ≤ most) (output : f (9 ∷ []) ≤ most) where
  input_few : (o : Op) → f (input_widths (nodes_of core) o) ≤ most
  input_few op.Zero = omega (arith, none)
  input_few (op.Par left right) = omega (arith, none)
  input_few (op.New level next) = omega (arith, none)
  input_few (op.Out chan message at) = omega (arith, none)
  input_few (op.In chan pattern next) = part next
  input_few (op.Serve chan pattern next) = part next
  input_few (op.If test left right) = omega (arith, none)

  input_at_few : (o : Option Node) → f (unwrap_or (option_map (λ (n : Node). input_widths (nodes_of core) n.op) o) []) ≤ most
  input_at_few None = omega (arith, none)
  input_at_few (Some n) = input_few n.op

  served_few : (to_wait : List ℕ) (list : List (List ℕ)) → f to_wait ≤ most → f (served_widths (nodes_of core) to_wait list) ≤ most
  served_few to_wait [] few = few
  served_few to_wait ([] ∷ rest) few = few
  served_few to_wait ((zero ∷ held) ∷ rest) few = few
  served_few to_wait ((suc number ∷ held) ∷ rest) few = input_at_few (slice_get (nodes_of core) number)

  taken_few : (number : ℕ) (list : List (List ℕ)) → f (taken_widths (nodes_of core) number list) ≤ most
  taken_few number [] = omega (arith, none)
  taken_few number ([] ∷ rest) = omega (arith, none)
  taken_few number ((zero ∷ held) ∷ rest) = part number
  taken_few number ((suc other ∷ held) ∷ rest) = omega (arith, none)

  leaves_few : (l : Leaves) → f (leaves_widths l) ≤ most
  leaves_few Nothing = omega (arith, none)
  leaves_few (Answer k a) = output
  leaves_few Trap = omega (arith, none)

  answer_few : (o : Option Effect) → f (unwrap_or (option_map answer_widths o) []) ≤ most
  answer_few None = omega (arith, none)
  answer_few (Some e) = leaves_few e.leaves

  output_few : (s : QueuesState) (to_wait : List ℕ) (p : Process) → f to_wait ≤ most → f (output_widths (nodes_of core) s to_wait p) ≤ most
  output_few s to_wait Zero few = omega (arith, none)
  output_few s to_wait (Par p q) few = omega (arith, none)
  output_few s to_wait (New p) few = omega (arith, none)
  output_few s to_wait (In chan replicated pattern body) few = omega (arith, none)
  output_few s to_wait (If test p q) few = omega (arith, none)
  output_few s to_wait (Out (Chan c) message at) few = served_few to_wait (contents s (c + 1)) few
  output_few s to_wait (Out (PrimitiveVal p) message at) few = answer_few (effect_of p message)
  output_few s to_wait (Out (Var l) message at) few = omega (arith, none)
  output_few s to_wait (Out (Int l) message at) few = omega (arith, none)
  output_few s to_wait (Out (Char l) message at) few = omega (arith, none)
  output_few s to_wait (Out (Boolean l) message at) few = omega (arith, none)
  output_few s to_wait (Out (Text l) message at) few = omega (arith, none)
  output_few s to_wait (Out (Record vs ls) message at) few = omega (arith, none)

  receipt_few : (s : QueuesState) (number : ℕ) (p : Process) → f (receipt_widths (nodes_of core) s number p) ≤ most
  receipt_few s number Zero = omega (arith, none)
  receipt_few s number (Par p q) = omega (arith, none)
  receipt_few s number (New p) = omega (arith, none)
  receipt_few s number (Out chan message at) = omega (arith, none)
  receipt_few s number (If test p q) = omega (arith, none)
  receipt_few s number (In (Chan c) replicated pattern body) = taken_few number (contents s (c + 1))
  receipt_few s number (In (Var l) replicated pattern body) = omega (arith, none)
  receipt_few s number (In (Int l) replicated pattern body) = omega (arith, none)
  receipt_few s number (In (Char l) replicated pattern body) = omega (arith, none)
  receipt_few s number (In (Boolean l) replicated pattern body) = omega (arith, none)
  receipt_few s number (In (Text l) replicated pattern body) = omega (arith, none)
  receipt_few s number (In (PrimitiveVal l) replicated pattern body) = omega (arith, none)
  receipt_few s number (In (Record vs ls) replicated pattern body) = omega (arith, none)

  choice_few : (left right : ℕ) (p : Process) → f (choice_widths (nodes_of core) left right p) ≤ most
  choice_few left right Zero = omega (arith, none)
  choice_few left right (Par p q) = omega (arith, none)
  choice_few left right (New p) = omega (arith, none)
  choice_few left right (Out chan message at) = omega (arith, none)
  choice_few left right (In chan replicated pattern body) = omega (arith, none)
  choice_few left right (If (Boolean b) p q) = part (if b then left else right)
  choice_few left right (If (Var l) p q) = omega (arith, none)
  choice_few left right (If (Chan l) p q) = omega (arith, none)
  choice_few left right (If (Int l) p q) = omega (arith, none)
  choice_few left right (If (Char l) p q) = omega (arith, none)
  choice_few left right (If (Text l) p q) = omega (arith, none)
  choice_few left right (If (PrimitiveVal l) p q) = omega (arith, none)
  choice_few left right (If (Record vs ls) p q) = omega (arith, none)

  node_few : (s : QueuesState) (o : Op) (p : Process) → f (node_widths (nodes_of core) s o p) ≤ 2 * most
  node_few s op.Zero p = omega (arith, none)
  node_few s (op.Par left right) p =
      let one = part left in
      let other = part right in
      let sum = both (part_width (nodes_of core) left ∷ []) (part_width (nodes_of core) right ∷ []) in
      omega (arith, one, other, sum)
  node_few s (op.New level next) p = let one = part next in omega (arith, one)
  node_few s (op.Out chan message at) p = let one = output_few s (9 ∷ []) p output in omega (arith, one)
  node_few s (op.In chan pattern next) p = let one = receipt_few s next p in omega (arith, one)
  node_few s (op.Serve chan pattern next) p = let one = receipt_few s next p in omega (arith, one)
  node_few s (op.If test left right) p = let one = choice_few left right p in omega (arith, one)

  node_at_few : (s : QueuesState) (p : Process) (o : Option Node) → f (unwrap_or (option_map (λ (n : Node). node_widths (nodes_of core) s n.op p) o) []) ≤ 2 * most
  node_at_few s p None = omega (arith, none)
  node_at_few s p (Some n) = node_few s n.op p

  block_few : (s : QueuesState) (words : List ℕ) (p : Process) → f (block_widths (nodes_of core) s words p) ≤ 2 * most
  block_few s [] p = omega (arith, none)
  block_few s (zero ∷ held) p = let one = output_few s [] p (omega (arith, none)) in omega (arith, one)
  block_few s (suc number ∷ held) p = node_at_few s p (slice_get (nodes_of core) number)

  first_few : (s : Store) (list : List (List ℕ)) → f (first_widths core s list) ≤ 2 * most
  first_few s [] = omega (arith, none)
  first_few s (words ∷ rest) = block_few s.queues words (process_of core (value_in s.desk.heap) words)

  -- one for who has the turn
  own_few : (h : HeapState) (words : List ℕ) → IsBlock core h words → f ((length words + 1) ∷ []) ≤ most
  own_few h words (inl n) =
      let same : length words + 1 ≡ block_width n.node.frame = ap (λ (ws : List ℕ). length ws + 1) n.is ∙ held_width h n.number n.node.frame n.held n.narrow n.wide in
      let there : part_width (nodes_of core) n.number ≡ block_width n.node.frame = ap (λ (o : Option Node). block_width (unwrap_or (option_map (λ (x : Node). x.frame) o) [])) n.at in
      subst (λ (w : ℕ). f (w ∷ []) ≤ most) (there ∙ sym same) (part n.number)
  own_few h words (inr k) =
      let same : length words + 1 ≡ 9 = ap (λ (ws : List ℕ). length ws + 1) k.is in
      subst (λ (w : ℕ). f (w ∷ []) ≤ most) (sym same) output

  turn_few : (h : HeapState) (values : List (ℕ × ℕ)) (t : Turn) → AllByRecursion (IsBlock core h) (words_of_turn (nodes_of core) values t)
      → f (map (λ (words : List ℕ). length words + 1) (words_of_turn (nodes_of core) values t)) ≤ most
  turn_few h values Nobody are = omega (arith, none)
  turn_few h values (NodeTurn number) are = own_few h _ are.0
  turn_few h values (Wide number pair) are = own_few h _ are.0
  turn_few h values (Output kept) are = own_few h _ are.0

  running_few : (s : Store) → IsStore core s → f (needs.running_widths core s) ≤ 3 * most
  running_few s is =
      let own = turn_few s.desk.heap s.desk.values.items s.turn (turn_blocks core s.desk.heap s.desk.values.items s.turn is.turn is.pairs) in
      let first = first_few s (ready_words core s) in
      let sum = both (turn_widths core s) (first_widths core s (ready_words core s)) in
      omega (arith, own, first, sum)

-- how many of the second widths are among the first
abbrev total_many : List ℕ → List ℕ → ℕ
total_many [] xs = 0
total_many (w ∷ ws) xs = how_many w xs + total_many ws xs

total_none : (ws : List ℕ) → total_many ws [] ≤ 0
total_none [] = omega arith
total_none (w ∷ ws) = let e = total_none ws in omega (arith, e)

total_append : (ws xs ys : List ℕ) → total_many ws (xs ++ ys) ≡ total_many ws xs + total_many ws ys
total_append [] xs ys = omega arith
total_append (w ∷ ws) xs ys = let e = total_append ws xs ys in let one = many_append w xs ys in omega (arith, e, one)

turned : (w x : ℕ) → how_many w (x ∷ []) ≤ how_many x (w ∷ [])
turned w x = by_case (w == x) refl
  where
    by_case : (b : Bool) → (w == x) ≡ b → (if b then 1 else 0) + 0 ≤ how_many x (w ∷ [])
    by_case true e = let same : (x == w) ≡ true = grind (arith, nat_tests) in subst (λ (b : Bool). 1 ≤ (if b then 1 else 0) + 0) (sym same) (omega arith)
    by_case false e = omega arith

total_one : (ws : List ℕ) (x : ℕ) → total_many ws (x ∷ []) ≤ how_many x ws
total_one [] x = omega arith
total_one (w ∷ ws) x = let e = total_one ws x in let one = turned w x in omega (arith, e, one)

total_made : (old new : QueuesState) (needed ws : List ℕ) → MakesOnly old new needed → total_blocks new.region ws ≤ total_blocks old.region ws + total_many ws needed
total_made old new needed [] makes = omega arith
total_made old new needed (w ∷ ws) makes = let e = total_made old new needed ws makes in let one = makes.most w in omega (arith, e, one)

pub total_kept : (old new : QueuesState) (ws : List ℕ) → KeepsBlocks old.region new.region → total_blocks new.region ws ≡ total_blocks old.region ws
total_kept old new [] keeps = refl
total_kept old new (w ∷ ws) keeps = let e = total_kept old new ws keeps in let one = keeps w in omega (arith, e, one)

none_each : (width other : ℕ) → other ≢ width → how_many width (other ∷ []) ≤ 0
none_each width other apart = by_case (width == other) refl
  where
    by_case : (b : Bool) → (width == other) ≡ b → (if b then 1 else 0) + 0 ≤ 0
    by_case true e = let same : other ≡ width = grind (arith, nat_tests) in absurd (apart same)
    by_case false e = omega arith

pub one_step : (core : Process) (s : Store) (old new : QueuesState) → IsStore core s → MakesOnly old new (needs.running_widths core s) → MakesFew core 1 old new
one_step core s old new is makes = record {
  least = makes.least;
  few = λ widths distinct.
      let one : (x : ℕ) → total_many widths (x ∷ []) ≤ 1 = λ x. let e = total_one widths x in let d = distinct x in omega (arith, e, d) in
      let few = running_few core (total_many widths) 1 (total_none widths) (total_append widths) (λ number. one (part_width (nodes_of core) number)) (one 9) s is in
      let made = total_made old new (needs.running_widths core s) widths makes in
      omega (arith, few, made);
  others = λ width apart.
      let few =
      running_few core (how_many width) 0 (omega arith) (many_append width) (λ number. none_each width (part_width (nodes_of core) number) (λ same. apart (inr (number, same))))
      (none_each width 9 (λ same. apart (inl (sym same)))) s is
      in
      let made = makes.most width in
      omega (arith, few, made);
}

-- blocks of three widths of the code are no more than a step may make
pub made_few : (core : Process) (old new : QueuesState) (a b c : ℕ) → IsWidthIn core a → IsWidthIn core b → IsWidthIn core c → MakesOnly old new (a ∷ b ∷ c ∷ []) → MakesFew core 1 old new
made_few core old new a b c in_a in_b in_c makes = record {
  least = makes.least;
  few = λ widths distinct.
      let one : (x : ℕ) → total_many widths (x ∷ []) ≤ 1 = λ x. let e = total_one widths x in let d = distinct x in omega (arith, e, d) in
      let first = total_append widths (a ∷ []) (b ∷ c ∷ []) in
      let second = total_append widths (b ∷ []) (c ∷ []) in
      let made = total_made old new (a ∷ b ∷ c ∷ []) widths makes in
      let x = one a in
      let y = one b in
      let z = one c in
      omega (arith, first, second, made, x, y, z);
  others = λ width apart.
      let none : (other : ℕ) → IsWidthIn core other → how_many width (other ∷ []) ≤ 0 = λ other is. none_each width other (λ same. apart (subst (IsWidthIn core) same is)) in
      let made = makes.most width in
      let first = many_append width (a ∷ []) (b ∷ c ∷ []) in
      let second = many_append width (b ∷ []) (c ∷ []) in
      let x = none a in_a in
      let y = none b in_b in
      let z = none c in_c in
      omega (arith, first, second, made, x, y, z);
}

-- a block of a node is made and pushed at less than a quarter of the greatest cost
pub push_low : (core : Process) (number : ℕ) (node : Node) → slice_get (nodes_of core) number ≡ Some node → 4 * length node.frame + 8 ≤ half_cost core
push_low core number node at = let le = low (nodes_of core) (nodes_of core) number node at in omega (arith, le)
