-- An output to a primitive needs one free block where it answers, and else none.
use Rattle.std.proofs.Common.{ℕ, zero, suc, ℤ, pos, negsuc, ◌≡◌, ◌≢◌, ◌≤◌, ◌+◌, ◌-◌, ◌==◌, Bool, if◌then◌else◌, List, [], ◌∷◌, Option, Some, None, true, false, refl, sym, subst, arith}
use Rattle.pict_syntax.specs.declared.primitive.Primitive.{Primitive}
use Rattle.pict_syntax.specs.declared.primitive.Primitive.TheVariants as primitive
use Rattle.pict_core.specs.Primitives.{Effect, Leaves, Nothing, Answer, Trap, effect_of, at_int, at_char, at_bool, at_text, at_two, at_three, divided_by}
use Rattle.pict_core.specs.Term.{Val, Vals, Labelled, Int, Char, Boolean, Text, Record, no_vals, more_vals}
use Rattle.pict_region.specs.RegionState.{spare, blocks, LosesNoBlock}
use Rattle.pict_heap.specs.HeapState.{HeapState}
use Rattle.pict_prim.specs.Acts.{effect_act, answer_need}
use Rattle.pict_prim.specs.declared.act.Act.{Act}
use Rattle.pict_prim.specs.declared.act.Act.TheVariants as act
use Rattle.pict_queue.specs.QueuesState.{QueuesState}
use Rattle.pict_turns.specs.Widths.{how_many, MakesOnly, leaves_widths, answer_widths}
use Rattle.pict_turns.specs.Growing.{AddsAtMost}
use Rattle.pict_turns.specs.declared.store.Store.{Store}
use Rattle.pict_calls.specs.Finishing.{outputs_of}

-- ---- a primitive that takes a record answers, or divides by zero

-- where there is an effect that is no trap, it is an answer
abbrev Answers : Option Effect → Type 0
Answers None = Unit {0}
Answers (Some e) = e.leaves ≢ Trap → leaves_widths e.leaves ≡ 9 ∷ []

int_answers : (v : Val) (f : ℤ → Option Effect) → ((n : ℤ) → Answers (f n)) → Answers (at_int v f)
int_answers (Int n) f h = h n
int_answers _ f h = tt

char_answers : (v : Val) (f : ℕ → Option Effect) → ((byte : ℕ) → Answers (f byte)) → Answers (at_char v f)
char_answers (Char byte) f h = h byte
char_answers _ f h = tt

bool_answers : (v : Val) (f : Bool → Option Effect) → ((b : Bool) → Answers (f b)) → Answers (at_bool v f)
bool_answers (Boolean b) f h = h b
bool_answers _ f h = tt

text_answers : (v : Val) (f : List ℕ → Option Effect) → ((bytes : List ℕ) → Answers (f bytes)) → Answers (at_text v f)
text_answers (Text bytes) f h = h bytes
text_answers _ f h = tt

two_answers : (vs : Vals) (ls : Labelled) (f : Val → Val → Option Effect) → ((v k : Val) → Answers (f v k))
    → Answers (at_two (Record vs ls) f)
two_answers no_vals ls f h = tt
two_answers (more_vals v no_vals) ls f h = tt
two_answers (more_vals v (more_vals k no_vals)) ls f h = h v k
two_answers (more_vals v (more_vals k (more_vals x vs))) ls f h = tt

three_answers : (vs : Vals) (ls : Labelled) (f : Val → Val → Val → Option Effect) → ((v w k : Val) → Answers (f v w k))
    → Answers (at_three (Record vs ls) f)
three_answers no_vals ls f h = tt
three_answers (more_vals v no_vals) ls f h = tt
three_answers (more_vals v (more_vals w no_vals)) ls f h = tt
three_answers (more_vals v (more_vals w (more_vals k no_vals))) ls f h = h v w k
three_answers (more_vals v (more_vals w (more_vals k (more_vals x vs)))) ls f h = tt

divided_answers : (b : ℤ) (o : Option Effect) → Answers o → Answers (divided_by b o)
divided_answers (pos zero) o h = λ no_trap. absurd (no_trap refl)
divided_answers (pos (suc n)) o h = h
divided_answers (negsuc n) o h = h

ruleset operands_answer = (two_answers, three_answers, int_answers, char_answers, bool_answers, text_answers, divided_answers)

record_answers : (p : Primitive) (vs : Vals) (ls : Labelled) → Answers (effect_of p (Record vs ls))
record_answers primitive.Print vs ls = tt
record_answers _ vs ls = search operands_answer depth 8

-- ---- blocks that are made

module _ (old new : QueuesState) where
  -- a primitive that takes a record and is no trap needs the block of its answer
  pub makes_answer : (p : Primitive) (vs : Vals) (ls : Labelled) (e : Effect) → effect_of p (Record vs ls) ≡ Some e → e.leaves ≢ Trap
      → MakesOnly old new (9 ∷ []) → MakesOnly old new (answer_widths e)
  makes_answer p vs ls e is no_trap makes =
      let widths : answer_widths e ≡ 9 ∷ [] = subst Answers is (record_answers p vs ls) no_trap in
      subst (λ (ws : List ℕ). MakesOnly old new ws) (sym widths) makes

  -- the same effect, found twice
  pub makes_same : (effect e : Effect) → Some effect ≡ Some e → MakesOnly old new (answer_widths effect)
      → MakesOnly old new (answer_widths e)
  makes_same effect e is makes = let same : effect ≡ e = cc in subst (λ (x : Effect). MakesOnly old new (answer_widths x)) same makes

-- the same effect, found twice
pub adds_same : (old new : Store) (effect e : Effect) → Some effect ≡ Some e → AddsAtMost old new (answer_need effect) → AddsAtMost old new (answer_need e)
adds_same old new effect e is adds = let same : effect ≡ e = cc in subst (λ (x : Effect). AddsAtMost old new (answer_need x)) same adds

none_of : (t : Bool) → (if t then 0 else 0) ≤ 0
none_of true = omega arith
none_of false = omega arith

-- an act's outputs are of the widths that its effect needs
needed_act : (h : HeapState) (a : Act) (width : ℕ) → (if width == 9 then outputs_of a else 0) ≤ how_many width (answer_widths (effect_act h a))
needed_act h (act.Print w) width = none_of (width == 9)
needed_act h (act.Answer k a) width = omega arith
needed_act h (act.PrintAnswer w k) width = omega arith
needed_act h (act.Join k a b) width = omega arith
needed_act h (act.Spell k n) width = omega arith
needed_act h act.ZeroDivisor width = none_of (width == 9)

-- room has been made for an act's outputs
pub makes_act : (old new : QueuesState) (h : HeapState) (a : Act) (count : ℕ) → count ≡ outputs_of a → LosesNoBlock old.region new.region
    → ((width : ℕ) → blocks new.region width ≤ blocks old.region width + ((if width == 9 then count else 0) - spare old.region width))
    → MakesOnly old new (answer_widths (effect_act h a))
makes_act old new h a count is least makes = record {
  least = least;
  most = λ width.
      let needed = subst (λ (n : ℕ). (if width == 9 then n else 0) ≤ how_many width (answer_widths (effect_act h a))) (sym is) (needed_act h a width) in
      let m = makes width in
      omega (arith, needed, m);
}

-- ---- room for an answer

-- where there is an answer, a block is free for its output
abbrev pub HasRoomToAnswer : QueuesState → Leaves → Type 0
HasRoomToAnswer q (Answer to answer) = 1 ≤ spare q.region 9
HasRoomToAnswer q _ = Unit {0}

module _ (q : QueuesState) where
  pub room_for_any : (l : Leaves) → 1 ≤ spare q.region 9 → HasRoomToAnswer q l
  room_for_any Nothing free = tt
  room_for_any (Answer to answer) free = free
  room_for_any Trap free = tt

  pub room_for_act : (h : HeapState) (a : Act) → outputs_of a ≤ spare q.region 9 → HasRoomToAnswer q (effect_act h a).leaves
  room_for_act h (act.Print w) free = tt
  room_for_act h (act.Answer k a) free = free
  room_for_act h (act.PrintAnswer w k) free = free
  room_for_act h (act.Join k a b) free = free
  room_for_act h (act.Spell k n) free = free
  room_for_act h act.ZeroDivisor free = tt
