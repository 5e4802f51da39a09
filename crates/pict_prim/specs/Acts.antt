-- What a primitive is about to do with words of a heap, what it then did, and what it needs of the heap.
use Rattle.std.specs.Prelude.{◌+◌, ◌≤◌, length, ◌++◌, None, IsSome}
use Rattle.std.specs.Fmt.{signed_decimal}
use Rattle.pict_core.specs.Term.{Text, Record, no_vals, no_labelled}
use Rattle.pict_core.specs.Primitives.{Effect, Leaves, Nothing, Answer, Trap}
use Rattle.pict_heap.specs.Fields.{text_bytes}
use Rattle.pict_heap.specs.HeapState.{HeapState, Room, value_of, text_of, IsWord, UsesRoom}
use Rattle.pict_heap.specs.declared.word.Word.{Word}
use Rattle.pict_prim.specs.Printed.{printed_of}
use Rattle.pict_prim.specs.declared.act.Act.{Act}
use Rattle.pict_prim.specs.declared.act.Act.TheVariants as act
use Rattle.pict_prim.specs.declared.act.Done.{Done}
use Rattle.pict_prim.specs.declared.act.Done.TheVariants as done
use Rattle.pict_prim.specs.declared.act.Need.{Need}

-- the effect that an act is to have
abbrev pub effect_act : HeapState → Act → Effect
effect_act h (act.Print w) = record { printed = printed_of (value_of h w); leaves = Nothing }
effect_act h (act.Answer k a) = record { printed = None; leaves = Answer (value_of h k) (value_of h a) }
effect_act h (act.PrintAnswer w k) = record { printed = printed_of (value_of h w); leaves = Answer (value_of h k) (Record no_vals no_labelled) }
effect_act h (act.Join k a b) = record { printed = None; leaves = Answer (value_of h k) (Text (text_of h a ++ text_of h b)) }
effect_act h (act.Spell k n) = record { printed = None; leaves = Answer (value_of h k) (Text (signed_decimal n)) }
effect_act h act.ZeroDivisor = record { printed = None; leaves = Trap }

-- a text or a number of the heap
pub record IsPrinted (h : HeapState) (w : Word) : Type 0 where
  pub word : IsWord h w
  pub printed : IsSome (printed_of (value_of h w))

-- a text of the heap
pub record IsTextWord (h : HeapState) (w : Word) : Type 0 where
  pub word : IsWord h w
  pub text : IsSome (text_bytes (value_of h w))

-- The words of an act are words of the heap, and what it prints or joins are texts or numbers.
abbrev pub IsActOf : HeapState → Act → Type 0
IsActOf h (act.Print w) = IsPrinted h w
IsActOf h (act.Answer k a) = IsWord h k × IsWord h a
IsActOf h (act.PrintAnswer w k) = IsPrinted h w × IsWord h k
IsActOf h (act.Join k a b) = IsWord h k × IsTextWord h a × IsTextWord h b
IsActOf h (act.Spell k n) = IsWord h k
IsActOf h act.ZeroDivisor = Unit {0}

-- the effect that it had
abbrev pub effect_done : HeapState → Done → Effect
effect_done h (done.Printed w) = record { printed = printed_of (value_of h w); leaves = Nothing }
effect_done h (done.Answer k a) = record { printed = None; leaves = Answer (value_of h k) (value_of h a) }
effect_done h (done.PrintedAnswer w k a) = record { printed = printed_of (value_of h w); leaves = Answer (value_of h k) (value_of h a) }
effect_done h done.ZeroDivisor = record { printed = None; leaves = Trap }

abbrev pub IsDoneOf : HeapState → Done → Type 0
IsDoneOf h (done.Printed w) = IsPrinted h w
IsDoneOf h (done.Answer k a) = IsWord h k × IsWord h a
IsDoneOf h (done.PrintedAnswer w k a) = IsPrinted h w × IsWord h k × IsWord h a
IsDoneOf h done.ZeroDivisor = Unit {0}

-- For what an act needs room in the heap. A decimal text is given room for the longest, of twenty bytes.
abbrev pub need_of : HeapState → Act → Need
need_of h (act.PrintAnswer w k) = record { records = 1; fields = 0; texts = 0; bytes = 0 }
need_of h (act.Join k a b) = record { records = 0; fields = 0; texts = 1; bytes = length (text_of h a) + length (text_of h b) }
need_of h (act.Spell k n) = record { records = 0; fields = 0; texts = 1; bytes = 20 }
need_of h _ = record { records = 0; fields = 0; texts = 0; bytes = 0 }

-- What an effect needs of a heap: an answer that is a text needs this text, one that is a record needs the record without fields, and
-- any other nothing.
abbrev pub leaves_need : Leaves → Need
leaves_need (Answer k (Text bytes)) = record { records = 0; fields = 0; texts = 1; bytes = length bytes }
leaves_need (Answer k (Record vs ls)) = record { records = 1; fields = 0; texts = 0; bytes = 0 }
leaves_need _ = record { records = 0; fields = 0; texts = 0; bytes = 0 }

abbrev pub answer_need : Effect → Need
answer_need e = leaves_need e.leaves

-- it adds nothing
abbrev pub AddsNothing : Act → Type 0
AddsNothing (act.PrintAnswer w k) = ⊥
AddsNothing (act.Join k a b) = ⊥
AddsNothing (act.Spell k n) = ⊥
AddsNothing _ = Unit {0}

-- there is room for it
pub record HasRoom (room : Room) (need : Need) : Type 0 where
  pub records : need.records ≤ room.records
  pub fields : need.fields ≤ room.fields
  pub texts : need.texts ≤ room.texts
  pub bytes : need.bytes ≤ room.bytes

-- no more room than for this has been used, and there is no more than this more
abbrev pub UsesNeed : Room → Room → Need → Type 0
UsesNeed old new need = UsesRoom old new need.records need.fields need.texts need.bytes
