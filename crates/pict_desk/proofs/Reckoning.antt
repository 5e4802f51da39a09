-- Arguments as operands: what stays of them, their labels, and room for a call.
use Rattle.std.proofs.Common.{◌≡◌, ◌≤◌, ◌-◌, ◌++◌, ℕ, List, [], ◌∷◌, length, map, get_or, take, drop, max, Option, Vec, Global, refl, sym, ap, ◌∙◌, arith, length-append}
use Rattle.std.proofs.lemmas.List.Elements.{All-from_recursion}
use Rattle.pict_syntax.specs.declared.primitive.Primitive.{Primitive}
use Rattle.pict_syntax.specs.declared.primitive.Primitive.TheVariants as primitive
use Rattle.pict_syntax.specs.declared.name.Name.{Name}
use Rattle.pict_core.specs.Plain.{plain_val, plain_field, vals_of, labelled_of}
use Rattle.pict_core.specs.Substitution.{replace_labelled}
use Rattle.pict_core.specs.Primitives.{Effect, effect_of, at_two, at_three}
use Rattle.pict_core.specs.Term.{Val, Vals, Labelled, Record, no_vals, more_vals}
use Rattle.pict_core.specs.declared.value.CoreVal.{CoreVal}
use Rattle.pict_core.specs.declared.value.CoreVal.TheVariants as value
use Rattle.pict_desk.specs.Known.{pair_at, value_in, known, operand_value}
use Rattle.pict_heap.specs.HeapState.{HeapState, value_of, text_of, IsWord}
use Rattle.pict_heap.specs.declared.word.Word.{Word}
use Rattle.pict_prim.specs.Acts.{effect_act, need_of, HasRoom, UsesNeed}
use Rattle.pict_prim.specs.declared.act.Act.{Act}
use Rattle.pict_prim.specs.declared.act.Act.TheVariants as act
use Rattle.pict_prim.specs.declared.act.Need.{Need}
use Rattle.pict_desk.specs.declared.pending.Pending.{Pending}
use Rattle.pict_desk.specs.AtHand.{IsWordFor}
use Rattle.pict_desk.specs.Needs.{both_needs, fields_need, HasRoomFor, PilesWords}
use Rattle.pict_desk.proofs.Recording.{record_val, slice_top}
use Rattle.pict_desk.proofs.Making.{levels_replaced, vals_replaced}
use Rattle.pict_desk.specs.Room.{KeepsHeap}
use Rattle.pict_desk.specs.declared.desk.Desk.{Desk}
use Rattle.pict_desk.proofs.MakingRoom.{value_kept}
use Rattle.pict_desk.specs.Arguments.{operand_in, argument_of, AreWordsFor, AnswersAtMost, call_need}

-- ---- labels count nothing

two_same : (vs : Vals) (ls ms : Labelled) (f : Val → Val → Option Effect) → at_two (Record vs ls) f ≡ at_two (Record vs ms) f
two_same no_vals ls ms f = refl
two_same (more_vals v no_vals) ls ms f = refl
two_same (more_vals v (more_vals w no_vals)) ls ms f = refl
two_same (more_vals v (more_vals w (more_vals x vs))) ls ms f = refl

three_same : (vs : Vals) (ls ms : Labelled) (f : Val → Val → Val → Option Effect) → at_three (Record vs ls) f ≡ at_three (Record vs ms) f
three_same no_vals ls ms f = refl
three_same (more_vals v no_vals) ls ms f = refl
three_same (more_vals v (more_vals w no_vals)) ls ms f = refl
three_same (more_vals v (more_vals w (more_vals x no_vals))) ls ms f = refl
three_same (more_vals v (more_vals w (more_vals x (more_vals y vs)))) ls ms f = refl

pub labels_same : (p : Primitive) (vs : Vals) (ls ms : Labelled) → effect_of p (Record vs ls) ≡ effect_of p (Record vs ms)
labels_same primitive.Print vs ls ms = refl
labels_same _ vs ls ms = search (two_same, three_same)

-- ---- arguments

argument_by : (ℕ → ℕ → Val) → List (ℕ × ℕ) → List CoreVal → Labelled → Val
argument_by words values fields labelled =
    Record (vals_of (map (λ v. operand_value (λ level. words (pair_at values level).0 (pair_at values level).1) (plain_val v)) fields)) labelled

-- an argument is the same once room is made
pub argument_kept : (old new : Desk) → KeepsHeap old.heap new.heap → new.values.items ≡ old.values.items → (fields : List CoreVal) (labelled : Labelled)
    → argument_of new.heap new.values.items fields labelled ≡ argument_of old.heap old.values.items fields labelled
unfolding argument_by
argument_kept old new keeps values fields labelled =
    ap (λ words. argument_by words new.values.items fields labelled) (value_kept old.heap new.heap keeps) ∙ ap (λ vs. argument_by (value_in old.heap) vs fields labelled) values

-- the words that were piled for the fields are the argument
pub piled_argument : (h0 h1 : HeapState) (old new : Pending) (values : List (ℕ × ℕ)) (fields : List CoreVal) (labelled : Labelled) (n : ℕ) (all : List Word)
    → PilesWords h1 old new (map (λ v. operand_in h0 values (plain_val v)) fields) → n ≡ length old.words.items → all ≡ new.words.items
    → Record (vals_of (map (value_of h1) (take (length all - n) (drop n all)))) labelled ≡ argument_of h0 values fields labelled
piled_argument h0 h1 old new values fields labelled n all piled start is =
    ap (λ ws. Record (vals_of (map (value_of h1) ws)) labelled) (slice_top n all old.words.items piled.made start (is ∙ piled.words))
    ∙ ap (λ vs. Record (vals_of vs) labelled) piled.stand

-- the labelled fields of an operand, with the values of the levels
abbrev pub labels_of : HeapState → List (ℕ × ℕ) → List (Name × CoreVal) → Labelled
labels_of h values fields = replace_labelled (levels_replaced (known h values)) (labelled_of (map plain_field fields))

-- the value of an operand that is a record
pub made_argument : (h : HeapState) (values : List (ℕ × ℕ)) (m : CoreVal) (p : Vec CoreVal Global) (l : Vec (Name × CoreVal) Global) (positional : List CoreVal)
    → m ≡ value.Fields p l → positional ≡ p.items → operand_in h values (plain_val m) ≡ argument_of h values positional (labels_of h values l.items)
made_argument h values m p l positional is fields =
    ap (operand_in h values) (record_val m p l positional l.items is fields refl) ∙ ap (λ vs. Record vs (labels_of h values l.items)) (sym (vals_replaced (known h values) positional))

-- ---- room

-- what an act needs that answers a text of at most so many bytes
record IsNeededAtMost (need : Need) (bytes : ℕ) : Type 0 where
  records : need.records ≤ 1
  fields : need.fields ≤ 0
  texts : need.texts ≤ 1
  bytes_are : need.bytes ≤ max bytes 20

at_most : (h : HeapState) (a : Act) (n : ℕ) → AnswersAtMost n (effect_act h a) → IsNeededAtMost (need_of h a) n
at_most h (act.Print w) n most = record { records = omega arith; fields = omega arith; texts = omega arith; bytes_are = omega arith }
at_most h (act.Answer k a) n most = record { records = omega arith; fields = omega arith; texts = omega arith; bytes_are = omega arith }
at_most h (act.PrintAnswer w k) n most = record { records = omega arith; fields = omega arith; texts = omega arith; bytes_are = omega arith }
at_most h (act.Join k a b) n most =
    let few : length (text_of h a ++ text_of h b) ≤ n = most (value_of h k) (text_of h a ++ text_of h b) refl in
    record { records = omega arith; fields = omega arith; texts = omega arith; bytes_are = omega (arith, few, length-append (text_of h a) (text_of h b)) }
at_most h (act.Spell k n') n most = record { records = omega arith; fields = omega arith; texts = omega arith; bytes_are = omega arith }
at_most h act.ZeroDivisor n most = record { records = omega arith; fields = omega arith; texts = omega arith; bytes_are = omega arith }

-- once the fields' words are made there is room for the act
pub room_then : (h0 h1 : HeapState) (pending : Pending) (a : Act) (fields bytes : ℕ) (needs : Need) → HasRoomFor h0 pending (both_needs (call_need fields bytes) needs) → UsesNeed h0.room h1.room needs
    → AnswersAtMost bytes (effect_act h1 a) → HasRoom h1.room (need_of h1 a)
room_then h0 h1 pending a fields bytes needs room used most =
    let m = at_most h1 a bytes most in
    record {
      records = let e = room.heap.records in let f = used.records_left in let g = m.records in omega (arith, e, f, g);
      fields = let g = m.fields in omega (arith, g);
      texts = let e = room.heap.texts in let f = used.texts_left in let g = m.texts in omega (arith, e, f, g);
      bytes = let e = room.heap.bytes in let f = used.bytes_left in let g = m.bytes_are in omega (arith, e, f, g);
    }

-- there is room for the fields' words
pub room_first : (h : HeapState) (pending : Pending) (fields bytes : ℕ) (needs : Need) → HasRoomFor h pending (both_needs (call_need fields bytes) needs) → HasRoomFor h pending (both_needs (fields_need fields) needs)
room_first h pending fields bytes needs room = record {
  heap = record {
    records = let e = room.heap.records in omega (arith, e);
    fields = room.heap.fields;
    texts = let e = room.heap.texts in omega (arith, e);
    bytes = let e = room.heap.bytes in omega (arith, e);
  };
  words = room.words;
  labelled = room.labelled;
  countable = room.countable;
}

-- ---- words at hand

module _ (h : HeapState) (values : List (ℕ × ℕ)) where
  pub two_words : (fields : List CoreVal) (x y : CoreVal) (v k : Word) → length fields ≡ 2 → x ≡ get_or fields 0 x → y ≡ get_or fields 1 y
      → IsWordFor h (operand_in h values (plain_val x)) v → IsWordFor h (operand_in h values (plain_val y)) k → AreWordsFor h values fields (v ∷ k ∷ [])
  two_words [] x y v k n i j a b = cc
  two_words (p ∷ []) x y v k n i j a b = cc
  two_words (p ∷ q ∷ []) x y v k n i j a b = record { are = All-from_recursion (IsWord h) (v ∷ k ∷ []) (a.word, (b.word, tt)); stand = cc (a.value, b.value, i, j) }
  two_words (p ∷ q ∷ r ∷ fields) x y v k n i j a b = absurd (omega arith)

  pub three_words : (fields : List CoreVal) (x y z : CoreVal) (v w k : Word) → length fields ≡ 3 → x ≡ get_or fields 0 x → y ≡ get_or fields 1 y → z ≡ get_or fields 2 z
      → IsWordFor h (operand_in h values (plain_val x)) v → IsWordFor h (operand_in h values (plain_val y)) w → IsWordFor h (operand_in h values (plain_val z)) k
      → AreWordsFor h values fields (v ∷ w ∷ k ∷ [])
  three_words [] x y z v w k n i j l a b c = cc
  three_words (p ∷ []) x y z v w k n i j l a b c = absurd (omega arith)
  three_words (p ∷ q ∷ []) x y z v w k n i j l a b c = absurd (omega arith)
  three_words (p ∷ q ∷ r ∷ []) x y z v w k n i j l a b c =
      record { are = All-from_recursion (IsWord h) (v ∷ w ∷ k ∷ []) (a.word, (b.word, (c.word, tt))); stand = cc (a.value, b.value, c.value, i, j, l) }
  three_words (p ∷ q ∷ r ∷ s ∷ fields) x y z v w k n i j l a b c = absurd (omega arith)
