-- What primitives do, as deeds.
use Rattle.std.proofs.Common.{ℕ, ◌≡◌, List, [], Ok, refl, sym, ap, ◌∙◌, subst, Option, Some, None, IsSome}
use Rattle.pict_syntax.specs.declared.primitive.Primitive.{Primitive}
use Rattle.pict_syntax.specs.declared.primitive.Primitive.TheVariants as primitive
use Rattle.pict_syntax.specs.declared.span.Span.{Span}
use Rattle.pict_core.specs.Term.{Val, Text, Zero, Out}
use Rattle.pict_core.specs.Deed as deeds
use Rattle.pict_core.specs.Deed.{leaves}
use Rattle.pict_core.specs.Primitives.{Effect, Leaves, Nothing, Answer, Trap, answers, effect_of}
use Rattle.pict_core.specs.Step.{Label, Quiet, printing}
use Rattle.pict_heap.specs.Fields.{text_bytes}
use Rattle.pict_heap.specs.HeapState.{HeapState, value_of, text_of, KeepsWords}
use Rattle.pict_heap.specs.declared.word.Word.{Word}
use Rattle.pict_prim.specs.Acts.{effect_act, effect_done, need_of, IsActOf, IsDoneOf, IsPrinted, IsTextWord}
use Rattle.pict_prim.specs.Printed.{printed_of}
use Rattle.pict_prim.specs.declared.act.Act.{Act}
use Rattle.pict_prim.specs.declared.act.Act.TheVariants as act
use Rattle.pict_prim.specs.declared.act.Done.TheVariants as done
use Rattle.pict_desk.specs.Constants.{OnlyMakes}
use Rattle.pict_desk.specs.Kept.{IsOutput}
use Rattle.pict_desk.specs.Known.{pair_at, value_in, known, operand_value}
use Rattle.pict_desk.specs.Needs.{IsMade}
use Rattle.pict_desk.specs.Room.{OnlyMakesRoom}
use Rattle.pict_desk.specs.declared.desk.Desk.{Desk}
use Rattle.pict_desk.specs.declared.kept.Kept.{Kept}
use Rattle.pict_desk.proofs.Making.{keeps_more}
use Rattle.pict_desk.proofs.MakingRoom.{keeps_words, piles_kept, uses_nothing, value_kept}
use Rattle.pict_picker.specs.Calling.{HasEffect}
use Rattle.pict_picker.specs.Deeds.{IsUndone}
use Rattle.pict_picker.specs.Waiting.{kept_process}
use Rattle.pict_picker.specs.declared.deed.Deed.{Deed}
use Rattle.pict_picker.specs.declared.deed.Deed.TheVariants as deed
use Rattle.pict_picker.specs.declared.waiting.Waiting.TheVariants.{Output}

-- ---- what is done

-- the bytes that a word prints, if it is there
abbrev bytes_shown : HeapState → Option Word → Option (List ℕ)
bytes_shown h None = None
bytes_shown h (Some w) = printed_of (value_of h w)

-- an output of kept words is that of its values
kept_output : (h : HeapState) (to message : Val) (at : Span) (kept : Kept) → IsOutput h to message at kept → kept_process h kept ≡ Out to message at
kept_output h to message at kept o =
    ap (λ v. Out v (value_in h kept.message.0 kept.message.1) kept.at) o.to_is ∙ ap (λ v. Out to v kept.at) o.message_is ∙ ap (Out to message) o.at_is

module _ (h : HeapState) (at : Span) where
  answer_effect : (to answer : Val) (kept : Kept) → IsOutput h to answer at kept → HasEffect h (record { printed = None; leaves = Answer to answer }) at (deed.Keeps (Output kept) None)
  answer_effect to answer kept o = record {
    is = λ core lists j own. ap (λ p. deeds.Keeps p Quiet) (kept_output h to answer at kept o);
    fits = λ core lists j own. (record { to = o.to_pair; message = o.message_pair }, tt);
  }

  pub acted_printed : (w : Word) (e : Effect) → effect_done h (done.Printed w) ≡ e → IsDoneOf h (done.Printed w) → HasEffect h e at (deed.Ends (Some w))
  acted_printed w e is words = subst (λ (x : Effect). HasEffect h x at (deed.Ends (Some w))) is (record { is = λ core lists j own. refl; fits = λ core lists j own. words })

  pub acted_answer : (k a : Word) (e : Effect) (kept : Kept) → effect_done h (done.Answer k a) ≡ e → IsOutput h (value_of h k) (value_of h a) at kept → HasEffect h e at (deed.Keeps (Output kept) None)
  acted_answer k a e kept is o = subst (λ (x : Effect). HasEffect h x at (deed.Keeps (Output kept) None)) is (answer_effect (value_of h k) (value_of h a) kept o)

  pub acted_printed_answer : (w k a : Word) (e : Effect) (kept : Kept) → effect_done h (done.PrintedAnswer w k a) ≡ e → IsPrinted h w → IsOutput h (value_of h k) (value_of h a) at kept
      → HasEffect h e at (deed.Keeps (Output kept) (Some w))
  acted_printed_answer w k a e kept is printed o =
      subst (λ (x : Effect). HasEffect h x at (deed.Keeps (Output kept) (Some w))) is (record {
        is = λ core lists j own. ap (λ p. deeds.Keeps p (printing (printed_of (value_of h w)))) (kept_output h (value_of h k) (value_of h a) at kept o);
        fits = λ core lists j own. (record { to = o.to_pair; message = o.message_pair }, printed);
      })

  pub acted_stops : (e : Effect) → effect_done h done.ZeroDivisor ≡ e → HasEffect h e at (deed.Stops at)
  acted_stops e is = subst (λ (x : Effect). HasEffect h x at (deed.Stops at)) is (record { is = λ core lists j own. refl; fits = λ core lists j own. tt })

  -- an answer that is known before the words of its operands are made
  pub at_hand : (p : Primitive) (v to answer : Val) (kept : Kept) (e : Effect) → effect_of p v ≡ answers to answer → IsOutput h to answer at kept → effect_of p v ≡ Some e
      → HasEffect h e at (deed.Keeps (Output kept) None)
  at_hand p v to answer kept e is o effect =
      let both : answers to answer ≡ Some e = sym is ∙ effect in
      let same : record { printed = None; leaves = Answer to answer } ≡ e = cc in
      subst (λ (x : Effect). HasEffect h x at (deed.Keeps (Output kept) None)) same (answer_effect to answer kept o)

-- ---- where the heap keeps its words

module _ (old new : HeapState) (keeps : KeepsWords old new) where
  printed_keeps : (w : Word) → IsPrinted old w → IsPrinted new w
  printed_keeps w p = record { word = keeps.words w p.word; printed = subst (λ v. IsSome (printed_of v)) (sym (keeps.values w p.word)) p.printed }

  text_keeps : (w : Word) → IsTextWord old w → IsTextWord new w
  text_keeps w t = record { word = keeps.words w t.word; text = subst (λ v. IsSome (text_bytes v)) (sym (keeps.values w t.word)) t.text }

  pub act_keeps : (a : Act) → IsActOf old a → IsActOf new a
  act_keeps (act.Print w) is = printed_keeps w is
  act_keeps (act.Answer k a) is = (keeps.words k is.0, keeps.words a is.1)
  act_keeps (act.PrintAnswer w k) is = (printed_keeps w is.0, keeps.words k is.1)
  act_keeps (act.Join k a b) is = (keeps.words k is.0, text_keeps a is.1, text_keeps b is.2)
  act_keeps (act.Spell k n) is = keeps.words k is
  act_keeps act.ZeroDivisor is = tt

  text_same : (w : Word) → IsTextWord old w → text_of new w ≡ text_of old w
  text_same w t = cc (keeps.values w t.word)

  pub effect_keeps : (a : Act) → IsActOf old a → effect_act new a ≡ effect_act old a
  effect_keeps (act.Print w) is = cc (keeps.values w is.word)
  effect_keeps (act.Answer k a) is = cc (keeps.values k is.0, keeps.values a is.1)
  effect_keeps (act.PrintAnswer w k) is = cc (keeps.values w is.0.word, keeps.values k is.1)
  effect_keeps (act.Join k a b) is = cc (keeps.values k is.0, text_same a is.1, text_same b is.2)
  effect_keeps (act.Spell k n) is = cc (keeps.values k is)
  effect_keeps act.ZeroDivisor is = refl

  pub need_keeps : (a : Act) → IsActOf old a → need_of new a ≡ need_of old a
  need_keeps (act.Print w) is = refl
  need_keeps (act.Answer k a) is = refl
  need_keeps (act.PrintAnswer w k) is = refl
  need_keeps (act.Join k a b) is = cc (text_same a is.1, text_same b is.2)
  need_keeps (act.Spell k n) is = refl
  need_keeps act.ZeroDivisor is = refl

-- only `print` takes a text
pub of_text : (p : Primitive) (bytes : List ℕ) (e : Effect) → effect_of p (Text bytes) ≡ Some e → effect_of primitive.Print (Text bytes) ≡ Some e
of_text primitive.Print bytes e is = is
of_text _ bytes e is = cc

-- ---- words that are made

-- nothing has changed
pub room_stays : (d : Desk) → OnlyMakesRoom d d
room_stays d = record { heap = record { texts = refl; records = refl }; room = uses_nothing d.heap.room; pending = piles_kept d.pending; values = refl }

module _ (old mid : Desk) (r : OnlyMakesRoom old mid) where
  pub makes_room : OnlyMakes old mid
  makes_room = record { words = keeps_words old.heap mid.heap r.heap; values = ap (λ v. v.items) r.values }

  -- the value of an operand is what it was
  pub operand_stays : (v : Val) → operand_value (known mid.heap mid.values.items) v ≡ operand_value (known old.heap old.values.items) v
  operand_stays v =
      ap (λ (value : ℕ → ℕ → Val). operand_value (λ level. value (pair_at mid.values.items level).0 (pair_at mid.values.items level).1) v) (value_kept old.heap mid.heap r.heap)
      ∙ ap (λ (vs : List (ℕ × ℕ)). operand_value (known old.heap vs) v) (ap (λ v. v.items) r.values)

  pub made_then : (new : HeapState) (w : Word) (v : Val) → IsMade mid.heap new w (operand_value (known mid.heap mid.values.items) v)
      → IsMade old.heap new w (operand_value (known old.heap old.values.items) v)
  made_then new w v m = record {
    word = m.word;
    value = m.value ∙ operand_stays v;
    keeps = keeps_more old.heap mid.heap new (keeps_words old.heap mid.heap r.heap) m.keeps;
  }

-- the same effect, found twice
pub same_effect : (x e : Effect) (o : Option Effect) → o ≡ Some x → o ≡ Some e → x ≡ e
same_effect x e o f g = let both : Some x ≡ Some e = sym f ∙ g in cc

pub no_effect : (o : Option Effect) → o ≡ None → IsSome o → ⊥
no_effect None e some = cc
no_effect (Some x) e some = cc

-- ---- where nothing is done

stops_leave : (at span : Span) (label : Label) (l : Leaves) → deeds.Stops span ≡ leaves at label l → l ≡ Trap
stops_leave at span label Nothing e = cc
stops_leave at span label (Answer k a) e = cc
stops_leave at span label Trap e = refl

-- a deed that is undone has a trap for its effect
pub undone_traps : (h : HeapState) (e : Effect) (at : Span) (d : Deed) → HasEffect h e at d → IsUndone (Ok d) → e.leaves ≡ Trap
undone_traps h e at (deed.Stops span) has u = stops_leave at span (printing e.printed) e.leaves (has.is Zero [] 0 Zero)
undone_traps h e at (deed.Ends word) has u = absurd u
undone_traps h e at (deed.Keeps w word) has u = absurd u
undone_traps h e at (deed.Forks left right) has u = absurd u
undone_traps h e at (deed.Opens part) has u = absurd u
undone_traps h e at (deed.Waits c) has u = absurd u
undone_traps h e at (deed.Parks c kept) has u = absurd u
undone_traps h e at (deed.Serves c m b body) has u = absurd u
undone_traps h e at (deed.Takes c m b body) has u = absurd u

traps_zero : (h : HeapState) (a : Act) → (effect_act h a).leaves ≡ Trap → a ≡ act.ZeroDivisor
traps_zero h (act.Print w) e = cc
traps_zero h (act.Answer k a) e = cc
traps_zero h (act.PrintAnswer w k) e = cc
traps_zero h (act.Join k a b) e = cc
traps_zero h (act.Spell k n) e = cc
traps_zero h act.ZeroDivisor e = refl

-- a trap is a deed that stops
pub trap_stops : (h : HeapState) (e : Effect) (at : Span) → e.leaves ≡ Trap → HasEffect h e at (deed.Stops at)
trap_stops h e at trap = record { is = λ core lists j own. ap (leaves at (printing e.printed)) (sym trap); fits = λ core lists j own. tt }

-- and the act divides by zero
pub undone_zero : (old new : HeapState) (a : Act) (at : Span) (d : Deed) → HasEffect new (effect_act old a) at d → IsUndone (Ok d) → a ≡ act.ZeroDivisor
undone_zero old new a at d has u = traps_zero old a (undone_traps new (effect_act old a) at d has u)
