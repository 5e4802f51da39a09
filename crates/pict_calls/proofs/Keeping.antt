-- Acts of primitives, where the heap keeps its words.
use Rattle.std.proofs.Common.{◌≡◌, refl, sym, subst, IsSome}
use Rattle.pict_core.specs.Primitives.{Trap}
use Rattle.pict_heap.specs.Fields.{text_bytes}
use Rattle.pict_heap.specs.HeapState.{HeapState, text_of, KeepsWords}
use Rattle.pict_heap.specs.declared.word.Word.{Word}
use Rattle.pict_prim.specs.Acts.{effect_act, need_of, IsActOf, IsPrinted, IsTextWord}
use Rattle.pict_prim.specs.Printed.{printed_of}
use Rattle.pict_prim.specs.declared.act.Act.{Act}
use Rattle.pict_prim.specs.declared.act.Act.TheVariants as act

module _ (old new : HeapState) (keeps : KeepsWords old new) where
  printed_keeps : (w : Word) → IsPrinted old w → IsPrinted new w
  printed_keeps w p = record { word = keeps.words w p.word; printed = subst (λ v. IsSome (printed_of v)) (sym (keeps.values w p.word)) p.printed }

  text_keeps : (w : Word) → IsTextWord old w → IsTextWord new w
  text_keeps w t = record { word = keeps.words w t.word; text = subst (λ v. IsSome (text_bytes v)) (sym (keeps.values w t.word)) t.text }

  pub act_keeps : (a : Act) → IsActOf old a → IsActOf new a
  act_keeps (act.Print w) is = printed_keeps w is
  act_keeps (act.Answer k a) is = (keeps.words k is.0, keeps.words a is.1)
  act_keeps (act.PrintAnswer w k) is = (printed_keeps w is.0, keeps.words k is.1)
  act_keeps (act.Join k a b) is = (keeps.words k is.0, text_keeps a is.1, text_keeps b is.2)
  act_keeps (act.Spell k n) is = keeps.words k is
  act_keeps act.ZeroDivisor is = tt

  text_same : (w : Word) → IsTextWord old w → text_of new w ≡ text_of old w
  text_same w t = cc (keeps.values w t.word)

  pub effect_keeps : (a : Act) → IsActOf old a → effect_act new a ≡ effect_act old a
  effect_keeps (act.Print w) is = cc (keeps.values w is.word)
  effect_keeps (act.Answer k a) is = cc (keeps.values k is.0, keeps.values a is.1)
  effect_keeps (act.PrintAnswer w k) is = cc (keeps.values w is.0.word, keeps.values k is.1)
  effect_keeps (act.Join k a b) is = cc (keeps.values k is.0, text_same a is.1, text_same b is.2)
  effect_keeps (act.Spell k n) is = cc (keeps.values k is)
  effect_keeps act.ZeroDivisor is = refl

  pub need_keeps : (a : Act) → IsActOf old a → need_of new a ≡ need_of old a
  need_keeps (act.Print w) is = refl
  need_keeps (act.Answer k a) is = refl
  need_keeps (act.PrintAnswer w k) is = refl
  need_keeps (act.Join k a b) is = cc (text_same a is.1, text_same b is.2)
  need_keeps (act.Spell k n) is = refl
  need_keeps act.ZeroDivisor is = refl

-- the effect of an act is a trap only where it divides by zero
pub trap_is : (h : HeapState) (a : Act) → (effect_act h a).leaves ≡ Trap → a ≡ act.ZeroDivisor
trap_is h (act.Print w) e = cc
trap_is h (act.Answer k a) e = cc
trap_is h (act.PrintAnswer w k) e = cc
trap_is h (act.Join k a b) e = cc
trap_is h (act.Spell k n) e = cc
trap_is h act.ZeroDivisor e = refl
