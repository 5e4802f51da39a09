use Rattle.std.proofs.Common.{◌≡◌, None, refl, sym, ap}
use Rattle.pict_heap.specs.HeapState.{HeapState, value_of}
use Rattle.pict_heap.specs.declared.word.Word.{Word}
use Rattle.pict_heap.specs.declared.word.Word.TheVariants as word
use Rattle.pict_heap.proofs.Records.{record_is}
use Rattle.pict_syntax.specs.declared.primitive.Primitive.{Primitive}
use Rattle.pict_machine.specs.Wrong.{primitive_named}
use Rattle.pict_machine.proofs.wrong.primitive_of.Goals as goal

no_primitive : (h : HeapState) (w : Word) → ((p : Primitive) → w ≡ word.Prim p → ⊥) → None ≡ primitive_named (value_of h w)
no_primitive h (word.Prim p) other = absurd (other p refl)
no_primitive h (word.Int n) other = refl
no_primitive h (word.Char n) other = refl
no_primitive h (word.Bool n) other = refl
no_primitive h (word.Chan n) other = refl
no_primitive h (word.Text n) other = refl
no_primitive h (word.Fields n) other = let r = record_is h n in sym (ap primitive_named r.2)

pub returns-in_default : goal.returns-in_default
returns-in_default c h = no_primitive h c.args.word c.in_default.not-Prim
