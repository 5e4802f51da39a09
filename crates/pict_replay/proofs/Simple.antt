-- Which values words stand for that are neither texts nor records.
use Rattle.std.proofs.Common.{ℕ, ◌≡◌, ◌⊎◌, inl, inr, List, refl, sym, ap, ◌∙◌, Option, Some, None}
use Rattle.pict_core.specs.Term.{Val, Var, Chan, Int, Char, Boolean, Text, PrimitiveVal, Record}
use Rattle.pict_heap.specs.Fields.{text_bytes}
use Rattle.pict_heap.specs.HeapState.{HeapState, value_of}
use Rattle.pict_heap.specs.declared.word.Word.{Word}
use Rattle.pict_heap.specs.declared.word.Word.TheVariants as word
use Rattle.pict_heap.specs.Packed.{packed, unpacked, FitsWord}
use Rattle.pict_heap.proofs.Records.{record_is}
use Rattle.pict_desk.proofs.Pairs.{packed_back}
use Rattle.pict_replay.specs.Words.{IsSimple}

-- the word of a value that is one by itself
abbrev word_of : Val → Option Word
word_of (Chan n) = Some (word.Chan n)
word_of (Int n) = Some (word.Int n)
word_of (Char n) = Some (word.Char n)
word_of (Boolean n) = Some (word.Bool n)
word_of (PrimitiveVal n) = Some (word.Prim n)
word_of _ = None

module _ (h : HeapState) where
  of_simple : (w : Word) → IsSimple w → word_of (value_of h w) ≡ Some w
  of_simple (word.Int n) k = refl
  of_simple (word.Char n) k = refl
  of_simple (word.Bool n) k = refl
  of_simple (word.Chan n) k = refl
  of_simple (word.Prim n) k = refl
  of_simple (word.Text n) k = absurd k
  of_simple (word.Fields n) k = absurd k

  of_any : (w : Word) → (word_of (value_of h w) ≡ Some w) ⊎ (word_of (value_of h w) ≡ None)
  of_any (word.Int n) = inl refl
  of_any (word.Char n) = inl refl
  of_any (word.Bool n) = inl refl
  of_any (word.Chan n) = inl refl
  of_any (word.Prim n) = inl refl
  of_any (word.Text n) = inr refl
  of_any (word.Fields n) = inr (ap word_of (record_is h n).2)

  -- what a simple word stands for no other word does
  pub same_simple : (w s : Word) → IsSimple s → value_of h w ≡ value_of h s → w ≡ s
  same_simple w s k e = elim (of_any w) [
    | inl f ↦ let g : Some w ≡ Some s = sym f ∙ ap word_of e ∙ of_simple s k in cc
    | inr f ↦ let g : None ≡ Some s = sym f ∙ ap word_of e ∙ of_simple s k in cc
  ]

  -- no word stands for a variable
  pub no_variable : (w : Word) (level : ℕ) → value_of h w ≡ Var level → ⊥
  no_variable (word.Int n) level e = cc
  no_variable (word.Char n) level e = cc
  no_variable (word.Bool n) level e = cc
  no_variable (word.Chan n) level e = cc
  no_variable (word.Prim n) level e = cc
  no_variable (word.Text n) level e = cc
  no_variable (word.Fields n) level e = let r = record_is h n in let f : Record r.0 r.1 ≡ Var level = sym r.2 ∙ e in cc

-- words that are packed alike are the same
pub same_packed : (w s : Word) → FitsWord w → FitsWord s → packed w ≡ packed s → w ≡ s
same_packed w s few small e = let f : Some w ≡ Some s = sym (packed_back w few) ∙ ap (λ (p : ℕ × ℕ). unpacked p.0 p.1) e ∙ packed_back s small in cc

-- a text by its bytes
pub text_from : (v : Val) (bytes : List ℕ) → text_bytes v ≡ Some bytes → v ≡ Text bytes
text_from (Text x) bytes e = let f : x ≡ bytes = cc in ap Text f
text_from (Var n) bytes e = cc
text_from (Chan n) bytes e = cc
text_from (Int n) bytes e = cc
text_from (Char n) bytes e = cc
text_from (Boolean n) bytes e = cc
text_from (PrimitiveVal n) bytes e = cc
text_from (Record vs ls) bytes e = cc
