-- Which words stand for records, and which are printed.
use Rattle.std.proofs.Common.{◌≡◌, ℕ, ℤ, None, IsSome, refl, sym, ap, subst}
use Rattle.pict_core.specs.Term as term
use Rattle.pict_heap.specs.Fields.{text_bytes}
use Rattle.pict_heap.specs.HeapState.{HeapState, value_of}
use Rattle.pict_heap.specs.declared.word.Word.{Word}
use Rattle.pict_heap.specs.declared.word.Word.TheVariants as word
use Rattle.pict_heap.proofs.Records.{record_is}
use Rattle.pict_prim.specs.Printed.{printed_of}
use Rattle.pict_show_words.specs.Fields.{positional_in, labelled_in}

-- the word of a record stands for a record of its fields
pub fields_are : (h : HeapState) (number : ℕ) → value_of h (word.Fields number) ≡ term.Record (positional_in (value_of h (word.Fields number))) (labelled_in (value_of h (word.Fields number)))
fields_are h number = let r = record_is h number in subst (λ v. v ≡ term.Record (positional_in v) (labelled_in v)) (sym r.2) refl

-- a word that is printed, and is no number, has bytes
pub printed_text : (h : HeapState) (w : Word) → ((n : ℤ) → w ≡ word.Int n → ⊥) → IsSome (printed_of (value_of h w)) → text_bytes (value_of h w) ≡ None → ⊥
printed_text h (word.Int n) other is none = other n refl
printed_text h (word.Char n) other is none = cc
printed_text h (word.Bool n) other is none = cc
printed_text h (word.Chan n) other is none = cc
printed_text h (word.Prim n) other is none = cc
printed_text h (word.Text n) other is none = cc
printed_text h (word.Fields n) other is none = let e = ap printed_of (fields_are h n) in cc
