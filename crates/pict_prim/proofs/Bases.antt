-- Words that are not of the base type that a primitive takes.
use Rattle.std.proofs.Common.{◌≡◌, ℕ, ℤ, Bool, List, Option, None, refl, ap}
use Rattle.std.specs.Option.{option_and_then}
use Rattle.pict_core.specs.Term as term
use Rattle.pict_core.specs.Term.{Val}
use Rattle.pict_core.specs.Primitives.{Effect, at_int, at_char, at_bool, at_text}
use Rattle.pict_heap.specs.Fields.{text_bytes}
use Rattle.pict_heap.specs.HeapState.{HeapState, value_of}
use Rattle.pict_heap.specs.declared.word.Word.{Word}
use Rattle.pict_heap.specs.declared.word.Word.TheVariants as word
use Rattle.pict_heap.proofs.Records.{record_is}

pub no_int : (h : HeapState) (w : Word) → ((n : ℤ) → w ≡ word.Int n → ⊥) → (f : ℤ → Option Effect) → at_int (value_of h w) f ≡ None
no_int h (word.Int n) other f = absurd (other n refl)
no_int h (word.Char n) other f = refl
no_int h (word.Bool n) other f = refl
no_int h (word.Chan n) other f = refl
no_int h (word.Prim n) other f = refl
no_int h (word.Text n) other f = refl
no_int h (word.Fields n) other f = let r = record_is h n in ap (λ v. at_int v f) r.2

pub no_char : (h : HeapState) (w : Word) → ((n : ℕ) → w ≡ word.Char n → ⊥) → (f : ℕ → Option Effect) → at_char (value_of h w) f ≡ None
no_char h (word.Char n) other f = absurd (other n refl)
no_char h (word.Int n) other f = refl
no_char h (word.Bool n) other f = refl
no_char h (word.Chan n) other f = refl
no_char h (word.Prim n) other f = refl
no_char h (word.Text n) other f = refl
no_char h (word.Fields n) other f = let r = record_is h n in ap (λ v. at_char v f) r.2

pub no_bool : (h : HeapState) (w : Word) → ((n : Bool) → w ≡ word.Bool n → ⊥) → (f : Bool → Option Effect) → at_bool (value_of h w) f ≡ None
no_bool h (word.Bool n) other f = absurd (other n refl)
no_bool h (word.Int n) other f = refl
no_bool h (word.Char n) other f = refl
no_bool h (word.Chan n) other f = refl
no_bool h (word.Prim n) other f = refl
no_bool h (word.Text n) other f = refl
no_bool h (word.Fields n) other f = let r = record_is h n in ap (λ v. at_bool v f) r.2

pub no_text : (h : HeapState) (w : Word) → ((n : ℕ) → w ≡ word.Text n → ⊥) → (f : List ℕ → Option Effect) → at_text (value_of h w) f ≡ None
no_text h (word.Text n) other f = absurd (other n refl)
no_text h (word.Int n) other f = refl
no_text h (word.Char n) other f = refl
no_text h (word.Bool n) other f = refl
no_text h (word.Chan n) other f = refl
no_text h (word.Prim n) other f = refl
no_text h (word.Fields n) other f = let r = record_is h n in ap (λ v. at_text v f) r.2

-- what is said of a text, by its bytes
pub at_bytes : (v : Val) (f : List ℕ → Option Effect) → at_text v f ≡ option_and_then f (text_bytes v)
at_bytes (term.Text bytes) f = refl
at_bytes (term.Var n) f = refl
at_bytes (term.Chan n) f = refl
at_bytes (term.Int n) f = refl
at_bytes (term.Char n) f = refl
at_bytes (term.Boolean n) f = refl
at_bytes (term.PrimitiveVal n) f = refl
at_bytes (term.Record vs ls) f = refl

-- where nothing is said of any text, nothing is said
pub none_of_text : (v : Val) (f : List ℕ → Option Effect) → ((bytes : List ℕ) → f bytes ≡ None) → at_text v f ≡ None
none_of_text (term.Text bytes) f h = h bytes
none_of_text (term.Var n) f h = refl
none_of_text (term.Chan n) f h = refl
none_of_text (term.Int n) f h = refl
none_of_text (term.Char n) f h = refl
none_of_text (term.Boolean n) f h = refl
none_of_text (term.PrimitiveVal n) f h = refl
none_of_text (term.Record vs ls) f h = refl
