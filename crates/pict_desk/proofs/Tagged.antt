-- What kind of value two words are, by the first of them.
use Rattle.std.proofs.Common.{ℕ, ◌≡◌, ◌≢◌, Bool, true, false, nat_eq, refl, sym, ap, ◌∙◌, subst, None}
use Rattle.pict_syntax.specs.declared.primitive.Primitive.{Primitive}
use Rattle.pict_core.specs.Term as term
use Rattle.pict_core.specs.Term.{Val, PrimitiveVal}
use Rattle.pict_heap.specs.HeapState.{HeapState, value_of}
use Rattle.pict_heap.specs.Packed.{packed}
use Rattle.pict_heap.specs.declared.word.Word.{Word}
use Rattle.pict_heap.specs.declared.word.Word.TheVariants as word
use Rattle.pict_heap.proofs.Records.{record_is}
use Rattle.pict_desk.specs.Known.{value_in, operand_value}
use Rattle.pict_desk.specs.AtHand.{channel_named, number_named, IsOfHeap}
use Rattle.pict_desk.specs.Pairs.{IsPair}
use Rattle.pict_desk.proofs.Pairs.{value_packed}

-- ---- no channel, no number

no_channel : (h : HeapState) (w : Word) → (packed w).0 ≢ 3 → channel_named (value_of h w) ≡ None
no_channel h (word.Chan n) apart = absurd (apart refl)
no_channel h (word.Int n) apart = refl
no_channel h (word.Char n) apart = refl
no_channel h (word.Bool b) apart = refl
no_channel h (word.Prim p) apart = refl
no_channel h (word.Text n) apart = refl
no_channel h (word.Fields n) apart = ap channel_named (record_is h n).2

no_number : (h : HeapState) (w : Word) → (packed w).0 ≢ 0 → number_named (value_of h w) ≡ None
no_number h (word.Int n) apart = absurd (apart refl)
no_number h (word.Chan n) apart = refl
no_number h (word.Char n) apart = refl
no_number h (word.Bool b) apart = refl
no_number h (word.Prim p) apart = refl
no_number h (word.Text n) apart = refl
no_number h (word.Fields n) apart = ap number_named (record_is h n).2

module _ (h : HeapState) (pair : ℕ × ℕ) (is : IsPair h pair) where
  value_is : value_in h pair.0 pair.1 ≡ value_of h is.word
  value_is = value_packed h is.word pair is.fits is.packs

  pub channel_elsewhere : pair.0 ≢ 3 → None ≡ channel_named (value_in h pair.0 pair.1)
  channel_elsewhere apart = sym (ap channel_named value_is ∙ no_channel h is.word (λ e. apart (ap (λ (x : ℕ × ℕ). x.0) (sym is.packs) ∙ e)))

  pub number_elsewhere : pair.0 ≢ 0 → None ≡ number_named (value_in h pair.0 pair.1)
  number_elsewhere apart = sym (ap number_named value_is ∙ no_number h is.word (λ e. apart (ap (λ (x : ℕ × ℕ). x.0) (sym is.packs) ∙ e)))

-- ---- truth values

-- the word that stands for a truth value
pub bool_word : (h : HeapState) (w : Word) (b : Bool) → value_of h w ≡ term.Boolean b → w ≡ word.Bool b
bool_word h (word.Bool c) b e = let same : c ≡ b = cc in ap word.Bool same
bool_word h (word.Int n) b e = cc
bool_word h (word.Char n) b e = cc
bool_word h (word.Chan n) b e = cc
bool_word h (word.Prim n) b e = cc
bool_word h (word.Text n) b e = cc
bool_word h (word.Fields n) b e = let r = record_is h n in let f : term.Record r.0 r.1 ≡ term.Boolean b = sym r.2 ∙ e in cc

truth_packed : (h : HeapState) (b : Bool) → value_in h (packed (word.Bool b)).0 (packed (word.Bool b)).1 ≡ term.Boolean (nat_eq (packed (word.Bool b)).1 1)
truth_packed h true = refl
truth_packed h false = refl

-- the two words that stand for a truth value in one heap stand for it in each, by the second of them
pub truth_by_second : (known h : HeapState) (pair : ℕ × ℕ) (b : Bool) → IsPair known pair → value_in known pair.0 pair.1 ≡ term.Boolean b → value_in h pair.0 pair.1 ≡ term.Boolean (nat_eq pair.1 1)
truth_by_second known h pair b is e =
    let w : is.word ≡ word.Bool b = bool_word known is.word b (sym (value_is known pair is) ∙ e) in
    subst (λ (x : ℕ × ℕ). value_in h x.0 x.1 ≡ term.Boolean (nat_eq x.1 1)) (ap packed (sym w) ∙ is.packs) (truth_packed h b)

-- ---- primitives

-- the word that stands for a primitive
pub prim_word : (h : HeapState) (w : Word) (p : Primitive) → value_of h w ≡ PrimitiveVal p → w ≡ word.Prim p
prim_word h (word.Prim q) p e = let same : q ≡ p = cc in ap word.Prim same
prim_word h (word.Int n) p e = cc
prim_word h (word.Char n) p e = cc
prim_word h (word.Chan n) p e = cc
prim_word h (word.Bool n) p e = cc
prim_word h (word.Text n) p e = cc
prim_word h (word.Fields n) p e = let r = record_is h n in let f : term.Record r.0 r.1 ≡ PrimitiveVal p = sym r.2 ∙ e in cc

-- a text or a record stands for no primitive
pub no_heap_primitive : (value : ℕ → Val) (v : Val) (p : Primitive) → IsOfHeap v → operand_value value v ≡ PrimitiveVal p → ⊥
no_heap_primitive value (term.Text bytes) p of_heap e = cc
no_heap_primitive value (term.Record vs ls) p of_heap e = cc
no_heap_primitive value (term.Var n) p of_heap e = absurd of_heap
no_heap_primitive value (term.Chan n) p of_heap e = absurd of_heap
no_heap_primitive value (term.Int n) p of_heap e = absurd of_heap
no_heap_primitive value (term.Char n) p of_heap e = absurd of_heap
no_heap_primitive value (term.Boolean n) p of_heap e = absurd of_heap
no_heap_primitive value (term.PrimitiveVal n) p of_heap e = absurd of_heap
