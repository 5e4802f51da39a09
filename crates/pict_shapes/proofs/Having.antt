-- Which records of operands have a shape, and which words are of no kind.
use Rattle.std.proofs.Common.{ℕ, ◌≡◌, ◌≢◌, Bool, false, List, [], ◌∷◌, length, get_or, refl, sym, ap, ◌∙◌, arith}
use Rattle.std.specs.Prelude.{◌&&◌}
use Rattle.pict_core.specs.Plain.{plain_val}
use Rattle.pict_core.specs.Term.{Vals, Labelled, Record}
use Rattle.pict_core.specs.declared.value.CoreVal.{CoreVal}
use Rattle.pict_desk.specs.Arguments.{operand_in}
use Rattle.pict_heap.specs.HeapState.{HeapState, value_of}
use Rattle.pict_heap.specs.declared.word.Word.{Word}
use Rattle.pict_heap.specs.declared.word.Word.TheVariants as word
use Rattle.pict_heap.proofs.Records.{record_is}
use Rattle.pict_syntax.specs.declared.primitive.Primitive.{Primitive}
use Rattle.std.specs.Prelude.{ℤ}
use Rattle.pict_shapes.specs.Fitting.{values_in}
use Rattle.pict_shapes.specs.Shapes.{is_kind, has_operands}
use Rattle.pict_syntax.specs.declared.primitive.ValueKind.{ValueKind}
use Rattle.pict_syntax.specs.declared.primitive.ValueKind.TheVariants as kind
use Rattle.pict_syntax.specs.declared.primitive.Operands.TheVariants.{One, Two}

-- ---- words

of_channel : (k : ValueKind) (h : HeapState) (n : ℕ) → false ≡ is_kind k (value_of h (word.Chan n))
of_channel kind.Int h n = refl
of_channel _ h n = refl

of_primitive : (k : ValueKind) (h : HeapState) (p : Primitive) → false ≡ is_kind k (value_of h (word.Prim p))
of_primitive kind.Int h p = refl
of_primitive _ h p = refl

no_record : (k : ValueKind) (vs : Vals) (ls : Labelled) → false ≡ is_kind k (Record vs ls)
no_record kind.Int vs ls = refl
no_record _ vs ls = refl

of_record : (k : ValueKind) (h : HeapState) (n : ℕ) → false ≡ is_kind k (value_of h (word.Fields n))
of_record k h n = let r = record_is h n in no_record k _ _ ∙ sym (ap (is_kind k) r.2)

pub no_kind : (h : HeapState) (k : ValueKind) (w : Word) → ((n : ℤ) → w ≡ word.Int n → ⊥) → ((n : ℕ) → w ≡ word.Char n → ⊥) → ((b : Bool) → w ≡ word.Bool b → ⊥) → ((n : ℕ) → w ≡ word.Text n → ⊥) → false ≡ is_kind k (value_of h w)
no_kind h k (word.Int n) i c b t = absurd (i n refl)
no_kind h k (word.Char n) i c b t = absurd (c n refl)
no_kind h k (word.Bool x) i c b t = absurd (b x refl)
no_kind h k (word.Text n) i c b t = absurd (t n refl)
no_kind h k (word.Chan n) i c b t = of_channel k h n
no_kind h k (word.Prim p) i c b t = of_primitive k h p
no_kind h k (word.Fields n) i c b t = of_record k h n

-- ---- records of operands

module _ (h : HeapState) (values : List (ℕ × ℕ)) (ls : Labelled) where
  pub one_field : (a r : ValueKind) (fs : List CoreVal) (x : CoreVal) → length fs ≡ 2 → x ≡ get_or fs 0 x → is_kind a (operand_in h values (plain_val x)) ≡ has_operands (One a r) (Record (values_in h values fs) ls)
  one_field a r [] x e is = absurd (omega (arith, e))
  one_field a r (v ∷ []) x e is = absurd (omega (arith, e))
  one_field a r (v ∷ w ∷ []) x e is = ap (λ z. is_kind a (operand_in h values (plain_val z))) is
  one_field a r (v ∷ w ∷ u ∷ fs) x e is = absurd (omega (arith, e))

  pub no_one : (a r : ValueKind) (fs : List CoreVal) → length fs ≢ 2 → false ≡ has_operands (One a r) (Record (values_in h values fs) ls)
  no_one a r [] n = refl
  no_one a r (v ∷ []) n = refl
  no_one a r (v ∷ w ∷ []) n = absurd (n refl)
  no_one a r (v ∷ w ∷ u ∷ fs) n = refl

  pub two_fields : (a b r : ValueKind) (fs : List CoreVal) (x y : CoreVal) → length fs ≡ 3 → x ≡ get_or fs 0 x → y ≡ get_or fs 1 y
      → (is_kind a (operand_in h values (plain_val x)) && is_kind b (operand_in h values (plain_val y))) ≡ has_operands (Two a b r) (Record (values_in h values fs) ls)
  two_fields a b r [] x y e is at = absurd (omega (arith, e))
  two_fields a b r (v ∷ []) x y e is at = absurd (omega (arith, e))
  two_fields a b r (v ∷ w ∷ []) x y e is at = absurd (omega (arith, e))
  two_fields a b r (v ∷ w ∷ u ∷ []) x y e is at =
      ap (λ z. is_kind a (operand_in h values (plain_val z)) && is_kind b (operand_in h values (plain_val y))) is
      ∙ ap (λ z. is_kind a (operand_in h values (plain_val v)) && is_kind b (operand_in h values (plain_val z))) at
  two_fields a b r (v ∷ w ∷ u ∷ z ∷ fs) x y e is at = absurd (omega (arith, e))

  pub first_alone : (a b r : ValueKind) (fs : List CoreVal) (x : CoreVal) → length fs ≡ 3 → x ≡ get_or fs 0 x → is_kind a (operand_in h values (plain_val x)) ≡ false → false ≡ has_operands (Two a b r) (Record (values_in h values fs) ls)
  first_alone a b r [] x e is n = absurd (omega (arith, e))
  first_alone a b r (v ∷ []) x e is n = absurd (omega (arith, e))
  first_alone a b r (v ∷ w ∷ []) x e is n = absurd (omega (arith, e))
  first_alone a b r (v ∷ w ∷ u ∷ []) x e is n = sym (ap (λ z. z && is_kind b (operand_in h values (plain_val w))) (ap (λ z. is_kind a (operand_in h values (plain_val z))) (sym is) ∙ n))
  first_alone a b r (v ∷ w ∷ u ∷ z ∷ fs) x e is n = absurd (omega (arith, e))

  pub no_two : (a b r : ValueKind) (fs : List CoreVal) → length fs ≢ 3 → false ≡ has_operands (Two a b r) (Record (values_in h values fs) ls)
  no_two a b r [] n = refl
  no_two a b r (v ∷ []) n = refl
  no_two a b r (v ∷ w ∷ []) n = refl
  no_two a b r (v ∷ w ∷ u ∷ []) n = absurd (n refl)
  no_two a b r (v ∷ w ∷ u ∷ z ∷ fs) n = refl
