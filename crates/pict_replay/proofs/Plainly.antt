-- Plain values of the forms of values, and what tests say.
use Rattle.std.proofs.Common.{ℕ, ℤ, ◌≡◌, ◌↔◌, Bool, true, false, List, rules, sym, ap, ◌∙◌}
use Rattle.std.specs.Prelude.{IsTrue, Result, Ok, Err, IfOk}
use Rattle.std.proofs.lemmas.Bool.{false≢true}
use Rattle.pict_core.specs.Term.{Var, Chan, Int, Char, Boolean, Text}
use Rattle.pict_core.specs.Plain.{plain_val}
use Rattle.pict_core.specs.declared.value.CoreVal.{CoreVal, the_lemmas}
use Rattle.pict_core.specs.declared.value.CoreVal.TheVariants as value

module _ (v : CoreVal) where
  pub var_is : (n : ℕ) → v ≡ value.Var n → Var n ≡ plain_val v
  var_is n e = let k : plain_val (value.Var n) ≡ Var n = search (rules, the_lemmas) in sym k ∙ ap plain_val (sym e)

  pub chan_is : (n : ℕ) → v ≡ value.Chan n → Chan n ≡ plain_val v
  chan_is n e = let k : plain_val (value.Chan n) ≡ Chan n = search (rules, the_lemmas) in sym k ∙ ap plain_val (sym e)

  pub int_is : (n : ℤ) → v ≡ value.Int n → Int n ≡ plain_val v
  int_is n e = let k : plain_val (value.Int n) ≡ Int n = search (rules, the_lemmas) in sym k ∙ ap plain_val (sym e)

  pub char_is : (n : ℕ) → v ≡ value.Char n → Char n ≡ plain_val v
  char_is n e = let k : plain_val (value.Char n) ≡ Char n = search (rules, the_lemmas) in sym k ∙ ap plain_val (sym e)

  pub bool_is : (n : Bool) → v ≡ value.Bool n → Boolean n ≡ plain_val v
  bool_is n e = let k : plain_val (value.Bool n) ≡ Boolean n = search (rules, the_lemmas) in sym k ∙ ap plain_val (sym e)

  pub text_is : (n : List ℕ) → v ≡ value.Text n → Text n ≡ plain_val v
  text_is n e = let k : plain_val (value.Text n) ≡ Text n = search (rules, the_lemmas) in sym k ∙ ap plain_val (sym e)

-- a test of one value is a test of another that is the same
pub tells : {A : Type 0} (r : Bool) (v a b : A) → IsTrue r ↔ (v ≡ a) → a ≡ b → IsTrue r ↔ (v ≡ b)
tells r v a b i e = (λ t. i.0 t ∙ e, λ f. i.1 (f ∙ sym e))

-- where it isn't so
pub not_so : {A : Type 0} → (A → ⊥) → IsTrue false ↔ A
not_so n = (λ t. absurd (false≢true t), λ a. absurd (n a))

-- ---- what a test says that may want memory

pub said : {E : Type 0} (r : Result Bool E) (A : Type 0) → IfOk r (λ same. IsTrue same ↔ A) → r ≡ Ok true → A
said (Ok b) A i e = let t : b ≡ true = cc in i.0 t
said (Err x) A i e = cc

pub denied : {E : Type 0} (r : Result Bool E) (A : Type 0) → IfOk r (λ same. IsTrue same ↔ A) → r ≡ Ok false → A → ⊥
denied (Ok b) A i e a = let f : b ≡ false = cc in false≢true (sym f ∙ i.1 a)
denied (Err x) A i e a = cc

-- the same test of what is said otherwise
pub tests_as : {E : Type 0} (r : Result Bool E) (A B : Type 0) → A ↔ B → IfOk r (λ same. IsTrue same ↔ A) → IfOk r (λ same. IsTrue same ↔ B)
tests_as (Ok b) A B f i = (λ t. f.0 (i.0 t), λ x. i.1 (f.1 x))
tests_as (Err x) A B f i = tt
