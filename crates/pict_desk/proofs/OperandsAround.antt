-- An operand with the values of all levels is the operand with those of the levels around it.
use Rattle.std.proofs.Common.{ℕ, ◌-◌, ◌≡◌, true, refl, ap, cond, nat_lt, arith}
use Rattle.std.proofs.lemmas.Bool.Decides.{nat_tests}
use Rattle.pict_core.specs.Term.{Val, Vals, Labelled, Var, Chan, Int, Char, Boolean, Text, PrimitiveVal, Record, no_vals, more_vals, no_labelled, more_labelled}
use Rattle.pict_core.specs.Closed.{IsOver, AreOver, LabelledOver}
use Rattle.pict_core.specs.Substitution.{Replacement, replace_values, replace_labelled}
use Rattle.pict_code.specs.Standing.{closing}
use Rattle.pict_desk.specs.Known.{operand_value}
use Rattle.pict_desk.proofs.Parts.{operand}

module _ (n : ℕ) (value : ℕ → Val) where
  abbrev whole : Replacement
  whole = record { variable = value; channel = Chan }

  mutual
    pub same_operand : (v : Val) → IsOver n 0 v → operand n value v ≡ operand_value value v
    same_operand (Var level) o = let inside : nat_lt level n ≡ true = grind (arith, nat_tests) in ap (λ b. cond b (value level) (Var (level - n))) inside
    same_operand (Chan c) o = refl
    same_operand (Int i) o = refl
    same_operand (Char i) o = refl
    same_operand (Boolean i) o = refl
    same_operand (Text i) o = refl
    same_operand (PrimitiveVal i) o = refl
    same_operand (Record vs ls) o = cc (same_operands vs o.0, same_labelled ls o.1)

    same_operands : (vs : Vals) → AreOver n 0 vs → replace_values (closing n value) vs ≡ replace_values whole vs
    same_operands no_vals o = refl
    same_operands (more_vals v vs) o = cc (same_operand v o.0, same_operands vs o.1)

    same_labelled : (ls : Labelled) → LabelledOver n 0 ls → replace_labelled (closing n value) ls ≡ replace_labelled whole ls
    same_labelled no_labelled o = refl
    same_labelled (more_labelled label v ls) o = cc (same_operand v o.0, same_labelled ls o.1)
