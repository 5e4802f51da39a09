-- What stands for a variable measures what it does outside, and is built where that is within the limits.
use Rattle.std.proofs.Common.{◌≡◌, ◌∙◌, length, refl, sym, ap, subst, arith}
use Rattle.pict_types.specs.Types.{Top, Var}
use Rattle.pict_types.specs.Measures.{held, weigh, rise}
use Rattle.pict_types.specs.Plain.{plain}
use Rattle.pict_normal.specs.Putting.{HasRoom, put_type, weights_in, heights_in, replacement_in, variables_in}
use Rattle.pict_types.specs.Renaming.{rename, moved}
use Rattle.pict_types.specs.Replacing.{replace}
use Rattle.pict_types.specs.declared.types.Ty.TheVariants.{Top as Top_}
use Rattle.pict_normal.proofs.Making.{leaf_is, passed_reason}
use Rattle.pict_normal.proofs.replacement.made_variable.Goals as goal

pub returns-in_ok-measures-in-Variable : goal.returns-in_ok-measures-in-Variable
returns-in_ok-measures-in-Variable c =
    let p = c.args.puts.now in
    let ms = c.args.inner.now in
    let e : Var c.in-Variable.k ≡ replace (replacement_in p ms) (Var c.args.i) = sym (ap put_type c.in-Variable.is) ∙ c.in_ok-put.ensures.type_ in
    let same = c.in_ok-measures-in-Variable.ensures.same in
    record {
      made =
          c.new.ensures.made (weights_in p ms) (heights_in p ms) (replace (replacement_in p ms) (Var c.args.i)) e
          (ap (λ m. m.weight) same ∙ c.measures_inside.ensures.weight ∙ ap (λ x. held (weigh (weights_in p ms) x)) e)
          (ap (λ m. m.height) same ∙ c.measures_inside.ensures.height ∙ ap (λ x. held (rise (heights_in p ms) x)) e);
      reason = tt;
    }

pub returns-in_err-measures-in-Variable-clause-reason : goal.returns-in_err-measures-in-Variable-clause-reason
returns-in_err-measures-in-Variable-clause-reason c =
    let p = c.args.puts.now in
    let ms = c.args.inner.now in
    let e : Var c.in-Variable.k ≡ replace (replacement_in p ms) (Var c.args.i) = sym (ap put_type c.in-Variable.is) ∙ c.in_ok-put.ensures.type_ in
    let weight = c.measures_inside.ensures.weight ∙ ap (λ x. held (weigh (weights_in p ms) x)) e in
    passed_reason c.from_residual-in_err-measures-in-Variable.result c.in_err-measures-in-Variable.field-0.0 c.measures_inside.result.weight (weigh (weights_in p ms) (replace (replacement_in p ms) (Var c.args.i))) c.from_residual-in_err-measures-in-Variable.ensures.1 (λ h. omega (arith, h, weight)) c.in_err-measures-in-Variable.ensures.reason

pub put_measures-requires : goal.put_measures-requires
put_measures-requires c =
    let p = c.args.puts.now in
    let ms = c.args.inner.now in
    let t = plain c.in-Proper.t.now in
    let by = c.in-Proper.by in
    let fits = subst (HasRoom (length (variables_in p)) (length ms) c.args.i) c.in-Proper.is c.in_ok-put.ensures.room in
    let e : rename (moved by 0) t ≡ replace (replacement_in p ms) (Var c.args.i) = sym (ap put_type c.in-Proper.is) ∙ c.in_ok-put.ensures.type_ in
    record { put = e; inside = fits.0; outside = fits.1 }

pub moved_put-requires : goal.moved_put-requires
moved_put-requires c = record { put = sym (ap put_type c.in-Proper.is) ∙ c.in_ok-put.ensures.type_ }

pub returns-in_err-measures-in-Proper-clause-reason : goal.returns-in_err-measures-in-Proper-clause-reason
returns-in_err-measures-in-Proper-clause-reason c =
    let p = c.args.puts.now in
    let ms = c.args.inner.now in
    let weight = c.put_measures.ensures.weight in
    passed_reason c.from_residual-in_err-measures-in-Proper.result c.in_err-measures-in-Proper.field-0.0 c.put_measures.result.weight (weigh (weights_in p ms) (replace (replacement_in p ms) (Var c.args.i))) c.from_residual-in_err-measures-in-Proper.ensures.1 (λ h. omega (arith, h, weight)) c.in_err-measures-in-Proper.ensures.reason

pub returns-then-is_within : goal.returns-then-is_within
returns-then-is_within c =
    let p = c.args.puts.now in
    let ms = c.args.inner.now in
    let weight = c.put_measures.ensures.weight in
    let height = c.put_measures.ensures.height in
    let same = c.in_ok-measures-in-Proper.ensures.same in
    record {
      made =
          c.new-then-is_within.ensures.made (weights_in p ms) (heights_in p ms) (replace (replacement_in p ms) (Var c.args.i)) c.in_ok-moved_put-in-Proper.ensures
          (ap (λ m. m.weight) same ∙ weight)
          (ap (λ m. m.height) same ∙ height);
      reason = tt;
    }

pub returns-else-is_within : goal.returns-else-is_within
returns-else-is_within c =
    let p = c.args.puts.now in
    let ms = c.args.inner.now in
    let weight = c.put_measures.ensures.weight in
    let height = c.put_measures.ensures.height in
    let same = c.in_ok-measures-in-Proper.ensures.same in
    let light = c.in_ok-measures-in-Proper.ensures.light in
    let measured = ap (λ m. m.weight) same ∙ weight in
    record {
      made = record {
        weight = omega (arith, measured, light);
        light = light;
        height = ap (λ m. m.height) same ∙ height;
        made = tt;
        low = tt;
        missing = c.if-is_within.ensures.no refl light;
      };
      reason = tt;
    }

pub returns-in-Operator : goal.returns-in-Operator
returns-in-Operator c =
    let p = c.args.puts.now in
    let ms = c.args.inner.now in
    let e : Top ≡ replace (replacement_in p ms) (Var c.args.i) = sym (ap put_type c.in-Operator.is) ∙ c.in_ok-put.ensures.type_ in
    record {
      made = leaf_is c.leaf.result Top_ (replace (replacement_in p ms) (Var c.args.i)) c.leaf.ensures.measures c.leaf.ensures.ty e (sym (ap (weigh (weights_in p ms)) e)) (sym (ap (rise (heights_in p ms)) e));
      reason = tt;
    }
