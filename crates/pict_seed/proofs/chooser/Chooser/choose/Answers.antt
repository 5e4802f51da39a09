use Rattle.std.proofs.Common.{ℕ, ◌≤◌, sym, ap, ◌∙◌, arith}
use Rattle.std.specs.Prelude.{◌%◌}
use Rattle.std.proofs.lemmas.Bool.Decides.{nat_tests}
use Rattle.rand_pcg.specs.Lcg.{Lcg}
use Rattle.rand_pcg.specs.Pcg.{pcg32}
use Rattle.pict_seed.proofs.Choosing.{chosen_few, chosen_more}
use Rattle.pict_seed.proofs.chooser.Chooser.choose.Goals as goal

pub returns-then-count-eq1-clause-choice : goal.returns-then-count-eq1-clause-choice
returns-then-count-eq1-clause-choice c =
    let e : c.args.count ≤ 1 = grind (arith, nat_tests, c.if-count-eq1.true) in
    ap (λ (z : ℕ × Lcg). z.0) (sym (chosen_few c.args.count c.args.self.now e))

pub returns-then-count-eq1-clause-after : goal.returns-then-count-eq1-clause-after
returns-then-count-eq1-clause-after c =
    let e : c.args.count ≤ 1 = grind (arith, nat_tests, c.if-count-eq1.true) in
    ap (λ (z : ℕ × Lcg). z.1) (sym (chosen_few c.args.count c.args.self.now e))

pub returns-clause-choice : goal.returns-clause-choice
returns-clause-choice c =
    let h : 2 ≤ c.args.count = grind (arith, nat_tests, c.if-count-eq1.false, c.requires) in
    ap (λ (z : ℕ × Lcg). z.0 % c.args.count) (c.next_word-word.ensures ∙ ap pcg32 c.self.view_is)
    ∙ ap (λ (z : ℕ × Lcg). z.0) (sym (chosen_more c.args.count c.args.self.now h))

pub returns-clause-after : goal.returns-clause-after
returns-clause-after c =
    let h : 2 ≤ c.args.count = grind (arith, nat_tests, c.if-count-eq1.false, c.requires) in
    ap (λ (z : ℕ × Lcg). z.1) (c.next_word-word.ensures ∙ ap pcg32 c.self.view_is)
    ∙ ap (λ (z : ℕ × Lcg). z.1) (sym (chosen_more c.args.count c.args.self.now h))
