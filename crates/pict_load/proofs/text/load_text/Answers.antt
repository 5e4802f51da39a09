use Rattle.std.proofs.Common.{subst, sym, List, ℕ, length, ◌≤◌}
use Rattle.pict_syntax.specs.declared.limits.TheConstants.{TEXT_LIMIT}
use Rattle.pict_load.proofs.Short.{load_short, all_rings}
use Rattle.pict_load.proofs.text.load_text.Goals as goal

pub returns-clause-text : goal.returns-clause-text
returns-clause-text c = all_rings c.args.n c.loop-number.number c.rings_of-rings.result c.loop-number.text.items c.rings_of-rings.ensures c.loop-number-test.false c.loop-number.invariant

pub returns-clause-short : goal.returns-clause-short
returns-clause-short c =
    let is = all_rings c.args.n c.loop-number.number c.rings_of-rings.result c.loop-number.text.items c.rings_of-rings.ensures c.loop-number-test.false c.loop-number.invariant in
    let P : List ℕ → Type 0 = λ t. length t ≤ TEXT_LIMIT in subst P (sym is) (load_short c.args.n)
