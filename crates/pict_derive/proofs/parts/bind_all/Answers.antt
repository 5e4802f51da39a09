-- One name more.
use Rattle.std.proofs.Common.{◌≡◌, ◌∙◌, ◌+◌, ap, sym, length, arith}
use Rattle.std.proofs.lemmas.List.{length-map, take_all}
use Rattle.pict_derive.specs.Built.{numbers_of, with_levels}
use Rattle.pict_derive.proofs.LevelLemmas.{levels_read}
use Rattle.pict_derive.proofs.parts.bind_all.Goals as goal

pub loop-name-preserved : goal.loop-name-preserved
loop-name-preserved c =
    let at = c.loop-name.invariant.level in
    record {
      level = let after = c.in_ok-level.ensures in omega (arith, at, after);
      scope = levels_read (λ n. n.0) c.args.names.now c.loop-name.name-index c.args.first c.loop-name.level _ c.args.scope.now c.loop-name.scope c.bind.new.self (omega arith) at c.loop-name.invariant.scope c.in_ok-bind.ensures.ok;
    }

pub returns-clause-level : goal.returns-clause-level
returns-clause-level c =
    let is : c.loop-name.name-index ≡ length c.args.names.now = omega arith in
    c.loop-name.invariant.level ∙ ap (λ n. c.args.first + n) (is ∙ sym (length-map c.args.names.now (λ n. n.0)))

pub returns-clause-scope : goal.returns-clause-scope
returns-clause-scope c =
    c.loop-name.invariant.scope ∙ ap (λ ns. with_levels (numbers_of ns) c.args.first c.args.scope.now) (take_all c.loop-name.name-index c.args.names.now (omega arith))
