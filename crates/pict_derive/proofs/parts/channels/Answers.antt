-- One channel more.
use Rattle.std.proofs.Common.{◌≡◌, ◌∙◌, ◌++◌, ◌∷◌, [], ap, sym, length, map, arith}
use Rattle.pict_translation.specs.Placed.{new_channel, variables}
use Rattle.pict_derive.specs.Built.{surround, with_levels}
use Rattle.pict_derive.proofs.LevelLemmas.{levels_taken, variables_grown, definition_names_are}
use Rattle.pict_derive.proofs.Surrounding.{channel_more}
use Rattle.pict_derive.proofs.parts.channels.Goals as goal
use Rattle.std.proofs.lemmas.List.{take_all}

pub loop-part-preserved : goal.loop-part-preserved
loop-part-preserved c =
    let i = c.loop-part.part-index in
    let d = c.args.outer.now.depth in
    let at = c.loop-part.invariant.depth in
    let level = c.in_ok-number.ensures.level in
    record {
      built = λ f. channel_more c.args.outer.now i f
          ∙ c.loop-part.invariant.built (λ xs. new_channel (λ x. f (xs ++ x ∷ [])))
          ∙ c.in_ok-number.ensures.core (λ x. f (variables d i ++ x ∷ []))
          ∙ ap (λ vs. surround c.new_channel.new.self (f vs)) (variables_grown d i c.in_ok-number.number c.loop-part.outer.depth level at);
      depth = let after = c.in_ok-number.ensures.depth in omega (arith, at, after);
      scope = levels_taken (λ p. p.id.name.0) c.args.parts.now i d c.in_ok-number.number c.part-item.result c.args.scope.now c.loop-part.scope c.bind.new.self (omega arith) c.part-item.is (level ∙ at) c.loop-part.invariant.scope c.in_ok-bind.ensures.ok;
    }

pub returns-clause-core : goal.returns-clause-core
returns-clause-core c f =
    let is : c.loop-part.part-index ≡ length c.args.parts.now = omega arith in
    rw is at (c.loop-part.invariant.built f)

pub returns-clause-scope : goal.returns-clause-scope
returns-clause-scope c =
    let d = c.args.outer.now.depth in
    c.loop-part.invariant.scope
    ∙ ap (λ ps. with_levels (map (λ p. p.id.name.0) ps) d c.args.scope.now) (take_all c.loop-part.part-index c.args.parts.now (omega arith))
    ∙ ap (λ ns. with_levels ns d c.args.scope.now) (sym (definition_names_are c.args.parts.now))
