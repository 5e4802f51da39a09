use Rattle.std.proofs.Common.{sym, ◌∙◌, ap, subst, arith}
use Rattle.std.proofs.lemmas.Bool.{false≢true}
use Rattle.pict_trace.specs.Reading.{Ends}
use Rattle.pict_trace.proofs.Unique.{tail}
use Rattle.pict_trace.proofs.Literals.{character_bad}
use Rattle.pict_trace.proofs.literal.end_character.Goals as goal

pub returns-then-not-at_end-clause-bad : goal.returns-then-not-at_end-clause-bad
returns-then-not-at_end-clause-bad c e =
    character_bad c.args.byte c.args.more.now (omega (arith, c.ranges.byte))
    (λ rest ends f. false≢true (sym c.if-not-at_end.true ∙ c.at_end.ensures.1 (subst Ends (ap tail (sym f ∙ c.in-Some.ensures.some)) ends)))

pub returns-in-None-clause-bad : goal.returns-in-None-clause-bad
returns-in-None-clause-bad c e = character_bad c.args.byte c.args.more.now (omega (arith, c.ranges.byte)) (λ rest ends. c.behind.ensures.none c.in-None.is rest)
