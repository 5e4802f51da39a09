use Rattle.std.proofs.Common.{◌≡◌, Ok, Err, length, subst, arith}
use Rattle.pict_automaton.specs.Machine.{step}
use Rattle.pict_automaton.specs.Places.{stop}
use Rattle.pict_automaton.proofs.Nestings.{shallow_start}
use Rattle.pict_parse_states.specs.View.{GivesState, parse_state}
use Rattle.pict_parse.specs.Answers.{Ends, declared, refused}
use Rattle.pict_parse.specs.declared.entry.ParseError.TheVariants as answer
use Rattle.pict_parse.proofs.Exact.{exact_declarations}
use Rattle.pict_parse.proofs.Loop.{unexpected, kept_on, too_nested, whole_list, too_short}
use Rattle.pict_parse.proofs.declarations.parse_declarations.Goals as goal

pub loop-token-init : goal.loop-token-init
loop-token-init c = (c.in_ok-state.ensures, shallow_start c.args.tokens.now)

pub loop-token-preserved : goal.loop-token-preserved
loop-token-preserved c =
    kept_on c.args.tokens.now c.loop-token.token-index c.token-item.result c.loop-token.state c.in-Ok.next c.loop-token-test.true c.token-item.is c.loop-token.invariant (c.in-Ok.ensures) (c.if-not-is_within.ensures)

pub returns-in-Err-Unexpected-clause-verdict : goal.returns-in-Err-Unexpected-clause-verdict
returns-in-Err-Unexpected-clause-verdict c =
    let stops : step c.token-item.result.kind c.token-item.result.span (parse_state c.loop-token.state) ≡ stop =
    subst (λ f. GivesState (Err f) (step c.token-item.result.kind c.token-item.result.span (parse_state c.loop-token.state))) c.in-Err-Unexpected.field-0-is (c.in-Err-Unexpected.ensures) in
    unexpected c.args.tokens.now c.args.end c.loop-token.token-index c.token-item.result c.loop-token.state c.loop-token-test.true c.token-item.is c.loop-token.invariant stops

pub returns-then-not-is_within-clause-verdict : goal.returns-then-not-is_within-clause-verdict
returns-then-not-is_within-clause-verdict c =
    too_nested c.args.tokens.now c.args.end c.loop-token.token-index c.token-item.result c.loop-token.state c.in-Ok.next c.loop-token-test.true c.token-item.is c.loop-token.invariant (c.in-Ok.ensures) (c.if-not-is_within.ensures)

pub returns-in-Some-clause-verdict : goal.returns-in-Some-clause-verdict
returns-in-Some-clause-verdict c =
    let whole : c.loop-token.token-index ≡ length c.args.tokens.now = omega arith in
    whole_list c.args.tokens.now c.args.end c.loop-token.token-index c.loop-token.state c.in-Some.decs whole c.loop-token.invariant (subst (Ends (parse_state c.loop-token.state)) c.in-Some.is (c.in_ok-decs.ensures))

pub returns-in-None-clause-verdict : goal.returns-in-None-clause-verdict
returns-in-None-clause-verdict c =
    let whole : c.loop-token.token-index ≡ length c.args.tokens.now = omega arith in
    too_short c.args.tokens.now c.args.end c.loop-token.token-index c.loop-token.state whole c.loop-token.invariant (subst (Ends (parse_state c.loop-token.state)) c.in-None.is (c.in_ok-decs.ensures))

pub returns-in-Err-Unexpected-clause-exact : goal.returns-in-Err-Unexpected-clause-exact
returns-in-Err-Unexpected-clause-exact c =
    exact_declarations c.args.tokens.now c.args.end (refused (answer.Unexpected c.token-item.result.span)) (returns-in-Err-Unexpected-clause-verdict c)

pub returns-then-not-is_within-clause-exact : goal.returns-then-not-is_within-clause-exact
returns-then-not-is_within-clause-exact c =
    exact_declarations c.args.tokens.now c.args.end (refused (answer.TooNested c.token-item.result.span)) (returns-then-not-is_within-clause-verdict c)

pub returns-in-Some-clause-exact : goal.returns-in-Some-clause-exact
returns-in-Some-clause-exact c =
    exact_declarations c.args.tokens.now c.args.end (declared (Ok c.in-Some.decs)) (returns-in-Some-clause-verdict c)

pub returns-in-None-clause-exact : goal.returns-in-None-clause-exact
returns-in-None-clause-exact c =
    exact_declarations c.args.tokens.now c.args.end (refused (answer.Unexpected c.args.end)) (returns-in-None-clause-verdict c)
