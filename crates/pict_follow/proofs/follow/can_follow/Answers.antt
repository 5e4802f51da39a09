-- The token that is pushed is the last one, and speaks for its kind.
use Rattle.std.proofs.Common.{◌<◌, ◌∙◌, sym, subst, arith}
use Rattle.pict_syntax.specs.declared.token.Token.{Token}
use Rattle.pict_follow.specs.Follow.{IsAsked, first_end}
use Rattle.pict_follow.proofs.Last.{asked_of}
use Rattle.pict_follow.proofs.Alike.{followed}
use Rattle.pict_follow.proofs.follow.can_follow.Goals as goal

pub goes_on-answer-requires : goal.goes_on-answer-requires
goes_on-answer-requires c = record {
  asked =
      subst (λ l. IsAsked l first_end) (sym (c.deref.ensures.value ∙ c.in_ok-push.ensures.items))
      (asked_of c.args.tokens.now.items c.sample_of.result first_end c.requires.begins.0 c.requires.begins.1
      (subst (λ (t : Token). t.span.start < 1) (sym c.sample_of.ensures) (omega arith)));
}

pub returns-clause-exact : goal.returns-clause-exact
returns-clause-exact c =
    followed c.args.tokens.now.items _ c.sample_of.result c.args.class c.goes_on-answer.result
    (c.deref.ensures.value ∙ c.in_ok-push.ensures.items) c.sample_of.ensures c.goes_on-answer.ensures
