-- The type is none of a channel, or the channel may not be used so, or its messages are given.
use Rattle.std.proofs.Common.{sym, ◌∙◌, subst}
use Rattle.pict_syntax.specs.declared.code.Code.TheVariants.{Y2}
use Rattle.pict_sub.specs.Exposing.{exposure}
use Rattle.pict_types.specs.Plain.{plain, plain_cap}
use Rattle.pict_rules.specs.Clauses.{may_send}
use Rattle.pict_rules.specs.Environments.{context_of}
use Rattle.pict_infer.specs.Environments.{environment_of}
use Rattle.pict_lines.specs.Declaring.{IsNoChannel}
use Rattle.pict_rules.specs.Rules.{ok}
use Rattle.pict_rules.specs.Derivations.{Runs}
use Rattle.pict_lines.specs.Lines.{channel_messages}
use Rattle.pict_lines.proofs.MessageEnds.{may_be, may_not, no_channel}
use Rattle.pict_lines.proofs.messages.messages_sent.Goals as goal

pub returns-in-None : goal.returns-in-None
returns-in-None c =
    no_channel may_send Y2 c.args.at (exposure (context_of (environment_of c.args.env.now)) (plain c.args.t)) (subst IsNoChannel c.in_ok-exposed.ensures c.in-None.ensures.none)

pub returns-then-may_send : goal.returns-then-may_send
returns-then-may_send c =
    let rule = channel_messages may_send Y2 c.args.at (exposure (context_of (environment_of c.args.env.now)) (plain c.args.t)) in
    subst (λ u. Runs rule (ok u)) (sym c.in_ok-copy-in-Some.ensures.same)
    (may_be may_send Y2 c.args.at (exposure (context_of (environment_of c.args.env.now)) (plain c.args.t)) (plain c.in-Some.u.now) (plain_cap c.in-Some.cap) (sym c.in_ok-exposed.ensures ∙ c.in-Some.ensures.some) (sym c.may_send.ensures ∙ c.if-may_send.true))

pub returns : goal.returns
returns c =
    may_not may_send Y2 c.args.at (exposure (context_of (environment_of c.args.env.now)) (plain c.args.t)) (plain c.in-Some.u.now) (plain_cap c.in-Some.cap) (sym c.in_ok-exposed.ensures ∙ c.in-Some.ensures.some) (sym c.may_send.ensures ∙ c.if-may_send.false)
