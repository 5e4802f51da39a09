-- What channels carry, one lemma for each way that a body ends.
use Rattle.std.proofs.Common.{◌≡◌, Bool, true, false}
use Rattle.pict_syntax.specs.declared.code.Code.{Code}
use Rattle.pict_syntax.specs.declared.code.Code.TheVariants.{Y1}
use Rattle.pict_syntax.specs.declared.span.Span.{Span}
use Rattle.pict_types.specs.Types.{Capability, PlainType, Boolean}
use Rattle.pict_types.specs.Types as types
use Rattle.pict_rules.specs.Rules.{ok, stuck}
use Rattle.pict_rules.specs.Derivations.{Runs, give_, refuse_}
use Rattle.pict_lines.specs.Declaring.{IsNoChannel}
use Rattle.pict_lines.specs.Lines.{channel_messages}

pub no_channel : (may : Capability → Bool) (c : Code) (at : Span) (t : PlainType) → IsNoChannel t → Runs (channel_messages may c at t) (stuck Y1 at)
no_channel may c at types.Top h = refuse_
no_channel may c at types.Int h = refuse_
no_channel may c at types.Char h = refuse_
no_channel may c at types.Str h = refuse_
no_channel may c at types.Boolean h = refuse_
no_channel may c at (types.Var i) h = refuse_
no_channel may c at (types.Apply i ts) h = refuse_
no_channel may c at (types.Chan m u) h = absurd h
no_channel may c at (types.Fields bs ps ls) h = refuse_
no_channel may c at (types.Rec u) h = refuse_

pub may_not : (may : Capability → Bool) (c : Code) (at : Span) (t u : PlainType) (m : Capability) → t ≡ types.Chan m u → may m ≡ false → Runs (channel_messages may c at t) (stuck c at)
may_not may c at t u m h k = rw (h, k) refuse_

pub may_be : (may : Capability → Bool) (c : Code) (at : Span) (t u : PlainType) (m : Capability) → t ≡ types.Chan m u → may m ≡ true → Runs (channel_messages may c at t) (ok u)
may_be may c at t u m h k = rw (h, k) give_
