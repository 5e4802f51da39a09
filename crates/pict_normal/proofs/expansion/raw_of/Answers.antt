-- Without binders there are the entries of the context alone.
use Rattle.std.proofs.Common.{◌≡◌, [], ◌++◌, subst}
use Rattle.std.specs.Result.{IfOk, IfErr}
use Rattle.pict_syntax.specs.PlainTrees.{type_of}
use Rattle.pict_normal.specs.Normal.{kind_stops}
use Rattle.pict_types.specs.Plain.{plain}
use Rattle.pict_types.specs.PlainContext.{names_of, plain_context}
use Rattle.pict_types.specs.Places.{entry_names}
use Rattle.pict_normal.specs.Raw.{raw}
use Rattle.pict_normal.specs.Refusals.{IsFirst}
use Rattle.pict_normal.proofs.expansion.raw_of.Goals as goal

pub returns-clause-raw : goal.returns-clause-raw
returns-clause-raw c =
    subst (λ s. IfOk c.raw_type.result (λ u. plain u ≡ raw (names_of c.args.c.now) (entry_names (s ++ plain_context c.args.c.now)) (type_of c.args.t.now))) c.new-binders.ensures c.raw_type.ensures.raw

pub returns-clause-kinds : goal.returns-clause-kinds
returns-clause-kinds c =
    subst (λ s. IfOk c.raw_type.result (λ _. kind_stops (names_of c.args.c.now) (s ++ plain_context c.args.c.now) (type_of c.args.t.now) ≡ [])) c.new-binders.ensures c.raw_type.ensures.kinds

pub returns-clause-first : goal.returns-clause-first
returns-clause-first c =
    subst (λ s. IfErr c.raw_type.result (λ e. IsFirst (kind_stops (names_of c.args.c.now) (s ++ plain_context c.args.c.now) (type_of c.args.t.now)) e)) c.new-binders.ensures c.raw_type.ensures.first
