-- The depth that the tree tells is that of the process, and the process is closed.
use Rattle.std.proofs.Common.{◌≡◌, ◌∙◌, ap, sym, subst, Err}
use Rattle.pict_syntax.specs.PlainTrees.{declarations_of}
use Rattle.pict_core.specs.Closed.{IsClosed}
use Rattle.pict_core.specs.Term.{depth_of}
use Rattle.pict_translation.specs.Depth.{program_depth}
use Rattle.pict_translation.proofs.ClosedLemmas.{program_closed}
use Rattle.pict_translation.proofs.DepthLemmas.{program_deep}
use Rattle.pict_derive.specs.declared.whole.DeriveError.TheVariants.{TooDeep}
use Rattle.pict_derive.proofs.Limits.{above, never_too_deep, not_above, the_depth, within}
use Rattle.pict_derive.proofs.whole.derive.Goals as goal

pub returns-then-depth-gt-DEPTH_LIMIT-clause-too_deep : goal.returns-then-depth-gt-DEPTH_LIMIT-clause-too_deep
returns-then-depth-gt-DEPTH_LIMIT-clause-too_deep c depth =
    let told = c.program_depth-depth.ensures in
    let deep = program_deep c.args.names.now (declarations_of c.args.scoped.now.program) in
    let more = c.if-depth-gt-DEPTH_LIMIT.true in (
      λ is. (let same : c.program_depth-depth.result ≡ depth = cc in above _ depth _ (program_depth (declarations_of c.args.scoped.now.program)) told deep same more),
      λ at. ap (λ n. Err (TooDeep n)) (the_depth _ depth _ (program_depth (declarations_of c.args.scoped.now.program)) told deep at.1),
    )

pub returns-in_err-core-clause-too_deep : goal.returns-in_err-core-clause-too_deep
returns-in_err-core-clause-too_deep c depth =
    let deep = program_deep c.args.names.now (declarations_of c.args.scoped.now.program) in (
      λ is. absurd (never_too_deep c.from_residual.result depth c.from_residual.ensures.1 is),
      λ at. absurd (not_above _ (within c.program_depth-depth.result _ (program_depth (declarations_of c.args.scoped.now.program)) c.program_depth-depth.ensures deep c.if-depth-gt-DEPTH_LIMIT.false) at.0),
    )

pub returns-clause-too_deep : goal.returns-clause-too_deep
returns-clause-too_deep c depth =
    let deep = program_deep c.args.names.now (declarations_of c.args.scoped.now.program) in (
      λ is. (cc),
      λ at. absurd (not_above _ (within c.program_depth-depth.result _ (program_depth (declarations_of c.args.scoped.now.program)) c.program_depth-depth.ensures deep c.if-depth-gt-DEPTH_LIMIT.false) at.0),
    )

pub returns-clause-closed : goal.returns-clause-closed
returns-clause-closed c distinct = subst IsClosed (sym c.in_ok-core.ensures) (program_closed c.args.names.now (declarations_of c.args.scoped.now.program) distinct)

pub returns-clause-shallow : goal.returns-clause-shallow
returns-clause-shallow c =
    within c.program_depth-depth.result _ (program_depth (declarations_of c.args.scoped.now.program)) c.program_depth-depth.ensures (ap depth_of c.in_ok-core.ensures ∙ program_deep c.args.names.now (declarations_of c.args.scoped.now.program)) c.if-depth-gt-DEPTH_LIMIT.false
