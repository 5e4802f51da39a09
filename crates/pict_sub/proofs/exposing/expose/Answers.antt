-- The answer is well formed where the type is.
use Rattle.std.proofs.Common.{◌≡◌, sym, subst}
use Rattle.std.proofs.lemmas.Result.{IfOk-weaker}
use Rattle.pict_types.specs.Plain.{plain}
use Rattle.pict_types.specs.PlainContext.{IsWrittenIn, names_of, plain_context, type_context}
use Rattle.pict_sub.specs.Exposing.{exposure}
use Rattle.pict_sub.proofs.Followed.{exposure_formed}
use Rattle.pict_sub.proofs.exposing.expose.Goals as goal
use Rattle.pict_types.proofs.Contexts.{entries_context}

pub returns-clause-formed : goal.returns-clause-formed
returns-clause-formed c =
    let d = c.args.c.now in
    let t = plain c.args.t.now in
    let context = entries_context (names_of d) (plain_context d) d.formed in
    IfOk-weaker c.expose_in.result (λ u. plain u ≡ exposure (type_context d) t) (λ u. IsWrittenIn d t → IsWrittenIn d (plain u)) (λ u e f. subst (IsWrittenIn d) (sym e) (exposure_formed (names_of d) (type_context d) t context f)) c.expose_in.ensures
