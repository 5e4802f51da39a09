-- What a pattern adds becomes known, or it is refused.
use Rattle.std.proofs.Common.{ap, refl}
use Rattle.pict_syntax.specs.PlainTrees.{pat_of}
use Rattle.pict_types.specs.Plain.{plain}
use Rattle.pict_types.specs.PlainContext.{names_of, plain_context}
use Rattle.pict_rules.specs.Environments.{Environment}
use Rattle.pict_rules.specs.Rules.{pattern_against}
use Rattle.pict_infer.specs.Adding.{extension_of}
use Rattle.pict_infer.specs.Environments.{environment_of}
use Rattle.pict_infer.proofs.MadeKnown.{becomes_known, goes_err, pattern_holds, pattern_is_refused, pattern_may, same_known}
use Rattle.pict_infer.proofs.patterns.pattern_against.Goals as goal

pub returns-in_err-added : goal.returns-in_err-added
returns-in_err-added c =
    let old = c.args.env.now in
    let p = pat_of c.args.p.now in
    let t = plain c.args.t.now in
    let err = c.in_err-added.field-0.0 in
    record { answer = goes_err old _ (pattern_against p t) c.from_residual.result err c.from_residual.ensures.1 (pattern_is_refused (environment_of old) p t err c.in_err-added.ensures.answer) }

pub add-requires : goal.add-requires
add-requires c =
    let old = c.args.env.now in
    let p = pat_of c.args.p.now in
    let t = plain c.args.t.now in
    let x = c.in_ok-added.added in
    let same = c.in_ok-added.ensures.same in
    let known = same_known old (names_of c.against.new.c) (plain_context c.against.new.c) (ap (λ (z : Environment). z.names) same) (ap (λ (z : Environment). z.context) same) in
    record { may = pattern_may old _ p t x c.requires.right (pattern_holds (environment_of old) p t (extension_of x) c.in_ok-added.ensures.answer) known c.in_ok-added.ensures.base }

pub returns : goal.returns
returns c =
    let old = c.args.env.now in
    let p = pat_of c.args.p.now in
    let t = plain c.args.t.now in
    let x = c.in_ok-added.added in
    let same = c.in_ok-added.ensures.same in
    let known = same_known old (names_of c.against.new.c) (plain_context c.against.new.c) (ap (λ (z : Environment). z.names) same) (ap (λ (z : Environment). z.context) same) in
    record { answer = becomes_known old _ _ (pattern_against p t) (extension_of x) (pattern_holds (environment_of old) p t (extension_of x) c.in_ok-added.ensures.answer) known refl c.in_ok-add.ensures.known c.in_ok-add.ensures.grew }
