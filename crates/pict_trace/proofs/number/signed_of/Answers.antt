use Rattle.std.proofs.Common.{◌≡◌, sym, ◌∙◌, ap, subst, not, to_z, of_z, w64}
use Rattle.std.proofs.lemmas.Int.{to_z-of_z}
use Rattle.std.specs.Fmt.{signed_decimal}
use Rattle.std.specs.Str.{IsAscii}
use Rattle.pict_trace.proofs.Numbers.{signed_ascii, signed_read}
use Rattle.std.proofs.lemmas.Str.{IsUtf8-from_ascii}
use Rattle.std.proofs.lemmas.Slice.Eq.{bytes_eq-Decides}
use Rattle.pict_trace.proofs.number.signed_of.Goals as goal

pub returns-in-Err-clause-none : goal.returns-in-Err-clause-none
returns-in-Err-clause-none c e n below is = c.in-Err.ensures.cases.0 (IsUtf8-from_ascii c.args.word.now (subst IsAscii (sym is) (signed_ascii n below)))

pub returns-in-Err-parse-clause-none : goal.returns-in-Err-parse-clause-none
returns-in-Err-parse-clause-none c e n below is =
    let parsed = signed_read n c.in-Ok.text.now c.parse.result below (c.in-Ok.ensures.cases.0 ∙ is) c.parse.ensures.value.0 in
    absurd cc

pub returns-then-ne-clause-none : goal.returns-then-ne-clause-none
returns-then-ne-clause-none c e n below is =
    let parsed = signed_read n c.in-Ok.text.now c.parse.result below (c.in-Ok.ensures.cases.0 ∙ is) c.parse.ensures.value.0 in
    let same : c.in-Ok-parse.z ≡ n = cc in
    let alike = (bytes_eq-Decides c.format.result.now c.in-Ok.text.now).1 (c.format.ensures.text ∙ ap signed_decimal (ap (λ k. to_z w64 (of_z w64 k)) same ∙ to_z-of_z w64 n below) ∙ sym is ∙ sym c.in-Ok.ensures.cases.0) in
    let no = sym c.if-ne.true ∙ c.ne.ensures ∙ ap not alike in
    cc
