use Rattle.std.proofs.Common.{◌≡◌, sym, ap, ◌∙◌, not}
use Rattle.std.specs.Fmt.{decimal}
use Rattle.std.proofs.lemmas.Fmt.{parse-decimal}
use Rattle.std.proofs.lemmas.Slice.Eq.{bytes_eq-Decides}
use Rattle.pict_words.proofs.words.number_of.Goals as goal

pub returns-then-ne-clause-none : goal.returns-then-ne-clause-none
returns-then-ne-clause-none c e n below is =
    let parsed = parse-decimal 64 n c.args.word.now c.parse.result below below is c.parse.ensures.value.0 in
    let same : c.in-Ok.n ≡ n = cc in
    let alike = (bytes_eq-Decides c.format.result.now c.args.word.now).1 (c.format.ensures.text ∙ ap decimal same ∙ sym is) in
    let no = sym c.if-ne.true ∙ c.ne.ensures ∙ ap not alike in
    cc

pub returns-in-Err-clause-none : goal.returns-in-Err-clause-none
returns-in-Err-clause-none c e n below is =
    let parsed = parse-decimal 64 n c.args.word.now c.parse.result below below is c.parse.ensures.value.0 in
    absurd cc
