use Rattle.std.proofs.Common.{refl, sym, subst}
use Rattle.std.proofs.lemmas.Int.{to_z-of_z}
use mir.Syntax.{w64}
use Rattle.pict_syntax.specs.Tokens.{number}
use Rattle.pict_lex.specs.Scan.{IsToken}
use Rattle.pict_lex.proofs.NumberLemmas.{within_fits}
use Rattle.pict_lex.proofs.FrontLemmas.{number_token, number_out}
use Rattle.pict_lex.proofs.scan.scan_number.Goals as goal

pub returns-in-Some-clause-piece : goal.returns-in-Some-clause-piece
returns-in-Some-clause-piece c =
    let e = c.number_len-len.ensures in
    let token = number_token c.args.rest.now c.number_len-len.result c.in-Some.value c.requires e.within e.number e.longest c.in-Some.ensures.value c.in-Some.ensures.in_range in
    subst (λ n. IsToken c.args.rest.now (number n) c.number_len-len.result) (sym (to_z-of_z w64 c.in-Some.value (within_fits c.in-Some.value c.in-Some.ensures.in_range))) token

pub returns-in-None-clause-halt : goal.returns-in-None-clause-halt
returns-in-None-clause-halt c =
    let e = c.number_len-len.ensures in
    (number_out c.args.rest.now c.number_len-len.result c.requires e.within e.number e.longest c.in-None.ensures.none, refl)
