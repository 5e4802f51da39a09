use Rattle.std.proofs.Common.{Some, refl, sym, subst}
use Rattle.std.proofs.lemmas.Int.{to_z-of_z}
use mir.Syntax.{w64}
use Rattle.pict_syntax.specs.declared.token.TokenKind.TheVariants.{Number}
use Rattle.pict_syntax.specs.Tokens.{keyword, number, character, string, sign}
use Rattle.pict_lex.specs.Mark.{mark_form}
use Rattle.pict_lex.specs.Scan.{IsScanned, IsToken}
use Rattle.pict_lex.specs.Steps.{HasStepped}
use Rattle.pict_lex.proofs.NumberLemmas.{within_fits}
use Rattle.pict_lex.proofs.StepLemmas.{blank_step, comment_step, token_step, identifier_step, symbol_step}
use Rattle.pict_lex.proofs.reading.kind_at.Goals as goal

pub returns-in-Blank-clause-stepped : goal.returns-in-Blank-clause-stepped
returns-in-Blank-clause-stepped c =
    blank_step c.args.names.now c.args.rest.now c.requires.some (subst (IsScanned c.args.rest.now) c.in-Blank.is c.in_ok-scan.ensures.piece)

pub returns-in-Comment-clause-stepped : goal.returns-in-Comment-clause-stepped
returns-in-Comment-clause-stepped c =
    comment_step c.args.names.now c.args.rest.now c.in-Comment.len (subst (IsScanned c.args.rest.now) c.in-Comment.is c.in_ok-scan.ensures.piece)

pub returns-in_ok-name-in-Identifier-clause-stepped : goal.returns-in_ok-name-in-Identifier-clause-stepped
returns-in_ok-name-in-Identifier-clause-stepped c =
    let token = subst (IsScanned c.args.rest.now) c.in-Identifier.is c.in_ok-scan.ensures.piece in
    identifier_step c.args.names.now c.intern.new.self c.args.rest.now c.in-Identifier.len c.in_ok-name-in-Identifier.name.0 token
    c.in_ok-name-in-Identifier.ensures.added c.in_ok-name-in-Identifier.ensures.number

pub returns-in_ok-name-in-Marked-Symbol-default-clause-stepped : goal.returns-in_ok-name-in-Marked-Symbol-default-clause-stepped
returns-in_ok-name-in-Marked-Symbol-default-clause-stepped c =
    let marked = subst (IsScanned c.args.rest.now) c.in-Marked-Symbol-default.is c.in_ok-scan.ensures.piece in
    let token = subst (λ m. IsToken c.args.rest.now (mark_form m) c.in-Marked-Symbol-default.len) c.in-Marked-Symbol-default.field-0-is marked in
    symbol_step c.args.names.now c.intern-in-Marked-Symbol-default.new.self c.args.rest.now c.in-Marked-Symbol-default.symbol c.in-Marked-Symbol-default.len
    c.in_ok-name-in-Marked-Symbol-default.name.0 token c.in_ok-name-in-Marked-Symbol-default.ensures.added c.in_ok-name-in-Marked-Symbol-default.ensures.number

pub returns-in-Marked-Sign-default-clause-stepped : goal.returns-in-Marked-Sign-default-clause-stepped
returns-in-Marked-Sign-default-clause-stepped c =
    let marked = subst (IsScanned c.args.rest.now) c.in-Marked-Sign-default.is c.in_ok-scan.ensures.piece in
    let token = subst (λ m. IsToken c.args.rest.now (mark_form m) c.in-Marked-Sign-default.len) c.in-Marked-Sign-default.field-0-is marked in
    token_step c.args.names.now c.args.rest.now (sign c.in-Marked-Sign-default.sign) c.in-Marked-Sign-default.len refl token

pub returns-in-Word-clause-stepped : goal.returns-in-Word-clause-stepped
returns-in-Word-clause-stepped c =
    token_step c.args.names.now c.args.rest.now (keyword c.in-Word.keyword) c.in-Word.len refl (subst (IsScanned c.args.rest.now) c.in-Word.is c.in_ok-scan.ensures.piece)

pub returns-in-Number-clause-stepped : goal.returns-in-Number-clause-stepped
returns-in-Number-clause-stepped c =
    let token = subst (IsScanned c.args.rest.now) c.in-Number.is c.in_ok-scan.ensures.piece in
    let step = token_step c.args.names.now c.args.rest.now (number c.in-Number.value) c.in-Number.len refl token in
    subst (λ n. HasStepped c.args.names.now c.args.names.now c.args.rest.now (Some (Number n)) c.in-Number.len) (sym (to_z-of_z w64 c.in-Number.value (within_fits c.in-Number.value token.piece.1))) step

pub returns-in-Character-clause-stepped : goal.returns-in-Character-clause-stepped
returns-in-Character-clause-stepped c =
    token_step c.args.names.now c.args.rest.now (character c.in-Character.value) c.in-Character.len refl (subst (IsScanned c.args.rest.now) c.in-Character.is c.in_ok-scan.ensures.piece)

pub returns-in-String-clause-stepped : goal.returns-in-String-clause-stepped
returns-in-String-clause-stepped c =
    token_step c.args.names.now c.args.rest.now (string c.in-String.values) c.in-String.len refl (subst (IsScanned c.args.rest.now) c.in-String.is c.in_ok-scan.ensures.piece)
