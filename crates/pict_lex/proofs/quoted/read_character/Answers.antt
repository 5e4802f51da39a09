use Rattle.std.proofs.Common.{subst}
use Rattle.pict_lex.specs.Due.{IsItemAt}
use Rattle.pict_lex.proofs.RunLemmas.{slice_rest}
use Rattle.pict_lex.proofs.QuotedLemmas.{character_token}
use Rattle.pict_lex.proofs.quoted.read_character.Goals as goal

pub returns-in-Item-clause-token : goal.returns-in-Item-clause-token
returns-in-Item-clause-token c =
    let item = subst (λ t. IsItemAt 39 t c.in-Item.value c.in-Item.len) (slice_rest c.args.rest.now 1) c.in-Item.ensures in
    character_token c.args.rest.now c.in-Item.value c.in-Item.len c.requires item c.if-len-rest.true c.if-rest-len-eq39.true
