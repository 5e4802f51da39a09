use Rattle.std.proofs.Common.{◌+◌, [], ◌∷◌, ◌∙◌, sym, subst}
use Rattle.pict_syntax.specs.Tokens.{string}
use Rattle.pict_syntax.specs.Comments.{BeginsWith}
use Rattle.pict_lex.specs.Due.{IsItemAt}
use Rattle.pict_lex.specs.Scan.{IsToken}
use Rattle.pict_lex.proofs.RunLemmas.{slice_rest}
use Rattle.pict_lex.proofs.QuotedLemmas.{HasItems, one_item_more, string_token}
use Rattle.pict_lex.proofs.quoted.read_string.Goals as goal

pub items-preserved : goal.items-preserved
items-preserved c =
    let item = subst (λ t. IsItemAt 34 t c.in-Item.value c.in-Item.len) (slice_rest c.args.rest.now c.items.at) c.in-Item.ensures in
    let more = one_item_more c.args.rest.now c.items.at c.in-Item.value c.in-Item.len c.items.values.items c.items.invariant.read item in
    record { within = more.within; read = subst (HasItems c.args.rest.now (c.items.at + c.in-Item.len)) (sym c.in_ok-push-in-Item.ensures.items) more }

pub returns-in-Quote-clause-token : goal.returns-in-Quote-clause-token
returns-in-Quote-clause-token c =
    let quote = subst (BeginsWith (34 ∷ [])) (slice_rest c.args.rest.now c.items.at) c.in-Quote.ensures in
    let token = string_token c.args.rest.now c.items.at c.items.values.items c.items.invariant.read quote in
    subst (λ v. IsToken c.args.rest.now (string v) (c.items.at + 1)) (sym (c.in_ok-copy_of-in-Quote.ensures ∙ c.deref.ensures.value)) token
