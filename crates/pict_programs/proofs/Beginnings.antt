-- No list of declarations begins with the keyword `import`: the machine that reads declarations stops at it.
use Rattle.std.proofs.Common.{List, [], ◌∷◌, append-nil, sym, subst}
use Rattle.pict_syntax.specs.declared.span.Span.{Span}
use Rattle.pict_syntax.specs.declared.token.Token.{Token}
use Rattle.pict_syntax.specs.declared.token.TokenKind.{TokenKind}
use Rattle.pict_syntax.specs.declared.token.TokenKind.TheVariants.{Keyword}
use Rattle.pict_syntax.specs.declared.token.Keyword.TheVariants.{Import as ImportKeyword}
use Rattle.pict_syntax.specs.Trees.{Decs}
use Rattle.pict_syntax.specs.Phrases.{token}
use Rattle.pict_syntax.specs.Place.{IsPrefix}
use Rattle.pict_syntax.specs.Programs.{declarations}
use Rattle.pict_automaton.proofs.Programs.{run_stop, no_prefix}

-- the keyword, and then these tokens
abbrev pub after_keyword : Span → List Token → List Token
after_keyword i ts = token (Keyword ImportKeyword) i ∷ ts

no_declarations_begin : (i : Span) (ts : List Token) → IsPrefix declarations (after_keyword i ts) → ⊥
no_declarations_begin i ts = no_prefix (after_keyword i ts) (run_stop ts)

pub no_declarations : (i : Span) (ts : List Token) (ds : Decs) → declarations.tree (after_keyword i ts) ds → ⊥
no_declarations i ts ds t = no_declarations_begin i ts ([], ds, subst (λ l. declarations.tree l ds) (sym (append-nil (after_keyword i ts))) t)

-- a token that isn't the keyword
abbrev pub NotImport : TokenKind → Type 0
NotImport (Keyword ImportKeyword) = ⊥
NotImport k = Unit {0}

-- the first token isn't the keyword, or there is none
abbrev pub BeginsWithout : List Token → Type 0
BeginsWithout [] = Unit {0}
BeginsWithout (t ∷ ts) = NotImport t.kind
