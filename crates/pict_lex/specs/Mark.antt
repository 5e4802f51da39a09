-- Signs and symbol names as one kind of token.
use Rattle.std.specs.Prelude.{ℕ, List}
use Rattle.pict_syntax.specs.Tokens.{Form, symbol, sign, symbol_text, sign_text}
use Rattle.pict_lex.specs.declared.mark.Mark.{Mark}
use Rattle.pict_lex.specs.declared.mark.Mark.TheVariants.{Sign, Symbol}

-- how it is written
abbrev pub mark_text : Mark → List ℕ
mark_text (Sign s) = sign_text s
mark_text (Symbol s) = symbol_text s

-- the form of the token
abbrev pub mark_form : Mark → Form
mark_form (Sign s) = sign s
mark_form (Symbol s) = symbol s
