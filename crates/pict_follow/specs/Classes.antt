-- The kind of a token, and a token of each kind, which stands in no text.
use Rattle.std.specs.Prelude.{[], pos}
use Rattle.pict_syntax.specs.declared.token.Token.{Token}
use Rattle.pict_syntax.specs.declared.token.TokenKind.{TokenKind}
use Rattle.pict_syntax.specs.declared.token.TokenKind.TheVariants as token
use Rattle.pict_follow.specs.declared.class.Class.{Class}
use Rattle.pict_follow.specs.declared.class.Class.TheVariants.{Word, Symbol, Digits, Letter, Text, Key, Mark}

-- of a symbol name, a keyword and a sign it is which one; of the others no more than that they are a name, a number ..
abbrev pub class_of : TokenKind → Class
class_of (token.Identifier n) = Word
class_of (token.Symbol s n) = Symbol s
class_of (token.Keyword k) = Key k
class_of (token.Number n) = Digits
class_of (token.Character b) = Letter
class_of (token.String b) = Text
class_of (token.Sign s) = Mark s

-- what it says: the first name, 0, or nothing
abbrev pub sample_kind : Class → TokenKind
sample_kind Word = token.Identifier (record { 0 = 0 })
sample_kind (Symbol s) = token.Symbol s (record { 0 = 0 })
sample_kind Digits = token.Number (pos 0)
sample_kind Letter = token.Character 0
sample_kind Text = token.String []
sample_kind (Key k) = token.Keyword k
sample_kind (Mark s) = token.Sign s

abbrev pub sample : Class → Token
sample class = record { kind = sample_kind class; span = record { text = 0; start = 0; end = 0 } }
