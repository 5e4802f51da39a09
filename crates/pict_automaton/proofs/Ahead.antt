-- Kinds of tokens by what they may follow.
use Rattle.pict_syntax.specs.declared.token.TokenKind.{TokenKind}
use Rattle.pict_syntax.specs.declared.token.TokenKind.TheVariants.{Identifier, Symbol, Keyword, Number, Character, String, Sign}
use Rattle.pict_syntax.specs.declared.token.Keyword.TheVariants.{And, False, If, Rec, True, BoolType, CharType, IntType, StringType, TopType}
use Rattle.pict_syntax.specs.declared.token.Sign.TheVariants.{Bang, Question, Equals, OpenParen, CloseParen, OpenBracket, Colon, Less, Greater, Backslash, Caret, Slash, Hash, Underscore}

-- what may stand behind a type binder without a bound
abbrev pub Unbound : TokenKind → Type 0
Unbound (Sign Colon) = ⊥
Unbound (Sign Less) = ⊥
Unbound k = Unit {0}

-- what may stand behind binders, behind a field or a declaration that is whole
abbrev pub Calm : TokenKind → Type 0
Calm (Sign Colon) = ⊥
Calm (Sign Less) = ⊥
Calm (Sign Greater) = ⊥
Calm (Sign Equals) = ⊥
Calm (Sign Hash) = ⊥
Calm (Keyword And) = ⊥
Calm k = Unit {0}

pub calm_unbound : (k : TokenKind) → Calm k → Unbound k
calm_unbound (Sign Colon) h = h
calm_unbound (Sign Less) h = h
calm_unbound k h = tt

-- what is no sign that opens a bound
abbrev pub NotLess : TokenKind → Type 0
NotLess (Sign Less) = ⊥
NotLess k = Unit {0}

pub unbound_less : (k : TokenKind) → Unbound k → NotLess k
unbound_less (Sign Less) h = h
unbound_less k h = tt

-- what begins a type, but for an identifier
abbrev pub BeginsType : TokenKind → Type 0
BeginsType (Keyword TopType) = Unit {0}
BeginsType (Keyword IntType) = Unit {0}
BeginsType (Keyword CharType) = Unit {0}
BeginsType (Keyword StringType) = Unit {0}
BeginsType (Keyword BoolType) = Unit {0}
BeginsType (Sign Caret) = Unit {0}
BeginsType (Sign Question) = Unit {0}
BeginsType (Sign Bang) = Unit {0}
BeginsType (Sign Slash) = Unit {0}
BeginsType (Sign OpenBracket) = Unit {0}
BeginsType (Sign OpenParen) = Unit {0}
BeginsType k = ⊥

pub type_calm : (k : TokenKind) → BeginsType k → Calm k
type_calm (Sign Colon) h = h
type_calm (Sign Less) h = h
type_calm (Sign Greater) h = h
type_calm (Sign Equals) h = h
type_calm (Sign Hash) h = h
type_calm (Keyword And) h = h
type_calm k h = tt

-- what begins a type
abbrev pub StartsType : TokenKind → Type 0
StartsType (Identifier n) = Unit {0}
StartsType k = BeginsType k

pub starts_calm : (k : TokenKind) → StartsType k → Calm k
starts_calm (Identifier n) h = tt
starts_calm k h = type_calm k h

-- what may stand behind a pattern
abbrev pub NotColon : TokenKind → Type 0
NotColon (Sign Colon) = ⊥
NotColon k = Unit {0}

pub calm_colon : (k : TokenKind) → Calm k → NotColon k
calm_colon (Sign Colon) h = h
calm_colon k h = tt

-- what begins a pattern, but for an identifier
abbrev pub BeginsPat : TokenKind → Type 0
BeginsPat (Sign Underscore) = Unit {0}
BeginsPat (Sign OpenBracket) = Unit {0}
BeginsPat (Sign OpenParen) = Unit {0}
BeginsPat k = ⊥

pub pattern_calm : (k : TokenKind) → BeginsPat k → Calm k
pattern_calm (Sign Colon) h = h
pattern_calm (Sign Less) h = h
pattern_calm (Sign Greater) h = h
pattern_calm (Sign Equals) h = h
pattern_calm (Sign Hash) h = h
pattern_calm (Keyword And) h = h
pattern_calm k h = tt

-- what is no opening parenthesis
abbrev pub NotOpen : TokenKind → Type 0
NotOpen (Sign OpenParen) = ⊥
NotOpen k = Unit {0}

-- what begins a type binder
abbrev pub BeginsBinder : TokenKind → Type 0
BeginsBinder (Sign Hash) = Unit {0}
BeginsBinder k = ⊥

pub binder_unbound : (k : TokenKind) → BeginsBinder k → Unbound k
binder_unbound (Sign Hash) h = tt
binder_unbound k h = absurd h

-- what is no `rec`
abbrev pub NotRec : TokenKind → Type 0
NotRec (Keyword Rec) = ⊥
NotRec k = Unit {0}

pub hash_rec : (k : TokenKind) → BeginsBinder k → NotRec k
hash_rec (Sign Hash) h = tt
hash_rec k h = absurd h

-- what is no sign of `( Name > .. )` or `( Name < .. )`
abbrev pub NotSide : TokenKind → Type 0
NotSide (Sign Greater) = ⊥
NotSide (Sign Less) = ⊥
NotSide k = Unit {0}

-- what begins a value, but for an identifier
abbrev pub BeginsVal : TokenKind → Type 0
BeginsVal (Symbol y n) = Unit {0}
BeginsVal (Number n) = Unit {0}
BeginsVal (Character b) = Unit {0}
BeginsVal (String b) = Unit {0}
BeginsVal (Keyword True) = Unit {0}
BeginsVal (Keyword False) = Unit {0}
BeginsVal (Keyword If) = Unit {0}
BeginsVal (Sign OpenParen) = Unit {0}
BeginsVal (Sign OpenBracket) = Unit {0}
BeginsVal (Sign Backslash) = Unit {0}
BeginsVal k = ⊥

-- what may stand behind the first value in parentheses, where it is applied
abbrev pub Applies : TokenKind → Type 0
Applies (Identifier n) = Unit {0}
Applies (Sign Hash) = Unit {0}
Applies (Sign CloseParen) = Unit {0}
Applies k = BeginsVal k

pub applies_side : (k : TokenKind) → Applies k → NotSide k
applies_side (Sign Greater) h = h
applies_side (Sign Less) h = h
applies_side k h = tt

-- what begins a value
abbrev pub StartsVal : TokenKind → Type 0
StartsVal (Identifier n) = Unit {0}
StartsVal k = BeginsVal k

pub value_applies : (k : TokenKind) → StartsVal k → Applies k
value_applies (Identifier n) h = tt
value_applies (Sign Hash) h = absurd h
value_applies (Sign CloseParen) h = absurd h
value_applies k h = h

pub value_calm : (k : TokenKind) → StartsVal k → Calm k
value_calm (Sign Colon) h = h
value_calm (Sign Less) h = h
value_calm (Sign Greater) h = h
value_calm (Sign Equals) h = h
value_calm (Sign Hash) h = h
value_calm (Keyword And) h = h
value_calm k h = tt

-- a closing parenthesis
abbrev pub Closes : TokenKind → Type 0
Closes (Sign CloseParen) = Unit {0}
Closes k = ⊥

pub closes_applies : (k : TokenKind) → Closes k → Applies k
closes_applies (Sign CloseParen) h = tt
closes_applies k h = absurd h

pub closes_calm : (k : TokenKind) → Closes k → Calm k
closes_calm (Sign CloseParen) h = tt
closes_calm k h = absurd h

pub closes_rec : (k : TokenKind) → Closes k → NotRec k
closes_rec (Sign CloseParen) h = tt
closes_rec k h = absurd h
