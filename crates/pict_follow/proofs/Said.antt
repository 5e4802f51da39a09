-- What a token says beside its kind, and a token of the same kind that says something else.
use Rattle.std.proofs.Common.{◌≡◌, ℕ, ℤ, List, [], refl, pos}
use Rattle.pict_syntax.specs.declared.name.Name.{Name}
use Rattle.pict_syntax.specs.declared.token.TokenKind.{TokenKind}
use Rattle.pict_syntax.specs.declared.token.TokenKind.TheVariants.{Identifier, Symbol, Keyword, Number, Character, String, Sign}
use Rattle.pict_follow.specs.declared.class.Class.{Class}
use Rattle.pict_follow.specs.declared.class.Class.TheVariants.{Word}
use Rattle.pict_follow.specs.Classes.{class_of, sample_kind}
use Rattle.pict_automaton.specs.Places.{State}
use Rattle.pict_automaton.proofs.Finish.{Going}

-- what a name, a number, a character and a string say
pub record Said : Type 0 where
  pub name : Name
  pub number : ℤ
  pub byte : ℕ
  pub text : List ℕ

-- the token of this kind that says this
abbrev pub saying : Said → TokenKind → TokenKind
saying w (Identifier n) = Identifier w.name
saying w (Symbol s n) = Symbol s w.name
saying w (Keyword k) = Keyword k
saying w (Number n) = Number w.number
saying w (Character b) = Character w.byte
saying w (String b) = String w.text
saying w (Sign s) = Sign s

abbrev nothing_said : Said
nothing_said = record { name = record { 0 = 0 }; number = pos 0; byte = 0; text = [] }

-- what this token says
abbrev pub said_by : TokenKind → Said
said_by (Identifier n) = record nothing_said { name = n }
said_by (Symbol s n) = record nothing_said { name = n }
said_by (Keyword k) = nothing_said
said_by (Number n) = record nothing_said { number = n }
said_by (Character b) = record nothing_said { byte = b }
said_by (String b) = record nothing_said { text = b }
said_by (Sign s) = nothing_said

pub says_the_same : (k m : TokenKind) → class_of k ≡ class_of m → saying (said_by m) k ≡ m
says_the_same (Identifier n) (Identifier m) e = refl
says_the_same (Symbol s n) (Symbol t m) e = cc
says_the_same (Keyword k) (Keyword m) e = cc
says_the_same (Number n) (Number m) e = refl
says_the_same (Character b) (Character c) e = refl
says_the_same (String b) (String c) e = refl
says_the_same (Sign s) (Sign t) e = cc
says_the_same k m e = absurd cc

-- the sample of a kind is of this kind
pub sample_class : (class : Class) → class_of (sample_kind class) ≡ class
sample_class Word = refl
sample_class _ = refl

-- where one state goes on, so does the other
abbrev pub Keeps : State → State → Type 0
Keeps x y = Going x → Going y
