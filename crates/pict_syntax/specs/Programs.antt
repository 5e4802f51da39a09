-- Programs: imports, and then declarations. Their tokens, and how deep each of them is nested.
use Rattle.std.specs.Prelude.{ℕ, List, [], ◌∷◌, ◌++◌}
use Rattle.pict_syntax.specs.declared.token.TokenKind.TheVariants.{String}
use Rattle.pict_syntax.specs.declared.token.Keyword.TheVariants.{Import as ImportKeyword}
use Rattle.pict_syntax.specs.declared.tree.Import.{Import}
use Rattle.pict_syntax.specs.Trees.{Decs}
use Rattle.pict_syntax.specs.Phrases.{Phrase, nothing, ◌▸◌, at, keyword}
use Rattle.pict_syntax.specs.Grammar.{AreDecs}
use Rattle.pict_syntax.specs.Nesting.{decs_nest}
use Rattle.pict_syntax.specs.Place.{Grammar}

-- the imports of a text, and its declarations
pub record Program : Type 0 where
  pub imports : List Import
  pub decs : Decs

-- Import ::= import String
abbrev pub IsImport : Import → Phrase
IsImport x = keyword ImportKeyword ▸ at (String x.name) x.span

-- Import*
unfoldable pub AreImports : List Import → Phrase
AreImports [] = nothing
AreImports (x ∷ xs) = IsImport x ▸ AreImports xs

-- Program ::= Import* Dec*
abbrev pub IsProgram : Program → Phrase
IsProgram p = AreImports p.imports ▸ AreDecs p.decs

-- both tokens of an import stand in no construct
unfoldable pub imports_nest : List Import → List ℕ
imports_nest [] = []
imports_nest (x ∷ xs) = 0 ∷ 0 ∷ imports_nest xs

-- the grammar of declarations alone, and that of programs
abbrev pub declarations : Grammar Decs
declarations = record { tree = λ ts ds. AreDecs ds ts; nestings = decs_nest 0 }

abbrev pub programs : Grammar Program
programs = record { tree = λ ts p. IsProgram p ts; nestings = λ p. imports_nest p.imports ++ decs_nest 0 p.decs }
