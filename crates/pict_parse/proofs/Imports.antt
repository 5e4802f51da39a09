-- The verdict where the loop over the imports ends: a name is refused, or the declarations behind them are.
use Rattle.std.proofs.Common.{◌≡◌, ℕ, ◌+◌, ◌-◌, ◌<◌, List, Option, length, take, drop, get_or, sym, subst, IfSome}
use Rattle.std.specs.Prelude.{Err}
use Rattle.pict_syntax.specs.declared.span.Span.{Span}
use Rattle.pict_syntax.specs.declared.token.Token.{Token}
use Rattle.pict_syntax.specs.declared.token.TokenKind.TheVariants.{Keyword}
use Rattle.pict_syntax.specs.declared.token.Keyword.TheVariants.{Import as ImportKeyword}
use Rattle.pict_syntax.specs.declared.tree.Import.{Import}
use Rattle.pict_syntax.specs.Trees.{Decs}
use Rattle.pict_syntax.specs.Programs.{Program, declarations, programs}
use Rattle.pict_syntax.specs.Verdicts.{Verdict, IsVerdict, Unexpected}
use Rattle.pict_programs.proofs.Beginnings.{BeginsWithout}
use Rattle.pict_programs.proofs.Reading.{HasRead, no_string_here, declared_unexpected, declared_nested, rest_all}
use Rattle.pict_parse.specs.declared.entry.ParseError.{ParseError}
use Rattle.pict_parse.specs.declared.entry.ParseError.TheVariants as answer
use Rattle.pict_parse.specs.Answers.{refused, IsImportOf}

-- the token behind the keyword is refused
pub refused_name : (ts : List Token) (end : Span) (at : ℕ) (is : List Import) (a b : Token) (e : ParseError) → at + 1 < length ts → a ≡ get_or ts at a → b ≡ get_or ts (at + 1) b → a.kind ≡ Keyword ImportKeyword
    → IsImportOf b (Err e) → HasRead ts end at is → IfSome (refused {A = Program} e) (IsVerdict programs ts end)
refused_name ts end at is a b (answer.Unexpected span) h e f k n r = subst (λ s. IsVerdict programs ts end (Unexpected s)) (sym n.1) (no_string_here ts end at is a b h e f k n.0 r)
refused_name ts end at is a b (answer.TooNested span) h e f k n r = absurd n
refused_name ts end at is a b answer.Memory h e f k n r = tt

-- the declarations behind the imports are refused
pub refused_declarations : (ts : List Token) (end : Span) (at : ℕ) (is : List Import) (e : ParseError) → BeginsWithout (drop at ts) → HasRead ts end at is → IfSome (refused {A = Decs} e) (IsVerdict declarations (drop at ts) end)
    → IfSome (refused {A = Program} e) (IsVerdict programs ts end)
refused_declarations ts end at is (answer.Unexpected span) m r h = declared_unexpected ts end at is span m r h
refused_declarations ts end at is (answer.TooNested span) m r h = declared_nested ts end at is span m r h
refused_declarations ts end at is answer.Memory m r h = tt

-- the verdict on the rest of the slice, whose end is told, is that on what is left
pub of_rest : (ts : List Token) (at : ℕ) (place end : Span) → place ≡ end → (said : Option (Verdict Decs)) → IfSome said (IsVerdict declarations (take (length ts - at) (drop at ts)) place) → IfSome said (IsVerdict declarations (drop at ts) end)
of_rest ts at place end e said h = subst (λ p. IfSome said (IsVerdict declarations (drop at ts) p)) e (subst (λ l. IfSome said (IsVerdict declarations l place)) (rest_all ts at) h)
