-- A list of tokens has a verdict: the imports are read, and then the declarations.
use Rattle.std.proofs.Common.{List, [], ◌∷◌}
use Rattle.pict_syntax.specs.declared.span.Span.{Span}
use Rattle.pict_syntax.specs.declared.token.Token.{Token}
use Rattle.pict_syntax.specs.declared.token.TokenKind.{TokenKind}
use Rattle.pict_syntax.specs.declared.token.TokenKind.TheVariants.{Keyword, String}
use Rattle.pict_syntax.specs.declared.token.Keyword.TheVariants.{Import as ImportKeyword}
use Rattle.pict_syntax.specs.Phrases.{token}
use Rattle.pict_syntax.specs.Programs.{Program, programs}
use Rattle.pict_syntax.specs.Verdicts.{Verdict, Unexpected, IsVerdict, SomeVerdict}
use Rattle.pict_total.proofs.Judged.{some_verdict as some_of_declarations}
use Rattle.pict_programs.proofs.Beginnings.{BeginsWithout}
use Rattle.pict_programs.proofs.Reading.{import_verdict, verdict_on, verdict_alone, verdict_no_string, alone_verdict, verdict_up}

abbrev HasVerdict : List Token → Span → Type 0
HasVerdict ts end = (v : Verdict Program) × IsVerdict programs ts end v

declared : (ts : List Token) (end : Span) → BeginsWithout ts → HasVerdict ts end
declared ts end m = let d = some_of_declarations ts end in (alone_verdict d.0, verdict_up ts end d.0 m d.1)

by_kind : (k : TokenKind) (i end : Span) → HasVerdict (token k i ∷ []) end
by_kind (Keyword ImportKeyword) i end = (Unexpected end, verdict_alone i end)
by_kind k i end = declared (token k i ∷ []) end tt

by_kinds : (k m : TokenKind) (i j : Span) (ts : List Token) (end : Span) → HasVerdict ts end → HasVerdict (token k i ∷ token m j ∷ ts) end
by_kinds (Keyword ImportKeyword) (String n) i j ts end (v, is) = (import_verdict n j v, verdict_on i n j ts end v is)
by_kinds (Keyword ImportKeyword) m i j ts end more = (Unexpected j, verdict_no_string i (token m j) ts end tt)
by_kinds k m i j ts end more = declared (token k i ∷ token m j ∷ ts) end tt

pub some_verdict : SomeVerdict programs
some_verdict [] end = declared [] end tt
some_verdict (t ∷ []) end = by_kind t.kind t.span end
some_verdict (t ∷ u ∷ ts) end = by_kinds t.kind u.kind t.span u.span ts end (some_verdict ts end)
