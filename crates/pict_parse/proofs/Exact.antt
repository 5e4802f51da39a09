-- An answer with a verdict is the only one.
use Rattle.std.proofs.Common.{inl, inr, List, Option, Some, None, refl, ap, IfSome}
use Rattle.pict_syntax.specs.declared.span.Span.{Span}
use Rattle.pict_syntax.specs.declared.token.Token.{Token}
use Rattle.pict_syntax.specs.Trees.{Decs}
use Rattle.pict_syntax.specs.Place.{Grammar}
use Rattle.pict_syntax.specs.Programs.{Program, declarations, programs}
use Rattle.pict_syntax.specs.Verdicts.{Verdict, IsVerdict, OneVerdict}
use Rattle.pict_automaton.proofs.OneVerdict.{one_verdict as one_list}
use Rattle.pict_programs.proofs.Once.{one_verdict}
use Rattle.pict_parse.specs.Answers.{Answers}

exact_of : {A : Type 0} (g : Grammar A) → OneVerdict g → (ts : List Token) (end : Span) (said : Option (Verdict A)) → IfSome said (IsVerdict g ts end) → (v : Verdict A) → IsVerdict g ts end v → Answers said v
exact_of g one ts end None h v w = inr refl
exact_of g one ts end (Some u) h v w = inl (ap Some (one ts end u v h w))

pub exact_declarations : (ts : List Token) (end : Span) (said : Option (Verdict Decs)) → IfSome said (IsVerdict declarations ts end) → (v : Verdict Decs) → IsVerdict declarations ts end v → Answers said v
exact_declarations = exact_of declarations one_list

pub exact_program : (ts : List Token) (end : Span) (said : Option (Verdict Program)) → IfSome said (IsVerdict programs ts end) → (v : Verdict Program) → IsVerdict programs ts end v → Answers said v
exact_program = exact_of programs one_verdict
