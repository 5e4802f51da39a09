use Rattle.std.proofs.Common.{◌+◌, Ok, refl, sym, subst, arith}
use Rattle.pict_syntax.specs.Programs.{programs}
use Rattle.pict_syntax.specs.Verdicts.{IsVerdict, Unexpected, end_place}
use Rattle.pict_programs.proofs.Reading.{HasRead, read_none, read_import, keyword_last, declared_whole, no_import_here, nothing_left}
use Rattle.pict_parse_states.specs.View.{decs_in}
use Rattle.pict_parse.specs.Answers.{declared, refused, verdict_of}
use Rattle.pict_parse.specs.declared.entry.ParseError.TheVariants as answer
use Rattle.pict_parse.proofs.Exact.{exact_program}
use Rattle.pict_parse.proofs.Imports.{refused_name, refused_declarations, of_rest}
use Rattle.pict_parse.proofs.entry.parse.Goals.{then-imports-test+else-is_import, else-imports-test}
use Rattle.pict_parse.proofs.entry.parse.Goals as goal

pub imports-init : goal.imports-init
imports-init c = record {
  read = subst (HasRead c.args.tokens.now (end_place c.args.tokens.now c.args.end) 0) (sym c.new-imports.ensures.items) (read_none c.args.tokens.now (end_place c.args.tokens.now c.args.end));
  within = omega arith;
}

pub imports-preserved : goal.imports-preserved
imports-preserved c = record {
  read =
      subst (HasRead c.args.tokens.now (end_place c.args.tokens.now c.args.end) (c.imports.at + 2)) (sym c.in_ok-push-in-Ok.ensures.items)
      (read_import c.args.tokens.now (end_place c.args.tokens.now c.args.end) c.imports.at c.imports.imports.items c.index-tokens-at.result c.index-tokens-at-in-imports.result c.in-Ok.import
      (omega (arith, c.imports-test.true, c.if-tokens-at-lt2.false)) c.index-tokens-at.is c.index-tokens-at-in-imports.is (c.if-is_import.ensures.yes refl) c.in-Ok.ensures.0 c.in-Ok.ensures.1 c.imports.invariant.read);
  within = omega (arith, c.imports-test.true, c.if-tokens-at-lt2.false);
}

pub returns-then-tokens-at-lt2-clause-verdict : goal.returns-then-tokens-at-lt2-clause-verdict
returns-then-tokens-at-lt2-clause-verdict c =
    subst (λ place. IsVerdict programs c.args.tokens.now (end_place c.args.tokens.now c.args.end) (Unexpected place)) (sym c.end_of-place.ensures)
    (keyword_last c.args.tokens.now (end_place c.args.tokens.now c.args.end) c.imports.at c.imports.imports.items c.index-tokens-at.result
    (omega (arith, c.imports-test.true, c.if-tokens-at-lt2.true)) c.index-tokens-at.is (c.if-is_import.ensures.yes refl) c.imports.invariant.read)

pub returns-in-Err-clause-verdict : goal.returns-in-Err-clause-verdict
returns-in-Err-clause-verdict c =
    refused_name c.args.tokens.now (end_place c.args.tokens.now c.args.end) c.imports.at c.imports.imports.items c.index-tokens-at.result c.index-tokens-at-in-imports.result c.in-Err.error
    (omega (arith, c.imports-test.true, c.if-tokens-at-lt2.false)) c.index-tokens-at.is c.index-tokens-at-in-imports.is (c.if-is_import.ensures.yes refl) c.in-Err.ensures c.imports.invariant.read

pub returns-in-Ok-parse_declarations-clause-verdict : goal.returns-in-Ok-parse_declarations-clause-verdict
returns-in-Ok-parse_declarations-clause-verdict c =
    declared_whole c.args.tokens.now (end_place c.args.tokens.now c.args.end) c.imports.at c.imports.imports.items (decs_in c.in-Ok-parse_declarations.decs)
    (elim c.imports-test.branch [ then-imports-test+else-is_import w ↦ no_import_here c.args.tokens.now c.imports.at w.index-tokens-at.result (omega (arith, w.imports-test.true)) w.index-tokens-at.is (w.if-is_import.ensures.no refl) | else-imports-test w ↦ nothing_left c.args.tokens.now c.imports.at (omega (arith, w.imports-test.false)) ])
    c.imports.invariant.read
    (of_rest c.args.tokens.now c.imports.at c.end_of-place.result (end_place c.args.tokens.now c.args.end) c.end_of-place.ensures (declared (Ok c.in-Ok-parse_declarations.decs)) c.in-Ok-parse_declarations.ensures.verdict)

pub returns-in-Err-parse_declarations-clause-verdict : goal.returns-in-Err-parse_declarations-clause-verdict
returns-in-Err-parse_declarations-clause-verdict c =
    refused_declarations c.args.tokens.now (end_place c.args.tokens.now c.args.end) c.imports.at c.imports.imports.items c.in-Err-parse_declarations.error
    (elim c.imports-test.branch [ then-imports-test+else-is_import w ↦ no_import_here c.args.tokens.now c.imports.at w.index-tokens-at.result (omega (arith, w.imports-test.true)) w.index-tokens-at.is (w.if-is_import.ensures.no refl) | else-imports-test w ↦ nothing_left c.args.tokens.now c.imports.at (omega (arith, w.imports-test.false)) ])
    c.imports.invariant.read
    (of_rest c.args.tokens.now c.imports.at c.end_of-place.result (end_place c.args.tokens.now c.args.end) c.end_of-place.ensures (refused c.in-Err-parse_declarations.error) c.in-Err-parse_declarations.ensures.verdict)

pub returns-then-tokens-at-lt2-clause-exact : goal.returns-then-tokens-at-lt2-clause-exact
returns-then-tokens-at-lt2-clause-exact c =
    exact_program c.args.tokens.now (end_place c.args.tokens.now c.args.end) (refused (answer.Unexpected c.end_of-place.result)) (returns-then-tokens-at-lt2-clause-verdict c)

pub returns-in-Err-clause-exact : goal.returns-in-Err-clause-exact
returns-in-Err-clause-exact c =
    exact_program c.args.tokens.now (end_place c.args.tokens.now c.args.end) (refused c.in-Err.error) (returns-in-Err-clause-verdict c)

pub returns-in-Ok-parse_declarations-clause-exact : goal.returns-in-Ok-parse_declarations-clause-exact
returns-in-Ok-parse_declarations-clause-exact c =
    exact_program c.args.tokens.now (end_place c.args.tokens.now c.args.end) (verdict_of (Ok (record { imports = c.imports.imports; decs = c.in-Ok-parse_declarations.decs }))) (returns-in-Ok-parse_declarations-clause-verdict c)

pub returns-in-Err-parse_declarations-clause-exact : goal.returns-in-Err-parse_declarations-clause-exact
returns-in-Err-parse_declarations-clause-exact c =
    exact_program c.args.tokens.now (end_place c.args.tokens.now c.args.end) (refused c.in-Err-parse_declarations.error) (returns-in-Err-parse_declarations-clause-verdict c)
