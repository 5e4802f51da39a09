use Rattle.std.proofs.Common.{subst, sym, IfSome, Err}
use Rattle.pict_syntax.specs.PlainTrees.{program_of}
use Rattle.pict_gather.specs.Answers.{read_said}
use Rattle.pict_gather.specs.Reading.{Reads}
use Rattle.pict_gather.proofs.ReadAnswers.{cut_short, read_whole, read_refused}
use Rattle.pict_gather.proofs.reading.read.Goals as goal

pub returns-in-Err-clause-said : goal.returns-in-Err-clause-said
returns-in-Err-clause-said c =
    subst (λ e. IfSome (read_said c.lex.new.names (Err e)) (Reads c.args.names.now c.args.number c.args.text.now)) (sym c.of_lex_error.ensures)
    (cut_short c.args.names.now c.lex.new.names c.args.number c.args.text.now c.in-Err.error c.in-Err.ensures.refusal)

pub returns-in-Ok-parse-clause-said : goal.returns-in-Ok-parse-clause-said
returns-in-Ok-parse-clause-said c =
    read_whole c.args.names.now c.lex.new.names c.args.number c.args.text.now c.in-Ok.tokens.items c.in-Ok.ensures.tokens c.in-Ok.ensures.names (program_of c.in-Ok-parse.program)
    (rw (c.deref.ensures.value) at c.in-Ok-parse.ensures.verdict)

pub returns-clause-said : goal.returns-clause-said
returns-clause-said c =
    subst (λ e. IfSome (read_said c.lex.new.names (Err e)) (Reads c.args.names.now c.args.number c.args.text.now)) (sym c.of_parse_error.ensures)
    (read_refused c.args.names.now c.lex.new.names c.args.number c.args.text.now c.in-Ok.tokens.items c.in-Ok.ensures.tokens c.in-Ok.ensures.names c.in-Err-parse.error
    (rw (c.deref.ensures.value, c.length_of.ensures) at c.in-Err-parse.ensures.verdict))
