use Rattle.std.proofs.Common.{◌++◌, Err, codes, sym, ◌∙◌, ap, subst}
use Rattle.pict_core.specs.Step.{Print}
use Rattle.pict_trace.specs.Reading.{ReadsShown}
use Rattle.pict_trace.proofs.Shown.{printing_found, no_string_bad, no_newline_bad}
use Rattle.pict_trace.proofs.lines.read_printing.Goals as goal

pub returns-clause-ok : goal.returns-clause-ok
returns-clause-ok c names =
    subst (λ b. ReadsShown names (codes "print \"" ++ c.args.text.now) (Print b) c.in_ok-rest.rest.now) (sym (c.in_ok-bytes.ensures ∙ c.deref.ensures.value))
    (printing_found names c.args.text.now c.in_ok-string.string.0.items c.in_ok-string.string.1.now c.in_ok-rest.rest.now c.in_ok-string.ensures.some c.in_ok-rest.ensures.ok)

pub returns-in_err-string-clause-bad : goal.returns-in_err-string-clause-bad
returns-in_err-string-clause-bad c e = no_string_bad c.args.text.now (c.string_before.ensures.bad (let k = rw e at c.from_residual.ensures.1 in c.in_err-string.was ∙ ap Err (sym k)))

pub returns-in_err-rest-clause-bad : goal.returns-in_err-rest-clause-bad
returns-in_err-rest-clause-bad c e =
    no_newline_bad c.args.text.now c.in_ok-string.string.0.items c.in_ok-string.string.1.now c.in_ok-string.ensures.some
    (c.end_line.ensures.bad (let k = rw e at c.from_residual-in_err-rest.ensures.1 in c.in_err-rest.was ∙ ap Err (sym k)))
