use Rattle.std.proofs.Common.{◌∷◌, Ok, sym, ◌∙◌, ap, subst}
use Rattle.std.proofs.lemmas.Bool.{false≢true}
use Rattle.pict_core.specs.Term.{Text}
use Rattle.pict_trace.specs.Reading.{Ends, EndsString, Reads}
use Rattle.pict_trace.proofs.Literals.{string_only, string_found, string_same, plain_text}
use Rattle.pict_trace.proofs.literal.read_string.Goals as goal

pub returns-then-not-at_end-clause-bad : goal.returns-then-not-at_end-clause-bad
returns-then-not-at_end-clause-bad c e =
    let found : EndsString c.args.after.now c.in-Some.bytes.items c.in-Some.rest.now = rw c.in-Some.is at c.in_ok-bytes.ensures.some in
    string_only c.args.after.now (λ bytes rest ends x. false≢true (sym c.if-not-at_end.true ∙ c.at_end.ensures.1 (subst Ends (string_same c.args.after.now bytes c.in-Some.bytes.items rest c.in-Some.rest.now x found) ends)))

pub returns-in_ok-copy_of-in-Some-clause-ok : goal.returns-in_ok-copy_of-in-Some-clause-ok
returns-in_ok-copy_of-in-Some-clause-ok c names =
    let found : EndsString c.args.after.now c.in-Some.bytes.items c.in-Some.rest.now = rw c.in-Some.is at c.in_ok-bytes.ensures.some in
    subst (λ v. Reads names 0 (34 ∷ c.args.after.now) v c.in-Some.rest.now) (sym (plain_text c.in_ok-copy_of-in-Some.field-0 ∙ ap Text (c.in_ok-copy_of-in-Some.ensures ∙ c.deref.ensures.value)))
    (string_found names c.args.after.now c.in-Some.bytes.items c.in-Some.rest.now found (c.at_end.ensures.0 c.if-not-at_end.false))

pub returns-in-None-clause-bad : goal.returns-in-None-clause-bad
returns-in-None-clause-bad c e = string_only c.args.after.now (λ bytes rest ends. c.string_bytes.ensures.none (c.in_ok-bytes.was ∙ ap Ok c.in-None.is) bytes rest)
