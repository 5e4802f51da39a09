-- Nothing is given, or nothing is missing; or what is given is matched.
use Rattle.std.proofs.Common.{length, sym, ◌∙◌, ap, subst}
use Rattle.pict_types.specs.Kinds.{IsWellFormed}
use Rattle.pict_types.specs.Plain.{plain}
use Rattle.pict_rules.specs.Regular.{FoundFits, IsExpected, kinds_in, kinds_within}
use Rattle.pict_infer.specs.Environments.{environment_of}
use Rattle.pict_lines.specs.Operators.{found_by, operator_of, type_if}
use Rattle.pict_lines.specs.Reading.{found_for}
use Rattle.pict_lines.proofs.Frames.{found_count}
use Rattle.pict_lines.proofs.NestedSteps.{known_given, matched_found, nothing_given, within_fields}
use Rattle.pict_lines.proofs.nested.field_given.Goals as goal
use Rattle.pict_lines.proofs.Ends.{on_any}

pub returns-in_default-clause-lines : goal.returns-in_default-clause-lines
returns-in_default-clause-lines c =
    λ v h. nothing_given (environment_of c.args.env.now) c.args.o.now.span v (plain c.args.t.now) (found_by c.args.o.now c.args.found.now) (type_if c.args.given.now) (ap type_if c.in_default.is)

pub returns-then-not-branch-clause-lines : goal.returns-then-not-branch-clause-lines
returns-then-not-branch-clause-lines c =
    λ v h. known_given (environment_of c.args.env.now) c.args.o.now.span v (plain c.args.t.now) (found_by c.args.o.now c.args.found.now) (type_if c.args.given.now)
    (sym (c.in_ok-mentions_missing.ensures (operator_of c.args.o.now).binders) ∙ c.if-not-branch.true)

pub given_fits-requires-clause-count : goal.given_fits-requires-clause-count
given_fits-requires-clause-count c =
    let k = (matched_found (environment_of c.args.env.now) (operator_of c.args.o.now).binders (plain c.args.t.now) (plain c.in-Some.g) (found_by c.args.o.now c.args.found.now) (found_by c.args.o.now c.match_type.new.found) c.requires.regular c.requires.field
    (subst (λ z. IsExpected (environment_of c.args.env.now) (type_if z)) c.in-Some.is c.requires.given) c.requires.found (rw c.context.ensures.entries at (c.in_ok-match_type.ensures (operator_of c.args.o.now).binders))) in
    ap length c.deref.ensures.value ∙ found_count c.args.o.now c.match_type.new.found k.kinds_

pub given_fits-requires-clause-t : goal.given_fits-requires-clause-t
given_fits-requires-clause-t c =
    let k = (matched_found (environment_of c.args.env.now) (operator_of c.args.o.now).binders (plain c.args.t.now) (plain c.in-Some.g) (found_by c.args.o.now c.args.found.now) (found_by c.args.o.now c.match_type.new.found) c.requires.regular c.requires.field
    (subst (λ z. IsExpected (environment_of c.args.env.now) (type_if z)) c.in-Some.is c.requires.given) c.requires.found (rw c.context.ensures.entries at (c.in_ok-match_type.ensures (operator_of c.args.o.now).binders))) in
    subst (λ z. IsWellFormed (environment_of c.args.env.now).names (kinds_within (kinds_in (environment_of c.args.env.now)) (found_for z c.match_type.new.found)) (plain c.args.t.now)) (sym c.deref.ensures.value)
    (within_fields (environment_of c.args.env.now) (operator_of c.args.o.now).binders (plain c.args.t.now) (found_by c.args.o.now c.match_type.new.found) c.requires.field k)

pub given_fits-requires-clause-fits : goal.given_fits-requires-clause-fits
given_fits-requires-clause-fits c =
    let k = (matched_found (environment_of c.args.env.now) (operator_of c.args.o.now).binders (plain c.args.t.now) (plain c.in-Some.g) (found_by c.args.o.now c.args.found.now) (found_by c.args.o.now c.match_type.new.found) c.requires.regular c.requires.field
    (subst (λ z. IsExpected (environment_of c.args.env.now) (type_if z)) c.in-Some.is c.requires.given) c.requires.found (rw c.context.ensures.entries at (c.in_ok-match_type.ensures (operator_of c.args.o.now).binders))) in
    subst (λ z. FoundFits (environment_of c.args.env.now) (found_for z c.match_type.new.found)) (sym c.deref.ensures.value) k.fits

pub returns-clause-found : goal.returns-clause-found
returns-clause-found c = on_any c.given_fits.result (matched_found (environment_of c.args.env.now) (operator_of c.args.o.now).binders (plain c.args.t.now) (plain c.in-Some.g) (found_by c.args.o.now c.args.found.now) (found_by c.args.o.now c.match_type.new.found) c.requires.regular c.requires.field
    (subst (λ z. IsExpected (environment_of c.args.env.now) (type_if z)) c.in-Some.is c.requires.given) c.requires.found (rw c.context.ensures.entries at (c.in_ok-match_type.ensures (operator_of c.args.o.now).binders)))
