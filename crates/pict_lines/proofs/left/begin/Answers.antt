-- The ends of the body, each by one lemma.
use Rattle.std.proofs.Common.{rules, refl, arith}
use Rattle.pict_infer.specs.Environments.{environment_of}
use Rattle.pict_lines.specs.Nesting.{left_form}
use Rattle.pict_lines.specs.Operators.{type_if}
use Rattle.pict_lines.proofs.Beginning.{next_found, next_stopped, started_first, started_next, started_wanted, starts_next}
use Rattle.pict_lines.proofs.FormedOperators.{left_field, left_operator, left_regular}
use Rattle.pict_lines.proofs.Rights.{memory_refused}
use Rattle.pict_lines.proofs.left.begin.Goals as goal

pub down-init : goal.down-init
down-init c = started_first c.requires.form c.new-frames.ensures.items (omega arith) (search rules)

pub returns-clause-begun : goal.returns-clause-begun
returns-clause-begun c = record { begun = c.down.invariant.begun; count = omega (arith, c.down.invariant.few) }

pub start-requires-clause-regular : goal.start-requires-clause-regular
start-requires-clause-regular c = left_regular c.requires.form refl

pub start-requires-clause-formed : goal.start-requires-clause-formed
start-requires-clause-formed c = left_operator c.requires.form refl

pub start-requires-clause-wanted : goal.start-requires-clause-wanted
start-requires-clause-wanted c = started_wanted c.down.invariant

pub returns-in_err-before-clause-refused : goal.returns-in_err-before-clause-refused
returns-in_err-before-clause-refused c =
    let h = memory_refused (environment_of c.args.env.now) (left_form c.args.o.now c.args.vs.now) (type_if c.args.expected.now) c.in_err-before.field-0.0 c.in_err-before.ensures.memory in
    search (rules, h)

pub field_wanted-requires-clause-field : goal.field_wanted-requires-clause-field
field_wanted-requires-clause-field c = left_field c.requires.form refl c.first.ensures

pub field_wanted-requires-clause-found : goal.field_wanted-requires-clause-found
field_wanted-requires-clause-found c = next_found (starts_next c.in_ok-before.before c.down.invariant (omega arith) c.in_ok-before.ensures.found)

pub returns-in_err-inside-2-clause-refused : goal.returns-in_err-inside-2-clause-refused
returns-in_err-inside-2-clause-refused c =
    let h = next_stopped c.in_err-inside-2.field-0.0 (starts_next c.in_ok-before.before c.down.invariant (omega arith) c.in_ok-before.ensures.found) c.first.ensures c.in_err-inside-2.ensures.refused in
    search (rules, h)

pub down-preserved : goal.down-preserved
down-preserved c = started_next (starts_next c.in_ok-before.before c.down.invariant (omega arith) c.in_ok-before.ensures.found) c.first.ensures c.in_ok-inside-2.ensures.room c.in_ok-inside-2.ensures.wanted c.in_ok-push.ensures.items
