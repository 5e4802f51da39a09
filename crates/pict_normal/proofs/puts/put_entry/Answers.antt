-- A variable stands for itself, and a definition for its meaning moved by the variables inside it.
use Rattle.std.proofs.Common.{◌≡◌, ◌-◌, ◌+◌, ◌<◌, ◌≤◌, ◌^◌, ◌∙◌, length, sym, ap, subst, arith}
use Rattle.pict_types.specs.Entries.{Definition, variables}
use Rattle.pict_types.specs.Kinds.{kinds}
use Rattle.pict_types.specs.Plain.{plain_arg}
use Rattle.pict_types.specs.PlainContext.{plain_context}
use Rattle.pict_types.specs.PlainEntries.{plain_what}
use Rattle.pict_normal.specs.Putting.{HasRoom}
use Rattle.pict_types.specs.Places.{IsWhatAt}
use Rattle.pict_types.specs.Renaming.{moved, plus, rename}
use Rattle.pict_types.specs.Replacing.{variable, head_in, rename_head, type_in}
use Rattle.pict_types.specs.Types.{Var}
use Rattle.pict_types.proofs.Counting.{entries_around, inside_few, inside_length, outer_length}
use Rattle.pict_normal.proofs.Expanded.{variables_length}
use Rattle.pict_normal.proofs.Meant.{room_from_none, can_move, definition_head, definition_type, own_head, own_type, past_head, past_type, room_inside, variable_head, variable_type}
use Rattle.pict_types.proofs.Reaching.{kinds_length}
use Rattle.pict_normal.proofs.puts.put_entry.Goals as goal

pub overflow_sub-result : goal.overflow_sub-result
overflow_sub-result c = omega (arith, c.len.ensures, c.in-None.ensures.none)

pub overflow_add-result : goal.overflow_add-result
overflow_add-result c =
    omega (arith, c.len.ensures, c.variables.ensures.count, variables_length (plain_context c.args.c.now), c.in-None.ensures.none, c.ranges.i)

pub returns-in-None-clause-type_ : goal.returns-in-None-clause-type_
returns-in-None-clause-type_ c =
    let d = plain_context c.args.c.now in
    let e : c.args.i - c.len.result + c.variables.result ≡ c.args.i - length d + length (variables d) = omega (arith, c.len.ensures, c.variables.ensures.count) in
    ap Var e ∙ sym (past_type d c.args.i (c.args.i - length d) (omega (arith, c.in-None.ensures.none)))

pub returns-in-None-clause-head : goal.returns-in-None-clause-head
returns-in-None-clause-head c =
    let d = plain_context c.args.c.now in
    let e : c.args.i - c.len.result + c.variables.result ≡ c.args.i - length d + length (variables d) = omega (arith, c.len.ensures, c.variables.ensures.count) in
    ap variable e ∙ sym (past_head d c.args.i (c.args.i - length d) (omega (arith, c.in-None.ensures.none)))

pub returns-in-None-clause-room : goal.returns-in-None-clause-room
returns-in-None-clause-room c =
    omega (arith, c.len.ensures, c.variables.ensures.count, variables_length (plain_context c.args.c.now), c.in-None.ensures.none)

pub variables_inside-requires : goal.variables_inside-requires
variables_inside-requires c =
    record { entries = omega (arith, inside_length (plain_context c.args.c.now) c.args.i (plain_what c.in-Some-Variable.field-0.now) c.in-Some-Variable.ensures.some) }

pub returns-in-Some-Variable-clause-type_ : goal.returns-in-Some-Variable-clause-type_
returns-in-Some-Variable-clause-type_ c =
    let w = plain_what c.in-Some-Variable.field-0.now in
    ap Var c.variables_inside.ensures
    ∙ variable_type (plain_context c.args.c.now) c.args.i w c.in-Some-Variable.ensures.some (ap (λ x. own_type (plain_what x)) c.in-Some-Variable.field-0-is)

pub returns-in-Some-Variable-clause-head : goal.returns-in-Some-Variable-clause-head
returns-in-Some-Variable-clause-head c =
    let w = plain_what c.in-Some-Variable.field-0.now in
    ap variable c.variables_inside.ensures
    ∙ variable_head (plain_context c.args.c.now) c.args.i w c.in-Some-Variable.ensures.some (ap (λ x. own_head (plain_what x)) c.in-Some-Variable.field-0-is)

pub returns-in-Some-Variable-clause-room : goal.returns-in-Some-Variable-clause-room
returns-in-Some-Variable-clause-room c = omega (arith, c.variables_inside.ensures, inside_few c.args.i (plain_context c.args.c.now))

pub variables_inside-requires-in-Some-Definition : goal.variables_inside-requires-in-Some-Definition
variables_inside-requires-in-Some-Definition c =
    record { entries = omega (arith, inside_length (plain_context c.args.c.now) c.args.i (plain_what c.in-Some-Definition.field-0.now) c.in-Some-Definition.ensures.some) }

pub under-requires : goal.under-requires
under-requires c =
    let d = plain_context c.args.c.now in
    let i = c.args.i in
    let a = plain_arg c.in-Some-Definition.arg in
    let there : IsWhatAt d i (Definition a) = subst (λ x. IsWhatAt d i (plain_what x)) c.in-Some-Definition.field-0-is c.in-Some-Definition.ensures.some in
    let ks = kinds (variables (entries_around d i)) in
    let n : length ks + c.variables_inside-in-Some-Definition.result < 2 ^ 32 =
    omega (arith, kinds_length (variables (entries_around d i)), outer_length d i (Definition a) there, c.variables_inside-in-Some-Definition.ensures, c.args.c.now.few) in
    record {
      room = can_move c.put_of.result (length ks) 0 0 c.variables_inside-in-Some-Definition.result (c.put_of.ensures.room (length ks) 0) (omega (arith, n)) (omega (arith, n));
    }

pub returns-in-Some-Definition-clause-type_ : goal.returns-in-Some-Definition-clause-type_
returns-in-Some-Definition-clause-type_ c =
    let d = plain_context c.args.c.now in
    let a = plain_arg c.in-Some-Definition.arg in
    let there : IsWhatAt d c.args.i (Definition a) = subst (λ x. IsWhatAt d c.args.i (plain_what x)) c.in-Some-Definition.field-0-is c.in-Some-Definition.ensures.some in
    c.under.ensures.type_
    ∙ ap (rename (moved c.variables_inside-in-Some-Definition.result 0)) c.put_of.ensures.type_
    ∙ ap (λ n. rename (moved n 0) (type_in a)) c.variables_inside-in-Some-Definition.ensures
    ∙ definition_type d c.args.i a there

pub returns-in-Some-Definition-clause-head : goal.returns-in-Some-Definition-clause-head
returns-in-Some-Definition-clause-head c =
    let d = plain_context c.args.c.now in
    let a = plain_arg c.in-Some-Definition.arg in
    let there : IsWhatAt d c.args.i (Definition a) = subst (λ x. IsWhatAt d c.args.i (plain_what x)) c.in-Some-Definition.field-0-is c.in-Some-Definition.ensures.some in
    c.under.ensures.head
    ∙ ap (rename_head (plus c.variables_inside-in-Some-Definition.result)) c.put_of.ensures.head
    ∙ ap (λ n. rename_head (plus n) (head_in a)) c.variables_inside-in-Some-Definition.ensures
    ∙ definition_head d c.args.i a there

pub returns-in-Some-Definition-clause-room : goal.returns-in-Some-Definition-clause-room
returns-in-Some-Definition-clause-room c =
    let d = plain_context c.args.c.now in
    let i = c.args.i in
    let a = plain_arg c.in-Some-Definition.arg in
    let there : IsWhatAt d i (Definition a) = subst (λ x. IsWhatAt d i (plain_what x)) c.in-Some-Definition.field-0-is c.in-Some-Definition.ensures.some in
    let vs = variables (entries_around d i) in
    let ks = kinds vs in
    let by = c.variables_inside-in-Some-Definition.result in
    let room : HasRoom (length ks) 0 0 c.put_of.result = c.put_of.ensures.room (length ks) 0 in
    let all : length ks + by ≤ length (variables d) = omega (arith, kinds_length vs, outer_length d i (Definition a) there, c.variables_inside-in-Some-Definition.ensures) in
    let few : by ≤ i = omega (arith, c.variables_inside-in-Some-Definition.ensures, inside_few i d) in
    room_inside c.under.result (length ks) by (length (variables d)) i all few (room_from_none c.under.result (length ks) by 0 (c.under.ensures.room (length ks) 0 0 room))
