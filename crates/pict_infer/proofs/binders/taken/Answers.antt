-- The next variable is taken, and there is no definition among them.
use Rattle.std.proofs.Common.{◌≡◌, ◌<◌, ◌++◌, [], ◌∷◌, length, map, sym, ◌∙◌, ap, arith}
use Rattle.pict_types.specs.PlainContext.{plain_context}
use Rattle.pict_types.specs.PlainEntries.{plain_entry}
use Rattle.pict_rules.specs.Environments.{entries_of}
use Rattle.pict_infer.specs.declared.known.Binder.{Binder}
use Rattle.pict_infer.specs.Knowing.{known_type, known_types}
use Rattle.pict_infer.proofs.Taking.{fewer_under, no_definition, one_taken, turned}
use Rattle.pict_infer.proofs.binders.taken.Goals as goal

pub loop-c-preserved : goal.loop-c-preserved
loop-c-preserved c =
    let e = c.in-Some.entry in
    let d = plain_context c.loop-c.c in
    let left = plain_context c.take.new.self in
    let inside : c.args.left < length d = omega (arith, c.loop-c-test.true, c.len-in-loop-c.ensures) in
    let b : Binder = record { name = e.name; bound = c.in-Variable.bound } in
    let items : c.push_reserved.new.self.items ≡ c.loop-c.own.items ++ b ∷ [] = cc (c.push_reserved.ensures.items, c.in-Variable.bound-is) in
    record {
      under = fewer_under c.args.left (plain_entry e) left d c.loop-c.invariant.under c.in-Some.ensures.some inside;
      taken =
          one_taken (plain_context c.args.c.now) left d c.loop-c.own.items e c.in-Variable.bound c.loop-c.invariant.taken c.in-Some.ensures.some c.in-Variable.is
          ∙ sym (ap (λ z. entries_of (map known_type z) ++ left) items);
      names = c.take.ensures.names ∙ c.loop-c.invariant.names;
      room = omega (arith, ap length c.in-Some.ensures.some, c.loop-c.invariant.room, c.push_reserved.ensures.len, c.push_reserved.ensures.capacity, inside);
    }

pub unreachable-requires-in-Definition : goal.unreachable-requires-in-Definition
unreachable-requires-in-Definition c =
    let inside : c.args.left < length (plain_context c.loop-c.c) = omega (arith, c.loop-c-test.true, c.len-in-loop-c.ensures) in
    no_definition c.args.left c.in-Some.entry c.in-Definition.field-0 (plain_context c.take.new.self) (plain_context c.loop-c.c) c.loop-c.invariant.under c.in-Some.ensures.some inside c.in-Definition.is

pub returns-clause-taken : goal.returns-clause-taken
returns-clause-taken c =
    c.loop-c.invariant.taken ∙ ap (λ z. entries_of z ++ plain_context c.loop-c.c) (sym (ap known_types c.reverse.ensures.items ∙ turned c.loop-c.own.items))
