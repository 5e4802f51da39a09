-- The next type variable.
use Rattle.std.proofs.Common.{◌≡◌, ◌+◌, ◌++◌, length, map, refl, sym, ◌∙◌, ap, subst, arith}
use Rattle.std.specs.Option.{option_to_list}
use Rattle.pict_types.specs.Entries.{EntriesAreWellFormed, EntryIsWellFormed, Variable, variables}
use Rattle.pict_types.specs.Plain.{plain_bound}
use Rattle.pict_types.specs.PlainContext.{names_of, plain_context, type_context}
use Rattle.pict_rules.specs.Environments.{entries_of}
use Rattle.pict_infer.specs.Knowing.{known_type}
use Rattle.pict_infer.proofs.Growing.{all_left, entry_next, one_opened}
use Rattle.pict_infer.proofs.env.add_types.Goals as goal

pub loop-b-init : goal.loop-b-init
loop-b-init c = record {
  all = ap (λ z. entries_of (map known_type z) ++ plain_context c.args.context.now) c.reverse.ensures.items ∙ all_left c.args.binders.items (plain_context c.args.context.now);
  names = refl;
  grows = omega arith;
}

pub push-requires : goal.push-requires
push-requires c =
    let b = c.in-Some.b in
    let rest = c.pop.new.self.items in
    let d = plain_context c.loop-b.context in
    let is = c.pop.ensures.items ∙ ap (λ o. rest ++ option_to_list o) c.in-Some.is in
    let whole = ap (λ z. entries_of (map known_type z) ++ d) (sym is) ∙ c.loop-b.invariant.all in
    record {
      formed = subst (λ n. EntryIsWellFormed n (variables d) (Variable (plain_bound b.bound))) (sym c.loop-b.invariant.names)
          (entry_next (names_of c.args.context.now) rest b d (subst (EntriesAreWellFormed (names_of c.args.context.now)) (sym whole) c.requires.formed));
    }

pub loop-b-preserved : goal.loop-b-preserved
loop-b-preserved c =
    let b = c.in-Some.b in
    let rest = c.pop.new.self.items in
    let d = plain_context c.loop-b.context in
    let is = c.pop.ensures.items ∙ ap (λ o. rest ++ option_to_list o) c.in-Some.is in
    let whole = ap (λ z. entries_of (map known_type z) ++ d) (sym is) ∙ c.loop-b.invariant.all in
    let pushed = c.in_ok-push.ensures.pushed in
    let count : length (type_context c.push.new.self) ≡ 1 + length (type_context c.loop-b.context) = ap (λ z. length (variables z)) pushed ∙ omega arith in
    record {
      all = ap (λ z. entries_of (map known_type rest) ++ z) pushed ∙ sym (one_opened rest b d) ∙ whole;
      names = c.push.ensures.names ∙ c.loop-b.invariant.names;
      grows = omega (arith, count);
    }
