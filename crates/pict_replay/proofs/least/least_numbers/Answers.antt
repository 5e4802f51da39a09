use Rattle.std.proofs.Common.{◌≡◌, ◌+◌, ◌-◌, ◌<◌, rules, map, length, get_or, sym, ap, ◌∙◌, subst, arith}
use Rattle.std.proofs.lemmas.List.{length-map, length-set, get_or-map}
use Rattle.pict_trace.specs.Plain.{plain_line}
use Rattle.pict_trace.specs.declared.lines.TraceLine.{TraceLine}
use Rattle.pict_replay.specs.Least.{least_of}
use Rattle.pict_replay.proofs.LeastOnes.{LeastFrom, least_begun, least_more}
use Rattle.pict_replay.proofs.least.least_numbers.Goals as goal

pub loop-i-init : goal.loop-i-init
loop-i-init c =
    let many : length c.in_ok-least.least.items ≡ length c.args.lines.now = search rules in
    record { many = many; from = least_begun (map plain_line c.args.lines.now) c.in_ok-least.least.items (length c.args.lines.now) (length-map c.args.lines.now plain_line) many }

pub loop-i-preserved : goal.loop-i-preserved
loop-i-preserved c =
    let xs = c.args.lines.now in
    let least = c.loop-i.least.items in
    let i = c.loop-i.i - 1 in
    let elem = c.index-lines-i.result in
    let inside : i < length xs = let a = c.loop-i.auto.i in let b = c.loop-i-test.true in omega (arith, a, b) in
    let all = length-map xs plain_line in
    let is : plain_line elem ≡ get_or (map plain_line xs) i (plain_line elem) = ap plain_line c.index-lines-i.is ∙ sym (get_or-map plain_line xs i elem (plain_line elem) inside) in
    let next : c.loop-i.i ≡ i + 1 = let b = c.loop-i-test.true in omega (arith, b) in
    let size = length-set least i c.least_of-number.result in
    record {
      many = size ∙ c.loop-i.invariant.many;
      from = least_more (map plain_line xs) least i c.least_of-number.result (plain_line elem) (omega (arith, inside, all)) (c.loop-i.invariant.many ∙ sym all) is
          (c.least_of-number.ensures ∙ ap (λ (e : TraceLine). least_of e.number c.number_at.result) (sym c.index-lines-i.is) ∙ ap (least_of elem.number) (cc (c.number_at.ensures, c.deref.ensures.value)))
          (subst (LeastFrom (map plain_line xs) least) next c.loop-i.invariant.from);
    }
