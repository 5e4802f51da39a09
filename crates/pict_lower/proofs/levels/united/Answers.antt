use Rattle.std.proofs.Common.{◌≡◌, ◌+◌, ◌<◌, ◌≤◌, ◌++◌, nat_le, drop, take, length, get_or, ap, sym, ◌∙◌, arith}
use Rattle.std.specs.Int.{from_bool}
use Rattle.std.proofs.lemmas.List.{take_rest}
use Rattle.pict_code.specs.Levels.{has}
use Rattle.pict_lower.proofs.United.{step, at_most_one, ended}
use Rattle.pict_lower.proofs.levels.united.Goals as goal

pub loop-i-preserved : goal.loop-i-preserved
loop-i-preserved c =
    let L = c.args.left.now in
    let R = c.args.right.now in
    let i = c.loop-i.i in
    let j = c.loop-i.j in
    let one = at_most_one (nat_le (get_or L i 0) (get_or R j 0)) in
    let other = at_most_one (nat_le (get_or R j 0) (get_or L i 0)) in (
      omega (arith, one, c.from-i.ensures),
      omega (arith, other, c.from-j.ensures),
      step L R c.loop-i.made.items i j (omega arith) (omega arith) c.loop-i.invariant.2 c.push.new.self.items c.min.result (i + c.from-i.result) (j + c.from-j.result)
          c.in_ok-push.ensures.items c.min.ensures (ap (λ n. i + n) c.from-i.ensures) (ap (λ n. j + n) c.from-j.ensures),
    )

pub returns-clause-both : goal.returns-clause-both
returns-clause-both c =
    ended c.args.left.now c.args.right.now c.loop-i.made.items c.extend_from_slice.new.self.items c.extend_from_slice-2.new.self.items c.loop-i.i c.loop-i.j
    c.in_ok-extend_from_slice.ensures.items c.in_ok-extend_from_slice-2.ensures.items c.loop-i.invariant.2
