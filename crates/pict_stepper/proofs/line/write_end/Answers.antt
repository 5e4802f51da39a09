use Rattle.std.proofs.Common.{◌++◌, ◌∷◌, [], ap, sym, ◌∙◌}
use Rattle.pict_stepper.specs.Lines.{place_text, end_line}
use Rattle.pict_stepper.proofs.Writing.{before}
use Rattle.pict_stepper.proofs.line.write_end.Goals as goal

pub returns-in_ok-push-in-Trap : goal.returns-in_ok-push-in-Trap
returns-in_ok-push-in-Trap c =
    let o0 = c.args.out.now.items in
    let o1 = c.extend_from_slice-in-Trap.new.self.items in
    let o2 = c.write_place.new.out.items in
    let o3 = c.push.new.self.items in
    let place = place_text c.args.sources.now.list.items c.in-Trap.at in
    before o0 o1 o3 (101 ∷ 110 ∷ 100 ∷ 9 ∷ 100 ∷ 105 ∷ 118 ∷ 105 ∷ 100 ∷ 101 ∷ 115 ∷ 9 ∷ []) (place ++ 10 ∷ []) c.in_ok-extend_from_slice-in-Trap.ensures.items
    (before o1 o2 o3 place (10 ∷ []) c.in_ok-write_place-in-Trap.ensures.text c.in_ok-push-in-Trap.ensures.items)
    ∙ ap (λ e. c.args.out.now.items ++ end_line c.args.sources.now.list.items e) (sym c.in-Trap.is)
