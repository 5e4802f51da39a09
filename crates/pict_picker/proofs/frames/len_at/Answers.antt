use Rattle.std.proofs.Common.{◌≡◌, ◌≤◌, map, ◌∙◌, sym, subst, Some, arith}
use Rattle.pict_code.specs.Plain.{plain_node}
use Rattle.pict_picker.specs.Parts.{waiting_width}
use Rattle.pict_picker.proofs.Widths.{none_past}
use Rattle.pict_picker.proofs.frames.len_at.Goals as goal

pub returns-then-j-len : goal.returns-then-j-len
returns-then-j-len c w there =
    let both : Some c.get.result.now ≡ Some w = sym c.get.ensures ∙ there in
    let same : c.get.result.now ≡ w = cc in
    subst (λ x. waiting_width (map plain_node c.args.code.now) x ≤ c.waiting_len.result) same (omega (arith, c.waiting_len.ensures))

pub returns-else-j-len : goal.returns-else-j-len
returns-else-j-len c w there =
    let past = c.if-j-len.false in
    absurd (none_past c.args.list.now.items c.args.j w (omega (arith, past, c.len.ensures)) there)
