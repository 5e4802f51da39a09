use Rattle.std.proofs.Common.{◌++◌, ◌∷◌, [], option_map, ap, sym, ◌∙◌}
use Rattle.std.specs.Fmt.{decimal}
use Rattle.pict_reference.specs.Plain.{plain_entry, plain_label}
use Rattle.pict_stepper.specs.Told.{stamp_of}
use Rattle.pict_stepper.specs.Lines.{rule_text, stamp_text, label_text}
use Rattle.pict_stepper.proofs.Writing.{before, five}
use Rattle.pict_stepper.proofs.line.write_step.Goals as goal

pub returns : goal.returns
returns c =
    let t = c.args.step.now in
    let row = rule_text t.rule in
    let partner = stamp_text (stamp_of (option_map plain_entry t.partner)) in
    let label = label_text c.args.names.now (plain_label t.label) in
    let number = decimal c.args.number in
    let stamp = decimal t.actor.stamp in
    let o0 = c.args.out.now.items in
    let o1 = c.extend_from_slice.new.self.items in
    let o2 = c.write_decimal.new.out.items in
    let o3 = c.push.new.self.items in
    let o4 = c.write_decimal-2.new.out.items in
    let o5 = c.push-2.new.self.items in
    let o6 = c.extend_from_slice-2.new.self.items in
    let o7 = c.push-3.new.self.items in
    let o8 = c.write_partner.new.out.items in
    let o9 = c.push-4.new.self.items in
    let o10 = c.write_label.new.out.items in
    let o11 = c.push-5.new.self.items in
    let r10 = 10 ∷ [] in
    let r9 = label ++ r10 in
    let r8 = 9 ∷ r9 in
    let r7 = partner ++ r8 in
    let r6 = 9 ∷ r7 in
    let r5 = row ++ r6 in
    let r4 = 9 ∷ r5 in
    let r3 = stamp ++ r4 in
    let r2 = 9 ∷ r3 in
    let r1 = number ++ r2 in
    before o0 o1 o11 (115 ∷ 116 ∷ 101 ∷ 112 ∷ 9 ∷ []) r1 c.in_ok-extend_from_slice.ensures.items
    (before o1 o2 o11 number r2 c.in_ok-write_decimal.ensures
    (before o2 o3 o11 (9 ∷ []) r3 c.in_ok-push.ensures.items
    (before o3 o4 o11 stamp r4 c.in_ok-write_decimal-2.ensures
    (before o4 o5 o11 (9 ∷ []) r5 c.in_ok-push-2.ensures.items
    (before o5 o6 o11 row r6 (c.in_ok-extend_from_slice-2.ensures.items ∙ ap (λ b. c.push-2.new.self.items ++ b) (c.as_bytes.ensures.value ∙ c.name.ensures.text))
    (before o6 o7 o11 (9 ∷ []) r7 c.in_ok-push-3.ensures.items
    (before o7 o8 o11 partner r8 c.in_ok-write_partner.ensures
    (before o8 o9 o11 (9 ∷ []) r9 c.in_ok-push-4.ensures.items
    (before o9 o10 o11 label r10 c.in_ok-write_label.ensures.text c.in_ok-push-5.ensures.items)))))))))
    ∙ ap (λ b. o0 ++ (115 ∷ 116 ∷ 101 ∷ 112 ∷ 9 ∷ b)) (sym (five number stamp row partner label (10 ∷ [])))
