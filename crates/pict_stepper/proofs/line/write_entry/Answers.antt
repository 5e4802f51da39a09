use Rattle.std.proofs.Common.{◌++◌, ◌∷◌, [], ap, sym, ◌∙◌}
use Rattle.std.specs.Fmt.{decimal}
use Rattle.pict_core.specs.Plain.{plain_core}
use Rattle.pict_reference.specs.Plain.{mark_of}
use Rattle.pict_stepper.specs.Lines.{mark_text, process_text, place_of}
use Rattle.pict_stepper.proofs.Writing.{before, four}
use Rattle.pict_stepper.proofs.line.write_entry.Goals as goal

pub returns : goal.returns
returns c =
    let e = c.args.entry.now in
    let stamp = decimal e.stamp in
    let mark = mark_text (mark_of e.ready) in
    let process = process_text c.args.names.now (plain_core e.process) in
    let place = place_of c.args.sources.now.list.items (plain_core e.process) in
    let o0 = c.args.out.now.items in
    let o1 = c.extend_from_slice.new.self.items in
    let o2 = c.write_decimal.new.out.items in
    let o3 = c.push.new.self.items in
    let o4 = c.extend_from_slice-2.new.self.items in
    let o5 = c.push-2.new.self.items in
    let o6 = c.write_process.new.out.items in
    let o7 = c.push-3.new.self.items in
    let o8 = c.write_place_of.new.out.items in
    let o9 = c.push-4.new.self.items in
    let r8 = 10 ∷ [] in
    let r7 = place ++ r8 in
    let r6 = 9 ∷ r7 in
    let r5 = process ++ r6 in
    let r4 = 9 ∷ r5 in
    let r3 = mark ++ r4 in
    let r2 = 9 ∷ r3 in
    let r1 = stamp ++ r2 in
    before o0 o1 o9 (99 ∷ 111 ∷ 109 ∷ 101 ∷ 9 ∷ []) r1 c.in_ok-extend_from_slice.ensures.items
    (before o1 o2 o9 stamp r2 c.in_ok-write_decimal.ensures
    (before o2 o3 o9 (9 ∷ []) r3 c.in_ok-push.ensures.items
    (before o3 o4 o9 mark r4 (c.in_ok-extend_from_slice-2.ensures.items ∙ ap (λ t. c.push.new.self.items ++ t) c.mark_word.ensures)
    (before o4 o5 o9 (9 ∷ []) r5 c.in_ok-push-2.ensures.items
    (before o5 o6 o9 process r6 c.in_ok-write_process.ensures.text
    (before o6 o7 o9 (9 ∷ []) r7 c.in_ok-push-3.ensures.items
    (before o7 o8 o9 place r8 c.in_ok-write_place_of.ensures.text c.in_ok-push-4.ensures.items)))))))
    ∙ ap (λ t. o0 ++ (99 ∷ 111 ∷ 109 ∷ 101 ∷ 9 ∷ t)) (sym (four stamp mark process place (10 ∷ [])))
