use Rattle.std.proofs.Common.{◌≡◌, Ok, refl, sym, ap, ◌∙◌, subst, arith}
use Rattle.pict_code.proofs.Lines.{on_err}
use Rattle.pict_desk.proofs.Making.{keeps_all}
use Rattle.pict_picker.specs.Deeds.{IsUndone}
use Rattle.pict_picker.specs.Picker.{core_in, heap_of}
use Rattle.pict_picker.specs.declared.did.Did.TheVariants as did
use Rattle.pict_picker.proofs.Channels.{same_many}
use Rattle.pict_picker.proofs.Deeds.{keeps_desk, heap_stays}
use Rattle.pict_picker.proofs.Taken.{there_low}
use Rattle.pict_picker.proofs.Whole.{own, own_here, still_kept, still_unchanged, whole_place, whole_kept, whole_ok, whole_trapped, stands_inside, room_for, lent_waits, lent_side, lent_lists, lent_here, lent_may, lent_keeps, lent_deed, answer_is}
use Rattle.pict_picker.proofs.picker.Picker.step_choice.Goals as goal

pub get-requires : goal.get-requires
get-requires c =
    let p = c.args.self.now in
    there_low (core_in p) (heap_of p) p.lists c.args.i (own p c.requires.kept c.args.i c.args.j c.requires.right) (own_here p c.requires.kept c.args.i c.args.j c.requires.right)

pub own_channel-channel-requires-clause-waiting : goal.own_channel-channel-requires-clause-waiting
own_channel-channel-requires-clause-waiting c =
    let p = c.args.self.now in
    (heap_of p, lent_waits p c.requires.kept c.args.i c.args.j c.requires.right c.deref.result.now c.deref.ensures.value c.get.result.now c.get.ensures)

pub reserve-requires : goal.reserve-requires
reserve-requires c =
    let p = c.args.self.now in
    record {
      there = stands_inside p c.requires.kept c.args.i c.args.j c.requires.right c.own_channel-channel.result (lent_side p c.requires.kept c.args.i c.args.j c.requires.right c.deref.result.now c.deref.ensures.value c.get.result.now c.get.ensures c.own_channel-channel.result
          (c.own_channel-channel.ensures (heap_of p) (lent_waits p c.requires.kept c.args.i c.args.j c.requires.right c.deref.result.now c.deref.ensures.value c.get.result.now c.get.ensures)));
    }

pub returns-in_err-reserve-clause-kept : goal.returns-in_err-reserve-clause-kept
returns-in_err-reserve-clause-kept c =
    let p = c.args.self.now in
    still_kept p c.requires.kept c.args.i c.args.j c.requires.right p.desk (keeps_desk (core_in p) p.desk c.requires.kept.desk) c.reserve.new.lists c.reserve.ensures.same

pub returns-in_err-reserve-clause-refused : goal.returns-in_err-reserve-clause-refused
returns-in_err-reserve-clause-refused c =
    let p = c.args.self.now in
    on_err c.from_residual.result (still_unchanged p c.requires.kept c.args.i c.args.j c.requires.right p.desk (keeps_desk (core_in p) p.desk c.requires.kept.desk) c.reserve.new.lists c.reserve.ensures.same (heap_stays (heap_of p) (heap_of p) refl))

pub act-requires : goal.act-requires
act-requires c =
    let p = c.args.self.now in
    record {
      lists = lent_lists p c.requires.kept c.args.i c.args.j c.requires.right c.deref-2.result.now c.deref-2.ensures.value c.reserve.new.lists c.reserve.ensures.same;
      acts = (
        own p c.requires.kept c.args.i c.args.j c.requires.right,
        lent_here p c.requires.kept c.args.i c.args.j c.requires.right c.deref-2.result.now c.deref-2.ensures.value c.reserve.new.lists c.reserve.ensures.same,
        lent_may p c.requires.kept c.args.i c.args.j c.requires.right c.deref-2.result.now c.deref-2.ensures.value c.reserve.new.lists c.reserve.ensures.same,
      );
      few = let n = same_many p.lists.channels.items c.reserve.new.lists.channels.items c.reserve.ensures.same.parked in omega (arith, n, c.requires.few);
    }

pub returns-in_err-deed-clause-kept : goal.returns-in_err-deed-clause-kept
returns-in_err-deed-clause-kept c =
    let p = c.args.self.now in
    let keeps = lent_keeps p c.requires.kept c.args.i c.args.j c.requires.right c.deref-2.result.now c.deref-2.ensures.value c.act.new.desk c.act.ensures.rest in
    still_kept p c.requires.kept c.args.i c.args.j c.requires.right c.act.new.desk keeps c.reserve.new.lists c.reserve.ensures.same

pub returns-in_err-deed-clause-refused : goal.returns-in_err-deed-clause-refused
returns-in_err-deed-clause-refused c =
    let p = c.args.self.now in
    let keeps = lent_keeps p c.requires.kept c.args.i c.args.j c.requires.right c.deref-2.result.now c.deref-2.ensures.value c.act.new.desk c.act.ensures.rest in
    on_err c.from_residual-in_err-deed.result (still_unchanged p c.requires.kept c.args.i c.args.j c.requires.right c.act.new.desk keeps c.reserve.new.lists c.reserve.ensures.same (c.act.ensures.undone (subst IsUndone (sym c.in_err-deed.was) tt)))

pub place_deed-requires : goal.place_deed-requires
place_deed-requires c =
    let p = c.args.self.now in
    let keeps = lent_keeps p c.requires.kept c.args.i c.args.j c.requires.right c.deref-2.result.now c.deref-2.ensures.value c.act.new.desk c.act.ensures.rest in
    let is = lent_deed p c.requires.kept c.args.i c.args.j c.requires.right c.deref-2.result.now c.deref-2.ensures.value c.reserve.new.lists c.reserve.ensures.same c.act.new.desk.heap c.in_ok-deed.deed
    (c.in_ok-deed.ensures.deed (own p c.requires.kept c.args.i c.args.j c.requires.right) (lent_here p c.requires.kept c.args.i c.args.j c.requires.right c.deref-2.result.now c.deref-2.ensures.value c.reserve.new.lists c.reserve.ensures.same)) in
    record {
      may = (core_in p, c.act.new.desk.heap, whole_place p c.requires.kept c.args.i c.args.j c.requires.right c.act.new.desk keeps c.reserve.new.lists c.reserve.ensures.same c.in_ok-deed.deed is);
      room = room_for p c.requires.kept c.args.i c.args.j c.requires.right c.own_channel-channel.result (lent_side p c.requires.kept c.args.i c.args.j c.requires.right c.deref.result.now c.deref.ensures.value c.get.result.now c.get.ensures c.own_channel-channel.result
          (c.own_channel-channel.ensures (heap_of p) (lent_waits p c.requires.kept c.args.i c.args.j c.requires.right c.deref.result.now c.deref.ensures.value c.get.result.now c.get.ensures))) c.reserve.new.lists c.in_ok-reserve.ensures.room c.act.new.desk.heap c.in_ok-deed.deed is;
    }

pub returns-clause-kept : goal.returns-clause-kept
returns-clause-kept c =
    let p = c.args.self.now in
    let keeps = lent_keeps p c.requires.kept c.args.i c.args.j c.requires.right c.deref-2.result.now c.deref-2.ensures.value c.act.new.desk c.act.ensures.rest in
    let is = lent_deed p c.requires.kept c.args.i c.args.j c.requires.right c.deref-2.result.now c.deref-2.ensures.value c.reserve.new.lists c.reserve.ensures.same c.act.new.desk.heap c.in_ok-deed.deed
    (c.in_ok-deed.ensures.deed (own p c.requires.kept c.args.i c.args.j c.requires.right) (lent_here p c.requires.kept c.args.i c.args.j c.requires.right c.deref-2.result.now c.deref-2.ensures.value c.reserve.new.lists c.reserve.ensures.same)) in
    let placed = c.place_deed.ensures.placed (core_in p) c.act.new.desk.heap
    (whole_place p c.requires.kept c.args.i c.args.j c.requires.right c.act.new.desk keeps c.reserve.new.lists c.reserve.ensures.same c.in_ok-deed.deed is) in
    whole_kept p c.requires.kept c.args.i c.args.j c.requires.right c.act.new.desk keeps c.reserve.new.lists c.reserve.ensures.same c.in_ok-deed.deed is c.place_deed.new.lists c.place_deed.result placed (λ at e. (c.place_deed.ensures.trapped at e).1)

pub returns-clause-ok : goal.returns-clause-ok
returns-clause-ok c =
    let p = c.args.self.now in
    let keeps = lent_keeps p c.requires.kept c.args.i c.args.j c.requires.right c.deref-2.result.now c.deref-2.ensures.value c.act.new.desk c.act.ensures.rest in
    let is = lent_deed p c.requires.kept c.args.i c.args.j c.requires.right c.deref-2.result.now c.deref-2.ensures.value c.reserve.new.lists c.reserve.ensures.same c.act.new.desk.heap c.in_ok-deed.deed
    (c.in_ok-deed.ensures.deed (own p c.requires.kept c.args.i c.args.j c.requires.right) (lent_here p c.requires.kept c.args.i c.args.j c.requires.right c.deref-2.result.now c.deref-2.ensures.value c.reserve.new.lists c.reserve.ensures.same)) in
    let placed = c.place_deed.ensures.placed (core_in p) c.act.new.desk.heap
    (whole_place p c.requires.kept c.args.i c.args.j c.requires.right c.act.new.desk keeps c.reserve.new.lists c.reserve.ensures.same c.in_ok-deed.deed is) in
    whole_ok p c.requires.kept c.args.i c.args.j c.requires.right c.act.new.desk keeps c.reserve.new.lists c.reserve.ensures.same c.in_ok-deed.deed is c.place_deed.new.lists c.place_deed.result placed (λ at e. (c.place_deed.ensures.trapped at e).1)

pub returns-clause-event : goal.returns-clause-event
returns-clause-event c =
    let p = c.args.self.now in
    let keeps = lent_keeps p c.requires.kept c.args.i c.args.j c.requires.right c.deref-2.result.now c.deref-2.ensures.value c.act.new.desk c.act.ensures.rest in
    let is = lent_deed p c.requires.kept c.args.i c.args.j c.requires.right c.deref-2.result.now c.deref-2.ensures.value c.reserve.new.lists c.reserve.ensures.same c.act.new.desk.heap c.in_ok-deed.deed
    (c.in_ok-deed.ensures.deed (own p c.requires.kept c.args.i c.args.j c.requires.right) (lent_here p c.requires.kept c.args.i c.args.j c.requires.right c.deref-2.result.now c.deref-2.ensures.value c.reserve.new.lists c.reserve.ensures.same)) in
    let placed = c.place_deed.ensures.placed (core_in p) c.act.new.desk.heap
    (whole_place p c.requires.kept c.args.i c.args.j c.requires.right c.act.new.desk keeps c.reserve.new.lists c.reserve.ensures.same c.in_ok-deed.deed is) in
    placed.event

pub returns-clause-trapped : goal.returns-clause-trapped
returns-clause-trapped c at x =
    let p = c.args.self.now in
    let keeps = lent_keeps p c.requires.kept c.args.i c.args.j c.requires.right c.deref-2.result.now c.deref-2.ensures.value c.act.new.desk c.act.ensures.rest in
    let is = lent_deed p c.requires.kept c.args.i c.args.j c.requires.right c.deref-2.result.now c.deref-2.ensures.value c.reserve.new.lists c.reserve.ensures.same c.act.new.desk.heap c.in_ok-deed.deed
    (c.in_ok-deed.ensures.deed (own p c.requires.kept c.args.i c.args.j c.requires.right) (lent_here p c.requires.kept c.args.i c.args.j c.requires.right c.deref-2.result.now c.deref-2.ensures.value c.reserve.new.lists c.reserve.ensures.same)) in
    let placed = c.place_deed.ensures.placed (core_in p) c.act.new.desk.heap
    (whole_place p c.requires.kept c.args.i c.args.j c.requires.right c.act.new.desk keeps c.reserve.new.lists c.reserve.ensures.same c.in_ok-deed.deed is) in
    let answer = answer_is c.place_deed.result (did.Trapped at) _ refl x in
    let found : c.act.result ≡ Ok c.in_ok-deed.deed = c.in_ok-deed.was in
    let undone = c.act.ensures.undone (subst IsUndone (sym (found ∙ ap Ok (c.place_deed.ensures.trapped at answer).0)) tt) in
    whole_trapped p c.requires.kept c.args.i c.args.j c.requires.right c.act.new.desk keeps c.reserve.new.lists c.reserve.ensures.same c.in_ok-deed.deed is c.place_deed.new.lists c.place_deed.result placed (λ at e. (c.place_deed.ensures.trapped at e).1) at answer undone

pub returns-in_err-reserve-clause-channels : goal.returns-in_err-reserve-clause-channels
returns-in_err-reserve-clause-channels c =
    let p = c.args.self.now in
    let n = same_many p.lists.channels.items c.reserve.new.lists.channels.items c.reserve.ensures.same.parked in
    omega (arith, n)

pub returns-in_err-deed-clause-channels : goal.returns-in_err-deed-clause-channels
returns-in_err-deed-clause-channels c =
    let p = c.args.self.now in
    let n = same_many p.lists.channels.items c.reserve.new.lists.channels.items c.reserve.ensures.same.parked in
    omega (arith, n)

pub returns-clause-channels : goal.returns-clause-channels
returns-clause-channels c =
    let p = c.args.self.now in
    let n = same_many p.lists.channels.items c.reserve.new.lists.channels.items c.reserve.ensures.same.parked in
    omega (arith, n, c.place_deed.ensures.channels)

pub returns-in_err-reserve-clause-keeps : goal.returns-in_err-reserve-clause-keeps
returns-in_err-reserve-clause-keeps c = keeps_all (heap_of c.args.self.now)
