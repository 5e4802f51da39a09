use Rattle.std.proofs.Common.{◌<◌, ◌≡◌, length, map, sym, ap, ◌∙◌, subst}
use Rattle.std.specs.List.{All, slice_get}
use Rattle.pict_code.specs.Levels.{Rises}
use Rattle.pict_code.specs.Nodes.{places}
use Rattle.pict_desk.specs.Code.{core_in}
use Rattle.pict_desk.specs.Known.{pair_at}
use Rattle.pict_desk.specs.Room.{KeepsHeap}
use Rattle.pict_picker.specs.Waiting.{node_process}
use Rattle.pict_picker.proofs.Acts.{node_low, as_many, levels_inside, levels_rise}
use Rattle.pict_picker.proofs.ReadNodes.{node_lists, node_acts_by, node_keeps, node_deed}
use Rattle.pict_picker.proofs.acting.act_node.Goals as goal

pub bounds-code-number : goal.bounds-code-number
bounds-code-number c = node_low c.args.code.now c.requires.acts.code_is c.args.desk.now.heap c.args.number c.args.frame.now c.requires.node

pub read_frame-requires-clause-many : goal.read_frame-requires-clause-many
read_frame-requires-clause-many c =
    as_many c.args.code.now c.requires.acts.code_is c.args.desk.now.heap c.args.number c.args.frame.now c.requires.node c.index-code-number.result c.index-code-number.is
    ∙ ap length (sym (c.deref-2.ensures.value ∙ ap (λ v. v.items) c.deref.ensures))

pub read_frame-requires-clause-inside : goal.read_frame-requires-clause-inside
read_frame-requires-clause-inside c =
    let d = c.args.desk.now in
    subst (All (λ level. level < length d.values.items)) (sym (c.deref-2.ensures.value ∙ ap (λ v. v.items) c.deref.ensures))
    (levels_inside c.args.code.now c.requires.acts.code_is d.heap c.args.number c.args.frame.now c.requires.node c.index-code-number.result c.index-code-number.is d c.requires.acts.desk)

pub read_frame-requires-clause-rising : goal.read_frame-requires-clause-rising
read_frame-requires-clause-rising c =
    subst (Rises 0) (sym (c.deref-2.ensures.value ∙ ap (λ v. v.items) c.deref.ensures))
    (levels_rise c.args.code.now c.requires.acts.code_is c.args.desk.now.heap c.args.number c.args.frame.now c.requires.node c.index-code-number.result c.index-code-number.is)

pub act_by-requires : goal.act_by-requires
act_by-requires c =
    let d = c.args.desk.now in
    let r = c.read_frame in
    let is = subst (λ ls. map (pair_at r.new.desk.values.items) ls ≡ c.args.frame.now) (c.deref-2.ensures.value ∙ ap (λ v. v.items) c.deref.ensures) r.ensures.read in
    record {
      lists = node_lists c.args.code.now d c.args.lists.now r.new.desk r.ensures.heap c.requires.lists;
      acts = (
        node_process d.heap c.args.frame.now (slice_get (places 0 (core_in c.args.code.now)) c.args.number),
        node_acts_by c.args.code.now d c.args.lists.now c.args.j c.args.number c.args.frame.now c.requires.node c.requires.acts c.index-code-number.result c.index-code-number.is
            r.new.desk r.ensures.heap r.ensures.len r.ensures.pairs is,
      );
      few = c.requires.few;
    }

pub returns-clause-deed : goal.returns-clause-deed
returns-clause-deed c =
    let d = c.args.desk.now in
    let r = c.read_frame in
    let is = subst (λ ls. map (pair_at r.new.desk.values.items) ls ≡ c.args.frame.now) (c.deref-2.ensures.value ∙ ap (λ v. v.items) c.deref.ensures) r.ensures.read in
    node_deed c.args.code.now d c.args.lists.now c.args.j _ r.new.desk r.ensures.heap c.act_by.new.desk.heap c.act_by.result
    (c.act_by.ensures.deed (node_process d.heap c.args.frame.now (slice_get (places 0 (core_in c.args.code.now)) c.args.number))
    (node_acts_by c.args.code.now d c.args.lists.now c.args.j c.args.number c.args.frame.now c.requires.node c.requires.acts c.index-code-number.result c.index-code-number.is
    r.new.desk r.ensures.heap r.ensures.len r.ensures.pairs is))

pub returns-clause-rest : goal.returns-clause-rest
returns-clause-rest c =
    let r = c.read_frame in
    node_keeps c.args.code.now c.args.desk.now r.new.desk r.ensures.heap c.act_by.new.desk c.act_by.ensures.rest

pub returns-clause-undone : goal.returns-clause-undone
returns-clause-undone c u = subst (λ h. KeepsHeap h c.act_by.new.desk.heap) c.read_frame.ensures.heap (c.act_by.ensures.undone u)
