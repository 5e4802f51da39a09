use Rattle.std.proofs.Common.{sym, ◌∙◌}
use Rattle.pict_desk.specs.Known.{value_in}
use Rattle.pict_heap.specs.HeapState.{value_of}
use Rattle.pict_calls.proofs.Outputs.{takes, words_call}
use Rattle.pict_desk.specs.Code.{core_in}
use Rattle.pict_turns.proofs.Outputs.{sent_to, kept_to, kept_message, kept_is, kept_process, pair_value}
use Rattle.pict_desk.proofs.Tagged.{prim_word}
use Rattle.pict_desk.specs.Needs.{no_need}
use Rattle.pict_turns.proofs.Adding.{used_beside}
use Rattle.pict_calls.proofs.steps.call_kept.Goals as goal
use Rattle.pict_calls.proofs.Whole.{kept_steps}

pub word_at-requires : goal.word_at-requires
word_at-requires c =
    let m = c.requires.may in
    let p = kept_to (core_in m.0) c.args.store.now m.1.acting c.args.kept c.requires.kept in
    (p.word, p.fits, p.packs)

pub word_at-requires-in-Prim : goal.word_at-requires-in-Prim
word_at-requires-in-Prim c =
    let m = c.requires.may in
    let p = kept_message (core_in m.0) c.args.store.now m.1.acting c.args.kept c.requires.kept in
    (p.word, p.fits, p.packs)

pub call-requires-clause-takes : goal.call-requires-clause-takes
call-requires-clause-takes c =
    let m = c.requires.may in
    let core = core_in m.0 in
    let s = c.args.store.now in
    takes core s c.in-Prim.p (value_of s.desk.heap c.word_at-in-Prim.result) c.args.kept.at
    (words_call core s m.1.acting c.args.kept c.requires.kept c.word_at.result c.word_at-in-Prim.result c.word_at.ensures c.word_at-in-Prim.ensures c.in-Prim.p c.in-Prim.is)
    m.1.right

pub unreachable-requires : goal.unreachable-requires
unreachable-requires c =
    let m = c.requires.may in
    let core = core_in m.0 in
    let s = c.args.store.now in
    let kept = c.args.kept in
    let to = sent_to core s m.1.acting m.1.right (value_in s.desk.heap kept.message.0 kept.message.1) kept.at (value_in s.desk.heap kept.to.0 kept.to.1)
    (kept_process core s m.1.acting kept c.requires.kept) (sym c.requires.elsewhere) in
    c.in_default.not-Prim to.0
    (prim_word s.desk.heap c.word_at.result to.0 (sym (pair_value s.desk.heap kept.to (kept_to core s m.1.acting kept c.requires.kept) c.word_at.result c.word_at.ensures) ∙ to.1))

pub returns : goal.returns
returns c = record {
  steps = λ code may.
      let core = core_in code in
      let s = c.args.store.now in
      let kept = c.args.kept in
      kept_steps code s c.call.new.store c.call.result may c.in-Prim.p kept.at (value_of s.desk.heap c.word_at-in-Prim.result) (kept_is core s may.acting kept c.requires.kept)
      (words_call core s may.acting kept c.requires.kept c.word_at.result c.word_at-in-Prim.result c.word_at.ensures c.word_at-in-Prim.ensures c.in-Prim.p c.in-Prim.is)
      (record {
        done = c.call.ensures.done;
        refused = c.call.ensures.refused;
        blocks = c.call.ensures.blocks;
        adds = λ e is. used_beside s.desk.heap.room c.call.new.store.desk.heap.room no_need _ (c.call.ensures.adds e is);
        work = c.call.ensures.work;
        turn = c.call.ensures.turn;
      });
}
