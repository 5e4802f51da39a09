use Rattle.std.proofs.Common.{ℕ, ◌-◌, length, refl, sym, ap, ◌∙◌, arith}
use Rattle.std.proofs.lemmas.List.{length-set, get_or-set_other, length_push}
use Rattle.pict_core.specs.Term.{Chan}
use Rattle.pict_heap.specs.declared.word.Word.TheVariants as word
use Rattle.pict_desk.proofs.Pairs.{set_here, set_pairs}
use Rattle.pict_queue.specs.QueuesState.{no_queue}
use Rattle.pict_acting.proofs.opening.add_channel.Goals as goal

pub returns-clause-adds : goal.returns-clause-adds
returns-clause-adds c =
    let s = c.args.store.now in
    let level = c.args.level in
    let w = word.Chan (c.in-Ok.queue.0 - 1) in
    let packs = sym c.pack.ensures.pair in
    record {
      value = set_here s.desk.heap s.desk.values.items level w c.pack.result c.pack.ensures.fits packs c.requires.inside ∙ ap (λ (n : ℕ). Chan (n - 1)) c.in-Ok.ensures.number;
      others = λ other apart. get_or-set_other s.desk.values.items level other c.pack.result (0, 0) apart;
      levels = length-set s.desk.values.items level c.pack.result;
      pairs = set_pairs s.desk.heap s.desk.values.items level w c.pack.result c.pack.ensures.fits packs c.requires.inside tt c.requires.pairs;
      queues = ap length c.in-Ok.ensures.queues ∙ length_push s.queues.queues no_queue;
      spare_queues = let left = c.in-Ok.ensures.spare_queues in omega (arith, left);
      region = c.add_queue.ensures.region;
      contents = c.add_queue.ensures.contents;
      held = c.add_queue.ensures.kept;
      no_more = c.add_queue.ensures.no_more;
      heap = refl;
      pending = refl;
      turn = refl;
    }
