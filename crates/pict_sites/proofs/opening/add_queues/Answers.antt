use Rattle.std.proofs.Common.{inl, inr, ◌<◌, ◌+◌, [], ◌∷◌, length, slice_get, sym, ap, ◌∙◌, arith}
use Rattle.std.proofs.lemmas.List.{length-set, length-append}
use Rattle.std.proofs.lemmas.Option.{slice_get_within}
use Rattle.pict_queue.specs.QueuesState.{QueuesState, no_queue}
use Rattle.pict_queue.specs.Contents.{contents}
use Rattle.pict_sites.proofs.Lists.{set_cases, got_same}
use Rattle.pict_sites.proofs.opening.add_queues.Goals as goal

pub loop-s-preserved : goal.loop-s-preserved
loop-s-preserved c =
    let low : c.loop-s.s < length c.loop-s.sites = let t = c.loop-s-test.true in let e = c.loop-s.invariant.count in omega (arith, t, e) in
    record {
      count = length-set c.loop-s.sites c.loop-s.s c.add_queue.new.self ∙ c.loop-s.invariant.count;
      done = λ t q lower at. elim (set_cases c.loop-s.sites c.loop-s.s t q c.add_queue.new.self at) [
        | inl here ↦ (
          c.index-sites-s.result,
          ap (slice_get c.args.sites.now) here.0 ∙ c.loop-s.invariant.rest c.loop-s.s c.index-sites-s.result (omega arith) (got_same c.loop-s.sites c.loop-s.s c.index-sites-s.result low c.index-sites-s.is),
          record {
            contents = λ queue. ap (λ (x : QueuesState). contents x queue) here.1 ∙ c.add_queue.ensures.contents queue ∙ ap (λ (x : QueuesState). contents x queue) (sym c.index-sites-s.is);
            queues = ap (λ (x : QueuesState). length x.queues) here.1 ∙ ap length c.in-Ok.ensures.queues ∙ length-append _ (no_queue ∷ []) ∙ ap (λ (x : QueuesState). length x.queues + 1) (sym c.index-sites-s.is);
          },
        )
        | inr there ↦ c.loop-s.invariant.done t q (let apart = there.0 in omega (arith, lower, apart)) there.1
      ];
      rest = λ t q higher at. elim (set_cases c.loop-s.sites c.loop-s.s t q c.add_queue.new.self at) [
        | inl here ↦ absurd (let same = here.0 in omega (arith, higher, same))
        | inr there ↦ c.loop-s.invariant.rest t q (omega (arith, higher)) there.1
      ];
    }

pub returns-clause-gains : goal.returns-clause-gains
returns-clause-gains c s q at =
    c.loop-s.invariant.done s q (let low = slice_get_within c.loop-s.sites s q at in let f = c.loop-s-test.false in let e = c.loop-s.invariant.count in omega (arith, low, f, e)) at
