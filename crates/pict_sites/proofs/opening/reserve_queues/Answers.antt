use Rattle.std.proofs.Common.{ℕ, inl, inr, ◌≤◌, ◌<◌, length, sym, ap, ◌∙◌, subst, arith}
use Rattle.std.proofs.lemmas.List.{length-set}
use Rattle.std.proofs.lemmas.Option.{slice_get_within}
use Rattle.pict_queue.specs.QueuesState.{QueuesState}
use Rattle.pict_sites.proofs.Lists.{set_cases, got_same}
use Rattle.pict_sites.proofs.Openings.{reserved_set}
use Rattle.pict_sites.proofs.opening.reserve_queues.Goals as goal

pub returns-in_err-reserve_queues-clause-same : goal.returns-in_err-reserve_queues-clause-same
returns-in_err-reserve_queues-clause-same c =
    let low : c.loop-s.s < length c.loop-s.sites = let t = c.loop-s-test.true in let e = c.loop-s.invariant.count in omega (arith, t, e) in
    reserved_set c.args.sites.now c.loop-s.sites c.loop-s.s c.reserve_queues.new.self c.index-sites-s.result c.loop-s.invariant.same (got_same c.loop-s.sites c.loop-s.s c.index-sites-s.result low c.index-sites-s.is)
    (let same = c.in_err-reserve_queues.ensures.err ∙ sym c.index-sites-s.is in same ∙ ap (λ (k : ℕ). record c.index-sites-s.result { spare_queues = k }) (ap (λ (q : QueuesState). q.spare_queues) (sym same)))

pub loop-s-preserved : goal.loop-s-preserved
loop-s-preserved c =
    let low : c.loop-s.s < length c.loop-s.sites = let t = c.loop-s-test.true in let e = c.loop-s.invariant.count in omega (arith, t, e) in
    record {
      count = length-set c.loop-s.sites c.loop-s.s c.reserve_queues.new.self ∙ c.loop-s.invariant.count;
      same = reserved_set c.args.sites.now c.loop-s.sites c.loop-s.s c.reserve_queues.new.self c.index-sites-s.result c.loop-s.invariant.same (got_same c.loop-s.sites c.loop-s.s c.index-sites-s.result low c.index-sites-s.is)
          (c.in_ok-reserve_queues.ensures.rest ∙ ap (λ (q : QueuesState). record q { spare_queues = c.reserve_queues.new.self.spare_queues }) (sym c.index-sites-s.is));
      room = λ t q lower at. elim (set_cases c.loop-s.sites c.loop-s.s t q c.reserve_queues.new.self at) [
        | inl here ↦ subst (λ (x : QueuesState). 1 ≤ x.spare_queues) (sym here.1) (let e = c.in_ok-reserve_queues.ensures.ok in omega (arith, e))
        | inr there ↦ c.loop-s.invariant.room t q (let apart = there.0 in omega (arith, lower, apart)) there.1
      ];
    }

pub returns-clause-room : goal.returns-clause-room
returns-clause-room c s q at =
    c.loop-s.invariant.room s q (let low = slice_get_within c.loop-s.sites s q at in let f = c.loop-s-test.false in let e = c.loop-s.invariant.count in omega (arith, low, f, e)) at
