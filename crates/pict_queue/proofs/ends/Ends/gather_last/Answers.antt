use Rattle.std.proofs.Common.{◌≡◌, ◌<◌, ◌≤◌, ◌∷◌, ℕ, Option, None, Some, sym, ◌∙◌, ap, subst}
use Rattle.std.specs.Option.{IfSome}
use Rattle.pict_region.specs.RegionState.{IsLive, width_of, GainsLinked}
use Rattle.pict_region.specs.Values.{gathered}
use Rattle.pict_queue.specs.Ends.{ends_of}
use Rattle.pict_queue.specs.declared.ends.Queue.{Queue}
use Rattle.pict_queue.proofs.Tables.{read_at}
use Rattle.pict_queue.proofs.ends.Ends.gather_last.Goals as goal

-- what holds of a last block holds of the one that was found
found_last : (P : ℕ → Type 0) (queue : Queue) (last : Option ℕ) → IfSome last (λ n. n ≡ queue.last) → IfSome last (λ n. 0 < queue.length) → (0 < queue.length → P queue.last) → IfSome last P
found_last P queue None is some holds = tt
found_last P queue (Some n) is some holds = subst P (sym is) (holds some)

pub take_gathered_behind-block-requires-clause-before : goal.take_gathered_behind-block-requires-clause-before
take_gathered_behind-block-requires-clause-before c =
    let is = read_at c.args.self.now.queues.items c.args.number c.index-queue.result.now c.requires.queue c.index-queue.ensures in
    found_last (IsLive c.args.region.now) c.index-queue.result.now c.last_in-last.result c.last_in-last.ensures.last c.last_in-last.ensures.some
    (subst (λ (q : Queue). 0 < q.length → IsLive c.args.region.now q.last) (sym is) c.requires.live)

pub take_gathered_behind-block-requires-clause-linked : goal.take_gathered_behind-block-requires-clause-linked
take_gathered_behind-block-requires-clause-linked c =
    let is = read_at c.args.self.now.queues.items c.args.number c.index-queue.result.now c.requires.queue c.index-queue.ensures in
    found_last (λ n. 1 ≤ width_of c.args.region.now n) c.index-queue.result.now c.last_in-last.result c.last_in-last.ensures.last c.last_in-last.ensures.some
    (subst (λ (q : Queue). 0 < q.length → 1 ≤ width_of c.args.region.now q.last) (sym is) c.requires.linked)

pub returns-clause-queue : goal.returns-clause-queue
returns-clause-queue c =
    let is = read_at c.args.self.now.queues.items c.args.number c.index-queue.result.now c.requires.queue c.index-queue.ensures in
    c.ends_with.ensures ∙ ap (ends_of c.index-queue.result.now) c.name.ensures ∙ ap (λ (q : Queue). ends_of q c.take_gathered_behind-block.result) is

pub returns-clause-live : goal.returns-clause-live
returns-clause-live c =
    let block = c.take_gathered_behind-block.result in
    subst (λ (n : ℕ). GainsLinked c.args.region.now c.take_gathered_behind-block.new.self block n (c.args.word ∷ gathered c.args.values.now c.args.indices.now))
    (c.last_in-last.ensures.ends block ∙ ap (λ (q : Queue). q.last) (sym (c.ends_with.ensures ∙ ap (ends_of c.index-queue.result.now) c.name.ensures)))
    c.take_gathered_behind-block.ensures.live
