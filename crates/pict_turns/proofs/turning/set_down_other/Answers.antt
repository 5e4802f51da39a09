use Rattle.std.proofs.Common.{ℕ, ◌+◌, ◌≤◌, ◌<◌, List, length, sym, ap, subst, arith, ◌∙◌}
use Rattle.pict_blocks.specs.Writing.{IsMade}
use Rattle.pict_region.specs.RegionState.{spare}
use Rattle.pict_desk.specs.Code.{core_in}
use Rattle.pict_desk.proofs.Numbered.{in_code}
use Rattle.pict_blocks.proofs.Costs.{costs_up}
use Rattle.pict_turns.proofs.Taking.{some_other}
use Rattle.pict_turns.proofs.Turns.{acting_room, nobody_acts, kept_acts, wide_inside, wide_words_are}
use Rattle.pict_turns.proofs.turning.set_down_other.Goals as goal

pub block_of-requires-clause-small : goal.block_of-requires-clause-small
block_of-requires-clause-small c =
    let low : c.in-Wide.number < length c.args.code.now =
    in_code c.args.code.now c.requires.code c.in-Wide.number (wide_inside (core_in c.args.code.now) c.args.store.now c.requires.acting c.in-Wide.number c.in-Wide.pair (sym c.get-turn.ensures ∙ c.in-Wide.is)) in
    let w = c.well_formed in
    omega (arith, low)

pub block_of-requires-clause-spare : goal.block_of-requires-clause-spare
block_of-requires-clause-spare c =
    let core = core_in c.args.code.now in
    let s = c.args.store.now in
    subst (λ (ws : List ℕ). 1 ≤ spare s.queues.region (length ws + 1)) (wide_words_are core s c.requires.acting c.in-Wide.number c.in-Wide.pair (sym c.get-turn.ensures ∙ c.in-Wide.is)) (acting_room core s c.requires.acting)

pub returns-in-Wide-clause-made : goal.returns-in-Wide-clause-made
returns-in-Wide-clause-made c =
    let core = core_in c.args.code.now in
    let s = c.args.store.now in
    subst (λ (ws : List ℕ). IsMade s.queues c.block_of.new.queues c.block_of.result ws (length ws + 1))
    (sym (wide_words_are core s c.requires.acting c.in-Wide.number c.in-Wide.pair (sym c.get-turn.ensures ∙ c.in-Wide.is))) c.block_of.ensures.made

pub returns-in-Wide-clause-cost : goal.returns-in-Wide-clause-cost
returns-in-Wide-clause-cost c =
    let s = c.args.store.now in
    let long = ap length (wide_words_are (core_in c.args.code.now) s c.requires.acting c.in-Wide.number c.in-Wide.pair (sym c.get-turn.ensures ∙ c.in-Wide.is)) in
    costs_up s.queues c.block_of.new.queues _ _ (omega (arith, long)) c.block_of.ensures.cost

pub kept_block-requires : goal.kept_block-requires
kept_block-requires c =
    let core = core_in c.args.code.now in
    let s = c.args.store.now in
    record { spare = subst (λ (ws : List ℕ). 1 ≤ spare s.queues.region (length ws + 1)) (kept_acts core s c.requires.acting c.in-Output.kept (sym c.get-turn.ensures ∙ c.in-Output.is)) (acting_room core s c.requires.acting) }

pub returns-in-Output-clause-made : goal.returns-in-Output-clause-made
returns-in-Output-clause-made c =
    let core = core_in c.args.code.now in
    let s = c.args.store.now in
    subst (λ (ws : List ℕ). IsMade s.queues c.kept_block.new.queues c.kept_block.result ws (length ws + 1))
    (sym (kept_acts core s c.requires.acting c.in-Output.kept (sym c.get-turn.ensures ∙ c.in-Output.is))) c.kept_block.ensures.made

pub returns-in-Output-clause-cost : goal.returns-in-Output-clause-cost
returns-in-Output-clause-cost c =
    let s = c.args.store.now in
    let long = ap length (kept_acts (core_in c.args.code.now) s c.requires.acting c.in-Output.kept (sym c.get-turn.ensures ∙ c.in-Output.is)) in
    costs_up s.queues c.kept_block.new.queues _ _ (omega (arith, long)) c.kept_block.ensures.cost

-- the turn is that of an output or of a wide node
pub unreachable-requires : goal.unreachable-requires
unreachable-requires c =
    some_other c.args.store.now.turn (nobody_acts (core_in c.args.code.now) c.args.store.now c.requires.acting) c.requires.other
    (λ number pair e. c.in_default.not-Wide number pair (c.get-turn.ensures ∙ e)) (λ kept e. c.in_default.not-Output kept (c.get-turn.ensures ∙ e))
