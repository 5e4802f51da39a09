use Rattle.std.proofs.Common.{ℕ, ◌+◌, arith, map, drop, sym, ap, ◌∙◌, subst}
use Rattle.pict_core.specs.Plain.{plain_core}
use Rattle.pict_reduction.specs.Silent.{is_silent}
use Rattle.pict_shared.specs.declared.shaped.Shaped.{Shaped}
use Rattle.pict_shared.specs.Plain.{plain_held}
use Rattle.pict_orders.proofs.Scanning.{Scan, over_unready, over_loud, at_first}
use Rattle.pict_orders.proofs.settling.first_silent.Goals.{then-entry+else-is_silent, else-entry}
use Rattle.pict_orders.proofs.settling.first_silent.Goals as goal

pub returns-then-is_silent : goal.returns-then-is_silent
returns-then-is_silent c =
    at_first (is_silent (map plain_held c.args.entries.now)) c.args.entries.now c.loop-entry.entry-index c.entry-item.result c.loop-entry-test.true c.entry-item.is c.loop-entry.count c.loop-entry.invariant.scan c.if-entry.true
    (sym (ap (λ (x : Shaped). is_silent (map plain_held c.args.entries.now) (plain_core x.core)) c.deref.ensures) ∙ sym c.is_silent.ensures ∙ c.if-is_silent.true)

pub loop-entry-preserved : goal.loop-entry-preserved
loop-entry-preserved c = elim c.if-entry.branch [
  | then-entry+else-is_silent w ↦ record {
    scan = subst (λ (n : ℕ). Scan (is_silent (map plain_held c.args.entries.now)) (map plain_held c.args.entries.now) (map plain_held (drop (c.loop-entry.entry-index + 1) c.args.entries.now)) n) (sym w.count-is)
        (over_loud (is_silent (map plain_held c.args.entries.now)) c.args.entries.now c.loop-entry.entry-index c.entry-item.result c.loop-entry-test.true c.entry-item.is c.loop-entry.count c.loop-entry.invariant.scan w.if-entry.true
        (sym (ap (λ (x : Shaped). is_silent (map plain_held c.args.entries.now) (plain_core x.core)) w.deref.ensures) ∙ sym w.is_silent.ensures ∙ w.if-is_silent.false));
    few = omega (arith, w.count-is, c.loop-entry.invariant.few);
  }
  | else-entry w ↦ record {
    scan = subst (λ (n : ℕ). Scan (is_silent (map plain_held c.args.entries.now)) (map plain_held c.args.entries.now) (map plain_held (drop (c.loop-entry.entry-index + 1) c.args.entries.now)) n) (sym w.count-is)
        (over_unready (is_silent (map plain_held c.args.entries.now)) c.args.entries.now c.loop-entry.entry-index c.entry-item.result c.loop-entry-test.true c.entry-item.is c.loop-entry.count c.loop-entry.invariant.scan w.if-entry.false);
    few = omega (arith, w.count-is, c.loop-entry.invariant.few);
  }
]
