use Rattle.std.proofs.Common.{ℕ, ◌+◌, arith, map, drop, sym, ap, ◌∙◌, subst}
use Rattle.pict_core.specs.Plain.{plain_core}
use Rattle.pict_shared.specs.declared.shaped.Shaped.{Shaped}
use Rattle.pict_shared.specs.Plain.{plain_held}
use Rattle.pict_orders.specs.Settling.{goes_alone}
use Rattle.pict_orders.proofs.Scanning.{Scan, over_unready, over_loud, at_first}
use Rattle.pict_orders.proofs.settling.first_alone.Goals.{then-entry+in_ok-goes_alone+else-branch, else-entry}
use Rattle.pict_orders.proofs.settling.first_alone.Goals as goal

pub returns-then-branch : goal.returns-then-branch
returns-then-branch c =
    at_first goes_alone c.args.entries.now c.loop-entry.entry-index c.entry-item.result c.loop-entry-test.true c.entry-item.is c.loop-entry.count c.loop-entry.invariant.scan c.if-entry.true
    (sym (ap (λ (x : Shaped). goes_alone (plain_core x.core)) c.deref.ensures) ∙ sym c.in_ok-goes_alone.ensures ∙ c.if-branch.true)

pub loop-entry-preserved : goal.loop-entry-preserved
loop-entry-preserved c = elim c.if-entry.branch [
  | then-entry+in_ok-goes_alone+else-branch w ↦ record {
    scan = subst (λ (n : ℕ). Scan goes_alone (map plain_held c.args.entries.now) (map plain_held (drop (c.loop-entry.entry-index + 1) c.args.entries.now)) n) (sym w.count-is)
        (over_loud goes_alone c.args.entries.now c.loop-entry.entry-index c.entry-item.result c.loop-entry-test.true c.entry-item.is c.loop-entry.count c.loop-entry.invariant.scan w.if-entry.true
        (sym (ap (λ (x : Shaped). goes_alone (plain_core x.core)) w.deref.ensures) ∙ sym w.in_ok-goes_alone.ensures ∙ w.if-branch.false));
    few = omega (arith, w.count-is, c.loop-entry.invariant.few);
  }
  | else-entry w ↦ record {
    scan = subst (λ (n : ℕ). Scan goes_alone (map plain_held c.args.entries.now) (map plain_held (drop (c.loop-entry.entry-index + 1) c.args.entries.now)) n) (sym w.count-is)
        (over_unready goes_alone c.args.entries.now c.loop-entry.entry-index c.entry-item.result c.loop-entry-test.true c.entry-item.is c.loop-entry.count c.loop-entry.invariant.scan w.if-entry.false);
    few = omega (arith, w.count-is, c.loop-entry.invariant.few);
  }
]
