-- One more is missing; and all are.
use Rattle.std.proofs.Common.{[], ◌∷◌, None, length, sym, subst, ap, arith, length-append}
use Rattle.pict_lines.proofs.Finding.{AreMissing, missing_more, missing_slots}
use Rattle.pict_lines.proofs.fields.none_found.Goals as goal

pub loop-list-preserved : goal.loop-list-preserved
loop-list-preserved c = record {
  missing = subst AreMissing (sym c.in_ok-push.ensures.items) (missing_more c.loop-list.list.items c.loop-list.invariant.missing);
  count = omega (arith, ap length c.in_ok-push.ensures.items, length-append c.loop-list.list.items (None ∷ []));
}

pub returns-clause-none : goal.returns-clause-none
returns-clause-none c = missing_slots c.args.bs.now c.loop-list.list.items c.loop-list.invariant.missing (omega arith)
