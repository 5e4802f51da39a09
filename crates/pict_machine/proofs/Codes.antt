-- The nodes of a closed process are a code.
use Rattle.std.proofs.Common.{◌≡◌, sym, ap, ◌∙◌, subst}
use Rattle.pict_core.specs.Closed.{IsClosed}
use Rattle.pict_code.specs.Nodes.{nodes_of}
use Rattle.pict_code.specs.ReadBack.{core_of}
use Rattle.pict_code.proofs.Rebuilding.{core_of_nodes}
use Rattle.pict_machine.specs.Laws.{ClosedProcessesHaveCodes}

pub codes_of_closed : ClosedProcessesHaveCodes
codes_of_closed p nodes closed is =
    let back : core_of nodes ≡ p = ap core_of is ∙ core_of_nodes p in
    (record { closed = subst IsClosed (sym back) closed; nodes_are = ap nodes_of back ∙ sym is }, back)
