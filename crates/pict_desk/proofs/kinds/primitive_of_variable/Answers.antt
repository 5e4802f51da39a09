use Rattle.std.proofs.Common.{refl, ◌∙◌}
use Rattle.pict_core.specs.Plain.{plain_val}
use Rattle.pict_desk.specs.Known.{known}
use Rattle.pict_desk.proofs.Tagged.{prim_word, no_heap_primitive}
use Rattle.pict_desk.proofs.kinds.primitive_of_variable.Goals as goal

pub unreachable-requires : goal.unreachable-requires
unreachable-requires c =
    let x = c.requires.is in
    c.in_default.not-Prim x.1 (prim_word x.0 c.in-Some.word x.1 ((c.in-Some.ensures.word x.0 x.2.pairs).value ∙ x.2.is))

pub unreachable-requires-in-None : goal.unreachable-requires-in-None
unreachable-requires-in-None c =
    let x = c.requires.is in
    no_heap_primitive (known x.0 c.args.values.now) (plain_val c.args.operand.now) x.1 (c.in-None.ensures.none.0 refl) x.2.is
