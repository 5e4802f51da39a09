use Rattle.std.proofs.Common.{◌≡◌, ◌∙◌, [], ap, drop, length, arith}
use Rattle.std.proofs.Math.Seq.{drop-length}
use Rattle.std.specs.List.{flat_map}
use Rattle.pict_core.specs.Plain.{plain_core}
use Rattle.pict_object.specs.Objects.{text_bytes}
use Rattle.pict_object.specs.Collected.{texts_of}
use Rattle.pict_object.proofs.Encoded.{object_length}
use Rattle.pict_object.proofs.encoding.object_size.Goals as goal

pub returns-clause-size : goal.returns-clause-size
returns-clause-size c =
    let table = c.args.table.now in
    let names = c.args.names.now in
    let at_end : c.loop-label.label-index ≡ length table = omega (arith, c.loop-label.auto.label-index-end, c.loop-label-test.false) in
    let none : drop c.loop-label.label-index table ≡ [] = ap (λ i. drop i table) at_end ∙ drop-length table in
    let nothing : length (flat_map text_bytes (texts_of names (drop c.loop-label.label-index table))) ≡ 0 = ap (λ xs. length (flat_map text_bytes (texts_of names xs))) none in
    omega (arith, nothing, c.loop-label.invariant.0, c.loop-label.invariant.1, object_length names (texts_of names table) (plain_core c.args.core.now))
