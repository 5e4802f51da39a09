use Rattle.std.proofs.Common.{◌+◌, ◌++◌, ◌∷◌, [], ◌==◌, true, map, take, get_or, ap, sym, ◌∙◌}
use Rattle.std.proofs.lemmas.List.{get_or_default}
use Rattle.pict_code.specs.Listing.{variable_text}
use Rattle.pict_code.specs.Written.{gap, spaced}
use Rattle.pict_code.proofs.Lines.{next_spaced, next_written}
use Rattle.pict_code.proofs.line.write_frame.Goals as goal

pub loop-index-preserved : goal.loop-index-preserved
loop-index-preserved c =
    let i = c.loop-index.index in
    let frame = c.args.frame.now in
    next_written c.loop-index.line.items c.args.line.now.items c.write_gap.new.line.items c.write_numbered.new.out.items
    (123 ∷ spaced true (map variable_text (take i frame))) (gap (i == 0)) _ c.loop-index.invariant c.in_ok-write_gap.ensures c.in_ok-write_numbered.ensures
    ∙ ap (λ t. c.args.line.now.items ++ (123 ∷ t)) (sym (next_spaced true variable_text frame i (get_or frame i 0) c.loop-index-test.true (get_or_default frame i 0 _ c.loop-index-test.true)))
