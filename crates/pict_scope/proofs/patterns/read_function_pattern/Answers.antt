-- The fields of a function and its annotation are read as one pattern.
use Rattle.pict_syntax.specs.PlainTrees.{field_pats_of, annotation_of}
use Rattle.pict_scope.specs.Outlines.{◌▸◌}
use Rattle.pict_scope.specs.Forms.{in_field_pats, in_annotation}
use Rattle.pict_scope.proofs.Reading.{then_read, whole_pattern}
use Rattle.pict_scope.proofs.patterns.read_function_pattern.Goals as goal

pub returns : goal.returns
returns c =
    whole_pattern (in_field_pats (field_pats_of c.args.f.now) ▸ in_annotation (annotation_of c.args.annotation.now)) c.place-back.result c.open_pattern-outer.result c.in_ok-opened.opened c.args.r.now c.open_pattern-outer.new.r c.read_annotation.new.r c.close_pattern.new.r c.go_back.new.r
    c.place-back.ensures c.open_pattern-outer.ensures
    (then_read _ _ c.open_pattern-outer.new.r c.read_field_pats.new.r c.read_annotation.new.r c.in_ok-read_field_pats.ensures c.in_ok-read_annotation.ensures) c.in_ok-opened.ensures c.go_back.ensures
