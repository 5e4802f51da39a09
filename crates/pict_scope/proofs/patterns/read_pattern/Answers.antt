-- A pattern is opened, read and closed.
use Rattle.pict_syntax.specs.PlainTrees.{pat_of}
use Rattle.pict_scope.specs.Forms.{in_pat}
use Rattle.pict_scope.proofs.Reading.{whole_pattern}
use Rattle.pict_scope.proofs.patterns.read_pattern.Goals as goal

pub returns : goal.returns
returns c =
    whole_pattern (in_pat (pat_of c.args.p.now)) c.place-back.result c.open_pattern-outer.result c.in_ok-opened.opened c.args.r.now c.open_pattern-outer.new.r c.read_pat.new.r c.close_pattern.new.r c.go_back.new.r
    c.place-back.ensures c.open_pattern-outer.ensures c.in_ok-read_pat.ensures c.in_ok-opened.ensures c.go_back.ensures
