use Rattle.std.proofs.Common.{rules}
use Rattle.pict_syntax.proofs.PatternLists.{field_pats_is}
use Rattle.pict_parse_binding.proofs.patterns.step_pattern_labels.Goals as goal

pub returns-in-Sign-CloseBracket : goal.returns-in-Sign-CloseBracket
returns-in-Sign-CloseBracket c =
    let closed = rw (field_pats_is c.args.binders c.args.pats c.args.labelled) at c.close_patterns.ensures in
    search rules

pub returns-in-Sign-CloseParen : goal.returns-in-Sign-CloseParen
returns-in-Sign-CloseParen c =
    let closed = rw (field_pats_is c.args.binders c.args.pats c.args.labelled) at c.close_patterns-in-Sign-CloseParen.ensures in
    search rules
