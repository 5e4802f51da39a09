use Rattle.std.proofs.Common.{rules}
use Rattle.pict_syntax.proofs.PatternLists.{labelled_pats_none}
use Rattle.pict_syntax.proofs.PatternLists.{field_pats_is}
use Rattle.pict_parse_binding.proofs.PatternOthers.{patterns_other}
use Rattle.pict_parse_binding.proofs.patterns.step_patterns.Goals as goal

pub returns-in-Sign-CloseBracket : goal.returns-in-Sign-CloseBracket
returns-in-Sign-CloseBracket c =
    let closed = rw (field_pats_is c.args.binders c.args.pats c.new.result, c.new.ensures.items, labelled_pats_none) at c.close_patterns.ensures in
    search rules

pub returns-in-Sign-CloseParen : goal.returns-in-Sign-CloseParen
returns-in-Sign-CloseParen c =
    let closed = rw (field_pats_is c.args.binders c.args.pats c.new-in-Sign-CloseParen.result, c.new-in-Sign-CloseParen.ensures.items, labelled_pats_none) at c.close_patterns-in-Sign-CloseParen.ensures in
    search rules

pub returns-in_ok-place-in_default : goal.returns-in_ok-place-in_default
returns-in_ok-place-in_default c =
    rw (patterns_other c.args.kind.now (λ e. search rules) (λ e. search rules) (λ m e. search rules))
    (rw c.in_ok-place-in_default.ensures.ok at c.begin_pattern.ensures)
