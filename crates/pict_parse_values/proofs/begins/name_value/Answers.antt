use Rattle.std.proofs.Common.{sym, subst}
use Rattle.pict_syntax.specs.PlainTrees.{val_of}
use Rattle.pict_parse_states.specs.View.{GivesState}
use Rattle.pict_parse_values.proofs.Others.{name_value_other}
use Rattle.pict_parse_values.proofs.begins.name_value.Goals as goal

pub returns-in_default : goal.returns-in_default
unfolding val_of
returns-in_default c =
    let put = sym (name_value_other c.into_inner.result c.in_default.not-Waiting c.args.name c.args.at) in
    rw (← c.into_inner.ensures) (subst (GivesState c.put_unboxed.result) put c.put_unboxed.ensures)
