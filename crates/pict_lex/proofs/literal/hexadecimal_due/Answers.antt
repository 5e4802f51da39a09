use Rattle.std.proofs.Common.{refl}
use Rattle.pict_lex.proofs.DueLemmas.{hexadecimal_item}
use Rattle.pict_lex.proofs.literal.hexadecimal_due.Goals as goal

pub returns-then-are_hexadecimal : goal.returns-then-are_hexadecimal
returns-then-are_hexadecimal c =
    let both = c.if-are_hexadecimal.ensures.both refl in
    hexadecimal_item c.args.digits.now c.hexadecimal_value.result c.hexadecimal_value-then-are_hexadecimal.result c.if-digits-lt2.false both.0 both.1
    c.hexadecimal_value.ensures.value c.hexadecimal_value-then-are_hexadecimal.ensures.value
