use Rattle.std.proofs.lemmas.Str.{IsUtf8-from_ascii}
use Rattle.pict_lex.proofs.NumberLemmas.{number_ascii, out_of_range}
use Rattle.pict_lex.proofs.number.number_value.Goals as goal

pub unreachable-requires : goal.unreachable-requires
unreachable-requires c = c.in-Err.ensures.cases.0 (IsUtf8-from_ascii c.args.bytes.now (number_ascii c.args.bytes.now c.requires))

pub returns-clause-none : goal.returns-clause-none
returns-clause-none c =
    out_of_range c.args.bytes.now c.in-Ok.text.now c.from_str_radix.result c.ok.result c.requires c.in-Ok.ensures.cases.0 c.from_str_radix.ensures.value c.ok.ensures.value
