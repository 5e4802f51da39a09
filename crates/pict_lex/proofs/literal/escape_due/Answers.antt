use Rattle.std.proofs.Common.{refl}
use Rattle.pict_syntax.specs.Tokens.{newline, tab, backslash, double_quote, single_quote}
use Rattle.pict_lex.proofs.DueLemmas.{escape_item}
use Rattle.pict_lex.proofs.literal.escape_due.Goals as goal

pub returns-in-110 : goal.returns-in-110
returns-in-110 c = escape_item newline 110 10 c.args.more.now tt refl refl c.args.letter c.in-110.is

pub returns-in-116 : goal.returns-in-116
returns-in-116 c = escape_item tab 116 9 c.args.more.now tt refl refl c.args.letter c.in-116.is

pub returns-in-92 : goal.returns-in-92
returns-in-92 c = escape_item backslash 92 92 c.args.more.now tt refl refl c.args.letter c.in-92.is

pub returns-in-34 : goal.returns-in-34
returns-in-34 c = escape_item double_quote 34 34 c.args.more.now tt refl refl c.args.letter c.in-34.is

pub returns-in-39 : goal.returns-in-39
returns-in-39 c = escape_item single_quote 39 39 c.args.more.now tt refl refl c.args.letter c.in-39.is
