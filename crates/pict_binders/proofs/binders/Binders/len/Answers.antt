-- As many binders as names.
use Rattle.std.proofs.Common.{rules, ◌≡◌, ◌∙◌, sym, ap, length}
use Rattle.pict_binders.specs.Numbered.{numbered}
use Rattle.pict_binders.proofs.Numbers.{length_numbered}
use Rattle.pict_binders.proofs.binders.Binders.len.Goals as goal

pub returns : goal.returns
returns c =
    let i = c.self.inside in
    let view : numbered i.numbers.items i.names ≡ c.args.self.now = search rules in
    let n : c.len.result ≡ length i.names = search rules in
    n ∙ sym (length_numbered i.numbers.items i.names) ∙ ap length view
