-- As many names as binders.
use Rattle.std.proofs.Common.{rules, ◌≡◌, ◌∙◌, sym, ap, length}
use Rattle.pict_binders.specs.Tables.{names_of}
use Rattle.pict_binders.proofs.Binding.{length_names}
use Rattle.pict_binders.proofs.nearest.Nearest.len.Goals as goal

pub returns : goal.returns
returns c =
    let view : names_of c.self.inside.binders.items ≡ c.args.self.now = search rules in
    let n : c.len.result ≡ length c.self.inside.binders.items = search rules in
    n ∙ sym (length_names c.self.inside.binders.items) ∙ ap length view
