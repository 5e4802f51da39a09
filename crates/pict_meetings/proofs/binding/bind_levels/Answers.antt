use Rattle.std.proofs.Common.{◌<◌, ◌≡◌, length, set, sym, ap, ◌∙◌, subst}
use Rattle.std.specs.List.{AllByRecursion}
use Rattle.pict_code.specs.Instruction.{Bind}
use Rattle.pict_code.specs.Plain.{plain_pat}
use Rattle.pict_desk.specs.Binding.{levels_of, BindsPattern}
use Rattle.pict_desk.specs.Known.{value_in}
use Rattle.pict_meetings.proofs.OneLevel.{plain_bind, bound_here}
use Rattle.pict_meetings.proofs.binding.bind_levels.Goals as goal

pub returns-in-Bind-clause-binds : goal.returns-in-Bind-clause-binds
returns-in-Bind-clause-binds c =
    let s = c.args.store.now in
    let level = c.in-Bind.level in
    let is : plain_pat c.args.pattern.now ≡ Bind level = ap plain_pat c.in-Bind.is ∙ plain_bind level in
    let inside = subst (λ q. AllByRecursion (λ l. l < length s.desk.values.items) (levels_of q)) is c.requires.inside in
    subst (λ q. BindsPattern s.desk.heap q (value_in s.desk.heap c.args.message.0 c.args.message.1) s.desk.values.items (set s.desk.values.items level c.args.message)) (sym is)
    (bound_here s.desk.heap s.desk.values.items level c.args.message inside.0)
