use Rattle.std.proofs.Common.{List, [], ◌∷◌, ◌++◌, sym, ap, ◌∙◌}
use Rattle.pict_picker.specs.Lists.{left_ready}
use Rattle.pict_picker.specs.declared.waiting.Waiting.{Waiting}
use Rattle.pict_picker.proofs.placing.go_on.Goals as goal

pub returns-then-stays : goal.returns-then-stays
returns-then-stays c = c.push.ensures.items ∙ ap (λ b. left_ready c.args.i c.args.ready.now.items b ++ c.args.body ∷ []) (sym c.if-stays.true)

pub returns-else-stays : goal.returns-else-stays
returns-else-stays c =
    c.push-else-stays.ensures.items ∙ ap (λ (ws : List Waiting). ws ++ c.args.body ∷ []) c.remove.ensures.items
    ∙ ap (λ b. left_ready c.args.i c.args.ready.now.items b ++ c.args.body ∷ []) (sym c.if-stays.false)
