use Rattle.std.proofs.Common.{◌∷◌, [], ◌++◌, refl, ap, ◌∙◌}
use Rattle.std.proofs.lemmas.Option.{slice_get_read}
use Rattle.pict_core.specs.Run.{printed_by}
use Rattle.pict_reference.specs.Plain.{plain_label}
use Rattle.pict_orders.specs.Plain.{configuration_of}
use Rattle.pict_orders.proofs.Going.{go_by}
use Rattle.pict_orders.proofs.search.Search.go_on.Goals as goal

pub returns-clause-goes : goal.returns-clause-goes
returns-clause-goes c =
    go_by c.args.self.now c.reach.new.self c.reach.result c.args.number c.index-from.result.now c.args.choice (configuration_of c.args.state) (plain_label c.args.label.now) c.in_ok-choices.choices.items c.in_ok-bytes.bytes.items
    (slice_get_read _ _ _ _ refl c.requires c.index-from.ensures) (c.in_ok-choices.ensures ∙ ap (λ l. l ++ c.args.choice ∷ []) c.deref.ensures.value)
    (c.in_ok-bytes.ensures ∙ ap (λ b. b ++ printed_by (plain_label c.args.label.now)) c.deref-2.ensures.value) c.reach.ensures.goes
