use Rattle.std.proofs.Common.{◌≡◌, ◌∙◌, ap, rules, not, nat_eq, map, filter, List}
use Rattle.std.proofs.lemmas.Fn.{filter_same}
use Rattle.pict_core.specs.Configuration.{Entry}
use Rattle.pict_shared.specs.declared.held.Held.{Held}
use Rattle.pict_shared.specs.Plain.{plain_held}
use Rattle.pict_orders.proofs.Entries.{map-filter_stamp}
use Rattle.pict_orders.proofs.state.State.gone.Goals as goal

pub returns : goal.returns
returns c =
    let e : c.retain.new.self.items ≡ filter (λ (d : Held). not (nat_eq c.args.s d.stamp)) c.args.self.now.entries.items = filter_same _ _ _ (λ x b q t. (search rules, search rules)) _ _ c.retain.ensures.filtered in
    let f : map plain_held c.retain.new.self.items ≡ filter (λ (d : Entry). not (nat_eq c.args.s d.stamp)) (map plain_held c.args.self.now.entries.items) = ap (map plain_held) e ∙ map-filter_stamp c.args.s c.args.self.now.entries.items in
    ap (λ (es : List Entry). record { channels = c.args.self.now.channels; next_stamp = c.args.self.now.next_stamp; entries = es }) f
