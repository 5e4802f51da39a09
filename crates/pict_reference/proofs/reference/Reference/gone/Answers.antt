use Rattle.std.proofs.Common.{◌≡◌, ◌∙◌, ap, rules, not, nat_eq, map, filter, List}
use Rattle.std.proofs.lemmas.Fn.{filter_same}
use Rattle.pict_core.specs.Configuration as plain
use Rattle.pict_reference.specs.declared.entry.Entry.{Entry}
use Rattle.pict_reference.specs.Plain.{plain_entry}
use Rattle.pict_reference.proofs.Lists.{map-filter_stamp}
use Rattle.pict_reference.proofs.reference.Reference.gone.Goals as goal

pub returns : goal.returns
returns c =
    let e : c.retain.new.self.items ≡ filter (λ (d : Entry). not (nat_eq c.args.s d.stamp)) c.args.self.now.entries.items = filter_same _ _ _ (λ x b q t. (search rules, search rules)) _ _ c.retain.ensures.filtered in
    let f : map plain_entry c.retain.new.self.items ≡ filter (λ (d : plain.Entry). not (nat_eq c.args.s d.stamp)) (map plain_entry c.args.self.now.entries.items) = ap (map plain_entry) e ∙ map-filter_stamp c.args.s c.args.self.now.entries.items in
    ap (λ (es : List plain.Entry). record { channels = c.args.self.now.channels; next_stamp = c.args.self.now.next_stamp; entries = es }) f
