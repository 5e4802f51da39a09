use Rattle.std.proofs.Common.{◌≡◌, ◌<◌, ◌∙◌, ◌++◌, ℕ, ap, subst, sym, length}
use Rattle.std.specs.List.{flat_map}
use Rattle.pict_core.specs.Plain.{plain_core}
use Rattle.pict_object.specs.Objects.{count_bytes, text_bytes}
use Rattle.pict_object.specs.Sizes.{place_at}
use Rattle.pict_object.specs.Collected.{texts_of, number_at}
use Rattle.pict_object.proofs.Encoded.{whole}
use Rattle.pict_object.proofs.encoding.write_object.Goals as goal

pub returns : goal.returns
returns c =
    let table = c.args.table.now in
    let names = c.args.names.now in
    whole names c.text-distinct.ensures.distinct (plain_core c.args.core.now) table c.deref.result.now c.write_table.new.out.items c.write_process.new.out.items c.requires.labels
    (subst (λ xs. (k : ℕ) → k < length table → place_at xs (number_at table k) ≡ k) (sym c.deref.ensures.value) c.in_ok-places.ensures)
    (c.in_ok-write_table.ensures ∙ ap (λ z. z ++ (count_bytes (length table) ++ flat_map text_bytes (texts_of names table))) c.in_ok-object.ensures.items)
    c.in_ok-write_process.ensures
