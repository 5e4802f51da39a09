use Rattle.std.proofs.Common.{ℕ, ◌≡◌, List, length, map, sym, ap, ◌∙◌, subst}
use Rattle.std.proofs.lemmas.List.{with_items_is}
use Rattle.pict_desk.specs.Known.{pair_at}
use Rattle.pict_desk.specs.Pairs.{ArePairs}
use Rattle.pict_picker.proofs.frames.read_frame.Goals as goal

pub returns-clause-read : goal.returns-clause-read
returns-clause-read c =
    let d = c.args.desk.now in
    let values = c.read_values.new.values in
    let same : length values ≡ length d.values.items = c.read_values.ensures.len ∙ ap length c.deref_mut.ensures.value in
    subst (λ (vs : List (ℕ × ℕ)). map (pair_at vs) c.args.levels.now ≡ c.args.frame.now) (sym (with_items_is d.values values (same ∙ sym d.values.ok.0))) c.read_values.ensures.read

pub returns-clause-pairs : goal.returns-clause-pairs
returns-clause-pairs c h pairs all =
    let d = c.args.desk.now in
    let values = c.read_values.new.values in
    let same : length values ≡ length d.values.items = c.read_values.ensures.len ∙ ap length c.deref_mut.ensures.value in
    subst (ArePairs h) (sym (with_items_is d.values values (same ∙ sym d.values.ok.0))) (c.read_values.ensures.pairs h (subst (ArePairs h) (sym c.deref_mut.ensures.value) pairs) all)
