-- What was known before is known again.
use Rattle.std.proofs.Common.{◌≡◌, length, ◌∙◌, ap, ap₂}
use Rattle.pict_types.specs.Entries.{variables}
use Rattle.pict_types.specs.PlainContext.{names_of, plain_context}
use Rattle.pict_infer.specs.Knowing.{known_values}
use Rattle.pict_infer.specs.Environments.{known_entries, known_names}
use Rattle.pict_infer.proofs.Growing.{entries_back, environment, place_within, values_back}
use Rattle.pict_infer.proofs.env.Env.cut.Goals as goal

pub cut_values-requires : goal.cut_values-requires
cut_values-requires c =
    let g = c.requires.grown in
    record { named = c.args.self.now.named; left = place_within c.args.to g.before c.args.self.now g.place g.grew }

pub returns : goal.returns
returns c = λ before p g.
    let new = c.cut_entries.new.context in
    let entries : plain_context new ≡ known_entries before = c.cut_entries.ensures.entries ∙ entries_back c.args.to before c.args.self.now p g in
    let items = c.cut_values.ensures.values ∙ values_back c.args.to before c.args.self.now p g in
    record {
      known = environment (names_of new) (known_names before) (plain_context new) (known_entries before) _ _ (c.cut_entries.ensures.names ∙ g.texts) entries
          (ap₂ (λ n vs. known_values n vs) (ap (λ x. length (variables x)) entries) items);
      items = items;
    }
