-- There is no type field, or one that the type mentions is marked.
use Rattle.std.proofs.Common.{◌==◌, ◌∙◌, sym, ap, map, is_none, length, eqb-true}
use Rattle.pict_types.specs.Plain.{plain}
use Rattle.pict_lines.proofs.Marks.{marked_mentions, none_mentioned}
use Rattle.pict_lines.proofs.fields.mentions_missing.Goals as goal

pub returns-then-is_empty : goal.returns-then-is_empty
returns-then-is_empty c = λ bs.
    none_mentioned bs c.args.found.now.list.items (plain c.args.t.now)
    (eqb-true (length c.args.found.now.list.items) 0 (sym (c.is_empty.ensures ∙ ap (λ n. n == 0) c.args.found.now.list.ok.0) ∙ c.if-is_empty.true))

pub returns : goal.returns
returns c =
    marked_mentions c.args.found.now.list.items c.deref-2.result.now (plain c.args.t.now) c.mentions.result
    (c.deref-2.ensures.value ∙ c.in_ok-missing.ensures ∙ ap (map is_none) c.deref.ensures.value) c.mentions.ensures
