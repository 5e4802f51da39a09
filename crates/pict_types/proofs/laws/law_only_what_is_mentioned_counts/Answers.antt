-- Renamings and replacements that agree on what is mentioned.
use Rattle.pict_types.proofs.Mentioned.{rename_agrees, replace_agrees, closed_renamed, closed_replaced, renamed_mentions, lowered_moved, moved_lowered, moved_mentions_none}
use Rattle.pict_types.proofs.laws.law_only_what_is_mentioned_counts.Goals as goal

pub returns : goal.returns
returns c = record {
  renamed = λ p f g t m h. rename_agrees t (record { each = h }) m;
  replaced = λ p r q t m h. replace_agrees t (record { types_ = λ i k. (h i k).0; heads_ = λ i k. (h i k).1 }) m;
  closed_renamed = closed_renamed;
  closed_replaced = closed_replaced;
  mentions = renamed_mentions;
  lowered = lowered_moved;
  moved = moved_lowered;
  none = moved_mentions_none;
}
