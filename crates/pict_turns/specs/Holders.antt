-- Who has the turn, as it is kept.
use Rattle.std.specs.Prelude.{ℕ}
use Rattle.pict_desk.specs.declared.kept.Kept.{Kept}
use Rattle.pict_turns.specs.declared.holder.Kind.{Kind}
use Rattle.pict_turns.specs.declared.holder.Kind.TheVariants as kinds
use Rattle.pict_turns.specs.declared.turn.Turn.{Turn}
use Rattle.pict_turns.specs.declared.turn.Turn.TheVariants.{Nobody, Node, Wide, Output}

-- who has the turn, by its kind and what is kept beside it
abbrev pub holder_turn : Kind → ℕ × ℕ → Kept → Turn
holder_turn kinds.Nobody record_pair kept = Nobody
holder_turn (kinds.Node number) record_pair kept = Node number
holder_turn (kinds.Wide number) record_pair kept = Wide number record_pair
holder_turn kinds.Output record_pair kept = Output kept
