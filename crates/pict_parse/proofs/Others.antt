-- States and places in which no text ends.
use Rattle.std.proofs.Common.{◌≡◌, refl, Global}
use Rattle.std.specs.Prelude.{Vec, None}
use Rattle.pict_syntax.specs.declared.span.Span.{Span}
use Rattle.pict_syntax.specs.declared.id.Id.{Id}
use Rattle.pict_syntax.specs.declared.tree.Abs.{Abs}
use Rattle.pict_syntax.specs.declared.tree.Definition.{Definition}
use Rattle.pict_parse_states.specs.declared.places.DeclarationPlace.{DeclarationPlace}
use Rattle.pict_parse_states.specs.declared.places.Place.{Place}
use Rattle.pict_parse_states.specs.declared.states.State.{State}
use Rattle.pict_parse_states.specs.declared.states.State.TheVariants.{Need, HaveDefinition}
use Rattle.pict_parse_states.specs.View.{parse_state}
use Rattle.pict_automaton.specs.Machine.{ended}

pub ended_other : (x : State) → ((p : Place) → x ≡ Need p → ⊥) → ((o : Span) (ds : Vec Definition Global) (i : Id) (a : Abs) (p : DeclarationPlace) → x ≡ HaveDefinition o ds i a p → ⊥) → ended (parse_state x) ≡ None
ended_other (Need p) n m = absurd (n p refl)
ended_other (HaveDefinition o ds i a p) n m = absurd (m o ds i a p refl)
ended_other _ n m = refl
