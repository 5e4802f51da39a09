-- What is known after calls that leave it as it was, and calls that make more known.
use Rattle.std.proofs.Common.{[], ◌++◌, length, sym, ◌∙◌, ap, subst, Result, OnOk}
use Rattle.pict_syntax.proofs.ListLemmas.{on_ok}
use Rattle.pict_types.specs.Entries.{EntriesAreWellFormed, variables}
use Rattle.pict_rules.specs.Environments.{Environment, entries_of}
use Rattle.pict_infer.specs.declared.added.Added.{Added}
use Rattle.pict_infer.specs.declared.env.Env.{Env}
use Rattle.pict_infer.specs.declared.error.InferError.{InferError}
use Rattle.pict_infer.specs.Environments.{GrewFrom, IsAsBefore, MayBeAdded}
use Rattle.pict_infer.specs.Knowing.{known_types}
use Rattle.pict_infer.proofs.Growing.{grew_types}
use Rattle.pict_infer.proofs.MadeKnown.{grew_twice}

-- what is as before has grown by nothing
pub as_before_grew : (old new : Env) → IsAsBefore old new → GrewFrom old new
as_before_grew old new h = grew_types old new [] (ap (λ (e : Environment). e.names) h.known) (ap (λ (e : Environment). e.context) h.known) h.items

pub result_grew : {T : Type 0} (r : Result T InferError) (old new : Env) → OnOk r (IsAsBefore old new) → OnOk r (GrewFrom old new)
result_grew r old new h = on_ok r (as_before_grew old new) h

pub grew_after : (old mid new : Env) → IsAsBefore old mid → GrewFrom mid new → GrewFrom old new
grew_after old mid new h g = grew_twice old mid new (as_before_grew old mid h) g

-- what may be added still may
pub still_may : (mid new : Env) (x : Added) → IsAsBefore mid new → MayBeAdded mid x → MayBeAdded new x
still_may mid new x h m = record {
  base = m.base ∙ ap (λ (e : Environment). length (variables e.context)) (sym h.known);
  formed = subst (λ (e : Environment). EntriesAreWellFormed e.names (entries_of (known_types x.binders.items) ++ e.context)) (sym h.known) m.formed;
}
