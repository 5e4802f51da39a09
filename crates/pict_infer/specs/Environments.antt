-- What an environment of the code stands for, and how it grows.
use Rattle.std.specs.Prelude.{◌≡◌, ℕ, List, ◌∷◌, ◌++◌, length}
use Rattle.pict_syntax.specs.declared.id.Id.{Id}
use Rattle.pict_types.specs.Types.{PlainType}
use Rattle.pict_types.specs.Entries.{PlainContext, EntriesAreWellFormed}
use Rattle.pict_types.specs.PlainContext.{names_of, plain_context, type_context}
use Rattle.pict_rules.specs.Environments.{Environment, entries_of}
use Rattle.pict_infer.specs.declared.env.Env.{Env}
use Rattle.pict_infer.specs.declared.known.Known.{Known}
use Rattle.pict_infer.specs.declared.env.Place.{Place}
use Rattle.pict_infer.specs.declared.added.Added.{Added}
use Rattle.pict_infer.specs.Knowing.{known_types, known_values}

abbrev pub known_names : Env → List (List ℕ)
known_names e = names_of e.context

abbrev pub known_entries : Env → PlainContext
known_entries e = plain_context e.context

-- what is known, as the rules speak of it
abbrev pub environment_of : Env → Environment
environment_of e = record {
  names = known_names e;
  context = known_entries e;
  values = known_values (length (type_context e.context)) e.values.items;
}

-- one value more, the nearest
abbrev pub with_value : Environment → Id → PlainType → Environment
with_value e x t = record { names = e.names; context = e.context; values = record { name = x.name.0; has = t } ∷ e.values }

-- entries and values were added
pub record GrewFrom (old new : Env) : Type 0 where
  pub texts : known_names new ≡ known_names old
  pub inner : PlainContext
  pub entries : known_entries new ≡ inner ++ known_entries old
  pub nearer : List Known
  pub values : new.values.items ≡ old.values.items ++ nearer

pub record IsPlaceOf (p : Place) (e : Env) : Type 0 where
  pub entries : p.entries ≡ length (known_entries e)
  pub values : p.values ≡ length e.values.items

-- the environment was at this place once, and has only grown since
pub record HasGrownFrom (p : Place) (now : Env) : Type 0 where
  pub before : Env
  pub place : IsPlaceOf p before
  pub grew : GrewFrom before now

-- as much is known as before
pub record IsAsBefore (old new : Env) : Type 0 where
  pub known : environment_of new ≡ environment_of old
  pub items : new.values.items ≡ old.values.items

-- what a pattern adds here: its type variables are well formed
pub record MayBeAdded (e : Env) (x : Added) : Type 0 where
  pub base : x.base ≡ length (type_context e.context)
  pub formed : EntriesAreWellFormed (known_names e) (entries_of (known_types x.binders.items) ++ known_entries e)
