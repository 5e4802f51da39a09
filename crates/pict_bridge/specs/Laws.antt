-- The laws from source to core: of erased types and of worlds that grow, of patterns, and of whole programs.
use Rattle.std.specs.Prelude.{ℕ, List, [], ◌≡◌, None}
use Rattle.pict_types.specs.Types.{PlainType, Fields, PlainTypes, PlainLabels, PlainBounds, PlainArg, TypeContext}
use Rattle.pict_types.specs.Renaming.{rename}
use Rattle.pict_types.specs.Replacing.{instance_of}
use Rattle.pict_sub.specs.Subtyping.{IsSubtype}
use Rattle.pict_core.specs.Term.{Val}
use Rattle.pict_typing.specs.Erasing.{erased}
use Rattle.pict_typing.specs.Worlds.{World, IsTypeIn, IsType, over}
use Rattle.pict_typing.specs.Values.{HasType}
use Rattle.pict_typing.specs.Processes.{AreClosedTypes, IsTyped, IsWellTyped}
use Rattle.pict_bridge.specs.Embedding.{erased_context, WorldGrows, MayStandInOrder, Embeds}
use Rattle.pict_syntax.specs.Trees.{Pat, Decs}
use Rattle.pict_scope.specs.Scopes.{scope_stop}
use Rattle.pict_rules.specs.Environments.{Environment, Extension, context_of}
use Rattle.pict_rules.specs.Rules.{pattern_against}
use Rattle.pict_rules.specs.Derivations.{Holds}
use Rattle.pict_rules.specs.Reached.{Reached}
use Rattle.pict_translation.specs.Patterns.{pat_core, pat_names}
use Rattle.pict_typing.specs.Opening.{Opens}
use Rattle.pict_bridge.specs.Opening.{meaning, named, AddsWhatIsOpened}
use Rattle.pict_rules.specs.Derivations as source
use Rattle.pict_core.specs.Configuration.{opening}
use Rattle.pict_translation.specs.Translation.{program_core}

-- an erased type is a type where the bounds are erased
abbrev pub ErasedIsType : Type 0
ErasedIsType = (names : List (List ℕ)) (c : TypeContext) (t : PlainType) → IsTypeIn names c t → IsTypeIn names (erased_context c) (erased t)

-- erasing keeps subtyping
abbrev pub ErasedKeepsSubtyping : Type 0
ErasedKeepsSubtyping = (c : TypeContext) (s t : PlainType) → IsSubtype c s t → IsSubtype (erased_context c) (erased s) (erased t)

-- a value keeps its type, renumbered, where the world grows
abbrev pub GrownValuesKeepTypes : Type 0
GrownValuesKeepTypes =
    (f : ℕ → ℕ) (w u : World) (v : Val) (t : PlainType)
    → AreClosedTypes w.names w.messages → WorldGrows f w u → HasType w v t → HasType u v (rename f t)

-- a value has a package type where it has the type of the fields with all arguments put in
abbrev pub PackedAtOnce : Type 0
PackedAtOnce =
    (w : World) (v : Val) (args : List PlainArg) (bs : PlainBounds) (ps : PlainTypes) (ls : PlainLabels)
    → MayStandInOrder w [] args bs → IsType w (Fields bs ps ls) → HasType w v (instance_of args ps ls) → HasType w v (Fields bs ps ls)

-- what a pattern adds against a type is what its core pattern opens, wherever the core pattern stands
abbrev pub PatternsOpen : Type 0
PatternsOpen =
    (names : List (List ℕ)) (program : Decs) (e : Environment) (p : Pat) (t : PlainType) (x : Extension) (c : TypeContext) (f : ℕ → ℕ)
    → scope_stop names program ≡ None → Reached names program _ e (pattern_against p t) → Holds e (pattern_against p t) x
    → Embeds f (erased_context (context_of e)) c
    → AddsWhatIsOpened e x f (named (pat_names e.names p)) (Opens e.names c (pat_core e.names p) (meaning f t))

-- a program in which no rule of scopes fails, and that the typing rules accept, has a typed core process
abbrev pub SourceToCore : Type 0
SourceToCore = (names : List (List ℕ)) (program : Decs) → source.IsTyped names program → IsTyped (over names []) (program_core names program)

-- its opening configuration is well typed
abbrev pub OpensWellTyped : Type 0
OpensWellTyped = (names : List (List ℕ)) (program : Decs) → source.IsTyped names program → IsWellTyped names (opening (program_core names program))
