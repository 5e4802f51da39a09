-- Types with their measures, within the limit on weight, and left out where they are too high.
use Rattle.pict_syntax.specs.declared.limits.TheConstants.{HEIGHT_LIMIT, WEIGHT_LIMIT}
use Rattle.std.specs.Prelude.{◌≡◌, ℕ, ◌+◌, ◌≤◌, ◌<◌, ◌^◌, max, List, [], ◌∷◌, ◌++◌, Option, Some, None, IfSome, IfNone, map, get_or, Bool, false, nat_lt, if◌then◌else◌}
use Rattle.std.specs.declared.vec.Vec.{Vec}
use Rattle.std.specs.declared.alloc.Global.{Global}
use Rattle.pict_normal.specs.declared.arguments.Arguments.{Arguments}
use Rattle.pict_normal.specs.declared.made.Made.{Made}
use Rattle.pict_normal.specs.declared.made.MakeError.{MakeError}
use Rattle.pict_normal.specs.declared.made.MakeError.TheVariants.{TooHeavy, Memory}
use Rattle.pict_types.specs.declared.limits.Measure.TheVariants.{Weight}
use Rattle.pict_types.specs.declared.limits.SizeError.{SizeError}
use Rattle.pict_types.specs.declared.limits.SizeError.TheVariants.{TooBig, Memory as Memory_}
use Rattle.pict_normal.specs.declared.made.MadeBound.{MadeBound}
use Rattle.pict_normal.specs.declared.made.Row.{Row}
use Rattle.pict_types.specs.Types.{PlainType, Top, Var, PlainTypes, no_type, types, PlainBound, count_types}
use Rattle.pict_types.specs.Measures.{held, weigh, weigh_variable, rise, rise_variable}
use Rattle.pict_types.specs.Types.{is_top}
use Rattle.pict_types.specs.Plain.{plain, plain_bound, plain_types}

-- why a type of this weight isn't made: the weight passes its limit, or there is want of memory
abbrev pub IsReason : ℕ → MakeError → Type 0
IsReason w TooHeavy = WEIGHT_LIMIT < w
IsReason w Memory = Unit {0}

-- the same for an instance
abbrev pub size_error : MakeError → SizeError
size_error TooHeavy = TooBig Weight
size_error Memory = Memory_

-- the items are those there were, and the part
abbrev pub IsGrown : {T : Type 0} → Option (Vec T Global) → Option T → List T → Type 0
IsGrown None p xs = ⊥
IsGrown (Some v) None xs = ⊥
IsGrown (Some v) (Some x) xs = xs ≡ v.items ++ x ∷ []

-- the measures of the type, whose weight is within its limit, the height as a u64 holds it; and the type where it isn't too high
pub record IsMade (ws hs : List ℕ) (m : Made) (t : PlainType) : Type 0 where
  pub weight : m.measures.weight ≡ weigh ws t
  pub light : m.measures.weight ≤ WEIGHT_LIMIT
  pub height : m.measures.height ≡ held (rise hs t)
  pub made : IfSome m.ty (λ u. plain u ≡ t)
  pub low : IfSome m.ty (λ u. m.measures.height ≤ HEIGHT_LIMIT)
  pub missing : IfNone m.ty (HEIGHT_LIMIT < m.measures.height)

-- the same for a type field with this bound
pub record IsMadeBound (ws hs : List ℕ) (m : MadeBound) (b : PlainBound) : Type 0 where
  pub weight : m.measures.weight ≡ weigh_variable ws b
  pub light : m.measures.weight ≤ WEIGHT_LIMIT
  pub height : m.measures.height ≡ held (rise_variable hs b)
  pub made : IfSome m.bound (λ d. plain_bound d ≡ b)
  pub missing : IfNone m.bound (HEIGHT_LIMIT < m.measures.height)

-- a row that with what is left weighs w and rises h: its items and what is left are the whole
pub record IsRow {T A : Type 0} (whole : List T → A) (row : Row T) (w left_w h left_h : ℕ) (all : A) : Type 0 where
  pub weight : row.measures.weight + left_w ≡ w
  pub light : row.measures.weight ≤ WEIGHT_LIMIT
  pub height : held (max row.measures.height left_h) ≡ held h
  pub height_fits : row.measures.height < 2 ^ 64
  pub made : IfSome row.items (λ v. whole v.items ≡ all)
  pub missing : IfNone row.items (HEIGHT_LIMIT < row.measures.height)

-- Top is in the place of an argument that isn't used; the marks begin with the last argument's
abbrev pub used_as : Bool → PlainType → PlainType
used_as used u = if used then u else Top

abbrev pub only_used : List Bool → PlainTypes → PlainTypes
only_used used no_type = no_type
only_used used (types u us) = types (used_as (get_or used (count_types us) false) u) (only_used used us)

-- the weight of the arguments that are used, together
abbrev pub counted : Bool → ℕ → ℕ
counted used w = if used then w else 0

abbrev pub weight_used : List ℕ → List Bool → PlainTypes → ℕ
weight_used ws used no_type = 0
weight_used ws used (types u us) = counted (get_or used (count_types us) false) (weigh ws u) + weight_used ws used us

-- an argument where its place is n: Top, or the variable n
abbrev pub kept_as : PlainType → ℕ → PlainType
kept_as u n = if is_top u then Top else Var n

abbrev pub kept_of : PlainTypes → PlainTypes
kept_of no_type = no_type
kept_of (types u us) = types (kept_as u (count_types us)) (kept_of us)

-- Top is in the place of an argument that is too high
abbrev pub built_as : List ℕ → PlainType → PlainType
built_as hs u = if nat_lt HEIGHT_LIMIT (rise hs u) then Top else u

abbrev pub built_of : List ℕ → PlainTypes → PlainTypes
built_of hs no_type = no_type
built_of hs (types u us) = types (built_as hs u) (built_of hs us)

abbrev pub weigh_each : List ℕ → PlainTypes → List ℕ
weigh_each ws no_type = []
weigh_each ws (types u us) = weigh ws u ∷ weigh_each ws us

abbrev pub rise_each : List ℕ → PlainTypes → List ℕ
rise_each hs no_type = []
rise_each hs (types u us) = held (rise hs u) ∷ rise_each hs us

-- the arguments of an operator: their measures, what stays of them, and they themselves where they aren't too high
pub record AreArguments (ws hs : List ℕ) (a : Arguments) (us : PlainTypes) : Type 0 where
  pub weights : map (λ m. m.weight) a.measures.items ≡ weigh_each ws us
  pub heights : map (λ m. m.height) a.measures.items ≡ rise_each hs us
  pub kept : plain_types a.kept.items ≡ kept_of us
  pub types_ : plain_types a.types.items ≡ built_of hs us
