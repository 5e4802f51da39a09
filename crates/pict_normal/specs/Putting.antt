-- What stands for a variable, and for the variables of a type.
use Rattle.std.specs.Prelude.{◌≡◌, ℕ, ◌+◌, ◌≤◌, ◌<◌, ◌^◌, List, length, take}
use Rattle.pict_types.specs.declared.context.Context.{Context}
use Rattle.pict_types.specs.declared.measure.Measures.{Measures}
use Rattle.pict_normal.specs.declared.put.Put.{Put}
use Rattle.pict_normal.specs.declared.put.Put.TheVariants.{Variable as Variable_, Proper as Proper_, Operator as Operator_}
use Rattle.pict_normal.specs.declared.puts.Puts.{Puts}
use Rattle.pict_normal.specs.declared.puts.Source.{Source}
use Rattle.pict_normal.specs.declared.puts.Source.TheVariants.{Arguments as Arguments_, Entries as Entries_}
use Rattle.pict_types.specs.Around.{weights_inside, heights_inside}
use Rattle.pict_types.specs.Entries.{Definition, PlainContext}
use Rattle.pict_normal.specs.Meanings.{meanings}
use Rattle.pict_types.specs.Places.{IsWhatAt}
use Rattle.pict_types.specs.Types.{PlainArg, PlainType, Top, Var, PlainBounds, count_bounds, TypeContext}
use Rattle.pict_types.specs.Renaming.{rename, moved}
use Rattle.pict_types.specs.Replacing.{Head, variable, operator, nothing, Replacement, replacement_past, replace_bounds, arguments}
use Rattle.pict_types.specs.Kinds.{Kind}
use Rattle.pict_types.specs.Fitting.{ReplacesKinds}
use Rattle.pict_types.specs.Measures.{held, measure_at, weights, weights_under, heights, heights_under}
use Rattle.pict_types.specs.Plain.{plain, plain_args}
use Rattle.pict_types.specs.PlainContext.{names_of, plain_context, type_context}

-- as a type, and where it is applied
abbrev pub put_type : Put → PlainType
put_type (Variable_ k) = Var k
put_type (Proper_ t by) = rename (moved by 0) (plain t.now)
put_type (Operator_ n t by) = Top

abbrev pub put_head : Put → Head
put_head (Variable_ k) = variable k
put_head (Proper_ t by) = nothing
put_head (Operator_ n t by) = operator n (rename (moved by n) (plain t.now))

-- what stands for variable i under d binders in n variables has room there
abbrev pub HasRoom : ℕ → ℕ → ℕ → Put → Type 0
HasRoom n d i (Variable_ k) = k ≤ i + d
HasRoom n d i (Proper_ t by) = (d ≤ by) × (by ≤ n + d)
HasRoom n d i (Operator_ p t by) = (d ≤ by) × (by ≤ n + d)

-- there is room for m more binders around it
abbrev pub CanMove : ℕ → Put → Type 0
CanMove m (Variable_ k) = k + m < 2 ^ 32
CanMove m (Proper_ t by) = by + m < 2 ^ 32
CanMove m (Operator_ n t by) = by + m < 2 ^ 32

abbrev pub replacement_by : Source → PlainContext → Replacement
replacement_by (Arguments_ args) c = arguments (plain_args args.now)
replacement_by Entries_ c = meanings c

abbrev pub context_in : Puts → Context
context_in p = p.context.now

abbrev pub replacement_of : Puts → Replacement
replacement_of p = replacement_by p.source (plain_context p.context.now)

-- variable i, under so many binders, is the definition at this place of the context
pub record IsDefined (p : Puts) (depth i place : ℕ) : Type 0 where
  pub arg : PlainArg
  pub there : IsWhatAt (plain_context p.context.now) place (Definition arg)
  pub behind : i ≡ place + depth
  pub put : replacement_of p ≡ meanings (plain_context p.context.now)

abbrev pub context_names : Puts → List (List ℕ)
context_names p = names_of (context_in p)

abbrev pub variables_in : Puts → TypeContext
variables_in p = type_context (context_in p)

abbrev pub weights_in : Puts → List Measures → List ℕ
weights_in p ms = weights_inside ms (weights (variables_in p))

abbrev pub heights_in : Puts → List Measures → List ℕ
heights_in p ms = heights_inside ms (heights (variables_in p))

-- the replacement under these binders
abbrev pub replacement_in : Puts → List Measures → Replacement
replacement_in p ms = replacement_past (length ms) (replacement_of p)

-- what is put fits the kinds of the variables in something under these binders, which is well formed where F says so
pub record FitsKinds (p : Puts) (ms : List Measures) (F : List Kind → Type 0) : Type 0 where
  pub sources : List Kind
  pub targets : List Kind
  pub keeps : ReplacesKinds (context_names p) (replacement_in p ms) sources targets
  pub formed : F sources

-- the measures `inner` of binders, and of the type fields bs under them with what is put into them, the innermost last
pub record IsUnder (p : Puts) (outer inner : List Measures) (bs : PlainBounds) : Type 0 where
  pub outer_ : take (length outer) inner ≡ outer
  pub count : length inner ≡ length outer + count_bounds bs
  pub weights_ : weights_in p inner ≡ weights_under (weights_in p outer) (replace_bounds (replacement_in p outer) bs)
  pub heights_ : (i : ℕ)
      → held (measure_at (heights_in p inner) i) ≡ held (measure_at (heights_under (heights_in p outer) (replace_bounds (replacement_in p outer) bs)) i)
