-- The plain values of the crate's types: the same without where they lie in memory.
use Rattle.std.specs.Prelude.{List, [], ◌∷◌}
use Rattle.pict_syntax.specs.declared.name.Name.{Name}
use Rattle.pict_types.specs.declared.types.Cap.{Cap}
use Rattle.pict_types.specs.declared.types.Cap.TheVariants.{Both as Both_, Read as Read_, Write as Write_, Respond as Respond_}
use Rattle.pict_types.specs.declared.types.Ty.{Ty}
use Rattle.pict_types.specs.declared.types.Ty.TheVariants.{Top as Top_, Int as Int_, Char as Char_, Str as Str_, Bool as Bool_, Var as Var_, Apply' as Apply_, Chan' as Chan_, Fields' as Fields_, Rec' as Rec_}
use Rattle.pict_types.specs.declared.types.Record.{Record}
use Rattle.pict_types.specs.declared.types.Bound.{Bound}
use Rattle.pict_types.specs.declared.types.Bound.TheVariants.{Free as Free_, Below as Below_, Operator as Operator_}
use Rattle.pict_types.specs.declared.types.Bound.TheBlock.{Row_of-Ty, end_of-Ty, more_of-Ty, Row_of-Bound, end_of-Bound, more_of-Bound, Row_of-Record-labelled-2, end_of-Record-labelled-2, more_of-Record-labelled-2}
use Rattle.pict_types.specs.declared.types.Arg.{Arg}
use Rattle.pict_types.specs.declared.types.Arg.TheVariants.{Plain as Plain_, Op as Op_}
use Rattle.pict_types.specs.Types.{Capability, Both, Read, Write, Respond, PlainType, Top, Int, Char, Str, Boolean, Var, Apply, Chan, Fields, Rec, PlainTypes, no_type, types, PlainLabels, no_label, labels, PlainBound, Free, Below, Operator, PlainBounds, no_bound, bounds, PlainArg, Plain, Op}

abbrev pub plain_cap : Cap → Capability
plain_cap Both_ = Both
plain_cap Read_ = Read
plain_cap Write_ = Write
plain_cap Respond_ = Respond

abbrev mutual
  pub plain : Ty → PlainType
  plain Top_ = Top
  plain Int_ = Int
  plain Char_ = Char
  plain Str_ = Str
  plain Bool_ = Boolean
  plain (Var_ i) = Var i
  plain (Apply_ i p shape ts) = Apply i (plain_row ts)
  plain (Chan_ m p t) = Chan (plain_cap m) (plain t)
  plain (Fields_ p a bs b ps c ls) = Fields (plain_bound_row bs) (plain_row ps) (plain_label_row ls)
  plain (Rec_ p t) = Rec (plain t)

  pub plain_bound : Bound → PlainBound
  plain_bound Free_ = Free
  plain_bound (Below_ t) = Below (plain t)
  plain_bound (Operator_ ms) = Operator ms.items

  pub plain_row : {m : _} → Row_of-Ty m → PlainTypes
  plain_row end_of-Ty = no_type
  plain_row (more_of-Ty t ts) = types (plain t) (plain_row ts)

  pub plain_bound_row : {m : _} → Row_of-Bound m → PlainBounds
  plain_bound_row end_of-Bound = no_bound
  plain_bound_row (more_of-Bound b bs) = bounds (plain_bound b) (plain_bound_row bs)

  pub plain_label_row : {m : _} → Row_of-Record-labelled-2 m → PlainLabels
  plain_label_row end_of-Record-labelled-2 = no_label
  plain_label_row (more_of-Record-labelled-2 n t ls) = labels n.0 (plain t) (plain_label_row ls)

-- the types, bounds, labelled fields and arguments of a list
abbrev pub plain_types : List Ty → PlainTypes
plain_types [] = no_type
plain_types (t ∷ ts) = types (plain t) (plain_types ts)

abbrev pub plain_bounds : List Bound → PlainBounds
plain_bounds [] = no_bound
plain_bounds (b ∷ bs) = bounds (plain_bound b) (plain_bounds bs)

abbrev pub plain_labels : List (Name × Ty) → PlainLabels
plain_labels [] = no_label
plain_labels (f ∷ fs) = labels f.0.0 (plain f.1) (plain_labels fs)

-- a record as the record type that it makes
abbrev pub plain_record : Record → PlainType
plain_record r = Fields (plain_bounds r.binders.items) (plain_types r.positional.items) (plain_labels r.labelled.items)

abbrev pub plain_arg : Arg → PlainArg
plain_arg (Plain_ t) = Plain (plain t)
plain_arg (Op_ n t) = Op n (plain t)

abbrev pub plain_args : List Arg → List PlainArg
plain_args [] = []
plain_args (a ∷ args) = plain_arg a ∷ plain_args args
