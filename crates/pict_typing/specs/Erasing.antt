-- Types with ! in place of each /. Core typing takes no notice of the difference.
use Rattle.pict_types.specs.Types.{Capability, Both, Read, Write, Respond, PlainType, Top, Int, Char, Str, Boolean, Var, Apply, Chan, Fields, Rec, PlainTypes, no_type, types, PlainLabels, no_label, labels, PlainBound, Free, Below, Operator, PlainBounds, no_bound, bounds}

abbrev pub erased_capability : Capability → Capability
erased_capability Both = Both
erased_capability Read = Read
erased_capability Write = Write
erased_capability Respond = Write

abbrev mutual
  pub erased : PlainType → PlainType
  erased Top = Top
  erased Int = Int
  erased Char = Char
  erased Str = Str
  erased Boolean = Boolean
  erased (Var i) = Var i
  erased (Apply i ts) = Apply i (erased_types ts)
  erased (Chan m t) = Chan (erased_capability m) (erased t)
  erased (Fields bs ps ls) = Fields (erased_bounds bs) (erased_types ps) (erased_labels ls)
  erased (Rec t) = Rec (erased t)

  pub erased_types : PlainTypes → PlainTypes
  erased_types no_type = no_type
  erased_types (types t ts) = types (erased t) (erased_types ts)

  pub erased_labels : PlainLabels → PlainLabels
  erased_labels no_label = no_label
  erased_labels (labels l t ls) = labels l (erased t) (erased_labels ls)

  pub erased_bound : PlainBound → PlainBound
  erased_bound Free = Free
  erased_bound (Below t) = Below (erased t)
  erased_bound (Operator ms) = Operator ms

  pub erased_bounds : PlainBounds → PlainBounds
  erased_bounds no_bound = no_bound
  erased_bounds (bounds b bs) = bounds (erased_bound b) (erased_bounds bs)
