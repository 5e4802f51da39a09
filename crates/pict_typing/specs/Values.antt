-- Types of values. The rules are declarative: which one applies doesn't follow from the form of a value or a type.
use Rattle.std.specs.Prelude.{◌≡◌, ℕ, ℤ, Bool, List, [], ◌∷◌, slice_get, Some}
use Rattle.pict_syntax.specs.declared.primitive.Primitive.{Primitive}
use Rattle.pict_types.specs.Types.{Both, Write, PlainType, Int, Char, Str, Boolean, Chan, Fields, Rec, PlainTypes, no_type, types, PlainLabels, no_label, labels, PlainBound, PlainBounds, no_bound, bounds, PlainArg}
use Rattle.pict_types.specs.PrimitiveTypes.{takes}
use Rattle.pict_types.specs.Replacing.{unfolding_of}
use Rattle.pict_sub.specs.Subtyping.{IsSubtype}
use Rattle.pict_core.specs.Term as core
use Rattle.pict_core.specs.Term.{Val, Vals, Labelled, Record, no_vals, more_vals, no_labelled, more_labelled}
use Rattle.pict_core.specs.Closed.{IsDistinct}
use Rattle.pict_typing.specs.Erasing.{erased}
use Rattle.pict_typing.specs.Worlds.{World, over, IsType, MayStandFor, with_first}

mutual
  -- in w the value has the type
  pub data HasType (w : World) : Val → PlainType → Type 0 where
    -- a variable has its type, and a channel of messages of type T has ^T
    variable_has : {level : ℕ} {t : PlainType} → slice_get w.variables level ≡ Some t → HasType w (core.Var level) t
    channel_has : {c : ℕ} {t : PlainType} → slice_get w.messages c ≡ Some t → HasType w (core.Chan c) (Chan Both t)
    -- a literal has its base type
    int_has : {n : ℤ} → HasType w (core.Int n) Int
    char_has : {byte : ℕ} → HasType w (core.Char byte) Char
    boolean_has : {b : Bool} → HasType w (core.Boolean b) Boolean
    text_has : {bytes : List ℕ} → HasType w (core.Text bytes) Str
    -- a primitive that takes values of type T has !T, with ! for each / in T
    primitive_has : {p : Primitive} → HasType w (core.PrimitiveVal p) (Chan Write (erased (takes p)))
    -- a record in which no label stands twice has the record type of its fields' types
    record_has : {vs : Vals} {ws : Labelled} {ps : PlainTypes} {ls : PlainLabels}
        → IsDistinct ws → HaveTypes w vs ps → HaveLabels w ws ls → IsType w (Fields no_bound ps ls)
        → HasType w (Record vs ws) (Fields no_bound ps ls)
    -- a value has a package type where, for some argument that may stand for the first type field, it has the rest of
    -- the type with this argument put in
    packed : {v : Val} {b : PlainBound} {bs : PlainBounds} {ps : PlainTypes} {ls : PlainLabels} (a : PlainArg)
        → MayStandFor w b a → IsType w (Fields (bounds b bs) ps ls) → HasType w v (with_first a bs ps ls)
        → HasType w v (Fields (bounds b bs) ps ls)
    -- a value has a recursive type where it has its unfolding
    folded : {v : Val} {t : PlainType} → IsType w (Rec t) → HasType w v (unfolding_of t) → HasType w v (Rec t)
    -- and it has the unfolding where it has the recursive type
    unfolded : {v : Val} {t : PlainType} → IsType w (Rec t) → HasType w v (Rec t) → HasType w v (unfolding_of t)
    -- where values of a recursive type may be sent, values of its unfolding may be sent, since they have both types
    sends_unfolding : {v : Val} {t : PlainType}
        → IsType w (Rec t) → HasType w v (Chan Write (Rec t)) → HasType w v (Chan Write (unfolding_of t))
    -- subsumption: a value that has a type has each type above it
    raised : {v : Val} (s : PlainType) {t : PlainType}
        → IsType w s → IsType w t → HasType w v s → IsSubtype w.type_variables s t → HasType w v t

  -- as many values as types, each with its type
  pub data HaveTypes (w : World) : Vals → PlainTypes → Type 0 where
    none_have : HaveTypes w no_vals no_type
    more_have : {v : Val} {vs : Vals} {t : PlainType} {ts : PlainTypes}
        → HasType w v t → HaveTypes w vs ts → HaveTypes w (more_vals v vs) (types t ts)

  -- the same labels in the same order, each value with its type
  pub data HaveLabels (w : World) : Labelled → PlainLabels → Type 0 where
    none_labelled : HaveLabels w no_labelled no_label
    more_labels : {label : ℕ} {v : Val} {vs : Labelled} {t : PlainType} {ts : PlainLabels}
        → HasType w v t → HaveLabels w vs ts → HaveLabels w (more_labelled label v vs) (labels label t ts)

-- closed values, over channels with messages of these types, and their types, in order
abbrev pub HaveInOrder : List (List ℕ) → List PlainType → List Val → List PlainType → Type 0
HaveInOrder names messages [] [] = Unit {0}
HaveInOrder names messages [] (t ∷ ts) = ⊥
HaveInOrder names messages (v ∷ vs) [] = ⊥
HaveInOrder names messages (v ∷ vs) (t ∷ ts) = HasType (over names messages) v t × HaveInOrder names messages vs ts
