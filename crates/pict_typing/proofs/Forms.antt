-- Canonical forms: what a closed value of a closed type looks like, said without subtyping of types that aren't closed.
use Rattle.std.specs.Prelude.{slice_get}
use Rattle.std.proofs.Common.{◌≡◌, ℕ, ℤ, Bool, List, [], Some, rules}
use Rattle.pict_syntax.specs.declared.primitive.Primitive.{Primitive}
use Rattle.pict_syntax.specs.declared.primitive.Primitive.TheVariants as primitive
use Rattle.pict_types.specs.Types.{Capability, Both, Read, Write, PlainType, Top, Int, Char, Str, Boolean, Chan, Fields, Rec, PlainTypes, no_type, types, PlainLabels, no_label, labels, PlainBound, PlainBounds, no_bound, bounds, PlainArg}
use Rattle.pict_types.specs.Replacing.{unfolding_of}
use Rattle.pict_types.specs.PrimitiveTypes.{takes}
use Rattle.pict_types.proofs.Formed.{replace_formed, arg_keeps, unfolding_formed}
use Rattle.pict_sub.specs.Subtyping.{both_read, write_write, both_write, IsSubtype, same, upward, downward}
use Rattle.pict_core.specs.Term as core
use Rattle.pict_core.specs.Term.{Val, Vals, Labelled, Record, no_vals, more_vals}
use Rattle.pict_core.specs.Matching.{field_at}
use Rattle.pict_typing.specs.Erasing.{erased}
use Rattle.pict_typing.specs.Worlds.{over, IsTypeIn, with_first, MayStandFor}
use Rattle.pict_typing.specs.Values.{HasType, channel_has, int_has, char_has, boolean_has, text_has, primitive_has, packed, folded, sends_unfolding, raised}
use Rattle.pict_typing.specs.Processes.{AreClosedTypes}
use Rattle.pict_typing.proofs.Closed.{closed_type}

-- Who may send values of type t may send values of type s: these have the type t by subtyping and folding.
pub data MaySend (names : List (List ℕ)) : PlainType → PlainType → Type 0 where
  by_subtyping : {s t : PlainType} → IsSubtype [] s t → MaySend names s t
  -- the unfolding of a recursive type, where that may be sent
  by_unfolding : {s t : PlainType} → IsTypeIn names [] (Rec s) → MaySend names (Rec s) t → MaySend names (unfolding_of s) t
  both_ways : {s u : PlainType} (t : PlainType) → IsTypeIn names [] t → MaySend names s t → MaySend names t u → MaySend names s u

-- a channel of messages of type t may be used at type u with the capability
pub data ChannelFits (names : List (List ℕ)) (t : PlainType) : Capability → PlainType → Type 0 where
  both_fits : ChannelFits names t Both t
  read_fits : {u : PlainType} → IsSubtype [] t u → ChannelFits names t Read u
  write_fits : {u : PlainType} → MaySend names u t → ChannelFits names t Write u

-- The closed value, over channels with messages of the types ms, has the form of a value of the type.
mutual
  pub data Fits (names : List (List ℕ)) (ms : List PlainType) : Val → PlainType → Type 0 where
    top_fits : {v : Val} → HasType (over names ms) v Top → Fits names ms v Top
    int_fits : {n : ℤ} → Fits names ms (core.Int n) Int
    char_fits : {byte : ℕ} → Fits names ms (core.Char byte) Char
    boolean_fits : {b : Bool} → Fits names ms (core.Boolean b) Boolean
    text_fits : {bytes : List ℕ} → Fits names ms (core.Text bytes) Str
    channel_fits : {c : ℕ} {k : Capability} {t u : PlainType} → slice_get ms c ≡ Some t → ChannelFits names t k u → Fits names ms (core.Chan c) (Chan k u)
    primitive_fits : {p : Primitive} {u : PlainType} → MaySend names u (erased (takes p)) → Fits names ms (core.PrimitiveVal p) (Chan Write u)
    record_fits : {vs : Vals} {ws : Labelled} {ps : PlainTypes} {ls : PlainLabels}
        → HasType (over names ms) (Record vs ws) (Fields no_bound ps ls) → AllFit names ms vs ps → LabelsFit names ms ws ls
        → Fits names ms (Record vs ws) (Fields no_bound ps ls)
    package_fits : {v : Val} {b : PlainBound} {bs : PlainBounds} {ps : PlainTypes} {ls : PlainLabels} (a : PlainArg)
        → MayStandFor (over names ms) b a → Fits names ms v (with_first a bs ps ls) → Fits names ms v (Fields (bounds b bs) ps ls)
    fold_fits : {v : Val} {t : PlainType} → Fits names ms v (unfolding_of t) → Fits names ms v (Rec t)

  pub data AllFit (names : List (List ℕ)) (ms : List PlainType) : Vals → PlainTypes → Type 0 where
    none_fit : AllFit names ms no_vals no_type
    more_fit : {v : Val} {vs : Vals} {t : PlainType} {ts : PlainTypes} → Fits names ms v t → AllFit names ms vs ts → AllFit names ms (more_vals v vs) (types t ts)

  -- each label of the type is found in the value
  pub data LabelsFit (names : List (List ℕ)) (ms : List PlainType) : Labelled → PlainLabels → Type 0 where
    none_left : {ws : Labelled} → LabelsFit names ms ws no_label
    found : {l : ℕ} {v : Val} {ws : Labelled} {t : PlainType} {ls : PlainLabels} → field_at l ws ≡ Some v → Fits names ms v t → LabelsFit names ms ws ls → LabelsFit names ms ws (labels l t ls)

pub fold_inside : {names : List (List ℕ)} {ms : List PlainType} {v : Val} {t : PlainType} → Fits names ms v (Rec t) → Fits names ms v (unfolding_of t)
fold_inside (fold_fits x) = x

-- ---- closed types made of closed types

pub first_type : (names : List (List ℕ)) (ms : List PlainType) (a : PlainArg) (b : PlainBound) (bs : PlainBounds) (ps : PlainTypes) (ls : PlainLabels) → MayStandFor (over names ms) b a → IsTypeIn names [] (Fields (bounds b bs) ps ls) → IsTypeIn names [] (with_first a bs ps ls)
first_type names ms a b bs ps ls may w =
    replace_formed names (Fields bs ps ls) (arg_keeps a b may.of_kind may.formed (record { types_ = λ i q. q; heads_ = λ i n q. q })) (w.0.1, w.1)

pub unfolding_type : (names : List (List ℕ)) (t : PlainType) → IsTypeIn names [] (Rec t) → IsTypeIn names [] (unfolding_of t)
unfolding_type names t w = unfolding_formed names [] t w

pub takes_type : (names : List (List ℕ)) (p : Primitive) → IsTypeIn names [] (erased (takes p))
takes_type names primitive.Print = tt
takes_type names _ = search rules

-- ---- a canonical form has its type

-- what may send values of type t has the type !u, where values of type u may be sent as values of type t
sends : (names : List (List ℕ)) (ms : List PlainType) (v : Val) {t u : PlainType} → IsTypeIn names [] t → IsTypeIn names [] u → MaySend names u t → HasType (over names ms) v (Chan Write t) → HasType (over names ms) v (Chan Write u)
sends names ms v {t = t} f g (by_subtyping d) h = raised (Chan Write t) f g h (downward write_write d)
sends names ms v {t = t} f g (by_unfolding {s = s} r x) h = sends_unfolding r (sends names ms v f r x h)
sends names ms v f g (both_ways t k x y) h = sends names ms v k g x (sends names ms v f k y h)

module _ (names : List (List ℕ)) (ms : List PlainType) (closed_ : AreClosedTypes names ms) where
  pub fits_have : {v : Val} {t : PlainType} → IsTypeIn names [] t → Fits names ms v t → HasType (over names ms) v t
  fits_have w (top_fits h) = h
  fits_have w int_fits = int_has
  fits_have w char_fits = char_has
  fits_have w boolean_fits = boolean_has
  fits_have w text_fits = text_has
  fits_have w (channel_fits e both_fits) = channel_has e
  fits_have w (channel_fits {c = c} {t = t} e (read_fits d)) = raised (Chan Both t) (closed_type names ms c t closed_ e) w (channel_has e) (upward both_read d)
  fits_have w (channel_fits {c = c} {t = t} e (write_fits x)) =
      let f = closed_type names ms c t closed_ e in
      sends names ms _ f w x (raised (Chan Both t) f f (channel_has e) (downward both_write same))
  fits_have w (primitive_fits {p = p} x) = sends names ms _ (takes_type names p) w x primitive_has
  fits_have w (record_fits h x y) = h
  fits_have w (package_fits {b = b} {bs = bs} {ps = ps} {ls = ls} a may x) = packed a may w (fits_have (first_type names ms a b bs ps ls may w) x)
  fits_have w (fold_fits {t = t} x) = folded w (fits_have (unfolding_type names t w) x)
