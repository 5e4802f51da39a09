-- A package with all its arguments at once is a package with one argument after the other.
use Rattle.std.proofs.Common.{List, [], ◌∷◌, ◌++◌, sym, subst, append_assoc, append-nil}
use Rattle.pict_types.specs.Types.{PlainType, Fields, PlainTypes, PlainLabels, PlainBounds, no_bound, bounds, PlainArg}
use Rattle.pict_types.specs.Replacing.{replacement_beyond, replace, replace_bound, arguments, instance_of}
use Rattle.pict_types.specs.Kinds.{kinds}
use Rattle.pict_types.specs.NormalTypes.{ArgIsNormal, ArgsAreNormal}
use Rattle.pict_types.proofs.Formed.{replace_formed, arg_keeps}
use Rattle.pict_types.proofs.Replacements.{replace_same, nothing_changed, formed_normal, formed_arg_normal}
use Rattle.pict_types.proofs.Composed.{arguments_one_by_one}
use Rattle.pict_core.specs.Term.{Val}
use Rattle.pict_typing.specs.Worlds.{World, IsType, MayStandFor}
use Rattle.pict_typing.specs.Values.{HasType, packed}
use Rattle.pict_bridge.specs.Embedding.{MayStandInOrder}
use Rattle.pict_bridge.specs.Laws.{PackedAtOnce}

one_more_normal : (args : List PlainArg) (a : PlainArg) → ArgsAreNormal args → ArgIsNormal a → ArgsAreNormal (args ++ a ∷ [])
one_more_normal [] a h k = (k, tt)
one_more_normal (x ∷ args) a h k = (h.0, one_more_normal args a h.1 k)

-- the type of the fields with the earlier arguments put in
abbrev with_earlier : List PlainArg → PlainBounds → PlainTypes → PlainLabels → PlainType
with_earlier earlier bs ps ls = replace (arguments earlier) (Fields bs ps ls)

module _ (w : World) (v : Val) (ps : PlainTypes) (ls : PlainLabels) where
  packed_from : (earlier args : List PlainArg) (bs : PlainBounds) → ArgsAreNormal earlier → MayStandInOrder w earlier args bs → IsType w (with_earlier earlier bs ps ls) → HasType w v (instance_of (earlier ++ args) ps ls) → HasType w v (with_earlier earlier bs ps ls)
  packed_from earlier [] no_bound n m f h = subst (λ z. HasType w v (instance_of z ps ls)) (append-nil earlier) h
  packed_from earlier [] (bounds b bs) n m f h = absurd m
  packed_from earlier (a ∷ args) no_bound n m f h = absurd m
  packed_from earlier (a ∷ args) (bounds b bs) n m f h =
      let may : MayStandFor w (replace_bound (arguments earlier) b) a = m.0 in
      let k : ArgIsNormal a = formed_arg_normal w.names (kinds w.type_variables) a may.formed in
      let next = arguments_one_by_one earlier a (Fields bs ps ls) n k in
      let g : IsType w (with_earlier (earlier ++ a ∷ []) bs ps ls) = subst (IsType w) (sym next) (replace_formed w.names (replace (replacement_beyond (arguments earlier)) (Fields bs ps ls)) (arg_keeps a (replace_bound (arguments earlier) b) may.of_kind may.formed (record { types_ = λ i q. q; heads_ = λ i j q. q })) (f.0.1, f.1)) in
      packed a may f (subst (HasType w v) next (packed_from (earlier ++ a ∷ []) args bs (one_more_normal earlier a n k) m.1 g (subst (λ z. HasType w v (instance_of z ps ls)) (sym (append_assoc earlier (a ∷ []) args)) h)))

pub packed_at_once : PackedAtOnce
packed_at_once w v args bs ps ls m f h =
    let same = replace_same (Fields bs ps ls) nothing_changed (formed_normal w.names (kinds w.type_variables) (Fields bs ps ls) f) in
    subst (HasType w v) same (packed_from w v ps ls [] args bs tt m (subst (IsType w) (sym same) f) h)
