-- Values keep their types where the world grows: more type variables, which are renumbered, and more variables.
use Rattle.std.proofs.Common.{◌≡◌, ℕ, zero, suc, List, [], ◌∷◌, refl, sym, ap₂, subst, Some}
use Rattle.std.specs.Prelude.{slice_get}
use Rattle.pict_types.specs.Types.{Both, Write, PlainType, Chan, Fields, Rec, PlainTypes, PlainLabels, PlainBound, Free, Below, Operator, no_bound, bounds, PlainArg, Plain, Op, TypeContext}
use Rattle.pict_types.specs.Renaming.{beyond, beyond_times, rename, rename_bound, rename_types, rename_labels}
use Rattle.pict_types.specs.Replacing.{replace, arguments, type_in, head_in, rename_head}
use Rattle.pict_types.specs.Kinds.{Kind, kinds, with_parameters}
use Rattle.pict_types.proofs.Formed.{KeepsKinds, formed_renamed, keeps_beyond}
use Rattle.pict_types.proofs.Replaced.{Crosses, replace_renamed}
use Rattle.pict_sub.proofs.Renamed.{weakened, operator_of_at}
use Rattle.pict_sub.proofs.Operating.{operator_renamed}
use Rattle.pict_sub.proofs.Stays.{of_at}
use Rattle.pict_core.specs.Term as core
use Rattle.pict_core.specs.Term.{Val, Vals, Labelled}
use Rattle.pict_types.specs.PrimitiveTypes.{takes}
use Rattle.pict_typing.specs.Erasing.{erased}
use Rattle.pict_typing.specs.Worlds.{World, IsTypeIn, MayStandFor}
use Rattle.pict_typing.specs.Values.{HasType, variable_has, channel_has, int_has, char_has, boolean_has, text_has, primitive_has, record_has, packed, folded, unfolded, sends_unfolding, raised, HaveTypes, none_have, more_have, HaveLabels, none_labelled, more_labels}
use Rattle.pict_typing.specs.Processes.{AreClosedTypes}
use Rattle.pict_typing.proofs.Closed.{closed_type, closed_renamed}
use Rattle.pict_typing.proofs.Forms.{takes_type}
use Rattle.pict_bridge.specs.Embedding.{Embeds, WorldGrows}

keeps_kinds : {f : ℕ → ℕ} {c d : TypeContext} → Embeds f c d → KeepsKinds f (kinds c) (kinds d)
keeps_kinds x = record { each = x.kept }

pub type_grown : (names : List (List ℕ)) {f : ℕ → ℕ} {c d : TypeContext} (t : PlainType) → Embeds f c d → IsTypeIn names c t → IsTypeIn names d (rename f t)
type_grown names t x w = formed_renamed names t (keeps_kinds x) w

-- ---- an argument put in, and renamed

abbrev pub rename_arg : (ℕ → ℕ) → PlainArg → PlainArg
rename_arg f (Plain t) = Plain (rename f t)
rename_arg f (Op n t) = Op n (rename (beyond_times n f) t)

pub type_in_renamed : (f : ℕ → ℕ) (a : PlainArg) → type_in (rename_arg f a) ≡ rename f (type_in a)
type_in_renamed f (Plain t) = refl
type_in_renamed f (Op n t) = refl

pub head_in_renamed : (f : ℕ → ℕ) (a : PlainArg) → head_in (rename_arg f a) ≡ rename_head f (head_in a)
head_in_renamed f (Plain t) = refl
head_in_renamed f (Op n t) = refl

arg_crosses : (a : PlainArg) (f : ℕ → ℕ) → Crosses (arguments (rename_arg f a ∷ [])) (arguments (a ∷ [])) (beyond f) f
arg_crosses a f = record { types_ = go; heads_ = go2 }
  where
    go : (i : ℕ) → (arguments (rename_arg f a ∷ [])).type_of (beyond f i) ≡ rename f ((arguments (a ∷ [])).type_of i)
    go zero = type_in_renamed f a
    go (suc i) = refl

    go2 : (i : ℕ) → (arguments (rename_arg f a ∷ [])).head_of (beyond f i) ≡ rename_head f ((arguments (a ∷ [])).head_of i)
    go2 zero = head_in_renamed f a
    go2 (suc i) = refl

pub arg_renamed : (a : PlainArg) (f : ℕ → ℕ) (t : PlainType) → replace (arguments (rename_arg f a ∷ [])) (rename (beyond f) t) ≡ rename f (replace (arguments (a ∷ [])) t)
arg_renamed a f t = replace_renamed t (arg_crosses a f)

pub kinds_with : {f : ℕ → ℕ} {ks js : List Kind} (n : ℕ) → KeepsKinds f ks js → KeepsKinds (beyond_times n f) (with_parameters n ks) (with_parameters n js)
kinds_with zero x = x
kinds_with (suc n) x = keeps_beyond refl (kinds_with n x)

abbrev changed : World → TypeContext → List PlainType → World
changed w d vs = record w { type_variables = d; variables = vs }

may_stand_grown : {f : ℕ → ℕ} {d : TypeContext} (w : World) (vs : List PlainType) (b : PlainBound) (a : PlainArg) → Embeds f w.type_variables d → MayStandFor w b a → MayStandFor (changed w d vs) (rename_bound f b) (rename_arg f a)
may_stand_grown w vs Free (Plain t) x m = record { formed = formed_renamed w.names t (keeps_kinds x) m.formed; of_kind = tt; below = tt }
may_stand_grown w vs (Below s) (Plain t) x m = record { formed = formed_renamed w.names t (keeps_kinds x) m.formed; of_kind = tt; below = weakened x.keeps m.below }
may_stand_grown w vs (Operator k) (Plain t) x m = absurd m.of_kind
may_stand_grown w vs Free (Op k t) x m = absurd m.of_kind
may_stand_grown w vs (Below s) (Op k t) x m = absurd m.of_kind
may_stand_grown {f = f} {d = d} w vs (Operator ms) (Op k t) x m = record {
  formed = formed_renamed w.names t (kinds_with k (keeps_kinds x)) m.formed;
  of_kind = m.of_kind;
  below = operator_renamed f w.type_variables d k t ms (λ i ks e. operator_of_at d (f i) ks (x.keeps.marks i ks (of_at w.type_variables i ks e))) m.of_kind m.below;
}

-- ---- values

module _ (w : World) (closed : AreClosedTypes w.names w.messages) (f : ℕ → ℕ) (d : TypeContext) (vs : List PlainType) (x : Embeds f w.type_variables d) (more_ : (l : ℕ) (t : PlainType) → slice_get w.variables l ≡ Some t → slice_get vs l ≡ Some (rename f t)) where
  mutual
    has_grown : {v : Val} {t : PlainType} → HasType w v t → HasType (changed w d vs) v (rename f t)
    has_grown (variable_has {level = l} {t = t} e) = variable_has (more_ l t e)
    has_grown (channel_has {c = c} {t = t} e) = subst (λ z. HasType (changed w d vs) (core.Chan c) (Chan Both z)) (sym (closed_renamed w.names f t (closed_type w.names w.messages c t closed e))) (channel_has e)
    has_grown int_has = int_has
    has_grown char_has = char_has
    has_grown boolean_has = boolean_has
    has_grown text_has = text_has
    has_grown (primitive_has {p = p}) = subst (λ z. HasType (changed w d vs) (core.PrimitiveVal p) (Chan Write z)) (sym (closed_renamed w.names f (erased (takes p)) (takes_type w.names p))) primitive_has
    has_grown (record_has {ps = ps} {ls = ls} i y z k) = record_has i (all_grown y) (labels_grown z) (type_grown w.names (Fields no_bound ps ls) x k)
    has_grown {v = v} (packed {b = b} {bs = bs} {ps = ps} {ls = ls} a may k h) =
        packed (rename_arg f a) (may_stand_grown w vs b a x may) (type_grown w.names (Fields (bounds b bs) ps ls) x k) (subst (HasType (changed w d vs) v) (sym (arg_renamed a f (Fields bs ps ls))) (has_grown h))
    has_grown {v = v} (folded {t = t} k h) = folded (type_grown w.names (Rec t) x k) (subst (HasType (changed w d vs) v) (sym (arg_renamed (Plain (Rec t)) f t)) (has_grown h))
    has_grown {v = v} (unfolded {t = t} k h) = subst (HasType (changed w d vs) v) (arg_renamed (Plain (Rec t)) f t) (unfolded (type_grown w.names (Rec t) x k) (has_grown h))
    has_grown {v = v} (sends_unfolding {t = t} k h) = subst (λ z. HasType (changed w d vs) v (Chan Write z)) (arg_renamed (Plain (Rec t)) f t) (sends_unfolding (type_grown w.names (Rec t) x k) (has_grown h))
    has_grown (raised s {t = t} k g h e) = raised (rename f s) (type_grown w.names s x k) (type_grown w.names t x g) (has_grown h) (weakened x.keeps e)

    all_grown : {v : Vals} {t : PlainTypes} → HaveTypes w v t → HaveTypes (changed w d vs) v (rename_types f t)
    all_grown none_have = none_have
    all_grown (more_have h y) = more_have (has_grown h) (all_grown y)

    labels_grown : {v : Labelled} {t : PlainLabels} → HaveLabels w v t → HaveLabels (changed w d vs) v (rename_labels f t)
    labels_grown none_labelled = none_labelled
    labels_grown (more_labels h y) = more_labels (has_grown h) (labels_grown y)

pub value_grown : {f : ℕ → ℕ} {w u : World} {v : Val} {t : PlainType} → AreClosedTypes w.names w.messages → WorldGrows f w u → HasType w v t → HasType u v (rename f t)
value_grown {f = f} {w = w} {u = u} {v = v} {t = t} k g h = subst (λ z. HasType z v (rename f t)) same_ (has_grown w k f u.type_variables u.variables g.embeds g.variables_ h)
  where
    same_ : changed w u.type_variables u.variables ≡ u
    same_ = ap₂ (λ a b. record { names = a; messages = b; type_variables = u.type_variables; variables = u.variables }) (sym g.names_) (sym g.messages_)
