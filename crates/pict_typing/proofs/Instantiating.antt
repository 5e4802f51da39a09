-- What instantiates a context: nothing, one more argument within its bound, and under one more variable. Well formed
-- types and arguments stay so.
use Rattle.std.proofs.Common.{◌≡◌, ℕ, zero, suc, Bool, true, false, List, [], ◌∷◌, refl, sym, ◌∙◌, ap, subst}
use Rattle.pict_types.specs.Types.{PlainType, Top, Int, PlainBound, Free, Below, Operator, PlainArg, Plain, Op, TypeContext, is_top}
use Rattle.pict_types.specs.Renaming.{bound_of, rename, rename_bound, moved}
use Rattle.pict_types.specs.Replacing.{Replacement, operator, replace, replace_bound, bound_by, replacement_beyond, replacement_past, with_arg, type_in, head_in, no_replacement, IsOfKind}
use Rattle.pict_types.specs.Kinds.{Kind, proper, kind_by, with_parameters}
use Rattle.pict_types.specs.Fitting.{ReplacesKinds}
use Rattle.pict_types.specs.Composing.{replace_arg}
use Rattle.pict_types.proofs.Formed.{arg_keeps, replace_formed, replaces_beyond, replaced_kind}
use Rattle.pict_types.proofs.Replacements.{bound_by_self, normal_beyond, arg_normal, nothing_normal, formed_arg_normal}
use Rattle.pict_types.proofs.Composed.{replace_dropped}
use Rattle.pict_types.proofs.Renamed.{moved_is_suc, bound_further, bound_before}
use Rattle.pict_sub.specs.Subtyping.{IsSubtype, below_top}
use Rattle.pict_sub.proofs.Inversion.{told_top}
use Rattle.pict_syntax.specs.declared.type_tree.Mark.{Mark}
use Rattle.pict_sub.specs.Laws.{StandsAsMarked}
use Rattle.pict_sub.proofs.Renamed.{operator_before}
use Rattle.pict_sub.proofs.Stays.{operator_replaced}
use Rattle.pict_sub.proofs.Replaced.{replaced, within_beyond}
use Rattle.pict_typing.specs.Worlds.{World, over, IsTypeIn, MayStandFor, IsBelow}
use Rattle.pict_typing.specs.Instantiating.{Instantiates, instantiated}

-- ---- the bound that a type makes: itself, or none for Top

by_bound : (P : PlainBound → Type 0) (t : PlainType) → (t ≡ Top → P Free) → P (Below t) → P (bound_by t)
by_bound P t none some = go (is_top t) refl
  where
    go : (b : Bool) → is_top t ≡ b → P (bound_by t)
    go true q = let e = told_top t q in subst (λ u. P (bound_by u)) (sym e) (none e)
    go false q = subst P (sym (bound_by_self t q)) some

-- a type is of the kind of each bound that is one, an operator of none
kind_of_any : (a : PlainArg) (t s : PlainType) → IsOfKind a (bound_by t) → IsOfKind a (Below s)
kind_of_any (Plain u) t s x = tt
kind_of_any (Op n u) t s x = by_bound (λ b. IsOfKind (Op n u) b → ⊥) t (λ e z. z) (λ z. z) x

kind_of_bound : (u t : PlainType) → IsOfKind (Plain u) (bound_by t)
kind_of_bound u t = by_bound (IsOfKind (Plain u)) t (λ e. tt) tt

bound_above : (c : TypeContext) (u t : PlainType) → IsBelow c (bound_by t) (Plain u) → IsSubtype c u t
bound_above c u t = by_bound (λ b. IsBelow c b (Plain u) → IsSubtype c u t) t (λ e x. subst (IsSubtype c u) (sym e) below_top) (λ x. x)

below_bound_by : (c : TypeContext) (u t : PlainType) → IsSubtype c u t → IsBelow c (bound_by t) (Plain u)
below_bound_by c u t x = by_bound (λ b. IsBelow c b (Plain u)) t (λ e. tt) x

-- ---- instantiations

pub nothing_instantiates : (names : List (List ℕ)) (d : TypeContext) → Instantiates names no_replacement [] d
nothing_instantiates names d = record { within = record { each = λ i b e. absurd (cc); heads = λ i ms e. absurd (cc) }; kept = record { types_ = λ i e. absurd (cc); heads_ = λ i n e. absurd (cc) }; normal = nothing_normal }

kind_before : (r : Replacement) (a : PlainArg) (b : PlainBound) → IsOfKind a (replace_bound r b) → IsOfKind a b
kind_before r a Free x = x
kind_before r a (Below t) x = kind_of_any a (replace r t) t x
kind_before r a (Operator n) x = x

-- a closed argument for one more variable in front
pub argument_instantiates : (names : List (List ℕ)) (ms : List PlainType) (r : Replacement) (c : TypeContext) (a : PlainArg) (b : PlainBound) → Instantiates names r c [] → MayStandFor (over names ms) (replace_bound r b) a → Instantiates names (with_arg a r) (b ∷ c) []
argument_instantiates names ms r c a b x may =
    record { within = record { each = go; heads = go2 }; kept = arg_keeps a b (kind_before r a b may.of_kind) may.formed x.kept; normal = arg_normal a (formed_arg_normal names [] a may.formed) x.normal }
  where
    head_first : (a : PlainArg) (b : PlainBound) → MayStandFor (over names ms) (replace_bound r b) a → (ns : List Mark) → rename_bound (moved 1 0) b ≡ Operator ns → StandsAsMarked names [] ns (head_in a)
    head_first a Free m ns e = absurd (cc)
    head_first a (Below s) m ns e = absurd (cc)
    head_first (Plain u) (Operator ks) m ns e = absurd m.of_kind
    head_first (Op n u) (Operator ks) m ns e =
        let q : ks ≡ ns = cc in
        subst (λ z. StandsAsMarked names [] z (operator n u)) q (m.of_kind, (m.formed, m.below))

    go2 : (i : ℕ) (ns : List Mark) → bound_of (b ∷ c) i ≡ Operator ns → StandsAsMarked names [] ns ((with_arg a r).head_of i)
    go2 zero ns e = head_first a b may ns e
    go2 (suc i) ns e = x.within.heads i ns (operator_before suc (bound_of c i) ns (sym (bound_further b c i) ∙ e))

    here : (a : PlainArg) (s : PlainType) → MayStandFor (over names ms) (bound_by (replace r s)) a → IsSubtype [] (type_in a) (replace r s)
    here (Plain u) s m = bound_above [] u (replace r s) m.below
    here (Op n u) s m = absurd (kind_of_any (Op n u) (replace r s) Int m.of_kind)

    first : (b : PlainBound) → MayStandFor (over names ms) (replace_bound r b) a → (t : PlainType) → rename_bound (moved 1 0) b ≡ Below t → IsSubtype [] (type_in a) (replace (with_arg a r) t)
    first Free m t e = absurd (cc)
    first (Operator n) m t e = absurd (cc)
    first (Below s) m t e =
        let q : rename (moved 1 0) s ≡ t = cc in
        let q2 : replace r s ≡ replace (with_arg a r) t = sym (replace_dropped a r s) ∙ ap (λ f. replace (with_arg a r) (rename f s)) (sym moved_is_suc) ∙ ap (replace (with_arg a r)) q in
        subst (IsSubtype [] (type_in a)) q2 (here a s m)

    go : (i : ℕ) (t : PlainType) → bound_of (b ∷ c) i ≡ Below t → IsSubtype [] ((with_arg a r).type_of i) (replace (with_arg a r) t)
    go zero t e = first b may t e
    go (suc i) t e =
        let u = bound_before suc (bound_of c i) t (sym (bound_further b c i) ∙ e) in
        let q : replace r u.0 ≡ replace (with_arg a r) t = sym (replace_dropped a r u.0) ∙ ap (replace (with_arg a r)) u.2 in
        subst (IsSubtype [] (r.type_of i)) q (x.within.each i u.0 u.1)

module _ (names : List (List ℕ)) where
  -- under one more variable
  pub instantiates_beyond : {r : Replacement} {c d : TypeContext} (b : PlainBound) → Instantiates names r c d → Instantiates names (replacement_beyond r) (b ∷ c) (replace_bound r b ∷ d)
  instantiates_beyond {r = r} b x = record { within = within_beyond x.within b; kept = replaces_beyond (kind_by b) (kind_by (replace_bound r b)) (replaced_kind r b) x.kept; normal = normal_beyond x.normal }

  pub type_instantiated : {r : Replacement} {c d : TypeContext} (t : PlainType) → Instantiates names r c d → IsTypeIn names c t → IsTypeIn names d (replace r t)
  type_instantiated t x w = replace_formed names t x.kept w

  kinds_past : {r : Replacement} {ks js : List Kind} (n : ℕ) → ReplacesKinds names r ks js → ReplacesKinds names (replacement_past n r) (with_parameters n ks) (with_parameters n js)
  kinds_past zero x = x
  kinds_past (suc n) x = replaces_beyond proper proper refl (kinds_past n x)

pub argument_instantiated : {r : Replacement} {d : TypeContext} (w : World) (b : PlainBound) (a : PlainArg) → Instantiates w.names r w.type_variables d → MayStandFor w b a → MayStandFor (instantiated r d w) (replace_bound r b) (replace_arg r a)
argument_instantiated w Free (Plain t) x m = record { formed = replace_formed w.names t x.kept m.formed; of_kind = tt; below = tt }
argument_instantiated {r = r} {d = d} w (Below s) (Plain t) x m =
    record { formed = replace_formed w.names t x.kept m.formed; of_kind = kind_of_bound (replace r t) (replace r s); below = below_bound_by d (replace r t) (replace r s) (replaced x.within m.below) }
argument_instantiated w (Operator n) (Plain t) x m = absurd m.of_kind
argument_instantiated w Free (Op n t) x m = absurd m.of_kind
argument_instantiated w (Below s) (Op n t) x m = absurd m.of_kind
argument_instantiated {r = r} {d = d} w (Operator k) (Op n t) x m = record { formed = replace_formed w.names t (kinds_past w.names n x.kept) m.formed; of_kind = m.of_kind; below = operator_replaced w.names r w.type_variables d n t k x.within m.of_kind m.formed m.below }
