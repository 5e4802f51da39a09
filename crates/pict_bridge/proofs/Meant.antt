-- The meanings of arguments: each may stand for its type field where the rules found it within the field's bound.
use Rattle.std.proofs.Common.{◌≡◌, ℕ, zero, suc, true, List, [], ◌∷◌, ◌++◌, length, refl, sym, ◌∙◌, ap, subst}
use Rattle.pict_types.specs.Types.{PlainType, Top, PlainTypes, PlainLabels, PlainBound, Free, Below, Operator, PlainBounds, no_bound, bounds, PlainArg, Plain, Op}
use Rattle.pict_types.specs.Renaming.{beyond, beyond_times, rename, rename_types, rename_labels, rename_bound, rename_bounds}
use Rattle.pict_types.specs.Replacing.{bound_by, Replacement, replace, replace_types, replace_labels, replace_bound, arguments, with_args, with_arg, type_in, rename_head, IsOfKind, FitTheirFields}
use Rattle.pict_types.specs.Kinds.{kinds, kind_at, with_parameters, IsWellFormed, ArgIsWellFormed}
use Rattle.pict_types.specs.Instances.{ArgsAreWellFormed}
use Rattle.pict_types.proofs.Formed.{formed_renamed}
use Rattle.pict_types.proofs.Replaced.{Crosses, replace_renamed, replace_types_renamed, replace_labels_renamed, beyond_after}
use Rattle.pict_types.specs.Variance.{varies}
use Rattle.pict_syntax.specs.declared.type_tree.Mark.{Mark}
use Rattle.pict_sub.specs.Subtyping.{IsSubtype}
use Rattle.pict_sub.proofs.Operating.{operator_renamed}
use Rattle.pict_sub.proofs.Renamed.{operator_of_at}
use Rattle.pict_sub.proofs.Stays.{of_at}
use Rattle.pict_bridge.proofs.ErasedGoes.{varies_erased}
use Rattle.pict_core.specs.Term as core
use Rattle.pict_typing.specs.Erasing.{erased, erased_types, erased_labels, erased_bound, erased_bounds}
use Rattle.pict_typing.specs.Worlds.{World, MayStandFor, IsBelow}
use Rattle.pict_bridge.specs.Embedding.{MayStandInOrder, erased_context}
use Rattle.pict_bridge.proofs.Erased.{same_kinds, erased_arg, erased_args, arguments_erased, replace_erased, replace_types_erased, replace_labels_erased, arg_erased}
use Rattle.pict_bridge.proofs.Growing.{rename_arg, type_in_renamed, head_in_renamed, kinds_with}
use Rattle.pict_rules.specs.Environments.{Environment, context_of}
use Rattle.pict_rules.specs.Regular.{kinds_in}
use Rattle.pict_bridge.specs.Opening.{meaning}
use Rattle.pict_bridge.proofs.FieldsOpen.{meanings, label_meanings}
use Rattle.pict_bridge.specs.Realising.{Realises}
use Rattle.pict_bridge.proofs.Realised.{type_means, below_means}
use Rattle.pict_rules.proofs.RegularArguments.{one_longer}

-- an argument as it is meant
abbrev pub meant : (ℕ → ℕ) → PlainArg → PlainArg
meant f a = rename_arg f (erased_arg a)

abbrev pub all_meant : (ℕ → ℕ) → List PlainArg → List PlainArg
all_meant f [] = []
all_meant f (a ∷ args) = meant f a ∷ all_meant f args

-- ---- arguments put in, and then what is meant

abbrev renamed_args : (ℕ → ℕ) → List PlainArg → List PlainArg
renamed_args f [] = []
renamed_args f (a ∷ args) = rename_arg f a ∷ renamed_args f args

one_crosses : {q r : Replacement} {g f : ℕ → ℕ} (a : PlainArg) → Crosses q r g f → Crosses (with_arg (rename_arg f a) q) (with_arg a r) (beyond g) f
one_crosses {q = q} {r = r} {g = g} {f = f} a x = record { types_ = go; heads_ = go2 }
  where
    go : (i : ℕ) → (with_arg (rename_arg f a) q).type_of (beyond g i) ≡ rename f ((with_arg a r).type_of i)
    go zero = type_in_renamed f a
    go (suc i) = x.types_ i

    go2 : (i : ℕ) → (with_arg (rename_arg f a) q).head_of (beyond g i) ≡ rename_head f ((with_arg a r).head_of i)
    go2 zero = head_in_renamed f a
    go2 (suc i) = x.heads_ i

args_cross : {q r : Replacement} {g f : ℕ → ℕ} (args : List PlainArg) → Crosses q r g f → Crosses (with_args (renamed_args f args) q) (with_args args r) (beyond_times (length args) g) f
args_cross [] x = x
args_cross {q = q} {r = r} {g = g} {f = f} (a ∷ args) x =
    subst (λ k. Crosses (with_args (renamed_args f args) (with_arg (rename_arg f a) q)) (with_args args (with_arg a r)) k f) (beyond_after (length args) g) (args_cross args (one_crosses a x))

arguments_cross : (f : ℕ → ℕ) (args : List PlainArg) → Crosses (arguments (renamed_args f args)) (arguments args) (beyond_times (length args) f) f
arguments_cross f args = args_cross args (record { types_ = λ i. refl; heads_ = λ i. refl })

erased_length : (args : List PlainArg) → length (erased_args args) ≡ length args
erased_length [] = refl
erased_length (a ∷ args) = ap suc (erased_length args)

meant_is : (f : ℕ → ℕ) (args : List PlainArg) → renamed_args f (erased_args args) ≡ all_meant f args
meant_is f [] = refl
meant_is f (a ∷ args) = ap (λ z. meant f a ∷ z) (meant_is f args)

meant_cross : (f : ℕ → ℕ) (args : List PlainArg) → Crosses (arguments (all_meant f args)) (arguments (erased_args args)) (beyond_times (length args) f) f
meant_cross f args =
    subst (λ z. Crosses (arguments z) (arguments (erased_args args)) (beyond_times (length args) f) f) (meant_is f args)
    (subst (λ n. Crosses (arguments (renamed_args f (erased_args args))) (arguments (erased_args args)) (beyond_times n f) f) (erased_length args) (arguments_cross f (erased_args args)))

-- a type under type fields with arguments put in, and its meaning with their meanings put in
pub instance_means : (f : ℕ → ℕ) (args : List PlainArg) (t : PlainType) → replace (arguments (all_meant f args)) (rename (beyond_times (length args) f) (erased t)) ≡ meaning f (replace (arguments args) t)
instance_means f args t = replace_renamed (erased t) (meant_cross f args) ∙ ap (rename f) (replace_erased t (arguments_erased args))

pub instances_mean : (f : ℕ → ℕ) (args : List PlainArg) (ts : PlainTypes) → replace_types (arguments (all_meant f args)) (rename_types (beyond_times (length args) f) (erased_types ts)) ≡ meanings f (replace_types (arguments args) ts)
instances_mean f args ts = replace_types_renamed (erased_types ts) (meant_cross f args) ∙ ap (rename_types f) (replace_types_erased ts (arguments_erased args))

pub label_instances_mean : (f : ℕ → ℕ) (args : List PlainArg) (ls : PlainLabels) → replace_labels (arguments (all_meant f args)) (rename_labels (beyond_times (length args) f) (erased_labels ls)) ≡ label_meanings f (replace_labels (arguments args) ls)
label_instances_mean f args ls = replace_labels_renamed (erased_labels ls) (meant_cross f args) ∙ ap (rename_labels f) (replace_labels_erased ls (arguments_erased args))

-- ---- arguments within the bounds of type fields

abbrev pub IsWithinBound : Environment → PlainBound → List PlainArg → PlainArg → Type 0
IsWithinBound e Free earlier a = Unit {0}
IsWithinBound e (Operator ms) earlier a = varies (context_of e) a ms ≡ true
IsWithinBound e (Below b) earlier a = IsSubtype (context_of e) (type_in a) (replace (arguments earlier) b)

abbrev pub AreWithinBounds : Environment → PlainBounds → List PlainArg → List PlainArg → Type 0
AreWithinBounds e no_bound earlier args = Unit {0}
AreWithinBounds e (bounds b bs) earlier [] = Unit {0}
AreWithinBounds e (bounds b bs) earlier (a ∷ args) = IsWithinBound e b earlier a × AreWithinBounds e bs (earlier ++ a ∷ []) args

arg_means : {e : Environment} {vs : List (ℕ × core.Val)} {f : ℕ → ℕ} {w : World} (a : PlainArg) → Realises e vs f w → ArgIsWellFormed e.names (kinds_in e) a → ArgIsWellFormed w.names (kinds w.type_variables) (meant f a)
arg_means (Plain t) r h = type_means t r h
arg_means {e = e} {f = f} {w = w} (Op n t) r h =
    subst (λ ns. IsWellFormed ns (with_parameters n (kinds w.type_variables)) (rename (beyond_times n f) (erased t))) (sym r.world_names)
    (formed_renamed e.names (erased t) (kinds_with n (record { each = λ i k q. r.embeds.kept i k (ap (λ z. kind_at z i) (same_kinds (context_of e)) ∙ q) })) (arg_erased e.names (kinds_in e) (Op n t) h))

-- an operator that varies as marks say still does so as it is meant
operator_means : {e : Environment} {vs : List (ℕ × core.Val)} {f : ℕ → ℕ} {w : World} (n : ℕ) (t : PlainType) (ms : List Mark) → Realises e vs f w → n ≡ length ms → varies (context_of e) (Op n t) ms ≡ true → varies w.type_variables (meant f (Op n t)) ms ≡ true
operator_means {e = e} {f = f} {w = w} n t ms r k d =
    let c = erased_context (context_of e) in
    operator_renamed f c w.type_variables n (erased t) ms (λ i ks q. operator_of_at w.type_variables (f i) ks (r.embeds.keeps.marks i ks (of_at c i ks q))) k (varies_erased (context_of e) n t ms ∙ d)

one_may : {e : Environment} {vs : List (ℕ × core.Val)} {f : ℕ → ℕ} {w : World} (b : PlainBound) (a : PlainArg) (earlier : List PlainArg) → Realises e vs f w → ArgIsWellFormed e.names (kinds_in e) a → IsOfKind a b → IsWithinBound e b earlier a → MayStandFor w (replace_bound (arguments (all_meant f earlier)) (rename_bound (beyond_times (length earlier) f) (erased_bound b))) (meant f a)
one_may Free (Plain t) earlier r h k d = record { formed = arg_means (Plain t) r h; of_kind = tt; below = tt }
one_may Free (Op n t) earlier r h k d = absurd k
one_may (Operator ms) (Plain t) earlier r h k d = absurd k
one_may (Operator ms) (Op m t) earlier r h k d = record { formed = arg_means (Op m t) r h; of_kind = k; below = operator_means m t ms r k d }
one_may (Below b) (Op n t) earlier r h k d = absurd k
one_may {f = f} {w = w} (Below b) (Plain t) earlier r h k d =
    subst (λ z. MayStandFor w (bound_by z) (Plain (meaning f t))) (sym (instance_means f earlier b)) (below_made (meaning f (replace (arguments earlier) b)) (below_means r d))
  where
    below_made : (z : PlainType) → IsSubtype w.type_variables (meaning f t) z → MayStandFor w (bound_by z) (Plain (meaning f t))
    below_made z q = record { formed = arg_means (Plain t) r h; of_kind = of_kind_ z; below = below_ z q }
      where
        of_kind_ : (z : PlainType) → IsOfKind (Plain (meaning f t)) (bound_by z)
        of_kind_ Top = tt
        of_kind_ _ = tt

        below_ : (z : PlainType) → IsSubtype w.type_variables (meaning f t) z → IsBelow w.type_variables (bound_by z) (Plain (meaning f t))
        below_ Top q = tt
        below_ z q = q

meant_last : (f : ℕ → ℕ) (earlier : List PlainArg) (a : PlainArg) → all_meant f (earlier ++ a ∷ []) ≡ all_meant f earlier ++ meant f a ∷ []
meant_last f [] a = refl
meant_last f (x ∷ earlier) a = ap (λ z. meant f x ∷ z) (meant_last f earlier a)

pub may_stand : {e : Environment} {vs : List (ℕ × core.Val)} {f : ℕ → ℕ} {w : World} (bs : PlainBounds) (earlier args : List PlainArg) → Realises e vs f w → ArgsAreWellFormed e.names (kinds_in e) args → FitTheirFields args bs → AreWithinBounds e bs earlier args → MayStandInOrder w (all_meant f earlier) (all_meant f args) (rename_bounds (beyond_times (length earlier) f) (erased_bounds bs))
may_stand no_bound earlier [] r h k d = tt
may_stand no_bound earlier (a ∷ args) r h k d = absurd k
may_stand (bounds b bs) earlier [] r h k d = absurd k
may_stand {f = f} {w = w} (bounds b bs) earlier (a ∷ args) r h k d = (
  one_may b a earlier r h.0 k.0 d.0,
  subst (λ z. MayStandInOrder w z (all_meant f args) (rename_bounds (beyond (beyond_times (length earlier) f)) (erased_bounds bs))) (meant_last f earlier a)
      (subst (λ n. MayStandInOrder w (all_meant f (earlier ++ a ∷ [])) (all_meant f args) (rename_bounds (beyond_times n f) (erased_bounds bs))) (one_longer earlier a)
      (may_stand bs (earlier ++ a ∷ []) args r h.1 k.1 d.1)),
)
