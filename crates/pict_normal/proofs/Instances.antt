-- The kinds under arguments are those under the type fields that they fit.
use Rattle.std.proofs.Common.{◌≡◌, ℕ, List, [], ◌∷◌, refl, sym, ◌∙◌, ap, subst}
use Rattle.std.proofs.lemmas.List.{length-replicate}
use Rattle.std.proofs.Math.ListN.{replicate}
use Rattle.pict_syntax.specs.declared.type_tree.Mark.TheVariants.{Plain as Unmarked}
use Rattle.pict_types.specs.Types.{PlainArg, Plain, Op, PlainBound, Free, Below, Operator, PlainBounds, no_bound, bounds}
use Rattle.pict_types.specs.Fitting.{ReplacesKinds}
use Rattle.pict_types.specs.Instances.{ArgsAreWellFormed}
use Rattle.pict_types.specs.Kinds.{Kind, kind_by, kinds_under, operator_of}
use Rattle.pict_types.specs.Replacing.{FitTheirFields, IsOfKind, arguments}
use Rattle.pict_types.proofs.Formed.{arguments_keep}
use Rattle.pict_normal.specs.Written.{kind_of_arg, kinds_with}

pub kind_fits : (a : PlainArg) (b : PlainBound) → IsOfKind a b → kind_by b ≡ kind_of_arg a
kind_fits (Plain t) Free h = refl
kind_fits (Plain t) (Below u) h = refl
kind_fits (Plain t) (Operator ms) h = absurd h
kind_fits (Op m t) Free h = absurd h
kind_fits (Op m t) (Below u) h = absurd h
kind_fits (Op m t) (Operator ms) h = ap operator_of (sym h)

pub kinds_fit : (ks : List Kind) (args : List PlainArg) (bs : PlainBounds) → FitTheirFields args bs → kinds_under ks bs ≡ kinds_with args ks
kinds_fit ks [] no_bound h = refl
kinds_fit ks [] (bounds b bs) h = absurd h
kinds_fit ks (a ∷ args) no_bound h = absurd h
kinds_fit ks (a ∷ args) (bounds b bs) h =
    kinds_fit (kind_by b ∷ ks) args bs h.1 ∙ ap (λ k. kinds_with args (k ∷ ks)) (kind_fits a b h.0)

-- type fields that the arguments fit
abbrev field_of : PlainArg → PlainBound
field_of (Plain t) = Free
field_of (Op n t) = Operator (replicate n Unmarked)

abbrev fields_of : List PlainArg → PlainBounds
fields_of [] = no_bound
fields_of (a ∷ args) = bounds (field_of a) (fields_of args)

of_kind : (a : PlainArg) → IsOfKind a (field_of a)
of_kind (Plain t) = tt
of_kind (Op n t) = sym (length-replicate n Unmarked)

fit : (args : List PlainArg) → FitTheirFields args (fields_of args)
fit [] = tt
fit (a ∷ args) = (of_kind a, fit args)

pub keep_kinds : (ns : List (List ℕ)) (ks : List Kind) (args : List PlainArg) → ArgsAreWellFormed ns ks args → ReplacesKinds ns (arguments args) (kinds_with args ks) ks
keep_kinds ns ks args w =
    subst (λ js. ReplacesKinds ns (arguments args) js ks) (kinds_fit ks args (fields_of args) (fit args)) (arguments_keep ns ks args (fields_of args) (fit args) w)
