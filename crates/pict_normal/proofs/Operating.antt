-- An operator has as many parameters as it has arguments.
use Rattle.std.proofs.Common.{◌≡◌, ℕ, Bool, List, length, map, refl, sym, ◌∙◌, ap, subst}
use Rattle.std.proofs.lemmas.List.{length-map}
use Rattle.pict_normal.specs.declared.arguments.Arguments.{Arguments}
use Rattle.pict_types.specs.declared.measure.Measures.{Measures}
use Rattle.pict_normal.specs.declared.puts.Puts.{Puts}
use Rattle.pict_types.specs.declared.types.Ty.{Ty}
use Rattle.pict_types.specs.Types.{PlainType, Apply, PlainTypes, count_types}
use Rattle.pict_types.specs.Fitting.{StandsForOperator}
use Rattle.pict_types.specs.Kinds.{IsWellFormed}
use Rattle.pict_normal.specs.Made.{AreArguments, only_used}
use Rattle.pict_types.specs.Plain.{plain_types}
use Rattle.pict_normal.specs.Putting.{FitsKinds, context_names, replacement_in}
use Rattle.pict_types.specs.Replacing.{operator, replace_types}
use Rattle.pict_normal.proofs.Applied.{count_used, weigh_each_length}
use Rattle.pict_types.proofs.Formed.{count_replaced}
use Rattle.pict_types.proofs.Rows.{count_types_length}

pub arguments_count : {ws hs : List ℕ} {us : PlainTypes} (a : Arguments) → AreArguments ws hs a us → length a.measures.items ≡ count_types us
arguments_count {ws = ws} {us = us} a x =
    let m : length (map (λ m. m.weight) a.measures.items) ≡ length a.measures.items = simp length-map refl in
    sym m ∙ ap length x.weights ∙ weigh_each_length ws us

pub operator_count : {p : Puts} {ms : List Measures} (i : ℕ) (ts : PlainTypes) (n : ℕ) (t : PlainType) → FitsKinds p ms (λ ks. IsWellFormed (context_names p) ks (Apply i ts)) → operator n t ≡ (replacement_in p ms).head_of i → n ≡ count_types (replace_types (replacement_in p ms) ts)
operator_count {p = p} {ms = ms} i ts n t x e =
    let head : StandsForOperator (context_names p) x.targets (count_types ts) (operator n t) = subst (StandsForOperator (context_names p) x.targets (count_types ts)) (sym e) (x.keeps.heads_ i (count_types ts) x.formed.0) in
    head.0 ∙ sym (count_replaced (replacement_in p ms) ts)

pub operator_items : {p : Puts} {ms : List Measures} (i : ℕ) (xs : List Ty) (n : ℕ) (t : PlainType) → FitsKinds p ms (λ ks. IsWellFormed (context_names p) ks (Apply i (plain_types xs))) → operator n t ≡ (replacement_in p ms).head_of i → n ≡ length xs
operator_items {p = p} {ms = ms} i xs n t x e =
    operator_count i (plain_types xs) n t x e ∙ count_replaced (replacement_in p ms) (plain_types xs) ∙ count_types_length xs

-- the arguments that are used, with Top for the others, are as many as the parameters
pub measured_count : {ws hs : List ℕ} (a : Arguments) (s : PlainTypes) (used : List Bool) → AreArguments ws hs a (only_used used s) → length a.measures.items ≡ count_types s
measured_count a s used x = arguments_count a x ∙ count_used used s
