-- Written type arguments, one after the other.
use Rattle.std.proofs.Common.{◌≡◌, ◌<◌, ◌≤◌, ◌+◌, ℕ, List, [], ◌∷◌, ◌++◌, length, get_or, take, sym, ◌∙◌, ap, subst, arith, Option, Some, None, Bool, true, false}
use Rattle.std.proofs.lemmas.List.{length-take-le}
use Rattle.pict_syntax.specs.declared.code.Code.TheVariants.{K1, K5, Y9}
use Rattle.pict_syntax.specs.declared.span.Span.{Span}
use Rattle.pict_syntax.specs.declared.type_tree.TypeTree.{TypeTree as RTypeTree}
use Rattle.pict_syntax.specs.Grammar.{type_span}
use Rattle.pict_syntax.specs.PlainTrees.{type_of, types_on}
use Rattle.pict_syntax.specs.Trees.{TypeTree, TypeTrees, no_types, more_types}
use Rattle.pict_syntax.proofs.TypeLists.{types_more}
use Rattle.pict_syntax.specs.Stops.{Stop}
use Rattle.pict_types.specs.declared.types.Arg.{Arg}
use Rattle.pict_types.specs.Types.{PlainBound, PlainBounds, PlainArg, count_bounds}
use Rattle.pict_types.specs.AsMarked.{VaryAsMarked, varies_as}
use Rattle.pict_types.specs.Replacing.{FitTheirFields}
use Rattle.pict_types.specs.declared.types.Bound.{Bound}
use Rattle.pict_types.specs.Kinds.{BoundIsWellFormed}
use Rattle.pict_types.specs.Instances.{ArgsAreWellFormed}
use Rattle.pict_types.specs.Plain.{plain_arg, plain_args, plain_bound, plain_bounds}
use Rattle.pict_types.proofs.Rows.{count_bounds_length}
use Rattle.pict_normal.specs.Normal.{count_trees}
use Rattle.pict_normal.specs.Written.{kinds_with}
use Rattle.pict_normal.specs.WrittenArguments.{arg_stop, normal_arg}
use Rattle.pict_scope.specs.DistinctLabels.{HasDistinctLabels, TypesHaveDistinctLabels}
use Rattle.pict_rules.specs.Clauses.{is_of_kind, within_bound}
use Rattle.pict_rules.specs.Environments.{Environment, context_of}
use Rattle.pict_rules.specs.Regular.{IsGood, kinds_in}
use Rattle.pict_rules.specs.Rules.{nothing_, arguments_, Rule, ensure, give, ok, stuck, unless_stopped, written_arguments}
use Rattle.pict_rules.specs.Shapes.{nth_bound}
use Rattle.pict_rules.specs.Typing.{rule}
use Rattle.pict_rules.specs.Derivations.{Runs, give_, refuse_}
use Rattle.pict_infer.specs.declared.error.InferError.{InferError}
use Rattle.pict_infer.specs.Answering.{IsRefused}
use Rattle.pict_infer.specs.Asking.{IsWellAsked}
use Rattle.pict_infer.proofs.Through.{GoesOn, given, refused_on, refused_past, unstopped}
use Rattle.pict_lines.specs.Lines.{argument_after, argument_expanded, argument_fits, within_one}
use Rattle.pict_lines.proofs.Ends.{good_of, ensured, given_is}
use Rattle.pict_lines.proofs.Finding.{args_more}
use Rattle.pict_lines.proofs.PutIn.{bound_under}
use Rattle.pict_lines.proofs.Rows.{Row, first_of, row_first, row_more, row_refused}
use Rattle.pict_lines.proofs.WithinBounds.{within_then}
use Rattle.pict_normal.proofs.Trees.{count_trees_on}
use Rattle.pict_rules.proofs.RegularArguments.{all_fit}
use Rattle.pict_infer.proofs.OpenedBinders.{nth_is}

-- ONE ARGUMENT

-- it isn't of its field's kind
pub of_another_kind : (e : Environment) (n at : Span) (b : PlainBound) (args : List PlainArg) (a : PlainArg) → is_of_kind a b ≡ false → Runs (argument_fits e n at b args a) (stuck K1 at)
of_another_kind e n at b args a h = subst (λ (z : Bool). Runs (ensure z K1 at (ensure (varies_as (context_of e) a b) K5 at (within_one e n b args a at))) (stuck K1 at)) (sym h) refuse_

-- it varies otherwise than its field's marks say
pub varies_otherwise : (e : Environment) (n at : Span) (b : PlainBound) (args : List PlainArg) (a : PlainArg) → is_of_kind a b ≡ true → varies_as (context_of e) a b ≡ false → Runs (argument_fits e n at b args a) (stuck K5 at)
varies_otherwise e n at b args a k h =
    subst (λ (z : Bool). Runs (ensure z K1 at (ensure (varies_as (context_of e) a b) K5 at (within_one e n b args a at))) (stuck K5 at)) (sym k)
    (subst (λ (z : Bool). Runs (ensure z K5 at (within_one e n b args a at)) (stuck K5 at)) (sym h) refuse_)

-- it fits, and is one more
abbrev Fitted : Environment → Span → TypeTree → PlainBound → List PlainArg → PlainArg → Rule arguments_
Fitted e n t b args a =
    ensure (is_of_kind a b) K1 (type_span t) (
    ensure (varies_as (context_of e) a b) K5 (type_span t) (
    within_bound e n b args a Y9 (type_span t) (
    give (args ++ a ∷ []))))

arguments_on : (e : Environment) (n : Span) (t : TypeTree) (b : PlainBound) (args : List PlainArg) → GoesOn arguments_ arguments_ (argument_expanded e t) (argument_after e n t b args) (λ x. Fitted e n t b args (normal_arg e.names e.context t))
arguments_on e n t b args = unstopped (arg_stop e.names e.context t) given

fitted_on : (e : Environment) (n : Span) (t : TypeTree) (b : PlainBound) (args : List PlainArg) (a : PlainArg) → GoesOn nothing_ arguments_ (argument_fits e n (type_span t) b args a) (Fitted e n t b args a) (λ x. give (args ++ a ∷ []))
fitted_on e n t b args a = ensured (is_of_kind a b) K1 (type_span t) (ensured (varies_as (context_of e) a b) K5 (type_span t) (within_then e n b args a (type_span t) (give (args ++ a ∷ []))))

-- what was expanded
argument_is : (e : Environment) (t : TypeTree) (a : PlainArg) → Runs (argument_expanded e t) (ok (a ∷ [])) → a ≡ normal_arg e.names e.context t
argument_is e t a h = go (arg_stop e.names e.context t) h
  where
    go : (o : Option Stop) → Runs {s = arguments_} (unless_stopped o (give (normal_arg e.names e.context t ∷ []))) (ok (a ∷ [])) → a ≡ normal_arg e.names e.context t
    go None p = let k : (a ∷ []) ≡ normal_arg e.names e.context t ∷ [] = given_is arguments_ (normal_arg e.names e.context t ∷ []) (a ∷ []) p in cc
    go (Some x) p = elim p [ ]

pub unexpanded : (e : Environment) (n : Span) (t : TypeTree) (b : PlainBound) (args : List PlainArg) (y : InferError) → IsRefused (argument_expanded e t) y → IsRefused (argument_after e n t b args) y
unexpanded e n t b args y h = refused_on y (arguments_on e n t b args) h

pub unfit : (e : Environment) (n : Span) (t : TypeTree) (b : PlainBound) (args : List PlainArg) (a : PlainArg) (y : InferError) → Runs (argument_expanded e t) (ok (a ∷ [])) → IsRefused (argument_fits e n (type_span t) b args a) y → IsRefused (argument_after e n t b args) y
unfit e n t b args a y p h =
    refused_past (a ∷ []) y (arguments_on e n t b args) p
    (refused_on y (fitted_on e n t b args (normal_arg e.names e.context t)) (subst (λ z. IsRefused (argument_fits e n (type_span t) b args z) y) (argument_is e t a p) h))

pub fitted : (e : Environment) (n : Span) (t : TypeTree) (b : PlainBound) (args : List PlainArg) (a : PlainArg) → Runs (argument_expanded e t) (ok (a ∷ [])) → Runs (argument_fits e n (type_span t) b args a) (ok tt) → Runs (argument_after e n t b args) (ok (args ++ a ∷ []))
fitted e n t b args a p h =
    let k = argument_is e t a p in
    subst (λ z. Runs (argument_after e n t b args) (ok (args ++ z ∷ []))) (sym k)
    ((arguments_on e n t b args).on_ok (a ∷ []) (ok (args ++ normal_arg e.names e.context t ∷ [])) p
    ((fitted_on e n t b args (normal_arg e.names e.context t)).on_ok tt (ok (args ++ normal_arg e.names e.context t ∷ [])) (subst (λ z. Runs (argument_fits e n (type_span t) b args z) (ok tt)) k h) give_))

-- ALL ARGUMENTS

abbrev arguments_row : (e : Environment) (s : Span) (bs : PlainBounds) → Row RTypeTree arguments_ e
arguments_row e s bs = record {
  judged = λ xs. written_arguments s (types_on no_types xs) bs;
  next = λ xs x args. argument_after e s (type_of x) (nth_bound (count_trees (types_on no_types xs)) bs) args;
  more = λ xs x. ap (λ ts. rule e (written_arguments s ts bs)) (types_more no_types xs x);
}

so_many : (xs : List RTypeTree) (i : ℕ) → i ≤ length xs → count_trees (types_on no_types (take i xs)) ≡ i
so_many xs i h = count_trees_on (take i xs) ∙ length-take-le i xs h

-- the bound of the next one's type field
bound_at : (xs : List RTypeTree) (i : ℕ) (bs : List Bound) (b : Bound) → i < length xs → length xs ≤ length bs → b ≡ get_or bs i b → nth_bound (count_trees (types_on no_types (take i xs))) (plain_bounds bs) ≡ plain_bound b
bound_at xs i bs b h n is = ap (λ m. nth_bound m (plain_bounds bs)) (so_many xs i (omega (arith, h))) ∙ nth_is bs i b (omega (arith, h, n)) is

pub one_argument_more : (e : Environment) (s : Span) (xs : List RTypeTree) (i : ℕ) (t : RTypeTree) (bs : List Bound) (b : Bound) (args all : List Arg) (a : Arg) → i < length xs → length xs ≤ length bs → t ≡ get_or xs i t → b ≡ get_or bs i b → all ≡ args ++ a ∷ []
    → Runs (rule e (written_arguments s (types_on no_types (take i xs)) (plain_bounds bs))) (ok (plain_args args)) → Runs (argument_after e s (type_of t) (plain_bound b) (plain_args args)) (ok (plain_args args ++ plain_arg a ∷ []))
    → Runs (rule e (written_arguments s (types_on no_types (take (i + 1) xs)) (plain_bounds bs))) (ok (plain_args all))
one_argument_more e s xs i t bs b args all a h n at is more p q =
    subst (λ z. Runs (rule e (written_arguments s (types_on no_types (take (i + 1) xs)) (plain_bounds bs))) (ok z)) (sym (ap plain_args more ∙ args_more args a))
    (row_more (arguments_row e s (plain_bounds bs)) xs i t (plain_args args) (plain_args args ++ plain_arg a ∷ []) h p
    (subst (λ d. Runs (argument_after e s (type_of (get_or xs i t)) d (plain_args args)) (ok (plain_args args ++ plain_arg a ∷ []))) (sym (bound_at xs i bs b h n is))
    (subst (λ z. Runs (argument_after e s (type_of z) (plain_bound b) (plain_args args)) (ok (plain_args args ++ plain_arg a ∷ []))) at q)))

pub argument_refused : (e : Environment) (s : Span) (xs : List RTypeTree) (i : ℕ) (t : RTypeTree) (bs : List Bound) (b : Bound) (args : List PlainArg) (y : InferError) → i < length xs → length xs ≤ length bs → t ≡ get_or xs i t → b ≡ get_or bs i b
    → Runs (rule e (written_arguments s (types_on no_types (take i xs)) (plain_bounds bs))) (ok args) → IsRefused (argument_after e s (type_of t) (plain_bound b) args) y → IsRefused (rule e (written_arguments s (types_on no_types xs) (plain_bounds bs))) y
argument_refused e s xs i t bs b args y h n at is p q =
    row_refused (arguments_row e s (plain_bounds bs)) xs i t args y h p
    (subst (λ d. IsRefused (argument_after e s (type_of (get_or xs i t)) d args) y) (sym (bound_at xs i bs b h n is))
    (subst (λ z. IsRefused (argument_after e s (type_of z) (plain_bound b) args) y) at q))

pub no_argument : (e : Environment) (s : Span) (xs : List RTypeTree) (bs : PlainBounds) (args : List Arg) → args ≡ [] → Runs (rule e (written_arguments s (types_on no_types (take 0 xs)) bs)) (ok (plain_args args))
unfolding types_on
no_argument e s xs bs args is = subst (λ (z : List Arg). Runs (rule e (written_arguments s (types_on no_types []) bs)) (ok (plain_args z))) (sym is) give_

-- what the next one is asked
abbrev IsAskedOf : Environment → Span → List RTypeTree → List Bound → Type 0
IsAskedOf e s xs bs = IsWellAsked arguments_ e (written_arguments s (types_on no_types xs) (plain_bounds bs))

labels_of_last : (ts : TypeTrees) (t : TypeTree) (us : TypeTrees) → us ≡ more_types ts t → TypesHaveDistinctLabels us → HasDistinctLabels t
labels_of_last ts t us is h = (subst TypesHaveDistinctLabels is h).1

pub argument_labels : (e : Environment) (s : Span) (xs : List RTypeTree) (i : ℕ) (t : RTypeTree) (bs : List Bound) → i < length xs → t ≡ get_or xs i t → IsAskedOf e s xs bs → HasDistinctLabels (type_of t)
argument_labels e s xs i t bs h at q =
    subst (λ z. HasDistinctLabels (type_of z)) (sym at)
    (labels_of_last (types_on no_types (take i xs)) (type_of (get_or xs i t)) (types_on no_types (take i xs ++ get_or xs i t ∷ [])) (types_more no_types (take i xs) (get_or xs i t)) (row_first (arguments_row e s (plain_bounds bs)) xs i t h q).labels)

good_so_far : (e : Environment) (s : Span) (xs : List RTypeTree) (i : ℕ) (t : RTypeTree) (bs : List Bound) (args : List PlainArg) → i < length xs → IsAskedOf e s xs bs → Runs (rule e (written_arguments s (types_on no_types (take i xs)) (plain_bounds bs))) (ok args) → IsGood e (written_arguments s (types_on no_types (take i xs)) (plain_bounds bs)) args
good_so_far e s xs i t bs args h q p = good_of (first_of (arguments_row e s (plain_bounds bs)) xs i q) p

pub arguments_so_far : (e : Environment) (s : Span) (xs : List RTypeTree) (i : ℕ) (t : RTypeTree) (bs : List Bound) (args : List PlainArg) → i < length xs → IsAskedOf e s xs bs → Runs (rule e (written_arguments s (types_on no_types (take i xs)) (plain_bounds bs))) (ok args) → ArgsAreWellFormed e.names (kinds_in e) args
arguments_so_far e s xs i t bs args h q p = (good_so_far e s xs i t bs args h q p).0

pub argument_bound : (e : Environment) (s : Span) (xs : List RTypeTree) (i : ℕ) (t : RTypeTree) (bs : List Bound) (b : Bound) (args : List PlainArg) → i < length xs → length xs ≤ length bs → b ≡ get_or bs i b → IsAskedOf e s xs bs
    → Runs (rule e (written_arguments s (types_on no_types (take i xs)) (plain_bounds bs))) (ok args) → BoundIsWellFormed e.names (kinds_with args (kinds_in e)) (plain_bound b)
argument_bound e s xs i t bs b args h n is q p =
    let g = good_so_far e s xs i t bs args h q p in
    let m : length args ≡ i = g.1.1.0 ∙ so_many xs i (omega (arith, h)) in
    let c = count_bounds_length bs in
    subst (λ d. BoundIsWellFormed e.names (kinds_with args (kinds_in e)) d) (ap (λ j. nth_bound j (plain_bounds bs)) m ∙ nth_is bs i b (omega (arith, h, n)) is)
    (bound_under e.names (kinds_in e) (plain_bounds bs) args q.asked.1 g.1.0 (omega (arith, h, n, m, c)))

pub arguments_fit : (e : Environment) (s : Span) (ts : TypeTrees) (bs : PlainBounds) (args : List PlainArg) → IsWellAsked arguments_ e (written_arguments s ts bs) → count_trees ts ≡ count_bounds bs → Runs (rule e (written_arguments s ts bs)) (ok args) → FitTheirFields args bs
arguments_fit e s ts bs args q n p = let g = good_of q p in all_fit args bs g.1.0 (g.1.1.0 ∙ n)

pub arguments_vary : (e : Environment) (s : Span) (ts : TypeTrees) (bs : PlainBounds) (args : List PlainArg) → IsWellAsked arguments_ e (written_arguments s ts bs) → Runs (rule e (written_arguments s ts bs)) (ok args) → VaryAsMarked (context_of e) args bs
arguments_vary e s ts bs args q p = (good_of q p).1.1.1
