-- Lists of trees gone through: what one more tree does to what is built.
use Rattle.std.proofs.Common.{◌≡◌, ℕ, ◌+◌, ◌<◌, true, List, [], ◌∷◌, ◌++◌, length, map, take, get_or, None, refl, sym, ◌∙◌, ap, append_assoc}
use Rattle.std.proofs.lemmas.List.{append-nil}
use Rattle.pict_syntax.specs.declared.span.Span.{Span}
use Rattle.pict_syntax.specs.declared.tree.Val.{Val}
use Rattle.pict_syntax.specs.declared.tree.LabelledVal.{LabelledVal}
use Rattle.pict_syntax.specs.declared.tree.Dec.{Dec}
use Rattle.pict_syntax.specs.declared.tree.Proc.{Proc}
use Rattle.pict_syntax.specs.declared.tree.Definition.{Definition}
use Rattle.pict_syntax.specs.Trees.{Vals, no_vals, more_vals, no_labelled_vals, no_decs, Procs, no_procs, more_procs, Definitions, no_definitions, more_definitions}
use Rattle.pict_syntax.specs.PlainTrees.{val_of, abs_of, dec_of, proc_of, vals_on, labelled_vals_on, decs_on, procs_on, definitions_on}
use Rattle.pict_syntax.proofs.DeclarationLists.{decs_more}
use Rattle.pict_core.specs.Term as core
use Rattle.pict_translation.specs.Placed.{Placed, beside, side_by_side}
use Rattle.pict_translation.specs.Arguments.{Argument, argument, with_value, application, right, left_after}
use Rattle.pict_translation.specs.Simple.{Around, simple}
use Rattle.pict_translation.specs.Translation.{sending, with_vals, with_labelled, arguments, reader, dec_core, decs_core, servers, proc_core, procs_core}
use Rattle.pict_derive.proofs.SimpleForms.{vals_taken, labelled_taken}
use Rattle.pict_scope.proofs.Reading.{taken}

-- ---- what is left of a list

-- ---- values and declarations, taken from the left

pub vals_step : (e : Around) (xs : List Val) (i : ℕ) (x : Val) (next : List core.Val → Placed) → i < length xs → x ≡ get_or xs i x → with_vals e (vals_on no_vals (take (i + 1) xs)) next ≡ with_vals e (vals_on no_vals (take i xs)) (λ us. with_value (simple e (val_of x)) (sending e (val_of x)) (λ u. next (us ++ u ∷ [])))
unfolding with_vals
vals_step e xs i x next within is = ap (λ t. with_vals e t next) (vals_taken xs i x within is)

pub vals_begin : (e : Around) (next : List core.Val → Placed) → with_vals e (vals_on no_vals []) next ≡ next []
unfolding with_vals vals_on
vals_begin e next = refl

pub labelled_step : (e : Around) (xs : List LabelledVal) (i : ℕ) (x : LabelledVal) (next : List (ℕ × core.Val) → Placed) → i < length xs → x ≡ get_or xs i x → with_labelled e (labelled_vals_on no_labelled_vals (take (i + 1) xs)) next ≡ with_labelled e (labelled_vals_on no_labelled_vals (take i xs)) (λ us. with_value (simple e (val_of x.value)) (sending e (val_of x.value)) (λ u. next (us ++ (x.label.name.0, u) ∷ [])))
unfolding with_labelled
labelled_step e xs i x next within is = ap (λ t. with_labelled e t next) (labelled_taken xs i x within is)

pub labelled_begin : (e : Around) (next : List (ℕ × core.Val) → Placed) → with_labelled e (labelled_vals_on no_labelled_vals []) next ≡ next []
unfolding with_labelled labelled_vals_on
labelled_begin e next = refl

pub decs_step : (e : Around) (xs : List Dec) (i : ℕ) (x : Dec) (rest : Around → Placed) → i < length xs → x ≡ get_or xs i x → decs_core e (decs_on no_decs (take (i + 1) xs)) rest ≡ decs_core e (decs_on no_decs (take i xs)) (λ e. dec_core e (dec_of x) rest)
unfolding decs_core
decs_step e xs i x rest within is = ap (λ t. decs_core e t rest) (ap (decs_on no_decs) (taken xs i x within is) ∙ decs_more no_decs (take i xs) x)

pub decs_begin : (e : Around) (rest : Around → Placed) → decs_core e (decs_on no_decs []) rest ≡ rest e
unfolding decs_core decs_on
decs_begin e rest = refl

-- ---- processes and servers beside each other

abbrev pub process_of : Around → Proc → Placed
process_of e p = proc_core e (proc_of p)

procs_on_are : (e : Around) (ps : Procs) (xs : List Proc) → procs_core e (procs_on ps xs) ≡ procs_core e ps ++ map (process_of e) xs
unfolding procs_core procs_on
procs_on_are e ps [] = sym (append-nil (procs_core e ps))
procs_on_are e ps (x ∷ xs) = procs_on_are e (more_procs ps (proc_of x)) xs ∙ append_assoc (procs_core e ps) (proc_core e (proc_of x) ∷ []) _

pub procs_are : (e : Around) (xs : List Proc) → procs_core e (procs_on no_procs xs) ≡ map (process_of e) xs
unfolding procs_core
procs_are e xs = procs_on_are e no_procs xs

pub side_first : (p : Placed) (ps : List Placed) (q : Placed) → side_by_side (p ∷ (ps ++ q ∷ [])) ≡ beside p (side_by_side (ps ++ q ∷ []))
side_first p [] q = refl
side_first p (r ∷ ps) q = refl

abbrev pub server_of : Around → Definition → core.Val → Placed
server_of e d f = reader e (abs_of d.abs) f true

servers_on_are : (e : Around) (ds : Definitions) (xs : List Definition) → servers e (definitions_on ds xs) ≡ servers e ds ++ map (server_of e) xs
unfolding servers definitions_on
servers_on_are e ds [] = sym (append-nil (servers e ds))
servers_on_are e ds (x ∷ xs) = servers_on_are e (more_definitions ds x.id (abs_of x.abs)) xs ∙ append_assoc (servers e ds) ((λ f. reader e (abs_of x.abs) f true) ∷ []) _

pub servers_are : (e : Around) (xs : List Definition) → servers e (definitions_on no_definitions xs) ≡ map (server_of e) xs
unfolding servers
servers_are e xs = servers_on_are e no_definitions xs

-- ---- nested applications

abbrev pub argument_of : Around → Val → Argument
argument_of e v = argument (simple e (val_of v)) (sending e (val_of v))

arguments_on_are : (e : Around) (vs : Vals) (xs : List Val) → arguments e (vals_on vs xs) ≡ arguments e vs ++ map (argument_of e) xs
unfolding arguments vals_on
arguments_on_are e vs [] = sym (append-nil (arguments e vs))
arguments_on_are e vs (x ∷ xs) = arguments_on_are e (more_vals vs (val_of x)) xs ∙ append_assoc (arguments e vs) (argument (simple e (val_of x)) (sending e (val_of x)) ∷ []) _

pub arguments_are : (e : Around) (xs : List Val) → arguments e (vals_on no_vals xs) ≡ map (argument_of e) xs
unfolding arguments
arguments_are e xs = arguments_on_are e no_vals xs

pub right_first : (f : core.Val) (s : Span) (a : Argument) (more : List Argument) (b c : Argument) → right f s (a ∷ (more ++ b ∷ c ∷ [])) ≡ application f s a (right f s (more ++ b ∷ c ∷ []))
right_first f s a [] b c = refl
right_first f s a (x ∷ more) b c = refl

pub right_sends : (f : core.Val) (s : Span) (more : List Argument) (b c : Argument) → (right f s (more ++ b ∷ c ∷ [])).simple ≡ None
right_sends f s [] b c = refl
right_sends f s (x ∷ []) b c = refl
right_sends f s (x ∷ y ∷ more) b c = refl

pub left_last : (f : core.Val) (s : Span) (a : Argument) (more : List Argument) (c : Argument) → left_after f s a (more ++ c ∷ []) ≡ application f s (left_after f s a more) c
left_last f s a [] c = refl
left_last f s a (x ∷ more) c = left_last f s (application f s a x) more c

pub left_sends : (f : core.Val) (s : Span) (a b : Argument) (more : List Argument) → (left_after f s (application f s a b) more).simple ≡ None
left_sends f s a b [] = refl
left_sends f s a b (x ∷ more) = left_sends f s (application f s a b) x more
