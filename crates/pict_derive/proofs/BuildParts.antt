-- Forms put together from what their parts say.
use Rattle.std.proofs.Common.{◌≡◌, ℕ, ◌+◌, ◌-◌, ◌<◌, ◌≤◌, Bool, List, [], ◌∷◌, ◌++◌, length, map, drop, get_or, Option, None, sym, ◌∙◌, ap, option_map, append_assoc}
use Rattle.std.proofs.lemmas.List.{map-append, drop_all}
use Rattle.pict_syntax.specs.declared.span.Span.{Span}
use Rattle.pict_syntax.specs.declared.tree.Val.{Val}
use Rattle.pict_syntax.specs.declared.tree.Proc.{Proc}
use Rattle.pict_syntax.specs.declared.tree.Definition.{Definition}
use Rattle.pict_syntax.specs.Trees.{no_vals, no_procs, no_definitions}
use Rattle.pict_syntax.specs.PlainTrees.{val_of, vals_on, procs_on, definitions_on}
use Rattle.pict_core.specs.Term as core
use Rattle.pict_core.specs.Closed.{binds}
use Rattle.pict_core.specs.Plain.{plain_val}
use Rattle.pict_core.proofs.Matched.{from_place}
use Rattle.pict_core.specs.declared.value.CoreVal.{CoreVal}
use Rattle.pict_core.specs.declared.value.CoreVal.TheVariants as value
use Rattle.pict_binders.specs.declared.binders.Binder.{Binder}
use Rattle.pict_translation.specs.Placed.{Placed, beside, output, input, served, side_by_side, variables}
use Rattle.pict_translation.specs.Arguments.{with_value, application, right, left, left_after, no_argument}
use Rattle.pict_translation.specs.Patterns as patterns
use Rattle.pict_translation.specs.Simple.{Around, record_of_fields, simple}
use Rattle.pict_translation.specs.Translation.{sending, arguments, procs_core, servers}
use Rattle.pict_derive.specs.declared.outside.Outside.{Outside}
use Rattle.pict_derive.specs.Built.{Extends, surround, three}
use Rattle.pict_derive.proofs.LevelLemmas.{cut_back}
use Rattle.pict_derive.proofs.BuildSteps.{argument_of, arguments_are, process_of, procs_are, server_of, servers_are, right_first, right_sends, left_last, left_sends, side_first}
use Rattle.pict_derive.proofs.Surrounding.{plain_var}

-- what was found of a value, in the place of the question
pub found_value : (o : Outside) (s : Option core.Val) (sent f : core.Val → Placed) (found : Option CoreVal) (is : Option CoreVal) → option_map plain_val found ≡ s → found ≡ is → surround o (with_value s sent f) ≡ surround o (with_value (option_map plain_val is) sent f)
found_value o s sent f found is so same = ap (λ s. surround o (with_value s sent f)) (sym so ∙ ap (option_map plain_val) same)

-- an output on the variable k
pub out_made : (made : core.Process) (k : ℕ) (v : CoreVal) (u : core.Val) (s : Span) → made ≡ core.Out (plain_val (value.Var k)) (plain_val v) s → plain_val v ≡ u → made ≡ core.Out (core.Var k) u s
out_made made k v u s is same = is ∙ ap (λ x. core.Out x (plain_val v) s) (plain_var k) ∙ ap (λ x. core.Out (core.Var k) x s) same

pub choice_made : (made : core.Process) (b : core.Val) (p q x y : core.Process) → made ≡ core.If b p q → p ≡ x → q ≡ y → made ≡ core.If b x y
choice_made made b p q x y is l r = is ∙ ap (λ z. core.If b z q) l ∙ ap (core.If b x) r

pub applied_made : (made : core.Process) (f y : CoreVal) (g x u : core.Val) (k : ℕ) (s : Span) → made ≡ core.Out (plain_val f) (three x (plain_val y) (core.Var k)) s → plain_val f ≡ g → plain_val y ≡ u → made ≡ core.Out g (three x u (core.Var k)) s
applied_made made f y g x u k s is head last = is ∙ ap (λ h. core.Out h (three x (plain_val y) (core.Var k)) s) head ∙ ap (λ v. core.Out g (three x v (core.Var k)) s) last

pub fields_and : (e : Around) (v : core.Val) (old new : List CoreVal) (k : ℕ) (ws : List (ℕ × core.Val)) → v ≡ record_of_fields e (map plain_val new) ws → new ≡ old ++ value.Var k ∷ [] → v ≡ record_of_fields e (map plain_val old ++ core.Var k ∷ []) ws
fields_and e v old new k ws is grown =
    is ∙ ap (λ us. record_of_fields e us ws) (ap (map plain_val) grown ∙ map-append plain_val old (value.Var k ∷ []) ∙ ap (λ x. map plain_val old ++ x ∷ []) (plain_var k))

-- an input, from its pattern and its body
pub input_made : (made : core.Process) (x : core.Val) (r : Bool) (p q : core.Pat) (body : core.Process) (f : List core.Val → Placed) (inside d : ℕ) → made ≡ core.In x r p body → p ≡ q → body ≡ f (variables d (binds q)) inside → inside ≡ d + binds q → made ≡ input x r q f d
input_made made x r p q body f inside d is same body_is at =
    is ∙ ap (λ p. core.In x r p body) same ∙ ap (core.In x r q) (body_is ∙ ap (f (variables d (binds q))) at)

-- ---- names that are given back

pub given_back : (old inner after new : List Binder) (left : ℕ) → Extends old inner → after ≡ inner → left ≡ length old → new ≡ drop (length after - left) after → new ≡ old
given_back old inner after new left grown same count is =
    is ∙ ap (λ s. drop (length s - left) s) same ∙ ap (λ n. drop (length inner - n) inner) count ∙ cut_back old inner grown

pub extends_same : (old new : List Binder) → new ≡ old → Extends old new
extends_same old new is = record { more = []; is = is }

pub extends_bound : (b : Binder) (old new : List Binder) → new ≡ b ∷ old → Extends old new
extends_bound b old new is = record { more = b ∷ []; is = is }

-- ---- lists

pub one_value : {A B : Type 0} (f : A → B) (old new : List A) (x : A) → new ≡ old ++ x ∷ [] → map f old ++ f x ∷ [] ≡ map f new
one_value f old new x is = sym (ap (map f) is ∙ map-append f old (x ∷ []))

pub server_put : (e : Around) (o : Outside) (xs : List Definition) (i : ℕ) (x : Definition) (level : ℕ) (rest : Placed) → i < length xs → x ≡ get_or xs i x → surround o (served (map (server_of e) (drop i xs)) (variables level (length (drop i xs))) rest) ≡ surround o (beside (server_of e x (core.Var level)) (served (map (server_of e) (drop (i + 1) xs)) (variables (level + 1) (length (drop (i + 1) xs))) rest))
server_put e o xs i x level rest within is = ap (λ l. surround o (served (map (server_of e) l) (variables level (length l)) rest)) (from_place xs i x within is)

pub servers_done : (e : Around) (o : Outside) (xs : List Definition) (i level : ℕ) (rest : Placed) → length xs ≤ i → surround o (served (map (server_of e) (drop i xs)) (variables level (length (drop i xs))) rest) ≡ surround o rest
servers_done e o xs i level rest le = ap (λ l. surround o (served (map (server_of e) l) (variables level (length l)) rest)) (drop_all i xs le)

pub servers_begin : (e : Around) (o : Outside) (xs : List Definition) (level : ℕ) (rest : Placed) → surround o (served (servers e (definitions_on no_definitions xs)) (variables level (length xs)) rest) ≡ surround o (served (map (server_of e) xs) (variables level (length xs)) rest)
servers_begin e o xs level rest = ap (λ ss. surround o (served ss (variables level (length xs)) rest)) (servers_are e xs)

pub group_begin : (e : Around) (all before : List Proc) (last : Proc) (d : ℕ) → all ≡ before ++ last ∷ [] → side_by_side (procs_core e (procs_on no_procs all)) d ≡ side_by_side (map (process_of e) before ++ process_of e last ∷ []) d
group_begin e all before last d is = ap (λ ps. side_by_side ps d) (procs_are e all ∙ ap (map (process_of e)) is ∙ map-append (process_of e) before (last ∷ []))

pub group_none : (e : Around) (all : List Proc) (d : ℕ) → all ≡ [] → core.Zero ≡ side_by_side (procs_core e (procs_on no_procs all)) d
group_none e all d is = sym (ap (λ ps. side_by_side ps d) (procs_are e all ∙ ap (map (process_of e)) is))

pub group_put : (e : Around) (o : Outside) (xs : List Proc) (i : ℕ) (x last : Proc) → i < length xs → x ≡ get_or xs i x → surround o (side_by_side (map (process_of e) (drop i xs) ++ process_of e last ∷ [])) ≡ surround o (beside (process_of e x) (side_by_side (map (process_of e) (drop (i + 1) xs) ++ process_of e last ∷ [])))
group_put e o xs i x last within is =
    ap (λ l. surround o (side_by_side (map (process_of e) l ++ process_of e last ∷ []))) (from_place xs i x within is)
    ∙ ap (surround o) (side_first (process_of e x) (map (process_of e) (drop (i + 1) xs)) (process_of e last))

pub group_last : (e : Around) (o : Outside) (xs : List Proc) (i : ℕ) (last : Proc) → length xs ≤ i → surround o (side_by_side (map (process_of e) (drop i xs) ++ process_of e last ∷ [])) ≡ surround o (process_of e last)
group_last e o xs i last le = ap (λ l. surround o (side_by_side (map (process_of e) l ++ process_of e last ∷ []))) (drop_all i xs le)

-- ---- nested applications

pub right_none : (e : Around) (f : core.Val) (s : Span) (all : List Val) (k : core.Val) (d : ℕ) → all ≡ [] → no_argument.sent k d ≡ (right f s (arguments e (vals_on no_vals all))).sent k d
right_none e f s all k d is = sym (ap (λ more. (right f s more).sent k d) (arguments_are e all ∙ ap (map (argument_of e)) is))

pub left_none : (e : Around) (f : core.Val) (s : Span) (all : List Val) (k : core.Val) (d : ℕ) → all ≡ [] → no_argument.sent k d ≡ (left f s (arguments e (vals_on no_vals all))).sent k d
left_none e f s all k d is = sym (ap (λ more. (left f s more).sent k d) (arguments_are e all ∙ ap (map (argument_of e)) is))

pub right_one : (e : Around) (f : core.Val) (s : Span) (all : List Val) (x : Val) (k : core.Val) (d : ℕ) → all ≡ x ∷ [] → sending e (val_of x) k d ≡ (right f s (arguments e (vals_on no_vals all))).sent k d
right_one e f s all x k d is = sym (ap (λ more. (right f s more).sent k d) (arguments_are e all ∙ ap (map (argument_of e)) is))

pub left_one : (e : Around) (f : core.Val) (s : Span) (all : List Val) (x : Val) (k : core.Val) (d : ℕ) → all ≡ x ∷ [] → sending e (val_of x) k d ≡ (left f s (arguments e (vals_on no_vals all))).sent k d
left_one e f s all x k d is = sym (ap (λ more. (left f s more).sent k d) (arguments_are e all ∙ ap (map (argument_of e)) is))

pub right_begin : (e : Around) (f : core.Val) (s : Span) (all before first : List Val) (second last : Val) (k : core.Val) (d : ℕ) → all ≡ before ++ last ∷ [] → before ≡ first ++ second ∷ [] → (right f s (arguments e (vals_on no_vals all))).sent k d ≡ (right f s (map (argument_of e) first ++ argument_of e second ∷ argument_of e last ∷ [])).sent k d
right_begin e f s all before first second last k d is split =
    ap (λ more. (right f s more).sent k d) (arguments_are e all ∙ ap (map (argument_of e)) (is ∙ ap (λ l. l ++ last ∷ []) split ∙ append_assoc first (second ∷ []) (last ∷ [])) ∙ map-append (argument_of e) first (second ∷ last ∷ []))

pub left_begin : (e : Around) (f : core.Val) (s : Span) (all after others rest : List Val) (first second : Val) (k : core.Val) (d : ℕ) → all ≡ first ∷ after → after ≡ second ∷ others → rest ≡ others → (left f s (arguments e (vals_on no_vals all))).sent k d ≡ (left f s (argument_of e first ∷ argument_of e second ∷ map (argument_of e) rest)).sent k d
left_begin e f s all after others rest first second k d is split same =
    ap (λ more. (left f s more).sent k d) (arguments_are e all ∙ ap (map (argument_of e)) (is ∙ ap (λ l. first ∷ l) split) ∙ ap (λ l. argument_of e first ∷ argument_of e second ∷ map (argument_of e) l) (sym same))

-- the first argument, with all that follows it as the second one
pub right_put : (e : Around) (o : Outside) (f : core.Val) (s : Span) (xs : List Val) (i : ℕ) (x second last : Val) (k : core.Val) → i < length xs → x ≡ get_or xs i x →
    surround o ((right f s (map (argument_of e) (drop i xs) ++ argument_of e second ∷ argument_of e last ∷ [])).sent k)
    ≡ surround o (with_value (simple e (val_of x)) (sending e (val_of x)) (λ u. with_value None (right f s (map (argument_of e) (drop (i + 1) xs) ++ argument_of e second ∷ argument_of e last ∷ [])).sent (λ y. output f (three u y k) s)))
right_put e o f s xs i x second last k within is =
    let rest = map (argument_of e) (drop (i + 1) xs) in
    let r = right f s (rest ++ argument_of e second ∷ argument_of e last ∷ []) in
    ap (λ l. surround o ((right f s (map (argument_of e) l ++ argument_of e second ∷ argument_of e last ∷ [])).sent k)) (from_place xs i x within is)
    ∙ ap (λ a. surround o (a.sent k)) (right_first f s (argument_of e x) rest (argument_of e second) (argument_of e last))
    ∙ ap (λ n. surround o (with_value (simple e (val_of x)) (sending e (val_of x)) (λ u. with_value n r.sent (λ y. output f (three u y k) s)))) (right_sends f s rest (argument_of e second) (argument_of e last))

pub right_last : (e : Around) (o : Outside) (f : core.Val) (s : Span) (xs : List Val) (i : ℕ) (second last : Val) (k : core.Val) → length xs ≤ i →
    surround o ((right f s (map (argument_of e) (drop i xs) ++ argument_of e second ∷ argument_of e last ∷ [])).sent k)
    ≡ surround o (with_value (simple e (val_of second)) (sending e (val_of second)) (λ u. with_value (simple e (val_of last)) (sending e (val_of last)) (λ y. output f (three u y k) s)))
right_last e o f s xs i second last k le = ap (λ l. surround o ((right f s (map (argument_of e) l ++ argument_of e second ∷ argument_of e last ∷ [])).sent k)) (drop_all i xs le)

-- the last argument, with all that stands before it as the first one
pub left_put : (e : Around) (o : Outside) (f : core.Val) (s : Span) (left_ new : List Val) (x first second : Val) (k : core.Val) → left_ ≡ new ++ x ∷ [] →
    surround o ((left f s (argument_of e first ∷ argument_of e second ∷ map (argument_of e) left_)).sent k)
    ≡ surround o (with_value None (left f s (argument_of e first ∷ argument_of e second ∷ map (argument_of e) new)).sent (λ u. with_value (simple e (val_of x)) (sending e (val_of x)) (λ y. output f (three u y k) s)))
left_put e o f s left_ new x first second k is =
    let a = argument_of e first in
    let b = argument_of e second in
    let l = left_after f s (application f s a b) (map (argument_of e) new) in
    ap (λ xs. surround o ((left_after f s (application f s a b) xs).sent k)) (ap (map (argument_of e)) is ∙ map-append (argument_of e) new (x ∷ []))
    ∙ ap (λ r. surround o (r.sent k)) (left_last f s (application f s a b) (map (argument_of e) new) (argument_of e x))
    ∙ ap (λ n. surround o (with_value n l.sent (λ u. with_value (simple e (val_of x)) (sending e (val_of x)) (λ y. output f (three u y k) s)))) (left_sends f s a b (map (argument_of e) new))

pub left_first : (e : Around) (o : Outside) (f : core.Val) (s : Span) (left_ : List Val) (first second : Val) (k : core.Val) → left_ ≡ [] →
    surround o ((left f s (argument_of e first ∷ argument_of e second ∷ map (argument_of e) left_)).sent k)
    ≡ surround o (with_value (simple e (val_of first)) (sending e (val_of first)) (λ u. with_value (simple e (val_of second)) (sending e (val_of second)) (λ y. output f (three u y k) s)))
left_first e o f s left_ first second k is = ap (λ xs. surround o ((left f s (argument_of e first ∷ argument_of e second ∷ map (argument_of e) xs)).sent k)) is

-- ---- the parts of an opened pattern

abbrev pub opened_pattern : patterns.Opened → core.Pat
opened_pattern o = o.pattern

abbrev pub opened_names : patterns.Opened → List ℕ
opened_names o = o.names
