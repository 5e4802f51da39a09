-- Declarations of channels and types, one lemma for each way that a body ends.
use Rattle.std.proofs.Common.{◌≡◌, ℕ, true, false, ◌+◌, ◌<◌, List, [], ◌∷◌, ◌++◌, length, get_or, take, take-suc, add-one, refl, sym, ◌∙◌, ap, ap₂, subst, arith}
use Rattle.pict_syntax.specs.declared.code.Code.TheVariants.{Y15}
use Rattle.pict_syntax.specs.declared.id.Id.{Id}
use Rattle.pict_syntax.specs.declared.span.Span.{Span}
use Rattle.pict_syntax.specs.Grammar.{type_span}
use Rattle.pict_syntax.specs.Trees.{TypeTree, new_dec, alias_dec, operator_dec}
use Rattle.pict_types.specs.Kinds.{ArgIsWellFormed}
use Rattle.pict_types.specs.Types.{Both, Free, Op, Plain, PlainType, Read, Respond, Write}
use Rattle.pict_types.specs.Types as types
use Rattle.pict_types.specs.Entries.{PlainContext, variables}
use Rattle.pict_normal.specs.Normal.{entry_of, kind_stop, normal}
use Rattle.pict_rules.specs.Environments.{Environment, KnownValue, context_of, defined, extended, one_value, only_types}
use Rattle.pict_rules.specs.Rules.{Answer, Rule, Sort, environment_, type_, declaration, give, ok, stuck, unless_stopped}
use Rattle.pict_rules.specs.Clauses.{need_both, with_parameters_in, with_parameters_named}
use Rattle.pict_rules.specs.Regular.{kinds_in}
use Rattle.pict_rules.specs.Typing.{rule}
use Rattle.pict_rules.specs.Derivations.{Runs, give_, refuse_}
use Rattle.pict_infer.specs.declared.error.InferError.{InferError}
use Rattle.pict_infer.specs.Answering.{IsRefused}
use Rattle.pict_infer.specs.Asking.{IsWellAsked}
use Rattle.pict_infer.specs.declared.env.Env.{Env}
use Rattle.pict_infer.specs.Environments.{environment_of, known_entries, with_value}
use Rattle.pict_infer.specs.Steps.{expanded}
use Rattle.pict_infer.proofs.Through.{GoesOn, given, refused, refused_on, unstopped}
use Rattle.pict_lines.specs.Declaring.{channel_type, is_both}
use Rattle.pict_lines.proofs.Ends.{expands, good_of}
use Rattle.pict_rules.proofs.RegularJoined.{values_unmoved}

-- A CHANNEL

untrue : {P : Type 0} → false ≡ true → P
untrue h = absurd (let z : false ≡ true = h in cc)

both_yes : {t : Sort} (u : PlainType) (at : Span) (r : Rule t) (a : Answer t) → is_both u ≡ true → Runs r a → Runs (need_both u Y15 at r) a
both_yes types.Top at r a h k = untrue h
both_yes types.Int at r a h k = untrue h
both_yes types.Char at r a h k = untrue h
both_yes types.Str at r a h k = untrue h
both_yes types.Boolean at r a h k = untrue h
both_yes (types.Var i) at r a h k = untrue h
both_yes (types.Apply i ts) at r a h k = untrue h
both_yes (types.Chan Both u) at r a h k = k
both_yes (types.Chan Read u) at r a h k = untrue h
both_yes (types.Chan Write u) at r a h k = untrue h
both_yes (types.Chan Respond u) at r a h k = untrue h
both_yes (types.Fields bs ps ls) at r a h k = untrue h
both_yes (types.Rec u) at r a h k = untrue h

both_no : {t : Sort} (u : PlainType) (at : Span) (r : Rule t) → is_both u ≡ false → Runs (need_both u Y15 at r) (stuck Y15 at)
both_no types.Top at r h = refuse_
both_no types.Int at r h = refuse_
both_no types.Char at r h = refuse_
both_no types.Str at r h = refuse_
both_no types.Boolean at r h = refuse_
both_no (types.Var i) at r h = refuse_
both_no (types.Apply i ts) at r h = refuse_
both_no (types.Chan Both u) at r h = untrue (sym h)
both_no (types.Chan Read u) at r h = refuse_
both_no (types.Chan Write u) at r h = refuse_
both_no (types.Chan Respond u) at r h = refuse_
both_no (types.Fields bs ps ls) at r h = refuse_
both_no (types.Rec u) at r h = refuse_

-- its type is expanded, and is that of a channel
pub channel_refused : (e : Environment) (t : TypeTree) (y : InferError) → IsRefused (expanded e t) y → IsRefused (channel_type e t) y
channel_refused e t y h = refused_on y (expands e t (λ u. need_both u Y15 (type_span t) (give u))) h

pub channel_no : (e : Environment) (t : TypeTree) (u : PlainType) → Runs (expanded e t) (ok u) → is_both u ≡ false → Runs (channel_type e t) (stuck Y15 (type_span t))
channel_no e t u h k = (expands e t (λ w. need_both w Y15 (type_span t) (give w))).on_ok u (stuck Y15 (type_span t)) h (both_no u (type_span t) (give u) k)

pub channel_yes : (e : Environment) (t : TypeTree) (u : PlainType) → Runs (expanded e t) (ok u) → is_both u ≡ true → Runs (channel_type e t) (ok u)
channel_yes e t u h k = (expands e t (λ w. need_both w Y15 (type_span t) (give w))).on_ok u (ok u) h (both_yes u (type_span t) (give u) (ok u) k give_)

boths : {t : Sort} (u : PlainType) (at : Span) (k : PlainType → Rule t) → GoesOn type_ t (need_both u Y15 at (give u)) (need_both u Y15 at (k u)) k
boths types.Top at k = refused
boths types.Int at k = refused
boths types.Char at k = refused
boths types.Str at k = refused
boths types.Boolean at k = refused
boths (types.Var i) at k = refused
boths (types.Apply i ts) at k = refused
boths (types.Chan Both u) at k = given
boths (types.Chan Read u) at k = refused
boths (types.Chan Write u) at k = refused
boths (types.Chan Respond u) at k = refused
boths (types.Fields bs ps ls) at k = refused
boths (types.Rec u) at k = refused

news : (e : Environment) (s : Span) (x : Id) (t : TypeTree) → GoesOn type_ environment_ (channel_type e t) (rule e (declaration (new_dec s x t))) (λ u. give (extended e (one_value x u)))
news e s x t = unstopped (kind_stop e.names e.context t) (boths (normal e.names e.context t) (type_span t) (λ u. give (extended e (one_value x u))))

pub new_refused : (e : Environment) (s : Span) (x : Id) (t : TypeTree) (y : InferError) → IsRefused (channel_type e t) y → IsRefused (rule e (declaration (new_dec s x t))) y
new_refused e s x t y h = refused_on y (news e s x t) h

one_value_known : (e : Environment) (x : Id) (t : PlainType) → with_value e x t ≡ extended e (one_value x t)
one_value_known e x t =
    ap (λ (vs : List KnownValue). let v : KnownValue = record { name = x.name.0; has = t } in let d : Environment = record { names = e.names; context = e.context; values = v ∷ vs } in d) (sym (values_unmoved e.values))

pub new_done : (e d : Environment) (s : Span) (x : Id) (t : TypeTree) (u : PlainType) → Runs (channel_type e t) (ok u) → d ≡ with_value e x u → Runs (rule e (declaration (new_dec s x t))) (ok d)
new_done e d s x t u h k = (news e s x t).on_ok u (ok d) h (subst (λ z. Runs {s = environment_} (give (extended e (one_value x u))) (ok z)) (sym (k ∙ one_value_known e x u)) give_)

-- A TYPE

pub alias_refused : (e : Environment) (s : Span) (x : Id) (t : TypeTree) (y : InferError) → IsRefused (expanded e t) y → IsRefused (rule e (declaration (alias_dec s x t))) y
alias_refused e s x t y h = refused_on y (expands e t (λ u. give (defined e x (Plain u)))) h

pub alias_done : (e d : Environment) (s : Span) (x : Id) (t : TypeTree) (u : PlainType) → Runs (expanded e t) (ok u) → d ≡ defined e x (Plain u) → Runs (rule e (declaration (alias_dec s x t))) (ok d)
alias_done e d s x t u h k = (expands e t (λ w. give (defined e x (Plain w)))).on_ok u (ok d) h (subst (λ z. Runs {s = environment_} (give (defined e x (Plain u))) (ok z)) (sym k) give_)

-- AN OPERATOR

-- one parameter more
with_one_more : (xs : List Id) (x : Id) (c : PlainContext) → with_parameters_named (xs ++ x ∷ []) c ≡ entry_of x Free ∷ with_parameters_named xs c
with_one_more [] x c = refl
with_one_more (z ∷ xs) x c = with_one_more xs x (entry_of z Free ∷ c)

parameter_more : (xs : List Id) (i : ℕ) (d : Id) (c : PlainContext) → i < length xs → with_parameters_named (take (i + 1) xs) c ≡ entry_of (get_or xs i d) Free ∷ with_parameters_named (take i xs) c
parameter_more xs i d c h = rw (add-one, take-suc xs i d h) (with_one_more (take i xs) (get_or xs i d) c)

pub parameter_opened : (e f : Env) (c : PlainContext) (xs : List Id) (i : ℕ) (d : Id) → i < length xs → known_entries e ≡ with_parameters_named (take i xs) c
    → environment_of f ≡ extended (environment_of e) (only_types (record { name = (get_or xs i d).name.0; bound = Free } ∷ [])) → known_entries f ≡ with_parameters_named (take (i + 1) xs) c
parameter_opened e f c xs i d h p k = ap (λ (z : Environment). z.context) k ∙ ap (λ es. entry_of (get_or xs i d) Free ∷ es) p ∙ sym (parameter_more xs i d c h)

parameters_count : (xs : List Id) (c : PlainContext) → length (variables (with_parameters_named xs c)) ≡ length xs + length (variables c)
parameters_count [] c = omega arith
parameters_count (x ∷ xs) c = omega (arith, parameters_count xs (entry_of x Free ∷ c))

pub parameters_opened : (e d : Environment) (xs : List Id) → d.context ≡ (with_parameters_in e xs).context → length (context_of d) ≡ length xs + length (context_of e)
parameters_opened e d xs h = ap (λ c. length (variables c)) h ∙ parameters_count xs e.context

-- where the parameters are known
pub under_parameters : (e d : Environment) (xs : List Id) (t : TypeTree) → d.names ≡ e.names → d.context ≡ (with_parameters_in e xs).context → expanded d t ≡ expanded (with_parameters_in e xs) t
under_parameters e d xs t p q = ap₂ (λ ns c. unless_stopped {s = type_} (kind_stop ns c t) (give (normal ns c t))) p q

pub operator_refused : (e d : Environment) (s : Span) (x : Id) (xs : List Id) (t : TypeTree) (y : InferError) → d.names ≡ e.names → d.context ≡ (with_parameters_in e xs).context → IsRefused (expanded d t) y → IsRefused (rule e (declaration (operator_dec s x xs t))) y
operator_refused e d s x xs t y p q h =
    refused_on y (expands (with_parameters_in e xs) t (λ u. give (defined e x (Op (length xs) u)))) (subst (λ r. IsRefused r y) (under_parameters e d xs t p q) h)

operator_runs : (e d : Environment) (s : Span) (x : Id) (xs : List Id) (t : TypeTree) (u : PlainType) → d.names ≡ e.names → d.context ≡ (with_parameters_in e xs).context → Runs (expanded d t) (ok u) → Runs (rule e (declaration (operator_dec s x xs t))) (ok (defined e x (Op (length xs) u)))
operator_runs e d s x xs t u p q h =
    (expands (with_parameters_in e xs) t (λ w. give (defined e x (Op (length xs) w)))).on_ok u (ok (defined e x (Op (length xs) u))) (subst (λ r. Runs r (ok u)) (under_parameters e d xs t p q) h) give_

-- what is expanded is well formed as an operator of so many parameters
pub operator_formed : (e d : Environment) (s : Span) (x : Id) (xs : List Id) (t : TypeTree) (u : PlainType) → IsWellAsked environment_ e (declaration (operator_dec s x xs t)) → d.names ≡ e.names → d.context ≡ (with_parameters_in e xs).context → Runs (expanded d t) (ok u) → ArgIsWellFormed e.names (kinds_in e) (Op (length xs) u)
operator_formed e d s x xs t u a p q h = (good_of a (operator_runs e d s x xs t u p q h)).0.entries.0

pub operator_fits : (e f : Environment) (n k : ℕ) (u : PlainType) → f ≡ e → n ≡ k → ArgIsWellFormed e.names (kinds_in e) (Op k u) → ArgIsWellFormed f.names (kinds_in f) (Op n u)
operator_fits e f n k u p q h = subst (λ (z : Environment). ArgIsWellFormed z.names (kinds_in z) (Op n u)) (sym p) (subst (λ m. ArgIsWellFormed e.names (kinds_in e) (Op m u)) (sym q) h)

pub operator_done : (e d f : Environment) (s : Span) (x : Id) (xs : List Id) (t : TypeTree) (u : PlainType) → d.names ≡ e.names → d.context ≡ (with_parameters_in e xs).context → Runs (expanded d t) (ok u) → f ≡ defined e x (Op (length xs) u) → Runs (rule e (declaration (operator_dec s x xs t))) (ok f)
operator_done e d f s x xs t u p q h k = subst (λ z. Runs (rule e (declaration (operator_dec s x xs t))) (ok z)) (sym k) (operator_runs e d s x xs t u p q h)
