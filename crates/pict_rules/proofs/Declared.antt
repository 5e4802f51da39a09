-- After declarations the environment has the names that stand around what comes after them.
use Rattle.std.proofs.Common.{◌≡◌, List, [], ◌∷◌, ◌++◌, Some, None, refl, sym, ◌∙◌, ap}
use Rattle.pict_syntax.specs.declared.id.Id.{Id}
use Rattle.pict_syntax.specs.Trees.{Dec, new_dec, run_dec, let_dec, def_dec, alias_dec, operator_dec, await_dec, Decs, no_decs, more_decs, Definitions, no_definitions, more_definitions, Abs, process_abs, function_abs}
use Rattle.pict_types.specs.Types.{PlainType, PlainArg, Chan, Respond}
use Rattle.pict_normal.specs.Normal.{normal, kind_stop, size_stop}
use Rattle.pict_scope.specs.Around.{Around, with_values}
use Rattle.pict_scope.specs.Outlines.{Outline, empty, ◌▸◌, group, binds_value, binds_type, opens}
use Rattle.pict_scope.specs.Forms.{in_type, with_parameters, in_dec, in_decs, defined as names_defined}
use Rattle.pict_rules.specs.Environments.{Environment, Extension, KnownValue, one_value, opened, extended, defined, shifted_by}
use Rattle.pict_rules.specs.Complete.{is_complete}
use Rattle.pict_rules.specs.Rules.{environment_, signatures_, signature_, Signature, Body, process_body, value_body, declaration, declarations, signatures, signature}
use Rattle.pict_rules.specs.Clauses.{signature_values, with_signatures, with_own, argument_type}
use Rattle.pict_rules.specs.Typing.{rule}
use Rattle.pict_rules.specs.SameNames.{value_names, bound_names, HasTypesOf, HasValuesOf}
use Rattle.pict_rules.proofs.Results.{result_has, gives_, refuses, parts, splits, unless, in_boths}
use Rattle.pict_rules.proofs.Names.{id_names, AddsNames, one_named, pattern_named, against_named, fields_named, Gives}
use Rattle.pict_rules.proofs.BoundIds.{value_ids, type_ids, field_value_ids, field_type_ids, definition_ids}
use Rattle.pict_rules.proofs.Kept.{same_texts, Keeps, keeps_type, keeps_val, keeps_proc, keeps_closed, keeps_group, keeps_definitions}
use Rattle.pict_rules.proofs.Opened.{GoesTo, stays, past_pat, past_definitions, types_within, values_within, types_still, values_still}

pub record Knows (e : Environment) (a : Around) : Type 0 where
  pub types_ : HasTypesOf e a
  pub values : HasValuesOf e a

pub knows_still : {e : Environment} {a b : Around} → Knows e a → GoesTo a b [] [] → Knows e b
knows_still h g = record { types_ = types_still h.types_ g; values = values_still h.values g }

pub knows_within : {e : Environment} {x : Extension} {a b : Around} {vs ts : List Id} → Knows e a → AddsNames x vs ts → GoesTo a b vs ts → Knows (extended e x) b
knows_within h k g = record { types_ = types_within h.types_ k g; values = values_within h.values k g }

-- a signature follows its abstraction
pub record Follows (x : Id) (vs ts : List Id) (IsBody : Body → Type 0) (s : Signature) : Type 0 where
  pub name_ : s.name ≡ x
  pub adds_ : AddsNames s.adds vs ts
  pub body_ : IsBody s.body

abbrev pub FollowsAbs : Id → Abs → Signature → Type 0
FollowsAbs x (process_abs i p q) s = Follows x (value_ids p) (type_ids p) (λ b. b ≡ process_body q) s
FollowsAbs x (function_abs i f r v) s = Follows x (field_value_ids f) (field_type_ids f) (λ b. (t : PlainType) × (b ≡ value_body v t)) s

signature_follows : (e : Environment) (x : Id) (a : Abs) → Gives signature_ (FollowsAbs x a) (rule e (signature x a))
signature_follows e x (process_abs i p q) = parts tt (λ g h. unless _ (gives_ (record { name_ = refl; adds_ = result_has (pattern_named e p) h; body_ = refl })))
signature_follows e x (function_abs i f None v) = parts tt (λ g h. refuses)
signature_follows e x (function_abs i f (Some a) v) = parts tt (λ g h.
    unless (kind_stop e.names (with_own e g.own).context a) (
    unless (size_stop e.context (argument_type g (normal e.names (with_own e g.own).context a)) i) (
    unless (size_stop e.context (Chan Respond (argument_type g (normal e.names (with_own e g.own).context a))) i) (
    gives_ (record { name_ = refl; adds_ = (result_has (fields_named e f) h).adds_; body_ = (shifted_by (opened g.adds) (normal e.names (with_own e g.own).context a), refl) })))))

-- the signatures of a `def` follow its abstractions, in order
abbrev pub AllFollow : Definitions → List Signature → Type 0
AllFollow no_definitions ss = ss ≡ []
AllFollow (more_definitions ds x a) ss = (rs : List Signature) × (s : Signature) × (ss ≡ rs ++ s ∷ []) × AllFollow ds rs × FollowsAbs x a s

pub signatures_follow : (e : Environment) (ds : Definitions) → Gives signatures_ (AllFollow ds) (rule e (signatures ds))
signatures_follow e no_definitions = gives_ refl
signatures_follow e (more_definitions ds x a) = parts tt (λ ss h. parts tt (λ s k. gives_ (ss, s, refl, result_has (signatures_follow e ds) h, result_has (signature_follows e x a) k)))

name_followed : (x : Id) (a : Abs) (s : Signature) → FollowsAbs x a s → s.name ≡ x
name_followed x (process_abs i p q) s h = h.name_
name_followed x (function_abs i f r v) s h = h.name_

last_nearest : (ss : List Signature) (s : Signature) (vs : List KnownValue) → value_names (signature_values (ss ++ s ∷ []) vs) ≡ s.name.name.0 ∷ value_names (signature_values ss vs)
last_nearest [] s vs = refl
last_nearest (r ∷ ss) s vs = last_nearest ss s (record { name = r.name.name.0; has = r.has } ∷ vs)

names_followed : (ds : Definitions) (ss : List Signature) (vs : List KnownValue) → AllFollow ds ss → value_names (signature_values ss vs) ≡ id_names (definition_ids ds) ++ value_names vs
names_followed no_definitions ss vs h = ap (λ z. value_names (signature_values z vs)) h
names_followed (more_definitions ds x a) ss vs h =
    ap (λ z. value_names (signature_values z vs)) h.2
    ∙ (last_nearest h.0 h.1 vs
    ∙ (ap (λ z. z.name.0 ∷ value_names (signature_values h.0 vs)) (name_followed x a h.1 h.4)
    ∙ ap (λ z. x.name.0 ∷ z) (names_followed ds h.0 vs h.3)))

pub knows_signed : {e : Environment} {a : Around} (ds : Definitions) (ss : List Signature) → Knows e a → AllFollow ds ss → Knows (with_signatures e ss) (with_values (names_defined ds) a)
knows_signed {e = e} {a = a} ds ss k h = let g = past_definitions a ds in record {
  types_ = record { texts = k.types_.texts ∙ sym g.texts; same = k.types_.same ∙ sym g.types_ };
  values = record { same = names_followed ds ss e.values h ∙ (ap (λ z. id_names (definition_ids ds) ++ z) k.values.same ∙ sym g.values) };
}

-- a value is bound, or a type is defined, and what stands beside it binds nothing
knows_value : {e : Environment} {a : Around} (x : Id) (t : PlainType) {o : Outline} → Keeps o → Knows e a → Knows (extended e (one_value x t)) (opens (binds_value x ▸ o) a)
unfolding opens
knows_value x t {o = o} k h = knows_within h (one_named x t) (record { texts = same_texts o _; values = ap bound_names (k.values _); types_ = ap bound_names (k.types_ _) })

knows_defined : {e : Environment} {a : Around} (x : Id) (t : PlainArg) {o : Outline} → Keeps o → Knows e a → Knows (defined e x t) (opens (binds_type x o) a)
unfolding opens
knows_defined x t {o = o} k h = record {
  types_ = record { texts = h.types_.texts ∙ sym (same_texts o _); same = ap (λ z. x.name.0 ∷ z) (h.types_.same ∙ ap bound_names (sym (k.types_ _))) };
  values = record { same = h.values.same ∙ ap bound_names (sym (k.values _)) };
}

dec_knows : {e : Environment} {a : Around} (d : Dec) → Knows e a → Gives environment_ (λ f. Knows f (opens (in_dec d) a)) (rule e (declaration d))
unfolding opens
dec_knows (new_dec s x t) k = unless _ (in_boths _ _ _ (gives_ (knows_value x _ (keeps_type t) k)))
dec_knows {a = a} (run_dec s p) k = parts tt (λ x h. gives_ (knows_still k (stays _ a (keeps_proc p))))
dec_knows {e = e} {a = a} (let_dec s p v) k =
    splits (is_complete e.names e.context p)
    (parts tt (λ g h. parts tt (λ x i. gives_ (knows_within k (result_has (pattern_named e p) h) (past_pat a p (keeps_val v))))))
    (parts tt (λ t h. parts tt (λ x i. gives_ (knows_within k (result_has (against_named e p t) i) (past_pat a p (keeps_val v))))))
dec_knows {e = e} {a = a} (def_dec s ds) k =
    parts tt (λ ss h. parts tt (λ x i. gives_ (knows_still (knows_signed ds ss k (result_has (signatures_follow e ds) h)) (stays _ (with_values (names_defined ds) a) (keeps_group (keeps_definitions ds))))))
dec_knows (alias_dec s x t) k = unless _ (gives_ (knows_defined x _ (keeps_type t) k))
dec_knows (operator_dec s x xs t) k = unless _ (gives_ (knows_defined x _ (keeps_closed (group (with_parameters empty xs) ▸ in_type t)) k))
dec_knows {a = a} (await_dec s v) k = parts tt (λ x h. gives_ (knows_still k (stays _ a (keeps_val v))))

pub decs_know : {e : Environment} {a : Around} (ds : Decs) → Knows e a → Gives environment_ (λ f. Knows f (opens (in_decs ds) a)) (rule e (declarations ds))
unfolding opens
decs_know no_decs k = gives_ k
decs_know (more_decs ds d) k = parts tt (λ f h. parts tt (λ g i. gives_ (result_has (dec_knows d (result_has (decs_know ds k) h)) i)))
