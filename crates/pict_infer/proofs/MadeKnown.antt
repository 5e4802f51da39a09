-- The calls on environments: what is judged without values, and what becomes known.
use Rattle.std.proofs.Common.{Result, Ok, Err, ◌≡◌, ◌+◌, ℕ, List, [], ◌∷◌, ◌++◌, length, refl, sym, ◌∙◌, ap, ap₂, subst, arith, append_assoc, length-append}
use Rattle.std.specs.Prelude.{IfOk}
use Rattle.std.specs.Result.{IsErrAnd}
use Rattle.pict_syntax.specs.declared.name.Name.{Name}
use Rattle.pict_syntax.specs.declared.span.Span.{Span}
use Rattle.pict_types.specs.declared.types.Bound.{Bound}
use Rattle.pict_types.specs.declared.types.Ty.{Ty}
use Rattle.pict_types.specs.Plain.{plain_bounds, plain_labels, plain_types}
use Rattle.pict_syntax.specs.Trees.{Pat, FieldPats}
use Rattle.pict_types.specs.Types.{PlainType, PlainTypes, PlainLabels, PlainBounds}
use Rattle.pict_types.specs.Entries.{PlainContext, variables, EntriesAreWellFormed}
use Rattle.pict_types.specs.PlainContext.{type_context}
use Rattle.pict_types.specs.Renaming.{moved}
use Rattle.pict_types.proofs.Renamed.{renamed_twice}
use Rattle.pict_rules.specs.Environments.{Environment, Extension, KnownType, KnownValue, entries_of, extended, opened, rename_values}
use Rattle.pict_rules.specs.Rules.{extension_, opened_, Judgement, OpenedFields, ok, stuck, pattern_against, fields_against}
use Rattle.pict_rules.specs.Clauses.{with_fields, with_own}
use Rattle.pict_rules.specs.Typing.{rule}
use Rattle.pict_rules.specs.Derivations.{Runs}
use Rattle.pict_rules.proofs.RegularAll.{regularity}
use Rattle.pict_rules.proofs.RegularPatterns.{both_entries}
use Rattle.pict_infer.specs.declared.added.Added.{Added}
use Rattle.pict_infer.specs.declared.env.Env.{Env}
use Rattle.pict_infer.specs.declared.error.InferError.{InferError}
use Rattle.pict_infer.specs.declared.error.InferError.TheVariants.{Named, Memory}
use Rattle.pict_infer.specs.Knowing.{known_types, known_values}
use Rattle.pict_infer.specs.Adding.{extension_of}
use Rattle.pict_infer.specs.Answering.{IsRefused}
use Rattle.pict_infer.specs.Asking.{IsWellAsked}
use Rattle.pict_infer.specs.Environments.{environment_of, known_entries, known_names, GrewFrom, MayBeAdded}
use Rattle.pict_infer.specs.Opening.{OpensAgainst, against_fields}
use Rattle.pict_infer.specs.Patterns.{AreOpen, FieldsOpenAgainst, GoesAgainst, IsKnown}
use Rattle.pict_infer.specs.Places.{environment_in}
use Rattle.pict_infer.proofs.Growing.{environment, grew_types, opened_types}
use Rattle.pict_infer.proofs.Unused.{against_passes, fields_against_pass}

-- the environment without its values
abbrev pub without_values : Environment → Environment
without_values e = record { names = e.names; context = e.context; values = [] }

pub pattern_holds : (e : Environment) (p : Pat) (t : PlainType) (x : Extension) → Runs (rule (without_values e) (pattern_against p t)) (ok x) → Runs (rule e (pattern_against p t)) (ok x)
pattern_holds e p t x h = (against_passes p (without_values e) e.values t).on (ok x) h

pub pattern_is_refused : (e : Environment) (p : Pat) (t : PlainType) (y : InferError) → IsRefused (rule (without_values e) (pattern_against p t)) y → IsRefused (rule e (pattern_against p t)) y
pattern_is_refused e p t (Named c i told) h = (against_passes p (without_values e) e.values t).on (stuck c i) h
pattern_is_refused e p t Memory h = tt

pub fields_hold : (e : Environment) (s : Span) (f : FieldPats) (bs : PlainBounds) (ps : PlainTypes) (ls : PlainLabels) (x : OpenedFields) → Runs (rule (without_values e) (fields_against s f bs ps ls)) (ok x) → Runs (rule e (fields_against s f bs ps ls)) (ok x)
fields_hold e s f bs ps ls x h = (fields_against_pass f (without_values e) e.values s bs ps ls).on (ok x) h

pub fields_are_refused : (e : Environment) (s : Span) (f : FieldPats) (bs : PlainBounds) (ps : PlainTypes) (ls : PlainLabels) (y : InferError) → IsRefused (rule (without_values e) (fields_against s f bs ps ls)) y → IsRefused (rule e (fields_against s f bs ps ls)) y
fields_are_refused e s f bs ps ls (Named c i told) h = (fields_against_pass f (without_values e) e.values s bs ps ls).on (stuck c i) h
fields_are_refused e s f bs ps ls Memory h = tt

-- what may be added after the judgement on a pattern
pub formed_in : (d e : Environment) (bs : List KnownType) → d ≡ e → EntriesAreWellFormed e.names (entries_of bs ++ e.context) → EntriesAreWellFormed d.names (entries_of bs ++ d.context)
formed_in d e bs q h = subst (λ z. EntriesAreWellFormed z.names (entries_of bs ++ z.context)) (sym q) h

pub pattern_may : (old mid : Env) (p : Pat) (t : PlainType) (x : Added) → IsWellAsked extension_ (environment_of old) (pattern_against p t) → Runs (rule (environment_of old) (pattern_against p t)) (ok (extension_of x)) → environment_of mid ≡ environment_of old
    → x.base ≡ length (type_context old.context) → MayBeAdded mid x
pattern_may old mid p t x a r q b = record {
  base = b ∙ ap (λ (z : Environment). length (variables z.context)) (sym q);
  formed = formed_in (environment_of mid) (environment_of old) (known_types x.binders.items) q
      (regularity extension_ (environment_of old) (pattern_against p t) (extension_of x) a.labels a.regular a.asked r).entries;
}

-- an environment with as many type variables as another
pub same_known : (e : Env) (ns : List (List ℕ)) (c : PlainContext) → ns ≡ known_names e → c ≡ known_entries e → (let d : Environment = record { names = ns; context = c; values = known_values (length (variables c)) e.values.items } in d) ≡ environment_of e
same_known e ns c p q = environment ns (known_names e) c (known_entries e) _ _ p q (ap (λ z. known_values (length (variables z)) e.values.items) q)

pub grew_twice : (old mid new : Env) → GrewFrom old mid → GrewFrom mid new → GrewFrom old new
grew_twice old mid new g h = record {
  texts = h.texts ∙ g.texts;
  inner = h.inner ++ g.inner;
  entries = h.entries ∙ ap (λ z. h.inner ++ z) g.entries ∙ sym (append_assoc h.inner g.inner (known_entries old));
  nearer = g.nearer ++ h.nearer;
  values = h.values ∙ ap (λ z. z ++ h.nearer) g.values ∙ append_assoc old.values.items g.nearer h.nearer;
}

pub becomes_known : (old mid new : Env) (j : Judgement extension_) (x : Extension) → Runs (rule (environment_of old) j) (ok x) → environment_of mid ≡ environment_of old → mid.values.items ≡ old.values.items → environment_of new ≡ extended (environment_of mid) x → GrewFrom mid new
    → IsKnown old new j
becomes_known old mid new j x r q v k g = record {
  adds = x;
  holds = r;
  known = k ∙ ap (λ z. extended z x) q;
  grew = grew_twice old mid new (grew_types old mid [] (ap (λ (z : Environment). z.names) q) (ap (λ (z : Environment). z.context) q) v) g;
}

-- fields whose own type variables are open
pub fields_open : (old new : Env) (s : Span) (f : FieldPats) (bs : PlainBounds) (ps : PlainTypes) (ls : PlainLabels) (g : OpenedFields) (x : Added) → IsWellAsked opened_ (environment_of old) (fields_against s f bs ps ls)
    → Runs (rule (without_values (environment_of old)) (fields_against s f bs ps ls)) (ok g) → known_names new ≡ known_names old → known_entries new ≡ entries_of g.own ++ known_entries old → new.values.items ≡ old.values.items
    → environment_of new ≡ with_own (environment_of old) g.own → extension_of x ≡ g.adds → x.base ≡ length (type_context new.context) → AreOpen old new (fields_against s f bs ps ls) x
fields_open old new s f bs ps ls g x a r p q v k is b =
    let holds = fields_hold (environment_of old) s f bs ps ls g r in
    record {
      fields = g;
      holds = holds;
      known = k;
      adds = is;
      may = record {
        base = b;
        formed = formed_in (environment_of new) (with_own (environment_of old) g.own) (known_types x.binders.items) k
            (subst (λ (z : Extension). EntriesAreWellFormed (known_names old) (entries_of z.binders ++ (entries_of g.own ++ known_entries old))) (sym is)
            (regularity opened_ (environment_of old) (fields_against s f bs ps ls) g a.labels a.regular a.asked holds).1.entries);
      };
      grew = grew_types old new (entries_of g.own) p q v;
    }

-- type variables, and then what is added within them
values_twice : (m k : ℕ) (vs : List KnownValue) → rename_values (moved m 0) (rename_values (moved k 0) vs) ≡ rename_values (moved (m + k) 0) vs
values_twice m k [] = refl
values_twice m k (v ∷ vs) =
    ap₂ (λ (t : PlainType) (ws : List KnownValue). let w : KnownValue = record { name = v.name; has = t } in w ∷ ws)
    (renamed_twice v.has (record { each = λ i. omega arith })) (values_twice m k vs)

pub own_then_parts : (e : Environment) (own : List KnownType) (x : Extension) → extended (with_own e own) x ≡ with_fields e own x
own_then_parts e own x =
    environment e.names e.names _ _ _ _ refl (both_entries x.binders own e.context)
    (ap (λ z. x.values ++ z) (values_twice (opened x) (length own) e.values ∙ ap (λ n. rename_values (moved n 0) e.values) (sym (length-append x.binders own))))

-- errors that are handed on
pub goes_err : (old new : Env) (j : Judgement extension_) (x : Result (Unit {0}) InferError) (y : InferError) → IsErrAnd x (λ z. z ≡ y) → IsRefused (rule (environment_of old) j) y → GoesAgainst old new j x
goes_err old new j (Ok v) y is h = absurd is
goes_err old new j (Err z) y is h = subst (λ w. IsRefused (rule (environment_of old) j) w) (sym is) h

-- fields whose own type variables are open, or that are refused
pub fields_open_answer : (old new : Env) (s : Span) (f : FieldPats) (bs : List Bound) (ps : List Ty) (ls : List (Name × Ty)) (x : Result Added InferError) → IsWellAsked opened_ (environment_of old) (against_fields s f bs ps ls) → new.values.items ≡ old.values.items
    → OpensAgainst (environment_in old.context) (environment_in new.context) (against_fields s f bs ps ls) x → IfOk x (λ z. z.base ≡ length (type_context new.context)) → FieldsOpenAgainst old new (against_fields s f bs ps ls) x
fields_open_answer old new s f bs ps ls (Ok x) a v h b =
    let p : known_names new ≡ known_names old = ap (λ (z : Environment). z.names) h.inside in
    let q : known_entries new ≡ entries_of h.given.own ++ known_entries old = ap (λ (z : Environment). z.context) h.inside in
    let same = environment (known_names new) (known_names new) (known_entries new) (known_entries new) _ _ refl refl (ap (known_values (length (type_context new.context))) v) in
    fields_open old new s f (plain_bounds bs) (plain_types ps) (plain_labels ls) h.given x a h.gives p q v (same ∙ opened_types old (known_names new) (known_entries new) h.given.own p q) h.adds b
fields_open_answer old new s f bs ps ls (Err y) a v h b = fields_are_refused (environment_of old) s f (plain_bounds bs) (plain_types ps) (plain_labels ls) y h
