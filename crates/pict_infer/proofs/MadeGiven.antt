-- The calls on patterns that give: what is judged without values, and what becomes known.
use Rattle.std.proofs.Common.{◌≡◌, ◌≤◌, ◌+◌, List, ◌++◌, length, Global, Result, Ok, Err, sym, ◌∙◌, ap, ap₂, subst, arith}
use Rattle.std.specs.Prelude.{IfOk, OnErr, OnOk, Vec}
use Rattle.std.specs.declared.alloc.AllocError.{AllocError}
use Rattle.pict_syntax.specs.Trees.{Pat, FieldPats}
use Rattle.pict_types.specs.declared.context.Context.{Context}
use Rattle.pict_types.specs.Entries.{PlainContext, variables, EntriesAreWellFormed}
use Rattle.pict_types.specs.PlainContext.{plain_context, type_context}
use Rattle.pict_types.specs.Plain.{plain_record}
use Rattle.pict_rules.specs.Environments.{Environment, Extension, KnownType, entries_of, within}
use Rattle.pict_rules.specs.Rules.{pattern_, fields_, ok, stuck, pattern_gives, fields_give}
use Rattle.pict_rules.specs.Clauses.{with_own}
use Rattle.pict_rules.specs.Typing.{rule}
use Rattle.pict_rules.specs.Derivations.{Runs}
use Rattle.pict_rules.proofs.RegularAll.{regularity}
use Rattle.pict_rules.proofs.RegularPatterns.{both_entries}
use Rattle.pict_infer.specs.declared.added.Added.{Added}
use Rattle.pict_infer.specs.declared.env.Env.{Env}
use Rattle.pict_infer.specs.declared.env.Place.{Place}
use Rattle.pict_infer.specs.declared.error.InferError.{InferError}
use Rattle.pict_infer.specs.declared.error.InferError.TheVariants.{Named, Memory}
use Rattle.pict_infer.specs.declared.known.Binder.{Binder}
use Rattle.pict_infer.specs.declared.giving.Typed.{Typed}
use Rattle.pict_infer.specs.declared.giving.TypedFields.{TypedFields as GivenFields}
use Rattle.pict_infer.specs.Knowing.{deepest, known_types, known_values}
use Rattle.pict_infer.specs.Adding.{extension_of}
use Rattle.pict_infer.specs.Answering.{IsRefused, IsAnswer}
use Rattle.pict_infer.specs.Asking.{IsWellAsked}
use Rattle.pict_infer.specs.Places.{environment_in}
use Rattle.pict_infer.specs.Opening.{HasFields}
use Rattle.pict_infer.specs.Environments.{environment_of, known_entries, known_names, IsAsBefore, IsPlaceOf, MayBeAdded}
use Rattle.pict_infer.specs.Giving.{typed_pattern, OpensFields}
use Rattle.pict_infer.specs.Given.{AreGivenOpen, FieldsOpen, GivesType, HasOpenedOwn, IsClosed, IsTyped, IsUnderOwn}
use Rattle.pict_infer.proofs.Depths.{types_length}
use Rattle.pict_infer.proofs.Growing.{environment, grew_types, opened_types}
use Rattle.pict_infer.proofs.MadeKnown.{formed_in, without_values}
use Rattle.pict_infer.proofs.TakenBack.{IsTakenBack, taken_back}
use Rattle.pict_infer.proofs.Unused.{pattern_passes, fields_pass}
use Rattle.pict_rules.proofs.OwnBinders.{opened_count}

giving_refused : (e : Environment) (p : Pat) (y : InferError) → IsRefused (rule (without_values e) (pattern_gives p)) y → IsRefused (rule e (pattern_gives p)) y
giving_refused e p (Named c i told) h = (pattern_passes p (without_values e) e.values).on (stuck c i) h
giving_refused e p Memory h = tt

parts_refused : (e : Environment) (f : FieldPats) (y : InferError) → IsRefused (rule (without_values e) (fields_give f)) y → IsRefused (rule e (fields_give f)) y
parts_refused e f (Named c i told) h = (fields_pass f (without_values e) e.values).on (stuck c i) h
parts_refused e f Memory h = tt

-- a context that is as it was, and the same values
pub as_before : (old new : Env) → known_names new ≡ known_names old → known_entries new ≡ known_entries old → new.values.items ≡ old.values.items → IsAsBefore old new
as_before old new p q v = record {
  known = environment (known_names new) (known_names old) (known_entries new) (known_entries old) _ _ p q (ap₂ (λ c vs. known_values (length (variables c)) vs) q v);
  items = v;
}

-- the call on a pattern
typed : (old new : Env) (p : Pat) (x : Typed) → IsWellAsked pattern_ (environment_of old) (pattern_gives p) → Runs (rule (without_values (environment_of old)) (pattern_gives p)) (ok (typed_pattern x)) → x.adds.base ≡ length (type_context old.context)
    → environment_in new.context ≡ environment_in old.context → new.values.items ≡ old.values.items → IsTyped old new p x
typed old new p x a r b q v =
    let e = environment_of old in
    let holds = (pattern_passes p (without_values e) e.values).on (ok (typed_pattern x)) r in
    let same = as_before old new (ap (λ (z : Environment). z.names) q) (ap (λ (z : Environment). z.context) q) v in
    record {
      holds = holds;
      same = same;
      may = record {
        base = b ∙ ap (λ (z : Environment). length (variables z.context)) (sym q);
        formed = formed_in (environment_of new) e (known_types x.adds.binders.items) same.known (regularity pattern_ e (pattern_gives p) (typed_pattern x) a.labels a.regular a.asked holds).1.entries;
      };
    }

pub typed_answer : (old new : Env) (p : Pat) (r : Result Typed InferError) → IsWellAsked pattern_ (environment_of old) (pattern_gives p) → IsAnswer (rule (without_values (environment_of old)) (pattern_gives p)) typed_pattern r
    → IfOk r (λ x. x.adds.base ≡ length (type_context old.context)) → OnOk r (environment_in new.context ≡ environment_in old.context) → new.values.items ≡ old.values.items → GivesType old new p r
typed_answer old new p (Ok x) a h b q v = typed old new p x a h b q v
typed_answer old new p (Err y) a h b q v = giving_refused (environment_of old) p y h

-- type variables that became known
pub under_own : (old new : Env) (own : List KnownType) → environment_in new.context ≡ with_own (environment_in old.context) own → new.values.items ≡ old.values.items → IsUnderOwn old new own
under_own old new own q v = record {
  known =
      ap (λ vs. let d : Environment = record { names = known_names new; context = known_entries new; values = known_values (length (type_context new.context)) vs } in d) v
      ∙ opened_types old (known_names new) (known_entries new) own (ap (λ (z : Environment). z.names) q) (ap (λ (z : Environment). z.context) q);
  items = v;
}

-- the call on fields
fields_typed : (old new : Env) (f : FieldPats) (x : GivenFields) → IsWellAsked fields_ (environment_of old) (fields_give f) → HasFields (environment_in old.context) (environment_in new.context) f (plain_record x.has) x.adds
    → x.adds.base ≡ length (type_context new.context) → new.values.items ≡ old.values.items → AreGivenOpen old new f x
fields_typed old new f x a h b v =
    let e = environment_of old in
    let g = h.given in
    let holds = (fields_pass f (without_values e) e.values).on (ok g) h.gives in
    let under = under_own old new g.own h.inside v in
    record {
      fields = g;
      holds = holds;
      under = under;
      record_ = h.has;
      adds = h.adds;
      may = record {
        base = b;
        formed = formed_in (environment_of new) (with_own e g.own) (known_types x.adds.binders.items) under.known
            (subst (λ (z : Extension). EntriesAreWellFormed (known_names old) (entries_of z.binders ++ (entries_of g.own ++ known_entries old))) (sym h.adds)
            (regularity fields_ e (fields_give f) g a.labels a.regular a.asked holds).1.entries);
      };
      grew = grew_types old new (entries_of g.own) (ap (λ (z : Environment). z.names) h.inside) (ap (λ (z : Environment). z.context) h.inside) v;
    }

pub fields_answer : (old new : Env) (f : FieldPats) (r : Result GivenFields InferError) → IsWellAsked fields_ (environment_of old) (fields_give f) → OpensFields (environment_in old.context) (environment_in new.context) f r
    → IfOk r (λ x. x.adds.base ≡ length (type_context new.context)) → new.values.items ≡ old.values.items → FieldsOpen old new f r
fields_answer old new f (Ok x) a h b v = fields_typed old new f x a h b v
fields_answer old new f (Err y) a h b v = parts_refused (environment_of old) f y h

pub own_back : (p : Place) (before now : Env) (own taken : List KnownType) (left : PlainContext) → IsPlaceOf p before → IsUnderOwn before now own → known_entries now ≡ entries_of taken ++ left → length left ≡ p.entries → IsTakenBack (known_entries before) own taken left
own_back p before now own taken left i u k l = taken_back (known_entries before) own taken (known_entries now) left (ap (λ (z : Environment). z.context) u.known) k (l ∙ i.entries)

-- how many type variables there are then
pub count_under : (before now : Env) (own : List KnownType) → IsUnderOwn before now own → length (type_context now.context) ≡ length (type_context before.context) + length own
count_under before now own u = ap (λ (z : Environment). length (variables z.context)) u.known ∙ opened_count own (known_entries before)

pub closed : (p : Place) (before now new : Env) (own taken : List KnownType) (inner x : Added) → IsPlaceOf p before → IsUnderOwn before now own → known_entries now ≡ entries_of taken ++ known_entries new → length (known_entries new) ≡ p.entries
    → known_names new ≡ known_names now → new.values.items ≡ now.values.items → MayBeAdded now inner → x.base + length taken ≡ inner.base → extension_of x ≡ within taken (extension_of inner) → IsClosed before new own inner x
closed p before now new own taken inner x i u k l n v m b is =
    let back = own_back p before now own taken (known_entries new) i u k l in
    let names : known_names new ≡ known_names before = n ∙ ap (λ (z : Environment). z.names) u.known in
    let same = as_before before new names back.left_ (v ∙ u.items) in
    let counts : length (type_context new.context) ≡ length (type_context before.context) = ap (λ c. length (variables c)) back.left_ in
    let owns : length taken ≡ length own = ap length back.own_ in
    record {
      adds = is ∙ ap (λ w. within w (extension_of inner)) back.own_;
      same = same;
      may = record {
        base = omega (arith, b, m.base, count_under before now own u, counts, owns);
        formed = subst (λ (z : Extension). EntriesAreWellFormed (known_names new) (entries_of z.binders ++ known_entries new)) (sym is)
            (subst (λ c. EntriesAreWellFormed (known_names new) c) (both_entries (known_types inner.binders.items) taken (known_entries new))
            (subst (λ c. EntriesAreWellFormed (known_names new) (entries_of (known_types inner.binders.items) ++ c)) k
            (subst (λ ns. EntriesAreWellFormed ns (entries_of (known_types inner.binders.items) ++ known_entries now)) (sym n) m.formed)));
      };
    }

-- values are still written in the type variables that are left
pub still_placed : (p : Place) (now : Env) (c : Context) (r : Result (Vec Binder Global) AllocError) → HasOpenedOwn p now → IfOk r (λ own. known_entries now ≡ entries_of (known_types own.items) ++ plain_context c)
    → OnOk r (length (plain_context c) ≡ p.entries) → OnErr r (plain_context c ≡ known_entries now) → deepest now.values.items ≤ length (type_context c)
still_placed p now c (Ok taken) h k l e =
    let back = own_back p h.before now h.own (known_types taken.items) (plain_context c) h.place h.under k l in
    let outside : deepest now.values.items ≡ deepest h.before.values.items = ap deepest h.under.items in
    let as_many : length (type_context c) ≡ length (type_context h.before.context) = ap (λ d. length (variables d)) back.left_ in
    omega (arith, outside, as_many, h.before.placed)
still_placed p now c (Err y) h k l e =
    let as_many : length (type_context c) ≡ length (type_context now.context) = ap (λ d. length (variables d)) e in
    omega (arith, as_many, now.placed)

pub own_within : (p : Place) (now : Env) (c : Context) (taken : List Binder) (inner : Added) → HasOpenedOwn p now → MayBeAdded now inner → known_entries now ≡ entries_of (known_types taken) ++ plain_context c → length (plain_context c) ≡ p.entries → length taken ≤ inner.base
own_within p now c taken inner h m k l =
    let back = own_back p h.before now h.own (known_types taken) (plain_context c) h.place h.under k l in
    let own : length (known_types taken) ≡ length h.own = ap length back.own_ in
    omega (arith, m.base, count_under h.before now h.own h.under, own, types_length taken)

pub closed_answer : (p : Place) (now new : Env) (taken : List Binder) (inner : Added) (r : Result Added AllocError) → known_entries now ≡ entries_of (known_types taken) ++ known_entries new → length (known_entries new) ≡ p.entries → known_names new ≡ known_names now
    → new.values.items ≡ now.values.items → MayBeAdded now inner → IfOk r (λ x. x.base + length taken ≡ inner.base) → IfOk r (λ x. extension_of x ≡ within (known_types taken) (extension_of inner))
    → IfOk r (λ x. (before : Env) (own : List KnownType) → IsPlaceOf p before → IsUnderOwn before now own → IsClosed before new own inner x)
closed_answer p now new taken inner (Ok x) k l n v m b is =
    λ before own i u. closed p before now new own (known_types taken) inner x i u k l n v m (omega (arith, b, types_length taken)) is
closed_answer p now new taken inner (Err y) k l n v m b is = tt
