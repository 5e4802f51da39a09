-- Entries of a context by their places.
use Rattle.std.proofs.Common.{◌≡◌, ℕ, zero, suc, ◌+◌, ◌-◌, ◌≤◌, ◌<◌, List, [], ◌∷◌, ◌++◌, length, get_or, None, refl, ◌∙◌, ap, subst, arith}
use Rattle.std.proofs.lemmas.List.{length-map}
use Rattle.pict_types.specs.declared.context.Entry.{Entry}
use Rattle.pict_types.specs.Types.{TypeContext}
use Rattle.pict_types.specs.Entries.{PlainWhat, Variable, Definition, PlainEntry, PlainContext, variables, with_variable}
use Rattle.pict_types.specs.PlainEntries.{plain_entry, plain_entries, plain_what}
use Rattle.pict_types.specs.Places.{entry_names, arity, arity_at, IsWhatAt}
use Rattle.pict_types.proofs.Entries.{pushed, entries_length, entry_at}

pub names_pushed : (es : List Entry) (e : Entry) → entry_names (plain_entries (es ++ e ∷ [])) ≡ e.name.0 ∷ entry_names (plain_entries es)
names_pushed es e = ap entry_names (pushed es e)

pub at_least : (w : PlainWhat) (c : TypeContext) → length c ≤ length (with_variable w c)
at_least (Variable b) c = omega arith
at_least (Definition a) c = omega arith

pub one_at_most : (w : PlainWhat) (c : TypeContext) → length (with_variable w c) ≤ length c + 1
one_at_most (Variable b) c = omega arith
one_at_most (Definition a) c = omega arith

-- with an entry less there are no more variables
pub fewer : (es : List Entry) (e : Entry) (n : ℕ) → length (variables (plain_entries (es ++ e ∷ []))) < n → length (variables (plain_entries es)) < n
fewer es e n h =
    let k : length (variables (plain_entries (es ++ e ∷ []))) ≡ length (with_variable (plain_what e.what) (variables (plain_entries es))) = ap (λ x. length (variables x)) (pushed es e) in
    omega (arith, h, k, at_least (plain_what e.what) (variables (plain_entries es)))

pub names_length : (c : PlainContext) → length (entry_names c) ≡ length c
names_length c = simp length-map refl

-- what an entry means
pub is_what_at : (c : PlainContext) (i : ℕ) (d : PlainEntry) → i < length c → IsWhatAt c i (get_or c i d).what
is_what_at [] i d h = absurd (omega arith)
is_what_at (e ∷ c) zero d h = refl
is_what_at (e ∷ c) (suc i) d h = is_what_at c i d (omega arith)

pub what_at : (es : List Entry) (i : ℕ) (d : Entry) → i < length es → IsWhatAt (plain_entries es) i (plain_what (get_or es (length es - 1 - i) d).what)
what_at es i d h =
    let l = entries_length es in
    let e : i ≡ length (plain_entries es) - 1 - (length es - 1 - i) = omega arith in
    let is : get_or (plain_entries es) i (plain_entry d) ≡ plain_entry (get_or es (length es - 1 - i) d) =
    ap (λ n. get_or (plain_entries es) n (plain_entry d)) e ∙ entry_at es (length es - 1 - i) d (omega arith) in
    subst (λ x. IsWhatAt (plain_entries es) i x.what) is (is_what_at (plain_entries es) i (plain_entry d) (omega arith))

pub arity_is : (c : PlainContext) (i : ℕ) (w : PlainWhat) → IsWhatAt c i w → arity_at c i ≡ arity w
arity_is [] i w h = absurd h
arity_is (e ∷ c) zero w h = ap arity h
arity_is (e ∷ c) (suc i) w h = arity_is c i w h

pub arity_past : (c : PlainContext) (i : ℕ) → length c ≤ i → arity_at c i ≡ None
arity_past [] i h = refl
arity_past (e ∷ c) zero h = absurd (omega arith)
arity_past (e ∷ c) (suc i) h = arity_past c i (omega arith)
