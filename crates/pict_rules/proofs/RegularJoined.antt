-- What patterns side by side add leaves the environment regular.
use Rattle.std.proofs.Common.{◌≡◌, ℕ, ◌+◌, List, [], ◌∷◌, ◌++◌, length, refl, ◌∙◌, add-zero, add-suc, ap, ap₂, arith}
use Rattle.pict_types.specs.Kinds.{Kind, kinds, kind_at}
use Rattle.pict_types.specs.Renaming.{moved}
use Rattle.pict_types.specs.Entries.{PlainContext, variables, EntriesAreWellFormed}
use Rattle.pict_rules.specs.Environments.{Environment, Extension, KnownType, KnownValue, opened, entries_of, rename_values, moved_binders, joined_extensions}
use Rattle.pict_rules.specs.Regular.{IsRegular, ValuesAreWellFormed, Adds}
use Rattle.pict_types.proofs.Formed.{KeepsKinds, same_kind, keeps_beyond, formed_renamed, formed_bound_renamed}
use Rattle.pict_types.proofs.Renamed.{rename_same}

abbrev pub kinds_inside : List KnownType → PlainContext → List Kind
kinds_inside bs c = kinds (variables (entries_of bs ++ c))

-- past the variables that are added
passes : (xs : List KnownType) (c : PlainContext) (i : ℕ) → kind_at (kinds_inside xs c) (i + length xs) ≡ kind_at (kinds (variables c)) i
passes [] c i = rw add-zero refl
passes (x ∷ xs) c i = rw add-suc (passes xs c i)

pub keeps_past : (xs : List KnownType) (c : PlainContext) → KeepsKinds (moved (length xs) 0) (kinds (variables c)) (kinds_inside xs c)
keeps_past xs c = record { each = λ i k h. passes xs c i ∙ h }

keeps_beside : (xs ys : List KnownType) (c : PlainContext) → KeepsKinds (moved (length xs) (length ys)) (kinds_inside ys c) (kinds_inside (moved_binders (length xs) ys ++ xs) c)
keeps_beside xs [] c = keeps_past xs c
keeps_beside xs (y ∷ ys) c = keeps_beyond (same_kind (moved (length xs) (length ys)) y.bound) (keeps_beside xs ys c)

entries_joined : (ns : List (List ℕ)) (xs ys : List KnownType) (c : PlainContext) → EntriesAreWellFormed ns (entries_of xs ++ c) → EntriesAreWellFormed ns (entries_of ys ++ c) → EntriesAreWellFormed ns (entries_of (moved_binders (length xs) ys ++ xs) ++ c)
entries_joined ns xs [] c h k = h
entries_joined ns xs (y ∷ ys) c h k = (formed_bound_renamed ns y.bound (keeps_beside xs ys c) k.0, entries_joined ns xs ys c h k.1)

pub values_renamed : {f : ℕ → ℕ} {ks js : List Kind} (ns : List (List ℕ)) (vs : List KnownValue) → KeepsKinds f ks js → ValuesAreWellFormed ns ks vs → ValuesAreWellFormed ns js (rename_values f vs)
values_renamed ns [] h w = tt
values_renamed ns (v ∷ vs) h w = (formed_renamed ns v.has h w.0, values_renamed ns vs h w.1)

-- past no variable, nothing moves
pub values_unmoved : (vs : List KnownValue) → rename_values (moved 0 0) vs ≡ vs
values_unmoved [] = refl
values_unmoved (v ∷ vs) = ap₂ (λ x xs. x ∷ xs) (ap (λ t. record { name = v.name; has = t }) (rename_same v.has (record { each = λ j. omega arith }))) (values_unmoved vs)

pub values_first : (ns : List (List ℕ)) (ks : List Kind) (vs ws : List KnownValue) → ValuesAreWellFormed ns ks (vs ++ ws) → ValuesAreWellFormed ns ks vs
values_first ns ks [] ws h = tt
values_first ns ks (v ∷ vs) ws h = (h.0, values_first ns ks vs ws h.1)

pub values_both : (ns : List (List ℕ)) (ks : List Kind) (vs ws : List KnownValue) → ValuesAreWellFormed ns ks vs → ValuesAreWellFormed ns ks ws → ValuesAreWellFormed ns ks (vs ++ ws)
values_both ns ks [] ws h k = k
values_both ns ks (v ∷ vs) ws h k = (h.0, values_both ns ks vs ws h.1 k)

-- past y's variables, from x's to those of both
keeps_inside : (xs ys : List KnownType) (c : PlainContext) → KeepsKinds (moved (length ys) 0) (kinds_inside xs c) (kinds_inside (moved_binders (length xs) ys ++ xs) c)
keeps_inside xs ys c = record { each = λ i k h. go ys i ∙ h }
  where
    go : (zs : List KnownType) (i : ℕ) → kind_at (kinds_inside (moved_binders (length xs) zs ++ xs) c) (i + length zs) ≡ kind_at (kinds_inside xs c) i
    go [] i = rw add-zero refl
    go (z ∷ zs) i = rw add-suc (go zs i)

pub joined_adds : (e : Environment) (x y : Extension) → IsRegular e → Adds e x → Adds e y → Adds e (joined_extensions x y)
joined_adds e x y r h k =
    let ns = e.names in
    let all = kinds_inside (moved_binders (opened x) y.binders ++ x.binders) e.context in
    record {
      entries = entries_joined ns x.binders y.binders e.context h.entries k.entries;
      known = values_both ns all (joined_extensions x y).values (rename_values (moved (opened (joined_extensions x y)) 0) e.values)
          (values_both ns all (rename_values (moved (opened x) (opened y)) y.values) (rename_values (moved (opened y) 0) x.values)
          (values_renamed ns y.values (keeps_beside x.binders y.binders e.context) (values_first ns (kinds_inside y.binders e.context) y.values _ k.known))
          (values_renamed ns x.values (keeps_inside x.binders y.binders e.context) (values_first ns (kinds_inside x.binders e.context) x.values _ h.known)))
          (values_renamed ns e.values (keeps_past (moved_binders (opened x) y.binders ++ x.binders) e.context) r.known);
    }
