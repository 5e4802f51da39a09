-- The innermost entries, which are type variables, are taken out one after the other.
use Rattle.std.proofs.Common.{◌≡◌, ◌<◌, ℕ, List, [], ◌∷◌, ◌++◌, length, map, reverse, sym, ◌∙◌, ap, subst, arith}
use Rattle.std.proofs.lemmas.List.{reverse-reverse}
use Rattle.pict_types.specs.declared.context.Entry.{Entry}
use Rattle.pict_types.specs.declared.context.What.{What}
use Rattle.pict_types.specs.declared.context.What.TheVariants.{Variable as Variable_, Definition as Definition_}
use Rattle.pict_types.specs.declared.types.Bound.{Bound}
use Rattle.pict_types.specs.declared.types.Arg.{Arg}
use Rattle.pict_types.specs.Entries.{PlainEntry, PlainContext, Variable}
use Rattle.pict_types.specs.PlainEntries.{plain_entry, plain_what}
use Rattle.pict_rules.specs.Environments.{KnownType, entries_of}
use Rattle.pict_infer.specs.declared.known.Binder.{Binder}
use Rattle.pict_infer.specs.Knowing.{known_type, known_types}
use Rattle.pict_infer.specs.Places.{IsUnderVariables}
use Rattle.pict_infer.proofs.Growing.{one_opened}
use Rattle.pict_syntax.proofs.ListLemmas.{map_reverse}

under_next : (left : ℕ) (e : PlainEntry) (c : PlainContext) (own : List KnownType) (outer : PlainContext) → e ∷ c ≡ entries_of own ++ outer → left ≡ length outer → left < length (e ∷ c) → IsUnderVariables left c
under_next left e c [] outer h n l = absurd (omega (arith, n, l, ap length h))
under_next left e c (b ∷ bs) outer h n l = record { own = bs; outer = outer; all = cc; count = n }

pub fewer_under : (left : ℕ) (e : PlainEntry) (c d : PlainContext) → IsUnderVariables left d → d ≡ e ∷ c → left < length d → IsUnderVariables left c
fewer_under left e c d h q l = under_next left e c h.own h.outer (sym q ∙ h.all) h.count (subst (λ z. left < length z) q l)

not_definition : (b : KnownType) (a : Arg) (w : What) (n : ℕ) → w ≡ Definition_ a → (let x : PlainEntry = record { name = n; what = plain_what w } in x) ≡ record { name = b.name; what = Variable b.bound } → ⊥
not_definition b a w n h q =
    let v : plain_what w ≡ Variable b.bound = ap (λ (x : PlainEntry). x.what) q in
    let k : plain_what (Definition_ a) ≡ Variable b.bound = sym (ap plain_what h) ∙ v in cc

first_is_variable : (left : ℕ) (e : Entry) (a : Arg) (c : PlainContext) (own : List KnownType) (outer : PlainContext) → plain_entry e ∷ c ≡ entries_of own ++ outer → left ≡ length outer → left < length (plain_entry e ∷ c) → e.what ≡ Definition_ a → ⊥
first_is_variable left e a c [] outer h n l k = absurd (omega (arith, n, l, ap length h))
first_is_variable left e a c (b ∷ bs) outer h n l k = not_definition b a e.what e.name.0 k (first_same (plain_entry e) (record { name = b.name; what = Variable b.bound }) c (entries_of bs ++ outer) h)
  where
    first_same : (x y : PlainEntry) (xs ys : PlainContext) → x ∷ xs ≡ y ∷ ys → x ≡ y
    first_same x y xs ys q = cc

pub no_definition : (left : ℕ) (e : Entry) (a : Arg) (c d : PlainContext) → IsUnderVariables left d → d ≡ plain_entry e ∷ c → left < length d → e.what ≡ Definition_ a → ⊥
no_definition left e a c d h q l k = first_is_variable left e a c h.own h.outer (sym q ∙ h.all) h.count (subst (λ z. left < length z) q l) k

-- one more was taken
pub one_taken : (whole c d : PlainContext) (own : List Binder) (e : Entry) (b : Bound) → whole ≡ entries_of (map known_type own) ++ d → d ≡ plain_entry e ∷ c → e.what ≡ Variable_ b → whole ≡ entries_of (map known_type (own ++ record { name = e.name; bound = b } ∷ [])) ++ c
one_taken whole c d own e b h q k =
    h ∙ ap (λ z. entries_of (map known_type own) ++ z) (q ∙ ap (λ (w : What). let x : PlainEntry = record { name = e.name.0; what = plain_what w } in x ∷ c) k)
    ∙ sym (one_opened own (record { name = e.name; bound = b }) c)

-- they stand the other way round
pub turned : (own : List Binder) → known_types (reverse own) ≡ map known_type own
turned own = sym (map_reverse known_type (reverse own)) ∙ ap (map known_type) (reverse-reverse own)
