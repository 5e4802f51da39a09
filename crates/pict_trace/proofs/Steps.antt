-- What the readers of records have, over the lists of the code.
use Rattle.std.proofs.Common.{◌≡◌, ℕ, zero, suc, ◌+◌, ◌-◌, arith, List, [], ◌∷◌, ◌++◌, map, refl, sym, ◌∙◌, ap, subst, Result, Ok, Err, IfOk}
use Rattle.std.proofs.lemmas.List.{map-append}
use Rattle.pict_syntax.specs.declared.name.Name.{Name}
use Rattle.pict_syntax.specs.Names.{with_names}
use Rattle.pict_core.specs.declared.value.CoreVal.{CoreVal}
use Rattle.pict_core.specs.Term.{Val, Vals, Record, no_vals, no_labelled}
use Rattle.pict_core.specs.Plain.{plain_val, plain_field, vals_of, labelled_of}
use Rattle.pict_trace.specs.Readable.{labels_of}
use Rattle.pict_trace.specs.Reading.{Reads, ReadsFields, BeginsNoValue}
use Rattle.pict_trace.proofs.Records.{empty_fields}

pub pushed : {A B : Type 0} (f : A → B) (old new : List A) (x : A) → new ≡ old ++ x ∷ [] → map f new ≡ map f old ++ f x ∷ []
pushed f old new x e = ap (map f) e ∙ map-append f old (x ∷ [])

pub none_read : (names : List (List ℕ)) (depth : ℕ) (text rest : List ℕ) (xs : List CoreVal) (ys : List (Name × CoreVal)) → xs ≡ [] → ys ≡ [] → text ≡ 93 ∷ rest
    → ReadsFields names depth text (vals_of (map plain_val xs)) (labelled_of (map plain_field ys)) rest
none_read names depth text rest xs ys e f g =
    subst (λ l. ReadsFields names depth text (vals_of (map plain_val l)) (labelled_of (map plain_field ys)) rest) (sym e)
    (subst (λ l. ReadsFields names depth text no_vals (labelled_of (map plain_field l)) rest) (sym f) (empty_fields names depth text rest g))

pub none_gained : (names : List (List ℕ)) (xs : List CoreVal) (ys : List (Name × CoreVal)) → xs ≡ [] → ys ≡ [] → names ≡ with_names names (labels_of names (Record (vals_of (map plain_val xs)) (labelled_of (map plain_field ys))))
none_gained names xs ys e f = ap (λ l. with_names names (labels_of names (Record (vals_of (map plain_val l)) no_labelled))) (sym e) ∙ ap (λ l. with_names names (labels_of names (Record (vals_of (map plain_val xs)) (labelled_of (map plain_field l))))) (sym f)

-- fields without labels
pub unlabelled_read : (names : List (List ℕ)) (depth : ℕ) (text rest : List ℕ) (vs : Vals) (ys : List (Name × CoreVal)) → ys ≡ [] → ReadsFields names depth text vs no_labelled rest → ReadsFields names depth text vs (labelled_of (map plain_field ys)) rest
unlabelled_read names depth text rest vs ys f x = subst (λ l. ReadsFields names depth text vs (labelled_of (map plain_field l)) rest) (sym f) x

pub on_all : {T E : Type 0} (r : Result T E) (A B C D : T → Type 0) → IfOk r A → IfOk r B → IfOk r C → ((x : T) → A x → B x → C x → D x) → IfOk r D
on_all (Ok x) A B C D a b c f = f x a b c
on_all (Err e) A B C D a b c f = tt

pub on_one : {T E : Type 0} (r : Result T E) (A D : T → Type 0) → IfOk r A → ((x : T) → A x → D x) → IfOk r D
on_one (Ok x) A D a f = f x a
on_one (Err e) A D a f = tt

-- the depth of a value with a bracket is one more than its fields'
pub at_text : (depth d : ℕ) (text inner : List ℕ) → (depth ≡ 0 → ⊥) → d ≡ depth - 1 → text ≡ 91 ∷ inner → BeginsNoValue (d + 1) (91 ∷ inner) → BeginsNoValue depth text
at_text depth d text inner some e f none = subst (λ t. BeginsNoValue depth t) (sym f) (subst (λ n. BeginsNoValue n (91 ∷ inner)) (more depth d some e) none)
  where
    more : (depth d : ℕ) → (depth ≡ 0 → ⊥) → d ≡ depth - 1 → d + 1 ≡ depth
    more zero d some e = absurd (some refl)
    more (suc k) d some e = omega arith

pub reads_text : (names : List (List ℕ)) (depth d : ℕ) (text inner : List ℕ) (v : Val) (rest : List ℕ) → (depth ≡ 0 → ⊥) → d ≡ depth - 1 → text ≡ 91 ∷ inner → Reads names (d + 1) (91 ∷ inner) v rest → Reads names depth text v rest
reads_text names zero d text inner v rest some e f x = absurd (some refl)
reads_text names (suc k) d text inner v rest some e f x = let low = x.low in record { orderly = x.orderly; low = omega (arith, low, e); ends = x.ends; whole = f ∙ x.whole }
