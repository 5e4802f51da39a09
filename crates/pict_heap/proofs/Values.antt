-- The values of words and records, as a heap grows.
use Rattle.std.proofs.Common.{◌≡◌, ℕ, zero, suc, ◌+◌, ◌<◌, ◌≤◌, List, [], ◌∷◌, ◌++◌, length, map, get_or, Some, refl, sym, ◌∙◌, ap, subst, arith}
use Rattle.std.specs.List.{fold, AllByRecursion, slice_get}
use Rattle.std.specs.Option.{option_map}
use Rattle.std.proofs.lemmas.List.{get_or_append_left, get_or_at, length_push}
use Rattle.pict_core.specs.Term as term
use Rattle.pict_core.specs.Term.{Val, Vals, Labelled}
use Rattle.pict_core.specs.Plain.{vals_of, labelled_of}
use Rattle.pict_syntax.specs.declared.name.Name.{Name}
use Rattle.pict_heap.specs.Fields.{nth, nth_labelled, count}
use Rattle.pict_heap.specs.HeapState.{RecordState, word_value, field_value, record_value, more_values, heap_values, IsWordOf}
use Rattle.pict_heap.specs.Layout.{IsRecordOf, AreGrounded}
use Rattle.pict_heap.specs.declared.word.Word.{Word}
use Rattle.pict_heap.specs.declared.word.Word.TheVariants as word

abbrev pub nothing : Val
nothing = term.Record term.no_vals term.no_labelled

-- two heaps agree on the first texts and the first records
pub record Agree (texts texts' : List (List ℕ)) (values values' : List Val) (text_count record_count : ℕ) : Type 0 where
  pub same_texts : (n : ℕ) → n < text_count → get_or texts' n [] ≡ get_or texts n []
  pub same_values : (n : ℕ) → n < record_count → get_or values' n nothing ≡ get_or values n nothing

pub word_value-same : (texts texts' : List (List ℕ)) (values values' : List Val) (text_count record_count : ℕ) → Agree texts texts' values values' text_count record_count
    → (w : Word) → IsWordOf text_count record_count w → word_value texts' values' w ≡ word_value texts values w
word_value-same texts texts' values values' t r agree (word.Int n) is = refl
word_value-same texts texts' values values' t r agree (word.Char b) is = refl
word_value-same texts texts' values values' t r agree (word.Bool b) is = refl
word_value-same texts texts' values values' t r agree (word.Chan n) is = refl
word_value-same texts texts' values values' t r agree (word.Prim p) is = refl
word_value-same texts texts' values values' t r agree (word.Text n) is = ap term.Text (agree.same_texts n is)
word_value-same texts texts' values values' t r agree (word.Fields n) is = agree.same_values n is

pub map-same : {A B : Type 0} (P : A → Type 0) (f g : A → B) → ((x : A) → P x → g x ≡ f x) → (xs : List A) → AllByRecursion P xs → map g xs ≡ map f xs
map-same P f g same [] all = refl
map-same P f g same (x ∷ xs) all = ap (λ y. y ∷ map g xs) (same x all.0) ∙ ap (λ ys. f x ∷ ys) (map-same P f g same xs all.1)

pub record_value-same : (texts texts' : List (List ℕ)) (values values' : List Val) (text_count record_count : ℕ) → Agree texts texts' values values' text_count record_count
    → (r : RecordState) → IsRecordOf text_count record_count r → record_value texts' values' r ≡ record_value texts values r
record_value-same texts texts' values values' t n agree r is =
    let positional = map-same (IsWordOf t n) (word_value texts values) (word_value texts' values')
    (word_value-same texts texts' values values' t n agree) r.positional is.positional in
    let labelled = map-same (λ field. IsWordOf t n field.1) (field_value texts values) (field_value texts' values')
    (λ field is_word. ap (λ v. (field.0, v)) (word_value-same texts texts' values values' t n agree field.1 is_word)) r.labelled is.labelled in
    ap (λ vs. term.Record (vals_of vs) (labelled_of (map (field_value texts' values') r.labelled))) positional
    ∙ ap (λ ls. term.Record (vals_of (map (word_value texts values) r.positional)) (labelled_of ls)) labelled

pub length-fold : (texts : List (List ℕ)) (rs : List RecordState) (values : List Val) → length (fold (more_values texts) values rs) ≡ length values + length rs
length-fold texts [] values = omega arith
length-fold texts (r ∷ rs) values =
    omega (arith, length-fold texts rs (more_values texts values r), length_push values (record_value texts values r))

-- later records change no value
pub fold_extends : (texts : List (List ℕ)) (rs : List RecordState) (values : List Val) (n : ℕ) → n < length values
    → get_or (fold (more_values texts) values rs) n nothing ≡ get_or values n nothing
fold_extends texts [] values n inside = refl
fold_extends texts (r ∷ rs) values n inside =
    fold_extends texts rs (more_values texts values r) n (omega (arith, inside, length_push values (record_value texts values r)))
    ∙ get_or_append_left values (record_value texts values r ∷ []) nothing n inside

-- the value of each record, by the values of all
pub fold_at : (texts : List (List ℕ)) (text_count : ℕ) (rs : List RecordState) (values : List Val) → AreGrounded text_count (length values) rs
    → (i : ℕ) (r : RecordState) → slice_get rs i ≡ Some r
    → get_or (fold (more_values texts) values rs) (length values + i) nothing ≡ record_value texts (fold (more_values texts) values rs) r
fold_at texts t [] values grounded i r found = cc
fold_at texts t (r ∷ rs) values grounded zero r' found =
    let same : r ≡ r' = cc in
    let place : length values + 0 ≡ length values = omega arith in
    let all : List Val = fold (more_values texts) (more_values texts values r) rs in
    let agree : Agree texts texts values all t (length values) = record {
      same_texts = λ n inside. refl;
      same_values = λ n inside. fold_extends texts (r ∷ rs) values n inside;
    } in
    ap (λ n. get_or all n nothing) place
    ∙ fold_extends texts rs (more_values texts values r) (length values) (omega (arith, length_push values (record_value texts values r)))
    ∙ get_or_at values (record_value texts values r) [] nothing (length values) refl
    ∙ sym (record_value-same texts texts values all t (length values) agree r grounded.0)
    ∙ ap (record_value texts all) same
fold_at texts t (r ∷ rs) values grounded (suc i) r' found =
    let longer : length (more_values texts values r) ≡ length values + 1 = length_push values (record_value texts values r) in
    let place : length values + suc i ≡ length (more_values texts values r) + i = omega (arith, longer) in
    let rest : AreGrounded t (length (more_values texts values r)) rs = subst (λ n. AreGrounded t n rs) (sym longer) grounded.1 in
    ap (λ n. get_or (fold (more_values texts) (more_values texts values r) rs) n nothing) place
    ∙ fold_at texts t rs (more_values texts values r) rest i r' found

-- more texts change no value of a record
pub fold_texts : (texts texts' : List (List ℕ)) (text_count : ℕ) → ((n : ℕ) → n < text_count → get_or texts' n [] ≡ get_or texts n [])
    → (rs : List RecordState) (values : List Val) → AreGrounded text_count (length values) rs → fold (more_values texts') values rs ≡ fold (more_values texts) values rs
fold_texts texts texts' t same [] values grounded = refl
fold_texts texts texts' t same (r ∷ rs) values grounded =
    let agree : Agree texts texts' values values t (length values) = record { same_texts = same; same_values = λ n inside. refl } in
    let longer : length (more_values texts values r) ≡ length values + 1 = length_push values (record_value texts values r) in
    let rest : AreGrounded t (length (more_values texts values r)) rs = subst (λ n. AreGrounded t n rs) (sym longer) grounded.1 in
    ap (λ v. fold (more_values texts') (values ++ v ∷ []) rs) (record_value-same texts texts' values values t (length values) agree r grounded.0)
    ∙ fold_texts texts texts' t same rs (more_values texts values r) rest

pub fold-append : (texts : List (List ℕ)) (values : List Val) (rs more : List RecordState)
    → fold (more_values texts) values (rs ++ more) ≡ fold (more_values texts) (fold (more_values texts) values rs) more
fold-append texts values [] more = refl
fold-append texts values (r ∷ rs) more = fold-append texts (more_values texts values r) rs more

pub values_pushed : (texts : List (List ℕ)) (rs : List RecordState) (r : RecordState) → heap_values texts (rs ++ r ∷ []) ≡ heap_values texts rs ++ record_value texts (heap_values texts rs) r ∷ []
values_pushed texts rs r = fold-append texts [] rs (r ∷ [])

pub length-values_of : (texts : List (List ℕ)) (rs : List RecordState) → length (heap_values texts rs) ≡ length rs
length-values_of texts rs = length-fold texts rs [] ∙ (let plain : 0 + length rs ≡ length rs = omega arith in plain)

-- one record more
pub grounded_pushed : (t n : ℕ) (rs : List RecordState) (r : RecordState) → AreGrounded t n rs → IsRecordOf t (n + length rs) r → AreGrounded t n (rs ++ r ∷ [])
grounded_pushed t n [] r grounded is = (let here : n + 0 ≡ n = omega arith in subst (λ m. IsRecordOf t m r) here is, tt)
grounded_pushed t n (x ∷ rs) r grounded is =
    let place : n + length (x ∷ rs) ≡ n + 1 + length rs = omega arith in
    (grounded.0, grounded_pushed t (n + 1) rs r grounded.1 (subst (λ m. IsRecordOf t m r) place is))

-- more texts
pub word_of_more : (t t' n n' : ℕ) → t ≤ t' → n ≤ n' → (w : Word) → IsWordOf t n w → IsWordOf t' n' w
word_of_more t t' n n' more more' (word.Int i) is = tt
word_of_more t t' n n' more more' (word.Char b) is = tt
word_of_more t t' n n' more more' (word.Bool b) is = tt
word_of_more t t' n n' more more' (word.Chan c) is = tt
word_of_more t t' n n' more more' (word.Prim p) is = tt
word_of_more t t' n n' more more' (word.Text k) is = omega (arith, is, more)
word_of_more t t' n n' more more' (word.Fields k) is = omega (arith, is, more')

pub all_more : {A : Type 0} (P Q : A → Type 0) → ((x : A) → P x → Q x) → (xs : List A) → AllByRecursion P xs → AllByRecursion Q xs
all_more P Q more [] all = tt
all_more P Q more (x ∷ xs) all = (more x all.0, all_more P Q more xs all.1)

pub grounded_more : (t t' n : ℕ) (rs : List RecordState) → t ≤ t' → AreGrounded t n rs → AreGrounded t' n rs
grounded_more t t' n [] more grounded = tt
grounded_more t t' n (r ∷ rs) more grounded = (
  record {
    positional = all_more (IsWordOf t n) (IsWordOf t' n) (word_of_more t t' n n more (omega arith)) r.positional grounded.0.positional;
    labelled = all_more (λ f. IsWordOf t n f.1) (λ f. IsWordOf t' n f.1) (λ f. word_of_more t t' n n more (omega arith) f.1) r.labelled grounded.0.labelled;
  },
  grounded_more t t' (n + 1) rs more grounded.1,
)

pub grounded_at : (t n : ℕ) (rs : List RecordState) (i : ℕ) (r : RecordState) → AreGrounded t n rs → slice_get rs i ≡ Some r → IsRecordOf t (n + i) r
grounded_at t n [] i r grounded found = cc
grounded_at t n (x ∷ rs) zero r grounded found =
    let same : x ≡ r = cc in
    let place : n ≡ n + 0 = omega arith in
    subst (λ m. IsRecordOf t m r) place (subst (IsRecordOf t n) same grounded.0)
grounded_at t n (x ∷ rs) (suc i) r grounded found =
    let place : n + 1 + i ≡ n + suc i = omega arith in
    subst (λ m. IsRecordOf t m r) place (grounded_at t (n + 1) rs i r grounded.1 found)

-- the fields of a record's value
pub nth-vals_of : (vs : List Val) (i : ℕ) → nth (vals_of vs) i ≡ slice_get vs i
nth-vals_of [] i = refl
nth-vals_of (v ∷ vs) zero = refl
nth-vals_of (v ∷ vs) (suc i) = nth-vals_of vs i

pub count-vals_of : (vs : List Val) → count (vals_of vs) ≡ length vs
count-vals_of [] = refl
count-vals_of (v ∷ vs) = ap suc (count-vals_of vs)

pub nth-labelled_of : (ls : List (Name × Val)) (i : ℕ) → nth_labelled (labelled_of ls) i ≡ option_map (λ f. (f.0.0, f.1)) (slice_get ls i)
nth-labelled_of [] i = refl
nth-labelled_of (l ∷ ls) zero = refl
nth-labelled_of (l ∷ ls) (suc i) = nth-labelled_of ls i
