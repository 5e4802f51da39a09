-- Whether a line is one that is read.
use Rattle.std.proofs.Common.{◌≡◌, ◌≢◌, ℕ, ℤ, pos, negsuc, ◌^◌, inl, inr, Bool, true, false, List, [], ◌∷◌, Some, IsTrue, nat_cmp, refl, arith, FitsSigned, rules}
use Rattle.std.specs.Char.{is_ascii_alphabetic}
use Rattle.std.specs.Int.{w64}
use Rattle.std.specs.List.{AllByRecursion}
use Rattle.std.specs.Cmp.Lexicographic.{slice_cmp}
use Rattle.std.specs.declared.cmp.Ordering.{Ordering}
use Rattle.std.specs.declared.cmp.Ordering.TheVariants.{Less, Equal, Greater}
use Rattle.std.proofs.lemmas.Bool.{cases_lt}
use Rattle.pict_syntax.specs.declared.limits.TheConstants.{VALUE_NESTING_LIMIT}
use Rattle.pict_syntax.specs.declared.token.Keyword.{Keyword}
use Rattle.pict_syntax.specs.declared.token.Keyword.TheVariants as keyword
use Rattle.pict_syntax.specs.Names.{text_of}
use Rattle.pict_syntax.specs.Tokens.{IsWord, is_word_byte, keyword_text}
use Rattle.pict_total.proofs.Choices.{find, one_or_none}
use Rattle.pict_core.specs.Term.{Val, Vals, Labelled, Var, Chan, Int, Char, Boolean, Text, PrimitiveVal, Record, no_vals, more_vals, no_labelled, more_labelled}
use Rattle.pict_core.specs.Step.{Label, Quiet, Comm, Print}
use Rattle.pict_trace.specs.Readable.{IsIdentifier, AreBytes, IsOrderly, AreOrderly, LabelsAfter, IsReadable, IsReadableLabel, nesting}
use Rattle.pict_replay.specs.Replayed.{Line}
use Rattle.pict_replay.proofs.Searching.{Decided, both, all_four, less_or_not, most_or_not}

true_or_not : (b : Bool) → Decided (IsTrue b)
true_or_not true = inl (search rules)
true_or_not false = inr (λ h. cc)

all_or_not : {A : Type 0} {P : A → Type 0} → ((x : A) → Decided (P x)) → (xs : List A) → Decided (AllByRecursion P xs)
all_or_not p [] = inl tt
all_or_not p (x ∷ xs) = both (p x) (all_or_not p xs)

word_or_not : (t : List ℕ) → Decided (IsWord t)
word_or_not [] = inr (λ h. h)
word_or_not (b ∷ bs) = both (true_or_not (is_ascii_alphabetic b)) (all_or_not (λ c. true_or_not (is_word_byte c)) bs)

abbrev keywords : List Keyword
keywords = keyword.And ∷ keyword.Def ∷ keyword.Else ∷ keyword.False ∷ keyword.If ∷ keyword.Import ∷ keyword.New ∷ keyword.Rec ∷ keyword.Run ∷ keyword.Then ∷ keyword.True ∷ keyword.TypeDefinition ∷ keyword.Val ∷ keyword.BoolType ∷ keyword.CharType ∷ keyword.IntType ∷ keyword.StringType ∷ keyword.TopType ∷ keyword.TypeKind ∷ []

keyword_back : (k : Keyword) → find keyword_text keywords (keyword_text k) ≡ Some k
keyword_back k = elim k as (λ k. find keyword_text keywords (keyword_text k) ≡ Some k) [ keyword.And ↦ refl | keyword.Def ↦ refl | keyword.Else ↦ refl | keyword.False ↦ refl | keyword.If ↦ refl | keyword.Import ↦ refl | keyword.New ↦ refl | keyword.Rec ↦ refl | keyword.Run ↦ refl | keyword.Then ↦ refl | keyword.True ↦ refl | keyword.TypeDefinition ↦ refl | keyword.Val ↦ refl | keyword.BoolType ↦ refl | keyword.CharType ↦ refl | keyword.IntType ↦ refl | keyword.StringType ↦ refl | keyword.TopType ↦ refl | keyword.TypeKind ↦ refl ]

no_keyword_or_not : (t : List ℕ) → Decided ((k : Keyword) → t ≢ keyword_text k)
no_keyword_or_not t = elim (one_or_none keyword_text keywords keyword_back t) [
  | inl x ↦ inr (λ h. h x.0 x.1)
  | inr none ↦ inl none
]

identifier_or_not : (t : List ℕ) → Decided (IsIdentifier t)
identifier_or_not t = both (word_or_not t) (no_keyword_or_not t)

is_less_or_not : (o : Ordering) → Decided (o ≡ Less)
is_less_or_not Less = inl refl
is_less_or_not Equal = inr (λ e. cc)
is_less_or_not Greater = inr (λ e. cc)

bytes_or_not : (t : List ℕ) → Decided (AreBytes t)
bytes_or_not t = all_or_not (λ b. less_or_not b (2 ^ 8)) t

fits_or_not : (i : ℤ) → Decided (FitsSigned w64 i)
fits_or_not (pos n) = elim (cases_lt n (2 ^ 63)) [ inl l ↦ inl (omega (arith, l)) | inr g ↦ inr (λ h. omega (arith, g, h)) ]
fits_or_not (negsuc n) = elim (cases_lt n (2 ^ 63)) [ inl l ↦ inl (omega (arith, l)) | inr g ↦ inr (λ h. omega (arith, g, h)) ]

module _ (names : List (List ℕ)) where
  mutual
    orderly_or_not : (v : Val) → Decided (IsOrderly names v)
    orderly_or_not (Var x) = inr (λ h. h)
    orderly_or_not (Chan x) = less_or_not x (2 ^ 32)
    orderly_or_not (Int x) = fits_or_not x
    orderly_or_not (Char x) = less_or_not x (2 ^ 8)
    orderly_or_not (Boolean x) = inl tt
    orderly_or_not (Text x) = bytes_or_not x
    orderly_or_not (PrimitiveVal x) = inl tt
    orderly_or_not (Record vs ls) = both (all_orderly_or_not vs) (labels_or_not [] ls)

    all_orderly_or_not : (vs : Vals) → Decided (AreOrderly names vs)
    all_orderly_or_not no_vals = inl tt
    all_orderly_or_not (more_vals v vs) = both (orderly_or_not v) (all_orderly_or_not vs)

    labels_or_not : (before : List ℕ) (ls : Labelled) → Decided (LabelsAfter names before ls)
    labels_or_not before no_labelled = inl tt
    labels_or_not before (more_labelled l v ls) =
        all_four (identifier_or_not (text_of names l)) (is_less_or_not (slice_cmp nat_cmp before (text_of names l))) (orderly_or_not v) (labels_or_not (text_of names l) ls)

  label_or_not : (label : Label) → Decided (IsReadableLabel names label)
  label_or_not Quiet = inr (λ h. h)
  label_or_not (Comm channel v) = both (less_or_not channel (2 ^ 32)) (both (orderly_or_not v) (most_or_not (nesting v) VALUE_NESTING_LIMIT))
  label_or_not (Print bytes) = bytes_or_not bytes

  pub readable_or_not : (line : Line) → Decided (IsReadable names line)
  readable_or_not line = both (less_or_not line.0 (2 ^ 64)) (label_or_not line.1)
