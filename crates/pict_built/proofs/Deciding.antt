-- Bytes are the object of a process, or of none.
use Rattle.std.proofs.Common.{◌≡◌, ◌≢◌, ℕ, zero, suc, ◌<◌, nat_eq, nat_cmp, ◌⊎◌, inl, inr, Bool, true, false, List, [], ◌∷◌, ◌++◌, length, take, drop, Option, Some, None, IsTrue, refl, sym, ◌∙◌, ap, subst, unwrap_or, arith}
use Rattle.std.specs.Char.{is_ascii_alphabetic}
use Rattle.std.specs.List.{list_any}
use Rattle.std.specs.Cmp.Lexicographic.{slice_cmp}
use Rattle.std.specs.declared.cmp.Ordering.{Ordering}
use Rattle.std.specs.declared.cmp.Ordering.TheVariants.{Less, Equal, Greater}
use Rattle.std.proofs.lemmas.Bool.{cases_lt, cases_Bool}
use Rattle.pict_syntax.specs.declared.token.Keyword.{Keyword}
use Rattle.pict_syntax.specs.declared.token.Keyword.TheVariants as keyword
use Rattle.pict_syntax.specs.Tokens.{IsWord, is_word_byte, keyword_text}
use Rattle.pict_total.proofs.Choices.{find, one_or_none, same_text_or_not}
use Rattle.pict_core.specs.Term.{Process}
use Rattle.pict_object.specs.Objects.{header, labels_of, TextsRise}
use Rattle.pict_object.specs.Cores.{IsLabelText}
use Rattle.pict_object.specs.Decoded.{IsNoObject, IsDecoded}
use Rattle.pict_object.specs.Heads.{AreLabelTexts, IsHead, own_labels, UsesAll, UsesLabels}
use Rattle.pict_object.specs.Reading.{text_at, counted_at, whole_at}
use Rattle.pict_object.proofs.TableLemmas.{head_made, front_missing, texts_missing, texts_wrong}
use Rattle.pict_object.proofs.Answering.{behind_head}
use Rattle.pict_object.proofs.Decoded.{decoded, headless, useless}
use Rattle.pict_built.specs.Laws.{AreBytes, BytesAreDecided}
use Rattle.pict_built.proofs.Choices.{Decided, both, all_three, true_or_not, all_or_not}
use Rattle.pict_built.proofs.Labels.{own_numbered}

-- ---- identifiers

word_or_not : (t : List ℕ) → Decided (IsWord t)
word_or_not [] = inr (λ h. h)
word_or_not (b ∷ bs) = both (true_or_not (is_ascii_alphabetic b)) (all_or_not (λ c. true_or_not (is_word_byte c)) bs)

abbrev keywords : List Keyword
keywords = keyword.And ∷ keyword.Def ∷ keyword.Else ∷ keyword.False ∷ keyword.If ∷ keyword.Import ∷ keyword.New ∷ keyword.Rec ∷ keyword.Run ∷ keyword.Then ∷ keyword.True ∷ keyword.TypeDefinition ∷ keyword.Val ∷ keyword.BoolType ∷ keyword.CharType ∷ keyword.IntType ∷ keyword.StringType ∷ keyword.TopType ∷ keyword.TypeKind ∷ []

keyword_back : (k : Keyword) → find keyword_text keywords (keyword_text k) ≡ Some k
keyword_back k = elim k as (λ k. find keyword_text keywords (keyword_text k) ≡ Some k) [ keyword.And ↦ refl | keyword.Def ↦ refl | keyword.Else ↦ refl | keyword.False ↦ refl | keyword.If ↦ refl | keyword.Import ↦ refl | keyword.New ↦ refl | keyword.Rec ↦ refl | keyword.Run ↦ refl | keyword.Then ↦ refl | keyword.True ↦ refl | keyword.TypeDefinition ↦ refl | keyword.Val ↦ refl | keyword.BoolType ↦ refl | keyword.CharType ↦ refl | keyword.IntType ↦ refl | keyword.StringType ↦ refl | keyword.TopType ↦ refl | keyword.TypeKind ↦ refl ]

no_keyword_or_not : (t : List ℕ) → Decided ((k : Keyword) → t ≢ keyword_text k)
no_keyword_or_not t = elim (one_or_none keyword_text keywords keyword_back t) [
  | inl x ↦ inr (λ h. h x.0 x.1)
  | inr none ↦ inl none
]

label_text_or_not : (t : List ℕ) → Decided (IsLabelText t)
label_text_or_not t = let same : Decided (t ≡ t) = inl refl in all_three same (word_or_not t) (no_keyword_or_not t)

less_or_not : (o : Ordering) → Decided (o ≡ Less)
less_or_not Less = inl refl
less_or_not Equal = inr (λ e. cc)
less_or_not Greater = inr (λ e. cc)

labels_or_not : (before : List ℕ) (texts : List (List ℕ)) → Decided (AreLabelTexts before texts)
labels_or_not before [] = inl tt
labels_or_not before (text ∷ texts) = all_three (label_text_or_not text) (less_or_not (slice_cmp nat_cmp before text)) (labels_or_not text texts)

rising : (before : List ℕ) (texts : List (List ℕ)) → AreLabelTexts before texts → TextsRise before texts
rising before [] h = tt
rising before (text ∷ texts) h = (h.1, rising text texts h.2)

-- ---- the head

header_or_not : (bytes : List ℕ) → ((rest : List ℕ) × (bytes ≡ header ++ rest)) ⊎ ((rest : List ℕ) → bytes ≢ header ++ rest)
header_or_not bytes = elim (same_text_or_not (take 5 bytes) header) [
  | inl e ↦ inl (drop 5 bytes, sym (front_back 5 bytes) ∙ ap (λ z. z ++ drop 5 bytes) e)
  | inr other ↦ inr (λ rest e. other (ap (take 5) e))
]
  where
    front_back : (n : ℕ) (xs : List ℕ) → take n xs ++ drop n xs ≡ xs
    front_back zero xs = refl
    front_back (suc n) [] = refl
    front_back (suc n) (x ∷ xs) = ap (λ z. x ∷ z) (front_back n xs)

-- bytes begin with the head of an object, or with none
record HasHead (bytes : List ℕ) : Type 0 where
  pub table : List (List ℕ)
  pub rest : List ℕ
  pub head : IsHead bytes table rest

abbrev NoHead : List ℕ → Type 0
NoHead bytes = (table : List (List ℕ)) (rest : List ℕ) → IsHead bytes table rest → ⊥

head_by : (bytes labels : List ℕ) (read : Option (List (List ℕ) × List ℕ)) → AreBytes bytes → bytes ≡ header ++ labels → counted_at text_at labels ≡ read → HasHead bytes ⊎ NoHead bytes
head_by bytes labels None fits e read = inr (texts_missing bytes labels e read)
head_by bytes labels (Some (texts, rest)) fits e read = elim (labels_or_not [] texts) [
  | inl are ↦ inl (record { table = texts; rest = rest; head = head_made bytes labels rest texts fits e read are })
  | inr wrong ↦ inr (texts_wrong bytes labels rest texts e read wrong)
]

head_or_not : (bytes : List ℕ) → AreBytes bytes → HasHead bytes ⊎ NoHead bytes
head_or_not bytes fits = elim (header_or_not bytes) [
  | inl h ↦ head_by bytes h.0 (counted_at text_at h.0) fits h.1 refl
  | inr none ↦ inr (front_missing bytes none)
]

-- ---- the process

uses_all_or_not : (many : ℕ) (labels : List ℕ) → Decided (UsesAll many labels)
uses_all_or_not zero labels = inl (λ k h. absurd (omega (arith, h)))
uses_all_or_not (suc many) labels = elim (uses_all_or_not many labels) [
  | inl all ↦ elim (cases_Bool (list_any (nat_eq many) labels)) [
    | inl last ↦ inl (λ k h. elim (cases_lt k many) [
      | inl less ↦ all k less
      | inr more ↦ let e : many ≡ k = omega (arith, more, h) in subst (λ j. IsTrue (list_any (nat_eq j) labels)) e last
    ])
    | inr none ↦ inr (λ h. let last = h many (omega arith) in let e : true ≡ false = sym last ∙ none in cc)
  ]
  | inr never ↦ inr (λ h. never (λ k less. h k (omega (arith, less))))
]

some_one : (p q : Process) → Some p ≡ Some q → p ≡ q
some_one p q e = ap (λ (o : Option Process). unwrap_or o p) e

labels_used : (many : ℕ) (rest : List ℕ) (read : Option Process) → whole_at (own_labels many) rest ≡ read → Decided (UsesLabels many rest)
labels_used many rest None read = inr (λ u. let e : None ≡ Some u.process = sym read ∙ u.is in cc)
labels_used many rest (Some p) read = elim (uses_all_or_not many (labels_of p)) [
  | inl all ↦ inl (record { process = p; is = read; all = all })
  | inr never ↦ inr (λ u. never (subst (λ q. UsesAll many (labels_of q)) (some_one u.process p (sym u.is ∙ read)) u.all))
]

abbrev Answer : List ℕ → Type 0
Answer bytes = ((names : List (List ℕ)) × (p : Process) × IsDecoded [] names bytes p) ⊎ IsNoObject bytes

behind : (bytes : List ℕ) → AreBytes bytes → HasHead bytes → Answer bytes
behind bytes fits h = elim (labels_used (length h.table) h.rest (whole_at (own_labels (length h.table)) h.rest) refl) [
  | inl u ↦
      let numbered = own_numbered h.table (rising [] h.table h.head.labels) in
      inl (h.table, u.process, decoded [] h.table h.table (own_labels (length h.table)) bytes h.rest (behind_head bytes h.rest h.table fits h.head) h.head u numbered u.process u.is)
  | inr never ↦ inr (useless bytes h.table h.rest h.head never)
]

pub decided : BytesAreDecided
decided bytes fits = elim (head_or_not bytes fits) [
  | inl h ↦ behind bytes fits h
  | inr none ↦ inr (headless bytes none)
]
