-- Words of operands, made one after another.
use Rattle.std.proofs.Common.{ℕ, zero, suc, ◌+◌, ◌<◌, ◌≤◌, ◌≡◌, List, [], ◌∷◌, ◌++◌, length, map, take, get_or, refl, sym, ap, ◌∙◌, subst, arith, append_assoc, append-nil, add-one}
use Rattle.std.proofs.Math.Seq.{take-suc}
use Rattle.std.proofs.Math.ListN.{drop_of_length-le}
use Rattle.std.proofs.lemmas.List.{map-append, take-append-drop}
use Rattle.std.proofs.lemmas.List.Sums.{sum_by-cons, sum_by_more, sum_by_more_le}
use Rattle.std.specs.List.{AllByRecursion, sum_by}
use Rattle.std.specs.Vec.{vec_capacity}
use Rattle.pict_syntax.specs.declared.name.Name.{Name}
use Rattle.pict_core.specs.declared.value.CoreVal.{CoreVal}
use Rattle.pict_core.specs.Term.{Val, Chan}
use Rattle.pict_core.specs.Closed.{IsOver, AreOver, LabelledOver}
use Rattle.pict_core.specs.Plain.{plain_val, plain_field, vals_of, labelled_of}
use Rattle.pict_core.specs.Substitution.{Replacement, replace_values, replace_labelled}
use Rattle.pict_code.proofs.Agreeing.{agree_val}
use Rattle.pict_desk.specs.Known.{pair_at, known, operand_value}
use Rattle.pict_heap.specs.HeapState.{HeapState, value_of, IsWord, KeepsWords}
use Rattle.pict_heap.specs.Packed.{packed, FitsWord}
use Rattle.pict_heap.specs.declared.word.Word.{Word}
use Rattle.pict_prim.specs.declared.act.Need.{Need}
use Rattle.pict_desk.specs.declared.pending.Pending.{Pending}
use Rattle.pict_desk.specs.Needs.{both_needs, need_of, needs_of, needs_of_labelled, IsMade, KeepsPending, PilesWords, PilesLabelled}
use Rattle.pict_desk.specs.Pairs.{ArePairs}
use Rattle.pict_desk.proofs.Pairs.{value_packed}

-- a field with what its word stands for, or with the value of its operand
abbrev pub valued : HeapState → Name × Word → Name × Val
valued h f = (f.0, value_of h f.1)

abbrev pub operand_field : (ℕ → Val) → Name × CoreVal → Name × Val
operand_field value f = (f.0, operand_value value (plain_val f.1))

-- ---- words stay

pub keeps_all : (h : HeapState) → KeepsWords h h
keeps_all h = record { words = λ w is. is; values = λ w is. refl }

pub keeps_more : (a b c : HeapState) → KeepsWords a b → KeepsWords b c → KeepsWords a c
keeps_more a b c v w = record { words = λ x is. w.words x (v.words x is); values = λ x is. w.values x (v.words x is) ∙ v.values x is }

module _ (old new : HeapState) (keeps : KeepsWords old new) where
  pub pairs_keep : (values : List (ℕ × ℕ)) → ArePairs old values → ArePairs new values
  pairs_keep values pairs level = let p = pairs level in record { word = p.word; is = keeps.words p.word p.is; fits = p.fits; packs = p.packs }

  pub known_keeps : (values : List (ℕ × ℕ)) → ArePairs old values → (level : ℕ) → known new values level ≡ known old values level
  known_keeps values pairs level =
      let p = pairs level in
      value_packed new p.word (pair_at values level) p.fits p.packs ∙ keeps.values p.word p.is ∙ sym (value_packed old p.word (pair_at values level) p.fits p.packs)

  pub operand_keeps : (values : List (ℕ × ℕ)) → ArePairs old values → (v : Val) → operand_value (known new values) v ≡ operand_value (known old values) v
  operand_keeps values pairs v =
      agree_val (record { variable = known new values; channel = Chan }) (record { variable = known old values; channel = Chan }) (λ _. refl) v (λ level h. known_keeps values pairs level)

  pub all_keep : (ws : List Word) → AllByRecursion (IsWord old) ws → AllByRecursion (IsWord new) ws
  all_keep [] are = tt
  all_keep (w ∷ ws) are = (keeps.words w are.0, all_keep ws are.1)

  pub values_keep : (ws : List Word) → AllByRecursion (IsWord old) ws → map (value_of new) ws ≡ map (value_of old) ws
  values_keep [] are = refl
  values_keep (w ∷ ws) are = cc (keeps.values w are.0, values_keep ws are.1)

  labelled_keep : (fs : List (Name × Word)) → AllByRecursion (λ f. IsWord old f.1) fs → AllByRecursion (λ f. IsWord new f.1) fs
  labelled_keep [] are = tt
  labelled_keep (f ∷ fs) are = (keeps.words f.1 are.0, labelled_keep fs are.1)

  fields_keep : (fs : List (Name × Word)) → AllByRecursion (λ f. IsWord old f.1) fs → map (valued new) fs ≡ map (valued old) fs
  fields_keep [] are = refl
  fields_keep (f ∷ fs) are = cc (keeps.values f.1 are.0, fields_keep fs are.1)

pub all_append : {A : Type 0} (P : A → Type 0) (xs ys : List A) → AllByRecursion P xs → AllByRecursion P ys → AllByRecursion P (xs ++ ys)
all_append P [] ys a b = b
all_append P (x ∷ xs) ys a b = (a.0, all_append P xs ys a.1 b)

pub all_back : {A : Type 0} (P : A → Type 0) (xs ys : List A) → AllByRecursion P (xs ++ ys) → AllByRecursion P ys
all_back P [] ys a = a
all_back P (x ∷ xs) ys a = all_back P xs ys a.1

-- ---- words that are there already

pub simple_made : (h : HeapState) (w : Word) (v : Val) → IsWord h w → value_of h w ≡ v → IsMade h h w v
simple_made h w v is value = record { word = is; value = value; keeps = keeps_all h }

-- the word of a level's pair
pub level_made : (h : HeapState) (values : List (ℕ × ℕ)) (level : ℕ) (w : Word) → ArePairs h values → ((x : Word) → FitsWord x → packed x ≡ pair_at values level → w ≡ x) → IsMade h h w (known h values level)
level_made h values level w pairs back =
    let p = pairs level in
    let same : w ≡ p.word = back p.word p.fits p.packs in
    simple_made h w (known h values level) (subst (IsWord h) (sym same) p.is) (ap (value_of h) same ∙ sym (value_packed h p.word (pair_at values level) p.fits p.packs))

pub pile_kept : (pending : Pending) → KeepsPending pending pending
pile_kept pending = record { words = refl; words_room = refl; labelled = refl; labelled_room = refl }

-- ---- one word more on a pile

module _ (h0 h1 : HeapState) (start mid next last : Pending) (w : Word) (v : Val) (m : IsMade h0 h1 w v) (k : KeepsPending mid next) where
  pub word_piled : (vs : List Val) → PilesWords h0 start mid vs → last.words.items ≡ next.words.items ++ w ∷ [] → vec_capacity last.words ≡ vec_capacity next.words → last.labelled ≡ next.labelled
      → PilesWords h1 start last (vs ++ v ∷ [])
  word_piled vs p pushed room same = record {
    made = p.made ++ w ∷ [];
    words = pushed ∙ ap (λ xs. xs ++ w ∷ []) (k.words ∙ p.words) ∙ append_assoc start.words.items p.made (w ∷ []);
    are = all_append (IsWord h1) p.made (w ∷ []) (all_keep h0 h1 m.keeps p.made p.are) (m.word, tt);
    stand = map-append (value_of h1) p.made (w ∷ []) ∙ ap (λ xs. xs ++ value_of h1 w ∷ []) (values_keep h0 h1 m.keeps p.made p.are ∙ p.stand) ∙ ap (λ x. vs ++ x ∷ []) m.value;
    words_room = room ∙ k.words_room ∙ p.words_room;
    labelled = ap (λ l. l.items) same ∙ k.labelled ∙ p.labelled;
    labelled_room = ap vec_capacity same ∙ k.labelled_room ∙ p.labelled_room;
  }

  pub labelled_piled : (label : Name) (fs : List (Name × Val)) → PilesLabelled h0 start mid fs → last.labelled.items ≡ next.labelled.items ++ (label, w) ∷ [] → vec_capacity last.labelled ≡ vec_capacity next.labelled
      → last.words ≡ next.words → PilesLabelled h1 start last (fs ++ (label, v) ∷ [])
  labelled_piled label fs p pushed room same = record {
    made = p.made ++ (label, w) ∷ [];
    labelled = pushed ∙ ap (λ xs. xs ++ (label, w) ∷ []) (k.labelled ∙ p.labelled) ∙ append_assoc start.labelled.items p.made ((label, w) ∷ []);
    are = all_append (λ f. IsWord h1 f.1) p.made ((label, w) ∷ []) (labelled_keep h0 h1 m.keeps p.made p.are) (m.word, tt);
    stand = map-append (valued h1) p.made ((label, w) ∷ []) ∙ ap (λ xs. xs ++ (label, value_of h1 w) ∷ []) (fields_keep h0 h1 m.keeps p.made p.are ∙ p.stand)
        ∙ ap (λ x. fs ++ (label, x) ∷ []) m.value;
    labelled_room = room ∙ k.labelled_room ∙ p.labelled_room;
    words = ap (λ l. l.items) same ∙ k.words ∙ p.words;
    words_room = ap vec_capacity same ∙ k.words_room ∙ p.words_room;
  }

-- one element more of a list
pub take_more : {A B : Type 0} (f : A → B) (xs : List A) (i : ℕ) (x : A) → i < length xs → x ≡ get_or xs i x → map f (take (i + 1) xs) ≡ map f (take i xs) ++ f x ∷ []
take_more f xs i x h is =
    ap (λ n. map f (take n xs)) (add-one i) ∙ ap (map f) (take-suc xs i x h) ∙ map-append f (take i xs) (get_or xs i x ∷ []) ∙ ap (λ y. map f (take i xs) ++ f y ∷ []) (sym is)

-- ---- over so many variables

pub over_at : (n : ℕ) (xs : List CoreVal) (i : ℕ) (x : CoreVal) → i < length xs → x ≡ get_or xs i x → AreOver n 0 (vals_of (map plain_val xs)) → IsOver n 0 (plain_val x)
over_at n [] i x h is o = absurd (omega arith)
over_at n (y ∷ ys) zero x h is o = subst (λ z. IsOver n 0 (plain_val z)) (sym is) o.0
over_at n (y ∷ ys) (suc i) x h is o = over_at n ys i x (omega arith) is o.1

pub labelled_over_at : (n : ℕ) (xs : List (Name × CoreVal)) (i : ℕ) (x : Name × CoreVal) → i < length xs → x ≡ get_or xs i x → LabelledOver n 0 (labelled_of (map plain_field xs)) → IsOver n 0 (plain_val x.1)
labelled_over_at n [] i x h is o = absurd (omega arith)
labelled_over_at n (y ∷ ys) zero x h is o = subst (λ z. IsOver n 0 (plain_val z.1)) (sym is) o.0
labelled_over_at n (y ∷ ys) (suc i) x h is o = labelled_over_at n ys i x (omega arith) is o.1

-- ---- needs add up

module _ (p : Need → ℕ) (sums : (a b : Need) → p (both_needs a b) ≡ p a + p b) (nothing : p (needs_of (vals_of [])) ≡ 0) where
  pub need_sum : (xs : List CoreVal) → p (needs_of (vals_of (map plain_val xs))) ≡ sum_by (λ v. p (need_of (plain_val v))) xs
  need_sum [] = nothing
  need_sum (x ∷ xs) = sums (need_of (plain_val x)) (needs_of (vals_of (map plain_val xs))) ∙ ap (λ n. p (need_of (plain_val x)) + n) (need_sum xs) ∙ sym (sum_by-cons (λ (v : CoreVal). p (need_of (plain_val v))) x xs)

  pub labelled_need_sum : (xs : List (Name × CoreVal)) → p (needs_of_labelled (labelled_of (map plain_field xs))) ≡ sum_by (λ f. p (need_of (plain_val f.1))) xs
  labelled_need_sum [] = nothing
  labelled_need_sum (x ∷ xs) = sums (need_of (plain_val x.1)) (needs_of_labelled (labelled_of (map plain_field xs))) ∙ ap (λ n. p (need_of (plain_val x.1)) + n) (labelled_need_sum xs) ∙ sym (sum_by-cons (λ (f : Name × CoreVal). p (need_of (plain_val f.1))) x xs)

  -- what was needed so far, and for the next one
  pub need_more : (xs : List CoreVal) (i : ℕ) (x : CoreVal) → i < length xs → x ≡ get_or xs i x
      → (p (needs_of (vals_of (map plain_val (take (i + 1) xs)))) ≡ p (needs_of (vals_of (map plain_val (take i xs)))) + p (need_of (plain_val x)))
      × (p (needs_of (vals_of (map plain_val (take i xs)))) + p (need_of (plain_val x)) ≤ p (needs_of (vals_of (map plain_val xs))))
  need_more xs i x h is =
      let f = λ (v : CoreVal). p (need_of (plain_val v)) in
      let same : f x ≡ f (get_or xs i x) = ap f is in (
        need_sum (take (i + 1) xs) ∙ sum_by_more f xs i x h ∙ ap (λ n. n + f (get_or xs i x)) (sym (need_sum (take i xs))) ∙ ap (λ n. p (needs_of (vals_of (map plain_val (take i xs)))) + n) (sym same),
        omega (arith, need_sum (take i xs), need_sum xs, sum_by_more_le f xs i x h, same),
      )

  pub labelled_need_more : (xs : List (Name × CoreVal)) (i : ℕ) (x : Name × CoreVal) → i < length xs → x ≡ get_or xs i x
      → (p (needs_of_labelled (labelled_of (map plain_field (take (i + 1) xs)))) ≡ p (needs_of_labelled (labelled_of (map plain_field (take i xs)))) + p (need_of (plain_val x.1)))
      × (p (needs_of_labelled (labelled_of (map plain_field (take i xs)))) + p (need_of (plain_val x.1)) ≤ p (needs_of_labelled (labelled_of (map plain_field xs))))
  labelled_need_more xs i x h is =
      let f = λ (v : Name × CoreVal). p (need_of (plain_val v.1)) in
      let same : f x ≡ f (get_or xs i x) = ap f is in (
        labelled_need_sum (take (i + 1) xs) ∙ sum_by_more f xs i x h ∙ ap (λ n. n + f (get_or xs i x)) (sym (labelled_need_sum (take i xs))) ∙ ap (λ n. p (needs_of_labelled (labelled_of (map plain_field (take i xs)))) + n) (sym same),
        omega (arith, labelled_need_sum (take i xs), labelled_need_sum xs, sum_by_more_le f xs i x h, same),
      )

-- ---- the record of what lies on both piles

module _ (value : ℕ → Val) where
  abbrev pub levels_replaced : Replacement
  levels_replaced = record { variable = value; channel = Chan }

  pub vals_replaced : (xs : List CoreVal) → vals_of (map (λ v. operand_value value (plain_val v)) xs) ≡ replace_values levels_replaced (vals_of (map plain_val xs))
  vals_replaced [] = refl
  vals_replaced (x ∷ xs) = cc (vals_replaced xs)

  pub labelled_replaced : (xs : List (Name × CoreVal)) → labelled_of (map (operand_field value) xs) ≡ replace_labelled levels_replaced (labelled_of (map plain_field xs))
  labelled_replaced [] = refl
  labelled_replaced (x ∷ xs) = cc (labelled_replaced xs)

-- ---- sums of needs

pub same_need : (a b : Need) → a.records ≡ b.records → a.fields ≡ b.fields → a.texts ≡ b.texts → a.bytes ≡ b.bytes → a ≡ b
same_need a b r f t y =
    ap (λ n. record { records = n; fields = a.fields; texts = a.texts; bytes = a.bytes }) r
    ∙ ap (λ n. record { records = b.records; fields = n; texts = a.texts; bytes = a.bytes }) f
    ∙ ap (λ n. record { records = b.records; fields = b.fields; texts = n; bytes = a.bytes }) t
    ∙ ap (λ n. record { records = b.records; fields = b.fields; texts = b.texts; bytes = n }) y

pub needs_more : (xs : List CoreVal) (i : ℕ) (x : CoreVal) → i < length xs → x ≡ get_or xs i x
    → needs_of (vals_of (map plain_val (take (i + 1) xs))) ≡ both_needs (needs_of (vals_of (map plain_val (take i xs)))) (need_of (plain_val x))
needs_more xs i x h is =
    same_need (needs_of (vals_of (map plain_val (take (i + 1) xs)))) (both_needs (needs_of (vals_of (map plain_val (take i xs)))) (need_of (plain_val x)))
    (need_more (λ n. n.records) (λ a b. refl) refl xs i x h is).0 (need_more (λ n. n.fields) (λ a b. refl) refl xs i x h is).0
    (need_more (λ n. n.texts) (λ a b. refl) refl xs i x h is).0 (need_more (λ n. n.bytes) (λ a b. refl) refl xs i x h is).0

pub labelled_needs_more : (xs : List (Name × CoreVal)) (i : ℕ) (x : Name × CoreVal) → i < length xs → x ≡ get_or xs i x
    → needs_of_labelled (labelled_of (map plain_field (take (i + 1) xs))) ≡ both_needs (needs_of_labelled (labelled_of (map plain_field (take i xs)))) (need_of (plain_val x.1))
labelled_needs_more xs i x h is =
    same_need (needs_of_labelled (labelled_of (map plain_field (take (i + 1) xs)))) (both_needs (needs_of_labelled (labelled_of (map plain_field (take i xs)))) (need_of (plain_val x.1)))
    (labelled_need_more (λ n. n.records) (λ a b. refl) refl xs i x h is).0 (labelled_need_more (λ n. n.fields) (λ a b. refl) refl xs i x h is).0
    (labelled_need_more (λ n. n.texts) (λ a b. refl) refl xs i x h is).0 (labelled_need_more (λ n. n.bytes) (λ a b. refl) refl xs i x h is).0

-- ---- the words of levels

pub pair_packed : (h : HeapState) (values : List (ℕ × ℕ)) → ArePairs h values → (level : ℕ) → (w : Word) × FitsWord w × (packed w ≡ pair_at values level)
pair_packed h values pairs level = let p = pairs level in (p.word, p.fits, p.packs)

pub take_level : {B : Type 0} (f : ℕ → B) (xs : List ℕ) (i level : ℕ) → i < length xs → level ≡ get_or xs i 0 → map f (take (i + 1) xs) ≡ map f (take i xs) ++ f level ∷ []
take_level f xs i level h is =
    ap (λ n. map f (take n xs)) (add-one i) ∙ ap (map f) (take-suc xs i 0 h) ∙ map-append f (take i xs) (get_or xs i 0 ∷ []) ∙ ap (λ y. map f (take i xs) ++ f y ∷ []) (sym is)

-- the word of a level more on the pile
pub level_piled : (h : HeapState) (values : List (ℕ × ℕ)) (frame : List ℕ) (i level : ℕ) (start mid last : Pending) (w : Word) → ArePairs h values → i < length frame → level ≡ get_or frame i 0
    → ((x : Word) → FitsWord x → packed x ≡ pair_at values level → w ≡ x) → PilesWords h start mid (map (known h values) (take i frame))
    → last.words.items ≡ mid.words.items ++ w ∷ [] → vec_capacity last.words ≡ vec_capacity mid.words → last.labelled ≡ mid.labelled
    → PilesWords h start last (map (known h values) (take (i + 1) frame))
level_piled h values frame i level start mid last w pairs low is back p pushed room same =
    subst (PilesWords h start last) (sym (take_level (known h values) frame i level low is))
    (word_piled h h start mid mid last w (known h values level) (level_made h values level w pairs back) (pile_kept mid) (map (known h values) (take i frame)) p pushed room same)

-- a list up to its end
pub take_whole : {A : Type 0} (xs : List A) (i : ℕ) → length xs ≤ i → take i xs ≡ xs
take_whole xs i h = sym (append-nil (take i xs)) ∙ ap (λ ys. take i xs ++ ys) (sym (drop_of_length-le xs h)) ∙ take-append-drop i xs
