-- The labels at the head of an object are read back, and what is read there is its head.
use Rattle.std.proofs.Common.{◌≡◌, ◌≢◌, ℕ, zero, suc, ◌^◌, ◌<◌, ◌≤◌, List, [], ◌∷◌, ◌++◌, length, drop, Option, Some, None, refl, sym, ap, subst, ◌∙◌, unwrap_or, append_assoc, length-append, arith}
use Rattle.std.specs.Prelude.{IfSome}
use Rattle.std.specs.Int.{w32}
use Rattle.std.specs.List.{AllByRecursion, flat_map}
use Rattle.pict_object.specs.Objects.{count_bytes, text_bytes, header}
use Rattle.pict_object.specs.Reading.{◌>>=◌, number_at, text_at, parts_at, counted_at}
use Rattle.pict_object.specs.Heads.{AreLabelTexts, IsHead}
use Rattle.pict_object.proofs.Fronts.{IsBytes, IsBytes-drop, Takes, takes_none, takes_both, if_then, if_weaker, wide32, IsNumberRead, number_read, IsTextRead, text_read, text_again, count_again}
use Rattle.pict_object.proofs.Again.{parts_step}

abbrev AreShort : List (List ℕ) → Type 0
AreShort texts = AllByRecursion (λ text. length text < 2 ^ 32) texts

-- ---- what is read

abbrev AreTextsRead : ℕ → List ℕ → List (List ℕ) × List ℕ → Type 0
AreTextsRead m bytes r = Takes bytes (flat_map text_bytes r.0) r.1 × (length r.0 ≡ m) × AreShort r.0

texts_read : (m : ℕ) (bytes : List ℕ) → IsBytes bytes → IfSome (parts_at text_at m bytes) (AreTextsRead m bytes)
unfolding parts_at
texts_read zero bytes fits = (takes_none bytes fits, refl, tt)
texts_read (suc m) bytes fits =
    if_then (text_at bytes) (λ first. parts_at text_at m first.1 >>= λ others. Some (first.0 ∷ others.0, others.1)) (IsTextRead bytes) (AreTextsRead (suc m) bytes)
    (text_read bytes fits) (λ first h.
    if_then (parts_at text_at m first.1) (λ others. Some (first.0 ∷ others.0, others.1)) (AreTextsRead m first.1) (AreTextsRead (suc m) bytes)
    (texts_read m first.1 h.0.fits) (λ others k.
    (takes_both bytes (text_bytes first.0) first.1 (flat_map text_bytes others.0) others.1 h.0 k.0, ap suc k.1, (h.1, k.2))))

abbrev IsTableRead : List ℕ → List (List ℕ) × List ℕ → Type 0
IsTableRead bytes r = Takes bytes (count_bytes (length r.0) ++ flat_map text_bytes r.0) r.1 × (length r.0 < 2 ^ 32) × AreShort r.0

table_read : (bytes : List ℕ) → IsBytes bytes → IfSome (counted_at text_at bytes) (IsTableRead bytes)
unfolding counted_at
table_read bytes fits =
    if_then (number_at w32 bytes) (λ n. parts_at text_at n.0 n.1) (IsNumberRead w32 (2 ^ 32) bytes) (IsTableRead bytes)
    (number_read w32 (2 ^ 32) wide32 bytes fits) (λ n h.
    if_weaker (parts_at text_at n.0 n.1) (AreTextsRead n.0 n.1) (IsTableRead bytes) (λ r k. (
      takes_both bytes (count_bytes (length r.0)) n.1 (flat_map text_bytes r.0) r.1 (subst (λ z. Takes bytes (count_bytes z) n.1) (sym k.1) h.0) k.0,
      subst (λ z. z < 2 ^ 32) (sym k.1) h.1,
      k.2,
    ))
    (texts_read n.0 n.1 h.0.fits))

-- ---- what was written is read again

texts_again : (table : List (List ℕ)) (rest : List ℕ) → AreShort table → parts_at text_at (length table) (flat_map text_bytes table ++ rest) ≡ Some (table, rest)
unfolding parts_at
texts_again [] rest short = refl
texts_again (text ∷ table) rest short =
    let behind : List ℕ = flat_map text_bytes table ++ rest in
    ap (λ z. parts_at text_at (suc (length table)) z) (append_assoc (text_bytes text) (flat_map text_bytes table) rest ∙ append_assoc (count_bytes (length text)) text behind)
    ∙ parts_step text_at (length table) (count_bytes (length text) ++ (text ++ behind)) behind rest text table (text_again text behind short.0) (texts_again table rest short.1)

table_again : (table : List (List ℕ)) (rest : List ℕ) → length table < 2 ^ 32 → AreShort table → counted_at text_at (count_bytes (length table) ++ (flat_map text_bytes table ++ rest)) ≡ Some (table, rest)
unfolding counted_at
table_again table rest few short =
    ap (λ z. z >>= λ n. parts_at text_at n.0 n.1) (count_again (length table) (flat_map text_bytes table ++ rest) few) ∙ texts_again table rest short

-- ---- heads

IsBytes-behind : (bytes labels : List ℕ) → IsBytes bytes → bytes ≡ header ++ labels → IsBytes labels
IsBytes-behind bytes labels fits e = subst IsBytes (ap (drop 5) e) (IsBytes-drop 5 bytes fits)

pub head_made : (bytes labels rest : List ℕ) (table : List (List ℕ)) → IsBytes bytes → bytes ≡ header ++ labels → counted_at text_at labels ≡ Some (table, rest) → AreLabelTexts [] table → IsHead bytes table rest
head_made bytes labels rest table fits e read are =
    let h : IsTableRead labels (table, rest) = subst (λ z. IfSome z (IsTableRead labels)) read (table_read labels (IsBytes-behind bytes labels fits e)) in
    record {
      labels = are;
      few = h.1;
      short = h.2;
      is = e ∙ ap (λ z. header ++ z) (h.0.parts ∙ append_assoc (count_bytes (length table)) (flat_map text_bytes table) rest);
    }

-- what stands behind the first bytes of a head is read as its labels
head_read : (bytes labels rest : List ℕ) (table : List (List ℕ)) → bytes ≡ header ++ labels → IsHead bytes table rest → counted_at text_at labels ≡ Some (table, rest)
head_read bytes labels rest table e head = ap (λ z. counted_at text_at (drop 5 z)) (sym e ∙ head.is) ∙ table_again table rest head.few head.short

pub front_missing : (bytes : List ℕ) → ((rest : List ℕ) → bytes ≢ header ++ rest) → (table : List (List ℕ)) (rest : List ℕ) → IsHead bytes table rest → ⊥
front_missing bytes none table rest head = none (count_bytes (length table) ++ (flat_map text_bytes table ++ rest)) head.is

pub texts_missing : (bytes labels : List ℕ) → bytes ≡ header ++ labels → counted_at text_at labels ≡ None → (table : List (List ℕ)) (rest : List ℕ) → IsHead bytes table rest → ⊥
texts_missing bytes labels e none table rest head = none_some (table, rest) (sym none ∙ head_read bytes labels rest table e head)
  where
    none_some : (r : List (List ℕ) × List ℕ) → None ≡ Some r → ⊥
    none_some r k = cc

pub texts_wrong : (bytes labels behind : List ℕ) (texts : List (List ℕ)) → bytes ≡ header ++ labels → counted_at text_at labels ≡ Some (texts, behind) → (AreLabelTexts [] texts → ⊥)
    → (table : List (List ℕ)) (rest : List ℕ) → IsHead bytes table rest → ⊥
texts_wrong bytes labels behind texts e read wrong table rest head =
    wrong (subst (λ t. AreLabelTexts [] t) (sym (same texts table behind rest (sym read ∙ head_read bytes labels rest table e head))) head.labels)
  where
    same : (t u : List (List ℕ)) (r s : List ℕ) → ◌≡◌ {A = Option (List (List ℕ) × List ℕ)} (Some (t, r)) (Some (u, s)) → t ≡ u
    same t u r s k = ap (λ (o : Option (List (List ℕ) × List ℕ)). (unwrap_or o (t, r)).0) k

-- each label of a head has a byte
pub few_labels : (bytes rest : List ℕ) (table : List (List ℕ)) → IsHead bytes table rest → length table ≤ length bytes
few_labels bytes rest table head =
    let all = ap length head.is in
    let behind = length-append (count_bytes (length table)) (flat_map text_bytes table ++ rest) in
    let texts = length-append (flat_map text_bytes table) rest in
    omega (arith, all, behind, texts, longer table)
  where
    longer : (texts : List (List ℕ)) → length texts ≤ length (flat_map text_bytes texts)
    longer [] = omega arith
    longer (text ∷ texts) = let more = length-append (text_bytes text) (flat_map text_bytes texts) in omega (arith, more, longer texts)
