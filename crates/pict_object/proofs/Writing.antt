-- A record's bytes are its tag, and its fields behind their counts; and what its fields need in order to be written.
use Rattle.std.proofs.Common.{◌≡◌, ℕ, ◌<◌, ◌^◌, List, [], ◌∷◌, ◌++◌, map, length, drop, drop-cons, get_or, append_assoc, refl, ap, ap₂, sym, ◌∙◌, subst, arith, Vec, Global}
use Rattle.pict_syntax.specs.declared.name.Name.{Name}
use Rattle.pict_core.specs.Plain.{plain_val, plain_field, vals_of, labelled_of, plain_pat, plain_pat_field, pats_of, labelled_pats_of}
use Rattle.pict_core.specs.declared.value.CoreVal.{CoreVal}
use Rattle.pict_core.specs.declared.value.CoreVal.TheVariants as value
use Rattle.pict_core.specs.declared.pattern.CorePat.{CorePat}
use Rattle.pict_core.specs.declared.pattern.CorePat.TheVariants as pattern
use Rattle.pict_object.specs.Objects.{value_bytes, values_bytes, labelled_bytes, pattern_bytes, patterns_bytes, labelled_patterns_bytes, count_bytes, how_many_vals, how_many_labelled, how_many_pats, how_many_labelled_pats}
use Rattle.pict_object.specs.Fits.{ValueHasBytes, ValuesHaveBytes, LabelledHaveBytes, PatternHasBytes, PatternsHaveBytes, LabelledPatternsHaveBytes}
use Rattle.pict_object.specs.Sizes.{Anywhere}
use Rattle.pict_object.proofs.Sizes.{fields_are, pattern_fields_are}

pub many_vals : (vs : List CoreVal) → how_many_vals (vals_of (map plain_val vs)) ≡ length vs
many_vals [] = refl
many_vals (v ∷ vs) = omega (arith, many_vals vs)

pub many_labelled : (ls : List (Name × CoreVal)) → how_many_labelled (labelled_of (map plain_field ls)) ≡ length ls
many_labelled [] = refl
many_labelled (l ∷ ls) = omega (arith, many_labelled ls)

pub many_pats : (ps : List CorePat) → how_many_pats (pats_of (map plain_pat ps)) ≡ length ps
many_pats [] = refl
many_pats (p ∷ ps) = omega (arith, many_pats ps)

pub many_labelled_pats : (ls : List (Name × CorePat)) → how_many_labelled_pats (labelled_pats_of (map plain_pat_field ls)) ≡ length ls
many_labelled_pats [] = refl
many_labelled_pats (l ∷ ls) = omega (arith, many_labelled_pats ls)

-- a tag, and two lists behind their counts, written in turn
pub in_turn : (tag : ℕ) (old tagged first last a xs b ys : List ℕ) → tagged ≡ old ++ tag ∷ [] → first ≡ tagged ++ (a ++ xs) → last ≡ first ++ (b ++ ys)
    → last ≡ old ++ tag ∷ (a ++ (xs ++ (b ++ ys)))
in_turn tag old tagged first last a xs b ys h k m =
    m ∙ ap (λ z. z ++ (b ++ ys)) (k ∙ ap (λ z. z ++ (a ++ xs)) h)
    ∙ append_assoc (old ++ tag ∷ []) (a ++ xs) (b ++ ys) ∙ append_assoc old (tag ∷ []) ((a ++ xs) ++ (b ++ ys))
    ∙ ap (λ z. old ++ tag ∷ z) (append_assoc a xs (b ++ ys))

pub record_bytes : (place : ℕ → ℕ) (v : CoreVal) (p : Vec CoreVal Global) (l : Vec (Name × CoreVal) Global) (vs : List CoreVal) (ls : List (Name × CoreVal)) → v ≡ value.Fields p l
    → vs ≡ p.items → ls ≡ l.items
    → value_bytes place (plain_val v) ≡ 0x17 ∷ (count_bytes (length vs) ++ (values_bytes place (vals_of (map plain_val vs)) ++ (count_bytes (length ls) ++ labelled_bytes place (labelled_of (map plain_field ls)))))
record_bytes place v p l vs ls is e f =
    ap (value_bytes place) (fields_are v p l vs ls is e f)
    ∙ ap₂ (λ a b. 0x17 ∷ (count_bytes a ++ (values_bytes place (vals_of (map plain_val vs)) ++ (count_bytes b ++ labelled_bytes place (labelled_of (map plain_field ls)))))) (many_vals vs) (many_labelled ls)

pub record_pattern_bytes : (place : ℕ → ℕ) (v : CorePat) (p : Vec CorePat Global) (l : Vec (Name × CorePat) Global) (ps : List CorePat) (ls : List (Name × CorePat)) → v ≡ pattern.Fields p l
    → ps ≡ p.items → ls ≡ l.items
    → pattern_bytes place (plain_pat v) ≡ 0x22 ∷ (count_bytes (length ps) ++ (patterns_bytes place (pats_of (map plain_pat ps)) ++ (count_bytes (length ls) ++ labelled_patterns_bytes place (labelled_pats_of (map plain_pat_field ls)))))
record_pattern_bytes place v p l ps ls is e f =
    ap (pattern_bytes place) (pattern_fields_are v p l ps ls is e f)
    ∙ ap₂ (λ a b. 0x22 ∷ (count_bytes a ++ (patterns_bytes place (pats_of (map plain_pat ps)) ++ (count_bytes b ++ labelled_patterns_bytes place (labelled_pats_of (map plain_pat_field ls)))))) (many_pats ps) (many_labelled_pats ls)

-- what the fields of a record need
pub record NeedsOfFields (vs : List CoreVal) (ls : List (Name × CoreVal)) : Type 0 where
  pub few : length vs < 2 ^ 32
  pub fit : ValuesHaveBytes Anywhere (vals_of (map plain_val vs))
  pub few_labelled : length ls < 2 ^ 32
  pub labelled_fit : LabelledHaveBytes Anywhere (labelled_of (map plain_field ls))

pub fields_needs : (v : CoreVal) (p : Vec CoreVal Global) (l : Vec (Name × CoreVal) Global) (vs : List CoreVal) (ls : List (Name × CoreVal)) → v ≡ value.Fields p l
    → vs ≡ p.items → ls ≡ l.items → ValueHasBytes Anywhere (plain_val v) → NeedsOfFields vs ls
fields_needs v p l vs ls is e f h =
    let k = subst (ValueHasBytes Anywhere) (fields_are v p l vs ls is e f) h in
    record { few = subst (λ n. n < 2 ^ 32) (many_vals vs) k.0; fit = k.2; few_labelled = subst (λ n. n < 2 ^ 32) (many_labelled ls) k.1; labelled_fit = k.3 }

-- what the fields of a record pattern need
pub record NeedsOfPatterns (ps : List CorePat) (ls : List (Name × CorePat)) : Type 0 where
  pub few : length ps < 2 ^ 32
  pub fit : PatternsHaveBytes Anywhere (pats_of (map plain_pat ps))
  pub few_labelled : length ls < 2 ^ 32
  pub labelled_fit : LabelledPatternsHaveBytes Anywhere (labelled_pats_of (map plain_pat_field ls))

pub patterns_needs : (v : CorePat) (p : Vec CorePat Global) (l : Vec (Name × CorePat) Global) (ps : List CorePat) (ls : List (Name × CorePat)) → v ≡ pattern.Fields p l
    → ps ≡ p.items → ls ≡ l.items → PatternHasBytes Anywhere (plain_pat v) → NeedsOfPatterns ps ls
patterns_needs v p l ps ls is e f h =
    let k = subst (PatternHasBytes Anywhere) (pattern_fields_are v p l ps ls is e f) h in
    record { few = subst (λ n. n < 2 ^ 32) (many_pats ps) k.0; fit = k.2; few_labelled = subst (λ n. n < 2 ^ 32) (many_labelled_pats ls) k.1; labelled_fit = k.3 }

-- of fields that are left to write the first
pub first_field : (xs : List (Name × CoreVal)) (i : ℕ) (x : Name × CoreVal) → i < length xs → x ≡ get_or xs i x
    → LabelledHaveBytes Anywhere (labelled_of (map plain_field (drop i xs))) → ValueHasBytes Anywhere (plain_val x.1)
first_field xs i x h is a =
    let k = subst (λ l. LabelledHaveBytes Anywhere (labelled_of (map plain_field l))) (drop-cons xs i x h) a in
    subst (λ y. ValueHasBytes Anywhere (plain_val y.1)) (sym is) k.1
