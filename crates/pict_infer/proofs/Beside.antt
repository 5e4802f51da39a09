-- Values and type variables of patterns side by side.
use Rattle.std.proofs.Common.{◌≡◌, ℕ, ◌+◌, ◌-◌, ◌≤◌, List, [], ◌∷◌, ◌++◌, length, refl, sym, ◌∙◌, ap, ap₂, arith}
use Rattle.pict_types.specs.Types.{PlainType}
use Rattle.pict_types.specs.Plain.{plain}
use Rattle.pict_types.specs.Renaming.{rename, moved}
use Rattle.pict_rules.specs.Environments.{Extension, KnownType, KnownValue, joined_extensions, moved_binders, opened, rename_values, shifted_by}
use Rattle.pict_infer.specs.declared.known.Known.{Known}
use Rattle.pict_infer.specs.declared.known.Binder.{Binder}
use Rattle.pict_infer.specs.declared.added.Added.{Added}
use Rattle.pict_infer.specs.Knowing.{known_value, known_values, known_types, deepest}
use Rattle.pict_infer.specs.Beside.{IsMovedPast, AreSideBySide}
use Rattle.pict_infer.specs.Adding.{extension_of}
use Rattle.pict_infer.proofs.Depths.{kept_joins, kept_outside, values_more, types_length, deepest_one, values_opened}
use Rattle.pict_types.proofs.Past.{not_moved}

-- a value that no variable comes before
pub past_none : (base more : ℕ) (v : Known) → v.depth ≤ base + more → IsMovedPast base 0 more v v
past_none base more v h = record {
  names = refl;
  types_ = ap (λ n. shifted_by (n - v.depth) (plain v.has)) (omega arith) ∙ sym (not_moved more (shifted_by (base + more - v.depth) (plain v.has)));
  placed = omega (arith, h);
}

-- a value that is written outside the variables that come
pub past_outside : (base k more : ℕ) (v : Known) → v.depth ≤ base → IsMovedPast base k more v v
past_outside base k more v h = record {
  names = refl;
  types_ = ap (λ n. shifted_by n (plain v.has)) (omega (arith, h)) ∙ sym (kept_outside k more (base + more - v.depth) (plain v.has) (omega (arith, h)));
  placed = omega (arith, h);
}

-- any other value
pub past_inside : (base k more : ℕ) (v w : Known) → base ≤ v.depth → v.depth ≤ base + more → w.name.0 ≡ v.name.0 → w.depth ≡ v.depth + k → plain w.has ≡ rename (moved k (v.depth - base)) (plain v.has) → IsMovedPast base k more v w
past_inside base k more v w low high n d t = record {
  names = n;
  types_ =
      ap₂ (λ i u. shifted_by i u) (omega (arith, low, high, d)) t
      ∙ sym (kept_joins k more (v.depth - base) (plain v.has) (omega (arith, low, high)))
      ∙ ap (λ i. rename (moved k more) (shifted_by i (plain v.has))) (omega (arith, low, high));
  placed = omega (arith, high, d);
}

pub first_alone : (base k more : ℕ) (outer : List Known) → deepest outer ≤ base + k → AreSideBySide base k more outer [] outer
first_alone base k more outer h = record {
  same = ap (λ n. known_values n outer) (omega arith) ∙ values_opened (base + k) more outer h;
  placed = omega (arith, h);
}

pub one_beside : (base k more : ℕ) (outer inner all : List Known) (v w : Known) → IsMovedPast base k more v w → AreSideBySide base k more outer inner all → AreSideBySide base k more outer (inner ++ v ∷ []) (all ++ w ∷ [])
one_beside base k more outer inner all v w m h = record {
  same =
      values_more (base + (k + more)) all w
      ∙ ap₂ (λ (z : KnownValue) (zs : List KnownValue). z ∷ zs) head h.same
      ∙ sym (ap (λ z. rename_values (moved k more) z ++ rename_values (moved more 0) (known_values (base + k) outer)) (values_more (base + more) inner v));
  placed = omega (arith, h.placed, m.placed, deepest_one all w);
}
  where
    head : known_value (base + (k + more)) w ≡ record { name = v.name.0; has = rename (moved k more) (known_value (base + more) v).has }
    head = ap₂ (λ (n : ℕ) (t : PlainType). let z : KnownValue = record { name = n; has = t } in z) m.names m.types_

pub extension : (bs cs : List KnownType) (vs ws : List KnownValue) → bs ≡ cs → vs ≡ ws → (let x : Extension = record { binders = bs; values = vs } in x) ≡ record { binders = cs; values = ws }
extension bs cs vs ws p q = ap₂ (λ (b : List KnownType) (v : List KnownValue). let z : Extension = record { binders = b; values = v } in z) p q

-- a value alone
pub value_here : (n : ℕ) (v : Known) → v.depth ≡ n → known_value n v ≡ record { name = v.name.0; has = plain v.has }
value_here n v h =
    let zero_left : n - v.depth ≡ 0 = omega (arith, h) in
    ap (λ (t : PlainType). let z : KnownValue = record { name = v.name.0; has = t } in z) (ap (λ i. shifted_by i (plain v.has)) zero_left ∙ not_moved 0 (plain v.has))

pub value_alone : (base : ℕ) (bs : List Binder) (vs : List Known) (v : Known) → bs ≡ [] → vs ≡ v ∷ [] → v.depth ≡ base → (let x : Extension = record { binders = known_types bs; values = known_values (base + length bs) vs } in x) ≡ record { binders = []; values = record { name = v.name.0; has = plain v.has } ∷ [] }
value_alone base bs vs v p q h =
    extension (known_types bs) [] (known_values (base + length bs) vs) _ (ap known_types p)
    (ap₂ (λ n w. known_values n w) (ap (λ b. base + length b) p ∙ omega arith) q ∙ ap (λ (z : KnownValue). z ∷ []) (value_here base v h))

-- two patterns side by side
pub both_beside : (base k more : ℕ) (x y : Added) (bs : List Binder) (vs : List Known) → x.base ≡ base → y.base ≡ base → k ≡ length x.binders.items → more ≡ length y.binders.items → length bs ≡ k + more
    → known_types bs ≡ moved_binders k (known_types y.binders.items) ++ known_types x.binders.items → AreSideBySide base k more x.values.items y.values.items vs
    → (let z : Extension = record { binders = known_types bs; values = known_values (base + length bs) vs } in z) ≡ joined_extensions (extension_of x) (extension_of y)
both_beside base k more x y bs vs bx by hk hm n p q =
    extension (known_types bs) _ (known_values (base + length bs) vs) _
    (p ∙ ap (λ i. moved_binders i (known_types y.binders.items) ++ known_types x.binders.items) ox)
    (ap (λ i. known_values i vs) (omega (arith, n)) ∙ q.same ∙ both)
  where
    ox : k ≡ opened (extension_of x)
    ox = omega (arith, hk, types_length x.binders.items)

    oy : more ≡ opened (extension_of y)
    oy = omega (arith, hm, types_length y.binders.items)

    both : rename_values (moved k more) (known_values (base + more) y.values.items) ++ rename_values (moved more 0) (known_values (base + k) x.values.items) ≡ (joined_extensions (extension_of x) (extension_of y)).values
    both = ap₂ (λ i j. rename_values (moved i j) (known_values (base + more) y.values.items) ++ rename_values (moved j 0) (known_values (base + k) x.values.items)) ox oy
        ∙ ap₂ (λ i j. rename_values (moved (opened (extension_of x)) (opened (extension_of y))) (known_values j y.values.items) ++ rename_values (moved (opened (extension_of y)) 0) (known_values i x.values.items)) (omega (arith, bx, hk)) (omega (arith, by, hm))
