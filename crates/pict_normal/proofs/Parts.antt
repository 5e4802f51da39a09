-- What is made of the parts of a type is what stands for the type.
use Rattle.pict_syntax.specs.declared.limits.TheConstants.{HEIGHT_LIMIT, WEIGHT_LIMIT}
use Rattle.std.proofs.Common.{◌≡◌, ℕ, ◌+◌, ◌-◌, ◌≤◌, ◌<◌, max, Bool, true, false, List, [], ◌∷◌, ◌++◌, length, get_or, drop, Option, Some, None, IfSome, IfNone, Result, Ok, Err, IfOk, IfErr, refl, sym, ◌∙◌, ap, subst, arith}
use Rattle.std.proofs.lemmas.List.{length-drop}
use Rattle.pict_normal.specs.declared.arguments.Arguments.{Arguments}
use Rattle.pict_normal.specs.declared.made.Made.{Made}
use Rattle.pict_normal.specs.declared.made.MakeError.{MakeError}
use Rattle.pict_normal.specs.declared.made.Row.{Row}
use Rattle.pict_types.specs.declared.measure.Measures.{Measures}
use Rattle.pict_normal.specs.declared.puts.Puts.{Puts}
use Rattle.pict_types.specs.declared.types.Bound.{Bound}
use Rattle.pict_types.specs.declared.types.Ty.{Ty}
use Rattle.pict_syntax.specs.declared.name.Name.{Name}
use Rattle.pict_types.specs.Plain.{plain, plain_types, plain_labels, plain_bounds}
use Rattle.pict_types.specs.Types.{PlainType, PlainTypes, types, PlainLabels, labels, PlainBounds, Apply, Fields, Rec, count_types}
use Rattle.pict_types.specs.Filling.{moved_by, put_for}
use Rattle.pict_types.specs.Renaming.{rename, moved}
use Rattle.pict_normal.specs.Normal.{and_type}
use Rattle.pict_types.specs.Measures.{weigh, weigh_types, weigh_labels, weigh_bounds, weights, weights_under, rise_types, rise_labels, rise_bounds, heights, heights_under}
use Rattle.pict_normal.specs.Made.{IsMade, IsReason, IsRow, IsGrown, AreArguments, kept_as, built_as, counted, only_used, used_as, weight_used}
use Rattle.pict_normal.specs.Putting.{IsUnder, weights_in, heights_in, replacement_in, replacement_of, variables_in}
use Rattle.pict_types.specs.Replacing.{Replacement, Head, operator, apply_head, fill, with_types, replacement_past, replacement_beyond, replacement_beyond_all, replace, replace_types, replace_labels, replace_bounds}
use Rattle.pict_types.proofs.Held.{HeldAlike, rise_types_held, rise_labels_held}
use Rattle.pict_normal.proofs.Behind.{weights_more, heights_more}
use Rattle.pict_normal.proofs.Making.{reason_by, row_alike, types_more, types_done, labels_more, labels_done}
use Rattle.pict_normal.proofs.Arguing.{ArgumentsSoFar, arguments_more, arguments_done}
use Rattle.pict_types.proofs.Formed.{count_replaced}
use Rattle.pict_normal.proofs.Applied.{count_used}
use Rattle.pict_types.proofs.Rows.{then_types, types_drop, types_end, then_labels, labels_drop, labels_end, count_types_length}
use Rattle.pict_normal.proofs.Placing.{one_more}
use Rattle.pict_types.proofs.Past.{all_past, applied_moved}

abbrev pub Makes : {E : Type 0} → Puts → List Measures → Result Made E → PlainType → Type 0
Makes p ms r t = IfOk r (λ m. IsMade (weights_in p ms) (heights_in p ms) m (replace (replacement_in p ms) t))

abbrev pub IsPart : Puts → List Measures → Made → PlainType → Type 0
IsPart p ms m t = IsMade (weights_in p ms) (heights_in p ms) m (replace (replacement_in p ms) t)

pub part_same : (p : Puts) {m : Made} (ms ns : List Measures) (t u : PlainType) → ms ≡ ns → t ≡ u → IsPart p ms m t → IsPart p ns m u
part_same p {m = m} ms ns t u e h x = subst (λ y. IsPart p ns m y) h (subst (λ y. IsPart p y m t) e x)

pub makes_same : {E : Type 0} (p : Puts) (r : Result Made E) (ms ns : List Measures) (t u : PlainType) → ms ≡ ns → t ≡ u → Makes p ms r t → Makes p ns r u
makes_same p (Ok m) ms ns t u e h x = part_same p {m = m} ms ns t u e h x
makes_same p (Err y) ms ns t u e h x = tt

-- the body of a recursive type, under its variable
pub body_made : (p : Puts) {b : Made} (ms ns : List Measures) (m : Measures) (t : PlainType) → ns ≡ ms ++ m ∷ [] → IsPart p ns b t → IsMade (m.weight ∷ weights_in p ms) (m.height ∷ heights_in p ms) b (replace (replacement_beyond (replacement_in p ms)) t)
body_made p {b = b} ms ns m t e x =
    let y = subst (λ k. IsPart p k b t) e x in
    let y1 = subst (λ k. IsMade (weights_in p (ms ++ m ∷ [])) (heights_in p (ms ++ m ∷ [])) b (replace (replacement_past k (replacement_of p)) t)) (one_more ms m) y in
    let y2 = subst (λ k. IsMade k (heights_in p (ms ++ m ∷ [])) b (replace (replacement_beyond (replacement_in p ms)) t)) (weights_more ms m (weights (variables_in p))) y1 in
    subst (λ k. IsMade (m.weight ∷ weights_in p ms) k b (replace (replacement_beyond (replacement_in p ms)) t)) (heights_more ms m (heights (variables_in p))) y2

-- an applied variable, by what stands for it
pub head_made : {ws hs : List ℕ} {m : Made} (s : Replacement) (i : ℕ) (ts : PlainTypes) (h : Head) → h ≡ s.head_of i → IsMade ws hs m (apply_head h (replace_types s ts)) → IsMade ws hs m (replace s (Apply i ts))
head_made {ws = ws} {hs = hs} {m = m} s i ts h e x = subst (λ k. IsMade ws hs m (apply_head k (replace_types s ts))) e x

alike_under_heights : {p : Puts} {ms ns : List Measures} {bs : PlainBounds} → IsUnder p ms ns bs → HeldAlike (heights_in p ns) (heights_under (heights_in p ms) (replace_bounds (replacement_in p ms) bs))
alike_under_heights u = record { each = λ i. record { same = u.heights_ i } }

under_replacement : {p : Puts} (ms ns : List Measures) (bs : PlainBounds) → IsUnder p ms ns bs → replacement_in p ns ≡ replacement_beyond_all bs (replacement_in p ms)
under_replacement {p = p} ms ns bs u = ap (λ k. replacement_past k (replacement_of p)) u.count ∙ sym (all_past (length ms) (replacement_of p) bs)

-- the fields of a record, under its type fields
pub types_under : {p : Puts} {r : Row Ty} (ms ns : List Measures) (bs : PlainBounds) (ps : PlainTypes) → IsUnder p ms ns bs → IsRow plain_types r (weigh_types (weights_in p ns) (replace_types (replacement_in p ns) ps)) 0 (rise_types (heights_in p ns) (replace_types (replacement_in p ns) ps)) 0 (replace_types (replacement_in p ns) ps) → IsRow plain_types r (weigh_types (weights_under (weights_in p ms) (replace_bounds (replacement_in p ms) bs)) (replace_types (replacement_beyond_all bs (replacement_in p ms)) ps)) 0 (rise_types (heights_under (heights_in p ms) (replace_bounds (replacement_in p ms) bs)) (replace_types (replacement_beyond_all bs (replacement_in p ms)) ps)) 0 (replace_types (replacement_beyond_all bs (replacement_in p ms)) ps)
types_under {p = p} {r = r} ms ns bs ps u x =
    let us = replace_types (replacement_beyond_all bs (replacement_in p ms)) ps in
    let y = subst (λ s. IsRow plain_types r (weigh_types (weights_in p ns) (replace_types s ps)) 0 (rise_types (heights_in p ns) (replace_types s ps)) 0 (replace_types s ps)) (under_replacement ms ns bs u) x in
    row_alike (rise_types (heights_under (heights_in p ms) (replace_bounds (replacement_in p ms) bs)) us) 0 (rise_types_held (alike_under_heights {ms = ms} {bs = bs} u) us).same refl
    (subst (λ ws. IsRow plain_types r (weigh_types ws us) 0 (rise_types (heights_in p ns) us) 0 us) u.weights_ y)

pub labels_under : {p : Puts} {r : Row (Name × Ty)} (ms ns : List Measures) (bs : PlainBounds) (ls : PlainLabels) → IsUnder p ms ns bs → IsRow plain_labels r (weigh_labels (weights_in p ns) (replace_labels (replacement_in p ns) ls)) 0 (rise_labels (heights_in p ns) (replace_labels (replacement_in p ns) ls)) 0 (replace_labels (replacement_in p ns) ls) → IsRow plain_labels r (weigh_labels (weights_under (weights_in p ms) (replace_bounds (replacement_in p ms) bs)) (replace_labels (replacement_beyond_all bs (replacement_in p ms)) ls)) 0 (rise_labels (heights_under (heights_in p ms) (replace_bounds (replacement_in p ms) bs)) (replace_labels (replacement_beyond_all bs (replacement_in p ms)) ls)) 0 (replace_labels (replacement_beyond_all bs (replacement_in p ms)) ls)
labels_under {p = p} {r = r} ms ns bs ls u x =
    let us = replace_labels (replacement_beyond_all bs (replacement_in p ms)) ls in
    let y = subst (λ s. IsRow plain_labels r (weigh_labels (weights_in p ns) (replace_labels s ls)) 0 (rise_labels (heights_in p ns) (replace_labels s ls)) 0 (replace_labels s ls)) (under_replacement ms ns bs u) x in
    row_alike (rise_labels (heights_under (heights_in p ms) (replace_bounds (replacement_in p ms) bs)) us) 0 (rise_labels_held (alike_under_heights {ms = ms} {bs = bs} u) us).same refl
    (subst (λ ws. IsRow plain_labels r (weigh_labels ws us) 0 (rise_labels (heights_in p ns) us) 0 us) u.weights_ y)

pub leaf_made : {m : Made} (p : Puts) (ms : List Measures) (t u : Ty) → t ≡ u → IsPart p ms m (plain u) → IsPart p ms m (plain t)
leaf_made {m = m} p ms t u e x = part_same p {m = m} ms ms (plain u) (plain t) refl (sym (ap plain e)) x

-- a row of types that was made so far
abbrev pub TypesSoFar : Puts → List Measures → PlainTypes → PlainTypes → Row Ty → Type 0
TypesSoFar p ms all rest r = IsRow (λ xs. then_types (plain_types xs) (replace_types (replacement_in p ms) rest)) r (weigh_types (weights_in p ms) (replace_types (replacement_in p ms) all)) (weigh_types (weights_in p ms) (replace_types (replacement_in p ms) rest)) (rise_types (heights_in p ms) (replace_types (replacement_in p ms) all)) (rise_types (heights_in p ms) (replace_types (replacement_in p ms) rest)) (replace_types (replacement_in p ms) all)

abbrev pub LabelsSoFar : Puts → List Measures → PlainLabels → PlainLabels → Row (Name × Ty) → Type 0
LabelsSoFar p ms all rest r = IsRow (λ xs. then_labels (plain_labels xs) (replace_labels (replacement_in p ms) rest)) r (weigh_labels (weights_in p ms) (replace_labels (replacement_in p ms) all)) (weigh_labels (weights_in p ms) (replace_labels (replacement_in p ms) rest)) (rise_labels (heights_in p ms) (replace_labels (replacement_in p ms) all)) (rise_labels (heights_in p ms) (replace_labels (replacement_in p ms) rest)) (replace_labels (replacement_in p ms) all)

-- an error of a part is an error of the whole
pub reason_same : (p : Puts) (e : MakeError) (ms ns : List Measures) (t u : PlainType) → ms ≡ ns → t ≡ u → IsReason (weigh (weights_in p ms) (replace (replacement_in p ms) t)) e → IsReason (weigh (weights_in p ns) (replace (replacement_in p ns) u)) e
reason_same p e ms ns t u h k x = subst (λ y. IsReason (weigh (weights_in p ns) (replace (replacement_in p ns) y)) e) k (subst (λ y. IsReason (weigh (weights_in p y) (replace (replacement_in p y) t)) e) h x)

pub reasons_same : {T : Type 0} (p : Puts) (r : Result T MakeError) (ms : List Measures) (t u : PlainType) → t ≡ u → IfErr r (λ e. IsReason (weigh (weights_in p ms) (replace (replacement_in p ms) t)) e) → IfErr r (λ e. IsReason (weigh (weights_in p ms) (replace (replacement_in p ms) u)) e)
reasons_same p (Ok m) ms t u k x = tt
reasons_same p (Err e) ms t u k x = reason_same p e ms ms t u refl k x

-- of the body of a recursive type
pub body_reason : (p : Puts) (e : MakeError) (ms ns : List Measures) (m : Measures) (t : PlainType) → ns ≡ ms ++ m ∷ [] → m.weight ≡ 1 → IsReason (weigh (weights_in p ns) (replace (replacement_in p ns) t)) e → IsReason (weigh (weights_in p ms) (replace (replacement_in p ms) (Rec t))) e
body_reason p e ms ns m t h one x =
    let y = subst (λ k. IsReason (weigh (weights_in p k) (replace (replacement_in p k) t)) e) h x in
    let y1 = subst (λ k. IsReason (weigh (weights_in p (ms ++ m ∷ [])) (replace (replacement_past k (replacement_of p)) t)) e) (one_more ms m) y in
    let y2 = subst (λ k. IsReason (weigh k (replace (replacement_beyond (replacement_in p ms)) t)) e) (weights_more ms m (weights (variables_in p)) ∙ ap (λ n. n ∷ weights_in p ms) one) y1 in
    reason_by (weigh (1 ∷ weights_in p ms) (replace (replacement_beyond (replacement_in p ms)) t)) (weigh (weights_in p ms) (replace (replacement_in p ms) (Rec t))) e (λ k. omega (arith, k)) y2

types_next : (xs : List Ty) (i : ℕ) (x : Ty) → i < length xs → x ≡ get_or xs i x → plain_types (drop i xs) ≡ types (plain x) (plain_types (drop (i + 1) xs))
types_next xs i x h e = types_drop xs i x h ∙ ap (λ y. types (plain y) (plain_types (drop (i + 1) xs))) (sym e)

labels_next : (xs : List (Name × Ty)) (i : ℕ) (x : Name × Ty) → i < length xs → x ≡ get_or xs i x → plain_labels (drop i xs) ≡ labels x.0.0 (plain x.1) (plain_labels (drop (i + 1) xs))
labels_next xs i x h e = labels_drop xs i x h ∙ ap (λ y. labels y.0.0 (plain y.1) (plain_labels (drop (i + 1) xs))) (sym e)

pub types_step : (p : Puts) {r : Row Ty} (ms ns : List Measures) (xs : List Ty) (i : ℕ) (x : Ty) (m : Made) (s : Row Ty) → i < length xs → x ≡ get_or xs i x → ns ≡ ms → TypesSoFar p ms (plain_types xs) (plain_types (drop i xs)) r → IsPart p ns m (plain x) → s.measures.weight ≡ r.measures.weight + m.measures.weight → s.measures.weight ≤ WEIGHT_LIMIT → s.measures.height ≡ max r.measures.height m.measures.height → IfSome s.items (λ v. IsGrown r.items m.ty v.items) → (IfNone r.items (HEIGHT_LIMIT < r.measures.height) → IfNone m.ty (HEIGHT_LIMIT < m.measures.height) → IfNone s.items (HEIGHT_LIMIT < s.measures.height)) → TypesSoFar p ms (plain_types xs) (plain_types (drop (i + 1) xs)) s
types_step p {r = r} ms ns xs i x m s h e q y k w light l g n =
    types_more (weights_in p ms) (heights_in p ms) (replace (replacement_in p ms) (plain x)) (replace_types (replacement_in p ms) (plain_types (drop (i + 1) xs))) m s
    (subst (λ z. TypesSoFar p ms (plain_types xs) z r) (types_next xs i x h e) y)
    (part_same p {m = m} ns ms (plain x) (plain x) q refl k) w light l g n

pub types_reason : (p : Puts) {r : Row Ty} (e : MakeError) (ms ns : List Measures) (xs : List Ty) (i : ℕ) (x : Ty) (v : ℕ) → i < length xs → x ≡ get_or xs i x → ns ≡ ms → TypesSoFar p ms (plain_types xs) (plain_types (drop i xs)) r → v ≤ r.measures.weight + weigh (weights_in p ns) (replace (replacement_in p ns) (plain x)) → IsReason v e → IsReason (weigh_types (weights_in p ms) (replace_types (replacement_in p ms) (plain_types xs))) e
types_reason p {r = r} e ms ns xs i x v h k q y l z =
    let w = (subst (λ u. TypesSoFar p ms (plain_types xs) u r) (types_next xs i x h k) y).weight in
    let n = ap (λ u. weigh (weights_in p u) (replace (replacement_in p u) (plain x))) q in
    reason_by v (weigh_types (weights_in p ms) (replace_types (replacement_in p ms) (plain_types xs))) e (λ g. omega (arith, g, l, n, w)) z

pub types_all : (p : Puts) {r : Row Ty} (ms : List Measures) (xs : List Ty) (i : ℕ) → length xs ≤ i → TypesSoFar p ms (plain_types xs) (plain_types (drop i xs)) r → IsRow plain_types r (weigh_types (weights_in p ms) (replace_types (replacement_in p ms) (plain_types xs))) 0 (rise_types (heights_in p ms) (replace_types (replacement_in p ms) (plain_types xs))) 0 (replace_types (replacement_in p ms) (plain_types xs))
types_all p {r = r} ms xs i h y = types_done (subst (λ z. TypesSoFar p ms (plain_types xs) z r) (types_end xs i h) y)

pub labels_step : (p : Puts) {r : Row (Name × Ty)} (ms ns : List Measures) (xs : List (Name × Ty)) (i : ℕ) (x : Name × Ty) (m : Made) (part : Option (Name × Ty)) (s : Row (Name × Ty)) → i < length xs → x ≡ get_or xs i x → ns ≡ ms → LabelsSoFar p ms (plain_labels xs) (plain_labels (drop i xs)) r → IsPart p ns m (plain x.1) → IfSome m.ty (λ t. part ≡ Some (x.0, t)) → (m.ty ≡ None → part ≡ None) → s.measures.weight ≡ r.measures.weight + m.measures.weight → s.measures.weight ≤ WEIGHT_LIMIT → s.measures.height ≡ max r.measures.height m.measures.height → IfSome s.items (λ v. IsGrown r.items part v.items) → (IfNone r.items (HEIGHT_LIMIT < r.measures.height) → IfNone part (HEIGHT_LIMIT < m.measures.height) → IfNone s.items (HEIGHT_LIMIT < s.measures.height)) → LabelsSoFar p ms (plain_labels xs) (plain_labels (drop (i + 1) xs)) s
labels_step p {r = r} ms ns xs i x m part s h e q y k some none w light l g n =
    labels_more (weights_in p ms) (heights_in p ms) x.0 (replace (replacement_in p ms) (plain x.1)) (replace_labels (replacement_in p ms) (plain_labels (drop (i + 1) xs))) m part s
    (subst (λ z. LabelsSoFar p ms (plain_labels xs) z r) (labels_next xs i x h e) y)
    (part_same p {m = m} ns ms (plain x.1) (plain x.1) q refl k) some none w light l g n

pub labels_reason : (p : Puts) {r : Row (Name × Ty)} (e : MakeError) (ms ns : List Measures) (xs : List (Name × Ty)) (i : ℕ) (x : Name × Ty) (v : ℕ) → i < length xs → x ≡ get_or xs i x → ns ≡ ms → LabelsSoFar p ms (plain_labels xs) (plain_labels (drop i xs)) r → v ≤ r.measures.weight + weigh (weights_in p ns) (replace (replacement_in p ns) (plain x.1)) → IsReason v e → IsReason (weigh_labels (weights_in p ms) (replace_labels (replacement_in p ms) (plain_labels xs))) e
labels_reason p {r = r} e ms ns xs i x v h k q y l z =
    let w = (subst (λ u. LabelsSoFar p ms (plain_labels xs) u r) (labels_next xs i x h k) y).weight in
    let n = ap (λ u. weigh (weights_in p u) (replace (replacement_in p u) (plain x.1))) q in
    reason_by v (weigh_labels (weights_in p ms) (replace_labels (replacement_in p ms) (plain_labels xs))) e (λ g. omega (arith, g, l, n, w)) z

pub labels_all : (p : Puts) {r : Row (Name × Ty)} (ms : List Measures) (xs : List (Name × Ty)) (i : ℕ) → length xs ≤ i → LabelsSoFar p ms (plain_labels xs) (plain_labels (drop i xs)) r → IsRow plain_labels r (weigh_labels (weights_in p ms) (replace_labels (replacement_in p ms) (plain_labels xs))) 0 (rise_labels (heights_in p ms) (replace_labels (replacement_in p ms) (plain_labels xs))) 0 (replace_labels (replacement_in p ms) (plain_labels xs))
labels_all p {r = r} ms xs i h y = labels_done (subst (λ z. LabelsSoFar p ms (plain_labels xs) z r) (labels_end xs i h) y)

-- the arguments of an operator that were made so far
abbrev pub Used : Puts → List Measures → List Bool → PlainTypes → PlainTypes
Used p ms used ts = only_used used (replace_types (replacement_in p ms) ts)

abbrev pub IsUsedPart : Puts → List Measures → Made → Bool → PlainType → Type 0
IsUsedPart p ms m used t = IsMade (weights_in p ms) (heights_in p ms) m (used_as used (replace (replacement_in p ms) t))

used_same : (p : Puts) {m : Made} (ms ns : List Measures) (b c : Bool) (t : PlainType) → ms ≡ ns → b ≡ c → IsUsedPart p ms m b t → IsUsedPart p ns m c t
used_same p {m = m} ms ns b c t e h x = subst (λ y. IsUsedPart p ns m y t) h (subst (λ y. IsUsedPart p y m b t) e x)

place_of : (s : Replacement) (xs : List Ty) (i place : ℕ) → i < length xs → place ≡ length xs - 1 - i → place ≡ count_types (replace_types s (plain_types (drop (i + 1) xs)))
place_of s xs i place h d =
    let rest = drop (i + 1) xs in
    let dropped : length rest ≡ length xs - (i + 1) = simp length-drop refl in
    omega (arith, d, h, count_replaced s (plain_types rest), count_types_length rest, dropped)

pub arguments_step : (p : Puts) {a : Arguments} (ms ns : List Measures) (xs : List Ty) (used : List Bool) (i : ℕ) (x : Ty) (mark : Bool) (m : Made) (place : ℕ) (b : Arguments) → i < length xs → x ≡ get_or xs i x → ns ≡ ms → place ≡ length xs - 1 - i → mark ≡ get_or used place false → ArgumentsSoFar (weights_in p ms) (heights_in p ms) a (Used p ms used (plain_types xs)) (Used p ms used (plain_types (drop i xs))) → IsUsedPart p ns m mark (plain x) → b.measures.items ≡ a.measures.items ++ m.measures ∷ [] → ((ws hs : List ℕ) (t : PlainType) → IsMade ws hs m t → plain_types b.kept.items ≡ and_type (plain_types a.kept.items) (kept_as t place)) → ((ws hs : List ℕ) (t : PlainType) → IsMade ws hs m t → plain_types b.types.items ≡ and_type (plain_types a.types.items) (built_as hs t)) → ArgumentsSoFar (weights_in p ms) (heights_in p ms) b (Used p ms used (plain_types xs)) (Used p ms used (plain_types (drop (i + 1) xs)))
arguments_step p {a = a} ms ns xs used i x mark m place b h e q d z y k f g j =
    let s = replacement_in p ms in
    let ws = weights_in p ms in
    let hs = heights_in p ms in
    let rest = drop (i + 1) xs in
    let us = replace_types s (plain_types rest) in
    let count : place ≡ count_types us = place_of s xs i place h d in
    let marked : mark ≡ get_or used (count_types us) false = z ∙ ap (λ n. get_or used n false) count in
    let u = used_as (get_or used (count_types us) false) (replace s (plain x)) in
    let part = used_same p {m = m} ns ms mark (get_or used (count_types us) false) (plain x) q marked k in
    let same : place ≡ count_types (only_used used us) = count ∙ sym (count_used used us) in
    arguments_more u (only_used used us) m b
    (subst (λ w. ArgumentsSoFar ws hs a (Used p ms used (plain_types xs)) (Used p ms used w)) (types_next xs i x h e) y)
    part f
    (g ws hs u part ∙ ap (λ w. and_type (plain_types a.kept.items) (kept_as u w)) same)
    (j ws hs u part)

-- the weight of the arguments that are used, so far
abbrev pub WeightSoFar : Puts → List Measures → List Bool → PlainTypes → PlainTypes → ℕ → Type 0
WeightSoFar p ms used all rest w = w + weight_used (weights_in p ms) used (replace_types (replacement_in p ms) rest) ≡ weight_used (weights_in p ms) used (replace_types (replacement_in p ms) all)

counted_same : (ws : List ℕ) (b : Bool) (m : ℕ) (u : PlainType) → m ≡ weigh ws (used_as b u) → counted b m ≡ counted b (weigh ws u)
counted_same ws true m u e = e
counted_same ws false m u e = refl

counted_heavy : (ws : List ℕ) (b : Bool) (u : PlainType) → WEIGHT_LIMIT < weigh ws (used_as b u) → WEIGHT_LIMIT < counted b (weigh ws u)
counted_heavy ws true u h = h
counted_heavy ws false u h = absurd (omega (arith, h))

weight_next : (p : Puts) (ms : List Measures) (xs : List Ty) (used : List Bool) (i : ℕ) (x : Ty) (mark : Bool) (place w : ℕ) → i < length xs → x ≡ get_or xs i x → place ≡ length xs - 1 - i → mark ≡ get_or used place false → WeightSoFar p ms used (plain_types xs) (plain_types (drop i xs)) w → WeightSoFar p ms used (plain_types xs) (plain_types (drop (i + 1) xs)) (w + counted mark (weigh (weights_in p ms) (replace (replacement_in p ms) (plain x))))
weight_next p ms xs used i x mark place w h e d z y =
    let s = replacement_in p ms in
    let ws = weights_in p ms in
    let us = replace_types s (plain_types (drop (i + 1) xs)) in
    let marked : mark ≡ get_or used (count_types us) false = z ∙ ap (λ n. get_or used n false) (place_of s xs i place h d) in
    let here : weight_used ws used (replace_types s (plain_types (drop i xs))) ≡ counted mark (weigh ws (replace s (plain x))) + weight_used ws used us =
    ap (λ u. weight_used ws used (replace_types s u)) (types_next xs i x h e) ∙ ap (λ b. counted b (weigh ws (replace s (plain x))) + weight_used ws used us) (sym marked) in
    omega (arith, here, y)

pub weight_step : (p : Puts) (ms ns : List Measures) (xs : List Ty) (used : List Bool) (i : ℕ) (x : Ty) (mark : Bool) (m : Made) (place w v : ℕ) → i < length xs → x ≡ get_or xs i x → ns ≡ ms → place ≡ length xs - 1 - i → mark ≡ get_or used place false → WeightSoFar p ms used (plain_types xs) (plain_types (drop i xs)) w → IsUsedPart p ns m mark (plain x) → v ≡ w + counted mark m.measures.weight → WeightSoFar p ms used (plain_types xs) (plain_types (drop (i + 1) xs)) v
weight_step p ms ns xs used i x mark m place w v h e q d z y k r =
    let part = used_same p {m = m} ns ms mark mark (plain x) q refl k in
    let same = counted_same (weights_in p ms) mark m.measures.weight (replace (replacement_in p ms) (plain x)) part.weight in
    omega (arith, weight_next p ms xs used i x mark place w h e d z y, same, r)

pub weight_reason : (p : Puts) (e : MakeError) (ms ns : List Measures) (xs : List Ty) (used : List Bool) (i : ℕ) (x : Ty) (mark : Bool) (m : Made) (place w v : ℕ) → i < length xs → x ≡ get_or xs i x → ns ≡ ms → place ≡ length xs - 1 - i → mark ≡ get_or used place false → WeightSoFar p ms used (plain_types xs) (plain_types (drop i xs)) w → IsUsedPart p ns m mark (plain x) → v ≡ w + counted mark m.measures.weight → IsReason v e → IsReason (weight_used (weights_in p ms) used (replace_types (replacement_in p ms) (plain_types xs))) e
weight_reason p e ms ns xs used i x mark m place w v h k q d z y part r reason =
    reason_by v (weight_used (weights_in p ms) used (replace_types (replacement_in p ms) (plain_types xs))) e (λ g. omega (arith, g, weight_step p ms ns xs used i x mark m place w v h k q d z y part r)) reason

pub arguments_reason : (p : Puts) (e : MakeError) (ms ns : List Measures) (xs : List Ty) (used : List Bool) (i : ℕ) (x : Ty) (mark : Bool) (place w : ℕ) → i < length xs → x ≡ get_or xs i x → ns ≡ ms → place ≡ length xs - 1 - i → mark ≡ get_or used place false → WeightSoFar p ms used (plain_types xs) (plain_types (drop i xs)) w → IsReason (weigh (weights_in p ns) (used_as mark (replace (replacement_in p ns) (plain x)))) e → IsReason (weight_used (weights_in p ms) used (replace_types (replacement_in p ms) (plain_types xs))) e
arguments_reason p e ms ns xs used i x mark place w h k q d z y reason =
    let same = ap (λ u. weigh (weights_in p u) (used_as mark (replace (replacement_in p u) (plain x)))) q in
    reason_by (weigh (weights_in p ns) (used_as mark (replace (replacement_in p ns) (plain x)))) (weight_used (weights_in p ms) used (replace_types (replacement_in p ms) (plain_types xs))) e
    (λ g. omega (arith, weight_next p ms xs used i x mark place w h k d z y, counted_heavy (weights_in p ms) mark (replace (replacement_in p ms) (plain x)) (omega (arith, g, same)))) reason

pub arguments_all : (p : Puts) {a : Arguments} (ms : List Measures) (xs : List Ty) (used : List Bool) (i : ℕ) → length xs ≤ i → ArgumentsSoFar (weights_in p ms) (heights_in p ms) a (Used p ms used (plain_types xs)) (Used p ms used (plain_types (drop i xs))) → AreArguments (weights_in p ms) (heights_in p ms) a (Used p ms used (plain_types xs))
arguments_all p {a = a} ms xs used i h y =
    arguments_done (subst (λ z. ArgumentsSoFar (weights_in p ms) (heights_in p ms) a (Used p ms used (plain_types xs)) (Used p ms used z)) (types_end xs i h) y)

-- the body of an operator with the arguments is what stands for the applied variable
pub operator_is : (n by : ℕ) (s : Replacement) (i : ℕ) (ts : PlainTypes) (t : PlainType) → n ≡ count_types (replace_types s ts) → operator n (rename (moved by n) t) ≡ s.head_of i → fill (put_for (replace_types s ts) by) t ≡ replace s (Apply i ts)
operator_is n by s i ts t e h =
    let us = replace_types s ts in
    ap (λ k. fill (with_types k us (moved_by by)) t) (sym e) ∙ sym (applied_moved n by us t) ∙ ap (λ k. apply_head k us) h

-- an error of the fields of a record, under its type fields
pub types_under_reason : {p : Puts} (e : MakeError) (ms ns : List Measures) (bs : PlainBounds) (ps : PlainTypes) (ls : PlainLabels) → IsUnder p ms ns bs → IsReason (weigh_types (weights_in p ns) (replace_types (replacement_in p ns) ps)) e → IsReason (weigh (weights_in p ms) (replace (replacement_in p ms) (Fields bs ps ls))) e
types_under_reason {p = p} e ms ns bs ps ls u x =
    let s = replacement_beyond_all bs (replacement_in p ms) in
    let us = replace_types s ps in
    let y = subst (λ k. IsReason (weigh_types (weights_in p ns) (replace_types k ps)) e) (under_replacement ms ns bs u) x in
    let same = ap (λ ws. weigh_types ws us) u.weights_ in
    reason_by (weigh_types (weights_in p ns) us) (weigh (weights_in p ms) (replace (replacement_in p ms) (Fields bs ps ls))) e (λ g. omega (arith, g, same)) y

pub labels_under_reason : {p : Puts} (e : MakeError) (ms ns : List Measures) (bs : PlainBounds) (ps : PlainTypes) (ls : PlainLabels) → IsUnder p ms ns bs → IsReason (weigh_labels (weights_in p ns) (replace_labels (replacement_in p ns) ls)) e → IsReason (weigh (weights_in p ms) (replace (replacement_in p ms) (Fields bs ps ls))) e
labels_under_reason {p = p} e ms ns bs ps ls u x =
    let s = replacement_beyond_all bs (replacement_in p ms) in
    let us = replace_labels s ls in
    let y = subst (λ k. IsReason (weigh_labels (weights_in p ns) (replace_labels k ls)) e) (under_replacement ms ns bs u) x in
    let same = ap (λ ws. weigh_labels ws us) u.weights_ in
    reason_by (weigh_labels (weights_in p ns) us) (weigh (weights_in p ms) (replace (replacement_in p ms) (Fields bs ps ls))) e (λ g. omega (arith, g, same)) y

-- a record of its fields
pub record_fields : (p : Puts) (ms ns ks : List Measures) (bs : PlainBounds) (ps : PlainTypes) (ls : PlainLabels) (b : Row Bound) (r : Row Ty) (l : Row (Name × Ty)) → IsUnder p ms ns bs → ks ≡ ns → IsRow plain_bounds b (weigh_bounds (weights_in p ms) (replace_bounds (replacement_in p ms) bs)) 0 (rise_bounds (heights_in p ms) (replace_bounds (replacement_in p ms) bs)) 0 (replace_bounds (replacement_in p ms) bs) → IsRow plain_types r (weigh_types (weights_in p ns) (replace_types (replacement_in p ns) ps)) 0 (rise_types (heights_in p ns) (replace_types (replacement_in p ns) ps)) 0 (replace_types (replacement_in p ns) ps) → IsRow plain_labels l (weigh_labels (weights_in p ks) (replace_labels (replacement_in p ks) ls)) 0 (rise_labels (heights_in p ks) (replace_labels (replacement_in p ks) ls)) 0 (replace_labels (replacement_in p ks) ls) → (P : List ℕ → List ℕ → PlainBounds → PlainTypes → PlainLabels → Type 0) → ((ws hs : List ℕ) (bs : PlainBounds) (ps : PlainTypes) (ls : PlainLabels) → IsRow plain_bounds b (weigh_bounds ws bs) 0 (rise_bounds hs bs) 0 bs → IsRow plain_types r (weigh_types (weights_under ws bs) ps) 0 (rise_types (heights_under hs bs) ps) 0 ps → IsRow plain_labels l (weigh_labels (weights_under ws bs) ls) 0 (rise_labels (heights_under hs bs) ls) 0 ls → P ws hs bs ps ls) → P (weights_in p ms) (heights_in p ms) (replace_bounds (replacement_in p ms) bs) (replace_types (replacement_beyond_all bs (replacement_in p ms)) ps) (replace_labels (replacement_beyond_all bs (replacement_in p ms)) ls)
record_fields p ms ns ks bs ps ls b r l u e x y z P f =
    let s = replacement_in p ms in
    f (weights_in p ms) (heights_in p ms) (replace_bounds s bs) (replace_types (replacement_beyond_all bs s) ps) (replace_labels (replacement_beyond_all bs s) ls) x
    (types_under ms ns bs ps u y)
    (labels_under ms ns bs ls u (subst (λ k. IsRow plain_labels l (weigh_labels (weights_in p k) (replace_labels (replacement_in p k) ls)) 0 (rise_labels (heights_in p k) (replace_labels (replacement_in p k) ls)) 0 (replace_labels (replacement_in p k) ls)) e z))
