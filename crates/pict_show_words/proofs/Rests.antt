-- The fields of a record from an index on, by the field at it.
use Rattle.std.proofs.Common.{◌≡◌, ℕ, zero, suc, ◌+◌, Some, None, refl, sym, ◌∙◌, ap, arith}
use Rattle.pict_core.specs.Term.{Val, Vals, Labelled, Var, Chan, Int, Char, Boolean, Text, PrimitiveVal, Record, no_vals, more_vals, no_labelled, more_labelled}
use Rattle.pict_heap.specs.Fields.{nth, nth_labelled, positional_field, labelled_field_at}
use Rattle.pict_show_words.specs.Fields.{positional_in, labelled_in, drop_vals, drop_labelled, positional_from, labelled_from}

drop_some : (vs : Vals) (i : ℕ) (x : Val) → nth vs i ≡ Some x → drop_vals i vs ≡ more_vals x (drop_vals (suc i) vs)
drop_some no_vals i x e = cc
drop_some (more_vals v vs) zero x e = let same : v ≡ x = cc in ap (λ y. more_vals y vs) same
drop_some (more_vals v vs) (suc i) x e = drop_some vs i x e

drop_none : (vs : Vals) (i : ℕ) → nth vs i ≡ None → drop_vals i vs ≡ no_vals
drop_none no_vals zero e = refl
drop_none no_vals (suc i) e = refl
drop_none (more_vals v vs) zero e = cc
drop_none (more_vals v vs) (suc i) e = drop_none vs i e

labelled_drop_some : (ls : Labelled) (i l : ℕ) (x : Val) → nth_labelled ls i ≡ Some (l, x) → drop_labelled i ls ≡ more_labelled l x (drop_labelled (suc i) ls)
labelled_drop_some no_labelled i l x e = cc
labelled_drop_some (more_labelled k v ls) zero l x e = let same : ◌≡◌ {A = ℕ × Val} (k, v) (l, x) = cc in ap (λ y. more_labelled y.0 y.1 ls) same
labelled_drop_some (more_labelled k v ls) (suc i) l x e = labelled_drop_some ls i l x e

labelled_drop_none : (ls : Labelled) (i : ℕ) → nth_labelled ls i ≡ None → drop_labelled i ls ≡ no_labelled
labelled_drop_none no_labelled zero e = refl
labelled_drop_none no_labelled (suc i) e = refl
labelled_drop_none (more_labelled l v ls) zero e = cc
labelled_drop_none (more_labelled l v ls) (suc i) e = labelled_drop_none ls i e

none_dropped : (vs : Vals) (i : ℕ) → drop_vals i vs ≡ no_vals → nth vs i ≡ None
none_dropped no_vals i e = refl
none_dropped (more_vals v vs) zero e = cc
none_dropped (more_vals v vs) (suc i) e = none_dropped vs i e

none_labelled_dropped : (ls : Labelled) (i : ℕ) → drop_labelled i ls ≡ no_labelled → nth_labelled ls i ≡ None
none_labelled_dropped no_labelled i e = refl
none_labelled_dropped (more_labelled l v ls) zero e = cc
none_labelled_dropped (more_labelled l v ls) (suc i) e = none_labelled_dropped ls i e

nth_in : (v : Val) (i : ℕ) → positional_field v i ≡ nth (positional_in v) i
nth_in (Record vs ls) i = refl
nth_in (Var n) i = refl
nth_in (Chan n) i = refl
nth_in (Int n) i = refl
nth_in (Char n) i = refl
nth_in (Boolean n) i = refl
nth_in (Text n) i = refl
nth_in (PrimitiveVal n) i = refl

nth_labelled_in : (v : Val) (i : ℕ) → labelled_field_at v i ≡ nth_labelled (labelled_in v) i
nth_labelled_in (Record vs ls) i = refl
nth_labelled_in (Var n) i = refl
nth_labelled_in (Chan n) i = refl
nth_labelled_in (Int n) i = refl
nth_labelled_in (Char n) i = refl
nth_labelled_in (Boolean n) i = refl
nth_labelled_in (Text n) i = refl
nth_labelled_in (PrimitiveVal n) i = refl

-- the fields from an index on, by the field at it
pub from_some : (v x : Val) (i : ℕ) → positional_field v i ≡ Some x → positional_from i v ≡ more_vals x (positional_from (i + 1) v)
from_some v x i e =
    let next : suc i ≡ i + 1 = omega arith in
    drop_some (positional_in v) i x (sym (nth_in v i) ∙ e) ∙ ap (λ n. more_vals x (positional_from n v)) next

pub from_none : (v : Val) (i : ℕ) → positional_field v i ≡ None → positional_from i v ≡ no_vals
from_none v i e = drop_none (positional_in v) i (sym (nth_in v i) ∙ e)

pub labelled_from_some : (v x : Val) (i l : ℕ) → labelled_field_at v i ≡ Some (l, x) → labelled_from i v ≡ more_labelled l x (labelled_from (i + 1) v)
labelled_from_some v x i l e =
    let next : suc i ≡ i + 1 = omega arith in
    labelled_drop_some (labelled_in v) i l x (sym (nth_labelled_in v i) ∙ e) ∙ ap (λ n. more_labelled l x (labelled_from n v)) next

pub labelled_from_none : (v : Val) (i : ℕ) → labelled_field_at v i ≡ None → labelled_from i v ≡ no_labelled
labelled_from_none v i e = labelled_drop_none (labelled_in v) i (sym (nth_labelled_in v i) ∙ e)

-- where there is none, no field is at it
pub none_from : (v : Val) (i : ℕ) → positional_from i v ≡ no_vals → positional_field v i ≡ None
none_from v i e = nth_in v i ∙ none_dropped (positional_in v) i e

pub none_labelled_from : (v : Val) (i : ℕ) → labelled_from i v ≡ no_labelled → labelled_field_at v i ≡ None
none_labelled_from v i e = nth_labelled_in v i ∙ none_labelled_dropped (labelled_in v) i e
