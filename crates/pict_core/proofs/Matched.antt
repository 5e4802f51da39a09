-- Matching a record part by part.
use Rattle.std.proofs.Common.{ℕ, suc, ◌+◌, ◌≡◌, ◌≢◌, ◌<◌, Bool, true, false, List, [], ◌∷◌, ◌++◌, map, length, get_or, drop, refl, sym, ap, ◌∙◌, subst, Option, Some, None, option_and_then, arith, append_assoc, add-one, Vec, Global}
use Rattle.std.proofs.Math.Seq.{drop-cons}
use Rattle.std.proofs.lemmas.List.{length-map}
use Rattle.pict_syntax.specs.declared.name.Name.{Name}
use Rattle.pict_core.specs.Term.{Val, Pat, RecordPat}
use Rattle.pict_core.specs.Matching.{match_value, match_values, match_labelled, both, field_at}
use Rattle.pict_core.specs.Found.{Extends, after, Found}
use Rattle.pict_core.specs.Plain.{plain_val, plain_pat, plain_field, plain_pat_field, pats_of, vals_of, labelled_of, labelled_pats_of}
use Rattle.pict_core.proofs.Fields.{plain_val-Fields, plain_pat-Fields}
use Rattle.pict_core.specs.declared.value.CoreVal.{CoreVal}
use Rattle.pict_core.specs.declared.value.CoreVal.TheVariants as value
use Rattle.pict_core.specs.declared.pattern.CorePat.{CorePat}
use Rattle.pict_core.specs.declared.pattern.CorePat.TheVariants as pattern

pub extends_both : (b : Bool) (x y : Option (List Val)) (old mid new : List Val) → Extends true x old mid → Extends b y mid new → Extends b (both x y) old new
extends_both b None y old mid new e f = cc
extends_both b (Some vs) None old mid new e f = f
extends_both b (Some vs) (Some ws) old mid new e f = (f.0, f.1 ∙ ap (λ l. l ++ ws) e.1 ∙ append_assoc old vs ws)

pub after-both : (found vs : List Val) (rest : Option (List Val)) → after found (both (Some vs) rest) ≡ after (found ++ vs) rest
after-both found vs None = refl
after-both found vs (Some ws) = ap Some (sym (append_assoc found vs ws))

pub found_more : (whole left rest o : Option (List Val)) (old mid new : List Val) → Found whole left old mid → left ≡ both o rest → Extends true o mid new → Found whole rest old new
found_more whole left rest None old mid new f e x = cc
found_more whole left rest (Some vs) old mid new f e x = record {
  found = f.found ++ vs;
  grown = x.1 ∙ ap (λ l. l ++ vs) f.grown ∙ append_assoc old f.found vs;
  same = f.same ∙ ap (after f.found) e ∙ after-both f.found vs rest;
}

both_none : (x : Option (List Val)) → both x None ≡ None
both_none None = refl
both_none (Some vs) = refl

pub uneven : (ps : List Pat) (vs : List Val) → length ps ≢ length vs → match_values (pats_of ps) (vals_of vs) ≡ None
uneven [] [] n = absurd (n refl)
uneven [] (v ∷ vs) n = refl
uneven (p ∷ ps) [] n = refl
uneven (p ∷ ps) (v ∷ vs) n = ap (both (match_value p v)) (uneven ps vs (λ e. n (omega arith))) ∙ both_none (match_value p v)

pub uneven_slices : (ps : List CorePat) (vs : List CoreVal) (old : List Val) → length ps ≢ length vs → Extends false (match_values (pats_of (map plain_pat ps)) (vals_of (map plain_val vs))) old old
uneven_slices ps vs old n = subst (λ o. Extends false o old old) (sym (uneven (map plain_pat ps) (map plain_val vs) (λ e. n (omega (arith, length-map ps plain_pat, length-map vs plain_val))))) refl

-- a list from a place on begins with the item there
pub from_place : {A : Type 0} (xs : List A) (i : ℕ) (x : A) → i < length xs → x ≡ get_or xs i x → drop i xs ≡ x ∷ drop (i + 1) xs
from_place xs i x h a = drop-cons xs i x h ∙ ap (λ y. y ∷ drop (suc i) xs) (sym a) ∙ ap (λ n. x ∷ drop n xs) (sym (add-one i))

pub positional_step : (ps : List CorePat) (vs : List CoreVal) (i : ℕ) (p : CorePat) (v : CoreVal) → i < length ps → i < length vs → p ≡ get_or ps i p → v ≡ get_or vs i v
    → match_values (pats_of (map plain_pat (drop i ps))) (vals_of (map plain_val (drop i vs))) ≡ both (match_value (plain_pat p) (plain_val v)) (match_values (pats_of (map plain_pat (drop (i + 1) ps))) (vals_of (map plain_val (drop (i + 1) vs))))
positional_step ps vs i p v h k a b =
    ap (λ l. match_values (pats_of (map plain_pat l)) (vals_of (map plain_val (drop i vs)))) (from_place ps i p h a)
    ∙ ap (λ l. match_values (pats_of (map plain_pat (p ∷ drop (i + 1) ps))) (vals_of (map plain_val l))) (from_place vs i v k b)

pub labelled_step : (ps : List (Name × CorePat)) (es : List (Name × CoreVal)) (i : ℕ) (p : Name × CorePat) → i < length ps → p ≡ get_or ps i p
    → match_labelled (labelled_pats_of (map plain_pat_field (drop i ps))) (labelled_of (map plain_field es))
    ≡ both (option_and_then (match_value (plain_pat p.1)) (field_at p.0.0 (labelled_of (map plain_field es)))) (match_labelled (labelled_pats_of (map plain_pat_field (drop (i + 1) ps))) (labelled_of (map plain_field es)))
labelled_step ps es i p h a = ap (λ l. match_labelled (labelled_pats_of (map plain_pat_field l)) (labelled_of (map plain_field es))) (from_place ps i p h a)

-- a record is its positional parts, and then those at its labels
pub match_record : (b : Bool) (a : CorePat) (v : CoreVal) (ps : Vec CorePat Global) (ls : Vec (Name × CorePat) Global) (vs : Vec CoreVal Global) (es : Vec (Name × CoreVal) Global) (old mid new : List Val)
    → a ≡ pattern.Fields ps ls → v ≡ value.Fields vs es
    → (ps' : List CorePat) (vs' : List CoreVal) (ls' : List (Name × CorePat)) (es' : List (Name × CoreVal)) → ps' ≡ ps.items → vs' ≡ vs.items → ls' ≡ ls.items → es' ≡ es.items
    → Extends true (match_values (pats_of (map plain_pat ps')) (vals_of (map plain_val vs'))) old mid
    → Extends b (match_labelled (labelled_pats_of (map plain_pat_field ls')) (labelled_of (map plain_field es'))) mid new
    → Extends b (match_value (plain_pat a) (plain_val v)) old new
match_record b a v ps ls vs es old mid new p q ps' vs' ls' es' f g h k x y =
    let e : match_value (plain_pat a) (plain_val v) ≡ both (match_values (pats_of (map plain_pat ps.items)) (vals_of (map plain_val vs.items))) (match_labelled (labelled_pats_of (map plain_pat_field ls.items)) (labelled_of (map plain_field es.items)))
    = ap (λ m. match_value m (plain_val v)) (ap plain_pat p ∙ plain_pat-Fields ps ls) ∙ ap (match_value (RecordPat (pats_of (map plain_pat ps.items)) (labelled_pats_of (map plain_pat_field ls.items)))) (ap plain_val q ∙ plain_val-Fields vs es) in
    let x' : Extends true (match_values (pats_of (map plain_pat ps.items)) (vals_of (map plain_val vs.items))) old mid
    = subst (λ l. Extends true (match_values (pats_of (map plain_pat l)) (vals_of (map plain_val vs.items))) old mid) f (subst (λ l. Extends true (match_values (pats_of (map plain_pat ps')) (vals_of (map plain_val l))) old mid) g x) in
    let y' : Extends b (match_labelled (labelled_pats_of (map plain_pat_field ls.items)) (labelled_of (map plain_field es.items))) mid new
    = subst (λ l. Extends b (match_labelled (labelled_pats_of (map plain_pat_field l)) (labelled_of (map plain_field es.items))) mid new) h (subst (λ l. Extends b (match_labelled (labelled_pats_of (map plain_pat_field ls')) (labelled_of (map plain_field l))) mid new) k y) in
    subst (λ o. Extends b o old new) (sym e) (extends_both b _ _ old mid new x' y')

pub at_label : (p : Pat) (v : Val) (l : Option Val) (mid new : List Val) → Some v ≡ l → Extends true (match_value p v) mid new → Extends true (option_and_then (match_value p) l) mid new
at_label p v l mid new e x = subst (λ o. Extends true (option_and_then (match_value p) o) mid new) e x
