-- What holds of a list of patterns from one of them on.
use Rattle.std.proofs.Common.{◌≡◌, ℕ, ◌+◌, ◌<◌, List, [], ◌∷◌, ◌++◌, length, take, drop, get_or, refl, sym, ◌∙◌, ap, subst}
use Rattle.std.proofs.lemmas.List.{take-append-drop}
use Rattle.pict_syntax.specs.declared.pattern.Pat.{Pat as RPat}
use Rattle.pict_syntax.specs.declared.pattern.LabelledPat.{LabelledPat as RLabelledPat}
use Rattle.pict_syntax.specs.declared.id.Id.{Id}
use Rattle.pict_syntax.specs.Trees.{Pat, Pats, no_pats, more_pats, LabelledPats, no_labelled_pats, more_labelled_pats}
use Rattle.pict_syntax.specs.PlainTrees.{pat_of, pats_on, labelled_pats_on}
use Rattle.pict_scope.specs.DistinctLabels.{PatHasDistinctLabels, PatsHaveDistinctLabels, LabelledPatsAreDistinct}
use Rattle.pict_infer.proofs.Forms.{next_pat, next_labelled}

pats_both : (ps : Pats) (xs ys : List RPat) → pats_on ps (xs ++ ys) ≡ pats_on (pats_on ps xs) ys
unfolding pats_on
pats_both ps [] ys = refl
pats_both ps (x ∷ xs) ys = pats_both (more_pats ps (pat_of x)) xs ys

kept : (P : Pats → Type 0) → ((ps : Pats) (p : Pat) → P ps → P (more_pats ps p)) → (ps : Pats) (xs : List RPat) → P ps → P (pats_on ps xs)
unfolding pats_on
kept P f ps [] h = h
kept P f ps (x ∷ xs) h = kept P f (more_pats ps (pat_of x)) xs (f ps (pat_of x) h)

-- what each further pattern keeps holds of all, where it holds up to one of them
pub kept_on : (P : Pats → Type 0) → ((ps : Pats) (p : Pat) → P ps → P (more_pats ps p)) → (xs : List RPat) (i : ℕ) (x : RPat) → i < length xs → x ≡ get_or xs i x
    → P (more_pats (pats_on no_pats (take i xs)) (pat_of x)) → P (pats_on no_pats xs)
kept_on P f xs i x h is p =
    let whole : pats_on no_pats xs ≡ pats_on (more_pats (pats_on no_pats (take i xs)) (pat_of x)) (drop (i + 1) xs) =
    ap (pats_on no_pats) (sym (take-append-drop (i + 1) xs)) ∙ pats_both no_pats (take (i + 1) xs) (drop (i + 1) xs) ∙ ap (λ ps. pats_on ps (drop (i + 1) xs)) (next_pat xs i x h is) in
    subst P (sym whole) (kept P f (more_pats (pats_on no_pats (take i xs)) (pat_of x)) (drop (i + 1) xs) p)

labelled_both : (ls : LabelledPats) (xs ys : List RLabelledPat) → labelled_pats_on ls (xs ++ ys) ≡ labelled_pats_on (labelled_pats_on ls xs) ys
unfolding labelled_pats_on
labelled_both ls [] ys = refl
labelled_both ls (x ∷ xs) ys = labelled_both (more_labelled_pats ls x.label (pat_of x.pat)) xs ys

labelled_kept : (P : LabelledPats → Type 0) → ((ls : LabelledPats) (l : Id) (p : Pat) → P ls → P (more_labelled_pats ls l p)) → (ls : LabelledPats) (xs : List RLabelledPat) → P ls → P (labelled_pats_on ls xs)
unfolding labelled_pats_on
labelled_kept P f ls [] h = h
labelled_kept P f ls (x ∷ xs) h = labelled_kept P f (more_labelled_pats ls x.label (pat_of x.pat)) xs (f ls x.label (pat_of x.pat) h)

pub labelled_kept_on : (P : LabelledPats → Type 0) → ((ls : LabelledPats) (l : Id) (p : Pat) → P ls → P (more_labelled_pats ls l p)) → (xs : List RLabelledPat) (i : ℕ) (x : RLabelledPat) → i < length xs → x ≡ get_or xs i x
    → P (more_labelled_pats (labelled_pats_on no_labelled_pats (take i xs)) x.label (pat_of x.pat)) → P (labelled_pats_on no_labelled_pats xs)
labelled_kept_on P f xs i x h is p =
    let whole : labelled_pats_on no_labelled_pats xs ≡ labelled_pats_on (more_labelled_pats (labelled_pats_on no_labelled_pats (take i xs)) x.label (pat_of x.pat)) (drop (i + 1) xs) =
    ap (labelled_pats_on no_labelled_pats) (sym (take-append-drop (i + 1) xs)) ∙ labelled_both no_labelled_pats (take (i + 1) xs) (drop (i + 1) xs)
    ∙ ap (λ ls. labelled_pats_on ls (drop (i + 1) xs)) (next_labelled xs i x h is) in
    subst P (sym whole) (labelled_kept P f (more_labelled_pats (labelled_pats_on no_labelled_pats (take i xs)) x.label (pat_of x.pat)) (drop (i + 1) xs) p)

-- so the labels within one of the patterns are distinct where those within all are
pub pat_distinct : (xs : List RPat) (i : ℕ) (x : RPat) → i < length xs → x ≡ get_or xs i x → PatsHaveDistinctLabels (pats_on no_pats xs) → PatHasDistinctLabels (pat_of x)
pat_distinct xs i x h is = kept_on (λ ps. PatsHaveDistinctLabels ps → PatHasDistinctLabels (pat_of x)) (λ ps p f d. f d.0) xs i x h is (λ d. d.1)

pub labelled_distinct : (xs : List RLabelledPat) (i : ℕ) (x : RLabelledPat) → i < length xs → x ≡ get_or xs i x → LabelledPatsAreDistinct (labelled_pats_on no_labelled_pats xs) → PatHasDistinctLabels (pat_of x.pat)
labelled_distinct xs i x h is = labelled_kept_on (λ ls. LabelledPatsAreDistinct ls → PatHasDistinctLabels (pat_of x.pat)) (λ ls l p f d. f d.0) xs i x h is (λ d. d.1.1)
