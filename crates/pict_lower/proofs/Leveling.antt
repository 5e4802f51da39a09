-- Fields of patterns as lists.
use Rattle.std.proofs.Common.{◌≡◌, ℕ, ◌+◌, List, [], ◌∷◌, map, refl, sym, ap, ◌∙◌, arith, rules, Vec, Global}
use Rattle.pict_syntax.specs.declared.name.Name.{Name}
use Rattle.pict_core.specs.Term as term
use Rattle.pict_core.specs.Term.{Pat}
use Rattle.pict_core.specs.Closed.{binds, binds_all, binds_labelled}
use Rattle.pict_core.specs.Plain.{plain_pat, plain_pat_field, pats_of, labelled_pats_of}
use Rattle.pict_core.specs.declared.pattern.CorePat.{CorePat}
use Rattle.pict_core.specs.declared.pattern.CorePat.TheVariants as core
use Rattle.pict_core.proofs.Fields.{plain_pat-Fields}
use Rattle.pict_code.specs.Instruction as code
use Rattle.pict_code.specs.Nodes.{leveled, leveled_all, leveled_labelled}
use Rattle.pict_code.specs.Plain as plain
use Rattle.pict_code.specs.declared.pattern.CodePat.{CodePat, the_lemmas}
use Rattle.pict_code.specs.declared.pattern.CodePat.TheVariants as made
use Rattle.pict_lower.specs.Fields.{binds_each, binds_each_labelled, leveled_each, leveled_each_labelled}

binds_are : (ps : List Pat) → binds_all (pats_of ps) ≡ binds_each ps
binds_are [] = refl
binds_are (p ∷ ps) = ap (λ n. binds p + n) (binds_are ps)

labelled_binds_are : (fs : List (Name × Pat)) → binds_labelled (labelled_pats_of fs) ≡ binds_each_labelled fs
labelled_binds_are [] = refl
labelled_binds_are (f ∷ fs) = ap (λ n. binds f.1 + n) (labelled_binds_are fs)

levels_are : (level : ℕ) (ps : List Pat) → leveled_all level (pats_of ps) ≡ plain.pats_of (leveled_each level ps)
levels_are level [] = refl
levels_are level (p ∷ ps) = ap (code.more_pats (leveled level p)) (levels_are (level + binds p) ps)

labelled_levels_are : (level : ℕ) (fs : List (Name × Pat)) → leveled_labelled level (labelled_pats_of fs) ≡ plain.labelled_pats_of (leveled_each_labelled level fs)
labelled_levels_are level [] = refl
labelled_levels_are level (f ∷ fs) = ap (code.more_labelled_pats f.0.0 (leveled level f.1)) (labelled_levels_are (level + binds f.1) fs)

-- how many variables a record pattern binds
pub record_binds : (p : CorePat) (ps : Vec CorePat Global) (ls : Vec (Name × CorePat) Global) → p ≡ core.Fields ps ls
    → binds (plain_pat p) ≡ binds_each (map plain_pat ps.items) + binds_each_labelled (map plain_pat_field ls.items)
record_binds p ps ls is =
    ap (λ q. binds (plain_pat q)) is ∙ ap binds (plain_pat-Fields ps ls)
    ∙ ap (λ n. n + binds_labelled (labelled_pats_of (map plain_pat_field ls.items))) (binds_are (map plain_pat ps.items))
    ∙ ap (λ n. binds_each (map plain_pat ps.items) + n) (labelled_binds_are (map plain_pat_field ls.items))

made-Fields : (p : Vec CodePat Global) (l : Vec (Name × CodePat) Global)
    → plain.plain_pat (made.Fields p l) ≡ code.RecordPat (plain.pats_of (map plain.plain_pat p.items)) (plain.labelled_pats_of (map plain.plain_pat_field l.items))
made-Fields p l = search (rules, the_lemmas)

-- a record pattern with its levels
pub record_levels : (level after : ℕ) (p : CorePat) (ps : Vec CorePat Global) (ls : Vec (Name × CorePat) Global) (qs : Vec CodePat Global) (ms : Vec (Name × CodePat) Global)
    → p ≡ core.Fields ps ls → map plain.plain_pat qs.items ≡ leveled_each level (map plain_pat ps.items) → after ≡ level + binds_each (map plain_pat ps.items)
    → map plain.plain_pat_field ms.items ≡ leveled_each_labelled after (map plain_pat_field ls.items)
    → plain.plain_pat (made.Fields qs ms) ≡ leveled level (plain_pat p)
record_levels level after p ps ls qs ms is e f g =
    let n : level + binds_all (pats_of (map plain_pat ps.items)) ≡ after = ap (λ k. level + k) (binds_are (map plain_pat ps.items)) ∙ sym f in
    made-Fields qs ms
    ∙ ap (λ l. code.RecordPat (plain.pats_of l) (plain.labelled_pats_of (map plain.plain_pat_field ms.items))) e
    ∙ ap (λ l. code.RecordPat (plain.pats_of (leveled_each level (map plain_pat ps.items))) (plain.labelled_pats_of l)) g
    ∙ ap (λ q. code.RecordPat q (plain.labelled_pats_of (leveled_each_labelled after (map plain_pat_field ls.items)))) (sym (levels_are level (map plain_pat ps.items)))
    ∙ ap (λ q. code.RecordPat (leveled_all level (pats_of (map plain_pat ps.items))) q) (sym (labelled_levels_are after (map plain_pat_field ls.items)))
    ∙ ap (λ k. code.RecordPat (leveled_all level (pats_of (map plain_pat ps.items))) (leveled_labelled k (labelled_pats_of (map plain_pat_field ls.items)))) (sym n)
    ∙ sym (ap (leveled level) (plain_pat-Fields ps ls)) ∙ sym (ap (λ q. leveled level (plain_pat q)) is)
