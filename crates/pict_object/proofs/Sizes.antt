-- The bytes of a record, by those of its fields.
use Rattle.std.proofs.Common.{◌≡◌, ℕ, ◌+◌, List, ◌++◌, map, length, length-append, ap, sym, ◌∙◌, arith, Vec, Global}
use Rattle.pict_syntax.specs.declared.name.Name.{Name}
use Rattle.pict_core.specs.Term as term
use Rattle.pict_core.specs.Plain.{plain_val, plain_field, vals_of, labelled_of, plain_pat, plain_pat_field, pats_of, labelled_pats_of}
use Rattle.pict_core.specs.declared.value.CoreVal.{CoreVal}
use Rattle.pict_core.specs.declared.value.CoreVal.TheVariants as value
use Rattle.pict_core.specs.declared.pattern.CorePat.{CorePat}
use Rattle.pict_core.specs.declared.pattern.CorePat.TheVariants as pattern
use Rattle.pict_core.proofs.Fields.{plain_val-Fields, plain_pat-Fields}
use Rattle.pict_object.specs.Objects.{value_bytes, values_bytes, labelled_bytes, pattern_bytes, patterns_bytes, labelled_patterns_bytes, count_bytes, how_many_vals, how_many_labelled, how_many_pats, how_many_labelled_pats}

-- two lists of parts, each behind its count
pub two_lists : (a b : ℕ) (xs ys : List ℕ) → length (count_bytes a ++ (xs ++ (count_bytes b ++ ys))) ≡ length xs + length ys + 8
two_lists a b xs ys =
    let n = length-append xs (count_bytes b ++ ys) in
    omega (arith, n)

pub record_length : (place : ℕ → ℕ) (vs : term.Vals) (ls : term.Labelled) → length (value_bytes place (term.Record vs ls)) ≡ length (values_bytes place vs) + length (labelled_bytes place ls) + 9
record_length place vs ls =
    let n = two_lists (how_many_vals vs) (how_many_labelled ls) (values_bytes place vs) (labelled_bytes place ls) in omega (arith, n)

pub pattern_length : (place : ℕ → ℕ) (ps : term.Pats) (ls : term.LabelledPats) → length (pattern_bytes place (term.RecordPat ps ls)) ≡ length (patterns_bytes place ps) + length (labelled_patterns_bytes place ls) + 9
pattern_length place ps ls =
    let n = two_lists (how_many_pats ps) (how_many_labelled_pats ls) (patterns_bytes place ps) (labelled_patterns_bytes place ls) in omega (arith, n)

pub fields_are : (v : CoreVal) (p : Vec CoreVal Global) (l : Vec (Name × CoreVal) Global) (vs : List CoreVal) (ls : List (Name × CoreVal)) → v ≡ value.Fields p l
    → vs ≡ p.items → ls ≡ l.items → plain_val v ≡ term.Record (vals_of (map plain_val vs)) (labelled_of (map plain_field ls))
fields_are v p l vs ls is e f =
    ap plain_val is ∙ plain_val-Fields p l ∙ ap (λ xs. term.Record (vals_of (map plain_val xs)) (labelled_of (map plain_field l.items))) (sym e)
    ∙ ap (λ xs. term.Record (vals_of (map plain_val vs)) (labelled_of (map plain_field xs))) (sym f)

pub pattern_fields_are : (v : CorePat) (p : Vec CorePat Global) (l : Vec (Name × CorePat) Global) (ps : List CorePat) (ls : List (Name × CorePat)) → v ≡ pattern.Fields p l
    → ps ≡ p.items → ls ≡ l.items → plain_pat v ≡ term.RecordPat (pats_of (map plain_pat ps)) (labelled_pats_of (map plain_pat_field ls))
pattern_fields_are v p l ps ls is e f =
    ap plain_pat is ∙ plain_pat-Fields p l ∙ ap (λ xs. term.RecordPat (pats_of (map plain_pat xs)) (labelled_pats_of (map plain_pat_field l.items))) (sym e)
    ∙ ap (λ xs. term.RecordPat (pats_of (map plain_pat ps)) (labelled_pats_of (map plain_pat_field xs))) (sym f)
