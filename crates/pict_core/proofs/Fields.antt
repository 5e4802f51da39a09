-- A record's plain value follows from those of its parts.
use Rattle.std.proofs.Common.{◌≡◌, map, rules, ap, ◌∙◌, sym, Vec, Global}
use Rattle.pict_syntax.specs.declared.name.Name.{Name}
use Rattle.pict_core.specs.Term as term
use Rattle.pict_core.specs.Plain.{plain_val, plain_field, vals_of, labelled_of, plain_pat, plain_pat_field, pats_of, labelled_pats_of}
use Rattle.pict_core.specs.declared.value.CoreVal.{CoreVal, the_lemmas}
use Rattle.pict_core.specs.declared.value.CoreVal.TheVariants as value
use Rattle.pict_core.specs.declared.pattern.CorePat.{CorePat, the_lemmas as pattern_lemmas}
use Rattle.pict_core.specs.declared.pattern.CorePat.TheVariants as pattern

pub plain_val-Fields : (p : Vec CoreVal Global) (l : Vec (Name × CoreVal) Global) → plain_val (value.Fields p l) ≡ term.Record (vals_of (map plain_val p.items)) (labelled_of (map plain_field l.items))
plain_val-Fields p l = search (rules, the_lemmas)

pub same_fields : (v : CoreVal) (p q : Vec CoreVal Global) (l m : Vec (Name × CoreVal) Global) → v ≡ value.Fields q m
    → map plain_val p.items ≡ map plain_val q.items → map plain_field l.items ≡ map plain_field m.items → plain_val (value.Fields p l) ≡ plain_val v
same_fields v p q l m is e f =
    plain_val-Fields p l ∙ ap (λ a. term.Record (vals_of a) (labelled_of (map plain_field l.items))) e
    ∙ ap (λ b. term.Record (vals_of (map plain_val q.items)) (labelled_of b)) f
    ∙ sym (plain_val-Fields q m) ∙ sym (ap plain_val is)

pub plain_pat-Fields : (p : Vec CorePat Global) (l : Vec (Name × CorePat) Global) → plain_pat (pattern.Fields p l) ≡ term.RecordPat (pats_of (map plain_pat p.items)) (labelled_pats_of (map plain_pat_field l.items))
plain_pat-Fields p l = search (rules, pattern_lemmas)

pub same_pat_fields : (v : CorePat) (p q : Vec CorePat Global) (l m : Vec (Name × CorePat) Global) → v ≡ pattern.Fields q m
    → map plain_pat p.items ≡ map plain_pat q.items → map plain_pat_field l.items ≡ map plain_pat_field m.items → plain_pat (pattern.Fields p l) ≡ plain_pat v
same_pat_fields v p q l m is e f =
    plain_pat-Fields p l ∙ ap (λ a. term.RecordPat (pats_of a) (labelled_pats_of (map plain_pat_field l.items))) e
    ∙ ap (λ b. term.RecordPat (pats_of (map plain_pat q.items)) (labelled_pats_of b)) f
    ∙ sym (plain_pat-Fields q m) ∙ sym (ap plain_pat is)
