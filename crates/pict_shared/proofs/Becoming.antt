-- A value becomes another one once channels are renamed, part by part.
use Rattle.std.proofs.Common.{ℕ, ◌≡◌, Bool, true, false, not, List, map, refl, sym, ap, ◌∙◌, Vec, Global}
use mathlib.Core.Bool.{beq}
use Rattle.pict_syntax.specs.declared.name.Name.{Name}
use Rattle.pict_core.specs.Term.{Val, Pat, In}
use Rattle.pict_core.specs.Plain.{plain_val, plain_field, plain_pat, plain_pat_field, plain_core, core_of}
use Rattle.pict_core.specs.Substitution.{replace_value}
use Rattle.pict_core.specs.declared.value.CoreVal.{CoreVal}
use Rattle.pict_core.specs.declared.value.CoreVal.TheVariants as value
use Rattle.pict_core.specs.declared.pattern.CorePat.{CorePat}
use Rattle.pict_core.specs.declared.pattern.CorePat.TheVariants as pattern
use Rattle.pict_core.specs.declared.process.Part.{Part}
use Rattle.pict_core.specs.declared.process.Core.{Core}
use Rattle.pict_core.specs.declared.process.Core.TheVariants as core
use Rattle.pict_core.proofs.Fields.{same_pat_fields}
use Rattle.pict_core.proofs.Substituting.{replace_fields}
use Rattle.pict_shared.specs.Alike.{renaming_by, renamed_field, SameHead}

pub record_becomes : (names : List ℕ) (v w : CoreVal) (p q : Vec CoreVal Global) (l m : Vec (Name × CoreVal) Global) → v ≡ value.Fields p l → w ≡ value.Fields q m
    → map (λ x. replace_value (renaming_by names) (plain_val x)) p.items ≡ map plain_val q.items → map (renamed_field names) l.items ≡ map plain_field m.items
    → replace_value (renaming_by names) (plain_val v) ≡ plain_val w
record_becomes names v w p q l m is other e f = sym (replace_fields (renaming_by names) v q p m l is (sym e) (sym f)) ∙ sym (ap plain_val other)

pub pattern_becomes : (v w : CorePat) (p q : Vec CorePat Global) (l m : Vec (Name × CorePat) Global) → v ≡ pattern.Fields p l → w ≡ pattern.Fields q m
    → map plain_pat p.items ≡ map plain_pat q.items → map plain_pat_field l.items ≡ map plain_pat_field m.items → plain_pat v ≡ plain_pat w
pattern_becomes v w p q l m is other e f = ap plain_pat is ∙ same_pat_fields w p q l m other e f

same_truths : (a b : Bool) → not (beq a b) ≡ false → a ≡ b
same_truths true true h = refl
same_truths false false h = refl
same_truths true false h = cc
same_truths false true h = cc

pub head_becomes : (q : Core) (subject : CoreVal) (again : Bool) (shape : CorePat) (body : Part) (v : Val) (r : Bool) (p : Pat) → q ≡ core.In subject again shape body
    → v ≡ plain_val subject → not (beq r again) ≡ false → p ≡ plain_pat shape → SameHead v r p (plain_core q)
head_becomes q subject again shape body v r p is e f h = (
  plain_core (core_of body),
  ap plain_core is ∙ ap (λ x. In x again (plain_pat shape) (plain_core (core_of body))) (sym e)
      ∙ ap (λ x. In v x (plain_pat shape) (plain_core (core_of body))) (sym (same_truths r again f)) ∙ ap (λ x. In v r x (plain_core (core_of body))) (sym h),
)
