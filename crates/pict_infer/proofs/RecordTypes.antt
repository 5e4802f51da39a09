-- Record types of positional fields.
use Rattle.std.proofs.Common.{◌≡◌, List, [], ◌∷◌, ◌++◌, Global, ◌∙◌, ap, ap₂}
use Rattle.std.specs.Prelude.{Vec}
use Rattle.std.specs.declared.rc.Rc.{Rc}
use Rattle.pict_syntax.specs.declared.name.Name.{Name}
use Rattle.pict_types.specs.declared.types.Ty.{Ty}
use Rattle.pict_types.specs.declared.types.Ty.TheVariants.{Fields as Fields_}
use Rattle.pict_types.specs.declared.types.Bound.{Bound}
use Rattle.pict_types.specs.declared.types.Record.{Record}
use Rattle.pict_types.specs.Plain.{plain, plain_bounds, plain_labels, plain_record, plain_types}
use Rattle.pict_types.specs.Types.{Fields, no_bound, no_label}
use Rattle.pict_types.proofs.Rows.{plain_fields}

pub only_positional : (v : Rc Record Global) (bs : Vec Bound Global) (ps : Vec Ty Global) (ls : Vec (Name × Ty) Global) → v.value ≡ record { binders = bs; positional = ps; labelled = ls } → bs.items ≡ [] → ls.items ≡ [] → plain (Fields_ v) ≡ Fields no_bound (plain_types ps.items) no_label
only_positional v bs ps ls e p q =
    plain_fields v
    ∙ ap plain_record e
    ∙ ap₂ (λ (b : List Bound) (l : List (Name × Ty)). Fields (plain_bounds b) (plain_types ps.items) (plain_labels l)) p q

-- lists of two and of three, from one push after another
pub two_items : {A : Type 0} (none one two : List A) (x y : A) → none ≡ [] → one ≡ none ++ x ∷ [] → two ≡ one ++ y ∷ [] → two ≡ x ∷ y ∷ []
two_items none one two x y p q r = r ∙ ap (λ z. z ++ y ∷ []) (q ∙ ap (λ z. z ++ x ∷ []) p)

pub three_items : {A : Type 0} (none one two three : List A) (x y w : A) → none ≡ [] → one ≡ none ++ x ∷ [] → two ≡ one ++ y ∷ [] → three ≡ two ++ w ∷ [] → three ≡ x ∷ y ∷ w ∷ []
three_items none one two three x y w p q r s = s ∙ ap (λ z. z ++ w ∷ []) (two_items none one two x y p q r)
