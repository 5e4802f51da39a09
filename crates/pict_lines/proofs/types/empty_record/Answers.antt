-- The record has no fields.
use Rattle.std.proofs.Common.{◌≡◌, List, ap₂, subst}
use Rattle.std.specs.Prelude.{IfOk}
use Rattle.pict_syntax.specs.declared.name.Name.{Name}
use Rattle.pict_types.specs.declared.types.Ty.{Ty}
use Rattle.pict_types.specs.Plain.{plain, plain_labels, plain_types}
use Rattle.pict_types.specs.Types.{Fields, no_bound}
use Rattle.pict_lines.proofs.types.empty_record.Goals as goal

pub returns : goal.returns
returns c =
    let same = ap₂ (λ (us : List Ty) (ls : List (Name × Ty)). Fields no_bound (plain_types us) (plain_labels ls)) c.new.ensures.items c.new-2.ensures.items in
    subst (λ u. IfOk c.fields_type.result (λ t. plain t ≡ u)) same c.fields_type.ensures
