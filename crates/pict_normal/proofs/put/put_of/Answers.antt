-- An argument is not moved.
use Rattle.std.proofs.Common.{◌∙◌, sym, ap}
use Rattle.pict_types.specs.Plain.{plain, plain_arg}
use Rattle.pict_types.specs.Replacing.{operator, type_in, head_in}
use Rattle.pict_normal.proofs.put.put_of.Goals as goal
use Rattle.pict_types.proofs.Past.{not_moved}

pub returns-in-Plain-clause-type_ : goal.returns-in-Plain-clause-type_
returns-in-Plain-clause-type_ c = not_moved 0 (plain c.in-Plain.t) ∙ sym (ap (λ x. type_in (plain_arg x)) c.in-Plain.is)

pub returns-in-Op-clause-head : goal.returns-in-Op-clause-head
returns-in-Op-clause-head c =
    ap (operator c.in-Op.params) (not_moved c.in-Op.params (plain c.in-Op.body)) ∙ sym (ap (λ x. head_in (plain_arg x)) c.in-Op.is)
