-- The runs of accepted programs are sound.
use Rattle.std.proofs.Common.{ℕ, List, Option, sym, subst}
use Rattle.pict_outside.specs.Texts.{Texts}
use Rattle.pict_scope.proofs.LabelsScoped.{scoped_distinct}
use Rattle.pict_core.specs.Closed.{IsClosed}
use Rattle.pict_translation.proofs.ClosedLemmas.{program_closed}
use Rattle.pict_core.specs.Configuration.{opening}
use Rattle.pict_reduction.proofs.Apart.{freely_reached, opening_reached}
use Rattle.pict_reduction.proofs.Finished.{finished_is_irreducible, runs_reduce}
use Rattle.pict_reduction.proofs.Reaching.{reductions_are_reached}
use Rattle.pict_reduction.proofs.Reductions.{steps_are_reductions}
use Rattle.pict_front.specs.Front.{Front}
use Rattle.pict_front.specs.Laws.{IsAccepted}
use Rattle.pict_front.proofs.TypedPrograms.{accepted_is_typed}
use Rattle.pict_top.specs.Origins.{origin_of, name_of, prelude_of, reads_from}
use Rattle.pict_top.specs.Owed.{Accepts}
use Rattle.pict_top.specs.Soundness.{IsSound, IsFreelySound}
use Rattle.pict_top.proofs.Right.{accepted_is_freely_right, accepted_is_never_wrong}

pub accepted_closed : (front : Front) → IsAccepted front → IsClosed front.core
accepted_closed front a = subst IsClosed (sym a.core) (program_closed front.names a.program (scoped_distinct front.names a.program a.scoped))

accepted_front : (words : List (List ℕ)) (held : Option Texts) (front : Front) → Accepts words held front → IsAccepted front
accepted_front words held front a =
    let origin = origin_of a.command in accepted_is_typed (reads_from held origin) (prelude_of origin) (name_of origin) (record { sources = a.sources; front = front }) a.front

pub accepted_sound : (words : List (List ℕ)) (held : Option Texts) (front : Front) → Accepts words held front → IsSound front.core
accepted_sound words held front a steps labels C reached =
    let accepted = accepted_front words held front a in
    let closed = accepted_closed front accepted in
    let r = runs_reduce front.core steps labels C closed reached in
    record { right = accepted_is_never_wrong front accepted closed steps labels C reached; reduces = r.0; finished = r.1 }

pub accepted_freely_sound : (words : List (List ℕ)) (held : Option Texts) (front : Front) → Accepts words held front → IsFreelySound front.core
accepted_freely_sound words held front a C reached =
    let accepted = accepted_front words held front a in
    let closed = accepted_closed front accepted in
    let is = (freely_reached (opening front.core) C (opening_reached front.core closed) reached).is in
    record {
      right = accepted_is_freely_right front accepted C reached;
      reduces = λ choice D label. steps_are_reductions C choice D label is;
      reached = λ bytes R. reductions_are_reached front.core C bytes R closed reached;
      finished = finished_is_irreducible front.core C closed reached;
    }
