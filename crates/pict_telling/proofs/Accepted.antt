-- What holds of a file that is accepted: its texts are within the limit of a text, and its run is right.
use Rattle.std.proofs.Common.{ℕ, ◌≤◌, List, length, Option, IfSome, Result, Ok, Err, IfOk}
use Rattle.std.specs.Borrow.{Bor}
use Rattle.pict_core.specs.Plain.{plain_core}
use Rattle.pict_view.specs.Right.{RunsRight}
use Rattle.pict_syntax.specs.declared.limits.TheConstants.{TEXT_LIMIT}
use Rattle.pict_syntax.specs.declared.source.Sources.{Sources}
use Rattle.pict_outside.specs.Texts.{Texts}
use Rattle.pict_gather.specs.Entry.{lent}
use Rattle.pict_gather.specs.Fetching.{MayGive}
use Rattle.pict_gather.specs.Phases.{accepts}
use Rattle.pict_front.specs.declared.accepted.Front.{Front}
use Rattle.pict_front.specs.declared.refusal.FrontError.{FrontError}
use Rattle.pict_front.specs.Answers.{fronted, gives_front, plain_front}
use Rattle.pict_front.specs.Front.{IsFront}
use Rattle.pict_front.specs.Laws.{IsAccepted}
use Rattle.pict_report.specs.Reports.{AreShort}
use Rattle.pict_top.proofs.Right.{accepted_runs_right}
use Rattle.pict_top.proofs.Short.{front_short}

pub accepted_short : (result : Result Front FrontError) (held : Option Texts) (prelude : Option (Bor (List ℕ))) (file : List ℕ) (sources : Sources)
    → IfSome prelude (λ bytes. length bytes.now ≤ TEXT_LIMIT) → IfSome (fronted result sources) (IsFront (gives_front result held) (lent prelude) file)
    → IfOk result (λ front. AreShort sources.list.items)
accepted_short (Ok f) held prelude file sources few h =
    front_short (MayGive held) prelude file (accepts (record { sources = sources.list.items; front = plain_front f })) few h
accepted_short (Err e) held prelude file sources few h = tt

pub accepted_right : (result : Result Front FrontError) (fuel : ℕ)
    → IfOk result (λ front. IsAccepted (plain_front front)) → IfOk result (λ front. RunsRight (plain_core front.core) fuel)
accepted_right (Ok f) fuel h = accepted_runs_right (plain_front f) h fuel
accepted_right (Err e) fuel h = tt
