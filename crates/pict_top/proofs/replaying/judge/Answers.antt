use Rattle.std.proofs.Common.{sym, subst, ap, map}
use Rattle.pict_core.specs.Plain.{plain_core}
use Rattle.pict_code.specs.Plain.{plain_code}
use Rattle.pict_reduction.specs.Reached.{NoFreeRunIsWrong}
use Rattle.pict_machine.proofs.Codes.{codes_of_closed}
use Rattle.pict_trace.specs.Plain.{plain_line}
use Rattle.pict_replay.specs.Plain.{place_of}
use Rattle.pict_replay.specs.Replayed.{Agrees, IsFault}
use Rattle.pict_top.proofs.replaying.judge.Goals as goal

pub replay-requires-clause-code : goal.replay-requires-clause-code
replay-requires-clause-code c = (codes_of_closed (plain_core c.args.core.now) (plain_code c.in_ok-code.code) c.requires.closed c.in_ok-code.ensures).0

pub replay-requires-clause-right : goal.replay-requires-clause-right
replay-requires-clause-right c =
    let code = codes_of_closed (plain_core c.args.core.now) (plain_code c.in_ok-code.code) c.requires.closed c.in_ok-code.ensures in
    subst NoFreeRunIsWrong (sym code.1) c.requires.right

pub returns-clause-yes : goal.returns-clause-yes
returns-clause-yes c e =
    let code = codes_of_closed (plain_core c.args.core.now) (plain_code c.in_ok-code.code) c.requires.closed c.in_ok-code.ensures in
    let choices = ap (map place_of) c.deref.ensures.value in
    let lines = ap (map plain_line) c.deref-2.ensures.value in
    subst (λ ls. Agrees (plain_core c.args.core.now) (map place_of c.args.file.now.choices.items) ls) lines
    (subst (λ cs. Agrees (plain_core c.args.core.now) cs (map plain_line c.deref-2.result.now)) choices
    (subst (λ p. Agrees p (map place_of c.deref.result.now) (map plain_line c.deref-2.result.now)) code.1 (c.replay.ensures.yes e)))

pub returns-clause-no : goal.returns-clause-no
returns-clause-no c number e =
    let code = codes_of_closed (plain_core c.args.core.now) (plain_code c.in_ok-code.code) c.requires.closed c.in_ok-code.ensures in
    let choices = ap (map place_of) c.deref.ensures.value in
    let lines = ap (map plain_line) c.deref-2.ensures.value in
    subst (λ ls. IsFault (plain_core c.args.core.now) (map place_of c.args.file.now.choices.items) ls number) lines
    (subst (λ cs. IsFault (plain_core c.args.core.now) cs (map plain_line c.deref-2.result.now) number) choices
    (subst (λ p. IsFault p (map place_of c.deref.result.now) (map plain_line c.deref-2.result.now) number) code.1 (c.replay.ensures.no number e)))
