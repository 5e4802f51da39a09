use Rattle.std.proofs.Common.{refl, sym, subst, ap, arith, drop, length, ◌≡◌}
use Rattle.pict_syntax.proofs.LawLemmas.{stop_excludes_whole_cut}
use Rattle.pict_lex.specs.Lex.{KeepsNames, GainsSomeNames}
use Rattle.pict_lex.specs.Scan.{IsHalt}
use Rattle.pict_lex.specs.Steps.{HasStepped}
use Rattle.pict_lex.proofs.RunLemmas.{slice_rest}
use Rattle.pict_lex.proofs.PlaceLemmas.{refusal_placed, reading_lies}
use Rattle.pict_lex.proofs.StepLemmas.{one_piece_more}
use Rattle.pict_lex.proofs.LexLemmas.{gained_by, kept_by, kept_on, name_room, token_room, read_whole, refusal_is, refused_by, accepted_by}
use Rattle.pict_lex.proofs.reading.lex.Goals as goal

pub pieces-preserved : goal.pieces-preserved
pieces-preserved c =
    let step = subst (λ t. HasStepped c.pieces.names c.kind_at.new.names t c.in-Ok.kind c.in-Ok.len) (slice_rest c.args.text.now c.pieces.at) c.in-Ok.ensures.stepped in
    let read = one_piece_more c.args.names.now c.pieces.names c.kind_at.new.names c.args.number c.args.text.now c.pieces.at c.in-Ok.len c.pieces.tokens.items c.push_token.new.tokens.items c.in-Ok.kind
    c.pieces.invariant.read step c.in_ok-push_token-in-Ok.ensures in
    let names = name_room c.pieces.names c.kind_at.new.names (drop c.pieces.at c.args.text.now) c.in-Ok.kind c.in-Ok.len step in
    let tokens = token_room c.pieces.tokens.items c.push_token.new.tokens.items c.in-Ok.kind _ c.in_ok-push_token-in-Ok.ensures in
    let some = step.some in
    let within = read.within in
    record { read = read; within = within; few = omega arith; gained = omega arith; room = omega arith }

pub returns-in_err-push_token-in-Ok-clause-kept : goal.returns-in_err-push_token-in-Ok-clause-kept
returns-in_err-push_token-in-Ok-clause-kept c =
    let kept = kept_by c.args.names.now c.pieces.names c.args.number c.args.text.now c.pieces.at c.pieces.tokens.items c.pieces.invariant.read in
    kept_on c.args.names.now c.pieces.names c.kind_at.new.names _ c.in-Ok.kind c.in-Ok.len kept c.in-Ok.ensures.stepped

pub returns-in-Err-clause-kept : goal.returns-in-Err-clause-kept
returns-in-Err-clause-kept c =
    let kept = kept_by c.args.names.now c.pieces.names c.args.number c.args.text.now c.pieces.at c.pieces.tokens.items c.pieces.invariant.read in
    subst (KeepsNames c.args.names.now) (sym c.in-Err.ensures.err) kept

pub returns-in-Err-clause-refused : goal.returns-in-Err-clause-refused
returns-in-Err-clause-refused c =
    let stops = subst (λ t. IsHalt t c.in-Err.halt) (slice_rest c.args.text.now c.pieces.at) c.in-Err.ensures.halt in
    let refusal = refusal_is c.args.names.now c.pieces.names c.args.number c.args.text.now c.pieces.at c.pieces.tokens.items c.in-Err.halt c.refusal_at.result c.pieces.invariant.read stops c.refusal_at.ensures in
    refused_by c.args.number c.args.text.now c.refusal_at.result refusal

pub returns-in-Err-clause-accepted : goal.returns-in-Err-clause-accepted
returns-in-Err-clause-accepted c =
    let stops = subst (λ t. IsHalt t c.in-Err.halt) (slice_rest c.args.text.now c.pieces.at) c.in-Err.ensures.halt in
    let refusal = refusal_is c.args.names.now c.pieces.names c.args.number c.args.text.now c.pieces.at c.pieces.tokens.items c.in-Err.halt c.refusal_at.result c.pieces.invariant.read stops c.refusal_at.ensures in
    accepted_by c.args.number c.args.text.now c.refusal_at.result refusal

pub returns-clause-refused : goal.returns-clause-refused
returns-clause-refused c code span stop =
    let read = c.pieces.invariant.read in
    stop_excludes_whole_cut c.args.number c.args.text.now code span read.pieces stop
    (read_whole c.args.names.now c.pieces.names c.args.number c.args.text.now c.pieces.at c.pieces.tokens.items c.pieces-test.false read)

pub returns-clause-kept : goal.returns-clause-kept
returns-clause-kept c = kept_by c.args.names.now c.pieces.names c.args.number c.args.text.now c.pieces.at c.pieces.tokens.items c.pieces.invariant.read

pub returns-in-Err-clause-placed : goal.returns-in-Err-clause-placed
returns-in-Err-clause-placed c =
    let stops = subst (λ t. IsHalt t c.in-Err.halt) (slice_rest c.args.text.now c.pieces.at) c.in-Err.ensures.halt in
    let refusal = refusal_is c.args.names.now c.pieces.names c.args.number c.args.text.now c.pieces.at c.pieces.tokens.items c.in-Err.halt c.refusal_at.result c.pieces.invariant.read stops c.refusal_at.ensures in
    refusal_placed c.args.number c.args.text.now c.refusal_at.result refusal

pub returns-clause-spans : goal.returns-clause-spans
returns-clause-spans c =
    let read = c.pieces.invariant.read in
    reading_lies c.pieces.names c.args.number c.args.text.now read.pieces c.pieces.tokens.items
    (read_whole c.args.names.now c.pieces.names c.args.number c.args.text.now c.pieces.at c.pieces.tokens.items c.pieces-test.false read) read.tokens_are

pub returns-clause-gained : goal.returns-clause-gained
returns-clause-gained c = gained_by c.args.names.now c.pieces.names c.args.number c.args.text.now c.pieces.at c.pieces.tokens.items c.pieces.invariant.read

pub returns-in-Err-clause-gained : goal.returns-in-Err-clause-gained
returns-in-Err-clause-gained c =
    subst (λ n. GainsSomeNames c.args.names.now n c.args.text.now) (sym c.in-Err.ensures.err)
    (gained_by c.args.names.now c.pieces.names c.args.number c.args.text.now c.pieces.at c.pieces.tokens.items c.pieces.invariant.read)

pub returns-in_err-push_token-in-Ok-clause-gained : goal.returns-in_err-push_token-in-Ok-clause-gained
returns-in_err-push_token-in-Ok-clause-gained c =
    let step = subst (λ t. HasStepped c.pieces.names c.kind_at.new.names t c.in-Ok.kind c.in-Ok.len) (slice_rest c.args.text.now c.pieces.at) c.in-Ok.ensures.stepped in
    let read = one_piece_more c.args.names.now c.pieces.names c.kind_at.new.names c.args.number c.args.text.now c.pieces.at c.in-Ok.len c.pieces.tokens.items _ c.in-Ok.kind
    c.pieces.invariant.read step refl in
    gained_by c.args.names.now c.kind_at.new.names c.args.number c.args.text.now _ _ read

pub returns-in_err-push_token-in-Ok-clause-bound : goal.returns-in_err-push_token-in-Ok-clause-bound
returns-in_err-push_token-in-Ok-clause-bound c =
    let step = subst (λ t. HasStepped c.pieces.names c.kind_at.new.names t c.in-Ok.kind c.in-Ok.len) (slice_rest c.args.text.now c.pieces.at) c.in-Ok.ensures.stepped in
    let names = name_room c.pieces.names c.kind_at.new.names (drop c.pieces.at c.args.text.now) c.in-Ok.kind c.in-Ok.len step in
    omega arith

pub returns-in-Err-clause-bound : goal.returns-in-Err-clause-bound
returns-in-Err-clause-bound c = let same : length c.kind_at.new.names ≡ length c.pieces.names = ap length c.in-Err.ensures.err in omega arith
