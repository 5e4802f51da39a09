-- Processes, one lemma for each way that a body ends.
use Rattle.std.proofs.Common.{◌≡◌, ℕ, ◌+◌, ◌<◌, List, length, get_or, take, Bool, true, false, subst, Result}
use Rattle.pict_syntax.specs.declared.code.Code.{Code}
use Rattle.pict_syntax.specs.declared.code.Code.TheVariants.{Y1, Y2, Y3, Y12}
use Rattle.pict_syntax.specs.declared.span.Span.{Span}
use Rattle.pict_syntax.specs.declared.tree.Proc.{Proc as RProc}
use Rattle.pict_syntax.specs.Grammar.{chan_span}
use Rattle.pict_syntax.specs.Trees.{Abs, Chan, Decs, Proc, Procs, Val, of_chan, no_procs, send_proc, receive_proc, serve_proc, if_proc, group_proc}
use Rattle.pict_syntax.specs.PlainTrees.{proc_of, procs_on}
use Rattle.pict_types.specs.Types.{Capability, PlainType, Boolean}
use Rattle.pict_types.specs.Types as types
use Rattle.pict_sub.specs.Exposing.{exposure}
use Rattle.pict_rules.specs.Environments.{Environment, context_of}
use Rattle.pict_rules.specs.Rules.{Sort, Judgement, nothing_, type_, environment_, gives, has, is_condition, abstraction_against, declarations, process, processes, receives, Rule, give, ok, ensure}
use Rattle.pict_rules.specs.Clauses.{check, done, gives_below, may_receive, may_send, need_channel}
use Rattle.pict_rules.specs.Typing.{rule}
use Rattle.pict_rules.specs.Derivations.{Runs, give_, part_ok}
use Rattle.pict_rules.specs.Reached.{Asks, this_part, past_part}
use Rattle.pict_infer.specs.declared.error.InferError.{InferError}
use Rattle.pict_infer.specs.Answering.{IsRefused, IsAnswer, nothing}
use Rattle.pict_infer.specs.Asking.{IsWellAsked}
use Rattle.pict_infer.proofs.Asked.{asked_of}
use Rattle.pict_infer.proofs.Through.{GoesOn, given, refused, refused_on}
use Rattle.pict_lines.specs.Lines.{channel_messages}
use Rattle.pict_lines.proofs.Ends.{answer_past, ends_with, past, past_refused, refused_here}
use Rattle.pict_lines.proofs.Rows.{row_asked, row_more, row_refused}
use Rattle.pict_check.proofs.RowEnds.{processes_row}

-- A CONDITIONAL

pub proc_test_asked : (e : Environment) (s : Span) (c : Val) (p q : Proc) → IsWellAsked nothing_ e (process (if_proc s c p q)) → IsWellAsked type_ e (gives c)
proc_test_asked e s c p q h = asked_of (is_condition c) (asked_of (process (if_proc s c p q)) h this_part) this_part

pub proc_yes_asked : (e : Environment) (s : Span) (c : Val) (p q : Proc) → IsWellAsked nothing_ e (process (if_proc s c p q)) → Runs (gives_below e c Boolean Y12) (ok tt) → IsWellAsked nothing_ e (process p)
proc_yes_asked e s c p q h k = asked_of (process (if_proc s c p q)) h (past_part k this_part)

pub proc_no_asked : (e : Environment) (s : Span) (c : Val) (p q : Proc) → IsWellAsked nothing_ e (process (if_proc s c p q)) → Runs (gives_below e c Boolean Y12) (ok tt) → Runs (rule e (process p)) (ok tt) → IsWellAsked nothing_ e (process q)
proc_no_asked e s c p q h k l = asked_of (process (if_proc s c p q)) h (past_part k (past_part l this_part))

pub proc_test : (e : Environment) (s : Span) (c : Val) (p q : Proc) (y : InferError) → IsRefused (gives_below e c Boolean Y12) y → IsRefused (rule e (process (if_proc s c p q))) y
proc_test e s c p q y h = refused_here _ (is_condition c) _ y h

pub proc_yes : (e : Environment) (s : Span) (c : Val) (p q : Proc) (y : InferError) → Runs (gives_below e c Boolean Y12) (ok tt) → IsRefused (rule e (process p)) y → IsRefused (rule e (process (if_proc s c p q))) y
proc_yes e s c p q y k h = past_refused _ (is_condition c) _ tt y k (refused_here _ _ _ y h)

pub proc_if_end : (e : Environment) (s : Span) (c : Val) (p q : Proc) (r : Result (Unit {0}) InferError) → Runs (gives_below e c Boolean Y12) (ok tt) → Runs (rule e (process p)) (ok tt) → IsAnswer (rule e (process q)) nothing r → IsAnswer (rule e (process (if_proc s c p q))) nothing r
proc_if_end e s c p q r k l h = past _ (is_condition c) _ _ tt r k (past _ _ _ _ tt r l (ends_with _ _ _ _ _ r (λ x. give_) h))

-- A GROUP

pub group_asked : (e : Environment) (s : Span) (ds : Decs) (ps : Procs) → IsWellAsked nothing_ e (process (group_proc s ds ps)) → IsWellAsked environment_ e (declarations ds)
group_asked e s ds ps h = asked_of (process (group_proc s ds ps)) h this_part

pub inside_asked : (e d : Environment) (s : Span) (ds : Decs) (ps : Procs) → IsWellAsked nothing_ e (process (group_proc s ds ps)) → Runs (rule e (declarations ds)) (ok d) → IsWellAsked nothing_ d (processes ps)
inside_asked e d s ds ps h p = asked_of (process (group_proc s ds ps)) h (past_part p this_part)

pub group_refused : (e : Environment) (s : Span) (ds : Decs) (ps : Procs) (y : InferError) → IsRefused (rule e (declarations ds)) y → IsRefused (rule e (process (group_proc s ds ps))) y
group_refused e s ds ps y h = refused_here _ _ _ y h

pub inside_refused : (e d : Environment) (s : Span) (ds : Decs) (ps : Procs) (y : InferError) → Runs (rule e (declarations ds)) (ok d) → IsRefused (rule d (processes ps)) y → IsRefused (rule e (process (group_proc s ds ps))) y
inside_refused e d s ds ps y p h = past_refused _ _ _ d y p (refused_here _ _ _ y h)

pub group_done : (e d : Environment) (s : Span) (ds : Decs) (ps : Procs) → Runs (rule e (declarations ds)) (ok d) → Runs (rule d (processes ps)) (ok tt) → Runs (rule e (process (group_proc s ds ps))) (ok tt)
group_done e d s ds ps p h = part_ok p (part_ok h give_)

-- PROCESSES IN ORDER

pub process_more : (e : Environment) (xs : List RProc) (i : ℕ) (d : RProc) → i < length xs → Runs (rule e (processes (procs_on no_procs (take i xs)))) (ok tt) → Runs (rule e (process (proc_of (get_or xs i d)))) (ok tt) → Runs (rule e (processes (procs_on no_procs (take (i + 1) xs)))) (ok tt)
process_more e xs i d h p q = row_more (processes_row e) xs i d tt tt h p (part_ok q give_)

pub process_refused : (e : Environment) (xs : List RProc) (i : ℕ) (d : RProc) (y : InferError) → i < length xs → Runs (rule e (processes (procs_on no_procs (take i xs)))) (ok tt) → IsRefused (rule e (process (proc_of (get_or xs i d)))) y → IsRefused (rule e (processes (procs_on no_procs xs))) y
process_refused e xs i d y h p q = row_refused (processes_row e) xs i d tt y h p (refused_here _ _ _ y q)

pub process_asked : (e : Environment) (xs : List RProc) (i : ℕ) (d : RProc) → i < length xs → IsWellAsked nothing_ e (processes (procs_on no_procs xs)) → Runs (rule e (processes (procs_on no_procs (take i xs)))) (ok tt) → IsWellAsked nothing_ e (process (proc_of (get_or xs i d)))
process_asked e xs i d h q p = row_asked (processes_row e) xs i d tt h q p this_part

-- SENDS AND RECEIVES, ONCE THE CHANNEL GAVE A TYPE

-- the messages of a channel that may be used so, and how a rule goes on with them
abbrev Used : (Capability → Bool) → Code → Span → (PlainType → Rule nothing_) → PlainType → Rule nothing_
Used may c at k t = need_channel t Y1 at (λ m u. ensure (may m) c at (k u))

used : (may : Capability → Bool) (c : Code) (at : Span) (k : PlainType → Rule nothing_) (t : PlainType) → GoesOn type_ nothing_ (channel_messages may c at t) (Used may c at k t) k
used may c at k types.Top = refused
used may c at k types.Int = refused
used may c at k types.Char = refused
used may c at k types.Str = refused
used may c at k types.Boolean = refused
used may c at k (types.Var i) = refused
used may c at k (types.Apply i ts) = refused
used may c at k (types.Chan m u) = go (may m)
  where
    go : (b : Bool) → GoesOn type_ nothing_ (ensure b c at (give u)) (ensure b c at (k u)) k
    go true = given
    go false = refused
used may c at k (types.Fields bs ps ls) = refused
used may c at k (types.Rec u) = refused

-- what is asked then
used_asks : {s : Sort} {e : Environment} {j : Judgement s} (may : Capability → Bool) (c : Code) (at : Span) (k : PlainType → Rule nothing_) (t u : PlainType) → Runs (channel_messages may c at t) (ok u) → Asks nothing_ (k u) s e j → Asks nothing_ (Used may c at k t) s e j
used_asks may c at k types.Top u h q = elim h [ ]
used_asks may c at k types.Int u h q = elim h [ ]
used_asks may c at k types.Char u h q = elim h [ ]
used_asks may c at k types.Str u h q = elim h [ ]
used_asks may c at k types.Boolean u h q = elim h [ ]
used_asks may c at k (types.Var i) u h q = elim h [ ]
used_asks may c at k (types.Apply i ts) u h q = elim h [ ]
used_asks {s = s} {e = e} {j = j} may c at k (types.Chan m v) u h q = go (may m) u h q
  where
    go : (b : Bool) (w : PlainType) → Runs {s = type_} (ensure b c at (give v)) (ok w) → Asks nothing_ (k w) s e j → Asks nothing_ (ensure b c at (k v)) s e j
    go true w give_ r = r
    go false w p r = elim p [ ]
used_asks may c at k (types.Fields bs ps ls) u h q = elim h [ ]
used_asks may c at k (types.Rec v) u h q = elim h [ ]

-- what a call says of a channel's messages where as much is known, and the channel stands
pub messages_there : (P : Rule type_ → Type 0) (may : Capability → Bool) (c : Code) (d e : Environment) (at place : Span) (t : PlainType) → d ≡ e → at ≡ place → P (channel_messages may c at (exposure (context_of d) t)) → P (channel_messages may c place (exposure (context_of e) t))
messages_there P may c d e at place t p q h = subst (λ s. P (channel_messages may c s (exposure (context_of e) t))) q (subst (λ z. P (channel_messages may c at (exposure (context_of z) t))) p h)

pub send_channel_asked : (e : Environment) (s : Span) (c : Chan) (v : Val) → IsWellAsked nothing_ e (process (send_proc s c v)) → IsWellAsked type_ e (gives (of_chan c))
send_channel_asked e s c v h = asked_of (process (send_proc s c v)) h this_part

pub send_channel_refused : (e : Environment) (s : Span) (c : Chan) (v : Val) (y : InferError) → IsRefused (rule e (gives (of_chan c))) y → IsRefused (rule e (process (send_proc s c v))) y
send_channel_refused e s c v y h = refused_here _ _ _ y h

pub send_refused : (e : Environment) (s : Span) (c : Chan) (v : Val) (t : PlainType) (y : InferError) → Runs (rule e (gives (of_chan c))) (ok t) → IsRefused (channel_messages may_send Y2 (chan_span c) (exposure (context_of e) t)) y → IsRefused (rule e (process (send_proc s c v))) y
send_refused e s c v t y p h = past_refused _ _ _ t y p (refused_on y (used may_send Y2 (chan_span c) (λ u. check e (has v u) done) (exposure (context_of e) t)) h)

pub send_end : (e : Environment) (s : Span) (c : Chan) (v : Val) (t u : PlainType) (r : Result (Unit {0}) InferError) → Runs (rule e (gives (of_chan c))) (ok t) → Runs (channel_messages may_send Y2 (chan_span c) (exposure (context_of e) t)) (ok u) → IsAnswer (rule e (has v u)) nothing r → IsAnswer (rule e (process (send_proc s c v))) nothing r
send_end e s c v t u r p q h =
    past _ _ _ _ t r p (answer_past _ u r (used may_send Y2 (chan_span c) (λ u. check e (has v u) done) (exposure (context_of e) t)) q (ends_with _ _ _ _ _ r (λ x. give_) h))

pub message_asked : (e : Environment) (s : Span) (c : Chan) (v : Val) (t u : PlainType) → IsWellAsked nothing_ e (process (send_proc s c v)) → Runs (rule e (gives (of_chan c))) (ok t)
    → Runs (channel_messages may_send Y2 (chan_span c) (exposure (context_of e) t)) (ok u) → IsWellAsked nothing_ e (has v u)
message_asked e s c v t u a p q = asked_of (process (send_proc s c v)) a (past_part p (used_asks may_send Y2 (chan_span c) (λ w. check e (has v w) done) (exposure (context_of e) t) u q this_part))

pub receives_channel_asked : (e : Environment) (c : Chan) (a : Abs) → IsWellAsked nothing_ e (receives c a) → IsWellAsked type_ e (gives (of_chan c))
receives_channel_asked e c a h = asked_of (receives c a) h this_part

pub receives_channel_refused : (e : Environment) (c : Chan) (a : Abs) (y : InferError) → IsRefused (rule e (gives (of_chan c))) y → IsRefused (rule e (receives c a)) y
receives_channel_refused e c a y h = refused_here _ _ _ y h

pub receives_refused : (e : Environment) (c : Chan) (a : Abs) (t : PlainType) (y : InferError) → Runs (rule e (gives (of_chan c))) (ok t) → IsRefused (channel_messages may_receive Y3 (chan_span c) (exposure (context_of e) t)) y → IsRefused (rule e (receives c a)) y
receives_refused e c a t y p h = past_refused _ _ _ t y p (refused_on y (used may_receive Y3 (chan_span c) (λ u. check e (abstraction_against a u) done) (exposure (context_of e) t)) h)

pub receives_end : (e : Environment) (c : Chan) (a : Abs) (t u : PlainType) (r : Result (Unit {0}) InferError) → Runs (rule e (gives (of_chan c))) (ok t) → Runs (channel_messages may_receive Y3 (chan_span c) (exposure (context_of e) t)) (ok u) → IsAnswer (rule e (abstraction_against a u)) nothing r → IsAnswer (rule e (receives c a)) nothing r
receives_end e c a t u r p q h =
    past _ _ _ _ t r p (answer_past _ u r (used may_receive Y3 (chan_span c) (λ u. check e (abstraction_against a u) done) (exposure (context_of e) t)) q (ends_with _ _ _ _ _ r (λ x. give_) h))

pub receiver_asked : (e : Environment) (c : Chan) (a : Abs) (t u : PlainType) → IsWellAsked nothing_ e (receives c a) → Runs (rule e (gives (of_chan c))) (ok t)
    → Runs (channel_messages may_receive Y3 (chan_span c) (exposure (context_of e) t)) (ok u) → IsWellAsked nothing_ e (abstraction_against a u)
receiver_asked e c a t u h p q = asked_of (receives c a) h (past_part p (used_asks may_receive Y3 (chan_span c) (λ w. check e (abstraction_against a w) done) (exposure (context_of e) t) u q this_part))

pub receive_asked : (e : Environment) (s : Span) (c : Chan) (a : Abs) → IsWellAsked nothing_ e (process (receive_proc s c a)) → IsWellAsked nothing_ e (receives c a)
receive_asked e s c a h = asked_of (process (receive_proc s c a)) h this_part

pub serve_asked : (e : Environment) (s : Span) (c : Chan) (a : Abs) → IsWellAsked nothing_ e (process (serve_proc s c a)) → IsWellAsked nothing_ e (receives c a)
serve_asked e s c a h = asked_of (process (serve_proc s c a)) h this_part

pub receive_end : (e : Environment) (s : Span) (c : Chan) (a : Abs) (r : Result (Unit {0}) InferError) → IsAnswer (rule e (receives c a)) nothing r → IsAnswer (rule e (process (receive_proc s c a))) nothing r
receive_end e s c a r h = ends_with _ _ _ _ _ r (λ x. give_) h

pub serve_end : (e : Environment) (s : Span) (c : Chan) (a : Abs) (r : Result (Unit {0}) InferError) → IsAnswer (rule e (receives c a)) nothing r → IsAnswer (rule e (process (serve_proc s c a))) nothing r
serve_end e s c a r h = ends_with _ _ _ _ _ r (λ x. give_) h

pub receive_refused : (e : Environment) (s : Span) (c : Chan) (a : Abs) (y : InferError) → IsRefused (rule e (receives c a)) y → IsRefused (rule e (process (receive_proc s c a))) y
receive_refused e s c a y h = refused_here _ _ _ y h

pub serve_refused : (e : Environment) (s : Span) (c : Chan) (a : Abs) (y : InferError) → IsRefused (rule e (receives c a)) y → IsRefused (rule e (process (serve_proc s c a))) y
serve_refused e s c a y h = refused_here _ _ _ y h
