-- What the loop over the tokens keeps, and the verdict at each of its ends.
use Rattle.std.proofs.Math.Seq.{take-length}
use Rattle.std.proofs.lemmas.Bool.{leb-true, leb-false}
use Rattle.std.proofs.lemmas.List.{get_or_default}
use Rattle.std.proofs.Common.{◌≡◌, ℕ, ◌+◌, ◌<◌, true, false, List, length, take, get_or, Some, None, sym, ap, subst, ◌∙◌}
use Rattle.std.specs.Prelude.{nat_le, Vec}
use Rattle.std.specs.declared.alloc.Global.{Global}
use Rattle.pict_syntax.specs.declared.span.Span.{Span}
use Rattle.pict_syntax.specs.declared.token.Token.{Token}
use Rattle.pict_syntax.specs.declared.tree.Dec.{Dec}
use Rattle.pict_syntax.specs.declared.limits.TheConstants.{NESTING_LIMIT}
use Rattle.pict_automaton.specs.Depth.{depth}
use Rattle.pict_automaton.specs.Machine.{run, start, step}
use Rattle.pict_automaton.specs.Places.{stop}
use Rattle.pict_syntax.specs.Verdicts.{IsVerdict, Whole, Unexpected, TooNested, StandsAt}
use Rattle.pict_syntax.specs.Programs.{declarations}
use Rattle.pict_automaton.proofs.Judging.{unexpected_here, too_nested_here, program_here, end_here}
use Rattle.pict_automaton.proofs.Nestings.{Shallow, shallow_next}
use Rattle.pict_automaton.proofs.Programs.{run_next}
use Rattle.pict_parse_states.specs.declared.states.State.{State}
use Rattle.pict_parse_states.specs.View.{decs_in, parse_state}
use Rattle.pict_parse_states.proofs.Stands.{stands}
use Rattle.pict_parse.specs.Answers.{Ends}

-- the state stands for what reading the first tokens gives, and none of them is nested too deep
abbrev pub Kept : List Token → ℕ → State → Type 0
Kept ts i x = (parse_state x ≡ run start (take i ts)) × Shallow ts i

stands_here : (ts : List Token) (i : ℕ) (t : Token) → i < length ts → t ≡ get_or ts i t → StandsAt ts i t.span
stands_here ts i t h e other = ap (λ u. u.span) (get_or_default ts i other t h ∙ sym e)

pub unexpected : (ts : List Token) (end : Span) (i : ℕ) (t : Token) (x : State) → i < length ts → t ≡ get_or ts i t → Kept ts i x → step t.kind t.span (parse_state x) ≡ stop → IsVerdict declarations ts end (Unexpected t.span)
unexpected ts end i t x h e k s =
    unexpected_here ts end i t (parse_state x) t.span h k.1 (stands x) k.0 (subst (λ u. step u.kind u.span (parse_state x) ≡ stop) e s) (stands_here ts i t h e)

reads : (ts : List Token) (i : ℕ) (t : Token) (x y : State) → i < length ts → t ≡ get_or ts i t → Kept ts i x → parse_state y ≡ step t.kind t.span (parse_state x) → parse_state y ≡ run start (take (i + 1) ts)
reads ts i t x y h e k s =
    s
    ∙ ap (step t.kind t.span) k.0
    ∙ ap (λ u. step u.kind u.span (run start (take i ts))) e
    ∙ sym (run_next ts i t h)

pub kept_on : (ts : List Token) (i : ℕ) (t : Token) (x y : State) → i < length ts → t ≡ get_or ts i t → Kept ts i x → parse_state y ≡ step t.kind t.span (parse_state x) → true ≡ nat_le (depth (parse_state y)) NESTING_LIMIT → Kept ts (i + 1) y
kept_on ts i t x y h e k s d =
    let n = reads ts i t x y h e k s in
    (n, shallow_next ts i (parse_state y) k.1 n (leb-true (depth (parse_state y)) NESTING_LIMIT (sym d)))

pub too_nested : (ts : List Token) (end : Span) (i : ℕ) (t : Token) (x y : State) → i < length ts → t ≡ get_or ts i t → Kept ts i x → parse_state y ≡ step t.kind t.span (parse_state x) → false ≡ nat_le (depth (parse_state y)) NESTING_LIMIT → IsVerdict declarations ts end (TooNested t.span)
too_nested ts end i t x y h e k s d =
    too_nested_here ts end i (parse_state y) t.span h k.1 (stands y) (reads ts i t x y h e k s) (leb-false (depth (parse_state y)) NESTING_LIMIT (sym d)) (stands_here ts i t h e)

whole : (ts : List Token) (i : ℕ) (x : State) → i ≡ length ts → Kept ts i x → (parse_state x ≡ run start ts) × Shallow ts (length ts)
whole ts i x e k = (k.0 ∙ ap (run start) (ap (λ n. take n ts) e ∙ take-length ts), subst (Shallow ts) e k.1)

pub whole_list : (ts : List Token) (end : Span) (i : ℕ) (x : State) (ds : Vec Dec Global) → i ≡ length ts → Kept ts i x → Ends (parse_state x) (Some ds) → IsVerdict declarations ts end (Whole (decs_in ds))
whole_list ts end i x ds e k h =
    let w = whole ts i x e k in
    program_here ts end (parse_state x) (decs_in ds) w.1 w.0 h

pub too_short : (ts : List Token) (end : Span) (i : ℕ) (x : State) → i ≡ length ts → Kept ts i x → Ends (parse_state x) None → IsVerdict declarations ts end (Unexpected end)
too_short ts end i x e k h =
    let w = whole ts i x e k in
    end_here ts end (parse_state x) w.1 (stands x) w.0 h
