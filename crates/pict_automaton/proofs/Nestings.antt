-- How deep the tokens of declarations are nested, told by the depths of the machine's states, and which token is the first too deep.
use Rattle.std.proofs.lemmas.Bool.{cases_lt}
use Rattle.std.proofs.lemmas.List.{take-append-drop, take-append-le, length-append, length-take-le}
use Rattle.std.proofs.Common.{ℕ, suc, zero, List, [], ◌∷◌, ◌++◌, ◌+◌, ◌<◌, ◌≤◌, ◌≡◌, inl, inr, refl, ap, sym, subst, ◌∙◌, append-nil, add-one, length, take, drop, get_or, max, None, Some, arith}
use Rattle.pict_syntax.specs.declared.token.Token.{Token}
use Rattle.pict_syntax.specs.Trees.{def_dec, Decs, more_decs, more_definitions}
use Rattle.pict_syntax.specs.Phrases.{join}
use Rattle.pict_syntax.specs.Grammar.{abs_span}
use Rattle.pict_syntax.specs.Place.{IsPrefix, IsTooNestedAt, IsFirstTooNested}
use Rattle.pict_syntax.specs.Programs.{declarations}
use Rattle.pict_automaton.specs.Places.{State, stop, need, for_value, waiting, at_top, have_definition, top_declarations}
use Rattle.pict_automaton.specs.Machine.{step, run, start, ended}
use Rattle.pict_syntax.specs.declared.limits.TheConstants.{NESTING_LIMIT}
use Rattle.pict_syntax.specs.Nesting.{dec_nest}
use Rattle.pict_automaton.specs.Depth.{depth}
use Rattle.pict_automaton.proofs.Finish.{Going}
use Rattle.pict_automaton.proofs.Programs.{reads_program, run_stop, prefix_of}
use Rattle.pict_automaton.proofs.Nests.{state_nests}
use Rattle.pict_automaton.proofs.NestsValues.{step_nests}

-- the greater of the depths before and behind each token
abbrev pub run_nests : State → List Token → List ℕ
run_nests x [] = []
run_nests x (t ∷ ts) = max (depth x) (depth (step t.kind t.span x)) ∷ run_nests (step t.kind t.span x) ts

going_before : (x : State) (ts : List Token) → Going (run x ts) → Going x
going_before stop ts g = subst Going (run_stop ts) g
going_before _ ts g = tt

-- a run adds these to the nestings of what was read
run_adds : (x : State) (ts : List Token) → Going (run x ts) → (ns : List ℕ) → state_nests (run x ts) ns ≡ state_nests x (run_nests x ts ++ ns)
run_adds x [] g ns = refl
run_adds x (t ∷ ts) g ns =
    let y : State = step t.kind t.span x in
    run_adds y ts g ns ∙ (step_nests t.kind t.span x).adds (going_before y ts g) (run_nests y ts ++ ns)

no_program : {p : Decs} → None ≡ Some p → ⊥
no_program e = cc

ended_going : (x : State) (p : Decs) → ended x ≡ Some p → Going x
ended_going stop p e = no_program e
ended_going _ p e = tt

ended_nests : (x : State) (p : Decs) → ended x ≡ Some p → state_nests x [] ≡ declarations.nestings p
unfolding dec_nest
ended_nests (need (for_value (waiting (at_top ds)))) p e = let f : ds ≡ p = cc in simp append-nil (ap declarations.nestings f)
ended_nests (have_definition j ds x a (top_declarations es)) p e =
    let f : more_decs es (def_dec (join j (abs_span a)) (more_definitions ds x a)) ≡ p = cc in
    simp append-nil (ap declarations.nestings f)
ended_nests _ p e = absurd (no_program e)

start_nests : (ns : List ℕ) → state_nests start ns ≡ ns
unfolding dec_nest
start_nests ns = refl

-- the nestings of the tokens of declarations are those along the run
pub nestings_run : (ts : List Token) (p : Decs) → declarations.tree ts p → declarations.nestings p ≡ run_nests start ts
nestings_run ts p t =
    let e : ended (run start ts) ≡ Some p = reads_program ts p t in
    sym (ended_nests (run start ts) p e)
    ∙ run_adds start ts (ended_going (run start ts) p e) []
    ∙ start_nests (run_nests start ts ++ [])
    ∙ append-nil (run_nests start ts)

-- one token of a run
nest_at : (x : State) (ts : List Token) (i : ℕ) → i < length ts → get_or (run_nests x ts) i 0 ≡ max (depth (run x (take i ts))) (depth (run x (take (suc i) ts)))
nest_at x [] i h = absurd (omega (arith, h))
nest_at x (t ∷ ts) zero h = refl
nest_at x (t ∷ ts) (suc i) h = nest_at (step t.kind t.span x) ts i (omega (arith, h))

-- the depth of the state behind the first `n` tokens
abbrev pub depth_behind : List Token → ℕ → ℕ
depth_behind ts n = depth (run start (take n ts))

-- the first `n` tokens of what begins with the first `m`
take_part : (n m : ℕ) (ts rest : List Token) → n ≤ m → m ≤ length ts → take n (take m ts ++ rest) ≡ take n ts
take_part n m ts rest h g =
    let k : n ≤ length (take m ts) = omega (arith, h, length-take-le m ts g) in
    take-append-le n (take m ts) rest k ∙ sym (take-append-le n (take m ts) (drop m ts) k) ∙ ap (take n) (take-append-drop m ts)

-- how deep token `i` is nested in all declarations that begin with the tokens up to it
pub nesting_of : (ts : List Token) (i : ℕ) (rest : List Token) (p : Decs) → i < length ts → declarations.tree (take (i + 1) ts ++ rest) p → get_or (declarations.nestings p) i 0 ≡ max (depth_behind ts i) (depth_behind ts (i + 1))
nesting_of ts i rest p h t =
    let us : List Token = take (i + 1) ts ++ rest in
    let m : i < length us = omega (arith, h, length-take-le (i + 1) ts, length-append (take (i + 1) ts) rest) in
    let here : take i us ≡ take i ts = take_part i (i + 1) ts rest (omega arith) (omega (arith, h)) in
    let more : take (suc i) us ≡ take (i + 1) ts = ap (λ n. take n us) (sym (add-one i)) ∙ take_part (i + 1) (i + 1) ts rest (omega arith) (omega (arith, h)) in
    ap (λ ns. get_or ns i 0) (nestings_run us p t)
    ∙ nest_at start us i m
    ∙ ap (λ l. max (depth (run start l)) (depth (run start (take (suc i) us)))) here
    ∙ ap (λ l. max (depth_behind ts i) (depth (run start l))) more

-- where the machine goes on, the depths say that a token is nested too deep
pub nests_at : (ts : List Token) (i : ℕ) → i < length ts → Going (run start (take (i + 1) ts)) → NESTING_LIMIT < max (depth_behind ts i) (depth_behind ts (i + 1)) → IsTooNestedAt declarations ts i
nests_at ts i h g m =
    let f : IsPrefix declarations (take (i + 1) ts) = prefix_of (take (i + 1) ts) g in
    (h, f.0, f.1, f.2, subst (λ n. NESTING_LIMIT < n) (sym (nesting_of ts i f.0 f.1 h f.2)) m)

pub nests_depth : (ts : List Token) (i : ℕ) → IsTooNestedAt declarations ts i → NESTING_LIMIT < max (depth_behind ts i) (depth_behind ts (i + 1))
nests_depth ts i n = subst (λ m. NESTING_LIMIT < m) (nesting_of ts i n.1 n.2 n.0 n.3) n.4

-- no state up to the one behind the first `n` tokens is too deep
abbrev pub Shallow : List Token → ℕ → Type 0
Shallow ts n = (j : ℕ) → j ≤ n → depth_behind ts j ≤ NESTING_LIMIT

pub shallow_start : (ts : List Token) → Shallow ts 0
shallow_start ts zero h = omega arith
shallow_start ts (suc j) h = absurd (omega (arith, h))

pub shallow_next : (ts : List Token) (i : ℕ) (y : State) → Shallow ts i → y ≡ run start (take (i + 1) ts) → depth y ≤ NESTING_LIMIT → Shallow ts (i + 1)
shallow_next ts i y s e d j h =
    elim (cases_lt i j) [
      | inl m ↦ subst (λ n. depth_behind ts n ≤ NESTING_LIMIT) (omega (arith, h, m)) (subst (λ x. depth x ≤ NESTING_LIMIT) e d)
      | inr m ↦ s j m
    ]

-- no token before is nested too deep
pub not_nested_before : (ts : List Token) (i : ℕ) → Shallow ts i → (j : ℕ) → j < i → IsTooNestedAt declarations ts j → ⊥
not_nested_before ts i s j h n =
    let a : depth_behind ts j ≤ NESTING_LIMIT = s j (omega (arith, h)) in
    let b : depth_behind ts (j + 1) ≤ NESTING_LIMIT = s (j + 1) (omega (arith, h)) in
    omega (arith, a, b, nests_depth ts j n)

-- the first token that leads to a state that is too deep is the first that is nested too deep
pub first_too_nested : (ts : List Token) (i : ℕ) (y : State) → i < length ts → Shallow ts i → Going y → y ≡ run start (take (i + 1) ts) → NESTING_LIMIT < depth y → IsFirstTooNested declarations ts i
first_too_nested ts i y h s g e d =
    let m : NESTING_LIMIT < depth_behind ts (i + 1) = subst (λ x. NESTING_LIMIT < depth x) e d in
    (nests_at ts i h (subst Going e g) (omega (arith, m)), not_nested_before ts i s)

-- where all tokens have been read before that, no token is nested too deep
pub not_nested_at_end : (ts : List Token) → Shallow ts (length ts) → (j : ℕ) → IsTooNestedAt declarations ts j → ⊥
not_nested_at_end ts s j n = not_nested_before ts (length ts) s j n.0 n
