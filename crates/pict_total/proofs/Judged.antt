-- Reading the tokens from left to right comes to a verdict.
use Rattle.std.proofs.lemmas.Bool.{cases_lt}
use Rattle.std.proofs.lemmas.List.{get_or_default}
use Rattle.std.proofs.Math.Seq.{take-length}
use Rattle.std.proofs.Common.{◌≡◌, ℕ, zero, suc, ◌+◌, ◌<◌, inl, inr, List, length, take, get_or, Option, Some, None, refl, sym, ap, subst, ◌∙◌, arith}
use Rattle.pict_syntax.specs.declared.span.Span.{Span}
use Rattle.pict_syntax.specs.declared.token.Token.{Token}
use Rattle.pict_syntax.specs.declared.token.TokenKind.TheVariants.{Sign}
use Rattle.pict_syntax.specs.declared.token.Sign.TheVariants.{Bang}
use Rattle.pict_syntax.specs.Trees.{Decs}
use Rattle.pict_automaton.specs.Places.{State, stop}
use Rattle.pict_automaton.specs.Machine.{step, run, start, ended}
use Rattle.pict_syntax.specs.declared.limits.TheConstants.{NESTING_LIMIT}
use Rattle.pict_automaton.specs.Depth.{depth}
use Rattle.pict_syntax.specs.Programs.{declarations}
use Rattle.pict_syntax.specs.Verdicts.{Verdict, Whole, Unexpected, TooNested, IsVerdict, SomeVerdict, StandsAt}
use Rattle.pict_automaton.proofs.Finish.{Going}
use Rattle.pict_automaton.proofs.Programs.{run_next}
use Rattle.pict_automaton.proofs.Nestings.{Shallow, shallow_start, shallow_next}
use Rattle.pict_automaton.proofs.Judging.{unexpected_here, too_nested_here, program_here, end_here}

any_token : Token
any_token = record { kind = Sign Bang; span = record { text = 0; start = 0; end = 0 } }

-- the token at this place
abbrev here : List Token → ℕ → Token
here ts i = get_or ts i any_token

stands_here : (ts : List Token) (i : ℕ) → i < length ts → StandsAt ts i (here ts i).span
stands_here ts i h other = ap (λ t. t.span) (get_or_default ts i other any_token h)

data Fate (x : State) : Type 0 where
  stops : x ≡ stop → Fate x
  goes : Going x → Fate x

fate : (x : State) → Fate x
fate stop = stops refl
fate _ = goes tt

-- where all tokens are read
judged_at_end : (ts : List Token) (end : Span) (x : State) (o : Option Decs) → Shallow ts (length ts) → Going x → x ≡ run start ts → ended x ≡ o → (v : Verdict Decs) × IsVerdict declarations ts end v
judged_at_end ts end x (Some p) sh g e h = (Whole p, program_here ts end x p sh e h)
judged_at_end ts end x None sh g e h = (Unexpected end, end_here ts end x sh g e h)

-- where so many tokens are left
judged_from : (n : ℕ) (ts : List Token) (end : Span) (i : ℕ) (x : State) → i + n ≡ length ts → Shallow ts i → Going x → x ≡ run start (take i ts) → (v : Verdict Decs) × IsVerdict declarations ts end v
judged_from zero ts end i x count sh g e =
    let all : i ≡ length ts = omega arith in
    judged_at_end ts end x (ended x) (subst (Shallow ts) all sh) g (e ∙ ap (run start) (ap (λ n. take n ts) all ∙ take-length ts)) refl
judged_from (suc n) ts end i x count sh g e = by (fate (step (here ts i).kind (here ts i).span x)) (judged_from n ts end (i + 1) (step (here ts i).kind (here ts i).span x) (omega (arith, count)))
  where
    within : i < length ts
    within = omega (arith, count)

    read : step (here ts i).kind (here ts i).span x ≡ run start (take (i + 1) ts)
    read = ap (step (here ts i).kind (here ts i).span) e ∙ sym (run_next ts i any_token within)

    by : (let y : State = step (here ts i).kind (here ts i).span x in Fate y → (Shallow ts (i + 1) → Going y → y ≡ run start (take (i + 1) ts) → (v : Verdict Decs) × IsVerdict declarations ts end v) → (v : Verdict Decs) × IsVerdict declarations ts end v)
    by (stops s) further = (Unexpected (here ts i).span, unexpected_here ts end i any_token x (here ts i).span within sh g e s (stands_here ts i within))
    by (goes on) further = elim (cases_lt NESTING_LIMIT (depth (step (here ts i).kind (here ts i).span x))) [
      | inl deep ↦ (TooNested (here ts i).span, too_nested_here ts end i (step (here ts i).kind (here ts i).span x) (here ts i).span within sh on read deep (stands_here ts i within))
      | inr fits ↦ further (shallow_next ts i (step (here ts i).kind (here ts i).span x) sh read fits) on read
    ]

pub some_verdict : SomeVerdict declarations
some_verdict ts end = judged_from (length ts) ts end 0 start (omega arith) (shallow_start ts) tt refl
