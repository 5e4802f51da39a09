-- The verdict on a list of tokens, by the states that reading it leads to.
use Rattle.std.proofs.Common.{◌≡◌, ℕ, ◌+◌, ◌<◌, inl, inr, List, length, take, get_or, Some, None, refl, sym, ap, ◌∙◌}
use Rattle.pict_syntax.specs.declared.token.Token.{Token}
use Rattle.pict_syntax.specs.declared.span.Span.{Span}
use Rattle.pict_syntax.specs.Trees.{Decs}
use Rattle.pict_automaton.specs.Places.{State, stop}
use Rattle.pict_automaton.specs.Machine.{step, run, start, ended}
use Rattle.pict_syntax.specs.declared.limits.TheConstants.{NESTING_LIMIT}
use Rattle.pict_automaton.specs.Depth.{depth}
use Rattle.pict_syntax.specs.Programs.{declarations}
use Rattle.pict_syntax.specs.Verdicts.{Whole, Unexpected, TooNested, IsVerdict, StandsAt}
use Rattle.pict_automaton.proofs.Finish.{Going}
use Rattle.pict_automaton.proofs.Programs.{first_wrong, wrong_end, tree_of}
use Rattle.pict_automaton.proofs.Nestings.{Shallow, not_nested_before, first_too_nested, not_nested_at_end}

-- a token stops it
pub unexpected_here : (ts : List Token) (end : Span) (i : ℕ) (d : Token) (x : State) (span : Span) → i < length ts → Shallow ts i → Going x → x ≡ run start (take i ts) → step (get_or ts i d).kind (get_or ts i d).span x ≡ stop → StandsAt ts i span → IsVerdict declarations ts end (Unexpected span)
unexpected_here ts end i d x span h sh g e s p = inl (record { index = i; wrong = first_wrong ts i d h x g e s; shallow = not_nested_before ts i sh; place = p })

-- behind a token too much is open
pub too_nested_here : (ts : List Token) (end : Span) (i : ℕ) (y : State) (span : Span) → i < length ts → Shallow ts i → Going y → y ≡ run start (take (i + 1) ts) → NESTING_LIMIT < depth y → StandsAt ts i span → IsVerdict declarations ts end (TooNested span)
too_nested_here ts end i y span h sh g e d p = record { index = i; nested = first_too_nested ts i y h sh g e d; place = p }

-- the text may end behind all tokens
pub program_here : (ts : List Token) (end : Span) (x : State) (p : Decs) → Shallow ts (length ts) → x ≡ run start ts → ended x ≡ Some p → IsVerdict declarations ts end (Whole p)
program_here ts end x p sh e h = record { tree = tree_of ts p (ap ended (sym e) ∙ h); shallow = λ j below. not_nested_at_end ts sh j }

-- it may not
pub end_here : (ts : List Token) (end : Span) (x : State) → Shallow ts (length ts) → Going x → x ≡ run start ts → ended x ≡ None → IsVerdict declarations ts end (Unexpected end)
end_here ts end x sh g e h = inr (record { wrong = wrong_end ts x g e h; shallow = λ j below. not_nested_at_end ts sh j; place = refl })
