-- From the last step of the reading to what the whole call answers.
use Rattle.std.proofs.Common.{◌≡◌, ℕ, ◌+◌, ◌-◌, ◌≤◌, List, [], ◌∷◌, ◌++◌, length, drop, Option, Some, None, refl, sym, ◌∙◌, ap, subst, arith, inl, inr, append_assoc}
use Rattle.std.proofs.lemmas.Bool.{cases_Bool}
use Rattle.std.proofs.lemmas.List.{length-append, length-drop}
use Rattle.pict_syntax.specs.declared.code.Code.{Code}
use Rattle.pict_syntax.specs.declared.span.Span.{Span}
use Rattle.pict_syntax.specs.declared.token.Token.{Token}
use Rattle.pict_syntax.specs.declared.token.TokenKind.{TokenKind}
use Rattle.pict_syntax.specs.Names.{with_name, with_names}
use Rattle.pict_syntax.specs.Tokens.{identifier, symbol, keyword, number, character, string, sign}
use Rattle.pict_syntax.specs.Cuts.{Piece, blank, comment, token, IsCut, IsWholeCut, named, extent, IsLexStop}
use Rattle.pict_syntax.proofs.LawLemmas.{stop_excludes_whole_cut, one_stop}
use Rattle.pict_syntax.proofs.NamesLemmas.{with_there, with_absent, has_name}
use Rattle.pict_lex.specs.declared.halt.Halt.{Halt}
use Rattle.pict_lex.specs.declared.halt.Halt.TheVariants.{Stop, Memory as Stopped}
use Rattle.pict_lex.specs.declared.error.LexError.{LexError}
use Rattle.pict_lex.specs.declared.error.LexError.TheVariants.{Named, Memory}
use Rattle.pict_lex.specs.Lex.{KeepsNames, GainsSomeNames, IsRefusal, IsThisRefusal}
use Rattle.pict_lex.specs.Scan.{IsHalt}
use Rattle.pict_lex.specs.Steps.{HasStepped, HasRead, IsRefusedAt, token_at}
use Rattle.pict_lex.proofs.StepLemmas.{with_names_grows}

-- names only grow
pub kept_by : (old now : List (List ℕ)) (source : ℕ) (text : List ℕ) (at : ℕ) (tokens : List Token) → HasRead old now source text at tokens → KeepsNames old now
kept_by old now source text at tokens had =
    let grown : (more : List (List ℕ)) × (with_names old (named had.pieces) ≡ old ++ more) = with_names_grows old (named had.pieces) in
    (grown.0, had.names ∙ grown.1)

pub kept_on : (old now new : List (List ℕ)) (rest : List ℕ) (kind : Option TokenKind) (len : ℕ) → KeepsNames old now → HasStepped now new rest kind len → KeepsNames old new
kept_on old now new rest kind len (more, e) step =
    let grown : (others : List (List ℕ)) × (with_names now (named (step.piece ∷ [])) ≡ now ++ others) = with_names_grows now (named (step.piece ∷ [])) in
    (more ++ grown.0, step.names ∙ grown.1 ∙ ap (λ t. t ++ grown.0) e ∙ append_assoc old more grown.0)

pub gained_by : (old now : List (List ℕ)) (source : ℕ) (text : List ℕ) (at : ℕ) (tokens : List Token) → HasRead old now source text at tokens → GainsSomeNames old now text
gained_by old now source text at tokens had = (had.pieces, drop at text, had.cut, had.names)

-- one piece adds at most one name
pub one_name : (names : List (List ℕ)) (text : List ℕ) → length (with_name names text) ≤ length names + 1
one_name names text = elim (cases_Bool (has_name names text)) [
  | inl there ↦ let same : length (with_name names text) ≡ length names = ap length (with_there names text there) in omega arith
  | inr absent ↦ let more : length (with_name names text) ≡ length names + 1 = ap length (with_absent names text absent) ∙ length-append names (text ∷ []) in omega arith
]

one_more : (names : List (List ℕ)) (p : Piece) → length (with_names names (named (p ∷ []))) ≤ length names + 1
one_more names (blank byte) = omega arith
one_more names (comment bytes) = omega arith
one_more names (token bytes (identifier text)) = one_name names text
one_more names (token bytes (symbol s)) = one_name names _
one_more names (token bytes (keyword k)) = omega arith
one_more names (token bytes (number n)) = omega arith
one_more names (token bytes (character v)) = omega arith
one_more names (token bytes (string v)) = omega arith
one_more names (token bytes (sign s)) = omega arith

pub name_room : (now new : List (List ℕ)) (rest : List ℕ) (kind : Option TokenKind) (len : ℕ) → HasStepped now new rest kind len → length new ≤ length now + 1
name_room now new rest kind len step =
    let more : length (with_names now (named (step.piece ∷ []))) ≤ length now + 1 = one_more now step.piece in
    let same : length new ≡ length (with_names now (named (step.piece ∷ []))) = ap length step.names in omega arith

pub token_room : (tokens after : List Token) (kind : Option TokenKind) (span : Span) → after ≡ tokens ++ token_at kind span → length after ≤ length tokens + 1
token_room tokens after None span e = let size : length after ≡ length tokens + 0 = ap length e ∙ length-append tokens [] in omega arith
token_room tokens after (Some kind) span e = let size : length after ≡ length tokens + 1 = ap length e ∙ length-append tokens (token_at (Some kind) span) in omega arith

-- the text is read to its end
pub read_whole : (old now : List (List ℕ)) (source : ℕ) (text : List ℕ) (at : ℕ) (tokens : List Token) → length text ≤ at → (had : HasRead old now source text at tokens) → IsWholeCut text had.pieces
read_whole old now source text at tokens all had =
    let size : length (drop at text) ≡ length text - at = length-drop at text in
    subst (IsCut text had.pieces) (empty (drop at text) (omega arith)) had.cut
  where
    empty : (xs : List ℕ) → length xs ≡ 0 → xs ≡ []
    empty [] e = refl
    empty (x ∷ xs) e = absurd (omega arith)

-- a refusal is the stop of the text
pub refusal_is : (old now : List (List ℕ)) (source : ℕ) (text : List ℕ) (at : ℕ) (tokens : List Token) (halt : Halt) (error : LexError)
    → HasRead old now source text at tokens → IsHalt (drop at text) halt → IsRefusedAt source at halt error → IsRefusal source text error
refusal_is old now source text at tokens (Stop code further) error had stops e =
    subst (IsRefusal source text) (sym e) (record {
      pieces = had.pieces;
      rest = drop at text;
      read = had.cut;
      at = further;
      stops = stops;
      place = ap (λ n. record { text = source; start = n + further; end = n + further + extent code }) had.place;
    })
refusal_is old now source text at tokens Stopped error had stops e = subst (IsRefusal source text) (sym e) tt

pub refused_by : (source : ℕ) (text : List ℕ) (error : LexError) → IsRefusal source text error → (code : Code) (span : Span) → IsLexStop source text code span → IsThisRefusal code span error
refused_by source text (Named other place) is code span stop = one_stop source text other code place span is stop
refused_by source text Memory is code span stop = tt

pub accepted_by : (source : ℕ) (text : List ℕ) (error : LexError) → IsRefusal source text error → (pieces : List Piece) → IsWholeCut text pieces → error ≡ Memory
accepted_by source text (Named code span) is pieces reading = absurd (stop_excludes_whole_cut source text code span pieces is reading)
accepted_by source text Memory is pieces reading = refl
