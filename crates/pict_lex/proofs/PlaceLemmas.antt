-- The spans of tokens and of refusals lie in their text.
use Rattle.std.proofs.Common.{◌≡◌, ℕ, zero, suc, ◌+◌, ◌<◌, ◌≤◌, List, [], ◌∷◌, ◌++◌, length, refl, sym, ◌∙◌, ap, subst, arith, inl, inr}
use Rattle.std.specs.List.{All, AllByRecursion}
use Rattle.std.proofs.lemmas.List.{length-append}
use Rattle.pict_syntax.specs.declared.code.Code.{Code}
use Rattle.pict_syntax.specs.declared.code.Code.TheVariants.{L1, L2, L3, L4, L5}
use Rattle.pict_syntax.specs.declared.span.Span.{Span}
use Rattle.pict_syntax.specs.declared.token.Token.{Token}
use Rattle.pict_syntax.specs.Tokens.{Form, number, item_bytes, items_bytes, Spells}
use Rattle.pict_syntax.specs.Cuts.{Piece, blank, comment, token, joined_pieces, ArePieces, IsWholeCut, tokens_of, IsInLiteral, Stops, extent, IsLexStop}
use Rattle.pict_syntax.proofs.FormLemmas.{never_empty}
use Rattle.pict_lex.specs.declared.error.LexError.{LexError}
use Rattle.pict_lex.specs.declared.error.LexError.TheVariants.{Named, Memory}
use Rattle.pict_lex.specs.Lex.{LiesIn, RefusalLiesIn, IsRefusal}

in_literal_some : (rest after : List ℕ) → IsInLiteral rest after → 0 < length rest
in_literal_some rest after l = let size : length rest ≡ suc (length (items_bytes l.items ++ after)) = ap length l.spelled in omega arith

spelled_some : (bytes : List ℕ) (form : Form) → Spells bytes form → 0 < length bytes
spelled_some [] form h = absurd (never_empty form h)
spelled_some (first ∷ more) form h = omega arith

-- the place of a stop lies in the rest of the text
pub stop_within : (code : Code) (rest : List ℕ) (at : ℕ) → Stops code rest at → at + extent code ≤ length rest
stop_within L1 rest at (inl (h, e)) = let size : length rest ≡ suc (length h.more) = ap length h.is in omega arith
stop_within L1 rest at (inr (after, l, (byte, more, f, not_printable, no_newline), e)) = let size : length after ≡ suc (length more) = ap length f in omega arith
stop_within L2 rest at (inl (after, l, h, e)) = let some : 0 < length rest = in_literal_some rest after l in omega arith
stop_within L2 rest at (inr (inl (more, f), e)) = let size : length rest ≡ suc (suc (length more)) = ap length f in omega arith
stop_within L2 rest at (inr (inr (item, after, is, f, lone), e)) = let size : length rest ≡ suc (length (item_bytes item ++ after)) = ap length f in omega arith
stop_within L3 rest at (after, l, (more, f, some, none), e) = let size : length after ≡ suc (length more) = ap length f in omega arith
stop_within L4 rest at (h, e) =
    let size : length rest ≡ length h.bytes + length h.after = ap length h.is ∙ length-append h.bytes h.after in
    let some : 0 < length h.bytes = spelled_some h.bytes (number h.value) h.spelled in omega arith
stop_within L5 rest at ((begins, none), e) = let size : length rest ≡ suc (suc (length begins.0)) = ap length begins.1 in omega arith
stop_within code rest at h = absurd h

pub stop_lies : (source : ℕ) (text : List ℕ) (code : Code) (span : Span) → IsLexStop source text code span → LiesIn source text span
stop_lies source text code span stop =
    let inside : stop.at + extent code ≤ length stop.rest = stop_within code stop.rest stop.at stop.stops in
    let size : length text ≡ length (joined_pieces stop.pieces) + length stop.rest = ap length stop.read.whole ∙ length-append (joined_pieces stop.pieces) stop.rest in
    let some : 0 < extent code = extent_some code in
    let lies : LiesIn source text (record { text = source; start = length (joined_pieces stop.pieces) + stop.at; end = length (joined_pieces stop.pieces) + stop.at + extent code }) =
    record { named = refl; some = omega arith; within = omega arith } in
    subst (LiesIn source text) (sym stop.place) lies
  where
    extent_some : (code : Code) → 0 < extent code
    extent_some L5 = omega arith
    extent_some code = omega arith

pub refusal_placed : (source : ℕ) (text : List ℕ) (error : LexError) → IsRefusal source text error → RefusalLiesIn source text error
refusal_placed source text (Named code span) is = stop_lies source text code span is
refusal_placed source text Memory is = tt

-- the tokens of pieces that end by a place lie before it
tokens_lie : (names : List (List ℕ)) (source place : ℕ) (text : List ℕ) (ps : List Piece) (rest : List ℕ) → ArePieces ps rest → place + length (joined_pieces ps) ≤ length text
    → AllByRecursion (λ t. LiesIn source text t.span) (tokens_of names source place ps)
tokens_lie names source place text [] rest are fits = tt
tokens_lie names source place text (blank byte ∷ ps) rest are fits = tokens_lie names source (place + 1) text ps rest are.1 (omega arith)
tokens_lie names source place text (comment bytes ∷ ps) rest are fits =
    let size : length (bytes ++ joined_pieces ps) ≡ length bytes + length (joined_pieces ps) = length-append bytes (joined_pieces ps) in
    tokens_lie names source (place + length bytes) text ps rest are.1 (omega arith)
tokens_lie names source place text (token bytes form ∷ ps) rest are fits =
    let size : length (bytes ++ joined_pieces ps) ≡ length bytes + length (joined_pieces ps) = length-append bytes (joined_pieces ps) in
    let some : 0 < length bytes = spelled_some bytes form are.0.0 in
    (record { named = refl; some = omega arith; within = omega arith }, tokens_lie names source (place + length bytes) text ps rest are.1 (omega arith))

each_of : {A : Type 0} (P : A → Type 0) (xs : List A) → AllByRecursion P xs → All P xs
each_of P [] h k d below = absurd (omega arith)
each_of P (x ∷ xs) h zero d below = h.0
each_of P (x ∷ xs) h (suc k) d below = each_of P xs h.1 k d (omega arith)

pub reading_lies : (names : List (List ℕ)) (source : ℕ) (text : List ℕ) (ps : List Piece) (tokens : List Token) → IsWholeCut text ps → tokens ≡ tokens_of names source 0 ps
    → All (λ t. LiesIn source text t.span) tokens
reading_lies names source text ps tokens reading e =
    let size : length text ≡ length (joined_pieces ps) + 0 = ap length reading.whole ∙ length-append (joined_pieces ps) [] in
    subst (All (λ t. LiesIn source text t.span)) (sym e) (each_of (λ t. LiesIn source text t.span) (tokens_of names source 0 ps) (tokens_lie names source 0 text ps [] reading.each (omega arith)))
