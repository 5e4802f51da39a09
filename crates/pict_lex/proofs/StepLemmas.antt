-- One piece more: what was read at the front as a step of the reading of the whole text.
use Rattle.std.proofs.Common.{◌≡◌, ℕ, ◌+◌, ◌-◌, ◌<◌, ◌≤◌, true, List, [], ◌∷◌, ◌++◌, suc, length, take, drop, get_or, Option, Some, None, refl, sym, ◌∙◌, ap, subst, arith, append_assoc}
use Rattle.std.specs.List.{AllByRecursion}
use Rattle.std.proofs.lemmas.List.{take-append-drop, length-append, length-drop, length-take-le, drop-drop}
use Rattle.pict_syntax.specs.declared.token.SymbolName.{SymbolName}
use Rattle.pict_syntax.specs.declared.token.Token.{Token}
use Rattle.pict_syntax.specs.declared.token.TokenKind.{TokenKind}
use Rattle.pict_syntax.specs.declared.token.TokenKind.TheVariants.{Identifier, Symbol}
use Rattle.pict_syntax.specs.Names.{with_name, with_names, number_of}
use Rattle.pict_syntax.specs.Tokens.{Form, identifier, symbol, keyword, number, character, string, sign, symbol_text}
use Rattle.pict_syntax.specs.Cuts.{Piece, blank, comment, token, piece_bytes, IsBlank, IsPiece, joined_pieces, ArePieces, kind_of, tokens_of, named, named_by}
use Rattle.pict_lex.specs.Scan.{IsToken, IsCommentAt}
use Rattle.pict_syntax.proofs.NamesLemmas.{has_name, has_kept, has_interned, number_kept, with_grows}
use Rattle.pict_lex.specs.Steps.{HasStepped, HasRead, kind_of_piece, token_at}

append_nil : {A : Type 0} (xs : List A) → xs ++ [] ≡ xs
append_nil [] = refl
append_nil (x ∷ xs) = ap (λ t. x ∷ t) (append_nil xs)

first_taken : (rest : List ℕ) → 0 < length rest → get_or rest 0 0 ∷ [] ≡ take 1 rest
first_taken [] h = absurd (omega arith)
first_taken (x ∷ xs) h = refl

pub blank_step : (names : List (List ℕ)) (rest : List ℕ) → 0 < length rest → IsBlank (get_or rest 0 0) → HasStepped names names rest None 1
blank_step names rest some is =
    record { piece = blank (get_or rest 0 0); is = is; bytes = first_taken rest some; some = omega arith; within = omega arith; names = refl; kind_is = refl }

pub comment_step : (names : List (List ℕ)) (rest : List ℕ) (len : ℕ) → IsCommentAt rest len → HasStepped names names rest None len
comment_step names rest len h =
    record { piece = comment (take len rest); is = h.comment; bytes = refl; some = h.some; within = h.within; names = refl; kind_is = refl }

-- a token without a name
pub token_step : (names : List (List ℕ)) (rest : List ℕ) (form : Form) (len : ℕ) → named_by form ≡ [] → IsToken rest form len → HasStepped names names rest (Some (kind_of names form)) len
token_step names rest form len none h =
    record { piece = token (take len rest) form; is = h.piece; bytes = refl; some = h.some; within = h.within; names = ap (λ t. with_names names (t ++ [])) (sym none); kind_is = refl }

pub identifier_step : (old new : List (List ℕ)) (rest : List ℕ) (len n : ℕ) → IsToken rest (identifier (take len rest)) len → new ≡ with_name old (take len rest) → n ≡ number_of new (take len rest)
    → HasStepped old new rest (Some (Identifier (record { 0 = n }))) len
identifier_step old new rest len n h added is =
    record { piece = token (take len rest) (identifier (take len rest)); is = h.piece; bytes = refl; some = h.some; within = h.within; names = added; kind_is = ap (λ k. Some (Identifier (record { 0 = k }))) is }

pub symbol_step : (old new : List (List ℕ)) (rest : List ℕ) (s : SymbolName) (len n : ℕ) → IsToken rest (symbol s) len → new ≡ with_name old (take len rest) → n ≡ number_of new (take len rest)
    → HasStepped old new rest (Some (Symbol s (record { 0 = n }))) len
symbol_step old new rest s len n h added is =
    let text : take len rest ≡ symbol_text s = h.piece.0 in
    record {
      piece = token (take len rest) (symbol s);
      is = h.piece;
      bytes = refl;
      some = h.some;
      within = h.within;
      names = added ∙ ap (with_name old) text;
      kind_is = ap (λ k. Some (Symbol s (record { 0 = k }))) (is ∙ ap (number_of new) text);
    }

joined_last : (ps : List Piece) (p : Piece) → joined_pieces (ps ++ p ∷ []) ≡ joined_pieces ps ++ piece_bytes p
joined_last [] p = append_nil (piece_bytes p)
joined_last (q ∷ ps) p = ap (λ t. piece_bytes q ++ t) (joined_last ps p) ∙ sym (append_assoc (piece_bytes q) (joined_pieces ps) (piece_bytes p))

joined_behind : (ps : List Piece) (p : Piece) (rest : List ℕ) → joined_pieces ps ++ (piece_bytes p ++ rest) ≡ joined_pieces (ps ++ p ∷ []) ++ rest
joined_behind ps p rest = sym (append_assoc (joined_pieces ps) (piece_bytes p) rest) ∙ ap (λ t. t ++ rest) (sym (joined_last ps p))

are_last : (ps : List Piece) (p : Piece) (rest : List ℕ) → ArePieces ps (piece_bytes p ++ rest) → IsPiece p rest → ArePieces (ps ++ p ∷ []) rest
are_last [] p rest are is = (is, tt)
are_last (q ∷ ps) p rest are is = (subst (IsPiece q) (joined_behind ps p rest) are.0, are_last ps p rest are.1 is)

named_last : (ps : List Piece) (p : Piece) → named (ps ++ p ∷ []) ≡ named ps ++ named (p ∷ [])
named_last [] p = refl
named_last (blank byte ∷ ps) p = named_last ps p
named_last (comment bytes ∷ ps) p = named_last ps p
named_last (token bytes form ∷ ps) p = ap (λ t. named_by form ++ t) (named_last ps p) ∙ sym (append_assoc (named_by form) (named ps) (named (p ∷ [])))

pub with_names_last : (names xs ys : List (List ℕ)) → with_names names (xs ++ ys) ≡ with_names (with_names names xs) ys
with_names_last names [] ys = refl
with_names_last names (x ∷ xs) ys = with_names_last (with_name names x) xs ys

-- interning several texts adds at the end
pub with_names_grows : (names xs : List (List ℕ)) → (more : List (List ℕ)) × (with_names names xs ≡ names ++ more)
with_names_grows names [] = ([], sym (append_nil names))
with_names_grows names (x ∷ xs) =
    let first : (more : List (List ℕ)) × (with_name names x ≡ names ++ more) = with_grows names x in
    let others : (more : List (List ℕ)) × (with_names (with_name names x) xs ≡ with_name names x ++ more) = with_names_grows (with_name names x) xs in
    (first.0 ++ others.0, others.1 ∙ ap (λ t. t ++ others.0) first.1 ∙ append_assoc names first.0 others.0)

-- each interned text is there
pub are_there : (names xs : List (List ℕ)) → AllByRecursion (λ text. has_name (with_names names xs) text ≡ true) xs
are_there names [] = tt
are_there names (x ∷ xs) =
    let more : (more : List (List ℕ)) × (with_names (with_name names x) xs ≡ with_name names x ++ more) = with_names_grows (with_name names x) xs in (
      ap (λ t. has_name t x) more.1 ∙ has_kept (with_name names x) more.0 x (has_interned names x),
      are_there (with_name names x) xs,
    )

all_front : (P : List ℕ → Type 0) (xs ys : List (List ℕ)) → AllByRecursion P (xs ++ ys) → AllByRecursion P xs
all_front P [] ys h = tt
all_front P (x ∷ xs) ys h = (h.0, all_front P xs ys h.1)

all_back : (P : List ℕ → Type 0) (xs ys : List (List ℕ)) → AllByRecursion P (xs ++ ys) → AllByRecursion P ys
all_back P [] ys h = h
all_back P (x ∷ xs) ys h = all_back P xs ys h.1

kind_kept : (names more : List (List ℕ)) (form : Form) → AllByRecursion (λ text. has_name names text ≡ true) (named_by form) → kind_of (names ++ more) form ≡ kind_of names form
kind_kept names more (identifier text) h = ap (λ n. Identifier (record { 0 = n })) (number_kept names more text h.0)
kind_kept names more (symbol s) h = ap (λ n. Symbol s (record { 0 = n })) (number_kept names more (symbol_text s) h.0)
kind_kept names more (keyword k) h = refl
kind_kept names more (number n) h = refl
kind_kept names more (character value) h = refl
kind_kept names more (string values) h = refl
kind_kept names more (sign s) h = refl

-- tokens stay when names come
pub tokens_kept : (names more : List (List ℕ)) (source place : ℕ) (ps : List Piece) → AllByRecursion (λ text. has_name names text ≡ true) (named ps)
    → tokens_of (names ++ more) source place ps ≡ tokens_of names source place ps
tokens_kept names more source place [] h = refl
tokens_kept names more source place (blank byte ∷ ps) h = tokens_kept names more source (place + 1) ps h
tokens_kept names more source place (comment bytes ∷ ps) h = tokens_kept names more source (place + length bytes) ps h
tokens_kept names more source place (token bytes form ∷ ps) h =
    ap (λ k. record { kind = k; span = record { text = source; start = place; end = place + length bytes } } ∷ tokens_of (names ++ more) source (place + length bytes) ps)
    (kind_kept names more form (all_front (λ text. has_name names text ≡ true) (named_by form) (named ps) h))
    ∙ ap (λ t. record { kind = kind_of names form; span = record { text = source; start = place; end = place + length bytes } } ∷ t)
    (tokens_kept names more source (place + length bytes) ps (all_back (λ text. has_name names text ≡ true) (named_by form) (named ps) h))

further : (place : ℕ) (bytes : List ℕ) (ps : List Piece) → (place + length bytes) + length (joined_pieces ps) ≡ place + length (bytes ++ joined_pieces ps)
further place bytes ps = let size : length (bytes ++ joined_pieces ps) ≡ length bytes + length (joined_pieces ps) = length-append bytes (joined_pieces ps) in omega arith

tokens_last : (names : List (List ℕ)) (source place : ℕ) (ps : List Piece) (p : Piece)
    → tokens_of names source place (ps ++ p ∷ []) ≡ tokens_of names source place ps ++ tokens_of names source (place + length (joined_pieces ps)) (p ∷ [])
tokens_last names source place [] p = let same : place ≡ place + 0 = omega arith in ap (λ n. tokens_of names source n (p ∷ [])) same
tokens_last names source place (blank byte ∷ ps) p =
    let same : (place + 1) + length (joined_pieces ps) ≡ place + suc (length (joined_pieces ps)) = omega arith in
    tokens_last names source (place + 1) ps p ∙ ap (λ n. tokens_of names source (place + 1) ps ++ tokens_of names source n (p ∷ [])) same
tokens_last names source place (comment bytes ∷ ps) p =
    tokens_last names source (place + length bytes) ps p ∙ ap (λ n. tokens_of names source (place + length bytes) ps ++ tokens_of names source n (p ∷ [])) (further place bytes ps)
tokens_last names source place (token bytes form ∷ ps) p =
    ap (λ t. record { kind = kind_of names form; span = record { text = source; start = place; end = place + length bytes } } ∷ t)
    (tokens_last names source (place + length bytes) ps p ∙ ap (λ n. tokens_of names source (place + length bytes) ps ++ tokens_of names source n (p ∷ [])) (further place bytes ps))

-- the token of one piece
one_token : (names : List (List ℕ)) (source at len : ℕ) (p : Piece) → length (piece_bytes p) ≡ len
    → tokens_of names source at (p ∷ []) ≡ token_at (kind_of_piece names p) (record { text = source; start = at; end = at + len })
one_token names source at len (blank byte) h = refl
one_token names source at len (comment bytes) h = refl
one_token names source at len (token bytes form) h = ap (λ n. record { kind = kind_of names form; span = record { text = source; start = at; end = at + n } } ∷ []) h

-- the reading of the text goes on by one piece
pub one_piece_more : (old now new : List (List ℕ)) (source : ℕ) (text : List ℕ) (at len : ℕ) (tokens after : List Token) (kind : Option TokenKind)
    → HasRead old now source text at tokens → HasStepped now new (drop at text) kind len
    → after ≡ tokens ++ token_at kind (record { text = source; start = at; end = at + len }) → HasRead old new source text (at + len) after
one_piece_more old now new source text at len tokens after kind had step pushed =
    let behind : drop len (drop at text) ≡ drop (at + len) text = drop-drop len at text in
    let size : length (drop at text) ≡ length text - at = length-drop at text in
    let fits : at ≤ length text = had.within in
    let inside : len ≤ length (drop at text) = step.within in
    let front : drop at text ≡ piece_bytes step.piece ++ drop (at + len) text =
    sym (take-append-drop len (drop at text)) ∙ ap (λ t. take len (drop at text) ++ t) behind ∙ ap (λ t. t ++ drop (at + len) text) (sym step.bytes) in
    let bytes : length (piece_bytes step.piece) ≡ len = ap length step.bytes ∙ length-take-le len (drop at text) inside in
    let there : AllByRecursion (λ w. has_name now w ≡ true) (named had.pieces) = subst (λ ns. AllByRecursion (λ w. has_name ns w ≡ true) (named had.pieces)) (sym had.names) (are_there old (named had.pieces)) in
    let more : (more : List (List ℕ)) × (with_names now (named (step.piece ∷ [])) ≡ now ++ more) = with_names_grows now (named (step.piece ∷ [])) in
    let grown : new ≡ now ++ more.0 = step.names ∙ more.1 in
    let same : tokens_of new source 0 had.pieces ≡ tokens = ap (λ ns. tokens_of ns source 0 had.pieces) grown ∙ tokens_kept now more.0 source 0 had.pieces there ∙ sym had.tokens_are in
    let here : 0 + length (joined_pieces had.pieces) ≡ at = (let p : at ≡ length (joined_pieces had.pieces) = had.place in omega arith) in
    let last : tokens_of new source (0 + length (joined_pieces had.pieces)) (step.piece ∷ []) ≡ token_at kind (record { text = source; start = at; end = at + len }) =
    ap (λ n. tokens_of new source n (step.piece ∷ [])) here ∙ one_token new source at len step.piece bytes ∙ ap (λ k. token_at k (record { text = source; start = at; end = at + len })) (sym step.kind_is) in
    record {
      pieces = had.pieces ++ step.piece ∷ [];
      cut = record {
        whole = had.cut.whole ∙ ap (λ t. joined_pieces had.pieces ++ t) front ∙ joined_behind had.pieces step.piece (drop (at + len) text);
        each = are_last had.pieces step.piece (drop (at + len) text) (subst (ArePieces had.pieces) front had.cut.each) (subst (IsPiece step.piece) behind step.is);
      };
      place = (let p : at ≡ length (joined_pieces had.pieces) = had.place in
          let joint : length (joined_pieces had.pieces ++ piece_bytes step.piece) ≡ length (joined_pieces had.pieces) + length (piece_bytes step.piece) = length-append (joined_pieces had.pieces) (piece_bytes step.piece) in
          let sum : at + len ≡ length (joined_pieces had.pieces ++ piece_bytes step.piece) = omega arith in sum ∙ ap length (sym (joined_last had.pieces step.piece)));
      within = omega arith;
      names = step.names ∙ ap (λ ns. with_names ns (named (step.piece ∷ []))) had.names ∙ sym (with_names_last old (named had.pieces) (named (step.piece ∷ [])))
          ∙ ap (with_names old) (sym (named_last had.pieces step.piece));
      tokens_are = pushed ∙ ap (λ t. t ++ token_at kind (record { text = source; start = at; end = at + len })) (sym same) ∙ ap (λ t. tokens_of new source 0 had.pieces ++ t) (sym last)
          ∙ sym (tokens_last new source 0 had.pieces step.piece);
    }
