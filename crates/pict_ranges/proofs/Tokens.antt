-- The literals of a program are tokens of its text, and these are within the ranges of the machine where the text isn't too long.
use Rattle.std.proofs.Common.{ℕ, ◌+◌, ◌<◌, ◌≤◌, ◌^◌, List, [], ◌∷◌, ◌++◌, length, map, IsTrue, FitsSigned, sym, ap, subst, arith, length-append}
use Rattle.std.specs.Int.{w64}
use Rattle.std.specs.Char.{digit_value, is_ascii_hexdigit}
use Rattle.std.proofs.lemmas.Bool.Decides.{nat_tests}
use Rattle.std.proofs.lemmas.List.{length-map}
use Rattle.pict_syntax.specs.declared.span.Span.{Span}
use Rattle.pict_syntax.specs.declared.token.Token.{Token}
use Rattle.pict_syntax.specs.declared.token.TokenKind.{TokenKind}
use Rattle.pict_syntax.specs.declared.token.TokenKind.TheVariants.{Number, Character, String}
use Rattle.pict_syntax.specs.declared.token.Sign.{Sign as AnySign}
use Rattle.pict_syntax.specs.Cuts.{Piece, blank, comment, token, ArePieces, joined_pieces, tokens_of}
use Rattle.pict_syntax.specs.Tokens.{identifier, symbol, keyword, number, character, string, sign, Item, plain, newline, tab, backslash, double_quote, single_quote, hexadecimal, item_value, items_bytes, IsItem, AreItems, Spells}
use Rattle.pict_syntax.specs.Phrases.{Phrase, ◌▸◌, led, between, closed}
use Rattle.pict_syntax.specs.Grammar.{val_span, abs_span, proc_span, IsDec, AreDecs, AreDefinitionsAnd, IsAbs, IsChan, IsVal, AreVals, AreFieldVals, AreLabelledVals, IsProc, AreProcsBar}
use Rattle.pict_syntax.specs.Trees.{Dec, new_dec, run_dec, let_dec, def_dec, alias_dec, operator_dec, await_dec, Decs, no_decs, more_decs, Definitions, no_definitions, more_definitions, Abs, process_abs, function_abs, Chan, use_chan, fold_chan, block_chan, apply_chan, right_chan, left_chan, Val, of_chan, number_val, character_val, string_val, true_val, false_val, fields_val, if_val, lambda_val, Vals, no_vals, more_vals, FieldVals, field_vals, LabelledVals, no_labelled_vals, more_labelled_vals, Proc, send_proc, receive_proc, serve_proc, if_proc, inert_proc, group_proc, Procs, no_procs, more_procs}
use Rattle.pict_lex.proofs.NumberLemmas.{within_fits}
use Rattle.pict_trace.specs.Readable.{AreBytes}
use Rattle.pict_ranges.proofs.Lengths.{items_long}
use Rattle.pict_ranges.proofs.Literals.{DecIs, DecsAre, DefinitionsAre, AbsIs, ChanIs, ValIs, ValsAre, FieldsAre, LabelledAre, ProcIs, ProcsAre}

-- ---- tokens

abbrev KindIs : TokenKind → Type 0
KindIs (Number n) = FitsSigned w64 n
KindIs (Character b) = b < 2 ^ 8
KindIs (String bytes) = AreBytes bytes × (length bytes < 2 ^ 63)
KindIs _ = Unit {0}

abbrev pub TokensAre : List Token → Type 0
TokensAre [] = Unit {0}
TokensAre (t ∷ ts) = KindIs t.kind × TokensAre ts

pub split : (us vs : List Token) → TokensAre (us ++ vs) → TokensAre us × TokensAre vs
split [] vs h = (tt, h)
split (u ∷ us) vs h = let rest = split us vs h.1 in ((h.0, rest.0), rest.1)

digit_below : (byte : ℕ) → IsTrue (is_ascii_hexdigit byte) → digit_value byte < 16
digit_below byte h = grind (arith, nat_tests, h)

item_below : (quote : ℕ) (i : Item) → IsItem quote i → item_value i < 2 ^ 8
item_below quote (plain byte) h = let range = h.0 in omega (arith, range)
item_below quote newline h = omega arith
item_below quote tab h = omega arith
item_below quote backslash h = omega arith
item_below quote double_quote h = omega arith
item_below quote single_quote h = omega arith
item_below quote (hexadecimal high low) h = let a = digit_below high h.0 in let b = digit_below low h.1 in omega (arith, a, b)

values_below : (quote : ℕ) (items : List Item) → AreItems quote items → AreBytes (map item_value items)
values_below quote [] h = tt
values_below quote (i ∷ is) h = (item_below quote i h.0, values_below quote is h.1)

values_short : (items : List Item) (n : ℕ) → length (34 ∷ (items_bytes items ++ 34 ∷ [])) ≤ n → length (map item_value items) ≤ n
values_short items n few =
    let long = items_long items in
    let same = length-map items item_value in
    let e = length-append (items_bytes items) (34 ∷ []) in
    omega (arith, few, long, same, e)

string_is : (bytes values : List ℕ) → Spells bytes (string values) → length bytes < 2 ^ 63 → AreBytes values × (length values < 2 ^ 63)
string_is bytes values (items, are, e, f) few =
    let whole = ap length e in
    let short = values_short items (length bytes) (omega (arith, whole)) in
    subst (λ vs. AreBytes vs × (length vs < 2 ^ 63)) (sym f) (values_below 34 items are, omega (arith, short, few))

character_is : (bytes : List ℕ) (value : ℕ) → Spells bytes (character value) → value < 2 ^ 8
character_is bytes value (item, is, e, f) = let below = item_below 39 item is in omega (arith, below, f)

module _ (names : List (List ℕ)) (n : ℕ) where
  pub tokens_are : (place : ℕ) (pieces : List Piece) (rest : List ℕ) → ArePieces pieces rest → length (joined_pieces pieces) < 2 ^ 63 → TokensAre (tokens_of names n place pieces)
  tokens_are place [] rest are few = tt
  tokens_are place (blank byte ∷ ps) rest are few = tokens_are (place + 1) ps rest are.1 (omega (arith, few))
  tokens_are place (comment bytes ∷ ps) rest are few = let e = length-append bytes (joined_pieces ps) in tokens_are (place + length bytes) ps rest are.1 (omega (arith, few, e))
  tokens_are place (token bytes (identifier text) ∷ ps) rest are few = let e = length-append bytes (joined_pieces ps) in (tt, tokens_are (place + length bytes) ps rest are.1 (omega (arith, few, e)))
  tokens_are place (token bytes (symbol s) ∷ ps) rest are few = let e = length-append bytes (joined_pieces ps) in (tt, tokens_are (place + length bytes) ps rest are.1 (omega (arith, few, e)))
  tokens_are place (token bytes (keyword k) ∷ ps) rest are few = let e = length-append bytes (joined_pieces ps) in (tt, tokens_are (place + length bytes) ps rest are.1 (omega (arith, few, e)))
  tokens_are place (token bytes (number i) ∷ ps) rest are few =
      let e = length-append bytes (joined_pieces ps) in (within_fits i are.0.1, tokens_are (place + length bytes) ps rest are.1 (omega (arith, few, e)))
  tokens_are place (token bytes (character value) ∷ ps) rest are few =
      let e = length-append bytes (joined_pieces ps) in (character_is bytes value are.0.0, tokens_are (place + length bytes) ps rest are.1 (omega (arith, few, e)))
  tokens_are place (token bytes (string values) ∷ ps) rest are few =
      let e = length-append bytes (joined_pieces ps) in (string_is bytes values are.0.0 (omega (arith, few, e)), tokens_are (place + length bytes) ps rest are.1 (omega (arith, few, e)))
  tokens_are place (token bytes (sign s) ∷ ps) rest are few = let e = length-append bytes (joined_pieces ps) in (tt, tokens_are (place + length bytes) ps rest are.1 (omega (arith, few, e)))

-- ---- trees

-- what the tokens of a phrase say
abbrev Says : Phrase → Type 0 → Type 0
Says L X = (ts : List Token) → L ts → TokensAre ts → X

both : {X Y : Type 0} (L M : Phrase) → Says L X → Says M Y → Says (L ▸ M) (X × Y)
both L M f g ts (us, vs, is, l, m) h = let parts = split us vs (subst TokensAre (sym is) h) in (f us l parts.0, g vs m parts.1)

first : {X : Type 0} (L M : Phrase) → Says L X → Says (L ▸ M) X
first L M f ts (us, vs, is, l, m) h = f us l (split us vs (subst TokensAre (sym is) h)).0

second : {X : Type 0} (L M : Phrase) → Says M X → Says (L ▸ M) X
second L M f ts (us, vs, is, l, m) h = f vs m (split us vs (subst TokensAre (sym is) h)).1

after : {X : Type 0} (s : Span) (k : TokenKind) (L : Phrase) (e : Span) → Says L X → Says (led s k L e) X
after s k L e f ts (i, is, inner) h = second _ L f ts inner h

inside : {X : Type 0} (s : Span) (o : AnySign) (L : Phrase) (c : AnySign) → Says L X → Says (between s o L c) X
inside s o L c f ts (i, j, is, inner) h = second _ _ (first L _ f) ts inner h

ahead : {X : Type 0} (s b : Span) (L : Phrase) (k : TokenKind) → Says L X → Says (closed s b L k) X
ahead s b L k f ts (j, is, inner) h = first L _ f ts inner h

mutual
  unfolding IsDec AreDecs AreDefinitionsAnd IsAbs IsChan IsVal AreVals AreFieldVals AreLabelledVals IsProc AreProcsBar

  dec_is : (d : Dec) → Says (IsDec d) (DecIs d)
  dec_is (new_dec s x t) ts is h = tt
  dec_is (run_dec s p) ts is h = after s _ _ (proc_span p) (proc_is p) ts is h
  dec_is (let_dec s p v) ts is h = after s _ _ (val_span v) (second _ _ (second _ _ (val_is v))) ts is h
  dec_is (def_dec s no_definitions) ts is h = absurd is
  dec_is (def_dec s (more_definitions ds x a)) ts is h = after s _ _ (abs_span a) (both _ _ (definitions_are ds) (second _ _ (abs_is a))) ts is h
  dec_is (alias_dec s x t) ts is h = tt
  dec_is (operator_dec s x xs t) ts is h = tt
  dec_is (await_dec s v) ts is h = ahead s (val_span v) _ _ (val_is v) ts is h

  pub decs_are : (ds : Decs) → Says (AreDecs ds) (DecsAre ds)
  decs_are no_decs ts is h = tt
  decs_are (more_decs ds d) ts is h = both _ _ (decs_are ds) (dec_is d) ts is h

  definitions_are : (ds : Definitions) → Says (AreDefinitionsAnd ds) (DefinitionsAre ds)
  definitions_are no_definitions ts is h = tt
  definitions_are (more_definitions ds x a) ts is h = both _ _ (definitions_are ds) (second _ _ (first _ _ (abs_is a))) ts is h

  abs_is : (a : Abs) → Says (IsAbs a) (AbsIs a)
  abs_is (process_abs s p q) ts is h = second _ _ (second _ _ (proc_is q)) ts is.1 h
  abs_is (function_abs s f r v) ts is h = after s _ _ (val_span v) (second _ _ (second _ _ (second _ _ (second _ _ (val_is v))))) ts is h

  chan_is : (c : Chan) → Says (IsChan c) (ChanIs c)
  chan_is (use_chan s n) ts is h = tt
  chan_is (fold_chan s r v) ts is h = inside s _ _ _ (second _ _ (second _ _ (val_is v))) ts is h
  chan_is (block_chan s no_decs v) ts is h = absurd is
  chan_is (block_chan s (more_decs ds d) v) ts is h =
      let r = inside s _ _ _ (both _ _ (decs_are ds) (both _ _ (dec_is d) (val_is v))) ts is h in ((r.0, r.1.0), r.1.1)
  chan_is (apply_chan s v f) ts is h = inside s _ _ _ (both _ _ (val_is v) (fields_are f)) ts is h
  chan_is (right_chan s x no_vals) ts is h = absurd is
  chan_is (right_chan s x (more_vals no_vals w)) ts is h = absurd is
  chan_is (right_chan s x (more_vals (more_vals vs v) w)) ts is h =
      let r = inside s _ _ _ (second _ _ (second _ _ (both _ _ (vals_are vs) (both _ _ (val_is v) (val_is w))))) ts is h in ((r.0, r.1.0), r.1.1)
  chan_is (left_chan s x no_vals) ts is h = absurd is
  chan_is (left_chan s x (more_vals no_vals w)) ts is h = absurd is
  chan_is (left_chan s x (more_vals (more_vals vs v) w)) ts is h =
      let r = inside s _ _ _ (second _ _ (second _ _ (both _ _ (vals_are vs) (both _ _ (val_is v) (val_is w))))) ts is h in ((r.0, r.1.0), r.1.1)

  val_is : (v : Val) → Says (IsVal v) (ValIs v)
  val_is (of_chan c) ts is h = chan_is c ts is h
  val_is (number_val s n) ts is h = (subst TokensAre is h).0
  val_is (character_val s b) ts is h = (subst TokensAre is h).0
  val_is (string_val s b) ts is h = (subst TokensAre is h).0
  val_is (true_val s) ts is h = tt
  val_is (false_val s) ts is h = tt
  val_is (fields_val s f) ts is h = inside s _ _ _ (fields_are f) ts is h
  val_is (if_val s a b c) ts is h = after s _ _ (val_span c) (both _ _ (val_is a) (second _ _ (both _ _ (val_is b) (second _ _ (val_is c))))) ts is h
  val_is (lambda_val s a) ts is h = after s _ _ (abs_span a) (abs_is a) ts is h

  vals_are : (vs : Vals) → Says (AreVals vs) (ValsAre vs)
  vals_are no_vals ts is h = tt
  vals_are (more_vals vs v) ts is h = both _ _ (vals_are vs) (val_is v) ts is h

  fields_are : (f : FieldVals) → Says (AreFieldVals f) (FieldsAre f)
  fields_are (field_vals ts vs ls) us is h = second _ _ (both _ _ (vals_are vs) (labelled_are ls)) us is h

  labelled_are : (ls : LabelledVals) → Says (AreLabelledVals ls) (LabelledAre ls)
  labelled_are no_labelled_vals ts is h = tt
  labelled_are (more_labelled_vals ls x v) ts is h = both _ _ (labelled_are ls) (second _ _ (second _ _ (val_is v))) ts is h

  proc_is : (p : Proc) → Says (IsProc p) (ProcIs p)
  proc_is (send_proc s c v) ts is h = both _ _ (chan_is c) (second _ _ (val_is v)) ts is.1 h
  proc_is (receive_proc s c a) ts is h = both _ _ (chan_is c) (second _ _ (abs_is a)) ts is.1 h
  proc_is (serve_proc s c a) ts is h = both _ _ (chan_is c) (second _ _ (abs_is a)) ts is.1 h
  proc_is (if_proc s a p q) ts is h = after s _ _ (proc_span q) (both _ _ (val_is a) (second _ _ (both _ _ (proc_is p) (second _ _ (proc_is q))))) ts is h
  proc_is (inert_proc s) ts is h = tt
  proc_is (group_proc s ds no_procs) ts is h = absurd is
  proc_is (group_proc s ds (more_procs ps p)) ts is h =
      let r = inside s _ _ _ (both _ _ (decs_are ds) (both _ _ (procs_are ps) (proc_is p))) ts is h in (r.0, (r.1.0, r.1.1))

  procs_are : (ps : Procs) → Says (AreProcsBar ps) (ProcsAre ps)
  procs_are no_procs ts is h = tt
  procs_are (more_procs ps p) ts is h = both _ _ (procs_are ps) (first _ _ (proc_is p)) ts is h
