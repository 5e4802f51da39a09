-- What single tokens do where values, processes and declarations are read.
use Rattle.std.proofs.Common.{◌≡◌, List, [], ◌∷◌, refl, ◌∙◌, None, inl, inr}
use Rattle.pict_syntax.specs.declared.name.Name.{Name}
use Rattle.pict_syntax.specs.declared.span.Span.{Span}
use Rattle.pict_syntax.specs.declared.id.Id.{Id}
use Rattle.pict_syntax.specs.declared.token.SymbolName.{SymbolName}
use Rattle.pict_syntax.specs.declared.token.TokenKind.{TokenKind}
use Rattle.pict_syntax.specs.declared.token.TokenKind.TheVariants.{Identifier, Symbol, Keyword, Sign}
use Rattle.pict_syntax.specs.declared.token.Keyword.{Keyword as AnyKeyword}
use Rattle.pict_syntax.specs.declared.token.Keyword.TheVariants.{And, Def, Else, False, If, New, Rec, Run, Then, True, TypeDefinition, Val as ValKeyword}
use Rattle.pict_syntax.specs.declared.token.Sign.TheVariants.{Bang, Question, QuestionStar, Equals, OpenParen, CloseParen, OpenBracket, CloseBracket, Colon, Semicolon, Less, Greater, Backslash, Hash}
use Rattle.pict_syntax.specs.Trees.{TypeTrees, no_types, Dec, await_dec, def_dec, Decs, no_decs, more_decs, Definitions, more_definitions, Abs, Chan, use_chan, block_chan, Val, of_chan, Vals, no_vals, more_vals, LabelledVals, no_labelled_vals, more_labelled_vals, FieldVals, field_vals, Proc, Procs, no_procs, more_procs}
use Rattle.pict_syntax.specs.Phrases.{Phrase, token, at, name, join}
use Rattle.pict_syntax.specs.Grammar.{val_span, abs_span}
use Rattle.pict_automaton.specs.Places.{State, need, ValuePlace, in_side, in_field, in_label, in_fold, in_else, waiting, at_top, in_test, in_then, in_paren, in_then_process, in_bar, EitherPlace, in_paren_either, in_then_either, ProcessPlaces, process_only, process_either, ValuePlaces, value_only, value_either, Place, for_value, for_process, for_either, DeclarationPlace, top_declarations, paren_declarations, in_lambda, FieldsPlace, in_record, in_apply, fresh_name, have_channel, have_value, have_either, have_process, have_processes, have_definition, need_abstraction, fold_keyword, after_arguments, after_values, value_name, after_labels, value_label, Side, arguments}
use Rattle.pict_automaton.specs.Machine.{id, of_processes, of_values, paren_values, parens, after_declaration, put_declaration, put_value, put_values, put_processes, put_channel, begin_declaration, begin_first, declaration_value, declaration_either, close_values, step}
use Rattle.pict_automaton.proofs.Reading.{Ahead, anything, next, Reads, Falls, falls, then_falls, falls_then, one, always, Starts}
use Rattle.pict_automaton.proofs.Ahead.{Calm, NotColon, NotSide, BeginsVal, Applies, StartsVal}

-- a value where a value or a process may stand: a channel value may yet be a process's
abbrev pub put_item : Val → ValuePlaces → State
put_item (of_chan c) q = put_channel c (of_values q)
put_item v q = put_values v q

pub one_item_value : (v : Val) (p : ValuePlace) → put_item v (value_only p) ≡ put_value v p
one_item_value (of_chan c) p = refl
one_item_value _ p = refl

-- right behind `(` an identifier may be the name of `( Name > .. )`
abbrev pub Behind : Place → Ahead
Behind (for_value (waiting (in_paren o no_decs p))) = next NotSide
Behind (for_either (in_paren_either o no_decs p)) = next NotSide
Behind q = anything

pub behind : (q : Place) (r : List _) → next NotSide r → Behind q r
behind (for_value (waiting (in_paren o no_decs p))) r h = h
behind (for_value _) r h = tt
behind (for_either (in_paren_either o no_decs p)) r h = h
behind (for_either _) r h = tt
behind (for_process p) r h = tt

fresh_falls : (o : Span) (x : Id) (q : Place) → Falls (next NotSide) (fresh_name o x q) (put_channel (use_chan x.span x.name) (parens o no_decs q))
fresh_falls o x q = falls (λ k i h. same q k i h)
  where
    same : (q : Place) (k : TokenKind) (i : Span) → NotSide k → step k i (fresh_name o x q) ≡ step k i (put_channel (use_chan x.span x.name) (parens o no_decs q))
    same q (Sign Greater) i h = absurd h
    same q (Sign Less) i h = absurd h
    same (for_value p) k i h = refl
    same (for_process p) k i h = refl
    same (for_either p) k i h = refl

named_falls : (n : Name) (s : Span) (q : Place) → Falls (Behind q) (step (Identifier n) s (need q)) (put_channel (use_chan s n) q)
named_falls n s (for_value (waiting (in_paren o no_decs p))) = fresh_falls o (id n s) (for_value p)
named_falls n s (for_value _) = record { same = λ r h. refl }
named_falls n s (for_process p) = record { same = λ r h. refl }
named_falls n s (for_either (in_paren_either o no_decs (process_only p))) = fresh_falls o (id n s) (for_process p)
named_falls n s (for_either (in_paren_either o no_decs (process_either p))) = fresh_falls o (id n s) (for_either p)
named_falls n s (for_either _) = record { same = λ r h. refl }

pub symbol_named : (n : Name) (y : SymbolName) (s : Span) (q : Place) → step (Symbol y n) s (need q) ≡ step (Identifier n) s (need q)
symbol_named n y s (for_value p) = refl
symbol_named n y s (for_process p) = refl
symbol_named n y s (for_either p) = refl

-- a name is read as one token
pub reads_name : {C : Ahead} {x y : State} (n : Name) (s : Span) → Reads C x (at (Identifier n) s) y → ((z : SymbolName) → step (Symbol z n) s x ≡ step (Identifier n) s x) → Reads C x (name n s) y
reads_name {C} {x} {y} n s f e = record { runs = λ ts r h c. elim h [ inl g ↦ f.runs ts r g c | inr g ↦ (other g.0 e).runs ts r g.1 c ] }
  where
    other : (z : SymbolName) → ((z : SymbolName) → step (Symbol z n) s x ≡ step (Identifier n) s x) → Reads C x (at (Symbol z n) s) y
    other z e = then_falls (one (e z)) (record { same = λ r c. f.runs (token (Identifier n) s ∷ []) r refl c })

pub reads_use : (n : Name) (s : Span) (q : Place) → Reads (Behind q) (need q) (name n s) (put_channel (use_chan s n) q)
reads_use n s q = reads_name n s (then_falls (one refl) (named_falls n s q)) (λ y. symbol_named n y s q)

-- parentheses
pub open_paren : (q : Place) (i : Span) → step (Sign OpenParen) i (need q) ≡ need (parens i no_decs q)
open_paren (for_value p) i = refl
open_paren (for_process p) i = refl
open_paren (for_either p) i = refl

pub paren_processes : (o : Span) (ds : Decs) (q : ProcessPlaces) → parens o ds (of_processes q) ≡ for_either (in_paren_either o ds q)
paren_processes o ds (process_only p) = refl
paren_processes o ds (process_either p) = refl

pub rec_step : (q : Place) (o i : Span) → step (Keyword Rec) i (need (parens o no_decs q)) ≡ fold_keyword o q
rec_step (for_value p) o i = refl
rec_step (for_process p) o i = refl
rec_step (for_either p) o i = refl

pub fold_falls : (o : Span) (q : Place) → Falls (next NotColon) (fold_keyword o q) (need (for_value (in_fold o None q)))
fold_falls o q = falls same
  where
    same : (k : TokenKind) (i : Span) → NotColon k → step k i (fold_keyword o q) ≡ step k i (need (for_value (in_fold o None q)))
    same (Sign Colon) i h = absurd h
    same k i h = refl

pub close_block : (q : Place) (v : Val) (o j : Span) (ds : Decs) (d : Dec) → step (Sign CloseParen) j (put_item v (paren_values o (more_decs ds d) q)) ≡ put_channel (block_chan (join o j) (more_decs ds d) v) q
close_block (for_value p) (of_chan c) o j ds d = refl
close_block (for_value p) _ o j ds d = refl
close_block (for_process p) (of_chan c) o j ds d = refl
close_block (for_process p) _ o j ds d = refl
close_block (for_either p) (of_chan c) o j ds d = refl
close_block (for_either p) _ o j ds d = refl

pub apply_falls : (q : Place) (v : Val) (o : Span) → Falls (next Applies) (put_item v (paren_values o no_decs q)) (after_arguments (in_apply o v q) no_types)
apply_falls q v o = falls (λ k i h. same q v k i h)
  where
    only : (v : Val) (p : ValuePlace) (k : TokenKind) (i : Span) → Applies k → step k i (have_value v (in_paren o no_decs p)) ≡ step k i (after_arguments (in_apply o v (for_value p)) no_types)
    only v p (Sign Semicolon) i h = absurd h
    only v p (Sign CloseParen) i h = refl
    only v p k i h = refl

    other : (v : Val) (q : ProcessPlaces) (k : TokenKind) (i : Span) → Applies k → step k i (have_either v (in_paren_either o no_decs q)) ≡ step k i (after_arguments (in_apply o v (of_processes q)) no_types)
    other v q (Sign Semicolon) i h = absurd h
    other v q (Sign CloseParen) i h = refl
    other v q k i h = refl

    chan : (c : Chan) (q : ProcessPlaces) (k : TokenKind) (i : Span) → Applies k → step k i (have_channel c (process_either (in_paren_either o no_decs q))) ≡ step k i (after_arguments (in_apply o (of_chan c) (of_processes q)) no_types)
    chan c q (Sign Bang) i h = absurd h
    chan c q (Sign Question) i h = absurd h
    chan c q (Sign QuestionStar) i h = absurd h
    chan c q (Sign Semicolon) i h = absurd h
    chan c q (Sign CloseParen) i h = refl
    chan c q k i h = refl

    same : (q : Place) (v : Val) (k : TokenKind) (i : Span) → Applies k → step k i (put_item v (paren_values o no_decs q)) ≡ step k i (after_arguments (in_apply o v q) no_types)
    same (for_value p) (of_chan c) k i h = only (of_chan c) p k i h
    same (for_value p) v k i h = only v p k i h
    same (for_process p) (of_chan c) k i h = chan c (process_only p) k i h
    same (for_process p) v k i h = other v (process_only p) k i h
    same (for_either p) (of_chan c) k i h = chan c (process_either p) k i h
    same (for_either p) v k i h = other v (process_either p) k i h

pub named_paren : (q : Place) (n : Name) (o i : Span) → step (Identifier n) i (need (parens o no_decs q)) ≡ fresh_name o (id n i) q
named_paren (for_value p) n o i = refl
named_paren (for_process p) n o i = refl
named_paren (for_either p) n o i = refl

-- between the arguments of `( Name > .. )`
pub side_falls : (d : Side) (o : Span) (x : Id) (vs : Vals) (q : Place) → Falls (next StartsVal) (arguments d o x vs q) (need (for_value (in_side d o x vs q)))
side_falls d o x vs q = falls same
  where
    same : (k : TokenKind) (i : Span) → StartsVal k → step k i (arguments d o x vs q) ≡ step k i (need (for_value (in_side d o x vs q)))
    same (Sign CloseParen) i h = absurd h
    same k i h = refl

-- conditionals
pub if_values : (q : ValuePlaces) (i : Span) → step (Keyword If) i (need (of_values q)) ≡ need (for_value (waiting (in_test i (of_values q))))
if_values (value_only p) i = refl
if_values (value_either p) i = refl

abbrev pub then_values : Span → Val → ValuePlaces → ValuePlaces
then_values i a (value_only p) = value_only (waiting (in_then i a p))
then_values i a (value_either p) = value_either (in_then_either i a p)

pub then_value : (q : ValuePlaces) (a : Val) (i j : Span) → step (Keyword Then) j (have_value a (in_test i (of_values q))) ≡ need (of_values (then_values i a q))
then_value (value_only p) a i j = refl
then_value (value_either p) a i j = refl

pub else_value : (q : ValuePlaces) (b : Val) (a : Val) (i j : Span) → step (Keyword Else) j (put_item b (then_values i a q)) ≡ need (for_value (in_else i a b q))
else_value (value_only p) (of_chan c) a i j = refl
else_value (value_only p) _ a i j = refl
else_value (value_either p) (of_chan c) a i j = refl
else_value (value_either p) _ a i j = refl

pub if_processes : (q : ProcessPlaces) (i : Span) → step (Keyword If) i (need (of_processes q)) ≡ need (for_value (waiting (in_test i (of_processes q))))
if_processes (process_only p) i = refl
if_processes (process_either p) i = refl

abbrev pub then_processes : Span → Val → ProcessPlaces → ProcessPlaces
then_processes i a (process_only p) = process_only (in_then_process i a p)
then_processes i a (process_either p) = process_either (in_then_either i a p)

pub then_process : (q : ProcessPlaces) (a : Val) (i j : Span) → step (Keyword Then) j (have_value a (in_test i (of_processes q))) ≡ need (of_processes (then_processes i a q))
then_process (process_only p) a i j = refl
then_process (process_either p) a i j = refl

pub put_then : (q : ProcessPlaces) (r : Proc) (a : Val) (i : Span) → put_processes r (then_processes i a q) ≡ have_process r i a q
put_then (process_only p) r a i = refl
put_then (process_either p) r a i = refl

-- records and abstractions
pub open_record : (q : ValuePlaces) (i : Span) → step (Sign OpenBracket) i (need (of_values q)) ≡ after_arguments (in_record i q) no_types
open_record (value_only p) i = refl
open_record (value_either p) i = refl

pub lambda_step : (q : ValuePlaces) (i : Span) → step (Sign Backslash) i (need (of_values q)) ≡ need_abstraction (in_lambda i q)
lambda_step (value_only p) i = refl
lambda_step (value_either p) i = refl

-- channels
pub put_channel_processes : (q : ProcessPlaces) (c : Chan) → put_channel c (of_processes q) ≡ have_channel c q
put_channel_processes (process_only p) c = refl
put_channel_processes (process_either p) c = refl

-- declarations
abbrev pub with_declarations : DeclarationPlace → Decs → DeclarationPlace
with_declarations (top_declarations es) ds = top_declarations ds
with_declarations (paren_declarations o es q) ds = paren_declarations o ds q

abbrev pub declaration_values : DeclarationPlace → ValuePlaces
declaration_values (top_declarations ds) = value_only (waiting (at_top ds))
declaration_values (paren_declarations o ds q) = paren_values o ds q

abbrev pub declaration_place : DeclarationPlace → Place
declaration_place p = of_values (declaration_values p)

pub after_place : (p : DeclarationPlace) (ds : Decs) (d : Dec) → after_declaration d (with_declarations p ds) ≡ declaration_place (with_declarations p (more_decs ds d))
after_place (top_declarations es) ds d = refl
after_place (paren_declarations o es q) ds d = refl

abbrev pub BeginsDec : AnyKeyword → Type 0
BeginsDec New = Unit {0}
BeginsDec Run = Unit {0}
BeginsDec ValKeyword = Unit {0}
BeginsDec Def = Unit {0}
BeginsDec TypeDefinition = Unit {0}
BeginsDec k = ⊥

first_declaration : (k : AnyKeyword) → BeginsDec k → (i o : Span) (q : Place) (p : DeclarationPlace) → begin_first k i o q p ≡ begin_declaration k i p
first_declaration Rec h i o q p = absurd h
first_declaration k h i o q p = refl

keyword_declaration_value : (k : AnyKeyword) → BeginsDec k → (i : Span) (p : ValuePlace) → step (Keyword k) i (need (for_value p)) ≡ declaration_value k i p
keyword_declaration_value True h i p = absurd h
keyword_declaration_value False h i p = absurd h
keyword_declaration_value If h i p = absurd h
keyword_declaration_value k h i p = refl

keyword_declaration_either : (k : AnyKeyword) → BeginsDec k → (i : Span) (p : EitherPlace) → step (Keyword k) i (need (for_either p)) ≡ declaration_either k i p
keyword_declaration_either True h i p = absurd h
keyword_declaration_either False h i p = absurd h
keyword_declaration_either If h i p = absurd h
keyword_declaration_either k h i p = refl

pub declaration_begins : (p : DeclarationPlace) (k : AnyKeyword) → BeginsDec k → (i : Span) → step (Keyword k) i (need (declaration_place p)) ≡ begin_declaration k i p
declaration_begins (top_declarations ds) k h i = keyword_declaration_value k h i (waiting (at_top ds))
declaration_begins (paren_declarations o no_decs (for_value p)) k h i = keyword_declaration_value k h i (waiting (in_paren o no_decs p)) ∙ first_declaration k h i o _ _
declaration_begins (paren_declarations o (more_decs ds d) (for_value p)) k h i = keyword_declaration_value k h i (waiting (in_paren o (more_decs ds d) p))
declaration_begins (paren_declarations o no_decs (for_process p)) k h i = keyword_declaration_either k h i (in_paren_either o no_decs (process_only p)) ∙ first_declaration k h i o _ _
declaration_begins (paren_declarations o (more_decs ds d) (for_process p)) k h i = keyword_declaration_either k h i (in_paren_either o (more_decs ds d) (process_only p))
declaration_begins (paren_declarations o no_decs (for_either p)) k h i = keyword_declaration_either k h i (in_paren_either o no_decs (process_either p)) ∙ first_declaration k h i o _ _
declaration_begins (paren_declarations o (more_decs ds d) (for_either p)) k h i = keyword_declaration_either k h i (in_paren_either o (more_decs ds d) (process_either p))

pub await_step : (p : DeclarationPlace) (v : Val) (j : Span) → step (Sign Semicolon) j (put_item v (declaration_values p)) ≡ put_declaration (await_dec (join (val_span v) j) v) p
await_step (top_declarations ds) (of_chan c) j = refl
await_step (top_declarations ds) _ j = refl
await_step (paren_declarations o ds (for_value p)) (of_chan c) j = refl
await_step (paren_declarations o ds (for_value p)) _ j = refl
await_step (paren_declarations o ds (for_process p)) (of_chan c) j = refl
await_step (paren_declarations o ds (for_process p)) _ j = refl
await_step (paren_declarations o ds (for_either p)) (of_chan c) j = refl
await_step (paren_declarations o ds (for_either p)) _ j = refl

pub definition_falls : (i : Span) (ds : Definitions) (x : Id) (a : Abs) (p : DeclarationPlace) → Falls (next Calm) (have_definition i ds x a p) (put_declaration (def_dec (join i (abs_span a)) (more_definitions ds x a)) p)
definition_falls i ds x a p = falls same
  where
    same : (k : TokenKind) (j : Span) → Calm k → step k j (have_definition i ds x a p) ≡ step k j (put_declaration (def_dec (join i (abs_span a)) (more_definitions ds x a)) p)
    same (Keyword And) j h = absurd h
    same k j h = refl

-- the processes of a group
abbrev pub processes_place : Span → Decs → Procs → ProcessPlaces → ProcessPlaces
processes_place o ds no_procs q = process_either (in_paren_either o ds q)
processes_place o ds (more_procs ps p) q = process_only (in_bar o ds (more_procs ps p) q)

pub put_processes_place : (ps : Procs) (r : Proc) (o : Span) (ds : Decs) (q : ProcessPlaces) → put_processes r (processes_place o ds ps q) ≡ have_processes o ds ps r q
put_processes_place no_procs r o ds q = refl
put_processes_place (more_procs ps p) r o ds q = refl

-- the fields of records and applications
pub field_other : {L : Phrase} {y : State} (p : FieldsPlace) (ts : TypeTrees) (vs : Vals) → Starts BeginsVal L → Reads anything (need (for_value (in_field p ts vs))) L y → Reads (next Calm) (after_values p ts vs) L y
field_other p ts vs s f = falls_then (λ l r h c. s.begins l r h) (falls same) (always f)
  where
    same : (k : TokenKind) (i : Span) → BeginsVal k → step k i (after_values p ts vs) ≡ step k i (need (for_value (in_field p ts vs)))
    same (Sign CloseBracket) i h = absurd h
    same (Sign CloseParen) i h = absurd h
    same (Identifier n) i h = absurd h
    same k i h = refl

pub field_name_falls : (p : FieldsPlace) (ts : TypeTrees) (vs : Vals) (x : Id) → Falls (next Calm) (value_name p ts vs x) (after_values p ts (more_vals vs (of_chan (use_chan x.span x.name))))
field_name_falls p ts vs x = falls same
  where
    same : (k : TokenKind) (i : Span) → Calm k → step k i (value_name p ts vs x) ≡ step k i (after_values p ts (more_vals vs (of_chan (use_chan x.span x.name))))
    same (Sign Equals) i h = absurd h
    same k i h = refl

pub arguments_fall : (p : FieldsPlace) (ts : TypeTrees) → Falls (next Calm) (after_arguments p ts) (after_values p ts no_vals)
arguments_fall p ts = falls same
  where
    same : (k : TokenKind) (i : Span) → Calm k → step k i (after_arguments p ts) ≡ step k i (after_values p ts no_vals)
    same (Sign Hash) i h = absurd h
    same k i h = refl

abbrev pub values_behind : FieldsPlace → TypeTrees → Vals → LabelledVals → State
values_behind p ts vs no_labelled_vals = after_values p ts vs
values_behind p ts vs (more_labelled_vals ls x v) = after_labels p ts vs (more_labelled_vals ls x v)

abbrev pub values_end : FieldsPlace → FieldVals → State
values_end p (field_vals ts vs ls) = values_behind p ts vs ls

abbrev pub label_named : FieldsPlace → TypeTrees → Vals → LabelledVals → Id → State
label_named p ts vs no_labelled_vals y = value_name p ts vs y
label_named p ts vs (more_labelled_vals ls x v) y = value_label p ts vs (more_labelled_vals ls x v) y

pub label_begins : (ls : LabelledVals) (p : FieldsPlace) (ts : TypeTrees) (vs : Vals) (y : Id) → step (Identifier y.name) y.span (values_behind p ts vs ls) ≡ label_named p ts vs ls y
label_begins no_labelled_vals p ts vs y = refl
label_begins (more_labelled_vals ls x v) p ts vs y = refl

pub label_equals : (ls : LabelledVals) (p : FieldsPlace) (ts : TypeTrees) (vs : Vals) (y : Id) (i : Span) → step (Sign Equals) i (label_named p ts vs ls y) ≡ need (for_value (in_label p ts vs ls y))
label_equals no_labelled_vals p ts vs y i = refl
label_equals (more_labelled_vals ls x v) p ts vs y i = refl

bracket_behind : (ls : LabelledVals) (p : FieldsPlace) (ts : TypeTrees) (vs : Vals) (j : Span) → step (Sign CloseBracket) j (values_behind p ts vs ls) ≡ close_values CloseBracket j p (field_vals ts vs ls)
bracket_behind no_labelled_vals p ts vs j = refl
bracket_behind (more_labelled_vals ls x v) p ts vs j = refl

paren_behind : (ls : LabelledVals) (p : FieldsPlace) (ts : TypeTrees) (vs : Vals) (j : Span) → step (Sign CloseParen) j (values_behind p ts vs ls) ≡ close_values CloseParen j p (field_vals ts vs ls)
paren_behind no_labelled_vals p ts vs j = refl
paren_behind (more_labelled_vals ls x v) p ts vs j = refl

pub close_record : (f : FieldVals) (p : FieldsPlace) (j : Span) → step (Sign CloseBracket) j (values_end p f) ≡ close_values CloseBracket j p f
close_record (field_vals ts vs ls) p j = bracket_behind ls p ts vs j

pub close_apply : (f : FieldVals) (p : FieldsPlace) (j : Span) → step (Sign CloseParen) j (values_end p f) ≡ close_values CloseParen j p f
close_apply (field_vals ts vs ls) p j = paren_behind ls p ts vs j
