-- Where the typing rules refuse a program is one of the program's places: each line of each rule is refused at a place of the
-- phrase that is judged, or within a part of it, and says of nothing that it is absent.
use Rattle.std.proofs.Common.{ℕ, Bool, true, false, if◌then◌else◌, not, nat_eq, ◌||◌, List, [], ◌∷◌, ◌++◌, map, Option, Some, None}
use Rattle.pict_syntax.specs.declared.code.Code.{Code}
use Rattle.pict_syntax.specs.declared.code.Code.TheVariants.{Y4, Y12}
use Rattle.pict_syntax.specs.declared.id.Id.{Id}
use Rattle.pict_syntax.specs.declared.span.Span.{Span}
use Rattle.pict_syntax.specs.Grammar.{type_span, pat_span, chan_span, val_span}
use Rattle.pict_syntax.specs.Trees.{TypeTree, TypeBinder, type_binder, Bound, unbounded, bound, TypeTrees, no_types, more_types, TypeBinders, no_binders, more_binders, Pat, bind_pat, any_pat, fields_pat, fold_pat, FieldPats, field_pats, Pats, no_pats, more_pats, LabelledPats, no_labelled_pats, more_labelled_pats, Dec, new_dec, run_dec, let_dec, def_dec, alias_dec, operator_dec, await_dec, Decs, no_decs, more_decs, Definitions, no_definitions, more_definitions, Abs, process_abs, function_abs, Chan, use_chan, fold_chan, block_chan, apply_chan, right_chan, left_chan, Val, of_chan, number_val, character_val, string_val, true_val, false_val, fields_val, if_val, lambda_val, Vals, no_vals, more_vals, FieldVals, field_vals, LabelledVals, no_labelled_vals, more_labelled_vals, Proc, send_proc, receive_proc, serve_proc, if_proc, inert_proc, group_proc, Procs, no_procs, more_procs}
use Rattle.pict_syntax.specs.Stops.{Stop}
use Rattle.pict_types.specs.Types.{Capability, Both, Read, Write, Respond, PlainType, Top, Int, Char as Char_, Str, Boolean, Var, Apply, Chan as Chan_, Fields, Rec, PlainTypes, PlainLabels, PlainBound, Free, Below, Operator, PlainBounds, no_bound, bounds, PlainArg, is_top, type_at, count_types, count_bounds}
use Rattle.pict_types.specs.Mentions.{mentions_innermost, lowered}
use Rattle.pict_types.specs.Replacing.{arguments, replace, instance_of}
use Rattle.pict_types.specs.AsMarked.{varies_as}
use Rattle.pict_normal.specs.Normal.{normal, kind_stop, size_stop, count_trees}
use Rattle.pict_normal.specs.WrittenArguments.{normal_arg}
use Rattle.pict_sub.specs.Exposing.{exposure}
use Rattle.pict_rules.specs.Found.{Found, mentions_missing, with_found, all_found, argument_in}
use Rattle.pict_rules.specs.Counts.{count_vals, count_pats, count_binders}
use Rattle.pict_rules.specs.Shapes.{Function, nth_bound, applicable, none_written, all_written, vals_onto, right_nested, left_nested, from_first, applied_to, kind_agrees, written_bound}
use Rattle.pict_rules.specs.Environments.{Environment, context_of, opened, opened_since, no_environment, bounds_of}
use Rattle.pict_rules.specs.Complete.{is_complete}
use Rattle.pict_rules.specs.Rules.{Sort, nothing_, type_, types_, labels_, arguments_, found_, environment_, extension_, pattern_, patterns_, labelled_patterns_, binders_, fields_, opened_, signatures_, signature_, Result, Body, process_body, value_body, Signature, Judgement, gives, has, is_condition, values_give, labelled_values_give, application, fields_fit, written_arguments, values_fit, labelled_values_fit, value_fits, given_fits, abstraction_gives, abstraction_against, pattern_gives, fields_give, binders_give, patterns_give, labelled_patterns_give, pattern_against, fields_against, binders_against, patterns_against, labelled_patterns_against, declaration, declarations, signatures, signature, bodies, body, process, processes, receives, Condition, Rule, give, refuse, need, either, part, Answer, ok, stuck, unless_stopped, ensure}
use Rattle.pict_rules.specs.Clauses.{if_record, need_recursive, need_channel, need_function, need_outside, expect, if_sent, within_bound, within_bounds, if_labelled, gives_below, need_same_bound, need_both, answering, argument_type, with_own, written_kind, binder_span, is_of_kind, may_send, may_receive}
use Rattle.pict_rules.specs.Typing.{rule}
use Rattle.pict_rules.specs.Derivations.{Runs, give_, refuse_, met, failed, yes, no, part_ok, part_stuck, IsStuckAt}
use Rattle.pict_front.proofs.Standing.{IsNoAbsence, Line, TypeStands, TypesStand, BinderStands, BindersStand, PatStands, FieldPatsStand, PatsStand, LabelledPatsStand, DecStands, DecsStand, DefinitionsStand, AbsStands, ChanStands, ValStands, ValsStand, FieldValsStand, LabelledValsStand, ProcStands, ProcsStand}
use Rattle.pict_front.proofs.KindPlaces.{StopStands, type_place, size_stands, kind_stands, argument_stands, binder_stands}

module _ (P : Span → Type 0) where
  -- ---- what is judged, and what is given, stands where its phrases do

  abbrev BodyStands : Body → Type 0
  BodyStands (process_body q) = ProcStands P q
  BodyStands (value_body v t) = ValStands P v

  abbrev BodiesStand : List Signature → Type 0
  BodiesStand [] = Unit {0}
  BodiesStand (s ∷ ss) = BodyStands s.body × BodiesStand ss

  abbrev ValueListStands : List Val → Type 0
  ValueListStands [] = Unit {0}
  ValueListStands (v ∷ vs) = ValStands P v × ValueListStands vs

  abbrev GivenStands : (s : Sort) → Result s → Type 0
  GivenStands signatures_ ss = BodiesStand ss
  GivenStands signature_ s = BodyStands s.body
  GivenStands s x = Unit {0}

  abbrev JudgedStands : {s : Sort} → Judgement s → Type 0
  JudgedStands (gives v) = ValStands P v
  JudgedStands (has v t) = ValStands P v
  JudgedStands (is_condition v) = ValStands P v
  JudgedStands (values_give vs) = ValsStand P vs
  JudgedStands (labelled_values_give ls) = LabelledValsStand P ls
  JudgedStands (application s f vs o) = P s × (ValStands P f × FieldValsStand P vs)
  JudgedStands (fields_fit s f bs ps ls g) = P s × FieldValsStand P f
  JudgedStands (written_arguments s ts bs) = P s × TypesStand P ts
  JudgedStands (values_fit s vs ps g) = P s × ValsStand P vs
  JudgedStands (labelled_values_fit s ls ms g) = P s × LabelledValsStand P ls
  JudgedStands (value_fits s v t g) = P s × ValStands P v
  JudgedStands (given_fits s v t u g) = P s × ValStands P v
  JudgedStands (abstraction_gives a) = AbsStands P a
  JudgedStands (abstraction_against a t) = AbsStands P a
  JudgedStands (pattern_gives p) = PatStands P p
  JudgedStands (fields_give f) = FieldPatsStand P f
  JudgedStands (binders_give bs) = BindersStand P bs
  JudgedStands (patterns_give ps) = PatsStand P ps
  JudgedStands (labelled_patterns_give ls) = LabelledPatsStand P ls
  JudgedStands (pattern_against p t) = PatStands P p
  JudgedStands (fields_against s f bs ps ls) = P s × FieldPatsStand P f
  JudgedStands (binders_against bs rs) = BindersStand P bs
  JudgedStands (patterns_against ps ts) = PatsStand P ps
  JudgedStands (labelled_patterns_against ls ms) = LabelledPatsStand P ls
  JudgedStands (declaration d) = DecStands P d
  JudgedStands (declarations ds) = DecsStand P ds
  JudgedStands (signatures ds) = DefinitionsStand P ds
  JudgedStands (signature x a) = AbsStands P a
  JudgedStands (bodies ss) = BodiesStand ss
  JudgedStands (body b) = BodyStands b
  JudgedStands (process p) = ProcStands P p
  JudgedStands (processes ps) = ProcsStand P ps
  JudgedStands (receives c a) = ChanStands P c × AbsStands P a

  -- each refusal of the rule has the property, each part stands, and so does what it gives, where what its parts give does
  abbrev LinesStand : {s : Sort} → Rule s → Type 0
  LinesStand {s = s} (give x) = GivenStands s x
  LinesStand (refuse c i) = Line P (c, i)
  LinesStand (need q c i r) = Line P (c, i) × LinesStand r
  LinesStand (either q r r') = LinesStand r × LinesStand r'
  LinesStand (part {r = t} e j k) = JudgedStands j × ((x : Result t) → GivenStands t x → LinesStand (k x))

  record Stands (s : Sort) (r : Rule s) : Type 0 where
    lines : LinesStand r

  abbrev AnswerStands : {s : Sort} → Answer s → Type 0
  AnswerStands {s = s} (ok x) = GivenStands s x
  AnswerStands (stuck c i) = Line P (c, i)

  abbrev AllStand : Type 0
  AllStand = (s : Sort) (e : Environment) (j : Judgement s) → JudgedStands j → Stands s (rule e j)

  answer_stands : AllStand → {s : Sort} {r : Rule s} {a : Answer s} → Runs r a → LinesStand r → AnswerStands a
  answer_stands all give_ h = h
  answer_stands all refuse_ h = h
  answer_stands all (met q p) h = answer_stands all p h.1
  answer_stands all (failed f) h = h.0
  answer_stands all (yes q p) h = answer_stands all p h.0
  answer_stands all (no f p) h = answer_stands all p h.1
  answer_stands all (part_ok {t = t} {e = e} {j = j} {x = x} p q) h = answer_stands all q (h.1 x (answer_stands all p (all t e j h.0).lines))
  answer_stands all (part_stuck {t = t} {e = e} {j = j} p) h = answer_stands all p (all t e j h.0).lines

  -- ---- the language of the rules

  given : {s : Sort} {x : Result s} → GivenStands s x → Stands s (give x)
  given h = record { lines = h }

  refused : {s : Sort} {c : Code} {i : Span} → Line P (c, i) → Stands s (refuse c i)
  refused h = record { lines = h }

  needed : {s : Sort} {q : Condition} {c : Code} {i : Span} {r : Rule s} → Line P (c, i) → Stands s r → Stands s (need q c i r)
  needed h k = record { lines = (h, k.lines) }

  chosen : {s : Sort} {q : Condition} {r r' : Rule s} → Stands s r → Stands s r' → Stands s (either q r r')
  chosen h k = record { lines = (h.lines, k.lines) }

  asked : {s t : Sort} {e : Environment} {j : Judgement t} {k : Result t → Rule s} → JudgedStands j → ((x : Result t) → GivenStands t x → Stands s (k x)) → Stands s (part e j k)
  asked h f = record { lines = (h, λ x g. (f x g).lines) }

  branched : {s : Sort} (b : Bool) {r q : Rule s} → Stands s r → Stands s q → Stands s (if b then r else q)
  branched true h k = h
  branched false h k = k

  ensured : {s : Sort} (b : Bool) (c : Code) (i : Span) {r : Rule s} → Line P (c, i) → Stands s r → Stands s (ensure b c i r)
  ensured b c i p h = branched b h (refused p)

  unless : {s : Sort} (o : Option Stop) {r : Rule s} → StopStands P o → Stands s r → Stands s (unless_stopped o r)
  unless None p h = h
  unless (Some x) p h = refused p

  in_records : {s : Sort} (t : PlainType) {k : PlainBounds → PlainTypes → PlainLabels → Rule s} {r : Rule s} → ((bs : PlainBounds) (ps : PlainTypes) (ls : PlainLabels) → Stands s (k bs ps ls)) → Stands s r → Stands s (if_record t k r)
  in_records Top f h = h
  in_records Int f h = h
  in_records Char_ f h = h
  in_records Str f h = h
  in_records Boolean f h = h
  in_records (Var x) f h = h
  in_records (Apply x ts) f h = h
  in_records (Chan_ m t) f h = h
  in_records (Fields bs ps ls) f h = f bs ps ls
  in_records (Rec t) f h = h

  in_recursives : {s : Sort} (t : PlainType) (c : Code) (i : Span) {k : PlainType → Rule s} → Line P (c, i) → ((u : PlainType) → Stands s (k u)) → Stands s (need_recursive t c i k)
  in_recursives Top c i p f = refused p
  in_recursives Int c i p f = refused p
  in_recursives Char_ c i p f = refused p
  in_recursives Str c i p f = refused p
  in_recursives Boolean c i p f = refused p
  in_recursives (Var x) c i p f = refused p
  in_recursives (Apply x ts) c i p f = refused p
  in_recursives (Chan_ m t) c i p f = refused p
  in_recursives (Fields bs ps ls) c i p f = refused p
  in_recursives (Rec t) c i p f = f _

  in_channels : {s : Sort} (t : PlainType) (c : Code) (i : Span) {k : Capability → PlainType → Rule s} → Line P (c, i) → ((m : Capability) (u : PlainType) → Stands s (k m u)) → Stands s (need_channel t c i k)
  in_channels Top c i p f = refused p
  in_channels Int c i p f = refused p
  in_channels Char_ c i p f = refused p
  in_channels Str c i p f = refused p
  in_channels Boolean c i p f = refused p
  in_channels (Var x) c i p f = refused p
  in_channels (Apply x ts) c i p f = refused p
  in_channels (Chan_ m t) c i p f = f m t
  in_channels (Fields bs ps ls) c i p f = refused p
  in_channels (Rec t) c i p f = refused p

  in_sents : (t : PlainType) {k : PlainType → Rule nothing_} {r : Rule nothing_} → ((u : PlainType) → Stands nothing_ (k u)) → Stands nothing_ r → Stands nothing_ (if_sent t k r)
  in_sents Top f h = h
  in_sents Int f h = h
  in_sents Char_ f h = h
  in_sents Str f h = h
  in_sents Boolean f h = h
  in_sents (Var x) f h = h
  in_sents (Apply x ts) f h = h
  in_sents (Chan_ Both t) f h = h
  in_sents (Chan_ Respond t) f h = f t
  in_sents (Chan_ Write t) f h = f t
  in_sents (Chan_ Read t) f h = h
  in_sents (Fields bs ps ls) f h = h
  in_sents (Rec t) f h = h

  in_boths : {s : Sort} (t : PlainType) (c : Code) (i : Span) {r : Rule s} → Line P (c, i) → Stands s r → Stands s (need_both t c i r)
  in_boths Top c i p h = refused p
  in_boths Int c i p h = refused p
  in_boths Char_ c i p h = refused p
  in_boths Str c i p h = refused p
  in_boths Boolean c i p h = refused p
  in_boths (Var x) c i p h = refused p
  in_boths (Apply x ts) c i p h = refused p
  in_boths (Chan_ Both t) c i p h = h
  in_boths (Chan_ Respond t) c i p h = refused p
  in_boths (Chan_ Write t) c i p h = refused p
  in_boths (Chan_ Read t) c i p h = refused p
  in_boths (Fields bs ps ls) c i p h = refused p
  in_boths (Rec t) c i p h = refused p

  in_functions : {s : Sort} (o : Option Function) (c : Code) (i : Span) {k : Function → Rule s} → Line P (c, i) → ((f : Function) → Stands s (k f)) → Stands s (need_function o c i k)
  in_functions None c i p f = refused p
  in_functions (Some x) c i p f = f x

  outside : {s : Sort} (n : ℕ) (t : PlainType) (c : Code) (i : Span) {k : PlainType → Rule s} → Line P (c, i) → ((u : PlainType) → Stands s (k u)) → Stands s (need_outside n t c i k)
  outside n t c i p f = branched (mentions_innermost n t) (refused p) (f (lowered n t))

  expected : {s : Sort} (e : Environment) (o : Option PlainType) (u : PlainType) (c : Code) (i : Span) {r : Rule s} → Line P (c, i) → Stands s r → Stands s (expect e o u c i r)
  expected e None u c i p h = h
  expected e (Some t) u c i p h = needed p h

  bounded : {s : Sort} (e : Environment) (n : Span) (b : PlainBound) (args : List PlainArg) (a : PlainArg) (c : Code) (i : Span) {r : Rule s} → P n → Line P (c, i) → Stands s r → Stands s (within_bound e n b args a c i r)
  bounded e n Free args a c i p q h = h
  bounded e n (Operator m) args a c i p q h = h
  bounded e n (Below b) args a c i p q h = unless _ (size_stands P e.context (replace (arguments args) b) n p) (needed q h)

  all_bounded : {s : Sort} (e : Environment) (n : Span) (bs : PlainBounds) (earlier args : List PlainArg) (c : Code) {r : Rule s} → Line P (c, n) → Stands s r → Stands s (within_bounds e n bs earlier args c r)
  all_bounded e n no_bound earlier args c p h = h
  all_bounded e n (bounds b bs) earlier [] c p h = refused p
  all_bounded e n (bounds b bs) earlier (a ∷ args) c p h = bounded e n b earlier a c n p.1 p (all_bounded e n bs (earlier ++ a ∷ []) args c p h)

  same_bounds : {s : Sort} (e : Environment) (o : Bound) (b : PlainBound) (c : Code) (i : Span) {r : Rule s} → Line P (c, i) → Stands s r → Stands s (need_same_bound e o b c i r)
  same_bounds e unbounded b c i p h = h
  same_bounds e (bound t) b c i p h = branched (is_top (normal e.names e.context t)) h (needed p h)

  labelled : {s : Sort} (o : Option PlainType) {k : PlainType → Rule s} {r : Rule s} → ((t : PlainType) → Stands s (k t)) → Stands s r → Stands s (if_labelled o k r)
  labelled None f h = h
  labelled (Some t) f h = f t

  -- a written type is expanded; and what a rule forms is measured
  expanded : {s : Sort} (e : Environment) (t : TypeTree) {r : Rule s} → TypeStands P t → Stands s r → Stands s (unless_stopped (kind_stop e.names e.context t) r)
  expanded e t p h = unless _ (kind_stands P e.names e.context t p) h

  measured : {s : Sort} (e : Environment) (t : PlainType) (i : Span) {r : Rule s} → P i → Stands s r → Stands s (unless_stopped (size_stop e.context t i) r)
  measured e t i p h = unless _ (size_stands P e.context t i p) h

  -- ---- where trees themselves stand

  pat_place : (p : Pat) → PatStands P p → P (pat_span p)
  pat_place (bind_pat s x r) h = h.0
  pat_place (any_pat s r) h = h.0
  pat_place (fields_pat s f) h = h.0
  pat_place (fold_pat s r p) h = h.0

  chan_place : (c : Chan) → ChanStands P c → P (chan_span c)
  chan_place (use_chan s n) h = h
  chan_place (fold_chan s r v) h = h.0
  chan_place (block_chan s ds v) h = h.0
  chan_place (apply_chan s v f) h = h.0
  chan_place (right_chan s x vs) h = h.0
  chan_place (left_chan s x vs) h = h.0

  val_place : (v : Val) → ValStands P v → P (val_span v)
  val_place (of_chan c) h = chan_place c h
  val_place (number_val s n) h = h
  val_place (character_val s b) h = h
  val_place (string_val s b) h = h
  val_place (true_val s) h = h
  val_place (false_val s) h = h
  val_place (fields_val s f) h = h.0
  val_place (if_val s c v w) h = h.0
  val_place (lambda_val s a) h = h.0

  binder_place : (b : TypeBinder) → BinderStands P b → P (binder_span b)
  binder_place (type_binder s x k b) h = h.0

  -- nested applications stand where the form that they are stands
  listed : (vs : Vals) (rest : List Val) → ValsStand P vs → ValueListStands rest → ValueListStands (vals_onto vs rest)
  listed no_vals rest h k = k
  listed (more_vals vs v) rest h k = listed vs (v ∷ rest) h.0 (h.1, k)

  right_stands : (s : Span) (f : Id) (v : Val) (vs : List Val) → P s → P f.span → ValStands P v → ValueListStands vs → ValStands P (right_nested s f v vs)
  right_stands s f v [] p q h k = h
  right_stands s f v (w ∷ vs) p q h k = (p, (q, (tt, (((tt, h), right_stands s f w vs p q k.0 k.1), tt))))

  left_stands : (s : Span) (f : Id) (v : Val) (vs : List Val) → P s → P f.span → ValStands P v → ValueListStands vs → ValStands P (left_nested s f v vs)
  left_stands s f v [] p q h k = h
  left_stands s f v (w ∷ vs) p q h k = left_stands s f (applied_to s f v w) vs p q (p, (q, (tt, (((tt, h), k.0), tt)))) k.1

  from_first_stands : (f : Val → List Val → Val) (s : Span) (vs : List Val) → P s → ((v : Val) (ws : List Val) → ValStands P v → ValueListStands ws → ValStands P (f v ws)) → ValueListStands vs → ValStands P (from_first f s vs)
  from_first_stands f s [] p g h = p
  from_first_stands f s (v ∷ vs) p g h = g v vs h.0 h.1

  right_form : (s : Span) (f : Id) (vs : Vals) → P s × (P f.span × ValsStand P vs) → ValStands P (from_first (right_nested s f) s (vals_onto vs []))
  right_form s f vs h = from_first_stands (right_nested s f) s (vals_onto vs []) h.0 (λ v ws k l. right_stands s f v ws h.0 h.1.0 k l) (listed vs [] h.1.1 tt)

  left_form : (s : Span) (f : Id) (vs : Vals) → P s × (P f.span × ValsStand P vs) → ValStands P (from_first (left_nested s f) s (vals_onto vs []))
  left_form s f vs h = from_first_stands (left_nested s f) s (vals_onto vs []) h.0 (λ v ws k l. left_stands s f v ws h.0 h.1.0 k l) (listed vs [] h.1.1 tt)

  -- ---- values

  below : (e : Environment) (v : Val) (t : PlainType) (c : Code) → IsNoAbsence c → ValStands P v → Stands nothing_ (gives_below e v t c)
  below e v t c allowed h = asked h (λ s k. needed (allowed, val_place v h) (given tt))

  val_gives : (e : Environment) (v : Val) → ValStands P v → Stands type_ (rule e (gives v))
  val_gives e (of_chan (use_chan s n)) h = given tt
  val_gives e (number_val s n) h = given tt
  val_gives e (character_val s b) h = given tt
  val_gives e (string_val s b) h = given tt
  val_gives e (true_val s) h = given tt
  val_gives e (false_val s) h = given tt
  val_gives e (fields_val s (field_vals ts vs ls)) h =
      ensured (none_written ts) _ s (tt, h.0) (asked h.1.1.0 (λ ps k. asked h.1.1.1 (λ ms l. measured e (Fields no_bound ps ms) s h.0 (given tt))))
  val_gives e (if_val s c v w) h =
      asked h.1.0 (λ b k. asked h.1.1.0 (λ t l. asked h.1.1.1 (λ u m. chosen (given tt) (chosen (given tt) (refused (tt, h.0))))))
  val_gives e (lambda_val s a) h = asked h.1 (λ r k. measured e (Chan_ Respond r) s h.0 (given tt))
  val_gives e (of_chan (fold_chan s None v)) h = refused (tt, h.0)
  val_gives e (of_chan (fold_chan s (Some a) v)) h =
      expanded e a h.1.0 (in_recursives (normal e.names e.context a) _ (type_span a) (tt, type_place P a h.1.0) (λ u. measured e u s h.0 (asked h.1.1 (λ x k. given tt))))
  val_gives e (of_chan (block_chan s ds v)) h = asked h.1.0 (λ d k. asked h.1.1 (λ t l. outside (opened_since e d) t _ s (tt, h.0) (λ u. given {x = u} tt)))
  val_gives e (of_chan (apply_chan s f vs)) h = asked h (λ t k. given tt)
  val_gives e (of_chan (right_chan s f vs)) h = asked (right_form s f vs h) (λ t k. given tt)
  val_gives e (of_chan (left_chan s f vs)) h = asked (left_form s f vs h) (λ t k. given tt)

  val_has : (e : Environment) (v : Val) (t : PlainType) → ValStands P v → Stands nothing_ (rule e (has v t))
  val_has e (fields_val s f) t h = in_records t (λ bs ps ls. asked h (λ x k. given tt)) (below e (fields_val s f) t Y4 tt h)
  val_has e (if_val s c v w) t h = asked h.1.0 (λ b k. asked h.1.1.0 (λ x l. asked h.1.1.1 (λ y m. given tt)))
  val_has e (lambda_val s a) t h = in_sents t (λ r. asked h.1 (λ x k. given tt)) (below e (lambda_val s a) t Y4 tt h)
  val_has e (of_chan (fold_chan s None v)) t h = in_recursives t _ s (tt, h.0) (λ u. measured e u s h.0 (asked h.1.1 (λ x k. given tt)))
  val_has e (of_chan (block_chan s ds v)) t h = asked h.1.0 (λ d k. asked h.1.1 (λ x l. given tt))
  val_has e (of_chan (apply_chan s f vs)) t h = asked h (λ u k. given tt)
  val_has e (of_chan (right_chan s f vs)) t h = asked (right_form s f vs h) (λ u k. given tt)
  val_has e (of_chan (left_chan s f vs)) t h = asked (left_form s f vs h) (λ u k. given tt)
  val_has e (of_chan (fold_chan s (Some a) v)) t h = below e (of_chan (fold_chan s (Some a) v)) t Y4 tt h
  val_has e (of_chan (use_chan s n)) t h = below e (of_chan (use_chan s n)) t Y4 tt h
  val_has e (number_val s n) t h = below e (number_val s n) t Y4 tt h
  val_has e (character_val s b) t h = below e (character_val s b) t Y4 tt h
  val_has e (string_val s b) t h = below e (string_val s b) t Y4 tt h
  val_has e (true_val s) t h = below e (true_val s) t Y4 tt h
  val_has e (false_val s) t h = below e (false_val s) t Y4 tt h

  vals_give : (e : Environment) (vs : Vals) → ValsStand P vs → Stands types_ (rule e (values_give vs))
  vals_give e no_vals h = given tt
  vals_give e (more_vals vs v) h = asked h.0 (λ ts k. asked h.1 (λ t l. given tt))

  labelled_give : (e : Environment) (ls : LabelledVals) → LabelledValsStand P ls → Stands labels_ (rule e (labelled_values_give ls))
  labelled_give e no_labelled_vals h = given tt
  labelled_give e (more_labelled_vals ls l v) h = asked h.0 (λ ms k. asked h.1.1 (λ t m. given tt))

  applied : (e : Environment) (s : Span) (f : Val) (vs : FieldVals) (o : Option PlainType) → P s × (ValStands P f × FieldValsStand P vs) → Stands type_ (rule e (application s f vs o))
  applied e s f vs o h =
      asked h.1.0 (λ t k. in_functions (applicable (exposure (context_of e) t)) _ (val_span f) (tt, val_place f h.1.0) (λ r.
      asked (h.0, h.1.1) (λ args l. measured e (replace (arguments args) r.answer) s h.0 (expected e o (replace (arguments args) r.answer) _ s (tt, h.0) (given tt)))))

  fit : (e : Environment) (s : Span) (f : FieldVals) (bs : PlainBounds) (ps : PlainTypes) (ms : PlainLabels) (g : Found) → P s × FieldValsStand P f → Stands arguments_ (rule e (fields_fit s f bs ps ms g))
  fit e s (field_vals ts vs ls) bs ps ms g h =
      ensured (none_written ts || nat_eq (count_trees ts) (count_bounds bs)) _ s (tt, h.0) (
      ensured (nat_eq (count_vals vs) (count_types ps)) _ s (tt, h.0) (
      ensured (all_written ms ls) _ s (tt, h.0) (
      branched (not (none_written ts))
      (asked (h.0, h.1.0) (λ args k. measured e (instance_of args ps ms) s h.0 (
      asked (h.0, h.1.1.0) (λ a l. asked (h.0, h.1.1.1) (λ b m. given tt)))))
      (asked (h.0, h.1.1.0) (λ a l. asked (h.0, h.1.1.1) (λ b m.
      ensured (all_found b) _ s (tt, h.0) (all_bounded e s bs [] (map argument_in b) _ (tt, h.0) (given tt))))))))

  arguments_stand : (e : Environment) (s : Span) (ts : TypeTrees) (bs : PlainBounds) → P s × TypesStand P ts → Stands arguments_ (rule e (written_arguments s ts bs))
  arguments_stand e s no_types bs h = given tt
  arguments_stand e s (more_types ts t) bs h =
      asked (h.0, h.1.0) (λ args k. unless _ (argument_stands P e.names e.context t h.1.1) (
      ensured (is_of_kind (normal_arg e.names e.context t) (nth_bound (count_trees ts) bs)) _ (type_span t) (tt, type_place P t h.1.1) (
      ensured (varies_as (context_of e) (normal_arg e.names e.context t) (nth_bound (count_trees ts) bs)) _ (type_span t) (tt, type_place P t h.1.1) (
      bounded e s (nth_bound (count_trees ts) bs) args (normal_arg e.names e.context t) _ (type_span t) h.0 (tt, type_place P t h.1.1) (given tt)))))

  vals_fit : (e : Environment) (s : Span) (vs : Vals) (ps : PlainTypes) (g : Found) → P s × ValsStand P vs → Stands found_ (rule e (values_fit s vs ps g))
  vals_fit e s no_vals ps g h = given tt
  vals_fit e s (more_vals vs v) ps g h = asked (h.0, h.1.0) (λ a k. asked (h.0, h.1.1) (λ b l. given tt))

  labelled_fit : (e : Environment) (s : Span) (ls : LabelledVals) (ms : PlainLabels) (g : Found) → P s × LabelledValsStand P ls → Stands found_ (rule e (labelled_values_fit s ls ms g))
  labelled_fit e s no_labelled_vals ms g h = given tt
  labelled_fit e s (more_labelled_vals ls l v) ms g h =
      asked (h.0, h.1.0) (λ a k. labelled (type_at l.name.0 ms) (λ t. asked (h.0, h.1.1.1) (λ b m. given tt)) (asked h.1.1.1 (λ b m. given tt)))

  val_fits : (e : Environment) (s : Span) (v : Val) (t : PlainType) (g : Found) → P s × ValStands P v → Stands found_ (rule e (value_fits s v t g))
  val_fits e s v t g h =
      branched (mentions_missing g t) (asked h.1 (λ u k. asked h (λ a l. given tt))) (measured e (with_found g t) s h.0 (asked h.1 (λ x k. given tt)))

  given_fit : (e : Environment) (s : Span) (v : Val) (t u : PlainType) (g : Found) → P s × ValStands P v → Stands found_ (rule e (given_fits s v t u g))
  given_fit e s v t u g h =
      ensured (not (mentions_missing g t)) _ (val_span v) (tt, val_place v h.1) (measured e (with_found g t) s h.0 (needed (tt, val_place v h.1) (given tt)))

  -- ---- abstractions

  abs_gives : (e : Environment) (a : Abs) → AbsStands P a → Stands type_ (rule e (abstraction_gives a))
  abs_gives e (process_abs s p q) h = asked h.1.0 (λ g k. asked h.1.1 (λ x l. given tt))
  abs_gives e (function_abs s f (Some a) v) h =
      asked h.1.0 (λ g k. expanded (with_own e g.own) a h.1.1.0 (asked h.1.1.1 (λ x l. measured e (argument_type g (normal e.names (with_own e g.own).context a)) s h.0 (given tt))))
  abs_gives e (function_abs s f None v) h =
      asked h.1.0 (λ g k. asked h.1.1.1 (λ t l. outside (opened g.adds) t _ (val_span v) (tt, val_place v h.1.1.1) (λ u. measured e (argument_type g u) s h.0 (given {x = argument_type g u} tt))))

  abs_against : (e : Environment) (a : Abs) (r : PlainType) → AbsStands P a → Stands nothing_ (rule e (abstraction_against a r))
  abs_against e (process_abs s p q) r h = asked h.1.0 (λ x k. asked h.1.1 (λ y l. given tt))
  abs_against e (function_abs s f None v) r h =
      in_functions (answering e r) _ s (tt, h.0) (λ g. asked (h.0, h.1.0) (λ x k. asked h.1.1.1 (λ y l. given tt)))
  abs_against e (function_abs s f (Some a) v) r h =
      in_functions (answering e r) _ s (tt, h.0) (λ g. asked (h.0, h.1.0) (λ x k.
      expanded (with_own e x.own) a h.1.1.0 (needed (tt, type_place P a h.1.1.0) (asked h.1.1.1 (λ y l. given tt)))))

  -- ---- patterns

  pat_gives : (e : Environment) (p : Pat) → PatStands P p → Stands pattern_ (rule e (pattern_gives p))
  pat_gives e (bind_pat s x None) h = refused (tt, h.0)
  pat_gives e (bind_pat s x (Some a)) h = expanded e a h.1.1 (given tt)
  pat_gives e (any_pat s None) h = refused (tt, h.0)
  pat_gives e (any_pat s (Some a)) h = expanded e a h.1 (given tt)
  pat_gives e (fields_pat s f) h = asked h.1 (λ g k. measured e (Fields (bounds_of g.own) g.positional g.labelled) s h.0 (given tt))
  pat_gives e (fold_pat s None p) h = refused (tt, h.0)
  pat_gives e (fold_pat s (Some a) p) h =
      expanded e a h.1.0 (in_recursives (normal e.names e.context a) _ s (tt, h.0) (λ u. measured e u s h.0 (asked h.1.1 (λ x k. given tt))))

  fields_given : (e : Environment) (f : FieldPats) → FieldPatsStand P f → Stands fields_ (rule e (fields_give f))
  fields_given e (field_pats bs ps ls) h = asked h.0 (λ own k. asked h.1.0 (λ g l. asked h.1.1 (λ x m. given tt)))

  binders_given : (e : Environment) (bs : TypeBinders) → BindersStand P bs → Stands binders_ (rule e (binders_give bs))
  binders_given e no_binders h = given tt
  binders_given e (more_binders bs b) h = asked h.0 (λ own k. unless _ (binder_stands P e.names (with_own e own).context b h.1) (given tt))

  pats_give : (e : Environment) (ps : Pats) → PatsStand P ps → Stands patterns_ (rule e (patterns_give ps))
  pats_give e no_pats h = given tt
  pats_give e (more_pats ps p) h = asked h.0 (λ g k. asked h.1 (λ x l. given tt))

  labelled_pats_give : (e : Environment) (ls : LabelledPats) → LabelledPatsStand P ls → Stands labelled_patterns_ (rule e (labelled_patterns_give ls))
  labelled_pats_give e no_labelled_pats h = given tt
  labelled_pats_give e (more_labelled_pats ls l p) h = asked h.0 (λ g k. asked h.1.1 (λ x m. given tt))

  pat_against : (e : Environment) (p : Pat) (t : PlainType) → PatStands P p → Stands extension_ (rule e (pattern_against p t))
  pat_against e (bind_pat s x None) t h = given tt
  pat_against e (bind_pat s x (Some a)) t h = expanded e a h.1.1 (needed (tt, h.0) (given tt))
  pat_against e (any_pat s None) t h = given tt
  pat_against e (any_pat s (Some a)) t h = expanded e a h.1 (needed (tt, h.0) (given tt))
  pat_against e (fields_pat s f) t h = in_records (exposure (context_of e) t) (λ bs ps ls. asked h (λ x k. given tt)) (refused (tt, h.0))
  pat_against e (fold_pat s (Some a) p) t h =
      expanded e a h.1.0 (in_recursives (normal e.names e.context a) _ s (tt, h.0) (λ u. needed (tt, h.0) (measured e u s h.0 (asked h.1.1 (λ x k. given tt)))))
  pat_against e (fold_pat s None p) t h = in_recursives (exposure (context_of e) t) _ s (tt, h.0) (λ u. measured e u s h.0 (asked h.1.1 (λ x k. given tt)))

  fields_go : (e : Environment) (s : Span) (f : FieldPats) (rs : PlainBounds) (ts : PlainTypes) (ms : PlainLabels) → P s × FieldPatsStand P f → Stands opened_ (rule e (fields_against s f rs ts ms))
  fields_go e s (field_pats bs ps ls) rs ts ms h =
      ensured (nat_eq (count_binders bs) (count_bounds rs)) _ s (tt, h.0) (
      ensured (nat_eq (count_pats ps) (count_types ts)) _ s (tt, h.0) (
      asked h.1.0 (λ own k. asked h.1.1.0 (λ x l. asked h.1.1.1 (λ y m. given tt)))))

  binders_go : (e : Environment) (bs : TypeBinders) (rs : PlainBounds) → BindersStand P bs → Stands binders_ (rule e (binders_against bs rs))
  binders_go e no_binders rs h = given tt
  binders_go e (more_binders bs b) rs h =
      asked h.0 (λ own k. unless _ (binder_stands P e.names (with_own e own).context b h.1) (
      ensured (kind_agrees (written_kind b) (nth_bound (count_binders bs) rs)) _ (binder_span b) (tt, binder_place b h.1) (
      same_bounds (with_own e own) (written_bound b) (nth_bound (count_binders bs) rs) _ (binder_span b) (tt, binder_place b h.1) (given tt))))

  pats_go : (e : Environment) (ps : Pats) (ts : PlainTypes) → PatsStand P ps → Stands extension_ (rule e (patterns_against ps ts))
  pats_go e no_pats ts h = given tt
  pats_go e (more_pats ps p) ts h = asked h.0 (λ x k. asked h.1 (λ y l. given tt))

  labelled_pats_go : (e : Environment) (ls : LabelledPats) (ms : PlainLabels) → LabelledPatsStand P ls → Stands extension_ (rule e (labelled_patterns_against ls ms))
  labelled_pats_go e no_labelled_pats ms h = given tt
  labelled_pats_go e (more_labelled_pats ls l p) ms h =
      asked h.0 (λ x k. labelled (type_at l.name.0 ms) (λ t. asked h.1.1 (λ y m. given tt)) (refused (tt, pat_place p h.1.1)))

  -- ---- declarations

  dec_stands : (e : Environment) (d : Dec) → DecStands P d → Stands environment_ (rule e (declaration d))
  dec_stands e (new_dec s x t) h = expanded e t h.1.1 (in_boths (normal e.names e.context t) _ (type_span t) (tt, type_place P t h.1.1) (given tt))
  dec_stands e (run_dec s p) h = asked h.1 (λ x k. given tt)
  dec_stands e (let_dec s p v) h =
      branched (is_complete e.names e.context p)
      (asked h.1.0 (λ g k. asked h.1.1 (λ x l. given tt)))
      (asked h.1.1 (λ t k. asked h.1.0 (λ x l. given tt)))
  dec_stands e (await_dec s v) h = asked h.1 (λ x k. given tt)
  dec_stands e (def_dec s ds) h = asked h.1 (λ ss k. asked k (λ x l. given tt))
  dec_stands e (alias_dec s x t) h = expanded e t h.1.1 (given tt)
  dec_stands e (operator_dec s x xs t) h = unless _ (kind_stands P e.names _ t h.1.1.1) (given tt)

  decs_stand : (e : Environment) (ds : Decs) → DecsStand P ds → Stands environment_ (rule e (declarations ds))
  decs_stand e no_decs h = given tt
  decs_stand e (more_decs ds d) h = asked h.0 (λ f k. asked h.1 (λ x l. given tt))

  bodies_more : (ss : List Signature) (s : Signature) → BodiesStand ss → BodyStands s.body → BodiesStand (ss ++ s ∷ [])
  bodies_more [] s h k = (k, tt)
  bodies_more (r ∷ ss) s h k = (h.0, bodies_more ss s h.1 k)

  signatures_stand : (e : Environment) (ds : Definitions) → DefinitionsStand P ds → Stands signatures_ (rule e (signatures ds))
  signatures_stand e no_definitions h = given tt
  signatures_stand e (more_definitions ds x a) h = asked h.0 (λ ss k. asked h.1.1 (λ s l. given (bodies_more ss s k l)))

  signature_stands : (e : Environment) (x : Id) (a : Abs) → AbsStands P a → Stands signature_ (rule e (signature x a))
  signature_stands e x (process_abs s p q) h = asked h.1.0 (λ g k. measured e (Chan_ Respond g.has) s h.0 (given h.1.1))
  signature_stands e x (function_abs s f None v) h = asked h.1.0 (λ g k. refused (tt, h.0))
  signature_stands e x (function_abs s f (Some a) v) h =
      asked h.1.0 (λ g k. expanded (with_own e g.own) a h.1.1.0 (
      measured e (argument_type g (normal e.names (with_own e g.own).context a)) s h.0 (
      measured e (Chan_ Respond (argument_type g (normal e.names (with_own e g.own).context a))) s h.0 (given h.1.1.1))))

  bodies_go : (e : Environment) (ss : List Signature) → BodiesStand ss → Stands nothing_ (rule e (bodies ss))
  bodies_go e [] h = given tt
  bodies_go e (s ∷ ss) h = asked h.0 (λ x k. asked h.1 (λ y l. given tt))

  body_goes : (e : Environment) (b : Body) → BodyStands b → Stands nothing_ (rule e (body b))
  body_goes e (process_body q) h = asked h (λ x k. given tt)
  body_goes e (value_body v t) h = asked h (λ x k. given tt)

  -- ---- processes

  proc_stands : (e : Environment) (p : Proc) → ProcStands P p → Stands nothing_ (rule e (process p))
  proc_stands e (send_proc s c v) h =
      asked h.1.0 (λ t k. in_channels (exposure (context_of e) t) _ (chan_span c) (tt, chan_place c h.1.0) (λ m u.
      ensured (may_send m) _ (chan_span c) (tt, chan_place c h.1.0) (asked h.1.1 (λ x l. given tt))))
  proc_stands e (receive_proc s c a) h = asked h.1 (λ x k. given tt)
  proc_stands e (serve_proc s c a) h = asked h.1 (λ x k. given tt)
  proc_stands e (if_proc s c p q) h = asked h.1.0 (λ b k. asked h.1.1.0 (λ x l. asked h.1.1.1 (λ y m. given tt)))
  proc_stands e (inert_proc s) h = given tt
  proc_stands e (group_proc s ds ps) h = asked h.1.0 (λ d k. asked h.1.1 (λ x l. given tt))

  procs_stand : (e : Environment) (ps : Procs) → ProcsStand P ps → Stands nothing_ (rule e (processes ps))
  procs_stand e no_procs h = given tt
  procs_stand e (more_procs ps p) h = asked h.0 (λ x k. asked h.1 (λ y l. given tt))

  received : (e : Environment) (c : Chan) (a : Abs) → ChanStands P c × AbsStands P a → Stands nothing_ (rule e (receives c a))
  received e c a h =
      asked h.0 (λ t k. in_channels (exposure (context_of e) t) _ (chan_span c) (tt, chan_place c h.0) (λ m u.
      ensured (may_receive m) _ (chan_span c) (tt, chan_place c h.0) (asked h.1 (λ x l. given tt))))

  -- ---- each judgement

  all_stand : AllStand
  all_stand s e (gives v) h = val_gives e v h
  all_stand s e (has v t) h = val_has e v t h
  all_stand s e (is_condition v) h = below e v Boolean Y12 tt h
  all_stand s e (values_give vs) h = vals_give e vs h
  all_stand s e (labelled_values_give ls) h = labelled_give e ls h
  all_stand s e (application i f vs o) h = applied e i f vs o h
  all_stand s e (fields_fit i f bs ps ms g) h = fit e i f bs ps ms g h
  all_stand s e (written_arguments i ts bs) h = arguments_stand e i ts bs h
  all_stand s e (values_fit i vs ps g) h = vals_fit e i vs ps g h
  all_stand s e (labelled_values_fit i ls ms g) h = labelled_fit e i ls ms g h
  all_stand s e (value_fits i v t g) h = val_fits e i v t g h
  all_stand s e (given_fits i v t u g) h = given_fit e i v t u g h
  all_stand s e (abstraction_gives a) h = abs_gives e a h
  all_stand s e (abstraction_against a t) h = abs_against e a t h
  all_stand s e (pattern_gives p) h = pat_gives e p h
  all_stand s e (fields_give f) h = fields_given e f h
  all_stand s e (binders_give bs) h = binders_given e bs h
  all_stand s e (patterns_give ps) h = pats_give e ps h
  all_stand s e (labelled_patterns_give ls) h = labelled_pats_give e ls h
  all_stand s e (pattern_against p t) h = pat_against e p t h
  all_stand s e (fields_against i f bs ps ls) h = fields_go e i f bs ps ls h
  all_stand s e (binders_against bs rs) h = binders_go e bs rs h
  all_stand s e (patterns_against ps ts) h = pats_go e ps ts h
  all_stand s e (labelled_patterns_against ls ms) h = labelled_pats_go e ls ms h
  all_stand s e (declaration d) h = dec_stands e d h
  all_stand s e (declarations ds) h = decs_stand e ds h
  all_stand s e (signatures ds) h = signatures_stand e ds h
  all_stand s e (signature x a) h = signature_stands e x a h
  all_stand s e (bodies ss) h = bodies_go e ss h
  all_stand s e (body b) h = body_goes e b h
  all_stand s e (process p) h = proc_stands e p h
  all_stand s e (processes ps) h = procs_stand e ps h
  all_stand s e (receives c a) h = received e c a h

  -- the refusal of a program whose places all have the property
  pub stuck_stands : (names : List (List ℕ)) (p : Decs) (c : Code) (i : Span) → DecsStand P p → IsStuckAt names p c i → Line P (c, i)
  stuck_stands names p c i h is = answer_stands all_stand is (all_stand environment_ (no_environment names) (declarations p) h).lines
