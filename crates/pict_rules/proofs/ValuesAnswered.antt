-- Every value, abstraction, declaration and process has an answer.
use Rattle.std.proofs.Common.{ℕ, ℤ, List, [], ◌∷◌, ◌++◌, map, not, ◌||◌, nat_eq, Option, Some, None, sym, subst}
use Rattle.pict_syntax.specs.declared.code.Code.{Code}
use Rattle.pict_syntax.specs.declared.name.Name.{Name}
use Rattle.pict_syntax.specs.declared.code.Code.TheVariants.{K1, K5, Y5, Y6, Y9, Y10, Y14}
use Rattle.pict_syntax.specs.declared.span.Span.{Span}
use Rattle.pict_syntax.specs.declared.id.Id.{Id}
use Rattle.pict_syntax.specs.Trees.{Pat, FieldPats, TypeTree, TypeTrees, no_types, more_types, Dec, new_dec, run_dec, let_dec, def_dec, alias_dec, operator_dec, await_dec, Decs, no_decs, more_decs, Definitions, no_definitions, more_definitions, Abs, process_abs, function_abs, Chan, use_chan, fold_chan, block_chan, apply_chan, right_chan, left_chan, Val, of_chan, number_val, character_val, string_val, true_val, false_val, fields_val, if_val, lambda_val, Vals, no_vals, more_vals, FieldVals, field_vals, LabelledVals, no_labelled_vals, more_labelled_vals, Proc, send_proc, receive_proc, serve_proc, if_proc, inert_proc, group_proc, Procs, no_procs, more_procs}
use Rattle.pict_types.specs.AsMarked.{varies_as}
use Rattle.pict_types.specs.Types.{Chan as Chan_, Respond, PlainType, PlainTypes, PlainLabels, PlainBounds, type_at, count_types, count_bounds}
use Rattle.pict_normal.specs.Normal.{normal, kind_stop, size_stop, count_trees}
use Rattle.pict_sub.specs.Exposing.{exposure}
use Rattle.pict_rules.specs.Found.{Found, mentions_missing, matched, all_found, filled, argument_in}
use Rattle.pict_types.specs.Replacing.{instance_of}
use Rattle.pict_syntax.specs.Grammar.{type_span, val_span}
use Rattle.pict_rules.specs.Counts.{count_vals}
use Rattle.pict_normal.specs.WrittenArguments.{arg_stop, normal_arg}
use Rattle.pict_rules.specs.Shapes.{all_written, nth_type, nth_bound, applicable, none_written, vals_onto, applied_to, right_nested, left_nested, from_first}
use Rattle.pict_rules.specs.Environments.{Environment, context_of, opened_since, opened, extended}
use Rattle.pict_rules.specs.Complete.{is_complete}
use Rattle.pict_rules.specs.Rules.{Sort, nothing_, type_, types_, labels_, arguments_, found_, environment_, signatures_, signature_, Rule, Signature, gives, has, is_condition, values_give, labelled_values_give, application, fields_fit, written_arguments, values_fit, labelled_values_fit, value_fits, abstraction_gives, abstraction_against, declaration, declarations, signatures, signature, bodies, body, process, processes, receives, given_fits}
use Rattle.pict_rules.specs.Clauses.{gives_below, in_order, is_of_kind, with_fields, with_own, argument_type, with_signatures, answering}
use Rattle.pict_rules.specs.Typing.{rule}
use Rattle.pict_rules.proofs.Answered.{Decides, Answered, given, refused, needed, chosen, parted, unstopped, split, ensured, cased_record, cased_recursive, cased_channel, cased_sent, cased_both, cased_function, expected, bounded, all_bounded, escaped, labelled_or, parted_by}
use Rattle.pict_rules.proofs.Results.{result_has}
use Rattle.pict_rules.proofs.Declared.{FollowsAbs, AllFollow, signatures_follow}
use Rattle.pict_rules.proofs.PatternsAnswered.{pattern_answered, fields_answered, against_answered, fields_against_answered}

pub record ValAnswered (v : Val) : Type 0 where
  pub gives_ : (e : Environment) → Answered type_ (rule e (gives v))
  pub has_ : (e : Environment) (t : PlainType) → Answered nothing_ (rule e (has v t))

-- the body of a signature has an answer
abbrev pub BodyAnswered : Signature → Type 0
BodyAnswered s = (e : Environment) → Answered nothing_ (rule e (body s.body))

abbrev pub EachBody : List Signature → Type 0
EachBody [] = Unit {0}
EachBody (s ∷ ss) = BodyAnswered s × EachBody ss

each_and : (ss : List Signature) (s : Signature) → EachBody ss → BodyAnswered s → EachBody (ss ++ s ∷ [])
each_and [] s h k = (k, tt)
each_and (x ∷ ss) s h k = (h.0, each_and ss s h.1 k)

pub record AbsAnswered (a : Abs) : Type 0 where
  pub gives_ : (e : Environment) → Answered type_ (rule e (abstraction_gives a))
  pub against_ : (e : Environment) (t : PlainType) → Answered nothing_ (rule e (abstraction_against a t))
  pub signature_ : (e : Environment) (x : Id) → Answered signature_ (rule e (signature x a))
  pub body_ : (x : Id) (s : Signature) → FollowsAbs x a s → BodyAnswered s

abbrev pub ProcAnswered : Proc → Type 0
ProcAnswered p = (e : Environment) → Answered nothing_ (rule e (process p))

abbrev pub DecsAnswered : Decs → Type 0
DecsAnswered ds = (e : Environment) → Answered environment_ (rule e (declarations ds))

abbrev pub EachVal : Vals → Type 0
EachVal no_vals = Unit {0}
EachVal (more_vals vs v) = EachVal vs × ValAnswered v

abbrev pub EachLabelled : LabelledVals → Type 0
EachLabelled no_labelled_vals = Unit {0}
EachLabelled (more_labelled_vals ls l v) = EachLabelled ls × ValAnswered v

abbrev pub EachField : FieldVals → Type 0
EachField (field_vals ts vs ls) = EachVal vs × EachLabelled ls

abbrev pub EachListed : List Val → Type 0
EachListed [] = Unit {0}
EachListed (v ∷ vs) = ValAnswered v × EachListed vs

abbrev pub EachAbs : Definitions → Type 0
EachAbs no_definitions = Unit {0}
EachAbs (more_definitions ds x a) = EachAbs ds × AbsAnswered a

below : Decides → (e : Environment) (v : Val) (t : PlainType) (c : Code) → Answered type_ (rule e (gives v)) → Answered nothing_ (gives_below e v t c)
below d e v t c h = parted h (λ s. needed d given)

pub condition : Decides → (e : Environment) (v : Val) → ValAnswered v → Answered nothing_ (rule e (is_condition v))
condition d e v h = below d e v _ _ (h.gives_ e)

pub give_all : (e : Environment) (vs : Vals) → EachVal vs → Answered types_ (rule e (values_give vs))
give_all e no_vals h = given
give_all e (more_vals vs v) h = parted (give_all e vs h.0) (λ ts. parted (h.1.gives_ e) (λ t. given))

pub give_labels : (e : Environment) (ls : LabelledVals) → EachLabelled ls → Answered labels_ (rule e (labelled_values_give ls))
give_labels e no_labelled_vals h = given
give_labels e (more_labelled_vals ls l v) h = parted (give_labels e ls h.0) (λ ts. parted (h.1.gives_ e) (λ t. given))

pub one_field : Decides → (e : Environment) (i : Span) (v : Val) (t : PlainType) (f : Found) → ValAnswered v → Answered found_ (rule e (value_fits i v t f))
one_field d e i v t f h =
    split (mentions_missing f t) (parted (h.gives_ e) (λ g. parted (match_answered g (matched (context_of e) 0 t g f)) (λ x. given))) (unstopped _ (parted (h.has_ e _) (λ x. given)))
  where
    match_answered : (g : PlainType) (k : Found) → Answered found_ (rule e (given_fits i v t g k))
    match_answered g k = ensured _ _ _ (unstopped _ (needed d given))

pub all_positional : Decides → (e : Environment) (i : Span) (vs : Vals) (ps : PlainTypes) (f : Found) → EachVal vs → Answered found_ (rule e (values_fit i vs ps f))
all_positional d e i no_vals ps f h = given
all_positional d e i (more_vals vs v) ps f h = parted (all_positional d e i vs ps f h.0) (λ g. parted (one_field d e i v (nth_type (count_vals vs) ps) g h.1) (λ x. given))

pub all_labelled : Decides → (e : Environment) (i : Span) (ls : LabelledVals) (ms : PlainLabels) (f : Found) → EachLabelled ls → Answered found_ (rule e (labelled_values_fit i ls ms f))
all_labelled d e i no_labelled_vals ms f h = given
all_labelled d e i (more_labelled_vals ls l v) ms f h =
    parted (all_labelled d e i ls ms f h.0) (λ g. labelled_or (type_at l.name.0 ms) (λ t. parted (one_field d e i v t g h.1) (λ x. given)) (parted (h.1.gives_ e) (λ x. given)))

ordered : {s : Sort} → Decides → (e : Environment) (i : Span) (vs : Vals) (ls : LabelledVals) (ps : PlainTypes) (ms : PlainLabels) (f : Found) {k : Found → Rule s} → EachVal vs → EachLabelled ls → ((g : Found) → Answered s (k g)) → Answered s (in_order e i vs ls ps ms f k)
ordered d e i vs ls ps ms f hv hl hk = parted (all_positional d e i vs ps f hv) (λ g. parted (all_labelled d e i ls ms g hl) hk)

pub all_arguments : Decides → (e : Environment) (i : Span) (ts : TypeTrees) (bs : PlainBounds) → Answered arguments_ (rule e (written_arguments i ts bs))
all_arguments d e i no_types bs = given
all_arguments d e i (more_types ts t) bs =
    parted (all_arguments d e i ts bs) (λ args. unstopped (arg_stop e.names e.context t) (ensured (is_of_kind (normal_arg e.names e.context t) (nth_bound (count_trees ts) bs)) K1 (type_span t) (ensured (varies_as (context_of e) (normal_arg e.names e.context t) (nth_bound (count_trees ts) bs)) K5 (type_span t) (bounded d e i (nth_bound (count_trees ts) bs) args (normal_arg e.names e.context t) Y9 (type_span t) given))))

pub fields_rule : Decides → (e : Environment) (i : Span) (f : FieldVals) (bs : PlainBounds) (ps : PlainTypes) (ms : PlainLabels) (g : Found) → EachField f → Answered arguments_ (rule e (fields_fit i f bs ps ms g))
fields_rule d e i (field_vals ts vs ls) bs ps ms g h =
    ensured (none_written ts || nat_eq (count_trees ts) (count_bounds bs)) Y5 i (ensured (nat_eq (count_vals vs) (count_types ps)) Y5 i (ensured (all_written ms ls) Y6 i (split (not (none_written ts))
    (parted (all_arguments d e i ts bs) (λ args. unstopped (size_stop e.context (instance_of args ps ms) i) (ordered d e i vs ls ps ms (map filled args) h.0 h.1 (λ x. given))))
    (ordered d e i vs ls ps ms g h.0 h.1 (λ x. ensured (all_found x) Y10 i (all_bounded d e i bs [] (map argument_in x) Y9 given))))))

pub apply : Decides → (e : Environment) (i : Span) (f : Val) (vs : FieldVals) (o : Option PlainType) → ValAnswered f → EachField vs → Answered type_ (rule e (application i f vs o))
apply d e i f vs o h hs =
    parted (h.gives_ e) (λ t. cased_function (applicable (exposure (context_of e) t)) _ _ (λ r. parted (fields_rule d e i vs _ _ _ _ hs) (λ args. unstopped _ (expected d e o _ _ i given))))

-- values
use_answered : Decides → (i : Span) (n : Name) → ValAnswered (of_chan (use_chan i n))
use_answered d i n = record { gives_ = λ e. given; has_ = λ e t. below d e _ t _ given }

number_answered : Decides → (i : Span) (n : ℤ) → ValAnswered (number_val i n)
number_answered d i n = record { gives_ = λ e. given; has_ = λ e t. below d e _ t _ given }

character_answered : Decides → (i : Span) (n : ℕ) → ValAnswered (character_val i n)
character_answered d i n = record { gives_ = λ e. given; has_ = λ e t. below d e _ t _ given }

string_answered : Decides → (i : Span) (n : List ℕ) → ValAnswered (string_val i n)
string_answered d i n = record { gives_ = λ e. given; has_ = λ e t. below d e _ t _ given }

true_answered : Decides → (i : Span) → ValAnswered (true_val i)
true_answered d i = record { gives_ = λ e. given; has_ = λ e t. below d e _ t _ given }

false_answered : Decides → (i : Span) → ValAnswered (false_val i)
false_answered d i = record { gives_ = λ e. given; has_ = λ e t. below d e _ t _ given }

record_answered : Decides → (i : Span) (f : FieldVals) → EachField f → ValAnswered (fields_val i f)
record_answered d i (field_vals ts vs ls) h = record { gives_ = g; has_ = λ e t. cased_record t (λ bs ps ms. parted (fields_rule d e i (field_vals ts vs ls) bs ps ms _ h) (λ x. given)) (below d e _ t _ (g e)) }
  where
    g : (e : Environment) → Answered type_ (rule e (gives (fields_val i (field_vals ts vs ls))))
    g e = ensured _ _ _ (parted (give_all e vs h.0) (λ ps. parted (give_labels e ls h.1) (λ ms. unstopped _ given)))

if_answered : Decides → (i : Span) (c v w : Val) → ValAnswered c → ValAnswered v → ValAnswered w → ValAnswered (if_val i c v w)
if_answered d i c v w hc hv hw = record {
  gives_ = λ e. parted (condition d e c hc) (λ x. parted (hv.gives_ e) (λ s. parted (hw.gives_ e) (λ t. chosen d given (chosen d given refused))));
  has_ = λ e t. parted (condition d e c hc) (λ x. parted (hv.has_ e t) (λ y. parted (hw.has_ e t) (λ z. given)));
}

lambda_answered : Decides → (i : Span) (a : Abs) → AbsAnswered a → ValAnswered (lambda_val i a)
lambda_answered d i a h = record { gives_ = g; has_ = λ e t. cased_sent t (λ r. parted (h.against_ e r) (λ x. given)) (below d e _ t _ (g e)) }
  where
    g : (e : Environment) → Answered type_ (rule e (gives (lambda_val i a)))
    g e = parted (h.gives_ e) (λ r. unstopped _ given)

fold_answered : Decides → (i : Span) (o : Option TypeTree) (v : Val) → ValAnswered v → ValAnswered (of_chan (fold_chan i o v))
fold_answered d i None v h = record { gives_ = λ e. refused; has_ = λ e t. cased_recursive t _ _ (λ u. unstopped _ (parted (h.has_ e u) (λ x. given))) }
fold_answered d i (Some a) v h = record { gives_ = g; has_ = λ e t. below d e _ t _ (g e) }
  where
    g : (e : Environment) → Answered type_ (rule e (gives (of_chan (fold_chan i (Some a) v))))
    g e = unstopped _ (cased_recursive (normal e.names e.context a) _ _ (λ u. unstopped _ (parted (h.has_ e u) (λ x. given))))

block_answered : Decides → (i : Span) (ds : Decs) (v : Val) → DecsAnswered ds → ValAnswered v → ValAnswered (of_chan (block_chan i ds v))
block_answered d i ds v hd hv = record {
  gives_ = λ e. parted (hd e) (λ f. parted (hv.gives_ f) (λ t. escaped (opened_since e f) t _ _ (λ u. given {x = u})));
  has_ = λ e t. parted (hd e) (λ f. parted (hv.has_ f _) (λ x. given));
}

apply_answered : Decides → (i : Span) (f : Val) (vs : FieldVals) → ValAnswered f → EachField vs → ValAnswered (of_chan (apply_chan i f vs))
apply_answered d i f vs h hs = record {
  gives_ = λ e. parted (apply d e i f vs None h hs) (λ t. given);
  has_ = λ e t. parted (apply d e i f vs (Some t) h hs) (λ x. given);
}

applied_answered : Decides → (i : Span) (f : Id) (v w : Val) → ValAnswered v → ValAnswered w → ValAnswered (applied_to i f v w)
applied_answered d i f v w h k = apply_answered d i _ _ (use_answered d _ _) (((tt, h), k), tt)

right_answered : Decides → (i : Span) (f : Id) (v : Val) (vs : List Val) → ValAnswered v → EachListed vs → ValAnswered (right_nested i f v vs)
right_answered d i f v [] h hs = h
right_answered d i f v (w ∷ vs) h hs = applied_answered d i f v _ h (right_answered d i f w vs hs.0 hs.1)

left_answered : Decides → (i : Span) (f : Id) (v : Val) (vs : List Val) → ValAnswered v → EachListed vs → ValAnswered (left_nested i f v vs)
left_answered d i f v [] h hs = h
left_answered d i f v (w ∷ vs) h hs = left_answered d i f _ vs (applied_answered d i f v w h hs.0) hs.1

each_listed : (vs : Vals) (ws : List Val) → EachVal vs → EachListed ws → EachListed (vals_onto vs ws)
each_listed no_vals ws h k = k
each_listed (more_vals vs v) ws h k = each_listed vs (v ∷ ws) h.0 (h.1, k)

first_right : Decides → (i : Span) (f : Id) (vs : List Val) → EachListed vs → ValAnswered (from_first (right_nested i f) i vs)
first_right d i f [] h = true_answered d i
first_right d i f (v ∷ vs) h = right_answered d i f v vs h.0 h.1

first_left : Decides → (i : Span) (f : Id) (vs : List Val) → EachListed vs → ValAnswered (from_first (left_nested i f) i vs)
first_left d i f [] h = true_answered d i
first_left d i f (v ∷ vs) h = left_answered d i f v vs h.0 h.1

right_form : Decides → (i : Span) (f : Id) (vs : Vals) → EachVal vs → ValAnswered (of_chan (right_chan i f vs))
right_form d i f vs h = let x = first_right d i f (vals_onto vs []) (each_listed vs [] h tt) in record {
  gives_ = λ e. parted (x.gives_ e) (λ t. given);
  has_ = λ e t. parted (x.has_ e t) (λ y. given);
}

left_form : Decides → (i : Span) (f : Id) (vs : Vals) → EachVal vs → ValAnswered (of_chan (left_chan i f vs))
left_form d i f vs h = let x = first_left d i f (vals_onto vs []) (each_listed vs [] h tt) in record {
  gives_ = λ e. parted (x.gives_ e) (λ t. given);
  has_ = λ e t. parted (x.has_ e t) (λ y. given);
}

-- abstractions
process_answered : Decides → (i : Span) (p : Pat) (q : Proc) → ProcAnswered q → AbsAnswered (process_abs i p q)
process_answered d i p q h = record {
  gives_ = λ e. parted (pattern_answered d p e) (λ g. parted (h _) (λ x. given));
  against_ = λ e t. parted (against_answered d p e t) (λ x. parted (h (extended e x)) (λ y. given));
  signature_ = λ e x. parted (pattern_answered d p e) (λ g. unstopped _ given);
  body_ = λ x s w e. subst (λ b. Answered nothing_ (rule e (body b))) (sym w.body_) (parted (h e) (λ y. given));
}

function_answered : Decides → (i : Span) (f : FieldPats) (a : Option TypeTree) (v : Val) → ValAnswered v → AbsAnswered (function_abs i f a v)
function_answered d i f a v h = record { gives_ = g a; against_ = against a; signature_ = sign a; body_ = bodied }
  where
    g : (o : Option TypeTree) (e : Environment) → Answered type_ (rule e (abstraction_gives (function_abs i f o v)))
    g None e = parted (fields_answered d f e) (λ x. parted (h.gives_ (with_fields e x.own x.adds)) (λ t. escaped (opened x.adds) t Y14 (val_span v) (λ u. unstopped (size_stop e.context (argument_type x u) i) (given {x = argument_type x u}))))
    g (Some a) e = parted (fields_answered d f e) (λ x. unstopped _ (parted (h.has_ (with_fields e x.own x.adds) _) (λ y. unstopped _ given)))

    against : (o : Option TypeTree) (e : Environment) (t : PlainType) → Answered nothing_ (rule e (abstraction_against (function_abs i f o v) t))
    against None e t =
        cased_function (answering e t) _ _ (λ g. parted (fields_against_answered d f e i g.binders g.positional g.labelled) (λ x. parted (h.has_ (with_fields e x.own x.adds) _) (λ y. given)))
    against (Some a) e t =
        cased_function (answering e t) _ _ (λ g. parted (fields_against_answered d f e i g.binders g.positional g.labelled) (λ x. unstopped _ (needed d (parted (h.has_ (with_fields e x.own x.adds) _) (λ y. given)))))

    bodied : (x : Id) (s : Signature) → FollowsAbs x (function_abs i f a v) s → BodyAnswered s
    bodied x s w e = subst (λ b. Answered nothing_ (rule e (body b))) (sym w.body_.1) (parted (h.has_ e w.body_.0) (λ y. given))

    sign : (o : Option TypeTree) (e : Environment) (x : Id) → Answered signature_ (rule e (signature x (function_abs i f o v)))
    sign None e x = parted (fields_answered d f e) (λ g. refused)
    sign (Some a) e x = parted (fields_answered d f e) (λ g. unstopped (kind_stop e.names (with_own e g.own).context a) (unstopped (size_stop e.context (argument_type g (normal e.names (with_own e g.own).context a)) i) (unstopped (size_stop e.context (Chan_ Respond (argument_type g (normal e.names (with_own e g.own).context a))) i) given)))

-- declarations
let_answered : Decides → (i : Span) (p : Pat) (v : Val) → ValAnswered v → (e : Environment) → Answered environment_ (rule e (declaration (let_dec i p v)))
let_answered d i p v h e =
    split (is_complete e.names e.context p)
    (parted (pattern_answered d p e) (λ g. parted (h.has_ e _) (λ x. given)))
    (parted (h.gives_ e) (λ t. parted (against_answered d p e t) (λ x. given)))

pub all_signed : (ds : Definitions) (e : Environment) → EachAbs ds → Answered signatures_ (rule e (signatures ds))
all_signed no_definitions e h = given
all_signed (more_definitions ds x a) e h = parted (all_signed ds e h.0) (λ ss. parted (h.1.signature_ e x) (λ s. given))

each_body : (ds : Definitions) (ss : List Signature) → EachAbs ds → AllFollow ds ss → EachBody ss
each_body no_definitions ss h k = subst EachBody (sym k) tt
each_body (more_definitions ds x a) ss h k = subst EachBody (sym k.2) (each_and k.0 k.1 (each_body ds k.0 h.0 k.3) (h.1.body_ x k.1 k.4))

pub all_bodies : (e : Environment) (ss : List Signature) → EachBody ss → Answered nothing_ (rule e (bodies ss))
all_bodies e [] h = given
all_bodies e (s ∷ ss) h = parted (h.0 (extended e s.adds)) (λ y. parted (all_bodies e ss h.1) (λ z. given))

-- processes
pub receive_answered : (e : Environment) (c : Chan) (a : Abs) → ValAnswered (of_chan c) → AbsAnswered a → Answered nothing_ (rule e (receives c a))
receive_answered e c a h k = parted (h.gives_ e) (λ t. cased_channel (exposure (context_of e) t) _ _ (λ m u. ensured _ _ _ (parted (k.against_ e u) (λ x. given))))

mutual
  pub val_answered : Decides → (v : Val) → ValAnswered v
  val_answered d (of_chan c) = chan_answered d c
  val_answered d (number_val s n) = number_answered d s n
  val_answered d (character_val s b) = character_answered d s b
  val_answered d (string_val s b) = string_answered d s b
  val_answered d (true_val s) = true_answered d s
  val_answered d (false_val s) = false_answered d s
  val_answered d (fields_val s f) = record_answered d s f (each_field d f)
  val_answered d (if_val s a b c) = if_answered d s a b c (val_answered d a) (val_answered d b) (val_answered d c)
  val_answered d (lambda_val s a) = lambda_answered d s a (abs_answered d a)

  pub chan_answered : Decides → (c : Chan) → ValAnswered (of_chan c)
  chan_answered d (use_chan s n) = use_answered d s n
  chan_answered d (fold_chan s r v) = fold_answered d s r v (val_answered d v)
  chan_answered d (block_chan s ds v) = block_answered d s ds v (decs_answered d ds) (val_answered d v)
  chan_answered d (apply_chan s v f) = apply_answered d s v f (val_answered d v) (each_field d f)
  chan_answered d (right_chan s f vs) = right_form d s f vs (each_val d vs)
  chan_answered d (left_chan s f vs) = left_form d s f vs (each_val d vs)

  pub each_val : Decides → (vs : Vals) → EachVal vs
  each_val d no_vals = tt
  each_val d (more_vals vs v) = (each_val d vs, val_answered d v)

  pub each_labelled : Decides → (ls : LabelledVals) → EachLabelled ls
  each_labelled d no_labelled_vals = tt
  each_labelled d (more_labelled_vals ls l v) = (each_labelled d ls, val_answered d v)

  pub each_field : Decides → (f : FieldVals) → EachField f
  each_field d (field_vals ts vs ls) = (each_val d vs, each_labelled d ls)

  pub abs_answered : Decides → (a : Abs) → AbsAnswered a
  abs_answered d (process_abs s p q) = process_answered d s p q (proc_answered d q)
  abs_answered d (function_abs s f a v) = function_answered d s f a v (val_answered d v)

  pub each_abs : Decides → (ds : Definitions) → EachAbs ds
  each_abs d no_definitions = tt
  each_abs d (more_definitions ds x a) = (each_abs d ds, abs_answered d a)

  pub dec_answered : Decides → (c : Dec) (e : Environment) → Answered environment_ (rule e (declaration c))
  dec_answered d (new_dec s x t) e = unstopped _ (cased_both (normal e.names e.context t) _ _ given)
  dec_answered d (run_dec s p) e = parted (proc_answered d p e) (λ x. given)
  dec_answered d (let_dec s p v) e = let_answered d s p v (val_answered d v) e
  dec_answered d (def_dec s ds) e = parted_by (all_signed ds e (each_abs d ds)) (λ ss r. parted (all_bodies (with_signatures e ss) ss (each_body ds ss (each_abs d ds) (result_has (signatures_follow e ds) r))) (λ x. given))
  dec_answered d (alias_dec s x t) e = unstopped _ given
  dec_answered d (operator_dec s x xs t) e = unstopped _ given
  dec_answered d (await_dec s v) e = parted ((val_answered d v).has_ e _) (λ x. given)

  pub decs_answered : Decides → (ds : Decs) (e : Environment) → Answered environment_ (rule e (declarations ds))
  decs_answered d no_decs e = given
  decs_answered d (more_decs ds c) e = parted (decs_answered d ds e) (λ f. parted (dec_answered d c f) (λ x. given))

  pub proc_answered : Decides → (p : Proc) (e : Environment) → Answered nothing_ (rule e (process p))
  proc_answered d (send_proc s c v) e = parted ((chan_answered d c).gives_ e) (λ t. cased_channel (exposure (context_of e) t) _ _ (λ m u. ensured _ _ _ (parted ((val_answered d v).has_ e u) (λ x. given))))
  proc_answered d (receive_proc s c a) e = parted (receive_answered e c a (chan_answered d c) (abs_answered d a)) (λ x. given)
  proc_answered d (serve_proc s c a) e = parted (receive_answered e c a (chan_answered d c) (abs_answered d a)) (λ x. given)
  proc_answered d (if_proc s c p q) e = parted (condition d e c (val_answered d c)) (λ x. parted (proc_answered d p e) (λ y. parted (proc_answered d q e) (λ z. given)))
  proc_answered d (inert_proc s) e = given
  proc_answered d (group_proc s ds ps) e = parted (decs_answered d ds e) (λ f. parted (procs_answered d ps f) (λ x. given))

  pub procs_answered : Decides → (ps : Procs) (e : Environment) → Answered nothing_ (rule e (processes ps))
  procs_answered d no_procs e = given
  procs_answered d (more_procs ps p) e = parted (procs_answered d ps e) (λ x. parted (proc_answered d p e) (λ y. given))
