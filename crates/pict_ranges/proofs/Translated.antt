-- The values of a translated program are within the ranges of the machine, where its literals are.
use Rattle.std.proofs.Common.{ℕ, zero, suc, ◌+◌, Bool, true, false, List, [], ◌∷◌, ◌++◌, length, drop, get_or, nat_eq, Option, Some, None, option_map, option_and_then, unwrap_or, if◌then◌else◌}
use Rattle.std.specs.Ordering.{is_lt}
use Rattle.pict_syntax.specs.declared.span.Span.{Span}
use Rattle.pict_syntax.specs.declared.primitive.Primitive.{Primitive}
use Rattle.pict_syntax.specs.Names.{text_of}
use Rattle.pict_syntax.specs.Labels.{label_cmp, with_label, with_labels, in_label_order}
use Rattle.pict_syntax.specs.Trees as tree
use Rattle.pict_syntax.specs.Trees.{FieldPats, Dec, new_dec, run_dec, let_dec, def_dec, alias_dec, operator_dec, await_dec, Decs, no_decs, more_decs, Definitions, no_definitions, more_definitions, Abs, process_abs, function_abs, Chan, use_chan, fold_chan, block_chan, apply_chan, right_chan, left_chan, of_chan, number_val, character_val, string_val, true_val, false_val, fields_val, if_val, lambda_val, Vals, no_vals, more_vals, FieldVals, field_vals, LabelledVals, no_labelled_vals, more_labelled_vals, Proc, send_proc, receive_proc, serve_proc, if_proc, inert_proc, group_proc, Procs, no_procs, more_procs}
use Rattle.pict_core.specs.Term as core
use Rattle.pict_core.specs.Term.{Val, Var}
use Rattle.pict_core.specs.Closed.{binds}
use Rattle.pict_core.specs.Plain.{vals_of}
use Rattle.pict_scope.specs.PrimitiveNames.{primitive_named}
use Rattle.pict_translation.specs.Placed.{Placed, new_channels, side_by_side, served, variables}
use Rattle.pict_translation.specs.Arguments.{Argument, labelled_of, with_value, sent_as_one, application, right, left_after, left}
use Rattle.pict_translation.specs.Patterns.{pat_core, function_pat, pat_names, names_before, names_after}
use Rattle.pict_translation.specs.Simple.{Around, value_at, binding, function_bound, answer_channel, or_primitive, use_of, nothing, record_of_fields, one_more, simple, simple_chan, simple_fields, simple_vals, simple_labelled}
use Rattle.pict_translation.specs.Translation.{program_core, definition_names, sending, sending_chan, decs_core, dec_core, proc_core, procs_core, reader, with_fields, arguments, with_vals, with_labelled, servers}
use Rattle.pict_ranges.specs.Ranges.{IsMachineValue, AreMachineValues, AreMachineFields, IsMachineProcess}
use Rattle.pict_ranges.proofs.Steps.{message_of}
use Rattle.pict_ranges.proofs.Literals.{DecIs, DecsAre, DefinitionsAre, AbsIs, ChanIs, ValIs, ValsAre, FieldsAre, LabelledAre, ProcIs, ProcsAre}

-- ---- lists of values, and of values under labels

abbrev AllAre : List Val → Type 0
AllAre [] = Unit {0}
AllAre (v ∷ vs) = IsMachineValue v × AllAre vs

abbrev AllFieldsAre : List (ℕ × Val) → Type 0
AllFieldsAre [] = Unit {0}
AllFieldsAre (f ∷ fs) = IsMachineValue f.1 × AllFieldsAre fs

all_more : (vs : List Val) (v : Val) → AllAre vs → IsMachineValue v → AllAre (vs ++ v ∷ [])
all_more [] v o one = (one, tt)
all_more (w ∷ vs) v o one = (o.0, all_more vs v o.1 one)

fields_more : (fs : List (ℕ × Val)) (l : ℕ) (v : Val) → AllFieldsAre fs → IsMachineValue v → AllFieldsAre (fs ++ (l, v) ∷ [])
fields_more [] l v o one = (one, tt)
fields_more (f ∷ fs) l v o one = (o.0, fields_more fs l v o.1 one)

vals_are : (vs : List Val) → AllAre vs → AreMachineValues (vals_of vs)
vals_are [] o = tt
vals_are (v ∷ vs) o = (o.0, vals_are vs o.1)

fields_are : (fs : List (ℕ × Val)) → AllFieldsAre fs → AreMachineFields (labelled_of fs)
fields_are [] o = tt
fields_are (f ∷ fs) o = (o.0, fields_are fs o.1)

either_fields : (b : Bool) (xs ys : List (ℕ × Val)) → AllFieldsAre xs → AllFieldsAre ys → AllFieldsAre (if b then xs else ys)
either_fields true xs ys h k = h
either_fields false xs ys h k = k

-- ---- programs

module _ (names : List (List ℕ)) where
  put_field : (l : ℕ) (v : Val) (fs : List (ℕ × Val)) → IsMachineValue v → AllFieldsAre fs → AllFieldsAre (with_label names l v fs)
  put_field l v [] o fields = (o, tt)
  put_field l v (f ∷ fs) o fields = either_fields (is_lt (label_cmp names l f.0)) ((l, v) ∷ f ∷ fs) (f ∷ with_label names l v fs) (o, fields) (fields.0, put_field l v fs o fields.1)

  put_fields : (sorted ws : List (ℕ × Val)) → AllFieldsAre sorted → AllFieldsAre ws → AllFieldsAre (with_labels names sorted ws)
  put_fields sorted [] s o = s
  put_fields sorted (w ∷ ws) s o = put_fields (with_label names w.0 w.1 sorted) ws (put_field w.0 w.1 sorted o.0 s) o.1

  record_is : (vs : List Val) (ws : List (ℕ × Val)) → AllAre vs → AllFieldsAre ws → IsMachineValue (core.Record (vals_of vs) (labelled_of (in_label_order names ws)))
  record_is vs ws o p = (vals_are vs o, fields_are (in_label_order names ws) (put_fields [] ws tt p))

  -- what is known at a place where these values are bound
  abbrev at : List (ℕ × Val) → Around
  at bs = record { names = names; values = bs }

  abbrev Sends : (Val → Placed) → Type 0
  Sends f = (n : ℕ) (k : Val) → IsMachineValue k → IsMachineProcess (f k n)

  abbrev SomeIs : Option Val → Type 0
  SomeIs None = Unit {0}
  SomeIs (Some u) = IsMachineValue u

  binding_are : (ns : List ℕ) (vs : List Val) (bs : List (ℕ × Val)) → AllAre vs → AllFieldsAre bs → AllFieldsAre (binding ns vs bs)
  binding_are [] vs bs o p = p
  binding_are (x ∷ ns) [] bs o p = p
  binding_are (x ∷ ns) (v ∷ vs) bs o p = binding_are ns vs ((x, v) ∷ bs) o.1 (o.0, p)

  drop_are : (k : ℕ) (vs : List Val) → AllAre vs → AllAre (drop k vs)
  drop_are zero vs o = o
  drop_are (suc k) [] o = tt
  drop_are (suc k) (v ∷ vs) o = drop_are k vs o.1

  get_is : (k : ℕ) (vs : List Val) → AllAre vs → IsMachineValue (get_or vs k nothing)
  get_is k [] o = tt
  get_is zero (v ∷ vs) o = o.0
  get_is (suc k) (v ∷ vs) o = get_is k vs o.1

  variables_are : (d n : ℕ) → AllAre (variables d n)
  variables_are d zero = tt
  variables_are d (suc n) = (tt, variables_are (d + 1) n)

  choose : (b : Bool) (x y : Option Val) → SomeIs x → SomeIs y → SomeIs (if b then x else y)
  choose true x y p q = p
  choose false x y p q = q

  at_is : (bs : List (ℕ × Val)) (x : ℕ) → AllFieldsAre bs → SomeIs (value_at bs x)
  at_is [] x o = tt
  at_is (b ∷ bs) x o = choose (nat_eq x b.0) (Some b.1) (value_at bs x) o.0 (at_is bs x o.1)

  named_is : (p : Option Primitive) → IsMachineValue (unwrap_or (option_map core.PrimitiveVal p) nothing)
  named_is None = tt
  named_is (Some p) = tt

  or_is : (text : List ℕ) (v : Option Val) → SomeIs v → IsMachineValue (or_primitive text v)
  or_is text (Some v) o = o
  or_is text None o = named_is (primitive_named text)

  use_is : (bs : List (ℕ × Val)) (x : ℕ) → AllFieldsAre bs → IsMachineValue (use_of (at bs) x)
  use_is bs x o = or_is (text_of names x) (value_at bs x) (at_is bs x o)

  with_at : (s : Option Val) (sent E : Val → Placed) → SomeIs s → Sends sent → Sends E → (n : ℕ) → IsMachineProcess (with_value s sent E n)
  with_at (Some u) sent E o sending rest n = rest n u o
  with_at None sent E o sending rest n = ((tt, rest (n + 1 + 1) (Var (n + 1)) tt), sending (n + 1) (Var n) tt)

  -- ---- simple values

  abbrev AllSome : Option (List Val) → Type 0
  AllSome None = Unit {0}
  AllSome (Some vs) = AllAre vs

  abbrev SomeFields : Option (List (ℕ × Val)) → Type 0
  SomeFields None = Unit {0}
  SomeFields (Some ws) = AllFieldsAre ws

  all_some_more : (vs : Option (List Val)) (v : Option Val) → AllSome vs → SomeIs v → AllSome (one_more vs v)
  all_some_more (Some vs) (Some v) o one = all_more vs v o one
  all_some_more (Some vs) None o one = tt
  all_some_more None v o one = tt

  some_fields_more : (ws : Option (List (ℕ × Val))) (l : ℕ) (u : Option Val) → SomeFields ws → SomeIs u → SomeFields (one_more ws (option_map (λ u. (l, u)) u))
  some_fields_more (Some ws) l (Some u) o one = fields_more ws l u o one
  some_fields_more (Some ws) l None o one = tt
  some_fields_more None l u o one = tt

  record_some : (bs : List (ℕ × Val)) (vs : Option (List Val)) (ws : Option (List (ℕ × Val))) → AllSome vs → SomeFields ws → SomeIs (option_and_then (λ us. option_map (record_of_fields (at bs) us) ws) vs)
  record_some bs (Some vs) (Some ws) o p = record_is vs ws o p
  record_some bs (Some vs) None o p = tt
  record_some bs None ws o p = tt

  mutual
    unfolding simple simple_chan simple_fields simple_vals simple_labelled

    simple_is : (bs : List (ℕ × Val)) (v : tree.Val) → AllFieldsAre bs → ValIs v → SomeIs (simple (at bs) v)
    simple_is bs (of_chan c) o l = simple_chan_is bs c o l
    simple_is bs (number_val s i) o l = l
    simple_is bs (character_val s b) o l = l
    simple_is bs (string_val s b) o l = l
    simple_is bs (true_val s) o l = tt
    simple_is bs (false_val s) o l = tt
    simple_is bs (fields_val s f) o l = simple_fields_are bs f o l
    simple_is bs (if_val s c v w) o l = tt
    simple_is bs (lambda_val s a) o l = tt

    simple_chan_is : (bs : List (ℕ × Val)) (c : Chan) → AllFieldsAre bs → ChanIs c → SomeIs (simple_chan (at bs) c)
    simple_chan_is bs (use_chan s x) o l = use_is bs x.0 o
    simple_chan_is bs (fold_chan s t v) o l = simple_is bs v o l
    simple_chan_is bs (block_chan s ds v) o l = tt
    simple_chan_is bs (apply_chan s f a) o l = tt
    simple_chan_is bs (right_chan s f vs) o l = tt
    simple_chan_is bs (left_chan s f vs) o l = tt

    simple_fields_are : (bs : List (ℕ × Val)) (f : FieldVals) → AllFieldsAre bs → FieldsAre f → SomeIs (simple_fields (at bs) f)
    simple_fields_are bs (field_vals ts vs ls) o l = record_some bs (simple_vals (at bs) vs) (simple_labelled (at bs) ls) (simple_vals_are bs vs o l.0) (simple_labelled_are bs ls o l.1)

    simple_vals_are : (bs : List (ℕ × Val)) (vs : Vals) → AllFieldsAre bs → ValsAre vs → AllSome (simple_vals (at bs) vs)
    simple_vals_are bs no_vals o l = tt
    simple_vals_are bs (more_vals vs v) o l = all_some_more (simple_vals (at bs) vs) (simple (at bs) v) (simple_vals_are bs vs o l.0) (simple_is bs v o l.1)

    simple_labelled_are : (bs : List (ℕ × Val)) (ls : LabelledVals) → AllFieldsAre bs → LabelledAre ls → SomeFields (simple_labelled (at bs) ls)
    simple_labelled_are bs no_labelled_vals o l = tt
    simple_labelled_are bs (more_labelled_vals ls x v) o l = some_fields_more (simple_labelled (at bs) ls) x.name.0 (simple (at bs) v) (simple_labelled_are bs ls o l.0) (simple_is bs v o l.1)

  -- ---- nested applications

  record IsArgument (a : Argument) : Type 0 where
    value : SomeIs a.simple
    sends : Sends a.sent

  abbrev AreArguments : List Argument → Type 0
  AreArguments [] = Unit {0}
  AreArguments (a ∷ rest) = IsArgument a × AreArguments rest

  one_more_argument : (xs : List Argument) (a : Argument) → AreArguments xs → IsArgument a → AreArguments (xs ++ a ∷ [])
  one_more_argument [] a o one = (one, tt)
  one_more_argument (b ∷ xs) a o one = (o.0, one_more_argument xs a o.1 one)

  application_is : (f : Val) (s : Span) (a b : Argument) → IsMachineValue f → IsArgument a → IsArgument b → IsArgument (application f s a b)
  application_is f s a b of x y = record {
    value = tt;
    sends = λ n k ok. with_at a.simple a.sent _ x.value x.sends (λ m u ou. with_at b.simple b.sent _ y.value y.sends (λ i w ow. (of, ((ou, (ow, (ok, tt))), tt))) m) n;
  }

  right_is : (f : Val) (s : Span) (xs : List Argument) → IsMachineValue f → AreArguments xs → IsArgument (right f s xs)
  right_is f s [] of o = record { value = tt; sends = λ n k ok. (ok, tt) }
  right_is f s (a ∷ []) of o = o.0
  right_is f s (a ∷ b ∷ xs) of o = application_is f s a (right f s (b ∷ xs)) of o.0 (right_is f s (b ∷ xs) of o.1)

  left_after_is : (f : Val) (s : Span) (a : Argument) (xs : List Argument) → IsMachineValue f → IsArgument a → AreArguments xs → IsArgument (left_after f s a xs)
  left_after_is f s a [] of one o = one
  left_after_is f s a (b ∷ xs) of one o = left_after_is f s (application f s a b) xs of (application_is f s a b of one o.0) o.1

  left_is : (f : Val) (s : Span) (xs : List Argument) → IsMachineValue f → AreArguments xs → IsArgument (left f s xs)
  left_is f s [] of o = record { value = tt; sends = λ n k ok. (ok, tt) }
  left_is f s (a ∷ xs) of o = left_after_is f s a xs of o.0 o.1

  -- ---- lists of processes and of servers

  abbrev AllProcesses : List Placed → Type 0
  AllProcesses [] = Unit {0}
  AllProcesses (p ∷ ps) = ((n : ℕ) → IsMachineProcess (p n)) × AllProcesses ps

  one_more_process : (ps : List Placed) (p : Placed) → AllProcesses ps → ((n : ℕ) → IsMachineProcess (p n)) → AllProcesses (ps ++ p ∷ [])
  one_more_process [] p o one = (one, tt)
  one_more_process (q ∷ ps) p o one = (o.0, one_more_process ps p o.1 one)

  side_are : (ps : List Placed) → AllProcesses ps → (n : ℕ) → IsMachineProcess (side_by_side ps n)
  side_are [] o n = tt
  side_are (p ∷ []) o n = o.0 n
  side_are (p ∷ q ∷ ps) o n = (o.0 n, side_are (q ∷ ps) o.1 n)

  abbrev AllServe : List (Val → Placed) → Type 0
  AllServe [] = Unit {0}
  AllServe (s ∷ ss) = Sends s × AllServe ss

  one_more_serves : (ss : List (Val → Placed)) (s : Val → Placed) → AllServe ss → Sends s → AllServe (ss ++ s ∷ [])
  one_more_serves [] s o one = (one, tt)
  one_more_serves (r ∷ ss) s o one = (o.0, one_more_serves ss s o.1 one)

  served_are : (ss : List (Val → Placed)) (xs : List Val) (rest : Placed) (n : ℕ) → AllServe ss → AllAre xs → IsMachineProcess (rest n) → IsMachineProcess (served ss xs rest n)
  served_are [] xs rest n o a r = r
  served_are (s ∷ ss) [] rest n o a r = r
  served_are (s ∷ ss) (x ∷ xs) rest n o a r = (o.0 n x a.0, served_are ss xs rest n o.1 a.1 r)

  channels_are : (k : ℕ) (f : List Val → Placed) → ((n : ℕ) (xs : List Val) → AllAre xs → IsMachineProcess (f xs n)) → (n : ℕ) → IsMachineProcess (new_channels k f n)
  channels_are zero f h n = h n [] tt
  channels_are (suc k) f h n = channels_are k (λ xs. f (Var n ∷ xs)) (λ m xs o. h m (Var n ∷ xs) (tt, o)) (n + 1)

  -- what a pattern binds
  pat_are : (d n : ℕ) (ns : List ℕ) (bs : List (ℕ × Val)) → AllFieldsAre bs → AllFieldsAre (binding ns (variables d n) bs)
  pat_are d n ns bs o = binding_are ns (variables d n) bs (variables_are d n) o

  function_are : (d n : ℕ) (f : FieldPats) (bs : List (ℕ × Val)) → AllFieldsAre bs → AllFieldsAre (function_bound f (variables d n) (at bs)).values
  function_are d n f bs o =
      binding_are (names_after names f) (drop (length (names_before names f) + 1) (variables d n)) (binding (names_before names f) (variables d n) bs)
      (drop_are (length (names_before names f) + 1) (variables d n) (variables_are d n)) (pat_are d n (names_before names f) bs o)

  answer_is : (d n : ℕ) (f : FieldPats) → IsMachineValue (answer_channel names f (variables d n))
  answer_is d n f = get_is (length (names_before names f)) (variables d n) (variables_are d n)

  whole_is : (v : Option Val) (k : Val) (s : Span) (p : Placed) (n : ℕ) → SomeIs v → IsMachineValue k → IsMachineProcess (p n) → IsMachineProcess (sent_as_one v k s p n)
  whole_is (Some u) k s p n o ok h = (ok, message_of u o)
  whole_is None k s p n o ok h = h

  mutual
    unfolding sending sending_chan decs_core dec_core proc_core procs_core reader with_fields arguments with_vals with_labelled servers

    val_is : (bs : List (ℕ × Val)) (v : tree.Val) → ValIs v → AllFieldsAre bs → Sends (sending (at bs) v)
    val_is bs (of_chan c) l o n k ok = chan_is bs c l o n k ok
    val_is bs (number_val s i) l o n k ok = (ok, l)
    val_is bs (character_val s b) l o n k ok = (ok, l)
    val_is bs (string_val s b) l o n k ok = (ok, l.0)
    val_is bs (true_val s) l o n k ok = (ok, tt)
    val_is bs (false_val s) l o n k ok = (ok, tt)
    val_is bs (fields_val s f) l o n k ok = each_are bs f l o _ (λ m us ws a b. (ok, record_is us ws a b)) n
    val_is bs (if_val s c v w) l o n k ok =
        with_at (simple (at bs) c) (sending (at bs) c) _ (simple_is bs c o l.0) (val_is bs c l.0 o) (λ m b ob. (ob, val_is bs v l.1.0 o m k ok, val_is bs w l.1.1 o m k ok)) n
    val_is bs (lambda_val s a) l o n k ok = (abs_is bs a l o true (n + 1) (Var n) tt, (ok, tt))

    chan_is : (bs : List (ℕ × Val)) (c : Chan) → ChanIs c → AllFieldsAre bs → Sends (sending_chan (at bs) c)
    chan_is bs (use_chan s x) l o n k ok = (ok, message_of (use_of (at bs) x.0) (use_is bs x.0 o))
    chan_is bs (fold_chan s t v) l o n k ok = whole_is (simple (at bs) v) k s (sending (at bs) v k) n (simple_is bs v o l) ok (val_is bs v l o n k ok)
    chan_is bs (block_chan s ds v) l o n k ok = decs_are bs ds l.0 o _ (λ m cs p. val_is cs v l.1 p m k ok) n
    chan_is bs (apply_chan s f a) l o n k ok =
        with_at (simple (at bs) f) (sending (at bs) f) _ (simple_is bs f o l.0) (val_is bs f l.0 o)
        (λ m g og. each_are bs a l.1 o _ (λ i us ws p q. (og, record_is (us ++ k ∷ []) ws (all_more us k p ok) q)) m) n
    chan_is bs (right_chan s f vs) l o n k ok = (right_is (use_of (at bs) f.name.0) s (arguments (at bs) vs) (use_is bs f.name.0 o) (arguments_are bs vs l o)).sends n k ok
    chan_is bs (left_chan s f vs) l o n k ok = (left_is (use_of (at bs) f.name.0) s (arguments (at bs) vs) (use_is bs f.name.0 o) (arguments_are bs vs l o)).sends n k ok

    arguments_are : (bs : List (ℕ × Val)) (vs : Vals) → ValsAre vs → AllFieldsAre bs → AreArguments (arguments (at bs) vs)
    arguments_are bs no_vals l o = tt
    arguments_are bs (more_vals vs v) l o = one_more_argument (arguments (at bs) vs) _ (arguments_are bs vs l.0 o) (record { value = simple_is bs v o l.1; sends = val_is bs v l.1 o })

    each_are : (bs : List (ℕ × Val)) (f : FieldVals) → FieldsAre f → AllFieldsAre bs → (E : List Val → List (ℕ × Val) → Placed)
        → ((n : ℕ) (us : List Val) (ws : List (ℕ × Val)) → AllAre us → AllFieldsAre ws → IsMachineProcess (E us ws n)) → (n : ℕ) → IsMachineProcess (with_fields (at bs) f E n)
    each_are bs (field_vals ts vs ls) l o E h n = withs_are bs vs l.0 o _ (λ m us a. labelled_are bs ls l.1 o _ (λ i ws b. h i us ws a b) m) n

    withs_are : (bs : List (ℕ × Val)) (vs : Vals) → ValsAre vs → AllFieldsAre bs → (E : List Val → Placed)
        → ((n : ℕ) (us : List Val) → AllAre us → IsMachineProcess (E us n)) → (n : ℕ) → IsMachineProcess (with_vals (at bs) vs E n)
    withs_are bs no_vals l o E h n = h n [] tt
    withs_are bs (more_vals vs v) l o E h n =
        withs_are bs vs l.0 o _ (λ m us a.
        with_at (simple (at bs) v) (sending (at bs) v) _ (simple_is bs v o l.1) (val_is bs v l.1 o) (λ i u ou. h i (us ++ u ∷ []) (all_more us u a ou)) m) n

    labelled_are : (bs : List (ℕ × Val)) (ls : LabelledVals) → LabelledAre ls → AllFieldsAre bs → (E : List (ℕ × Val) → Placed)
        → ((n : ℕ) (ws : List (ℕ × Val)) → AllFieldsAre ws → IsMachineProcess (E ws n)) → (n : ℕ) → IsMachineProcess (with_labelled (at bs) ls E n)
    labelled_are bs no_labelled_vals l o E h n = h n [] tt
    labelled_are bs (more_labelled_vals ls x v) l o E h n =
        labelled_are bs ls l.0 o _ (λ m ws a.
        with_at (simple (at bs) v) (sending (at bs) v) _ (simple_is bs v o l.1) (val_is bs v l.1 o) (λ i u ou. h i (ws ++ (x.name.0, u) ∷ []) (fields_more ws x.name.0 u a ou)) m) n

    abs_is : (bs : List (ℕ × Val)) (a : Abs) → AbsIs a → AllFieldsAre bs → (replicated : Bool) → Sends (λ x. reader (at bs) a x replicated)
    abs_is bs (process_abs s p q) l o replicated n x ox = (ox, proc_is (binding (pat_names names p) (variables n (binds (pat_core names p))) bs) q l (pat_are n (binds (pat_core names p)) (pat_names names p) bs o) _)
    abs_is bs (function_abs s f t v) l o replicated n x ox =
        (ox, val_is (function_bound f (variables n (binds (function_pat names f))) (at bs)).values v l (function_are n (binds (function_pat names f)) f bs o) _ _ (answer_is n (binds (function_pat names f)) f))

    dec_is : (bs : List (ℕ × Val)) (x : Dec) → DecIs x → AllFieldsAre bs → (rest : Around → Placed) → ((n : ℕ) (cs : List (ℕ × Val)) → AllFieldsAre cs → IsMachineProcess (rest (at cs) n))
        → (n : ℕ) → IsMachineProcess (dec_core (at bs) x rest n)
    dec_is bs (new_dec s x t) l o rest h n = h (n + 1) (binding (x.name.0 ∷ []) (Var n ∷ []) bs) (tt, o)
    dec_is bs (run_dec s p) l o rest h n = (proc_is bs p l o n, h n bs o)
    dec_is bs (let_dec s p v) l o rest h n =
        ((tt, h _ (binding (pat_names names p) (variables (n + 1) (binds (pat_core names p))) bs) (pat_are (n + 1) (binds (pat_core names p)) (pat_names names p) bs o)), val_is bs v l o (n + 1) (Var n) tt)
    dec_is bs (def_dec s ds) l o rest h n =
        channels_are (length (definition_names ds)) _ (λ m xs a.
        let more = binding_are (definition_names ds) xs bs a o in
        served_are _ xs _ m (servers_are (binding (definition_names ds) xs bs) ds l more) a (h m (binding (definition_names ds) xs bs) more)) n
    dec_is bs (alias_dec s x t) l o rest h n = h n bs o
    dec_is bs (operator_dec s x xs t) l o rest h n = h n bs o
    dec_is bs (await_dec s v) l o rest h n = ((tt, h _ bs o), val_is bs v l o (n + 1) (Var n) tt)

    decs_are : (bs : List (ℕ × Val)) (ds : Decs) → DecsAre ds → AllFieldsAre bs → (rest : Around → Placed) → ((n : ℕ) (cs : List (ℕ × Val)) → AllFieldsAre cs → IsMachineProcess (rest (at cs) n))
        → (n : ℕ) → IsMachineProcess (decs_core (at bs) ds rest n)
    decs_are bs no_decs l o rest h n = h n bs o
    decs_are bs (more_decs ds x) l o rest h n = decs_are bs ds l.0 o _ (λ m cs p. dec_is cs x l.1 p rest h m) n

    servers_are : (bs : List (ℕ × Val)) (ds : Definitions) → DefinitionsAre ds → AllFieldsAre bs → AllServe (servers (at bs) ds)
    servers_are bs no_definitions l o = tt
    servers_are bs (more_definitions ds x a) l o = one_more_serves (servers (at bs) ds) _ (servers_are bs ds l.0 o) (abs_is bs a l.1 o true)

    proc_is : (bs : List (ℕ × Val)) (p : Proc) → ProcIs p → AllFieldsAre bs → (n : ℕ) → IsMachineProcess (proc_core (at bs) p n)
    proc_is bs (send_proc s c v) l o n =
        with_at (simple_chan (at bs) c) (sending_chan (at bs) c) _ (simple_chan_is bs c o l.0) (chan_is bs c l.0 o) (λ m x ox.
        with_at (simple (at bs) v) (sending (at bs) v) _ (simple_is bs v o l.1) (val_is bs v l.1 o) (λ i y oy. (ox, message_of y oy)) m) n
    proc_is bs (receive_proc s c a) l o n = with_at (simple_chan (at bs) c) (sending_chan (at bs) c) _ (simple_chan_is bs c o l.0) (chan_is bs c l.0 o) (abs_is bs a l.1 o false) n
    proc_is bs (serve_proc s c a) l o n = with_at (simple_chan (at bs) c) (sending_chan (at bs) c) _ (simple_chan_is bs c o l.0) (chan_is bs c l.0 o) (abs_is bs a l.1 o true) n
    proc_is bs (if_proc s c p q) l o n =
        with_at (simple (at bs) c) (sending (at bs) c) _ (simple_is bs c o l.0) (val_is bs c l.0 o) (λ m b ob. (ob, proc_is bs p l.1.0 o m, proc_is bs q l.1.1 o m)) n
    proc_is bs (inert_proc s) l o n = tt
    proc_is bs (group_proc s ds ps) l o n = decs_are bs ds l.0 o _ (λ m cs p. side_are (procs_core (at cs) ps) (procs_are cs ps l.1 p) m) n

    procs_are : (bs : List (ℕ × Val)) (ps : Procs) → ProcsAre ps → AllFieldsAre bs → AllProcesses (procs_core (at bs) ps)
    procs_are bs no_procs l o = tt
    procs_are bs (more_procs ps p) l o = one_more_process (procs_core (at bs) ps) (proc_core (at bs) p) (procs_are bs ps l.0 o) (proc_is bs p l.1 o)

  pub program_is : (ds : Decs) → DecsAre ds → IsMachineProcess (program_core names ds)
  program_is ds l = decs_are [] ds l tt _ (λ n cs o. tt) 0
