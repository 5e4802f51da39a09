-- The values of a translated program have their labels in order, where these are names and identifiers and none stands twice.
use Rattle.std.proofs.Common.{ℕ, zero, suc, ◌+◌, Bool, true, false, List, [], ◌∷◌, ◌++◌, length, drop, get_or, nat_eq, Option, Some, None, option_map, option_and_then, unwrap_or, if◌then◌else◌}
use Rattle.pict_syntax.specs.declared.id.Id.{Id}
use Rattle.pict_syntax.specs.declared.span.Span.{Span}
use Rattle.pict_syntax.specs.declared.primitive.Primitive.{Primitive}
use Rattle.pict_syntax.specs.Names.{text_of, HasNoRepeats}
use Rattle.pict_syntax.specs.Trees as tree
use Rattle.pict_syntax.specs.Trees.{FieldPats, Dec, new_dec, run_dec, let_dec, def_dec, alias_dec, operator_dec, await_dec, Decs, no_decs, more_decs, Definitions, no_definitions, more_definitions, Abs, process_abs, function_abs, Chan, use_chan, fold_chan, block_chan, apply_chan, right_chan, left_chan, of_chan, number_val, character_val, string_val, true_val, false_val, fields_val, if_val, lambda_val, Vals, no_vals, more_vals, FieldVals, field_vals, LabelledVals, no_labelled_vals, more_labelled_vals, Proc, send_proc, receive_proc, serve_proc, if_proc, inert_proc, group_proc, Procs, no_procs, more_procs}
use Rattle.pict_core.specs.Term as core
use Rattle.pict_core.specs.Term.{Val, Var}
use Rattle.pict_core.specs.Closed.{binds}
use Rattle.pict_scope.specs.PrimitiveNames.{primitive_named}
use Rattle.pict_scope.specs.DistinctLabels.{IsNewValue, DecHasDistinctLabels, DecsHaveDistinctLabels, DefinitionsHaveDistinctLabels, AbsHasDistinctLabels, ChanHasDistinctLabels, ValHasDistinctLabels, ValsHaveDistinctLabels, FieldValsHaveDistinctLabels, LabelledValsAreDistinct, ProcHasDistinctLabels, ProcsHaveDistinctLabels}
use Rattle.pict_translation.specs.Placed.{Placed, new_channels, side_by_side, served, variables}
use Rattle.pict_translation.specs.Arguments.{Argument, with_value, sent_as_one, application, right, left_after, left}
use Rattle.pict_translation.specs.Patterns.{pat_core, function_pat, pat_names, names_before, names_after}
use Rattle.pict_translation.specs.Simple.{Around, value_at, binding, function_bound, answer_channel, or_primitive, use_of, nothing, record_of_fields, one_more, simple, simple_chan, simple_fields, simple_vals, simple_labelled}
use Rattle.pict_translation.specs.Translation.{program_core, definition_names, sending, sending_chan, decs_core, dec_core, proc_core, procs_core, reader, with_fields, arguments, with_vals, with_labelled, servers}
use Rattle.pict_trace.specs.Ordered.{IsOrdered, IsOrderedProcess}
use Rattle.pict_front.proofs.Labelled.{DecLabels, DecsLabels, DefinitionsLabels, AbsLabels, ChanLabels, ValLabels, ValsLabels, FieldLabels, LabelledLabels, ProcLabels, ProcsLabels}
use Rattle.pict_front.proofs.Rising.{IsLabel, AllOrdered, FieldsOrdered, Apart, AreApart, record_ordered, all_ordered_more, fields_hold_more, apart_more, are_apart_more}

module _ (names : List (List ℕ)) (distinct : HasNoRepeats names) where
  -- what is known at a place where these values are bound
  abbrev at : List (ℕ × Val) → Around
  at bs = record { names = names; values = bs }

  -- with a value whose labels are in order, the process has its labels in order
  abbrev Sends : (Val → Placed) → Type 0
  Sends f = (n : ℕ) (k : Val) → IsOrdered names k → IsOrderedProcess names (f k n)

  abbrev SomeOrdered : Option Val → Type 0
  SomeOrdered None = Unit {0}
  SomeOrdered (Some u) = IsOrdered names u

  abbrev ValuesOrdered : List (ℕ × Val) → Type 0
  ValuesOrdered [] = Unit {0}
  ValuesOrdered (b ∷ bs) = IsOrdered names b.1 × ValuesOrdered bs

  binding_ordered : (ns : List ℕ) (vs : List Val) (bs : List (ℕ × Val)) → AllOrdered names vs → ValuesOrdered bs → ValuesOrdered (binding ns vs bs)
  binding_ordered [] vs bs o p = p
  binding_ordered (x ∷ ns) [] bs o p = p
  binding_ordered (x ∷ ns) (v ∷ vs) bs o p = binding_ordered ns vs ((x, v) ∷ bs) o.1 (o.0, p)

  drop_ordered : (k : ℕ) (vs : List Val) → AllOrdered names vs → AllOrdered names (drop k vs)
  drop_ordered zero vs o = o
  drop_ordered (suc k) [] o = tt
  drop_ordered (suc k) (v ∷ vs) o = drop_ordered k vs o.1

  get_ordered : (k : ℕ) (vs : List Val) → AllOrdered names vs → IsOrdered names (get_or vs k nothing)
  get_ordered k [] o = tt
  get_ordered zero (v ∷ vs) o = o.0
  get_ordered (suc k) (v ∷ vs) o = get_ordered k vs o.1

  variables_ordered : (d n : ℕ) → AllOrdered names (variables d n)
  variables_ordered d zero = tt
  variables_ordered d (suc n) = (tt, variables_ordered (d + 1) n)

  choose : (b : Bool) (x y : Option Val) → SomeOrdered x → SomeOrdered y → SomeOrdered (if b then x else y)
  choose true x y p q = p
  choose false x y p q = q

  at_ordered : (bs : List (ℕ × Val)) (x : ℕ) → ValuesOrdered bs → SomeOrdered (value_at bs x)
  at_ordered [] x o = tt
  at_ordered (b ∷ bs) x o = choose (nat_eq x b.0) (Some b.1) (value_at bs x) o.0 (at_ordered bs x o.1)

  named_ordered : (p : Option Primitive) → IsOrdered names (unwrap_or (option_map core.PrimitiveVal p) nothing)
  named_ordered None = tt
  named_ordered (Some p) = tt

  or_ordered : (text : List ℕ) (v : Option Val) → SomeOrdered v → IsOrdered names (or_primitive text v)
  or_ordered text (Some v) o = o
  or_ordered text None o = named_ordered (primitive_named text)

  use_ordered : (bs : List (ℕ × Val)) (x : ℕ) → ValuesOrdered bs → IsOrdered names (use_of (at bs) x)
  use_ordered bs x o = or_ordered (text_of names x) (value_at bs x) (at_ordered bs x o)

  with_at : (s : Option Val) (sent E : Val → Placed) → SomeOrdered s → Sends sent → Sends E → (n : ℕ) → IsOrderedProcess names (with_value s sent E n)
  with_at (Some u) sent E o sending rest n = rest n u o
  with_at None sent E o sending rest n = ((tt, rest (n + 1 + 1) (Var (n + 1)) tt), sending (n + 1) (Var n) tt)

  -- ---- simple values

  -- these are labelled fields of the tree: their labels are identifiers, and the same
  record AreFields (ls : LabelledVals) (ws : List (ℕ × Val)) : Type 0 where
    ordered : FieldsOrdered names ws
    apart : AreApart ws
    fresh : (m : ℕ) → IsNewValue m ls → Apart m ws

  no_fields : AreFields no_labelled_vals []
  no_fields = record { ordered = tt; apart = tt; fresh = λ m new. tt }

  more_fields : (ls : LabelledVals) (ws : List (ℕ × Val)) (l : Id) (v : tree.Val) (u : Val) → AreFields ls ws → IsLabel names l.name.0 → IsNewValue l.name.0 ls → IsOrdered names u → AreFields (more_labelled_vals ls l v) (ws ++ (l.name.0, u) ∷ [])
  more_fields ls ws l v u are is new o = record {
    ordered = fields_hold_more names (IsOrdered names) ws l.name.0 u are.ordered is o;
    apart = are_apart_more ws l.name.0 u are.apart (are.fresh l.name.0 new);
    fresh = λ m other. apart_more m ws l.name.0 u (are.fresh m other.0) other.1;
  }

  abbrev AllSome : Option (List Val) → Type 0
  AllSome None = Unit {0}
  AllSome (Some vs) = AllOrdered names vs

  abbrev SomeFields : LabelledVals → Option (List (ℕ × Val)) → Type 0
  SomeFields ls None = Unit {0}
  SomeFields ls (Some ws) = AreFields ls ws

  all_some_more : (vs : Option (List Val)) (v : Option Val) → AllSome vs → SomeOrdered v → AllSome (one_more vs v)
  all_some_more (Some vs) (Some v) o one = all_ordered_more names vs v o one
  all_some_more (Some vs) None o one = tt
  all_some_more None v o one = tt

  some_fields_more : (ls : LabelledVals) (ws : Option (List (ℕ × Val))) (l : Id) (v : tree.Val) (u : Option Val) → SomeFields ls ws → IsLabel names l.name.0 → IsNewValue l.name.0 ls → SomeOrdered u → SomeFields (more_labelled_vals ls l v) (one_more ws (option_map (λ u. (l.name.0, u)) u))
  some_fields_more ls (Some ws) l v (Some u) are is new o = more_fields ls ws l v u are is new o
  some_fields_more ls (Some ws) l v None are is new o = tt
  some_fields_more ls None l v u are is new o = tt

  record_some : (bs : List (ℕ × Val)) (ls : LabelledVals) (vs : Option (List Val)) (ws : Option (List (ℕ × Val))) → AllSome vs → SomeFields ls ws → SomeOrdered (option_and_then (λ us. option_map (record_of_fields (at bs) us) ws) vs)
  record_some bs ls (Some vs) (Some ws) o are = record_ordered names distinct vs ws o are.ordered are.apart
  record_some bs ls (Some vs) None o are = tt
  record_some bs ls None ws o are = tt

  mutual
    unfolding simple simple_chan simple_fields simple_vals simple_labelled

    simple_ordered : (bs : List (ℕ × Val)) (v : tree.Val) → ValuesOrdered bs → ValLabels (IsLabel names) v → ValHasDistinctLabels v → SomeOrdered (simple (at bs) v)
    simple_ordered bs (of_chan c) o l d = simple_chan_ordered bs c o l d
    simple_ordered bs (number_val s i) o l d = tt
    simple_ordered bs (character_val s b) o l d = tt
    simple_ordered bs (string_val s b) o l d = tt
    simple_ordered bs (true_val s) o l d = tt
    simple_ordered bs (false_val s) o l d = tt
    simple_ordered bs (fields_val s f) o l d = simple_fields_ordered bs f o l d
    simple_ordered bs (if_val s c v w) o l d = tt
    simple_ordered bs (lambda_val s a) o l d = tt

    simple_chan_ordered : (bs : List (ℕ × Val)) (c : Chan) → ValuesOrdered bs → ChanLabels (IsLabel names) c → ChanHasDistinctLabels c → SomeOrdered (simple_chan (at bs) c)
    simple_chan_ordered bs (use_chan s x) o l d = use_ordered bs x.0 o
    simple_chan_ordered bs (fold_chan s t v) o l d = simple_ordered bs v o l d.1
    simple_chan_ordered bs (block_chan s ds v) o l d = tt
    simple_chan_ordered bs (apply_chan s f a) o l d = tt
    simple_chan_ordered bs (right_chan s f vs) o l d = tt
    simple_chan_ordered bs (left_chan s f vs) o l d = tt

    simple_fields_ordered : (bs : List (ℕ × Val)) (f : FieldVals) → ValuesOrdered bs → FieldLabels (IsLabel names) f → FieldValsHaveDistinctLabels f → SomeOrdered (simple_fields (at bs) f)
    simple_fields_ordered bs (field_vals ts vs ls) o l d = record_some bs ls (simple_vals (at bs) vs) (simple_labelled (at bs) ls) (simple_vals_ordered bs vs o l.0 d.1.0) (simple_labelled_ordered bs ls o l.1 d.1.1)

    simple_vals_ordered : (bs : List (ℕ × Val)) (vs : Vals) → ValuesOrdered bs → ValsLabels (IsLabel names) vs → ValsHaveDistinctLabels vs → AllSome (simple_vals (at bs) vs)
    simple_vals_ordered bs no_vals o l d = tt
    simple_vals_ordered bs (more_vals vs v) o l d = all_some_more (simple_vals (at bs) vs) (simple (at bs) v) (simple_vals_ordered bs vs o l.0 d.0) (simple_ordered bs v o l.1 d.1)

    simple_labelled_ordered : (bs : List (ℕ × Val)) (ls : LabelledVals) → ValuesOrdered bs → LabelledLabels (IsLabel names) ls → LabelledValsAreDistinct ls → SomeFields ls (simple_labelled (at bs) ls)
    simple_labelled_ordered bs no_labelled_vals o l d = no_fields
    simple_labelled_ordered bs (more_labelled_vals ls x v) o l d =
        some_fields_more ls (simple_labelled (at bs) ls) x v (simple (at bs) v) (simple_labelled_ordered bs ls o l.0 d.0) l.1.0 d.1.0 (simple_ordered bs v o l.1.1 d.1.1)

  -- ---- nested applications

  record IsArgument (a : Argument) : Type 0 where
    value : SomeOrdered a.simple
    sends : Sends a.sent

  abbrev AreArguments : List Argument → Type 0
  AreArguments [] = Unit {0}
  AreArguments (a ∷ rest) = IsArgument a × AreArguments rest

  one_more_argument : (xs : List Argument) (a : Argument) → AreArguments xs → IsArgument a → AreArguments (xs ++ a ∷ [])
  one_more_argument [] a o one = (one, tt)
  one_more_argument (b ∷ xs) a o one = (o.0, one_more_argument xs a o.1 one)

  application_ordered : (f : Val) (s : Span) (a b : Argument) → IsOrdered names f → IsArgument a → IsArgument b → IsArgument (application f s a b)
  application_ordered f s a b of x y = record {
    value = tt;
    sends = λ n k ok. with_at a.simple a.sent _ x.value x.sends (λ m u ou. with_at b.simple b.sent _ y.value y.sends (λ i w ow. (of, ((ou, (ow, (ok, tt))), tt))) m) n;
  }

  right_ordered : (f : Val) (s : Span) (xs : List Argument) → IsOrdered names f → AreArguments xs → IsArgument (right f s xs)
  right_ordered f s [] of o = record { value = tt; sends = λ n k ok. (ok, tt) }
  right_ordered f s (a ∷ []) of o = o.0
  right_ordered f s (a ∷ b ∷ xs) of o = application_ordered f s a (right f s (b ∷ xs)) of o.0 (right_ordered f s (b ∷ xs) of o.1)

  left_after_ordered : (f : Val) (s : Span) (a : Argument) (xs : List Argument) → IsOrdered names f → IsArgument a → AreArguments xs → IsArgument (left_after f s a xs)
  left_after_ordered f s a [] of one o = one
  left_after_ordered f s a (b ∷ xs) of one o = left_after_ordered f s (application f s a b) xs of (application_ordered f s a b of one o.0) o.1

  left_ordered : (f : Val) (s : Span) (xs : List Argument) → IsOrdered names f → AreArguments xs → IsArgument (left f s xs)
  left_ordered f s [] of o = record { value = tt; sends = λ n k ok. (ok, tt) }
  left_ordered f s (a ∷ xs) of o = left_after_ordered f s a xs of o.0 o.1

  -- ---- lists of processes and of servers

  abbrev AllProcesses : List Placed → Type 0
  AllProcesses [] = Unit {0}
  AllProcesses (p ∷ ps) = ((n : ℕ) → IsOrderedProcess names (p n)) × AllProcesses ps

  one_more_process : (ps : List Placed) (p : Placed) → AllProcesses ps → ((n : ℕ) → IsOrderedProcess names (p n)) → AllProcesses (ps ++ p ∷ [])
  one_more_process [] p o one = (one, tt)
  one_more_process (q ∷ ps) p o one = (o.0, one_more_process ps p o.1 one)

  side_ordered : (ps : List Placed) → AllProcesses ps → (n : ℕ) → IsOrderedProcess names (side_by_side ps n)
  side_ordered [] o n = tt
  side_ordered (p ∷ []) o n = o.0 n
  side_ordered (p ∷ q ∷ ps) o n = (o.0 n, side_ordered (q ∷ ps) o.1 n)

  abbrev AllServe : List (Val → Placed) → Type 0
  AllServe [] = Unit {0}
  AllServe (s ∷ ss) = Sends s × AllServe ss

  one_more_serves : (ss : List (Val → Placed)) (s : Val → Placed) → AllServe ss → Sends s → AllServe (ss ++ s ∷ [])
  one_more_serves [] s o one = (one, tt)
  one_more_serves (r ∷ ss) s o one = (o.0, one_more_serves ss s o.1 one)

  served_ordered : (ss : List (Val → Placed)) (xs : List Val) (rest : Placed) (n : ℕ) → AllServe ss → AllOrdered names xs → IsOrderedProcess names (rest n) → IsOrderedProcess names (served ss xs rest n)
  served_ordered [] xs rest n o a r = r
  served_ordered (s ∷ ss) [] rest n o a r = r
  served_ordered (s ∷ ss) (x ∷ xs) rest n o a r = (o.0 n x a.0, served_ordered ss xs rest n o.1 a.1 r)

  channels_ordered : (k : ℕ) (f : List Val → Placed) → ((n : ℕ) (xs : List Val) → AllOrdered names xs → IsOrderedProcess names (f xs n)) → (n : ℕ) → IsOrderedProcess names (new_channels k f n)
  channels_ordered zero f h n = h n [] tt
  channels_ordered (suc k) f h n = channels_ordered k (λ xs. f (Var n ∷ xs)) (λ m xs o. h m (Var n ∷ xs) (tt, o)) (n + 1)

  -- what a pattern binds
  pat_ordered : (d n : ℕ) (ns : List ℕ) (bs : List (ℕ × Val)) → ValuesOrdered bs → ValuesOrdered (binding ns (variables d n) bs)
  pat_ordered d n ns bs o = binding_ordered ns (variables d n) bs (variables_ordered d n) o

  function_ordered : (d n : ℕ) (f : FieldPats) (bs : List (ℕ × Val)) → ValuesOrdered bs → ValuesOrdered (function_bound f (variables d n) (at bs)).values
  function_ordered d n f bs o =
      binding_ordered (names_after names f) (drop (length (names_before names f) + 1) (variables d n)) (binding (names_before names f) (variables d n) bs)
      (drop_ordered (length (names_before names f) + 1) (variables d n) (variables_ordered d n)) (pat_ordered d n (names_before names f) bs o)

  answer_ordered : (d n : ℕ) (f : FieldPats) → IsOrdered names (answer_channel names f (variables d n))
  answer_ordered d n f = get_ordered (length (names_before names f)) (variables d n) (variables_ordered d n)

  whole_ordered : (v : Option Val) (k : Val) (s : Span) (p : Placed) (n : ℕ) → SomeOrdered v → IsOrdered names k → IsOrderedProcess names (p n) → IsOrderedProcess names (sent_as_one v k s p n)
  whole_ordered (Some u) k s p n o ok h = (ok, o)
  whole_ordered None k s p n o ok h = h

  mutual
    unfolding sending sending_chan decs_core dec_core proc_core procs_core reader with_fields arguments with_vals with_labelled servers

    val_ordered : (bs : List (ℕ × Val)) (v : tree.Val) → ValLabels (IsLabel names) v → ValHasDistinctLabels v → ValuesOrdered bs → Sends (sending (at bs) v)
    val_ordered bs (of_chan c) l d o n k ok = chan_ordered bs c l d o n k ok
    val_ordered bs (number_val s i) l d o n k ok = (ok, tt)
    val_ordered bs (character_val s b) l d o n k ok = (ok, tt)
    val_ordered bs (string_val s b) l d o n k ok = (ok, tt)
    val_ordered bs (true_val s) l d o n k ok = (ok, tt)
    val_ordered bs (false_val s) l d o n k ok = (ok, tt)
    val_ordered bs (fields_val s f) l d o n k ok = fields_ordered bs f l d o _ (λ m us ws a b c. (ok, record_ordered names distinct us ws a b c)) n
    val_ordered bs (if_val s c v w) l d o n k ok =
        with_at (simple (at bs) c) (sending (at bs) c) _ (simple_ordered bs c o l.0 d.0) (val_ordered bs c l.0 d.0 o)
        (λ m b ob. (ob, val_ordered bs v l.1.0 d.1.0 o m k ok, val_ordered bs w l.1.1 d.1.1 o m k ok)) n
    val_ordered bs (lambda_val s a) l d o n k ok = (abs_ordered bs a l d o true (n + 1) (Var n) tt, (ok, tt))

    chan_ordered : (bs : List (ℕ × Val)) (c : Chan) → ChanLabels (IsLabel names) c → ChanHasDistinctLabels c → ValuesOrdered bs → Sends (sending_chan (at bs) c)
    chan_ordered bs (use_chan s x) l d o n k ok = (ok, use_ordered bs x.0 o)
    chan_ordered bs (fold_chan s t v) l d o n k ok = whole_ordered (simple (at bs) v) k s (sending (at bs) v k) n (simple_ordered bs v o l d.1) ok (val_ordered bs v l d.1 o n k ok)
    chan_ordered bs (block_chan s ds v) l d o n k ok = decs_ordered bs ds l.0 d.0 o _ (λ m cs p. val_ordered cs v l.1 d.1 p m k ok) n
    chan_ordered bs (apply_chan s f a) l d o n k ok =
        with_at (simple (at bs) f) (sending (at bs) f) _ (simple_ordered bs f o l.0 d.0) (val_ordered bs f l.0 d.0 o)
        (λ m g og. fields_ordered bs a l.1 d.1 o _ (λ i us ws p q r. (og, record_ordered names distinct (us ++ k ∷ []) ws (all_ordered_more names us k p ok) q r)) m) n
    chan_ordered bs (right_chan s f vs) l d o n k ok = (right_ordered (use_of (at bs) f.name.0) s (arguments (at bs) vs) (use_ordered bs f.name.0 o) (arguments_ordered bs vs l d o)).sends n k ok
    chan_ordered bs (left_chan s f vs) l d o n k ok = (left_ordered (use_of (at bs) f.name.0) s (arguments (at bs) vs) (use_ordered bs f.name.0 o) (arguments_ordered bs vs l d o)).sends n k ok

    arguments_ordered : (bs : List (ℕ × Val)) (vs : Vals) → ValsLabels (IsLabel names) vs → ValsHaveDistinctLabels vs → ValuesOrdered bs → AreArguments (arguments (at bs) vs)
    arguments_ordered bs no_vals l d o = tt
    arguments_ordered bs (more_vals vs v) l d o = one_more_argument (arguments (at bs) vs) _ (arguments_ordered bs vs l.0 d.0 o) (record { value = simple_ordered bs v o l.1 d.1; sends = val_ordered bs v l.1 d.1 o })

    fields_ordered : (bs : List (ℕ × Val)) (f : FieldVals) → FieldLabels (IsLabel names) f → FieldValsHaveDistinctLabels f → ValuesOrdered bs → (E : List Val → List (ℕ × Val) → Placed)
        → ((n : ℕ) (us : List Val) (ws : List (ℕ × Val)) → AllOrdered names us → FieldsOrdered names ws → AreApart ws → IsOrderedProcess names (E us ws n)) → (n : ℕ) → IsOrderedProcess names (with_fields (at bs) f E n)
    fields_ordered bs (field_vals ts vs ls) l d o E h n = withs_ordered bs vs l.0 d.1.0 o _ (λ m us a. labelled_ordered bs ls l.1 d.1.1 o _ (λ i ws are. h i us ws a are.ordered are.apart) m) n

    withs_ordered : (bs : List (ℕ × Val)) (vs : Vals) → ValsLabels (IsLabel names) vs → ValsHaveDistinctLabels vs → ValuesOrdered bs → (E : List Val → Placed)
        → ((n : ℕ) (us : List Val) → AllOrdered names us → IsOrderedProcess names (E us n)) → (n : ℕ) → IsOrderedProcess names (with_vals (at bs) vs E n)
    withs_ordered bs no_vals l d o E h n = h n [] tt
    withs_ordered bs (more_vals vs v) l d o E h n =
        withs_ordered bs vs l.0 d.0 o _ (λ m us a.
        with_at (simple (at bs) v) (sending (at bs) v) _ (simple_ordered bs v o l.1 d.1) (val_ordered bs v l.1 d.1 o) (λ i u ou. h i (us ++ u ∷ []) (all_ordered_more names us u a ou)) m) n

    labelled_ordered : (bs : List (ℕ × Val)) (ls : LabelledVals) → LabelledLabels (IsLabel names) ls → LabelledValsAreDistinct ls → ValuesOrdered bs → (E : List (ℕ × Val) → Placed)
        → ((n : ℕ) (ws : List (ℕ × Val)) → AreFields ls ws → IsOrderedProcess names (E ws n)) → (n : ℕ) → IsOrderedProcess names (with_labelled (at bs) ls E n)
    labelled_ordered bs no_labelled_vals l d o E h n = h n [] no_fields
    labelled_ordered bs (more_labelled_vals ls x v) l d o E h n =
        labelled_ordered bs ls l.0 d.0 o _ (λ m ws are.
        with_at (simple (at bs) v) (sending (at bs) v) _ (simple_ordered bs v o l.1.1 d.1.1) (val_ordered bs v l.1.1 d.1.1 o)
        (λ i u ou. h i (ws ++ (x.name.0, u) ∷ []) (more_fields ls ws x v u are l.1.0 d.1.0 ou)) m) n

    abs_ordered : (bs : List (ℕ × Val)) (a : Abs) → AbsLabels (IsLabel names) a → AbsHasDistinctLabels a → ValuesOrdered bs → (replicated : Bool) → Sends (λ x. reader (at bs) a x replicated)
    abs_ordered bs (process_abs s p q) l d o replicated n x ox = (ox, proc_ordered (binding (pat_names names p) (variables n (binds (pat_core names p))) bs) q l.1 d.1 (pat_ordered n (binds (pat_core names p)) (pat_names names p) bs o) _)
    abs_ordered bs (function_abs s f t v) l d o replicated n x ox =
        (ox, val_ordered (function_bound f (variables n (binds (function_pat names f))) (at bs)).values v l.1 d.1.1 (function_ordered n (binds (function_pat names f)) f bs o) _ _ (answer_ordered n (binds (function_pat names f)) f))

    dec_ordered : (bs : List (ℕ × Val)) (x : Dec) → DecLabels (IsLabel names) x → DecHasDistinctLabels x → ValuesOrdered bs → (rest : Around → Placed)
        → ((n : ℕ) (cs : List (ℕ × Val)) → ValuesOrdered cs → IsOrderedProcess names (rest (at cs) n)) → (n : ℕ) → IsOrderedProcess names (dec_core (at bs) x rest n)
    dec_ordered bs (new_dec s x t) l d o rest h n = h (n + 1) (binding (x.name.0 ∷ []) (Var n ∷ []) bs) (tt, o)
    dec_ordered bs (run_dec s p) l d o rest h n = (proc_ordered bs p l d o n, h n bs o)
    dec_ordered bs (let_dec s p v) l d o rest h n = ((tt, h _ (binding (pat_names names p) (variables (n + 1) (binds (pat_core names p))) bs) (pat_ordered (n + 1) (binds (pat_core names p)) (pat_names names p) bs o)), val_ordered bs v l.1 d.1 o (n + 1) (Var n) tt)
    dec_ordered bs (def_dec s ds) l d o rest h n =
        channels_ordered (length (definition_names ds)) _ (λ m xs a.
        let more = binding_ordered (definition_names ds) xs bs a o in
        served_ordered _ xs _ m (servers_ordered (binding (definition_names ds) xs bs) ds l d more) a (h m (binding (definition_names ds) xs bs) more)) n
    dec_ordered bs (alias_dec s x t) l d o rest h n = h n bs o
    dec_ordered bs (operator_dec s x xs t) l d o rest h n = h n bs o
    dec_ordered bs (await_dec s v) l d o rest h n = ((tt, h _ bs o), val_ordered bs v l d o (n + 1) (Var n) tt)

    decs_ordered : (bs : List (ℕ × Val)) (ds : Decs) → DecsLabels (IsLabel names) ds → DecsHaveDistinctLabels ds → ValuesOrdered bs → (rest : Around → Placed)
        → ((n : ℕ) (cs : List (ℕ × Val)) → ValuesOrdered cs → IsOrderedProcess names (rest (at cs) n)) → (n : ℕ) → IsOrderedProcess names (decs_core (at bs) ds rest n)
    decs_ordered bs no_decs l d o rest h n = h n bs o
    decs_ordered bs (more_decs ds x) l d o rest h n = decs_ordered bs ds l.0 d.0 o _ (λ m cs p. dec_ordered cs x l.1 d.1 p rest h m) n

    servers_ordered : (bs : List (ℕ × Val)) (ds : Definitions) → DefinitionsLabels (IsLabel names) ds → DefinitionsHaveDistinctLabels ds → ValuesOrdered bs → AllServe (servers (at bs) ds)
    servers_ordered bs no_definitions l d o = tt
    servers_ordered bs (more_definitions ds x a) l d o = one_more_serves (servers (at bs) ds) _ (servers_ordered bs ds l.0 d.0 o) (abs_ordered bs a l.1 d.1 o true)

    proc_ordered : (bs : List (ℕ × Val)) (p : Proc) → ProcLabels (IsLabel names) p → ProcHasDistinctLabels p → ValuesOrdered bs → (n : ℕ) → IsOrderedProcess names (proc_core (at bs) p n)
    proc_ordered bs (send_proc s c v) l d o n =
        with_at (simple_chan (at bs) c) (sending_chan (at bs) c) _ (simple_chan_ordered bs c o l.0 d.0) (chan_ordered bs c l.0 d.0 o) (λ m x ox.
        with_at (simple (at bs) v) (sending (at bs) v) _ (simple_ordered bs v o l.1 d.1) (val_ordered bs v l.1 d.1 o) (λ i y oy. (ox, oy)) m) n
    proc_ordered bs (receive_proc s c a) l d o n = with_at (simple_chan (at bs) c) (sending_chan (at bs) c) _ (simple_chan_ordered bs c o l.0 d.0) (chan_ordered bs c l.0 d.0 o) (abs_ordered bs a l.1 d.1 o false) n
    proc_ordered bs (serve_proc s c a) l d o n = with_at (simple_chan (at bs) c) (sending_chan (at bs) c) _ (simple_chan_ordered bs c o l.0 d.0) (chan_ordered bs c l.0 d.0 o) (abs_ordered bs a l.1 d.1 o true) n
    proc_ordered bs (if_proc s c p q) l d o n =
        with_at (simple (at bs) c) (sending (at bs) c) _ (simple_ordered bs c o l.0 d.0) (val_ordered bs c l.0 d.0 o) (λ m b ob. (ob, proc_ordered bs p l.1.0 d.1.0 o m, proc_ordered bs q l.1.1 d.1.1 o m)) n
    proc_ordered bs (inert_proc s) l d o n = tt
    proc_ordered bs (group_proc s ds ps) l d o n = decs_ordered bs ds l.0 d.0 o _ (λ m cs p. side_ordered (procs_core (at cs) ps) (procs_ordered cs ps l.1 d.1 p) m) n

    procs_ordered : (bs : List (ℕ × Val)) (ps : Procs) → ProcsLabels (IsLabel names) ps → ProcsHaveDistinctLabels ps → ValuesOrdered bs → AllProcesses (procs_core (at bs) ps)
    procs_ordered bs no_procs l d o = tt
    procs_ordered bs (more_procs ps p) l d o = one_more_process (procs_core (at bs) ps) (proc_core (at bs) p) (procs_ordered bs ps l.0 d.0 o) (proc_ordered bs p l.1 d.1 o)

  pub program_ordered : (ds : Decs) → DecsLabels (IsLabel names) ds → DecsHaveDistinctLabels ds → IsOrderedProcess names (program_core names ds)
  program_ordered ds l d = decs_ordered [] ds l d tt _ (λ n cs o. tt) 0
