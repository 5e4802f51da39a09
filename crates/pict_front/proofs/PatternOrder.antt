-- The patterns of a translated program have their labels in order, where these are names and identifiers and none stands twice.
use Rattle.std.proofs.Common.{ℕ, zero, suc, ◌+◌, Bool, true, false, List, [], ◌∷◌, ◌++◌, length, refl, Option, Some, None}
use Rattle.std.specs.List.{AllByRecursion}
use Rattle.pict_syntax.specs.declared.id.Id.{Id}
use Rattle.pict_syntax.specs.declared.span.Span.{Span}
use Rattle.pict_syntax.specs.Names.{text_of, HasNoRepeats}
use Rattle.pict_syntax.specs.Labels.{in_label_order}
use Rattle.pict_syntax.specs.Trees as tree
use Rattle.pict_syntax.specs.Trees.{bind_pat, any_pat, fields_pat, fold_pat, FieldPats, field_pats, Pats, no_pats, more_pats, LabelledPats, no_labelled_pats, more_labelled_pats, Dec, new_dec, run_dec, let_dec, def_dec, alias_dec, operator_dec, await_dec, Decs, no_decs, more_decs, Definitions, no_definitions, more_definitions, Abs, process_abs, function_abs, Chan, use_chan, fold_chan, block_chan, apply_chan, right_chan, left_chan, of_chan, number_val, character_val, string_val, true_val, false_val, fields_val, if_val, lambda_val, Vals, no_vals, more_vals, FieldVals, field_vals, LabelledVals, no_labelled_vals, more_labelled_vals, Proc, send_proc, receive_proc, serve_proc, if_proc, inert_proc, group_proc, Procs, no_procs, more_procs}
use Rattle.pict_core.specs.Term as core
use Rattle.pict_core.specs.Term.{Val, Var, Process, Zero, Par, New, Out, In, If}
use Rattle.pict_core.specs.Closed.{binds}
use Rattle.pict_scope.specs.DistinctLabels.{IsNewPattern, PatHasDistinctLabels, FieldPatsHaveDistinctLabels, PatsHaveDistinctLabels, LabelledPatsAreDistinct, DecHasDistinctLabels, DecsHaveDistinctLabels, DefinitionsHaveDistinctLabels, AbsHasDistinctLabels, ChanHasDistinctLabels, ValHasDistinctLabels, ValsHaveDistinctLabels, FieldValsHaveDistinctLabels, LabelledValsAreDistinct, ProcHasDistinctLabels, ProcsHaveDistinctLabels}
use Rattle.pict_translation.specs.Placed.{Placed, new_channels, side_by_side, served, variables}
use Rattle.pict_translation.specs.Arguments.{Argument, with_value, sent_as_one, application, right, left_after, left}
use Rattle.pict_translation.specs.Patterns.{Opened, opened, all_opened, labelled_opened, patterns_in, labelled_patterns_in, record_pat, answer, pat_core, function_pat, pat_names}
use Rattle.pict_translation.specs.Simple.{Around, binding, function_bound, use_of, simple, simple_chan}
use Rattle.pict_translation.specs.Translation.{program_core, definition_names, sending, sending_chan, decs_core, dec_core, proc_core, procs_core, reader, with_fields, arguments, with_vals, with_labelled, servers}
use Rattle.pict_object.specs.Objects.{labels_of_pattern, labels_of_patterns, labels_of_labelled_patterns}
use Rattle.pict_object.specs.Cores.{RiseAfter, Rise, pattern_field_labels, PatternIsRising, PatternsAreRising, PatternFieldsAreRising, IsLabelText, ComesBefore}
use Rattle.pict_object.proofs.Lists.{all_both}
use Rattle.pict_front.proofs.Labelled.{PatLabels, FieldPatLabels, PatsLabels, LabelledPatLabels, DecLabels, DecsLabels, DefinitionsLabels, AbsLabels, ChanLabels, ValLabels, ValsLabels, FieldLabels, LabelledLabels, ProcLabels, ProcsLabels}
use Rattle.pict_front.proofs.Rising.{IsLabel, FieldsHold, Rises, Apart, AreApart, in_order, fields_hold_more, apart_more, are_apart_more}

-- the labels of this list are identifiers
abbrev pub AreIdentifiers : List (List ℕ) → List ℕ → Type 0
AreIdentifiers names labels = AllByRecursion (λ label. IsLabelText (text_of names label)) labels

-- the labels of a pattern are identifiers, and those of each record pattern in order
abbrev pub PatternIsOrdered : List (List ℕ) → core.Pat → Type 0
PatternIsOrdered names p = PatternIsRising (ComesBefore names) p × AreIdentifiers names (labels_of_pattern p)

-- so it is with each pattern of a process
abbrev pub PatternsAreOrdered : List (List ℕ) → Process → Type 0
PatternsAreOrdered names Zero = Unit {0}
PatternsAreOrdered names (Par p q) = PatternsAreOrdered names p × PatternsAreOrdered names q
PatternsAreOrdered names (New p) = PatternsAreOrdered names p
PatternsAreOrdered names (Out chan message at) = Unit {0}
PatternsAreOrdered names (In chan replicated pattern body) = PatternIsOrdered names pattern × PatternsAreOrdered names body
PatternsAreOrdered names (If test p q) = PatternsAreOrdered names p × PatternsAreOrdered names q

module _ (names : List (List ℕ)) (distinct : HasNoRepeats names) where
  -- ---- patterns

  abbrev IsOpened : Opened → Type 0
  IsOpened p = PatternIsOrdered names p.pattern

  abbrev AreOpened : List Opened → Type 0
  AreOpened [] = Unit {0}
  AreOpened (p ∷ ps) = IsOpened p × AreOpened ps

  one_more_opened : (ps : List Opened) (p : Opened) → AreOpened ps → IsOpened p → AreOpened (ps ++ p ∷ [])
  one_more_opened [] p o one = (one, tt)
  one_more_opened (q ∷ ps) p o one = (o.0, one_more_opened ps p o.1 one)

  positional : (ps : List Opened) → AreOpened ps → PatternsAreRising (ComesBefore names) (patterns_in ps) × AreIdentifiers names (labels_of_patterns (patterns_in ps))
  positional [] o = (tt, tt)
  positional (p ∷ ps) o =
      let rest = positional ps o.1 in
      ((o.0.0, rest.0), all_both (λ label. IsLabelText (text_of names label)) (labels_of_pattern p.pattern) (labels_of_patterns (patterns_in ps)) o.0.1 rest.1)

  labelled : (fs : List (ℕ × Opened)) → FieldsHold names IsOpened fs → PatternFieldsAreRising (ComesBefore names) (labelled_patterns_in fs) × AreIdentifiers names (labels_of_labelled_patterns (labelled_patterns_in fs))
  labelled [] o = (tt, tt)
  labelled (f ∷ fs) o =
      let rest = labelled fs o.1 in
      ((o.0.1.0, rest.0), ((refl, o.0.0.1.0, o.0.0.1.1), all_both (λ label. IsLabelText (text_of names label)) (labels_of_pattern f.1.pattern) (labels_of_labelled_patterns (labelled_patterns_in fs)) o.0.1.1 rest.1))

  rise_after : (l : ℕ) (fs : List (ℕ × Opened)) → Rises names (text_of names l) fs → RiseAfter (ComesBefore names) l (pattern_field_labels (labelled_patterns_in fs))
  rise_after l [] r = tt
  rise_after l (f ∷ fs) r = (r.0, rise_after f.0 fs r.1)

  rise : (before : List ℕ) (fs : List (ℕ × Opened)) → Rises names before fs → Rise (ComesBefore names) (pattern_field_labels (labelled_patterns_in fs))
  rise before [] r = tt
  rise before (f ∷ fs) r = rise_after f.0 fs r.1

  record_pat_ordered : (ps : List Opened) (fs : List (ℕ × Opened)) → AreOpened ps → FieldsHold names IsOpened fs → AreApart fs → PatternIsOrdered names (record_pat ps (in_label_order names fs))
  record_pat_ordered ps fs o h apart =
      let sorted = in_order names distinct IsOpened fs h apart in
      let p = positional ps o in
      let l = labelled (in_label_order names fs) sorted.0 in
      ((p.0, l.0, rise [] (in_label_order names fs) sorted.1), all_both (λ label. IsLabelText (text_of names label)) (labels_of_patterns (patterns_in ps)) (labels_of_labelled_patterns (labelled_patterns_in (in_label_order names fs))) p.1 l.1)

  -- these are labelled fields of the tree: their labels are identifiers, and the same
  record AreItems (ls : LabelledPats) (fs : List (ℕ × Opened)) : Type 0 where
    ordered : FieldsHold names IsOpened fs
    apart : AreApart fs
    fresh : (m : ℕ) → IsNewPattern m ls → Apart m fs

  no_items : AreItems no_labelled_pats []
  no_items = record { ordered = tt; apart = tt; fresh = λ m new. tt }

  more_items : (ls : LabelledPats) (fs : List (ℕ × Opened)) (x : Id) (p : tree.Pat) (o : Opened) → AreItems ls fs → IsLabel names x.name.0 → IsNewPattern x.name.0 ls → IsOpened o → AreItems (more_labelled_pats ls x p) (fs ++ (x.name.0, o) ∷ [])
  more_items ls fs x p o are is new one = record {
    ordered = fields_hold_more names IsOpened fs x.name.0 o are.ordered is one;
    apart = are_apart_more fs x.name.0 o are.apart (are.fresh x.name.0 new);
    fresh = λ m other. apart_more m fs x.name.0 o (are.fresh m other.0) other.1;
  }

  mutual
    unfolding opened all_opened labelled_opened

    opened_ordered : (p : tree.Pat) → PatLabels (IsLabel names) p → PatHasDistinctLabels p → PatternIsOrdered names (pat_core names p)
    opened_ordered (bind_pat s x r) l d = (tt, tt)
    opened_ordered (any_pat s r) l d = (tt, tt)
    opened_ordered (fields_pat s (field_pats bs ps ls)) l d =
        let items = labelled_opened_ordered ls l.1 d.1.1 in
        record_pat_ordered (all_opened names ps) (labelled_opened names ls) (all_opened_ordered ps l.0 d.1.0) items.ordered items.apart
    opened_ordered (fold_pat s r p) l d = opened_ordered p l d.1

    all_opened_ordered : (ps : Pats) → PatsLabels (IsLabel names) ps → PatsHaveDistinctLabels ps → AreOpened (all_opened names ps)
    all_opened_ordered no_pats l d = tt
    all_opened_ordered (more_pats ps p) l d = one_more_opened (all_opened names ps) (opened names p) (all_opened_ordered ps l.0 d.0) (opened_ordered p l.1 d.1)

    labelled_opened_ordered : (ls : LabelledPats) → LabelledPatLabels (IsLabel names) ls → LabelledPatsAreDistinct ls → AreItems ls (labelled_opened names ls)
    labelled_opened_ordered no_labelled_pats l d = no_items
    labelled_opened_ordered (more_labelled_pats ls x p) l d =
        more_items ls (labelled_opened names ls) x p (opened names p) (labelled_opened_ordered ls l.0 d.0) l.1.0 d.1.0 (opened_ordered p l.1.1 d.1.1)

  function_ordered : (f : FieldPats) → FieldPatLabels (IsLabel names) f → FieldPatsHaveDistinctLabels f → PatternIsOrdered names (function_pat names f)
  function_ordered (field_pats bs ps ls) l d =
      let items = labelled_opened_ordered ls l.1 d.1.1 in
      record_pat_ordered (all_opened names ps ++ answer ∷ []) (labelled_opened names ls) (one_more_opened (all_opened names ps) answer (all_opened_ordered ps l.0 d.1.0) (tt, tt)) items.ordered items.apart

  -- ---- processes

  abbrev at : List (ℕ × Val) → Around
  at bs = record { names = names; values = bs }

  abbrev AreOrdered : Placed → Type 0
  AreOrdered p = (n : ℕ) → PatternsAreOrdered names (p n)

  abbrev Sends : (Val → Placed) → Type 0
  Sends f = (n : ℕ) (k : Val) → PatternsAreOrdered names (f k n)

  with_at : (s : Option Val) (sent E : Val → Placed) → Sends sent → Sends E → (n : ℕ) → PatternsAreOrdered names (with_value s sent E n)
  with_at (Some u) sent E sending rest n = rest n u
  with_at None sent E sending rest n = (((tt, tt), rest (n + 1 + 1) (Var (n + 1))), sending (n + 1) (Var n))

  abbrev AreArguments : List Argument → Type 0
  AreArguments [] = Unit {0}
  AreArguments (a ∷ rest) = Sends a.sent × AreArguments rest

  one_more_argument : (xs : List Argument) (a : Argument) → AreArguments xs → Sends a.sent → AreArguments (xs ++ a ∷ [])
  one_more_argument [] a o one = (one, tt)
  one_more_argument (b ∷ xs) a o one = (o.0, one_more_argument xs a o.1 one)

  application_ordered : (f : Val) (s : Span) (a b : Argument) → Sends a.sent → Sends b.sent → Sends (application f s a b).sent
  application_ordered f s a b x y n k = with_at a.simple a.sent _ x (λ m u. with_at b.simple b.sent _ y (λ i w. tt) m) n

  right_ordered : (f : Val) (s : Span) (xs : List Argument) → AreArguments xs → Sends (right f s xs).sent
  right_ordered f s [] o n k = tt
  right_ordered f s (a ∷ []) o n k = o.0 n k
  right_ordered f s (a ∷ b ∷ xs) o n k = application_ordered f s a (right f s (b ∷ xs)) o.0 (right_ordered f s (b ∷ xs) o.1) n k

  left_after_ordered : (f : Val) (s : Span) (a : Argument) (xs : List Argument) → Sends a.sent → AreArguments xs → Sends (left_after f s a xs).sent
  left_after_ordered f s a [] one o n k = one n k
  left_after_ordered f s a (b ∷ xs) one o n k = left_after_ordered f s (application f s a b) xs (application_ordered f s a b one o.0) o.1 n k

  left_ordered : (f : Val) (s : Span) (xs : List Argument) → AreArguments xs → Sends (left f s xs).sent
  left_ordered f s [] o n k = tt
  left_ordered f s (a ∷ xs) o n k = left_after_ordered f s a xs o.0 o.1 n k

  abbrev AllProcesses : List Placed → Type 0
  AllProcesses [] = Unit {0}
  AllProcesses (p ∷ ps) = AreOrdered p × AllProcesses ps

  one_more_process : (ps : List Placed) (p : Placed) → AllProcesses ps → AreOrdered p → AllProcesses (ps ++ p ∷ [])
  one_more_process [] p o one = (one, tt)
  one_more_process (q ∷ ps) p o one = (o.0, one_more_process ps p o.1 one)

  side_ordered : (ps : List Placed) → AllProcesses ps → (n : ℕ) → PatternsAreOrdered names (side_by_side ps n)
  side_ordered [] o n = tt
  side_ordered (p ∷ []) o n = o.0 n
  side_ordered (p ∷ q ∷ ps) o n = (o.0 n, side_ordered (q ∷ ps) o.1 n)

  abbrev AllServe : List (Val → Placed) → Type 0
  AllServe [] = Unit {0}
  AllServe (s ∷ ss) = Sends s × AllServe ss

  one_more_serves : (ss : List (Val → Placed)) (s : Val → Placed) → AllServe ss → Sends s → AllServe (ss ++ s ∷ [])
  one_more_serves [] s o one = (one, tt)
  one_more_serves (r ∷ ss) s o one = (o.0, one_more_serves ss s o.1 one)

  served_ordered : (ss : List (Val → Placed)) (xs : List Val) (rest : Placed) (n : ℕ) → AllServe ss → PatternsAreOrdered names (rest n) → PatternsAreOrdered names (served ss xs rest n)
  served_ordered [] xs rest n o r = r
  served_ordered (s ∷ ss) [] rest n o r = r
  served_ordered (s ∷ ss) (x ∷ xs) rest n o r = (o.0 n x, served_ordered ss xs rest n o.1 r)

  channels_ordered : (k : ℕ) (f : List Val → Placed) → ((n : ℕ) (xs : List Val) → PatternsAreOrdered names (f xs n)) → (n : ℕ) → PatternsAreOrdered names (new_channels k f n)
  channels_ordered zero f h n = h n []
  channels_ordered (suc k) f h n = channels_ordered k (λ xs. f (Var n ∷ xs)) (λ m xs. h m (Var n ∷ xs)) (n + 1)

  whole_ordered : (v : Option Val) (k : Val) (s : Span) (p : Placed) (n : ℕ) → PatternsAreOrdered names (p n) → PatternsAreOrdered names (sent_as_one v k s p n)
  whole_ordered (Some u) k s p n h = tt
  whole_ordered None k s p n h = h

  mutual
    unfolding sending sending_chan decs_core dec_core proc_core procs_core reader with_fields arguments with_vals with_labelled servers

    val_ordered : (bs : List (ℕ × Val)) (v : tree.Val) → ValLabels (IsLabel names) v → ValHasDistinctLabels v → Sends (sending (at bs) v)
    val_ordered bs (of_chan c) l d n k = chan_ordered bs c l d n k
    val_ordered bs (number_val s i) l d n k = tt
    val_ordered bs (character_val s b) l d n k = tt
    val_ordered bs (string_val s b) l d n k = tt
    val_ordered bs (true_val s) l d n k = tt
    val_ordered bs (false_val s) l d n k = tt
    val_ordered bs (fields_val s f) l d n k = fields_ordered bs f l d _ (λ m us ws. tt) n
    val_ordered bs (if_val s c v w) l d n k =
        with_at (simple (at bs) c) (sending (at bs) c) _ (val_ordered bs c l.0 d.0) (λ m b. (val_ordered bs v l.1.0 d.1.0 m k, val_ordered bs w l.1.1 d.1.1 m k)) n
    val_ordered bs (lambda_val s a) l d n k = (abs_ordered bs a l d true (n + 1) (Var n), tt)

    chan_ordered : (bs : List (ℕ × Val)) (c : Chan) → ChanLabels (IsLabel names) c → ChanHasDistinctLabels c → Sends (sending_chan (at bs) c)
    chan_ordered bs (use_chan s x) l d n k = tt
    chan_ordered bs (fold_chan s t v) l d n k = whole_ordered (simple (at bs) v) k s (sending (at bs) v k) n (val_ordered bs v l d.1 n k)
    chan_ordered bs (block_chan s ds v) l d n k = decs_ordered bs ds l.0 d.0 _ (λ m cs. val_ordered cs v l.1 d.1 m k) n
    chan_ordered bs (apply_chan s f a) l d n k =
        with_at (simple (at bs) f) (sending (at bs) f) _ (val_ordered bs f l.0 d.0) (λ m g. fields_ordered bs a l.1 d.1 _ (λ i us ws. tt) m) n
    chan_ordered bs (right_chan s f vs) l d n k = right_ordered (use_of (at bs) f.name.0) s (arguments (at bs) vs) (arguments_ordered bs vs l d) n k
    chan_ordered bs (left_chan s f vs) l d n k = left_ordered (use_of (at bs) f.name.0) s (arguments (at bs) vs) (arguments_ordered bs vs l d) n k

    arguments_ordered : (bs : List (ℕ × Val)) (vs : Vals) → ValsLabels (IsLabel names) vs → ValsHaveDistinctLabels vs → AreArguments (arguments (at bs) vs)
    arguments_ordered bs no_vals l d = tt
    arguments_ordered bs (more_vals vs v) l d = one_more_argument (arguments (at bs) vs) _ (arguments_ordered bs vs l.0 d.0) (val_ordered bs v l.1 d.1)

    fields_ordered : (bs : List (ℕ × Val)) (f : FieldVals) → FieldLabels (IsLabel names) f → FieldValsHaveDistinctLabels f → (E : List Val → List (ℕ × Val) → Placed)
        → ((n : ℕ) (us : List Val) (ws : List (ℕ × Val)) → PatternsAreOrdered names (E us ws n)) → (n : ℕ) → PatternsAreOrdered names (with_fields (at bs) f E n)
    fields_ordered bs (field_vals ts vs ls) l d E h n = withs_ordered bs vs l.0 d.1.0 _ (λ m us. labelled_ordered bs ls l.1 d.1.1 _ (λ i ws. h i us ws) m) n

    withs_ordered : (bs : List (ℕ × Val)) (vs : Vals) → ValsLabels (IsLabel names) vs → ValsHaveDistinctLabels vs → (E : List Val → Placed)
        → ((n : ℕ) (us : List Val) → PatternsAreOrdered names (E us n)) → (n : ℕ) → PatternsAreOrdered names (with_vals (at bs) vs E n)
    withs_ordered bs no_vals l d E h n = h n []
    withs_ordered bs (more_vals vs v) l d E h n =
        withs_ordered bs vs l.0 d.0 _ (λ m us. with_at (simple (at bs) v) (sending (at bs) v) _ (val_ordered bs v l.1 d.1) (λ i u. h i (us ++ u ∷ [])) m) n

    labelled_ordered : (bs : List (ℕ × Val)) (ls : LabelledVals) → LabelledLabels (IsLabel names) ls → LabelledValsAreDistinct ls → (E : List (ℕ × Val) → Placed)
        → ((n : ℕ) (ws : List (ℕ × Val)) → PatternsAreOrdered names (E ws n)) → (n : ℕ) → PatternsAreOrdered names (with_labelled (at bs) ls E n)
    labelled_ordered bs no_labelled_vals l d E h n = h n []
    labelled_ordered bs (more_labelled_vals ls x v) l d E h n =
        labelled_ordered bs ls l.0 d.0 _ (λ m ws. with_at (simple (at bs) v) (sending (at bs) v) _ (val_ordered bs v l.1.1 d.1.1) (λ i u. h i (ws ++ (x.name.0, u) ∷ [])) m) n

    abs_ordered : (bs : List (ℕ × Val)) (a : Abs) → AbsLabels (IsLabel names) a → AbsHasDistinctLabels a → (replicated : Bool) → Sends (λ x. reader (at bs) a x replicated)
    abs_ordered bs (process_abs s p q) l d replicated n x =
        (opened_ordered p l.0 d.0, proc_ordered (binding (pat_names names p) (variables n (binds (pat_core names p))) bs) q l.1 d.1 _)
    abs_ordered bs (function_abs s f t v) l d replicated n x =
        (function_ordered f l.0 d.0, val_ordered (function_bound f (variables n (binds (function_pat names f))) (at bs)).values v l.1 d.1.1 _ _)

    dec_ordered : (bs : List (ℕ × Val)) (x : Dec) → DecLabels (IsLabel names) x → DecHasDistinctLabels x → (rest : Around → Placed)
        → ((n : ℕ) (cs : List (ℕ × Val)) → PatternsAreOrdered names (rest (at cs) n)) → (n : ℕ) → PatternsAreOrdered names (dec_core (at bs) x rest n)
    dec_ordered bs (new_dec s x t) l d rest h n = h (n + 1) (binding (x.name.0 ∷ []) (Var n ∷ []) bs)
    dec_ordered bs (run_dec s p) l d rest h n = (proc_ordered bs p l d n, h n bs)
    dec_ordered bs (let_dec s p v) l d rest h n =
        ((opened_ordered p l.0 d.0, h _ (binding (pat_names names p) (variables (n + 1) (binds (pat_core names p))) bs)), val_ordered bs v l.1 d.1 (n + 1) (Var n))
    dec_ordered bs (def_dec s ds) l d rest h n =
        channels_ordered (length (definition_names ds)) _ (λ m xs.
        let cs : List (ℕ × Val) = binding (definition_names ds) xs bs in
        served_ordered _ xs _ m (servers_ordered cs ds l d) (h m cs)) n
    dec_ordered bs (alias_dec s x t) l d rest h n = h n bs
    dec_ordered bs (operator_dec s x xs t) l d rest h n = h n bs
    dec_ordered bs (await_dec s v) l d rest h n = ((((tt, tt, tt), tt), h _ bs), val_ordered bs v l d (n + 1) (Var n))

    decs_ordered : (bs : List (ℕ × Val)) (ds : Decs) → DecsLabels (IsLabel names) ds → DecsHaveDistinctLabels ds → (rest : Around → Placed)
        → ((n : ℕ) (cs : List (ℕ × Val)) → PatternsAreOrdered names (rest (at cs) n)) → (n : ℕ) → PatternsAreOrdered names (decs_core (at bs) ds rest n)
    decs_ordered bs no_decs l d rest h n = h n bs
    decs_ordered bs (more_decs ds x) l d rest h n = decs_ordered bs ds l.0 d.0 _ (λ m cs. dec_ordered cs x l.1 d.1 rest h m) n

    servers_ordered : (bs : List (ℕ × Val)) (ds : Definitions) → DefinitionsLabels (IsLabel names) ds → DefinitionsHaveDistinctLabels ds → AllServe (servers (at bs) ds)
    servers_ordered bs no_definitions l d = tt
    servers_ordered bs (more_definitions ds x a) l d = one_more_serves (servers (at bs) ds) _ (servers_ordered bs ds l.0 d.0) (abs_ordered bs a l.1 d.1 true)

    proc_ordered : (bs : List (ℕ × Val)) (p : Proc) → ProcLabels (IsLabel names) p → ProcHasDistinctLabels p → AreOrdered (proc_core (at bs) p)
    proc_ordered bs (send_proc s c v) l d n =
        with_at (simple_chan (at bs) c) (sending_chan (at bs) c) _ (chan_ordered bs c l.0 d.0) (λ m x.
        with_at (simple (at bs) v) (sending (at bs) v) _ (val_ordered bs v l.1 d.1) (λ i y. tt) m) n
    proc_ordered bs (receive_proc s c a) l d n = with_at (simple_chan (at bs) c) (sending_chan (at bs) c) _ (chan_ordered bs c l.0 d.0) (abs_ordered bs a l.1 d.1 false) n
    proc_ordered bs (serve_proc s c a) l d n = with_at (simple_chan (at bs) c) (sending_chan (at bs) c) _ (chan_ordered bs c l.0 d.0) (abs_ordered bs a l.1 d.1 true) n
    proc_ordered bs (if_proc s c p q) l d n =
        with_at (simple (at bs) c) (sending (at bs) c) _ (val_ordered bs c l.0 d.0) (λ m b. (proc_ordered bs p l.1.0 d.1.0 m, proc_ordered bs q l.1.1 d.1.1 m)) n
    proc_ordered bs (inert_proc s) l d n = tt
    proc_ordered bs (group_proc s ds ps) l d n = decs_ordered bs ds l.0 d.0 _ (λ m cs. side_ordered (procs_core (at cs) ps) (procs_ordered cs ps l.1 d.1) m) n

    procs_ordered : (bs : List (ℕ × Val)) (ps : Procs) → ProcsLabels (IsLabel names) ps → ProcsHaveDistinctLabels ps → AllProcesses (procs_core (at bs) ps)
    procs_ordered bs no_procs l d = tt
    procs_ordered bs (more_procs ps p) l d = one_more_process (procs_core (at bs) ps) (proc_core (at bs) p) (procs_ordered bs ps l.0 d.0) (proc_ordered bs p l.1 d.1)

  pub patterns_ordered : (ds : Decs) → DecsLabels (IsLabel names) ds → DecsHaveDistinctLabels ds → PatternsAreOrdered names (program_core names ds)
  patterns_ordered ds l d = decs_ordered [] ds l d _ (λ n cs. tt) 0
