-- Steps keep the order of labels.
use Rattle.std.proofs.Common.{ℕ, zero, suc, ◌+◌, ℤ, pos, negsuc, ◌-◌, nat_lt, nat_eq, Bool, true, false, List, [], ◌∷◌, ◌++◌, Option, Some, None, option_and_then, slice_get, unwrap_or, filter, map, if◌then◌else◌, sym, subst, length}
use Rattle.std.specs.List.{AllByRecursion}
use Rattle.pict_syntax.specs.Names.{text_of}
use Rattle.pict_syntax.specs.declared.span.Span.{Span}
use Rattle.pict_syntax.specs.declared.primitive.Primitive.{Primitive}
use Rattle.pict_syntax.specs.declared.primitive.Primitive.TheVariants as primitive
use Rattle.pict_core.specs.Term.{Val, Vals, Labelled, Var, Chan, Int, Char, Boolean, Text, PrimitiveVal, Record, no_vals, more_vals, no_labelled, more_labelled, Pat, Pats, LabelledPats, Bind, Any, RecordPat, no_pats, more_pats, no_labelled_pats, more_labelled_pats, Process, Zero, Par, New, Out, In, If}
use Rattle.pict_core.specs.Matching.{field_at, match_value, match_values, match_labelled, both}
use Rattle.pict_core.specs.Substitution.{Replacement, replace_value, replace_values, replace_labelled, replace, value_of_variable, substitution, substitute}
use Rattle.pict_core.specs.Primitives.{Effect, Leaves, Nothing, Answer, Trap, at_int, at_char, at_bool, at_text, at_two, at_three, divided_by, effect_of}
use Rattle.pict_core.specs.Configuration.{Mark, Ready, Parked, Entry, Configuration, opening}
use Rattle.pict_core.specs.Step.{Label, Quiet, Comm, Print, StepOutcome, Steps, Traps, Wrong, Finished, gone, kept, added, with_process, with_channel, received, served, took, meet_reader, meet_message, meet, printing, leave, perform, send, receive, choose, act, act_entry, Choice, free_step, Free, least, entry_at, step_by, oldest_choice}
use Rattle.pict_core.specs.Run.{Reaches, shown}
use Rattle.pict_core.specs.Places.{Place, choice_at}
use Rattle.pict_core.specs.FreeRun.{FreelyRuns, at_start, by_step}
use Rattle.pict_trace.specs.Ordered.{IsOrdered, AreOrdered, LabelsRise, IsOrderedProcess, IsOrderedConfiguration, IsOrderedLabel}

module _ (names : List (List ℕ)) where
  -- ---- substitution

  abbrev AreValues : List Val → Type 0
  AreValues vs = AllByRecursion (IsOrdered names) vs

  picked : (t : Bool) (v w : Val) → IsOrdered names v → IsOrdered names w → IsOrdered names (if t then v else w)
  picked true v w h k = h
  picked false v w h k = k

  value_at : (vs : List Val) (i : ℕ) (d : Val) → AreValues vs → IsOrdered names d → IsOrdered names (unwrap_or (slice_get vs i) d)
  value_at [] i d h k = k
  value_at (v ∷ vs) zero d h k = h.0
  value_at (v ∷ vs) (suc i) d h k = value_at vs i d h.1 k

  variable_ordered : (m : ℕ) (vs : List Val) (level : ℕ) → AreValues vs → IsOrdered names (value_of_variable m vs level)
  variable_ordered m vs level h = picked (nat_lt level m) (Var level) _ tt (value_at vs (level - m) (Var (level - length vs)) h tt)

  module _ (r : Replacement) (variables : (n : ℕ) → IsOrdered names (r.variable n)) (channels : (n : ℕ) → IsOrdered names (r.channel n)) where
    mutual
      replaced_value : (v : Val) → IsOrdered names v → IsOrdered names (replace_value r v)
      replaced_value (Var x) h = variables x
      replaced_value (Chan x) h = channels x
      replaced_value (Int x) h = tt
      replaced_value (Char x) h = tt
      replaced_value (Boolean x) h = tt
      replaced_value (Text x) h = tt
      replaced_value (PrimitiveVal x) h = tt
      replaced_value (Record vs ls) h = (replaced_values vs h.0, replaced_labelled [] ls h.1)

      replaced_values : (vs : Vals) → AreOrdered names vs → AreOrdered names (replace_values r vs)
      replaced_values no_vals h = tt
      replaced_values (more_vals v vs) h = (replaced_value v h.0, replaced_values vs h.1)

      replaced_labelled : (before : List ℕ) (ls : Labelled) → LabelsRise names before ls → LabelsRise names before (replace_labelled r ls)
      replaced_labelled before no_labelled h = tt
      replaced_labelled before (more_labelled l v ls) h = (h.0, h.1, replaced_value v h.2, replaced_labelled (text_of names l) ls h.3)

    replaced : (p : Process) → IsOrderedProcess names p → IsOrderedProcess names (replace r p)
    replaced Zero h = tt
    replaced (Par p q) h = (replaced p h.0, replaced q h.1)
    replaced (New p) h = replaced p h
    replaced (Out chan message at) h = (replaced_value chan h.0, replaced_value message h.1)
    replaced (In chan replicated pattern body) h = (replaced_value chan h.0, replaced body h.1)
    replaced (If test p q) h = (replaced_value test h.0, replaced p h.1, replaced q h.2)

  substituted : (m : ℕ) (vs : List Val) (p : Process) → AreValues vs → IsOrderedProcess names p → IsOrderedProcess names (substitute m vs p)
  substituted m vs p h k = replaced (substitution m vs) (λ level. variable_ordered m vs level h) (λ n. tt) p k

  -- ---- matching

  abbrev Bound : Option (List Val) → Type 0
  Bound None = Unit {0}
  Bound (Some vs) = AreValues vs

  abbrev Found : Option Val → Type 0
  Found None = Unit {0}
  Found (Some v) = IsOrdered names v

  joined : (vs ws : List Val) → AreValues vs → AreValues ws → AreValues (vs ++ ws)
  joined [] ws h k = k
  joined (v ∷ vs) ws h k = (h.0, joined vs ws h.1 k)

  both_bound : (a b : Option (List Val)) → Bound a → Bound b → Bound (both a b)
  both_bound None b h k = tt
  both_bound (Some vs) None h k = tt
  both_bound (Some vs) (Some ws) h k = joined vs ws h k

  picked_field : (t : Bool) (v : Val) (o : Option Val) → IsOrdered names v → Found o → Found (if t then Some v else o)
  picked_field true v o h k = h
  picked_field false v o h k = k

  field_found : (label : ℕ) (before : List ℕ) (ls : Labelled) → LabelsRise names before ls → Found (field_at label ls)
  field_found label before no_labelled h = tt
  field_found label before (more_labelled l v ls) h = picked_field (nat_eq label l) v (field_at label ls) h.2 (field_found label (text_of names l) ls h.3)

  mutual
    matched : (p : Pat) (v : Val) → IsOrdered names v → Bound (match_value p v)
    matched Bind v h = (h, tt)
    matched Any v h = tt
    matched (RecordPat ps qs) (Record vs ls) h = both_bound (match_values ps vs) (match_labelled qs ls) (matched_values ps vs h.0) (matched_labelled qs [] ls h.1)
    matched (RecordPat ps qs) v h = tt

    matched_values : (ps : Pats) (vs : Vals) → AreOrdered names vs → Bound (match_values ps vs)
    matched_values no_pats no_vals h = tt
    matched_values no_pats (more_vals v vs) h = tt
    matched_values (more_pats p ps) no_vals h = tt
    matched_values (more_pats p ps) (more_vals v vs) h = both_bound (match_value p v) (match_values ps vs) (matched p v h.0) (matched_values ps vs h.1)

    matched_labelled : (qs : LabelledPats) (before : List ℕ) (ls : Labelled) → LabelsRise names before ls → Bound (match_labelled qs ls)
    matched_labelled no_labelled_pats before ls h = tt
    matched_labelled (more_labelled_pats label p qs) before ls h =
        both_bound (option_and_then (match_value p) (field_at label ls)) (match_labelled qs ls)
        (elim (field_at label ls) as (λ o. Found o → Bound (option_and_then (match_value p) o)) [ None ↦ λ k. tt | Some v ↦ λ k. matched p v k ] (field_found label before ls h))
        (matched_labelled qs before ls h)

  -- ---- primitives

  abbrev LeavesOrdered : Leaves → Type 0
  LeavesOrdered Nothing = Unit {0}
  LeavesOrdered (Answer k a) = IsOrdered names k × IsOrdered names a
  LeavesOrdered Trap = Unit {0}

  abbrev EffectOrdered : Option Effect → Type 0
  EffectOrdered None = Unit {0}
  EffectOrdered (Some e) = LeavesOrdered e.leaves

  int_ordered : (v : Val) (f : ℤ → Option Effect) → ((i : ℤ) → EffectOrdered (f i)) → EffectOrdered (at_int v f)
  int_ordered (Var x) f h = tt
  int_ordered (Chan x) f h = tt
  int_ordered (Int x) f h = h x
  int_ordered (Char x) f h = tt
  int_ordered (Boolean x) f h = tt
  int_ordered (Text x) f h = tt
  int_ordered (PrimitiveVal x) f h = tt
  int_ordered (Record x y) f h = tt

  char_ordered : (v : Val) (f : ℕ → Option Effect) → ((i : ℕ) → EffectOrdered (f i)) → EffectOrdered (at_char v f)
  char_ordered (Var x) f h = tt
  char_ordered (Chan x) f h = tt
  char_ordered (Int x) f h = tt
  char_ordered (Char x) f h = h x
  char_ordered (Boolean x) f h = tt
  char_ordered (Text x) f h = tt
  char_ordered (PrimitiveVal x) f h = tt
  char_ordered (Record x y) f h = tt

  bool_ordered : (v : Val) (f : Bool → Option Effect) → ((i : Bool) → EffectOrdered (f i)) → EffectOrdered (at_bool v f)
  bool_ordered (Var x) f h = tt
  bool_ordered (Chan x) f h = tt
  bool_ordered (Int x) f h = tt
  bool_ordered (Char x) f h = tt
  bool_ordered (Boolean x) f h = h x
  bool_ordered (Text x) f h = tt
  bool_ordered (PrimitiveVal x) f h = tt
  bool_ordered (Record x y) f h = tt

  text_ordered : (v : Val) (f : List ℕ → Option Effect) → ((i : List ℕ) → EffectOrdered (f i)) → EffectOrdered (at_text v f)
  text_ordered (Var x) f h = tt
  text_ordered (Chan x) f h = tt
  text_ordered (Int x) f h = tt
  text_ordered (Char x) f h = tt
  text_ordered (Boolean x) f h = tt
  text_ordered (Text x) f h = h x
  text_ordered (PrimitiveVal x) f h = tt
  text_ordered (Record x y) f h = tt

  -- only the last field has to be so: it is where the answer goes
  two_ordered : (v : Val) (f : Val → Val → Option Effect) → IsOrdered names v → ((u k : Val) → IsOrdered names k → EffectOrdered (f u k)) → EffectOrdered (at_two v f)
  two_ordered (Var x) f o h = tt
  two_ordered (Chan x) f o h = tt
  two_ordered (Int x) f o h = tt
  two_ordered (Char x) f o h = tt
  two_ordered (Boolean x) f o h = tt
  two_ordered (Text x) f o h = tt
  two_ordered (PrimitiveVal x) f o h = tt
  two_ordered (Record no_vals ls) f o h = tt
  two_ordered (Record (more_vals u no_vals) ls) f o h = tt
  two_ordered (Record (more_vals u (more_vals k no_vals)) ls) f o h = h u k o.0.1.0
  two_ordered (Record (more_vals u (more_vals k (more_vals x xs))) ls) f o h = tt

  three_ordered : (v : Val) (f : Val → Val → Val → Option Effect) → IsOrdered names v → ((u w k : Val) → IsOrdered names k → EffectOrdered (f u w k)) → EffectOrdered (at_three v f)
  three_ordered (Var x) f o h = tt
  three_ordered (Chan x) f o h = tt
  three_ordered (Int x) f o h = tt
  three_ordered (Char x) f o h = tt
  three_ordered (Boolean x) f o h = tt
  three_ordered (Text x) f o h = tt
  three_ordered (PrimitiveVal x) f o h = tt
  three_ordered (Record no_vals ls) f o h = tt
  three_ordered (Record (more_vals u no_vals) ls) f o h = tt
  three_ordered (Record (more_vals u (more_vals w no_vals)) ls) f o h = tt
  three_ordered (Record (more_vals u (more_vals w (more_vals k no_vals))) ls) f o h = h u w k o.0.1.1.0
  three_ordered (Record (more_vals u (more_vals w (more_vals k (more_vals x xs)))) ls) f o h = tt

  divided_ordered : (b : ℤ) (e : Option Effect) → EffectOrdered e → EffectOrdered (divided_by b e)
  divided_ordered (pos zero) e h = tt
  divided_ordered (pos (suc i)) e h = h
  divided_ordered (negsuc i) e h = h

  ruleset operands_ordered = (two_ordered, three_ordered, int_ordered, char_ordered, bool_ordered, text_ordered, divided_ordered)

  effect_ordered : (p : Primitive) (v : Val) → IsOrdered names v → EffectOrdered (effect_of p v)
  effect_ordered primitive.Print v o = text_ordered v _ (λ t. tt)
  effect_ordered _ v o = search operands_ordered depth 8

  -- ---- entries

  abbrev AreEntries : List Entry → Type 0
  AreEntries es = AllByRecursion (λ (e : Entry). IsOrderedProcess names e.process) es

  picked_entries : (t : Bool) (e : Entry) (es : List Entry) → IsOrderedProcess names e.process → AreEntries es → AreEntries (if t then e ∷ es else es)
  picked_entries true e es h k = (h, k)
  picked_entries false e es h k = k

  filtered : (f : Entry → Bool) (es : List Entry) → AreEntries es → AreEntries (filter f es)
  filtered f [] h = tt
  filtered f (e ∷ es) h = picked_entries (f e) e (filter f es) h.0 (filtered f es h.1)

  picked_entry : (t : Bool) (p : Process) (e : Entry) → IsOrderedProcess names p → IsOrderedProcess names e.process → IsOrderedProcess names (if t then record e { process = p } else e).process
  picked_entry true p e h k = h
  picked_entry false p e h k = k

  replaced_entries : (s : ℕ) (p : Process) (es : List Entry) → IsOrderedProcess names p → AreEntries es → AreEntries (map (with_process s p) es)
  replaced_entries s p [] h k = tt
  replaced_entries s p (e ∷ es) h k = (picked_entry (nat_eq s e.stamp) p e h k.0, replaced_entries s p es h k.1)

  appended : (es : List Entry) (e : Entry) → AreEntries es → IsOrderedProcess names e.process → AreEntries (es ++ e ∷ [])
  appended [] e h k = (k, tt)
  appended (x ∷ es) e h k = (h.0, appended es e h.1 k)

  abbrev At : Option Entry → Type 0
  At None = Unit {0}
  At (Some e) = IsOrderedProcess names e.process

  picked_at : (t : Bool) (e : Entry) (o : Option Entry) → IsOrderedProcess names e.process → At o → At (if t then Some e else o)
  picked_at true e o h k = h
  picked_at false e o h k = k

  least_at : (f : Entry → Bool) (es : List Entry) → AreEntries es → At (least f es)
  least_at f [] h = tt
  least_at f (e ∷ es) h = picked_at (f e) e (least f es) h.0 (least_at f es h.1)

  abbrev Is : Configuration → Type 0
  Is C = IsOrderedConfiguration names C

  is_gone : (s : ℕ) (C : Configuration) → Is C → Is (gone s C)
  is_gone s C h = filtered _ C.entries h

  is_kept : (s : ℕ) (p : Process) (C : Configuration) → IsOrderedProcess names p → Is C → Is (kept s p C)
  is_kept s p C k h = replaced_entries s p C.entries k h

  is_added : (mark : Mark) (p : Process) (C : Configuration) → IsOrderedProcess names p → Is C → Is (added mark p C)
  is_added mark p C k h = appended C.entries _ h k

  is_served : (replicated : Bool) (p : Process) (C : Configuration) → IsOrderedProcess names p → Is C → Is (served replicated p C)
  is_served true p C k h = is_added Parked p C k h
  is_served false p C k h = h

  is_took : (replicated : Bool) (s : ℕ) (C : Configuration) → Is C → Is (took replicated s C)
  is_took true s C h = h
  is_took false s C h = is_gone s C h

  -- ---- the rows of the table

  abbrev Keeps : StepOutcome → Type 0
  Keeps (Steps D label) = Is D × IsOrderedLabel names label
  Keeps (Traps at) = Unit {0}
  Keeps Wrong = Unit {0}
  Keeps Finished = Unit {0}

  received_keeps : (bound : Option (List Val)) (body : Process) (go : Process → StepOutcome) → Bound bound → IsOrderedProcess names body → ((p : Process) → IsOrderedProcess names p → Keeps (go p)) → Keeps (received bound body go)
  received_keeps None body go b k h = tt
  received_keeps (Some vs) body go b k h = h (substitute 0 vs body) (substituted 0 vs body b k)

  module _ (C : Configuration) (is : IsOrderedConfiguration names C) (s : ℕ) where
    reader_keeps : (c : ℕ) (message : Val) (r : ℕ) (p : Process) → IsOrdered names message → IsOrderedProcess names p → Keeps (meet_reader C s c message r p)
    reader_keeps c message r (In chan replicated pattern body) o u =
        received_keeps (match_value pattern message) body _ (matched pattern message o) u.1
        (λ p k. (is_served replicated (In chan replicated pattern body) (added Ready p (gone r (gone s C))) u (is_added Ready p (gone r (gone s C)) k (is_gone r (gone s C) (is_gone s C is))), o))
    reader_keeps c message r p o u = tt

    message_keeps : (c : ℕ) (replicated : Bool) (pattern : Pat) (body : Process) (r : ℕ) (p : Process) → IsOrderedProcess names body → IsOrderedProcess names p → Keeps (meet_message C s c replicated pattern body r p)
    message_keeps c replicated pattern body r (Out chan message at) k u =
        received_keeps (match_value pattern message) body _ (matched pattern message u.1) k
        (λ p h. (is_added Ready p (gone r (took replicated s C)) h (is_gone r (took replicated s C) (is_took replicated s C is)), u.1))
    message_keeps c replicated pattern body r p k u = tt

    meet_keeps : (p : Process) (go : ℕ → Process → StepOutcome) (partner : Option Entry) → IsOrderedProcess names p → At partner → ((r : ℕ) (q : Process) → IsOrderedProcess names q → Keeps (go r q)) → Keeps (meet C s p go partner)
    meet_keeps p go None u k h = (is_added Parked p (gone s C) u (is_gone s C is), tt)
    meet_keeps p go (Some partner) u k h = h partner.stamp partner.process k

    printing_ordered : (o : Option (List ℕ)) → IsOrderedLabel names (printing o)
    printing_ordered None = tt
    printing_ordered (Some bytes) = tt

    leave_keeps : (at : Span) (label : Label) (l : Leaves) → IsOrderedLabel names label → LeavesOrdered l → Keeps (leave C s at label l)
    leave_keeps at label Nothing k o = (is_gone s C is, k)
    leave_keeps at label (Answer v a) k o = (is_kept s (Out v a at) C o is, k)
    leave_keeps at label Trap k o = tt

    perform_keeps : (at : Span) (e : Option Effect) → EffectOrdered e → Keeps (perform C s at e)
    perform_keeps at None o = tt
    perform_keeps at (Some e) o = leave_keeps at (printing e.printed) e.leaves (printing_ordered e.printed) o

    send_keeps : (partner : Option Entry) (chan message : Val) (at : Span) → At partner → IsOrderedProcess names (Out chan message at) → Keeps (send C s partner chan message at)
    send_keeps partner (Chan c) message at k u = meet_keeps (Out (Chan c) message at) (meet_reader C s c message) partner u k (λ r q h. reader_keeps c message r q u.1 h)
    send_keeps partner (PrimitiveVal f) message at k u = perform_keeps at (effect_of f message) (effect_ordered f message u.1)
    send_keeps partner v message at k u = tt

    receive_keeps : (partner : Option Entry) (chan : Val) (replicated : Bool) (pattern : Pat) (body : Process) → At partner → IsOrderedProcess names (In chan replicated pattern body) → Keeps (receive C s partner chan replicated pattern body)
    receive_keeps partner (Chan c) replicated pattern body k u =
        meet_keeps (In (Chan c) replicated pattern body) (meet_message C s c replicated pattern body) partner u k (λ r q h. message_keeps c replicated pattern body r q u.1 h)
    receive_keeps partner v replicated pattern body k u = tt

    choose_keeps : (test : Val) (p q : Process) → IsOrderedProcess names p → IsOrderedProcess names q → Keeps (choose test (Steps (kept s p C) Quiet) (Steps (kept s q C) Quiet))
    choose_keeps (Boolean true) p q u k = (is_kept s p C u is, tt)
    choose_keeps (Boolean false) p q u k = (is_kept s q C k is, tt)
    choose_keeps v p q u k = tt

    act_keeps : (partner : Option Entry) (p : Process) → At partner → IsOrderedProcess names p → Keeps (act C s partner p)
    act_keeps partner Zero k u = (is_gone s C is, tt)
    act_keeps partner (Par p q) k u = (is_added Ready q (kept s p C) u.1 (is_kept s p C u.0 is), tt)
    act_keeps partner (New p) k u = (is_kept s (substitute 0 (Chan C.channels ∷ []) p) (with_channel C) (substituted 0 (Chan C.channels ∷ []) p (tt, tt) u) is, tt)
    act_keeps partner (If test p q) k u = choose_keeps test p q u.1 u.2
    act_keeps partner (Out chan message at) k u = send_keeps partner chan message at k u
    act_keeps partner (In chan replicated pattern body) k u = receive_keeps partner chan replicated pattern body k u

  entry_keeps : (C : Configuration) → Is C → (actor partner : Option Entry) → At actor → At partner → Keeps (act_entry C actor partner)
  entry_keeps C is None partner u k = tt
  entry_keeps C is (Some e) partner u k = act_keeps C is e.stamp partner e.process k u

  partner_at : (C : Configuration) → Is C → (o : Option ℕ) → At (option_and_then (λ r. entry_at r C.entries) o)
  partner_at C is None = tt
  partner_at C is (Some r) = least_at _ C.entries is

  free_step_keeps : (C : Configuration) (choice : Choice) → Is C → Keeps (free_step C choice)
  free_step_keeps C choice is = entry_keeps C is (entry_at choice.acting C.entries) (option_and_then (λ r. entry_at r C.entries) choice.partner) (least_at _ C.entries is) (partner_at C is choice.partner)

  step_by_keeps : (C : Configuration) (o : Option Choice) → Is C → Keeps (step_by C o)
  step_by_keeps C None is = tt
  step_by_keeps C (Some choice) is = free_step_keeps C choice is

  -- ---- runs

  shown_ordered : (n : ℕ) (label : Label) → IsOrderedLabel names label → AllByRecursion (λ (l : ℕ × Label). IsOrderedLabel names l.1) (shown n label)
  shown_ordered n Quiet h = tt
  shown_ordered n (Comm c v) h = (h, tt)
  shown_ordered n (Print bytes) h = (tt, tt)

  labels_joined : (ls ms : List (ℕ × Label)) → AllByRecursion (λ (l : ℕ × Label). IsOrderedLabel names l.1) ls → AllByRecursion (λ (l : ℕ × Label). IsOrderedLabel names l.1) ms
      → AllByRecursion (λ (l : ℕ × Label). IsOrderedLabel names l.1) (ls ++ ms)
  labels_joined [] ms h k = k
  labels_joined (l ∷ ls) ms h k = (h.0, labels_joined ls ms h.1 k)

  reached : (n : ℕ) (C D : Configuration) (labels : List (ℕ × Label)) → Is C → Reaches n C labels D → Is D × AllByRecursion (λ (l : ℕ × Label). IsOrderedLabel names l.1) labels
  reached zero C D labels is (same, none) = (subst Is same is, subst (AllByRecursion (λ (l : ℕ × Label). IsOrderedLabel names l.1)) (sym none) tt)
  reached (suc n) C D labels is (M, before, label, r, steps, e) =
      let b = reached n C M before is r in
      let k : Is D × IsOrderedLabel names label = subst Keeps steps (step_by_keeps M (oldest_choice M) b.0) in
      (k.0, subst (AllByRecursion (λ (l : ℕ × Label). IsOrderedLabel names l.1)) (sym e) (labels_joined before (shown (suc n) label) b.1 (shown_ordered (suc n) label k.1)))

  freely : (C D : Configuration) (places : List Place) (labels : List (ℕ × Label)) → Is C → FreelyRuns C places labels D → Is D × AllByRecursion (λ (l : ℕ × Label). IsOrderedLabel names l.1) labels
  freely C D places labels is at_start = (is, tt)
  freely C D places labels is (by_step {places = ps} {labels = ls} {D = M} {place = place} {label = label} r there steps) =
      let b = freely C M ps ls is r in
      let k : Is D × IsOrderedLabel names label = subst Keeps steps (step_by_keeps M (choice_at M place) b.0) in
      (k.0, labels_joined ls (shown (length ps + 1) label) b.1 (shown_ordered (length ps + 1) label k.1))

pub free_steps_keep_order : (names : List (List ℕ)) (C : Configuration) (choice : Choice) (D : Configuration) (label : Label) → IsOrderedConfiguration names C → Free C choice D label → IsOrderedConfiguration names D × IsOrderedLabel names label
free_steps_keep_order names C choice D label is free = subst (Keeps names) free.steps (free_step_keeps names C choice is)

pub runs_show_order : (names : List (List ℕ)) (p : Process) (n : ℕ) (labels : List (ℕ × Label)) (C : Configuration) → IsOrderedProcess names p → Reaches n (opening p) labels C → AllByRecursion (λ (l : ℕ × Label). IsOrderedLabel names l.1) labels
runs_show_order names p n labels C is r = (reached names n (opening p) C labels (is, tt) r).1

pub free_runs_show_order : (names : List (List ℕ)) (p : Process) (places : List Place) (labels : List (ℕ × Label)) (C : Configuration) → IsOrderedProcess names p → FreelyRuns (opening p) places labels C → AllByRecursion (λ (l : ℕ × Label). IsOrderedLabel names l.1) labels
free_runs_show_order names p places labels C is r = (freely names (opening p) C places labels (is, tt) r).1
