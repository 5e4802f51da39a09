-- The steps of dressed configurations.
use Rattle.std.proofs.Common.{ℕ, zero, suc, ◌≡◌, ◌≢◌, ◌+◌, Bool, true, false, nat_eq, not, cond, List, [], ◌∷◌, ◌++◌, map, filter, refl, sym, ap, ◌∙◌, subst, Option, Some, None, option_and_then, option_map}
use Rattle.std.specs.Prelude.{◌&&◌}
use Rattle.pict_syntax.specs.declared.span.Span.{Span}
use Rattle.pict_core.specs.Term.{Val, Pat, Process, Var, Chan, Int, Char, Boolean, Text, PrimitiveVal, Record, Zero, Par, New, Out, In, If}
use Rattle.pict_core.specs.Substitution.{substitute}
use Rattle.pict_core.specs.Matching.{match_value}
use Rattle.pict_core.specs.Primitives.{Effect, Leaves, Nothing, Answer, Trap, effect_of}
use Rattle.pict_core.specs.Configuration.{Mark, Ready, Parked, Entry, Configuration, opening}
use Rattle.pict_core.specs.Step.{Label, Quiet, Comm, Print, StepOutcome, Steps, Traps, Wrong, Finished, least, entry_at, gone, kept, added, with_process, with_channel, received, served, took, meet_reader, meet_message, meet, printing, leave, perform, send, receive, choose, act, Choice, is_ready, is_channel, reads, sends, is_parked_reader, is_parked_message, at_channel, is_partner, act_entry, free_step, oldest_choice, step_by, next}
use Rattle.pict_core.specs.Run.{shown, Reaches, End, Done, FuelSpent, Misshapen, EndsAfter, RunsFrom, Runs, printed_by, bytes_of}
use Rattle.pict_core.specs.Run as run
use Rattle.pict_object.specs.Dressing.{Dress, dressed_value, dressed_pattern, dressed, dressed_entry, dressed_configuration, dressed_label, dressed_outcome, dressed_end, dressed_labels, KeepsLabelsApart, StepsAreDressed, RunsAreDressed}
use Rattle.pict_object.proofs.Dressed.{dressed_leaves, dressed_effect, substituted, found_dressed, match_dressed, effect_dressed}

module _ (d : Dress) (apart : KeepsLabelsApart d) where
  abbrev on : Configuration → Configuration
  on C = dressed_configuration d C

  -- ---- the map from stamps

  kept_test : (b : Bool) (e : Entry) (es : List Entry) → cond b (dressed_entry d e ∷ map (dressed_entry d) es) (map (dressed_entry d) es) ≡ map (dressed_entry d) (cond b (e ∷ es) es)
  kept_test true e es = refl
  kept_test false e es = refl

  gone_entries : (s : ℕ) (es : List Entry) → filter (λ e. not (nat_eq s e.stamp)) (map (dressed_entry d) es) ≡ map (dressed_entry d) (filter (λ e. not (nat_eq s e.stamp)) es)
  gone_entries s [] = refl
  gone_entries s (e ∷ es) =
      ap (λ xs. cond (not (nat_eq s e.stamp)) (dressed_entry d e ∷ xs) xs) (gone_entries s es) ∙ kept_test (not (nat_eq s e.stamp)) e (filter (λ e. not (nat_eq s e.stamp)) es)

  gone_dressed : (s : ℕ) (C : Configuration) → gone s (on C) ≡ on (gone s C)
  gone_dressed s C = ap (λ es. record { channels = C.channels; next_stamp = C.next_stamp; entries = es }) (gone_entries s C.entries)

  one_kept : (b : Bool) (p : Process) (e : Entry) → cond b (record { stamp = e.stamp; mark = e.mark; process = dressed d p }) (dressed_entry d e) ≡ dressed_entry d (cond b (record e { process = p }) e)
  one_kept true p e = refl
  one_kept false p e = refl

  kept_entries : (s : ℕ) (p : Process) (es : List Entry) → map (with_process s (dressed d p)) (map (dressed_entry d) es) ≡ map (dressed_entry d) (map (with_process s p) es)
  kept_entries s p [] = refl
  kept_entries s p (e ∷ es) = ap (λ x. x ∷ map (with_process s (dressed d p)) (map (dressed_entry d) es)) (one_kept (nat_eq s e.stamp) p e) ∙ ap (λ xs. dressed_entry d (with_process s p e) ∷ xs) (kept_entries s p es)

  kept_dressed : (s : ℕ) (p : Process) (C : Configuration) → kept s (dressed d p) (on C) ≡ on (kept s p C)
  kept_dressed s p C = ap (λ es. record { channels = C.channels; next_stamp = C.next_stamp; entries = es }) (kept_entries s p C.entries)

  more_entries : (es fs : List Entry) → map (dressed_entry d) es ++ map (dressed_entry d) fs ≡ map (dressed_entry d) (es ++ fs)
  more_entries [] fs = refl
  more_entries (e ∷ es) fs = ap (λ xs. dressed_entry d e ∷ xs) (more_entries es fs)

  added_dressed : (mark : Mark) (p : Process) (C : Configuration) → added mark (dressed d p) (on C) ≡ on (added mark p C)
  added_dressed mark p C = ap (λ es. record { channels = C.channels; next_stamp = C.next_stamp + 1; entries = es }) (more_entries C.entries (record { stamp = C.next_stamp; mark = mark; process = p } ∷ []))

  -- ---- who acts

  least_chosen : (b : Bool) (e : Entry) (o o' : Option Entry) → o' ≡ option_map (dressed_entry d) o → cond b (Some (dressed_entry d e)) o' ≡ option_map (dressed_entry d) (cond b (Some e) o)
  least_chosen true e o o' h = refl
  least_chosen false e o o' h = h

  least_dressed : (test test' : Entry → Bool) → ((e : Entry) → test' (dressed_entry d e) ≡ test e) → (es : List Entry) → least test' (map (dressed_entry d) es) ≡ option_map (dressed_entry d) (least test es)
  least_dressed test test' h [] = refl
  least_dressed test test' h (e ∷ es) =
      ap (λ b. cond b (Some (dressed_entry d e)) (least test' (map (dressed_entry d) es))) (h e) ∙ least_chosen (test e) e (least test es) (least test' (map (dressed_entry d) es)) (least_dressed test test' h es)

  channel_dressed : (c : ℕ) (v : Val) → is_channel c (dressed_value d v) ≡ is_channel c v
  channel_dressed c (Var x) = refl
  channel_dressed c (Chan x) = refl
  channel_dressed c (Int x) = refl
  channel_dressed c (Char x) = refl
  channel_dressed c (Boolean x) = refl
  channel_dressed c (Text x) = refl
  channel_dressed c (PrimitiveVal x) = refl
  channel_dressed c (Record x y) = refl

  reads_dressed : (c : ℕ) (p : Process) → reads c (dressed d p) ≡ reads c p
  reads_dressed c Zero = refl
  reads_dressed c (Par p q) = refl
  reads_dressed c (New p) = refl
  reads_dressed c (Out x y z) = refl
  reads_dressed c (In x y z p) = channel_dressed c x
  reads_dressed c (If x p q) = refl

  sends_dressed : (c : ℕ) (p : Process) → sends c (dressed d p) ≡ sends c p
  sends_dressed c Zero = refl
  sends_dressed c (Par p q) = refl
  sends_dressed c (New p) = refl
  sends_dressed c (Out x y z) = channel_dressed c x
  sends_dressed c (In x y z p) = refl
  sends_dressed c (If x p q) = refl

  at_dressed : (test : ℕ → Entry → Bool) → ((c : ℕ) (e : Entry) → test c (dressed_entry d e) ≡ test c e) → (v : Val) (e : Entry) → at_channel test (dressed_value d v) (dressed_entry d e) ≡ at_channel test v e
  at_dressed test h (Var x) e = refl
  at_dressed test h (Chan x) e = h x e
  at_dressed test h (Int x) e = refl
  at_dressed test h (Char x) e = refl
  at_dressed test h (Boolean x) e = refl
  at_dressed test h (Text x) e = refl
  at_dressed test h (PrimitiveVal x) e = refl
  at_dressed test h (Record x y) e = refl

  partner_dressed : (p : Process) (e : Entry) → is_partner (dressed d p) (dressed_entry d e) ≡ is_partner p e
  partner_dressed Zero e = refl
  partner_dressed (Par p q) e = refl
  partner_dressed (New p) e = refl
  partner_dressed (Out x y z) e = at_dressed is_parked_reader (λ c e. ap (λ b. not (is_ready e) && b) (reads_dressed c e.process)) x e
  partner_dressed (In x y z p) e = at_dressed is_parked_message (λ c e. ap (λ b. not (is_ready e) && b) (sends_dressed c e.process)) x e
  partner_dressed (If x p q) e = refl

  -- ---- what it does

  abbrev shows : StepOutcome → StepOutcome
  shows o = dressed_outcome d o

  steps_to : (D D' : Configuration) (label : Label) → D' ≡ on D → Steps D' (dressed_label d label) ≡ shows (Steps D label)
  steps_to D D' label h = ap (λ x. Steps x (dressed_label d label)) h

  received_dressed : (o o' : Option (List Val)) (body : Process) (go go' : Process → StepOutcome) → o' ≡ found_dressed d o → ((p : Process) → go' (dressed d p) ≡ shows (go p))
      → received o' (dressed d body) go' ≡ shows (received o body go)
  received_dressed None o' body go go' h k = ap (λ x. received x (dressed d body) go') h
  received_dressed (Some vs) o' body go go' h k = ap (λ x. received x (dressed d body) go') h ∙ ap go' (sym (substituted d 0 vs body)) ∙ k (substitute 0 vs body)

  served_dressed : (b : Bool) (p : Process) (C : Configuration) → served b (dressed d p) (on C) ≡ on (served b p C)
  served_dressed true p C = added_dressed Parked p C
  served_dressed false p C = refl

  took_dressed : (b : Bool) (s : ℕ) (C : Configuration) → took b s (on C) ≡ on (took b s C)
  took_dressed true s C = refl
  took_dressed false s C = gone_dressed s C

  reader_dressed : (C : Configuration) (s c : ℕ) (message : Val) (r : ℕ) (q : Process) → meet_reader (on C) s c (dressed_value d message) r (dressed d q) ≡ shows (meet_reader C s c message r q)
  reader_dressed C s c message r Zero = refl
  reader_dressed C s c message r (Par p q) = refl
  reader_dressed C s c message r (New p) = refl
  reader_dressed C s c message r (Out x y z) = refl
  reader_dressed C s c message r (In chan replicated pattern body) =
      received_dressed (match_value pattern message) (match_value (dressed_pattern d pattern) (dressed_value d message)) body
      (λ p. Steps (served replicated (In chan replicated pattern body) (added Ready p (gone r (gone s C)))) (Comm c message))
      (λ p. Steps (served replicated (dressed d (In chan replicated pattern body)) (added Ready p (gone r (gone s (on C))))) (Comm c (dressed_value d message)))
      (match_dressed d apart pattern message)
      (λ p. steps_to (served replicated (In chan replicated pattern body) (added Ready p (gone r (gone s C)))) (served replicated (dressed d (In chan replicated pattern body)) (added Ready (dressed d p) (gone r (gone s (on C))))) (Comm c message)
      (ap (λ D. served replicated (dressed d (In chan replicated pattern body)) (added Ready (dressed d p) D)) (ap (gone r) (gone_dressed s C) ∙ gone_dressed r (gone s C))
      ∙ ap (served replicated (dressed d (In chan replicated pattern body))) (added_dressed Ready p (gone r (gone s C)))
      ∙ served_dressed replicated (In chan replicated pattern body) (added Ready p (gone r (gone s C)))))
  reader_dressed C s c message r (If x p q) = refl

  message_dressed : (C : Configuration) (s c : ℕ) (replicated : Bool) (pattern : Pat) (body : Process) (r : ℕ) (q : Process)
      → meet_message (on C) s c replicated (dressed_pattern d pattern) (dressed d body) r (dressed d q) ≡ shows (meet_message C s c replicated pattern body r q)
  message_dressed C s c replicated pattern body r Zero = refl
  message_dressed C s c replicated pattern body r (Par p q) = refl
  message_dressed C s c replicated pattern body r (New p) = refl
  message_dressed C s c replicated pattern body r (Out chan message at) =
      received_dressed (match_value pattern message) (match_value (dressed_pattern d pattern) (dressed_value d message)) body
      (λ p. Steps (added Ready p (gone r (took replicated s C))) (Comm c message))
      (λ p. Steps (added Ready p (gone r (took replicated s (on C)))) (Comm c (dressed_value d message)))
      (match_dressed d apart pattern message)
      (λ p. steps_to (added Ready p (gone r (took replicated s C))) (added Ready (dressed d p) (gone r (took replicated s (on C)))) (Comm c message)
      (ap (λ D. added Ready (dressed d p) D) (ap (gone r) (took_dressed replicated s C) ∙ gone_dressed r (took replicated s C)) ∙ added_dressed Ready p (gone r (took replicated s C))))
  message_dressed C s c replicated pattern body r (In x y z p) = refl
  message_dressed C s c replicated pattern body r (If x p q) = refl

  meet_dressed : (C : Configuration) (s : ℕ) (p : Process) (go go' : ℕ → Process → StepOutcome) → ((r : ℕ) (q : Process) → go' r (dressed d q) ≡ shows (go r q)) → (o : Option Entry)
      → meet (on C) s (dressed d p) go' (option_map (dressed_entry d) o) ≡ shows (meet C s p go o)
  meet_dressed C s p go go' h None = steps_to (added Parked p (gone s C)) (added Parked (dressed d p) (gone s (on C))) Quiet (ap (added Parked (dressed d p)) (gone_dressed s C) ∙ added_dressed Parked p (gone s C))
  meet_dressed C s p go go' h (Some u) = h u.stamp u.process

  printing_dressed : (o : Option (List ℕ)) → printing o ≡ dressed_label d (printing o)
  printing_dressed None = refl
  printing_dressed (Some bytes) = refl

  leave_dressed : (C : Configuration) (s : ℕ) (at : Span) (label label' : Label) → label' ≡ dressed_label d label → (l : Leaves) → leave (on C) s (d.place at) label' (dressed_leaves d l) ≡ shows (leave C s at label l)
  leave_dressed C s at label label' h Nothing = ap (Steps (gone s (on C))) h ∙ steps_to (gone s C) (gone s (on C)) label (gone_dressed s C)
  leave_dressed C s at label label' h (Answer k a) = ap (Steps (kept s (dressed d (Out k a at)) (on C))) h ∙ steps_to (kept s (Out k a at) C) (kept s (dressed d (Out k a at)) (on C)) label (kept_dressed s (Out k a at) C)
  leave_dressed C s at label label' h Trap = refl

  perform_dressed : (C : Configuration) (s : ℕ) (at : Span) (o : Option Effect) → perform (on C) s (d.place at) (option_map (dressed_effect d) o) ≡ shows (perform C s at o)
  perform_dressed C s at None = refl
  perform_dressed C s at (Some e) = leave_dressed C s at (printing e.printed) (printing e.printed) (printing_dressed e.printed) e.leaves

  send_dressed : (C : Configuration) (s : ℕ) (o : Option Entry) (chan message : Val) (at : Span) → send (on C) s (option_map (dressed_entry d) o) (dressed_value d chan) (dressed_value d message) (d.place at) ≡ shows (send C s o chan message at)
  send_dressed C s o (Var x) message at = refl
  send_dressed C s o (Chan c) message at = meet_dressed C s (Out (Chan c) message at) (meet_reader C s c message) (meet_reader (on C) s c (dressed_value d message)) (reader_dressed C s c message) o
  send_dressed C s o (Int x) message at = refl
  send_dressed C s o (Char x) message at = refl
  send_dressed C s o (Boolean x) message at = refl
  send_dressed C s o (Text x) message at = refl
  send_dressed C s o (PrimitiveVal f) message at = ap (perform (on C) s (d.place at)) (effect_dressed d f message) ∙ perform_dressed C s at (effect_of f message)
  send_dressed C s o (Record x y) message at = refl

  receive_dressed : (C : Configuration) (s : ℕ) (o : Option Entry) (chan : Val) (replicated : Bool) (pattern : Pat) (body : Process)
      → receive (on C) s (option_map (dressed_entry d) o) (dressed_value d chan) replicated (dressed_pattern d pattern) (dressed d body) ≡ shows (receive C s o chan replicated pattern body)
  receive_dressed C s o (Var x) replicated pattern body = refl
  receive_dressed C s o (Chan c) replicated pattern body = meet_dressed C s (In (Chan c) replicated pattern body) (meet_message C s c replicated pattern body) (meet_message (on C) s c replicated (dressed_pattern d pattern) (dressed d body)) (message_dressed C s c replicated pattern body) o
  receive_dressed C s o (Int x) replicated pattern body = refl
  receive_dressed C s o (Char x) replicated pattern body = refl
  receive_dressed C s o (Boolean x) replicated pattern body = refl
  receive_dressed C s o (Text x) replicated pattern body = refl
  receive_dressed C s o (PrimitiveVal x) replicated pattern body = refl
  receive_dressed C s o (Record x y) replicated pattern body = refl

  branch_dressed : (b : Bool) (x y x' y' : StepOutcome) → x' ≡ shows x → y' ≡ shows y → cond b x' y' ≡ shows (cond b x y)
  branch_dressed true x y x' y' h k = h
  branch_dressed false x y x' y' h k = k

  choose_dressed : (v : Val) (x y x' y' : StepOutcome) → x' ≡ shows x → y' ≡ shows y → choose (dressed_value d v) x' y' ≡ shows (choose v x y)
  choose_dressed (Var z) x y x' y' h k = refl
  choose_dressed (Chan z) x y x' y' h k = refl
  choose_dressed (Int z) x y x' y' h k = refl
  choose_dressed (Char z) x y x' y' h k = refl
  choose_dressed (Boolean b) x y x' y' h k = branch_dressed b x y x' y' h k
  choose_dressed (Text z) x y x' y' h k = refl
  choose_dressed (PrimitiveVal z) x y x' y' h k = refl
  choose_dressed (Record z w) x y x' y' h k = refl

  act_dressed : (C : Configuration) (s : ℕ) (o : Option Entry) (p : Process) → act (on C) s (option_map (dressed_entry d) o) (dressed d p) ≡ shows (act C s o p)
  act_dressed C s o Zero = steps_to (gone s C) (gone s (on C)) Quiet (gone_dressed s C)
  act_dressed C s o (Par p q) = steps_to (added Ready q (kept s p C)) (added Ready (dressed d q) (kept s (dressed d p) (on C))) Quiet (ap (added Ready (dressed d q)) (kept_dressed s p C) ∙ added_dressed Ready q (kept s p C))
  act_dressed C s o (New p) =
      steps_to (kept s (substitute 0 (Chan C.channels ∷ []) p) (with_channel C)) (kept s (substitute 0 (Chan C.channels ∷ []) (dressed d p)) (with_channel (on C))) Quiet
      (ap (λ x. kept s x (with_channel (on C))) (sym (substituted d 0 (Chan C.channels ∷ []) p)) ∙ kept_dressed s (substitute 0 (Chan C.channels ∷ []) p) (with_channel C))
  act_dressed C s o (If test p q) =
      choose_dressed test (Steps (kept s p C) Quiet) (Steps (kept s q C) Quiet) (Steps (kept s (dressed d p) (on C)) Quiet) (Steps (kept s (dressed d q) (on C)) Quiet)
      (steps_to (kept s p C) (kept s (dressed d p) (on C)) Quiet (kept_dressed s p C)) (steps_to (kept s q C) (kept s (dressed d q) (on C)) Quiet (kept_dressed s q C))
  act_dressed C s o (Out chan message at) = send_dressed C s o chan message at
  act_dressed C s o (In chan replicated pattern body) = receive_dressed C s o chan replicated pattern body

  entry_dressed : (C : Configuration) (a o : Option Entry) → act_entry (on C) (option_map (dressed_entry d) a) (option_map (dressed_entry d) o) ≡ shows (act_entry C a o)
  entry_dressed C None o = refl
  entry_dressed C (Some e) o = act_dressed C e.stamp o e.process

  at_stamp : (s : ℕ) (es : List Entry) → entry_at s (map (dressed_entry d) es) ≡ option_map (dressed_entry d) (entry_at s es)
  at_stamp s es = least_dressed (λ e. nat_eq s e.stamp) (λ e. nat_eq s e.stamp) (λ e. refl) es

  at_choice : (es : List Entry) (o : Option ℕ) → option_and_then (λ r. entry_at r (map (dressed_entry d) es)) o ≡ option_map (dressed_entry d) (option_and_then (λ r. entry_at r es) o)
  at_choice es None = refl
  at_choice es (Some r) = at_stamp r es

  pub free_dressed : (C : Configuration) (choice : Choice) → free_step (on C) choice ≡ shows (free_step C choice)
  free_dressed C choice =
      ap (λ x. act_entry (on C) x (option_and_then (λ r. entry_at r (map (dressed_entry d) C.entries)) choice.partner)) (at_stamp choice.acting C.entries)
      ∙ ap (act_entry (on C) (option_map (dressed_entry d) (entry_at choice.acting C.entries))) (at_choice C.entries choice.partner)
      ∙ entry_dressed C (entry_at choice.acting C.entries) (option_and_then (λ r. entry_at r C.entries) choice.partner)

  stamps_kept : (o : Option Entry) → option_map (λ (u : Entry). u.stamp) (option_map (dressed_entry d) o) ≡ option_map (λ (u : Entry). u.stamp) o
  stamps_kept None = refl
  stamps_kept (Some u) = refl

  abbrev chooses : Configuration → Option Entry → Option Choice
  chooses C o = option_map (λ (e : Entry). record { acting = e.stamp; partner = option_map (λ (u : Entry). u.stamp) (least (is_partner e.process) C.entries) }) o

  chooses_dressed : (C : Configuration) (o : Option Entry) → chooses (on C) (option_map (dressed_entry d) o) ≡ chooses C o
  chooses_dressed C None = refl
  chooses_dressed C (Some e) =
      ap (λ (x : Option ℕ). Some (record { acting = e.stamp; partner = x }))
      (ap (option_map (λ (u : Entry). u.stamp)) (least_dressed (is_partner e.process) (is_partner (dressed d e.process)) (partner_dressed e.process) C.entries) ∙ stamps_kept (least (is_partner e.process) C.entries))

  oldest_dressed : (C : Configuration) → oldest_choice (on C) ≡ oldest_choice C
  oldest_dressed C = ap (chooses (on C)) (least_dressed is_ready is_ready (λ e. refl) C.entries) ∙ chooses_dressed C (least is_ready C.entries)

  step_dressed : (C : Configuration) (o : Option Choice) → step_by (on C) o ≡ shows (step_by C o)
  step_dressed C None = refl
  step_dressed C (Some choice) = free_dressed C choice

  pub next_dressed : (C : Configuration) → next (on C) ≡ shows (next C)
  next_dressed C = ap (step_by (on C)) (oldest_dressed C) ∙ step_dressed C (oldest_choice C)

  -- ---- runs

  shown_dressed : (n : ℕ) (label : Label) → shown n (dressed_label d label) ≡ dressed_labels d (shown n label)
  shown_dressed n Quiet = refl
  shown_dressed n (Comm c v) = refl
  shown_dressed n (Print bytes) = refl

  labels_append : (xs ys : List (ℕ × Label)) → dressed_labels d (xs ++ ys) ≡ dressed_labels d xs ++ dressed_labels d ys
  labels_append [] ys = refl
  labels_append (x ∷ xs) ys = ap (λ l. (x.0, dressed_label d x.1) ∷ l) (labels_append xs ys)

  reaches_dressed : (n : ℕ) (C : Configuration) (labels : List (ℕ × Label)) (D : Configuration) → Reaches n C labels D → Reaches n (on C) (dressed_labels d labels) (on D)
  reaches_dressed zero C labels D r = (ap on r.0, ap (dressed_labels d) r.1)
  reaches_dressed (suc n) C labels D r = (
    on r.0,
    dressed_labels d r.1,
    dressed_label d r.2,
    reaches_dressed n C r.1 r.0 r.3,
    next_dressed r.0 ∙ ap shows r.4,
    ap (dressed_labels d) r.5 ∙ labels_append r.1 (shown (suc n) r.2) ∙ ap (λ x. dressed_labels d r.1 ++ x) (sym (shown_dressed (suc n) r.2)),
  )

  not_finished : (o : StepOutcome) → o ≢ Finished → shows o ≢ Finished
  not_finished (Steps C l) h = λ e. cc
  not_finished (Traps at) h = λ e. cc
  not_finished Wrong h = λ e. cc
  not_finished Finished h = λ e. h refl

  ends_dressed : (fuel steps : ℕ) (o : StepOutcome) (end : End) → EndsAfter fuel steps o end → EndsAfter fuel steps (shows o) (dressed_end d end)
  ends_dressed fuel steps o Done h = (h.0, ap shows h.1)
  ends_dressed fuel steps o FuelSpent h = (h.0, not_finished o h.1)
  ends_dressed fuel steps o (run.Trap at) h = (h.0, ap shows h.1)
  ends_dressed fuel steps o Misshapen h = (h.0, ap shows h.1)

  prints_dressed : (label : Label) → printed_by (dressed_label d label) ≡ printed_by label
  prints_dressed Quiet = refl
  prints_dressed (Comm c v) = refl
  prints_dressed (Print bytes) = refl

  bytes_dressed : (labels : List (ℕ × Label)) → bytes_of (dressed_labels d labels) ≡ bytes_of labels
  bytes_dressed [] = refl
  bytes_dressed (l ∷ ls) = ap (λ x. x ++ bytes_of (dressed_labels d ls)) (prints_dressed l.1) ∙ ap (λ x. printed_by l.1 ++ x) (bytes_dressed ls)

  runs_dressed : (p : Process) (fuel : ℕ) (end : End) (labels : List (ℕ × Label)) → Runs p fuel end labels → Runs (dressed d p) fuel (dressed_end d end) (dressed_labels d labels)
  runs_dressed p fuel end labels r = record {
    steps = r.steps;
    last = on r.last;
    reached = reaches_dressed r.steps (opening p) labels r.last r.reached;
    ends = subst (λ o. EndsAfter fuel r.steps o (dressed_end d end)) (sym (next_dressed r.last)) (ends_dressed fuel r.steps (next r.last) end r.ends);
  }

pub steps_are_dressed : StepsAreDressed
steps_are_dressed d apart C = next_dressed d apart C

pub runs_are_dressed : RunsAreDressed
runs_are_dressed d apart p fuel end labels r = (runs_dressed d apart p fuel end labels r, bytes_dressed d apart labels)
