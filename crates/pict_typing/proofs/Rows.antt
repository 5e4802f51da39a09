-- Each row of the table of steps keeps typing, and a well typed configuration has no wrong step.
use Rattle.std.specs.Prelude.{slice_get, nat_eq, option_and_then, if◌then◌else◌}
use Rattle.std.proofs.Common.{◌≡◌, ℕ, ◌+◌, Bool, true, false, List, [], ◌∷◌, ◌++◌, map, length, refl, sym, ◌∙◌, ap, subst, Option, Some, None, length-append}
use Rattle.pict_syntax.specs.declared.span.Span.{Span}
use Rattle.pict_types.specs.Types.{Both, PlainType, Chan}
use Rattle.pict_sub.specs.Subtyping.{IsSubtype}
use Rattle.pict_core.specs.Term as core
use Rattle.pict_core.specs.Term.{Val, Pat, Process, Zero, Par, New, Out, In, If}
use Rattle.pict_core.specs.Substitution.{substitute}
use Rattle.pict_core.specs.Primitives.{Effect, Leaves, Nothing, Answer, Trap}
use Rattle.pict_core.specs.Configuration.{Ready, Parked, Entry, Configuration}
use Rattle.pict_core.specs.Step.{Label, Quiet, Comm, StepOutcome, Steps, Traps, Wrong, Finished, entry_at, gone, with_process, kept, added, received, served, took, meet_reader, meet_message, printing, leave, perform, send, receive, choose, act, Choice, is_ready, reads, sends, is_partner, NamesPartner, IsChoice, act_entry, free_step, Free, IsWrong}
use Rattle.pict_core.proofs.Partners.{channel_is, and_right}
use Rattle.pict_core.proofs.Entries.{Each, each_map, each_without, each_added, each_found}
use Rattle.pict_typing.specs.Worlds.{World, over, IsTypeIn}
use Rattle.pict_typing.specs.Values.{HasType, channel_has}
use Rattle.pict_typing.specs.Processes.{IsTyped, inert, beside, fresh, output, input, test, AreClosedTypes, AreTyped, IsWellTyped}
use Rattle.pict_typing.specs.Laws.{IsReceived}
use Rattle.pict_typing.proofs.Closed.{closed_type}
use Rattle.pict_typing.proofs.Forms.{Fits, takes_type}
use Rattle.pict_typing.proofs.Above.{fits_above}
use Rattle.pict_typing.proofs.Canonical.{canonical, sent_fits, condition, IsReadable, readable, IsWritable, to_channel, to_primitive, writable}
use Rattle.pict_typing.proofs.Performing.{LeavesTyped, Performs, performs}
use Rattle.pict_typing.proofs.ValuesPut.{typed_put, typed_beside}
use Rattle.pict_typing.proofs.Receiving.{received_typed}

-- ---- entries

abbrev IsTypedEntry : World → Entry → Type 0
IsTypedEntry w e = IsTyped w e.process

each_of : (w : World) (es : List Entry) → AreTyped w es → Each (IsTypedEntry w) es
each_of w [] x = tt
each_of w (e ∷ es) x = (x.0, each_of w es x.1)

of_each : (w : World) (es : List Entry) → Each (IsTypedEntry w) es → AreTyped w es
of_each w [] x = tt
of_each w (e ∷ es) x = (x.0, of_each w es x.1)

each_with : (w : World) (s : ℕ) (p : Process) (es : List Entry) → IsTyped w p → Each (IsTypedEntry w) es → Each (IsTypedEntry w) (map (with_process s p) es)
each_with w s p [] h x = tt
each_with w s p (e ∷ es) h x = (go (nat_eq s e.stamp) refl, each_with w s p es h x.1)
  where
    go : (b : Bool) → nat_eq s e.stamp ≡ b → IsTyped w (with_process s p e).process
    go true q = rw q h
    go false q = rw q x.0

-- ---- one more channel

closed_more : (names : List (List ℕ)) (ms : List PlainType) (t : PlainType) → AreClosedTypes names ms → IsTypeIn names [] t → AreClosedTypes names (ms ++ t ∷ [])
closed_more names [] t x w = (w, tt)
closed_more names (m ∷ ms) t x w = (x.0, closed_more names ms t x.1 w)

pub last_message : (ms : List PlainType) (t : PlainType) → slice_get (ms ++ t ∷ []) (length ms) ≡ Some t
last_message [] t = refl
last_message (m ∷ ms) t = last_message ms t

-- ---- partners

-- the entry, if there is one, is a parked partner of the process
abbrev IsPartnerOf : Process → Option Entry → Type 0
IsPartnerOf p None = Unit {0}
IsPartnerOf p (Some u) = is_partner p u ≡ true

record IsReader (c : ℕ) (p : Process) : Type 0 where
  replicated : Bool
  pattern_ : Pat
  body : Process
  is : p ≡ In (core.Chan c) replicated pattern_ body

record IsMessage (c : ℕ) (p : Process) : Type 0 where
  message : Val
  at : Span
  is : p ≡ Out (core.Chan c) message at

is_reader : (c : ℕ) (p : Process) → reads c p ≡ true → IsReader c p
is_reader c (In x r pat body) e = record { replicated = r; pattern_ = pat; body = body; is = ap (λ z. In z r pat body) (channel_is c x e) }
is_reader c Zero e = absurd (cc)
is_reader c (Par p q) e = absurd (cc)
is_reader c (New p) e = absurd (cc)
is_reader c (Out x v at) e = absurd (cc)
is_reader c (If b p q) e = absurd (cc)

is_message : (c : ℕ) (p : Process) → sends c p ≡ true → IsMessage c p
is_message c (Out x v at) e = record { message = v; at = at; is = ap (λ z. Out z v at) (channel_is c x e) }
is_message c Zero e = absurd (cc)
is_message c (Par p q) e = absurd (cc)
is_message c (New p) e = absurd (cc)
is_message c (In x r pat body) e = absurd (cc)
is_message c (If b p q) e = absurd (cc)

-- ---- outcomes

-- an outcome after a step of a well typed configuration: it isn't wrong, and where it is a configuration this is well typed
abbrev IsSound : List (List ℕ) → StepOutcome → Type 0
IsSound names (Steps C label) = IsWellTyped names C
IsSound names (Traps at) = Unit {0}
IsSound names Wrong = ⊥
IsSound names Finished = Unit {0}

module _ (names : List (List ℕ)) (C : Configuration) (good : IsWellTyped names C) where
  abbrev ms : List PlainType
  ms = good.messages

  abbrev here : World
  here = over names good.messages

  abbrev AllTyped : List Entry → Type 0
  AllTyped es = Each (IsTypedEntry here) es

  all_typed : AllTyped C.entries
  all_typed = each_of here C.entries good.typed

  without_typed : (s : ℕ) (D : Configuration) → AllTyped D.entries → AllTyped (gone s D).entries
  without_typed s D x = each_without (IsTypedEntry here) s D.entries x

  with_typed : (s : ℕ) (p : Process) → IsTyped here p → AllTyped (kept s p C).entries
  with_typed s p h = each_with here s p C.entries h all_typed

  steps_typed : (D : Configuration) → D.channels ≡ C.channels → AllTyped D.entries → IsWellTyped names D
  steps_typed D e x = record { messages = good.messages; closed = good.closed; one_each = good.one_each ∙ sym e; typed = of_each here D.entries x }

  -- a message at a channel meets an input there
  meet_typed : {x : Val} {replicated : Bool} {pattern_ : Pat} {body : Process} (c : ℕ) (m : PlainType) (message : Val) → x ≡ core.Chan c → slice_get ms c ≡ Some m → Fits names ms message m → IsTyped here (In x replicated pattern_ body) → IsReceived names ms pattern_ message body
  meet_typed c m message q e y (input t f h o b) =
      let r = readable names ms good.closed h in
      let same_ : m ≡ r.message = same_message _ c r.number m r.message q r.is e r.typed in
      received_typed t good.closed f o b (fits_above names ms good.closed t (closed_type names ms c m good.closed e) f y (subst (λ k. IsSubtype [] k t) (sym same_) r.below))
    where
      same_message : (x : Val) (c e : ℕ) (m k : PlainType) → x ≡ core.Chan c → x ≡ core.Chan e → slice_get ms c ≡ Some m → slice_get ms e ≡ Some k → m ≡ k
      same_message x c e m k p q f g =
          let i : core.Chan c ≡ core.Chan e = sym p ∙ q in
          let j : c ≡ e = cc in
          let l : Some m ≡ Some k = sym f ∙ ap (slice_get ms) j ∙ g in
          cc

  -- ---- the rows

  abbrev PartnerTyped : Option Entry → Type 0
  PartnerTyped None = Unit {0}
  PartnerTyped (Some u) = IsTyped here u.process

  both_gone : (s r : ℕ) → AllTyped (gone r (gone s C)).entries
  both_gone s r = without_typed r (gone s C) (without_typed s C all_typed)

  served_typed : (replicated : Bool) (reader p : Process) (s r : ℕ) → IsTyped here reader → IsTyped here p → IsWellTyped names (served replicated reader (added Ready p (gone r (gone s C))))
  served_typed true reader p s r h k = steps_typed _ refl (each_added (IsTypedEntry here) _ _ (each_added (IsTypedEntry here) _ _ (both_gone s r) k) h)
  served_typed false reader p s r h k = steps_typed _ refl (each_added (IsTypedEntry here) _ _ (both_gone s r) k)

  took_typed : (replicated : Bool) (p : Process) (s r : ℕ) → IsTyped here p → IsWellTyped names (added Ready p (gone r (took replicated s C)))
  took_typed true p s r k = steps_typed _ refl (each_added (IsTypedEntry here) _ _ (without_typed r C all_typed) k)
  took_typed false p s r k = steps_typed _ refl (each_added (IsTypedEntry here) _ _ (both_gone s r) k)

  -- an output or an input without a partner
  parks_typed : (s : ℕ) (p : Process) → IsTyped here p → IsWellTyped names (added Parked p (gone s C))
  parks_typed s p h = steps_typed _ refl (each_added (IsTypedEntry here) _ _ (without_typed s C all_typed) h)

  -- an output at a channel
  send_sound : (s c : ℕ) (m : PlainType) (message : Val) (at : Span) (partner : Option Entry) → slice_get ms c ≡ Some m → Fits names ms message m → IsTyped here (Out (core.Chan c) message at) → PartnerTyped partner → IsPartnerOf (Out (core.Chan c) message at) partner → IsSound names (send C s partner (core.Chan c) message at)
  send_sound s c m message at None e y h k p = parks_typed s _ h
  send_sound s c m message at (Some u) e y h k p =
      let r = is_reader c u.process (and_right (is_ready u) (reads c u.process) p) in
      let j = subst (IsTyped here) r.is k in
      let z = meet_typed c m message refl e y j in
      subst (λ q. IsSound names (meet_reader C s c message u.stamp q)) (sym r.is) (subst (λ q. IsSound names (received q r.body (λ p. Steps (served r.replicated (In (core.Chan c) r.replicated r.pattern_ r.body) (added Ready p (gone u.stamp (gone s C)))) (Comm c message)))) (sym z.is) (served_typed r.replicated _ _ s u.stamp j z.typed))

  -- what is parked at a channel is a message of its type
  message_fits : (c : ℕ) (m : PlainType) (v : Val) (at : Span) → slice_get ms c ≡ Some m → IsTyped here (Out (core.Chan c) v at) → Fits names ms v m
  message_fits c m v at e (output t f g i) = sent_to (writable names ms good.closed g)
    where
      sent_to : IsWritable names ms good.closed t (core.Chan c) → Fits names ms v m
      sent_to (to_channel {m = k} e2 y) =
          let l : Some k ≡ Some m = sym e2 ∙ e in
          let j : k ≡ m = cc in
          subst (Fits names ms v) j (sent_fits names ms good.closed f (closed_type names ms c k good.closed e2) y (canonical names ms good.closed i))

  -- an input at a channel
  receive_sound : (s c : ℕ) (m : PlainType) (replicated : Bool) (pattern_ : Pat) (body : Process) (partner : Option Entry) → slice_get ms c ≡ Some m → IsTyped here (In (core.Chan c) replicated pattern_ body) → PartnerTyped partner → IsPartnerOf (In (core.Chan c) replicated pattern_ body) partner → IsSound names (receive C s partner (core.Chan c) replicated pattern_ body)
  receive_sound s c m replicated pattern_ body None e h k p = parks_typed s _ h
  receive_sound s c m replicated pattern_ body (Some u) e h k p =
      let r = is_message c u.process (and_right (is_ready u) (sends c u.process) p) in
      let y = message_fits c m r.message r.at e (subst (IsTyped here) r.is k) in
      let z = meet_typed c m r.message refl e y h in
      subst (λ q. IsSound names (meet_message C s c replicated pattern_ body u.stamp q)) (sym r.is) (subst (λ q. IsSound names (received q body (λ p. Steps (added Ready p (gone u.stamp (took replicated s C))) (Comm c r.message)))) (sym z.is) (took_typed replicated _ s u.stamp z.typed))

  -- an output to a primitive
  perform_sound : (s : ℕ) (at : Span) (e : Option Effect) → Performs names ms good.closed e → IsSound names (perform C s at e)
  perform_sound s at e x = subst (λ z. IsSound names (perform C s at z)) (sym x.is) (leaves_sound (printing x.effect.printed) x.effect.leaves x.leaves)
    where
      leaves_sound : (label : Label) (l : Leaves) → LeavesTyped names ms good.closed l → IsSound names (leave C s at label l)
      leaves_sound label Nothing y = steps_typed _ refl (without_typed s C all_typed)
      leaves_sound label (Answer k a) y = steps_typed _ refl (with_typed s _ (output y.0 y.1 y.2 y.3))
      leaves_sound label Trap y = tt

  out_sound : (s : ℕ) (x v : Val) (at : Span) (partner : Option Entry) (t : PlainType) → IsTypeIn names [] t → Fits names ms v t → IsWritable names ms good.closed t x → IsTyped here (Out x v at) → PartnerTyped partner → IsPartnerOf (Out x v at) partner → IsSound names (send C s partner x v at)
  out_sound s x v at partner t f y (to_channel {c = c} {m = m} e q) h k p = send_sound s c m v at partner e (sent_fits names ms good.closed f (closed_type names ms c m good.closed e) q y) h k p
  out_sound s x v at partner t f y (to_primitive {p = g} q) h k p = perform_sound s at _ (performs names ms good.closed g (sent_fits names ms good.closed f (takes_type names g) q y))

  new_typed : (s : ℕ) (p : Process) (t : PlainType) → IsTypeIn names [] t → IsTyped (record here { variables = Chan Both t ∷ [] }) p → IsWellTyped names (kept s (substitute 0 (core.Chan C.channels ∷ []) p) (record C { channels = C.channels + 1 }))
  new_typed s p t f x =
      let w : World = over names (ms ++ t ∷ []) in
      let closed_ = closed_more names ms t good.closed f in
      let have_ : HasType w (core.Chan C.channels) (Chan Both t) = channel_has (subst (λ n. slice_get (ms ++ t ∷ []) n ≡ Some t) good.one_each (last_message ms t)) in
      let body = typed_put w (core.Chan C.channels ∷ []) (Chan Both t ∷ []) closed_ (have_, tt) refl (typed_beside (t ∷ []) x) in
      let others = each_map (IsTypedEntry here) (IsTypedEntry w) (λ e h. typed_beside (t ∷ []) h) C.entries all_typed in
      record { messages = ms ++ t ∷ []; closed = closed_; one_each = length-append ms (t ∷ []) ∙ ap (λ n. n + 1) good.one_each; typed = of_each w _ (each_with w s _ C.entries body others) }

  sound_act : (s : ℕ) (p : Process) (partner : Option Entry) → IsTyped here p → PartnerTyped partner → IsPartnerOf p partner → IsSound names (act C s partner p)
  sound_act s Zero partner inert k q = steps_typed _ refl (without_typed s C all_typed)
  sound_act s (Par p r) partner (beside x y) k q = steps_typed _ refl (each_added (IsTypedEntry here) _ _ (with_typed s p x) y)
  sound_act s (New p) partner (fresh t f x) k q = new_typed s p t f x
  sound_act s (If b p r) partner (test h x y) k q =
      let c = condition names ms good.closed h in
      subst (λ z. IsSound names (choose z (Steps (kept s p C) Quiet) (Steps (kept s r C) Quiet))) (sym c.is) (branch c.truth)
    where
      branch : (b : Bool) → IsSound names (if b then Steps (kept s p C) Quiet else Steps (kept s r C) Quiet)
      branch true = steps_typed _ refl (with_typed s p x)
      branch false = steps_typed _ refl (with_typed s r y)
  sound_act s (Out x v at) partner (output t f g i) k q = out_sound s x v at partner t f (canonical names ms good.closed i) (writable names ms good.closed g) (output t f g i) k q
  sound_act s (In x rep pat body) partner (input t f h o b) k q = at_reader (readable names ms good.closed h) (input t f h o b) q
    where
      at_reader : IsReadable names ms good.closed t x → IsTyped here (In x rep pat body) → IsPartnerOf (In x rep pat body) partner → IsSound names (receive C s partner x rep pat body)
      at_reader r y q = subst (λ z. IsSound names (receive C s partner z rep pat body)) (sym r.is) (receive_sound s r.number r.message rep pat body partner r.typed (subst (λ z. IsTyped here (In z rep pat body)) r.is y) k (subst (λ z. IsPartnerOf (In z rep pat body) partner) r.is q))

  -- the outcome of each choice
  sound_choice : (choice : Choice) → IsChoice C choice → IsSound names (free_step C choice)
  sound_choice choice x =
      subst (λ z. IsSound names (act_entry C z (option_and_then (λ r. entry_at r C.entries) choice.partner))) (sym x.stands) (by_partner choice.partner x.partner)
    where
      actor_typed : IsTyped here x.actor.process
      actor_typed = each_found (IsTypedEntry here) _ C.entries x.actor all_typed x.stands

      by_partner : (r : Option ℕ) → NamesPartner C.entries x.actor.process r → IsSound names (act C x.actor.stamp (option_and_then (λ r. entry_at r C.entries) r) x.actor.process)
      by_partner None n = sound_act x.actor.stamp x.actor.process None actor_typed tt tt
      by_partner (Some r) n = subst (λ z. IsSound names (act C x.actor.stamp z x.actor.process)) (sym n.1) (sound_act x.actor.stamp x.actor.process (Some n.0) actor_typed (each_found (IsTypedEntry here) _ C.entries n.0 all_typed n.1) n.2)

-- every free step keeps typing
pub free_step_typed : (names : List (List ℕ)) (C : Configuration) (choice : Choice) (D : Configuration) (label : Label) → IsWellTyped names C → Free C choice D label → IsWellTyped names D
free_step_typed names C choice D label good x = subst (IsSound names) x.steps (sound_choice names C good choice x.chosen)

-- and a well typed configuration isn't wrong
pub not_wrong : (names : List (List ℕ)) (C : Configuration) → IsWellTyped names C → IsWrong C → ⊥
not_wrong names C good x = subst (IsSound names) x.wrong (sound_choice names C good x.choice x.chosen)
