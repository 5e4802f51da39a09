-- Each free step leaves the reading congruent, or reduces it by one reduction.
use Rattle.std.proofs.Common.{ℕ, zero, suc, ◌+◌, ◌<◌, ◌≡◌, ◌≢◌, ◌⊎◌, inl, inr, Bool, true, false, not, nat_eq, cond, List, [], ◌∷◌, ◌++◌, map, refl, sym, ap, ◌∙◌, subst, arith, Option, Some, None, add-one}
use Rattle.std.proofs.lemmas.Bool.Decides.{nat_tests}
use Rattle.pict_syntax.specs.declared.span.Span.{Span}
use Rattle.pict_syntax.specs.declared.primitive.Primitive.{Primitive}
use Rattle.pict_core.specs.Term.{Val, Pat, Process, Chan, Boolean, PrimitiveVal, Zero, Par, New, Out, In, If}
use Rattle.pict_core.specs.Closed.{IsUnder, binds}
use Rattle.pict_core.specs.Matching.{match_value}
use Rattle.pict_core.specs.Substitution.{substitute}
use Rattle.pict_core.specs.Primitives.{Effect, Nothing, Answer, effect_of}
use Rattle.pict_core.specs.Configuration.{Ready, Parked, Entry, Configuration, IsConfiguration, StampsRise}
use Rattle.pict_core.specs.Step.{Label, Comm, printing, is_ready, is_parked_reader, is_parked_message, entry_at, gone, kept, added, with_channel, with_process, served, took}
use Rattle.pict_core.proofs.Stamps.{without, StampsRise-without, AreClosed-without, EntryClosed, least_closed}
use Rattle.pict_reduction.specs.Congruence.{Congruent, reflexive, symmetric, transitive, in_par, in_new, unit, commutative, associative, extrusion, raised}
use Rattle.pict_reduction.specs.Reduction.{variable, left_by, bytes_printed, Reduces, communicates, serves, chooses, performs, up_to}
use Rattle.pict_reduction.specs.Reduction as reduction
use Rattle.pict_reduction.specs.Reading.{naming, read, composition, declare, reading}
use Rattle.pict_reduction.specs.Laws.{StepsAreReductions}
use Rattle.pict_core.specs.Run.{printed_by}
use Rattle.pict_core.specs.Table.{Row, ends, forks, makes_channel, takes_first, takes_second, primitive_ends, primitive_answers, output_parks, output_meets_reader, output_meets_server, input_parks, reader_meets_message, server_meets_message}
use Rattle.pict_reduction.proofs.Steps.{Meets, Stepped, free_stepped}
use Rattle.pict_core.proofs.Entries.{with_process_past, without_past, without_swap, least_without, parked_is}
use Rattle.pict_reduction.proofs.Apart.{reader_channel, message_channel}
use Rattle.pict_reduction.proofs.Natural.{match_natural, effect_natural, replace_leaves}
use Rattle.pict_reduction.proofs.Readings.{read_substituted, read_new, composition_raised}
use Rattle.pict_core.proofs.Partners.{ready_no_message, ready_no_reader}

-- ---- congruence

pub same_process : {n : ℕ} {p q : Process} → p ≡ q → Congruent n p q
same_process {n = n} {p = p} e = subst (Congruent n p) e reflexive

-- P | (Q | R) is Q | (P | R)
pub exchange_front : {n : ℕ} {p q r : Process} → Congruent n (Par p (Par q r)) (Par q (Par p r))
exchange_front = transitive (symmetric associative) (transitive (in_par commutative reflexive) associative)

pub unit_front : {n : ℕ} {p : Process} → Congruent n (Par Zero p) p
unit_front = transitive commutative unit

-- ---- compositions

module _ (m n : ℕ) where
  pulled_cons : (s : ℕ) (d a : Entry) (es : List Entry) (next : ℕ) → StampsRise (d.stamp + 1) es next
      → (entry_at s es ≡ Some a → Congruent m (composition n es) (Par (read n a.process) (composition n (without s es))))
      → (b : Bool) → nat_eq s d.stamp ≡ b → cond b (Some d) (entry_at s es) ≡ Some a
      → Congruent m (Par (read n d.process) (composition n es)) (Par (read n a.process) (composition n (cond (not b) (d ∷ without s es) (without s es))))
  pulled_cons s d a es next r ih true t e =
      let same : d ≡ a = cc in
      let below : s < d.stamp + 1 = grind (arith, nat_tests) in
      same_process (ap (λ (x : Entry). Par (read n x.process) (composition n es)) same ∙ ap (λ l. Par (read n a.process) (composition n l)) (sym (without_past s (d.stamp + 1) es next below r)))
  pulled_cons s d a es next r ih false t e = transitive (in_par reflexive (ih e)) exchange_front

  -- the process at stamp s, and the others
  pub pulled : (s : ℕ) (a : Entry) (low : ℕ) (es : List Entry) (next : ℕ) → StampsRise low es next → entry_at s es ≡ Some a → Congruent m (composition n es) (Par (read n a.process) (composition n (without s es)))
  pulled s a low [] next r e = cc
  pulled s a low (d ∷ es) next r e = pulled_cons s d a es next r.1 (λ k. pulled s a (d.stamp + 1) es next r.1 k) (nat_eq s d.stamp) refl e

  kept_cons : (s : ℕ) (p : Process) (d a : Entry) (es : List Entry) (next : ℕ) → StampsRise (d.stamp + 1) es next
      → (entry_at s es ≡ Some a → Congruent m (composition n (map (with_process s p) es)) (Par (read n p) (composition n (without s es))))
      → (b : Bool) → nat_eq s d.stamp ≡ b → cond b (Some d) (entry_at s es) ≡ Some a
      → Congruent m (composition n (cond b (record d { process = p }) d ∷ map (with_process s p) es)) (Par (read n p) (composition n (cond (not b) (d ∷ without s es) (without s es))))
  kept_cons s p d a es next r ih true t e =
      let below : s < d.stamp + 1 = grind (arith, nat_tests) in
      same_process (ap (λ l. Par (read n p) (composition n l)) (with_process_past s p (d.stamp + 1) es next below r ∙ sym (without_past s (d.stamp + 1) es next below r)))
  kept_cons s p d a es next r ih false t e = transitive (in_par reflexive (ih e)) exchange_front

  pub kept_pulled : (s : ℕ) (p : Process) (a : Entry) (low : ℕ) (es : List Entry) (next : ℕ) → StampsRise low es next → entry_at s es ≡ Some a → Congruent m (composition n (map (with_process s p) es)) (Par (read n p) (composition n (without s es)))
  kept_pulled s p a low [] next r e = cc
  kept_pulled s p a low (d ∷ es) next r e = kept_cons s p d a es next r.1 (λ k. kept_pulled s p a (d.stamp + 1) es next r.1 k) (nat_eq s d.stamp) refl e

  -- the last entry, and the others
  pub added_pulled : (es : List Entry) (e : Entry) → Congruent m (composition n (es ++ e ∷ [])) (Par (read n e.process) (composition n es))
  added_pulled [] e = reflexive
  added_pulled (d ∷ es) e = transitive (in_par reflexive (added_pulled es e)) exchange_front

-- ---- under the declared channels

pub declared_congruent : (n : ℕ) (p q : Process) → Congruent n p q → Congruent 0 (declare n p) (declare n q)
declared_congruent zero p q h = h
declared_congruent (suc n) p q h = declared_congruent n (New p) (New q) (in_new h)

declared_reduces : {bytes : List ℕ} (n : ℕ) (p q : Process) → Reduces n bytes p q → Reduces 0 bytes (declare n p) (declare n q)
declared_reduces zero p q h = h
declared_reduces (suc n) p q h = declared_reduces n (New p) (New q) (reduction.in_new h)

abbrev Advances : ℕ → Label → Process → Process → Type 0
Advances n label p q = (Congruent n p q × (printed_by label ≡ [])) ⊎ Reduces n (printed_by label) p q

pub printing_bytes : (o : Option (List ℕ)) → bytes_printed o ≡ printed_by (printing o)
printing_bytes None = refl
printing_bytes (Some bytes) = refl

-- ---- what a primitive leaves

printed_leaves : (n : ℕ) (f : Primitive) (v : Val) (at : Span) (e : Effect) → effect_of f v ≡ Some e → e.leaves ≡ Nothing → Reduces n (bytes_printed e.printed) (read n (Out (PrimitiveVal f) v at)) Zero
printed_leaves n f v at e h k = performs (effect_natural (naming n) f v e h) (ap (λ l. left_by at (replace_leaves (naming n) l)) k)

answer_leaves : (n : ℕ) (f : Primitive) (v : Val) (at : Span) (e : Effect) (x y : Val) → effect_of f v ≡ Some e → e.leaves ≡ Answer x y → Reduces n (bytes_printed e.printed) (read n (Out (PrimitiveVal f) v at)) (read n (Out x y at))
answer_leaves n f v at e x y h k = performs (effect_natural (naming n) f v e h) (ap (λ l. left_by at (replace_leaves (naming n) l)) k)

-- ---- a communication

-- what is left of the reader
abbrev pub remains : Bool → Process → Process → Process
remains false reader p = p
remains true reader p = Par p reader

pub communication : (n m d : ℕ) (v : Val) (at : Span) (r : Bool) (chan : Val) (pattern : Pat) (body : Process) (bound : List Val) → chan ≡ Chan d → match_value pattern v ≡ Some bound → IsUnder m n body
    → Reduces n [] (Par (read n (Out (Chan d) v at)) (read n (In chan r pattern body))) (remains r (read n (In chan r pattern body)) (read n (substitute 0 bound body)))
communication n m d v at false chan pattern body bound e h u =
    subst (λ x. Reduces n [] (Par (read n (Out (Chan d) v at)) (read n (In x false pattern body))) (read n (substitute 0 bound body))) (sym e)
    (subst (Reduces n [] (Par (read n (Out (Chan d) v at)) (read n (In (Chan d) false pattern body)))) (sym (read_substituted n m bound body u)) (communicates variable (match_natural (naming n) pattern v bound h)))
communication n m d v at true chan pattern body bound e h u =
    subst (λ x. Reduces n [] (Par (read n (Out (Chan d) v at)) (read n (In x true pattern body))) (Par (read n (substitute 0 bound body)) (read n (In x true pattern body)))) (sym e)
    (subst (λ p. Reduces n [] (Par (read n (Out (Chan d) v at)) (read n (In (Chan d) true pattern body))) (Par p (read n (In (Chan d) true pattern body)))) (sym (read_substituted n m bound body u)) (serves variable (match_natural (naming n) pattern v bound h)))

-- ---- the rows

-- P | (Q | R) is (Q | P) | R
pub gather : {n : ℕ} {p q r : Process} → Congruent n (Par p (Par q r)) (Par (Par q p) r)
gather = transitive (symmetric associative) (in_par commutative reflexive)

module _ (C : Configuration) (is : IsConfiguration C) (a : Entry) (stands : entry_at a.stamp C.entries ≡ Some a) (ready : is_ready a ≡ true) (actor_closed : IsUnder 0 C.channels a.process) where
  -- all but the acting process
  abbrev pub others : Process
  others = composition C.channels (without a.stamp C.entries)

  pub front : (p : Process) → a.process ≡ p → Congruent C.channels (composition C.channels C.entries) (Par (read C.channels p) others)
  front p e = transitive (pulled C.channels C.channels a.stamp a 0 C.entries C.next_stamp is.stamps stands) (same_process (ap (λ x. Par (read C.channels x) others) e))

  pub kept_front : (p : Process) → Congruent C.channels (composition C.channels (map (with_process a.stamp p) C.entries)) (Par (read C.channels p) others)
  kept_front p = kept_pulled C.channels C.channels a.stamp p a 0 C.entries C.next_stamp is.stamps stands

  -- the acting process, and what it becomes
  becomes : {bytes : List ℕ} (p q : Process) (es : List Entry) → a.process ≡ p → Reduces C.channels bytes (read C.channels p) q → Congruent C.channels (composition C.channels es) (Par q others) → Reduces C.channels bytes (composition C.channels C.entries) (composition C.channels es)
  becomes p q es e h k = up_to (front p e) (reduction.in_par h) (symmetric k)

  pub new_row : (p : Process) → a.process ≡ New p → Congruent 0 (reading C) (reading (kept a.stamp (substitute 0 (Chan C.channels ∷ []) p) (with_channel C)))
  new_row p e =
      let x : Process = substitute 0 (Chan C.channels ∷ []) p in
      let u : IsUnder (0 + 1) C.channels p = subst (IsUnder 0 C.channels) e actor_closed in
      let below : Congruent (suc C.channels) (composition (suc C.channels) (map (with_process a.stamp x) C.entries)) (Par (read C.channels p) (raised C.channels others)) =
      transitive (kept_pulled (suc C.channels) (suc C.channels) a.stamp x a 0 C.entries C.next_stamp is.stamps stands)
      (same_process (ap (λ y. Par y (composition (suc C.channels) (without a.stamp C.entries))) (read_new C.channels (0 + 1) p u)
      ∙ ap (Par (read C.channels p)) (composition_raised C.channels (without a.stamp C.entries) (AreClosed-without C.channels a.stamp C.entries is.closed)))) in
      let all : Congruent C.channels (composition C.channels C.entries) (New (composition (suc C.channels) (map (with_process a.stamp x) C.entries))) =
      transitive (front (New p) e) (transitive extrusion (in_new (symmetric below))) in
      subst (λ k. Congruent 0 (reading C) (declare k (composition k (map (with_process a.stamp x) C.entries)))) (sym (add-one C.channels)) (declared_congruent C.channels _ _ all)

  -- the acting process, its partner, and the others
  module _ (u : Entry) (u_stands : entry_at u.stamp C.entries ≡ Some u) (parked : is_ready u ≡ false) where
    abbrev pub rest : Process
    rest = composition C.channels (without u.stamp (without a.stamp C.entries))

    apart : u.stamp ≢ a.stamp
    apart e = let same : Some u ≡ Some a = sym u_stands ∙ ap (λ s. entry_at s C.entries) e ∙ stands in let same' : u ≡ a = cc in let b : is_ready a ≡ false = subst (λ x. is_ready x ≡ false) same' parked in let b' : is_ready a ≡ true = ready in cc

    both_front : (p q : Process) → a.process ≡ p → u.process ≡ q → Congruent C.channels (composition C.channels C.entries) (Par (read C.channels p) (Par (read C.channels q) rest))
    both_front p q e f =
        transitive (front p e) (in_par reflexive (transitive
        (pulled C.channels C.channels u.stamp u 0 (without a.stamp C.entries) C.next_stamp (StampsRise-without a.stamp 0 C.entries C.next_stamp is.stamps) (least_without _ a.stamp u C.entries apart u_stands))
        (same_process (ap (λ x. Par (read C.channels x) rest) f))))

    pub served_front : (r : Bool) (chan : Val) (pattern : Pat) (body x : Process) (M : Configuration) → M.channels ≡ C.channels → Congruent C.channels (composition C.channels M.entries) (Par (read C.channels x) rest)
        → Congruent C.channels (composition C.channels (served r (In chan r pattern body) M).entries) (Par (remains r (read C.channels (In chan r pattern body)) (read C.channels x)) rest)
    served_front false chan pattern body x M e h = h
    served_front true chan pattern body x M e h =
        transitive (added_pulled C.channels C.channels M.entries (record { stamp = M.next_stamp; mark = Parked; process = In chan true pattern body }))
        (transitive (in_par reflexive h) (gather))

    pub took_front : (r : Bool) (chan : Val) (pattern : Pat) (body x : Process) → a.process ≡ In chan r pattern body
        → Congruent C.channels (composition C.channels (added Ready x (gone u.stamp (took r a.stamp C))).entries) (Par (remains r (read C.channels (In chan r pattern body)) (read C.channels x)) rest)
    took_front false chan pattern body x e = added_pulled C.channels C.channels _ _
    took_front true chan pattern body x e =
        transitive (added_pulled C.channels C.channels (without u.stamp C.entries) (record { stamp = C.next_stamp; mark = Ready; process = x }))
        (transitive (in_par reflexive (transitive
        (pulled C.channels C.channels a.stamp a 0 (without u.stamp C.entries) C.next_stamp (StampsRise-without u.stamp 0 C.entries C.next_stamp is.stamps) (least_without _ u.stamp a C.entries (λ h. apart (sym h)) stands))
        (same_process (ap (λ y. Par (read C.channels y) (composition C.channels (without a.stamp (without u.stamp C.entries)))) e ∙ ap (λ l. Par (read C.channels (In chan true pattern body)) (composition C.channels l)) (without_swap a.stamp u.stamp C.entries)))))
        (symmetric associative))

  pub served_channels : (r : Bool) (q : Process) (M : Configuration) → (served r q M).channels ≡ M.channels
  served_channels true q M = refl
  served_channels false q M = refl

  pub took_channels : (r : Bool) → (took r a.stamp C).channels ≡ C.channels
  took_channels true = refl
  took_channels false = refl

  -- over as many channels
  same_channels : {bytes : List ℕ} (E : Configuration) → E.channels ≡ C.channels → Reduces C.channels bytes (composition C.channels C.entries) (composition C.channels E.entries) → Reduces 0 bytes (reading C) (reading E)
  same_channels {bytes = bytes} E e h = subst (λ n. Reduces 0 bytes (reading C) (declare n (composition n E.entries))) (sym e) (declared_reduces C.channels _ _ h)

  -- an output meets a parked reader
  reader_advances : (r : Bool) (d : ℕ) (v : Val) (at : Span) (u : Entry) (chan : Val) (pattern : Pat) (body : Process) (bound : List Val) → u.process ≡ In chan r pattern body → match_value pattern v ≡ Some bound
      → a.process ≡ Out (Chan d) v at → entry_at u.stamp C.entries ≡ Some u → is_parked_reader d u ≡ true → IsUnder 0 C.channels u.process
      → Advances 0 (Comm d v) (reading C) (reading (served r (In chan r pattern body) (added Ready (substitute 0 bound body) (gone u.stamp (gone a.stamp C)))))
  reader_advances r d v at u chan pattern body bound f h e there reads under =
      let parked : is_ready u ≡ false = parked_is (is_parked_reader d) u (ready_no_reader d) reads in
      let closed : IsUnder 0 C.channels (In chan r pattern body) = subst (IsUnder 0 C.channels) f under in
      let x : Process = substitute 0 bound body in
      let q : Process = In chan r pattern body in
      inr (same_channels (served r q (added Ready x (gone u.stamp (gone a.stamp C)))) (served_channels r q (added Ready x (gone u.stamp (gone a.stamp C)))) (up_to
      (transitive (both_front u there parked (Out (Chan d) v at) q e f) (symmetric associative))
      (reduction.in_par (communication C.channels (0 + binds pattern) d v at r chan pattern body bound (reader_channel d u chan r pattern body reads f) h closed.1))
      (symmetric (served_front u there parked r chan pattern body x (added Ready x (gone u.stamp (gone a.stamp C))) refl (added_pulled C.channels C.channels _ _)))))

  -- an input meets a parked message
  message_advances : (r : Bool) (d : ℕ) (v : Val) (at : Span) (u : Entry) (chan : Val) (pattern : Pat) (body : Process) (bound : List Val) → u.process ≡ Out chan v at → match_value pattern v ≡ Some bound
      → a.process ≡ In (Chan d) r pattern body → entry_at u.stamp C.entries ≡ Some u → is_parked_message d u ≡ true
      → Advances 0 (Comm d v) (reading C) (reading (added Ready (substitute 0 bound body) (gone u.stamp (took r a.stamp C))))
  message_advances r d v at u chan pattern body bound f h e there sends =
      let parked : is_ready u ≡ false = parked_is (is_parked_message d) u (ready_no_message d) sends in
      let closed : IsUnder 0 C.channels (In (Chan d) r pattern body) = subst (IsUnder 0 C.channels) e actor_closed in
      let x : Process = substitute 0 bound body in
      let q : Process = In (Chan d) r pattern body in
      let written : u.process ≡ Out (Chan d) v at = f ∙ ap (λ y. Out y v at) (message_channel d u chan v at sends f) in
      inr (same_channels (added Ready x (gone u.stamp (took r a.stamp C))) (took_channels r) (up_to
      (transitive (both_front u there parked q (Out (Chan d) v at) e written) gather)
      (reduction.in_par (communication C.channels (0 + binds pattern) d v at r (Chan d) pattern body bound refl h closed.1))
      (symmetric (took_front u there parked r (Chan d) pattern body x e))))

  -- the silent rows
  pub ends_reads : a.process ≡ Zero → Congruent 0 (reading C) (reading (gone a.stamp C))
  ends_reads e = declared_congruent C.channels _ _ (transitive (front Zero e) unit_front)

  pub forks_reads : (x y : Process) → a.process ≡ Par x y → Congruent 0 (reading C) (reading (added Ready y (kept a.stamp x C)))
  forks_reads x y e =
      declared_congruent C.channels _ _ (transitive (front (Par x y) e) (symmetric
      (transitive (added_pulled C.channels C.channels (map (with_process a.stamp x) C.entries) (record { stamp = C.next_stamp; mark = Ready; process = y })) (transitive (in_par reflexive (kept_front x)) gather))))

  pub parks_reads : (p : Process) → a.process ≡ p → Congruent 0 (reading C) (reading (added Parked p (gone a.stamp C)))
  parks_reads p e = declared_congruent C.channels _ _ (transitive (front p e) (symmetric (added_pulled C.channels C.channels (without a.stamp C.entries) (record { stamp = C.next_stamp; mark = Parked; process = p }))))

  row_advances : (o : Option Entry) (p : Process) (D : Configuration) (label : Label) → Row C a.stamp o p D label → a.process ≡ p → Meets C.entries p o → ((u : Entry) → o ≡ Some u → IsUnder 0 C.channels u.process) → Advances 0 label (reading C) (reading D)
  row_advances o p D label ends e m k = inl (ends_reads e, refl)
  row_advances o p D label (forks {p = x} {q = y}) e m k = inl (forks_reads x y e, refl)
  row_advances o p D label (makes_channel {p = x}) e m k = inl (new_row x e, refl)
  row_advances o p D label (takes_first {p = x} {q = y}) e m k =
      inr (declared_reduces C.channels _ _ (becomes (If (Boolean true) x y) (read C.channels x) _ e chooses (kept_front x)))
  row_advances o p D label (takes_second {p = x} {q = y}) e m k =
      inr (declared_reduces C.channels _ _ (becomes (If (Boolean false) x y) (read C.channels y) _ e chooses (kept_front y)))
  row_advances o p D label (primitive_ends {f = f} {v = v} {at = at} {e = x} h l) e m k =
      inr (subst (λ b. Reduces 0 b (reading C) (reading D)) (printing_bytes x.printed) (declared_reduces C.channels _ _ (becomes (Out (PrimitiveVal f) v at) Zero _ e (printed_leaves C.channels f v at x h l) (symmetric unit_front))))
  row_advances o p D label (primitive_answers {f = f} {v = v} {k = y} {a = z} {at = at} {e = x} h l) e m k =
      inr (subst (λ b. Reduces 0 b (reading C) (reading D)) (printing_bytes x.printed) (declared_reduces C.channels _ _ (becomes (Out (PrimitiveVal f) v at) (read C.channels (Out y z at)) _ e (answer_leaves C.channels f v at x y z h l) (kept_front (Out y z at)))))
  row_advances o p D label (output_parks {c = d} {v = v} {at = at}) e m k = inl (parks_reads (Out (Chan d) v at) e, refl)
  row_advances o p D label (input_parks {c = d} {b = r} {pattern = pattern} {body = body}) e m k = inl (parks_reads (In (Chan d) r pattern body) e, refl)
  row_advances o p D label (output_meets_reader {c = d} {v = v} {w = chan} {at = at} {u = u} {pattern = pattern} {body = body} {bound = bound} f h) e m k = reader_advances false d v at u chan pattern body bound f h e m.0 m.1 (k u refl)
  row_advances o p D label (output_meets_server {c = d} {v = v} {w = chan} {at = at} {u = u} {pattern = pattern} {body = body} {bound = bound} f h) e m k = reader_advances true d v at u chan pattern body bound f h e m.0 m.1 (k u refl)
  row_advances o p D label (reader_meets_message {c = d} {v = v} {w = chan} {at = at} {u = u} {pattern = pattern} {body = body} {bound = bound} f h) e m k = message_advances false d v at u chan pattern body bound f h e m.0 m.1
  row_advances o p D label (server_meets_message {c = d} {v = v} {w = chan} {at = at} {u = u} {pattern = pattern} {body = body} {bound = bound} f h) e m k = message_advances true d v at u chan pattern body bound f h e m.0 m.1

partner_closed : (C : Configuration) → IsConfiguration C → (p : Process) (o : Option Entry) → Meets C.entries p o → (u : Entry) → o ≡ Some u → IsUnder 0 C.channels u.process
partner_closed C is p None m u e = cc
partner_closed C is p (Some t) m u e =
    let closed : IsUnder 0 C.channels t.process = subst (EntryClosed C.channels) m.0 (least_closed C.channels _ C.entries is.closed) in
    subst (EntryClosed C.channels) e closed

pub steps_are_reductions : StepsAreReductions
steps_are_reductions C choice D label is free =
    let s : Stepped C D label = free_stepped C is choice D label free in
    row_advances C is s.actor s.stands s.ready (subst (EntryClosed C.channels) s.stands (least_closed C.channels _ C.entries is.closed)) s.partner s.actor.process D label s.row refl s.meets (partner_closed C is s.actor.process s.partner s.meets)
