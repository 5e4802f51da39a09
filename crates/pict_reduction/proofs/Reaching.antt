-- Each reduction of the reading of a reached configuration is reached by silent steps and then one that reduces.
use Rattle.std.proofs.Common.{ℕ, zero, suc, ◌+◌, ◌≤◌, ◌≡◌, ◌⊎◌, inl, inr, Bool, true, false, not, ◌&&◌, nat_eq, cond, List, [], ◌∷◌, ◌++◌, map, refl, sym, ap, ◌∙◌, subst, arith, Option, Some, None, option_map}
use Rattle.std.specs.Prelude.{if◌then◌else◌}
use Rattle.std.proofs.lemmas.Bool.Decides.{nat_tests}
use Rattle.pict_syntax.specs.declared.span.Span.{Span}
use Rattle.pict_syntax.specs.declared.primitive.Primitive.{Primitive}
use Rattle.pict_core.specs.Term.{Val, Pat, Process, Var, Chan, Int, Char, Boolean, Text, PrimitiveVal, Record, Zero, Par, New, Out, In, If}
use Rattle.pict_core.specs.Closed.{IsOver, IsUnder, binds}
use Rattle.pict_core.specs.Matching.{match_value}
use Rattle.pict_core.specs.Substitution.{substitute}
use Rattle.pict_core.specs.Primitives.{Effect, Leaves, Nothing, Answer, Trap, effect_of}
use Rattle.pict_core.specs.Configuration.{Ready, Entry, Configuration, StampsRise, opening}
use Rattle.pict_core.specs.Step.{Label, Quiet, Comm, Choice, Free, is_ready, is_partner, is_parked_reader, is_parked_message, reads, sends, least, entry_at, gone, kept, added, served, took, printing}
use Rattle.pict_core.specs.Run.{printed_by}
use Rattle.pict_core.specs.Table.{Row, takes_first, takes_second, primitive_ends, primitive_answers, output_meets_reader, output_meets_server, reader_meets_message, server_meets_message}
use Rattle.pict_core.proofs.Stamps.{without, EntryClosed, least_closed, least_passes, least_above, StampsRise-without}
use Rattle.pict_core.proofs.Entries.{Each, Fails, none_passes, least_none, each_found, without_past, without_swap}
use Rattle.pict_core.proofs.Partners.{own_channel}
use Rattle.pict_reduction.specs.Congruence.{Congruent, reflexive, symmetric, transitive, in_par}
use Rattle.pict_reduction.specs.Reduction.{IsName, variable, channel, left_by, bytes_printed, Reduces, up_to}
use Rattle.pict_reduction.specs.Reading.{read, composition, declare, reading}
use Rattle.pict_reduction.specs.Components.{Components, components, beside, make_room}
use Rattle.pict_reduction.specs.Redex.{Fires, communicates, serves, chooses, performs, Reacts}
use Rattle.pict_reduction.specs.Reached.{StandsAt}
use Rattle.pict_reduction.specs.Silent.{IsReachedBySteps, is_silent, has_none, acts_silently}
use Rattle.pict_reduction.specs.Laws.{ReductionsAreReached}
use Rattle.pict_core.proofs.Replacing.{two}
use Rattle.pict_reduction.proofs.Renaming.{same, each_as, each-same}
use Rattle.pict_reduction.proofs.Natural.{replace_effect, replace_leaves}
use Rattle.pict_reduction.proofs.Readings.{read_val, read_substituted}
use Rattle.pict_reduction.proofs.Alike.{no_room}
use Rattle.pict_reduction.proofs.Apart.{IsReached, Standing, NoMessage, NoReader, opening_reached, freely_reached}
use Rattle.pict_reduction.proofs.Reductions.{printing_bytes, same_process, unit_front, declared_congruent, added_pulled, kept_front, served_front, took_front, served_channels, took_channels, remains}
use Rattle.pict_reduction.proofs.Firing.{reductions_are_reactions}
use Rattle.pict_reduction.proofs.Rebuilding.{together, rebuilt, rebuilds, alike_rebuilt, left_rebuilt, Picks, here, there, Picked, permutation_picked, picked_together}
use Rattle.pict_reduction.proofs.Exhausting.{row_free, exhausted}
use Rattle.pict_reduction.proofs.Reflecting.{match_read, primitive_read}

-- ---- processes as they are read

abbrev pub readings : ℕ → List Entry → List Process
readings n es = map (λ (e : Entry). read n e.process) es

composed : (n : ℕ) (es : List Entry) → composition n es ≡ together (readings n es)
composed n [] = refl
composed n (e ∷ es) = ap (Par (read n e.process)) (composed n es)

-- ---- entries that are picked

record EntryPicked (n : ℕ) (es : List Entry) (y : Process) (ys : List Process) : Type 0 where
  entry : Entry
  stands : entry_at entry.stamp es ≡ Some entry
  is : read n entry.process ≡ y
  others : ys ≡ readings n (without entry.stamp es)

picked_first : (n low : ℕ) (d : Entry) (es : List Entry) (next : ℕ) → StampsRise low (d ∷ es) next → EntryPicked n (d ∷ es) (read n d.process) (readings n es)
picked_first n low d es next r =
    let t : nat_eq d.stamp d.stamp ≡ true = own_channel d.stamp in
    record {
      entry = d;
      stands = ap (λ b. cond b (Some d) (entry_at d.stamp es)) t;
      is = refl;
      others = ap (readings n) (sym (ap (λ b. cond (not b) (d ∷ without d.stamp es) (without d.stamp es)) t ∙ without_past d.stamp (d.stamp + 1) es next (omega arith) r.1));
    }

picked_later : (n low : ℕ) (d : Entry) (es : List Entry) (next : ℕ) (y : Process) (ys : List Process) → StampsRise low (d ∷ es) next → EntryPicked n es y ys → EntryPicked n (d ∷ es) y (read n d.process ∷ ys)
picked_later n low d es next y ys r h =
    let above : d.stamp + 1 ≤ h.entry.stamp = least_above _ (d.stamp + 1) es next h.entry r.1 h.stands in
    let t : nat_eq h.entry.stamp d.stamp ≡ false = grind (arith, nat_tests, above) in
    record {
      entry = h.entry;
      stands = ap (λ b. cond b (Some d) (entry_at h.entry.stamp es)) t ∙ h.stands;
      is = h.is;
      others = ap (λ l. read n d.process ∷ l) h.others ∙ ap (readings n) (sym (ap (λ b. cond (not b) (d ∷ without h.entry.stamp es) (without h.entry.stamp es)) t));
    }

entry_picked : (n low : ℕ) (es : List Entry) (next : ℕ) (y : Process) (xs ys : List Process) → StampsRise low es next → xs ≡ readings n es → Picks y xs ys → EntryPicked n es y ys
entry_picked n low [] next y xs ys r e here = cc
entry_picked n low [] next y xs ys r e (there h) = cc
entry_picked n low (d ∷ es) next y xs ys r e here =
    let f : y ≡ read n d.process = cc in
    let g : ys ≡ readings n es = cc in
    subst (λ l. EntryPicked n (d ∷ es) y l) (sym g) (subst (λ z. EntryPicked n (d ∷ es) z (readings n es)) (sym f) (picked_first n low d es next r))
entry_picked n low (d ∷ es) next y xs ys r e (there {z = z} {zs = zs} {ys = us} h) =
    let f : z ≡ read n d.process = cc in
    let g : zs ≡ readings n es = cc in
    subst (λ x. EntryPicked n (d ∷ es) y (x ∷ us)) (sym f) (picked_later n low d es next y us r (entry_picked n (d.stamp + 1) es next y zs us r.1 g h))

-- an entry that stands among the others stands among all
back_cons : (s t : ℕ) (d u : Entry) (es : List Entry) (next : ℕ) → StampsRise (d.stamp + 1) es next → (entry_at s (without t es) ≡ Some u → entry_at s es ≡ Some u)
    → (b : Bool) → nat_eq t d.stamp ≡ b → (k : Bool) → nat_eq s d.stamp ≡ k → entry_at s (cond (not b) (d ∷ without t es) (without t es)) ≡ Some u → cond k (Some d) (entry_at s es) ≡ Some u
back_cons s t d u es next r ih true f true g e =
    let found : entry_at s es ≡ Some u = ih e in
    let above : d.stamp + 1 ≤ u.stamp = least_above _ (d.stamp + 1) es next u r found in
    let is : nat_eq s u.stamp ≡ true = least_passes _ es u found in
    absurd (grind (arith, nat_tests, above, is, g))
back_cons s t d u es next r ih true f false g e = ih e
back_cons s t d u es next r ih false f true g e = sym (ap (λ b. cond b (Some d) (entry_at s (without t es))) g) ∙ e
back_cons s t d u es next r ih false f false g e = ih (sym (ap (λ b. cond b (Some d) (entry_at s (without t es))) g) ∙ e)

back_without : (s t low : ℕ) (u : Entry) (es : List Entry) (next : ℕ) → StampsRise low es next → entry_at s (without t es) ≡ Some u → entry_at s es ≡ Some u
back_without s t low u [] next r e = cc
back_without s t low u (d ∷ es) next r e = back_cons s t d u es next r.1 (λ k. back_without s t (d.stamp + 1) u es next r.1 k) (nat_eq t d.stamp) refl (nat_eq s d.stamp) refl e

-- ---- forms that are read

pub record OutRead (n : ℕ) (p : Process) (x v : Val) (at : Span) : Type 0 where
  pub chan : Val
  pub message : Val
  pub is : p ≡ Out chan message at
  pub chan_read : read_val n chan ≡ x
  pub message_read : read_val n message ≡ v

pub out_read : (n : ℕ) (p : Process) (x v : Val) (at : Span) → read n p ≡ Out x v at → OutRead n p x v at
out_read n (Out chan message place) x v at e =
    let f : place ≡ at = cc in
    let g : read_val n chan ≡ x = cc in
    let h : read_val n message ≡ v = cc in
    record { chan = chan; message = message; is = ap (Out chan message) f; chan_read = g; message_read = h }
out_read n Zero x v at e = cc
out_read n (Par p q) x v at e = cc
out_read n (New p) x v at e = cc
out_read n (In chan b pattern body) x v at e = cc
out_read n (If t p q) x v at e = cc

record InRead (n : ℕ) (p : Process) (x : Val) (r : Bool) (pattern : Pat) (body : Process) : Type 0 where
  chan : Val
  inner : Process
  is : p ≡ In chan r pattern inner
  chan_read : read_val n chan ≡ x
  body_read : read n inner ≡ body

in_read : (n : ℕ) (p : Process) (x : Val) (r : Bool) (pattern : Pat) (body : Process) → read n p ≡ In x r pattern body → InRead n p x r pattern body
in_read n (In chan b pat inner) x r pattern body e =
    let f : b ≡ r = cc in
    let g : pat ≡ pattern = cc in
    let h : read_val n chan ≡ x = cc in
    let k : read n inner ≡ body = cc in
    record { chan = chan; inner = inner; is = two (λ y z. In chan y z inner) f g; chan_read = h; body_read = k }
in_read n Zero x r pattern body e = cc
in_read n (Par p q) x r pattern body e = cc
in_read n (New p) x r pattern body e = cc
in_read n (Out chan v at) x r pattern body e = cc
in_read n (If t p q) x r pattern body e = cc

record IfRead (n : ℕ) (p : Process) (b : Bool) (first second : Process) : Type 0 where
  yes_inner : Process
  no_inner : Process
  is : p ≡ If (Boolean b) yes_inner no_inner
  yes_read : read n yes_inner ≡ first
  no_read : read n no_inner ≡ second

boolean_back : (n : ℕ) (v : Val) (b : Bool) → read_val n v ≡ Boolean b → v ≡ Boolean b
boolean_back n (Boolean c) b e = e
boolean_back n (Var x) b e = cc
boolean_back n (Chan x) b e = cc
boolean_back n (Int x) b e = cc
boolean_back n (Char x) b e = cc
boolean_back n (Text x) b e = cc
boolean_back n (PrimitiveVal x) b e = cc
boolean_back n (Record x y) b e = cc

pub primitive_back : (n : ℕ) (v : Val) (f : Primitive) → read_val n v ≡ PrimitiveVal f → v ≡ PrimitiveVal f
primitive_back n (PrimitiveVal c) f e = e
primitive_back n (Boolean x) f e = cc
primitive_back n (Var x) f e = cc
primitive_back n (Chan x) f e = cc
primitive_back n (Int x) f e = cc
primitive_back n (Char x) f e = cc
primitive_back n (Text x) f e = cc
primitive_back n (Record x y) f e = cc

if_read : (n : ℕ) (p : Process) (b : Bool) (first second : Process) → read n p ≡ If (Boolean b) first second → IfRead n p b first second
if_read n (If t y z) b first second e =
    let f : read_val n t ≡ Boolean b = cc in
    let g : read n y ≡ first = cc in
    let h : read n z ≡ second = cc in
    record { yes_inner = y; no_inner = z; is = ap (λ x. If x y z) (boolean_back n t b f); yes_read = g; no_read = h }
if_read n Zero b first second e = cc
if_read n (Par p q) b first second e = cc
if_read n (New p) b first second e = cc
if_read n (Out chan v at) b first second e = cc
if_read n (In chan r pattern body) b first second e = cc

-- what is read as a name is a channel, in a closed process
record ChannelRead (n : ℕ) (chan x : Val) : Type 0 where
  number : ℕ
  is : chan ≡ Chan number
  read_as : x ≡ Var number

channel_read : (n : ℕ) (chan x : Val) → IsOver 0 n chan → IsName x → read_val n chan ≡ x → ChannelRead n chan x
channel_read n (Chan c) x u name e = record { number = c; is = refl; read_as = sym e }
channel_read n (Var level) x u name e = absurd (omega (arith, u))
channel_read n (Int i) x u variable e = cc
channel_read n (Int i) x u channel e = cc
channel_read n (Char i) x u variable e = cc
channel_read n (Char i) x u channel e = cc
channel_read n (Boolean i) x u variable e = cc
channel_read n (Boolean i) x u channel e = cc
channel_read n (Text i) x u variable e = cc
channel_read n (Text i) x u channel e = cc
channel_read n (PrimitiveVal i) x u variable e = cc
channel_read n (PrimitiveVal i) x u channel e = cc
channel_read n (Record i j) x u variable e = cc
channel_read n (Record i j) x u channel e = cc

record Matched (n : ℕ) (pattern : Pat) (v : Val) (bound : List Val) : Type 0 where
  parts : List Val
  matches : match_value pattern v ≡ Some parts
  parts_read : map (read_val n) parts ≡ bound

matched_by : (n : ℕ) (pattern : Pat) (v : Val) (bound : List Val) (o : Option (List Val)) → match_value pattern v ≡ o → option_map (map (read_val n)) o ≡ Some bound → Matched n pattern v bound
matched_by n pattern v bound None e h = cc
matched_by n pattern v bound (Some parts) e h = let k : map (read_val n) parts ≡ bound = cc in record { parts = parts; matches = e; parts_read = k }

matched : (n : ℕ) (pattern : Pat) (v w : Val) (bound : List Val) → read_val n v ≡ w → match_value pattern w ≡ Some bound → Matched n pattern v bound
matched n pattern v w bound e h = matched_by n pattern v bound (match_value pattern v) refl (sym (match_read n pattern v) ∙ ap (match_value pattern) e ∙ h)

-- ---- primes

abbrev IsPrime : Process → Type 0
IsPrime Zero = ⊥
IsPrime (Par p q) = ⊥
IsPrime (New p) = ⊥
IsPrime (Out chan v at) = Unit {0}
IsPrime (In chan r pattern body) = Unit {0}
IsPrime (If t p q) = Unit {0}

standing_prime : (c : ℕ) (p : Process) → StandsAt c p → IsPrime p
standing_prime c Zero (inl h) = cc
standing_prime c Zero (inr h) = cc
standing_prime c (Par p q) (inl h) = cc
standing_prime c (Par p q) (inr h) = cc
standing_prime c (New p) (inl h) = cc
standing_prime c (New p) (inr h) = cc
standing_prime c (Out chan v at) h = tt
standing_prime c (In chan r pattern body) h = tt
standing_prime c (If t p q) h = tt

unsilent_prime : (es : List Entry) (p : Process) → is_silent es p ≡ false → IsPrime p
unsilent_prime es Zero h = cc
unsilent_prime es (Par p q) h = cc
unsilent_prime es (New p) h = cc
unsilent_prime es (Out chan v at) h = tt
unsilent_prime es (In chan r pattern body) h = tt
unsilent_prime es (If t p q) h = tt

abbrev EntryPrime : Entry → Type 0
EntryPrime e = IsPrime e.process

entry_prime : (n : ℕ) (all : List Entry) (e : Entry) → Standing n e → acts_silently all e ≡ false → EntryPrime e
entry_prime n all e st h = go (is_ready e) refl h
  where
    go : (b : Bool) → is_ready e ≡ b → b && is_silent all e.process ≡ false → EntryPrime e
    go true t k = unsilent_prime all e.process k
    go false t k = let s = st t in standing_prime s.0 e.process s.2

all_prime : (n : ℕ) (all es : List Entry) → Each (Standing n) es → Each (Fails (acts_silently all)) es → Each EntryPrime es
all_prime n all [] st h = tt
all_prime n all (e ∷ es) st h = (entry_prime n all e st.0 h.0, all_prime n all es st.1 h.1)

prime_components : (m n : ℕ) (p : Process) → IsPrime p → components m (read n p) ≡ record { news = 0; primes = read n p ∷ [] }
prime_components m n Zero h = absurd h
prime_components m n (Par p q) h = absurd h
prime_components m n (New p) h = absurd h
prime_components m n (Out chan v at) h = refl
prime_components m n (In chan r pattern body) h = refl
prime_components m n (If t p q) h = refl

beside_prime : (m : ℕ) (p : Process) (ps : List Process) → beside m (record { news = 0; primes = p ∷ [] }) (record { news = 0; primes = ps }) ≡ record { news = 0; primes = p ∷ ps }
beside_prime m p ps =
    ap (λ l. record { news = 0; primes = l })
    (two (λ (us : List Process) (vs : List Process). us ++ vs) (each_as (make_room (m + 0) 0) same (no_room (m + 0)) (p ∷ []) ∙ each-same (p ∷ [])) (each_as (make_room m 0) same (no_room m) ps ∙ each-same ps))

composition_components : (m n : ℕ) (es : List Entry) → Each EntryPrime es → components m (composition n es) ≡ record { news = 0; primes = readings n es }
composition_components m n [] h = refl
composition_components m n (e ∷ es) h = two (beside m) (prime_components m n e.process h.0) (composition_components m n es h.1) ∙ beside_prime m (read n e.process) (readings n es)

declare_components : (n k : ℕ) (p : Process) (ps : List Process) → components (n + k) p ≡ record { news = 0; primes = ps } → components n (declare k p) ≡ record { news = k; primes = ps }
declare_components n k p ps h = more 0 k p (let e : k ≡ k + 0 = omega arith in e) h
  where
    more : (j k : ℕ) (q : Process) → {m : ℕ} → m ≡ k + j → components (n + k) q ≡ record { news = j; primes = ps } → components n (declare k q) ≡ record { news = m; primes = ps }
    more j zero q e h =
        let f : n + 0 ≡ n = omega arith in
        let g : j ≡ zero + j = omega arith in
        ap (λ m. components m q) (sym f) ∙ h ∙ ap (λ m. record { news = m; primes = ps }) (g ∙ sym e)
    more j (suc k) q e h =
        let f : suc (n + k) ≡ n + suc k = omega arith in
        let g : suc k + j ≡ k + suc j = omega arith in
        more (suc j) k (New q) (e ∙ g) (ap (λ (c : Components). record { news = suc c.news; primes = c.primes }) (ap (λ m. components m q) f ∙ h))

-- ---- the last step

-- a step to what is left of a redex, beside the others
record FiredStep (C : Configuration) (bytes : List ℕ) (residual : Process) (rest : List Process) : Type 0 where
  after : Configuration
  choice : Choice
  label : Label
  prints : printed_by label ≡ bytes
  step : Free C choice after label
  same : Congruent 0 (reading after) (declare C.channels (Par residual (together rest)))

module _ (C : Configuration) (r : IsReached C) (none : least (acts_silently C.entries) C.entries ≡ None) where
  n : ℕ
  n = C.channels

  still : Each (Fails (acts_silently C.entries)) C.entries
  still = none_passes (acts_silently C.entries) C.entries none

  pub reading_components : components 0 (reading C) ≡ record { news = C.channels; primes = readings C.channels C.entries }
  reading_components =
      declare_components 0 C.channels (composition C.channels C.entries) (readings C.channels C.entries)
      (composition_components (0 + C.channels) C.channels C.entries (all_prime C.channels C.entries C.entries r.apart.standing still))

  closed_at : (a : Entry) → entry_at a.stamp C.entries ≡ Some a → IsUnder 0 C.channels a.process
  closed_at a stands = subst (EntryClosed C.channels) stands (least_closed C.channels _ C.entries r.is.closed)

  -- who stands at no channel is ready
  pub ready_by : (a : Entry) → entry_at a.stamp C.entries ≡ Some a → ((c : ℕ) → StandsAt c a.process → ⊥) → is_ready a ≡ true
  ready_by a stands h = go (is_ready a) refl
    where
      go : (b : Bool) → is_ready a ≡ b → is_ready a ≡ true
      go true t = t
      go false t = let s = each_found (Standing C.channels) _ C.entries a r.apart.standing stands t in absurd (h s.0 s.2)

  others_left : (es : List Entry) (xs rest : List Process) → xs ≡ readings C.channels es → Picked xs rest → Congruent C.channels (composition C.channels es) (together rest)
  others_left es xs rest e h = transitive (same_process (composed C.channels es ∙ ap together (sym e))) (picked_together xs rest h)

  reads_as : (E : Configuration) (p : Process) → E.channels ≡ C.channels → Congruent C.channels (composition C.channels E.entries) p → Congruent 0 (reading E) (declare C.channels p)
  reads_as E p e h = subst (λ m. Congruent 0 (declare m (composition m E.entries)) (declare C.channels p)) (sym e) (declared_congruent C.channels _ _ h)

  pub never_partner : (p : Process) → ((u : Entry) → is_partner p u ≡ false) → (es : List Entry) → least (is_partner p) es ≡ None
  never_partner p f es = least_none (is_partner p) es (each es)
    where
      each : (es : List Entry) → Each (Fails (is_partner p)) es
      each [] = tt
      each (e ∷ es) = (f e, each es)

  no_stand_if : (a : Entry) (t : Val) (p q : Process) → a.process ≡ If t p q → (c : ℕ) → StandsAt c a.process → ⊥
  no_stand_if a t p q e c (inl h) = let k : sends c a.process ≡ false = ap (sends c) e in cc
  no_stand_if a t p q e c (inr h) = let k : reads c a.process ≡ false = ap (reads c) e in cc

  pub no_stand_primitive : (a : Entry) (f : Primitive) (v : Val) (at : Span) → a.process ≡ Out (PrimitiveVal f) v at → (c : ℕ) → StandsAt c a.process → ⊥
  no_stand_primitive a f v at e c (inl h) = let k : sends c a.process ≡ false = ap (sends c) e in cc
  no_stand_primitive a f v at e c (inr h) = let k : reads c a.process ≡ false = ap (reads c) e in cc

  -- one process acts alone, and keeps the turn as another
  alone_kept : (a : Entry) (p x : Process) (label : Label) (xs rest : List Process) → entry_at a.stamp C.entries ≡ Some a → is_ready a ≡ true → a.process ≡ p → ((u : Entry) → is_partner p u ≡ false)
      → Row C a.stamp None p (kept a.stamp x C) label → xs ≡ readings C.channels (without a.stamp C.entries) → Picked xs rest → FiredStep C (printed_by label) (read C.channels x) rest
  alone_kept a p x label xs rest stands ready e f row others h =
      let free = row_free C a stands ready None p (kept a.stamp x C) label e (never_partner p f C.entries) row in
      record {
        after = kept a.stamp x C;
        choice = free.0;
        label = label;
        prints = refl;
        step = free.1;
        same = reads_as (kept a.stamp x C) _ refl (transitive (kept_front C r.is a stands ready (closed_at a stands) x) (in_par reflexive (others_left (without a.stamp C.entries) xs rest others h)));
      }

  choose : (a : Entry) (b : Bool) (x y : Process) (xs rest : List Process) → entry_at a.stamp C.entries ≡ Some a → a.process ≡ If (Boolean b) x y → xs ≡ readings C.channels (without a.stamp C.entries) → Picked xs rest
      → FiredStep C [] (if b then read C.channels x else read C.channels y) rest
  choose a true x y xs rest stands e others h = alone_kept a (If (Boolean true) x y) x Quiet xs rest stands (ready_by a stands (no_stand_if a (Boolean true) x y e)) e (λ u. refl) takes_first others h
  choose a false x y xs rest stands e others h = alone_kept a (If (Boolean false) x y) y Quiet xs rest stands (ready_by a stands (no_stand_if a (Boolean false) x y e)) e (λ u. refl) takes_second others h

  -- a primitive, by what it leaves
  perform_by : (a : Entry) (f : Primitive) (v : Val) (at : Span) (effect : Effect) (p : Process) (xs rest : List Process) → entry_at a.stamp C.entries ≡ Some a → a.process ≡ Out (PrimitiveVal f) v at
      → effect_of f v ≡ Some effect → (l : Leaves) → effect.leaves ≡ l → left_by at (replace_leaves (record { variable = λ level. Var (level + C.channels); channel = Var }) l) ≡ Some p
      → xs ≡ readings C.channels (without a.stamp C.entries) → Picked xs rest → FiredStep C (bytes_printed effect.printed) p rest
  perform_by a f v at effect p xs rest stands e h Nothing l g others k =
      let ready = ready_by a stands (no_stand_primitive a f v at e) in
      let zero_left : Zero ≡ p = cc in
      let free = row_free C a stands ready None (Out (PrimitiveVal f) v at) (gone a.stamp C) _ e (never_partner (Out (PrimitiveVal f) v at) (λ u. refl) C.entries) (primitive_ends h l) in
      subst (λ q. FiredStep C (bytes_printed effect.printed) q rest) zero_left (record {
        after = gone a.stamp C;
        choice = free.0;
        label = printing effect.printed;
        prints = sym (printing_bytes effect.printed);
        step = free.1;
        same = reads_as (gone a.stamp C) _ refl (transitive (others_left (without a.stamp C.entries) xs rest others k) (symmetric unit_front));
      })
  perform_by a f v at effect p xs rest stands e h (Answer y z) l g others k =
      let left : read C.channels (Out y z at) ≡ p = cc in
      subst (λ b. FiredStep C b p rest) (sym (printing_bytes effect.printed)) (subst (λ q. FiredStep C (printed_by (printing effect.printed)) q rest) left
      (alone_kept a (Out (PrimitiveVal f) v at) (Out y z at) (printing effect.printed) xs rest stands (ready_by a stands (no_stand_primitive a f v at e)) e (λ u. refl) (primitive_answers h l) others k))
  perform_by a f v at effect p xs rest stands e h Trap l g others k = cc

  perform : (a : Entry) (f : Primitive) (v w : Val) (at : Span) (effect : Effect) (p : Process) (xs rest : List Process) → entry_at a.stamp C.entries ≡ Some a → a.process ≡ Out (PrimitiveVal f) v at
      → read_val C.channels v ≡ w → effect_of f w ≡ Some effect → left_by at effect.leaves ≡ Some p → xs ≡ readings C.channels (without a.stamp C.entries) → Picked xs rest → FiredStep C (bytes_printed effect.printed) p rest
  perform a f v w at effect p xs rest stands e m h l others k = by (effect_of f v) refl (sym (primitive_read C.channels f v) ∙ ap (effect_of f) m ∙ h)
    where
      by : (o : Option Effect) → effect_of f v ≡ o → option_map (replace_effect (record { variable = λ level. Var (level + C.channels); channel = Var })) o ≡ Some effect → FiredStep C (bytes_printed effect.printed) p rest
      by None t s = cc
      by (Some inner) t s =
          let same : replace_effect (record { variable = λ level. Var (level + C.channels); channel = Var }) inner ≡ effect = cc in
          subst (λ (x : Effect). FiredStep C (bytes_printed x.printed) p rest) same (perform_by a f v at inner p xs rest stands e t inner.leaves refl (ap (λ (x : Effect). left_by at x.leaves) same ∙ l) others k)

  -- ---- a communication

  module _ (a u : Entry) (c : ℕ) (b : Bool) (v : Val) (at : Span) (pattern : Pat) (body : Process) (parts : List Val) (rest : List Process)
      (a_stands : entry_at a.stamp C.entries ≡ Some a) (u_stands : entry_at u.stamp C.entries ≡ Some u)
      (a_is : a.process ≡ Out (Chan c) v at) (u_is : u.process ≡ In (Chan c) b pattern body) (matches : match_value pattern v ≡ Some parts)
      (left : Congruent C.channels (composition C.channels (without u.stamp (without a.stamp C.entries))) (together rest)) where
    x : Process
    x = substitute 0 parts body

    a_sends : sends c a.process ≡ true
    a_sends = ap (sends c) a_is ∙ own_channel c

    u_reads : reads c u.process ≡ true
    u_reads = ap (reads c) u_is ∙ own_channel c

    output_row : (b' : Bool) → u.process ≡ In (Chan c) b' pattern body → Row C a.stamp (Some u) (Out (Chan c) v at) (served b' (In (Chan c) b' pattern body) (added Ready (substitute 0 parts body) (gone u.stamp (gone a.stamp C)))) (Comm c v)
    output_row true e = output_meets_server e matches
    output_row false e = output_meets_reader e matches

    input_row : (b' : Bool) → Row C u.stamp (Some a) (In (Chan c) b' pattern body) (added Ready (substitute 0 parts body) (gone a.stamp (took b' u.stamp C))) (Comm c v)
    input_row true = server_meets_message a_is matches
    input_row false = reader_meets_message a_is matches

    output_acts : is_ready a ≡ true → is_ready u ≡ false → FiredStep C [] (remains b (read C.channels (In (Chan c) b pattern body)) (read C.channels (substitute 0 parts body))) rest
    output_acts ready parked =
        let E = served b (In (Chan c) b pattern body) (added Ready (substitute 0 parts body) (gone u.stamp (gone a.stamp C))) in
        let is_reader : is_parked_reader c u ≡ true = ap (λ t. not t && reads c u.process) parked ∙ u_reads in
        let free = row_free C a a_stands ready (Some u) (Out (Chan c) v at) E (Comm c v) a_is (u_stands, is_reader) (output_row b u_is) in
        record {
          after = E;
          choice = free.0;
          label = Comm c v;
          prints = refl;
          step = free.1;
          same = reads_as E _ (served_channels C r.is a a_stands ready (closed_at a a_stands) b (In (Chan c) b pattern body) (added Ready (substitute 0 parts body) (gone u.stamp (gone a.stamp C))))
              (transitive (served_front C r.is a a_stands ready (closed_at a a_stands) u u_stands parked b (Chan c) pattern body (substitute 0 parts body) (added Ready (substitute 0 parts body) (gone u.stamp (gone a.stamp C))) refl (added_pulled C.channels C.channels _ _)) (in_par reflexive left));
        }

    input_acts : is_ready a ≡ false → is_ready u ≡ true → FiredStep C [] (remains b (read C.channels (In (Chan c) b pattern body)) (read C.channels (substitute 0 parts body))) rest
    input_acts parked ready =
        let E = added Ready (substitute 0 parts body) (gone a.stamp (took b u.stamp C)) in
        let is_message : is_parked_message c a ≡ true = ap (λ t. not t && sends c a.process) parked ∙ a_sends in
        let free = row_free C u u_stands ready (Some a) (In (Chan c) b pattern body) E (Comm c v) u_is (a_stands, is_message) (input_row b) in
        record {
          after = E;
          choice = free.0;
          label = Comm c v;
          prints = refl;
          step = free.1;
          same = reads_as E _ (took_channels C r.is u u_stands ready (closed_at u u_stands) b)
              (transitive (took_front C r.is u u_stands ready (closed_at u u_stands) a a_stands parked b (Chan c) pattern body (substitute 0 parts body) u_is)
              (in_par reflexive (transitive (same_process (ap (composition C.channels) (without_swap a.stamp u.stamp C.entries))) left)));
        }

    -- one of the two is parked, and the other ready
    meet : FiredStep C [] (remains b (read C.channels (In (Chan c) b pattern body)) (read C.channels (substitute 0 parts body))) rest
    meet = go (is_ready a) refl (is_ready u) refl (r.apart.apart c)
      where
        partnered : (o : Option Entry) → has_none o ≡ false → o ≡ None → ⊥
        partnered None h e = cc
        partnered (Some e) h k = cc

        go : (s : Bool) → is_ready a ≡ s → (t : Bool) → is_ready u ≡ t → NoMessage c C.entries ⊎ NoReader c C.entries → FiredStep C [] (remains b (read C.channels (In (Chan c) b pattern body)) (read C.channels (substitute 0 parts body))) rest
        go true e false f k = output_acts e f
        go false e true f k = input_acts e f
        go true e true f (inl k) =
            let waits : acts_silently C.entries u ≡ false = each_found (Fails (acts_silently C.entries)) _ C.entries u still u_stands in
            let g : is_silent C.entries (In (Chan c) b pattern body) ≡ false = ap (is_silent C.entries) (sym u_is) ∙ ap (λ y. y && is_silent C.entries u.process) (sym f) ∙ waits in
            absurd (partnered (least (is_partner (In (Chan c) b pattern body)) C.entries) g (least_none (is_parked_message c) C.entries k))
        go true e true f (inr k) =
            let waits : acts_silently C.entries a ≡ false = each_found (Fails (acts_silently C.entries)) _ C.entries a still a_stands in
            let g : is_silent C.entries (Out (Chan c) v at) ≡ false = ap (is_silent C.entries) (sym a_is) ∙ ap (λ y. y && is_silent C.entries a.process) (sym e) ∙ waits in
            absurd (partnered (least (is_partner (Out (Chan c) v at)) C.entries) g (least_none (is_parked_reader c) C.entries k))
        go false e false f (inl k) =
            let no : is_parked_message c a ≡ false = each_found (Fails (is_parked_message c)) _ C.entries a k a_stands in
            let yes : is_parked_message c a ≡ true = ap (λ t. not t && sends c a.process) e ∙ a_sends in
            cc
        go false e false f (inr k) =
            let no : is_parked_reader c u ≡ false = each_found (Fails (is_parked_reader c)) _ C.entries u k u_stands in
            let yes : is_parked_reader c u ≡ true = ap (λ t. not t && reads c u.process) f ∙ u_reads in
            cc

  -- an output and an input that are read as x!v and x?p = P, or x?*p = P
  communicate : (x v : Val) (at : Span) (b : Bool) (pattern : Pat) (body : Process) (bound : List Val) (rest : List Process) → IsName x → match_value pattern v ≡ Some bound
      → Picked (readings C.channels C.entries) (Out x v at ∷ In x b pattern body ∷ rest) → FiredStep C [] (remains b (In x b pattern body) (substitute C.channels bound body)) rest
  communicate x v at b pattern body bound rest name h picked =
      let o = entry_picked C.channels 0 C.entries C.next_stamp (Out x v at) _ _ r.is.stamps refl picked.1 in
      let i = entry_picked C.channels 0 (without o.entry.stamp C.entries) C.next_stamp (In x b pattern body) _ _ (StampsRise-without o.entry.stamp 0 C.entries C.next_stamp r.is.stamps) o.others picked.2.1 in
      let i_stands : entry_at i.entry.stamp C.entries ≡ Some i.entry = back_without i.entry.stamp o.entry.stamp 0 i.entry C.entries C.next_stamp r.is.stamps i.stands in
      let out = out_read C.channels o.entry.process x v at o.is in
      let inp = in_read C.channels i.entry.process x b pattern body i.is in
      let o_closed : IsUnder 0 C.channels (Out out.chan out.message at) = subst (IsUnder 0 C.channels) out.is (closed_at o.entry o.stands) in
      let i_closed : IsUnder 0 C.channels (In inp.chan b pattern inp.inner) = subst (IsUnder 0 C.channels) inp.is (closed_at i.entry i_stands) in
      let sent = channel_read C.channels out.chan x o_closed.0 name out.chan_read in
      let got = channel_read C.channels inp.chan x i_closed.0 name inp.chan_read in
      let same : Var got.number ≡ Var sent.number = sym got.read_as ∙ sent.read_as in
      let number : got.number ≡ sent.number = cc in
      let m = matched C.channels pattern out.message v bound out.message_read h in
      let o_is : o.entry.process ≡ Out (Chan sent.number) out.message at = out.is ∙ ap (λ y. Out y out.message at) sent.is in
      let i_is : i.entry.process ≡ In (Chan sent.number) b pattern inp.inner = inp.is ∙ ap (λ y. In y b pattern inp.inner) (got.is ∙ ap Chan number) in
      let input_read : In (Var sent.number) b pattern (read C.channels inp.inner) ≡ In x b pattern body = two (λ y z. In y b pattern z) (sym sent.read_as) inp.body_read in
      let body_read : read C.channels (substitute 0 m.parts inp.inner) ≡ substitute C.channels bound body =
      read_substituted C.channels (0 + binds pattern) m.parts inp.inner i_closed.1 ∙ two (substitute C.channels) m.parts_read inp.body_read in
      subst (λ q. FiredStep C [] q rest) (two (remains b) input_read body_read)
      (meet o.entry i.entry sent.number b out.message at pattern inp.inner m.parts rest o.stands i_stands o_is i_is m.matches (others_left (without i.entry.stamp (without o.entry.stamp C.entries)) _ rest i.others picked.2.2))

  fired : (bytes : List ℕ) (redex : List Process) (residual : Process) (rest : List Process) → Fires C.channels bytes redex residual → Picked (readings C.channels C.entries) (redex ++ rest) → FiredStep C bytes residual rest
  fired bytes redex residual rest (communicates {x = x} {v = v} {at = at} {pattern = pattern} {body = body} {bound = bound} name h) picked = communicate x v at false pattern body bound rest name h picked
  fired bytes redex residual rest (serves {x = x} {v = v} {at = at} {pattern = pattern} {body = body} {bound = bound} name h) picked = communicate x v at true pattern body bound rest name h picked
  fired bytes redex residual rest (chooses {b = b} {p = p} {q = q}) picked =
      let o = entry_picked C.channels 0 C.entries C.next_stamp (If (Boolean b) p q) _ _ r.is.stamps refl picked.1 in
      let i = if_read C.channels o.entry.process b p q o.is in
      subst (λ z. FiredStep C [] z rest) (two (λ y z. if b then y else z) i.yes_read i.no_read) (choose o.entry b i.yes_inner i.no_inner _ rest o.stands i.is o.others picked.2)
  fired bytes redex residual rest (performs {f = f} {v = v} {at = at} {effect = effect} {p = p} h l) picked =
      let o = entry_picked C.channels 0 C.entries C.next_stamp (Out (PrimitiveVal f) v at) _ _ r.is.stamps refl picked.1 in
      let i = out_read C.channels o.entry.process (PrimitiveVal f) v at o.is in
      perform o.entry f i.message v at effect residual _ rest o.stands (i.is ∙ ap (λ y. Out y i.message at) (primitive_back C.channels i.chan f i.chan_read)) i.message_read h l o.others picked.2

  -- each reduction of the reading is one step
  pub one_reaction : (bytes : List ℕ) (b : Components) → Reacts 0 bytes (components 0 (reading C)) b → (E : Configuration) × (choice : Choice) × (label : Label) × Free C choice E label × (printed_by label ≡ bytes) × Congruent 0 (reading E) (rebuilt b)
  one_reaction bytes b reacts =
      let react : Reacts 0 bytes (record { news = C.channels; primes = readings C.channels C.entries }) b = subst (λ a. Reacts 0 bytes a b) reading_components reacts in
      let e : 0 + C.channels ≡ C.channels = omega arith in
      let f = fired bytes react.redex react.residual react.rest (subst (λ k. Fires k bytes react.redex react.residual) e react.fires) (permutation_picked _ _ react.chosen) in (
        f.after,
        f.choice,
        f.label,
        f.step,
        f.prints,
        transitive f.same (transitive (symmetric (left_rebuilt 0 C.channels react.residual react.rest)) (symmetric (alike_rebuilt 0 b _ react.left))),
      )

  -- each reduction of the reading is one step
  pub one_step : (bytes : List ℕ) (R : Process) → Reduces 0 bytes (reading C) R → (E : Configuration) × (choice : Choice) × (label : Label) × Free C choice E label × (printed_by label ≡ bytes) × Congruent 0 (reading E) R
  one_step bytes R h =
      let s = one_reaction bytes (components 0 R) (reductions_are_reactions 0 bytes (reading C) R h) in
      (s.0, s.1, s.2, s.3, s.4, transitive s.5 (symmetric (rebuilds 0 R)))

reached_by : (C : Configuration) (bytes : List ℕ) (R : Process) → IsReached C → Reduces 0 bytes (reading C) R → IsReachedBySteps C bytes R
reached_by C bytes R r h =
    let x = exhausted C r in
    let reduces : Reduces 0 bytes (reading x.last) R = up_to (symmetric x.same) h reflexive in
    let s = one_step x.last x.is x.none bytes R reduces in
    record {
      before = x.last;
      after = s.0;
      choice = s.1;
      label = s.2;
      silent = x.reached;
      step = s.3;
      prints = s.4;
      reduces = up_to reflexive reduces (symmetric s.5);
      same = s.5;
    }

pub reductions_are_reached : ReductionsAreReached
reductions_are_reached p C bytes R u reached h = reached_by C bytes R (freely_reached (opening p) C (opening_reached p u) reached) h
