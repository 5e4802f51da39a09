-- Divisions by zero that some order meets are met where what is found stands.
use Rattle.std.proofs.Common.{ℕ, zero, suc, ◌+◌, ◌≡◌, ◌⊎◌, inl, inr, Bool, true, false, nat_eq, ◌≤◌, List, [], ◌∷◌, ◌++◌, map, refl, sym, ap, ◌∙◌, subst, arith, cond, Option, Some, None, option_map, option_and_then}
use Rattle.std.proofs.lemmas.List.Sorted.{IsPermutation-sym}
use Rattle.pict_syntax.specs.declared.span.Span.{Span}
use Rattle.pict_syntax.specs.declared.primitive.Primitive.{Primitive}
use Rattle.pict_core.specs.Term.{Val, Pat, Process, Var, Chan, Int, Char, Boolean, Text, PrimitiveVal, Record, Zero, Par, New, Out, In, If}
use Rattle.pict_core.specs.Matching.{match_value}
use Rattle.pict_core.specs.Primitives.{Effect, Leaves, Nothing, Answer, Trap, effect_of}
use Rattle.pict_core.specs.Configuration.{Entry, Configuration, StampsRise}
use Rattle.pict_core.specs.Step.{Choice, StepOutcome, Traps, IsChoice, free_step, is_ready, is_partner, least, entry_at, act, act_entry, leave, perform, printing, received, meet_reader, meet_message}
use Rattle.pict_core.proofs.Replacing.{two}
use Rattle.pict_reduction.specs.Congruence.{Congruent, symmetric}
use Rattle.pict_reduction.specs.Reduction.{left_by}
use Rattle.pict_reduction.specs.Redex.{Fires, communicates, serves, chooses, performs}
use Rattle.pict_reduction.specs.Reading.{naming, read, composition, declare, reading}
use Rattle.pict_reduction.specs.Components.{Components, components, renamed, AreAlike}
use Rattle.pict_reduction.specs.Congruence.{renaming}
use Rattle.pict_reduction.specs.Silent.{IsStill}
use Rattle.pict_core.proofs.Stamps.{least_above}
use Rattle.pict_core.proofs.Partners.{own_channel}
use Rattle.std.proofs.lemmas.Bool.Decides.{nat_tests}
use Rattle.pict_reduction.proofs.Natural.{effect_natural, replace_effect, replace_leaves}
use Rattle.pict_reduction.proofs.Reflecting.{primitive_read}
use Rattle.pict_reduction.proofs.Alike.{congruent_are_alike}
use Rattle.pict_reduction.proofs.Apart.{IsReached}
use Rattle.pict_reduction.proofs.Rebuilding.{together, Picks, here, there, Picked, permutation_picked}
use Rattle.pict_reduction.proofs.Reaching.{readings, out_read, primitive_back, reading_components, ready_by, never_partner, no_stand_primitive}
use Rattle.pict_exploration.specs.Alone.{ReducesAlone, SettlesTo, at_end, by_reduction}
use Rattle.pict_exploration.specs.Laws.{TrapsAreFound}
use Rattle.pict_exploration.proofs.Covering.{cover_runs, found_reached}
use Rattle.pict_exploration.proofs.Redexes.{FiresAlone, fires_by_itself}

-- ---- outputs that divide by zero

-- an output to a primitive, at this place, which divides by zero
pub record IsTrap (at : Span) (p : Process) : Type 0 where
  pub primitive : Primitive
  pub value : Val
  pub effect : Effect
  pub is : p ≡ Out (PrimitiveVal primitive) value at
  pub acts : effect_of primitive value ≡ Some effect
  pub traps : effect.leaves ≡ Trap

pub data HasTrap (at : Span) : List Process → Type 0 where
  first : {p : Process} {ps : List Process} → IsTrap at p → HasTrap at (p ∷ ps)
  later : {p : Process} {ps : List Process} → HasTrap at ps → HasTrap at (p ∷ ps)

renamed_trap : (f : ℕ → ℕ) (at : Span) (p : Process) → IsTrap at p → IsTrap at (renamed f p)
renamed_trap f at p h = record {
  primitive = h.primitive;
  value = _;
  effect = replace_effect (renaming f) h.effect;
  is = ap (renamed f) h.is;
  acts = effect_natural (renaming f) h.primitive h.value h.effect h.acts;
  traps = ap (replace_leaves (renaming f)) h.traps;
}

each_trap : (f : ℕ → ℕ) (at : Span) (ps : List Process) → HasTrap at ps → HasTrap at (map (renamed f) ps)
each_trap f at ps (first {p = p} h) = first (renamed_trap f at p h)
each_trap f at ps (later {ps = qs} h) = later (each_trap f at qs h)

front_trap : (at : Span) (ps qs : List Process) → HasTrap at ps → HasTrap at (ps ++ qs)
front_trap at ps qs (first h) = first h
front_trap at ps qs (later {ps = rs} h) = later (front_trap at rs qs h)

back_trap : (at : Span) (ps qs : List Process) → HasTrap at qs → HasTrap at (ps ++ qs)
back_trap at [] qs h = h
back_trap at (p ∷ ps) qs h = later (back_trap at ps qs h)

-- ---- in components

trap_components : (n : ℕ) (at : Span) (p : Process) → IsTrap at p → HasTrap at (components n p).primes
trap_components n at p h = subst (λ q. HasTrap at (components n q).primes) (sym h.is) (first (record { primitive = h.primitive; value = h.value; effect = h.effect; is = refl; acts = h.acts; traps = h.traps }))

read_trap : (n : ℕ) (at : Span) (p : Process) → IsTrap at p → IsTrap at (read n p)
read_trap n at p h = record {
  primitive = h.primitive;
  value = _;
  effect = replace_effect (naming n) h.effect;
  is = ap (read n) h.is;
  acts = effect_natural (naming n) h.primitive h.value h.effect h.acts;
  traps = ap (replace_leaves (naming n)) h.traps;
}

entry_cons : (m n : ℕ) (at : Span) (d a : Entry) (es : List Entry) (rest : Option Entry) → IsTrap at a.process → (rest ≡ Some a → HasTrap at (components m (composition n es)).primes) → (b : Bool) → cond b (Some d) rest ≡ Some a
    → HasTrap at (components m (Par (read n d.process) (composition n es))).primes
entry_cons m n at d a es rest h ih true e =
    let same : d ≡ a = cc in
    front_trap at _ _ (each_trap _ at _ (trap_components m at (read n d.process) (read_trap n at d.process (subst (λ (y : Entry). IsTrap at y.process) (sym same) h))))
entry_cons m n at d a es rest h ih false e = back_trap at _ _ (each_trap _ at _ (ih e))

entry_trap : (m n : ℕ) (at : Span) (t : Entry → Bool) (a : Entry) (es : List Entry) → least t es ≡ Some a → IsTrap at a.process → HasTrap at (components m (composition n es)).primes
entry_trap m n at t a [] e h = cc
entry_trap m n at t a (d ∷ es) e h = entry_cons m n at d a es (least t es) h (λ k. entry_trap m n at t a es k h) (t d) e

declared_trap : (n k : ℕ) (at : Span) (p : Process) → ((m : ℕ) → HasTrap at (components m p).primes) → HasTrap at (components n (declare k p)).primes
declared_trap n zero at p h = h n
declared_trap n (suc k) at p h = declared_trap n k at (New p) (λ m. h (suc m))

-- ---- in a permutation

picks_trap : (at : Span) (y : Process) (xs ys : List Process) → Picks y xs ys → IsTrap at y ⊎ HasTrap at ys → HasTrap at xs
picks_trap at y xs ys here (inl h) = first h
picks_trap at y xs ys here (inr h) = later h
picks_trap at y xs ys (there {zs = zs} {ys = us} k) (inl h) = later (picks_trap at y zs us k (inl h))
picks_trap at y xs ys (there {zs = zs} {ys = us} k) (inr (first h)) = first h
picks_trap at y xs ys (there {zs = zs} {ys = us} k) (inr (later h)) = later (picks_trap at y zs us k (inr h))

picked_trap : (at : Span) (xs ys : List Process) → Picked xs ys → HasTrap at ys → HasTrap at xs
picked_trap at xs [] k h = elim h [ ]
picked_trap at xs (y ∷ ys) k (first h) = picks_trap at y xs k.0 k.1 (inl h)
picked_trap at xs (y ∷ ys) k (later h) = picks_trap at y xs k.0 k.1 (inr (picked_trap at k.0 ys k.2 h))

-- ---- what traps in C traps in what is found

left_traps : (C : Configuration) (s : ℕ) (f : Primitive) (v : Val) (place at : Span) (e : Effect) → effect_of f v ≡ Some e → (l : Leaves) → e.leaves ≡ l → leave C s place (printing e.printed) l ≡ Traps at → IsTrap at (Out (PrimitiveVal f) v place)
left_traps C s f v place at e h Nothing k t = cc
left_traps C s f v place at e h (Answer x y) k t = cc
left_traps C s f v place at e h Trap k t = let same : place ≡ at = cc in record { primitive = f; value = v; effect = e; is = ap (Out (PrimitiveVal f) v) same; acts = h; traps = k }

primitive_traps : (C : Configuration) (s : ℕ) (f : Primitive) (v : Val) (place at : Span) (o : Option Effect) → effect_of f v ≡ o → perform C s place o ≡ Traps at → IsTrap at (Out (PrimitiveVal f) v place)
primitive_traps C s f v place at None h t = cc
primitive_traps C s f v place at (Some e) h t = left_traps C s f v place at e h e.leaves refl t

received_never : (o : Option (List Val)) (body : Process) (go : Process → StepOutcome) (at : Span) → ((p : Process) → go p ≡ Traps at → ⊥) → received o body go ≡ Traps at → ⊥
received_never None body go at h t = cc
received_never (Some bound) body go at h t = h _ t

reader_never : (C : Configuration) (s c r : ℕ) (v : Val) (q : Process) (at : Span) → meet_reader C s c v r q ≡ Traps at → ⊥
reader_never C s c r v (In w b pattern body) at t = received_never (match_value pattern v) body _ at (λ p k. cc) t
reader_never C s c r v Zero at t = cc
reader_never C s c r v (Par p q) at t = cc
reader_never C s c r v (New p) at t = cc
reader_never C s c r v (Out x y z) at t = cc
reader_never C s c r v (If x p q) at t = cc

message_never : (C : Configuration) (s c r : ℕ) (b : Bool) (pattern : Pat) (body q : Process) (at : Span) → meet_message C s c b pattern body r q ≡ Traps at → ⊥
message_never C s c r b pattern body (Out w v place) at t = received_never (match_value pattern v) body _ at (λ p k. cc) t
message_never C s c r b pattern body Zero at t = cc
message_never C s c r b pattern body (Par p q) at t = cc
message_never C s c r b pattern body (New p) at t = cc
message_never C s c r b pattern body (In x y z w) at t = cc
message_never C s c r b pattern body (If x p q) at t = cc

out_traps : (C : Configuration) (s : ℕ) (o : Option Entry) (chan v : Val) (place at : Span) → act C s o (Out chan v place) ≡ Traps at → IsTrap at (Out chan v place)
out_traps C s o (PrimitiveVal f) v place at t = primitive_traps C s f v place at (effect_of f v) refl t
out_traps C s None (Chan c) v place at t = cc
out_traps C s (Some u) (Chan c) v place at t = absurd (reader_never C s c u.stamp v u.process at t)
out_traps C s o (Var x) v place at t = cc
out_traps C s o (Int x) v place at t = cc
out_traps C s o (Char x) v place at t = cc
out_traps C s o (Boolean x) v place at t = cc
out_traps C s o (Text x) v place at t = cc
out_traps C s o (Record x y) v place at t = cc

in_traps : (C : Configuration) (s : ℕ) (o : Option Entry) (chan : Val) (b : Bool) (pattern : Pat) (body : Process) (at : Span) → act C s o (In chan b pattern body) ≡ Traps at → ⊥
in_traps C s None (Chan c) b pattern body at t = cc
in_traps C s (Some u) (Chan c) b pattern body at t = message_never C s c u.stamp b pattern body u.process at t
in_traps C s o (PrimitiveVal x) b pattern body at t = cc
in_traps C s o (Var x) b pattern body at t = cc
in_traps C s o (Int x) b pattern body at t = cc
in_traps C s o (Char x) b pattern body at t = cc
in_traps C s o (Boolean x) b pattern body at t = cc
in_traps C s o (Text x) b pattern body at t = cc
in_traps C s o (Record x y) b pattern body at t = cc

if_never : (C : Configuration) (s : ℕ) (o : Option Entry) (v : Val) (p q : Process) (at : Span) → act C s o (If v p q) ≡ Traps at → ⊥
if_never C s o (Boolean true) p q at t = cc
if_never C s o (Boolean false) p q at t = cc
if_never C s o (Chan c) p q at t = cc
if_never C s o (PrimitiveVal x) p q at t = cc
if_never C s o (Var x) p q at t = cc
if_never C s o (Int x) p q at t = cc
if_never C s o (Char x) p q at t = cc
if_never C s o (Text x) p q at t = cc
if_never C s o (Record x y) p q at t = cc

trapping : (C : Configuration) (s : ℕ) (o : Option Entry) (p : Process) (at : Span) → act C s o p ≡ Traps at → IsTrap at p
trapping C s o Zero at t = cc
trapping C s o (Par p q) at t = cc
trapping C s o (New p) at t = cc
trapping C s o (If v p q) at t = absurd (if_never C s o v p q at t)
trapping C s o (Out chan v place) at t = out_traps C s o chan v place at t
trapping C s o (In chan b pattern body) at t = absurd (in_traps C s o chan b pattern body at t)

choice_trap : (C : Configuration) (choice : Choice) (at : Span) → IsChoice C choice → free_step C choice ≡ Traps at → (t : Entry → Bool) × (a : Entry) × (least t C.entries ≡ Some a) × IsTrap at a.process
choice_trap C choice at c e =
    (_, c.actor, c.stands, trapping C c.actor.stamp _ c.actor.process at (ap (λ x. act_entry C x (option_and_then (λ r. entry_at r C.entries) choice.partner)) (sym c.stands) ∙ e))

-- ---- a listed process that traps is that of an entry

record EntryTrap (n : ℕ) (at : Span) (es : List Entry) : Type 0 where
  entry : Entry
  stands : entry_at entry.stamp es ≡ Some entry
  trap : IsTrap at (read n entry.process)

entry_later : (n low : ℕ) (at : Span) (d : Entry) (es : List Entry) (next : ℕ) → StampsRise low (d ∷ es) next → EntryTrap n at es → EntryTrap n at (d ∷ es)
entry_later n low at d es next r h =
    let up : d.stamp + 1 ≤ h.entry.stamp = least_above _ (d.stamp + 1) es next h.entry r.1 h.stands in
    let t : nat_eq h.entry.stamp d.stamp ≡ false = grind (arith, nat_tests, up) in
    record { entry = h.entry; stands = ap (λ b. cond b (Some d) (entry_at h.entry.stamp es)) t ∙ h.stands; trap = h.trap }

entry_listed : (n low : ℕ) (at : Span) (es : List Entry) (next : ℕ) (ps : List Process) → StampsRise low es next → ps ≡ readings n es → HasTrap at ps → EntryTrap n at es
entry_listed n low at [] next ps r e (first h) = cc
entry_listed n low at [] next ps r e (later h) = cc
entry_listed n low at (d ∷ es) next ps r e (first {p = p} h) =
    let same : p ≡ read n d.process = cc in
    record { entry = d; stands = ap (λ b. cond b (Some d) (entry_at d.stamp es)) (own_channel d.stamp); trap = subst (IsTrap at) same h }
entry_listed n low at (d ∷ es) next ps r e (later {ps = qs} h) =
    let same : qs ≡ readings n es = cc in
    entry_later n low at d es next r (entry_listed n (d.stamp + 1) at es next qs r.1 same h)

leaves_back : (n : ℕ) (l : Leaves) → replace_leaves (naming n) l ≡ Trap → l ≡ Trap
leaves_back n Nothing e = cc
leaves_back n (Answer k a) e = cc
leaves_back n Trap e = refl

abbrev TrapChoice : Configuration → Span → Type 0
TrapChoice V at = (other : Choice) × IsChoice V other × (free_step V other ≡ Traps at)

module _ (V : Configuration) (r : IsReached V) (still : IsStill V) (at : Span) where
  acts_by : (a : Entry) (f : Primitive) (v : Val) → entry_at a.stamp V.entries ≡ Some a → a.process ≡ Out (PrimitiveVal f) v at → (effect : Effect) → effect.leaves ≡ Trap
      → (o : Option Effect) → effect_of f v ≡ o → option_map (replace_effect (naming V.channels)) o ≡ Some effect → TrapChoice V at
  acts_by a f v stands is effect traps None e h = cc
  acts_by a f v stands is effect traps (Some inner) e h =
      let same : replace_effect (naming V.channels) inner ≡ effect = cc in
      let l : inner.leaves ≡ Trap = leaves_back V.channels inner.leaves (ap (λ (x : Effect). x.leaves) same ∙ traps) in
      let ready : is_ready a ≡ true = ready_by V r still a stands (no_stand_primitive V r still a f v at is) in (
        record { acting = a.stamp; partner = None },
        record { actor = a; stands = stands; ready = ready; partner = subst (λ q. least (is_partner q) V.entries ≡ None) (sym is) (never_partner V r still (Out (PrimitiveVal f) v at) (λ u. refl) V.entries) },
        ap (λ x. act_entry V x None) stands ∙ ap (act V a.stamp None) is ∙ ap (perform V a.stamp at) e ∙ ap (leave V a.stamp at (printing inner.printed)) l,
      )

  traps_there : HasTrap at (components 0 (reading V)).primes → TrapChoice V at
  traps_there h =
      let t = entry_listed V.channels 0 at V.entries V.next_stamp (components 0 (reading V)).primes r.is.stamps (ap (λ (c : Components). c.primes) (reading_components V r still)) h in
      let o = out_read V.channels t.entry.process (PrimitiveVal t.trap.primitive) t.trap.value at t.trap.is in
      let is : t.entry.process ≡ Out (PrimitiveVal t.trap.primitive) o.message at = o.is ∙ ap (λ y. Out y o.message at) (primitive_back V.channels o.chan t.trap.primitive o.chan_read) in
      acts_by t.entry t.trap.primitive o.message t.stands is t.trap.effect t.trap.traps (effect_of t.trap.primitive o.message) refl
      (sym (primitive_read V.channels t.trap.primitive o.message) ∙ ap (effect_of t.trap.primitive) o.message_read ∙ t.trap.acts)

-- ---- what settles keeps its traps

together_trap : (m : ℕ) (at : Span) (ps : List Process) → HasTrap at ps → HasTrap at (components m (together ps)).primes
together_trap m at ps (first {p = p} {ps = qs} h) = front_trap at _ _ (each_trap _ at _ (trap_components m at p h))
together_trap m at ps (later {p = p} {ps = qs} h) = back_trap at _ _ (each_trap _ at _ (together_trap m at qs h))

-- what divides by zero is no redex
no_redex : (m : ℕ) (bytes : List ℕ) (at : Span) (x : Process) (redex : List Process) (residual : Process) → IsTrap at x → redex ≡ x ∷ [] → Fires m bytes redex residual → ⊥
no_redex m bytes at x redex residual t e (communicates name h) = cc
no_redex m bytes at x redex residual t e (serves name h) = cc
no_redex m bytes at x redex residual t e (chooses {b = b} {p = p} {q = q}) = let g : If (Boolean b) p q ≡ x = cc in let is : If (Boolean b) p q ≡ Out (PrimitiveVal t.primitive) t.value at = g ∙ t.is in cc
no_redex m bytes at x redex residual t e (performs {f = f} {v = v} {at = place} {effect = effect} {p = p} h k) =
    let here : Out (PrimitiveVal f) v place ≡ x = cc in
    let is : Out (PrimitiveVal f) v place ≡ Out (PrimitiveVal t.primitive) t.value at = here ∙ t.is in
    let g : f ≡ t.primitive = cc in
    let w : v ≡ t.value = cc in
    let some : Some effect ≡ Some t.effect = sym h ∙ two effect_of g w ∙ t.acts in
    let same : effect ≡ t.effect = cc in
    let leaves : effect.leaves ≡ Trap = ap (λ (e : Effect). e.leaves) same ∙ t.traps in
    let none : None ≡ Some p = sym (ap (left_by place) leaves) ∙ k in
    cc

rest_trap : (n : ℕ) (at : Span) (p q : Process) (h : FiresAlone n [] p q) → HasTrap at (h.acting ∷ h.rest) → HasTrap at h.rest
rest_trap n at p q h (first t) = absurd (no_redex (n + (components n p).news) [] at h.acting (h.acting ∷ []) h.residual t refl h.fires)
rest_trap n at p q h (later t) = t

alike_trap : (n : ℕ) (at : Span) (p q : Process) → Congruent n p q → HasTrap at (components n p).primes → HasTrap at (components n q).primes
alike_trap n at p q c h =
    let alike : AreAlike n (components n p) (components n q) = congruent_are_alike n p q c in
    picked_trap at _ _ (permutation_picked _ _ (IsPermutation-sym _ _ alike.same)) (each_trap alike.bijection at (components n p).primes h)

alone_trap : (n : ℕ) (at : Span) (p q : Process) → ReducesAlone n p q → HasTrap at (components n p).primes → HasTrap at (components n q).primes
alone_trap n at p q a h =
    let f = fires_by_itself n [] p q a.reduces a.alone in
    let k = (components n p).news in
    let rest : HasTrap at f.rest = rest_trap n at p q f (picked_trap at (f.acting ∷ f.rest) (components n p).primes (permutation_picked _ _ (IsPermutation-sym _ _ f.chosen)) h) in
    alike_trap n at _ q (symmetric f.left) (declared_trap n k at (Par f.residual (together f.rest)) (λ m. back_trap at _ _ (each_trap _ at _ (together_trap m at f.rest rest))))

settled_trap : (at : Span) (p q : Process) → SettlesTo 0 p q → HasTrap at (components 0 p).primes → HasTrap at (components 0 q).primes
settled_trap at p q (at_end c) h = alike_trap 0 at p q c h
settled_trap at p q (by_reduction {q = m} a k) h = settled_trap at m q k (alone_trap 0 at p m a h)

pub traps_found : TrapsAreFound
traps_found p F u x C bytes choice at h c e =
    let f = cover_runs p F u x C bytes h in
    let V = f.vertex.configuration in
    let r : IsReached V = found_reached p F u x f.vertex f.is in
    let t = choice_trap C choice at c e in
    let here : HasTrap at (components 0 (reading C)).primes = declared_trap 0 C.channels at (composition C.channels C.entries) (λ m. entry_trap m C.channels at t.0 t.1 C.entries t.2 t.3) in
    let c' = traps_there V r (x.still f.vertex f.is) at (settled_trap at (reading C) (reading V) f.settles here) in
    (f, c'.0, c'.1, c'.2)
