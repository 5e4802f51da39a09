-- Silent steps end: 0, |, new and parking.
use Rattle.std.proofs.Common.{ℕ, zero, suc, ◌+◌, ◌<◌, ◌≤◌, ◌≡◌, Bool, true, false, not, ◌&&◌, nat_eq, cond, List, [], ◌∷◌, ◌++◌, map, refl, sym, ap, ◌∙◌, subst, arith, Option, Some, None, option_map, option_and_then}
use Rattle.std.proofs.lemmas.Bool.Decides.{nat_tests}
use Rattle.pict_syntax.specs.declared.span.Span.{Span}
use Rattle.pict_core.specs.Term.{Val, Pat, Process, Var, Chan, Int, Char, Boolean, Text, PrimitiveVal, Record, Zero, Par, New, Out, In, If}
use Rattle.pict_core.specs.Closed.{IsUnder}
use Rattle.pict_core.specs.Substitution.{Replacement, replace, substitute, substitution}
use Rattle.pict_core.specs.Configuration.{Mark, Ready, Parked, Entry, Configuration, IsConfiguration, StampsRise}
use Rattle.pict_core.specs.Step.{Label, Quiet, Choice, Free, is_ready, is_partner, least, entry_at, gone, kept, added, with_channel, with_process, act, act_entry, NamesPartner}
use Rattle.pict_core.specs.Table.{Row, ends, forks, makes_channel, output_parks, input_parks}
use Rattle.pict_core.proofs.Tabled.{act_of}
use Rattle.pict_core.proofs.Stamps.{without, EntryClosed, least_closed, least_passes, least_stands}
use Rattle.pict_core.proofs.Entries.{with_process_past, without_past}
use Rattle.pict_reduction.specs.Congruence.{Congruent, reflexive, transitive}
use Rattle.pict_reduction.specs.Reading.{reading}
use Rattle.pict_reduction.specs.Silent.{SilentlyReaches, at_start, by_step, is_chan, has_none, is_silent, acts_silently}
use Rattle.pict_reduction.proofs.Steps.{Meets}
use Rattle.pict_reduction.proofs.Apart.{IsReached, step_reached}
use Rattle.pict_reduction.proofs.Reductions.{ends_reads, forks_reads, parks_reads, new_row}

-- ---- a row is a free step

module _ (C : Configuration) (a : Entry) (stands : entry_at a.stamp C.entries ≡ Some a) (ready : is_ready a ≡ true) where
  names : (p : Process) (o : Option Entry) → Meets C.entries p o → NamesPartner C.entries p (option_map (λ (u : Entry). u.stamp) o)
  names p None m = m
  names p (Some u) m = (u, m.0, m.1)

  named_back : (p : Process) (o : Option Entry) → Meets C.entries p o → option_and_then (λ r. entry_at r C.entries) (option_map (λ (u : Entry). u.stamp) o) ≡ o
  named_back p None m = refl
  named_back p (Some u) m = m.0

  pub row_free : (o : Option Entry) (p : Process) (D : Configuration) (label : Label) → a.process ≡ p → Meets C.entries p o → Row C a.stamp o p D label → (choice : Choice) × Free C choice D label
  row_free o p D label e m row = (
    record { acting = a.stamp; partner = option_map (λ (u : Entry). u.stamp) o },
    record {
      chosen = record { actor = a; stands = stands; ready = ready; partner = subst (λ q. NamesPartner C.entries q (option_map (λ (u : Entry). u.stamp) o)) (sym e) (names p o m) };
      steps = ap (λ x. act_entry C x (option_and_then (λ r. entry_at r C.entries) (option_map (λ (u : Entry). u.stamp) o))) stands
          ∙ ap (λ x. act C a.stamp x a.process) (named_back p o m) ∙ ap (act C a.stamp o) e ∙ act_of C a.stamp o p D label row;
    },
  )

-- ---- what is left to do silently

abbrev pub size : Process → ℕ
size Zero = 1
size (Par p q) = suc (size p + size q)
size (New p) = suc (size p)
size (Out chan message at) = 1
size (In chan replicated pattern body) = 1
size (If test p q) = 0

size_replaced : (r : Replacement) (p : Process) → size (replace r p) ≡ size p
size_replaced r Zero = refl
size_replaced r (Par p q) = ap (λ k. suc (k + size (replace r q))) (size_replaced r p) ∙ ap (λ k. suc (size p + k)) (size_replaced r q)
size_replaced r (New p) = ap suc (size_replaced r p)
size_replaced r (Out chan v at) = refl
size_replaced r (In chan b pattern body) = refl
size_replaced r (If v p q) = refl

abbrev weight_by : Mark → Process → ℕ
weight_by Ready p = size p
weight_by Parked p = 0

abbrev weight : Entry → ℕ
weight e = weight_by e.mark e.process

abbrev pub total : List Entry → ℕ
total [] = 0
total (e ∷ es) = weight e + total es

total_added : (es : List Entry) (e : Entry) → total (es ++ e ∷ []) ≡ total es + weight e
total_added [] e = omega arith
total_added (d ∷ es) e = let ih = total_added es e in omega (arith, ih)

without_cons : (s : ℕ) (d a : Entry) (es : List Entry) (next : ℕ) → StampsRise (d.stamp + 1) es next → (entry_at s es ≡ Some a → total es ≡ weight a + total (without s es))
    → (b : Bool) → nat_eq s d.stamp ≡ b → cond b (Some d) (entry_at s es) ≡ Some a → weight d + total es ≡ weight a + total (cond (not b) (d ∷ without s es) (without s es))
without_cons s d a es next r ih true t e =
    let same : d ≡ a = cc in
    let below : s < d.stamp + 1 = grind (arith, nat_tests) in
    ap (λ (x : Entry). weight x + total es) same ∙ ap (λ l. weight a + total l) (sym (without_past s (d.stamp + 1) es next below r))
without_cons s d a es next r ih false t e = let h = ih e in omega (arith, h)

total_without : (s : ℕ) (a : Entry) (low : ℕ) (es : List Entry) (next : ℕ) → StampsRise low es next → entry_at s es ≡ Some a → total es ≡ weight a + total (without s es)
total_without s a low [] next r e = cc
total_without s a low (d ∷ es) next r e = without_cons s d a es next r.1 (λ k. total_without s a (d.stamp + 1) es next r.1 k) (nat_eq s d.stamp) refl e

kept_cons : (s : ℕ) (p : Process) (d a : Entry) (es : List Entry) (next : ℕ) → StampsRise (d.stamp + 1) es next → (entry_at s es ≡ Some a → total (map (with_process s p) es) ≡ weight_by a.mark p + total (without s es))
    → (b : Bool) → nat_eq s d.stamp ≡ b → cond b (Some d) (entry_at s es) ≡ Some a
    → weight (cond b (record d { process = p }) d) + total (map (with_process s p) es) ≡ weight_by a.mark p + total (cond (not b) (d ∷ without s es) (without s es))
kept_cons s p d a es next r ih true t e =
    let same : d ≡ a = cc in
    let below : s < d.stamp + 1 = grind (arith, nat_tests) in
    ap (λ (x : Entry). weight_by x.mark p + total (map (with_process s p) es)) same ∙ ap (λ l. weight_by a.mark p + total l) (with_process_past s p (d.stamp + 1) es next below r ∙ sym (without_past s (d.stamp + 1) es next below r))
kept_cons s p d a es next r ih false t e = let h = ih e in omega (arith, h)

total_kept : (s : ℕ) (p : Process) (a : Entry) (low : ℕ) (es : List Entry) (next : ℕ) → StampsRise low es next → entry_at s es ≡ Some a → total (map (with_process s p) es) ≡ weight_by a.mark p + total (without s es)
total_kept s p a low [] next r e = cc
total_kept s p a low (d ∷ es) next r e = kept_cons s p d a es next r.1 (λ k. total_kept s p a (d.stamp + 1) es next r.1 k) (nat_eq s d.stamp) refl e

weight_ready : (m : Mark) (p : Process) → m ≡ Ready → weight_by m p ≡ size p
weight_ready m p e = ap (λ x. weight_by x p) e

ready_mark : (e : Entry) → is_ready e ≡ true → e.mark ≡ Ready
ready_mark e h = go e.mark h
  where
    go : (m : Mark) → (is_ready (record e { mark = m })) ≡ true → m ≡ Ready
    go Ready k = refl
    go Parked k = cc

-- ---- silent processes

pub record SilentStep (C : Configuration) : Type 0 where
  pub after : Configuration
  pub choice : Choice
  pub step : Free C choice after Quiet
  pub same : Congruent 0 (reading C) (reading after)
  pub less : total after.entries < total C.entries

none_of : (o : Option Entry) → has_none o ≡ true → o ≡ None
none_of None h = refl
none_of (Some e) h = cc

module _ (C : Configuration) (is : IsConfiguration C) (a : Entry) (stands : entry_at a.stamp C.entries ≡ Some a) (ready : is_ready a ≡ true) where
  closed : IsUnder 0 C.channels a.process
  closed = subst (EntryClosed C.channels) stands (least_closed C.channels _ C.entries is.closed)

  mark : a.mark ≡ Ready
  mark = ready_mark a ready

  left : (p : Process) → a.process ≡ p → total C.entries ≡ size p + total (without a.stamp C.entries)
  left p e = total_without a.stamp a 0 C.entries C.next_stamp is.stamps stands ∙ ap (λ k. k + total (without a.stamp C.entries)) (weight_ready a.mark a.process mark ∙ ap size e)

  turn : (p : Process) → total (map (with_process a.stamp p) C.entries) ≡ size p + total (without a.stamp C.entries)
  turn p = total_kept a.stamp p a 0 C.entries C.next_stamp is.stamps stands ∙ ap (λ k. k + total (without a.stamp C.entries)) (weight_ready a.mark p mark)

  silent_step : (p : Process) (D : Configuration) → a.process ≡ p → Meets C.entries p None → Row C a.stamp None p D Quiet → Congruent 0 (reading C) (reading D) → total D.entries < total C.entries → SilentStep C
  silent_step p D e m row same less = let f = row_free C a stands ready None p D Quiet e m row in record { after = D; choice = f.0; step = f.1; same = same; less = less }

  no_partner : (p : Process) → ((u : Entry) → is_partner p u ≡ false) → (es : List Entry) → least (is_partner p) es ≡ None
  no_partner p f [] = refl
  no_partner p f (d ∷ es) = ap (λ b. cond b (Some d) (least (is_partner p) es)) (f d) ∙ no_partner p f es

  parking : (p : Process) → a.process ≡ p → size p ≡ 1 → least (is_partner p) C.entries ≡ None → Row C a.stamp None p (added Parked p (gone a.stamp C)) Quiet → SilentStep C
  parking p e one m row =
      let l = left p e in
      let s = total_added (without a.stamp C.entries) (record { stamp = C.next_stamp; mark = Parked; process = p }) in
      silent_step p (added Parked p (gone a.stamp C)) e m row (parks_reads C is a stands ready closed p e) (omega (arith, l, s, one))

  parks_out : (chan v : Val) (at : Span) → a.process ≡ Out chan v at → is_chan chan && has_none (least (is_partner (Out chan v at)) C.entries) ≡ true → SilentStep C
  parks_out (Chan c) v at e h = parking (Out (Chan c) v at) e refl (none_of _ h) output_parks
  parks_out (Var x) v at e h = cc
  parks_out (Int x) v at e h = cc
  parks_out (Char x) v at e h = cc
  parks_out (Boolean x) v at e h = cc
  parks_out (Text x) v at e h = cc
  parks_out (PrimitiveVal x) v at e h = cc
  parks_out (Record x y) v at e h = cc

  parks_in : (chan : Val) (r : Bool) (pattern : Pat) (body : Process) → a.process ≡ In chan r pattern body → is_chan chan && has_none (least (is_partner (In chan r pattern body)) C.entries) ≡ true → SilentStep C
  parks_in (Chan c) r pattern body e h = parking (In (Chan c) r pattern body) e refl (none_of _ h) input_parks
  parks_in (Var x) r pattern body e h = cc
  parks_in (Int x) r pattern body e h = cc
  parks_in (Char x) r pattern body e h = cc
  parks_in (Boolean x) r pattern body e h = cc
  parks_in (Text x) r pattern body e h = cc
  parks_in (PrimitiveVal x) r pattern body e h = cc
  parks_in (Record x y) r pattern body e h = cc

  pub silent_steps : (p : Process) → a.process ≡ p → is_silent C.entries p ≡ true → SilentStep C
  silent_steps Zero e h =
      let l = left Zero e in
      silent_step Zero (gone a.stamp C) e (no_partner Zero (λ u. refl) C.entries) ends (ends_reads C is a stands ready closed e) (omega (arith, l))
  silent_steps (Par p q) e h =
      let l = left (Par p q) e in
      let t = turn p in
      let s = total_added (map (with_process a.stamp p) C.entries) (record { stamp = C.next_stamp; mark = Ready; process = q }) in
      silent_step (Par p q) (added Ready q (kept a.stamp p C)) e (no_partner (Par p q) (λ u. refl) C.entries) forks (forks_reads C is a stands ready closed p q e) (omega (arith, l, t, s))
  silent_steps (New p) e h =
      let l = left (New p) e in
      let x : Process = substitute 0 (Chan C.channels ∷ []) p in
      let t = turn x in
      let s : size x ≡ size p = size_replaced (substitution 0 (Chan C.channels ∷ [])) p in
      silent_step (New p) (kept a.stamp x (with_channel C)) e (no_partner (New p) (λ u. refl) C.entries) makes_channel (new_row C is a stands ready closed p e) (omega (arith, l, t, s))
  silent_steps (Out chan v at) e h = parks_out chan v at e h
  silent_steps (In chan r pattern body) e h = parks_in chan r pattern body e h
  silent_steps (If v p q) e h = cc

-- ---- all silent steps

-- silent steps lead from C to where none is possible
pub record Exhausted (C : Configuration) : Type 0 where
  pub last : Configuration
  pub reached : SilentlyReaches C last
  pub is : IsReached last
  pub same : Congruent 0 (reading C) (reading last)
  pub none : least (acts_silently last.entries) last.entries ≡ None

and_true : (a b : Bool) → a && b ≡ true → (a ≡ true) × (b ≡ true)
and_true true b h = (refl, h)
and_true false b h = cc

exhausted_by : (fuel : ℕ) (C D : Configuration) → SilentlyReaches C D → IsReached D → Congruent 0 (reading C) (reading D) → total D.entries ≤ fuel → (o : Option Entry) → least (acts_silently D.entries) D.entries ≡ o
    → ((s : SilentStep D) → Exhausted C) → Exhausted C
exhausted_by fuel C D h r c l None e next = record { last = D; reached = h; is = r; same = c; none = e }
exhausted_by fuel C D h r c l (Some a) e next =
    let b = and_true (is_ready a) (is_silent D.entries a.process) (least_passes (acts_silently D.entries) D.entries a e) in
    next (silent_steps D r.is a (least_stands (acts_silently D.entries) 0 D.entries D.next_stamp a r.is.stamps e) b.0 a.process refl b.1)

exhausted_from : (fuel : ℕ) (C D : Configuration) → SilentlyReaches C D → IsReached D → Congruent 0 (reading C) (reading D) → total D.entries ≤ fuel → Exhausted C
exhausted_from zero C D h r c l = exhausted_by zero C D h r c l (least (acts_silently D.entries) D.entries) refl (λ s. absurd (omega (arith, l, s.less)))
exhausted_from (suc fuel) C D h r c l =
    exhausted_by (suc fuel) C D h r c l (least (acts_silently D.entries) D.entries) refl
    (λ s. exhausted_from fuel C s.after (by_step h s.step s.same) (step_reached D s.choice s.after Quiet r s.step) (transitive c s.same) (omega (arith, l, s.less)))

pub exhausted : (C : Configuration) → IsReached C → Exhausted C
exhausted C r = exhausted_from (total C.entries) C C at_start r reflexive (omega arith)
