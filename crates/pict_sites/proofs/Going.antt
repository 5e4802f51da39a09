-- One event more of a run.
use Rattle.std.proofs.Common.{ℕ, length, refl, ◌≡◌, ◌≢◌, ◌≤◌, ◌<◌, ◌+◌, ◌↔◌, inl, inr, List, [], ◌∷◌, ◌++◌, sym, ap, ◌∙◌, subst, Option, Some, None, Result, Ok, Err, IfOk, OnErr, arith}
use Rattle.std.proofs.lemmas.List.{append-nil}
use Rattle.rand_pcg.specs.Lcg.{Lcg}
use Rattle.pict_syntax.specs.declared.span.Span.{Span}
use Rattle.pict_core.specs.Step.{Label, Quiet, Comm, Print}
use Rattle.pict_core.specs.Run as run
use Rattle.pict_core.specs.Run.{shown}
use Rattle.pict_heap.specs.HeapState.{HeapState}
use Rattle.pict_view.specs.Watching.{WhereTold, Saw, SawOrTore}
use Rattle.pict_view.proofs.Runs.{saw_more, saw_nothing, tore_last}
use Rattle.pict_picker.specs.Events.{label_of, trap_of}
use Rattle.pict_picker.specs.declared.did.Did.{Did}
use Rattle.pict_picker.specs.declared.did.Did.TheVariants as did
use Rattle.pict_network.specs.Network.{Network}
use Rattle.pict_network.specs.Events.{Happening, Stepped, Stopped, events}
use Rattle.pict_network.specs.Runs.{Chooses, at_start, by_move, by_step, choice, next_happening}
use Rattle.pict_network.proofs.Possible.{next_is_possible}
use Rattle.pict_sites.specs.declared.happened.Happened.{Happened}
use Rattle.pict_sites.specs.declared.happened.Happened.TheVariants as happened
use Rattle.pict_sites.specs.Happening.{IsDid, IsNext}
use Rattle.pict_sites.specs.Runs.{ComesTo, RanOn, BrokeOffOn, GoesQuietly, AreNext, IsGone, AreGone, IsBrokenOff, AreBrokenOff}
use Rattle.pict_sites.specs.declared.happened.Events.{Events}
use Rattle.pict_sites.specs.declared.running.Gone.{Gone}
use Rattle.pict_sites.specs.declared.running.Gone.TheVariants as gone
use Rattle.pict_sites.specs.declared.running.Went.{Went}
use Rattle.pict_sites.proofs.Lists.{none_of}

module _ (heap : HeapState) (Stands : Network → Type 0) (N : Network) (h : Happening) where
  pub leads_of : (d : Did) → None ≡ trap_of d → IsDid heap Stands N d h → (M : Network) × (h ≡ Stepped M (label_of heap d)) × Stands M
  leads_of did.Quiet none is = is
  leads_of (did.Comm channel value) none is = is
  leads_of (did.Print word) none is = is
  leads_of (did.Trapped at) none is = cc

  pub traps_of : (d : Did) (at : Span) → Some at ≡ trap_of d → IsDid heap Stands N d h → (h ≡ Stopped at) × Stands N
  traps_of did.Quiet at some is = cc
  traps_of (did.Comm channel value) at some is = cc
  traps_of (did.Print word) at some is = cc
  traps_of (did.Trapped there) at some is = let same : there ≡ at = cc in (is.0 ∙ ap Stopped same, is.1)

-- ---- one event

module _ (heap : HeapState) (Stands : Network → Type 0) (N : Network) (g h : Lcg) (steps : ℕ) (Seen : List (ℕ × Label) → Type 0) where
  step_of : (x : Happened) (d : Did) → x ≡ happened.Stepped d → None ≡ trap_of d → IsNext heap Stands N g h (Some x)
      → ((M : Network) × (next_happening N g ≡ Stepped M (label_of heap d)) × Stands M) × (h ≡ (choice N g).1)
  step_of happened.Moved d e none is = cc
  step_of (happened.Stepped b) d e none is =
      let same : b ≡ d = cc in
      (leads_of heap Stands N (next_happening N g) d none (subst (λ z. IsDid heap Stands N z (next_happening N g)) same is.0), is.1)

  pub gone_moved : (x : Happened) → x ≡ happened.Moved → Seen [] → IsNext heap Stands N g h (Some x) → IsGone Stands N g h steps Seen gone.Moved
  gone_moved happened.Moved e seen is = (is.0.0, is.0.1, is.0.2, is.1, seen)
  gone_moved (happened.Stepped d) e seen is = cc

  pub gone_trapped : (x : Happened) (d : Did) (at : Span) → x ≡ happened.Stepped d → Some at ≡ trap_of d → Seen [] → IsNext heap Stands N g h (Some x) → IsGone Stands N g h steps Seen (gone.Trapped at)
  gone_trapped happened.Moved d at e some seen is = cc
  gone_trapped (happened.Stepped b) d at e some seen is =
      let same : b ≡ d = cc in
      let x = traps_of heap Stands N (next_happening N g) d at some (subst (λ z. IsDid heap Stands N z (next_happening N g)) same is.0) in
      (x.0, x.1, seen)

  pub gone_stepped : (x : Happened) (d : Did) → x ≡ happened.Stepped d → None ≡ trap_of d → Seen (shown (steps + 1) (label_of heap d))
      → IsNext heap Stands N g h (Some x) → IsGone Stands N g h steps Seen gone.Stepped
  gone_stepped x d e none seen is =
      let s = step_of x d e none is in
      (s.0.0, label_of heap d, s.0.1, s.0.2, s.1, seen)

  pub gone_torn : (Torn : ℕ → Label → Type 0) (x : Happened) (d : Did) → x ≡ happened.Stepped d → None ≡ trap_of d
      → shown (steps + 1) (label_of heap d) ≡ (steps + 1, label_of heap d) ∷ [] → Torn (steps + 1) (label_of heap d)
      → IsNext heap Stands N g h (Some x) → IsBrokenOff Stands N g h steps Seen Torn
  gone_torn Torn x d e none one torn is =
      let s = step_of x d e none is in
      inr (s.0.0, label_of heap d, s.0.1, s.0.2, s.1, one, torn)

-- ---- events behind quiet steps

abbrev pub goes_none : (N : Network) (g : Lcg) → GoesQuietly N g 0
goes_none N g = record { network = N; generator = g; chooses = at_start }

module _ (heap : HeapState) (Stands : Network → Type 0) (N : Network) (g h : Lcg) (steps : ℕ) (Seen : List (ℕ × Label) → Type 0) (next : Events) (a : AreNext heap Stands N g h next) where
  at_last : (o : Option Happened) → next.last ≡ o → IsNext heap Stands a.0.network a.0.generator h o
  at_last o e = subst (IsNext heap Stands a.0.network a.0.generator h) e a.1

  abbrev went : Gone → Went
  went x = record { quiet = next.quiet; gone = x }

  pub went_done : next.last ≡ None → Seen [] → AreGone Stands N g h steps Seen (went gone.Done)
  went_done e seen = let x = at_last None e in (a.0, ((next_is_possible a.0.network a.0.generator).1 x.0, x.1, seen))

  module _ (x : Happened) (e : next.last ≡ Some x) where
    pub went_moved : x ≡ happened.Moved → Seen [] → AreGone Stands N g h steps Seen (went gone.Moved)
    went_moved is seen = (a.0, gone_moved heap Stands a.0.network a.0.generator h (steps + next.quiet) Seen x is seen (at_last (Some x) e))

    module _ (d : Did) (is : x ≡ happened.Stepped d) where
      pub went_trapped : (at : Span) → Some at ≡ trap_of d → Seen [] → AreGone Stands N g h steps Seen (went (gone.Trapped at))
      went_trapped at some seen = (a.0, gone_trapped heap Stands a.0.network a.0.generator h (steps + next.quiet) Seen x d at is some seen (at_last (Some x) e))

      pub went_stepped : None ≡ trap_of d → Seen (shown (steps + next.quiet + 1) (label_of heap d)) → AreGone Stands N g h steps Seen (went gone.Stepped)
      went_stepped none seen = (a.0, gone_stepped heap Stands a.0.network a.0.generator h (steps + next.quiet) Seen x d is none seen (at_last (Some x) e))

      pub went_torn : (most : ℕ) (Torn : ℕ → Label → Type 0) → next.quiet + 1 ≤ most → None ≡ trap_of d
          → shown (steps + next.quiet + 1) (label_of heap d) ≡ (steps + next.quiet + 1, label_of heap d) ∷ [] → Torn (steps + next.quiet + 1) (label_of heap d)
          → AreBrokenOff Stands N g h steps most Seen Torn
      went_torn most Torn within none one torn =
          (next.quiet, omega (arith, within), a.0, gone_torn heap Stands a.0.network a.0.generator h (steps + next.quiet) Seen Torn x d is none one torn (at_last (Some x) e))

-- ---- runs

abbrev View : Type 0
View = Option (List ℕ)

abbrev Next : Type 0
Next = List ℕ → ℕ → Label → List ℕ

-- what was seen before and after an event in which nothing was
same_seen : (f g : Next) → ((v : List ℕ) (n : ℕ) (l : Label) → g v n l ≡ f v n l) → (before mid after : View) (labels : List (ℕ × Label)) → Saw f before mid labels → Saw g mid after [] → Saw f before after labels
same_seen f g same before mid after labels a b = subst (Saw f before after) (append-nil labels) (saw_more f g same before mid after [] b labels a)

saw_all : (f : Next) (T : List ℕ → ℕ → Label → List ℕ → Type 0) (before after : View) (labels : List (ℕ × Label)) → Saw f before after labels → SawOrTore f T before after labels
saw_all f T None after labels d = tt
saw_all f T (Some b) None labels d = d
saw_all f T (Some b) (Some a) labels d = inl d

module _ (Old New : Network → Type 0) (N : Network) (g k h : Lcg) (count steps : ℕ) (f q : Next) (same : (v : List ℕ) (n : ℕ) (l : Label) → q v n l ≡ f v n l) (before mid after : View)
    (c : ComesTo Old N g count steps k (Saw f before mid)) where
  pub comes_moved : IsGone New c.last k h steps (Saw q mid after) gone.Moved → ComesTo New N g (count + 1) steps h (Saw f before after)
  comes_moved x = record {
    labels = c.labels;
    last = x.0;
    chooses = subst (Chooses N g (count + 1) steps c.labels x.0) (sym x.3) (by_move c.chooses x.1);
    stands = x.2;
    seen = same_seen f q same before mid after c.labels c.seen x.4;
  }

  pub comes_stepped : IsGone New c.last k h steps (Saw q mid after) gone.Stepped → ComesTo New N g (count + 1) (steps + 1) h (Saw f before after)
  comes_stepped x = record {
    labels = c.labels ++ shown (steps + 1) x.1;
    last = x.0;
    chooses = subst (Chooses N g (count + 1) (steps + 1) (c.labels ++ shown (steps + 1) x.1) x.0) (sym x.4) (by_step c.chooses x.2);
    stands = x.3;
    seen = saw_more f q same before mid after (shown (steps + 1) x.1) x.5 c.labels c.seen;
  }

  module _ (fuel : ℕ) where
    pub ran_done : count ≤ fuel → IsGone New c.last k h steps (Saw q mid after) gone.Done → RanOn New N g fuel run.Done (Saw f before after)
    ran_done few x = record {
      count = count;
      steps = steps;
      after = k;
      comes = record { labels = c.labels; last = c.last; chooses = c.chooses; stands = x.1; seen = same_seen f q same before mid after c.labels c.seen x.2 };
      ends = (few, x.0);
    }

    pub ran_trapped : (at : Span) → count < fuel → IsGone New c.last k h steps (Saw q mid after) (gone.Trapped at) → RanOn New N g fuel (run.Trap at) (Saw f before after)
    ran_trapped at few x = record {
      count = count;
      steps = steps;
      after = k;
      comes = record { labels = c.labels; last = c.last; chooses = c.chooses; stands = x.1; seen = same_seen f q same before mid after c.labels c.seen x.2 };
      ends = (few, x.0);
    }

    pub broke_on : (T U : List ℕ → ℕ → Label → List ℕ → Type 0) → ((v : List ℕ) (n : ℕ) (l : Label) (a : List ℕ) → U v n l a ↔ T v n l a) → count < fuel
        → IsBrokenOff New c.last k h steps (Saw q mid after) (λ number label. WhereTold (λ b a. U b number label a) mid after) → BrokeOffOn New N g fuel (SawOrTore f T before after)
    broke_on T U torn few (inl x) = record {
      count = count;
      steps = steps;
      after = k;
      few = omega (arith, few);
      comes = record { labels = c.labels; last = c.last; chooses = c.chooses; stands = x.0; seen = saw_all f T before after c.labels (same_seen f q same before mid after c.labels c.seen x.1) };
    }
    broke_on T U torn few (inr x) = record {
      count = count + 1;
      steps = steps + 1;
      after = (choice c.last k).1;
      few = omega (arith, few);
      comes = record {
        labels = c.labels ++ shown (steps + 1) x.1;
        last = x.0;
        chooses = by_step c.chooses x.2;
        stands = x.3;
        seen = subst (λ ls. SawOrTore f T before after (c.labels ++ ls)) (sym x.5) (tore_last f T U torn (steps + 1) x.1 before mid after x.6 c.labels c.seen);
      };
    }

pub comes_none : (Stands : Network → Type 0) (N : Network) (g : Lcg) (f : Next) (before : View) → Stands N → ComesTo Stands N g 0 0 g (Saw f before before)
comes_none Stands N g f before st = record { labels = []; last = N; chooses = at_start; stands = st; seen = saw_nothing f before }

-- ---- quiet steps

none_shown : (before : List (ℕ × Label)) (number : ℕ) (label : Label) → before ++ shown number label ≡ [] → (before ≡ []) × (label ≡ Quiet)
none_shown [] number Quiet e = (refl, refl)
none_shown [] number (Comm channel value) e = cc
none_shown [] number (Print bytes) e = cc
none_shown (b ∷ before) number label e = cc

-- after some events come others, all of whose steps are quiet
module _ (N : Network) (g : Lcg) (count steps : ℕ) (labels : List (ℕ × Label)) (M : Network) (h : Lcg) (before : Chooses N g count steps labels M h) where
  one_later : (n k : ℕ) → n + (k + 1) ≡ n + k + 1
  one_later n k = omega arith

  quietly_on : (quiet made : ℕ) (nothing : List (ℕ × Label)) (K : Network) (k : Lcg) → Chooses M h quiet made nothing K k → nothing ≡ [] → Chooses N g (count + quiet) (steps + made) labels K k
  quietly_on quiet made nothing K k at_start none =
      subst (λ n. Chooses N g n (steps + 0) labels M h) (omega arith) (subst (λ n. Chooses N g count n labels M h) (omega arith) before)
  quietly_on quiet made nothing K k (by_move {count = n} {M = L} {h = l} r e) none =
      subst (λ i. Chooses N g i (steps + made) labels K k) (sym (one_later count n)) (by_move (quietly_on n made nothing L l r none) e)
  quietly_on quiet made nothing K k (by_step {count = n} {steps = m} {labels = ls} {M = L} {h = l} {label = label} r e) none =
      let none_before = none_shown ls (m + 1) label none in
      let shows : labels ++ shown (steps + m + 1) label ≡ labels = ap (λ x. labels ++ shown (steps + m + 1) x) none_before.1 ∙ append-nil labels in
      let on : Chooses N g (count + n + 1) (steps + m + 1) (labels ++ shown (steps + m + 1) label) K (choice L l).1 = by_step (quietly_on n m ls L l r none_before.0) e in
      subst (λ i. Chooses N g i (steps + made) labels K k) (sym (one_later count n))
      (subst (λ i. Chooses N g (count + n + 1) i labels K k) (sym (one_later steps m)) (subst (λ s. Chooses N g (count + n + 1) (steps + m + 1) s K k) shows on))

-- quiet steps more of a run
abbrev comes_quietly : (Old : Network → Type 0) (N : Network) (g k : Lcg) (count steps : ℕ) (Seen : List (ℕ × Label) → Type 0) (c : ComesTo Old N g count steps k Seen) (quiet : ℕ)
    (q : GoesQuietly c.last k quiet) → ComesTo (λ M. M ≡ q.network) N g (count + quiet) (steps + quiet) q.generator Seen
comes_quietly Old N g k count steps Seen c quiet q = record {
  labels = c.labels;
  last = q.network;
  chooses = quietly_on N g count steps c.labels c.last k c.chooses quiet quiet [] q.network q.generator q.chooses refl;
  stands = refl;
  seen = c.seen;
}

-- behind quiet steps an event more of a run
module _ (Old New : Network → Type 0) (N : Network) (g k h : Lcg) (count steps : ℕ) (f q : Next) (same : (v : List ℕ) (n : ℕ) (l : Label) → q v n l ≡ f v n l) (before mid after : View)
    (c : ComesTo Old N g count steps k (Saw f before mid)) where
  module _ (went : Went) (a : AreGone New c.last k h steps (Saw q mid after) went) where
    abbrev behind : ComesTo (λ M. M ≡ a.0.network) N g (count + went.quiet) (steps + went.quiet) a.0.generator (Saw f before mid)
    behind = comes_quietly Old N g k count steps (Saw f before mid) c went.quiet a.0

    last_gone : (x : Gone) → went.gone ≡ x → IsGone New a.0.network a.0.generator h (steps + went.quiet) (Saw q mid after) x
    last_gone x e = subst (IsGone New a.0.network a.0.generator h (steps + went.quiet) (Saw q mid after)) e a.1

    more : count + went.quiet + 1 ≡ count + (went.quiet + 1)
    more = omega arith

    pub moves_on : went.gone ≡ gone.Moved → ComesTo New N g (count + (went.quiet + 1)) (steps + went.quiet) h (Saw f before after)
    moves_on e =
        subst (λ n. ComesTo New N g n (steps + went.quiet) h (Saw f before after)) more
        (comes_moved (λ M. M ≡ a.0.network) New N g a.0.generator h (count + went.quiet) (steps + went.quiet) f q same before mid after behind (last_gone gone.Moved e))

    pub steps_on : went.gone ≡ gone.Stepped → ComesTo New N g (count + (went.quiet + 1)) (steps + went.quiet + 1) h (Saw f before after)
    steps_on e =
        subst (λ n. ComesTo New N g n (steps + went.quiet + 1) h (Saw f before after)) more
        (comes_stepped (λ M. M ≡ a.0.network) New N g a.0.generator h (count + went.quiet) (steps + went.quiet) f q same before mid after behind (last_gone gone.Stepped e))

    pub done_on : (fuel : ℕ) → count + went.quiet ≤ fuel → went.gone ≡ gone.Done → RanOn New N g fuel run.Done (Saw f before after)
    done_on fuel few e =
        ran_done (λ M. M ≡ a.0.network) New N g a.0.generator h (count + went.quiet) (steps + went.quiet) f q same before mid after behind fuel few (last_gone gone.Done e)

    pub trapped_on : (fuel : ℕ) (at : Span) → count + went.quiet < fuel → went.gone ≡ gone.Trapped at → RanOn New N g fuel (run.Trap at) (Saw f before after)
    trapped_on fuel at few e =
        ran_trapped (λ M. M ≡ a.0.network) New N g a.0.generator h (count + went.quiet) (steps + went.quiet) f q same before mid after behind fuel at few (last_gone (gone.Trapped at) e)

  pub broke_behind : (fuel most : ℕ) (T U : List ℕ → ℕ → Label → List ℕ → Type 0) → ((v : List ℕ) (n : ℕ) (l : Label) (a : List ℕ) → U v n l a ↔ T v n l a) → count + most ≤ fuel
      → AreBrokenOff New c.last k h steps most (Saw q mid after) (λ number label. WhereTold (λ b a. U b number label a) mid after) → BrokeOffOn New N g fuel (SawOrTore f T before after)
  broke_behind fuel most T U torn few b =
      broke_on (λ M. M ≡ b.2.network) New N g b.2.generator h (count + b.0) (steps + b.0) f q same before mid after (comes_quietly Old N g k count steps (Saw f before mid) c b.0 b.2) fuel T U torn
      (let low = b.1 in omega (arith, low, few)) b.3

-- ---- the fuel is spent

module _ (Stands : Network → Type 0) (N : Network) (g k : Lcg) (count steps fuel : ℕ) (Seen : List (ℕ × Label) → Type 0) (c : ComesTo Stands N g count steps k Seen) (all : count ≡ fuel) where
  pub ran_out : length (events c.last) ≡ 0 → RanOn Stands N g fuel run.Done Seen
  ran_out none = record {
    count = count;
    steps = steps;
    after = k;
    comes = c;
    ends = (omega (arith, all), (next_is_possible c.last k).1 (none_of (events c.last) none));
  }

  pub ran_spent : length (events c.last) ≢ 0 → RanOn Stands N g fuel run.FuelSpent Seen
  ran_spent some = record {
    count = count;
    steps = steps;
    after = k;
    comes = c;
    ends = (all, λ e. some (ap length ((next_is_possible c.last k).0 e)));
  }

-- ---- what a run comes to, by another name of the networks

module _ (Old New : Network → Type 0) (f : (N : Network) → Old N → New N) (N : Network) (g : Lcg) (fuel : ℕ) (Seen : List (ℕ × Label) → Type 0) where
  abbrev comes_as : (count steps : ℕ) (h : Lcg) → ComesTo Old N g count steps h Seen → ComesTo New N g count steps h Seen
  comes_as count steps h c = record { labels = c.labels; last = c.last; chooses = c.chooses; stands = f c.last c.stands; seen = c.seen }

  pub ran_as : (end : run.End) → RanOn Old N g fuel end Seen → RanOn New N g fuel end Seen
  ran_as end r = record { count = r.count; steps = r.steps; after = r.after; comes = comes_as r.count r.steps r.after r.comes; ends = r.ends }

  pub broke_as : BrokeOffOn Old N g fuel Seen → BrokeOffOn New N g fuel Seen
  broke_as r = record { count = r.count; steps = r.steps; after = r.after; few = r.few; comes = comes_as r.count r.steps r.after r.comes }

pub end_as : {X E : Type 0} (P Q : X → Type 0) → ((x : X) → P x → Q x) → (r : Result X E) → IfOk r P → IfOk r Q
end_as P Q f (Ok x) p = f x p
end_as P Q f (Err e) p = tt

pub error_as : {X E : Type 0} (P Q : Type 0) → (P → Q) → (r : Result X E) → OnErr r P → OnErr r Q
error_as P Q f (Ok x) p = tt
error_as P Q f (Err e) p = f p
