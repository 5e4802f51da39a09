-- Runs go on by one step.
use Rattle.std.proofs.Common.{ℕ, zero, suc, ◌+◌, ◌<◌, ◌≤◌, ◌≡◌, ◌≢◌, inr, Bool, false, List, [], ◌∷◌, ◌++◌, refl, sym, ap, ◌∙◌, subst, Option, Some, None, IsTrue, ◌↔◌, add-one, arith}
use Rattle.pict_syntax.specs.declared.span.Span.{Span}
use Rattle.pict_core.specs.Configuration.{Configuration, IsConfiguration}
use Rattle.pict_core.specs.Step.{Label, StepOutcome, Traps, Wrong, Finished, next}
use Rattle.pict_core.specs.Run as run
use Rattle.pict_core.specs.Run.{Reaches, shown}
use Rattle.pict_view.specs.View.{View, StandsFor}
use Rattle.pict_view.specs.Stepping.{Follows, IsStepOf}
use Rattle.pict_view.specs.Right.{StepsRight, IsRightFor}
use Rattle.pict_view.specs.Watching.{WhereTold, view_after, Saw, SawOrTore, RanFor, BrokeOff}

-- after n steps from C the view stands for the configuration, and the labels are as was seen
pub record Stood (n : ℕ) (C : Configuration) (v : View) (Seen : List (ℕ × Label) → Type 0) : Type 0 where
  pub labels : List (ℕ × Label)
  pub last : Configuration
  pub reached : Reaches n C labels last
  pub is : IsConfiguration last
  pub stands : StandsFor v last
  pub seen : Seen labels

-- no step is made
pub start : (C : Configuration) (v : View) (Seen : List (ℕ × Label) → Type 0) → IsConfiguration C → StandsFor v C → Seen [] → Stood 0 C v Seen
start C v Seen is s seen = record { labels = []; last = C; reached = (refl, refl); is = is; stands = s; seen = seen }

-- ---- one more step

-- without a trap the configuration follows
follows_of : (label : Label) (trap : Option Span) (C : Configuration) (v : View) → trap ≡ None → IsStepOf C label trap v → Follows C label v
follows_of label None C v t f = f
follows_of label (Some at) C v t f = cc

traps_of : (label : Label) (trap : Option Span) (at : Span) (C : Configuration) (v : View) → trap ≡ Some at → IsStepOf C label trap v → (next C ≡ Traps at) × StandsFor v C
traps_of label None at C v t f = cc
traps_of label (Some place) at C v t f = let e : place ≡ at = cc in (f.0 ∙ ap Traps e, f.1)

more_of : (n : ℕ) (C : Configuration) (v v' : View) (label : Label) (Seen Seen' : List (ℕ × Label) → Type 0) → (s : Stood n C v Seen) → Follows s.last label v'
    → ((ls : List (ℕ × Label)) → Seen ls → Seen' (ls ++ shown (suc n) label)) → Stood (suc n) C v' Seen'
more_of n C v v' label Seen Seen' s f more = record {
  labels = s.labels ++ shown (suc n) label;
  last = f.after;
  reached = (s.last, s.labels, label, s.reached, f.steps, refl);
  is = f.is;
  stands = f.stands;
  seen = more s.labels s.seen;
}

-- one more step, and what was seen of it
pub one_more : (n : ℕ) (C : Configuration) (v v' : View) (label : Label) (trap : Option Span) (Seen Seen' : List (ℕ × Label) → Type 0) → Stood n C v Seen
    → ((D : Configuration) → IsConfiguration D → StandsFor v D → IsStepOf D label trap v') → trap ≡ None
    → ((ls : List (ℕ × Label)) → Seen ls → Seen' (ls ++ shown (n + 1) label)) → Stood (n + 1) C v' Seen'
one_more n C v v' label trap Seen Seen' s f t more =
    subst (λ k. ((ls : List (ℕ × Label)) → Seen ls → Seen' (ls ++ shown k label)) → Stood k C v' Seen') (sym (add-one n))
    (more_of n C v v' label Seen Seen' s (follows_of label trap s.last v' t (f s.last s.is s.stands))) more

-- ---- what a watcher has seen of more labels

module _ (f g : List ℕ → ℕ → Label → List ℕ) (same : (v : List ℕ) (n : ℕ) (l : Label) → g v n l ≡ f v n l) where
  view_after-append : (b : List ℕ) (ls ks : List (ℕ × Label)) → view_after g (view_after f b ls) ks ≡ view_after f b (ls ++ ks)
  view_after-append b [] [] = refl
  view_after-append b [] (k ∷ ks) = ap (λ v. view_after g v ks) (same b k.0 k.1) ∙ view_after-append (f b k.0 k.1) [] ks
  view_after-append b (l ∷ ls) ks = view_after-append (f b l.0 l.1) ls ks

  pub saw_more : (before mid after : Option (List ℕ)) (ks : List (ℕ × Label)) → Saw g mid after ks → (ls : List (ℕ × Label)) → Saw f before mid ls → Saw f before after (ls ++ ks)
  saw_more None mid after ks e ls d = tt
  saw_more (Some b) None after ks e ls d = absurd d
  saw_more (Some b) (Some m) None ks e ls d = absurd e
  saw_more (Some b) (Some m) (Some a) ks e ls d = e ∙ ap (λ v. view_after g v ks) d ∙ view_after-append b ls ks

pub saw_nothing : (f : List ℕ → ℕ → Label → List ℕ) (before : Option (List ℕ)) → Saw f before before []
saw_nothing f None = tt
saw_nothing f (Some b) = refl

-- the showing of one more label is refused
pub tore_last : (f : List ℕ → ℕ → Label → List ℕ) (T U : List ℕ → ℕ → Label → List ℕ → Type 0) → ((v : List ℕ) (n : ℕ) (l : Label) (a : List ℕ) → U v n l a ↔ T v n l a)
    → (n : ℕ) (l : Label) (before mid after : Option (List ℕ)) → WhereTold (λ b a. U b n l a) mid after
    → (ls : List (ℕ × Label)) → Saw f before mid ls → SawOrTore f T before after (ls ++ (n, l) ∷ [])
tore_last f T U same n l None mid after e ls d = tt
tore_last f T U same n l (Some b) None after e ls d = absurd d
tore_last f T U same n l (Some b) (Some m) None e ls d = absurd e
tore_last f T U same n l (Some b) (Some m) (Some a) e ls d =
    inr (ls, (n, l), refl, (same (view_after f b ls) n l a).0 (subst (λ v. U v n l a) d e))

-- ---- ends

pub empty_of : {A : Type 0} (xs : List A) → (xs ≢ [] → ⊥) → xs ≡ []
empty_of [] h = refl
empty_of (x ∷ xs) h = absurd (h (λ e. cc))

-- what isn't unfinished is finished
finished_by : (o : StepOutcome) → (o ≢ Finished → ⊥) → o ≡ Finished
finished_by Finished h = refl
finished_by _ h = absurd (h (λ e. cc))

not_true : (b : Bool) → b ≡ false → IsTrue b → ⊥
not_true b e t = cc

pub is_done : (n fuel : ℕ) (C : Configuration) (v : View) (Seen : List (ℕ × Label) → Type 0) (b : Bool) (steps : ℕ) → n ≡ steps → n ≤ fuel → b ≡ false
    → ((D : Configuration) → IsConfiguration D → StandsFor v D → IsTrue b ↔ (next D ≢ Finished)) → Stood n C v Seen → RanFor C fuel steps run.Done v Seen
is_done n fuel C v Seen b steps same le e r s =
    let over : next s.last ≡ Finished = finished_by (next s.last) (λ u. not_true b e ((r s.last s.is s.stands).1 u)) in
    record { ran = record { labels = s.labels; runs = record { steps = n; last = s.last; reached = s.reached; ends = (le, over) }; is = s.is; stands = s.stands; seen = s.seen }; count = same }

pub is_spent : (n fuel : ℕ) (C : Configuration) (v : View) (Seen : List (ℕ × Label) → Type 0) (b : Bool) → n ≡ fuel → IsTrue b
    → ((D : Configuration) → IsConfiguration D → StandsFor v D → IsTrue b ↔ (next D ≢ Finished)) → Stood n C v Seen → RanFor C fuel fuel run.FuelSpent v Seen
is_spent n fuel C v Seen b same t r s =
    record { ran = record { labels = s.labels; runs = record { steps = n; last = s.last; reached = s.reached; ends = (same, (r s.last s.is s.stands).0 t) }; is = s.is; stands = s.stands; seen = s.seen }; count = same }

pub is_trapped : (n fuel : ℕ) (C : Configuration) (v v' : View) (Seen : List (ℕ × Label) → Type 0) (label : Label) (trap : Option Span) (at : Span) → n < fuel
    → ((D : Configuration) → IsConfiguration D → StandsFor v D → IsStepOf D label trap v') → trap ≡ Some at → Stood n C v Seen → RanFor C fuel (n + 1) (run.Trap at) v' Seen
is_trapped n fuel C v v' Seen label trap at lt f t s =
    let x = traps_of label trap at s.last v' t (f s.last s.is s.stands) in
    record { ran = record { labels = s.labels; runs = record { steps = n; last = s.last; reached = s.reached; ends = (lt, x.0) }; is = s.is; stands = x.1; seen = s.seen }; count = refl }

-- ---- right steps

next_right : (C : Configuration) → next C ≢ Wrong → StepsRight C 1
next_right C h zero labels D lt reached = subst (λ X. next X ≢ Wrong) reached.0 h
next_right C h (suc n) labels D lt reached = absurd (omega (arith, lt))

-- after fewer steps than the fuel of a right run the next one is right
pub still_right : (n fuel : ℕ) (v v' : View) (Seen : List (ℕ × Label) → Type 0) → n < fuel → IsRightFor v fuel
    → ((C : Configuration) → IsConfiguration C → StandsFor v C → Stood n C v' Seen) → IsRightFor v' 1
still_right n fuel v v' Seen lt r stood =
    let s = stood r.configuration r.is r.stands in
    record { configuration = s.last; is = s.is; stands = s.stands; right = next_right s.last (r.right n s.labels s.last lt s.reached) }

-- ---- breaking off

module _ (n fuel : ℕ) (C : Configuration) (v v' : View) (label : Label) (trap : Option Span) (f : List ℕ → ℕ → Label → List ℕ) (T U : List ℕ → ℕ → Label → List ℕ → Type 0) (before mid after : Option (List ℕ)) (lt : n < fuel)
    (s : Stood n C v (Saw f before mid)) (steps : (D : Configuration) → IsConfiguration D → StandsFor v D → IsStepOf D label trap v') (t : trap ≡ None) (same : (w : List ℕ) (k : ℕ) (l : Label) (a : List ℕ) → U w k l a ↔ T w k l a)
    (torn : WhereTold (λ b a. U b (n + 1) label a) mid after) (one : shown (n + 1) label ≡ (n + 1, label) ∷ []) where
  torn_stood : Stood (n + 1) C v' (SawOrTore f T before after)
  torn_stood = one_more n C v v' label trap (Saw f before mid) (SawOrTore f T before after) s steps t
      (λ ls d. subst (λ ks. SawOrTore f T before after (ls ++ ks)) (sym one) (tore_last f T U same (n + 1) label before mid after torn ls d))

  -- the showing of the step's label was refused
  pub refused : BrokeOff C fuel (StandsFor v') (SawOrTore f T before after)
  refused = let x = torn_stood in record { steps = n + 1; few = omega arith; last = x.last; labels = x.labels; reached = x.reached; is = x.is; stands = x.stands; seen = x.seen }
