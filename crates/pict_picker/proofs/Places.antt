-- Deeds are placed in lists of waiting processes as they are in those of their processes.
use Rattle.std.proofs.Common.{ℕ, zero, suc, ◌+◌, ◌<◌, ◌≡◌, Bool, true, false, List, [], ◌∷◌, ◌++◌, length, map, refl, sym, ap, ◌∙◌, subst, arith, Option, Some, option_map, get_or, append-nil}
use Rattle.std.proofs.lemmas.List.{map-append, length-map}
use Rattle.std.proofs.lemmas.Option.{slice_get-map, get_or_from_slice_get}
use Rattle.std.specs.List.{AllByRecursion, slice_get, slice_set}
use Rattle.pict_syntax.specs.declared.span.Span.{Span}
use Rattle.pict_core.specs.Term.{Val, Process, Zero}
use Rattle.pict_core.specs.Deed as deeds
use Rattle.pict_core.specs.Step.{Label, Quiet, Comm}
use Rattle.pict_heap.specs.HeapState.{HeapState}
use Rattle.pict_ranked.specs.Ranking.{Ranking}
use Rattle.pict_view.specs.Moved.{Moved, Moves, if_replicated}
use Rattle.pict_view.specs.Partners.{is_input}
use Rattle.pict_view.specs.Placed.{without, instead, ready_after, place_at, moves}
use Rattle.pict_view.specs.View.{View, list_at}
use Rattle.pict_view.proofs.Lists.{instead_suc, map_without, map_instead, all_without, all_pushed, listed}
use Rattle.pict_desk.specs.declared.kept.Kept.{Kept}
use Rattle.pict_heap.specs.declared.word.Word.{Word}
use Rattle.pict_picker.specs.Deeds.{waits_at, deed_of, label_printed}
use Rattle.pict_picker.specs.Events.{label_of, IsDidOf}
use Rattle.pict_picker.specs.Lists.{left_ready, outcome_of, IsDeedPlaced}
use Rattle.pict_picker.specs.Picker.{items_of, channel_items, channel_processes, view_of_lists, AreLists}
use Rattle.pict_picker.specs.Waiting.{pair_value, process_of, processes_of, IsKept, IsWaiting, CanPark, IsParked, AreWaiting, AreParked}
use Rattle.pict_picker.specs.declared.deed.Deed.{Deed}
use Rattle.pict_picker.specs.declared.deed.Deed.TheVariants as deed
use Rattle.pict_picker.specs.declared.did.Did.{Did}
use Rattle.pict_picker.specs.declared.did.Did.TheVariants as did
use Rattle.pict_picker.specs.declared.lists.Lists.{Lists}
use Rattle.pict_picker.specs.declared.waiting.Waiting.{Waiting}
use Rattle.pict_picker.specs.declared.waiting.Waiting.TheVariants as waiting

-- ---- lists

set_map : {A B : Type 0} (g : A → B) (ys : List A) (c : ℕ) (z : A) → slice_set (map g ys) c (g z) ≡ map g (slice_set ys c z)
set_map g [] c z = refl
set_map g (y ∷ ys) zero z = refl
set_map g (y ∷ ys) (suc c) z = ap (λ l. g y ∷ l) (set_map g ys c z)

all_set : {A : Type 0} (P : A → Type 0) (ys : List A) (c : ℕ) (z : A) → AllByRecursion P ys → P z → AllByRecursion P (slice_set ys c z)
all_set P [] c z a p = tt
all_set P (y ∷ ys) zero z a p = (p, a.1)
all_set P (y ∷ ys) (suc c) z a p = (a.0, all_set P ys c z a.1 p)

all_instead : {A : Type 0} (P : A → Type 0) (i : ℕ) (x : A) (xs : List A) → P x → AllByRecursion P xs → AllByRecursion P (instead i x xs)
all_instead P zero x [] p a = (p, tt)
all_instead P (suc i) x [] p a = let e : suc i + 1 ≡ suc (i + 1) = omega arith in rw e (p, tt)
all_instead P zero x (y ∷ xs) p a = (p, a.1)
all_instead P (suc i) x (y ∷ xs) p a = subst (AllByRecursion P) (sym (instead_suc i x y xs)) (a.0, all_instead P i x xs p a.1)

pub all_get : {A : Type 0} (P : A → Type 0) (ys : List A) (c : ℕ) (d : A) → AllByRecursion P ys → c < length ys → P (get_or ys c d)
all_get P [] c d a h = absurd (omega arith)
all_get P (y ∷ ys) zero d a h = a.0
all_get P (y ∷ ys) (suc c) d a h = all_get P ys c d a.1 (omega arith)

all_there : {A : Type 0} (P : A → Type 0) (xs : List A) (i : ℕ) (x : A) → AllByRecursion P xs → slice_get xs i ≡ Some x → P x
all_there P [] i x a e = cc
all_there P (y ∷ ys) zero x a e = let same : y ≡ x = cc in subst P same a.0
all_there P (y ∷ ys) (suc i) x a e = all_there P ys i x a.1 e

all_stays : {A : Type 0} (P : A → Type 0) (b : Bool) (xs : List A) (x : A) → AllByRecursion P xs → P x → AllByRecursion P (xs ++ if_replicated b x)
all_stays P true xs x a p = all_pushed P xs x a p
all_stays P false xs x a p = subst (AllByRecursion P) (sym (append-nil xs)) a

again_map : {A B : Type 0} (f : A → B) (b : Bool) (x : A) → if_replicated b (f x) ≡ map f (if_replicated b x)
again_map f true x = refl
again_map f false x = refl

after_map : {A B : Type 0} (f : A → B) (i : ℕ) (xs : List A) (y : A) → without i (map f xs) ++ f y ∷ [] ≡ map f (without i xs ++ y ∷ [])
after_map f i xs y = ap (λ l. l ++ f y ∷ []) (sym (map_without f i xs)) ∙ sym (map-append f (without i xs) (y ∷ []))

-- ---- what a step answers

pub outcome_moves : (h : HeapState) (v : View) (d : Did) → ((at : Span) → ¬ (d ≡ did.Trapped at)) → outcome_of h v d ≡ Moves v (label_of h d)
outcome_moves h v did.Quiet n = refl
outcome_moves h v (did.Comm c w) n = refl
outcome_moves h v (did.Print w) n = refl
outcome_moves h v (did.Trapped at) n = absurd (n at refl)

module _ (core : Process) (h : HeapState) where
  -- the view of these ready ones and of those at each channel
  abbrev pub view_by : List Waiting → List (List Waiting) → View
  view_by xs ys = record { ready = processes_of core h xs; channels = map (processes_of core h) ys }

  view_is : (lists : Lists) (xs : List Waiting) (ys : List (List Waiting)) → lists.ready.items ≡ xs → channel_items lists ≡ ys → view_of_lists core h lists ≡ view_by xs ys
  view_is lists xs ys e f = ap (λ zs. view_by zs (channel_items lists)) e ∙ ap (view_by xs) f

  -- what was moved to these lists is placed
  pub placed_by : (old new : Lists) (i j : ℕ) (own : Process) (d : Deed) (answer : Did) (xs : List Waiting) (ys : List (List Waiting)) (label : Label)
      → new.ready.items ≡ xs → channel_items new ≡ ys
      → place_at i j (processes_of core h old.ready.items) (channel_processes core h old) (deed_of core h (channel_processes core h old) j own d) ≡ Moves (view_by xs ys) label
      → AreWaiting core h xs → AllByRecursion (AreParked core h) ys → label_of h answer ≡ label → IsDidOf h answer → ((at : Span) → ¬ (answer ≡ did.Trapped at))
      → IsDeedPlaced core h old new i j own d answer
  placed_by old new i j own d answer xs ys label e f moved ready parked shown event no_trap = record {
    is = moved ∙ ap (Moves (view_by xs ys)) (sym shown) ∙ ap (λ v. Moves v (label_of h answer)) (sym (view_is new xs ys e f)) ∙ sym (outcome_moves h (view_of_lists core h new) answer no_trap);
    lists = record { ready = subst (AreWaiting core h) (sym e) ready; parked = subst (AllByRecursion (AreParked core h)) (sym f) parked };
    event = event;
  }

  -- ---- rows

  module _ (i j : ℕ) (xs : List Waiting) (ys : List (List Waiting)) where
    abbrev at_place : deeds.Deed → Moved View
    at_place = place_at i j (processes_of core h xs) (map (processes_of core h) ys)

    pub ends_moves : (label : Label) → at_place (deeds.Ends label) ≡ Moves (view_by (without i xs) ys) label
    ends_moves label = ap (λ ps. moves ps (map (processes_of core h) ys) label) (sym (map_without (process_of core h) i xs))

    pub keeps_moves : (w : Waiting) (label : Label) → at_place (deeds.Keeps (process_of core h w) label) ≡ Moves (view_by (instead i w xs) ys) label
    keeps_moves w label = ap (λ ps. moves ps (map (processes_of core h) ys) label) (sym (map_instead (process_of core h) i w xs))

    pub forks_moves : (p q : Waiting) → at_place (deeds.Forks (process_of core h p) (process_of core h q)) ≡ Moves (view_by (instead i p xs ++ q ∷ []) ys) Quiet
    forks_moves p q =
        ap (λ ps. moves (ps ++ process_of core h q ∷ []) (map (processes_of core h) ys) Quiet) (sym (map_instead (process_of core h) i p xs))
        ∙ ap (λ ps. moves ps (map (processes_of core h) ys) Quiet) (sym (map-append (process_of core h) (instead i p xs) (q ∷ [])))

    pub opens_moves : (p : Waiting) → at_place (deeds.Opens (process_of core h p)) ≡ Moves (view_by (instead i p xs) (ys ++ [] ∷ [])) Quiet
    opens_moves p =
        ap (λ ps. moves ps (map (processes_of core h) ys ++ [] ∷ []) Quiet) (sym (map_instead (process_of core h) i p xs))
        ∙ ap (λ ls. moves (processes_of core h (instead i p xs)) ls Quiet) (sym (map-append (processes_of core h) ys ([] ∷ [])))

    module _ (c : ℕ) (there : c < length ys) where
      abbrev list_of : List Waiting
      list_of = get_or ys c []

      pub list_is : list_at c (map (processes_of core h) ys) ≡ processes_of core h list_of
      list_is = there_list ys c there
        where
          there_list : (zs : List (List Waiting)) (k : ℕ) → k < length zs → list_at k (map (processes_of core h) zs) ≡ processes_of core h (get_or zs k [])
          there_list [] k low = absurd (omega arith)
          there_list (z ∷ zs) zero low = refl
          there_list (z ∷ zs) (suc k) low = there_list zs k (omega arith)

      inside : c < length (map (processes_of core h) ys)
      inside = omega (arith, there, length-map ys (processes_of core h))

      pub parks_moves : (w : Waiting) → at_place (deeds.Parks c (process_of core h w)) ≡ Moves (view_by (without i xs) (slice_set ys c (list_of ++ w ∷ []))) Quiet
      parks_moves w =
          listed (λ parked. moves (without i (processes_of core h xs)) (slice_set (map (processes_of core h) ys) c (parked ++ process_of core h w ∷ [])) Quiet) (map (processes_of core h) ys) c inside
          ∙ ap (λ parked. moves (without i (processes_of core h xs)) (slice_set (map (processes_of core h) ys) c (parked ++ process_of core h w ∷ [])) Quiet) list_is
          ∙ ap (λ l. moves (without i (processes_of core h xs)) (slice_set (map (processes_of core h) ys) c l) Quiet) (sym (map-append (process_of core h) list_of (w ∷ [])))
          ∙ ap (λ ls. moves (without i (processes_of core h xs)) ls Quiet) (set_map (processes_of core h) ys c (list_of ++ w ∷ []))
          ∙ ap (λ ps. moves ps (map (processes_of core h) (slice_set ys c (list_of ++ w ∷ []))) Quiet) (sym (map_without (process_of core h) i xs))

      module _ (v : Val) (replicated : Bool) (body : Waiting) where
        pub serves_moves : (reader : Waiting) → slice_get list_of j ≡ Some reader
            → at_place (deeds.Serves c v replicated (waits_at (map (processes_of core h) ys) j c) (process_of core h body))
            ≡ Moves (view_by (without i xs ++ body ∷ []) (slice_set ys c (without j list_of ++ if_replicated replicated reader))) (Comm c v)
        serves_moves reader e =
            let f = process_of core h in
            let who : waits_at (map (processes_of core h) ys) j c ≡ f reader =
            ap (λ (l : List Process). get_or l j Zero) list_is ∙ get_or_from_slice_get (map f list_of) j (f reader) Zero (slice_get-map f list_of j ∙ ap (option_map f) e) in
            ap (λ q. at_place (deeds.Serves c v replicated q (f body))) who
            ∙ listed (λ parked. moves (without i (map f xs) ++ f body ∷ []) (slice_set (map (map f) ys) c (without j parked ++ if_replicated replicated (f reader))) (Comm c v)) (map (map f) ys) c inside
            ∙ ap (λ parked. moves (without i (map f xs) ++ f body ∷ []) (slice_set (map (map f) ys) c (without j parked ++ if_replicated replicated (f reader))) (Comm c v)) list_is
            ∙ ap (λ l. moves (without i (map f xs) ++ f body ∷ []) (slice_set (map (map f) ys) c l) (Comm c v))
            (ap (λ l. l ++ if_replicated replicated (f reader)) (sym (map_without f j list_of)) ∙ ap (λ l. map f (without j list_of) ++ l) (again_map f replicated reader)
            ∙ sym (map-append f (without j list_of) (if_replicated replicated reader)))
            ∙ ap (λ ls. moves (without i (map f xs) ++ f body ∷ []) ls (Comm c v)) (set_map (map f) ys c (without j list_of ++ if_replicated replicated reader))
            ∙ ap (λ ps. moves ps (map (map f) (slice_set ys c (without j list_of ++ if_replicated replicated reader))) (Comm c v)) (after_map f i xs body)

        pub takes_moves : at_place (deeds.Takes c v replicated (process_of core h body))
            ≡ Moves (view_by (left_ready i xs replicated ++ body ∷ []) (slice_set ys c (without j list_of))) (Comm c v)
        takes_moves =
            let f = process_of core h in
            listed (λ parked. moves (ready_after i replicated (map f xs) ++ f body ∷ []) (slice_set (map (map f) ys) c (without j parked)) (Comm c v)) (map (map f) ys) c inside
            ∙ ap (λ parked. moves (ready_after i replicated (map f xs) ++ f body ∷ []) (slice_set (map (map f) ys) c (without j parked)) (Comm c v)) list_is
            ∙ ap (λ l. moves (ready_after i replicated (map f xs) ++ f body ∷ []) (slice_set (map (map f) ys) c l) (Comm c v)) (sym (map_without f j list_of))
            ∙ ap (λ ls. moves (ready_after i replicated (map f xs) ++ f body ∷ []) ls (Comm c v)) (set_map (map f) ys c (without j list_of))
            ∙ ap (λ ps. moves ps (map (map f) (slice_set ys c (without j list_of))) (Comm c v)) (ready_left replicated)
          where
            ready_left : (b : Bool) → ready_after i b (map (process_of core h) xs) ++ process_of core h body ∷ [] ≡ map (process_of core h) (left_ready i xs b ++ body ∷ [])
            ready_left true = sym (map-append (process_of core h) xs (body ∷ []))
            ready_left false = after_map (process_of core h) i xs body

-- ---- a deed of each kind is placed

can_park : (core : Process) (h : HeapState) (w : Waiting) → is_input (process_of core h w) ≡ true → CanPark core h w
can_park core h (waiting.Node number frame) e = e
can_park core h (waiting.Output kept) e = tt

-- what is kept of the process at a place
pub who_is : (core : Process) (h : HeapState) (ws : List Waiting) (i : ℕ) (w : Waiting) (own : Process) → slice_get ws i ≡ Some w → slice_get (processes_of core h ws) i ≡ Some own → process_of core h w ≡ own
who_is core h ws i w own e f =
    let there : Some (process_of core h w) ≡ Some own = sym (slice_get-map (process_of core h) ws i ∙ ap (option_map (process_of core h)) e) ∙ f in
    cc

module _ (core : Process) (h : HeapState) (old new : Lists) (i j : ℕ) (own : Process) (are : AreLists core h old) (answer : Did) where
  abbrev xs : List Waiting
  xs = old.ready.items

  abbrev ys : List (List Waiting)
  ys = channel_items old

  abbrev Untrapped : Type 0
  Untrapped = (at : Span) → ¬ (answer ≡ did.Trapped at)

  pub ends_placed : (shown : Option Word) → new.ready.items ≡ without i xs → channel_items new ≡ ys → label_of h answer ≡ label_printed h shown → IsDidOf h answer → Untrapped
      → IsDeedPlaced core h old new i j own (deed.Ends shown) answer
  ends_placed shown e f label event untrapped =
      placed_by core h old new i j own (deed.Ends shown) answer (without i xs) ys (label_printed h shown) e f (ends_moves core h i j xs ys (label_printed h shown))
      (all_without (IsWaiting core h) i xs are.ready) are.parked label event untrapped

  pub keeps_placed : (w : Waiting) (shown : Option Word) → IsWaiting core h w → new.ready.items ≡ instead i w xs → channel_items new ≡ ys → label_of h answer ≡ label_printed h shown → IsDidOf h answer → Untrapped
      → IsDeedPlaced core h old new i j own (deed.Keeps w shown) answer
  keeps_placed w shown waits e f label event untrapped =
      placed_by core h old new i j own (deed.Keeps w shown) answer (instead i w xs) ys (label_printed h shown) e f (keeps_moves core h i j xs ys w (label_printed h shown))
      (all_instead (IsWaiting core h) i w xs waits are.ready) are.parked label event untrapped

  pub forks_placed : (p q : Waiting) → IsWaiting core h p → IsWaiting core h q → new.ready.items ≡ instead i p xs ++ q ∷ [] → channel_items new ≡ ys → label_of h answer ≡ Quiet → IsDidOf h answer → Untrapped
      → IsDeedPlaced core h old new i j own (deed.Forks p q) answer
  forks_placed p q first second e f label event untrapped =
      placed_by core h old new i j own (deed.Forks p q) answer (instead i p xs ++ q ∷ []) ys Quiet e f (forks_moves core h i j xs ys p q)
      (all_pushed (IsWaiting core h) (instead i p xs) q (all_instead (IsWaiting core h) i p xs first are.ready) second) are.parked label event untrapped

  pub opens_placed : (p : Waiting) → IsWaiting core h p → new.ready.items ≡ instead i p xs → channel_items new ≡ ys ++ [] ∷ [] → label_of h answer ≡ Quiet → IsDidOf h answer → Untrapped
      → IsDeedPlaced core h old new i j own (deed.Opens p) answer
  opens_placed p waits e f label event untrapped =
      placed_by core h old new i j own (deed.Opens p) answer (instead i p xs) (ys ++ [] ∷ []) Quiet e f (opens_moves core h i j xs ys p)
      (all_instead (IsWaiting core h) i p xs waits are.ready) (all_pushed (AreParked core h) ys [] are.parked tt) label event untrapped

  module _ (c : ℕ) (there : c < length ys) where
    abbrev at_channel : List Waiting
    at_channel = get_or ys c []

    parked_at : AreParked core h at_channel
    parked_at = all_get (AreParked core h) ys c [] are.parked there

    pub waits_placed : (w : Waiting) → slice_get xs i ≡ Some w → slice_get (processes_of core h xs) i ≡ Some own → is_input own ≡ true
        → new.ready.items ≡ without i xs → channel_items new ≡ slice_set ys c (at_channel ++ w ∷ []) → label_of h answer ≡ Quiet → IsDidOf h answer → Untrapped
        → IsDeedPlaced core h old new i j own (deed.Waits c) answer
    waits_placed w is here input e f label event untrapped =
        let same = who_is core h xs i w own is here in
        placed_by core h old new i j own (deed.Waits c) answer (without i xs) (slice_set ys c (at_channel ++ w ∷ [])) Quiet e f
        (ap (λ p. place_at i j (processes_of core h xs) (channel_processes core h old) (deeds.Parks c p)) (sym same) ∙ parks_moves core h i j xs ys c there w)
        (all_without (IsWaiting core h) i xs are.ready)
        (all_set (AreParked core h) ys c (at_channel ++ w ∷ []) are.parked
        (all_pushed (IsParked core h) at_channel w parked_at (all_there (IsWaiting core h) xs i w are.ready is, can_park core h w (ap is_input same ∙ input))))
        label event untrapped

    pub parks_placed : (kept : Kept) → IsKept h kept → new.ready.items ≡ without i xs → channel_items new ≡ slice_set ys c (at_channel ++ waiting.Output kept ∷ []) → label_of h answer ≡ Quiet → IsDidOf h answer → Untrapped
        → IsDeedPlaced core h old new i j own (deed.Parks c kept) answer
    parks_placed kept k e f label event untrapped =
        placed_by core h old new i j own (deed.Parks c kept) answer (without i xs) (slice_set ys c (at_channel ++ waiting.Output kept ∷ [])) Quiet e f
        (parks_moves core h i j xs ys c there (waiting.Output kept))
        (all_without (IsWaiting core h) i xs are.ready)
        (all_set (AreParked core h) ys c (at_channel ++ waiting.Output kept ∷ []) are.parked (all_pushed (IsParked core h) at_channel (waiting.Output kept) parked_at (k, tt)))
        label event untrapped

    module _ (message : ℕ × ℕ) (replicated : Bool) (body : Waiting) (waits : IsWaiting core h body) where
      pub serves_placed : (reader : Waiting) → slice_get at_channel j ≡ Some reader → new.ready.items ≡ without i xs ++ body ∷ []
          → channel_items new ≡ slice_set ys c (without j at_channel ++ if_replicated replicated reader) → label_of h answer ≡ Comm c (pair_value h message) → IsDidOf h answer → Untrapped
          → IsDeedPlaced core h old new i j own (deed.Serves c message replicated body) answer
      serves_placed reader is e f label event untrapped =
          placed_by core h old new i j own (deed.Serves c message replicated body) answer (without i xs ++ body ∷ []) (slice_set ys c (without j at_channel ++ if_replicated replicated reader))
          (Comm c (pair_value h message)) e f (serves_moves core h i j xs ys c there (pair_value h message) replicated body reader is)
          (all_pushed (IsWaiting core h) (without i xs) body (all_without (IsWaiting core h) i xs are.ready) waits)
          (all_set (AreParked core h) ys c (without j at_channel ++ if_replicated replicated reader) are.parked
          (all_stays (IsParked core h) replicated (without j at_channel) reader (all_without (IsParked core h) j at_channel parked_at) (all_there (IsParked core h) at_channel j reader parked_at is)))
          label event untrapped

      all_left : (b : Bool) → AreWaiting core h (left_ready i xs b)
      all_left true = are.ready
      all_left false = all_without (IsWaiting core h) i xs are.ready

      pub takes_placed : new.ready.items ≡ left_ready i xs replicated ++ body ∷ []
          → channel_items new ≡ slice_set ys c (without j at_channel) → label_of h answer ≡ Comm c (pair_value h message) → IsDidOf h answer → Untrapped
          → IsDeedPlaced core h old new i j own (deed.Takes c message replicated body) answer
      takes_placed e f label event untrapped =
          placed_by core h old new i j own (deed.Takes c message replicated body) answer (left_ready i xs replicated ++ body ∷ []) (slice_set ys c (without j at_channel))
          (Comm c (pair_value h message)) e f (takes_moves core h i j xs ys c there (pair_value h message) replicated body)
          (all_pushed (IsWaiting core h) (left_ready i xs replicated) body (all_left replicated) waits)
          (all_set (AreParked core h) ys c (without j at_channel) are.parked (all_without (IsParked core h) j at_channel parked_at))
          label event untrapped

  -- a trap
  pub stops_placed : (at : Span) → new ≡ old → answer ≡ did.Trapped at → IsDeedPlaced core h old new i j own (deed.Stops at) answer
  stops_placed at same is =
      subst (IsDeedPlaced core h old new i j own (deed.Stops at)) (sym is)
      (record { is = refl; lists = subst (AreLists core h) (sym same) are; event = tt })

pub get_there : (ws : List Waiting) (j : ℕ) → j < length ws → (w : Waiting) × (slice_get ws j ≡ Some w)
get_there [] j low = absurd (omega arith)
get_there (w ∷ ws) zero low = (w, refl)
get_there (w ∷ ws) (suc j) low = get_there ws j (omega arith)

-- what is parked at a channel, as processes and as what is kept of them
pub parked_many : (core : Process) (h : HeapState) (lists : Lists) (c j : ℕ) → c < length (channel_processes core h lists) → j < length (list_at c (channel_processes core h lists))
    → (c < length (channel_items lists)) × (j < length (get_or (channel_items lists) c []))
parked_many core h lists c j there low =
    let inside : c < length (channel_items lists) = omega (arith, there, length-map (channel_items lists) (processes_of core h)) in
    let same = ap length (list_is core h 0 j [] (channel_items lists) c inside) in
    (inside, omega (arith, low, same, length-map (get_or (channel_items lists) c []) (process_of core h)))

-- the deed's channel is there
pub channel_low : (core : Process) (h : HeapState) (lists : Lists) (c : ℕ) → c < length (channel_processes core h lists) → c < length (channel_items lists)
channel_low core h lists c there = omega (arith, there, length-map (channel_items lists) (processes_of core h))

pub opened_items : (old new : List (Ranking Waiting)) (r : Ranking Waiting) → new ≡ old ++ r ∷ [] → r.items ≡ [] → items_of new ≡ items_of old ++ [] ∷ []
opened_items old new r e f = ap items_of e ∙ map-append (λ (x : Ranking Waiting). x.items) old (r ∷ []) ∙ ap (λ ws. items_of old ++ ws ∷ []) f
