-- The step of the first ready process, for a machine that keeps something for each process, a block say: what it keeps before
-- and after.
use Rattle.std.proofs.Common.{ℕ, zero, suc, ◌≡◌, Bool, true, false, List, [], ◌∷◌, ◌++◌, length, map, refl, sym, ap, ◌∙◌, Option, Some, None}
use Rattle.std.proofs.lemmas.List.{map-append, length-map}
use Rattle.std.specs.Option.{unwrap_or}
use Rattle.std.specs.List.{slice_get, slice_set}
use Rattle.pict_syntax.specs.declared.span.Span.{Span}
use Rattle.pict_syntax.specs.declared.primitive.Primitive.{Primitive}
use Rattle.pict_core.specs.Term.{Val, Pat, Process, Chan, Boolean, PrimitiveVal, Zero, Par, New, Out, In, If}
use Rattle.pict_core.specs.Substitution.{substitute}
use Rattle.pict_core.specs.Matching.{match_value}
use Rattle.pict_core.specs.Primitives.{Effect, Nothing, Answer, effect_of}
use Rattle.pict_core.specs.Step.{Quiet, Comm, printing}
use Rattle.pict_core.specs.Deed.{Deed, leaves, performs, serves, offers, takes, asks, deed}
use Rattle.pict_view.specs.View as view
use Rattle.pict_view.specs.View.{View}
use Rattle.pict_view.specs.Moved.{Moved, Moves, if_replicated}
use Rattle.pict_view.specs.Placed.{without, ready_after, moves, at_list, place_at, if_input, if_output, partner_at, next_view}

-- a deed of the first ready process, before the rest
abbrev pub put : List Process → List (List Process) → Process → Deed → Moved View
put rest lists p d = place_at 0 0 (p ∷ rest) lists d

-- its step
abbrev pub act : List Process → List (List Process) → Process → Moved View
act rest lists p = put rest lists p (deed (length lists) (partner_at 0 lists p) p)

turn_kept : (b : Bool) (p x : Process) (rest : List Process) → ready_after 0 b (p ∷ rest) ++ x ∷ [] ≡ if_replicated b p ++ (rest ++ x ∷ [])
turn_kept true p x rest = refl
turn_kept false p x rest = refl

module _ (B : Type 0) (f : B → Process) where
  -- the view of what is kept of the ready processes, and of those parked at each channel
  abbrev pub view_of : List B → List (List B) → View
  view_of ready channels = record { ready = map f ready; channels = map (map f) channels }

  set_list : (xs : List (List B)) (c : ℕ) (x : List B) → slice_set (map (map f) xs) c (map f x) ≡ map (map f) (slice_set xs c x)
  set_list [] c x = refl
  set_list (y ∷ ys) zero x = refl
  set_list (y ∷ ys) (suc c) x = ap (λ l. map f y ∷ l) (set_list ys c x)

  list_at : (xs : List (List B)) (c : ℕ) (x : List B) → slice_get xs c ≡ Some x → slice_get (map (map f) xs) c ≡ Some (map f x)
  list_at [] c x e = cc
  list_at (y ∷ ys) zero x e = let h : y ≡ x = cc in ap (λ z. Some (map f z)) h
  list_at (y ∷ ys) (suc c) x e = list_at ys c x e

  pub list_of : (xs : List (List B)) (c : ℕ) (x : List B) → slice_get xs c ≡ Some x → view.list_at c (map (map f) xs) ≡ map f x
  list_of xs c x e = ap (λ (o : Option (List Process)). unwrap_or o []) (list_at xs c x e)

  again_is : (b : Bool) (r : B) (p : Process) → f r ≡ p → if_replicated b p ≡ map f (if_replicated b r)
  again_is true r p e = ap (λ q. q ∷ []) (sym e)
  again_is false r p e = refl

  -- what stands first in a list, if anything, is no reader, or no message
  abbrev pub BeginsWithMessage : List B → Type 0
  BeginsWithMessage [] = Unit {0}
  BeginsWithMessage (x ∷ xs) = (w : Val) × (v : Val) × (at : Span) × (f x ≡ Out w v at)

  abbrev pub BeginsWithReader : List B → Type 0
  BeginsWithReader [] = Unit {0}
  BeginsWithReader (x ∷ xs) = (w : Val) × (b : Bool) × (pattern : Pat) × (body : Process) × (f x ≡ In w b pattern body)

  module _ (acting : B) (rest : List B) (channels : List (List B)) where
    ready_pushed : (x : B) (p : Process) → f x ≡ p → map f rest ++ p ∷ [] ≡ map f (rest ++ x ∷ [])
    ready_pushed x p e = ap (λ q. map f rest ++ q ∷ []) (sym e) ∙ sym (map-append f rest (x ∷ []))

    -- 0: it ends
    pub ends : f acting ≡ Zero → next_view (view_of (acting ∷ rest) channels) ≡ Moves (view_of rest channels) Quiet
    ends is = ap (act (map f rest) (map (map f) channels)) is

    -- P | Q: the left part keeps the turn, the right part becomes the last
    pub forks : (p q : Process) (left right : B) → f acting ≡ Par p q → f left ≡ p → f right ≡ q
        → next_view (view_of (acting ∷ rest) channels) ≡ Moves (view_of (left ∷ (rest ++ right ∷ [])) channels) Quiet
    forks p q left right is l r =
        ap (act (map f rest) (map (map f) channels)) is
        ∙ ap (λ x. moves (x ∷ (map f rest ++ q ∷ [])) (map (map f) channels) Quiet) (sym l)
        ∙ ap (λ ps. moves (f left ∷ ps) (map (map f) channels) Quiet) (ready_pushed right q r)

    -- new x P: the part keeps the turn, with the next channel
    pub makes_channel : (p : Process) (part : B) → f acting ≡ New p → f part ≡ substitute 0 (Chan (length channels) ∷ []) p
        → next_view (view_of (acting ∷ rest) channels) ≡ Moves (view_of (part ∷ rest) (channels ++ [] ∷ [])) Quiet
    makes_channel p part is e =
        ap (act (map f rest) (map (map f) channels)) is
        ∙ ap (λ n. moves (substitute 0 (Chan n ∷ []) p ∷ map f rest) (map (map f) channels ++ [] ∷ []) Quiet) (length-map channels (map f))
        ∙ ap (λ x. moves (x ∷ map f rest) (map (map f) channels ++ [] ∷ []) Quiet) (sym e)
        ∙ ap (λ l. moves (f part ∷ map f rest) l Quiet) (sym (map-append (map f) channels ([] ∷ [])))

    -- if b P Q: the chosen branch keeps the turn
    pub takes_first : (p q : Process) (part : B) → f acting ≡ If (Boolean true) p q → f part ≡ p
        → next_view (view_of (acting ∷ rest) channels) ≡ Moves (view_of (part ∷ rest) channels) Quiet
    takes_first p q part is e =
        ap (act (map f rest) (map (map f) channels)) is ∙ ap (λ x. moves (x ∷ map f rest) (map (map f) channels) Quiet) (sym e)

    pub takes_second : (p q : Process) (part : B) → f acting ≡ If (Boolean false) p q → f part ≡ q
        → next_view (view_of (acting ∷ rest) channels) ≡ Moves (view_of (part ∷ rest) channels) Quiet
    takes_second p q part is e =
        ap (act (map f rest) (map (map f) channels)) is ∙ ap (λ x. moves (x ∷ map f rest) (map (map f) channels) Quiet) (sym e)

    module _ (p : Primitive) (v : Val) (at : Span) (effect : Effect) (is : f acting ≡ Out (PrimitiveVal p) v at) (has : effect_of p v ≡ Some effect) where
      left : next_view (view_of (acting ∷ rest) channels) ≡ put (map f rest) (map (map f) channels) (Out (PrimitiveVal p) v at) (leaves at (printing effect.printed) effect.leaves)
      left = ap (act (map f rest) (map (map f) channels)) is ∙ ap (λ o. put (map f rest) (map (map f) channels) (Out (PrimitiveVal p) v at) (performs at o)) has

      -- a primitive that leaves nothing
      pub primitive_ends : effect.leaves ≡ Nothing → next_view (view_of (acting ∷ rest) channels) ≡ Moves (view_of rest channels) (printing effect.printed)
      primitive_ends e = left ∙ ap (λ l. put (map f rest) (map (map f) channels) (Out (PrimitiveVal p) v at) (leaves at (printing effect.printed) l)) e

      -- a primitive that answers: the answer keeps the turn
      pub primitive_answers : (k a : Val) (answer : B) → effect.leaves ≡ Answer k a → f answer ≡ Out k a at
          → next_view (view_of (acting ∷ rest) channels) ≡ Moves (view_of (answer ∷ rest) channels) (printing effect.printed)
      primitive_answers k a answer e h =
          left ∙ ap (λ l. put (map f rest) (map (map f) channels) (Out (PrimitiveVal p) v at) (leaves at (printing effect.printed) l)) e
          ∙ ap (λ x. moves (x ∷ map f rest) (map (map f) channels) (printing effect.printed)) (sym h)

    -- ---- at a channel with this list

    module _ (c : ℕ) (list : List B) (here : slice_get channels c ≡ Some list) where
      parked : (p : Process) (x : B) → f x ≡ p
          → moves (map f rest) (slice_set (map (map f) channels) c (map f list ++ p ∷ [])) Quiet ≡ Moves (view_of rest (slice_set channels c (list ++ x ∷ []))) Quiet
      parked p x e =
          ap (λ q. moves (map f rest) (slice_set (map (map f) channels) c (map f list ++ q ∷ [])) Quiet) (sym e)
          ∙ ap (λ l. moves (map f rest) (slice_set (map (map f) channels) c l) Quiet) (sym (map-append f list (x ∷ [])))
          ∙ ap (λ l. moves (map f rest) l Quiet) (set_list channels c (list ++ x ∷ []))

      no_reader : (l : List B) → BeginsWithMessage l → if_input (slice_get (map f l) 0) ≡ None
      no_reader [] m = refl
      no_reader (x ∷ xs) (w, v, at, e) = ap (λ p. if_input (Some p)) e

      no_message : (l : List B) → BeginsWithReader l → if_output (slice_get (map f l) 0) ≡ None
      no_message [] m = refl
      no_message (x ∷ xs) (w, b, pattern, body, e) = ap (λ p. if_output (Some p)) e

      -- c!v without a parked reader: it parks, kept as `waiting`
      pub output_parks : (v : Val) (at : Span) (waiting : B) → f acting ≡ Out (Chan c) v at → f waiting ≡ Out (Chan c) v at → BeginsWithMessage list
          → next_view (view_of (acting ∷ rest) channels) ≡ Moves (view_of rest (slice_set channels c (list ++ waiting ∷ []))) Quiet
      output_parks v at waiting is same first =
          let P : Process = Out (Chan c) v at in
          ap (act (map f rest) (map (map f) channels)) is
          ∙ ap (λ (l : List Process). put (map f rest) (map (map f) channels) P (offers c v P (if_input (slice_get l 0)))) (list_of channels c list here)
          ∙ ap (λ o. put (map f rest) (map (map f) channels) P (offers c v P o)) (no_reader list first)
          ∙ ap (at_list (λ waits. moves (map f rest) (slice_set (map (map f) channels) c (waits ++ P ∷ [])) Quiet)) (list_at channels c list here)
          ∙ parked P waiting same

      -- c?p = P or c?*p = P without a parked message: it parks
      pub input_parks : (b : Bool) (pattern : Pat) (body : Process) (waiting : B) → f acting ≡ In (Chan c) b pattern body → f waiting ≡ In (Chan c) b pattern body
          → BeginsWithReader list → next_view (view_of (acting ∷ rest) channels) ≡ Moves (view_of rest (slice_set channels c (list ++ waiting ∷ []))) Quiet
      input_parks b pattern body waiting is same first =
          let P : Process = In (Chan c) b pattern body in
          ap (act (map f rest) (map (map f) channels)) is
          ∙ ap (λ (l : List Process). put (map f rest) (map (map f) channels) P (asks c b pattern body P (if_output (slice_get l 0)))) (list_of channels c list here)
          ∙ ap (λ o. put (map f rest) (map (map f) channels) P (asks c b pattern body P o)) (no_message list first)
          ∙ ap (at_list (λ waits. moves (map f rest) (slice_set (map (map f) channels) c (waits ++ P ∷ [])) Quiet)) (list_at channels c list here)
          ∙ parked P waiting same

    -- c!v with a parked reader: the body becomes the last of the ready ones; a replicated reader goes behind the others
    pub output_meets : (c : ℕ) (v : Val) (at : Span) (reader : B) (others : List B) (w : Val) (b : Bool) (pattern : Pat) (body : Process) (bound : List Val) (served : B)
        → slice_get channels c ≡ Some (reader ∷ others) → f acting ≡ Out (Chan c) v at → f reader ≡ In w b pattern body → match_value pattern v ≡ Some bound
        → f served ≡ substitute 0 bound body
        → next_view (view_of (acting ∷ rest) channels) ≡ Moves (view_of (rest ++ served ∷ []) (slice_set channels c (others ++ if_replicated b reader))) (Comm c v)
    output_meets c v at reader others w b pattern body bound served here is reads fits e =
        let P : Process = Out (Chan c) v at in
        ap (act (map f rest) (map (map f) channels)) is
        ∙ ap (λ (l : List Process). put (map f rest) (map (map f) channels) P (offers c v P (if_input (slice_get l 0)))) (list_of channels c (reader ∷ others) here)
        ∙ ap (λ q. put (map f rest) (map (map f) channels) P (offers c v P (if_input (Some q)))) reads
        ∙ ap (λ o. put (map f rest) (map (map f) channels) P (serves c v b (In w b pattern body) body o)) fits
        ∙ ap (at_list (λ waits. moves (map f rest ++ substitute 0 bound body ∷ []) (slice_set (map (map f) channels) c (without 0 waits ++ if_replicated b (In w b pattern body))) (Comm c v))) (list_at channels c (reader ∷ others) here)
        ∙ ap (λ ps. moves ps (slice_set (map (map f) channels) c (map f others ++ if_replicated b (In w b pattern body))) (Comm c v)) (ready_pushed served (substitute 0 bound body) e)
        ∙ ap (λ l. moves (map f (rest ++ served ∷ [])) (slice_set (map (map f) channels) c (map f others ++ l)) (Comm c v)) (again_is b reader (In w b pattern body) reads)
        ∙ ap (λ l. moves (map f (rest ++ served ∷ [])) (slice_set (map (map f) channels) c l) (Comm c v)) (sym (map-append f others (if_replicated b reader)))
        ∙ ap (λ l. moves (map f (rest ++ served ∷ [])) l (Comm c v)) (set_list channels c (others ++ if_replicated b reader))

    -- c?p = P or c?*p = P with a parked message: the body becomes the last of the ready ones; a replicated input keeps the turn
    pub input_meets : (c : ℕ) (b : Bool) (pattern : Pat) (body : Process) (message : B) (others : List B) (w v : Val) (at : Span) (bound : List Val) (received : B)
        → slice_get channels c ≡ Some (message ∷ others) → f acting ≡ In (Chan c) b pattern body → f message ≡ Out w v at → match_value pattern v ≡ Some bound
        → f received ≡ substitute 0 bound body
        → next_view (view_of (acting ∷ rest) channels) ≡ Moves (view_of (if_replicated b acting ++ (rest ++ received ∷ [])) (slice_set channels c others)) (Comm c v)
    input_meets c b pattern body message others w v at bound received here is sends fits e =
        let P : Process = In (Chan c) b pattern body in
        ap (act (map f rest) (map (map f) channels)) is
        ∙ ap (λ (l : List Process). put (map f rest) (map (map f) channels) P (asks c b pattern body P (if_output (slice_get l 0)))) (list_of channels c (message ∷ others) here)
        ∙ ap (λ q. put (map f rest) (map (map f) channels) P (asks c b pattern body P (if_output (Some q)))) sends
        ∙ ap (λ o. put (map f rest) (map (map f) channels) P (takes c v b body o)) fits
        ∙ ap (at_list (λ waits. moves (ready_after 0 b (P ∷ map f rest) ++ substitute 0 bound body ∷ []) (slice_set (map (map f) channels) c (without 0 waits)) (Comm c v))) (list_at channels c (message ∷ others) here)
        ∙ ap (λ ps. moves ps (slice_set (map (map f) channels) c (map f others)) (Comm c v)) (turn_kept b P (substitute 0 bound body) (map f rest))
        ∙ ap (λ ps. moves (if_replicated b P ++ ps) (slice_set (map (map f) channels) c (map f others)) (Comm c v)) (ready_pushed received (substitute 0 bound body) e)
        ∙ ap (λ l. moves (l ++ map f (rest ++ received ∷ [])) (slice_set (map (map f) channels) c (map f others)) (Comm c v)) (again_is b acting P is)
        ∙ ap (λ ps. moves ps (slice_set (map (map f) channels) c (map f others)) (Comm c v)) (sym (map-append f (if_replicated b acting) (rest ++ received ∷ [])))
        ∙ ap (λ l. moves (map f (if_replicated b acting ++ (rest ++ received ∷ []))) l (Comm c v)) (set_list channels c others)
