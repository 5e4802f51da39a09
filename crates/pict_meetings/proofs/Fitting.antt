-- A step that isn't wrong: its channel is there, and the pattern fits the message.
use Rattle.std.proofs.Common.{ℕ, zero, suc, ◌<◌, ◌≤◌, ◌≡◌, ◌≢◌, Bool, List, [], ◌∷◌, ◌++◌, length, map, refl, ap, ◌∙◌, arith, ⊎_elim, Option, Some, None}
use Rattle.std.proofs.lemmas.Bool.{cases_lt}
use Rattle.std.specs.List.{slice_get, slice_set}
use Rattle.std.specs.Option.{IsSome, unwrap_or}
use Rattle.pict_syntax.specs.declared.span.Span.{Span}
use Rattle.pict_core.specs.Matching.{match_value}
use Rattle.pict_core.specs.Term.{Val, Pat, Process, Chan, Out, In}
use Rattle.pict_core.specs.Deed.{serves, offers, takes, asks}
use Rattle.pict_core.specs.Step.{Quiet}
use Rattle.pict_view.specs.Moved.{Misshapen}
use Rattle.pict_view.specs.Placed.{moves, at_list, if_input, if_output, next_view}
use Rattle.pict_view.proofs.Rows.{put, act, list_of}

module _ (f : List ℕ → Process) where
  none_at : (xs : List (List (List ℕ))) (c : ℕ) → length xs ≤ c → slice_get (map (map f) xs) c ≡ None
  none_at [] c h = refl
  none_at (y ∷ ys) zero h = absurd (omega arith)
  none_at (y ∷ ys) (suc c) h = none_at ys c (omega arith)

  module _ (acting : List ℕ) (rest : List (List ℕ)) (channels : List (List (List ℕ)))
      (right : next_view (record { ready = map f (acting ∷ rest); channels = map (map f) channels }) ≢ Misshapen) where
    pub output_there : (c : ℕ) (v : Val) (at : Span) → f acting ≡ Out (Chan c) v at → c < length channels
    output_there c v at is = ⊎_elim
        (λ (low : c < length channels). low)
        (λ (high : length channels ≤ c). absurd (right (
        ap (act (map f rest) (map (map f) channels)) is
        ∙ ap (λ o. put (map f rest) (map (map f) channels) (Out (Chan c) v at) (offers c v (Out (Chan c) v at) (if_input (slice_get (unwrap_or o []) 0)))) (none_at channels c high)
        ∙ ap (at_list (λ waits. moves (map f rest) (slice_set (map (map f) channels) c (waits ++ Out (Chan c) v at ∷ [])) Quiet)) (none_at channels c high))))
        (cases_lt c (length channels))

    pub input_there : (c : ℕ) (b : Bool) (pattern : Pat) (body : Process) → f acting ≡ In (Chan c) b pattern body → c < length channels
    input_there c b pattern body is = ⊎_elim
        (λ (low : c < length channels). low)
        (λ (high : length channels ≤ c). absurd (right (
        ap (act (map f rest) (map (map f) channels)) is
        ∙ ap (λ o. put (map f rest) (map (map f) channels) (In (Chan c) b pattern body) (asks c b pattern body (In (Chan c) b pattern body) (if_output (slice_get (unwrap_or o []) 0)))) (none_at channels c high)
        ∙ ap (at_list (λ waits. moves (map f rest) (slice_set (map (map f) channels) c (waits ++ In (Chan c) b pattern body ∷ [])) Quiet)) (none_at channels c high))))
        (cases_lt c (length channels))

    pub output_fits : (c : ℕ) (v : Val) (at : Span) (reader : List ℕ) (others : List (List ℕ)) (w : Val) (b : Bool) (pattern : Pat) (body : Process)
        → slice_get channels c ≡ Some (reader ∷ others) → f acting ≡ Out (Chan c) v at → f reader ≡ In w b pattern body → IsSome (match_value pattern v)
    output_fits c v at reader others w b pattern body here is reads = by_match (match_value pattern v) refl
      where
        by_match : (o : Option (List Val)) → match_value pattern v ≡ o → IsSome o
        by_match None e = absurd (right (
            ap (act (map f rest) (map (map f) channels)) is
            ∙ ap (λ (l : List Process). put (map f rest) (map (map f) channels) (Out (Chan c) v at) (offers c v (Out (Chan c) v at) (if_input (slice_get l 0)))) (list_of (List ℕ) f channels c (reader ∷ others) here)
            ∙ ap (λ q. put (map f rest) (map (map f) channels) (Out (Chan c) v at) (offers c v (Out (Chan c) v at) (if_input (Some q)))) reads
            ∙ ap (λ o. put (map f rest) (map (map f) channels) (Out (Chan c) v at) (serves c v b (In w b pattern body) body o)) e))
        by_match (Some bound) e = refl

    pub input_fits : (c : ℕ) (b : Bool) (pattern : Pat) (body : Process) (message : List ℕ) (others : List (List ℕ)) (w v : Val) (at : Span)
        → slice_get channels c ≡ Some (message ∷ others) → f acting ≡ In (Chan c) b pattern body → f message ≡ Out w v at → IsSome (match_value pattern v)
    input_fits c b pattern body message others w v at here is sends = by_match (match_value pattern v) refl
      where
        by_match : (o : Option (List Val)) → match_value pattern v ≡ o → IsSome o
        by_match None e = absurd (right (
            ap (act (map f rest) (map (map f) channels)) is
            ∙ ap (λ (l : List Process). put (map f rest) (map (map f) channels) (In (Chan c) b pattern body) (asks c b pattern body (In (Chan c) b pattern body) (if_output (slice_get l 0)))) (list_of (List ℕ) f channels c (message ∷ others) here)
            ∙ ap (λ q. put (map f rest) (map (map f) channels) (In (Chan c) b pattern body) (asks c b pattern body (In (Chan c) b pattern body) (if_output (Some q)))) sends
            ∙ ap (λ o. put (map f rest) (map (map f) channels) (In (Chan c) b pattern body) (takes c v b body o)) e))
        by_match (Some bound) e = refl
