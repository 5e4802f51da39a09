-- What outputs and inputs do at a channel.
use Rattle.std.proofs.Common.{ℕ, ◌<◌, ◌≤◌, ◌≡◌, ◌≢◌, Bool, true, List, length, refl, sym, ap, ◌∙◌, Option, Some, None, get_or}
use Rattle.std.proofs.lemmas.Option.{slice_get_within, slice_get_past, get_or_from_slice_get}
use Rattle.std.specs.List.{slice_get}
use Rattle.std.specs.Option.{IsSome}
use Rattle.pict_syntax.specs.declared.span.Span.{Span}
use Rattle.pict_core.specs.Term.{Val, Pat, Process, Chan, Zero, Out, In}
use Rattle.pict_core.specs.Deed as deeds
use Rattle.pict_core.specs.Deed.{Misfits, offers, serves, asks, takes}
use Rattle.pict_core.specs.Matching.{match_value}
use Rattle.pict_core.specs.Substitution.{substitute}
use Rattle.pict_view.specs.Partners.{is_input}
use Rattle.pict_view.specs.Placed.{if_input, if_output}
use Rattle.pict_view.specs.View.{list_at}
use Rattle.pict_picker.specs.Deeds.{waits_at, deed_at}

-- who is there at a place
pub there_at : (ps : List Process) (j : ℕ) (p : Process) → slice_get ps j ≡ Some p → (j < length ps) × (get_or ps j Zero ≡ p)
there_at ps j p e = (slice_get_within ps j p e, get_or_from_slice_get ps j p Zero e)

-- an input, by its test
pub record IsIn (p : Process) : Type 0 where
  pub chan : Val
  pub replicated : Bool
  pub pattern : Pat
  pub body : Process
  pub is : p ≡ In chan replicated pattern body

pub is_in : (p : Process) → is_input p ≡ true → IsIn p
is_in (In chan replicated pattern body) e = record { chan = chan; replicated = replicated; pattern = pattern; body = body; is = refl }
is_in _ e = cc

module _ (lists : List (List Process)) (j c : ℕ) (own : Process) where
  -- an output that waits
  module _ (v : Val) (at : Span) (is : own ≡ Out (Chan c) v at) where
    pub parks_row : if_input (slice_get (list_at c lists) j) ≡ None → deed_at lists j own ≡ deeds.Parks c (Out (Chan c) v at)
    parks_row e = ap (deed_at lists j) is ∙ ap (offers c v (Out (Chan c) v at)) e

    pub alone_row : length (list_at c lists) ≤ j → deed_at lists j own ≡ deeds.Parks c (Out (Chan c) v at)
    alone_row past = parks_row (ap if_input (slice_get_past (list_at c lists) j past))

    pub beside_row : (w x : Val) (place : Span) → slice_get (list_at c lists) j ≡ Some (Out w x place) → deed_at lists j own ≡ deeds.Parks c (Out (Chan c) v at)
    beside_row w x place e = parks_row (ap if_input e)

    -- an output that meets an input
    module _ (reader : Process) (w : Val) (b : Bool) (pattern : Pat) (body : Process) (waits : slice_get (list_at c lists) j ≡ Some reader) (reads : reader ≡ In w b pattern body) where
      served : deed_at lists j own ≡ serves c v b (In w b pattern body) body (match_value pattern v)
      served =
          ap (deed_at lists j) is
          ∙ ap (λ o. offers c v (Out (Chan c) v at) (if_input o)) waits
          ∙ ap (λ q. offers c v (Out (Chan c) v at) (if_input (Some q))) reads

      pub serves_fits : deed_at lists j own ≢ Misfits → IsSome (match_value pattern v)
      serves_fits right = by_match (match_value pattern v) refl
        where
          by_match : (o : Option (List Val)) → match_value pattern v ≡ o → IsSome o
          by_match None e = absurd (right (served ∙ ap (serves c v b (In w b pattern body) body) e))
          by_match (Some bound) e = refl

      pub serves_row : (bound : List Val) (part : Process) → match_value pattern v ≡ Some bound → part ≡ substitute 0 bound body
          → deed_at lists j own ≡ deeds.Serves c v b (waits_at lists j c) part
      serves_row bound part fits part_is =
          served ∙ ap (serves c v b (In w b pattern body) body) fits
          ∙ ap (λ q. deeds.Serves c v b q (substitute 0 bound body)) (sym ((there_at (list_at c lists) j reader waits).1 ∙ reads))
          ∙ ap (deeds.Serves c v b (waits_at lists j c)) (sym part_is)

  -- an input that waits
  module _ (b : Bool) (pattern : Pat) (body : Process) (is : own ≡ In (Chan c) b pattern body) where
    waits_row : if_output (slice_get (list_at c lists) j) ≡ None → deed_at lists j own ≡ deeds.Parks c own
    waits_row e = ap (deed_at lists j) is ∙ ap (asks c b pattern body (In (Chan c) b pattern body)) e ∙ ap (deeds.Parks c) (sym is)

    pub reader_alone : length (list_at c lists) ≤ j → deed_at lists j own ≡ deeds.Parks c own
    reader_alone past = waits_row (ap if_output (slice_get_past (list_at c lists) j past))

    none_of_input : (reader : Process) → IsIn reader → if_output (Some reader) ≡ None
    none_of_input reader i = ap (λ p. if_output (Some p)) i.is

    pub reader_beside : (reader : Process) → slice_get (list_at c lists) j ≡ Some reader → is_input reader ≡ true → deed_at lists j own ≡ deeds.Parks c own
    reader_beside reader waits input = waits_row (ap if_output waits ∙ none_of_input reader (is_in reader input))

    pub reads_in : is_input own ≡ true
    reads_in = ap is_input is

    -- an input that takes a message
    module _ (w v : Val) (at : Span) (waits : slice_get (list_at c lists) j ≡ Some (Out w v at)) where
      taken : deed_at lists j own ≡ takes c v b body (match_value pattern v)
      taken = ap (deed_at lists j) is ∙ ap (λ o. asks c b pattern body (In (Chan c) b pattern body) (if_output o)) waits

      pub takes_fits : deed_at lists j own ≢ Misfits → IsSome (match_value pattern v)
      takes_fits right = by_match (match_value pattern v) refl
        where
          by_match : (o : Option (List Val)) → match_value pattern v ≡ o → IsSome o
          by_match None e = absurd (right (taken ∙ ap (takes c v b body) e))
          by_match (Some bound) e = refl

      pub takes_row : (bound : List Val) (part : Process) → match_value pattern v ≡ Some bound → part ≡ substitute 0 bound body
          → deed_at lists j own ≡ deeds.Takes c v b part
      takes_row bound part fits part_is = taken ∙ ap (takes c v b body) fits ∙ ap (deeds.Takes c v b) (sym part_is)
