-- Whether a step is wrong, by the deed of who has the turn.
use Rattle.std.proofs.Common.{ℕ, zero, suc, ◌<◌, ◌≡◌, Bool, true, false, not, List, [], ◌∷◌, ◌++◌, length, refl, arith, Option, Some, None}
use Rattle.std.specs.List.{slice_get, slice_set}
use Rattle.pict_syntax.specs.declared.span.Span.{Span}
use Rattle.pict_core.specs.Closed.{IsUnder}
use Rattle.pict_core.specs.Deed.{Deed, Ends, Keeps, Forks, Opens, Parks, Serves, Takes, Misfits, leaves, performs, serves, offers, takes, asks, sends, receives, chooses, deed}
use Rattle.pict_core.specs.Deed as deeds
use Rattle.pict_core.specs.Matching.{match_value}
use Rattle.pict_core.specs.Primitives.{Effect, Leaves, Nothing, Answer, Trap, effect_of}
use Rattle.pict_core.specs.Step.{Label, Quiet, Comm, printing}
use Rattle.pict_core.specs.Term.{Val, Pat, Process, Zero, Par, New, Out, In, If}
use Rattle.pict_core.specs.Term as term
use Rattle.pict_shapes.specs.Fitting.{is_found}
use Rattle.pict_shapes.specs.Shapes.{is_effect, is_kind}
use Rattle.pict_syntax.specs.declared.primitive.ValueKind.TheVariants as kind
use Rattle.pict_view.specs.Moved.{Moved, if_replicated}
use Rattle.pict_view.specs.Placed.{without, ready_after, moves, at_list, place_at}
use Rattle.pict_view.specs.View.{View}
use Rattle.pict_machine.specs.Wrong.{is_misshapen}

abbrev pub is_misfit : Deed → Bool
is_misfit Misfits = true
is_misfit _ = false

-- the channel at which a deed is done has a list
abbrev pub HasList : List (List Process) → Deed → Type 0
HasList lists (Parks c p) = (x : List Process) × (slice_get lists c ≡ Some x)
HasList lists (Serves c v replicated reader body) = (x : List Process) × (slice_get lists c ≡ Some x)
HasList lists (Takes c v replicated body) = (x : List Process) × (slice_get lists c ≡ Some x)
HasList lists _ = Unit {0}

list_moves : (go : List Process → Moved View) (o : Option (List Process)) (x : List Process) → o ≡ Some x → ((l : List Process) → is_misshapen (go l) ≡ false) → is_misshapen (at_list go o) ≡ false
list_moves go None x e h = cc
list_moves go (Some y) x e h = h y

-- a deed at a channel that is there is wrong where it misfits alone
pub placed_wrong : (ready : List Process) (lists : List (List Process)) (d : Deed) → HasList lists d → is_misshapen (place_at 0 0 ready lists d) ≡ is_misfit d
placed_wrong ready lists (Ends label) h = refl
placed_wrong ready lists (Keeps p label) h = refl
placed_wrong ready lists (Forks p q) h = refl
placed_wrong ready lists (Opens p) h = refl
placed_wrong ready lists (Parks c p) h = list_moves (λ parked. moves (without 0 ready) (slice_set lists c (parked ++ p ∷ [])) Quiet) (slice_get lists c) h.0 h.1 (λ l. refl)
placed_wrong ready lists (Serves c v replicated reader body) h =
    list_moves (λ parked. moves (without 0 ready ++ body ∷ []) (slice_set lists c (without 0 parked ++ if_replicated replicated reader)) (Comm c v)) (slice_get lists c) h.0 h.1 (λ l. refl)
placed_wrong ready lists (Takes c v replicated body) h =
    list_moves (λ parked. moves (ready_after 0 replicated ready ++ body ∷ []) (slice_set lists c (without 0 parked)) (Comm c v)) (slice_get lists c) h.0 h.1 (λ l. refl)
placed_wrong ready lists (deeds.Stops at) h = refl
placed_wrong ready lists Misfits h = refl

-- ---- a process whose channels are there

there : (lists : List (List Process)) (c : ℕ) → c < length lists → (x : List Process) × (slice_get lists c ≡ Some x)
there [] c h = absurd (omega (arith, h))
there (l ∷ ls) zero h = (l, refl)
there (l ∷ ls) (suc c) h = there ls c (omega (arith, h))

module _ (lists : List (List Process)) where
  performs_listed : (at : Span) (e : Option Effect) → HasList lists (performs at e)
  performs_listed at None = tt
  performs_listed at (Some e) = leaves_listed (printing e.printed) e.leaves
    where
      leaves_listed : (label : Label) (l : Leaves) → HasList lists (leaves at label l)
      leaves_listed label Nothing = tt
      leaves_listed label (Answer k a) = tt
      leaves_listed label Trap = tt

  module _ (c : ℕ) (low : c < length lists) where
    serves_listed : (v : Val) (replicated : Bool) (reader body : Process) (o : Option (List Val)) → HasList lists (serves c v replicated reader body o)
    serves_listed v replicated reader body None = tt
    serves_listed v replicated reader body (Some bound) = there lists c low

    takes_listed : (v : Val) (replicated : Bool) (body : Process) (o : Option (List Val)) → HasList lists (takes c v replicated body o)
    takes_listed v replicated body None = tt
    takes_listed v replicated body (Some bound) = there lists c low

    offers_listed : (v : Val) (sender : Process) (partner : Option Process) → HasList lists (offers c v sender partner)
    offers_listed v sender None = there lists c low
    offers_listed v sender (Some (In chan replicated pattern body)) = serves_listed v replicated (In chan replicated pattern body) body (match_value pattern v)
    offers_listed v sender (Some _) = tt

    asks_listed : (replicated : Bool) (pattern : Pat) (body reader : Process) (partner : Option Process) → HasList lists (asks c replicated pattern body reader partner)
    asks_listed replicated pattern body reader None = there lists c low
    asks_listed replicated pattern body reader (Some (Out chan message at)) = takes_listed message replicated body (match_value pattern message)
    asks_listed replicated pattern body reader (Some _) = tt

  sends_listed : (v message : Val) (at : Span) (partner : Option Process) → IsUnder 0 (length lists) (Out v message at) → HasList lists (sends v message at partner)
  sends_listed (term.PrimitiveVal p) message at partner under = performs_listed at (effect_of p message)
  sends_listed (term.Chan c) message at partner under = offers_listed c under.0 message (Out (term.Chan c) message at) partner
  sends_listed _ message at partner under = tt

  receives_listed : (v : Val) (replicated : Bool) (pattern : Pat) (body : Process) (partner : Option Process) → IsUnder 0 (length lists) (In v replicated pattern body) → HasList lists (receives v replicated pattern body partner)
  receives_listed (term.Chan c) replicated pattern body partner under = asks_listed c under.0 replicated pattern body (In (term.Chan c) replicated pattern body) partner
  receives_listed _ replicated pattern body partner under = tt

  if_listed : (b : Bool) (p q : Process) → HasList lists (chooses (term.Boolean b) p q)
  if_listed true p q = tt
  if_listed false p q = tt

  chooses_listed : (v : Val) (p q : Process) → HasList lists (chooses v p q)
  chooses_listed (term.Boolean b) p q = if_listed b p q
  chooses_listed _ p q = tt

  pub deed_listed : (p : Process) (partner : Option Process) → IsUnder 0 (length lists) p → HasList lists (deed (length lists) partner p)
  deed_listed Zero partner under = tt
  deed_listed (Par p q) partner under = tt
  deed_listed (New p) partner under = tt
  deed_listed (If test p q) partner under = chooses_listed test p q
  deed_listed (Out chan message at) partner under = sends_listed chan message at partner under
  deed_listed (In chan replicated pattern body) partner under = receives_listed chan replicated pattern body partner under

-- ---- where a deed misfits

pub test_misfits : (v : Val) (p q : Process) → is_misfit (chooses v p q) ≡ not (is_kind kind.Bool v)
test_misfits (term.Boolean true) p q = refl
test_misfits (term.Boolean false) p q = refl
test_misfits (term.Var x) p q = refl
test_misfits (term.Chan x) p q = refl
test_misfits (term.Int x) p q = refl
test_misfits (term.Char x) p q = refl
test_misfits (term.Text x) p q = refl
test_misfits (term.PrimitiveVal x) p q = refl
test_misfits (term.Record vs ls) p q = refl

pub call_misfits : (at : Span) (e : Option Effect) → is_misfit (performs at e) ≡ not (is_effect e)
call_misfits at None = refl
call_misfits at (Some e) = left (printing e.printed) e.leaves
  where
    left : (label : Label) (l : Leaves) → is_misfit (leaves at label l) ≡ false
    left label Nothing = refl
    left label (Answer k a) = refl
    left label Trap = refl

pub served_misfits : (c : ℕ) (v : Val) (replicated : Bool) (reader body : Process) (o : Option (List Val)) → is_misfit (serves c v replicated reader body o) ≡ not (is_found o)
served_misfits c v replicated reader body None = refl
served_misfits c v replicated reader body (Some bound) = refl

pub taken_misfits : (c : ℕ) (v : Val) (replicated : Bool) (body : Process) (o : Option (List Val)) → is_misfit (takes c v replicated body o) ≡ not (is_found o)
taken_misfits c v replicated body None = refl
taken_misfits c v replicated body (Some bound) = refl
