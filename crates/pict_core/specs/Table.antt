-- The table of steps: one constructor a row.
use Rattle.std.specs.Prelude.{ℕ, Bool, true, false, ◌≡◌, ◌↔◌, List, [], ◌∷◌, Option, Some, None}
use Rattle.pict_syntax.specs.declared.span.Span.{Span}
use Rattle.pict_syntax.specs.declared.primitive.Primitive.{Primitive}
use Rattle.pict_core.specs.Term.{Val, Pat, Process, Chan, Boolean, PrimitiveVal, Zero, Par, New, Out, In, If}
use Rattle.pict_core.specs.Substitution.{substitute}
use Rattle.pict_core.specs.Matching.{match_value}
use Rattle.pict_core.specs.Primitives.{Effect, Nothing, Answer, effect_of}
use Rattle.pict_core.specs.Configuration.{Ready, Parked, Entry, Configuration}
use Rattle.pict_core.specs.Step.{Label, Quiet, Comm, Steps, gone, kept, added, with_channel, printing, act}

-- In C the ready process at stamp s steps, with this parked partner, if its channel has one. The indices after these are
-- the process, the configuration afterwards, and the label. `gone` takes a stamp away, `kept` gives its process' turn to
-- another, and `added` gives a process the next stamp.
pub data Row (C : Configuration) (s : ℕ) : Option Entry → Process → Configuration → Label → Type 0 where
  -- 0: it ends
  ends : {o : Option Entry} → Row C s o Zero (gone s C) Quiet
  -- P | Q: P keeps the turn; Q becomes ready with the next stamp
  forks : {o : Option Entry} {p q : Process} → Row C s o (Par p q) (added Ready q (kept s p C)) Quiet
  -- new x P: the next channel is made and put for x; P keeps the turn
  makes_channel : {o : Option Entry} {p : Process} → Row C s o (New p) (kept s (substitute 0 (Chan C.channels ∷ []) p) (with_channel C)) Quiet
  -- if b P Q: the branch that b chooses keeps the turn
  takes_first : {o : Option Entry} {p q : Process} → Row C s o (If (Boolean true) p q) (kept s p C) Quiet
  takes_second : {o : Option Entry} {p q : Process} → Row C s o (If (Boolean false) p q) (kept s q C) Quiet
  -- f!v, f a primitive that leaves nothing: it ends
  primitive_ends : {o : Option Entry} {f : Primitive} {v : Val} {at : Span} {e : Effect}
      → effect_of f v ≡ Some e → e.leaves ≡ Nothing
      → Row C s o (Out (PrimitiveVal f) v at) (gone s C) (printing e.printed)
  -- f!v, f a primitive that answers a at k: k!a keeps the turn
  primitive_answers : {o : Option Entry} {f : Primitive} {v k a : Val} {at : Span} {e : Effect}
      → effect_of f v ≡ Some e → e.leaves ≡ Answer k a
      → Row C s o (Out (PrimitiveVal f) v at) (kept s (Out k a at) C) (printing e.printed)
  -- c!v without a parked reader: it parks with the next stamp
  output_parks : {c : ℕ} {v : Val} {at : Span} → Row C s None (Out (Chan c) v at) (added Parked (Out (Chan c) v at) (gone s C)) Quiet
  -- c!v with a parked plain reader: both end; the reader's body becomes ready with the next stamp
  output_meets_reader : {c : ℕ} {v w : Val} {at : Span} {u : Entry} {pattern : Pat} {body : Process} {bound : List Val}
      → u.process ≡ In w false pattern body → match_value pattern v ≡ Some bound
      → Row C s (Some u) (Out (Chan c) v at) (added Ready (substitute 0 bound body) (gone u.stamp (gone s C))) (Comm c v)
  -- c!v with a parked replicated reader: the reader stays parked and gets the stamp after its body's
  output_meets_server : {c : ℕ} {v w : Val} {at : Span} {u : Entry} {pattern : Pat} {body : Process} {bound : List Val}
      → u.process ≡ In w true pattern body → match_value pattern v ≡ Some bound
      → Row C s (Some u) (Out (Chan c) v at)
      (added Parked (In w true pattern body) (added Ready (substitute 0 bound body) (gone u.stamp (gone s C)))) (Comm c v)
  -- c?p = P or c?*p = P without a parked message: it parks with the next stamp
  input_parks : {c : ℕ} {b : Bool} {pattern : Pat} {body : Process}
      → Row C s None (In (Chan c) b pattern body) (added Parked (In (Chan c) b pattern body) (gone s C)) Quiet
  -- c?p = P with a parked message: both end; the body becomes ready with the next stamp
  reader_meets_message : {c : ℕ} {v w : Val} {at : Span} {u : Entry} {pattern : Pat} {body : Process} {bound : List Val}
      → u.process ≡ Out w v at → match_value pattern v ≡ Some bound
      → Row C s (Some u) (In (Chan c) false pattern body) (added Ready (substitute 0 bound body) (gone u.stamp (gone s C))) (Comm c v)
  -- c?*p = P with a parked message: the message ends; the body becomes ready with the next stamp, and the input keeps the turn
  server_meets_message : {c : ℕ} {v w : Val} {at : Span} {u : Entry} {pattern : Pat} {body : Process} {bound : List Val}
      → u.process ≡ Out w v at → match_value pattern v ≡ Some bound
      → Row C s (Some u) (In (Chan c) true pattern body) (added Ready (substitute 0 bound body) (gone u.stamp C)) (Comm c v)

-- What a process does in a step is a row of the table, and each row is what a process does.
abbrev pub StepsAreRows : Type 0
StepsAreRows =
    (C : Configuration) (s : ℕ) (o : Option Entry) (p : Process) (D : Configuration) (label : Label)
    → act C s o p ≡ Steps D label ↔ Row C s o p D label
