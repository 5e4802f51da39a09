-- Worked networks: how many events and steps a run has, and what it prints.
use Rattle.std.proofs.Common.{ℕ, zero, suc, ◌≡◌, ◌+◌, true, false, List, [], ◌++◌, refl}
use Rattle.std.specs.Prelude.{codes, pos}
use Rattle.std.specs.Fmt.{signed_decimal}
use Rattle.rand_pcg.specs.Lcg.{Lcg}
use Rattle.pict_syntax.specs.declared.span.Span.{Span}
use Rattle.pict_syntax.specs.declared.primitive.Primitive.TheVariants.{Print, Printi}
use Rattle.pict_core.specs.Term.{Process, Var, Int, Text, PrimitiveVal, Par, New, Out, In, Zero, Bind}
use Rattle.pict_core.specs.Run.{printed_by}
use Rattle.pict_seed.specs.Stream.{generator, chosen}
use Rattle.pict_network.specs.Network.{Network, opening_network}
use Rattle.pict_network.specs.Events.{Happening, Moved, Stepped, Stopped, Misshapen, NoEvent}
use Rattle.pict_network.specs.Runs.{choice, next_happening}

-- a network with its generator, how many events there were, how many steps among them, and what was printed
record State : Type 0 where
  network : Network
  words : Lcg
  events : ℕ
  steps : ℕ
  bytes : List ℕ

abbrev on : State → Lcg → Happening → State
on t words (Moved N) = record { network = N; words = words; events = t.events + 1; steps = t.steps; bytes = t.bytes }
on t words (Stepped N label) = record { network = N; words = words; events = t.events + 1; steps = t.steps + 1; bytes = t.bytes ++ printed_by label }
on t words (Stopped at) = t
on t words Misshapen = t
on t words NoEvent = t

abbrev follow : ℕ → State → State
follow zero t = t
follow (suc n) t = follow n (on t (choice t.network t.words).1 (next_happening t.network t.words))

-- how many events and steps, and the bytes
record Ran : Type 0 where
  events : ℕ
  steps : ℕ
  bytes : List ℕ

abbrev ran : State → Ran
ran t = record { events = t.events; steps = t.steps; bytes = t.bytes }

-- with this fuel, so many other sites, and a seed
abbrev run : ℕ → ℕ → ℕ → Process → Ran
run fuel others seed p = ran (follow fuel (record { network = opening_network others p; words = generator seed; events = 0; steps = 0; bytes = [] }))

abbrev place : Span
place = record { text = 1; start = 0; end = 0 }

-- new c (c!1 | (c?x = printi!x | 0))
abbrev meeting : Process
meeting = New (Par (Out (Var 0) (Int (pos 1)) place) (Par (In (Var 0) false Bind (Out (PrimitiveVal Printi) (Var 1) place)) Zero))

meeting_at_two : run 100 1 42 meeting ≡ record { events = 11; steps = 7; bytes = signed_decimal (pos 1) }
unfolding chosen
meeting_at_two = refl

meeting_at_two_short : run 10 1 42 meeting ≡ record { events = 10; steps = 6; bytes = [] }
unfolding chosen
meeting_at_two_short = refl

-- (print!"a" | print!"b") | 0
abbrev letters : Process
letters = Par (Par (Out (PrimitiveVal Print) (Text (codes "a")) place) (Out (PrimitiveVal Print) (Text (codes "b")) place)) Zero

letters_at_two : run 100 1 42 letters ≡ record { events = 7; steps = 5; bytes = codes "ab" }
unfolding chosen
letters_at_two = refl

letters_at_two_short : run 6 1 42 letters ≡ record { events = 6; steps = 4; bytes = codes "a" }
unfolding chosen
letters_at_two_short = refl

-- new c (c?*x = print!x | c?x = print!"p" | c!"1" | c!"2" | c!"3" | 0)
abbrev servers : Process
servers =
    New (Par (In (Var 0) true Bind (Out (PrimitiveVal Print) (Var 1) place)) (Par (In (Var 0) false Bind (Out (PrimitiveVal Print) (Text (codes "p")) place))
    (Par (Out (Var 0) (Text (codes "1")) place) (Par (Out (Var 0) (Text (codes "2")) place) (Par (Out (Var 0) (Text (codes "3")) place) Zero)))))

servers_at_one : run 100 0 7 servers ≡ record { events = 15; steps = 15; bytes = codes "1p3" }
unfolding chosen
servers_at_one = refl
