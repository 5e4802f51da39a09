-- Where who has the turn stands, and what kind of step it takes.
use Rattle.std.specs.Prelude.{ℕ, List, Option, Some, None, slice_get, nat_eq, if◌then◌else◌}
use Rattle.pict_core.specs.Term.{Process, Out, In}
use Rattle.pict_code.specs.Instruction as op
use Rattle.pict_desk.specs.AtHand.{channel_named}
use Rattle.pict_turns.specs.Acting.{ActsBy}
use Rattle.pict_turns.specs.declared.store.Store.{Store}
use Rattle.pict_network.specs.SiteView.{IsNoFork, IsNoOpening}
use Rattle.pict_sites.specs.Working.{acting_process}
use Rattle.pict_sites.specs.declared.standing.Form.{Form}
use Rattle.pict_sites.specs.declared.standing.Form.TheVariants as form

-- the channel that an output or an input stands at
abbrev pub channel_at : Process → Option ℕ
channel_at (Out chan message at) = channel_named chan
channel_at (In chan replicated pattern body) = channel_named chan
channel_at _ = None

-- the home, if it is another site than s
abbrev pub other_home : ℕ → Option ℕ → Option ℕ
other_home s None = None
other_home s (Some h) = if nat_eq h s then None else Some h

-- the home of a channel, if it has one
abbrev pub home_in : List ℕ → Option ℕ → Option ℕ
home_in homes None = None
home_in homes (Some c) = slice_get homes c

-- the kind of step of who has the turn
abbrev pub IsForm : Process → Store → Form → Type 0
IsForm core s (form.Fork left right) = ActsBy core s (op.Par left right)
IsForm core s form.Opening = (level : ℕ) × (part : ℕ) × ActsBy core s (op.New level part)
IsForm core s form.Other = IsNoFork (acting_process core s) × IsNoOpening (acting_process core s)
