-- Runs at the only site, whose queues are lent from one event to the next.
use Rattle.std.specs.Prelude.{◌≡◌, ◌≤◌, ℕ, Bool, true, false, length, Option, Some, None, Result, Ok, Err}
use Rattle.std.specs.declared.alloc.AllocError.{AllocError}
use Rattle.rand_pcg.specs.Lcg.{Lcg}
use Rattle.pict_core.specs.Term.{Process}
use Rattle.pict_code.specs.Plain.{plain_code}
use Rattle.pict_desk.specs.Code.{IsCode}
use Rattle.pict_desk.specs.Constants.{AreConstants}
use Rattle.pict_picker.specs.Events.{IsDidOf}
use Rattle.pict_picker.specs.declared.did.Did.{Did}
use Rattle.pict_network.specs.Network as plain
use Rattle.pict_sites.specs.Network.{core_in, heap_of, StandsForNetwork, IsNetworkStore}
use Rattle.pict_sites.specs.Runs.{AreNext}
use Rattle.pict_sites.specs.Views.{heap_in}
use Rattle.pict_sites.specs.Working.{StandWhile, AreWorking}
use Rattle.pict_sites.specs.declared.happened.Happened.TheVariants as happened
use Rattle.pict_sites.specs.declared.network.Network.{Network}
use Rattle.pict_sites.specs.declared.sites.Sites.{Sites}

-- There is one site, its queues are lent, and somebody of it may have the turn. Nothing is on its way.
pub record IsAlone (n : Network) : Type 0 where
  pub code : IsCode (plain_code n.code)
  pub constants : AreConstants (heap_of n) (plain_code n.code) n.constants.items
  pub sites : AreWorking (core_in n) 0 n.sites
  pub one : length n.sites.queues.items ≡ 1
  pub none : length n.sites.to.items ≡ 0

-- what holds of a network between two events of a run: where the site is alone, or as between two calls
abbrev pub IsRunning : Bool → Network → Type 0
IsRunning true n = IsAlone n
IsRunning false n = IsNetworkStore n

-- what it stands for then
abbrev pub StandsIn : Bool → Network → plain.Network → Type 0
StandsIn true n N = StandWhile (core_in n) 0 n.sites N
StandsIn false n N = StandsForNetwork n N

-- What the answer says of five events of the only site, at most so many: they happened, four steps that show nothing and one that
-- shows this, by words of the heap. Or it stands for what it stood for.
abbrev pub IsCalled : Process → Sites → Sites → ℕ → Result (Option Did) AllocError → Type 0
IsCalled core old new most (Ok (Some did)) =
    (5 ≤ most) × IsDidOf (heap_in new) did
    × ((N : plain.Network) (g : Lcg) → StandWhile core 0 old N
    → AreNext (heap_in new) (StandWhile core 0 new) N g g (record { quiet = 4; last = Some (happened.Stepped did) }))
IsCalled core old new most (Ok None) = (N : plain.Network) → StandWhile core 0 old N → StandWhile core 0 new N
IsCalled core old new most (Err error) = (N : plain.Network) → StandWhile core 0 old N → StandWhile core 0 new N
