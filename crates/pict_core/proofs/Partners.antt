-- What stands at a channel.
use Rattle.std.proofs.Common.{ℕ, ◌≡◌, Bool, true, false, not, nat_eq, sym, ap, arith}
use Rattle.std.proofs.lemmas.Bool.Decides.{nat_tests}
use Rattle.std.specs.Prelude.{◌&&◌}
use Rattle.pict_core.specs.Term.{Val, Chan}
use Rattle.pict_core.specs.Step.{is_channel, is_ready, is_parked_reader, is_parked_message, reads, sends}
use Rattle.pict_core.specs.Configuration.{Entry}

pub same_channel : (c number : ℕ) → nat_eq c number ≡ true → c ≡ number
same_channel c number h = grind (arith, nat_tests)

pub own_channel : (c : ℕ) → nat_eq c c ≡ true
own_channel c = grind (arith, nat_tests)

pub channel_is : (c : ℕ) (chan : Val) → is_channel c chan ≡ true → chan ≡ Chan c
channel_is c (Chan number) h = ap Chan (sym (same_channel c number h))
channel_is c _ h = cc

-- what is parked and passes a test passes it
pub and_right : (a b : Bool) → not a && b ≡ true → b ≡ true
and_right true b h = cc
and_right false b h = h

-- what is ready waits at no channel
pub ready_no_message : (c : ℕ) (e : Entry) → is_ready e ≡ true → is_parked_message c e ≡ false
ready_no_message c e h = ap (λ b. not b && sends c e.process) h

pub ready_no_reader : (c : ℕ) (e : Entry) → is_ready e ≡ true → is_parked_reader c e ≡ false
ready_no_reader c e h = ap (λ b. not b && reads c e.process) h
