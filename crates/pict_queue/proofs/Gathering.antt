-- A block is made of a free one: what contracts see of it.
use Rattle.std.specs.List.{list_any}
use Rattle.std.proofs.Common.{◌≡◌, ◌≢◌, ◌-◌, ◌^◌, ◌<◌, ◌≤◌, ◌∷◌, [], ℕ, List, length, drop, eqb, refl, sym, ◌∙◌, ap, subst, arith, None, Some, IsTrue}
use Rattle.std.specs.Option.{is_some, unwrap_or}
use Rattle.std.specs.FinMap.{get}
use Rattle.pict_region.specs.RegionState.{RegionState, width_of, GainsWords, GainsLinked}
use Rattle.pict_region.proofs.Uses.{Live, get_inserted, get_insert_apart}
use Rattle.pict_queue.specs.QueuesState.{QueuesState, IsHeld, KeepsQueues}
use Rattle.pict_queue.specs.Contents.{held_words, KeepsAllContents, KeepsHeld, HoldsOneMore}
use Rattle.pict_queue.specs.Threads.{queues_state, thread, AreQueuesSound}
use Rattle.pict_queue.specs.declared.queues.Queues.TheInside.{Inside}
use Rattle.pict_queue.proofs.Orders.{held_if_apart, ThreadsStay, apart_changed, absent_if_new}
use Rattle.pict_queue.proofs.Calls.{lists_kept}
use Rattle.pict_queue.proofs.Kept.{contents_beside, held_beside, one_more_beside, taken_apart}

pub record GainsBlock (a after : Inside) (old : QueuesState) (block : ℕ) (words : List ℕ) : Type 0 where
  pub stay : ThreadsStay a.region after.region a.ends.queues.items
  pub lists : KeepsQueues old (queues_state after)
  pub held : IsHeld (queues_state after) block
  pub words_are : held_words after.region block ≡ words
  pub apart : (other : ℕ) → IsHeld old other → other ≢ block
  pub contents : KeepsAllContents old (queues_state after)
  pub kept : KeepsHeld old (queues_state after)
  pub more : HoldsOneMore old (queues_state after) block

pub gains_block : (a after : Inside) (old : QueuesState) (block : ℕ) (words : List ℕ) → queues_state a ≡ old → AreQueuesSound a → get a.region.live block ≡ None
    → block < 2 ^ 32 - 1 → GainsWords a.region after.region block words → 1 ≤ length words → after.ends.queues.items ≡ a.ends.queues.items
    → GainsBlock a after old block words
gains_block a after old block words is sound fresh small gains some same =
    let all : List ℕ = gains.first ∷ words in
    let found : get after.region.live block ≡ Some all = ap (λ m. get m block) gains.live ∙ get_inserted a.region.live block all in
    let wide : width_of after.region block ≡ length all = ap (λ o. length (unwrap_or o [])) found in
    let absent = absent_if_new a.region a.ends.queues.items block sound.threaded fresh in
    let stay : ThreadsStay a.region after.region a.ends.queues.items =
    apart_changed a.region after.region a.ends.queues.items block sound.threaded absent
    (λ other apart. ap (λ m. get m other) gains.live ∙ get_insert_apart a.region.live block all other apart)
    (λ live. (omega (arith, wide, some), small)) in
    let lists : KeepsQueues old (queues_state after) = lists_kept a after old is same stay in
    let held : IsHeld (queues_state after) block = held_if_apart after block (record {
      live = ap is_some found;
      absent = λ q. ap (λ qs. list_any (eqb block) (thread after.region qs q)) same ∙ ap (list_any (eqb block)) (stay.same q) ∙ absent q;
    }) in
    let others : (other : ℕ) → other ≢ block → get after.region.live other ≡ get old.region.live other = λ other apart.
    ap (λ m. get m other) gains.live ∙ get_insert_apart a.region.live block all other apart ∙ ap (λ s. get s.region.live other) is in
    let new : get old.region.live block ≡ None = ap (λ s. get s.region.live block) (sym is) ∙ fresh in
    let apart : (other : ℕ) → IsHeld old other → other ≢ block = λ other h. taken_apart old block other new h in
    record {
      stay = stay;
      lists = lists;
      held = held;
      words_are = ap (λ o. drop 1 (unwrap_or o [])) found;
      apart = apart;
      contents = contents_beside old (queues_state after) block others lists
          (λ queue stands. held.apart queue (subst (λ l. IsTrue (list_any (eqb block) l)) (sym (lists queue)) stands));
      kept = λ other h. held_beside old (queues_state after) block others lists other (apart other h) h;
      more = one_more_beside old (queues_state after) block others lists;
    }

-- the queues as they stand when the block is made, and is in none of them
unfoldable pub standing : Inside → RegionState → Live → Inside
standing a new live = record { region = record { live = live; free = new.free; work = new.work }; ends = a.ends; spare = a.spare }

module _ (a : Inside) (new : RegionState) (old : QueuesState) (block last : ℕ) (words : List ℕ) (is : queues_state a ≡ old) (sound : AreQueuesSound a)
    (fresh : get a.region.live block ≡ None) (small : block < 2 ^ 32 - 1) (some : 1 ≤ length words) (g : GainsLinked a.region new block last words) where
  pub gathers : GainsBlock a (standing a new g.between.live) old block words
  unfolding standing
  gathers = gains_block a (standing a new g.between.live) old block words is sound fresh small (record { first = g.gains.first; live = g.gains.live }) some refl

  pub gathers_sound : AreQueuesSound (standing a new g.between.live)
  unfolding standing
  gathers_sound = record { threaded = gathers.stay.threaded; room = sound.room }

  pub gathers_there : (number : ℕ) → number < length old.queues → number < length (queues_state (standing a new g.between.live)).queues
  unfolding standing
  gathers_there number low = omega (arith, low, ap (λ s. length s.queues) is)
