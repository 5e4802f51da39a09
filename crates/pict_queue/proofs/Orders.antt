-- The threads of all queues, after one of them changes.
use Rattle.std.proofs.Common.{◌≡◌, ◌≢◌, ℕ, zero, suc, ◌+◌, ◌-◌, ◌^◌, ◌<◌, ◌≤◌, true, false, cond, eqb, List, [], ◌∷◌, ◌++◌, length, map, get_or, set, None, refl, sym, ◌∙◌, ap, subst, ⊎_elim, arith, add-one}
use Rattle.std.specs.Option.{is_some, unwrap_or}
use Rattle.std.specs.Cmp.{nat_eq_equiv}
use Rattle.std.specs.List.{IsDistinct, list_any}
use Rattle.std.specs.Ordering.{nat_cmp}
use Rattle.std.specs.FinMap.{get, empty, get-empty}
use Rattle.std.proofs.lemmas.Bool.{cases_eq, cases_lt, eqb-true, eq-eqb, ne_eqb, or_cases, both_ways, false_from_ne_true, cond-true, cond-false}
use Rattle.std.proofs.lemmas.List.{get_or-set_same, get_or-set_other, get_or-map, get_or_past, get_or_push, length-map, get_or_append_left, get_or-append_right}
use Rattle.std.proofs.lemmas.List.Folds.{list_any-append}
use Rattle.std.proofs.lemmas.Map.Keys.{IsDistinct-push}
use Rattle.std.proofs.lemmas.Map.Steps.{length-le_from_distinct_below}
use Rattle.pict_region.specs.Chain.{chain}
use Rattle.pict_region.specs.RegionState.{RegionState, IsLive, width_of}
use Rattle.pict_region.proofs.Chains.{StandsIn, IsAbsent, stands_apart, stands_first, stands_later, chain-length, chain-same, distinct_rest, distinct_absent, distinct_more}
use Rattle.pict_queue.specs.QueuesState.{QueueState, QueuesState, link_of, no_queue, queue_blocks, IsHeld, HasEachBlockOnce}
use Rattle.pict_queue.specs.Threads.{queues_state, thread, IsThreaded}
use Rattle.pict_queue.specs.Ends.{queue_in, ends_of}
use Rattle.pict_queue.specs.declared.ends.Queue.{Queue}
use Rattle.pict_queue.specs.declared.queues.Queues.TheInside.{Inside}
use Rattle.pict_queue.proofs.Links.{LinksBlock, thread_kept, chain_pushed, last_stands}

-- a queue as contracts see it
queue_seen : (queues : List Queue) (number : ℕ)
    → get_or (map (λ q. let seen : QueueState = record { first = q.first; count = q.length } in seen) queues) number no_queue
    ≡ (let seen : QueueState = record { first = (queue_in queues number).first; count = (queue_in queues number).length } in seen)
queue_seen queues number = ⊎_elim
    (λ inside. get_or-map _ queues number (record { first = 0; last = 0; length = 0 }) no_queue inside)
    (λ past.
    let none : length (map (λ q. let seen : QueueState = record { first = q.first; count = q.length } in seen) queues) ≤ number =
    omega (arith, length-map queues (λ q. let seen : QueueState = record { first = q.first; count = q.length } in seen)) in
    get_or_past _ number no_queue none
    ∙ sym (ap (λ q. let seen : QueueState = record { first = q.first; count = q.length } in seen) (get_or_past queues number (record { first = 0; last = 0; length = 0 }) past)))
    (cases_lt number (length queues))

pub list_is : (a : Inside) (queue : ℕ) → queue_blocks (queues_state a) queue ≡ thread a.region a.ends.queues.items queue
list_is a queue = ap (λ q. chain (link_of a.region) q.first q.count) (queue_seen a.ends.queues.items queue)

pub once_seen : (a : Inside) → IsThreaded a.region a.ends.queues.items → HasEachBlockOnce (queues_state a)
once_seen a threaded = record {
  live = λ queue block stands. threaded.live queue block (subst (λ ns. StandsIn ns block) (list_is a queue) stands);
  once = λ queue. subst (IsDistinct eqb) (sym (list_is a queue)) (threaded.once queue);
  alone = λ queue other block stands stands'.
      threaded.alone queue other block (subst (λ ns. StandsIn ns block) (list_is a queue) stands) (subst (λ ns. StandsIn ns block) (list_is a other) stands');
}

-- a held block, by the threads
pub record StandsApart (r : RegionState) (queues : List Queue) (block : ℕ) : Type 0 where
  pub live : IsLive r block
  pub absent : (queue : ℕ) → IsAbsent (thread r queues queue) block

pub apart_if_held : (a : Inside) (s : QueuesState) (block : ℕ) → queues_state a ≡ s → IsHeld s block → StandsApart a.region a.ends.queues.items block
apart_if_held a s block is held =
    let here : IsHeld (queues_state a) block = subst (λ t. IsHeld t block) (sym is) held in
    record {
      live = here.live;
      absent = λ queue. false_from_ne_true (list_any (eqb block) (thread a.region a.ends.queues.items queue)) (λ stands.
          here.apart queue (subst (λ ns. StandsIn ns block) (sym (list_is a queue)) stands));
    }

pub held_if_apart : (a : Inside) (block : ℕ) → StandsApart a.region a.ends.queues.items block → IsHeld (queues_state a) block
held_if_apart a block apart = record {
  live = apart.live;
  apart = λ queue stands. both_ways (list_any (eqb block) (thread a.region a.ends.queues.items queue)) (apart.absent queue)
      (subst (λ ns. StandsIn ns block) (list_is a queue) stands);
}

-- the record of a queue, after a write
queue_in-set : (queues : List Queue) (number other : ℕ) (queue : Queue) → number < length queues
    → queue_in (set queues number queue) other ≡ cond (eqb other number) queue (queue_in queues other)
queue_in-set queues number other queue inside = ⊎_elim
    (λ same. rw (eq-eqb other number same, same) (get_or-set_same queues number queue _ inside))
    (λ apart. rw (ne_eqb other number apart) (get_or-set_other queues number other queue _ apart))
    (cases_eq other number)

pub queue_in-here : (queues : List Queue) (number : ℕ) (queue : Queue) → number < length queues → queue_in (set queues number queue) number ≡ queue
queue_in-here queues number queue inside = get_or-set_same queues number queue _ inside

pub queue_in-elsewhere : (queues : List Queue) (number other : ℕ) (queue : Queue) → other ≢ number → queue_in (set queues number queue) other ≡ queue_in queues other
queue_in-elsewhere queues number other queue apart = get_or-set_other queues number other queue _ apart

-- the threads after a change of one queue
pub threaded_after : (r r' : RegionState) (queues : List Queue) (number : ℕ) (queue : Queue) → IsThreaded r queues → number < length queues
    → ((block : ℕ) → is_some (get r'.live block) ≡ is_some (get r.live block))
    → ((block : ℕ) → width_of r' block ≡ width_of r block)
    → ((other : ℕ) → other ≢ number → thread r' (set queues number queue) other ≡ thread r queues other)
    → (list : List ℕ) → chain (link_of r') queue.first queue.length ≡ list
    → ((block : ℕ) → StandsIn list block → IsLive r block × ((other : ℕ) → other ≢ number → IsAbsent (thread r queues other) block))
    → IsDistinct eqb list
    → (0 < queue.length → get_or list (queue.length - 1) 0 ≡ queue.last)
    → IsThreaded r' (set queues number queue)
threaded_after r r' queues number queue threaded inside live widths others list own members distinct last =
    let here : queue_in (set queues number queue) number ≡ queue = queue_in-here queues number queue inside in
    let own_at : (p : ℕ) → p ≡ number → thread r' (set queues number queue) p ≡ list = λ p same.
    ap (λ n. thread r' (set queues number queue) n) same ∙ ap (λ q. chain (link_of r') q.first q.length) here ∙ own in
    record {
      live = λ p block stands. ⊎_elim
          (λ same. subst (λ b. b ≡ true) (sym (live block)) (members block (subst (λ ns. StandsIn ns block) (own_at p same) stands)).0)
          (λ apart. subst (λ b. b ≡ true) (sym (live block)) (threaded.live p block (subst (λ ns. StandsIn ns block) (others p apart) stands)))
          (cases_eq p number);
      once = λ p. ⊎_elim
          (λ same. subst (IsDistinct eqb) (sym (own_at p same)) distinct)
          (λ apart. subst (IsDistinct eqb) (sym (others p apart)) (threaded.once p))
          (cases_eq p number);
      alone = λ p o block stands stands'. ⊎_elim
          (λ same. ⊎_elim
          (λ same'. same ∙ sym same')
          (λ apart'. absurd (both_ways (list_any (eqb block) (thread r queues o))
          ((members block (subst (λ ns. StandsIn ns block) (own_at p same) stands)).1 o apart')
          (subst (λ ns. StandsIn ns block) (others o apart') stands')))
          (cases_eq o number))
          (λ apart. ⊎_elim
          (λ same'. absurd (both_ways (list_any (eqb block) (thread r queues p))
          ((members block (subst (λ ns. StandsIn ns block) (own_at o same') stands')).1 p apart)
          (subst (λ ns. StandsIn ns block) (others p apart) stands)))
          (λ apart'. threaded.alone p o block
          (subst (λ ns. StandsIn ns block) (others p apart) stands)
          (subst (λ ns. StandsIn ns block) (others o apart') stands'))
          (cases_eq o number))
          (cases_eq p number);
      lasts = λ p some. ⊎_elim
          (λ same.
          let is : queue_in (set queues number queue) p ≡ queue = ap (queue_in (set queues number queue)) same ∙ here in
          let some' : 0 < queue.length = omega (arith, some, ap (λ q. q.length) is) in
          ap (λ ns. get_or ns ((queue_in (set queues number queue) p).length - 1) 0) (own_at p same)
          ∙ ap (λ n. get_or list (n - 1) 0) (ap (λ q. q.length) is)
          ∙ last some'
          ∙ sym (ap (λ q. q.last) is))
          (λ apart.
          let is : queue_in (set queues number queue) p ≡ queue_in queues p = queue_in-elsewhere queues number p queue apart in
          let some' : 0 < (queue_in queues p).length = omega (arith, some, ap (λ q. q.length) is) in
          ap (λ ns. get_or ns ((queue_in (set queues number queue) p).length - 1) 0) (others p apart)
          ∙ ap (λ n. get_or (thread r queues p) (n - 1) 0) (ap (λ q. q.length) is)
          ∙ threaded.lasts p some'
          ∙ sym (ap (λ q. q.last) is))
          (cases_eq p number);
      wide = λ block is_live. omega (arith, threaded.wide block (subst (λ b. b ≡ true) (live block) is_live), widths block);
      small = λ block is_live. threaded.small block (subst (λ b. b ≡ true) (live block) is_live);
    }

-- the last block of a queue that isn't empty
pub last_in : (r : RegionState) (queues : List Queue) (number : ℕ) → IsThreaded r queues → 0 < (queue_in queues number).length
    → StandsIn (thread r queues number) (queue_in queues number).last
last_in r queues number threaded some =
    let queue : Queue = queue_in queues number in
    let inside : queue.length - 1 < length (thread r queues number) = omega (arith, chain-length (link_of r) queue.first queue.length, some) in
    subst (λ n. StandsIn (thread r queues number) n) (threaded.lasts number some) (last_stands (thread r queues number) (queue.length - 1) inside)

-- the first block of a queue that isn't empty, and the blocks after it
pub first_of : (r : RegionState) (queues : List Queue) (number : ℕ) → 0 < (queue_in queues number).length
    → thread r queues number ≡ (queue_in queues number).first ∷ chain (link_of r) (link_of r (queue_in queues number).first) ((queue_in queues number).length - 1)
first_of r queues number some =
    let count : (queue_in queues number).length ≡ suc ((queue_in queues number).length - 1) = omega arith in
    ap (chain (link_of r) (queue_in queues number).first) count

pub first_in : (r : RegionState) (queues : List Queue) (number : ℕ) → 0 < (queue_in queues number).length
    → StandsIn (thread r queues number) (queue_in queues number).first
first_in r queues number some = subst (λ ns. StandsIn ns (queue_in queues number).first) (sym (first_of r queues number some)) (stands_first (queue_in queues number).first _)

-- the second block of a queue that has one
pub second_in : (r : RegionState) (queues : List Queue) (number : ℕ) → 1 < (queue_in queues number).length
    → StandsIn (thread r queues number) (link_of r (queue_in queues number).first)
second_in r queues number some =
    let queue : Queue = queue_in queues number in
    let second : ℕ = link_of r queue.first in
    let count : queue.length - 1 ≡ suc (queue.length - 2) = omega (arith, some) in
    let rest : List ℕ = chain (link_of r) (link_of r second) (queue.length - 2) in
    let is : thread r queues number ≡ queue.first ∷ second ∷ rest =
    first_of r queues number (omega (arith, some)) ∙ ap (λ n. queue.first ∷ chain (link_of r) second n) count in
    subst (λ ns. StandsIn ns second) (sym is) (stands_later second queue.first (second ∷ rest) (stands_first second rest))

-- a queue is shorter than there are numbers of blocks, where a block stands apart
pub length_fits : (r : RegionState) (queues : List Queue) (number block : ℕ) → IsThreaded r queues → StandsApart r queues block
    → (queue_in queues number).length + 1 ≤ 2 ^ 32 - 1
length_fits r queues number block threaded apart =
    let queue : Queue = queue_in queues number in
    let all : List ℕ = block ∷ thread r queues number in
    let live : (q : ℕ) → StandsIn all q → IsLive r q = λ q stands. ⊎_elim
    (λ same. subst (IsLive r) (sym (eqb-true q block same)) apart.live)
    (λ before. threaded.live number q before)
    (or_cases (eqb q block) (list_any (eqb q) (thread r queues number)) stands) in
    let distinct : IsDistinct eqb all = distinct_more block (thread r queues number) (apart.absent number) (threaded.once number) in
    let at_most : length all ≤ 2 ^ 32 - 1 = length-le_from_distinct_below all (2 ^ 32 - 1) distinct (λ q stands. threaded.small q (live q stands)) in
    omega (arith, at_most, chain-length (link_of r) queue.first queue.length)

ends_more : (queue : Queue) (block : ℕ) → 0 < queue.length → ends_of queue block ≡ queue
ends_more queue block some = cond-false (eqb queue.length 0) (record { first = block; last = block; length = 0 }) queue (ne_eqb queue.length 0 (λ e. omega (arith, e, some)))

ends_none : (queue : Queue) (block : ℕ) → queue.length ≡ 0 → ends_of queue block ≡ record { first = block; last = block; length = 0 }
ends_none queue block none = cond-true (eqb queue.length 0) (record { first = block; last = block; length = 0 }) queue (eq-eqb queue.length 0 none)

pub ends_length : (queue : Queue) (block : ℕ) → (ends_of queue block).length ≡ queue.length
ends_length queue block = ⊎_elim
    (λ none. ap (λ (q : Queue). q.length) (ends_none queue block none) ∙ sym none)
    (λ ne. ap (λ (q : Queue). q.length) (ends_more queue block (omega (arith, ne))))
    (cases_eq queue.length 0)

pushed : (r r' : RegionState) (first last count block : ℕ) → IsDistinct eqb (chain (link_of r) first count)
    → (0 < count → get_or (chain (link_of r) first count) (count - 1) 0 ≡ last)
    → LinksBlock r r' (ends_of (record { first = first; last = last; length = count }) block).last block
    → chain (link_of r') (ends_of (record { first = first; last = last; length = count }) block).first (suc count) ≡ chain (link_of r) first count ++ block ∷ []
pushed r r' first last zero block distinct at links = refl
pushed r r' first last (suc count) block distinct at links =
    let ends = ends_more (record { first = first; last = last; length = suc count }) block (omega arith) in
    let back : suc count - 1 ≡ count = omega arith in
    let is : get_or (chain (link_of r) first (suc count)) count 0 ≡ last = ap (λ n. get_or (chain (link_of r) first (suc count)) n 0) (sym back) ∙ at (omega arith) in
    let links' : LinksBlock r r' last block = subst (λ n. LinksBlock r r' n block) (ap (λ q. q.last) ends) links in
    ap (λ q. chain (link_of r') q.first (suc (suc count))) ends
    ∙ chain_pushed (link_of r) (link_of r') first count block distinct
    (ap (link_of r') is ∙ links'.link)
    (λ n apart. links'.elsewhere n (λ e. apart (e ∙ sym is)))

pub record PushesBack (r r' : RegionState) (queues queues' : List Queue) (number block : ℕ) : Type 0 where
  pub threaded : IsThreaded r' queues'
  pub list : thread r' queues' number ≡ thread r queues number ++ block ∷ []
  pub others : (other : ℕ) → other ≢ number → thread r' queues' other ≡ thread r queues other

-- what a block must be whose link a push changes: the one that is pushed, or the last of the queue
pub end_is : (r : RegionState) (queues : List Queue) (number block : ℕ) → IsThreaded r queues → StandsApart r queues block
    → IsLive r (ends_of (queue_in queues number) block).last × ((other : ℕ) → other ≢ number → IsAbsent (thread r queues other) (ends_of (queue_in queues number) block).last)
end_is r queues number block threaded apart =
    let P : ℕ → Type 0 = λ n. IsLive r n × ((other : ℕ) → other ≢ number → IsAbsent (thread r queues other) n) in
    ⊎_elim
    (λ none. subst P (sym (ap (λ q. q.last) (ends_none (queue_in queues number) block none))) (apart.live, λ other ne. apart.absent other))
    (λ ne.
    let some : 0 < (queue_in queues number).length = omega (arith, ne) in
    let stands = last_in r queues number threaded some in
    subst P (sym (ap (λ q. q.last) (ends_more (queue_in queues number) block some))) (
      threaded.live number (queue_in queues number).last stands,
      λ other ne. false_from_ne_true (list_any (eqb (queue_in queues number).last) (thread r queues other)) (λ stands'.
          ne (threaded.alone other number (queue_in queues number).last stands' stands)),
    ))
    (cases_eq (queue_in queues number).length 0)

pub pushed_back : (r r' : RegionState) (queues : List Queue) (number block : ℕ) (queue ends : Queue) → IsThreaded r queues → number < length queues → StandsApart r queues block
    → queue ≡ queue_in queues number → ends ≡ ends_of queue block
    → LinksBlock r r' ends.last block
    → PushesBack r r' queues (set queues number (record { first = ends.first; last = block; length = queue.length + 1 })) number block
pushed_back r r' queues number block queue ends threaded inside apart queue_is ends_are links =
    let old : List ℕ = thread r queues number in
    let new : Queue = record { first = ends.first; last = block; length = queue.length + 1 } in
    let queue_ends : ends ≡ ends_of (queue_in queues number) block = ends_are ∙ ap (λ q. ends_of q block) queue_is in
    let end = end_is r queues number block threaded apart in
    let links' : LinksBlock r r' (ends_of (queue_in queues number) block).last block = subst (λ n. LinksBlock r r' n block) (ap (λ q. q.last) queue_ends) links in
    let others : (other : ℕ) → other ≢ number → thread r' (set queues number new) other ≡ thread r queues other = λ other ne.
    ap (λ q. chain (link_of r') q.first q.length) (queue_in-elsewhere queues number other new ne)
    ∙ thread_kept r r' (ends_of (queue_in queues number) block).last block (queue_in queues other).first (queue_in queues other).length links' (end.1 other ne) in
    let own : chain (link_of r') new.first new.length ≡ old ++ block ∷ [] =
    ap (chain (link_of r') ends.first) (add-one queue.length)
    ∙ ap (λ q. chain (link_of r') ends.first (suc q.length)) queue_is
    ∙ ap (λ q. chain (link_of r') q.first (suc (queue_in queues number).length)) queue_ends
    ∙ pushed r r' (queue_in queues number).first (queue_in queues number).last (queue_in queues number).length block (threaded.once number) (threaded.lasts number) links' in
    let lengths : length old ≡ (queue_in queues number).length = chain-length (link_of r) (queue_in queues number).first (queue_in queues number).length in
    record {
      threaded = threaded_after r r' queues number new threaded inside links.live links.widths others (old ++ block ∷ []) own
          (λ b stands. ⊎_elim
          (λ before. (
            threaded.live number b before,
            λ other ne.
                false_from_ne_true (list_any (eqb b) (thread r queues other)) (λ stands'. ne (threaded.alone other number b stands' before)),
          ))
          (λ last. ⊎_elim
          (λ same.
          let is : b ≡ block = eqb-true b block same in
          (subst (IsLive r) (sym is) apart.live, λ other ne. subst (λ n. IsAbsent (thread r queues other) n) (sym is) (apart.absent other)))
          (λ none. cc)
          (or_cases (eqb b block) false last))
          (or_cases (list_any (eqb b) old) (list_any (eqb b) (block ∷ [])) (sym (list_any-append (eqb b) old (block ∷ [])) ∙ stands)))
          (IsDistinct-push nat_eq_equiv old block (threaded.once number) (apart.absent number))
          (λ some.
          let place : new.length - 1 ≡ length old = omega (arith, lengths, ap (λ q. q.length) queue_is) in
          ap (λ n. get_or (old ++ block ∷ []) n 0) place ∙ get_or_push old block 0 (length old) refl);
      list = ap (λ q. chain (link_of r') q.first q.length) (queue_in-here queues number new inside) ∙ own;
      others = others;
    }

-- a chain of no number begins anywhere
chain_from : (next : ℕ → ℕ) (first other count : ℕ) → (0 < count → first ≡ other) → chain next first count ≡ chain next other count
chain_from next first other zero same = refl
chain_from next first other (suc count) same = ap (λ n. chain next n (suc count)) (same (omega arith))

pub record PushesFront (r r' : RegionState) (queues queues' : List Queue) (number block : ℕ) : Type 0 where
  pub threaded : IsThreaded r' queues'
  pub list : thread r' queues' number ≡ block ∷ thread r queues number
  pub others : (other : ℕ) → other ≢ number → thread r' queues' other ≡ thread r queues other

pub pushed_front : (r r' : RegionState) (queues : List Queue) (number block : ℕ) (queue ends : Queue) → IsThreaded r queues → number < length queues → StandsApart r queues block
    → queue ≡ queue_in queues number → ends ≡ ends_of queue block
    → LinksBlock r r' block ends.first
    → PushesFront r r' queues (set queues number (record { first = block; last = ends.last; length = queue.length + 1 })) number block
pushed_front r r' queues number block queue ends threaded inside apart queue_is ends_are links =
    let old : List ℕ = thread r queues number in
    let new : Queue = record { first = block; last = ends.last; length = queue.length + 1 } in
    let kept = λ (q : ℕ). thread_kept r r' block ends.first (queue_in queues q).first (queue_in queues q).length links (apart.absent q) in
    let others : (other : ℕ) → other ≢ number → thread r' (set queues number new) other ≡ thread r queues other = λ other ne.
    ap (λ q. chain (link_of r') q.first q.length) (queue_in-elsewhere queues number other new ne) ∙ kept other in
    let own : chain (link_of r') new.first new.length ≡ block ∷ old =
    ap (chain (link_of r') block) (add-one queue.length)
    ∙ ap (λ first. block ∷ chain (link_of r') first queue.length) links.link
    ∙ ap (λ ns. block ∷ ns)
    (chain_from (link_of r') ends.first queue.first queue.length (λ more. ap (λ (q : Queue). q.first) (ends_are ∙ ends_more queue block more)))
    ∙ ap (λ q. block ∷ chain (link_of r') q.first q.length) queue_is
    ∙ ap (λ ns. block ∷ ns) (kept number) in
    record {
      threaded = threaded_after r r' queues number new threaded inside links.live links.widths others (block ∷ old) own
          (λ b stands. ⊎_elim
          (λ same.
          let is : b ≡ block = eqb-true b block same in
          (subst (IsLive r) (sym is) apart.live, λ other ne. subst (λ n. IsAbsent (thread r queues other) n) (sym is) (apart.absent other)))
          (λ before. (
            threaded.live number b before,
            λ other ne.
                false_from_ne_true (list_any (eqb b) (thread r queues other)) (λ stands'. ne (threaded.alone other number b stands' before)),
          ))
          (or_cases (eqb b block) (list_any (eqb b) old) stands))
          (distinct_more block old (apart.absent number) (threaded.once number))
          (λ some. ⊎_elim
          (λ none.
          let place : new.length - 1 ≡ 0 = omega (arith, none) in
          ap (λ n. get_or (block ∷ old) n 0) place ∙ sym (ap (λ q. q.last) (ends_are ∙ ends_none queue block none)))
          (λ ne.
          let more : 0 < queue.length = omega (arith, ne) in
          let place : new.length - 1 ≡ suc (queue.length - 1) = omega (arith, more) in
          ap (λ n. get_or (block ∷ old) n 0) place
          ∙ ap (λ q. get_or old (q.length - 1) 0) queue_is
          ∙ threaded.lasts number (omega (arith, more, ap (λ q. q.length) queue_is))
          ∙ sym (ap (λ q. q.last) (ends_are ∙ ends_more queue block more ∙ queue_is)))
          (cases_eq queue.length 0));
      list = ap (λ q. chain (link_of r') q.first q.length) (queue_in-here queues number new inside) ∙ own;
      others = others;
    }

-- the threads rest on the live blocks alone
pub thread_of_live : (r r' : RegionState) (queues : List Queue) (number : ℕ) → r'.live ≡ r.live → thread r' queues number ≡ thread r queues number
thread_of_live r r' queues number same =
    ap (λ m. chain (λ n. get_or (unwrap_or (get m n) []) 0 0) (queue_in queues number).first (queue_in queues number).length) same

pub record PopsFront (r r' : RegionState) (queues queues' : List Queue) (number : ℕ) : Type 0 where
  pub threaded : IsThreaded r' queues'
  pub list : thread r queues number ≡ (queue_in queues number).first ∷ thread r' queues' number
  pub others : (other : ℕ) → other ≢ number → thread r' queues' other ≡ thread r queues other
  pub apart : StandsApart r' queues' (queue_in queues number).first

pub popped_front : (r r' : RegionState) (queues : List Queue) (number next : ℕ) (queue : Queue) → IsThreaded r queues → number < length queues
    → r'.live ≡ r.live → queue ≡ queue_in queues number → 0 < queue.length → (1 < queue.length → next ≡ link_of r queue.first)
    → PopsFront r r' queues (set queues number (record { first = next; last = queue.last; length = queue.length - 1 })) number
popped_front r r' queues number next queue threaded inside same queue_is some next_is =
    let first : ℕ = (queue_in queues number).first in
    let new : Queue = record { first = next; last = queue.last; length = queue.length - 1 } in
    let queues' : List Queue = set queues number new in
    let rest : List ℕ = chain (link_of r) (link_of r first) ((queue_in queues number).length - 1) in
    let some' : 0 < (queue_in queues number).length = omega (arith, some, ap (λ q. q.length) queue_is) in
    let was : thread r queues number ≡ first ∷ rest = first_of r queues number some' in
    let distinct : IsDistinct eqb (first ∷ rest) = subst (IsDistinct eqb) was (threaded.once number) in
    let in_old : (b : ℕ) → StandsIn rest b → StandsIn (thread r queues number) b = λ b stands.
    subst (λ ns. StandsIn ns b) (sym was) (stands_later b first rest stands) in
    let others : (other : ℕ) → other ≢ number → thread r' queues' other ≡ thread r queues other = λ other ne.
    ap (λ q. chain (link_of r') q.first q.length) (queue_in-elsewhere queues number other new ne) ∙ thread_of_live r r' queues other same in
    let own : chain (link_of r') new.first new.length ≡ rest =
    ap (λ m. chain (λ n. get_or (unwrap_or (get m n) []) 0 0) next (queue.length - 1)) same
    ∙ chain_from (link_of r) next (link_of r queue.first) (queue.length - 1) (λ more. next_is (omega (arith, more)))
    ∙ ap (λ q. chain (link_of r) (link_of r q.first) (q.length - 1)) queue_is in
    let list : thread r' queues' number ≡ rest = ap (λ q. chain (link_of r') q.first q.length) (queue_in-here queues number new inside) ∙ own in
    let lengths : length rest ≡ (queue_in queues number).length - 1 = chain-length (link_of r) (link_of r first) ((queue_in queues number).length - 1) in
    record {
      threaded = threaded_after r r' queues number new threaded inside (λ b. ap (λ m. is_some (get m b)) same) (λ b. ap (λ m. length (unwrap_or (get m b) [])) same) others rest own
          (λ b stands. (
            threaded.live number b (in_old b stands),
            λ other ne.
                false_from_ne_true (list_any (eqb b) (thread r queues other)) (λ stands'. ne (threaded.alone other number b stands' (in_old b stands))),
          ))
          (distinct_rest first rest distinct)
          (λ more.
          let place : queue.length - 1 ≡ suc (queue.length - 1 - 1) = omega (arith, more) in
          ap (λ n. get_or (first ∷ rest) n 0) (sym place)
          ∙ ap (λ ns. get_or ns (queue.length - 1) 0) (sym was)
          ∙ ap (λ q. get_or (thread r queues number) (q.length - 1) 0) queue_is
          ∙ threaded.lasts number some'
          ∙ sym (ap (λ q. q.last) queue_is));
      list = was ∙ ap (λ ns. first ∷ ns) (sym list);
      others = others;
      apart = record {
        live = subst (λ b. b ≡ true) (sym (ap (λ m. is_some (get m first)) same)) (threaded.live number first (first_in r queues number some'));
        absent = λ p. ⊎_elim
            (λ here. subst (λ ns. IsAbsent ns first) (sym (ap (thread r' queues') here ∙ list)) (distinct_absent first rest distinct))
            (λ ne. subst (λ ns. IsAbsent ns first) (sym (others p ne)) (false_from_ne_true (list_any (eqb first) (thread r queues p)) (λ stands.
            ne (threaded.alone p number first stands (first_in r queues number some')))))
            (cases_eq p number);
      };
    }

-- all threads stay
pub record ThreadsStay (r r' : RegionState) (queues : List Queue) : Type 0 where
  pub threaded : IsThreaded r' queues
  pub same : (queue : ℕ) → thread r' queues queue ≡ thread r queues queue

-- where no live block changes
pub live_kept : (r r' : RegionState) (queues : List Queue) → IsThreaded r queues → r'.live ≡ r.live → ThreadsStay r r' queues
live_kept r r' queues threaded same = record {
  threaded = record {
    live = λ p block stands. subst (λ b. b ≡ true) (sym (ap (λ m. is_some (get m block)) same))
        (threaded.live p block (subst (λ ns. StandsIn ns block) (thread_of_live r r' queues p same) stands));
    once = λ p. subst (IsDistinct eqb) (sym (thread_of_live r r' queues p same)) (threaded.once p);
    alone = λ p o block stands stands'. threaded.alone p o block
        (subst (λ ns. StandsIn ns block) (thread_of_live r r' queues p same) stands)
        (subst (λ ns. StandsIn ns block) (thread_of_live r r' queues o same) stands');
    lasts = λ p some. ap (λ ns. get_or ns ((queue_in queues p).length - 1) 0) (thread_of_live r r' queues p same) ∙ threaded.lasts p some;
    wide = λ block live. omega (arith, threaded.wide block (subst (λ b. b ≡ true) (ap (λ m. is_some (get m block)) same) live), ap (λ m. length (unwrap_or (get m block) [])) same);
    small = λ block live. threaded.small block (subst (λ b. b ≡ true) (ap (λ m. is_some (get m block)) same) live);
  };
  same = λ p. thread_of_live r r' queues p same;
}

-- where one block changes that stands in no queue
pub apart_changed : (r r' : RegionState) (queues : List Queue) (block : ℕ) → IsThreaded r queues
    → ((queue : ℕ) → IsAbsent (thread r queues queue) block)
    → ((other : ℕ) → other ≢ block → get r'.live other ≡ get r.live other)
    → (IsLive r' block → (2 ≤ width_of r' block) × (block < 2 ^ 32 - 1))
    → ThreadsStay r r' queues
apart_changed r r' queues block threaded absent elsewhere here =
    let stays : (q : ℕ) → thread r' queues q ≡ thread r queues q = λ q.
    chain-same (link_of r) (link_of r') (queue_in queues q).first (queue_in queues q).length (λ n stands.
    ap (λ o. get_or (unwrap_or o []) 0 0) (elsewhere n (stands_apart (thread r queues q) n block stands (absent q)))) in
    let before : (q n : ℕ) → StandsIn (thread r' queues q) n → StandsIn (thread r queues q) n = λ q n stands.
    subst (λ ns. StandsIn ns n) (stays q) stands in
    record {
      threaded = record {
        live = λ p n stands. subst (λ b. b ≡ true)
            (sym (ap is_some (elsewhere n (stands_apart (thread r queues p) n block (before p n stands) (absent p)))))
            (threaded.live p n (before p n stands));
        once = λ p. subst (IsDistinct eqb) (sym (stays p)) (threaded.once p);
        alone = λ p o n stands stands'. threaded.alone p o n (before p n stands) (before o n stands');
        lasts = λ p some. ap (λ ns. get_or ns ((queue_in queues p).length - 1) 0) (stays p) ∙ threaded.lasts p some;
        wide = λ n live. ⊎_elim
            (λ same. omega (arith, (here (subst (IsLive r') same live)).0, ap (width_of r') same))
            (λ ne. omega (arith, threaded.wide n (subst (λ b. b ≡ true) (ap is_some (elsewhere n ne)) live), ap (λ o. length (unwrap_or o [])) (elsewhere n ne)))
            (cases_eq n block);
        small = λ n live. ⊎_elim
            (λ same. omega (arith, (here (subst (IsLive r') same live)).1, same))
            (λ ne. threaded.small n (subst (λ b. b ≡ true) (ap is_some (elsewhere n ne)) live))
            (cases_eq n block);
      };
      same = stays;
    }

-- a block that isn't live stands in no queue
pub absent_if_new : (r : RegionState) (queues : List Queue) (block : ℕ) → IsThreaded r queues → get r.live block ≡ None → (queue : ℕ) → IsAbsent (thread r queues queue) block
absent_if_new r queues block threaded new queue =
    false_from_ne_true (list_any (eqb block) (thread r queues queue)) (λ stands.
    both_ways (is_some (get r.live block)) (ap is_some new) (threaded.live queue block stands))

nil_distinct : IsDistinct eqb []
unfolding IsDistinct
nil_distinct = tt

-- with no queue
pub threaded_none : (r : RegionState) → r.live ≡ empty → IsThreaded r []
threaded_none r none =
    let nothing : (block : ℕ) → is_some (get r.live block) ≡ false = λ block. ap (λ m. is_some (get m block)) none ∙ ap is_some (get-empty nat_cmp block) in
    record {
      live = λ queue block stands. cc;
      once = λ queue. nil_distinct;
      alone = λ queue other block stands stands'. cc;
      lasts = λ queue some. absurd (omega (arith, some));
      wide = λ block live. absurd (both_ways (is_some (get r.live block)) (nothing block) live);
      small = λ block live. absurd (both_ways (is_some (get r.live block)) (nothing block) live);
    }

-- with one empty queue more
pub queue_in-added : (queues : List Queue) (number : ℕ) → queue_in (queues ++ record { first = 0; last = 0; length = 0 } ∷ []) number ≡ queue_in queues number
queue_in-added queues number = ⊎_elim
    (λ inside. get_or_append_left queues (record { first = 0; last = 0; length = 0 } ∷ []) (record { first = 0; last = 0; length = 0 }) number inside)
    (λ past.
    get_or-append_right queues (record { first = 0; last = 0; length = 0 } ∷ []) (length queues) number (record { first = 0; last = 0; length = 0 }) refl past
    ∙ past_one (number - length queues)
    ∙ sym (get_or_past queues number (record { first = 0; last = 0; length = 0 }) past))
    (cases_lt number (length queues))
  where
    past_one : (n : ℕ) → queue_in (record { first = 0; last = 0; length = 0 } ∷ []) n ≡ record { first = 0; last = 0; length = 0 }
    past_one zero = refl
    past_one (suc n) = refl

pub threaded_added : (r : RegionState) (queues queues' : List Queue) → IsThreaded r queues → queues' ≡ queues ++ record { first = 0; last = 0; length = 0 } ∷ [] → IsThreaded r queues'
threaded_added r queues queues' threaded is =
    let same : (q : ℕ) → queue_in queues' q ≡ queue_in queues q = λ q. ap (λ qs. queue_in qs q) is ∙ queue_in-added queues q in
    let list : (q : ℕ) → thread r queues' q ≡ thread r queues q = λ q. ap (λ x. chain (link_of r) x.first x.length) (same q) in
    record {
      live = λ q b stands. threaded.live q b (subst (λ ns. StandsIn ns b) (list q) stands);
      once = λ q. subst (IsDistinct eqb) (sym (list q)) (threaded.once q);
      alone = λ q o b stands stands'. threaded.alone q o b (subst (λ ns. StandsIn ns b) (list q) stands) (subst (λ ns. StandsIn ns b) (list o) stands');
      lasts = λ q some.
          ap (λ ns. get_or ns ((queue_in queues' q).length - 1) 0) (list q)
          ∙ ap (λ x. get_or (thread r queues q) (x.length - 1) 0) (same q)
          ∙ threaded.lasts q (omega (arith, some, ap (λ x. x.length) (same q)))
          ∙ sym (ap (λ x. x.last) (same q));
      wide = threaded.wide;
      small = threaded.small;
    }
