-- For callers of queues: how wide the live blocks are after each call.
use Rattle.std.proofs.Common.{◌≡◌, ℕ, ◌<◌, ◌≤◌, List, [], ◌∷◌, length, drop, replicate, get_or, set, Option, Some, None, refl, ◌∙◌, ap, subst, ⊎_elim, arith, length-drop}
use Rattle.std.specs.Option.{IsSome, is_some, option_map, unwrap_or}
use Rattle.std.specs.Ordering.{nat_cmp}
use Rattle.std.specs.FinMap.{get, insert, empty, get-empty}
use Rattle.std.proofs.lemmas.Bool.{cases_eq}
use Rattle.std.proofs.lemmas.List.{length-set, length-replicate}
use Rattle.pict_region.proofs.Chains.{StandsIn, stands_first}
use Rattle.pict_region.proofs.Uses.{Live, get_inserted, get_insert_apart}
use Rattle.pict_queue.specs.QueuesState.{QueuesState, queue_blocks, HasEachBlockOnce}

-- each live block has this width
abbrev pub AreWide : Live → ℕ → Type 0
AreWide live width = (number : ℕ) → IsSome (get live number) → length (unwrap_or (get live number) []) ≡ width

pub wide_none : (live : Live) (width : ℕ) → live ≡ empty → AreWide live width
wide_none live width none number is_live = cc (ap is_some (ap (λ m. get m number) none ∙ get-empty nat_cmp number))

pub wide_insert : (live live' : Live) (width number : ℕ) (block : List ℕ) → AreWide live width → length block ≡ width → live' ≡ insert live number block
    → AreWide live' width
wide_insert live live' width number block wide is_wide is other is_live = ⊎_elim
    (λ same. ap (λ n. length (unwrap_or (get live' n) [])) same ∙ ap (λ m. length (unwrap_or (get m number) [])) is
    ∙ ap (λ o. length (unwrap_or o [])) (get_inserted live number block) ∙ is_wide)
    (λ apart.
    let found = ap (λ m. get m other) is ∙ get_insert_apart live number block other apart in
    ap (λ o. length (unwrap_or o [])) found ∙ wide other (subst (λ o. IsSome o) found is_live))
    (cases_eq other number)

pub wide_taken : (live live' : Live) (width number : ℕ) → AreWide live width → live' ≡ insert live number (replicate width 0) → AreWide live' width
wide_taken live live' width number wide is = wide_insert live live' width number (replicate width 0) wide (length-replicate width 0) is

pub wide_set : (live live' : Live) (width number i word : ℕ) → AreWide live width → IsSome (get live number)
    → live' ≡ insert live number (set (unwrap_or (get live number) []) i word) → AreWide live' width
wide_set live live' width number i word wide is_live is =
    wide_insert live live' width number (set (unwrap_or (get live number) []) i word) wide (length-set (unwrap_or (get live number) []) i word ∙ wide number is_live) is

-- the words behind the links, as one length
tail_length : (found found' : Option (List ℕ)) (width : ℕ) → option_map (drop 1) found' ≡ option_map (drop 1) found → IsSome found'
    → (IsSome found → length (unwrap_or found []) ≡ width) → 2 ≤ width → length (unwrap_or found' []) ≡ width
tail_length found None width same there wide least = cc
tail_length None (Some ws) width same there wide least = cc
tail_length (Some us) (Some ws) width same there wide least =
    let tails : drop 1 ws ≡ drop 1 us = ap (λ o. unwrap_or o []) same in
    omega (arith, length-drop 1 ws, length-drop 1 us, ap length tails, wide refl, least)

pub wide_kept : (live live' : Live) (width : ℕ) → 2 ≤ width → AreWide live width
    → ((number : ℕ) → option_map (drop 1) (get live' number) ≡ option_map (drop 1) (get live number)) → AreWide live' width
wide_kept live live' width least wide kept number is_live = tail_length (get live number) (get live' number) width (kept number) is_live (wide number) least

-- the first block of a queue that isn't empty
pub first_wide : (s : QueuesState) (queue width : ℕ) → HasEachBlockOnce s → AreWide s.region.live width → 0 < length (queue_blocks s queue)
    → length (unwrap_or (get s.region.live (get_or (queue_blocks s queue) 0 0)) []) ≡ width
first_wide s queue width once wide some = wide (get_or (queue_blocks s queue) 0 0) (once.live queue (get_or (queue_blocks s queue) 0 0) (head_stands (queue_blocks s queue) some))
  where
    head_stands : (ns : List ℕ) → 0 < length ns → StandsIn ns (get_or ns 0 0)
    head_stands [] some = absurd (omega arith)
    head_stands (n ∷ ns) some = stands_first n ns
