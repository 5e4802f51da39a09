-- What each call of a region reads and leaves, from its fields to what contracts see.
use Rattle.std.proofs.Common.{◌≡◌, ◌≢◌, ℕ, suc, ◌+◌, ◌-◌, ◌<◌, ◌≤◌, eqb, List, [], ◌∷◌, ◌++◌, length, take, drop, map, replicate, get_or, set, Option, Some, None, refl, sym, ◌∙◌, ap, subst, ⊎_elim, arith, length-append, append_assoc}
use Rattle.std.specs.Option.{IsSome, unwrap_or}
use Rattle.std.specs.List.{IsDistinct, list_any}
use Rattle.std.specs.Ordering.{nat_cmp}
use Rattle.std.specs.Cmp.{nat_cmp_total}
use Rattle.std.specs.FinMap.{get, insert, remove, empty, get-empty, same_map, nat_cmp-IsAntisymmetric}
use Rattle.std.proofs.lemmas.List.{get_or_read, get_or-map, get_or_past, length-map, length-set, length-take, length-drop, length-replicate, get_or-set_same, get_or-set_other, set-append_right, set-append_left, drop_at, take_at, take_all, drop_all, append-nil, set_at, get_or_append_left, get_or-append_right, get_or-replicate, get_or-take, take-take, take_more}
use Rattle.std.proofs.lemmas.Map.Steps.{length-le_from_distinct_below}
use Rattle.std.proofs.lemmas.Bool.{cases_lt, cases_eq, eq-eqb, ne_eqb, false_from_ne_true}
use Rattle.std.proofs.lemmas.Option.{none-some}
use Rattle.pict_syntax.specs.declared.limits.TheConstants.{WORD_LIMIT}
use Rattle.pict_region.specs.Chain.{chain}
use Rattle.pict_region.specs.RegionState.{RegionState, IsLive, words_of, width_of, spare}
use Rattle.pict_region.specs.Layout.{store_of, cut, blocks_of, block_at, list_at, next_of, free_numbers, live_of, made_words, region_state, IsStoreSound, IsLaidOut}
use Rattle.pict_region.specs.declared.region.FreeList.{FreeList}
use Rattle.pict_region.specs.declared.region.Region.TheInside.{Inside}
use Rattle.pict_region.proofs.Chains.{StandsIn, IsAbsent, chain-length}
use Rattle.pict_region.proofs.Stores.{block_parts, store_parts, block_read, ChangesBlock, overwritten, appended, block_at_length}
use Rattle.pict_region.proofs.Prefixes.{take_set, take_over, length_over, take_longer}
use Rattle.pict_region.proofs.Frees.{IsHeld, held_if_live, write_block, free_block, first_block, take_block, is_remove, get_live_none, get_live_kept}

pub some_words : (found : Option (List ℕ)) → IsSome found → found ≡ Some (unwrap_or found [])
some_words None h = cc
some_words (Some ws) h = refl

pub held_block : (a : Inside) (r : RegionState) (number : ℕ) → region_state a ≡ r → IsLaidOut a.words.items a.made a.free.items → IsLive r number
    → IsHeld (made_words a) a.free.items number (words_of r number)
held_block a r number is kept live =
    held_if_live (made_words a) a.free.items number (words_of r number) kept.sound (ap (λ s. get s.live number) is ∙ some_words (get r.live number) live)

-- words that lie in the first part
pub made_below : (a : Inside) (n : ℕ) → n ≤ length (made_words a) → n ≤ a.made
made_below a n below = omega (arith, length-take a.made a.words.items, below)

-- as many words as before, of which the first are sound
pub kept_as : (words words' : List ℕ) (made : ℕ) (lists lists' : List FreeList) → IsLaidOut words made lists → length words' ≡ length words
    → IsStoreSound (take made words') lists' → IsLaidOut words' made lists'
kept_as words words' made lists lists' kept same sound = record {
  sound = sound;
  inside = omega (arith, kept.inside, same);
  small = omega (arith, kept.small, same);
}

-- word i of a live block, whose token has its number
pub record ReadsWord (store : List ℕ) (place word : ℕ) : Type 0 where
  pub inside : place < length store
  pub word_is : get_or store place 0 ≡ word

pub word_read : (a : Inside) (r : RegionState) (number token i : ℕ) → region_state a ≡ r → IsLaidOut a.words.items a.made a.free.items → token ≡ number
    → IsLive r number → i < width_of r number → ReadsWord a.words.items (token + 1 + i) (get_or (words_of r number) i 0)
word_read a r number token i is kept same live inside =
    let read = block_read (made_words a) number (words_of r number) kept.sound.tiled (held_block a r number is kept live).at in
    let low : token + 1 + i + 1 ≤ a.made = made_below a _ (omega (arith, read.fits, same, inside)) in
    record {
      inside = omega (arith, low, kept.inside);
      word_is =
          sym (get_or-take a.made a.words.items (token + 1 + i) 0 (omega (arith, low)))
          ∙ ap (λ n. get_or (made_words a) (n + 1 + i) 0) same
          ∙ read.words i inside;
    }

set_inside : (front block back : List ℕ) (width i word : ℕ) → i < length block
    → set (front ++ (width ∷ (block ++ back))) (length front + 1 + i) word ≡ front ++ (width ∷ (set block i word ++ back))
set_inside front block back width i word inside =
    let offset : length front + 1 + i - length front ≡ suc i = omega arith in
    set-append_right front (width ∷ (block ++ back)) (length front) (length front + 1 + i) word refl (omega arith)
    ∙ ap (λ n. front ++ set (width ∷ (block ++ back)) n word) offset
    ∙ ap (λ s. front ++ (width ∷ s)) (set-append_left block back i word inside)

-- one word of a block is written
pub word_written : (store : List ℕ) (number i word : ℕ) (block : List ℕ) → store_of (blocks_of store) ≡ store
    → block_at (blocks_of store) number ≡ Some block → i < length block
    → ChangesBlock store (set store (number + 1 + i) word) number (set block i word)
word_written store number i word block tiled at inside =
    let p = block_parts (blocks_of store) number block at in
    overwritten store (set store (number + 1 + i) word) number block (set block i word) p (length-set block i word)
    (ap (λ s. set s (number + 1 + i) word) (store_parts store number block tiled p)
    ∙ ap (λ n. set (store_of p.before ++ (length block ∷ (block ++ store_of p.after))) (n + 1 + i) word) (sym p.place_is)
    ∙ set_inside (store_of p.before) block (store_of p.after) (length block) i word inside)

pub record SetsWord (a : Inside) (words' : List ℕ) (r : RegionState) (number : ℕ) (block : List ℕ) : Type 0 where
  pub kept : IsLaidOut words' a.made a.free.items
  pub live : live_of (take a.made words') a.free.items ≡ insert r.live number block

-- what the words that belong to blocks become, all of them do
sets_word : (a : Inside) (words' store' : List ℕ) (r : RegionState) (number : ℕ) (block : List ℕ) → IsLaidOut a.words.items a.made a.free.items
    → length words' ≡ length a.words.items → take a.made words' ≡ store' → IsStoreSound store' a.free.items → live_of store' a.free.items ≡ insert r.live number block
    → SetsWord a words' r number block
sets_word a words' store' r number block kept same is sound live = record {
  kept = kept_as a.words.items words' a.made a.free.items a.free.items kept same (subst (λ s. IsStoreSound s a.free.items) (sym is) sound);
  live = ap (λ s. live_of s a.free.items) is ∙ live;
}

pub word_set : (a : Inside) (r : RegionState) (number token i word : ℕ) → region_state a ≡ r → IsLaidOut a.words.items a.made a.free.items → token ≡ number
    → IsLive r number → i < width_of r number
    → SetsWord a (set a.words.items (token + 1 + i) word) r number (set (words_of r number) i word)
word_set a r number token i word is kept same live inside =
    let block : List ℕ = set (words_of r number) i word in
    let held = held_block a r number is kept live in
    let writes = write_block (made_words a) (set (made_words a) (number + 1 + i) word) a.free.items number (words_of r number) block
    kept.sound held (length-set (words_of r number) i word)
    (word_written (made_words a) number i word (words_of r number) kept.sound.tiled held.at inside)
    (omega (arith, length-set (made_words a) (number + 1 + i) word, kept.sound.small)) in
    subst (λ n. SetsWord a (set a.words.items (n + 1 + i) word) r number block) (sym same)
    (sets_word a (set a.words.items (number + 1 + i) word) (set (made_words a) (number + 1 + i) word) r number block kept
    (length-set a.words.items (number + 1 + i) word) (take_set a.made a.words.items (number + 1 + i) word)
    writes.sound (writes.live ∙ ap (λ s. insert s.live number block) is))

-- a whole store that is lent and comes back
pub lent_whole : (len : ℕ) (items new : List ℕ) → len ≡ length items → length new ≡ length items → take len (new ++ drop (length new) items) ≡ new
lent_whole len items new ok same =
    ap (λ s. take len (new ++ s)) (drop_all (length new) items (omega (arith, same)))
    ∙ ap (take len) (append-nil new)
    ∙ take_all len new (omega (arith, ok, same))

-- two words of a block, one after the other, are written
pair_written : (store : List ℕ) (number i first second : ℕ) (block : List ℕ) → store_of (blocks_of store) ≡ store
    → block_at (blocks_of store) number ≡ Some block → i + 1 < length block
    → ChangesBlock store (set (set store (number + 1 + i) first) (number + 1 + i + 1) second) number (set (set block i first) (i + 1) second)
pair_written store number i first second block tiled at inside =
    let p = block_parts (blocks_of store) number block at in
    let whole : List ℕ = store_of p.before ++ (length block ∷ (block ++ store_of p.after)) in
    let half : List ℕ = store_of p.before ++ (length block ∷ (set block i first ++ store_of p.after)) in
    let below : i < length block = omega (arith, inside) in
    let next : length (store_of p.before) + 1 + i + 1 ≡ length (store_of p.before) + 1 + (i + 1) = omega arith in
    overwritten store (set (set store (number + 1 + i) first) (number + 1 + i + 1) second) number block (set (set block i first) (i + 1) second) p
    (length-set (set block i first) (i + 1) second ∙ length-set block i first)
    (ap (λ s. set (set s (number + 1 + i) first) (number + 1 + i + 1) second) (store_parts store number block tiled p)
    ∙ ap (λ n. set (set whole (n + 1 + i) first) (n + 1 + i + 1) second) (sym p.place_is)
    ∙ ap (λ s. set s (length (store_of p.before) + 1 + i + 1) second) (set_inside (store_of p.before) block (store_of p.after) (length block) i first below)
    ∙ ap (λ n. set half n second) next
    ∙ set_inside (store_of p.before) (set block i first) (store_of p.after) (length block) (i + 1) second (omega (arith, inside, length-set block i first)))

pub pair_set : (a : Inside) (r : RegionState) (number token i first second : ℕ) → region_state a ≡ r → IsLaidOut a.words.items a.made a.free.items → token ≡ number
    → IsLive r number → i + 1 < width_of r number
    → SetsWord a (set (set a.words.items (token + 1 + i) first) (token + 1 + i + 1) second) r number (set (set (words_of r number) i first) (i + 1) second)
pair_set a r number token i first second is kept same live inside =
    let block : List ℕ = set (set (words_of r number) i first) (i + 1) second in
    let held = held_block a r number is kept live in
    let place : ℕ = number + 1 + i in
    let half : List ℕ = set a.words.items place first in
    let store' : List ℕ = set (set (made_words a) place first) (place + 1) second in
    let wide : length block ≡ length (words_of r number) = length-set (set (words_of r number) i first) (i + 1) second ∙ length-set (words_of r number) i first in
    let writes = write_block (made_words a) store' a.free.items number (words_of r number) block kept.sound held wide
    (pair_written (made_words a) number i first second (words_of r number) kept.sound.tiled held.at inside)
    (omega (arith, length-set (set (made_words a) place first) (place + 1) second, length-set (made_words a) place first, kept.sound.small)) in
    subst (λ n. SetsWord a (set (set a.words.items (n + 1 + i) first) (n + 1 + i + 1) second) r number block) (sym same)
    (sets_word a (set half (place + 1) second) store' r number block kept
    (length-set half (place + 1) second ∙ length-set a.words.items place first)
    (take_set a.made half (place + 1) second ∙ ap (λ s. set s (place + 1) second) (take_set a.made a.words.items place first))
    writes.sound (writes.live ∙ ap (λ s. insert s.live number block) is))

-- the lists of free blocks
pub count_at : (lists : List FreeList) (width : ℕ) → get_or (map (λ l. l.count) lists) width 0 ≡ (list_at lists width).count
count_at lists width = ⊎_elim
    (λ inside. get_or-map (λ l. l.count) lists width (record { first = 0; count = 0 }) 0 inside)
    (λ past.
    let none : length (map (λ l. l.count) lists) ≤ width = omega (arith, length-map lists (λ l. l.count)) in
    get_or_past (map (λ l. l.count) lists) width 0 none ∙ sym (ap (λ l. l.count) (get_or_past lists width (record { first = 0; count = 0 }) past)))
    (cases_lt width (length lists))

pub spare_at : (a : Inside) (r : RegionState) (width : ℕ) → region_state a ≡ r → spare r width ≡ (list_at a.free.items width).count
spare_at a r width is = ap (λ s. spare s width) (sym is) ∙ count_at a.free.items width

pub spare_set : (lists : List FreeList) (width other : ℕ) (list : FreeList) → other ≡ width → width < length lists
    → get_or (map (λ l. l.count) (set lists width list)) other 0 ≡ list.count
spare_set lists width other list same listed =
    count_at (set lists width list) other
    ∙ ap (λ l. l.count) (ap (list_at (set lists width list)) same ∙ get_or-set_same lists width list (record { first = 0; count = 0 }) listed)

pub spare_kept : (lists : List FreeList) (width other : ℕ) (list : FreeList) → other ≢ width
    → get_or (map (λ l. l.count) (set lists width list)) other 0 ≡ get_or (map (λ l. l.count) lists) other 0
spare_kept lists width other list apart =
    count_at (set lists width list) other
    ∙ ap (λ l. l.count) (get_or-set_other lists width other list (record { first = 0; count = 0 }) apart)
    ∙ sym (count_at lists other)

-- each free block has a place of its own in the store, so there are at most as many
pub count_fits : (store : List ℕ) (lists : List FreeList) (width : ℕ) → IsStoreSound store lists → (list_at lists width).count ≤ length store
unfolding free_numbers
count_fits store lists width sound =
    let below : (q : ℕ) → StandsIn (free_numbers store lists width) q → q < length store = λ q stands.
    let has = sound.free_widths width q stands in
    let read = block_read store q has.block sound.tiled has.at in
    omega (arith, read.fits) in
    let at_most : length (free_numbers store lists width) ≤ length store =
    length-le_from_distinct_below (free_numbers store lists width) (length store) (sound.distinct width) below in
    let is : length (free_numbers store lists width) ≡ (list_at lists width).count =
    chain-length (next_of store) (list_at lists width).first (list_at lists width).count in
    omega (arith, at_most, is)

-- the width of a live block, and its list
pub record ReadsWidth (store : List ℕ) (lists : List FreeList) (token width : ℕ) : Type 0 where
  pub inside : token + width < length store
  pub width_is : get_or store token 0 ≡ width
  pub positive : 0 < width
  pub listed : width < length lists

pub width_read : (a : Inside) (r : RegionState) (number token : ℕ) → region_state a ≡ r → IsLaidOut a.words.items a.made a.free.items → token ≡ number
    → IsLive r number → ReadsWidth a.words.items a.free.items token (width_of r number)
width_read a r number token is kept same live =
    let at = (held_block a r number is kept live).at in
    let read = block_read (made_words a) number (words_of r number) kept.sound.tiled at in
    let widths = kept.sound.widths number (words_of r number) at in
    let low : token + width_of r number + 1 ≤ a.made = made_below a _ (omega (arith, read.fits, same)) in
    record {
      inside = omega (arith, low, kept.inside);
      width_is =
          sym (get_or-take a.made a.words.items token 0 (omega (arith, low)))
          ∙ ap (λ n. get_or (made_words a) n 0) same
          ∙ read.width;
      positive = widths.0;
      listed = widths.1;
    }

-- a live block is given back
pub record GivesBlock (words' : List ℕ) (made : ℕ) (lists' : List FreeList) (r : RegionState) (number : ℕ) : Type 0 where
  pub kept : IsLaidOut words' made lists'
  pub live : live_of (take made words') lists' ≡ remove r.live number

pub given : (a : Inside) (r : RegionState) (number token width : ℕ) (list : FreeList) → region_state a ≡ r → IsLaidOut a.words.items a.made a.free.items
    → token ≡ number → IsLive r number → width ≡ width_of r number → list ≡ list_at a.free.items width
    → GivesBlock (set a.words.items (token + 1) list.first) a.made (set a.free.items width (record { first = token; count = list.count + 1 })) r number
given a r number token width list is kept same live wide listed =
    let sound = kept.sound in
    let store : List ℕ = made_words a in
    let lists : List FreeList = a.free.items in
    let ws : List ℕ = words_of r number in
    let held = held_block a r number is kept live in
    let widths = sound.widths number ws held.at in
    let first : ℕ = (list_at lists (length ws)).first in
    let written : ChangesBlock store (set store (number + 1) first) number (set ws 0 first) =
    subst (λ n. ChangesBlock store (set store n first) number (set ws 0 first)) (omega arith) (word_written store number 0 first ws sound.tiled held.at widths.0) in
    let frees = free_block store (set store (number + 1) first) lists number (length ws) (set ws 0 first) sound written
    (omega (arith, length-set store (number + 1) first, sound.small)) (length-set ws 0 first) widths.0 widths.1 (get_or-set_same ws 0 first 0 widths.0) held.absent in
    let P : ℕ → ℕ → FreeList → Type 0 = λ n w l. GivesBlock (set a.words.items (n + 1) l.first) a.made (set lists w (record { first = n; count = l.count + 1 })) r number in
    let lists' : List FreeList = set lists (length ws) (record { first = number; count = (list_at lists (length ws)).count + 1 }) in
    let is_set = take_set a.made a.words.items (number + 1) first in
    let here : P number (length ws) (list_at lists (length ws)) = record {
      kept = kept_as a.words.items (set a.words.items (number + 1) first) a.made lists lists' kept (length-set a.words.items (number + 1) first)
          (subst (λ s. IsStoreSound s lists') (sym is_set) frees.sound);
      live = ap (λ s. live_of s lists') is_set ∙ is_remove (live_of store lists) _ number frees.live ∙ ap (λ s. remove s.live number) is;
    } in
    let at_width : P number width (list_at lists width) = subst (λ w. P number w (list_at lists w)) (sym wide) here in
    let at_list : P number width list = subst (P number width) (sym listed) at_width in
    subst (λ n. P n width list) (sym same) at_list

-- a range of a store that is one block
range_written : (front block block' back : List ℕ) (width : ℕ)
    → take (length front + 1) (front ++ (width ∷ (block ++ back))) ++ (block' ++ drop (length front + 1 + length block) (front ++ (width ∷ (block ++ back))))
    ≡ front ++ (width ∷ (block' ++ back))
range_written front block block' back width =
    let head : List ℕ = front ++ width ∷ [] in
    let heads : length head ≡ length front + 1 = length-append front (width ∷ []) in
    let first : front ++ (width ∷ (block ++ back)) ≡ head ++ (block ++ back) = sym (append_assoc front (width ∷ []) (block ++ back)) in
    let second : front ++ (width ∷ (block ++ back)) ≡ (head ++ block) ++ back = first ∙ sym (append_assoc head block back) in
    let both : length (head ++ block) ≡ length front + 1 + length block = omega (arith, length-append head block, heads) in
    ap (λ s. take (length front + 1) s ++ (block' ++ drop (length front + 1 + length block) (front ++ (width ∷ (block ++ back))))) first
    ∙ ap (λ s. s ++ (block' ++ drop (length front + 1 + length block) (front ++ (width ∷ (block ++ back))))) (take_at head (block ++ back) (length front + 1) heads)
    ∙ ap (λ s. head ++ (block' ++ drop (length front + 1 + length block) s)) second
    ∙ ap (λ s. head ++ (block' ++ s)) (drop_at (head ++ block) back (length front + 1 + length block) both)
    ∙ append_assoc front (width ∷ []) (block' ++ back)

block_written : (store : List ℕ) (number : ℕ) (block block' : List ℕ) → store_of (blocks_of store) ≡ store
    → block_at (blocks_of store) number ≡ Some block → length block' ≡ length block
    → ChangesBlock store (take (number + 1) store ++ (block' ++ drop (number + 1 + length block) store)) number block'
block_written store number block block' tiled at same =
    let p = block_parts (blocks_of store) number block at in
    let shape : List ℕ → ℕ → List ℕ = λ s n. take (n + 1) s ++ (block' ++ drop (n + 1 + length block) s) in
    overwritten store (shape store number) number block block' p same
    (ap (λ s. shape s number) (store_parts store number block tiled p)
    ∙ ap (shape (store_of p.before ++ (length block ∷ (block ++ store_of p.after)))) (sym p.place_is)
    ∙ range_written (store_of p.before) block block' (store_of p.after) (length block))

-- the first block of a list, for a call of `take`
pub record ReadsFirst (words : List ℕ) (made : ℕ) (lists : List FreeList) (first width : ℕ) : Type 0 where
  pub low : first + 1 + width ≤ made
  pub inside : first + 1 + width ≤ length words
  pub positive : 0 < width
  pub listed : width < length lists

pub first_read : (a : Inside) (r : RegionState) (width : ℕ) → region_state a ≡ r → IsLaidOut a.words.items a.made a.free.items → 1 ≤ spare r width
    → ReadsFirst a.words.items a.made a.free.items (list_at a.free.items width).first width
first_read a r width is kept some =
    let count = spare_at a r width is in
    let has = first_block (made_words a) a.free.items width kept.sound (omega (arith, count, some)) in
    let read = block_read (made_words a) (list_at a.free.items width).first has.block kept.sound.tiled has.at in
    let widths = kept.sound.widths (list_at a.free.items width).first has.block has.at in
    let low : (list_at a.free.items width).first + 1 + width ≤ a.made = made_below a _ (omega (arith, read.fits, has.wide)) in
    record {
      low = low;
      inside = omega (arith, low, kept.inside);
      positive = omega (arith, widths.0, has.wide);
      listed = omega (arith, widths.1, has.wide);
    }

-- the list of the width as a call reads it
pub read_list : (a : Inside) (width : ℕ) (list : FreeList) → ReadsFirst a.words.items a.made a.free.items (list_at a.free.items width).first width
    → list ≡ get_or a.free.items width list → list ≡ list_at a.free.items width
read_list a width list first read = get_or_read a.free.items width list first.listed read (record { first = 0; count = 0 })

pub reads_first : (a : Inside) (width : ℕ) (list : FreeList) → ReadsFirst a.words.items a.made a.free.items (list_at a.free.items width).first width
    → list ≡ get_or a.free.items width list → ReadsFirst a.words.items a.made a.free.items list.first width
reads_first a width list first read =
    subst (λ l. ReadsFirst a.words.items a.made a.free.items l.first width) (sym (read_list a width list first read)) first

pub record TakesFirst (words' : List ℕ) (made : ℕ) (lists' : List FreeList) (r : RegionState) (number width : ℕ) : Type 0 where
  pub kept : IsLaidOut words' made lists'
  pub fresh : get r.live number ≡ None
  pub live : live_of (take made words') lists' ≡ insert r.live number (replicate width 0)

pub taken : (a : Inside) (r : RegionState) (width next : ℕ) (list : FreeList) (words' : List ℕ) → region_state a ≡ r → IsLaidOut a.words.items a.made a.free.items
    → 1 ≤ spare r width → list ≡ list_at a.free.items width → next ≡ get_or a.words.items (list.first + 1) 0
    → words' ≡ take (list.first + 1) a.words.items ++ (replicate width 0 ++ drop (list.first + 1 + width) a.words.items)
    → TakesFirst words' a.made (set a.free.items width (record { first = next; count = list.count - 1 })) r list.first width
unfolding next_of
taken a r width next list words' is kept some list_is next_is words_are =
    let sound = kept.sound in
    let words : List ℕ = a.words.items in
    let store : List ℕ = made_words a in
    let lists : List FreeList = a.free.items in
    let first : ℕ = (list_at lists width).first in
    let zeros : List ℕ = replicate width 0 in
    let over : List ℕ → ℕ → List ℕ = λ ws n. take (n + 1) ws ++ (zeros ++ drop (n + 1 + width) ws) in
    let count = spare_at a r width is in
    let positive : 0 < (list_at lists width).count = omega (arith, count, some) in
    let has = first_block store lists width sound positive in
    let wide : length zeros ≡ length has.block = length-replicate width 0 ∙ sym has.wide in
    let written : ChangesBlock store (over store first) first zeros =
    subst (λ w. ChangesBlock store (take (first + 1) store ++ (zeros ++ drop (first + 1 + w) store)) first zeros) has.wide
    (block_written store first has.block zeros sound.tiled has.at wide) in
    let reads = first_read a r width is kept some in
    let end : first + 1 + width ≡ first + 1 + length zeros = omega (arith, length-replicate {A = ℕ} width 0) in
    let made : length store ≡ a.made = omega (arith, length-take a.made words, kept.inside) in
    let small : length (over store first) ≤ WORD_LIMIT =
    omega (arith, length_over (first + 1) zeros store (first + 1 + width) end (omega (arith, reads.low, made)), sound.small) in
    let takes = take_block store (over store first) lists width zeros sound positive reads.listed written small (length-replicate width 0) in
    let is_over : take a.made (over words first) ≡ over store first =
    take_over (first + 1) zeros words a.made (first + 1 + width) end reads.low kept.inside in
    let next_in : get_or store (first + 1) 0 ≡ get_or words (first + 1) 0 =
    get_or-take a.made words (first + 1) 0 (omega (arith, reads.low, reads.positive)) in
    let P : FreeList → ℕ → List ℕ → Type 0 = λ l n ws. TakesFirst ws a.made (set lists width (record { first = n; count = l.count - 1 })) r l.first width in
    let lists' : List FreeList = set lists width (record { first = next_of store first; count = (list_at lists width).count - 1 }) in
    let here : P (list_at lists width) (next_of store first) (over words first) = record {
      kept = kept_as words (over words first) a.made lists lists' kept (length_over (first + 1) zeros words (first + 1 + width) end reads.inside)
          (subst (λ s. IsStoreSound s lists') (sym is_over) takes.sound);
      fresh = ap (λ s. get s.live first) (sym is) ∙ takes.fresh;
      live = ap (λ s. live_of s lists') is_over ∙ takes.live ∙ ap (λ s. insert s.live first zeros) is;
    } in
    let there : P (list_at lists width) (get_or words (first + 1) 0) (over words first) =
    subst (λ n. P (list_at lists width) n (over words first)) next_in here in
    let at_list : P list (get_or words (list.first + 1) 0) (over words list.first) =
    subst (λ l. P l (get_or words (l.first + 1) 0) (over words l.first)) (sym list_is) there in
    subst (P list next) (sym words_are) (subst (λ n. P list n (over words list.first)) (sym next_is) at_list)

-- a region with no block
sound_empty : IsStoreSound [] []
unfolding store_of blocks_of cut block_at free_numbers IsDistinct
sound_empty = record {
  tiled = refl;
  widths = λ number block at. absurd (none-some block at);
  free_widths = λ width number stands. cc;
  distinct = λ width. tt;
  small = omega arith;
}

pub kept_empty : IsLaidOut [] 0 []
kept_empty = record { sound = sound_empty; inside = omega arith; small = omega arith }

pub live_empty : live_of [] [] ≡ empty
unfolding blocks_of cut block_at
live_empty = same_map nat_cmp_total nat_cmp-IsAntisymmetric (live_of [] []) empty
    (λ n. get_live_none [] [] n refl ∙ sym (get-empty nat_cmp n))

-- more lists of free blocks, all of them empty
list_at-grown : (lists : List FreeList) (more width : ℕ) → list_at (lists ++ replicate more (record { first = 0; count = 0 })) width ≡ list_at lists width
list_at-grown lists more width = ⊎_elim
    (λ inside. get_or_append_left lists (replicate more (record { first = 0; count = 0 })) (record { first = 0; count = 0 }) width inside)
    (λ past.
    get_or-append_right lists (replicate more (record { first = 0; count = 0 })) (length lists) width (record { first = 0; count = 0 }) refl past
    ∙ replicated more (width - length lists)
    ∙ sym (get_or_past lists width (record { first = 0; count = 0 }) past))
    (cases_lt width (length lists))
  where
    replicated : (more width : ℕ) → list_at (replicate more (record { first = 0; count = 0 })) width ≡ record { first = 0; count = 0 }
    replicated more width = ⊎_elim
        (λ inside. get_or-replicate more width (record { first = 0; count = 0 }) (record { first = 0; count = 0 }) inside)
        (λ past. get_or_past (replicate more (record { first = 0; count = 0 })) width (record { first = 0; count = 0 }) (omega (arith, length-replicate {A = FreeList} more (record { first = 0; count = 0 }), past)))
        (cases_lt width more)

pub record GrowsLists (a : Inside) (lists' : List FreeList) (r : RegionState) : Type 0 where
  pub kept : IsLaidOut a.words.items a.made lists'
  pub live : live_of (made_words a) lists' ≡ r.live
  pub spare_is : (width : ℕ) → get_or (map (λ l. l.count) lists') width 0 ≡ spare r width

pub grown : (a : Inside) (r : RegionState) (lists' : List FreeList) (wanted : ℕ) → region_state a ≡ r → IsLaidOut a.words.items a.made a.free.items
    → length a.free.items ≤ wanted
    → lists' ≡ take wanted a.free.items ++ replicate (wanted - length a.free.items) (record { first = 0; count = 0 })
    → GrowsLists a lists' r
unfolding free_numbers
grown a r lists' wanted is kept longer lists_are =
    let sound = kept.sound in
    let store : List ℕ = made_words a in
    let lists : List FreeList = a.free.items in
    let more : ℕ = wanted - length lists in
    let shape : lists' ≡ lists ++ replicate more (record { first = 0; count = 0 }) =
    lists_are ∙ ap (λ ls. ls ++ replicate more (record { first = 0; count = 0 })) (take_all wanted lists longer) in
    let at : (width : ℕ) → list_at lists' width ≡ list_at lists width = λ width.
    ap (λ ls. list_at ls width) shape ∙ list_at-grown lists more width in
    let frees : (width : ℕ) → free_numbers store lists' width ≡ free_numbers store lists width = λ width.
    ap (λ l. chain (next_of store) l.first l.count) (at width) in
    let lengths : length lists ≤ length lists' = omega (arith, ap length shape, length-append lists (replicate more (record { first = 0; count = 0 }))) in
    record {
      kept = kept_as a.words.items a.words.items a.made lists lists' kept refl (record {
        tiled = sound.tiled;
        widths = λ n b is_block. let old = sound.widths n b is_block in (old.0, omega (arith, old.1, lengths));
        free_widths = λ width n stands. sound.free_widths width n (subst (λ ns. StandsIn ns n) (frees width) stands);
        distinct = λ width. subst (IsDistinct eqb) (sym (frees width)) (sound.distinct width);
        small = sound.small;
      });
      live =
          same_map nat_cmp_total nat_cmp-IsAntisymmetric (live_of store lists') (live_of store lists)
          (λ n. get_live_kept store store lists lists' n sound.tiled sound.tiled refl (λ width. ap (list_any (eqb n)) (frees width)))
          ∙ ap (λ s. s.live) is;
      spare_is = λ width. count_at lists' width ∙ ap (λ l. l.count) (at width) ∙ sym (spare_at a r width is);
    }

-- the same region, with a new block of this width
pub record GrowsBy (words' : List ℕ) (made' : ℕ) (lists' : List FreeList) (r : RegionState) (width : ℕ) : Type 0 where
  pub kept : IsLaidOut words' made' lists'
  pub live : live_of (take made' words') lists' ≡ r.live
  pub more : get_or (map (λ l. l.count) lists') width 0 ≡ spare r width + 1
  pub others : (other : ℕ) → other ≢ width → get_or (map (λ l. l.count) lists') other 0 ≡ spare r other
  pub lists : length (map (λ l. l.count) lists') ≡ length r.free

-- a region whose store has room for a block of this width, and else is as before
pub record HasRoom (a b : Inside) (width : ℕ) : Type 0 where
  pub kept : IsLaidOut b.words.items a.made a.free.items
  pub same : take a.made b.words.items ≡ made_words a
  pub free : b.free.items ≡ a.free.items
  pub room : a.made + 1 + width ≤ length b.words.items

pub lengthened : (a b : Inside) (width : ℕ) → IsLaidOut a.words.items a.made a.free.items → take (length a.words.items) b.words.items ≡ a.words.items
    → length b.words.items ≤ WORD_LIMIT → b.free.items ≡ a.free.items → a.made + 1 + width ≤ length b.words.items → HasRoom a b width
lengthened a b width kept starts small free room =
    let same : take a.made b.words.items ≡ made_words a = sym (take-take a.made (length a.words.items) b.words.items kept.inside) ∙ ap (take a.made) starts in
    record {
      kept = record {
        sound = subst (λ s. IsStoreSound s a.free.items) (sym same) kept.sound;
        inside = omega (arith, room);
        small = small;
      };
      same = same;
      free = free;
      room = room;
    }

-- a new block behind the others
record AddsBlock (words' : List ℕ) (made' : ℕ) (lists' : List FreeList) (r : RegionState) : Type 0 where
  kept : IsLaidOut words' made' lists'
  live : live_of (take made' words') lists' ≡ r.live

-- the words of the blocks with a new one, whose first word is given and whose others are any
new_block : (words : List ℕ) (place width first : ℕ) → place + 1 + width ≤ length words
    → take (place + 1 + width) (set (set words place width) (place + 1) first)
    ≡ take place words ++ (width ∷ set (take width (drop (place + 1) words)) 0 first)
new_block words place width first fits =
    let store : List ℕ = take place words in
    let old : ℕ = get_or words place 0 in
    let rest : List ℕ = take width (drop (place + 1) words) in
    let len : length store ≡ place = omega (arith, length-take place words, fits) in
    let filled : take (place + 1 + width) words ≡ store ++ (old ∷ rest) =
    take_longer (place + 1) width words
    ∙ ap (λ s. s ++ rest) (take_more words place 0 (omega (arith, fits)))
    ∙ append_assoc store (old ∷ []) rest in
    take_set (place + 1 + width) (set words place width) (place + 1) first
    ∙ ap (λ s. set s (place + 1) first) (take_set (place + 1 + width) words place width)
    ∙ ap (λ s. set (set s place width) (place + 1) first) filled
    ∙ ap (λ s. set s (place + 1) first) (set_at store old rest width place len)
    ∙ set-append_right store (width ∷ rest) place (place + 1) first len (omega arith)
    ∙ ap (λ n. store ++ set (width ∷ rest) n first) (let n : place + 1 - place ≡ suc 0 = omega arith in n)

pub has_room : (a : Inside) (width : ℕ) → IsLaidOut a.words.items a.made a.free.items → a.made + 1 + width ≤ length a.words.items → HasRoom a a width
has_room a width kept room = record { kept = kept; same = refl; free = refl; room = room }

added : (a : Inside) (r : RegionState) (words' : List ℕ) (width : ℕ) (list : FreeList) → region_state a ≡ r → IsLaidOut a.words.items a.made a.free.items
    → IsLaidOut words' a.made a.free.items → take a.made words' ≡ made_words a
    → 0 < width → width < length a.free.items → a.made + 1 + width ≤ length words' → list ≡ list_at a.free.items width
    → AddsBlock (set (set words' a.made width) (a.made + 1) list.first) (a.made + 1 + width)
    (set a.free.items width (record { first = a.made; count = list.count + 1 })) r
unfolding free_numbers
added a r words' width list is kept' kept same positive listed fits list_is =
    let sound = kept'.sound in
    let store : List ℕ = made_words a in
    let place : ℕ = a.made in
    let lists : List FreeList = a.free.items in
    let first : ℕ = (list_at lists width).first in
    let rest : List ℕ = take width (drop (place + 1) words') in
    let long : length rest ≡ width = omega (arith, length-take width (drop (place + 1) words'), length-drop (place + 1) words', fits) in
    let block : List ℕ = set rest 0 first in
    let wide : length block ≡ width = length-set rest 0 first ∙ long in
    let end : length store ≡ place = omega (arith, length-take a.made a.words.items, kept'.inside) in
    let both : List ℕ = set (set words' place width) (place + 1) first in
    let store' : List ℕ = take (place + 1 + width) both in
    let whole : store' ≡ store ++ (width ∷ block) = new_block words' place width first fits ∙ ap (λ s. s ++ (width ∷ block)) same in
    let change : ChangesBlock store store' (length store) block =
    appended store store' block sound.tiled (whole ∙ ap (λ n. store ++ (n ∷ block)) (sym wide)) in
    let many : length both ≡ length words' = length-set (set words' place width) (place + 1) first ∙ length-set words' place width in
    let small : length store' ≤ WORD_LIMIT = omega (arith, length-take (place + 1 + width) both, many, kept.small) in
    let none_yet = block_at_length store sound.tiled in
    let absent : (v : ℕ) → IsAbsent (free_numbers store lists v) (length store) = λ v.
    false_from_ne_true (list_any (eqb (length store)) (free_numbers store lists v)) (λ stands.
    let has = sound.free_widths v (length store) stands in
    none-some has.block (sym none_yet ∙ has.at)) in
    let starts : get_or block 0 0 ≡ first = get_or-set_same rest 0 first 0 (omega (arith, long, positive)) in
    let frees = free_block store store' lists (length store) width block sound change small wide positive listed starts absent in
    let lists' : ℕ → List FreeList = λ n. set lists width (record { first = n; count = (list_at lists width).count + 1 }) in
    let here : AddsBlock both (place + 1 + width) (lists' (length store)) r = record {
      kept = record {
        sound = frees.sound;
        inside = omega (arith, many, fits);
        small = omega (arith, many, kept.small);
      };
      live =
          same_map nat_cmp_total nat_cmp-IsAntisymmetric _ (live_of store lists) (λ n. frees.live n ∙ ⊎_elim
          (λ same. rw (eq-eqb n (length store) same) (sym (ap (get (live_of store lists)) same ∙ get_live_none store lists (length store) none_yet)))
          (λ apart. rw (ne_eqb n (length store) apart) refl)
          (cases_eq n (length store)))
          ∙ ap (λ s. s.live) is;
    } in
    let P : FreeList → Type 0 = λ l. AddsBlock (set (set words' place width) (place + 1) l.first) (place + 1 + width)
    (set lists width (record { first = place; count = l.count + 1 })) r in
    subst P (sym list_is) (subst (λ n. AddsBlock both (place + 1 + width) (lists' n) r) end here)

pub lists_length : (a : Inside) (r : RegionState) → region_state a ≡ r → length r.free ≡ length a.free.items
lists_length a r is = ap (λ s. length s.free) (sym is) ∙ length-map a.free.items (λ l. l.count)

pub grown_by : (a b : Inside) (r : RegionState) (width : ℕ) (words' : List ℕ) (lists' : List FreeList) → region_state a ≡ r → IsLaidOut a.words.items a.made a.free.items
    → HasRoom a b width → 0 < width → width < length r.free
    → words' ≡ set (set b.words.items a.made width) (a.made + 1) (list_at b.free.items width).first
    → lists' ≡ set b.free.items width (record { first = a.made; count = (list_at b.free.items width).count + 1 })
    → GrowsBy words' (a.made + 1 + width) lists' r width
grown_by a b r width words' lists' is kept room positive listed words_are lists_are =
    let lists : List FreeList = a.free.items in
    let list : FreeList = list_at lists width in
    let next : FreeList = record { first = a.made; count = list.count + 1 } in
    let in_lists : width < length lists = omega (arith, listed, lists_length a r is) in
    let words_is : words' ≡ set (set b.words.items a.made width) (a.made + 1) list.first =
    words_are ∙ ap (λ ls. set (set b.words.items a.made width) (a.made + 1) (list_at ls width).first) room.free in
    let lists_is : lists' ≡ set lists width next =
    lists_are ∙ ap (λ ls. set ls width (record { first = a.made; count = (list_at ls width).count + 1 })) room.free in
    let adds = added a r b.words.items width list is kept room.kept room.same positive in_lists room.room refl in
    let at : AddsBlock words' (a.made + 1 + width) lists' r =
    subst (λ ws. AddsBlock ws (a.made + 1 + width) lists' r) (sym words_is)
    (subst (λ ls. AddsBlock (set (set b.words.items a.made width) (a.made + 1) list.first) (a.made + 1 + width) ls r) (sym lists_is) adds) in
    record {
      kept = at.kept;
      live = at.live;
      more =
          ap (λ ls. get_or (map (λ l. l.count) ls) width 0) lists_is
          ∙ spare_set lists width width next refl in_lists
          ∙ ap (λ n. n + 1) (sym (spare_at a r width is));
      others = λ other apart.
          ap (λ ls. get_or (map (λ l. l.count) ls) other 0) lists_is
          ∙ spare_kept lists width other next apart
          ∙ ap (λ s. spare s other) is;
      lists =
          length-map lists' (λ l. l.count)
          ∙ ap length lists_is
          ∙ length-set lists width next
          ∙ sym (lists_length a r is);
    }
