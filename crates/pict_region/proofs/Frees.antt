-- Live blocks and free blocks: what a look-up finds, and what a write over one block leaves.
use Rattle.std.proofs.Common.{◌≡◌, ◌≢◌, ℕ, zero, suc, ◌+◌, ◌-◌, ◌<◌, ◌≤◌, Bool, true, false, cond, not, ◌||◌, eqb, List, [], ◌∷◌, length, get_or, set, Option, Some, None, refl, sym, ◌∙◌, ap, subst, ⊎_elim, ◌⊎◌, inl, inr, add-one, arith}
use Rattle.std.specs.List.{IsDistinct, list_any}
use Rattle.std.specs.Ordering.{nat_cmp, eq_by_cmp}
use Rattle.std.specs.Cmp.{nat_cmp_total}
use Rattle.std.specs.FinMap.{FinMap, get, find, insert, remove, from_entries, get-from_entries, get-retain_keys, get-insert, get-remove, nat_cmp-IsAntisymmetric, same_map}
use Rattle.std.proofs.lemmas.Bool.{cases_lt, cases_eq, lt-ltb, le-ltb, eq-eqb, ne_eqb, eqb-true, or_cases, both_ways, false_from_ne_true, cond-true, cond-false}
use Rattle.std.proofs.lemmas.Option.{none-some, same_Some}
use Rattle.std.proofs.lemmas.List.{length-set, get_or-set_same, get_or-set_other}
use Rattle.pict_syntax.specs.declared.limits.TheConstants.{WORD_LIMIT}
use Rattle.pict_region.specs.Chain.{chain}
use Rattle.pict_region.specs.Layout.{store_of, blocks_of, block_at, numbered, next_of, list_at, free_numbers, is_free, live_of, HasBlock, IsStoreSound}
use Rattle.pict_region.specs.declared.region.FreeList.{FreeList}
use Rattle.pict_region.proofs.Chains.{StandsIn, IsAbsent, stands_apart, stands_first, stands_later, chain-same, distinct_rest, distinct_absent, distinct_more}
use Rattle.pict_region.proofs.Stores.{block_read, ChangesBlock}

pub cmp_same : (n : ℕ) → eq_by_cmp nat_cmp n n ≡ true
cmp_same n = rw (le-ltb n n (omega arith), eq-eqb n n refl) refl

pub cmp_apart : (m n : ℕ) → m ≢ n → eq_by_cmp nat_cmp m n ≡ false
cmp_apart m n apart =
    ⊎_elim
    (λ below. rw (lt-ltb m n below) refl)
    (λ above. rw (le-ltb m n above, ne_eqb m n apart) refl)
    (cases_lt m n)

-- the map of a list of numbered blocks
find_below : (blocks : List (List ℕ)) (place number : ℕ) → number < place → find nat_cmp number (numbered place blocks) ≡ None
unfolding numbered
find_below [] place number below = refl
find_below (b ∷ bs) place number below =
    rw (cmp_apart number place (λ e. omega (arith, e, below))) (find_below bs (place + 1 + length b) number (omega arith))

find-numbered : (blocks : List (List ℕ)) (place offset : ℕ) → find nat_cmp (place + offset) (numbered place blocks) ≡ block_at blocks offset
unfolding numbered block_at
find-numbered [] place offset = refl
find-numbered (b ∷ bs) place zero =
    let here : place + 0 ≡ place = omega arith in
    rw (here, cmp_same place) refl
find-numbered (b ∷ bs) place (suc offset) =
    let on : place + suc offset ≢ place = λ e. omega (arith, e) in
    rw (cmp_apart (place + suc offset) place on)
    (⊎_elim
    (λ below. rw (lt-ltb offset (length b) below) (find_below bs (place + 1 + length b) (place + suc offset) (omega arith)))
    (λ above.
    let over : place + suc offset ≡ place + 1 + length b + (offset - length b) = omega arith in
    rw (le-ltb offset (length b) above) (ap (λ q. find nat_cmp q (numbered (place + 1 + length b) bs)) over ∙ find-numbered bs (place + 1 + length b) (offset - length b)))
    (cases_lt offset (length b)))

kept_or_not : {A : Type 0} (b : Bool) (x y : A) → cond (not b) x y ≡ cond b y x
kept_or_not true x y = refl
kept_or_not false x y = refl

pub get-live_of : (store : List ℕ) (lists : List FreeList) (number : ℕ)
    → get (live_of store lists) number ≡ cond (is_free store lists number) None (block_at (blocks_of store) number)
unfolding live_of
get-live_of store lists number =
    let all = from_entries {R = nat_cmp} (numbered 0 (blocks_of store)) in
    let kept : ℕ → Bool = λ n. not (is_free store lists n) in
    let zero_add : 0 + number ≡ number = omega arith in
    get-retain_keys all kept number (λ x same. ap kept (sym (nat_cmp-IsAntisymmetric number x same)))
    ∙ kept_or_not (is_free store lists number) (get all number) None
    ∙ ap (λ found. cond (is_free store lists number) None found)
    (get-from_entries nat_cmp_total (numbered 0 (blocks_of store)) number
    ∙ ap (λ q. find nat_cmp q (numbered 0 (blocks_of store))) (sym zero_add)
    ∙ find-numbered (blocks_of store) 0 number)

-- a free block of some width is looked for in the list of its own width
pub get_live_block : (store : List ℕ) (lists : List FreeList) (number : ℕ) (block : List ℕ)
    → store_of (blocks_of store) ≡ store → block_at (blocks_of store) number ≡ Some block
    → get (live_of store lists) number ≡ cond (list_any (eqb number) (free_numbers store lists (length block))) None (Some block)
unfolding is_free
get_live_block store lists number block tiled at =
    get-live_of store lists number
    ∙ ap (λ found. cond (is_free store lists number) None found) at
    ∙ ap (λ width. cond (list_any (eqb number) (free_numbers store lists width)) None (Some block)) (block_read store number block tiled at).width

pub get_live_none : (store : List ℕ) (lists : List FreeList) (number : ℕ)
    → block_at (blocks_of store) number ≡ None → get (live_of store lists) number ≡ None
get_live_none store lists number none =
    get-live_of store lists number
    ∙ ap (λ found. cond (is_free store lists number) None found) none
    ∙ elim (is_free store lists number) as (λ b. cond {A = Option (List ℕ)} b None None ≡ None) [ true ↦ refl | false ↦ refl ]

-- a live block is a block, and free in no list
pub record IsHeld (store : List ℕ) (lists : List FreeList) (number : ℕ) (block : List ℕ) : Type 0 where
  pub at : block_at (blocks_of store) number ≡ Some block
  pub absent : (width : ℕ) → IsAbsent (free_numbers store lists width) number

held_from : (found : Option (List ℕ)) (free : Bool) (block : List ℕ) → cond free None found ≡ Some block → (found ≡ Some block) × (free ≡ false)
held_from found true block e = absurd (none-some block e)
held_from found false block e = (e, refl)

pub held_if_live : (store : List ℕ) (lists : List FreeList) (number : ℕ) (block : List ℕ) → IsStoreSound store lists
    → get (live_of store lists) number ≡ Some block → IsHeld store lists number block
unfolding is_free
held_if_live store lists number block sound live =
    let parts = held_from (block_at (blocks_of store) number) (is_free store lists number) block (sym (get-live_of store lists number) ∙ live) in
    let own : IsAbsent (free_numbers store lists (length block)) number =
    subst (λ width. IsAbsent (free_numbers store lists width) number) (block_read store number block sound.tiled parts.0).width parts.1 in
    record {
      at = parts.0;
      absent = λ width. false_from_ne_true (list_any (eqb number) (free_numbers store lists width)) (λ stands.
          let listed = sound.free_widths width number stands in
          let same : length block ≡ width = ap length (same_Some block listed.block (sym parts.0 ∙ listed.at)) ∙ listed.wide in
          both_ways (list_any (eqb number) (free_numbers store lists width)) (subst (λ w. IsAbsent (free_numbers store lists w) number) same own) stands);
    }

-- what a free block names next is its first word
pub next_at : (store : List ℕ) (number : ℕ) (block : List ℕ) → store_of (blocks_of store) ≡ store
    → block_at (blocks_of store) number ≡ Some block → 0 < length block → next_of store number ≡ get_or block 0 0
unfolding next_of
next_at store number block tiled at wide =
    let place : number + 1 ≡ number + 1 + 0 = omega arith in
    ap (λ n. get_or store n 0) place ∙ (block_read store number block tiled at).words 0 wide

-- a free block that doesn't change names the same next
next_kept : (store store' : List ℕ) (lists : List FreeList) (number : ℕ) (block : List ℕ) (width n : ℕ) → IsStoreSound store lists
    → ChangesBlock store store' number block → StandsIn (free_numbers store lists width) n → n ≢ number
    → next_of store' n ≡ next_of store n
next_kept store store' lists number block width n sound change stands apart =
    let listed = sound.free_widths width n stands in
    let positive = (sound.widths n listed.block listed.at).0 in
    next_at store' n listed.block change.tiled (change.elsewhere n apart ∙ listed.at) positive
    ∙ sym (next_at store n listed.block sound.tiled listed.at positive)

-- a list of free blocks stays where one block changes that is not in it
pub thread_kept : (store store' : List ℕ) (lists : List FreeList) (number : ℕ) (block : List ℕ) (width : ℕ) → IsStoreSound store lists
    → ChangesBlock store store' number block → IsAbsent (free_numbers store lists width) number
    → chain (next_of store') (list_at lists width).first (list_at lists width).count ≡ free_numbers store lists width
unfolding free_numbers
thread_kept store store' lists number block width sound change absent =
    chain-same (next_of store) (next_of store') (list_at lists width).first (list_at lists width).count (λ n stands.
    next_kept store store' lists number block width n sound change stands (stands_apart (free_numbers store lists width) n number stands absent))

-- a look-up stays where the block and the free blocks do
pub get_live_kept : (store store' : List ℕ) (lists lists' : List FreeList) (number : ℕ)
    → store_of (blocks_of store) ≡ store → store_of (blocks_of store') ≡ store'
    → block_at (blocks_of store') number ≡ block_at (blocks_of store) number
    → ((width : ℕ) → list_any (eqb number) (free_numbers store' lists' width) ≡ list_any (eqb number) (free_numbers store lists width))
    → get (live_of store' lists') number ≡ get (live_of store lists) number
get_live_kept store store' lists lists' number tiled tiled' blocks frees =
    elim (block_at (blocks_of store) number) as (λ found. block_at (blocks_of store) number ≡ found → get (live_of store' lists') number ≡ get (live_of store lists) number) [
      | None ↦ λ none. get_live_none store' lists' number (blocks ∙ none) ∙ sym (get_live_none store lists number none)
      | Some block ↦ λ at.
          get_live_block store' lists' number block tiled' (blocks ∙ at)
          ∙ ap (λ free. cond free None (Some block)) (frees (length block))
          ∙ sym (get_live_block store lists number block tiled at)
    ] refl

-- the list of a width, after a write
list_at-set : (lists : List FreeList) (width other : ℕ) (list : FreeList) → width < length lists
    → list_at (set lists width list) other ≡ cond (eqb other width) list (list_at lists other)
list_at-set lists width other list listed =
    ⊎_elim
    (λ same. rw (eq-eqb other width same, same) (get_or-set_same lists width list _ listed))
    (λ apart. rw (ne_eqb other width apart) (get_or-set_other lists width other list _ apart))
    (cases_eq other width)

-- where a number stands in a list after a change: it is the number of the block that changed, or it stood there before
abbrev pub Stood : List ℕ → List ℕ → ℕ → ℕ → Type 0 → Type 0
Stood before after changed n P = StandsIn after n → ((n ≡ changed) × P) ⊎ ((n ≢ changed) × StandsIn before n)

-- the store is sound after a change of one block
pub sound_after : (store store' : List ℕ) (lists lists' : List FreeList) (number : ℕ) (block : List ℕ) → IsStoreSound store lists
    → ChangesBlock store store' number block → length store' ≤ WORD_LIMIT
    → 0 < length block → length block < length lists' → length lists ≤ length lists'
    → ((width n : ℕ) → Stood (free_numbers store lists width) (free_numbers store' lists' width) number n (length block ≡ width))
    → ((width : ℕ) → IsDistinct eqb (free_numbers store' lists' width))
    → IsStoreSound store' lists'
sound_after store store' lists lists' number block sound change small positive listed longer stood distinct = record {
  tiled = change.tiled;
  widths = λ n b at. ⊎_elim
      (λ here.
      let is : block ≡ b = same_Some block b (sym change.here ∙ ap (block_at (blocks_of store')) (sym here) ∙ at) in
      let P : List ℕ → Type 0 = λ x. (0 < length x) × (length x < length lists') in
      subst P is (positive, listed))
      (λ apart. let old = sound.widths n b (sym (change.elsewhere n apart) ∙ at) in (old.0, omega (arith, old.1, longer)))
      (cases_eq n number);
  free_widths = λ width n stands. ⊎_elim
      (λ here. record { block = block; at = ap (block_at (blocks_of store')) here.0 ∙ change.here; wide = here.1 })
      (λ there.
      let old = sound.free_widths width n there.1 in
      record { block = old.block; at = change.elsewhere n there.0 ∙ old.at; wide = old.wide })
      (stood width n stands);
  distinct = distinct;
  small = small;
}

-- which blocks are live after a change of one block
pub live_after : (store store' : List ℕ) (lists lists' : List FreeList) (number : ℕ) (block : List ℕ)
    → store_of (blocks_of store) ≡ store → ChangesBlock store store' number block
    → ((width n : ℕ) → n ≢ number → list_any (eqb n) (free_numbers store' lists' width) ≡ list_any (eqb n) (free_numbers store lists width))
    → (n : ℕ) → get (live_of store' lists') n
    ≡ cond (eqb n number) (cond (list_any (eqb number) (free_numbers store' lists' (length block))) None (Some block)) (get (live_of store lists) n)
live_after store store' lists lists' number block tiled change frees n =
    ⊎_elim
    (λ here. rw (eq-eqb n number here, here) (get_live_block store' lists' number block change.tiled change.here))
    (λ apart. rw (ne_eqb n number apart)
    (get_live_kept store store' lists lists' n tiled change.tiled (change.elsewhere n apart) (λ width. frees width n apart)))
    (cases_eq n number)

eq_by_cmp-eqb : (m n : ℕ) → eq_by_cmp nat_cmp m n ≡ eqb m n
eq_by_cmp-eqb m n =
    ⊎_elim
    (λ same. rw same (cmp_same n ∙ sym (eq-eqb n n refl)))
    (λ apart. cmp_apart m n apart ∙ sym (ne_eqb m n apart))
    (cases_eq m n)

pub is_insert : (live live' : FinMap nat_cmp (List ℕ)) (number : ℕ) (block : List ℕ)
    → ((n : ℕ) → get live' n ≡ cond (eqb n number) (Some block) (get live n)) → live' ≡ insert live number block
is_insert live live' number block found = same_map nat_cmp_total nat_cmp-IsAntisymmetric _ _ (λ n.
    found n
    ∙ sym (get-insert nat_cmp_total live number block n ∙ ap (λ same. cond same (Some block) (get live n)) (eq_by_cmp-eqb n number)))

pub is_remove : (live live' : FinMap nat_cmp (List ℕ)) (number : ℕ)
    → ((n : ℕ) → get live' n ≡ cond (eqb n number) None (get live n)) → live' ≡ remove live number
is_remove live live' number found = same_map nat_cmp_total nat_cmp-IsAntisymmetric _ _ (λ n.
    found n
    ∙ sym (get-remove nat_cmp_total live number n ∙ ap (λ same. cond same None (get live n)) (eq_by_cmp-eqb n number)))

-- a live block is written over
pub record WritesBlock (store store' : List ℕ) (lists : List FreeList) (number : ℕ) (block : List ℕ) : Type 0 where
  pub sound : IsStoreSound store' lists
  pub live : live_of store' lists ≡ insert (live_of store lists) number block

pub write_block : (store store' : List ℕ) (lists : List FreeList) (number : ℕ) (block block' : List ℕ) → IsStoreSound store lists
    → IsHeld store lists number block → length block' ≡ length block → ChangesBlock store store' number block' → length store' ≤ WORD_LIMIT
    → WritesBlock store store' lists number block'
unfolding free_numbers
write_block store store' lists number block block' sound held same change small =
    let threads : (width : ℕ) → free_numbers store' lists width ≡ free_numbers store lists width =
    λ width. thread_kept store store' lists number block' width sound change (held.absent width) in
    let widths = sound.widths number block held.at in
    record {
      sound = sound_after store store' lists lists number block' sound change small (omega (arith, widths.0, same)) (omega (arith, widths.1, same)) (omega arith)
          (λ width n stands.
          let before : StandsIn (free_numbers store lists width) n = subst (λ ns. StandsIn ns n) (threads width) stands in
          inr (stands_apart (free_numbers store lists width) n number before (held.absent width), before))
          (λ width. subst (IsDistinct eqb) (sym (threads width)) (sound.distinct width));
      live = is_insert (live_of store lists) (live_of store' lists) number block' (λ n.
          live_after store store' lists lists number block' sound.tiled change (λ width m apart. ap (list_any (eqb m)) (threads width)) n
          ∙ ap (λ free. cond (eqb n number) (cond free None (Some block')) (get (live_of store lists) n))
          (ap (list_any (eqb number)) (threads (length block')) ∙ held.absent (length block')));
    }

-- a block becomes the first free block of its width: one that was live, or a new one
pub record FreesBlock (store store' : List ℕ) (lists lists' : List FreeList) (number : ℕ) : Type 0 where
  pub sound : IsStoreSound store' lists'
  pub live : (n : ℕ) → get (live_of store' lists') n ≡ cond (eqb n number) None (get (live_of store lists) n)

pub free_block : (store store' : List ℕ) (lists : List FreeList) (number width : ℕ) (block : List ℕ) → IsStoreSound store lists
    → ChangesBlock store store' number block → length store' ≤ WORD_LIMIT → length block ≡ width → 0 < width → width < length lists
    → get_or block 0 0 ≡ (list_at lists width).first
    → ((width : ℕ) → IsAbsent (free_numbers store lists width) number)
    → FreesBlock store store' lists (set lists width (record { first = number; count = (list_at lists width).count + 1 })) number
unfolding free_numbers
free_block store store' lists number width block sound change small wide positive listed next absent =
    let list : FreeList = record { first = number; count = (list_at lists width).count + 1 } in
    let lists' : List FreeList = set lists width list in
    let kept = λ (v : ℕ). thread_kept store store' lists number block v sound change (absent v) in
    let own : free_numbers store' lists' width ≡ number ∷ free_numbers store lists width =
    ap (λ l. chain (next_of store') l.first l.count) (list_at-set lists width width list listed ∙ cond-true (eqb width width) list (list_at lists width) (eq-eqb width width refl))
    ∙ ap (chain (next_of store') number) (add-one (list_at lists width).count)
    ∙ ap (λ first. number ∷ chain (next_of store') first (list_at lists width).count) (next_at store' number block change.tiled change.here (omega (arith, wide, positive)) ∙ next)
    ∙ ap (λ ns. number ∷ ns) (kept width) in
    let other : (v : ℕ) → v ≢ width → free_numbers store' lists' v ≡ free_numbers store lists v = λ v apart.
    ap (λ l. chain (next_of store') l.first l.count) (list_at-set lists width v list listed ∙ cond-false (eqb v width) list (list_at lists v) (ne_eqb v width apart))
    ∙ kept v in
    let own_at : (v : ℕ) → v ≡ width → free_numbers store' lists' v ≡ number ∷ free_numbers store lists v = λ v same.
    let P : ℕ → Type 0 = λ w. free_numbers store' lists' w ≡ number ∷ free_numbers store lists w in subst P (sym same) own in
    let lengths : length lists' ≡ length lists = length-set lists width list in
    record {
      sound = sound_after store store' lists lists' number block sound change small (omega (arith, wide, positive)) (omega (arith, wide, listed, lengths)) (omega (arith, lengths))
          (λ v n stands. ⊎_elim
          (λ same.
          let stands' : StandsIn (number ∷ free_numbers store lists v) n = subst (λ ns. StandsIn ns n) (own_at v same) stands in
          ⊎_elim
          (λ first. inl (eqb-true n number first, wide ∙ sym same))
          (λ before. inr (stands_apart (free_numbers store lists v) n number before (absent v), before))
          (or_cases (eqb n number) (list_any (eqb n) (free_numbers store lists v)) stands'))
          (λ apart.
          let before : StandsIn (free_numbers store lists v) n = subst (λ ns. StandsIn ns n) (other v apart) stands in
          inr (stands_apart (free_numbers store lists v) n number before (absent v), before))
          (cases_eq v width))
          (λ v. ⊎_elim
          (λ same. subst (IsDistinct eqb) (sym (own_at v same)) (distinct_more number (free_numbers store lists v) (absent v) (sound.distinct v)))
          (λ apart. subst (IsDistinct eqb) (sym (other v apart)) (sound.distinct v))
          (cases_eq v width));
      live = λ n.
          live_after store store' lists lists' number block sound.tiled change
          (λ v m apart. ⊎_elim
          (λ same. ap (list_any (eqb m)) (own_at v same) ∙ ap (λ b. b || list_any (eqb m) (free_numbers store lists v)) (ne_eqb m number apart))
          (λ elsewhere. ap (list_any (eqb m)) (other v elsewhere))
          (cases_eq v width))
          n
          ∙ ap (λ free. cond (eqb n number) (cond free None (Some block)) (get (live_of store lists) n))
          (ap (list_any (eqb number)) (own_at (length block) wide) ∙ stands_first number (free_numbers store lists (length block)));
    }

-- the first free block of a width is taken
pub record TakesBlock (store store' : List ℕ) (lists lists' : List FreeList) (number : ℕ) (block : List ℕ) : Type 0 where
  pub sound : IsStoreSound store' lists'
  pub fresh : get (live_of store lists) number ≡ None
  pub live : live_of store' lists' ≡ insert (live_of store lists) number block

-- the first block of a list that isn't empty
pub first_stands : (store : List ℕ) (lists : List FreeList) (width : ℕ) → 0 < (list_at lists width).count
    → free_numbers store lists width
    ≡ (list_at lists width).first ∷ chain (next_of store) (next_of store (list_at lists width).first) ((list_at lists width).count - 1)
unfolding free_numbers
first_stands store lists width some =
    let count : (list_at lists width).count ≡ suc ((list_at lists width).count - 1) = omega arith in
    ap (chain (next_of store) (list_at lists width).first) count

pub first_block : (store : List ℕ) (lists : List FreeList) (width : ℕ) → IsStoreSound store lists → 0 < (list_at lists width).count
    → HasBlock store (list_at lists width).first width
first_block store lists width sound some =
    sound.free_widths width (list_at lists width).first
    (subst (λ ns. StandsIn ns (list_at lists width).first) (sym (first_stands store lists width some)) (stands_first (list_at lists width).first _))

pub take_block : (store store' : List ℕ) (lists : List FreeList) (width : ℕ) (block' : List ℕ) → IsStoreSound store lists
    → 0 < (list_at lists width).count → width < length lists
    → ChangesBlock store store' (list_at lists width).first block' → length store' ≤ WORD_LIMIT → length block' ≡ width
    → TakesBlock store store' lists
    (set lists width (record { first = next_of store (list_at lists width).first; count = (list_at lists width).count - 1 }))
    (list_at lists width).first block'
unfolding free_numbers
take_block store store' lists width block' sound some listed change small wide =
    let number : ℕ = (list_at lists width).first in
    let list : FreeList = record { first = next_of store number; count = (list_at lists width).count - 1 } in
    let lists' : List FreeList = set lists width list in
    let rest : List ℕ = chain (next_of store) (next_of store number) ((list_at lists width).count - 1) in
    let was : free_numbers store lists width ≡ number ∷ rest = first_stands store lists width some in
    let distinct : IsDistinct eqb (number ∷ rest) = subst (IsDistinct eqb) was (sound.distinct width) in
    let absent : IsAbsent rest number = distinct_absent number rest distinct in
    let has = first_block store lists width sound some in
    let in_rest : (n : ℕ) → StandsIn rest n → StandsIn (free_numbers store lists width) n = λ n stands.
    subst (λ ns. StandsIn ns n) (sym was) (stands_later n number rest stands) in
    let own : free_numbers store' lists' width ≡ rest =
    ap (λ l. chain (next_of store') l.first l.count) (list_at-set lists width width list listed ∙ cond-true (eqb width width) list (list_at lists width) (eq-eqb width width refl))
    ∙ chain-same (next_of store) (next_of store') (next_of store number) ((list_at lists width).count - 1) (λ n stands.
    next_kept store store' lists number block' width n sound change (in_rest n stands) (stands_apart rest n number stands absent)) in
    let not_in : (v : ℕ) → v ≢ width → IsAbsent (free_numbers store lists v) number = λ v apart.
    false_from_ne_true (list_any (eqb number) (free_numbers store lists v)) (λ stands.
    let other = sound.free_widths v number stands in
    apart (sym other.wide ∙ ap length (same_Some other.block has.block (sym other.at ∙ has.at)) ∙ has.wide)) in
    let other : (v : ℕ) → v ≢ width → free_numbers store' lists' v ≡ free_numbers store lists v = λ v apart.
    ap (λ l. chain (next_of store') l.first l.count) (list_at-set lists width v list listed ∙ cond-false (eqb v width) list (list_at lists v) (ne_eqb v width apart))
    ∙ thread_kept store store' lists number block' v sound change (not_in v apart) in
    let own_at : (v : ℕ) → v ≡ width → free_numbers store' lists' v ≡ rest = λ v same.
    subst (λ w. free_numbers store' lists' w ≡ rest) (sym same) own in
    let was_at : (v : ℕ) → v ≡ width → free_numbers store lists v ≡ number ∷ rest = λ v same.
    subst (λ w. free_numbers store lists w ≡ number ∷ rest) (sym same) was in
    let lengths : length lists' ≡ length lists = length-set lists width list in
    let positive = (sound.widths number has.block has.at).0 in
    record {
      sound = sound_after store store' lists lists' number block' sound change small (omega (arith, wide, positive, has.wide)) (omega (arith, wide, listed, lengths)) (omega (arith, lengths))
          (λ v n stands. ⊎_elim
          (λ same.
          let later : StandsIn rest n = subst (λ ns. StandsIn ns n) (own_at v same) stands in
          inr (stands_apart rest n number later absent, subst (λ ns. StandsIn ns n) (sym (was_at v same)) (stands_later n number rest later)))
          (λ apart.
          let before : StandsIn (free_numbers store lists v) n = subst (λ ns. StandsIn ns n) (other v apart) stands in
          inr (stands_apart (free_numbers store lists v) n number before (not_in v apart), before))
          (cases_eq v width))
          (λ v. ⊎_elim
          (λ same. subst (IsDistinct eqb) (sym (own_at v same)) (distinct_rest number rest distinct))
          (λ apart. subst (IsDistinct eqb) (sym (other v apart)) (sound.distinct v))
          (cases_eq v width));
      fresh =
          get_live_block store lists number has.block sound.tiled has.at
          ∙ ap (λ free. cond {A = Option (List ℕ)} free None (Some has.block)) (ap (list_any (eqb number)) (was_at (length has.block) has.wide) ∙ stands_first number rest);
      live = is_insert (live_of store lists) (live_of store' lists') number block' (λ n.
          live_after store store' lists lists' number block' sound.tiled change
          (λ v m apart. ⊎_elim
          (λ same.
          ap (list_any (eqb m)) (own_at v same)
          ∙ sym (ap (list_any (eqb m)) (was_at v same) ∙ ap (λ b. b || list_any (eqb m) rest) (ne_eqb m number apart)))
          (λ elsewhere. ap (list_any (eqb m)) (other v elsewhere))
          (cases_eq v width))
          n
          ∙ ap (λ free. cond (eqb n number) (cond free None (Some block')) (get (live_of store lists) n))
          (ap (list_any (eqb number)) (own_at (length block') wide) ∙ absent));
    }
