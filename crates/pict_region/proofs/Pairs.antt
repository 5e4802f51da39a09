-- Values read out of words and written over them, two words at a time.
use Rattle.std.proofs.Common.{◌≡◌, ◌≢◌, ℕ, zero, suc, ◌+◌, ◌-◌, ◌*◌, ◌<◌, ◌≤◌, List, [], ◌∷◌, ◌++◌, length, take, drop, set, get_or, None, Some, refl, sym, ◌∙◌, ap, subst, arith, eqb, Bool, true, false, ◌||◌, length-append, append_assoc}
use Rattle.std.specs.List.{list_any}
use Rattle.std.specs.FinMap.{get, insert}
use Rattle.std.proofs.lemmas.Bool.{eq-eqb}
use Rattle.std.proofs.lemmas.List.{length-drop, length-take, get_or-set_same, get_or-set_other, drop-append-le, take-append-le, drop_all, append-nil, get_or-take}
use Rattle.std.proofs.Math.Seq.{take-suc, drop-append-add, take-append-add}
use Rattle.pict_region.specs.RegionState.{RegionState, IsLive, words_of, width_of, spare}
use Rattle.pict_region.specs.Layout.{store_of, blocks_of, block_at, list_at, next_of, live_of, made_words, region_state, IsStoreSound, IsLaidOut}
use Rattle.pict_region.specs.declared.region.FreeList.{FreeList}
use Rattle.pict_region.specs.Values.{gathered, pair_at, AreRising, overlaid}
use Rattle.pict_region.specs.declared.region.Region.TheInside.{Inside}
use Rattle.pict_region.proofs.Stores.{block_parts, store_parts, block_read, ChangesBlock, overwritten}
use Rattle.pict_region.proofs.Prefixes.{take_drop, take_over, length_over}
use Rattle.pict_region.proofs.Frees.{first_block, take_block}
use Rattle.pict_region.proofs.Calls.{held_block, spare_at, first_read, made_below, kept_as}

-- ---- written

set_seam : (front : List ℕ) (y : ℕ) (rest : List ℕ) (a : ℕ) → set (front ++ y ∷ rest) (length front) a ≡ front ++ a ∷ rest
set_seam [] y rest a = refl
set_seam (x ∷ front) y rest a = ap (λ ws. x ∷ ws) (set_seam front y rest a)

set_next : (front : List ℕ) (x y : ℕ) (rest : List ℕ) (b : ℕ) → set (front ++ x ∷ y ∷ rest) (length front + 1) b ≡ front ++ x ∷ b ∷ rest
set_next [] x y rest b = refl
set_next (w ∷ front) x y rest b = let e : length (w ∷ front) + 1 ≡ suc (length front + 1) = omega arith in rw e (ap (λ ws. w ∷ ws) (set_next front x y rest b))

-- the next two words of what is left
two_set : (front rest : List ℕ) (place a b : ℕ) → place ≡ length front → 2 ≤ length rest
    → set (set (front ++ rest) place a) (place + 1) b ≡ front ++ a ∷ b ∷ drop 2 rest
two_set front [] place a b e h = absurd (omega arith)
two_set front (x ∷ []) place a b e h = absurd (omega arith)
two_set front (x ∷ y ∷ rest) place a b e h = rw e (ap (λ ws. set ws (length front + 1) b) (set_seam front x (y ∷ rest) a) ∙ set_next front a y rest b)

-- what is written after i indices
abbrev pub so_far : ℕ → List ℕ → List (ℕ × ℕ) → List ℕ → ℕ → List ℕ
so_far start ws values indices i = (take start ws ++ gathered values (take i indices)) ++ drop (start + 2 * i) ws

gathered-append : (values : List (ℕ × ℕ)) (xs ys : List ℕ) → gathered values (xs ++ ys) ≡ gathered values xs ++ gathered values ys
gathered-append values [] ys = refl
gathered-append values (x ∷ xs) ys = cc (gathered-append values xs ys)

pub length_gathered : (values : List (ℕ × ℕ)) (xs : List ℕ) → length (gathered values xs) ≡ 2 * length xs
length_gathered values [] = refl
length_gathered values (x ∷ xs) = omega (arith, length_gathered values xs)

drop_two : (n : ℕ) (ws : List ℕ) → drop 2 (drop n ws) ≡ drop (n + 2) ws
drop_two zero ws = refl
drop_two (suc n) [] = let e : suc n + 2 ≡ suc (n + 2) = omega arith in rw e refl
drop_two (suc n) (w ∷ ws) = let e : suc n + 2 ≡ suc (n + 2) = omega arith in rw e (drop_two n ws)

pub pairs_more : (start : ℕ) (ws us : List ℕ) (values : List (ℕ × ℕ)) (indices : List ℕ) (i index place : ℕ) → i < length indices → start + 2 * length indices ≤ length ws
    → place ≡ start + 2 * i → index ≡ get_or indices i 0 → us ≡ so_far start ws values indices i
    → set (set us place (pair_at values index).0) (place + 1) (pair_at values index).1 ≡ so_far start ws values indices (i + 1)
pairs_more start ws us values indices i index place low wide e is so =
    let front = take start ws ++ gathered values (take i indices) in
    let many : length front ≡ start + 2 * i = omega (arith, length-append (take start ws) (gathered values (take i indices)), length-take start ws, length_gathered values (take i indices), length-take i indices) in
    let next : i + 1 ≡ suc i = omega arith in
    let twice : start + 2 * (i + 1) ≡ start + 2 * i + 2 = omega arith in
    let more : take (i + 1) indices ≡ take i indices ++ index ∷ [] = ap (λ n. take n indices) next ∙ take-suc indices i 0 low ∙ ap (λ l. take i indices ++ l ∷ []) (sym is) in
    ap (λ us. set (set us place (pair_at values index).0) (place + 1) (pair_at values index).1) so
    ∙ two_set front (drop (start + 2 * i) ws) place (pair_at values index).0 (pair_at values index).1 (omega (arith, many)) (omega (arith, length-drop (start + 2 * i) ws))
    ∙ sym (
    ap (λ fs. (take start ws ++ gathered values fs) ++ drop (start + 2 * (i + 1)) ws) more
    ∙ ap (λ us. (take start ws ++ us) ++ drop (start + 2 * (i + 1)) ws) (gathered-append values (take i indices) (index ∷ []))
    ∙ ap (λ n. (take start ws ++ (gathered values (take i indices) ++ (pair_at values index).0 ∷ (pair_at values index).1 ∷ [])) ++ drop n ws) twice
    ∙ ap (λ rest. (take start ws ++ (gathered values (take i indices) ++ (pair_at values index).0 ∷ (pair_at values index).1 ∷ [])) ++ rest) (sym (drop_two (start + 2 * i) ws))
    ∙ ap (λ us. us ++ drop 2 (drop (start + 2 * i) ws)) (sym (append_assoc (take start ws) (gathered values (take i indices)) _))
    ∙ append_assoc front _ (drop 2 (drop (start + 2 * i) ws)))

pub length_overlaid : (first : ℕ) (us ws : List ℕ) → first + length us ≤ length ws → length (overlaid first us ws) ≡ length ws
length_overlaid first us ws h = length_over first us ws (first + length us) refl h

-- ---- read

Below : ℕ → List ℕ → Type 0
Below index [] = Unit {0}
Below index (l ∷ ls) = (l < index) × Below index ls

all_later : (low : ℕ) (frame : List ℕ) (i : ℕ) → i < length frame → AreRising low frame → low ≤ get_or frame i 0
all_later low [] i h r = absurd (omega arith)
all_later low (l ∷ ls) zero h r = r.0
all_later low (l ∷ ls) (suc i) h r = let e = all_later (l + 1) ls i (omega arith) r.1 in omega (arith, e, r.0)

rising_below : (low : ℕ) (frame : List ℕ) (i : ℕ) → i < length frame → AreRising low frame → Below (get_or frame i 0) (take i frame)
unfolding Below
rising_below low [] i h r = absurd (omega arith)
rising_below low (l ∷ ls) zero h r = tt
rising_below low (l ∷ ls) (suc i) h r = (let e = all_later (l + 1) ls i (omega arith) r.1 in omega (arith, e), rising_below (l + 1) ls i (omega arith) r.1)

stays : (values : List (ℕ × ℕ)) (index : ℕ) (pair : ℕ × ℕ) (ls : List ℕ) → Below index ls → gathered (set values index pair) ls ≡ gathered values ls
unfolding Below
stays values index pair [] b = refl
stays values index pair (l ∷ ls) b =
    let apart : l ≢ index = λ e. omega (arith, e, b.0) in
    let e : pair_at (set values index pair) l ≡ pair_at values l = get_or-set_other values index l pair (0, 0) apart in
    let es = stays values index pair ls b.1 in cc (e, es)

take_two : (n : ℕ) (ws : List ℕ) → n + 1 < length ws → take (n + 2) ws ≡ take n ws ++ get_or ws n 0 ∷ get_or ws (n + 1) 0 ∷ []
take_two zero [] h = absurd (omega arith)
take_two zero (x ∷ []) h = absurd (omega arith)
take_two zero (x ∷ y ∷ ws) h = refl
take_two (suc n) [] h = absurd (omega arith)
take_two (suc n) (x ∷ ws) h =
    let e : suc n + 2 ≡ suc (n + 2) = omega arith in
    let f : suc n + 1 ≡ suc (n + 1) = omega arith in
    rw (e, f) (ap (λ us. x ∷ us) (take_two n ws (omega arith)))

behind : (start : ℕ) (ws : List ℕ) (n : ℕ) → get_or (drop start ws) n 0 ≡ get_or ws (start + n) 0
behind zero ws n = let e : n ≡ zero + n = omega arith in ap (λ m. get_or ws m 0) e
behind (suc start) [] n = refl
behind (suc start) (x ∷ ws) n = let e : suc (start + n) ≡ suc start + n = omega arith in behind start ws n ∙ ap (λ m. get_or (x ∷ ws) m 0) e

pub words_more : (start : ℕ) (values : List (ℕ × ℕ)) (pair : ℕ × ℕ) (frame ws : List ℕ) (i index place : ℕ) → i < length frame → AreRising 0 frame → index ≡ get_or frame i 0 → index < length values
    → start + 2 * length frame ≤ length ws → place ≡ start + 2 * i → pair.0 ≡ get_or ws place 0 → pair.1 ≡ get_or ws (place + 1) 0
    → gathered values (take i frame) ≡ take (2 * i) (drop start ws)
    → gathered (set values index pair) (take (i + 1) frame) ≡ take (2 * (i + 1)) (drop start ws)
words_more start values pair frame ws i index place low rising is inside wide e tag payload so_far =
    let next : i + 1 ≡ suc i = omega arith in
    let more : take (i + 1) frame ≡ take i frame ++ index ∷ [] = ap (λ n. take n frame) next ∙ take-suc frame i 0 low ∙ ap (λ l. take i frame ++ l ∷ []) (sym is) in
    let below : Below index (take i frame) = subst (λ l. Below l (take i frame)) (sym is) (rising_below 0 frame i low rising) in
    let here : pair_at (set values index pair) index ≡ pair = get_or-set_same values index pair (0, 0) inside in
    let twice : 2 * (i + 1) ≡ 2 * i + 2 = omega arith in
    let tag_here : pair.0 ≡ get_or (drop start ws) (2 * i) 0 = tag ∙ ap (λ n. get_or ws n 0) e ∙ sym (behind start ws (2 * i)) in
    let after : place + 1 ≡ start + (2 * i + 1) = omega (arith, e) in
    let payload_here : pair.1 ≡ get_or (drop start ws) (2 * i + 1) 0 = payload ∙ ap (λ n. get_or ws n 0) after ∙ sym (behind start ws (2 * i + 1)) in
    ap (gathered (set values index pair)) more
    ∙ gathered-append (set values index pair) (take i frame) (index ∷ [])
    ∙ ap (λ us. us ++ gathered (set values index pair) (index ∷ [])) (stays values index pair (take i frame) below ∙ so_far)
    ∙ ap (λ (x : ℕ × ℕ). take (2 * i) (drop start ws) ++ x.0 ∷ x.1 ∷ []) here
    ∙ ap (λ a. take (2 * i) (drop start ws) ++ a ∷ pair.1 ∷ []) tag_here
    ∙ ap (λ a. take (2 * i) (drop start ws) ++ get_or (drop start ws) (2 * i) 0 ∷ a ∷ []) payload_here
    ∙ sym (take_two (2 * i) (drop start ws) (omega (arith, length-drop start ws)))
    ∙ ap (λ n. take n (drop start ws)) (sym twice)

-- other indices stay
or_last : (b : Bool) → b || false ≡ false → b ≡ false
or_last true e = e
or_last false e = refl

either : (a b c d : Bool) → (b ≡ false → (c ≡ false) × (d ≡ false)) → a || b ≡ false → (a || c ≡ false) × (d ≡ false)
either true b c d f e = cc
either false b c d f e = f e

any_append : (p : ℕ → Bool) (xs : List ℕ) (x : ℕ) → list_any p (xs ++ x ∷ []) ≡ false → (list_any p xs ≡ false) × (p x ≡ false)
any_append p [] x e = (refl, or_last (p x) e)
any_append p (y ∷ ys) x e = either (p y) (list_any p (ys ++ x ∷ [])) (list_any p ys) (p x) (any_append p ys x) e

pub others_more : (before values : List (ℕ × ℕ)) (pair : ℕ × ℕ) (frame : List ℕ) (i index other : ℕ) → i < length frame → index ≡ get_or frame i 0
    → ((k : ℕ) → list_any (eqb k) (take i frame) ≡ false → pair_at values k ≡ pair_at before k)
    → list_any (eqb other) (take (i + 1) frame) ≡ false → pair_at (set values index pair) other ≡ pair_at before other
others_more before values pair frame i index other low is so_far none =
    let next : i + 1 ≡ suc i = omega arith in
    let more : take (i + 1) frame ≡ take i frame ++ index ∷ [] = ap (λ n. take n frame) next ∙ take-suc frame i 0 low ∙ ap (λ l. take i frame ++ l ∷ []) (sym is) in
    let both = any_append (eqb other) (take i frame) index (ap (list_any (eqb other)) (sym more) ∙ none) in
    let apart : other ≢ index = λ e. let t = eq-eqb other index e in let f = both.1 in cc in
    get_or-set_other values index other pair (0, 0) apart ∙ so_far other both.0

-- ---- in a block

-- words of a block, in the store
words_between : (store : List ℕ) (number first many : ℕ) (block : List ℕ) → store_of (blocks_of store) ≡ store
    → block_at (blocks_of store) number ≡ Some block → first + many ≤ length block → take many (drop (number + 1 + first) store) ≡ take many (drop first block)
words_between store number first many block tiled at inside =
    let p = block_parts (blocks_of store) number block at in
    let front : List ℕ = store_of p.before in
    let back : List ℕ = store_of p.after in
    let whole : List ℕ = front ++ (length block ∷ (block ++ back)) in
    let place : length front + 1 + first ≡ length front + suc first = omega arith in
    ap (λ s. take many (drop (number + 1 + first) s)) (store_parts store number block tiled p)
    ∙ ap (λ n. take many (drop (n + 1 + first) whole)) (sym p.place_is)
    ∙ ap (λ n. take many (drop n whole)) place
    ∙ ap (take many) (drop-append-add front (length block ∷ (block ++ back)) (suc first))
    ∙ ap (take many) (drop-append-le first block back (omega (arith, inside)))
    ∙ take-append-le many (drop first block) back (omega (arith, inside, length-drop first block))

pub values_between : (a : Inside) (r : RegionState) (number token first many : ℕ) → region_state a ≡ r → IsLaidOut a.words.items a.made a.free.items → token ≡ number
    → IsLive r number → first + many ≤ width_of r number → take many (drop (token + 1 + first) a.words.items) ≡ take many (drop first (words_of r number))
values_between a r number token first many is kept same live inside =
    let at = (held_block a r number is kept live).at in
    let read = block_read (made_words a) number (words_of r number) kept.sound.tiled at in
    let low : token + 1 + first + many ≤ a.made = made_below a _ (omega (arith, read.fits, same, inside)) in
    sym (take_drop (token + 1 + first) many a.made a.words.items low)
    ∙ ap (λ n. take many (drop (n + 1 + first) (made_words a))) same
    ∙ words_between (made_words a) number first many (words_of r number) kept.sound.tiled at inside

-- the words lie in the store
pub range_inside : (a : Inside) (r : RegionState) (number token : ℕ) → region_state a ≡ r → IsLaidOut a.words.items a.made a.free.items → token ≡ number
    → IsLive r number → token + width_of r number < length a.words.items
range_inside a r number token is kept same live =
    let read = block_read (made_words a) number (words_of r number) kept.sound.tiled (held_block a r number is kept live).at in
    let low : token + width_of r number + 1 ≤ a.made = made_below a _ (omega (arith, read.fits, same)) in
    omega (arith, low, kept.inside)

overlaid_inside : (front block back us : List ℕ) (width first : ℕ) → first + length us ≤ length block
    → overlaid (length front + 1 + first) us (front ++ (width ∷ (block ++ back))) ≡ front ++ (width ∷ (overlaid first us block ++ back))
overlaid_inside front block back us width first inside =
    let whole : List ℕ = front ++ (width ∷ (block ++ back)) in
    let m : ℕ = first + length us in
    let place : length front + 1 + first ≡ length front + suc first = omega arith in
    let place' : length front + suc first + length us ≡ length front + suc m = omega arith in
    ap (λ n. overlaid n us whole) place
    ∙ ap (λ s. s ++ (us ++ drop (length front + suc first + length us) whole)) (take-append-add front (width ∷ (block ++ back)) (suc first))
    ∙ ap (λ s. (front ++ (width ∷ s)) ++ (us ++ drop (length front + suc first + length us) whole)) (take-append-le first block back (omega (arith, inside)))
    ∙ ap (λ n. (front ++ (width ∷ take first block)) ++ (us ++ drop n whole)) place'
    ∙ ap (λ s. (front ++ (width ∷ take first block)) ++ (us ++ s)) (drop-append-add front (width ∷ (block ++ back)) (suc m) ∙ drop-append-le m block back inside)
    ∙ append_assoc front (width ∷ take first block) (us ++ (drop m block ++ back))
    ∙ ap (λ s. front ++ (width ∷ s)) (sym (append_assoc (take first block) (us ++ drop m block) back ∙ ap (λ s. take first block ++ s) (append_assoc us (drop m block) back)))

range_changed : (store : List ℕ) (number first : ℕ) (us block : List ℕ) → store_of (blocks_of store) ≡ store
    → block_at (blocks_of store) number ≡ Some block → first + length us ≤ length block
    → ChangesBlock store (overlaid (number + 1 + first) us store) number (overlaid first us block)
range_changed store number first us block tiled at inside =
    let p = block_parts (blocks_of store) number block at in
    let whole : List ℕ = store_of p.before ++ (length block ∷ (block ++ store_of p.after)) in
    overwritten store (overlaid (number + 1 + first) us store) number block (overlaid first us block) p (length_overlaid first us block inside)
    (ap (overlaid (number + 1 + first) us) (store_parts store number block tiled p)
    ∙ ap (λ n. overlaid (n + 1 + first) us whole) (sym p.place_is)
    ∙ overlaid_inside (store_of p.before) block (store_of p.after) us (length block) first inside)

-- ---- in a new block

-- a word that is put in, and words behind it
pub overlaid_behind : (n word : ℕ) (us ws : List ℕ) → n < length ws → overlaid (n + 1) us (set ws n word) ≡ overlaid n (word ∷ us) ws
overlaid_behind n word us [] h = absurd (omega arith)
overlaid_behind zero word us (w ∷ ws) h =
    let e : zero + 1 + length us ≡ suc (length us) = omega arith in
    let f : zero + suc (length us) ≡ suc (length us) = omega arith in
    rw (e, f) refl
overlaid_behind (suc n) word us (w ∷ ws) h =
    let e : suc n + 1 ≡ suc (n + 1) = omega arith in
    let f : suc (n + 1) + length us ≡ suc (n + 1 + length us) = omega arith in
    let g : suc n + suc (length us) ≡ suc (n + suc (length us)) = omega arith in
    rw (e, f, g) (ap (λ vs. w ∷ vs) (overlaid_behind n word us ws (omega arith)))

-- all words but the first are written over
overlaid_rest : (us ws : List ℕ) → length ws ≡ 1 + length us → overlaid 1 us ws ≡ get_or ws 0 0 ∷ us
overlaid_rest us [] h = absurd (omega (arith, h))
overlaid_rest us (w ∷ ws) h = ap (λ vs. w ∷ (us ++ vs)) (drop_all (1 + length us) (w ∷ ws) (omega (arith, h))) ∙ ap (λ vs. w ∷ vs) (append-nil us)

-- the first free block of a width is taken, and its words behind the first are written
pub record TakesWords (words' : List ℕ) (made : ℕ) (lists' : List FreeList) (r : RegionState) (number : ℕ) (words : List ℕ) : Type 0 where
  pub kept : IsLaidOut words' made lists'
  pub fresh : get r.live number ≡ None
  pub first : ℕ
  pub live : live_of (take made words') lists' ≡ insert r.live number (first ∷ words)

pub taken_with : (a : Inside) (r : RegionState) (width next : ℕ) (list : FreeList) (us : List ℕ) → region_state a ≡ r → IsLaidOut a.words.items a.made a.free.items
    → 1 ≤ spare r width → width ≡ 1 + length us → list ≡ list_at a.free.items width → next ≡ get_or a.words.items (list.first + 1) 0
    → TakesWords (overlaid (list.first + 1 + 1) us a.words.items) a.made (set a.free.items width (record { first = next; count = list.count - 1 })) r list.first us
unfolding next_of
taken_with a r width next list us is kept some wide list_is next_is =
    let sound = kept.sound in
    let words : List ℕ = a.words.items in
    let store : List ℕ = made_words a in
    let lists : List FreeList = a.free.items in
    let first : ℕ = (list_at lists width).first in
    let count = spare_at a r width is in
    let positive : 0 < (list_at lists width).count = omega (arith, count, some) in
    let has = first_block store lists width sound positive in
    let reads = first_read a r width is kept some in
    let rest : length has.block ≡ 1 + length us = has.wide ∙ wide in
    let inside : 1 + length us ≤ length has.block = omega (arith, rest) in
    let made : length store ≡ a.made = omega (arith, length-take a.made words, kept.inside) in
    let low : first + 1 + 1 + length us ≤ a.made = omega (arith, reads.low, wide) in
    let block : List ℕ = overlaid 1 us has.block in
    let takes = take_block store (overlaid (first + 1 + 1) us store) lists width block sound positive reads.listed
    (range_changed store first 1 us has.block sound.tiled has.at inside)
    (omega (arith, length_overlaid (first + 1 + 1) us store (omega (arith, low, made)), sound.small))
    (length_overlaid 1 us has.block inside ∙ has.wide) in
    let is_over : take a.made (overlaid (first + 1 + 1) us words) ≡ overlaid (first + 1 + 1) us store =
    take_over (first + 1 + 1) us words a.made (first + 1 + 1 + length us) refl low kept.inside in
    let next_in : get_or store (first + 1) 0 ≡ get_or words (first + 1) 0 =
    get_or-take a.made words (first + 1) 0 (omega (arith, reads.low, reads.positive)) in
    let P : FreeList → ℕ → Type 0 = λ l n. TakesWords (overlaid (l.first + 1 + 1) us words) a.made (set lists width (record { first = n; count = l.count - 1 })) r l.first us in
    let lists' : List FreeList = set lists width (record { first = next_of store first; count = (list_at lists width).count - 1 }) in
    let here : P (list_at lists width) (next_of store first) = record {
      kept = kept_as words (overlaid (first + 1 + 1) us words) a.made lists lists' kept
          (length_overlaid (first + 1 + 1) us words (omega (arith, low, kept.inside)))
          (subst (λ s. IsStoreSound s lists') (sym is_over) takes.sound);
      fresh = ap (λ s. get s.live first) (sym is) ∙ takes.fresh;
      first = get_or has.block 0 0;
      live = ap (λ s. live_of s lists') is_over ∙ takes.live ∙ ap (insert (live_of store lists) first) (overlaid_rest us has.block rest) ∙ ap (λ s. insert s.live first (get_or has.block 0 0 ∷ us)) is;
    } in
    let there : P (list_at lists width) (get_or words (first + 1) 0) = subst (P (list_at lists width)) next_in here in
    let at_list : P list (get_or words (list.first + 1) 0) = subst (λ l. P l (get_or words (l.first + 1) 0)) (sym list_is) there in
    subst (P list) (sym next_is) at_list
