-- A store and its blocks: cuts, numbers, and what stays when one block is written over.
use Rattle.std.proofs.Common.{◌≡◌, ◌≢◌, ℕ, zero, suc, ◌+◌, ◌-◌, ◌<◌, ◌≤◌, true, false, cond, ltb, List, [], ◌∷◌, ◌++◌, length, get_or, Option, Some, None, refl, sym, ◌∙◌, ap, subst, ⊎_elim, arith, append_assoc, length-append}
use Rattle.std.proofs.lemmas.List.{take_at, drop_at, get_or_at, get_or_append_left, get_or-append-add, append-nil}
use Rattle.std.proofs.lemmas.Bool.{cases_lt, lt-ltb, le-ltb}
use Rattle.std.proofs.lemmas.Option.{none-some, same_Some}
use Rattle.pict_region.specs.Layout.{store_of, cut, blocks_of, block_at}

pub cut-store_of : (blocks : List (List ℕ)) (cuts : ℕ) → length (store_of blocks) ≤ cuts → cut cuts (store_of blocks) ≡ blocks
unfolding cut store_of
cut-store_of [] zero h = refl
cut-store_of [] (suc cuts) h = refl
cut-store_of (b ∷ bs) zero h = absurd (omega arith)
cut-store_of (b ∷ bs) (suc cuts) h =
    let fits : length (store_of bs) ≤ cuts = omega (arith, length-append b (store_of bs), h) in
    rw (take_at b (store_of bs) (length b) refl, drop_at b (store_of bs) (length b) refl) (ap (λ x. b ∷ x) (cut-store_of bs cuts fits))

pub blocks_of-store_of : (blocks : List (List ℕ)) → blocks_of (store_of blocks) ≡ blocks
unfolding blocks_of
blocks_of-store_of blocks = cut-store_of blocks (length (store_of blocks)) (omega arith)

pub store_of-append : (xs ys : List (List ℕ)) → store_of (xs ++ ys) ≡ store_of xs ++ store_of ys
unfolding store_of
store_of-append [] ys = refl
store_of-append (x ∷ xs) ys =
    ap (λ s. length x ∷ s) (ap (λ s. x ++ s) (store_of-append xs ys) ∙ sym (append_assoc x (store_of xs) (store_of ys)))

-- the blocks before one, and those after it
pub record IsParted (blocks : List (List ℕ)) (place : ℕ) (block : List ℕ) : Type 0 where
  pub before : List (List ℕ)
  pub after : List (List ℕ)
  pub blocks_are : blocks ≡ before ++ block ∷ after
  pub place_is : length (store_of before) ≡ place

pub block_parts : (blocks : List (List ℕ)) (place : ℕ) (block : List ℕ) → block_at blocks place ≡ Some block → IsParted blocks place block
unfolding block_at store_of
block_parts [] place block e = absurd (none-some _ e)
block_parts (b ∷ bs) zero block e = record { before = []; after = bs; blocks_are = ap (λ x. x ∷ bs) (same_Some _ _ e); place_is = refl }
block_parts (b ∷ bs) (suc place) block e =
    ⊎_elim
    (λ below. absurd (none-some block (let at : cond (ltb place (length b)) None (block_at bs (place - length b)) ≡ Some block = e in rw (lt-ltb place (length b) below) at at)))
    (λ above.
    let p = block_parts bs (place - length b) block (let at : cond (ltb place (length b)) None (block_at bs (place - length b)) ≡ Some block = e in rw (le-ltb place (length b) above) at at) in
    record {
      before = b ∷ p.before;
      after = p.after;
      blocks_are = ap (λ x. b ∷ x) p.blocks_are;
      place_is = omega (arith, length-append b (store_of p.before), p.place_is, above);
    })
    (cases_lt place (length b))

pub block_at_here : (before after : List (List ℕ)) (block : List ℕ) → block_at (before ++ block ∷ after) (length (store_of before)) ≡ Some block
unfolding block_at store_of
block_at_here [] after block = refl
block_at_here (b ∷ bs) after block =
    let over : length b ≤ length (b ++ store_of bs) = omega (arith, length-append b (store_of bs)) in
    let rest : length (b ++ store_of bs) - length b ≡ length (store_of bs) = omega (arith, length-append b (store_of bs)) in
    rw (le-ltb (length (b ++ store_of bs)) (length b) over, rest) (block_at_here bs after block)

-- a block written over by one as long
pub block_at_elsewhere : (before after : List (List ℕ)) (b c : List ℕ) → length c ≡ length b → (place : ℕ) → place ≢ length (store_of before)
    → block_at (before ++ c ∷ after) place ≡ block_at (before ++ b ∷ after) place
unfolding block_at store_of
block_at_elsewhere [] after b c same zero apart = absurd (apart refl)
block_at_elsewhere [] after b c same (suc place) apart = ap (λ n. cond (ltb place n) None (block_at after (place - n))) same
block_at_elsewhere (x ∷ before) after b c same zero apart = refl
block_at_elsewhere (x ∷ before) after b c same (suc place) apart =
    ⊎_elim
    (λ below. rw (lt-ltb place (length x) below) refl)
    (λ above. let apart' : place - length x ≢ length (store_of before) = λ e. apart (omega (arith, length-append x (store_of before), e, above)) in
    rw (le-ltb place (length x) above) (block_at_elsewhere before after b c same (place - length x) apart'))
    (cases_lt place (length x))

-- a block at the end
pub block_at_before_end : (blocks : List (List ℕ)) (b : List ℕ) (place : ℕ) → place ≢ length (store_of blocks)
    → block_at (blocks ++ b ∷ []) place ≡ block_at blocks place
unfolding block_at store_of
block_at_before_end [] b zero apart = absurd (apart refl)
block_at_before_end [] b (suc place) apart = elim (ltb place (length b)) as (λ t. cond {A = Option (List ℕ)} t None None ≡ None) [ true ↦ refl | false ↦ refl ]
block_at_before_end (x ∷ blocks) b zero apart = refl
block_at_before_end (x ∷ blocks) b (suc place) apart =
    ⊎_elim
    (λ below. rw (lt-ltb place (length x) below) refl)
    (λ above. let apart' : place - length x ≢ length (store_of blocks) = λ e. apart (omega (arith, length-append x (store_of blocks), e, above)) in
    rw (le-ltb place (length x) above) (block_at_before_end blocks b (place - length x) apart'))
    (cases_lt place (length x))

pub block_at_end : (blocks : List (List ℕ)) → block_at blocks (length (store_of blocks)) ≡ None
unfolding block_at store_of
block_at_end [] = refl
block_at_end (b ∷ bs) =
    let over : length b ≤ length (b ++ store_of bs) = omega (arith, length-append b (store_of bs)) in
    let rest : length (b ++ store_of bs) - length b ≡ length (store_of bs) = omega (arith, length-append b (store_of bs)) in
    rw (le-ltb (length (b ++ store_of bs)) (length b) over, rest) (block_at_end bs)

-- one block's words, in the store
pub record ReadsBlock (store : List ℕ) (number : ℕ) (block : List ℕ) : Type 0 where
  pub fits : number + length block < length store
  pub width : get_or store number 0 ≡ length block
  pub words : (i : ℕ) → i < length block → get_or store (number + 1 + i) 0 ≡ get_or block i 0

-- the store as its parts
pub store_parts : (store : List ℕ) (number : ℕ) (block : List ℕ) → store_of (blocks_of store) ≡ store → (p : IsParted (blocks_of store) number block)
    → store ≡ store_of p.before ++ (length block ∷ (block ++ store_of p.after))
unfolding store_of
store_parts store number block tiled p = sym tiled ∙ ap store_of p.blocks_are ∙ store_of-append p.before (block ∷ p.after)

parts_read : (front block back : List ℕ) → ReadsBlock (front ++ (length block ∷ (block ++ back))) (length front) block
parts_read front block back = record {
  fits = omega (arith, length-append front (length block ∷ (block ++ back)), length-append block back);
  width = get_or_at front (length block) (block ++ back) 0 (length front) refl;
  words = λ i h.
      let place : length front + 1 + i ≡ length front + suc i = omega arith in
      rw (place, get_or-append-add front (length block ∷ (block ++ back)) (suc i) 0) (get_or_append_left block back 0 i h);
}

pub block_read : (store : List ℕ) (number : ℕ) (block : List ℕ) → store_of (blocks_of store) ≡ store → block_at (blocks_of store) number ≡ Some block → ReadsBlock store number block
block_read store number block tiled at =
    let p = block_parts (blocks_of store) number block at in
    let is = store_parts store number block tiled p in
    let P : List ℕ → ℕ → Type 0 = λ s n. ReadsBlock s n block in
    subst (λ s. P s number) (sym is) (subst (P (store_of p.before ++ (length block ∷ (block ++ store_of p.after)))) p.place_is (parts_read (store_of p.before) block (store_of p.after)))

-- a store in which one block has become another, and each other block is as before
pub record ChangesBlock (store store' : List ℕ) (number : ℕ) (block : List ℕ) : Type 0 where
  pub tiled : store_of (blocks_of store') ≡ store'
  pub here : block_at (blocks_of store') number ≡ Some block
  pub elsewhere : (other : ℕ) → other ≢ number → block_at (blocks_of store') other ≡ block_at (blocks_of store) other

-- a block is written over by one as long
pub overwritten : (store store' : List ℕ) (number : ℕ) (block block' : List ℕ) → (p : IsParted (blocks_of store) number block)
    → length block' ≡ length block
    → store' ≡ store_of p.before ++ (length block ∷ (block' ++ store_of p.after))
    → ChangesBlock store store' number block'
unfolding store_of
overwritten store store' number block block' p same is =
    let whole : store' ≡ store_of (p.before ++ block' ∷ p.after) = is ∙ ap (λ n. store_of p.before ++ (n ∷ (block' ++ store_of p.after))) (sym same) ∙ sym (store_of-append p.before (block' ∷ p.after)) in
    let blocks : blocks_of store' ≡ p.before ++ block' ∷ p.after = ap blocks_of whole ∙ blocks_of-store_of (p.before ++ block' ∷ p.after) in
    record {
      tiled = ap store_of blocks ∙ sym whole;
      here = rw (blocks, ← p.place_is) (block_at_here p.before p.after block');
      elsewhere = λ other apart. rw (blocks, p.blocks_are) (block_at_elsewhere p.before p.after block block' same other (λ e. apart (e ∙ p.place_is)));
    }

-- a block is put at the end of the store
pub appended : (store store' : List ℕ) (block : List ℕ) → store_of (blocks_of store) ≡ store
    → store' ≡ store ++ (length block ∷ block)
    → ChangesBlock store store' (length store) block
unfolding store_of
appended store store' block tiled is =
    let end : store_of (block ∷ []) ≡ length block ∷ block = ap (λ s. length block ∷ s) (append-nil block) in
    let whole : store' ≡ store_of (blocks_of store ++ block ∷ []) =
    is ∙ ap (λ s. s ++ (length block ∷ block)) (sym tiled) ∙ ap (λ s. store_of (blocks_of store) ++ s) (sym end) ∙ sym (store_of-append (blocks_of store) (block ∷ [])) in
    let blocks : blocks_of store' ≡ blocks_of store ++ block ∷ [] = ap blocks_of whole ∙ blocks_of-store_of (blocks_of store ++ block ∷ []) in
    let place : length (store_of (blocks_of store)) ≡ length store = ap length tiled in
    record {
      tiled = ap store_of blocks ∙ sym whole;
      here = rw (blocks, ← place) (block_at_here (blocks_of store) [] block);
      elsewhere = λ other apart. rw blocks (block_at_before_end (blocks_of store) block other (λ e. apart (e ∙ place)));
    }

-- no block has its number at the end of the store
pub block_at_length : (store : List ℕ) → store_of (blocks_of store) ≡ store → block_at (blocks_of store) (length store) ≡ None
block_at_length store tiled = ap (block_at (blocks_of store)) (sym (ap length tiled)) ∙ block_at_end (blocks_of store)
