-- Frames that are read out of blocks.
use Rattle.std.proofs.Common.{ℕ, zero, suc, ◌+◌, ◌*◌, ◌≤◌, ◌≡◌, ◌||◌, eqb, Bool, true, false, List, [], ◌∷◌, length, map, drop, get_or, Vec, Global, refl, sym, ap, ◌∙◌, subst, arith}
use Rattle.std.proofs.lemmas.Bool.Decides.{nat_tests}
use Rattle.std.specs.List.{list_any}
use Rattle.pict_syntax.specs.declared.limits.TheConstants.{NARROW_LIMIT}
use Rattle.pict_code.specs.Levels.{Rises}
use Rattle.pict_region.specs.RegionState.{RegionState, words_of}
use Rattle.pict_queue.specs.Contents.{held_words}
use Rattle.pict_blocks.specs.Framed.{gathered, AreRising}
use Rattle.pict_desk.specs.Known.{pair_at, value_in, known}
use Rattle.pict_heap.specs.HeapState.{HeapState}
use Rattle.pict_desk.specs.Pairs.{IsPair, ArePairs}
use Rattle.pict_blocks.specs.Blocks.{frame_values}
use Rattle.pict_blocks.specs.Holding.{HoldWords}
use Rattle.pict_blocks.specs.Parts.{HasReadFrame}
use Rattle.pict_desk.specs.declared.desk.Desk.{Desk}

-- ---- words behind the link and the number

pub held_length : (h : HeapState) (n : ℕ) (ws : List ℕ) → HoldWords h n ws → length ws ≡ 2 * n
held_length h zero [] o = refl
held_length h zero (x ∷ ws) o = absurd o
held_length h (suc n) [] o = absurd o
held_length h (suc n) (x ∷ []) o = absurd o
held_length h (suc n) (x ∷ y ∷ ws) o = let e = held_length h n ws o.1 in omega (arith, e)

pub whole_length : (ws : List ℕ) (x : ℕ) (held : List ℕ) → drop 1 ws ≡ x ∷ held → length ws ≡ 2 + length held
whole_length [] x held e = cc
whole_length (y ∷ xs) x held e = let l : length xs ≡ suc (length held) = ap length e in omega (arith, l)

pub behind_number : (ws : List ℕ) (number : ℕ) (held : List ℕ) → drop 1 ws ≡ suc number ∷ held → drop 2 ws ≡ held
behind_number [] number held e = cc
behind_number (x ∷ []) number held e = cc
behind_number (x ∷ y ∷ ws) number held e = cc

pub pair_behind : (ws : List ℕ) (number a b : ℕ) → drop 1 ws ≡ suc number ∷ a ∷ b ∷ [] → (get_or ws 2 0 ≡ a) × (get_or ws 3 0 ≡ b)
pair_behind [] number a b e = cc
pair_behind (x ∷ []) number a b e = cc
pair_behind (x ∷ y ∷ []) number a b e = cc
pair_behind (x ∷ y ∷ z ∷ []) number a b e = cc
pair_behind (x ∷ y ∷ z ∷ w ∷ ws) number a b e = (cc, cc)

pub as_rising : (low : ℕ) (ls : List ℕ) → Rises low ls → AreRising low ls
as_rising low [] r = tt
as_rising low (l ∷ ls) r = (r.0, as_rising (l + 1) ls r.1)

-- the first block of a queue that holds words
pub record FirstBlock (r : RegionState) (blocks words : List ℕ) : Type 0 where
  pub block : ℕ
  pub rest : List ℕ
  pub is : blocks ≡ block ∷ rest
  pub holds : drop 1 (words_of r block) ≡ words

pub first_block : (r : RegionState) (blocks words : List ℕ) → get_or (map (held_words r) blocks) 0 [] ≡ words → 1 ≤ length words → FirstBlock r blocks words
first_block r [] words e some = let none : length words ≡ 0 = sym (ap length e) in absurd (omega (arith, none, some))
first_block r (block ∷ rest) words e some = record { block = block; rest = rest; is = refl; holds = e }

-- ---- levels that are read have words of the heap

module _ (h : HeapState) (values : List (ℕ × ℕ)) (level : ℕ) where
  first_or_later : (l : ℕ) (ls : List ℕ) (b : Bool) → eqb level l ≡ b → IsPair h (pair_at values l) → (list_any (eqb level) ls ≡ true → IsPair h (pair_at values level))
      → list_any (eqb level) (l ∷ ls) ≡ true → IsPair h (pair_at values level)
  first_or_later l ls true t first later e = let same : l ≡ level = grind (arith, nat_tests) in subst (λ (k : ℕ). IsPair h (pair_at values k)) same first
  first_or_later l ls false t first later e = later (ap (λ b. b || list_any (eqb level) ls) (sym t) ∙ e)

  pair_read : (frame : List ℕ) → HoldWords h (length frame) (gathered values frame) → list_any (eqb level) frame ≡ true → IsPair h (pair_at values level)
  pair_read [] o e = cc
  pair_read (l ∷ ls) o e = first_or_later l ls (eqb level l) refl o.0 (pair_read ls o.1) e

pub pairs_read : (h : HeapState) (before values : List (ℕ × ℕ)) (frame : List ℕ) → HoldWords h (length frame) (gathered values frame)
    → ((level : ℕ) → list_any (eqb level) frame ≡ false → pair_at values level ≡ pair_at before level) → ArePairs h before → ArePairs h values
pairs_read h before values frame o others pairs level = by_case (list_any (eqb level) frame) refl
  where
    by_case : (b : Bool) → list_any (eqb level) frame ≡ b → IsPair h (pair_at values level)
    by_case true e = pair_read h values level frame o e
    by_case false e = subst (IsPair h) (sym (others level e)) (pairs level)

-- The values of levels were written by a frame's.
pub has_read_frame : (d : Desk) (vec : Vec (ℕ × ℕ) Global) (words frame : List ℕ) (values : List (ℕ × ℕ)) → vec.items ≡ values
    → length values ≡ length d.values.items → ArePairs d.heap values → frame_values (value_in d.heap) (length frame) (drop 1 words) ≡ map (known d.heap values) frame
    → (length frame ≤ NARROW_LIMIT → drop 1 words ≡ gathered values frame)
    → HasReadFrame d (record d { values = vec }) words frame
has_read_frame d vec words frame values is levels pairs read same = record {
  values = read ∙ ap (λ (vs : List (ℕ × ℕ)). map (known d.heap vs) frame) (sym is);
  same = λ few. same few ∙ ap (λ (vs : List (ℕ × ℕ)). gathered vs frame) (sym is);
  heap = refl;
  pending = refl;
  levels = ap length is ∙ levels;
  pairs = subst (ArePairs d.heap) (sym is) pairs;
}
