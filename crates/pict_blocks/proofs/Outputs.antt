-- The words of an output of kept values, written one after another and read again.
use Rattle.std.proofs.Common.{◌≡◌, ℕ, suc, ◌+◌, List, [], ◌∷◌, length, set, get_or, drop, replicate, ◌∙◌, ap, subst}
use Rattle.std.proofs.lemmas.List.{length-set, length-replicate}
use Rattle.std.specs.FinMap.{insert}
use Rattle.pict_region.specs.RegionState.{words_of, width_of}
use Rattle.pict_queue.specs.QueuesState.{QueuesState}
use Rattle.pict_blocks.specs.Keeping.{kept_words}
use Rattle.pict_blocks.specs.Writing.{OnlyWrites}
use Rattle.pict_desk.specs.declared.kept.Kept.{Kept}
use Rattle.pict_blocks.proofs.Held.{taken_words}
use Rattle.pict_blocks.proofs.Written.{writes_words_of, width_still}

pub taken_wide : (old new : QueuesState) (block width : ℕ) → new.region.live ≡ insert old.region.live block (replicate width 0) → width_of new.region block ≡ width
taken_wide old new block width live = ap length (taken_words old new block width live) ∙ length-replicate width 0

-- two words put in
abbrev pub put_two : List ℕ → ℕ → ℕ × ℕ → List ℕ
put_two ws place pair = set (set ws place pair.0) (place + 1) pair.1

pub still_wide : (a b : QueuesState) (block place width : ℕ) (pair : ℕ × ℕ) → OnlyWrites a b block (put_two (words_of a.region block) place pair) → width_of a.region block ≡ width → width_of b.region block ≡ width
still_wide a b block place width pair w wide =
    width_still a b block _ w ∙ length-set (set (words_of a.region block) place pair.0) (place + 1) pair.1 ∙ length-set (words_of a.region block) place pair.0 ∙ wide

module _ (old q1 q2 q3 q4 q5 : QueuesState) (block : ℕ) (k : Kept)
    (live : q1.region.live ≡ insert old.region.live block (replicate 9 0))
    (a : OnlyWrites q1 q2 block (put_two (words_of q1.region block) 2 k.to))
    (b : OnlyWrites q2 q3 block (put_two (words_of q2.region block) 4 k.message))
    (c : OnlyWrites q3 q4 block (put_two (words_of q3.region block) 6 (k.at.text, k.at.start)))
    (d : OnlyWrites q4 q5 block (set (words_of q4.region block) 8 k.at.end)) where
  pub all_kept : OnlyWrites q1 q5 block (0 ∷ kept_words k)
  all_kept =
      subst (λ us. OnlyWrites q1 q5 block (set (put_two (put_two (put_two us 2 k.to) 4 k.message) 6 (k.at.text, k.at.start)) 8 k.at.end)) (taken_words old q1 block 9 live)
      (writes_words_of q1 q4 q5 block (put_two (put_two (put_two (words_of q1.region block) 2 k.to) 4 k.message) 6 (k.at.text, k.at.start)) (λ us. set us 8 k.at.end)
      (writes_words_of q1 q3 q4 block (put_two (put_two (words_of q1.region block) 2 k.to) 4 k.message) (λ us. put_two us 6 (k.at.text, k.at.start))
      (writes_words_of q1 q2 q3 block (put_two (words_of q1.region block) 2 k.to) (λ us. put_two us 4 k.message) a b) c) d)

-- ---- read

-- a word behind the link
pub word_behind : (ws us : List ℕ) (n : ℕ) → drop 1 ws ≡ us → get_or ws (suc n) 0 ≡ get_or us n 0
word_behind [] us n e = ap (λ xs. get_or xs n 0) e
word_behind (x ∷ ws) us n e = ap (λ xs. get_or xs n 0) e
