-- How the search for a comment's end goes on over one or two bytes.
use Rattle.std.proofs.Common.{◌≡◌, ◌≢◌, ℕ, suc, ◌+◌, ◌-◌, ◌<◌, ◌≤◌, true, false, ◌&&◌, Bool, zero, Some, None, List, [], ◌∷◌, ◌++◌, length, take, drop, get_or, if◌then◌else◌, refl, sym, ◌∙◌, ap, subst, arith, ◌==◌}
use Rattle.std.proofs.Math.Seq.{drop-cons, take-append_seam}
use Rattle.std.proofs.lemmas.Bool.Decides.{Decides-eqb}
use Rattle.std.proofs.lemmas.List.{length-drop, length-append}
use Rattle.pict_syntax.specs.Comments.{BeginsWith, opening, closing, IsComment}
use Rattle.pict_syntax.proofs.CommentLemmas.{is_closing, behind, behind_comment, comment_found}

-- where the search has come to, with so many comments open
pub record IsSearching (rest : List ℕ) (at depth : ℕ) : Type 0 where
  pub within : at ≤ length rest
  pub same : behind depth (drop at rest) ≡ behind 1 (drop 2 rest)

two_bytes : (rest : List ℕ) (at : ℕ) → 2 ≤ length rest - at → drop at rest ≡ get_or rest at 0 ∷ get_or rest (at + 1) 0 ∷ drop (at + 2) rest
two_bytes rest at h =
    let here : drop at rest ≡ get_or rest at 0 ∷ drop (suc at) rest = drop-cons rest at 0 (omega arith) in
    let next : drop (suc at) rest ≡ get_or rest (suc at) 0 ∷ drop (suc (suc at)) rest = drop-cons rest (suc at) 0 (omega arith) in
    let one : suc at ≡ at + 1 = omega arith in
    let two : suc (suc at) ≡ at + 2 = omega arith in
    here ∙ ap (λ t. get_or rest at 0 ∷ t) next ∙ ap (λ k. get_or rest at 0 ∷ get_or rest k 0 ∷ drop (suc (suc at)) rest) one
    ∙ ap (λ k. get_or rest at 0 ∷ get_or rest (at + 1) 0 ∷ drop k rest) two

opened : (a b depth : ℕ) (more : List ℕ) → a ∷ b ∷ [] ≡ opening → behind (suc depth) (a ∷ b ∷ more) ≡ behind (suc (suc depth)) more
opened a b depth more e =
    let first : a ≡ 123 = cc in
    let second : b ≡ 42 = cc in
    ap (λ x. behind (suc depth) (x ∷ b ∷ more)) first ∙ ap (λ y. behind (suc depth) (123 ∷ y ∷ more)) second

shut : (a b depth : ℕ) (more : List ℕ) → a ∷ b ∷ [] ≡ closing → behind (suc depth) (a ∷ b ∷ more) ≡ behind depth more
shut a b depth more e =
    let first : a ≡ 42 = cc in
    let second : b ≡ 125 = cc in
    ap (λ x. behind (suc depth) (x ∷ b ∷ more)) first ∙ ap (λ y. behind (suc depth) (42 ∷ y ∷ more)) second

pair_test : (p q : Bool) (a b m n : ℕ) → (p ≡ true → a ≡ m) → (q ≡ true → b ≡ n) → a ∷ b ∷ [] ≢ m ∷ n ∷ [] → (p && q) ≡ false
pair_test true true a b m n f g h = let first : a ≡ m = f refl in let second : b ≡ n = g refl in absurd (h cc)
pair_test true false a b m n f g h = refl
pair_test false q a b m n f g h = refl

passed : (a b depth : ℕ) (more : List ℕ) → a ∷ b ∷ [] ≢ opening → a ∷ b ∷ [] ≢ closing → behind (suc depth) (a ∷ b ∷ more) ≡ behind (suc depth) (b ∷ more)
passed a b depth more no_open no_close =
    ap (λ t. if t then behind (suc (suc depth)) more else if is_closing a b then behind depth more else behind (suc depth) (b ∷ more))
    (pair_test (a == 123) (b == 42) a b 123 42 (Decides-eqb a 123).0 (Decides-eqb b 42).0 no_open)
    ∙ ap (λ t. if t then behind depth more else behind (suc depth) (b ∷ more)) (pair_test (a == 42) (b == 125) a b 42 125 (Decides-eqb a 42).0 (Decides-eqb b 125).0 no_close)

-- one comment more is open
pub open_more : (rest : List ℕ) (at depth : ℕ) → 0 < depth → 2 ≤ length rest - at → IsSearching rest at depth → get_or rest at 0 ∷ get_or rest (at + 1) 0 ∷ [] ≡ opening
    → IsSearching rest (at + 2) (depth + 1)
open_more rest at zero some room searching e = absurd (omega arith)
open_more rest at (suc depth) some room searching e =
    let deeper : suc depth + 1 ≡ suc (suc depth) = omega arith in
    record {
      within = omega arith;
      same = ap (λ k. behind k (drop (at + 2) rest)) deeper ∙ sym (opened (get_or rest at 0) (get_or rest (at + 1) 0) depth (drop (at + 2) rest) e)
          ∙ ap (behind (suc depth)) (sym (two_bytes rest at room)) ∙ searching.same;
    }

-- one comment less
pub open_less : (rest : List ℕ) (at depth : ℕ) → 0 < depth → 2 ≤ length rest - at → IsSearching rest at depth → get_or rest at 0 ∷ get_or rest (at + 1) 0 ∷ [] ≡ closing
    → IsSearching rest (at + 2) (depth - 1)
open_less rest at zero some room searching e = absurd (omega arith)
open_less rest at (suc depth) some room searching e =
    let higher : suc depth - 1 ≡ depth = omega arith in
    record {
      within = omega arith;
      same = ap (λ k. behind k (drop (at + 2) rest)) higher ∙ sym (shut (get_or rest at 0) (get_or rest (at + 1) 0) depth (drop (at + 2) rest) e)
          ∙ ap (behind (suc depth)) (sym (two_bytes rest at room)) ∙ searching.same;
    }

second_byte : (rest : List ℕ) (at : ℕ) → 2 ≤ length rest - at → drop (at + 1) rest ≡ get_or rest (at + 1) 0 ∷ drop (at + 2) rest
second_byte rest at h =
    let two : suc (at + 1) ≡ at + 2 = omega arith in
    drop-cons rest (at + 1) 0 (omega arith) ∙ ap (λ k. get_or rest (at + 1) 0 ∷ drop k rest) two

-- a byte that begins no bracket
pub open_same : (rest : List ℕ) (at depth : ℕ) → 0 < depth → 2 ≤ length rest - at → IsSearching rest at depth → get_or rest at 0 ∷ get_or rest (at + 1) 0 ∷ [] ≢ opening
    → get_or rest at 0 ∷ get_or rest (at + 1) 0 ∷ [] ≢ closing → IsSearching rest (at + 1) depth
open_same rest at zero some room searching no_open no_close = absurd (omega arith)
open_same rest at (suc depth) some room searching no_open no_close =
    record {
      within = omega arith;
      same = ap (behind (suc depth)) (second_byte rest at room) ∙ sym (passed (get_or rest at 0) (get_or rest (at + 1) 0) depth (drop (at + 2) rest) no_open no_close)
          ∙ ap (behind (suc depth)) (sym (two_bytes rest at room)) ∙ searching.same;
    }

none_left : (depth : ℕ) (text : List ℕ) → length text < 2 → behind (suc depth) text ≡ None
none_left depth [] h = refl
none_left depth (a ∷ []) h = refl
none_left depth (a ∷ b ∷ more) h = absurd (omega arith)

-- a comment that is open at the end of the text isn't closed
pub open_to_end : (rest : List ℕ) (at depth : ℕ) → 0 < depth → length rest - at < 2 → IsSearching rest at depth → (bytes : List ℕ) → IsComment bytes → ¬ BeginsWith bytes rest
open_to_end rest at zero some short searching bytes is begins = absurd (omega arith)
open_to_end rest at (suc depth) some short searching bytes is (after, e) =
    let size : length (drop at rest) ≡ length rest - at = length-drop at rest in
    let none : behind (suc depth) (drop at rest) ≡ None = none_left depth (drop at rest) (omega arith) in
    let found : behind 1 (drop 2 rest) ≡ Some after = ap (λ t. behind 1 (drop 2 t)) e ∙ behind_comment bytes after is in
    let same : behind (suc depth) (drop at rest) ≡ behind 1 (drop 2 rest) = searching.same in
    cc

-- where no comment is open, the comment has ended
pub closed_here : (rest : List ℕ) (at depth : ℕ) → depth ≤ 0 → BeginsWith opening rest → IsSearching rest at depth → IsComment (take at rest)
closed_here rest at (suc depth) none begins searching = absurd (omega arith)
closed_here rest at zero none (more, e) searching =
    let tail : drop 2 rest ≡ more = ap (drop 2) e in
    let found : behind 1 (drop 2 rest) ≡ Some (drop at rest) = sym searching.same in
    by (comment_found (drop 2 rest) (drop at rest) found) (e ∙ ap (λ t. opening ++ t) (sym tail))
  where
    by : (bytes : List ℕ) × IsComment bytes × (opening ++ drop 2 rest ≡ bytes ++ drop at rest) → rest ≡ opening ++ drop 2 rest → IsComment (take at rest)
    by (bytes, is, f) whole =
        let text : rest ≡ bytes ++ drop at rest = whole ∙ f in
        let within : at ≤ length rest = searching.within in
        let size : length rest ≡ length bytes + length (drop at rest) = ap length text ∙ length-append bytes (drop at rest) in
        let behind_it : length (drop at rest) ≡ length rest - at = length-drop at rest in
        let count : at ≡ length bytes = omega arith in
        subst IsComment (sym (take-append_seam bytes (drop at rest)) ∙ ap (take (length bytes)) (sym text) ∙ ap (λ k. take k rest) (sym count)) is
