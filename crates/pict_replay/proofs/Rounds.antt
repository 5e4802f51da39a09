-- A replay, by how many choices are done and how many lines are used.
use Rattle.std.proofs.Common.{ℕ, ◌+◌, ◌-◌, ◌<◌, ◌≤◌, ◌≡◌, ◌≢◌, Bool, true, false, List, [], ◌∷◌, ◌++◌, length, map, take, drop, get_or, sym, ap, ◌∙◌, subst, arith}
use Rattle.std.proofs.lemmas.List.{take_rest, take-append-drop, map-append, drop_more, drop_all, map_more, take_all, length-map, length-take-le, length-drop, drop-map, drop-drop}
use Rattle.pict_core.specs.Term.{Process}
use Rattle.pict_core.specs.Configuration.{Configuration, IsConfiguration}
use Rattle.pict_core.specs.Places.{Place}
use Rattle.pict_trace.specs.Plain.{plain_line}
use Rattle.pict_trace.specs.declared.lines.TraceLine.{TraceLine}
use Rattle.pict_view.specs.View.{View, StandsFor}
use Rattle.pict_replay.specs.Plain.{place_of}
use Rattle.pict_replay.specs.Replayed.{Line, Agrees, IsFault, is_overdue, unused_after}
use Rattle.pict_replay.specs.Least.{AreLeast}
use Rattle.pict_replay.specs.Turns.{IsAsGiven, FailsAt}
use Rattle.pict_replay.specs.declared.choices.Choice.{Choice}
use Rattle.pict_replay.proofs.Onward.{HasReplayed, onward, fault_late, fault_here, fault_left, agrees}

-- what is used of a slice is used of the whole
pub slice_within : (es : List TraceLine) (used n : ℕ) → used ≤ length es → n ≤ length (take (length es - used) (drop used es)) → used + n ≤ length es
slice_within es used n few some = let l = ap (λ (ls : List TraceLine). length ls) (take_rest es used) in let m = length-drop used es in omega (arith, few, some, l, m)

module _ (p : Process) (xs : List Choice) (es : List TraceLine) (done used : ℕ) (v : View)
    (s : HasReplayed p (map plain_line es) (map place_of (take done xs)) (map plain_line (drop used es)) v) (few : done ≤ length xs) where
  abbrev lines : List Line
  lines = map plain_line es

  abbrev before : List Place
  before = map place_of (take done xs)

  abbrev unused : List Line
  unused = map plain_line (drop used es)

  -- the unused lines, as a slice has them
  abbrev slice : List Line
  slice = map plain_line (take (length es - used) (drop used es))

  same_lines : slice ≡ unused
  same_lines = ap (map plain_line) (take_rest es used)

  count : done + 1 ≡ length before + 1
  count = let l = length-map (take done xs) place_of in let m = length-take-le done xs few in omega (arith, l, m)

  left : map place_of xs ≡ before ++ map place_of (drop done xs)
  left = ap (map place_of) (sym (take-append-drop done xs)) ∙ map-append place_of (take done xs) (drop done xs)

  -- whether a line is overdue, by the least numbers
  overdue_is : (least : List ℕ) (late : Bool) → AreLeast lines least → ((ls : List Line) → AreLeast ls least → late ≡ is_overdue (done + 1) (drop used ls)) → late ≡ is_overdue (done + 1) unused
  overdue_is least late are tells = tells lines are ∙ ap (is_overdue (done + 1)) (drop-map plain_line used es)

  pub late_fault : (least : List ℕ) (late : Bool) → AreLeast lines least → ((ls : List Line) → AreLeast ls least → late ≡ is_overdue (done + 1) (drop used ls)) → late ≡ true → IsFault p (map place_of xs) lines (done + 1)
  late_fault least late are tells e = fault_late p lines before unused v s (done + 1) count (map place_of xs) (map place_of (drop done xs)) left (sym (overdue_is least late are tells) ∙ e)

  module _ (x : Choice) (more : done < length xs) where
    next_left : x ≡ get_or xs done x → map place_of xs ≡ before ++ place_of x ∷ map place_of (drop (done + 1) xs)
    next_left is = left ∙ ap (λ l. before ++ map place_of l) (drop_more xs done x more) ∙ ap (λ y. before ++ place_of y ∷ map place_of (drop (done + 1) xs)) (sym is)

    pub step_fault : ((C : Configuration) → IsConfiguration C → StandsFor v C → FailsAt (done + 1) C (place_of x) slice) → x ≡ get_or xs done x → IsFault p (map place_of xs) lines (done + 1)
    step_fault fails is =
        fault_here p lines before unused v s (done + 1) count (map place_of xs) (map place_of (drop (done + 1) xs)) (place_of x) (next_left is)
        (λ C k t. subst (λ u. FailsAt (done + 1) C (place_of x) u) same_lines (fails C k t))

    pub step_done : (w : View) → ((C : Configuration) → IsConfiguration C → StandsFor v C → IsAsGiven (done + 1) C (place_of x) slice w) → x ≡ get_or xs done x
        → (least : List ℕ) (late : Bool) → AreLeast lines least → ((ls : List Line) → AreLeast ls least → late ≡ is_overdue (done + 1) (drop used ls)) → late ≡ false
        → (n : ℕ) → unused_after (done + 1) slice ≡ drop n slice → HasReplayed p lines (map place_of (take (done + 1) xs)) (map plain_line (drop (used + n) es)) w
    step_done w given is least late are tells e n after =
        let on_time : is_overdue (done + 1) unused ≡ false = sym (overdue_is least late are tells) ∙ e in
        let on = onward p lines before unused v s (done + 1) count (place_of x) w on_time (λ C k t. subst (λ u. IsAsGiven (done + 1) C (place_of x) u w) same_lines (given C k t)) in
        let places : before ++ place_of x ∷ [] ≡ map place_of (take (done + 1) xs) = ap (λ y. before ++ place_of y ∷ []) is ∙ sym (map_more place_of xs done x more) in
        let rest : unused_after (done + 1) unused ≡ map plain_line (drop (used + n) es)
        = ap (unused_after (done + 1)) (sym same_lines) ∙ after ∙ ap (drop n) same_lines ∙ drop-map plain_line n (drop used es) ∙ ap (map plain_line) (drop-drop n used es) in
        subst (λ u. HasReplayed p lines (map place_of (take (done + 1) xs)) u w) rest (subst (λ b. HasReplayed p lines b (unused_after (done + 1) unused) w) places on)

  -- ---- at the end

  all_done : length xs ≤ done → map place_of xs ≡ before
  all_done many = ap (map place_of) (sym (take_all done xs many))

  some_lines : used < length es → unused ≢ []
  some_lines more e = let l = length-map (drop used es) plain_line in let m = length-drop used es in let n = ap (λ (ls : List Line). length ls) e in omega (arith, l, m, n, more)

  pub left_fault : length xs ≤ done → used < length es → IsFault p (map place_of xs) lines (length xs + 1)
  left_fault many more =
      let same : length xs + 1 ≡ length before + 1 = let c = count in omega (arith, c, many, few) in
      fault_left p lines before unused v s (length xs + 1) same (map place_of xs) (all_done many) (some_lines more)

  pub all_agree : length xs ≤ done → length es ≤ used → Agrees p (map place_of xs) lines
  all_agree many over = agrees p lines before unused v s (map place_of xs) (all_done many) (ap (map plain_line) (drop_all used es over))
