-- A frame from the frames of the parts and the levels of the operands.
use Rattle.std.proofs.Common.{◌≡◌, ℕ, suc, ◌+◌, ◌<◌, ◌≤◌, Bool, true, false, ◌||◌, ◌&&◌, List, [], ◌∷◌, nat_lt, refl, sym, ap, ◌∙◌, subst, arith, slice_get, Option, Some, None, ◌==◌, length}
use Rattle.std.proofs.lemmas.List.{nil_from_length}
use Rattle.std.proofs.lemmas.Bool.Decides.{nat_tests}
use Rattle.pict_core.specs.Term.{Process, Zero, Par, New, Out, In, If}
use Rattle.pict_core.specs.Closed.{binds}
use Rattle.pict_code.specs.Frames.{in_value, occurs, frame_of}
use Rattle.pict_code.specs.Levels.{has, Rises}
use Rattle.pict_code.proofs.Levels.{frame_has, frame_rises, same_levels}
use Rattle.pict_code.specs.Nodes.{Place}
use Rattle.pict_lower.specs.Parts.{parts, frame_at, frame_of_option, in_operands}

-- below n, what occurs in a part is in its frame
in_part : (n m level : ℕ) (p : Process) → n ≤ m → nat_lt level n ≡ true → has level (frame_of m p) ≡ occurs level p
in_part n m level p more below =
    let test : nat_lt level m ≡ true = grind (arith, nat_tests) in
    frame_has m p level ∙ ap (λ b. b && occurs level p) test

or_none : (a : Bool) → a || (false || false) ≡ a
or_none true = refl
or_none false = refl

or_first : (a : Bool) → a ≡ a || false
or_first true = refl
or_first false = refl

-- below n, what occurs in a process occurs in its operands or is in the frame of a part
in_one_of : (n level : ℕ) (p : Process) → nat_lt level n ≡ true
    → in_operands level p || (has level (frame_at (parts n p) 0) || has level (frame_at (parts n p) 1)) ≡ occurs level p
in_one_of n level Zero below = refl
in_one_of n level (Par p q) below = ap (λ b. b || has level (frame_of n q)) (in_part n n level p (omega arith) below) ∙ ap (λ b. occurs level p || b) (in_part n n level q (omega arith) below)
in_one_of n level (New p) below = ap (λ b. b || false) (in_part n (n + 1) level p (omega arith) below) ∙ sym (or_first (occurs level p))
in_one_of n level (Out chan message at) below = or_none (in_value level chan || in_value level message)
in_one_of n level (In chan replicated pattern body) below =
    ap (λ b. in_value level chan || (b || false)) (in_part n (n + binds pattern) level body (omega arith) below) ∙ ap (λ b. in_value level chan || b) (sym (or_first (occurs level body)))
in_one_of n level (If test p q) below =
    ap (λ b. in_value level test || (b || has level (frame_of n q))) (in_part n n level p (omega arith) below)
    ∙ ap (λ b. in_value level test || (occurs level p || b)) (in_part n n level q (omega arith) below)

cut_each : (a x y z o : Bool) → (a ≡ true → x || (y || z) ≡ o) → (a && x) || ((a && y) || (a && z)) ≡ a && o
cut_each true x y z o h = h refl
cut_each false x y z o h = refl

-- a list in order with the levels below n of the operands and of the parts' frames is the frame
pub is_frame : (n : ℕ) (p : Process) (levels : List ℕ) → Rises 0 levels
    → ((level : ℕ) → has level levels ≡ (nat_lt level n && in_operands level p) || ((nat_lt level n && has level (frame_at (parts n p) 0)) || (nat_lt level n && has level (frame_at (parts n p) 1))))
    → levels ≡ frame_of n p
is_frame n p levels rises same =
    same_levels 0 levels (frame_of n p) rises (frame_rises n p)
    (λ level. same level
    ∙ cut_each (nat_lt level n) (in_operands level p) (has level (frame_at (parts n p) 0)) (has level (frame_at (parts n p) 1)) (occurs level p) (in_one_of n level p)
    ∙ sym (frame_has n p level))

option_rises : (q : Option Place) → Rises 0 (frame_of_option q)
option_rises None = tt
option_rises (Some q) = frame_rises q.around q.process

-- the frames of parts are in order
pub frame_at_rises : (n : ℕ) (p : Process) (i : ℕ) → Rises 0 (frame_at (parts n p) i)
frame_at_rises n p i = option_rises (slice_get (parts n p) i)

-- ---- what is made of the parts' frames, cut at n, and of the operands

parts_has : (n : ℕ) (p : Process) (first second left right union : List ℕ) → first ≡ frame_at (parts n p) 0 → second ≡ frame_at (parts n p) 1
    → ((level : ℕ) → has level left ≡ nat_lt level n && has level first) → ((level : ℕ) → has level right ≡ nat_lt level n && has level second)
    → ((level : ℕ) → has level union ≡ has level left || has level right)
    → (level : ℕ) → has level union ≡ (nat_lt level n && has level (frame_at (parts n p) 0)) || (nat_lt level n && has level (frame_at (parts n p) 1))
parts_has n p first second left right union e f l r u level =
    u level ∙ ap (λ b. b || has level right) (l level ∙ ap (λ x. nat_lt level n && has level x) e)
    ∙ ap (λ b. (nat_lt level n && has level (frame_at (parts n p) 0)) || b) (r level ∙ ap (λ x. nat_lt level n && has level x) f)

and_none : (a : Bool) → false ≡ a && false
and_none true = refl
and_none false = refl

-- without variables in the operands
pub without_operands : (n : ℕ) (p : Process) (first second left right union none raw : List ℕ) → first ≡ frame_at (parts n p) 0 → second ≡ frame_at (parts n p) 1
    → ((level : ℕ) → has level left ≡ nat_lt level n && has level first) → ((level : ℕ) → has level right ≡ nat_lt level n && has level second)
    → ((level : ℕ) → has level union ≡ has level left || has level right) → Rises 0 union
    → none ≡ [] → ((level : ℕ) → has level raw ≡ has level none || in_operands level p) → (length raw == 0) ≡ true → union ≡ frame_of n p
without_operands n p first second left right union none raw e f l r u rises empty operands done =
    let is : raw ≡ [] = nil_from_length raw (grind (arith, nat_tests)) in
    is_frame n p union rises
    (λ level.
    let nothing : in_operands level p ≡ false = sym (ap (λ x. has level x || in_operands level p) empty) ∙ sym (operands level) ∙ ap (has level) is in
    parts_has n p first second left right union e f l r u level
    ∙ ap (λ b. b || ((nat_lt level n && has level (frame_at (parts n p) 0)) || (nat_lt level n && has level (frame_at (parts n p) 1)))) (and_none (nat_lt level n) ∙ ap (λ b. nat_lt level n && b) (sym nothing)))

-- with them in order, each once, and cut at n
pub with_operands : (n : ℕ) (p : Process) (first second left right union none raw ordered lent cut whole : List ℕ) → first ≡ frame_at (parts n p) 0 → second ≡ frame_at (parts n p) 1
    → ((level : ℕ) → has level left ≡ nat_lt level n && has level first) → ((level : ℕ) → has level right ≡ nat_lt level n && has level second)
    → ((level : ℕ) → has level union ≡ has level left || has level right)
    → none ≡ [] → ((level : ℕ) → has level raw ≡ has level none || in_operands level p) → ((level : ℕ) → has level ordered ≡ has level raw) → lent ≡ ordered
    → ((level : ℕ) → has level cut ≡ nat_lt level n && has level lent) → Rises 0 whole → ((level : ℕ) → has level whole ≡ has level cut || has level union) → whole ≡ frame_of n p
with_operands n p first second left right union none raw ordered lent cut whole e f l r u empty operands same is below rises both =
    is_frame n p whole rises
    (λ level.
    let own : has level lent ≡ in_operands level p = ap (has level) is ∙ same level ∙ operands level ∙ ap (λ x. has level x || in_operands level p) empty in
    both level ∙ ap (λ b. b || has level union) (below level ∙ ap (λ b. nat_lt level n && b) own)
    ∙ ap (λ b. (nat_lt level n && in_operands level p) || b) (parts_has n p first second left right union e f l r u level))
