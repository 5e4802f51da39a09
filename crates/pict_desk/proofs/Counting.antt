-- No part of a process has more variables around it than the levels that its code binds.
use Rattle.std.proofs.Common.{ℕ, suc, ◌+◌, ◌<◌, ◌≤◌, ◌≡◌, max, Bool, true, false, List, [], ◌∷◌, ◌++◌, length, map, drop, get_or, refl, ap, ◌∙◌, arith}
use Rattle.std.specs.List.{AllByRecursion}
use Rattle.pict_syntax.specs.declared.name.Name.{Name}
use Rattle.pict_core.specs.Term as term
use Rattle.pict_core.specs.Term.{Val, Pat, Pats, LabelledPats, Process, Zero, Par, New, Out, In, If}
use Rattle.pict_core.specs.Closed.{binds, binds_all, binds_labelled}
use Rattle.pict_code.specs.Instruction.{CodePat, Node}
use Rattle.pict_code.specs.Nodes.{Place, places, nodes_from, nodes_of, input_op, leveled, leveled_all, leveled_labelled}
use Rattle.pict_code.specs.Plain.{plain_pat, plain_pat_field, pats_of, labelled_pats_of}
use Rattle.pict_code.specs.declared.pattern.CodePat as code
use Rattle.pict_desk.specs.Binding.{levels_of, levels_of_all, levels_of_labelled}
use Rattle.pict_desk.proofs.Fitting.{pats_from, labelled_from}
use Rattle.pict_desk.specs.Levels.{past, bound_by, levels_in}

pub past_append : (xs ys : List ℕ) → past (xs ++ ys) ≡ max (past xs) (past ys)
past_append [] ys = omega arith
past_append (x ∷ xs) ys = omega (arith, past_append xs ys)

-- ---- what a pattern binds

mutual
  past_leveled : (n most : ℕ) (p : Pat) → n ≤ most → past (levels_of (leveled n p)) ≤ most → n + binds p ≤ most
  past_leveled n most term.Bind low h = omega (arith, h)
  past_leveled n most term.Any low h = omega (arith, low)
  past_leveled n most (term.RecordPat ps ls) low h =
      let both = past_append (levels_of_all (leveled_all n ps)) (levels_of_labelled (leveled_labelled (n + binds_all ps) ls)) in
      let first = past_all n most ps low (omega (arith, h, both)) in
      let second = past_labelled (n + binds_all ps) most ls first (omega (arith, h, both)) in
      omega (arith, second)

  past_all : (n most : ℕ) (ps : Pats) → n ≤ most → past (levels_of_all (leveled_all n ps)) ≤ most → n + binds_all ps ≤ most
  past_all n most term.no_pats low h = omega (arith, low)
  past_all n most (term.more_pats p ps) low h =
      let both = past_append (levels_of (leveled n p)) (levels_of_all (leveled_all (n + binds p) ps)) in
      let first = past_leveled n most p low (omega (arith, h, both)) in
      let second = past_all (n + binds p) most ps first (omega (arith, h, both)) in
      omega (arith, second)

  past_labelled : (n most : ℕ) (ls : LabelledPats) → n ≤ most → past (levels_of_labelled (leveled_labelled n ls)) ≤ most → n + binds_labelled ls ≤ most
  past_labelled n most term.no_labelled_pats low h = omega (arith, low)
  past_labelled n most (term.more_labelled_pats label p ls) low h =
      let both = past_append (levels_of (leveled n p)) (levels_of_labelled (leveled_labelled (n + binds p) ls)) in
      let first = past_leveled n most p low (omega (arith, h, both)) in
      let second = past_labelled (n + binds p) most ls first (omega (arith, h, both)) in
      omega (arith, second)

-- ---- the parts of a process

front_few : (xs ys : List Place) (number most : ℕ) → levels_in (nodes_from number (xs ++ ys)) ≤ most → levels_in (nodes_from number xs) ≤ most
front_few [] ys number most h = omega arith
front_few (x ∷ xs) ys number most h = let rest = front_few xs ys (suc number) most (omega (arith, h)) in omega (arith, h, rest)

back_few : (xs ys : List Place) (number most : ℕ) → levels_in (nodes_from number (xs ++ ys)) ≤ most → (later : ℕ) × (levels_in (nodes_from later ys) ≤ most)
back_few [] ys number most h = (number, h)
back_few (x ∷ xs) ys number most h = back_few xs ys (suc number) most (omega (arith, h))

all_both : (P : Place → Type 0) (xs ys : List Place) → AllByRecursion P xs → AllByRecursion P ys → AllByRecursion P (xs ++ ys)
all_both P [] ys a b = b
all_both P (x ∷ xs) ys a b = (a.0, all_both P xs ys a.1 b)

input_binds : (replicated : Bool) (chan : Val) (pattern : CodePat) (part : ℕ) → bound_by (input_op replicated chan pattern part) ≡ levels_of pattern
input_binds true chan pattern part = refl
input_binds false chan pattern part = refl

few_around : (most number n : ℕ) (p : Process) → n ≤ most → levels_in (nodes_from number (places n p)) ≤ most → AllByRecursion (λ (q : Place). q.around ≤ most) (places n p)
few_around most number n Zero low h = (low, tt)
few_around most number n (Par p q) low h =
    let rest : levels_in (nodes_from (suc number) (places n p ++ places n q)) ≤ most = omega (arith, h) in
    let back = back_few (places n p) (places n q) (suc number) most rest in
    (low, all_both _ (places n p) (places n q) (few_around most (suc number) n p low (front_few (places n p) (places n q) (suc number) most rest)) (few_around most back.0 n q low back.1))
few_around most number n (New p) low h = (low, few_around most (suc number) (n + 1) p (omega (arith, h)) (omega (arith, h)))
few_around most number n (Out chan message at) low h = (low, tt)
few_around most number n (In chan replicated pattern body) low h =
    let own : past (levels_of (leveled n pattern)) ≤ most = omega (arith, h, ap past (input_binds replicated chan (leveled n pattern) (number + 1))) in
    (low, few_around most (suc number) (n + binds pattern) body (past_leveled n most pattern low own) (omega (arith, h)))
few_around most number n (If test p q) low h =
    let rest : levels_in (nodes_from (suc number) (places n p ++ places n q)) ≤ most = omega (arith, h) in
    let back = back_few (places n p) (places n q) (suc number) most rest in
    (low, all_both _ (places n p) (places n q) (few_around most (suc number) n p low (front_few (places n p) (places n q) (suc number) most rest)) (few_around most back.0 n q low back.1))

-- a place for each level that the code binds is enough for each part
pub places_enough : (core : Process) (nodes : List Node) (count : ℕ) → nodes_of core ≡ nodes → count ≡ levels_in nodes → AllByRecursion (λ (q : Place). q.around ≤ count) (places 0 core)
places_enough core nodes count is many =
    let few : levels_in (nodes_of core) ≤ count = omega (arith, ap levels_in is, many) in
    few_around count 0 0 core (omega arith) few

-- ---- loops

pub fields_past : (patterns : List code.CodePat) (i : ℕ) (p : code.CodePat) → i < length patterns → p ≡ get_or patterns i p
    → past (levels_of_all (pats_of (map plain_pat (drop i patterns)))) ≡ max (past (levels_of (plain_pat p))) (past (levels_of_all (pats_of (map plain_pat (drop (i + 1) patterns)))))
fields_past patterns i p h is = ap (λ ps. past (levels_of_all ps)) (pats_from patterns i p h is) ∙ past_append (levels_of (plain_pat p)) (levels_of_all (pats_of (map plain_pat (drop (i + 1) patterns))))

pub labelled_past : (patterns : List (Name × code.CodePat)) (i : ℕ) (p : Name × code.CodePat) → i < length patterns → p ≡ get_or patterns i p
    → past (levels_of_labelled (labelled_pats_of (map plain_pat_field (drop i patterns))))
    ≡ max (past (levels_of (plain_pat p.1))) (past (levels_of_labelled (labelled_pats_of (map plain_pat_field (drop (i + 1) patterns)))))
labelled_past patterns i p h is = ap (λ ps. past (levels_of_labelled ps)) (labelled_from patterns i p h is) ∙ past_append (levels_of (plain_pat p.1)) (levels_of_labelled (labelled_pats_of (map plain_pat_field (drop (i + 1) patterns))))
