-- How many variables are bound around the parts of a process.
use Rattle.std.proofs.Common.{◌≡◌, ℕ, zero, suc, ◌+◌, ◌≤◌, ◌-◌, ◌^◌, ◌<◌, min, inl, inr, Bool, Option, None, Some, IfSome, List, [], ◌∷◌, ◌++◌, map, length, Vec, Global, ap, sym, refl, ◌∙◌, arith}
use Rattle.std.specs.List.{sum_by}
use Rattle.std.proofs.lemmas.Bool.{cases_lt}
use Rattle.std.proofs.lemmas.List.{length-append}
use Rattle.std.proofs.lemmas.List.Sums.{sum_by-cons, sum_by-append, length-filter, count_by-le-length}
use Rattle.pict_core.specs.Closed.{binds}
use Rattle.pict_core.specs.Term.{Process, Val, Pat, Zero, Par, New, Out, In, If}
use Rattle.pict_core.specs.Term as term
use Rattle.pict_core.specs.Plain.{plain_pat, plain_pat_field, pats_of, labelled_pats_of}
use Rattle.pict_core.specs.declared.pattern.CorePat.{CorePat}
use Rattle.pict_core.specs.declared.pattern.CorePat.TheVariants as pattern
use Rattle.pict_core.proofs.Fields.{plain_pat-Fields}
use Rattle.pict_syntax.specs.declared.name.Name.{Name}
use Rattle.pict_code.specs.Frames.{frame_of, levels_below, occurs}
use Rattle.pict_code.specs.Instruction.{Node}
use Rattle.pict_code.specs.Nodes.{Place, place, places, nodes_from, node_of}
use Rattle.pict_exec.specs.Room.{bound_around, levels_in, FramesAreFew}

abbrev around : Place → ℕ
around part = part.around

pub of_two : (n : ℕ) (first : Place) (p q : Process) → sum_by around (first ∷ (places n p ++ places n q)) ≡ first.around + (bound_around n p + bound_around n q)
of_two n first p q = sum_by-cons around first (places n p ++ places n q) ∙ ap (λ k. first.around + k) (sum_by-append around (places n p) (places n q))

pub of_Par : (n : ℕ) (p q : Process) → bound_around n (Par p q) ≡ n + (bound_around n p + bound_around n q)
of_Par n p q = of_two n (place n (Par p q)) p q

pub of_If : (n : ℕ) (test : Val) (p q : Process) → bound_around n (If test p q) ≡ n + (bound_around n p + bound_around n q)
of_If n test p q = of_two n (place n (If test p q)) p q

pub of_New : (n : ℕ) (p : Process) → bound_around n (New p) ≡ n + bound_around (n + 1) p
of_New n p = sum_by-cons around (place n (New p)) (places (n + 1) p)

pub of_In : (n : ℕ) (chan : Val) (replicated : Bool) (pattern : Pat) (body : Process) → bound_around n (In chan replicated pattern body) ≡ n + bound_around (n + binds pattern) body
of_In n chan replicated pattern body = sum_by-cons around (place n (In chan replicated pattern body)) (places (n + binds pattern) body)

pub at_least : (n : ℕ) (p : Process) → n ≤ bound_around n p
at_least n Zero = omega arith
at_least n (Par p q) = omega (arith, of_Par n p q)
at_least n (New p) = omega (arith, of_New n p)
at_least n (Out chan message at) = omega arith
at_least n (In chan replicated pattern body) = omega (arith, of_In n chan replicated pattern body)
at_least n (If test p q) = omega (arith, of_If n test p q)

-- an input: its body is under the variables of its pattern too, of which none is lost where there is room
module _ (p body read : Process) (n inner left behind : ℕ) (chan : Val) (replicated : Bool) (pattern : Pat)
    (is : p ≡ In chan replicated pattern body) (same : read ≡ body) (inside : inner ≡ min (n + min (binds pattern) (2 ^ 64 - 1)) (2 ^ 64 - 1))
    (paid : behind + n ≡ left) (few : left < 2 ^ 63)
  where
    whole : bound_around n p ≡ n + bound_around (n + binds pattern) body
    whole = ap (bound_around n) is ∙ of_In n chan replicated pattern body

    there : bound_around inner read ≡ bound_around inner body
    there = ap (bound_around inner) same

    pub input_rest : (r : Option ℕ) → IfSome r (λ rest. rest + bound_around inner read ≡ behind) → IfSome r (λ rest. rest + bound_around n p ≡ left)
    input_rest None h = h
    input_rest (Some rest) h =
        let low = at_least inner body in
        let e : inner ≡ n + binds pattern = omega (arith, h, there, low, inside, paid, few) in
        let f : bound_around inner body ≡ bound_around (n + binds pattern) body = ap (λ k. bound_around k body) e in
        omega (arith, h, there, whole, f, paid)

    pub input_none : behind < bound_around inner read → left < bound_around n p
    input_none h = elim (cases_lt (n + binds pattern) (2 ^ 64 - 1)) [
      | inl few_inside ↦
          let e : inner ≡ n + binds pattern = omega (arith, inside, few_inside) in
          let f : bound_around inner body ≡ bound_around (n + binds pattern) body = ap (λ k. bound_around k body) e in
          omega (arith, h, there, whole, f, paid)
      | inr many ↦
          let low = at_least (n + binds pattern) body in
          omega (arith, many, low, whole, few)
    ]

-- frames have no more levels than there are variables around

many_below : (n : ℕ) → length (levels_below n) ≡ n
many_below zero = refl
many_below (suc n) = let e = many_below n in length-append (levels_below n) (n ∷ []) ∙ omega (arith, e)

narrow : (n : ℕ) (p : Process) → length (frame_of n p) ≤ n
narrow n p = omega (arith, many_below n, length-filter (λ level. occurs level p) (levels_below n), count_by-le-length (λ level. occurs level p) (levels_below n))

abbrev width : Node → ℕ
width node = length node.frame

of_parts : (number : ℕ) (ps : List Place) → levels_in (nodes_from number ps) ≤ sum_by around ps
of_parts number [] = omega arith
of_parts number (p ∷ ps) =
    let one = narrow p.around p.process in
    let rest = of_parts (suc number) ps in
    omega (arith, one, rest, sum_by-cons width (node_of number p) (nodes_from (suc number) ps), sum_by-cons around p ps)

pub frames_are_few : FramesAreFew
frames_are_few p = of_parts 0 (places 0 p)

-- ---- the parts of record patterns

pub pattern_fields_are : (v : CorePat) (p : Vec CorePat Global) (l : Vec (Name × CorePat) Global) (ps : List CorePat) (ls : List (Name × CorePat)) → v ≡ pattern.Fields p l
    → ps ≡ p.items → ls ≡ l.items → plain_pat v ≡ term.RecordPat (pats_of (map plain_pat ps)) (labelled_pats_of (map plain_pat_field ls))
pattern_fields_are v p l ps ls is e f =
    ap plain_pat is ∙ plain_pat-Fields p l ∙ ap (λ xs. term.RecordPat (pats_of (map plain_pat xs)) (labelled_pats_of (map plain_pat_field l.items))) (sym e)
    ∙ ap (λ xs. term.RecordPat (pats_of (map plain_pat ps)) (labelled_pats_of (map plain_pat_field xs))) (sym f)
