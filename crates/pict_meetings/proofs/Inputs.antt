-- The input of a node: what it stands for, where its part stands, and the levels that its pattern binds.
use Rattle.std.proofs.Common.{ℕ, suc, ◌+◌, ◌<◌, ◌≤◌, ◌≡◌, ◌==◌, ◌||◌, ◌&&◌, Bool, true, false, nat_lt, List, [], ◌∷◌, ◌++◌, length, refl, sym, ap, ◌∙◌, subst, arith, Some}
use Rattle.std.proofs.lemmas.Bool.Decides.{nat_tests}
use Rattle.std.proofs.lemmas.Option.{slice_get_within}
use Rattle.std.specs.List.{AllByRecursion, slice_get}
use Rattle.pict_core.specs.Closed.{binds, binds_all, binds_labelled}
use Rattle.pict_core.specs.Substitution.{replace, replace_value}
use Rattle.pict_core.specs.Term as term
use Rattle.pict_core.specs.Term.{Val, Pat, Pats, LabelledPats, Process, In}
use Rattle.pict_code.specs.Frames.{frame_of, occurs}
use Rattle.pict_code.specs.Instruction.{CodePat, Node}
use Rattle.pict_code.specs.Levels.{has, Rises}
use Rattle.pict_code.specs.Nodes.{place, places, node_of, nodes_of, input_op, leveled, leveled_all, leveled_labelled}
use Rattle.pict_code.specs.Standing.{closing, value_at}
use Rattle.pict_code.proofs.Levels.{frame_has}
use Rattle.pict_code.proofs.Numbering.{PlacedAt, in_placed}
use Rattle.pict_heap.specs.HeapState.{HeapState}
use Rattle.pict_desk.specs.Binding.{levels_of, levels_of_all, levels_of_labelled}
use Rattle.pict_blocks.specs.Blocks.{frame_values, node_process, process_of}
use Rattle.pict_desk.specs.Known.{value_in}
use Rattle.pict_desk.proofs.Nodes.{part_of, op_is}
use Rattle.pict_blocks.proofs.Meeting.{is_input}
use Rattle.pict_desk.proofs.Parts.{placed_at}
use Rattle.pict_turns.specs.Acting.{IsStore}
use Rattle.pict_turns.specs.Views.{IsInputAt}
use Rattle.pict_turns.specs.declared.store.Store.{Store}
use Rattle.pict_desk.proofs.Numbered.{place_low, part_node}

-- ---- what a block of an input stands for, whatever values it holds

pub record IsIn (core : Process) (h : HeapState) (words : List ℕ) : Type 0 where
  pub chan : Val
  pub replicated : Bool
  pub pattern : Pat
  pub body : Process
  pub is : process_of core (value_in h) words ≡ In chan replicated pattern body

pub input_stands : (core : Process) (h : HeapState) (number : ℕ) (held : List ℕ) → IsInputAt core number → IsIn core h (suc number ∷ held)
input_stands core h number held i =
    let p = part_of core number i.node i.at in
    let form = is_input number p.0.around i.chan i.replicated i.pattern i.part p.0.process (op_is core number i.node p.0 (input_op i.replicated i.chan i.pattern i.part) p.1 i.is) in
    let vs : List Val = frame_values (value_in h) (length (frame_of p.0.around p.0.process)) held in
    let values = closing p.0.around (value_at (frame_of p.0.around p.0.process) vs) in
    record {
      chan = replace_value values i.chan;
      replicated = i.replicated;
      pattern = form.pattern;
      body = replace values form.body;
      is = ap (node_process (value_in h) held) p.1.at ∙ ap (replace values) form.is;
    }

-- ---- where its part stands

-- the part of an input, under the variables of its pattern
pub record HasPart (core : Process) (pattern : CodePat) (part : ℕ) : Type 0 where
  pub around : ℕ
  pub form : Pat
  pub body : Process
  pub pattern_is : pattern ≡ leveled around form
  pub placed : PlacedAt core part (around + binds form) body

pub has_part : (core : Process) (number part : ℕ) (node : Node) (replicated : Bool) (chan : Val) (pattern : CodePat) → slice_get (nodes_of core) number ≡ Some node
    → node.op ≡ input_op replicated chan pattern part → HasPart core pattern part
has_part core number part node replicated chan pattern at o =
    let p = part_of core number node at in
    let n = p.0.around in
    let form = is_input number n chan replicated pattern part p.0.process (op_is core number node p.0 (input_op replicated chan pattern part) p.1 o) in
    let placed = in_placed core number n chan replicated form.pattern form.body (subst (λ x. PlacedAt core number n x) form.is p.1.placed) in
    record {
      around = n;
      form = form.pattern;
      body = form.body;
      pattern_is = form.pattern_is;
      placed = subst (λ k. PlacedAt core k (n + binds form.pattern) form.body) (sym form.part_is) placed;
    }

-- ---- the levels that its pattern binds

-- the levels increase from the first number on, and stay below the second
abbrev Spans : ℕ → List ℕ → ℕ → Type 0
Spans a [] b = a ≤ b
Spans a (l ∷ ls) b = (a ≤ l) × Spans (l + 1) ls b

spans_from : (a b c : ℕ) (ls : List ℕ) → a ≤ b → Spans b ls c → Spans a ls c
spans_from a b c [] h s = omega arith
spans_from a b c (l ∷ ls) h s = (omega (arith, h, s.0), s.1)

spans_both : (a b c : ℕ) (xs ys : List ℕ) → Spans a xs b → Spans b ys c → Spans a (xs ++ ys) c
spans_both a b c [] ys s t = spans_from a b c ys s t
spans_both a b c (x ∷ xs) ys s t = (s.0, spans_both (x + 1) b c xs ys s.1 t)

mutual
  spans_leveled : (n : ℕ) (p : Pat) → Spans n (levels_of (leveled n p)) (n + binds p)
  spans_leveled n term.Bind = (omega arith, omega arith)
  spans_leveled n term.Any = omega arith
  spans_leveled n (term.RecordPat ps ls) =
      let e : n + binds_all ps + binds_labelled ls ≡ n + (binds_all ps + binds_labelled ls) = omega arith in
      subst (Spans n (levels_of_all (leveled_all n ps) ++ levels_of_labelled (leveled_labelled (n + binds_all ps) ls))) e
      (spans_both n (n + binds_all ps) (n + binds_all ps + binds_labelled ls) (levels_of_all (leveled_all n ps)) (levels_of_labelled (leveled_labelled (n + binds_all ps) ls))
      (spans_all n ps) (spans_labelled (n + binds_all ps) ls))

  spans_all : (n : ℕ) (ps : Pats) → Spans n (levels_of_all (leveled_all n ps)) (n + binds_all ps)
  spans_all n term.no_pats = omega arith
  spans_all n (term.more_pats p ps) =
      let e : n + binds p + binds_all ps ≡ n + (binds p + binds_all ps) = omega arith in
      subst (Spans n (levels_of (leveled n p) ++ levels_of_all (leveled_all (n + binds p) ps))) e
      (spans_both n (n + binds p) (n + binds p + binds_all ps) (levels_of (leveled n p)) (levels_of_all (leveled_all (n + binds p) ps)) (spans_leveled n p) (spans_all (n + binds p) ps))

  spans_labelled : (n : ℕ) (ls : LabelledPats) → Spans n (levels_of_labelled (leveled_labelled n ls)) (n + binds_labelled ls)
  spans_labelled n term.no_labelled_pats = omega arith
  spans_labelled n (term.more_labelled_pats label p ls) =
      let e : n + binds p + binds_labelled ls ≡ n + (binds p + binds_labelled ls) = omega arith in
      subst (Spans n (levels_of (leveled n p) ++ levels_of_labelled (leveled_labelled (n + binds p) ls))) e
      (spans_both n (n + binds p) (n + binds p + binds_labelled ls) (levels_of (leveled n p)) (levels_of_labelled (leveled_labelled (n + binds p) ls)) (spans_leveled n p) (spans_labelled (n + binds p) ls))

spans_rise : (low a b : ℕ) (ls : List ℕ) → low ≤ a → Spans a ls b → Rises low ls
spans_rise low a b [] h s = tt
spans_rise low a b (l ∷ ls) h s = (omega (arith, h, s.0), spans_rise (l + 1) (l + 1) b ls (omega arith) s.1)

spans_end : (a b : ℕ) (ls : List ℕ) → Spans a ls b → a ≤ b
spans_end a b [] s = s
spans_end a b (l ∷ ls) s = omega (arith, s.0, spans_end (l + 1) b ls s.1)

spans_below : (a b n : ℕ) (ls : List ℕ) → b ≤ n → Spans a ls b → AllByRecursion (λ level. level < n) ls
spans_below a b n [] h s = tt
spans_below a b n (l ∷ ls) h s = (omega (arith, h, spans_end (l + 1) b ls s.1), spans_below (l + 1) b n ls h s.1)

-- no level of its own frame is among them: those are of variables around it
before_span : (level a b : ℕ) (ls : List ℕ) → level < a → Spans a ls b → has level ls ≡ false
before_span level a b [] h s = refl
before_span level a b (l ∷ ls) h s =
    let low : level < l = omega (arith, h, s.0) in
    let apart : (level == l) ≡ false = grind (arith, nat_tests) in
    ap (λ x. x || has level ls) apart ∙ before_span level (l + 1) b ls (omega (arith, low)) s.1

around_low : (level n : ℕ) (low occurs_there : Bool) → nat_lt level n ≡ low → low && occurs_there ≡ true → level < n
around_low level n true t e h = grind (arith, nat_tests)
around_low level n false t e h = cc

pub frame_apart : (core : Process) (number part : ℕ) (node : Node) (replicated : Bool) (chan : Val) (pattern : CodePat) → slice_get (nodes_of core) number ≡ Some node
    → node.op ≡ input_op replicated chan pattern part → (level : ℕ) → has level node.frame ≡ true → has level (levels_of pattern) ≡ false
frame_apart core number part node replicated chan pattern at o level there =
    let p = part_of core number node at in
    let n = p.0.around in
    let form = is_input number n chan replicated pattern part p.0.process (op_is core number node p.0 (input_op replicated chan pattern part) p.1 o) in
    let frame : frame_of n p.0.process ≡ node.frame = ap (λ (x : Node). x.frame) p.1.node_is in
    let low = around_low level n (nat_lt level n) (occurs level p.0.process) refl (sym (frame_has n p.0.process level) ∙ ap (has level) frame ∙ there) in
    ap (λ q. has level (levels_of q)) form.pattern_is ∙ before_span level n (n + binds form.pattern) (levels_of (leveled n form.pattern)) low (spans_leveled n form.pattern)

module _ (core : Process) (pattern : CodePat) (part : ℕ) (p : HasPart core pattern part) where
  pub pattern_rises : Rises 0 (levels_of pattern)
  pattern_rises = subst (λ q. Rises 0 (levels_of q)) (sym p.pattern_is) (spans_rise 0 p.around (p.around + binds p.form) (levels_of (leveled p.around p.form)) (omega arith) (spans_leveled p.around p.form))

  -- its levels have places
  pub pattern_inside : (s : Store) → IsStore core s → AllByRecursion (λ level. level < length s.desk.values.items) (levels_of pattern)
  pattern_inside s store =
      let low = place_low (length s.desk.values.items) (places 0 core) part (place (p.around + binds p.form) p.body) store.levels (placed_at core part (p.around + binds p.form) p.body p.placed) in
      subst (λ q. AllByRecursion (λ level. level < length s.desk.values.items) (levels_of q)) (sym p.pattern_is)
      (spans_below p.around (p.around + binds p.form) (length s.desk.values.items) (levels_of (leveled p.around p.form)) low (spans_leveled p.around p.form))

  -- its part is a node
  pub part_inside : part < length (nodes_of core)
  part_inside =
      let n = p.around + binds p.form in
      slice_get_within (nodes_of core) part (node_of part (place n p.body)) (part_node core part n p.body p.placed)
