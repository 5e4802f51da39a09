-- The core process of an accepted file has an object.
use Rattle.std.proofs.Common.{◌≡◌, ℕ, suc, ◌+◌, ◌<◌, ◌≤◌, List, [], ◌∷◌, ◌++◌, length, get_or, drop, inl, inr, refl, sym, ◌∙◌, ap, subst, arith, take-append-drop, length-append}
use Rattle.std.specs.List.{AllByRecursion}
use Rattle.std.proofs.lemmas.Bool.{cases_lt}
use Rattle.std.proofs.lemmas.List.{get_or-append-add}
use Rattle.pict_syntax.specs.declared.limits.TheConstants.{NESTING_LIMIT}
use Rattle.pict_syntax.specs.declared.source.Source.{Source}
use Rattle.pict_syntax.specs.declared.tree.Import.{Import}
use Rattle.pict_syntax.specs.declared.token.Token.{Token}
use Rattle.pict_syntax.specs.Names.{text_of}
use Rattle.pict_syntax.specs.Trees.{Decs, no_decs, more_decs}
use Rattle.pict_syntax.specs.Nesting.{decs_nest, dec_nest}
use Rattle.pict_syntax.specs.Cuts.{tokens_of}
use Rattle.pict_syntax.specs.Programs.{Program, AreImports, imports_nest, programs}
use Rattle.pict_syntax.specs.Verdicts.{IsShallowBefore}
use Rattle.pict_automaton.specs.Places.{State}
use Rattle.pict_automaton.specs.Machine.{start, step}
use Rattle.pict_automaton.proofs.Nestings.{run_nests, nestings_run}
use Rattle.pict_core.specs.Term.{Val, Vals, Labelled, Var, Chan, Int, Char, Boolean, Text, PrimitiveVal, Record, no_vals, more_vals, no_labelled, more_labelled, Process, Zero, Par, New, Out, In, If}
use Rattle.pict_scope.proofs.LabelsScoped.{scoped_distinct}
use Rattle.pict_translation.specs.Translation.{program_core}
use Rattle.pict_translation.proofs.ClosedLemmas.{program_closed}
use Rattle.pict_translation.proofs.NestLemmas.{program_nests}
use Rattle.pict_trace.specs.Ordered.{IsOrdered, AreOrdered, LabelsRise, IsOrderedProcess}
use Rattle.pict_object.specs.Objects.{labels_of, labels_of_value, labels_of_values, labels_of_labelled, labels_of_pattern}
use Rattle.pict_object.specs.Cores.{RiseAfter, Rise, field_labels, IsRising, AreRising, FieldsAreRising, LabelsRise as EachRises, IsLabelText, ComesBefore, IsObjectCore}
use Rattle.pict_object.proofs.Lists.{all_both, all_split}
use Rattle.pict_gather.specs.Fetching.{MayGive}
use Rattle.pict_gather.specs.Gathered.{Gathered, behind}
use Rattle.pict_gather.proofs.Holding.{read_by, IsOfTexts, reached_holds}
use Rattle.pict_front.specs.Front.{Front}
use Rattle.pict_front.specs.Laws.{AcceptedHasObject}
use Rattle.pict_front.proofs.TypedPrograms.{gathered}
use Rattle.pict_front.proofs.Ordering.{program_ordered}
use Rattle.pict_front.proofs.PatternOrder.{AreIdentifiers, PatternsAreOrdered, patterns_ordered}
use Rattle.pict_front.proofs.InOrder.{gathered_labels, gathered_distinct}

-- ---- values whose labels are in order

module _ (names : List (List ℕ)) where
  abbrev IsText : ℕ → Type 0
  IsText label = IsLabelText (text_of names label)

  rise_after : (l : ℕ) (ls : Labelled) → LabelsRise names (text_of names l) ls → RiseAfter (ComesBefore names) l (field_labels ls)
  rise_after l no_labelled h = tt
  rise_after l (more_labelled m v ls) h = (h.1, rise_after m ls h.3)

  rise : (before : List ℕ) (ls : Labelled) → LabelsRise names before ls → Rise (ComesBefore names) (field_labels ls)
  rise before no_labelled h = tt
  rise before (more_labelled m v ls) h = rise_after m ls h.3

  mutual
    value : (v : Val) → IsOrdered names v → AreIdentifiers names (labels_of_value v) × IsRising (ComesBefore names) v
    value (Var x) h = (tt, tt)
    value (Chan x) h = (tt, tt)
    value (Int x) h = (tt, tt)
    value (Char x) h = (tt, tt)
    value (Boolean x) h = (tt, tt)
    value (Text x) h = (tt, tt)
    value (PrimitiveVal x) h = (tt, tt)
    value (Record vs ls) h =
        let a = values vs h.0 in
        let b = labelled [] ls h.1 in
        (all_both IsText (labels_of_values vs) (labels_of_labelled ls) a.0 b.0, (a.1, b.1, rise [] ls h.1))

    values : (vs : Vals) → AreOrdered names vs → AreIdentifiers names (labels_of_values vs) × AreRising (ComesBefore names) vs
    values no_vals h = (tt, tt)
    values (more_vals v vs) h =
        let a = value v h.0 in
        let b = values vs h.1 in
        (all_both IsText (labels_of_value v) (labels_of_values vs) a.0 b.0, (a.1, b.1))

    labelled : (before : List ℕ) (ls : Labelled) → LabelsRise names before ls → AreIdentifiers names (labels_of_labelled ls) × FieldsAreRising (ComesBefore names) ls
    labelled before no_labelled h = (tt, tt)
    labelled before (more_labelled l v ls) h =
        let a = value v h.2 in
        let b = labelled (text_of names l) ls h.3 in
        (((refl, h.0.0, h.0.1), all_both IsText (labels_of_value v) (labels_of_labelled ls) a.0 b.0), (a.1, b.1))

  process : (p : Process) → IsOrderedProcess names p → PatternsAreOrdered names p → AreIdentifiers names (labels_of p) × EachRises (ComesBefore names) p
  process Zero h k = (tt, tt)
  process (Par p q) h k =
      let a = process p h.0 k.0 in
      let b = process q h.1 k.1 in
      (all_both IsText (labels_of p) (labels_of q) a.0 b.0, (a.1, b.1))
  process (New p) h k = process p h k
  process (Out chan message at) h k =
      let a = value chan h.0 in
      let b = value message h.1 in
      (all_both IsText (labels_of_value chan) (labels_of_value message) a.0 b.0, (a.1, b.1))
  process (In chan replicated pattern body) h k =
      let a = value chan h.0 in
      let b = process body h.1 k.1 in
      (all_both IsText (labels_of_value chan) (labels_of_pattern pattern ++ labels_of body) a.0 (all_both IsText (labels_of_pattern pattern) (labels_of body) k.0.1 b.0), (a.1, k.0.0, b.1))
  process (If test p q) h k =
      let a = value test h.0 in
      let b = process p h.1 k.0 in
      let c = process q h.2 k.1 in
      (all_both IsText (labels_of_value test) (labels_of p ++ labels_of q) a.0 (all_both IsText (labels_of p) (labels_of q) b.0 c.0), (a.1, b.1, c.1))

-- ---- nestings

-- each is within the limit
abbrev AreShallow : List ℕ → Type 0
AreShallow ns = AllByRecursion (λ n. n ≤ NESTING_LIMIT) ns

each_shallow : (ns : List ℕ) → ((i : ℕ) → i < length ns → get_or ns i 0 ≤ NESTING_LIMIT) → AreShallow ns
each_shallow [] h = tt
each_shallow (n ∷ ns) h = (h 0 (omega arith), each_shallow ns (λ i less. h (suc i) (omega (arith, less))))

many_nests : (x : State) (ts : List Token) → length (run_nests x ts) ≡ length ts
many_nests x [] = refl
many_nests x (t ∷ ts) = ap suc (many_nests (step t.kind t.span x) ts)

-- each token of an import has its nesting
many_imports : (xs : List Import) (ts : List Token) → AreImports xs ts → length (imports_nest xs) ≡ length ts
unfolding imports_nest AreImports
many_imports [] ts is = ap length (sym is)
many_imports (x ∷ xs) ts (us, vs, is, (ks, ls, e, (i, k), l), others) =
    let two : length us ≡ 2 = omega (arith, ap length e, length-append ks ls, ap length k, ap length l) in
    omega (arith, two, ap length is, length-append us vs, many_imports xs vs others)

shallow_program : (ts : List Token) (p : Program) → programs.tree ts p → IsShallowBefore programs ts (length ts) → AreShallow (decs_nest 0 p.decs)
shallow_program ts p (us, vs, is, imports, decs) shallow = each_shallow (decs_nest 0 p.decs) (λ i less.
    let head : length (imports_nest p.imports) ≡ length us = many_imports p.imports us imports in
    let many : length (decs_nest 0 p.decs) ≡ length vs = ap length (nestings_run vs p.decs decs) ∙ many_nests start vs in
    let place : ℕ = length us + i in
    let within : place < length ts = omega (arith, less, many, ap length is, length-append us vs) in
    let there : get_or (imports_nest p.imports ++ decs_nest 0 p.decs) place 0 ≡ get_or (decs_nest 0 p.decs) i 0 =
    ap (λ n. get_or (imports_nest p.imports ++ decs_nest 0 p.decs) (n + i) 0) (sym head) ∙ get_or-append-add (imports_nest p.imports) (decs_nest 0 p.decs) i 0 in
    let whole : programs.tree ts p = (us, vs, is, imports, decs) in
    elim (cases_lt NESTING_LIMIT (get_or (decs_nest 0 p.decs) i 0)) [
      | inl deep ↦ absurd (shallow place within (within, drop (place + 1) ts, p, subst (λ ws. programs.tree ws p) (sym (take-append-drop (place + 1) ts)) whole, subst (λ n. NESTING_LIMIT < n) (sym there) deep))
      | inr low ↦ low
    ])

behind_shallow : (first ds : Decs) → AreShallow (decs_nest 0 first) → AreShallow (decs_nest 0 ds) → AreShallow (decs_nest 0 (behind first ds))
unfolding decs_nest
behind_shallow first no_decs a b = a
behind_shallow first (more_decs ds d) a b =
    let parts = all_split (λ n. n ≤ NESTING_LIMIT) (decs_nest 0 ds) (dec_nest 0 d) b in
    all_both (λ n. n ≤ NESTING_LIMIT) (decs_nest 0 (behind first ds)) (dec_nest 0 d) (behind_shallow first ds a parts.0) parts.1

none_shallow : AreShallow (decs_nest 0 no_decs)
unfolding decs_nest
none_shallow = tt

-- so it is with all texts that are read
abbrev Shallow : List Source → List (List ℕ) → Decs → Type 0
Shallow sources names ds = AreShallow (decs_nest 0 ds)

shallow_texts : IsOfTexts Shallow
shallow_texts = record {
  grows = λ ss more names others ds h. h;
  joins = λ ss names ds es a b. behind_shallow ds es a b;
  reads = λ ss names name t r reads.
      let by = read_by names (length ss) t r reads in
      shallow_program (tokens_of r.names (length ss) 0 by.0) r.program by.1.parsed.tree by.1.parsed.shallow;
}

-- ---- the law

pub accepted_has_object : AcceptedHasObject
accepted_has_object held prelude file a front =
    let read = gathered held prelude file a front in
    let g : Gathered = read.0 in
    let labels = gathered_labels held prelude file g read.1.reaches in
    let apart = gathered_distinct held prelude file g read.1.reaches in
    let shallow : AreShallow (decs_nest 0 g.decs) = reached_holds Shallow shallow_texts (MayGive held) prelude file g none_shallow read.1.reaches in
    let j = read.1.judged_as in
    let distinct = scoped_distinct g.names g.decs j.scoped in
    let each = process g.names (program_core g.names g.decs) (program_ordered g.names apart g.decs labels distinct) (patterns_ordered g.names apart g.decs labels distinct) in
    let P : Front → Type 0 = λ f. IsObjectCore f.names f.core in
    subst P j.is (record {
      closed = program_closed g.names g.decs distinct;
      shallow = j.shallow;
      nests = program_nests g.names g.decs NESTING_LIMIT (omega arith) shallow;
      identifiers = each.0;
      rising = each.1;
    })
