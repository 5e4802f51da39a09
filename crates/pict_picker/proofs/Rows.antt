-- What a node that acts does, by its instruction.
use Rattle.std.proofs.Common.{ℕ, ◌+◌, ◌-◌, ◌<◌, ◌≤◌, ◌≡◌, ◌≢◌, Bool, true, false, cond, nat_lt, List, [], ◌∷◌, length, map, refl, sym, ap, ◌∙◌, subst, arith, pos, Some, unwrap_or}
use Rattle.std.proofs.lemmas.Bool.Decides.{nat_tests}
use Rattle.std.proofs.lemmas.List.{length-map}
use Rattle.std.specs.List.{AllByRecursion, slice_get}
use Rattle.pict_syntax.specs.declared.span.Span.{Span}
use Rattle.pict_core.specs.Term.{Val, Pat, Process, Boolean, Chan, Int, Zero, Par, Out, In, If}
use Rattle.pict_core.specs.Closed.{IsClosed, IsOver, IsUnder, binds}
use Rattle.pict_core.specs.Deed as deeds
use Rattle.pict_core.specs.Deed.{Misfits, chooses}
use Rattle.pict_core.specs.Matching.{match_value}
use Rattle.pict_core.specs.Step.{Quiet}
use Rattle.pict_core.specs.Substitution.{replace, substitute}
use Rattle.pict_core.proofs.Closed.{over_more}
use Rattle.pict_code.specs.Instruction as op
use Rattle.pict_code.specs.Instruction.{CodePat}
use Rattle.pict_code.specs.Levels.{has, Rises}
use Rattle.pict_code.specs.Nodes.{place, places, size, nodes_of, op_of, input_op}
use Rattle.pict_code.specs.ReadBack.{unleveled}
use Rattle.pict_code.specs.Standing.{closing}
use Rattle.pict_code.proofs.Closings.{part_under}
use Rattle.pict_code.proofs.Numbering.{PlacedAt, par_placed, if_placed, new_placed, in_placed}
use Rattle.pict_code.proofs.Rebuilding.{pattern_back}
use Rattle.pict_heap.specs.HeapState.{HeapState}
use Rattle.pict_desk.specs.Binding.{levels_of, BindsPattern}
use Rattle.pict_desk.specs.Known.{pair_at, value_in, known, operand_value}
use Rattle.pict_desk.proofs.BoundLevels.{levels_from, levels_leveled, length_from, values_after}
use Rattle.pict_desk.proofs.Nodes.{IsPar, IsIf, IsNew, IsInput, is_zero, is_par, is_if, is_new, is_out, is_in, is_serve, parts_follow}
use Rattle.pict_desk.proofs.Numbered.{place_low, inside}
use Rattle.pict_desk.proofs.OperandsAround.{same_operand}
use Rattle.pict_desk.proofs.Parts.{node_with, operand, par_stands, if_stands, new_stands, out_stands, in_stands, body_stands, placed_at}
use Rattle.pict_desk.proofs.Variables.{value_in-no_var}
use Rattle.pict_picker.specs.Acting.{IsProcessOf}
use Rattle.pict_picker.specs.Deeds.{deed_at}
use Rattle.pict_picker.specs.Parts.{IsPart}
use Rattle.pict_picker.specs.Picker.{IsDesk}
use Rattle.pict_picker.specs.Waiting.{process_of}
use Rattle.pict_picker.specs.declared.waiting.Waiting.{Waiting}
use Rattle.pict_picker.proofs.Spans.{pattern_rises, pattern_inside}
use Rattle.pict_picker.proofs.Standing.{part_stands}
use Rattle.pict_desk.specs.declared.desk.Desk.{Desk}

-- where the node's part stands
pub placed : (core : Process) (value : ℕ → Val) (o : op.Op) (own : Process) (a : IsProcessOf core value o own) → PlacedAt core a.number a.part.around a.part.process
placed core value o own a = parts_follow 0 core a.number a.part a.at

-- ---- 0

pub zero_row : (core : Process) (value : ℕ → Val) (own : Process) → IsProcessOf core value op.Zero own → own ≡ Zero
zero_row core value own a = a.is ∙ ap (node_with a.part.around value) (is_zero a.number a.part.around a.part.process a.op_is)

-- ---- P | Q

module _ (core : Process) (h : HeapState) (values : List (ℕ × ℕ)) (l r : ℕ) (own : Process) (a : IsProcessOf core (known h values) (op.Par l r) own) where
  fork_form : IsPar a.number l r a.part.process
  fork_form = is_par a.number a.part.around l r a.part.process a.op_is

  fork_placed : PlacedAt core (a.number + 1) a.part.around fork_form.p × PlacedAt core (a.number + 1 + size fork_form.p) a.part.around fork_form.q
  fork_placed =
      par_placed core a.number a.part.around fork_form.p fork_form.q
      (subst (λ x. PlacedAt core a.number a.part.around x) fork_form.is (placed core (known h values) (op.Par l r) own a))

  pub fork_inside : (l < length (nodes_of core)) × (r < length (nodes_of core))
  fork_inside = (
    inside core l (a.number + 1) a.part.around fork_form.p fork_form.left_is fork_placed.0,
    inside core r (a.number + 1 + size fork_form.p) a.part.around fork_form.q fork_form.right_is fork_placed.1,
  )

  pub fork_row : (left right : Waiting) → IsPart core values l left → IsPart core values r right → own ≡ Par (process_of core h left) (process_of core h right)
  fork_row left right x y =
      let n = a.part.around in
      a.is ∙ ap (node_with n (known h values)) fork_form.is ∙ par_stands n (known h values) fork_form.p fork_form.q
      ∙ sym (cc (
        part_stands h values core l (a.number + 1) n fork_form.p left fork_form.left_is fork_placed.0 x,
        part_stands h values core r (a.number + 1 + size fork_form.p) n fork_form.q right fork_form.right_is fork_placed.1 y,
      ))

-- ---- if b P Q

-- a conditional that isn't wrong has a truth value to test
boolean_of : (v : Val) (p q : Process) → chooses v p q ≢ Misfits → (b : Bool) × (v ≡ Boolean b)
boolean_of (Boolean b) p q right = (b, refl)
boolean_of _ p q right = absurd (right refl)

module _ (core : Process) (h : HeapState) (values : List (ℕ × ℕ)) (test : Val) (l r : ℕ) (own : Process) (closed : IsClosed core)
    (a : IsProcessOf core (known h values) (op.If test l r) own) where
  if_form : IsIf a.number test l r a.part.process
  if_form = is_if a.number a.part.around test l r a.part.process a.op_is

  if_parts_placed : PlacedAt core (a.number + 1) a.part.around if_form.p × PlacedAt core (a.number + 1 + size if_form.p) a.part.around if_form.q
  if_parts_placed =
      if_placed core a.number a.part.around test if_form.p if_form.q
      (subst (λ x. PlacedAt core a.number a.part.around x) if_form.is (placed core (known h values) (op.If test l r) own a))

  if_under : IsUnder a.part.around 0 (If test if_form.p if_form.q)
  if_under = subst (IsUnder a.part.around 0) if_form.is (part_under core a.number a.part closed a.at)

  pub if_over : (d : ℕ) → a.part.around ≤ d → IsOver d 0 test
  if_over d low = over_more a.part.around d 0 0 low (omega arith) test if_under.0

  pub if_inside : (l < length (nodes_of core)) × (r < length (nodes_of core))
  if_inside = (
    inside core l (a.number + 1) a.part.around if_form.p if_form.first_is if_parts_placed.0,
    inside core r (a.number + 1 + size if_form.p) a.part.around if_form.q if_form.second_is if_parts_placed.1,
  )

  if_is : own ≡ If (operand_value (known h values) test) (node_with a.part.around (known h values) if_form.p) (node_with a.part.around (known h values) if_form.q)
  if_is =
      let n = a.part.around in
      let value = known h values in
      a.is ∙ ap (node_with n value) if_form.is ∙ if_stands n value test if_form.p if_form.q
      ∙ ap (λ v. If v (node_with n value if_form.p) (node_with n value if_form.q)) (same_operand n value test if_under.0)

  pub if_boolean : (lists : List (List Process)) (j : ℕ) → deed_at lists j own ≢ Misfits → (b : Bool) × (operand_value (known h values) test ≡ Boolean b)
  if_boolean lists j right =
      boolean_of (operand_value (known h values) test) (node_with a.part.around (known h values) if_form.p) (node_with a.part.around (known h values) if_form.q)
      (λ wrong. right (ap (deed_at lists j) if_is ∙ wrong))

  chosen_part : (b : Bool) (w : Waiting) → IsPart core values (cond b l r) w → process_of core h w ≡ cond b (node_with a.part.around (known h values) if_form.p) (node_with a.part.around (known h values) if_form.q)
  chosen_part true w x = part_stands h values core l (a.number + 1) a.part.around if_form.p w if_form.first_is if_parts_placed.0 x
  chosen_part false w x = part_stands h values core r (a.number + 1 + size if_form.p) a.part.around if_form.q w if_form.second_is if_parts_placed.1 x

  chooses_part : (b : Bool) (p q x : Process) → x ≡ cond b p q → chooses (Boolean b) p q ≡ deeds.Keeps x Quiet
  chooses_part true p q x e = ap (λ y. deeds.Keeps y Quiet) (sym e)
  chooses_part false p q x e = ap (λ y. deeds.Keeps y Quiet) (sym e)

  pub if_row : (lists : List (List Process)) (j : ℕ) (b : Bool) (k : ℕ) (w : Waiting) → operand_value (known h values) test ≡ Boolean b → k ≡ cond b l r → IsPart core values k w
      → deed_at lists j own ≡ deeds.Keeps (process_of core h w) Quiet
  if_row lists j b k w is chosen x =
      let n = a.part.around in
      let value = known h values in
      ap (deed_at lists j) if_is
      ∙ ap (λ v. chooses v (node_with n value if_form.p) (node_with n value if_form.q)) is
      ∙ chooses_part b (node_with n value if_form.p) (node_with n value if_form.q) (process_of core h w) (chosen_part b w (subst (λ (i : ℕ). IsPart core values i w) chosen x))

-- ---- new x P

-- one value more, at the new level
one_more : (n : ℕ) (values later : ℕ → Val) (v : Val) → ((k : ℕ) → k < n → later k ≡ values k) → later n ≡ v
    → (level : ℕ) (b : Bool) → nat_lt level n ≡ b → level < n + 1 → later level ≡ cond b (values level) (unwrap_or (slice_get (v ∷ []) (level - n)) (Int (pos 0)))
one_more n values later v below here level true e low = below level (grind (arith, nat_tests))
one_more n values later v below here level false e low =
    let same : level ≡ n = grind (arith, nat_tests) in
    let first : 0 ≡ level - n = omega arith in
    ap later same ∙ here ∙ ap (λ i. unwrap_or (slice_get (v ∷ []) i) (Int (pos 0))) first

module _ (core : Process) (h : HeapState) (values : List (ℕ × ℕ)) (level l : ℕ) (own : Process) (a : IsProcessOf core (known h values) (op.New level l) own) where
  new_form : IsNew a.number a.part.around level l a.part.process
  new_form = is_new a.number a.part.around level l a.part.process a.op_is

  new_part_placed : PlacedAt core (a.number + 1) (a.part.around + 1) new_form.p
  new_part_placed = new_placed core a.number a.part.around new_form.p (subst (λ x. PlacedAt core a.number a.part.around x) new_form.is (placed core (known h values) (op.New level l) own a))

  pub new_inside : l < length (nodes_of core)
  new_inside = inside core l (a.number + 1) (a.part.around + 1) new_form.p new_form.part_is new_part_placed

  -- there is a place for the channel
  pub new_level : (d : Desk) → IsDesk core d → level < length d.values.items
  new_level d desk =
      let low = place_low (length d.values.items) (places 0 core) (a.number + 1) (place (a.part.around + 1) new_form.p) desk.levels (placed_at core (a.number + 1) (a.part.around + 1) new_form.p new_part_placed) in
      let e = new_form.level_is in
      omega (arith, e, low)

  pub new_row : (later : List (ℕ × ℕ)) (c : ℕ) (w : Waiting) → ((k : ℕ) → k ≢ level → pair_at later k ≡ pair_at values k) → known h later level ≡ Chan c → IsPart core later l w
      → (lists : List (List Process)) (j : ℕ) → length lists ≡ c → deed_at lists j own ≡ deeds.Opens (process_of core h w)
  new_row later c w others here x lists j many =
      let n = a.part.around in
      let before = known h values in
      let after = known h later in
      let low : (k : ℕ) → k < n → after k ≡ before k = λ k less.
      ap (λ (y : ℕ × ℕ). value_in h y.0 y.1) (others k (λ same. let e = new_form.level_is in omega (arith, same, e, less))) in
      let made : after n ≡ Chan c = subst (λ m. after m ≡ Chan c) new_form.level_is here in
      let body = body_stands n before after (Chan c ∷ []) 1 refl (λ k. value_in-no_var h (pair_at values k).0 (pair_at values k).1)
      (λ k less. one_more n before after (Chan c) low made k (nat_lt k n) refl less) new_form.p in
      ap (deed_at lists j) (a.is ∙ ap (node_with n before) new_form.is ∙ new_stands n before new_form.p)
      ∙ ap (λ m. deeds.Opens (substitute 0 (Chan m ∷ []) (replace (closing n before) new_form.p))) many
      ∙ ap deeds.Opens (body ∙ sym (part_stands h later core l (a.number + 1) (n + 1) new_form.p w new_form.part_is new_part_placed x))

-- ---- v!w

module _ (core : Process) (h : HeapState) (values : List (ℕ × ℕ)) (chan message : Val) (at : Span) (own : Process) (closed : IsClosed core)
    (a : IsProcessOf core (known h values) (op.Out chan message at) own) where
  out_form : a.part.process ≡ Out chan message at
  out_form = is_out a.number a.part.around chan message at a.part.process a.op_is

  out_under : IsUnder a.part.around 0 (Out chan message at)
  out_under = subst (IsUnder a.part.around 0) out_form (part_under core a.number a.part closed a.at)

  pub out_over : (d : ℕ) → a.part.around ≤ d → IsOver d 0 chan × IsOver d 0 message
  out_over d low = (over_more a.part.around d 0 0 low (omega arith) chan out_under.0, over_more a.part.around d 0 0 low (omega arith) message out_under.1)

  pub out_row : own ≡ Out (operand_value (known h values) chan) (operand_value (known h values) message) at
  out_row =
      let n = a.part.around in
      let value = known h values in
      a.is ∙ ap (node_with n value) out_form ∙ out_stands n value chan message at
      ∙ ap (λ v. Out v (operand n value message) at) (same_operand n value chan out_under.0)
      ∙ ap (λ v. Out (operand_value value chan) v at) (same_operand n value message out_under.1)

-- ---- v?p = P and v?*p = P

is_input_form : (i n : ℕ) (chan : Val) (replicated : Bool) (pattern : CodePat) (l : ℕ) (p : Process) → op_of i n p ≡ input_op replicated chan pattern l → IsInput i n chan replicated pattern l p
is_input_form i n chan true pattern l p e = is_serve i n chan pattern l p e
is_input_form i n chan false pattern l p e = is_in i n chan pattern l p e

-- the body of an input with what its pattern binds
pub record Bound (core : Process) (h : HeapState) (v : Val) (w : Waiting) (pattern : Pat) (body : Process) : Type 0 where
  pub bound : List Val
  pub fits : match_value pattern v ≡ Some bound
  pub is : process_of core h w ≡ substitute 0 bound body

module _ (core : Process) (h : HeapState) (values : List (ℕ × ℕ)) (replicated : Bool) (chan : Val) (pattern : CodePat) (l : ℕ) (own : Process) (closed : IsClosed core)
    (a : IsProcessOf core (known h values) (input_op replicated chan pattern l) own) where
  pub in_form : IsInput a.number a.part.around chan replicated pattern l a.part.process
  in_form = is_input_form a.number a.part.around chan replicated pattern l a.part.process a.op_is

  in_under : IsUnder a.part.around 0 (In chan replicated in_form.pattern in_form.body)
  in_under = subst (IsUnder a.part.around 0) in_form.is (part_under core a.number a.part closed a.at)

  in_part_placed : PlacedAt core (a.number + 1) (a.part.around + binds in_form.pattern) in_form.body
  in_part_placed =
      in_placed core a.number a.part.around chan replicated in_form.pattern in_form.body
      (subst (λ x. PlacedAt core a.number a.part.around x) in_form.is (placed core (known h values) (input_op replicated chan pattern l) own a))

  pub in_over : (d : ℕ) → a.part.around ≤ d → IsOver d 0 chan
  in_over d low = over_more a.part.around d 0 0 low (omega arith) chan in_under.0

  pub in_inside : l < length (nodes_of core)
  in_inside = inside core l (a.number + 1) (a.part.around + binds in_form.pattern) in_form.body in_form.part_is in_part_placed

  -- the levels around the part of the input are among those of the desk, the pattern's too
  in_levels : (d : Desk) → IsDesk core d → a.part.around + binds in_form.pattern ≤ length d.values.items
  in_levels d desk =
      place_low (length d.values.items) (places 0 core) (a.number + 1) (place (a.part.around + binds in_form.pattern) in_form.body) desk.levels
      (placed_at core (a.number + 1) (a.part.around + binds in_form.pattern) in_form.body in_part_placed)

  pub in_rises : Rises 0 (levels_of pattern)
  in_rises = subst (λ q. Rises 0 (levels_of q)) (sym in_form.pattern_is) (pattern_rises a.part.around in_form.pattern)

  -- the levels of its pattern have places
  pub in_places : (d : Desk) → IsDesk core d → AllByRecursion (λ level. level < length d.values.items) (levels_of pattern)
  in_places d desk =
      subst (λ q. AllByRecursion (λ level. level < length d.values.items) (levels_of q)) (sym in_form.pattern_is)
      (pattern_inside a.part.around in_form.pattern (length d.values.items) (in_levels d desk))

  in_levels_of : levels_of pattern ≡ levels_from a.part.around (binds in_form.pattern)
  in_levels_of = ap levels_of in_form.pattern_is ∙ levels_leveled a.part.around in_form.pattern

  in_back : unleveled pattern ≡ in_form.pattern
  in_back = ap unleveled in_form.pattern_is ∙ pattern_back a.part.around in_form.pattern

  abbrev pub body_of : Process
  body_of = replace (closing a.part.around (known h values)) in_form.body

  pub in_row : own ≡ In (operand_value (known h values) chan) replicated (unleveled pattern) body_of
  in_row =
      let n = a.part.around in
      let value = known h values in
      a.is ∙ ap (node_with n value) in_form.is ∙ in_stands n value chan replicated in_form.pattern in_form.body
      ∙ ap (λ v. In v replicated in_form.pattern (replace (closing n value) in_form.body)) (same_operand n value chan in_under.0)
      ∙ ap (λ p. In (operand_value value chan) replicated p (replace (closing n value) in_form.body)) (sym in_back)

  pub in_bound : (later : List (ℕ × ℕ)) (v : Val) (w : Waiting) → BindsPattern h pattern v values later → IsPart core later l w → Bound core h v w (unleveled pattern) body_of
  in_bound later v w binding x =
      let n = a.part.around in
      let k = binds in_form.pattern in
      let before = known h values in
      let after = known h later in
      let here : map after (levels_from n k) ≡ binding.bound = ap (map after) (sym in_levels_of) ∙ binding.here in
      let many : k ≡ length binding.bound = sym (length_from n k) ∙ sym (length-map (levels_from n k) after) ∙ ap length here in
      let others : (level : ℕ) → has level (levels_from n k) ≡ false → after level ≡ before level =
      (λ level no. ap (λ (y : ℕ × ℕ). value_in h y.0 y.1) (binding.others level (ap (has level) in_levels_of ∙ no))) in
      record {
        bound = binding.bound;
        fits = binding.fits;
        is = part_stands h later core l (a.number + 1) (n + k) in_form.body w in_form.part_is in_part_placed x
            ∙ sym (body_stands n before after binding.bound k many (λ level. value_in-no_var h (pair_at values level).0 (pair_at values level).1)
            (values_after before after binding.bound n k here others) in_form.body);
      }
