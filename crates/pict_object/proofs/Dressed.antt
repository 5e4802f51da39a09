-- What dressed processes do.
use Rattle.std.proofs.Common.{ℕ, zero, suc, ◌≡◌, ◌-◌, ℤ, pos, negsuc, Bool, true, false, nat_eq, nat_lt, cond, List, [], ◌∷◌, ◌++◌, map, length, refl, sym, ap, ◌∙◌, Option, Some, None, option_and_then, option_map, unwrap_or, slice_get, arith}
use Rattle.std.proofs.lemmas.Bool.Decides.{nat_tests}
use Rattle.pict_syntax.specs.declared.primitive.Primitive.{Primitive}
use Rattle.pict_syntax.specs.declared.primitive.Primitive.TheVariants as primitive
use Rattle.pict_core.specs.Term.{Val, Vals, Labelled, Pat, Pats, LabelledPats, Bind, Any, RecordPat, no_pats, more_pats, no_labelled_pats, more_labelled_pats, Process, Var, Chan, Int, Char, Boolean, Text, PrimitiveVal, Record, no_vals, more_vals, no_labelled, more_labelled, Zero, Par, New, Out, In, If}
use Rattle.pict_core.specs.Substitution.{value_of_variable, substitution, replace_value, replace_values, replace_labelled, substitute}
use Rattle.pict_core.specs.Matching.{match_value, match_values, match_labelled, both, in_record, at_head, at_end, field_at}
use Rattle.pict_core.specs.Primitives.{Effect, Leaves, Nothing, Answer, Trap, effect_of, at_int, at_char, at_bool, at_text, at_two, at_three, divided_by}
use Rattle.pict_object.specs.Dressing.{Dress, dressed_value, dressed_values, dressed_labelled, dressed_pattern, dressed_patterns, dressed_labelled_patterns, dressed, KeepsLabelsApart}

abbrev pub dressed_leaves : Dress → Leaves → Leaves
dressed_leaves d Nothing = Nothing
dressed_leaves d (Answer k a) = Answer (dressed_value d k) (dressed_value d a)
dressed_leaves d Trap = Trap

abbrev pub dressed_effect : Dress → Effect → Effect
dressed_effect d e = record { printed = e.printed; leaves = dressed_leaves d e.leaves }

nat_same : (l m : ℕ) → nat_eq l m ≡ true → l ≡ m
nat_same l m h = grind (arith, nat_tests)

nat_own : (l : ℕ) → nat_eq l l ≡ true
nat_own l = grind (arith, nat_tests)

nat_apart : (l m : ℕ) → (l ≡ m → ⊥) → nat_eq l m ≡ false
nat_apart l m h = grind (arith, nat_tests)

no_both : (l m : ℕ) → nat_eq l m ≡ false → l ≡ m → ⊥
no_both l m h e = grind (arith, nat_tests)

module _ (d : Dress) where
  -- ---- substitution
  got : (vs : List Val) (i : ℕ) → slice_get (map (dressed_value d) vs) i ≡ option_map (dressed_value d) (slice_get vs i)
  got [] i = refl
  got (v ∷ vs) zero = refl
  got (v ∷ vs) (suc i) = got vs i

  long : (vs : List Val) → length (map (dressed_value d) vs) ≡ length vs
  long [] = refl
  long (v ∷ vs) = omega (arith, long vs)

  found : (o : Option Val) (l : ℕ) → dressed_value d (unwrap_or o (Var l)) ≡ unwrap_or (option_map (dressed_value d) o) (Var l)
  found None l = refl
  found (Some v) l = refl

  chosen : (b : Bool) (level : ℕ) (v w : Val) → dressed_value d v ≡ w → dressed_value d (cond b (Var level) v) ≡ cond b (Var level) w
  chosen true level v w h = refl
  chosen false level v w h = h

  variable_dressed : (m : ℕ) (vs : List Val) (level : ℕ) → dressed_value d (value_of_variable m vs level) ≡ value_of_variable m (map (dressed_value d) vs) level
  variable_dressed m vs level =
      chosen (nat_lt level m) level (unwrap_or (slice_get vs (level - m)) (Var (level - length vs))) (unwrap_or (slice_get (map (dressed_value d) vs) (level - m)) (Var (level - length (map (dressed_value d) vs))))
      (found (slice_get vs (level - m)) (level - length vs) ∙ ap (λ o. unwrap_or o (Var (level - length vs))) (sym (got vs (level - m))) ∙ ap (λ n. unwrap_or (slice_get (map (dressed_value d) vs) (level - m)) (Var (level - n))) (sym (long vs)))

  mutual
    replaced : (m : ℕ) (vs : List Val) (v : Val) → dressed_value d (replace_value (substitution m vs) v) ≡ replace_value (substitution m (map (dressed_value d) vs)) (dressed_value d v)
    replaced m vs (Var level) = variable_dressed m vs level
    replaced m vs (Chan x) = refl
    replaced m vs (Int x) = refl
    replaced m vs (Char x) = refl
    replaced m vs (Boolean x) = refl
    replaced m vs (Text x) = refl
    replaced m vs (PrimitiveVal x) = refl
    replaced m vs (Record us ls) = ap (λ x. Record x (dressed_labelled d (replace_labelled (substitution m vs) ls))) (all_replaced m vs us) ∙ ap (Record (replace_values (substitution m (map (dressed_value d) vs)) (dressed_values d us))) (labelled_replaced m vs ls)

    all_replaced : (m : ℕ) (vs : List Val) (us : Vals) → dressed_values d (replace_values (substitution m vs) us) ≡ replace_values (substitution m (map (dressed_value d) vs)) (dressed_values d us)
    all_replaced m vs no_vals = refl
    all_replaced m vs (more_vals u us) = ap (λ x. more_vals x (dressed_values d (replace_values (substitution m vs) us))) (replaced m vs u) ∙ ap (more_vals (replace_value (substitution m (map (dressed_value d) vs)) (dressed_value d u))) (all_replaced m vs us)

    labelled_replaced : (m : ℕ) (vs : List Val) (us : Labelled) → dressed_labelled d (replace_labelled (substitution m vs) us) ≡ replace_labelled (substitution m (map (dressed_value d) vs)) (dressed_labelled d us)
    labelled_replaced m vs no_labelled = refl
    labelled_replaced m vs (more_labelled l u us) =
        ap (λ x. more_labelled (d.label l) x (dressed_labelled d (replace_labelled (substitution m vs) us))) (replaced m vs u)
        ∙ ap (more_labelled (d.label l) (replace_value (substitution m (map (dressed_value d) vs)) (dressed_value d u))) (labelled_replaced m vs us)

  pub substituted : (m : ℕ) (vs : List Val) (p : Process) → dressed d (substitute m vs p) ≡ substitute m (map (dressed_value d) vs) (dressed d p)
  substituted m vs Zero = refl
  substituted m vs (Par p q) = ap (λ x. Par x (dressed d (substitute m vs q))) (substituted m vs p) ∙ ap (Par (substitute m (map (dressed_value d) vs) (dressed d p))) (substituted m vs q)
  substituted m vs (New p) = ap New (substituted m vs p)
  substituted m vs (Out chan message at) =
      ap (λ x. Out x (dressed_value d (replace_value (substitution m vs) message)) (d.place at)) (replaced m vs chan)
      ∙ ap (λ x. Out (replace_value (substitution m (map (dressed_value d) vs)) (dressed_value d chan)) x (d.place at)) (replaced m vs message)
  substituted m vs (In chan replicated pattern body) =
      ap (λ x. In x replicated (dressed_pattern d pattern) (dressed d (substitute m vs body))) (replaced m vs chan)
      ∙ ap (In (replace_value (substitution m (map (dressed_value d) vs)) (dressed_value d chan)) replicated (dressed_pattern d pattern)) (substituted m vs body)
  substituted m vs (If test p q) =
      ap (λ x. If x (dressed d (substitute m vs p)) (dressed d (substitute m vs q))) (replaced m vs test)
      ∙ ap (λ x. If (replace_value (substitution m (map (dressed_value d) vs)) (dressed_value d test)) x (dressed d (substitute m vs q))) (substituted m vs p)
      ∙ ap (If (replace_value (substitution m (map (dressed_value d) vs)) (dressed_value d test)) (substitute m (map (dressed_value d) vs) (dressed d p))) (substituted m vs q)

  -- ---- matching

  abbrev pub found_dressed : Option (List Val) → Option (List Val)
  found_dressed o = option_map (map (dressed_value d)) o

  map_append : (xs ys : List Val) → map (dressed_value d) (xs ++ ys) ≡ map (dressed_value d) xs ++ map (dressed_value d) ys
  map_append [] ys = refl
  map_append (x ∷ xs) ys = ap (λ l. dressed_value d x ∷ l) (map_append xs ys)

  both_dressed : (a b : Option (List Val)) → both (found_dressed a) (found_dressed b) ≡ found_dressed (both a b)
  both_dressed None b = refl
  both_dressed (Some vs) None = refl
  both_dressed (Some vs) (Some ws) = ap Some (sym (map_append vs ws))

  module _ (apart : KeepsLabelsApart d) where
    same_test : (l m : ℕ) → nat_eq (d.label l) (d.label m) ≡ nat_eq l m
    same_test l m = elim (nat_eq l m) as (λ b. nat_eq l m ≡ b → nat_eq (d.label l) (d.label m) ≡ b) [
      | true ↦ λ h. ap (λ k. nat_eq (d.label k) (d.label m)) (nat_same l m h) ∙ nat_own (d.label m)
      | false ↦ λ h. nat_apart (d.label l) (d.label m) (λ e. no_both l m h (apart l m e))
    ] refl

    field_chosen : (b : Bool) (v : Val) (o o' : Option Val) → o' ≡ option_map (dressed_value d) o → cond b (Some (dressed_value d v)) o' ≡ option_map (dressed_value d) (cond b (Some v) o)
    field_chosen true v o o' h = refl
    field_chosen false v o o' h = h

    field_dressed : (label : ℕ) (ls : Labelled) → field_at (d.label label) (dressed_labelled d ls) ≡ option_map (dressed_value d) (field_at label ls)
    field_dressed label no_labelled = refl
    field_dressed label (more_labelled l v ls) =
        ap (λ b. cond b (Some (dressed_value d v)) (field_at (d.label label) (dressed_labelled d ls))) (same_test label l)
        ∙ field_chosen (nat_eq label l) v (field_at label ls) (field_at (d.label label) (dressed_labelled d ls)) (field_dressed label ls)

    record_dressed : (f f' : Vals → Option (List Val)) (g g' : Labelled → Option (List Val)) → ((vs : Vals) → f' (dressed_values d vs) ≡ found_dressed (f vs)) → ((ls : Labelled) → g' (dressed_labelled d ls) ≡ found_dressed (g ls))
        → (v : Val) → in_record (λ vs ls. both (f' vs) (g' ls)) (dressed_value d v) ≡ found_dressed (in_record (λ vs ls. both (f vs) (g ls)) v)
    record_dressed f f' g g' h k (Var x) = refl
    record_dressed f f' g g' h k (Chan x) = refl
    record_dressed f f' g g' h k (Int x) = refl
    record_dressed f f' g g' h k (Char x) = refl
    record_dressed f f' g g' h k (Boolean x) = refl
    record_dressed f f' g g' h k (Text x) = refl
    record_dressed f f' g g' h k (PrimitiveVal x) = refl
    record_dressed f f' g g' h k (Record vs ls) = ap (λ x. both x (g' (dressed_labelled d ls))) (h vs) ∙ ap (both (found_dressed (f vs))) (k ls) ∙ both_dressed (f vs) (g ls)

    head_dressed : (f f' : Val → Option (List Val)) (g g' : Vals → Option (List Val)) → ((v : Val) → f' (dressed_value d v) ≡ found_dressed (f v)) → ((vs : Vals) → g' (dressed_values d vs) ≡ found_dressed (g vs))
        → (vs : Vals) → at_head (λ v rest. both (f' v) (g' rest)) (dressed_values d vs) ≡ found_dressed (at_head (λ v rest. both (f v) (g rest)) vs)
    head_dressed f f' g g' h k no_vals = refl
    head_dressed f f' g g' h k (more_vals v vs) = ap (λ x. both x (g' (dressed_values d vs))) (h v) ∙ ap (both (found_dressed (f v))) (k vs) ∙ both_dressed (f v) (g vs)

    end_dressed : (vs : Vals) → at_end (dressed_values d vs) ≡ found_dressed (at_end vs)
    end_dressed no_vals = refl
    end_dressed (more_vals v vs) = refl

    then_dressed : (f f' : Val → Option (List Val)) → ((v : Val) → f' (dressed_value d v) ≡ found_dressed (f v)) → (o : Option Val) → option_and_then f' (option_map (dressed_value d) o) ≡ found_dressed (option_and_then f o)
    then_dressed f f' h None = refl
    then_dressed f f' h (Some v) = h v

    mutual
      pub match_dressed : (p : Pat) (v : Val) → match_value (dressed_pattern d p) (dressed_value d v) ≡ found_dressed (match_value p v)
      match_dressed Bind v = refl
      match_dressed Any v = refl
      match_dressed (RecordPat ps ls) v = record_dressed (match_values ps) (match_values (dressed_patterns d ps)) (match_labelled ls) (match_labelled (dressed_labelled_patterns d ls)) (match_all_dressed ps) (match_labelled_dressed ls) v

      match_all_dressed : (ps : Pats) (vs : Vals) → match_values (dressed_patterns d ps) (dressed_values d vs) ≡ found_dressed (match_values ps vs)
      match_all_dressed no_pats vs = end_dressed vs
      match_all_dressed (more_pats p ps) vs = head_dressed (match_value p) (match_value (dressed_pattern d p)) (match_values ps) (match_values (dressed_patterns d ps)) (match_dressed p) (match_all_dressed ps) vs

      match_labelled_dressed : (ps : LabelledPats) (ls : Labelled) → match_labelled (dressed_labelled_patterns d ps) (dressed_labelled d ls) ≡ found_dressed (match_labelled ps ls)
      match_labelled_dressed no_labelled_pats ls = refl
      match_labelled_dressed (more_labelled_pats label p ps) ls =
          ap (λ x. both (option_and_then (match_value (dressed_pattern d p)) x) (match_labelled (dressed_labelled_patterns d ps) (dressed_labelled d ls))) (field_dressed label ls)
          ∙ ap (λ x. both x (match_labelled (dressed_labelled_patterns d ps) (dressed_labelled d ls))) (then_dressed (match_value p) (match_value (dressed_pattern d p)) (match_dressed p) (field_at label ls))
          ∙ ap (both (found_dressed (option_and_then (match_value p) (field_at label ls)))) (match_labelled_dressed ps ls)
          ∙ both_dressed (option_and_then (match_value p) (field_at label ls)) (match_labelled ps ls)

  -- ---- primitives

  abbrev pub effects_dressed : Option Effect → Option Effect
  effects_dressed o = option_map (dressed_effect d) o

  int_dressed : (v : Val) (f g : ℤ → Option Effect) → ((i : ℤ) → g i ≡ effects_dressed (f i)) → at_int (dressed_value d v) g ≡ effects_dressed (at_int v f)
  int_dressed (Var x) f g h = refl
  int_dressed (Chan x) f g h = refl
  int_dressed (Int x) f g h = h x
  int_dressed (Char x) f g h = refl
  int_dressed (Boolean x) f g h = refl
  int_dressed (Text x) f g h = refl
  int_dressed (PrimitiveVal x) f g h = refl
  int_dressed (Record x y) f g h = refl

  char_dressed : (v : Val) (f g : ℕ → Option Effect) → ((i : ℕ) → g i ≡ effects_dressed (f i)) → at_char (dressed_value d v) g ≡ effects_dressed (at_char v f)
  char_dressed (Var x) f g h = refl
  char_dressed (Chan x) f g h = refl
  char_dressed (Int x) f g h = refl
  char_dressed (Char x) f g h = h x
  char_dressed (Boolean x) f g h = refl
  char_dressed (Text x) f g h = refl
  char_dressed (PrimitiveVal x) f g h = refl
  char_dressed (Record x y) f g h = refl

  bool_dressed : (v : Val) (f g : Bool → Option Effect) → ((i : Bool) → g i ≡ effects_dressed (f i)) → at_bool (dressed_value d v) g ≡ effects_dressed (at_bool v f)
  bool_dressed (Var x) f g h = refl
  bool_dressed (Chan x) f g h = refl
  bool_dressed (Int x) f g h = refl
  bool_dressed (Char x) f g h = refl
  bool_dressed (Boolean x) f g h = h x
  bool_dressed (Text x) f g h = refl
  bool_dressed (PrimitiveVal x) f g h = refl
  bool_dressed (Record x y) f g h = refl

  text_dressed : (v : Val) (f g : List ℕ → Option Effect) → ((i : List ℕ) → g i ≡ effects_dressed (f i)) → at_text (dressed_value d v) g ≡ effects_dressed (at_text v f)
  text_dressed (Var x) f g h = refl
  text_dressed (Chan x) f g h = refl
  text_dressed (Int x) f g h = refl
  text_dressed (Char x) f g h = refl
  text_dressed (Boolean x) f g h = refl
  text_dressed (Text x) f g h = h x
  text_dressed (PrimitiveVal x) f g h = refl
  text_dressed (Record x y) f g h = refl

  two_dressed : (v : Val) (f : Val → Val → Option Effect) → ((u k : Val) → f (dressed_value d u) (dressed_value d k) ≡ effects_dressed (f u k)) → at_two (dressed_value d v) f ≡ effects_dressed (at_two v f)
  two_dressed (Var x) f h = refl
  two_dressed (Chan x) f h = refl
  two_dressed (Int x) f h = refl
  two_dressed (Char x) f h = refl
  two_dressed (Boolean x) f h = refl
  two_dressed (Text x) f h = refl
  two_dressed (PrimitiveVal x) f h = refl
  two_dressed (Record no_vals ls) f h = refl
  two_dressed (Record (more_vals u no_vals) ls) f h = refl
  two_dressed (Record (more_vals u (more_vals k no_vals)) ls) f h = h u k
  two_dressed (Record (more_vals u (more_vals k (more_vals x xs))) ls) f h = refl

  three_dressed : (v : Val) (f : Val → Val → Val → Option Effect) → ((u w k : Val) → f (dressed_value d u) (dressed_value d w) (dressed_value d k) ≡ effects_dressed (f u w k)) → at_three (dressed_value d v) f ≡ effects_dressed (at_three v f)
  three_dressed (Var x) f h = refl
  three_dressed (Chan x) f h = refl
  three_dressed (Int x) f h = refl
  three_dressed (Char x) f h = refl
  three_dressed (Boolean x) f h = refl
  three_dressed (Text x) f h = refl
  three_dressed (PrimitiveVal x) f h = refl
  three_dressed (Record no_vals ls) f h = refl
  three_dressed (Record (more_vals u no_vals) ls) f h = refl
  three_dressed (Record (more_vals u (more_vals w no_vals)) ls) f h = refl
  three_dressed (Record (more_vals u (more_vals w (more_vals k no_vals))) ls) f h = h u w k
  three_dressed (Record (more_vals u (more_vals w (more_vals k (more_vals x xs)))) ls) f h = refl

  divided_dressed : (b : ℤ) (e e' : Option Effect) → e' ≡ effects_dressed e → divided_by b e' ≡ effects_dressed (divided_by b e)
  divided_dressed (pos zero) e e' h = refl
  divided_dressed (pos (suc n)) e e' h = h
  divided_dressed (negsuc n) e e' h = h

  ruleset operands_dressed = (two_dressed, three_dressed, int_dressed, char_dressed, bool_dressed, text_dressed, divided_dressed)

  pub effect_dressed : (f : Primitive) (v : Val) → effect_of f (dressed_value d v) ≡ effects_dressed (effect_of f v)
  effect_dressed primitive.Print v = text_dressed v _ _ (λ b. refl)
  effect_dressed _ v = search operands_dressed depth 8
