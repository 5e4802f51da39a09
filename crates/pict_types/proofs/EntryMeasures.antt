-- What the entries of a context measure, and which of them are closed.
use Rattle.std.proofs.Common.{◌≡◌, ℕ, zero, suc, ◌+◌, ◌-◌, ◌<◌, Bool, true, not, List, [], ◌∷◌, ◌++◌, length, drop, get_or, map, reverse, refl, sym, ◌∙◌, ap, subst, arith}
use Rattle.std.specs.Prelude.{nat_le}
use Rattle.std.proofs.lemmas.Bool.Decides.{nat_tests}
use Rattle.std.proofs.lemmas.List.{get_or-reverse, length-map, length-reverse, reverse-append}
use Rattle.pict_types.specs.declared.context.Entry.{Entry}
use Rattle.pict_types.specs.declared.measure.Measures.{Measures}
use Rattle.pict_types.specs.Types.{PlainArg, PlainType}
use Rattle.pict_types.specs.Counting.{variables_inside}
use Rattle.pict_types.specs.Entries.{PlainWhat, Variable, Definition, PlainContext, variables, with_variable, held_weights, held_heights, weight_of_what, height_of_what, entry_weights, entry_heights, is_closed, closed_entries}
use Rattle.pict_types.specs.Measures.{held, weigh, rise, weights, heights}
use Rattle.pict_types.specs.Mentions.{mentions}
use Rattle.pict_types.specs.Places.{IsWhatAt}
use Rattle.pict_types.specs.PlainEntries.{plain_entries, plain_what}
use Rattle.pict_types.specs.Replacing.{type_in}
use Rattle.pict_types.proofs.Entries.{last_first, last_at, pushed, two, variable_rises, variable_weighs, rises_held, weighs_held}
use Rattle.pict_types.proofs.Mentioned.{mentions_renamed}
use Rattle.pict_types.proofs.Renamed.{rename_same}

what_weighs : (m : ℕ) (vs ws : List ℕ) (w : PlainWhat) → m ≡ held (weight_of_what vs w) → vs ≡ map held ws → m ≡ held (weight_of_what ws w)
what_weighs m vs ws (Variable b) h e = variable_weighs m vs ws b h e
what_weighs m vs ws (Definition a) h e = weighs_held m vs ws (type_in a) h e

what_rises : (m : ℕ) (vs ws : List ℕ) (w : PlainWhat) → m ≡ held (height_of_what vs w) → vs ≡ map held ws → m ≡ held (height_of_what ws w)
what_rises m vs ws (Variable b) h e = variable_rises m vs ws b h e
what_rises m vs ws (Definition a) h e = rises_held m vs ws (type_in a) h e

-- one more entry
pub entry_weighed : (ms : List Measures) (m : Measures) (vs : List ℕ) (es : List Entry) (e : Entry) → reverse (map (λ y. y.weight) ms) ≡ entry_weights (plain_entries es) → vs ≡ held_weights (plain_entries es) → m.weight ≡ held (weight_of_what vs (plain_what e.what)) → reverse (map (λ y. y.weight) (ms ++ m ∷ [])) ≡ entry_weights (plain_entries (es ++ e ∷ []))
entry_weighed ms m vs es e h k n =
    last_first (λ y. y.weight) ms m
    ∙ two (what_weighs m.weight vs (weights (variables (plain_entries es))) (plain_what e.what) n k) h
    ∙ ap entry_weights (sym (pushed es e))

pub entry_measured : (ms : List Measures) (m : Measures) (vs : List ℕ) (es : List Entry) (e : Entry) → reverse (map (λ y. y.height) ms) ≡ entry_heights (plain_entries es) → vs ≡ held_heights (plain_entries es) → m.height ≡ held (height_of_what vs (plain_what e.what)) → reverse (map (λ y. y.height) (ms ++ m ∷ [])) ≡ entry_heights (plain_entries (es ++ e ∷ []))
entry_measured ms m vs es e h k n =
    last_first (λ y. y.height) ms m
    ∙ two (what_rises m.height vs (heights (variables (plain_entries es))) (plain_what e.what) n k) h
    ∙ ap entry_heights (sym (pushed es e))

-- there are as many measures as entries
weights_length : (c : PlainContext) → length (entry_weights c) ≡ length c
weights_length [] = refl
weights_length (e ∷ c) = ap suc (weights_length c)

pub count_sizes : (ms : List Measures) (c : PlainContext) → reverse (map (λ y. y.weight) ms) ≡ entry_weights c → length ms ≡ length c
count_sizes ms c h =
    let m : length (map (λ y. y.weight) ms) ≡ length ms = simp length-map refl in
    sym (length-reverse (map (λ y. y.weight) ms) ∙ m) ∙ ap length h ∙ weights_length c

-- a definition, in the whole context
weighs_at : (c : PlainContext) (i d : ℕ) (a : PlainArg) → IsWhatAt c i (Definition a) → get_or (entry_weights c) i d ≡ held (weigh (drop (variables_inside i c) (weights (variables c))) (type_in a))
weighs_at [] i d a h = absurd h
weighs_at (e ∷ c) zero d a h =
    subst (λ w. held (weight_of_what (weights (variables c)) w) ≡ held (weigh (weights (with_variable w (variables c))) (type_in a))) (sym h) refl
weighs_at (e ∷ c) (suc i) d a h = weighs_at c i d a h ∙ further e.what
  where
    further : (w : PlainWhat) → held (weigh (drop (variables_inside i c) (weights (variables c))) (type_in a)) ≡ held (weigh (drop (length (with_variable w []) + variables_inside i c) (weights (with_variable w (variables c)))) (type_in a))
    further (Variable b) =
        let n : suc (variables_inside i c) ≡ 1 + variables_inside i c = omega arith in
        ap (λ k. held (weigh (drop k (weights (b ∷ variables c))) (type_in a))) n
    further (Definition x) =
        let n : variables_inside i c ≡ 0 + variables_inside i c = omega arith in
        ap (λ k. held (weigh (drop k (weights (variables c))) (type_in a))) n

rises_at : (c : PlainContext) (i d : ℕ) (a : PlainArg) → IsWhatAt c i (Definition a) → get_or (entry_heights c) i d ≡ held (rise (drop (variables_inside i c) (heights (variables c))) (type_in a))
rises_at [] i d a h = absurd h
rises_at (e ∷ c) zero d a h =
    subst (λ w. held (height_of_what (heights (variables c)) w) ≡ held (rise (heights (with_variable w (variables c))) (type_in a))) (sym h) refl
rises_at (e ∷ c) (suc i) d a h = rises_at c i d a h ∙ further e.what
  where
    further : (w : PlainWhat) → held (rise (drop (variables_inside i c) (heights (variables c))) (type_in a)) ≡ held (rise (drop (length (with_variable w []) + variables_inside i c) (heights (with_variable w (variables c)))) (type_in a))
    further (Variable b) =
        let n : suc (variables_inside i c) ≡ 1 + variables_inside i c = omega arith in
        ap (λ k. held (rise (drop k (heights (b ∷ variables c))) (type_in a))) n
    further (Definition x) =
        let n : variables_inside i c ≡ 0 + variables_inside i c = omega arith in
        ap (λ k. held (rise (drop k (heights (variables c))) (type_in a))) n

-- the measures that the code reads
pub definition_weighs : (ms : List Measures) (c : PlainContext) (i : ℕ) (d : Measures) (a : PlainArg) → reverse (map (λ y. y.weight) ms) ≡ entry_weights c → i < length ms → IsWhatAt c i (Definition a) → (get_or ms (length ms - 1 - i) d).weight ≡ held (weigh (drop (variables_inside i c) (weights (variables c))) (type_in a))
definition_weighs ms c i d a h k is = last_at (λ y. y.weight) ms i d k ∙ ap (λ x. get_or x i 0) h ∙ weighs_at c i 0 a is

pub definition_rises : (ms : List Measures) (c : PlainContext) (i : ℕ) (d : Measures) (a : PlainArg) → reverse (map (λ y. y.height) ms) ≡ entry_heights c → i < length ms → IsWhatAt c i (Definition a) → (get_or ms (length ms - 1 - i) d).height ≡ held (rise (drop (variables_inside i c) (heights (variables c))) (type_in a))
definition_rises ms c i d a h k is = last_at (λ y. y.height) ms i d k ∙ ap (λ x. get_or x i 0) h ∙ rises_at c i 0 a is

-- ---- definitions that mention no variable

-- all variables, as the code says it
pub outer_all : (t : PlainType) → mentions (nat_le 0) t ≡ mentions (λ i. true) t
outer_all t = ap (mentions (nat_le 0)) (sym (rename_same t (record { each = λ i. refl }))) ∙ mentions_renamed t (record { each = λ i. each i })
  where
    each : (i : ℕ) → nat_le 0 i ≡ true
    each i = grind (arith, nat_tests)

-- one more entry
pub entry_closed : (bs : List Bool) (b : Bool) (es : List Entry) (e : Entry) → reverse bs ≡ closed_entries (plain_entries es) → b ≡ is_closed (plain_what e.what) → reverse (bs ++ b ∷ []) ≡ closed_entries (plain_entries (es ++ e ∷ []))
entry_closed bs b es e h k = reverse-append bs (b ∷ []) ∙ both k h ∙ ap closed_entries (sym (pushed es e))
  where
    both : {x y : Bool} {xs ys : List Bool} → x ≡ y → xs ≡ ys → x ∷ xs ≡ y ∷ ys
    both p q = cc

pub count_closed : (bs : List Bool) (c : PlainContext) → reverse bs ≡ closed_entries c → length bs ≡ length c
count_closed bs c h =
    let m : length (map (λ e. is_closed e.what) c) ≡ length c = simp length-map refl in
    sym (length-reverse bs) ∙ ap length h ∙ m

closed_at : (c : PlainContext) (i : ℕ) (d : Bool) (a : PlainArg) → IsWhatAt c i (Definition a) → get_or (closed_entries c) i d ≡ is_closed (Definition a)
closed_at [] i d a h = absurd h
closed_at (e ∷ c) zero d a h = ap is_closed h
closed_at (e ∷ c) (suc i) d a h = closed_at c i d a h

-- what the code reads
pub definition_closed : (bs : List Bool) (c : PlainContext) (i : ℕ) (d : Bool) (a : PlainArg) → reverse bs ≡ closed_entries c → i < length bs → IsWhatAt c i (Definition a) → get_or bs (length bs - 1 - i) d ≡ not (mentions (λ j. true) (type_in a))
definition_closed bs c i d a h k is = sym (get_or-reverse bs i d k) ∙ ap (λ x. get_or x i d) h ∙ closed_at c i d a is
