-- How many variables stand among the entries of a context, from how many stand around each.
use Rattle.std.proofs.Common.{◌≡◌, ℕ, zero, suc, ◌+◌, ◌-◌, ◌≤◌, ◌<◌, List, [], ◌∷◌, ◌++◌, length, get_or, reverse, refl, sym, ◌∙◌, ap, arith}
use Rattle.std.proofs.lemmas.List.{get_or-reverse, length-reverse, reverse-append}
use Rattle.pict_types.specs.declared.context.Entry.{Entry}
use Rattle.pict_types.specs.Types.{TypeContext}
use Rattle.pict_types.specs.Entries.{PlainWhat, Variable, Definition, PlainContext, variables, with_variable}
use Rattle.pict_types.specs.PlainEntries.{plain_entries}
use Rattle.pict_types.specs.Counting.{variables_inside, variables_around}
use Rattle.pict_types.specs.Places.{IsWhatAt}
use Rattle.pict_types.proofs.Entries.{pushed}

more_variables : (w : PlainWhat) (vs : TypeContext) → length (with_variable w vs) ≡ length (with_variable w []) + length vs
more_variables (Variable b) vs = omega arith
more_variables (Definition a) vs = omega arith

one_at_most : (w : PlainWhat) → length (with_variable w []) ≤ 1
one_at_most (Variable b) = omega arith
one_at_most (Definition a) = omega arith

around_length : (c : PlainContext) → length (variables_around c) ≡ length c
around_length [] = refl
around_length (e ∷ c) = ap suc (around_length c)

inside_around : (c : PlainContext) (j d : ℕ) → j < length c → variables_inside (suc j) c + get_or (variables_around c) j d ≡ length (variables c)
inside_around [] j d h = absurd (omega arith)
inside_around (e ∷ c) zero d h = omega (arith, more_variables e.what (variables c))
inside_around (e ∷ c) (suc j) d h = omega (arith, inside_around c j d (omega arith), more_variables e.what (variables c))

-- there are as many numbers as entries
pub count_around : (xs : List ℕ) (c : PlainContext) → reverse xs ≡ variables_around c → length xs ≡ length c
count_around xs c h = sym (length-reverse xs) ∙ ap length h ∙ around_length c

-- the number that the code reads
pub count_at : (xs : List ℕ) (c : PlainContext) (i d : ℕ) → reverse xs ≡ variables_around c → 0 < i → i ≤ length xs → variables_inside i c + get_or xs (length xs - i) d ≡ length (variables c)
count_at xs c zero d h p q = absurd (omega arith)
count_at xs c (suc j) d h p q =
    let l = count_around xs c h in
    let n : length xs - 1 - j ≡ length xs - suc j = omega arith in
    let e : get_or (variables_around c) j d ≡ get_or xs (length xs - suc j) d =
    ap (λ y. get_or y j d) (sym h) ∙ get_or-reverse xs j d (omega arith) ∙ ap (λ m. get_or xs m d) n in
    omega (arith, inside_around c j d (omega arith), e)

pub inside_length : (c : PlainContext) (i : ℕ) (w : PlainWhat) → IsWhatAt c i w → i < length c
inside_length [] i w h = absurd h
inside_length (e ∷ c) zero w h = omega arith
inside_length (e ∷ c) (suc i) w h = omega (arith, inside_length c i w h)

-- no more than entries
pub inside_few : (i : ℕ) (c : PlainContext) → variables_inside i c ≤ i
inside_few zero c = omega arith
inside_few (suc i) [] = omega arith
inside_few (suc i) (e ∷ c) = omega (arith, one_at_most e.what, inside_few i c)

-- the entries around an entry
abbrev pub entries_around : PlainContext → ℕ → PlainContext
entries_around [] i = []
entries_around (e ∷ c) zero = c
entries_around (e ∷ c) (suc i) = entries_around c i

-- those around an entry and those inside it are no more than all
pub outer_length : (c : PlainContext) (i : ℕ) (w : PlainWhat) → IsWhatAt c i w → length (variables (entries_around c i)) + variables_inside i c ≤ length (variables c)
outer_length [] i w h = absurd h
outer_length (e ∷ c) zero w h = omega (arith, more_variables e.what (variables c))
outer_length (e ∷ c) (suc i) w h = omega (arith, outer_length c i w h, more_variables e.what (variables c))

-- one more entry
pub count_pushed : (xs : List ℕ) (es : List Entry) (e : Entry) (n : ℕ) → reverse xs ≡ variables_around (plain_entries es) → n ≡ length (variables (plain_entries es)) → reverse (xs ++ n ∷ []) ≡ variables_around (plain_entries (es ++ e ∷ []))
count_pushed xs es e n h k =
    reverse-append xs (n ∷ []) ∙ two k h ∙ ap variables_around (sym (pushed es e))
  where
    two : {x y : ℕ} {ys zs : List ℕ} → x ≡ y → ys ≡ zs → x ∷ ys ≡ y ∷ zs
    two p q = cc
