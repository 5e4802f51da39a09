-- Typing is kept where there are more variables and channels, and where closed values of their types are put for the
-- first variables.
use Rattle.std.specs.Prelude.{slice_get, nat_lt}
use Rattle.std.proofs.lemmas.Bool.Decides.{nat_tests}
use Rattle.std.proofs.lemmas.List.{map-append}
use Rattle.std.proofs.Common.{◌≡◌, ℕ, zero, suc, ◌-◌, false, List, [], ◌∷◌, ◌++◌, map, length, refl, ◌∙◌, ap, ap₂, subst, Some, None, arith, append_assoc}
use Rattle.pict_types.specs.Types.{Both, Read, Write, PlainType, Boolean, Chan, PlainTypes, PlainLabels}
use Rattle.pict_types.specs.Renaming.{moved}
use Rattle.pict_types.specs.Replacing.{no_replacement}
use Rattle.pict_core.specs.Term.{Val, Vals, Labelled, no_labelled, more_labelled, Process}
use Rattle.pict_core.specs.Substitution as by
use Rattle.pict_core.specs.Substitution.{replace_value, replace_values, replace_labelled, substitution, value_of_variable, substitute}
use Rattle.pict_core.specs.Closed.{IsDistinct, Lacks}
use Rattle.pict_typing.specs.Worlds.{World, over, IsType, with_variable, opened, shifted}
use Rattle.pict_typing.specs.Values.{HasType, variable_has, channel_has, int_has, char_has, boolean_has, text_has, primitive_has, record_has, packed, folded, unfolded, sends_unfolding, raised, HaveTypes, none_have, more_have, HaveLabels, none_labelled, more_labels, HaveInOrder}
use Rattle.pict_typing.specs.Opening.{Opens}
use Rattle.pict_typing.specs.Processes.{IsTyped, inert, beside, fresh, output, input, test, AreClosedTypes}
use Rattle.pict_typing.proofs.Closed.{closed_replaced, closed_renamed}
use Rattle.pict_typing.proofs.Canonical.{has_closed}
use Rattle.pict_typing.proofs.Instantiating.{nothing_instantiates}
use Rattle.pict_typing.proofs.TypesPut.{has_instantiated}

-- ---- more variables and channels

-- what is in the first list is in the second, at the same place
abbrev Stays : List PlainType → List PlainType → Type 0
Stays ts us = (i : ℕ) (t : PlainType) → slice_get ts i ≡ Some t → slice_get us i ≡ Some t

module _ (w : World) (ms us : List PlainType) (channels_ : Stays w.messages ms) (variables_ : Stays w.variables us) where
  abbrev more : World
  more = record w { messages = ms; variables = us }

  mutual
    has_more : {v : Val} {t : PlainType} → HasType w v t → HasType more v t
    has_more (variable_has {level = l} {t = t} e) = variable_has (variables_ l t e)
    has_more (channel_has {c = c} {t = t} e) = channel_has (channels_ c t e)
    has_more int_has = int_has
    has_more char_has = char_has
    has_more boolean_has = boolean_has
    has_more text_has = text_has
    has_more primitive_has = primitive_has
    has_more (record_has i x y f) = record_has i (fields_have_more x) (labels_have_more y) f
    has_more (packed {b = b} a may f h) = packed a (record { formed = may.formed; of_kind = may.of_kind; below = may.below }) f (has_more h)
    has_more (folded f h) = folded f (has_more h)
    has_more (unfolded f h) = unfolded f (has_more h)
    has_more (sends_unfolding f h) = sends_unfolding f (has_more h)
    has_more (raised s f g h e) = raised s f g (has_more h) e

    fields_have_more : {v : Vals} {t : PlainTypes} → HaveTypes w v t → HaveTypes more v t
    fields_have_more none_have = none_have
    fields_have_more (more_have h x) = more_have (has_more h) (fields_have_more x)

    labels_have_more : {v : Labelled} {t : PlainLabels} → HaveLabels w v t → HaveLabels more v t
    labels_have_more none_labelled = none_labelled
    labels_have_more (more_labels h x) = more_labels (has_more h) (labels_have_more x)

-- a closed value is typed among any variables: its type is closed, so that their type variables don't matter
has_anywhere : (w : World) {v : Val} {t : PlainType} → AreClosedTypes w.names w.messages → HasType (over w.names w.messages) v t → HasType w v t
has_anywhere w {v = v} {t = t} k h =
    let u : World = record w { variables = [] } in
    let i = nothing_instantiates w.names w.type_variables in
    let g : HasType u v t = subst (HasType u v) (closed_replaced w.names no_replacement t (has_closed w.names w.messages k h)) (has_instantiated (over w.names w.messages) k i h) in
    has_more u w.messages w.variables (λ c s e. e) (λ l s e. absurd (cc)) g

pub stays_before : {A : Type 0} (xs ys : List A) (i : ℕ) (x : A) → slice_get xs i ≡ Some x → slice_get (xs ++ ys) i ≡ Some x
stays_before [] ys i x e = absurd (cc)
stays_before (y ∷ xs) ys zero x e = e
stays_before (y ∷ xs) ys (suc i) x e = stays_before xs ys i x e

abbrev with_messages : List PlainType → World → World
with_messages ms w = record w { messages = w.messages ++ ms }

has_beside : {v : Val} {t : PlainType} (w : World) (ms : List PlainType) → HasType w v t → HasType (with_messages ms w) v t
has_beside w ms h = has_more w (w.messages ++ ms) w.variables (stays_before w.messages ms) (λ l s e. e) h

-- further channels change nothing
pub typed_beside : {w : World} {p : Process} (ms : List PlainType) → IsTyped w p → IsTyped (record w { messages = w.messages ++ ms }) p
typed_beside ms inert = inert
typed_beside ms (beside p q) = beside (typed_beside ms p) (typed_beside ms q)
typed_beside ms (fresh t f p) = fresh t f (typed_beside ms p)
typed_beside {w = w} ms (output t f g h) = output t f (has_beside w ms g) (has_beside w ms h)
typed_beside {w = w} ms (input t f g o p) = input t f (has_beside w ms g) o (typed_beside ms p)
typed_beside {w = w} ms (test h p q) = test (has_beside w ms h) (typed_beside ms p) (typed_beside ms q)

-- ---- values put for the first variables

-- a variable is one of those that values are put for, or past them
data StandsAt (w : World) (vs : List Val) (level : ℕ) (t : PlainType) : Type 0 where
  is_put : {v : Val} → slice_get vs level ≡ Some v → HasType w v t → StandsAt w vs level t
  is_past : slice_get vs level ≡ None → slice_get w.variables (level - length vs) ≡ Some t → StandsAt w vs level t

stands_at : (w : World) → AreClosedTypes w.names w.messages → (vs : List Val) (ts : List PlainType) (level : ℕ) (t : PlainType) → HaveInOrder w.names w.messages vs ts → slice_get (ts ++ w.variables) level ≡ Some t → StandsAt w vs level t
stands_at w k [] [] level t x e = is_past refl (let q : level - 0 ≡ level = omega arith in rw q e)
stands_at w k [] (u ∷ ts) level t x e = absurd x
stands_at w k (v ∷ vs) [] level t x e = absurd x
stands_at w k (v ∷ vs) (u ∷ ts) zero t x e = let q : u ≡ t = cc in is_put refl (subst (HasType w v) q (has_anywhere w k x.0))
stands_at w k (v ∷ vs) (u ∷ ts) (suc level) t x e = further (stands_at w k vs ts level t x.1 e)
  where
    further : StandsAt w vs level t → StandsAt w (v ∷ vs) (suc level) t
    further (is_put f h) = is_put f h
    further (is_past f g) = is_past f (let q : suc level - suc (length vs) ≡ level - length vs = omega arith in rw q g)

variable_put : (w : World) (vs : List Val) (level : ℕ) (t : PlainType) → StandsAt w vs level t → HasType w (value_of_variable 0 vs level) t
variable_put w vs level t (is_put {v = v} f h) =
    let q : level - 0 ≡ level = omega arith in
    let e : slice_get vs (level - 0) ≡ Some v = rw q f in
    let z : nat_lt level 0 ≡ false = grind (arith, nat_tests) in
    rw z (rw e h)
variable_put w vs level t (is_past f g) =
    let q : level - 0 ≡ level = omega arith in
    let e : slice_get vs (level - 0) ≡ None = rw q f in
    let z : nat_lt level 0 ≡ false = grind (arith, nat_tests) in
    rw z (rw e (variable_has g))

lacks_put : (r : by.Replacement) (l : ℕ) (ws : Labelled) → Lacks l ws → Lacks l (replace_labelled r ws)
lacks_put r l no_labelled x = tt
lacks_put r l (more_labelled m v ws) x = (x.0, lacks_put r l ws x.1)

distinct_put : (r : by.Replacement) (ws : Labelled) → IsDistinct ws → IsDistinct (replace_labelled r ws)
distinct_put r no_labelled x = tt
distinct_put r (more_labelled m v ws) x = (lacks_put r m ws x.0, distinct_put r ws x.1)

abbrev before : List PlainType → World → World
before ts w = record w { variables = ts ++ w.variables }

module _ (w : World) (closed_ : AreClosedTypes w.names w.messages) (vs : List Val) (ts : List PlainType) (have_ : HaveInOrder w.names w.messages vs ts) where
  mutual
    has_put : {v : Val} {t : PlainType} → HasType (before ts w) v t → HasType w (replace_value (substitution 0 vs) v) t
    has_put (variable_has {level = l} {t = t} e) = variable_put w vs l t (stands_at w closed_ vs ts l t have_ e)
    has_put (channel_has e) = channel_has e
    has_put int_has = int_has
    has_put char_has = char_has
    has_put boolean_has = boolean_has
    has_put text_has = text_has
    has_put primitive_has = primitive_has
    has_put (record_has {ws = ws} i x y f) = record_has (distinct_put (substitution 0 vs) ws i) (fields_put x) (labels_put y) f
    has_put (packed a may f h) = packed a (record { formed = may.formed; of_kind = may.of_kind; below = may.below }) f (has_put h)
    has_put (folded f h) = folded f (has_put h)
    has_put (unfolded f h) = unfolded f (has_put h)
    has_put (sends_unfolding f h) = sends_unfolding f (has_put h)
    has_put (raised s f g h e) = raised s f g (has_put h) e

    fields_put : {v : Vals} {t : PlainTypes} → HaveTypes (before ts w) v t → HaveTypes w (replace_values (substitution 0 vs) v) t
    fields_put none_have = none_have
    fields_put (more_have h x) = more_have (has_put h) (fields_put x)

    labels_put : {v : Labelled} {t : PlainLabels} → HaveLabels (before ts w) v t → HaveLabels w (replace_labelled (substitution 0 vs) v) t
    labels_put none_labelled = none_labelled
    labels_put (more_labels h x) = more_labels (has_put h) (labels_put x)

-- the types of closed values are closed: further type variables don't move them
closed_shifted : (names : List (List ℕ)) (ms : List PlainType) (vs : List Val) (ts : List PlainType) (n : ℕ) → AreClosedTypes names ms → HaveInOrder names ms vs ts → map (shifted n) ts ≡ ts
closed_shifted names ms [] [] n k x = refl
closed_shifted names ms [] (t ∷ ts) n k x = absurd x
closed_shifted names ms (v ∷ vs) [] n k x = absurd x
closed_shifted names ms (v ∷ vs) (t ∷ ts) n k x = ap₂ (λ a b. a ∷ b) (closed_renamed names (moved n 0) t (has_closed names ms k x.0)) (closed_shifted names ms vs ts n k x.1)

pub typed_put : {u : World} {p : Process} (w : World) (vs : List Val) (ts : List PlainType) → AreClosedTypes w.names w.messages → HaveInOrder w.names w.messages vs ts → u ≡ before ts w → IsTyped u p → IsTyped w (substitute 0 vs p)
typed_put w vs ts k h e inert = inert
typed_put w vs ts k h e (beside p q) = beside (typed_put w vs ts k h e p) (typed_put w vs ts k h e q)
typed_put w vs ts k h e (fresh t f p) =
    fresh t (subst (λ z. IsType z t) e f) (typed_put (with_variable (Chan Both t) w) vs ts k h (ap (with_variable (Chan Both t)) e ∙ ap (λ z. record w { variables = z }) (append_assoc ts w.variables (Chan Both t ∷ []))) p)
typed_put w vs ts k h e (output {x = x} {v = v} t f g i) = output t (subst (λ z. IsType z t) e f) (has_put w k vs ts h (subst (λ z. HasType z x (Chan Write t)) e g)) (has_put w k vs ts h (subst (λ z. HasType z v t) e i))
typed_put w vs ts k h e (input {x = x} {p = pat} {d = d} {n = n} {ts = us} t f g o p) =
    let q : map (shifted n) (ts ++ w.variables) ++ us ≡ ts ++ (map (shifted n) w.variables ++ us) =
    ap (λ z. z ++ us) (map-append (shifted n) ts w.variables ∙ ap (λ z. z ++ map (shifted n) w.variables) (closed_shifted w.names w.messages vs ts n k h)) ∙ append_assoc ts (map (shifted n) w.variables) us in
    input t (subst (λ z. IsType z t) e f) (has_put w k vs ts h (subst (λ z. HasType z x (Chan Read t)) e g)) (subst (λ z. Opens z.names z.type_variables pat t d n us) e o) (typed_put (opened d n us w) vs ts k h (ap (opened d n us) e ∙ ap (λ z. record w { type_variables = d; variables = z }) q) p)
typed_put w vs ts k h e (test {b = b} i p q) = test (has_put w k vs ts h (subst (λ z. HasType z b Boolean) e i)) (typed_put w vs ts k h e p) (typed_put w vs ts k h e q)
