-- One more entry in a context.
use Rattle.std.proofs.Common.{◌≡◌, ℕ, zero, suc, ◌<◌, List, [], ◌∷◌, ◌++◌, length, map, reverse, get_or, ◌-◌, Some, refl, sym, ◌∙◌, ap, subst, arith}
use Rattle.std.specs.Prelude.{slice_get}
use Rattle.std.proofs.lemmas.List.{map-append, reverse-append, length-map, length-reverse, get_or-reverse, get_or-map}
use Rattle.pict_types.specs.declared.context.Entry.{Entry}
use Rattle.pict_types.specs.declared.measure.Known.{Known}
use Rattle.pict_types.specs.Types.{PlainArg, PlainBound, PlainType, TypeContext}
use Rattle.pict_types.specs.Entries.{PlainWhat, Variable, Definition, PlainEntry, PlainContext, variables, places, with_place, held_weights, held_heights, with_variable, EntriesAreWellFormed, EntryIsWellFormed}
use Rattle.pict_types.specs.Measures.{held, measure_at, weigh, rise, weigh_variable, rise_variable, weights, heights}
use Rattle.pict_types.specs.PlainEntries.{plain_entry, plain_entries, plain_what}
use Rattle.pict_types.proofs.Held.{alike, alike_more, HeldAlike, weigh_held, rise_held, weigh_variable_held, rise_variable_held}

-- one more at the end stands in front, seen from the end
pub last_first : {A B : Type 0} (f : A → B) (xs : List A) (x : A) → reverse (map f (xs ++ x ∷ [])) ≡ f x ∷ reverse (map f xs)
last_first f xs x = ap reverse (map-append f xs (x ∷ [])) ∙ reverse-append (map f xs) (f x ∷ [])

pub pushed : (es : List Entry) (e : Entry) → plain_entries (es ++ e ∷ []) ≡ plain_entry e ∷ plain_entries es
pushed es e = last_first plain_entry es e

pub entries_length : (es : List Entry) → length (plain_entries es) ≡ length es
entries_length es =
    let m : length (map plain_entry es) ≡ length es = simp length-map refl in
    length-reverse (map plain_entry es) ∙ m

held_twice : (n : ℕ) → held (held n) ≡ held n
held_twice n = omega arith

pub held_list : (ws : List ℕ) → HeldAlike (map held ws) ws
held_list ws = record { each = λ i. record { same = go ws i } }
  where
    go : (ws : List ℕ) (i : ℕ) → held (measure_at (map held ws) i) ≡ held (measure_at ws i)
    go [] i = refl
    go (w ∷ ws) zero = held_twice w
    go (w ∷ ws) (suc i) = go ws i

-- what is measured over held measures is what a u64 holds of the measure
pub weighs_held : (m : ℕ) (vs ws : List ℕ) (t : PlainType) → m ≡ held (weigh vs t) → vs ≡ map held ws → m ≡ held (weigh ws t)
weighs_held m vs ws t h e = h ∙ ap (λ x. held (weigh x t)) e ∙ (weigh_held (held_list ws) t).same

pub rises_held : (m : ℕ) (vs ws : List ℕ) (t : PlainType) → m ≡ held (rise vs t) → vs ≡ map held ws → m ≡ held (rise ws t)
rises_held m vs ws t h e = h ∙ ap (λ x. held (rise x t)) e ∙ (rise_held (held_list ws) t).same

-- and under one more variable
pub weighs_held_under : (m x : ℕ) (vs ws : List ℕ) (t : PlainType) → m ≡ held (weigh (x ∷ vs) t) → vs ≡ map held ws → m ≡ held (weigh (x ∷ ws) t)
weighs_held_under m x vs ws t h e = h ∙ ap (λ y. held (weigh (x ∷ y) t)) e ∙ (weigh_held (alike_more alike (held_list ws)) t).same

pub rises_held_under : (m x : ℕ) (vs ws : List ℕ) (t : PlainType) → m ≡ held (rise (x ∷ vs) t) → vs ≡ map held ws → m ≡ held (rise (x ∷ ws) t)
rises_held_under m x vs ws t h e = h ∙ ap (λ y. held (rise (x ∷ y) t)) e ∙ (rise_held (alike_more alike (held_list ws)) t).same

pub variable_weighs : (m : ℕ) (vs ws : List ℕ) (b : PlainBound) → m ≡ held (weigh_variable vs b) → vs ≡ map held ws → m ≡ held (weigh_variable ws b)
variable_weighs m vs ws b h e = h ∙ ap (λ x. held (weigh_variable x b)) e ∙ (weigh_variable_held (held_list ws) b).same

pub variable_rises : (m : ℕ) (vs ws : List ℕ) (b : PlainBound) → m ≡ held (rise_variable vs b) → vs ≡ map held ws → m ≡ held (rise_variable ws b)
variable_rises m vs ws b h e = h ∙ ap (λ x. held (rise_variable x b)) e ∙ (rise_variable_held (held_list ws) b).same

pub two : {A : Type 0} {x y : A} {xs ys : List A} → x ≡ y → xs ≡ ys → x ∷ xs ≡ y ∷ ys
two p q = cc

-- the invariants of a context with one more variable
pub variable_placed : (vs : List ℕ) (es : List Entry) (e : Entry) (n : ℕ) (b : PlainBound) → plain_what e.what ≡ Variable b → vs ≡ places (plain_entries es) → n ≡ length es → n ∷ vs ≡ places (plain_entries (es ++ e ∷ []))
variable_placed vs es e n b is h k =
    two (k ∙ sym (entries_length es)) h ∙ place_first (plain_what e.what) is ∙ ap places (sym (pushed es e))
  where
    place_first : (w : PlainWhat) → w ≡ Variable b → length (plain_entries es) ∷ places (plain_entries es) ≡ places (record { name = e.name.0; what = w } ∷ plain_entries es)
    place_first w q = sym (ap (λ x. places (record { name = e.name.0; what = x } ∷ plain_entries es)) q)

pub variable_weighed : (vs : List ℕ) (es : List Entry) (e : Entry) (m : ℕ) (b : PlainBound) → plain_what e.what ≡ Variable b → vs ≡ held_weights (plain_entries es) → m ≡ held (weigh_variable vs b) → m ∷ vs ≡ held_weights (plain_entries (es ++ e ∷ []))
variable_weighed vs es e m b is h k =
    two (variable_weighs m vs (weights (variables (plain_entries es))) b k h) h
    ∙ sym (ap (λ x. held_weights (record { name = e.name.0; what = x } ∷ plain_entries es)) is)
    ∙ ap held_weights (sym (pushed es e))

pub variable_measured : (vs : List ℕ) (es : List Entry) (e : Entry) (m : ℕ) (b : PlainBound) → plain_what e.what ≡ Variable b → vs ≡ held_heights (plain_entries es) → m ≡ held (rise_variable vs b) → m ∷ vs ≡ held_heights (plain_entries (es ++ e ∷ []))
variable_measured vs es e m b is h k =
    two (variable_rises m vs (heights (variables (plain_entries es))) b k h) h
    ∙ sym (ap (λ x. held_heights (record { name = e.name.0; what = x } ∷ plain_entries es)) is)
    ∙ ap held_heights (sym (pushed es e))

pub entry_formed : (ns : List (List ℕ)) (es : List Entry) (e : Entry) → EntryIsWellFormed ns (variables (plain_entries es)) (plain_what e.what) → EntriesAreWellFormed ns (plain_entries es) → EntriesAreWellFormed ns (plain_entries (es ++ e ∷ []))
entry_formed ns es e h k = subst (EntriesAreWellFormed ns) (sym (pushed es e)) (h, k)

-- and with one more definition
pub definition_same : {A : Type 0} (f : TypeContext → A) (es : List Entry) (e : Entry) (a : PlainWhat) → plain_what e.what ≡ a → with_variable a (variables (plain_entries es)) ≡ variables (plain_entries es) → f (variables (plain_entries es)) ≡ f (variables (plain_entries (es ++ e ∷ [])))
definition_same f es e a is h =
    ap f (sym h ∙ ap (λ x. with_variable x (variables (plain_entries es))) (sym is) ∙ ap variables (sym (pushed es e)))

pub definition_placed : {a : PlainArg} (es : List Entry) (e : Entry) → plain_what e.what ≡ Definition a → places (plain_entries (es ++ e ∷ [])) ≡ places (plain_entries es)
definition_placed es e is = ap places (pushed es e) ∙ ap (λ w. with_place w (length (plain_entries es)) (places (plain_entries es))) is

-- the places of the variables
places_length : (c : PlainContext) → length (places c) ≡ length (variables c)
places_length [] = refl
places_length (e ∷ c) = go e.what (places_length c)
  where
    go : (w : PlainWhat) → length (places c) ≡ length (variables c) → length (with_place w (length c) (places c)) ≡ length (with_variable w (variables c))
    go (Variable b) h = omega (arith, h)
    go (Definition a) h = h

pub count_known : (ks : List Known) (c : PlainContext) → reverse (map (λ k. k.place) ks) ≡ places c → length ks ≡ length (variables c)
count_known ks c h =
    let m : length (map (λ k. k.place) ks) ≡ length ks = simp length-map refl in
    sym (length-reverse (map (λ k. k.place) ks) ∙ m) ∙ ap length h ∙ places_length c

-- variable i has this bound, and its entry stands at this place, counted from the outermost
pub record StandsAt (c : PlainContext) (i p : ℕ) : Type 0 where
  pub bound : PlainBound
  pub known : slice_get (variables c) i ≡ Some bound
  pub inside : p < length c
  pub entry : (d : PlainEntry) → (get_or c (length c - 1 - p) d).what ≡ Variable bound

stands_further : (e : PlainEntry) (c : PlainContext) (i j p : ℕ) → slice_get (variables (e ∷ c)) i ≡ slice_get (variables c) j → StandsAt c j p → StandsAt (e ∷ c) i p
stands_further e c i j p h s = record {
  bound = s.bound;
  known = h ∙ s.known;
  inside = omega (arith, s.inside);
  entry = λ d. further d;
}
  where
    further : (d : PlainEntry) → (get_or (e ∷ c) (length (e ∷ c) - 1 - p) d).what ≡ Variable s.bound
    further d =
        let n : length (e ∷ c) - 1 - p ≡ suc (length c - 1 - p) = omega (arith, s.inside) in
        ap (λ x. (get_or (e ∷ c) x d).what) n ∙ s.entry d

stands_first : (e : PlainEntry) (c : PlainContext) (b : PlainBound) → e.what ≡ Variable b → StandsAt (e ∷ c) 0 (length c)
stands_first e c b h = record {
  bound = b;
  known = ap (λ w. slice_get (with_variable w (variables c)) 0) h;
  inside = omega arith;
  entry = λ d. first d;
}
  where
    first : (d : PlainEntry) → (get_or (e ∷ c) (length (e ∷ c) - 1 - length c) d).what ≡ Variable b
    first d =
        let n : length (e ∷ c) - 1 - length c ≡ 0 = omega arith in
        ap (λ x. (get_or (e ∷ c) x d).what) n ∙ h

stands : (c : PlainContext) (i : ℕ) → i < length (variables c) → StandsAt c i (get_or (places c) i 0)
stands [] i h = absurd (omega arith)
stands (e ∷ c) i h = go e.what refl (λ j k. stands c j k) i h
  where
    go : (w : PlainWhat) → e.what ≡ w → ((j : ℕ) → j < length (variables c) → StandsAt c j (get_or (places c) j 0)) → (i : ℕ) → i < length (with_variable e.what (variables c)) → StandsAt (e ∷ c) i (get_or (with_place e.what (length c) (places c)) i 0)
    go (Variable b) q r zero k = subst (StandsAt (e ∷ c) 0) (sym (ap (λ w. get_or (with_place w (length c) (places c)) 0 0) q)) (stands_first e c b q)
    go (Variable b) q r (suc i) k =
        let l : length (with_variable e.what (variables c)) ≡ suc (length (variables c)) = ap (λ w. length (with_variable w (variables c))) q in
        subst (StandsAt (e ∷ c) (suc i)) (sym (ap (λ w. get_or (with_place w (length c) (places c)) (suc i) 0) q))
        (stands_further e c (suc i) i (get_or (places c) i 0) (ap (λ w. slice_get (with_variable w (variables c)) (suc i)) q) (r i (omega arith)))
    go (Definition a) q r i k =
        let l : length (with_variable e.what (variables c)) ≡ length (variables c) = ap (λ w. length (with_variable w (variables c))) q in
        subst (StandsAt (e ∷ c) i) (sym (ap (λ w. get_or (with_place w (length c) (places c)) i 0) q))
        (stands_further e c i i (get_or (places c) i 0) (ap (λ w. slice_get (with_variable w (variables c)) i) q) (r i (omega arith)))

-- what the code reads from the end
pub last_at : {A : Type 0} (f : A → ℕ) (xs : List A) (i : ℕ) (d : A) → i < length xs → f (get_or xs (length xs - 1 - i) d) ≡ get_or (reverse (map f xs)) i 0
last_at f xs i d k =
    let m : length (map f xs) ≡ length xs = simp length-map refl in
    let k2 : i < length (map f xs) = omega arith in
    let k3 : length xs - 1 - i < length xs = omega arith in
    sym (get_or-reverse (map f xs) i 0 k2 ∙ ap (λ n. get_or (map f xs) (n - 1 - i) 0) m ∙ get_or-map f xs (length xs - 1 - i) d 0 k3)

-- the place that the code reads
place_at : (ks : List Known) (c : PlainContext) (i : ℕ) (d : Known) → reverse (map (λ k. k.place) ks) ≡ places c → i < length ks → (get_or ks (length ks - 1 - i) d).place ≡ get_or (places c) i 0
place_at ks c i d h k = last_at (λ x. x.place) ks i d k ∙ ap (λ x. get_or x i 0) h

-- the entry that the code reads
pub entry_at : (es : List Entry) (p : ℕ) (d : Entry) → p < length es → get_or (plain_entries es) (length (plain_entries es) - 1 - p) (plain_entry d) ≡ plain_entry (get_or es p d)
entry_at es p d h =
    let m : length (map plain_entry es) ≡ length es = simp length-map refl in
    let l = entries_length es in
    let k : length (plain_entries es) - 1 - p < length (map plain_entry es) = omega arith in
    let n : length (map plain_entry es) - 1 - (length (plain_entries es) - 1 - p) ≡ p = omega arith in
    get_or-reverse (map plain_entry es) (length (plain_entries es) - 1 - p) (plain_entry d) k
    ∙ ap (λ x. get_or (map plain_entry es) x (plain_entry d)) n
    ∙ get_or-map plain_entry es p d (plain_entry d) h

pub stands_at : (ks : List Known) (es : List Entry) (i : ℕ) (d : Known) → reverse (map (λ k. k.place) ks) ≡ places (plain_entries es) → i < length ks → StandsAt (plain_entries es) i (get_or ks (length ks - 1 - i) d).place
stands_at ks es i d h k =
    subst (StandsAt (plain_entries es) i) (sym (place_at ks (plain_entries es) i d h k)) (stands (plain_entries es) i (omega (arith, count_known ks (plain_entries es) h)))

pub entry_inside : (es : List Entry) (i p : ℕ) → StandsAt (plain_entries es) i p → p < length es
entry_inside es i p s = omega (arith, s.inside, entries_length es)

pub entry_is : (es : List Entry) (i p : ℕ) (d : Entry) (s : StandsAt (plain_entries es) i p) → plain_what (get_or es p d).what ≡ Variable s.bound
entry_is es i p d s = ap (λ x. x.what) (sym (entry_at es p d (entry_inside es i p s))) ∙ s.entry (plain_entry d)
