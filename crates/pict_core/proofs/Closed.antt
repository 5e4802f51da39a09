-- Substitution, matching and primitives keep closed terms closed.
use Rattle.std.proofs.Common.{ℕ, zero, suc, ◌+◌, ◌-◌, ◌<◌, ◌≤◌, ◌≡◌, Bool, true, false, List, [], ◌∷◌, ◌++◌, length, refl, sym, subst, Option, Some, None, arith, cond, pos, negsuc, ℤ, length-append, nat_lt, nat_eq, unwrap_or, option_and_then}
use Rattle.std.proofs.lemmas.Bool.Decides.{nat_tests}
use Rattle.std.specs.List.{slice_get}
use Rattle.pict_syntax.specs.declared.primitive.Primitive.{Primitive}
use Rattle.pict_syntax.specs.declared.primitive.Primitive.TheVariants as primitive
use Rattle.pict_core.specs.Term.{Val, Vals, Labelled, Pat, Pats, LabelledPats, Bind, Any, RecordPat, no_pats, more_pats, no_labelled_pats, more_labelled_pats, Process, Var, Chan, Int, Char, Boolean, Text, Record, no_vals, more_vals, no_labelled, more_labelled, Zero, Par, New, Out, In, If}
use Rattle.pict_core.specs.Closed.{IsOver, AreOver, LabelledOver, AllOver, IsUnder, Lacks, IsDistinct, binds, binds_all, binds_labelled}
use Rattle.pict_core.specs.Substitution.{replace_value, replace_values, replace_labelled, substitution, substitute, value_of_variable}
use Rattle.pict_core.specs.Matching.{match_value, match_values, match_labelled, both, in_record, at_head, at_end, field_at}
use Rattle.pict_core.specs.Primitives.{Effect, Leaves, Nothing, Answer, Trap, effect_of, at_int, at_char, at_bool, at_text, at_two, at_three, at_ints, divided_by}

-- ---- more variables, more channels

mutual
  pub over_more : (n n' c c' : ℕ) → n ≤ n' → c ≤ c' → (v : Val) → IsOver n c v → IsOver n' c' v
  over_more n n' c c' h k (Var level) o = omega arith
  over_more n n' c c' h k (Chan number) o = omega arith
  over_more n n' c c' h k (Record vs ls) o = (all_over_more n n' c c' h k vs o.0, labelled_over_more n n' c c' h k ls o.1, o.2)
  over_more n n' c c' h k _ o = tt

  all_over_more : (n n' c c' : ℕ) → n ≤ n' → c ≤ c' → (vs : Vals) → AreOver n c vs → AreOver n' c' vs
  all_over_more n n' c c' h k no_vals o = tt
  all_over_more n n' c c' h k (more_vals v vs) o = (over_more n n' c c' h k v o.0, all_over_more n n' c c' h k vs o.1)

  labelled_over_more : (n n' c c' : ℕ) → n ≤ n' → c ≤ c' → (ls : Labelled) → LabelledOver n c ls → LabelledOver n' c' ls
  labelled_over_more n n' c c' h k no_labelled o = tt
  labelled_over_more n n' c c' h k (more_labelled label v ls) o = (over_more n n' c c' h k v o.0, labelled_over_more n n' c c' h k ls o.1)

-- a process under more channels
pub under_more : (n c c' : ℕ) → c ≤ c' → (p : Process) → IsUnder n c p → IsUnder n c' p
under_more n c c' k Zero u = tt
under_more n c c' k (Par p q) u = (under_more n c c' k p u.0, under_more n c c' k q u.1)
under_more n c c' k (New p) u = under_more (n + 1) c c' k p u
under_more n c c' k (Out chan message at) u = let h : n ≤ n = omega arith in (over_more n n c c' h k chan u.0, over_more n n c c' h k message u.1)
under_more n c c' k (In chan replicated pattern body) u = let h : n ≤ n = omega arith in (over_more n n c c' h k chan u.0, under_more (n + binds pattern) c c' k body u.1)
under_more n c c' k (If test p q) u = let h : n ≤ n = omega arith in (over_more n n c c' h k test u.0, under_more n c c' k p u.1, under_more n c c' k q u.2)

-- ---- substitution

value_over : (c : ℕ) (vs : List Val) → AllOver 0 c vs → (n i : ℕ) (d : Val) → (length vs ≤ i → IsOver n c d) → IsOver n c (unwrap_or (slice_get vs i) d)
value_over c [] o n i d h = h (omega arith)
value_over c (v ∷ vs) o n zero d h = over_more 0 n c c (omega arith) (omega arith) v o.0
value_over c (v ∷ vs) o n (suc i) d h = value_over c vs o.1 n i d (λ k. h (omega arith))

variable_over : (n m c : ℕ) (vs : List Val) → m ≡ length vs + n → AllOver 0 c vs → (level : ℕ) → level < m → IsOver n c (value_of_variable 0 vs level)
variable_over n m c vs e o level h =
    let test : nat_lt level 0 ≡ false = grind (arith, nat_tests) in
    let inner : IsOver n c (unwrap_or (slice_get vs (level - 0)) (Var (level - length vs))) = value_over c vs o n (level - 0) (Var (level - length vs)) (λ k. omega arith) in
    subst (λ b. IsOver n c (cond b (Var level) (unwrap_or (slice_get vs (level - 0)) (Var (level - length vs))))) (sym test) inner

lacks_substituted : (vs : List Val) (label : ℕ) (ls : Labelled) → Lacks label ls → Lacks label (replace_labelled (substitution 0 vs) ls)
lacks_substituted vs label no_labelled k = tt
lacks_substituted vs label (more_labelled l v ls) k = (k.0, lacks_substituted vs label ls k.1)

distinct_substituted : (vs : List Val) (ls : Labelled) → IsDistinct ls → IsDistinct (replace_labelled (substitution 0 vs) ls)
distinct_substituted vs no_labelled k = tt
distinct_substituted vs (more_labelled l v ls) k = (lacks_substituted vs l ls k.0, distinct_substituted vs ls k.1)

mutual
  substitute_over : (n m c : ℕ) (vs : List Val) → m ≡ length vs + n → AllOver 0 c vs → (v : Val) → IsOver m c v → IsOver n c (replace_value (substitution 0 vs) v)
  substitute_over n m c vs e o (Var level) u = variable_over n m c vs e o level u
  substitute_over n m c vs e o (Chan number) u = u
  substitute_over n m c vs e o (Record ws ls) u = (substitute_all_over n m c vs e o ws u.0, substitute_labelled_over n m c vs e o ls u.1, distinct_substituted vs ls u.2)
  substitute_over n m c vs e o _ u = tt

  substitute_all_over : (n m c : ℕ) (vs : List Val) → m ≡ length vs + n → AllOver 0 c vs → (ws : Vals) → AreOver m c ws → AreOver n c (replace_values (substitution 0 vs) ws)
  substitute_all_over n m c vs e o no_vals u = tt
  substitute_all_over n m c vs e o (more_vals w ws) u = (substitute_over n m c vs e o w u.0, substitute_all_over n m c vs e o ws u.1)

  substitute_labelled_over : (n m c : ℕ) (vs : List Val) → m ≡ length vs + n → AllOver 0 c vs → (ls : Labelled) → LabelledOver m c ls → LabelledOver n c (replace_labelled (substitution 0 vs) ls)
  substitute_labelled_over n m c vs e o no_labelled u = tt
  substitute_labelled_over n m c vs e o (more_labelled label w ls) u = (substitute_over n m c vs e o w u.0, substitute_labelled_over n m c vs e o ls u.1)

-- closed values in place of all but the last n variables
pub substitute_under : (n m c : ℕ) (vs : List Val) → m ≡ length vs + n → AllOver 0 c vs → (p : Process) → IsUnder m c p → IsUnder n c (substitute 0 vs p)
substitute_under n m c vs e o Zero u = tt
substitute_under n m c vs e o (Par p q) u = (substitute_under n m c vs e o p u.0, substitute_under n m c vs e o q u.1)
substitute_under n m c vs e o (New p) u = substitute_under (n + 1) (m + 1) c vs (omega arith) o p u
substitute_under n m c vs e o (Out chan message at) u = (substitute_over n m c vs e o chan u.0, substitute_over n m c vs e o message u.1)
substitute_under n m c vs e o (In chan replicated pattern body) u = (substitute_over n m c vs e o chan u.0, substitute_under (n + binds pattern) (m + binds pattern) c vs (omega arith) o body u.1)
substitute_under n m c vs e o (If test p q) u = (substitute_over n m c vs e o test u.0, substitute_under n m c vs e o p u.1, substitute_under n m c vs e o q u.2)

-- ---- matching

-- the bound values are as many as the pattern binds, and closed as the value is
abbrev pub Fits : ℕ → ℕ → ℕ → Option (List Val) → Type 0
Fits n c count None = Unit {0}
Fits n c count (Some bound) = (length bound ≡ count) × AllOver n c bound

append_over : (n c : ℕ) (vs ws : List Val) → AllOver n c vs → AllOver n c ws → AllOver n c (vs ++ ws)
append_over n c [] ws o u = u
append_over n c (v ∷ vs) ws o u = (o.0, append_over n c vs ws o.1 u)

both_fit : (n c i j : ℕ) (a b : Option (List Val)) → Fits n c i a → Fits n c j b → Fits n c (i + j) (both a b)
both_fit n c i j None b f g = tt
both_fit n c i j (Some vs) None f g = tt
both_fit n c i j (Some vs) (Some ws) f g = (omega (arith, length-append vs ws, f.0, g.0), append_over n c vs ws f.1 g.1)

field_cons : (n c : ℕ) (w v : Val) (rest : Option Val) → IsOver n c w → (rest ≡ Some v → IsOver n c v) → (b : Bool) → cond b (Some w) rest ≡ Some v → IsOver n c v
field_cons n c w v rest o h true f = let e : w ≡ v = cc f in subst (λ x. IsOver n c x) e o
field_cons n c w v rest o h false f = h f

field_over : (n c label : ℕ) (ls : Labelled) → LabelledOver n c ls → (v : Val) → field_at label ls ≡ Some v → IsOver n c v
field_over n c label no_labelled o v e = cc
field_over n c label (more_labelled l w ls) o v e = field_cons n c w v (field_at label ls) o.0 (field_over n c label ls o.1 v) (nat_eq label l) e

-- at a record, from what holds of its fields
record_fits : (n c i j : ℕ) (f : Vals → Option (List Val)) (g : Labelled → Option (List Val)) → ((vs : Vals) → AreOver n c vs → Fits n c i (f vs)) → ((ls : Labelled) → LabelledOver n c ls → Fits n c j (g ls))
    → (v : Val) → IsOver n c v → Fits n c (i + j) (in_record (λ vs ls. both (f vs) (g ls)) v)
record_fits n c i j f g h k (Record vs ls) o = both_fit n c i j (f vs) (g ls) (h vs o.0) (k ls o.1)
record_fits n c i j f g h k _ o = tt

head_fits : (n c i j : ℕ) (f : Val → Option (List Val)) (g : Vals → Option (List Val)) → ((v : Val) → IsOver n c v → Fits n c i (f v)) → ((vs : Vals) → AreOver n c vs → Fits n c j (g vs))
    → (vs : Vals) → AreOver n c vs → Fits n c (i + j) (at_head (λ v rest. both (f v) (g rest)) vs)
head_fits n c i j f g h k no_vals o = tt
head_fits n c i j f g h k (more_vals v vs) o = both_fit n c i j (f v) (g vs) (h v o.0) (k vs o.1)

end_fits : (n c : ℕ) (vs : Vals) → AreOver n c vs → Fits n c 0 (at_end vs)
end_fits n c no_vals o = (refl, tt)
end_fits n c (more_vals v vs) o = tt

found_fits : (n c i : ℕ) (f : Val → Option (List Val)) → ((v : Val) → IsOver n c v → Fits n c i (f v)) → (o : Option Val) → ((v : Val) → o ≡ Some v → IsOver n c v) → Fits n c i (option_and_then f o)
found_fits n c i f h None k = tt
found_fits n c i f h (Some v) k = h v (k v refl)

mutual
  pub match_fits : (n c : ℕ) (p : Pat) (v : Val) → IsOver n c v → Fits n c (binds p) (match_value p v)
  match_fits n c Bind v o = (refl, (o, tt))
  match_fits n c Any v o = (refl, tt)
  match_fits n c (RecordPat ps ls) v o = record_fits n c (binds_all ps) (binds_labelled ls) (match_values ps) (match_labelled ls) (match_all_fits n c ps) (match_labelled_fits n c ls) v o

  match_all_fits : (n c : ℕ) (ps : Pats) (vs : Vals) → AreOver n c vs → Fits n c (binds_all ps) (match_values ps vs)
  match_all_fits n c no_pats vs o = end_fits n c vs o
  match_all_fits n c (more_pats p ps) vs o = head_fits n c (binds p) (binds_all ps) (match_value p) (match_values ps) (match_fits n c p) (match_all_fits n c ps) vs o

  match_labelled_fits : (n c : ℕ) (ps : LabelledPats) (ls : Labelled) → LabelledOver n c ls → Fits n c (binds_labelled ps) (match_labelled ps ls)
  match_labelled_fits n c no_labelled_pats ls o = (refl, tt)
  match_labelled_fits n c (more_labelled_pats label p ps) ls o =
      both_fit n c (binds p) (binds_labelled ps) (option_and_then (match_value p) (field_at label ls)) (match_labelled ps ls)
      (found_fits n c (binds p) (match_value p) (match_fits n c p) (field_at label ls) (field_over n c label ls o)) (match_labelled_fits n c ps ls o)

-- ---- primitives

-- the answer and its target are closed as the argument is
abbrev pub LeavesOver : ℕ → ℕ → Leaves → Type 0
LeavesOver n c Nothing = Unit {0}
LeavesOver n c (Answer k a) = IsOver n c k × IsOver n c a
LeavesOver n c Trap = Unit {0}

abbrev pub EffectOver : ℕ → ℕ → Option Effect → Type 0
EffectOver n c None = Unit {0}
EffectOver n c (Some e) = LeavesOver n c e.leaves

module _ (n c : ℕ) where
  int_over : (v : Val) (f : ℤ → Option Effect) → ((i : ℤ) → EffectOver n c (f i)) → EffectOver n c (at_int v f)
  int_over (Int x) f h = h x
  int_over _ f h = tt

  char_over : (v : Val) (f : ℕ → Option Effect) → ((i : ℕ) → EffectOver n c (f i)) → EffectOver n c (at_char v f)
  char_over (Char x) f h = h x
  char_over _ f h = tt

  bool_over : (v : Val) (f : Bool → Option Effect) → ((i : Bool) → EffectOver n c (f i)) → EffectOver n c (at_bool v f)
  bool_over (Boolean x) f h = h x
  bool_over _ f h = tt

  text_over : (v : Val) (f : List ℕ → Option Effect) → ((i : List ℕ) → EffectOver n c (f i)) → EffectOver n c (at_text v f)
  text_over (Text x) f h = h x
  text_over _ f h = tt

  -- only the last field has to be closed: it is where the answer goes
  two_over : (v : Val) (f : Val → Val → Option Effect) → IsOver n c v → ((u k : Val) → IsOver n c k → EffectOver n c (f u k)) → EffectOver n c (at_two v f)
  two_over (Record (more_vals u (more_vals k no_vals)) ls) f o h = h u k o.0.1.0
  two_over _ f o h = tt

  three_over : (v : Val) (f : Val → Val → Val → Option Effect) → IsOver n c v → ((u w k : Val) → IsOver n c k → EffectOver n c (f u w k)) → EffectOver n c (at_three v f)
  three_over (Record (more_vals u (more_vals w (more_vals k no_vals))) ls) f o h = h u w k o.0.1.1.0
  three_over _ f o h = tt

  ints_over : (v : Val) (f : ℤ → ℤ → Val → Option Effect) → IsOver n c v → ((a b : ℤ) (k : Val) → IsOver n c k → EffectOver n c (f a b k)) → EffectOver n c (at_ints v f)
  ints_over v f o h = three_over v _ o (λ u w k ok. int_over u _ (λ a. int_over w _ (λ b. h a b k ok)))

  divided_over : (b : ℤ) (e : Option Effect) → EffectOver n c e → EffectOver n c (divided_by b e)
  divided_over (pos zero) e h = tt
  divided_over (pos (suc i)) e h = h
  divided_over (negsuc i) e h = h

  pub effect_over : (p : Primitive) (v : Val) → IsOver n c v → EffectOver n c (effect_of p v)
  effect_over primitive.Print v o = text_over v _ (λ t. tt)
  effect_over primitive.Printi v o = int_over v _ (λ i. tt)
  effect_over primitive.Pr v o = two_over v _ o (λ s k ok. text_over s _ (λ t. (ok, (tt, tt, tt))))
  effect_over primitive.Divide v o = ints_over v _ o (λ a b k ok. divided_over b _ (ok, tt))
  effect_over primitive.Remainder v o = ints_over v _ o (λ a b k ok. divided_over b _ (ok, tt))
  effect_over primitive.Chr v o = two_over v _ o (λ u k ok. int_over u _ (λ i. (ok, tt)))
  effect_over primitive.Ord v o = two_over v _ o (λ u k ok. char_over u _ (λ i. (ok, tt)))
  effect_over primitive.Join v o = three_over v _ o (λ s t k ok. text_over s _ (λ front. text_over t _ (λ back. (ok, tt))))
  effect_over primitive.Intstr v o = two_over v _ o (λ u k ok. int_over u _ (λ i. (ok, tt)))
  effect_over primitive.Size v o = two_over v _ o (λ u k ok. text_over u _ (λ i. (ok, tt)))
  effect_over primitive.Nth v o = three_over v _ o (λ s t k ok. text_over s _ (λ bytes. int_over t _ (λ place. (ok, tt))))
  effect_over primitive.Not v o = two_over v _ o (λ u k ok. bool_over u _ (λ i. (ok, tt)))
  effect_over _ v o = ints_over v _ o (λ a b k ok. (ok, tt))
