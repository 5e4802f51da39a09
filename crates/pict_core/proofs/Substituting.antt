-- Substitution at a variable and at a record.
use Rattle.std.proofs.Common.{ℕ, zero, suc, ◌-◌, ◌<◌, ◌≤◌, ◌≡◌, true, false, List, [], ◌∷◌, length, get_or, map, rules, arith, ap, ◌∙◌, sym, Vec, Global, refl, cond, unwrap_or, nat_lt}
use Rattle.std.proofs.lemmas.Bool.Decides.{nat_tests}
use Rattle.std.proofs.lemmas.List.{length-map}
use Rattle.std.specs.List.{slice_get}
use Rattle.pict_syntax.specs.declared.name.Name.{Name}
use Rattle.pict_core.specs.Term as term
use Rattle.pict_core.specs.Term.{Val, Var}
use Rattle.pict_core.specs.Substitution.{substitute, value_of_variable, replace_value, replace_values, replace_labelled, substitution, Replacement}
use Rattle.pict_core.specs.Plain.{plain_val, plain_field, vals_of, labelled_of}
use Rattle.pict_core.proofs.Fields.{plain_val-Fields}
use Rattle.pict_core.specs.declared.value.CoreVal.{CoreVal, the_lemmas}
use Rattle.pict_core.specs.declared.value.CoreVal.TheVariants as value

pub plain_val-Var : (n : ℕ) → plain_val (value.Var n) ≡ Var n
plain_val-Var n = search (rules, the_lemmas)

-- a closed process has no variable below level 0
pub value_of_variable-zero : (vs : List Val) (k : ℕ) → value_of_variable 0 vs k ≡ unwrap_or (slice_get vs k) (Var (k - length vs))
value_of_variable-zero vs k =
    let test : nat_lt k 0 ≡ false = grind (arith, nat_tests) in
    let same : k - 0 ≡ k = omega arith in
    ap (λ b. cond b (Var k) (unwrap_or (slice_get vs (k - 0)) (Var (k - length vs)))) test ∙ ap (λ i. unwrap_or (slice_get vs i) (Var (k - length vs))) same

within : (xs : List CoreVal) (k : ℕ) (d : CoreVal) (e : Val) → k < length xs → plain_val (get_or xs k d) ≡ unwrap_or (slice_get (map plain_val xs) k) e
within [] k d e h = absurd (omega arith)
within (x ∷ xs) zero d e h = refl
within (x ∷ xs) (suc k) d e h = within xs k d e (omega arith)

pub past : (vs : List Val) (k : ℕ) (e : Val) → length vs ≤ k → unwrap_or (slice_get vs k) e ≡ e
past [] k e h = refl
past (v ∷ vs) zero e h = absurd (omega arith)
past (v ∷ vs) (suc k) e h = past vs k e (omega arith)

pub variable_within : (xs : List CoreVal) (k : ℕ) (d : CoreVal) → k < length xs → plain_val (get_or xs k d) ≡ value_of_variable 0 (map plain_val xs) k
variable_within xs k d h = within xs k d _ h ∙ sym (value_of_variable-zero (map plain_val xs) k)

pub variable_past : (xs : List CoreVal) (k : ℕ) → length xs ≤ k → Var (k - length xs) ≡ value_of_variable 0 (map plain_val xs) k
variable_past xs k h =
    let e : length (map plain_val xs) ≡ length xs = length-map xs plain_val in
    ap (λ n. Var (k - n)) (sym e) ∙ sym (past (map plain_val xs) k (Var (k - length (map plain_val xs))) (omega (arith, e))) ∙ sym (value_of_variable-zero (map plain_val xs) k)

pub replace_values-vals_of : (r : Replacement) (xs : List CoreVal) → replace_values r (vals_of (map plain_val xs)) ≡ vals_of (map (λ x. replace_value r (plain_val x)) xs)
replace_values-vals_of r [] = refl
replace_values-vals_of r (x ∷ xs) = ap (term.more_vals (replace_value r (plain_val x))) (replace_values-vals_of r xs)

pub replace_labelled-labelled_of : (r : Replacement) (es : List (Name × CoreVal)) → replace_labelled r (labelled_of (map plain_field es)) ≡ labelled_of (map (λ e. (e.0, replace_value r (plain_val e.1))) es)
replace_labelled-labelled_of r [] = refl
replace_labelled-labelled_of r (e ∷ es) = ap (term.more_labelled e.0.0 (replace_value r (plain_val e.1))) (replace_labelled-labelled_of r es)

pub replace_fields : (r : Replacement) (v : CoreVal) (p q : Vec CoreVal Global) (l m : Vec (Name × CoreVal) Global) → v ≡ value.Fields q m
    → map plain_val p.items ≡ map (λ x. replace_value r (plain_val x)) q.items → map plain_field l.items ≡ map (λ e. (e.0, replace_value r (plain_val e.1))) m.items
    → plain_val (value.Fields p l) ≡ replace_value r (plain_val v)
replace_fields r v p q l m is e f =
    plain_val-Fields p l ∙ ap (λ a. term.Record (vals_of a) (labelled_of (map plain_field l.items))) e
    ∙ ap (λ b. term.Record (vals_of (map (λ x. replace_value r (plain_val x)) q.items)) (labelled_of b)) f
    ∙ sym (ap (λ a. term.Record a (labelled_of (map (λ e. (e.0, replace_value r (plain_val e.1))) m.items))) (replace_values-vals_of r q.items))
    ∙ sym (ap (λ a. term.Record (replace_values r (vals_of (map plain_val q.items))) a) (replace_labelled-labelled_of r m.items))
    ∙ sym (ap (replace_value r) (plain_val-Fields q m)) ∙ sym (ap (λ w. replace_value r (plain_val w)) is)

-- ---- no values

value_of_variable-none : (k : ℕ) → value_of_variable 0 [] k ≡ Var k
value_of_variable-none k = value_of_variable-zero [] k ∙ ap Var (omega arith)

mutual
  replace_value-none : (v : Val) → replace_value (substitution 0 []) v ≡ v
  replace_value-none (term.Var k) = value_of_variable-none k
  replace_value-none (term.Record vs ls) = let e = replace_values-none vs in let f = replace_labelled-none ls in cc (e, f)
  replace_value-none _ = refl

  replace_values-none : (vs : term.Vals) → replace_values (substitution 0 []) vs ≡ vs
  replace_values-none term.no_vals = refl
  replace_values-none (term.more_vals v vs) = let e = replace_value-none v in let f = replace_values-none vs in cc (e, f)

  replace_labelled-none : (ls : term.Labelled) → replace_labelled (substitution 0 []) ls ≡ ls
  replace_labelled-none term.no_labelled = refl
  replace_labelled-none (term.more_labelled l v ls) = let e = replace_value-none v in let f = replace_labelled-none ls in cc (e, f)

pub substitute-none : (p : term.Process) → substitute 0 [] p ≡ p
substitute-none term.Zero = refl
substitute-none (term.Par p q) = cc (substitute-none p, substitute-none q)
substitute-none (term.New p) = cc (substitute-none p)
substitute-none (term.Out chan message at) = cc (replace_value-none chan, replace_value-none message)
substitute-none (term.In chan replicated pattern body) = cc (replace_value-none chan, substitute-none body)
substitute-none (term.If test p q) = cc (replace_value-none test, substitute-none p, substitute-none q)

-- the variables outside stay
pub value_of_variable-below : (n : ℕ) (vs : List Val) (level : ℕ) → level < n → value_of_variable n vs level ≡ Var level
value_of_variable-below n vs level h =
    let test : nat_lt level n ≡ true = grind (arith, nat_tests) in
    ap (λ b. cond b (Var level) (unwrap_or (slice_get vs (level - n)) (Var (level - length vs)))) test
