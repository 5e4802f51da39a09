-- Two replacements that agree on the variables that occur make the same of a process.
use Rattle.std.proofs.Common.{ℕ, zero, suc, ◌+◌, ◌-◌, ◌<◌, ◌≤◌, ◌≡◌, Bool, true, false, ◌||◌, List, [], ◌∷◌, ◌++◌, length, refl, sym, ap, ◌∙◌, subst, arith, cond, nat_lt, ◌==◌, unwrap_or}
use Rattle.std.proofs.lemmas.Bool.Decides.{nat_tests}
use Rattle.std.specs.List.{slice_get}
use Rattle.pict_core.specs.Term.{Val, Vals, Labelled, Process, Var, Chan, Int, Char, Boolean, Text, PrimitiveVal, Record, no_vals, more_vals, no_labelled, more_labelled, Zero, Par, New, Out, In, If}
use Rattle.pict_core.specs.Substitution.{Replacement, replace, replace_value, replace_values, replace_labelled}
use Rattle.pict_code.specs.Frames.{occurs, in_value, in_values, in_labelled}

or_left : (a b : Bool) → a ≡ true → a || b ≡ true
or_left true b h = refl
or_left false b h = cc

or_right : (a b : Bool) → b ≡ true → a || b ≡ true
or_right true b h = refl
or_right false b h = h

-- the two agree on what passes the test
abbrev Agree : (ℕ → Bool) → Replacement → Replacement → Type 0
Agree test r s = (level : ℕ) → test level ≡ true → r.variable level ≡ s.variable level

module _ (r s : Replacement) (channels : (c : ℕ) → r.channel c ≡ s.channel c) where
  mutual
    pub agree_val : (v : Val) → Agree (λ l. in_value l v) r s → replace_value r v ≡ replace_value s v
    agree_val (Var level) h = h level (grind (arith, nat_tests))
    agree_val (Chan n) h = channels n
    agree_val (Int n) h = refl
    agree_val (Char n) h = refl
    agree_val (Boolean n) h = refl
    agree_val (Text n) h = refl
    agree_val (PrimitiveVal n) h = refl
    agree_val (Record vs ls) h =
        let e = agree_vals vs (λ l i. h l (or_left _ _ i)) in
        let f = agree_labelled ls (λ l i. h l (or_right _ _ i)) in cc (e, f)

    agree_vals : (vs : Vals) → Agree (λ l. in_values l vs) r s → replace_values r vs ≡ replace_values s vs
    agree_vals no_vals h = refl
    agree_vals (more_vals v vs) h =
        let e = agree_val v (λ l i. h l (or_left _ _ i)) in
        let f = agree_vals vs (λ l i. h l (or_right _ _ i)) in cc (e, f)

    agree_labelled : (ls : Labelled) → Agree (λ l. in_labelled l ls) r s → replace_labelled r ls ≡ replace_labelled s ls
    agree_labelled no_labelled h = refl
    agree_labelled (more_labelled label v ls) h =
        let e = agree_val v (λ l i. h l (or_left _ _ i)) in
        let f = agree_labelled ls (λ l i. h l (or_right _ _ i)) in cc (e, f)

  pub agree : (p : Process) → Agree (λ l. occurs l p) r s → replace r p ≡ replace s p
  agree Zero h = refl
  agree (Par p q) h = cc (agree p (λ l i. h l (or_left _ _ i)), agree q (λ l i. h l (or_right _ _ i)))
  agree (New p) h = cc (agree p h)
  agree (Out chan message at) h = cc (agree_val chan (λ l i. h l (or_left _ _ i)), agree_val message (λ l i. h l (or_right _ _ i)))
  agree (In chan replicated pattern body) h = cc (agree_val chan (λ l i. h l (or_left _ _ i)), agree body (λ l i. h l (or_right _ _ i)))
  agree (If test p q) h =
      cc (agree_val test (λ l i. h l (or_left _ _ i)), agree p (λ l i. h l (or_right _ _ (or_left _ _ i))), agree q (λ l i. h l (or_right _ _ (or_right _ _ i))))
