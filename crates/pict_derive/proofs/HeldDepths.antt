-- Depths that are held at the greatest `u64`: what is the same so held stays the same in every form.
use Rattle.std.proofs.Common.{◌≡◌, ℕ, ◌+◌, max, min, List, [], ◌∷◌, ◌++◌, length, Option, Some, None, refl, ap, arith}
use Rattle.pict_syntax.specs.Trees.{Dec, new_dec, run_dec, let_dec, def_dec, alias_dec, operator_dec, await_dec, Decs, no_decs, more_decs, Vals, no_vals, more_vals, LabelledVals, no_labelled_vals, more_labelled_vals}
use Rattle.pict_translation.specs.Depth.{or_one, put_with, application_depth, right_depth, left_depth_after, side_depth, served_depth, sent_depth, withs_depth, labelled_depth, abs_depths, dec_depth, decs_depth, proc_depth}
use Rattle.pict_derive.specs.Held.{held, held_option}

-- one more, and the two forms of a process of two parts
pub one_more_held : (r n m : ℕ) → r ≡ min (n + 1) 18446744073709551615 → held n ≡ held m → held r ≡ held (m + 1)
one_more_held r n m is same = omega arith

pub max_held : (n m a b : ℕ) → held n ≡ held a → held m ≡ held b → held (max n m + 1) ≡ held (max a b + 1)
max_held n m a b x y = omega arith

pub read_held : (n m a b : ℕ) → held n ≡ held m → held a ≡ held b → held (max (n + 1) a + 2) ≡ held (max (m + 1) b + 2)
read_held n m a b x y = omega arith

pub one_held : (n m : Option ℕ) → held_option n ≡ held_option m → held (or_one n) ≡ held (or_one m)
one_held None None same = refl
one_held (Some n) (Some m) same = ap or_one same
one_held None (Some m) same = cc
one_held (Some n) None same = cc

pub some_held : (n m : ℕ) → held n ≡ held m → held_option (Some n) ≡ held_option (Some m)
some_held n m same = ap Some same

pub put_held : (a b n m : Option ℕ) → held_option a ≡ held_option b → held_option n ≡ held_option m → held_option (put_with a n) ≡ held_option (put_with b m)
put_held None None n m same rest = rest
put_held (Some a) (Some b) n m same rest = ap Some (read_held (or_one n) (or_one m) a b (one_held n m rest) (ap or_one same))
put_held None (Some b) n m same rest = cc
put_held (Some a) None n m same rest = cc

pub application_held : (a b c d : Option ℕ) → held_option a ≡ held_option b → held_option c ≡ held_option d → held_option (application_depth a c) ≡ held_option (application_depth b d)
application_held a b c d x y = ap Some (one_held _ _ (put_held a b _ _ x (put_held c d (Some 1) (Some 1) y refl)))

-- ---- lists of trees, from what stands behind them

pub withs_held : (vs : Vals) (n m : Option ℕ) → held_option n ≡ held_option m → held_option (withs_depth vs n) ≡ held_option (withs_depth vs m)
unfolding withs_depth
withs_held no_vals n m same = same
withs_held (more_vals vs v) n m same = withs_held vs _ _ (put_held (sent_depth v) (sent_depth v) n m refl same)

pub labelled_held : (ls : LabelledVals) (n m : Option ℕ) → held_option n ≡ held_option m → held_option (labelled_depth ls n) ≡ held_option (labelled_depth ls m)
unfolding labelled_depth
labelled_held no_labelled_vals n m same = same
labelled_held (more_labelled_vals ls l v) n m same = labelled_held ls _ _ (put_held (sent_depth v) (sent_depth v) n m refl same)

pub served_held : (ns : List ℕ) (n m : ℕ) → held n ≡ held m → held (served_depth ns n) ≡ held (served_depth ns m)
served_held [] n m same = same
served_held (a ∷ ns) n m same = max_held a _ a _ refl (served_held ns n m same)

plus_held : (k n m : ℕ) → held n ≡ held m → held (k + n) ≡ held (k + m)
plus_held k n m same = omega arith

pub dec_held : (d : Dec) (n m : ℕ) → held n ≡ held m → held (dec_depth d n) ≡ held (dec_depth d m)
unfolding dec_depth
dec_held (new_dec s x t) n m same = let h : held (n + 1) ≡ held (m + 1) = omega arith in h
dec_held (run_dec s p) n m same = max_held (proc_depth p) n (proc_depth p) m refl same
dec_held (let_dec s p v) n m same = read_held n m (or_one (sent_depth v)) _ same refl
dec_held (def_dec s ds) n m same = plus_held (length (abs_depths ds)) _ _ (served_held (abs_depths ds) n m same)
dec_held (alias_dec s x t) n m same = same
dec_held (operator_dec s x xs t) n m same = same
dec_held (await_dec s v) n m same = read_held n m (or_one (sent_depth v)) _ same refl

pub decs_held : (ds : Decs) (n m : ℕ) → held n ≡ held m → held (decs_depth ds n) ≡ held (decs_depth ds m)
unfolding decs_depth
decs_held no_decs n m same = same
decs_held (more_decs ds d) n m same = decs_held ds _ _ (dec_held d n m same)

-- ---- lists of depths, whose last one or two come together

pub right_held : (ns : List (Option ℕ)) (a b : Option ℕ) → held_option a ≡ held_option b → held_option (right_depth (ns ++ a ∷ [])) ≡ held_option (right_depth (ns ++ b ∷ []))
right_held [] a b same = same
right_held (n ∷ []) a b same = application_held n n a b refl same
right_held (n ∷ m ∷ ns) a b same = application_held n n _ _ refl (right_held (m ∷ ns) a b same)

pub right_last : (ns : List (Option ℕ)) (a b : Option ℕ) → right_depth (ns ++ a ∷ b ∷ []) ≡ right_depth (ns ++ application_depth a b ∷ [])
right_last [] a b = refl
right_last (n ∷ []) a b = refl
right_last (n ∷ m ∷ ns) a b = ap (application_depth n) (right_last (m ∷ ns) a b)

pub left_last : (a : Option ℕ) (ns : List (Option ℕ)) (b : Option ℕ) → left_depth_after a (ns ++ b ∷ []) ≡ application_depth (left_depth_after a ns) b
left_last a [] b = refl
left_last a (n ∷ ns) b = left_last (application_depth a n) ns b

pub side_held : (ns : List ℕ) (a b : ℕ) → held a ≡ held b → held (side_depth (ns ++ a ∷ [])) ≡ held (side_depth (ns ++ b ∷ []))
side_held [] a b same = same
side_held (n ∷ []) a b same = max_held n a n b refl same
side_held (n ∷ m ∷ ns) a b same = max_held n _ n _ refl (side_held (m ∷ ns) a b same)

pub side_last : (ns : List ℕ) (a b : ℕ) → side_depth (ns ++ a ∷ b ∷ []) ≡ side_depth (ns ++ (max a b + 1) ∷ [])
side_last [] a b = refl
side_last (n ∷ []) a b = refl
side_last (n ∷ m ∷ ns) a b = ap (λ d. max n d + 1) (side_last (m ∷ ns) a b)

pub served_last : (ns : List ℕ) (n rest : ℕ) → served_depth (ns ++ n ∷ []) rest ≡ served_depth ns (max n rest + 1)
served_last [] n rest = refl
served_last (m ∷ ns) n rest = ap (λ d. max m d + 1) (served_last ns n rest)

pub larger : (r p n m : ℕ) → r ≡ max p m → held p ≡ held n → held r ≡ held (max n m)
larger r p n m is same = omega arith

pub lambda_held : (r p q n : ℕ) → q ≡ max p 1 → r ≡ min (q + 2) 18446744073709551615 → held p ≡ held n → held r ≡ held (max n 1 + 2)
lambda_held r p q n is added same = omega arith
