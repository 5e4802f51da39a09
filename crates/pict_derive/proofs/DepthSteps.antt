-- Lists of trees gone through from their ends: what one more tree does to the depth so far, and what is left at the end.
use Rattle.std.proofs.Common.{◌≡◌, ℕ, suc, ◌+◌, ◌<◌, ◌≤◌, max, min, List, [], ◌∷◌, ◌++◌, length, take, get_or, Option, Some, refl, ap, sym, ◌∙◌, arith, append_assoc}
use Rattle.std.proofs.Math.Seq.{take-suc}
use Rattle.std.proofs.lemmas.List.{length-map, take_all}
use Rattle.pict_syntax.specs.declared.tree.Val.{Val}
use Rattle.pict_syntax.specs.declared.tree.LabelledVal.{LabelledVal}
use Rattle.pict_syntax.specs.declared.tree.Dec.{Dec}
use Rattle.pict_syntax.specs.declared.tree.Proc.{Proc}
use Rattle.pict_syntax.specs.declared.tree.Definition.{Definition}
use Rattle.pict_syntax.specs.Trees.{no_vals, no_labelled_vals, no_decs, no_procs, no_definitions}
use Rattle.pict_syntax.specs.PlainTrees.{val_of, abs_of, dec_of, proc_of, vals_on, labelled_vals_on, decs_on, procs_on, definitions_on}
use Rattle.pict_syntax.proofs.ValueLists.{vals_more, labelled_vals_more, procs_more}
use Rattle.pict_syntax.proofs.DeclarationLists.{decs_more, definitions_more}
use Rattle.pict_translation.specs.Depth.{put_with, application_depth, right_depth, left_depth, side_depth, served_depth, sent_depth, withs_depth, labelled_depth, depths, abs_depth, abs_depths, dec_depth, decs_depth, proc_depth, proc_depths}
use Rattle.pict_derive.specs.Held.{held, held_option}
use Rattle.pict_derive.proofs.HeldDepths.{max_held, put_held, application_held, withs_held, labelled_held, decs_held, served_held, right_held, right_last, left_last, side_held, side_last, served_last}
use Rattle.pict_derive.proofs.LevelLemmas.{empty}
use Rattle.pict_derive.proofs.DepthForms.{depths_on, abs_depths_on}

pub values_step : (all left new : List Val) (x : Val) (start inner put depth : Option ℕ) → held_option (withs_depth (vals_on no_vals all) start) ≡ held_option (withs_depth (vals_on no_vals left) inner) → left ≡ new ++ x ∷ [] → held_option depth ≡ held_option (sent_depth (val_of x)) → held_option put ≡ held_option (put_with depth inner) → held_option (withs_depth (vals_on no_vals all) start) ≡ held_option (withs_depth (vals_on no_vals new) put)
unfolding withs_depth
values_step all left new x start inner put depth so_far is deep made =
    so_far
    ∙ ap (λ xs. held_option (withs_depth (vals_on no_vals xs) inner)) is
    ∙ ap (λ vs. held_option (withs_depth vs inner)) (vals_more no_vals new x)
    ∙ withs_held (vals_on no_vals new) _ put (sym (made ∙ put_held depth (sent_depth (val_of x)) inner inner deep refl))

pub values_end : (all left : List Val) (start inner : Option ℕ) → held_option (withs_depth (vals_on no_vals all) start) ≡ held_option (withs_depth (vals_on no_vals left) inner) → length left ≡ 0 → held_option inner ≡ held_option (withs_depth (vals_on no_vals all) start)
unfolding withs_depth vals_on
values_end all left start inner so_far is = sym (so_far ∙ ap (λ xs. held_option (withs_depth (vals_on no_vals xs) inner)) (empty left is))

pub labelled_step : (all left new : List LabelledVal) (x : LabelledVal) (start inner put depth : Option ℕ) → held_option (labelled_depth (labelled_vals_on no_labelled_vals all) start) ≡ held_option (labelled_depth (labelled_vals_on no_labelled_vals left) inner) → left ≡ new ++ x ∷ [] → held_option depth ≡ held_option (sent_depth (val_of x.value)) → held_option put ≡ held_option (put_with depth inner) → held_option (labelled_depth (labelled_vals_on no_labelled_vals all) start) ≡ held_option (labelled_depth (labelled_vals_on no_labelled_vals new) put)
unfolding labelled_depth
labelled_step all left new x start inner put depth so_far is deep made =
    so_far
    ∙ ap (λ xs. held_option (labelled_depth (labelled_vals_on no_labelled_vals xs) inner)) is
    ∙ ap (λ ls. held_option (labelled_depth ls inner)) (labelled_vals_more no_labelled_vals new x)
    ∙ labelled_held (labelled_vals_on no_labelled_vals new) _ put (sym (made ∙ put_held depth (sent_depth (val_of x.value)) inner inner deep refl))

pub labelled_end : (all left : List LabelledVal) (start inner : Option ℕ) → held_option (labelled_depth (labelled_vals_on no_labelled_vals all) start) ≡ held_option (labelled_depth (labelled_vals_on no_labelled_vals left) inner) → length left ≡ 0 → held_option inner ≡ held_option (labelled_depth (labelled_vals_on no_labelled_vals all) start)
unfolding labelled_depth labelled_vals_on
labelled_end all left start inner so_far is = sym (so_far ∙ ap (λ xs. held_option (labelled_depth (labelled_vals_on no_labelled_vals xs) inner)) (empty left is))

pub decs_step : (all left new : List Dec) (x : Dec) (start inner put : ℕ) → held (decs_depth (decs_on no_decs all) start) ≡ held (decs_depth (decs_on no_decs left) inner) → left ≡ new ++ x ∷ [] → held put ≡ held (dec_depth (dec_of x) inner) → held (decs_depth (decs_on no_decs all) start) ≡ held (decs_depth (decs_on no_decs new) put)
unfolding decs_depth
decs_step all left new x start inner put so_far is made =
    so_far
    ∙ ap (λ xs. held (decs_depth (decs_on no_decs xs) inner)) is
    ∙ ap (λ ds. held (decs_depth ds inner)) (decs_more no_decs new x)
    ∙ decs_held (decs_on no_decs new) _ put (sym made)

pub decs_end : (all left : List Dec) (start inner : ℕ) → held (decs_depth (decs_on no_decs all) start) ≡ held (decs_depth (decs_on no_decs left) inner) → length left ≡ 0 → held inner ≡ held (decs_depth (decs_on no_decs all) start)
unfolding decs_depth decs_on
decs_end all left start inner so_far is = sym (so_far ∙ ap (λ xs. held (decs_depth (decs_on no_decs xs) inner)) (empty left is))

-- ---- lists of depths

depths_more : (xs : List Val) (x : Val) → depths (vals_on no_vals (xs ++ x ∷ [])) ≡ depths (vals_on no_vals xs) ++ sent_depth (val_of x) ∷ []
unfolding depths
depths_more xs x = ap depths (vals_more no_vals xs x)

proc_depths_more : (xs : List Proc) (x : Proc) → proc_depths (procs_on no_procs (xs ++ x ∷ [])) ≡ proc_depths (procs_on no_procs xs) ++ proc_depth (proc_of x) ∷ []
unfolding proc_depths
proc_depths_more xs x = ap proc_depths (procs_more no_procs xs x)

abs_depths_more : (xs : List Definition) (x : Definition) → abs_depths (definitions_on no_definitions (xs ++ x ∷ [])) ≡ abs_depths (definitions_on no_definitions xs) ++ abs_depth (abs_of x.abs) ∷ []
unfolding abs_depths
abs_depths_more xs x = ap abs_depths (definitions_more no_definitions xs x)

pub right_begin : (all before left : List Val) (last : Val) (inner : Option ℕ) → all ≡ before ++ last ∷ [] → left ≡ before → held_option inner ≡ held_option (sent_depth (val_of last)) → held_option (right_depth (depths (vals_on no_vals all))) ≡ held_option (right_depth (depths (vals_on no_vals left) ++ inner ∷ []))
right_begin all before left last inner is left_is same =
    ap (λ xs. held_option (right_depth xs)) (ap (λ xs. depths (vals_on no_vals xs)) is ∙ depths_more before last)
    ∙ right_held (depths (vals_on no_vals before)) _ inner (sym same)
    ∙ sym (ap (λ xs. held_option (right_depth (depths (vals_on no_vals xs) ++ inner ∷ []))) left_is)

pub right_step : (whole : Option ℕ) (left new : List Val) (x : Val) (inner depth put : Option ℕ) → held_option whole ≡ held_option (right_depth (depths (vals_on no_vals left) ++ inner ∷ [])) → left ≡ new ++ x ∷ [] → held_option depth ≡ held_option (sent_depth (val_of x)) → held_option put ≡ held_option (application_depth depth inner) → held_option whole ≡ held_option (right_depth (depths (vals_on no_vals new) ++ put ∷ []))
right_step whole left new x inner depth put so_far is same made =
    so_far
    ∙ ap (λ xs. held_option (right_depth (xs ++ inner ∷ []))) (ap (λ xs. depths (vals_on no_vals xs)) is ∙ depths_more new x)
    ∙ ap (λ xs. held_option (right_depth xs)) (append_assoc (depths (vals_on no_vals new)) (sent_depth (val_of x) ∷ []) (inner ∷ []))
    ∙ ap held_option (right_last (depths (vals_on no_vals new)) (sent_depth (val_of x)) inner)
    ∙ right_held (depths (vals_on no_vals new)) _ put (sym (made ∙ application_held depth (sent_depth (val_of x)) inner inner same refl))

pub right_end : (whole : Option ℕ) (left : List Val) (inner : Option ℕ) → held_option whole ≡ held_option (right_depth (depths (vals_on no_vals left) ++ inner ∷ [])) → length left ≡ 0 → held_option inner ≡ held_option whole
unfolding depths vals_on
right_end whole left inner so_far is = sym (so_far ∙ ap (λ xs. held_option (right_depth (depths (vals_on no_vals xs) ++ inner ∷ []))) (empty left is))

pub left_begin : (all rest : List Val) (first : Val) (head : Option ℕ) → all ≡ first ∷ rest → held_option head ≡ held_option (sent_depth (val_of first)) → held_option head ≡ held_option (left_depth (depths (vals_on no_vals (take (0 + 1) all))))
unfolding depths vals_on
left_begin all rest first head is same = same ∙ sym (ap (λ xs. held_option (left_depth (depths (vals_on no_vals (take 1 xs))))) is)

depths_front : (x : Val) (xs : List Val) → depths (vals_on no_vals (x ∷ xs)) ≡ sent_depth (val_of x) ∷ depths (vals_on no_vals xs)
unfolding depths
depths_front x xs = depths_on no_vals (x ∷ xs) ∙ ap (λ ns. sent_depth (val_of x) ∷ ns) (sym (depths_on no_vals xs))

-- one value more behind at least one
left_more : (x : Val) (xs : List Val) (y : Val) → left_depth (depths (vals_on no_vals (x ∷ xs ++ y ∷ []))) ≡ application_depth (left_depth (depths (vals_on no_vals (x ∷ xs)))) (sent_depth (val_of y))
left_more x xs y =
    ap left_depth (depths_front x (xs ++ y ∷ []) ∙ ap (λ ns. sent_depth (val_of x) ∷ ns) (depths_more xs y))
    ∙ left_last (sent_depth (val_of x)) (depths (vals_on no_vals xs)) (sent_depth (val_of y))
    ∙ sym (ap (λ ns. application_depth (left_depth ns) (sent_depth (val_of y))) (depths_front x xs))

next_of : (all rest : List Val) (first x d : Val) (i : ℕ) → all ≡ first ∷ rest → i < length rest → x ≡ get_or rest i d → take (i + 1 + 1) all ≡ first ∷ take i rest ++ x ∷ []
next_of all rest first x d i is within item =
    ap (take (i + 1 + 1)) is ∙ ap (λ n. take n (first ∷ rest)) (let two : i + 1 + 1 ≡ suc (suc i) = omega arith in two)
    ∙ ap (λ xs. first ∷ xs) (take-suc rest i d within ∙ ap (λ y. take i rest ++ y ∷ []) (sym item))

so_far_of : (all rest : List Val) (first : Val) (i : ℕ) → all ≡ first ∷ rest → take (i + 1) all ≡ first ∷ take i rest
so_far_of all rest first i is = ap (take (i + 1)) is ∙ ap (λ n. take n (first ∷ rest)) (let one : i + 1 ≡ suc i = omega arith in one)

pub left_step : (all rest : List Val) (first x d : Val) (i : ℕ) (head depth put : Option ℕ) → all ≡ first ∷ rest → i < length rest → x ≡ get_or rest i d → held_option head ≡ held_option (left_depth (depths (vals_on no_vals (take (i + 1) all)))) → held_option depth ≡ held_option (sent_depth (val_of x)) → held_option put ≡ held_option (application_depth head depth) → held_option put ≡ held_option (left_depth (depths (vals_on no_vals (take (i + 1 + 1) all))))
left_step all rest first x d i head depth put is within item so_far same made =
    made
    ∙ application_held head _ depth _ (so_far ∙ ap (λ xs. held_option (left_depth (depths (vals_on no_vals xs)))) (so_far_of all rest first i is)) same
    ∙ sym (ap held_option (ap (λ xs. left_depth (depths (vals_on no_vals xs))) (next_of all rest first x d i is within item) ∙ left_more first (take i rest) x))

pub left_end : (all : List Val) (i : ℕ) (head : Option ℕ) → length all ≤ i + 1 → held_option head ≡ held_option (left_depth (depths (vals_on no_vals (take (i + 1) all)))) → held_option head ≡ held_option (left_depth (depths (vals_on no_vals all)))
left_end all i head long so_far = so_far ∙ ap (λ xs. held_option (left_depth (depths (vals_on no_vals xs)))) (take_all (i + 1) all long)

pub none_right : (all : List Val) → all ≡ [] → Some 1 ≡ held_option (right_depth (depths (vals_on no_vals all)))
unfolding depths vals_on
none_right all is = sym (ap (λ xs. held_option (right_depth (depths (vals_on no_vals xs)))) is)

pub none_left : (all : List Val) → all ≡ [] → Some 1 ≡ held_option (left_depth (depths (vals_on no_vals all)))
unfolding depths vals_on
none_left all is = sym (ap (λ xs. held_option (left_depth (depths (vals_on no_vals xs)))) is)

pub none_beside : (all : List Proc) → all ≡ [] → held 1 ≡ held (side_depth (proc_depths (procs_on no_procs all)))
unfolding proc_depths procs_on
none_beside all is = sym (ap (λ xs. held (side_depth (proc_depths (procs_on no_procs xs)))) is)

pub side_begin : (all before left : List Proc) (last : Proc) (inner : ℕ) → all ≡ before ++ last ∷ [] → left ≡ before → held inner ≡ held (proc_depth (proc_of last)) → held (side_depth (proc_depths (procs_on no_procs all))) ≡ held (side_depth (proc_depths (procs_on no_procs left) ++ inner ∷ []))
side_begin all before left last inner is left_is same =
    ap (λ xs. held (side_depth xs)) (ap (λ xs. proc_depths (procs_on no_procs xs)) is ∙ proc_depths_more before last)
    ∙ side_held (proc_depths (procs_on no_procs before)) _ inner (sym same)
    ∙ sym (ap (λ xs. held (side_depth (proc_depths (procs_on no_procs xs) ++ inner ∷ []))) left_is)

pub side_step : (whole : ℕ) (left new : List Proc) (x : Proc) (inner depth put : ℕ) → held whole ≡ held (side_depth (proc_depths (procs_on no_procs left) ++ inner ∷ [])) → left ≡ new ++ x ∷ [] → held depth ≡ held (proc_depth (proc_of x)) → held put ≡ held (max depth inner + 1) → held whole ≡ held (side_depth (proc_depths (procs_on no_procs new) ++ put ∷ []))
side_step whole left new x inner depth put so_far is same made =
    so_far
    ∙ ap (λ xs. held (side_depth (xs ++ inner ∷ []))) (ap (λ xs. proc_depths (procs_on no_procs xs)) is ∙ proc_depths_more new x)
    ∙ ap (λ xs. held (side_depth xs)) (append_assoc (proc_depths (procs_on no_procs new)) (proc_depth (proc_of x) ∷ []) (inner ∷ []))
    ∙ ap held (side_last (proc_depths (procs_on no_procs new)) (proc_depth (proc_of x)) inner)
    ∙ side_held (proc_depths (procs_on no_procs new)) _ put (sym (made ∙ max_held depth inner (proc_depth (proc_of x)) inner same refl))

pub side_end : (whole : ℕ) (left : List Proc) (inner : ℕ) → held whole ≡ held (side_depth (proc_depths (procs_on no_procs left) ++ inner ∷ [])) → length left ≡ 0 → held inner ≡ held whole
unfolding proc_depths procs_on
side_end whole left inner so_far is = sym (so_far ∙ ap (λ xs. held (side_depth (proc_depths (procs_on no_procs xs) ++ inner ∷ []))) (empty left is))

pub served_step : (whole : ℕ) (left new : List Definition) (x : Definition) (inner depth put : ℕ) → held whole ≡ held (served_depth (abs_depths (definitions_on no_definitions left)) inner) → left ≡ new ++ x ∷ [] → held depth ≡ held (abs_depth (abs_of x.abs)) → held put ≡ held (max depth inner + 1) → held whole ≡ held (served_depth (abs_depths (definitions_on no_definitions new)) put)
served_step whole left new x inner depth put so_far is same made =
    so_far
    ∙ ap (λ xs. held (served_depth xs inner)) (ap (λ xs. abs_depths (definitions_on no_definitions xs)) is ∙ abs_depths_more new x)
    ∙ ap held (served_last (abs_depths (definitions_on no_definitions new)) (abs_depth (abs_of x.abs)) inner)
    ∙ served_held (abs_depths (definitions_on no_definitions new)) _ put (sym (made ∙ max_held depth inner (abs_depth (abs_of x.abs)) inner same refl))

added : (r n k m : ℕ) → r ≡ min (n + k) 18446744073709551615 → held n ≡ held m → held r ≡ held (k + m)
added r n k m is same = omega arith

pub served_end : (all left : List Definition) (start inner result : ℕ) → held (served_depth (abs_depths (definitions_on no_definitions all)) start) ≡ held (served_depth (abs_depths (definitions_on no_definitions left)) inner) → length left ≡ 0 → result ≡ min (inner + length all) 18446744073709551615 → held result ≡ held (length (abs_depths (definitions_on no_definitions all)) + served_depth (abs_depths (definitions_on no_definitions all)) start)
unfolding abs_depths definitions_on
served_end all left start inner result so_far is made =
    added result inner (length all) _ made (sym (so_far ∙ ap (λ xs. held (served_depth (abs_depths (definitions_on no_definitions xs)) inner)) (empty left is)))
    ∙ ap (λ n. held (n + served_depth (abs_depths (definitions_on no_definitions all)) start)) (sym (ap length (abs_depths_on no_definitions all) ∙ length-map all _))
