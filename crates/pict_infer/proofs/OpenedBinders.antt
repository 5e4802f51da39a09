-- Type binders that are opened one after the other.
use Rattle.std.proofs.Common.{◌≡◌, ◌<◌, ◌≤◌, ◌+◌, ℕ, zero, suc, Bool, true, false, if◌then◌else◌, List, [], ◌∷◌, ◌++◌, length, take, drop, get_or, None, refl, sym, ◌∙◌, ap, subst, arith}
use Rattle.std.proofs.lemmas.List.{length-take-le, take-append-drop}
use Rattle.pict_syntax.specs.declared.code.Code.{Code}
use Rattle.pict_syntax.specs.declared.code.Code.TheVariants.{Y16}
use Rattle.pict_syntax.specs.declared.span.Span.{Span}
use Rattle.pict_syntax.specs.declared.type_tree.TypeBinder.{TypeBinder as RTypeBinder}
use Rattle.pict_syntax.specs.Trees.{Bound, unbounded, bound, TypeBinder, TypeBinders, no_binders, more_binders}
use Rattle.pict_syntax.specs.PlainTrees.{binder_of, binders_on}
use Rattle.pict_types.specs.declared.types.Bound.{Bound as RBound}
use Rattle.pict_types.specs.Types.{PlainBound, PlainBounds, no_bound, bounds, count_bounds, is_top}
use Rattle.pict_types.specs.Plain.{plain_bound, plain_bounds}
use Rattle.pict_types.specs.Kinds.{Kind, kind_by, BoundsAreWellFormed}
use Rattle.pict_types.specs.Entries.{PlainEntry, PlainContext, Variable, variables, EntryIsWellFormed}
use Rattle.pict_types.proofs.Rows.{count_bounds_length}
use Rattle.pict_normal.specs.Normal.{and_bound, normal}
use Rattle.pict_normal.proofs.Trees.{bounds_and}
use Rattle.pict_scope.specs.DistinctLabels.{BinderHasDistinctLabels, BindersHaveDistinctLabels}
use Rattle.pict_rules.specs.Counts.{count_binders}
use Rattle.pict_rules.specs.Shapes.{kind_agrees, nth_bound, written_bound}
use Rattle.pict_rules.specs.Environments.{Environment, KnownType, bounds_of, entries_of}
use Rattle.pict_rules.specs.Rules.{Sort, nothing_, binders_, Result, Rule, Answer, give, ok, stuck, ensure, unless_stopped, binders_give, binders_against}
use Rattle.pict_rules.specs.Clauses.{binder_name, binder_span, need_same_bound, own_bound, stop_of_binder, with_own, written_kind}
use Rattle.pict_rules.specs.Regular.{IsRegular, first_bounds, kinds_in}
use Rattle.pict_rules.specs.Typing.{rule}
use Rattle.pict_rules.specs.Derivations.{Runs, give_, part_ok, part_stuck}
use Rattle.pict_rules.proofs.RegularAll.{regularity}
use Rattle.pict_rules.proofs.RegularFields.{own_regular}
use Rattle.pict_infer.specs.declared.error.InferError.{InferError}
use Rattle.pict_infer.specs.declared.error.InferError.TheVariants.{Named, Memory}
use Rattle.pict_infer.specs.Answering.{IsRefused, IsStopped}
use Rattle.pict_infer.specs.Asking.{IsWellAsked}
use Rattle.pict_infer.specs.Opening.{HasOpened, binder_agrees}
use Rattle.pict_infer.proofs.Forming.{clear, stopped}
use Rattle.pict_infer.proofs.Forms.{binders_both, next_binder, count_of_binders}
use Rattle.pict_infer.proofs.Growing.{environment}
use Rattle.pict_infer.proofs.Through.{GoesOn, given, refused, needed, unstopped}
use Rattle.pict_scope.proofs.Reading.{taken}

-- the environment of these entries, without values, and the entry of a type variable
abbrev pub alone : List (List ℕ) → PlainContext → Environment
alone ns c = record { names = ns; context = c; values = [] }

abbrev pub entry : KnownType → PlainEntry
entry n = record { name = n.name; what = Variable n.bound }

-- one type variable more is open
opened_more : {r q : Rule binders_} (ns ms ls : List (List ℕ)) (c c1 c2 : PlainContext) (x y : PlainBounds) (n : KnownType) → (h : HasOpened (alone ns c) (alone ms c1) r x) → ls ≡ ms → c2 ≡ entry n ∷ c1 → y ≡ and_bound x n.bound
    → Runs q (ok (n ∷ h.own)) → HasOpened (alone ns c) (alone ls c2) q y
opened_more ns ms ls c c1 c2 x y n h p q z f = record {
  own = n ∷ h.own;
  gives = f;
  inside = environment ls ns c2 (entry n ∷ (entries_of h.own ++ c)) [] [] (p ∙ ap (λ (e : Environment). e.names) h.inside) (q ∙ ap (λ (e : Environment). entry n ∷ e.context) h.inside) refl;
  has = ap (λ w. and_bound w n.bound) h.has ∙ sym z;
}

-- its bound is well formed, where the bounds of all are
fits_next : (e d : Environment) (own : List KnownType) (n : KnownType) → IsRegular e → BoundsAreWellFormed e.names (kinds_in e) (bounds_of (n ∷ own)) → d ≡ with_own e own → EntryIsWellFormed d.names (variables d.context) (Variable n.bound)
fits_next e d own n r w q = subst (λ (x : Environment). EntryIsWellFormed x.names (variables x.context) (Variable n.bound)) (sym q) (own_regular e (n ∷ own) r w).entries.0

-- lists of type binders
first_then : (xs : List RTypeBinder) (n : ℕ) → binders_on no_binders xs ≡ binders_on (binders_on no_binders (take n xs)) (drop n xs)
first_then xs n = ap (binders_on no_binders) (sym (take-append-drop n xs)) ∙ binders_both no_binders (take n xs) (drop n xs)

labels_before : (bs : TypeBinders) (xs : List RTypeBinder) → BindersHaveDistinctLabels (binders_on bs xs) → BindersHaveDistinctLabels bs
unfolding binders_on
labels_before bs [] h = h
labels_before bs (x ∷ xs) h = (labels_before (more_binders bs (binder_of x)) xs h).0

first_labels : (xs : List RTypeBinder) (n : ℕ) → BindersHaveDistinctLabels (binders_on no_binders xs) → BindersHaveDistinctLabels (binders_on no_binders (take n xs))
first_labels xs n h = labels_before (binders_on no_binders (take n xs)) (drop n xs) (subst (λ z. BindersHaveDistinctLabels z) (first_then xs n) h)

pub labels_of_binder : (xs : List RTypeBinder) (i : ℕ) (b : RTypeBinder) → i < length xs → b ≡ get_or xs i b → BindersHaveDistinctLabels (binders_on no_binders xs) → BinderHasDistinctLabels (binder_of b)
labels_of_binder xs i b h is d = (subst (λ z. BindersHaveDistinctLabels z) (next_binder xs i b h is) (first_labels xs (i + 1) d)).1

-- BINDERS THAT GIVE
-- what is known of a type binder
abbrev pub own_of : RTypeBinder → PlainBound → KnownType
own_of b u = record { name = b.id.name.0; bound = u }

gives_more : (e d : Environment) (bs : TypeBinders) (own : List KnownType) (b : RTypeBinder) (u : PlainBound) → Runs (rule e (binders_give bs)) (ok own) → d ≡ with_own e own → stop_of_binder d (binder_of b) ≡ None → u ≡ own_bound d (binder_of b)
    → Runs (rule e (binders_give (more_binders bs (binder_of b)))) (ok (record { name = b.id.name.0; bound = u } ∷ own))
gives_more e d bs own b u h q s is =
    part_ok h (clear (stop_of_binder (with_own e own) (binder_of b)) (subst (λ z. stop_of_binder z (binder_of b) ≡ None) q s)
    (subst (λ (v : PlainBound). Runs {s = binders_} (give (record { name = b.id.name.0; bound = own_bound (with_own e own) (binder_of b) } ∷ own)) (ok (record { name = b.id.name.0; bound = v } ∷ own)))
    (sym (is ∙ ap (λ z. own_bound z (binder_of b)) q)) give_))

gives_next : (e d : Environment) (xs : List RTypeBinder) (i : ℕ) (own : List KnownType) (b : RTypeBinder) (u : PlainBound) → i < length xs → b ≡ get_or xs i b → Runs (rule e (binders_give (binders_on no_binders (take i xs)))) (ok own) → d ≡ with_own e own
    → stop_of_binder d (binder_of b) ≡ None → u ≡ own_bound d (binder_of b) → Runs (rule e (binders_give (binders_on no_binders (take (i + 1) xs)))) (ok (record { name = b.id.name.0; bound = u } ∷ own))
gives_next e d xs i own b u h is r q s k =
    subst (λ z. Runs (rule e (binders_give z)) (ok (record { name = b.id.name.0; bound = u } ∷ own))) (sym (next_binder xs i b h is)) (gives_more e d (binders_on no_binders (take i xs)) own b u r q s k)

pub none_opened : (ns : List (List ℕ)) (c : PlainContext) (xs : List RTypeBinder) (x : PlainBounds) → x ≡ no_bound → HasOpened (alone ns c) (alone ns c) (rule (alone ns c) (binders_give (binders_on no_binders (take 0 xs)))) x
unfolding binders_on
none_opened ns c xs x h = record { own = []; gives = give_; inside = refl; has = sym h }

pub one_opened : (ns ms ls : List (List ℕ)) (c c1 c2 : PlainContext) (xs : List RTypeBinder) (i : ℕ) (b : RTypeBinder) (x y : PlainBounds) (u : PlainBound) → i < length xs → b ≡ get_or xs i b
    → HasOpened (alone ns c) (alone ms c1) (rule (alone ns c) (binders_give (binders_on no_binders (take i xs)))) x → stop_of_binder (alone ms c1) (binder_of b) ≡ None → u ≡ own_bound (alone ms c1) (binder_of b)
    → ls ≡ ms → c2 ≡ record { name = b.id.name.0; what = Variable u } ∷ c1 → y ≡ and_bound x u → HasOpened (alone ns c) (alone ls c2) (rule (alone ns c) (binders_give (binders_on no_binders (take (i + 1) xs)))) y
one_opened ns ms ls c c1 c2 xs i b x y u h is o s k p q z =
    opened_more ns ms ls c c1 c2 x y (record { name = b.id.name.0; bound = u }) o p q z (gives_next (alone ns c) (alone ms c1) xs i o.own b u h is o.gives o.inside s k)

pub one_fits : (ns ms : List (List ℕ)) (c c1 : PlainContext) (xs : List RTypeBinder) (i : ℕ) (b : RTypeBinder) (x : PlainBounds) (u : PlainBound) → i < length xs → b ≡ get_or xs i b → IsWellAsked binders_ (alone ns c) (binders_give (binders_on no_binders xs))
    → HasOpened (alone ns c) (alone ms c1) (rule (alone ns c) (binders_give (binders_on no_binders (take i xs)))) x → stop_of_binder (alone ms c1) (binder_of b) ≡ None → u ≡ own_bound (alone ms c1) (binder_of b) → EntryIsWellFormed ms (variables c1) (Variable u)
one_fits ns ms c c1 xs i b x u h is a o s k =
    let e = alone ns c in
    let bs = binders_on no_binders (take (i + 1) xs) in
    let n : KnownType = record { name = b.id.name.0; bound = u } in
    fits_next e (alone ms c1) o.own n a.regular
    (regularity binders_ e (binders_give bs) (n ∷ o.own) (first_labels xs (i + 1) a.labels) a.regular tt (gives_next e (alone ms c1) xs i o.own b u h is o.gives o.inside s k)) o.inside

give_refused_on : (e : Environment) (bs : TypeBinders) (xs : List RTypeBinder) (y : InferError) → IsRefused (rule e (binders_give bs)) y → IsRefused (rule e (binders_give (binders_on bs xs))) y
unfolding binders_on
give_refused_on e bs [] y h = h
give_refused_on e bs (x ∷ xs) (Named c i told) h = give_refused_on e (more_binders bs (binder_of x)) xs (Named c i told) (part_stuck h)
give_refused_on e bs (x ∷ xs) Memory h = give_refused_on e (more_binders bs (binder_of x)) xs Memory tt

give_refused_here : (e d : Environment) (bs : TypeBinders) (own : List KnownType) (b : TypeBinder) (y : InferError) → Runs (rule e (binders_give bs)) (ok own) → d ≡ with_own e own → IsStopped (stop_of_binder d b) y → IsRefused (rule e (binders_give (more_binders bs b))) y
give_refused_here e d bs own b (Named c i told) r q h = part_ok r (stopped (stop_of_binder (with_own e own) b) _ (Named c i told) (subst (λ z. IsStopped (stop_of_binder z b) (Named c i told)) q h))
give_refused_here e d bs own b Memory r q h = tt

pub opening_refused : (e d : Environment) (xs : List RTypeBinder) (i : ℕ) (b : RTypeBinder) (x : PlainBounds) (y : InferError) → i < length xs → b ≡ get_or xs i b → HasOpened e d (rule e (binders_give (binders_on no_binders (take i xs)))) x
    → IsStopped (stop_of_binder d (binder_of b)) y → IsRefused (rule e (binders_give (binders_on no_binders xs))) y
opening_refused e d xs i b x y h is o s =
    subst (λ z. IsRefused (rule e (binders_give z)) y) (sym (first_then xs (i + 1)))
    (give_refused_on e (binders_on no_binders (take (i + 1) xs)) (drop (i + 1) xs) y
    (subst (λ z. IsRefused (rule e (binders_give z)) y) (sym (next_binder xs i b h is)) (give_refused_here e d (binders_on no_binders (take i xs)) o.own (binder_of b) y o.gives o.inside s)))

-- BINDERS AGAINST THE TYPE FIELDS OF A RECORD
split_on : {s t : Sort} (b : Bool) {r r' : Rule s} {q q' : Rule t} {k : Result s → Rule t} → GoesOn s t r q k → GoesOn s t r' q' k → GoesOn s t (if b then r else r') (if b then q else q') k
split_on true g h = g
split_on false g h = h

agreed_on : {s t : Sort} (e : Environment) (w : Bound) (b : PlainBound) (c : Code) (i : Span) {r : Rule s} {q : Rule t} {k : Result s → Rule t} → GoesOn s t r q k → GoesOn s t (need_same_bound e w b c i r) (need_same_bound e w b c i q) k
agreed_on e unbounded b c i g = g
agreed_on e (bound t) b c i g = split_on (is_top (normal e.names e.context t)) g (needed g)

ensured_on : {s t : Sort} (b : Bool) (c : Code) (i : Span) {r : Rule s} {q : Rule t} {k : Result s → Rule t} → GoesOn s t r q k → GoesOn s t (ensure b c i r) (ensure b c i q) k
ensured_on true c i g = g
ensured_on false c i g = refused

pub nth_is : (xs : List RBound) (i : ℕ) (x : RBound) → i < length xs → x ≡ get_or xs i x → nth_bound i (plain_bounds xs) ≡ plain_bound x
nth_is [] i x h is = absurd (omega (arith, h))
nth_is (y ∷ xs) zero x h is = ap plain_bound (sym is)
nth_is (y ∷ xs) (suc i) x h is = nth_is xs i x (omega (arith, h)) is

-- the field at the place of the next type binder
field_is : (xs : List RTypeBinder) (fs : List RBound) (i : ℕ) (f : RBound) → i ≤ length xs → i < length fs → f ≡ get_or fs i f → nth_bound (count_binders (binders_on no_binders (take i xs))) (plain_bounds fs) ≡ plain_bound f
field_is xs fs i f h k is = ap (λ n. nth_bound n (plain_bounds fs)) (count_of_binders (take i xs) ∙ length-take-le i xs h) ∙ nth_is fs i f k is

-- the lines of one type binder, and the rule that ends with them
abbrev pub against_step : Environment → TypeBinder → PlainBound → List KnownType → Rule binders_
against_step d b r own =
    unless_stopped (stop_of_binder d b) (
    ensure (kind_agrees (written_kind b) r) Y16 (binder_span b) (
    need_same_bound d (written_bound b) r Y16 (binder_span b) (
    give (record { name = binder_name b; bound = r } ∷ own))))

step_on : (d : Environment) (b : TypeBinder) (r : PlainBound) (own : List KnownType) → GoesOn nothing_ binders_ (binder_agrees d b r) (against_step d b r own) (λ x. give (record { name = binder_name b; bound = r } ∷ own))
step_on d b r own = unstopped (stop_of_binder d b) (ensured_on (kind_agrees (written_kind b) r) Y16 (binder_span b) (agreed_on d (written_bound b) r Y16 (binder_span b) given))

against_here : (e d : Environment) (bs : TypeBinders) (b : TypeBinder) (rs : PlainBounds) (own : List KnownType) (r : PlainBound) (a : Answer binders_) → Runs (rule e (binders_against bs rs)) (ok own) → d ≡ with_own e own → nth_bound (count_binders bs) rs ≡ r
    → Runs (against_step d b r own) a → Runs (rule e (binders_against (more_binders bs b) rs)) a
against_here e d bs b rs own r a h q n f =
    part_ok h (subst (λ v. Runs (against_step (with_own e own) b v own) a) (sym n) (subst (λ z. Runs (against_step z b r own) a) q f))

agrees_next : (e d : Environment) (xs : List RTypeBinder) (fs : List RBound) (i : ℕ) (own : List KnownType) (b : RTypeBinder) (f : RBound) → i < length xs → b ≡ get_or xs i b → i < length fs → f ≡ get_or fs i f
    → Runs (rule e (binders_against (binders_on no_binders (take i xs)) (plain_bounds fs))) (ok own) → d ≡ with_own e own → Runs (binder_agrees d (binder_of b) (plain_bound f)) (ok tt)
    → Runs (rule e (binders_against (binders_on no_binders (take (i + 1) xs)) (plain_bounds fs))) (ok (own_of b (plain_bound f) ∷ own))
agrees_next e d xs fs i own b f h is k at r q s =
    subst (λ z. Runs (rule e (binders_against z (plain_bounds fs))) (ok (own_of b (plain_bound f) ∷ own))) (sym (next_binder xs i b h is))
    (against_here e d (binders_on no_binders (take i xs)) (binder_of b) (plain_bounds fs) own (plain_bound f) _ r q (field_is xs fs i f (omega (arith, h)) k at)
    ((step_on d (binder_of b) (plain_bound f) own).on_ok tt _ s give_))

pub none_against : (ns : List (List ℕ)) (c : PlainContext) (xs : List RTypeBinder) (rs : PlainBounds) (fs : List RBound) → HasOpened (alone ns c) (alone ns c) (rule (alone ns c) (binders_against (binders_on no_binders (take 0 xs)) rs)) (plain_bounds (take 0 fs))
unfolding binders_on
none_against ns c xs rs fs = record { own = []; gives = give_; inside = refl; has = refl }

pub one_against : (ns ms ls : List (List ℕ)) (c c1 c2 : PlainContext) (xs : List RTypeBinder) (fs : List RBound) (i : ℕ) (b : RTypeBinder) (f : RBound) (u : PlainBound) → i < length xs → b ≡ get_or xs i b → i < length fs → f ≡ get_or fs i f
    → HasOpened (alone ns c) (alone ms c1) (rule (alone ns c) (binders_against (binders_on no_binders (take i xs)) (plain_bounds fs))) (plain_bounds (take i fs)) → Runs (binder_agrees (alone ms c1) (binder_of b) (plain_bound f)) (ok tt)
    → u ≡ plain_bound f → ls ≡ ms → c2 ≡ record { name = b.id.name.0; what = Variable u } ∷ c1
    → HasOpened (alone ns c) (alone ls c2) (rule (alone ns c) (binders_against (binders_on no_binders (take (i + 1) xs)) (plain_bounds fs))) (plain_bounds (take (i + 1) fs))
one_against ns ms ls c c1 c2 xs fs i b f u h is k at o s same p q =
    opened_more ns ms ls c c1 c2 (plain_bounds (take i fs)) (plain_bounds (take (i + 1) fs)) (own_of b (plain_bound f)) o p
    (q ∙ ap (λ (v : PlainBound). entry (own_of b v) ∷ c1) same)
    (ap plain_bounds (taken fs i f k at) ∙ bounds_and (take i fs) f)
    (agrees_next (alone ns c) (alone ms c1) xs fs i o.own b f h is k at o.gives o.inside s)

first_formed : (ns : List (List ℕ)) (ks : List Kind) (n : ℕ) (rs : PlainBounds) → BoundsAreWellFormed ns ks rs → BoundsAreWellFormed ns ks (first_bounds n rs)
first_formed ns ks zero rs h = tt
first_formed ns ks (suc n) no_bound h = tt
first_formed ns ks (suc n) (bounds b bs) h = (h.0, first_formed ns (kind_by b ∷ ks) n bs h.1)

pub against_fits : (ns ms : List (List ℕ)) (c c1 : PlainContext) (xs : List RTypeBinder) (fs : List RBound) (i : ℕ) (b : RTypeBinder) (f : RBound) (u : PlainBound) → i < length xs → b ≡ get_or xs i b → i < length fs → f ≡ get_or fs i f
    → IsWellAsked binders_ (alone ns c) (binders_against (binders_on no_binders xs) (plain_bounds fs))
    → HasOpened (alone ns c) (alone ms c1) (rule (alone ns c) (binders_against (binders_on no_binders (take i xs)) (plain_bounds fs))) (plain_bounds (take i fs)) → Runs (binder_agrees (alone ms c1) (binder_of b) (plain_bound f)) (ok tt)
    → u ≡ plain_bound f → EntryIsWellFormed ms (variables c1) (Variable u)
against_fits ns ms c c1 xs fs i b f u h is k at a o s same =
    let e = alone ns c in
    let bs = binders_on no_binders (take (i + 1) xs) in
    let n = own_of b (plain_bound f) in
    let few : count_binders bs ≤ count_bounds (plain_bounds fs) = omega (arith, h, k, count_of_binders (take (i + 1) xs), length-take-le (i + 1) xs (omega (arith, h)), count_bounds_length fs) in
    let good = regularity binders_ e (binders_against bs (plain_bounds fs)) (n ∷ o.own) (first_labels xs (i + 1) a.labels) a.regular (few, a.asked.1) (agrees_next e (alone ms c1) xs fs i o.own b f h is k at o.gives o.inside s) in
    subst (λ (v : PlainBound). EntryIsWellFormed ms (variables c1) (Variable v)) (sym same)
    (fits_next e (alone ms c1) o.own n a.regular
    (subst (λ z. BoundsAreWellFormed ns (kinds_in e) z) (sym good) (first_formed ns (kinds_in e) (count_binders bs) (plain_bounds fs) a.asked.1)) o.inside)

against_refused_on : (e : Environment) (bs : TypeBinders) (xs : List RTypeBinder) (rs : PlainBounds) (y : InferError) → IsRefused (rule e (binders_against bs rs)) y → IsRefused (rule e (binders_against (binders_on bs xs) rs)) y
unfolding binders_on
against_refused_on e bs [] rs y h = h
against_refused_on e bs (x ∷ xs) rs (Named c i told) h = against_refused_on e (more_binders bs (binder_of x)) xs rs (Named c i told) (part_stuck h)
against_refused_on e bs (x ∷ xs) rs Memory h = against_refused_on e (more_binders bs (binder_of x)) xs rs Memory tt

against_refused_here : (e d : Environment) (bs : TypeBinders) (b : TypeBinder) (rs : PlainBounds) (own : List KnownType) (r : PlainBound) (y : InferError) → Runs (rule e (binders_against bs rs)) (ok own) → d ≡ with_own e own → nth_bound (count_binders bs) rs ≡ r
    → IsRefused (binder_agrees d b r) y → IsRefused (rule e (binders_against (more_binders bs b) rs)) y
against_refused_here e d bs b rs own r (Named c i told) h q n s = against_here e d bs b rs own r (stuck c i) h q n ((step_on d b r own).on_stuck c i s)
against_refused_here e d bs b rs own r Memory h q n s = tt

pub against_refused : (e d : Environment) (xs : List RTypeBinder) (fs : List RBound) (i : ℕ) (b : RTypeBinder) (f : RBound) (x : PlainBounds) (y : InferError) → i < length xs → b ≡ get_or xs i b → i < length fs → f ≡ get_or fs i f
    → HasOpened e d (rule e (binders_against (binders_on no_binders (take i xs)) (plain_bounds fs))) x → IsRefused (binder_agrees d (binder_of b) (plain_bound f)) y → IsRefused (rule e (binders_against (binders_on no_binders xs) (plain_bounds fs))) y
against_refused e d xs fs i b f x y h is k at o s =
    subst (λ z. IsRefused (rule e (binders_against z (plain_bounds fs))) y) (sym (first_then xs (i + 1)))
    (against_refused_on e (binders_on no_binders (take (i + 1) xs)) (drop (i + 1) xs) (plain_bounds fs) y
    (subst (λ z. IsRefused (rule e (binders_against z (plain_bounds fs))) y) (sym (next_binder xs i b h is))
    (against_refused_here e d (binders_on no_binders (take i xs)) (binder_of b) (plain_bounds fs) o.own (plain_bound f) y o.gives o.inside (field_is xs fs i f (omega (arith, h)) k at) s)))
