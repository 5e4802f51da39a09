-- Binders of values have the numbers that tell the order in which they are bound.
use Rattle.std.proofs.Common.{◌≡◌, ℕ, Bool, true, false, nat_eq, if◌then◌else◌, List, [], ◌∷◌, ◌++◌, map, length, Option, Some, None, option_map, refl, sym, ◌∙◌, ap, ap₂, subst, append_assoc, true≢false}
use Rattle.std.proofs.lemmas.List.{map-append}
use Rattle.pict_syntax.specs.declared.code.Code.{Code}
use Rattle.pict_syntax.specs.declared.primitive.Primitive.{Primitive}
use Rattle.pict_syntax.specs.declared.span.Span.{Span}
use Rattle.pict_syntax.specs.declared.id.Id.{Id}
use Rattle.pict_syntax.specs.Names.{text_of}
use Rattle.pict_binders.specs.declared.binders.Binder.{Binder}
use Rattle.pict_binders.specs.Numbered.{nearest}
use Rattle.pict_scope.specs.declared.target.Target.{Target}
use Rattle.pict_scope.specs.declared.target.Target.TheVariants.{Prim}
use Rattle.pict_scope.specs.PrimitiveNames.{primitive_named}
use Rattle.pict_scope.specs.Around.{Around, is_among, or_primitive, with_value, with_values, with_group, past_type, before_pattern, behind_pattern}
use Rattle.pict_scope.specs.Marks.{Mark, value_used, type_used, value_bound, stands_twice, first_stop, value_meanings, binders_read}
use Rattle.pict_scope.specs.Outlines.{Outline, empty, ◌▸◌, closed, value_use, type_use, binds_value, binds_type, binds_all, defines, pattern_value, pattern_type, pattern, group, once, opens, marks, twice_if, twice_if_bound, bound_as}
use Rattle.pict_scope.proofs.Clean.{left_clean, right_clean}
use Rattle.pict_named.specs.Phrases.{Use, AreOthers}
use Rattle.pict_named.specs.Binders.{values_bound}
use Rattle.pict_named.specs.Laws.{AreTargetsOf}
use Rattle.pict_named.proofs.Standing.{Ids, no_pattern, onto, stands, value_uses_of, some, id_at, Match, match_both, found_some, found_none, nothing_bound, one_further, first_part, second_part, behind_one, at_place}

-- the binders in the order of their numbers
abbrev pub numbered : Outline → List Id
numbered (o ▸ p) = numbered o ++ numbered p
numbered (closed o) = numbered o
numbered (binds_value x) = x ∷ []
numbered (binds_type x o) = numbered o
numbered (binds_all xs) = xs
numbered (pattern_value x) = x ∷ []
numbered (pattern_type x o) = numbered o
numbered (pattern o p) = numbered o ++ numbered p
numbered (group o) = numbered o
numbered _ = []

-- the nearest of a name among these
abbrev pub first_id : List Id → ℕ → Option Id
first_id [] n = None
first_id (x ∷ xs) n = if nat_eq x.name.0 n then Some x else first_id xs n

-- each name of a `def` is, where it is read, that of the binder which the `def` made of it
unfoldable pub Defined : Outline → Ids → Type 0
Defined (o ▸ p) g = Defined o g × Defined p (stands o g)
Defined (closed o) g = Defined o g
Defined (binds_type x o) g = Defined o g
Defined (defines x) g = first_id g.values x.name.0 ≡ Some x
Defined (pattern_type x o) g = Defined o g
Defined (pattern o p) g = Defined o (no_pattern g) × Defined p g
Defined (group o) g = Defined o g
Defined _ g = Unit {0}

targets_both : (texts : List (List ℕ)) (all : List Id) (us vs : List Use) (ts rs : List Target) → AreTargetsOf texts all us ts → AreTargetsOf texts all vs rs → AreTargetsOf texts all (us ++ vs) (ts ++ rs)
targets_both texts all [] vs [] rs h k = k
targets_both texts all [] vs (t ∷ ts) rs h k = absurd h
targets_both texts all (u ∷ us) vs [] rs h k = absurd h
targets_both texts all (u ∷ us) vs (t ∷ ts) rs h k = (h.0, targets_both texts all us vs ts rs h.1 k)

pub record ValuesMatch (all : List Id) (a : Around) (g : Ids) : Type 0 where
  pub values : Match all a.values g.values
  pub pattern_values : Match all a.pattern_values g.pattern_values

-- from here on these identifiers are bound, and each use has its target, by numbers
pub record GoesOn (texts : List (List ℕ)) (all before : List Id) (o : Outline) (a : Around) (g : Ids) : Type 0 where
  pub counts : (opens o a).next_value ≡ length (before ++ numbered o)
  pub good : ValuesMatch all (opens o a) (stands o g)
  pub texts_ : (opens o a).texts ≡ texts
  pub used : AreTargetsOf texts all (value_uses_of o g) (value_meanings (marks o a))
  pub bound : map (id_at all) (binders_read (marks o a)) ≡ map some (values_bound o)

meanings_on : (ms ns : List Mark) → value_meanings (ms ++ ns) ≡ value_meanings ms ++ value_meanings ns
meanings_on [] ns = refl
meanings_on (value_used s None ∷ ms) ns = meanings_on ms ns
meanings_on (value_used s (Some t) ∷ ms) ns = ap (λ x. t ∷ x) (meanings_on ms ns)
meanings_on (type_used s t ∷ ms) ns = meanings_on ms ns
meanings_on (value_bound k ∷ ms) ns = meanings_on ms ns
meanings_on (stands_twice c s ∷ ms) ns = meanings_on ms ns

binders_on : (ms ns : List Mark) → binders_read (ms ++ ns) ≡ binders_read ms ++ binders_read ns
binders_on [] ns = refl
binders_on (value_used s t ∷ ms) ns = binders_on ms ns
binders_on (type_used s t ∷ ms) ns = binders_on ms ns
binders_on (value_bound k ∷ ms) ns = ap (λ x. k ∷ x) (binders_on ms ns)
binders_on (stands_twice c s ∷ ms) ns = binders_on ms ns

-- marks of names that stand twice say neither
abbrev Silent : List Mark → Type 0
Silent ms = (value_meanings ms ≡ []) × (binders_read ms ≡ [])

silent_twice : (b : Bool) (c : Code) (x : Id) → Silent (twice_if b c x)
silent_twice true c x = (refl, refl)
silent_twice false c x = (refl, refl)

silent_bound : (o : Option ℕ) (x : Id) → Silent (twice_if_bound o x)
silent_bound (Some k) x = (refl, refl)
silent_bound None x = (refl, refl)

used_on : (texts : List (List ℕ)) (all : List Id) (us vs : List Use) (xs ys : List Mark) → AreTargetsOf texts all us (value_meanings xs) → AreTargetsOf texts all vs (value_meanings ys) → AreTargetsOf texts all (us ++ vs) (value_meanings (xs ++ ys))
used_on texts all us vs xs ys h k = subst (AreTargetsOf texts all (us ++ vs)) (sym (meanings_on xs ys)) (targets_both texts all us vs (value_meanings xs) (value_meanings ys) h k)

bound_on : (all ns ms : List Id) (xs ys : List Mark) → map (id_at all) (binders_read xs) ≡ map some ns → map (id_at all) (binders_read ys) ≡ map some ms → map (id_at all) (binders_read (xs ++ ys)) ≡ map some (ns ++ ms)
bound_on all ns ms xs ys h k =
    ap (map (id_at all)) (binders_on xs ys) ∙ (map-append (id_at all) (binders_read xs) (binders_read ys) ∙ (ap₂ (λ x y. x ++ y) h k ∙ sym (map-append some ns ms)))

silent_used : (texts : List (List ℕ)) (all : List Id) (us : List Use) (xs ys : List Mark) → Silent xs → AreTargetsOf texts all us (value_meanings ys) → AreTargetsOf texts all us (value_meanings (xs ++ ys))
silent_used texts all us xs ys h k = subst (AreTargetsOf texts all us) (sym (meanings_on xs ys ∙ ap (λ z. z ++ value_meanings ys) h.0)) k

silent_on : (all ms : List Id) (xs ys : List Mark) → Silent xs → map (id_at all) (binders_read ys) ≡ map some ms → map (id_at all) (binders_read (xs ++ ys)) ≡ map some ms
silent_on all ms xs ys h k = ap (map (id_at all)) (binders_on xs ys ∙ ap (λ z. z ++ binders_read ys) h.1) ∙ k

-- a use of a value
prim_meant : (texts : List (List ℕ)) (all xs : List Id) (s : Span) (n : ℕ) (q : Option Primitive) → AreOthers n xs → primitive_named (text_of texts n) ≡ q
    → first_stop (value_used s (option_map Prim q) ∷ []) ≡ None → AreTargetsOf texts all (record { name = n; around = xs } ∷ []) (value_meanings (value_used s (option_map Prim q) ∷ []))
prim_meant texts all xs s n (Some q) h e c = ((e, h), tt)
prim_meant texts all xs s n None h e c = absurd cc

use_meant : (texts : List (List ℕ)) (all : List Id) (bs : List Binder) (xs : List Id) (s : Span) (n : ℕ) → Match all bs xs → (o : Option ℕ) → nearest bs n ≡ o
    → first_stop (value_used s (or_primitive o (text_of texts n)) ∷ []) ≡ None → AreTargetsOf texts all (record { name = n; around = xs } ∷ []) (value_meanings (value_used s (or_primitive o (text_of texts n)) ∷ []))
use_meant texts all bs xs s n g (Some k) h c = let f = found_some all bs xs n k g h in (record { binder = f.binder; stands = f.at_; is_nearest = f.is_nearest }, tt)
use_meant texts all bs xs s n g None h c = prim_meant texts all xs s n (primitive_named (text_of texts n)) (found_none all bs xs n g h) refl c

abbrev UseIsMeant : List (List ℕ) → List Id → Around → List Id → Span → ℕ → List (List ℕ) → Type 0
UseIsMeant texts all a xs s n ts = first_stop (value_used s (or_primitive (nearest a.values n) (text_of ts n)) ∷ []) ≡ None → AreTargetsOf texts all (record { name = n; around = xs } ∷ []) (value_meanings (value_used s (or_primitive (nearest a.values n) (text_of ts n)) ∷ []))

use_here : (texts : List (List ℕ)) (all : List Id) (a : Around) (xs : List Id) (s : Span) (n : ℕ) → a.texts ≡ texts → Match all a.values xs → UseIsMeant texts all a xs s n a.texts
use_here texts all a xs s n e g = subst (UseIsMeant texts all a xs s n) (sym e) (use_meant texts all a.values xs s n g (nearest a.values n) refl)

-- the names of a `def`, one after the other
record AllBound (all before xs around : List Id) (a : Around) : Type 0 where
  counts : (with_values xs a).next_value ≡ length (before ++ xs)
  values : Match all (with_values xs a).values (onto xs around)
  pattern_values : (with_values xs a).pattern_values ≡ a.pattern_values
  texts_ : (with_values xs a).texts ≡ a.texts

all_bound : (all before after xs around : List Id) (a : Around) → all ≡ before ++ (xs ++ after) → a.next_value ≡ length before → Match all a.values around → AllBound all before xs around a
all_bound all before after [] around a h n g = record { counts = nothing_bound before n; values = g; pattern_values = refl; texts_ = refl }
all_bound all before after (x ∷ xs) around a h n g =
    let y = all_bound all (before ++ x ∷ []) after xs (x ∷ around) (with_value x a) (behind_one before xs after all x h) (one_further before x n) (at_place before xs after all x a.next_value h n, refl, g) in
    record { counts = y.counts ∙ ap length (append_assoc before (x ∷ []) xs); values = y.values; pattern_values = y.pattern_values; texts_ = y.texts_ }

-- a name that is read where its `def` bound it
id_found : (all : List Id) (bs : List Binder) (xs : List Id) (n : ℕ) (x : Id) → Match all bs xs → first_id xs n ≡ Some x → (k : ℕ) × (nearest bs n ≡ Some k) × (id_at all k ≡ Some x)
id_found all [] [] n x h e = absurd cc
id_found all [] (y ∷ ys) n x h e = absurd h
id_found all (b ∷ bs) [] n x h e = absurd h
id_found all (b ∷ bs) (y ∷ ys) n x h e = go (nat_eq b.name n) (nat_eq y.name.0 n) (ap (λ m. nat_eq m n) h.1) e (id_found all bs ys n x h.2)
  where
    go : (t u : Bool) → t ≡ u → (if u then some y else first_id ys n) ≡ Some x → (first_id ys n ≡ Some x → (k : ℕ) × (nearest bs n ≡ Some k) × (id_at all k ≡ Some x))
        → (k : ℕ) × ((if t then some b.number else nearest bs n) ≡ Some k) × (id_at all k ≡ Some x)
    go true true q e f = (b.number, refl, h.0 ∙ e)
    go false false q e f = f e
    go true false q e f = absurd (true≢false q)
    go false true q e f = absurd (true≢false (sym q))

bound_mark : (all : List Id) (bs : List Binder) (xs : List Id) (x : Id) → Match all bs xs → first_id xs x.name.0 ≡ Some x → map (id_at all) (binders_read (bound_as (nearest bs x.name.0))) ≡ some x ∷ []
bound_mark all bs xs x g d =
    let k = id_found all bs xs x.name.0 x g d in
    ap (λ o. map (id_at all) (binders_read (bound_as o))) k.1 ∙ ap (λ z. z ∷ []) k.2

as_unused : (o : Option ℕ) → value_meanings (bound_as o) ≡ []
as_unused (Some k) = refl
as_unused None = refl

none_used : (texts : List (List ℕ)) (all : List Id) (ts : List Target) → ts ≡ [] → AreTargetsOf texts all [] ts
none_used texts all ts h = subst (AreTargetsOf texts all []) (sym h) tt

pub goes_on : (texts : List (List ℕ)) (all before after : List Id) (o : Outline) (a : Around) (g : Ids) → all ≡ before ++ (numbered o ++ after) → a.next_value ≡ length before → ValuesMatch all a g → a.texts ≡ texts → Defined o g → first_stop (marks o a) ≡ None → GoesOn texts all before o a g
unfolding opens marks Defined stands value_uses_of
goes_on texts all before after empty a g h n m t d c = record { counts = nothing_bound before n; good = m; texts_ = t; used = tt; bound = refl }
goes_on texts all before after (o ▸ p) a g h n m t d c =
    let x = goes_on texts all before (numbered p ++ after) o a g (first_part before (numbered o) (numbered p) after all h) n m t d.0 (left_clean (marks o a) (marks p (opens o a)) c) in
    let y = goes_on texts all (before ++ numbered o) after p (opens o a) (stands o g) (second_part before (numbered o) (numbered p) after all h) x.counts x.good x.texts_ d.1 (right_clean (marks o a) (marks p (opens o a)) c) in
    record {
      counts = y.counts ∙ ap length (append_assoc before (numbered o) (numbered p));
      good = y.good;
      texts_ = y.texts_;
      used = used_on texts all (value_uses_of o g) (value_uses_of p (stands o g)) (marks o a) (marks p (opens o a)) x.used y.used;
      bound = bound_on all (values_bound o) (values_bound p) (marks o a) (marks p (opens o a)) x.bound y.bound;
    }
goes_on texts all before after (closed o) a g h n m t d c =
    let x = goes_on texts all before after o a g h n m t d c in
    record { counts = x.counts; good = record { values = m.values; pattern_values = x.good.pattern_values }; texts_ = x.texts_; used = x.used; bound = x.bound }
goes_on texts all before after (value_use s k) a g h n m t d c = record { counts = nothing_bound before n; good = m; texts_ = t; used = use_here texts all a g.values s k t m.values c; bound = refl }
goes_on texts all before after (type_use s k) a g h n m t d c = record { counts = nothing_bound before n; good = m; texts_ = t; used = no_types s (nearest a.types_ k); bound = refl }
  where
    no_types : (s : Span) (o : Option ℕ) → AreTargetsOf texts all [] (value_meanings (type_used s o ∷ []))
    no_types s o = tt
goes_on texts all before after (binds_value x) a g h n m t d c =
    let e = at_place before [] after all x a.next_value h n in
    record { counts = one_further before x n; good = record { values = (e, refl, m.values); pattern_values = m.pattern_values }; texts_ = t; used = tt; bound = ap (λ z. z ∷ []) e }
goes_on texts all before after (binds_type x o) a g h n m t d c =
    let y = goes_on texts all before after o (past_type a) g h n (record { values = m.values; pattern_values = m.pattern_values }) t d c in
    record { counts = y.counts; good = record { values = y.good.values; pattern_values = y.good.pattern_values }; texts_ = y.texts_; used = y.used; bound = y.bound }
goes_on texts all before after (binds_all xs) a g h n m t d c =
    let y = all_bound all before after xs g.values a h n m.values in
    record { counts = y.counts; good = record { values = y.values; pattern_values = subst (λ bs. Match all bs g.pattern_values) (sym y.pattern_values) m.pattern_values }; texts_ = y.texts_ ∙ t; used = tt; bound = refl }
goes_on texts all before after (defines x) a g h n m t d c =
    record { counts = nothing_bound before n; good = m; texts_ = t; used = none_used texts all _ (as_unused (nearest a.values x.name.0)); bound = bound_mark all a.values g.values x m.values d }
goes_on texts all before after (pattern_value x) a g h n m t d c =
    let q = twice_if_bound (nearest a.pattern_values x.name.0) x in
    let e = at_place before [] after all x a.next_value h n in
    record {
      counts = one_further before x n;
      good = record { values = m.values; pattern_values = (e, refl, m.pattern_values) };
      texts_ = t;
      used = silent_used texts all [] q (value_bound a.next_value ∷ []) (silent_bound (nearest a.pattern_values x.name.0) x) tt;
      bound = silent_on all (x ∷ []) q (value_bound a.next_value ∷ []) (silent_bound (nearest a.pattern_values x.name.0) x) (ap (λ z. z ∷ []) e);
    }
goes_on texts all before after (pattern_type x o) a g h n m t d c =
    let q = twice_if_bound (nearest a.pattern_types x.name.0) x in
    let z = silent_bound (nearest a.pattern_types x.name.0) x in
    let y = goes_on texts all before after o (past_type a) g h n (record { values = m.values; pattern_values = m.pattern_values }) t d (right_clean q (marks o (past_type a)) c) in
    record {
      counts = y.counts;
      good = record { values = y.good.values; pattern_values = y.good.pattern_values };
      texts_ = y.texts_;
      used = silent_used texts all (value_uses_of o g) q (marks o (past_type a)) z y.used;
      bound = silent_on all (values_bound o) q (marks o (past_type a)) z y.bound;
    }
goes_on texts all before after (pattern o p) a g h n m t d c =
    let b = opens o (before_pattern a) in
    let e = behind_pattern a b in
    let i = stands o (no_pattern g) in
    let x = goes_on texts all before (numbered p ++ after) o (before_pattern a) (no_pattern g) (first_part before (numbered o) (numbered p) after all h) n (record { values = m.values; pattern_values = tt }) t d.0 (left_clean (marks o (before_pattern a)) (marks p e) c) in
    let y = goes_on texts all (before ++ numbered o) after p e g (second_part before (numbered o) (numbered p) after all h) x.counts (record { values = m.values; pattern_values = m.pattern_values }) x.texts_ d.1 (right_clean (marks o (before_pattern a)) (marks p e) c) in
    record {
      counts = y.counts ∙ ap length (append_assoc before (numbered o) (numbered p));
      good = record { values = match_both all b.pattern_values (opens p e).values i.pattern_values (stands p g).values x.good.pattern_values y.good.values; pattern_values = y.good.pattern_values };
      texts_ = y.texts_;
      used = used_on texts all (value_uses_of o (no_pattern g)) (value_uses_of p g) (marks o (before_pattern a)) (marks p e) x.used y.used;
      bound = bound_on all (values_bound o) (values_bound p) (marks o (before_pattern a)) (marks p e) x.bound y.bound;
    }
goes_on texts all before after (group o) a g h n m t d c =
    let x = goes_on texts all before after o (with_group [] a) g h n (record { values = m.values; pattern_values = m.pattern_values }) t d c in
    record { counts = x.counts; good = record { values = x.good.values; pattern_values = x.good.pattern_values }; texts_ = x.texts_; used = x.used; bound = x.bound }
goes_on texts all before after (once k x) a g h n m t d c =
    let z = silent_twice (is_among a.group x.name.0) k x in
    record { counts = nothing_bound before n; good = record { values = m.values; pattern_values = m.pattern_values }; texts_ = t; used = none_used texts all _ z.0; bound = ap (map (id_at all)) z.1 }
