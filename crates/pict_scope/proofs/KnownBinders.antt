-- Outlines in which each number that a use means is that of a binder which is read.
use Rattle.std.proofs.Common.{◌≡◌, ℕ, Bool, true, false, nat_eq, List, [], ◌∷◌, ◌++◌, Option, Some, None, ◌⊎◌, refl, sym, subst}
use Rattle.std.specs.Prelude.{if◌then◌else◌}
use Rattle.std.specs.Option.{option_map}
use Rattle.pict_syntax.specs.declared.code.Code.{Code}
use Rattle.pict_syntax.specs.declared.primitive.Primitive.{Primitive}
use Rattle.pict_syntax.specs.declared.span.Span.{Span}
use Rattle.pict_syntax.specs.declared.id.Id.{Id}
use Rattle.pict_syntax.specs.Names.{text_of}
use Rattle.pict_binders.specs.declared.binders.Binder.{Binder}
use Rattle.pict_binders.specs.Numbered.{nearest}
use Rattle.pict_scope.specs.PrimitiveNames.{primitive_named}
use Rattle.pict_scope.specs.declared.target.Target.{Target}
use Rattle.pict_scope.specs.declared.target.Target.TheVariants.{Prim, Binder as BinderTarget}
use Rattle.pict_scope.specs.Around.{Around, or_primitive, is_among, past_type, with_group, before_pattern, behind_pattern}
use Rattle.pict_scope.specs.Marks.{Mark, value_used, value_bound, first_stop, value_meanings, binders_read}
use Rattle.pict_scope.specs.Outlines.{Outline, empty, ◌▸◌, closed, value_use, type_use, binds_value, binds_type, defines, pattern_value, pattern_type, pattern, group, once, opens, marks, twice_if, twice_if_bound, bound_as}
use Rattle.pict_scope.proofs.Clean.{left_clean, right_clean}
use Rattle.pict_scope.proofs.Reading.{values_both, binders_both}

abbrev pub StandsIn : List ℕ → ℕ → Type 0
StandsIn [] n = ⊥
StandsIn (m ∷ ms) n = (n ≡ m) ⊎ StandsIn ms n

abbrev pub EachIn : List ℕ → List ℕ → Type 0
EachIn all [] = Unit {0}
EachIn all (n ∷ ns) = StandsIn all n × EachIn all ns

abbrev pub EachKnown : List ℕ → List Binder → Type 0
EachKnown all [] = Unit {0}
EachKnown all (b ∷ bs) = StandsIn all b.number × EachKnown all bs

abbrev pub IsKnown : List ℕ → Target → Type 0
IsKnown all (Prim p) = Unit {0}
IsKnown all (BinderTarget n) = StandsIn all n

abbrev pub AreKnown : List ℕ → List Target → Type 0
AreKnown all [] = Unit {0}
AreKnown all (t ∷ ts) = IsKnown all t × AreKnown all ts

pub in_left : (all xs ys : List ℕ) → EachIn all (xs ++ ys) → EachIn all xs
in_left all [] ys h = tt
in_left all (x ∷ xs) ys h = (h.0, in_left all xs ys h.1)

pub in_right : (all xs ys : List ℕ) → EachIn all (xs ++ ys) → EachIn all ys
in_right all [] ys h = h
in_right all (x ∷ xs) ys h = in_right all xs ys h.1

pub known_both : (all : List ℕ) (xs ys : List Target) → AreKnown all xs → AreKnown all ys → AreKnown all (xs ++ ys)
known_both all [] ys h k = k
known_both all (x ∷ xs) ys h k = (h.0, known_both all xs ys h.1 k)

pub binders_known : (all : List ℕ) (xs ys : List Binder) → EachKnown all xs → EachKnown all ys → EachKnown all (xs ++ ys)
binders_known all [] ys h k = k
binders_known all (x ∷ xs) ys h k = (h.0, binders_known all xs ys h.1 k)

pub nearest_known : (all : List ℕ) (bs : List Binder) (n k : ℕ) → EachKnown all bs → nearest bs n ≡ Some k → StandsIn all k
nearest_known all [] n k h e = absurd cc
nearest_known all (b ∷ bs) n k h e = go (nat_eq b.name n) (nearest_known all bs n k h.1) e
  where
    go : (t : Bool) → (nearest bs n ≡ Some k → StandsIn all k) → (if t then Some b.number else nearest bs n) ≡ Some k → StandsIn all k
    go true r e = let z : b.number ≡ k = cc in subst (StandsIn all) z h.0
    go false r e = r e

-- what stands around is known, and so is what an outline binds and means, where nothing in it stops and its binders are known
pub record Known (all : List ℕ) (a : Around) : Type 0 where
  pub values : EachKnown all a.values
  pub pattern_values : EachKnown all a.pattern_values

pub record Given (all : List ℕ) (o : Outline) (a : Around) : Type 0 where
  pub known : Known all a
  pub clean : first_stop (marks o a) ≡ None
  pub read : EachIn all (binders_read (marks o a))

pub record Gives (all : List ℕ) (o : Outline) (a : Around) : Type 0 where
  pub known : Known all (opens o a)
  pub meanings : AreKnown all (value_meanings (marks o a))

pub record IsFine (o : Outline) : Type 0 where
  pub fine : (all : List ℕ) (a : Around) → Given all o a → Gives all o a

pub empty_fine : IsFine empty
unfolding opens marks
empty_fine = record { fine = λ all a g. record { known = g.known; meanings = tt } }

pub then_fine : (o p : Outline) → IsFine o → IsFine p → IsFine (o ▸ p)
unfolding opens marks
then_fine o p f h = record {
  fine = λ all a g.
      let ms = marks o a in
      let ns = marks p (opens o a) in
      let read : EachIn all (binders_read ms ++ binders_read ns) = subst (EachIn all) (binders_both ms ns) g.read in
      let first = f.fine all a (record { known = g.known; clean = left_clean ms ns g.clean; read = in_left all (binders_read ms) (binders_read ns) read }) in
      let second = h.fine all (opens o a) (record { known = first.known; clean = right_clean ms ns g.clean; read = in_right all (binders_read ms) (binders_read ns) read }) in
      record { known = second.known; meanings = subst (AreKnown all) (sym (values_both ms ns)) (known_both all (value_meanings ms) (value_meanings ns) first.meanings second.meanings) };
}

pub closed_fine : (o : Outline) → IsFine o → IsFine (closed o)
unfolding opens marks
closed_fine o f = record {
  fine = λ all a g.
      let inside = f.fine all a (record { known = g.known; clean = g.clean; read = g.read }) in
      record { known = record { values = g.known.values; pattern_values = inside.known.pattern_values }; meanings = inside.meanings };
}

pub meaning_known : (all : List ℕ) (bs : List Binder) (n : ℕ) (s : Span) (text : List ℕ) (q : Option ℕ) → EachKnown all bs → nearest bs n ≡ q → AreKnown all (value_meanings (value_used s (or_primitive q text) ∷ []))
meaning_known all bs n s text (Some k) h e = (nearest_known all bs n k h e, tt)
meaning_known all bs n s text None h e = primitive (primitive_named text)
  where
    primitive : (p : Option Primitive) → AreKnown all (value_meanings (value_used s (option_map Prim p) ∷ []))
    primitive None = tt
    primitive (Some p) = (tt, tt)

pub value_use_fine : (s : Span) (n : ℕ) → IsFine (value_use s n)
unfolding opens marks
value_use_fine s n = record {
  fine = λ all a g. record { known = g.known; meanings = meaning_known all a.values n s (text_of a.texts n) (nearest a.values n) g.known.values refl };
}

pub type_use_fine : (s : Span) (n : ℕ) → IsFine (type_use s n)
unfolding opens marks
type_use_fine s n = record { fine = λ all a g. record { known = g.known; meanings = tt } }

pub binds_value_fine : (x : Id) → IsFine (binds_value x)
unfolding opens marks
binds_value_fine x = record {
  fine = λ all a g. record { known = record { values = (g.read.0, g.known.values); pattern_values = g.known.pattern_values }; meanings = tt };
}

pub binds_type_fine : (x : Id) (o : Outline) → IsFine o → IsFine (binds_type x o)
unfolding opens marks
binds_type_fine x o f = record {
  fine = λ all a g.
      let inside = f.fine all (past_type a) (record { known = record { values = g.known.values; pattern_values = g.known.pattern_values }; clean = g.clean; read = g.read }) in
      record { known = record { values = inside.known.values; pattern_values = inside.known.pattern_values }; meanings = inside.meanings };
}

pub bound_means_nothing : (all : List ℕ) (q : Option ℕ) → AreKnown all (value_meanings (bound_as q))
bound_means_nothing all None = tt
bound_means_nothing all (Some k) = tt

pub defines_fine : (x : Id) → IsFine (defines x)
unfolding opens marks
defines_fine x = record { fine = λ all a g. record { known = g.known; meanings = bound_means_nothing all (nearest a.values x.name.0) } }

-- a name that stands twice is no binder and means nothing
pub past_twice : (all : List ℕ) (q : Option ℕ) (x : Id) (ms : List Mark) → EachIn all (binders_read (twice_if_bound q x ++ ms)) → EachIn all (binders_read ms)
past_twice all None x ms h = h
past_twice all (Some k) x ms h = h

pub twice_means_nothing : (all : List ℕ) (q : Option ℕ) (x : Id) (ms : List Mark) → AreKnown all (value_meanings ms) → AreKnown all (value_meanings (twice_if_bound q x ++ ms))
twice_means_nothing all None x ms h = h
twice_means_nothing all (Some k) x ms h = h

pub once_means_nothing : (all : List ℕ) (b : Bool) (c : Code) (x : Id) → AreKnown all (value_meanings (twice_if b c x))
once_means_nothing all false c x = tt
once_means_nothing all true c x = tt

pub pattern_value_fine : (x : Id) → IsFine (pattern_value x)
unfolding opens marks
pattern_value_fine x = record {
  fine = λ all a g.
      let q = nearest a.pattern_values x.name.0 in
      let read = past_twice all q x (value_bound a.next_value ∷ []) g.read in
      record { known = record { values = g.known.values; pattern_values = (read.0, g.known.pattern_values) }; meanings = twice_means_nothing all q x (value_bound a.next_value ∷ []) tt };
}

pub pattern_type_fine : (x : Id) (o : Outline) → IsFine o → IsFine (pattern_type x o)
unfolding opens marks
pattern_type_fine x o f = record {
  fine = λ all a g.
      let q = nearest a.pattern_types x.name.0 in
      let ms = marks o (past_type a) in
      let inside = f.fine all (past_type a) (record { known = record { values = g.known.values; pattern_values = g.known.pattern_values }; clean = right_clean (twice_if_bound q x) ms g.clean; read = past_twice all q x ms g.read }) in
      record { known = record { values = inside.known.values; pattern_values = inside.known.pattern_values }; meanings = twice_means_nothing all q x ms inside.meanings };
}

pub pattern_fine : (o p : Outline) → IsFine o → IsFine p → IsFine (pattern o p)
unfolding opens marks
pattern_fine o p f h = record {
  fine = λ all a g.
      let b = before_pattern a in
      let i = opens o b in
      let ms = marks o b in
      let ns = marks p (behind_pattern a i) in
      let read : EachIn all (binders_read ms ++ binders_read ns) = subst (EachIn all) (binders_both ms ns) g.read in
      let first = f.fine all b (record { known = record { values = g.known.values; pattern_values = tt }; clean = left_clean ms ns g.clean; read = in_left all (binders_read ms) (binders_read ns) read }) in
      let second = h.fine all (behind_pattern a i) (record { known = record { values = g.known.values; pattern_values = g.known.pattern_values }; clean = right_clean ms ns g.clean; read = in_right all (binders_read ms) (binders_read ns) read }) in
      record {
        known = record { values = binders_known all i.pattern_values (opens p (behind_pattern a i)).values first.known.pattern_values second.known.values; pattern_values = second.known.pattern_values };
        meanings = subst (AreKnown all) (sym (values_both ms ns)) (known_both all (value_meanings ms) (value_meanings ns) first.meanings second.meanings);
      };
}

pub group_fine : (o : Outline) → IsFine o → IsFine (group o)
unfolding opens marks
group_fine o f = record {
  fine = λ all a g.
      let inside = f.fine all (with_group [] a) (record { known = record { values = g.known.values; pattern_values = g.known.pattern_values }; clean = g.clean; read = g.read }) in
      record { known = record { values = inside.known.values; pattern_values = inside.known.pattern_values }; meanings = inside.meanings };
}

pub once_fine : (c : Code) (x : Id) → IsFine (once c x)
unfolding opens marks
once_fine c x = record {
  fine = λ all a g. record { known = record { values = g.known.values; pattern_values = g.known.pattern_values }; meanings = once_means_nothing all (is_among a.group x.name.0) c x };
}
