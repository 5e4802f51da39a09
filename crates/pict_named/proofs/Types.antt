-- Binders of types have the numbers of their places in reading order.
use Rattle.std.proofs.Common.{◌≡◌, ℕ, Bool, true, false, List, [], ◌∷◌, ◌++◌, length, Option, Some, None, refl, sym, ◌∙◌, ap, subst, append_assoc}
use Rattle.pict_syntax.specs.declared.code.Code.{Code}
use Rattle.pict_syntax.specs.declared.span.Span.{Span}
use Rattle.pict_syntax.specs.declared.id.Id.{Id}
use Rattle.pict_binders.specs.Numbered.{nearest}
use Rattle.pict_scope.specs.Around.{Around, is_among, with_value, with_values, with_group, past_type, before_pattern, behind_pattern}
use Rattle.pict_scope.specs.Marks.{Mark, value_used, type_used, value_bound, stands_twice, first_stop, type_meanings}
use Rattle.pict_scope.specs.Outlines.{Outline, empty, ◌▸◌, closed, value_use, type_use, binds_value, binds_type, binds_all, defines, pattern_value, pattern_type, pattern, group, once, opens, marks, twice_if, twice_if_bound, bound_as}
use Rattle.pict_scope.proofs.Clean.{left_clean, right_clean}
use Rattle.pict_named.specs.Phrases.{Use}
use Rattle.pict_named.specs.Binders.{types_bound}
use Rattle.pict_named.specs.Laws.{HaveBinders}
use Rattle.pict_named.proofs.Standing.{Ids, no_pattern, stands, type_uses_of, some, Match, match_both, found_some, binders_both, nothing_bound, one_further, first_part, second_part, behind_one, at_place}

pub record TypesMatch (all : List Id) (a : Around) (g : Ids) : Type 0 where
  pub types_ : Match all a.types_ g.types_
  pub pattern_types : Match all a.pattern_types g.pattern_types

-- from here on these identifiers are bound, and each use has its binder
pub record Goes (all before : List Id) (o : Outline) (a : Around) (g : Ids) : Type 0 where
  pub counts : (opens o a).next_type ≡ length (before ++ types_bound o)
  pub good : TypesMatch all (opens o a) (stands o g)
  pub used : HaveBinders all (type_uses_of o g) (type_meanings (marks o a))

meanings_both : (ms ns : List Mark) → type_meanings (ms ++ ns) ≡ type_meanings ms ++ type_meanings ns
meanings_both [] ns = refl
meanings_both (value_used s t ∷ ms) ns = meanings_both ms ns
meanings_both (type_used s None ∷ ms) ns = meanings_both ms ns
meanings_both (type_used s (Some k) ∷ ms) ns = ap (λ x. k ∷ x) (meanings_both ms ns)
meanings_both (value_bound k ∷ ms) ns = meanings_both ms ns
meanings_both (stands_twice c s ∷ ms) ns = meanings_both ms ns

twice_none : (b : Bool) (c : Code) (x : Id) → type_meanings (twice_if b c x) ≡ []
twice_none true c x = refl
twice_none false c x = refl

bound_none : (o : Option ℕ) (x : Id) → type_meanings (twice_if_bound o x) ≡ []
bound_none (Some k) x = refl
bound_none None x = refl

as_none : (o : Option ℕ) → type_meanings (bound_as o) ≡ []
as_none (Some k) = refl
as_none None = refl

meant : (s : Span) (o : Option ℕ) → first_stop (type_used s o ∷ []) ≡ None → (k : ℕ) × (o ≡ some k)
meant s None h = absurd cc
meant s (Some k) h = (k, refl)

used_both : (all : List Id) (us vs : List Use) (ms ns : List Mark) → HaveBinders all us (type_meanings ms) → HaveBinders all vs (type_meanings ns) → HaveBinders all (us ++ vs) (type_meanings (ms ++ ns))
used_both all us vs ms ns h k = subst (HaveBinders all (us ++ vs)) (sym (meanings_both ms ns)) (binders_both all us vs (type_meanings ms) (type_meanings ns) h k)

-- marks that say nothing of types
silent : (all : List Id) (us : List Use) (ms ns : List Mark) → type_meanings ms ≡ [] → HaveBinders all us (type_meanings ns) → HaveBinders all us (type_meanings (ms ++ ns))
silent all us ms ns h k = subst (HaveBinders all us) (sym (meanings_both ms ns ∙ ap (λ z. z ++ type_meanings ns) h)) k

none_used : (all : List Id) (ks : List ℕ) → ks ≡ [] → HaveBinders all [] ks
none_used all ks h = subst (HaveBinders all []) (sym h) tt

use_has_binder : (all : List Id) (a : Around) (g : Ids) (s : Span) (n : ℕ) → Match all a.types_ g.types_ → first_stop (type_used s (nearest a.types_ n) ∷ []) ≡ None
    → HaveBinders all (record { name = n; around = g.types_ } ∷ []) (type_meanings (type_used s (nearest a.types_ n) ∷ []))
use_has_binder all a g s n h c =
    let k = meant s (nearest a.types_ n) c in
    let f = found_some all a.types_ g.types_ n k.0 h k.1 in
    subst (λ o. HaveBinders all (record { name = n; around = g.types_ } ∷ []) (type_meanings (type_used s o ∷ []))) (sym k.1) (record { binder = f.binder; stands = f.at_; is_nearest = f.is_nearest }, tt)

values_types : (xs : List Id) (a : Around) → ((with_values xs a).types_ ≡ a.types_) × ((with_values xs a).pattern_types ≡ a.pattern_types) × ((with_values xs a).next_type ≡ a.next_type)
values_types [] a = (refl, refl, refl)
values_types (x ∷ xs) a = values_types xs (with_value x a)

pub goes : (all before after : List Id) (o : Outline) (a : Around) (g : Ids) → all ≡ before ++ (types_bound o ++ after) → a.next_type ≡ length before → TypesMatch all a g → first_stop (marks o a) ≡ None → Goes all before o a g
unfolding opens marks stands type_uses_of
goes all before after empty a g h n m c = record { counts = nothing_bound before n; good = m; used = tt }
goes all before after (o ▸ p) a g h n m c =
    let x = goes all before (types_bound p ++ after) o a g (first_part before (types_bound o) (types_bound p) after all h) n m (left_clean (marks o a) (marks p (opens o a)) c) in
    let y = goes all (before ++ types_bound o) after p (opens o a) (stands o g) (second_part before (types_bound o) (types_bound p) after all h) x.counts x.good (right_clean (marks o a) (marks p (opens o a)) c) in
    record {
      counts = y.counts ∙ ap length (append_assoc before (types_bound o) (types_bound p));
      good = y.good;
      used = used_both all (type_uses_of o g) (type_uses_of p (stands o g)) (marks o a) (marks p (opens o a)) x.used y.used;
    }
goes all before after (closed o) a g h n m c =
    let x = goes all before after o a g h n m c in
    record { counts = x.counts; good = record { types_ = m.types_; pattern_types = x.good.pattern_types }; used = x.used }
goes all before after (value_use s k) a g h n m c = record { counts = nothing_bound before n; good = m; used = tt }
goes all before after (type_use s k) a g h n m c = record { counts = nothing_bound before n; good = m; used = use_has_binder all a g s k m.types_ c }
goes all before after (binds_value x) a g h n m c = record { counts = nothing_bound before n; good = record { types_ = m.types_; pattern_types = m.pattern_types }; used = tt }
goes all before after (binds_type x o) a g h n m c =
    let y = goes all (before ++ x ∷ []) after o (past_type a) g (behind_one before (types_bound o) after all x h) (one_further before x n) (record { types_ = m.types_; pattern_types = m.pattern_types }) c in
    record {
      counts = y.counts ∙ ap length (append_assoc before (x ∷ []) (types_bound o));
      good = record { types_ = (at_place before (types_bound o) after all x a.next_type h n, refl, y.good.types_); pattern_types = y.good.pattern_types };
      used = y.used;
    }
goes all before after (binds_all xs) a g h n m c =
    let v = values_types xs a in
    record { counts = v.2 ∙ nothing_bound before n; good = record { types_ = subst (λ bs. Match all bs g.types_) (sym v.0) m.types_; pattern_types = subst (λ bs. Match all bs g.pattern_types) (sym v.1) m.pattern_types }; used = tt }
goes all before after (defines x) a g h n m c = record { counts = nothing_bound before n; good = m; used = none_used all _ (as_none (nearest a.values x.name.0)) }
goes all before after (pattern_value x) a g h n m c =
    record {
      counts = nothing_bound before n;
      good = record { types_ = m.types_; pattern_types = m.pattern_types };
      used = silent all [] (twice_if_bound (nearest a.pattern_values x.name.0) x) (value_bound a.next_value ∷ []) (bound_none (nearest a.pattern_values x.name.0) x) tt;
    }
goes all before after (pattern_type x o) a g h n m c =
    let q = twice_if_bound (nearest a.pattern_types x.name.0) x in
    let y = goes all (before ++ x ∷ []) after o (past_type a) g (behind_one before (types_bound o) after all x h) (one_further before x n) (record { types_ = m.types_; pattern_types = m.pattern_types }) (right_clean q (marks o (past_type a)) c) in
    let t = at_place before (types_bound o) after all x a.next_type h n in
    record {
      counts = y.counts ∙ ap length (append_assoc before (x ∷ []) (types_bound o));
      good = record { types_ = (t, refl, y.good.types_); pattern_types = (t, refl, y.good.pattern_types) };
      used = silent all (type_uses_of o g) q (marks o (past_type a)) (bound_none (nearest a.pattern_types x.name.0) x) y.used;
    }
goes all before after (pattern o p) a g h n m c =
    let b = opens o (before_pattern a) in
    let d = behind_pattern a b in
    let i = stands o (no_pattern g) in
    let x = goes all before (types_bound p ++ after) o (before_pattern a) (no_pattern g) (first_part before (types_bound o) (types_bound p) after all h) n (record { types_ = m.types_; pattern_types = tt }) (left_clean (marks o (before_pattern a)) (marks p d) c) in
    let y = goes all (before ++ types_bound o) after p d g (second_part before (types_bound o) (types_bound p) after all h) x.counts (record { types_ = m.types_; pattern_types = m.pattern_types }) (right_clean (marks o (before_pattern a)) (marks p d) c) in
    record {
      counts = y.counts ∙ ap length (append_assoc before (types_bound o) (types_bound p));
      good = record { types_ = match_both all b.pattern_types (opens p d).types_ i.pattern_types (stands p g).types_ x.good.pattern_types y.good.types_; pattern_types = y.good.pattern_types };
      used = used_both all (type_uses_of o (no_pattern g)) (type_uses_of p g) (marks o (before_pattern a)) (marks p d) x.used y.used;
    }
goes all before after (group o) a g h n m c =
    let x = goes all before after o (with_group [] a) g h n (record { types_ = m.types_; pattern_types = m.pattern_types }) c in
    record { counts = x.counts; good = record { types_ = x.good.types_; pattern_types = x.good.pattern_types }; used = x.used }
goes all before after (once k x) a g h n m c =
    record { counts = nothing_bound before n; good = record { types_ = m.types_; pattern_types = m.pattern_types }; used = none_used all _ (twice_none (is_among a.group x.name.0) k x) }
