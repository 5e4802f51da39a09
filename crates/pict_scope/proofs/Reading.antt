-- Reading one outline after another: what is known before and behind each part gives what is known of the whole.
use Rattle.std.proofs.Common.{◌≡◌, ℕ, ◌+◌, ◌-◌, ◌<◌, ◌≤◌, List, [], ◌∷◌, ◌++◌, length, get_or, take, take-suc, drop, Some, None, refl, sym, ◌∙◌, ap, subst, append_assoc, append-nil, add-one}
use Rattle.std.specs.Prelude.{Result, Ok, Err}
use Rattle.std.proofs.lemmas.List.{take_all, take-append-drop}
use Rattle.pict_syntax.specs.declared.code.Code.TheVariants.{S3}
use Rattle.pict_syntax.specs.declared.id.Id.{Id}
use Rattle.pict_syntax.specs.Stops.{Stop}
use Rattle.pict_binders.specs.declared.binders.Binder.{Binder}
use Rattle.pict_scope.specs.declared.error.ScopeError.{ScopeError}
use Rattle.pict_scope.specs.declared.error.ScopeError.TheVariants.{Named, Memory}
use Rattle.pict_scope.specs.declared.reader.Reader.{Reader}
use Rattle.pict_scope.specs.declared.reader.Place.{Place}
use Rattle.pict_scope.specs.declared.reader.Opened.{Opened}
use Rattle.pict_binders.specs.Numbered.{names_of, nearest}
use Rattle.pict_scope.specs.Layers.{here, outside}
use Rattle.pict_scope.specs.Around.{Around, with_group, with_type, with_pattern_type, past_type, before_pattern, behind_pattern, behind}
use Rattle.pict_scope.specs.Marks.{Mark, value_used, type_used, value_bound, stands_twice, first_stop, value_meanings, type_meanings, binders_read}
use Rattle.pict_scope.specs.Outlines.{Outline, empty, ◌▸◌, closed, binds_type, pattern_type, pattern, group, opens, marks, twice_if_bound}
use Rattle.pict_scope.specs.Held.{each_on, each}
use Rattle.pict_scope.specs.Reads.{around, Answers, KeepsOutside, Moves, Reads, IsRefusal, Refuses, IsRead}
use Rattle.pict_scope.specs.Steps.{IsAt, GoesBack, back_at, OpensGroup, ClosesGroup, OpensPattern, ClosesPattern, ReadsPattern, RefusesPattern, enters}
use Rattle.pict_scope.proofs.Growing.{grows, cut_back}

-- marks one after the other
pub first_then : (ms ns : List Mark) → first_stop ms ≡ None → first_stop (ms ++ ns) ≡ first_stop ns
first_then [] ns h = refl
first_then (value_used s None ∷ ms) ns h = absurd cc
first_then (value_used s (Some t) ∷ ms) ns h = first_then ms ns h
first_then (type_used s None ∷ ms) ns h = absurd cc
first_then (type_used s (Some t) ∷ ms) ns h = first_then ms ns h
first_then (value_bound n ∷ ms) ns h = first_then ms ns h
first_then (stands_twice c s ∷ ms) ns h = absurd cc

pub first_stays : (ms ns : List Mark) (x : Stop) → first_stop ms ≡ Some x → first_stop (ms ++ ns) ≡ Some x
first_stays [] ns x h = absurd cc
first_stays (value_used s None ∷ ms) ns x h = h
first_stays (value_used s (Some t) ∷ ms) ns x h = first_stays ms ns x h
first_stays (type_used s None ∷ ms) ns x h = h
first_stays (type_used s (Some t) ∷ ms) ns x h = first_stays ms ns x h
first_stays (value_bound n ∷ ms) ns x h = first_stays ms ns x h
first_stays (stands_twice c s ∷ ms) ns x h = h

pub values_both : (ms ns : List Mark) → value_meanings (ms ++ ns) ≡ value_meanings ms ++ value_meanings ns
values_both [] ns = refl
values_both (value_used s None ∷ ms) ns = values_both ms ns
values_both (value_used s (Some t) ∷ ms) ns = ap (λ l. t ∷ l) (values_both ms ns)
values_both (type_used s t ∷ ms) ns = values_both ms ns
values_both (value_bound n ∷ ms) ns = values_both ms ns
values_both (stands_twice c s ∷ ms) ns = values_both ms ns

pub types_both : (ms ns : List Mark) → type_meanings (ms ++ ns) ≡ type_meanings ms ++ type_meanings ns
types_both [] ns = refl
types_both (value_used s t ∷ ms) ns = types_both ms ns
types_both (type_used s None ∷ ms) ns = types_both ms ns
types_both (type_used s (Some t) ∷ ms) ns = ap (λ l. t ∷ l) (types_both ms ns)
types_both (value_bound n ∷ ms) ns = types_both ms ns
types_both (stands_twice c s ∷ ms) ns = types_both ms ns

pub binders_both : (ms ns : List Mark) → binders_read (ms ++ ns) ≡ binders_read ms ++ binders_read ns
binders_both [] ns = refl
binders_both (value_used s t ∷ ms) ns = binders_both ms ns
binders_both (type_used s t ∷ ms) ns = binders_both ms ns
binders_both (value_bound n ∷ ms) ns = ap (λ l. n ∷ l) (binders_both ms ns)
binders_both (stands_twice c s ∷ ms) ns = binders_both ms ns

longer : {A : Type 0} (xs us vs : List A) {ys zs ws : List A} → ys ≡ xs ++ us → zs ≡ ys ++ vs → ws ≡ us ++ vs → zs ≡ xs ++ ws
longer xs us vs p q r = q ∙ (ap (λ l. l ++ vs) p ∙ (append_assoc xs us vs ∙ ap (λ l. xs ++ l) (sym r)))

pub both_answered : {ms ns : List Mark} {a b c : Reader} → Answers ms a b → Answers ns b c → Answers (ms ++ ns) a c
both_answered {ms = ms} {ns = ns} h k = record {
  none_stops = first_then ms ns h.none_stops ∙ k.none_stops;
  values = longer _ _ _ h.values k.values (values_both ms ns);
  types_ = longer _ _ _ h.types_ k.types_ (types_both ms ns);
  order = longer _ _ _ h.order k.order (binders_both ms ns);
}

pub then_nothing : {ms : List Mark} {a b c : Reader} → Answers ms a b → Answers [] b c → Answers ms a c
then_nothing {ms = ms} {a = a} {c = c} h k = subst (λ ns. Answers ns a c) (append-nil ms) (both_answered h k)

pub both_kept : {a b c : Reader} → KeepsOutside a b → KeepsOutside b c → KeepsOutside a c
both_kept h k = record { pattern_values = k.pattern_values ∙ h.pattern_values; pattern_types = k.pattern_types ∙ h.pattern_types; group = k.group ∙ h.group }

at_same : (ms : Around → List Mark) {x y : Around} {a b : Reader} → x ≡ y → Answers (ms x) a b → Answers (ms y) a b
at_same ms {a = a} {b = b} h k = subst (λ z. Answers (ms z) a b) h k

refused_at : (ms : Around → List Mark) (e : ScopeError) {x y : Around} → x ≡ y → IsRefusal (ms x) e → IsRefusal (ms y) e
refused_at ms e h k = subst (λ z. IsRefusal (ms z) e) h k

refused_then : (ms ns : List Mark) (e : ScopeError) → first_stop ms ≡ None → IsRefusal ns e → IsRefusal (ms ++ ns) e
refused_then ms ns (Named c s) h k = first_then ms ns h ∙ k
refused_then ms ns Memory h k = tt

refused_before : (ms ns : List Mark) (e : ScopeError) → IsRefusal ms e → IsRefusal (ms ++ ns) e
refused_before ms ns (Named c s) h = first_stays ms ns (c, s) h
refused_before ms ns Memory h = tt

-- nothing
pub empty_read : (a : Reader) → Reads empty a a
unfolding opens marks
empty_read a = record {
  around_ = refl;
  answers = record { none_stops = refl; values = sym (append-nil _); types_ = sym (append-nil _); order = sym (append-nil _) };
  outside_ = record { pattern_values = refl; pattern_types = refl; group = refl };
}

pub memory_refused : (o : Outline) (a : Reader) → Refuses o a Memory
memory_refused o a = record { is_first = tt }

-- one after the other
pub then_read : (o p : Outline) (a b c : Reader) → Reads o a b → Reads p b c → Reads (o ▸ p) a c
unfolding opens marks
then_read o p a b c h k = record {
  around_ = k.around_ ∙ ap (opens p) h.around_;
  answers = both_answered h.answers (at_same (marks p) h.around_ k.answers);
  outside_ = both_kept h.outside_ k.outside_;
}

pub then_refused : (o p : Outline) (a b : Reader) (e : ScopeError) → Reads o a b → Refuses p b e → Refuses (o ▸ p) a e
unfolding opens marks
then_refused o p a b e h k = record { is_first = refused_then (marks o (around a)) _ e h.answers.none_stops (refused_at (marks p) e h.around_ k.is_first) }

pub first_refused : (o p : Outline) (a : Reader) (e : ScopeError) → Refuses o a e → Refuses (o ▸ p) a e
unfolding opens marks
first_refused o p a e h = record { is_first = refused_before (marks o (around a)) _ e h.is_first }

pub then_any : {T : Type 0} (o p : Outline) (a b c : Reader) (r : Result T ScopeError) → Reads o a b → IsRead p b c r → IsRead (o ▸ p) a c r
then_any o p a b c (Ok x) h k = then_read o p a b c h k
then_any o p a b c (Err e) h k = then_refused o p a b e h k

-- what is bound inside ends with it
same_place : (p : Place) (o : Outline) (a : Reader) → IsAt p a → back_at p (opens o (around a)) ≡ behind (around a) (opens o (around a))
same_place p o a at =
    let g = grows o (around a) in
    let v = cut_back g.more_values (around a).values (opens o (around a)).values p.values g.values at.values in
    let t = cut_back g.more_types (around a).types_ (opens o (around a)).types_ p.types g.types_ at.types_ in
    let b = opens o (around a) in
    ap (λ vs. record b { values = vs; types_ = drop (length b.types_ - p.types) b.types_ }) v ∙ ap (λ ts. record b { values = (around a).values; types_ = ts }) t

pub closed_read : (o : Outline) (p : Place) (a b c : Reader) → IsAt p a → Reads o a b → GoesBack p b c → Reads (closed o) a c
unfolding opens marks
closed_read o p a b c at h k = record {
  around_ = k.around_ ∙ (ap (back_at p) h.around_ ∙ same_place p o a at);
  answers = then_nothing h.answers k.answers;
  outside_ = both_kept h.outside_ k.outside_;
}

pub closed_refused : (o : Outline) (a : Reader) (e : ScopeError) → Refuses o a e → Refuses (closed o) a e
unfolding opens marks
closed_refused o a e h = record { is_first = h.is_first }

-- a group
pub group_read : (o : Outline) (n : ℕ) (a b c d : Reader) → OpensGroup n a b → Reads o b c → ClosesGroup n c d → Reads (group o) a d
unfolding opens marks
group_read o n a b c d h k l =
    let names : here d.group ≡ here a.group = ap (λ x. take x d.group.binders) (l.outer_ ∙ h.outer_) ∙ ap (λ x. take a.group.count x) (l.group ∙ (k.outside_.group ∙ h.group)) in
    let rest : outside d.group ≡ outside a.group = ap (λ x. drop x d.group.binders) (l.outer_ ∙ h.outer_) ∙ ap (λ x. drop a.group.count x) (l.group ∙ (k.outside_.group ∙ h.group)) in
    record {
      around_ = l.around_ ∙ (ap (λ x. with_group x (around c)) (ap names_of names) ∙ ap (with_group (around a).group) (k.around_ ∙ ap (opens o) h.around_));
      answers = then_nothing (both_answered h.answers (at_same (marks o) h.around_ k.answers)) l.answers;
      outside_ = record {
        pattern_values = l.pattern_values ∙ (k.outside_.pattern_values ∙ h.pattern_values);
        pattern_types = l.pattern_types ∙ (k.outside_.pattern_types ∙ h.pattern_types);
        group = rest;
      };
    }

pub group_refused : (o : Outline) (n : ℕ) (a b : Reader) (e : ScopeError) → OpensGroup n a b → Refuses o b e → Refuses (group o) a e
unfolding opens marks
group_refused o n a b e h k = record { is_first = refused_at (marks o) e h.around_ k.is_first }

-- a binder of a type
pub type_read : (x : Id) (o : Outline) (n : ℕ) (a b c d : Reader) → n ≡ a.next_type → Moves past_type a b → Reads o b c → Moves (with_type x n) c d → Reads (binds_type x o) a d
unfolding opens marks
type_read x o n a b c d is h k l = record {
  around_ = l.around_ ∙ (ap (λ m. with_type x m (around c)) is ∙ ap (with_type x a.next_type) (k.around_ ∙ ap (opens o) h.around_));
  answers = then_nothing (both_answered h.answers (at_same (marks o) h.around_ k.answers)) l.answers;
  outside_ = both_kept h.outside_ (both_kept k.outside_ l.outside_);
}

pub type_refused : (x : Id) (o : Outline) (a b : Reader) (e : ScopeError) → Moves past_type a b → Refuses o b e → Refuses (binds_type x o) a e
unfolding opens marks
type_refused x o a b e h k = record { is_first = refused_at (marks o) e h.around_ k.is_first }

-- items of a vector
each_more_on : {A : Type 0} (f : A → Outline) (o : Outline) (xs : List A) (x : A) → each_on f o (xs ++ x ∷ []) ≡ each_on f o xs ▸ f x
unfolding each_on
each_more_on f o [] x = refl
each_more_on f o (y ∷ xs) x = each_more_on f (o ▸ f y) xs x

-- one more of a list
pub taken : {A : Type 0} (xs : List A) (i : ℕ) (x : A) → i < length xs → x ≡ get_or xs i x → take (i + 1) xs ≡ take i xs ++ x ∷ []
taken xs i x h is = rw (add-one, take-suc xs i x h) (ap (λ ys. take i xs ++ ys ∷ []) (sym is))

each_taken : {A : Type 0} (f : A → Outline) (xs : List A) (i : ℕ) (d : A) → i < length xs → each f (take (i + 1) xs) ≡ each f (take i xs) ▸ f (get_or xs i d)
each_taken f xs i d h = rw (add-one, take-suc xs i d h) (each_more_on f empty (take i xs) (get_or xs i d))

pub each_none : {A : Type 0} (f : A → Outline) (a : Reader) → Reads (each f []) a a
unfolding each_on
each_none f a = empty_read a

pub each_more : {A : Type 0} (f : A → Outline) (xs : List A) (i : ℕ) (x : A) (a b c : Reader) → i < length xs → x ≡ get_or xs i x → Reads (each f (take i xs)) a b → Reads (f x) b c → Reads (each f (take (i + 1) xs)) a c
each_more f xs i x a b c h is k l = subst (λ o. Reads o a c) (sym (each_taken f xs i x h)) (then_read _ _ a b c k (subst (λ y. Reads (f y) b c) is l))

refused_on : {A : Type 0} (f : A → Outline) (o : Outline) (xs : List A) (a : Reader) (e : ScopeError) → Refuses o a e → Refuses (each_on f o xs) a e
unfolding each_on
refused_on f o [] a e h = h
refused_on f o (x ∷ xs) a e h = refused_on f (o ▸ f x) xs a e (first_refused o (f x) a e h)

each_two : {A : Type 0} (f : A → Outline) (o : Outline) (xs ys : List A) → each_on f o (xs ++ ys) ≡ each_on f (each_on f o xs) ys
unfolding each_on
each_two f o [] ys = refl
each_two f o (x ∷ xs) ys = each_two f (o ▸ f x) xs ys

pub each_refused : {A : Type 0} (f : A → Outline) (xs : List A) (i : ℕ) (x : A) (a b : Reader) (e : ScopeError) → i < length xs → x ≡ get_or xs i x → Reads (each f (take i xs)) a b → Refuses (f x) b e → Refuses (each f xs) a e
each_refused f xs i x a b e h is k l =
    let all = ap (each f) (sym (take-append-drop (i + 1) xs)) ∙ (each_two f empty (take (i + 1) xs) (drop (i + 1) xs) ∙ ap (λ o. each_on f o (drop (i + 1) xs)) (each_taken f xs i x h)) in
    subst (λ o. Refuses o a e) (sym all) (refused_on f _ (drop (i + 1) xs) a e (then_refused _ _ a b e k (subst (λ y. Refuses (f y) b e) is l)))

pub each_all : {A : Type 0} (f : A → Outline) (xs : List A) (i : ℕ) (a b : Reader) → length xs ≤ i → Reads (each f (take i xs)) a b → Reads (each f xs) a b
each_all f xs i a b h k = subst (λ l. Reads (each f l) a b) (take_all i xs h) k

-- a binder of a type in a pattern
pub pattern_type_read : (x : Id) (o : Outline) (n : ℕ) (a b c d : Reader) → None ≡ nearest (here a.pattern_types) x.name.0 → n ≡ a.next_type → Moves past_type a b → Reads o b c → Moves (with_pattern_type x n) c d → Reads (pattern_type x o) a d
unfolding opens marks
pattern_type_read x o n a b c d new is h k l = record {
  around_ = l.around_ ∙ (ap (λ m. with_pattern_type x m (around c)) is ∙ ap (with_pattern_type x a.next_type) (k.around_ ∙ ap (opens o) h.around_));
  answers = subst (λ t. Answers (twice_if_bound t x ++ marks o (past_type (around a))) a d) new (then_nothing (both_answered h.answers (at_same (marks o) h.around_ k.answers)) l.answers);
  outside_ = both_kept h.outside_ (both_kept k.outside_ l.outside_);
}

pub pattern_type_refused : (x : Id) (o : Outline) (a b : Reader) (e : ScopeError) → None ≡ nearest (here a.pattern_types) x.name.0 → Moves past_type a b → Refuses o b e → Refuses (pattern_type x o) a e
unfolding opens marks
pattern_type_refused x o a b e new h k = record { is_first = subst (λ t. IsRefusal (twice_if_bound t x ++ marks o (past_type (around a))) e) new (refused_at (marks o) e h.around_ k.is_first) }

pub pattern_type_again : (x : Id) (o : Outline) (a : Reader) (n : ℕ) → Some n ≡ nearest (here a.pattern_types) x.name.0 → Refuses (pattern_type x o) a (Named S3 x.span)
unfolding opens marks
pattern_type_again x o a n again = record { is_first = ap (λ t. first_stop (twice_if_bound t x ++ marks o (past_type (around a)))) (sym again) }

abbrev with_lists : Around → List Binder → List Binder → List Binder → List Binder → Around
with_lists a vs ts ps qs = record a { values = vs; types_ = ts; pattern_values = ps; pattern_types = qs }

-- a pattern is opened, read and closed
pub whole_pattern : (o : Outline) (p outer : Place) (w : Opened) (a b c d e : Reader) → IsAt p a → OpensPattern outer a b → Reads o b c → ClosesPattern outer w c d → GoesBack p d e → ReadsPattern o w a e
whole_pattern o p outer w a b c d e at h k l m =
    let i = opens o (before_pattern (around a)) in
    let inside : around c ≡ i = k.around_ ∙ ap (opens o) h.around_ in
    let g = grows o (before_pattern (around a)) in
    let vs = cut_back g.more_values (around a).values i.values p.values g.values at.values in
    let ts = cut_back g.more_types (around a).types_ i.types_ p.types g.types_ at.types_ in
    let values : here d.pattern_values ≡ here a.pattern_values = ap (λ x. take x d.pattern_values.binders) (l.outer_values ∙ h.outer_values) ∙ ap (λ x. take a.pattern_values.count x) (l.values ∙ (k.outside_.pattern_values ∙ h.values)) in
    let types_ : here d.pattern_types ≡ here a.pattern_types = ap (λ x. take x d.pattern_types.binders) (l.outer_types ∙ h.outer_types) ∙ ap (λ x. take a.pattern_types.count x) (l.types_ ∙ (k.outside_.pattern_types ∙ h.types_)) in
    let rest_values : outside d.pattern_values ≡ outside a.pattern_values = ap (λ x. drop x d.pattern_values.binders) (l.outer_values ∙ h.outer_values) ∙ ap (λ x. drop a.pattern_values.count x) (l.values ∙ (k.outside_.pattern_values ∙ h.values)) in
    let rest_types : outside d.pattern_types ≡ outside a.pattern_types = ap (λ x. drop x d.pattern_types.binders) (l.outer_types ∙ h.outer_types) ∙ ap (λ x. drop a.pattern_types.count x) (l.types_ ∙ (k.outside_.pattern_types ∙ h.types_)) in
    let closed_ : around d ≡ with_lists i i.values i.types_ (here a.pattern_values) (here a.pattern_types) =
    l.around_ ∙ (ap (λ x. with_lists x x.values x.types_ (here d.pattern_values) (here d.pattern_types)) inside ∙ (ap (λ x. with_lists i i.values i.types_ x (here d.pattern_types)) values ∙ ap (λ x. with_lists i i.values i.types_ (here a.pattern_values) x) types_)) in
    record {
      goes = record {
        around_ = m.around_ ∙ (ap (back_at p) closed_ ∙ (ap (λ x. with_lists i x (drop (length i.types_ - p.types) i.types_) (here a.pattern_values) (here a.pattern_types)) vs ∙ ap (λ x. with_lists i a.values x (here a.pattern_values) (here a.pattern_types)) ts));
        answers = then_nothing (then_nothing (both_answered h.answers (at_same (marks o) h.around_ k.answers)) l.answers) m.answers;
        outside_ = record {
          pattern_values = m.outside_.pattern_values ∙ rest_values;
          pattern_types = m.outside_.pattern_types ∙ rest_types;
          group = m.outside_.group ∙ (l.group ∙ (k.outside_.group ∙ h.group));
        };
      };
      values = l.opened_values ∙ ap (λ x. x.pattern_values) inside;
      types_ = l.opened_types ∙ ap (λ x. x.pattern_types) inside;
    }

pub whole_pattern_refused : (o : Outline) (outer : Place) (a b : Reader) (e : ScopeError) → OpensPattern outer a b → Refuses o b e → RefusesPattern o a e
whole_pattern_refused o outer a b e h k = record { is_first = refused_at (marks o) e h.around_ k.is_first }

pub pattern_memory : (o : Outline) (a : Reader) → RefusesPattern o a Memory
pattern_memory o a = record { is_first = tt }

-- what stands behind a pattern, and then the pattern's scope
pub pattern_read : (o p : Outline) (w : Opened) (a b c d : Reader) → ReadsPattern o w a b → Reads p b c → Moves (enters w) c d → Reads (pattern o p) a d
unfolding opens marks
pattern_read o p w a b c d h k l =
    let i = opens o (before_pattern (around a)) in
    let j = opens p (behind_pattern (around a) i) in
    let after : around c ≡ j = k.around_ ∙ ap (opens p) h.goes.around_ in
    record {
      around_ = l.around_ ∙ (ap (enters w) after ∙ (ap (λ x. with_lists j (x ++ j.values) (w.types.items ++ j.types_) j.pattern_values j.pattern_types) h.values ∙ ap (λ x. with_lists j (i.pattern_values ++ j.values) (x ++ j.types_) j.pattern_values j.pattern_types) h.types_));
      answers = then_nothing (both_answered h.goes.answers (at_same (marks p) h.goes.around_ k.answers)) l.answers;
      outside_ = both_kept h.goes.outside_ (both_kept k.outside_ l.outside_);
    }

pub pattern_refused : (o p : Outline) (a : Reader) (e : ScopeError) → RefusesPattern o a e → Refuses (pattern o p) a e
unfolding opens marks
pattern_refused o p a e h = record { is_first = refused_before (marks o (before_pattern (around a))) _ e h.is_first }

pub behind_refused : (o p : Outline) (w : Opened) (a b : Reader) (e : ScopeError) → ReadsPattern o w a b → Refuses p b e → Refuses (pattern o p) a e
unfolding opens marks
behind_refused o p w a b e h k = record { is_first = refused_then (marks o (before_pattern (around a))) _ e h.goes.answers.none_stops (refused_at (marks p) e h.goes.around_ k.is_first) }

-- the scope of a pattern
pub scope_read : (o p : Outline) (at : Place) (w : Opened) (a b c d e : Reader) → IsAt at a → ReadsPattern o w a b → Moves (enters w) b c → Reads p c d → GoesBack at d e → Reads (closed (pattern o empty ▸ p)) a e
scope_read o p at w a b c d e h k l m n = closed_read (pattern o empty ▸ p) at a d e h (then_read (pattern o empty) p a c d (pattern_read o empty w a b b c k (empty_read b) l) m) n

pub scope_refused : (o p : Outline) (w : Opened) (a b c : Reader) (e : ScopeError) → ReadsPattern o w a b → Moves (enters w) b c → Refuses p c e → Refuses (closed (pattern o empty ▸ p)) a e
scope_refused o p w a b c e k l m = closed_refused (pattern o empty ▸ p) a e (then_refused (pattern o empty) p a c e (pattern_read o empty w a b b c k (empty_read b) l) m)

pub ruleset scoping = (scope_refused, memory_refused)

pub ruleset reading = (empty_read, memory_refused, then_read, then_refused, first_refused, then_any, closed_read, closed_refused, group_read, group_refused, type_read, type_refused, each_none, each_more, each_refused, each_all, pattern_type_read, pattern_type_refused, pattern_type_again, whole_pattern, whole_pattern_refused, pattern_memory, pattern_read, pattern_refused, behind_refused)
