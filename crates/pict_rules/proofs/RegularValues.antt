-- Steps of regularity: values.
use Rattle.std.proofs.Common.{◌≡◌, ℕ, ◌+◌, nat_eq, if◌then◌else◌, Bool, true, false, List, [], ◌∷◌, ◌++◌, length, Option, Some, None, refl, sym, ◌∙◌, ap, subst, arith, rules, add-zero, add-suc, length-append}
use Rattle.pict_syntax.specs.declared.code.Code.{Code}
use Rattle.pict_syntax.specs.declared.span.Span.{Span}
use Rattle.pict_syntax.specs.Names.{text_of}
use Rattle.pict_syntax.specs.Trees.{use_chan, fold_chan, block_chan, apply_chan, right_chan, left_chan, Val, of_chan, number_val, character_val, string_val, true_val, false_val, fields_val, if_val, lambda_val, field_vals}
use Rattle.pict_types.specs.Types.{Both, Read, Write, Respond, PlainType, Top, Int, Char, Str, Boolean, Var, Apply, Chan as Chan_, Fields, Rec, PlainTypes, PlainLabels, PlainBounds, no_bound, bounds}
use Rattle.pict_types.specs.Kinds.{Kind, kind_by, kind_at, IsWellFormed}
use Rattle.pict_types.specs.Replacing.{unfolding_of}
use Rattle.pict_normal.specs.Normal.{normal, kind_stop}
use Rattle.pict_types.specs.Mentions.{mentions_innermost, lowered}
use Rattle.pict_rules.specs.Found.{none_found}
use Rattle.std.specs.Option.{option_map}
use Rattle.pict_syntax.specs.declared.primitive.Primitive.{Primitive}
use Rattle.pict_syntax.specs.declared.primitive.Primitive.TheVariants as primitive
use Rattle.pict_types.specs.PrimitiveTypes.{takes, type_of}
use Rattle.pict_scope.specs.PrimitiveNames.{primitive_named}
use Rattle.pict_rules.specs.Environments.{Environment, KnownValue, context_of, opened_since, known_type, primitive_type, type_or_top, type_or_primitive, type_of_use, shifted_by}
use Rattle.pict_rules.specs.Rules.{Sort, nothing_, type_, Rule, Result, gives, has, unless_stopped, give, refuse}
use Rattle.pict_syntax.specs.declared.code.Code.TheVariants.{Y14}
use Rattle.pict_syntax.specs.Stops.{Stop}
use Rattle.pict_rules.specs.Clauses.{if_record, need_recursive, if_sent, need_outside, gives_below}
use Rattle.pict_rules.specs.Regular.{IsRegular, IsTypeIn, kinds_in, ValuesAreWellFormed, GrowsFrom, FoundFits, NoOperatorIsFound, kinds_found, kinds_of_fields}
use Rattle.pict_rules.proofs.Results.{Property, ResultProperty, Each, with_result, gives_, refuses, needs, chooses, parts, ensures, unless}
use Rattle.pict_rules.proofs.Regularity.{IsRightlyAsked, IsGoodResult, Step, IfFormed}
use Rattle.pict_types.proofs.Formed.{formed_renamed, unfolding_formed}
use Rattle.pict_types.proofs.Mentioned.{lowered_formed}
use Rattle.pict_scope.specs.DistinctLabels.{ValHasDistinctLabels}
use Rattle.pict_rules.proofs.RegularExpanded.{expands_well}
use Rattle.pict_types.proofs.Reaching.{kinds_length}

-- uses
if_formed : (ns : List (List ℕ)) (ks : List Kind) (b : Bool) (t : PlainType) (o : Option PlainType) → IsWellFormed ns ks t → IfFormed ns ks o → IfFormed ns ks (if b then Some t else o)
if_formed ns ks true t o h k = h
if_formed ns ks false t o h k = k

known_formed : (ns : List (List ℕ)) (ks : List Kind) (vs : List KnownValue) (n : ℕ) → ValuesAreWellFormed ns ks vs → IfFormed ns ks (known_type vs n)
known_formed ns ks [] n h = tt
known_formed ns ks (v ∷ vs) n h = if_formed ns ks (nat_eq v.name n) v.has (known_type vs n) h.0 (known_formed ns ks vs n h.1)

-- each primitive's type
primitive_formed : (ns : List (List ℕ)) (ks : List Kind) (p : Primitive) → IsWellFormed ns ks (takes p)
primitive_formed ns ks primitive.Print = tt
primitive_formed ns ks _ = search rules

if_primitive_formed : (ns : List (List ℕ)) (ks : List Kind) (o : Option Primitive) → IfFormed ns ks (option_map type_of o)
if_primitive_formed ns ks None = tt
if_primitive_formed ns ks (Some p) = primitive_formed ns ks p

or_top_formed : (ns : List (List ℕ)) (ks : List Kind) (o : Option PlainType) → IfFormed ns ks o → IsWellFormed ns ks (type_or_top o)
or_top_formed ns ks None h = tt
or_top_formed ns ks (Some t) h = h

or_primitive_formed : (ns : List (List ℕ)) (ks : List Kind) (o : Option PlainType) (text : List ℕ) → IfFormed ns ks o → IsWellFormed ns ks (type_or_primitive o text)
or_primitive_formed ns ks None text h = or_top_formed ns ks (primitive_type text) (if_primitive_formed ns ks (primitive_named text))
or_primitive_formed ns ks (Some t) text h = h

pub use_formed : (e : Environment) (n : ℕ) → IsRegular e → IsTypeIn e (type_of_use e n)
use_formed e n r = or_primitive_formed e.names (kinds_in e) (known_type e.values n) (text_of e.names n) (known_formed e.names (kinds_in e) e.values n r.known)

pub count_inner : {e d : Environment} (g : GrowsFrom e d) → opened_since e d ≡ length g.inner
count_inner {e = e} {d = d} g =
    let h : length (context_of d) ≡ length g.inner + length (context_of e) = sym (kinds_length (context_of d)) ∙ (ap length g.kinds_ ∙ (length-append g.inner (kinds_in e) ∙ ap (λ n. length g.inner + n) (kinds_length (context_of e)))) in
    omega (arith, h)

pub past_inner : (inner ks : List Kind) (i : ℕ) → kind_at (inner ++ ks) (i + length inner) ≡ kind_at ks i
past_inner [] ks i = rw add-zero refl
past_inner (x ∷ inner) ks i = rw add-suc (past_inner inner ks i)

pub shifted_formed : {e d : Environment} (g : GrowsFrom e d) (t : PlainType) → IsTypeIn e t → IsTypeIn d (shifted_by (opened_since e d) t)
shifted_formed {e = e} {d = d} g t w =
    subst (λ n. IsTypeIn d (shifted_by n t)) (sym (count_inner g))
    (subst (λ ns. IsWellFormed ns (kinds_in d) (shifted_by (length g.inner) t)) (sym g.texts)
    (subst (λ ks. IsWellFormed e.names ks (shifted_by (length g.inner) t)) (sym g.kinds_)
    (formed_renamed e.names t (record { each = λ i k h. past_inner g.inner (kinds_in e) i ∙ h }) w)))

pub lowered_back : {e d : Environment} (g : GrowsFrom e d) (t : PlainType) → mentions_innermost (opened_since e d) t ≡ false → IsTypeIn d t → IsTypeIn e (lowered (opened_since e d) t)
lowered_back {e = e} {d = d} g t m w =
    subst (λ n. IsTypeIn e (lowered n t)) (sym (count_inner g))
    (lowered_formed e.names g.inner (kinds_in e) t (subst (λ n. mentions_innermost n t ≡ false) (count_inner g) m)
    (subst (λ ks. IsWellFormed e.names ks t) g.kinds_ (subst (λ ns. IsWellFormed ns (kinds_in d) t) g.texts w)))

-- lines with what they know
pub unless_clear : {A : Property} {G : ResultProperty} {s : Sort} {P : Result s → Type 0} (o : Option Stop) {r : Rule s} → (o ≡ None → Each A G s P r) → Each A G s P (unless_stopped o r)
unless_clear None h = h refl
unless_clear (Some x) h = refuses

pub without_clear : {A : Property} {G : ResultProperty} {s : Sort} {P : Result s → Type 0} (n : ℕ) (t : PlainType) (c : Code) (i : Span) (k : PlainType → Rule s) → (mentions_innermost n t ≡ false → Each A G s P (k (lowered n t))) → Each A G s P (need_outside n t c i k)
without_clear {A = A} {G = G} {s = s} {P = P} n t c i k h = go (mentions_innermost n t) h
  where
    go : (b : Bool) → (b ≡ false → Each A G s P (k (lowered n t))) → Each A G s P (if b then refuse c i else k (lowered n t))
    go true f = refuses
    go false f = f refl

pub records_formed : {A : Property} {G : ResultProperty} {s : Sort} {P : Result s → Type 0} (ns : List (List ℕ)) (ks : List Kind) (t : PlainType) {k : PlainBounds → PlainTypes → PlainLabels → Rule s} {r : Rule s} → IsWellFormed ns ks t → ((bs : PlainBounds) (ps : PlainTypes) (ls : PlainLabels) → IsWellFormed ns ks (Fields bs ps ls) → Each A G s P (k bs ps ls)) → Each A G s P r → Each A G s P (if_record t k r)
records_formed ns ks Top w f h = h
records_formed ns ks Int w f h = h
records_formed ns ks Char w f h = h
records_formed ns ks Str w f h = h
records_formed ns ks Boolean w f h = h
records_formed ns ks (Var x) w f h = h
records_formed ns ks (Apply x ts) w f h = h
records_formed ns ks (Chan_ m t) w f h = h
records_formed ns ks (Fields bs ps ls) w f h = f bs ps ls w
records_formed ns ks (Rec t) w f h = h

pub recursives_formed : {A : Property} {G : ResultProperty} {s : Sort} {P : Result s → Type 0} (ns : List (List ℕ)) (ks : List Kind) (t : PlainType) (c : Code) (i : Span) {k : PlainType → Rule s} → IsWellFormed ns ks t → ((u : PlainType) → IsWellFormed ns ks u → Each A G s P (k u)) → Each A G s P (need_recursive t c i k)
recursives_formed ns ks Top c i w f = refuses
recursives_formed ns ks Int c i w f = refuses
recursives_formed ns ks Char c i w f = refuses
recursives_formed ns ks Str c i w f = refuses
recursives_formed ns ks Boolean c i w f = refuses
recursives_formed ns ks (Var x) c i w f = refuses
recursives_formed ns ks (Apply x ts) c i w f = refuses
recursives_formed ns ks (Chan_ m t) c i w f = refuses
recursives_formed ns ks (Fields bs ps ls) c i w f = refuses
recursives_formed ns ks (Rec t) c i w f = f (unfolding_of t) (unfolding_formed ns ks t w)

pub sents_formed : {A : Property} {G : ResultProperty} {P : Result nothing_ → Type 0} (ns : List (List ℕ)) (ks : List Kind) (t : PlainType) {k : PlainType → Rule nothing_} {r : Rule nothing_} → IsWellFormed ns ks t → ((u : PlainType) → IsWellFormed ns ks u → Each A G nothing_ P (k u)) → Each A G nothing_ P r → Each A G nothing_ P (if_sent t k r)
sents_formed ns ks Top w f h = h
sents_formed ns ks Int w f h = h
sents_formed ns ks Char w f h = h
sents_formed ns ks Str w f h = h
sents_formed ns ks Boolean w f h = h
sents_formed ns ks (Var x) w f h = h
sents_formed ns ks (Apply x ts) w f h = h
sents_formed ns ks (Chan_ Both t) w f h = h
sents_formed ns ks (Chan_ Respond t) w f h = f t w
sents_formed ns ks (Chan_ Write t) w f h = f t w
sents_formed ns ks (Chan_ Read t) w f h = h
sents_formed ns ks (Fields bs ps ls) w f h = h
sents_formed ns ks (Rec t) w f h = h

pub none_kinds : (bs : PlainBounds) → kinds_found (none_found bs) ≡ kinds_of_fields bs
none_kinds no_bound = refl
none_kinds (bounds b bs) = ap (λ ks. kind_by b ∷ ks) (none_kinds bs)

pub none_fits : (e : Environment) (bs : PlainBounds) → FoundFits e (none_found bs)
none_fits e no_bound = tt
none_fits e (bounds b bs) = (tt, none_fits e bs)

pub none_no_operator : (bs : PlainBounds) → NoOperatorIsFound (none_found bs)
none_no_operator no_bound = tt
none_no_operator (bounds b bs) = (tt, none_no_operator bs)

below : (e : Environment) (v : Val) (t : PlainType) (c : Code) → IsRegular e → Each IsRightlyAsked (with_result IsGoodResult) nothing_ (λ x. Unit {0}) (gives_below e v t c)
below e v t c r = parts (r, tt) (λ s g. needs (gives_ tt))

pub has_regular : (e : Environment) (v : Val) (t : PlainType) → IsRegular e → IsTypeIn e t → Step nothing_ e (has v t)
has_regular e (of_chan (use_chan s n)) t r w = below e _ t _ r
has_regular e (number_val s n) t r w = below e _ t _ r
has_regular e (character_val s b) t r w = below e _ t _ r
has_regular e (string_val s b) t r w = below e _ t _ r
has_regular e (true_val s) t r w = below e _ t _ r
has_regular e (false_val s) t r w = below e _ t _ r
has_regular e (fields_val s f) t r w =
    records_formed e.names (kinds_in e) t w (λ bs ps ls u. parts (r, (u, (none_kinds bs, (none_fits e bs, none_no_operator bs)))) (λ x h. gives_ tt)) (below e _ t _ r)
has_regular e (if_val at c v v') t r w = parts (r, tt) (λ x h. parts (r, w) (λ y i. parts (r, w) (λ z k. gives_ tt)))
has_regular e (lambda_val s a) t r w = sents_formed e.names (kinds_in e) t w (λ u k. parts (r, k) (λ x h. gives_ tt)) (below e _ t _ r)
has_regular e (of_chan (fold_chan s None v)) t r w = recursives_formed e.names (kinds_in e) t _ _ w (λ u k. unless _ (parts (r, k) (λ x h. gives_ tt)))
has_regular e (of_chan (fold_chan s (Some a) v)) t r w = below e _ t _ r
has_regular e (of_chan (block_chan s ds v)) t r w = parts (r, tt) (λ d g. parts (g.1.0, shifted_formed g.1.1 t w) (λ x h. gives_ tt))
has_regular e (of_chan (apply_chan s f vs)) t r w = parts (r, w) (λ x h. gives_ tt)
has_regular e (of_chan (right_chan s f vs)) t r w = parts (r, w) (λ x h. gives_ tt)
has_regular e (of_chan (left_chan s f vs)) t r w = parts (r, w) (λ x h. gives_ tt)

pub gives_regular : (e : Environment) (v : Val) → ValHasDistinctLabels v → IsRegular e → Step type_ e (gives v)
gives_regular e (of_chan (use_chan s n)) i r = gives_ (use_formed e n.0 r)
gives_regular e (number_val s n) i r = gives_ tt
gives_regular e (character_val s b) i r = gives_ tt
gives_regular e (string_val s b) i r = gives_ tt
gives_regular e (true_val s) i r = gives_ tt
gives_regular e (false_val s) i r = gives_ tt
gives_regular e (fields_val s (field_vals ts vs ls)) i r =
    ensures _ _ _ (parts (r, tt) (λ ps g. parts (r, tt) (λ ms h. unless _ (gives_ (tt, (g.1, h.1.0))))))
gives_regular e (if_val at c v w) i r =
    parts (r, tt) (λ y f. parts (r, tt) (λ s g. parts (r, tt) (λ t h. chooses (gives_ h.1) (chooses (gives_ g.1) refuses))))
gives_regular e (lambda_val s a) i r = parts (r, tt) (λ t g. unless _ (gives_ g.1))
gives_regular e (of_chan (fold_chan s None v)) i r = refuses
gives_regular e (of_chan (fold_chan s (Some a) v)) i r =
    unless_clear (kind_stop e.names e.context a) (λ k.
    let w = expands_well e.names e.context a r.entries i.0 k in
    recursives_formed e.names (kinds_in e) (normal e.names e.context a) _ _ w (λ u m. unless _ (parts (r, m) (λ y g. gives_ w))))
gives_regular e (of_chan (block_chan s ds v)) i r =
    parts (r, tt) (λ d g. parts (g.1.0, tt) (λ t h. without_clear (opened_since e d) t Y14 s give (λ m. gives_ (lowered_back g.1.1 t m h.1))))
gives_regular e (of_chan (apply_chan s f vs)) i r = parts (r, tt) (λ t g. gives_ g.1)
gives_regular e (of_chan (right_chan s f vs)) i r = parts (r, tt) (λ t g. gives_ g.1)
gives_regular e (of_chan (left_chan s f vs)) i r = parts (r, tt) (λ t g. gives_ g.1)
