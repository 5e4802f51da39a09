-- What the rules of patterns against a type ask of their parts.
use Rattle.std.proofs.Common.{◌≡◌, ◌<◌, ℕ, zero, suc, List, [], ◌∷◌, length, get_or, Option, Some, sym, ap, subst, arith, eq-eqb}
use Rattle.pict_syntax.specs.declared.code.Code.TheVariants.{Y5}
use Rattle.pict_syntax.specs.declared.span.Span.{Span}
use Rattle.pict_syntax.specs.declared.pattern.Pat.{Pat as RPat}
use Rattle.pict_syntax.specs.Trees.{FieldPats, field_pats, TypeBinders, Pats, no_pats, LabelledPats, RType, Pat, fields_pat, fold_pat}
use Rattle.pict_syntax.specs.PlainTrees.{pat_of, pats_on}
use Rattle.pict_types.specs.declared.types.Ty.{Ty}
use Rattle.pict_types.specs.Types.{PlainType, Fields, PlainTypes, PlainLabels, PlainBounds, count_bounds, count_types}
use Rattle.pict_types.specs.Kinds.{Kind, IsWellFormed}
use Rattle.pict_types.specs.Plain.{plain, plain_types}
use Rattle.pict_sub.specs.Exposing.{exposure}
use Rattle.pict_rules.specs.Counts.{count_binders, count_pats}
use Rattle.pict_rules.specs.Shapes.{nth_type}
use Rattle.pict_rules.specs.Environments.{Environment, Extension, KnownType, context_of, within}
use Rattle.pict_rules.specs.Rules.{Sort, binders_, extension_, opened_, Judgement, binders_against, fields_against, give, labelled_patterns_against, ok, part, pattern_against, patterns_against, refuse}
use Rattle.pict_rules.specs.Clauses.{if_record, with_own}
use Rattle.pict_rules.specs.Reached.{Asks, this_part, past_part}
use Rattle.pict_rules.specs.Regular.{IsTypeIn, kinds_in}
use Rattle.pict_rules.specs.Typing.{rule}
use Rattle.pict_rules.specs.Derivations.{Runs}
use Rattle.pict_rules.proofs.RegularPatterns.{number_formed}
use Rattle.pict_rules.proofs.Regularity.{IfFormed}
use Rattle.pict_infer.specs.Asking.{IsWellAsked}
use Rattle.pict_infer.proofs.Asked.{asked_of}
use Rattle.pict_infer.proofs.PatternPlaces.{pat_distinct}
use Rattle.pict_infer.proofs.PatternLines.{after_counts}

-- a record pattern asks of its fields
asks_fields : (e : Environment) (s : Span) (f : FieldPats) (t : PlainType) (bs : PlainBounds) (ps : PlainTypes) (ls : PlainLabels) → exposure (context_of e) t ≡ Fields bs ps ls
    → Asks extension_ (rule e (pattern_against (fields_pat s f) t)) opened_ e (fields_against s f bs ps ls)
asks_fields e s f t bs ps ls is =
    subst (λ u. Asks extension_ (if_record u (λ bs ps ls. part e (fields_against s f bs ps ls) (λ x. give (within x.own x.adds))) (refuse Y5 s)) opened_ e (fields_against s f bs ps ls)) (sym is) this_part

pub fields_asked : (e : Environment) (s : Span) (f : FieldPats) (t : PlainType) (bs : PlainBounds) (ps : PlainTypes) (ls : PlainLabels) → IsWellAsked extension_ e (pattern_against (fields_pat s f) t) → exposure (context_of e) t ≡ Fields bs ps ls
    → IsWellAsked opened_ e (fields_against s f bs ps ls)
fields_asked e s f t bs ps ls a is = asked_of (pattern_against (fields_pat s f) t) a (asks_fields e s f t bs ps ls is)

-- a fold asks of its inner pattern
pub inner_asked : (e : Environment) (s : Span) (r : RType) (p : Pat) (t u : PlainType) → IsWellAsked extension_ e (pattern_against (fold_pat s r p) t) → IsTypeIn e u → IsWellAsked extension_ e (pattern_against p u)
inner_asked e s r p t u a h = record { labels = a.labels.1; regular = a.regular; asked = h }

-- the fields ask of the type binders, and then of the patterns
counted_asks : {r : Sort} {d : Environment} {j : Judgement r} (e : Environment) (s : Span) (bs : TypeBinders) (ps : Pats) (ls : LabelledPats) (rs : PlainBounds) (ts : PlainTypes) (ms : PlainLabels) → count_binders bs ≡ count_bounds rs → count_pats ps ≡ count_types ts
    → Asks opened_ (after_counts e bs ps ls rs ts ms) r d j → Asks opened_ (rule e (fields_against s (field_pats bs ps ls) rs ts ms)) r d j
counted_asks e s bs ps ls rs ts ms p q h = rw (eq-eqb (count_binders bs) (count_bounds rs) p, eq-eqb (count_pats ps) (count_types ts) q) h

pub own_asked : (e : Environment) (s : Span) (bs : TypeBinders) (ps : Pats) (ls : LabelledPats) (rs : PlainBounds) (ts : PlainTypes) (ms : PlainLabels) → IsWellAsked opened_ e (fields_against s (field_pats bs ps ls) rs ts ms) → count_binders bs ≡ count_bounds rs → count_pats ps ≡ count_types ts
    → IsWellAsked binders_ e (binders_against bs rs)
own_asked e s bs ps ls rs ts ms a p q = asked_of (fields_against s (field_pats bs ps ls) rs ts ms) a (counted_asks e s bs ps ls rs ts ms p q this_part)

pub positional_asked : (e d : Environment) (s : Span) (bs : TypeBinders) (ps : Pats) (ls : LabelledPats) (rs : PlainBounds) (ts : PlainTypes) (ms : PlainLabels) (own : List KnownType) → IsWellAsked opened_ e (fields_against s (field_pats bs ps ls) rs ts ms) → count_binders bs ≡ count_bounds rs → count_pats ps ≡ count_types ts
    → Runs (rule e (binders_against bs rs)) (ok own) → d ≡ with_own e own → IsWellAsked extension_ d (patterns_against ps ts)
positional_asked e d s bs ps ls rs ts ms own a p q h is =
    subst (λ z. IsWellAsked extension_ z (patterns_against ps ts)) (sym is)
    (asked_of (fields_against s (field_pats bs ps ls) rs ts ms) a (counted_asks e s bs ps ls rs ts ms p q (past_part h this_part)))

pub labelled_asked : (e d : Environment) (s : Span) (bs : TypeBinders) (ps : Pats) (ls : LabelledPats) (rs : PlainBounds) (ts : PlainTypes) (ms : PlainLabels) (own : List KnownType) (x : Extension) → IsWellAsked opened_ e (fields_against s (field_pats bs ps ls) rs ts ms) → count_binders bs ≡ count_bounds rs → count_pats ps ≡ count_types ts
    → Runs (rule e (binders_against bs rs)) (ok own) → d ≡ with_own e own → Runs (rule d (patterns_against ps ts)) (ok x) → IsWellAsked extension_ d (labelled_patterns_against ls ms)
labelled_asked e d s bs ps ls rs ts ms own x a p q h is k =
    subst (λ z. IsWellAsked extension_ z (labelled_patterns_against ls ms)) (sym is)
    (asked_of (fields_against s (field_pats bs ps ls) rs ts ms) a (counted_asks e s bs ps ls rs ts ms p q (past_part h (past_part (subst (λ z. Runs (rule z (patterns_against ps ts)) (ok x)) is k) this_part))))

-- one pattern of a list
pub nth_type_is : (xs : List Ty) (i : ℕ) (x : Ty) → i < length xs → x ≡ get_or xs i x → nth_type i (plain_types xs) ≡ plain x
nth_type_is [] i x h is = absurd (omega (arith, h))
nth_type_is (y ∷ xs) zero x h is = ap plain (sym is)
nth_type_is (y ∷ xs) (suc i) x h is = nth_type_is xs i x (omega (arith, h)) is

pub pattern_asked : (e d : Environment) (xs : List RPat) (ts : List Ty) (i : ℕ) (p : RPat) (t : Ty) → IsWellAsked extension_ e (patterns_against (pats_on no_pats xs) (plain_types ts)) → i < length xs → p ≡ get_or xs i p → i < length ts → t ≡ get_or ts i t → d ≡ e
    → IsWellAsked extension_ d (pattern_against (pat_of p) (plain t))
pattern_asked e d xs ts i p t a h is k at same =
    subst (λ z. IsWellAsked extension_ z (pattern_against (pat_of p) (plain t))) (sym same) (record {
      labels = pat_distinct xs i p h is a.labels;
      regular = a.regular;
      asked = subst (λ u. IsTypeIn e u) (nth_type_is ts i t k at) (number_formed e.names (kinds_in e) i (plain_types ts) a.asked);
    })

-- one labelled pattern of a list
pub formed_at : (ns : List (List ℕ)) (ks : List Kind) (o : Option PlainType) (t : PlainType) → o ≡ Some t → IfFormed ns ks o → IsWellFormed ns ks t
formed_at ns ks o t is h = subst (λ z. IfFormed ns ks z) is h
