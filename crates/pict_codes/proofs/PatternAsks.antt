-- The rules of patterns ask judgements on patterns alone.
use Rattle.std.proofs.Common.{Some, None}
use Rattle.pict_syntax.specs.declared.span.Span.{Span}
use Rattle.pict_syntax.specs.Trees.{TypeBinders, no_binders, more_binders, Pat, bind_pat, any_pat, fields_pat, fold_pat, FieldPats, field_pats, Pats, no_pats, more_pats, LabelledPats, no_labelled_pats, more_labelled_pats}
use Rattle.pict_types.specs.Types.{PlainType, PlainTypes, PlainLabels, PlainBounds, type_at}
use Rattle.pict_normal.specs.Normal.{normal}
use Rattle.pict_sub.specs.Exposing.{exposure}
use Rattle.pict_rules.specs.Environments.{Environment, context_of}
use Rattle.pict_rules.specs.Shapes.{written_bound}
use Rattle.pict_rules.specs.Rules.{Sort, Judgement, pattern_gives, fields_give, binders_give, patterns_give, labelled_patterns_give, pattern_against, fields_against, binders_against, patterns_against, labelled_patterns_against}
use Rattle.pict_rules.specs.Clauses.{with_own}
use Rattle.pict_rules.specs.Typing.{rule}
use Rattle.pict_rules.proofs.Results.{Each, IsResult, any_given, asked_has, gives_, refuses, needs, parts, ensures, unless, in_records, in_recursives, same_bounds, at_labels}
use Rattle.pict_codes.specs.Laws.{PatternCodes}
use Rattle.pict_codes.proofs.Origins.{IsPattern, IsClosed, pattern_codes_alone}

abbrev AsksPatterns : (s : Sort) → Environment → Judgement s → Type 0
AsksPatterns s e j = Each (λ t d k. IsPattern k) IsResult s (any_given s) (rule e j)

pattern_given : (e : Environment) (p : Pat) → AsksPatterns _ e (pattern_gives p)
pattern_given e (bind_pat s x None) = refuses
pattern_given e (bind_pat s x (Some a)) = unless _ (gives_ tt)
pattern_given e (any_pat s None) = refuses
pattern_given e (any_pat s (Some a)) = unless _ (gives_ tt)
pattern_given e (fields_pat s f) = parts tt (λ g h. unless _ (gives_ tt))
pattern_given e (fold_pat s None p) = refuses
pattern_given e (fold_pat s (Some a) p) = unless _ (in_recursives (normal e.names e.context a) _ _ (λ u. unless _ (parts tt (λ x h. gives_ tt))))

binders_given : (e : Environment) (bs : TypeBinders) → AsksPatterns _ e (binders_give bs)
binders_given e no_binders = gives_ tt
binders_given e (more_binders bs b) = parts tt (λ own h. unless _ (gives_ tt))

patterns_given : (e : Environment) (ps : Pats) → AsksPatterns _ e (patterns_give ps)
patterns_given e no_pats = gives_ tt
patterns_given e (more_pats ps p) = parts tt (λ g h. parts tt (λ x i. gives_ tt))

labels_given : (e : Environment) (ls : LabelledPats) → AsksPatterns _ e (labelled_patterns_give ls)
labels_given e no_labelled_pats = gives_ tt
labels_given e (more_labelled_pats ls l p) = parts tt (λ g h. parts tt (λ x i. gives_ tt))

fields_given : (e : Environment) (f : FieldPats) → AsksPatterns _ e (fields_give f)
fields_given e (field_pats bs ps ls) = parts tt (λ own h. parts tt (λ g i. parts tt (λ x k. gives_ tt)))

pattern_asked : (e : Environment) (p : Pat) (t : PlainType) → AsksPatterns _ e (pattern_against p t)
pattern_asked e (bind_pat s x None) t = gives_ tt
pattern_asked e (bind_pat s x (Some a)) t = unless _ (needs (gives_ tt))
pattern_asked e (any_pat s None) t = gives_ tt
pattern_asked e (any_pat s (Some a)) t = unless _ (needs (gives_ tt))
pattern_asked e (fields_pat s f) t = in_records (exposure (context_of e) t) (λ bs ps ls. parts tt (λ x h. gives_ tt)) refuses
pattern_asked e (fold_pat s None p) t = in_recursives (exposure (context_of e) t) _ _ (λ u. unless _ (parts tt (λ x h. gives_ tt)))
pattern_asked e (fold_pat s (Some a) p) t =
    unless _ (in_recursives (normal e.names e.context a) _ _ (λ u. needs (unless _ (parts tt (λ x h. gives_ tt)))))

binders_asked : (e : Environment) (bs : TypeBinders) (rs : PlainBounds) → AsksPatterns _ e (binders_against bs rs)
binders_asked e no_binders rs = gives_ tt
binders_asked e (more_binders bs b) rs = parts tt (λ own h. unless _ (ensures _ _ _ (same_bounds (with_own e own) (written_bound b) _ _ _ (gives_ tt))))

patterns_asked : (e : Environment) (ps : Pats) (ts : PlainTypes) → AsksPatterns _ e (patterns_against ps ts)
patterns_asked e no_pats ts = gives_ tt
patterns_asked e (more_pats ps p) ts = parts tt (λ x h. parts tt (λ y i. gives_ tt))

labels_asked : (e : Environment) (ls : LabelledPats) (ms : PlainLabels) → AsksPatterns _ e (labelled_patterns_against ls ms)
labels_asked e no_labelled_pats ms = gives_ tt
labels_asked e (more_labelled_pats ls l p) ms = parts tt (λ x h. at_labels (type_at l.name.0 ms) (λ t. parts tt (λ y i. gives_ tt)) refuses)

fields_asked : (e : Environment) (s : Span) (f : FieldPats) (rs : PlainBounds) (ts : PlainTypes) (ms : PlainLabels) → AsksPatterns _ e (fields_against s f rs ts ms)
fields_asked e s (field_pats bs ps ls) rs ts ms = ensures _ _ _ (ensures _ _ _ (parts tt (λ own h. parts tt (λ x i. parts tt (λ y k. gives_ tt)))))

patterns_ask : (s : Sort) (e : Environment) (j : Judgement s) → IsPattern j → AsksPatterns s e j
patterns_ask s e (pattern_gives p) h = pattern_given e p
patterns_ask s e (fields_give f) h = fields_given e f
patterns_ask s e (binders_give bs) h = binders_given e bs
patterns_ask s e (patterns_give ps) h = patterns_given e ps
patterns_ask s e (labelled_patterns_give ls) h = labels_given e ls
patterns_ask s e (pattern_against p t) h = pattern_asked e p t
patterns_ask s e (fields_against i f bs ps ls) h = fields_asked e i f bs ps ls
patterns_ask s e (binders_against bs rs) h = binders_asked e bs rs
patterns_ask s e (patterns_against ps ts) h = patterns_asked e ps ts
patterns_ask s e (labelled_patterns_against ls ms) h = labels_asked e ls ms
patterns_ask s e _ h = absurd h

closed_patterns : IsClosed (λ t e j. IsPattern j)
closed_patterns s t e d j k h a = asked_has (patterns_ask s e j h) a

pub pattern_codes_only : PatternCodes
pattern_codes_only = record {
  give_ = λ e p c i h. pattern_codes_alone closed_patterns _ e (pattern_gives p) c i tt h;
  against = λ e p t c i h. pattern_codes_alone closed_patterns _ e (pattern_against p t) c i tt h;
  fields_give_ = λ e f c i h. pattern_codes_alone closed_patterns _ e (fields_give f) c i tt h;
  fields_against_ = λ e s f bs ps ls c i h. pattern_codes_alone closed_patterns _ e (fields_against s f bs ps ls) c i tt h;
}
