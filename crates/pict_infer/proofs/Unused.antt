-- Patterns use no value: the rules answer the same of them whatever values are known.
use Rattle.std.proofs.Common.{length, Bool, true, false, if◌then◌else◌, List, Option, Some, None}
use Rattle.pict_syntax.specs.declared.code.Code.{Code}
use Rattle.pict_syntax.specs.declared.span.Span.{Span}
use Rattle.pict_syntax.specs.Trees.{Bound, unbounded, bound, TypeBinders, no_binders, more_binders, Pat, bind_pat, any_pat, fields_pat, fold_pat, FieldPats, field_pats, Pats, no_pats, more_pats, LabelledPats, no_labelled_pats, more_labelled_pats}
use Rattle.pict_syntax.specs.Stops.{Stop}
use Rattle.pict_types.specs.Types.{PlainType, Top, Int, Char, Str, Boolean, Var, Apply, Chan, Fields, Rec, PlainTypes, PlainLabels, PlainBound, PlainBounds, is_top, type_at}
use Rattle.pict_types.specs.Renaming.{moved}
use Rattle.pict_normal.specs.Normal.{normal}
use Rattle.pict_sub.specs.Exposing.{exposure}
use Rattle.pict_rules.specs.Environments.{Environment, KnownType, KnownValue, context_of, rename_values}
use Rattle.pict_rules.specs.Shapes.{written_bound}
use Rattle.pict_rules.specs.Rules.{Sort, extension_, pattern_, fields_, binders_, patterns_, labelled_patterns_, opened_, Result, Judgement, pattern_gives, fields_give, binders_give, patterns_give, labelled_patterns_give, pattern_against, fields_against, binders_against, patterns_against, labelled_patterns_against, Condition, Rule, need, part, Answer, unless_stopped, ensure}
use Rattle.pict_rules.specs.Clauses.{if_record, need_recursive, if_labelled, need_same_bound, with_own}
use Rattle.pict_rules.specs.Typing.{rule}
use Rattle.pict_rules.specs.Derivations.{Runs, met, failed, part_ok, part_stuck}

-- the environment with other values
abbrev pub with_others : List KnownValue → Environment → Environment
with_others vs e = record { names = e.names; context = e.context; values = vs }

-- what the first rule answers, so does the second
pub record Passes (s : Sort) (r q : Rule s) : Type 0 where
  pub on : (a : Answer s) → Runs r a → Runs q a

same : {s : Sort} {r : Rule s} → Passes s r r
same = record { on = λ a h. h }

parted_on : {s t : Sort} {e d : Environment} {j : Judgement t} {k l : Result t → Rule s} → Passes t (rule e j) (rule d j) → ((x : Result t) → Passes s (k x) (l x)) → (a : Answer s) → Runs (part e j k) a → Runs (part d j l) a
parted_on h f a (part_ok {x = x} p q) = part_ok (h.on _ p) ((f x).on a q)
parted_on h f a (part_stuck p) = part_stuck (h.on _ p)

parted : {s t : Sort} {e d : Environment} {j : Judgement t} {k l : Result t → Rule s} → Passes t (rule e j) (rule d j) → ((x : Result t) → Passes s (k x) (l x)) → Passes s (part e j k) (part d j l)
parted h f = record { on = parted_on h f }

needed_on : {s : Sort} {q : Condition} {c : Code} {i : Span} {r l : Rule s} → Passes s r l → (a : Answer s) → Runs (need q c i r) a → Runs (need q c i l) a
needed_on h a (met m p) = met m (h.on a p)
needed_on h a (failed f) = failed f

needed : {s : Sort} {q : Condition} {c : Code} {i : Span} {r l : Rule s} → Passes s r l → Passes s (need q c i r) (need q c i l)
needed h = record { on = needed_on h }

unstopped : {s : Sort} (o : Option Stop) {r l : Rule s} → Passes s r l → Passes s (unless_stopped o r) (unless_stopped o l)
unstopped None h = h
unstopped (Some x) h = same

ensured : {s : Sort} (b : Bool) (c : Code) (i : Span) {r l : Rule s} → Passes s r l → Passes s (ensure b c i r) (ensure b c i l)
ensured true c i h = h
ensured false c i h = same

cased_record : {s : Sort} (t : PlainType) {k l : PlainBounds → PlainTypes → PlainLabels → Rule s} (r : Rule s) → ((bs : PlainBounds) (ps : PlainTypes) (ls : PlainLabels) → Passes s (k bs ps ls) (l bs ps ls)) → Passes s (if_record t k r) (if_record t l r)
cased_record Top r f = same
cased_record Int r f = same
cased_record Char r f = same
cased_record Str r f = same
cased_record Boolean r f = same
cased_record (Var x) r f = same
cased_record (Apply x ts) r f = same
cased_record (Chan m t) r f = same
cased_record (Fields bs ps ls) r f = f bs ps ls
cased_record (Rec t) r f = same

cased_recursive : {s : Sort} (t : PlainType) (c : Code) (i : Span) {k l : PlainType → Rule s} → ((u : PlainType) → Passes s (k u) (l u)) → Passes s (need_recursive t c i k) (need_recursive t c i l)
cased_recursive Top c i f = same
cased_recursive Int c i f = same
cased_recursive Char c i f = same
cased_recursive Str c i f = same
cased_recursive Boolean c i f = same
cased_recursive (Var x) c i f = same
cased_recursive (Apply x ts) c i f = same
cased_recursive (Chan m t) c i f = same
cased_recursive (Fields bs ps ls) c i f = same
cased_recursive (Rec t) c i f = f _

labelled_or : {s : Sort} (o : Option PlainType) {k l : PlainType → Rule s} (r : Rule s) → ((t : PlainType) → Passes s (k t) (l t)) → Passes s (if_labelled o k r) (if_labelled o l r)
labelled_or None r f = same
labelled_or (Some t) r f = f t

split : {s : Sort} (b : Bool) {r l q w : Rule s} → Passes s r l → Passes s q w → Passes s (if b then r else q) (if b then l else w)
split true h k = h
split false h k = k

agreed : {s : Sort} (e : Environment) (vs : List KnownValue) (o : Bound) (b : PlainBound) (c : Code) (i : Span) {r l : Rule s} → Passes s r l → Passes s (need_same_bound e o b c i r) (need_same_bound (with_others vs e) o b c i l)
agreed e vs unbounded b c i h = h
agreed e vs (bound t) b c i h = split (is_top (normal e.names e.context t)) h (needed h)

-- the values under a pattern's own type variables
abbrev others_under : List KnownType → List KnownValue → List KnownValue
others_under own vs = rename_values (moved (length own) 0) vs

binders_given : (e : Environment) (vs : List KnownValue) (bs : TypeBinders) → Passes binders_ (rule e (binders_give bs)) (rule (with_others vs e) (binders_give bs))
binders_given e vs no_binders = same
binders_given e vs (more_binders bs b) = parted (binders_given e vs bs) (λ own. same)

binders_agree : (e : Environment) (vs : List KnownValue) (bs : TypeBinders) (rs : PlainBounds) → Passes binders_ (rule e (binders_against bs rs)) (rule (with_others vs e) (binders_against bs rs))
binders_agree e vs no_binders rs = same
binders_agree e vs (more_binders bs b) rs =
    parted (binders_agree e vs bs rs) (λ own. unstopped _ (ensured _ _ _ (agreed (with_own e own) (others_under own vs) (written_bound b) _ _ _ same)))

mutual
  pub pattern_passes : (p : Pat) (e : Environment) (vs : List KnownValue) → Passes pattern_ (rule e (pattern_gives p)) (rule (with_others vs e) (pattern_gives p))
  pattern_passes (bind_pat s x None) e vs = same
  pattern_passes (bind_pat s x (Some a)) e vs = same
  pattern_passes (any_pat s None) e vs = same
  pattern_passes (any_pat s (Some a)) e vs = same
  pattern_passes (fields_pat s f) e vs = parted (fields_pass f e vs) (λ g. same)
  pattern_passes (fold_pat s None p) e vs = same
  pattern_passes (fold_pat s (Some a) p) e vs =
      unstopped _ (cased_recursive (normal e.names e.context a) _ _ (λ u. unstopped _ (parted (against_passes p e vs u) (λ x. same))))

  pub fields_pass : (f : FieldPats) (e : Environment) (vs : List KnownValue) → Passes fields_ (rule e (fields_give f)) (rule (with_others vs e) (fields_give f))
  fields_pass (field_pats bs ps ls) e vs =
      parted (binders_given e vs bs) (λ own. parted (patterns_pass ps (with_own e own) (others_under own vs)) (λ g. parted (labels_pass ls (with_own e own) (others_under own vs)) (λ h. same)))

  patterns_pass : (ps : Pats) (e : Environment) (vs : List KnownValue) → Passes patterns_ (rule e (patterns_give ps)) (rule (with_others vs e) (patterns_give ps))
  patterns_pass no_pats e vs = same
  patterns_pass (more_pats ps p) e vs = parted (patterns_pass ps e vs) (λ g. parted (pattern_passes p e vs) (λ h. same))

  labels_pass : (ls : LabelledPats) (e : Environment) (vs : List KnownValue) → Passes labelled_patterns_ (rule e (labelled_patterns_give ls)) (rule (with_others vs e) (labelled_patterns_give ls))
  labels_pass no_labelled_pats e vs = same
  labels_pass (more_labelled_pats ls l p) e vs = parted (labels_pass ls e vs) (λ g. parted (pattern_passes p e vs) (λ h. same))

  pub against_passes : (p : Pat) (e : Environment) (vs : List KnownValue) (t : PlainType) → Passes extension_ (rule e (pattern_against p t)) (rule (with_others vs e) (pattern_against p t))
  against_passes (bind_pat s x None) e vs t = same
  against_passes (bind_pat s x (Some a)) e vs t = same
  against_passes (any_pat s None) e vs t = same
  against_passes (any_pat s (Some a)) e vs t = same
  against_passes (fields_pat s f) e vs t =
      cased_record (exposure (context_of e) t) _ (λ bs ps ls. parted (fields_against_pass f e vs s bs ps ls) (λ x. same))
  against_passes (fold_pat s None p) e vs t =
      cased_recursive (exposure (context_of e) t) _ _ (λ u. unstopped _ (parted (against_passes p e vs u) (λ x. same)))
  against_passes (fold_pat s (Some a) p) e vs t =
      unstopped _ (cased_recursive (normal e.names e.context a) _ _ (λ u. needed (unstopped _ (parted (against_passes p e vs u) (λ x. same)))))

  pub fields_against_pass : (f : FieldPats) (e : Environment) (vs : List KnownValue) (s : Span) (rs : PlainBounds) (ts : PlainTypes) (ms : PlainLabels) → Passes opened_ (rule e (fields_against s f rs ts ms)) (rule (with_others vs e) (fields_against s f rs ts ms))
  fields_against_pass (field_pats bs ps ls) e vs s rs ts ms =
      ensured _ _ _ (ensured _ _ _ (parted (binders_agree e vs bs rs) (λ own.
      parted (patterns_against_pass ps (with_own e own) (others_under own vs) ts) (λ x. parted (labels_against_pass ls (with_own e own) (others_under own vs) ms) (λ y. same)))))

  patterns_against_pass : (ps : Pats) (e : Environment) (vs : List KnownValue) (ts : PlainTypes) → Passes extension_ (rule e (patterns_against ps ts)) (rule (with_others vs e) (patterns_against ps ts))
  patterns_against_pass no_pats e vs ts = same
  patterns_against_pass (more_pats ps p) e vs ts = parted (patterns_against_pass ps e vs ts) (λ x. parted (against_passes p e vs _) (λ y. same))

  labels_against_pass : (ls : LabelledPats) (e : Environment) (vs : List KnownValue) (ms : PlainLabels) → Passes extension_ (rule e (labelled_patterns_against ls ms)) (rule (with_others vs e) (labelled_patterns_against ls ms))
  labels_against_pass no_labelled_pats e vs ms = same
  labels_against_pass (more_labelled_pats ls l p) e vs ms =
      parted (labels_against_pass ls e vs ms) (λ x. labelled_or (type_at l.name.0 ms) _ (λ t. parted (against_passes p e vs t) (λ y. same)))
