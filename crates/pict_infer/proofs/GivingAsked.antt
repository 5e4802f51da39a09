-- What patterns that give their type ask of their parts is well asked.
use Rattle.std.proofs.Common.{◌≡◌, ◌<◌, ℕ, List, length, get_or, sym, subst}
use Rattle.pict_syntax.specs.declared.span.Span.{Span}
use Rattle.pict_syntax.specs.declared.pattern.Pat.{Pat as RPat}
use Rattle.pict_syntax.specs.declared.pattern.LabelledPat.{LabelledPat as RLabelledPat}
use Rattle.pict_syntax.specs.Trees.{RType, Pat, fold_pat, field_pats, TypeBinders, Pats, no_pats, LabelledPats, no_labelled_pats}
use Rattle.pict_syntax.specs.PlainTrees.{pat_of, pats_on, labelled_pats_on}
use Rattle.pict_types.specs.Types.{PlainType}
use Rattle.pict_rules.specs.Environments.{Environment, KnownType}
use Rattle.pict_rules.specs.Rules.{Sort, Judgement, Answer, ok, pattern_, patterns_, labelled_patterns_, fields_, binders_, extension_, TypedPatterns, pattern_gives, fields_give, binders_give, patterns_give, labelled_patterns_give, pattern_against}
use Rattle.pict_rules.specs.Clauses.{with_own}
use Rattle.pict_rules.specs.Typing.{rule}
use Rattle.pict_rules.specs.Derivations.{Runs}
use Rattle.pict_rules.specs.Reached.{this_part, past_part}
use Rattle.pict_rules.specs.Regular.{IsTypeIn}
use Rattle.pict_infer.specs.declared.error.InferError.{InferError}
use Rattle.pict_infer.specs.Answering.{IsRefused}
use Rattle.pict_infer.specs.Asking.{IsWellAsked}
use Rattle.pict_infer.proofs.Asked.{asked_of}
use Rattle.pict_infer.proofs.PatternPlaces.{pat_distinct, labelled_distinct}

-- in an environment that is the same
pub asked_in : {s : Sort} {j : Judgement s} (d e : Environment) → d ≡ e → IsWellAsked s e j → IsWellAsked s d j
asked_in {s = s} {j = j} d e h = subst (λ f. IsWellAsked s f j) (sym h)

pub runs_in : {s : Sort} (j : Judgement s) {a : Answer s} (d e : Environment) → d ≡ e → Runs (rule d j) a → Runs (rule e j) a
runs_in {s = s} j {a = a} d e h = subst (λ f. Runs (rule f j) a) h

pub refused_in : {s : Sort} (j : Judgement s) (y : InferError) (d e : Environment) → d ≡ e → IsRefused (rule d j) y → IsRefused (rule e j) y
refused_in j y d e h = subst (λ f. IsRefused (rule f j) y) h

pub inner_asked : (e : Environment) (s : Span) (a : RType) (p : Pat) (u : PlainType) → IsWellAsked pattern_ e (pattern_gives (fold_pat s a p)) → IsTypeIn e u → IsWellAsked extension_ e (pattern_against p u)
inner_asked e s a p u h t = record { labels = h.labels.1; regular = h.regular; asked = t }

pub binders_asked : (e : Environment) (bs : TypeBinders) (ps : Pats) (ls : LabelledPats) → IsWellAsked fields_ e (fields_give (field_pats bs ps ls)) → IsWellAsked binders_ e (binders_give bs)
binders_asked e bs ps ls h = record { labels = h.labels.0; regular = h.regular; asked = tt }

pub positional_asked : (e : Environment) (bs : TypeBinders) (ps : Pats) (ls : LabelledPats) (own : List KnownType) → IsWellAsked fields_ e (fields_give (field_pats bs ps ls)) → Runs (rule e (binders_give bs)) (ok own)
    → IsWellAsked patterns_ (with_own e own) (patterns_give ps)
positional_asked e bs ps ls own h r = asked_of (fields_give (field_pats bs ps ls)) h (past_part r this_part)

pub labelled_asked : (e : Environment) (bs : TypeBinders) (ps : Pats) (ls : LabelledPats) (own : List KnownType) (g : TypedPatterns) → IsWellAsked fields_ e (fields_give (field_pats bs ps ls)) → Runs (rule e (binders_give bs)) (ok own)
    → Runs (rule (with_own e own) (patterns_give ps)) (ok g) → IsWellAsked labelled_patterns_ (with_own e own) (labelled_patterns_give ls)
labelled_asked e bs ps ls own g h r q = asked_of (fields_give (field_pats bs ps ls)) h (past_part r (past_part q this_part))

pub pat_asked : (e : Environment) (xs : List RPat) (i : ℕ) (x : RPat) → i < length xs → x ≡ get_or xs i x → IsWellAsked patterns_ e (patterns_give (pats_on no_pats xs)) → IsWellAsked pattern_ e (pattern_gives (pat_of x))
pat_asked e xs i x n is h = record { labels = pat_distinct xs i x n is h.labels; regular = h.regular; asked = tt }

pub labelled_pat_asked : (e : Environment) (xs : List RLabelledPat) (i : ℕ) (x : RLabelledPat) → i < length xs → x ≡ get_or xs i x → IsWellAsked labelled_patterns_ e (labelled_patterns_give (labelled_pats_on no_labelled_pats xs))
    → IsWellAsked pattern_ e (pattern_gives (pat_of x.pat))
labelled_pat_asked e xs i x n is h = record { labels = labelled_distinct xs i x n is h.labels; regular = h.regular; asked = tt }
