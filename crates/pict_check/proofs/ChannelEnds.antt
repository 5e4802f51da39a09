-- Folds and blocks, one lemma for each way that a body ends.
use Rattle.std.proofs.Common.{Result, Option, Some, None}
use Rattle.pict_syntax.specs.declared.code.Code.TheVariants.{Y13}
use Rattle.pict_syntax.specs.declared.span.Span.{Span}
use Rattle.pict_syntax.specs.Grammar.{type_span}
use Rattle.pict_syntax.specs.Trees.{Val, Decs, FieldVals, RType, of_chan, fold_chan, block_chan, apply_chan}
use Rattle.pict_types.specs.Types.{PlainType, PlainTypes, no_type, types}
use Rattle.pict_normal.specs.Normal.{kind_stop, normal, size_stop}
use Rattle.pict_rules.specs.Environments.{Environment, opened_since, shifted_by}
use Rattle.pict_rules.specs.Regular.{IsTypeIn}
use Rattle.pict_rules.specs.Rules.{nothing_, type_, types_, environment_, gives, has, application, declarations, Rule, give, ok}
use Rattle.pict_rules.specs.Clauses.{check, done}
use Rattle.pict_rules.specs.Shapes.{nth_type}
use Rattle.pict_rules.specs.Typing.{rule}
use Rattle.pict_rules.specs.Derivations.{Runs, give_, part_ok}
use Rattle.pict_rules.specs.Reached.{this_part, past_part}
use Rattle.pict_infer.specs.declared.error.InferError.{InferError}
use Rattle.pict_infer.specs.Answering.{IsRefused, IsAnswer, nothing}
use Rattle.pict_infer.specs.Asking.{IsWellAsked}
use Rattle.pict_infer.proofs.Asked.{asked_of}
use Rattle.pict_infer.proofs.Through.{GoesOn, refused_on, refused_past, refused, unstopped, cased_recursive, given}
use Rattle.pict_lines.specs.Lines.{fold_annotated, fold_of, outside}
use Rattle.pict_lines.proofs.Ends.{answer_past, ends_with, past_refused, refused_here}

-- FOLDS

-- how the rule of an annotated fold goes on
abbrev Folded : Environment → Val → PlainTypes → Rule type_
Folded e v ts = check e (has v (nth_type 1 ts)) (give (nth_type 0 ts))

folds : (e : Environment) (s : Span) (r : RType) (v : Val) → GoesOn types_ type_ (fold_annotated e r s) (rule e (gives (of_chan (fold_chan s r v)))) (Folded e v)
folds e s None v = refused
folds e s (Some a) v =
    unstopped (kind_stop e.names e.context a)
    (cased_recursive (normal e.names e.context a) Y13 (type_span a) (λ u. unstopped (size_stop e.context u s) given))

pub fold_refused : (e : Environment) (s : Span) (r : RType) (v : Val) (y : InferError) → IsRefused (fold_annotated e r s) y → IsRefused (rule e (gives (of_chan (fold_chan s r v)))) y
fold_refused e s r v y h = refused_on y (folds e s r v) h

pub fold_value_refused : (e : Environment) (s : Span) (r : RType) (v : Val) (t u : PlainType) (y : InferError) → Runs (fold_annotated e r s) (ok (types t (types u no_type))) → IsRefused (rule e (has v u)) y → IsRefused (rule e (gives (of_chan (fold_chan s r v)))) y
fold_value_refused e s r v t u y p h = refused_past (types t (types u no_type)) y (folds e s r v) p (refused_here _ _ _ y h)

pub fold_done : (e : Environment) (s : Span) (r : RType) (v : Val) (t u : PlainType) → Runs (fold_annotated e r s) (ok (types t (types u no_type))) → Runs (rule e (has v u)) (ok tt) → Runs (rule e (gives (of_chan (fold_chan s r v)))) (ok t)
fold_done e s r v t u p h = (folds e s r v).on_ok (types t (types u no_type)) (ok t) p (part_ok h give_)

pub fold_asked : (e : Environment) (s : Span) (r : RType) (v : Val) (u : PlainType) → IsWellAsked type_ e (gives (of_chan (fold_chan s r v))) → IsTypeIn e u → IsWellAsked nothing_ e (has v u)
fold_asked e s r v u h w = record { labels = h.labels.1; regular = h.regular; asked = w }

-- a fold without annotation
open_folds : (e : Environment) (s : Span) (v : Val) (t : PlainType) → GoesOn type_ nothing_ (fold_of e t s) (rule e (has (of_chan (fold_chan s None v)) t)) (λ u. check e (has v u) done)
open_folds e s v t = cased_recursive t Y13 s (λ u. unstopped (size_stop e.context u s) given)

pub open_fold_refused : (e : Environment) (s : Span) (v : Val) (t : PlainType) (y : InferError) → IsRefused (fold_of e t s) y → IsRefused (rule e (has (of_chan (fold_chan s None v)) t)) y
open_fold_refused e s v t y h = refused_on y (open_folds e s v t) h

pub open_fold_end : (e : Environment) (s : Span) (v : Val) (t u : PlainType) (r : Result (Unit {0}) InferError) → Runs (fold_of e t s) (ok u) → IsAnswer (rule e (has v u)) nothing r → IsAnswer (rule e (has (of_chan (fold_chan s None v)) t)) nothing r
open_fold_end e s v t u r p h = answer_past _ u r (open_folds e s v t) p (ends_with _ _ _ _ _ r (λ x. give_) h)

pub open_fold_asked : (e : Environment) (s : Span) (v : Val) (t u : PlainType) → IsWellAsked nothing_ e (has (of_chan (fold_chan s None v)) t) → IsTypeIn e u → IsWellAsked nothing_ e (has v u)
open_fold_asked e s v t u h w = record { labels = h.labels.1; regular = h.regular; asked = w }

-- BLOCKS

pub block_asked : (e : Environment) (s : Span) (ds : Decs) (v : Val) → IsWellAsked type_ e (gives (of_chan (block_chan s ds v))) → IsWellAsked environment_ e (declarations ds)
block_asked e s ds v h = asked_of (gives (of_chan (block_chan s ds v))) h this_part

pub body_asked : (e d : Environment) (s : Span) (ds : Decs) (v : Val) → IsWellAsked type_ e (gives (of_chan (block_chan s ds v))) → Runs (rule e (declarations ds)) (ok d) → IsWellAsked type_ d (gives v)
body_asked e d s ds v h p = asked_of (gives (of_chan (block_chan s ds v))) h (past_part p this_part)

pub block_refused : (e : Environment) (s : Span) (ds : Decs) (v : Val) (y : InferError) → IsRefused (rule e (declarations ds)) y → IsRefused (rule e (gives (of_chan (block_chan s ds v)))) y
block_refused e s ds v y h = refused_here _ _ _ y h

pub body_refused : (e d : Environment) (s : Span) (ds : Decs) (v : Val) (y : InferError) → Runs (rule e (declarations ds)) (ok d) → IsRefused (rule d (gives v)) y → IsRefused (rule e (gives (of_chan (block_chan s ds v)))) y
body_refused e d s ds v y p h = past_refused _ _ _ d y p (refused_here _ _ _ y h)

pub outside_refused : (e d : Environment) (s : Span) (ds : Decs) (v : Val) (t : PlainType) (y : InferError) → Runs (rule e (declarations ds)) (ok d) → Runs (rule d (gives v)) (ok t) → IsRefused (outside (opened_since e d) t s) y → IsRefused (rule e (gives (of_chan (block_chan s ds v)))) y
outside_refused e d s ds v t y p q h = past_refused _ _ _ d y p (past_refused _ _ _ t y q h)

pub block_done : (e d : Environment) (s : Span) (ds : Decs) (v : Val) (t u : PlainType) → Runs (rule e (declarations ds)) (ok d) → Runs (rule d (gives v)) (ok t) → Runs (outside (opened_since e d) t s) (ok u) → Runs (rule e (gives (of_chan (block_chan s ds v)))) (ok u)
block_done e d s ds v t u p q h = part_ok p (part_ok q h)

pub has_block_asked : (e : Environment) (s : Span) (ds : Decs) (v : Val) (t : PlainType) → IsWellAsked nothing_ e (has (of_chan (block_chan s ds v)) t) → IsWellAsked environment_ e (declarations ds)
has_block_asked e s ds v t h = asked_of (has (of_chan (block_chan s ds v)) t) h this_part

pub has_body_asked : (e d : Environment) (s : Span) (ds : Decs) (v : Val) (t : PlainType) → IsWellAsked nothing_ e (has (of_chan (block_chan s ds v)) t) → Runs (rule e (declarations ds)) (ok d) → IsWellAsked nothing_ d (has v (shifted_by (opened_since e d) t))
has_body_asked e d s ds v t h p = asked_of (has (of_chan (block_chan s ds v)) t) h (past_part p this_part)

pub has_block_refused : (e : Environment) (s : Span) (ds : Decs) (v : Val) (t : PlainType) (y : InferError) → IsRefused (rule e (declarations ds)) y → IsRefused (rule e (has (of_chan (block_chan s ds v)) t)) y
has_block_refused e s ds v t y h = refused_here _ _ _ y h

pub has_body_refused : (e d : Environment) (s : Span) (ds : Decs) (v : Val) (t : PlainType) (y : InferError) → Runs (rule e (declarations ds)) (ok d) → IsRefused (rule d (has v (shifted_by (opened_since e d) t))) y → IsRefused (rule e (has (of_chan (block_chan s ds v)) t)) y
has_body_refused e d s ds v t y p h = past_refused _ _ _ d y p (refused_here _ _ _ y h)

pub has_block_done : (e d : Environment) (s : Span) (ds : Decs) (v : Val) (t : PlainType) → Runs (rule e (declarations ds)) (ok d) → Runs (rule d (has v (shifted_by (opened_since e d) t))) (ok tt) → Runs (rule e (has (of_chan (block_chan s ds v)) t)) (ok tt)
has_block_done e d s ds v t p h = part_ok p (part_ok h give_)

-- APPLICATIONS

pub head_asked : (e : Environment) (s : Span) (f : Val) (vs : FieldVals) → IsWellAsked type_ e (gives (of_chan (apply_chan s f vs))) → IsWellAsked type_ e (application s f vs None)
head_asked e s f vs h = asked_of (gives (of_chan (apply_chan s f vs))) h this_part

pub applied_asked : (e : Environment) (s : Span) (f : Val) (vs : FieldVals) (x : Option PlainType) → IsWellAsked type_ e (application s f vs x) → IsWellAsked type_ e (gives f)
applied_asked e s f vs x h = asked_of (application s f vs x) h this_part

pub applied_refused : (e : Environment) (s : Span) (f : Val) (vs : FieldVals) (x : Option PlainType) (y : InferError) → IsRefused (rule e (gives f)) y → IsRefused (rule e (application s f vs x)) y
applied_refused e s f vs x y h = refused_here _ _ _ y h

pub apply_end : {T : Type 0} (g : T → PlainType) (e : Environment) (s : Span) (f : Val) (vs : FieldVals) (r : Result T InferError) → IsAnswer (rule e (application s f vs None)) g r → IsAnswer (rule e (gives (of_chan (apply_chan s f vs)))) g r
apply_end g e s f vs r h = ends_with _ _ _ _ _ r (λ x. give_) h

pub apply_refused : (e : Environment) (s : Span) (f : Val) (vs : FieldVals) (y : InferError) → IsRefused (rule e (application s f vs None)) y → IsRefused (rule e (gives (of_chan (apply_chan s f vs)))) y
apply_refused e s f vs y h = refused_here _ _ _ y h

pub has_head_asked : (e : Environment) (s : Span) (f : Val) (vs : FieldVals) (t : PlainType) → IsWellAsked nothing_ e (has (of_chan (apply_chan s f vs)) t) → IsWellAsked type_ e (application s f vs (Some t))
has_head_asked e s f vs t h = asked_of (has (of_chan (apply_chan s f vs)) t) h this_part

pub has_apply_refused : (e : Environment) (s : Span) (f : Val) (vs : FieldVals) (t : PlainType) (y : InferError) → IsRefused (rule e (application s f vs (Some t))) y → IsRefused (rule e (has (of_chan (apply_chan s f vs)) t)) y
has_apply_refused e s f vs t y h = refused_here _ _ _ y h

pub has_apply_done : (e : Environment) (s : Span) (f : Val) (vs : FieldVals) (t u : PlainType) → Runs (rule e (application s f vs (Some t))) (ok u) → Runs (rule e (has (of_chan (apply_chan s f vs)) t)) (ok tt)
has_apply_done e s f vs t u h = part_ok h give_
