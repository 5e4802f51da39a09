-- Every pattern has an answer.
use Rattle.std.proofs.Common.{Some, None}
use Rattle.pict_syntax.specs.declared.span.Span.{Span}
use Rattle.pict_syntax.specs.Trees.{TypeBinders, no_binders, more_binders, Pat, bind_pat, any_pat, fields_pat, fold_pat, FieldPats, field_pats, Pats, no_pats, more_pats, LabelledPats, no_labelled_pats, more_labelled_pats}
use Rattle.pict_types.specs.Types.{PlainType, PlainTypes, PlainLabels, PlainBounds, type_at}
use Rattle.pict_normal.specs.Normal.{normal}
use Rattle.pict_sub.specs.Exposing.{exposure}
use Rattle.pict_rules.specs.Environments.{Environment, context_of}
use Rattle.pict_rules.specs.Shapes.{written_bound}
use Rattle.pict_rules.specs.Rules.{extension_, pattern_, fields_, binders_, patterns_, labelled_patterns_, opened_, pattern_gives, fields_give, binders_give, patterns_give, labelled_patterns_give, pattern_against, fields_against, binders_against, patterns_against, labelled_patterns_against}
use Rattle.pict_rules.specs.Clauses.{with_own}
use Rattle.pict_rules.specs.Typing.{rule}
use Rattle.pict_rules.proofs.Answered.{Decides, Answered, given, refused, needed, parted, unstopped, ensured, cased_record, cased_recursive, agreed, labelled_or}

pub binders_answered : (e : Environment) (bs : TypeBinders) → Answered binders_ (rule e (binders_give bs))
binders_answered e no_binders = given
binders_answered e (more_binders bs b) = parted (binders_answered e bs) (λ own. unstopped _ given)

pub binders_agree : Decides → (e : Environment) (bs : TypeBinders) (rs : PlainBounds) → Answered binders_ (rule e (binders_against bs rs))
binders_agree d e no_binders rs = given
binders_agree d e (more_binders bs b) rs = parted (binders_agree d e bs rs) (λ own. unstopped _ (ensured _ _ _ (agreed d (with_own e own) (written_bound b) _ _ _ given)))

mutual
  pub pattern_answered : Decides → (p : Pat) (e : Environment) → Answered pattern_ (rule e (pattern_gives p))
  pattern_answered d (bind_pat s x None) e = refused
  pattern_answered d (bind_pat s x (Some a)) e = unstopped _ given
  pattern_answered d (any_pat s None) e = refused
  pattern_answered d (any_pat s (Some a)) e = unstopped _ given
  pattern_answered d (fields_pat s f) e = parted (fields_answered d f e) (λ g. unstopped _ given)
  pattern_answered d (fold_pat s None p) e = refused
  pattern_answered d (fold_pat s (Some a) p) e =
      unstopped _ (cased_recursive (normal e.names e.context a) _ _ (λ u. unstopped _ (parted (against_answered d p e u) (λ x. given))))

  pub fields_answered : Decides → (f : FieldPats) (e : Environment) → Answered fields_ (rule e (fields_give f))
  fields_answered d (field_pats bs ps ls) e =
      parted (binders_answered e bs) (λ own. parted (patterns_answered d ps _) (λ g. parted (labels_answered d ls _) (λ h. given)))

  pub patterns_answered : Decides → (ps : Pats) (e : Environment) → Answered patterns_ (rule e (patterns_give ps))
  patterns_answered d no_pats e = given
  patterns_answered d (more_pats ps p) e = parted (patterns_answered d ps e) (λ g. parted (pattern_answered d p e) (λ h. given))

  pub labels_answered : Decides → (ls : LabelledPats) (e : Environment) → Answered labelled_patterns_ (rule e (labelled_patterns_give ls))
  labels_answered d no_labelled_pats e = given
  labels_answered d (more_labelled_pats ls l p) e = parted (labels_answered d ls e) (λ g. parted (pattern_answered d p e) (λ h. given))

  pub against_answered : Decides → (p : Pat) (e : Environment) (t : PlainType) → Answered extension_ (rule e (pattern_against p t))
  against_answered d (bind_pat s x None) e t = given
  against_answered d (bind_pat s x (Some a)) e t = unstopped _ (needed d given)
  against_answered d (any_pat s None) e t = given
  against_answered d (any_pat s (Some a)) e t = unstopped _ (needed d given)
  against_answered d (fields_pat s f) e t =
      cased_record (exposure (context_of e) t) (λ bs ps ls. parted (fields_against_answered d f e s bs ps ls) (λ x. given)) refused
  against_answered d (fold_pat s None p) e t =
      cased_recursive (exposure (context_of e) t) _ _ (λ u. unstopped _ (parted (against_answered d p e u) (λ x. given)))
  against_answered d (fold_pat s (Some a) p) e t =
      unstopped _ (cased_recursive (normal e.names e.context a) _ _ (λ u. needed d (unstopped _ (parted (against_answered d p e u) (λ x. given)))))

  pub fields_against_answered : Decides → (f : FieldPats) (e : Environment) (s : Span) (rs : PlainBounds) (ts : PlainTypes) (ms : PlainLabels) → Answered opened_ (rule e (fields_against s f rs ts ms))
  fields_against_answered d (field_pats bs ps ls) e s rs ts ms =
      ensured _ _ _ (ensured _ _ _ (parted (binders_agree d e bs rs) (λ own. parted (patterns_against_answered d ps _ ts) (λ x. parted (labels_against_answered d ls _ ms) (λ y. given)))))

  pub patterns_against_answered : Decides → (ps : Pats) (e : Environment) (ts : PlainTypes) → Answered extension_ (rule e (patterns_against ps ts))
  patterns_against_answered d no_pats e ts = given
  patterns_against_answered d (more_pats ps p) e ts = parted (patterns_against_answered d ps e ts) (λ x. parted (against_answered d p e _) (λ y. given))

  pub labels_against_answered : Decides → (ls : LabelledPats) (e : Environment) (ms : PlainLabels) → Answered extension_ (rule e (labelled_patterns_against ls ms))
  labels_against_answered d no_labelled_pats e ms = given
  labels_against_answered d (more_labelled_pats ls l p) e ms =
      parted (labels_against_answered d ls e ms) (λ x. labelled_or (type_at l.name.0 ms) (λ t. parted (against_answered d p e t) (λ y. given)) refused)
