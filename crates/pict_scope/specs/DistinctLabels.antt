-- Phrases in which no label stands twice: in no record, record pattern, function, application or record type.
use Rattle.std.specs.Prelude.{◌≡◌, ℕ, Some, None}
use Rattle.pict_syntax.specs.Trees.{TypeTree, top_type, int_type, char_type, string_type, bool_type, use_type, both_type, read_type, write_type, respond_type, fields_type, apply_type, rec_type, TypeBinder, type_binder, Bound, unbounded, bound, TypeTrees, no_types, more_types, TypeBinders, no_binders, more_binders, LabelledTypes, no_labelled_types, more_labelled_types, RType, Pat, bind_pat, any_pat, fields_pat, fold_pat, FieldPats, field_pats, Pats, no_pats, more_pats, LabelledPats, no_labelled_pats, more_labelled_pats, Dec, new_dec, run_dec, let_dec, def_dec, alias_dec, operator_dec, await_dec, Decs, no_decs, more_decs, Definitions, no_definitions, more_definitions, Abs, process_abs, function_abs, Chan, use_chan, fold_chan, block_chan, apply_chan, right_chan, left_chan, Val, of_chan, number_val, character_val, string_val, true_val, false_val, fields_val, if_val, lambda_val, Vals, no_vals, more_vals, FieldVals, field_vals, LabelledVals, no_labelled_vals, more_labelled_vals, Proc, send_proc, receive_proc, serve_proc, if_proc, inert_proc, group_proc, Procs, no_procs, more_procs}

-- types. The label is none of these
abbrev pub IsNewLabel : ℕ → LabelledTypes → Type 0
IsNewLabel l no_labelled_types = Unit {0}
IsNewLabel l (more_labelled_types ls id t) = IsNewLabel l ls × (l ≡ id.name.0 → ⊥)

abbrev mutual
  pub HasDistinctLabels : TypeTree → Type 0
  HasDistinctLabels (top_type s) = Unit {0}
  HasDistinctLabels (int_type s) = Unit {0}
  HasDistinctLabels (char_type s) = Unit {0}
  HasDistinctLabels (string_type s) = Unit {0}
  HasDistinctLabels (bool_type s) = Unit {0}
  HasDistinctLabels (use_type s n) = Unit {0}
  HasDistinctLabels (both_type s t) = HasDistinctLabels t
  HasDistinctLabels (read_type s t) = HasDistinctLabels t
  HasDistinctLabels (write_type s t) = HasDistinctLabels t
  HasDistinctLabels (respond_type s t) = HasDistinctLabels t
  HasDistinctLabels (fields_type s bs ts ls) = BindersHaveDistinctLabels bs × (TypesHaveDistinctLabels ts × AreDistinct ls)
  HasDistinctLabels (apply_type s id ts) = TypesHaveDistinctLabels ts
  HasDistinctLabels (rec_type s id t) = HasDistinctLabels t

  pub TypesHaveDistinctLabels : TypeTrees → Type 0
  TypesHaveDistinctLabels no_types = Unit {0}
  TypesHaveDistinctLabels (more_types ts t) = TypesHaveDistinctLabels ts × HasDistinctLabels t

  -- the labels are distinct, and those within their types
  pub AreDistinct : LabelledTypes → Type 0
  AreDistinct no_labelled_types = Unit {0}
  AreDistinct (more_labelled_types ls id t) = AreDistinct ls × (IsNewLabel id.name.0 ls × HasDistinctLabels t)

  pub BindersHaveDistinctLabels : TypeBinders → Type 0
  BindersHaveDistinctLabels no_binders = Unit {0}
  BindersHaveDistinctLabels (more_binders bs b) = BindersHaveDistinctLabels bs × BinderHasDistinctLabels b

  pub BinderHasDistinctLabels : TypeBinder → Type 0
  BinderHasDistinctLabels (type_binder s id k b) = BoundHasDistinctLabels b

  pub BoundHasDistinctLabels : Bound → Type 0
  BoundHasDistinctLabels unbounded = Unit {0}
  BoundHasDistinctLabels (bound t) = HasDistinctLabels t

-- patterns, values, declarations and processes. The label is none of these
abbrev pub IsNewPattern : ℕ → LabelledPats → Type 0
IsNewPattern l no_labelled_pats = Unit {0}
IsNewPattern l (more_labelled_pats ls x p) = IsNewPattern l ls × (l ≡ x.name.0 → ⊥)

abbrev pub IsNewValue : ℕ → LabelledVals → Type 0
IsNewValue l no_labelled_vals = Unit {0}
IsNewValue l (more_labelled_vals ls x v) = IsNewValue l ls × (l ≡ x.name.0 → ⊥)

abbrev pub AnnotationHasDistinctLabels : RType → Type 0
AnnotationHasDistinctLabels None = Unit {0}
AnnotationHasDistinctLabels (Some t) = HasDistinctLabels t

abbrev mutual
  pub PatHasDistinctLabels : Pat → Type 0
  PatHasDistinctLabels (bind_pat s x r) = AnnotationHasDistinctLabels r
  PatHasDistinctLabels (any_pat s r) = AnnotationHasDistinctLabels r
  PatHasDistinctLabels (fields_pat s f) = FieldPatsHaveDistinctLabels f
  PatHasDistinctLabels (fold_pat s r p) = AnnotationHasDistinctLabels r × PatHasDistinctLabels p

  pub FieldPatsHaveDistinctLabels : FieldPats → Type 0
  FieldPatsHaveDistinctLabels (field_pats bs ps ls) = BindersHaveDistinctLabels bs × (PatsHaveDistinctLabels ps × LabelledPatsAreDistinct ls)

  pub PatsHaveDistinctLabels : Pats → Type 0
  PatsHaveDistinctLabels no_pats = Unit {0}
  PatsHaveDistinctLabels (more_pats ps p) = PatsHaveDistinctLabels ps × PatHasDistinctLabels p

  pub LabelledPatsAreDistinct : LabelledPats → Type 0
  LabelledPatsAreDistinct no_labelled_pats = Unit {0}
  LabelledPatsAreDistinct (more_labelled_pats ls x p) = LabelledPatsAreDistinct ls × (IsNewPattern x.name.0 ls × PatHasDistinctLabels p)

abbrev mutual
  pub DecHasDistinctLabels : Dec → Type 0
  DecHasDistinctLabels (new_dec s x t) = HasDistinctLabels t
  DecHasDistinctLabels (run_dec s p) = ProcHasDistinctLabels p
  DecHasDistinctLabels (let_dec s p v) = PatHasDistinctLabels p × ValHasDistinctLabels v
  DecHasDistinctLabels (def_dec s ds) = DefinitionsHaveDistinctLabels ds
  DecHasDistinctLabels (alias_dec s x t) = HasDistinctLabels t
  DecHasDistinctLabels (operator_dec s x xs t) = HasDistinctLabels t
  DecHasDistinctLabels (await_dec s v) = ValHasDistinctLabels v

  pub DecsHaveDistinctLabels : Decs → Type 0
  DecsHaveDistinctLabels no_decs = Unit {0}
  DecsHaveDistinctLabels (more_decs ds d) = DecsHaveDistinctLabels ds × DecHasDistinctLabels d

  pub DefinitionsHaveDistinctLabels : Definitions → Type 0
  DefinitionsHaveDistinctLabels no_definitions = Unit {0}
  DefinitionsHaveDistinctLabels (more_definitions ds x a) = DefinitionsHaveDistinctLabels ds × AbsHasDistinctLabels a

  pub AbsHasDistinctLabels : Abs → Type 0
  AbsHasDistinctLabels (process_abs s p q) = PatHasDistinctLabels p × ProcHasDistinctLabels q
  AbsHasDistinctLabels (function_abs s f r v) = FieldPatsHaveDistinctLabels f × (AnnotationHasDistinctLabels r × ValHasDistinctLabels v)

  pub ChanHasDistinctLabels : Chan → Type 0
  ChanHasDistinctLabels (use_chan s n) = Unit {0}
  ChanHasDistinctLabels (fold_chan s r v) = AnnotationHasDistinctLabels r × ValHasDistinctLabels v
  ChanHasDistinctLabels (block_chan s ds v) = DecsHaveDistinctLabels ds × ValHasDistinctLabels v
  ChanHasDistinctLabels (apply_chan s v f) = ValHasDistinctLabels v × FieldValsHaveDistinctLabels f
  ChanHasDistinctLabels (right_chan s x vs) = ValsHaveDistinctLabels vs
  ChanHasDistinctLabels (left_chan s x vs) = ValsHaveDistinctLabels vs

  pub ValHasDistinctLabels : Val → Type 0
  ValHasDistinctLabels (of_chan c) = ChanHasDistinctLabels c
  ValHasDistinctLabels (number_val s n) = Unit {0}
  ValHasDistinctLabels (character_val s b) = Unit {0}
  ValHasDistinctLabels (string_val s b) = Unit {0}
  ValHasDistinctLabels (true_val s) = Unit {0}
  ValHasDistinctLabels (false_val s) = Unit {0}
  ValHasDistinctLabels (fields_val s f) = FieldValsHaveDistinctLabels f
  ValHasDistinctLabels (if_val s c v w) = ValHasDistinctLabels c × (ValHasDistinctLabels v × ValHasDistinctLabels w)
  ValHasDistinctLabels (lambda_val s a) = AbsHasDistinctLabels a

  pub ValsHaveDistinctLabels : Vals → Type 0
  ValsHaveDistinctLabels no_vals = Unit {0}
  ValsHaveDistinctLabels (more_vals vs v) = ValsHaveDistinctLabels vs × ValHasDistinctLabels v

  pub FieldValsHaveDistinctLabels : FieldVals → Type 0
  FieldValsHaveDistinctLabels (field_vals ts vs ls) = TypesHaveDistinctLabels ts × (ValsHaveDistinctLabels vs × LabelledValsAreDistinct ls)

  pub LabelledValsAreDistinct : LabelledVals → Type 0
  LabelledValsAreDistinct no_labelled_vals = Unit {0}
  LabelledValsAreDistinct (more_labelled_vals ls x v) = LabelledValsAreDistinct ls × (IsNewValue x.name.0 ls × ValHasDistinctLabels v)

  pub ProcHasDistinctLabels : Proc → Type 0
  ProcHasDistinctLabels (send_proc s c v) = ChanHasDistinctLabels c × ValHasDistinctLabels v
  ProcHasDistinctLabels (receive_proc s c a) = ChanHasDistinctLabels c × AbsHasDistinctLabels a
  ProcHasDistinctLabels (serve_proc s c a) = ChanHasDistinctLabels c × AbsHasDistinctLabels a
  ProcHasDistinctLabels (if_proc s v p q) = ValHasDistinctLabels v × (ProcHasDistinctLabels p × ProcHasDistinctLabels q)
  ProcHasDistinctLabels (inert_proc s) = Unit {0}
  ProcHasDistinctLabels (group_proc s ds ps) = DecsHaveDistinctLabels ds × ProcsHaveDistinctLabels ps

  pub ProcsHaveDistinctLabels : Procs → Type 0
  ProcsHaveDistinctLabels no_procs = Unit {0}
  ProcsHaveDistinctLabels (more_procs ps p) = ProcsHaveDistinctLabels ps × ProcHasDistinctLabels p
