-- Trees all of whose places have a property.
use Rattle.std.specs.Prelude.{List, [], ◌∷◌, Some, None}
use Rattle.pict_syntax.specs.declared.code.Code.{Code}
use Rattle.pict_syntax.specs.declared.code.Code.TheVariants.{I1}
use Rattle.pict_syntax.specs.declared.id.Id.{Id}
use Rattle.pict_syntax.specs.declared.span.Span.{Span}
use Rattle.pict_syntax.specs.Trees.{TypeTree, top_type, int_type, char_type, string_type, bool_type, use_type, both_type, read_type, write_type, respond_type, fields_type, apply_type, rec_type, TypeBinder, type_binder, Bound, unbounded, bound, TypeTrees, no_types, more_types, TypeBinders, no_binders, more_binders, LabelledTypes, no_labelled_types, more_labelled_types, RType, Pat, bind_pat, any_pat, fields_pat, fold_pat, FieldPats, field_pats, Pats, no_pats, more_pats, LabelledPats, no_labelled_pats, more_labelled_pats, Dec, new_dec, run_dec, let_dec, def_dec, alias_dec, operator_dec, await_dec, Decs, no_decs, more_decs, Definitions, no_definitions, more_definitions, Abs, process_abs, function_abs, Chan, use_chan, fold_chan, block_chan, apply_chan, right_chan, left_chan, Val, of_chan, number_val, character_val, string_val, true_val, false_val, fields_val, if_val, lambda_val, Vals, no_vals, more_vals, FieldVals, field_vals, LabelledVals, no_labelled_vals, more_labelled_vals, Proc, send_proc, receive_proc, serve_proc, if_proc, inert_proc, group_proc, Procs, no_procs, more_procs}

-- a code by which nothing is said to be absent
abbrev pub IsNoAbsence : Code → Type 0
IsNoAbsence I1 = ⊥
IsNoAbsence code = Unit {0}

-- a refusal at a place with the property, by which nothing is said to be absent
abbrev pub Line : (Span → Type 0) → Code × Span → Type 0
Line P stop = IsNoAbsence stop.0 × P stop.1

module _ (P : Span → Type 0) where
  abbrev mutual
    pub TypeStands : TypeTree → Type 0
    TypeStands (top_type s) = P s
    TypeStands (int_type s) = P s
    TypeStands (char_type s) = P s
    TypeStands (string_type s) = P s
    TypeStands (bool_type s) = P s
    TypeStands (use_type s n) = P s
    TypeStands (both_type s t) = P s × TypeStands t
    TypeStands (read_type s t) = P s × TypeStands t
    TypeStands (write_type s t) = P s × TypeStands t
    TypeStands (respond_type s t) = P s × TypeStands t
    TypeStands (fields_type s bs ts ls) = P s × (BindersStand bs × (TypesStand ts × LabelledTypesStand ls))
    TypeStands (apply_type s x ts) = P s × (P x.span × TypesStand ts)
    TypeStands (rec_type s x t) = P s × (P x.span × TypeStands t)

    pub TypesStand : TypeTrees → Type 0
    TypesStand no_types = Unit {0}
    TypesStand (more_types ts t) = TypesStand ts × TypeStands t

    pub LabelledTypesStand : LabelledTypes → Type 0
    LabelledTypesStand no_labelled_types = Unit {0}
    LabelledTypesStand (more_labelled_types ls x t) = LabelledTypesStand ls × (P x.span × TypeStands t)

    pub BinderStands : TypeBinder → Type 0
    BinderStands (type_binder s x k b) = P s × (P x.span × BoundStands b)

    pub BoundStands : Bound → Type 0
    BoundStands unbounded = Unit {0}
    BoundStands (bound t) = TypeStands t

    pub BindersStand : TypeBinders → Type 0
    BindersStand no_binders = Unit {0}
    BindersStand (more_binders bs b) = BindersStand bs × BinderStands b

  abbrev pub AnnotationStands : RType → Type 0
  AnnotationStands None = Unit {0}
  AnnotationStands (Some t) = TypeStands t

  abbrev mutual
    pub PatStands : Pat → Type 0
    PatStands (bind_pat s x r) = P s × (P x.span × AnnotationStands r)
    PatStands (any_pat s r) = P s × AnnotationStands r
    PatStands (fields_pat s f) = P s × FieldPatsStand f
    PatStands (fold_pat s r p) = P s × (AnnotationStands r × PatStands p)

    pub FieldPatsStand : FieldPats → Type 0
    FieldPatsStand (field_pats bs ps ls) = BindersStand bs × (PatsStand ps × LabelledPatsStand ls)

    pub PatsStand : Pats → Type 0
    PatsStand no_pats = Unit {0}
    PatsStand (more_pats ps p) = PatsStand ps × PatStands p

    pub LabelledPatsStand : LabelledPats → Type 0
    LabelledPatsStand no_labelled_pats = Unit {0}
    LabelledPatsStand (more_labelled_pats ls x p) = LabelledPatsStand ls × (P x.span × PatStands p)

  abbrev pub IdsStand : List Id → Type 0
  IdsStand [] = Unit {0}
  IdsStand (x ∷ xs) = P x.span × IdsStand xs

  abbrev mutual
    pub DecStands : Dec → Type 0
    DecStands (new_dec s x t) = P s × (P x.span × TypeStands t)
    DecStands (run_dec s p) = P s × ProcStands p
    DecStands (let_dec s p v) = P s × (PatStands p × ValStands v)
    DecStands (def_dec s ds) = P s × DefinitionsStand ds
    DecStands (alias_dec s x t) = P s × (P x.span × TypeStands t)
    DecStands (operator_dec s x xs t) = P s × (P x.span × (IdsStand xs × TypeStands t))
    DecStands (await_dec s v) = P s × ValStands v

    pub DecsStand : Decs → Type 0
    DecsStand no_decs = Unit {0}
    DecsStand (more_decs ds d) = DecsStand ds × DecStands d

    pub DefinitionsStand : Definitions → Type 0
    DefinitionsStand no_definitions = Unit {0}
    DefinitionsStand (more_definitions ds x a) = DefinitionsStand ds × (P x.span × AbsStands a)

    pub AbsStands : Abs → Type 0
    AbsStands (process_abs s p q) = P s × (PatStands p × ProcStands q)
    AbsStands (function_abs s f r v) = P s × (FieldPatsStand f × (AnnotationStands r × ValStands v))

    pub ChanStands : Chan → Type 0
    ChanStands (use_chan s n) = P s
    ChanStands (fold_chan s r v) = P s × (AnnotationStands r × ValStands v)
    ChanStands (block_chan s ds v) = P s × (DecsStand ds × ValStands v)
    ChanStands (apply_chan s v f) = P s × (ValStands v × FieldValsStand f)
    ChanStands (right_chan s x vs) = P s × (P x.span × ValsStand vs)
    ChanStands (left_chan s x vs) = P s × (P x.span × ValsStand vs)

    pub ValStands : Val → Type 0
    ValStands (of_chan c) = ChanStands c
    ValStands (number_val s n) = P s
    ValStands (character_val s b) = P s
    ValStands (string_val s b) = P s
    ValStands (true_val s) = P s
    ValStands (false_val s) = P s
    ValStands (fields_val s f) = P s × FieldValsStand f
    ValStands (if_val s c v w) = P s × (ValStands c × (ValStands v × ValStands w))
    ValStands (lambda_val s a) = P s × AbsStands a

    pub ValsStand : Vals → Type 0
    ValsStand no_vals = Unit {0}
    ValsStand (more_vals vs v) = ValsStand vs × ValStands v

    pub FieldValsStand : FieldVals → Type 0
    FieldValsStand (field_vals ts vs ls) = TypesStand ts × (ValsStand vs × LabelledValsStand ls)

    pub LabelledValsStand : LabelledVals → Type 0
    LabelledValsStand no_labelled_vals = Unit {0}
    LabelledValsStand (more_labelled_vals ls x v) = LabelledValsStand ls × (P x.span × ValStands v)

    pub ProcStands : Proc → Type 0
    ProcStands (send_proc s c v) = P s × (ChanStands c × ValStands v)
    ProcStands (receive_proc s c a) = P s × (ChanStands c × AbsStands a)
    ProcStands (serve_proc s c a) = P s × (ChanStands c × AbsStands a)
    ProcStands (if_proc s v p q) = P s × (ValStands v × (ProcStands p × ProcStands q))
    ProcStands (inert_proc s) = P s
    ProcStands (group_proc s ds ps) = P s × (DecsStand ds × ProcsStand ps)

    pub ProcsStand : Procs → Type 0
    ProcsStand no_procs = Unit {0}
    ProcsStand (more_procs ps p) = ProcsStand ps × ProcStands p
