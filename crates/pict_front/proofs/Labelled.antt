-- Declarations in which every label of a record of values or of patterns has a property.
use Rattle.std.specs.Prelude.{ℕ}
use Rattle.pict_syntax.specs.Trees.{Pat, bind_pat, any_pat, fields_pat, fold_pat, FieldPats, field_pats, Pats, no_pats, more_pats, LabelledPats, no_labelled_pats, more_labelled_pats, Dec, new_dec, run_dec, let_dec, def_dec, alias_dec, operator_dec, await_dec, Decs, no_decs, more_decs, Definitions, no_definitions, more_definitions, Abs, process_abs, function_abs, Chan, use_chan, fold_chan, block_chan, apply_chan, right_chan, left_chan, Val, of_chan, number_val, character_val, string_val, true_val, false_val, fields_val, if_val, lambda_val, Vals, no_vals, more_vals, FieldVals, field_vals, LabelledVals, no_labelled_vals, more_labelled_vals, Proc, send_proc, receive_proc, serve_proc, if_proc, inert_proc, group_proc, Procs, no_procs, more_procs}

module _ (P : ℕ → Type 0) where
  abbrev mutual
    pub PatLabels : Pat → Type 0
    PatLabels (bind_pat s x r) = Unit {0}
    PatLabels (any_pat s r) = Unit {0}
    PatLabels (fields_pat s f) = FieldPatLabels f
    PatLabels (fold_pat s r p) = PatLabels p

    pub FieldPatLabels : FieldPats → Type 0
    FieldPatLabels (field_pats bs ps ls) = PatsLabels ps × LabelledPatLabels ls

    pub PatsLabels : Pats → Type 0
    PatsLabels no_pats = Unit {0}
    PatsLabels (more_pats ps p) = PatsLabels ps × PatLabels p

    pub LabelledPatLabels : LabelledPats → Type 0
    LabelledPatLabels no_labelled_pats = Unit {0}
    LabelledPatLabels (more_labelled_pats ls x p) = LabelledPatLabels ls × (P x.name.0 × PatLabels p)

  abbrev mutual
    pub DecLabels : Dec → Type 0
    DecLabels (new_dec s x t) = Unit {0}
    DecLabels (run_dec s p) = ProcLabels p
    DecLabels (let_dec s p v) = PatLabels p × ValLabels v
    DecLabels (def_dec s ds) = DefinitionsLabels ds
    DecLabels (alias_dec s x t) = Unit {0}
    DecLabels (operator_dec s x xs t) = Unit {0}
    DecLabels (await_dec s v) = ValLabels v

    pub DecsLabels : Decs → Type 0
    DecsLabels no_decs = Unit {0}
    DecsLabels (more_decs ds d) = DecsLabels ds × DecLabels d

    pub DefinitionsLabels : Definitions → Type 0
    DefinitionsLabels no_definitions = Unit {0}
    DefinitionsLabels (more_definitions ds x a) = DefinitionsLabels ds × AbsLabels a

    pub AbsLabels : Abs → Type 0
    AbsLabels (process_abs s p q) = PatLabels p × ProcLabels q
    AbsLabels (function_abs s f r v) = FieldPatLabels f × ValLabels v

    pub ChanLabels : Chan → Type 0
    ChanLabels (use_chan s n) = Unit {0}
    ChanLabels (fold_chan s r v) = ValLabels v
    ChanLabels (block_chan s ds v) = DecsLabels ds × ValLabels v
    ChanLabels (apply_chan s v f) = ValLabels v × FieldLabels f
    ChanLabels (right_chan s x vs) = ValsLabels vs
    ChanLabels (left_chan s x vs) = ValsLabels vs

    pub ValLabels : Val → Type 0
    ValLabels (of_chan c) = ChanLabels c
    ValLabels (number_val s n) = Unit {0}
    ValLabels (character_val s b) = Unit {0}
    ValLabels (string_val s b) = Unit {0}
    ValLabels (true_val s) = Unit {0}
    ValLabels (false_val s) = Unit {0}
    ValLabels (fields_val s f) = FieldLabels f
    ValLabels (if_val s c v w) = ValLabels c × (ValLabels v × ValLabels w)
    ValLabels (lambda_val s a) = AbsLabels a

    pub ValsLabels : Vals → Type 0
    ValsLabels no_vals = Unit {0}
    ValsLabels (more_vals vs v) = ValsLabels vs × ValLabels v

    pub FieldLabels : FieldVals → Type 0
    FieldLabels (field_vals ts vs ls) = ValsLabels vs × LabelledLabels ls

    pub LabelledLabels : LabelledVals → Type 0
    LabelledLabels no_labelled_vals = Unit {0}
    LabelledLabels (more_labelled_vals ls x v) = LabelledLabels ls × (P x.name.0 × ValLabels v)

    pub ProcLabels : Proc → Type 0
    ProcLabels (send_proc s c v) = ChanLabels c × ValLabels v
    ProcLabels (receive_proc s c a) = ChanLabels c × AbsLabels a
    ProcLabels (serve_proc s c a) = ChanLabels c × AbsLabels a
    ProcLabels (if_proc s v p q) = ValLabels v × (ProcLabels p × ProcLabels q)
    ProcLabels (inert_proc s) = Unit {0}
    ProcLabels (group_proc s ds ps) = DecsLabels ds × ProcsLabels ps

    pub ProcsLabels : Procs → Type 0
    ProcsLabels no_procs = Unit {0}
    ProcsLabels (more_procs ps p) = ProcsLabels ps × ProcLabels p
