-- The labels of a program are identifiers among its tokens: what holds of all of these holds of the labels.
use Rattle.std.proofs.Common.{ℕ, List, [], ◌∷◌, ◌++◌, sym, subst}
use Rattle.pict_syntax.specs.declared.id.Id.{Id}
use Rattle.pict_syntax.specs.declared.span.Span.{Span}
use Rattle.pict_syntax.specs.declared.token.Token.{Token}
use Rattle.pict_syntax.specs.declared.token.TokenKind.{TokenKind}
use Rattle.pict_syntax.specs.declared.token.TokenKind.TheVariants.{Identifier}
use Rattle.pict_syntax.specs.declared.token.Sign.{Sign as AnySign}
use Rattle.pict_syntax.specs.Phrases.{Phrase, ◌▸◌, ident, led, between, closed}
use Rattle.pict_syntax.specs.Grammar.{val_span, abs_span, proc_span, IsPat, AreFieldPats, ArePats, AreLabelledPats, IsDec, AreDecs, AreDefinitionsAnd, IsAbs, IsChan, IsVal, AreVals, AreFieldVals, AreLabelledVals, IsProc, AreProcsBar}
use Rattle.pict_syntax.specs.Trees.{Pat, bind_pat, any_pat, fields_pat, fold_pat, FieldPats, field_pats, Pats, no_pats, more_pats, LabelledPats, no_labelled_pats, more_labelled_pats, Dec, new_dec, run_dec, let_dec, def_dec, alias_dec, operator_dec, await_dec, Decs, no_decs, more_decs, Definitions, no_definitions, more_definitions, Abs, process_abs, function_abs, Chan, use_chan, fold_chan, block_chan, apply_chan, right_chan, left_chan, Val, of_chan, number_val, character_val, string_val, true_val, false_val, fields_val, if_val, lambda_val, Vals, no_vals, more_vals, FieldVals, field_vals, LabelledVals, no_labelled_vals, more_labelled_vals, Proc, send_proc, receive_proc, serve_proc, if_proc, inert_proc, group_proc, Procs, no_procs, more_procs}
use Rattle.pict_front.proofs.Labelled.{PatLabels, FieldPatLabels, PatsLabels, LabelledPatLabels, DecLabels, DecsLabels, DefinitionsLabels, AbsLabels, ChanLabels, ValLabels, ValsLabels, FieldLabels, LabelledLabels, ProcLabels, ProcsLabels}

module _ (P : ℕ → Type 0) where
  abbrev pub KindHolds : TokenKind → Type 0
  KindHolds (Identifier n) = P n.0
  KindHolds _ = Unit {0}

  -- P holds of each identifier
  abbrev pub Hold : List Token → Type 0
  Hold [] = Unit {0}
  Hold (t ∷ ts) = KindHolds t.kind × Hold ts

  pub split : (us vs : List Token) → Hold (us ++ vs) → Hold us × Hold vs
  split [] vs h = (tt, h)
  split (u ∷ us) vs h = let rest = split us vs h.1 in ((h.0, rest.0), rest.1)

  -- what the tokens of a phrase say where P holds of them
  abbrev Says : Phrase → Type 0 → Type 0
  Says L X = (ts : List Token) → L ts → Hold ts → X

  both : {X Y : Type 0} (L M : Phrase) → Says L X → Says M Y → Says (L ▸ M) (X × Y)
  both L M f g ts (us, vs, is, l, m) h = let parts = split us vs (subst Hold (sym is) h) in (f us l parts.0, g vs m parts.1)

  first : {X : Type 0} (L M : Phrase) → Says L X → Says (L ▸ M) X
  first L M f ts (us, vs, is, l, m) h = f us l (split us vs (subst Hold (sym is) h)).0

  second : {X : Type 0} (L M : Phrase) → Says M X → Says (L ▸ M) X
  second L M f ts (us, vs, is, l, m) h = f vs m (split us vs (subst Hold (sym is) h)).1

  after : {X : Type 0} (s : Span) (k : TokenKind) (L : Phrase) (e : Span) → Says L X → Says (led s k L e) X
  after s k L e f ts (i, is, inner) h = second _ L f ts inner h

  inside : {X : Type 0} (s : Span) (o : AnySign) (L : Phrase) (c : AnySign) → Says L X → Says (between s o L c) X
  inside s o L c f ts (i, j, is, inner) h = second _ _ (first L _ f) ts inner h

  ahead : {X : Type 0} (s b : Span) (L : Phrase) (k : TokenKind) → Says L X → Says (closed s b L k) X
  ahead s b L k f ts (j, is, inner) h = first L _ f ts inner h

  label : (x : Id) → Says (ident x) (P x.name.0)
  label x ts is h = (subst Hold is h).0

  mutual
    unfolding IsPat AreFieldPats ArePats AreLabelledPats

    pat_labels : (p : Pat) → Says (IsPat p) (PatLabels P p)
    pat_labels (bind_pat s x r) ts is h = tt
    pat_labels (any_pat s r) ts is h = tt
    pat_labels (fields_pat s f) ts is h = inside s _ _ _ (field_pat_labels f) ts is h
    pat_labels (fold_pat s r p) ts is h = inside s _ _ _ (second _ _ (second _ _ (pat_labels p))) ts is h

    field_pat_labels : (f : FieldPats) → Says (AreFieldPats f) (FieldPatLabels P f)
    field_pat_labels (field_pats bs ps ls) ts is h = second _ _ (both _ _ (pats_labels ps) (labelled_pat_labels ls)) ts is h

    pats_labels : (ps : Pats) → Says (ArePats ps) (PatsLabels P ps)
    pats_labels no_pats ts is h = tt
    pats_labels (more_pats ps p) ts is h = both _ _ (pats_labels ps) (pat_labels p) ts is h

    labelled_pat_labels : (ls : LabelledPats) → Says (AreLabelledPats ls) (LabelledPatLabels P ls)
    labelled_pat_labels no_labelled_pats ts is h = tt
    labelled_pat_labels (more_labelled_pats ls x p) ts is h = both _ _ (labelled_pat_labels ls) (both _ _ (label x) (second _ _ (pat_labels p))) ts is h

  mutual
    unfolding IsDec AreDecs AreDefinitionsAnd IsAbs IsChan IsVal AreVals AreFieldVals AreLabelledVals IsProc AreProcsBar

    dec_labels : (d : Dec) → Says (IsDec d) (DecLabels P d)
    dec_labels (new_dec s x t) ts is h = tt
    dec_labels (run_dec s p) ts is h = after s _ _ (proc_span p) (proc_labels p) ts is h
    dec_labels (let_dec s p v) ts is h = after s _ _ (val_span v) (both _ _ (pat_labels p) (second _ _ (val_labels v))) ts is h
    dec_labels (def_dec s no_definitions) ts is h = absurd is
    dec_labels (def_dec s (more_definitions ds x a)) ts is h = after s _ _ (abs_span a) (both _ _ (definitions_labels ds) (second _ _ (abs_labels a))) ts is h
    dec_labels (alias_dec s x t) ts is h = tt
    dec_labels (operator_dec s x xs t) ts is h = tt
    dec_labels (await_dec s v) ts is h = ahead s (val_span v) _ _ (val_labels v) ts is h

    pub decs_labels : (ds : Decs) → Says (AreDecs ds) (DecsLabels P ds)
    decs_labels no_decs ts is h = tt
    decs_labels (more_decs ds d) ts is h = both _ _ (decs_labels ds) (dec_labels d) ts is h

    definitions_labels : (ds : Definitions) → Says (AreDefinitionsAnd ds) (DefinitionsLabels P ds)
    definitions_labels no_definitions ts is h = tt
    definitions_labels (more_definitions ds x a) ts is h = both _ _ (definitions_labels ds) (second _ _ (first _ _ (abs_labels a))) ts is h

    abs_labels : (a : Abs) → Says (IsAbs a) (AbsLabels P a)
    abs_labels (process_abs s p q) ts is h = both _ _ (pat_labels p) (second _ _ (proc_labels q)) ts is.1 h
    abs_labels (function_abs s f r v) ts is h = after s _ _ (val_span v) (both _ _ (field_pat_labels f) (second _ _ (second _ _ (second _ _ (val_labels v))))) ts is h

    chan_labels : (c : Chan) → Says (IsChan c) (ChanLabels P c)
    chan_labels (use_chan s n) ts is h = tt
    chan_labels (fold_chan s r v) ts is h = inside s _ _ _ (second _ _ (second _ _ (val_labels v))) ts is h
    chan_labels (block_chan s no_decs v) ts is h = absurd is
    chan_labels (block_chan s (more_decs ds d) v) ts is h =
        let r = inside s _ _ _ (both _ _ (decs_labels ds) (both _ _ (dec_labels d) (val_labels v))) ts is h in ((r.0, r.1.0), r.1.1)
    chan_labels (apply_chan s v f) ts is h = inside s _ _ _ (both _ _ (val_labels v) (field_labels f)) ts is h
    chan_labels (right_chan s x no_vals) ts is h = absurd is
    chan_labels (right_chan s x (more_vals no_vals w)) ts is h = absurd is
    chan_labels (right_chan s x (more_vals (more_vals vs v) w)) ts is h =
        let r = inside s _ _ _ (second _ _ (second _ _ (both _ _ (vals_labels vs) (both _ _ (val_labels v) (val_labels w))))) ts is h in ((r.0, r.1.0), r.1.1)
    chan_labels (left_chan s x no_vals) ts is h = absurd is
    chan_labels (left_chan s x (more_vals no_vals w)) ts is h = absurd is
    chan_labels (left_chan s x (more_vals (more_vals vs v) w)) ts is h =
        let r = inside s _ _ _ (second _ _ (second _ _ (both _ _ (vals_labels vs) (both _ _ (val_labels v) (val_labels w))))) ts is h in ((r.0, r.1.0), r.1.1)

    val_labels : (v : Val) → Says (IsVal v) (ValLabels P v)
    val_labels (of_chan c) ts is h = chan_labels c ts is h
    val_labels (number_val s n) ts is h = tt
    val_labels (character_val s b) ts is h = tt
    val_labels (string_val s b) ts is h = tt
    val_labels (true_val s) ts is h = tt
    val_labels (false_val s) ts is h = tt
    val_labels (fields_val s f) ts is h = inside s _ _ _ (field_labels f) ts is h
    val_labels (if_val s a b c) ts is h = after s _ _ (val_span c) (both _ _ (val_labels a) (second _ _ (both _ _ (val_labels b) (second _ _ (val_labels c))))) ts is h
    val_labels (lambda_val s a) ts is h = after s _ _ (abs_span a) (abs_labels a) ts is h

    vals_labels : (vs : Vals) → Says (AreVals vs) (ValsLabels P vs)
    vals_labels no_vals ts is h = tt
    vals_labels (more_vals vs v) ts is h = both _ _ (vals_labels vs) (val_labels v) ts is h

    field_labels : (f : FieldVals) → Says (AreFieldVals f) (FieldLabels P f)
    field_labels (field_vals ts vs ls) us is h = second _ _ (both _ _ (vals_labels vs) (labelled_labels ls)) us is h

    labelled_labels : (ls : LabelledVals) → Says (AreLabelledVals ls) (LabelledLabels P ls)
    labelled_labels no_labelled_vals ts is h = tt
    labelled_labels (more_labelled_vals ls x v) ts is h = both _ _ (labelled_labels ls) (both _ _ (label x) (second _ _ (val_labels v))) ts is h

    proc_labels : (p : Proc) → Says (IsProc p) (ProcLabels P p)
    proc_labels (send_proc s c v) ts is h = both _ _ (chan_labels c) (second _ _ (val_labels v)) ts is.1 h
    proc_labels (receive_proc s c a) ts is h = both _ _ (chan_labels c) (second _ _ (abs_labels a)) ts is.1 h
    proc_labels (serve_proc s c a) ts is h = both _ _ (chan_labels c) (second _ _ (abs_labels a)) ts is.1 h
    proc_labels (if_proc s a p q) ts is h = after s _ _ (proc_span q) (both _ _ (val_labels a) (second _ _ (both _ _ (proc_labels p) (second _ _ (proc_labels q))))) ts is h
    proc_labels (inert_proc s) ts is h = tt
    proc_labels (group_proc s ds no_procs) ts is h = absurd is
    proc_labels (group_proc s ds (more_procs ps p)) ts is h =
        let r = inside s _ _ _ (both _ _ (decs_labels ds) (both _ _ (procs_labels ps) (proc_labels p))) ts is h in (r.0, (r.1.0, r.1.1))

    procs_labels : (ps : Procs) → Says (AreProcsBar ps) (ProcsLabels P ps)
    procs_labels no_procs ts is h = tt
    procs_labels (more_procs ps p) ts is h = both _ _ (procs_labels ps) (first _ _ (proc_labels p)) ts is h
