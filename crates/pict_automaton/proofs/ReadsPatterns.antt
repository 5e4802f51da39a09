-- The machine reads patterns.
use Rattle.std.proofs.Common.{◌≡◌, refl, None, Some}
use Rattle.pict_syntax.specs.declared.name.Name.{Name}
use Rattle.pict_syntax.specs.declared.span.Span.{Span}
use Rattle.pict_syntax.specs.declared.id.Id.{Id}
use Rattle.pict_syntax.specs.declared.token.TokenKind.{TokenKind}
use Rattle.pict_syntax.specs.declared.token.TokenKind.TheVariants.{Identifier, Sign}
use Rattle.pict_syntax.specs.declared.token.Sign.TheVariants.{Equals, OpenParen, CloseParen, OpenBracket, CloseBracket, Colon, Hash, Underscore}
use Rattle.pict_syntax.specs.Trees.{TypeBinders, no_binders, more_binders, RType, Pat, bind_pat, any_pat, fields_pat, fold_pat, FieldPats, field_pats, Pats, no_pats, more_pats, LabelledPats, no_labelled_pats, more_labelled_pats}
use Rattle.pict_syntax.specs.Phrases.{Phrase, ◌▸◌, join}
use Rattle.pict_syntax.specs.Grammar.{IsType, AreBinders, IsRType, annotated_end, IsPat, AreFieldPats, ArePats, AreLabelledPats}
use Rattle.pict_automaton.specs.Places.{State, AbstractionPlace, PatternPlace, in_let_pattern, in_abstraction_pattern, in_fold_pattern, in_field_pattern, in_label_pattern, FieldPatternsPlace, in_pattern_record, in_bind, in_any, in_pattern_fold_type, of_patterns, need_abstraction, abstraction_pattern, need_pattern, pattern_rec, have_bind, have_any, after_binders, after_patterns, pattern_name, after_pattern_labels, pattern_label}
use Rattle.pict_automaton.specs.Machine.{step, put_pattern, close_patterns}
use Rattle.pict_automaton.proofs.Reading.{next, Reads, Falls, then_any, one, first, first_keyword, first_sign, empty, then_falls, falls_then, always, falls, between_reads, joined_reads, at_some, Starts, starts_at, starts_between, starts_joined, starts_with, starts_also, Leads, leads_nothing, leads_more, leads_both, calm_next, then_next, then_leads, weaken, follow}
use Rattle.pict_automaton.proofs.Ahead.{Unbound, Calm, calm_unbound, NotColon, calm_colon, BeginsPat, NotOpen, NotRec, hash_rec}
use Rattle.pict_automaton.proofs.ReadsTypes.{starts_binder, reads_type, reads_binders}

-- a pattern begins with one of these tokens
starts_pattern_as : {P : TokenKind → Type 0} → ((n : Name) → P (Identifier n)) → P (Sign Underscore) → P (Sign OpenBracket) → P (Sign OpenParen) → (p : Pat) → Starts P (IsPat p)
unfolding IsPat
starts_pattern_as a b c d (bind_pat s x r) = starts_joined x.span (annotated_end x.span r) (starts_with (starts_at (a x.name)))
starts_pattern_as a b c d (any_pat s r) = record { begins = λ ts l h. (starts_with {M = IsRType r} (starts_at {k = Sign Underscore} {i = h.0} b)).begins ts l h.1.1 }
starts_pattern_as a b c d (fields_pat s f) = starts_between c
starts_pattern_as a b c d (fold_pat s r p) = starts_between d

pub starts_pattern : (p : Pat) → Starts Calm (IsPat p)
starts_pattern p = starts_pattern_as (λ n. tt) tt tt tt p

bind_falls : (x : Id) (q : PatternPlace) → Falls (next NotColon) (have_bind x q) (put_pattern (bind_pat x.span x None) q)
bind_falls x q = falls (λ k i h. same q k i h)
  where
    same : (q : PatternPlace) (k : TokenKind) (i : Span) → NotColon k → step k i (have_bind x q) ≡ step k i (put_pattern (bind_pat x.span x None) q)
    same q (Sign Colon) i h = absurd h
    same (in_let_pattern j p) k i h = refl
    same (in_abstraction_pattern p) k i h = refl
    same (in_fold_pattern o r p) k i h = refl
    same (in_field_pattern p bs ps) k i h = refl
    same (in_label_pattern p bs ps ls y) k i h = refl

any_falls : (j : Span) (q : PatternPlace) → Falls (next NotColon) (have_any j q) (put_pattern (any_pat j None) q)
any_falls j q = falls (λ k i h. same q k i h)
  where
    same : (q : PatternPlace) (k : TokenKind) (i : Span) → NotColon k → step k i (have_any j q) ≡ step k i (put_pattern (any_pat j None) q)
    same q (Sign Colon) i h = absurd h
    same (in_let_pattern _ p) k i h = refl
    same (in_abstraction_pattern p) k i h = refl
    same (in_fold_pattern o r p) k i h = refl
    same (in_field_pattern p bs ps) k i h = refl
    same (in_label_pattern p bs ps ls y) k i h = refl

-- an annotation, behind what is annotated
bind_reads : (r : RType) (x : Id) (q : PatternPlace) → Reads (next NotColon) (have_bind x q) (IsRType r) (put_pattern (bind_pat (join x.span (annotated_end x.span r)) x r) q)
bind_reads None x q = then_falls empty (bind_falls x q)
bind_reads (Some t) x q = first_sign (λ i. refl) (always (reads_type t (in_bind x q)))

any_reads : (r : RType) (j : Span) (q : PatternPlace) → Reads (next NotColon) (have_any j q) (IsRType r) (put_pattern (any_pat (join j (annotated_end j r)) r) q)
any_reads None j q = then_falls empty (any_falls j q)
any_reads (Some t) j q = first_sign (λ i. refl) (always (reads_type t (in_any j q)))

-- behind `( rec`
rec_reads : {z : State} (r : RType) (p : Pat) (o : Span) (q : PatternPlace) → Reads (next NotColon) (need_pattern (in_fold_pattern o r q)) (IsPat p) z → Reads (next NotColon) (pattern_rec o q) (IsRType r ▸ IsPat p) z
rec_reads None p o q f = then_any empty (falls_then (λ l r h c. (starts_also calm_colon (starts_pattern p)).begins l r h) (falls same) f)
  where
    same : (k : TokenKind) (i : Span) → NotColon k → step k i (pattern_rec o q) ≡ step k i (need_pattern (in_fold_pattern o None q))
    same (Sign Colon) i h = absurd h
    same k i h = refl
rec_reads (Some t) p o q f = follow (λ l r h c. tt) (first_sign (λ i. refl) (reads_type t (in_pattern_fold_type o q))) f

-- among the fields of a pattern an identifier may be a variable or a label
name_falls : (p : FieldPatternsPlace) (bs : TypeBinders) (ps : Pats) (x : Id) → Falls (next Calm) (pattern_name p bs ps x) (after_patterns p bs (more_pats ps (bind_pat x.span x None)))
name_falls p bs ps x = falls same
  where
    same : (k : TokenKind) (i : Span) → Calm k → step k i (pattern_name p bs ps x) ≡ step k i (after_patterns p bs (more_pats ps (bind_pat x.span x None)))
    same (Sign Equals) i h = absurd h
    same (Sign Colon) i h = absurd h
    same k i h = refl

name_reads : (r : RType) (p : FieldPatternsPlace) (bs : TypeBinders) (ps : Pats) (x : Id) → Reads (next Calm) (pattern_name p bs ps x) (IsRType r) (after_patterns p bs (more_pats ps (bind_pat (join x.span (annotated_end x.span r)) x r)))
name_reads None p bs ps x = then_falls empty (name_falls p bs ps x)
name_reads (Some t) p bs ps x = first_sign (λ i. refl) (always (reads_type t (in_bind x (in_field_pattern p bs ps))))

field_other : {L : Phrase} {y : State} (p : FieldPatternsPlace) (bs : TypeBinders) (ps : Pats) → Starts BeginsPat L → Reads (next NotColon) (need_pattern (in_field_pattern p bs ps)) L y → Reads (next Calm) (after_patterns p bs ps) L y
field_other p bs ps s f = falls_then (λ l r h c. s.begins l r h) (falls same) (weaken (calm_next calm_colon) f)
  where
    same : (k : TokenKind) (i : Span) → BeginsPat k → step k i (after_patterns p bs ps) ≡ step k i (need_pattern (in_field_pattern p bs ps))
    same (Sign CloseBracket) i h = absurd h
    same (Sign CloseParen) i h = absurd h
    same (Identifier n) i h = absurd h
    same k i h = refl

field_pattern : (q : Pat) (p : FieldPatternsPlace) (bs : TypeBinders) (ps : Pats) → Reads (next NotColon) (need_pattern (in_field_pattern p bs ps)) (IsPat q) (after_patterns p bs (more_pats ps q)) → Reads (next Calm) (after_patterns p bs ps) (IsPat q) (after_patterns p bs (more_pats ps q))
unfolding IsPat
field_pattern (bind_pat s x r) p bs ps f = joined_reads x.span (annotated_end x.span r) (λ s. after_patterns p bs (more_pats ps (bind_pat s x r))) (first refl (name_reads r p bs ps x))
field_pattern (any_pat s r) p bs ps f = field_other p bs ps (record { begins = λ ts r d. (starts_with {M = IsRType _} (starts_at {k = Sign Underscore} {i = d.0} tt)).begins ts r d.1.1 }) f
field_pattern (fields_pat s g) p bs ps f = field_other p bs ps (starts_between tt) f
field_pattern (fold_pat s r q) p bs ps f = field_other p bs ps (starts_between tt) f

-- behind the patterns of positional fields and so many labelled ones
abbrev patterns_behind : FieldPatternsPlace → TypeBinders → Pats → LabelledPats → State
patterns_behind p bs ps no_labelled_pats = after_patterns p bs ps
patterns_behind p bs ps (more_labelled_pats ls x q) = after_pattern_labels p bs ps (more_labelled_pats ls x q)

abbrev pub patterns_end : FieldPatternsPlace → FieldPats → State
patterns_end p (field_pats bs ps ls) = patterns_behind p bs ps ls

abbrev label_named : FieldPatternsPlace → TypeBinders → Pats → LabelledPats → Id → State
label_named p bs ps no_labelled_pats y = pattern_name p bs ps y
label_named p bs ps (more_labelled_pats ls x q) y = pattern_label p bs ps (more_labelled_pats ls x q) y

label_begins : (ls : LabelledPats) (p : FieldPatternsPlace) (bs : TypeBinders) (ps : Pats) (y : Id) → step (Identifier y.name) y.span (patterns_behind p bs ps ls) ≡ label_named p bs ps ls y
label_begins no_labelled_pats p bs ps y = refl
label_begins (more_labelled_pats ls x q) p bs ps y = refl

label_equals : (ls : LabelledPats) (p : FieldPatternsPlace) (bs : TypeBinders) (ps : Pats) (y : Id) (i : Span) → step (Sign Equals) i (label_named p bs ps ls y) ≡ need_pattern (in_label_pattern p bs ps ls y)
label_equals no_labelled_pats p bs ps y i = refl
label_equals (more_labelled_pats ls x q) p bs ps y i = refl

close_behind_bracket : (ls : LabelledPats) (p : FieldPatternsPlace) (bs : TypeBinders) (ps : Pats) (j : Span) → step (Sign CloseBracket) j (patterns_behind p bs ps ls) ≡ close_patterns CloseBracket j p (field_pats bs ps ls)
close_behind_bracket no_labelled_pats p bs ps j = refl
close_behind_bracket (more_labelled_pats ls x q) p bs ps j = refl

close_behind_paren : (ls : LabelledPats) (p : FieldPatternsPlace) (bs : TypeBinders) (ps : Pats) (j : Span) → step (Sign CloseParen) j (patterns_behind p bs ps ls) ≡ close_patterns CloseParen j p (field_pats bs ps ls)
close_behind_paren no_labelled_pats p bs ps j = refl
close_behind_paren (more_labelled_pats ls x q) p bs ps j = refl

patterns_close : (f : FieldPats) (p : FieldPatternsPlace) (j : Span) → step (Sign CloseBracket) j (patterns_end p f) ≡ close_patterns CloseBracket j p f
patterns_close (field_pats bs ps ls) p j = close_behind_bracket ls p bs ps j

pub parameters_close : (f : FieldPats) (p : FieldPatternsPlace) (j : Span) → step (Sign CloseParen) j (patterns_end p f) ≡ close_patterns CloseParen j p f
parameters_close (field_pats bs ps ls) p j = close_behind_paren ls p bs ps j

leads_labelled_patterns : (ls : LabelledPats) → Leads Calm (AreLabelledPats ls)
unfolding IsPat
leads_labelled_patterns no_labelled_pats = leads_nothing
leads_labelled_patterns (more_labelled_pats ls x p) = leads_more (leads_labelled_patterns ls) (starts_with (starts_at tt))

leads_patterns : (ps : Pats) → Leads Calm (ArePats ps)
unfolding IsPat
leads_patterns no_pats = leads_nothing
leads_patterns (more_pats ps p) = leads_more (leads_patterns ps) (starts_pattern p)

-- no pattern of fields begins with `rec`
rec_labelled_patterns : (ls : LabelledPats) → Leads NotRec (AreLabelledPats ls)
unfolding IsPat
rec_labelled_patterns no_labelled_pats = leads_nothing
rec_labelled_patterns (more_labelled_pats ls x p) = leads_more (rec_labelled_patterns ls) (starts_with (starts_at tt))

rec_patterns : (ps : Pats) → Leads NotRec (ArePats ps)
unfolding IsPat
rec_patterns no_pats = leads_nothing
rec_patterns (more_pats ps p) = leads_more (rec_patterns ps) (starts_pattern_as (λ n. tt) tt tt tt p)

rec_binders : (bs : TypeBinders) → Leads NotRec (AreBinders bs)
unfolding IsType
rec_binders no_binders = leads_nothing
rec_binders (more_binders bs b) = leads_more (rec_binders bs) (starts_also hash_rec (starts_binder b))

pub rec_field_patterns : (f : FieldPats) → Leads NotRec (AreFieldPats f)
unfolding IsPat
rec_field_patterns (field_pats bs ps ls) = leads_both (rec_binders bs) (leads_both (rec_patterns ps) (rec_labelled_patterns ls))

binders_fall : (p : FieldPatternsPlace) (bs : TypeBinders) → Falls (next Calm) (after_binders p bs) (after_patterns p bs no_pats)
binders_fall p bs = falls same
  where
    same : (k : TokenKind) (i : Span) → Calm k → step k i (after_binders p bs) ≡ step k i (after_patterns p bs no_pats)
    same (Sign Hash) i h = absurd h
    same k i h = refl

mutual
  unfolding IsPat

  pub reads_pattern : (p : Pat) (q : PatternPlace) → Reads (next NotColon) (need_pattern q) (IsPat p) (put_pattern p q)
  reads_pattern (bind_pat s x r) q = joined_reads x.span (annotated_end x.span r) (λ s. put_pattern (bind_pat s x r) q) (first refl (bind_reads r x q))
  reads_pattern (any_pat s r) q = at_some (λ i. joined_reads i (annotated_end i r) (λ s. put_pattern (any_pat s r) q) (first refl (any_reads r i q)))
  reads_pattern (fields_pat s f) q =
      between_reads (λ s. put_pattern (fields_pat s f) q) (λ i j. first refl
      (then_next {P = Calm} (starts_at tt) (reads_field_patterns f (in_pattern_record i q)) (one (patterns_close f (in_pattern_record i q) j))))
  reads_pattern (fold_pat s r p) q =
      between_reads (λ s. put_pattern (fold_pat s r p) q) (λ i j. first refl
      (then_next {P = NotColon} (starts_at tt) (first_keyword (λ k. refl) (rec_reads r p i q (reads_pattern p (in_fold_pattern i r q)))) (one refl)))

  pub reads_field_patterns : (f : FieldPats) (p : FieldPatternsPlace) → Reads (next Calm) (after_binders p no_binders) (AreFieldPats f) (patterns_end p f)
  reads_field_patterns (field_pats bs ps ls) p =
      then_leads (leads_both (leads_patterns ps) (leads_labelled_patterns ls))
      (then_falls (weaken {C = next Unbound} (calm_next calm_unbound) (reads_binders bs (of_patterns p no_binders))) (binders_fall p bs))
      (then_leads (leads_labelled_patterns ls) (reads_patterns ps p bs) (reads_labelled_patterns ls p bs ps))

  reads_patterns : (ps : Pats) (p : FieldPatternsPlace) (bs : TypeBinders) → Reads (next Calm) (after_patterns p bs no_pats) (ArePats ps) (after_patterns p bs ps)
  reads_patterns no_pats p bs = empty
  reads_patterns (more_pats ps q) p bs = then_next (starts_pattern q) (reads_patterns ps p bs) (field_pattern q p bs ps (reads_pattern q (in_field_pattern p bs ps)))

  reads_labelled_patterns : (ls : LabelledPats) (p : FieldPatternsPlace) (bs : TypeBinders) (ps : Pats) → Reads (next Calm) (after_patterns p bs ps) (AreLabelledPats ls) (patterns_behind p bs ps ls)
  reads_labelled_patterns no_labelled_pats p bs ps = empty
  reads_labelled_patterns (more_labelled_pats ls x q) p bs ps =
      then_next {P = Calm} (starts_with (starts_at tt)) (reads_labelled_patterns ls p bs ps)
      (first (label_begins ls p bs ps x) (first_sign (label_equals ls p bs ps x) (weaken {C = next NotColon} (calm_next calm_colon) (reads_pattern q (in_label_pattern p bs ps ls x)))))

-- where an abstraction is awaited
abstraction_other : {L : Phrase} {y : State} (p : AbstractionPlace) → Starts NotOpen L → Reads (next NotColon) (need_pattern (in_abstraction_pattern p)) L y → Reads (next NotColon) (need_abstraction p) L y
abstraction_other p s f = falls_then (λ l r h c. s.begins l r h) (falls same) f
  where
    same : (k : TokenKind) (i : Span) → NotOpen k → step k i (need_abstraction p) ≡ step k i (need_pattern (in_abstraction_pattern p))
    same (Sign OpenParen) i h = absurd h
    same k i h = refl

pub reads_abstraction_pattern : (q : Pat) (p : AbstractionPlace) → Reads (next NotColon) (need_abstraction p) (IsPat q) (abstraction_pattern q p)
unfolding IsPat
reads_abstraction_pattern (bind_pat s x r) p = abstraction_other p (starts_joined x.span (annotated_end x.span r) (starts_with (starts_at tt))) (reads_pattern (bind_pat s x r) (in_abstraction_pattern p))
reads_abstraction_pattern (any_pat s r) p = abstraction_other p (record { begins = λ ts r d. (starts_with {M = IsRType _} (starts_at {k = Sign Underscore} {i = d.0} tt)).begins ts r d.1.1 }) (reads_pattern (any_pat s r) (in_abstraction_pattern p))
reads_abstraction_pattern (fields_pat s f) p = abstraction_other p (starts_between tt) (reads_pattern (fields_pat s f) (in_abstraction_pattern p))
reads_abstraction_pattern (fold_pat s r q) p =
    between_reads (λ s. abstraction_pattern (fold_pat s r q) p) (λ i j. first refl
    (then_next {P = NotColon} (starts_at tt) (first_keyword (λ k. refl) (rec_reads r q i (in_abstraction_pattern p) (reads_pattern q (in_fold_pattern i r (in_abstraction_pattern p))))) (one refl)))
