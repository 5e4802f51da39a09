-- Processes that are dressed alike.
use Rattle.std.proofs.Common.{◌≡◌, ℕ, ap, refl}
use Rattle.pict_syntax.specs.declared.span.Span.{Span}
use Rattle.pict_core.specs.Term.{Val, Vals, Labelled, Pat, Pats, LabelledPats, Bind, Any, RecordPat, no_pats, more_pats, no_labelled_pats, more_labelled_pats, Process, Var, Chan, Int, Char, Boolean, Text, PrimitiveVal, Record, no_vals, more_vals, no_labelled, more_labelled, Zero, Par, New, Out, In, If}
use Rattle.pict_object.specs.Fits.{ValueHasBytes, ValuesHaveBytes, LabelledHaveBytes, PatternHasBytes, PatternsHaveBytes, LabelledPatternsHaveBytes, HasBytes}
use Rattle.pict_object.specs.Dressing.{Dress, dressed_value, dressed_values, dressed_labelled, dressed_pattern, dressed_patterns, dressed_labelled_patterns, dressed}

module _ (d e : Dress) (P : ℕ → Type 0) (label : (l : ℕ) → P l → d.label l ≡ e.label l) (place : (at : Span) → d.place at ≡ e.place at) where
  mutual
    value : (v : Val) → ValueHasBytes P v → dressed_value d v ≡ dressed_value e v
    value (Var level) h = refl
    value (Chan number) h = refl
    value (Int n) h = refl
    value (Char byte) h = refl
    value (Boolean b) h = refl
    value (Text bytes) h = refl
    value (PrimitiveVal p) h = refl
    value (Record vs ls) h = λ i. Record (values vs h.2 i) (labelled ls h.3 i)

    values : (vs : Vals) → ValuesHaveBytes P vs → dressed_values d vs ≡ dressed_values e vs
    values no_vals h = refl
    values (more_vals v vs) h = λ i. more_vals (value v h.0 i) (values vs h.1 i)

    labelled : (ls : Labelled) → LabelledHaveBytes P ls → dressed_labelled d ls ≡ dressed_labelled e ls
    labelled no_labelled h = refl
    labelled (more_labelled l v ls) h = λ i. more_labelled (label l h.0 i) (value v h.1 i) (labelled ls h.2 i)

  mutual
    pattern : (p : Pat) → PatternHasBytes P p → dressed_pattern d p ≡ dressed_pattern e p
    pattern Bind h = refl
    pattern Any h = refl
    pattern (RecordPat ps ls) h = λ i. RecordPat (patterns ps h.2 i) (labelled_patterns ls h.3 i)

    patterns : (ps : Pats) → PatternsHaveBytes P ps → dressed_patterns d ps ≡ dressed_patterns e ps
    patterns no_pats h = refl
    patterns (more_pats p ps) h = λ i. more_pats (pattern p h.0 i) (patterns ps h.1 i)

    labelled_patterns : (ls : LabelledPats) → LabelledPatternsHaveBytes P ls → dressed_labelled_patterns d ls ≡ dressed_labelled_patterns e ls
    labelled_patterns no_labelled_pats h = refl
    labelled_patterns (more_labelled_pats l p ls) h = λ i. more_labelled_pats (label l h.0 i) (pattern p h.1 i) (labelled_patterns ls h.2 i)

  -- where the labels get the same numbers
  pub alike : (p : Process) → HasBytes P p → dressed d p ≡ dressed e p
  alike Zero h = refl
  alike (Par p q) h = λ i. Par (alike p h.0 i) (alike q h.1 i)
  alike (New p) h = ap New (alike p h)
  alike (Out chan message at) h = λ i. Out (value chan h.0 i) (value message h.1 i) (place at i)
  alike (In chan replicated pat body) h = λ i. In (value chan h.0 i) replicated (pattern pat h.1 i) (alike body h.2 i)
  alike (If test p q) h = λ i. If (value test h.0 i) (alike p h.1 i) (alike q h.2 i)
