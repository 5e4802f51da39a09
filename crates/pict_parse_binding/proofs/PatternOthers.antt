-- What the tokens lead to that no line names.
use Rattle.std.proofs.Common.{◌≡◌, ◌∷◌, refl}
use Rattle.std.specs.Prelude.{None, Some}
use Rattle.pict_syntax.specs.declared.span.Span.{Span}
use Rattle.pict_syntax.specs.declared.id.Id.{Id}
use Rattle.pict_syntax.specs.declared.token.TokenKind.{TokenKind}
use Rattle.pict_syntax.specs.declared.token.TokenKind.TheVariants.{Identifier, Keyword, Sign}
use Rattle.pict_syntax.specs.declared.token.Keyword.TheVariants.{Rec}
use Rattle.pict_syntax.specs.declared.token.Sign.TheVariants.{Equals, OpenParen, CloseParen, CloseBracket, Colon, Less, Hash}
use Rattle.pict_syntax.specs.Trees.{KindTree, TypeBinders, no_binders, Pats, no_pats, bind_pat, any_pat, type_binder, unbounded}
use Rattle.pict_syntax.specs.Phrases.{join}
use Rattle.pict_automaton.specs.Places.{AbstractionPlace, PatternPlace, FieldPatternsPlace, BinderPlace, in_abstraction_pattern, in_parameters, in_fold_pattern, in_field_pattern}
use Rattle.pict_automaton.specs.Machine.{begin_pattern, step_pattern, step_patterns, step_binders, step_binder, step_bind, step_need_abstraction, step_abstraction_open, step_pattern_rec, step_any, step_pattern_name, step_binder_name, step_binder_kind}

pub need_abstraction_other : (k : TokenKind) → (k ≡ Sign OpenParen → ⊥) → (i : Span) (p : AbstractionPlace) → step_need_abstraction k i p ≡ begin_pattern k i (in_abstraction_pattern p)
need_abstraction_other (Sign OpenParen) n i p = absurd (n refl)
need_abstraction_other _ n i p = refl

pub abstraction_open_other : (k : TokenKind) → (k ≡ Keyword Rec → ⊥) → (i o : Span) (p : AbstractionPlace) → step_abstraction_open k i o p ≡ step_binders k i (in_parameters o p) no_binders
abstraction_open_other (Keyword Rec) n i o p = absurd (n refl)
abstraction_open_other _ n i o p = refl

pub pattern_rec_other : (k : TokenKind) → (k ≡ Sign Colon → ⊥) → (i o : Span) (p : PatternPlace) → step_pattern_rec k i o p ≡ begin_pattern k i (in_fold_pattern o None p)
pattern_rec_other (Sign Colon) n i o p = absurd (n refl)
pattern_rec_other _ n i o p = refl

pub binders_other : (k : TokenKind) → (k ≡ Sign Hash → ⊥) → (i : Span) (p : FieldPatternsPlace) (bs : TypeBinders) → step_binders k i p bs ≡ step_patterns k i p bs no_pats
binders_other (Sign Hash) n i p bs = absurd (n refl)
binders_other _ n i p bs = refl

pub bind_other : (k : TokenKind) → (k ≡ Sign Colon → ⊥) → (i : Span) (x : Id) (p : PatternPlace) → step_bind k i x p ≡ step_pattern k i (bind_pat x.span x None) p
bind_other (Sign Colon) n i x p = absurd (n refl)
bind_other _ n i x p = refl

pub any_other : (k : TokenKind) → (k ≡ Sign Colon → ⊥) → (i j : Span) (p : PatternPlace) → step_any k i j p ≡ step_pattern k i (any_pat j None) p
any_other (Sign Colon) n i j p = absurd (n refl)
any_other _ n i j p = refl

pub pattern_name_other : (k : TokenKind) → (k ≡ Sign Equals → ⊥) → (i : Span) (p : FieldPatternsPlace) (bs : TypeBinders) (ps : Pats) (x : Id) → step_pattern_name k i p bs ps x ≡ step_bind k i x (in_field_pattern p bs ps)
pattern_name_other (Sign Equals) n i p bs ps x = absurd (n refl)
pattern_name_other _ n i p bs ps x = refl

pub patterns_other : (k : TokenKind) → (k ≡ Sign CloseBracket → ⊥) → (k ≡ Sign CloseParen → ⊥) → ((m : _) → k ≡ Identifier m → ⊥) → (i : Span) (p : FieldPatternsPlace) (bs : TypeBinders) (ps : Pats) → step_patterns k i p bs ps ≡ begin_pattern k i (in_field_pattern p bs ps)
patterns_other (Sign CloseBracket) n m a i p bs ps = absurd (n refl)
patterns_other (Sign CloseParen) n m a i p bs ps = absurd (m refl)
patterns_other (Identifier x) n m a i p bs ps = absurd (a x refl)
patterns_other _ n m a i p bs ps = refl

pub binder_name_other : (k : TokenKind) → (k ≡ Sign Colon → ⊥) → (k ≡ Sign Less → ⊥) → (i h : Span) (x : Id) (p : BinderPlace) → step_binder_name k i h x p ≡ step_binder k i (type_binder (join h x.span) x None unbounded) p
binder_name_other (Sign Colon) n m i h x p = absurd (n refl)
binder_name_other (Sign Less) n m i h x p = absurd (m refl)
binder_name_other _ n m i h x p = refl

pub binder_kind_other : (c : TokenKind) → (c ≡ Sign Less → ⊥) → (i h : Span) (x : Id) (k : KindTree) (j : Span) (p : BinderPlace) → step_binder_kind c i h x k j p ≡ step_binder c i (type_binder (join h j) x (Some k) unbounded) p
binder_kind_other (Sign Less) n i h x k j p = absurd (n refl)
binder_kind_other _ n i h x k j p = refl
