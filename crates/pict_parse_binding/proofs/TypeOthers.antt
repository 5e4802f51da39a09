-- What the tokens lead to that no line names.
use Rattle.std.proofs.Common.{◌≡◌, suc, ◌==◌, Bool, true, false, List, [], ◌∷◌, length, refl, sym, ◌∙◌, arith}
use Rattle.std.proofs.lemmas.Bool.{eqb-true}
use Rattle.pict_syntax.specs.declared.span.Span.{Span}
use Rattle.pict_syntax.specs.declared.id.Id.{Id}
use Rattle.pict_syntax.specs.declared.token.TokenKind.{TokenKind}
use Rattle.pict_syntax.specs.declared.token.TokenKind.TheVariants.{Identifier, Sign}
use Rattle.pict_syntax.specs.declared.token.Sign.TheVariants.{Equals, CloseParen, CloseBracket, Hash}
use Rattle.pict_syntax.specs.declared.type_tree.TypeTree.{TypeTree as RTypeTree}
use Rattle.pict_syntax.specs.Trees.{TypeTree, apply_type, use_type, TypeTrees, no_types, more_types, TypeBinders}
use Rattle.pict_syntax.specs.PlainTrees.{type_of, types_on}
use Rattle.pict_syntax.specs.Phrases.{join}
use Rattle.pict_automaton.specs.Places.{TypePlace, in_type_field, in_type_apply, stop}
use Rattle.pict_automaton.specs.Machine.{put_type, begin_type, close_operator_arguments, step_operator_arguments, step_types, step_type_name, step_type_binders}

pub operator_arguments_other : (k : TokenKind) → (k ≡ Sign CloseParen → ⊥) → (i o : Span) (x : Id) (ts : TypeTrees) (p : TypePlace) → step_operator_arguments k i o x ts p ≡ begin_type k i (in_type_apply o x ts p)
operator_arguments_other (Sign CloseParen) n i o x ts p = absurd (n refl)
operator_arguments_other _ n i o x ts p = refl

pub types_other : (k : TokenKind) → (k ≡ Sign CloseBracket → ⊥) → ((m : _) → k ≡ Identifier m → ⊥) → (i o : Span) (bs : TypeBinders) (ts : TypeTrees) (p : TypePlace) → step_types k i o bs ts p ≡ begin_type k i (in_type_field o bs ts p)
types_other (Sign CloseBracket) n m i o bs ts p = absurd (n refl)
types_other (Identifier x) n m i o bs ts p = absurd (m x refl)
types_other _ n m i o bs ts p = refl

pub type_name_other : (k : TokenKind) → (k ≡ Sign Equals → ⊥) → (i o : Span) (bs : TypeBinders) (ts : TypeTrees) (x : Id) (p : TypePlace) → step_type_name k i o bs ts x p ≡ step_types k i o bs (more_types ts (use_type x.span x.name)) p
type_name_other (Sign Equals) n i o bs ts x p = absurd (n refl)
type_name_other _ n i o bs ts x p = refl

pub type_binders_other : (k : TokenKind) → (k ≡ Sign Hash → ⊥) → (i o : Span) (bs : TypeBinders) (p : TypePlace) → step_type_binders k i o bs p ≡ step_types k i o bs no_types p
type_binders_other (Sign Hash) n i o bs p = absurd (n refl)
type_binders_other _ n i o bs p = refl

-- the arguments of an operator end: there must be one
pub no_type_arguments : (xs : List RTypeTree) (is_empty : Bool) → is_empty ≡ (length xs == 0) → is_empty ≡ true → (i o : Span) (x : Id) (p : TypePlace) → close_operator_arguments i o x (types_on no_types xs) p ≡ stop
unfolding types_on
no_type_arguments [] is_empty test empty i o x p = refl
no_type_arguments (t ∷ ts) is_empty test empty i o x p = let none : suc (length ts) ≡ 0 = eqb-true (suc (length ts)) 0 (sym test ∙ empty) in absurd (omega arith)

more_type_arguments : (ts : TypeTrees) (t : TypeTree) (xs : List RTypeTree) (i o : Span) (x : Id) (p : TypePlace) → close_operator_arguments i o x (types_on (more_types ts t) xs) p ≡ put_type (apply_type (join o i) x (types_on (more_types ts t) xs)) p
unfolding types_on
more_type_arguments ts t [] i o x p = refl
more_type_arguments ts t (y ∷ ys) i o x p = more_type_arguments (more_types ts t) (type_of y) ys i o x p

pub some_type_arguments : (xs : List RTypeTree) (is_empty : Bool) → is_empty ≡ (length xs == 0) → is_empty ≡ false → (i o : Span) (x : Id) (p : TypePlace) → close_operator_arguments i o x (types_on no_types xs) p ≡ put_type (apply_type (join o i) x (types_on no_types xs)) p
unfolding types_on
some_type_arguments [] is_empty test full i o x p = cc
some_type_arguments (t ∷ ts) is_empty test full i o x p = more_type_arguments no_types (type_of t) ts i o x p
