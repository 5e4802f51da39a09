-- What tokens lead to that no line names.
use Rattle.std.proofs.Common.{◌≡◌, refl, Box, Global}
use Rattle.std.specs.Prelude.{Vec, None}
use Rattle.pict_syntax.specs.declared.name.Name.{Name}
use Rattle.pict_syntax.specs.declared.span.Span.{Span}
use Rattle.pict_syntax.specs.declared.token.Keyword.{Keyword as AnyKeyword}
use Rattle.pict_syntax.specs.declared.token.Keyword.TheVariants.{Rec, And}
use Rattle.pict_syntax.specs.declared.tree.Dec.{Dec as RDec}
use Rattle.pict_syntax.specs.declared.id.Id.{Id}
use Rattle.pict_syntax.specs.declared.token.TokenKind.{TokenKind}
use Rattle.pict_syntax.specs.declared.token.TokenKind.TheVariants.{Identifier, Keyword, Sign}
use Rattle.pict_syntax.specs.declared.token.Sign.TheVariants.{Equals, CloseParen, CloseBracket, Colon, Less, Greater, Hash}
use Rattle.pict_syntax.specs.Trees.{use_chan, of_chan, Vals, no_vals, more_vals, TypeTrees, Definitions, more_definitions, def_dec, Abs}
use Rattle.pict_syntax.specs.Phrases.{join}
use Rattle.pict_syntax.specs.Grammar.{abs_span}
use Rattle.pict_automaton.specs.Places.{waiting, Place, DeclarationPlace, Side, FieldsPlace, in_field, in_fold, in_side}
use Rattle.pict_automaton.specs.Machine.{put_value, begin_declaration, begin_first, name_value, step_arguments_of, after_declaration, begin_value, step_need, step_have_definition, step_values, step_value_name, step_fold_keyword, step_side, step_used, step_fresh_name}
use Rattle.pict_parse_states.specs.declared.places.ValuePlace.{ValuePlace as RValuePlace, Waiting}
use Rattle.pict_parse_states.specs.declared.places.Wait.{Wait as RWait, Paren, Paren'}
use Rattle.pict_parse_states.specs.View.{value_place_of, wait_of}

pub first_other : (k : AnyKeyword) → (k ≡ Rec → ⊥) → (i o : Span) (q : Place) (p : DeclarationPlace) → begin_first k i o q p ≡ begin_declaration k i p
first_other Rec n i o q p = absurd (n refl)
first_other _ n i o q p = refl

pub have_definition_other : (k : TokenKind) → (k ≡ Keyword And → ⊥) → (i j : Span) (ds : Definitions) (x : Id) (a : Abs) (p : DeclarationPlace) → step_have_definition k i j ds x a p ≡ step_need k i (after_declaration (def_dec (join j (abs_span a)) (more_definitions ds x a)) p)
have_definition_other (Keyword And) n i j ds x a p = absurd (n refl)
have_definition_other _ n i j ds x a p = refl

pub values_other : (k : TokenKind) → (k ≡ Sign CloseBracket → ⊥) → (k ≡ Sign CloseParen → ⊥) → ((m : _) → k ≡ Identifier m → ⊥) → (i : Span) (p : FieldsPlace) (ts : TypeTrees) (vs : Vals) → step_values k i p ts vs ≡ begin_value k i (in_field p ts vs)
values_other (Sign CloseBracket) n m a i p ts vs = absurd (n refl)
values_other (Sign CloseParen) n m a i p ts vs = absurd (m refl)
values_other (Identifier x) n m a i p ts vs = absurd (a x refl)
values_other _ n m a i p ts vs = refl

pub value_name_other : (k : TokenKind) → (k ≡ Sign Equals → ⊥) → (i : Span) (p : FieldsPlace) (ts : TypeTrees) (vs : Vals) (x : Id) → step_value_name k i p ts vs x ≡ step_values k i p ts (more_vals vs (of_chan (use_chan x.span x.name)))
value_name_other (Sign Equals) n i p ts vs x = absurd (n refl)
value_name_other _ n i p ts vs x = refl

pub arguments_other : (k : TokenKind) → (k ≡ Sign Hash → ⊥) → (i : Span) (p : FieldsPlace) (ts : TypeTrees) → step_arguments_of k i p ts ≡ step_values k i p ts no_vals
arguments_other (Sign Hash) n i p ts = absurd (n refl)
arguments_other _ n i p ts = refl

pub fold_keyword_other : (k : TokenKind) → (k ≡ Sign Colon → ⊥) → (i o : Span) (p : Place) → step_fold_keyword k i o p ≡ begin_value k i (in_fold o None p)
fold_keyword_other (Sign Colon) n i o p = absurd (n refl)
fold_keyword_other _ n i o p = refl

pub side_other : (k : TokenKind) → (k ≡ Sign CloseParen → ⊥) → (i : Span) (d : Side) (o : Span) (x : Id) (vs : Vals) (p : Place) → step_side k i d o x vs p ≡ begin_value k i (in_side d o x vs p)
side_other (Sign CloseParen) n i d o x vs p = absurd (n refl)
side_other _ n i d o x vs p = refl

pub fresh_name_other : (k : TokenKind) → (k ≡ Sign Greater → ⊥) → (k ≡ Sign Less → ⊥) → (i o : Span) (x : Id) (p : Place) → step_fresh_name k i o x p ≡ step_used k i o x p
fresh_name_other (Sign Greater) n m i o x p = absurd (n refl)
fresh_name_other (Sign Less) n m i o x p = absurd (m refl)
fresh_name_other _ n m i o x p = refl

pub name_waiting_other : (w : RWait) → ((o : Span) (ds : Vec RDec Global) (b : Box RValuePlace Global) → w ≡ Paren o ds b → ⊥) → (x : Name) (i : Span) → name_value x i (waiting (wait_of w)) ≡ put_value (of_chan (use_chan i x)) (waiting (wait_of w))
name_waiting_other (Paren' o ds b p) n x i = absurd (n o ds (record { ptr = b.ptr; alloc = b.alloc; value = p }) refl)
name_waiting_other _ n x i = refl

pub name_value_other : (p : RValuePlace) → ((w : RWait) → p ≡ Waiting w → ⊥) → (x : Name) (i : Span) → name_value x i (value_place_of p) ≡ put_value (of_chan (use_chan i x)) (value_place_of p)
name_value_other (Waiting w) n x i = absurd (n w refl)
name_value_other _ n x i = refl
