-- Inclusions of phrases.
use Rattle.std.proofs.Common.{List, [], ◌++◌, refl, sym, ap, subst, ◌∙◌, append_assoc, append-nil, inl, inr}
use Rattle.pict_syntax.specs.declared.name.Name.{Name}
use Rattle.pict_syntax.specs.declared.span.Span.{Span}
use Rattle.pict_syntax.specs.declared.token.SymbolName.{SymbolName}
use Rattle.pict_syntax.specs.declared.token.TokenKind.{TokenKind}
use Rattle.pict_syntax.specs.declared.token.TokenKind.TheVariants.{Identifier, Symbol, Keyword, Sign}
use Rattle.pict_syntax.specs.declared.token.Keyword.{Keyword as AnyKeyword}
use Rattle.pict_syntax.specs.declared.token.Sign.{Sign as AnySign}
use Rattle.pict_syntax.specs.Phrases.{Phrase, nothing, never, ◌▸◌, at, keyword, sign, symbol, name, join, led, between, closed, spanning}

-- each list of the one phrase is one of the other
pub record Sub (L M : Phrase) : Type 0 where
  pub «in» : (ts : List _) → L ts → M ts

pub same : {L : Phrase} → Sub L L
same = record { «in» = λ ts h. h }

pub then : {L M N : Phrase} → Sub L M → Sub M N → Sub L N
then f g = record { «in» = λ ts h. g.«in» ts (f.«in» ts h) }

pub assoc : {L M N : Phrase} → Sub ((L ▸ M) ▸ N) (L ▸ (M ▸ N))
assoc {L} {M} {N} = record { «in» = λ ts h. (h.3.0, h.3.1 ++ h.1, sym (append_assoc h.3.0 h.3.1 h.1) ∙ ap (λ l. l ++ h.1) h.3.2 ∙ h.2, h.3.3, (h.3.1, h.1, refl, h.3.4, h.4)) }

pub under : {L M N : Phrase} → Sub M N → Sub (L ▸ M) (L ▸ N)
under f = record { «in» = λ ts h. (h.0, h.1, h.2, h.3, f.«in» h.1 h.4) }

pub over : {L M N : Phrase} → Sub L M → Sub (L ▸ N) (M ▸ N)
over f = record { «in» = λ ts h. (h.0, h.1, h.2, f.«in» h.0 h.3, h.4) }

pub unassoc : {L M N : Phrase} → Sub (L ▸ (M ▸ N)) ((L ▸ M) ▸ N)
unassoc {L} {M} {N} = record { «in» = λ ts h. (h.0 ++ h.4.0, h.4.1, append_assoc h.0 h.4.0 h.4.1 ∙ ap (λ l. h.0 ++ l) h.4.2 ∙ h.2, (h.0, h.4.0, refl, h.3, h.4.3), h.4.4) }

pub apart2 : {S A B V : Phrase} → Sub (S ▸ (A ▸ (B ▸ V))) ((S ▸ (A ▸ B)) ▸ V)
apart2 = then (under unassoc) unassoc

-- a phrase behind a chain of phrases joins the last of them
pub join1 : {S A V D : Phrase} → Sub (A ▸ V) D → Sub ((S ▸ A) ▸ V) (S ▸ D)
join1 g = then assoc (under g)

pub join2 : {S A B V D : Phrase} → Sub (B ▸ V) D → Sub ((S ▸ (A ▸ B)) ▸ V) (S ▸ (A ▸ D))
join2 g = then assoc (under (join1 g))

pub join3 : {S A B C V D : Phrase} → Sub (C ▸ V) D → Sub ((S ▸ (A ▸ (B ▸ C))) ▸ V) (S ▸ (A ▸ (B ▸ D)))
join3 g = then assoc (under (join2 g))

pub join4 : {S A B C E V D : Phrase} → Sub (E ▸ V) D → Sub ((S ▸ (A ▸ (B ▸ (C ▸ E)))) ▸ V) (S ▸ (A ▸ (B ▸ (C ▸ D))))
join4 g = then assoc (under (join3 g))

pub join5 : {S A B C E F V D : Phrase} → Sub (F ▸ V) D → Sub ((S ▸ (A ▸ (B ▸ (C ▸ (E ▸ F))))) ▸ V) (S ▸ (A ▸ (B ▸ (C ▸ (E ▸ D)))))
join5 g = then assoc (under (join4 g))

pub join6 : {S A B C E F G V D : Phrase} → Sub (G ▸ V) D → Sub ((S ▸ (A ▸ (B ▸ (C ▸ (E ▸ (F ▸ G)))))) ▸ V) (S ▸ (A ▸ (B ▸ (C ▸ (E ▸ (F ▸ D))))))
join6 g = then assoc (under (join5 g))

-- single words
pub a_keyword : {k : AnyKeyword} {i : Span} → Sub (at (Keyword k) i) (keyword k)
a_keyword {k} {i} = record { «in» = λ ts h. (i, h) }

pub a_sign : {m : AnySign} {i : Span} → Sub (at (Sign m) i) (sign m)
a_sign {m} {i} = record { «in» = λ ts h. (i, h) }

pub some_symbol : {y : SymbolName} {n : Name} {i : Span} → Sub (at (Symbol y n) i) (symbol y)
some_symbol {y} {n} {i} = record { «in» = λ ts h. (n, i, h) }

pub an_identifier : {n : Name} {i : Span} → Sub (at (Identifier n) i) (name n i)
an_identifier = record { «in» = λ ts h. inl h }

pub a_symbol : {n : Name} {y : SymbolName} {i : Span} → Sub (at (Symbol y n) i) (name n i)
a_symbol {n} {y} = record { «in» = λ ts h. inr (y, h) }

pub add_nothing : {L : Phrase} → Sub L (L ▸ nothing)
add_nothing {L} = record { «in» = λ ts h. (ts, [], append-nil ts, h, refl) }

pub from_nothing : {L : Phrase} → Sub L (nothing ▸ L)
from_nothing {L} = record { «in» = λ ts h. ([], ts, refl, refl, h) }

pub drop_nothing : {L : Phrase} → Sub (nothing ▸ L) L
drop_nothing {L} = record { «in» = λ ts h. subst L (ap (λ l. l ++ h.1) (sym h.3) ∙ h.2) h.4 }

pub never_first : {V : Phrase} → Sub (never ▸ V) never
never_first = record { «in» = λ ts h. h.3 }

pub gone : {L : Phrase} → Sub L (λ ts. Unit {0})
gone = record { «in» = λ ts h. tt }

pub never_behind : {S L V : Phrase} → Sub ((S ▸ never) ▸ V) L
never_behind = record { «in» = λ ts h. absurd h.3.4 }

-- nodes
pub a_led : {i : Span} (e : Span) {k : TokenKind} {L : Phrase} → Sub (at k i ▸ L) (led (join i e) k L e)
a_led {i} e = record { «in» = λ ts h. (i, refl, h) }

pub a_between : {i j : Span} {o c : AnySign} {L : Phrase} → Sub (at (Sign o) i ▸ (L ▸ at (Sign c) j)) (between (join i j) o L c)
a_between {i} {j} = record { «in» = λ ts h. (i, j, refl, h) }

pub a_closed : (b : Span) {j : Span} {k : TokenKind} {L : Phrase} → Sub (L ▸ at k j) (closed (join b j) b L k)
a_closed b {j} = record { «in» = λ ts h. (j, refl, h) }

pub a_joined : (b e : Span) {L : Phrase} → Sub L (spanning (join b e) b e L)
a_joined b e = record { «in» = λ ts h. (refl, h) }

-- what closes brackets
pub closing : {i j : Span} {o c : AnySign} {L : Phrase} → Sub ((at (Sign o) i ▸ L) ▸ at (Sign c) j) (between (join i j) o L c)
closing = then assoc a_between
