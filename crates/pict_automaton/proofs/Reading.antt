-- What it is that the machine reads a phrase: from one state it comes to another over each list of the phrase.
use Rattle.std.proofs.Common.{◌≡◌, List, [], ◌∷◌, ◌++◌, sym, ap, subst, ◌∙◌, append_assoc, inl, inr}
use Rattle.pict_syntax.specs.declared.name.Name.{Name}
use Rattle.pict_syntax.specs.declared.span.Span.{Span}
use Rattle.pict_syntax.specs.declared.token.SymbolName.{SymbolName}
use Rattle.pict_syntax.specs.declared.token.Token.{Token}
use Rattle.pict_syntax.specs.declared.token.TokenKind.{TokenKind}
use Rattle.pict_syntax.specs.declared.token.TokenKind.TheVariants.{Identifier, Symbol, Keyword, Sign}
use Rattle.pict_syntax.specs.declared.token.Keyword.{Keyword as AnyKeyword}
use Rattle.pict_syntax.specs.declared.token.Sign.{Sign as AnySign}
use Rattle.pict_syntax.specs.Phrases.{Phrase, nothing, never, ◌▸◌, at, keyword, sign, symbol, join, led, between, closed, spanning, name}
use Rattle.pict_automaton.specs.Places.{State}
use Rattle.pict_automaton.specs.Machine.{step, run}

-- what is to come behind a phrase
abbrev pub Ahead : Type 1
Ahead = List Token → Type 0

abbrev pub anything : Ahead
anything r = Unit {0}

-- a token of such a kind
abbrev pub next : (TokenKind → Type 0) → Ahead
next P [] = ⊥
next P (t ∷ r) = P t.kind

-- over a list of the phrase, with what is to come behind it, the machine comes from one state to the other
pub record Reads (C : Ahead) (x : State) (L : Phrase) (y : State) : Type 0 where
  pub runs : (ts r : List Token) → L ts → C r → run x (ts ++ r) ≡ run y r

-- two states do the same over what is to come
pub record Falls (C : Ahead) (x y : State) : Type 0 where
  pub same : (r : List Token) → C r → run x r ≡ run y r

pub follow : {C D : Ahead} {x y z : State} {L M : Phrase} → ((ts r : List Token) → M ts → D r → C (ts ++ r)) → Reads C x L y → Reads D y M z → Reads D x (L ▸ M) z
follow {C} {D} {x} {y} {z} {L} {M} c f g = record {
  runs = λ ts r h d.
      ap (λ l. run x (l ++ r)) (sym h.2)
      ∙ ap (run x) (append_assoc h.0 h.1 r)
      ∙ f.runs h.0 (h.1 ++ r) h.3 (c h.1 r h.4 d)
      ∙ g.runs h.1 r h.4 d;
}

pub then_any : {D : Ahead} {x y z : State} {L M : Phrase} → Reads anything x L y → Reads D y M z → Reads D x (L ▸ M) z
then_any f g = follow (λ ts r h d. tt) f g

pub one : {C : Ahead} {x y : State} {k : TokenKind} {i : Span} → step k i x ≡ y → Reads C x (at k i) y
one {C} {x} {y} {k} {i} e = record { runs = λ ts r h c. ap (λ l. run x (l ++ r)) h ∙ ap (λ z. run z r) e }

pub first : {C : Ahead} {x y z : State} {k : TokenKind} {i : Span} {M : Phrase} → step k i x ≡ y → Reads C y M z → Reads C x (at k i ▸ M) z
first e g = then_any (one e) g

pub some_keyword : {C : Ahead} {x y : State} {k : AnyKeyword} → ((i : Span) → step (Keyword k) i x ≡ y) → Reads C x (keyword k) y
some_keyword {C} {x} {y} {k} e = record { runs = λ ts r h c. ap (λ l. run x (l ++ r)) h.1 ∙ ap (λ z. run z r) (e h.0) }

pub some_sign : {C : Ahead} {x y : State} {m : AnySign} → ((i : Span) → step (Sign m) i x ≡ y) → Reads C x (sign m) y
some_sign {C} {x} {y} {m} e = record { runs = λ ts r h c. ap (λ l. run x (l ++ r)) h.1 ∙ ap (λ z. run z r) (e h.0) }

pub first_keyword : {C : Ahead} {x y z : State} {k : AnyKeyword} {M : Phrase} → ((i : Span) → step (Keyword k) i x ≡ y) → Reads C y M z → Reads C x (keyword k ▸ M) z
first_keyword e g = then_any (some_keyword e) g

pub first_sign : {C : Ahead} {x y z : State} {m : AnySign} {M : Phrase} → ((i : Span) → step (Sign m) i x ≡ y) → Reads C y M z → Reads C x (sign m ▸ M) z
first_sign e g = then_any (some_sign e) g

pub some_symbol : {C : Ahead} {x y : State} {z : SymbolName} → ((n : Name) (i : Span) → step (Symbol z n) i x ≡ y) → Reads C x (symbol z) y
some_symbol {C} {x} {y} {z} e = record { runs = λ ts r h c. ap (λ l. run x (l ++ r)) h.2 ∙ ap (λ z. run z r) (e h.0 h.1) }

pub first_symbol : {C : Ahead} {x y w : State} {z : SymbolName} {M : Phrase} → ((n : Name) (i : Span) → step (Symbol z n) i x ≡ y) → Reads C y M w → Reads C x (symbol z ▸ M) w
first_symbol e g = then_any (some_symbol e) g

pub empty : {C : Ahead} {x : State} → Reads C x nothing x
empty {C} {x} = record { runs = λ ts r h c. ap (λ l. run x (l ++ r)) h }

pub no_reads : {C : Ahead} {x y : State} → Reads C x never y
no_reads = record { runs = λ ts r h c. absurd h }

-- what is read to the end of a phrase, where the state then does as another
pub then_falls : {C : Ahead} {x y z : State} {L : Phrase} → Reads C x L y → Falls C y z → Reads C x L z
then_falls f g = record { runs = λ ts r h c. f.runs ts r h c ∙ g.same r c }

pub falls_then : {C D : Ahead} {x y z : State} {L : Phrase} → ((ts r : List Token) → L ts → C r → D (ts ++ r)) → Falls D x y → Reads C y L z → Reads C x L z
falls_then d g f = record { runs = λ ts r h c. g.same (ts ++ r) (d ts r h c) ∙ f.runs ts r h c }

pub weaken : {C D : Ahead} {x y : State} {L : Phrase} → ((r : List Token) → D r → C r) → Reads C x L y → Reads D x L y
weaken w f = record { runs = λ ts r h d. f.runs ts r h (w r d) }

pub weaken_falls : {C D : Ahead} {x y : State} → ((r : List Token) → D r → C r) → Falls C x y → Falls D x y
weaken_falls w f = record { same = λ r d. f.same r (w r d) }

pub always : {D : Ahead} {x y : State} {L : Phrase} → Reads anything x L y → Reads D x L y
always f = weaken (λ r d. tt) f

pub falls : {P : TokenKind → Type 0} {x y : State} → ((k : TokenKind) (i : Span) → P k → step k i x ≡ step k i y) → Falls (next P) x y
falls {P} {x} {y} e = record { same = on e }
  where
    on : ((k : TokenKind) (i : Span) → P k → step k i x ≡ step k i y) → (r : List Token) → next P r → run x r ≡ run y r
    on e [] h = absurd h
    on e (t ∷ r) h = ap (λ z. run z r) (e t.kind t.span h)

-- what is read from, or to, an equal state
pub enter : {C : Ahead} {x y z : State} {L : Phrase} → x ≡ y → Reads C y L z → Reads C x L z
enter e f = record { runs = λ ts r h c. ap (λ x. run x (ts ++ r)) e ∙ f.runs ts r h c }

pub onto : {C : Ahead} {x y z : State} {L : Phrase} → Reads C x L y → y ≡ z → Reads C x L z
onto f e = record { runs = λ ts r h c. f.runs ts r h c ∙ ap (λ z. run z r) e }

pub reads_names : {C : Ahead} {x y : State} (n : Name) (s : Span) → Reads C x (at (Identifier n) s) y → ((z : SymbolName) → Reads C x (at (Symbol z n) s) y) → Reads C x (name n s) y
reads_names n s f g = record { runs = λ ts r h c. elim h [ inl e ↦ f.runs ts r e c | inr e ↦ (g e.0).runs ts r e.1 c ] }

-- nodes: the state that is reached is told by the place where the node stands
pub led_reads : {C : Ahead} {x : State} {s : Span} (e : Span) {k : TokenKind} {L : Phrase} (y : Span → State) → ((i : Span) → Reads C x (at k i ▸ L) (y (join i e))) → Reads C x (led s k L e) (y s)
led_reads {C} {x} {s} e y f = record { runs = λ ts r h c. (f h.0).runs ts r h.2 c ∙ ap (λ z. run (y z) r) (sym h.1) }

pub between_reads : {C : Ahead} {x : State} {s : Span} {o m : AnySign} {L : Phrase} (y : Span → State) → ((i j : Span) → Reads C x (at (Sign o) i ▸ (L ▸ at (Sign m) j)) (y (join i j))) → Reads C x (between s o L m) (y s)
between_reads {C} {x} {s} y f = record { runs = λ ts r h c. (f h.0 h.1).runs ts r h.3 c ∙ ap (λ z. run (y z) r) (sym h.2) }

pub closed_reads : {C : Ahead} {x : State} {s : Span} (b : Span) {k : TokenKind} {L : Phrase} (y : Span → State) → ((j : Span) → Reads C x (L ▸ at k j) (y (join b j))) → Reads C x (closed s b L k) (y s)
closed_reads {C} {x} {s} b y f = record { runs = λ ts r h c. (f h.0).runs ts r h.2 c ∙ ap (λ z. run (y z) r) (sym h.1) }

pub joined_reads : {C : Ahead} {x : State} {s : Span} (b e : Span) {L : Phrase} (y : Span → State) → Reads C x L (y (join b e)) → Reads C x (spanning s b e L) (y s)
joined_reads {C} {x} {s} b e y f = record { runs = λ ts r h c. f.runs ts r h.1 c ∙ ap (λ z. run (y z) r) (sym h.0) }

pub at_some : {C : Ahead} {x y : State} {F : Span → Phrase} → ((i : Span) → Reads C x (F i) y) → Reads C x (λ ts. (i : Span) × F i ts) y
at_some f = record { runs = λ ts r h c. (f h.0).runs ts r h.1 c }

pub some_then : {C : Ahead} {x z : State} {F : Span → Phrase} {M : Phrase} → ((i : Span) → Reads C x (F i ▸ M) z) → Reads C x ((λ ts. (i : Span) × F i ts) ▸ M) z
some_then f = record { runs = λ ts r h c. (f h.3.0).runs ts r (h.0, h.1, h.2, h.3.1, h.4) c }

-- which tokens a phrase begins with
pub record Starts (P : TokenKind → Type 0) (L : Phrase) : Type 0 where
  pub begins : (ts r : List Token) → L ts → next P (ts ++ r)

pub starts_at : {P : TokenKind → Type 0} {k : TokenKind} {i : Span} → P k → Starts P (at k i)
starts_at {P} {k} {i} h = record { begins = λ ts r e. subst (λ l. next P (l ++ r)) (sym e) h }

pub starts_with : {P : TokenKind → Type 0} {L M : Phrase} → Starts P L → Starts P (L ▸ M)
starts_with {P} f = record { begins = λ ts r h. subst (λ l. next P (l ++ r)) h.2 (subst (next P) (sym (append_assoc h.0 h.1 r)) (f.begins h.0 (h.1 ++ r) h.3)) }

pub starts_keyword : {P : TokenKind → Type 0} {k : AnyKeyword} → P (Keyword k) → Starts P (keyword k)
starts_keyword {P} {k} h = record { begins = λ ts r e. subst (λ l. next P (l ++ r)) (sym e.1) h }

pub starts_sign : {P : TokenKind → Type 0} {m : AnySign} → P (Sign m) → Starts P (sign m)
starts_sign {P} {m} h = record { begins = λ ts r e. subst (λ l. next P (l ++ r)) (sym e.1) h }

pub starts_name : {P : TokenKind → Type 0} (n : Name) (s : Span) → P (Identifier n) → ((y : SymbolName) → P (Symbol y n)) → Starts P (name n s)
starts_name {P} n s a b = record { begins = λ ts r h. elim h [ inl e ↦ subst (λ l. next P (l ++ r)) (sym e) a | inr e ↦ subst (λ l. next P (l ++ r)) (sym e.1) (b e.0) ] }

pub starts_led : {P : TokenKind → Type 0} {s : Span} (e : Span) {k : TokenKind} {L : Phrase} → P k → Starts P (led s k L e)
starts_led {P} {s} e {k} {L} h = record { begins = λ ts r d. (starts_with {M = L} (starts_at {k = k} {i = d.0} h)).begins ts r d.2 }

pub starts_between : {P : TokenKind → Type 0} {s : Span} {o m : AnySign} {L : Phrase} → P (Sign o) → Starts P (between s o L m)
starts_between {P} {s} {o} {m} {L} h = record { begins = λ ts r d. (starts_with {M = L ▸ at (Sign m) d.1} (starts_at {k = Sign o} {i = d.0} h)).begins ts r d.3 }

pub starts_joined : {P : TokenKind → Type 0} {s : Span} (b e : Span) {L : Phrase} → Starts P L → Starts P (spanning s b e L)
starts_joined b e f = record { begins = λ ts r d. f.begins ts r d.1 }

pub starts_closed : {P : TokenKind → Type 0} {s : Span} (b : Span) {k : TokenKind} {L : Phrase} → Starts P L → Starts P (closed s b L k)
starts_closed {P} {s} b {k} f = record { begins = λ ts r d. (starts_with {M = at k d.0} f).begins ts r d.2 }

pub starts_never : {P : TokenKind → Type 0} → Starts P never
starts_never = record { begins = λ ts r d. absurd d }

pub starts_also : {P Q : TokenKind → Type 0} {L : Phrase} → ((k : TokenKind) → P k → Q k) → Starts P L → Starts Q L
starts_also {P} {Q} w f = record { begins = λ ts r h. wide w (ts ++ r) (f.begins ts r h) }
  where
    wide : ((k : TokenKind) → P k → Q k) → (l : List Token) → next P l → next Q l
    wide w [] h = absurd h
    wide w (t ∷ l) h = w t.kind h

-- where a phrase may be empty: what it begins with, or what is to come
pub record Leads (P : TokenKind → Type 0) (L : Phrase) : Type 0 where
  pub leads : (ts r : List Token) → L ts → next P r → next P (ts ++ r)

pub leads_nothing : {P : TokenKind → Type 0} → Leads P nothing
leads_nothing {P} = record { leads = λ ts r e h. subst (λ l. next P (l ++ r)) (sym e) h }

pub leads_more : {P : TokenKind → Type 0} {L M : Phrase} → Leads P L → Starts P M → Leads P (L ▸ M)
leads_more {P} f g = record { leads = λ ts r h n. subst (λ l. next P (l ++ r)) h.2 (subst (next P) (sym (append_assoc h.0 h.1 r)) (f.leads h.0 (h.1 ++ r) h.3 (g.begins h.1 r h.4))) }

pub leads_both : {P : TokenKind → Type 0} {L M : Phrase} → Leads P L → Leads P M → Leads P (L ▸ M)
leads_both {P} f g = record { leads = λ ts r h n. subst (λ l. next P (l ++ r)) h.2 (subst (next P) (sym (append_assoc h.0 h.1 r)) (f.leads h.0 (h.1 ++ r) h.3 (g.leads h.1 r h.4 n))) }

pub starts_behind : {P : TokenKind → Type 0} {L M : Phrase} → Leads P L → Starts P M → Starts P (L ▸ M)
starts_behind {P} f g = record { begins = λ ts r h. subst (λ l. next P (l ++ r)) h.2 (subst (next P) (sym (append_assoc h.0 h.1 r)) (f.leads h.0 (h.1 ++ r) h.3 (g.begins h.1 r h.4))) }

-- a token of fewer kinds
pub calm_next : {P Q : TokenKind → Type 0} → ((k : TokenKind) → P k → Q k) → (r : List Token) → next P r → next Q r
calm_next w [] h = absurd h
calm_next w (t ∷ r) h = w t.kind h

-- one phrase behind another that looks at the next token
pub then_next : {P : TokenKind → Type 0} {D : Ahead} {x y z : State} {L M : Phrase} → Starts P M → Reads (next P) x L y → Reads D y M z → Reads D x (L ▸ M) z
then_next s f g = follow (λ ts r h d. s.begins ts r h) f g

pub then_leads : {P : TokenKind → Type 0} {x y z : State} {L M : Phrase} → Leads P M → Reads (next P) x L y → Reads (next P) y M z → Reads (next P) x (L ▸ M) z
then_leads s f g = follow (λ ts r h d. s.leads ts r h d) f g
