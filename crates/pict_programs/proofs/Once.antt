-- A list of tokens is that of at most one program: its first two tokens say whether it begins with an import, and with which.
-- So it has at most one verdict.
use Rattle.std.proofs.Common.{◌≡◌, List, [], ◌∷◌, sym, ap, subst, ◌∙◌, append-nil}
use Rattle.pict_syntax.specs.declared.span.Span.{Span}
use Rattle.pict_syntax.specs.declared.token.Token.{Token}
use Rattle.pict_syntax.specs.declared.token.TokenKind.{TokenKind}
use Rattle.pict_syntax.specs.declared.token.TokenKind.TheVariants.{Keyword, String}
use Rattle.pict_syntax.specs.declared.token.Keyword.TheVariants.{Import as ImportKeyword}
use Rattle.pict_syntax.specs.Phrases.{token}
use Rattle.pict_syntax.specs.Place.{OneTree}
use Rattle.pict_syntax.specs.Programs.{Program, programs}
use Rattle.pict_syntax.specs.Verdicts.{OneVerdict}
use Rattle.pict_automaton.proofs.OneVerdict.{one_verdict_of}
use Rattle.pict_automaton.proofs.Programs.{one_tree as one_list}
use Rattle.pict_programs.proofs.Beginnings.{after_keyword, BeginsWithout}
use Rattle.pict_programs.proofs.OneImport.{with_import, tree_behind, keyword_alone, no_string}
use Rattle.pict_programs.proofs.NoImport.{alone, is_alone}

one_alone : (ts : List Token) (p q : Program) → BeginsWithout ts → programs.tree ts p → programs.tree ts q → p ≡ q
one_alone ts p q m a b =
    let x = is_alone ts p m a in
    let y = is_alone ts q m b in
    x.is ∙ ap alone (one_list ts p.decs q.decs x.tree y.tree) ∙ sym y.is

by_kind : (k : TokenKind) (i : Span) (p q : Program) → programs.tree (token k i ∷ []) p → programs.tree (token k i ∷ []) q → p ≡ q
by_kind (Keyword ImportKeyword) i p q a b = absurd (keyword_alone i p a)
by_kind k i p q a b = one_alone (token k i ∷ []) p q tt a b

by_kinds : (k m : TokenKind) (i j : Span) (ts : List Token) → ((p q : Program) → programs.tree ts p → programs.tree ts q → p ≡ q) → (p q : Program) → programs.tree (token k i ∷ token m j ∷ ts) p → programs.tree (token k i ∷ token m j ∷ ts) q → p ≡ q
by_kinds (Keyword ImportKeyword) (String n) i j ts more p q a b =
    let x = tree_behind i n j ts p a in
    let y = tree_behind i n j ts q b in
    x.is ∙ ap (with_import n j) (more x.others y.others x.tree y.tree) ∙ sym y.is
by_kinds (Keyword ImportKeyword) m i j ts more p q a b =
    absurd (no_string i (token m j) ts tt ([], p, subst (λ l. programs.tree l p) (sym (append-nil (after_keyword i (token m j ∷ ts)))) a))
by_kinds k m i j ts more p q a b = one_alone (token k i ∷ token m j ∷ ts) p q tt a b

pub one_tree : OneTree programs
one_tree [] p q a b = one_alone [] p q tt a b
one_tree (t ∷ []) p q a b = by_kind t.kind t.span p q a b
one_tree (t ∷ u ∷ ts) p q a b = by_kinds t.kind u.kind t.span u.span ts (one_tree ts) p q a b

pub one_verdict : OneVerdict programs
one_verdict = one_verdict_of programs one_tree
