-- The keyword `import` at the front of tokens: a string stands behind it, and the trees, the prefixes and the nestings are those
-- behind both.
use Rattle.std.proofs.Common.{◌≡◌, ℕ, zero, suc, ◌+◌, ◌<◌, refl, sym, ap, subst, ◌∙◌, List, [], ◌∷◌, ◌++◌, take, get_or, add-one, arith}
use Rattle.pict_syntax.specs.declared.limits.TheConstants.{NESTING_LIMIT}
use Rattle.pict_syntax.specs.declared.span.Span.{Span}
use Rattle.pict_syntax.specs.declared.token.Token.{Token}
use Rattle.pict_syntax.specs.declared.token.TokenKind.{TokenKind}
use Rattle.pict_syntax.specs.declared.token.TokenKind.TheVariants.{Keyword, String}
use Rattle.pict_syntax.specs.declared.token.Keyword.TheVariants.{Import as ImportKeyword}
use Rattle.pict_syntax.specs.declared.tree.Import.{Import}
use Rattle.pict_syntax.specs.Trees.{Decs, no_decs}
use Rattle.pict_syntax.specs.Phrases.{token}
use Rattle.pict_syntax.specs.Grammar.{AreDecs, IsDec}
use Rattle.pict_syntax.specs.Place.{IsPrefix, IsTooNestedAt}
use Rattle.pict_syntax.specs.Programs.{Program, AreImports, imports_nest, programs}
use Rattle.pict_programs.proofs.Beginnings.{after_keyword, no_declarations}

-- an import, and then these tokens
abbrev pub after_import : Span → List ℕ → Span → List Token → List Token
after_import i n s ts = after_keyword i (token (String n) s ∷ ts)

abbrev pub with_import : List ℕ → Span → Program → Program
with_import n s p = record { imports = record { name = n; span = s } ∷ p.imports; decs = p.decs }

pub tree_on : (i : Span) (n : List ℕ) (s : Span) (ts : List Token) (p : Program) → programs.tree ts p → programs.tree (after_import i n s ts) (with_import n s p)
unfolding AreImports
tree_on i n s ts p (us, vs, e, a, d) = (
  after_import i n s us,
  vs,
  ap (after_import i n s) e,
  (after_import i n s [], us, refl, (after_keyword i [], token (String n) s ∷ [], refl, (i, refl), refl), a),
  d,
)

-- what a program is whose first token is the keyword
record Behind (ts : List Token) (p : Program) : Type 0 where
  name : List ℕ
  place : Span
  rest : List Token
  others : Program
  string : ts ≡ token (String name) place ∷ rest
  is : p ≡ with_import name place others
  tree : programs.tree rest others

tail : {t u : Token} {ts us : List Token} → t ∷ ts ≡ u ∷ us → ts ≡ us
tail e = cc

behind : (i : Span) (ts : List Token) (is : List Import) (ds : Decs) → programs.tree (after_keyword i ts) (record { imports = is; decs = ds }) → Behind ts (record { imports = is; decs = ds })
unfolding AreImports
behind i ts [] ds (us, vs, e, none, d) = absurd (no_declarations i ts ds (subst (λ l. AreDecs ds l) (sym (ap (λ l. l ++ vs) none) ∙ e) d))
behind i ts (x ∷ xs) ds (us, vs, e, (ab, cs, f, (ks, bs, g, (j, k), l), a), d) =
    let kw : Token = token (Keyword ImportKeyword) j in
    let st : Token = token (String x.name) x.span in
    let ab_is : ab ≡ kw ∷ st ∷ [] = sym g ∙ (ap (λ q. q ++ bs) k ∙ ap (λ q. kw ∷ q) l) in
    let us_is : us ≡ kw ∷ st ∷ cs = sym f ∙ ap (λ q. q ++ cs) ab_is in
    let all : kw ∷ st ∷ (cs ++ vs) ≡ after_keyword i ts = sym (ap (λ q. q ++ vs) us_is) ∙ e in
    record {
      name = x.name;
      place = x.span;
      rest = cs ++ vs;
      others = record { imports = xs; decs = ds };
      string = sym (tail all);
      is = refl;
      tree = (cs, vs, refl, a, d);
    }

tree_back : (i : Span) (ts : List Token) (p : Program) → programs.tree (after_keyword i ts) p → Behind ts p
tree_back i ts p t = behind i ts p.imports p.decs t

same_string : (n m : List ℕ) (s r : Span) (ts us : List Token) → token (String n) s ∷ ts ≡ token (String m) r ∷ us → (n ≡ m) × (s ≡ r) × (ts ≡ us)
same_string n m s r ts us e =
    let h : token (String n) s ≡ token (String m) r = cc in
    let k : String n ≡ String m = ap (λ (t : Token). t.kind) h in
    (cc, ap (λ (t : Token). t.span) h, cc)

-- what a program is that begins with this import
pub record Others (n : List ℕ) (s : Span) (ts : List Token) (p : Program) : Type 0 where
  pub others : Program
  pub is : p ≡ with_import n s others
  pub tree : programs.tree ts others

pub tree_behind : (i : Span) (n : List ℕ) (s : Span) (ts : List Token) (p : Program) → programs.tree (after_import i n s ts) p → Others n s ts p
tree_behind i n s ts p t =
    let b = tree_back i (token (String n) s ∷ ts) p t in
    let q = same_string n b.name s b.place ts b.rest b.string in
    record {
      others = b.others;
      is = b.is ∙ (ap (λ m. with_import m b.place b.others) (sym q.0) ∙ ap (λ r. with_import n r b.others) (sym q.1));
      tree = subst (λ l. programs.tree l b.others) (sym q.2) b.tree;
    }

pub prefix_on : (i : Span) (n : List ℕ) (s : Span) (ts : List Token) → IsPrefix programs ts → IsPrefix programs (after_import i n s ts)
prefix_on i n s ts (rest, p, t) = (rest, with_import n s p, tree_on i n s (ts ++ rest) p t)

pub prefix_behind : (i : Span) (n : List ℕ) (s : Span) (ts : List Token) → IsPrefix programs (after_import i n s ts) → IsPrefix programs ts
prefix_behind i n s ts (rest, p, t) = let b = tree_behind i n s (ts ++ rest) p t in (rest, b.others, b.tree)

pub take_behind : (i : Span) (n : List ℕ) (s : Span) (ts : List Token) (j : ℕ) → take (suc (suc j) + 1) (after_import i n s ts) ≡ after_import i n s (take (j + 1) ts)
take_behind i n s ts j = ap (λ m. take m (after_import i n s ts)) (add-one (suc (suc j))) ∙ ap (after_import i n s) (ap (λ m. take m ts) (sym (add-one j)))

-- the nestings of its tokens: none for the import
nest_behind : (n : List ℕ) (s : Span) (p : Program) (j : ℕ) → get_or (programs.nestings (with_import n s p)) (suc (suc j)) 0 ≡ get_or (programs.nestings p) j 0
unfolding imports_nest
nest_behind n s p j = refl

nest_first : (n : List ℕ) (s : Span) (p : Program) → (get_or (programs.nestings (with_import n s p)) 0 0 ≡ 0) × (get_or (programs.nestings (with_import n s p)) 1 0 ≡ 0)
unfolding imports_nest
nest_first n s p = (refl, refl)

pub nested_on : (i : Span) (n : List ℕ) (s : Span) (ts : List Token) (j : ℕ) → IsTooNestedAt programs ts j → IsTooNestedAt programs (after_import i n s ts) (suc (suc j))
nested_on i n s ts j (h, rest, p, t, d) = (
  omega (arith, h),
  rest,
  with_import n s p,
  subst (λ l. programs.tree (l ++ rest) (with_import n s p)) (sym (take_behind i n s ts j)) (tree_on i n s (take (j + 1) ts ++ rest) p t),
  subst (λ m. NESTING_LIMIT < m) (sym (nest_behind n s p j)) d,
)

keyword_nested : (i : Span) (ts : List Token) → IsTooNestedAt programs (after_keyword i ts) 0 → ⊥
keyword_nested i ts (h, rest, p, t, d) =
    let b = tree_back i rest p t in
    let e : get_or (programs.nestings p) 0 0 ≡ 0 = ap (λ q. get_or (programs.nestings q) 0 0) b.is ∙ (nest_first b.name b.place b.others).0 in
    omega (arith, d, e)

-- a token behind both, seen from there
pub record Later (ts : List Token) (k : ℕ) : Type 0 where
  pub at : ℕ
  pub is : k ≡ suc (suc at)
  pub nested : IsTooNestedAt programs ts at

pub nested_behind : (i : Span) (n : List ℕ) (s : Span) (ts : List Token) (k : ℕ) → IsTooNestedAt programs (after_import i n s ts) k → Later ts k
nested_behind i n s ts zero h = absurd (keyword_nested i (token (String n) s ∷ ts) h)
nested_behind i n s ts (suc zero) (h, rest, p, t, d) =
    let b = tree_back i (token (String n) s ∷ rest) p t in
    let e : get_or (programs.nestings p) 1 0 ≡ 0 = ap (λ q. get_or (programs.nestings q) 1 0) b.is ∙ (nest_first b.name b.place b.others).1 in
    absurd (omega (arith, d, e))
nested_behind i n s ts (suc (suc j)) (h, rest, p, t, d) =
    let b = tree_behind i n s (take (j + 1) ts ++ rest) p (subst (λ l. programs.tree (l ++ rest) p) (take_behind i n s ts j) t) in
    let e : get_or (programs.nestings p) (suc (suc j)) 0 ≡ get_or (programs.nestings b.others) j 0 = ap (λ q. get_or (programs.nestings q) (suc (suc j)) 0) b.is ∙ nest_behind n s b.others j in
    record { at = j; is = refl; nested = (omega (arith, h), rest, b.others, b.tree, subst (λ m. NESTING_LIMIT < m) e d) }

-- ---- the keyword, and no string behind it

-- a token that is no string
abbrev pub NotString : TokenKind → Type 0
NotString (String n) = ⊥
NotString k = Unit {0}

abbrev nowhere : Span
nowhere = record { text = 0; start = 0; end = 0 }

abbrev no_program : Program
no_program = record { imports = []; decs = no_decs }

no_tokens : programs.tree [] no_program
unfolding AreImports IsDec
no_tokens = ([], [], refl, refl, refl)

pub keyword_begins : (i : Span) → IsPrefix programs (after_keyword i [])
keyword_begins i = (token (String []) nowhere ∷ [], with_import [] nowhere no_program, tree_on i [] nowhere [] no_program no_tokens)

-- no token before the second is nested too deep
pub keyword_shallow : (i : Span) (ts : List Token) (k : ℕ) → k < 1 → IsTooNestedAt programs (after_keyword i ts) k → ⊥
keyword_shallow i ts zero below h = keyword_nested i ts h
keyword_shallow i ts (suc k) below h = omega (arith, below)

pub keyword_alone : (i : Span) (p : Program) → programs.tree (after_keyword i []) p → ⊥
keyword_alone i p t = let e = (tree_back i [] p t).string in cc

head : {t u : Token} {ts us : List Token} → t ∷ ts ≡ u ∷ us → t ≡ u
head e = cc

pub no_string : (i : Span) (b : Token) (ts : List Token) → NotString b.kind → IsPrefix programs (after_keyword i (b ∷ ts)) → ⊥
no_string i b ts n (rest, p, t) = subst NotString (ap (λ (u : Token). u.kind) (head (tree_back i (b ∷ (ts ++ rest)) p t).string)) n
