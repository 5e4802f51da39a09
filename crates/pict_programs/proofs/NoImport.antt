-- Tokens that don't begin with the keyword `import`: their trees, their prefixes and their nestings are those of declarations.
use Rattle.std.proofs.Common.{◌≡◌, ℕ, zero, suc, ◌+◌, ◌<◌, refl, sym, ap, subst, ◌∙◌, List, [], ◌∷◌, ◌++◌, length, take, get_or, add-one, arith}
use Rattle.pict_syntax.specs.declared.limits.TheConstants.{NESTING_LIMIT}
use Rattle.pict_syntax.specs.declared.token.Token.{Token}
use Rattle.pict_syntax.specs.declared.token.TokenKind.TheVariants.{Keyword}
use Rattle.pict_syntax.specs.declared.token.Keyword.TheVariants.{Import as ImportKeyword}
use Rattle.pict_syntax.specs.declared.tree.Import.{Import}
use Rattle.pict_syntax.specs.Trees.{Decs, no_decs}
use Rattle.pict_syntax.specs.Phrases.{token}
use Rattle.pict_syntax.specs.Grammar.{IsDec}
use Rattle.pict_syntax.specs.Place.{IsPrefix, IsTooNestedAt}
use Rattle.pict_syntax.specs.Programs.{Program, AreImports, imports_nest, declarations, programs}
use Rattle.pict_syntax.specs.Verdicts.{IsShallowBefore}
use Rattle.pict_programs.proofs.Beginnings.{BeginsWithout}

-- the program of declarations alone
abbrev pub alone : Decs → Program
alone ds = record { imports = []; decs = ds }

pub tree_alone : (ts : List Token) (ds : Decs) → declarations.tree ts ds → programs.tree ts (alone ds)
unfolding AreImports
tree_alone ts ds t = ([], ts, refl, refl, t)

-- what a program is that begins with no import
pub record IsAlone (ts : List Token) (p : Program) : Type 0 where
  pub is : p ≡ alone p.decs
  pub tree : declarations.tree ts p.decs

alone_by : (ts : List Token) (is : List Import) (ds : Decs) → BeginsWithout ts → programs.tree ts (record { imports = is; decs = ds }) → IsAlone ts (record { imports = is; decs = ds })
unfolding AreImports
alone_by ts [] ds m (us, vs, e, none, d) = record { is = refl; tree = subst (λ l. declarations.tree l ds) (sym (ap (λ l. l ++ vs) none) ∙ e) d }
alone_by ts (x ∷ xs) ds m (us, vs, e, (ab, cs, f, (ks, bs, g, (j, k), l), a), d) =
    let begins : BeginsWithout (((token (Keyword ImportKeyword) j ∷ bs) ++ cs) ++ vs) = subst BeginsWithout (sym e ∙ (ap (λ q. q ++ vs) (sym f) ∙ (ap (λ q. (q ++ cs) ++ vs) (sym g) ∙ ap (λ q. ((q ++ bs) ++ cs) ++ vs) k))) m in
    absurd begins

pub is_alone : (ts : List Token) (p : Program) → BeginsWithout ts → programs.tree ts p → IsAlone ts p
is_alone ts p m t = alone_by ts p.imports p.decs m t

pub prefix_down : (ts : List Token) → BeginsWithout ts → IsPrefix programs ts → IsPrefix declarations ts
unfolding IsDec
prefix_down [] m (rest, p, t) = ([], no_decs, refl)
prefix_down (a ∷ ts) m (rest, p, t) = (rest, p.decs, (is_alone (a ∷ (ts ++ rest)) p m t).tree)

pub prefix_up : (ts : List Token) → IsPrefix declarations ts → IsPrefix programs ts
prefix_up ts (rest, ds, t) = (rest, alone ds, tree_alone (ts ++ rest) ds t)

pub take_without : (k : ℕ) (ts : List Token) → BeginsWithout ts → BeginsWithout (take k ts)
take_without zero ts m = tt
take_without (suc k) [] m = m
take_without (suc k) (t ∷ ts) m = m

-- the first tokens, one or more, before others
front_without : (k : ℕ) (ts rest : List Token) → BeginsWithout ts → k < length ts → BeginsWithout (take (k + 1) ts ++ rest)
front_without k [] rest m h = absurd (omega (arith, h))
front_without k (t ∷ ts) rest m h = subst (λ n. BeginsWithout (take n (t ∷ ts) ++ rest)) (sym (add-one k)) m

nest_alone : (ds : Decs) (j : ℕ) → get_or (programs.nestings (alone ds)) j 0 ≡ get_or (declarations.nestings ds) j 0
unfolding imports_nest
nest_alone ds j = refl

pub nested_up : (ts : List Token) (j : ℕ) → IsTooNestedAt declarations ts j → IsTooNestedAt programs ts j
nested_up ts j (h, rest, ds, t, d) = (h, rest, alone ds, tree_alone (take (j + 1) ts ++ rest) ds t, subst (λ m. NESTING_LIMIT < m) (sym (nest_alone ds j)) d)

nested_down : (ts : List Token) (j : ℕ) → BeginsWithout ts → IsTooNestedAt programs ts j → IsTooNestedAt declarations ts j
nested_down ts j m (h, rest, p, t, d) =
    let l = is_alone (take (j + 1) ts ++ rest) p (front_without j ts rest m h) t in
    (h, rest, p.decs, l.tree, subst (λ m. NESTING_LIMIT < m) (ap (λ q. get_or (programs.nestings q) j 0) l.is ∙ nest_alone p.decs j) d)

pub shallow_up : (ts : List Token) (k : ℕ) → BeginsWithout ts → IsShallowBefore declarations ts k → IsShallowBefore programs ts k
shallow_up ts k m sh j below h = sh j below (nested_down ts j m h)
