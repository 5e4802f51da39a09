-- The verdict on tokens by how they begin: with an import, with the keyword and no string behind it, without the keyword. So imports
-- are read from left to right, two tokens each, and what is left is judged as declarations.
use Rattle.std.proofs.lemmas.List.{drop_more, length-drop}
use Rattle.std.proofs.Math.Seq.{take-length}
use Rattle.std.proofs.Math.ListN.{drop_of_length-le}
use Rattle.std.proofs.Common.{◌≡◌, ◌≢◌, ℕ, suc, ◌+◌, ◌-◌, ◌<◌, ◌≤◌, inl, inr, List, [], ◌∷◌, ◌++◌, length, take, drop, get_or, refl, sym, ap, subst, ◌∙◌, arith, append_assoc, append-nil}
use Rattle.pict_syntax.specs.declared.span.Span.{Span}
use Rattle.pict_syntax.specs.declared.token.Token.{Token}
use Rattle.pict_syntax.specs.declared.token.TokenKind.{TokenKind}
use Rattle.pict_syntax.specs.declared.token.TokenKind.TheVariants.{Keyword, String}
use Rattle.pict_syntax.specs.declared.token.Keyword.TheVariants.{Import as ImportKeyword}
use Rattle.pict_syntax.specs.declared.tree.Import.{Import}
use Rattle.pict_syntax.specs.Trees.{Decs}
use Rattle.pict_syntax.specs.Phrases.{token}
use Rattle.pict_syntax.specs.Place.{IsPrefix, IsFirstWrong, IsWrongEnd, IsFirstTooNested}
use Rattle.pict_syntax.specs.Programs.{Program, declarations, programs}
use Rattle.pict_syntax.specs.Verdicts.{Verdict, Whole, Unexpected, TooNested, IsVerdict, IsShallowBefore}
use Rattle.pict_programs.proofs.Beginnings.{after_keyword, NotImport, BeginsWithout}
use Rattle.pict_programs.proofs.OneImport.{after_import, with_import, tree_on, tree_behind, prefix_on, prefix_behind, take_behind, nested_on, nested_behind, NotString, keyword_begins, keyword_shallow, keyword_alone, no_string}
use Rattle.pict_programs.proofs.NoImport.{alone, tree_alone, is_alone, prefix_down, prefix_up, take_without, nested_up, shallow_up}

-- ---- an import

-- the verdict on what stands behind an import, said of all tokens
abbrev pub import_verdict : List ℕ → Span → Verdict Program → Verdict Program
import_verdict n s (Whole p) = Whole (with_import n s p)
import_verdict n s (Unexpected span) = Unexpected span
import_verdict n s (TooNested span) = TooNested span

shallow_on : (i : Span) (n : List ℕ) (s : Span) (ts : List Token) (k : ℕ) → IsShallowBefore programs ts k → IsShallowBefore programs (after_import i n s ts) (suc (suc k))
shallow_on i n s ts k sh j below h = let l = nested_behind i n s ts j h in sh l.at (omega (arith, below, l.is)) l.nested

wrong_on : (i : Span) (n : List ℕ) (s : Span) (ts : List Token) (k : ℕ) → IsFirstWrong programs ts k → IsFirstWrong programs (after_import i n s ts) (suc (suc k))
wrong_on i n s ts k (h, before, none) = (
  omega (arith, h),
  prefix_on i n s (take k ts) before,
  λ p. none (prefix_behind i n s (take (k + 1) ts) (subst (IsPrefix programs) (take_behind i n s ts k) p)),
)

end_on : (i : Span) (n : List ℕ) (s : Span) (ts : List Token) → IsWrongEnd programs ts → IsWrongEnd programs (after_import i n s ts)
end_on i n s ts (before, none) = (prefix_on i n s ts before, λ p t. let b = tree_behind i n s ts p t in none b.others b.tree)

first_on : (i : Span) (n : List ℕ) (s : Span) (ts : List Token) (k : ℕ) → IsFirstTooNested programs ts k → IsFirstTooNested programs (after_import i n s ts) (suc (suc k))
first_on i n s ts k (h, before) = (nested_on i n s ts k h, shallow_on i n s ts k before)

pub verdict_on : (i : Span) (n : List ℕ) (s : Span) (ts : List Token) (end : Span) (v : Verdict Program) → IsVerdict programs ts end v → IsVerdict programs (after_import i n s ts) end (import_verdict n s v)
verdict_on i n s ts end (Whole p) h = record { tree = tree_on i n s ts p h.tree; shallow = shallow_on i n s ts (length ts) h.shallow }
verdict_on i n s ts end (Unexpected span) (inl h) = inl (record { index = suc (suc h.index); wrong = wrong_on i n s ts h.index h.wrong; shallow = shallow_on i n s ts h.index h.shallow; place = h.place })
verdict_on i n s ts end (Unexpected span) (inr h) = inr (record { wrong = end_on i n s ts h.wrong; shallow = shallow_on i n s ts (length ts) h.shallow; place = h.place })
verdict_on i n s ts end (TooNested span) h = record { index = suc (suc h.index); nested = first_on i n s ts h.index h.nested; place = h.place }

-- ---- the keyword, and no string behind it

pub verdict_alone : (i end : Span) → IsVerdict programs (after_keyword i []) end (Unexpected end)
verdict_alone i end = inr (record { wrong = (keyword_begins i, keyword_alone i); shallow = λ j below. keyword_shallow i [] j below; place = refl })

pub verdict_no_string : (i : Span) (b : Token) (ts : List Token) (end : Span) → NotString b.kind → IsVerdict programs (after_keyword i (b ∷ ts)) end (Unexpected b.span)
verdict_no_string i b ts end n = inl (record { index = 1; wrong = (omega arith, keyword_begins i, no_string i b [] n); shallow = λ j below. keyword_shallow i (b ∷ ts) j below; place = λ other. refl })

-- ---- no keyword: what is said of declarations is said of programs

abbrev pub alone_verdict : Verdict Decs → Verdict Program
alone_verdict (Whole ds) = Whole (alone ds)
alone_verdict (Unexpected span) = Unexpected span
alone_verdict (TooNested span) = TooNested span

wrong_up : (ts : List Token) (k : ℕ) → BeginsWithout ts → IsFirstWrong declarations ts k → IsFirstWrong programs ts k
wrong_up ts k m (h, before, none) = (h, prefix_up (take k ts) before, λ p. none (prefix_down (take (k + 1) ts) (take_without (k + 1) ts m) p))

pub verdict_up : (ts : List Token) (end : Span) (v : Verdict Decs) → BeginsWithout ts → IsVerdict declarations ts end v → IsVerdict programs ts end (alone_verdict v)
verdict_up ts end (Whole ds) m h = record { tree = tree_alone ts ds h.tree; shallow = shallow_up ts (length ts) m h.shallow }
verdict_up ts end (Unexpected span) m (inl h) = inl (record { index = h.index; wrong = wrong_up ts h.index m h.wrong; shallow = shallow_up ts h.index m h.shallow; place = h.place })
verdict_up ts end (Unexpected span) m (inr h) = inr (record { wrong = (prefix_up ts h.wrong.0, λ p t. h.wrong.1 p.decs (is_alone ts p m t).tree); shallow = shallow_up ts (length ts) m h.shallow; place = h.place })
verdict_up ts end (TooNested span) m h = record { index = h.index; nested = (nested_up ts h.index h.nested.0, shallow_up ts h.index m h.nested.1); place = h.place }

-- ---- from left to right

-- the verdict on what stands behind imports, said of all tokens
abbrev pub behind_imports : List Import → Verdict Program → Verdict Program
behind_imports is (Whole p) = Whole (record { imports = is ++ p.imports; decs = p.decs })
behind_imports is (Unexpected span) = Unexpected span
behind_imports is (TooNested span) = TooNested span

-- the tokens before this place are these imports: the verdict on those from there on is that on all
abbrev pub HasRead : List Token → Span → ℕ → List Import → Type 0
HasRead ts end at is = (v : Verdict Program) → IsVerdict programs (drop at ts) end v → IsVerdict programs ts end (behind_imports is v)

pub read_none : (ts : List Token) (end : Span) → HasRead ts end 0 []
read_none ts end (Whole p) h = h
read_none ts end (Unexpected span) h = h
read_none ts end (TooNested span) h = h

from_kind : (a : Token) (k : TokenKind) → a.kind ≡ k → a ≡ token k a.span
from_kind a k e = ap (λ c. token c a.span) e

-- the next token, and the two next
one_left : (ts : List Token) (at : ℕ) (a : Token) → at < length ts → a ≡ get_or ts at a → drop at ts ≡ a ∷ drop (at + 1) ts
one_left ts at a h e = drop_more ts at a h ∙ ap (λ x. x ∷ drop (at + 1) ts) (sym e)

two_left : (ts : List Token) (at : ℕ) (a b : Token) → at + 1 < length ts → a ≡ get_or ts at a → b ≡ get_or ts (at + 1) b → drop at ts ≡ a ∷ b ∷ drop (at + 2) ts
two_left ts at a b h e f =
    one_left ts at a (omega (arith, h)) e
    ∙ ap (λ l. a ∷ l) (one_left ts (at + 1) b h f ∙ ap (λ n. b ∷ drop n ts) (let m : at + 1 + 1 ≡ at + 2 = omega arith in m))

moved : (is : List Import) (x : Import) (v : Verdict Program) → behind_imports is (import_verdict x.name x.span v) ≡ behind_imports (is ++ x ∷ []) v
moved is x (Whole p) = ap (λ l. Whole (record { imports = l; decs = p.decs })) (sym (append_assoc is (x ∷ []) p.imports))
moved is x (Unexpected span) = refl
moved is x (TooNested span) = refl

-- the keyword and a string stand here: one import more is read
pub read_import : (ts : List Token) (end : Span) (at : ℕ) (is : List Import) (a b : Token) (x : Import) → at + 1 < length ts → a ≡ get_or ts at a → b ≡ get_or ts (at + 1) b → a.kind ≡ Keyword ImportKeyword → b.kind ≡ String x.name → x.span ≡ b.span
    → HasRead ts end at is → HasRead ts end (at + 2) (is ++ x ∷ [])
read_import ts end at is a b x h e f k s p r v w =
    let keyword : a ≡ token (Keyword ImportKeyword) a.span = from_kind a (Keyword ImportKeyword) k in
    let string : b ≡ token (String x.name) x.span = from_kind b (String x.name) s ∙ ap (token (String x.name)) (sym p) in
    let shape : drop at ts ≡ after_import a.span x.name x.span (drop (at + 2) ts) =
    two_left ts at a b h e f ∙ ap (λ t. t ∷ b ∷ drop (at + 2) ts) keyword ∙ ap (λ t. after_keyword a.span (t ∷ drop (at + 2) ts)) string in
    let u : IsVerdict programs (drop at ts) end (import_verdict x.name x.span v) =
    subst (λ l. IsVerdict programs l end (import_verdict x.name x.span v)) (sym shape) (verdict_on a.span x.name x.span (drop (at + 2) ts) end v w) in
    subst (IsVerdict programs ts end) (moved is x v) (r (import_verdict x.name x.span v) u)

-- the keyword is the last token
pub keyword_last : (ts : List Token) (end : Span) (at : ℕ) (is : List Import) (a : Token) → at + 1 ≡ length ts → a ≡ get_or ts at a → a.kind ≡ Keyword ImportKeyword → HasRead ts end at is → IsVerdict programs ts end (Unexpected end)
keyword_last ts end at is a l e k r =
    let shape : drop at ts ≡ after_keyword a.span [] =
    one_left ts at a (omega (arith, l)) e ∙ ap (λ q. a ∷ q) (drop_of_length-le ts {i = at + 1} (omega (arith, l))) ∙ ap (λ t. t ∷ []) (from_kind a (Keyword ImportKeyword) k) in
    r (Unexpected end) (subst (λ q. IsVerdict programs q end (Unexpected end)) (sym shape) (verdict_alone a.span end))

no_string_kind : (k : TokenKind) → ((n : List ℕ) → k ≢ String n) → NotString k
no_string_kind (String n) other = other n refl
no_string_kind _ other = tt

-- what stands behind the keyword is no string
pub no_string_here : (ts : List Token) (end : Span) (at : ℕ) (is : List Import) (a b : Token) → at + 1 < length ts → a ≡ get_or ts at a → b ≡ get_or ts (at + 1) b → a.kind ≡ Keyword ImportKeyword → ((n : List ℕ) → b.kind ≢ String n)
    → HasRead ts end at is → IsVerdict programs ts end (Unexpected b.span)
no_string_here ts end at is a b h e f k n r =
    let shape : drop at ts ≡ after_keyword a.span (b ∷ drop (at + 2) ts) = two_left ts at a b h e f ∙ ap (λ t. t ∷ b ∷ drop (at + 2) ts) (from_kind a (Keyword ImportKeyword) k) in
    r (Unexpected b.span) (subst (λ q. IsVerdict programs q end (Unexpected b.span)) (sym shape) (verdict_no_string a.span b (drop (at + 2) ts) end (no_string_kind b.kind n)))

no_import_kind : (k : TokenKind) → k ≢ Keyword ImportKeyword → NotImport k
no_import_kind (Keyword ImportKeyword) other = other refl
no_import_kind _ other = tt

-- no keyword stands here, or no token is left
pub no_import_here : (ts : List Token) (at : ℕ) (a : Token) → at < length ts → a ≡ get_or ts at a → a.kind ≢ Keyword ImportKeyword → BeginsWithout (drop at ts)
no_import_here ts at a h e other = subst BeginsWithout (sym (one_left ts at a h e)) (no_import_kind a.kind other)

pub nothing_left : (ts : List Token) (at : ℕ) → length ts ≤ at → BeginsWithout (drop at ts)
nothing_left ts at h = subst BeginsWithout (sym (drop_of_length-le ts {i = at} h)) tt

-- the verdict on what is left, as on declarations, is that on all
pub declared_whole : (ts : List Token) (end : Span) (at : ℕ) (is : List Import) (ds : Decs) → BeginsWithout (drop at ts) → HasRead ts end at is → IsVerdict declarations (drop at ts) end (Whole ds) → IsVerdict programs ts end (Whole (record { imports = is; decs = ds }))
declared_whole ts end at is ds m r h = subst (λ l. IsVerdict programs ts end (Whole (record { imports = l; decs = ds }))) (append-nil is) (r (Whole (alone ds)) (verdict_up (drop at ts) end (Whole ds) m h))

pub declared_unexpected : (ts : List Token) (end : Span) (at : ℕ) (is : List Import) (span : Span) → BeginsWithout (drop at ts) → HasRead ts end at is → IsVerdict declarations (drop at ts) end (Unexpected span) → IsVerdict programs ts end (Unexpected span)
declared_unexpected ts end at is span m r h = r (Unexpected span) (verdict_up (drop at ts) end (Unexpected span) m h)

pub declared_nested : (ts : List Token) (end : Span) (at : ℕ) (is : List Import) (span : Span) → BeginsWithout (drop at ts) → HasRead ts end at is → IsVerdict declarations (drop at ts) end (TooNested span) → IsVerdict programs ts end (TooNested span)
declared_nested ts end at is span m r h = r (TooNested span) (verdict_up (drop at ts) end (TooNested span) m h)

-- what is left, as a slice has it
pub rest_all : (ts : List Token) (at : ℕ) → take (length ts - at) (drop at ts) ≡ drop at ts
rest_all ts at = ap (λ n. take n (drop at ts)) (sym (length-drop at ts)) ∙ take-length (drop at ts)
