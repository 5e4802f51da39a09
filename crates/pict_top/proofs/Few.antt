-- An accepted file has few names.
use Rattle.std.proofs.Common.{◌≡◌, ℕ, ◌+◌, ◌≤◌, Bool, true, false, List, [], ◌∷◌, ◌++◌, length, Option, Some, None, IfSome, refl, ap, subst, arith, if◌then◌else◌}
use Rattle.std.specs.Borrow.{Bor}
use Rattle.std.specs.List.{list_any}
use Rattle.std.specs.Str.{bytes_eq}
use Rattle.std.proofs.lemmas.List.{length-append}
use Rattle.pict_syntax.specs.declared.limits.TheConstants.{TEXT_LIMIT}
use Rattle.pict_syntax.specs.declared.source.Source.{Source}
use Rattle.pict_syntax.specs.declared.token.SymbolName.{SymbolName}
use Rattle.pict_syntax.specs.declared.token.SymbolName.TheVariants as sign_of
use Rattle.pict_syntax.specs.declared.tree.Import.{Import}
use Rattle.pict_syntax.specs.Names.{with_name, with_names}
use Rattle.pict_syntax.specs.Trees.{Decs}
use Rattle.pict_syntax.specs.Tokens.{Form, identifier, symbol, keyword, number, character, string, sign, symbol_text, IsWord, Spells}
use Rattle.pict_syntax.specs.Cuts.{Piece, blank, comment, token, joined_pieces, ArePieces, IsWholeCut, named_by, named}
use Rattle.pict_syntax.specs.Stops.{Stop}
use Rattle.pict_outside.specs.Texts.{Texts}
use Rattle.pict_gather.specs.Phases.{Phase, accepts, refuses}
use Rattle.pict_gather.specs.Sources.{bytes_in, visited}
use Rattle.pict_gather.specs.Reading.{Read, Reads}
use Rattle.pict_gather.specs.Fetching.{Fetch, MayGive}
use Rattle.pict_gather.specs.Gathered.{Gathered, EarlyEnd, with_source, settled, bytes_visited, begun, finished, Visits, too_long, unread, cut_off, whole, Along, none, next, stop, Leads, at_once, absent, unfetched, visit}
use Rattle.pict_gather.specs.Reached.{Gathering, first_source, Gathers, bare, unread_prelude, behind_prelude, Reaches, there}
use Rattle.pict_gather.specs.Entry.{lent}
use Rattle.pict_gather.proofs.Growing.{AtImport, settled_at_import}
use Rattle.pict_front.specs.Front.{Accepted, IsFront}
use Rattle.pict_front.proofs.TypedPrograms.{gathered}

-- ---- names of a text

name_one : (names : List (List ℕ)) (x : List ℕ) → length (with_name names x) ≤ length names + 1
name_one names x = by (list_any (bytes_eq x) names)
  where
    by : (b : Bool) → length (if b then names else names ++ x ∷ []) ≤ length names + 1
    by true = omega arith
    by false = let e = length-append names (x ∷ []) in omega (arith, e)

names_few : (names xs : List (List ℕ)) → length (with_names names xs) ≤ length names + length xs
names_few names [] = omega arith
names_few names (x ∷ xs) = let a = name_one names x in let b = names_few (with_name names x) xs in omega (arith, a, b)

word_some : (t : List ℕ) → IsWord t → 1 ≤ length t
word_some [] h = absurd h
word_some (b ∷ t) h = omega arith

symbol_some : (bytes text : List ℕ) → bytes ≡ text → 1 ≤ length text → 1 ≤ length bytes
symbol_some bytes text e h = let l = ap length e in omega (arith, l, h)

symbols_some : (s : SymbolName) → 1 ≤ length (symbol_text s)
symbols_some s = elim s as (λ s. 1 ≤ length (symbol_text s)) [ sign_of.Plus ↦ omega arith | sign_of.Minus ↦ omega arith | sign_of.Star ↦ omega arith | sign_of.PlusDollar ↦ omega arith | sign_of.EqualsEquals ↦ omega arith | sign_of.LessLess ↦ omega arith | sign_of.LessEquals ↦ omega arith | sign_of.GreaterGreater ↦ omega arith | sign_of.GreaterEquals ↦ omega arith ]

named_short : (bytes : List ℕ) (form : Form) → Spells bytes form → length (named_by form) ≤ length bytes
named_short bytes (identifier t) h = let l = ap length h.0 in let w = word_some t h.1 in omega (arith, l, w)
named_short bytes (symbol s) h = symbol_some bytes (symbol_text s) h (symbols_some s)
named_short bytes (keyword k) h = omega arith
named_short bytes (number n) h = omega arith
named_short bytes (character c) h = omega arith
named_short bytes (string cs) h = omega arith
named_short bytes (sign s) h = omega arith

named_few : (pieces : List Piece) (rest : List ℕ) → ArePieces pieces rest → length (named pieces) ≤ length (joined_pieces pieces)
named_few [] rest h = omega arith
named_few (blank byte ∷ pieces) rest h = let r = named_few pieces rest h.1 in omega (arith, r)
named_few (comment bytes ∷ pieces) rest h = let r = named_few pieces rest h.1 in let e = length-append bytes (joined_pieces pieces) in omega (arith, r, e)
named_few (token bytes form ∷ pieces) rest h =
    let r = named_few pieces rest h.1 in
    let s = named_short bytes form h.0.0 in
    let e = length-append bytes (joined_pieces pieces) in
    let f = length-append (named_by form) (named pieces) in
    omega (arith, r, s, e, f)

whole_few : (t : List ℕ) (pieces : List Piece) → IsWholeCut t pieces → length (named pieces) ≤ length t
whole_few t pieces c =
    let r = named_few pieces [] c.each in
    let e = length-append (joined_pieces pieces) [] in
    let w = ap length c.whole in
    omega (arith, r, e, w)

abbrev count_of : Phase Stop Read → ℕ
count_of (accepts r) = length r.names
count_of (refuses e) = 0

reads_few : (names : List (List ℕ)) (n : ℕ) (t : List ℕ) (r : Read) → Reads names n t (accepts r) → length r.names ≤ length names + length t
reads_few names n t r (accepts pieces, cut, (accepts program, verdict, is)) =
    let a = names_few names (named pieces) in
    let b = whole_few t pieces cut in
    let e : length r.names ≡ length (with_names names (named pieces)) = ap count_of is in
    omega (arith, a, b, e)
reads_few names n t r (accepts pieces, cut, (refuses e, verdict, is)) = absurd cc
reads_few names n t r (refuses e, cut, is) = absurd cc

-- ---- names of all texts

bytes_more : (ss : List Source) (name t : List ℕ) → bytes_in (ss ++ record { name = name; text = t } ∷ []) ≡ bytes_in ss + length t
bytes_more [] name t = omega arith
bytes_more (s ∷ ss) name t = let r = bytes_more ss name t in omega (arith, r)

visited_more : (ss : List Source) (name t : List ℕ) → 1 ≤ length ss → bytes_in (visited (with_source ss name t)) ≡ bytes_in (visited ss) + length t
visited_more [] name t h = absurd (omega (arith, h))
visited_more (s ∷ ss) name t h = bytes_more ss name t

record IsFew (g : Gathered) : Type 0 where
  pub some : 1 ≤ length g.sources
  pub bytes : bytes_visited g ≤ TEXT_LIMIT
  pub names : length g.names ≤ TEXT_LIMIT + bytes_visited g

abbrev Few : Phase EarlyEnd Gathered → Type 0
Few (accepts h) = IsFew h
Few (refuses e) = Unit {0}

begun_few : (g : Gathered) (name t : List ℕ) (r : Read) → bytes_visited g + length t ≤ TEXT_LIMIT → length r.names ≤ length g.names + length t → IsFew g → IsFew (begun g name t r)
begun_few g name t r fits few s =
    let more = visited_more g.sources name t s.some in
    let a = s.some in
    let b = s.names in
    let l = length-append g.sources (record { name = name; text = t } ∷ []) in
    record { some = omega (arith, a, l); bytes = omega (arith, more, fits); names = omega (arith, more, few, b) }

-- the end of a visit adds no name and no text
visit_done : (name : List ℕ) (ds : Decs) (g : Gathered) → IsFew g → IsFew (finished name ds g)
visit_done name ds g s = record { some = s.some; bytes = s.bytes; names = s.names }

at_once_few : (g : Gathered) (x : Import) (a : Phase EarlyEnd Gathered) → settled g x ≡ Some a → IsFew g → Few a
at_once_few g x (accepts h) e s = subst IsFew (subst (AtImport g x) e (settled_at_import g x)) s
at_once_few g x (refuses e') e s = tt

module _ (G : List ℕ → Fetch → Type 0) where
  mutual
    visits_few : {g : Gathered} {name t : List ℕ} {a : Phase EarlyEnd Gathered} → Visits G g name t a → IsFew g → Few a
    visits_few (too_long l) s = tt
    visits_few (unread l r) s = tt
    visits_few (cut_off l r f) s = tt
    visits_few {g = g} {name = name} {t = t} (whole {h = h} {r = r} l reads f) s = visit_done name r.program.decs h (along_few f (begun_few g name t r l (reads_few g.names (length g.sources) t r reads) s))

    along_few : {g : Gathered} {xs : List Import} {a : Phase EarlyEnd Gathered} → Along G g xs a → IsFew g → Few a
    along_few none s = s
    along_few (next l f) s = along_few f (leads_few l s)
    along_few (stop l) s = tt

    leads_few : {g : Gathered} {x : Import} {a : Phase EarlyEnd Gathered} → Leads G g x a → IsFew g → Few a
    leads_few {g = g} {x = x} {a = a} (at_once e) s = at_once_few g x a e s
    leads_few (absent e m) s = tt
    leads_few (unfetched e m) s = tt
    leads_few (visit e m v) s = visits_few v s

  -- what is there once the prelude is read
  opened_few : (t : List ℕ) (names : List (List ℕ)) → length names ≤ TEXT_LIMIT → (g : Gathered) → g.sources ≡ first_source t → g.names ≡ names → IsFew g
  opened_few t names few g sources same =
      let a : length g.sources ≡ 1 = ap (λ (ss : List Source). length ss) sources in
      let b : bytes_visited g ≡ 0 = ap (λ ss. bytes_in (visited ss)) sources in
      let c : length g.names ≡ length names = ap (λ (ns : List (List ℕ)). length ns) same in
      record { some = omega (arith, a); bytes = omega (arith, b); names = omega (arith, b, c, few) }

  gathers_few : (prelude : Option (List ℕ)) (file t : List ℕ) (a : Phase EarlyEnd Gathered) → IfSome prelude (λ p. length p ≤ TEXT_LIMIT) → Gathers G prelude file t a → Few a
  gathers_few None file t a few (bare v) = visits_few v (opened_few [] [] (omega arith) _ refl refl)
  gathers_few (Some p) file t a few (unread_prelude r) = tt
  gathers_few (Some p) file t a few (behind_prelude {r = r} reads v) =
      let n = reads_few [] 0 p r reads in visits_few v (opened_few p r.names (omega (arith, n, few)) _ refl refl)

  reaches_few : (prelude : Option (List ℕ)) (file : List ℕ) (g : Gathered) → IfSome prelude (λ p. length p ≤ TEXT_LIMIT) → Reaches G prelude file (Gathering (accepts g)) → IsFew g
  reaches_few prelude file g few (there {t = t} m f) = gathers_few prelude file t (accepts g) few f

lent_short : (prelude : Option (Bor (List ℕ))) → IfSome prelude (λ bytes. length bytes.now ≤ TEXT_LIMIT) → IfSome (lent prelude) (λ p. length p ≤ TEXT_LIMIT)
lent_short None few = tt
lent_short (Some bytes) few = few

-- the names of an accepted file
pub front_few : (held : Option Texts) (prelude : Option (Bor (List ℕ))) (file : List ℕ) (a : Accepted) → IfSome prelude (λ bytes. length bytes.now ≤ TEXT_LIMIT)
    → IsFront (MayGive held) (lent prelude) file (Some (accepts a)) → length a.front.names ≤ TEXT_LIMIT + TEXT_LIMIT
front_few held prelude file a short front =
    let g = gathered held (lent prelude) file a front in
    let few = reaches_few (MayGive held) (lent prelude) file g.0 (lent_short prelude short) g.1.reaches in
    let same : length g.0.names ≡ length a.front.names = ap (λ f. length f.names) g.1.judged_as.is in
    let bytes = few.bytes in
    let names = few.names in
    omega (arith, same, bytes, names)
