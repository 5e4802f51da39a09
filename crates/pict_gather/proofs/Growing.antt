-- Gathering adds texts, and takes none away; and where an import is settled at once nothing changes.
use Rattle.std.proofs.lemmas.Bool.{leb-false}
use Rattle.std.proofs.Common.{if◌then◌else◌, ◌≡◌, ℕ, ◌+◌, ◌<◌, ◌≤◌, Bool, true, false, not, nat_le, List, [], ◌∷◌, length, Option, Some, None, refl, ap, subst, arith, length-append}
use Rattle.pict_syntax.specs.declared.limits.TheConstants.{SOURCE_LIMIT}
use Rattle.pict_syntax.specs.declared.code.Code.TheVariants.{I2, I3, I4}
use Rattle.pict_syntax.specs.declared.source.Source.{Source}
use Rattle.pict_syntax.specs.declared.tree.Import.{Import}
use Rattle.pict_gather.specs.Phases.{Phase, accepts, refuses}
use Rattle.pict_gather.specs.Sources.{visited, is_name_of, is_among}
use Rattle.pict_gather.specs.Fetching.{Fetch}
use Rattle.pict_gather.specs.Gathered.{Gathered, EarlyEnd, refused, is_import_name, with_source, settled, Visits, too_long, unread, cut_off, whole, Along, none, next, stop, Leads, at_once, absent, unfetched, visit}

-- ---- what is settled at once

-- the four tests of an import, each with what comes of it
abbrev by_tests : (bad over being full : Bool) → (i j k : EarlyEnd) → Gathered → Option (Phase EarlyEnd Gathered)
by_tests bad over being full i j k g = if bad then Some (refuses i) else if over then Some (accepts g) else if being then Some (refuses j) else if full then Some (refuses k) else None

module _ (g : Gathered) (x : Import) where
  abbrev Tested : (Option (Phase EarlyEnd Gathered) → Type 0) → Type 0
  Tested P = (bad over being full : Bool) → P (by_tests bad over being full (refused g.sources I4 x.span) (refused g.sources I2 x.span) (refused g.sources I3 x.span) g)

  -- what holds of each outcome of the tests holds of what is settled
  by_outcome : (P : Option (Phase EarlyEnd Gathered) → Type 0) → Tested P → P (settled g x)
  by_outcome P each = each (not (is_import_name x.name)) (is_among x.name g.ended) (is_name_of x.name (visited g.sources)) (nat_le SOURCE_LIMIT (length (visited g.sources)))

  -- an import that is passed over changes nothing; a refusal has the texts as they are, and stands at the import
  abbrev pub AtImport : Option (Phase EarlyEnd Gathered) → Type 0
  AtImport (Some (accepts h)) = g ≡ h
  AtImport (Some (refuses (refused sources code span))) = (g.sources ≡ sources) × (x.span ≡ span)
  AtImport _ = Unit {0}

  at_import : Tested AtImport
  at_import true over being full = (refl, refl)
  at_import false true being full = refl
  at_import false false true full = (refl, refl)
  at_import false false false true = (refl, refl)
  at_import false false false false = tt

  pub settled_at_import : AtImport (settled g x)
  settled_at_import = by_outcome AtImport at_import

  -- where nothing is settled there are fewer texts than there may be
  by_few : (bad over being full : Bool) → (i j k : EarlyEnd) → by_tests bad over being full i j k g ≡ None → full ≡ false
  by_few true over being full i j k e = absurd cc
  by_few false true being full i j k e = absurd cc
  by_few false false true full i j k e = absurd cc
  by_few false false false true i j k e = absurd cc
  by_few false false false false i j k e = refl

  pub few : settled g x ≡ None → length (visited g.sources) < 64
  few e = leb-false 64 (length (visited g.sources)) (by_few (not (is_import_name x.name)) (is_among x.name g.ended) (is_name_of x.name (visited g.sources)) (nat_le SOURCE_LIMIT (length (visited g.sources))) (refused g.sources I4 x.span) (refused g.sources I2 x.span) (refused g.sources I3 x.span) e)

-- ---- the number of texts

-- no fewer texts than before
abbrev pub Grown : Gathered → Phase EarlyEnd Gathered → Type 0
Grown g (accepts h) = length g.sources ≤ length h.sources
Grown g (refuses e) = Unit {0}

pub one_more : (sources : List Source) (name t : List ℕ) → length (with_source sources name t) ≡ length sources + 1
one_more sources name t = length-append sources (record { name = name; text = t } ∷ [])

mutual
  pub visits_grow : {G : List ℕ → Fetch → Type 0} {g : Gathered} {name t : List ℕ} {a : Phase EarlyEnd Gathered} → Visits G g name t a → Grown g a
  visits_grow (too_long l) = tt
  visits_grow (unread l r) = tt
  visits_grow (cut_off l r f) = tt
  visits_grow {g = g} {name = name} {t = t} (whole l r f) = let m = along_grows f in let n = one_more g.sources name t in omega (arith, m, n)

  pub along_grows : {G : List ℕ → Fetch → Type 0} {g : Gathered} {xs : List Import} {a : Phase EarlyEnd Gathered} → Along G g xs a → Grown g a
  along_grows none = omega arith
  along_grows {a = accepts k} (next l f) = let m = leads_grow l in let n = along_grows f in omega (arith, m, n)
  along_grows {a = refuses e} (next l f) = tt
  along_grows (stop l) = tt

  pub leads_grow : {G : List ℕ → Fetch → Type 0} {g : Gathered} {x : Import} {a : Phase EarlyEnd Gathered} → Leads G g x a → Grown g a
  leads_grow {g = g} {x = x} {a = accepts h} (at_once e) = let same : g ≡ h = subst (AtImport g x) e (settled_at_import g x) in let m = ap (λ k. length k.sources) same in omega (arith, m)
  leads_grow {a = refuses e} (at_once s) = tt
  leads_grow (absent e m) = tt
  leads_grow (unfetched e m) = tt
  leads_grow (visit e m v) = visits_grow v
