-- Over a shelf that tells its texts a file comes to exactly one thing.
use Rattle.std.proofs.Common.{◌≡◌, ℕ, List, [], Option, Some, None, refl, sym, ap, subst, ◌∙◌}
use Rattle.pict_syntax.specs.Trees.{no_decs}
use Rattle.pict_syntax.specs.Stops.{Stop}
use Rattle.pict_outside.specs.Texts.{Texts, text_of}
use Rattle.pict_gather.specs.Phases.{Phase, accepts, refuses}
use Rattle.pict_gather.specs.Reading.{Read, Reads}
use Rattle.pict_gather.specs.Fetching.{Fetch, MayGive}
use Rattle.pict_gather.specs.Gathered.{Gathered, EarlyEnd, refused, Visits}
use Rattle.pict_gather.specs.Reached.{Reached, Absent, Gathering, Reaches, not_there, unfetched_file, there, Gathers, bare, unread_prelude, behind_prelude, opened, first_source}
use Rattle.pict_gather.specs.Laws.{OneReached}
use Rattle.pict_gather.proofs.OneReading.{one_reading}
use Rattle.pict_gather.proofs.OneVisit.{one_visit, read_once, same_read, same_stop}

module _ (texts : Texts) where
  abbrev G : List ℕ → Fetch → Type 0
  G = MayGive (Some texts)

  gathers_once : (prelude : Option (List ℕ)) (file t : List ℕ) (a b : Phase EarlyEnd Gathered) → Gathers G prelude file t a → Gathers G prelude file t b → a ≡ b
  gathers_once None file t a b (bare v) (bare w) = let o = one_visit texts (opened [] [] no_decs) file t in o.2 a v ∙ sym (o.2 b w)
  gathers_once (Some p) file t a b (unread_prelude r) (unread_prelude s) =
      ap (λ (z : Stop). refuses (refused (first_source p) z.0 z.1)) (same_stop (read_once [] 0 p _ _ r s))
  gathers_once (Some p) file t a b (unread_prelude r) (behind_prelude s v) = let e = read_once [] 0 p _ _ r s in absurd cc
  gathers_once (Some p) file t a b (behind_prelude r v) (unread_prelude s) = let e = read_once [] 0 p _ _ r s in absurd cc
  gathers_once (Some p) file t a b (behind_prelude {r = x} r v) (behind_prelude {r = y} s w) =
      let e : x ≡ y = same_read (read_once [] 0 p _ _ r s) in
      let o = one_visit texts (opened p x.names x.program.decs) file t in
      o.2 a v ∙ sym (o.2 b (subst (λ (z : Read). Visits G (opened p z.names z.program.decs) file t b) (sym e) w))

  some_gathering : (prelude : Option (List ℕ)) (file t : List ℕ) → (a : Phase EarlyEnd Gathered) × Gathers G prelude file t a
  some_gathering None file t = let o = one_visit texts (opened [] [] no_decs) file t in (o.0, bare o.1)
  some_gathering (Some p) file t = by (one_reading [] 0 p).0 (one_reading [] 0 p).1
    where
      by : (said : Phase Stop Read) → Reads [] 0 p said → (a : Phase EarlyEnd Gathered) × Gathers G (Some p) file t a
      by (refuses (code, span)) is = (_, unread_prelude is)
      by (accepts r) is = let o = one_visit texts (opened p r.names r.program.decs) file t in (o.0, behind_prelude is o.1)

  same : (t u : List ℕ) (file : List ℕ) → text_of texts file ≡ Some t → text_of texts file ≡ Some u → t ≡ u
  same t u file e f = cc

  reaches_once : (prelude : Option (List ℕ)) (file : List ℕ) (a b : Reached) → Reaches G prelude file a → Reaches G prelude file b → a ≡ b
  reaches_once prelude file a b (not_there m) (not_there n) = refl
  reaches_once prelude file a b (not_there m) (unfetched_file n) = absurd n
  reaches_once prelude file a b (not_there m) (there n h) = absurd cc
  reaches_once prelude file a b (unfetched_file m) r = absurd m
  reaches_once prelude file a b (there m h) (not_there n) = absurd cc
  reaches_once prelude file a b (there m h) (unfetched_file n) = absurd n
  reaches_once prelude file a b (there {t = t} m h) (there {t = u} {a = k} n i) =
      ap Gathering (gathers_once prelude file t _ _ h (subst (λ x. Gathers G prelude file x k) (sym (same t u file m n)) i))

  some_reached : (prelude : Option (List ℕ)) (file : List ℕ) (f : Option (List ℕ)) → text_of texts file ≡ f → (a : Reached) × Reaches G prelude file a
  some_reached prelude file None e = (Absent, not_there e)
  some_reached prelude file (Some t) e = let s = some_gathering prelude file t in (Gathering s.0, there e s.1)

pub one_reached : OneReached
one_reached texts prelude file =
    let s = some_reached texts prelude file (text_of texts file) refl in
    (s.0, s.1, λ b is. reaches_once texts prelude file b s.0 is s.1)
