-- From the name of a file to what it reaches: how the answers of the calls make up that of the definition.
use Rattle.std.proofs.Common.{◌≡◌, ℕ, List, [], length, Option, Some, None, refl, sym, ap, subst, ◌∙◌, arith, IfSome, Err}
use Rattle.std.specs.Prelude.{unwrap_or}
use Rattle.pict_syntax.specs.declared.limits.TheConstants.{TEXT_LIMIT}
use Rattle.pict_syntax.specs.declared.code.Code.TheVariants.{B1}
use Rattle.pict_syntax.specs.declared.source.Source.{Source}
use Rattle.pict_syntax.specs.declared.source.Sources.{Sources}
use Rattle.pict_syntax.specs.declared.span.Span.{Span}
use Rattle.pict_syntax.specs.PlainTrees.{decs_on}
use Rattle.pict_syntax.specs.Trees.{no_decs}
use Rattle.pict_outside.specs.Texts.{Texts}
use Rattle.pict_gather.specs.declared.entry.Asked.{Asked}
use Rattle.pict_gather.specs.declared.entry.Asked.TheVariants as asked
use Rattle.pict_gather.specs.declared.gathering.Gathering.{Gathering}
use Rattle.pict_gather.specs.declared.error.ReadError.{ReadError}
use Rattle.pict_gather.specs.declared.error.ReadError.TheVariants as read
use Rattle.pict_gather.specs.declared.error.VisitError.{VisitError}
use Rattle.pict_gather.specs.declared.error.VisitError.TheVariants as visit
use Rattle.pict_gather.specs.declared.error.GatherError.{GatherError}
use Rattle.pict_gather.specs.declared.error.GatherError.TheVariants.{Named, Missing, Failed, Memory}
use Rattle.pict_gather.specs.Phases.{Phase, accepts, refuses}
use Rattle.pict_gather.specs.Sources.{bytes_in, visited}
use Rattle.pict_gather.specs.Fetching.{Fetch, text, MayGive, MayGiveOrFail}
use Rattle.pict_gather.specs.Gathered.{Gathered, EarlyEnd, refused, failed, with_source, next_place, Visits, too_long}
use Rattle.pict_gather.specs.Reached.{Gathering as gathering, Reaches, not_there, unfetched_file, there, Gathers, bare, unread_prelude, behind_prelude, opened, first_source}
use Rattle.pict_gather.specs.Answers.{of_read_error, of_visit_error}
use Rattle.pict_gather.specs.Kept.{gathered_in, IsKept, said_error, gives_error}
use Rattle.pict_gather.specs.Found.{IsTooLong}
use Rattle.pict_gather.specs.Entry.{reached, gives_entry, IsAsked, IsUnasked, IsReadFirst, IsOpened, IsUnopened}
use Rattle.pict_gather.proofs.Visiting.{same_parts}

-- the texts when nothing was visited
abbrev pub first_texts : Option (List ℕ) → List Source
first_texts prelude = first_source (unwrap_or prelude [])

-- ---- nothing is visited yet

pub opened_kept : (prelude : Option (List ℕ)) (s : Sources) (g : Gathering) → s.list.items ≡ first_texts prelude → IsOpened prelude g → IsKept s g
opened_kept prelude s g first o =
    let one : length s.list.items ≡ 1 = ap length first in
    let bytes : bytes_in (visited s.list.items) ≡ 0 = ap (λ l. bytes_in (visited l)) first in
    let few = o.few in let left = o.left in
    record { some = omega (arith, one); few = omega (arith, one); left = omega (arith, left, bytes); names = omega (arith, few) }

module _ (held : Option Texts) (prelude : Option (List ℕ)) (file : List ℕ) where
  -- the file is visited behind the prelude
  gathers : (G : List ℕ → Fetch → Type 0) (p : Option (List ℕ)) (s : Sources) (g : Gathering) (t : List ℕ) (a : Phase EarlyEnd Gathered) → s.list.items ≡ first_texts p → g.ended.items ≡ []
      → IsReadFirst p g.names (decs_on no_decs g.decs.items) → Visits G (gathered_in s g) file t a → Gathers G p file t a
  gathers G None s g t a first ended r v =
      let same : gathered_in s g ≡ opened [] [] no_decs = same_parts first ended r.0 r.1 in
      bare (subst (λ x. Visits G x file t a) same v)
  gathers G (Some p) s g t a first ended r v =
      let same : gathered_in s g ≡ opened p g.names (decs_on no_decs g.decs.items) = same_parts first ended refl refl in
      behind_prelude r.1 (subst (λ x. Visits G x file t a) same v)

  reaches : (G : List ℕ → Fetch → Type 0) (s : Sources) (g : Gathering) (t : List ℕ) (a : Phase EarlyEnd Gathered) → s.list.items ≡ first_texts prelude → IsOpened prelude g → G file (text t)
      → Visits G (gathered_in s g) file t a → Reaches G prelude file (gathering a)
  reaches G s g t a first o gives v = there gives (gathers G prelude s g t a first o.ended o.first v)

  -- ---- the shelf gave no text

  pub unasked : (name : List ℕ) (old new : Sources) (e : GatherError) → name ≡ file → old.list.items ≡ first_texts prelude → IsUnasked held file name old.list.items new.list.items e
      → IfSome (reached (Err e) new) (Reaches (gives_entry (Err e) held) prelude file)
  unasked name old new (Named code span) is first u = absurd u
  unasked name old new Missing is first u = not_there u
  unasked name old new Failed is first u =
      subst (λ l. Reaches (MayGiveOrFail held) prelude file (gathering (refuses (failed l)))) (sym (u ∙ ap (λ n. with_source old.list.items n []) is ∙ ap (λ l. with_source l file []) first)) (unfetched_file tt)
  unasked name old new Memory is first u = tt

  -- ---- the prelude is refused

  some_text : (a : Asked) → IsAsked held file a → (t : List ℕ) × MayGive held file (text t)
  some_text (asked.Text t) h = (t.items, h.1)
  some_text asked.TooLong h = (h.bytes, h.gives)

  prelude_refused : (p : Option (List ℕ)) (a : Asked) (s : Sources) (e : ReadError) → IsAsked held file a → s.list.items ≡ first_texts p → IsUnopened p e
      → IfSome (reached (Err (of_visit_error (of_read_error e))) s) (Reaches (gives_entry (Err (of_visit_error (of_read_error e))) held) p file)
  prelude_refused None a s (read.Named code span) h first u = absurd u
  prelude_refused (Some p) a s (read.Named code span) h first u =
      subst (λ l. Reaches (MayGive held) (Some p) file (gathering (refuses (refused l code span)))) (sym first) (there (some_text a h).1 (unread_prelude u))
  prelude_refused None a s read.Memory h first u = tt
  prelude_refused (Some p) a s read.Memory h first u = tt

  pub unopened : (a : Asked) (s : Sources) (e : ReadError) → IsAsked held file a → s.list.items ≡ first_texts prelude → IsUnopened prelude e
      → IfSome (reached (Err (of_visit_error (of_read_error e))) s) (Reaches (gives_entry (Err (of_visit_error (of_read_error e))) held) prelude file)
  unopened = prelude_refused prelude

  -- ---- the file is too long

  pub file_too_long : (s r : Sources) (g : Gathering) (name : List ℕ) → s.list.items ≡ first_texts prelude → IsOpened prelude g → name ≡ file → IsTooLong held file TEXT_LIMIT
      → r.list.items ≡ with_source s.list.items name [] → Reaches (MayGive held) prelude file (gathering (refuses (refused r.list.items B1 (record { text = 1; start = 0; end = 0 }))))
  file_too_long s r g name first o is long more =
      let place : Span = record { text = 1; start = 0; end = 0 } in
      let v : Visits (MayGive held) (gathered_in s g) file long.bytes (refuses (refused (with_source s.list.items file []) B1 (next_place (gathered_in s g)))) = too_long (let m = long.long in omega (arith, m)) in
      let at : next_place (gathered_in s g) ≡ place = ap (λ l. record { text = length l; start = 0; end = 0 }) first in
      subst (λ l. Reaches (MayGive held) prelude file (gathering (refuses (refused l B1 place)))) (sym (more ∙ ap (λ n. with_source s.list.items n []) is))
      (reaches (MayGive held) s g long.bytes (refuses (refused (with_source s.list.items file []) B1 place)) first o long.gives
      (subst (λ i. Visits (MayGive held) (gathered_in s g) file long.bytes (refuses (refused (with_source s.list.items file []) B1 i))) at v))

  -- ---- the file is visited

  module _ (told_held : Option Texts) (s : Sources) (g : Gathering) (name t : List ℕ) (same : told_held ≡ held) (is : name ≡ file) (first : s.list.items ≡ first_texts prelude) (o : IsOpened prelude g) (gives : MayGive held file (text t)) where
    visited_as : (Gives : Option Texts → List ℕ → Fetch → Type 0) (a : Phase EarlyEnd Gathered) → Gives held file (text t) → Visits (Gives told_held) (gathered_in s g) name t a → Reaches (Gives held) prelude file (gathering a)
    visited_as Gives a may v =
        reaches (Gives held) s g t a first o may
        (subst (λ n. Visits (Gives held) (gathered_in s g) n t a) is (subst (λ h. Visits (Gives h) (gathered_in s g) name t a) same v))

    pub file_visited : (r : Sources) (h : Gathering) → Visits (MayGive told_held) (gathered_in s g) name t (accepts (gathered_in r h)) → Reaches (MayGive held) prelude file (gathering (accepts (gathered_in r h)))
    file_visited r h v = visited_as MayGive (accepts (gathered_in r h)) gives v

    pub file_stopped : (r : Sources) (e : VisitError) → IfSome (said_error e r) (Visits (gives_error e told_held) (gathered_in s g) name t)
        → IfSome (reached (Err (of_visit_error e)) r) (Reaches (gives_entry (Err (of_visit_error e)) held) prelude file)
    file_stopped r (visit.Named code span) v = visited_as MayGive (refuses (refused r.list.items code span)) gives v
    file_stopped r visit.Failed v = visited_as MayGiveOrFail (refuses (failed r.list.items)) gives v
    file_stopped r visit.Memory v = tt
