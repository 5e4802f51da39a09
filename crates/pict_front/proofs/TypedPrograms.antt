-- An accepted file is a typed program without scope stop, and its core process is the program's translation.
use Rattle.std.proofs.Common.{◌≡◌, ℕ, ◌≤◌, List, Option, Some, None, refl, sym, ap, subst, inl, inr}
use Rattle.pict_syntax.specs.Trees.{Decs}
use Rattle.pict_syntax.specs.declared.limits.TheConstants.{DEPTH_LIMIT}
use Rattle.pict_scope.specs.Scopes.{scope_stop}
use Rattle.pict_rules.specs.Derivations.{IsTyped}
use Rattle.pict_core.specs.Term.{depth_of}
use Rattle.pict_translation.specs.Translation.{program_core}
use Rattle.pict_syntax.specs.declared.source.Source.{Source}
use Rattle.pict_syntax.specs.Stops.{Stop}
use Rattle.pict_outside.specs.Texts.{Texts}
use Rattle.pict_gather.specs.Phases.{Phase, accepts, refuses, Then}
use Rattle.pict_gather.specs.Fetching.{MayGive}
use Rattle.pict_gather.specs.Gathered.{Gathered, EarlyEnd}
use Rattle.pict_gather.specs.Reached.{Gathering, Reaches}
use Rattle.pict_gather.proofs.OneAfterAnother.{accepted_then}
use Rattle.pict_front.specs.Front.{Front, Accepted, Checks, Translates, Judges, stopped_by, with_texts, JudgesTexts, IsFront}
use Rattle.pict_front.specs.Laws.{IsAccepted, AcceptedIsTyped}

no_stop : (stop : Option Stop) (x : Unit {0}) → accepts x ≡ stopped_by stop → stop ≡ None
no_stop None x e = refl
no_stop (Some s) x e = absurd cc

abbrev made : List (List ℕ) → Decs → Front
made names p = record { names = names; core = program_core names p }

-- a program that the phases behind the grammar accept, and what they make of it
pub record IsJudged (names : List (List ℕ)) (p : Decs) (f : Front) : Type 0 where
  pub scoped : scope_stop names p ≡ None
  pub typed : IsTyped names p
  pub shallow : depth_of (program_core names p) ≤ DEPTH_LIMIT
  pub is : made names p ≡ f

pub judged : (names : List (List ℕ)) (p : Decs) (f : Front) → Judges names p (accepts f) → IsJudged names p f
judged names p f judges =
    let scoped = accepted_then (λ said. said ≡ stopped_by (scope_stop names p)) (λ scoped. Then (Checks names p) (λ typed. Translates names p)) f judges in
    let checked = accepted_then (Checks names p) (λ typed. Translates names p) f scoped.2 in
    elim checked.2 [
      | inl (deep, e) ↦ absurd cc
      | inr (fits, e) ↦
          let said : Front → Phase Stop Front = λ g. accepts g in
          let same : said f ≡ said (made names p) = e in
          let is : made names p ≡ f = cc in
          record { scoped = no_stop (scope_stop names p) scoped.0 scoped.1; typed = checked.1.1; shallow = fits; is = is }
    ]

accepted : (names : List (List ℕ)) (p : Decs) (f : Front) → IsJudged names p f → IsAccepted f
accepted names p f j = subst IsAccepted j.is (record { program = p; scoped = j.scoped; typed = j.typed; core = refl; shallow = j.shallow })

-- what was gathered, for an accepted file, and that the phases behind the grammar accept it
pub record IsGathered (held : Option Texts) (prelude : Option (List ℕ)) (file : List ℕ) (a : Accepted) (g : Gathered) : Type 0 where
  pub reaches : Reaches (MayGive held) prelude file (Gathering (accepts g))
  pub judged_as : IsJudged g.names g.decs a.front

abbrev accepts_it : Accepted → Phase EarlyEnd Accepted
accepts_it a = accepts a

of_front : (sources : List Source) (said : Phase Stop Front) (a : Accepted) → accepts_it a ≡ with_texts sources said → said ≡ accepts a.front
of_front sources (accepts f) a e = let same : a ≡ record { sources = sources; front = f } = cc in ap (λ (x : Accepted). accepts x.front) (sym same)
of_front sources (refuses (code, span)) a e = absurd cc

pub gathered : (held : Option Texts) (prelude : Option (List ℕ)) (file : List ℕ) (a : Accepted) → IsFront (MayGive held) prelude file (Some (accepts a)) → (g : Gathered) × IsGathered held prelude file a g
gathered held prelude file a front =
    let read = accepted_then (λ said. Reaches (MayGive held) prelude file (Gathering said)) JudgesTexts a front in
    let said : Phase Stop Front = read.2.0 in
    let same : said ≡ accepts a.front = of_front read.0.sources said a read.2.2 in
    (read.0, record { reaches = read.1; judged_as = judged read.0.names read.0.decs a.front (subst (Judges read.0.names read.0.decs) same read.2.1) })

pub accepted_is_typed : AcceptedIsTyped
accepted_is_typed held prelude file a front = let g = gathered held prelude file a front in accepted g.0.names g.0.decs a.front g.1.judged_as
