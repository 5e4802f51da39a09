-- What is told over a shelf in memory, and what is copied of it.
use Rattle.std.proofs.Common.{◌≡◌, ◌<◌, ℕ, Bool, List, [], ◌++◌, length, take, drop, take-append-drop, Option, Some, None, IfSome, Result, Ok, Err, sym, refl, subst, ap, ◌∙◌, arith}
use Rattle.std.proofs.lemmas.List.{length-take-le}
use Rattle.std.specs.Prelude.{Vec}
use Rattle.std.specs.declared.alloc.Global.{Global}
use Rattle.pict_syntax.specs.declared.source.Sources.{Sources}
use Rattle.pict_outside.specs.Counts.{Rose}
use Rattle.pict_outside.specs.Texts.{Texts, texts_of}
use Rattle.pict_gather.specs.Fetching.{MayGive}
use Rattle.pict_gather.specs.Gathered.{EarlyEnd, refused}
use Rattle.pict_gather.specs.Phases.{Phase, accepts, refuses}
use Rattle.pict_front.specs.declared.accepted.Front.{Front}
use Rattle.pict_front.specs.declared.refusal.FrontError.{FrontError}
use Rattle.pict_front.specs.declared.refusal.FrontError.TheVariants as error
use Rattle.pict_front.specs.Answers.{fronted, gives_front}
use Rattle.pict_front.specs.Front.{Accepted, IsFront}
use Rattle.pict_telling.specs.Behind.{prelude_for}
use Rattle.pict_top.specs.Numbers.{number_of}
use Rattle.pict_top.specs.declared.status.Status.{Status}
use Rattle.pict_top.specs.declared.status.Status.TheVariants as status
use Rattle.pict_web.specs.Asked.{file}
use Rattle.pict_web.specs.Told.{Telling, status_for, Tells, IsNotAccepted, IsRefused, IsCut, Says, SaysNothing, SaysOf, IsTold, Answers, IsCopied}
use Rattle.pict_web.specs.Reasoned.{anything, IsAbout}
use Rattle.pict_web.proofs.Filling.{never_fails}

-- what the phases say, over the texts and behind the prelude that they were called with
pub fronted_for : (bare : Bool) (held pairs : List (List ℕ × List ℕ)) (prelude : Option (List ℕ)) (answer : Option (Phase EarlyEnd Accepted))
    → held ≡ pairs → prelude ≡ prelude_for bare
    → IsFront (MayGive (Some (texts_of held))) prelude file answer → IsFront (MayGive (Some (texts_of pairs))) (prelude_for bare) file answer
fronted_for bare held pairs prelude answer e f h =
    subst (λ p. IsFront (MayGive (Some (texts_of pairs))) p file answer) f (subst (λ ps. IsFront (MayGive (Some (texts_of ps))) prelude file answer) e h)

pub is_refused : (bare : Bool) (held pairs : List (List ℕ × List ℕ)) (prelude : Option (List ℕ)) (answer : Option (Phase EarlyEnd Accepted))
    → held ≡ pairs → prelude ≡ prelude_for bare → IsNotAccepted answer
    → IsFront (MayGive (Some (texts_of held))) prelude file answer → IsRefused bare (texts_of pairs)
is_refused bare held pairs prelude answer e f not h = record {
  answer = answer;
  fronted = fronted_for bare held pairs prelude answer e f h;
  is = not;
}

pub tells : (Of : Telling) (bare : Bool) (held pairs : List (List ℕ × List ℕ)) (prelude : Option (List ℕ)) (a : Accepted) (told : List ℕ)
    → held ≡ pairs → prelude ≡ prelude_for bare
    → IsFront (MayGive (Some (texts_of held))) prelude file (Some (accepts a))
    → Of a told → Tells Of bare (texts_of pairs) told
tells Of bare held pairs prelude a told e f h of = record {
  accepted = a;
  fronted = fronted_for bare held pairs prelude (Some (accepts a)) e f h;
  of = of;
}

-- what the front answers for this reason
abbrev ended : FrontError → Result Front FrontError
ended e = Err e

-- the status of a file that isn't accepted says so
pub refused_says : (bare : Bool) (held pairs : List (List ℕ × List ℕ)) (prelude : Option (List ℕ)) (e : FrontError) (sources : Sources)
    → held ≡ pairs → prelude ≡ prelude_for bare
    → IfSome (fronted (Err e) sources) (IsFront (gives_front (Err e) (Some (texts_of held))) prelude file)
    → (ended e ≡ ended error.Failed → Rose 0 0) → SaysNothing bare (texts_of pairs) (status_for e)
refused_says bare held pairs prelude (error.Named code span) sources e f h fails =
    is_refused bare held pairs prelude (Some (refuses (refused sources.list.items code span))) e f tt h
refused_says bare held pairs prelude error.Missing sources e f h fails = is_refused bare held pairs prelude None e f tt h
refused_says bare held pairs prelude error.Failed sources e f h fails = absurd (never_fails (fails refl))
refused_says bare held pairs prelude error.Memory sources e f h fails = tt

pub about_refused : (bare : Bool) (texts : Texts) (e : FrontError) → SaysNothing bare texts (status_for e) → IsAbout bare texts (status_for e)
about_refused bare texts (error.Named code span) h = h
about_refused bare texts error.Missing h = h
about_refused bare texts error.Failed h = h
about_refused bare texts error.Memory h = h

-- the answer on an accepted file
pub accepted_says : (Of : Telling) (bare : Bool) (held pairs : List (List ℕ × List ℕ)) (prelude : Option (List ℕ)) (a : Accepted) (result : Result (Vec ℕ Global) Status)
    → held ≡ pairs → prelude ≡ prelude_for bare
    → IsFront (MayGive (Some (texts_of held))) prelude file (Some (accepts a))
    → Answers Of a result → SaysOf Of bare (texts_of pairs) result
accepted_says Of bare held pairs prelude a (Ok told) e f h of = tells Of bare held pairs prelude a told.items e f h of
accepted_says Of bare held pairs prelude a (Err s) e f h memory = subst (SaysNothing bare (texts_of pairs)) (sym memory) tt

-- bytes that are copied
pub says_copied : (Of : Telling) (bare : Bool) (texts : Texts) (all : List ℕ) (room : ℕ) (told : List ℕ) (s : Status) → Tells Of bare texts all
    → IsCopied all room s told → Says Of bare texts room s told
says_copied Of bare texts all room told status.Done h e = subst (Tells Of bare texts) (sym e) h
says_copied Of bare texts all room told status.WriteFault h cut = record { all = all; whole = h; cut = cut }
says_copied Of bare texts all room told status.Refused h e = absurd e
says_copied Of bare texts all room told status.Usage h e = absurd e
says_copied Of bare texts all room told status.FuelSpent h e = absurd e
says_copied Of bare texts all room told status.Trap h e = absurd e
says_copied Of bare texts all room told status.ReadFault h e = absurd e
says_copied Of bare texts all room told status.Memory h e = absurd e
says_copied Of bare texts all room told status.Missing h e = absurd e
says_copied Of bare texts all room told status.Misshapen h e = absurd e
says_copied Of bare texts all room told status.Rejected h e = absurd e

-- nothing is told, and of the buffer nothing counts
pub says_nothing : (Of : Telling) (bare : Bool) (texts : Texts) (room : ℕ) (s : Status) → SaysNothing bare texts s → Says Of bare texts room s []
says_nothing Of bare texts room status.Done h = absurd h
says_nothing Of bare texts room status.WriteFault h = absurd h
says_nothing Of bare texts room status.Refused h = (refl, h)
says_nothing Of bare texts room status.Usage h = absurd h
says_nothing Of bare texts room status.FuelSpent h = absurd h
says_nothing Of bare texts room status.Trap h = absurd h
says_nothing Of bare texts room status.ReadFault h = absurd h
says_nothing Of bare texts room status.Memory h = refl
says_nothing Of bare texts room status.Missing h = absurd h
says_nothing Of bare texts room status.Misshapen h = absurd h
says_nothing Of bare texts room status.Rejected h = absurd h

-- so many bytes are a beginning
pub front_cut : (all told : List ℕ) (room : ℕ) → told ≡ take room all → room < length all → IsCut all room told
front_cut all told room e longer = record {
  begins = record { rest = drop room all; joined = ap (λ l. l ++ drop room all) e ∙ take-append-drop room all };
  full = ap length e ∙ length-take-le room all (omega (arith, longer));
  longer = longer;
}

-- the number of the status with which bytes are copied
pub told_in : (Of : Telling) (bare : Bool) (texts : Texts) (all out : List ℕ) (printed : ℕ) (s : Status) (number : ℕ) → number ≡ number_of s
    → Tells Of bare texts all → IsCopied all (length out) s (take printed out) → IsTold Of bare texts number out printed
told_in Of bare texts all out printed s number is h copied = (s, is, says_copied Of bare texts all (length out) (take printed out) s h copied)

-- the number of the status of a call that tells nothing
pub told_none : (Of : Telling) (bare : Bool) (texts : Texts) (out : List ℕ) (s : Status) (number : ℕ) → number ≡ number_of s
    → SaysNothing bare texts s → IsTold Of bare texts number out 0
told_none Of bare texts out s number is h = (s, is, says_nothing Of bare texts (length out) s h)

-- the reasons of an accepted file
pub about_accepted : (bare : Bool) (held pairs : List (List ℕ × List ℕ)) (prelude : Option (List ℕ)) (a : Accepted)
    → held ≡ pairs → prelude ≡ prelude_for bare
    → IsFront (MayGive (Some (texts_of held))) prelude file (Some (accepts a)) → IsAbout bare (texts_of pairs) status.Done
about_accepted bare held pairs prelude a e f h = tells anything bare held pairs prelude a [] e f h tt
