-- Imports that were followed, and those behind them: what the loop over imports keeps.
use Rattle.std.proofs.lemmas.List.{drop_more}
use Rattle.std.proofs.Math.ListN.{drop_of_length-le}
use Rattle.std.proofs.Common.{◌≡◌, ℕ, ◌+◌, ◌<◌, ◌≤◌, List, ◌∷◌, length, drop, get_or, Option, sym, ap, subst, ◌∙◌, IfSome}
use Rattle.pict_syntax.specs.declared.source.Sources.{Sources}
use Rattle.pict_syntax.specs.declared.tree.Import.{Import}
use Rattle.pict_outside.specs.Texts.{Texts}
use Rattle.pict_gather.specs.declared.error.VisitError.{VisitError}
use Rattle.pict_gather.specs.declared.error.VisitError.TheVariants.{Named, Failed, Memory}
use Rattle.pict_gather.specs.Phases.{Phase, accepts, refuses}
use Rattle.pict_gather.specs.Fetching.{Fetch, text, missing, fault, MayGive, MayGiveOrFail}
use Rattle.pict_gather.specs.Gathered.{Gathered, EarlyEnd, refused, failed, Visits, too_long, unread, cut_off, whole, Along, none, next, stop, Leads, at_once, absent, unfetched, visit}
use Rattle.pict_gather.specs.Kept.{said_error, gives_error}

-- ---- a shelf that may give more

abbrev pub Within : (List ℕ → Fetch → Type 0) → (List ℕ → Fetch → Type 0) → Type 0
Within G H = (name : List ℕ) (f : Fetch) → G name f → H name f

module _ (G H : List ℕ → Fetch → Type 0) (within : Within G H) where
  mutual
    pub visits_within : {g : Gathered} {name t : List ℕ} {a : Phase EarlyEnd Gathered} → Visits G g name t a → Visits H g name t a
    visits_within (too_long l) = too_long l
    visits_within (unread l r) = unread l r
    visits_within (cut_off l r f) = cut_off l r (along_within f)
    visits_within (whole l r f) = whole l r (along_within f)

    along_within : {g : Gathered} {xs : List Import} {a : Phase EarlyEnd Gathered} → Along G g xs a → Along H g xs a
    along_within none = none
    along_within (next l f) = next (leads_within l) (along_within f)
    along_within (stop l) = stop (leads_within l)

    pub leads_within : {g : Gathered} {x : Import} {a : Phase EarlyEnd Gathered} → Leads G g x a → Leads H g x a
    leads_within (at_once e) = at_once e
    leads_within {x = x} (absent e m) = absent e (within x.name _ m)
    leads_within {x = x} (unfetched e m) = unfetched e (within x.name _ m)
    leads_within {x = x} (visit e m v) = visit e (within x.name _ m) (visits_within v)

pub may_fail : (held : Option Texts) → Within (MayGive held) (MayGiveOrFail held)
may_fail held name (text t) h = h
may_fail held name missing h = h
may_fail held name fault h = tt

-- ---- the loop

-- what comes of the imports from here on comes of all that the loop began with
pub record Following (held : Option Texts) (start here : Gathered) (xs : List Import) (i : ℕ) : Type 0 where
  pub told : (a : Phase EarlyEnd Gathered) → Along (MayGive held) here (drop i xs) a → Along (MayGive held) start xs a
  pub failing : (a : Phase EarlyEnd Gathered) → Along (MayGiveOrFail held) here (drop i xs) a → Along (MayGiveOrFail held) start xs a

rest_is : (xs : List Import) (i : ℕ) (x : Import) → i < length xs → x ≡ get_or xs i x → drop i xs ≡ x ∷ drop (i + 1) xs
rest_is xs i x h e = drop_more xs i x h ∙ ap (λ y. y ∷ drop (i + 1) xs) (sym e)

pub following_on : (held told_held : Option Texts) (start here there : Gathered) (xs : List Import) (i : ℕ) (x : Import) → told_held ≡ held → i < length xs → x ≡ get_or xs i x
    → Following held start here xs i → Leads (MayGive told_held) here x (accepts there) → Following held start there xs (i + 1)
following_on held told_held start here there xs i x same h e f given =
    let r = rest_is xs i x h e in
    let l : Leads (MayGive held) here x (accepts there) = subst (λ k. Leads (MayGive k) here x (accepts there)) same given in
    record {
      told = λ a m. f.told a (subst (λ ys. Along (MayGive held) here ys a) (sym r) (next l m));
      failing = λ a m. f.failing a (subst (λ ys. Along (MayGiveOrFail held) here ys a) (sym r) (next (leads_within (MayGive held) (MayGiveOrFail held) (may_fail held) l) m));
    }

pub following_ends : (held : Option Texts) (start here : Gathered) (xs : List Import) (i : ℕ) → length xs ≤ i → Following held start here xs i → Along (MayGive held) start xs (accepts here)
following_ends held start here xs i h f = f.told (accepts here) (subst (λ ys. Along (MayGive held) here ys (accepts here)) (sym (drop_of_length-le xs h)) none)

pub following_stops : (held told_held : Option Texts) (start here : Gathered) (xs : List Import) (i : ℕ) (x : Import) (s : Sources) (e : VisitError) → told_held ≡ held → i < length xs → x ≡ get_or xs i x
    → Following held start here xs i → IfSome (said_error e s) (Leads (gives_error e told_held) here x) → IfSome (said_error e s) (Along (gives_error e held) start xs)
following_stops held told_held start here xs i x s (Named code span) same h e f l =
    let end : Phase EarlyEnd Gathered = refuses (refused s.list.items code span) in
    f.told end (subst (λ ys. Along (MayGive held) here ys end) (sym (rest_is xs i x h e)) (stop (subst (λ k. Leads (MayGive k) here x end) same l)))
following_stops held told_held start here xs i x s Failed same h e f l =
    let end : Phase EarlyEnd Gathered = refuses (failed s.list.items) in
    f.failing end (subst (λ ys. Along (MayGiveOrFail held) here ys end) (sym (rest_is xs i x h e)) (stop (subst (λ k. Leads (MayGiveOrFail k) here x end) same l)))
following_stops held told_held start here xs i x s Memory same h e f l = tt
