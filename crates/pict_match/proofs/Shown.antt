-- Types with a variable followed, and what the parts of a type inherit.
use Rattle.std.proofs.Common.{◌≡◌, ◌≢◌, ℕ, true, if◌then◌else◌, List, ◌∷◌, length, refl, sym, ◌∙◌, ap, subst}
use Rattle.pict_types.specs.declared.types.Ty.{Ty}
use Rattle.pict_types.specs.declared.types.Ty.TheVariants.{Top as Top_, Int as Int_, Char as Char_, Str as Str_, Bool as Bool_, Var as Var_, Apply' as Apply_, Chan' as Chan_, Fields' as Fields_, Rec' as Rec_}
use Rattle.pict_types.specs.Types.{Capability, PlainType, Top, Int, Char, Str, Boolean, Apply, Chan, Fields, Rec, PlainTypes, PlainLabels, PlainBounds, TypeContext}
use Rattle.pict_types.specs.Kinds.{IsWellFormed, AreWellFormed, ContextIsWellFormed, kinds, proper}
use Rattle.pict_types.specs.Plain.{plain}
use Rattle.pict_types.proofs.Rows.{plain_apply, plain_fields}
use Rattle.pict_sub.specs.Exposing.{exposure}
use Rattle.pict_sub.specs.Shapes.{shape_of, variable}
use Rattle.pict_sub.proofs.Followed.{not_variable, exposure_formed}
use Rattle.pict_rules.specs.Found.{Found, is_same_head, match_applied, matched_types}
use Rattle.pict_match.specs.Parts.{by_arguments}
use Rattle.pict_match.proofs.Growing.{partly_none}
use Rattle.pict_match.specs.Formed.{IsFormed, AreFormed}

stands : (c : TypeContext) (t : PlainType) → shape_of t ≢ variable → t ≡ exposure c t
stands c t h = sym (not_variable c t h)

-- a type that is no variable exposes to itself
pub shows : (c : TypeContext) (t : Ty) → ((i : ℕ) → t ≢ Var_ i) → plain t ≡ exposure c (plain t)
shows c Top_ h = stands c Top (λ e. cc)
shows c Int_ h = stands c Int (λ e. cc)
shows c Char_ h = stands c Char (λ e. cc)
shows c Str_ h = stands c Str (λ e. cc)
shows c Bool_ h = stands c Boolean (λ e. cc)
shows c (Var_ i) h = absurd (h i refl)
shows c (Apply_ i p n ts) h = stands c (plain (Apply_ i p n ts)) (λ e. cc)
shows c (Chan_ m p t) h = stands c (plain (Chan_ m p t)) (λ e. cc)
shows c (Fields_ p a bs b ps d ls) h = stands c (plain (Fields_ p a bs b ps d ls)) (λ e. cc)
shows c (Rec_ p t) h = stands c (plain (Rec_ p t)) (λ e. cc)

-- the parts of a wanted type are well formed in some variables
pub formed_contents : {names : List (List ℕ)} {m : Capability} {t : PlainType} → IsFormed names (Chan m t) → IsFormed names t
formed_contents f = record { kinds_ = f.kinds_; formed = f.formed }

pub formed_body : {names : List (List ℕ)} {t : PlainType} → IsFormed names (Rec t) → IsFormed names t
formed_body f = record { kinds_ = proper ∷ f.kinds_; formed = f.formed }

pub formed_arguments : {names : List (List ℕ)} {i : ℕ} {ts : PlainTypes} → IsFormed names (Apply i ts) → AreFormed names ts
formed_arguments f = record { kinds_ = f.kinds_; formed = f.formed.1 }

-- and what a type shows is well formed
shown_formed : (names : List (List ℕ)) (c : TypeContext) (t u : PlainType) → ContextIsWellFormed names c → IsWellFormed names (kinds c) t → u ≡ exposure c t → IsWellFormed names (kinds c) u
shown_formed names c t u w f e = subst (IsWellFormed names (kinds c)) (sym e) (exposure_formed names c t w f)

pub shown_contents : (names : List (List ℕ)) (c : TypeContext) (t : PlainType) (m : Capability) (u : PlainType) → ContextIsWellFormed names c → IsWellFormed names (kinds c) t → Chan m u ≡ exposure c t → IsWellFormed names (kinds c) u
shown_contents names c t m u w f e = shown_formed names c t (Chan m u) w f e

pub shown_body : (names : List (List ℕ)) (c : TypeContext) (t u : PlainType) → ContextIsWellFormed names c → IsWellFormed names (kinds c) t → Rec u ≡ exposure c t → IsWellFormed names (proper ∷ kinds c) u
shown_body names c t u w f e = shown_formed names c t (Rec u) w f e

pub shown_arguments : (names : List (List ℕ)) (c : TypeContext) (t : PlainType) (i : ℕ) (us : PlainTypes) → ContextIsWellFormed names c → IsWellFormed names (kinds c) t → Apply i us ≡ exposure c t → AreWellFormed names (kinds c) us
shown_arguments names c t i us w f e = (shown_formed names c t (Apply i us) w f e).1

pub shown_fields : (names : List (List ℕ)) (c : TypeContext) (t : PlainType) (bs : PlainBounds) (us : PlainTypes) (ls : PlainLabels) → ContextIsWellFormed names c → IsWellFormed names (kinds c) t → Fields bs us ls ≡ exposure c t → IsWellFormed names (kinds c) (Fields bs us ls)
shown_fields names c t bs us ls w f e = shown_formed names c t (Fields bs us ls) w f e

-- the arguments of the same operator variable
pub arguments_same : (c : TypeContext) (d i j : ℕ) (ws us : PlainTypes) (g : PlainType) (f : Found) → Apply j us ≡ exposure c g → is_same_head d (length f) i j ≡ true → matched_types c d ws us f ≡ by_arguments c d i ws g f
arguments_same c d i j ws us g f e h =
    sym (ap (λ b. if b then matched_types c d ws us f else f) h)
    ∙ ap (λ x. match_applied x (λ j us. if is_same_head d (length f) i j then matched_types c d ws us f else f) f) e

pub ruleset shown_rules = (shows)

pub ruleset forms = (plain_apply, plain_fields, formed_contents, formed_body, formed_arguments)

pub ruleset parts = (partly_none, plain_apply, plain_fields, shown_contents, shown_body, shown_arguments, shown_fields)
