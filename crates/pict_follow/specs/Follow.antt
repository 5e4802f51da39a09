-- What may stand behind tokens: what some program goes on with.
use Rattle.std.specs.Prelude.{◌≡◌, ℕ, ◌+◌, ◌<◌, List, [], ◌∷◌, ◌++◌, length, take}
use Rattle.std.specs.Prelude.{slice_index_or as get_or}
use Rattle.pict_syntax.specs.declared.token.Token.{Token}
use Rattle.pict_syntax.specs.Place.{IsPrefix}
use Rattle.pict_syntax.specs.Programs.{Program, programs}
use Rattle.pict_syntax.specs.Verdicts.{IsShallowBefore, IsWhole}
use Rattle.pict_follow.specs.declared.class.Class.{Class}
use Rattle.pict_follow.specs.Classes.{class_of}

-- some program begins with these tokens, none of which is nested too deep
abbrev pub CanGoOn : List Token → Type 0
CanGoOn ts = IsPrefix programs ts × IsShallowBefore programs ts (length ts)

-- these are the tokens of a program, and none of them is nested too deep
abbrev pub AreWhole : List Token → Type 0
AreWhole ts = (p : Program) × IsWhole programs ts p

-- some program begins with these tokens and a token of this kind behind them
abbrev pub CanFollow : List Token → Class → Type 0
CanFollow ts class = (t : Token) × (class_of t.kind ≡ class) × IsPrefix programs (ts ++ t ∷ [])

-- (law) where a token may stand behind others, so may each one of its kind, whatever it says and wherever it stands
abbrev pub KindsDecide : Type 0
KindsDecide = (ts : List Token) (t u : Token) → class_of t.kind ≡ class_of u.kind → IsPrefix programs (ts ++ t ∷ []) → IsPrefix programs (ts ++ u ∷ [])

-- those of some elements of which a fact holds, in their order
pub data AreThose {A : Type 0} (P : A → Type 0) : List A → List A → Type 0 where
  at_start : AreThose P [] []
  taken : {xs ys : List A} {x : A} → AreThose P xs ys → P x → AreThose P (xs ++ x ∷ []) (ys ++ x ∷ [])
  left_out : {xs ys : List A} {x : A} → AreThose P xs ys → ¬ P x → AreThose P (xs ++ x ∷ []) ys

-- some program begins with all tokens but the last, none of these is nested too deep, and the last begins before `end`
pub record IsAsked (ts : List Token) (end : ℕ) : Type 0 where
  pub before : ℕ
  pub count : length ts ≡ before + 1
  pub begins : IsPrefix programs (take before ts)
  pub shallow : IsShallowBefore programs ts before
  pub place : (other : Token) → (get_or ts before other).span.start < end

-- two ends of texts
abbrev pub first_end : ℕ
first_end = 1

abbrev pub other_end : ℕ
other_end = 2
