-- Types that are well formed in some variables: each variable stands as its kind wants, and labels are in order.
use Rattle.std.specs.Prelude.{ℕ, List}
use Rattle.pict_types.specs.Types.{PlainType, PlainTypes, PlainLabels, PlainBound, PlainBounds}
use Rattle.pict_types.specs.Kinds.{Kind, IsWellFormed, AreWellFormed, LabelsAreWellFormed, BoundIsWellFormed, BoundsAreWellFormed}

pub record IsFormed (names : List (List ℕ)) (t : PlainType) : Type 0 where
  pub kinds_ : List Kind
  pub formed : IsWellFormed names kinds_ t

-- the same of types in a row, of labelled ones, of a bound and of bounds
pub record AreFormed (names : List (List ℕ)) (ts : PlainTypes) : Type 0 where
  pub kinds_ : List Kind
  pub formed : AreWellFormed names kinds_ ts

pub record LabelsAreFormed (names : List (List ℕ)) (ls : PlainLabels) : Type 0 where
  pub kinds_ : List Kind
  pub formed : LabelsAreWellFormed names kinds_ ls

pub record BoundIsFormed (names : List (List ℕ)) (b : PlainBound) : Type 0 where
  pub kinds_ : List Kind
  pub formed : BoundIsWellFormed names kinds_ b

pub record BoundsAreFormed (names : List (List ℕ)) (bs : PlainBounds) : Type 0 where
  pub kinds_ : List Kind
  pub formed : BoundsAreWellFormed names kinds_ bs
