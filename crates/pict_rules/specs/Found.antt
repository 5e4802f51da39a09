-- What is found for the type fields of a record, and what matching adds to it.
use Rattle.std.specs.Prelude.{ℕ, zero, suc, ◌+◌, ◌-◌, Bool, true, false, ◌&&◌, ◌||◌, not, nat_eq, nat_lt, nat_le, if◌then◌else◌, List, [], ◌∷◌, map, length, Option, Some, None, set}
use Rattle.pict_types.specs.Types.{PlainType, Top, Int, Char, Str, Boolean, Var, Apply, Chan, Fields, Rec, PlainTypes, types, PlainLabels, no_label, labels, PlainBound, Free, Below, Operator, PlainBounds, no_bound, bounds, PlainArg, Plain, Op, TypeContext, under, count_types, count_bounds, type_at}
use Rattle.pict_types.specs.Replacing.{arguments, replace}
use Rattle.pict_sub.specs.Exposing.{exposure}
use Rattle.pict_types.specs.Mentions.{mentions, mentions_innermost, lowered}

-- a type field that isn't found yet, or its argument
pub data Slot : Type 0 where
  open_slot : PlainBound → Slot
  filled : PlainArg → Slot

-- for each type field, in order
abbrev pub Found : Type 0
Found = List Slot

abbrev pub none_found : PlainBounds → Found
none_found no_bound = []
none_found (bounds b bs) = open_slot b ∷ none_found bs

abbrev pub is_open : Slot → Bool
is_open (open_slot b) = true
is_open (filled a) = false

abbrev pub is_missing : Found → ℕ → Bool
is_missing [] i = false
is_missing (x ∷ f) zero = is_open x
is_missing (x ∷ f) (suc i) = is_missing f i

-- variable i under the type fields, the last one at 0, is a type field that isn't found
abbrev pub is_missing_variable : Found → ℕ → Bool
is_missing_variable f i = nat_lt i (length f) && is_missing f (length f - 1 - i)

abbrev pub mentions_missing : Found → PlainType → Bool
mentions_missing f t = mentions (is_missing_variable f) t

-- in the place of what isn't found is Top, as a type or as an operator
abbrev pub argument_in : Slot → PlainArg
argument_in (filled a) = a
argument_in (open_slot Free) = Plain Top
argument_in (open_slot (Below t)) = Plain Top
argument_in (open_slot (Operator ms)) = Op (length ms) Top

-- a type under the type fields with what is found put in
abbrev pub with_found : Found → PlainType → PlainType
with_found f t = replace (arguments (map argument_in f)) t

abbrev pub all_found : Found → Bool
all_found [] = true
all_found (x ∷ f) = not (is_open x) && all_found f

-- what is wanted is written under d inner variables and the type fields, what is given under d inner variables:
-- a type field that isn't found yet becomes what is given, unless this mentions an inner variable
abbrev pub find : ℕ → ℕ → PlainType → Found → Found
find d i g f =
    if nat_le d i && (is_missing_variable f (i - d) && not (mentions_innermost d g))
    then set f (length f - 1 - (i - d)) (filled (Plain (lowered d g)))
    else f

-- the same operator variable
abbrev pub is_same_head : ℕ → ℕ → ℕ → ℕ → Bool
is_same_head d n i j = (nat_lt i d && nat_eq i j) || (nat_le (d + n) i && nat_eq (i - n) j)

abbrev pub match_channel : PlainType → (PlainType → Found) → Found → Found
match_channel (Chan m g) k f = k g
match_channel _ k f = f

abbrev pub match_recursive : PlainType → (PlainType → Found) → Found → Found
match_recursive (Rec g) k f = k g
match_recursive _ k f = f

abbrev pub match_applied : PlainType → (ℕ → PlainTypes → Found) → Found → Found
match_applied (Apply j us) k f = k j us
match_applied _ k f = f

abbrev pub match_record : PlainType → (PlainBounds → PlainTypes → PlainLabels → Found) → Found → Found
match_record (Fields cs us ms) k f = k cs us ms
match_record _ k f = f

abbrev pub match_label : Option PlainType → (PlainType → Found) → Found → Found
match_label None k f = f
match_label (Some g) k f = k g

abbrev mutual
  -- what is found once the first type, written under d inner variables, is matched against the second in its context
  pub matched : TypeContext → ℕ → PlainType → PlainType → Found → Found
  matched c d Top g f = f
  matched c d Int g f = f
  matched c d Char g f = f
  matched c d Str g f = f
  matched c d Boolean g f = f
  matched c d (Var i) g f = find d i g f
  matched c d (Apply i ws) g f = match_applied (exposure c g) (λ j us. if is_same_head d (length f) i j then matched_types c d ws us f else f) f
  matched c d (Chan m w) g f = match_channel (exposure c g) (λ u. matched c d w u f) f
  matched c d (Fields bs ws ls) g f =
      match_record (exposure c g) (λ cs us ms.
      if nat_eq (count_bounds bs) (count_bounds cs) && nat_eq (count_types ws) (count_types us)
      then matched_labels (under c cs) (d + count_bounds bs) ls ms (matched_types (under c cs) (d + count_bounds bs) ws us (matched_bounds c d bs cs f))
      else f) f
  matched c d (Rec w) g f = match_recursive (exposure c g) (λ u. matched (Free ∷ c) (suc d) w u f) f

  -- in order
  pub matched_types : TypeContext → ℕ → PlainTypes → PlainTypes → Found → Found
  matched_types c d (types w ws) (types g gs) f = matched_types c d ws gs (matched c d w g f)
  matched_types c d _ _ f = f

  -- the labels that both have
  pub matched_labels : TypeContext → ℕ → PlainLabels → PlainLabels → Found → Found
  matched_labels c d no_label ms f = f
  matched_labels c d (labels l w ls) ms f = matched_labels c d ls ms (match_label (type_at l ms) (λ g. matched c d w g f) f)

  pub matched_bounds : TypeContext → ℕ → PlainBounds → PlainBounds → Found → Found
  matched_bounds c d (bounds b bs) (bounds g gs) f = matched_bounds (g ∷ c) (suc d) bs gs (matched_bound c d b g f)
  matched_bounds c d _ _ f = f

  -- two bounds match each other, and all else finds nothing
  pub matched_bound : TypeContext → ℕ → PlainBound → PlainBound → Found → Found
  matched_bound c d (Below w) (Below g) f = matched c d w g f
  matched_bound c d _ _ f = f
