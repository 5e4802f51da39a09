-- What the parts of a wanted type find.
use Rattle.std.specs.Prelude.{ℕ, ◌+◌, ◌&&◌, nat_eq, if◌then◌else◌, suc, ◌∷◌, length, Option, Some, None}
use Rattle.pict_types.specs.declared.types.Ty.{Ty}
use Rattle.pict_types.specs.declared.types.Record.{Record}
use Rattle.pict_types.specs.Types.{PlainType, PlainTypes, PlainLabels, PlainBounds, Free, TypeContext, under, count_types, count_bounds}
use Rattle.pict_types.specs.Plain.{plain, plain_bounds, plain_types, plain_labels}
use Rattle.pict_sub.specs.Exposing.{exposure}
use Rattle.pict_rules.specs.Found.{Found, is_same_head, match_channel, match_recursive, match_applied, match_record, matched, matched_types, matched_labels, matched_bounds}

-- a type that is followed, or else the one that is given
abbrev pub followed_or : Option Ty → PlainType → PlainType
followed_or None g = g
followed_or (Some t) g = plain t

-- what the contents of a channel type find, and the body of a recursive type, in a type
abbrev pub by_channel : TypeContext → ℕ → PlainType → PlainType → Found → Found
by_channel c d w g f = match_channel (exposure c g) (λ u. matched c d w u f) f

abbrev pub by_body : TypeContext → ℕ → PlainType → PlainType → Found → Found
by_body c d w g f = match_recursive (exposure c g) (λ u. matched (Free ∷ c) (suc d) w u f) f

-- and the arguments of operator variable i
abbrev pub by_arguments : TypeContext → ℕ → ℕ → PlainTypes → PlainType → Found → Found
by_arguments c d i ws g f =
    match_applied (exposure c g) (λ j us. if is_same_head d (length f) i j then matched_types c d ws us f else f) f

-- the fields of one record in those of another
abbrev pub by_fields : TypeContext → ℕ → PlainBounds → PlainTypes → PlainLabels → PlainBounds → PlainTypes → PlainLabels → Found → Found
by_fields c d bs ws ls cs us ms f =
    if nat_eq (count_bounds bs) (count_bounds cs) && nat_eq (count_types ws) (count_types us)
    then matched_labels (under c cs) (d + count_bounds bs) ls ms (matched_types (under c cs) (d + count_bounds bs) ws us (matched_bounds c d bs cs f))
    else f

abbrev pub by_records : TypeContext → ℕ → Record → Record → Found → Found
by_records c d r q f =
    by_fields c d (plain_bounds r.binders.items) (plain_types r.positional.items) (plain_labels r.labelled.items)
    (plain_bounds q.binders.items) (plain_types q.positional.items) (plain_labels q.labelled.items) f

-- and in a type
abbrev pub by_record : TypeContext → ℕ → Record → PlainType → Found → Found
by_record c d r g f =
    match_record (exposure c g) (λ cs us ms.
    by_fields c d (plain_bounds r.binders.items) (plain_types r.positional.items) (plain_labels r.labelled.items) cs us ms f) f
