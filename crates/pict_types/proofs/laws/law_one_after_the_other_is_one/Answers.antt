-- Each order of renaming, filling and replacing.
use Rattle.std.proofs.Common.{refl}
use Rattle.pict_types.proofs.Renamed.{renamed_twice}
use Rattle.pict_types.proofs.Composed.{fill_after, filled_renamed, fill_fill, renamed_replaced, replaced_renamed, replace_fill, fill_replace, replace_twice}
use Rattle.pict_types.proofs.laws.law_one_after_the_other_is_one.Goals as goal

pub returns : goal.returns
returns c = record {
  renamed_twice = λ f g t. renamed_twice t (record { each = λ i. refl });
  renamed_then_filled = λ f s t. fill_after (record { types_ = λ i. refl; heads_ = λ i. refl }) t;
  filled_then_renamed = λ s f t. filled_renamed s f t;
  filled_twice = λ s u t. fill_fill t (record { types_ = λ i. refl; heads_ = λ i. refl });
  renamed_then_replaced = λ f r t. renamed_replaced f r t;
  replaced_then_renamed = λ r f t. replaced_renamed r f t;
  filled_then_replaced = λ s r t. replace_fill t (record { types_ = λ i. refl; heads_ = λ i. refl });
  replaced_then_filled = λ r s t n. fill_replace t n (record { types_ = λ i. refl; heads_ = λ i. refl });
  replaced_twice = λ r q t n. replace_twice t (record { types_ = λ i. refl; heads_ = λ i. refl; second = n });
}
