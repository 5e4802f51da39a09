-- The law of what is found for type fields.
use Rattle.std.specs.Prelude.{◌≡◌, ℕ, Some, slice_get, length}
use Rattle.pict_types.specs.Types.{PlainType, PlainArg, TypeContext}
use Rattle.pict_rules.specs.Found.{Found, filled, matched}

-- matching keeps what was found before: each argument stays at its type field, and there are as many type fields
pub record FoundStays : Type 0 where
  pub kept : (c : TypeContext) (d : ℕ) (wanted given : PlainType) (f : Found) (i : ℕ) (a : PlainArg)
      → slice_get f i ≡ Some (filled a) → slice_get (matched c d wanted given f) i ≡ Some (filled a)
  pub as_many : (c : TypeContext) (d : ℕ) (wanted given : PlainType) (f : Found) → length (matched c d wanted given f) ≡ length f
