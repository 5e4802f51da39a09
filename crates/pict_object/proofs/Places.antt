-- A text that is in a list stands at its place.
use Rattle.std.proofs.Common.{◌≡◌, ℕ, suc, ◌+◌, ◌<◌, Bool, true, false, not, ◌||◌, cond, List, [], ◌∷◌, length, sym, ◌∙◌, ap, slice_get, arith, unwrap_or}
use Rattle.std.specs.List.{list_any}
use Rattle.std.specs.Str.{bytes_eq}
use Rattle.pict_syntax.specs.Names.{number_of}
use Rattle.pict_syntax.proofs.NamesLemmas.{stands_there}

below_step : (b there : Bool) (m n : ℕ) → (b || there) ≡ true → (there ≡ true → m < n) → cond (not b) (1 + m) 0 < suc n
below_step true there m n h rest = omega arith
below_step false there m n h rest = let e : m < n = rest h in omega arith

pub number_below : (names : List (List ℕ)) (text : List ℕ) → list_any (bytes_eq text) names ≡ true → number_of names text < length names
number_below [] text h = cc
number_below (name ∷ names) text h = below_step (bytes_eq text name) (list_any (bytes_eq text) names) (number_of names text) (length names) h (number_below names text)

pub same_text : (names : List (List ℕ)) (a b : List ℕ) → list_any (bytes_eq a) names ≡ true → list_any (bytes_eq b) names ≡ true → number_of names a ≡ number_of names b → a ≡ b
same_text names a b h k e = ap (λ o. unwrap_or o []) (sym (stands_there names a h) ∙ ap (slice_get names) e ∙ stands_there names b k)
