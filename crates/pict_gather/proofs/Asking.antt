-- A shelf answers that a text is too long only where one may stand there that is.
use Rattle.std.proofs.Common.{◌≡◌, ℕ, zero, suc, ◌<◌, List, [], ◌∷◌, length, Option, Some, None, refl, sym, ap, subst, arith, IfSome}
use Rattle.std.specs.Prelude.{◌↔◌, IsSomeAnd}
use Rattle.pict_syntax.specs.declared.span.Span.{Span}
use Rattle.pict_outside.specs.Texts.{Texts, text_of, IsLongerThan, IsTooLong as SaysTooLong}
use Rattle.pict_outside.specs.declared.shelf.Fetched.{Fetched}
use Rattle.pict_outside.specs.declared.shelf.Fetched.TheVariants.{TooLong}
use Rattle.pict_gather.specs.Found.{IsTooLong}

abbrev zeros : ℕ → List ℕ
zeros zero = []
zeros (suc n) = 0 ∷ zeros n

zeros_length : (n : ℕ) → length (zeros n) ≡ n
zeros_length zero = refl
zeros_length (suc n) = ap suc (zeros_length n)

longer : (texts : Texts) (name : List ℕ) (left : ℕ) (f : Option (List ℕ)) → text_of texts name ≡ f → IsSomeAnd f (λ t. left < length t) → IsTooLong (Some texts) name left
longer texts name left None e h = absurd h
longer texts name left (Some t) e h = record { bytes = t; gives = e; long = h }

pub too_long_told : (held : Option Texts) (name asked : List ℕ) (left : ℕ) (f : Fetched) (n : ℕ) → f ≡ TooLong n → asked ≡ name
    → IfSome held (λ texts. SaysTooLong f ↔ IsLongerThan left (text_of texts asked)) → IsTooLong held name left
too_long_told None name asked left f n is e h = record { bytes = zeros (suc left); gives = tt; long = omega (arith, zeros_length (suc left)) }
too_long_told (Some texts) name asked left f n is e h =
    longer texts name left (text_of texts name) refl (subst (λ m. IsLongerThan left (text_of texts m)) e (h.0 (subst SaysTooLong (sym is) tt)))

abbrev pub first_of : ℕ → Span
first_of n = record { text = n; start = 0; end = 0 }

pub placed_at : (n m : ℕ) → n ≡ m → first_of n ≡ first_of m
placed_at n m e = ap first_of e
