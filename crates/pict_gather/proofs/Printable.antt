-- The name of an import is UTF-8: its bytes are ASCII.
use Rattle.std.proofs.lemmas.Bool.{leb-true}
use Rattle.std.proofs.lemmas.Str.{IsUtf8-from_ascii}
use Rattle.std.proofs.lemmas.Str.Ascii.{IsAscii-from_all}
use Rattle.std.proofs.Common.{◌≡◌, ℕ, zero, suc, ◌<◌, Bool, true, false, not, ◌&&◌, nat_le, List, [], ◌∷◌, length, get_or, refl, arith}
use Rattle.std.specs.Prelude.{◌==◌}
use Rattle.std.specs.Str.{IsUtf8}
use Rattle.pict_gather.specs.Gathered.{are_printable, is_import_name}

both : (a b : Bool) → (a && b) ≡ true → (a ≡ true) × (b ≡ true)
both true true e = (refl, refl)
both true false e = absurd cc
both false b e = absurd cc

printable : (bs : List ℕ) → are_printable bs ≡ true → (i d : ℕ) → i < length bs → get_or bs i d < 128
printable [] e i d h = absurd (omega (arith, h))
printable (x ∷ xs) e zero d h =
    let s = both (nat_le 32 x && nat_le x 126) (are_printable xs) e in
    let t = both (nat_le 32 x) (nat_le x 126) s.0 in
    omega (arith, leb-true x 126 t.1)
printable (x ∷ xs) e (suc i) d h = let s = both (nat_le 32 x && nat_le x 126) (are_printable xs) e in printable xs s.1 i d (omega (arith, h))

pub name_utf8 : (name : List ℕ) → is_import_name name ≡ true → IsUtf8 name
name_utf8 [] e = absurd cc
name_utf8 (x ∷ xs) e = let s = both (not (x == 45)) (are_printable (x ∷ xs)) e in IsUtf8-from_ascii (x ∷ xs) (IsAscii-from_all (x ∷ xs) (λ i d h. printable (x ∷ xs) s.1 i d h))
