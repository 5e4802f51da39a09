-- A word that is read from a pair is packed to it.
use Rattle.std.proofs.Common.{◌≡◌, ℕ, zero, suc, ◌+◌, ◌^◌, ◌<◌, Bool, true, false, cond, eqb, ltb, List, [], ◌∷◌, Option, Some, None, refl, sym, ◌∙◌, ap, subst, arith}
use Rattle.std.specs.Option.{IfSome, option_map}
use Rattle.std.specs.List.{slice_get}
use Rattle.std.specs.Int.{w64, cast_unsigned, cast_signed}
use Rattle.std.proofs.lemmas.Bool.{eqb-true, ltb-true}
use Rattle.std.proofs.lemmas.Int.{of_z-to_z}
use Rattle.pict_syntax.specs.declared.primitive.Primitive.{Primitive}
use Rattle.pict_syntax.specs.Primitives.{primitive_number, primitives}
use Rattle.pict_syntax.proofs.Numbered.{number_found}
use Rattle.pict_heap.specs.Packed.{packed, unpacked, bool_number}
use Rattle.pict_heap.specs.declared.word.Word.{Word}
use Rattle.pict_heap.specs.declared.word.Word.TheVariants as word

-- what holds of the word that a choice leaves, if it leaves one
chosen : (b : Bool) (x y : Option Word) (P : Word → Type 0) → (b ≡ true → IfSome x P) → IfSome y P → IfSome (cond b x y) P
chosen true x y P if_true if_false = if_true refl
chosen false x y P if_true if_false = if_false

pair : (a b c d : ℕ) → a ≡ c → b ≡ d → ◌≡◌ {A = ℕ × ℕ} (a, b) (c, d)
pair a b c d p q = ap (λ x. (x, b)) p ∙ ap (λ y. (c, y)) q

bit : (n : ℕ) → n < 2 → bool_number (eqb n 1) ≡ n
bit zero small = refl
bit (suc zero) small = refl
bit (suc (suc n)) small = absurd (omega arith)

pub unpacked_packs : (result : Option Word) (tag payload : ℕ) → payload < 2 ^ 64 → result ≡ unpacked tag payload → IfSome result (λ w. packed w ≡ (tag, payload))
unpacked_packs result tag payload fits is =
    let P : Word → Type 0 = λ w. packed w ≡ (tag, payload) in
    subst (λ r. IfSome r P) (sym is)
    (chosen (eqb tag 0) _ _ P (λ e. pair 0 (cast_unsigned w64 (cast_signed w64 payload)) tag payload (sym (eqb-true tag 0 e)) (of_z-to_z w64 payload fits))
    (chosen (eqb tag 1) _ _ P (λ e. chosen (ltb payload 256) _ _ P (λ small. pair 1 payload tag payload (sym (eqb-true tag 1 e)) refl) tt)
    (chosen (eqb tag 2) _ _ P (λ e. chosen (ltb payload 2) _ _ P (λ small. pair 2 (bool_number (eqb payload 1)) tag payload (sym (eqb-true tag 2 e)) (bit payload (ltb-true payload 2 small))) tt)
    (chosen (eqb tag 3) _ _ P (λ e. chosen (ltb payload 4294967296) _ _ P (λ small. pair 3 payload tag payload (sym (eqb-true tag 3 e)) refl) tt)
    (chosen (eqb tag 4) _ _ P (λ e. of_primitive (slice_get primitives payload) P (λ p found. pair 4 (primitive_number p) tag payload (sym (eqb-true tag 4 e)) (number_found payload p found)))
    (chosen (eqb tag 5) _ _ P (λ e. pair 5 payload tag payload (sym (eqb-true tag 5 e)) refl)
    (chosen (eqb tag 6) _ _ P (λ e. pair 6 payload tag payload (sym (eqb-true tag 6 e)) refl) tt)))))))
  where
    of_primitive : (found : Option Primitive) (P : Word → Type 0) → ((p : Primitive) → found ≡ Some p → P (word.Prim p)) → IfSome (option_map word.Prim found) P
    of_primitive None P each = tt
    of_primitive (Some p) P each = each p refl
