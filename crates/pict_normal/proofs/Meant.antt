-- What the entries of a context stand for, entry by entry.
use Rattle.std.proofs.Common.{◌≡◌, ℕ, zero, suc, ◌+◌, ◌≤◌, ◌<◌, ◌^◌, [], ◌∷◌, length, refl, sym, ◌∙◌, ap, subst, arith}
use Rattle.pict_normal.specs.declared.put.Put.{Put}
use Rattle.pict_normal.specs.declared.put.Put.TheVariants.{Variable as Variable_, Proper as Proper_, Operator as Operator_}
use Rattle.pict_types.specs.Types.{TypeContext, PlainType, Var, PlainArg}
use Rattle.pict_types.specs.Counting.{variables_inside}
use Rattle.pict_types.specs.Entries.{PlainWhat, Variable, Definition, PlainContext, variables, with_variable}
use Rattle.pict_normal.specs.Meanings.{meanings, with_what}
use Rattle.pict_normal.specs.Putting.{CanMove, HasRoom}
use Rattle.pict_types.specs.Places.{IsWhatAt}
use Rattle.pict_types.specs.Renaming.{plus, rename, moved}
use Rattle.pict_types.specs.Replacing.{Head, variable, rename_head, Replacement, type_in, head_in}
use Rattle.pict_types.proofs.Renamed.{renamed_twice}
use Rattle.pict_types.proofs.Past.{not_moved, head_same, head_twice}

-- what an entry stands for, in the variables of its own place
abbrev pub own_type : PlainWhat → PlainType
own_type (Variable b) = Var 0
own_type (Definition a) = type_in a

abbrev pub own_head : PlainWhat → Head
own_head (Variable b) = variable 0
own_head (Definition a) = head_in a

first_type_is : (w : PlainWhat) (s : Replacement) → (with_what w s).type_of 0 ≡ own_type w
first_type_is (Variable b) s = refl
first_type_is (Definition a) s = refl

first_head_is : (w : PlainWhat) (s : Replacement) → (with_what w s).head_of 0 ≡ own_head w
first_head_is (Variable b) s = refl
first_head_is (Definition a) s = refl

type_further : (w : PlainWhat) (s : Replacement) (k i : ℕ) (t : PlainType) → s.type_of i ≡ rename (moved k 0) t → (with_what w s).type_of (suc i) ≡ rename (moved (length (with_variable w []) + k) 0) t
type_further (Variable b) s k i t h = ap (rename suc) h ∙ renamed_twice t (record { each = λ n. more n })
  where
    more : (n : ℕ) → suc (n + k) ≡ n + (1 + k)
    more n = omega arith
type_further (Definition a) s k i t h =
    let e : k ≡ 0 + k = omega arith in
    h ∙ ap (λ n. rename (moved n 0) t) e

head_further : (w : PlainWhat) (s : Replacement) (k i : ℕ) (t : Head) → s.head_of i ≡ rename_head (plus k) t → (with_what w s).head_of (suc i) ≡ rename_head (plus (length (with_variable w []) + k)) t
head_further (Variable b) s k i t h = ap (rename_head suc) h ∙ head_twice t (record { each = λ n. more n })
  where
    more : (n : ℕ) → suc (n + k) ≡ n + (1 + k)
    more n = omega arith
head_further (Definition a) s k i t h =
    let e : k ≡ 0 + k = omega arith in
    h ∙ ap (λ n. rename_head (plus n) t) e

type_at : (c : PlainContext) (i : ℕ) (w : PlainWhat) → IsWhatAt c i w → (meanings c).type_of i ≡ rename (moved (variables_inside i c) 0) (own_type w)
type_at [] i w h = absurd h
type_at (e ∷ c) zero w h = first_type_is e.what (meanings c) ∙ ap own_type h ∙ sym (not_moved 0 (own_type w))
type_at (e ∷ c) (suc i) w h = type_further e.what (meanings c) (variables_inside i c) i (own_type w) (type_at c i w h)

head_at : (c : PlainContext) (i : ℕ) (w : PlainWhat) → IsWhatAt c i w → (meanings c).head_of i ≡ rename_head (plus (variables_inside i c)) (own_head w)
head_at [] i w h = absurd h
head_at (e ∷ c) zero w h = first_head_is e.what (meanings c) ∙ ap own_head h ∙ sym (head_same (own_head w) (record { each = λ n. none n }))
  where
    none : (n : ℕ) → n + 0 ≡ n
    none n = omega arith
head_at (e ∷ c) (suc i) w h = head_further e.what (meanings c) (variables_inside i c) i (own_head w) (head_at c i w h)

-- a variable stays one, and a definition is moved by the variables inside it
pub variable_type : (c : PlainContext) (i : ℕ) (w : PlainWhat) → IsWhatAt c i w → (own_type w ≡ Var 0) → Var (variables_inside i c) ≡ (meanings c).type_of i
variable_type c i w h k =
    let e : variables_inside i c ≡ 0 + variables_inside i c = omega arith in
    ap Var e ∙ ap (rename (moved (variables_inside i c) 0)) (sym k) ∙ sym (type_at c i w h)

pub variable_head : (c : PlainContext) (i : ℕ) (w : PlainWhat) → IsWhatAt c i w → (own_head w ≡ variable 0) → variable (variables_inside i c) ≡ (meanings c).head_of i
variable_head c i w h k =
    let e : variables_inside i c ≡ 0 + variables_inside i c = omega arith in
    ap variable e ∙ ap (rename_head (plus (variables_inside i c))) (sym k) ∙ sym (head_at c i w h)

pub definition_type : (c : PlainContext) (i : ℕ) (a : PlainArg) → IsWhatAt c i (Definition a) → rename (moved (variables_inside i c) 0) (type_in a) ≡ (meanings c).type_of i
definition_type c i a h = sym (type_at c i (Definition a) h)

pub definition_head : (c : PlainContext) (i : ℕ) (a : PlainArg) → IsWhatAt c i (Definition a) → rename_head (plus (variables_inside i c)) (head_in a) ≡ (meanings c).head_of i
definition_head c i a h = sym (head_at c i (Definition a) h)

-- past the entries
type_past : (w : PlainWhat) (vs : TypeContext) (s : Replacement) (i j : ℕ) → s.type_of i ≡ Var (j + length vs) → (with_what w s).type_of (suc i) ≡ Var (j + length (with_variable w vs))
type_past (Variable b) vs s i j h = let e : suc (j + length vs) ≡ j + suc (length vs) = omega arith in ap (rename suc) h ∙ ap Var e
type_past (Definition a) vs s i j h = h

head_past : (w : PlainWhat) (vs : TypeContext) (s : Replacement) (i j : ℕ) → s.head_of i ≡ variable (j + length vs) → (with_what w s).head_of (suc i) ≡ variable (j + length (with_variable w vs))
head_past (Variable b) vs s i j h = let e : suc (j + length vs) ≡ j + suc (length vs) = omega arith in ap (rename_head suc) h ∙ ap variable e
head_past (Definition a) vs s i j h = h

pub past_type : (c : PlainContext) (i j : ℕ) → i ≡ j + length c → (meanings c).type_of i ≡ Var (j + length (variables c))
past_type [] i j h = let e : i ≡ j + 0 = omega arith in ap Var e
past_type (e ∷ c) zero j h = absurd (omega arith)
past_type (e ∷ c) (suc i) j h = type_past e.what (variables c) (meanings c) i j (past_type c i j (omega arith))

pub past_head : (c : PlainContext) (i j : ℕ) → i ≡ j + length c → (meanings c).head_of i ≡ variable (j + length (variables c))
past_head [] i j h = let e : i ≡ j + 0 = omega arith in ap variable e
past_head (e ∷ c) zero j h = absurd (omega arith)
past_head (e ∷ c) (suc i) j h = head_past e.what (variables c) (meanings c) i j (past_head c i j (omega arith))

-- under binders, from no binder
pub room_from_none : (p : Put) (n d i : ℕ) → HasRoom n (0 + d) i p → HasRoom n d i p
room_from_none p n d i h = let e : 0 + d ≡ d = omega arith in subst (λ k. HasRoom n k i p) e h

-- what is put has room under more binders, and seen from inside
pub can_move : (p : Put) (n d i m : ℕ) → HasRoom n d i p → i + d + m < 2 ^ 32 → n + d + m < 2 ^ 32 → CanMove m p
can_move (Variable_ k) n d i m h a b = omega (arith, h, a)
can_move (Proper_ t by) n d i m h a b = omega (arith, h.1, b)
can_move (Operator_ q t by) n d i m h a b = omega (arith, h.1, b)

pub room_inside : (p : Put) (n by m i : ℕ) → n + by ≤ m → by ≤ i → HasRoom n by 0 p → HasRoom m 0 i p
room_inside (Variable_ k) n by m i a b h = omega (arith, h, b)
room_inside (Proper_ t k) n by m i a b h = (omega arith, omega (arith, h.1, a))
room_inside (Operator_ q t k) n by m i a b h = (omega arith, omega (arith, h.1, a))

pub room_under : (p : Put) (n d i j : ℕ) → j + d ≤ i + d → HasRoom n d j p → HasRoom n d i p
room_under (Variable_ k) n d i j a h = omega (arith, h, a)
room_under (Proper_ t k) n d i j a h = h
room_under (Operator_ q t k) n d i j a h = h
