-- The lists at channels, one of which changes.
use Rattle.std.proofs.Common.{ℕ, zero, suc, ◌<◌, ◌≡◌, Bool, true, List, [], ◌∷◌, ◌++◌, length, get_or, refl, sym, ap, ◌∙◌, arith, Some}
use Rattle.std.proofs.lemmas.List.{length-map}
use Rattle.std.specs.List.{slice_get, slice_set}
use Rattle.pict_ranked.specs.Ranking.{Ranking}
use Rattle.pict_view.specs.Moved.{if_replicated}
use Rattle.pict_view.specs.Placed.{without}
use Rattle.pict_picker.specs.Lists.{items_at, room_at}
use Rattle.pict_picker.specs.Picker.{items_of}
use Rattle.pict_picker.specs.declared.waiting.Waiting.{Waiting}

pub items_set : (rs : List (Ranking Waiting)) (c : ℕ) (r : Ranking Waiting) → items_of (slice_set rs c r) ≡ slice_set (items_of rs) c r.items
items_set [] c r = refl
items_set (x ∷ rs) zero r = refl
items_set (x ∷ rs) (suc c) r = ap (λ l. x.items ∷ l) (items_set rs c r)

-- what waits at a channel, and how many more may, where the list there is lent
pub items_lent : (rs : List (Ranking Waiting)) (c : ℕ) (r : Ranking Waiting) → c < length rs → r ≡ get_or rs c r → items_at c rs ≡ r.items
items_lent [] c r low e = absurd (omega arith)
items_lent (x ∷ rs) zero r low e = ap (λ (y : Ranking Waiting). y.items) (sym e)
items_lent (x ∷ rs) (suc c) r low e = items_lent rs c r (omega arith) e

pub room_lent : (rs : List (Ranking Waiting)) (c : ℕ) (r : Ranking Waiting) → c < length rs → r ≡ get_or rs c r → room_at c rs ≡ r.room
room_lent [] c r low e = absurd (omega arith)
room_lent (x ∷ rs) zero r low e = ap (λ (y : Ranking Waiting). y.room) (sym e)
room_lent (x ∷ rs) (suc c) r low e = room_lent rs c r (omega arith) e

pub room_set : (rs : List (Ranking Waiting)) (c : ℕ) (r : Ranking Waiting) → c < length rs → room_at c (slice_set rs c r) ≡ r.room
room_set [] c r low = absurd (omega arith)
room_set (x ∷ rs) zero r low = refl
room_set (x ∷ rs) (suc c) r low = room_set rs c r (omega arith)

-- put back as it was
set_same : (xss : List (List Waiting)) (c : ℕ) (xs : List Waiting) → xs ≡ get_or xss c xs → slice_set xss c xs ≡ xss
set_same [] c xs e = refl
set_same (x ∷ xss) zero xs e = ap (λ y. y ∷ xss) e
set_same (x ∷ xss) (suc c) xs e = ap (λ l. x ∷ l) (set_same xss c xs e)

get_of : (rs : List (Ranking Waiting)) (c : ℕ) (xs : List Waiting) (r : Ranking Waiting) → c < length rs → r ≡ get_or rs c r → get_or (items_of rs) c xs ≡ r.items
get_of [] c xs r low e = absurd (omega arith)
get_of (x ∷ rs) zero xs r low e = ap (λ (y : Ranking Waiting). y.items) (sym e)
get_of (x ∷ rs) (suc c) xs r low e = get_of rs c xs r (omega arith) e

pub items_stay : (rs : List (Ranking Waiting)) (c : ℕ) (r new : Ranking Waiting) → c < length rs → r ≡ get_or rs c r → new.items ≡ r.items → items_of (slice_set rs c new) ≡ items_of rs
items_stay rs c r new low e same =
    items_set rs c new ∙ set_same (items_of rs) c new.items (same ∙ sym (get_of rs c new.items r low e))

-- set twice
set_twice : (xss : List (List Waiting)) (c : ℕ) (a b : List Waiting) → slice_set (slice_set xss c a) c b ≡ slice_set xss c b
set_twice [] c a b = refl
set_twice (x ∷ xss) zero a b = refl
set_twice (x ∷ xss) (suc c) a b = ap (λ l. x ∷ l) (set_twice xss c a b)

get_set : (xss : List (List Waiting)) (c : ℕ) (a : List Waiting) → c < length xss → get_or (slice_set xss c a) c [] ≡ a
get_set [] c a low = absurd (omega arith)
get_set (x ∷ xss) zero a low = refl
get_set (x ∷ xss) (suc c) a low = get_set xss c a (omega arith)

-- one is taken out, and goes behind the others
pub settled : (xss mid new : List (List Waiting)) (c j : ℕ) (w taken : Waiting) (stays : Bool) → c < length xss
    → mid ≡ slice_set xss c (without j (get_or xss c [])) → new ≡ slice_set mid c (get_or mid c [] ++ taken ∷ [])
    → slice_get (get_or xss c []) j ≡ Some taken → slice_get (get_or xss c []) j ≡ Some w → stays ≡ true
    → new ≡ slice_set xss c (without j (get_or xss c []) ++ if_replicated stays w)
settled xss mid new c j w taken stays low m n at there kept =
    let left = without j (get_or xss c []) in
    let both : Some taken ≡ Some w = sym at ∙ there in
    let same : taken ≡ w = cc in
    n ∙ ap (λ ls. slice_set ls c (get_or ls c [] ++ taken ∷ [])) m
    ∙ ap (λ ws. slice_set (slice_set xss c left) c (ws ++ taken ∷ [])) (get_set xss c left low)
    ∙ set_twice xss c left (left ++ taken ∷ [])
    ∙ ap (λ v. slice_set xss c (left ++ v ∷ [])) same
    ∙ ap (λ b. slice_set xss c (left ++ if_replicated b w)) (sym kept)

pub as_many_items : (rs : List (Ranking Waiting)) → length (items_of rs) ≡ length rs
as_many_items rs = length-map rs (λ (r : Ranking Waiting). r.items)

-- where the same wait everywhere there are as many channels
pub same_many : (rs ss : List (Ranking Waiting)) → items_of ss ≡ items_of rs → length ss ≡ length rs
same_many rs ss e = sym (as_many_items ss) ∙ ap length e ∙ as_many_items rs
