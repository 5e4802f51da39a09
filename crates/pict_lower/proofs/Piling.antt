-- Preorder by a pile: a place, then its parts before what waits behind it.
use Rattle.std.proofs.Common.{◌≡◌, ℕ, zero, suc, ◌+◌, ◌<◌, List, [], ◌∷◌, ◌++◌, map, drop, reverse, length, refl, sym, ap, ◌∙◌, subst, arith, append_assoc, append-nil}
use Rattle.std.proofs.lemmas.List.{reverse-append, map-append}
use Rattle.pict_core.specs.Term.{Process, Zero, Par, New, Out, In, If}
use Rattle.pict_core.specs.Closed.{binds}
use Rattle.pict_code.specs.Nodes.{Place, place, places}
use Rattle.pict_lower.specs.Parts.{parts, parts_of, all_places, plain_place, waiting}
use Rattle.pict_lower.specs.declared.places.Place as code

-- a place stands before its parts
pub parts_follow : (n : ℕ) (p : Process) → places n p ≡ place n p ∷ all_places (parts n p)
parts_follow n Zero = refl
parts_follow n (Par p q) = ap (λ l. place n (Par p q) ∷ (places n p ++ l)) (sym (append-nil (places n q)))
parts_follow n (New p) = ap (λ l. place n (New p) ∷ l) (sym (append-nil (places (n + 1) p)))
parts_follow n (Out chan message at) = refl
parts_follow n (In chan replicated pattern body) = ap (λ l. place n (In chan replicated pattern body) ∷ l) (sym (append-nil (places (n + binds pattern) body)))
parts_follow n (If test p q) = ap (λ l. place n (If test p q) ∷ (places n p ++ l)) (sym (append-nil (places n q)))

all_append : (ps qs : List Place) → all_places (ps ++ qs) ≡ all_places ps ++ all_places qs
all_append [] qs = refl
all_append (p ∷ ps) qs = ap (λ l. places p.around p.process ++ l) (all_append ps qs) ∙ sym (append_assoc (places p.around p.process) (all_places ps) (all_places qs))

pub opened : (p : Place) (ps : List Place) → all_places (p ∷ ps) ≡ p ∷ all_places (parts_of p ++ ps)
opened p ps = ap (λ l. l ++ all_places ps) (parts_follow p.around p.process) ∙ ap (λ l. p ∷ l) (sym (all_append (parts_of p) ps))

-- one more on the pile
pub pushed : (old new : List code.Place) (p : code.Place) → new ≡ old ++ p ∷ [] → waiting new ≡ plain_place p ∷ waiting old
pushed old new p e = ap waiting e ∙ ap (map plain_place) (reverse-append old (p ∷ []))

-- one turn of the loop
pub turned : (all found found' old left new : List code.Place) (p : code.Place) (whole : List Place) → old ≡ left ++ p ∷ [] → found' ≡ found ++ p ∷ []
    → waiting new ≡ parts_of (plain_place p) ++ waiting left → map plain_place found ++ all_places (waiting old) ≡ whole → map plain_place found' ++ all_places (waiting new) ≡ whole
turned all found found' old left new p whole e f g h =
    ap (λ l. map plain_place l ++ all_places (waiting new)) f
    ∙ ap (λ l. l ++ all_places (waiting new)) (map-append plain_place found (p ∷ []))
    ∙ append_assoc (map plain_place found) (plain_place p ∷ []) (all_places (waiting new))
    ∙ ap (λ l. map plain_place found ++ (plain_place p ∷ all_places l)) g
    ∙ ap (λ l. map plain_place found ++ l) (sym (opened (plain_place p) (waiting left)) ∙ ap all_places (sym (pushed left old p e)))
    ∙ h

-- fewer places are left
pub fewer : (old left new : List code.Place) (p : code.Place) → old ≡ left ++ p ∷ [] → waiting new ≡ parts_of (plain_place p) ++ waiting left
    → length (all_places (waiting new)) < length (all_places (waiting old))
fewer old left new p e g =
    let f : length (all_places (waiting old)) ≡ suc (length (all_places (waiting new))) =
    ap (λ l. length (all_places l)) (pushed left old p e) ∙ ap length (opened (plain_place p) (waiting left)) ∙ ap (λ l. suc (length (all_places l))) (sym g) in
    omega arith

-- ---- from a place on

-- a place of a list, what is nested in it and what stands behind that
pub record From (all : List Place) (i : ℕ) : Type 0 where
  pub first : Place
  pub rest : List Place
  pub here : drop i all ≡ all_places (first ∷ rest)
  pub behind : drop (i + 1) all ≡ all_places (parts_of first ++ rest)

from_later : (p : Place) (ps : List Place) (i : ℕ) → From (all_places (parts_of p ++ ps)) i → From (all_places (p ∷ ps)) (suc i)
from_later p ps i f = let e : suc i + 1 ≡ suc (i + 1) = omega arith in record {
  first = f.first;
  rest = f.rest;
  here = ap (drop (suc i)) (opened p ps) ∙ f.here;
  behind = ap (drop (suc i + 1)) (opened p ps) ∙ ap (λ k. drop k (p ∷ all_places (parts_of p ++ ps))) e ∙ f.behind;
}

pub from : (i : ℕ) (ps : List Place) → i < length (all_places ps) → From (all_places ps) i
from i [] h = absurd (omega arith)
from zero (p ∷ ps) h = record { first = p; rest = ps; here = refl; behind = ap (drop 1) (opened p ps) }
from (suc i) (p ∷ ps) h =
    let count : length (all_places (p ∷ ps)) ≡ suc (length (all_places (parts_of p ++ ps))) = ap length (opened p ps) in
    from_later p ps i (from i (parts_of p ++ ps) (omega (arith, h, count)))
