-- What a node with values for its frame stands for, and what its parts stand for after its step: one lemma an instruction.
use Rattle.std.proofs.Common.{ℕ, ◌+◌, ◌-◌, ◌<◌, ◌≡◌, Bool, true, false, cond, nat_lt, List, [], ◌∷◌, length, map, refl, sym, ap, ◌∙◌, subst, Some, arith}
use Rattle.std.proofs.lemmas.Bool.Decides.{nat_tests}
use Rattle.std.specs.List.{slice_get}
use Rattle.pict_syntax.specs.declared.span.Span.{Span}
use Rattle.pict_core.specs.Term.{Val, Pat, Process, Var, Zero, Par, New, Out, In, If}
use Rattle.pict_core.specs.Substitution.{replace, replace_value, substitute}
use Rattle.pict_code.specs.Frames.{frame_of}
use Rattle.pict_code.specs.Nodes.{Place, place, places}
use Rattle.pict_code.specs.Standing.{closing, with_frame}
use Rattle.pict_code.proofs.Agreeing.{agree}
use Rattle.pict_code.proofs.Framed.{frame_is_enough}
use Rattle.pict_code.proofs.Numbering.{PlacedAt, first_of}
use Rattle.pict_desk.proofs.Variables.{HasNoVar}
use Rattle.pict_desk.proofs.Putting.{extended, put_closed}

-- ---- a part with the values of all variables around it

-- the node of a part, where the variables around it have these values
abbrev pub node_with : ℕ → (ℕ → Val) → Process → Process
node_with n values p = with_frame (place n p) (map values (frame_of n p))

-- an operand, with these values
abbrev pub operand : ℕ → (ℕ → Val) → Val → Val
operand n values v = replace_value (closing n values) v

pub par_stands : (n : ℕ) (values : ℕ → Val) (p q : Process) → node_with n values (Par p q) ≡ Par (node_with n values p) (node_with n values q)
par_stands n values p q = frame_is_enough n values (Par p q) ∙ sym (cc (frame_is_enough n values p, frame_is_enough n values q))

pub if_stands : (n : ℕ) (values : ℕ → Val) (test : Val) (p q : Process)
    → node_with n values (If test p q) ≡ If (operand n values test) (node_with n values p) (node_with n values q)
if_stands n values test p q = frame_is_enough n values (If test p q) ∙ sym (cc (frame_is_enough n values p, frame_is_enough n values q))

pub out_stands : (n : ℕ) (values : ℕ → Val) (chan message : Val) (at : Span)
    → node_with n values (Out chan message at) ≡ Out (operand n values chan) (operand n values message) at
out_stands n values chan message at = frame_is_enough n values (Out chan message at)

pub new_stands : (n : ℕ) (values : ℕ → Val) (p : Process) → node_with n values (New p) ≡ New (replace (closing n values) p)
new_stands n values p = frame_is_enough n values (New p)

pub in_stands : (n : ℕ) (values : ℕ → Val) (chan : Val) (replicated : Bool) (pattern : Pat) (body : Process)
    → node_with n values (In chan replicated pattern body) ≡ In (operand n values chan) replicated pattern (replace (closing n values) body)
in_stands n values chan replicated pattern body = frame_is_enough n values (In chan replicated pattern body)

-- The body once closed values are put in: its node, under as many variables more, where these values stand beside the
-- others.
pub body_stands : (n : ℕ) (values later : ℕ → Val) (bound : List Val) (k : ℕ) → k ≡ length bound → ((level : ℕ) → HasNoVar (values level))
    → ((level : ℕ) → level < n + k → later level ≡ extended n values bound level) → (p : Process)
    → substitute 0 bound (replace (closing n values) p) ≡ node_with (n + k) later p
body_stands n values later bound k many closed holds p =
    put_closed n values bound closed p
    ∙ ap (λ j. replace (closing (n + j) (extended n values bound)) p) (sym many)
    ∙ agree (closing (n + k) (extended n values bound)) (closing (n + k) later) (λ _. refl) p (λ level h. same_below level (nat_lt level (n + k)) refl)
    ∙ sym (frame_is_enough (n + k) later p)
  where
    same_below : (level : ℕ) (b : Bool) → nat_lt level (n + k) ≡ b
        → cond b (extended n values bound level) (Var (level - (n + k))) ≡ cond b (later level) (Var (level - (n + k)))
    same_below level true e = let low : level < n + k = grind (arith, nat_tests) in sym (holds level low)
    same_below level false e = refl

-- ---- where parts stand

places_begin : (n : ℕ) (p : Process) → (ps : List Place) × (places n p ≡ place n p ∷ ps)
places_begin n Zero = ([], refl)
places_begin n (Par p q) = (_, refl)
places_begin n (New p) = (_, refl)
places_begin n (Out chan message at) = ([], refl)
places_begin n (In chan replicated pattern body) = (_, refl)
places_begin n (If test p q) = (_, refl)

-- the first of the parts that stand from a number on
pub placed_at : (core : Process) (i n : ℕ) (p : Process) → PlacedAt core i n p → slice_get (places 0 core) i ≡ Some (place n p)
placed_at core i n p h =
    let b = places_begin n p in
    first_of (places 0 core) i (place n p) b.0 (subst (λ l. (j : ℕ) → j < length l → slice_get (places 0 core) (i + j) ≡ slice_get l j) b.1 h)
