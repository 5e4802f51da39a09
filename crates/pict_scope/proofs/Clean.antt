-- Marks of which none is refused.
use Rattle.std.proofs.Common.{◌≡◌, Bool, true, false, List, [], ◌∷◌, ◌++◌, Option, Some, None, refl, sym, ◌∙◌, ap}
use Rattle.std.specs.Prelude.{IsTrue, not}
use Rattle.pict_syntax.specs.declared.code.Code.{Code}
use Rattle.pict_syntax.specs.declared.id.Id.{Id}
use Rattle.pict_syntax.specs.Stops.{Stop}
use Rattle.pict_scope.specs.Around.{is_among}
use Rattle.pict_scope.specs.Marks.{Mark, value_used, type_used, value_bound, stands_twice, first_stop}
use Rattle.pict_scope.specs.Outlines.{opens, marks, twice_if}
use Rattle.pict_scope.specs.Scopes.{scope_stop}
use Rattle.pict_scope.specs.Laws.{OneScopeStop, UsesAreBound, PartsAreScoped, StandsOnce, AreInOrder}

all_in_order : (ms : List Mark) → first_stop ms ≡ None → AreInOrder ms
all_in_order [] h = tt
all_in_order (value_used s None ∷ ms) h = absurd cc
all_in_order (value_used s (Some t) ∷ ms) h = (refl, all_in_order ms h)
all_in_order (type_used s None ∷ ms) h = absurd cc
all_in_order (type_used s (Some t) ∷ ms) h = (refl, all_in_order ms h)
all_in_order (value_bound n ∷ ms) h = (tt, all_in_order ms h)
all_in_order (stands_twice c s ∷ ms) h = absurd cc

pub right_clean : (ms ns : List Mark) → first_stop (ms ++ ns) ≡ None → first_stop ns ≡ None
right_clean [] ns h = h
right_clean (value_used s None ∷ ms) ns h = absurd cc
right_clean (value_used s (Some t) ∷ ms) ns h = right_clean ms ns h
right_clean (type_used s None ∷ ms) ns h = absurd cc
right_clean (type_used s (Some t) ∷ ms) ns h = right_clean ms ns h
right_clean (value_bound n ∷ ms) ns h = right_clean ms ns h
right_clean (stands_twice c s ∷ ms) ns h = absurd cc

pub left_clean : (ms ns : List Mark) → first_stop (ms ++ ns) ≡ None → first_stop ms ≡ None
left_clean [] ns h = refl
left_clean (value_used s None ∷ ms) ns h = absurd cc
left_clean (value_used s (Some t) ∷ ms) ns h = left_clean ms ns h
left_clean (type_used s None ∷ ms) ns h = absurd cc
left_clean (type_used s (Some t) ∷ ms) ns h = left_clean ms ns h
left_clean (value_bound n ∷ ms) ns h = left_clean ms ns h
left_clean (stands_twice c s ∷ ms) ns h = absurd cc

same_stop : (o : Option Stop) (x y : Stop) → o ≡ Some x → o ≡ Some y → x ≡ y
same_stop None x y h k = absurd cc
same_stop (Some z) x y h k = let e : z ≡ x = cc in let f : z ≡ y = cc in sym e ∙ f

pub one_scope_stop : OneScopeStop
one_scope_stop texts p c d s t h k =
    let e : (c, s) ≡ (d, t) = same_stop (scope_stop texts p) (c, s) (d, t) h k in
    (ap (λ x. x.0) e, ap (λ x. x.1) e)

pub uses_are_bound : UsesAreBound
uses_are_bound texts p h = all_in_order _ h

pub parts_are_scoped : PartsAreScoped
unfolding opens marks
parts_are_scoped o p a h = (left_clean (marks o a) (marks p (opens o a)) h, right_clean (marks o a) (marks p (opens o a)) h)

new_name : (t : Bool) (c : Code) (x : Id) → first_stop (twice_if t c x) ≡ None → IsTrue (not t)
new_name false c x h = refl
new_name true c x h = absurd cc

pub stands_once : StandsOnce
unfolding marks
stands_once c x a h = new_name (is_among a.group x.name.0) c x h
