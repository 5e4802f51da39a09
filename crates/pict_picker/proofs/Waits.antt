-- The channel at which one more may wait after a deed is that at which the process stands.
use Rattle.std.proofs.Common.{ℕ, ◌<◌, ◌≡◌, Bool, true, false, List, length, refl, sym, ap, ◌∙◌, subst, Option, Some, None}
use Rattle.pict_syntax.specs.declared.span.Span.{Span}
use Rattle.pict_core.specs.Term.{Val, Pat, Process, Zero, Par, New, Out, In, If, Chan, Boolean, PrimitiveVal}
use Rattle.pict_core.specs.Closed.{IsUnder}
use Rattle.pict_core.specs.Deed as deeds
use Rattle.pict_core.specs.Deed.{leaves, performs, serves, takes, offers, asks, sends, receives, chooses}
use Rattle.pict_core.specs.Matching.{match_value}
use Rattle.pict_core.specs.Primitives.{Effect, Leaves, Nothing, Answer, Trap, effect_of}
use Rattle.pict_core.specs.Step.{Label, printing}
use Rattle.pict_heap.specs.HeapState.{HeapState}
use Rattle.pict_view.specs.Placed.{partner_at}
use Rattle.pict_picker.specs.Deeds.{deed_of, IsDeed}
use Rattle.pict_picker.specs.Lists.{grows_at}
use Rattle.pict_picker.specs.Partners.{stands_at, channel_in}
use Rattle.pict_picker.specs.declared.deed.Deed.{Deed}
use Rattle.pict_picker.specs.declared.deed.Deed.TheVariants as deed

-- the channel at which one more may wait after the deed
abbrev waits_after : deeds.Deed → Option ℕ
waits_after (deeds.Parks c p) = Some c
waits_after (deeds.Serves c v b reader body) = Some c
waits_after _ = None

no_leaves : (at : Span) (label : Label) (l : Leaves) → waits_after (leaves at label l) ≡ None
no_leaves at label Nothing = refl
no_leaves at label (Answer k a) = refl
no_leaves at label Trap = refl

no_performs : (at : Span) (o : Option Effect) → waits_after (performs at o) ≡ None
no_performs at None = refl
no_performs at (Some e) = no_leaves at (printing e.printed) e.leaves

no_chooses : (t : Val) (p q : Process) → waits_after (chooses t p q) ≡ None
no_chooses (Boolean true) p q = refl
no_chooses (Boolean false) p q = refl
no_chooses _ p q = refl

serves_at : (c : ℕ) (m : Val) (b : Bool) (reader body : Process) (o : Option (List Val)) (k : ℕ) → waits_after (serves c m b reader body o) ≡ Some k → Some c ≡ Some k
serves_at c m b reader body None k e = cc
serves_at c m b reader body (Some bound) k e = e

no_takes : (c : ℕ) (m : Val) (b : Bool) (body : Process) (o : Option (List Val)) → waits_after (takes c m b body o) ≡ None
no_takes c m b body None = refl
no_takes c m b body (Some bound) = refl

offers_at : (c : ℕ) (m : Val) (sender : Process) (partner : Option Process) (k : ℕ) → waits_after (offers c m sender partner) ≡ Some k → Some c ≡ Some k
offers_at c m sender None k e = e
offers_at c m sender (Some (In chan b pattern body)) k e = serves_at c m b (In chan b pattern body) body (match_value pattern m) k e
offers_at c m sender (Some _) k e = cc

asks_at : (c : ℕ) (b : Bool) (pattern : Pat) (body reader : Process) (partner : Option Process) (k : ℕ) → waits_after (asks c b pattern body reader partner) ≡ Some k → Some c ≡ Some k
asks_at c b pattern body reader None k e = e
asks_at c b pattern body reader (Some (Out chan m at)) k e = let n = no_takes c m b body (match_value pattern m) in cc
asks_at c b pattern body reader (Some _) k e = cc

sends_at : (to m : Val) (at : Span) (partner : Option Process) (k : ℕ) → waits_after (sends to m at partner) ≡ Some k → channel_in (stands_at (Out to m at)) ≡ Some k
sends_at (PrimitiveVal f) m at partner k e = let n = no_performs at (effect_of f m) in cc
sends_at (Chan c) m at partner k e = offers_at c m (Out (Chan c) m at) partner k e
sends_at _ m at partner k e = cc

receives_at : (from : Val) (b : Bool) (pattern : Pat) (body : Process) (partner : Option Process) (k : ℕ) → waits_after (receives from b pattern body partner) ≡ Some k
    → channel_in (stands_at (In from b pattern body)) ≡ Some k
receives_at (Chan c) b pattern body partner k e = asks_at c b pattern body (In (Chan c) b pattern body) partner k e
receives_at _ b pattern body partner k e = cc

stands_there : (n : ℕ) (partner : Option Process) (own : Process) (k : ℕ) → waits_after (deeds.deed n partner own) ≡ Some k → channel_in (stands_at own) ≡ Some k
stands_there n partner Zero k e = cc
stands_there n partner (Par p q) k e = cc
stands_there n partner (New p) k e = cc
stands_there n partner (Out to m at) k e = sends_at to m at partner k e
stands_there n partner (In from b pattern body) k e = receives_at from b pattern body partner k e
stands_there n partner (If t p q) k e = let none = no_chooses t p q in cc

grows_after : (core : Process) (h : HeapState) (lists : List (List Process)) (j : ℕ) (own : Process) (d : Deed) → grows_at d ≡ waits_after (deed_of core h lists j own d)
grows_after core h lists j own (deed.Ends word) = refl
grows_after core h lists j own (deed.Keeps w word) = refl
grows_after core h lists j own (deed.Forks left right) = refl
grows_after core h lists j own (deed.Opens part) = refl
grows_after core h lists j own (deed.Waits c) = refl
grows_after core h lists j own (deed.Parks c kept) = refl
grows_after core h lists j own (deed.Serves c m b body) = refl
grows_after core h lists j own (deed.Takes c m b body) = refl
grows_after core h lists j own (deed.Stops at) = refl

pub grows_own : (core : Process) (h : HeapState) (lists : List (List Process)) (j : ℕ) (own : Process) (d : Deed) → IsDeed core h lists j own d → (c : ℕ) → grows_at d ≡ Some c → channel_in (stands_at own) ≡ Some c
grows_own core h lists j own d is c e =
    stands_there (length lists) (partner_at j lists own) own c (ap waits_after is.is ∙ sym (grows_after core h lists j own d) ∙ e)

-- that channel is there
pub stands_low : (own : Process) (n c : ℕ) → channel_in (stands_at own) ≡ Some c → IsUnder 0 n own → c < n
stands_low (Out (Chan k) m at) n c e u = let same : k ≡ c = cc in subst (λ x. x < n) same u.0
stands_low (In (Chan k) b pattern body) n c e u = let same : k ≡ c = cc in subst (λ x. x < n) same u.0
stands_low _ n c e u = cc
