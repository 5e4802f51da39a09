-- What is said of a binder is exactly what is certain of it.
use Rattle.std.proofs.Common.{◌≡◌, Bool, true, false, List, [], ◌∷◌, Some, refl, ap, subst}
use Rattle.std.specs.List.{list_any}
use Rattle.pict_unused.specs.declared.item.Role.{Role}
use Rattle.pict_unused.specs.declared.item.Role.TheVariants.{Sent, Received, Called, HandedOn}
use Rattle.pict_unused.specs.declared.item.Form.{Form}
use Rattle.pict_unused.specs.declared.item.Form.TheVariants.{New, Def, Pattern}
use Rattle.pict_unused.specs.declared.certain.Said.{Said}
use Rattle.pict_unused.specs.declared.certain.Said.TheVariants.{NeverUsed, NobodyReceives, NobodySends}
use Rattle.pict_unused.specs.Hints.{sends, receives, hands_on, said_where, said_of}
use Rattle.pict_unused.specs.Laws.{AreAll, IsCertain, OnlyCertainIsSaid}

-- ---- each role is one of three

nothing : (roles : List Role) → list_any sends roles ≡ false → list_any receives roles ≡ false → list_any hands_on roles ≡ false → roles ≡ []
nothing [] p q t = refl
nothing (Sent ∷ roles) p q t = absurd cc
nothing (Called ∷ roles) p q t = absurd cc
nothing (Received ∷ roles) p q t = absurd cc
nothing (HandedOn ∷ roles) p q t = absurd cc

all_send : (roles : List Role) → list_any receives roles ≡ false → list_any hands_on roles ≡ false → AreAll sends roles
all_send [] q t = tt
all_send (Sent ∷ roles) q t = (refl, all_send roles q t)
all_send (Called ∷ roles) q t = (refl, all_send roles q t)
all_send (Received ∷ roles) q t = absurd cc
all_send (HandedOn ∷ roles) q t = absurd cc

all_receive : (roles : List Role) → list_any sends roles ≡ false → list_any hands_on roles ≡ false → AreAll receives roles
all_receive [] p t = tt
all_receive (Sent ∷ roles) p t = absurd cc
all_receive (Called ∷ roles) p t = absurd cc
all_receive (Received ∷ roles) p t = (refl, all_receive roles p t)
all_receive (HandedOn ∷ roles) p t = absurd cc

some_there : (f : Role → Bool) (roles : List Role) → list_any f roles ≡ true → roles ≡ [] → ⊥
some_there f [] p e = cc
some_there f (role ∷ roles) p e = cc

-- ---- and back

none_receive : (roles : List Role) → AreAll sends roles → list_any receives roles ≡ false
none_receive [] all = refl
none_receive (Sent ∷ roles) all = none_receive roles all.1
none_receive (Called ∷ roles) all = none_receive roles all.1
none_receive (Received ∷ roles) all = let h = all.0 in absurd cc
none_receive (HandedOn ∷ roles) all = let h = all.0 in absurd cc

none_hand_on : (roles : List Role) → AreAll sends roles → list_any hands_on roles ≡ false
none_hand_on [] all = refl
none_hand_on (Sent ∷ roles) all = none_hand_on roles all.1
none_hand_on (Called ∷ roles) all = none_hand_on roles all.1
none_hand_on (Received ∷ roles) all = let h = all.0 in absurd cc
none_hand_on (HandedOn ∷ roles) all = let h = all.0 in absurd cc

none_send : (roles : List Role) → AreAll receives roles → list_any sends roles ≡ false
none_send [] all = refl
none_send (Sent ∷ roles) all = let h = all.0 in absurd cc
none_send (Called ∷ roles) all = let h = all.0 in absurd cc
none_send (Received ∷ roles) all = none_send roles all.1
none_send (HandedOn ∷ roles) all = let h = all.0 in absurd cc

none_kept : (roles : List Role) → AreAll receives roles → list_any hands_on roles ≡ false
none_kept [] all = refl
none_kept (Sent ∷ roles) all = let h = all.0 in absurd cc
none_kept (Called ∷ roles) all = let h = all.0 in absurd cc
none_kept (Received ∷ roles) all = none_kept roles all.1
none_kept (HandedOn ∷ roles) all = let h = all.0 in absurd cc

one_sends : (roles : List Role) → (roles ≡ [] → ⊥) → AreAll sends roles → list_any sends roles ≡ true
one_sends [] some all = absurd (some refl)
one_sends (Sent ∷ roles) some all = refl
one_sends (Called ∷ roles) some all = refl
one_sends (Received ∷ roles) some all = let h = all.0 in absurd cc
one_sends (HandedOn ∷ roles) some all = let h = all.0 in absurd cc

one_receives : (roles : List Role) → (roles ≡ [] → ⊥) → AreAll receives roles → list_any receives roles ≡ true
one_receives [] some all = absurd (some refl)
one_receives (Sent ∷ roles) some all = let h = all.0 in absurd cc
one_receives (Called ∷ roles) some all = let h = all.0 in absurd cc
one_receives (Received ∷ roles) some all = refl
one_receives (HandedOn ∷ roles) some all = let h = all.0 in absurd cc

-- ---- what is said

certain_where : (said : Said) (form : Form) (roles : List Role) (s r h : Bool) → list_any sends roles ≡ s → list_any receives roles ≡ r → list_any hands_on roles ≡ h → said_where form s r h ≡ Some said → IsCertain said form roles
certain_where said form roles false false false p q t is = let e : NeverUsed ≡ said = cc in subst (λ x. IsCertain x form roles) e (nothing roles p q t)
certain_where said New roles true false false p q t is = let e : NobodyReceives ≡ said = cc in subst (λ x. IsCertain x New roles) e (refl, (some_there sends roles p, all_send roles q t))
certain_where said New roles false true false p q t is = let e : NobodySends ≡ said = cc in subst (λ x. IsCertain x New roles) e (refl, (some_there receives roles q, all_receive roles p t))
certain_where said New roles true true false p q t is = absurd cc
certain_where said New roles false false true p q t is = absurd cc
certain_where said New roles true false true p q t is = absurd cc
certain_where said New roles false true true p q t is = absurd cc
certain_where said New roles true true true p q t is = absurd cc
certain_where said Def roles true false false p q t is = absurd cc
certain_where said Def roles false true false p q t is = absurd cc
certain_where said Def roles true true false p q t is = absurd cc
certain_where said Def roles false false true p q t is = absurd cc
certain_where said Def roles true false true p q t is = absurd cc
certain_where said Def roles false true true p q t is = absurd cc
certain_where said Def roles true true true p q t is = absurd cc
certain_where said Pattern roles true false false p q t is = absurd cc
certain_where said Pattern roles false true false p q t is = absurd cc
certain_where said Pattern roles true true false p q t is = absurd cc
certain_where said Pattern roles false false true p q t is = absurd cc
certain_where said Pattern roles true false true p q t is = absurd cc
certain_where said Pattern roles false true true p q t is = absurd cc
certain_where said Pattern roles true true true p q t is = absurd cc

is_said : (said : Said) (form : Form) (roles : List Role) → IsCertain said form roles → said_of form roles ≡ Some said
is_said NeverUsed form roles h = ap (said_of form) h
is_said NobodyReceives form roles h = λ i. said_where (h.0 i) (one_sends roles h.1.0 h.1.1 i) (none_receive roles h.1.1 i) (none_hand_on roles h.1.1 i)
is_said NobodySends form roles h = λ i. said_where (h.0 i) (none_send roles h.1.1 i) (one_receives roles h.1.0 h.1.1 i) (none_kept roles h.1.1 i)

pub only_certain_is_said : OnlyCertainIsSaid
only_certain_is_said said form roles = (certain_where said form roles _ _ _ refl refl refl, is_said said form roles)
