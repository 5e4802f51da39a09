-- Worlds with further variables, and values on their way into a process.
use Rattle.std.proofs.Common.{◌≡◌, ◌+◌, List, [], ◌∷◌, ◌++◌, map, length, true, refl, sym, ◌∙◌, ap, ap₂, subst, Option, Some, None, arith, append_assoc, append-nil, length-append}
use Rattle.pict_types.specs.Types.{Both, Read, Write, PlainType, Chan}
use Rattle.pict_types.specs.Renaming.{rename}
use Rattle.pict_types.proofs.Renamed.{rename_same}
use Rattle.pict_sub.specs.Subtyping.{IsSubtype, same, upward, downward, both_read, both_write, write_write}
use Rattle.pict_core.specs.Term as core
use Rattle.pict_core.specs.Term.{Val, Bind, In}
use Rattle.pict_typing.specs.Worlds.{World, IsType, with_variable, shifted}
use Rattle.pict_typing.specs.Values.{HasType, variable_has, raised}
use Rattle.pict_typing.specs.Opening.{binds_one}
use Rattle.pict_typing.specs.Processes as typed
use Rattle.pict_typing.specs.Processes.{IsTyped, AreClosedTypes}
use Rattle.pict_translation.specs.Placed.{Placed}
use Rattle.pict_translation.specs.Arguments.{with_value}
use Rattle.pict_bridge.specs.Embedding.{WorldGrows}
use Rattle.pict_bridge.proofs.Growing.{value_grown}
use Rattle.pict_bridge.proofs.Opened.{embeds_same}
use Rattle.pict_bridge.specs.Standing.{Stands, Longer, Sends, Takes, OnItsWay}
use Rattle.pict_typing.proofs.ValuesPut.{stays_before}
use Rattle.pict_typing.proofs.Rows.{last_message}

-- ---- longer worlds

pub not_longer : (w : World) → Longer w w
not_longer w = record { further = []; is = ap (λ z. record w { variables = z }) (sym (append-nil w.variables)) }

abbrev longer_by : List PlainType → World → World
longer_by ts w = record w { variables = w.variables ++ ts }

pub longer_more : {w v u : World} → Longer w v → Longer v u → Longer w u
longer_more {w = w} {v = v} {u = u} x y = record {
  further = x.further ++ y.further;
  is = y.is ∙ ap (longer_by y.further) x.is ∙ ap (λ z. record w { variables = z }) (append_assoc w.variables x.further y.further);
}

pub longer_grows : {w v : World} → Longer w v → WorldGrows (λ i. i) w v
longer_grows {w = w} l = subst (WorldGrows (λ i. i) w) (sym l.is) (record {
  names_ = refl;
  messages_ = refl;
  embeds = embeds_same w.type_variables;
  variables_ = λ i t e. stays_before w.variables l.further i (rename (λ j. j) t) (e ∙ ap Some (sym (rename_same t (record { each = λ j. refl }))));
})

pub has_longer : {w v : World} {u : Val} {t : PlainType} → AreClosedTypes w.names w.messages → Longer w v → HasType w u t → HasType v u t
has_longer {v = v} {u = u} {t = t} k l h = subst (HasType v u) (rename_same t (record { each = λ j. refl })) (value_grown k (longer_grows l) h)

pub type_longer : {w v : World} (t : PlainType) → Longer w v → IsType w t → IsType v t
type_longer t l f = subst (λ z. IsType z t) (sym l.is) f

pub below_longer : {w v : World} (s t : PlainType) → Longer w v → IsSubtype w.type_variables s t → IsSubtype v.type_variables s t
below_longer s t l d = subst (λ (z : World). IsSubtype z.type_variables s t) (sym l.is) d

pub closed_longer : {w v : World} → Longer w v → AreClosedTypes w.names w.messages → AreClosedTypes v.names v.messages
closed_longer l k = subst (λ (z : World). AreClosedTypes z.names z.messages) (sym l.is) k

pub sends_longer : {w v : World} {t : PlainType} (sent : Val → Placed) → Longer w v → Sends w t sent → Sends v t sent
sends_longer sent l s u k m h = s u k (longer_more l m) h

pub way_longer : {w v : World} (t : PlainType) (o : Option Val) (sent : Val → Placed) → AreClosedTypes w.names w.messages → Longer w v → OnItsWay w t o sent → OnItsWay v t o sent
way_longer t None sent k l h = sends_longer sent l h
way_longer t (Some u) sent k l h = has_longer k l h

-- where a subtype is sent, so is the type
pub sends_up : {w : World} {s t : PlainType} (sent : Val → Placed) → IsType w s → IsType w t → IsSubtype w.type_variables s t → Sends w s sent → Sends w t sent
sends_up {s = s} {t = t} sent f g d h v k l m = h v k l (raised (Chan Write t) (type_longer t l g) (type_longer s l f) m (downward write_write (below_longer s t l d)))

pub way_up : (w : World) (s t : PlainType) (o : Option Val) (sent : Val → Placed) → IsType w s → IsType w t → IsSubtype w.type_variables s t → OnItsWay w s o sent → OnItsWay w t o sent
way_up w s t None sent f g d h = sends_up sent f g d h
way_up w s t (Some u) sent f g d h = raised s f g h d

-- ---- with v as x, E

pub same_shift : (ts : List PlainType) → map (shifted 0) ts ≡ ts
same_shift [] = refl
same_shift (t ∷ ts) = ap₂ (λ a b. a ∷ b) (rename_same t (record { each = λ j. omega arith })) (same_shift ts)

-- one more variable, the last one
pub one_longer : (t : PlainType) (w : World) → Longer w (with_variable t w)
one_longer t w = record { further = t ∷ []; is = refl }

pub last_has : (t : PlainType) (w : World) → HasType (with_variable t w) (core.Var (length w.variables)) t
last_has t w = variable_has (last_message w.variables t)

pub count_more : (t : PlainType) (w : World) → length (with_variable t w).variables ≡ length w.variables + 1
count_more t w = length-append w.variables (t ∷ [])

-- the last variable is a channel: messages may be sent on it, and received
pub last_sends : (t : PlainType) (w : World) → IsType w t → HasType (with_variable (Chan Both t) w) (core.Var (length w.variables)) (Chan Write t)
last_sends t w f = raised (Chan Both t) f f (last_has (Chan Both t) w) (downward both_write same)

pub last_receives : (t : PlainType) (w : World) → IsType w t → HasType (with_variable (Chan Both t) w) (core.Var (length w.variables)) (Chan Read t)
last_receives t w f = raised (Chan Both t) f f (last_has (Chan Both t) w) (upward both_read same)

-- where the value is sent on a new channel, the channel's messages have its type
pub with_stands : (w : World) (t : PlainType) (o : Option Val) (sent E : Val → Placed) → IsType w t → OnItsWay w t o sent → Takes w t E → Stands w (with_value o sent E)
with_stands w t (Some u) sent E f x e = e w u (not_longer w) x
with_stands w t None sent E f x e = typed.fresh t f (typed.beside reader sender)
  where
    c : World
    c = with_variable (Chan Both t) w

    b : World
    b = with_variable t c

    long : length c.variables ≡ length w.variables + 1
    long = count_more (Chan Both t) w

    sender : IsTyped c (sent (core.Var (length w.variables)) (length w.variables + 1))
    sender = subst (λ n. IsTyped c (sent (core.Var (length w.variables)) n)) long (x c (core.Var (length w.variables)) (one_longer (Chan Both t) w) (last_sends t w f))

    body : IsTyped b (E (core.Var (length w.variables + 1)) (length w.variables + 1 + 1))
    body =
        let h : HasType b (core.Var (length w.variables + 1)) t = subst (λ n. HasType b (core.Var n) t) long (last_has t c) in
        subst (λ n. IsTyped b (E (core.Var (length w.variables + 1)) n)) (count_more t c ∙ ap (λ n. n + 1) long) (e b (core.Var (length w.variables + 1)) (longer_more (one_longer (Chan Both t) w) (one_longer t c)) h)

    reader : IsTyped c (In (core.Var (length w.variables)) true Bind (E (core.Var (length w.variables + 1)) (length w.variables + 1 + 1)))
    reader = typed.input t f (last_receives t w f) binds_one (subst (λ z. IsTyped (record w { variables = z ++ t ∷ [] }) (E (core.Var (length w.variables + 1)) (length w.variables + 1 + 1))) (sym (same_shift c.variables)) body)
