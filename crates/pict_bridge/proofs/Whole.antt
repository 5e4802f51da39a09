-- Values that are sent whole, uses, and values of a type below another one.
use Rattle.std.proofs.Common.{◌≡◌, ℕ, List, length, Option, Some, None, refl, sym, subst}
use Rattle.std.specs.Prelude.{option_map, unwrap_or}
use Rattle.pict_syntax.specs.declared.span.Span.{Span}
use Rattle.pict_syntax.specs.declared.primitive.Primitive.{Primitive}
use Rattle.pict_syntax.specs.Names.{text_of}
use Rattle.pict_syntax.specs.Trees.{Val}
use Rattle.pict_types.specs.Types.{Both, Write, PlainType, Boolean, Chan}
use Rattle.pict_types.specs.PrimitiveTypes.{takes, type_of}
use Rattle.pict_sub.specs.Subtyping.{IsSubtype, below_top}
use Rattle.pict_core.specs.Term as core
use Rattle.pict_scope.specs.PrimitiveNames.{primitive_named}
use Rattle.pict_rules.specs.Environments.{Environment, context_of, known_type, type_or_top, type_or_primitive, type_of_use}
use Rattle.pict_rules.specs.Regular.{IsTypeIn}
use Rattle.pict_translation.specs.Placed.{Placed, output, new_channel}
use Rattle.pict_translation.specs.Simple.{value_at, or_primitive, use_of, nothing, simple}
use Rattle.pict_translation.specs.Translation.{sending}
use Rattle.pict_typing.specs.Erasing.{erased}
use Rattle.pict_typing.specs.Worlds.{World, IsType, with_variable}
use Rattle.pict_typing.specs.Values.{HasType, boolean_has, primitive_has, raised}
use Rattle.pict_typing.specs.Processes as typed
use Rattle.pict_typing.specs.Processes.{IsTyped, AreClosedTypes}
use Rattle.pict_typing.proofs.Closed.{closed_renamed}
use Rattle.pict_typing.proofs.Forms.{takes_type}
use Rattle.pict_bridge.specs.Opening.{meaning}
use Rattle.pict_bridge.specs.Standing.{Stands, Sends}
use Rattle.pict_bridge.specs.Realising.{around, Realises}
use Rattle.pict_bridge.proofs.Standing.{has_longer, type_longer, sends_up, way_up, count_more}
use Rattle.pict_bridge.proofs.Realised.{type_means, below_means}
use Rattle.pict_bridge.proofs.Judged.{Values, SentBy}

-- a value that is sent whole
pub whole_sends : {w : World} {t : PlainType} (u : core.Val) (at : Span) → AreClosedTypes w.names w.messages → IsType w t → HasType w u t → Sends w t (λ k. output k u at)
whole_sends {t = t} u at c f h v k l x = typed.output t (type_longer t l f) x (has_longer c l h)

-- where a value gives a type, it has each type above
pub sent_above : (e : Environment) (v : Val) (s t : PlainType) → IsTypeIn e s → IsTypeIn e t → IsSubtype (context_of e) s t → SentBy e v s → SentBy e v t
sent_above e v s t p q d h vs f w r =
    let x = h vs f w r in
    record {
      on_its_way = way_up w (meaning f s) (meaning f t) (simple (around e vs) v) (sending (around e vs) v) (type_means s r p) (type_means t r q) (below_means r d) x.on_its_way;
      sends = sends_up (sending (around e vs) v) (type_means s r p) (type_means t r q) (below_means r d) x.sends;
    }

-- new x, P
pub new_stands : (w : World) (t : PlainType) (F : core.Val → Placed) → IsType w t → Stands (with_variable (Chan Both t) w) (F (core.Var (length w.variables))) → Stands w (new_channel F)
new_stands w t F f h = typed.fresh t f (subst (λ n. IsTyped (with_variable (Chan Both t) w) (F (core.Var (length w.variables)) n)) (count_more (Chan Both t) w) h)

-- ---- uses

primitive_meant : (w : World) (f : ℕ → ℕ) (text : List ℕ) (o : Option Primitive) → HasType w (unwrap_or (option_map core.PrimitiveVal o) nothing) (meaning f (type_or_top (option_map type_of o)))
primitive_meant w f text None = raised Boolean tt tt boolean_has below_top
primitive_meant w f text (Some p) = subst (λ z. HasType w (core.PrimitiveVal p) (Chan Write z)) (sym (closed_renamed w.names f (erased (takes p)) (takes_type w.names p))) primitive_has

use_meant : (w : World) (f : ℕ → ℕ) (text : List ℕ) (o : Option PlainType) (u : Option core.Val) → ((t : PlainType) → o ≡ Some t → (v : core.Val) × (u ≡ Some v) × HasType w v (meaning f t)) → (o ≡ None → u ≡ None) → HasType w (or_primitive text u) (meaning f (type_or_primitive o text))
use_meant w f text None u h k = subst (λ z. HasType w (or_primitive text z) (meaning f (type_or_primitive None text))) (sym (k refl)) (primitive_meant w f text (primitive_named text))
use_meant w f text (Some t) u h k = let x = h t refl in subst (λ z. HasType w (or_primitive text z) (meaning f t)) (sym x.1) x.2

-- a use has the meaning of its type
pub use_has : {e : Environment} {vs : Values} {f : ℕ → ℕ} {w : World} (n : ℕ) → Realises e vs f w → HasType w (use_of (around e vs) n) (meaning f (type_of_use e n))
use_has {e = e} {vs = vs} {f = f} {w = w} n r = use_meant w f (text_of e.names n) (known_type e.values n) (value_at vs n) (λ t q. let x = r.known n t q in (x.value, x.is, x.has_)) (λ q. r.unknown n q)
