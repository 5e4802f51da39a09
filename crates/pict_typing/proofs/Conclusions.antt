-- The laws of core typing, from the lemmas before them.
use Rattle.std.specs.Prelude.{slice_get}
use Rattle.std.proofs.Common.{◌≡◌, ◌⊎◌, ℕ, List, [], refl, sym, ap, Some, inl, inr, append-nil}
use Rattle.pict_syntax.specs.declared.primitive.Primitive.{Primitive}
use Rattle.pict_types.specs.Types.{Capability, Respond, PlainType, Chan}
use Rattle.pict_types.specs.PrimitiveTypes.{takes}
use Rattle.pict_core.specs.Term as core
use Rattle.pict_core.specs.Term.{Val}
use Rattle.pict_typing.specs.Erasing.{erased}
use Rattle.pict_typing.specs.Worlds.{over, IsTypeIn}
use Rattle.pict_typing.specs.Values.{raised}
use Rattle.pict_typing.specs.Processes.{AreClosedTypes}
use Rattle.pict_typing.specs.Laws.{TypesPutKeepTyping, ValuesPutKeepTyping, ConditionsAreTruthValues, GoesTo, ReceiversAreChannels, SendersAreChannelsOrPrimitives, NothingResponds, PrimitivesAct, MessagesAreReceived}
use Rattle.pict_typing.proofs.Closed.{closed_type}
use Rattle.pict_typing.proofs.Forms.{MaySend, both_fits, read_fits, write_fits, Fits, channel_fits, primitive_fits, fits_have, takes_type}
use Rattle.pict_typing.proofs.Canonical.{canonical, sent_fits, condition, readable, IsWritable, to_channel, to_primitive, writable}
use Rattle.pict_typing.proofs.Performing.{performs}
use Rattle.pict_typing.proofs.TypesPut.{typed_instantiated}
use Rattle.pict_typing.proofs.ValuesPut.{typed_put}
use Rattle.pict_typing.proofs.Receiving.{received_typed}

pub types_put : TypesPutKeepTyping
types_put w r d p k i h = typed_instantiated k i h

pub values_put : ValuesPutKeepTyping
values_put names ms vs ts p k x h = typed_put (over names ms) vs ts k x (ap (λ l. record (over names ms) { variables = l }) (sym (append-nil ts))) h

pub conditions : ConditionsAreTruthValues
conditions names ms v k h = let c = condition names ms k h in (c.truth, c.is)

pub receivers : ReceiversAreChannels
receivers names ms v t k f h =
    let r = readable names ms k h in
    (r.number, r.message, r.is, r.typed, λ u x. raised r.message (closed_type names ms r.number r.message k r.typed) f x r.below)

goes : (names : List (List ℕ)) (ms : List PlainType) (s t : PlainType) → AreClosedTypes names ms → IsTypeIn names [] s → IsTypeIn names [] t → MaySend names s t → GoesTo names ms s t
goes names ms s t k f g y v h = fits_have names ms k g (sent_fits names ms k f g y (canonical names ms k h))

pub senders : SendersAreChannelsOrPrimitives
senders names ms v t k f h = of_form v (writable names ms k h)
  where
    of_form : (v : Val) → IsWritable names ms k t v → ((c : ℕ) × (m : PlainType) × (v ≡ core.Chan c) × (slice_get ms c ≡ Some m) × GoesTo names ms t m) ⊎ ((p : Primitive) × (v ≡ core.PrimitiveVal p) × GoesTo names ms t (erased (takes p)))
    of_form v (to_channel {c = c} {m = m} e y) = inl (c, m, refl, e, goes names ms t m k f (closed_type names ms c m k e) y)
    of_form v (to_primitive {p = p} y) = inr (p, refl, goes names ms t (erased (takes p)) k f (takes_type names p) y)

none_fits : {names : List (List ℕ)} {ms : List PlainType} {v : Val} {k : Capability} {t : PlainType} → Fits names ms v (Chan k t) → k ≡ Respond → ⊥
none_fits (channel_fits e both_fits) q = absurd (cc)
none_fits (channel_fits e (read_fits d)) q = absurd (cc)
none_fits (channel_fits e (write_fits y)) q = absurd (cc)
none_fits (primitive_fits y) q = absurd (cc)

pub nothing_responds : NothingResponds
nothing_responds names ms v t k h = none_fits (canonical names ms k h) refl

pub primitives_act : PrimitivesAct
primitives_act names ms p v k h = let e = performs names ms k p (canonical names ms k h) in (e.effect, e.is)

pub messages_received : MessagesAreReceived
messages_received names ms pattern_ t d n ts message body k f h o b = received_typed t k f o b (canonical names ms k h)
