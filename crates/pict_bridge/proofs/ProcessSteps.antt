-- The steps of declarations and of processes.
use Rattle.std.proofs.Common.{◌≡◌, ◌≤◌, ℕ, true, false, List, [], ◌∷◌, None, refl, sym, subst}
use Rattle.pict_syntax.specs.declared.id.Id.{Id}
use Rattle.pict_syntax.specs.declared.code.Code.TheVariants.{Y1, Y2, Y3, Y15}
use Rattle.pict_syntax.specs.declared.span.Span.{Span}
use Rattle.pict_syntax.specs.Grammar.{chan_span, type_span}
use Rattle.pict_syntax.specs.Trees.{TypeTree, Pat, Val, of_chan, Chan, Abs, Dec, new_dec, run_dec, let_dec, def_dec, alias_dec, operator_dec, await_dec, Decs, no_decs, more_decs, Proc, send_proc, receive_proc, serve_proc, if_proc, inert_proc, group_proc, Procs, no_procs, more_procs}
use Rattle.pict_types.specs.Types.{Capability, Both, Read, Write, Respond, PlainType, Boolean, Chan as Chan_, PlainArg}
use Rattle.pict_normal.specs.Normal.{normal, kind_stop}
use Rattle.pict_scope.specs.Scopes.{scope_stop}
use Rattle.pict_sub.specs.Subtyping.{CarriesUp, read_read, both_read, CarriesDown, write_write, both_write, IsSubtype, same, upward, downward}
use Rattle.pict_sub.specs.Exposing.{exposure}
use Rattle.pict_sub.proofs.Exposed.{exposes}
use Rattle.pict_sub.proofs.Followed.{below_exposed}
use Rattle.pict_rules.specs.Complete.{is_complete}
use Rattle.pict_rules.specs.Environments.{Environment, context_of, extended, one_value, defined}
use Rattle.pict_rules.specs.Rules.{nothing_, environment_, declaration, declarations, process, processes, receives, pattern_gives, pattern_against, TypedPattern}
use Rattle.pict_rules.specs.Clauses.{with_parameters_in, may_send, may_receive}
use Rattle.pict_rules.specs.Regular.{IsTypeIn, IsGood}
use Rattle.pict_rules.specs.SameNames.{IsReadAs, IsNoStop}
use Rattle.pict_rules.proofs.Results.{result_has}
use Rattle.pict_rules.proofs.ReachedNames.{no_stop_is_reached}
use Rattle.pict_rules.proofs.BoundIds.{value_ids}
use Rattle.pict_rules.proofs.Names.{id_names, pattern_named, against_named}
use Rattle.pict_rules.proofs.RegularExpanded.{expands_well}
use Rattle.pict_rules.proofs.RegularProcesses.{exposed_formed}
use Rattle.pict_scope.specs.Forms.{in_val}
use Rattle.pict_translation.specs.Placed.{Placed, choice, side_by_side}
use Rattle.pict_translation.specs.Simple.{Around, simple, simple_chan}
use Rattle.pict_translation.specs.Translation.{sending, sending_chan, reader, dec_core, decs_core, proc_core, procs_core}
use Rattle.pict_typing.specs.Erasing.{erased_capability}
use Rattle.pict_typing.specs.Worlds.{World}
use Rattle.pict_typing.specs.Processes as typed
use Rattle.pict_bridge.specs.Opening.{meaning}
use Rattle.pict_bridge.proofs.Reaching.{gives_, parts, splits, ensures, unless, in_channels, in_boths}
use Rattle.pict_bridge.proofs.FieldsOpen.{Each, each_last}
use Rattle.pict_bridge.proofs.PatternSteps.{patterns_open}
use Rattle.pict_bridge.specs.Standing.{Stands, OnItsWay}
use Rattle.pict_bridge.specs.Realising.{around, Realises}
use Rattle.pict_bridge.proofs.Standing.{has_longer, type_longer, way_up, with_stands}
use Rattle.pict_bridge.proofs.NamesOnce.{times, pattern_once}
use Rattle.pict_bridge.proofs.Realised.{type_means, below_means, realises_longer}
use Rattle.pict_bridge.proofs.Judged.{Values, SentBy, ProcessStands, ProcessesStand, ReadsAt, Receives, Declares, Step}
use Rattle.pict_bridge.proofs.Rightly.{rightly, well}
use Rattle.pict_bridge.proofs.DeclarationForms.{none_declared, more_declared, new_declared, run_declared, let_declared, await_declared, same_declared, def_declared}

-- ---- declarations of types leave nothing

alias_is : (s : Span) (x : Id) (t : TypeTree) (a : Around) (rest : Around → Placed) → dec_core a (alias_dec s x t) rest ≡ rest a
unfolding sending
alias_is s x t a rest = refl

operator_is : (s : Span) (x : Id) (xs : List Id) (t : TypeTree) (a : Around) (rest : Around → Placed) → dec_core a (operator_dec s x xs t) rest ≡ rest a
unfolding sending
operator_is s x xs t a rest = refl

defined_realised : (e : Environment) (x : Id) (a : PlainArg) (vs : Values) (f : ℕ → ℕ) (w : World) → Realises e vs f w → Realises (defined e x a) vs f w
defined_realised e x a vs f w r = record { world_names = r.world_names; closed = r.closed; embeds = r.embeds; known = r.known; unknown = r.unknown }

-- ---- channels

send_carries_down : (m : Capability) → may_send m ≡ true → CarriesDown (erased_capability m) Write
send_carries_down Read h = absurd cc
send_carries_down Both h = both_write
send_carries_down Write h = write_write
send_carries_down Respond h = write_write

receive_carries_up : (m : Capability) → may_receive m ≡ true → CarriesUp (erased_capability m) Read
receive_carries_up Read h = read_read
receive_carries_up Both h = both_read
receive_carries_up Write h = absurd cc
receive_carries_up Respond h = absurd cc

-- a channel on its way at the type that it exposes to
chan_way : (e : Environment) (c : Chan) (t : PlainType) (m : Capability) (u : PlainType) (n : Capability) → IsTypeIn e t → IsTypeIn e (Chan_ m u) → exposure (context_of e) t ≡ Chan_ m u → ((s : PlainType) (z : World) → IsSubtype z.type_variables (Chan_ (erased_capability m) s) (Chan_ n s)) → SentBy e (of_chan c) t
    → (vs : Values) (f : ℕ → ℕ) (w : World) → Realises e vs f w → OnItsWay w (Chan_ n (meaning f u)) (simple_chan (around e vs) c) (sending_chan (around e vs) c)
unfolding simple sending
chan_way e c t m u n q p is below h vs f w r =
    way_up w (meaning f (Chan_ m u)) (Chan_ n (meaning f u)) (simple_chan (around e vs) c) (sending_chan (around e vs) c) (type_means (Chan_ m u) r p) (type_means u r p) (below (meaning f u) w)
    (way_up w (meaning f t) (meaning f (Chan_ m u)) (simple_chan (around e vs) c) (sending_chan (around e vs) c) (type_means t r q) (type_means (Chan_ m u) r p)
    (below_means r (subst (IsSubtype (context_of e) t) is (below_exposed (exposes (context_of e) t)))) (h vs f w r).on_its_way)

-- ---- processes

send_stands : (e : Environment) (s : Span) (c : Chan) (v : Val) (t : PlainType) (m : Capability) (u : PlainType) → IsTypeIn e t → IsTypeIn e (Chan_ m u) → exposure (context_of e) t ≡ Chan_ m u → may_send m ≡ true → SentBy e (of_chan c) t → SentBy e v u → ProcessStands e (send_proc s c v)
unfolding sending
send_stands e s c v t m u q p is may h k vs f w r =
    with_stands w (Chan_ Write (meaning f u)) (simple_chan (around e vs) c) (sending_chan (around e vs) c) _ (type_means u r p) (chan_way e c t m u Write q p is (λ z x. downward (send_carries_down m may) same) h vs f w r) (λ v1 x l y.
    let r1 = realises_longer l r in
    with_stands v1 (meaning f u) (simple (around e vs) v) (sending (around e vs) v) _ (type_means u r1 p) (k vs f v1 r1).on_its_way (λ v2 z l2 n.
    typed.output (meaning f u) (type_longer (meaning f u) l2 (type_means u r1 p)) (has_longer r1.closed l2 y) n))

receives_stand : (e : Environment) (c : Chan) (a : Abs) (t : PlainType) (m : Capability) (u : PlainType) → IsTypeIn e t → IsTypeIn e (Chan_ m u) → exposure (context_of e) t ≡ Chan_ m u → may_receive m ≡ true → SentBy e (of_chan c) t → ReadsAt e a u → Receives e c a
receives_stand e c a t m u q p is may h k vs f w r b =
    with_stands w (Chan_ Read (meaning f u)) (simple_chan (around e vs) c) (sending_chan (around e vs) c) (λ x. reader (around e vs) a x b) (type_means u r p) (chan_way e c t m u Read q p is (λ z x. upward (receive_carries_up m may) same) h vs f w r) (λ v1 x l y.
    k vs f v1 (realises_longer l r) x b y)

receive_stands : (e : Environment) (s : Span) (c : Chan) (a : Abs) → Receives e c a → ProcessStands e (receive_proc s c a)
unfolding sending
receive_stands e s c a h vs f w r = h vs f w r false

serve_stands : (e : Environment) (s : Span) (c : Chan) (a : Abs) → Receives e c a → ProcessStands e (serve_proc s c a)
unfolding sending
serve_stands e s c a h vs f w r = h vs f w r true

if_stands : (e : Environment) (s : Span) (c : Val) (p q : Proc) → SentBy e c Boolean → ProcessStands e p → ProcessStands e q → ProcessStands e (if_proc s c p q)
unfolding sending
if_stands e s c p q h k l vs f w r =
    with_stands w Boolean (simple (around e vs) c) (sending (around e vs) c) (λ b. choice b (proc_core (around e vs) p) (proc_core (around e vs) q)) tt (h vs f w r).on_its_way (λ v b m n.
    let r2 = realises_longer m r in
    typed.test n (k vs f v r2) (l vs f v r2))

side_stands : (w : World) (ps : List Placed) → Each (Stands w) ps → Stands w (side_by_side ps)
side_stands w [] h = typed.inert
side_stands w (p ∷ []) h = h.0
side_stands w (p ∷ q ∷ ps) h = typed.beside h.0 (side_stands w (q ∷ ps) h.1)

group_stands : (e d : Environment) (s : Span) (ds : Decs) (ps : Procs) → d.names ≡ e.names → Declares e (λ a rest. decs_core a ds rest) d → ProcessesStand d ps → ProcessStands e (group_proc s ds ps)
unfolding sending
group_stands e d s ds ps n h k vs f w r =
    h vs f w r (λ a. side_by_side (procs_core a ps)) (λ us g u fo q. subst (λ ns. Stands u (side_by_side (procs_core (record { names = ns; values = us }) ps))) n (side_stands u (procs_core (around d us) ps) (k us g u q)))

inert_stands : (e : Environment) (s : Span) → ProcessStands e (inert_proc s)
unfolding sending
inert_stands e s vs f w r = typed.inert

no_process : (e : Environment) → ProcessesStand e no_procs
unfolding sending
no_process e vs f w r = tt

more_processes : (e : Environment) (ps : Procs) (p : Proc) → ProcessesStand e ps → ProcessStands e p → ProcessesStand e (more_procs ps p)
unfolding sending
more_processes e ps p h k vs f w r = each_last (Stands w) (procs_core (around e vs) ps) (proc_core (around e vs) p) (h vs f w r) (k vs f w r)

pattern_type : (e : Environment) (p : Pat) (g : TypedPattern) → IsGood e (pattern_gives p) g → IsTypeIn e g.has
pattern_type e p g h = h.0

-- ---- the steps

module _ (names : List (List ℕ)) (program : Decs) (clean : scope_stop names program ≡ None) where
  pub declaration_step : (e : Environment) (d : Dec) → Step names program environment_ e (declaration d)
  declaration_step e (new_dec s x t) r =
      let k = rightly clean r in
      unless (kind_stop e.names e.context t) (λ q. in_boths (normal e.names e.context t) Y15 (type_span t) (λ u is. gives_ (
      subst (λ z. Declares e (λ a rest. dec_core a (new_dec s x t) rest) (extended e (one_value x z))) (sym is) (new_declared e s x t u (subst (IsTypeIn e) is (expands_well e.names e.context t k.1.0.entries k.0 q))))))
  declaration_step e (run_dec s p) r = parts (λ x d r2 h. gives_ (run_declared e s p h))
  declaration_step e (let_dec s p v) r =
      let once : IsReadAs IsNoStop _ e (declaration (let_dec s p v)) = no_stop_is_reached names program _ e (declaration (let_dec s p v)) clean r in
      let one : (m : ℕ) → times m (id_names (value_ids p)) ≤ 1 = λ m. pattern_once p (in_val v) once.around m once.each_mark in
      splits (is_complete e.names e.context p)
      (λ c. parts (λ g d r2 u. parts (λ x d3 r3 h. gives_ (let_declared e s p v g.has g.adds (patterns_open names program clean e (pattern_gives p) g r2 d) one (result_has (pattern_named e p) d).values (pattern_type e p g (well g clean r2 d)) h))))
      (λ c. parts (λ t d r2 h. parts (λ x d3 r3 u. gives_ (let_declared e s p v t x (patterns_open names program clean e (pattern_against p t) x r3 d3) one (result_has (against_named e p t) d3).values (well t clean r2 d) h))))
  declaration_step e (def_dec s ds) r = parts (λ ss d r2 h. parts (λ x d3 r3 k. gives_ (def_declared e s ds ss (well ss clean r2 d) h k)))
  declaration_step e (alias_dec s x t) r = unless (kind_stop e.names e.context t) (λ q. gives_ (same_declared e _ (alias_dec s x t) (alias_is s x t) refl (defined_realised e x _)))
  declaration_step e (operator_dec s x xs t) r = unless (kind_stop e.names (with_parameters_in e xs).context t) (λ q. gives_ (same_declared e _ (operator_dec s x xs t) (operator_is s x xs t) refl (defined_realised e x _)))
  declaration_step e (await_dec s v) r = parts (λ x d r2 h. gives_ (await_declared e s v h))

  pub declarations_step : (e : Environment) (ds : Decs) → Step names program environment_ e (declarations ds)
  declarations_step e no_decs r = gives_ (none_declared e)
  declarations_step e (more_decs ds d) r = parts (λ f x r2 h. parts (λ g y r3 k. gives_ (more_declared e f g ds d (well f clean r2 x).1.texts h k)))

  pub process_step : (e : Environment) (p : Proc) → Step names program nothing_ e (process p)
  process_step e (send_proc s c v) r =
      let a = rightly clean r in
      parts (λ t d r2 h.
      let q = well t clean r2 d in
      in_channels (exposure (context_of e) t) Y1 (chan_span c) (λ m u is. ensures (may_send m) Y2 (chan_span c) (λ may. parts (λ x d3 r3 k. gives_ (
      send_stands e s c v t m u q (subst (IsTypeIn e) is (exposed_formed e t a.1.0 q)) is may h k)))))
  process_step e (receive_proc s c a) r = parts (λ x d r2 h. gives_ (receive_stands e s c a h))
  process_step e (serve_proc s c a) r = parts (λ x d r2 h. gives_ (serve_stands e s c a h))
  process_step e (if_proc s c p q) r = parts (λ x d r2 h. parts (λ y d3 r3 k. parts (λ z d4 r4 l. gives_ (if_stands e s c p q h k l))))
  process_step e (inert_proc s) r = gives_ (inert_stands e s)
  process_step e (group_proc s ds ps) r = parts (λ d x r2 h. parts (λ y z r3 k. gives_ (group_stands e d s ds ps (well d clean r2 x).1.texts h k)))

  pub processes_step : (e : Environment) (ps : Procs) → Step names program nothing_ e (processes ps)
  processes_step e no_procs r = gives_ (no_process e)
  processes_step e (more_procs ps p) r = parts (λ x d r2 h. parts (λ y d3 r3 k. gives_ (more_processes e ps p h k)))

  pub receives_step : (e : Environment) (c : Chan) (a : Abs) → Step names program nothing_ e (receives c a)
  receives_step e c a r =
      let b = rightly clean r in
      parts (λ t d r2 h.
      let q = well t clean r2 d in
      in_channels (exposure (context_of e) t) Y1 (chan_span c) (λ m u is. ensures (may_receive m) Y3 (chan_span c) (λ may. parts (λ x d3 r3 k. gives_ (
      receives_stand e c a t m u q (subst (IsTypeIn e) is (exposed_formed e t b.1.0 q)) is may h k)))))
