-- Steps of regularity: processes, conditions and bodies.
use Rattle.std.proofs.Common.{ℕ, List, [], ◌∷◌}
use Rattle.pict_syntax.specs.declared.code.Code.{Code}
use Rattle.pict_syntax.specs.declared.span.Span.{Span}
use Rattle.pict_syntax.specs.Trees.{Val, Abs, Chan, Vals, no_vals, more_vals, Proc, send_proc, receive_proc, serve_proc, if_proc, inert_proc, group_proc, Procs, no_procs, more_procs}
use Rattle.pict_types.specs.Types.{Capability, PlainType, Top, Int, Char, Str, Boolean, Var, Apply, Chan as Chan_, Fields, Rec}
use Rattle.pict_types.specs.Kinds.{Kind, IsWellFormed}
use Rattle.pict_sub.specs.Exposing.{exposure}
use Rattle.pict_rules.specs.Environments.{Environment, context_of}
use Rattle.pict_rules.specs.Rules.{Sort, nothing_, types_, Rule, Result, is_condition, values_give, process, processes, receives, body, bodies, Body, process_body, value_body, Signature}
use Rattle.pict_rules.specs.Clauses.{need_channel}
use Rattle.pict_rules.specs.Regular.{IsRegular, IsBodyIn, AreSignatures, kinds_in}
use Rattle.pict_rules.proofs.Results.{Property, ResultProperty, Each, gives_, refuses, needs, parts, ensures}
use Rattle.pict_rules.proofs.Regularity.{Step}
use Rattle.pict_sub.proofs.Followed.{exposure_formed}
use Rattle.pict_types.proofs.Contexts.{entries_context}
use Rattle.pict_normal.proofs.RawFormed.{and_type_formed}

-- a type that is exposed stays well formed
pub exposed_formed : (e : Environment) (t : PlainType) → IsRegular e → IsWellFormed e.names (kinds_in e) t → IsWellFormed e.names (kinds_in e) (exposure (context_of e) t)
exposed_formed e t r w = exposure_formed e.names (context_of e) t (entries_context e.names e.context r.entries) w

-- a channel type's part is well formed
channels_formed : {A : Property} {G : ResultProperty} {s : Sort} {P : Result s → Type 0} (ns : List (List ℕ)) (ks : List Kind) (t : PlainType) (c : Code) (i : Span) {k : Capability → PlainType → Rule s} → IsWellFormed ns ks t → ((m : Capability) (u : PlainType) → IsWellFormed ns ks u → Each A G s P (k m u)) → Each A G s P (need_channel t c i k)
channels_formed ns ks Top c i w f = refuses
channels_formed ns ks Int c i w f = refuses
channels_formed ns ks Char c i w f = refuses
channels_formed ns ks Str c i w f = refuses
channels_formed ns ks Boolean c i w f = refuses
channels_formed ns ks (Var x) c i w f = refuses
channels_formed ns ks (Apply x ts) c i w f = refuses
channels_formed ns ks (Chan_ m t) c i w f = f m t w
channels_formed ns ks (Fields bs ps ls) c i w f = refuses
channels_formed ns ks (Rec t) c i w f = refuses

pub condition_regular : (e : Environment) (v : Val) → IsRegular e → Step nothing_ e (is_condition v)
condition_regular e v r = parts (r, tt) (λ t g. needs (gives_ tt))

pub process_regular : (e : Environment) (p : Proc) → IsRegular e → Step nothing_ e (process p)
process_regular e (send_proc s c v) r =
    parts (r, tt) (λ t g. channels_formed e.names (kinds_in e) (exposure (context_of e) t) _ _ (exposed_formed e t r g.1) (λ m u w.
    ensures _ _ _ (parts (r, w) (λ x h. gives_ tt))))
process_regular e (receive_proc s c a) r = parts (r, tt) (λ x h. gives_ tt)
process_regular e (serve_proc s c a) r = parts (r, tt) (λ x h. gives_ tt)
process_regular e (if_proc s c p q) r = parts (r, tt) (λ x h. parts (r, tt) (λ y i. parts (r, tt) (λ z k. gives_ tt)))
process_regular e (inert_proc s) r = gives_ tt
process_regular e (group_proc s ds ps) r = parts (r, tt) (λ d g. parts (g.1.0, tt) (λ x h. gives_ tt))

pub processes_regular : (e : Environment) (ps : Procs) → IsRegular e → Step nothing_ e (processes ps)
processes_regular e no_procs r = gives_ tt
processes_regular e (more_procs ps p) r = parts (r, tt) (λ x h. parts (r, tt) (λ y i. gives_ tt))

pub receives_regular : (e : Environment) (c : Chan) (a : Abs) → IsRegular e → Step nothing_ e (receives c a)
receives_regular e c a r =
    parts (r, tt) (λ t g. channels_formed e.names (kinds_in e) (exposure (context_of e) t) _ _ (exposed_formed e t r g.1) (λ m u w.
    ensures _ _ _ (parts (r, w) (λ x h. gives_ tt))))

pub body_regular : (e : Environment) (b : Body) → IsRegular e → IsBodyIn e b → Step nothing_ e (body b)
body_regular e (process_body q) r w = parts (r, tt) (λ x h. gives_ tt)
body_regular e (value_body v t) r w = parts (r, w) (λ x h. gives_ tt)

pub bodies_regular : (e : Environment) (ss : List Signature) → IsRegular e → AreSignatures e ss → Step nothing_ e (bodies ss)
bodies_regular e [] r w = gives_ tt
bodies_regular e (s ∷ ss) r w = parts (w.1.0, w.1.1.0) (λ x h. parts (r, w.1.1.1) (λ y i. gives_ tt))

pub positional_regular : (e : Environment) (vs : Vals) → IsRegular e → Step types_ e (values_give vs)
positional_regular e no_vals r = gives_ tt
positional_regular e (more_vals vs v) r = parts (r, tt) (λ ts g. parts (r, tt) (λ t h. gives_ (and_type_formed e.names (kinds_in e) ts t g.1 h.1)))
