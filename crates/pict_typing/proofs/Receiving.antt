-- A closed message of its type meets a pattern: the pattern fits, and the body is typed with what it binds put in.
use Rattle.std.proofs.Common.{ℕ, List, [], ◌∷◌, map, sym, ap, subst, append-nil}
use Rattle.pict_types.specs.Types.{PlainType, TypeContext}
use Rattle.pict_types.specs.Replacing.{Replacement, replace}
use Rattle.pict_types.proofs.Replacements.{replace_same, nothing_changed, formed_normal}
use Rattle.pict_core.specs.Term.{Val, Pat, Process}
use Rattle.pict_typing.specs.Worlds.{over, IsTypeIn, opened}
use Rattle.pict_typing.specs.Values.{HaveInOrder}
use Rattle.pict_typing.specs.Opening.{Opens}
use Rattle.pict_typing.specs.Processes.{IsTyped, AreClosedTypes}
use Rattle.pict_typing.specs.Instantiating.{Instantiates}
use Rattle.pict_typing.specs.Laws.{IsReceived}
use Rattle.pict_typing.proofs.Forms.{Fits, fits_have}
use Rattle.pict_typing.proofs.Openings.{AreTypesIn, types_opened}
use Rattle.pict_typing.proofs.Instantiating.{nothing_instantiates, type_instantiated}
use Rattle.pict_typing.proofs.Meeting.{FitInOrder, meets}
use Rattle.pict_typing.proofs.TypesPut.{typed_instantiated}
use Rattle.pict_typing.proofs.ValuesPut.{typed_put}

have_in_order : (names : List (List ℕ)) (ms : List PlainType) → AreClosedTypes names ms → (vs : List Val) (ts : List PlainType) → AreTypesIn names [] ts → FitInOrder names ms vs ts → HaveInOrder names ms vs ts
have_in_order names ms k [] [] w x = tt
have_in_order names ms k [] (t ∷ ts) w x = absurd x
have_in_order names ms k (v ∷ vs) [] w x = absurd x
have_in_order names ms k (v ∷ vs) (t ∷ ts) w x = (fits_have names ms k w.0 x.0, have_in_order names ms k vs ts w.1 x.1)

types_instantiated : (names : List (List ℕ)) (r : Replacement) (d : TypeContext) (ts : List PlainType) → Instantiates names r d [] → AreTypesIn names d ts → AreTypesIn names [] (map (replace r) ts)
types_instantiated names r d [] i x = tt
types_instantiated names r d (t ∷ ts) i x = (type_instantiated names t i x.0, types_instantiated names r d ts i x.1)

pub received_typed : {names : List (List ℕ)} {ms : List PlainType} {d : TypeContext} {n : ℕ} {ts : List PlainType} {pattern_ : Pat} {body : Process} {message : Val} (t : PlainType)
    → AreClosedTypes names ms → IsTypeIn names [] t → Opens names [] pattern_ t d n ts → IsTyped (opened d n ts (over names ms)) body → Fits names ms message t
    → IsReceived names ms pattern_ message body
received_typed {names = names} {ms = ms} {d = d} {ts = ts} {message = message} t closed_ f o b y =
    let k = meets names ms closed_ f (nothing_instantiates names []) o (subst (Fits names ms message) (sym (replace_same t nothing_changed (formed_normal names [] t f))) y) in
    let us = map (replace k.later) ts in
    let formed = types_instantiated names k.later d ts k.instantiates (types_opened names f o) in
    record {
      bound = k.parts;
      is = k.is;
      typed = typed_put (over names ms) k.parts us closed_ (have_in_order names ms closed_ k.parts us formed k.fit) (ap (λ l. record (over names ms) { variables = l }) (sym (append-nil us))) (typed_instantiated closed_ k.instantiates b);
    }
