-- What holds of the core of all that the rules judge.
use Rattle.std.proofs.Common.{◌≡◌, ◌≤◌, ℕ, ◌+◌, Bool, true, false, List, [], ◌∷◌, ◌++◌, length, Option, Some, None}
use Rattle.pict_syntax.specs.declared.id.Id.{Id}
use Rattle.pict_syntax.specs.declared.span.Span.{Span}
use Rattle.pict_syntax.specs.Labels.{in_label_order}
use Rattle.pict_syntax.specs.Trees.{Val, Vals, FieldVals, field_vals, LabelledVals, Abs, Decs, Definitions, no_definitions, more_definitions, Proc, Procs, Chan, apply_chan}
use Rattle.pict_types.specs.Types.{Read, Respond, PlainType, Boolean, Chan as Chan_, PlainTypes, no_type, types, PlainLabels, PlainBounds, PlainArg, type_at, count_types}
use Rattle.pict_types.specs.Renaming.{moved}
use Rattle.pict_types.specs.Replacing.{arguments, replace_types, replace_labels}
use Rattle.pict_core.specs.Term as core
use Rattle.pict_sub.specs.Subtyping.{IsSubtype}
use Rattle.pict_rules.specs.Counts.{count_vals}
use Rattle.pict_rules.specs.Found.{Found, mentions_missing, with_found}
use Rattle.pict_rules.specs.Shapes.{is_written}
use Rattle.pict_rules.specs.Environments.{Environment, KnownValue, context_of, extended}
use Rattle.pict_rules.specs.Rules.{Sort, Judgement, gives, has, is_condition, values_give, labelled_values_give, application, fields_fit, written_arguments, values_fit, labelled_values_fit, value_fits, given_fits, abstraction_gives, abstraction_against, declaration, declarations, signatures, signature, bodies, body, process, processes, receives, Signature, Body, process_body, value_body}
use Rattle.pict_rules.specs.Typing.{rule}
use Rattle.pict_rules.specs.Reached.{Reached}
use Rattle.pict_rules.specs.Regular.{IsTypeIn}
use Rattle.pict_translation.specs.Placed.{Placed}
use Rattle.pict_translation.specs.Simple.{Around, simple_chan}
use Rattle.pict_translation.specs.Translation.{sending_chan, proc_core, procs_core, reader, dec_core, decs_core}
use Rattle.pict_translation.specs.Arguments.{with_value}
use Rattle.pict_typing.specs.Worlds.{World}
use Rattle.pict_typing.specs.Values.{HasType}
use Rattle.pict_bridge.specs.Embedding.{WorldGrows}
use Rattle.pict_bridge.specs.Opening.{meaning}
use Rattle.pict_bridge.proofs.Reaching.{ResultProperty, Gives}
use Rattle.pict_bridge.proofs.FieldsOpen.{Each, label_meanings}
use Rattle.pict_bridge.proofs.PatternSteps.{first_types}
use Rattle.pict_bridge.specs.Standing.{Stands, Sends}
use Rattle.pict_bridge.specs.Realising.{around, Realises, IsSent}
use Rattle.pict_bridge.proofs.SentLists.{AreSent, LabelsAreSent, labels_list}
use Rattle.pict_bridge.proofs.FoundStays.{Stays}
use Rattle.pict_bridge.proofs.Meant.{AreWithinBounds}

-- core values for the names around
abbrev pub Values : Type 0
Values = List (ℕ × core.Val)

-- wherever the environment is realised
abbrev pub Wherever : Environment → (Values → (ℕ → ℕ) → World → Type 0) → Type 0
Wherever e P = (vs : Values) (f : ℕ → ℕ) (w : World) → Realises e vs f w → P vs f w

-- ---- values

abbrev pub SentBy : Environment → Val → PlainType → Type 0
SentBy e v t = Wherever e (λ vs f w. IsSent w (meaning f t) (around e vs) v)

abbrev pub meant_types : (ℕ → ℕ) → PlainTypes → List PlainType
meant_types f no_type = []
meant_types f (types t ts) = meaning f t ∷ meant_types f ts

-- positional values, at these types
abbrev pub AllSentBy : Environment → Vals → PlainTypes → Type 0
AllSentBy e us ts = Wherever e (λ vs f w. AreSent w (around e vs) us (meant_types f ts))

-- labelled values, so that their types in the order of labels are these
pub record LabelsGiven (e : Environment) (ls : LabelledVals) (ms : PlainLabels) (vs : Values) (f : ℕ → ℕ) (w : World) : Type 0 where
  pub types_ : List (ℕ × PlainType)
  pub sent : LabelsAreSent w (around e vs) ls types_
  pub same_ : labels_list (in_label_order e.names types_) ≡ label_meanings f ms

-- the types with what is found put in
abbrev pub found_types : Found → PlainTypes → PlainTypes
found_types h no_type = no_type
found_types h (types t ts) = types (with_found h t) (found_types h ts)

-- values in their fields: what is found stays, and from then on each value is sent at its field's type
pub record ValuesFit (e : Environment) (us : Vals) (ts : PlainTypes) (found g : Found) : Type 0 where
  pub stays : Stays found g
  pub sent : (h : Found) → Stays g h → AllSentBy e us (found_types h (first_types (count_vals us) ts))

pub record LabelsFound (e : Environment) (ls : LabelledVals) (ms : PlainLabels) (h : Found) (vs : Values) (f : ℕ → ℕ) (w : World) : Type 0 where
  pub types_ : List (ℕ × PlainType)
  pub sent : LabelsAreSent w (around e vs) ls types_
  pub at_ : (l : ℕ) (t : PlainType) → type_at l ms ≡ Some t → is_written l ls ≡ true → type_at l (labels_list (in_label_order e.names types_)) ≡ Some (meaning f (with_found h t))

pub record LabelsFit (e : Environment) (ls : LabelledVals) (ms : PlainLabels) (found g : Found) : Type 0 where
  pub stays : Stays found g
  pub sent : (h : Found) → Stays g h → Wherever e (LabelsFound e ls ms h)

pub record ValueFits (e : Environment) (v : Val) (t : PlainType) (found g : Found) : Type 0 where
  pub stays : Stays found g
  pub known : mentions_missing g t ≡ false
  pub formed : IsTypeIn e (with_found g t)
  pub sent : SentBy e v (with_found g t)

pub record GivenFits (e : Environment) (t u : PlainType) (g h : Found) : Type 0 where
  pub is : h ≡ g
  pub known : mentions_missing g t ≡ false
  pub below : IsSubtype (context_of e) u (with_found g t)

-- the values of fields, at the types that a record of them has, and those of fewer labels
pub record FieldsSent (e : Environment) (us : Vals) (ls : LabelledVals) (qs : PlainTypes) (ms : PlainLabels) (vs : Values) (f : ℕ → ℕ) (w : World) : Type 0 where
  pub sent : AreSent w (around e vs) us (meant_types f qs)
  pub types_ : List (ℕ × PlainType)
  pub labelled : LabelsAreSent w (around e vs) ls types_
  pub at_ : (l : ℕ) (t : PlainType) → type_at l (label_meanings f ms) ≡ Some t → type_at l (labels_list (in_label_order e.names types_)) ≡ Some t

-- with the arguments put in, which are within the bounds of the type fields
pub record FieldsFit (e : Environment) (us : Vals) (ls : LabelledVals) (bs : PlainBounds) (ps : PlainTypes) (ms : PlainLabels) (args : List PlainArg) : Type 0 where
  pub within_ : AreWithinBounds e bs [] args
  pub sent : Wherever e (FieldsSent e us ls (replace_types (arguments args) ps) (replace_labels (arguments args) ms))

abbrev pub AllFieldsFit : Environment → FieldVals → PlainBounds → PlainTypes → PlainLabels → List PlainArg → Type 0
AllFieldsFit e (field_vals tys us ls) bs ps ms args = FieldsFit e us ls bs ps ms args

-- ---- processes and abstractions

abbrev pub ProcessStands : Environment → Proc → Type 0
ProcessStands e p = Wherever e (λ vs f w. Stands w (proc_core (around e vs) p))

abbrev pub ProcessesStand : Environment → Procs → Type 0
ProcessesStand e ps = Wherever e (λ vs f w. Each (Stands w) (procs_core (around e vs) ps))

-- at each channel from which the type may be received
abbrev pub ReadsAt : Environment → Abs → PlainType → Type 0
ReadsAt e a r = Wherever e (λ vs f w. (x : core.Val) (b : Bool) → HasType w x (Chan_ Read (meaning f r)) → Stands w (reader (around e vs) a x b))

abbrev pub Receives : Environment → Chan → Abs → Type 0
Receives e c a = Wherever e (λ vs f w. (b : Bool) → Stands w (with_value (simple_chan (around e vs) c) (sending_chan (around e vs) c) (λ x. reader (around e vs) a x b)))

abbrev pub BodyStands : Environment → Body → Type 0
BodyStands e (process_body q) = ProcessStands e q
BodyStands e (value_body v t) = SentBy e v t

abbrev pub BodiesStand : Environment → List Signature → Type 0
BodiesStand e [] = Unit {0}
BodiesStand e (s ∷ ss) = BodyStands (extended e s.adds) s.body × BodiesStand e ss

-- the same types, other values
abbrev pub with_known : Environment → List KnownValue → Environment
with_known e vs = record { names = e.names; context = e.context; values = vs }

-- a name of a `def` with its abstraction, which reads at it once its body is sound, whatever values are known
pub record SignatureReads (e : Environment) (x : Id) (a : Abs) (s : Signature) : Type 0 where
  pub name_ : s.name ≡ x
  pub takes : PlainType
  pub has_ : s.has ≡ Chan_ Respond takes
  pub reads : (vs : List KnownValue) → BodyStands (extended (with_known e vs) s.adds) s.body → ReadsAt (with_known e vs) a takes

pub data SignaturesRead (e : Environment) : Definitions → List Signature → Type 0 where
  no_signature : SignaturesRead e no_definitions []
  more_signatures : {ds : Definitions} {x : Id} {a : Abs} {ss : List Signature} {s : Signature} → SignaturesRead e ds ss → SignatureReads e x a s → SignaturesRead e (more_definitions ds x a) (ss ++ s ∷ [])

-- ---- declarations

-- a place within the scope of declarations, in a world that has grown
pub record Follows (e : Environment) (f : ℕ → ℕ) (w : World) (d : Environment) (g : ℕ → ℕ) (u : World) : Type 0 where
  pub more : ℕ
  pub count : ℕ
  pub grows : WorldGrows (moved more 0) w u
  pub length_ : length (context_of d) ≡ length (context_of e) + count
  pub extends_ : (i : ℕ) → g (i + count) ≡ f i + more

abbrev pub RestStands : Environment → (ℕ → ℕ) → World → Environment → (Around → Placed) → Type 0
RestStands e f w d rest = (vs : Values) (g : ℕ → ℕ) (u : World) → Follows e f w d g u → Realises d vs g u → Stands u (rest (around e vs))

-- declarations around a rest: they stand where the rest stands
abbrev pub Declares : Environment → (Around → (Around → Placed) → Placed) → Environment → Type 0
Declares e declared d = Wherever e (λ vs f w. (rest : Around → Placed) → RestStands e f w d rest → Stands w (declared (around e vs) rest))

-- ---- applications

abbrev pub ApplicationSent : Environment → Span → Val → FieldVals → PlainType → Type 0
ApplicationSent e s v us u = Wherever e (λ vs f w. Sends w (meaning f u) (sending_chan (around e vs) (apply_chan s v us)))

-- the answer's type is below the expected one
abbrev pub IsExpectedAbove : Environment → Option PlainType → PlainType → Type 0
IsExpectedAbove e None u = Unit {0}
IsExpectedAbove e (Some t) u = IsSubtype (context_of e) u t

-- ---- all

abbrev pub IsSound : ResultProperty
IsSound t e (gives v) u = SentBy e v u
IsSound t e (has v u) x = SentBy e v u
IsSound t e (is_condition v) x = SentBy e v Boolean
IsSound t e (values_give us) ts = AllSentBy e us ts
IsSound t e (labelled_values_give ls) ms = Wherever e (LabelsGiven e ls ms)
IsSound t e (application s v us o) u = ApplicationSent e s v us u × IsExpectedAbove e o u
IsSound t e (fields_fit s us bs ps ms g) args = AllFieldsFit e us bs ps ms args
IsSound t e (written_arguments s ts bs) args = AreWithinBounds e bs [] args
IsSound t e (values_fit s us ps found) g = count_vals us ≤ count_types ps → ValuesFit e us ps found g
IsSound t e (labelled_values_fit s ls ms found) g = LabelsFit e ls ms found g
IsSound t e (value_fits s v u found) g = ValueFits e v u found g
IsSound t e (given_fits s v u r g) h = GivenFits e u r g h
IsSound t e (abstraction_gives a) r = ReadsAt e a r
IsSound t e (abstraction_against a r) x = ReadsAt e a r
IsSound t e (declaration d) f = Declares e (λ a rest. dec_core a d rest) f
IsSound t e (declarations ds) f = Declares e (λ a rest. decs_core a ds rest) f
IsSound t e (signatures ds) ss = SignaturesRead e ds ss
IsSound t e (signature x a) s = SignatureReads e x a s
IsSound t e (bodies ss) x = BodiesStand e ss
IsSound t e (body b) x = BodyStands e b
IsSound t e (process p) x = ProcessStands e p
IsSound t e (processes ps) x = ProcessesStand e ps
IsSound t e (receives c a) x = Receives e c a
IsSound t e j x = Unit {0}

abbrev pub Step : List (List ℕ) → Decs → (s : Sort) → Environment → Judgement s → Type 0
Step names program s e j = Reached names program s e j → Gives names program IsSound s (IsSound s e j) (rule e j)
