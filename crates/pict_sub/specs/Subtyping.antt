-- Subtyping: the smallest relation that is reflexive and transitive and has these rules.
use Rattle.std.specs.Prelude.{◌≡◌, ◌⊎◌, ℕ, List, [], ◌∷◌, Some}
use Rattle.pict_types.specs.Types.{Capability, Both, Read, Write, Respond, PlainType, Top, Var, Apply, Chan, Fields, PlainTypes, no_type, types, PlainLabels, no_label, labels, PlainBounds, Below, Operator, TypeContext, under, type_at}
use Rattle.pict_syntax.specs.declared.type_tree.Mark.{Mark}
use Rattle.pict_syntax.specs.declared.type_tree.Mark.TheVariants.{Plus, Minus, Plain as Unmarked}
use Rattle.pict_types.specs.Renaming.{bound_of}

-- channel types whose messages may go up with them: ? over ?, and over ^
pub data CarriesUp : Capability → Capability → Type 0 where
  read_read : CarriesUp Read Read
  both_read : CarriesUp Both Read

-- and those whose messages go down: ! over !, / and ^, and / over /
pub data CarriesDown : Capability → Capability → Type 0 where
  write_write : CarriesDown Write Write
  respond_write : CarriesDown Respond Write
  both_write : CarriesDown Both Write
  respond_respond : CarriesDown Respond Respond

mutual
  pub data IsSubtype : TypeContext → PlainType → PlainType → Type 0 where
    same : {c : TypeContext} {s : PlainType} → IsSubtype c s s
    through : {c : TypeContext} {s u : PlainType} (t : PlainType) → IsSubtype c s t → IsSubtype c t u → IsSubtype c s u
    below_top : {c : TypeContext} {s : PlainType} → IsSubtype c s Top
    below_bound : {c : TypeContext} {i : ℕ} {b : PlainType} → bound_of c i ≡ Below b → IsSubtype c (Var i) b
    upward : {c : TypeContext} {m n : Capability} {s t : PlainType} → CarriesUp m n → IsSubtype c s t → IsSubtype c (Chan m s) (Chan n t)
    downward : {c : TypeContext} {m n : Capability} {s t : PlainType} → CarriesDown m n → IsSubtype c t s → IsSubtype c (Chan m s) (Chan n t)
    -- the same type fields; the fields compare under them
    by_fields : {c : TypeContext} {bs : PlainBounds} {ps qs : PlainTypes} {ls ms : PlainLabels}
        → AreSubtypes (under c bs) ps qs → HasLabels (under c bs) ls ms → IsSubtype c (Fields bs ps ls) (Fields bs qs ms)
    -- one operator variable applied twice: argument by argument, as its marks say
    by_arguments : {c : TypeContext} {i : ℕ} {ms : List Mark} {ss ts : PlainTypes}
        → bound_of c i ≡ Operator ms → AreByMarks c ms ss ts → IsSubtype c (Apply i ss) (Apply i ts)

  -- upward where marked +, downward where marked -, equal where unmarked; there are as many arguments as marks
  pub data AreByMarks : TypeContext → List Mark → PlainTypes → PlainTypes → Type 0 where
    no_more : {c : TypeContext} → AreByMarks c [] no_type no_type
    plus : {c : TypeContext} {s t : PlainType} {ms : List Mark} {ss ts : PlainTypes}
        → IsSubtype c s t → AreByMarks c ms ss ts → AreByMarks c (Plus ∷ ms) (types s ss) (types t ts)
    minus : {c : TypeContext} {s t : PlainType} {ms : List Mark} {ss ts : PlainTypes}
        → IsSubtype c t s → AreByMarks c ms ss ts → AreByMarks c (Minus ∷ ms) (types s ss) (types t ts)
    unmarked : {c : TypeContext} {t : PlainType} {ms : List Mark} {ss ts : PlainTypes}
        → AreByMarks c ms ss ts → AreByMarks c (Unmarked ∷ ms) (types t ss) (types t ts)

  -- as many types, each a subtype in order
  pub data AreSubtypes : TypeContext → PlainTypes → PlainTypes → Type 0 where
    none : {c : TypeContext} → AreSubtypes c no_type no_type
    more : {c : TypeContext} {s t : PlainType} {ss ts : PlainTypes} → IsSubtype c s t → AreSubtypes c ss ts → AreSubtypes c (types s ss) (types t ts)

  -- every label of the second is in the first, with a subtype
  pub data HasLabels : TypeContext → PlainLabels → PlainLabels → Type 0 where
    has_none : {c : TypeContext} {ls : PlainLabels} → HasLabels c ls no_label
    has_label : {c : TypeContext} {l : ℕ} {s t : PlainType} {ls ms : PlainLabels}
        → type_at l ls ≡ Some s → IsSubtype c s t → HasLabels c ls ms → HasLabels c ls (labels l t ms)

-- two arguments, as a mark says
abbrev pub ComparesBy : TypeContext → Mark → PlainType → PlainType → Type 0
ComparesBy c Plus s t = IsSubtype c s t
ComparesBy c Minus s t = IsSubtype c t s
ComparesBy c Unmarked s t = s ≡ t

-- two records, part by part
pub record AreRecordsBelow (c : TypeContext) (bs cs : PlainBounds) (ps qs : PlainTypes) (ls ms : PlainLabels) : Type 0 where
  pub alike : bs ≡ cs
  pub fields : AreSubtypes (under c bs) ps qs
  pub labelled : HasLabels (under c bs) ls ms

-- two channel types: both parts are the same, or the capabilities carry up and the first messages are below the second,
-- or they carry down and the second messages are below the first
abbrev pub AreChannelsBelow : TypeContext → Capability → Capability → PlainType → PlainType → Type 0
AreChannelsBelow c m n s t = ((m ≡ n) × (s ≡ t)) ⊎ (CarriesUp m n × IsSubtype c s t) ⊎ (CarriesDown m n × IsSubtype c t s)

-- the type s is a variable whose bound is below t
pub record HasBoundBelow (c : TypeContext) (s t : PlainType) : Type 0 where
  pub variable : ℕ
  pub bound : PlainType
  pub is : s ≡ Var variable
  pub bounded : bound_of c variable ≡ Below bound
  pub below : IsSubtype c bound t
