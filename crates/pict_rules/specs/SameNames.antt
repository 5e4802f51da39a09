-- The rules and the scopes bind the same names: at each judgement that the rules reach.
use Rattle.std.specs.Prelude.{◌≡◌, ℕ, List, [], ◌∷◌, map, ◌⊎◌, Some, None}
use Rattle.pict_syntax.specs.declared.span.Span.{Span}
use Rattle.pict_syntax.specs.declared.name.Name.{Name}
use Rattle.pict_syntax.specs.declared.primitive.Primitive.{Primitive}
use Rattle.pict_syntax.specs.Names.{text_of}
use Rattle.pict_syntax.specs.Trees.{Decs, of_chan, use_chan}
use Rattle.pict_types.specs.Types.{PlainType}
use Rattle.pict_types.specs.Places.{entry_names}
use Rattle.pict_scope.specs.PrimitiveNames.{primitive_named}
use Rattle.pict_binders.specs.declared.binders.Binder.{Binder}
use Rattle.pict_scope.specs.Around.{Around}
use Rattle.pict_scope.specs.Marks.{Mark, or_later}
use Rattle.pict_scope.specs.Outlines.{Outline, empty, ◌▸◌, marks}
use Rattle.pict_scope.specs.Forms.{in_types, in_pattern_binders, in_pat, in_field_pats, in_pats, in_labelled_pats, in_dec, in_decs, in_definitions, in_abs, in_chan, in_val, in_vals, in_field_vals, in_labelled_vals, in_proc, in_procs}
use Rattle.pict_scope.specs.Scopes.{program_marks, scope_stop}
use Rattle.pict_rules.specs.Environments.{Environment, KnownValue, extended, known_type}
use Rattle.pict_rules.specs.Rules.{Sort, type_, Judgement, gives, has, is_condition, values_give, labelled_values_give, application, fields_fit, written_arguments, values_fit, labelled_values_fit, value_fits, given_fits, abstraction_gives, abstraction_against, pattern_gives, fields_give, binders_give, patterns_give, labelled_patterns_give, pattern_against, fields_against, binders_against, patterns_against, labelled_patterns_against, declaration, declarations, signatures, signature, bodies, body, process, processes, receives, Signature, Body, process_body, value_body}
use Rattle.pict_rules.specs.Reached.{Reached}

-- the names, the nearest first
abbrev pub value_names : List KnownValue → List ℕ
value_names vs = map (λ v. v.name) vs

abbrev pub bound_names : List Binder → List ℕ
bound_names bs = map (λ b. b.name) bs

-- the types of an environment have the names of the types around, and its values the names of the values around
pub record HasTypesOf (e : Environment) (a : Around) : Type 0 where
  pub texts : e.names ≡ a.texts
  pub same : entry_names e.context ≡ bound_names a.types_

pub record HasValuesOf (e : Environment) (a : Around) : Type 0 where
  pub same : value_names e.values ≡ bound_names a.values

-- what is judged, as the scopes read it
abbrev pub outline_of_body : Body → Outline
outline_of_body (process_body q) = in_proc q
outline_of_body (value_body v t) = in_val v

abbrev pub outline_of : {s : Sort} → Judgement s → Outline
outline_of (gives v) = in_val v
outline_of (has v t) = in_val v
outline_of (is_condition v) = in_val v
outline_of (values_give vs) = in_vals vs
outline_of (labelled_values_give ls) = in_labelled_vals ls
outline_of (application s f vs t) = in_val f ▸ in_field_vals vs
outline_of (fields_fit s f bs ps ls g) = in_field_vals f
outline_of (written_arguments s ts bs) = in_types ts
outline_of (values_fit s vs ps g) = in_vals vs
outline_of (labelled_values_fit s ls ms g) = in_labelled_vals ls
outline_of (value_fits s v t g) = in_val v
outline_of (given_fits s v t u g) = empty
outline_of (abstraction_gives f) = in_abs f
outline_of (abstraction_against f t) = in_abs f
outline_of (pattern_gives p) = in_pat p
outline_of (fields_give f) = in_field_pats f
outline_of (binders_give bs) = in_pattern_binders bs
outline_of (patterns_give ps) = in_pats ps
outline_of (labelled_patterns_give ls) = in_labelled_pats ls
outline_of (pattern_against p t) = in_pat p
outline_of (fields_against s f bs ps ls) = in_field_pats f
outline_of (binders_against bs rs) = in_pattern_binders bs
outline_of (patterns_against ps ts) = in_pats ps
outline_of (labelled_patterns_against ls ms) = in_labelled_pats ls
outline_of (declaration d) = in_dec d
outline_of (declarations ds) = in_decs ds
outline_of (signatures ds) = in_definitions ds
outline_of (signature x f) = in_abs f
outline_of (bodies ss) = empty
outline_of (body b) = outline_of_body b
outline_of (process p) = in_proc p
outline_of (processes ps) = in_procs ps
outline_of (receives c f) = in_chan c ▸ in_abs f

-- the names of values count but in patterns, which use none, and in the heads of a `def`, which are judged before its names
-- are known
abbrev pub KnowsValues : {s : Sort} → Judgement s → Environment → Around → Type 0
KnowsValues (pattern_gives p) e a = Unit {0}
KnowsValues (fields_give f) e a = Unit {0}
KnowsValues (binders_give bs) e a = Unit {0}
KnowsValues (patterns_give ps) e a = Unit {0}
KnowsValues (labelled_patterns_give ls) e a = Unit {0}
KnowsValues (pattern_against p t) e a = Unit {0}
KnowsValues (fields_against s f bs ps ls) e a = Unit {0}
KnowsValues (binders_against bs rs) e a = Unit {0}
KnowsValues (patterns_against ps ts) e a = Unit {0}
KnowsValues (labelled_patterns_against ls ms) e a = Unit {0}
KnowsValues (signatures ds) e a = Unit {0}
KnowsValues (signature x f) e a = Unit {0}
KnowsValues _ e a = HasValuesOf e a

abbrev pub StandsIn : List Mark → Mark → Type 0
StandsIn [] m = ⊥
StandsIn (x ∷ xs) m = (m ≡ x) ⊎ StandsIn xs m

pub record EachMark (Q : Mark → Type 0) (ms : List Mark) : Type 0 where
  pub each : (m : Mark) → StandsIn ms m → Q m

-- what is judged is read by the scopes at a place around which the names are those of the environment, and each of its marks
-- there has this property
pub record IsReadAs (Q : Mark → Type 0) (s : Sort) (e : Environment) (j : Judgement s) : Type 0 where
  pub around : Around
  pub types_ : HasTypesOf e around
  pub values : KnowsValues j e around
  pub each_mark : EachMark Q (marks (outline_of j) around)

-- each body of a `def` at its own place
abbrev pub BodiesAreRead : (Mark → Type 0) → Environment → List Signature → Type 0
BodiesAreRead Q e [] = Unit {0}
BodiesAreRead Q e (s ∷ ss) = IsReadAs Q _ (extended e s.adds) (body s.body) × BodiesAreRead Q e ss

abbrev pub IsRead : (Mark → Type 0) → (s : Sort) → Environment → Judgement s → Type 0
IsRead Q s e (bodies ss) = BodiesAreRead Q e ss
IsRead Q s e j = IsReadAs Q s e j

-- whatever judgement the rules reach from a program, in an environment, the scopes of the program read what is judged at a
-- place around which the names are those of the environment
abbrev pub SameNames : Type 0
SameNames =
    (names : List (List ℕ)) (p : Decs) (s : Sort) (e : Environment) (j : Judgement s) → Reached names p s e j
    → IsRead (StandsIn (program_marks names p)) s e j

-- a mark that is no refusal
abbrev pub IsNoStop : Mark → Type 0
IsNoStop m = or_later m None ≡ None

-- and no rule of scopes fails there, where none fails in the program
abbrev pub NoStopIsReached : Type 0
NoStopIsReached =
    (names : List (List ℕ)) (p : Decs) (s : Sort) (e : Environment) (j : Judgement s) → scope_stop names p ≡ None
    → Reached names p s e j → IsRead IsNoStop s e j

-- a use of a value has a binder among the values of the environment, or else it is a primitive
abbrev pub IsKnownValue : Environment → ℕ → Type 0
IsKnownValue e n =
    ((t : PlainType) × (known_type e.values n ≡ Some t))
    ⊎ ((known_type e.values n ≡ None) × ((p : Primitive) × (primitive_named (text_of e.names n) ≡ Some p)))

-- so each value that is used is known, where no rule of scopes fails
abbrev pub UsesAreKnown : Type 0
UsesAreKnown =
    (names : List (List ℕ)) (p : Decs) (e : Environment) (i : Span) (n : Name) → scope_stop names p ≡ None
    → Reached names p type_ e (gives (of_chan (use_chan i n))) → IsKnownValue e n.0
