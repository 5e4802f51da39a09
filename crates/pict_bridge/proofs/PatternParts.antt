-- What the rules find for the fields of a pattern, and what follows for record patterns and for the fields of a function.
use Rattle.std.proofs.Common.{◌≡◌, ◌≢◌, ℕ, suc, ◌+◌, List, [], ◌∷◌, ◌++◌, map, length, refl, sym, ◌∙◌, ap, ap₂, subst, Option, Some, None, append_assoc}
use Rattle.std.specs.Prelude.{slice_get}
use Rattle.std.proofs.lemmas.List.{map-append}
use Rattle.pict_syntax.specs.Labels.{in_label_order}
use Rattle.pict_syntax.specs.Trees.{Pats, LabelledPats}
use Rattle.pict_types.specs.Types.{PlainType, Fields, PlainTypes, types, PlainLabels, no_bound, TypeContext, count_bounds}
use Rattle.pict_types.specs.Renaming.{beyond_all, rename, moved}
use Rattle.pict_core.specs.Term as core
use Rattle.pict_core.specs.Term.{Pat, RecordPat, more_labelled_pats}
use Rattle.pict_normal.specs.Normal.{and_type}
use Rattle.pict_typing.specs.Erasing.{erased}
use Rattle.pict_typing.specs.Opening.{Opens, LabelsAreDistinct, LacksLabel}
use Rattle.pict_bridge.specs.Embedding.{erased_context, Embeds}
use Rattle.pict_bridge.proofs.Erased.{erased_renamed}
use Rattle.pict_rules.specs.Environments.{Environment, Extension, KnownType, context_of, within, joined_extensions, opened, bounds_of, shifted_by}
use Rattle.pict_rules.specs.Clauses.{with_own}
use Rattle.pict_translation.specs.Patterns.{Opened, patterns_in, labelled_patterns_in, names_opened, labelled_names_in, record_pat, all_opened, labelled_opened, answer}
use Rattle.pict_bridge.specs.Opening.{meaning, named, IsExtensionPlaced, AddsWhatIsOpened}
use Rattle.pict_bridge.proofs.Joining.{type_after}
use Rattle.pict_bridge.proofs.Placed.{placed_joined}
use Rattle.pict_bridge.proofs.FieldsOpen.{Each, Part, part_pats, part_types, part_slots, and_answer, AnswerIsAt, labelled_pats, labelled_slots, OpensAnywhere, IsTypedAt, FieldsOpen, record_opens}
use Rattle.pict_bridge.proofs.Packages.{under_fields, own_embeds, package_opens, within_embeds, within_extends}
use Rattle.pict_bridge.proofs.Ordered.{to_each, LabelsOnce}

-- a source pattern's core pattern and names, with the type that it goes against and what it adds
pub record Field : Type 0 where
  pub opened_ : Opened
  pub type_ : PlainType
  pub adds : Extension

abbrev pub as_part : Field → Part
as_part x = record { pattern_ = x.opened_.pattern; slots = named x.opened_.names; type_ = x.type_; adds = x.adds }

abbrev pub as_parts : List Field → List Part
as_parts xs = map as_part xs

abbrev pub labelled_parts : List (ℕ × Field) → List (ℕ × Part)
labelled_parts ys = to_each as_part ys

-- what stands for several extensions stands for the one that they make
abbrev pub StandForOne : Environment → List Extension → Extension → Type 0
StandForOne e xs x =
    (f : ℕ → ℕ) (d : TypeContext) (n : ℕ) (slots : List (Option ℕ)) (ts : List PlainType)
    → Embeds (λ i. f i + n) (erased_context (context_of e)) d → Each (IsExtensionPlaced e f d n slots ts) xs → IsExtensionPlaced e f d n slots ts x

-- the answer's variable as the translation has it
abbrev pub answers : Option PlainType → List Opened
answers None = []
answers (Some u) = answer ∷ []

-- the answer's channel has its type, written in what stands after the pattern
abbrev pub AnswerHas : Option PlainType → ℕ → Extension → (ℕ → ℕ) → List PlainType → Type 0
AnswerHas None place x later ts = Unit {0}
AnswerHas (Some u) place x later ts = slice_get ts place ≡ Some (meaning later (shifted_by (opened x) u))

pub length_named : (ns : List ℕ) → length (named ns) ≡ length ns
length_named [] = refl
length_named (n ∷ ns) = ap suc (length_named ns)

answer_has : (a : Option PlainType) (from to : ℕ) (x : Extension) (f : ℕ → ℕ) (more : ℕ) (later : ℕ → ℕ) (ts : List PlainType) → from ≡ to → ((i : ℕ) → later (i + opened x) ≡ f i + more) → AnswerIsAt a from f more ts → AnswerHas a to x later ts
answer_has None from to x f more later ts q e h = tt
answer_has (Some u) from to x f more later ts q e h =
    ap (slice_get ts) (sym q) ∙ h ∙ ap Some (sym (ap (rename later) (erased_renamed (moved (opened x) 0) u) ∙ type_after later (moved (opened x) 0) (λ i. f i + more) (erased u) e))

-- positional fields, against these types
pub record PositionalFields (e : Environment) (ps : Pats) (ts : PlainTypes) (x : Extension) : Type 0 where
  pub fields : List Field
  pub are : all_opened e.names ps ≡ map (λ y. y.opened_) fields
  pub typed : part_types (as_parts fields) ≡ ts
  pub opens_ : Each (OpensAnywhere e.names e) (as_parts fields)
  pub one : StandForOne e (map (λ y. y.adds) fields) x

-- labelled fields, in the order of their labels, each against the type at its label
pub record LabelledFields (e : Environment) (ls : LabelledPats) (ms : PlainLabels) (x : Extension) : Type 0 where
  pub fields : List (ℕ × Field)
  pub are : in_label_order e.names (labelled_opened e.names ls) ≡ to_each (λ y. y.opened_) fields
  pub typed : Each (λ y. IsTypedAt ms (y.0, as_part y.1)) fields
  pub opens_ : Each (λ y. OpensAnywhere e.names e (as_part y.1)) fields
  pub once : LabelsOnce fields
  pub one : StandForOne e (map (λ y. y.1.adds) fields) x

-- the fields of a record pattern or of a function, with its own type binders
pub record PatternFields (e : Environment) (ps : Pats) (ls : LabelledPats) (own : List KnownType) (ts : PlainTypes) (ms : PlainLabels) (x : Extension) : Type 0 where
  pub firsts : Extension
  pub seconds : Extension
  pub positional : PositionalFields (with_own e own) ps ts firsts
  pub labelled : LabelledFields (with_own e own) ls ms seconds
  pub is : x ≡ joined_extensions firsts seconds

-- ---- parts and what is opened

parts_patterns : (a : Option PlainType) (xs : List Field) → part_pats (and_answer a (as_parts xs)) ≡ patterns_in (map (λ y. y.opened_) xs ++ answers a)
parts_patterns None [] = refl
parts_patterns (Some u) [] = refl
parts_patterns a (x ∷ xs) = ap (core.more_pats x.opened_.pattern) (parts_patterns a xs)

labelled_patterns : (ys : List (ℕ × Field)) → labelled_pats (labelled_parts ys) ≡ labelled_patterns_in (to_each (λ y. y.opened_) ys)
labelled_patterns [] = refl
labelled_patterns (y ∷ ys) = ap (core.more_labelled_pats y.0 y.1.opened_.pattern) (labelled_patterns ys)

named_both : (ns ms : List ℕ) → named (ns ++ ms) ≡ named ns ++ named ms
named_both ns ms = map-append (λ n. Some n) ns ms

-- the names of the positional fields, of the answer's variable where there is one, and of the labelled fields
abbrev pub unnamed_answer : Option PlainType → List (Option ℕ)
unnamed_answer None = []
unnamed_answer (Some u) = None ∷ []

parts_named : (xs : List Field) → part_slots (as_parts xs) ≡ named (names_opened (map (λ y. y.opened_) xs))
parts_named [] = refl
parts_named (x ∷ xs) = ap (λ z. named x.opened_.names ++ z) (parts_named xs) ∙ sym (named_both x.opened_.names (names_opened (map (λ y. y.opened_) xs)))

slots_and : (a : Option PlainType) (xs : List Part) → part_slots (and_answer a xs) ≡ part_slots xs ++ unnamed_answer a
slots_and None [] = refl
slots_and (Some u) [] = refl
slots_and a (x ∷ xs) = ap (λ z. x.slots ++ z) (slots_and a xs) ∙ sym (append_assoc x.slots (part_slots xs) (unnamed_answer a))

labelled_named : (ys : List (ℕ × Field)) → labelled_slots (labelled_parts ys) ≡ named (labelled_names_in (to_each (λ y. y.opened_) ys))
labelled_named [] = refl
labelled_named (y ∷ ys) = ap (λ z. named y.1.opened_.names ++ z) (labelled_named ys) ∙ sym (named_both y.1.opened_.names (labelled_names_in (to_each (λ z. z.opened_) ys)))

-- the types of the fields, and of the answer's channel where there is one
abbrev pub types_and : PlainTypes → Option PlainType → PlainTypes
types_and ts None = ts
types_and ts (Some u) = and_type ts u

parts_typed : (a : Option PlainType) (xs : List Part) → part_types (and_answer a xs) ≡ types_and (part_types xs) a
parts_typed None [] = refl
parts_typed (Some u) [] = refl
parts_typed None (x ∷ xs) = ap (types x.type_) (parts_typed None xs)
parts_typed (Some u) (x ∷ xs) = ap (types x.type_) (parts_typed (Some u) xs)

-- ---- labels

lacks_label : (l : ℕ) (ys : List (ℕ × Field)) → Each (λ y. l ≢ y.0) ys → LacksLabel l (labelled_pats (labelled_parts ys))
lacks_label l [] h = tt
lacks_label l (y ∷ ys) h = (h.0, lacks_label l ys h.1)

labels_distinct : (ys : List (ℕ × Field)) → LabelsOnce ys → LabelsAreDistinct (labelled_pats (labelled_parts ys))
labels_distinct [] h = tt
labels_distinct (y ∷ ys) h = (lacks_label y.0 ys h.0, labels_distinct ys h.1)

each_part : (P : (ℕ × Part) → Type 0) (ys : List (ℕ × Field)) → Each (λ y. P (y.0, as_part y.1)) ys → Each P (labelled_parts ys)
each_part P [] h = tt
each_part P (y ∷ ys) h = (h.0, each_part P ys h.1)

adds_of_parts : (xs : List Field) → map (λ y. y.adds) (as_parts xs) ≡ map (λ y. y.adds) xs
adds_of_parts [] = refl
adds_of_parts (x ∷ xs) = ap (λ z. x.adds ∷ z) (adds_of_parts xs)

adds_of_labelled : (ys : List (ℕ × Field)) → map (λ y. y.1.adds) (labelled_parts ys) ≡ map (λ y. y.1.adds) ys
adds_of_labelled [] = refl
adds_of_labelled (y ∷ ys) = ap (λ z. y.1.adds ∷ z) (adds_of_labelled ys)

-- ---- a record pattern, and the fields of a function

-- the core pattern, and the names of its variables
abbrev pub fields_pattern : List (List ℕ) → Option PlainType → Pats → LabelledPats → Pat
fields_pattern names a ps ls = record_pat (all_opened names ps ++ answers a) (in_label_order names (labelled_opened names ls))

abbrev pub fields_slots : List (List ℕ) → Option PlainType → Pats → LabelledPats → List (Option ℕ)
fields_slots names a ps ls = (named (names_opened (all_opened names ps)) ++ unnamed_answer a) ++ named (labelled_names_in (in_label_order names (labelled_opened names ls)))

-- what the rules add for them is what is opened; the answer's channel has its type, written in what stands after them
pub record FieldsAdd (e : Environment) (a : Option PlainType) (ps : Pats) (ls : LabelledPats) (own : List KnownType) (ts : PlainTypes) (ms : PlainLabels) (x : Extension) (f : ℕ → ℕ) (c : TypeContext) : Type 0 where
  pub adds : AddsWhatIsOpened e (within own x) f (fields_slots e.names a ps ls) (Opens e.names c (fields_pattern e.names a ps ls) (meaning f (Fields (bounds_of own) (types_and ts a) ms)))
  pub inside : Embeds (λ i. adds.placed.later (i + opened x)) (erased_context (context_of (with_own e own))) adds.context
  pub answer_at : AnswerHas a (length (names_opened (all_opened e.names ps))) x adds.placed.later adds.types_

pub fields_add : (e : Environment) (a : Option PlainType) (ps : Pats) (ls : LabelledPats) (own : List KnownType) (ts : PlainTypes) (ms : PlainLabels) (x : Extension) (c : TypeContext) (f : ℕ → ℕ) → PatternFields e ps ls own ts ms x → Embeds f (erased_context (context_of e)) c → FieldsAdd e a ps ls own ts ms x f c
fields_add e a ps ls own ts ms x c f g i = record {
  adds = record {
    context = r.context;
    more = r.more + count_bounds (bounds_of own);
    types_ = r.types_;
    opens = package_opens c f (bounds_of own) (types_and ts a) ms (subst (λ p. Opens e.names under_own p (meaning inner (Fields no_bound (types_and ts a) ms)) r.context r.more r.types_) pattern_same (subst (λ z. Opens e.names under_own (RecordPat (part_pats (and_answer a xs)) (labelled_pats ys)) (meaning inner (Fields no_bound z ms)) r.context r.more r.types_) types_same r.opens));
    as_many = ap length (sym slots_same) ∙ r.as_many;
    placed = record { later = one.later; embeds = within_embeds e own x one.later r.context one.embeds; extends_ = within_extends own x f one.later r.more one.extends_; each = one.each };
  };
  inside = subst (λ g. Embeds g (erased_context (context_of e1)) r.context) (λ j i. sym (one.extends_ i) j) r.embeds;
  answer_at = answer_has a (length (part_slots xs)) (length (names_opened (all_opened e.names ps))) x inner r.more one.later r.types_ (ap length (parts_named g.positional.fields) ∙ length_named (names_opened (map (λ y. y.opened_) g.positional.fields)) ∙ ap (λ z. length (names_opened z)) (sym g.positional.are)) one.extends_ r.answer_at;
}
  where
    e1 : Environment
    e1 = with_own e own

    inner : ℕ → ℕ
    inner = beyond_all (bounds_of own) f

    under_own : TypeContext
    under_own = under_fields c f (bounds_of own)

    xs : List Part
    xs = as_parts g.positional.fields

    ys : List (ℕ × Part)
    ys = labelled_parts g.labelled.fields

    r : FieldsOpen e.names e1 a xs ms ys under_own inner
    r = record_opens e.names e1 a xs ms ys under_own inner (own_embeds e own c f i) g.positional.opens_ (each_part (IsTypedAt ms) g.labelled.fields g.labelled.typed) (each_part (λ y. OpensAnywhere e.names e1 y.1) g.labelled.fields g.labelled.opens_) (labels_distinct g.labelled.fields g.labelled.once)

    slots : List (Option ℕ)
    slots = fields_slots e.names a ps ls

    slots_same : part_slots (and_answer a xs) ++ labelled_slots ys ≡ slots
    slots_same = ap₂ (λ u v. u ++ v) (slots_and a xs ∙ ap (λ z. z ++ unnamed_answer a) (parts_named g.positional.fields ∙ ap (λ z. named (names_opened z)) (sym g.positional.are))) (labelled_named g.labelled.fields ∙ ap (λ z. named (labelled_names_in z)) (sym g.labelled.are))

    pattern_same : RecordPat (part_pats (and_answer a xs)) (labelled_pats ys) ≡ fields_pattern e.names a ps ls
    pattern_same = ap₂ RecordPat (parts_patterns a g.positional.fields ∙ ap (λ z. patterns_in (z ++ answers a)) (sym g.positional.are)) (labelled_patterns g.labelled.fields ∙ ap labelled_patterns_in (sym g.labelled.are))

    types_same : part_types (and_answer a xs) ≡ types_and ts a
    types_same = parts_typed a xs ∙ ap (λ z. types_and z a) g.positional.typed

    placed_in : Extension → Type 0
    placed_in z = IsExtensionPlaced e1 inner r.context r.more slots r.types_ z

    firsts_ : placed_in g.firsts
    firsts_ = g.positional.one inner r.context r.more slots r.types_ r.embeds (subst (λ z. Each placed_in z) (adds_of_parts g.positional.fields) (subst (λ s. Each (IsExtensionPlaced e1 inner r.context r.more s r.types_) (map (λ y. y.adds) xs)) slots_same r.positional))

    seconds_ : placed_in g.seconds
    seconds_ = g.labelled.one inner r.context r.more slots r.types_ r.embeds (subst (λ z. Each placed_in z) (adds_of_labelled g.labelled.fields) (subst (λ s. Each (IsExtensionPlaced e1 inner r.context r.more s r.types_) (map (λ y. y.1.adds) ys)) slots_same r.labelled))

    one : placed_in x
    one = subst placed_in (sym g.is) (placed_joined e1 inner r.context r.more slots r.types_ g.firsts g.seconds firsts_ seconds_)
