-- The fields of a record pattern, opened one after the other: what each adds stands in the last context.
use Rattle.std.proofs.Common.{◌≡◌, ℕ, suc, ◌+◌, List, [], ◌∷◌, ◌++◌, map, length, refl, sym, ◌∙◌, ap, ap₂, subst, Option, Some, None, arith, length-append}
use Rattle.std.specs.Prelude.{slice_get, option_map}
use Rattle.std.proofs.lemmas.Option.{slice_get-map}
use Rattle.std.proofs.lemmas.List.{length-map}
use Rattle.pict_types.specs.Types.{PlainType, Fields, PlainTypes, no_type, types, PlainLabels, no_bound, TypeContext, type_at}
use Rattle.pict_types.specs.Renaming.{rename_types, rename_labels, moved}
use Rattle.pict_types.proofs.Renamed.{type_at_renamed, types_twice, labels_twice}
use Rattle.pict_core.specs.Term.{Pat, Pats, LabelledPats, Bind, RecordPat, no_pats, more_pats, no_labelled_pats, more_labelled_pats}
use Rattle.pict_typing.specs.Erasing.{erased, erased_types, erased_labels}
use Rattle.pict_typing.specs.Worlds.{shifted}
use Rattle.pict_typing.specs.Opening.{Opens, OpenTypes, OpenLabels, binds_one, opens_none, opens_more, opens_no_label, opens_label, opens_record, LabelsAreDistinct}
use Rattle.pict_bridge.specs.Embedding.{erased_context, Embeds}
use Rattle.pict_bridge.proofs.Erased.{type_at_erased}
use Rattle.pict_rules.specs.Environments.{Environment, Extension, context_of, no_extension}
use Rattle.pict_bridge.specs.Opening.{meaning, IsExtensionPlaced, AddsWhatIsOpened}
use Rattle.pict_bridge.proofs.Joining.{type_after}
use Rattle.pict_bridge.proofs.Opened.{embeds_after, opens_embeds, types_embed, labels_embed}
use Rattle.pict_typing.proofs.ValuesPut.{stays_before}

abbrev pub Each : {A : Type 0} → (A → Type 0) → List A → Type 0
Each P [] = Unit {0}
Each P (x ∷ xs) = P x × Each P xs

pub each_by : {A : Type 0} (P Q : A → Type 0) → ((x : A) → P x → Q x) → (xs : List A) → Each P xs → Each Q xs
each_by P Q k [] h = tt
each_by P Q k (x ∷ xs) h = (k x h.0, each_by P Q k xs h.1)

pub each_last : {A : Type 0} (P : A → Type 0) (xs : List A) (y : A) → Each P xs → P y → Each P (xs ++ y ∷ [])
each_last P [] y h k = (k, tt)
each_last P (x ∷ xs) y h k = (h.0, each_last P xs y h.1 k)

pub last_of_each : {A : Type 0} (P : A → Type 0) (xs : List A) (y : A) → Each P (xs ++ y ∷ []) → Each P xs × P y
last_of_each P [] y h = (tt, h.0)
last_of_each P (x ∷ xs) y h = let z = last_of_each P xs y h.1 in ((h.0, z.0), z.1)

pub slice_second : {A : Type 0} (xs ys : List A) (i : ℕ) (x : A) → slice_get ys i ≡ Some x → slice_get (xs ++ ys) (length xs + i) ≡ Some x
slice_second [] ys i x e = let q : 0 + i ≡ i = omega arith in rw q e
slice_second (y ∷ xs) ys i x e = let q : suc (length xs) + i ≡ suc (length xs + i) = omega arith in rw q (slice_second xs ys i x e)

-- a core pattern with the names of its variables, the type that it goes against, and what it adds
pub record Part : Type 0 where
  pub pattern_ : Pat
  pub slots : List (Option ℕ)
  pub type_ : PlainType
  pub adds : Extension

abbrev pub part_pats : List Part → Pats
part_pats [] = no_pats
part_pats (x ∷ xs) = more_pats x.pattern_ (part_pats xs)

abbrev pub part_types : List Part → PlainTypes
part_types [] = no_type
part_types (x ∷ xs) = types x.type_ (part_types xs)

abbrev pub part_slots : List Part → List (Option ℕ)
part_slots [] = []
part_slots (x ∷ xs) = x.slots ++ part_slots xs

abbrev pub labelled_pats : List (ℕ × Part) → LabelledPats
labelled_pats [] = no_labelled_pats
labelled_pats (x ∷ xs) = more_labelled_pats x.0 x.1.pattern_ (labelled_pats xs)

abbrev pub labelled_slots : List (ℕ × Part) → List (Option ℕ)
labelled_slots [] = []
labelled_slots (x ∷ xs) = x.1.slots ++ labelled_slots xs

-- a variable without a name, as that of a function's answer
abbrev pub unnamed : PlainType → Part
unnamed t = record { pattern_ = Bind; slots = None ∷ []; type_ = t; adds = no_extension }

-- the answer's variable stands last among the positional ones, where there is one
abbrev pub only_answer : Option PlainType → List Part
only_answer None = []
only_answer (Some u) = unnamed u ∷ []

abbrev pub and_answer : Option PlainType → List Part → List Part
and_answer o [] = only_answer o
and_answer o (x ∷ xs) = x ∷ and_answer o xs

-- it has the answer's type, by what f does once more variables are opened
abbrev pub AnswerIsAt : Option PlainType → ℕ → (ℕ → ℕ) → ℕ → List PlainType → Type 0
AnswerIsAt None place f more ts = Unit {0}
AnswerIsAt (Some u) place f more ts = slice_get ts place ≡ Some (meaning (λ i. f i + more) u)

-- a pattern opens its type wherever it stands
abbrev pub OpensAnywhere : List (List ℕ) → Environment → Part → Type 0
OpensAnywhere names e x = (c : TypeContext) (f : ℕ → ℕ) → Embeds f (erased_context (context_of e)) c → AddsWhatIsOpened e x.adds f x.slots (Opens names c x.pattern_ (meaning f x.type_))

abbrev pub IsTypedAt : PlainLabels → (ℕ × Part) → Type 0
IsTypedAt ls x = type_at x.0 ls ≡ Some x.1.type_

-- several patterns, and what each adds
pub record AllOpened (e : Environment) (f : ℕ → ℕ) (slots : List (Option ℕ)) (adds : List Extension) (o : Option PlainType) (place : ℕ) (opening : TypeContext → ℕ → List PlainType → Type 0) : Type 0 where
  pub context : TypeContext
  pub more : ℕ
  pub types_ : List PlainType
  pub opens : opening context more types_
  pub as_many : length slots ≡ length types_
  pub placed : Each (IsExtensionPlaced e f context more slots types_) adds
  pub answer_at : AnswerIsAt o place f more types_

length_shifted : (n : ℕ) (ts : List PlainType) → length (map (shifted n) ts) ≡ length ts
length_shifted n ts = length-map ts (shifted n)

counted : (slots others : List (Option ℕ)) (n : ℕ) (ts us : List PlainType) → length slots ≡ length ts → length others ≡ length us → length (slots ++ others) ≡ length (map (shifted n) ts ++ us)
counted slots others n ts us x y = length-append slots others ∙ ap₂ (λ a b. a + b) (x ∙ sym (length_shifted n ts)) y ∙ sym (length-append (map (shifted n) ts) us)

-- what is opened first, and what is opened after it
placed_first : (e : Environment) (f : ℕ → ℕ) (c d : TypeContext) (m n : ℕ) (slots others : List (Option ℕ)) (ts us : List PlainType) (x : Extension) → Embeds (moved n 0) c d → IsExtensionPlaced e f c m slots ts x → IsExtensionPlaced e f d (m + n) (slots ++ others) (map (shifted n) ts ++ us) x
placed_first e f c d m n slots others ts us x i p = record {
  later = λ k. p.later k + n;
  embeds = embeds_after (λ k. p.later k + n) p.embeds i (λ k. refl);
  extends_ = λ k. ap (λ z. z + n) (p.extends_ k) ∙ omega arith;
  each = λ l t q. let b = p.each l t q in record {
    place = b.place;
    named_ = stays_before slots others b.place (Some l) b.named_;
    typed = stays_before (map (shifted n) ts) us b.place (meaning (λ k. p.later k + n) t) (slice_get-map (shifted n) ts b.place ∙ ap (option_map (shifted n)) b.typed ∙ ap Some (type_after (moved n 0) p.later (λ k. p.later k + n) (erased t) (λ k. refl)));
  };
}

placed_second : (e : Environment) (f : ℕ → ℕ) (d : TypeContext) (m n : ℕ) (slots others : List (Option ℕ)) (ts us : List PlainType) (x : Extension) → length slots ≡ length ts → IsExtensionPlaced e (λ k. f k + m) d n others us x → IsExtensionPlaced e f d (m + n) (slots ++ others) (map (shifted n) ts ++ us) x
placed_second e f d m n slots others ts us x l p = record {
  later = p.later;
  embeds = p.embeds;
  extends_ = λ k. p.extends_ k ∙ omega arith;
  each = λ i t q. let b = p.each i t q in
      let k : length slots ≡ length (map (shifted n) ts) = l ∙ sym (length_shifted n ts) in
      record {
        place = length slots + b.place;
        named_ = slice_second slots others b.place (Some i) b.named_;
        typed = subst (λ z. slice_get (map (shifted n) ts ++ us) (z + b.place) ≡ Some (meaning p.later t)) (sym k) (slice_second (map (shifted n) ts) us b.place (meaning p.later t) b.typed);
      };
}

-- ---- positional fields

abbrev pub meanings : (ℕ → ℕ) → PlainTypes → PlainTypes
meanings f ts = rename_types f (erased_types ts)

abbrev pub label_meanings : (ℕ → ℕ) → PlainLabels → PlainLabels
label_meanings f ls = rename_labels f (erased_labels ls)

types_later : (f : ℕ → ℕ) (m : ℕ) (ts : PlainTypes) → rename_types (moved m 0) (meanings f ts) ≡ meanings (λ k. f k + m) ts
types_later f m ts = types_twice (erased_types ts) (record { each = λ k. refl })

labels_later : (f : ℕ → ℕ) (m : ℕ) (ls : PlainLabels) → rename_labels (moved m 0) (label_meanings f ls) ≡ label_meanings (λ k. f k + m) ls
labels_later f m ls = labels_twice (erased_labels ls) (record { each = λ k. refl })

answer_second : (o : Option PlainType) (f : ℕ → ℕ) (m n place : ℕ) (slots others : List (Option ℕ)) (ts us : List PlainType) → length slots ≡ length ts → place ≡ length others → AnswerIsAt o place (λ k. f k + m) n us → AnswerIsAt o (length (slots ++ others)) f (m + n) (map (shifted n) ts ++ us)
answer_second None f m n place slots others ts us l q h = tt
answer_second (Some u) f m n place slots others ts us l q h =
    let k : length (map (shifted n) ts) + place ≡ length (slots ++ others) = ap₂ (λ a b. a + b) (length_shifted n ts ∙ sym l) q ∙ sym (length-append slots others) in
    subst (λ z. slice_get (map (shifted n) ts ++ us) z ≡ Some (meaning (λ i. f i + (m + n)) u)) k (slice_second (map (shifted n) ts) us place (meaning (λ i. f i + (m + n)) u) (h ∙ ap (λ g. Some (meaning g u)) (λ j i. same_sum (f i) j)))
  where
    same_sum : (i : ℕ) → i + m + n ≡ i + (m + n)
    same_sum i = omega arith

answer_first : (o : Option PlainType) (f : ℕ → ℕ) (m n place : ℕ) (ts us : List PlainType) → AnswerIsAt o place f m ts → AnswerIsAt o place f (m + n) (map (shifted n) ts ++ us)
answer_first None f m n place ts us h = tt
answer_first (Some u) f m n place ts us h =
    stays_before (map (shifted n) ts) us place (meaning (λ i. f i + (m + n)) u) (slice_get-map (shifted n) ts place ∙ ap (option_map (shifted n)) h ∙ ap Some (type_after (moved n 0) (λ i. f i + m) (λ i. f i + (m + n)) (erased u) (λ i. omega arith)))

pub types_open : (names : List (List ℕ)) (e : Environment) (a : Option PlainType) (xs : List Part) (c : TypeContext) (f : ℕ → ℕ) → Embeds f (erased_context (context_of e)) c → Each (OpensAnywhere names e) xs → AllOpened e f (part_slots (and_answer a xs)) (map (λ x. x.adds) xs) a (length (part_slots xs)) (OpenTypes names c (part_pats (and_answer a xs)) (meanings f (part_types (and_answer a xs))))
types_open names e None [] c f i o = record { context = c; more = 0; types_ = []; opens = opens_none; as_many = refl; placed = tt; answer_at = tt }
types_open names e (Some u) [] c f i o = record { context = c; more = 0; types_ = shifted 0 (meaning f u) ∷ []; opens = opens_more binds_one opens_none; as_many = refl; placed = tt; answer_at = ap Some (type_after (moved 0 0) f (λ k. f k + 0) (erased u) (λ k. refl)) }
types_open names e a (x ∷ xs) c f i o = first (o.0 c f i) (λ d g j. types_open names e a xs d g j o.1)
  where
    first : AddsWhatIsOpened e x.adds f x.slots (Opens names c x.pattern_ (meaning f x.type_)) → ((d : TypeContext) (g : ℕ → ℕ) → Embeds g (erased_context (context_of e)) d → AllOpened e g (part_slots (and_answer a xs)) (map (λ y. y.adds) xs) a (length (part_slots xs)) (OpenTypes names d (part_pats (and_answer a xs)) (meanings g (part_types (and_answer a xs))))) → AllOpened e f (x.slots ++ part_slots (and_answer a xs)) (x.adds ∷ map (λ y. y.adds) xs) a (length (x.slots ++ part_slots xs)) (OpenTypes names c (more_pats x.pattern_ (part_pats (and_answer a xs))) (types (meaning f x.type_) (meanings f (part_types (and_answer a xs)))))
    first p rest = record {
      context = r.context;
      more = p.more + r.more;
      types_ = map (shifted r.more) p.types_ ++ r.types_;
      opens = opens_more p.opens (subst (λ k. OpenTypes names p.context (part_pats (and_answer a xs)) k r.context r.more r.types_) (sym (types_later f p.more (part_types (and_answer a xs)))) r.opens);
      as_many = counted x.slots (part_slots (and_answer a xs)) r.more p.types_ r.types_ p.as_many r.as_many;
      placed = (
        placed_first e f p.context r.context p.more r.more x.slots (part_slots (and_answer a xs)) p.types_ r.types_ x.adds (types_embed r.opens) p.placed,
        each_by (IsExtensionPlaced e g r.context r.more (part_slots (and_answer a xs)) r.types_) _ (λ y z. placed_second e f r.context p.more r.more x.slots (part_slots (and_answer a xs)) p.types_ r.types_ y p.as_many z) (map (λ y. y.adds) xs) r.placed,
      );
      answer_at = answer_second a f p.more r.more (length (part_slots xs)) x.slots (part_slots xs) p.types_ r.types_ p.as_many refl r.answer_at;
    }
      where
        g : ℕ → ℕ
        g k = f k + p.more

        r : AllOpened e g (part_slots (and_answer a xs)) (map (λ y. y.adds) xs) a (length (part_slots xs)) (OpenTypes names p.context (part_pats (and_answer a xs)) (meanings g (part_types (and_answer a xs))))
        r = rest p.context g (embeds_after g i (opens_embeds p.opens) (λ k. refl))

-- ---- labelled fields, in any order

pub labels_open : (names : List (List ℕ)) (e : Environment) (ls : PlainLabels) (xs : List (ℕ × Part)) (c : TypeContext) (f : ℕ → ℕ) → Embeds f (erased_context (context_of e)) c → Each (IsTypedAt ls) xs → Each (λ x. OpensAnywhere names e x.1) xs → AllOpened e f (labelled_slots xs) (map (λ x. x.1.adds) xs) None 0 (OpenLabels names c (labelled_pats xs) (label_meanings f ls))
labels_open names e ls [] c f i h o = record { context = c; more = 0; types_ = []; opens = opens_no_label; as_many = refl; placed = tt; answer_at = tt }
labels_open names e ls (x ∷ xs) c f i h o = first (o.0 c f i) (λ d g j. labels_open names e ls xs d g j h.1 o.1)
  where
    first : AddsWhatIsOpened e x.1.adds f x.1.slots (Opens names c x.1.pattern_ (meaning f x.1.type_)) → ((d : TypeContext) (g : ℕ → ℕ) → Embeds g (erased_context (context_of e)) d → AllOpened e g (labelled_slots xs) (map (λ y. y.1.adds) xs) None 0 (OpenLabels names d (labelled_pats xs) (label_meanings g ls))) → AllOpened e f (x.1.slots ++ labelled_slots xs) (x.1.adds ∷ map (λ y. y.1.adds) xs) None 0 (OpenLabels names c (more_labelled_pats x.0 x.1.pattern_ (labelled_pats xs)) (label_meanings f ls))
    first p rest = record {
      context = r.context;
      more = p.more + r.more;
      types_ = map (shifted r.more) p.types_ ++ r.types_;
      opens = opens_label (type_at_renamed f x.0 (erased_labels ls) (erased x.1.type_) (type_at_erased x.0 ls x.1.type_ h.0)) p.opens (subst (λ k. OpenLabels names p.context (labelled_pats xs) k r.context r.more r.types_) (sym (labels_later f p.more ls)) r.opens);
      as_many = counted x.1.slots (labelled_slots xs) r.more p.types_ r.types_ p.as_many r.as_many;
      placed = (
        placed_first e f p.context r.context p.more r.more x.1.slots (labelled_slots xs) p.types_ r.types_ x.1.adds (labels_embed r.opens) p.placed,
        each_by (IsExtensionPlaced e g r.context r.more (labelled_slots xs) r.types_) _ (λ y z. placed_second e f r.context p.more r.more x.1.slots (labelled_slots xs) p.types_ r.types_ y p.as_many z) (map (λ y. y.1.adds) xs) r.placed,
      );
      answer_at = tt;
    }
      where
        g : ℕ → ℕ
        g k = f k + p.more

        r : AllOpened e g (labelled_slots xs) (map (λ y. y.1.adds) xs) None 0 (OpenLabels names p.context (labelled_pats xs) (label_meanings g ls))
        r = rest p.context g (embeds_after g i (opens_embeds p.opens) (λ k. refl))

-- ---- both

-- a record pattern's fields, and what both kinds of them add
pub record FieldsOpened (e : Environment) (f : ℕ → ℕ) (slots : List (Option ℕ)) (firsts seconds : List Extension) (o : Option PlainType) (place : ℕ) (opening : TypeContext → ℕ → List PlainType → Type 0) : Type 0 where
  pub context : TypeContext
  pub more : ℕ
  pub types_ : List PlainType
  pub opens : opening context more types_
  pub as_many : length slots ≡ length types_
  pub embeds : Embeds (λ i. f i + more) (erased_context (context_of e)) context
  pub positional : Each (IsExtensionPlaced e f context more slots types_) firsts
  pub labelled : Each (IsExtensionPlaced e f context more slots types_) seconds
  pub answer_at : AnswerIsAt o place f more types_

-- positional patterns, the answer's variable where there is one, and labelled patterns
abbrev pub FieldsOpen : List (List ℕ) → Environment → Option PlainType → List Part → PlainLabels → List (ℕ × Part) → TypeContext → (ℕ → ℕ) → Type 0
FieldsOpen names e a xs ls ys c f =
    FieldsOpened e f (part_slots (and_answer a xs) ++ labelled_slots ys) (map (λ x. x.adds) xs) (map (λ y. y.1.adds) ys) a (length (part_slots xs))
    (Opens names c (RecordPat (part_pats (and_answer a xs)) (labelled_pats ys)) (meaning f (Fields no_bound (part_types (and_answer a xs)) ls)))

pub record_opens : (names : List (List ℕ)) (e : Environment) (a : Option PlainType) (xs : List Part) (ls : PlainLabels) (ys : List (ℕ × Part)) (c : TypeContext) (f : ℕ → ℕ) → Embeds f (erased_context (context_of e)) c → Each (OpensAnywhere names e) xs → Each (IsTypedAt ls) ys → Each (λ y. OpensAnywhere names e y.1) ys → LabelsAreDistinct (labelled_pats ys) → FieldsOpen names e a xs ls ys c f
record_opens names e a xs ls ys c f i o h k distinct = both (types_open names e a xs c f i o) (λ d g j. labels_open names e ls ys d g j h k)
  where
    ss : List (Option ℕ)
    ss = part_slots (and_answer a xs)

    both : AllOpened e f ss (map (λ x. x.adds) xs) a (length (part_slots xs)) (OpenTypes names c (part_pats (and_answer a xs)) (meanings f (part_types (and_answer a xs)))) → ((d : TypeContext) (g : ℕ → ℕ) → Embeds g (erased_context (context_of e)) d → AllOpened e g (labelled_slots ys) (map (λ y. y.1.adds) ys) None 0 (OpenLabels names d (labelled_pats ys) (label_meanings g ls)))
        → FieldsOpen names e a xs ls ys c f
    both p rest = record {
      context = r.context;
      more = p.more + r.more;
      types_ = map (shifted r.more) p.types_ ++ r.types_;
      opens = opens_record distinct p.opens (subst (λ z. OpenLabels names p.context (labelled_pats ys) z r.context r.more r.types_) (sym (labels_later f p.more ls)) r.opens);
      as_many = counted ss (labelled_slots ys) r.more p.types_ r.types_ p.as_many r.as_many;
      embeds = embeds_after (λ z. f z + (p.more + r.more)) (embeds_after g i (types_embed p.opens) (λ z. refl)) (labels_embed r.opens) (λ z. omega arith);
      positional = each_by (IsExtensionPlaced e f p.context p.more ss p.types_) _ (λ y z. placed_first e f p.context r.context p.more r.more ss (labelled_slots ys) p.types_ r.types_ y (labels_embed r.opens) z) (map (λ x. x.adds) xs) p.placed;
      labelled = each_by (IsExtensionPlaced e g r.context r.more (labelled_slots ys) r.types_) _ (λ y z. placed_second e f r.context p.more r.more ss (labelled_slots ys) p.types_ r.types_ y p.as_many z) (map (λ y. y.1.adds) ys) r.placed;
      answer_at = answer_first a f p.more r.more (length (part_slots xs)) p.types_ r.types_ p.answer_at;
    }
      where
        g : ℕ → ℕ
        g z = f z + p.more

        r : AllOpened e g (labelled_slots ys) (map (λ y. y.1.adds) ys) None 0 (OpenLabels names p.context (labelled_pats ys) (label_meanings g ls))
        r = rest p.context g (embeds_after g i (types_embed p.opens) (λ z. refl))
