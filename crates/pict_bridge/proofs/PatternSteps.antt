-- The steps of patterns: what each judgement on a pattern adds is what is opened.
use Rattle.std.proofs.Common.{◌≡◌, ◌≢◌, ◌≤◌, ℕ, zero, suc, ◌+◌, Bool, true, false, List, [], ◌∷◌, ◌++◌, map, refl, sym, ◌∙◌, ap, subst, Option, Some, None, arith, nat_eq, eqb-true, append-nil}
use Rattle.std.proofs.lemmas.List.{map-append}
use Rattle.pict_syntax.specs.declared.id.Id.{Id}
use Rattle.pict_syntax.specs.declared.span.Span.{Span}
use Rattle.pict_syntax.specs.Labels.{with_label, in_label_order}
use Rattle.pict_syntax.specs.Trees.{Pat, bind_pat, any_pat, fields_pat, fold_pat, FieldPats, field_pats, Pats, no_pats, more_pats, LabelledPats, no_labelled_pats, more_labelled_pats, TypeTree, Decs}
use Rattle.pict_types.specs.Types.{PlainType, Fields, Rec, PlainTypes, no_type, types, PlainLabels, no_label, PlainBounds, TypeContext, type_at, count_types, count_bounds}
use Rattle.pict_types.specs.Renaming.{rename}
use Rattle.pict_types.specs.Replacing.{unfolding_of}
use Rattle.pict_normal.specs.Normal.{normal, and_type, kind_stop, with_labelled_type}
use Rattle.pict_scope.specs.Scopes.{scope_stop}
use Rattle.pict_sub.specs.Subtyping.{IsSubtype}
use Rattle.pict_sub.specs.Exposing.{exposure}
use Rattle.pict_sub.proofs.Renamed.{weakened}
use Rattle.pict_sub.proofs.Exposed.{exposes}
use Rattle.pict_sub.proofs.Followed.{below_exposed}
use Rattle.pict_typing.specs.Erasing.{erased}
use Rattle.pict_typing.specs.Opening.{Opens, binds_one, binds_none, lowered, opens_unfolding}
use Rattle.pict_bridge.specs.Embedding.{erased_context, Embeds}
use Rattle.pict_bridge.proofs.Erased.{below_erased, erased_type, unfolding_erased}
use Rattle.pict_bridge.proofs.Growing.{type_grown, arg_renamed}
use Rattle.pict_types.specs.Types.{Plain}
use Rattle.pict_types.specs.Renaming.{beyond}
use Rattle.pict_rules.specs.Counts.{count_pats, count_binders}
use Rattle.pict_rules.specs.Shapes.{nth_type}
use Rattle.pict_rules.specs.Environments.{Environment, Extension, KnownType, context_of, known_type, one_value, no_extension, joined_extensions, bounds_of, within}
use Rattle.pict_rules.specs.Clauses.{with_own}
use Rattle.pict_rules.specs.Rules.{Sort, Result, Judgement, gives, has, is_condition, values_give, labelled_values_give, application, fields_fit, written_arguments, values_fit, labelled_values_fit, value_fits, given_fits, abstraction_gives, abstraction_against, pattern_gives, fields_give, binders_give, patterns_give, labelled_patterns_give, pattern_against, fields_against, binders_against, patterns_against, labelled_patterns_against, declaration, declarations, signatures, signature, bodies, body, process, processes, receives, extension_, pattern_, patterns_, labelled_patterns_, fields_, opened_}
use Rattle.pict_rules.specs.Derivations.{Holds}
use Rattle.pict_rules.specs.Typing.{rule}
use Rattle.pict_rules.specs.Reached.{Reached}
use Rattle.pict_scope.specs.DistinctLabels.{IsNewPattern}
use Rattle.pict_rules.specs.Regular.{IsTypeIn, Lacks}
use Rattle.pict_rules.proofs.RegularExpanded.{expands_well}
use Rattle.pict_rules.proofs.RegularProcesses.{exposed_formed}
use Rattle.pict_translation.specs.Patterns.{opened as opened_pattern, all_opened, labelled_opened, pat_core, pat_names, record_pat, names_opened, labelled_names_in}
use Rattle.pict_bridge.specs.Opening.{meaning, named, IsBoundAs, IsExtensionPlaced, AddsWhatIsOpened}
use Rattle.pict_bridge.proofs.Reaching.{ResultProperty, Gives, gives_, refuses, needs, parts, ensures, unless, limits, in_records, in_recursives, in_labels, any_lines, by_steps}
use Rattle.pict_bridge.proofs.Rightly.{rightly, well}
use Rattle.pict_bridge.proofs.Opened.{embeds_same, embeds_after}
use Rattle.pict_bridge.proofs.Placed.{placed_none, placed_joined}
use Rattle.pict_bridge.proofs.FieldsOpen.{Each, each_last, last_of_each, OpensAnywhere, IsTypedAt, part_types}
use Rattle.pict_bridge.proofs.PatternParts.{Field, as_part, as_parts, PositionalFields, LabelledFields, PatternFields, fields_slots, fields_add}
use Rattle.pict_bridge.proofs.Ordered.{ordered_last, put_each, each_put, put_each_of, once_put, type_at_new, type_at_other}

-- against a type, a pattern adds what its core pattern opens
abbrev pub OpensAgainst : Environment → Pat → PlainType → Extension → Type 0
OpensAgainst e p t x =
    (c : TypeContext) (f : ℕ → ℕ) → Embeds f (erased_context (context_of e)) c
    → AddsWhatIsOpened e x f (named (pat_names e.names p)) (Opens e.names c (pat_core e.names p) (meaning f t))

-- the types of the first n positional fields
abbrev pub first_types : ℕ → PlainTypes → PlainTypes
first_types zero ts = no_type
first_types (suc n) no_type = no_type
first_types (suc n) (types t ts) = types t (first_types n ts)

-- positional fields against the first types of these, where there are as many
abbrev PatternsOpen_ : Environment → Pats → PlainTypes → Extension → Type 0
PatternsOpen_ e ps ts x = count_pats ps ≤ count_types ts → PositionalFields e ps (first_types (count_pats ps) ts) x

-- and labels of fields are those that are written
pub record LabelsOpen_ (e : Environment) (ls : LabelledPats) (ms : PlainLabels) (x : Extension) : Type 0 where
  pub fields : LabelledFields e ls ms x
  pub new : (l : ℕ) → IsNewPattern l ls → Each (λ y. l ≢ y.0) fields.fields

abbrev pub FieldsOpen_ : Environment → FieldPats → List KnownType → PlainTypes → PlainLabels → Extension → Type 0
FieldsOpen_ e (field_pats bs ps ls) own ts ms x = PatternFields e ps ls own ts ms x

abbrev pub PatternProperty : ResultProperty
PatternProperty t e (pattern_against p u) x = OpensAgainst e p u x
PatternProperty t e (pattern_gives p) g = OpensAgainst e p g.has g.adds
PatternProperty t e (patterns_against ps ts) x = PatternsOpen_ e ps ts x
PatternProperty t e (patterns_give ps) g = PositionalFields e ps g.have g.adds
PatternProperty t e (labelled_patterns_against ls ms) x = LabelsOpen_ e ls ms x
PatternProperty t e (labelled_patterns_give ls) g = LabelsOpen_ e ls g.have g.adds
PatternProperty t e (fields_against s f bs ps ls) x = FieldsOpen_ e f x.own ps ls x.adds
PatternProperty t e (fields_give f) g = FieldsOpen_ e f g.own g.positional g.labelled g.adds
PatternProperty t e j x = Unit {0}

-- ---- single patterns

adds_by : {e : Environment} {x : Extension} {f : ℕ → ℕ} {slots : List (Option ℕ)} {P Q : TypeContext → ℕ → List PlainType → Type 0} → ((d : TypeContext) (n : ℕ) (ts : List PlainType) → P d n ts → Q d n ts) → AddsWhatIsOpened e x f slots P → AddsWhatIsOpened e x f slots Q
adds_by k p = record { context = p.context; more = p.more; types_ = p.types_; opens = k p.context p.more p.types_ p.opens; as_many = p.as_many; placed = p.placed }

bind_opens : (e : Environment) (s : Span) (x : Id) (r : Option TypeTree) (t : PlainType) → OpensAgainst e (bind_pat s x r) t (one_value x t)
unfolding opened_pattern
bind_opens e s x r t c f i = record {
  context = c;
  more = 0;
  types_ = meaning f t ∷ [];
  opens = binds_one;
  as_many = refl;
  placed = record {
    later = f;
    embeds = i;
    extends_ = λ k. let q : k + 0 ≡ k = omega arith in let z : f k ≡ f k + 0 = omega arith in ap f q ∙ z;
    each = λ m u q. go m u (nat_eq x.name.0 m) refl q;
  };
}
  where
    go : (m : ℕ) (u : PlainType) (b : Bool) → nat_eq x.name.0 m ≡ b → known_type (one_value x t).values m ≡ Some u → IsBoundAs (Some x.name.0 ∷ []) (meaning f t ∷ []) f m u
    go m u true q k =
        let e2 : Some t ≡ Some u = rw q at k in
        let r : t ≡ u = cc in
        record { place = 0; named_ = ap (λ z. Some (Some z)) (eqb-true x.name.0 m q); typed = ap (λ z. Some (meaning f z)) r }
    go m u false q k = absurd (let e2 : None ≡ Some u = rw q at k in cc)

any_opens : (e : Environment) (s : Span) (r : Option TypeTree) (t : PlainType) → OpensAgainst e (any_pat s r) t no_extension
unfolding opened_pattern
any_opens e s r t c f i = record {
  context = c;
  more = 0;
  types_ = [];
  opens = binds_none;
  as_many = refl;
  placed = placed_none e f c 0 [] [] (embeds_after (λ k. f k + 0) i (embeds_same c) (λ k. omega arith));
}

-- against a type below another one
against_below : (e : Environment) (p : Pat) (t u : PlainType) (x : Extension) → IsTypeIn e u → IsSubtype (context_of e) t u → OpensAgainst e p u x → OpensAgainst e p t x
against_below e p t u x w d a c f i = adds_by (λ k n ts o. lowered (meaning f u) (type_grown e.names (erased u) i (erased_type e.names (context_of e) u w)) (weakened i.keeps (below_erased d)) o) (a c f i)

-- the meaning of an unfolding is the unfolding of the meaning
pub unfolding_means : (f : ℕ → ℕ) (t : PlainType) → meaning f (unfolding_of t) ≡ unfolding_of (rename (beyond f) (erased t))
unfolding_means f t = ap (rename f) (sym (unfolding_erased t)) ∙ sym (arg_renamed (Plain (Rec (erased t))) f (erased t))

fold_opens : (e : Environment) (s : Span) (r : Option TypeTree) (p : Pat) (b : PlainType) (x : Extension) → OpensAgainst e p (unfolding_of b) x → OpensAgainst e (fold_pat s r p) (Rec b) x
unfolding opened_pattern
fold_opens e s r p b x a c f i = adds_by (λ k n ts o. opens_unfolding (subst (λ z. Opens e.names c (pat_core e.names p) z k n ts) (unfolding_means f b) o)) (a c f i)

-- a record pattern, by its fields
record_opens_ : (e : Environment) (s : Span) (f : FieldPats) (own : List KnownType) (ps : PlainTypes) (ls : PlainLabels) (x : Extension) → FieldsOpen_ e f own ps ls x → OpensAgainst e (fields_pat s f) (Fields (bounds_of own) ps ls) (within own x)
unfolding opened_pattern
record_opens_ e s (field_pats bs qs rs) own ps ls x g c f i =
    subst (λ z. AddsWhatIsOpened e (within own x) f z (Opens e.names c (record_pat (all_opened e.names qs) (in_label_order e.names (labelled_opened e.names rs))) (meaning f (Fields (bounds_of own) ps ls)))) slots
    (subst (λ z. AddsWhatIsOpened e (within own x) f (fields_slots e.names None qs rs) (Opens e.names c (record_pat z (in_label_order e.names (labelled_opened e.names rs))) (meaning f (Fields (bounds_of own) ps ls)))) (append-nil (all_opened e.names qs))
    (fields_add e None qs rs own ps ls x c f g i).adds)
  where
    ns : List ℕ
    ns = names_opened (all_opened e.names qs)

    ms : List ℕ
    ms = labelled_names_in (in_label_order e.names (labelled_opened e.names rs))

    slots : (named ns ++ []) ++ named ms ≡ named (ns ++ ms)
    slots = ap (λ z. z ++ named ms) (append-nil (named ns)) ∙ sym (map-append (λ n. Some n) ns ms)

-- ---- fields

no_fields : (e : Environment) → PositionalFields e no_pats no_type no_extension
unfolding opened_pattern
no_fields e = record { fields = []; are = refl; typed = refl; opens_ = tt; one = λ f d n slots ts i h. placed_none e f d n slots ts i }

types_last : (xs : List Field) (y : Field) → part_types (as_parts (xs ++ y ∷ [])) ≡ and_type (part_types (as_parts xs)) y.type_
types_last [] y = refl
types_last (x ∷ xs) y = ap (types x.type_) (types_last xs y)

and_field : (e : Environment) (ps : Pats) (p : Pat) (ts : PlainTypes) (t : PlainType) (x y : Extension) → PositionalFields e ps ts x → OpensAgainst e p t y → PositionalFields e (more_pats ps p) (and_type ts t) (joined_extensions x y)
unfolding opened_pattern
and_field e ps p ts t x y g o = record {
  fields = g.fields ++ z ∷ [];
  are = ap (λ k. k ++ opened_pattern e.names p ∷ []) g.are ∙ sym (map-append (λ k. k.opened_) g.fields (z ∷ []));
  typed = types_last g.fields z ∙ ap (λ k. and_type k t) g.typed;
  opens_ = subst (Each (OpensAnywhere e.names e)) (sym (map-append as_part g.fields (z ∷ []))) (each_last (OpensAnywhere e.names e) (as_parts g.fields) (as_part z) g.opens_ o);
  one = λ f d n slots us i h.
      let k = last_of_each (IsExtensionPlaced e f d n slots us) (map (λ w. w.adds) g.fields) y (subst (Each (IsExtensionPlaced e f d n slots us)) (map-append (λ w. w.adds) g.fields (z ∷ [])) h) in
      placed_joined e f d n slots us x y (g.one f d n slots us i k.0) k.1;
}
  where
    z : Field
    z = record { opened_ = opened_pattern e.names p; type_ = t; adds = y }

no_labels : (e : Environment) (ms : PlainLabels) → LabelsOpen_ e no_labelled_pats ms no_extension
unfolding opened_pattern
no_labels e ms = record { fields = record { fields = []; are = refl; typed = tt; opens_ = tt; once = tt; one = λ f d n slots ts i h. placed_none e f d n slots ts i }; new = λ l h. tt }

placed_adds : (e : Environment) (f : ℕ → ℕ) (d : TypeContext) (n : ℕ) (slots : List (Option ℕ)) (us : List PlainType) (ys : List (ℕ × Field)) → Each (IsExtensionPlaced e f d n slots us) (map (λ y. y.1.adds) ys) → Each (λ (y : ℕ × Field). IsExtensionPlaced e f d n slots us y.1.adds) ys
placed_adds e f d n slots us [] h = tt
placed_adds e f d n slots us (y ∷ ys) h = (h.0, placed_adds e f d n slots us ys h.1)

adds_placed : (e : Environment) (f : ℕ → ℕ) (d : TypeContext) (n : ℕ) (slots : List (Option ℕ)) (us : List PlainType) (ys : List (ℕ × Field)) → Each (λ (y : ℕ × Field). IsExtensionPlaced e f d n slots us y.1.adds) ys → Each (IsExtensionPlaced e f d n slots us) (map (λ y. y.1.adds) ys)
adds_placed e f d n slots us [] h = tt
adds_placed e f d n slots us (y ∷ ys) h = (h.0, adds_placed e f d n slots us ys h.1)

-- the fields go against the labels of one record type, and those of another with the same types there
and_label : (e : Environment) (ls : LabelledPats) (l : Id) (p : Pat) (ms rs : PlainLabels) (t : PlainType) (x y : Extension) → IsNewPattern l.name.0 ls → LabelsOpen_ e ls ms x → OpensAgainst e p t y → ((m : ℕ) → m ≢ l.name.0 → type_at m rs ≡ type_at m ms) → type_at l.name.0 rs ≡ Some t → LabelsOpen_ e (more_labelled_pats ls l p) rs (joined_extensions x y)
unfolding opened_pattern
and_label e ls l p ms rs t x y w g o other this = record {
  fields = record {
    fields = all;
    are = ordered_last e.names (labelled_opened e.names ls) n (opened_pattern e.names p) ∙ ap (with_label e.names n (opened_pattern e.names p)) g.fields.are ∙ sym (put_each (λ k. k.opened_) e.names n z g.fields.fields);
    typed = each_put (λ (k : ℕ × Field). IsTypedAt rs (k.0, as_part k.1)) e.names n z g.fields.fields this (still_typed g.fields.fields (g.new n w) g.fields.typed);
    opens_ = each_put (λ (k : ℕ × Field). OpensAnywhere e.names e (as_part k.1)) e.names n z g.fields.fields o g.fields.opens_;
    once = once_put e.names n z g.fields.fields (g.new n w) g.fields.once;
    one = λ f d i slots us j h.
        let k = put_each_of (λ (q : ℕ × Field). IsExtensionPlaced e f d i slots us q.1.adds) e.names n z g.fields.fields (placed_adds e f d i slots us all h) in
        placed_joined e f d i slots us x y (g.fields.one f d i slots us j (adds_placed e f d i slots us g.fields.fields k.1)) k.0;
  };
  new = λ m h. each_put (λ (k : ℕ × Field). m ≢ k.0) e.names n z g.fields.fields h.1 (g.new m h.0);
}
  where
    n : ℕ
    n = l.name.0

    z : Field
    z = record { opened_ = opened_pattern e.names p; type_ = t; adds = y }

    all : List (ℕ × Field)
    all = with_label e.names n z g.fields.fields

    still_typed : (ys : List (ℕ × Field)) → Each (λ (k : ℕ × Field). n ≢ k.0) ys → Each (λ (k : ℕ × Field). IsTypedAt ms (k.0, as_part k.1)) ys → Each (λ (k : ℕ × Field). IsTypedAt rs (k.0, as_part k.1)) ys
    still_typed [] h k = tt
    still_typed (q ∷ ys) h k = (other q.0 (λ r. h.0 (sym r)) ∙ k.0, still_typed ys h.1 k.1)

one_more_type : (n : ℕ) (ts : PlainTypes) → suc n ≤ count_types ts → first_types (suc n) ts ≡ and_type (first_types n ts) (nth_type n ts)
one_more_type n no_type h = absurd (omega (arith, h))
one_more_type zero (types t ts) h = refl
one_more_type (suc n) (types t ts) h = ap (types t) (one_more_type n ts (omega (arith, h)))

pub all_types : (n : ℕ) (ts : PlainTypes) → n ≡ count_types ts → first_types n ts ≡ ts
all_types zero no_type h = refl
all_types (suc n) no_type h = refl
all_types zero (types t ts) h = absurd (omega (arith, h))
all_types (suc n) (types t ts) h = ap (types t) (all_types n ts (omega (arith, h)))

-- ---- the steps

module _ (names : List (List ℕ)) (program : Decs) (clean : scope_stop names program ≡ None) where
  abbrev Step : (s : Sort) → Environment → Judgement s → Type 0
  Step s e j = Reached names program s e j → Gives names program PatternProperty s (PatternProperty s e j) (rule e j)

  against_step : (e : Environment) (p : Pat) (t : PlainType) → Step extension_ e (pattern_against p t)
  against_step e (bind_pat s x None) t r = gives_ (bind_opens e s x None t)
  against_step e (bind_pat s x (Some a)) t r =
      let k = rightly clean r in
      unless (kind_stop e.names e.context a) (λ q. needs (λ d. gives_ (against_below e (bind_pat s x (Some a)) t (normal e.names e.context a) (one_value x (normal e.names e.context a)) (expands_well e.names e.context a k.1.0.entries k.0 q) d (bind_opens e s x (Some a) (normal e.names e.context a)))))
  against_step e (any_pat s None) t r = gives_ (any_opens e s None t)
  against_step e (any_pat s (Some a)) t r = unless (kind_stop e.names e.context a) (λ q. needs (λ d. gives_ (any_opens e s (Some a) t)))
  against_step e (fields_pat s f) t r =
      let k = rightly clean r in
      in_records (exposure (context_of e) t) (λ bs ps ls q. parts (λ y d r2 g. gives_ (
      let o = well y clean r2 d in
      let w : IsTypeIn e (Fields bs ps ls) = subst (IsTypeIn e) q (exposed_formed e t k.1.0 k.1.1) in
      let below : IsSubtype (context_of e) t (Fields bs ps ls) = subst (IsSubtype (context_of e) t) q (below_exposed (exposes (context_of e) t)) in
      against_below e (fields_pat s f) t (Fields bs ps ls) (within y.own y.adds) w below (subst (λ z. OpensAgainst e (fields_pat s f) (Fields z ps ls) (within y.own y.adds)) o.0 (record_opens_ e s f y.own ps ls y.adds g))))) refuses
  against_step e (fold_pat s (Some a) p) t r =
      let k = rightly clean r in
      unless (kind_stop e.names e.context a) (λ q.
      in_recursives (normal e.names e.context a) _ _ (λ b u is un. needs (λ d. limits e u s (parts (λ y d2 r2 g. gives_ (
      against_below e (fold_pat s (Some a) p) t (normal e.names e.context a) y (expands_well e.names e.context a k.1.0.entries k.0.0 q) d (subst (λ z. OpensAgainst e (fold_pat s (Some a) p) z y) (sym is) (fold_opens e s (Some a) p b y (subst (λ z. OpensAgainst e p z y) un g)))))))))
  against_step e (fold_pat s None p) t r =
      let k = rightly clean r in
      in_recursives (exposure (context_of e) t) _ _ (λ b u is un. limits e u s (parts (λ y d2 r2 g. gives_ (
      against_below e (fold_pat s None p) t (exposure (context_of e) t) y (exposed_formed e t k.1.0 k.1.1) (below_exposed (exposes (context_of e) t)) (subst (λ z. OpensAgainst e (fold_pat s None p) z y) (sym is) (fold_opens e s None p b y (subst (λ z. OpensAgainst e p z y) un g)))))))

  gives_step : (e : Environment) (p : Pat) → Step pattern_ e (pattern_gives p)
  gives_step e (bind_pat s x None) r = refuses
  gives_step e (bind_pat s x (Some a)) r = unless (kind_stop e.names e.context a) (λ q. gives_ (bind_opens e s x (Some a) (normal e.names e.context a)))
  gives_step e (any_pat s None) r = refuses
  gives_step e (any_pat s (Some a)) r = unless (kind_stop e.names e.context a) (λ q. gives_ (any_opens e s (Some a) (normal e.names e.context a)))
  gives_step e (fields_pat s f) r = parts (λ y d r2 g. limits e (Fields (bounds_of y.own) y.positional y.labelled) s (gives_ (record_opens_ e s f y.own y.positional y.labelled y.adds g)))
  gives_step e (fold_pat s None p) r = refuses
  gives_step e (fold_pat s (Some a) p) r =
      unless (kind_stop e.names e.context a) (λ q.
      in_recursives (normal e.names e.context a) _ _ (λ b u is un. limits e u s (parts (λ y d2 r2 g. gives_ (
      subst (λ z. OpensAgainst e (fold_pat s (Some a) p) z y) (sym is) (fold_opens e s (Some a) p b y (subst (λ z. OpensAgainst e p z y) un g)))))))

  positional_gives : (e : Environment) (ps : Pats) → Step patterns_ e (patterns_give ps)
  positional_gives e no_pats r = gives_ (no_fields e)
  positional_gives e (more_pats ps p) r = parts (λ g d r2 h. parts (λ y d2 r3 k. gives_ (and_field e ps p g.have y.has g.adds y.adds h k)))

  positional_against : (e : Environment) (ps : Pats) (ts : PlainTypes) → Step extension_ e (patterns_against ps ts)
  positional_against e no_pats ts r = gives_ (λ le. no_fields e)
  positional_against e (more_pats ps p) ts r = parts (λ x d r2 g. parts (λ y d2 r3 h. gives_ (λ le.
      subst (λ z. PositionalFields e (more_pats ps p) z (joined_extensions x y)) (sym (one_more_type (count_pats ps) ts le)) (and_field e ps p (first_types (count_pats ps) ts) (nth_type (count_pats ps) ts) x y (g (omega (arith, le))) h))))

  labelled_gives : (e : Environment) (ls : LabelledPats) → Step labelled_patterns_ e (labelled_patterns_give ls)
  labelled_gives e no_labelled_pats r = gives_ (no_labels e no_label)
  labelled_gives e (more_labelled_pats ls l p) r =
      let k = rightly clean r in
      parts (λ g d r2 h. parts (λ y d2 r3 o.
      let w = well g clean r2 d in
      let lacks : Lacks g.have l.name.0 = w.1.0 l.name.0 k.0.1.0 in
      gives_ (and_label e ls l p g.have (with_labelled_type e.names l.name.0 y.has g.have) y.has g.adds y.adds k.0.1.0 h o (λ m q. type_at_other e.names m l.name.0 y.has g.have q) (type_at_new e.names l.name.0 y.has g.have lacks))))

  labelled_against : (e : Environment) (ls : LabelledPats) (ms : PlainLabels) → Step extension_ e (labelled_patterns_against ls ms)
  labelled_against e no_labelled_pats ms r = gives_ (no_labels e ms)
  labelled_against e (more_labelled_pats ls l p) ms r =
      let k = rightly clean r in
      parts (λ x d r2 g. in_labels (type_at l.name.0 ms) (λ t q. parts (λ y d2 r3 o. gives_ (and_label e ls l p ms ms t x y k.0.1.0 g o (λ m z. refl) q))) (λ q. refuses))

  fields_give_step : (e : Environment) (f : FieldPats) → Step fields_ e (fields_give f)
  fields_give_step e (field_pats bs ps ls) r = parts (λ own d r2 u. parts (λ g d2 r3 h. parts (λ k d3 r4 l. gives_ (record { firsts = g.adds; seconds = k.adds; positional = h; labelled = l.fields; is = refl }))))

  fields_against_step : (e : Environment) (s : Span) (f : FieldPats) (rs : PlainBounds) (ts : PlainTypes) (ms : PlainLabels) → Step opened_ e (fields_against s f rs ts ms)
  fields_against_step e s (field_pats bs ps ls) rs ts ms r =
      ensures (nat_eq (count_binders bs) (count_bounds rs)) _ _ (λ q.
      ensures (nat_eq (count_pats ps) (count_types ts)) _ _ (λ n.
      let m : count_pats ps ≡ count_types ts = eqb-true (count_pats ps) (count_types ts) n in
      parts (λ own d r2 u. parts (λ x d2 r3 g. parts (λ y d3 r4 h. gives_ (record { firsts = x; seconds = y; positional = subst (λ z. PositionalFields (with_own e own) ps z x) (all_types (count_pats ps) ts m) (g (omega (arith, m))); labelled = h.fields; is = refl }))))))

  pattern_step : (s : Sort) (e : Environment) (j : Judgement s) → Step s e j
  pattern_step s e (pattern_against p t) r = against_step e p t r
  pattern_step s e (pattern_gives p) r = gives_step e p r
  pattern_step s e (patterns_against ps ts) r = positional_against e ps ts r
  pattern_step s e (patterns_give ps) r = positional_gives e ps r
  pattern_step s e (labelled_patterns_against ls ms) r = labelled_against e ls ms r
  pattern_step s e (labelled_patterns_give ls) r = labelled_gives e ls r
  pattern_step s e (fields_against i f bs ps ls) r = fields_against_step e i f bs ps ls r
  pattern_step s e (fields_give f) r = fields_give_step e f r
  pattern_step s e (gives v) r = any_lines names program PatternProperty _
  pattern_step s e (has v t) r = any_lines names program PatternProperty _
  pattern_step s e (is_condition v) r = any_lines names program PatternProperty _
  pattern_step s e (values_give vs) r = any_lines names program PatternProperty _
  pattern_step s e (labelled_values_give ls) r = any_lines names program PatternProperty _
  pattern_step s e (application i f vs t) r = any_lines names program PatternProperty _
  pattern_step s e (fields_fit i f bs ps ls g) r = any_lines names program PatternProperty _
  pattern_step s e (written_arguments i ts bs) r = any_lines names program PatternProperty _
  pattern_step s e (values_fit i vs ps g) r = any_lines names program PatternProperty _
  pattern_step s e (labelled_values_fit i ls ms g) r = any_lines names program PatternProperty _
  pattern_step s e (value_fits i v t g) r = any_lines names program PatternProperty _
  pattern_step s e (given_fits i v t u g) r = any_lines names program PatternProperty _
  pattern_step s e (abstraction_gives f) r = any_lines names program PatternProperty _
  pattern_step s e (abstraction_against f t) r = any_lines names program PatternProperty _
  pattern_step s e (binders_give bs) r = any_lines names program PatternProperty _
  pattern_step s e (binders_against bs rs) r = any_lines names program PatternProperty _
  pattern_step s e (declaration d) r = any_lines names program PatternProperty _
  pattern_step s e (declarations ds) r = any_lines names program PatternProperty _
  pattern_step s e (signatures ds) r = any_lines names program PatternProperty _
  pattern_step s e (signature x f) r = any_lines names program PatternProperty _
  pattern_step s e (bodies ss) r = any_lines names program PatternProperty _
  pattern_step s e (body b) r = any_lines names program PatternProperty _
  pattern_step s e (process p) r = any_lines names program PatternProperty _
  pattern_step s e (processes ps) r = any_lines names program PatternProperty _
  pattern_step s e (receives c f) r = any_lines names program PatternProperty _

  -- what the rules find of patterns
  pub patterns_open : {s : Sort} (e : Environment) (j : Judgement s) (x : Result s) → Reached names program s e j → Holds e j x → PatternProperty s e j x
  patterns_open e j x r d = by_steps names program PatternProperty pattern_step e j x r d
