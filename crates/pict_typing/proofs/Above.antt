-- A canonical form of a type is one of each type above it: the rules of subtyping are inverted here, for closed types.
use Rattle.std.specs.Prelude.{slice_get, nat_eq}
use Rattle.std.proofs.lemmas.Bool.{eqb-true}
use Rattle.std.proofs.Common.{◌≡◌, ◌≢◌, ℕ, Bool, true, false, List, [], ◌∷◌, refl, sym, ◌∙◌, ap, subst, subst₂, Some, inl, inr}
use Rattle.pict_syntax.specs.declared.primitive.Primitive.{Primitive}
use Rattle.pict_types.specs.Types.{Capability, Write, PlainType, Top, Int, Char, Str, Boolean, Var, Apply, Chan, Fields, Rec, PlainTypes, PlainLabels, PlainBound, PlainBounds, no_bound, bounds, PlainArg, under, type_at, is_top}
use Rattle.pict_types.specs.Replacing.{replace_bound, arguments, no_replacement}
use Rattle.pict_types.specs.Kinds.{Kind, kinds_under, AreWellFormed, LabelsAreWellFormed}
use Rattle.pict_types.specs.PrimitiveTypes.{takes}
use Rattle.pict_types.specs.NormalTypes.{BoundIsNormal}
use Rattle.pict_types.proofs.Replacements.{replace_bound_same, nothing_changed, formed_bound_normal}
use Rattle.pict_sub.specs.Subtyping.{CarriesUp, read_read, both_read, CarriesDown, write_write, both_write, IsSubtype, through, below_top, by_fields, AreSubtypes, none, more, HasLabels, has_none, has_label, AreChannelsBelow}
use Rattle.pict_sub.specs.Shapes.{shape_of, other}
use Rattle.pict_sub.specs.Laws.{IsWithinBounds}
use Rattle.pict_sub.proofs.Inversion.{channels, above_channel, above_recursive, records, only_itself, not_record, told_top, told_other}
use Rattle.pict_sub.proofs.Replaced.{replaced}
use Rattle.pict_core.specs.Term as core
use Rattle.pict_core.specs.Term.{Val, Vals, Labelled, Record}
use Rattle.pict_core.specs.Matching.{field_at}
use Rattle.pict_typing.specs.Erasing.{erased}
use Rattle.pict_typing.specs.Worlds.{over, IsTypeIn, with_first, MayStandFor}
use Rattle.pict_typing.specs.Values.{HasType, raised}
use Rattle.pict_typing.specs.Processes.{AreClosedTypes}
use Rattle.pict_typing.proofs.Instantiating.{nothing_instantiates, argument_instantiates}
use Rattle.pict_typing.proofs.Forms.{MaySend, by_subtyping, both_ways, ChannelFits, both_fits, read_fits, write_fits, Fits, top_fits, int_fits, char_fits, boolean_fits, text_fits, channel_fits, primitive_fits, record_fits, package_fits, fold_fits, AllFit, none_fit, more_fit, LabelsFit, none_left, found, first_type, fits_have}

-- ---- what is above a type that is no variable

above_base : (s t : PlainType) → shape_of s ≡ other → t ≢ Top → IsSubtype [] s t → s ≡ t
above_base s t e n d = (only_itself [] s t n (λ q. absurd (cc)) (λ q. absurd (cc)) (λ q. absurd (cc)) (λ q. absurd (cc))).0 d

record IsRecord (t : PlainType) : Type 0 where
  type_fields : PlainBounds
  positional : PlainTypes
  labelled_ : PlainLabels
  is : t ≡ Fields type_fields positional labelled_

above_record : (bs : PlainBounds) (ps : PlainTypes) (ls : PlainLabels) (t : PlainType) → t ≢ Top → IsSubtype [] (Fields bs ps ls) t → IsRecord t
above_record bs ps ls Top n d = absurd (n refl)
above_record bs ps ls Int n d = absurd (not_record [] bs ps ls Int n (λ q. absurd (cc)) d)
above_record bs ps ls Char n d = absurd (not_record [] bs ps ls Char n (λ q. absurd (cc)) d)
above_record bs ps ls Str n d = absurd (not_record [] bs ps ls Str n (λ q. absurd (cc)) d)
above_record bs ps ls Boolean n d = absurd (not_record [] bs ps ls Boolean n (λ q. absurd (cc)) d)
above_record bs ps ls (Var i) n d = absurd (not_record [] bs ps ls (Var i) n (λ q. absurd (cc)) d)
above_record bs ps ls (Apply i ts) n d = absurd (not_record [] bs ps ls (Apply i ts) n (λ q. absurd (cc)) d)
above_record bs ps ls (Chan m t) n d = absurd (not_record [] bs ps ls (Chan m t) n (λ q. absurd (cc)) d)
above_record bs ps ls (Fields cs qs ms) n d = record { type_fields = cs; positional = qs; labelled_ = ms; is = refl }
above_record bs ps ls (Rec t) n d = absurd (not_record [] bs ps ls (Rec t) n (λ q. absurd (cc)) d)

-- ---- an argument within its bound

within_first : (names : List (List ℕ)) (ms : List PlainType) (a : PlainArg) (b : PlainBound) → MayStandFor (over names ms) b a → BoundIsNormal b → IsWithinBounds names (arguments (a ∷ [])) (b ∷ []) []
within_first names ms a b may w =
    let same_ : MayStandFor (over names ms) (replace_bound no_replacement b) a = subst (λ z. MayStandFor (over names ms) z a) (sym (replace_bound_same b nothing_changed w)) may in
    (argument_instantiates names ms no_replacement [] a b (nothing_instantiates names []) same_).within

-- ---- canonical forms go up

carries_up : {names : List (List ℕ)} {t u v : PlainType} {m n : Capability} → ChannelFits names t m u → CarriesUp m n → IsSubtype [] u v → ChannelFits names t n v
carries_up both_fits both_read d = read_fits d
carries_up (read_fits e) read_read d = read_fits (through _ e d)
carries_up (write_fits _) x d = elim x [ ]

carries_down : {names : List (List ℕ)} {t u v : PlainType} {m n : Capability} → IsTypeIn names [] u → ChannelFits names t m u → CarriesDown m n → IsSubtype [] v u → ChannelFits names t n v
carries_down w both_fits both_write d = write_fits (by_subtyping d)
carries_down w (write_fits x) write_write d = write_fits (both_ways _ w (by_subtyping d) x)
carries_down w (read_fits _) x d = elim x [ ]

channel_moves : {names : List (List ℕ)} {t u v : PlainType} {m n : Capability} → IsTypeIn names [] u → ChannelFits names t m u → AreChannelsBelow [] m n u v → ChannelFits names t n v
channel_moves {names = names} {t = t} w x h = elim h [ inl e ↦ subst₂ (ChannelFits names t) e.0 e.1 x | inr (inl r) ↦ carries_up x r.0 r.1 | inr (inr f) ↦ carries_down w x f.0 f.1 ]

-- a primitive may be used at type u with the capability
record Sends (names : List (List ℕ)) (p : Primitive) (m : Capability) (u : PlainType) : Type 0 where
  writes : m ≡ Write
  may : MaySend names u (erased (takes p))

-- nothing that is only sent on may be received from
none_carries_up : {A : Type 0} {n : Capability} → CarriesUp Write n → A
none_carries_up r = elim r [ ]

primitive_carries_down : {names : List (List ℕ)} {p : Primitive} {u v : PlainType} {n : Capability} → IsTypeIn names [] u → MaySend names u (erased (takes p)) → CarriesDown Write n → IsSubtype [] v u → Sends names p n v
primitive_carries_down w x write_write d = record { writes = refl; may = both_ways _ w (by_subtyping d) x }

primitive_moves : {names : List (List ℕ)} {p : Primitive} {u v : PlainType} {n : Capability} → IsTypeIn names [] u → MaySend names u (erased (takes p)) → AreChannelsBelow [] Write n u v → Sends names p n v
primitive_moves {names = names} {p = p} w x h = elim h [ inl e ↦ record { writes = sym e.0; may = subst (λ y. MaySend names y (erased (takes p))) e.1 x } | inr (inl r) ↦ none_carries_up r.0 | inr (inr f) ↦ primitive_carries_down w x f.0 f.1 ]

-- the labels of a type, each found in the value with whatever is above it
abbrev Raises : List (List ℕ) → List PlainType → Labelled → PlainLabels → Type 0
Raises names ms ws ls = (l : ℕ) (s t : PlainType) → type_at l ls ≡ Some s → IsTypeIn names [] t → IsSubtype [] s t → (v : Val) × (field_at l ws ≡ Some v) × Fits names ms v t

raise_labels : {names : List (List ℕ)} {ms : List PlainType} {ws : Labelled} {ls ks : PlainLabels} → LabelsAreWellFormed names [] ks → Raises names ms ws ls → HasLabels [] ls ks → LabelsFit names ms ws ks
raise_labels w f has_none = none_left
raise_labels w f (has_label {l = l} {s = s} {t = t} e d r) =
    let x = f l s t e w.1.0 d in
    found x.1 x.2 (raise_labels w.1.1 f r)

module _ (names : List (List ℕ)) (ms : List PlainType) (closed_ : AreClosedTypes names ms) where
  or_top : (v : Val) (s t : PlainType) → IsTypeIn names [] s → Fits names ms v s → (t ≢ Top → Fits names ms v t) → Fits names ms v t
  or_top v s t w x k = go (is_top t) refl
    where
      go : (b : Bool) → is_top t ≡ b → Fits names ms v t
      go true q = subst (Fits names ms v) (sym (told_top t q)) (top_fits (raised s w tt (fits_have names ms closed_ w x) below_top))
      go false q = k (told_other t q)

  channel_above : (c : ℕ) (m : Capability) (a u t : PlainType) → slice_get ms c ≡ Some a → IsTypeIn names [] u → ChannelFits names a m u → IsSubtype [] (Chan m u) t → t ≢ Top → Fits names ms (core.Chan c) t
  channel_above c m a u t e w x d n =
      elim (above_channel [] m u t d) [ inl q ↦ absurd (n q) | inr y ↦ subst (Fits names ms (core.Chan c)) (sym y.2) (channel_fits e (channel_moves w x ((channels [] m y.0 u y.1).0 (subst (IsSubtype [] (Chan m u)) y.2 d)))) ]

  primitive_above : (p : Primitive) (u t : PlainType) → IsTypeIn names [] u → MaySend names u (erased (takes p)) → IsSubtype [] (Chan Write u) t → t ≢ Top → Fits names ms (core.PrimitiveVal p) t
  primitive_above p u t w x d n =
      elim (above_channel [] Write u t d) [ inl q ↦ absurd (n q) | inr y ↦ subst (Fits names ms (core.PrimitiveVal p)) (sym y.2) (there y.0 y.1 (primitive_moves w x ((channels [] Write y.0 u y.1).0 (subst (IsSubtype [] (Chan Write u)) y.2 d)))) ]
    where
      there : (k : Capability) (v : PlainType) → Sends names p k v → Fits names ms (core.PrimitiveVal p) (Chan k v)
      there k v z = subst (λ j. Fits names ms (core.PrimitiveVal p) (Chan j v)) (sym z.writes) (primitive_fits z.may)

  fold_above : (v : Val) (s t : PlainType) → Fits names ms v (Rec s) → IsSubtype [] (Rec s) t → t ≢ Top → Fits names ms v t
  fold_above v s t x d n = elim ((above_recursive [] s t).0 d) [ inl q ↦ absurd (n q) | inr q ↦ subst (Fits names ms v) (sym q) x ]

  -- a record's type, and what is above it
  record RecordBelow (bs : PlainBounds) (ps : PlainTypes) (ls : PlainLabels) (t : PlainType) : Type 0 where
    positional : PlainTypes
    labelled_ : PlainLabels
    is : t ≡ Fields bs positional labelled_
    fields : AreSubtypes (under [] bs) ps positional
    labels_ : HasLabels (under [] bs) ls labelled_

  record_below : (ks : List Kind) (bs : PlainBounds) (ps : PlainTypes) (ls : PlainLabels) (t : PlainType) → LabelsAreWellFormed names ks ls → t ≢ Top → IsSubtype [] (Fields bs ps ls) t → RecordBelow bs ps ls t
  record_below ks bs ps ls t w n d =
      let y = above_record bs ps ls t n d in
      let z = (records names ks [] bs y.type_fields ps y.positional ls y.labelled_ w).0 (subst (IsSubtype [] (Fields bs ps ls)) y.is d) in
      record { positional = y.positional; labelled_ = y.labelled_; is = y.is ∙ ap (λ k. Fields k y.positional y.labelled_) (sym z.alike); fields = z.fields; labels_ = z.labelled }

  record_above : (vs : Vals) (ws : Labelled) (ps : PlainTypes) (ls : PlainLabels) (t : PlainType) → IsTypeIn names [] (Fields no_bound ps ls) → IsTypeIn names [] t → HasType (over names ms) (Record vs ws) (Fields no_bound ps ls) → ((qs : PlainTypes) → AreWellFormed names [] qs → AreSubtypes [] ps qs → AllFit names ms vs qs) → Raises names ms ws ls → IsSubtype [] (Fields no_bound ps ls) t → t ≢ Top → Fits names ms (Record vs ws) t
  record_above vs ws ps ls t w g h x y d n =
      let b = record_below [] no_bound ps ls t w.1.1 n d in
      let g2 = subst (IsTypeIn names []) b.is g in
      subst (Fits names ms (Record vs ws)) (sym b.is) (record_fits (raised (Fields no_bound ps ls) w g2 h (by_fields b.fields b.labels_)) (x b.positional g2.1.0 b.fields) (raise_labels g2.1.1 y b.labels_))

  package_above : (v : Val) (a : PlainArg) (b : PlainBound) (bs : PlainBounds) (ps : PlainTypes) (ls : PlainLabels) (t : PlainType) → IsTypeIn names [] (Fields (bounds b bs) ps ls) → IsTypeIn names [] t → MayStandFor (over names ms) b a → ((u : PlainType) → IsTypeIn names [] u → IsSubtype [] (with_first a bs ps ls) u → Fits names ms v u) → IsSubtype [] (Fields (bounds b bs) ps ls) t → t ≢ Top → Fits names ms v t
  package_above v a b bs ps ls t w g may x d n =
      let r = record_below (kinds_under [] (bounds b bs)) (bounds b bs) ps ls t w.1.1 n d in
      let g2 = subst (IsTypeIn names []) r.is g in
      let d2 : IsSubtype [] (with_first a bs ps ls) (with_first a bs r.positional r.labelled_) = replaced (within_first names ms a b may (formed_bound_normal names [] b w.0.0)) (by_fields {c = b ∷ []} {bs = bs} r.fields r.labels_) in
      subst (Fits names ms v) (sym r.is) (package_fits a may (x (with_first a bs r.positional r.labelled_) (first_type names ms a b bs r.positional r.labelled_ may g2) d2))

  mutual
    pub fits_above : {v : Val} {s : PlainType} (t : PlainType) → IsTypeIn names [] s → IsTypeIn names [] t → Fits names ms v s → IsSubtype [] s t → Fits names ms v t
    fits_above {v = v} t w g (top_fits h) d = subst (Fits names ms v) (sym (top_only t d)) (top_fits h)
      where
        top_only : (t : PlainType) → IsSubtype [] Top t → t ≡ Top
        top_only t d = go (is_top t) refl
          where
            go : (b : Bool) → is_top t ≡ b → t ≡ Top
            go true q = told_top t q
            go false q = sym ((only_itself [] Top t (told_other t q) (λ q. absurd (cc)) (λ q. absurd (cc)) (λ q. absurd (cc)) (λ q. absurd (cc))).0 d)
    fits_above {v = v} t w g int_fits d = or_top _ Int t w int_fits (λ n. subst (Fits names ms v) (above_base Int t refl n d) int_fits)
    fits_above {v = v} t w g char_fits d = or_top _ Char t w char_fits (λ n. subst (Fits names ms v) (above_base Char t refl n d) char_fits)
    fits_above {v = v} t w g boolean_fits d = or_top _ Boolean t w boolean_fits (λ n. subst (Fits names ms v) (above_base Boolean t refl n d) boolean_fits)
    fits_above {v = v} t w g text_fits d = or_top _ Str t w text_fits (λ n. subst (Fits names ms v) (above_base Str t refl n d) text_fits)
    fits_above t w g (channel_fits {c = c} {k = k} {t = a} {u = u} e x) d = or_top _ (Chan k u) t w (channel_fits e x) (λ n. channel_above c k a u t e w x d n)
    fits_above t w g (primitive_fits {p = p} {u = u} x) d = or_top _ (Chan Write u) t w (primitive_fits x) (λ n. primitive_above p u t w x d n)
    fits_above {v = v} t w g (fold_fits {t = s} x) d = or_top _ (Rec s) t w (fold_fits x) (λ n. fold_above v s t (fold_fits x) d n)
    fits_above {v = v} t w g (record_fits {vs = vs} {ws = ws} {ps = ps} {ls = ls} h x y) d =
        or_top _ (Fields no_bound ps ls) t w (record_fits h x y) (record_above vs ws ps ls t w g h (λ qs f e. all_above w.1.0 f x e) (labels_above w.1.1 y) d)
    fits_above {v = v} t w g (package_fits {b = b} {bs = bs} {ps = ps} {ls = ls} a may x) d =
        or_top _ (Fields (bounds b bs) ps ls) t w (package_fits a may x) (package_above v a b bs ps ls t w g may (λ u f e. fits_above u (first_type names ms a b bs ps ls may w) f x e) d)

    all_above : {vs : Vals} {ps qs : PlainTypes} → AreWellFormed names [] ps → AreWellFormed names [] qs → AllFit names ms vs ps → AreSubtypes [] ps qs → AllFit names ms vs qs
    all_above w g none_fit none = none_fit
    all_above w g (more_fit x y) (more {t = t} d e) = more_fit (fits_above t w.0 g.0 x d) (all_above w.1 g.1 y e)

    labels_above : {ws : Labelled} {ls : PlainLabels} → LabelsAreWellFormed names [] ls → LabelsFit names ms ws ls → Raises names ms ws ls
    labels_above w none_left l s t e g d = absurd (cc)
    labels_above {ws = ws} w (found {l = m} {v = v} {t = u} {ls = ls} f x y) l s t e g d = go (nat_eq l m) refl (labels_above w.1.1 y l s t) (λ i. fits_above t w.1.0 g x (subst (λ z. IsSubtype [] z t) (sym i) d))
      where
        go : (b : Bool) → nat_eq l m ≡ b → (type_at l ls ≡ Some s → IsTypeIn names [] t → IsSubtype [] s t → (v : Val) × (field_at l ws ≡ Some v) × Fits names ms v t) → (u ≡ s → Fits names ms v t) → (v : Val) × (field_at l ws ≡ Some v) × Fits names ms v t
        go true q k r =
            let e2 : Some u ≡ Some s = rw q at e in
            let i : u ≡ s = cc in
            let j : m ≡ l = sym (eqb-true l m q) in
            (v, subst (λ z. field_at z ws ≡ Some v) j f, r i)
        go false q k r = k (rw q at e) g d
