-- Typing is kept where types and operators within their bounds are put for type variables: of values, of patterns, and
-- of processes.
use Rattle.std.specs.Prelude.{option_map}
use Rattle.std.proofs.lemmas.List.{map-append}
use Rattle.std.proofs.lemmas.Option.{slice_get-map}
use Rattle.std.proofs.Common.{ℕ, ◌+◌, List, [], ◌∷◌, map, sym, ◌∙◌, ap, subst}
use Rattle.pict_types.specs.Types.{Both, Write, PlainType, Chan, Fields, Rec, PlainTypes, types, PlainLabels, no_bound, bounds, TypeContext}
use Rattle.pict_types.specs.Replacing.{Replacement, replace, replace_types, replace_labels}
use Rattle.pict_types.specs.Kinds.{kinds, AreWellFormed, LabelsAreWellFormed}
use Rattle.pict_types.specs.PrimitiveTypes.{takes}
use Rattle.pict_types.specs.Composing.{replace_arg}
use Rattle.pict_types.proofs.Formed.{formed_types_renamed, formed_labels_renamed, unfolding_formed}
use Rattle.pict_types.proofs.Composed.{argument_crosses}
use Rattle.pict_types.proofs.Replaced.{replace_types_renamed, replace_labels_renamed, type_at_replaced}
use Rattle.pict_sub.proofs.Replaced.{replaced}
use Rattle.pict_core.specs.Term as core
use Rattle.pict_core.specs.Term.{Val, Vals, Labelled, Pat, Pats, LabelledPats, Process, RecordPat, more_pats, more_labelled_pats}
use Rattle.pict_typing.specs.Erasing.{erased}
use Rattle.pict_typing.specs.Worlds.{World, IsTypeIn}
use Rattle.pict_typing.specs.Values.{HasType, variable_has, channel_has, int_has, char_has, boolean_has, text_has, primitive_has, record_has, packed, folded, unfolded, sends_unfolding, raised, HaveTypes, none_have, more_have, HaveLabels, none_labelled, more_labels}
use Rattle.pict_typing.specs.Opening.{Opens, binds_one, binds_none, lowered, opens_unfolding, opens_field, opens_record, OpenTypes, opens_none, opens_more, OpenLabels, opens_no_label, opens_label}
use Rattle.pict_typing.specs.Processes.{IsTyped, inert, beside, fresh, output, input, test, AreClosedTypes}
use Rattle.pict_typing.specs.Instantiating.{Instantiates, instantiated}
use Rattle.pict_typing.proofs.Closed.{closed_replaced, closed_type}
use Rattle.pict_typing.proofs.Crossing.{Passes, passes_none, passes_more, passes_field, list_passes, unfolding_replaced}
use Rattle.pict_typing.proofs.Openings.{opens_keep, opens_types_keep, type_found}
use Rattle.pict_typing.proofs.Instantiating.{instantiates_beyond, type_instantiated, argument_instantiated}
use Rattle.pict_typing.proofs.Forms.{takes_type}

-- ---- values

module _ (w : World) (closed_ : AreClosedTypes w.names w.messages) where
  mutual
    pub has_instantiated : {r : Replacement} {d : TypeContext} {v : Val} {t : PlainType} → Instantiates w.names r w.type_variables d → HasType w v t → HasType (instantiated r d w) v (replace r t)
    has_instantiated {r = r} x (variable_has {level = l} {t = t} e) = variable_has (slice_get-map (replace r) w.variables l ∙ ap (option_map (replace r)) e)
    has_instantiated {r = r} {d = d} x (channel_has {c = c} {t = t} e) = subst (λ z. HasType (instantiated r d w) (core.Chan c) (Chan Both z)) (sym (closed_replaced w.names r t (closed_type w.names w.messages c t closed_ e))) (channel_has e)
    has_instantiated x int_has = int_has
    has_instantiated x char_has = char_has
    has_instantiated x boolean_has = boolean_has
    has_instantiated x text_has = text_has
    has_instantiated {r = r} {d = d} x (primitive_has {p = p}) = subst (λ z. HasType (instantiated r d w) (core.PrimitiveVal p) (Chan Write z)) (sym (closed_replaced w.names r (erased (takes p)) (takes_type w.names p))) primitive_has
    has_instantiated x (record_has {ps = ps} {ls = ls} i y z f) = record_has i (fields_instantiated x y) (labels_instantiated x z) (type_instantiated w.names (Fields no_bound ps ls) x f)
    has_instantiated {r = r} {d = d} {v = v} x (packed {b = b} {bs = bs} {ps = ps} {ls = ls} a may f h) =
        packed (replace_arg r a) (argument_instantiated w b a x may) (type_instantiated w.names (Fields (bounds b bs) ps ls) x f) (subst (HasType (instantiated r d w) v) (argument_crosses a r (Fields bs ps ls) x.normal) (has_instantiated x h))
    has_instantiated {r = r} {d = d} {v = v} x (folded {t = t} f h) = folded (type_instantiated w.names (Rec t) x f) (subst (HasType (instantiated r d w) v) (unfolding_replaced t x.normal) (has_instantiated x h))
    has_instantiated {r = r} {d = d} {v = v} x (unfolded {t = t} f h) = subst (HasType (instantiated r d w) v) (sym (unfolding_replaced t x.normal)) (unfolded (type_instantiated w.names (Rec t) x f) (has_instantiated x h))
    has_instantiated {r = r} {d = d} {v = v} x (sends_unfolding {t = t} f h) = subst (λ z. HasType (instantiated r d w) v (Chan Write z)) (sym (unfolding_replaced t x.normal)) (sends_unfolding (type_instantiated w.names (Rec t) x f) (has_instantiated x h))
    has_instantiated {r = r} x (raised s {t = t} f g h e) = raised (replace r s) (type_instantiated w.names s x f) (type_instantiated w.names t x g) (has_instantiated x h) (replaced x.within e)

    fields_instantiated : {r : Replacement} {d : TypeContext} {v : Vals} {t : PlainTypes} → Instantiates w.names r w.type_variables d → HaveTypes w v t → HaveTypes (instantiated r d w) v (replace_types r t)
    fields_instantiated x none_have = none_have
    fields_instantiated x (more_have h y) = more_have (has_instantiated x h) (fields_instantiated x y)

    labels_instantiated : {r : Replacement} {d : TypeContext} {v : Labelled} {t : PlainLabels} → Instantiates w.names r w.type_variables d → HaveLabels w v t → HaveLabels (instantiated r d w) v (replace_labels r t)
    labels_instantiated x none_labelled = none_labelled
    labels_instantiated x (more_labels h y) = more_labels (has_instantiated x h) (labels_instantiated x y)

-- ---- patterns

-- the pattern opens the replaced type, with as many variables, which `later` puts for themselves
record OpensAgain (names : List (List ℕ)) (r : Replacement) (d : TypeContext) (n : ℕ) (ts : List PlainType) (again : TypeContext → List PlainType → Type 0) : Type 0 where
  context : TypeContext
  later : Replacement
  opens : again context (map (replace later) ts)
  instantiates : Instantiates names later d context
  passes : Passes n later r

module _ (names : List (List ℕ)) where
  mutual
    opens_again : {c d e : TypeContext} {r : Replacement} {p : Pat} {t : PlainType} {n : ℕ} {ts : List PlainType} → IsTypeIn names c t → Instantiates names r c e → Opens names c p t d n ts → OpensAgain names r d n ts (λ f us. Opens names e p (replace r t) f n us)
    opens_again {e = e} {r = r} w x binds_one = record { context = e; later = r; opens = binds_one; instantiates = x; passes = passes_none r }
    opens_again {e = e} {r = r} w x binds_none = record { context = e; later = r; opens = binds_none; instantiates = x; passes = passes_none r }
    opens_again {r = r} w x (lowered u f k o) =
        let a = opens_again f x o in
        record { context = a.context; later = a.later; opens = lowered (replace r u) (type_instantiated names u x f) (replaced x.within k) a.opens; instantiates = a.instantiates; passes = a.passes }
    opens_again {c = c} {e = e} {p = p} {n = n} w x (opens_unfolding {t = t} {ts = ts} o) =
        let a = opens_again (unfolding_formed names (kinds c) t w) x o in
        record { context = a.context; later = a.later; opens = opens_unfolding (subst (λ z. Opens names e p z a.context n (map (replace a.later) ts)) (unfolding_replaced t x.normal) a.opens); instantiates = a.instantiates; passes = a.passes }
    opens_again w x (opens_field {b = b} {bs = bs} {ps = ps} {ls = ls} {n = n} o) =
        let a = opens_again (w.0.1, w.1) (instantiates_beyond names b x) o in
        record { context = a.context; later = a.later; opens = opens_field a.opens; instantiates = a.instantiates; passes = passes_field n a.passes }
    opens_again {e = e} {r = r} w x (opens_record {qs = qs} {rs = rs} {ps = ps} {ls = ls} {m = m} {n = n} {ts = ts} {us = us} i o q) =
        let a = fields_again w.1.0 x o in
        let b = labels_again (formed_labels_renamed names ls (opens_types_keep o) w.1.1) a.instantiates q in
        let l = subst (λ z. OpenLabels names a.context rs z b.context n (map (replace b.later) us)) (replace_labels_renamed ls a.passes) b.opens in
        record { context = b.context; later = b.later; opens = subst (Opens names e (RecordPat qs rs) (replace r (Fields no_bound ps ls)) b.context (m + n)) (list_passes n ts us b.passes) (opens_record i a.opens l); instantiates = b.instantiates; passes = passes_more m n a.passes b.passes }

    fields_again : {c d e : TypeContext} {r : Replacement} {p : Pats} {t : PlainTypes} {n : ℕ} {ts : List PlainType} → AreWellFormed names (kinds c) t → Instantiates names r c e → OpenTypes names c p t d n ts → OpensAgain names r d n ts (λ f us. OpenTypes names e p (replace_types r t) f n us)
    fields_again {e = e} {r = r} w x opens_none = record { context = e; later = r; opens = opens_none; instantiates = x; passes = passes_none r }
    fields_again {e = e} {r = r} w x (opens_more {q = k} {qs = qs} {p = p} {ps = ps} {m = m} {n = n} {ts = ts} {us = us} o q) =
        let a = opens_again w.0 x o in
        let b = fields_again (formed_types_renamed names ps (opens_keep o) w.1) a.instantiates q in
        let l = subst (λ z. OpenTypes names a.context qs z b.context n (map (replace b.later) us)) (replace_types_renamed ps a.passes) b.opens in
        record { context = b.context; later = b.later; opens = subst (OpenTypes names e (more_pats k qs) (replace_types r (types p ps)) b.context (m + n)) (list_passes n ts us b.passes) (opens_more a.opens l); instantiates = b.instantiates; passes = passes_more m n a.passes b.passes }

    labels_again : {c d e : TypeContext} {r : Replacement} {p : LabelledPats} {t : PlainLabels} {n : ℕ} {ts : List PlainType} → LabelsAreWellFormed names (kinds c) t → Instantiates names r c e → OpenLabels names c p t d n ts → OpensAgain names r d n ts (λ f us. OpenLabels names e p (replace_labels r t) f n us)
    labels_again {e = e} {r = r} w x opens_no_label = record { context = e; later = r; opens = opens_no_label; instantiates = x; passes = passes_none r }
    labels_again {c = c} {e = e} {r = r} w x (opens_label {label = l} {q = k} {qs = qs} {p = p} {ls = ls} {m = m} {n = n} {ts = ts} {us = us} f o q) =
        let a = opens_again (type_found names (kinds c) ls l p f w) x o in
        let b = labels_again (formed_labels_renamed names ls (opens_keep o) w) a.instantiates q in
        let z = subst (λ z. OpenLabels names a.context qs z b.context n (map (replace b.later) us)) (replace_labels_renamed ls a.passes) b.opens in
        record { context = b.context; later = b.later; opens = subst (OpenLabels names e (more_labelled_pats l k qs) (replace_labels r ls) b.context (m + n)) (list_passes n ts us b.passes) (opens_label (type_at_replaced r l ls p f) a.opens z); instantiates = b.instantiates; passes = passes_more m n a.passes b.passes }

-- ---- processes

pub typed_instantiated : {w : World} {r : Replacement} {d : TypeContext} {p : Process} → AreClosedTypes w.names w.messages → Instantiates w.names r w.type_variables d → IsTyped w p → IsTyped (instantiated r d w) p
typed_instantiated k x inert = inert
typed_instantiated k x (beside p q) = beside (typed_instantiated k x p) (typed_instantiated k x q)
typed_instantiated {w = w} {r = r} {d = d} k x (fresh {p = p} t f y) =
    fresh (replace r t) (type_instantiated w.names t x f) (subst (λ z. IsTyped (record w { type_variables = d; variables = z }) p) (map-append (replace r) w.variables (Chan Both t ∷ [])) (typed_instantiated k x y))
typed_instantiated {w = w} {r = r} k x (output t f h g) = output (replace r t) (type_instantiated w.names t x f) (has_instantiated w k x h) (has_instantiated w k x g)
typed_instantiated {w = w} {r = r} k x (input {body = p} {n = n} {ts = ts} t f h o y) =
    let a = opens_again w.names f x o in
    input (replace r t) (type_instantiated w.names t x f) (has_instantiated w k x h) a.opens (subst (λ z. IsTyped (record w { type_variables = a.context; variables = z }) p) (sym (list_passes n w.variables ts a.passes)) (typed_instantiated k a.instantiates y))
typed_instantiated {w = w} k x (test h p q) = test (has_instantiated w k x h) (typed_instantiated k x p) (typed_instantiated k x q)
