-- Steps of regularity: function abstractions and declarations.
use Rattle.std.proofs.Common.{◌≡◌, ℕ, suc, List, [], ◌∷◌, ◌++◌, map, length, false, Some, None, refl, sym, ◌∙◌, ap, subst}
use Rattle.pict_syntax.specs.declared.id.Id.{Id}
use Rattle.pict_syntax.specs.declared.code.Code.TheVariants.{Y14}
use Rattle.pict_syntax.specs.Trees.{Dec, new_dec, run_dec, let_dec, def_dec, alias_dec, operator_dec, await_dec, Definitions, no_definitions, more_definitions, Abs, process_abs, function_abs}
use Rattle.pict_types.specs.Types.{PlainType, Chan, Respond, Free}
use Rattle.pict_types.specs.Kinds.{Kind, kinds, kind_by, with_parameters, IsWellFormed}
use Rattle.pict_types.specs.Renaming.{moved}
use Rattle.pict_types.specs.Mentions.{mentions_innermost, lowered}
use Rattle.pict_normal.specs.Normal.{normal, kind_stop, size_stop, entry_of}
use Rattle.pict_types.specs.Entries.{PlainContext, variables, EntriesAreWellFormed}
use Rattle.pict_syntax.specs.Grammar.{val_span}
use Rattle.pict_rules.specs.Complete.{is_complete}
use Rattle.pict_rules.specs.Environments.{Environment, Extension, KnownType, KnownValue, opened, opened_since, entries_of, bounds_of, rename_values, one_value, extended, shifted_by}
use Rattle.pict_rules.specs.Rules.{type_, environment_, signatures_, signature_, give, abstraction_gives, declaration, signatures, signature, Signature, TypedFields, Body, process_body, value_body, unless_stopped}
use Rattle.pict_rules.specs.Clauses.{with_own, with_fields, argument_type, with_parameters_named, with_parameters_in, with_signatures, signature_values}
use Rattle.pict_rules.specs.Regular.{IsRegular, IsTypeIn, kinds_in, GrowsFrom, AreFieldsIn, AreSignatures, IsBodyIn, ValuesAreWellFormed}
use Rattle.pict_rules.proofs.Results.{gives_, refuses, parts, splits, unless, in_boths}
use Rattle.pict_rules.proofs.Regularity.{Step}
use Rattle.pict_rules.proofs.RegularJoined.{kinds_inside, keeps_past, values_renamed, values_first, values_both}
use Rattle.pict_rules.proofs.RegularValues.{unless_clear, without_clear, shifted_formed, lowered_back, count_inner}
use Rattle.pict_rules.proofs.RegularPatterns.{one_adds, within_adds, both_entries, same_growth}
use Rattle.pict_scope.specs.DistinctLabels.{AbsHasDistinctLabels, DecHasDistinctLabels}
use Rattle.pict_rules.proofs.RegularExpanded.{expands_well}
use Rattle.pict_rules.proofs.RegularFields.{own_kinds, own_regular}
use Rattle.pict_normal.proofs.RawFormed.{and_type_formed}
use Rattle.pict_types.proofs.Formed.{parameters_further}

-- environments with what an extension adds
abbrev inner_of : List KnownType → List Kind
inner_of bs = map (λ b. kind_by b.bound) bs

count_of : (bs : List KnownType) → length bs ≡ length (inner_of bs)
count_of [] = refl
count_of (b ∷ bs) = ap suc (count_of bs)

kinds_outside : (bs : List KnownType) (c : PlainContext) → kinds (variables (entries_of bs ++ c)) ≡ inner_of bs ++ kinds (variables c)
kinds_outside [] c = refl
kinds_outside (b ∷ bs) c = ap (λ z. kind_by b.bound ∷ z) (kinds_outside bs c)

grows : (e : Environment) (x : Extension) → GrowsFrom e (extended e x)
grows e x = record { texts = refl; inner = inner_of x.binders; kinds_ = kinds_outside x.binders e.context }

abbrev fields_grow : (e : Environment) (own : List KnownType) (x : Extension) → GrowsFrom (with_own e own) (with_fields e own x)
fields_grow e own x = record {
  texts = refl;
  inner = inner_of x.binders;
  kinds_ = ap (λ c. kinds (variables c)) (sym (both_entries x.binders own e.context)) ∙ kinds_outside x.binders (entries_of own ++ e.context);
}

pub shifted_in : (e : Environment) (own : List KnownType) (x : Extension) (t : PlainType) → IsTypeIn (with_own e own) t → IsTypeIn (with_fields e own x) (shifted_by (opened x) t)
shifted_in e own x t w =
    let g = fields_grow e own x in
    subst (λ n. IsTypeIn (with_fields e own x) (shifted_by n t)) (count_inner {e = with_own e own} {d = with_fields e own x} g ∙ sym (count_of x.binders)) (shifted_formed {e = with_own e own} {d = with_fields e own x} g t w)

pub lowered_out : (e : Environment) (own : List KnownType) (x : Extension) (t : PlainType) → mentions_innermost (opened x) t ≡ false → IsTypeIn (with_fields e own x) t → IsTypeIn (with_own e own) (lowered (opened x) t)
lowered_out e own x t m w =
    let g = fields_grow e own x in
    let n : opened_since (with_own e own) (with_fields e own x) ≡ opened x = count_inner {e = with_own e own} {d = with_fields e own x} g ∙ sym (count_of x.binders) in
    subst (λ k. IsTypeIn (with_own e own) (lowered k t)) n (lowered_back {e = with_own e own} {d = with_fields e own x} g t (subst (λ k. mentions_innermost k t ≡ false) (sym n) m) w)

pub argument_formed : (e : Environment) (g : TypedFields) (t : PlainType) → AreFieldsIn e (bounds_of g.own) g.positional g.labelled → IsTypeIn (with_own e g.own) t → IsTypeIn e (argument_type g t)
argument_formed e g t h w = (h.0, (and_type_formed e.names _ g.positional (Chan Respond t) h.1.0 (subst (λ ks. IsWellFormed e.names ks t) (own_kinds e g.own) w), h.1.1))

pub abstraction_regular : (e : Environment) (a : Abs) → AbsHasDistinctLabels a → IsRegular e → Step type_ e (abstraction_gives a)
abstraction_regular e (process_abs s p q) i r = parts (r, tt) (λ g h. parts (h.1.1, tt) (λ x k. gives_ h.1.0))
abstraction_regular e (function_abs s fs (Some a) v) i r =
    parts (r, tt) (λ g h.
    let q = own_regular e g.own r h.1.0.0 in
    unless_clear (kind_stop e.names (with_own e g.own).context a) (λ k.
    let w = expands_well e.names (with_own e g.own).context a q.entries i.1.0 k in
    parts (within_adds e g.own g.adds r h.1.1, shifted_in e g.own g.adds (normal e.names (with_own e g.own).context a) w) (λ x l.
    unless _ (gives_ (argument_formed e g (normal e.names (with_own e g.own).context a) h.1.0 w)))))
abstraction_regular e (function_abs s fs None v) i r =
    parts (r, tt) (λ g h. parts (within_adds e g.own g.adds r h.1.1, tt) (λ t k.
    without_clear (opened g.adds) t Y14 (val_span v) (λ u. unless_stopped (size_stop e.context (argument_type g u) s) (give (argument_type g u))) (λ m.
    unless _ (gives_ (argument_formed e g (lowered (opened g.adds) t) h.1.0 (lowered_out e g.own g.adds t m k.1))))))

-- the signatures of a `def`
and_signed : (e : Environment) (ss : List Signature) (s : Signature) → AreSignatures e ss → AreSignatures e (s ∷ []) → AreSignatures e (ss ++ s ∷ [])
and_signed e [] s h k = k
and_signed e (x ∷ ss) s h k = (h.0, (h.1.0, (h.1.1.0, and_signed e ss s h.1.1.1 k)))

pub signatures_regular : (e : Environment) (ds : Definitions) → IsRegular e → Step signatures_ e (signatures ds)
signatures_regular e no_definitions r = gives_ tt
signatures_regular e (more_definitions ds x a) r = parts (r, tt) (λ ss g. parts (r, tt) (λ s h. gives_ (and_signed e ss s g.1 h.1)))

pub signature_regular : (e : Environment) (x : Id) (a : Abs) → AbsHasDistinctLabels a → IsRegular e → Step signature_ e (signature x a)
signature_regular e x (process_abs s p q) i r = parts (r, tt) (λ g h. unless _ (gives_ (h.1.0, (h.1.1, (tt, tt)))))
signature_regular e x (function_abs s fs None v) i r = parts (r, tt) (λ g h. refuses)
signature_regular e x (function_abs s fs (Some a) v) i r =
    parts (r, tt) (λ g h.
    let q = own_regular e g.own r h.1.0.0 in
    let t = normal e.names (with_own e g.own).context a in
    unless_clear (kind_stop e.names (with_own e g.own).context a) (λ k.
    let w = expands_well e.names (with_own e g.own).context a q.entries i.1.0 k in
    unless (size_stop e.context (argument_type g t) s) (unless (size_stop e.context (Chan Respond (argument_type g t)) s) (
    gives_ (argument_formed e g t h.1.0 w, (within_adds e g.own g.adds r h.1.1, (shifted_in e g.own g.adds t w, tt)))))))

values_signed : (ns : List (List ℕ)) (e : Environment) (ss : List Signature) (vs : List KnownValue) → AreSignatures e ss → ValuesAreWellFormed e.names (kinds_in e) vs → ValuesAreWellFormed e.names (kinds_in e) (signature_values ss vs)
values_signed ns e [] vs h k = k
values_signed ns e (s ∷ ss) vs h k = values_signed ns e ss (record { name = s.name.name.0; has = s.has } ∷ vs) h.1.1.1 (h.0, k)

signed_regular : (e : Environment) (ss : List Signature) → IsRegular e → AreSignatures e ss → IsRegular (with_signatures e ss)
signed_regular e ss r h = record { entries = r.entries; known = values_signed e.names e ss e.values h r.known }

still_body : (e : Environment) (vs : List KnownValue) (s : Signature) → IsBodyIn (extended e s.adds) s.body → IsBodyIn (extended (record { names = e.names; context = e.context; values = vs }) s.adds) s.body
still_body e vs s h = go s.body h
  where
    go : (b : Body) → IsBodyIn (extended e s.adds) b → IsBodyIn (extended (record { names = e.names; context = e.context; values = vs }) s.adds) b
    go (process_body q) k = tt
    go (value_body v t) k = k

still_signed : (e : Environment) (vs : List KnownValue) (ss : List Signature) → ValuesAreWellFormed e.names (kinds_in e) vs → AreSignatures e ss → AreSignatures (record { names = e.names; context = e.context; values = vs }) ss
still_signed e vs [] r h = tt
still_signed e vs (s ∷ ss) r h = (
  h.0,
  (
    record { entries = h.1.0.entries; known = values_both e.names (kinds_inside s.adds.binders e.context) s.adds.values (rename_values (moved (opened s.adds) 0) vs) (values_first e.names _ s.adds.values _ h.1.0.known) (values_renamed e.names vs (keeps_past s.adds.binders e.context) r) },
    (still_body e vs s h.1.1.0, still_signed e vs ss r h.1.1.1),
  ),
)

parameters_kinds : (xs : List Id) (c : PlainContext) → kinds (variables (with_parameters_named xs c)) ≡ with_parameters (length xs) (kinds (variables c))
parameters_kinds [] c = refl
parameters_kinds (x ∷ xs) c = parameters_kinds xs (entry_of x Free ∷ c) ∙ parameters_further (length xs) (kinds (variables c))

parameters_entries : (ns : List (List ℕ)) (xs : List Id) (c : PlainContext) → EntriesAreWellFormed ns c → EntriesAreWellFormed ns (with_parameters_named xs c)
parameters_entries ns [] c h = h
parameters_entries ns (x ∷ xs) c h = parameters_entries ns xs (entry_of x Free ∷ c) (tt, h)

pub declaration_regular : (e : Environment) (d : Dec) → DecHasDistinctLabels d → IsRegular e → Step environment_ e (declaration d)
declaration_regular e (new_dec s x t) i r =
    unless_clear (kind_stop e.names e.context t) (λ k. in_boths (normal e.names e.context t) _ _ (gives_ (one_adds e x (normal e.names e.context t) r (expands_well e.names e.context t r.entries i k), grows e (one_value x (normal e.names e.context t)))))
declaration_regular e (run_dec s p) i r = parts (r, tt) (λ x h. gives_ (r, same_growth e))
declaration_regular e (let_dec s p v) i r =
    splits (is_complete e.names e.context p)
    (parts (r, tt) (λ g h. parts (r, h.1.0) (λ x k. gives_ (h.1.1, grows e g.adds))))
    (parts (r, tt) (λ t h. parts (r, h.1) (λ x k. gives_ (k.1, grows e x))))
declaration_regular e (def_dec s ds) i r =
    parts (r, tt) (λ ss g.
    let q = signed_regular e ss r g.1 in
    parts (q, still_signed e (signature_values ss e.values) ss q.known g.1) (λ x h. gives_ (q, record { texts = refl; inner = []; kinds_ = refl })))
declaration_regular e (alias_dec s x t) i r =
    unless_clear (kind_stop e.names e.context t) (λ k.
    gives_ (record { entries = (expands_well e.names e.context t r.entries i k, r.entries); known = r.known }, record { texts = refl; inner = []; kinds_ = refl }))
declaration_regular e (operator_dec s x xs t) i r =
    unless_clear (kind_stop e.names (with_parameters_in e xs).context t) (λ k.
    let w = expands_well e.names (with_parameters_in e xs).context t (parameters_entries e.names xs e.context r.entries) i k in
    gives_ (record { entries = (subst (λ ks. IsWellFormed e.names ks (normal e.names (with_parameters_in e xs).context t)) (parameters_kinds xs e.context) w, r.entries); known = r.known }, record { texts = refl; inner = []; kinds_ = refl }))
declaration_regular e (await_dec s v) i r = parts (r, (tt, (tt, tt))) (λ x h. gives_ (r, same_growth e))
