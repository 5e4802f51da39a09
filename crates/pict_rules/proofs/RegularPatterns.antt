-- Steps of regularity: patterns, and declarations in order.
use Rattle.std.proofs.Common.{◌≡◌, ℕ, zero, suc, List, [], ◌++◌, length, Some, None, refl, sym, ◌∙◌, ap, subst, append_assoc}
use Rattle.std.proofs.lemmas.List.{map-append}
use Rattle.pict_syntax.specs.declared.id.Id.{Id}
use Rattle.pict_syntax.specs.Trees.{Pat, bind_pat, any_pat, fields_pat, fold_pat, Pats, no_pats, more_pats, Decs, no_decs, more_decs}
use Rattle.pict_types.specs.Types.{PlainType, PlainTypes, no_type, types}
use Rattle.pict_types.specs.Kinds.{Kind, kinds, IsWellFormed, AreWellFormed}
use Rattle.pict_types.specs.Renaming.{moved}
use Rattle.pict_normal.specs.Normal.{normal, kind_stop}
use Rattle.pict_types.specs.Entries.{PlainContext, variables, EntriesAreWellFormed}
use Rattle.pict_sub.specs.Exposing.{exposure}
use Rattle.pict_rules.specs.Counts.{count_pats}
use Rattle.pict_rules.specs.Shapes.{nth_type}
use Rattle.pict_rules.specs.Environments.{Environment, Extension, KnownType, context_of, no_extension, one_value, only_types, entries_of, rename_values, within, extended}
use Rattle.pict_rules.specs.Rules.{environment_, extension_, pattern_, patterns_, pattern_gives, patterns_give, pattern_against, patterns_against, declarations}
use Rattle.pict_rules.specs.Regular.{IsRegular, IsTypeIn, kinds_in, ValuesAreWellFormed, Adds, GrowsFrom}
use Rattle.pict_rules.proofs.Results.{gives_, refuses, needs, parts, unless}
use Rattle.pict_rules.proofs.Regularity.{Step}
use Rattle.pict_rules.proofs.RegularJoined.{joined_adds, kinds_inside, keeps_past, values_renamed, values_first, values_both}
use Rattle.pict_rules.proofs.RegularProcesses.{exposed_formed}
use Rattle.pict_scope.specs.DistinctLabels.{PatHasDistinctLabels}
use Rattle.pict_rules.proofs.RegularExpanded.{expands_well}
use Rattle.pict_rules.proofs.RegularValues.{unless_clear, records_formed, recursives_formed}
use Rattle.pict_normal.proofs.RawFormed.{and_type_formed}

-- what is added
pub none_adds : (e : Environment) → IsRegular e → Adds e no_extension
none_adds e r = record { entries = r.entries; known = values_renamed e.names e.values (keeps_past [] e.context) r.known }

pub one_adds : (e : Environment) (x : Id) (t : PlainType) → IsRegular e → IsTypeIn e t → Adds e (one_value x t)
one_adds e x t r w = record { entries = r.entries; known = (w, values_renamed e.names e.values (keeps_past [] e.context) r.known) }

pub both_entries : (xs own : List KnownType) (c : PlainContext) → entries_of xs ++ (entries_of own ++ c) ≡ entries_of (xs ++ own) ++ c
both_entries xs own c = sym (append_assoc (entries_of xs) (entries_of own) c) ∙ ap (λ z. z ++ c) (sym (map-append _ xs own))

pub within_adds : (e : Environment) (own : List KnownType) (x : Extension) → IsRegular e → Adds (extended e (only_types own)) x → Adds e (within own x)
within_adds e own x r h = record {
  entries = subst (λ c. EntriesAreWellFormed e.names c) (both_entries x.binders own e.context) h.entries;
  known = values_both e.names (kinds_inside (x.binders ++ own) e.context) x.values (rename_values (moved (length (x.binders ++ own)) 0) e.values)
      (subst (λ c. ValuesAreWellFormed e.names (kinds (variables c)) x.values) (both_entries x.binders own e.context) (values_first e.names _ x.values _ h.known))
      (values_renamed e.names e.values (keeps_past (x.binders ++ own) e.context) r.known);
}

pub pattern_regular : (e : Environment) (p : Pat) → PatHasDistinctLabels p → IsRegular e → Step pattern_ e (pattern_gives p)
pattern_regular e (bind_pat s x None) i r = refuses
pattern_regular e (bind_pat s x (Some a)) i r =
    unless_clear (kind_stop e.names e.context a) (λ k. let w = expands_well e.names e.context a r.entries i k in gives_ (w, one_adds e x (normal e.names e.context a) r w))
pattern_regular e (any_pat s None) i r = refuses
pattern_regular e (any_pat s (Some a)) i r =
    unless_clear (kind_stop e.names e.context a) (λ k. let w = expands_well e.names e.context a r.entries i k in gives_ (w, none_adds e r))
pattern_regular e (fields_pat s g) i r = parts (r, tt) (λ x h. unless _ (gives_ (h.1.0, within_adds e x.own x.adds r h.1.1)))
pattern_regular e (fold_pat s None p) i r = refuses
pattern_regular e (fold_pat s (Some a) p) i r =
    unless_clear (kind_stop e.names e.context a) (λ k.
    let w = expands_well e.names e.context a r.entries i.0 k in
    recursives_formed e.names (kinds_in e) (normal e.names e.context a) _ _ w (λ u m. unless _ (parts (r, m) (λ x g. gives_ (w, g.1)))))

pub patterns_regular : (e : Environment) (ps : Pats) → IsRegular e → Step patterns_ e (patterns_give ps)
patterns_regular e no_pats r = gives_ (tt, none_adds e r)
patterns_regular e (more_pats ps p) r =
    parts (r, tt) (λ g h. parts (r, tt) (λ x k. gives_ (and_type_formed e.names (kinds_in e) g.have x.has h.1.0 k.1.0, joined_adds e g.adds x.adds r h.1.1 k.1.1)))

pub against_regular : (e : Environment) (p : Pat) (t : PlainType) → PatHasDistinctLabels p → IsRegular e → IsTypeIn e t → Step extension_ e (pattern_against p t)
against_regular e (bind_pat s x None) t i r w = gives_ (one_adds e x t r w)
against_regular e (bind_pat s x (Some a)) t i r w =
    unless_clear (kind_stop e.names e.context a) (λ k. needs (gives_ (one_adds e x (normal e.names e.context a) r (expands_well e.names e.context a r.entries i k))))
against_regular e (any_pat s None) t i r w = gives_ (none_adds e r)
against_regular e (any_pat s (Some a)) t i r w = unless _ (needs (gives_ (none_adds e r)))
against_regular e (fields_pat s g) t i r w =
    records_formed e.names (kinds_in e) (exposure (context_of e) t) (exposed_formed e t r w) (λ bs ps ls u. parts (r, u) (λ x h. gives_ (within_adds e x.own x.adds r h.1.1))) refuses
against_regular e (fold_pat s None p) t i r w =
    recursives_formed e.names (kinds_in e) (exposure (context_of e) t) _ _ (exposed_formed e t r w) (λ u m. unless _ (parts (r, m) (λ x g. gives_ g.1)))
against_regular e (fold_pat s (Some a) p) t i r w =
    unless_clear (kind_stop e.names e.context a) (λ k.
    recursives_formed e.names (kinds_in e) (normal e.names e.context a) _ _ (expands_well e.names e.context a r.entries i.0 k) (λ u m. needs (unless _ (parts (r, m) (λ x g. gives_ g.1)))))

pub number_formed : (ns : List (List ℕ)) (ks : List Kind) (n : ℕ) (ts : PlainTypes) → AreWellFormed ns ks ts → IsWellFormed ns ks (nth_type n ts)
number_formed ns ks n no_type h = tt
number_formed ns ks zero (types t ts) h = h.0
number_formed ns ks (suc n) (types t ts) h = number_formed ns ks n ts h.1

pub patterns_against_regular : (e : Environment) (ps : Pats) (ts : PlainTypes) → IsRegular e → AreWellFormed e.names (kinds_in e) ts → Step extension_ e (patterns_against ps ts)
patterns_against_regular e no_pats ts r w = gives_ (none_adds e r)
patterns_against_regular e (more_pats ps p) ts r w =
    parts (r, w) (λ x g. parts (r, number_formed e.names (kinds_in e) (count_pats ps) ts w) (λ y h. gives_ (joined_adds e x y r g.1 h.1)))

-- declarations one after the other
pub same_growth : (e : Environment) → GrowsFrom e e
same_growth e = record { texts = refl; inner = []; kinds_ = refl }

pub growth_on : (e f g : Environment) → GrowsFrom e f → GrowsFrom f g → GrowsFrom e g
growth_on e f g h k = record {
  texts = k.texts ∙ h.texts;
  inner = k.inner ++ h.inner;
  kinds_ = k.kinds_ ∙ (ap (λ z. k.inner ++ z) h.kinds_ ∙ sym (append_assoc k.inner h.inner (kinds_in e)));
}

pub declarations_regular : (e : Environment) (ds : Decs) → IsRegular e → Step environment_ e (declarations ds)
declarations_regular e no_decs r = gives_ (r, same_growth e)
declarations_regular e (more_decs ds d) r = parts (r, tt) (λ f h. parts (h.1.0, tt) (λ g k. gives_ (k.1.0, growth_on e f g h.1.1 k.1.1)))
