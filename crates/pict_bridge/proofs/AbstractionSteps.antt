-- The steps of abstractions and of the names of a `def`.
use Rattle.std.proofs.Common.{◌≡◌, ◌≤◌, ℕ, List, [], ◌∷◌, Option, Some, None, refl, sym, ◌∙◌, ap, subst}
use Rattle.pict_syntax.specs.declared.code.Code.TheVariants.{Y8, Y14}
use Rattle.pict_syntax.specs.declared.id.Id.{Id}
use Rattle.pict_syntax.specs.declared.span.Span.{Span}
use Rattle.pict_syntax.specs.Grammar.{val_span}
use Rattle.pict_syntax.specs.Trees.{RType, TypeTree, TypeBinders, Pat, FieldPats, field_pats, Pats, LabelledPats, Val, Proc, Abs, process_abs, function_abs, Definitions, no_definitions, more_definitions, Decs}
use Rattle.pict_types.specs.Types.{Capability, Both, Read, Write, Respond, PlainType, Top, Int, Char, Str, Boolean, Var, Apply, Chan, Fields, Rec, PlainTypes, PlainLabels, PlainBounds, TypeContext, under}
use Rattle.pict_types.specs.Kinds.{IsWellFormed, BoundsAreWellFormed}
use Rattle.pict_types.proofs.Mentioned.{lowered_moved}
use Rattle.pict_normal.specs.Normal.{normal, kind_stop, and_type}
use Rattle.pict_scope.specs.Scopes.{scope_stop}
use Rattle.pict_scope.specs.Around as scope
use Rattle.pict_scope.specs.Outlines.{◌▸◌, pattern, empty, marks}
use Rattle.pict_scope.specs.Forms.{in_pat, in_field_pats, in_annotation, in_abs}
use Rattle.pict_sub.specs.Subtyping.{CarriesDown, write_write, both_write, IsSubtype, same, upward, read_read}
use Rattle.pict_sub.specs.Exposing.{exposure}
use Rattle.pict_sub.proofs.Exposed.{exposes}
use Rattle.pict_sub.proofs.Followed.{below_exposed}
use Rattle.pict_rules.specs.Shapes.{Function, function_by, with_last, with_answer, sendable, split_last}
use Rattle.pict_rules.specs.Environments.{Environment, Extension, KnownType, KnownValue, context_of, extended, opened, bounds_of, within, shifted_by}
use Rattle.pict_rules.specs.Rules.{nothing_, type_, signatures_, signature_, abstraction_gives, abstraction_against, signatures, signature, bodies, body, Signature, Body, process_body, value_body, TypedFields, TypedPattern, OpenedFields, give, within_limits, pattern_gives, pattern_against, fields_give, fields_against}
use Rattle.pict_rules.specs.Clauses.{with_own, argument_type, answering}
use Rattle.pict_rules.specs.Derivations.{Holds}
use Rattle.pict_rules.specs.Reached.{Reached}
use Rattle.pict_rules.specs.Regular.{IsRegular, IsTypeIn, kinds_in, IsGood}
use Rattle.pict_rules.specs.SameNames.{IsReadAs, IsNoStop, EachMark}
use Rattle.pict_scope.specs.DistinctLabels.{AnnotationHasDistinctLabels}
use Rattle.pict_rules.proofs.Results.{result_has}
use Rattle.pict_rules.proofs.ReachedNames.{no_stop_is_reached}
use Rattle.pict_rules.proofs.SameNamesAsked.{left}
use Rattle.pict_rules.proofs.BoundIds.{value_ids, field_value_ids}
use Rattle.pict_rules.proofs.Names.{id_names, pattern_named, against_named, fields_named, fields_against_named}
use Rattle.pict_rules.proofs.OwnBinders.{own_context}
use Rattle.pict_rules.proofs.RegularExpanded.{expands_well}
use Rattle.pict_rules.proofs.RegularProcesses.{exposed_formed}
use Rattle.pict_rules.proofs.RegularFields.{own_kinds, own_regular}
use Rattle.pict_rules.proofs.RegularDeclarations.{argument_formed, lowered_out}
use Rattle.pict_typing.specs.Erasing.{erased_capability}
use Rattle.pict_typing.specs.Values.{raised}
use Rattle.pict_bridge.specs.Embedding.{erased_context, Embeds}
use Rattle.pict_bridge.specs.Opening.{meaning, AddsWhatIsOpened}
use Rattle.pict_bridge.proofs.Reaching.{gives_, refuses, needs, parts, unless, limits, in_functions, outside}
use Rattle.pict_bridge.proofs.PatternParts.{FieldsAdd, fields_add}
use Rattle.pict_bridge.proofs.PatternSteps.{OpensAgainst, patterns_open}
use Rattle.pict_bridge.proofs.NamesOnce.{times, pattern_once, function_once}
use Rattle.pict_bridge.proofs.Realised.{type_means, below_means}
use Rattle.pict_bridge.proofs.Judged.{SentBy, ReadsAt, with_known, no_signature, more_signatures, Step}
use Rattle.pict_bridge.proofs.Rightly.{rightly, well}
use Rattle.pict_bridge.proofs.FieldForms.{last_and}
use Rattle.pict_bridge.proofs.ReadForms.{Answers, last_formed, process_reads, function_reads}

-- ---- names that are bound once

process_names_once : (s : Span) (p : Pat) (q : Proc) (a : scope.Around) → EachMark IsNoStop (marks (in_abs (process_abs s p q)) a) → (m : ℕ) → times m (id_names (value_ids p)) ≤ 1
unfolding marks
process_names_once s p q a h m = pattern_once p empty a m (left (marks (pattern (in_pat p) empty) a) _ h)

function_names_once : (s : Span) (f : FieldPats) (o : RType) (v : Val) (a : scope.Around) → EachMark IsNoStop (marks (in_abs (function_abs s f o v)) a) → (m : ℕ) → times m (id_names (field_value_ids f)) ≤ 1
unfolding marks
function_names_once s f o v a h m = function_once f o empty a m (left (marks (pattern (in_field_pats f ▸ in_annotation o) empty) a) _ h)

-- ---- what is received of a type below another one

reads_below : (e : Environment) (a : Abs) (r t : PlainType) → IsTypeIn e r → IsTypeIn e t → IsSubtype (context_of e) r t → ReadsAt e a t → ReadsAt e a r
reads_below e a r t p q d h vs f w k x b m = h vs f w k x b (raised (Chan Read (meaning f r)) (type_means r k p) (type_means t k q) m (upward read_read (below_means k d)))

-- ---- the same types, other values

adds_known : {e : Environment} {x : Extension} {f : ℕ → ℕ} {slots : List (Option ℕ)} {P : TypeContext → ℕ → List PlainType → Type 0} (vs : List KnownValue) → AddsWhatIsOpened e x f slots P → AddsWhatIsOpened (with_known e vs) x f slots P
adds_known vs p = record { context = p.context; more = p.more; types_ = p.types_; opens = p.opens; as_many = p.as_many; placed = record { later = p.placed.later; embeds = p.placed.embeds; extends_ = p.placed.extends_; each = p.placed.each } }

fields_known : {e : Environment} {a : Option PlainType} {ps : Pats} {ls : LabelledPats} {own : List KnownType} {ts : PlainTypes} {ms : PlainLabels} {x : Extension} {f : ℕ → ℕ} {c : TypeContext} (vs : List KnownValue) → FieldsAdd e a ps ls own ts ms x f c → FieldsAdd (with_known e vs) a ps ls own ts ms x f c
fields_known vs p = record {
  adds = record { context = p.adds.context; more = p.adds.more; types_ = p.adds.types_; opens = p.adds.opens; as_many = p.adds.as_many; placed = record { later = p.adds.placed.later; embeds = p.adds.placed.embeds; extends_ = p.adds.placed.extends_; each = p.adds.placed.each } };
  inside = p.inside;
  answer_at = p.answer_at;
}

-- ---- the type that a function goes against

record IsAnswering (e : Environment) (r : PlainType) (g : Function) : Type 0 where
  last : PlainType
  is : exposure (context_of e) r ≡ Fields g.binders (and_type g.positional last) g.labelled
  capability : Capability
  carries_down : CarriesDown (erased_capability capability) Write
  exposed_ : exposure (under (context_of e) g.binders) last ≡ Chan capability g.answer

record IsSendable (t u : PlainType) : Type 0 where
  capability : Capability
  carries_down : CarriesDown (erased_capability capability) Write
  is : t ≡ Chan capability u

is_sendable : (t u : PlainType) → sendable t ≡ Some u → IsSendable t u
is_sendable Top u h = absurd cc
is_sendable Int u h = absurd cc
is_sendable Char u h = absurd cc
is_sendable Str u h = absurd cc
is_sendable Boolean u h = absurd cc
is_sendable (Var i) u h = absurd cc
is_sendable (Apply i ts) u h = absurd cc
is_sendable (Chan Respond t) u h = let q : t ≡ u = cc in record { capability = Respond; carries_down = write_write; is = ap (Chan Respond) q }
is_sendable (Chan Write t) u h = let q : t ≡ u = cc in record { capability = Write; carries_down = write_write; is = ap (Chan Write) q }
is_sendable (Chan Both t) u h = let q : t ≡ u = cc in record { capability = Both; carries_down = both_write; is = ap (Chan Both) q }
is_sendable (Chan Read t) u h = absurd cc
is_sendable (Fields bs ps ls) u h = absurd cc
is_sendable (Rec t) u h = absurd cc

answering_record : (e : Environment) (r : PlainType) (g : Function) (bs : PlainBounds) (ps : PlainTypes) (ls : PlainLabels) → exposure (context_of e) r ≡ Fields bs ps ls → with_last (λ last. sendable (exposure (under (context_of e) bs) last)) bs ls (split_last ps) ≡ Some g → IsAnswering e r g
answering_record e r g bs ps ls is h = go (split_last ps) refl h
  where
    taken : (x : PlainTypes × PlainType) → split_last ps ≡ Some x → (o : Option PlainType) → sendable (exposure (under (context_of e) bs) x.1) ≡ o → with_answer bs ls x.0 o ≡ Some g → IsAnswering e r g
    taken x q None k h = absurd cc
    taken x q (Some u) k h =
        let s = is_sendable (exposure (under (context_of e) bs) x.1) u k in
        let z : record { binders = bs; positional = x.0; labelled = ls; answer = u } ≡ g = cc in
        subst (IsAnswering e r) z (record { last = x.1; is = is ∙ ap (λ k. Fields bs k ls) (sym (last_and ps x q)); capability = s.capability; carries_down = s.carries_down; exposed_ = s.is })

    go : (o : Option (PlainTypes × PlainType)) → split_last ps ≡ o → with_last (λ last. sendable (exposure (under (context_of e) bs) last)) bs ls o ≡ Some g → IsAnswering e r g
    go None q k = absurd cc
    go (Some x) q k = taken x q (sendable (exposure (under (context_of e) bs) x.1)) refl k

is_answering : (e : Environment) (r : PlainType) (g : Function) → answering e r ≡ Some g → IsAnswering e r g
is_answering e r g h = go (exposure (context_of e) r) refl h
  where
    go : (t : PlainType) → exposure (context_of e) r ≡ t → function_by (λ bs last. sendable (exposure (under (context_of e) bs) last)) t ≡ Some g → IsAnswering e r g
    go Top q k = absurd cc
    go Int q k = absurd cc
    go Char q k = absurd cc
    go Str q k = absurd cc
    go Boolean q k = absurd cc
    go (Var i) q k = absurd cc
    go (Apply i ts) q k = absurd cc
    go (Chan m t) q k = absurd cc
    go (Fields bs ps ls) q k = answering_record e r g bs ps ls q k
    go (Rec t) q k = absurd cc

own_bounds : (e : Environment) (s : Span) (bs : TypeBinders) (ps : Pats) (ls : LabelledPats) (t : PlainType) (g : Function) (x : OpenedFields) → IsRegular e → IsTypeIn e t → answering e t ≡ Some g → IsGood e (fields_against s (field_pats bs ps ls) g.binders g.positional g.labelled) x → BoundsAreWellFormed e.names (kinds_in e) (bounds_of x.own)
own_bounds e s bs ps ls t g x r q is w =
    let a = is_answering e t g is in
    let whole = subst (IsTypeIn e) a.is (exposed_formed e t r q) in
    subst (BoundsAreWellFormed e.names (kinds_in e)) (sym w.0) whole.0

-- ---- functions against a type

module _ (names : List (List ℕ)) (program : Decs) (clean : scope_stop names program ≡ None) where
  -- a pattern with what it adds
  gives_opens : (e : Environment) (p : Pat) (g : TypedPattern) → Reached names program _ e (pattern_gives p) → Holds e (pattern_gives p) g → OpensAgainst e p g.has g.adds
  gives_opens e p g r d = patterns_open names program clean e (pattern_gives p) g r d

  against_opens : (e : Environment) (p : Pat) (t : PlainType) (x : Extension) → Reached names program _ e (pattern_against p t) → Holds e (pattern_against p t) x → OpensAgainst e p t x
  against_opens e p t x r d = patterns_open names program clean e (pattern_against p t) x r d

  -- a function whose fields give their types
  given_fields : (e : Environment) (bs : TypeBinders) (ps : Pats) (ls : LabelledPats) (g : TypedFields) (last : PlainType) → Reached names program _ e (fields_give (field_pats bs ps ls)) → Holds e (fields_give (field_pats bs ps ls)) g → (c : TypeContext) (f : ℕ → ℕ) → Embeds f (erased_context (context_of e)) c → FieldsAdd e (Some last) ps ls g.own g.positional g.labelled g.adds f c
  given_fields e bs ps ls g last r d c f i = fields_add e (Some last) ps ls g.own g.positional g.labelled g.adds c f (patterns_open names program clean e (fields_give (field_pats bs ps ls)) g r d) i

  against_fields : (e : Environment) (s : Span) (bs : TypeBinders) (ps : Pats) (ls : LabelledPats) (rs : PlainBounds) (ts : PlainTypes) (ms : PlainLabels) (x : OpenedFields) (last : PlainType) → Reached names program _ e (fields_against s (field_pats bs ps ls) rs ts ms) → Holds e (fields_against s (field_pats bs ps ls) rs ts ms) x → (c : TypeContext) (f : ℕ → ℕ) → Embeds f (erased_context (context_of e)) c → FieldsAdd e (Some last) ps ls x.own ts ms x.adds f c
  against_fields e s bs ps ls rs ts ms x last r d c f i = fields_add e (Some last) ps ls x.own ts ms x.adds c f (patterns_open names program clean e (fields_against s (field_pats bs ps ls) rs ts ms) x r d) i

  answers_itself : (e : Environment) (t : PlainType) → Answers e (Chan Respond t) t
  answers_itself e t = record { capability = Respond; carries_down = write_write; type_ = t; sends = same; below = same }

  -- the annotated type of an answer
  annotated : (e : Environment) (own : List KnownType) (a : TypeTree) → IsRegular e → BoundsAreWellFormed e.names (kinds_in e) (bounds_of own) → AnnotationHasDistinctLabels (Some a) → kind_stop e.names (with_own e own).context a ≡ None → IsTypeIn (with_own e own) (normal e.names (with_own e own).context a)
  annotated e own a r w d q = expands_well e.names (with_own e own).context a (own_regular e own r w).entries d q

  pub abstraction_step : (e : Environment) (a : Abs) → Step names program type_ e (abstraction_gives a)
  abstraction_step e (process_abs s p q) r =
      let once : IsReadAs IsNoStop _ e (abstraction_gives (process_abs s p q)) = no_stop_is_reached names program _ e (abstraction_gives (process_abs s p q)) clean r in
      parts (λ g d r2 u. parts (λ x d3 r3 h. gives_ (
      process_reads e s p q g.has g.adds (gives_opens e p g r2 d) (process_names_once s p q once.around once.each_mark) (result_has (pattern_named e p) d).values (well g clean r2 d).0 h)))
  abstraction_step e (function_abs s (field_pats bs ps ls) (Some a) v) r =
      let once : IsReadAs IsNoStop _ e (abstraction_gives (function_abs s (field_pats bs ps ls) (Some a) v)) = no_stop_is_reached names program _ e (abstraction_gives (function_abs s (field_pats bs ps ls) (Some a) v)) clean r in
      let k = rightly clean r in
      parts (λ g d r2 u. unless (kind_stop e.names (with_own e g.own).context a) (λ q.
      let t = normal e.names (with_own e g.own).context a in
      let w = well g clean r2 d in
      let qt = annotated e g.own a k.1.0 w.0.0 k.0.1.0 q in
      parts (λ x d3 r3 h. limits e (argument_type g t) s (gives_ (
      function_reads e s bs ps ls (Some a) v g.own g.positional g.labelled (Chan Respond t) t g.adds (given_fields e bs ps ls g (Chan Respond t) r2 d) (function_names_once s (field_pats bs ps ls) (Some a) v once.around once.each_mark) (result_has (fields_named e (field_pats bs ps ls)) d).adds_.values (argument_formed e g t w.0 qt) qt (answers_itself (with_own e g.own) t) h)))))
  abstraction_step e (function_abs s (field_pats bs ps ls) None v) r =
      let once : IsReadAs IsNoStop _ e (abstraction_gives (function_abs s (field_pats bs ps ls) None v)) = no_stop_is_reached names program _ e (abstraction_gives (function_abs s (field_pats bs ps ls) None v)) clean r in
      parts (λ g d r2 u. parts (λ t d3 r3 h. outside (opened g.adds) t Y14 (val_span v) {k = λ z. within_limits e (argument_type g z) s (give (argument_type g z))} (λ z is m. limits e (argument_type g z) s (gives_ (
      let w = well g clean r2 d in
      let qt : IsTypeIn (with_own e g.own) z = subst (IsTypeIn (with_own e g.own)) (sym is) (lowered_out e g.own g.adds t m (well t clean r3 d3)) in
      let back : shifted_by (opened g.adds) z ≡ t = ap (shifted_by (opened g.adds)) is ∙ lowered_moved (opened g.adds) t m in
      function_reads e s bs ps ls None v g.own g.positional g.labelled (Chan Respond z) z g.adds (given_fields e bs ps ls g (Chan Respond z) r2 d) (function_names_once s (field_pats bs ps ls) None v once.around once.each_mark) (result_has (fields_named e (field_pats bs ps ls)) d).adds_.values (argument_formed e g z w.0 qt) qt (answers_itself (with_own e g.own) z) (subst (SentBy (extended e (within g.own g.adds)) v) (sym back) h))))))

  -- a function whose fields go against a record, with an answer's type below the record's
  function_against : (e : Environment) (s : Span) (bs : TypeBinders) (ps : Pats) (ls : LabelledPats) (o : RType) (v : Val) (r : PlainType) (g : Function) (x : OpenedFields) (t : PlainType) → IsRegular e → IsTypeIn e r → IsAnswering e r g → ((m : ℕ) → times m (id_names (field_value_ids (field_pats bs ps ls))) ≤ 1)
      → Reached names program _ e (fields_against s (field_pats bs ps ls) g.binders g.positional g.labelled) → Holds e (fields_against s (field_pats bs ps ls) g.binders g.positional g.labelled) x
      → (IsTypeIn (with_own e x.own) g.answer → IsTypeIn (with_own e x.own) t) → IsSubtype (context_of (with_own e x.own)) t g.answer → SentBy (extended e (within x.own x.adds)) v (shifted_by (opened x.adds) t) → ReadsAt e (function_abs s (field_pats bs ps ls) o v) r
  function_against e s bs ps ls o v r g x t reg q a once r2 d in_ below h =
      reads_below e (function_abs s (field_pats bs ps ls) o v) r whole q whole_in (subst (IsSubtype (context_of e) r) a.is (below_exposed (exposes (context_of e) r)))
      (subst (λ z. ReadsAt e (function_abs s (field_pats bs ps ls) o v) (Fields z (and_type g.positional a.last) g.labelled)) own_is
      (function_reads e s bs ps ls o v x.own g.positional g.labelled a.last t x.adds (against_fields e s bs ps ls g.binders g.positional g.labelled x a.last r2 d) once (result_has (fields_against_named e s (field_pats bs ps ls) g.binders g.positional g.labelled) d).adds_.values own_whole (in_ answer_in) (record { capability = a.capability; carries_down = a.carries_down; type_ = g.answer; sends = sends_; below = below }) h))
    where
      whole : PlainType
      whole = Fields g.binders (and_type g.positional a.last) g.labelled

      whole_in : IsTypeIn e whole
      whole_in = subst (IsTypeIn e) a.is (exposed_formed e r reg q)

      own_is : bounds_of x.own ≡ g.binders
      own_is = (well x clean r2 d).0

      own_whole : IsTypeIn e (Fields (bounds_of x.own) (and_type g.positional a.last) g.labelled)
      own_whole = subst (λ z. IsTypeIn e (Fields z (and_type g.positional a.last) g.labelled)) (sym own_is) whole_in

      e1 : Environment
      e1 = with_own e x.own

      inner : IsRegular e1
      inner = own_regular e x.own reg own_whole.0

      last_in : IsTypeIn e1 a.last
      last_in = subst (λ ks. IsWellFormed e.names ks a.last) (sym (own_kinds e x.own)) (last_formed e.names _ g.positional a.last own_whole.1.0)

      context_is : context_of e1 ≡ under (context_of e) g.binders
      context_is = own_context e x.own ∙ ap (under (context_of e)) own_is

      exposed_here : exposure (context_of e1) a.last ≡ Chan a.capability g.answer
      exposed_here = ap (λ c. exposure c a.last) context_is ∙ a.exposed_

      sends_ : IsSubtype (context_of e1) a.last (Chan a.capability g.answer)
      sends_ = subst (IsSubtype (context_of e1) a.last) exposed_here (below_exposed (exposes (context_of e1) a.last))

      answer_in : IsTypeIn e1 g.answer
      answer_in = subst (IsTypeIn e1) exposed_here (exposed_formed e1 a.last inner last_in)

  pub against_step : (e : Environment) (a : Abs) (r : PlainType) → Step names program nothing_ e (abstraction_against a r)
  against_step e (process_abs s p q) t r =
      let once : IsReadAs IsNoStop _ e (abstraction_against (process_abs s p q) t) = no_stop_is_reached names program _ e (abstraction_against (process_abs s p q) t) clean r in
      let k = rightly clean r in
      parts (λ x d r2 u. parts (λ y d3 r3 h. gives_ (
      process_reads e s p q t x (against_opens e p t x r2 d) (process_names_once s p q once.around once.each_mark) (result_has (against_named e p t) d).values k.1.1 h)))
  against_step e (function_abs s (field_pats bs ps ls) None v) t r =
      let once : IsReadAs IsNoStop _ e (abstraction_against (function_abs s (field_pats bs ps ls) None v) t) = no_stop_is_reached names program _ e (abstraction_against (function_abs s (field_pats bs ps ls) None v) t) clean r in
      let k = rightly clean r in
      in_functions (answering e t) Y8 s (λ g is. parts (λ x d r2 u. parts (λ y d3 r3 h. gives_ (
      function_against e s bs ps ls None v t g x g.answer k.1.0 k.1.1 (is_answering e t g is) (function_names_once s (field_pats bs ps ls) None v once.around once.each_mark) r2 d (λ z. z) same h))))
  against_step e (function_abs s (field_pats bs ps ls) (Some a) v) t r =
      let once : IsReadAs IsNoStop _ e (abstraction_against (function_abs s (field_pats bs ps ls) (Some a) v) t) = no_stop_is_reached names program _ e (abstraction_against (function_abs s (field_pats bs ps ls) (Some a) v) t) clean r in
      let k = rightly clean r in
      in_functions (answering e t) Y8 s (λ g is. parts (λ x d r2 u. unless (kind_stop e.names (with_own e x.own).context a) (λ q. needs (λ below. parts (λ y d3 r3 h. gives_ (
      function_against e s bs ps ls (Some a) v t g x (normal e.names (with_own e x.own).context a) k.1.0 k.1.1 (is_answering e t g is) (function_names_once s (field_pats bs ps ls) (Some a) v once.around once.each_mark) r2 d (λ z. annotated e x.own a k.1.0 (own_bounds e s bs ps ls t g x k.1.0 k.1.1 is (well x clean r2 d)) k.0.1.0 q) below h))))))

  -- ---- the names of a `def`

  pub signature_step : (e : Environment) (x : Id) (a : Abs) → Step names program signature_ e (signature x a)
  signature_step e x (process_abs s p q) r =
      let once : IsReadAs IsNoStop _ e (signature x (process_abs s p q)) = no_stop_is_reached names program _ e (signature x (process_abs s p q)) clean r in
      parts (λ g d r2 u. limits e (Chan Respond g.has) s (gives_ (record {
        name_ = refl;
        takes = g.has;
        has_ = refl;
        reads = λ vs h. process_reads (with_known e vs) s p q g.has g.adds (λ c f i. adds_known vs (gives_opens e p g r2 d c f i)) (process_names_once s p q once.around once.each_mark) (result_has (pattern_named e p) d).values (well g clean r2 d).0 h;
      })))
  signature_step e x (function_abs s (field_pats bs ps ls) None v) r = parts (λ g d r2 u. refuses)
  signature_step e x (function_abs s (field_pats bs ps ls) (Some a) v) r =
      let once : IsReadAs IsNoStop _ e (signature x (function_abs s (field_pats bs ps ls) (Some a) v)) = no_stop_is_reached names program _ e (signature x (function_abs s (field_pats bs ps ls) (Some a) v)) clean r in
      let k = rightly clean r in
      parts (λ g d r2 u. unless (kind_stop e.names (with_own e g.own).context a) (λ q.
      let t = normal e.names (with_own e g.own).context a in
      let w = well g clean r2 d in
      let qt = annotated e g.own a k.1.0 w.0.0 k.0.1.0 q in
      limits e (argument_type g t) s (limits e (Chan Respond (argument_type g t)) s (gives_ (record {
        name_ = refl;
        takes = argument_type g t;
        has_ = refl;
        reads = λ vs h. function_reads (with_known e vs) s bs ps ls (Some a) v g.own g.positional g.labelled (Chan Respond t) t g.adds (λ c f i. fields_known vs (given_fields e bs ps ls g (Chan Respond t) r2 d c f i)) (function_names_once s (field_pats bs ps ls) (Some a) v once.around once.each_mark) (result_has (fields_named e (field_pats bs ps ls)) d).adds_.values (argument_formed e g t w.0 qt) qt (answers_itself (with_own (with_known e vs) g.own) t) h;
      })))))

  pub signatures_step : (e : Environment) (ds : Definitions) → Step names program signatures_ e (signatures ds)
  signatures_step e no_definitions r = gives_ no_signature
  signatures_step e (more_definitions ds x a) r = parts (λ ss d r2 h. parts (λ s d3 r3 k. gives_ (more_signatures h k)))

  pub bodies_step : (e : Environment) (ss : List Signature) → Step names program nothing_ e (bodies ss)
  bodies_step e [] r = gives_ tt
  bodies_step e (s ∷ ss) r = parts (λ x d r2 h. parts (λ y d3 r3 k. gives_ (h, k)))

  pub body_step : (e : Environment) (b : Body) → Step names program nothing_ e (body b)
  body_step e (process_body q) r = parts (λ x d r2 h. gives_ h)
  body_step e (value_body v t) r = parts (λ x d r2 h. gives_ h)
