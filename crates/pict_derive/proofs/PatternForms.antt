-- What each form of the source says of core patterns, and lists of them.
use Rattle.std.proofs.Common.{◌≡◌, ℕ, ◌+◌, ◌<◌, List, [], ◌∷◌, ◌++◌, length, map, take, get_or, refl, sym, ◌∙◌, ap, Box, Global}
use Rattle.std.specs.Prelude.{Vec}
use Rattle.std.proofs.lemmas.List.{map-append}
use Rattle.pict_syntax.specs.declared.span.Span.{Span}
use Rattle.pict_syntax.specs.declared.id.Id.{Id}
use Rattle.pict_syntax.specs.declared.name.Name.{Name}
use Rattle.pict_syntax.specs.declared.type_tree.RType.{RType}
use Rattle.pict_syntax.specs.declared.pattern.Pat.{Pat, Bind, Any, Fields, Fold}
use Rattle.pict_syntax.specs.declared.pattern.Pat.TheViews.{out-FieldPats}
use Rattle.pict_syntax.specs.declared.pattern.FieldPats.{FieldPats}
use Rattle.pict_syntax.specs.declared.pattern.LabelledPat.{LabelledPat}
use Rattle.pict_syntax.specs.Trees.{no_pats, no_labelled_pats, fields_pat}
use Rattle.pict_syntax.specs.PlainTrees.{pat_of, field_pats_of, pats_on, labelled_pats_on}
use Rattle.pict_syntax.specs.Labels.{in_label_order, by_number}
use Rattle.pict_syntax.proofs.PatternLists.{pats_more, labelled_pats_more}
use Rattle.pict_core.specs.Term as core
use Rattle.pict_core.specs.Plain.{plain_pat, plain_pat_field, pats_of, labelled_pats_of}
use Rattle.pict_core.specs.declared.pattern.CorePat.{CorePat}
use Rattle.pict_core.specs.declared.pattern.CorePat.TheVariants as pattern
use Rattle.pict_core.proofs.Fields.{plain_pat-Fields}
use Rattle.pict_translation.specs.Patterns as patterns
use Rattle.pict_translation.specs.Patterns.{opened, all_opened, labelled_opened, patterns_in, names_opened, labelled_names_in, record_pat, answer, function_pat, names_before, names_after}
use Rattle.pict_derive.specs.declared.patterns.Opened.{Opened}
use Rattle.pict_derive.specs.Built.{numbers_of, opened_of, opened_field, pattern_of}
use Rattle.pict_derive.proofs.LabelOrder.{sorted_are, patterns_are, labelled_patterns_are, names_in_more, labelled_names_more}
use Rattle.pict_derive.proofs.Surrounding.{plain_bind}
use Rattle.pict_scope.proofs.Reading.{taken}
use Rattle.pict_scope.proofs.PatternForms.{field_pats_are}

pub opened_is : (o : Opened) (q : patterns.Opened) → plain_pat o.pattern ≡ q.pattern → numbers_of o.names.items ≡ q.names → opened_of o ≡ q
opened_is o q p n =
    let at : (p : core.Pat) (ns : List ℕ) → patterns.Opened = λ p ns. record { pattern = p; names = ns } in
    ap (λ p. at p (numbers_of o.names.items)) p ∙ ap (at q.pattern) n

pub bind_opened : (names : List (List ℕ)) (p : Pat) (s : Span) (i : Id) (r : RType) → p ≡ Bind s i r → opened names (pat_of p) ≡ record { pattern = core.Bind; names = i.name.0 ∷ [] }
unfolding pat_of opened
bind_opened names p s i r is = ap (λ t. opened names (pat_of t)) is

pub any_opened : (names : List (List ℕ)) (p : Pat) (s : Span) (r : RType) → p ≡ Any s r → opened names (pat_of p) ≡ record { pattern = core.Any; names = [] }
unfolding pat_of opened
any_opened names p s r is = ap (λ t. opened names (pat_of t)) is

pub fold_opened : (names : List (List ℕ)) (p : Pat) (s : Span) (r : RType) (q : Box Pat Global) → p ≡ Fold s r q → opened names (pat_of p) ≡ opened names (pat_of q.value)
unfolding pat_of opened
fold_opened names p s r q is = ap (λ t. opened names (pat_of t)) is

abbrev positional_in : List (List ℕ) → FieldPats → List patterns.Opened
positional_in names f = all_opened names (pats_on no_pats (out-FieldPats f).positional.items)

abbrev labelled_in : List (List ℕ) → FieldPats → List (ℕ × patterns.Opened)
labelled_in names f = in_label_order names (labelled_opened names (labelled_pats_on no_labelled_pats (out-FieldPats f).labelled.items))

fields_pat_is : (names : List (List ℕ)) (p : Pat) (s : Span) (f : Box FieldPats Global) → p ≡ Fields s f → opened names (pat_of p) ≡ opened names (fields_pat s (field_pats_of f.value))
unfolding pat_of
fields_pat_is names p s f is = ap (λ t. opened names (pat_of t)) is

parts_opened : (names : List (List ℕ)) (s : Span) (f : FieldPats) → opened names (fields_pat s (field_pats_of f)) ≡ record { pattern = record_pat (positional_in names f) (labelled_in names f); names = names_opened (positional_in names f) ++ labelled_names_in (labelled_in names f) }
unfolding opened
parts_opened names s f = ap (λ t. opened names (fields_pat s t)) (field_pats_are f)

pub fields_opened : (names : List (List ℕ)) (p : Pat) (s : Span) (f : Box FieldPats Global) → p ≡ Fields s f → opened names (pat_of p) ≡ record { pattern = record_pat (positional_in names f.value) (labelled_in names f.value); names = names_opened (positional_in names f.value) ++ labelled_names_in (labelled_in names f.value) }
fields_opened names p s f is = fields_pat_is names p s f is ∙ parts_opened names s f.value

-- a record's pattern from those of its fields
pub record_opened : (ps : List CorePat) (os : List patterns.Opened) (ls : List (Name × CorePat)) (fs : List (ℕ × patterns.Opened)) → map plain_pat ps ≡ map (λ o. o.pattern) os → map pattern_of ls ≡ map (λ f. (f.0, f.1.pattern)) fs → core.RecordPat (pats_of (map plain_pat ps)) (labelled_pats_of (map plain_pat_field ls)) ≡ record_pat os fs
record_opened ps os ls fs p l =
    ap (λ x. core.RecordPat x (labelled_pats_of (map plain_pat_field ls))) (patterns_are ps os p) ∙ ap (core.RecordPat (patterns_in os)) (labelled_patterns_are ls fs l)

both_names : (xs ys us vs : List ℕ) → xs ≡ us → ys ≡ vs → xs ++ ys ≡ us ++ vs
both_names xs ys us vs x y = ap (λ l. l ++ ys) x ∙ ap (λ l. us ++ l) y

pub joined_is : (names : List (List ℕ)) (p : Pat) (s : Span) (f : Box FieldPats Global) (o : Opened) (ps : List CorePat) (ls : List (Name × CorePat)) (ns ms : List ℕ) → p ≡ Fields s f
    → map plain_pat ps ≡ map (λ o. o.pattern) (positional_in names f.value) → ns ≡ names_opened (positional_in names f.value)
    → map pattern_of ls ≡ map (λ f. (f.0, f.1.pattern)) (labelled_in names f.value) → ms ≡ labelled_names_in (labelled_in names f.value)
    → plain_pat o.pattern ≡ core.RecordPat (pats_of (map plain_pat ps)) (labelled_pats_of (map plain_pat_field ls)) → numbers_of o.names.items ≡ ns ++ ms → opened_of o ≡ opened names (pat_of p)
joined_is names p s f o ps ls ns ms is pp np pl nl made bound =
    opened_is o _ (made ∙ record_opened ps (positional_in names f.value) ls (labelled_in names f.value) pp pl) (bound ∙ both_names ns ms _ _ np nl)
    ∙ sym (fields_opened names p s f is)

-- ---- the pattern of a function

bound_last : (ps : List CorePat) (os : List patterns.Opened) → map plain_pat ps ≡ map (λ o. o.pattern) os → map plain_pat (ps ++ pattern.Bind ∷ []) ≡ map (λ o. o.pattern) (os ++ answer ∷ [])
bound_last ps os same =
    map-append plain_pat ps (pattern.Bind ∷ [])
    ∙ ap (λ l. l ++ plain_pat pattern.Bind ∷ []) same
    ∙ ap (λ p. map (λ o. o.pattern) os ++ p ∷ []) plain_bind
    ∙ sym (map-append (λ o. o.pattern) os (answer ∷ []))

pub function_is : (names : List (List ℕ)) (f : FieldPats) (old new : Vec CorePat Global) (ls : Vec (Name × CorePat) Global) → map plain_pat old.items ≡ map (λ o. o.pattern) (positional_in names f) → map pattern_of ls.items ≡ map (λ f. (f.0, f.1.pattern)) (labelled_in names f) → new.items ≡ old.items ++ pattern.Bind ∷ [] → plain_pat (pattern.Fields new ls) ≡ function_pat names (field_pats_of f)
function_is names f old new ls p l grown =
    plain_pat-Fields new ls
    ∙ record_opened new.items (positional_in names f ++ answer ∷ []) ls.items (labelled_in names f) (ap (map plain_pat) grown ∙ bound_last old.items (positional_in names f) p) l
    ∙ sym (ap (function_pat names) (field_pats_are f))

pub before_is : (names : List (List ℕ)) (f : FieldPats) → names_opened (positional_in names f) ≡ names_before names (field_pats_of f)
before_is names f = sym (ap (names_before names) (field_pats_are f))

pub after_is : (names : List (List ℕ)) (f : FieldPats) → labelled_names_in (labelled_in names f) ≡ names_after names (field_pats_of f)
after_is names f = sym (ap (names_after names) (field_pats_are f))

-- ---- lists

pub none_opened : (names : List (List ℕ)) → all_opened names (pats_on no_pats []) ≡ []
unfolding all_opened pats_on
none_opened names = refl

pub none_labelled : (names : List (List ℕ)) → labelled_opened names (labelled_pats_on no_labelled_pats []) ≡ []
unfolding labelled_opened labelled_pats_on
none_labelled names = refl

pub one_opened : (names : List (List ℕ)) (xs : List Pat) (i : ℕ) (x : Pat) (o : Opened) → i < length xs → x ≡ get_or xs i x → opened_of o ≡ opened names (pat_of x) → all_opened names (pats_on no_pats (take (i + 1) xs)) ≡ all_opened names (pats_on no_pats (take i xs)) ++ opened_of o ∷ []
unfolding all_opened
one_opened names xs i x o within is one =
    ap (λ l. all_opened names (pats_on no_pats l)) (taken xs i x within is) ∙ ap (all_opened names) (pats_more no_pats (take i xs) x) ∙ ap (λ q. all_opened names (pats_on no_pats (take i xs)) ++ q ∷ []) (sym one)

pub one_labelled_opened : (names : List (List ℕ)) (xs : List LabelledPat) (i : ℕ) (x : LabelledPat) (o : Opened) → i < length xs → x ≡ get_or xs i x → opened_of o ≡ opened names (pat_of x.pat) → labelled_opened names (labelled_pats_on no_labelled_pats (take (i + 1) xs)) ≡ labelled_opened names (labelled_pats_on no_labelled_pats (take i xs)) ++ (x.label.name.0, opened_of o) ∷ []
unfolding labelled_opened
one_labelled_opened names xs i x o within is one =
    ap (λ l. labelled_opened names (labelled_pats_on no_labelled_pats l)) (taken xs i x within is) ∙ ap (labelled_opened names) (labelled_pats_more no_labelled_pats (take i xs) x) ∙ ap (λ q. labelled_opened names (labelled_pats_on no_labelled_pats (take i xs)) ++ (x.label.name.0, q) ∷ []) (sym one)

-- one more at the end of both lists
pub patterns_grow : (old new : List CorePat) (o : Opened) (os all : List patterns.Opened) → map plain_pat old ≡ map (λ o. o.pattern) os → new ≡ old ++ o.pattern ∷ [] → all ≡ os ++ opened_of o ∷ [] → map plain_pat new ≡ map (λ o. o.pattern) all
patterns_grow old new o os all so_far grown more =
    ap (map plain_pat) grown ∙ map-append plain_pat old (o.pattern ∷ []) ∙ ap (λ l. l ++ plain_pat o.pattern ∷ []) so_far ∙ sym (ap (map (λ o. o.pattern)) more ∙ map-append (λ o. o.pattern) os (opened_of o ∷ []))

pub names_grow : (old new : List Name) (o : Opened) (os all : List patterns.Opened) → numbers_of old ≡ names_opened os → new ≡ old ++ o.names.items → all ≡ os ++ opened_of o ∷ [] → numbers_of new ≡ names_opened all
names_grow old new o os all so_far grown more =
    ap numbers_of grown ∙ map-append (λ n. n.0) old o.names.items ∙ ap (λ l. l ++ numbers_of o.names.items) so_far ∙ sym (ap names_opened more ∙ names_in_more os (opened_of o))

pub fields_grow : (old new : List (Name × Opened)) (f : Name × Opened) (os all : List (ℕ × patterns.Opened)) → map opened_field old ≡ os → new ≡ old ++ f ∷ [] → all ≡ os ++ opened_field f ∷ [] → map opened_field new ≡ all
fields_grow old new f os all so_far grown more = ap (map opened_field) grown ∙ map-append opened_field old (f ∷ []) ∙ ap (λ l. l ++ opened_field f ∷ []) so_far ∙ sym more

pub labelled_names_grow : (old new : List Name) (f : Name × Opened) (fs : List (Name × Opened)) → numbers_of old ≡ labelled_names_in (map opened_field fs) → new ≡ old ++ f.1.names.items → numbers_of new ≡ labelled_names_in (map opened_field (fs ++ f ∷ []))
labelled_names_grow old new f fs so_far grown =
    ap numbers_of grown ∙ map-append (λ n. n.0) old f.1.names.items ∙ ap (λ l. l ++ numbers_of f.1.names.items) so_far ∙ sym (ap labelled_names_in (map-append opened_field fs (f ∷ [])) ∙ labelled_names_more (map opened_field fs) (opened_field f))

pub labelled_grow : (old new : List (Name × CorePat)) (f : Name × Opened) (fs : List (Name × Opened)) → map pattern_of old ≡ map (λ f. (f.0.0, plain_pat f.1.pattern)) fs → new ≡ old ++ (f.0, f.1.pattern) ∷ [] → map pattern_of new ≡ map (λ f. (f.0.0, plain_pat f.1.pattern)) (fs ++ f ∷ [])
labelled_grow old new f fs so_far grown =
    ap (map pattern_of) grown ∙ map-append pattern_of old ((f.0, f.1.pattern) ∷ []) ∙ ap (λ l. l ++ (f.0.0, plain_pat f.1.pattern) ∷ []) so_far ∙ sym (map-append (λ f. (f.0.0, plain_pat f.1.pattern)) fs (f ∷ []))

-- ---- labelled fields, sorted

patterns_of_fields : (fs : List (Name × Opened)) → map {B = ℕ × core.Pat} (λ f. (f.0.0, plain_pat f.1.pattern)) fs ≡ map {B = ℕ × core.Pat} (λ f. (f.0, f.1.pattern)) (map opened_field fs)
patterns_of_fields [] = refl
patterns_of_fields (f ∷ fs) = ap (λ l. (f.0.0, plain_pat f.1.pattern) ∷ l) (patterns_of_fields fs)

pub sorted_fields : (names : List (List ℕ)) (old new : List (Name × Opened)) (all : List (ℕ × patterns.Opened)) → by_number new ≡ in_label_order names (by_number old) → map opened_field old ≡ all → map opened_field new ≡ in_label_order names all
sorted_fields names old new all sorted is = sorted_are names opened_of old new sorted ∙ ap (in_label_order names) is

pub sorted_patterns : (ps : List (Name × CorePat)) (new : List (Name × Opened)) (all : List (ℕ × patterns.Opened)) → map pattern_of ps ≡ map (λ f. (f.0.0, plain_pat f.1.pattern)) new → map opened_field new ≡ all → map pattern_of ps ≡ map (λ f. (f.0, f.1.pattern)) all
sorted_patterns ps new all made is = made ∙ patterns_of_fields new ∙ ap (map {B = ℕ × core.Pat} (λ f. (f.0, f.1.pattern))) is
