-- Whatever the rules reach from a program, the scopes read among the same names.
use Rattle.std.proofs.Common.{◌≡◌, ℕ, List, [], ◌∷◌, if◌then◌else◌, nat_eq, Bool, true, false, Option, Some, None, option_map, refl, sym, subst, ◌⊎◌, inl, inr}
use Rattle.pict_syntax.specs.declared.primitive.Primitive.{Primitive}
use Rattle.pict_syntax.specs.declared.span.Span.{Span}
use Rattle.pict_syntax.specs.Names.{text_of}
use Rattle.pict_syntax.specs.Trees.{Decs, of_chan, use_chan}
use Rattle.pict_syntax.specs.Stops.{Stop}
use Rattle.pict_types.specs.Types.{PlainType}
use Rattle.pict_scope.specs.declared.target.Target.{Target}
use Rattle.pict_scope.specs.declared.target.Target.TheVariants.{Prim}
use Rattle.pict_scope.specs.PrimitiveNames.{primitive_named}
use Rattle.pict_binders.specs.declared.binders.Binder.{Binder}
use Rattle.pict_binders.specs.Numbered.{nearest}
use Rattle.pict_scope.specs.Around.{Around, or_primitive}
use Rattle.pict_scope.specs.Marks.{Mark, value_used, type_used, value_bound, stands_twice, or_later, first_stop}
use Rattle.pict_scope.specs.Outlines.{value_use, marks}
use Rattle.pict_scope.specs.Scopes.{outermost, program_marks}
use Rattle.pict_rules.specs.Environments.{Environment, KnownValue, no_environment, known_type}
use Rattle.pict_rules.specs.Rules.{Sort, environment_, Judgement, declarations, gives}
use Rattle.pict_rules.specs.Reached.{Reached, whole, asked_by}
use Rattle.pict_rules.specs.SameNames.{value_names, bound_names, StandsIn, EachMark, IsReadAs, IsRead, SameNames, IsNoStop, NoStopIsReached, UsesAreKnown}
use Rattle.pict_rules.proofs.Results.{asked_has}
use Rattle.pict_rules.proofs.SameNamesAsked.{all_read}

whole_read : (Q : Mark → Type 0) (names : List (List ℕ)) (p : Decs) → EachMark Q (program_marks names p) → IsReadAs Q environment_ (no_environment names) (declarations p)
whole_read Q names p m = record { around = outermost names; types_ = record { texts = refl; same = refl }; values = record { same = refl }; each_mark = m }

reached_read : (Q : Mark → Type 0) {names : List (List ℕ)} {p : Decs} {s : Sort} {e : Environment} {j : Judgement s} → EachMark Q (program_marks names p) → Reached names p s e j → IsRead Q s e j
reached_read Q m whole = whole_read Q _ _ m
reached_read Q m (asked_by {s = s} {e = e} {j = j} r a) = asked_has (all_read Q s e j (reached_read Q m r)) a

pub same_names : SameNames
same_names names p s e j r = reached_read (StandsIn (program_marks names p)) (record { each = λ m h. h }) r

head_no_stop : (m : Mark) (o : Option Stop) → or_later m o ≡ None → (IsNoStop m) × (o ≡ None)
head_no_stop (value_used s None) o h = absurd cc
head_no_stop (value_used s (Some t)) o h = (refl, h)
head_no_stop (type_used s None) o h = absurd cc
head_no_stop (type_used s (Some t)) o h = (refl, h)
head_no_stop (value_bound n) o h = (refl, h)
head_no_stop (stands_twice c s) o h = absurd cc

pub none_stops : (ms : List Mark) → first_stop ms ≡ None → (m : Mark) → StandsIn ms m → IsNoStop m
none_stops [] h m k = absurd k
none_stops (x ∷ ms) h m (inl e) = subst IsNoStop (sym e) (head_no_stop x (first_stop ms) h).0
none_stops (x ∷ ms) h m (inr k) = none_stops ms (head_no_stop x (first_stop ms) h).1 m k

pub no_stop_is_reached : NoStopIsReached
no_stop_is_reached names p s e j h r = reached_read IsNoStop (record { each = λ m k. none_stops (program_marks names p) h m k }) r

abbrev target : Target → Option Target
target t = Some t

has_target : (i : Span) (o : Option Target) → IsNoStop (value_used i o) → (t : Target) × (o ≡ target t)
has_target i None h = absurd cc
has_target i (Some t) h = (t, refl)

-- a name is known exactly where it has a binder
abbrev Alike : Option PlainType → Option ℕ → Type 0
Alike None None = Unit {0}
Alike (Some t) (Some n) = Unit {0}
Alike None (Some n) = ⊥
Alike (Some t) None = ⊥

alike : (vs : List KnownValue) (bs : List Binder) (n : ℕ) → value_names vs ≡ bound_names bs → Alike (known_type vs n) (nearest bs n)
alike [] [] n h = tt
alike [] (b ∷ bs) n h = absurd cc
alike (v ∷ vs) [] n h = absurd cc
alike (v ∷ vs) (b ∷ bs) n h = subst (λ m. Alike (if nat_eq v.name n then Some v.has else known_type vs n) (if nat_eq m n then Some b.number else nearest bs n)) (head_same h) (go (alike vs bs n (tail_same h)) (nat_eq v.name n))
  where
    head_same : v.name ∷ value_names vs ≡ b.name ∷ bound_names bs → v.name ≡ b.name
    head_same e = cc

    tail_same : v.name ∷ value_names vs ≡ b.name ∷ bound_names bs → value_names vs ≡ bound_names bs
    tail_same e = cc

    go : Alike (known_type vs n) (nearest bs n) → (x : Bool) → Alike (if x then Some v.has else known_type vs n) (if x then Some b.number else nearest bs n)
    go k true = tt
    go k false = k

abbrev some : Primitive → Option Primitive
some p = Some p

primitive_has : (o : Option Primitive) {t : Target} → option_map Prim o ≡ target t → (p : Primitive) × (o ≡ some p)
primitive_has None k = absurd cc
primitive_has (Some p) k = (p, refl)

abbrev known : PlainType → Option PlainType
known t = Some t

known_or_primitive : (text : List ℕ) (o : Option PlainType) (b : Option ℕ) {t : Target} → Alike o b → or_primitive b text ≡ target t → ((u : PlainType) × (o ≡ known u)) ⊎ ((o ≡ None) × ((p : Primitive) × (primitive_named text ≡ some p)))
known_or_primitive text None None h k = inr (refl, primitive_has (primitive_named text) k)
known_or_primitive text (Some u) (Some b) h k = inl (u, refl)
known_or_primitive text None (Some b) h k = absurd h
known_or_primitive text (Some u) None h k = absurd h

used_mark : (a : Around) (i : Span) (n : ℕ) → EachMark IsNoStop (marks (value_use i n) a) → IsNoStop (value_used i (or_primitive (nearest a.values n) (text_of a.texts n)))
unfolding marks
used_mark a i n h = h.each _ (inl refl)

pub uses_are_known : UsesAreKnown
uses_are_known names p e i n h r =
    let x : IsReadAs IsNoStop _ e (gives (of_chan (use_chan i n))) = no_stop_is_reached names p _ e (gives (of_chan (use_chan i n))) h r in
    let t = has_target i _ (used_mark x.around i n.0 x.each_mark) in
    known_or_primitive (text_of e.names n.0) (known_type e.values n.0) (nearest x.around.values n.0) (alike e.values x.around.values n.0 x.values.same)
    (subst (λ ns. or_primitive (nearest x.around.values n.0) (text_of ns n.0) ≡ target t.0) (sym x.types_.texts) t.1)
