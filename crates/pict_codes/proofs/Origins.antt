-- A refusal comes from a line of a judgement that is asked.
use Rattle.std.proofs.Common.{◌≡◌, ℕ, List, [], ◌∷◌, Bool, true, false, ◌||◌, Option, Some, None, inl, inr, refl, sym, ◌∙◌, ap, subst, true≢false}
use Rattle.pict_syntax.specs.declared.code.Code.{Code}
use Rattle.pict_syntax.specs.declared.code.Code.TheVariants.{K1, K2, K3, K4, K5, Y1, Y2, Y3, Y4, Y5, Y6, Y7, Y8, Y9, Y10, Y11, Y12, Y13, Y14, Y15, Y16}
use Rattle.pict_syntax.specs.declared.span.Span.{Span}
use Rattle.pict_syntax.specs.Grammar.{type_span}
use Rattle.pict_syntax.specs.Trees.{TypeTree, TypeTrees, no_types, more_types, Decs}
use Rattle.pict_syntax.specs.Stops.{Stop}
use Rattle.pict_types.specs.AsMarked.{varies_as}
use Rattle.pict_types.specs.Types.{PlainBounds}
use Rattle.pict_normal.specs.Normal.{count_trees}
use Rattle.pict_normal.specs.WrittenArguments.{normal_arg, arg_stop}
use Rattle.pict_rules.specs.Shapes.{nth_bound}
use Rattle.pict_rules.specs.Environments.{Environment, context_of, no_environment}
use Rattle.pict_rules.specs.Rules.{Sort, arguments_, Result, Judgement, gives, has, is_condition, values_give, labelled_values_give, application, fields_fit, written_arguments, values_fit, labelled_values_fit, value_fits, given_fits, abstraction_gives, abstraction_against, pattern_gives, fields_give, binders_give, patterns_give, labelled_patterns_give, pattern_against, fields_against, binders_against, patterns_against, labelled_patterns_against, declaration, declarations, signatures, signature, bodies, body, process, processes, receives, Rule, give, part, Answer, ok, stuck}
use Rattle.pict_rules.specs.Clauses.{is_of_kind}
use Rattle.pict_rules.specs.Typing.{rule}
use Rattle.pict_rules.specs.Derivations.{Runs, give_, refuse_, met, failed, yes, no, part_ok, part_stuck}
use Rattle.pict_rules.specs.Reached.{Reached, whole, asked_by, Asks, this_part, past_part as asks_past_part, past_need, past_yes as asks_past_yes, past_no as asks_past_no}
use Rattle.pict_codes.specs.Codes.{IsOneOf, kind_codes, pattern_codes, type_codes, own_codes}
use Rattle.pict_codes.specs.Failing.{Fails, refused, unmet, past_met, past_yes, past_no, past_part}
use Rattle.pict_codes.specs.Laws.{TypeCodes, RefusedByLine, VariesOtherwise, VarianceCode}
use Rattle.pict_codes.proofs.Lines.{StopHas, code_has, gives_ as given, ensures, ensures_by, unless, within_bound_}
use Rattle.pict_codes.proofs.Expanding.{OfKinds, argument_stops}
use Rattle.pict_codes.proofs.Own.{own_codes_alone}

abbrev pub Property : Type 1
Property = (t : Sort) → Environment → Judgement t → Type 0

-- a line of a judgement with this property is false
pub record Origin (A : Property) (c : Code) (i : Span) : Type 0 where
  pub sort : Sort
  pub environment : Environment
  pub judgement : Judgement sort
  pub asked : A sort environment judgement
  pub fails : Fails sort (rule environment judgement) c i

-- r is what is left of the rule of a judgement with this property
record Inside (A : Property) (s : Sort) (r : Rule s) : Type 0 where
  environment : Environment
  judgement : Judgement s
  asked : A s environment judgement
  asks : (t : Sort) (d : Environment) (j : Judgement t) → Asks s r t d j → Asks s (rule environment judgement) t d j
  fails : (c : Code) (i : Span) → Fails s r c i → Fails s (rule environment judgement) c i

abbrev pub IsClosed : Property → Type 0
IsClosed A = (s t : Sort) (e d : Environment) (j : Judgement s) (k : Judgement t) → A s e j → Asks s (rule e j) t d k → A t d k

abbrev OriginIf : Property → {s : Sort} → Answer s → Type 0
OriginIf A (ok x) = Unit {0}
OriginIf A (stuck c i) = Origin A c i

walk : (A : Property) → IsClosed A → {s : Sort} {r : Rule s} {a : Answer s} → Inside A s r → Runs r a → OriginIf A a
walk A f k give_ = tt
walk A f k (refuse_ {c = c} {i = i}) = record { sort = _; environment = k.environment; judgement = k.judgement; asked = k.asked; fails = k.fails c i refused }
walk A f k (met q p) = walk A f (record { environment = k.environment; judgement = k.judgement; asked = k.asked; asks = λ t d j a. k.asks t d j (past_need q a); fails = λ c i a. k.fails c i (past_met q a) }) p
walk A f k (failed {c = c} {i = i} n) = record { sort = _; environment = k.environment; judgement = k.judgement; asked = k.asked; fails = k.fails c i (unmet n) }
walk A f k (yes q p) = walk A f (record { environment = k.environment; judgement = k.judgement; asked = k.asked; asks = λ t d j a. k.asks t d j (asks_past_yes q a); fails = λ c i a. k.fails c i (past_yes q a) }) p
walk A f k (no n p) = walk A f (record { environment = k.environment; judgement = k.judgement; asked = k.asked; asks = λ t d j a. k.asks t d j (asks_past_no n a); fails = λ c i a. k.fails c i (past_no n a) }) p
walk A f k (part_ok q p) = walk A f (record { environment = k.environment; judgement = k.judgement; asked = k.asked; asks = λ t d j a. k.asks t d j (asks_past_part q a); fails = λ c i a. k.fails c i (past_part q a) }) p
walk A f k (part_stuck {e = e} {j = j} p) = walk A f (record { environment = e; judgement = j; asked = f _ _ k.environment e k.judgement j k.asked (k.asks _ e j this_part); asks = λ t d i a. a; fails = λ c i a. a }) p

pub origin : (A : Property) → IsClosed A → {s : Sort} (e : Environment) (j : Judgement s) (c : Code) (i : Span) → A s e j → Runs (rule e j) (stuck c i) → Origin A c i
origin A f e j c i a p = walk A f (record { environment = e; judgement = j; asked = a; asks = λ t d k x. x; fails = λ d k x. x }) p

-- of a program
pub refused_by_line : RefusedByLine
refused_by_line names p c i h =
    let o = origin (λ t e j. Reached names p t e j) (λ s t e d j k r a. asked_by r a) (no_environment names) (declarations p) c i whole h in
    record { sort = o.sort; environment = o.environment; judgement = o.judgement; reached = o.asked; fails = o.fails }

-- codes among others
abbrev AllIn : List Code → List Code → Type 0
AllIn [] ds = Unit {0}
AllIn (c ∷ cs) ds = IsOneOf ds c × AllIn cs ds

included : (cs ds : List Code) (c : Code) → AllIn cs ds → IsOneOf cs c → IsOneOf ds c
included [] ds c h k = absurd k
included (d ∷ cs) ds c h (inl e) = subst (IsOneOf ds) (sym e) h.0
included (d ∷ cs) ds c h (inr k) = included cs ds c h.1 k

t_k1 : IsOneOf type_codes K1
t_k1 = inl refl

t_k2 : IsOneOf type_codes K2
t_k2 = inr (inl refl)

t_k3 : IsOneOf type_codes K3
t_k3 = inr (inr (inl refl))

t_k4 : IsOneOf type_codes K4
t_k4 = inr (inr (inr (inl refl)))

t_k5 : IsOneOf type_codes K5
t_k5 = inr (inr (inr (inr (inl refl))))

t_y1 : IsOneOf type_codes Y1
t_y1 = inr (inr (inr (inr (inr (inl refl)))))

t_y2 : IsOneOf type_codes Y2
t_y2 = inr (inr (inr (inr (inr (inr (inl refl))))))

t_y3 : IsOneOf type_codes Y3
t_y3 = inr (inr (inr (inr (inr (inr (inr (inl refl)))))))

t_y4 : IsOneOf type_codes Y4
t_y4 = inr (inr (inr (inr (inr (inr (inr (inr (inl refl))))))))

t_y5 : IsOneOf type_codes Y5
t_y5 = inr (inr (inr (inr (inr (inr (inr (inr (inr (inl refl)))))))))

t_y6 : IsOneOf type_codes Y6
t_y6 = inr (inr (inr (inr (inr (inr (inr (inr (inr (inr (inl refl))))))))))

t_y7 : IsOneOf type_codes Y7
t_y7 = inr (inr (inr (inr (inr (inr (inr (inr (inr (inr (inr (inl refl)))))))))))

t_y8 : IsOneOf type_codes Y8
t_y8 = inr (inr (inr (inr (inr (inr (inr (inr (inr (inr (inr (inr (inl refl))))))))))))

t_y9 : IsOneOf type_codes Y9
t_y9 = inr (inr (inr (inr (inr (inr (inr (inr (inr (inr (inr (inr (inr (inl refl)))))))))))))

t_y10 : IsOneOf type_codes Y10
t_y10 = inr (inr (inr (inr (inr (inr (inr (inr (inr (inr (inr (inr (inr (inr (inl refl))))))))))))))

t_y11 : IsOneOf type_codes Y11
t_y11 = inr (inr (inr (inr (inr (inr (inr (inr (inr (inr (inr (inr (inr (inr (inr (inl refl)))))))))))))))

t_y12 : IsOneOf type_codes Y12
t_y12 = inr (inr (inr (inr (inr (inr (inr (inr (inr (inr (inr (inr (inr (inr (inr (inr (inl refl))))))))))))))))

t_y13 : IsOneOf type_codes Y13
t_y13 = inr (inr (inr (inr (inr (inr (inr (inr (inr (inr (inr (inr (inr (inr (inr (inr (inr (inl refl)))))))))))))))))

t_y14 : IsOneOf type_codes Y14
t_y14 = inr (inr (inr (inr (inr (inr (inr (inr (inr (inr (inr (inr (inr (inr (inr (inr (inr (inr (inl refl))))))))))))))))))

t_y15 : IsOneOf type_codes Y15
t_y15 = inr (inr (inr (inr (inr (inr (inr (inr (inr (inr (inr (inr (inr (inr (inr (inr (inr (inr (inr (inl refl)))))))))))))))))))

t_y16 : IsOneOf type_codes Y16
t_y16 = inr (inr (inr (inr (inr (inr (inr (inr (inr (inr (inr (inr (inr (inr (inr (inr (inr (inr (inr (inr (inl refl))))))))))))))))))))

p_k1 : IsOneOf pattern_codes K1
p_k1 = inl refl

p_k2 : IsOneOf pattern_codes K2
p_k2 = inr (inl refl)

p_k3 : IsOneOf pattern_codes K3
p_k3 = inr (inr (inl refl))

p_k4 : IsOneOf pattern_codes K4
p_k4 = inr (inr (inr (inl refl)))

p_y4 : IsOneOf pattern_codes Y4
p_y4 = inr (inr (inr (inr (inl refl))))

p_y5 : IsOneOf pattern_codes Y5
p_y5 = inr (inr (inr (inr (inr (inl refl)))))

p_y6 : IsOneOf pattern_codes Y6
p_y6 = inr (inr (inr (inr (inr (inr (inl refl))))))

p_y7 : IsOneOf pattern_codes Y7
p_y7 = inr (inr (inr (inr (inr (inr (inr (inl refl)))))))

p_y13 : IsOneOf pattern_codes Y13
p_y13 = inr (inr (inr (inr (inr (inr (inr (inr (inl refl))))))))

p_y16 : IsOneOf pattern_codes Y16
p_y16 = inr (inr (inr (inr (inr (inr (inr (inr (inr (inl refl)))))))))

type_codes_of : {s : Sort} (j : Judgement s) → AllIn (own_codes j) type_codes
type_codes_of (gives v) = (t_k1, (t_k2, (t_k3, (t_k4, (t_y7, (t_y11, (t_y13, (t_y14, tt))))))))
type_codes_of (has v t) = (t_k4, (t_y4, (t_y13, tt)))
type_codes_of (is_condition v) = (t_y12, tt)
type_codes_of (values_give vs) = tt
type_codes_of (labelled_values_give ls) = tt
type_codes_of (application s f vs t) = (t_k4, (t_y4, (t_y8, tt)))
type_codes_of (fields_fit s f bs ps ls g) = (t_k4, (t_y5, (t_y6, (t_y9, (t_y10, tt)))))
type_codes_of (written_arguments s ts bs) = (t_k1, (t_k2, (t_k3, (t_k4, (t_k5, (t_y9, tt))))))
type_codes_of (values_fit s vs ps g) = tt
type_codes_of (labelled_values_fit s ls ms g) = tt
type_codes_of (value_fits s v t g) = (t_k4, tt)
type_codes_of (given_fits s v t u g) = (t_k4, (t_y4, (t_y10, tt)))
type_codes_of (abstraction_gives f) = (t_k1, (t_k2, (t_k3, (t_k4, (t_y14, tt)))))
type_codes_of (abstraction_against f t) = (t_k1, (t_k2, (t_k3, (t_k4, (t_y4, (t_y8, tt))))))
type_codes_of (pattern_gives p) = (t_k1, (t_k2, (t_k3, (t_k4, (t_y7, (t_y13, tt))))))
type_codes_of (fields_give f) = tt
type_codes_of (binders_give bs) = (t_k1, (t_k2, (t_k3, (t_k4, tt))))
type_codes_of (patterns_give ps) = tt
type_codes_of (labelled_patterns_give ls) = tt
type_codes_of (pattern_against p t) = (t_k1, (t_k2, (t_k3, (t_k4, (t_y4, (t_y5, (t_y13, tt)))))))
type_codes_of (fields_against s f bs ps ls) = (t_y5, tt)
type_codes_of (binders_against bs rs) = (t_k1, (t_k2, (t_k3, (t_k4, (t_y16, tt)))))
type_codes_of (patterns_against ps ts) = tt
type_codes_of (labelled_patterns_against ls ms) = (t_y6, tt)
type_codes_of (declaration d) = (t_k1, (t_k2, (t_k3, (t_k4, (t_y15, tt)))))
type_codes_of (declarations ds) = tt
type_codes_of (signatures ds) = tt
type_codes_of (signature x f) = (t_k1, (t_k2, (t_k3, (t_k4, (t_y7, tt)))))
type_codes_of (bodies ss) = tt
type_codes_of (body b) = tt
type_codes_of (process p) = (t_y1, (t_y2, tt))
type_codes_of (processes ps) = tt
type_codes_of (receives c f) = (t_y1, (t_y3, tt))

pub type_codes_alone : TypeCodes
type_codes_alone s e j c i h =
    let o = origin (λ t e j. Unit {0}) (λ s t e d j k a b. tt) e j c i tt h in
    included (own_codes o.judgement) type_codes c (type_codes_of o.judgement) (own_codes_alone o.sort o.environment o.judgement c i o.fails)

-- of patterns
abbrev pub IsPattern : {s : Sort} → Judgement s → Type 0
IsPattern (pattern_gives p) = Unit {0}
IsPattern (fields_give f) = Unit {0}
IsPattern (binders_give bs) = Unit {0}
IsPattern (patterns_give ps) = Unit {0}
IsPattern (labelled_patterns_give ls) = Unit {0}
IsPattern (pattern_against p t) = Unit {0}
IsPattern (fields_against s f bs ps ls) = Unit {0}
IsPattern (binders_against bs rs) = Unit {0}
IsPattern (patterns_against ps ts) = Unit {0}
IsPattern (labelled_patterns_against ls ms) = Unit {0}
IsPattern _ = ⊥

pattern_codes_of : {s : Sort} (j : Judgement s) → IsPattern j → AllIn (own_codes j) pattern_codes
pattern_codes_of (gives v) h = absurd h
pattern_codes_of (has v t) h = absurd h
pattern_codes_of (is_condition v) h = absurd h
pattern_codes_of (values_give vs) h = absurd h
pattern_codes_of (labelled_values_give ls) h = absurd h
pattern_codes_of (application s f vs t) h = absurd h
pattern_codes_of (fields_fit s f bs ps ls g) h = absurd h
pattern_codes_of (written_arguments s ts bs) h = absurd h
pattern_codes_of (values_fit s vs ps g) h = absurd h
pattern_codes_of (labelled_values_fit s ls ms g) h = absurd h
pattern_codes_of (value_fits s v t g) h = absurd h
pattern_codes_of (given_fits s v t u g) h = absurd h
pattern_codes_of (abstraction_gives f) h = absurd h
pattern_codes_of (abstraction_against f t) h = absurd h
pattern_codes_of (pattern_gives p) h = (p_k1, (p_k2, (p_k3, (p_k4, (p_y7, (p_y13, tt))))))
pattern_codes_of (fields_give f) h = tt
pattern_codes_of (binders_give bs) h = (p_k1, (p_k2, (p_k3, (p_k4, tt))))
pattern_codes_of (patterns_give ps) h = tt
pattern_codes_of (labelled_patterns_give ls) h = tt
pattern_codes_of (pattern_against p t) h = (p_k1, (p_k2, (p_k3, (p_k4, (p_y4, (p_y5, (p_y13, tt)))))))
pattern_codes_of (fields_against s f bs ps ls) h = (p_y5, tt)
pattern_codes_of (binders_against bs rs) h = (p_k1, (p_k2, (p_k3, (p_k4, (p_y16, tt)))))
pattern_codes_of (patterns_against ps ts) h = tt
pattern_codes_of (labelled_patterns_against ls ms) h = (p_y6, tt)
pattern_codes_of (declaration d) h = absurd h
pattern_codes_of (declarations ds) h = absurd h
pattern_codes_of (signatures ds) h = absurd h
pattern_codes_of (signature x f) h = absurd h
pattern_codes_of (bodies ss) h = absurd h
pattern_codes_of (body b) h = absurd h
pattern_codes_of (process p) h = absurd h
pattern_codes_of (processes ps) h = absurd h
pattern_codes_of (receives c f) h = absurd h

pub pattern_codes_alone : IsClosed (λ t e j. IsPattern j) → (s : Sort) (e : Environment) (j : Judgement s) (c : Code) (i : Span) → IsPattern j → Runs (rule e j) (stuck c i) → IsOneOf pattern_codes c
pattern_codes_alone f s e j c i a h =
    let o = origin (λ t e j. IsPattern j) f e j c i a h in
    included (own_codes o.judgement) pattern_codes c (pattern_codes_of o.judgement o.asked) (own_codes_alone o.sort o.environment o.judgement c i o.fails)

-- of variance
abbrev is_k5 : Code → Bool
is_k5 K5 = true
is_k5 _ = false

abbrev has_k5 : List Code → Bool
has_k5 [] = false
has_k5 (c ∷ cs) = is_k5 c || has_k5 cs

k5_in : (cs : List Code) → IsOneOf cs K5 → has_k5 cs ≡ true
k5_in [] h = absurd h
k5_in (c ∷ cs) (inl e) = ap (λ d. is_k5 d || has_k5 cs) (sym e)
k5_in (c ∷ cs) (inr h) = or_true (is_k5 c) (k5_in cs h)
  where
    or_true : (a : Bool) {b : Bool} → b ≡ true → (a || b) ≡ true
    or_true true e = refl
    or_true false e = e

lost : {P : Type 0} {s : Sort} {i : Span} (e : Environment) (j : Judgement s) → Fails s (rule e j) K5 i → has_k5 (own_codes j) ≡ false → P
lost {i = i} e j h k = absurd (true≢false (sym (k5_in (own_codes j) (own_codes_alone _ e j K5 i h)) ∙ k))

-- what is behind a part
abbrev PartOf : {s : Sort} → Rule s → Code → Span → Type 0
PartOf {s = s} (part {r = t} e j k) c i = (x : Result t) × Runs (rule e j) (ok x) × Fails s (k x) c i
PartOf _ c i = Unit {0}

behind : {s : Sort} {r : Rule s} {c : Code} {i : Span} → Fails s r c i → PartOf r c i
behind refused = tt
behind (unmet f) = tt
behind (past_met q h) = tt
behind (past_yes q h) = tt
behind (past_no f h) = tt
behind (past_part {x = x} q h) = (x, q, h)

-- a refusal with K5 stands at this argument, which varies otherwise
abbrev Varies : Environment → TypeTrees → TypeTree → PlainBounds → Code → Span → Type 0
Varies e ts t bs c i = c ≡ K5 → (i ≡ type_span t) × (varies_as (context_of e) (normal_arg e.names e.context t) (nth_bound (count_trees ts) bs) ≡ false)

other : {c : Code} {P : Type 0} → is_k5 c ≡ false → c ≡ K5 → P
other h e = absurd (true≢false (sym (ap is_k5 e) ∙ h))

of_kinds_other : (c : Code) → IsOneOf kind_codes c → is_k5 c ≡ false
of_kinds_other c (inl e) = ap is_k5 e
of_kinds_other c (inr (inl e)) = ap is_k5 e
of_kinds_other c (inr (inr (inl e))) = ap is_k5 e
of_kinds_other c (inr (inr (inr (inl e)))) = ap is_k5 e
of_kinds_other c (inr (inr (inr (inr e)))) = absurd e

stops_other : (e : Environment) (ts : TypeTrees) (t : TypeTree) (bs : PlainBounds) (o : Option Stop) → StopHas OfKinds o → StopHas (Varies e ts t bs) o
stops_other e ts t bs None h = tt
stops_other e ts t bs (Some x) h = λ k. other (of_kinds_other x.0 h) k

argument_varies : {names : List (List ℕ)} {p : Decs} {i : Span} (e : Environment) (s : Span) (ts : TypeTrees) (t : TypeTree) (bs : PlainBounds) → Reached names p arguments_ e (written_arguments s (more_types ts t) bs) → Fails arguments_ (rule e (written_arguments s (more_types ts t) bs)) K5 i → VariesOtherwise names p i
argument_varies {names = names} {p = p} {i = i} e s ts t bs a h =
    let a_ = normal_arg e.names e.context t in
    let b = nth_bound (count_trees ts) bs in
    let x = behind h in
    let v : (i ≡ type_span t) × (varies_as (context_of e) a_ b ≡ false) = code_has {P = Varies e ts t bs}
    (unless (arg_stop e.names e.context t) (stops_other e ts t bs (arg_stop e.names e.context t) (argument_stops e.names e.context t))
    (ensures (is_of_kind a_ b) K1 (type_span t) (other refl) (ensures_by (varies_as (context_of e) a_ b) K5 (type_span t) (λ f k. (refl, f)) (within_bound_ e s b x.0 a_ Y9 (type_span t) (other refl) (other refl) given)))) x.2 refl in
    record { environment = e; node = s; before = ts; argument = t; bounds_ = bs; found = x.0; reached = a; right_ = x.1; place = v.0; otherwise_ = v.1 }

abbrev IsGiven : {s : Sort} → Rule s → Type 0
IsGiven (give x) = ⊥
IsGiven _ = Unit {0}

none_given : {s : Sort} {r : Rule s} {c : Code} {i : Span} → Fails s r c i → IsGiven r
none_given refused = tt
none_given (unmet f) = tt
none_given (past_met q h) = tt
none_given (past_yes q h) = tt
none_given (past_no f h) = tt
none_given (past_part q h) = tt

varies_at : {names : List (List ℕ)} {p : Decs} {s : Sort} {i : Span} (j : Judgement s) (e : Environment) → Reached names p s e j → Fails s (rule e j) K5 i → VariesOtherwise names p i
varies_at (gives v) e a h = lost e (gives v) h refl
varies_at (has v t) e a h = lost e (has v t) h refl
varies_at (is_condition v) e a h = lost e (is_condition v) h refl
varies_at (values_give vs) e a h = lost e (values_give vs) h refl
varies_at (labelled_values_give ls) e a h = lost e (labelled_values_give ls) h refl
varies_at (application s f vs t) e a h = lost e (application s f vs t) h refl
varies_at (fields_fit s f bs ps ls g) e a h = lost e (fields_fit s f bs ps ls g) h refl
varies_at (values_fit s vs ps g) e a h = lost e (values_fit s vs ps g) h refl
varies_at (labelled_values_fit s ls ms g) e a h = lost e (labelled_values_fit s ls ms g) h refl
varies_at (value_fits s v t g) e a h = lost e (value_fits s v t g) h refl
varies_at (given_fits s v t u g) e a h = lost e (given_fits s v t u g) h refl
varies_at (abstraction_gives f) e a h = lost e (abstraction_gives f) h refl
varies_at (abstraction_against f t) e a h = lost e (abstraction_against f t) h refl
varies_at (pattern_gives p) e a h = lost e (pattern_gives p) h refl
varies_at (fields_give f) e a h = lost e (fields_give f) h refl
varies_at (binders_give bs) e a h = lost e (binders_give bs) h refl
varies_at (patterns_give ps) e a h = lost e (patterns_give ps) h refl
varies_at (labelled_patterns_give ls) e a h = lost e (labelled_patterns_give ls) h refl
varies_at (pattern_against p t) e a h = lost e (pattern_against p t) h refl
varies_at (fields_against s f bs ps ls) e a h = lost e (fields_against s f bs ps ls) h refl
varies_at (binders_against bs rs) e a h = lost e (binders_against bs rs) h refl
varies_at (patterns_against ps ts) e a h = lost e (patterns_against ps ts) h refl
varies_at (labelled_patterns_against ls ms) e a h = lost e (labelled_patterns_against ls ms) h refl
varies_at (declaration d) e a h = lost e (declaration d) h refl
varies_at (declarations ds) e a h = lost e (declarations ds) h refl
varies_at (signatures ds) e a h = lost e (signatures ds) h refl
varies_at (signature x f) e a h = lost e (signature x f) h refl
varies_at (bodies ss) e a h = lost e (bodies ss) h refl
varies_at (body b) e a h = lost e (body b) h refl
varies_at (process p) e a h = lost e (process p) h refl
varies_at (processes ps) e a h = lost e (processes ps) h refl
varies_at (receives c f) e a h = lost e (receives c f) h refl
varies_at (written_arguments s no_types bs) e a h = absurd (none_given h)
varies_at (written_arguments s (more_types ts t) bs) e a h = argument_varies e s ts t bs a h

pub variance_code : VarianceCode
variance_code names p i h = let o = refused_by_line names p K5 i h in varies_at o.judgement o.environment o.reached o.fails
