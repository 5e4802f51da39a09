-- The codes of the phases before a run.
use Rattle.std.proofs.Common.{◌≡◌, ℕ, Bool, true, false, if◌then◌else◌, not, List, [], ◌∷◌, ◌++◌, length, Option, Some, None, inl, inr, refl, sym, ap, subst, nat_le}
use Rattle.pict_syntax.specs.declared.limits.TheConstants.{SOURCE_LIMIT}
use Rattle.pict_syntax.specs.declared.code.Code.{Code}
use Rattle.pict_syntax.specs.declared.code.Code.TheVariants.{B1, L1, L2, L3, L4, L5, P1, P2, I1, I2, I3, I4, C1}
use Rattle.pict_syntax.specs.declared.source.Source.{Source}
use Rattle.pict_syntax.specs.declared.span.Span.{Span}
use Rattle.pict_syntax.specs.declared.token.Token.{Token}
use Rattle.pict_syntax.specs.Cuts.{Stops}
use Rattle.pict_syntax.specs.declared.tree.Import.{Import}
use Rattle.pict_syntax.specs.Trees.{Decs}
use Rattle.pict_syntax.specs.Stops.{Stop}
use Rattle.pict_gather.specs.Phases.{Phase, accepts, refuses}
use Rattle.pict_gather.specs.Reading.{Lexes, HasVerdict, Reads}
use Rattle.pict_gather.specs.Fetching.{Fetch, MayGive}
use Rattle.pict_gather.specs.Sources.{is_among, is_name_of, visited}
use Rattle.pict_gather.specs.Gathered.{Gathered, EarlyEnd, refused, failed, is_import_name, settled, Visits, too_long, unread, cut_off, whole, Along, none, next, stop, Leads, at_once, absent, unfetched, visit}
use Rattle.pict_gather.specs.Reached.{Reached, Absent, Gathering, Gathers, bare, unread_prelude, behind_prelude, Reaches, not_there, unfetched_file, there}
use Rattle.pict_scope.specs.Scopes.{scope_stop}
use Rattle.pict_rules.specs.Environments.{no_environment}
use Rattle.pict_rules.specs.Rules.{environment_, declarations}
use Rattle.pict_front.specs.Front.{Front, Accepted, stopped_by, Checks, Translates, Judges, with_texts}
use Rattle.pict_codes.specs.Codes.{IsOneOf, scope_codes, type_codes}
use Rattle.pict_refused.specs.Codes.{gathering_codes, front_codes}
use Rattle.pict_refused.specs.Laws.{GatheringCodes, FrontCodes}
use Rattle.pict_codes.proofs.Origins.{type_codes_alone}
use Rattle.pict_codes.proofs.Scoping.{scope_codes_alone}

g_b1 : IsOneOf gathering_codes B1
g_b1 = inl refl

g_l1 : IsOneOf gathering_codes L1
g_l1 = inr (inl refl)

g_l2 : IsOneOf gathering_codes L2
g_l2 = inr (inr (inl refl))

g_l3 : IsOneOf gathering_codes L3
g_l3 = inr (inr (inr (inl refl)))

g_l4 : IsOneOf gathering_codes L4
g_l4 = inr (inr (inr (inr (inl refl))))

g_l5 : IsOneOf gathering_codes L5
g_l5 = inr (inr (inr (inr (inr (inl refl)))))

g_p1 : IsOneOf gathering_codes P1
g_p1 = inr (inr (inr (inr (inr (inr (inl refl))))))

g_p2 : IsOneOf gathering_codes P2
g_p2 = inr (inr (inr (inr (inr (inr (inr (inl refl)))))))

g_i1 : IsOneOf gathering_codes I1
g_i1 = inr (inr (inr (inr (inr (inr (inr (inr (inl refl))))))))

g_i2 : IsOneOf gathering_codes I2
g_i2 = inr (inr (inr (inr (inr (inr (inr (inr (inr (inl refl)))))))))

g_i3 : IsOneOf gathering_codes I3
g_i3 = inr (inr (inr (inr (inr (inr (inr (inr (inr (inr (inl refl))))))))))

g_i4 : IsOneOf gathering_codes I4
g_i4 = inr (inr (inr (inr (inr (inr (inr (inr (inr (inr (inr (inl refl)))))))))))

abbrev OfGathering : Code → Type 0
OfGathering c = IsOneOf gathering_codes c

-- an end that is a refusal has such a code
abbrev EndHas : Phase EarlyEnd Gathered → Type 0
EndHas (accepts g) = Unit {0}
EndHas (refuses (refused s c i)) = OfGathering c
EndHas (refuses (failed s)) = Unit {0}

-- tokens and grammar
stops_code : (c : Code) (rest : List ℕ) (at : ℕ) → Stops c rest at → OfGathering c
stops_code L1 rest at h = g_l1
stops_code L2 rest at h = g_l2
stops_code L3 rest at h = g_l3
stops_code L4 rest at h = g_l4
stops_code L5 rest at h = g_l5
stops_code _ rest at h = absurd h

lexed_code : (number : ℕ) (text : List ℕ) (p : Stop) → Lexes number text (refuses p) → OfGathering p.0
lexed_code number text (c, i) h = stops_code c _ _ h.stops

verdict_code : (ts : List Token) (end : Span) (p : Stop) → HasVerdict ts end (refuses p) → OfGathering p.0
verdict_code ts end (c, i) (inl h) = subst OfGathering (sym h.0) g_p1
verdict_code ts end (c, i) (inr h) = subst OfGathering (sym h.0) g_p2

-- two answers that are refusals
abbrev refusal : {E A : Type 0} → E → Phase E A
refusal e = refuses e

abbrev answer : {E A : Type 0} → A → Phase E A
answer x = accepts x

same_refusal : {E A : Type 0} {e f : E} → refusal {A = A} e ≡ refuses f → e ≡ f
same_refusal h = cc

never_accepted : {E A : Type 0} {e : E} {x : A} → refusal {A = A} e ≡ accepts x → ⊥
never_accepted h = cc

read_code : (names : List (List ℕ)) (number : ℕ) (text : List ℕ) (p : Stop) → Reads names number text (refuses p) → OfGathering p.0
read_code names number text p (refuses e, l, f) = subst (λ q. OfGathering q.0) (sym (same_refusal f)) (lexed_code number text e l)
read_code names number text p (accepts pieces, l, (refuses e, v, f)) = subst (λ q. OfGathering q.0) (sym (same_refusal f)) (verdict_code _ _ e v)
read_code names number text p (accepts pieces, l, (accepts q, v, f)) = absurd (never_accepted f)

-- visits
abbrev MayEnd : Option (Phase EarlyEnd Gathered) → Type 0
MayEnd None = Unit {0}
MayEnd (Some a) = EndHas a

either_end : (b : Bool) (x y : Option (Phase EarlyEnd Gathered)) → MayEnd x → MayEnd y → MayEnd (if b then x else y)
either_end true x y h k = h
either_end false x y h k = k

settled_end : (g : Gathered) (x : Import) → MayEnd (settled g x)
settled_end g x =
    either_end (not (is_import_name x.name)) _ _ g_i4
    (either_end (is_among x.name g.ended) (Some (accepts g)) _ tt
    (either_end (is_name_of x.name (visited g.sources)) _ _ g_i2
    (either_end (nat_le SOURCE_LIMIT (length (visited g.sources))) _ None g_i3 tt)))

abbrev some : Phase EarlyEnd Gathered → Option (Phase EarlyEnd Gathered)
some a = Some a

settled_is : {o : Option (Phase EarlyEnd Gathered)} {a : Phase EarlyEnd Gathered} → o ≡ some a → MayEnd o → EndHas a
settled_is h k = subst MayEnd h k

mutual
  visit_end : {Gives : List ℕ → Fetch → Type 0} {g : Gathered} {name t : List ℕ} {a : Phase EarlyEnd Gathered} → Visits Gives g name t a → EndHas a
  visit_end (too_long h) = g_b1
  visit_end (unread {code = c} {span = i} h r) = read_code _ _ _ (c, i) r
  visit_end (cut_off h r a) = along_end a
  visit_end (whole h r a) = tt

  along_end : {Gives : List ℕ → Fetch → Type 0} {g : Gathered} {xs : List Import} {a : Phase EarlyEnd Gathered} → Along Gives g xs a → EndHas a
  along_end none = tt
  along_end (next l a) = along_end a
  along_end (stop l) = lead_end l

  lead_end : {Gives : List ℕ → Fetch → Type 0} {g : Gathered} {x : Import} {a : Phase EarlyEnd Gathered} → Leads Gives g x a → EndHas a
  lead_end (at_once {g = g} {x = x} {a = a} h) = settled_is h (settled_end g x)
  lead_end (absent h m) = g_i1
  lead_end (unfetched h f) = tt
  lead_end (visit h m v) = visit_end v

gathers_end : {Gives : List ℕ → Fetch → Type 0} {prelude : Option (List ℕ)} {file t : List ℕ} {a : Phase EarlyEnd Gathered} → Gathers Gives prelude file t a → EndHas a
gathers_end (bare v) = visit_end v
gathers_end (unread_prelude {code = c} {span = i} r) = read_code _ _ _ (c, i) r
gathers_end (behind_prelude r v) = visit_end v

abbrev ReachedHas : Reached → Type 0
ReachedHas Absent = Unit {0}
ReachedHas (Gathering a) = EndHas a

reached_end : {Gives : List ℕ → Fetch → Type 0} {prelude : Option (List ℕ)} {file : List ℕ} {r : Reached} → Reaches Gives prelude file r → ReachedHas r
reached_end (not_there m) = tt
reached_end (unfetched_file f) = tt
reached_end (there m g) = gathers_end g

pub gathering_codes_alone : GatheringCodes
gathering_codes_alone held prelude file sources c i h = reached_end h

-- all phases
in_front : (cs ds : List Code) (c : Code) → IsOneOf cs c → IsOneOf (cs ++ ds) c
in_front [] ds c h = absurd h
in_front (d ∷ cs) ds c (inl e) = inl e
in_front (d ∷ cs) ds c (inr h) = inr (in_front cs ds c h)

in_behind : (cs ds : List Code) (c : Code) → IsOneOf ds c → IsOneOf (cs ++ ds) c
in_behind [] ds c h = h
in_behind (d ∷ cs) ds c h = inr (in_behind cs ds c h)

abbrev OfFront : Code → Type 0
OfFront c = IsOneOf front_codes c

of_gathering : (c : Code) → OfGathering c → OfFront c
of_gathering c h = in_front gathering_codes (scope_codes ++ (type_codes ++ C1 ∷ [])) c h

of_scopes : (c : Code) → IsOneOf scope_codes c → OfFront c
of_scopes c h = in_behind gathering_codes (scope_codes ++ (type_codes ++ C1 ∷ [])) c (in_front scope_codes (type_codes ++ C1 ∷ []) c h)

of_types : (c : Code) → IsOneOf type_codes c → OfFront c
of_types c h = in_behind gathering_codes (scope_codes ++ (type_codes ++ C1 ∷ [])) c (in_behind scope_codes (type_codes ++ C1 ∷ []) c (in_front type_codes (C1 ∷ []) c h))

of_depth : OfFront C1
of_depth = in_behind gathering_codes (scope_codes ++ (type_codes ++ C1 ∷ [])) C1 (in_behind scope_codes (type_codes ++ C1 ∷ []) C1 (in_behind type_codes (C1 ∷ []) C1 (inl refl)))

abbrev stop_some : Stop → Option Stop
stop_some x = Some x

scoped_code : (names : List (List ℕ)) (p : Decs) (q : Stop) (o : Option Stop) → scope_stop names p ≡ o → refusal q ≡ stopped_by o → OfFront q.0
scoped_code names p q None h k = absurd (never_accepted k)
scoped_code names p q (Some x) h k = subst (λ y. OfFront y.0) (sym (same_refusal k)) (of_scopes x.0 (scope_codes_alone names p x.0 x.1 h))

checked_code : (names : List (List ℕ)) (p : Decs) (q : Stop) → Checks names p (refuses q) → OfFront q.0
checked_code names p (c, i) h = of_types c (type_codes_alone environment_ (no_environment names) (declarations p) c i h)

translated_code : (names : List (List ℕ)) (p : Decs) (q : Stop) → Translates names p (refuses q) → OfFront q.0
translated_code names p q (inl h) = subst (λ y. OfFront y.0) (sym (same_refusal h.1)) of_depth
translated_code names p q (inr h) = absurd (never_accepted h.1)

judged_code : (names : List (List ℕ)) (p : Decs) (q : Stop) → Judges names p (refuses q) → OfFront q.0
judged_code names p q (refuses e, s, f) = subst (λ y. OfFront y.0) (sym (same_refusal f)) (scoped_code names p e (scope_stop names p) refl s)
judged_code names p q (accepts u, s, (refuses e, t, f)) = subst (λ y. OfFront y.0) (sym (same_refusal f)) (checked_code names p e t)
judged_code names p q (accepts u, s, (accepts v, t, h)) = translated_code names p q h

abbrev code_of_end : EarlyEnd → Option Code
code_of_end (refused s c i) = Some c
code_of_end (failed s) = None

abbrev some_code : Code → Option Code
some_code c = Some c

same_code : {sources texts : List Source} {c d : Code} {i j : Span} → refused sources c i ≡ refused texts d j → c ≡ d
same_code h = let e : some_code _ ≡ some_code _ = ap code_of_end h in cc

texts_code : (g : Gathered) (said : Phase Stop Front) (sources : List Source) (c : Code) (i : Span) → Judges g.names g.decs said → refusal {A = Accepted} (refused sources c i) ≡ with_texts g.sources said → OfFront c
texts_code g (accepts f) sources c i h k = absurd (never_accepted k)
texts_code g (refuses (d, j)) sources c i h k = subst OfFront (sym (same_code (same_refusal k))) (judged_code g.names g.decs (d, j) h)

pub front_codes_alone : FrontCodes
front_codes_alone held prelude file sources c i (refuses e, r, f) = ended e r (same_refusal f)
  where
    ended : (e : EarlyEnd) → Reaches (MayGive held) prelude file (Gathering (refuses e)) → refused sources c i ≡ e → OfFront c
    ended (refused s d j) r k = subst OfFront (sym (same_code k)) (of_gathering d (reached_end r))
    ended (failed s) r k = absurd (let q : some_code c ≡ None = ap code_of_end k in cc)
front_codes_alone held prelude file sources c i (accepts g, r, (said, h, k)) = texts_code g said sources c i h k
