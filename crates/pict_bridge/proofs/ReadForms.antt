-- Patterns of readers: what stands after a pattern stands where the pattern is read.
use Rattle.std.proofs.Common.{◌≡◌, ◌≤◌, ℕ, suc, ◌+◌, Bool, List, [], ◌∷◌, ◌++◌, map, length, Option, Some, None, refl, sym, ◌∙◌, ap, subst, arith, length-append}
use Rattle.std.specs.Prelude.{slice_get}
use Rattle.std.proofs.lemmas.List.{length-map}
use Rattle.pict_syntax.specs.declared.span.Span.{Span}
use Rattle.pict_syntax.specs.Trees.{RType, TypeBinders, Pat, FieldPats, field_pats, Pats, LabelledPats, Val, Proc, process_abs, function_abs}
use Rattle.pict_types.specs.Types.{Capability, Read, Write, PlainType, Chan, Fields, PlainTypes, no_type, types, PlainLabels, TypeContext}
use Rattle.pict_types.specs.Renaming.{rename, moved}
use Rattle.pict_types.specs.Kinds.{Kind, IsWellFormed, AreWellFormed}
use Rattle.pict_sub.specs.Subtyping.{CarriesDown, IsSubtype, through, downward}
use Rattle.pict_sub.proofs.Renamed.{weakened}
use Rattle.pict_core.specs.Term as core
use Rattle.pict_core.specs.Closed.{binds}
use Rattle.pict_normal.specs.Normal.{and_type}
use Rattle.pict_rules.specs.Environments.{Environment, Extension, KnownType, context_of, known_type, extended, opened, bounds_of, within, shifted_by}
use Rattle.pict_rules.specs.Clauses.{with_own}
use Rattle.pict_rules.specs.Regular.{IsTypeIn}
use Rattle.pict_rules.specs.SameNames.{value_names}
use Rattle.pict_rules.proofs.BoundIds.{value_ids, field_value_ids}
use Rattle.pict_rules.proofs.Names.{id_names}
use Rattle.pict_rules.proofs.RegularFields.{own_kinds}
use Rattle.pict_translation.specs.Placed as placed
use Rattle.pict_translation.specs.Placed.{Placed, input}
use Rattle.pict_translation.specs.Patterns.{pat_core, pat_names, function_pat, names_before, names_after}
use Rattle.pict_translation.specs.Simple.{Around, binding, pat_bound, function_bound, answer_channel}
use Rattle.pict_translation.specs.Translation.{sending, proc_core}
use Rattle.pict_translation.proofs.PatternLemmas.{pattern_agrees, function_agrees}
use Rattle.pict_typing.specs.Erasing.{erased, erased_capability}
use Rattle.pict_typing.specs.Worlds as worlds
use Rattle.pict_typing.specs.Worlds.{World, IsType, shifted}
use Rattle.pict_typing.specs.Values.{HasType, variable_has, raised}
use Rattle.pict_typing.specs.Opening.{Opens}
use Rattle.pict_typing.specs.Processes as typed
use Rattle.pict_typing.specs.Processes.{IsTyped}
use Rattle.pict_bridge.specs.Embedding.{erased_context, Embeds}
use Rattle.pict_bridge.proofs.Erased.{erased_renamed, below_erased, erased_type}
use Rattle.pict_bridge.proofs.Growing.{type_grown}
use Rattle.pict_bridge.specs.Opening.{meaning, named, AddsWhatIsOpened}
use Rattle.pict_bridge.proofs.Joining.{type_after}
use Rattle.pict_bridge.proofs.Opened.{opens_embeds}
use Rattle.pict_bridge.proofs.FieldsOpen.{slice_second}
use Rattle.pict_bridge.proofs.PatternParts.{FieldsAdd, length_named}
use Rattle.pict_bridge.proofs.PatternSteps.{OpensAgainst}
use Rattle.pict_bridge.specs.Standing.{Stands}
use Rattle.pict_bridge.specs.Realising.{around, Realises}
use Rattle.pict_bridge.proofs.Standing.{not_longer}
use Rattle.pict_bridge.proofs.NamesOnce.{times, unknown_times, same_times, function_times}
use Rattle.pict_bridge.proofs.Binding.{slot_times, named_times, slots_both, Binds, names_bind, function_names_bind, answer_is}
use Rattle.pict_bridge.proofs.Realised.{type_means, opened_grows, realises_after}
use Rattle.pict_bridge.proofs.Judged.{Values, SentBy, ProcessStands, ReadsAt, Follows, RestStands}
use Rattle.pict_rules.proofs.OwnBinders.{opened_count}

-- ---- what follows a pattern

-- more variables after those of w, and as many names
count_inside : (w : World) (n : ℕ) (ts : List PlainType) → length (map (shifted n) w.variables ++ ts) ≡ length w.variables + length ts
count_inside w n ts = length-append (map (shifted n) w.variables) ts ∙ ap (λ k. k + length ts) (length-map w.variables (shifted n))

-- what follows what is opened
pub opened_follows : (e : Environment) (x : Extension) (f : ℕ → ℕ) (w : World) (slots : List (Option ℕ)) (opening : TypeContext → ℕ → List PlainType → Type 0) (p : AddsWhatIsOpened e x f slots opening) → Embeds (moved p.more 0) w.type_variables p.context → Follows e f w (extended e x) p.placed.later (worlds.opened p.context p.more p.types_ w)
opened_follows e x f w slots opening p i = record { more = p.more; count = opened x; grows = opened_grows w p.context p.more p.types_ i; length_ = opened_count x.binders e.context; extends_ = p.placed.extends_ }

-- x?p = rest, where the rest stands after the pattern
pub pattern_reads : (e : Environment) (p : Pat) (t : PlainType) (x : Extension) (rest : Around → Placed) → OpensAgainst e p t x → ((m : ℕ) → times m (id_names (value_ids p)) ≤ 1) → value_names x.values ≡ id_names (value_ids p) → IsTypeIn e t
    → (vs : Values) (f : ℕ → ℕ) (w : World) → Realises e vs f w → RestStands e f w (extended e x) rest → (y : core.Val) (b : Bool) → HasType w y (Chan Read (meaning f t)) → Stands w (input y b (pat_core e.names p) (λ xs. rest (pat_bound p xs (around e vs))))
pattern_reads e p t x rest o once names q vs f w r k y b h =
    typed.input (meaning f t) (type_means t r q) h (subst (λ ns. Opens ns w.type_variables (pat_core e.names p) (meaning f t) a.context a.more a.types_) (sym r.world_names) a.opens)
    (subst (λ n. IsTyped inside (rest (pat_bound p (placed.variables level n) (around e vs)) (level + n))) (pattern_agrees e.names p) body)
  where
    ns : List ℕ
    ns = pat_names e.names p

    level : ℕ
    level = length w.variables

    a : AddsWhatIsOpened e x f (named ns) (Opens e.names w.type_variables (pat_core e.names p) (meaning f t))
    a = o w.type_variables f r.embeds

    inside : World
    inside = worlds.opened a.context a.more a.types_ w

    us : Values
    us = binding ns (placed.variables level (length ns)) vs

    only : (m : ℕ) → known_type x.values m ≡ None → slot_times m (named ns) ≡ 0
    only m e2 = named_times m ns ∙ same_times e.names p m ∙ ap (times m) (sym names) ∙ unknown_times x.values m e2

    deep : length inside.variables ≡ level + length ns
    deep = count_inside w a.more a.types_ ∙ ap (λ n. level + n) (sym a.as_many ∙ length_named ns)

    body : IsTyped inside (rest (around e us) (level + length ns))
    body = subst (λ n. IsTyped inside (rest (around e us) n)) deep (k us a.placed.later inside (opened_follows e x f w (named ns) (Opens e.names w.type_variables (pat_core e.names p) (meaning f t)) a (opens_embeds a.opens)) (realises_after x (named ns) a.context a.more a.types_ r a.placed (opens_embeds a.opens) (names_bind ns level vs (λ m. subst (λ n. n ≤ 1) (sym (same_times e.names p m)) (once m))) only))

-- a process abstraction
pub process_reads : (e : Environment) (s : Span) (p : Pat) (q : Proc) (t : PlainType) (x : Extension) → OpensAgainst e p t x → ((m : ℕ) → times m (id_names (value_ids p)) ≤ 1) → value_names x.values ≡ id_names (value_ids p) → IsTypeIn e t → ProcessStands (extended e x) q → ReadsAt e (process_abs s p q) t
unfolding sending
process_reads e s p q t x o once names w h vs f u r y b k = pattern_reads e p t x (λ a. proc_core a q) o once names w vs f u r (λ vs2 g u2 fo r2. h vs2 g u2 r2) y b k

-- ---- functions

-- the channel for the answer takes the answer's type, and so each type below
pub record Answers (e : Environment) (last t : PlainType) : Type 0 where
  pub capability : Capability
  pub carries_down : CarriesDown (erased_capability capability) Write
  pub type_ : PlainType
  pub sends : IsSubtype (context_of e) last (Chan capability type_)
  pub below : IsSubtype (context_of e) t type_

pub last_formed : (ns : List (List ℕ)) (ks : List Kind) (ts : PlainTypes) (t : PlainType) → AreWellFormed ns ks (and_type ts t) → IsWellFormed ns ks t
last_formed ns ks no_type t h = h.0
last_formed ns ks (types s ts) t h = last_formed ns ks ts t h.1

pub function_reads : (e : Environment) (s : Span) (bs : TypeBinders) (ps : Pats) (ls : LabelledPats) (o : RType) (v : Val) (own : List KnownType) (ts : PlainTypes) (ms : PlainLabels) (last t : PlainType) (x : Extension) → ((c : TypeContext) (f : ℕ → ℕ) → Embeds f (erased_context (context_of e)) c → FieldsAdd e (Some last) ps ls own ts ms x f c)
    → ((m : ℕ) → times m (id_names (field_value_ids (field_pats bs ps ls))) ≤ 1) → value_names x.values ≡ id_names (field_value_ids (field_pats bs ps ls)) → IsTypeIn e (Fields (bounds_of own) (and_type ts last) ms) → IsTypeIn (with_own e own) t → Answers (with_own e own) last t
    → SentBy (extended e (within own x)) v (shifted_by (opened x) t) → ReadsAt e (function_abs s (field_pats bs ps ls) o v) (Fields (bounds_of own) (and_type ts last) ms)
unfolding sending
function_reads e s bs ps ls o v own ts ms last t x fields once names q qt ans h vs f w r y b k =
    typed.input (meaning f R) (type_means R r q) k (subst (λ ns. Opens ns w.type_variables (function_pat e.names fs) (meaning f R) a.context a.more a.types_) (sym r.world_names) a.opens)
    (subst (λ n. IsTyped inside (sending (function_bound fs (placed.variables level n) (around e vs)) v (answer_channel e.names fs (placed.variables level n)) (level + n))) (sym many) body)
  where
    fs : FieldPats
    fs = field_pats bs ps ls

    R : PlainType
    R = Fields (bounds_of own) (and_type ts last) ms

    level : ℕ
    level = length w.variables

    before : List ℕ
    before = names_before e.names fs

    after : List ℕ
    after = names_after e.names fs

    slots : List (Option ℕ)
    slots = (named before ++ None ∷ []) ++ named after

    fa : FieldsAdd e (Some last) ps ls own ts ms x f w.type_variables
    fa = fields w.type_variables f r.embeds

    a : AddsWhatIsOpened e (within own x) f slots (Opens e.names w.type_variables (function_pat e.names fs) (meaning f R))
    a = fa.adds

    inside : World
    inside = worlds.opened a.context a.more a.types_ w

    many : binds (function_pat e.names fs) ≡ length before + suc (length after)
    many = function_agrees e.names fs

    us : Values
    us = (function_bound fs (placed.variables level (length before + suc (length after))) (around e vs)).values

    totals : (m : ℕ) → slot_times m slots ≡ times m (id_names (field_value_ids fs))
    totals m =
        let c1 = slots_both m (named before ++ None ∷ []) (named after) in
        let c2 = slots_both m (named before) (None ∷ []) in
        let c3 = named_times m before in
        let c4 = named_times m after in
        let c5 = function_times e.names fs m in
        omega (arith, c1, c2, c3, c4, c5)

    only : (m : ℕ) → known_type x.values m ≡ None → slot_times m slots ≡ 0
    only m e2 = totals m ∙ ap (times m) (sym names) ∙ unknown_times x.values m e2

    bound_ : Binds slots level vs us
    bound_ = function_names_bind before after level vs (λ m. subst (λ n. n ≤ 1) (sym (function_times e.names fs m)) (once m))

    count_slots : length slots ≡ length before + suc (length after)
    count_slots =
        let c1 = length-append (named before ++ None ∷ []) (named after) in
        let c2 = length-append (named before) (None ∷ []) in
        let c3 = length_named before in
        let c4 = length_named after in
        omega (arith, c1, c2, c3, c4)

    deep : length inside.variables ≡ level + (length before + suc (length after))
    deep = count_inside w a.more a.types_ ∙ ap (λ n. level + n) (sym a.as_many ∙ count_slots)

    after_ : Realises (extended e (within own x)) us a.placed.later inside
    after_ = realises_after (within own x) slots a.context a.more a.types_ r a.placed (opens_embeds a.opens) bound_ only

    -- the channel for the answer
    later : ℕ → ℕ
    later = a.placed.later

    through_ : ℕ → ℕ
    through_ i = later (i + opened x)

    shift_means : (u : PlainType) → meaning later (shifted_by (opened x) u) ≡ meaning through_ u
    shift_means u = ap (rename later) (erased_renamed (moved (opened x) 0) u) ∙ type_after later (moved (opened x) 0) through_ (erased u) (λ i. refl)

    inside_type : (u : PlainType) → IsTypeIn (with_own e own) u → IsType inside (meaning later (shifted_by (opened x) u))
    inside_type u z =
        subst (IsType inside) (sym (shift_means u))
        (subst (λ ns. worlds.IsTypeIn ns a.context (meaning through_ u)) (sym r.world_names) (type_grown e.names (erased u) fa.inside (erased_type e.names (context_of (with_own e own)) u z)))

    inside_below : (s u : PlainType) → IsSubtype (context_of (with_own e own)) s u → IsSubtype a.context (meaning through_ s) (meaning through_ u)
    inside_below s u d = weakened fa.inside.keeps (below_erased d)

    last_in : IsTypeIn (with_own e own) last
    last_in = subst (λ ks. IsWellFormed e.names ks last) (sym (own_kinds e own)) (last_formed e.names _ ts last q.1.0)

    answered : IsSubtype a.context (meaning later (shifted_by (opened x) last)) (Chan Write (meaning later (shifted_by (opened x) t)))
    answered =
        subst (λ z. IsSubtype a.context z (Chan Write (meaning later (shifted_by (opened x) t)))) (sym (shift_means last))
        (subst (λ z. IsSubtype a.context (meaning through_ last) (Chan Write z)) (sym (shift_means t))
        (through (meaning through_ (Chan ans.capability ans.type_)) (inside_below last (Chan ans.capability ans.type_) ans.sends) (downward ans.carries_down (inside_below t ans.type_ ans.below))))

    channel : HasType inside (core.Var (level + length before)) (Chan Write (meaning later (shifted_by (opened x) t)))
    channel = raised (meaning later (shifted_by (opened x) last)) (inside_type last last_in) (inside_type t qt)
        (variable_has (subst (λ n. slice_get (map (shifted a.more) w.variables ++ a.types_) (n + length before) ≡ Some (meaning later (shifted_by (opened x) last))) (length-map w.variables (shifted a.more)) (slice_second (map (shifted a.more) w.variables) a.types_ (length before) (meaning later (shifted_by (opened x) last)) fa.answer_at)))
        answered

    body : IsTyped inside (sending (around e us) v (answer_channel e.names fs (placed.variables level (length before + suc (length after)))) (level + (length before + suc (length after))))
    body =
        subst (λ z. IsTyped inside (sending (around e us) v z (level + (length before + suc (length after))))) (sym (answer_is before level (length after)))
        (subst (λ n. IsTyped inside (sending (around e us) v (core.Var (level + length before)) n)) deep
        ((h us later inside after_).sends inside (core.Var (level + length before)) (not_longer inside) channel))
