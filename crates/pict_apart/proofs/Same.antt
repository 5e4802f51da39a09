-- The translation of a phrase under the new names is that under the old ones.
use Rattle.std.proofs.Common.{◌≡◌, ℕ, zero, suc, ◌+◌, ◌≤◌, Bool, true, false, List, [], ◌∷◌, ◌++◌, map, length, drop, get_or, Option, Some, None, refl, sym, ◌∙◌, ap, subst, arith, option_and_then, option_map, nat_eq, length-drop}
use mathlib.Core.Path.{fun_ext}
use Rattle.std.proofs.lemmas.List.{map-append, length-map}
use Rattle.pict_syntax.specs.declared.code.Code.TheVariants.{S3, S4}
use Rattle.pict_syntax.specs.declared.id.Id.{Id}
use Rattle.pict_syntax.specs.declared.span.Span.{Span}
use Rattle.pict_syntax.specs.Labels.{in_label_order}
use Rattle.pict_syntax.specs.Trees.{RType, TypeTree, Pat, FieldPats, field_pats, TypeBinders, Pats, LabelledPats, Dec, new_dec, run_dec, let_dec, def_dec, alias_dec, operator_dec, await_dec, Decs, no_decs, more_decs, Definitions, no_definitions, more_definitions, Abs, process_abs, function_abs, Chan, use_chan, fold_chan, block_chan, apply_chan, right_chan, left_chan, Val, of_chan, number_val, character_val, string_val, true_val, false_val, fields_val, if_val, lambda_val, Vals, no_vals, more_vals, FieldVals, field_vals, LabelledVals, no_labelled_vals, more_labelled_vals, Proc, send_proc, receive_proc, serve_proc, if_proc, inert_proc, group_proc, Procs, no_procs, more_procs}
use Rattle.pict_core.specs.Term as core
use Rattle.pict_core.specs.Closed.{binds as count_bound}
use Rattle.pict_binders.specs.declared.binders.Binder.{Binder}
use Rattle.pict_binders.specs.Numbered.{nearest}
use Rattle.pict_scope.specs.Around.{Around, is_among, with_value, with_values, with_group, before_pattern, behind_pattern}
use Rattle.pict_scope.specs.Outlines.{Outline, empty, ◌▸◌, value_use, binds_value, binds_type, binds_all, defines, pattern, group, once, opens, marks}
use Rattle.pict_scope.specs.Forms.{in_type, in_types, in_annotation, in_pattern_binders, in_pat, in_field_pats, in_pats, in_labelled_pats, defined, in_dec, in_decs, in_definitions, in_abs, in_chan, in_val, in_vals, in_field_vals, in_labelled_vals, in_proc, in_procs}
use Rattle.pict_scope.specs.Scopes.{outermost}
use Rattle.pict_scope.proofs.Clean.{left_clean, right_clean}
use Rattle.pict_translation.specs.Placed.{Placed, inert, beside, new_channel, output, variables, input, choice, new_channels, side_by_side, served}
use Rattle.pict_translation.specs.Arguments.{argument, with_value as with_one, sent_as_one, right, left}
use Rattle.pict_translation.specs.Patterns.{Opened, opened, all_opened, labelled_opened, patterns_in, labelled_patterns_in, names_opened, labelled_names_in, record_pat, pat_core, pat_names, answer}
use Rattle.pict_translation.specs.Simple.{Around as Place, binding, bound, nothing, use_of, record_of_fields, one_more, simple, simple_chan, simple_fields, simple_vals, simple_labelled}
use Rattle.pict_translation.specs.Translation.{unit_pat, definition_names, sending, sending_chan, with_vals, with_labelled, with_fields, arguments, reader, dec_core, decs_core, servers, proc_core, procs_core}
use Rattle.pict_translation.proofs.PatternLemmas.{pattern_agrees, function_agrees}
use Rattle.pict_apart.specs.Laws.{ApartIsSame}
use Rattle.pict_apart.specs.Apart.{own_or, renamed, apart_pat, apart_fields, apart_pats, apart_labelled_pats, apart_dec, apart_decs, apart_definitions, apart_abs, apart_chan, apart_val, apart_vals, apart_field_vals, apart_labelled_vals, apart_proc, apart_procs}
use Rattle.pict_rules.proofs.Kept.{Keeps, same_texts, keeps_empty, keeps_group, keeps_value_use, keeps_types, keeps_type, keeps_annotation, keeps_chan, keeps_val, keeps_vals, keeps_labelled_vals, keeps_proc, keeps_procs, keeps_definitions, keeps_once, keeps_defines, pattern_keeps_annotation}
use Rattle.pict_apart.proofs.Looking.{Values, Opens, Binds, TellsOf, nearest_first, some, binds, binds_both, opens_one, opens_both, opens_before, opens_none, opens_on, told_apart, eq_itself, number_same, among_both, one_name, at_one, or_left, or_right}
use Rattle.pict_apart.proofs.Alike.{Clean, first_clean, second_clean, counts_up, Alike, later, within, same_use}
use Rattle.pict_apart.proofs.Patterns.{closed_clean, group_clean, pat_opens, fields_open, pats_clean, labelled_clean, told_pats, Told, renamed_opened, renamed_field, pat_renamed, pats_renamed, labelled_renamed, order_renamed, same_patterns, same_labelled, all_names, labelled_names}

abbrev pub place : List (List ℕ) → Values → Place
place names vs = record { names = names; values = vs }

-- binders with other processes under them
new_channel_same : {f g : core.Val → Placed} → ((x : core.Val) → f x ≡ g x) → new_channel f ≡ new_channel g
new_channel_same h = ap new_channel (fun_ext h)

variables_length : (d n : ℕ) → length (variables d n) ≡ n
variables_length d zero = refl
variables_length d (suc n) = let h = variables_length (d + 1) n in omega (arith, h)

input_same : (x : core.Val) (r : Bool) (p : core.Pat) {f g : List core.Val → Placed} → ((vs : List core.Val) → length vs ≡ count_bound p → f vs ≡ g vs) → input x r p f ≡ input x r p g
input_same x r p h = fun_ext (λ d. ap (λ q. core.In x r p (q (d + count_bound p))) (h (variables d (count_bound p)) (variables_length d (count_bound p))))

channels_same : (n : ℕ) {f g : List core.Val → Placed} → ((vs : List core.Val) → length vs ≡ n → f vs ≡ g vs) → new_channels n f ≡ new_channels n g
channels_same zero h = h [] refl
channels_same (suc n) {f = f} {g = g} h = new_channel_same (λ x. channels_same n {f = λ vs. f (x ∷ vs)} {g = λ vs. g (x ∷ vs)} (λ vs e. h (x ∷ vs) (omega (arith, e))))

one_same : {o p : Option core.Val} {s t : core.Val → Placed} {e f : core.Val → Placed} → o ≡ p → s ≡ t → ((u : core.Val) → e u ≡ f u) → with_one o s e ≡ with_one p t f
one_same {p = p} {s = s} {t = t} {e = e} a b c = ap (λ x. with_one x s e) a ∙ (ap (λ x. with_one p x e) b ∙ ap (λ x. with_one p t x) (fun_ext c))

beside_same : {p q r s : Placed} → p ≡ q → r ≡ s → beside p r ≡ beside q s
beside_same {q = q} {r = r} a b = ap (λ x. beside x r) a ∙ ap (λ x. beside q x) b

choice_same : (b : core.Val) {p q r s : Placed} → p ≡ q → r ≡ s → choice b p r ≡ choice b q s
choice_same b {q = q} {r = r} a c = ap (λ x. choice b x r) a ∙ ap (λ x. choice b q x) c

-- behind an outline that binds nothing there
past : {base : ℕ} {names : List (List ℕ)} {a : Around} {e d : Values} (o : Outline) → Keeps o → Alike base names a e d → Alike base names (opens o a) e d
past {a = a} o k h = later (opens o a) h (same_texts o a) (k.values a) (counts_up o a)

grouped : {base : ℕ} {names : List (List ℕ)} {a : Around} {e d : Values} → Alike base names a e d → Alike base names (with_group [] a) e d
grouped {a = a} h = later (with_group [] a) h refl refl (omega arith)

-- simple values
mutual
  unfolding simple simple_chan simple_fields simple_vals simple_labelled apart_val apart_chan apart_field_vals apart_vals apart_labelled_vals

  simple_same : {base : ℕ} {names : List (List ℕ)} {a : Around} {e d : Values} (v : Val) → Alike base names a e d → Clean (in_val v) a → simple (place names d) (apart_val base a v) ≡ simple (place names e) v
  simple_same (of_chan c) h k = simple_chan_same c h k
  simple_same (number_val s n) h k = refl
  simple_same (character_val s b) h k = refl
  simple_same (string_val s b) h k = refl
  simple_same (true_val s) h k = refl
  simple_same (false_val s) h k = refl
  simple_same (fields_val s f) h k = simple_fields_same f h k
  simple_same (if_val s c v w) h k = refl
  simple_same (lambda_val s f) h k = refl

  simple_chan_same : {base : ℕ} {names : List (List ℕ)} {a : Around} {e d : Values} (c : Chan) → Alike base names a e d → Clean (in_chan c) a → simple_chan (place names d) (apart_chan base a c) ≡ simple_chan (place names e) c
  simple_chan_same (use_chan s n) h k = ap some (same_use s n h k)
  simple_chan_same {a = a} (fold_chan s r v) h k = simple_same v (past (in_annotation r) (keeps_annotation r) h) (second_clean (in_annotation r) (in_val v) a k)
  simple_chan_same (block_chan s ds v) h k = refl
  simple_chan_same (apply_chan s f vs) h k = refl
  simple_chan_same (right_chan s f vs) h k = refl
  simple_chan_same (left_chan s f vs) h k = refl

  simple_fields_same : {base : ℕ} {names : List (List ℕ)} {a : Around} {e d : Values} (f : FieldVals) → Alike base names a e d → Clean (in_field_vals f) a → simple_fields (place names d) (apart_field_vals base a f) ≡ simple_fields (place names e) f
  simple_fields_same {base = base} {names = names} {a = a} {e = e} {d = d} (field_vals ts vs ls) h k =
      let b = opens (in_types ts) a in
      let c = with_group [] (opens (in_vals vs) b) in
      let x = past (in_types ts) (keeps_types ts) h in
      let q = second_clean (in_types ts) (in_vals vs ▸ group (in_labelled_vals ls)) a k in
      let i = simple_vals_same vs x (first_clean (in_vals vs) (group (in_labelled_vals ls)) b q) in
      let j = simple_labelled_same ls (grouped (past (in_vals vs) (keeps_vals vs) x)) (group_clean (in_labelled_vals ls) _ (second_clean (in_vals vs) (group (in_labelled_vals ls)) b q)) in
      ap (λ z. option_and_then (λ us. option_map (record_of_fields (place names d) us) (simple_labelled (place names d) (apart_labelled_vals base c ls))) z) i
      ∙ ap (λ z. option_and_then (λ us. option_map (record_of_fields (place names e) us) z) (simple_vals (place names e) vs)) j

  simple_vals_same : {base : ℕ} {names : List (List ℕ)} {a : Around} {e d : Values} (vs : Vals) → Alike base names a e d → Clean (in_vals vs) a → simple_vals (place names d) (apart_vals base a vs) ≡ simple_vals (place names e) vs
  simple_vals_same no_vals h k = refl
  simple_vals_same {base = base} {names = names} {a = a} {e = e} {d = d} (more_vals vs v) h k =
      let i = simple_vals_same vs h (first_clean (in_vals vs) (in_val v) a k) in
      let j = simple_same v (past (in_vals vs) (keeps_vals vs) h) (second_clean (in_vals vs) (in_val v) a k) in
      ap (λ z. one_more z (simple (place names d) (apart_val base (opens (in_vals vs) a) v))) i ∙ ap (λ z. one_more (simple_vals (place names e) vs) z) j

  simple_labelled_same : {base : ℕ} {names : List (List ℕ)} {a : Around} {e d : Values} (ls : LabelledVals) → Alike base names a e d → Clean (in_labelled_vals ls) a → simple_labelled (place names d) (apart_labelled_vals base a ls) ≡ simple_labelled (place names e) ls
  simple_labelled_same no_labelled_vals h k = refl
  simple_labelled_same {base = base} {names = names} {a = a} {e = e} {d = d} (more_labelled_vals ls l v) h k =
      let b = opens (in_labelled_vals ls) a in
      let i = simple_labelled_same ls h (first_clean (in_labelled_vals ls) (once S4 l ▸ in_val v) a k) in
      let j = simple_same v (past (once S4 l) keeps_once (past (in_labelled_vals ls) (keeps_labelled_vals ls) h)) (second_clean (once S4 l) (in_val v) b (second_clean (in_labelled_vals ls) (once S4 l ▸ in_val v) a k)) in
      ap (λ z. one_more z (option_map (λ u. (l.name.0, u)) (simple (place names d) (apart_val base (opens (once S4 l) b) v)))) i
      ∙ ap (λ z. one_more (simple_labelled (place names e) ls) (option_map (λ u. (l.name.0, u)) z)) j

-- the new name of an old one, by the binders of a place
abbrev number_or_zero : Option ℕ → ℕ
number_or_zero None = 0
number_or_zero (Some k) = k

abbrev new_of : ℕ → List Binder → ℕ → ℕ
new_of base bs n = base + number_or_zero (nearest bs n)

new_told : (base : ℕ) (bs : List Binder) (n k : ℕ) → nearest bs n ≡ Some k → new_of base bs n ≡ base + k
new_told base bs n k h = ap (λ o. base + number_or_zero o) h

-- in the scope of a pattern
pattern_values_at : (o p : Outline) (a : Around) → Keeps p → (opens (pattern o p) a).values ≡ (opens o (before_pattern a)).pattern_values ++ a.values
unfolding opens
pattern_values_at o p a k = ap (λ vs. (opens o (before_pattern a)).pattern_values ++ vs) (k.values (behind_pattern a (opens o (before_pattern a))))

pattern_counts : (o p : Outline) (a : Around) → (opens o (before_pattern a)).next_value ≤ (opens (pattern o p) a).next_value
unfolding opens
pattern_counts o p a = counts_up p (behind_pattern a (opens o (before_pattern a)))

pattern_clean : (o p : Outline) (a : Around) → Clean (pattern o p) a → Clean o (before_pattern a)
unfolding marks
pattern_clean o p a h = left_clean (marks o (before_pattern a)) (marks p (behind_pattern a (opens o (before_pattern a)))) h

behind_clean : (o p : Outline) (a : Around) → Clean (pattern o p) a → Clean p (behind_pattern a (opens o (before_pattern a)))
unfolding marks
behind_clean o p a h = right_clean (marks o (before_pattern a)) (marks p (behind_pattern a (opens o (before_pattern a)))) h

behind_alike : {base : ℕ} {names : List (List ℕ)} {a : Around} {e d : Values} (o : Outline) → Alike base names a e d → Alike base names (behind_pattern a (opens o (before_pattern a))) e d
behind_alike {a = a} o h = later (behind_pattern a (opens o (before_pattern a))) h (same_texts o (before_pattern a)) refl (counts_up o (before_pattern a))

-- names ns of a pattern, which bind the values vs one after the other
in_scope : {base : ℕ} {names : List (List ℕ)} {a : Around} {e d e' d' : Values} (ns : List ℕ) (o p : Outline) (h : ℕ → ℕ) → Keeps p → Alike base names a e d
    → Opens ns [] (opens o (before_pattern a)).pattern_values a.next_value (opens o (before_pattern a)).next_value
    → Told base h (opens o (before_pattern a)) → Binds ns h e e' d d' → Alike base names (opens (pattern o p) a) e' d'
in_scope {base = base} {names = names} {a = a} {e' = e'} {d' = d'} ns o p h k x y t z =
    let bs = (opens o (before_pattern a)).pattern_values in
    let q = opens_before ns a.values (opens (pattern o p) a).next_value y (pattern_counts o p a) in
    within ns h x
    (subst (λ vs. Opens ns a.values vs a.next_value (opens (pattern o p) a).next_value) (sym (pattern_values_at o p a k)) q)
    (λ n j i f. let w = y.inside n i in let s = number_same w.0 j (nearest_first bs a.values n w.0 w.1) (subst (λ vs. nearest vs n ≡ Some j) (pattern_values_at o p a k) f) in t n j (subst (λ l. nearest bs n ≡ Some l) s w.1))
    (same_texts (pattern o p) a) z

-- a pattern, whose names bind these values
pattern_alike : {base : ℕ} {names : List (List ℕ)} {a : Around} {e d : Values} (p : Pat) (o : Outline) (vs : List core.Val) → Keeps o → Alike base names a e d → Clean (in_pat p) (before_pattern a) → length vs ≡ count_bound (pat_core names p)
    → Alike base names (opens (pattern (in_pat p) o) a) (binding (pat_names names p) vs e) (binding (map (new_of base (opens (in_pat p) (before_pattern a)).pattern_values) (pat_names names p)) vs d)
pattern_alike {base = base} {names = names} {a = a} {e = e} {d = d} p o vs k x c l =
    let bs = (opens (in_pat p) (before_pattern a)).pattern_values in
    let ns = pat_names names p in
    let y = (pat_opens names p (before_pattern a) c).opens_ in
    let n : length ns ≡ count_bound (pat_core names p) = pattern_agrees names p in
    in_scope ns (in_pat p) o (new_of base bs) k x y (new_told base bs) (binds ns (new_of base bs) vs e d (omega (arith, n, l)) (told_apart base ns (new_of base bs) y (λ m j t f. new_told base bs m j f)))

renamed_here : (base : ℕ) (names : List (List ℕ)) (a : Around) (p : Pat) → Clean (in_pat p) (before_pattern a)
    → opened names (apart_pat base (before_pattern a) p) ≡ renamed_opened (new_of base (opens (in_pat p) (before_pattern a)).pattern_values) (opened names p)
renamed_here base names a p c = pat_renamed names base (new_of base (opens (in_pat p) (before_pattern a)).pattern_values) p (before_pattern a) c (new_told base (opens (in_pat p) (before_pattern a)).pattern_values)

-- an input at a pattern: it is the same where its bodies are the same within the pattern
input_renamed : {base : ℕ} {names : List (List ℕ)} {a : Around} {e d : Values} (x : core.Val) (r : Bool) (p : Pat) (o : Outline) (f g : Place → Placed) → Keeps o → Alike base names a e d → Clean (in_pat p) (before_pattern a)
    → ((e' d' : Values) → Alike base names (opens (pattern (in_pat p) o) a) e' d' → f (place names d') ≡ g (place names e'))
    → input x r (pat_core names (apart_pat base (before_pattern a) p)) (λ vs. f (bound (pat_names names (apart_pat base (before_pattern a) p)) vs (place names d))) ≡ input x r (pat_core names p) (λ vs. g (bound (pat_names names p) vs (place names e)))
input_renamed {base = base} {names = names} {a = a} {e = e} {d = d} x r p o f g k h c same =
    ap (λ z. input x r z.pattern (λ vs. f (bound z.names vs (place names d)))) (renamed_here base names a p c)
    ∙ input_same x r (pat_core names p) (λ vs l. same _ _ (pattern_alike p o vs k h c l))

-- an input of a function with a pattern whose names are ns, the channel of the answer, and ms
function_at : List (List ℕ) → core.Val → Bool → (Place → core.Val → Placed) → Values → core.Pat → List ℕ → List ℕ → ℕ → Placed
function_at names x r f e p ns ms n = input x r p (λ vs. f (place names (binding ms (drop (n + 1) vs) (binding ns vs e))) (get_or vs n nothing))

function_pattern_same : (h : ℕ → ℕ) (ps : List Opened) (fs : List (ℕ × Opened)) → record_pat (map (renamed_opened h) ps ++ answer ∷ []) (map (renamed_field h) fs) ≡ record_pat (ps ++ answer ∷ []) fs
function_pattern_same h ps fs =
    let i : patterns_in (map (renamed_opened h) ps ++ answer ∷ []) ≡ patterns_in (ps ++ answer ∷ []) = ap patterns_in (sym (map-append (renamed_opened h) ps (answer ∷ []))) ∙ same_patterns h (ps ++ answer ∷ []) in
    ap (λ z. core.RecordPat z (labelled_patterns_in (map (renamed_field h) fs))) i ∙ ap (λ z. core.RecordPat (patterns_in (ps ++ answer ∷ [])) z) (same_labelled h fs)

-- the values that a function's names bind
function_alike : {base : ℕ} {names : List (List ℕ)} {a : Around} {e d : Values} (o : Outline) (ns ms : List ℕ) (vs : List core.Val) → Alike base names a e d
    → Opens (ns ++ ms) [] (opens o (before_pattern a)).pattern_values a.next_value (opens o (before_pattern a)).next_value → length vs ≡ length ns + suc (length ms)
    → let h = new_of base (opens o (before_pattern a)).pattern_values in Alike base names (opens (pattern o empty) a) (binding ms (drop (length ns + 1) vs) (binding ns vs e)) (binding (map h ms) (drop (length ns + 1) vs) (binding (map h ns) vs d))
function_alike {base = base} {a = a} {e = e} {d = d} o ns ms vs x y l =
    let bs = (opens o (before_pattern a)).pattern_values in
    let h = new_of base bs in
    let t = told_apart base (ns ++ ms) h y (λ n k i f. new_told base bs n k f) in
    let i = binds ns h vs e d (omega (arith, l)) (λ n m p q. t n m (among_both ns ms n ∙ or_left (is_among ns n) (is_among ms n) p) (among_both ns ms m ∙ or_left (is_among ns m) (is_among ms m) q)) in
    let k = length-drop (length ns + 1) vs in
    let j = binds ms h (drop (length ns + 1) vs) (binding ns vs e) (binding (map h ns) vs d) (omega (arith, l, k)) (λ n m p q. t n m (among_both ns ms n ∙ or_right (is_among ns n) (is_among ms n) p) (among_both ns ms m ∙ or_right (is_among ns m) (is_among ms m) q)) in
    in_scope (ns ++ ms) o empty h keeps_empty x y (new_told base bs) (binds_both ns ms h t i j)

function_renamed : {base : ℕ} {names : List (List ℕ)} {a : Around} {e d : Values} (x : core.Val) (r : Bool) (o : Outline) (ps : List Opened) (fs : List (ℕ × Opened)) (f g : Place → core.Val → Placed) → Alike base names a e d
    → Opens (names_opened ps ++ labelled_names_in fs) [] (opens o (before_pattern a)).pattern_values a.next_value (opens o (before_pattern a)).next_value
    → count_bound (record_pat (ps ++ answer ∷ []) fs) ≡ length (names_opened ps) + suc (length (labelled_names_in fs))
    → ((e' d' : Values) (k : core.Val) → Alike base names (opens (pattern o empty) a) e' d' → f (place names d') k ≡ g (place names e') k)
    → let h = new_of base (opens o (before_pattern a)).pattern_values in
    function_at names x r f d (record_pat (map (renamed_opened h) ps ++ answer ∷ []) (map (renamed_field h) fs)) (names_opened (map (renamed_opened h) ps)) (labelled_names_in (map (renamed_field h) fs)) (length (names_opened (map (renamed_opened h) ps)))
    ≡ function_at names x r g e (record_pat (ps ++ answer ∷ []) fs) (names_opened ps) (labelled_names_in fs) (length (names_opened ps))
unfolding function_at
function_renamed {base = base} {names = names} {a = a} {e = e} {d = d} x r o ps fs f g al y c same =
    let h = new_of base (opens o (before_pattern a)).pattern_values in
    let ns = names_opened ps in
    let ms = labelled_names_in fs in
    let p = record_pat (ps ++ answer ∷ []) fs in
    ap (λ z. function_at names x r f d z (names_opened (map (renamed_opened h) ps)) (labelled_names_in (map (renamed_field h) fs)) (length (names_opened (map (renamed_opened h) ps)))) (function_pattern_same h ps fs)
    ∙ (ap (λ z. function_at names x r f d p z (labelled_names_in (map (renamed_field h) fs)) (length z)) (all_names h ps)
    ∙ (ap (λ z. function_at names x r f d p (map h ns) z (length (map h ns))) (labelled_names h fs)
    ∙ (ap (λ z. function_at names x r f d p (map h ns) (map h ms) z) (length-map ns h)
    ∙ input_same x r p (λ vs l. same _ _ (get_or vs (length ns) nothing) (function_alike o ns ms vs al y (l ∙ c))))))

-- the fields of a function, and its result type
fields_opened : (names : List (List ℕ)) (bs : TypeBinders) (ps : Pats) (ls : LabelledPats) (r : RType) (a : Around) → Clean (in_field_pats (field_pats bs ps ls)) (before_pattern a)
    → Opens (names_opened (all_opened names ps) ++ labelled_names_in (in_label_order names (labelled_opened names ls))) [] (opens (in_field_pats (field_pats bs ps ls) ▸ in_annotation r) (before_pattern a)).pattern_values a.next_value (opens (in_field_pats (field_pats bs ps ls) ▸ in_annotation r) (before_pattern a)).next_value
unfolding opens
fields_opened names bs ps ls r a c =
    let b = opens (in_field_pats (field_pats bs ps ls)) (before_pattern a) in
    opens_on (names_opened (all_opened names ps) ++ labelled_names_in (in_label_order names (labelled_opened names ls))) ((pattern_keeps_annotation r).values b) (counts_up (in_annotation r) b) (fields_open names bs ps ls (before_pattern a) c).opens_

fields_told : (base : ℕ) (f : FieldPats) (r : RType) (a : Around) → Told base (new_of base (opens (in_field_pats f ▸ in_annotation r) (before_pattern a)).pattern_values) (opens (in_field_pats f) (before_pattern a))
unfolding opens
fields_told base f r a n k e =
    new_told base (opens (in_field_pats f ▸ in_annotation r) (before_pattern a)).pattern_values n k (ap (λ z. nearest z n) ((pattern_keeps_annotation r).values (opens (in_field_pats f) (before_pattern a))) ∙ e)

group_told : (base : ℕ) (h : ℕ → ℕ) (bs : TypeBinders) (ps : Pats) (ls : LabelledPats) (c : Around) → Told base h (opens (in_field_pats (field_pats bs ps ls)) c) → Told base h (opens (in_labelled_pats ls) (with_group [] (opens (in_pats ps) (opens (in_pattern_binders bs) c))))
unfolding opens
group_told base h bs ps ls c t n k e = t n k e

reader_of_function : {base : ℕ} {names : List (List ℕ)} {a : Around} {e d : Values} (x : core.Val) (q : Bool) (bs : TypeBinders) (ps : Pats) (ls : LabelledPats) (r : RType) (f g : Place → core.Val → Placed) → Alike base names a e d
    → Clean (in_field_pats (field_pats bs ps ls)) (before_pattern a)
    → ((e' d' : Values) (k : core.Val) → Alike base names (opens (pattern (in_field_pats (field_pats bs ps ls) ▸ in_annotation r) empty) a) e' d' → f (place names d') k ≡ g (place names e') k)
    → let b = opens (in_pattern_binders bs) (before_pattern a) in
    let qs = all_opened names (apart_pats base b ps) in
    let gs = in_label_order names (labelled_opened names (apart_labelled_pats base (with_group [] (opens (in_pats ps) b)) ls)) in
    let os = all_opened names ps in
    let fs = in_label_order names (labelled_opened names ls) in
    function_at names x q f d (record_pat (qs ++ answer ∷ []) gs) (names_opened qs) (labelled_names_in gs) (length (names_opened qs))
    ≡ function_at names x q g e (record_pat (os ++ answer ∷ []) fs) (names_opened os) (labelled_names_in fs) (length (names_opened os))
reader_of_function {base = base} {names = names} {a = a} {e = e} {d = d} x q bs ps ls r f g al c same =
    let o = in_field_pats (field_pats bs ps ls) ▸ in_annotation r in
    let h = new_of base (opens o (before_pattern a)).pattern_values in
    let b = opens (in_pattern_binders bs) (before_pattern a) in
    let t = fields_told base (field_pats bs ps ls) r a in
    let i = pats_renamed names base h ps b (pats_clean bs ps ls (before_pattern a) c) (told_pats names base h bs ps ls (before_pattern a) c t) in
    let j = labelled_renamed names base h ls (with_group [] (opens (in_pats ps) b)) (labelled_clean bs ps ls (before_pattern a) c) (group_told base h bs ps ls (before_pattern a) t) in
    let gs = in_label_order names (labelled_opened names (apart_labelled_pats base (with_group [] (opens (in_pats ps) b)) ls)) in
    let k : gs ≡ map (renamed_field h) (in_label_order names (labelled_opened names ls)) = ap (in_label_order names) j ∙ order_renamed names h (labelled_opened names ls) in
    ap (λ z. function_at names x q f d (record_pat (z ++ answer ∷ []) gs) (names_opened z) (labelled_names_in gs) (length (names_opened z))) i
    ∙ (ap (λ z. function_at names x q f d (record_pat (map (renamed_opened h) (all_opened names ps) ++ answer ∷ []) z) (names_opened (map (renamed_opened h) (all_opened names ps))) (labelled_names_in z) (length (names_opened (map (renamed_opened h) (all_opened names ps))))) k
    ∙ function_renamed x q o (all_opened names ps) (in_label_order names (labelled_opened names ls)) f g al (fields_opened names bs ps ls r a c) (function_agrees names (field_pats bs ps ls)) same)

reader_is : (names : List (List ℕ)) (e : Values) (s : Span) (bs : TypeBinders) (ps : Pats) (ls : LabelledPats) (t : RType) (v : Val) (x : core.Val) (q : Bool)
    → let os = all_opened names ps in
    let fs = in_label_order names (labelled_opened names ls) in
    reader (place names e) (function_abs s (field_pats bs ps ls) t v) x q ≡ function_at names x q (λ o u. sending o v u) e (record_pat (os ++ answer ∷ []) fs) (names_opened os) (labelled_names_in fs) (length (names_opened os))
unfolding reader function_at
reader_is names e s bs ps ls t v x q = refl

-- the names of a `def`
values_open : (xs : List Id) (a : Around) → Opens (map (λ x. x.name.0) xs) a.values (with_values xs a).values a.next_value (with_values xs a).next_value
values_open [] a = opens_none refl (omega arith)
values_open (x ∷ xs) a = opens_both (x.name.0 ∷ []) (map (λ y. y.name.0) xs) (opens_one x.name.0 a.next_value a.values) (values_open xs (with_value x a))

names_defined : (ds : Definitions) → map (λ x. x.name.0) (defined ds) ≡ definition_names ds
names_defined no_definitions = refl
names_defined (more_definitions ds x f) = map-append (λ y. y.name.0) (defined ds) (x ∷ []) ∙ ap (λ ns. ns ++ x.name.0 ∷ []) (names_defined ds)

values_texts : (xs : List Id) (a : Around) → (with_values xs a).texts ≡ a.texts
values_texts [] a = refl
values_texts (x ∷ xs) a = values_texts xs (with_value x a)

definitions_renamed : (base : ℕ) (a : Around) (ds : Definitions) → ((n : ℕ) → is_among (definition_names ds) n ≡ true → (k : ℕ) × (nearest a.values n ≡ Some k)) → definition_names (apart_definitions base a ds) ≡ map (new_of base a.values) (definition_names ds)
unfolding apart_definitions
definitions_renamed base a no_definitions h = refl
definitions_renamed base a (more_definitions ds x f) h =
    let i = definitions_renamed base a ds (λ n t. h n (among_both (definition_names ds) (x.name.0 ∷ []) n ∙ or_left (is_among (definition_names ds) n) (is_among (x.name.0 ∷ []) n) t)) in
    let one : is_among (x.name.0 ∷ []) x.name.0 ≡ true = or_left (nat_eq x.name.0 x.name.0) false (eq_itself x.name.0) in
    let w = h x.name.0 (among_both (definition_names ds) (x.name.0 ∷ []) x.name.0 ∙ or_right (is_among (definition_names ds) x.name.0) (is_among (x.name.0 ∷ []) x.name.0) one) in
    let j : (own_or base x.name (nearest a.values x.name.0)).0 ≡ new_of base a.values x.name.0 = ap (λ o. (own_or base x.name o).0) w.1 ∙ sym (new_told base a.values x.name.0 w.0 w.1) in
    ap (λ ns. ns ++ (own_or base x.name (nearest a.values x.name.0)).0 ∷ []) i
    ∙ (ap (λ m. map (new_of base a.values) (definition_names ds) ++ m ∷ []) j
    ∙ sym (map-append (new_of base a.values) (definition_names ds) (x.name.0 ∷ [])))

definitions_alike : {base : ℕ} {names : List (List ℕ)} {a : Around} {e d : Values} (ds : Definitions) (vs : List core.Val) → Alike base names a e d → length vs ≡ length (definition_names ds)
    → let b = with_values (defined ds) a in Alike base names b (binding (definition_names ds) vs e) (binding (map (new_of base b.values) (definition_names ds)) vs d)
definitions_alike {base = base} {a = a} {e = e} {d = d} ds vs x l =
    let b = with_values (defined ds) a in
    let ns = definition_names ds in
    let y : Opens ns a.values b.values a.next_value b.next_value = subst (λ ms. Opens ms a.values b.values a.next_value b.next_value) (names_defined ds) (values_open (defined ds) a) in
    let t : TellsOf base (new_of base b.values) ns b.values = λ n k i f. new_told base b.values n k f in
    within ns (new_of base b.values) x y t (values_texts (defined ds) a) (binds ns (new_of base b.values) vs e d (omega (arith, l)) (told_apart base ns (new_of base b.values) y t))

definitions_known : (ds : Definitions) (a : Around) (n : ℕ) → is_among (definition_names ds) n ≡ true → (k : ℕ) × (nearest (with_values (defined ds) a).values n ≡ Some k)
definitions_known ds a n t = let i = (values_open (defined ds) a).inside n (subst (λ ns. is_among ns n ≡ true) (sym (names_defined ds)) t) in (i.0, i.1)

-- one name of a `new`
new_alike : {base : ℕ} {names : List (List ℕ)} {a : Around} {e d : Values} (x : Id) (t : TypeTree) (c : core.Val) → Alike base names a e d → Alike base names (opens (binds_value x ▸ in_type t) a) ((x.name.0, c) ∷ e) ((base + a.next_value, c) ∷ d)
unfolding opens
new_alike {base = base} {a = a} {e = e} {d = d} x t c h =
    let y = opens_one x.name.0 a.next_value a.values in
    let told : TellsOf base (λ n. base + a.next_value) (x.name.0 ∷ []) (with_value x a).values = λ n k i f. let s = number_same a.next_value k (subst (λ m. nearest (with_value x a).values m ≡ Some a.next_value) (one_name x.name.0 n i) (at_one x.name.0 a.next_value a.values)) f in ap (λ j. base + j) s in
    let z = within {b = with_value x a} (x.name.0 ∷ []) (λ n. base + a.next_value) h y told refl (binds (x.name.0 ∷ []) (λ n. base + a.next_value) (c ∷ []) e d (omega arith) (told_apart base (x.name.0 ∷ []) (λ n. base + a.next_value) y told)) in
    past (in_type t) (keeps_type t) z

-- all forms
alias_keeps : (x : Id) (t : TypeTree) (a : Around) → (opens (binds_type x (in_type t)) a).values ≡ a.values
unfolding opens
alias_keeps x t a = (keeps_type t).values _

mutual
  unfolding sending sending_chan with_vals with_labelled with_fields arguments reader dec_core decs_core servers proc_core procs_core apart_val apart_chan apart_field_vals apart_vals apart_labelled_vals apart_abs apart_dec apart_decs apart_definitions apart_proc apart_procs apart_fields opens

  sending_same : {base : ℕ} {names : List (List ℕ)} {a : Around} {e d : Values} (v : Val) → Alike base names a e d → Clean (in_val v) a → sending (place names d) (apart_val base a v) ≡ sending (place names e) v
  sending_same (of_chan c) h k = sending_chan_same c h k
  sending_same (number_val s n) h k = refl
  sending_same (character_val s b) h k = refl
  sending_same (string_val s b) h k = refl
  sending_same (true_val s) h k = refl
  sending_same (false_val s) h k = refl
  sending_same {names = names} {e = e} (fields_val s f) h k = fun_ext (λ u. ap (λ w. w (λ vs ls. output u (record_of_fields (place names e) vs ls) s)) (fields_same f h k))
  sending_same {a = a} (if_val s c v w) h k =
      let q = second_clean (in_val c) (in_val v ▸ in_val w) a k in
      let x = past (in_val c) (keeps_val c) h in
      let l = first_clean (in_val c) (in_val v ▸ in_val w) a k in
      let i = sending_same v x (first_clean (in_val v) (in_val w) (opens (in_val c) a) q) in
      let j = sending_same w (past (in_val v) (keeps_val v) x) (second_clean (in_val v) (in_val w) (opens (in_val c) a) q) in
      fun_ext (λ u. one_same (simple_same c h l) (sending_same c h l) (λ b. choice_same b (ap (λ z. z u) i) (ap (λ z. z u) j)))
  sending_same (lambda_val s f) h k = fun_ext (λ u. new_channel_same (λ x. ap (λ z. beside z (output u x s)) (reader_same f h k x true)))

  sending_chan_same : {base : ℕ} {names : List (List ℕ)} {a : Around} {e d : Values} (c : Chan) → Alike base names a e d → Clean (in_chan c) a → sending_chan (place names d) (apart_chan base a c) ≡ sending_chan (place names e) c
  sending_chan_same (use_chan s n) h k = fun_ext (λ u. ap (λ z. output u z s) (same_use s n h k))
  sending_chan_same {base = base} {names = names} {a = a} {e = e} {d = d} (fold_chan s r v) h k =
      let x = past (in_annotation r) (keeps_annotation r) h in
      let q = second_clean (in_annotation r) (in_val v) a k in
      fun_ext (λ u. ap (λ z. sent_as_one z u s (sending (place names d) (apart_val base (opens (in_annotation r) a) v) u)) (simple_same v x q) ∙ ap (λ z. sent_as_one (simple (place names e) v) u s (z u)) (sending_same v x q))
  sending_chan_same {base = base} {names = names} {a = a} {e = e} {d = d} (block_chan s ds v) h k =
      let q = closed_clean (in_decs ds ▸ in_val v) a k in
      fun_ext (λ u. decs_same ds (λ p. sending p (apart_val base (opens (in_decs ds) a) v) u) (λ p. sending p v u) h (first_clean (in_decs ds) (in_val v) a q)
      (λ e' d' x. ap (λ z. z u) (sending_same v x (second_clean (in_decs ds) (in_val v) a q))))
  sending_chan_same {names = names} {a = a} {e = e} (apply_chan s f vs) h k =
      let l = first_clean (in_val f) (in_field_vals vs) a k in
      let i = fields_same vs (past (in_val f) (keeps_val f) h) (second_clean (in_val f) (in_field_vals vs) a k) in
      fun_ext (λ u. one_same (simple_same f h l) (sending_same f h l) (λ g. ap (λ w. w (λ us ls. output g (record_of_fields (place names e) (us ++ u ∷ []) ls) s)) i))
  sending_chan_same {base = base} {names = names} {a = a} {e = e} {d = d} (right_chan s f vs) h k =
      let i = same_use f.span f.name h (first_clean (value_use f.span f.name.0) (in_vals vs) a k) in
      let j = arguments_same vs (past (value_use f.span f.name.0) keeps_value_use h) (second_clean (value_use f.span f.name.0) (in_vals vs) a k) in
      fun_ext (λ u. ap (λ z. (right (use_of (place names d) (renamed base a f.name).0) s z).sent u) j ∙ ap (λ z. (right z s (arguments (place names e) vs)).sent u) i)
  sending_chan_same {base = base} {names = names} {a = a} {e = e} {d = d} (left_chan s f vs) h k =
      let i = same_use f.span f.name h (first_clean (value_use f.span f.name.0) (in_vals vs) a k) in
      let j = arguments_same vs (past (value_use f.span f.name.0) keeps_value_use h) (second_clean (value_use f.span f.name.0) (in_vals vs) a k) in
      fun_ext (λ u. ap (λ z. (left (use_of (place names d) (renamed base a f.name).0) s z).sent u) j ∙ ap (λ z. (left z s (arguments (place names e) vs)).sent u) i)

  vals_same : {base : ℕ} {names : List (List ℕ)} {a : Around} {e d : Values} (vs : Vals) → Alike base names a e d → Clean (in_vals vs) a → with_vals (place names d) (apart_vals base a vs) ≡ with_vals (place names e) vs
  vals_same no_vals h k = refl
  vals_same {base = base} {names = names} {a = a} {e = e} {d = d} (more_vals vs v) h k =
      let i = vals_same vs h (first_clean (in_vals vs) (in_val v) a k) in
      let x = past (in_vals vs) (keeps_vals vs) h in
      let q = second_clean (in_vals vs) (in_val v) a k in
      let b = opens (in_vals vs) a in
      fun_ext (λ f. ap (λ w. w (λ us. with_one (simple (place names d) (apart_val base b v)) (sending (place names d) (apart_val base b v)) (λ u. f (us ++ u ∷ [])))) i
      ∙ ap (with_vals (place names e) vs) (fun_ext (λ us. one_same (simple_same v x q) (sending_same v x q) (λ u. refl))))

  labelled_same : {base : ℕ} {names : List (List ℕ)} {a : Around} {e d : Values} (ls : LabelledVals) → Alike base names a e d → Clean (in_labelled_vals ls) a → with_labelled (place names d) (apart_labelled_vals base a ls) ≡ with_labelled (place names e) ls
  labelled_same no_labelled_vals h k = refl
  labelled_same {base = base} {names = names} {a = a} {e = e} {d = d} (more_labelled_vals ls l v) h k =
      let i = labelled_same ls h (first_clean (in_labelled_vals ls) (once S4 l ▸ in_val v) a k) in
      let x = past (once S4 l) keeps_once (past (in_labelled_vals ls) (keeps_labelled_vals ls) h) in
      let q = second_clean (once S4 l) (in_val v) (opens (in_labelled_vals ls) a) (second_clean (in_labelled_vals ls) (once S4 l ▸ in_val v) a k) in
      let b = opens (once S4 l) (opens (in_labelled_vals ls) a) in
      fun_ext (λ f. ap (λ w. w (λ us. with_one (simple (place names d) (apart_val base b v)) (sending (place names d) (apart_val base b v)) (λ u. f (us ++ (l.name.0, u) ∷ [])))) i
      ∙ ap (with_labelled (place names e) ls) (fun_ext (λ us. one_same (simple_same v x q) (sending_same v x q) (λ u. refl))))

  fields_same : {base : ℕ} {names : List (List ℕ)} {a : Around} {e d : Values} (f : FieldVals) → Alike base names a e d → Clean (in_field_vals f) a → with_fields (place names d) (apart_field_vals base a f) ≡ with_fields (place names e) f
  fields_same {base = base} {names = names} {a = a} {e = e} {d = d} (field_vals ts vs ls) h k =
      let b = opens (in_types ts) a in
      let c = with_group [] (opens (in_vals vs) b) in
      let x = past (in_types ts) (keeps_types ts) h in
      let q = second_clean (in_types ts) (in_vals vs ▸ group (in_labelled_vals ls)) a k in
      let i = vals_same vs x (first_clean (in_vals vs) (group (in_labelled_vals ls)) b q) in
      let j = labelled_same ls (grouped (past (in_vals vs) (keeps_vals vs) x)) (group_clean (in_labelled_vals ls) _ (second_clean (in_vals vs) (group (in_labelled_vals ls)) b q)) in
      fun_ext (λ f. ap (λ w. w (λ us. with_labelled (place names d) (apart_labelled_vals base c ls) (λ ws. f us ws))) i
      ∙ ap (λ w. with_vals (place names e) vs (λ us. w (λ ws. f us ws))) j)

  arguments_same : {base : ℕ} {names : List (List ℕ)} {a : Around} {e d : Values} (vs : Vals) → Alike base names a e d → Clean (in_vals vs) a → arguments (place names d) (apart_vals base a vs) ≡ arguments (place names e) vs
  arguments_same no_vals h k = refl
  arguments_same {base = base} {names = names} {a = a} {e = e} {d = d} (more_vals vs v) h k =
      let i = arguments_same vs h (first_clean (in_vals vs) (in_val v) a k) in
      let x = past (in_vals vs) (keeps_vals vs) h in
      let q = second_clean (in_vals vs) (in_val v) a k in
      let b = opens (in_vals vs) a in
      ap (λ z. z ++ argument (simple (place names d) (apart_val base b v)) (sending (place names d) (apart_val base b v)) ∷ []) i
      ∙ (ap (λ z. arguments (place names e) vs ++ argument z (sending (place names d) (apart_val base b v)) ∷ []) (simple_same v x q)
      ∙ ap (λ z. arguments (place names e) vs ++ argument (simple (place names e) v) z ∷ []) (sending_same v x q))

  reader_same : {base : ℕ} {names : List (List ℕ)} {a : Around} {e d : Values} (f : Abs) → Alike base names a e d → Clean (in_abs f) a → (x : core.Val) (r : Bool) → reader (place names d) (apart_abs base a f) x r ≡ reader (place names e) f x r
  reader_same {base = base} {a = a} (process_abs s p q) h k x r =
      let l = closed_clean (pattern (in_pat p) empty ▸ in_proc q) a k in
      input_renamed x r p empty (λ o. proc_core o (apart_proc base (opens (pattern (in_pat p) empty) a) q)) (λ o. proc_core o q) keeps_empty h
      (pattern_clean (in_pat p) empty a (first_clean (pattern (in_pat p) empty) (in_proc q) a l))
      (λ e' d' y. proc_same q y (second_clean (pattern (in_pat p) empty) (in_proc q) a l))
  reader_same {base = base} {names = names} {a = a} {e = e} {d = d} (function_abs s (field_pats bs ps ls) t v) h k x r =
      let o = in_field_pats (field_pats bs ps ls) ▸ in_annotation t in
      let l = closed_clean (pattern o empty ▸ in_val v) a k in
      let c = pattern_clean o empty a (first_clean (pattern o empty) (in_val v) a l) in
      let b = opens (in_pattern_binders bs) (before_pattern a) in
      reader_is names d s bs (apart_pats base b ps) (apart_labelled_pats base (with_group [] (opens (in_pats ps) b)) ls) t (apart_val base (opens (pattern o empty) a) v) x r
      ∙ (reader_of_function x r bs ps ls t (λ o' u. sending o' (apart_val base (opens (pattern o empty) a) v) u) (λ o' u. sending o' v u) h
      (first_clean (in_field_pats (field_pats bs ps ls)) (in_annotation t) (before_pattern a) c)
      (λ e' d' u y. ap (λ z. z u) (sending_same v y (second_clean (pattern o empty) (in_val v) a l)))
      ∙ sym (reader_is names e s bs ps ls t v x r))

  dec_same : {base : ℕ} {names : List (List ℕ)} {a : Around} {e d : Values} (δ : Dec) (f g : Place → Placed) → Alike base names a e d → Clean (in_dec δ) a
      → ((e' d' : Values) → Alike base names (opens (in_dec δ) a) e' d' → f (place names d') ≡ g (place names e')) → dec_core (place names d) (apart_dec base a δ) f ≡ dec_core (place names e) δ g
  dec_same (new_dec s x t) f g h k same = new_channel_same (λ c. same _ _ (new_alike x t c h))
  dec_same (run_dec s p) f g h k same = beside_same (proc_same p h k) (same _ _ (past (in_proc p) (keeps_proc p) h))
  dec_same {base = base} {a = a} (let_dec s p v) f g h k same =
      let i = sending_same v (behind_alike (in_pat p) h) (behind_clean (in_pat p) (in_val v) a k) in
      new_channel_same (λ c. beside_same (input_renamed c true p (in_val v) f g (keeps_val v) h (pattern_clean (in_pat p) (in_val v) a k) same) (ap (λ z. z c) i))
  dec_same {base = base} {names = names} {a = a} {e = e} {d = d} (def_dec s ds) f g h k same =
      let b = with_values (defined ds) a in
      let ns = definition_names ds in
      let n = new_of base b.values in
      let es = apart_definitions base (with_group [] b) ds in
      let c = group_clean (in_definitions ds) b (second_clean (binds_all (defined ds)) (group (in_definitions ds)) a k) in
      ap (λ ms. new_channels (length ms) (λ xs. served (servers (bound ms xs (place names d)) es) xs (f (bound ms xs (place names d))))) (definitions_renamed base (with_group [] b) ds (definitions_known ds a))
      ∙ (ap (λ l. new_channels l (λ xs. served (servers (bound (map n ns) xs (place names d)) es) xs (f (bound (map n ns) xs (place names d))))) (length-map ns n)
      ∙ channels_same (length ns) (λ xs l.
      let x = definitions_alike ds xs h l in
      let i = servers_same ds (grouped x) c in
      let j = same (binding ns xs e) (binding (map n ns) xs d) (past (group (in_definitions ds)) (keeps_group (keeps_definitions ds)) x) in
      ap (λ z. served z xs (f (place names (binding (map n ns) xs d)))) i ∙ ap (λ z. served (servers (place names (binding ns xs e)) ds) xs z) j))
  dec_same {a = a} (alias_dec s x t) f g h k same = same _ _ (later (opens (in_dec (alias_dec s x t)) a) h (same_texts (in_dec (alias_dec s x t)) a) (alias_keeps x t a) (counts_up (in_dec (alias_dec s x t)) a))
  dec_same {a = a} (operator_dec s x xs t) f g h k same = same _ _ (later (opens (in_dec (operator_dec s x xs t)) a) h (same_texts (in_dec (operator_dec s x xs t)) a) refl (counts_up (in_dec (operator_dec s x xs t)) a))
  dec_same {a = a} (await_dec s v) f g h k same =
      new_channel_same (λ c. beside_same (input_same c true unit_pat (λ vs l. same _ _ (past (in_val v) (keeps_val v) h))) (ap (λ z. z c) (sending_same v h k)))

  decs_same : {base : ℕ} {names : List (List ℕ)} {a : Around} {e d : Values} (ds : Decs) (f g : Place → Placed) → Alike base names a e d → Clean (in_decs ds) a
      → ((e' d' : Values) → Alike base names (opens (in_decs ds) a) e' d' → f (place names d') ≡ g (place names e')) → decs_core (place names d) (apart_decs base a ds) f ≡ decs_core (place names e) ds g
  decs_same no_decs f g h k same = same _ _ h
  decs_same {base = base} {a = a} (more_decs ds δ) f g h k same =
      decs_same ds (λ p. dec_core p (apart_dec base (opens (in_decs ds) a) δ) f) (λ p. dec_core p δ g) h (first_clean (in_decs ds) (in_dec δ) a k)
      (λ e' d' x. dec_same δ f g x (second_clean (in_decs ds) (in_dec δ) a k) same)

  servers_same : {base : ℕ} {names : List (List ℕ)} {a : Around} {e d : Values} (ds : Definitions) → Alike base names a e d → Clean (in_definitions ds) a → servers (place names d) (apart_definitions base a ds) ≡ servers (place names e) ds
  servers_same no_definitions h k = refl
  servers_same {base = base} {names = names} {a = a} {e = e} {d = d} (more_definitions ds x f) h k =
      let b = opens (in_definitions ds) a in
      let q = second_clean (in_definitions ds) (once S3 x ▸ defines x ▸ in_abs f) a k in
      let i = servers_same ds h (first_clean (in_definitions ds) (once S3 x ▸ defines x ▸ in_abs f) a k) in
      let y = past (defines x) keeps_defines (past (once S3 x) keeps_once (past (in_definitions ds) (keeps_definitions ds) h)) in
      let l = second_clean (defines x) (in_abs f) (opens (once S3 x) b) (second_clean (once S3 x) (defines x ▸ in_abs f) b q) in
      let g = apart_abs base (opens (defines x) (opens (once S3 x) b)) f in
      ap (λ z. z ++ (λ u. reader (place names d) g u true) ∷ []) i
      ∙ ap (λ z. servers (place names e) ds ++ z ∷ []) (fun_ext (λ u. reader_same f y l u true))

  proc_same : {base : ℕ} {names : List (List ℕ)} {a : Around} {e d : Values} (p : Proc) → Alike base names a e d → Clean (in_proc p) a → proc_core (place names d) (apart_proc base a p) ≡ proc_core (place names e) p
  proc_same {a = a} (send_proc s c v) h k =
      let l = first_clean (in_chan c) (in_val v) a k in
      let x = past (in_chan c) (keeps_chan c) h in
      let q = second_clean (in_chan c) (in_val v) a k in
      one_same (simple_chan_same c h l) (sending_chan_same c h l) (λ y. one_same (simple_same v x q) (sending_same v x q) (λ z. refl))
  proc_same {a = a} (receive_proc s c f) h k =
      let l = first_clean (in_chan c) (in_abs f) a k in
      one_same (simple_chan_same c h l) (sending_chan_same c h l) (λ y. reader_same f (past (in_chan c) (keeps_chan c) h) (second_clean (in_chan c) (in_abs f) a k) y false)
  proc_same {a = a} (serve_proc s c f) h k =
      let l = first_clean (in_chan c) (in_abs f) a k in
      one_same (simple_chan_same c h l) (sending_chan_same c h l) (λ y. reader_same f (past (in_chan c) (keeps_chan c) h) (second_clean (in_chan c) (in_abs f) a k) y true)
  proc_same {a = a} (if_proc s v p q) h k =
      let l = first_clean (in_val v) (in_proc p ▸ in_proc q) a k in
      let m = second_clean (in_val v) (in_proc p ▸ in_proc q) a k in
      let x = past (in_val v) (keeps_val v) h in
      let b = opens (in_val v) a in
      one_same (simple_same v h l) (sending_same v h l)
      (λ y. choice_same y (proc_same p x (first_clean (in_proc p) (in_proc q) b m)) (proc_same q (past (in_proc p) (keeps_proc p) x) (second_clean (in_proc p) (in_proc q) b m)))
  proc_same (inert_proc s) h k = refl
  proc_same {base = base} {a = a} (group_proc s ds ps) h k =
      let q = closed_clean (in_decs ds ▸ in_procs ps) a k in
      decs_same ds (λ o. side_by_side (procs_core o (apart_procs base (opens (in_decs ds) a) ps))) (λ o. side_by_side (procs_core o ps)) h (first_clean (in_decs ds) (in_procs ps) a q)
      (λ e' d' x. ap side_by_side (procs_same ps x (second_clean (in_decs ds) (in_procs ps) a q)))

  procs_same : {base : ℕ} {names : List (List ℕ)} {a : Around} {e d : Values} (ps : Procs) → Alike base names a e d → Clean (in_procs ps) a → procs_core (place names d) (apart_procs base a ps) ≡ procs_core (place names e) ps
  procs_same no_procs h k = refl
  procs_same {base = base} {names = names} {a = a} {e = e} {d = d} (more_procs ps p) h k =
      let i = procs_same ps h (first_clean (in_procs ps) (in_proc p) a k) in
      let j = proc_same p (past (in_procs ps) (keeps_procs ps) h) (second_clean (in_procs ps) (in_proc p) a k) in
      ap (λ z. z ++ proc_core (place names d) (apart_proc base (opens (in_procs ps) a) p) ∷ []) i ∙ ap (λ z. procs_core (place names e) ps ++ z ∷ []) j

-- the whole program
pub same_core : ApartIsSame
same_core names p h =
    ap (λ q. q 0) (decs_same p (λ o. inert) (λ o. inert) begun h (λ e d x. refl))
  where
    begun : Alike (length names) names (outermost names) [] []
    begun = record { texts = refl; enough = omega arith; below = λ n k e. absurd cc; bound = λ n k e. absurd cc; unbound = λ n e. refl; fresh = λ n lt. refl }
