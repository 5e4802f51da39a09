-- The steps of fields and of applications.
use Rattle.std.proofs.Common.{◌≡◌, ◌≢◌, ◌≤◌, ℕ, zero, suc, nat_eq, ◌||◌, Bool, true, false, not, List, [], ◌∷◌, ◌++◌, map, length, Option, Some, None, refl, sym, ◌∙◌, ap, subst, arith, eqb-true, append-nil, append_assoc}
use Rattle.std.specs.Prelude.{if◌then◌else◌}
use Rattle.std.specs.Ordering.{is_lt}
use Rattle.std.proofs.lemmas.Bool.{eq-eqb}
use Rattle.pict_syntax.specs.declared.code.Code.{Code}
use Rattle.pict_syntax.specs.declared.code.Code.TheVariants.{K1, K5, Y9}
use Rattle.pict_syntax.specs.declared.id.Id.{Id}
use Rattle.pict_syntax.specs.declared.span.Span.{Span}
use Rattle.pict_syntax.specs.Grammar.{type_span, val_span}
use Rattle.pict_syntax.specs.Labels.{label_cmp, in_label_order}
use Rattle.pict_syntax.specs.Trees.{TypeTrees, no_types, more_types, Val, Vals, no_vals, more_vals, FieldVals, field_vals, LabelledVals, no_labelled_vals, more_labelled_vals, Decs}
use Rattle.pict_types.specs.AsMarked.{varies_as, VaryAsMarked}
use Rattle.pict_types.specs.Types.{PlainType, PlainTypes, no_type, types, PlainLabels, no_label, labels, PlainBound, Free, Below, Operator, PlainBounds, no_bound, bounds, PlainArg, count_types, count_bounds, type_at}
use Rattle.pict_types.specs.Replacing.{arguments, replace, replace_types, replace_labels, instance_of}
use Rattle.pict_normal.specs.Normal.{and_type, with_labelled_type, count_trees}
use Rattle.pict_normal.specs.WrittenArguments.{normal_arg, arg_stop}
use Rattle.pict_scope.specs.Scopes.{scope_stop}
use Rattle.pict_sub.specs.Exposing.{exposure}
use Rattle.pict_sub.proofs.Exposed.{exposes}
use Rattle.pict_sub.proofs.Followed.{below_exposed}
use Rattle.pict_rules.specs.Counts.{count_vals}
use Rattle.pict_rules.specs.Found.{Found, filled, argument_in, mentions_missing, with_found, all_found, matched}
use Rattle.pict_rules.specs.Shapes.{applicable, is_written, all_written, none_written, nth_type, nth_bound}
use Rattle.pict_rules.specs.Environments.{Environment, context_of}
use Rattle.pict_rules.specs.Rules.{Sort, Result, types_, labels_, arguments_, found_, type_, Rule, values_give, labelled_values_give, application, fields_fit, written_arguments, values_fit, labelled_values_fit, value_fits, given_fits}
use Rattle.pict_rules.specs.Clauses.{within_bound, within_bounds, is_of_kind}
use Rattle.pict_scope.specs.DistinctLabels.{LabelledValsAreDistinct}
use Rattle.pict_rules.specs.Regular.{IsTypeIn}
use Rattle.pict_rules.proofs.RegularArguments.{with_found_formed}
use Rattle.pict_rules.proofs.RegularProcesses.{exposed_formed}
use Rattle.pict_typing.specs.Worlds.{World}
use Rattle.pict_bridge.specs.Opening.{meaning}
use Rattle.pict_bridge.proofs.Reaching.{Gives, gives_, refuses, needs, parts, splits, ensures, unless, limits, in_functions, in_labels, expects}
use Rattle.pict_bridge.proofs.FieldsOpen.{label_meanings}
use Rattle.pict_bridge.proofs.Ordered.{ordered_last, type_at_new, type_at_other}
use Rattle.pict_bridge.proofs.PatternSteps.{first_types, all_types}
use Rattle.pict_bridge.specs.Realising.{around, Realises}
use Rattle.pict_bridge.proofs.Realised.{type_means}
use Rattle.pict_bridge.proofs.SentLists.{AreSent, none_sent, more_sent, no_label_sent, label_sent, labels_list, labels_new, put_labels_list, list_lacks}
use Rattle.pict_bridge.proofs.FoundStays.{Stays, stays_same, stays_on, found_same, given_stay, matched_stays, stays_no_operator, found_vary}
use Rattle.pict_bridge.proofs.Meant.{IsWithinBound, AreWithinBounds}
use Rattle.pict_bridge.proofs.Judged.{Values, Wherever, SentBy, AllSentBy, LabelsGiven, found_types, ValuesFit, LabelsFound, LabelsFit, ValueFits, FieldsFit, meant_types, IsExpectedAbove, IsSound, Step}
use Rattle.pict_bridge.proofs.Rightly.{rightly, well}
use Rattle.pict_bridge.proofs.Whole.{sent_above}
use Rattle.pict_bridge.proofs.FieldForms.{stand_once, is_applied, application_sent}
use Rattle.pict_normal.proofs.Used.{and_cases}

-- ---- values that give their types

meant_last : (f : ℕ → ℕ) (ts : PlainTypes) (t : PlainType) → meant_types f (and_type ts t) ≡ meant_types f ts ++ meaning f t ∷ []
meant_last f no_type t = refl
meant_last f (types s ts) t = ap (λ z. meaning f s ∷ z) (meant_last f ts t)

one_more_sent : (e : Environment) (us : Vals) (u : Val) (ts : PlainTypes) (t : PlainType) → IsTypeIn e t → AllSentBy e us ts → SentBy e u t → AllSentBy e (more_vals us u) (and_type ts t)
one_more_sent e us u ts t q h k vs f w r = subst (AreSent w (around e vs) (more_vals us u)) (sym (meant_last f ts t)) (more_sent (meaning f t) (h vs f w r) (type_means t r q) (k vs f w r))

labels_meant : (names : List (List ℕ)) (f : ℕ → ℕ) (l : ℕ) (t : PlainType) (ms : PlainLabels) → label_meanings f (with_labelled_type names l t ms) ≡ with_labelled_type names l (meaning f t) (label_meanings f ms)
labels_meant names f l t no_label = refl
labels_meant names f l t (labels m u ms) = go (is_lt (label_cmp names l m)) (labels_meant names f l t ms)
  where
    go : (b : Bool) → label_meanings f (with_labelled_type names l t ms) ≡ with_labelled_type names l (meaning f t) (label_meanings f ms) → label_meanings f (if b then labels l t (labels m u ms) else labels m u (with_labelled_type names l t ms)) ≡ (if b then labels l (meaning f t) (labels m (meaning f u) (label_meanings f ms)) else labels m (meaning f u) (with_labelled_type names l (meaning f t) (label_meanings f ms)))
    go true h = refl
    go false h = ap (labels m (meaning f u)) h

one_more_label : (e : Environment) (ls : LabelledVals) (l : Id) (u : Val) (ms : PlainLabels) (t : PlainType) → IsTypeIn e t → Wherever e (LabelsGiven e ls ms) → SentBy e u t → Wherever e (LabelsGiven e (more_labelled_vals ls l u) (with_labelled_type e.names l.name.0 t ms))
one_more_label e ls l u ms t q h k vs f w r =
    let x = h vs f w r in
    record {
      types_ = x.types_ ++ (l.name.0, meaning f t) ∷ [];
      sent = label_sent (meaning f t) x.sent (type_means t r q) (k vs f w r);
      same_ = ap labels_list (ordered_last e.names x.types_ l.name.0 (meaning f t)) ∙ put_labels_list e.names l.name.0 (meaning f t) (in_label_order e.names x.types_) ∙ ap (with_labelled_type e.names l.name.0 (meaning f t)) x.same_ ∙ sym (labels_meant e.names f l.name.0 t ms);
    }

-- ---- values in their fields

found_last : (h : Found) (n : ℕ) (ts : PlainTypes) → suc n ≤ count_types ts → found_types h (first_types (suc n) ts) ≡ and_type (found_types h (first_types n ts)) (with_found h (nth_type n ts))
found_last h n no_type le = absurd (omega (arith, le))
found_last h zero (types t ts) le = refl
found_last h (suc n) (types t ts) le = ap (types (with_found h t)) (found_last h n ts (omega (arith, le)))

-- what a value fits, it fits from then on
sent_later : (e : Environment) (v : Val) (t : PlainType) (found g h : Found) → ValueFits e v t found g → Stays g h → SentBy e v (with_found h t) × IsTypeIn e (with_found h t)
sent_later e v t found g h x k = let q = found_same g h t k x.known in (subst (SentBy e v) q x.sent, subst (IsTypeIn e) q x.formed)

one_more_fits : (e : Environment) (us : Vals) (u : Val) (ts : PlainTypes) (found g h : Found) → suc (count_vals us) ≤ count_types ts → ValuesFit e us ts found g → ValueFits e u (nth_type (count_vals us) ts) g h → ValuesFit e (more_vals us u) ts found h
one_more_fits e us u ts found g h le x y = record {
  stays = stays_on found g h x.stays y.stays;
  sent = λ i k.
      let z = sent_later e u (nth_type (count_vals us) ts) g h i y k in
      subst (AllSentBy e (more_vals us u)) (sym (found_last i (count_vals us) ts le)) (one_more_sent e us u (found_types i (first_types (count_vals us) ts)) (with_found i (nth_type (count_vals us) ts)) z.1 (x.sent i (stays_on g h i y.stays k)) z.0);
}

no_label_fits : (e : Environment) (ms : PlainLabels) (found : Found) → LabelsFit e no_labelled_vals ms found found
no_label_fits e ms found = record { stays = stays_same found; sent = λ h k vs f w r. record { types_ = []; sent = no_label_sent; at_ = λ l t q b. absurd (cc) } }

-- one labelled value more, at the type at its label, or at any type
label_fits : (e : Environment) (ls : LabelledVals) (l : Id) (u : Val) (ms : PlainLabels) (found g h : Found) → LabelledValsAreDistinct (more_labelled_vals ls l u) → LabelsFit e ls ms found g → Stays g h → ((i : Found) → Stays h i → (t : PlainType) × SentBy e u t × IsTypeIn e t × ((s : PlainType) → type_at l.name.0 ms ≡ Some s → t ≡ with_found i s)) → LabelsFit e (more_labelled_vals ls l u) ms found h
label_fits e ls l u ms found g h distinct x q y = record { stays = stays_on found g h x.stays q; sent = λ i k vs f w r. at_once i (y i k) vs f w r (x.sent i (stays_on g h i q k) vs f w r) }
  where
    n : ℕ
    n = l.name.0

    at_once : (i : Found) (z : (t : PlainType) × SentBy e u t × IsTypeIn e t × ((s : PlainType) → type_at n ms ≡ Some s → t ≡ with_found i s)) (vs : Values) (f : ℕ → ℕ) (w : World) → Realises e vs f w → LabelsFound e ls ms i vs f w → LabelsFound e (more_labelled_vals ls l u) ms i vs f w
    at_once i z vs f w r old = record {
      types_ = old.types_ ++ (n, meaning f z.0) ∷ [];
      sent = label_sent (meaning f z.0) old.sent (type_means z.0 r z.2) (z.1 vs f w r);
      at_ = λ m t a b. ap (type_at m) all_same ∙ here m t a (nat_eq m n) refl b;
    }
      where
        sorted : PlainLabels
        sorted = labels_list (in_label_order e.names old.types_)

        all_same : labels_list (in_label_order e.names (old.types_ ++ (n, meaning f z.0) ∷ [])) ≡ with_labelled_type e.names n (meaning f z.0) sorted
        all_same = ap labels_list (ordered_last e.names old.types_ n (meaning f z.0)) ∙ put_labels_list e.names n (meaning f z.0) (in_label_order e.names old.types_)

        here : (m : ℕ) (t : PlainType) → type_at m ms ≡ Some t → (c : Bool) → nat_eq m n ≡ c → (nat_eq m n || is_written m ls) ≡ true → type_at m (with_labelled_type e.names n (meaning f z.0) sorted) ≡ Some (meaning f (with_found i t))
        here m t a true c b =
            let s : m ≡ n = eqb-true m n c in
            let k : z.0 ≡ with_found i t = z.3 t (subst (λ j. type_at j ms ≡ Some t) s a) in
            ap (λ j. type_at j (with_labelled_type e.names n (meaning f z.0) sorted)) s
            ∙ type_at_new e.names n (meaning f z.0) sorted (list_lacks n (in_label_order e.names old.types_) (labels_new e.names n old.sent distinct.1.0))
            ∙ ap (λ j. Some (meaning f j)) k
        here m t a false c b =
            let d : m ≢ n = λ s. no_way (eq-eqb m n s) c in
            type_at_other e.names m n (meaning f z.0) sorted d ∙ old.at_ m t a (ap (λ j. j || is_written m ls) (sym c) ∙ b)
          where
            no_way : {b : Bool} → b ≡ true → b ≡ false → ⊥
            no_way p q = let o : true ≡ false = sym p ∙ q in cc

-- ---- type arguments

none_within : (e : Environment) (bs : PlainBounds) (earlier : List PlainArg) → AreWithinBounds e bs earlier []
none_within e no_bound earlier = tt
none_within e (bounds b bs) earlier = tt

within_last : (e : Environment) (bs : PlainBounds) (earlier args : List PlainArg) (a : PlainArg) → AreWithinBounds e bs earlier args → IsWithinBound e (nth_bound (length args) bs) (earlier ++ args) a → AreWithinBounds e bs earlier (args ++ a ∷ [])
within_last e no_bound earlier args a h k = tt
within_last e (bounds b bs) earlier [] a h k = (subst (λ z. IsWithinBound e b z a) (append-nil earlier) k, none_within e bs (earlier ++ a ∷ []))
within_last e (bounds b bs) earlier (x ∷ args) a h k = (h.0, within_last e bs (earlier ++ x ∷ []) args a h.1 (subst (λ z. IsWithinBound e (nth_bound (length args) bs) z a) (sym (append_assoc earlier (x ∷ []) args)) k))

-- ---- fields

found_replaced : (h : Found) (ts : PlainTypes) → found_types h ts ≡ replace_types (arguments (map argument_in h)) ts
found_replaced h no_type = refl
found_replaced h (types t ts) = ap (types (with_found h t)) (found_replaced h ts)

labels_replaced : (f : ℕ → ℕ) (h : Found) (l : ℕ) (t : PlainType) (ms : PlainLabels) → type_at l (label_meanings f (replace_labels (arguments (map argument_in h)) ms)) ≡ Some t → (s : PlainType) × (type_at l ms ≡ Some s) × (meaning f (with_found h s) ≡ t)
labels_replaced f h l t no_label e = absurd (cc)
labels_replaced f h l t (labels m u ms) e = go (nat_eq l m) refl (labels_replaced f h l t ms)
  where
    go : (b : Bool) → nat_eq l m ≡ b → (type_at l (label_meanings f (replace_labels (arguments (map argument_in h)) ms)) ≡ Some t → (s : PlainType) × (type_at l ms ≡ Some s) × (meaning f (with_found h s) ≡ t)) → (s : PlainType) × (type_at l (labels m u ms) ≡ Some s) × (meaning f (with_found h s) ≡ t)
    go true q k = let e2 : Some (meaning f (with_found h u)) ≡ Some t = rw q at e in let i : meaning f (with_found h u) ≡ t = cc in (u, rw q refl, i)
    go false q k = let z = k (rw q at e) in (z.0, rw q z.1, z.2)

label_written : (ls : LabelledVals) (l : ℕ) (s : PlainType) (ms : PlainLabels) → all_written ms ls ≡ true → type_at l ms ≡ Some s → is_written l ls ≡ true
label_written ls l s no_label h e = absurd (cc)
label_written ls l s (labels m u ms) h e = go (nat_eq l m) refl (label_written ls l s ms (and_cases (is_written m ls) (all_written ms ls) h).1)
  where
    go : (b : Bool) → nat_eq l m ≡ b → (type_at l ms ≡ Some s → is_written l ls ≡ true) → is_written l ls ≡ true
    go true q k = subst (λ z. is_written z ls ≡ true) (sym (eqb-true l m q)) (and_cases (is_written m ls) (all_written ms ls) h).0
    go false q k = k (rw q at e)

-- once all is found, the fields are sent at their types with the arguments put in
all_fit : (e : Environment) (us : Vals) (ls : LabelledVals) (bs : PlainBounds) (ps : PlainTypes) (ms : PlainLabels) (found g h : Found) (args : List PlainArg) → count_vals us ≡ count_types ps → all_written ms ls ≡ true → map argument_in h ≡ args → AreWithinBounds e bs [] args → ValuesFit e us ps found g → LabelsFit e ls ms g h → FieldsFit e us ls bs ps ms args
all_fit e us ls bs ps ms found g h args n written is within_ x y = record {
  within_ = within_;
  sent = λ vs f w r. let z = y.sent h (stays_same h) vs f w r in record {
    sent = subst (λ ts. AreSent w (around e vs) us (meant_types f ts)) types_same (x.sent h y.stays vs f w r);
    types_ = z.types_;
    labelled = z.sent;
    at_ = λ l t q.
        let k = labels_replaced f h l t ms (subst (λ args2. type_at l (label_meanings f (replace_labels (arguments args2) ms)) ≡ Some t) (sym is) q) in
        z.at_ l k.0 k.1 (label_written ls l k.0 ms written k.1) ∙ ap Some k.2;
  };
}
  where
    types_same : found_types h (first_types (count_vals us) ps) ≡ replace_types (arguments args) ps
    types_same = ap (found_types h) (all_types (count_vals us) ps n) ∙ found_replaced h ps ∙ ap (λ args2. replace_types (arguments args2) ps) is

-- ---- the steps

module _ (names : List (List ℕ)) (program : Decs) (clean : scope_stop names program ≡ None) where
  within_ : {s : Sort} {P : Result s → Type 0} (e : Environment) (node : Span) (b : PlainBound) (earlier : List PlainArg) (a : PlainArg) (c : Code) (i : Span) {r : Rule s} → varies_as (context_of e) a b ≡ true → (IsWithinBound e b earlier a → Gives names program IsSound s P r) → Gives names program IsSound s P (within_bound e node b earlier a c i r)
  within_ e node Free earlier a c i v h = h tt
  within_ e node (Operator ms) earlier a c i v h = h v
  within_ e node (Below b) earlier a c i v h = limits e (replace (arguments earlier) b) node (needs (λ q. h q))

  all_within : {s : Sort} {P : Result s → Type 0} (e : Environment) (node : Span) (bs : PlainBounds) (earlier args : List PlainArg) (c : Code) {r : Rule s} → VaryAsMarked (context_of e) args bs → (AreWithinBounds e bs earlier args → Gives names program IsSound s P r) → Gives names program IsSound s P (within_bounds e node bs earlier args c r)
  all_within e node no_bound earlier args c v h = h tt
  all_within e node (bounds b bs) earlier [] c v h = refuses
  all_within e node (bounds b bs) earlier (a ∷ args) c v h = within_ e node b earlier a c node v.0 (λ q. all_within e node bs (earlier ++ a ∷ []) args c v.1 (λ k. h (q, k)))

  pub positional_step : (e : Environment) (us : Vals) → Step names program types_ e (values_give us)
  positional_step e no_vals r = gives_ (λ vs f w k. none_sent)
  positional_step e (more_vals us u) r = parts (λ ts d r2 h. parts (λ t d2 r3 k. gives_ (one_more_sent e us u ts t (well t clean r3 d2) h k)))

  pub labelled_step : (e : Environment) (ls : LabelledVals) → Step names program labels_ e (labelled_values_give ls)
  labelled_step e no_labelled_vals r = gives_ (λ vs f w k. record { types_ = []; sent = no_label_sent; same_ = refl })
  labelled_step e (more_labelled_vals ls l u) r = parts (λ ms d r2 h. parts (λ t d2 r3 k. gives_ (one_more_label e ls l u ms t (well t clean r3 d2) h k)))

  pub written_step : (e : Environment) (s : Span) (ts : TypeTrees) (bs : PlainBounds) → Step names program arguments_ e (written_arguments s ts bs)
  written_step e s no_types bs r = gives_ (none_within e bs [])
  written_step e s (more_types ts t) bs r =
      parts (λ args d r2 h. unless (arg_stop e.names e.context t) (λ q. ensures (is_of_kind (normal_arg e.names e.context t) (nth_bound (count_trees ts) bs)) K1 (type_span t) (λ z.
      ensures (varies_as (context_of e) (normal_arg e.names e.context t) (nth_bound (count_trees ts) bs)) K5 (type_span t) (λ v.
      within_ e s (nth_bound (count_trees ts) bs) args (normal_arg e.names e.context t) Y9 (type_span t) v (λ k. gives_ (
      within_last e bs [] args (normal_arg e.names e.context t) h (subst (λ n. IsWithinBound e (nth_bound n bs) args (normal_arg e.names e.context t)) (sym (well args clean r2 d).1.1.0) k)))))))

  pub given_step : (e : Environment) (s : Span) (v : Val) (t u : PlainType) (g : Found) → Step names program found_ e (given_fits s v t u g)
  given_step e s v t u g r = ensures (not (mentions_missing g t)) _ (val_span v) (λ m. limits e (with_found g t) s (needs (λ q. gives_ (record { is = refl; known = not_true (mentions_missing g t) m; below = q }))))
    where
      not_true : (b : Bool) → not b ≡ true → b ≡ false
      not_true false h = refl
      not_true true h = absurd cc

  pub value_fits_step : (e : Environment) (s : Span) (v : Val) (t : PlainType) (found : Found) → Step names program found_ e (value_fits s v t found)
  value_fits_step e s v t found r =
      splits (mentions_missing found t)
      (λ m. parts (λ u d r2 h. parts (λ x d2 r3 k. gives_ (
      let g = matched (context_of e) 0 t u found in
      let a = (rightly clean r3).1.1 in
      let w : IsTypeIn e (with_found g t) = with_found_formed e g t a.1.1 a.0 in
      subst (ValueFits e v t found) (sym k.is) (record { stays = matched_stays (context_of e) 0 t u found; known = k.known; formed = w; sent = sent_above e v u (with_found g t) a.1.0 w k.below h })))))
      (λ m. limits e (with_found found t) s (parts (λ x d r2 h. gives_ (record { stays = stays_same found; known = m; formed = (rightly clean r2).1.1; sent = h }))))

  pub values_fit_step : (e : Environment) (s : Span) (us : Vals) (ts : PlainTypes) (found : Found) → Step names program found_ e (values_fit s us ts found)
  values_fit_step e s no_vals ts found r = gives_ (λ le. record { stays = stays_same found; sent = λ h k vs f w q. none_sent })
  values_fit_step e s (more_vals us u) ts found r = parts (λ g d r2 x. parts (λ h d2 r3 y. gives_ (λ le. one_more_fits e us u ts found g h le (x (omega (arith, le))) y)))

  pub labels_fit_step : (e : Environment) (s : Span) (ls : LabelledVals) (ms : PlainLabels) (found : Found) → Step names program found_ e (labelled_values_fit s ls ms found)
  labels_fit_step e s no_labelled_vals ms found r = gives_ (no_label_fits e ms found)
  labels_fit_step e s (more_labelled_vals ls l u) ms found r =
      let k = rightly clean r in
      parts (λ g d r2 x.
      in_labels (type_at l.name.0 ms)
      (λ t q. parts (λ h d2 r3 y. gives_ (label_fits e ls l u ms found g h k.0 x y.stays (λ i z. let o = sent_later e u t g h i y z in (with_found i t, o.0, o.1, λ s p. same_type i t s q p)))))
      (λ q. parts (λ t d2 r3 y. gives_ (label_fits e ls l u ms found g g k.0 x (stays_same g) (λ i z. (t, y, well t clean r3 d2, λ s p. absurd (no_type_there s q p)))))))
    where
      same_type : (i : Found) (t s : PlainType) → type_at l.name.0 ms ≡ Some t → type_at l.name.0 ms ≡ Some s → with_found i t ≡ with_found i s
      same_type i t s q p = let o : Some t ≡ Some s = sym q ∙ p in let z : t ≡ s = cc in ap (with_found i) z

      no_type_there : (s : PlainType) → type_at l.name.0 ms ≡ None → type_at l.name.0 ms ≡ Some s → ⊥
      no_type_there s q p = let o : None ≡ Some s = sym q ∙ p in cc

  pub fields_fit_step : (e : Environment) (s : Span) (f : FieldVals) (bs : PlainBounds) (ps : PlainTypes) (ms : PlainLabels) (found : Found) → Step names program arguments_ e (fields_fit s f bs ps ms found)
  fields_fit_step e s (field_vals tys us ls) bs ps ms found r =
      let asked = (rightly clean r).1.1 in
      ensures (none_written tys || nat_eq (count_trees tys) (count_bounds bs)) _ s (λ c.
      ensures (nat_eq (count_vals us) (count_types ps)) _ s (λ n.
      ensures (all_written ms ls) _ s (λ written.
      let m : count_vals us ≡ count_types ps = eqb-true (count_vals us) (count_types ps) n in
      splits (not (none_written tys))
      (λ b. parts (λ args d r2 h. limits e (instance_of args ps ms) s (parts (λ g d2 r3 x. parts (λ i d3 r4 y. gives_ (
      let z = x (omega (arith, m)) in
      all_fit e us ls bs ps ms (map filled args) g i args m written (given_stay args i (stays_on (map filled args) g i z.stays y.stays)) h z y))))))
      (λ b. parts {j = values_fit s us ps found} (λ g d2 r3 x. parts {j = labelled_values_fit s ls ms g} (λ i d3 r4 y. ensures (all_found i) _ s (λ a. all_within e s bs [] (map argument_in i) Y9 (found_vary (context_of e) i bs a (stays_no_operator found i (stays_on found g i (x (omega (arith, m))).stays y.stays) asked.1.1.1) ((well i clean r4 d3).0 ∙ (well g clean r3 d2).0 ∙ asked.1.0)) (λ q. gives_ (
      all_fit e us ls bs ps ms found g i (map argument_in i) m written refl q (x (omega (arith, m))) y)))))))))

  pub application_step : (e : Environment) (s : Span) (v : Val) (us : FieldVals) (o : Option PlainType) → Step names program type_ e (application s v us o)
  application_step e s v us o r =
      let k = rightly clean r in
      parts (λ t d r2 head.
      let q = well t clean r2 d in
      in_functions (applicable (exposure (context_of e) t)) _ (val_span v) (λ fn a. parts (λ args d2 r3 fit.
      let w = well args clean r3 d2 in
      let x = exposed_formed e t k.1.0 q in
      let sent = application_sent e s v us (exposure (context_of e) t) fn args x (is_applied (exposure (context_of e) t) fn a) w.0 w.1 (stand_once us k.0.1) (sent_above e v t (exposure (context_of e) t) q x (below_exposed (exposes (context_of e) t)) head) fit in
      limits e (replace (arguments args) fn.answer) s (expects e o (replace (arguments args) fn.answer) _ s (λ u is p. gives_ (sent, subst (λ z. IsExpectedAbove e z (replace (arguments args) fn.answer)) (sym is) p)) (λ is. gives_ (sent, subst (λ z. IsExpectedAbove e z (replace (arguments args) fn.answer)) (sym is) tt))))))
