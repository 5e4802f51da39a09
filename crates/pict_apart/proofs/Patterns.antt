-- Patterns under old names and new ones.
use Rattle.std.proofs.Common.{◌≡◌, ℕ, ◌+◌, ◌≤◌, Bool, true, false, ◌||◌, if◌then◌else◌, List, [], ◌∷◌, ◌++◌, map, Option, Some, None, refl, sym, ◌∙◌, ap, subst, arith, nat_eq, eqb-true, append-nil, append_assoc}
use Rattle.std.specs.Ordering.{is_lt}
use Rattle.std.proofs.lemmas.List.{map-append}
use Rattle.pict_syntax.specs.declared.code.Code.TheVariants.{S4}
use Rattle.pict_syntax.specs.declared.id.Id.{Id}
use Rattle.pict_syntax.specs.Labels.{label_cmp, with_label, with_labels, in_label_order}
use Rattle.pict_syntax.specs.Trees.{RType, TypeBinder, type_binder, TypeBinders, no_binders, more_binders, Pat, bind_pat, any_pat, fields_pat, fold_pat, field_pats, Pats, no_pats, more_pats, LabelledPats, no_labelled_pats, more_labelled_pats}
use Rattle.pict_core.specs.Term as core
use Rattle.pict_binders.specs.Numbered.{nearest}
use Rattle.pict_scope.specs.Around.{Around, is_among, with_pattern_value, with_group}
use Rattle.pict_scope.specs.Marks.{first_stop}
use Rattle.pict_scope.specs.Outlines.{Outline, ◌▸◌, closed, pattern_value, group, once, opens, marks, twice_if_bound}
use Rattle.pict_scope.specs.Forms.{in_annotation, in_pattern_binder, in_pattern_binders, in_pat, in_field_pats, in_pats, in_labelled_pats}
use Rattle.pict_scope.proofs.Clean.{left_clean}
use Rattle.pict_translation.specs.Patterns.{Opened, opened, all_opened, labelled_opened, patterns_in, labelled_patterns_in, names_opened, labelled_names_in, record_pat}
use Rattle.pict_apart.specs.Apart.{apart_pat, apart_fields, apart_pats, apart_labelled_pats}
use Rattle.pict_apart.proofs.Looking.{Opens, opens_none, opens_one, opens_both, opens_as, at_one, past_one, tested, some, among_both}
use Rattle.pict_rules.proofs.Kept.{pattern_keeps_annotation, pattern_keeps_bound}
use Rattle.pict_apart.proofs.Alike.{Clean, first_clean, second_clean, counts_up}

-- a piece of a pattern binds these names, each under a number of its own, and what was bound stays so
pub record Pieces (ns : List ℕ) (c b : Around) : Type 0 where
  pub opens_ : Opens ns c.pattern_values b.pattern_values c.next_value b.next_value
  pub stays : (n k : ℕ) → nearest c.pattern_values n ≡ Some k → nearest b.pattern_values n ≡ Some k

no_piece : (c b : Around) → b.pattern_values ≡ c.pattern_values → c.next_value ≤ b.next_value → Pieces [] c b
no_piece c b h le = record { opens_ = opens_none h le; stays = λ n k e. ap (λ x. nearest x n) h ∙ e }

one_piece : (x : Id) (c : Around) → nearest c.pattern_values x.name.0 ≡ None → Pieces (x.name.0 ∷ []) c (with_pattern_value x c)
one_piece x c h = record { opens_ = opens_one x.name.0 c.next_value c.pattern_values; stays = stays_ }
  where
    stays_ : (n k : ℕ) → nearest c.pattern_values n ≡ Some k → nearest (with_pattern_value x c).pattern_values n ≡ Some k
    stays_ n k e = tested (nat_eq x.name.0 n)
        (λ t. absurd (let f : some k ≡ None = sym e ∙ subst (λ m. nearest c.pattern_values m ≡ None) (eqb-true x.name.0 n t) h in cc))
        (λ f. past_one x.name.0 c.next_value c.pattern_values n f ∙ e)

pieces_as : {c b : Around} (ns ms : List ℕ) → ((n : ℕ) → is_among ms n ≡ is_among ns n) → Pieces ns c b → Pieces ms c b
pieces_as ns ms s h = record { opens_ = opens_as ns ms s h.opens_; stays = h.stays }

two_pieces : {c b d : Around} (ns ms : List ℕ) → Pieces ns c b → Pieces ms b d → Pieces (ns ++ ms) c d
two_pieces ns ms h k = record { opens_ = opens_both ns ms h.opens_ k.opens_; stays = λ n j e. k.stays n j (h.stays n j e) }

-- labelled fields in order bind the same names
abbrev labelled : Type 0
labelled = List (ℕ × Opened)

swap : (a b c : Bool) → (a || (b || c)) ≡ (b || (a || c))
swap true true c = refl
swap true false c = refl
swap false b c = refl

put_among : (names : List (List ℕ)) (l : ℕ) (p : Opened) (fs : labelled) (n : ℕ) → is_among (labelled_names_in (with_label names l p fs)) n ≡ (is_among p.names n || is_among (labelled_names_in fs) n)
put_among names l p [] n = among_both p.names [] n
put_among names l p (f ∷ fs) n = go (is_lt (label_cmp names l f.0)) (put_among names l p fs n)
  where
    go : (b : Bool) → is_among (labelled_names_in (with_label names l p fs)) n ≡ (is_among p.names n || is_among (labelled_names_in fs) n)
        → is_among (labelled_names_in (if b then (l, p) ∷ f ∷ fs else f ∷ with_label names l p fs)) n ≡ (is_among p.names n || is_among (labelled_names_in (f ∷ fs)) n)
    go true h = among_both p.names (labelled_names_in (f ∷ fs)) n
    go false h =
        among_both f.1.names (labelled_names_in (with_label names l p fs)) n
        ∙ (ap (λ b. is_among f.1.names n || b) h
        ∙ (swap (is_among f.1.names n) (is_among p.names n) (is_among (labelled_names_in fs) n)
        ∙ ap (λ b. is_among p.names n || b) (sym (among_both f.1.names (labelled_names_in fs) n))))

all_put_among : (names : List (List ℕ)) (sorted fs : labelled) (n : ℕ) → is_among (labelled_names_in (with_labels names sorted fs)) n ≡ (is_among (labelled_names_in fs) n || is_among (labelled_names_in sorted) n)
all_put_among names sorted [] n = refl
all_put_among names sorted (f ∷ fs) n =
    all_put_among names (with_label names f.0 f.1 sorted) fs n
    ∙ (ap (λ b. is_among (labelled_names_in fs) n || b) (put_among names f.0 f.1 sorted n)
    ∙ go (is_among (labelled_names_in fs) n) (is_among f.1.names n) (is_among (labelled_names_in sorted) n) (among_both f.1.names (labelled_names_in fs) n))
  where
    go : (a b c : Bool) {d : Bool} → d ≡ (b || a) → (a || (b || c)) ≡ (d || c)
    go true true c e = ap (λ x. x || c) (sym e)
    go true false c e = ap (λ x. x || c) (sym e)
    go false true c e = ap (λ x. x || c) (sym e)
    go false false c e = ap (λ x. x || c) (sym e)

or_false : (a : Bool) → (a || false) ≡ a
or_false true = refl
or_false false = refl

pub ordered_among : (names : List (List ℕ)) (fs : labelled) (n : ℕ) → is_among (labelled_names_in (in_label_order names fs)) n ≡ is_among (labelled_names_in fs) n
ordered_among names fs n = all_put_among names [] fs n ∙ or_false (is_among (labelled_names_in fs) n)

names_last : (ps : List Opened) (p : Opened) → names_opened (ps ++ p ∷ []) ≡ names_opened ps ++ p.names
names_last [] p = append-nil p.names
names_last (q ∷ ps) p = ap (λ ns. q.names ++ ns) (names_last ps p) ∙ sym (append_assoc q.names (names_opened ps) p.names)

labelled_last : (fs : labelled) (f : ℕ × Opened) → labelled_names_in (fs ++ f ∷ []) ≡ labelled_names_in fs ++ f.1.names
labelled_last [] f = append-nil f.1.names
labelled_last (g ∷ fs) f = ap (λ ns. g.1.names ++ ns) (labelled_last fs f) ∙ sym (append_assoc g.1.names (labelled_names_in fs) f.1.names)

-- what each piece of a pattern binds
unbound_name : (o : Option ℕ) (x : Id) → first_stop (twice_if_bound o x) ≡ None → o ≡ None
unbound_name None x h = refl
unbound_name (Some k) x h = absurd cc

new_name : (x : Id) (c : Around) → Clean (pattern_value x) c → nearest c.pattern_values x.name.0 ≡ None
unfolding marks
new_name x c h = unbound_name (nearest c.pattern_values x.name.0) x (left_clean (twice_if_bound (nearest c.pattern_values x.name.0) x) _ h)

value_opens : (x : Id) (c : Around) → Clean (pattern_value x) c → Pieces (x.name.0 ∷ []) c (opens (pattern_value x) c)
unfolding opens
value_opens x c h = one_piece x c (new_name x c h)

annotation_opens : (r : RType) (c : Around) → Pieces [] c (opens (in_annotation r) c)
annotation_opens r c = no_piece c _ ((pattern_keeps_annotation r).values c) (counts_up (in_annotation r) c)

then_opens : (o p : Outline) (ns ms : List ℕ) (c : Around) → Pieces ns c (opens o c) → Pieces ms (opens o c) (opens p (opens o c)) → Pieces (ns ++ ms) c (opens (o ▸ p) c)
unfolding opens
then_opens o p ns ms c h k = two_pieces ns ms h k

closed_opens : {ns : List ℕ} (o : Outline) (c : Around) → Pieces ns c (opens o c) → Pieces ns c (opens (closed o) c)
unfolding opens
closed_opens o c h = record { opens_ = h.opens_; stays = h.stays }

group_opens : {ns : List ℕ} (o : Outline) (c : Around) → Pieces ns (with_group [] c) (opens o (with_group [] c)) → Pieces ns c (opens (group o) c)
unfolding opens
group_opens o c h = record { opens_ = h.opens_; stays = h.stays }

once_opens : (x : Id) (c : Around) → Pieces [] c (opens (once S4 x) c)
unfolding opens
once_opens x c = no_piece c _ refl (omega arith)

binder_opens : (b : TypeBinder) (c : Around) → (opens (in_pattern_binder b) c).pattern_values ≡ c.pattern_values
unfolding opens
binder_opens (type_binder s x k b) c = (pattern_keeps_bound b).values _

binders_keep : (bs : TypeBinders) (c : Around) → (opens (in_pattern_binders bs) c).pattern_values ≡ c.pattern_values
unfolding opens
binders_keep no_binders c = refl
binders_keep (more_binders bs b) c = binder_opens b _ ∙ binders_keep bs c

binders_open : (bs : TypeBinders) (c : Around) → Pieces [] c (opens (in_pattern_binders bs) c)
binders_open bs c = no_piece c _ (binders_keep bs c) (counts_up (in_pattern_binders bs) c)

pub closed_clean : (o : Outline) (a : Around) → Clean (closed o) a → Clean o a
unfolding marks
closed_clean o a h = h

pub group_clean : (o : Outline) (a : Around) → Clean (group o) a → Clean o (with_group [] a)
unfolding marks
group_clean o a h = h

-- the parts of the fields of a record pattern
pub pats_clean : (bs : TypeBinders) (ps : Pats) (ls : LabelledPats) (c : Around) → Clean (in_field_pats (field_pats bs ps ls)) c → Clean (in_pats ps) (opens (in_pattern_binders bs) c)
pats_clean bs ps ls c h = first_clean (in_pats ps) (group (in_labelled_pats ls)) _ (second_clean (in_pattern_binders bs) (in_pats ps ▸ group (in_labelled_pats ls)) c h)

pub labelled_clean : (bs : TypeBinders) (ps : Pats) (ls : LabelledPats) (c : Around) → Clean (in_field_pats (field_pats bs ps ls)) c → Clean (in_labelled_pats ls) (with_group [] (opens (in_pats ps) (opens (in_pattern_binders bs) c)))
labelled_clean bs ps ls c h = group_clean _ _ (second_clean (in_pats ps) (group (in_labelled_pats ls)) _ (second_clean (in_pattern_binders bs) (in_pats ps ▸ group (in_labelled_pats ls)) c h))

fields_pieces : (names : List (List ℕ)) (bs : TypeBinders) (ps : Pats) (ls : LabelledPats) (c : Around)
    → Pieces (names_opened (all_opened names ps)) (opens (in_pattern_binders bs) c) (opens (in_pats ps) (opens (in_pattern_binders bs) c))
    → Pieces (labelled_names_in (labelled_opened names ls)) (with_group [] (opens (in_pats ps) (opens (in_pattern_binders bs) c))) (opens (in_labelled_pats ls) (with_group [] (opens (in_pats ps) (opens (in_pattern_binders bs) c))))
    → Pieces (names_opened (all_opened names ps) ++ labelled_names_in (in_label_order names (labelled_opened names ls))) c (opens (in_field_pats (field_pats bs ps ls)) c)
fields_pieces names bs ps ls c h k =
    let b = opens (in_pattern_binders bs) c in
    then_opens (in_pattern_binders bs) (in_pats ps ▸ group (in_labelled_pats ls)) [] (names_opened (all_opened names ps) ++ labelled_names_in (in_label_order names (labelled_opened names ls))) c (binders_open bs c)
    (then_opens (in_pats ps) (group (in_labelled_pats ls)) (names_opened (all_opened names ps)) (labelled_names_in (in_label_order names (labelled_opened names ls))) b h
    (group_opens (in_labelled_pats ls) (opens (in_pats ps) b)
    (pieces_as (labelled_names_in (labelled_opened names ls)) (labelled_names_in (in_label_order names (labelled_opened names ls))) (ordered_among names (labelled_opened names ls)) k)))

mutual
  unfolding opens opened all_opened labelled_opened

  pub pat_opens : (names : List (List ℕ)) (p : Pat) (c : Around) → Clean (in_pat p) c → Pieces (opened names p).names c (opens (in_pat p) c)
  pat_opens names (bind_pat s x r) c h = then_opens (pattern_value x) (in_annotation r) (x.name.0 ∷ []) [] c (value_opens x c (first_clean (pattern_value x) (in_annotation r) c h)) (annotation_opens r _)
  pat_opens names (any_pat s r) c h = annotation_opens r c
  pat_opens names (fields_pat s (field_pats bs ps ls)) c h =
      let q = closed_clean (in_field_pats (field_pats bs ps ls)) c h in
      closed_opens (in_field_pats (field_pats bs ps ls)) c (fields_pieces names bs ps ls c (pats_open names ps _ (pats_clean bs ps ls c q)) (labelled_open names ls _ (labelled_clean bs ps ls c q)))
  pat_opens names (fold_pat s r p) c h = then_opens (in_annotation r) (in_pat p) [] (opened names p).names c (annotation_opens r c) (pat_opens names p _ (second_clean (in_annotation r) (in_pat p) c h))

  pats_open : (names : List (List ℕ)) (ps : Pats) (c : Around) → Clean (in_pats ps) c → Pieces (names_opened (all_opened names ps)) c (opens (in_pats ps) c)
  pats_open names no_pats c h = no_piece c c refl (omega arith)
  pats_open names (more_pats ps p) c h =
      subst (λ ns. Pieces ns c (opens (in_pats ps ▸ in_pat p) c)) (sym (names_last (all_opened names ps) (opened names p)))
      (then_opens (in_pats ps) (in_pat p) (names_opened (all_opened names ps)) (opened names p).names c (pats_open names ps c (first_clean (in_pats ps) (in_pat p) c h)) (pat_opens names p _ (second_clean (in_pats ps) (in_pat p) c h)))

  labelled_open : (names : List (List ℕ)) (ls : LabelledPats) (c : Around) → Clean (in_labelled_pats ls) c → Pieces (labelled_names_in (labelled_opened names ls)) c (opens (in_labelled_pats ls) c)
  labelled_open names no_labelled_pats c h = no_piece c c refl (omega arith)
  labelled_open names (more_labelled_pats ls l p) c h =
      let k = second_clean (in_labelled_pats ls) (once S4 l ▸ in_pat p) c h in
      let b = opens (in_labelled_pats ls) c in
      subst (λ ns. Pieces ns c (opens (in_labelled_pats ls ▸ once S4 l ▸ in_pat p) c)) (sym (labelled_last (labelled_opened names ls) (l.name.0, opened names p)))
      (then_opens (in_labelled_pats ls) (once S4 l ▸ in_pat p) (labelled_names_in (labelled_opened names ls)) (opened names p).names c (labelled_open names ls c (first_clean (in_labelled_pats ls) (once S4 l ▸ in_pat p) c h))
      (then_opens (once S4 l) (in_pat p) [] (opened names p).names b (once_opens l b) (pat_opens names p _ (second_clean (once S4 l) (in_pat p) b k))))

pub fields_open : (names : List (List ℕ)) (bs : TypeBinders) (ps : Pats) (ls : LabelledPats) (c : Around) → Clean (in_field_pats (field_pats bs ps ls)) c
    → Pieces (names_opened (all_opened names ps) ++ labelled_names_in (in_label_order names (labelled_opened names ls))) c (opens (in_field_pats (field_pats bs ps ls)) c)
fields_open names bs ps ls c h = fields_pieces names bs ps ls c (pats_open names ps _ (pats_clean bs ps ls c h)) (labelled_open names ls _ (labelled_clean bs ps ls c h))

-- the same pattern under other names
abbrev pub renamed_opened : (ℕ → ℕ) → Opened → Opened
renamed_opened h o = record { pattern = o.pattern; names = map h o.names }

abbrev pub renamed_field : (ℕ → ℕ) → ℕ × Opened → ℕ × Opened
renamed_field h f = (f.0, renamed_opened h f.1)

pub same_patterns : (h : ℕ → ℕ) (ps : List Opened) → patterns_in (map (renamed_opened h) ps) ≡ patterns_in ps
same_patterns h [] = refl
same_patterns h (p ∷ ps) = ap (λ x. core.more_pats p.pattern x) (same_patterns h ps)

pub same_labelled : (h : ℕ → ℕ) (fs : labelled) → labelled_patterns_in (map (renamed_field h) fs) ≡ labelled_patterns_in fs
same_labelled h [] = refl
same_labelled h (f ∷ fs) = ap (λ x. core.more_labelled_pats f.0 f.1.pattern x) (same_labelled h fs)

pub all_names : (h : ℕ → ℕ) (ps : List Opened) → names_opened (map (renamed_opened h) ps) ≡ map h (names_opened ps)
all_names h [] = refl
all_names h (p ∷ ps) = ap (λ x. map h p.names ++ x) (all_names h ps) ∙ sym (map-append h p.names (names_opened ps))

pub labelled_names : (h : ℕ → ℕ) (fs : labelled) → labelled_names_in (map (renamed_field h) fs) ≡ map h (labelled_names_in fs)
labelled_names h [] = refl
labelled_names h (f ∷ fs) = ap (λ x. map h f.1.names ++ x) (labelled_names h fs) ∙ sym (map-append h f.1.names (labelled_names_in fs))

put_renamed : (names : List (List ℕ)) (h : ℕ → ℕ) (l : ℕ) (p : Opened) (fs : labelled) → with_label names l (renamed_opened h p) (map (renamed_field h) fs) ≡ map (renamed_field h) (with_label names l p fs)
put_renamed names h l p [] = refl
put_renamed names h l p (f ∷ fs) = go (is_lt (label_cmp names l f.0)) (put_renamed names h l p fs)
  where
    go : (b : Bool) → with_label names l (renamed_opened h p) (map (renamed_field h) fs) ≡ map (renamed_field h) (with_label names l p fs)
        → (if b then (l, renamed_opened h p) ∷ map (renamed_field h) (f ∷ fs) else renamed_field h f ∷ with_label names l (renamed_opened h p) (map (renamed_field h) fs)) ≡ map (renamed_field h) (if b then (l, p) ∷ f ∷ fs else f ∷ with_label names l p fs)
    go true e = refl
    go false e = ap (λ x. renamed_field h f ∷ x) e

all_put_renamed : (names : List (List ℕ)) (h : ℕ → ℕ) (sorted fs : labelled) → with_labels names (map (renamed_field h) sorted) (map (renamed_field h) fs) ≡ map (renamed_field h) (with_labels names sorted fs)
all_put_renamed names h sorted [] = refl
all_put_renamed names h sorted (f ∷ fs) = ap (λ x. with_labels names x (map (renamed_field h) fs)) (put_renamed names h f.0 f.1 sorted) ∙ all_put_renamed names h (with_label names f.0 f.1 sorted) fs

pub order_renamed : (names : List (List ℕ)) (h : ℕ → ℕ) (fs : labelled) → in_label_order names (map (renamed_field h) fs) ≡ map (renamed_field h) (in_label_order names fs)
order_renamed names h fs = all_put_renamed names h [] fs

-- the new names are told by the binders of the whole pattern
abbrev pub Told : ℕ → (ℕ → ℕ) → Around → Type 0
Told base h b = (n k : ℕ) → nearest b.pattern_values n ≡ Some k → h n ≡ base + k

told_before : {c b : Around} (ns : List ℕ) (base : ℕ) (h : ℕ → ℕ) → Pieces ns c b → Told base h b → Told base h c
told_before ns base h o t n k e = t n k (o.stays n k e)

-- what binds the fields tells the new names of their parts
pub told_pats : (names : List (List ℕ)) (base : ℕ) (h : ℕ → ℕ) (bs : TypeBinders) (ps : Pats) (ls : LabelledPats) (c : Around) → Clean (in_field_pats (field_pats bs ps ls)) c → Told base h (opens (in_field_pats (field_pats bs ps ls)) c) → Told base h (opens (in_pats ps) (opens (in_pattern_binders bs) c))
unfolding opens
told_pats names base h bs ps ls c k t = told_before (labelled_names_in (labelled_opened names ls)) base h (group_opens (in_labelled_pats ls) (opens (in_pats ps) (opens (in_pattern_binders bs) c)) (labelled_open names ls (with_group [] (opens (in_pats ps) (opens (in_pattern_binders bs) c))) (labelled_clean bs ps ls c k))) t

-- fields that are renamed, put in order
abbrev fields_opened : List (List ℕ) → List Opened → labelled → Opened
fields_opened names ps fs = record { pattern = record_pat ps (in_label_order names fs); names = names_opened ps ++ labelled_names_in (in_label_order names fs) }

pub both_renamed : (names : List (List ℕ)) (h : ℕ → ℕ) (ps qs : List Opened) (fs gs : labelled) → qs ≡ map (renamed_opened h) ps → gs ≡ map (renamed_field h) fs → fields_opened names qs gs ≡ renamed_opened h (fields_opened names ps fs)
both_renamed names h ps qs fs gs i j =
    ap (λ x. fields_opened names x gs) i
    ∙ (ap (fields_opened names (map (renamed_opened h) ps)) j
    ∙ (ap (λ x. in_order (map (renamed_opened h) ps) x) (order_renamed names h fs)
    ∙ (ap (λ x. record { pattern = core.RecordPat x (labelled_patterns_in (map (renamed_field h) (in_label_order names fs))); names = names_opened (map (renamed_opened h) ps) ++ labelled_names_in (map (renamed_field h) (in_label_order names fs)) }) (same_patterns h ps)
    ∙ (ap (λ x. record { pattern = core.RecordPat (patterns_in ps) x; names = names_opened (map (renamed_opened h) ps) ++ labelled_names_in (map (renamed_field h) (in_label_order names fs)) }) (same_labelled h (in_label_order names fs))
    ∙ ap (λ x. record { pattern = record_pat ps (in_label_order names fs); names = x }) same_names))))
  where
    in_order : List Opened → labelled → Opened
    in_order xs ys = record { pattern = record_pat xs ys; names = names_opened xs ++ labelled_names_in ys }

    same_names : names_opened (map (renamed_opened h) ps) ++ labelled_names_in (map (renamed_field h) (in_label_order names fs)) ≡ map h (names_opened ps ++ labelled_names_in (in_label_order names fs))
    same_names =
        ap (λ x. x ++ labelled_names_in (map (renamed_field h) (in_label_order names fs))) (all_names h ps)
        ∙ (ap (λ x. map h (names_opened ps) ++ x) (labelled_names h (in_label_order names fs))
        ∙ sym (map-append h (names_opened ps) (labelled_names_in (in_label_order names fs))))

mutual
  unfolding opens opened all_opened labelled_opened apart_pat apart_fields apart_pats apart_labelled_pats

  pub pat_renamed : (names : List (List ℕ)) (base : ℕ) (h : ℕ → ℕ) (p : Pat) (c : Around) → Clean (in_pat p) c → Told base h (opens (in_pat p) c) → opened names (apart_pat base c p) ≡ renamed_opened h (opened names p)
  pat_renamed names base h (bind_pat s x r) c k t =
      let e : h x.name.0 ≡ base + c.next_value = t x.name.0 c.next_value (ap (λ z. nearest z x.name.0) ((pattern_keeps_annotation r).values (with_pattern_value x c)) ∙ at_one x.name.0 c.next_value c.pattern_values) in
      let one : ℕ → Opened = λ m. record { pattern = core.Bind; names = m ∷ [] } in
      ap one (sym e)
  pat_renamed names base h (any_pat s r) c k t = refl
  pat_renamed names base h (fields_pat s (field_pats bs ps ls)) c k t =
      let b = opens (in_pattern_binders bs) c in
      let d = with_group [] (opens (in_pats ps) b) in
      let q = closed_clean (in_field_pats (field_pats bs ps ls)) c k in
      let i = pats_renamed names base h ps b (pats_clean bs ps ls c q) (told_pats names base h bs ps ls c q (λ n m e. t n m e)) in
      let j = labelled_renamed names base h ls d (labelled_clean bs ps ls c q) (λ n m e. t n m e) in
      both_renamed names h (all_opened names ps) (all_opened names (apart_pats base b ps)) (labelled_opened names ls) (labelled_opened names (apart_labelled_pats base d ls)) i j
  pat_renamed names base h (fold_pat s r p) c k t = pat_renamed names base h p (opens (in_annotation r) c) (second_clean (in_annotation r) (in_pat p) c k) t

  pub pats_renamed : (names : List (List ℕ)) (base : ℕ) (h : ℕ → ℕ) (ps : Pats) (c : Around) → Clean (in_pats ps) c → Told base h (opens (in_pats ps) c) → all_opened names (apart_pats base c ps) ≡ map (renamed_opened h) (all_opened names ps)
  pats_renamed names base h no_pats c k t = refl
  pats_renamed names base h (more_pats ps p) c k t =
      let b = opens (in_pats ps) c in
      let q = second_clean (in_pats ps) (in_pat p) c k in
      let i = pats_renamed names base h ps c (first_clean (in_pats ps) (in_pat p) c k) (told_before (opened names p).names base h (pat_opens names p b q) t) in
      let j = pat_renamed names base h p b q t in
      ap (λ x. x ++ opened names (apart_pat base b p) ∷ []) i
      ∙ (ap (λ x. map (renamed_opened h) (all_opened names ps) ++ x ∷ []) j
      ∙ sym (map-append (renamed_opened h) (all_opened names ps) (opened names p ∷ [])))

  pub labelled_renamed : (names : List (List ℕ)) (base : ℕ) (h : ℕ → ℕ) (ls : LabelledPats) (c : Around) → Clean (in_labelled_pats ls) c → Told base h (opens (in_labelled_pats ls) c) → labelled_opened names (apart_labelled_pats base c ls) ≡ map (renamed_field h) (labelled_opened names ls)
  labelled_renamed names base h no_labelled_pats c k t = refl
  labelled_renamed names base h (more_labelled_pats ls l p) c k t =
      let b = opens (in_labelled_pats ls) c in
      let d = opens (once S4 l) b in
      let q = second_clean (once S4 l) (in_pat p) b (second_clean (in_labelled_pats ls) (once S4 l ▸ in_pat p) c k) in
      let i = labelled_renamed names base h ls c (first_clean (in_labelled_pats ls) (once S4 l ▸ in_pat p) c k) (λ n m e. told_before (opened names p).names base h (pat_opens names p d q) t n m e) in
      let j = pat_renamed names base h p d q t in
      ap (λ x. x ++ (l.name.0, opened names (apart_pat base d p)) ∷ []) i
      ∙ (ap (λ x. map (renamed_field h) (labelled_opened names ls) ++ (l.name.0, x) ∷ []) j
      ∙ sym (map-append (renamed_field h) (labelled_opened names ls) ((l.name.0, opened names p) ∷ [])))
