-- The machine reads types.
use Rattle.std.proofs.Common.{◌≡◌, List, [], ◌∷◌, ◌++◌, refl, sym, ap, append_assoc, append-nil, None, Some}
use Rattle.pict_syntax.specs.declared.span.Span.{Span}
use Rattle.pict_syntax.specs.declared.id.Id.{Id}
use Rattle.pict_syntax.specs.declared.type_tree.Mark.{Mark}
use Rattle.pict_syntax.specs.declared.type_tree.Mark.TheVariants as mark
use Rattle.pict_syntax.specs.declared.token.TokenKind.{TokenKind}
use Rattle.pict_syntax.specs.declared.token.TokenKind.TheVariants.{Identifier, Sign}
use Rattle.pict_syntax.specs.declared.token.Sign.TheVariants.{Equals, CloseParen, CloseBracket, Colon, Less, Hash}
use Rattle.pict_syntax.specs.Trees.{KindTree, plain_kind, operator_kind, TypeTree, top_type, int_type, char_type, string_type, bool_type, use_type, both_type, read_type, write_type, respond_type, fields_type, apply_type, rec_type, TypeBinder, type_binder, unbounded, bound, TypeTrees, no_types, more_types, TypeBinders, no_binders, more_binders, LabelledTypes, no_labelled_types, more_labelled_types}
use Rattle.pict_syntax.specs.Phrases.{Phrase, ◌▸◌, sign, ident, join}
use Rattle.pict_syntax.specs.Grammar.{type_span, IsMark, AreMarks, IsKind, IsType, AreTypes, AreLabelledTypes, IsBinder, AreBinders}
use Rattle.pict_automaton.specs.Places.{State, both, read, write, respond, TypePlace, in_prefix, in_type_field, in_type_label, in_type_apply, in_rec, in_bound, BinderPlace, of_patterns, of_types, after_binders, binder_hash, binder_name, need_kind, kind_arguments, binder_kind, need_type, operator_arguments, after_type_binders, after_types, type_name, after_type_labels, type_label}
use Rattle.pict_automaton.specs.Machine.{step, put_type, put_binder}
use Rattle.pict_automaton.proofs.Reading.{anything, next, Reads, Falls, then_any, one, first, some_keyword, first_symbol, first_keyword, first_sign, empty, onto, no_reads, then_falls, falls_then, always, falls, led_reads, between_reads, at_some, some_then, Starts, starts_at, starts_led, starts_between, starts_never, starts_with, starts_also, Leads, leads_nothing, leads_more, leads_both, calm_next, then_next, then_leads, weaken}
use Rattle.pict_automaton.proofs.Ahead.{Unbound, Calm, calm_unbound, BeginsType, StartsType, starts_calm, BeginsBinder, binder_unbound}

reads_mark : (m : Mark) (ms : List Mark) (h : Span) (x : Id) (p : BinderPlace) → Reads anything (kind_arguments h x ms p) (IsMark m) (kind_arguments h x (ms ++ m ∷ []) p)
reads_mark mark.Plain ms h x p = some_keyword (λ i. refl)
reads_mark mark.Plus ms h x p = first_symbol (λ n i. refl) (some_keyword (λ i. refl))
reads_mark mark.Minus ms h x p = first_symbol (λ n i. refl) (some_keyword (λ i. refl))

-- marks behind those that were read
reads_marks : (ns ms : List Mark) (h : Span) (x : Id) (p : BinderPlace) → Reads anything (kind_arguments h x ms p) (AreMarks ns) (kind_arguments h x (ms ++ ns) p)
unfolding AreMarks
reads_marks [] ms h x p = onto empty (ap (λ l. kind_arguments h x l p) (sym (append-nil ms)))
reads_marks (n ∷ ns) ms h x p = then_any (reads_mark n ms h x p) (onto (reads_marks ns (ms ++ n ∷ []) h x p) (ap (λ l. kind_arguments h x l p) (append_assoc ms (n ∷ []) ns)))

pub reads_kind : (k : KindTree) (j h : Span) (x : Id) (p : BinderPlace) → Reads anything (need_kind h x p) (IsKind k j) (binder_kind h x k j p)
reads_kind plain_kind j h x p = one refl
reads_kind (operator_kind []) j h x p = no_reads
reads_kind (operator_kind (m ∷ ms)) j h x p =
    first_sign (λ i. refl)
    (then_any (reads_marks (m ∷ ms) [] h x p)
    (first_sign (λ i. refl) (first_keyword (λ i. refl) (one refl))))

-- a type begins with one of its tokens
pub starts_type : (t : TypeTree) → Starts StartsType (IsType t)
unfolding IsType
starts_type (top_type s) = starts_at tt
starts_type (int_type s) = starts_at tt
starts_type (char_type s) = starts_at tt
starts_type (string_type s) = starts_at tt
starts_type (bool_type s) = starts_at tt
starts_type (use_type s n) = starts_at tt
starts_type (both_type s t) = starts_led (type_span t) tt
starts_type (read_type s t) = starts_led (type_span t) tt
starts_type (write_type s t) = starts_led (type_span t) tt
starts_type (respond_type s t) = starts_led (type_span t) tt
starts_type (fields_type s bs ts ls) = starts_between tt
starts_type (apply_type s x no_types) = starts_never
starts_type (apply_type s x (more_types ts t)) = starts_between tt
starts_type (rec_type s x t) = starts_between tt

-- in a record type an identifier may be a type or a label
field_other : {L : Phrase} {y : State} (o : Span) (bs : TypeBinders) (ts : TypeTrees) (p : TypePlace) → Starts BeginsType L → Reads anything (need_type (in_type_field o bs ts p)) L y → Reads (next Calm) (after_types o bs ts p) L y
field_other o bs ts p s f = falls_then (λ l r h c. s.begins l r h) (falls same) (always f)
  where
    same : (k : TokenKind) (i : Span) → BeginsType k → step k i (after_types o bs ts p) ≡ step k i (need_type (in_type_field o bs ts p))
    same (Sign CloseBracket) i h = absurd h
    same (Identifier n) i h = absurd h
    same k i h = refl

name_falls : (o : Span) (bs : TypeBinders) (ts : TypeTrees) (x : Id) (p : TypePlace) → Falls (next Calm) (type_name o bs ts x p) (after_types o bs (more_types ts (use_type x.span x.name)) p)
name_falls o bs ts x p = falls same
  where
    same : (k : TokenKind) (i : Span) → Calm k → step k i (type_name o bs ts x p) ≡ step k i (after_types o bs (more_types ts (use_type x.span x.name)) p)
    same (Sign Equals) i h = absurd h
    same k i h = refl

field_type : (t : TypeTree) (o : Span) (bs : TypeBinders) (ts : TypeTrees) (p : TypePlace) → Reads anything (need_type (in_type_field o bs ts p)) (IsType t) (after_types o bs (more_types ts t) p) → Reads (next Calm) (after_types o bs ts p) (IsType t) (after_types o bs (more_types ts t) p)
unfolding IsType
field_type (top_type s) o bs ts p f = field_other o bs ts p (starts_at tt) f
field_type (int_type s) o bs ts p f = field_other o bs ts p (starts_at tt) f
field_type (char_type s) o bs ts p f = field_other o bs ts p (starts_at tt) f
field_type (string_type s) o bs ts p f = field_other o bs ts p (starts_at tt) f
field_type (bool_type s) o bs ts p f = field_other o bs ts p (starts_at tt) f
field_type (use_type s n) o bs ts p f = then_falls (one refl) (name_falls o bs ts (record { name = n; span = s }) p)
field_type (both_type s t) o bs ts p f = field_other o bs ts p (starts_led (type_span t) tt) f
field_type (read_type s t) o bs ts p f = field_other o bs ts p (starts_led (type_span t) tt) f
field_type (write_type s t) o bs ts p f = field_other o bs ts p (starts_led (type_span t) tt) f
field_type (respond_type s t) o bs ts p f = field_other o bs ts p (starts_led (type_span t) tt) f
field_type (fields_type s cs us ls) o bs ts p f = field_other o bs ts p (starts_between tt) f
field_type (apply_type s x no_types) o bs ts p f = no_reads
field_type (apply_type s x (more_types us t)) o bs ts p f = field_other o bs ts p (starts_between tt) f
field_type (rec_type s x t) o bs ts p f = field_other o bs ts p (starts_between tt) f

-- between the arguments of an operator
argument_type : (t : TypeTree) (o : Span) (x : Id) (ts : TypeTrees) (p : TypePlace) → Reads anything (need_type (in_type_apply o x ts p)) (IsType t) (operator_arguments o x (more_types ts t) p) → Reads anything (operator_arguments o x ts p) (IsType t) (operator_arguments o x (more_types ts t) p)
argument_type t o x ts p f = falls_then (λ l r h c. (starts_type t).begins l r h) (falls same) f
  where
    same : (k : TokenKind) (i : Span) → StartsType k → step k i (operator_arguments o x ts p) ≡ step k i (need_type (in_type_apply o x ts p))
    same (Sign CloseParen) i h = absurd h
    same k i h = refl

-- behind the types of a record type and so many labelled ones
abbrev types_end : Span → TypeBinders → TypeTrees → LabelledTypes → TypePlace → State
types_end o bs ts no_labelled_types p = after_types o bs ts p
types_end o bs ts (more_labelled_types ls x t) p = after_type_labels o bs ts (more_labelled_types ls x t) p

abbrev label_named : Span → TypeBinders → TypeTrees → LabelledTypes → Id → TypePlace → State
label_named o bs ts no_labelled_types y p = type_name o bs ts y p
label_named o bs ts (more_labelled_types ls x t) y p = type_label o bs ts (more_labelled_types ls x t) y p

label_begins : (ls : LabelledTypes) (o : Span) (bs : TypeBinders) (ts : TypeTrees) (y : Id) (p : TypePlace) → step (Identifier y.name) y.span (types_end o bs ts ls p) ≡ label_named o bs ts ls y p
label_begins no_labelled_types o bs ts y p = refl
label_begins (more_labelled_types ls x t) o bs ts y p = refl

label_equals : (ls : LabelledTypes) (o : Span) (bs : TypeBinders) (ts : TypeTrees) (y : Id) (p : TypePlace) (i : Span) → step (Sign Equals) i (label_named o bs ts ls y p) ≡ need_type (in_type_label o bs ts ls y p)
label_equals no_labelled_types o bs ts y p i = refl
label_equals (more_labelled_types ls x t) o bs ts y p i = refl

types_close : (ls : LabelledTypes) (o : Span) (bs : TypeBinders) (ts : TypeTrees) (p : TypePlace) (j : Span) → step (Sign CloseBracket) j (types_end o bs ts ls p) ≡ put_type (fields_type (join o j) bs ts ls) p
types_close no_labelled_types o bs ts p j = refl
types_close (more_labelled_types ls x t) o bs ts p j = refl

leads_labelled_types : (ls : LabelledTypes) → Leads Calm (AreLabelledTypes ls)
unfolding IsType
leads_labelled_types no_labelled_types = leads_nothing
leads_labelled_types (more_labelled_types ls x t) = leads_more (leads_labelled_types ls) (starts_with (starts_at tt))

leads_types : (ts : TypeTrees) → Leads Calm (AreTypes ts)
unfolding IsType
leads_types no_types = leads_nothing
leads_types (more_types ts t) = leads_more (leads_types ts) (starts_also starts_calm (starts_type t))

-- behind the binders at a place
abbrev pub binders_at : BinderPlace → State
binders_at (of_patterns p bs) = after_binders p bs
binders_at (of_types o bs p) = after_type_binders o bs p

abbrev pub with_binders : BinderPlace → TypeBinders → BinderPlace
with_binders (of_patterns p cs) bs = of_patterns p bs
with_binders (of_types o cs p) bs = of_types o bs p

hash_begins : (p : BinderPlace) (i : Span) → step (Sign Hash) i (binders_at p) ≡ binder_hash i p
hash_begins (of_patterns p bs) i = refl
hash_begins (of_types o bs p) i = refl

bare_falls : (h : Span) (x : Id) (p : BinderPlace) → Falls (next Unbound) (binder_name h x p) (put_binder (type_binder (join h x.span) x None unbounded) p)
bare_falls h x p = falls (λ k i u. same p k i u)
  where
    same : (p : BinderPlace) (k : TokenKind) (i : Span) → Unbound k → step k i (binder_name h x p) ≡ step k i (put_binder (type_binder (join h x.span) x None unbounded) p)
    same p (Sign Colon) i u = absurd u
    same p (Sign Less) i u = absurd u
    same (of_patterns p bs) k i u = refl
    same (of_types o bs p) k i u = refl

kind_falls : (h : Span) (x : Id) (c : KindTree) (j : Span) (p : BinderPlace) → Falls (next Unbound) (binder_kind h x c j p) (put_binder (type_binder (join h j) x (Some c) unbounded) p)
kind_falls h x c j p = falls (λ k i u. same p k i u)
  where
    same : (p : BinderPlace) (k : TokenKind) (i : Span) → Unbound k → step k i (binder_kind h x c j p) ≡ step k i (put_binder (type_binder (join h j) x (Some c) unbounded) p)
    same p (Sign Less) i u = absurd u
    same (of_patterns p bs) k i u = refl
    same (of_types o bs p) k i u = refl

binders_fall : (o : Span) (bs : TypeBinders) (p : TypePlace) → Falls (next Calm) (after_type_binders o bs p) (after_types o bs no_types p)
binders_fall o bs p = falls same
  where
    same : (k : TokenKind) (i : Span) → Calm k → step k i (after_type_binders o bs p) ≡ step k i (after_types o bs no_types p)
    same (Sign Hash) i h = absurd h
    same k i h = refl

pub starts_binder : (b : TypeBinder) → Starts BeginsBinder (IsBinder b)
unfolding IsType
starts_binder (type_binder s x None unbounded) = starts_led x.span tt
starts_binder (type_binder s x None (bound t)) = starts_led (type_span t) tt
starts_binder (type_binder s x (Some k) unbounded) = record { begins = λ ts r h. (starts_led h.0 {L = ident x ▸ (sign Colon ▸ IsKind k h.0)} tt).begins ts r h.1 }
starts_binder (type_binder s x (Some k) (bound t)) = starts_led (type_span t) tt

mutual
  unfolding IsType

  pub reads_type : (t : TypeTree) (p : TypePlace) → Reads anything (need_type p) (IsType t) (put_type t p)
  reads_type (top_type s) p = one refl
  reads_type (int_type s) p = one refl
  reads_type (char_type s) p = one refl
  reads_type (string_type s) p = one refl
  reads_type (bool_type s) p = one refl
  reads_type (use_type s n) p = one refl
  reads_type (both_type s t) p = led_reads (type_span t) (λ s. put_type (both_type s t) p) (λ i. first refl (reads_type t (in_prefix both i p)))
  reads_type (read_type s t) p = led_reads (type_span t) (λ s. put_type (read_type s t) p) (λ i. first refl (reads_type t (in_prefix read i p)))
  reads_type (write_type s t) p = led_reads (type_span t) (λ s. put_type (write_type s t) p) (λ i. first refl (reads_type t (in_prefix write i p)))
  reads_type (respond_type s t) p = led_reads (type_span t) (λ s. put_type (respond_type s t) p) (λ i. first refl (reads_type t (in_prefix respond i p)))
  reads_type (fields_type s bs ts ls) p =
      between_reads (λ s. put_type (fields_type s bs ts ls) p) (λ i j. first refl
      (then_next {P = Calm} (starts_at tt)
      (then_leads (record { leads = (leads_both (leads_types ts) (leads_labelled_types ls)).leads })
      (then_falls (weaken {C = next Unbound} (calm_next calm_unbound) (reads_binders bs (of_types i no_binders p))) (binders_fall i bs p))
      (then_leads (leads_labelled_types ls) (reads_types ts i bs p) (always (reads_labelled_types ls i bs ts p))))
      (one (types_close ls i bs ts p j))))
  reads_type (apply_type s x no_types) p = no_reads
  reads_type (apply_type s x (more_types ts t)) p =
      between_reads (λ s. put_type (apply_type s x (more_types ts t)) p) (λ i j. first refl
      (then_any (first refl (then_any (reads_arguments ts i x p) (argument_type t i x ts p (reads_type t (in_type_apply i x ts p))))) (one refl)))
  reads_type (rec_type s x t) p =
      between_reads (λ s. put_type (rec_type s x t) p) (λ i j. first refl
      (then_any (first_keyword (λ k. refl) (first refl (first_sign (λ k. refl) (reads_type t (in_rec i x p))))) (one refl)))

  reads_types : (ts : TypeTrees) (o : Span) (bs : TypeBinders) (p : TypePlace) → Reads (next Calm) (after_types o bs no_types p) (AreTypes ts) (after_types o bs ts p)
  reads_types no_types o bs p = empty
  reads_types (more_types ts t) o bs p = then_next (starts_also starts_calm (starts_type t)) (reads_types ts o bs p) (field_type t o bs ts p (reads_type t (in_type_field o bs ts p)))

  reads_arguments : (ts : TypeTrees) (o : Span) (x : Id) (p : TypePlace) → Reads anything (operator_arguments o x no_types p) (AreTypes ts) (operator_arguments o x ts p)
  reads_arguments no_types o x p = empty
  reads_arguments (more_types ts t) o x p = then_any (reads_arguments ts o x p) (argument_type t o x ts p (reads_type t (in_type_apply o x ts p)))

  reads_labelled_types : (ls : LabelledTypes) (o : Span) (bs : TypeBinders) (ts : TypeTrees) (p : TypePlace) → Reads anything (after_types o bs ts p) (AreLabelledTypes ls) (types_end o bs ts ls p)
  reads_labelled_types no_labelled_types o bs ts p = empty
  reads_labelled_types (more_labelled_types ls x t) o bs ts p =
      then_any (reads_labelled_types ls o bs ts p)
      (first (label_begins ls o bs ts x p) (first_sign (label_equals ls o bs ts x p) (reads_type t (in_type_label o bs ts ls x p))))

  pub reads_binder : (b : TypeBinder) (p : BinderPlace) → Reads (next Unbound) (binders_at p) (IsBinder b) (put_binder b p)
  reads_binder (type_binder s x None unbounded) p = led_reads x.span (λ s. put_binder (type_binder s x None unbounded) p) (λ i. first (hash_begins p i) (then_falls (one refl) (bare_falls i x p)))
  reads_binder (type_binder s x None (bound t)) p = led_reads (type_span t) (λ s. put_binder (type_binder s x None (bound t)) p) (λ i. first (hash_begins p i) (first refl (first_sign (λ k. refl) (always (reads_type t (in_bound i x None p))))))
  reads_binder (type_binder s x (Some k) unbounded) p = at_some (λ j. led_reads j (λ s. put_binder (type_binder s x (Some k) unbounded) p) (λ i. first (hash_begins p i) (first refl (first_sign (λ m. refl) (then_falls (always (reads_kind k j i x p)) (kind_falls i x k j p))))))
  reads_binder (type_binder s x (Some k) (bound t)) p = led_reads (type_span t) (λ s. put_binder (type_binder s x (Some k) (bound t)) p) (λ i. first (hash_begins p i) (first refl (first_sign (λ m. refl) (some_then (λ j. then_any (reads_kind k j i x p) (first_sign (λ m. refl) (always (reads_type t (in_bound i x (Some k) p)))))))))

  pub reads_binders : (bs : TypeBinders) (p : BinderPlace) → Reads (next Unbound) (binders_at (with_binders p no_binders)) (AreBinders bs) (binders_at (with_binders p bs))
  reads_binders no_binders p = empty
  reads_binders (more_binders bs b) (of_patterns f cs) = then_next (starts_also binder_unbound (starts_binder b)) (reads_binders bs (of_patterns f cs)) (reads_binder b (of_patterns f bs))
  reads_binders (more_binders bs b) (of_types o cs q) = then_next (starts_also binder_unbound (starts_binder b)) (reads_binders bs (of_types o cs q)) (reads_binder b (of_types o bs q))
