-- Where the declarations behind `(` are none or some, where the arguments are at least two, and fields that are none.
use Rattle.std.proofs.Common.{◌≡◌, List, [], ◌∷◌, length, refl, ap, arith, Global, ◌<◌, ◌≤◌, ◌∙◌}
use Rattle.std.specs.Prelude.{Vec}
use Rattle.pict_syntax.specs.declared.name.Name.{Name}
use Rattle.pict_syntax.specs.declared.span.Span.{Span}
use Rattle.pict_syntax.specs.declared.token.Keyword.{Keyword}
use Rattle.pict_syntax.specs.declared.tree.Dec.{Dec as RDec}
use Rattle.pict_syntax.specs.declared.id.Id.{Id}
use Rattle.pict_syntax.specs.declared.token.TokenKind.{TokenKind}
use Rattle.pict_syntax.specs.declared.type_tree.TypeTree.{TypeTree as RTypeTree}
use Rattle.pict_syntax.specs.declared.tree.Val.{Val as RVal}
use Rattle.pict_syntax.specs.declared.tree.LabelledVal.{LabelledVal as RLabelledVal}
use Rattle.pict_syntax.specs.declared.tree.FieldVals.{roll-FieldVals}
use Rattle.pict_syntax.specs.Trees.{Dec, Decs, no_decs, more_decs, use_chan, of_chan, inert_proc, no_types, block_chan, apply_chan, Val, Vals, no_vals, more_vals, field_vals, no_labelled_vals}
use Rattle.pict_syntax.specs.Phrases.{join}
use Rattle.pict_syntax.specs.PlainTrees.{dec_of, decs_on, val_of, field_vals_of, types_on, vals_on, labelled_vals_on}
use Rattle.pict_syntax.proofs.ValueLists.{field_vals_is}
use Rattle.pict_automaton.specs.Places.{ValuePlace, waiting, in_paren, in_paren_either, ProcessPlaces, process_either, Place, for_value, paren_declarations, stop, fresh_name, have_channel, Side, side_channel, in_apply}
use Rattle.pict_automaton.specs.Machine.{id, of_processes, put_value, put_processes, begin_declaration, begin_first, name_value, declaration_value, name_either, declaration_either, close_inert, put_channel, step_arguments_of, close_side, close_paren, step_first}

-- no declaration
none_read : (xs : List RDec) → length xs ≡ 0 → decs_on no_decs xs ≡ no_decs
unfolding decs_on
none_read [] e = refl
none_read (x ∷ xs) e = absurd (omega arith)

-- at least one declaration
more_read : (P : Decs → Type 0) → ((ds : Decs) (d : Dec) → P (more_decs ds d)) → (ds : Decs) (d : Dec) (xs : List RDec) → P (decs_on (more_decs ds d) xs)
unfolding decs_on
more_read P f ds d [] = f ds d
more_read P f ds d (x ∷ xs) = more_read P f (more_decs ds d) (dec_of x) xs

some_read : (P : Decs → Type 0) → ((ds : Decs) (d : Dec) → P (more_decs ds d)) → (xs : List RDec) → (length xs ≡ 0 → ⊥) → P (decs_on no_decs xs)
unfolding decs_on
some_read P f [] n = absurd (n refl)
some_read P f (x ∷ xs) n = more_read P f no_decs (dec_of x) xs

pub name_value_first : (xs : List RDec) → length xs ≡ 0 → (x : Name) (i o : Span) (p : ValuePlace) → name_value x i (waiting (in_paren o (decs_on no_decs xs) p)) ≡ fresh_name o (id x i) (for_value p)
name_value_first xs e x i o p = ap (λ ds. name_value x i (waiting (in_paren o ds p))) (none_read xs e)

pub name_value_behind : (xs : List RDec) → (length xs ≡ 0 → ⊥) → (x : Name) (i o : Span) (p : ValuePlace) → name_value x i (waiting (in_paren o (decs_on no_decs xs) p)) ≡ put_value (of_chan (use_chan i x)) (waiting (in_paren o (decs_on no_decs xs) p))
name_value_behind xs n x i o p = some_read (λ ds. name_value x i (waiting (in_paren o ds p)) ≡ put_value (of_chan (use_chan i x)) (waiting (in_paren o ds p))) (λ ds d. refl) xs n

pub declaration_value_first : (xs : List RDec) → length xs ≡ 0 → (k : Keyword) (i o : Span) (p : ValuePlace) → declaration_value k i (waiting (in_paren o (decs_on no_decs xs) p)) ≡ begin_first k i o (for_value p) (paren_declarations o no_decs (for_value p))
declaration_value_first xs e k i o p = ap (λ ds. declaration_value k i (waiting (in_paren o ds p))) (none_read xs e)

pub declaration_value_behind : (xs : List RDec) → (length xs ≡ 0 → ⊥) → (k : Keyword) (i o : Span) (p : ValuePlace) → declaration_value k i (waiting (in_paren o (decs_on no_decs xs) p)) ≡ begin_declaration k i (paren_declarations o (decs_on no_decs xs) (for_value p))
declaration_value_behind xs n k i o p = some_read (λ ds. declaration_value k i (waiting (in_paren o ds p)) ≡ begin_declaration k i (paren_declarations o ds (for_value p))) (λ ds d. refl) xs n

pub name_either_first : (xs : List RDec) → length xs ≡ 0 → (x : Name) (i o : Span) (p : ProcessPlaces) → name_either x i (in_paren_either o (decs_on no_decs xs) p) ≡ fresh_name o (id x i) (of_processes p)
name_either_first xs e x i o p = ap (λ ds. name_either x i (in_paren_either o ds p)) (none_read xs e)

pub name_either_behind : (xs : List RDec) → (length xs ≡ 0 → ⊥) → (x : Name) (i o : Span) (p : ProcessPlaces) → name_either x i (in_paren_either o (decs_on no_decs xs) p) ≡ have_channel (use_chan i x) (process_either (in_paren_either o (decs_on no_decs xs) p))
name_either_behind xs n x i o p = some_read (λ ds. name_either x i (in_paren_either o ds p) ≡ have_channel (use_chan i x) (process_either (in_paren_either o ds p))) (λ ds d. refl) xs n

pub declaration_either_first : (xs : List RDec) → length xs ≡ 0 → (k : Keyword) (i o : Span) (p : ProcessPlaces) → declaration_either k i (in_paren_either o (decs_on no_decs xs) p) ≡ begin_first k i o (of_processes p) (paren_declarations o no_decs (of_processes p))
declaration_either_first xs e k i o p = ap (λ ds. declaration_either k i (in_paren_either o ds p)) (none_read xs e)

pub declaration_either_behind : (xs : List RDec) → (length xs ≡ 0 → ⊥) → (k : Keyword) (i o : Span) (p : ProcessPlaces) → declaration_either k i (in_paren_either o (decs_on no_decs xs) p) ≡ begin_declaration k i (paren_declarations o (decs_on no_decs xs) (of_processes p))
declaration_either_behind xs n k i o p = some_read (λ ds. declaration_either k i (in_paren_either o ds p) ≡ begin_declaration k i (paren_declarations o ds (of_processes p))) (λ ds d. refl) xs n

pub close_inert_first : (xs : List RDec) → length xs ≡ 0 → (i o : Span) (p : ProcessPlaces) → close_inert i (in_paren_either o (decs_on no_decs xs) p) ≡ put_processes (inert_proc (join o i)) p
close_inert_first xs e i o p = ap (λ ds. close_inert i (in_paren_either o ds p)) (none_read xs e)

pub close_inert_behind : (xs : List RDec) → (length xs ≡ 0 → ⊥) → (i o : Span) (p : ProcessPlaces) → close_inert i (in_paren_either o (decs_on no_decs xs) p) ≡ stop
close_inert_behind xs n i o p = some_read (λ ds. close_inert i (in_paren_either o ds p) ≡ stop) (λ ds d. refl) xs n

pub paren_none : (xs : List RDec) → length xs ≡ 0 → (i : Span) (v : Val) (o : Span) (p : Place) → close_paren i v o (decs_on no_decs xs) p ≡ put_channel (apply_chan (join o i) v (field_vals no_types no_vals no_labelled_vals)) p
paren_none xs e i v o p = ap (λ ds. close_paren i v o ds p) (none_read xs e)

pub paren_some : (xs : List RDec) → (length xs ≡ 0 → ⊥) → (i : Span) (v : Val) (o : Span) (p : Place) → close_paren i v o (decs_on no_decs xs) p ≡ put_channel (block_chan (join o i) (decs_on no_decs xs) v) p
paren_some xs n i v o p = some_read (λ ds. close_paren i v o ds p ≡ put_channel (block_chan (join o i) ds v) p) (λ ds d. refl) xs n

pub first_none : (xs : List RDec) → length xs ≡ 0 → (k : TokenKind) (i : Span) (v : Val) (o : Span) (p : Place) → step_first k i v o (decs_on no_decs xs) p ≡ step_arguments_of k i (in_apply o v p) no_types
first_none xs e k i v o p = ap (λ ds. step_first k i v o ds p) (none_read xs e)

pub first_some : (xs : List RDec) → (length xs ≡ 0 → ⊥) → (k : TokenKind) (i : Span) (v : Val) (o : Span) (p : Place) → step_first k i v o (decs_on no_decs xs) p ≡ stop
first_some xs n k i v o p = some_read (λ ds. step_first k i v o ds p ≡ stop) (λ ds d. refl) xs n

-- at least two arguments
two_more : (P : Vals → Type 0) → ((vs : Vals) (a b : Val) → P (more_vals (more_vals vs a) b)) → (vs : Vals) (a b : Val) (xs : List RVal) → P (vals_on (more_vals (more_vals vs a) b) xs)
unfolding vals_on
two_more P f vs a b [] = f vs a b
two_more P f vs a b (x ∷ xs) = two_more P f (more_vals vs a) b (val_of x) xs

two_read : (P : Vals → Type 0) → ((vs : Vals) (a b : Val) → P (more_vals (more_vals vs a) b)) → (xs : List RVal) → 2 ≤ length xs → P (vals_on no_vals xs)
unfolding vals_on
two_read P f [] n = absurd (omega arith)
two_read P f (x ∷ []) n = absurd (omega arith)
two_read P f (x ∷ z ∷ xs) n = two_more P f no_vals (val_of x) (val_of z) xs

pub side_some : (xs : List RVal) → 2 ≤ length xs → (i : Span) (d : Side) (o : Span) (y : Id) (p : Place) → close_side i d o y (vals_on no_vals xs) p ≡ put_channel (side_channel d (join o i) y (vals_on no_vals xs)) p
side_some xs n i d o y p = two_read (λ vs. close_side i d o y vs p ≡ put_channel (side_channel d (join o i) y vs) p) (λ vs a b. refl) xs n

pub side_few : (xs : List RVal) → length xs < 2 → (i : Span) (d : Side) (o : Span) (y : Id) (p : Place) → close_side i d o y (vals_on no_vals xs) p ≡ stop
unfolding vals_on
side_few [] n i d o y p = refl
side_few (x ∷ []) n i d o y p = refl
side_few (x ∷ z ∷ xs) n i d o y p = absurd (omega arith)

-- no fields
pub no_fields : (ts : Vec RTypeTree Global) (vs : Vec RVal Global) (ls : Vec RLabelledVal Global) → ts.items ≡ [] → vs.items ≡ [] → ls.items ≡ [] → field_vals_of (roll-FieldVals (record { type_arguments = ts; positional = vs; labelled = ls })) ≡ field_vals no_types no_vals no_labelled_vals
unfolding types_on vals_on labelled_vals_on
no_fields ts vs ls a b c =
    field_vals_is ts vs ls
    ∙ ap (λ x. field_vals (types_on no_types x) (vals_on no_vals vs.items) (labelled_vals_on no_labelled_vals ls.items)) a
    ∙ ap (λ x. field_vals no_types (vals_on no_vals x) (labelled_vals_on no_labelled_vals ls.items)) b
    ∙ ap (λ x. field_vals no_types no_vals (labelled_vals_on no_labelled_vals x)) c
