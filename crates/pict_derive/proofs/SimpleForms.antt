-- What each form of the source says of simple values, and lists of them.
use Rattle.std.proofs.Common.{◌≡◌, ℕ, ℤ, ◌+◌, ◌<◌, List, [], ◌∷◌, ◌++◌, length, map, take, drop, get_or, Option, Some, None, refl, sym, ◌∙◌, ap, rules, Box, Global, option_map, true, false}
use Rattle.std.specs.Prelude.{Vec, option_and_then}
use Rattle.std.proofs.lemmas.List.{take-append-drop}
use Rattle.pict_syntax.specs.declared.span.Span.{Span}
use Rattle.pict_syntax.specs.declared.id.Id.{Id}
use Rattle.pict_syntax.specs.declared.name.Name.{Name}
use Rattle.pict_syntax.specs.declared.type_tree.RType.{RType as RRType}
use Rattle.pict_syntax.specs.declared.tree.Abs.{Abs}
use Rattle.pict_syntax.specs.declared.tree.Abs.TheViews.{out-FieldVals}
use Rattle.pict_syntax.specs.declared.tree.Chan.{Chan, Use, Fold, Block, Apply, Right, Left}
use Rattle.pict_syntax.specs.declared.tree.Val.{Val, OfChan, Number, Character, String, True, False, Fields, If, Lambda}
use Rattle.pict_syntax.specs.declared.tree.Dec.{Dec}
use Rattle.pict_syntax.specs.declared.tree.FieldVals.{FieldVals}
use Rattle.pict_syntax.specs.declared.tree.LabelledVal.{LabelledVal}
use Rattle.pict_syntax.specs.Trees.{Vals, no_vals, more_vals, LabelledVals, no_labelled_vals, more_labelled_vals}
use Rattle.pict_syntax.specs.PlainTrees.{val_of, chan_of, field_vals_of, vals_on, labelled_vals_on}
use Rattle.pict_syntax.proofs.ValueLists.{vals_more, labelled_vals_more, block_is, right_is, left_is}
use Rattle.pict_core.specs.Term as core
use Rattle.pict_core.specs.Plain.{plain_val}
use Rattle.pict_core.specs.declared.value.CoreVal.{CoreVal, the_lemmas as value_lemmas}
use Rattle.pict_core.specs.declared.value.CoreVal.TheVariants as value
use Rattle.pict_translation.specs.Simple.{Around, simple, simple_chan, simple_fields, simple_vals, simple_labelled, record_of_fields, use_of, one_more}
use Rattle.pict_derive.specs.Built.{field_of}
use Rattle.pict_scope.proofs.Reading.{taken}
use Rattle.pict_scope.proofs.ValueForms.{field_vals_are}

pub chan_simple : (e : Around) (v : Val) (c : Chan) → v ≡ OfChan c → simple e (val_of v) ≡ simple_chan e (chan_of c)
unfolding val_of simple
chan_simple e v c is = ap (λ t. simple e (val_of t)) is

pub number_simple : (e : Around) (v : Val) (s : Span) (n : ℤ) → v ≡ Number s n → Some (plain_val (value.Int n)) ≡ simple e (val_of v)
unfolding val_of simple
number_simple e v s n is = let p : plain_val (value.Int n) ≡ core.Int n = search (rules, value_lemmas) in ap Some p ∙ sym (ap (λ t. simple e (val_of t)) is)

pub character_simple : (e : Around) (v : Val) (s : Span) (n : ℕ) → v ≡ Character s n → Some (plain_val (value.Char n)) ≡ simple e (val_of v)
unfolding val_of simple
character_simple e v s n is = let p : plain_val (value.Char n) ≡ core.Char n = search (rules, value_lemmas) in ap Some p ∙ sym (ap (λ t. simple e (val_of t)) is)

pub string_simple : (e : Around) (v : Val) (s : Span) (bytes copy : List ℕ) → v ≡ String s bytes → copy ≡ bytes → Some (plain_val (value.Text copy)) ≡ simple e (val_of v)
unfolding val_of simple
string_simple e v s bytes copy is same = let p : plain_val (value.Text copy) ≡ core.Text copy = search (rules, value_lemmas) in ap Some (p ∙ ap core.Text same) ∙ sym (ap (λ t. simple e (val_of t)) is)

pub true_simple : (e : Around) (v : Val) (s : Span) → v ≡ True s → Some (plain_val (value.Bool true)) ≡ simple e (val_of v)
unfolding val_of simple
true_simple e v s is = let p : plain_val (value.Bool true) ≡ core.Boolean true = search (rules, value_lemmas) in ap Some p ∙ sym (ap (λ t. simple e (val_of t)) is)

pub false_simple : (e : Around) (v : Val) (s : Span) → v ≡ False s → Some (plain_val (value.Bool false)) ≡ simple e (val_of v)
unfolding val_of simple
false_simple e v s is = let p : plain_val (value.Bool false) ≡ core.Boolean false = search (rules, value_lemmas) in ap Some p ∙ sym (ap (λ t. simple e (val_of t)) is)

pub fields_simple : (e : Around) (v : Val) (s : Span) (f : Box FieldVals Global) → v ≡ Fields s f → simple e (val_of v) ≡ simple_fields e (field_vals_of f.value)
unfolding val_of simple
fields_simple e v s f is = ap (λ t. simple e (val_of t)) is

pub if_simple : (e : Around) (v : Val) (s : Span) (a b c : Box Val Global) → v ≡ If s a b c → simple e (val_of v) ≡ None
unfolding val_of simple
if_simple e v s a b c is = ap (λ t. simple e (val_of t)) is

pub lambda_simple : (e : Around) (v : Val) (s : Span) (a : Box Abs Global) → v ≡ Lambda s a → simple e (val_of v) ≡ None
unfolding val_of simple
lambda_simple e v s a is = ap (λ t. simple e (val_of t)) is

pub use_simple : (e : Around) (v : Chan) (s : Span) (n : Name) → v ≡ Use s n → simple_chan e (chan_of v) ≡ Some (use_of e n.0)
unfolding chan_of simple_chan
use_simple e v s n is = ap (λ t. simple_chan e (chan_of t)) is

pub fold_simple : (e : Around) (v : Chan) (s : Span) (r : RRType) (b : Box Val Global) → v ≡ Fold s r b → simple_chan e (chan_of v) ≡ simple e (val_of b.value)
unfolding chan_of simple_chan
fold_simple e v s r b is = ap (λ t. simple_chan e (chan_of t)) is

pub block_simple : (e : Around) (v : Chan) (s : Span) (ds : Vec Dec Global) (b : Box Val Global) → v ≡ Block s ds b → simple_chan e (chan_of v) ≡ None
unfolding simple_chan
block_simple e v s ds b is = ap (λ t. simple_chan e (chan_of t)) is ∙ ap (simple_chan e) (block_is s ds b)

pub apply_simple : (e : Around) (v : Chan) (s : Span) (f : Box Val Global) (a : Box FieldVals Global) → v ≡ Apply s f a → simple_chan e (chan_of v) ≡ None
unfolding chan_of simple_chan
apply_simple e v s f a is = ap (λ t. simple_chan e (chan_of t)) is

pub right_simple : (e : Around) (v : Chan) (s : Span) (i : Id) (vs : Vec Val Global) → v ≡ Right s i vs → simple_chan e (chan_of v) ≡ None
unfolding simple_chan
right_simple e v s i vs is = ap (λ t. simple_chan e (chan_of t)) is ∙ ap (simple_chan e) (right_is s i vs)

pub left_simple : (e : Around) (v : Chan) (s : Span) (i : Id) (vs : Vec Val Global) → v ≡ Left s i vs → simple_chan e (chan_of v) ≡ None
unfolding simple_chan
left_simple e v s i vs is = ap (λ t. simple_chan e (chan_of t)) is ∙ ap (simple_chan e) (left_is s i vs)

-- ---- fields

abbrev both : Around → Option (List core.Val) → Option (List (ℕ × core.Val)) → Option core.Val
both e us ws = option_and_then (λ us. option_map (record_of_fields e us) ws) us

pub parts_simple : (e : Around) (f : FieldVals) → simple_fields e (field_vals_of f) ≡ option_and_then (λ us. option_map (record_of_fields e us) (simple_labelled e (labelled_vals_on no_labelled_vals (out-FieldVals f).labelled.items))) (simple_vals e (vals_on no_vals (out-FieldVals f).positional.items))
unfolding simple_fields
parts_simple e f = ap (simple_fields e) (field_vals_are f)

-- what is known of the fields, in the place of the question
found_parts : (e : Around) (f : FieldVals) (us : Option (List core.Val)) (ws : Option (List (ℕ × core.Val))) → us ≡ simple_vals e (vals_on no_vals (out-FieldVals f).positional.items) → ws ≡ simple_labelled e (labelled_vals_on no_labelled_vals (out-FieldVals f).labelled.items) → simple_fields e (field_vals_of f) ≡ both e us ws
found_parts e f us ws u w = parts_simple e f ∙ ap (both e (simple_vals e (vals_on no_vals (out-FieldVals f).positional.items))) (sym w) ∙ ap (λ x. both e x ws) (sym u)

pub no_positional : (e : Around) (f : FieldVals) (found : Option (Vec CoreVal Global)) → option_map (λ us. map plain_val us.items) found ≡ simple_vals e (vals_on no_vals (out-FieldVals f).positional.items) → found ≡ None → None ≡ simple_fields e (field_vals_of f)
no_positional e f found is none = sym (found_parts e f None _ (ap (option_map (λ us. map plain_val us.items)) (sym none) ∙ is) refl)

pub no_labelled : (e : Around) (f : FieldVals) (ps : Vec CoreVal Global) (found : Option (Vec CoreVal Global)) (labelled : Option (Vec (Name × CoreVal) Global)) → option_map (λ us. map plain_val us.items) found ≡ simple_vals e (vals_on no_vals (out-FieldVals f).positional.items) → found ≡ Some ps → option_map (λ ws. map field_of ws.items) labelled ≡ simple_labelled e (labelled_vals_on no_labelled_vals (out-FieldVals f).labelled.items) → labelled ≡ None → None ≡ simple_fields e (field_vals_of f)
no_labelled e f ps found labelled is some also none =
    sym (found_parts e f (Some (map plain_val ps.items)) None (ap (option_map (λ us. map plain_val us.items)) (sym some) ∙ is) (ap (option_map (λ ws. map field_of ws.items)) (sym none) ∙ also))

pub all_simple : (e : Around) (f : FieldVals) (v : core.Val) (ps : Vec CoreVal Global) (ls : Vec (Name × CoreVal) Global) (found : Option (Vec CoreVal Global)) (labelled : Option (Vec (Name × CoreVal) Global)) → option_map (λ us. map plain_val us.items) found ≡ simple_vals e (vals_on no_vals (out-FieldVals f).positional.items) → found ≡ Some ps → option_map (λ ws. map field_of ws.items) labelled ≡ simple_labelled e (labelled_vals_on no_labelled_vals (out-FieldVals f).labelled.items) → labelled ≡ Some ls → v ≡ record_of_fields e (map plain_val ps.items) (map field_of ls.items) → Some v ≡ simple_fields e (field_vals_of f)
all_simple e f v ps ls found labelled is some also known made =
    ap Some made
    ∙ sym (found_parts e f (Some (map plain_val ps.items)) (Some (map field_of ls.items)) (ap (option_map (λ us. map plain_val us.items)) (sym some) ∙ is) (ap (option_map (λ ws. map field_of ws.items)) (sym known) ∙ also))

-- ---- lists

pub vals_taken : (xs : List Val) (i : ℕ) (x : Val) → i < length xs → x ≡ get_or xs i x → vals_on no_vals (take (i + 1) xs) ≡ more_vals (vals_on no_vals (take i xs)) (val_of x)
vals_taken xs i x within is = ap (vals_on no_vals) (taken xs i x within is) ∙ vals_more no_vals (take i xs) x

pub labelled_taken : (xs : List LabelledVal) (i : ℕ) (x : LabelledVal) → i < length xs → x ≡ get_or xs i x → labelled_vals_on no_labelled_vals (take (i + 1) xs) ≡ more_labelled_vals (labelled_vals_on no_labelled_vals (take i xs)) x.label (val_of x.value)
labelled_taken xs i x within is = ap (labelled_vals_on no_labelled_vals) (taken xs i x within is) ∙ labelled_vals_more no_labelled_vals (take i xs) x

pub one_simple : (e : Around) (xs : List Val) (i : ℕ) (x : Val) (us : List core.Val) (found : Option core.Val) → i < length xs → x ≡ get_or xs i x → simple_vals e (vals_on no_vals (take i xs)) ≡ Some us → found ≡ simple e (val_of x) → simple_vals e (vals_on no_vals (take (i + 1) xs)) ≡ one_more (Some us) found
unfolding simple_vals
one_simple e xs i x us found within is so_far one = ap (simple_vals e) (vals_taken xs i x within is) ∙ ap (λ s. one_more s (simple e (val_of x))) so_far ∙ ap (one_more (Some us)) (sym one)

pub one_labelled : (e : Around) (xs : List LabelledVal) (i : ℕ) (x : LabelledVal) (us : List (ℕ × core.Val)) (found : Option core.Val) → i < length xs → x ≡ get_or xs i x → simple_labelled e (labelled_vals_on no_labelled_vals (take i xs)) ≡ Some us → found ≡ simple e (val_of x.value) → simple_labelled e (labelled_vals_on no_labelled_vals (take (i + 1) xs)) ≡ one_more (Some us) (option_map (λ u. (x.label.name.0, u)) found)
unfolding simple_labelled
one_labelled e xs i x us found within is so_far one =
    ap (simple_labelled e) (labelled_taken xs i x within is) ∙ ap (λ s. one_more s (option_map (λ u. (x.label.name.0, u)) (simple e (val_of x.value)))) so_far ∙ ap (λ f. one_more (Some us) (option_map (λ u. (x.label.name.0, u)) f)) (sym one)

-- where one isn't simple, the whole isn't
none_stays : (e : Around) (vs : Vals) (xs : List Val) → simple_vals e vs ≡ None → simple_vals e (vals_on vs xs) ≡ None
unfolding simple_vals vals_on
none_stays e vs [] none = none
none_stays e vs (x ∷ xs) none = none_stays e (more_vals vs (val_of x)) xs (ap (λ s. one_more s (simple e (val_of x))) none)

vals_apart : (vs : Vals) (xs ys : List Val) → vals_on vs (xs ++ ys) ≡ vals_on (vals_on vs xs) ys
unfolding vals_on
vals_apart vs [] ys = refl
vals_apart vs (x ∷ xs) ys = vals_apart (more_vals vs (val_of x)) xs ys

pub vals_fail : (e : Around) (xs : List Val) (i : ℕ) → simple_vals e (vals_on no_vals (take i xs)) ≡ None → simple_vals e (vals_on no_vals xs) ≡ None
vals_fail e xs i none =
    ap (λ ys. simple_vals e (vals_on no_vals ys)) (sym (take-append-drop i xs))
    ∙ ap (simple_vals e) (vals_apart no_vals (take i xs) (drop i xs))
    ∙ none_stays e (vals_on no_vals (take i xs)) (drop i xs) none

none_stays_labelled : (e : Around) (ls : LabelledVals) (xs : List LabelledVal) → simple_labelled e ls ≡ None → simple_labelled e (labelled_vals_on ls xs) ≡ None
unfolding simple_labelled labelled_vals_on
none_stays_labelled e ls [] none = none
none_stays_labelled e ls (x ∷ xs) none = none_stays_labelled e (more_labelled_vals ls x.label (val_of x.value)) xs (ap (λ s. one_more s (option_map (λ u. (x.label.name.0, u)) (simple e (val_of x.value)))) none)

labelled_apart : (ls : LabelledVals) (xs ys : List LabelledVal) → labelled_vals_on ls (xs ++ ys) ≡ labelled_vals_on (labelled_vals_on ls xs) ys
unfolding labelled_vals_on
labelled_apart ls [] ys = refl
labelled_apart ls (x ∷ xs) ys = labelled_apart (more_labelled_vals ls x.label (val_of x.value)) xs ys

pub labelled_fail : (e : Around) (xs : List LabelledVal) (i : ℕ) → simple_labelled e (labelled_vals_on no_labelled_vals (take i xs)) ≡ None → simple_labelled e (labelled_vals_on no_labelled_vals xs) ≡ None
labelled_fail e xs i none =
    ap (λ ys. simple_labelled e (labelled_vals_on no_labelled_vals ys)) (sym (take-append-drop i xs))
    ∙ ap (simple_labelled e) (labelled_apart no_labelled_vals (take i xs) (drop i xs))
    ∙ none_stays_labelled e (labelled_vals_on no_labelled_vals (take i xs)) (drop i xs) none

pub vals_begin : (e : Around) (items : List CoreVal) → items ≡ [] → simple_vals e (vals_on no_vals []) ≡ Some (map plain_val items)
unfolding simple_vals vals_on
vals_begin e items none = ap (λ us. Some (map plain_val us)) (sym none)

pub labelled_begin : (e : Around) (items : List (Name × CoreVal)) → items ≡ [] → simple_labelled e (labelled_vals_on no_labelled_vals []) ≡ Some (map field_of items)
unfolding simple_labelled labelled_vals_on
labelled_begin e items none = ap (λ us. Some (map field_of us)) (sym none)
