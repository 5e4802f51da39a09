-- Simple values with their core values: a use, a literal, a record of simple fields, a fold of a simple value. No other
-- form is simple, whatever is in it.
use Rattle.std.specs.Prelude.{ℕ, ◌+◌, nat_eq, length, drop, get_or, List, [], ◌∷◌, ◌++◌, true, false, Option, Some, None, option_and_then, option_map, unwrap_or, if◌then◌else◌}
use Rattle.pict_syntax.specs.Names.{text_of}
use Rattle.pict_syntax.specs.Trees.{Pat, FieldPats, Chan, use_chan, fold_chan, Val, of_chan, number_val, character_val, string_val, true_val, false_val, fields_val, Vals, no_vals, more_vals, FieldVals, field_vals, LabelledVals, no_labelled_vals, more_labelled_vals}
use Rattle.pict_core.specs.Term as core
use Rattle.pict_syntax.specs.Labels.{in_label_order}
use Rattle.pict_scope.specs.PrimitiveNames.{primitive_named}
use Rattle.pict_translation.specs.Patterns.{pat_names, names_before, names_after}
use Rattle.pict_core.specs.Plain.{vals_of}
use Rattle.pict_translation.specs.Arguments.{labelled_of}

-- What is known at a place: the texts of all names, and the names that are bound around it with their core values,
-- nearest first.
pub record Around : Type 0 where
  pub names : List (List ℕ)
  pub values : List (ℕ × core.Val)

-- the core value of a name's nearest binder
abbrev pub value_at : List (ℕ × core.Val) → ℕ → Option core.Val
value_at [] n = None
value_at (b ∷ bs) n = if nat_eq n b.0 then Some b.1 else value_at bs n

-- these names bound to these values, one after the other
abbrev pub binding : List ℕ → List core.Val → List (ℕ × core.Val) → List (ℕ × core.Val)
binding [] vs around = around
binding (n ∷ ns) [] around = around
binding (n ∷ ns) (v ∷ vs) around = binding ns vs ((n, v) ∷ around)

abbrev pub bound : List ℕ → List core.Val → Around → Around
bound ns vs e = record e { values = binding ns vs e.values }

-- the names of a pattern bound to the values of its variables
abbrev pub pat_bound : Pat → List core.Val → Around → Around
pat_bound p vs e = bound (pat_names e.names p) vs e

-- the same for the fields of a function, among whose variables the channel for the answer has no name
abbrev pub function_bound : FieldPats → List core.Val → Around → Around
function_bound f vs e = bound (names_after e.names f) (drop (length (names_before e.names f) + 1) vs) (bound (names_before e.names f) vs e)

-- what stands where no program without scope stop has anything: a value without parts
abbrev pub nothing : core.Val
nothing = core.Boolean true

abbrev pub answer_channel : List (List ℕ) → FieldPats → List core.Val → core.Val
answer_channel names f vs = get_or vs (length (names_before names f)) nothing

-- A use is its nearest binder's value, or else the primitive of that text. A program without scope stop has no other use.
abbrev pub or_primitive : List ℕ → Option core.Val → core.Val
or_primitive text (Some v) = v
or_primitive text None = unwrap_or (option_map core.PrimitiveVal (primitive_named text)) nothing

abbrev pub use_of : Around → ℕ → core.Val
use_of e n = or_primitive (text_of e.names n) (value_at e.values n)

-- a record of these fields, its labels in the order of their bytes
abbrev pub record_of_fields : Around → List core.Val → List (ℕ × core.Val) → core.Val
record_of_fields e vs ls = core.Record (vals_of vs) (labelled_of (in_label_order e.names ls))

-- one more at the end, where all are there
abbrev pub one_more : {A : Type 0} → Option (List A) → Option A → Option (List A)
one_more xs x = option_and_then (λ ys. option_map (λ y. ys ++ y ∷ []) x) xs

unfoldable mutual
  pub simple : Around → Val → Option core.Val
  simple e (of_chan c) = simple_chan e c
  simple e (number_val s n) = Some (core.Int n)
  simple e (character_val s b) = Some (core.Char b)
  simple e (string_val s bytes) = Some (core.Text bytes)
  simple e (true_val s) = Some (core.Boolean true)
  simple e (false_val s) = Some (core.Boolean false)
  simple e (fields_val s f) = simple_fields e f
  simple e _ = None

  pub simple_chan : Around → Chan → Option core.Val
  simple_chan e (use_chan s n) = Some (use_of e n.0)
  simple_chan e (fold_chan s t v) = simple e v
  simple_chan e _ = None

  pub simple_fields : Around → FieldVals → Option core.Val
  simple_fields e (field_vals ts vs ls) = option_and_then (λ us. option_map (record_of_fields e us) (simple_labelled e ls)) (simple_vals e vs)

  pub simple_vals : Around → Vals → Option (List core.Val)
  simple_vals e no_vals = Some []
  simple_vals e (more_vals vs v) = one_more (simple_vals e vs) (simple e v)

  pub simple_labelled : Around → LabelledVals → Option (List (ℕ × core.Val))
  simple_labelled e no_labelled_vals = Some []
  simple_labelled e (more_labelled_vals ls l v) = one_more (simple_labelled e ls) (option_map (λ u. (l.name.0, u)) (simple e v))
