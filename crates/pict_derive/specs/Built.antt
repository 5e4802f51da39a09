-- What the builder's values stand for.
use Rattle.std.specs.Prelude.{◌≡◌, ◌<◌, ℕ, ◌+◌, true, List, [], ◌∷◌, ◌++◌, length, map, Option, None, Vec}
use Rattle.std.specs.Global.{Global}
use Rattle.std.specs.Option.{option_map}
use Rattle.pict_syntax.specs.declared.limits.TheConstants.{DEPTH_LIMIT}
use Rattle.pict_syntax.specs.declared.name.Name.{Name}
use Rattle.pict_syntax.specs.declared.span.Span.{Span}
use Rattle.pict_syntax.specs.Trees as tree
use Rattle.pict_core.specs.Closed.{binds}
use Rattle.pict_core.specs.Term as term
use Rattle.pict_core.specs.Plain.{plain_core, plain_pat, plain_pat_field, plain_val, pats_of, labelled_pats_of}
use Rattle.pict_core.specs.declared.pattern.CorePat.{CorePat}
use Rattle.pict_core.specs.declared.value.CoreVal.{CoreVal}
use Rattle.pict_binders.specs.declared.binders.Binder.{Binder}
use Rattle.pict_translation.specs.Placed.{Placed, beside, each, input, new_channel, new_channels, output, served, variables}
use Rattle.pict_translation.specs.Arguments.{with_value, right, left}
use Rattle.pict_translation.specs.Patterns as patterns
use Rattle.pict_translation.specs.Simple.{Around, bound, simple, simple_chan, use_of}
use Rattle.pict_translation.specs.Translation.{sending, sending_chan, with_vals, with_labelled, with_fields, arguments, reader, definition_names, servers}
use Rattle.pict_derive.specs.Held.{held}
use Rattle.pict_derive.specs.Layers as layers
use Rattle.pict_derive.specs.declared.outside.Layer.{Layer}
use Rattle.pict_derive.specs.declared.outside.Layer.TheVariants as layer
use Rattle.pict_derive.specs.declared.outside.Outside.{Outside}
use Rattle.pict_derive.specs.declared.patterns.Opened.{Opened}
use Rattle.pict_derive.specs.declared.build.Taken.{Taken}

-- ---- what stands around a rest

abbrev pub layer_of : Layer → layers.Layer
layer_of layer.New = layers.NewLayer
layer_of (layer.Beside p) = layers.BesideLayer (plain_core p)
layer_of (layer.Reader x p sent) = layers.ReaderLayer (term.Var x) (plain_pat p) (plain_core sent)

abbrev pub layers_of : List Layer → List layers.Layer
layers_of ls = map layer_of ls

-- the whole process, with this one as the rest
abbrev pub surround : Outside → Placed → term.Process
surround o p = layers.around (layers_of o.layers.items) (p o.depth)

-- ---- names with levels

-- names with the values of their variables
abbrev pub binder_values : List Binder → List (ℕ × term.Val)
binder_values bs = map (λ b. (b.name, term.Var b.number)) bs

-- the place where these names have these levels, nearest first
abbrev pub place : List (List ℕ) → List Binder → Around
place names bs = record { names = names; values = binder_values bs }

-- these names bound, one after the other, from this level on
abbrev pub with_levels : List ℕ → ℕ → List Binder → List Binder
with_levels [] level bs = bs
with_levels (n ∷ ns) level bs = with_levels ns (level + 1) (record { name = n; number = level } ∷ bs)

-- more binders, and then the same
pub record Extends (old new : List Binder) : Type 0 where
  pub more : List Binder
  pub is : new ≡ more ++ old

-- ---- patterns and fields

abbrev pub numbers_of : List Name → List ℕ
numbers_of ns = map (λ n. n.0) ns

abbrev pub opened_of : Opened → patterns.Opened
opened_of o = record { pattern = plain_pat o.pattern; names = numbers_of o.names.items }

abbrev pub pattern_of : Name × CorePat → ℕ × term.Pat
pattern_of f = (f.0.0, plain_pat f.1)

abbrev pub field_of : Name × CoreVal → ℕ × term.Val
field_of f = (f.0.0, plain_val f.1)

-- the record [x y k]
abbrev pub three : term.Val → term.Val → term.Val → term.Val
three x y k = term.Record (term.more_vals x (term.more_vals y (term.more_vals k term.no_vals))) term.no_labelled

abbrev pub opened_field : Name × Opened → ℕ × patterns.Opened
opened_field f = (f.0.0, opened_of f.1)

abbrev pub patterns_of : List CorePat → term.Pats
patterns_of ps = pats_of (map plain_pat ps)

abbrev pub labelled_patterns_of : List (Name × CorePat) → term.LabelledPats
labelled_patterns_of fs = labelled_pats_of (map plain_pat_field fs)

abbrev pub record_pattern_of : List CorePat → List (Name × CorePat) → term.Pat
record_pattern_of ps fs = term.RecordPat (patterns_of ps) (labelled_patterns_of fs)

-- values, where all of them were found
abbrev pub values_found : Option (Vec CoreVal Global) → Option (List term.Val)
values_found found = option_map (λ us. map plain_val us.items) found

abbrev pub fields_found : Option (Vec (Name × CoreVal) Global) → Option (List (ℕ × term.Val))
fields_found found = option_map (λ us. map field_of us.items) found

-- labelled patterns in the order of their labels
abbrev pub patterns_in_order : List (List ℕ) → tree.LabelledPats → List (ℕ × term.Pat)
patterns_in_order names ls = map (λ f. (f.0, f.1.pattern)) (patterns.fields_in_order names ls)

-- ---- parts of the translation

-- new f (A at f | k!f)
abbrev pub sending_lambda : Around → tree.Abs → Span → term.Val → Placed
sending_lambda e a s k = new_channel (λ f. beside (reader e a f true) (output k f s))

-- def x1 A1 and .. xn An, rest
abbrev pub defining : Around → tree.Definitions → (Around → Placed) → Placed
defining e ds rest =
    new_channels (length (definition_names ds))
    (λ xs. served (servers (bound (definition_names ds) xs e) ds) xs (rest (bound (definition_names ds) xs e)))

-- what sends (f > vs) on a channel
abbrev pub sending_right : Around → ℕ → Span → tree.Vals → term.Val → Placed
sending_right e f s vs k = (right (use_of e f) s (arguments e vs)).sent k

-- what sends (f < vs) on a channel
abbrev pub sending_left : Around → ℕ → Span → tree.Vals → term.Val → Placed
sending_left e f s vs k = (left (use_of e f) s (arguments e vs)).sent k

-- ---- what a call puts around the rest: `old` stands around it before the call, and `new` after it

-- with v as x, the rest: x is the core value
abbrev pub Takes : Outside → Outside → Around → tree.Val → CoreVal → Type 0
Takes old new e v x = (f : term.Val → Placed) → surround old (with_value (simple e v) (sending e v) f) ≡ surround new (f (plain_val x))

-- the same for a value that stands as a channel
abbrev pub TakesChan : Outside → Outside → Around → tree.Chan → CoreVal → Type 0
TakesChan old new e c x =
    (f : term.Val → Placed) → surround old (with_value (simple_chan e c) (sending_chan e c) f) ≡ surround new (f (plain_val x))

abbrev pub TakesAll : Outside → Outside → Around → tree.Vals → List CoreVal → Type 0
TakesAll old new e vs xs = (f : List term.Val → Placed) → surround old (with_vals e vs f) ≡ surround new (f (map plain_val xs))

abbrev pub TakesLabelled : Outside → Outside → Around → tree.LabelledVals → List (Name × CoreVal) → Type 0
TakesLabelled old new e ls xs =
    (f : List (ℕ × term.Val) → Placed) → surround old (with_labelled e ls f) ≡ surround new (f (map field_of xs))

abbrev pub TakesFields : Outside → Outside → Around → tree.FieldVals → Taken → Type 0
TakesFields old new e fs t =
    (f : List term.Val → List (ℕ × term.Val) → Placed)
    → surround old (with_fields e fs f) ≡ surround new (f (map plain_val t.positional.items) (map field_of t.labelled.items))

-- declarations, behind which the rest is at this place
abbrev pub Declares : Outside → Outside → ((Around → Placed) → Placed) → Around → Type 0
Declares old new form at = (rest : Around → Placed) → surround old (form rest) ≡ surround new (rest at)

-- a `def`: its channels, and its abstractions at them
abbrev pub Defines : Outside → Outside → Around → tree.Definitions → Around → Type 0
Defines old new e ds at = (rest : Around → Placed) → surround old (defining e ds rest) ≡ surround new (rest at)

-- the abstractions of a `def`, at so many channels, of which the first has this level
abbrev pub Serves : Outside → Outside → Around → tree.Definitions → ℕ → ℕ → Type 0
Serves old new e ds first n = (rest : Placed) → surround old (served (servers e ds) (variables first n) rest) ≡ surround new rest

-- so many new channels
abbrev pub OpensChannels : Outside → Outside → ℕ → Type 0
OpensChannels old new n = (f : List term.Val → Placed) → surround old (new_channels n f) ≡ surround new (f (variables old.depth n))

-- (x?*p = the rest) | sent, the rest being inside so many variables
abbrev pub PutsReader : Outside → Outside → ℕ → term.Pat → ℕ → term.Process → Type 0
PutsReader old new x p inside sent =
    (f : List term.Val → Placed) (s : Placed) → sent ≡ s old.depth → inside ≡ old.depth + binds p
    → surround old (beside (input (term.Var x) true p f) s) ≡ surround new (f (variables old.depth (binds p)))

-- (x?*y = the rest) | sent
abbrev pub PutsOneReader : Outside → Outside → ℕ → term.Process → ℕ → Type 0
PutsOneReader old new x sent y =
    (f : term.Val → Placed) (s : Placed) → sent ≡ s old.depth → surround old (beside (each (term.Var x) f) s) ≡ surround new (f (term.Var y))

-- new k ((k?*x = body) | the rest)
abbrev pub Nests : Outside → Outside → term.Process → ℕ → Type 0
Nests old new body k =
    (f s : term.Val → Placed) → body ≡ f (term.Var (old.depth + 1)) (old.depth + 2)
    → surround old (with_value None s f) ≡ surround new (s (term.Var k))

-- ---- the refusal of a process

-- the process is deeper than it may be, and this is its depth, held at the greatest `u64`
abbrev pub IsTooDeep : term.Process → ℕ → Type 0
IsTooDeep core depth = (DEPTH_LIMIT < term.depth_of core) × (depth ≡ held (term.depth_of core))
