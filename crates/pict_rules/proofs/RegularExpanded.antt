-- What is written in a regular environment, without a label twice and without a refusal, is well formed there.
use Rattle.std.proofs.Common.{◌≡◌, ℕ, if◌then◌else◌, nat_eq, Bool, true, false, List, [], ◌∷◌, Option, Some, None, refl}
use Rattle.pict_syntax.specs.Trees.{TypeTree, top_type, int_type, char_type, string_type, bool_type, use_type, both_type, read_type, write_type, respond_type, fields_type, apply_type, rec_type}
use Rattle.pict_syntax.specs.Stops.{Stop}
use Rattle.pict_types.specs.Types.{Free, Below, Operator, Plain, Op}
use Rattle.pict_types.specs.Kinds.{Kind, kind_by, kinds, IsWellFormed, ArgIsWellFormed}
use Rattle.pict_types.specs.Entries.{PlainWhat, Variable, Definition, PlainContext, variables, with_variable, EntryIsWellFormed, EntriesAreWellFormed}
use Rattle.pict_types.specs.Fitting.{StandsForOperator}
use Rattle.pict_types.proofs.Formed.{head_further}
use Rattle.pict_normal.specs.Normal.{Meaning, a_type, an_operator, of_entry, behind_entry, meaning, normal, first_or, kind_stops, kind_stop}
use Rattle.pict_normal.specs.WrittenArguments.{named, arg_meant, normal_arg, stop_meant, arg_stop}
use Rattle.pict_scope.specs.DistinctLabels.{HasDistinctLabels}
use Rattle.pict_normal.proofs.Expanded.{normal_formed}
use Rattle.pict_normal.proofs.BareOperators.{body_formed}

no_stops : (stops : List Stop) (o : Option Stop) → first_or stops o ≡ None → stops ≡ []
no_stops [] o h = refl
no_stops (x ∷ stops) o h = absurd cc

pub expands_well : (ns : List (List ℕ)) (c : PlainContext) (t : TypeTree) → EntriesAreWellFormed ns c → HasDistinctLabels t → kind_stop ns c t ≡ None → IsWellFormed ns (kinds (variables c)) (normal ns c t)
expands_well ns c t h d k = normal_formed ns c t h d (no_stops (kind_stops ns c t) _ k)

-- an operator that is meant is one of so many arguments
abbrev MeansOperator : List (List ℕ) → List Kind → Option Meaning → Type 0
MeansOperator ns ks None = Unit {0}
MeansOperator ns ks (Some (a_type t)) = Unit {0}
MeansOperator ns ks (Some (an_operator n h)) = StandsForOperator ns ks n h

entry_means : (ns : List (List ℕ)) (c : PlainContext) (w : PlainWhat) → EntryIsWellFormed ns (variables c) w → MeansOperator ns (kinds (with_variable w (variables c))) (Some (of_entry w))
entry_means ns c (Variable Free) h = tt
entry_means ns c (Variable (Below t)) h = tt
entry_means ns c (Variable (Operator ms)) h = refl
entry_means ns c (Definition (Plain t)) h = tt
entry_means ns c (Definition (Op n t)) h = (refl, h)

further_means : (ns : List (List ℕ)) (c : PlainContext) (w : PlainWhat) (o : Option Meaning) → MeansOperator ns (kinds (variables c)) o → MeansOperator ns (kinds (with_variable w (variables c))) (behind_entry w o)
further_means ns c w None h = tt
further_means ns c (Variable b) (Some (a_type t)) h = tt
further_means ns c (Variable b) (Some (an_operator n x)) h = head_further ns (kind_by b) (kinds (variables c)) n x h
further_means ns c (Definition a) (Some m) h = h

meaning_stands : (ns : List (List ℕ)) (c : PlainContext) (n : ℕ) → EntriesAreWellFormed ns c → MeansOperator ns (kinds (variables c)) (meaning c n)
meaning_stands ns [] n h = tt
meaning_stands ns (e ∷ c) n h = go (nat_eq e.name n) (meaning_stands ns c n h.1)
  where
    go : (b : Bool) → MeansOperator ns (kinds (variables c)) (meaning c n) → MeansOperator ns (kinds (variables (e ∷ c))) (if b then Some (of_entry e.what) else behind_entry e.what (meaning c n))
    go true k = entry_means ns c e.what h.0
    go false k = further_means ns c e.what (meaning c n) k

named_stands : (ns : List (List ℕ)) (c : PlainContext) (t : TypeTree) → EntriesAreWellFormed ns c → MeansOperator ns (kinds (variables c)) (named c t)
named_stands ns c (use_type s n) h = meaning_stands ns c n.0 h
named_stands ns c (top_type s) h = tt
named_stands ns c (int_type s) h = tt
named_stands ns c (char_type s) h = tt
named_stands ns c (string_type s) h = tt
named_stands ns c (bool_type s) h = tt
named_stands ns c (both_type s t) h = tt
named_stands ns c (read_type s t) h = tt
named_stands ns c (write_type s t) h = tt
named_stands ns c (respond_type s t) h = tt
named_stands ns c (fields_type s bs ts ls) h = tt
named_stands ns c (apply_type s x ts) h = tt
named_stands ns c (rec_type s x t) h = tt

-- a written argument: an operator by its bare name, or a type
pub argument_well : (ns : List (List ℕ)) (c : PlainContext) (t : TypeTree) → EntriesAreWellFormed ns c → HasDistinctLabels t → arg_stop ns c t ≡ None → ArgIsWellFormed ns (kinds (variables c)) (normal_arg ns c t)
argument_well ns c t h d k = go (named c t) (named_stands ns c t h) k
  where
    go : (o : Option Meaning) → MeansOperator ns (kinds (variables c)) o → stop_meant o (kind_stop ns c t) ≡ None → ArgIsWellFormed ns (kinds (variables c)) (arg_meant o (normal ns c t))
    go None m q = expands_well ns c t h d q
    go (Some (a_type u)) m q = expands_well ns c t h d q
    go (Some (an_operator n x)) m q = body_formed ns (kinds (variables c)) n x m
