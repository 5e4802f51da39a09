-- The arguments of an operator that were made so far.
use Rattle.std.proofs.Common.{◌≡◌, ℕ, List, [], ◌∷◌, ◌++◌, map, refl, sym, ◌∙◌, ap}
use Rattle.std.proofs.lemmas.List.{map-append}
use Rattle.std.proofs.Common.{append_assoc}
use Rattle.std.proofs.lemmas.List.{append-nil}
use Rattle.pict_normal.specs.declared.arguments.Arguments.{Arguments}
use Rattle.pict_normal.specs.declared.made.Made.{Made}
use Rattle.pict_types.specs.declared.measure.Measures.{Measures}
use Rattle.pict_types.specs.Types.{PlainType, PlainTypes, no_type, types, count_types}
use Rattle.pict_normal.specs.Made.{IsMade, AreArguments, kept_as, kept_of, built_as, built_of, weigh_each, rise_each}
use Rattle.pict_types.specs.Measures.{held, weigh, rise}
use Rattle.pict_normal.specs.Normal.{and_type}
use Rattle.pict_types.specs.Plain.{plain_types}
use Rattle.pict_types.proofs.Rows.{then_types, types_then_none}

pub record ArgumentsSoFar (ws hs : List ℕ) (a : Arguments) (all rest : PlainTypes) : Type 0 where
  pub weights : map (λ m. m.weight) a.measures.items ++ weigh_each ws rest ≡ weigh_each ws all
  pub heights : map (λ m. m.height) a.measures.items ++ rise_each hs rest ≡ rise_each hs all
  pub kept : then_types (plain_types a.kept.items) (kept_of rest) ≡ kept_of all
  pub types_ : then_types (plain_types a.types.items) (built_of hs rest) ≡ built_of hs all

and_then : (ts : PlainTypes) (u : PlainType) (us : PlainTypes) → then_types (and_type ts u) us ≡ then_types ts (types u us)
and_then no_type u us = refl
and_then (types t ts) u us = ap (types t) (and_then ts u us)

one_more : (f : Measures → ℕ) (ms ns : List Measures) (m : Measures) (x : ℕ) (xs all : List ℕ) → ns ≡ ms ++ m ∷ [] → f m ≡ x → map f ms ++ x ∷ xs ≡ all → map f ns ++ xs ≡ all
one_more f ms ns m x xs all e h k =
    ap (λ y. map f y ++ xs) e
    ∙ ap (λ y. y ++ xs) (map-append f ms (m ∷ []))
    ∙ append_assoc (map f ms) (f m ∷ []) xs
    ∙ ap (λ y. map f ms ++ y ∷ xs) h
    ∙ k

-- one more argument
pub arguments_more : {ws hs : List ℕ} {a : Arguments} {all : PlainTypes} (u : PlainType) (us : PlainTypes) (m : Made) (b : Arguments) → ArgumentsSoFar ws hs a all (types u us) → IsMade ws hs m u → b.measures.items ≡ a.measures.items ++ m.measures ∷ [] → plain_types b.kept.items ≡ and_type (plain_types a.kept.items) (kept_as u (count_types us)) → plain_types b.types.items ≡ and_type (plain_types a.types.items) (built_as hs u) → ArgumentsSoFar ws hs b all us
arguments_more {ws = ws} {hs = hs} {a = a} {all = all} u us m b x h p q r = record {
  weights = one_more (λ y. y.weight) a.measures.items b.measures.items m.measures (weigh ws u) (weigh_each ws us) (weigh_each ws all) p h.weight x.weights;
  heights = one_more (λ y. y.height) a.measures.items b.measures.items m.measures (held (rise hs u)) (rise_each hs us) (rise_each hs all) p h.height x.heights;
  kept = ap (λ y. then_types y (kept_of us)) q ∙ and_then (plain_types a.kept.items) (kept_as u (count_types us)) (kept_of us) ∙ x.kept;
  types_ = ap (λ y. then_types y (built_of hs us)) r ∙ and_then (plain_types a.types.items) (built_as hs u) (built_of hs us) ∙ x.types_;
}

-- all arguments
pub arguments_done : {ws hs : List ℕ} {a : Arguments} {all : PlainTypes} → ArgumentsSoFar ws hs a all no_type → AreArguments ws hs a all
arguments_done {ws = ws} {hs = hs} {a = a} {all = all} x = record {
  weights = sym (append-nil (map (λ m. m.weight) a.measures.items)) ∙ x.weights;
  heights = sym (append-nil (map (λ m. m.height) a.measures.items)) ∙ x.heights;
  kept = sym (types_then_none (plain_types a.kept.items)) ∙ x.kept;
  types_ = sym (types_then_none (plain_types a.types.items)) ∙ x.types_;
}
