-- What waits first: a message's words, or the node of an input.
use Rattle.std.proofs.Common.{ℕ, zero, suc, ◌≡◌, inl, inr, List, [], ◌∷◌, refl, sym, ap, ◌∙◌}
use Rattle.std.specs.List.{AllByRecursion}
use Rattle.pict_core.specs.Term.{Process}
use Rattle.pict_blocks.specs.Keeping.{kept_words}
use Rattle.pict_desk.specs.declared.kept.Kept.{Kept}
use Rattle.pict_heap.specs.HeapState.{HeapState}
use Rattle.pict_desk.specs.Pairs.{IsPair}
use Rattle.pict_turns.specs.Views.{IsBlock, IsInputAt, CanWait}
use Rattle.pict_meetings.specs.Waiting.{oldest}
use Rattle.pict_meetings.specs.declared.waiting.Waiting.TheVariants.{Output, Input}

-- an output of kept values waits first
pub record FirstMessage (h : HeapState) (list : List (List ℕ)) : Type 0 where
  pub kept : Kept
  pub rest : List (List ℕ)
  pub is : list ≡ kept_words kept ∷ rest
  pub message : IsPair h kept.message

pub first_message : (core : Process) (h : HeapState) (list : List (List ℕ)) → AllByRecursion (IsBlock core h) list → oldest list ≡ Output → FirstMessage h list
first_message core h [] blocks first = cc
first_message core h (words ∷ rest) (inl node, blocks) first = let e : Input node.number ≡ Output = sym (ap (λ ws. oldest (ws ∷ rest)) node.is) ∙ first in cc
first_message core h (words ∷ rest) (inr k, blocks) first = record { kept = k.kept; rest = rest; is = ap (λ ws. ws ∷ rest) k.is; message = k.message }

-- an input waits first
pub record FirstInput (core : Process) (h : HeapState) (list : List (List ℕ)) (number : ℕ) : Type 0 where
  pub held : List ℕ
  pub rest : List (List ℕ)
  pub is : list ≡ (suc number ∷ held) ∷ rest
  pub input : IsInputAt core number
  pub block : IsBlock core h (suc number ∷ held)

pub first_input : (core : Process) (h : HeapState) (list : List (List ℕ)) (number : ℕ) → AllByRecursion (IsBlock core h) list → AllByRecursion (CanWait core) list → oldest list ≡ Input number
    → FirstInput core h list number
first_input core h [] number blocks can first = cc
first_input core h ([] ∷ rest) number blocks can first = cc
first_input core h ((zero ∷ held) ∷ rest) number blocks can first = cc
first_input core h ((suc n ∷ held) ∷ rest) number blocks can first = let e : n ≡ number = cc in rw (sym e) (record { held = held; rest = rest; is = refl; input = can.0; block = blocks.0 })
