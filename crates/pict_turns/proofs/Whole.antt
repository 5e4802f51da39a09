-- The steps of nodes that need no partner: the clauses of a step, from what each of them does.
use Rattle.std.proofs.Common.{ℕ, ◌+◌, ◌≤◌, ◌≡◌, Bool, if◌then◌else◌, List, [], ◌∷◌, map, max, ap, Result}
use Rattle.std.specs.declared.alloc.AllocError.{AllocError}
use Rattle.pict_core.specs.Term.{Val, Boolean}
use Rattle.pict_code.specs.Instruction as op
use Rattle.pict_code.specs.Plain.{plain_node}
use Rattle.pict_code.specs.declared.instruction.Node.{Node}
use Rattle.pict_region.specs.RegionState.{blocks}
use Rattle.pict_queue.specs.QueuesState.{CostsAtMost}
use Rattle.pict_desk.specs.Code.{core_in, IsCode, HasFrame}
use Rattle.pict_desk.specs.Known.{known, operand_value}
use Rattle.pict_desk.specs.Needs.{both_needs}
use Rattle.pict_blocks.specs.Parts.{block_width}
use Rattle.pict_turns.specs.Acting.{ActsBy, IsRight}
use Rattle.pict_turns.specs.Growing.{AddsAtMost, part_need}
use Rattle.pict_turns.specs.Stepping.{IsStepBy, StepsBy}
use Rattle.pict_turns.specs.Turns.{turn_cost}
use Rattle.pict_turns.specs.Widths.{MakesOnly, part_width}
use Rattle.pict_turns.specs.declared.event.Shown.{Shown}
use Rattle.pict_turns.specs.declared.store.Store.{Store}
use Rattle.pict_turns.specs.declared.turn.Turn.TheVariants.{Nobody}
use Rattle.pict_turns.proofs.Growing.{desk_same, adds_none, fork_added, new_added, choice_added}
use Rattle.pict_turns.proofs.Making.{makes_nothing}
use Rattle.pict_turns.proofs.Needing.{needed_by, node_needs, fork_made, new_made, choice_made}
use Rattle.pict_turns.proofs.InPlace.{has_partner}
use Rattle.pict_turns.proofs.Working.{end_works, fork_works, choose_works, new_works}

pub end_steps : (code : List Node) (s new : Store) (result : Result Shown AllocError) → IsStepBy (core_in code) s new result → ActsBy (core_in code) s op.Zero → new ≡ record s { turn = Nobody } → StepsBy code s new result
end_steps code s new result step a e =
    let core = core_in code in
    record {
      step = step;
      work = end_works core s new a e;
      blocks = needed_by core s new [] (node_needs core s op.Zero a) (makes_nothing s.queues new.queues [] (λ width. ap (λ (x : Store). blocks x.queues.region width) e));
      adds = adds_none core s new (desk_same s new (ap (λ (x : Store). x.desk) e));
      plain = λ x. absurd (has_partner core s op.Zero a x);
    }

module _ (code : List Node) (is : IsCode (map plain_node code)) (s new : Store) (result : Result Shown AllocError) (step : IsStepBy (core_in code) s new result) where
  pub fork_steps : (l r : ℕ) → ActsBy (core_in code) s (op.Par l r)
      → ((first : List ℕ) → HasFrame (map plain_node code) l first → turn_cost (core_in code) new ≤ turn_cost (core_in code) s + (block_width first + 4))
      → ((second : List ℕ) → HasFrame (map plain_node code) r second → CostsAtMost (block_width second + 2) s.queues new.queues)
      → MakesOnly s.queues new.queues (part_width (map plain_node code) l ∷ part_width (map plain_node code) r ∷ [])
      → AddsAtMost s new (both_needs (part_need (map plain_node code) l) (part_need (map plain_node code) r)) → StepsBy code s new result
  fork_steps l r a turn cost makes adds = record {
    step = step;
    work = fork_works code is s new l r a turn cost;
    blocks = fork_made code is s new l r a makes;
    adds = fork_added code is s new l r a adds;
    plain = λ x. absurd (has_partner (core_in code) s (op.Par l r) a x);
  }

  pub choose_steps : (test : Val) (l r : ℕ) → ActsBy (core_in code) s (op.If test l r) → IsRight (core_in code) s
      → ((first second : List ℕ) → HasFrame (map plain_node code) l first → HasFrame (map plain_node code) r second
      → turn_cost (core_in code) new ≤ turn_cost (core_in code) s + (max (block_width first) (block_width second) + 4))
      → new.queues.region.work ≡ s.queues.region.work
      → ((b : Bool) → operand_value (known s.desk.heap s.desk.values.items) test ≡ Boolean b → MakesOnly s.queues new.queues (part_width (map plain_node code) (if b then l else r) ∷ []))
      → ((b : Bool) → operand_value (known s.desk.heap s.desk.values.items) test ≡ Boolean b → AddsAtMost s new (part_need (map plain_node code) (if b then l else r))) → StepsBy code s new result
  choose_steps test l r a right turn work makes adds = record {
    step = step;
    work = choose_works code is s new test l r a turn work;
    blocks = choice_made code is s new test l r a right makes;
    adds = choice_added code is s new test l r a right adds;
    plain = λ x. absurd (has_partner (core_in code) s (op.If test l r) a x);
  }

  pub new_steps : (level part : ℕ) → ActsBy (core_in code) s (op.New level part)
      → ((frame : List ℕ) → HasFrame (map plain_node code) part frame → turn_cost (core_in code) new ≤ turn_cost (core_in code) s + (block_width frame + 4))
      → new.queues.region.work ≡ s.queues.region.work → MakesOnly s.queues new.queues (part_width (map plain_node code) part ∷ [])
      → AddsAtMost s new (part_need (map plain_node code) part) → StepsBy code s new result
  new_steps level part a turn work makes adds = record {
    step = step;
    work = new_works code is s new level part a turn work;
    blocks = new_made code is s new level part a makes;
    adds = new_added code is s new level part a adds;
    plain = λ x. absurd (has_partner (core_in code) s (op.New level part) a x);
  }
