-- A step that changes who is ready, and the queue of one channel.
use Rattle.std.proofs.Common.{ℕ, zero, suc, ◌+◌, ◌-◌, ◌<◌, ◌≤◌, ◌≡◌, ◌≢◌, List, ◌∷◌, length, sym, ap, ◌∙◌, subst, arith, ⊎_elim}
use Rattle.std.proofs.lemmas.Bool.{cases_eq}
use Rattle.std.specs.List.{AllByRecursion, slice_set}
use Rattle.pict_core.specs.Step.{Label}
use Rattle.pict_core.specs.Term.{Process}
use Rattle.pict_heap.specs.HeapState.{KeepsWords}
use Rattle.pict_queue.specs.QueuesState.{QueuesState, IsQueue, LosesNoQueue}
use Rattle.pict_queue.specs.Contents.{contents, HoldsNoMore}
use Rattle.pict_blocks.specs.Laws.{BlocksStep}
use Rattle.pict_desk.specs.Pairs.{ArePairs}
use Rattle.pict_desk.proofs.Making.{all_back}
use Rattle.pict_turns.specs.Views.{lists_from, channel_lists, turn_words, ready_words, acting_words, IsBlock, AreBlocks, CanWait, AreWaiting}
use Rattle.pict_turns.specs.Acting.{HasBlockFor, HasActing, IsDone}
use Rattle.pict_turns.specs.Turns.{IsTurn}
use Rattle.pict_turns.specs.declared.store.Store.{Store}
use Rattle.pict_turns.proofs.Rows.{store_by, done_by}
use Rattle.pict_turns.proofs.Views.{blocks_stay, lists_stay}

-- the lists of channels, where that of one is set
channels_set : (old new : QueuesState) (k n c : ℕ) → 1 ≤ k → c < n → ((queue : ℕ) → queue ≢ 0 → queue ≢ k + c → contents new queue ≡ contents old queue)
    → slice_set (lists_from old k n) c (contents new (k + c)) ≡ lists_from new k n
channels_set old new k zero c some h others = absurd (omega arith)
channels_set old new k (suc n) zero some h others =
    let e : k + 0 ≡ k = omega arith in
    let here : contents new (k + 0) ≡ contents new k = ap (contents new) e in
    let rest : lists_from new (k + 1) n ≡ lists_from old (k + 1) n =
    lists_stay old new (k + 1) n (λ queue more. others queue (λ none. omega (arith, none, more)) (λ same. omega (arith, same, more))) in
    ap (λ x. x ∷ lists_from old (k + 1) n) here ∙ ap (λ xs. contents new k ∷ xs) (sym rest)
channels_set old new k (suc n) (suc c) some h others =
    let e : k + suc c ≡ k + 1 + c = omega arith in
    let first : contents new k ≡ contents old k = others k (λ none. omega (arith, none)) (λ same. omega (arith, same)) in
    let rest = channels_set old new (k + 1) n c (omega arith) (omega arith) (λ queue some. λ apart. others queue some (λ same. apart (omega (arith, same)))) in
    ap (λ q. contents old k ∷ slice_set (lists_from old (k + 1) n) c (contents new q)) e
    ∙ ap (λ xs. contents old k ∷ xs) rest ∙ ap (λ x. x ∷ lists_from new (k + 1) n) (sym first)

-- These are ready and these wait at the channel afterwards, and the other queues hold what they held.
pub record Changes (core : Process) (old new : Store) (channel : ℕ) (ready waiting : List (List ℕ)) : Type 0 where
  pub ready_are : ready_words core new ≡ ready
  pub waiting_are : contents new.queues (channel + 1) ≡ waiting
  pub others : (queue : ℕ) → queue ≢ 0 → queue ≢ channel + 1 → contents new.queues queue ≡ contents old.queues queue
  pub queues : length new.queues.queues ≡ length old.queues.queues
  pub keeps : KeepsWords old.desk.heap new.desk.heap
  pub pairs : ArePairs new.desk.heap new.desk.values.items
  pub levels : length new.desk.values.items ≡ length old.desk.values.items
  pub turn : IsTurn core new.desk.heap new.desk.values.items new.turn
  pub room : AllByRecursion (HasBlockFor new.queues.region) (turn_words core new)

module _ (core : Process) (old new : Store) (channel : ℕ) (ready waiting : List (List ℕ)) (acting : HasActing core old)
    (there : IsQueue old.queues (channel + 1)) (changes : Changes core old new channel ready waiting) where
  blocks_after : AllByRecursion (IsBlock core new.desk.heap) ready → AllByRecursion (IsBlock core new.desk.heap) waiting → AreBlocks core new
  blocks_after r w queue =
      let P : List (List ℕ) → Type 0 = AllByRecursion (IsBlock core new.desk.heap) in
      ⊎_elim
      (λ (none : queue ≡ 0).
      subst (λ q. P (contents new.queues q)) (sym none)
      (all_back (IsBlock core new.desk.heap) (turn_words core new) (contents new.queues 0) (subst P (sym changes.ready_are) r)))
      (λ (some : queue ≢ 0). ⊎_elim
      (λ (here : queue ≡ channel + 1). subst (λ q. P (contents new.queues q)) (sym here) (subst P (sym changes.waiting_are) w))
      (λ (apart : queue ≢ channel + 1). subst P (sym (changes.others queue some apart)) (blocks_stay old.desk.heap new.desk.heap changes.keeps core (contents old.queues queue) (acting.store.blocks queue)))
      (cases_eq queue (channel + 1)))
      (cases_eq queue 0)

  waiting_after : AllByRecursion (CanWait core) waiting → AreWaiting core new.queues
  waiting_after w other =
      let P : List (List ℕ) → Type 0 = AllByRecursion (CanWait core) in
      ⊎_elim
      (λ (here : other ≡ channel). subst (λ c. P (contents new.queues (c + 1))) (sym here) (subst P (sym changes.waiting_are) w))
      (λ (apart : other ≢ channel).
      subst P (sym (changes.others (other + 1) (λ none. omega (arith, none)) (λ same. apart (omega (arith, same))))) (acting.store.waiting other))
      (cases_eq other channel)

  channels_after : slice_set (channel_lists old.queues) channel waiting ≡ channel_lists new.queues
  channels_after =
      let low : channel < length old.queues.queues - 1 = omega (arith, there) in
      let e : 1 + channel ≡ channel + 1 = omega arith in
      let others : (queue : ℕ) → queue ≢ 0 → queue ≢ 1 + channel → contents new.queues queue ≡ contents old.queues queue =
      (λ queue some. λ apart. changes.others queue some (λ same. apart (omega (arith, same)))) in
      ap (slice_set (channel_lists old.queues) channel) (sym (ap (contents new.queues) e ∙ changes.waiting_are))
      ∙ channels_set old.queues new.queues 1 (length old.queues.queues - 1) channel (omega arith) low others
      ∙ ap (λ n. lists_from new.queues 1 (n - 1)) (sym changes.queues)

  pub done : (label : Label) → AllByRecursion (IsBlock core new.desk.heap) ready → AllByRecursion (IsBlock core new.desk.heap) waiting → AllByRecursion (CanWait core) waiting
      → BlocksStep core new.desk.heap (acting_words core old ∷ contents old.queues 0) (channel_lists old.queues) label ready (slice_set (channel_lists old.queues) channel waiting)
      → HoldsNoMore old.queues new.queues → LosesNoQueue old.queues new.queues → IsDone core old new label
  done label r w can step no_more no_loss =
      done_by core old new acting changes.keeps ready (slice_set (channel_lists old.queues) channel waiting) label step changes.ready_are (sym channels_after)
      (store_by core old new acting.store changes.keeps (omega (arith, acting.store.ready, changes.queues)) (blocks_after r w) (waiting_after can) changes.pairs changes.levels changes.turn changes.room)
      changes.levels (omega (arith, changes.queues)) no_more no_loss
