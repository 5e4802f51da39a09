-- Queues that are a site's still, and what they stand for.
use Rattle.std.proofs.Common.{ℕ, ◌≡◌, ◌≤◌, ◌+◌, ◌-◌, List, [], ◌∷◌, ◌++◌, length, map, refl, ap, ◌∙◌, arith}
use Rattle.std.specs.List.{AllByRecursion}
use Rattle.std.proofs.lemmas.List.{map-append}
use Rattle.pict_core.specs.Term.{Process}
use Rattle.pict_heap.specs.HeapState.{KeepsWords}
use Rattle.pict_queue.specs.QueuesState.{QueuesState}
use Rattle.pict_queue.specs.Contents.{contents, KeepsAllContents, KeepsOtherContents}
use Rattle.pict_view.specs.View.{View}
use Rattle.pict_blocks.specs.Blocks.{process_of, view_of_contents}
use Rattle.pict_desk.specs.Known.{value_in}
use Rattle.pict_desk.specs.Pairs.{ArePairs}
use Rattle.pict_desk.specs.declared.desk.Desk.{Desk}
use Rattle.pict_desk.proofs.Making.{all_append}
use Rattle.pict_turns.specs.Views.{channel_lists, IsBlock}
use Rattle.pict_turns.specs.declared.store.Store.{Store}
use Rattle.pict_turns.specs.declared.turn.Turn.TheVariants.{Nobody}
use Rattle.pict_turns.proofs.Rows.{channels_stay, blocks_by, ready_stay, waiting_by, store_by}
use Rattle.pict_turns.proofs.Steps.{channel_added}
use Rattle.pict_turns.proofs.Views.{view_same, lists_are}
use Rattle.pict_sites.specs.Views.{view_of_queues, processes_in, IsSite}
use Rattle.pict_sites.specs.Passing.{GainsLast}

module _ (core : Process) (d e : Desk) (q : QueuesState) (site : IsSite core d q) (keeps : KeepsWords d.heap e.heap) where
  abbrev before : Store
  before = record { desk = d; queues = q; turn = Nobody }

  abbrev after : QueuesState → Store
  after r = record { desk = e; queues = r; turn = Nobody }

  -- what was ready is blocks still
  pub blocks_here : AllByRecursion (IsBlock core e.heap) (contents q 0)
  blocks_here = ready_stay core before (after q) site keeps

  pub site_by : (r : QueuesState) (ready : List (List ℕ)) → contents r 0 ≡ ready → AllByRecursion (IsBlock core e.heap) ready → KeepsOtherContents q r 0 → length q.queues ≤ length r.queues
      → ArePairs e.heap e.values.items → length e.values.items ≡ length d.values.items → IsSite core e r
  site_by r ready is are others more pairs levels =
      store_by core before (after r) site keeps (let low = site.ready in omega (arith, low, more)) (blocks_by core before (after r) site keeps ready is are others)
      (waiting_by core before (after r) site keeps others) pairs levels tt tt

  -- queues that hold the same
  pub site_stays : (r : QueuesState) → KeepsAllContents q r → length q.queues ≤ length r.queues → ArePairs e.heap e.values.items → length e.values.items ≡ length d.values.items → IsSite core e r
  site_stays r same more pairs levels = site_by r (contents q 0) (same 0) blocks_here (λ queue apart. same queue) more pairs levels

  -- queues with a block more
  pub site_gains : (r : QueuesState) (words : List ℕ) → GainsLast q r words → IsBlock core e.heap words → ArePairs e.heap e.values.items → length e.values.items ≡ length d.values.items → IsSite core e r
  site_gains r words gains block pairs levels =
      site_by r (contents q 0 ++ words ∷ []) gains.last (all_append (IsBlock core e.heap) (contents q 0) (words ∷ []) blocks_here (block, tt)) gains.others
      (let same = gains.queues in omega (arith, same)) pairs levels

  -- ---- what they stand for

  same_here : view_of_contents core (value_in e.heap) (contents q 0) (channel_lists q) ≡ view_of_queues core d.heap q
  same_here = view_same d.heap e.heap keeps core (contents q 0) (channel_lists q) (site.blocks 0) (lists_are core d.heap q 1 (length q.queues - 1) site.blocks)

  -- that of queues with this in queue 0
  pub view_with : (r : QueuesState) → KeepsOtherContents q r 0 → length r.queues ≡ length q.queues → view_of_queues core e.heap r ≡ record (view_of_queues core d.heap q) { ready = processes_in core e.heap r }
  view_with r others count =
      ap (view_of_contents core (value_in e.heap) (contents r 0)) (channels_stay q r others count)
      ∙ ap (λ (v : View). record v { ready = processes_in core e.heap r }) same_here

  pub processes_stay : (r : QueuesState) → contents r 0 ≡ contents q 0 → processes_in core e.heap r ≡ processes_in core d.heap q
  processes_stay r is = ap (map (process_of core (value_in e.heap))) is ∙ ap (λ (v : View). v.ready) same_here

  pub view_stays : (r : QueuesState) → KeepsAllContents q r → length r.queues ≡ length q.queues → view_of_queues core e.heap r ≡ view_of_queues core d.heap q
  view_stays r same count =
      view_with r (λ queue apart. same queue) count
      ∙ ap (λ (ps : List Process). record (view_of_queues core d.heap q) { ready = ps }) (processes_stay r (same 0))

  pub processes_gain : (r : QueuesState) (words : List ℕ) → contents r 0 ≡ contents q 0 ++ words ∷ [] → processes_in core e.heap r ≡ processes_in core d.heap q ++ process_of core (value_in e.heap) words ∷ []
  processes_gain r words is =
      ap (map (process_of core (value_in e.heap))) is ∙ map-append (process_of core (value_in e.heap)) (contents q 0) (words ∷ [])
      ∙ ap (λ (ps : List Process). ps ++ process_of core (value_in e.heap) words ∷ []) (processes_stay q refl)

  -- that of queues with a queue more
  pub view_grows : (r : QueuesState) → KeepsAllContents q r → length r.queues ≡ length q.queues + 1
      → view_of_queues core e.heap r ≡ record (view_of_queues core d.heap q) { channels = (view_of_queues core d.heap q).channels ++ [] ∷ [] }
  view_grows r same count =
      let f = map (process_of core (value_in e.heap)) in
      ap (λ (ready : List (List ℕ)). view_of_contents core (value_in e.heap) ready (channel_lists r)) (same 0)
      ∙ ap (view_of_contents core (value_in e.heap) (contents q 0)) (channel_added q r same count site.ready)
      ∙ ap (λ (cs : List (List Process)). record { ready = f (contents q 0); channels = cs }) (map-append f (channel_lists q) ([] ∷ []))
      ∙ ap (λ (v : View). record v { channels = v.channels ++ [] ∷ [] }) same_here
