-- A packet is taken out of the post.
use Rattle.std.proofs.Common.{ℕ, ◌≡◌, ◌≢◌, ◌≤◌, ◌<◌, ◌+◌, ◌-◌, ⊎_elim, List, ◌∷◌, ◌++◌, length, take, drop, refl, sym, ap, ◌∙◌, subst, arith, Result, Ok, Err, OnOk, OnErr}
use Rattle.std.proofs.lemmas.Bool.{cases_eq}
use Rattle.std.proofs.lemmas.List.{length-append}
use Rattle.std.specs.declared.alloc.AllocError.{AllocError}
use Rattle.pict_core.specs.Term.{Process}
use Rattle.pict_queue.specs.QueuesState.{QueuesState}
use Rattle.pict_queue.specs.Contents.{contents, KeepsOtherContents}
use Rattle.pict_turns.specs.Acting.{IsStore, HasActing}
use Rattle.pict_turns.specs.Turns.{TakesTurn}
use Rattle.pict_turns.specs.Views.{acting_words, ready_words}
use Rattle.pict_turns.specs.declared.store.Store.{Store}
use Rattle.pict_turns.specs.declared.turn.Turn.TheVariants.{Nobody}
use Rattle.pict_turns.proofs.Turns.{set_aside, ready_is}
use Rattle.pict_sites.specs.Passing.{GainsLast, HoldsTheSame, PassesOn}
use Rattle.pict_sites.specs.Turning.{turned}
use Rattle.pict_sites.proofs.Lists.{Around, around}
use Rattle.pict_sites.proofs.Turned.{turned_whole}

pub passed_store : {T : Type 0} (core : Process) (old new : Store) (r : Result T AllocError) → IsStore core old → OnOk r (new ≡ record old { turn = Nobody }) → OnErr r (new ≡ old) → IsStore core new
passed_store core old new (Ok v) store nobody same = subst (IsStore core) (sym nobody) (set_aside core old store)
passed_store core old new (Err e) store nobody same = subst (IsStore core) (sym same) store

-- The post was turned by j, its first packet taken off, and what is left put back, or all of it.
module _ (core : Process) (post first left back last : QueuesState) (taken given : Store) (s : Store) (j : ℕ) (low : j < length (contents post 0)) (turn : contents first 0 ≡ turned j (contents post 0))
    (turn_others : KeepsOtherContents post first 0) (turn_queues : length first.queues ≡ length post.queues) (lent : s.queues ≡ first) (acting : HasActing core taken) (takes : TakesTurn core s taken)
    (ready : contents back 0 ≡ ready_words core given) (ready_others : KeepsOtherContents given.queues back 0) (ready_queues : length back.queues ≡ length given.queues.queues) (kept : left ≡ back)
    (last_others : KeepsOtherContents left last 0) (last_queues : length last.queues ≡ length left.queues) where
  abbrev all : List (List ℕ)
  all = contents post 0

  abbrev a : Around all j
  a = around all j low

  abbrev rest : List (List ℕ)
  rest = drop (j + 1) all ++ take j all

  first_is : acting_words core taken ∷ contents taken.queues 0 ≡ a.item ∷ rest
  first_is = sym takes.first ∙ ap (λ (q : QueuesState). contents q 0) lent ∙ turn ∙ ap (λ ws. ws ++ take j all) a.behind

  pub words_are : acting_words core taken ≡ a.item
  words_are = let e = first_is in cc

  rest_is : contents taken.queues 0 ≡ rest
  rest_is = let e = first_is in cc

  others_are : (x : Store) → x.queues ≡ taken.queues → given ≡ x → KeepsOtherContents post last 0
  others_are x same e queue apart =
      last_others queue apart ∙ ap (λ (q : QueuesState). contents q queue) kept ∙ ready_others queue apart ∙ ap (λ (y : Store). contents y.queues queue) e ∙ ap (λ (q : QueuesState). contents q queue) same
      ∙ takes.others queue apart ∙ ap (λ (q : QueuesState). contents q queue) lent ∙ turn_others queue apart

  queues_are : (x : Store) → x.queues ≡ taken.queues → given ≡ x → length last.queues ≡ length post.queues
  queues_are x same e =
      last_queues ∙ ap (λ (q : QueuesState). length q.queues) kept ∙ ready_queues ∙ ap (λ (y : Store). length y.queues.queues) e ∙ ap (λ (q : QueuesState). length q.queues) same
      ∙ takes.queues ∙ ap (λ (q : QueuesState). length q.queues) lent ∙ turn_queues

  -- it was passed on
  module _ (passed : given ≡ record taken { turn = Nobody }) where
    pub left_is : contents left 0 ≡ rest
    left_is = ap (λ (q : QueuesState). contents q 0) kept ∙ ready ∙ ap (ready_words core) passed ∙ rest_is

    pub left_there : length (contents post 0) - 1 - j ≤ length (contents left 0)
    left_there =
        let e = ap length left_is in
        let b = a.back in
        let n = length-append (drop (j + 1) all) (take j all) in
        omega (arith, e, b, n)

    module _ (turn_back : contents last 0 ≡ turned (length (contents post 0) - 1 - j) (contents left 0)) (site new : QueuesState) (gains : GainsLast site new (acting_words core taken)) where
      pub passes_on : PassesOn post last site new (take j all) (drop (j + 1) all) a.item
      passes_on = record {
        was = a.whole;
        is = turn_back ∙ ap (turned (length (contents post 0) - 1 - j)) left_is
            ∙ ap (λ (k : ℕ). turned k rest) (let b = a.back in omega (arith, b)) ∙ turned_whole (drop (j + 1) all) (take j all);
        others = others_are (record taken { turn = Nobody }) refl passed;
        queues = queues_are (record taken { turn = Nobody }) refl passed;
        gains = subst (GainsLast site new) words_are gains;
      }

      pub front_many : length (take j all) ≡ j
      front_many = a.front

  -- it wasn't
  module _ (same : given ≡ taken) (turn_back : contents last 0 ≡ turned (length (contents post 0) - j) (contents left 0)) where
    whole_is : contents left 0 ≡ drop j all ++ take j all
    whole_is =
        ap (λ (q : QueuesState). contents q 0) kept ∙ ready ∙ ap (ready_words core) same ∙ ready_is core taken (acting_words core taken) acting.has
        ∙ first_is ∙ ap (λ ws. ws ++ take j all) (sym a.behind)

    first_same : contents last 0 ≡ contents post 0
    first_same =
        turn_back ∙ ap (turned (length (contents post 0) - j)) whole_is
        ∙ ap (λ (k : ℕ). turned k (drop j all ++ take j all)) (let e = ap length a.behind in let b = a.back in omega (arith, e, b))
        ∙ turned_whole (drop j all) (take j all) ∙ ap (λ ws. take j all ++ ws) a.behind ∙ sym a.whole

    pub post_same : HoldsTheSame post last
    post_same = record {
      contents = λ queue. ⊎_elim
          (λ (here : queue ≡ 0). subst (λ (q : ℕ). contents last q ≡ contents post q) (sym here) first_same)
          (λ (apart : queue ≢ 0). others_are taken refl same queue apart)
          (cases_eq queue 0);
      queues = queues_are taken refl same;
    }
