-- Views of stores: what stays where the heap grows and where other queues stay.
use Rattle.std.proofs.Common.{ℕ, zero, suc, ◌+◌, ◌<◌, ◌≤◌, ◌≡◌, ◌≢◌, inl, inr, Bool, true, false, cond, nat_lt, List, [], ◌∷◌, length, map, refl, sym, ap, ◌∙◌, arith, Some}
use Rattle.std.proofs.lemmas.Bool.Decides.{nat_tests}
use Rattle.std.specs.List.{AllByRecursion, slice_get, slice_set}
use Rattle.pict_syntax.specs.declared.limits.TheConstants.{NARROW_LIMIT}
use Rattle.pict_core.specs.Term.{Val, Process, Out}
use Rattle.pict_code.specs.Frames.{frame_of}
use Rattle.pict_code.specs.Instruction.{Node}
use Rattle.pict_code.specs.Standing.{with_frame}
use Rattle.pict_queue.specs.QueuesState.{QueuesState}
use Rattle.pict_queue.specs.Contents.{contents}
use Rattle.pict_heap.specs.HeapState.{HeapState, KeepsWords}
use Rattle.pict_blocks.specs.Blocks.{values_in_words, frame_values, node_process, process_of, view_of_contents}
use Rattle.pict_desk.specs.Known.{value_in, value_fields}
use Rattle.pict_desk.proofs.Nodes.{part_of}
use Rattle.pict_desk.specs.Pairs.{IsPair}
use Rattle.pict_desk.proofs.Pairs.{value_packed}
use Rattle.pict_blocks.specs.Holding.{HoldWords, HoldRecord, HoldsFrame}
use Rattle.pict_turns.specs.Views.{lists_from, IsNode, IsKept, IsBlock}

module _ (old new : HeapState) (keeps : KeepsWords old new) where
  pub pair_stays : (pair : ℕ × ℕ) → IsPair old pair → IsPair new pair
  pair_stays pair p = record { word = p.word; is = keeps.words p.word p.is; fits = p.fits; packs = p.packs }

  pub value_stays : (pair : ℕ × ℕ) → IsPair old pair → value_in new pair.0 pair.1 ≡ value_in old pair.0 pair.1
  value_stays pair p = value_packed new p.word pair p.fits p.packs ∙ keeps.values p.word p.is ∙ sym (value_packed old p.word pair p.fits p.packs)

  words_stay : (n : ℕ) (ws : List ℕ) → HoldWords old n ws → HoldWords new n ws
  words_stay zero [] h = tt
  words_stay zero (x ∷ ws) h = absurd h
  words_stay (suc n) [] h = absurd h
  words_stay (suc n) (x ∷ []) h = absurd h
  words_stay (suc n) (x ∷ y ∷ ws) h = (pair_stays (x, y) h.0, words_stay n ws h.1)

  values_stay : (n : ℕ) (ws : List ℕ) → HoldWords old n ws → values_in_words (value_in new) ws ≡ values_in_words (value_in old) ws
  values_stay zero [] h = refl
  values_stay zero (x ∷ ws) h = absurd h
  values_stay (suc n) [] h = absurd h
  values_stay (suc n) (x ∷ []) h = absurd h
  values_stay (suc n) (x ∷ y ∷ ws) h = cc (value_stays (x, y) h.0, values_stay n ws h.1)

  pub record_stays : (n : ℕ) (ws : List ℕ) → HoldRecord old n ws → HoldRecord new n ws
  record_stays n ws r = record { pair = r.pair; is = r.is; word = pair_stays r.pair r.word; many = ap (λ v. length (value_fields v)) (value_stays r.pair r.word) ∙ r.many; few = r.few }

  -- an output of kept values
  pub kept_stays : (words : List ℕ) → IsKept old words → IsKept new words
  kept_stays words k = record { kept = k.kept; is = k.is; fits = k.fits; to = pair_stays k.kept.to k.to; message = pair_stays k.kept.message k.message }

  one_record : (n x y : ℕ) (ws : List ℕ) → HoldRecord old n (x ∷ y ∷ ws) → value_in new x y ≡ value_in old x y
  one_record n x y ws r =
      let e : x ≡ r.pair.0 = let h = r.is in cc in
      let f : y ≡ r.pair.1 = let h = r.is in cc in
      ap (λ a. value_in new a y) e ∙ ap (λ b. value_in new r.pair.0 b) f ∙ value_stays r.pair r.word ∙ sym (ap (λ a. value_in old a y) e ∙ ap (λ b. value_in old r.pair.0 b) f)

  frame_by : (n x y : ℕ) (ws : List ℕ) (b : Bool) → nat_lt NARROW_LIMIT n ≡ b → (n ≤ NARROW_LIMIT → HoldWords old n (x ∷ y ∷ ws)) → (NARROW_LIMIT < n → HoldRecord old n (x ∷ y ∷ ws))
      → cond b (value_fields (value_in new x y)) (values_in_words (value_in new) (x ∷ y ∷ ws)) ≡ cond b (value_fields (value_in old x y)) (values_in_words (value_in old) (x ∷ y ∷ ws))
  frame_by n x y ws true e narrow wide = let many : NARROW_LIMIT < n = grind (arith, nat_tests) in ap value_fields (one_record n x y ws (wide many))
  frame_by n x y ws false e narrow wide = let few : n ≤ NARROW_LIMIT = grind (arith, nat_tests) in values_stay n (x ∷ y ∷ ws) (narrow few)

  pub frame_stays : (n : ℕ) (ws : List ℕ) → (n ≤ NARROW_LIMIT → HoldWords old n ws) → (NARROW_LIMIT < n → HoldRecord old n ws) → frame_values (value_in new) n ws ≡ frame_values (value_in old) n ws
  frame_stays n [] narrow wide = refl
  frame_stays n (x ∷ []) narrow wide = refl
  frame_stays n (x ∷ y ∷ ws) narrow wide = frame_by n x y ws (nat_lt NARROW_LIMIT n) refl narrow wide

  pub frame_held : (value : ℕ → Val) (frame held : List ℕ) → HoldsFrame old value frame held → HoldsFrame new value frame held
  frame_held value frame held h = record {
    values = frame_stays (length frame) held h.narrow h.wide ∙ h.values;
    narrow = λ few. words_stay (length frame) held (h.narrow few);
    wide = λ many. record_stays (length frame) held (h.wide many);
  }

  module _ (core : Process) where
    pub node_stays : (words : List ℕ) → IsNode core old words → IsNode core new words
    node_stays words n = record {
      number = n.number;
      node = n.node;
      at = n.at;
      held = n.held;
      is = n.is;
      narrow = λ few. words_stay (length n.node.frame) n.held (n.narrow few);
      wide = λ many. record_stays (length n.node.frame) n.held (n.wide many);
    }

    pub block_stays : (words : List ℕ) → IsBlock core old words → IsBlock core new words
    block_stays words (inl n) = inl (node_stays words n)
    block_stays words (inr k) = inr (kept_stays words k)

    pub blocks_stay : (ws : List (List ℕ)) → AllByRecursion (IsBlock core old) ws → AllByRecursion (IsBlock core new) ws
    blocks_stay [] a = tt
    blocks_stay (w ∷ ws) a = (block_stays w a.0, blocks_stay ws a.1)

    node_same : (words : List ℕ) → IsNode core old words → process_of core (value_in new) words ≡ process_of core (value_in old) words
    node_same words n =
        let p = part_of core n.number n.node n.at in
        let frame : n.node.frame ≡ frame_of p.0.around p.0.process = sym (ap (λ (m : Node). m.frame) p.1.node_is) in
        let same = frame_stays (length n.node.frame) n.held n.narrow n.wide in
        ap (process_of core (value_in new)) n.is ∙ ap (node_process (value_in new) n.held) p.1.at
        ∙ ap (with_frame p.0) (ap (λ ls. frame_values (value_in new) (length ls) n.held) (sym frame) ∙ same ∙ ap (λ ls. frame_values (value_in old) (length ls) n.held) frame)
        ∙ sym (ap (process_of core (value_in old)) n.is ∙ ap (node_process (value_in old) n.held) p.1.at)

    kept_same : (words : List ℕ) → IsKept old words → process_of core (value_in new) words ≡ process_of core (value_in old) words
    kept_same words k =
        ap (process_of core (value_in new)) k.is
        ∙ ap (λ v. Out v (value_in new k.kept.message.0 k.kept.message.1) (record { text = k.kept.at.text; start = k.kept.at.start; end = k.kept.at.end })) (value_stays k.kept.to k.to)
        ∙ ap (λ v. Out (value_in old k.kept.to.0 k.kept.to.1) v (record { text = k.kept.at.text; start = k.kept.at.start; end = k.kept.at.end })) (value_stays k.kept.message k.message)
        ∙ sym (ap (process_of core (value_in old)) k.is)

    -- what a block stands for stays
    pub block_same : (words : List ℕ) → IsBlock core old words → process_of core (value_in new) words ≡ process_of core (value_in old) words
    block_same words (inl n) = node_same words n
    block_same words (inr k) = kept_same words k

    blocks_same : (ws : List (List ℕ)) → AllByRecursion (IsBlock core old) ws → map (process_of core (value_in new)) ws ≡ map (process_of core (value_in old)) ws
    blocks_same [] a = refl
    blocks_same (w ∷ ws) a = cc (block_same w a.0, blocks_same ws a.1)

    lists_same : (ls : List (List (List ℕ))) → AllByRecursion (AllByRecursion (IsBlock core old)) ls → map (map (process_of core (value_in new))) ls ≡ map (map (process_of core (value_in old))) ls
    lists_same [] a = refl
    lists_same (l ∷ ls) a = cc (blocks_same l a.0, lists_same ls a.1)

    pub view_same : (ready : List (List ℕ)) (lists : List (List (List ℕ))) → AllByRecursion (IsBlock core old) ready → AllByRecursion (AllByRecursion (IsBlock core old)) lists
        → view_of_contents core (value_in new) ready lists ≡ view_of_contents core (value_in old) ready lists
    view_same ready lists a b =
        ap (λ ps. record { ready = ps; channels = map (map (process_of core (value_in new))) lists }) (blocks_same ready a)
        ∙ ap (λ ls. record { ready = map (process_of core (value_in old)) ready; channels = ls }) (lists_same lists b)

-- ---- lists of queues

pub lists_stay : (old new : QueuesState) (k n : ℕ) → ((queue : ℕ) → k ≤ queue → contents new queue ≡ contents old queue) → lists_from new k n ≡ lists_from old k n
lists_stay old new k zero same = refl
lists_stay old new k (suc n) same = cc (same k (omega arith), lists_stay old new (k + 1) n (λ queue h. same queue (omega arith)))

pub list_there : (s : QueuesState) (k n c : ℕ) → c < n → slice_get (lists_from s k n) c ≡ Some (contents s (k + c))
list_there s k zero c h = absurd (omega arith)
list_there s k (suc n) zero h = let e : k ≡ k + 0 = omega arith in ap (λ q. Some (contents s q)) e
list_there s k (suc n) (suc c) h = let e : k + 1 + c ≡ k + suc c = omega arith in list_there s (k + 1) n c (omega arith) ∙ ap (λ q. Some (contents s q)) e

pub list_set : (old new : QueuesState) (k n c : ℕ) → c < n → ((queue : ℕ) → queue ≢ k + c → contents new queue ≡ contents old queue)
    → slice_set (lists_from old k n) c (contents new (k + c)) ≡ lists_from new k n
list_set old new k zero c h others = absurd (omega arith)
list_set old new k (suc n) zero h others =
    let e : k + 0 ≡ k = omega arith in
    let here : contents new (k + 0) ≡ contents new k = ap (contents new) e in
    let rest : lists_from new (k + 1) n ≡ lists_from old (k + 1) n = lists_stay old new (k + 1) n (λ queue more. others queue (λ same. omega (arith, same, more))) in
    ap (λ x. x ∷ lists_from old (k + 1) n) here ∙ ap (λ xs. contents new k ∷ xs) (sym rest)
list_set old new k (suc n) (suc c) h others =
    let e : k + suc c ≡ k + 1 + c = omega arith in
    let first : contents new k ≡ contents old k = others k (λ same. omega (arith, same)) in
    let rest = list_set old new (k + 1) n c (omega arith) (λ queue apart. others queue (λ same. apart (omega (arith, same)))) in
    ap (λ q. contents old k ∷ slice_set (lists_from old (k + 1) n) c (contents new q)) e
    ∙ ap (λ xs. contents old k ∷ xs) rest ∙ ap (λ x. x ∷ lists_from new (k + 1) n) (sym first)

pub lists_are : (core : Process) (h : HeapState) (s : QueuesState) (k n : ℕ) → ((queue : ℕ) → AllByRecursion (IsBlock core h) (contents s queue)) → AllByRecursion (AllByRecursion (IsBlock core h)) (lists_from s k n)
lists_are core h s k zero a = tt
lists_are core h s k (suc n) a = (a k, lists_are core h s (k + 1) n a)
