-- A parallel composition, whose parts go to two places.
use Rattle.std.proofs.Common.{ℕ, suc, ◌+◌, ◌≡◌, List, [], ◌∷◌, ◌++◌, length, map, refl, sym, ap, ◌∙◌, subst, arith}
use Rattle.std.proofs.lemmas.List.{length-append}
use Rattle.pict_core.specs.Term as term
use Rattle.pict_core.specs.Term.{Process, Val}
use Rattle.pict_code.specs.Instruction as op
use Rattle.pict_code.specs.Instruction.{Node}
use Rattle.pict_code.specs.Nodes.{nodes_of, size}
use Rattle.pict_code.proofs.Numbering.{PlacedAt, par_placed}
use Rattle.pict_heap.specs.HeapState.{HeapState}
use Rattle.pict_queue.specs.QueuesState.{QueuesState}
use Rattle.pict_queue.specs.Contents.{contents}
use Rattle.pict_blocks.specs.Blocks.{process_of, IsNodeBlock}
use Rattle.pict_blocks.specs.Holding.{HoldsFrame}
use Rattle.pict_blocks.proofs.Standing.{stands_as, part_stands}
use Rattle.pict_desk.specs.Code.{HasFrame}
use Rattle.pict_desk.specs.Known.{value_in, known}
use Rattle.pict_desk.specs.Pairs.{ArePairs}
use Rattle.pict_desk.proofs.Making.{keeps_more, pairs_keep}
use Rattle.pict_desk.proofs.MakingRoom.{keeps_words}
use Rattle.pict_desk.proofs.Nodes.{is_par, op_is}
use Rattle.pict_desk.proofs.Parts.{node_with, par_stands}
use Rattle.pict_turns.specs.Acting.{IsStore, ActsBy}
use Rattle.pict_turns.specs.Reserving.{OnlyReserves}
use Rattle.pict_turns.specs.Views.{acting_words, view_with_turn}
use Rattle.pict_turns.specs.declared.store.Store.{Store}
use Rattle.pict_turns.specs.declared.turn.Turn.{Turn}
use Rattle.pict_turns.proofs.Room.{known_still}
use Rattle.pict_turns.proofs.Rows.{made_block, made_node, node_block_stays}
use Rattle.pict_turns.proofs.Turns.{words_nobody, view_nobody, set_aside, acting_block}
use Rattle.pict_turns.proofs.Views.{block_same}
use Rattle.pict_sites.specs.Passing.{HoldsTheSame, PutsParts, Splits}
use Rattle.pict_sites.specs.Views.{processes_in, IsSite}
use Rattle.pict_sites.proofs.Stores.{blocks_here, site_by, site_gains, processes_stay, processes_gain, view_with}

-- what a block of a parallel composition stands for, and blocks of its parts
record Parts (core : Process) (h : HeapState) (values : List (ℕ × ℕ)) (l r : ℕ) (words : List ℕ) : Type 0 where
  one : Process
  other : Process
  was : process_of core (value_in h) words ≡ term.Par one other
  left : (node : Node) (ws : List ℕ) → IsNodeBlock core h values l node ws → process_of core (value_in h) ws ≡ one
  right : (node : Node) (ws : List ℕ) → IsNodeBlock core h values r node ws → process_of core (value_in h) ws ≡ other

parts_of : (core : Process) (h : HeapState) (values : List (ℕ × ℕ)) (number l r : ℕ) (node : Node) (words : List ℕ) → IsNodeBlock core h values number node words → node.op ≡ op.Par l r → Parts core h values l r words
parts_of core h values number l r node words b o =
    let s = stands_as core h values number node words b in
    let n = s.part.around in
    let par = is_par number n l r s.part.process (op_is core number node s.part (op.Par l r) s.at o) in
    let placed = par_placed core number n par.p par.q (subst (λ x. PlacedAt core number n x) par.is s.at.placed) in
    record {
      one = node_with n (known h values) par.p;
      other = node_with n (known h values) par.q;
      was = s.is ∙ ap (node_with n (known h values)) par.is ∙ par_stands n (known h values) par.p par.q;
      left = λ m ws block. part_stands core h values (number + 1) l n par.p m ws par.left_is placed.0 block;
      right = λ m ws block. part_stands core h values (number + 1 + size par.p) r n par.q m ws par.right_is placed.1 block;
    }

-- ---- room is made before

pub puts_after : (core : Process) (s m n : Store) (before mid after : QueuesState) (l r : ℕ) (first second : List ℕ) → OnlyReserves s m → HoldsTheSame before mid
    → PutsParts m n mid after l first r second → PutsParts s n before after l first r second
puts_after core s m n before mid after l r first second rest same puts =
    let known_is = known_still core s m rest in
    record {
      held = puts.held;
      holds = subst (λ (value : ℕ → Val). HoldsFrame n.desk.heap value first puts.held) known_is puts.holds;
      other_held = puts.other_held;
      other_holds = subst (λ (value : ℕ → Val). HoldsFrame n.desk.heap value second puts.other_held) known_is puts.other_holds;
      front = puts.front ∙ ap (λ (ws : List (List ℕ)). (suc l ∷ puts.held) ∷ ws) (rest.contents 0);
      others = λ queue apart. puts.others queue apart ∙ rest.contents queue;
      queues = puts.queues ∙ ap length rest.queues;
      gains = record {
        last = puts.gains.last ∙ ap (λ (ws : List (List ℕ)). ws ++ (suc r ∷ puts.other_held) ∷ []) (same.contents 0);
        others = λ queue apart. puts.gains.others queue apart ∙ same.contents queue;
        queues = puts.gains.queues ∙ same.queues;
      };
      keeps = keeps_more s.desk.heap m.desk.heap n.desk.heap (keeps_words s.desk.heap m.desk.heap rest.heap) puts.keeps;
      values = puts.values ∙ rest.values;
      turn = puts.turn;
    }

-- ---- both parts stand

module _ (core : Process) (s n : Store) (before after : QueuesState) (l r : ℕ) (first second : List ℕ) (a : ActsBy core s (op.Par l r)) (site : IsSite core s.desk before)
    (f : HasFrame (nodes_of core) l first) (g : HasFrame (nodes_of core) r second) (puts : PutsParts s n before after l first r second) where
  abbrev own : IsSite core s.desk s.queues
  own = set_aside core s a.acting.store

  first_holds : HoldsFrame n.desk.heap (known s.desk.heap s.desk.values.items) f.node.frame puts.held
  first_holds = subst (λ (frame : List ℕ). HoldsFrame n.desk.heap (known s.desk.heap s.desk.values.items) frame puts.held) (sym f.is) puts.holds

  second_holds : HoldsFrame n.desk.heap (known s.desk.heap s.desk.values.items) g.node.frame puts.other_held
  second_holds = subst (λ (frame : List ℕ). HoldsFrame n.desk.heap (known s.desk.heap s.desk.values.items) frame puts.other_held) (sym g.is) puts.other_holds

  parts : Parts core n.desk.heap s.desk.values.items l r (acting_words core s)
  parts =
      parts_of core n.desk.heap s.desk.values.items a.number l r a.node (acting_words core s)
      (node_block_stays core s.desk.heap n.desk.heap puts.keeps s.desk.values.items a.acting.store.pairs a.number a.node (acting_words core s) (acting_block core s a.acting) a.is) a.op_is

  one_is : process_of core (value_in n.desk.heap) (suc l ∷ puts.held) ≡ parts.one
  one_is =
      parts.left f.node (suc l ∷ puts.held)
      (made_node core s.desk.heap n.desk.heap puts.keeps s.desk.values.items a.acting.store.pairs l f.node puts.held f.at first_holds)

  other_is : process_of core (value_in n.desk.heap) (suc r ∷ puts.other_held) ≡ parts.other
  other_is =
      parts.right g.node (suc r ∷ puts.other_held)
      (made_node core s.desk.heap n.desk.heap puts.keeps s.desk.values.items a.acting.store.pairs r g.node puts.other_held g.at second_holds)

  pairs : ArePairs n.desk.heap n.desk.values.items
  pairs = subst (ArePairs n.desk.heap) (sym puts.values) (pairs_keep s.desk.heap n.desk.heap puts.keeps s.desk.values.items a.acting.store.pairs)

  levels : length n.desk.values.items ≡ length s.desk.values.items
  levels = ap length puts.values

  here : IsSite core n.desk n.queues
  here =
      site_by core s.desk n.desk s.queues own puts.keeps n.queues ((suc l ∷ puts.held) ∷ contents s.queues 0) puts.front
      (made_block core n.desk.heap (known s.desk.heap s.desk.values.items) l f.node puts.held f.at first_holds, blocks_here core s.desk n.desk s.queues own puts.keeps)
      puts.others (let same = puts.queues in omega (arith, same)) pairs levels

  ready_is : processes_in core n.desk.heap n.queues ≡ parts.one ∷ processes_in core s.desk.heap s.queues
  ready_is =
      ap (map (process_of core (value_in n.desk.heap))) puts.front
      ∙ ap (λ (p : Process). p ∷ map (process_of core (value_in n.desk.heap)) (contents s.queues 0)) one_is
      ∙ ap (λ (ps : List Process). parts.one ∷ ps) (processes_stay core s.desk n.desk s.queues own puts.keeps s.queues refl)

  pub splits_by : Splits core s n before after
  splits_by = record {
    left = parts.one;
    right = parts.other;
    was = sym (block_same s.desk.heap n.desk.heap puts.keeps core (acting_words core s) (acting_block core s a.acting)) ∙ parts.was;
    store = subst (λ (t : Turn). IsStore core (record n { turn = t })) (sym puts.turn) here;
    turn = puts.turn;
    ready = view_nobody core n (words_nobody core n puts.turn) ∙ view_with core s.desk n.desk s.queues own puts.keeps n.queues puts.others puts.queues
        ∙ ap (λ (ps : List Process). record (view_with_turn core s) { ready = ps }) ready_is;
    queues = puts.queues;
    site = site_gains core s.desk n.desk before site puts.keeps after (suc r ∷ puts.other_held) puts.gains
        (made_block core n.desk.heap (known s.desk.heap s.desk.values.items) r g.node puts.other_held g.at second_holds) pairs levels;
    last = processes_gain core s.desk n.desk before site puts.keeps after (suc r ∷ puts.other_held) puts.gains.last
        ∙ ap (λ (p : Process). processes_in core s.desk.heap before ++ p ∷ []) other_is;
    more = ap length puts.gains.last ∙ length-append (contents before 0) ((suc r ∷ puts.other_held) ∷ []);
    keeps = puts.keeps;
    levels = levels;
  }
