-- The steps of the instructions that meet nobody: 0, P | Q, if b P Q.
use Rattle.std.proofs.Common.{ℕ, ◌+◌, ◌≡◌, Bool, true, false, cond, List, ◌∷◌, ap, ◌∙◌, subst}
use Rattle.pict_core.specs.Term as term
use Rattle.pict_core.specs.Term.{Process, Val, Boolean}
use Rattle.pict_core.specs.Closed.{IsUnder}
use Rattle.pict_code.specs.Instruction as op
use Rattle.pict_code.specs.Instruction.{Node}
use Rattle.pict_code.specs.Nodes.{size}
use Rattle.pict_code.proofs.Numbering.{PlacedAt, par_placed, if_placed}
use Rattle.pict_code.proofs.Closings.{part_under}
use Rattle.pict_heap.specs.HeapState.{HeapState}
use Rattle.pict_core.specs.Step.{Quiet}
use Rattle.pict_view.proofs.Rows.{ends, forks, takes_first, takes_second}
use Rattle.pict_blocks.specs.Blocks.{process_of, IsNodeBlock}
use Rattle.pict_desk.specs.Known.{value_in, known}
use Rattle.pict_blocks.specs.Laws.{BlocksStep, NodesEnd, PartsFork, TestsChoose}
use Rattle.pict_desk.proofs.Parts.{node_with, par_stands, if_stands}
use Rattle.pict_desk.proofs.Nodes.{is_zero, is_par, is_if, op_is}
use Rattle.pict_blocks.proofs.Standing.{stands_as, part_stands}
use Rattle.pict_desk.proofs.OperandsAround.{same_operand}

pub nodes_end : NodesEnd
nodes_end core h values number node words b o rest channels =
    let s = stands_as core h values number node words b in
    let zero = is_zero number s.part.around s.part.process (op_is core number node s.part op.Zero s.at o) in
    ends (List ℕ) (process_of core (value_in h)) words rest channels (s.is ∙ ap (node_with s.part.around (known h values)) zero)

pub parts_fork : PartsFork
parts_fork core h values number l r node left right words left_words right_words b o b_left b_right rest channels =
    let s = stands_as core h values number node words b in
    let n = s.part.around in
    let par = is_par number n l r s.part.process (op_is core number node s.part (op.Par l r) s.at o) in
    let placed = par_placed core number n par.p par.q (subst (λ x. PlacedAt core number n x) par.is s.at.placed) in
    forks (List ℕ) (process_of core (value_in h)) words rest channels
    (node_with n (known h values) par.p) (node_with n (known h values) par.q)
    left_words right_words
    (s.is ∙ ap (node_with n (known h values)) par.is ∙ par_stands n (known h values) par.p par.q)
    (part_stands core h values (number + 1) l n par.p left left_words par.left_is placed.0 b_left)
    (part_stands core h values (number + 1 + size par.p) r n par.q right right_words par.right_is placed.1 b_right)

chosen : (core : Process) (h : HeapState) (words part_words : List ℕ) (p q : Process) (rest : List (List ℕ)) (channels : List (List (List ℕ))) (b : Bool)
    → process_of core (value_in h) words ≡ term.If (Boolean b) p q → process_of core (value_in h) part_words ≡ cond b p q
    → BlocksStep core h (words ∷ rest) channels Quiet (part_words ∷ rest) channels
chosen core h words part_words p q rest channels true is e = takes_first (List ℕ) (process_of core (value_in h)) words rest channels p q part_words is e
chosen core h words part_words p q rest channels false is e = takes_second (List ℕ) (process_of core (value_in h)) words rest channels p q part_words is e

one_part : (core : Process) (h : HeapState) (values : List (ℕ × ℕ)) (i j l r n : ℕ) (p q : Process) (part : Node) (part_words : List ℕ) (b : Bool)
    → l ≡ i → r ≡ j → PlacedAt core i n p → PlacedAt core j n q → IsNodeBlock core h values (cond b l r) part part_words
    → process_of core (value_in h) part_words ≡ cond b (node_with n (known h values) p) (node_with n (known h values) q)
one_part core h values i j l r n p q part part_words true e f first second block = part_stands core h values i l n p part part_words e first block
one_part core h values i j l r n p q part part_words false e f first second block = part_stands core h values j r n q part part_words f second block

pub tests_choose : TestsChoose
tests_choose core h values number l r test b node part words part_words closed block o is part_block rest channels =
    let s = stands_as core h values number node words block in
    let n = s.part.around in
    let values_of = known h values in
    let form = is_if number n test l r s.part.process (op_is core number node s.part (op.If test l r) s.at o) in
    let placed = if_placed core number n test form.p form.q (subst (λ x. PlacedAt core number n x) form.is s.at.placed) in
    let under : IsUnder n 0 (term.If test form.p form.q) = subst (IsUnder n 0) form.is (part_under core number s.part closed s.at.at) in
    chosen core h words part_words (node_with n values_of form.p) (node_with n values_of form.q) rest channels b
    (s.is ∙ ap (node_with n values_of) form.is ∙ if_stands n values_of test form.p form.q
    ∙ ap (λ v. term.If v (node_with n values_of form.p) (node_with n values_of form.q)) (same_operand n values_of test under.0 ∙ is))
    (one_part core h values (number + 1) (number + 1 + size form.p) l r n form.p form.q part part_words b form.first_is form.second_is placed.0 placed.1 part_block)
