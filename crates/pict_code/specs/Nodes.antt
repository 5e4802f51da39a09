-- The nodes of a process: its parts in preorder, each with its frame and its instruction.
use Rattle.std.specs.Prelude.{ℕ, suc, ◌+◌, Bool, true, false, List, [], ◌∷◌, ◌++◌}
use Rattle.pict_core.specs.Term as term
use Rattle.pict_core.specs.Term.{Val, Pat, Pats, LabelledPats, Process}
use Rattle.pict_core.specs.Closed.{binds, binds_all}
use Rattle.pict_code.specs.Instruction.{CodePat, Bind, Any, RecordPat, CodePats, no_pats, more_pats, LabelledCodePats, no_labelled_pats, more_labelled_pats, Op, Zero, Par, New, Out, In, Serve, If, Node}
use Rattle.pict_code.specs.Frames.{frame_of}

-- a part of a process, and the number of variables that are bound around it
pub record Place : Type 0 where
  pub around : ℕ
  pub process : Process

abbrev pub place : ℕ → Process → Place
place n p = record { around = n; process = p }

-- The parts of a process around which n variables are bound, in preorder: itself first, its left part before its right
-- part, `then` before `else`.
abbrev pub places : ℕ → Process → List Place
places n term.Zero = place n term.Zero ∷ []
places n (term.Par p q) = place n (term.Par p q) ∷ (places n p ++ places n q)
places n (term.New p) = place n (term.New p) ∷ places (n + 1) p
places n (term.Out chan message at) = place n (term.Out chan message at) ∷ []
places n (term.In chan replicated pattern body) = place n (term.In chan replicated pattern body) ∷ places (n + binds pattern) body
places n (term.If test p q) = place n (term.If test p q) ∷ (places n p ++ places n q)

-- how many parts a process has, itself included
abbrev pub size : Process → ℕ
size term.Zero = 1
size (term.Par p q) = 1 + (size p + size q)
size (term.New p) = 1 + size p
size (term.Out chan message at) = 1
size (term.In chan replicated pattern body) = 1 + size body
size (term.If test p q) = 1 + (size p + size q)

-- The pattern with the levels of its variables. They are numbered from this one on in the order in which the pattern
-- binds: positional fields first, then those with labels.
abbrev mutual
  pub leveled : ℕ → Pat → CodePat
  leveled level term.Bind = Bind level
  leveled level term.Any = Any
  leveled level (term.RecordPat ps ls) = RecordPat (leveled_all level ps) (leveled_labelled (level + binds_all ps) ls)

  pub leveled_all : ℕ → Pats → CodePats
  leveled_all level term.no_pats = no_pats
  leveled_all level (term.more_pats p ps) = more_pats (leveled level p) (leveled_all (level + binds p) ps)

  pub leveled_labelled : ℕ → LabelledPats → LabelledCodePats
  leveled_labelled level term.no_labelled_pats = no_labelled_pats
  leveled_labelled level (term.more_labelled_pats label p ps) = more_labelled_pats label (leveled level p) (leveled_labelled (level + binds p) ps)

abbrev pub input_op : Bool → Val → CodePat → ℕ → Op
input_op false chan pattern part = In chan pattern part
input_op true chan pattern part = Serve chan pattern part

-- The instruction of the part with this number, around which n variables are bound: the first part behind it has the next
-- number, and the second one comes after all of the first.
abbrev pub op_of : ℕ → ℕ → Process → Op
op_of number n term.Zero = Zero
op_of number n (term.Par p q) = Par (number + 1) (number + 1 + size p)
op_of number n (term.New p) = New n (number + 1)
op_of number n (term.Out chan message at) = Out chan message at
op_of number n (term.In chan replicated pattern body) = input_op replicated chan (leveled n pattern) (number + 1)
op_of number n (term.If test p q) = If test (number + 1) (number + 1 + size p)

abbrev pub node_of : ℕ → Place → Node
node_of number p = record { frame = frame_of p.around p.process; op = op_of number p.around p.process }

-- the nodes of these parts, numbered from this number on
abbrev pub nodes_from : ℕ → List Place → List Node
nodes_from number [] = []
nodes_from number (p ∷ ps) = node_of number p ∷ nodes_from (suc number) ps

-- the code of a process
abbrev pub nodes_of : Process → List Node
nodes_of p = nodes_from 0 (places 0 p)
