-- The process of a code, read back from its nodes.
use Rattle.std.specs.Prelude.{ℕ, zero, suc, List, length, slice_get, true, false, option_map, unwrap_or}
use Rattle.pict_core.specs.Term as term
use Rattle.pict_core.specs.Term.{Pat, Pats, LabelledPats, Process}
use Rattle.pict_code.specs.Instruction.{CodePat, Bind, Any, RecordPat, CodePats, no_pats, more_pats, LabelledCodePats, no_labelled_pats, more_labelled_pats, Op, Zero, Par, New, Out, In, Serve, If, Node}

-- a pattern without its levels
abbrev mutual
  pub unleveled : CodePat → Pat
  unleveled (Bind level) = term.Bind
  unleveled Any = term.Any
  unleveled (RecordPat ps ls) = term.RecordPat (unleveled_all ps) (unleveled_labelled ls)

  pub unleveled_all : CodePats → Pats
  unleveled_all no_pats = term.no_pats
  unleveled_all (more_pats p ps) = term.more_pats (unleveled p) (unleveled_all ps)

  pub unleveled_labelled : LabelledCodePats → LabelledPats
  unleveled_labelled no_labelled_pats = term.no_labelled_pats
  unleveled_labelled (more_labelled_pats label p ps) = term.more_labelled_pats label (unleveled p) (unleveled_labelled ps)

-- the process of an instruction, where each number stands for this process
abbrev pub built : (ℕ → Process) → Op → Process
built part Zero = term.Zero
built part (Par p q) = term.Par (part p) (part q)
built part (New level p) = term.New (part p)
built part (Out chan message at) = term.Out chan message at
built part (In chan pattern p) = term.In chan false (unleveled pattern) (part p)
built part (Serve chan pattern p) = term.In chan true (unleveled pattern) (part p)
built part (If test p q) = term.If test (part p) (part q)

abbrev pub op_at : List Node → ℕ → Op
op_at nodes number = unwrap_or (option_map (λ (n : Node). n.op) (slice_get nodes number)) Zero

-- the process that begins at this node, read so many nodes deep
abbrev pub built_at : List Node → ℕ → ℕ → Process
built_at nodes zero number = term.Zero
built_at nodes (suc depth) number = built (built_at nodes depth) (op_at nodes number)

-- the process whose code this is
abbrev pub core_of : List Node → Process
core_of nodes = built_at nodes (length nodes) 0
