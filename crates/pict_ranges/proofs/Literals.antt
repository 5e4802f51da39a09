-- Declarations in which each literal is within the ranges of the machine.
use Rattle.std.specs.Prelude.{◌<◌, ◌^◌, FitsSigned, length}
use Rattle.std.specs.Int.{w64}
use Rattle.pict_trace.specs.Readable.{AreBytes}
use Rattle.pict_syntax.specs.Trees.{Dec, new_dec, run_dec, let_dec, def_dec, alias_dec, operator_dec, await_dec, Decs, no_decs, more_decs, Definitions, no_definitions, more_definitions, Abs, process_abs, function_abs, Chan, use_chan, fold_chan, block_chan, apply_chan, right_chan, left_chan, Val, of_chan, number_val, character_val, string_val, true_val, false_val, fields_val, if_val, lambda_val, Vals, no_vals, more_vals, FieldVals, field_vals, LabelledVals, no_labelled_vals, more_labelled_vals, Proc, send_proc, receive_proc, serve_proc, if_proc, inert_proc, group_proc, Procs, no_procs, more_procs}

abbrev mutual
  pub DecIs : Dec → Type 0
  DecIs (new_dec s x t) = Unit {0}
  DecIs (run_dec s p) = ProcIs p
  DecIs (let_dec s p v) = ValIs v
  DecIs (def_dec s ds) = DefinitionsAre ds
  DecIs (alias_dec s x t) = Unit {0}
  DecIs (operator_dec s x xs t) = Unit {0}
  DecIs (await_dec s v) = ValIs v

  pub DecsAre : Decs → Type 0
  DecsAre no_decs = Unit {0}
  DecsAre (more_decs ds d) = DecsAre ds × DecIs d

  pub DefinitionsAre : Definitions → Type 0
  DefinitionsAre no_definitions = Unit {0}
  DefinitionsAre (more_definitions ds x a) = DefinitionsAre ds × AbsIs a

  pub AbsIs : Abs → Type 0
  AbsIs (process_abs s p q) = ProcIs q
  AbsIs (function_abs s f r v) = ValIs v

  pub ChanIs : Chan → Type 0
  ChanIs (use_chan s n) = Unit {0}
  ChanIs (fold_chan s r v) = ValIs v
  ChanIs (block_chan s ds v) = DecsAre ds × ValIs v
  ChanIs (apply_chan s v f) = ValIs v × FieldsAre f
  ChanIs (right_chan s x vs) = ValsAre vs
  ChanIs (left_chan s x vs) = ValsAre vs

  pub ValIs : Val → Type 0
  ValIs (of_chan c) = ChanIs c
  ValIs (number_val s n) = FitsSigned w64 n
  ValIs (character_val s b) = b < 2 ^ 8
  ValIs (string_val s bytes) = AreBytes bytes × (length bytes < 2 ^ 63)
  ValIs (true_val s) = Unit {0}
  ValIs (false_val s) = Unit {0}
  ValIs (fields_val s f) = FieldsAre f
  ValIs (if_val s c v w) = ValIs c × (ValIs v × ValIs w)
  ValIs (lambda_val s a) = AbsIs a

  pub ValsAre : Vals → Type 0
  ValsAre no_vals = Unit {0}
  ValsAre (more_vals vs v) = ValsAre vs × ValIs v

  pub FieldsAre : FieldVals → Type 0
  FieldsAre (field_vals ts vs ls) = ValsAre vs × LabelledAre ls

  pub LabelledAre : LabelledVals → Type 0
  LabelledAre no_labelled_vals = Unit {0}
  LabelledAre (more_labelled_vals ls x v) = LabelledAre ls × ValIs v

  pub ProcIs : Proc → Type 0
  ProcIs (send_proc s c v) = ChanIs c × ValIs v
  ProcIs (receive_proc s c a) = ChanIs c × AbsIs a
  ProcIs (serve_proc s c a) = ChanIs c × AbsIs a
  ProcIs (if_proc s v p q) = ValIs v × (ProcIs p × ProcIs q)
  ProcIs (inert_proc s) = Unit {0}
  ProcIs (group_proc s ds ps) = DecsAre ds × ProcsAre ps

  pub ProcsAre : Procs → Type 0
  ProcsAre no_procs = Unit {0}
  ProcsAre (more_procs ps p) = ProcsAre ps × ProcIs p
