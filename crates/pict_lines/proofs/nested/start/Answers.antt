-- The function of the operator is well formed.
use Rattle.std.proofs.Common.{subst}
use Rattle.pict_infer.specs.Environments.{environment_of}
use Rattle.pict_lines.specs.Functions.{FunctionIsFormed}
use Rattle.pict_lines.proofs.NestedSteps.{as_its_function}
use Rattle.pict_lines.proofs.nested.start.Goals as goal

pub found_first-requires-clause-f : goal.found_first-requires-clause-f
found_first-requires-clause-f c = subst (FunctionIsFormed (environment_of c.args.env.now)) (as_its_function c.args.o.now) c.requires.formed

pub found_first-requires-in-Some-clause-f : goal.found_first-requires-in-Some-clause-f
found_first-requires-in-Some-clause-f c = subst (FunctionIsFormed (environment_of c.args.env.now)) (as_its_function c.args.o.now) c.requires.formed
