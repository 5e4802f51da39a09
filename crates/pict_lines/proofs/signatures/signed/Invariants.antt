-- The names so far are known.
use Rattle.std.proofs.Common.{take}
use Rattle.pict_infer.specs.Environments.{environment_of, GrewFrom}
use Rattle.pict_lines.proofs.SignatureEnds.{SignedSoFar}
use Rattle.pict_lines.proofs.signatures.signed.Given as goal

abbrev pub invariant-loop-d : goal.invariant-loop-d
invariant-loop-d l = record {
  so_far : SignedSoFar (environment_of l.fn.env) (environment_of l.env) (take l.d-index l.ds) l.insides.items;
  grew : GrewFrom l.fn.env l.env;
}
