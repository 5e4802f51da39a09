-- The argument is of another kind, or varies otherwise.
use Rattle.std.proofs.Common.{◌∙◌, sym}
use Rattle.pict_types.specs.Plain.{plain_arg, plain_args, plain_bound}
use Rattle.pict_infer.specs.Environments.{environment_of}
use Rattle.pict_lines.proofs.Arguments.{of_another_kind, varies_otherwise}
use Rattle.pict_lines.proofs.records.argument_fits.Goals as goal

pub returns-then-not-is_of_kind : goal.returns-then-not-is_of_kind
returns-then-not-is_of_kind c =
    of_another_kind (environment_of c.args.env.now) c.args.node c.args.at (plain_bound c.args.b.now) (plain_args c.args.earlier.now) (plain_arg c.args.a.now) (sym c.is_of_kind.ensures ∙ c.if-not-is_of_kind.true)

pub returns-then-not-varies_as : goal.returns-then-not-varies_as
returns-then-not-varies_as c =
    varies_otherwise (environment_of c.args.env.now) c.args.node c.args.at (plain_bound c.args.b.now) (plain_args c.args.earlier.now) (plain_arg c.args.a.now) (sym c.is_of_kind.ensures ∙ c.if-not-is_of_kind.false) (sym c.varies_as.ensures ∙ c.if-not-varies_as.true)
