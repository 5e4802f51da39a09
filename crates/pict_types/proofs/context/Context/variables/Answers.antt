-- As many variables are known as the context has.
use Rattle.std.proofs.Common.{◌≡◌, ◌∙◌, ap, length, arith}
use Rattle.pict_types.specs.PlainContext.{plain_context}
use Rattle.pict_types.proofs.Entries.{count_known}
use Rattle.pict_types.proofs.context.Context.variables.Goals as goal

pub overflow_cast-result : goal.overflow_cast-result
overflow_cast-result c =
    let n = count_known c.args.self.now.known.items (plain_context c.args.self.now) c.args.self.now.placed in
    let m : length c.as_slice.result.now ≡ length c.args.self.now.known.items = ap length c.as_slice.ensures.value in
    omega (arith, n, m, c.args.self.now.few)

pub returns : goal.returns
returns c = record {
  count =
      ap length c.as_slice.ensures.value ∙ count_known c.args.self.now.known.items (plain_context c.args.self.now) c.args.self.now.placed;
}
