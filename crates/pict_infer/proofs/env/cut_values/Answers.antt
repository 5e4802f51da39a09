-- One name less, and as many as values in the end.
use Rattle.std.proofs.Common.{◌≡◌, ◌<◌, ◌≤◌, ◌-◌, length, drop, sym, ◌∙◌, ap, arith}
use Rattle.pict_infer.specs.Knowing.{names_known}
use Rattle.pict_infer.proofs.Growing.{cut_more, names_cut, names_length, nothing_cut}
use Rattle.pict_infer.proofs.env.cut_values.Goals as goal

pub loop-names-preserved : goal.loop-names-preserved
loop-names-preserved c =
    let more : c.args.left < length c.loop-names.names = omega arith in
    cut_more c.loop-names.names c.unbind.new.self c.args.left c.unbind.ensures.rest more ∙ c.loop-names.invariant

pub returns-clause-named : goal.returns-clause-named
returns-clause-named c =
    let vs = c.args.values.now.items in
    let few : length c.loop-names.names ≤ c.args.left = omega arith in
    let count : length c.args.names.now ≡ length vs = ap length c.requires.named ∙ names_length vs in
    sym (nothing_cut c.loop-names.names c.args.left few) ∙ c.loop-names.invariant
    ∙ ap (λ z. drop (length z - c.args.left) z) c.requires.named
    ∙ ap (λ n. drop (n - c.args.left) (names_known vs)) (names_length vs)
    ∙ sym (names_cut vs c.args.left c.requires.left) ∙ sym (ap names_known c.truncate.ensures.items)
