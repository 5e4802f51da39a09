use Rattle.std.proofs.Common.{IsSome, map, sym, ap, ◌∙◌, subst}
use Rattle.pict_core.specs.Plain.{plain_val}
use Rattle.pict_core.specs.Primitives.{effect_of}
use Rattle.pict_desk.specs.Needs.{PilesWords}
use Rattle.pict_desk.specs.Arguments.{operand_in}
use Rattle.pict_desk.proofs.Reckoning.{piled_argument}
use Rattle.pict_desk.proofs.acts.decide.Goals as goal

pub act_of-act-requires-clause-takes : goal.act_of-act-requires-clause-takes
act_of-act-requires-clause-takes c =
    let d = c.args.desk.now in
    let p = c.pile_words in
    let piled = subst (λ vs. PilesWords p.new.heap d.pending p.new.pending (map (λ v. operand_in d.heap vs (plain_val v)) c.args.fields.now)) c.deref.ensures.value p.ensures.piled in
    let labelled = c.requires.takes.0 in
    let same = piled_argument d.heap p.new.heap d.pending p.new.pending d.values.items c.args.fields.now labelled c.len-start.result c.deref-2.result.now piled (c.len-start.ensures ∙ d.pending.words.ok.0) c.deref-2.ensures.value in
    (labelled, subst (λ v. IsSome (effect_of c.args.p v)) (sym same) c.requires.takes.1)

pub returns-clause-effect : goal.returns-clause-effect
returns-clause-effect c labelled =
    let d = c.args.desk.now in
    let p = c.pile_words in
    let piled = subst (λ vs. PilesWords p.new.heap d.pending p.new.pending (map (λ v. operand_in d.heap vs (plain_val v)) c.args.fields.now)) c.deref.ensures.value p.ensures.piled in
    let same = piled_argument d.heap p.new.heap d.pending p.new.pending d.values.items c.args.fields.now labelled c.len-start.result c.deref-2.result.now piled (c.len-start.ensures ∙ d.pending.words.ok.0) c.deref-2.ensures.value in
    sym (ap (effect_of c.args.p) same) ∙ c.act_of-act.ensures.effect labelled
