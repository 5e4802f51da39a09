-- As many are found as there are type fields.
use Rattle.std.proofs.Common.{◌∙◌, refl, ap}
use Rattle.pict_types.specs.Plain.{plain, plain_bounds}
use Rattle.pict_rules.specs.Environments.{context_of}
use Rattle.pict_rules.specs.Found.{matched}
use Rattle.pict_infer.specs.Environments.{environment_of}
use Rattle.pict_lines.specs.Functions.{function_of}
use Rattle.pict_lines.proofs.AnswerFound.{answer_count}
use Rattle.pict_lines.proofs.fields.found_by_answer.Goals as goal

pub returns-clause-count : goal.returns-clause-count
returns-clause-count c =
    let e = environment_of c.args.env.now in
    let bs = c.args.f.now.fields.binders.items in
    let more = rw c.context.ensures.entries at (c.in_ok-match_type.ensures (plain_bounds bs)) in
    answer_count e (function_of c.args.f.now) (plain c.args.t.now) bs c.match_type.new.found.list.items c.requires.regular c.requires.f c.requires.t refl
    (more ∙ ap (matched (context_of e) 0 (plain c.args.f.now.answer) (plain c.args.t.now)) c.requires.none)
