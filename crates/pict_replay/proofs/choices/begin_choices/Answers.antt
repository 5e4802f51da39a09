use Rattle.std.proofs.Common.{map, sym, subst}
use Rattle.pict_replay.specs.Files.{BeginsWithChoices}
use Rattle.pict_replay.specs.Plain.{place_of}
use Rattle.pict_trace.proofs.Steps.{pushed}
use Rattle.pict_replay.proofs.OneReading.{none_yet, one_more, shorter}
use Rattle.pict_replay.proofs.choices.begin_choices.Goals as goal

pub lines-init : goal.lines-init
lines-init c = record { before = subst (λ l. BeginsWithChoices c.args.text.now (map place_of l) c.args.text.now) (sym c.new-choices.ensures.items) (none_yet c.args.text.now) }

pub lines-preserved : goal.lines-preserved
lines-preserved c =
    let found = c.in-Some.found in
    record {
      before = subst (λ l. BeginsWithChoices c.args.text.now l found.1.now) (sym (pushed place_of c.lines.choices.items c.push.new.self.items found.0 c.in_ok-push.ensures.items))
          (one_more c.args.text.now c.lines.rest.now found.1.now (map place_of c.lines.choices.items) (place_of found.0) c.lines.invariant.before c.in-Some.ensures.ready c.in-Some.ensures.partner c.in-Some.ensures.some);
    }

pub lines-smaller : goal.lines-smaller
lines-smaller c = shorter c.lines.rest.now c.in-Some.found.1.now (place_of c.in-Some.found.0) c.in-Some.ensures.some
