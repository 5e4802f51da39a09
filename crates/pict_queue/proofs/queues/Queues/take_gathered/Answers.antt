use Rattle.std.proofs.Common.{◌∷◌, ◌∙◌, refl, ap, arith}
use Rattle.std.specs.FinMap.{insert}
use Rattle.pict_region.specs.Values.{gathered}
use Rattle.pict_queue.specs.declared.queues.Queues.TheInside.{Inside}
use Rattle.pict_queue.proofs.Gathering.{GainsBlock, gains_block}
use Rattle.pict_queue.proofs.queues.Queues.take_gathered.Goals as goal

after : (c : goal.After-take_gathered) → Inside
after c = record { region = c.take_gathered.new.self; ends = c.self.inside.ends; spare = c.self.inside.spare }

gains : (c : goal.After-take_gathered) → GainsBlock c.self.inside (after c) c.args.self.now c.take_gathered.result (c.args.word ∷ gathered c.args.values.now c.args.indices.now)
unfolding after
gains c =
    gains_block c.self.inside (after c) c.args.self.now c.take_gathered.result (c.args.word ∷ gathered c.args.values.now c.args.indices.now) c.self.view_is c.self.invariant
    c.take_gathered.ensures.fresh c.take_gathered.ensures.small c.take_gathered.ensures.live (omega arith) refl

pub invariant_of-self : goal.invariant_of-self
unfolding after
invariant_of-self c = record { threaded = (gains c).stay.threaded; room = c.self.invariant.room }

pub returns-clause-lists : goal.returns-clause-lists
unfolding after
returns-clause-lists c = (gains c).lists

pub returns-clause-held : goal.returns-clause-held
unfolding after
returns-clause-held c = (gains c).held

pub returns-clause-apart : goal.returns-clause-apart
returns-clause-apart c = (gains c).apart

pub returns-clause-contents : goal.returns-clause-contents
unfolding after
returns-clause-contents c = (gains c).contents

pub returns-clause-kept : goal.returns-clause-kept
unfolding after
returns-clause-kept c = (gains c).kept

pub returns-clause-more : goal.returns-clause-more
unfolding after
returns-clause-more c = (gains c).more

pub returns-clause-words : goal.returns-clause-words
unfolding after
returns-clause-words c = (gains c).words_are

pub returns-clause-live : goal.returns-clause-live
returns-clause-live c = record {
  first = c.take_gathered.ensures.live.first;
  live = c.take_gathered.ensures.live.live
      ∙ ap (λ s. insert s.region.live c.take_gathered.result (c.take_gathered.ensures.live.first ∷ c.args.word ∷ gathered c.args.values.now c.args.indices.now)) c.self.view_is;
}
