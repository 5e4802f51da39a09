use Rattle.pict_gather.proofs.Opening.{first_none, first_some}
use Rattle.pict_gather.proofs.entry.add_prelude.Goals as goal

pub returns-in-None : goal.returns-in-None
returns-in-None c = first_none c.args.prelude c.add_empty.result c.args.sources.now.list.items c.add_empty.new.sources.list.items c.in_ok-name.name c.in-None.is c.requires.empty c.in_ok-name.ensures c.add_empty.ensures

pub returns-in_ok-push-in-Some : goal.returns-in_ok-push-in-Some
returns-in_ok-push-in-Some c =
    first_some c.args.prelude c.in-Some.text c.args.sources.now.list.items c.push.new.self.items c.in_ok-name.name c.in_ok-text-in-Some.text c.in-Some.is c.requires.empty c.in_ok-name.ensures c.in_ok-text-in-Some.ensures c.in_ok-push-in-Some.ensures.items
