use Rattle.std.proofs.Common.{◌+◌, ◌≡◌, length, arith}
use Rattle.pict_region.proofs.Calls.{GrowsBy, has_room, grown_by}
use Rattle.pict_region.proofs.region.Region.add_block.Goals as goal

grows : (c : goal.After-self-1) → GrowsBy c.put_block.new.words.items (c.self.inside.made + 1 + c.args.width) c.put_block.new.lists.items c.args.self.now c.args.width
grows c =
    let len : c.self.inside.words.len ≡ length c.self.inside.words.items = c.self.inside.words.ok.0 in
    let room = has_room c.self.inside c.args.width c.self.invariant (omega (arith, c.if-end-len.false, c.len.ensures, len)) in
    grown_by c.self.inside c.self.inside c.args.self.now c.args.width _ _ c.self.view_is c.self.invariant room
    (omega (arith, c.requires.positive)) c.requires.listed c.put_block.ensures.words c.put_block.ensures.lists

pub invariant_of-self : goal.invariant_of-self
invariant_of-self c = (grows c).kept

pub returns-clause-spare : goal.returns-clause-spare
returns-clause-spare c = (grows c).more

pub returns-clause-others : goal.returns-clause-others
returns-clause-others c = (grows c).others

pub returns-clause-live : goal.returns-clause-live
returns-clause-live c = (grows c).live
