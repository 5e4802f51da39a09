use Rattle.std.proofs.Common.{◌≡◌, ◌∙◌, ◌+◌, ◌-◌, ◌++◌, length, take, replicate, ap, arith}
use Rattle.pict_region.proofs.Calls.{GrowsLists, grown, lists_length}
use Rattle.pict_region.proofs.region.Region.add_list.Goals as goal
use Rattle.pict_region.proofs.region.Region.add_list.Goals.{In_ok-resize}

lists_grown : (c : In_ok-resize) → GrowsLists c.self.inside c.resize.new.self.items c.args.self.now
lists_grown c =
    let len : c.self.inside.free.len ≡ length c.self.inside.free.items = c.self.inside.free.ok.0 in
    grown c.self.inside c.args.self.now c.resize.new.self.items (c.args.width + 1) c.self.view_is c.self.invariant (omega (arith, c.requires, lists_length c.self.inside _ c.self.view_is))
    (c.in_ok-resize.ensures.items
    ∙ ap (λ n. take (c.args.width + 1) c.self.inside.free.items ++ replicate (c.args.width + 1 - n) (record { first = 0; count = 0 })) len)

pub invariant_of-self-2 : goal.invariant_of-self-2
invariant_of-self-2 c = (lists_grown c).kept

pub returns-clause-spare : goal.returns-clause-spare
returns-clause-spare c = (lists_grown c).spare_is

pub returns-clause-live : goal.returns-clause-live
returns-clause-live c = (lists_grown c).live
