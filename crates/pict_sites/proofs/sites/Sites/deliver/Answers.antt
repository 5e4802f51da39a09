use Rattle.std.proofs.Common.{◌<◌, length, refl}
use Rattle.pict_code.proofs.Lines.{on_err}
use Rattle.pict_desk.specs.Code.{core_in}
use Rattle.pict_network.proofs.Moving.{each}
use Rattle.pict_sites.proofs.Arrivals.{stayed_stand, arrived_sites, arrived}
use Rattle.pict_sites.proofs.Lists.{got_same}
use Rattle.pict_sites.proofs.sites.Sites.deliver.Goals as goal

pub returns-in_err-pass_on-clause-refused : goal.returns-in_err-pass_on-clause-refused
returns-in_err-pass_on-clause-refused c =
    let n = c.args.self.now in
    let g = got_same n.to.items c.args.j c.index.result.now c.requires.there c.index.ensures in
    let low : c.index.result.now < length n.queues.items = each (λ t. t < length n.queues.items) n.to.items c.args.j c.index.result.now c.requires.sites.directions.destinations g in
    on_err c.from_residual.result
    (stayed_stand (core_in c.args.code.now) n _ c.requires.sites c.index.result.now c.index_mut.result.now c.pass_on.new.queues
    (got_same n.queues.items c.index.result.now c.index_mut.result.now low c.index_mut.ensures.value) refl c.pass_on.ensures.looks refl c.in_err-pass_on.ensures.refused c.in_err-pass_on.ensures.same refl)

pub returns-clause-sites : goal.returns-clause-sites
returns-clause-sites c =
    let n = c.args.self.now in
    let g = got_same n.to.items c.args.j c.index.result.now c.requires.there c.index.ensures in
    let low : c.index.result.now < length n.queues.items = each (λ t. t < length n.queues.items) n.to.items c.args.j c.index.result.now c.requires.sites.directions.destinations g in
    let x = c.in_ok-pass_on.ensures.passed in
    arrived_sites (core_in c.args.code.now) n _ c.requires.sites c.index.result.now c.index_mut.result.now c.pass_on.new.queues
    (got_same n.queues.items c.index.result.now c.index_mut.result.now low c.index_mut.ensures.value) refl c.pass_on.ensures.looks refl x.0 x.1 x.2 c.args.j x.3 x.4 g c.remove-to.ensures.items c.requires.there

pub returns-clause-moved : goal.returns-clause-moved
returns-clause-moved c N st =
    let n = c.args.self.now in
    let g = got_same n.to.items c.args.j c.index.result.now c.requires.there c.index.ensures in
    let low : c.index.result.now < length n.queues.items = each (λ t. t < length n.queues.items) n.to.items c.args.j c.index.result.now c.requires.sites.directions.destinations g in
    let x = c.in_ok-pass_on.ensures.passed in
    arrived (core_in c.args.code.now) n _ c.requires.sites c.index.result.now c.index_mut.result.now c.pass_on.new.queues
    (got_same n.queues.items c.index.result.now c.index_mut.result.now low c.index_mut.ensures.value) refl c.pass_on.ensures.looks refl x.0 x.1 x.2 c.args.j x.3 x.4 g c.remove-to.ensures.items c.requires.there N st
