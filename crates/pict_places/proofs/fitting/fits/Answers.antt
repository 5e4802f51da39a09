use Rattle.std.proofs.Common.{ap, ◌∙◌, ◌++◌}
use Rattle.std.proofs.lemmas.Slice.Eq.{slice_eq-Decides}
use Rattle.pict_core.specs.Plain.{plain_core}
use Rattle.pict_places.specs.Nodes.{nodes_of}
use Rattle.pict_places.proofs.Same.{node_decides, same_lists}
use Rattle.pict_places.proofs.fitting.fits.Goals as goal

pub returns : goal.returns
returns c =
    same_lists c.in_ok-wanted.wanted.items c.add_nodes.new.nodes.items _ _ c.eq.result c.in_ok-wanted.ensures
    (c.in_ok-add_nodes.ensures ∙ ap (λ ns. ns ++ nodes_of (plain_core c.args.process.now)) c.new-nodes.ensures.items)
    (slice_eq-Decides node_decides c.in_ok-wanted.wanted.items c.add_nodes.new.nodes.items c.eq.result c.eq.ensures)
