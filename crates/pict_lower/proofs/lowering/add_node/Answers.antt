use Rattle.std.proofs.Common.{◌≡◌, ◌+◌, map, reverse, ap, ◌∙◌, arith}
use Rattle.pict_core.specs.Plain.{plain_core}
use Rattle.pict_code.specs.Plain.{plain_node}
use Rattle.pict_lower.specs.Parts.{parts, size_at, plain_place}
use Rattle.pict_lower.specs.Laid.{frame_back, size_back}
use Rattle.pict_lower.proofs.Laying.{first_frame, second_frame, first_size, second_size, size_is, node_made, laid_more}
use Rattle.pict_lower.proofs.lowering.add_node.Goals as goal

pub frame_from-requires-clause-first : goal.frame_from-requires-clause-first
frame_from-requires-clause-first c =
    c.frame_back.ensures ∙ ap (λ l. frame_back c.has_first-two.result (reverse (map plain_node l)) 0) c.deref-3.ensures.value
    ∙ first_frame (c.args.number + 1) c.args.place.around (plain_core c.args.place.process.now) c.requires.0 c.args.nodes.now.items c.args.sizes.now.items c.requires.1
    c.has_first-two.result c.has_first-two.ensures

pub frame_from-requires-clause-second : goal.frame_from-requires-clause-second
frame_from-requires-clause-second c =
    let n = c.args.place.around in
    let p = plain_core c.args.place.process.now in
    let first : c.size_back-first.result ≡ size_at (parts n p) 0 =
    c.size_back-first.ensures ∙ ap (λ l. size_back c.has_first-two.result (reverse l) 0) c.deref.ensures.value
    ∙ first_size (c.args.number + 1) n p c.requires.0 c.args.nodes.now.items c.args.sizes.now.items c.requires.1 c.has_first-two.result c.has_first-two.ensures in
    c.frame_back-2.ensures ∙ ap (λ l. frame_back c.has_second-three.result (reverse (map plain_node l)) c.size_back-first.result) c.deref-4.ensures.value
    ∙ second_frame (c.args.number + 1) n p c.requires.0 c.args.nodes.now.items c.args.sizes.now.items c.requires.1
    c.has_second-three.result c.size_back-first.result c.has_second-three.ensures first

pub returns : goal.returns
returns c = λ rest laid.
    let n = c.args.place.around in
    let p = plain_core c.args.place.process.now in
    let nodes = c.args.nodes.now.items in
    let sizes = c.args.sizes.now.items in
    let first : c.size_back-first.result ≡ size_at (parts n p) 0 =
    c.size_back-first.ensures ∙ ap (λ l. size_back c.has_first-two.result (reverse l) 0) c.deref.ensures.value
    ∙ first_size (c.args.number + 1) n p rest nodes sizes laid c.has_first-two.result c.has_first-two.ensures in
    let second : c.size_back-second.result ≡ size_at (parts n p) 1 =
    c.size_back-second.ensures ∙ ap (λ l. size_back c.has_second-three.result (reverse l) c.size_back-first.result) c.deref-2.ensures.value
    ∙ second_size (c.args.number + 1) n p rest nodes sizes laid c.has_second-three.result c.size_back-first.result c.has_second-three.ensures first in
    laid_more c.args.number (plain_place c.args.place) rest nodes c.push.new.self.items sizes c.push-2.new.self.items
    (record { frame = c.in_ok-frame.frame; op = c.in_ok-op.op }) c.in_ok-size.size c.in_ok-push.ensures.items c.in_ok-push-2.ensures.items
    (node_made c.args.number (plain_place c.args.place) c.in_ok-frame.frame c.in_ok-op.op (c.in_ok-frame.ensures ∙ c.in_ok-levels.ensures) (c.in_ok-op.ensures first))
    (omega (arith, c.in_ok-size.ensures, c.in_ok-sum.ensures, first, second, size_is n p)) laid
