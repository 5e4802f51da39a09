use Rattle.std.proofs.Common.{◌<◌, ◌≤◌, length, ap, sym, ◌∙◌, subst, arith}
use Rattle.pict_syntax.specs.declared.tree.Chan.{Right, Left}
use Rattle.pict_syntax.specs.PlainTrees.{chan_of}
use Rattle.pict_syntax.specs.Phrases.{join}
use Rattle.pict_automaton.specs.Places.{rightward, leftward}
use Rattle.pict_automaton.specs.Machine.{put_channel}
use Rattle.pict_parse_states.specs.View.{side_of, place_of, GivesState}
use Rattle.pict_syntax.proofs.ValueLists.{right_is, left_is}
use Rattle.pict_parse_values.proofs.Behind.{side_some, side_few}
use Rattle.pict_parse_values.proofs.steps.close_side.Goals as goal

pub returns-then-len-lt2 : goal.returns-then-len-lt2
returns-then-len-lt2 c =
    let few : length c.args.vals.items < 2 = omega (arith, c.args.vals.ok.0, c.len.ensures, c.if-len-lt2.true) in
    side_few c.args.vals.items few c.args.at (side_of c.args.side) c.args.from c.args.id (place_of c.args.place)

pub returns-in-Rightward : goal.returns-in-Rightward
returns-in-Rightward c =
    let i = c.args.at in
    let o = c.args.from in
    let x = c.args.id in
    let vs = c.args.vals in
    let p = place_of c.args.place in
    let two : 2 ≤ length vs.items = omega (arith, vs.ok.0, c.len.ensures, c.if-len-lt2.false) in
    let put =
    ap (λ s. put_channel (chan_of (Right s x vs)) p) c.join.ensures
    ∙ ap (λ h. put_channel h p) (right_is (join o i) x vs)
    ∙ sym (side_some vs.items two i rightward o x p) in
    rw c.in-Rightward.is (subst (GivesState c.put_channel.result) put c.put_channel.ensures)

pub returns-in-Leftward : goal.returns-in-Leftward
returns-in-Leftward c =
    let i = c.args.at in
    let o = c.args.from in
    let x = c.args.id in
    let vs = c.args.vals in
    let p = place_of c.args.place in
    let two : 2 ≤ length vs.items = omega (arith, vs.ok.0, c.len.ensures, c.if-len-lt2.false) in
    let put =
    ap (λ s. put_channel (chan_of (Left s x vs)) p) c.join-in-Leftward.ensures
    ∙ ap (λ h. put_channel h p) (left_is (join o i) x vs)
    ∙ sym (side_some vs.items two i leftward o x p) in
    rw c.in-Leftward.is (subst (GivesState c.put_channel-in-Leftward.result) put c.put_channel-in-Leftward.ensures)
