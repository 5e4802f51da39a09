use Rattle.std.proofs.Common.{◌≡◌, length, ap, sym, ◌∙◌, subst, arith}
use Rattle.std.proofs.lemmas.Bool.Decides.{nat_tests}
use Rattle.pict_syntax.specs.declared.tree.Chan.{Block}
use Rattle.pict_syntax.specs.Trees.{apply_chan, block_chan, no_decs}
use Rattle.pict_syntax.specs.PlainTrees.{chan_of, val_of, field_vals_of, decs_on}
use Rattle.pict_syntax.specs.Phrases.{join}
use Rattle.pict_automaton.specs.Machine.{put_channel}
use Rattle.pict_parse_states.specs.View.{place_of, GivesState}
use Rattle.pict_syntax.proofs.ValueLists.{block_is}
use Rattle.pict_parse_values.proofs.Behind.{paren_none, paren_some, no_fields}
use Rattle.pict_parse_values.proofs.steps.close_paren.Goals as goal

pub returns-in_ok-fields : goal.returns-in_ok-fields
unfolding chan_of
returns-in_ok-fields c =
    let i = c.args.at in
    let o = c.args.from in
    let v = val_of c.args.val in
    let p = place_of c.args.place in
    let none : length c.args.decs.items ≡ 0 = grind (arith, nat_tests) in
    let fields =
    ap field_vals_of c.in_ok-fields.ensures.ok
    ∙ no_fields c.new-then-is_empty.result c.new-then-is_empty-2.result c.new-then-is_empty-3.result c.new-then-is_empty.ensures.items c.new-then-is_empty-2.ensures.items c.new-then-is_empty-3.ensures.items in
    let put =
    ap (λ s. put_channel (apply_chan s (val_of c.in_ok-val.val.value) (field_vals_of c.in_ok-fields.fields.value)) p) c.join.ensures
    ∙ ap (λ w. put_channel (apply_chan (join o i) (val_of w) (field_vals_of c.in_ok-fields.fields.value)) p) c.in_ok-val.ensures.ok
    ∙ ap (λ f. put_channel (apply_chan (join o i) v f) p) fields
    ∙ sym (paren_none c.args.decs.items none i v o p) in
    subst (GivesState c.put_channel.result) put c.put_channel.ensures

pub returns-else-is_empty : goal.returns-else-is_empty
returns-else-is_empty c =
    let i = c.args.at in
    let o = c.args.from in
    let ds = c.args.decs in
    let p = place_of c.args.place in
    let some : length ds.items ≡ 0 → ⊥ = λ e. grind (arith, nat_tests) in
    let put =
    ap (λ s. put_channel (chan_of (Block s ds c.in_ok-val.val)) p) c.join-else-is_empty.ensures
    ∙ ap (λ h. put_channel h p) (block_is (join o i) ds c.in_ok-val.val)
    ∙ ap (λ w. put_channel (block_chan (join o i) (decs_on no_decs ds.items) (val_of w)) p) c.in_ok-val.ensures.ok
    ∙ sym (paren_some ds.items some i (val_of c.args.val) o p) in
    subst (GivesState c.put_channel-else-is_empty.result) put c.put_channel-else-is_empty.ensures
