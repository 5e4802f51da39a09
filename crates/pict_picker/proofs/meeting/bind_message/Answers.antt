use Rattle.std.proofs.Common.{ℕ, ◌≡◌, List, length, sym, ap, ◌∙◌, subst}
use Rattle.std.proofs.lemmas.List.{with_items_is}
use Rattle.std.specs.Option.{IsSome}
use Rattle.pict_core.specs.Matching.{match_value}
use Rattle.pict_code.specs.Plain.{plain_pat}
use Rattle.pict_code.specs.ReadBack.{unleveled}
use Rattle.pict_heap.specs.HeapState.{value_of, IsWord}
use Rattle.pict_desk.specs.Binding.{BindsPattern}
use Rattle.pict_desk.specs.Known.{value_in}
use Rattle.pict_desk.specs.Pairs.{ArePairs}
use Rattle.pict_desk.proofs.Pairs.{value_packed}
use Rattle.pict_picker.proofs.meeting.bind_message.Goals as goal

pub word_at-requires : goal.word_at-requires
word_at-requires c = let p = c.requires.pair in (p.word, p.fits, p.packs)

pub bind-requires-clause-word : goal.bind-requires-clause-word
bind-requires-clause-word c =
    let p = c.requires.pair in
    subst (IsWord c.args.desk.now.heap) (sym (c.word_at.ensures p.word p.fits p.packs)) p.is

pub bind-requires-clause-fits : goal.bind-requires-clause-fits
bind-requires-clause-fits c =
    let p = c.requires.pair in
    let h = c.args.desk.now.heap in
    subst (λ v. IsSome (match_value (unleveled (plain_pat c.args.pattern.now)) v))
    (value_packed h p.word c.args.message p.fits p.packs ∙ sym (ap (value_of h) (c.word_at.ensures p.word p.fits p.packs))) c.requires.fits

pub returns-clause-binds : goal.returns-clause-binds
returns-clause-binds c =
    let s = c.args.desk.now in
    let p = c.requires.pair in
    let h = s.heap in
    let pattern = plain_pat c.args.pattern.now in
    let values = c.bind.new.values in
    let before : c.deref_mut.result.now ≡ s.values.items = c.deref_mut.ensures.value in
    let same : length values ≡ length s.values.items = c.bind.ensures.len ∙ ap length before in
    let value : value_of h c.word_at.result ≡ value_in h c.args.message.0 c.args.message.1 =
    ap (value_of h) (c.word_at.ensures p.word p.fits p.packs) ∙ sym (value_packed h p.word c.args.message p.fits p.packs) in
    subst (BindsPattern h pattern (value_in h c.args.message.0 c.args.message.1) s.values.items) (sym (with_items_is s.values values (same ∙ sym s.values.ok.0)))
    (subst (λ (vs : List (ℕ × ℕ)). BindsPattern h pattern (value_in h c.args.message.0 c.args.message.1) vs values) before
    (subst (λ v. BindsPattern h pattern v c.deref_mut.result.now values) value c.bind.ensures.binds))

pub returns-clause-pairs : goal.returns-clause-pairs
returns-clause-pairs c =
    let s = c.args.desk.now in
    let values = c.bind.new.values in
    let before : c.deref_mut.result.now ≡ s.values.items = c.deref_mut.ensures.value in
    let same : length values ≡ length s.values.items = c.bind.ensures.len ∙ ap length before in
    subst (ArePairs s.heap) (sym (with_items_is s.values values (same ∙ sym s.values.ok.0))) (c.bind.ensures.pairs (subst (ArePairs s.heap) (sym before) c.requires.pairs))
