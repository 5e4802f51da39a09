use Rattle.std.proofs.Common.{◌≡◌, ◌++◌, ◌∷◌, [], length, length-append, get_or, refl, sym, ap, ◌∙◌, subst, arith}
use Rattle.pict_core.specs.Step.{Comm}
use Rattle.pict_heap.specs.HeapState.{IsWord}
use Rattle.pict_ranked.specs.Ranking.{Ranking}
use Rattle.pict_desk.proofs.Reading.{whole_value}
use Rattle.pict_picker.specs.Deeds.{FitsDeed}
use Rattle.pict_picker.specs.Lists.{IsDeedPlaced}
use Rattle.pict_picker.specs.Picker.{channel_items, channel_processes}
use Rattle.pict_picker.specs.declared.deed.Deed.TheVariants as deed
use Rattle.pict_picker.specs.declared.did.Did.TheVariants as did
use Rattle.pict_picker.specs.declared.lists.Lists.{Lists}
use Rattle.pict_picker.specs.declared.waiting.Waiting.{Waiting}
use Rattle.pict_picker.proofs.Places.{ends_placed, keeps_placed, forks_placed, opens_placed, waits_placed, parks_placed, serves_placed, takes_placed, stops_placed, get_there, parked_many, channel_low, opened_items}
use Rattle.pict_picker.proofs.placing.place_deed.Goals as goal

pub returns-in-Ends-clause-placed : goal.returns-in-Ends-clause-placed
returns-in-Ends-clause-placed c core h m =
    let old = c.args.lists.now in
    let new : Lists = record old { ready = c.remove.new.self } in
    let fits = subst (FitsDeed core h (channel_processes core h old) c.args.j m.own) c.in-Ends.is m.fits in
    subst (λ d. IsDeedPlaced core h old new c.args.i c.args.j m.own d c.shown.result) (sym c.in-Ends.is)
    (ends_placed core h old new c.args.i c.args.j m.own m.are c.shown.result c.in-Ends.word c.remove.ensures.items refl (c.shown.ensures.label h) (c.shown.ensures.event h fits) c.shown.ensures.trap)

pub returns-in-Keeps-clause-placed : goal.returns-in-Keeps-clause-placed
returns-in-Keeps-clause-placed c core h m =
    let old = c.args.lists.now in
    let new : Lists = record old { ready = c.replace.new.self } in
    let fits = subst (FitsDeed core h (channel_processes core h old) c.args.j m.own) c.in-Keeps.is m.fits in
    let shown = c.shown-in-Keeps in
    subst (λ d. IsDeedPlaced core h old new c.args.i c.args.j m.own d shown.result) (sym c.in-Keeps.is)
    (keeps_placed core h old new c.args.i c.args.j m.own m.are shown.result c.in-Keeps.waiting c.in-Keeps.word fits.0 c.replace.ensures.items refl (shown.ensures.label h) (shown.ensures.event h fits.1) shown.ensures.trap)

pub returns-in-Forks-clause-placed : goal.returns-in-Forks-clause-placed
returns-in-Forks-clause-placed c core h m =
    let old = c.args.lists.now in
    let new : Lists = record old { ready = c.push.new.self } in
    let fits = subst (FitsDeed core h (channel_processes core h old) c.args.j m.own) c.in-Forks.is m.fits in
    subst (λ d. IsDeedPlaced core h old new c.args.i c.args.j m.own d did.Quiet) (sym c.in-Forks.is)
    (forks_placed core h old new c.args.i c.args.j m.own m.are did.Quiet c.in-Forks.left c.in-Forks.right fits.0 fits.1
    (c.push.ensures.items ∙ ap (λ ws. ws ++ c.in-Forks.right ∷ []) c.replace-in-Forks.ensures.items) refl refl tt (λ at e. cc))

pub returns-in-Opens-clause-placed : goal.returns-in-Opens-clause-placed
returns-in-Opens-clause-placed c core h m =
    let old = c.args.lists.now in
    let new : Lists = record old { ready = c.replace-in-Opens.new.self; channels = c.push_reserved.new.self } in
    let fits = subst (FitsDeed core h (channel_processes core h old) c.args.j m.own) c.in-Opens.is m.fits in
    subst (λ d. IsDeedPlaced core h old new c.args.i c.args.j m.own d did.Quiet) (sym c.in-Opens.is)
    (opens_placed core h old new c.args.i c.args.j m.own m.are did.Quiet c.in-Opens.part fits c.replace-in-Opens.ensures.items
    (opened_items old.channels.items c.push_reserved.new.self.items c.new.result c.push_reserved.ensures.items c.new.ensures.items) refl tt (λ at e. cc))

pub returns-in-Waits-clause-placed : goal.returns-in-Waits-clause-placed
returns-in-Waits-clause-placed c core h m =
    let old = c.args.lists.now in
    let new : Lists = c.push_at.new.lists in
    let fits = subst (FitsDeed core h (channel_processes core h old) c.args.j m.own) c.in-Waits.is m.fits in
    let there = channel_low core h old c.in-Waits.channel fits.0 in
    subst (λ d. IsDeedPlaced core h old new c.args.i c.args.j m.own d did.Quiet) (sym c.in-Waits.is)
    (waits_placed core h old new c.args.i c.args.j m.own m.are did.Quiet c.in-Waits.channel there c.remove-waiting.result c.remove-waiting.ensures.old m.here fits.1
    (ap (λ (r : Ranking Waiting). r.items) c.push_at.ensures.ready ∙ c.remove-waiting.ensures.items) c.push_at.ensures.items refl tt (λ at e. cc))

pub returns-in-Parks-clause-placed : goal.returns-in-Parks-clause-placed
returns-in-Parks-clause-placed c core h m =
    let old = c.args.lists.now in
    let new : Lists = c.push_at-in-Parks.new.lists in
    let fits = subst (FitsDeed core h (channel_processes core h old) c.args.j m.own) c.in-Parks.is m.fits in
    let there = channel_low core h old c.in-Parks.channel fits.0 in
    subst (λ d. IsDeedPlaced core h old new c.args.i c.args.j m.own d did.Quiet) (sym c.in-Parks.is)
    (parks_placed core h old new c.args.i c.args.j m.own m.are did.Quiet c.in-Parks.channel there c.in-Parks.kept fits.1
    (ap (λ (r : Ranking Waiting). r.items) c.push_at-in-Parks.ensures.ready ∙ c.remove-in-Parks.ensures.items) c.push_at-in-Parks.ensures.items refl tt (λ at e. cc))

pub returns-in-Stops-clause-placed : goal.returns-in-Stops-clause-placed
returns-in-Stops-clause-placed c core h m =
    subst (λ d. IsDeedPlaced core h c.args.lists.now c.args.lists.now c.args.i c.args.j m.own d (did.Trapped c.in-Stops.at)) (sym c.in-Stops.is)
    (stops_placed core h c.args.lists.now c.args.lists.now c.args.i c.args.j m.own m.are (did.Trapped c.in-Stops.at) c.in-Stops.at refl refl)

pub returns-in-Serves-clause-placed : goal.returns-in-Serves-clause-placed
returns-in-Serves-clause-placed c core h m =
    let old = c.args.lists.now in
    let new : Lists = c.settle_at.new.lists in
    let d = c.in-Serves in
    let fits = subst (FitsDeed core h (channel_processes core h old) c.args.j m.own) d.is m.fits in
    let many = parked_many core h old d.channel c.args.j fits.0 fits.1 in
    let reader = get_there (get_or (channel_items old) d.channel []) c.args.j many.1 in
    let word = c.word_at.result in
    let pair = fits.2 in
    subst (λ x. IsDeedPlaced core h old new c.args.i c.args.j m.own x (did.Comm d.channel word)) (sym d.is)
    (serves_placed core h old new c.args.i c.args.j m.own m.are (did.Comm d.channel word) d.channel many.0 d.message d.replicated d.body fits.3 reader.0 reader.1
    (ap (λ (r : Ranking Waiting). r.items) c.settle_at.ensures.ready ∙ c.go_on.ensures) (c.settle_at.ensures.items reader.0 reader.1)
    (ap (Comm d.channel) (whole_value h d.message word pair c.word_at.ensures)) (subst (IsWord h) (sym (c.word_at.ensures pair.word pair.fits pair.packs)) pair.is) (λ at e. cc))

pub returns-in-Takes-clause-placed : goal.returns-in-Takes-clause-placed
returns-in-Takes-clause-placed c core h m =
    let old = c.args.lists.now in
    let new : Lists = c.take_at.new.lists in
    let d = c.in-Takes in
    let fits = subst (FitsDeed core h (channel_processes core h old) c.args.j m.own) d.is m.fits in
    let many = parked_many core h old d.channel c.args.j fits.0 fits.1 in
    let word = c.word_at-in-Takes.result in
    let pair = fits.2 in
    subst (λ x. IsDeedPlaced core h old new c.args.i c.args.j m.own x (did.Comm d.channel word)) (sym d.is)
    (takes_placed core h old new c.args.i c.args.j m.own m.are (did.Comm d.channel word) d.channel many.0 d.message d.replicated d.body fits.3
    (ap (λ (r : Ranking Waiting). r.items) c.take_at.ensures.ready ∙ c.go_on-in-Takes.ensures) c.take_at.ensures.items
    (ap (Comm d.channel) (whole_value h d.message word pair c.word_at-in-Takes.ensures)) (subst (IsWord h) (sym (c.word_at-in-Takes.ensures pair.word pair.fits pair.packs)) pair.is) (λ at e. cc))

pub returns-in-Ends-clause-trapped : goal.returns-in-Ends-clause-trapped
returns-in-Ends-clause-trapped c at e = absurd (c.shown.ensures.trap at e)

pub returns-in-Keeps-clause-trapped : goal.returns-in-Keeps-clause-trapped
returns-in-Keeps-clause-trapped c at e = absurd (c.shown-in-Keeps.ensures.trap at e)

pub returns-in-Forks-clause-trapped : goal.returns-in-Forks-clause-trapped
returns-in-Forks-clause-trapped c at e = (cc, cc)

pub returns-in-Opens-clause-trapped : goal.returns-in-Opens-clause-trapped
returns-in-Opens-clause-trapped c at e = (cc, cc)

pub returns-in-Waits-clause-trapped : goal.returns-in-Waits-clause-trapped
returns-in-Waits-clause-trapped c at e = (cc, cc)

pub returns-in-Parks-clause-trapped : goal.returns-in-Parks-clause-trapped
returns-in-Parks-clause-trapped c at e = (cc, cc)

pub returns-in-Serves-clause-trapped : goal.returns-in-Serves-clause-trapped
returns-in-Serves-clause-trapped c at e = (cc, cc)

pub returns-in-Takes-clause-trapped : goal.returns-in-Takes-clause-trapped
returns-in-Takes-clause-trapped c at e = (cc, cc)

pub returns-in-Stops-clause-trapped : goal.returns-in-Stops-clause-trapped
returns-in-Stops-clause-trapped c at e = let same : c.in-Stops.at ≡ at = cc in (c.in-Stops.is ∙ ap deed.Stops same, refl)

pub returns-in-Opens-clause-channels : goal.returns-in-Opens-clause-channels
returns-in-Opens-clause-channels c =
    let n = ap length c.push_reserved.ensures.items in
    let m = length-append c.args.lists.now.channels.items (c.new.result ∷ []) in
    omega (arith, n, m)
