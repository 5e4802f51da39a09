use Rattle.std.proofs.Common.{◌<◌, List, length, sym, ap, ◌∙◌, subst}
use Rattle.pict_ranked.specs.Ranking.{Ranking}
use Rattle.pict_picker.specs.Picker.{items_of}
use Rattle.pict_picker.specs.declared.waiting.Waiting.{Waiting}
use Rattle.pict_picker.proofs.Channels.{items_stay}
use Rattle.pict_picker.proofs.placing.reserve.Goals as goal

pub returns-in-Some-clause-same : goal.returns-in-Some-clause-same
returns-in-Some-clause-same c =
    let channel = c.in-Some.channel in
    let same = c.reserve-2.ensures.items in
    let low = c.requires.there channel c.in-Some.is in
    record {
      ready = c.reserve.ensures.items;
      parked = items_stay c.reserve-2.new.self.items channel c.index_mut.result.now c.reserve-in-Some.new.self (subst (λ (rs : List (Ranking Waiting)). channel < length rs) (sym same) low)
          c.index_mut.ensures.value c.reserve-in-Some.ensures.items ∙ ap items_of same;
    }
