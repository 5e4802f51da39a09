use Rattle.std.proofs.Common.{◌≡◌, List, length, refl, subst, Some, None}
use Rattle.std.proofs.lemmas.Option.{slice_get_read, slice_get_past}
use Rattle.std.specs.List.{slice_get}
use Rattle.pict_ranked.specs.Ranking.{Ranking}
use Rattle.pict_picker.specs.Picker.{core_in, heap_of}
use Rattle.pict_picker.specs.declared.waiting.Waiting.{Waiting}
use Rattle.pict_picker.proofs.Counts.{counted_some, counted_none}
use Rattle.pict_picker.proofs.picker.Picker.partners_at.Goals as goal

pub returns-in-Some : goal.returns-in-Some
returns-in-Some c =
    let p = c.args.self.now in
    let lent = c.deref.result.now in
    let list = c.in-Some.list.now in
    let at = c.in-Some.ensures.lookup in
    let there : slice_get lent c.args.channel ≡ Some list = slice_get_read lent (length lent) c.args.channel list refl at.3.0 at.1 in
    counted_some (core_in p) (heap_of p) p.lists c.args.channel c.args.sends list c.count_partners.result
    (subst (λ (rs : List (Ranking Waiting)). slice_get rs c.args.channel ≡ Some list) c.deref.ensures.value there) c.requires.lists c.requires.apart
    (c.count_partners.ensures (core_in p) (heap_of p) c.args.channel)

pub returns-in-None : goal.returns-in-None
returns-in-None c =
    let p = c.args.self.now in
    let lent = c.deref.result.now in
    counted_none (core_in p) (heap_of p) p.lists c.args.channel c.args.sends
    (subst (λ (rs : List (Ranking Waiting)). slice_get rs c.args.channel ≡ None) c.deref.ensures.value (slice_get_past lent c.args.channel c.in-None.ensures.lookup.3))
