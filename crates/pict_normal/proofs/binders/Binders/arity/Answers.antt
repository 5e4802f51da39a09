-- The binder that is read stands at its place.
use Rattle.std.proofs.Common.{◌≡◌, ◌<◌, ◌∙◌, sym, ap, length, arith}
use Rattle.pict_normal.specs.BinderEntries.{entries_of}
use Rattle.pict_types.specs.Places.{arity_at}
use Rattle.pict_normal.proofs.BinderPlaces.{binder_arity, binders_length}
use Rattle.pict_normal.proofs.binders.Binders.arity.Goals as goal

pub returns : goal.returns
returns c =
    let xs = c.as_slice-binders.result.now in
    let m : length xs ≡ length c.args.self.now.binders.items = ap length c.as_slice-binders.ensures.value in
    let h : c.args.place < length xs = omega (arith, m, binders_length c.args.self.now.binders.items) in
    c.kind_arity.ensures
    ∙ sym (binder_arity xs c.args.place _ h)
    ∙ ap (λ l. arity_at (entries_of l) c.args.place) c.as_slice-binders.ensures.value
