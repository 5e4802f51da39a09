-- The invariants of a context with one more entry.
use Rattle.std.proofs.Common.{◌≡◌, ◌<◌, ◌^◌, [], ◌∷◌, ◌++◌, length, map, reverse, sym, ◌∙◌, ap, subst, arith}
use Rattle.pict_types.specs.declared.measure.Known.{Known}
use Rattle.pict_types.specs.Plain.{plain_bound}
use Rattle.pict_types.specs.PlainEntries.{plain_entries, plain_what}
use Rattle.pict_types.specs.Entries.{variables, places, held_weights, held_heights, EntriesAreWellFormed, weight_of_what, height_of_what, entry_weights, entry_heights, closed_entries}
use Rattle.pict_types.specs.Measures.{held, weigh_variable, rise_variable}
use Rattle.pict_types.specs.Counting.{variables_around}
use Rattle.pict_types.specs.Places.{entry_names}
use Rattle.pict_types.proofs.Counting.{count_pushed}
use Rattle.pict_types.proofs.Entries.{count_known, last_first, pushed, variable_placed, variable_weighed, variable_measured, entry_formed, definition_placed}
use Rattle.pict_types.proofs.EntryMeasures.{entry_closed, entry_measured, entry_weighed}
use Rattle.pict_types.proofs.Places.{names_pushed, one_at_most}
use Rattle.pict_types.proofs.context.Context.push.Goals as goal

pub invariant_of-self-in-Variable-clause-formed : goal.invariant_of-self-in-Variable-clause-formed
invariant_of-self-in-Variable-clause-formed c =
    let s = c.args.self.now in
    let is = c.push_reserved-in-Variable-2.ensures.items ∙ ap (λ x. x ++ c.args.entry ∷ []) c.reserve.ensures.items in
    subst (λ x. EntriesAreWellFormed s.names.now (plain_entries x)) (sym is) (entry_formed s.names.now s.entries.items c.args.entry c.requires.formed s.formed)

pub invariant_of-self-in-Variable-clause-placed : goal.invariant_of-self-in-Variable-clause-placed
invariant_of-self-in-Variable-clause-placed c =
    let s = c.args.self.now in
    let place : (length c.as_slice-place.result.now) ≡ length s.entries.items = ap length (c.as_slice-place.ensures.value ∙ c.reserve.ensures.items) in
    let is = c.push_reserved-in-Variable-2.ensures.items ∙ ap (λ x. x ++ c.args.entry ∷ []) c.reserve.ensures.items in
    let k : Known = record { place = length c.as_slice-place.result.now; measures = c.measure_what-measures.result } in
    ap (λ x. reverse (map (λ k. k.place) x)) (c.push_reserved-in-Variable.ensures.items ∙ ap (λ x. x ++ k ∷ []) c.reserve-2.ensures.items)
    ∙ last_first (λ k. k.place) s.known.items k
    ∙ variable_placed (reverse (map (λ k. k.place) s.known.items)) s.entries.items c.args.entry (length c.as_slice-place.result.now) (plain_bound c.in-Variable.field-0) (ap plain_what c.in-Variable.is) s.placed place
    ∙ ap (λ x. places (plain_entries x)) (sym is)

pub invariant_of-self-in-Variable-clause-weighed : goal.invariant_of-self-in-Variable-clause-weighed
invariant_of-self-in-Variable-clause-weighed c =
    let s = c.args.self.now in
    let is = c.push_reserved-in-Variable-2.ensures.items ∙ ap (λ x. x ++ c.args.entry ∷ []) c.reserve.ensures.items in
    let k : Known = record { place = length c.as_slice-place.result.now; measures = c.measure_what-measures.result } in
    let vs = reverse (map (λ k. k.measures.weight) s.known.items) in
    let b = plain_bound c.in-Variable.field-0 in
    let h : c.measure_what-measures.result.weight ≡ held (weigh_variable vs b) = c.measure_what-measures.ensures.weight ∙ ap (λ w. held (weight_of_what (reverse (map (λ k. k.measures.weight) c.deref.result.now)) w)) (ap plain_what c.in-Variable.is) ∙ ap (λ x. held (weigh_variable (reverse (map (λ k. k.measures.weight) x)) b)) (c.deref.ensures.value ∙ c.reserve-2.ensures.items) in
    ap (λ x. reverse (map (λ k. k.measures.weight) x)) (c.push_reserved-in-Variable.ensures.items ∙ ap (λ x. x ++ k ∷ []) c.reserve-2.ensures.items)
    ∙ last_first (λ k. k.measures.weight) s.known.items k
    ∙ variable_weighed vs s.entries.items c.args.entry c.measure_what-measures.result.weight b (ap plain_what c.in-Variable.is) s.weighed h
    ∙ ap (λ x. held_weights (plain_entries x)) (sym is)

pub invariant_of-self-in-Variable-clause-measured : goal.invariant_of-self-in-Variable-clause-measured
invariant_of-self-in-Variable-clause-measured c =
    let s = c.args.self.now in
    let is = c.push_reserved-in-Variable-2.ensures.items ∙ ap (λ x. x ++ c.args.entry ∷ []) c.reserve.ensures.items in
    let k : Known = record { place = length c.as_slice-place.result.now; measures = c.measure_what-measures.result } in
    let vs = reverse (map (λ k. k.measures.height) s.known.items) in
    let b = plain_bound c.in-Variable.field-0 in
    let h : c.measure_what-measures.result.height ≡ held (rise_variable vs b) = c.measure_what-measures.ensures.height ∙ ap (λ w. held (height_of_what (reverse (map (λ k. k.measures.height) c.deref.result.now)) w)) (ap plain_what c.in-Variable.is) ∙ ap (λ x. held (rise_variable (reverse (map (λ k. k.measures.height) x)) b)) (c.deref.ensures.value ∙ c.reserve-2.ensures.items) in
    ap (λ x. reverse (map (λ k. k.measures.height) x)) (c.push_reserved-in-Variable.ensures.items ∙ ap (λ x. x ++ k ∷ []) c.reserve-2.ensures.items)
    ∙ last_first (λ k. k.measures.height) s.known.items k
    ∙ variable_measured vs s.entries.items c.args.entry c.measure_what-measures.result.height b (ap plain_what c.in-Variable.is) s.measured h
    ∙ ap (λ x. held_heights (plain_entries x)) (sym is)

pub invariant_of-self-in-Variable-clause-named : goal.invariant_of-self-in-Variable-clause-named
invariant_of-self-in-Variable-clause-named c =
    let s = c.args.self.now in
    let is = c.push_reserved-in-Variable-2.ensures.items ∙ ap (λ x. x ++ c.args.entry ∷ []) c.reserve.ensures.items in
    c.in_ok-bind.ensures.ok ∙ ap (λ x. c.args.entry.name.0 ∷ x) s.named ∙ sym (names_pushed s.entries.items c.args.entry) ∙ ap (λ x. entry_names (plain_entries x)) (sym is)

pub invariant_of-self-in-Variable-clause-few : goal.invariant_of-self-in-Variable-clause-few
invariant_of-self-in-Variable-clause-few c =
    let s = c.args.self.now in
    let is = c.push_reserved-in-Variable-2.ensures.items ∙ ap (λ x. x ++ c.args.entry ∷ []) c.reserve.ensures.items in
    let n : length c.as_slice.result.now ≡ length (variables (plain_entries s.entries.items)) =
    ap length c.as_slice.ensures.value ∙ count_known s.known.items (plain_entries s.entries.items) s.placed in
    subst (λ x. length (variables x) < 2 ^ 32) (sym (ap plain_entries is ∙ pushed s.entries.items c.args.entry)) (omega (arith, n, c.if-as_slice.false, one_at_most (plain_what c.args.entry.what) (variables (plain_entries s.entries.items))))

pub invariant_of-self-in-Variable-clause-counted : goal.invariant_of-self-in-Variable-clause-counted
invariant_of-self-in-Variable-clause-counted c =
    let s = c.args.self.now in
    let n = length c.as_slice-count.result.now in
    let k : n ≡ length (variables (plain_entries s.entries.items)) = ap length (c.as_slice-count.ensures.value ∙ c.reserve-2.ensures.items) ∙ count_known s.known.items (plain_entries s.entries.items) s.placed in
    let is = c.push_reserved-in-Variable-2.ensures.items ∙ ap (λ x. x ++ c.args.entry ∷ []) c.reserve.ensures.items in
    ap reverse (c.push_reserved.ensures.items ∙ ap (λ x. x ++ n ∷ []) c.reserve-3.ensures.items)
    ∙ count_pushed s.around.items s.entries.items c.args.entry n s.counted k
    ∙ ap (λ x. variables_around (plain_entries x)) (sym is)

pub invariant_of-self-in-Definition-clause-counted : goal.invariant_of-self-in-Definition-clause-counted
invariant_of-self-in-Definition-clause-counted c =
    let s = c.args.self.now in
    let n = length c.as_slice-count.result.now in
    let k : n ≡ length (variables (plain_entries s.entries.items)) = ap length (c.as_slice-count.ensures.value ∙ c.reserve-2.ensures.items) ∙ count_known s.known.items (plain_entries s.entries.items) s.placed in
    let is = c.push_reserved-in-Definition.ensures.items ∙ ap (λ x. x ++ c.args.entry ∷ []) c.reserve.ensures.items in
    ap reverse (c.push_reserved.ensures.items ∙ ap (λ x. x ++ n ∷ []) c.reserve-3.ensures.items)
    ∙ count_pushed s.around.items s.entries.items c.args.entry n s.counted k
    ∙ ap (λ x. variables_around (plain_entries x)) (sym is)

pub invariant_of-self-in-Definition-clause-placed : goal.invariant_of-self-in-Definition-clause-placed
invariant_of-self-in-Definition-clause-placed c =
    let s = c.args.self.now in
    let is = c.push_reserved-in-Definition.ensures.items ∙ ap (λ x. x ++ c.args.entry ∷ []) c.reserve.ensures.items in
    ap (λ x. reverse (map (λ k. k.place) x)) c.reserve-2.ensures.items
    ∙ s.placed
    ∙ sym (definition_placed s.entries.items c.args.entry (ap plain_what c.in-Definition.is))
    ∙ ap (λ x. places (plain_entries x)) (sym is)

pub invariant_of-self-in-Definition-clause-named : goal.invariant_of-self-in-Definition-clause-named
invariant_of-self-in-Definition-clause-named c =
    let s = c.args.self.now in
    let is = c.push_reserved-in-Definition.ensures.items ∙ ap (λ x. x ++ c.args.entry ∷ []) c.reserve.ensures.items in
    c.in_ok-bind.ensures.ok ∙ ap (λ x. c.args.entry.name.0 ∷ x) s.named ∙ sym (names_pushed s.entries.items c.args.entry) ∙ ap (λ x. entry_names (plain_entries x)) (sym is)

pub invariant_of-self-in-Definition-clause-few : goal.invariant_of-self-in-Definition-clause-few
invariant_of-self-in-Definition-clause-few c =
    let s = c.args.self.now in
    let is = c.push_reserved-in-Definition.ensures.items ∙ ap (λ x. x ++ c.args.entry ∷ []) c.reserve.ensures.items in
    let n : length c.as_slice.result.now ≡ length (variables (plain_entries s.entries.items)) =
    ap length c.as_slice.ensures.value ∙ count_known s.known.items (plain_entries s.entries.items) s.placed in
    subst (λ x. length (variables x) < 2 ^ 32) (sym (ap plain_entries is ∙ pushed s.entries.items c.args.entry)) (omega (arith, n, c.if-as_slice.false, one_at_most (plain_what c.args.entry.what) (variables (plain_entries s.entries.items))))

pub invariant_of-self-in-Variable-clause-entries_weighed : goal.invariant_of-self-in-Variable-clause-entries_weighed
invariant_of-self-in-Variable-clause-entries_weighed c =
    let s = c.args.self.now in
    let m = c.measure_what-measures.result in
    let is = c.push_reserved-in-Variable-2.ensures.items ∙ ap (λ x. x ++ c.args.entry ∷ []) c.reserve.ensures.items in
    let vs = reverse (map (λ k. k.measures.weight) s.known.items) in
    let n : m.weight ≡ held (weight_of_what vs (plain_what c.args.entry.what)) =
    c.measure_what-measures.ensures.weight ∙ ap (λ x. held (weight_of_what (reverse (map (λ k. k.measures.weight) x)) (plain_what c.args.entry.what))) (c.deref.ensures.value ∙ c.reserve-2.ensures.items) in
    ap (λ x. reverse (map (λ y. y.weight) x)) (c.push_reserved-2.ensures.items ∙ ap (λ x. x ++ m ∷ []) c.reserve-4.ensures.items)
    ∙ entry_weighed s.sizes.items m vs s.entries.items c.args.entry s.entries_weighed s.weighed n
    ∙ ap (λ x. entry_weights (plain_entries x)) (sym is)

pub invariant_of-self-in-Variable-clause-entries_measured : goal.invariant_of-self-in-Variable-clause-entries_measured
invariant_of-self-in-Variable-clause-entries_measured c =
    let s = c.args.self.now in
    let m = c.measure_what-measures.result in
    let is = c.push_reserved-in-Variable-2.ensures.items ∙ ap (λ x. x ++ c.args.entry ∷ []) c.reserve.ensures.items in
    let vs = reverse (map (λ k. k.measures.height) s.known.items) in
    let n : m.height ≡ held (height_of_what vs (plain_what c.args.entry.what)) =
    c.measure_what-measures.ensures.height ∙ ap (λ x. held (height_of_what (reverse (map (λ k. k.measures.height) x)) (plain_what c.args.entry.what))) (c.deref.ensures.value ∙ c.reserve-2.ensures.items) in
    ap (λ x. reverse (map (λ y. y.height) x)) (c.push_reserved-2.ensures.items ∙ ap (λ x. x ++ m ∷ []) c.reserve-4.ensures.items)
    ∙ entry_measured s.sizes.items m vs s.entries.items c.args.entry s.entries_measured s.measured n
    ∙ ap (λ x. entry_heights (plain_entries x)) (sym is)

pub invariant_of-self-in-Definition-clause-entries_weighed : goal.invariant_of-self-in-Definition-clause-entries_weighed
invariant_of-self-in-Definition-clause-entries_weighed c =
    let s = c.args.self.now in
    let m = c.measure_what-measures.result in
    let is = c.push_reserved-in-Definition.ensures.items ∙ ap (λ x. x ++ c.args.entry ∷ []) c.reserve.ensures.items in
    let vs = reverse (map (λ k. k.measures.weight) s.known.items) in
    let n : m.weight ≡ held (weight_of_what vs (plain_what c.args.entry.what)) =
    c.measure_what-measures.ensures.weight ∙ ap (λ x. held (weight_of_what (reverse (map (λ k. k.measures.weight) x)) (plain_what c.args.entry.what))) (c.deref.ensures.value ∙ c.reserve-2.ensures.items) in
    ap (λ x. reverse (map (λ y. y.weight) x)) (c.push_reserved-2.ensures.items ∙ ap (λ x. x ++ m ∷ []) c.reserve-4.ensures.items)
    ∙ entry_weighed s.sizes.items m vs s.entries.items c.args.entry s.entries_weighed s.weighed n
    ∙ ap (λ x. entry_weights (plain_entries x)) (sym is)

pub invariant_of-self-in-Definition-clause-entries_measured : goal.invariant_of-self-in-Definition-clause-entries_measured
invariant_of-self-in-Definition-clause-entries_measured c =
    let s = c.args.self.now in
    let m = c.measure_what-measures.result in
    let is = c.push_reserved-in-Definition.ensures.items ∙ ap (λ x. x ++ c.args.entry ∷ []) c.reserve.ensures.items in
    let vs = reverse (map (λ k. k.measures.height) s.known.items) in
    let n : m.height ≡ held (height_of_what vs (plain_what c.args.entry.what)) =
    c.measure_what-measures.ensures.height ∙ ap (λ x. held (height_of_what (reverse (map (λ k. k.measures.height) x)) (plain_what c.args.entry.what))) (c.deref.ensures.value ∙ c.reserve-2.ensures.items) in
    ap (λ x. reverse (map (λ y. y.height) x)) (c.push_reserved-2.ensures.items ∙ ap (λ x. x ++ m ∷ []) c.reserve-4.ensures.items)
    ∙ entry_measured s.sizes.items m vs s.entries.items c.args.entry s.entries_measured s.measured n
    ∙ ap (λ x. entry_heights (plain_entries x)) (sym is)

pub invariant_of-self-in-Variable-clause-entries_closed : goal.invariant_of-self-in-Variable-clause-entries_closed
invariant_of-self-in-Variable-clause-entries_closed c =
    let s = c.args.self.now in
    let b = c.in_ok-closed.closed in
    let is = c.push_reserved-in-Variable-2.ensures.items ∙ ap (λ x. x ++ c.args.entry ∷ []) c.reserve.ensures.items in
    ap reverse (c.push_reserved-3.ensures.items ∙ ap (λ x. x ++ b ∷ []) c.reserve-5.ensures.items)
    ∙ entry_closed s.closed.items b s.entries.items c.args.entry s.entries_closed c.in_ok-closed.ensures
    ∙ ap (λ x. closed_entries (plain_entries x)) (sym is)

pub invariant_of-self-in-Definition-clause-entries_closed : goal.invariant_of-self-in-Definition-clause-entries_closed
invariant_of-self-in-Definition-clause-entries_closed c =
    let s = c.args.self.now in
    let b = c.in_ok-closed.closed in
    let is = c.push_reserved-in-Definition.ensures.items ∙ ap (λ x. x ++ c.args.entry ∷ []) c.reserve.ensures.items in
    ap reverse (c.push_reserved-3.ensures.items ∙ ap (λ x. x ++ b ∷ []) c.reserve-5.ensures.items)
    ∙ entry_closed s.closed.items b s.entries.items c.args.entry s.entries_closed c.in_ok-closed.ensures
    ∙ ap (λ x. closed_entries (plain_entries x)) (sym is)
