use Rattle.std.proofs.Common.{ℕ, ◌<◌, ◌≡◌, length, get_or, refl, sym, ap, ◌∙◌, subst, arith}
use Rattle.std.specs.List.{AllByRecursion}
use Rattle.std.specs.Option.{IsSome}
use Rattle.pict_core.specs.Matching.{match_value}
use Rattle.pict_code.specs.Plain.{plain_pat}
use Rattle.pict_code.specs.ReadBack.{unleveled}
use Rattle.pict_desk.specs.Binding.{levels_of, BindsPattern}
use Rattle.pict_desk.specs.Known.{value_in}
use Rattle.pict_desk.specs.Pairs.{IsPair, ArePairs}
use Rattle.pict_turns.specs.declared.store.Store.{Store}
use Rattle.pict_meetings.proofs.Fields.{many, pair_there, pair_fits, pair_inside, pair_rises, pair_bound, all_bound}
use Rattle.pict_meetings.proofs.binding.bind_each.Goals as goal

pub bounds-fields-i : goal.bounds-fields-i
bounds-fields-i c =
    let m = many c.args.store.now.desk.heap c.args.fields.now c.args.patterns.now c.requires.fits in
    omega (arith, m, c.loop-i-test.true)

pub bind_levels-requires-clause-pair : goal.bind_levels-requires-clause-pair
bind_levels-requires-clause-pair c =
    let s = c.args.store.now in
    let now = c.loop-i.store in
    let pair : ℕ × ℕ = get_or c.args.fields.now c.loop-i.i (0, 0) in
    let p = c.index-patterns-i.result in
    let x = c.requires in
    let same : now.desk.heap ≡ s.desk.heap = ap (λ (y : Store). y.desk.heap) c.loop-i.invariant.rest in
    let m = many s.desk.heap c.args.fields.now c.args.patterns.now x.fits in
    let low : c.loop-i.i < length c.args.fields.now = omega (arith, m, c.loop-i-test.true) in
    subst (λ h. IsPair h pair) (sym same) (pair_there s.desk.heap c.args.fields.now c.args.patterns.now x.fits c.loop-i.i s.desk.values.items now.desk.values.items c.loop-i.invariant.so_far x.are p pair low c.index-patterns-i.is refl)

pub bind_levels-requires-clause-fits : goal.bind_levels-requires-clause-fits
bind_levels-requires-clause-fits c =
    let s = c.args.store.now in
    let now = c.loop-i.store in
    let pair : ℕ × ℕ = get_or c.args.fields.now c.loop-i.i (0, 0) in
    let p = c.index-patterns-i.result in
    let x = c.requires in
    let same : now.desk.heap ≡ s.desk.heap = ap (λ (y : Store). y.desk.heap) c.loop-i.invariant.rest in
    let m = many s.desk.heap c.args.fields.now c.args.patterns.now x.fits in
    let low : c.loop-i.i < length c.args.fields.now = omega (arith, m, c.loop-i-test.true) in
    subst (λ h. IsSome (match_value (unleveled (plain_pat p)) (value_in h pair.0 pair.1))) (sym same)
    (pair_fits s.desk.heap c.args.fields.now c.args.patterns.now x.fits c.loop-i.i s.desk.values.items now.desk.values.items c.loop-i.invariant.so_far x.are p pair low c.index-patterns-i.is refl)

pub bind_levels-requires-clause-inside : goal.bind_levels-requires-clause-inside
bind_levels-requires-clause-inside c =
    let s = c.args.store.now in
    let now = c.loop-i.store in
    let pair : ℕ × ℕ = get_or c.args.fields.now c.loop-i.i (0, 0) in
    let p = c.index-patterns-i.result in
    let x = c.requires in
    let same : now.desk.heap ≡ s.desk.heap = ap (λ (y : Store). y.desk.heap) c.loop-i.invariant.rest in
    let m = many s.desk.heap c.args.fields.now c.args.patterns.now x.fits in
    let low : c.loop-i.i < length c.args.fields.now = omega (arith, m, c.loop-i-test.true) in
    subst (λ n. AllByRecursion (λ level. level < n) (levels_of (plain_pat p))) (sym c.loop-i.invariant.levels)
    (pair_inside s.desk.heap c.args.fields.now c.args.patterns.now x.fits c.loop-i.i s.desk.values.items now.desk.values.items c.loop-i.invariant.so_far x.are p pair low c.index-patterns-i.is refl (length s.desk.values.items) x.inside)

pub bind_levels-requires-clause-rising : goal.bind_levels-requires-clause-rising
bind_levels-requires-clause-rising c =
    let s = c.args.store.now in
    let now = c.loop-i.store in
    let pair : ℕ × ℕ = get_or c.args.fields.now c.loop-i.i (0, 0) in
    let p = c.index-patterns-i.result in
    let x = c.requires in
    let same : now.desk.heap ≡ s.desk.heap = ap (λ (y : Store). y.desk.heap) c.loop-i.invariant.rest in
    let m = many s.desk.heap c.args.fields.now c.args.patterns.now x.fits in
    let low : c.loop-i.i < length c.args.fields.now = omega (arith, m, c.loop-i-test.true) in
    pair_rises s.desk.heap c.args.fields.now c.args.patterns.now x.fits c.loop-i.i s.desk.values.items now.desk.values.items c.loop-i.invariant.so_far x.are p pair low c.index-patterns-i.is refl x.rising

pub loop-i-preserved : goal.loop-i-preserved
loop-i-preserved c =
    let s = c.args.store.now in
    let now = c.loop-i.store in
    let pair : ℕ × ℕ = get_or c.args.fields.now c.loop-i.i (0, 0) in
    let p = c.index-patterns-i.result in
    let x = c.requires in
    let same : now.desk.heap ≡ s.desk.heap = ap (λ (y : Store). y.desk.heap) c.loop-i.invariant.rest in
    let m = many s.desk.heap c.args.fields.now c.args.patterns.now x.fits in
    let low : c.loop-i.i < length c.args.fields.now = omega (arith, m, c.loop-i-test.true) in
    let new = c.bind_levels.new.store in
    record {
      so_far = pair_bound s.desk.heap c.args.fields.now c.args.patterns.now x.fits c.loop-i.i s.desk.values.items now.desk.values.items c.loop-i.invariant.so_far x.are p pair low c.index-patterns-i.is refl new.desk.values.items x.rising
          (subst (λ h. BindsPattern h (plain_pat p) (value_in h pair.0 pair.1) now.desk.values.items new.desk.values.items) same c.bind_levels.ensures.binds);
      levels = c.bind_levels.ensures.levels ∙ c.loop-i.invariant.levels;
      pairs = subst (λ h. ArePairs h new.desk.values.items) same c.bind_levels.ensures.pairs;
      rest = c.bind_levels.ensures.rest ∙ ap (λ (y : Store). record y { desk = record y.desk { values = new.desk.values } }) c.loop-i.invariant.rest;
    }

pub returns-clause-binds : goal.returns-clause-binds
returns-clause-binds c =
    let s = c.args.store.now in
    let m = many s.desk.heap c.args.fields.now c.args.patterns.now c.requires.fits in
    all_bound s.desk.heap c.args.fields.now c.args.patterns.now c.requires.fits c.loop-i.i s.desk.values.items c.loop-i.store.desk.values.items c.loop-i.invariant.so_far
    (omega (arith, m, c.loop-i-test.false, c.loop-i.auto))
