use Rattle.std.proofs.Common.{◌<◌, ◌∙◌, length, get_or, refl, sym, arith, Some, None}
use Rattle.std.proofs.lemmas.List.{length-set}
use Rattle.pict_heap.specs.HeapState.{value_of}
use Rattle.pict_desk.specs.Known.{value_in, value_fields}
use Rattle.pict_desk.proofs.Pairs.{set_pairs}
use Rattle.pict_desk.proofs.Reading.{there_is_one, field_read, others_stay, read_all, others_all, whole_value, field_there}
use Rattle.pict_desk.proofs.records.read_record.Goals as goal

pub loop-i-init : goal.loop-i-init
loop-i-init c = record { read = refl; others = λ level none. refl; pairs = λ pairs. pairs; len = refl }

pub unreachable-requires : goal.unreachable-requires
unreachable-requires c =
    let h = c.args.heap.now in
    let same = whole_value h c.args.pair c.word_at-whole.result c.requires.pair c.word_at-whole.ensures in
    there_is_one (value_fields (value_in h c.args.pair.0 c.args.pair.1)) c.loop-i.i (omega (arith, c.requires.fields, c.loop-i-test.true))
    (field_there h c.args.pair c.word_at-whole.result c.loop-i.i None same c.in-None.ensures.value)

pub loop-i-preserved : goal.loop-i-preserved
loop-i-preserved c =
    let h = c.args.heap.now in
    let level = get_or c.args.frame.now c.loop-i.i 0 in
    let same = whole_value h c.args.pair c.word_at-whole.result c.requires.pair c.word_at-whole.ensures in
    let there = field_there h c.args.pair c.word_at-whole.result c.loop-i.i (Some (value_of h c.in-Some.word)) same c.in-Some.ensures.value in
    let inside : level < length c.loop-i.values = omega (arith, c.loop-i.invariant.len, c.requires.inside c.loop-i.i, c.loop-i-test.true) in
    record {
      read = field_read h c.args.values.now c.loop-i.values c.args.frame.now c.loop-i.i level c.pack.result c.loop-i-test.true refl (value_fields (value_in h c.args.pair.0 c.args.pair.1)) c.in-Some.word c.requires.rising
          c.pack.ensures.fits (sym c.pack.ensures.pair) inside there c.loop-i.invariant.read;
      others = λ other none. others_stay h c.args.values.now c.loop-i.values c.args.frame.now c.loop-i.i level c.pack.result c.loop-i-test.true refl other c.loop-i.invariant.others none;
      pairs = λ pairs. set_pairs h c.loop-i.values level c.in-Some.word c.pack.result c.pack.ensures.fits (sym c.pack.ensures.pair) inside c.in-Some.ensures.word (c.loop-i.invariant.pairs pairs);
      len = length-set c.loop-i.values _ _ ∙ c.loop-i.invariant.len;
    }

pub returns-clause-read : goal.returns-clause-read
returns-clause-read c = read_all _ c.args.frame.now (value_fields (value_in c.args.heap.now c.args.pair.0 c.args.pair.1)) c.loop-i.i c.requires.fields c.loop-i-test.false c.loop-i.invariant.read

pub returns-clause-others : goal.returns-clause-others
returns-clause-others c level none = others_all c.args.values.now c.loop-i.values c.args.frame.now c.loop-i.i level c.loop-i-test.false c.loop-i.invariant.others none

pub returns-clause-pairs : goal.returns-clause-pairs
returns-clause-pairs c = c.loop-i.invariant.pairs
