use Rattle.std.proofs.Common.{◌<◌, ◌∙◌, length, get_or, refl, arith}
use Rattle.std.proofs.lemmas.List.{length-set}
use Rattle.pict_picker.proofs.Levels.{read_more, pairs_more, read_whole}
use Rattle.pict_picker.proofs.frames.read_values.Goals as goal

pub loop-i-init : goal.loop-i-init
loop-i-init c = record { read = refl; pairs = λ h pairs all. pairs; len = refl }

pub loop-i-preserved : goal.loop-i-preserved
loop-i-preserved c =
    let i = c.loop-i.i in
    let levels = c.args.levels.now in
    let frame = c.args.frame.now in
    let values = c.loop-i.values in
    let level = get_or levels i 0 in
    let pair = get_or frame i (0, 0) in
    let inside : level < length values = omega (arith, c.loop-i.invariant.len, c.requires.inside i, c.loop-i-test.true) in
    record {
      read = read_more values levels frame i level pair c.loop-i-test.true c.requires.many refl refl inside c.requires.rising c.loop-i.invariant.read;
      pairs = λ h pairs all. pairs_more values levels frame i level pair c.loop-i-test.true c.requires.many refl refl inside h all (c.loop-i.invariant.pairs h pairs all);
      len = length-set values level pair ∙ c.loop-i.invariant.len;
    }

pub returns-clause-read : goal.returns-clause-read
returns-clause-read c = read_whole c.loop-i.values c.args.levels.now c.args.frame.now c.loop-i.i c.loop-i-test.false c.requires.many c.loop-i.invariant.read

pub returns-clause-pairs : goal.returns-clause-pairs
returns-clause-pairs c = c.loop-i.invariant.pairs
