use Rattle.pict_code.specs.Plain.{plain_pat}
use Rattle.pict_picker.proofs.Deeds.{taken_fits}
use Rattle.pict_picker.proofs.Serving.{take_places, take_rises, take_inside, take_desk, take_deed}
use Rattle.pict_picker.proofs.meeting.take.Goals as goal

pub bind_message-requires : goal.bind_message-requires
bind_message-requires c =
    let a = c.requires.acts in
    let code = c.args.code.now in
    let d = c.args.desk.now in
    let p = plain_pat c.args.pattern.now in
    record {
      pair = a.4.pair;
      fits = taken_fits code d a.0 a.1 c.args.channel c.args.replicated p c.args.part a.2 a.3 c.args.message a.4;
      inside = take_places code d a.0 a.1 c.args.channel c.args.replicated p c.args.part a.2 a.3;
      rising = take_rises code d a.0 a.1 c.args.channel c.args.replicated p c.args.part a.2 a.3;
      pairs = a.3.acts.may.desk.pairs;
    }

pub make_part-requires : goal.make_part-requires
make_part-requires c =
    let a = c.requires.acts in
    let code = c.args.code.now in
    let d = c.args.desk.now in
    let p = plain_pat c.args.pattern.now in
    let b = c.bind_message in
    record {
      code = a.3.acts.may.code_is;
      inside = take_inside code d a.0 a.1 c.args.channel c.args.replicated p c.args.part a.2 a.3;
      desk = (take_desk code d a.0 a.1 c.args.channel c.args.replicated p c.args.part a.2 a.3 b.new.desk b.ensures.heap b.ensures.len b.ensures.pairs).desk;
    }

pub returns-clause-deed : goal.returns-clause-deed
returns-clause-deed c lists j own r sent =
    let b = c.bind_message in
    take_deed c.args.code.now c.args.desk.now lists j c.args.channel c.args.replicated (plain_pat c.args.pattern.now) c.args.part own r b.new.desk b.ensures.heap b.ensures.len b.ensures.pairs
    c.args.message sent c.in_ok-body.body b.ensures.binds c.in_ok-body.ensures

pub returns-clause-rest : goal.returns-clause-rest
returns-clause-rest c =
    let a = c.requires.acts in
    let b = c.bind_message in
    take_desk c.args.code.now c.args.desk.now a.0 a.1 c.args.channel c.args.replicated (plain_pat c.args.pattern.now) c.args.part a.2 a.3 b.new.desk b.ensures.heap b.ensures.len b.ensures.pairs

pub returns-in_err-body-clause-rest : goal.returns-in_err-body-clause-rest
returns-in_err-body-clause-rest c =
    let a = c.requires.acts in
    let b = c.bind_message in
    take_desk c.args.code.now c.args.desk.now a.0 a.1 c.args.channel c.args.replicated (plain_pat c.args.pattern.now) c.args.part a.2 a.3 b.new.desk b.ensures.heap b.ensures.len b.ensures.pairs
