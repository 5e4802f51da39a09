use Rattle.std.proofs.Common.{◌<◌, ◌≤◌, ◌≡◌, length, sym, ap, ◌∙◌, subst, map}
use Rattle.std.specs.List.{All}
use Rattle.std.specs.Vec.{vec_capacity}
use Rattle.pict_code.specs.Levels.{Rises}
use Rattle.pict_code.specs.Plain.{plain_pat}
use Rattle.pict_desk.specs.Known.{pair_at}
use Rattle.pict_picker.proofs.Widths.{read_width}
use Rattle.pict_picker.proofs.Serving.{serve_low, serve_many, serve_frame_inside, serve_frame_rises, serve_input, serve_pair, serve_fits, serve_places, serve_rises, serve_inside, read_desk, bound_desk, serve_deed}
use Rattle.pict_picker.proofs.meeting.serve.Goals as goal

pub bounds-code-number : goal.bounds-code-number
bounds-code-number c =
    let a = c.requires.acts in
    serve_low c.args.code.now c.args.desk.now a.0 a.1 c.args.channel c.args.message a.2 a.3 a.4 c.args.number c.args.frame.now a.5

pub read_frame-requires-clause-many : goal.read_frame-requires-clause-many
read_frame-requires-clause-many c =
    let a = c.requires.acts in
    serve_many c.args.code.now c.args.desk.now a.0 a.1 c.args.channel c.args.message a.2 a.3 a.4 c.args.number c.args.frame.now a.5 c.index-code-number.result c.index-code-number.is
    ∙ ap length (sym (c.deref-2.ensures.value ∙ ap (λ v. v.items) c.deref.ensures))

pub read_frame-requires-clause-inside : goal.read_frame-requires-clause-inside
read_frame-requires-clause-inside c =
    let a = c.requires.acts in
    subst (All (λ level. level < length c.args.desk.now.values.items)) (sym (c.deref-2.ensures.value ∙ ap (λ v. v.items) c.deref.ensures))
    (serve_frame_inside c.args.code.now c.args.desk.now a.0 a.1 c.args.channel c.args.message a.2 a.3 a.4 c.args.number c.args.frame.now a.5 c.index-code-number.result c.index-code-number.is)

pub read_frame-requires-clause-rising : goal.read_frame-requires-clause-rising
read_frame-requires-clause-rising c =
    let a = c.requires.acts in
    subst (Rises 0) (sym (c.deref-2.ensures.value ∙ ap (λ v. v.items) c.deref.ensures))
    (serve_frame_rises c.args.code.now c.args.desk.now a.0 a.1 c.args.channel c.args.message a.2 a.3 a.4 c.args.number c.args.frame.now a.5 c.index-code-number.result c.index-code-number.is)

pub input_of-part-requires : goal.input_of-part-requires
input_of-part-requires c =
    let a = c.requires.acts in
    let r = c.read_frame in
    let is = subst (λ ls. map (pair_at r.new.desk.values.items) ls ≡ c.args.frame.now) (c.deref-2.ensures.value ∙ ap (λ v. v.items) c.deref.ensures) r.ensures.read in
    let i = serve_input c.args.code.now c.args.desk.now a.0 a.1 c.args.channel c.args.message a.2 a.3 a.4 c.args.number c.args.frame.now a.5 c.index-code-number.result c.index-code-number.is
    r.new.desk r.ensures.heap r.ensures.len r.ensures.pairs is in
    (i.replicated, i.chan, i.pattern, i.part, i.is)

pub bind_message-requires : goal.bind_message-requires
bind_message-requires c =
    let a = c.requires.acts in
    let r = c.read_frame in
    let o = c.input_of-part in
    let node = c.index-code-number.result in
    let there = c.index-code-number.is in
    let is = subst (λ ls. map (pair_at r.new.desk.values.items) ls ≡ c.args.frame.now) (c.deref-2.ensures.value ∙ ap (λ v. v.items) c.deref.ensures) r.ensures.read in
    let p = plain_pat o.result.0.now in
    record {
      pair = serve_pair c.args.code.now c.args.desk.now a.0 a.1 c.args.channel c.args.message a.2 a.3 a.4 c.args.number c.args.frame.now a.5 node there
          r.new.desk r.ensures.heap r.ensures.len r.ensures.pairs is o.result.2 o.ensures.0 p o.result.1 o.ensures.1;
      fits = serve_fits c.args.code.now c.args.desk.now a.0 a.1 c.args.channel c.args.message a.2 a.3 a.4 c.args.number c.args.frame.now a.5 node there
          r.new.desk r.ensures.heap r.ensures.len r.ensures.pairs is o.result.2 o.ensures.0 p o.result.1 o.ensures.1;
      inside = serve_places c.args.code.now c.args.desk.now a.0 a.1 c.args.channel c.args.message a.2 a.3 a.4 c.args.number c.args.frame.now a.5 node there
          r.new.desk r.ensures.heap r.ensures.len r.ensures.pairs is o.result.2 o.ensures.0 p o.result.1 o.ensures.1;
      rising = serve_rises c.args.code.now c.args.desk.now a.0 a.1 c.args.channel c.args.message a.2 a.3 a.4 c.args.number c.args.frame.now a.5 node there
          r.new.desk r.ensures.heap r.ensures.len r.ensures.pairs is o.result.2 o.ensures.0 p o.result.1 o.ensures.1;
      pairs = (read_desk c.args.code.now c.args.desk.now a.0 a.1 c.args.channel c.args.message a.2 a.3 a.4 c.args.number c.args.frame.now a.5 node there
          r.new.desk r.ensures.heap r.ensures.len r.ensures.pairs is).desk.pairs;
    }

pub fill_part-body-requires : goal.fill_part-body-requires
fill_part-body-requires c =
    let a = c.requires.acts in
    let r = c.read_frame in
    let o = c.input_of-part in
    let b = c.bind_message in
    let node = c.index-code-number.result in
    let there = c.index-code-number.is in
    let is = subst (λ ls. map (pair_at r.new.desk.values.items) ls ≡ c.args.frame.now) (c.deref-2.ensures.value ∙ ap (λ v. v.items) c.deref.ensures) r.ensures.read in
    let p = plain_pat o.result.0.now in
    record {
      code = a.4.may.code_is;
      inside = serve_inside c.args.code.now c.args.desk.now a.0 a.1 c.args.channel c.args.message a.2 a.3 a.4 c.args.number c.args.frame.now a.5 node there
          r.new.desk r.ensures.heap r.ensures.len r.ensures.pairs is o.result.2 o.ensures.0 p o.result.1 o.ensures.1;
      desk = (bound_desk c.args.code.now c.args.desk.now a.0 a.1 c.args.channel c.args.message a.2 a.3 a.4 c.args.number c.args.frame.now a.5 node there
          r.new.desk r.ensures.heap r.ensures.len r.ensures.pairs is o.result.2 o.ensures.0 p o.result.1 o.ensures.1
          b.new.desk b.ensures.heap b.ensures.len b.ensures.pairs).desk;
      empty = c.requires.empty;
      room = subst (λ n. n ≤ vec_capacity c.args.room)
          (read_width c.args.code.now c.args.number node (serve_low c.args.code.now c.args.desk.now a.0 a.1 c.args.channel c.args.message a.2 a.3 a.4 c.args.number c.args.frame.now a.5) there
          o.result.2 o.ensures.0 p o.result.1 o.ensures.1) c.requires.room;
    }

pub returns-clause-deed : goal.returns-clause-deed
returns-clause-deed c lists j at own s x =
    let r = c.read_frame in
    let o = c.input_of-part in
    let b = c.bind_message in
    let is = subst (λ ls. map (pair_at r.new.desk.values.items) ls ≡ c.args.frame.now) (c.deref-2.ensures.value ∙ ap (λ v. v.items) c.deref.ensures) r.ensures.read in
    serve_deed c.args.code.now c.args.desk.now lists j c.args.channel c.args.message at own s c.args.number c.args.frame.now x c.index-code-number.result c.index-code-number.is
    r.new.desk r.ensures.heap r.ensures.len r.ensures.pairs is o.result.2 o.ensures.0 (plain_pat o.result.0.now) o.result.1 o.ensures.1
    b.new.desk b.ensures.heap b.ensures.len b.ensures.pairs c.fill_part-body.result b.ensures.binds c.fill_part-body.ensures

pub returns-clause-rest : goal.returns-clause-rest
returns-clause-rest c =
    let a = c.requires.acts in
    let r = c.read_frame in
    let o = c.input_of-part in
    let b = c.bind_message in
    let is = subst (λ ls. map (pair_at r.new.desk.values.items) ls ≡ c.args.frame.now) (c.deref-2.ensures.value ∙ ap (λ v. v.items) c.deref.ensures) r.ensures.read in
    bound_desk c.args.code.now c.args.desk.now a.0 a.1 c.args.channel c.args.message a.2 a.3 a.4 c.args.number c.args.frame.now a.5 c.index-code-number.result c.index-code-number.is
    r.new.desk r.ensures.heap r.ensures.len r.ensures.pairs is o.result.2 o.ensures.0 (plain_pat o.result.0.now) o.result.1 o.ensures.1
    b.new.desk b.ensures.heap b.ensures.len b.ensures.pairs

pub returns-clause-heap : goal.returns-clause-heap
returns-clause-heap c = c.bind_message.ensures.heap ∙ c.read_frame.ensures.heap
