use Rattle.std.proofs.Common.{◌++◌, ◌∷◌, [], refl, sym, ap, ◌∙◌, subst, Ok}
use Rattle.pict_desk.specs.Code.{core_in}
use Rattle.pict_turns.proofs.Outputs.{word_is, pair_value}
use Rattle.pict_turns.specs.Reserving.{OnlyReserves}
use Rattle.pict_turns.proofs.Room.{reserves_nothing}
use Rattle.pict_desk.proofs.MakingRoom.{keeps_words}
use Rattle.pict_sites.proofs.Calls.{still_called, called_working, called_next, reserved_working, reserved_stand}
use Rattle.pict_sites.proofs.sites.Sites.call.Goals as goal

pub returns-in_err-reserve-clause-working : goal.returns-in_err-reserve-clause-working
returns-in_err-reserve-clause-working c =
    let n = c.args.self.now in
    reserved_working (core_in c.args.code.now) n _ c.requires.working (reserves_nothing n.store) refl refl refl c.reserve.ensures.items

pub returns-in_err-reserve-clause-called : goal.returns-in_err-reserve-clause-called
returns-in_err-reserve-clause-called c =
    let n = c.args.self.now in
    let core = core_in c.args.code.now in
    still_called core n _ c.args.most c.from_residual.result c.from_residual.ensures.0
    (reserved_stand core n _ c.requires.working (reserves_nothing n.store) refl refl refl c.reserve.ensures.items)

pub returns-in_err-channel-clause-working : goal.returns-in_err-channel-clause-working
returns-in_err-channel-clause-working c =
    reserved_working (core_in c.args.code.now) c.args.self.now _ c.requires.working c.in_err-channel.ensures.refused refl refl refl c.reserve.ensures.items

pub returns-in_err-channel-clause-called : goal.returns-in_err-channel-clause-called
returns-in_err-channel-clause-called c =
    let n = c.args.self.now in
    let core = core_in c.args.code.now in
    still_called core n _ c.args.most c.from_residual-in_err-channel.result c.from_residual-in_err-channel.ensures.0
    (reserved_stand core n _ c.requires.working c.in_err-channel.ensures.refused refl refl refl c.reserve.ensures.items)

pub returns-in_err-channel-clause-keeps : goal.returns-in_err-channel-clause-keeps
returns-in_err-channel-clause-keeps c = keeps_words _ _ c.in_err-channel.ensures.refused.heap

pub word_at-requires : goal.word_at-requires
word_at-requires c =
    let m = (c.call_at_once.ensures.called c.in-Some.field-0 (c.in_ok-channel.was ∙ ap Ok c.in-Some.is)).1 in
    (m.pair.word, m.pair.fits, m.pair.packs)

pub returns-in-Ok-clause-working : goal.returns-in-Ok-clause-working
returns-in-Ok-clause-working c =
    let n = c.args.self.now in
    let r = c.in-Some.field-0 in
    let m = (c.call_at_once.ensures.called r (c.in_ok-channel.was ∙ ap Ok c.in-Some.is)).1 in
    called_working (core_in c.args.code.now) n _ c.requires.working c.requires.one c.requires.none r m refl refl refl (c.in-Ok.ensures.items ∙ ap (λ hs. hs ++ 0 ∷ []) c.reserve.ensures.items)

pub returns-in-Ok-clause-keeps : goal.returns-in-Ok-clause-keeps
returns-in-Ok-clause-keeps c = (c.call_at_once.ensures.called c.in-Some.field-0 (c.in_ok-channel.was ∙ ap Ok c.in-Some.is)).1.keeps

pub returns-in-Ok-clause-called : goal.returns-in-Ok-clause-called
returns-in-Ok-clause-called c =
    let n = c.args.self.now in
    let r = c.in-Some.field-0 in
    let h = c.call_at_once.new.store.desk.heap in
    let five = c.call_at_once.ensures.called r (c.in_ok-channel.was ∙ ap Ok c.in-Some.is) in
    let m = five.1 in
    let word = c.word_at.result in (
      five.0,
      word_is h r.value m.pair word c.word_at.ensures,
      λ N g st.
          called_next (core_in c.args.code.now) n _ c.requires.working c.requires.one c.requires.none r m refl refl refl (c.in-Ok.ensures.items ∙ ap (λ hs. hs ++ 0 ∷ []) c.reserve.ensures.items) N st g
          word (sym (pair_value h r.value m.pair word c.word_at.ensures)),
    )

pub returns-in-None-clause-working : goal.returns-in-None-clause-working
returns-in-None-clause-working c =
    let n = c.args.self.now in
    let same = c.call_at_once.ensures.none (c.in_ok-channel.was ∙ ap Ok c.in-None.is) in
    reserved_working (core_in c.args.code.now) n _ c.requires.working (subst (OnlyReserves n.store) (sym same) (reserves_nothing n.store)) refl refl refl c.reserve.ensures.items

pub returns-in-None-clause-called : goal.returns-in-None-clause-called
returns-in-None-clause-called c =
    let n = c.args.self.now in
    let same = c.call_at_once.ensures.none (c.in_ok-channel.was ∙ ap Ok c.in-None.is) in
    reserved_stand (core_in c.args.code.now) n _ c.requires.working (subst (OnlyReserves n.store) (sym same) (reserves_nothing n.store)) refl refl refl c.reserve.ensures.items
