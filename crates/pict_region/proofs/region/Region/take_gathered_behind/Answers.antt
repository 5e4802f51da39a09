use Rattle.std.proofs.Common.{◌≤◌, ◌∷◌, ◌∙◌, ℕ, List, set, sym, ap, subst, arith}
use Rattle.std.specs.Option.{unwrap_or}
use Rattle.std.specs.FinMap.{get, insert}
use Rattle.pict_region.specs.RegionState.{IsLive, words_of, width_of}
use Rattle.pict_region.specs.Values.{gathered}
use Rattle.pict_region.proofs.Uses.{live_or, wide_or}
use Rattle.pict_region.proofs.region.Region.take_gathered_behind.Goals as goal

pub put_word-requires-clause-live : goal.put_word-requires-clause-live
put_word-requires-clause-live c =
    let block = c.cut_gathered-block.result in
    let gains = c.cut_gathered-block.ensures.live in
    let words : List ℕ = gains.first ∷ c.args.word ∷ gathered c.args.values.now c.args.indices.now in
    let live = gains.live ∙ ap (λ s. insert s.live block words) c.self.view_is in
    subst (IsLive c.cut_gathered-block.new.self) (sym (c.unwrap_or-last.ensures ∙ ap (unwrap_or c.args.before) c.name-number.ensures))
    (live_or c.args.self.now.live c.cut_gathered-block.new.self.live block words (ap (λ s. get s.live block) (sym c.self.view_is) ∙ c.cut_gathered-block.ensures.fresh) live c.args.before c.requires.before)

pub put_word-requires-clause-inside : goal.put_word-requires-clause-inside
put_word-requires-clause-inside c =
    let block = c.cut_gathered-block.result in
    let gains = c.cut_gathered-block.ensures.live in
    let words : List ℕ = gains.first ∷ c.args.word ∷ gathered c.args.values.now c.args.indices.now in
    let live = gains.live ∙ ap (λ s. insert s.live block words) c.self.view_is in
    let wide : 1 ≤ width_of c.cut_gathered-block.new.self (unwrap_or c.args.before block) =
    wide_or c.args.self.now.live c.cut_gathered-block.new.self.live block words (ap (λ s. get s.live block) (sym c.self.view_is) ∙ c.cut_gathered-block.ensures.fresh) live c.args.before
    c.requires.before c.requires.linked (omega arith) in
    let same = c.unwrap_or-last.ensures ∙ ap (unwrap_or c.args.before) c.name-number.ensures in
    omega (arith, wide, ap (width_of c.cut_gathered-block.new.self) same)

pub returns-clause-live : goal.returns-clause-live
returns-clause-live c =
    let block = c.cut_gathered-block.result in
    let between = c.cut_gathered-block.new.self in
    let gains = c.cut_gathered-block.ensures.live in
    let words : List ℕ = gains.first ∷ c.args.word ∷ gathered c.args.values.now c.args.indices.now in
    let same = c.unwrap_or-last.ensures ∙ ap (unwrap_or c.args.before) c.name-number.ensures in
    record {
      between = between;
      gains = record { first = gains.first; live = gains.live ∙ ap (λ s. insert s.live block words) c.self.view_is };
      linked = c.put_word.ensures.live
          ∙ ap (λ (n : ℕ). insert between.live n (set (words_of between n) 0 c.name-number.result)) same
          ∙ ap (λ (n : ℕ). insert between.live (unwrap_or c.args.before block) (set (words_of between (unwrap_or c.args.before block)) 0 n)) c.name-number.ensures;
    }
