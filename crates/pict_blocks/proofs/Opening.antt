-- The step of a new channel on the words of blocks.
use Rattle.std.proofs.Common.{ℕ, ◌+◌, ◌-◌, ◌<◌, ◌≡◌, Bool, true, false, cond, nat_lt, List, [], ◌∷◌, length, refl, sym, ap, ◌∙◌, subst, unwrap_or, arith, pos}
use Rattle.std.proofs.lemmas.Bool.Decides.{nat_tests}
use Rattle.std.specs.List.{slice_get}
use Rattle.pict_core.specs.Term.{Val, Chan, Int}
use Rattle.pict_core.specs.Substitution.{replace}
use Rattle.pict_code.specs.Instruction as op
use Rattle.pict_code.specs.Standing.{closing}
use Rattle.pict_code.proofs.Numbering.{PlacedAt, new_placed}
use Rattle.pict_desk.specs.Known.{pair_at, value_in, known}
use Rattle.pict_view.proofs.Rows.{makes_channel}
use Rattle.pict_blocks.specs.Blocks.{process_of}
use Rattle.pict_blocks.specs.Laws.{NewsMakeChannels}
use Rattle.pict_desk.proofs.Variables.{value_in-no_var}
use Rattle.pict_desk.proofs.Parts.{node_with, new_stands, body_stands}
use Rattle.pict_desk.proofs.Nodes.{is_new, op_is}
use Rattle.pict_blocks.proofs.Standing.{stands_as, part_stands}

-- one value more, at the new level
one_more : (n : ℕ) (values later : ℕ → Val) (v : Val) → ((k : ℕ) → k < n → later k ≡ values k) → later n ≡ v
    → (level : ℕ) (b : Bool) → nat_lt level n ≡ b → level < n + 1 → later level ≡ cond b (values level) (unwrap_or (slice_get (v ∷ []) (level - n)) (Int (pos 0)))
one_more n values later v below here level true e low = below level (grind (arith, nat_tests))
one_more n values later v below here level false e low =
    let same : level ≡ n = grind (arith, nat_tests) in
    let first : 0 ≡ level - n = omega arith in
    ap later same ∙ here ∙ ap (λ i. unwrap_or (slice_get (v ∷ []) i) (Int (pos 0))) first

pub news_make_channels : NewsMakeChannels
news_make_channels core h values later number level l node part words part_words b o b_part rest channels below here =
    let s = stands_as core h values number node words b in
    let n = s.part.around in
    let new = is_new number n level l s.part.process (op_is core number node s.part (op.New level l) s.at o) in
    let placed = new_placed core number n new.p (subst (λ x. PlacedAt core number n x) new.is s.at.placed) in
    let before = known h values in
    let after = known h later in
    let low : (k : ℕ) → k < n → after k ≡ before k = λ k less.
    ap (λ (x : ℕ × ℕ). value_in h x.0 x.1) (below k (subst (λ m. k < m) (sym new.level_is) less)) in
    let made : after n ≡ Chan (length channels) = subst (λ m. after m ≡ Chan (length channels)) new.level_is here in
    let body = body_stands n before after (Chan (length channels) ∷ []) 1 refl (λ k. value_in-no_var h (pair_at values k).0 (pair_at values k).1)
    (λ k less. one_more n before after (Chan (length channels)) low made k (nat_lt k n) refl less) new.p in
    makes_channel (List ℕ) (process_of core (value_in h)) words rest channels (replace (closing n before) new.p) part_words
    (s.is ∙ ap (node_with n before) new.is ∙ new_stands n before new.p)
    (part_stands core h later (number + 1) l (n + 1) new.p part part_words new.part_is placed b_part ∙ sym body)
