use Rattle.std.proofs.Common.{◌-◌, ◌≤◌, ◌≡◌, ◌++◌, length, replicate, ap, ◌∙◌, arith, rules}
use Rattle.std.specs.Prelude.{is_some, vec_capacity}
use Rattle.std.proofs.lemmas.Fn.{filter_same}
use Rattle.pict_ranked.proofs.Ranks.{closed_ranked, closed_items}
use Rattle.pict_ranked.proofs.ranked.close_up.Goals as goal

pub returns-clause-ranked : goal.returns-clause-ranked
returns-clause-ranked g c =
    let kept = filter_same _ is_some _ (λ x b f k. (search rules, search rules)) _ _ c.retain.ensures.filtered in
    let n : c.len.result ≡ length c.retain.new.self.items = omega (arith, c.len.ensures, c.retain.new.self.ok) in
    let h : length c.retain.new.self.items ≤ length c.args.counts.now = omega (arith, c.retain.ensures.bound, c.requires.used, c.retain.new.self.ok, c.args.slots.now.ok) in
    let w : length c.args.counts.now ≤ vec_capacity c.retain.new.self = omega (arith, c.retain.ensures.capacity, c.requires.capacity) in
    closed_ranked c.args.slots.now.items c.retain.new.self.items (vec_capacity c.retain.new.self) (length c.args.counts.now) c.fill.new.self kept h w
    (c.fill.ensures ∙ ap (λ z. replicate z 1 ++ replicate (length c.args.counts.now - z) 0) n)

pub returns-clause-items : goal.returns-clause-items
returns-clause-items g c =
    let kept = filter_same _ is_some _ (λ x b f k. (search rules, search rules)) _ _ c.retain.ensures.filtered in
    (closed_items c.args.slots.now.items c.retain.new.self.items kept).0

pub returns-clause-used : goal.returns-clause-used
returns-clause-used g c =
    let kept = filter_same _ is_some _ (λ x b f k. (search rules, search rules)) _ _ c.retain.ensures.filtered in
    (closed_items c.args.slots.now.items c.retain.new.self.items kept).1
