use Rattle.std.proofs.Common.{ℕ, suc, List, [], ◌∷◌, ◌++◌, length, map, refl, ap, ◌∙◌}
use Rattle.pict_core.specs.Term.{Zero}
use Rattle.pict_queue.specs.Contents.{contents}
use Rattle.pict_desk.specs.Known.{known}
use Rattle.pict_desk.proofs.Making.{keeps_more}
use Rattle.pict_turns.proofs.Rows.{levels_keep}
use Rattle.pict_turns.proofs.Views.{frame_held}
use Rattle.pict_sites.proofs.passing.put_parts.Goals as goal

pub returns : goal.returns
returns c =
    let s = c.args.store.now in
    let one = c.make_part-part.ensures.part in
    let other = c.make_part-other.ensures.part in
    let mid = c.make_part-part.new.desk in
    let last = c.make_part-other.new.desk in
    let known_is = ap (λ (vs : List (ℕ × ℕ)). map (known mid.heap vs) c.args.second.now) one.values ∙ levels_keep Zero s.desk.heap mid.heap one.keeps s.desk.values.items c.requires.pairs c.args.second.now in
    record {
      held = one.held;
      holds = frame_held mid.heap last.heap other.keeps (known s.desk.heap s.desk.values.items) c.args.first.now one.held one.holds;
      other_held = other.held;
      other_holds = record { values = other.holds.values ∙ known_is; narrow = other.holds.narrow; wide = other.holds.wide };
      front = c.push_front.ensures.pushed ∙ ap (λ (ws : List ℕ). ws ∷ contents c.make_part-part.new.queues 0) one.made.here
          ∙ ap (λ (ws : List (List ℕ)). (suc c.args.left ∷ one.held) ∷ ws) (one.made.contents 0);
      others = λ queue apart. c.push_front.ensures.other_contents queue apart ∙ one.made.contents queue;
      queues = c.push_front.ensures.rest.queues ∙ ap length one.made.queues;
      gains = record {
        last = c.push_back.ensures.pushed ∙ ap (λ (ws : List ℕ). contents c.make_part-other.new.queues 0 ++ ws ∷ []) other.made.here
            ∙ ap (λ (ws : List (List ℕ)). ws ++ (suc c.args.right ∷ other.held) ∷ []) (other.made.contents 0);
        others = λ queue apart. c.push_back.ensures.other_contents queue apart ∙ other.made.contents queue;
        queues = c.push_back.ensures.rest.queues ∙ ap length other.made.queues;
      };
      keeps = keeps_more s.desk.heap mid.heap last.heap one.keeps other.keeps;
      values = other.values ∙ one.values;
      turn = c.set.ensures;
    }
