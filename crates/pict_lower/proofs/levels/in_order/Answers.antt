use Rattle.std.proofs.Common.{ap, ◌∙◌, sym, subst}
use Rattle.std.proofs.lemmas.List.Filters.{dedup_is}
use Rattle.std.proofs.lemmas.Map.Keys.{IsStrictlyIncreasing-dedup}
use Rattle.pict_code.specs.Levels.{has, Rises}
use Rattle.pict_lower.proofs.Ordered.{rises, has_permuted, has_deduped}
use Rattle.pict_lower.proofs.levels.in_order.Goals as goal

pub returns : goal.returns
returns c =
    let is = dedup_is _ _ _ c.dedup.ensures.filtered in
    record {
      rises = subst (Rises 0) (sym is) (rises _ (IsStrictlyIncreasing-dedup _ c.sort_unstable.ensures.sorted));
      same = λ level. ap (has level) is ∙ has_deduped level _ ∙ has_permuted level _ _ c.sort_unstable.ensures.permutation;
    }
