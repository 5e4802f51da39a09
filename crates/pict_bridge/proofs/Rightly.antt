-- What the rules reach is rightly asked, and what they give is well formed.
use Rattle.std.proofs.Common.{◌≡◌, ℕ, List, None}
use Rattle.pict_syntax.specs.Trees.{Decs}
use Rattle.pict_scope.specs.Scopes.{scope_stop}
use Rattle.pict_rules.specs.Environments.{Environment}
use Rattle.pict_rules.specs.Rules.{Sort, Result, Judgement}
use Rattle.pict_rules.specs.Derivations.{Holds}
use Rattle.pict_rules.specs.Reached.{Reached}
use Rattle.pict_rules.specs.Regular.{IsLabelledOnce, IsRegular, IsAsked, IsGood}
use Rattle.pict_rules.proofs.RegularAll.{regularity, reached_regular}

module _ {names : List (List ℕ)} {program : Decs} {s : Sort} {e : Environment} {j : Judgement s} where
  pub rightly : scope_stop names program ≡ None → Reached names program s e j → IsLabelledOnce j × (IsRegular e × IsAsked e j)
  rightly clean r = reached_regular names program s e j clean r

  pub well : (x : Result s) → scope_stop names program ≡ None → Reached names program s e j → Holds e j x → IsGood e j x
  well x clean r d = let k = rightly clean r in regularity s e j x k.0 k.1.0 k.1.1 d
