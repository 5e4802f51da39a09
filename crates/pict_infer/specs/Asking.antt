-- What the rules are asked: of what is well formed and has no label twice, in a regular environment.
use Rattle.pict_rules.specs.Environments.{Environment}
use Rattle.pict_rules.specs.Rules.{Sort, Judgement}
use Rattle.pict_rules.specs.Regular.{IsLabelledOnce, IsRegular, IsAsked}

pub record IsWellAsked (s : Sort) (e : Environment) (j : Judgement s) : Type 0 where
  pub labels : IsLabelledOnce j
  pub regular : IsRegular e
  pub asked : IsAsked e j
