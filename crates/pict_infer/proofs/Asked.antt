-- What is asked of a part is well asked, where the whole is.
use Rattle.pict_rules.specs.Environments.{Environment}
use Rattle.pict_rules.specs.Rules.{Sort, Judgement}
use Rattle.pict_rules.specs.Typing.{rule}
use Rattle.pict_rules.specs.Reached.{Asks}
use Rattle.pict_rules.proofs.RegularAll.{asked_right}
use Rattle.pict_infer.specs.Asking.{IsWellAsked}

pub asked_of : {s t : Sort} {e d : Environment} (j : Judgement s) {i : Judgement t} → IsWellAsked s e j → Asks s (rule e j) t d i → IsWellAsked t d i
asked_of j h a = let x = asked_right j h.labels h.regular h.asked a in record { labels = x.0; regular = x.1.0; asked = x.1.1 }
