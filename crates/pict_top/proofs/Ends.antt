-- What is said of an answer that is an error.
use Rattle.std.proofs.Common.{◌≡◌, Result, Err, OnErr, subst}

pub at_err : {T E P : Type 0} {r : Result T E} {e : E} → r ≡ Err e → OnErr r P → P
at_err {P = P} is h = subst (λ r. OnErr r P) is h
