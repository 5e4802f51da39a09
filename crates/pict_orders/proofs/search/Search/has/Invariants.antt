use Rattle.pict_orders.proofs.search.Search.has.Given as goal

abbrev pub invariant-loop : goal.invariant-loop
invariant-loop l = Unit {0}
