use Rattle.pict_sub.proofs.equality.equal.Given as goal

abbrev pub ghosts-equal_from : goal.ghosts-equal_from
ghosts-equal_from a = record { name = a.blank.name; parts = a.blank.parts }
