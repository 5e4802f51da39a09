use Rattle.pict_sub.proofs.subtyping.is_subtype.Given as goal

abbrev pub ghosts-subtype_from : goal.ghosts-subtype_from
ghosts-subtype_from a = record { name = a.blank.name; parts = a.blank.parts }
