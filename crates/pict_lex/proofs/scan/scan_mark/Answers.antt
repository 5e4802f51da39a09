use Rattle.std.proofs.Common.{refl, inl}
use Rattle.pict_lex.proofs.FrontLemmas.{mark_token, nothing_begins}
use Rattle.pict_lex.proofs.scan.scan_mark.Goals as goal

pub returns-in-Some-mark_of_one-clause-piece : goal.returns-in-Some-mark_of_one-clause-piece
returns-in-Some-mark_of_one-clause-piece c =
    mark_token c.args.rest.now c.in-Some-mark_of_one.mark c.requires c.in_default.ensures.none c.in-Some-mark_of_one.ensures.found

pub returns-in-None-clause-halt : goal.returns-in-None-clause-halt
returns-in-None-clause-halt c = inl (nothing_begins c.args.rest.now c.requires c.in_default.ensures.none c.in-None.ensures.none, refl)
