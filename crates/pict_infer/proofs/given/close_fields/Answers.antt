-- What was taken back are the own type variables, and what is left is what was known before them.
use Rattle.std.proofs.Common.{refl}
use Rattle.pict_infer.proofs.MadeGiven.{closed_answer, own_within, still_placed}
use Rattle.pict_infer.proofs.given.close_fields.Goals as goal

pub invariant_of-env : goal.invariant_of-env
invariant_of-env c = record {
  named = c.args.env.now.named;
  placed = still_placed c.args.to c.args.env.now c.taken.new.c c.taken.result c.requires.opened c.taken.ensures.taken c.taken.ensures.left c.taken.ensures.err;
}

pub under-requires : goal.under-requires
under-requires c = record {
  base = own_within c.args.to c.args.env.now c.taken.new.c c.in_ok-own.own.items c.args.adds c.requires.opened c.requires.may c.in_ok-own.ensures.taken c.in_ok-own.ensures.left;
}

pub returns : goal.returns
returns c =
    closed_answer c.args.to c.args.env.now _ c.in_ok-own.own.items c.args.adds c.under.result c.in_ok-own.ensures.taken c.in_ok-own.ensures.left c.taken.ensures.names refl c.requires.may c.under.ensures.base c.under.ensures.under
