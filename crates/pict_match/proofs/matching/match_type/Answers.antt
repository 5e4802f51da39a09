-- The context is well formed, and what is found hangs on no bound.
use Rattle.std.proofs.Common.{sym, subst}
use Rattle.pict_types.specs.Kinds.{ContextIsWellFormed, IsWellFormed, kinds}
use Rattle.pict_types.specs.Plain.{plain}
use Rattle.pict_types.specs.PlainContext.{names_of, plain_context, type_context}
use Rattle.pict_types.proofs.Contexts.{entries_context}
use Rattle.pict_match.specs.Formed.{IsFormed}
use Rattle.pict_match.proofs.Rebound.{with_bounds}
use Rattle.pict_match.proofs.matching.match_type.Goals as goal

pub match_at-requires : goal.match_at-requires
match_at-requires c =
    let d = c.args.c.now in
    let same = sym c.names.ensures.same in
    let context = entries_context (names_of d) (plain_context d) d.formed in
    record {
      context = subst (λ n. ContextIsWellFormed n (type_context d)) same context;
      wanted = subst (λ n. IsFormed n (plain c.args.wanted.now)) same c.requires.wanted;
      given = subst (λ n. IsWellFormed n (kinds (type_context d)) (plain c.args.given.now)) same c.requires.given;
    }

pub returns : goal.returns
returns c = λ bs. with_bounds (type_context c.args.c.now) 0 (plain c.args.wanted.now) (plain c.args.given.now) c.args.found.now.list.items c.match_at.new.found.list.items bs c.match_at.result c.match_at.ensures
