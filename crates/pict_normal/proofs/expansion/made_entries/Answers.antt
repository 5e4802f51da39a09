-- The entries of the context keep the kinds of the type.
use Rattle.std.proofs.Common.{subst}
use Rattle.std.specs.Prelude.{IfErr, IfOk}
use Rattle.pict_normal.specs.declared.puts.Puts.{Puts}
use Rattle.pict_normal.specs.declared.puts.Source.TheVariants.{Entries as Entries_}
use Rattle.pict_types.specs.Kinds.{IsWellFormed}
use Rattle.pict_normal.specs.Made.{IsMade, IsReason}
use Rattle.pict_types.specs.Measures.{weigh}
use Rattle.pict_normal.specs.Meanings.{entry_kinds}
use Rattle.pict_types.specs.Plain.{plain}
use Rattle.pict_types.specs.PlainContext.{names_of, plain_context}
use Rattle.pict_normal.specs.Putting.{heights_in, replacement_in, weights_in}
use Rattle.pict_types.specs.Replacing.{replace}
use Rattle.pict_normal.proofs.Expanded.{meanings_keep}
use Rattle.pict_normal.proofs.Placing.{placed_first}
use Rattle.pict_normal.proofs.expansion.made_entries.Goals as goal

pub made_type-requires : goal.made_type-requires
made_type-requires c =
    let p : Puts = record { source = Entries_; context = c.args.c } in
    let ns = names_of c.args.c.now in
    let d = plain_context c.args.c.now in
    record {
      placed = placed_first {p = p} {F = λ ks. IsWellFormed ns ks (plain c.args.t.now)} c.new-inner.result.items (entry_kinds d) c.new-inner.ensures.items (meanings_keep ns d c.args.c.now.formed) c.requires.formed;
    }

pub returns-clause-made : goal.returns-clause-made
returns-clause-made c =
    let p : Puts = record { source = Entries_; context = c.args.c } in
    subst (λ ms. IfOk c.made_type.result (λ m. IsMade (weights_in p ms) (heights_in p ms) m (replace (replacement_in p ms) (plain c.args.t.now)))) c.new-inner.ensures.items c.made_type.ensures.made

pub returns-clause-reason : goal.returns-clause-reason
returns-clause-reason c =
    let p : Puts = record { source = Entries_; context = c.args.c } in
    subst (λ ms. IfErr c.made_type.result (λ e. IsReason (weigh (weights_in p ms) (replace (replacement_in p ms) (plain c.args.t.now))) e)) c.new-inner.ensures.items c.made_type.ensures.reason
