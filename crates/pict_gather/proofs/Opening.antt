-- The first text, and the names and declarations before anything is visited.
use Rattle.std.proofs.Common.{◌≡◌, ℕ, ◌+◌, ◌≤◌, List, [], length, Option, Some, None, Err, IfSome, IfOk, sym, ap, subst, ◌∙◌, arith}
use Rattle.std.specs.Borrow.{Bor}
use Rattle.std.specs.Prelude.{Result, codes, unwrap_or}
use Rattle.pict_syntax.specs.declared.limits.TheConstants.{TEXT_LIMIT}
use Rattle.pict_syntax.specs.declared.source.Source.{Source}
use Rattle.pict_syntax.specs.declared.tree.Program.{Program as RProgram}
use Rattle.pict_syntax.specs.PlainTrees.{decs_on, program_of}
use Rattle.pict_syntax.specs.Trees.{no_decs}
use Rattle.pict_syntax.proofs.DeclarationLists.{decs_none}
use Rattle.pict_gather.specs.declared.error.ReadError.{ReadError}
use Rattle.pict_gather.specs.declared.error.ReadError.TheVariants as read
use Rattle.pict_gather.specs.declared.gathering.Gathering.{Gathering}
use Rattle.pict_gather.specs.Phases.{accepts}
use Rattle.pict_gather.specs.Reading.{Reads}
use Rattle.pict_gather.specs.Gathered.{with_source}
use Rattle.pict_gather.specs.Reached.{first_source}
use Rattle.pict_gather.specs.Answers.{read_said}
use Rattle.pict_gather.specs.Entry.{lent, IsOpened, IsUnopened}
use Rattle.pict_gather.proofs.Beginning.{last_is}

module _ (prelude : Option (Bor (List ℕ))) where
  -- ---- the first text

  pub first_none : {T E : Type 0} (r : Result T E) (old new : List Source) (name : List ℕ) → prelude ≡ None → old ≡ [] → name ≡ codes "prelude" → IfOk r (λ _. new ≡ with_source old name [])
      → IfOk r (λ _. new ≡ first_source (unwrap_or (lent prelude) []))
  first_none r old new name is empty named h =
      subst (λ p. IfOk r (λ _. new ≡ first_source (unwrap_or (lent p) []))) (sym is)
      (subst (λ l. IfOk r (λ _. new ≡ with_source l (codes "prelude") [])) empty (subst (λ n. IfOk r (λ _. new ≡ with_source old n [])) named h))

  pub first_some : (text : Bor (List ℕ)) (old new : List Source) (name kept : List ℕ) → prelude ≡ Some text → old ≡ [] → name ≡ codes "prelude" → kept ≡ text.now → new ≡ with_source old name kept
      → new ≡ first_source (unwrap_or (lent prelude) [])
  first_some text old new name kept is empty named same h =
      subst (λ p. new ≡ first_source (unwrap_or (lent p) [])) (sym is)
      (last_is new old name (codes "prelude") kept text.now h named same ∙ ap (λ l. with_source l (codes "prelude") text.now) empty)

  -- ---- what was read

  pub opened_none : (g : Gathering) → prelude ≡ None → g.names ≡ [] → g.ended.items ≡ [] → g.decs.items ≡ [] → g.left ≡ TEXT_LIMIT → IsOpened (lent prelude) g
  opened_none g is names ended decs left =
      let none : length g.names ≡ 0 = ap length names in
      let here : IsOpened None g = record { ended = ended; left = left; few = omega (arith, none); first = (names, ap (decs_on no_decs) decs ∙ decs_none no_decs) } in
      subst (λ p. IsOpened (lent p) g) (sym is) here

  pub opened_some : (text : Bor (List ℕ)) (g : Gathering) (p : RProgram) (old : List (List ℕ)) → prelude ≡ Some text → old ≡ [] → Reads old 0 text.now (accepts (record { names = g.names; program = program_of p }))
      → length text.now ≤ TEXT_LIMIT → length g.names ≤ length old + length text.now → g.ended.items ≡ [] → g.decs.items ≡ p.decs.items → g.left ≡ TEXT_LIMIT → IsOpened (lent prelude) g
  opened_some text g p old is none reads short bound ended decs left =
      let none_yet : length old ≡ 0 = ap length none in
      let here : IsOpened (Some text.now) g = record {
        ended = ended;
        left = left;
        few = omega (arith, none_yet, short, bound);
        first = (
          p.imports.items,
          subst (λ ds. Reads [] 0 text.now (accepts (record { names = g.names; program = record { imports = p.imports.items; decs = decs_on no_decs ds } }))) (sym decs)
              (subst (λ ns. Reads ns 0 text.now (accepts (record { names = g.names; program = program_of p }))) none reads),
        );
      } in
      subst (λ p. IsOpened (lent p) g) (sym is) here

  pub unopened_some : (text : Bor (List ℕ)) (old new : List (List ℕ)) (e : ReadError) → prelude ≡ Some text → old ≡ [] → IfSome (read_said new (Err e)) (Reads old 0 text.now) → IsUnopened (lent prelude) e
  unopened_some text old new e is none h = subst (λ p. IsUnopened (lent p) e) (sym is) (here e (subst (λ ns. IfSome (read_said new (Err e)) (Reads ns 0 text.now)) none h))
    where
      here : (e : ReadError) → IfSome (read_said new (Err e)) (Reads [] 0 text.now) → IsUnopened (Some text.now) e
      here (read.Named code span) reads = reads
      here read.Memory reads = tt
