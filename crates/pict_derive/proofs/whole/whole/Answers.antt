-- The declarations around the inert process, from nothing.
use Rattle.std.proofs.Common.{◌∙◌, [], sym, refl}
use Rattle.pict_syntax.specs.PlainTrees.{declarations_of}
use Rattle.pict_translation.specs.Placed.{inert}
use Rattle.pict_translation.specs.Translation.{decs_core}
use Rattle.pict_derive.specs.Built.{place}
use Rattle.pict_derive.proofs.whole.whole.Goals as goal

pub returns : goal.returns
returns c =
    c.in_ok-around.ensures inert refl
    ∙ sym (rw (c.deref.ensures.value, c.new-scope.ensures) at (c.in_ok-decs.ensures.core (λ e. inert)))
    ∙ c.new-outer.ensures.core (decs_core (place c.args.names.now []) (declarations_of c.args.program.now) (λ e. inert))
