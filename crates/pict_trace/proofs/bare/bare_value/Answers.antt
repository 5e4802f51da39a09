use Rattle.std.proofs.Common.{◌≡◌, ◌≢◌, ◌∷◌, Bool, sym, ◌∙◌, ap, rules}
use Rattle.pict_syntax.specs.declared.primitive.Primitive.{Primitive}
use Rattle.pict_show.specs.Values.{truth_text}
use Rattle.pict_syntax.specs.Primitives.{primitive_text}
use Rattle.pict_trace.proofs.Bares.{no_bare, letter_no_number}
use Rattle.pict_trace.proofs.Unique.{tail}
use Rattle.pict_trace.proofs.bare.bare_value.Goals as goal

pub returns-in-Some-behind-clause-none : goal.returns-in-Some-behind-clause-none
returns-in-Some-behind-clause-none c e =
    let word = c.args.word.now in
    let is : word ≡ 99 ∷ c.in-Some-behind.digits.now = c.in-Some-behind.ensures.some in
    let no_truth : (b : Bool) → word ≢ truth_text b = search rules in
    let no_primitive : (p : Primitive) → word ≢ primitive_text p = search rules in
    no_bare word no_truth no_primitive (λ n few f. c.channel_of.ensures.none e n few (ap tail (sym is ∙ f))) (λ n fits f. letter_no_number c.in-Some-behind.digits.now n fits (sym is ∙ f))
