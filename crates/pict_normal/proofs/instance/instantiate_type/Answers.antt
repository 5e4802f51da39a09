-- The arguments keep the type well formed, and what was made is the type with them.
use Rattle.std.proofs.Common.{◌≡◌, Some, sym, subst}
use Rattle.std.specs.Prelude.{IfSome}
use Rattle.std.proofs.lemmas.Result.{IfOk-weaker}
use Rattle.pict_normal.specs.declared.puts.Puts.{Puts}
use Rattle.pict_normal.specs.declared.puts.Source.TheVariants.{Arguments as Arguments_}
use Rattle.pict_types.specs.Kinds.{IsWellFormed, kinds}
use Rattle.pict_types.specs.Plain.{plain, plain_args}
use Rattle.pict_types.specs.PlainContext.{names_of, type_context}
use Rattle.pict_types.specs.Replacing.{arguments, replace}
use Rattle.pict_normal.specs.Made.{IsMade}
use Rattle.pict_normal.specs.Putting.{heights_in, replacement_in, weights_in}
use Rattle.pict_normal.specs.Written.{kinds_with}
use Rattle.pict_types.proofs.Formed.{replace_formed}
use Rattle.pict_normal.proofs.Placing.{placed_first}
use Rattle.pict_normal.proofs.Instances.{keep_kinds}
use Rattle.pict_normal.proofs.instance.instantiate_type.Goals as goal

pub made_type-requires : goal.made_type-requires
made_type-requires c =
    let p : Puts = record { source = Arguments_ c.args.args; context = c.args.c } in
    let ns = names_of c.args.c.now in
    let ks = kinds (type_context c.args.c.now) in
    let args = plain_args c.args.args.now in
    record {
      placed = placed_first {p = p} {F = λ js. IsWellFormed ns js (plain c.args.t.now)} c.new-inner.result.items (kinds_with args ks) c.new-inner.ensures.items (keep_kinds ns ks args c.requires.args) c.requires.t;
    }

pub returns-clause-formed : goal.returns-clause-formed
returns-clause-formed c =
    let p : Puts = record { source = Arguments_ c.args.args; context = c.args.c } in
    let ns = names_of c.args.c.now in
    let ks = kinds (type_context c.args.c.now) in
    let args = plain_args c.args.args.now in
    let t = plain c.args.t.now in
    let m = c.in_ok-made_type.field-0 in
    let made = subst (λ ms. IsMade (weights_in p ms) (heights_in p ms) m (replace (replacement_in p ms) t)) c.new-inner.ensures.items c.in_ok-made_type.ensures.made in
    IfOk-weaker c.low.result (λ u. m.ty ≡ Some u) (λ u. IsWellFormed ns ks (plain u))
    (λ u e.
    let is : plain u ≡ replace (arguments args) t = subst (λ o. IfSome o (λ v. plain v ≡ replace (arguments args) t)) e made.made in
    subst (IsWellFormed ns ks) (sym is) (replace_formed ns t (keep_kinds ns ks args c.requires.args) c.requires.t))
    c.low.ensures.ok
