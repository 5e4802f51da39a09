-- One name more; and all.
use Rattle.std.proofs.Common.{◌∙◌, ap, refl}
use Rattle.pict_types.specs.Plain.{plain}
use Rattle.pict_rules.specs.Environments.{Environment}
use Rattle.pict_infer.specs.Environments.{environment_of, with_value}
use Rattle.pict_infer.proofs.MadeKnown.{grew_twice}
use Rattle.pict_lines.proofs.SignatureEnds.{all_signed, none_signed, one_signed, sign_err, signature_asked, signature_refused}
use Rattle.pict_lines.proofs.Grown.{as_before_grew}
use Rattle.pict_lines.proofs.Kept.{grew_kept}
use Rattle.pict_lines.proofs.signatures.signed.Goals as goal

pub loop-d-init : goal.loop-d-init
loop-d-init c = record {
  so_far = none_signed (environment_of c.args.env.now) c.new-insides.result.items c.new-insides.ensures.items;
  grew = as_before_grew c.args.env.now c.args.env.now (record { known = refl; items = refl });
}

pub signature_for-requires : goal.signature_for-requires
signature_for-requires c = record {
  right = signature_asked (environment_of c.args.env.now) (environment_of c.loop-d.env) c.args.ds.now c.loop-d.d-index c.d-item.result c.loop-d.insides.items c.loop-d-test.true c.d-item.is c.requires.right c.loop-d.invariant.so_far;
}

pub returns-in_err-s : goal.returns-in_err-s
returns-in_err-s c =
    let err = c.in_err-s.field-0.0 in
    sign_err c.args.env.now _ c.args.ds.now c.from_residual.result err c.from_residual.ensures.1
    (signature_refused (environment_of c.args.env.now) (environment_of c.loop-d.env) c.args.ds.now c.loop-d.d-index c.d-item.result c.loop-d.insides.items err c.loop-d-test.true c.d-item.is c.loop-d.invariant.so_far c.in_err-s.ensures.answer)

pub loop-d-preserved : goal.loop-d-preserved
loop-d-preserved c =
    let d = c.d-item.result in
    record {
      so_far = one_signed (environment_of c.args.env.now) (environment_of c.loop-d.env) _ c.args.ds.now c.loop-d.d-index d c.loop-d.insides.items c.push.new.self.items c.in_ok-s.s c.loop-d-test.true c.d-item.is c.loop-d.invariant.so_far c.in_ok-s.ensures.answer
          (c.in_ok-push_value.ensures.known ∙ ap (λ (b : Environment). with_value b d.id (plain c.in_ok-s.s.has)) c.in_ok-s.ensures.same.known) c.in_ok-push.ensures.items;
      grew = grew_twice c.args.env.now c.signature_for.new.env c.push_value.new.self (grew_kept c.args.env.now c.loop-d.env c.signature_for.new.env c.loop-d.invariant.grew c.in_ok-s.ensures.same) c.in_ok-push_value.ensures.grew;
    }

pub returns : goal.returns
returns c = all_signed c.args.env.now c.loop-d.env c.args.ds.now c.loop-d.d-index c.loop-d.insides.items c.loop-d-test.false c.loop-d.invariant.grew c.loop-d.invariant.so_far
