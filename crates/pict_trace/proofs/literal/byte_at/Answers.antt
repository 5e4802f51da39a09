use Rattle.std.proofs.Common.{length, take, drop, sym, ◌∙◌, ap, inl, inr}
use Rattle.std.proofs.Math.Seq.{take-append_seam}
use Rattle.std.proofs.lemmas.Bool.{false≢true}
use Rattle.pict_syntax.specs.Tokens.{item_bytes}
use Rattle.pict_show.specs.Values.{item_of}
use Rattle.pict_trace.proofs.Strings.{no_byte, no_byte_as_written, no_item_due}
use Rattle.pict_trace.proofs.literal.byte_at.Goals as goal

pub returns-else-is_written-clause-none : goal.returns-else-is_written-clause-none
returns-else-is_written-clause-none c e =
    let i = c.in-Item.ensures in
    let quote = c.args.quote in
    let after = c.args.after.now in
    no_byte_as_written quote i.item after (drop c.in-Item.len after) c.requires i.is i.bytes
    (λ same. false≢true (sym c.if-is_written.false ∙ c.is_written.ensures.1 (ap (λ n. take n after) i.len_is ∙ ap (take (length (item_bytes i.item))) i.bytes ∙ take-append_seam (item_bytes i.item) (drop c.in-Item.len after) ∙ same ∙ ap (λ v. item_bytes (item_of quote v)) (sym i.value_is))))

pub returns-in-Quote : goal.returns-in-Quote
returns-in-Quote c = record {
  some = tt;
  small = tt;
  none = λ e. no_byte c.args.quote c.args.after.now c.requires (no_item_due c.args.quote c.args.after.now c.due_at.result c.requires c.due_at.ensures
      (λ byte len is. elim c.in-Quote.is [ inl a ↦ cc | inr (inl a) ↦ cc | inr (inr (inl a)) ↦ cc | inr (inr (inr a)) ↦ cc ]));
}
