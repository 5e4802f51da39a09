use Rattle.std.proofs.Common.{◌≡◌, length, vec_len, Err, sym, ◌∙◌, ap, subst, arith}
use Rattle.std.specs.Int.{w8}
use Rattle.std.proofs.Math.Facts.{Fits-lt-pow}
use Rattle.pict_object.specs.Heads.{lent, UsesLabels, AreNumbered}
use Rattle.pict_object.proofs.Decoded.{headless, useless}
use Rattle.pict_object.proofs.TableLemmas.{few_labels}
use Rattle.pict_object.proofs.Numbering.{many_lent}
use Rattle.pict_object.proofs.Answering.{behind_head, decoded_as, never_refused, gains}
use Rattle.pict_object.proofs.decoding.decode.Goals as goal

pub check-requires : goal.check-requires
check-requires c =
    let head = c.in_ok-table.ensures.head in
    let table = c.in_ok-table.table in
    let len : vec_len table ≡ length table.items = omega (arith, table.ok.0) in
    record { few = omega (arith, head.few, many_lent table.items, c.len.ensures, len) }

pub returns-in_err-table-clause-refused : goal.returns-in_err-table-clause-refused
returns-in_err-table-clause-refused c e = headless c.args.bytes.now (c.read_table.ensures.refused (let k = rw e at c.from_residual.ensures.1 in c.in_err-table.was ∙ ap Err (sym k)))

pub returns-in_err-check-clause-refused : goal.returns-in_err-check-clause-refused
returns-in_err-check-clause-refused c e =
    let table = c.in_ok-table.table in
    let texts = table.items in
    let len : vec_len table ≡ length texts = omega (arith, table.ok.0) in
    let many : c.len.result ≡ length (lent texts) = c.len.ensures ∙ len ∙ sym (many_lent texts) in
    useless c.args.bytes.now (lent texts) c.in_ok-table.process.now c.in_ok-table.ensures.head
    (λ uses. c.check.ensures.refused (let k = rw e at c.from_residual-in_err-check.ensures.1 in c.in_err-check.was ∙ ap Err (sym k)) (subst (λ n. UsesLabels n c.in_ok-table.process.now) (sym many) uses))

pub number-requires : goal.number-requires
number-requires c =
    let texts = c.in_ok-table.table.items in
    let same = ap length c.deref.ensures.value in
    record { room = omega (arith, c.requires.room, few_labels c.args.bytes.now c.in_ok-table.process.now (lent texts) c.in_ok-table.ensures.head, many_lent texts, same) }

pub returns-in_err-labels-clause-gained : goal.returns-in_err-labels-clause-gained
returns-in_err-labels-clause-gained c =
    let table = c.in_ok-table.table in
    let texts = table.items in
    let rest = c.in_ok-table.process.now in
    let head = c.in_ok-table.ensures.head in
    let len : vec_len table ≡ length texts = omega (arith, table.ok.0) in
    let many : c.len.result ≡ length (lent texts) = c.len.ensures ∙ len ∙ sym (many_lent texts) in
    let used = subst (λ n. UsesLabels n rest) many c.in_ok-check.ensures.ok in
    let fits = behind_head c.args.bytes.now rest (lent texts) (λ i. Fits-lt-pow {w = w8} (c.type_inv.bytes i)) head in
    gains c.args.names.now c.number.new.names texts c.deref.result.now c.args.bytes.now rest c.deref.ensures.value fits head used c.number.ensures.gained

pub returns-clause-gained : goal.returns-clause-gained
returns-clause-gained c =
    let table = c.in_ok-table.table in
    let texts = table.items in
    let rest = c.in_ok-table.process.now in
    let head = c.in_ok-table.ensures.head in
    let len : vec_len table ≡ length texts = omega (arith, table.ok.0) in
    let many : c.len.result ≡ length (lent texts) = c.len.ensures ∙ len ∙ sym (many_lent texts) in
    let used = subst (λ n. UsesLabels n rest) many c.in_ok-check.ensures.ok in
    let fits = behind_head c.args.bytes.now rest (lent texts) (λ i. Fits-lt-pow {w = w8} (c.type_inv.bytes i)) head in
    gains c.args.names.now c.number.new.names texts c.deref.result.now c.args.bytes.now rest c.deref.ensures.value fits head used c.number.ensures.gained

pub returns-clause-object : goal.returns-clause-object
returns-clause-object c =
    let table = c.in_ok-table.table in
    let texts = table.items in
    let rest = c.in_ok-table.process.now in
    let head = c.in_ok-table.ensures.head in
    let len : vec_len table ≡ length texts = omega (arith, table.ok.0) in
    let many : c.len.result ≡ length (lent texts) = c.len.ensures ∙ len ∙ sym (many_lent texts) in
    let used = subst (λ n. UsesLabels n rest) many c.in_ok-check.ensures.ok in
    let fits = behind_head c.args.bytes.now rest (lent texts) (λ i. Fits-lt-pow {w = w8} (c.type_inv.bytes i)) head in
    let labels = c.in_ok-labels.labels.items in
    let numbered = subst (λ xs. AreNumbered c.args.names.now c.number.new.names (lent xs) labels) c.deref.ensures.value c.in_ok-labels.ensures.numbered in
    decoded_as c.args.names.now c.number.new.names (lent texts) labels c.deref-2.result.now c.args.bytes.now rest c.read_whole.result c.deref-2.ensures.value fits head used numbered c.read_whole.ensures

pub returns-clause-refused : goal.returns-clause-refused
returns-clause-refused c e =
    let table = c.in_ok-table.table in
    let texts = table.items in
    let rest = c.in_ok-table.process.now in
    let head = c.in_ok-table.ensures.head in
    let len : vec_len table ≡ length texts = omega (arith, table.ok.0) in
    let many : c.len.result ≡ length (lent texts) = c.len.ensures ∙ len ∙ sym (many_lent texts) in
    let used = subst (λ n. UsesLabels n rest) many c.in_ok-check.ensures.ok in
    let fits = behind_head c.args.bytes.now rest (lent texts) (λ i. Fits-lt-pow {w = w8} (c.type_inv.bytes i)) head in
    let labels = c.in_ok-labels.labels.items in
    let numbered = subst (λ xs. AreNumbered c.args.names.now c.number.new.names (lent xs) labels) c.deref.ensures.value c.in_ok-labels.ensures.numbered in
    absurd (never_refused c.args.names.now c.number.new.names (lent texts) labels c.deref-2.result.now c.args.bytes.now rest c.read_whole.result c.deref-2.ensures.value fits head used numbered c.read_whole.ensures e)

pub returns-clause-unchanged : goal.returns-clause-unchanged
returns-clause-unchanged c e =
    let table = c.in_ok-table.table in
    let texts = table.items in
    let rest = c.in_ok-table.process.now in
    let head = c.in_ok-table.ensures.head in
    let len : vec_len table ≡ length texts = omega (arith, table.ok.0) in
    let many : c.len.result ≡ length (lent texts) = c.len.ensures ∙ len ∙ sym (many_lent texts) in
    let used = subst (λ n. UsesLabels n rest) many c.in_ok-check.ensures.ok in
    let fits = behind_head c.args.bytes.now rest (lent texts) (λ i. Fits-lt-pow {w = w8} (c.type_inv.bytes i)) head in
    let labels = c.in_ok-labels.labels.items in
    let numbered = subst (λ xs. AreNumbered c.args.names.now c.number.new.names (lent xs) labels) c.deref.ensures.value c.in_ok-labels.ensures.numbered in
    absurd (never_refused c.args.names.now c.number.new.names (lent texts) labels c.deref-2.result.now c.args.bytes.now rest c.read_whole.result c.deref-2.ensures.value fits head used numbered c.read_whole.ensures e)
