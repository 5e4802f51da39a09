-- The number that is read is that of the entry.
use Rattle.std.proofs.Common.{◌≡◌, ℕ, ◌+◌, ◌-◌, ◌∙◌, ◌<◌, ◌≤◌, List, length, get_or, reverse, ap, arith}
use Rattle.pict_types.specs.declared.context.Context.{Context}
use Rattle.pict_types.specs.Entries.{variables}
use Rattle.pict_types.specs.Counting.{variables_inside}
use Rattle.pict_types.specs.PlainContext.{plain_context}
use Rattle.pict_types.proofs.Counting.{count_around, count_at}
use Rattle.pict_types.proofs.Entries.{count_known}
use Rattle.pict_types.proofs.context.Context.variables_inside.Goals as goal

around_entries : (c : Context) (xs : List ℕ) → xs ≡ c.around.items → length xs ≡ length (plain_context c)
around_entries c xs e = count_around xs (plain_context c) (ap reverse e ∙ c.counted)

number_read : (c : Context) (xs : List ℕ) (i : ℕ) → xs ≡ c.around.items → 0 < i → i ≤ length (plain_context c) → variables_inside i (plain_context c) + get_or xs (length xs - i) 0 ≡ length (variables (plain_context c))
number_read c xs i e p q =
    let l = around_entries c xs e in
    count_at xs (plain_context c) i 0 (ap reverse e ∙ c.counted) p (omega arith)

pub overflow_sub-outer : goal.overflow_sub-outer
overflow_sub-outer c =
    omega (arith, around_entries c.args.self.now c.as_slice-around.result.now c.as_slice-around.ensures.value, c.requires.entries)

pub bounds-around-around : goal.bounds-around-around
bounds-around-around c =
    omega (arith, around_entries c.args.self.now c.as_slice-around.result.now c.as_slice-around.ensures.value, c.requires.entries, c.if-i-eq0.false)

pub overflow_sub-result : goal.overflow_sub-result
overflow_sub-result c =
    let s = c.args.self.now in
    let n = count_known s.known.items (plain_context s) s.placed in
    let m : length c.as_slice.result.now ≡ length s.known.items = ap length c.as_slice.ensures.value in
    omega (arith, number_read s c.as_slice-around.result.now c.args.i c.as_slice-around.ensures.value (omega (arith, c.if-i-eq0.false)) c.requires.entries, n, m)

pub overflow_cast-result : goal.overflow_cast-result
overflow_cast-result c =
    let s = c.args.self.now in
    let n = count_known s.known.items (plain_context s) s.placed in
    let m : length c.as_slice.result.now ≡ length s.known.items = ap length c.as_slice.ensures.value in
    let f = s.few in
    omega (arith, n, m, f)

pub returns : goal.returns
returns c =
    let s = c.args.self.now in
    let n = count_known s.known.items (plain_context s) s.placed in
    let m : length c.as_slice.result.now ≡ length s.known.items = ap length c.as_slice.ensures.value in
    omega (arith, number_read s c.as_slice-around.result.now c.args.i c.as_slice-around.ensures.value (omega (arith, c.if-i-eq0.false)) c.requires.entries, n, m)
