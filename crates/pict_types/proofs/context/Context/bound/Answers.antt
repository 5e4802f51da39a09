-- The entry that is read is that of the variable.
use Rattle.std.proofs.Common.{◌≡◌, ℕ, ◌<◌, ◌-◌, ◌∙◌, sym, ap, List, length, get_or, map, reverse, Some, arith}
use Rattle.std.specs.Prelude.{slice_get}
use Rattle.pict_types.specs.declared.context.Context.{Context}
use Rattle.pict_types.specs.declared.context.Entry.{Entry}
use Rattle.pict_types.specs.declared.context.What.TheVariants.{Definition as Definition_}
use Rattle.pict_types.specs.declared.measure.Known.{Known}
use Rattle.pict_types.specs.Plain.{plain_bound}
use Rattle.pict_types.specs.Entries.{Variable, variables, places}
use Rattle.pict_types.specs.PlainEntries.{plain_entries, plain_what}
use Rattle.pict_types.specs.PlainContext.{plain_context}
use Rattle.pict_types.proofs.Entries.{StandsAt, count_known, stands_at, entry_inside, entry_is}
use Rattle.pict_types.proofs.context.Context.bound.Goals as goal

pub returns-then-i-known-clause-none : goal.returns-then-i-known-clause-none
returns-then-i-known-clause-none c =
    let n = count_known c.args.self.now.known.items (plain_context c.args.self.now) c.args.self.now.placed in
    let m : length c.as_slice-known.result.now ≡ length c.args.self.now.known.items = ap length c.as_slice-known.ensures.value in
    omega (arith, n, m)

-- the entry that the code reads stands for the variable
stands_there : (c : Context) (ks : List Known) (es : List Entry) (i : ℕ) (d : Known) → ks ≡ c.known.items → es ≡ c.entries.items → i < length ks → StandsAt (plain_entries es) i (get_or ks (length ks - 1 - i) d).place
stands_there c ks es i d p q h =
    stands_at ks es i d (ap (λ x. reverse (map (λ k. k.place) x)) p ∙ c.placed ∙ ap (λ x. places (plain_entries x)) (sym q)) h

pub bounds-entries-place : goal.bounds-entries-place
bounds-entries-place c =
    let s = stands_there c.args.self.now c.as_slice-known.result.now c.as_slice-entries.result.now c.args.i _ c.as_slice-known.ensures.value c.as_slice-entries.ensures.value c.if-i-known.false in
    entry_inside c.as_slice-entries.result.now c.args.i _ s

pub offset_bounds-entries-place : goal.offset_bounds-entries-place
offset_bounds-entries-place c =
    let s = stands_there c.args.self.now c.as_slice-known.result.now c.as_slice-entries.result.now c.args.i (record { place = 0; measures = record { weight = 0; height = 0 } }) c.as_slice-known.ensures.value c.as_slice-entries.ensures.value c.if-i-known.false in
    let h = entry_inside c.as_slice-entries.result.now c.args.i _ s in
    omega (arith, h, c.as_slice-entries.type_inv.1)

pub unreachable-requires : goal.unreachable-requires
unreachable-requires c =
    let s = stands_there c.args.self.now c.as_slice-known.result.now c.as_slice-entries.result.now c.args.i (record { place = 0; measures = record { weight = 0; height = 0 } }) c.as_slice-known.ensures.value c.as_slice-entries.ensures.value c.if-i-known.false in
    let is : plain_what (Definition_ c.in-Definition.field-0) ≡ Variable s.bound = ap plain_what (sym c.in-Definition.is) ∙ entry_is c.as_slice-entries.result.now c.args.i _ _ s in
    cc

pub returns-clause-some : goal.returns-clause-some
returns-clause-some c =
    let s = stands_there c.args.self.now c.as_slice-known.result.now c.as_slice-entries.result.now c.args.i (record { place = 0; measures = record { weight = 0; height = 0 } }) c.as_slice-known.ensures.value c.as_slice-entries.ensures.value c.if-i-known.false in
    let is : Variable (plain_bound c.in-Variable.bound) ≡ Variable s.bound = ap plain_what (sym c.in-Variable.is) ∙ entry_is c.as_slice-entries.result.now c.args.i _ _ s in
    let e : s.bound ≡ plain_bound c.in-Variable.bound = cc in
    ap (λ x. slice_get (variables (plain_entries x)) c.args.i) (sym c.as_slice-entries.ensures.value) ∙ s.known ∙ ap Some e
