use Rattle.std.proofs.Common.{◌++◌, map, ◌∙◌, ap}
use Rattle.pict_syntax.specs.Tokens.{items_bytes}
use Rattle.pict_show.specs.Values.{item_of}
use Rattle.pict_trace.proofs.Strings.{must_step, string_bad, bytes_more, are_more}
use Rattle.pict_trace.proofs.literal.string_bytes.Goals as goal

pub items-preserved : goal.items-preserved
items-preserved c =
    let byte = c.in-Some-byte_at.byte in
    record {
      sofar = c.items.invariant.sofar ∙ bytes_more c.items.bytes.items c.push.new.self.items byte c.items.rest.now c.in-Some-byte_at.more.now c.in_ok-push-in-Some-byte_at.ensures.items c.in-Some-byte_at.ensures.some;
      are = are_more c.items.bytes.items c.push.new.self.items byte c.in_ok-push-in-Some-byte_at.ensures.items c.items.invariant.are c.in-Some-byte_at.ensures.small;
      must = must_step c.args.after.now c.items.rest.now c.in-Some-byte_at.more.now byte c.items.invariant.must c.in-Some-byte_at.ensures.small c.in-Some-byte_at.ensures.some;
    }

pub returns-in-Some-clause-some : goal.returns-in-Some-clause-some
returns-in-Some-clause-some c = record { are = c.items.invariant.are; whole = c.items.invariant.sofar ∙ ap (λ t. items_bytes (map (item_of 34) c.items.bytes.items) ++ t) c.in-Some.ensures.some }

pub returns-in-None-clause-none : goal.returns-in-None-clause-none
returns-in-None-clause-none c e = string_bad c.args.after.now c.items.rest.now c.items.invariant.must (c.behind.ensures.none c.in_default.is) (c.byte_at.ensures.none c.in-None.is)
