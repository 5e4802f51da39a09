-- One field more.
use Rattle.pict_derive.proofs.PatternForms.{labelled_grow, labelled_names_grow}
use Rattle.pict_derive.proofs.patterns.apart.Goals as goal

pub loop-field-preserved : goal.loop-field-preserved
loop-field-preserved c = record {
  patterns = labelled_grow c.loop-field.patterns.items c.push.new.self.items c.in-Some.field c.loop-field.yielded c.loop-field.invariant.patterns c.in_ok-push.ensures.items;
  bound = labelled_names_grow c.loop-field.bound.items c.extend_from_slice.new.self.items c.in-Some.field c.loop-field.yielded c.loop-field.invariant.bound (rw c.deref.ensures.value at c.in_ok-extend_from_slice.ensures.items);
}
