use Rattle.std.proofs.Common.{sym, ◌∙◌}
use Rattle.std.proofs.lemmas.List.{length-map}
use Rattle.pict_picker.specs.Picker.{core_in, heap_of, view_of}
use Rattle.pict_picker.specs.Waiting.{process_of}
use Rattle.pict_picker.proofs.Counts.{ready_counted}
use Rattle.pict_picker.proofs.picker.Picker.ready_count.Goals as goal

pub returns-clause-view : goal.returns-clause-view
returns-clause-view c = let p = c.args.self.now in c.len.ensures ∙ sym (length-map p.lists.ready.items (process_of (core_in p) (heap_of p)))

pub returns-clause-ready : goal.returns-clause-ready
returns-clause-ready c C stands =
    let p = c.args.self.now in
    c.len.ensures ∙ sym (length-map p.lists.ready.items (process_of (core_in p) (heap_of p))) ∙ ready_counted (view_of p) C stands
