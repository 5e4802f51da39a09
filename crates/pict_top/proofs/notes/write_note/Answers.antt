use Rattle.pict_top.proofs.notes.write_note.Goals as goal

pub write_shown-requires : goal.write_shown-requires
write_shown-requires g c = c.event_of-event.ensures.event c.args.heap.now c.requires
