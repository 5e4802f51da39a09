-- What a step shows, told as words.
use Rattle.std.proofs.Common.{◌≡◌, sym, subst, Ok}
use Rattle.pict_core.specs.Step.{Label}
use Rattle.pict_core.specs.Term.{Process}
use Rattle.pict_picker.specs.Events.{label_of, trap_of, IsDidOf}
use Rattle.pict_picker.specs.declared.did.Did.{Did}
use Rattle.pict_picker.specs.declared.did.Did.TheVariants as did
use Rattle.pict_turns.specs.Acting.{IsDone}
use Rattle.pict_turns.specs.declared.store.Store.{Store}
use Rattle.pict_turns.specs.Shown.{label_shown, trap_shown, IsShownOf}
use Rattle.pict_turns.specs.Stepping.{Acts}
use Rattle.pict_turns.specs.declared.event.Shown.{Shown}
use Rattle.pict_turns.specs.declared.event.Shown.TheVariants as shows
use Rattle.pict_sites.specs.Happening.{IsDidBy}

module _ (core : Process) (old new : Store) where
  pub shown_of : (e : Shown) → Acts core old new e → IsShownOf new.desk.heap e
  shown_of shows.Quiet a = tt
  shown_of (shows.Comm channel value) a = a.event
  shown_of (shows.Print word) a = a.event
  shown_of (shows.Trapped at) a = tt

  done_of : (e : Shown) (label : Label) → label ≡ label_shown new.desk.heap e → trap_shown e ≡ trap_of did.Quiet → Acts core old new e → IsDone core old new label
  done_of shows.Quiet label same none a = subst (IsDone core old new) (sym same) a.done
  done_of (shows.Comm channel value) label same none a = subst (IsDone core old new) (sym same) a.done
  done_of (shows.Print word) label same none a = subst (IsDone core old new) (sym same) a.done
  done_of (shows.Trapped at) label same none a = cc

  pub did_by : (e : Shown) (d : Did) → trap_of d ≡ trap_shown e → label_of new.desk.heap d ≡ label_shown new.desk.heap e → IsDidOf new.desk.heap d → Acts core old new e → IsDidBy core old new (Ok d)
  did_by e did.Quiet trap label words a = (done_of e _ label (sym trap) a, words)
  did_by e (did.Comm channel value) trap label words a = (done_of e _ label (sym trap) a, words)
  did_by e (did.Print word) trap label words a = (done_of e _ label (sym trap) a, words)
  did_by shows.Quiet (did.Trapped at) trap label words a = cc
  did_by (shows.Comm channel value) (did.Trapped at) trap label words a = cc
  did_by (shows.Print word) (did.Trapped at) trap label words a = cc
  did_by (shows.Trapped there) (did.Trapped at) trap label words a =
      let same : there ≡ at = cc in
      subst (λ p. Acts core old new (shows.Trapped p)) same a
