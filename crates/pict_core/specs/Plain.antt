-- What the types of core terms stand for: their plain values.
use Rattle.std.specs.Prelude.{◌≡◌, List, [], ◌∷◌, Result, IfOk}
use Rattle.std.specs.declared.alloc.AllocError.{AllocError}
use Rattle.pict_core.specs.Term as term
use Rattle.pict_syntax.specs.declared.name.Name.{Name}
use Rattle.pict_core.specs.declared.value.CoreVal.{CoreVal, fold-CoreVal}
use Rattle.pict_core.specs.declared.value.CoreVal.TheOpen.{CoreVal-F}
use Rattle.pict_core.specs.declared.pattern.CorePat.{CorePat, fold-CorePat}
use Rattle.pict_core.specs.declared.pattern.CorePat.TheOpen.{CorePat-F}
use Rattle.pict_core.specs.declared.process.Core.{Core}
use Rattle.pict_core.specs.declared.process.Core.TheVariants as core
use Rattle.pict_core.specs.declared.process.Part.{Part}

abbrev pub vals_of : List term.Val → term.Vals
vals_of [] = term.no_vals
vals_of (v ∷ vs) = term.more_vals v (vals_of vs)

abbrev pub labelled_of : List (Name × term.Val) → term.Labelled
labelled_of [] = term.no_labelled
labelled_of (e ∷ es) = term.more_labelled e.0.0 e.1 (labelled_of es)

-- one level of a value, whose parts are plain already
abbrev pub val_step : CoreVal-F term.Val → term.Val
val_step (CoreVal-F.Var level) = term.Var level
val_step (CoreVal-F.Chan number) = term.Chan number
val_step (CoreVal-F.Int n) = term.Int n
val_step (CoreVal-F.Char byte) = term.Char byte
val_step (CoreVal-F.Bool b) = term.Boolean b
val_step (CoreVal-F.Text bytes) = term.Text bytes
val_step (CoreVal-F.Prim p) = term.PrimitiveVal p
val_step (CoreVal-F.Fields positional labelled) = term.Record (vals_of positional.items) (labelled_of labelled.items)

abbrev pub plain_val : CoreVal → term.Val
plain_val = fold-CoreVal term.Val val_step

abbrev pub plain_field : Name × CoreVal → Name × term.Val
plain_field e = (e.0, plain_val e.1)

abbrev pub pats_of : List term.Pat → term.Pats
pats_of [] = term.no_pats
pats_of (p ∷ ps) = term.more_pats p (pats_of ps)

abbrev pub labelled_pats_of : List (Name × term.Pat) → term.LabelledPats
labelled_pats_of [] = term.no_labelled_pats
labelled_pats_of (e ∷ es) = term.more_labelled_pats e.0.0 e.1 (labelled_pats_of es)

-- one level of a pattern, whose parts are plain already
abbrev pub pat_step : CorePat-F term.Pat → term.Pat
pat_step CorePat-F.Bind = term.Bind
pat_step CorePat-F.Any = term.Any
pat_step (CorePat-F.Fields positional labelled) = term.RecordPat (pats_of positional.items) (labelled_pats_of labelled.items)

abbrev pub plain_pat : CorePat → term.Pat
plain_pat = fold-CorePat term.Pat pat_step

abbrev pub plain_pat_field : Name × CorePat → Name × term.Pat
plain_pat_field e = (e.0, plain_pat e.1)

abbrev pub plain_core : Core → term.Process
plain_core core.Zero = term.Zero
plain_core (core.Par' a p b q) = term.Par (plain_core p) (plain_core q)
plain_core (core.New' a p) = term.New (plain_core p)
plain_core (core.Out chan message at) = term.Out (plain_val chan) (plain_val message) at
plain_core (core.In' chan replicated pattern a p) = term.In (plain_val chan) replicated (plain_pat pattern) (plain_core p)
plain_core (core.If' test a p b q) = term.If (plain_val test) (plain_core p) (plain_core q)

-- the process that a part holds
abbrev pub core_of : Part → Core
core_of part = part.inner.value

-- on success the process is this one
abbrev pub GivesCore : Result Core AllocError → term.Process → Type 0
GivesCore result p = IfOk result (λ process. plain_core process ≡ p)

-- on success the part holds this process
abbrev pub GivesPart : Result Part AllocError → term.Process → Type 0
GivesPart result p = IfOk result (λ part. plain_core (core_of part) ≡ p)
