-- What is said of binders by a table of their uses.
use Rattle.std.specs.Prelude.{ℕ, ◌+◌, List, [], ◌∷◌, get_or, Option}
use Rattle.pict_unused.specs.declared.item.Form.{Form}
use Rattle.pict_unused.specs.declared.item.Item.{Item}
use Rattle.pict_unused.specs.declared.item.Item.TheVariants.{Use, Bind}
use Rattle.pict_unused.specs.declared.certain.Said.{Said}
use Rattle.pict_unused.specs.declared.certain.Hint.{Hint}
use Rattle.pict_unused.specs.declared.summing.Uses.{Uses}
use Rattle.pict_unused.specs.Hints.{said_where, hint_if}
use Rattle.pict_unused.specs.Summing.{no_uses}

abbrev pub said_by : Form → Uses → Option Said
said_by form u = said_where form u.sends u.receives u.hands_on

-- of the binders among these, of which the first has this number
unfoldable pub told_from : ℕ → List Item → List Uses → List Hint
told_from b [] table = []
told_from b (Use role s ∷ is) table = told_from b is table
told_from b (Bind form x ∷ is) table = hint_if (said_by form (get_or table b no_uses)) x (told_from (b + 1) is table)
