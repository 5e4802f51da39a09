-- Which words are values by themselves.
use Rattle.pict_heap.specs.declared.word.Word.{Word}
use Rattle.pict_heap.specs.declared.word.Word.TheVariants as word

-- neither a text nor a record
abbrev pub IsSimple : Word → Type 0
IsSimple (word.Text number) = ⊥
IsSimple (word.Fields number) = ⊥
IsSimple _ = Unit {0}
