-- The text of the prelude: lists, references and locks. Its lines, each with a newline behind it.
use Rattle.std.specs.Prelude.{ℕ, List, [], ◌∷◌, ◌++◌, codes}
use Rattle.std.specs.List.{flat_map}

abbrev pub prelude_lines : List (List ℕ)
prelude_lines =
    codes "type (List X) = (rec L = /[/[] /[X L]])"
    ∷ codes "type (Ref X) = [get=/[/X] set=/[X /[]]]"
    ∷ codes "type Lock = [acquire=/[/[]] release=/[/[]]]"
    ∷ codes "def nil (#X):(List X) = (rec \\[n _] = n![])"
    ∷ codes "def cons (#X x:X l:(List X)):(List X) = (rec \\[_ c] = c![x l])"
    ∷ codes "def foldl [#X #A f:/[A X /A] a:A l:(List X) r:/A] = ("
    ∷ codes "  val (rec u) = l"
    ∷ codes "  u![\\[] = r!a \\[x t] = foldl![f (f a x) t r]])"
    ∷ codes "def ref (#X init:X):(Ref X) = ("
    ∷ codes "  new c:^X"
    ∷ codes "  run c!init"
    ∷ codes "  def get [r:/X] = c?v = (c!v | r!v)"
    ∷ codes "  def set [v:X r:/[]] = c?_ = (c!v | r![])"
    ∷ codes "  [get=get set=set])"
    ∷ codes "def lock ():Lock = ("
    ∷ codes "  new c:^[]"
    ∷ codes "  run c![]"
    ∷ codes "  def acquire [r:/[]] = c?[] = r![]"
    ∷ codes "  def release [r:/[]] = (c![] | r![])"
    ∷ codes "  [acquire=acquire release=release])"
    ∷ []

unfoldable pub prelude_text : List ℕ
prelude_text = flat_map (λ line. line ++ 10 ∷ []) prelude_lines
