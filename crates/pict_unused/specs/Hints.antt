-- What is certain of a binder, by the roles in which it is used.
use Rattle.std.specs.Prelude.{ℕ, ◌+◌, nat_eq, Bool, true, false, List, [], ◌∷◌, Option, Some, None}
use Rattle.std.specs.List.{list_any}
use Rattle.pict_syntax.specs.declared.id.Id.{Id}
use Rattle.pict_syntax.specs.Trees.{Decs}
use Rattle.pict_scope.specs.declared.target.Target.{Target}
use Rattle.pict_scope.specs.declared.target.Target.TheVariants.{Prim, Binder}
use Rattle.pict_unused.specs.declared.item.Role.{Role}
use Rattle.pict_unused.specs.declared.item.Role.TheVariants.{Sent, Received, Called, HandedOn}
use Rattle.pict_unused.specs.declared.item.Form.{Form}
use Rattle.pict_unused.specs.declared.item.Form.TheVariants.{New}
use Rattle.pict_unused.specs.declared.item.Item.{Item}
use Rattle.pict_unused.specs.declared.item.Item.TheVariants.{Use, Bind}
use Rattle.pict_unused.specs.declared.certain.Said.{Said}
use Rattle.pict_unused.specs.declared.certain.Said.TheVariants.{NeverUsed, NobodyReceives, NobodySends}
use Rattle.pict_unused.specs.declared.certain.Hint.{Hint}
use Rattle.pict_unused.specs.Items.{items_of}

-- the roles of all uses of values, in reading order
abbrev pub roles_in : List Item → List Role
roles_in [] = []
roles_in (Use role s ∷ is) = role ∷ roles_in is
roles_in (Bind form x ∷ is) = roles_in is

abbrev pub means : Target → ℕ → Bool
means (Prim p) b = false
means (Binder n) b = nat_eq b n

abbrev pub with_role_if : Bool → Role → List Role → List Role
with_role_if true role roles = role ∷ roles
with_role_if false role roles = roles

-- the roles in which a binder is used: those of the uses that mean it
abbrev pub roles_of : ℕ → List Role → List Target → List Role
roles_of b [] _ = []
roles_of b (role ∷ roles) [] = []
roles_of b (role ∷ roles) (t ∷ ts) = with_role_if (means t b) role (roles_of b roles ts)

-- an output or a call, which sends and waits for an answer
abbrev pub sends : Role → Bool
sends Sent = true
sends Called = true
sends _ = false

abbrev pub receives : Role → Bool
receives Received = true
receives _ = false

abbrev pub hands_on : Role → Bool
hands_on HandedOn = true
hands_on _ = false

-- what is said of a binder on which some use sends, on which some receives, and which some use hands on
abbrev pub said_where : Form → Bool → Bool → Bool → Option Said
said_where form false false false = Some NeverUsed
said_where New true false false = Some NobodyReceives
said_where New false true false = Some NobodySends
said_where _ _ _ _ = None

abbrev pub said_of : Form → List Role → Option Said
said_of form roles = said_where form (list_any sends roles) (list_any receives roles) (list_any hands_on roles)

abbrev pub hint_if : Option Said → Id → List Hint → List Hint
hint_if (Some said) x hints = record { said = said; id = x } ∷ hints
hint_if None x hints = hints

-- what is said of the binders, of which the first has this number, where these are the roles of all uses and what they mean
unfoldable pub hints_from : ℕ → List Item → List Role → List Target → List Hint
hints_from b [] roles targets = []
hints_from b (Use role s ∷ is) roles targets = hints_from b is roles targets
hints_from b (Bind form x ∷ is) roles targets = hint_if (said_of form (roles_of b roles targets)) x (hints_from (b + 1) is roles targets)

-- and of those of a program whose uses mean these targets
abbrev pub hints_of : Decs → List Target → List Hint
hints_of ds targets = hints_from 0 (items_of ds) (roles_in (items_of ds)) targets
