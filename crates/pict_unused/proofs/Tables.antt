-- The table of uses, noted from the last to the first.
use Rattle.std.proofs.Common.{◌≡◌, ℕ, ◌+◌, ◌<◌, ◌≤◌, nat_eq, Bool, true, false, List, [], ◌∷◌, ◌++◌, length, get_or, drop, refl, sym, ◌∙◌, ap, append_assoc, append-nil, arith}
use Rattle.std.specs.Prelude.{if◌then◌else◌}
use Rattle.std.proofs.lemmas.List.{drop_more, drop_all}
use Rattle.pict_syntax.specs.declared.span.Span.{Span}
use Rattle.pict_syntax.specs.declared.id.Id.{Id}
use Rattle.pict_scope.specs.declared.target.Target.{Target}
use Rattle.pict_scope.specs.declared.target.Target.TheVariants.{Prim, Binder}
use Rattle.pict_unused.specs.declared.item.Role.{Role}
use Rattle.pict_unused.specs.declared.item.Form.{Form}
use Rattle.pict_unused.specs.declared.item.Item.{Item}
use Rattle.pict_unused.specs.declared.item.Item.TheVariants.{Use, Bind}
use Rattle.pict_unused.specs.declared.summing.Uses.{Uses}
use Rattle.pict_unused.specs.Hints.{roles_in, roles_of, means, with_role_if}
use Rattle.pict_unused.specs.Summing.{no_uses, and_use, summary, AreSummed, NotesMeant}

-- the item at an index stands before those behind it
from_here : {A : Type 0} (xs : List A) (i : ℕ) (x : A) → i < length xs → x ≡ get_or xs i x → drop i xs ≡ x ∷ drop (i + 1) xs
from_here xs i x h is = drop_more xs i x h ∙ ap (λ y. y ∷ drop (i + 1) xs) (sym is)

-- ---- roles

pub roles_use : (so_far : List Role) (items : List Item) (i : ℕ) (item : Item) (role : Role) (s : Span) → i < length items → item ≡ get_or items i item → item ≡ Use role s
    → so_far ++ roles_in (drop i items) ≡ roles_in items → (so_far ++ role ∷ []) ++ roles_in (drop (i + 1) items) ≡ roles_in items
roles_use so_far items i item role s h is means before =
    append_assoc so_far (role ∷ []) (roles_in (drop (i + 1) items))
    ∙ (ap (λ x. so_far ++ roles_in (x ∷ drop (i + 1) items)) (sym means) ∙ (ap (λ l. so_far ++ roles_in l) (sym (from_here items i item h is)) ∙ before))

pub roles_bind : (so_far : List Role) (items : List Item) (i : ℕ) (item : Item) (form : Form) (x : Id) → i < length items → item ≡ get_or items i item → item ≡ Bind form x
    → so_far ++ roles_in (drop i items) ≡ roles_in items → so_far ++ roles_in (drop (i + 1) items) ≡ roles_in items
roles_bind so_far items i item form x h is bind before =
    ap (λ y. so_far ++ roles_in (y ∷ drop (i + 1) items)) (sym bind) ∙ (ap (λ l. so_far ++ roles_in l) (sym (from_here items i item h is)) ∙ before)

pub roles_end : (so_far : List Role) (items : List Item) (i : ℕ) → length items ≤ i → so_far ++ roles_in (drop i items) ≡ roles_in items → so_far ≡ roles_in items
roles_end so_far items i h before = sym (append-nil so_far) ∙ (ap (λ l. so_far ++ roles_in l) (sym (drop_all i items h)) ∙ before)

-- ---- the table

roles_none : (b : ℕ) (roles : List Role) → roles_of b roles [] ≡ []
roles_none b [] = refl
roles_none b (role ∷ roles) = refl

-- nothing is noted yet
pub nothing_noted : (roles : List Role) (targets : List Target) → AreSummed (drop (length roles) roles) (drop (length roles) targets) []
nothing_noted roles targets b = ap (λ l. summary (roles_of b l (drop (length roles) targets))) (sym (drop_all (length roles) roles (omega arith)))

-- behind the end of the targets no use means anything
pub behind_targets : (roles : List Role) (targets : List Target) (i : ℕ) (table : List Uses) → length targets ≤ i
    → AreSummed (drop (i + 1) roles) (drop (i + 1) targets) table → AreSummed (drop i roles) (drop i targets) table
behind_targets roles targets i table h sum b =
    sum b
    ∙ (ap (λ l. summary (roles_of b (drop (i + 1) roles) l)) (drop_all (i + 1) targets (omega arith))
    ∙ (ap summary (roles_none b (drop (i + 1) roles) ∙ sym (roles_none b (drop i roles)))
    ∙ ap (λ l. summary (roles_of b (drop i roles) l)) (sym (drop_all i targets h))))

branch : (c : Bool) (role : Role) (roles : List Role) (u : Uses) → u ≡ summary roles → (if c then and_use role u else u) ≡ summary (with_role_if c role roles)
branch true role roles u e = ap (and_use role) e
branch false role roles u e = e

noted : (t : Target) (role : Role) (roles : List Role) (targets : List Target) (old new : List Uses) → AreSummed roles targets old → NotesMeant t role old new → AreSummed (role ∷ roles) (t ∷ targets) new
noted (Prim p) role roles targets old new sum same b = same b ∙ sum b
noted (Binder n) role roles targets old new sum set b = set b ∙ branch (nat_eq b n) role (roles_of b roles targets) (get_or old b no_uses) (sum b)

-- a use that is noted
pub use_noted : (roles : List Role) (targets : List Target) (i : ℕ) (role : Role) (t : Target) (old new : List Uses) → i < length roles → role ≡ get_or roles i role → i < length targets → t ≡ get_or targets i t
    → AreSummed (drop (i + 1) roles) (drop (i + 1) targets) old → NotesMeant t role old new → AreSummed (drop i roles) (drop i targets) new
use_noted roles targets i role t old new h is k its sum note b =
    noted t role (drop (i + 1) roles) (drop (i + 1) targets) old new sum note b
    ∙ (ap (λ l. summary (roles_of b l (t ∷ drop (i + 1) targets))) (sym (from_here roles i role h is))
    ∙ ap (λ l. summary (roles_of b (drop i roles) l)) (sym (from_here targets i t k its)))

pub ruleset tables = (roles_use, roles_bind, roles_end, nothing_noted, behind_targets, use_noted)
