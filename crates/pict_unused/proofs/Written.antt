-- What is said of binders by a table of their uses is what their uses say.
use Rattle.std.proofs.Common.{◌≡◌, ℕ, ◌+◌, ◌<◌, ◌≤◌, List, [], ◌∷◌, ◌++◌, length, get_or, drop, Option, Some, None, refl, sym, ◌∙◌, ap, append_assoc, append-nil}
use Rattle.std.proofs.lemmas.List.{drop_more, drop_all}
use Rattle.pict_syntax.specs.declared.span.Span.{Span}
use Rattle.pict_syntax.specs.declared.id.Id.{Id}
use Rattle.pict_scope.specs.declared.target.Target.{Target}
use Rattle.pict_unused.specs.declared.item.Role.{Role}
use Rattle.pict_unused.specs.declared.item.Form.{Form}
use Rattle.pict_unused.specs.declared.item.Item.{Item}
use Rattle.pict_unused.specs.declared.item.Item.TheVariants.{Use, Bind}
use Rattle.pict_unused.specs.declared.certain.Said.{Said}
use Rattle.pict_unused.specs.declared.certain.Hint.{Hint}
use Rattle.pict_unused.specs.declared.summing.Uses.{Uses}
use Rattle.pict_unused.specs.Hints.{roles_of, hint_if, hints_from}
use Rattle.pict_unused.specs.Summing.{no_uses, summary, AreSummed}
use Rattle.pict_unused.specs.Telling.{said_by, told_from}

pub told_is : (b : ℕ) (items : List Item) (roles : List Role) (targets : List Target) (table : List Uses) → AreSummed roles targets table → told_from b items table ≡ hints_from b items roles targets
unfolding told_from hints_from
told_is b [] roles targets table sum = refl
told_is b (Use role s ∷ items) roles targets table sum = told_is b items roles targets table sum
told_is b (Bind form x ∷ items) roles targets table sum =
    ap (λ u. hint_if (said_by form u) x (told_from (b + 1) items table)) (sum b)
    ∙ ap (λ l. hint_if (said_by form (summary (roles_of b roles targets))) x l) (told_is (b + 1) items roles targets table sum)

hint_first : (said : Option Said) (x : Id) (hints : List Hint) → hint_if said x [] ++ hints ≡ hint_if said x hints
hint_first (Some said) x hints = refl
hint_first None x hints = refl

here : {A : Type 0} (xs : List A) (i : ℕ) (d x : A) → i < length xs → get_or xs i d ≡ x → drop i xs ≡ x ∷ drop (i + 1) xs
here xs i d x h is = drop_more xs i d h ∙ ap (λ y. y ∷ drop (i + 1) xs) is

pub told_use : (so_far : List Hint) (items : List Item) (i b : ℕ) (d : Item) (role : Role) (s : Span) (table : List Uses) (all : List Hint) → i < length items → get_or items i d ≡ Use role s
    → so_far ++ told_from b (drop i items) table ≡ all → so_far ++ told_from b (drop (i + 1) items) table ≡ all
unfolding told_from
told_use so_far items i b d role s table all h is before = ap (λ l. so_far ++ told_from b l table) (sym (here items i d (Use role s) h is)) ∙ before

pub told_bind : (so_far new : List Hint) (items : List Item) (i b : ℕ) (d : Item) (form : Form) (x : Id) (u : Uses) (table : List Uses) (all : List Hint) → i < length items → get_or items i d ≡ Bind form x
    → u ≡ get_or table b no_uses → new ≡ so_far ++ hint_if (said_by form u) x [] → so_far ++ told_from b (drop i items) table ≡ all
    → new ++ told_from (b + 1) (drop (i + 1) items) table ≡ all
unfolding told_from
told_bind so_far new items i b d form x u table all h is uses told before =
    let rest = told_from (b + 1) (drop (i + 1) items) table in
    ap (λ l. l ++ rest) told
    ∙ (append_assoc so_far (hint_if (said_by form u) x []) rest
    ∙ (ap (λ l. so_far ++ l) (hint_first (said_by form u) x rest)
    ∙ (ap (λ v. so_far ++ hint_if (said_by form v) x rest) uses
    ∙ (ap (λ l. so_far ++ told_from b l table) (sym (here items i d (Bind form x) h is)) ∙ before))))

pub told_end : (so_far : List Hint) (items : List Item) (i b : ℕ) (table : List Uses) (all : List Hint) → length items ≤ i → so_far ++ told_from b (drop i items) table ≡ all → so_far ≡ all
unfolding told_from
told_end so_far items i b table all h before = sym (append-nil so_far) ∙ (ap (λ l. so_far ++ told_from b l table) (sym (drop_all i items h)) ∙ before)
