-- Where a rule of kinds fails, and where none does.
use Rattle.std.proofs.Common.{◌≡◌, ℕ, Bool, true, false, nat_eq, List, [], ◌∷◌, Option, Some, None, refl, sym, ◌∙◌, ap, subst}
use Rattle.std.specs.Prelude.{if◌then◌else◌}
use Rattle.std.proofs.lemmas.Bool.{eqb-true, eq-eqb}
use Rattle.pict_syntax.specs.declared.code.Code.TheVariants.{K1, K2, K3}
use Rattle.pict_syntax.specs.declared.span.Span.{Span}
use Rattle.pict_syntax.specs.declared.id.Id.{Id}
use Rattle.pict_syntax.specs.declared.type_tree.Mark.{Mark}
use Rattle.pict_syntax.specs.Trees.{operator_kind, TypeTree}
use Rattle.pict_types.specs.Types.{PlainType}
use Rattle.pict_types.specs.Replacing.{replace}
use Rattle.pict_types.specs.Entries.{PlainContext}
use Rattle.pict_normal.specs.Meanings.{meanings}
use Rattle.pict_normal.specs.Normal.{Meaning, a_type, an_operator, meaning, use_stops, apply_stops, bound_stops, kind_stops, normal}
use Rattle.pict_types.specs.Types.{is_top}
use Rattle.pict_binders.specs.Names.{place_of}
use Rattle.pict_types.specs.Places.{entry_names, arity_at}
use Rattle.pict_normal.specs.Raw.{raw}
use Rattle.pict_normal.specs.Refusals.{BeginsWith}
use Rattle.pict_normal.proofs.BinderPlaces.{kind_meant, kind_there, kind_named}
use Rattle.pict_normal.proofs.RawNormal.{raw_normal}

-- a name that stands alone
use_kind : (s : Span) (o : Option Meaning) → kind_meant o ≡ Some None → use_stops s o ≡ []
use_kind s None h = refl
use_kind s (Some (a_type t)) h = refl
use_kind s (Some (an_operator n x)) h = absurd (cc)

use_head : (s : Span) (o : Option Meaning) (k : ℕ) → kind_meant o ≡ Some (Some k) → BeginsWith (use_stops s o) (K2, s)
use_head s None k h = absurd (cc)
use_head s (Some (a_type t)) k h = absurd (cc)
use_head s (Some (an_operator n x)) k h = refl

pub kind_is : (c : PlainContext) (n i : ℕ) (k : Option ℕ) → place_of (entry_names c) n ≡ Some i → arity_at c i ≡ k → kind_meant (meaning c n) ≡ Some k
kind_is c n i k h e = kind_named c n ∙ ap (kind_there c) h ∙ ap Some e

pub use_type : (s : Span) (c : PlainContext) (n i : ℕ) → place_of (entry_names c) n ≡ Some i → arity_at c i ≡ None → use_stops s (meaning c n) ≡ []
use_type s c n i h e = use_kind s (meaning c n) (kind_is c n i None h e)

pub use_operator : (s : Span) (c : PlainContext) (n i k : ℕ) → place_of (entry_names c) n ≡ Some i → arity_at c i ≡ Some k → BeginsWith (use_stops s (meaning c n)) (K2, s)
use_operator s c n i k h e = use_head s (meaning c n) k (kind_is c n i (Some k) h e)

-- a name with arguments
apply_none : (s : Span) (o : Option Meaning) (k : ℕ) → kind_meant o ≡ None → apply_stops s o k ≡ []
apply_none s None k h = refl
apply_none s (Some (a_type t)) k h = absurd (cc)
apply_none s (Some (an_operator n x)) k h = absurd (cc)

apply_head_type : (s : Span) (o : Option Meaning) (k : ℕ) → kind_meant o ≡ Some None → BeginsWith (apply_stops s o k) (K1, s)
apply_head_type s None k h = absurd (cc)
apply_head_type s (Some (a_type t)) k h = refl
apply_head_type s (Some (an_operator n x)) k h = absurd (cc)

apply_same : (s : Span) (o : Option Meaning) (k : ℕ) → kind_meant o ≡ Some (Some k) → apply_stops s o k ≡ []
apply_same s None k h = absurd (cc)
apply_same s (Some (a_type t)) k h = absurd (cc)
apply_same s (Some (an_operator n x)) k h = let e : n ≡ k = cc in ap (λ b. if b then [] else (K1, s) ∷ []) (eq-eqb n k e)

apply_head_other : (s : Span) (o : Option Meaning) (k m : ℕ) → kind_meant o ≡ Some (Some m) → nat_eq m k ≡ false → BeginsWith (apply_stops s o k) (K1, s)
apply_head_other s None k m h d = absurd (cc)
apply_head_other s (Some (a_type t)) k m h d = absurd (cc)
apply_head_other s (Some (an_operator n x)) k m h d =
    let e : n ≡ m = cc in
    subst (λ b. BeginsWith (if b then [] else (K1, s) ∷ []) (K1, s)) (sym (ap (λ y. nat_eq y k) e ∙ d)) refl

pub apply_missing : (s : Span) (c : PlainContext) (n k : ℕ) → place_of (entry_names c) n ≡ None → apply_stops s (meaning c n) k ≡ []
apply_missing s c n k h = apply_none s (meaning c n) k (kind_named c n ∙ ap (kind_there c) h)

pub apply_type : (s : Span) (c : PlainContext) (n i k : ℕ) → place_of (entry_names c) n ≡ Some i → arity_at c i ≡ None → BeginsWith (apply_stops s (meaning c n) k) (K1, s)
apply_type s c n i k h e = apply_head_type s (meaning c n) k (kind_is c n i None h e)

pub apply_fits : (s : Span) (c : PlainContext) (n i k m : ℕ) → place_of (entry_names c) n ≡ Some i → arity_at c i ≡ Some m → m ≡ k → apply_stops s (meaning c n) k ≡ []
apply_fits s c n i k m h e d = apply_same s (meaning c n) k (kind_is c n i (Some k) h (e ∙ ap Some d))

not_same : (m k : ℕ) → (m ≡ k → ⊥) → nat_eq m k ≡ false
not_same m k d = go (nat_eq m k) refl
  where
    go : (b : Bool) → nat_eq m k ≡ b → b ≡ false
    go true e = absurd (d (eqb-true m k e))
    go false e = refl

pub apply_other : (s : Span) (c : PlainContext) (n i k m : ℕ) → place_of (entry_names c) n ≡ Some i → arity_at c i ≡ Some m → (m ≡ k → ⊥) → BeginsWith (apply_stops s (meaning c n) k) (K1, s)
apply_other s c n i k m h e d = apply_head_other s (meaning c n) k m (kind_is c n i (Some m) h e) (not_same m k d)

-- an operator variable with a bound
top_is : (ns : List (List ℕ)) (d : PlainContext) (t : TypeTree) (u : PlainType) (b : Bool) → kind_stops ns d t ≡ [] → u ≡ raw ns (entry_names d) t → b ≡ is_top (replace (meanings d) u) → is_top (normal ns d t) ≡ b
top_is ns d t u b none is top = ap is_top (raw_normal ns d t none) ∙ ap (λ x. is_top (replace (meanings d) x)) (sym is) ∙ sym top

pub operator_fits : (ns : List (List ℕ)) (d : PlainContext) (id : Id) (ms : List Mark) (t : TypeTree) (u : PlainType) → kind_stops ns d t ≡ [] → u ≡ raw ns (entry_names d) t → true ≡ is_top (replace (meanings d) u) → bound_stops id (Some (operator_kind ms)) (kind_stops ns d t) (normal ns d t) ≡ []
operator_fits ns d id ms t u none is top =
    ap (λ x. bound_stops id (Some (operator_kind ms)) x (normal ns d t)) none
    ∙ ap (λ b. if b then [] else (K3, id.span) ∷ []) (top_is ns d t u true none is top)

pub operator_refused : (ns : List (List ℕ)) (d : PlainContext) (id : Id) (ms : List Mark) (t : TypeTree) (u : PlainType) → kind_stops ns d t ≡ [] → u ≡ raw ns (entry_names d) t → false ≡ is_top (replace (meanings d) u) → BeginsWith (bound_stops id (Some (operator_kind ms)) (kind_stops ns d t) (normal ns d t)) (K3, id.span)
operator_refused ns d id ms t u none is top =
    subst (λ x. BeginsWith (bound_stops id (Some (operator_kind ms)) x (normal ns d t)) (K3, id.span)) (sym none)
    (subst (λ b. BeginsWith (if b then [] else (K3, id.span) ∷ []) (K3, id.span)) (sym (top_is ns d t u false none is top)) refl)
