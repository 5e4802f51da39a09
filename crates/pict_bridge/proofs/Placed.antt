-- What patterns side by side add stands in one context, in whichever order they were opened.
use Rattle.std.proofs.Common.{◌≡◌, ℕ, suc, ◌+◌, Bool, true, false, List, [], ◌∷◌, ◌++◌, length, refl, sym, ◌∙◌, ap, ap₂, subst, Option, Some, arith, append_assoc, length-append}
use Rattle.std.specs.Prelude.{nat_eq}
use Rattle.pict_types.specs.Types.{PlainType, PlainBound, TypeContext}
use Rattle.pict_types.specs.Renaming.{rename, rename_bound, moved}
use Rattle.pict_types.specs.Entries.{PlainContext, variables}
use Rattle.pict_rules.specs.Environments.{Environment, Extension, KnownType, KnownValue, context_of, known_type, extended, joined_extensions, no_extension, moved_binders, rename_values, opened, entries_of}
use Rattle.pict_typing.specs.Erasing.{erased, erased_bound}
use Rattle.pict_bridge.specs.Embedding.{erased_context, Embeds}
use Rattle.pict_bridge.proofs.Erased.{erased_renamed, erased_bound_renamed}
use Rattle.pict_bridge.specs.Opening.{meaning, IsBoundAs, IsExtensionPlaced}
use Rattle.pict_bridge.proofs.Joining.{moved_bounds, joined_bounds, joined_by, joins, type_after, joined_outside, inserted_by}

-- ---- the bounds of what is added

abbrev pub erased_list : List KnownType → List PlainBound
erased_list [] = []
erased_list (b ∷ bs) = erased_bound b.bound ∷ erased_list bs

pub with_binders : (bs : List KnownType) (c : PlainContext) → erased_context (variables (entries_of bs ++ c)) ≡ erased_list bs ++ erased_context (variables c)
with_binders [] c = refl
with_binders (b ∷ bs) c = ap (λ k. erased_bound b.bound ∷ k) (with_binders bs c)

pub length_erased : (bs : List KnownType) → length (erased_list bs) ≡ length bs
length_erased [] = refl
length_erased (b ∷ bs) = ap suc (length_erased bs)

erased_moved : (k : ℕ) (bs : List KnownType) → erased_list (moved_binders k bs) ≡ moved_bounds k (erased_list bs)
erased_moved k [] = refl
erased_moved k (b ∷ bs) = ap₂ (λ x xs. x ∷ xs) (erased_bound_renamed (moved k (length bs)) b.bound ∙ ap (λ n. rename_bound (moved k n) (erased_bound b.bound)) (sym (length_erased bs))) (erased_moved k bs)

erased_more : (bs cs : List KnownType) → erased_list (bs ++ cs) ≡ erased_list bs ++ erased_list cs
erased_more [] cs = refl
erased_more (b ∷ bs) cs = ap (λ xs. erased_bound b.bound ∷ xs) (erased_more bs cs)

joined_context : (e : Environment) (x y : Extension) → erased_context (context_of (extended e (joined_extensions x y))) ≡ joined_bounds (erased_list x.binders) (erased_list y.binders) (erased_context (context_of e))
joined_context e x y =
    with_binders (moved_binders (opened x) y.binders ++ x.binders) e.context
    ∙ ap (λ z. z ++ erased_context (context_of e)) (erased_more (moved_binders (opened x) y.binders) x.binders ∙ ap (λ z. z ++ erased_list x.binders) (erased_moved (opened x) y.binders ∙ ap (λ n. moved_bounds n (erased_list y.binders)) (sym (length_erased x.binders))))
    ∙ append_assoc (moved_bounds (length (erased_list x.binders)) (erased_list y.binders)) (erased_list x.binders) (erased_context (context_of e))

length_moved_binders : (k : ℕ) (bs : List KnownType) → length (moved_binders k bs) ≡ length bs
length_moved_binders k [] = refl
length_moved_binders k (b ∷ bs) = ap suc (length_moved_binders k bs)

pub opened_both : (x y : Extension) → opened (joined_extensions x y) ≡ opened y + opened x
opened_both x y = length-append (moved_binders (opened x) y.binders) x.binders ∙ ap (λ k. k + opened x) (length_moved_binders (opened x) y.binders)

-- ---- look-up among names that are renumbered, and in two lists

pub known_renamed : (f : ℕ → ℕ) (vs : List KnownValue) (m : ℕ) (t : PlainType) → known_type (rename_values f vs) m ≡ Some t → (u : PlainType) × (known_type vs m ≡ Some u) × (t ≡ rename f u)
known_renamed f [] m t e = absurd (cc)
known_renamed f (v ∷ vs) m t e = go (nat_eq v.name m) refl (known_renamed f vs m t)
  where
    go : (b : Bool) → nat_eq v.name m ≡ b → (known_type (rename_values f vs) m ≡ Some t → (u : PlainType) × (known_type vs m ≡ Some u) × (t ≡ rename f u)) → (u : PlainType) × (known_type (v ∷ vs) m ≡ Some u) × (t ≡ rename f u)
    go true q k =
        let e2 : Some (rename f v.has) ≡ Some t = rw q at e in
        let i : rename f v.has ≡ t = cc in
        (v.has, rw q refl, sym i)
    go false q k =
        let r = k (rw q at e) in
        (r.0, rw q r.1, r.2)

pub data KnownIn (vs ws : List KnownValue) (m : ℕ) (t : PlainType) : Type 0 where
  in_first : known_type vs m ≡ Some t → KnownIn vs ws m t
  in_second : known_type ws m ≡ Some t → KnownIn vs ws m t

pub known_in : (vs ws : List KnownValue) (m : ℕ) (t : PlainType) → known_type (vs ++ ws) m ≡ Some t → KnownIn vs ws m t
known_in [] ws m t e = in_second e
known_in (v ∷ vs) ws m t e = go (nat_eq v.name m) refl (known_in vs ws m t)
  where
    go : (b : Bool) → nat_eq v.name m ≡ b → (known_type (vs ++ ws) m ≡ Some t → KnownIn vs ws m t) → KnownIn (v ∷ vs) ws m t
    go true q k = in_first (let e2 : Some v.has ≡ Some t = rw q at e in rw q e2)
    go false q k = further (k (rw q at e))
      where
        further : KnownIn vs ws m t → KnownIn (v ∷ vs) ws m t
        further (in_first p) = in_first (rw q p)
        further (in_second p) = in_second p

-- ---- what is placed

pub placed_none : (e : Environment) (f : ℕ → ℕ) (d : TypeContext) (n : ℕ) (slots : List (Option ℕ)) (ts : List PlainType) → Embeds (λ i. f i + n) (erased_context (context_of e)) d → IsExtensionPlaced e f d n slots ts no_extension
placed_none e f d n slots ts x = record {
  later = λ i. f i + n;
  embeds = x;
  extends_ = λ i. ap (λ j. f j + n) (omega arith);
  each = λ m t k. absurd (cc);
}

-- two that stand in the same context stand there joined, in whichever order they were opened
pub placed_joined : (e : Environment) (f : ℕ → ℕ) (d : TypeContext) (n : ℕ) (slots : List (Option ℕ)) (ts : List PlainType) (x y : Extension) → IsExtensionPlaced e f d n slots ts x → IsExtensionPlaced e f d n slots ts y → IsExtensionPlaced e f d n slots ts (joined_extensions x y)
placed_joined e f d n slots ts x y p q = record {
  later = g;
  embeds = subst (λ k. Embeds g k d) (sym (joined_context e x y)) (subst (λ k. Embeds (joined_by k p.later q.later) (joined_bounds (erased_list x.binders) (erased_list y.binders) (erased_context (context_of e))) d) (length_erased y.binders)
      (joins (erased_list x.binders) (erased_list y.binders) (erased_context (context_of e)) d p.later q.later (subst (λ k. Embeds p.later k d) (with_binders x.binders e.context) p.embeds) (subst (λ k. Embeds q.later k d) (with_binders y.binders e.context) q.embeds) agree));
  extends_ = λ i. ap g (sums i) ∙ joined_outside (opened y) p.later q.later (i + opened x) ∙ p.extends_ i;
  each = λ m t k. named_ m t (known_in (rename_values (moved (opened x) (opened y)) y.values) (rename_values (moved (opened y) 0) x.values) m t k);
}
  where
    g : ℕ → ℕ
    g = joined_by (opened y) p.later q.later

    agree : (i : ℕ) → p.later (i + length (erased_list x.binders)) ≡ q.later (i + length (erased_list y.binders))
    agree i = ap (λ k. p.later (i + k)) (length_erased x.binders) ∙ p.extends_ i ∙ sym (q.extends_ i) ∙ ap (λ k. q.later (i + k)) (sym (length_erased y.binders))

    sums : (i : ℕ) → i + opened (joined_extensions x y) ≡ i + opened x + opened y
    sums i = let k = opened_both x y in omega (arith, k)

    named_ : (m : ℕ) (t : PlainType) → KnownIn (rename_values (moved (opened x) (opened y)) y.values) (rename_values (moved (opened y) 0) x.values) m t → IsBoundAs slots ts g m t
    named_ m t (in_first k) =
        let u = known_renamed (moved (opened x) (opened y)) y.values m t k in
        let b = q.each m u.0 u.1 in
        let means : meaning q.later u.0 ≡ meaning g t = sym (ap (rename g) (ap erased u.2 ∙ erased_renamed (moved (opened x) (opened y)) u.0) ∙ type_after g (moved (opened x) (opened y)) q.later (erased u.0) (inserted_by (opened x) (opened y) p.later q.later (λ i. p.extends_ i ∙ sym (q.extends_ i)))) in
        record { place = b.place; named_ = b.named_; typed = b.typed ∙ ap Some means }
    named_ m t (in_second k) =
        let u = known_renamed (moved (opened y) 0) x.values m t k in
        let b = p.each m u.0 u.1 in
        let means : meaning p.later u.0 ≡ meaning g t = sym (ap (rename g) (ap erased u.2 ∙ erased_renamed (moved (opened y) 0) u.0) ∙ type_after g (moved (opened y) 0) p.later (erased u.0) (λ i. joined_outside (opened y) p.later q.later i)) in
        record { place = b.place; named_ = b.named_; typed = b.typed ∙ ap Some means }
