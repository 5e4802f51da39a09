-- What is realised in a world: meanings of types, in longer worlds, after a pattern and after a name.
use Rattle.std.proofs.Common.{◌≡◌, ℕ, ◌+◌, Bool, true, false, List, [], ◌∷◌, ◌++◌, map, length, Option, Some, None, refl, sym, ◌∙◌, ap, subst, nat_eq, eqb-true}
use Rattle.std.specs.Prelude.{slice_get, option_map}
use Rattle.std.proofs.lemmas.Bool.{eq-eqb}
use Rattle.std.proofs.lemmas.List.{length-map}
use Rattle.std.proofs.lemmas.Option.{slice_get-map}
use Rattle.pict_types.specs.Types.{PlainType, TypeContext}
use Rattle.pict_types.specs.Renaming.{rename, moved}
use Rattle.pict_sub.specs.Subtyping.{IsSubtype}
use Rattle.pict_sub.proofs.Renamed.{weakened}
use Rattle.pict_core.specs.Term as core
use Rattle.pict_core.specs.Term.{Var}
use Rattle.pict_rules.specs.Environments.{Environment, Extension, KnownValue, context_of, known_type, extended, rename_values, opened}
use Rattle.pict_rules.specs.Regular.{IsTypeIn}
use Rattle.pict_translation.specs.Simple.{value_at}
use Rattle.pict_typing.specs.Erasing.{erased}
use Rattle.pict_typing.specs.Worlds as worlds
use Rattle.pict_typing.specs.Worlds.{World, IsType, shifted}
use Rattle.pict_typing.specs.Values.{HasType, variable_has}
use Rattle.pict_bridge.specs.Embedding.{erased_context, Embeds, WorldGrows}
use Rattle.pict_bridge.proofs.Erased.{erased_renamed, below_erased, erased_type}
use Rattle.pict_bridge.proofs.Growing.{type_grown, value_grown}
use Rattle.pict_bridge.specs.Opening.{meaning, IsExtensionPlaced}
use Rattle.pict_bridge.proofs.Joining.{type_after}
use Rattle.pict_bridge.proofs.Placed.{known_renamed}
use Rattle.pict_bridge.proofs.FieldsOpen.{slice_second}
use Rattle.pict_bridge.specs.Standing.{Longer}
use Rattle.pict_bridge.specs.Realising.{IsRealised, Realises}
use Rattle.pict_bridge.proofs.Standing.{has_longer, closed_longer}
use Rattle.pict_bridge.proofs.Binding.{slot_times, Binds}
use Rattle.pict_typing.proofs.ValuesPut.{stays_before}

-- ---- meanings

pub type_means : {e : Environment} {vs : List (ℕ × core.Val)} {f : ℕ → ℕ} {w : World} (t : PlainType) → Realises e vs f w → IsTypeIn e t → IsType w (meaning f t)
type_means {e = e} {f = f} {w = w} t r x =
    subst (λ ns. worlds.IsTypeIn ns w.type_variables (meaning f t)) (sym r.world_names) (type_grown e.names (erased t) r.embeds (erased_type e.names (context_of e) t x))

pub below_means : {e : Environment} {vs : List (ℕ × core.Val)} {f : ℕ → ℕ} {w : World} {s t : PlainType} → Realises e vs f w → IsSubtype (context_of e) s t → IsSubtype w.type_variables (meaning f s) (meaning f t)
below_means r d = weakened r.embeds.keeps (below_erased d)

-- a type with more variables between, and a renaming that goes on
pub meaning_later : (later f : ℕ → ℕ) (count more : ℕ) (t : PlainType) → ((i : ℕ) → later (i + count) ≡ f i + more) → meaning later (rename (moved count 0) t) ≡ shifted more (meaning f t)
meaning_later later f count more t e =
    ap (rename later) (erased_renamed (moved count 0) t) ∙ type_after later (moved count 0) (λ i. f i + more) (erased t) e ∙ sym (type_after (moved more 0) f (λ i. f i + more) (erased t) (λ i. refl))

-- ---- longer worlds

pub realises_longer : {e : Environment} {vs : List (ℕ × core.Val)} {f : ℕ → ℕ} {w v : World} → Longer w v → Realises e vs f w → Realises e vs f v
realises_longer {e = e} {vs = vs} {f = f} {w = w} {v = v} l r = record {
  world_names = ap (λ (z : World). z.names) l.is ∙ r.world_names;
  closed = closed_longer l r.closed;
  embeds = subst (λ (z : World). Embeds f (erased_context (context_of e)) z.type_variables) (sym l.is) r.embeds;
  known = λ n t q. let x = r.known n t q in record { value = x.value; is = x.is; has_ = has_longer r.closed l x.has_ };
  unknown = r.unknown;
}

-- ---- look-up in two lists

data KnownBefore (vs ws : List KnownValue) (m : ℕ) (o : Option PlainType) : Type 0 where
  before : {t : PlainType} → known_type vs m ≡ Some t → o ≡ Some t → KnownBefore vs ws m o
  after : known_type vs m ≡ None → known_type ws m ≡ o → KnownBefore vs ws m o

known_before : (vs ws : List KnownValue) (m : ℕ) → KnownBefore vs ws m (known_type (vs ++ ws) m)
known_before [] ws m = after refl refl
known_before (v ∷ vs) ws m = go (nat_eq v.name m) refl (known_before vs ws m)
  where
    go : (b : Bool) → nat_eq v.name m ≡ b → KnownBefore vs ws m (known_type (vs ++ ws) m) → KnownBefore (v ∷ vs) ws m (known_type ((v ∷ vs) ++ ws) m)
    go true q k = before {t = v.has} (rw q refl) (rw q refl)
    go false q k = further k
      where
        further : KnownBefore vs ws m (known_type (vs ++ ws) m) → KnownBefore (v ∷ vs) ws m (known_type ((v ∷ vs) ++ ws) m)
        further (before {t = t} p r) = before {t = t} (rw q p) (rw q r)
        further (after p r) = after (rw q p) (rw q r)

unknown_renamed : (f : ℕ → ℕ) (vs : List KnownValue) (m : ℕ) → known_type (rename_values f vs) m ≡ None → known_type vs m ≡ None
unknown_renamed f [] m e = refl
unknown_renamed f (v ∷ vs) m e = go (nat_eq v.name m) refl (unknown_renamed f vs m)
  where
    go : (b : Bool) → nat_eq v.name m ≡ b → (known_type (rename_values f vs) m ≡ None → known_type vs m ≡ None) → known_type (v ∷ vs) m ≡ None
    go true q k = absurd (let e2 : Some (rename f v.has) ≡ None = rw q at e in cc)
    go false q k = rw q (k (rw q at e))

-- ---- after a pattern

pub opened_grows : (w : World) (d : TypeContext) (n : ℕ) (ts : List PlainType) → Embeds (moved n 0) w.type_variables d → WorldGrows (moved n 0) w (worlds.opened d n ts w)
opened_grows w d n ts j = record {
  names_ = refl;
  messages_ = refl;
  embeds = j;
  variables_ = λ l t q. stays_before (map (shifted n) w.variables) ts l (shifted n t) (slice_get-map (shifted n) w.variables l ∙ ap (option_map (shifted n)) q);
}

pub realises_after : {e : Environment} {vs us : List (ℕ × core.Val)} {f : ℕ → ℕ} {w : World} (x : Extension) (slots : List (Option ℕ)) (d : TypeContext) (n : ℕ) (ts : List PlainType) → Realises e vs f w → (p : IsExtensionPlaced e f d n slots ts x) → Embeds (moved n 0) w.type_variables d → Binds slots (length w.variables) vs us → ((m : ℕ) → known_type x.values m ≡ None → slot_times m slots ≡ 0) → Realises (extended e x) us p.later (worlds.opened d n ts w)
realises_after {e = e} {vs = vs} {us = us} {f = f} {w = w} x slots d n ts r p j b only = record {
  world_names = r.world_names;
  closed = r.closed;
  embeds = p.embeds;
  known = λ m t q. known_ m t (known_before x.values outer m) q;
  unknown = λ m q. unknown_ m (known_before x.values outer m) q;
}
  where
    outer : List KnownValue
    outer = rename_values (moved (opened x) 0) e.values

    inside : World
    inside = worlds.opened d n ts w

    known_ : (m : ℕ) (t : PlainType) → KnownBefore x.values outer m (known_type (extended e x).values m) → known_type (extended e x).values m ≡ Some t → IsRealised p.later us inside m t
    known_ m t (before {t = u} q s) k =
        let i : Some u ≡ Some t = sym s ∙ k in
        let y = p.each m t (q ∙ i) in
        record {
          value = Var (length w.variables + y.place);
          is = b.at_ m y.place y.named_;
          has_ = variable_has (subst (λ z. slice_get (map (shifted n) w.variables ++ ts) (z + y.place) ≡ Some (meaning p.later t)) (length-map w.variables (shifted n)) (slice_second (map (shifted n) w.variables) ts y.place (meaning p.later t) y.typed));
        }
    known_ m t (after q s) k =
        let u = known_renamed (moved (opened x) 0) e.values m t (s ∙ k) in
        let y = r.known m u.0 u.1 in
        let means : shifted n (meaning f u.0) ≡ meaning p.later t = sym (ap (meaning p.later) u.2 ∙ meaning_later p.later f (opened x) n u.0 p.extends_) in
        record {
          value = y.value;
          is = b.others m (only m q) ∙ y.is;
          has_ = subst (HasType inside y.value) means (value_grown r.closed (opened_grows w d n ts j) y.has_);
        }

    unknown_ : (m : ℕ) → KnownBefore x.values outer m (known_type (extended e x).values m) → known_type (extended e x).values m ≡ None → value_at us m ≡ None
    unknown_ m (before {t = u} q s) k = absurd (let i : Some u ≡ None = sym s ∙ k in cc)
    unknown_ m (after q s) k = b.others m (only m q) ∙ r.unknown m (unknown_renamed (moved (opened x) 0) e.values m (s ∙ k))

-- ---- after one name more

abbrev pub with_name : Environment → ℕ → PlainType → Environment
with_name e n t = record { names = e.names; context = e.context; values = record { name = n; has = t } ∷ e.values }

pub realises_one : {e : Environment} {vs : List (ℕ × core.Val)} {f : ℕ → ℕ} {w : World} (n : ℕ) (t : PlainType) (u : core.Val) → Realises e vs f w → HasType w u (meaning f t) → Realises (with_name e n t) ((n, u) ∷ vs) f w
realises_one {e = e} {vs = vs} {f = f} {w = w} n t u r h = record {
  world_names = r.world_names;
  closed = r.closed;
  embeds = r.embeds;
  known = λ m s q. known_ m s (nat_eq n m) refl (nat_eq m n) refl q;
  unknown = λ m q. unknown_ m (nat_eq n m) refl (nat_eq m n) refl q;
}
  where
    swap : (m : ℕ) → nat_eq n m ≡ true → nat_eq m n ≡ true
    swap m q = eq-eqb m n (sym (eqb-true n m q))

    back : (m : ℕ) → nat_eq m n ≡ true → nat_eq n m ≡ true
    back m q = eq-eqb n m (sym (eqb-true m n q))

    no_way : {b : Bool} → b ≡ true → b ≡ false → ⊥
    no_way p q = let z : true ≡ false = sym p ∙ q in cc

    known_ : (m : ℕ) (s : PlainType) (b : Bool) → nat_eq n m ≡ b → (c : Bool) → nat_eq m n ≡ c → known_type (record { name = n; has = t } ∷ e.values) m ≡ Some s → IsRealised f ((n, u) ∷ vs) w m s
    known_ m s true p true q k =
        let e2 : Some t ≡ Some s = rw p at k in
        let i : t ≡ s = cc in
        record { value = u; is = rw q refl; has_ = subst (λ z. HasType w u (meaning f z)) i h }
    known_ m s true p false q k = absurd (no_way (swap m p) q)
    known_ m s false p true q k = absurd (no_way (back m q) p)
    known_ m s false p false q k =
        let y = r.known m s (rw p at k) in
        record { value = y.value; is = rw q y.is; has_ = y.has_ }

    unknown_ : (m : ℕ) (b : Bool) → nat_eq n m ≡ b → (c : Bool) → nat_eq m n ≡ c → known_type (record { name = n; has = t } ∷ e.values) m ≡ None → value_at ((n, u) ∷ vs) m ≡ None
    unknown_ m true p c q k = absurd (let e2 : Some t ≡ None = rw p at k in cc)
    unknown_ m false p true q k = absurd (no_way (back m q) p)
    unknown_ m false p false q k = rw q (r.unknown m (rw p at k))
