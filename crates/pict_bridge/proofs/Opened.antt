-- What a pattern opens embeds the type variables before it.
use Rattle.std.proofs.Common.{◌≡◌, ℕ, suc, ◌+◌, List, ◌∷◌, refl, sym, ◌∙◌, ap, arith}
use Rattle.pict_types.specs.Types.{PlainType, PlainTypes, PlainLabels, PlainBound, Below, TypeContext}
use Rattle.pict_types.specs.Renaming.{bound_of, rename, moved}
use Rattle.pict_types.specs.Kinds.{kinds, kind_at}
use Rattle.pict_types.proofs.Renamed.{rename_same}
use Rattle.pict_sub.proofs.Renamed.{one_more}
use Rattle.pict_core.specs.Term.{Pat, Pats, LabelledPats}
use Rattle.pict_typing.specs.Opening.{Opens, binds_one, binds_none, lowered, opens_unfolding, opens_field, opens_record, OpenTypes, opens_none, opens_more, OpenLabels, opens_no_label, opens_label}
use Rattle.pict_bridge.specs.Embedding.{Embeds}
use Rattle.pict_bridge.proofs.Joining.{type_after}

pub embeds_same : (c : TypeContext) → Embeds (λ i. i) c c
embeds_same c = record { keeps = record { each = λ i b e. e ∙ ap Below (sym (rename_same b (record { each = λ j. refl }))); marks = λ i ms e. e }; kept = λ i k e. e }

embeds_none : (c : TypeContext) → Embeds (moved 0 0) c c
embeds_none c = record {
  keeps = record {
    each = λ i b e. ap (bound_of c) (omega arith) ∙ e ∙ ap Below (sym (rename_same b (record { each = λ j. omega arith })));
    marks = λ i ms e. ap (bound_of c) (omega arith) ∙ e;
  };
  kept = λ i k e. ap (kind_at (kinds c)) (omega arith) ∙ e;
}

-- g after f is h
pub embeds_after : {g f : ℕ → ℕ} (h : ℕ → ℕ) {b c d : TypeContext} → Embeds f b c → Embeds g c d → ((i : ℕ) → g (f i) ≡ h i) → Embeds h b d
embeds_after {g = g} {f = f} h {d = d} x y e = record {
  keeps = record {
    each = λ i b q. ap (bound_of d) (sym (e i)) ∙ y.keeps.each (f i) (rename f b) (x.keeps.each i b q) ∙ ap Below (type_after g f h b e);
    marks = λ i ms q. ap (bound_of d) (sym (e i)) ∙ y.keeps.marks (f i) ms (x.keeps.marks i ms q);
  };
  kept = λ i k q. ap (kind_at (kinds d)) (sym (e i)) ∙ y.kept (f i) k (x.kept i k q);
}

further_in : (b : PlainBound) (c : TypeContext) → Embeds suc c (b ∷ c)
further_in b c = record { keeps = one_more b c; kept = λ i k q. q }

embeds_more : (m n : ℕ) {c d e : TypeContext} → Embeds (moved m 0) c d → Embeds (moved n 0) d e → Embeds (moved (m + n) 0) c e
embeds_more m n x y = embeds_after (moved (m + n) 0) x y (λ i. omega arith)

embeds_field : (n : ℕ) (b : PlainBound) {c d : TypeContext} → Embeds (moved n 0) (b ∷ c) d → Embeds (moved (n + 1) 0) c d
embeds_field n b {c = c} x = embeds_after (moved (n + 1) 0) (further_in b c) x (λ i. omega arith)

mutual
  pub opens_embeds : {names : List (List ℕ)} {c d : TypeContext} {p : Pat} {t : PlainType} {n : ℕ} {ts : List PlainType} → Opens names c p t d n ts → Embeds (moved n 0) c d
  opens_embeds binds_one = embeds_none _
  opens_embeds binds_none = embeds_none _
  opens_embeds (lowered u f e o) = opens_embeds o
  opens_embeds (opens_unfolding o) = opens_embeds o
  opens_embeds (opens_field {b = b} {n = n} o) = embeds_field n b (opens_embeds o)
  opens_embeds (opens_record {m = m} {n = n} i o q) = embeds_more m n (types_embed o) (labels_embed q)

  pub types_embed : {names : List (List ℕ)} {c d : TypeContext} {p : Pats} {t : PlainTypes} {n : ℕ} {ts : List PlainType} → OpenTypes names c p t d n ts → Embeds (moved n 0) c d
  types_embed opens_none = embeds_none _
  types_embed (opens_more {m = m} {n = n} o q) = embeds_more m n (opens_embeds o) (types_embed q)

  pub labels_embed : {names : List (List ℕ)} {c d : TypeContext} {p : LabelledPats} {t : PlainLabels} {n : ℕ} {ts : List PlainType} → OpenLabels names c p t d n ts → Embeds (moved n 0) c d
  labels_embed opens_no_label = embeds_none _
  labels_embed (opens_label {m = m} {n = n} e o q) = embeds_more m n (opens_embeds o) (labels_embed q)
