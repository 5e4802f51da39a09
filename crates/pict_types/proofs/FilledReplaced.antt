-- Putting types for variables alone is a replacement.
use Rattle.std.proofs.Common.{◌≡◌, ℕ, zero, suc, ◌+◌, List, [], ◌∷◌, Option, Some, None, refl, sym, ◌∙◌, ap, ap₂, add-one, arith}
use Rattle.pict_types.specs.Types.{PlainType, Top, Int, Char, Str, Boolean, Var, Apply, Chan, Fields, Rec, PlainTypes, no_type, types, PlainLabels, no_label, labels, PlainBound, Free, Below, Operator, PlainBounds, no_bound, bounds, Plain}
use Rattle.pict_types.specs.Renaming.{rename}
use Rattle.pict_types.specs.Replacing.{bound_by, Filling, next_variable, apply_variable, filling_beyond, filling_beyond_all, fill, fill_types, fill_labels, fill_bounds, fill_bound, Head, variable, nothing, apply_head, rename_head, Replacement, replacement_beyond, replacement_beyond_all, replace, replace_types, replace_labels, replace_bounds, replace_bound, arguments, unfolding_of}
use Rattle.pict_types.specs.Filling.{put_for}
use Rattle.pict_types.specs.Types.{is_top}
use Rattle.pict_types.specs.Measures.{weigh, rise, measure_at}
use Rattle.pict_types.proofs.MeasuredAlike.{TopsAlike, weigh_filled, rise_filled, is_head}
use Rattle.pict_types.proofs.Congruent.{three}

abbrev head_as : Option ℕ → Head
head_as None = nothing
head_as (Some i) = variable i

further : (o : Option ℕ) → head_as (next_variable o) ≡ rename_head suc (head_as o)
further None = refl
further (Some i) = refl

applied : (o : Option ℕ) (us : PlainTypes) → apply_variable o us ≡ apply_head (head_as o) us
applied None us = refl
applied (Some i) us = refl

-- a replacement that puts no operator for an operator variable
pub record IsFilling (s : Filling) (r : Replacement) : Type 0 where
  pub types_ : (i : ℕ) → s.type_for i ≡ r.type_of i
  pub heads_ : (i : ℕ) → head_as (s.head_for i) ≡ r.head_of i

filling_further : {s : Filling} {r : Replacement} → IsFilling s r → IsFilling (filling_beyond s) (replacement_beyond r)
filling_further {s = s} {r = r} h = record { types_ = go; heads_ = go2 }
  where
    go : (i : ℕ) → (filling_beyond s).type_for i ≡ (replacement_beyond r).type_of i
    go zero = refl
    go (suc i) = ap (rename suc) (h.types_ i)

    go2 : (i : ℕ) → head_as ((filling_beyond s).head_for i) ≡ (replacement_beyond r).head_of i
    go2 zero = refl
    go2 (suc i) = further (s.head_for i) ∙ ap (rename_head suc) (h.heads_ i)

filling_under : {s : Filling} {r : Replacement} (bs : PlainBounds) → IsFilling s r → IsFilling (filling_beyond_all bs s) (replacement_beyond_all bs r)
filling_under no_bound h = h
filling_under (bounds b bs) h = filling_under bs (filling_further h)

mutual
  pub fill_replaces : {s : Filling} {r : Replacement} → IsFilling s r → (t : PlainType) → fill s t ≡ replace r t
  fill_replaces h Top = refl
  fill_replaces h Int = refl
  fill_replaces h Char = refl
  fill_replaces h Str = refl
  fill_replaces h Boolean = refl
  fill_replaces h (Var i) = h.types_ i
  fill_replaces {s = s} {r = r} h (Apply i ts) = applied (s.head_for i) (fill_types s ts) ∙ ap₂ apply_head (h.heads_ i) (fill_replaces_types h ts)
  fill_replaces h (Chan m t) = ap (Chan m) (fill_replaces h t)
  fill_replaces h (Fields bs ps ls) =
      three Fields (fill_replaces_bounds h bs) (fill_replaces_types (filling_under bs h) ps) (fill_replaces_labels (filling_under bs h) ls)
  fill_replaces h (Rec t) = ap Rec (fill_replaces (filling_further h) t)

  pub fill_replaces_types : {s : Filling} {r : Replacement} → IsFilling s r → (t : PlainTypes) → fill_types s t ≡ replace_types r t
  fill_replaces_types h no_type = refl
  fill_replaces_types h (types t ts) = ap₂ types (fill_replaces h t) (fill_replaces_types h ts)

  pub fill_replaces_labels : {s : Filling} {r : Replacement} → IsFilling s r → (t : PlainLabels) → fill_labels s t ≡ replace_labels r t
  fill_replaces_labels h no_label = refl
  fill_replaces_labels h (labels l t ts) = ap₂ (labels l) (fill_replaces h t) (fill_replaces_labels h ts)

  fill_replaces_bounds : {s : Filling} {r : Replacement} → IsFilling s r → (t : PlainBounds) → fill_bounds s t ≡ replace_bounds r t
  fill_replaces_bounds h no_bound = refl
  fill_replaces_bounds h (bounds b bs) = ap₂ bounds (fill_replaces_bound h b) (fill_replaces_bounds (filling_further h) bs)

  fill_replaces_bound : {s : Filling} {r : Replacement} → IsFilling s r → (b : PlainBound) → fill_bound s b ≡ replace_bound r b
  fill_replaces_bound h Free = refl
  fill_replaces_bound h (Below t) = ap bound_by (fill_replaces h t)
  fill_replaces_bound h (Operator n) = refl

nothing_more : (i : ℕ) → i + 0 ≡ i
nothing_more i = omega arith

-- a recursive type put for its own variable
whole : (t : PlainType) → IsFilling (put_for (types (Rec t) no_type) 0) (arguments (Plain (Rec t) ∷ []))
whole t = record { types_ = go; heads_ = go2 }
  where
    go : (i : ℕ) → (put_for (types (Rec t) no_type) 0).type_for i ≡ (arguments (Plain (Rec t) ∷ [])).type_of i
    go zero = refl
    go (suc i) = ap Var (nothing_more i)

    go2 : (i : ℕ) → head_as ((put_for (types (Rec t) no_type) 0).head_for i) ≡ (arguments (Plain (Rec t) ∷ [])).head_of i
    go2 zero = refl
    go2 (suc i) = ap variable (nothing_more i)

pub unfolding_filled : (t : PlainType) → fill (put_for (types (Rec t) no_type) 0) t ≡ unfolding_of t
unfolding_filled t = fill_replaces (whole t) t

-- where the variable stays, and weighs what the whole does, the body weighs what the unfolding does
stays_alike : (t : PlainType) → TopsAlike (put_for (types (Rec t) no_type) 0) (put_for (types (Var 0) no_type) 1)
stays_alike t = record { tops = go; heads = go2 }
  where
    go : (i : ℕ) → is_top ((put_for (types (Rec t) no_type) 0).type_for i) ≡ is_top ((put_for (types (Var 0) no_type) 1).type_for i)
    go zero = refl
    go (suc i) = refl

    go2 : (i : ℕ) → is_head ((put_for (types (Rec t) no_type) 0).head_for i) ≡ is_head ((put_for (types (Var 0) no_type) 1).head_for i)
    go2 zero = refl
    go2 (suc i) = refl

one_further : (w : ℕ) (ws : List ℕ) (i : ℕ) → measure_at ws (i + 0) ≡ measure_at (w ∷ ws) (i + 1)
one_further w ws i = ap (measure_at ws) (nothing_more i) ∙ sym (ap (measure_at (w ∷ ws)) (add-one i))

pub unfolding_weighs : (ws : List ℕ) (t : PlainType) → weigh ws (unfolding_of t) ≡ weigh (weigh ws (Rec t) ∷ ws) (fill (put_for (types (Var 0) no_type) 1) t)
unfolding_weighs ws t =
    ap (weigh ws) (sym (unfolding_filled t)) ∙ weigh_filled (record { weights = go; alike = stays_alike t }) t
  where
    go : (i : ℕ) → weigh ws ((put_for (types (Rec t) no_type) 0).type_for i) ≡ weigh (weigh ws (Rec t) ∷ ws) ((put_for (types (Var 0) no_type) 1).type_for i)
    go zero = refl
    go (suc i) = one_further (weigh ws (Rec t)) ws i

pub unfolding_rises : (ws : List ℕ) (t : PlainType) → rise ws (unfolding_of t) ≡ rise (rise ws (Rec t) ∷ ws) (fill (put_for (types (Var 0) no_type) 1) t)
unfolding_rises ws t =
    ap (rise ws) (sym (unfolding_filled t)) ∙ rise_filled (record { heights = go; alike = stays_alike t }) t
  where
    go : (i : ℕ) → rise ws ((put_for (types (Rec t) no_type) 0).type_for i) ≡ rise (rise ws (Rec t) ∷ ws) ((put_for (types (Var 0) no_type) 1).type_for i)
    go zero = refl
    go (suc i) = one_further (rise ws (Rec t)) ws i
