-- A closed value of a closed type has the form of one, and what follows for channels, senders, readers and conditions.
use Rattle.std.specs.Prelude.{slice_get, nat_eq}
use Rattle.std.proofs.lemmas.Bool.{eqb-true, eq-eqb, ne_eqb}
use Rattle.std.proofs.Common.{◌≡◌, ℕ, Bool, true, false, List, [], refl, sym, ◌∙◌, Some}
use Rattle.pict_syntax.specs.declared.primitive.Primitive.{Primitive}
use Rattle.pict_types.specs.Types.{Read, Write, PlainType, Boolean, Chan, Rec, PlainTypes, PlainLabels}
use Rattle.pict_types.specs.Replacing.{unfolding_of}
use Rattle.pict_types.specs.PrimitiveTypes.{takes}
use Rattle.pict_sub.specs.Subtyping.{IsSubtype, same}
use Rattle.pict_core.specs.Term as core
use Rattle.pict_core.specs.Term.{Val, Vals, Labelled, no_labelled, more_labelled}
use Rattle.pict_core.specs.Closed.{IsDistinct, Lacks}
use Rattle.pict_core.specs.Matching.{field_at}
use Rattle.pict_typing.specs.Erasing.{erased}
use Rattle.pict_typing.specs.Worlds.{over, IsTypeIn}
use Rattle.pict_typing.specs.Values.{HasType, variable_has, channel_has, int_has, char_has, boolean_has, text_has, primitive_has, record_has, packed, folded, unfolded, sends_unfolding, raised, HaveTypes, none_have, more_have, HaveLabels, none_labelled, more_labels}
use Rattle.pict_typing.specs.Processes.{AreClosedTypes}
use Rattle.pict_typing.proofs.Closed.{closed_type}
use Rattle.pict_typing.proofs.Forms.{MaySend, by_subtyping, by_unfolding, both_ways, both_fits, read_fits, write_fits, Fits, int_fits, char_fits, boolean_fits, text_fits, channel_fits, primitive_fits, record_fits, package_fits, fold_fits, AllFit, none_fit, more_fit, LabelsFit, none_left, found, takes_type, unfolding_type, fold_inside}
use Rattle.pict_typing.proofs.Above.{fits_above}

-- ---- labels: a field in front hides none of the others

lacks_found : (l m : ℕ) (ws : Labelled) (v : Val) → Lacks l ws → field_at m ws ≡ Some v → nat_eq m l ≡ false
lacks_found l m no_labelled v x e = absurd (cc)
lacks_found l m (more_labelled k u ws) v x e = go (nat_eq m k) refl (lacks_found l m ws v x.1)
  where
    go : (b : Bool) → nat_eq m k ≡ b → (field_at m ws ≡ Some v → nat_eq m l ≡ false) → nat_eq m l ≡ false
    go true q r = let j : m ≡ k = eqb-true m k q in ne_eqb m l (λ i. x.0 (sym i ∙ j))
    go false q r = r (rw q at e)

one_label_more : {names : List (List ℕ)} {ms : List PlainType} {ws : Labelled} {ls : PlainLabels} (l : ℕ) (v : Val) → Lacks l ws → LabelsFit names ms ws ls → LabelsFit names ms (more_labelled l v ws) ls
one_label_more l v x none_left = none_left
one_label_more {ws = ws} l v x (found {l = m} {v = u} f y z) = found (rw (lacks_found l m ws u x f) f) y (one_label_more l v x z)

module _ (names : List (List ℕ)) (ms : List PlainType) (closed_ : AreClosedTypes names ms) where
  -- the type of a closed value is closed
  pub has_closed : {v : Val} {t : PlainType} → HasType (over names ms) v t → IsTypeIn names [] t
  has_closed (variable_has e) = absurd (cc)
  has_closed (channel_has {c = c} {t = t} e) = closed_type names ms c t closed_ e
  has_closed int_has = tt
  has_closed char_has = tt
  has_closed boolean_has = tt
  has_closed text_has = tt
  has_closed (primitive_has {p = p}) = takes_type names p
  has_closed (record_has i x y w) = w
  has_closed (packed a may w h) = w
  has_closed (folded w h) = w
  has_closed (unfolded {t = t} w h) = unfolding_type names t w
  has_closed (sends_unfolding {t = t} w h) = unfolding_type names t w
  has_closed (raised s f g h d) = g

  -- ---- canonical forms

  sends_inside : {v : Val} {t : PlainType} → IsTypeIn names [] (Rec t) → Fits names ms v (Chan Write (Rec t)) → Fits names ms v (Chan Write (unfolding_of t))
  sends_inside w (channel_fits e (write_fits x)) = channel_fits e (write_fits (by_unfolding w x))
  sends_inside w (primitive_fits x) = primitive_fits (by_unfolding w x)

  mutual
    pub canonical : {v : Val} {t : PlainType} → HasType (over names ms) v t → Fits names ms v t
    canonical (variable_has e) = absurd (cc)
    canonical (channel_has e) = channel_fits e both_fits
    canonical int_has = int_fits
    canonical char_has = char_fits
    canonical boolean_has = boolean_fits
    canonical text_has = text_fits
    canonical primitive_has = primitive_fits (by_subtyping same)
    canonical (record_has i x y w) = record_fits (record_has i x y w) (all_canonical x) (labels_canonical i y)
    canonical (packed a may w h) = package_fits a may (canonical h)
    canonical (folded w h) = fold_fits (canonical h)
    canonical (unfolded w h) = fold_inside (canonical h)
    canonical (sends_unfolding w h) = sends_inside w (canonical h)
    canonical (raised s {t = t} f g h d) = fits_above names ms closed_ t f g (canonical h) d

    all_canonical : {vs : Vals} {ts : PlainTypes} → HaveTypes (over names ms) vs ts → AllFit names ms vs ts
    all_canonical none_have = none_fit
    all_canonical (more_have h x) = more_fit (canonical h) (all_canonical x)

    labels_canonical : {ws : Labelled} {ls : PlainLabels} → IsDistinct ws → HaveLabels (over names ms) ws ls → LabelsFit names ms ws ls
    labels_canonical i none_labelled = none_left
    labels_canonical i (more_labels {label = l} {v = v} {vs = vs} h x) = found (rw (eq-eqb l l refl) refl) (canonical h) (one_label_more l v i.0 (labels_canonical i.1 x))

  -- ---- what follows for steps

  -- what may be sent as a value of type t is one
  pub sent_fits : {v : Val} {s t : PlainType} → IsTypeIn names [] s → IsTypeIn names [] t → MaySend names s t → Fits names ms v s → Fits names ms v t
  sent_fits {t = t} f g (by_subtyping d) x = fits_above names ms closed_ t f g x d
  sent_fits f g (by_unfolding w y) x = sent_fits w g y (fold_fits x)
  sent_fits f g (both_ways u w y z) x = sent_fits w g z (sent_fits f w y x)

  -- a condition is a truth value
  pub record IsTruthValue (v : Val) : Type 0 where
    pub truth : Bool
    pub is : v ≡ core.Boolean truth

  pub condition : {v : Val} → HasType (over names ms) v Boolean → IsTruthValue v
  condition h = of_form (canonical h)
    where
      of_form : {v : Val} → Fits names ms v Boolean → IsTruthValue v
      of_form (boolean_fits {b = b}) = record { truth = b; is = refl }

  -- what values of type t are received from is a channel, whose messages have that type
  pub record IsReadable (t : PlainType) (v : Val) : Type 0 where
    pub number : ℕ
    pub message : PlainType
    pub is : v ≡ core.Chan number
    pub typed : slice_get ms number ≡ Some message
    pub below : IsSubtype [] message t

  pub readable : {v : Val} {t : PlainType} → HasType (over names ms) v (Chan Read t) → IsReadable t v
  readable h = of_form (canonical h)
    where
      of_form : {v : Val} {t : PlainType} → Fits names ms v (Chan Read t) → IsReadable t v
      of_form (channel_fits {c = c} {t = m} e (read_fits d)) = record { number = c; message = m; is = refl; typed = e; below = d }

  -- what values of type t are sent to is a channel or a primitive, which takes them
  pub data IsWritable (t : PlainType) : Val → Type 0 where
    to_channel : {c : ℕ} {m : PlainType} → slice_get ms c ≡ Some m → MaySend names t m → IsWritable t (core.Chan c)
    to_primitive : {p : Primitive} → MaySend names t (erased (takes p)) → IsWritable t (core.PrimitiveVal p)

  pub writable : {v : Val} {t : PlainType} → HasType (over names ms) v (Chan Write t) → IsWritable t v
  writable h = of_form (canonical h)
    where
      of_form : {v : Val} {t : PlainType} → Fits names ms v (Chan Write t) → IsWritable t v
      of_form (channel_fits e (write_fits x)) = to_channel e x
      of_form (primitive_fits x) = to_primitive x
