-- What is typed names no other variables and channels than those of its world, and no label twice in a record.
use Rattle.std.proofs.Common.{◌≡◌, ℕ, ◌+◌, List, [], ◌∷◌, ◌++◌, map, length, refl, ◌∙◌, ap₂, subst, length-append}
use Rattle.std.proofs.lemmas.List.{length-map}
use Rattle.std.proofs.lemmas.Option.{slice_get_within}
use Rattle.pict_types.specs.Types.{Both, PlainType, Chan, PlainTypes, PlainLabels, TypeContext}
use Rattle.pict_core.specs.Term.{Val, Vals, Labelled, Pat, Pats, LabelledPats, Process}
use Rattle.pict_core.specs.Closed.{binds, binds_all, binds_labelled, IsOver, AreOver, LabelledOver, IsUnder}
use Rattle.pict_core.specs.Configuration.{Entry, AreClosed}
use Rattle.pict_typing.specs.Worlds.{World, over, shifted}
use Rattle.pict_typing.specs.Values.{HasType, variable_has, channel_has, int_has, char_has, boolean_has, text_has, primitive_has, record_has, packed, folded, unfolded, sends_unfolding, raised, HaveTypes, none_have, more_have, HaveLabels, none_labelled, more_labels}
use Rattle.pict_typing.specs.Opening.{Opens, binds_one, binds_none, lowered, opens_unfolding, opens_field, opens_record, OpenTypes, opens_none, opens_more, OpenLabels, opens_no_label, opens_label}
use Rattle.pict_typing.specs.Processes.{IsTyped, inert, beside, fresh, output, input, test, AreTyped}
use Rattle.pict_typing.specs.Laws.{TypedAreClosed}

-- ---- values

mutual
  has_over : {w : World} {v : Val} {t : PlainType} → HasType w v t → IsOver (length w.variables) (length w.messages) v
  has_over {w = w} (variable_has {level = l} {t = t} e) = slice_get_within w.variables l t e
  has_over {w = w} (channel_has {c = c} {t = t} e) = slice_get_within w.messages c t e
  has_over int_has = tt
  has_over char_has = tt
  has_over boolean_has = tt
  has_over text_has = tt
  has_over primitive_has = tt
  has_over (record_has i x y f) = (fields_over x, labels_over y, i)
  has_over (packed a may f h) = has_over h
  has_over (folded f h) = has_over h
  has_over (unfolded f h) = has_over h
  has_over (sends_unfolding f h) = has_over h
  has_over (raised s f g h e) = has_over h

  fields_over : {w : World} {v : Vals} {t : PlainTypes} → HaveTypes w v t → AreOver (length w.variables) (length w.messages) v
  fields_over none_have = tt
  fields_over (more_have h x) = (has_over h, fields_over x)

  labels_over : {w : World} {v : Labelled} {t : PlainLabels} → HaveLabels w v t → LabelledOver (length w.variables) (length w.messages) v
  labels_over none_labelled = tt
  labels_over (more_labels h x) = (has_over h, labels_over x)

-- ---- patterns: as many types as variables

together : (n : ℕ) (ts us : List PlainType) (a b : ℕ) → length ts ≡ a → length us ≡ b → length (map (shifted n) ts ++ us) ≡ a + b
together n ts us a b x y = length-append (map (shifted n) ts) us ∙ ap₂ (λ i j. i + j) (length-map ts (shifted n) ∙ x) y

mutual
  opens_count : {names : List (List ℕ)} {c d : TypeContext} {p : Pat} {t : PlainType} {n : ℕ} {ts : List PlainType} → Opens names c p t d n ts → length ts ≡ binds p
  opens_count binds_one = refl
  opens_count binds_none = refl
  opens_count (lowered u f e o) = opens_count o
  opens_count (opens_unfolding o) = opens_count o
  opens_count (opens_field o) = opens_count o
  opens_count (opens_record {qs = qs} {rs = rs} {n = n} {ts = ts} {us = us} i o q) = together n ts us (binds_all qs) (binds_labelled rs) (fields_count o) (labels_count q)

  fields_count : {names : List (List ℕ)} {c d : TypeContext} {p : Pats} {t : PlainTypes} {n : ℕ} {ts : List PlainType} → OpenTypes names c p t d n ts → length ts ≡ binds_all p
  fields_count opens_none = refl
  fields_count (opens_more {q = k} {qs = qs} {n = n} {ts = ts} {us = us} o q) = together n ts us (binds k) (binds_all qs) (opens_count o) (fields_count q)

  labels_count : {names : List (List ℕ)} {c d : TypeContext} {p : LabelledPats} {t : PlainLabels} {n : ℕ} {ts : List PlainType} → OpenLabels names c p t d n ts → length ts ≡ binds_labelled p
  labels_count opens_no_label = refl
  labels_count (opens_label {q = k} {qs = qs} {n = n} {ts = ts} {us = us} e o q) = together n ts us (binds k) (binds_labelled qs) (opens_count o) (labels_count q)

-- ---- processes

typed_under : {w : World} {p : Process} → IsTyped w p → IsUnder (length w.variables) (length w.messages) p
typed_under inert = tt
typed_under (beside p q) = (typed_under p, typed_under q)
typed_under {w = w} (fresh {p = p} t f h) = subst (λ n. IsUnder n (length w.messages) p) (length-append w.variables (Chan Both t ∷ [])) (typed_under h)
typed_under (output t f g h) = (has_over g, has_over h)
typed_under {w = w} (input {p = p} {body = body} {n = n} {ts = ts} t f g o h) =
    (has_over g, subst (λ k. IsUnder k (length w.messages) body) (together n w.variables ts (length w.variables) (binds p) refl (opens_count o)) (typed_under h))
typed_under (test h p q) = (has_over h, typed_under p, typed_under q)

entries_closed : (names : List (List ℕ)) (ms : List PlainType) (es : List Entry) → AreTyped (over names ms) es → AreClosed (length ms) es
entries_closed names ms [] x = tt
entries_closed names ms (e ∷ es) x = (typed_under x.0, entries_closed names ms es x.1)

pub typed_are_closed : TypedAreClosed
typed_are_closed names C good = subst (λ n. AreClosed n C.entries) good.one_each (entries_closed names good.messages C.entries good.typed)
