-- What a printer wrote of a run.
use Rattle.std.proofs.Common.{◌≡◌, ℕ, List, [], ◌∷◌, ◌++◌, Option, Some, None, refl, sym, ◌∙◌, ap, append_assoc, inl, inr}
use Rattle.std.proofs.lemmas.List.{append-nil}
use Rattle.std.specs.Io.KnownBytes.{Appends}
use Rattle.pict_outside.specs.Bytes.{AppendsFront, IsFrontOf}
use Rattle.pict_core.specs.Step.{Label}
use Rattle.pict_view.specs.Watching.{view_after, Saw, SawOrTore, IsTorn}
use Rattle.pict_top.specs.Printed.{Form, written_in, written_after, WrittenInPart}

module _ (form : Form) where
  pub written-append : (ls ms : List (ℕ × Label)) → written_in form (ls ++ ms) ≡ written_in form ls ++ written_in form ms
  written-append [] ms = refl
  written-append (l ∷ ls) ms = ap (λ b. form l.0 l.1 ++ b) (written-append ls ms) ∙ sym (append_assoc (form l.0 l.1) (written_in form ls) (written_in form ms))

  view_is : (bytes : List ℕ) (labels : List (ℕ × Label)) → view_after (written_after form) bytes labels ≡ bytes ++ written_in form labels
  view_is bytes [] = sym (append-nil bytes)
  view_is bytes (l ∷ ls) = view_is (bytes ++ form l.0 l.1) ls ∙ append_assoc bytes (form l.0 l.1) (written_in form ls)

  pub saw_all : (before after : Option (List ℕ)) (labels : List (ℕ × Label)) → Saw (written_after form) before after labels → Appends before after (written_in form labels)
  saw_all None after labels saw = tt
  saw_all (Some before) None labels saw = saw
  saw_all (Some before) (Some after) labels saw = saw ∙ view_is before labels

  -- a beginning of what is written of the labels, with more labels behind them
  front_of : (before after front : List ℕ) (labels rest : List (ℕ × Label)) → after ≡ before ++ front → IsFrontOf front (written_in form labels) → AppendsFront (Some before) (Some after) (written_in form (labels ++ rest))
  front_of before after front labels rest is part = record {
    front = front;
    of_whole = record { rest = part.rest ++ written_in form rest; joined = sym (append_assoc front part.rest (written_in form rest)) ∙ ap (λ l. l ++ written_in form rest) part.joined ∙ sym (written-append labels rest) };
    appended = is;
  }

  torn_front : (before after : List ℕ) (labels rest : List (ℕ × Label)) → IsTorn (written_after form) (WrittenInPart form) labels before after → AppendsFront (Some before) (Some after) (written_in form (labels ++ rest))
  torn_front before after labels rest (front, last, is, (part, of_last, wrote)) =
      let whole : written_in form labels ≡ written_in form front ++ form last.0 last.1 = ap (written_in form) is ∙ written-append front (last ∷ []) ∙ ap (λ l. written_in form front ++ l) (append-nil (form last.0 last.1)) in
      front_of before after (written_in form front ++ part) labels rest (wrote ∙ ap (λ l. l ++ part) (view_is before front) ∙ append_assoc before (written_in form front) part)
      (record { rest = of_last.rest; joined = append_assoc (written_in form front) part of_last.rest ∙ ap (λ l. written_in form front ++ l) of_last.joined ∙ sym whole })

  pub saw_part : (before after : Option (List ℕ)) (labels rest : List (ℕ × Label)) → SawOrTore (written_after form) (WrittenInPart form) before after labels → AppendsFront before after (written_in form (labels ++ rest))
  saw_part None after labels rest saw = record { front = []; of_whole = record { rest = written_in form (labels ++ rest); joined = refl }; appended = tt }
  saw_part (Some before) None labels rest saw = absurd saw
  saw_part (Some before) (Some after) labels rest (inl saw) = front_of before after (written_in form labels) labels rest (saw ∙ view_is before labels) (record { rest = []; joined = append-nil (written_in form labels) })
  saw_part (Some before) (Some after) labels rest (inr torn) = torn_front before after labels rest torn
