-- Parts that a loop reads one after the other.
use Rattle.std.proofs.Common.{◌≡◌, ℕ, suc, ◌+◌, ◌-◌, ◌≤◌, ◌<◌, List, [], ◌∷◌, ◌++◌, Option, Some, None, refl, sym, ap, ◌∙◌, append_assoc, arith}
use Rattle.std.specs.Int.{w32}
use Rattle.std.proofs.lemmas.List.{append-nil}
use Rattle.pict_syntax.specs.declared.name.Name.{Name}
use Rattle.pict_object.specs.declared.error.DecodeError.{DecodeError}
use Rattle.pict_object.specs.declared.error.DecodeError.TheVariants as error
use Rattle.pict_object.specs.Reading.{◌>>=◌, Refuses, number_at, label_in, label_at, parts_at, counted_at, fields_at, labelled_at}

-- what was read before, and what is still read
abbrev pub with_front : {A : Type 0} → List A → Option (List A × List ℕ) → Option (List A × List ℕ)
with_front front read = read >>= λ x. Some (front ++ x.0, x.1)

no_front : {A : Type 0} (read : Option (List A × List ℕ)) → with_front [] read ≡ read
no_front (Some x) = refl
no_front None = refl

regroup : {A : Type 0} (front : List A) (x : A) (read : Option (List A × List ℕ)) → with_front front (read >>= λ y. Some (x ∷ y.0, y.1)) ≡ with_front (front ++ x ∷ []) read
regroup front x (Some y) = ap (λ xs. Some (xs, y.1)) (sym (append_assoc front (x ∷ []) y.0))
regroup front x None = refl

done_front : {A : Type 0} (front : List A) (bytes : List ℕ) → with_front front (Some ([], bytes)) ≡ Some (front, bytes)
done_front front bytes = ap (λ xs. Some (xs, bytes)) (append-nil front)

module _ {A : Type 0} (part : List ℕ → Option (A × List ℕ)) where
  part_more : (front : List A) (m : ℕ) (bytes : List ℕ) (x : A) (after : List ℕ) → part bytes ≡ Some (x, after) → with_front front (parts_at part (suc m) bytes) ≡ with_front (front ++ x ∷ []) (parts_at part m after)
  unfolding parts_at
  part_more front m bytes x after h =
      ap (λ z. with_front front (z >>= λ first. parts_at part m first.1 >>= λ others. Some (first.0 ∷ others.0, others.1))) h ∙ regroup front x (parts_at part m after)

  part_none : (front : List A) (m : ℕ) (bytes : List ℕ) → part bytes ≡ None → with_front front (parts_at part (suc m) bytes) ≡ None
  unfolding parts_at
  part_none front m bytes h = ap (λ z. with_front front (z >>= λ first. parts_at part m first.1 >>= λ others. Some (first.0 ∷ others.0, others.1))) h

  part_end : (front : List A) (bytes : List ℕ) → with_front front (parts_at part 0 bytes) ≡ Some (front, bytes)
  unfolding parts_at
  part_end front bytes = done_front front bytes

  pub count_ends : (e : DecodeError) (bytes : List ℕ) → Refuses e (number_at w32 bytes) → Refuses e (counted_at part bytes)
  unfolding counted_at
  count_ends error.Memory bytes h = tt
  count_ends error.NotObject bytes h = ap (λ z. z >>= λ n. parts_at part n.0 n.1) h

  pub begins : (front : List A) (count : ℕ) (bytes rest : List ℕ) → front ≡ [] → number_at w32 bytes ≡ Some (count, rest) → with_front front (parts_at part (count - 0) rest) ≡ counted_at part bytes
  unfolding counted_at
  begins front count bytes rest f h =
      let k : count - 0 ≡ count = omega arith in
      ap (λ z. with_front z (parts_at part (count - 0) rest)) f ∙ no_front (parts_at part (count - 0) rest) ∙ ap (λ m. parts_at part m rest) k ∙ ap (λ z. z >>= λ n. parts_at part n.0 n.1) (sym h)

  pub goes_on : (front : List A) (count i : ℕ) (bytes : List ℕ) (x : A) (after : List ℕ) (total : Option (List A × List ℕ)) → i < count → part bytes ≡ Some (x, after)
      → with_front front (parts_at part (count - i) bytes) ≡ total → with_front (front ++ x ∷ []) (parts_at part (count - (i + 1)) after) ≡ total
  goes_on front count i bytes x after total lt h so_far =
      let k : count - i ≡ suc (count - (i + 1)) = omega arith in
      sym (part_more front (count - (i + 1)) bytes x after h) ∙ ap (λ m. with_front front (parts_at part m bytes)) (sym k) ∙ so_far

  pub ends : (e : DecodeError) (front : List A) (count i : ℕ) (bytes : List ℕ) (total : Option (List A × List ℕ)) → i < count → Refuses e (part bytes)
      → with_front front (parts_at part (count - i) bytes) ≡ total → Refuses e total
  ends error.Memory front count i bytes total lt h so_far = tt
  ends error.NotObject front count i bytes total lt h so_far =
      let k : count - i ≡ suc (count - (i + 1)) = omega arith in
      sym so_far ∙ ap (λ m. with_front front (parts_at part m bytes)) k ∙ part_none front (count - (i + 1)) bytes h

  pub is_done : (front : List A) (count i : ℕ) (bytes : List ℕ) (total : Option (List A × List ℕ)) → count ≤ i → with_front front (parts_at part (count - i) bytes) ≡ total → total ≡ Some (front, bytes)
  is_done front count i bytes total le so_far =
      let k : count - i ≡ 0 = omega arith in
      sym so_far ∙ ap (λ m. with_front front (parts_at part m bytes)) k ∙ part_end front bytes

module _ {A : Type 0} (labels : List Name) (part : List ℕ → Option (A × List ℕ)) where
  field_more : (front : List (Name × A)) (m from : ℕ) (bytes : List ℕ) (place : ℕ) (behind : List ℕ) (x : A) (after : List ℕ) → label_at labels from bytes ≡ Some (place, behind) → part behind ≡ Some (x, after)
      → with_front front (fields_at labels part (suc m) from bytes) ≡ with_front (front ++ (label_in labels place, x) ∷ []) (fields_at labels part m (place + 1) after)
  unfolding fields_at
  field_more front m from bytes place behind x after h k =
      ap (λ z. with_front front (z >>= λ n. part n.1 >>= λ first. fields_at labels part m (n.0 + 1) first.1 >>= λ others. Some ((label_in labels n.0, first.0) ∷ others.0, others.1))) h
      ∙ ap (λ z. with_front front (z >>= λ first. fields_at labels part m (place + 1) first.1 >>= λ others. Some ((label_in labels place, first.0) ∷ others.0, others.1))) k
      ∙ regroup front (label_in labels place, x) (fields_at labels part m (place + 1) after)

  label_none : (front : List (Name × A)) (m from : ℕ) (bytes : List ℕ) → label_at labels from bytes ≡ None → with_front front (fields_at labels part (suc m) from bytes) ≡ None
  unfolding fields_at
  label_none front m from bytes h =
      ap (λ z. with_front front (z >>= λ n. part n.1 >>= λ first. fields_at labels part m (n.0 + 1) first.1 >>= λ others. Some ((label_in labels n.0, first.0) ∷ others.0, others.1))) h

  field_none : (front : List (Name × A)) (m from : ℕ) (bytes : List ℕ) (place : ℕ) (behind : List ℕ) → label_at labels from bytes ≡ Some (place, behind) → part behind ≡ None → with_front front (fields_at labels part (suc m) from bytes) ≡ None
  unfolding fields_at
  field_none front m from bytes place behind h k =
      ap (λ z. with_front front (z >>= λ n. part n.1 >>= λ first. fields_at labels part m (n.0 + 1) first.1 >>= λ others. Some ((label_in labels n.0, first.0) ∷ others.0, others.1))) h
      ∙ ap (λ z. with_front front (z >>= λ first. fields_at labels part m (place + 1) first.1 >>= λ others. Some ((label_in labels place, first.0) ∷ others.0, others.1))) k

  field_end : (front : List (Name × A)) (from : ℕ) (bytes : List ℕ) → with_front front (fields_at labels part 0 from bytes) ≡ Some (front, bytes)
  unfolding fields_at
  field_end front from bytes = done_front front bytes

  pub fields_count_ends : (e : DecodeError) (bytes : List ℕ) → Refuses e (number_at w32 bytes) → Refuses e (labelled_at labels part bytes)
  unfolding labelled_at
  fields_count_ends error.Memory bytes h = tt
  fields_count_ends error.NotObject bytes h = ap (λ z. z >>= λ n. fields_at labels part n.0 0 n.1) h

  pub fields_begin : (front : List (Name × A)) (count : ℕ) (bytes rest : List ℕ) → front ≡ [] → number_at w32 bytes ≡ Some (count, rest) → with_front front (fields_at labels part (count - 0) 0 rest) ≡ labelled_at labels part bytes
  unfolding labelled_at
  fields_begin front count bytes rest f h =
      let k : count - 0 ≡ count = omega arith in
      ap (λ z. with_front z (fields_at labels part (count - 0) 0 rest)) f ∙ no_front (fields_at labels part (count - 0) 0 rest) ∙ ap (λ m. fields_at labels part m 0 rest) k ∙ ap (λ z. z >>= λ n. fields_at labels part n.0 0 n.1) (sym h)

  pub fields_go_on : (front : List (Name × A)) (count i from : ℕ) (bytes : List ℕ) (place : ℕ) (behind : List ℕ) (x : A) (after : List ℕ) (total : Option (List (Name × A) × List ℕ)) → i < count
      → label_at labels from bytes ≡ Some (place, behind) → part behind ≡ Some (x, after) → with_front front (fields_at labels part (count - i) from bytes) ≡ total
      → with_front (front ++ (label_in labels place, x) ∷ []) (fields_at labels part (count - (i + 1)) (place + 1) after) ≡ total
  fields_go_on front count i from bytes place behind x after total lt l h so_far =
      let k : count - i ≡ suc (count - (i + 1)) = omega arith in
      sym (field_more front (count - (i + 1)) from bytes place behind x after l h) ∙ ap (λ m. with_front front (fields_at labels part m from bytes)) (sym k) ∙ so_far

  pub label_ends : (e : DecodeError) (front : List (Name × A)) (count i from : ℕ) (bytes : List ℕ) (total : Option (List (Name × A) × List ℕ)) → i < count → Refuses e (label_at labels from bytes)
      → with_front front (fields_at labels part (count - i) from bytes) ≡ total → Refuses e total
  label_ends error.Memory front count i from bytes total lt h so_far = tt
  label_ends error.NotObject front count i from bytes total lt h so_far =
      let k : count - i ≡ suc (count - (i + 1)) = omega arith in
      sym so_far ∙ ap (λ m. with_front front (fields_at labels part m from bytes)) k ∙ label_none front (count - (i + 1)) from bytes h

  pub field_ends : (e : DecodeError) (front : List (Name × A)) (count i from : ℕ) (bytes : List ℕ) (place : ℕ) (behind : List ℕ) (total : Option (List (Name × A) × List ℕ)) → i < count
      → label_at labels from bytes ≡ Some (place, behind) → Refuses e (part behind) → with_front front (fields_at labels part (count - i) from bytes) ≡ total → Refuses e total
  field_ends error.Memory front count i from bytes place behind total lt l h so_far = tt
  field_ends error.NotObject front count i from bytes place behind total lt l h so_far =
      let k : count - i ≡ suc (count - (i + 1)) = omega arith in
      sym so_far ∙ ap (λ m. with_front front (fields_at labels part m from bytes)) k ∙ field_none front (count - (i + 1)) from bytes place behind l h

  pub fields_done : (front : List (Name × A)) (count i from : ℕ) (bytes : List ℕ) (total : Option (List (Name × A) × List ℕ)) → count ≤ i → with_front front (fields_at labels part (count - i) from bytes) ≡ total → total ≡ Some (front, bytes)
  fields_done front count i from bytes total le so_far =
      let k : count - i ≡ 0 = omega arith in
      sym so_far ∙ ap (λ m. with_front front (fields_at labels part m from bytes)) k ∙ field_end front from bytes
