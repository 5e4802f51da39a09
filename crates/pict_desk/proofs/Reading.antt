-- The values of a frame, read out of a record field by field.
use Rattle.std.proofs.Common.{ℕ, zero, suc, ◌+◌, ◌<◌, ◌≤◌, ◌≡◌, ◌≢◌, ◌==◌, true, false, ◌||◌, List, [], ◌∷◌, ◌++◌, length, map, take, drop, set, get_or, refl, sym, ap, ◌∙◌, subst, arith, add-one, Option, Some, None}
use Rattle.std.proofs.Math.Seq.{take-suc}
use Rattle.std.proofs.lemmas.Bool.Decides.{nat_tests}
use Rattle.std.proofs.lemmas.List.{map-append, take-append-drop, get_or-set_other}
use Rattle.std.specs.List.{slice_get}
use Rattle.pict_core.specs.Term as term
use Rattle.pict_core.specs.Term.{Val, Vals, no_vals, more_vals}
use Rattle.pict_core.specs.Plain.{vals_of}
use Rattle.pict_code.specs.Levels.{Rises, has}
use Rattle.pict_code.proofs.Levels.{has_append}
use Rattle.pict_desk.specs.Known.{pair_at, value_in, known, list_of_vals, value_fields}
use Rattle.pict_heap.specs.Fields.{nth, positional_field}
use Rattle.pict_heap.specs.HeapState.{HeapState, value_of}
use Rattle.pict_heap.specs.Packed.{packed, FitsWord}
use Rattle.pict_heap.specs.declared.word.Word.{Word}
use Rattle.pict_desk.proofs.SoFar.{earlier_stay, rises_front, neither}
use Rattle.pict_desk.specs.Pairs.{IsPair}
use Rattle.pict_desk.proofs.Making.{take_whole}
use Rattle.pict_desk.proofs.Pairs.{value_packed, set_here}

pub list_back : (vs : List Val) → list_of_vals (vals_of vs) ≡ vs
list_back [] = refl
list_back (v ∷ vs) = ap (λ ws. v ∷ ws) (list_back vs)

nth_listed : (vs : Vals) (i : ℕ) → nth vs i ≡ slice_get (list_of_vals vs) i
nth_listed no_vals i = refl
nth_listed (more_vals v vs) zero = refl
nth_listed (more_vals v vs) (suc i) = nth_listed vs i

-- the fields of a value are its positional fields
pub field_listed : (v : Val) (i : ℕ) → positional_field v i ≡ slice_get (value_fields v) i
field_listed (term.Var n) i = refl
field_listed (term.Chan n) i = refl
field_listed (term.Int n) i = refl
field_listed (term.Char n) i = refl
field_listed (term.Boolean n) i = refl
field_listed (term.Text n) i = refl
field_listed (term.PrimitiveVal n) i = refl
field_listed (term.Record vs ls) i = nth_listed vs i

pub there_is_one : (vs : List Val) (i : ℕ) → i < length vs → slice_get vs i ≢ None
there_is_one [] i h = absurd (omega arith)
there_is_one (v ∷ vs) zero h = λ e. cc
there_is_one (v ∷ vs) (suc i) h = there_is_one vs i (omega arith)

took_more : (vs : List Val) (i : ℕ) (v : Val) → slice_get vs i ≡ Some v → take (suc i) vs ≡ take i vs ++ v ∷ []
took_more [] i v e = cc
took_more (x ∷ vs) zero v e = let h : x ≡ v = cc in ap (λ y. y ∷ []) h
took_more (x ∷ vs) (suc i) v e = ap (λ ys. x ∷ ys) (took_more vs i v e)

alone : (level l : ℕ) → has l (level ∷ []) ≡ false → l ≢ level
alone level l none same = let t : (l == level) ≡ true = grind (arith, nat_tests) in let e : (l == level) || false ≡ true = ap (λ b. b || false) t in cc

module _ (h : HeapState) (before values : List (ℕ × ℕ)) (frame : List ℕ) (i level : ℕ) (pair : ℕ × ℕ) (low : i < length frame) (is : level ≡ get_or frame i 0) where
  took : take (i + 1) frame ≡ take i frame ++ level ∷ []
  took = ap (λ n. take n frame) (add-one i) ∙ take-suc frame i 0 low ∙ ap (λ l. take i frame ++ l ∷ []) (sym is)

  pub field_read : (fields : List Val) (w : Word) → Rises 0 frame → FitsWord w → packed w ≡ pair → level < length values → slice_get fields i ≡ Some (value_of h w)
      → map (known h values) (take i frame) ≡ take i fields → map (known h (set values level pair)) (take (i + 1) frame) ≡ take (i + 1) fields
  field_read fields w rising fits packs inside there so_far =
      let rises : Rises 0 (take i frame ++ level ∷ []) = subst (Rises 0) took (rises_front 0 (take (i + 1) frame) (drop (i + 1) frame) (subst (Rises 0) (sym (take-append-drop (i + 1) frame)) rising)) in
      let stay : map (known h (set values level pair)) (take i frame) ≡ map (known h values) (take i frame) =
      earlier_stay (known h values) (known h (set values level pair)) 0 (take i frame) (level ∷ []) rises
      (λ l none. ap (λ (x : ℕ × ℕ). value_in h x.0 x.1) (get_or-set_other values level l pair (0, 0) (alone level l none))) in
      ap (map (known h (set values level pair))) took
      ∙ map-append (known h (set values level pair)) (take i frame) (level ∷ [])
      ∙ ap (λ vs. vs ++ known h (set values level pair) level ∷ []) (stay ∙ so_far)
      ∙ ap (λ v. take i fields ++ v ∷ []) (set_here h values level w pair fits packs inside)
      ∙ sym (ap (λ n. take n fields) (add-one i) ∙ took_more fields i (value_of h w) there)

  pub others_stay : (other : ℕ) → ((l : ℕ) → has l (take i frame) ≡ false → pair_at values l ≡ pair_at before l) → has other (take (i + 1) frame) ≡ false → pair_at (set values level pair) other ≡ pair_at before other
  others_stay other so_far none =
      let both = neither (has other (take i frame)) (has other (level ∷ [])) (sym (has_append other (take i frame) (level ∷ [])) ∙ ap (has other) (sym took) ∙ none) in
      get_or-set_other values level other pair (0, 0) (alone level other both.1) ∙ so_far other both.0

-- ---- the whole of it

pub read_all : (f : ℕ → Val) (frame : List ℕ) (fields : List Val) (i : ℕ) → length fields ≡ length frame → length frame ≤ i → map f (take i frame) ≡ take i fields → map f frame ≡ fields
read_all f frame fields i many end e = ap (map f) (sym (take_whole frame i end)) ∙ e ∙ take_whole fields i (omega (arith, many, end))

pub others_all : (before values : List (ℕ × ℕ)) (frame : List ℕ) (i level : ℕ) → length frame ≤ i → ((l : ℕ) → has l (take i frame) ≡ false → pair_at values l ≡ pair_at before l) → has level frame ≡ false → pair_at values level ≡ pair_at before level
others_all before values frame i level end others none = others level (ap (has level) (take_whole frame i end) ∙ none)

-- the word of the record
pub whole_value : (h : HeapState) (pair : ℕ × ℕ) (w : Word) → IsPair h pair → ((x : Word) → FitsWord x → packed x ≡ pair → w ≡ x) → value_of h w ≡ value_in h pair.0 pair.1
whole_value h pair w p back = ap (value_of h) (back p.word p.fits p.packs) ∙ sym (value_packed h p.word pair p.fits p.packs)

-- what its field is
pub field_there : (h : HeapState) (pair : ℕ × ℕ) (w : Word) (i : ℕ) (o : Option Val) → value_of h w ≡ value_in h pair.0 pair.1 → o ≡ positional_field (value_of h w) i → slice_get (value_fields (value_in h pair.0 pair.1)) i ≡ o
field_there h pair w i o same e = sym (field_listed (value_in h pair.0 pair.1) i) ∙ ap (λ v. positional_field v i) (sym same) ∙ sym e
