-- What the pieces of a line say, when one is taken and others are put back.
use Rattle.std.proofs.Common.{◌≡◌, ℕ, ◌+◌, ◌<◌, List, [], ◌∷◌, ◌++◌, map, length, refl, sym, ◌∙◌, ap, append_assoc, append-nil, slice_range, slice_index_or, take, ◌-◌, ◌==◌, true, false, suc, ℤ, pos, negsuc, FitsSigned, w64, length-append, arith}
use Rattle.std.proofs.Math.Seq.{take-length}
use Rattle.std.specs.Fmt.{decimal, signed_decimal}
use Rattle.std.proofs.lemmas.Fmt.{decimal_nonempty}
use Rattle.std.specs.List.{flat_map, join_with_byte}
use Rattle.pict_syntax.specs.Names.{text_of}
use Rattle.pict_core.specs.Term.{Val, Vals, Labelled, no_vals, more_vals, more_labelled}
use Rattle.pict_show.specs.Values.{value_text, positional_texts, labelled_texts}
use Rattle.pict_show.specs.Pending.{rest_text, fields_text, piece_text, pending}
use Rattle.pict_show.specs.declared.value.Piece.{Piece}
use Rattle.pict_core.specs.Plain.{plain_val, plain_field, vals_of, labelled_of}
use Rattle.pict_core.specs.declared.value.CoreVal.{CoreVal}
use Rattle.pict_syntax.specs.declared.name.Name.{Name}

pub pending_push : (names : List (List ℕ)) (ps : List Piece) (p : Piece) (after : List ℕ) → pending names (ps ++ p ∷ []) after ≡ piece_text names p ++ pending names ps after
pending_push names [] p after = refl
pending_push names (q ∷ qs) p after = pending_push names qs p (piece_text names q ++ after)

pub join_rest : (x : List ℕ) (ys : List (List ℕ)) → join_with_byte 32 (x ∷ ys) ≡ x ++ flat_map (λ t. 32 ∷ t) ys
join_rest x [] = sym (append-nil x)
join_rest x (y ∷ ys) = ap (λ t. x ++ (32 ∷ t)) (join_rest y ys)

pub first_positional : (names : List (List ℕ)) (v : Val) (vs : Vals) (ls : Labelled) → fields_text names (more_vals v vs) ls ≡ value_text names v ++ rest_text names vs ls
first_positional names v vs ls =
    let others = positional_texts names vs ++ labelled_texts names ls in
    ap (λ t. t ++ 93 ∷ []) (join_rest (value_text names v) others) ∙ append_assoc (value_text names v) (flat_map (λ t. 32 ∷ t) others) (93 ∷ [])

pub first_labelled : (names : List (List ℕ)) (label : ℕ) (v : Val) (ls : Labelled)
    → fields_text names no_vals (more_labelled label v ls) ≡ text_of names label ++ (61 ∷ (value_text names v ++ rest_text names no_vals ls))
first_labelled names label v ls =
    let front = text_of names label in
    let others = labelled_texts names ls in
    ap (λ t. t ++ 93 ∷ []) (join_rest (front ++ (61 ∷ value_text names v)) others)
    ∙ append_assoc (front ++ (61 ∷ value_text names v)) (flat_map (λ t. 32 ∷ t) others) (93 ∷ [])
    ∙ append_assoc front (61 ∷ value_text names v) (flat_map (λ t. 32 ∷ t) others ++ 93 ∷ [])

pub rest_positional : (names : List (List ℕ)) (v : Val) (vs : Vals) (ls : Labelled) → rest_text names (more_vals v vs) ls ≡ 32 ∷ fields_text names (more_vals v vs) ls
rest_positional names v vs ls = ap (λ t. 32 ∷ (t ++ 93 ∷ [])) (sym (join_rest (value_text names v) (positional_texts names vs ++ labelled_texts names ls)))

pub rest_labelled : (names : List (List ℕ)) (label : ℕ) (v : Val) (ls : Labelled) → rest_text names no_vals (more_labelled label v ls) ≡ 32 ∷ fields_text names no_vals (more_labelled label v ls)
rest_labelled names label v ls = ap (λ t. 32 ∷ (t ++ 93 ∷ [])) (sym (join_rest (text_of names label ++ (61 ∷ value_text names v)) (labelled_texts names ls)))

-- a rest and then a front are pushed
pub two_pushed : (names : List (List ℕ)) (old between new : List Piece) (p q : Piece) (whole : List ℕ) → between ≡ old ++ q ∷ [] → new ≡ between ++ p ∷ []
    → whole ≡ piece_text names p ++ piece_text names q → pending names new [] ≡ whole ++ pending names old []
two_pushed names old between new p q whole e f is =
    ap (λ l. pending names l []) f ∙ pending_push names between p []
    ∙ ap (λ l. piece_text names p ++ pending names l []) e
    ∙ ap (λ t. piece_text names p ++ t) (pending_push names old q [])
    ∙ sym (append_assoc (piece_text names p) (piece_text names q) (pending names old []))
    ∙ ap (λ t. t ++ pending names old []) (sym is)

range_tail : {A : Type 0} (y : A) (ys : List A) → slice_range (y ∷ ys) 1 (length (y ∷ ys)) ≡ ys
range_tail y ys = let e : length (y ∷ ys) - 1 ≡ length ys = omega arith in ap (λ n. take n ys) e ∙ take-length ys

pub at_positional : (names : List (List ℕ)) (xs : List CoreVal) (x : CoreVal) (ls : Labelled) → (length xs == 0) ≡ false → x ≡ slice_index_or xs 0 x
    → fields_text names (vals_of (map plain_val xs)) ls ≡ value_text names (plain_val x) ++ rest_text names (vals_of (map plain_val (slice_range xs 1 (length xs)))) ls
at_positional names [] x ls some is = absurd (grind arith)
at_positional names (y ∷ ys) x ls some is =
    ap (λ v. fields_text names (more_vals (plain_val v) (vals_of (map plain_val ys))) ls) (sym is)
    ∙ first_positional names (plain_val x) (vals_of (map plain_val ys)) ls
    ∙ ap (λ l. value_text names (plain_val x) ++ rest_text names (vals_of (map plain_val l)) ls) (sym (range_tail y ys))

pub at_labelled : (names : List (List ℕ)) (vs : List CoreVal) (fs : List (Name × CoreVal)) (f g : Name × CoreVal) → (length vs == 0) ≡ true → (length fs == 0) ≡ false
    → f ≡ slice_index_or fs 0 f → g ≡ slice_index_or fs 0 g
    → fields_text names (vals_of (map plain_val vs)) (labelled_of (map plain_field fs))
    ≡ text_of names f.0.0 ++ (61 ∷ (value_text names (plain_val (slice_index_or fs 0 g).1) ++ rest_text names (vals_of (map plain_val vs)) (labelled_of (map plain_field (slice_range fs 1 (length fs))))))
at_labelled names (v ∷ vs) fs f g none some is is' = absurd (grind arith)
at_labelled names [] [] f g none some is is' = absurd (grind arith)
at_labelled names [] (h ∷ hs) f g none some is is' =
    ap (λ l. fields_text names no_vals (more_labelled l (plain_val h.1) (labelled_of (map plain_field hs)))) (ap (λ f. f.0.0) (sym is))
    ∙ first_labelled names f.0.0 (plain_val h.1) (labelled_of (map plain_field hs))
    ∙ ap (λ l. text_of names f.0.0 ++ (61 ∷ (value_text names (plain_val h.1) ++ rest_text names no_vals (labelled_of (map plain_field l))))) (sym (range_tail h hs))

pub label_written : (out mid fin text inner pend old fields : List ℕ) → mid ≡ out ++ text → fin ≡ mid ++ 61 ∷ [] → pend ≡ (inner) ++ old → fields ≡ text ++ (61 ∷ inner)
    → fin ++ pend ≡ out ++ (fields ++ old)
label_written out mid fin text inner pend old fields e f g h =
    ap (λ t. t ++ pend) (f ∙ ap (λ t. t ++ 61 ∷ []) e) ∙ ap (λ t. ((out ++ text) ++ 61 ∷ []) ++ t) g
    ∙ simp (append_assoc) refl
    ∙ ap (λ t. out ++ (t ++ old)) (sym h)

pub rest_is : (names : List (List ℕ)) (vs : List CoreVal) (fs : List (Name × CoreVal)) → ¬ ((length vs ≡ 0) × (length fs ≡ 0))
    → rest_text names (vals_of (map plain_val vs)) (labelled_of (map plain_field fs)) ≡ 32 ∷ fields_text names (vals_of (map plain_val vs)) (labelled_of (map plain_field fs))
rest_is names [] [] some = absurd (some (refl, refl))
rest_is names [] (f ∷ fs) some = rest_labelled names f.0.0 (plain_val f.1) (labelled_of (map plain_field fs))
rest_is names (v ∷ vs) fs some = rest_positional names (plain_val v) (vals_of (map plain_val vs)) (labelled_of (map plain_field fs))

pub rest_ends : (names : List (List ℕ)) (vs : List CoreVal) (fs : List (Name × CoreVal)) → length vs ≡ 0 → length fs ≡ 0
    → rest_text names (vals_of (map plain_val vs)) (labelled_of (map plain_field fs)) ≡ 93 ∷ []
rest_ends names [] [] none none' = refl
rest_ends names [] (f ∷ fs) none none' = absurd (omega arith)
rest_ends names (v ∷ vs) fs none none' = absurd (omega arith)

-- a byte, and then what is behind it
pub byte_written : (byte : ℕ) (out mid fin pend text old whole : List ℕ) → mid ≡ out ++ byte ∷ [] → fin ++ pend ≡ mid ++ (text ++ old) → whole ≡ byte ∷ text → fin ++ pend ≡ out ++ (whole ++ old)
byte_written byte out mid fin pend text old whole e f g = f ∙ ap (λ t. t ++ (text ++ old)) e ∙ append_assoc out (byte ∷ []) (text ++ old) ∙ ap (λ t. out ++ (t ++ old)) (sym g)

-- one turn of the loop
pub turned : (names : List (List ℕ)) (out out' : List ℕ) (ps taken ps' : List Piece) (p : Piece) → ps ≡ taken ++ p ∷ []
    → out' ++ pending names ps' [] ≡ out ++ (piece_text names p ++ pending names taken []) → out' ++ pending names ps' [] ≡ out ++ pending names ps []
turned names out out' ps taken ps' p e f = f ∙ ap (λ t. out ++ t) (sym (ap (λ l. pending names l []) e ∙ pending_push names taken p []))

pub less_left : (out out' old new : List ℕ) → out' ++ new ≡ out ++ old → length out < length out' → length new < length old
less_left out out' old new e h = let f : length out' + length new ≡ length out + length old = sym (length-append out' new) ∙ ap length e ∙ length-append out old in omega arith

pub number_grows : (out new : List ℕ) (n : ℤ) → FitsSigned w64 n → new ≡ out ++ signed_decimal n → length out < length new
number_grows out new (pos n) fits e =
    let some : 0 < length (decimal n) = decimal_nonempty n (omega arith) in
    let f : length new ≡ length out + length (decimal n) = ap length e ∙ length-append out (decimal n) in omega arith
number_grows out new (negsuc n) fits e =
    let f : length new ≡ length out + length (45 ∷ decimal (suc n)) = ap length e ∙ length-append out (45 ∷ decimal (suc n)) in omega arith
