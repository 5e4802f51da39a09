-- Texts with spaces between them, one more at a time.
use Rattle.std.proofs.Common.{◌≡◌, ℕ, zero, suc, ◌+◌, ◌<◌, ◌==◌, ◌&&◌, Bool, true, false, List, [], ◌∷◌, ◌++◌, map, take, drop, length, get_or, refl, sym, ap, subst, ◌∙◌, arith, append_assoc, append-nil, rules, Vec, Global, Option, Result, Ok, Err, OnErr}
use Rattle.std.specs.Io.KnownBytes.{Appends}
use Rattle.pict_outside.specs.Bytes.{AppendsFront, IsFrontOf}
use Rattle.pict_outside.proofs.Gaining.{appends_then}
use Rattle.std.proofs.lemmas.Bool.Decides.{nat_tests}
use Rattle.std.proofs.lemmas.List.{take_more, map-append, length-take-le, length-map}
use Rattle.std.specs.List.{flat_map, join_with_byte}
use Rattle.pict_syntax.specs.Names.{text_of}
use Rattle.pict_syntax.specs.declared.name.Name.{Name}
use Rattle.pict_code.specs.declared.pattern.CodePat.{CodePat, the_lemmas}
use Rattle.pict_code.specs.declared.pattern.CodePat.TheVariants as pattern
use Rattle.pict_code.specs.declared.instruction.Node as code
use Rattle.pict_code.specs.Instruction.{Node, RecordPat}
use Rattle.pict_code.specs.Plain.{plain_pat, plain_pat_field, pats_of, labelled_pats_of, plain_node}
use Rattle.pict_code.specs.Listing.{pattern_text, pattern_texts, labelled_pattern_texts, line_text, lines_from}
use Rattle.pict_code.specs.Written.{gap, spaced}
use Rattle.pict_show.proofs.Pieces.{join_rest}

more_joined : (x : List ℕ) (xs : List (List ℕ)) (y : List ℕ) → join_with_byte 32 (x ∷ xs ++ y ∷ []) ≡ join_with_byte 32 (x ∷ xs) ++ (32 ∷ y)
more_joined x [] y = refl
more_joined x (z ∷ zs) y = ap (λ t. x ++ (32 ∷ t)) (more_joined z zs y) ∙ sym (append_assoc x (32 ∷ join_with_byte 32 (z ∷ zs)) (32 ∷ y))

more_spaced : (xs : List (List ℕ)) (y : List ℕ) → flat_map (λ t. 32 ∷ t) (xs ++ y ∷ []) ≡ flat_map (λ t. 32 ∷ t) xs ++ (32 ∷ y)
more_spaced [] y = ap (λ t. 32 ∷ t) (append-nil y)
more_spaced (x ∷ xs) y = ap (λ t. 32 ∷ (x ++ t)) (more_spaced xs y) ∙ ap (λ t. 32 ∷ t) (sym (append_assoc x (flat_map (λ t. 32 ∷ t) xs) (32 ∷ y)))

-- a text more behind these, with its gap
one_more : (first : Bool) (xs : List (List ℕ)) (y : List ℕ) (b : Bool) → (length xs == 0) ≡ b → spaced first (xs ++ y ∷ []) ≡ spaced first xs ++ (gap (first && b) ++ y)
one_more false xs y b e = more_spaced xs y
one_more true [] y true e = refl
one_more true [] y false e = cc
one_more true (x ∷ xs) y true e = absurd (grind (arith, nat_tests))
one_more true (x ∷ xs) y false e = more_joined x xs y

-- the text of the element at i behind those before it
pub next_spaced : {A : Type 0} (first : Bool) (f : A → List ℕ) (xs : List A) (i : ℕ) (x : A) → i < length xs → x ≡ get_or xs i x
    → spaced first (map f (take (i + 1) xs)) ≡ spaced first (map f (take i xs)) ++ (gap (first && (i == 0)) ++ f x)
next_spaced {A} first f xs i x within is =
    let count : length (map f (take i xs)) ≡ i = length-map (take i xs) f ∙ length-take-le i xs (omega arith) in
    ap (λ l. spaced first (map f l)) (take_more xs i x within ∙ ap (λ y. take i xs ++ y ∷ []) (sym is))
    ∙ ap (spaced first) (map-append f (take i xs) (x ∷ []))
    ∙ one_more first (map f (take i xs)) (f x) (i == 0) (ap (λ n. n == 0) count)

-- the same behind what was written before
pub next_written : (out old gapped new text gap more : List ℕ) → out ≡ old ++ text → gapped ≡ out ++ gap → new ≡ gapped ++ more → new ≡ old ++ (text ++ (gap ++ more))
next_written out old gapped new text gap more e f g =
    g ∙ ap (λ t. t ++ more) f ∙ ap (λ t. (t ++ gap) ++ more) e ∙ append_assoc (old ++ text) gap more ∙ append_assoc old text (gap ++ more)

-- ---- fields of patterns

abbrev pub field_text : List (List ℕ) → CodePat → List ℕ
field_text names p = pattern_text names (plain_pat p)

abbrev pub labelled_field_text : List (List ℕ) → Name × CodePat → List ℕ
labelled_field_text names f = text_of names f.0.0 ++ (61 ∷ pattern_text names (plain_pat f.1))

pub fields_are : (names : List (List ℕ)) (fields : List CodePat) → map (field_text names) fields ≡ pattern_texts names (pats_of (map plain_pat fields))
fields_are names [] = refl
fields_are names (p ∷ ps) = ap (λ ts. field_text names p ∷ ts) (fields_are names ps)

pub labelled_are : (names : List (List ℕ)) (fields : List (Name × CodePat))
    → map (labelled_field_text names) fields ≡ labelled_pattern_texts names (labelled_pats_of (map plain_pat_field fields))
labelled_are names [] = refl
labelled_are names (f ∷ fs) = ap (λ ts. labelled_field_text names f ∷ ts) (labelled_are names fs)

-- a label, `=` and a pattern behind what was written
pub label_behind : (out labelled equals new text pattern : List ℕ) → labelled ≡ out ++ text → equals ≡ labelled ++ 61 ∷ [] → new ≡ equals ++ pattern → new ≡ out ++ (text ++ (61 ∷ pattern))
label_behind out labelled equals new text pattern e f g =
    g ∙ ap (λ t. t ++ pattern) f ∙ append_assoc labelled (61 ∷ []) pattern ∙ ap (λ t. t ++ (61 ∷ pattern)) e ∙ append_assoc out text (61 ∷ pattern)

-- texts with a space between them, and more of them behind
two_spaced : (xs ys : List (List ℕ)) (b : Bool) → (length xs == 0) ≡ b → spaced true (xs ++ ys) ≡ spaced true xs ++ spaced b ys
two_spaced [] ys true e = refl
two_spaced [] ys false e = cc
two_spaced (x ∷ xs) ys true e = absurd (grind (arith, nat_tests))
two_spaced (x ∷ []) [] false e = sym (append-nil x)
two_spaced (x ∷ []) (y ∷ ys) false e = ap (λ t. x ++ (32 ∷ t)) (join_rest y ys)
two_spaced (x ∷ z ∷ zs) ys false e =
    let later : (length (z ∷ zs) == 0) ≡ false = grind (arith, nat_tests) in
    ap (λ t. x ++ (32 ∷ t)) (two_spaced (z ∷ zs) ys false later) ∙ sym (append_assoc x (32 ∷ join_with_byte 32 (z ∷ zs)) (spaced false ys))

pub plain_pat-Fields : (p : Vec CodePat Global) (l : Vec (Name × CodePat) Global)
    → plain_pat (pattern.Fields p l) ≡ RecordPat (pats_of (map plain_pat p.items)) (labelled_pats_of (map plain_pat_field l.items))
plain_pat-Fields p l = search (rules, the_lemmas)

-- a record in its brackets
pub record_written : (names : List (List ℕ)) (old opened positional whole new : List ℕ) (p : CodePat) (ps : Vec CodePat Global) (ls : Vec (Name × CodePat) Global) (b : Bool)
    → p ≡ pattern.Fields ps ls → opened ≡ old ++ 91 ∷ [] → positional ≡ opened ++ spaced true (pattern_texts names (pats_of (map plain_pat ps.items)))
    → whole ≡ positional ++ spaced b (labelled_pattern_texts names (labelled_pats_of (map plain_pat_field ls.items))) → new ≡ whole ++ 93 ∷ [] → b ≡ (length ps.items == 0)
    → new ≡ old ++ pattern_text names (plain_pat p)
record_written names old opened positional whole new p ps ls b is e f g h empty =
    let xs = pattern_texts names (pats_of (map plain_pat ps.items)) in
    let ys = labelled_pattern_texts names (labelled_pats_of (map plain_pat_field ls.items)) in
    let count : length xs ≡ length ps.items = ap length (sym (fields_are names ps.items)) ∙ length-map ps.items (field_text names) in
    h ∙ ap (λ t. t ++ 93 ∷ []) g ∙ ap (λ t. (t ++ spaced b ys) ++ 93 ∷ []) f ∙ ap (λ t. ((t ++ spaced true xs) ++ spaced b ys) ++ 93 ∷ []) e
    ∙ ap (λ t. t ++ 93 ∷ []) (append_assoc (old ++ 91 ∷ []) (spaced true xs) (spaced b ys))
    ∙ ap (λ t. ((old ++ 91 ∷ []) ++ t) ++ 93 ∷ []) (sym (two_spaced xs ys b (ap (λ n. n == 0) count ∙ sym empty)))
    ∙ append_assoc (old ++ 91 ∷ []) (spaced true (xs ++ ys)) (93 ∷ [])
    ∙ append_assoc old (91 ∷ []) (spaced true (xs ++ ys) ++ 93 ∷ [])
    ∙ ap (λ q. old ++ pattern_text names q) (sym (plain_pat-Fields ps ls) ∙ ap plain_pat (sym is))

-- ---- lines

lines_pushed : (names : List (List ℕ)) (number : ℕ) (ns : List Node) (n : Node) → lines_from names number (ns ++ n ∷ []) ≡ lines_from names number ns ++ line_text names (number + length ns) n
lines_pushed names number [] n =
    let e : number ≡ number + 0 = omega arith in append-nil (line_text names number n) ∙ ap (λ k. line_text names k n) e
lines_pushed names number (m ∷ ms) n =
    let e : suc number + length ms ≡ number + suc (length ms) = omega arith in
    ap (λ t. line_text names number m ++ t) (lines_pushed names (suc number) ms n ∙ ap (λ k. lines_from names (suc number) ms ++ line_text names k n) e)
    ∙ sym (append_assoc (line_text names number m) (lines_from names (suc number) ms) _)

lines_split : (names : List (List ℕ)) (number i : ℕ) (ns : List Node) → lines_from names number (take i ns) ++ lines_from names (number + i) (drop i ns) ≡ lines_from names number ns
lines_split names number zero ns = let e : number + 0 ≡ number = omega arith in ap (λ k. lines_from names k ns) e
lines_split names number (suc i) [] = refl
lines_split names number (suc i) (n ∷ ns) =
    let e : number + suc i ≡ suc number + i = omega arith in
    ap (λ k. (line_text names number n ++ lines_from names (suc number) (take i ns)) ++ lines_from names k (drop i ns)) e
    ∙ append_assoc (line_text names number n) (lines_from names (suc number) (take i ns)) (lines_from names (suc number + i) (drop i ns))
    ∙ ap (λ t. line_text names number n ++ t) (lines_split names (suc number) i ns)

-- the lines of the first i nodes of a code
abbrev pub first_lines : List (List ℕ) → List code.Node → ℕ → List ℕ
first_lines names nodes i = lines_from names 0 (map plain_node (take i nodes))

next_line : (names : List (List ℕ)) (nodes : List code.Node) (i : ℕ) (node : code.Node) → i < length nodes → node ≡ get_or nodes i node
    → first_lines names nodes (i + 1) ≡ first_lines names nodes i ++ line_text names i (plain_node node)
next_line names nodes i node within is =
    let count : length (map plain_node (take i nodes)) ≡ i = length-map (take i nodes) plain_node ∙ length-take-le i nodes (omega arith) in
    ap (λ l. lines_from names 0 (map plain_node l)) (take_more nodes i node within ∙ ap (λ y. take i nodes ++ y ∷ []) (sym is))
    ∙ ap (lines_from names 0) (map-append plain_node (take i nodes) (node ∷ []))
    ∙ lines_pushed names 0 (map plain_node (take i nodes)) (plain_node node)
    ∙ ap (λ k. first_lines names nodes i ++ line_text names k (plain_node node)) (omega (arith, count))

map-take : {A B : Type 0} (f : A → B) (i : ℕ) (xs : List A) → map f (take i xs) ≡ take i (map f xs)
map-take f zero xs = refl
map-take f (suc i) [] = refl
map-take f (suc i) (x ∷ xs) = ap (λ ys. f x ∷ ys) (map-take f i xs)

map-drop : {A B : Type 0} (f : A → B) (i : ℕ) (xs : List A) → map f (drop i xs) ≡ drop i (map f xs)
map-drop f zero xs = refl
map-drop f (suc i) [] = refl
map-drop f (suc i) (x ∷ xs) = map-drop f i xs

-- the same of the nodes as they are lent
pub next_lent : (names : List (List ℕ)) (nodes lent : List code.Node) (i : ℕ) (node : code.Node) → lent ≡ nodes → i < length lent → node ≡ get_or lent i node
    → first_lines names nodes (i + 1) ≡ first_lines names nodes i ++ line_text names i (plain_node node)
next_lent names nodes lent i node same within is =
    subst (λ l. first_lines names l (i + 1) ≡ first_lines names l i ++ line_text names i (plain_node node)) same (next_line names lent i node within is)

-- the first lines are a beginning of all of them
pub first_is_front : (names : List (List ℕ)) (nodes : List code.Node) (i : ℕ) → IsFrontOf (first_lines names nodes i) (lines_from names 0 (map plain_node nodes))
first_is_front names nodes i = record {
  rest = lines_from names i (map plain_node (drop i nodes));
  joined = ap (λ t. t ++ lines_from names i (map plain_node (drop i nodes))) (ap (lines_from names 0) (map-take plain_node i nodes)) ∙ ap (λ t. lines_from names 0 (take i (map plain_node nodes)) ++ lines_from names i t) (map-drop plain_node i nodes)
      ∙ (let e : 0 + i ≡ i = omega arith in subst (λ k. lines_from names 0 (take i (map plain_node nodes)) ++ lines_from names k (drop i (map plain_node nodes)) ≡ lines_from names 0 (map plain_node nodes)) e (lines_split names 0 i (map plain_node nodes)));
}

pub front_longer : (front line whole part : List ℕ) → IsFrontOf (front ++ line) whole → IsFrontOf part line → IsFrontOf (front ++ part) whole
front_longer front line whole part f p = record {
  rest = p.rest ++ f.rest;
  joined = append_assoc front part (p.rest ++ f.rest) ∙ ap (λ t. front ++ t) (sym (append_assoc part p.rest f.rest) ∙ ap (λ t. t ++ f.rest) p.joined)
      ∙ sym (append_assoc front line f.rest) ∙ f.joined;
}

-- a beginning of the next line behind the first lines
pub torn_line : (old mid new : Option (List ℕ)) (front line whole : List ℕ) → Appends old mid front → AppendsFront mid new line → IsFrontOf (front ++ line) whole → AppendsFront old new whole
torn_line old mid new front line whole before torn f = record {
  front = front ++ torn.front;
  of_whole = front_longer front line whole torn.front f torn.of_whole;
  appended = appends_then old mid new front torn.front before torn.appended;
}

pub on_err : {T E P : Type 0} (r : Result T E) → P → OnErr r P
on_err (Ok x) h = tt
on_err (Err e) h = h
