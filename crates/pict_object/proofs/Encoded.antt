-- What is written is the object.
use Rattle.std.proofs.Common.{ℕ, ◌+◌, ◌-◌, ◌≡◌, ◌<◌, ◌≤◌, ◌^◌, min, Bool, true, false, ◌||◌, List, [], ◌∷◌, ◌++◌, map, length, length-append, get_or, refl, sym, ◌∙◌, ap, subst, append_assoc, arith}
use Rattle.std.specs.Prelude.{IsTrue}
use Rattle.std.specs.List.{AllByRecursion, list_any, flat_map}
use Rattle.std.specs.Str.{bytes_eq}
use Rattle.std.proofs.lemmas.Slice.Eq.{bytes_eq-Decides}
use Rattle.std.proofs.lemmas.Option.{get_or_from_slice_get}
use Rattle.std.proofs.lemmas.List.{get_or-map}
use Rattle.pict_syntax.specs.declared.name.Name.{Name}
use Rattle.pict_syntax.specs.Names.{text_of, number_of, HasNoRepeats}
use Rattle.pict_syntax.specs.Labels.{in_label_order, by_number}
use Rattle.pict_syntax.proofs.NamesLemmas.{stands_there}
use Rattle.pict_core.specs.Term.{Process}
use Rattle.pict_object.specs.Objects.{TextsRise, AreLabels, labels_of, process_bytes, place_in, count_bytes, text_bytes, header, object_bytes}
use Rattle.pict_object.specs.Cores.{IsLabelText, IsObjectCore, IsObject}
use Rattle.pict_object.specs.Sizes.{first_place, place_at, ProcessFits}
use Rattle.pict_object.specs.Collected.{numbers, texts_of, distinct_after, number_at, AreApart}
use Rattle.pict_object.specs.Small.{IsSmall}
use Rattle.pict_object.proofs.Tables.{In, not_itself, after_it}
use Rattle.pict_object.proofs.Places.{number_below}
use Rattle.pict_object.proofs.Objects.{own_label}
use Rattle.pict_object.proofs.Ordered.{sorted_up, sorted_any, rises, kept, one_place}
use Rattle.pict_object.proofs.Placed.{number_here, same_bytes}
use Rattle.pict_object.proofs.Fitted.{process_fits, same_length, placed}

any_texts : (names : List (List ℕ)) (text : List ℕ) (labels : List ℕ) → list_any (bytes_eq text) (map (text_of names) labels) ≡ list_any (λ label. bytes_eq text (text_of names label)) labels
any_texts names text [] = refl
any_texts names text (l ∷ labels) = ap (λ b. bytes_eq text (text_of names l) || b) (any_texts names text labels)

not_empty : (text : List ℕ) (b : Bool) → bytes_eq text [] ≡ b → (text ≡ [] → ⊥) → b ≡ false
not_empty text true e h = absurd (h ((bytes_eq-Decides text []).0 e))
not_empty text false e h = refl

one_some : (names : List (List ℕ)) (text : List ℕ) (l : ℕ) (b c : Bool) → bytes_eq text (text_of names l) ≡ b → (b || c) ≡ true → IsLabelText (text_of names l) → (c ≡ true → text ≡ [] → ⊥) → text ≡ [] → ⊥
one_some names text l true c e h i rest n = (subst IsLabelText (sym ((bytes_eq-Decides text (text_of names l)).0 e) ∙ n) i).1
one_some names text l false c e h i rest n = rest h n

-- labels that are identifiers have texts
occur_some : (names : List (List ℕ)) (text : List ℕ) (labels : List ℕ) → AllByRecursion (λ label. IsLabelText (text_of names label)) labels
    → list_any (λ label. bytes_eq text (text_of names label)) labels ≡ true → text ≡ [] → ⊥
occur_some names text [] i h n = cc
occur_some names text (l ∷ labels) i h n =
    one_some names text l (bytes_eq text (text_of names l)) (list_any (λ label. bytes_eq text (text_of names label)) labels) refl h i.0 (occur_some names text labels i.1) n

pub are_labels : {A : Type 0} (names : List (List ℕ)) (p : Process) (collected sorted : List (Name × A)) (table : List (List ℕ)) → AllByRecursion (λ label. IsLabelText (text_of names label)) (labels_of p)
    → numbers collected ≡ labels_of p → by_number sorted ≡ in_label_order names (by_number collected) → table ≡ distinct_after [] (map (text_of names) (numbers sorted)) → AreLabels names p table
are_labels names p collected sorted table identifiers all order is =
    let rise : TextsRise [] table = subst (TextsRise []) (sym is) (rises [] (map (text_of names) (numbers sorted)) (sorted_up names collected sorted order)) in
    let same = λ (text : List ℕ) (d : bytes_eq text [] ≡ false).
    ap (list_any (bytes_eq text)) is ∙ kept text [] (map (text_of names) (numbers sorted)) d ∙ sorted_any names text collected sorted order
    ∙ any_texts names text (numbers collected) ∙ ap (list_any (λ label. bytes_eq text (text_of names label))) all in
    record {
      rise = rise;
      exactly = λ text. (
        (λ h. sym (same text (not_empty text (bytes_eq text []) refl (λ n. not_itself [] (after_it [] [] table rise (subst (λ t. In t table) n h))))) ∙ h),
        (λ h. same text (not_empty text (bytes_eq text []) refl (occur_some names text (labels_of p) identifiers h)) ∙ h),
      );
    }

-- ---- sizes

pub object_length : (names table : List (List ℕ)) (p : Process) → length (object_bytes names table p) ≡ length (flat_map text_bytes table) + length (process_bytes first_place p) + 9
object_length names table p =
    omega (arith, length-append (flat_map text_bytes table) (process_bytes (place_in names table) p), same_length (place_in names table) first_place p)

table_many : (table : List (List ℕ)) → length table ≤ length (flat_map text_bytes table)
table_many [] = omega arith
table_many (text ∷ table) = omega (arith, table_many table, length-append text (flat_map text_bytes table), length-append (text_bytes text) (flat_map text_bytes table))

table_short : (table : List (List ℕ)) → length (flat_map text_bytes table) < 2 ^ 32 → AllByRecursion (λ text. length text < 2 ^ 32) table
table_short [] h = tt
table_short (text ∷ table) h =
    let e = length-append (text_bytes text) (flat_map text_bytes table) in
    (omega (arith, h, e), table_short table (omega (arith, h, e)))

many_texts : (names : List (List ℕ)) (table : List Name) → length (texts_of names table) ≡ length table
many_texts names [] = refl
many_texts names (label ∷ table) = omega (arith, many_texts names table)

texts_number : (names : List (List ℕ)) (table : List Name) (i : ℕ) → i < length table → get_or (texts_of names table) i [] ≡ text_of names (number_at table i)
texts_number names table i h =
    get_or-map (λ label. text_of names label.0) table i (record { 0 = 0 }) [] h ∙ ap (text_of names) (sym (number_here table i (record { 0 = 0 }) h))

texts_apart : (names : List (List ℕ)) (table : List Name) → TextsRise [] (texts_of names table) → AreApart table
texts_apart names table rise i j h k e =
    let n = many_texts names table in
    one_place [] (texts_of names table) rise i j (omega (arith, h, n)) (omega (arith, k, n))
    (texts_number names table i h ∙ ap (text_of names) e ∙ sym (texts_number names table j k))

pub small : (names : List (List ℕ)) (table : List Name) (p : Process) (n : ℕ) → IsObjectCore names p → AreLabels names p (texts_of names table) → ProcessFits p
    → n ≡ min (length (object_bytes names (texts_of names table) p)) (2 ^ 64 - 1) → n < 2 ^ 32 → IsSmall names table p
small names table p n core labels fits e h =
    let o = object_length names (texts_of names table) p in
    record {
      few = omega (arith, e, h, o, table_many (texts_of names table), many_texts names table);
      short = table_short (texts_of names table) (omega (arith, e, h, o));
      fits = process_fits first_place 0 p core.closed fits (omega (arith, e, h, o));
      apart = texts_apart names table labels.rise;
    }

-- ---- places

rest_or : (b c : Bool) → c ≡ true → (b || c) ≡ true
rest_or true c h = refl
rest_or false c h = h

all_in : (names table : List (List ℕ)) (labels : List ℕ) → ((text : List ℕ) → IsTrue (list_any (λ label. bytes_eq text (text_of names label)) labels) → In text table)
    → AllByRecursion (λ label. IsTrue (list_any (bytes_eq (text_of names label)) table)) labels
all_in names table [] h = tt
all_in names table (l ∷ labels) h = (
  h (text_of names l) (ap (λ b. b || list_any (λ label. bytes_eq (text_of names l) (text_of names label)) labels) ((bytes_eq-Decides (text_of names l) (text_of names l)).1 refl)),
  all_in names table labels (λ text k. h text (rest_or (bytes_eq text (text_of names l)) (list_any (λ label. bytes_eq text (text_of names label)) labels) k)),
)

pub all_placed : (names table : List (List ℕ)) (p : Process) → AreLabels names p table → AllByRecursion (λ label. IsTrue (list_any (bytes_eq (text_of names label)) table)) (labels_of p)
all_placed names table p labels = all_in names table (labels_of p) (λ text h. (labels.exactly text).1 h)

each : {A : Type 0} (P Q : A → Type 0) (xs : List A) → ((x : A) → P x → Q x) → AllByRecursion P xs → AllByRecursion Q xs
each P Q [] f h = tt
each P Q (x ∷ xs) f h = (f x h.0, each P Q xs f h.1)

same_place : (names : List (List ℕ)) → HasNoRepeats names → (p : Process) (table : List Name) (places : List ℕ) → AreLabels names p (texts_of names table)
    → ((k : ℕ) → k < length table → place_at places (number_at table k) ≡ k)
    → (l : ℕ) → In (text_of names l) (texts_of names table) → place_at places l ≡ place_in names (texts_of names table) l
same_place names distinct p table places labels filled l h =
    let ts = texts_of names table in
    let k = number_of ts (text_of names l) in
    let low : k < length table = omega (arith, number_below ts (text_of names l) h, many_texts names table) in
    let e : text_of names l ≡ text_of names (number_at table k) = sym (get_or_from_slice_get ts k (text_of names l) [] (stands_there ts (text_of names l) h)) ∙ texts_number names table k low in
    ap (place_at places) (own_label names distinct p ts labels l (number_at table k) h e) ∙ filled k low

-- the object, from its parts as they are written
pub whole : (names : List (List ℕ)) → HasNoRepeats names → (p : Process) (table : List Name) (places : List ℕ) (first last : List ℕ) → AreLabels names p (texts_of names table)
    → ((k : ℕ) → k < length table → place_at places (number_at table k) ≡ k)
    → first ≡ header ++ (count_bytes (length table) ++ flat_map text_bytes (texts_of names table)) → last ≡ first ++ process_bytes (place_at places) p
    → last ≡ object_bytes names (texts_of names table) p
whole names distinct p table places first last labels filled e f =
    let ts = texts_of names table in
    let same = same_bytes (place_at places) (place_in names ts) p (each (λ label. IsTrue (list_any (bytes_eq (text_of names label)) ts)) (λ label. place_at places label ≡ place_in names ts label) (labels_of p) (same_place names distinct p table places labels filled) (all_placed names ts p labels)) in
    f ∙ ap (λ z. z ++ process_bytes (place_at places) p) e
    ∙ append_assoc header (count_bytes (length table) ++ flat_map text_bytes ts) (process_bytes (place_at places) p)
    ∙ ap (λ z. header ++ z) (append_assoc (count_bytes (length table)) (flat_map text_bytes ts) (process_bytes (place_at places) p))
    ∙ ap (λ n. header ++ (count_bytes n ++ (flat_map text_bytes ts ++ process_bytes (place_at places) p))) (sym (many_texts names table))
    ∙ ap (λ z. header ++ (count_bytes (length ts) ++ (flat_map text_bytes ts ++ z))) same

pub is_object : (names : List (List ℕ)) (table : List Name) (p : Process) (bytes : List ℕ) → IsObjectCore names p → AreLabels names p (texts_of names table) → IsSmall names table p
    → bytes ≡ object_bytes names (texts_of names table) p → IsObject names bytes p
is_object names table p bytes core labels s is = record {
  core = core;
  table = texts_of names table;
  labels = labels;
  fits = record {
    few = omega (arith, s.few, many_texts names table);
    short = s.short;
    labels = placed (λ label. IsTrue (list_any (bytes_eq (text_of names label)) (texts_of names table))) p (all_placed names (texts_of names table) p labels) s.fits;
  };
  is = is;
}

-- the same of one table that is read twice
pub small_again : (names : List (List ℕ)) (items first second : List Name) (p : Process) (n limit : ℕ) → first ≡ items → second ≡ items → IsObjectCore names p → AreLabels names p (texts_of names items)
    → ProcessFits p → n ≡ min (length (object_bytes names (texts_of names first) p)) (2 ^ 64 - 1) → n ≤ limit → limit < 2 ^ 32 → IsSmall names second p
small_again names items first second p n limit e f core labels fits size within less =
    subst (λ xs. IsSmall names xs p) (sym f)
    (small names items p n core labels fits (subst (λ xs. n ≡ min (length (object_bytes names (texts_of names xs) p)) (2 ^ 64 - 1)) e size) (omega (arith, within, less)))
