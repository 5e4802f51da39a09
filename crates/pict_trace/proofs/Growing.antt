-- What names become while a text is read.
use Rattle.std.proofs.Common.{◌≡◌, ℕ, suc, ◌+◌, List, [], ◌∷◌, ◌++◌, length, refl, sym, ◌∙◌, ap, subst, append_assoc, arith, length-append}
use Rattle.std.specs.List.{AllByRecursion}
use Rattle.pict_syntax.specs.Names.{with_name, with_names}
use Rattle.pict_trace.specs.Readable.{IsIdentifier, IsLabelIn, GainsLabels}
use Rattle.pict_trace.specs.Reading.{NamesGrow}
use Rattle.pict_lex.proofs.LexLemmas.{one_name}
use Rattle.pict_lex.proofs.StepLemmas.{with_names_last}

pub nothing_gained : (text : List ℕ) (names : List (List ℕ)) → GainsLabels text names names
nothing_gained text names = record { labels = []; stand = tt; gained = refl }

pub begun_growing : (text : List ℕ) (names : List (List ℕ)) → NamesGrow text names names text
begun_growing text names = record { left = omega arith; kept = nothing_gained text names; front = []; behind = refl }

-- the names stay while some bytes are read
pub same_names : (text rest front : List ℕ) (names : List (List ℕ)) → text ≡ front ++ rest → NamesGrow text names names rest
same_names text rest front names e =
    let size : length text ≡ length front + length rest = ap length e ∙ length-append front rest in
    record { left = omega (arith, size); kept = nothing_gained text names; front = front; behind = e }

label_in : (text front rest label : List ℕ) → text ≡ front ++ rest → IsLabelIn rest label → IsLabelIn text label
label_in text front rest label e x = record { front = front ++ x.front; after = x.after; stands = e ∙ ap (λ t. front ++ t) x.stands ∙ sym (append_assoc front x.front (label ++ (61 ∷ x.after))); is = x.is }

labels_in_both : (text front rest : List ℕ) (xs ys : List (List ℕ)) → text ≡ front ++ rest → AllByRecursion (IsLabelIn text) xs → AllByRecursion (IsLabelIn rest) ys → AllByRecursion (IsLabelIn text) (xs ++ ys)
labels_in_both text front rest [] [] e h k = tt
labels_in_both text front rest [] (y ∷ ys) e h k = (label_in text front rest y e k.0, labels_in_both text front rest [] ys e tt k.1)
labels_in_both text front rest (x ∷ xs) ys e h k = (h.0, labels_in_both text front rest xs ys e h.1 k)

pub gained_on : (text rest : List ℕ) (a b c : List (List ℕ)) → NamesGrow text a b rest → GainsLabels rest b c → GainsLabels text a c
gained_on text rest a b c x y = record {
  labels = x.kept.labels ++ y.labels;
  stand = labels_in_both text x.front rest x.kept.labels y.labels x.behind x.kept.stand y.stand;
  gained = y.gained ∙ ap (λ n. with_names n y.labels) x.kept.gained ∙ sym (with_names_last a x.kept.labels y.labels);
}

pub grown_on : (text rest rest' : List ℕ) (a b c : List (List ℕ)) → NamesGrow text a b rest → NamesGrow rest b c rest' → NamesGrow text a c rest'
grown_on text rest rest' a b c x y =
    let l = x.left in
    let m = y.left in
    record {
      left = omega (arith, l, m);
      kept = gained_on text rest a b c x y.kept;
      front = x.front ++ y.front;
      behind = x.behind ∙ ap (λ t. x.front ++ t) y.behind ∙ sym (append_assoc x.front y.front rest');
    }

-- a label is read
pub label_grows : (text label rest : List ℕ) (names : List (List ℕ)) → text ≡ label ++ (61 ∷ rest) → IsIdentifier label → NamesGrow text names (with_name names label) rest
label_grows text label rest names e is =
    let size : length text ≡ length label + suc (length rest) = ap length e ∙ length-append label (61 ∷ rest) in
    let more = one_name names label in
    record {
      left = omega (arith, size, more);
      kept = record { labels = label ∷ []; stand = (record { front = []; after = rest; stands = e; is = is }, tt); gained = refl };
      front = label ++ 61 ∷ [];
      behind = e ∙ sym (append_assoc label (61 ∷ []) rest);
    }

-- a value is read, and the byte behind it
pub value_grows : (text rest r after : List ℕ) (byte : ℕ) (a b c : List (List ℕ)) → NamesGrow text a b rest → NamesGrow rest b c r → r ≡ byte ∷ after → NamesGrow text a c after
value_grows text rest r after byte a b c x y e = grown_on text r after a c c (grown_on text rest r a b c x y) (same_names r after (byte ∷ []) c e)

-- a label is read behind what was read before
pub labelled_grows : (text rest word more : List ℕ) (a b c : List (List ℕ)) → NamesGrow text a b rest → rest ≡ word ++ (61 ∷ more) → IsIdentifier word → c ≡ with_name b word → NamesGrow text a c more
labelled_grows text rest word more a b c x e is f = grown_on text rest more a b c x (subst (λ n. NamesGrow rest b n more) (sym f) (label_grows rest word more b e is))
