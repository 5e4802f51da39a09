-- Lines of choices, read from their texts: each in one way.
use Rattle.std.proofs.Common.{ℕ, ◌+◌, ◌<◌, ◌≡◌, ◌≢◌, ◌^◌, false, List, [], ◌∷◌, ◌++◌, length, length-append, append_assoc, refl, sym, ap, ◌∙◌, subst, arith}
use Rattle.std.specs.List.{AllByRecursion}
use Rattle.std.specs.Fmt.{decimal}
use Rattle.std.proofs.lemmas.Fmt.{decimal_injective}
use Rattle.pict_core.specs.Places.{Place}
use Rattle.pict_trace.proofs.Unique.{is_solid, run_same, digits_all, digit_solid, numeral, first_digit}
use Rattle.pict_replay.specs.Files.{choice_text, choices_text, IsWritable, BeginsWithChoices, IsChoices, BeginsWithChoice, IsFirstBadChoice}
use Rattle.pict_replay.specs.Laws.{ChoicesAreReadOnce}

-- ---- a number ends at the byte behind it

same_numbers : (stop m n : ℕ) (a c : List ℕ) → is_solid stop ≡ false → m < 2 ^ 64 → n < 2 ^ 64 → decimal m ++ (stop ∷ a) ≡ decimal n ++ (stop ∷ c) → (m ≡ n) × (a ≡ c)
same_numbers stop m n a c is few small e =
    let r = run_same is_solid (decimal m) (decimal n) (stop ∷ a) (stop ∷ c) (digits_all is_solid digit_solid (decimal m) (numeral m few).1) (digits_all is_solid digit_solid (decimal n) (numeral n small).1) is is e in
    let s : stop ∷ a ≡ stop ∷ c = r.1 in
    let t : a ≡ c = cc s in
    (decimal_injective m n few small r.0, t)

-- ---- a line is that of one choice

pub spread : (place : Place) (a : List ℕ) → choice_text place ++ a ≡ decimal place.ready ++ (32 ∷ (decimal place.partner ++ (10 ∷ a)))
spread place a =
    append_assoc (decimal place.ready) (32 ∷ (decimal place.partner ++ (10 ∷ []))) a
    ∙ ap (λ l. decimal place.ready ++ (32 ∷ l)) (append_assoc (decimal place.partner) (10 ∷ []) a)

one_choice : (p q : Place) (a c : List ℕ) → IsWritable p → IsWritable q → choice_text p ++ a ≡ choice_text q ++ c → (p ≡ q) × (a ≡ c)
one_choice p q a c w v e =
    let first = same_numbers 32 p.ready q.ready _ _ refl w.0 v.0 (sym (spread p a) ∙ e ∙ spread q c) in
    let second = same_numbers 10 p.partner q.partner a c refl w.1 v.1 first.1 in
    (ap (λ x. record { ready = x; partner = p.partner }) first.0 ∙ ap (λ x. record { ready = q.ready; partner = x }) second.0, second.1)

-- at the end no choice begins
digit_there : (ds a : List ℕ) → (d : ℕ) × (rest : List ℕ) × (ds ≡ d ∷ rest) → [] ≡ ds ++ a → ⊥
digit_there ds a f e = let g : [] ≡ f.0 ∷ (f.1 ++ a) = e ∙ ap (λ l. l ++ a) f.2 in cc g

pub end_no_choice : BeginsWithChoice [] → ⊥
end_no_choice b =
    let f = first_digit (decimal b.0.ready) (numeral b.0.ready b.2.0) in
    digit_there (decimal b.0.ready) _ (f.0, f.1, f.2) (b.3 ∙ spread b.0 b.1)

-- ---- where no choice begins, all choices are before it

one_cut : (ps qs : List Place) (a c : List ℕ) → AllByRecursion IsWritable ps → AllByRecursion IsWritable qs → (BeginsWithChoice a → ⊥) → (BeginsWithChoice c → ⊥) → choices_text ps ++ a ≡ choices_text qs ++ c → (ps ≡ qs) × (a ≡ c)
one_cut [] [] a c w v n m e = (refl, e)
one_cut [] (q ∷ qs) a c w v n m e = absurd (n (q, choices_text qs ++ c, v.0, e ∙ append_assoc (choice_text q) (choices_text qs) c))
one_cut (p ∷ ps) [] a c w v n m e = absurd (m (p, choices_text ps ++ a, w.0, sym e ∙ append_assoc (choice_text p) (choices_text ps) a))
one_cut (p ∷ ps) (q ∷ qs) a c w v n m e =
    let s = one_choice p q (choices_text ps ++ a) (choices_text qs ++ c) w.0 v.0 (sym (append_assoc (choice_text p) (choices_text ps) a) ∙ e ∙ append_assoc (choice_text q) (choices_text qs) c) in
    let r = one_cut ps qs a c w.1 v.1 n m s.1 in
    (ap (λ x. x ∷ ps) s.0 ∙ ap (λ l. q ∷ l) r.0, r.1)

pub same_cut : (text : List ℕ) (ps qs : List Place) (a c : List ℕ) → BeginsWithChoices text ps a → BeginsWithChoices text qs c → (BeginsWithChoice a → ⊥) → (BeginsWithChoice c → ⊥) → (ps ≡ qs) × (a ≡ c)
same_cut text ps qs a c x y n m = one_cut ps qs a c x.writable y.writable n m (sym x.whole ∙ y.whole)

pub choices_are_read_once : ChoicesAreReadOnce
choices_are_read_once text = record {
  one_list = λ ps qs x y. (same_cut text ps qs [] [] x y end_no_choice end_no_choice).0;
  one_line = λ k m x y. x.place ∙ ap (λ (l : List Place). length l + 1) (same_cut text x.places y.places x.rest y.rest x.before y.before x.bad y.bad).0 ∙ sym y.place;
  never_both = λ ps k x y. y.more (sym (same_cut text ps y.places [] y.rest x y.before end_no_choice y.bad).1);
}

-- ---- what the reader has

pub none_yet : (text : List ℕ) → BeginsWithChoices text [] text
none_yet text = record { writable = tt; whole = refl }

pub writable_more : (ps : List Place) (p : Place) → AllByRecursion IsWritable ps → IsWritable p → AllByRecursion IsWritable (ps ++ p ∷ [])
writable_more [] p h w = (w, tt)
writable_more (q ∷ ps) p h w = (h.0, writable_more ps p h.1 w)

choices_more : (ps : List Place) (p : Place) (rest : List ℕ) → choices_text (ps ++ p ∷ []) ++ rest ≡ choices_text ps ++ (choice_text p ++ rest)
choices_more [] p rest = append_assoc (choice_text p) [] rest
choices_more (q ∷ ps) p rest =
    append_assoc (choice_text q) (choices_text (ps ++ p ∷ [])) rest
    ∙ ap (λ l. choice_text q ++ l) (choices_more ps p rest)
    ∙ sym (append_assoc (choice_text q) (choices_text ps) (choice_text p ++ rest))

pub one_more : (text rest more : List ℕ) (ps : List Place) (p : Place) → BeginsWithChoices text ps rest → p.ready < 2 ^ 64 → p.partner < 2 ^ 64 → rest ≡ choice_text p ++ more → BeginsWithChoices text (ps ++ p ∷ []) more
one_more text rest more ps p x few small e = record {
  writable = writable_more ps p x.writable (few, small);
  whole = x.whole ∙ ap (λ l. choices_text ps ++ l) e ∙ sym (choices_more ps p more);
}

pub shorter : (rest more : List ℕ) (p : Place) → rest ≡ choice_text p ++ more → length more < length rest
shorter rest more p e =
    let whole : length rest ≡ length (decimal p.ready ++ (32 ∷ (decimal p.partner ++ (10 ∷ more)))) = ap length (e ∙ spread p more) in
    let first = length-append (decimal p.ready) (32 ∷ (decimal p.partner ++ (10 ∷ more))) in
    let second = length-append (decimal p.partner) (10 ∷ more) in
    omega (arith, whole, first, second)

pub first_bad : (text rest : List ℕ) (ps : List Place) (number : ℕ) → BeginsWithChoices text ps rest → number ≡ length ps + 1 → rest ≢ [] → ¬ BeginsWithChoice rest → IsFirstBadChoice text number
first_bad text rest ps number x place more bad = record { places = ps; rest = rest; before = x; place = place; more = more; bad = bad }

pub all_choices : (text rest : List ℕ) (ps : List Place) → BeginsWithChoices text ps rest → rest ≡ [] → IsChoices text ps
all_choices text rest ps x e = subst (BeginsWithChoices text ps) e x

-- ---- the choice in front

pub choice_found : (text after rest : List ℕ) (place : Place) → text ≡ decimal place.ready ++ (32 ∷ after) → after ≡ decimal place.partner ++ (10 ∷ rest) → text ≡ choice_text place ++ rest
choice_found text after rest place e f = e ∙ ap (λ l. decimal place.ready ++ (32 ∷ l)) f ∙ sym (spread place rest)

pub no_first : (text : List ℕ) → ((n : ℕ) (rest : List ℕ) → n < 2 ^ 64 → text ≢ decimal n ++ (32 ∷ rest)) → ¬ BeginsWithChoice text
no_first text none b = none b.0.ready _ b.2.0 (b.3 ∙ spread b.0 b.1)

pub no_second : (text after : List ℕ) (m : ℕ) → m < 2 ^ 64 → text ≡ decimal m ++ (32 ∷ after) → ((n : ℕ) (rest : List ℕ) → n < 2 ^ 64 → after ≢ decimal n ++ (10 ∷ rest)) → ¬ BeginsWithChoice text
no_second text after m few e none b =
    none b.0.partner b.1 b.2.1 (same_numbers 32 m b.0.ready after _ refl few b.2.0 (sym e ∙ b.3 ∙ spread b.0 b.1)).1
