-- What is found for type fields, as the code keeps it and as the rules see it.
use Rattle.std.proofs.Common.{◌≡◌, ◌<◌, ◌+◌, ℕ, zero, suc, true, false, List, [], ◌∷◌, ◌++◌, map, length, get_or, take, refl, sym, ◌∙◌, ap, subst, arith, Option, Some, None}
use Rattle.std.proofs.lemmas.List.{length-take-le, map-append}
use Rattle.pict_types.specs.declared.types.Ty.{Ty}
use Rattle.pict_types.specs.declared.types.Bound.{Bound}
use Rattle.pict_types.specs.declared.types.Arg.{Arg}
use Rattle.pict_types.specs.Types.{PlainArg, PlainBounds, Plain}
use Rattle.pict_types.specs.Plain.{plain, plain_arg, plain_args, plain_bound, plain_bounds}
use Rattle.pict_rules.specs.Found.{all_found, argument_in, none_found, open_slot, filled}
use Rattle.pict_match.specs.PlainFound.{later_bounds, slots}
use Rattle.pict_syntax.specs.declared.code.Code.TheVariants.{Y10}
use Rattle.pict_syntax.specs.declared.span.Span.{Span}
use Rattle.pict_rules.specs.Rules.{ok, stuck}
use Rattle.pict_rules.specs.Derivations.{Runs, give_, refuse_}
use Rattle.pict_lines.specs.Lines as lines
use Rattle.pict_lines.specs.Reading.{slot}
use Rattle.pict_scope.proofs.Reading.{taken}

-- nothing is found yet
abbrev pub AreMissing : List (Option Ty) → Type 0
AreMissing [] = Unit {0}
AreMissing (None ∷ xs) = AreMissing xs
AreMissing (Some t ∷ xs) = ⊥

pub missing_more : (xs : List (Option Ty)) → AreMissing xs → AreMissing (xs ++ None ∷ [])
missing_more [] h = tt
missing_more (None ∷ xs) h = missing_more xs h
missing_more (Some t ∷ xs) h = absurd h

pub missing_slots : (bs : List Bound) (xs : List (Option Ty)) → AreMissing xs → length xs ≡ length bs → slots (plain_bounds bs) xs ≡ none_found (plain_bounds bs)
missing_slots [] [] h n = refl
missing_slots [] (x ∷ xs) h n = absurd (omega (arith, n))
missing_slots (b ∷ bs) [] h n = absurd (omega (arith, n))
missing_slots (b ∷ bs) (None ∷ xs) h n = ap (λ z. open_slot (plain_bound b) ∷ z) (missing_slots bs xs h (omega (arith, n)))
missing_slots (b ∷ bs) (Some t ∷ xs) h n = absurd h

-- one type field more
pub slots_more : (bs : List Bound) (xs : List (Option Ty)) (b : Bound) (x : Option Ty) → length xs < length bs → b ≡ get_or bs (length xs) b → slots (plain_bounds bs) (xs ++ x ∷ []) ≡ slots (plain_bounds bs) xs ++ slot (plain_bound b) x ∷ []
slots_more [] xs b x n h = absurd (omega (arith, n))
slots_more (c ∷ bs) [] b None n h = ap (λ z. open_slot (plain_bound z) ∷ []) (sym h)
slots_more (c ∷ bs) [] b (Some t) n h = refl
slots_more (c ∷ bs) (None ∷ xs) b x n h = ap (λ z. open_slot (plain_bound c) ∷ z) (slots_more bs xs b x (omega (arith, n)) h)
slots_more (c ∷ bs) (Some t ∷ xs) b x n h = ap (λ z. filled (Plain (plain t)) ∷ z) (slots_more bs xs b x (omega (arith, n)) h)

-- all are found, with these arguments
abbrev pub AreFound : List (Option Ty) → List PlainArg → Type 0
AreFound [] args = args ≡ []
AreFound (None ∷ xs) args = ⊥
AreFound (Some t ∷ xs) [] = ⊥
AreFound (Some t ∷ xs) (a ∷ args) = (a ≡ Plain (plain t)) × AreFound xs args

pub found_more : (xs : List (Option Ty)) (args : List PlainArg) (t : Ty) → AreFound xs args → AreFound (xs ++ Some t ∷ []) (args ++ Plain (plain t) ∷ [])
found_more [] args t h = rw h (refl, refl)
found_more (None ∷ xs) args t h = absurd h
found_more (Some u ∷ xs) [] t h = absurd h
found_more (Some u ∷ xs) (a ∷ args) t h = (h.0, found_more xs args t h.1)

pub found_all : (bs : PlainBounds) (xs : List (Option Ty)) (args : List PlainArg) → AreFound xs args → all_found (slots bs xs) ≡ true
found_all bs [] args h = refl
found_all bs (None ∷ xs) args h = absurd h
found_all bs (Some t ∷ xs) [] h = absurd h
found_all bs (Some t ∷ xs) (a ∷ args) h = found_all (later_bounds bs) xs args h.1

pub found_arguments : (bs : PlainBounds) (xs : List (Option Ty)) (args : List PlainArg) → AreFound xs args → map argument_in (slots bs xs) ≡ args
found_arguments bs [] args h = sym h
found_arguments bs (None ∷ xs) args h = absurd h
found_arguments bs (Some t ∷ xs) [] h = absurd h
found_arguments bs (Some t ∷ xs) (a ∷ args) h = ap (λ z. Plain (plain t) ∷ z) (found_arguments (later_bounds bs) xs args h.1) ∙ ap (λ z. z ∷ args) (sym h.0)

-- one is missing
pub one_missing : (bs : PlainBounds) (xs : List (Option Ty)) (i : ℕ) (d : Option Ty) → i < length xs → get_or xs i d ≡ None → all_found (slots bs xs) ≡ false
one_missing bs [] i d n h = absurd (omega (arith, n))
one_missing bs (None ∷ xs) i d n h = refl
one_missing bs (Some t ∷ xs) zero d n h = absurd cc
one_missing bs (Some t ∷ xs) (suc i) d n h = one_missing (later_bounds bs) xs i d (omega (arith, n)) h

-- so the rule gives them, or is refused
pub found_given : (bs : PlainBounds) (xs : List (Option Ty)) (args : List PlainArg) (s : Span) → AreFound xs args → Runs (lines.all_found (slots bs xs) s) (ok args)
found_given bs xs args s h = rw (found_all bs xs args h, found_arguments bs xs args h) give_

pub missing_refused : (bs : PlainBounds) (xs : List (Option Ty)) (i : ℕ) (d : Option Ty) (s : Span) → i < length xs → get_or xs i d ≡ None → Runs (lines.all_found (slots bs xs) s) (stuck Y10 s)
missing_refused bs xs i d s n h = rw (one_missing bs xs i d n h) refuse_

pub args_more : (args : List Arg) (a : Arg) → plain_args (args ++ a ∷ []) ≡ plain_args args ++ plain_arg a ∷ []
args_more [] a = refl
args_more (b ∷ args) a = ap (λ z. plain_arg b ∷ z) (args_more args a)

pub found_next : (xs : List (Option Ty)) (i : ℕ) (d : Option Ty) (t : Ty) (a : Arg) (args all : List Arg) → i < length xs → d ≡ get_or xs i d → d ≡ Some t → plain_arg a ≡ Plain (plain t) → all ≡ args ++ a ∷ [] → AreFound (take i xs) (plain_args args) → AreFound (take (i + 1) xs) (plain_args all)
found_next xs i d t a args all h is k e more f =
    subst (λ z. AreFound z (plain_args all)) (sym (taken xs i d h is ∙ ap (λ z. take i xs ++ z ∷ []) k))
    (subst (λ z. AreFound (take i xs ++ Some t ∷ []) z) (sym (ap plain_args more ∙ args_more args a ∙ ap (λ z. plain_args args ++ z ∷ []) e))
    (found_more (take i xs) (plain_args args) t f))

pub arguments_next : (bs : List Bound) (xs : List (Option Ty)) (i : ℕ) (d : Option Ty) (b : Bound) (a : Arg) (args all : List Arg) → i < length xs → length bs ≡ length xs → d ≡ get_or xs i d → b ≡ get_or bs i b → plain_arg a ≡ argument_in (slot (plain_bound b) d) → all ≡ args ++ a ∷ [] → plain_args args ≡ map argument_in (slots (plain_bounds bs) (take i xs)) → plain_args all ≡ map argument_in (slots (plain_bounds bs) (take (i + 1) xs))
arguments_next bs xs i d b a args all h n is at e more f =
    let l : length (take i xs) ≡ i = length-take-le i xs (omega (arith, h)) in
    ap plain_args more ∙ args_more args a ∙ ap (λ z. plain_args args ++ z ∷ []) e ∙ ap (λ z. z ++ argument_in (slot (plain_bound b) d) ∷ []) f
    ∙ sym (map-append argument_in (slots (plain_bounds bs) (take i xs)) (slot (plain_bound b) d ∷ []))
    ∙ ap (map argument_in) (sym (slots_more bs (take i xs) b d (omega (arith, l, n, h)) (at ∙ ap (λ m. get_or bs m b) (sym l))))
    ∙ ap (λ z. map argument_in (slots (plain_bounds bs) z)) (sym (taken xs i d h is))
