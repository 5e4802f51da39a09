-- The texts are within the limit of a text.
use Rattle.std.proofs.Common.{◌≡◌, ℕ, zero, suc, ◌+◌, ◌*◌, ◌%◌, ◌<◌, ◌≤◌, List, [], ◌∷◌, ◌++◌, length, map, drop, refl, ap, sym, ◌∙◌, arith}
use Rattle.std.specs.List.{AllByRecursion}
use Rattle.std.proofs.lemmas.Fmt.{length-decimal-le}
use Rattle.std.proofs.lemmas.List.{length-append, length-map, drop_all, append-nil}
use Rattle.std.proofs.lemmas.Nat.{mod_below}
use Rattle.rand_core.specs.Steps.{first_words}
use Rattle.pict_syntax.specs.declared.limits.TheConstants.{TEXT_LIMIT}
use Rattle.pict_load.specs.declared.rings.Ring as rings
use Rattle.pict_load.specs.declared.summary.Tally.{Tally}
use Rattle.pict_load.specs.declared.summary.Line.TheVariants.{Ring}
use Rattle.pict_seed.specs.Stream.{generator}
use Rattle.pict_load.specs.Rings.{ring_of, drawn, rings_of}
use Rattle.pict_load.specs.Summary.{summary_lines}
use Rattle.pict_load.specs.Text.{channel_line, server_line, token_line, lines_below, channel_lines, server_lines, ring_text, rings_text, load_text}

-- ---- rings

-- a ring that two words make
pub record IsDrawn (ring : rings.Ring) : Type 0 where
  pub few : ring.size < 200
  pub some : 0 < ring.size
  pub low : ring.token < 20000

ring_is_drawn : (a b : ℕ) → IsDrawn (ring_of a b)
ring_is_drawn a b = let size = mod_below a 100 (omega arith) in let token = mod_below b 10000 (omega arith) in record { few = omega arith; some = omega arith; low = omega arith }

-- three of them
pub record AreDrawn (rings : List rings.Ring) : Type 0 where
  pub each : AllByRecursion IsDrawn rings
  pub three : length rings ≡ 3

three_are : (ws : List ℕ) → length ws ≡ 6 → AreDrawn (drawn ws)
three_are [] e = absurd (omega (arith, e))
three_are (a ∷ []) e = absurd (omega (arith, e))
three_are (a ∷ b ∷ []) e = absurd (omega (arith, e))
three_are (a ∷ b ∷ c ∷ []) e = absurd (omega (arith, e))
three_are (a ∷ b ∷ c ∷ d ∷ []) e = absurd (omega (arith, e))
three_are (a ∷ b ∷ c ∷ d ∷ f ∷ []) e = absurd (omega (arith, e))
three_are (a ∷ b ∷ c ∷ d ∷ f ∷ g ∷ []) e = record { each = (ring_is_drawn a b, (ring_is_drawn c d, (ring_is_drawn f g, tt))); three = refl }
three_are (a ∷ b ∷ c ∷ d ∷ f ∷ g ∷ h ∷ ws) e = absurd (omega (arith, e))

length-first_words : {S : Type 0} (step : S → ℕ × S) (k : ℕ) (s : S) → length (first_words step k s) ≡ k
unfolding first_words
length-first_words step zero s = refl
length-first_words step (suc k) s = ap suc (length-first_words step k (step s).1)

pub are_drawn : (n : ℕ) → AreDrawn (rings_of n)
unfolding rings_of
are_drawn n = three_are _ (length-first_words _ 6 (generator n))

-- a summary has eight lines
pub eight_lines : (n text : ℕ) (tally : Tally) → length (summary_lines n text tally) ≡ 8
eight_lines n text tally = length-append (map Ring (rings_of n)) _ ∙ ap (λ k. k + 5) (length-map (rings_of n) Ring ∙ (are_drawn n).three)

-- ---- lines

lines_short : (line : ℕ → List ℕ) (n : ℕ) → ((j : ℕ) → j < n → length (line j) ≤ 80) → length (lines_below line n) ≤ n * 80
lines_short line zero short = omega arith
lines_short line (suc n) short =
    let rest = lines_short line n (λ j below. short j (omega arith)) in
    let last = short n (omega arith) in
    omega (arith, length-append (lines_below line n) (line n))

channel_short : (i j : ℕ) → i < 3 → j < 200 → length (channel_line i j) ≤ 80
channel_short i j few below =
    let a = length-decimal-le 1 i (omega arith) (omega arith) (omega arith) in
    let b = length-decimal-le 3 j (omega arith) (omega arith) (omega arith) in
    simp length-append (omega arith)

server_short : (i j m : ℕ) → i < 3 → j < 200 → m < 200 → length (server_line i j m) ≤ 80
server_short i j m few below beyond =
    let a = length-decimal-le 1 i (omega arith) (omega arith) (omega arith) in
    let b = length-decimal-le 3 j (omega arith) (omega arith) (omega arith) in
    let d = length-decimal-le 3 m (omega arith) (omega arith) (omega arith) in
    simp length-append (omega arith)

token_short : (i t : ℕ) → i < 3 → t < 20000 → length (token_line i t) ≤ 80
token_short i t few low =
    let a = length-decimal-le 1 i (omega arith) (omega arith) (omega arith) in
    let b = length-decimal-le 5 t (omega arith) (omega arith) (omega arith) in
    simp length-append (omega arith)

ring_short : (i : ℕ) (ring : rings.Ring) → i < 3 → IsDrawn ring → length (ring_text i ring) ≤ 33000
ring_short i ring few is =
    let size : ring.size < 200 = is.few in
    let some : 0 < ring.size = is.some in
    let channels : length (channel_lines i ring.size) ≤ ring.size * 80 = lines_short (channel_line i) ring.size (λ j below. channel_short i j few (omega arith)) in
    let servers : length (server_lines i ring.size) ≤ ring.size * 80 =
    lines_short _ ring.size (λ j below. let next = mod_below (j + 1) ring.size some in server_short i j ((j + 1) % ring.size) few (omega arith) (omega arith)) in
    let token : length (token_line i ring.token) ≤ 80 = token_short i ring.token few is.low in
    omega (arith, length-append (channel_lines i ring.size) (server_lines i ring.size ++ token_line i ring.token), length-append (server_lines i ring.size) (token_line i ring.token))

three_short : (rings : List rings.Ring) → AreDrawn rings → length (rings_text 0 rings) ≤ TEXT_LIMIT
three_short [] are = omega arith
three_short (a ∷ []) are = absurd (omega (arith, are.three))
three_short (a ∷ b ∷ []) are = absurd (omega (arith, are.three))
three_short (a ∷ b ∷ c ∷ []) are =
    let x = ring_short 0 a (omega arith) are.each.0 in
    let y = ring_short 1 b (omega arith) are.each.1.0 in
    let z = ring_short 2 c (omega arith) are.each.1.1.0 in
    omega (arith, length-append (ring_text 0 a) (ring_text 1 b ++ (ring_text 2 c ++ [])), length-append (ring_text 1 b) (ring_text 2 c ++ []), length-append (ring_text 2 c) [])
three_short (a ∷ b ∷ c ∷ d ∷ rings) are = absurd (omega (arith, are.three))

pub load_short : (n : ℕ) → length (load_text n) ≤ TEXT_LIMIT
unfolding load_text
load_short n = three_short (rings_of n) (are_drawn n)

-- the texts of all rings, where none is left
pub all_rings : (n i : ℕ) (rings : List rings.Ring) (text : List ℕ) → rings ≡ rings_of n → 3 ≤ i → text ++ rings_text i (drop i rings) ≡ rings_text 0 rings → text ≡ load_text n
unfolding load_text
all_rings n i rings text are end so =
    let three : length rings ≡ 3 = ap length are ∙ (are_drawn n).three in
    let none = drop_all i rings (omega arith) in
    sym (append-nil text) ∙ sym (ap (λ l. text ++ rings_text i l) none) ∙ so ∙ ap (rings_text 0) are
