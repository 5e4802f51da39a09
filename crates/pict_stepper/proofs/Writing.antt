-- Lines of steps, one step more at a time.
use Rattle.std.proofs.Common.{◌≡◌, ℕ, suc, ◌+◌, ◌<◌, ◌≤◌, List, [], ◌∷◌, ◌++◌, take, length, get_or, map, sym, ap, ◌∙◌, arith, append_assoc, append-nil}
use Rattle.std.proofs.lemmas.List.{take_more, map-append, length-take-le}
use Rattle.std.proofs.lemmas.Grind.{flat_map-append}
use Rattle.pict_syntax.specs.declared.source.Source.{Source}
use Rattle.pict_reference.specs.Plain.{plain_entry}
use Rattle.pict_reference.specs.declared.entry.Entry.{Entry}
use Rattle.pict_stepper.specs.declared.run.Step.{Step}
use Rattle.pict_stepper.specs.Lines.{come_line, come_lines, step_lines, steps_lines}

-- a piece, and what is written behind it
pub before : (old mid new piece rest : List ℕ) → mid ≡ old ++ piece → new ≡ mid ++ rest → new ≡ old ++ (piece ++ rest)
before old mid new piece rest e f = f ∙ ap (λ t. t ++ rest) e ∙ append_assoc old piece rest

-- the end of a line behind its fields is the end of its last field
pub four : (a b c d e : List ℕ) → (a ++ (9 ∷ (b ++ (9 ∷ (c ++ (9 ∷ d)))))) ++ e ≡ a ++ (9 ∷ (b ++ (9 ∷ (c ++ (9 ∷ (d ++ e))))))
four a b c d e =
    append_assoc a (9 ∷ (b ++ (9 ∷ (c ++ (9 ∷ d))))) e
    ∙ ap (λ t. a ++ (9 ∷ t)) (append_assoc b (9 ∷ (c ++ (9 ∷ d))) e ∙ ap (λ t. b ++ (9 ∷ t)) (append_assoc c (9 ∷ d) e))

pub five : (a b c d f e : List ℕ)
    → (a ++ (9 ∷ (b ++ (9 ∷ (c ++ (9 ∷ (d ++ (9 ∷ f)))))))) ++ e ≡ a ++ (9 ∷ (b ++ (9 ∷ (c ++ (9 ∷ (d ++ (9 ∷ (f ++ e))))))))
five a b c d f e = append_assoc a (9 ∷ (b ++ (9 ∷ (c ++ (9 ∷ (d ++ (9 ∷ f))))))) e ∙ ap (λ t. a ++ (9 ∷ t)) (four b c d f e)

-- what is written behind a text that was written behind another
pub behind : (old out mid new text line more : List ℕ) → out ≡ old ++ text → mid ≡ out ++ line → new ≡ mid ++ more → new ≡ old ++ (text ++ (line ++ more))
behind old out mid new text line more e f g =
    g ∙ ap (λ t. t ++ more) f ∙ ap (λ t. (t ++ line) ++ more) e ∙ append_assoc (old ++ text) line more ∙ append_assoc old text (line ++ more)

-- the lines of one who comes, behind those of the ones before
pub next_come : (names : List (List ℕ)) (sources : List Source) (es : List Entry) (i : ℕ) (e : Entry) → i < length es → e ≡ get_or es i e
    → come_lines names sources (map plain_entry (take (i + 1) es)) ≡ come_lines names sources (map plain_entry (take i es)) ++ come_line names sources (plain_entry e)
next_come names sources es i e within is =
    ap (λ l. come_lines names sources (map plain_entry l)) (take_more es i e within ∙ ap (λ y. take i es ++ y ∷ []) (sym is))
    ∙ ap (come_lines names sources) (map-append plain_entry (take i es) (e ∷ []))
    ∙ flat_map-append (come_line names sources) (map plain_entry (take i es)) (plain_entry e ∷ [])
    ∙ ap (λ t. come_lines names sources (map plain_entry (take i es)) ++ t) (append-nil (come_line names sources (plain_entry e)))

steps_more : (names : List (List ℕ)) (sources : List Source) (n m : ℕ) (ts : List Step) (t : Step) → n + length ts ≡ m
    → steps_lines names sources n (ts ++ t ∷ []) ≡ steps_lines names sources n ts ++ step_lines names sources m t
steps_more names sources n m [] t h =
    let same : n ≡ m = omega (arith, h) in
    append-nil (step_lines names sources n t) ∙ ap (λ k. step_lines names sources k t) same
steps_more names sources n m (u ∷ us) t h =
    let later : suc n + length us ≡ m = omega (arith, h) in
    ap (λ ls. step_lines names sources n u ++ ls) (steps_more names sources (suc n) m us t later)
    ∙ sym (append_assoc (step_lines names sources n u) (steps_lines names sources (suc n) us) (step_lines names sources m t))

-- the lines of a step, behind those of the steps before it
pub next_step : (names : List (List ℕ)) (sources : List Source) (ts : List Step) (i : ℕ) (t : Step) → i < length ts → t ≡ get_or ts i t
    → steps_lines names sources 1 (take (i + 1) ts) ≡ steps_lines names sources 1 (take i ts) ++ step_lines names sources (i + 1) t
next_step names sources ts i t within is =
    let short : i ≤ length ts = omega (arith, within) in
    let taken : length (take i ts) ≡ i = length-take-le i ts short in
    let count : 1 + length (take i ts) ≡ i + 1 = omega (arith, taken) in
    ap (steps_lines names sources 1) (take_more ts i t within ∙ ap (λ y. take i ts ++ y ∷ []) (sym is))
    ∙ steps_more names sources 1 (i + 1) (take i ts) t count
