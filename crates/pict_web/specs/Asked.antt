-- What a call asks for: the words of the command, and the texts that there are.
use Rattle.std.specs.Prelude.{ℕ, ◌==◌, Bool, List, [], ◌∷◌, ◌++◌, take, drop, codes, if◌then◌else◌}
use Rattle.pict_words.specs.Words.{bare_words}
use Rattle.pict_web.specs.declared.Cut.{Cut}

-- the name of the text that is the file
abbrev pub file : List ℕ
file = codes "main.pi"

-- 0 runs, 1 traces, 2 checks, 3 picks, 4 writes what is picked, 5 runs on sites, and any other number lists the code; the fuel, the
-- seed and the number of sites are texts in decimal
abbrev pub words_for : ℕ → Bool → List ℕ → List ℕ → List ℕ → List (List ℕ)
words_for command bare fuel seed sites =
    if command == 0 then codes "run" ∷ (bare_words bare ++ codes "--fuel" ∷ fuel ∷ file ∷ [])
    else if command == 1 then codes "trace" ∷ (bare_words bare ++ codes "--fuel" ∷ fuel ∷ file ∷ [])
    else if command == 2 then codes "check" ∷ (bare_words bare ++ file ∷ [])
    else if command == 3 then codes "pick" ∷ (bare_words bare ++ codes "--fuel" ∷ fuel ∷ seed ∷ file ∷ [])
    else if command == 4 then codes "picked" ∷ (bare_words bare ++ codes "--fuel" ∷ fuel ∷ seed ∷ file ∷ [])
    else if command == 5 then codes "sites" ∷ (bare_words bare ++ codes "--fuel" ∷ fuel ∷ sites ∷ seed ∷ file ∷ [])
    else codes "code" ∷ (bare_words bare ++ file ∷ [])

-- the texts by their names: names and texts stand one behind the other, each as long as the cuts say, or as far as there are bytes
abbrev pub texts_cut : List Cut → List ℕ → List (List ℕ × List ℕ)
texts_cut [] bytes = []
texts_cut (cut ∷ cuts) bytes =
    let behind = drop cut.name bytes in (take cut.name bytes, take cut.text behind) ∷ texts_cut cuts (drop cut.text behind)
