-- The program that is made from a number. Each of its rings has channels, and at each channel a server: it sends on to the next
-- channel, and round again, a number one less than what it received, or prints a dot at 0. A token starts the ring.
use Rattle.std.specs.Prelude.{ℕ, zero, suc, ◌+◌, ◌%◌, List, [], ◌∷◌, ◌++◌, codes}
use Rattle.std.specs.Fmt.{decimal}
use Rattle.pict_load.specs.declared.rings.Ring.{Ring}
use Rattle.pict_load.specs.Rings.{rings_of}

-- the line of the channel at place j of ring i
abbrev pub channel_line : ℕ → ℕ → List ℕ
channel_line i j = codes "new c" ++ (decimal i ++ (codes "_" ++ (decimal j ++ codes ":^Int\n")))

-- the line of the server at place j of ring i, which sends on to place m
abbrev pub server_line : ℕ → ℕ → ℕ → List ℕ
server_line i j m =
    codes "run c" ++ (decimal i ++ (codes "_" ++ (decimal j ++ (codes "?*n = if (== n 0) then print!\".\" else c"
    ++ (decimal i ++ (codes "_" ++ (decimal m ++ codes "!(- n 1)\n")))))))

-- the line of the token of ring i
abbrev pub token_line : ℕ → ℕ → List ℕ
token_line i t = codes "run c" ++ (decimal i ++ (codes "_0!" ++ (decimal t ++ codes "\n")))

-- the lines of the places below n, in order
abbrev pub lines_below : (ℕ → List ℕ) → ℕ → List ℕ
lines_below line zero = []
lines_below line (suc n) = lines_below line n ++ line n

-- the channels of ring i, which has this size
abbrev pub channel_lines : ℕ → ℕ → List ℕ
channel_lines i size = lines_below (channel_line i) size

-- its servers: behind the last place comes the first
abbrev pub server_lines : ℕ → ℕ → List ℕ
server_lines i size = lines_below (λ j. server_line i j ((j + 1) % size)) size

-- the text of ring i
abbrev pub ring_text : ℕ → Ring → List ℕ
ring_text i ring = channel_lines i ring.size ++ (server_lines i ring.size ++ token_line i ring.token)

-- the texts of these rings, numbered from i on
abbrev pub rings_text : ℕ → List Ring → List ℕ
rings_text i [] = []
rings_text i (ring ∷ rings) = ring_text i ring ++ rings_text (suc i) rings

unfoldable pub load_text : ℕ → List ℕ
load_text n = rings_text 0 (rings_of n)
