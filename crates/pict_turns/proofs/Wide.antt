-- The block of a node: whose it is, and how wide.
use Rattle.std.proofs.Common.{ℕ, suc, ◌≡◌, inl, inr, List, ◌∷◌, ap, ◌∙◌, ◌+◌, length}
use Rattle.pict_core.specs.Term.{Process}
use Rattle.pict_heap.specs.HeapState.{HeapState}
use Rattle.pict_turns.specs.Views.{IsNode, IsBlock}
use Rattle.pict_blocks.specs.Parts.{block_width}
use Rattle.pict_blocks.proofs.Holding.{held_width}

-- the block of a node is that of its own number
pub node_of : (core : Process) (h : HeapState) (number : ℕ) (held words : List ℕ) → words ≡ suc number ∷ held → IsBlock core h (suc number ∷ held) → (n : IsNode core h words) × (n.number ≡ number)
node_of core h number held words is (inl n) =
    let e : suc number ∷ held ≡ suc n.number ∷ n.held = n.is in
    let same : n.number ≡ number = cc in
    (record { number = n.number; node = n.node; at = n.at; held = n.held; is = is ∙ n.is; narrow = n.narrow; wide = n.wide }, same)
node_of core h number held words is (inr k) = let e = k.is in cc

-- how wide it is, with its link
pub node_wide : (core : Process) (h : HeapState) (words : List ℕ) → (n : IsNode core h words) → length words + 1 ≡ block_width n.node.frame
node_wide core h words n = ap (λ (ws : List ℕ). length ws + 1) n.is ∙ held_width h n.number n.node.frame n.held n.narrow n.wide
