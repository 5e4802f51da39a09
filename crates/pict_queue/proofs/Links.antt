-- What stays when the link of one block changes, and the threads through links.
use Rattle.std.proofs.Common.{◌≡◌, ◌≢◌, ℕ, zero, suc, ◌<◌, ◌≤◌, eqb, List, [], ◌∷◌, ◌++◌, length, drop, get_or, set, Some, sym, ◌∙◌, ap, ⊎_elim, arith}
use Rattle.std.specs.Option.{is_some, option_map, unwrap_or}
use Rattle.std.specs.List.{IsDistinct}
use Rattle.std.specs.FinMap.{get, insert}
use Rattle.std.proofs.lemmas.Bool.{cases_eq}
use Rattle.std.proofs.lemmas.List.{length-set, get_or-set_same, drop-set-lt}
use Rattle.pict_region.specs.Chain.{chain}
use Rattle.pict_region.specs.RegionState.{RegionState, IsLive, words_of, width_of}
use Rattle.pict_region.proofs.Chains.{StandsIn, IsAbsent, stands_apart, stands_first, stands_later, chain-length, chain-same, distinct_rest, distinct_absent}
use Rattle.pict_region.proofs.Calls.{some_words}
use Rattle.pict_region.proofs.Uses.{get_inserted, get_insert_apart}
use Rattle.pict_queue.specs.QueuesState.{link_of, KeepsContents}

-- one block has another link, and all else stays
pub record LinksBlock (r r' : RegionState) (block next : ℕ) : Type 0 where
  pub link : link_of r' block ≡ next
  pub elsewhere : (other : ℕ) → other ≢ block → link_of r' other ≡ link_of r other
  pub contents : KeepsContents r r'
  pub widths : (other : ℕ) → width_of r' other ≡ width_of r other
  pub live : (other : ℕ) → is_some (get r'.live other) ≡ is_some (get r.live other)

pub link_written : (r r' : RegionState) (block next : ℕ) → IsLive r block → 1 ≤ width_of r block
    → r'.live ≡ insert r.live block (set (words_of r block) 0 next) → LinksBlock r r' block next
link_written r r' block next live wide is =
    let ws : List ℕ = words_of r block in
    let was : get r.live block ≡ Some ws = some_words (get r.live block) live in
    let here : get r'.live block ≡ Some (set ws 0 next) = ap (λ m. get m block) is ∙ get_inserted r.live block (set ws 0 next) in
    let apart : (other : ℕ) → other ≢ block → get r'.live other ≡ get r.live other = λ other ne.
    ap (λ m. get m other) is ∙ get_insert_apart r.live block (set ws 0 next) other ne in
    record {
      link = ap (λ o. get_or (unwrap_or o []) 0 0) here ∙ get_or-set_same ws 0 next 0 wide;
      elsewhere = λ other ne. ap (λ o. get_or (unwrap_or o []) 0 0) (apart other ne);
      contents = λ other. ⊎_elim
          (λ same. rw same (ap (option_map (drop 1)) here ∙ ap Some (drop-set-lt 1 ws 0 next (omega arith)) ∙ sym (ap (option_map (drop 1)) was)))
          (λ ne. ap (option_map (drop 1)) (apart other ne))
          (cases_eq other block);
      widths = λ other. ⊎_elim
          (λ same. rw same (ap (λ o. length (unwrap_or o [])) here ∙ length-set ws 0 next))
          (λ ne. ap (λ o. length (unwrap_or o [])) (apart other ne))
          (cases_eq other block);
      live = λ other. ⊎_elim
          (λ same. rw same (ap is_some here ∙ sym (ap is_some was)))
          (λ ne. ap is_some (apart other ne))
          (cases_eq other block);
    }

-- a thread without the block stays
pub thread_kept : (r r' : RegionState) (block next first count : ℕ) → LinksBlock r r' block next → IsAbsent (chain (link_of r) first count) block
    → chain (link_of r') first count ≡ chain (link_of r) first count
thread_kept r r' block next first count links absent =
    chain-same (link_of r) (link_of r') first count (λ n stands. links.elsewhere n (stands_apart (chain (link_of r) first count) n block stands absent))

pub last_stands : (ns : List ℕ) (i : ℕ) → i < length ns → StandsIn ns (get_or ns i 0)
last_stands [] i inside = absurd (omega arith)
last_stands (n ∷ ns) zero inside = stands_first n ns
last_stands (n ∷ ns) (suc i) inside = stands_later (get_or ns i 0) n ns (last_stands ns i (omega arith))

-- a thread becomes longer by a block that its last block names
pub chain_pushed : (f g : ℕ → ℕ) (first count block : ℕ) → IsDistinct eqb (chain f first (suc count))
    → g (get_or (chain f first (suc count)) count 0) ≡ block
    → ((n : ℕ) → n ≢ get_or (chain f first (suc count)) count 0 → g n ≡ f n)
    → chain g first (suc (suc count)) ≡ chain f first (suc count) ++ block ∷ []
chain_pushed f g first zero block distinct named same = ap (λ b. first ∷ b ∷ []) named
chain_pushed f g first (suc count) block distinct named same =
    let rest : List ℕ = chain f (f first) (suc count) in
    let last : ℕ = get_or rest count 0 in
    let inside : count < length rest = omega (arith, chain-length f (f first) (suc count)) in
    let apart : first ≢ last = λ e. stands_apart rest last first (last_stands rest count inside) (distinct_absent first rest distinct) (sym e) in
    let here : g first ≡ f first = same first apart in
    ap (λ ns. first ∷ ns)
    (ap (λ n. chain g n (suc (suc count))) here
    ∙ chain_pushed f g (f first) count block (distinct_rest first rest distinct) named same)
