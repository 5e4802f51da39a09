-- What stays of the contents of queues and of the held blocks, from what stays of lists and live blocks.
use Rattle.std.proofs.Common.{◌≡◌, ◌≢◌, ℕ, Bool, true, false, eqb, List, [], ◌∷◌, ◌++◌, map, take, drop, length, get_or, Option, Some, None, refl, sym, ◌∙◌, ap, subst, ⊎_elim, IsTrue, ◌||◌, arith}
use Rattle.std.specs.Option.{IsSome, unwrap_or, option_map}
use Rattle.std.specs.List.{list_any}
use Rattle.std.specs.FinMap.{get}
use Rattle.std.proofs.lemmas.Bool.{cases_eq, eq-eqb, ne_eqb}
use Rattle.std.proofs.lemmas.List.{map-append}
use Rattle.pict_region.specs.Chain.{chain}
use Rattle.pict_region.specs.RegionState.{RegionState}
use Rattle.pict_region.proofs.Uses.{Live, none_live}
use Rattle.pict_queue.specs.QueuesState.{QueueState, QueuesState, link_of, no_queue, queue_at, queue_blocks, without_first, moved_list, IsHeld, StandsIn, KeepsContents, KeepsQueues, KeepsOtherQueues}
use Rattle.pict_queue.specs.Contents.{held_words, contents, moved_contents, KeepsAllContents, KeepsOtherContents, StaysHeld, KeepsHeld, KeepsOtherHeld, HoldsNoMore, Releases, HoldsOneMore}

-- ---- lists of blocks

or_either : (a b c : Bool) → (IsTrue b → IsTrue c) → IsTrue (a || b) → IsTrue (a || c)
or_either true b c f h = refl
or_either false b c f h = f h

or_true : (a b : Bool) → IsTrue b → IsTrue (a || b)
or_true true b h = refl
or_true false b h = h

or_first : (a b : Bool) → IsTrue a → IsTrue (a || b)
or_first true b h = refl
or_first false b h = cc

same_map : (f g : ℕ → List ℕ) (xs : List ℕ) → ((x : ℕ) → IsTrue (list_any (eqb x) xs) → f x ≡ g x) → map f xs ≡ map g xs
same_map f g [] h = refl
same_map f g (x ∷ xs) h =
    let here : IsTrue (eqb x x || list_any (eqb x) xs) = rw (eq-eqb x x refl) refl in
    let e = h x here in
    let es = same_map f g xs (λ y i. h y (or_true (eqb y x) (list_any (eqb y) xs) i)) in cc (e, es)

-- a block that stands in a longer list, and isn't the block more, stands in the list
stands_without : (b block : ℕ) (xs : List ℕ) → b ≢ block → IsTrue (list_any (eqb b) (xs ++ block ∷ [])) → IsTrue (list_any (eqb b) xs)
stands_without b block [] apart h = let e = ne_eqb b block apart in let f : eqb b block || false ≡ true = h in cc
stands_without b block (x ∷ xs) apart h = or_either (eqb b x) (list_any (eqb b) (xs ++ block ∷ [])) (list_any (eqb b) xs) (stands_without b block xs apart) h

stands_behind : (b block : ℕ) (xs : List ℕ) → b ≢ block → IsTrue (list_any (eqb b) (block ∷ xs)) → IsTrue (list_any (eqb b) xs)
stands_behind b block xs apart h = let e = ne_eqb b block apart in let f : eqb b block || list_any (eqb b) xs ≡ true = h in cc

stands_longer : (b : ℕ) (xs ys : List ℕ) → IsTrue (list_any (eqb b) xs) → IsTrue (list_any (eqb b) (xs ++ ys))
stands_longer b [] ys h = cc
stands_longer b (x ∷ xs) ys h = or_either (eqb b x) (list_any (eqb b) xs) (list_any (eqb b) (xs ++ ys)) (stands_longer b xs ys) h

stands_last : (block : ℕ) (xs : List ℕ) → IsTrue (list_any (eqb block) (xs ++ block ∷ []))
stands_last block [] = or_first (eqb block block) false (eq-eqb block block refl)
stands_last block (x ∷ xs) = or_true (eqb block x) (list_any (eqb block) (xs ++ block ∷ [])) (stands_last block xs)

-- ---- words behind links

drop_unwrap : (o : Option (List ℕ)) → drop 1 (unwrap_or o []) ≡ unwrap_or (option_map (drop 1) o) []
drop_unwrap None = refl
drop_unwrap (Some ws) = refl

pub kept_words : (old new : RegionState) → KeepsContents old new → (block : ℕ) → held_words new block ≡ held_words old block
kept_words old new keeps block =
    drop_unwrap (get new.live block) ∙ ap (λ o. unwrap_or o []) (keeps block) ∙ sym (drop_unwrap (get old.live block))

is_some_dropped : (o p : Option (List ℕ)) → option_map (drop 1) o ≡ option_map (drop 1) p → IsSome p → IsSome o
is_some_dropped None None e h = h
is_some_dropped None (Some x) e h = cc
is_some_dropped (Some y) p e h = refl

-- ---- where only links and orders change

module _ (old new : QueuesState) (keeps : KeepsContents old.region new.region) where
  -- contents are those that the blocks of the new lists held before
  pub contents_by : (queue : ℕ) → contents new queue ≡ map (held_words old.region) (queue_blocks new queue)
  contents_by queue = same_map (held_words new.region) (held_words old.region) (queue_blocks new queue) (λ block stands. kept_words old.region new.region keeps block)

  pub contents_kept : (queue : ℕ) → queue_blocks new queue ≡ queue_blocks old queue → contents new queue ≡ contents old queue
  contents_kept queue same = contents_by queue ∙ ap (map (held_words old.region)) same

  pub other_contents_kept : (queue : ℕ) → KeepsOtherQueues old new queue → KeepsOtherContents old new queue
  other_contents_kept queue others other apart = contents_kept other (others other apart)

  pub contents_pushed_back : (queue block : ℕ) → queue_blocks new queue ≡ queue_blocks old queue ++ block ∷ [] → contents new queue ≡ contents old queue ++ held_words old.region block ∷ []
  contents_pushed_back queue block list =
      contents_by queue ∙ ap (map (held_words old.region)) list ∙ map-append (held_words old.region) (queue_blocks old queue) (block ∷ [])

  pub contents_pushed_front : (queue block : ℕ) → queue_blocks new queue ≡ block ∷ queue_blocks old queue → contents new queue ≡ held_words old.region block ∷ contents old queue
  contents_pushed_front queue block list = contents_by queue ∙ ap (map (held_words old.region)) list

  pub contents_popped : (queue block : ℕ) → queue_blocks old queue ≡ block ∷ queue_blocks new queue → contents old queue ≡ held_words new.region block ∷ contents new queue
  contents_popped queue block list =
      ap (map (held_words old.region)) list
      ∙ ap (λ ws. ws ∷ map (held_words old.region) (queue_blocks new queue)) (sym (kept_words old.region new.region keeps block))
      ∙ ap (λ wss. held_words new.region block ∷ wss) (sym (contents_by queue))

  pub contents_moved : (from to : ℕ) → ((queue : ℕ) → queue_blocks new queue ≡ moved_list old from to queue) → (queue : ℕ) → contents new queue ≡ moved_contents old from to queue
  contents_moved from to lists queue = contents_by queue ∙ ap (map (held_words old.region)) (lists queue)

  -- a held block stays held, where it stands in no list that it didn't stand in before
  pub stays : (block : ℕ) → IsHeld old block → ((queue : ℕ) → StandsIn new queue block → StandsIn old queue block) → StaysHeld old new block
  stays block held before = record {
    held = record {
      live = is_some_dropped (get new.region.live block) (get old.region.live block) (keeps block) held.live;
      apart = λ queue stands. held.apart queue (before queue stands);
    };
    words = kept_words old.region new.region keeps block;
  }

  -- a block that is held was held, where it stood in no list that it doesn't stand in now
  pub held_before : (block : ℕ) → IsHeld new block → ((queue : ℕ) → StandsIn old queue block → StandsIn new queue block) → IsHeld old block
  held_before block held after = record {
    live = is_some_dropped (get old.region.live block) (get new.region.live block) (sym (keeps block)) held.live;
    apart = λ queue stands. held.apart queue (after queue stands);
  }

  released : (queue block : ℕ) → StandsIn new queue block → ((b : ℕ) → StandsIn old queue b → StandsIn new queue b) → KeepsOtherQueues old new queue → Releases old new block
  released queue block there here others other held = (
    (λ same. held.apart queue (subst (StandsIn new queue) (sym same) there)),
    held_before other held (λ q stands. ⊎_elim
        (λ (same : q ≡ queue). subst (λ k. StandsIn new k other) (sym same) (here other (subst (λ k. StandsIn old k other) same stands)))
        (λ (n : q ≢ queue). subst (λ l. IsTrue (list_any (eqb other) l)) (sym (others q n)) stands)
        (cases_eq q queue)),
  )

  pub released_back : (queue block : ℕ) → queue_blocks new queue ≡ queue_blocks old queue ++ block ∷ [] → KeepsOtherQueues old new queue → Releases old new block
  released_back queue block list =
      released queue block (subst (λ l. IsTrue (list_any (eqb block) l)) (sym list) (stands_last block (queue_blocks old queue)))
      (λ b stands. subst (λ l. IsTrue (list_any (eqb b) l)) (sym list) (stands_longer b (queue_blocks old queue) (block ∷ []) stands))

  pub released_front : (queue block : ℕ) → queue_blocks new queue ≡ block ∷ queue_blocks old queue → KeepsOtherQueues old new queue → Releases old new block
  released_front queue block list =
      released queue block (subst (λ l. IsTrue (list_any (eqb block) l)) (sym list) (or_first (eqb block block) (list_any (eqb block) (queue_blocks old queue)) (eq-eqb block block refl)))
      (λ b stands. subst (λ l. IsTrue (list_any (eqb b) l)) (sym list) (or_true (eqb b block) (list_any (eqb b) (queue_blocks old queue)) stands))

  pub one_more_popped : (queue block : ℕ) → queue_blocks old queue ≡ block ∷ queue_blocks new queue → KeepsOtherQueues old new queue → HoldsOneMore old new block
  one_more_popped queue block list others other held apart = held_before other held (λ q stands. ⊎_elim
      (λ (same : q ≡ queue).
      subst (λ k. StandsIn new k other) (sym same)
      (stands_behind other block (queue_blocks new queue) apart (subst (λ l. IsTrue (list_any (eqb other) l)) list (subst (λ k. StandsIn old k other) same stands))))
      (λ (n : q ≢ queue). subst (λ l. IsTrue (list_any (eqb other) l)) (sym (others q n)) stands)
      (cases_eq q queue))

  pub held_pushed : (queue block : ℕ) → ((b : ℕ) → b ≢ block → StandsIn new queue b → StandsIn old queue b) → KeepsOtherQueues old new queue → KeepsOtherHeld old new block
  held_pushed queue block here others other apart held = stays other held (λ q stands. ⊎_elim
      (λ (same : q ≡ queue). subst (λ k. StandsIn old k other) (sym same) (here other apart (subst (λ k. StandsIn new k other) same stands)))
      (λ (n : q ≢ queue). subst (λ l. IsTrue (list_any (eqb other) l)) (others q n) stands)
      (cases_eq q queue))

  pub held_pushed_back : (queue block : ℕ) → queue_blocks new queue ≡ queue_blocks old queue ++ block ∷ [] → KeepsOtherQueues old new queue → KeepsOtherHeld old new block
  held_pushed_back queue block list =
      held_pushed queue block (λ b apart stands. stands_without b block (queue_blocks old queue) apart (subst (λ l. IsTrue (list_any (eqb b) l)) list stands))

  pub held_pushed_front : (queue block : ℕ) → queue_blocks new queue ≡ block ∷ queue_blocks old queue → KeepsOtherQueues old new queue → KeepsOtherHeld old new block
  held_pushed_front queue block list =
      held_pushed queue block (λ b apart stands. stands_behind b block (queue_blocks old queue) apart (subst (λ l. IsTrue (list_any (eqb b) l)) list stands))

  pub held_popped : (queue block : ℕ) → queue_blocks old queue ≡ block ∷ queue_blocks new queue → KeepsOtherQueues old new queue → KeepsHeld old new
  held_popped queue block list others other held = stays other held (λ q stands. ⊎_elim
      (λ (same : q ≡ queue).
      subst (λ k. StandsIn old k other) (sym same) (subst (λ l. IsTrue (list_any (eqb other) l)) (sym list)
      (or_true (eqb other block) (list_any (eqb other) (queue_blocks new queue)) (subst (λ k. StandsIn new k other) same stands))))
      (λ (n : q ≢ queue). subst (λ l. IsTrue (list_any (eqb other) l)) (others q n) stands)
      (cases_eq q queue))

-- ---- where one block changes that stands in no queue

module _ (old new : QueuesState) (block : ℕ) (others : (other : ℕ) → other ≢ block → get new.region.live other ≡ get old.region.live other) (lists : KeepsQueues old new) where
  pub contents_beside : ((queue : ℕ) → ¬ StandsIn old queue block) → KeepsAllContents old new
  contents_beside absent queue =
      ap (map (held_words new.region)) (lists queue)
      ∙ same_map (held_words new.region) (held_words old.region) (queue_blocks old queue)
      (λ other stands. ap (λ o. drop 1 (unwrap_or o [])) (others other (λ same. absent queue (subst (λ b. StandsIn old queue b) same stands))))

  pub held_beside : KeepsOtherHeld old new block
  held_beside other apart held = record {
    held = record {
      live = subst (λ o. IsSome o) (sym (others other apart)) held.live;
      apart = λ queue stands. held.apart queue (subst (λ l. IsTrue (list_any (eqb other) l)) (lists queue) stands);
    };
    words = ap (λ o. drop 1 (unwrap_or o [])) (others other apart);
  }

  pub one_more_beside : HoldsOneMore old new block
  one_more_beside other held apart = record {
    live = subst (λ o. IsSome o) (others other apart) held.live;
    apart = λ queue stands. held.apart queue (subst (λ l. IsTrue (list_any (eqb other) l)) (sym (lists queue)) stands);
  }

-- the block was held
pub no_more_if_held : (old new : QueuesState) (block : ℕ) → IsHeld old block → HoldsOneMore old new block → HoldsNoMore old new
no_more_if_held old new block held more other now = ⊎_elim
    (λ (same : other ≡ block). subst (IsHeld old) (sym same) held)
    (λ (apart : other ≢ block). more other now apart)
    (cases_eq other block)

-- the block isn't live now
pub released_if_gone : (old new : QueuesState) (block : ℕ) → get new.region.live block ≡ None → HoldsOneMore old new block → Releases old new block
released_if_gone old new block gone more other now =
    let apart : other ≢ block = λ same. none_live (get new.region.live other) (ap (get new.region.live) same ∙ gone) now.live in
    (apart, more other now apart)

-- a block that is taken was not held before
pub taken_apart : (old : QueuesState) (block other : ℕ) → get old.region.live block ≡ None → IsHeld old other → other ≢ block
taken_apart old block other fresh held same = none_live (get old.region.live other) (ap (get old.region.live) same ∙ fresh) held.live

-- ---- the first block of a queue becomes the last of another

first_gone : (old mid : QueuesState) (from block : ℕ) → queue_blocks old from ≡ block ∷ queue_blocks mid from → KeepsOtherQueues old mid from → (queue : ℕ) → queue_blocks mid queue ≡ without_first old from queue
first_gone old mid from block list others queue = ⊎_elim
    (λ (same : queue ≡ from). rw (eq-eqb queue from same) (ap (queue_blocks mid) same ∙ sym (ap (drop 1) (ap (queue_blocks old) same ∙ list))))
    (λ (n : queue ≢ from). rw (ne_eqb queue from n) (others queue n))
    (cases_eq queue from)

module _ (old mid new : QueuesState) (from to block : ℕ)
    (popped : queue_blocks old from ≡ block ∷ queue_blocks mid from) (others : KeepsOtherQueues old mid from)
    (pushed : queue_blocks new to ≡ queue_blocks mid to ++ block ∷ []) (others_after : KeepsOtherQueues mid new to) where
  pub lists_moved : (queue : ℕ) → queue_blocks new queue ≡ moved_list old from to queue
  lists_moved queue = ⊎_elim
      (λ (same : queue ≡ to). rw (eq-eqb queue to same)
      (ap (queue_blocks new) same ∙ pushed
      ∙ ap (λ l. l ++ block ∷ []) (sym (ap (queue_blocks mid) same) ∙ first_gone old mid from block popped others queue)
      ∙ ap (λ l. without_first old from queue ++ l) (sym (ap (take 1) popped))))
      (λ (n : queue ≢ to). rw (ne_eqb queue to n) (others_after queue n ∙ first_gone old mid from block popped others queue))
      (cases_eq queue to)

  -- the block that moved was not held
  pub held_moved : KeepsHeld old mid → KeepsOtherHeld mid new block → KeepsHeld old new
  held_moved first second other held =
      let apart : other ≢ block = λ same. held.apart from
      (subst (λ l. IsTrue (list_any (eqb other) l)) (sym popped) (rw (eq-eqb other block same) refl)) in
      let a = first other held in
      let b = second other apart a.held in
      record { held = b.held; words = b.words ∙ a.words }

  -- it isn't held afterwards
  pub no_more_moved : HoldsOneMore old mid block → Releases mid new block → HoldsNoMore old new
  no_more_moved first second other held = let b = second other held in first other b.1 b.0

-- a queue of one block, whose first block goes to its back, is as it was
one_turned : (ns : List ℕ) → length ns ≡ 1 → ns ≡ drop 1 ns ++ take 1 ns
one_turned [] one = cc
one_turned (n ∷ []) one = refl
one_turned (n ∷ m ∷ ns) one = absurd (omega (arith, one))

pub lists_turned : (s : QueuesState) (from to : ℕ) → from ≡ to → length (queue_blocks s from) ≡ 1 → (queue : ℕ) → queue_blocks s queue ≡ moved_list s from to queue
lists_turned s from to same one queue = ⊎_elim
    (λ (here : queue ≡ to).
    let is : queue ≡ from = here ∙ sym same in
    rw (eq-eqb queue to here, eq-eqb queue from is)
    (one_turned (queue_blocks s queue) (ap (λ q. length (queue_blocks s q)) is ∙ one) ∙ ap (λ q. drop 1 (queue_blocks s queue) ++ take 1 (queue_blocks s q)) is))
    (λ (n : queue ≢ to). rw (ne_eqb queue to n, ne_eqb queue from (λ e. n (e ∙ same))) refl)
    (cases_eq queue to)

pub words_along : (a b c : RegionState) → KeepsContents a b → KeepsContents b c → KeepsContents a c
words_along a b c first second block = second block ∙ first block

-- ---- where neither blocks nor orders change

module _ (old new : QueuesState) (live : new.region.live ≡ old.region.live) (lists : KeepsQueues old new) where
  same_words : KeepsContents old.region new.region
  same_words block = ap (λ (m : Live). option_map (drop 1) (get m block)) live

  pub contents_same : KeepsAllContents old new
  contents_same queue = contents_kept old new same_words queue (lists queue)

  pub held_same : KeepsHeld old new
  held_same block held = stays old new same_words block held (λ queue stands. subst (λ l. IsTrue (list_any (eqb block) l)) (lists queue) stands)

  pub no_more_same : HoldsNoMore old new
  no_more_same block held = held_before old new same_words block held (λ queue stands. subst (λ l. IsTrue (list_any (eqb block) l)) (sym (lists queue)) stands)

-- lists are read from live blocks and from the first blocks of queues
pub lists_same : (old new : QueuesState) → new.region.live ≡ old.region.live → new.queues ≡ old.queues → KeepsQueues old new
lists_same old new live queues queue =
    ap (λ (m : Live). chain (λ n. get_or (unwrap_or (get m n) []) 0 0) (queue_at new queue).first (queue_at new queue).count) live
    ∙ ap (λ (qs : List QueueState). chain (link_of old.region) (get_or qs queue no_queue).first (get_or qs queue no_queue).count) queues
