-- For callers of a region: which blocks of which width are live after each call.
use Rattle.std.proofs.Common.{◌≡◌, ◌≢◌, ◌≤◌, ℕ, Option, arith, cond, List, [], length, replicate, set, Some, None, refl, sym, ◌∙◌, ap, subst, ⊎_elim}
use Rattle.std.specs.Option.{IsSome, IfSome, is_some, unwrap_or}
use Rattle.std.specs.Ordering.{nat_cmp}
use Rattle.std.specs.Cmp.{nat_cmp_total}
use Rattle.std.specs.FinMap.{FinMap, get, insert, remove, get-insert, get-remove}
use Rattle.std.proofs.lemmas.Bool.{cases_eq}
use Rattle.std.proofs.lemmas.List.{length-set, length-replicate}
use Rattle.std.proofs.lemmas.Option.{none-some}
use Rattle.pict_region.proofs.Frees.{cmp_same, cmp_apart}

module _ (live : FinMap nat_cmp (List ℕ)) (number : ℕ) where
  pub get_inserted : (block : List ℕ) → get (insert live number block) number ≡ Some block
  get_inserted block = get-insert nat_cmp_total live number block number ∙ ap (λ b. cond b (Some block) (get live number)) (cmp_same number)

  pub get_insert_apart : (block : List ℕ) (other : ℕ) → other ≢ number → get (insert live number block) other ≡ get live other
  get_insert_apart block other apart = get-insert nat_cmp_total live number block other ∙ ap (λ b. cond b (Some block) (get live other)) (cmp_apart other number apart)

  pub get_removed : get (remove live number) number ≡ None
  get_removed = get-remove nat_cmp_total live number number ∙ ap (λ b. cond b None (get live number)) (cmp_same number)

  pub get_remove_apart : (other : ℕ) → other ≢ number → get (remove live number) other ≡ get live other
  get_remove_apart other apart = get-remove nat_cmp_total live number other ∙ ap (λ b. cond b None (get live other)) (cmp_apart other number apart)

abbrev pub Live : Type 0
Live = FinMap nat_cmp (List ℕ)

-- no block is live at a number without words
pub none_live : (o : Option (List ℕ)) → o ≡ None → ¬ IsSome o
none_live None e is = cc
none_live (Some x) e is = none-some x (sym e)

-- what was live, or is now, has the width that it had or gets
module _ (live live' : Live) (block : ℕ) (words : List ℕ) (fresh : get live block ≡ None) (gains : live' ≡ insert live block words) where
  got_block : get live' block ≡ Some words
  got_block = ap (λ m. get m block) gains ∙ get_inserted live block words

  got_other : (last : ℕ) → IsSome (get live last) → get live' last ≡ get live last
  got_other last is = ap (λ m. get m last) gains ∙ get_insert_apart live block words last (λ same. none_live (get live block) fresh (subst (λ n. IsSome (get live n)) same is))

  pub live_or : (before : Option ℕ) → IfSome before (λ last. IsSome (get live last)) → IsSome (get live' (unwrap_or before block))
  live_or None known = ap is_some got_block
  live_or (Some last) known = ap is_some (got_other last known) ∙ known

  pub wide_or : (before : Option ℕ) → IfSome before (λ last. IsSome (get live last)) → IfSome before (λ last. 1 ≤ length (unwrap_or (get live last) [])) → 1 ≤ length words
      → 1 ≤ length (unwrap_or (get live' (unwrap_or before block)) [])
  wide_or None known wide some = let e : length (unwrap_or (get live' block) []) ≡ length words = ap (λ o. length (unwrap_or o [])) got_block in omega (arith, e, some)
  wide_or (Some last) known wide some = subst (λ o. 1 ≤ length (unwrap_or o [])) (sym (got_other last known)) wide

-- a block of this width is live
pub record Holds (live : Live) (number width : ℕ) : Type 0 where
  pub block : List ℕ
  pub found : get live number ≡ Some block
  pub wide : length block ≡ width

pub holds_live : (live : Live) (number width : ℕ) → Holds live number width → IsSome (get live number)
holds_live live number width h = subst (λ o. IsSome o) (sym h.found) refl

pub holds_width : (live : Live) (number width : ℕ) → Holds live number width → length (unwrap_or (get live number) []) ≡ width
holds_width live number width h = ap (λ o. length (unwrap_or o [])) h.found ∙ h.wide

pub holds_same : (live live' : Live) (number width : ℕ) → Holds live number width → live' ≡ live → Holds live' number width
holds_same live live' number width h same = record { block = h.block; found = ap (λ m. get m number) same ∙ h.found; wide = h.wide }

pub holds_taken : (live live' : Live) (number width : ℕ) → live' ≡ insert live number (replicate width 0) → Holds live' number width
holds_taken live live' number width is = record {
  block = replicate width 0;
  found = ap (λ m. get m number) is ∙ get_inserted live number (replicate width 0);
  wide = length-replicate width 0;
}

pub apart_from_new : (live : Live) (number other width : ℕ) → Holds live number width → get live other ≡ None → number ≢ other
apart_from_new live number other width h fresh same = none-some h.block (sym fresh ∙ ap (get live) (sym same) ∙ h.found)

pub holds_beside : (live live' : Live) (number other width : ℕ) (block : List ℕ) → Holds live number width → get live other ≡ None
    → live' ≡ insert live other block → Holds live' number width
holds_beside live live' number other width block h fresh is = record {
  block = h.block;
  found = ap (λ m. get m number) is ∙ get_insert_apart live other block number (apart_from_new live number other width h fresh) ∙ h.found;
  wide = h.wide;
}

pub holds_set : (live live' : Live) (number other width i word : ℕ) → Holds live number width
    → live' ≡ insert live other (set (unwrap_or (get live other) []) i word) → Holds live' number width
holds_set live live' number other width i word h is =
    let block : List ℕ = set (unwrap_or (get live other) []) i word in
    ⊎_elim
    (λ same. record {
      block = block;
      found = ap (λ m. get m number) is ∙ ap (get (insert live other block)) same ∙ get_inserted live other block;
      wide = length-set (unwrap_or (get live other) []) i word ∙ ap (λ n. length (unwrap_or (get live n) [])) (sym same) ∙ holds_width live number width h;
    })
    (λ apart. record {
      block = h.block;
      found = ap (λ m. get m number) is ∙ get_insert_apart live other block number apart ∙ h.found;
      wide = h.wide;
    })
    (cases_eq number other)

pub holds_given : (live live' : Live) (number other width : ℕ) → Holds live number width → number ≢ other → live' ≡ remove live other → Holds live' number width
holds_given live live' number other width h apart is = record {
  block = h.block;
  found = ap (λ m. get m number) is ∙ get_remove_apart live other number apart ∙ h.found;
  wide = h.wide;
}

-- two blocks are live
pub record HoldsBoth (live : Live) (first first_width second second_width : ℕ) : Type 0 where
  pub one : Holds live first first_width
  pub two : Holds live second second_width
  pub apart : second ≢ first

pub both_taken : (live live' live'' : Live) (first first_width second second_width : ℕ) → live' ≡ insert live first (replicate first_width 0)
    → get live' second ≡ None → live'' ≡ insert live' second (replicate second_width 0) → HoldsBoth live'' first first_width second second_width
both_taken live live' live'' first first_width second second_width first_is fresh second_is =
    let one = holds_taken live live' first first_width first_is in
    record {
      one = holds_beside live' live'' first second first_width (replicate second_width 0) one fresh second_is;
      two = holds_taken live' live'' second second_width second_is;
      apart = λ same. apart_from_new live' first second first_width one fresh (sym same);
    }

pub both_set : (live live' : Live) (first first_width second second_width other i word : ℕ) → HoldsBoth live first first_width second second_width
    → live' ≡ insert live other (set (unwrap_or (get live other) []) i word) → HoldsBoth live' first first_width second second_width
both_set live live' first first_width second second_width other i word both is = record {
  one = holds_set live live' first other first_width i word both.one is;
  two = holds_set live live' second other second_width i word both.two is;
  apart = both.apart;
}

pub both_same : (live live' : Live) (first first_width second second_width : ℕ) → HoldsBoth live first first_width second second_width
    → live' ≡ live → HoldsBoth live' first first_width second second_width
both_same live live' first first_width second second_width both is = record {
  one = holds_same live live' first first_width both.one is;
  two = holds_same live live' second second_width both.two is;
  apart = both.apart;
}

pub second_left : (live live' : Live) (first first_width second second_width : ℕ) → HoldsBoth live first first_width second second_width
    → live' ≡ remove live first → Holds live' second second_width
second_left live live' first first_width second second_width both given = holds_given live live' second first second_width both.two both.apart given
