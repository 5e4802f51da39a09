-- What is read behind a tag.
use Rattle.std.proofs.Common.{◌≡◌, ◌≢◌, ℕ, zero, suc, ◌-◌, ◌<◌, ◌≤◌, Bool, cond, eqb, List, [], ◌∷◌, length, take, drop, get_or, Option, Some, None, unwrap_or, refl, sym, ap, ◌∙◌, subst, arith}
use Rattle.std.proofs.lemmas.Bool.{ne_eqb}
use Rattle.pict_syntax.specs.declared.name.Name.{Name}
use Rattle.pict_syntax.specs.declared.limits.TheConstants.{NESTING_LIMIT}
use Rattle.pict_core.specs.Term.{Val, Pat, Bind, Any, Process, In}
use Rattle.pict_core.specs.Closed.{binds}
use Rattle.pict_object.specs.declared.error.DecodeError.{DecodeError}
use Rattle.pict_object.specs.declared.error.DecodeError.TheVariants as error
use Rattle.pict_object.specs.Reading.{◌>>=◌, Refuses, byte_at, nothing_at, simple_at, record_at, tagged_value_at, value_at, record_pattern_at, tagged_pattern_at, pattern_at, more, receiver_at, in_at, tagged_at, node_at, process_at}

-- ---- steps of a reading

pub refuses_first : {A B : Type 0} (e : DecodeError) (o : Option A) (f : A → Option B) → Refuses e o → Refuses e (o >>= f)
refuses_first error.Memory o f h = tt
refuses_first error.NotObject o f h = ap (λ z. z >>= f) h

pub reads_behind : {A B : Type 0} (o : Option A) (x : A) (f : A → Option B) (r : Option B) → o ≡ Some x → f x ≡ r → (o >>= f) ≡ r
reads_behind o x f r h k = ap (λ z. z >>= f) h ∙ k

-- ---- the tag

tag_is : (bytes : List ℕ) (tag : ℕ) (rest : List ℕ) → byte_at bytes ≡ Some (tag, rest) → bytes ≡ tag ∷ rest
unfolding byte_at
tag_is [] tag rest h = absurd cc
tag_is (b ∷ bytes) tag rest h = ap (λ (o : Option (ℕ × List ℕ)). (unwrap_or o (tag, rest)).0 ∷ (unwrap_or o (tag, rest)).1) h

-- a reading that begins with a tag, of bytes that begin with one
pub behind_tag : {A : Type 0} (reading : List ℕ → Option A) (bytes : List ℕ) (tag : ℕ) (rest : List ℕ) (r : Option A) → byte_at bytes ≡ Some (tag, rest) → reading (tag ∷ rest) ≡ r → reading bytes ≡ r
behind_tag reading bytes tag rest r h k = ap reading (tag_is bytes tag rest h) ∙ k

pub without_tag : {A : Type 0} (reading : List ℕ → Option A) (e : DecodeError) (bytes : List ℕ) → reading [] ≡ None → Refuses e (byte_at bytes) → Refuses e (reading bytes)
unfolding byte_at
without_tag reading error.Memory bytes empty h = tt
without_tag reading error.NotObject [] empty h = empty
without_tag reading error.NotObject (b ∷ bytes) empty h = absurd cc

-- ---- values

pub value_empty : (labels : List Name) (bound left : ℕ) → value_at labels bound left [] ≡ None
unfolding value_at tagged_value_at
value_empty labels bound zero = refl
value_empty labels bound (suc left) = refl

pub value_is_simple : (labels : List Name) (bound left tag : ℕ) (rest : List ℕ) → tag ≢ 0x17 → value_at labels bound left (tag ∷ rest) ≡ simple_at bound tag rest
unfolding value_at tagged_value_at
value_is_simple labels bound zero tag rest n = ap (λ b. cond b (nothing_at rest) (simple_at bound tag rest)) (ne_eqb tag 0x17 n)
value_is_simple labels bound (suc left) tag rest n = ap (λ b. cond b (record_at labels (value_at labels bound left) rest) (simple_at bound tag rest)) (ne_eqb tag 0x17 n)

pub value_too_deep : (labels : List Name) (bound left tag : ℕ) (rest : List ℕ) → tag ≡ 0x17 → left ≡ 0 → value_at labels bound left (tag ∷ rest) ≡ None
unfolding value_at tagged_value_at
value_too_deep labels bound zero tag rest e n = ap (λ t. value_at labels bound 0 (t ∷ rest)) e
value_too_deep labels bound (suc left) tag rest e n = absurd (omega (arith, n))

pub value_is_record : (labels : List Name) (bound left tag : ℕ) (rest : List ℕ) → tag ≡ 0x17 → 0 < left → value_at labels bound left (tag ∷ rest) ≡ record_at labels (value_at labels bound (left - 1)) rest
unfolding value_at tagged_value_at
value_is_record labels bound zero tag rest e n = absurd (omega (arith, n))
value_is_record labels bound (suc left) tag rest e n =
    let less : suc left - 1 ≡ left = omega arith in
    ap (λ t. value_at labels bound (suc left) (t ∷ rest)) e ∙ ap (λ k. record_at labels (value_at labels bound k) rest) (sym less)

-- ---- patterns

pub pattern_empty : (labels : List Name) (left : ℕ) → pattern_at labels left [] ≡ None
unfolding pattern_at tagged_pattern_at
pattern_empty labels zero = refl
pattern_empty labels (suc left) = refl

pub pattern_is_bind : (labels : List Name) (left tag : ℕ) (rest : List ℕ) → tag ≡ 0x20 → pattern_at labels left (tag ∷ rest) ≡ Some (Bind, rest)
unfolding pattern_at tagged_pattern_at
pattern_is_bind labels zero tag rest e = ap (λ t. pattern_at labels 0 (t ∷ rest)) e
pattern_is_bind labels (suc left) tag rest e = ap (λ t. pattern_at labels (suc left) (t ∷ rest)) e

pub pattern_is_any : (labels : List Name) (left tag : ℕ) (rest : List ℕ) → tag ≡ 0x21 → pattern_at labels left (tag ∷ rest) ≡ Some (Any, rest)
unfolding pattern_at tagged_pattern_at
pattern_is_any labels zero tag rest e = ap (λ t. pattern_at labels 0 (t ∷ rest)) e
pattern_is_any labels (suc left) tag rest e = ap (λ t. pattern_at labels (suc left) (t ∷ rest)) e

pub pattern_too_deep : (labels : List Name) (left tag : ℕ) (rest : List ℕ) → tag ≡ 0x22 → left ≡ 0 → pattern_at labels left (tag ∷ rest) ≡ None
unfolding pattern_at tagged_pattern_at
pattern_too_deep labels zero tag rest e n = ap (λ t. pattern_at labels 0 (t ∷ rest)) e
pattern_too_deep labels (suc left) tag rest e n = absurd (omega (arith, n))

pub pattern_is_record : (labels : List Name) (left tag : ℕ) (rest : List ℕ) → tag ≡ 0x22 → 0 < left → pattern_at labels left (tag ∷ rest) ≡ record_pattern_at labels (pattern_at labels (left - 1)) rest
unfolding pattern_at tagged_pattern_at
pattern_is_record labels zero tag rest e n = absurd (omega (arith, n))
pattern_is_record labels (suc left) tag rest e n =
    let less : suc left - 1 ≡ left = omega arith in
    ap (λ t. pattern_at labels (suc left) (t ∷ rest)) e ∙ ap (λ k. record_pattern_at labels (pattern_at labels k) rest) (sym less)

pub pattern_is_none : (labels : List Name) (left tag : ℕ) (rest : List ℕ) → tag ≢ 0x20 → tag ≢ 0x21 → tag ≢ 0x22 → pattern_at labels left (tag ∷ rest) ≡ None
unfolding pattern_at tagged_pattern_at
pattern_is_none labels zero tag rest a b c =
    ap (λ z. cond z (Some (Bind, rest)) (cond (eqb tag 0x21) (Some (Any, rest)) (cond (eqb tag 0x22) (nothing_at rest) None))) (ne_eqb tag 0x20 a)
    ∙ ap (λ z. cond z (Some (Any, rest)) (cond (eqb tag 0x22) (nothing_at rest) None)) (ne_eqb tag 0x21 b)
    ∙ ap (λ z. cond z (nothing_at rest) None) (ne_eqb tag 0x22 c)
pattern_is_none labels (suc left) tag rest a b c =
    let fields : Option (Pat × List ℕ) = record_pattern_at labels (pattern_at labels left) rest in
    ap (λ z. cond z (Some (Bind, rest)) (cond (eqb tag 0x21) (Some (Any, rest)) (cond (eqb tag 0x22) fields None))) (ne_eqb tag 0x20 a)
    ∙ ap (λ z. cond z (Some (Any, rest)) (cond (eqb tag 0x22) fields None)) (ne_eqb tag 0x21 b)
    ∙ ap (λ z. cond z fields None) (ne_eqb tag 0x22 c)

-- ---- processes

pub process_too_deep : (labels : List Name) (left bound : ℕ) (bytes : List ℕ) → left ≡ 0 → process_at labels left bound bytes ≡ None
unfolding process_at
process_too_deep labels zero bound bytes e = refl
process_too_deep labels (suc left) bound bytes e = absurd (omega (arith, e))

pub process_empty : (labels : List Name) (left bound : ℕ) → process_at labels left bound [] ≡ None
unfolding process_at node_at
process_empty labels zero bound = refl
process_empty labels (suc left) bound = refl

pub process_is_tagged : (labels : List Name) (left bound tag : ℕ) (rest : List ℕ) → 0 < left → process_at labels left bound (tag ∷ rest) ≡ tagged_at labels (process_at labels (left - 1)) bound tag rest
unfolding process_at node_at
process_is_tagged labels zero bound tag rest n = absurd (omega (arith, n))
process_is_tagged labels (suc left) bound tag rest n =
    let less : suc left - 1 ≡ left = omega arith in
    ap (λ k. tagged_at labels (process_at labels k) bound tag rest) (sym less)

read_both : {A B C D : Type 0} (o : Option A) (f : A → Option B) (both : A → B → C) (g : C → Option D) → ((o >>= λ x. f x >>= λ y. Some (both x y)) >>= g) ≡ (o >>= λ x. f x >>= λ y. g (both x y))
read_both None f both g = refl
read_both {B = B} (Some x) f both g = last (f x)
  where
    last : (o : Option B) → ((o >>= λ y. Some (both x y)) >>= g) ≡ (o >>= λ y. g (both x y))
    last None = refl
    last (Some y) = refl

-- the body of an input, behind what is before it
abbrev body_at : Bool → (ℕ → List ℕ → Option (Process × List ℕ)) → ℕ → (Val × Pat) × List ℕ → Option (Process × List ℕ)
body_at replicated part bound x = part (more bound (binds x.0.1)) x.1 >>= λ body. Some (In x.0.0 replicated x.0.1 body.0, body.1)

module _ (labels : List Name) (replicated : Bool) (part : ℕ → List ℕ → Option (Process × List ℕ)) (bound : ℕ) (bytes : List ℕ) where
  in_is : (receiver_at labels bound bytes >>= body_at replicated part bound) ≡ in_at labels replicated part bound bytes
  unfolding receiver_at in_at
  in_is =
      read_both (value_at labels bound NESTING_LIMIT bytes) (λ chan. pattern_at labels NESTING_LIMIT chan.1) (λ chan pattern. ((chan.0, pattern.0), pattern.1)) (body_at replicated part bound)

  pub receiver_ends : (e : DecodeError) → Refuses e (receiver_at labels bound bytes) → Refuses e (in_at labels replicated part bound bytes)
  receiver_ends e h = subst (Refuses e) in_is (refuses_first e (receiver_at labels bound bytes) (body_at replicated part bound) h)

  pub receiver_goes_on : (chan : Val) (pattern : Pat) (mid : List ℕ) (inner : ℕ) → receiver_at labels bound bytes ≡ Some ((chan, pattern), mid) → inner ≡ more bound (binds pattern)
      → (part inner mid >>= λ body. Some (In chan replicated pattern body.0, body.1)) ≡ in_at labels replicated part bound bytes
  receiver_goes_on chan pattern mid inner h k =
      ap (λ n. part n mid >>= λ body. Some (In chan replicated pattern body.0, body.1)) k ∙ ap (λ z. z >>= body_at replicated part bound) (sym h) ∙ in_is

-- ---- the first byte

pub no_bytes : (bytes : List ℕ) → length bytes < 1 → bytes ≡ []
no_bytes [] h = refl
no_bytes (byte ∷ bytes) h = absurd (omega (arith, h))

all_taken : (bytes : List ℕ) → take (length bytes) bytes ≡ bytes
all_taken [] = refl
all_taken (byte ∷ bytes) = ap (λ z. byte ∷ z) (all_taken bytes)

pub some_bytes : (bytes : List ℕ) → 1 ≤ length bytes → bytes ≡ get_or bytes 0 0 ∷ take (length bytes - 1) (drop 1 bytes)
some_bytes [] h = absurd (omega (arith, h))
some_bytes (byte ∷ bytes) h =
    let less : suc (length bytes) - 1 ≡ length bytes = omega arith in
    ap (λ z. byte ∷ z) (sym (ap (λ n. take n bytes) less ∙ all_taken bytes))
