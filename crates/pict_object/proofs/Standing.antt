-- What is read of processes stands there, and meets the bounds of objects.
use Rattle.std.proofs.Common.{◌≡◌, ℕ, zero, suc, ◌+◌, ◌-◌, ◌^◌, ◌≤◌, min, Bool, true, false, cond, eqb, List, [], ◌∷◌, ◌++◌, length, Option, Some, None, refl, sym, ap, subst, ◌∙◌, append-nil, arith}
use Rattle.std.specs.Prelude.{IfSome}
use Rattle.std.proofs.lemmas.Bool.{eqb-true}
use Rattle.std.proofs.lemmas.List.{nil_from_length}
use Rattle.pict_syntax.specs.declared.limits.TheConstants.{DEPTH_LIMIT, NESTING_LIMIT}
use Rattle.pict_syntax.specs.declared.name.Name.{Name}
use Rattle.pict_core.specs.Term.{Val, Process, Zero, Par, New, Out, In, If, depth_of}
use Rattle.pict_core.specs.Closed.{binds, IsUnder, IsClosed}
use Rattle.pict_translation.specs.Within.{Nests}
use Rattle.pict_object.specs.Objects.{value_bytes, pattern_bytes, process_bytes, input_byte, bare, nowhere}
use Rattle.pict_object.specs.Fits.{HasBytes}
use Rattle.pict_object.specs.Cores.{LabelsRise}
use Rattle.pict_object.specs.Reading.{◌>>=◌, value_at, pattern_at, more, par_at, new_at, out_at, in_at, if_at, tagged_at, node_at, process_at, whole_at}
use Rattle.pict_object.proofs.Fronts.{IsBytes, IsBytes-rest, Takes, takes_both, takes_tag, if_then, if_either}
use Rattle.pict_object.proofs.Found.{AreFor, IsValueRead, IsPatternRead, value_read, pattern_read}

-- what a number of variables is held at
abbrev pub Held : ℕ → ℕ → Type 0
Held n b = b ≡ min n (2 ^ 64 - 1)

pub held_more : (n b k : ℕ) → Held n b → Held (n + k) (more b k)
held_more n b k e = omega (arith, e)

module _ (labels : List Name) (place : ℕ → ℕ) (Placed : ℕ → Type 0) (Before : ℕ → ℕ → Type 0) (are : AreFor labels place Placed Before) where
  abbrev ValueRead : ℕ → List ℕ → Val × List ℕ → Type 0
  ValueRead n bytes r = IsValueRead labels place Placed Before are n NESTING_LIMIT bytes r

  abbrev IsProcessRead : ℕ → ℕ → List ℕ → Process × List ℕ → Type 0
  IsProcessRead n left bytes r =
      IsUnder n 0 r.0 × (depth_of r.0 ≤ left) × Nests NESTING_LIMIT r.0 × HasBytes Placed r.0 × LabelsRise Before r.0 × (bare r.0 ≡ r.0) × Takes bytes (process_bytes place r.0) r.1

  at_tag : (n left tag code : ℕ) (rest : List ℕ) (o : Option (Process × List ℕ)) → eqb tag code ≡ true → IfSome o (IsProcessRead n left (code ∷ rest)) → IfSome o (IsProcessRead n left (tag ∷ rest))
  at_tag n left tag code rest o e h = subst (λ z. IfSome o (IsProcessRead n left (z ∷ rest))) (sym (eqb-true tag code e)) h

  value : (n b : ℕ) → Held n b → (bytes : List ℕ) → IsBytes bytes → IfSome (value_at labels b NESTING_LIMIT bytes) (ValueRead n bytes)
  value n b e bytes fits = value_read labels place Placed Before are n b (omega (arith, e)) NESTING_LIMIT bytes fits

  out_read : (n b left : ℕ) → Held n b → (rest : List ℕ) → IsBytes rest → IfSome (out_at labels b rest) (IsProcessRead n (suc left) (3 ∷ rest))
  unfolding out_at
  out_read n b left e rest fits =
      if_then (value_at labels b NESTING_LIMIT rest) (λ chan. value_at labels b NESTING_LIMIT chan.1 >>= λ message. Some (Out chan.0 message.0 nowhere, message.1)) (ValueRead n rest) (IsProcessRead n (suc left) (3 ∷ rest))
      (value n b e rest fits) (λ chan h.
      if_then (value_at labels b NESTING_LIMIT chan.1) (λ message. Some (Out chan.0 message.0 nowhere, message.1)) (ValueRead n chan.1) (IsProcessRead n (suc left) (3 ∷ rest))
      (value n b e chan.1 h.4.fits) (λ message k. (
        (h.0, k.0),
        omega arith,
        (h.1, k.1),
        (h.2, k.2),
        (h.3, k.3),
        refl,
        takes_tag 3 rest (value_bytes place chan.0 ++ value_bytes place message.0) message.1 (takes_both rest (value_bytes place chan.0) chan.1 (value_bytes place message.0) message.1 h.4 k.4),
      )))

  -- processes whose parts are read so
  module _ (left : ℕ) (part : ℕ → List ℕ → Option (Process × List ℕ)) (sound : (n b : ℕ) → Held n b → (bytes : List ℕ) → IsBytes bytes → IfSome (part b bytes) (IsProcessRead n left bytes)) where
    par_read : (n b : ℕ) → Held n b → (rest : List ℕ) → IsBytes rest → IfSome (par_at part b rest) (IsProcessRead n (suc left) (1 ∷ rest))
    unfolding par_at
    par_read n b e rest fits =
        if_then (part b rest) (λ p. part b p.1 >>= λ q. Some (Par p.0 q.0, q.1)) (IsProcessRead n left rest) (IsProcessRead n (suc left) (1 ∷ rest))
        (sound n b e rest fits) (λ p h.
        if_then (part b p.1) (λ q. Some (Par p.0 q.0, q.1)) (IsProcessRead n left p.1) (IsProcessRead n (suc left) (1 ∷ rest))
        (sound n b e p.1 h.6.fits) (λ q k. (
          (h.0, k.0),
          omega (arith, h.1, k.1),
          (h.2, k.2),
          (h.3, k.3),
          (h.4, k.4),
          ap (λ z. Par z (bare q.0)) h.5 ∙ ap (λ z. Par p.0 z) k.5,
          takes_tag 1 rest (process_bytes place p.0 ++ process_bytes place q.0) q.1 (takes_both rest (process_bytes place p.0) p.1 (process_bytes place q.0) q.1 h.6 k.6),
        )))

    new_read : (n b : ℕ) → Held n b → (rest : List ℕ) → IsBytes rest → IfSome (new_at part b rest) (IsProcessRead n (suc left) (2 ∷ rest))
    unfolding new_at
    new_read n b e rest fits =
        if_then (part (more b 1) rest) (λ p. Some (New p.0, p.1)) (IsProcessRead (n + 1) left rest) (IsProcessRead n (suc left) (2 ∷ rest))
        (sound (n + 1) (more b 1) (held_more n b 1 e) rest fits) (λ p h.
        (h.0, omega (arith, h.1), h.2, h.3, h.4, ap (λ z. New z) h.5, takes_tag 2 rest (process_bytes place p.0) p.1 h.6))

    in_read : (replicated : Bool) (n b : ℕ) → Held n b → (rest : List ℕ) → IsBytes rest → IfSome (in_at labels replicated part b rest) (IsProcessRead n (suc left) (input_byte replicated ∷ rest))
    unfolding in_at
    in_read replicated n b e rest fits =
        let Q : Process × List ℕ → Type 0 = IsProcessRead n (suc left) (input_byte replicated ∷ rest) in
        if_then (value_at labels b NESTING_LIMIT rest) (λ chan. pattern_at labels NESTING_LIMIT chan.1 >>= λ pattern. part (more b (binds pattern.0)) pattern.1 >>= λ body. Some (In chan.0 replicated pattern.0 body.0, body.1)) (ValueRead n rest) Q
        (value n b e rest fits) (λ chan h.
        if_then (pattern_at labels NESTING_LIMIT chan.1) (λ pattern. part (more b (binds pattern.0)) pattern.1 >>= λ body. Some (In chan.0 replicated pattern.0 body.0, body.1)) (IsPatternRead labels place Placed Before are NESTING_LIMIT chan.1) Q
        (pattern_read labels place Placed Before are NESTING_LIMIT chan.1 h.4.fits) (λ pattern l.
        if_then (part (more b (binds pattern.0)) pattern.1) (λ body. Some (In chan.0 replicated pattern.0 body.0, body.1)) (IsProcessRead (n + binds pattern.0) left pattern.1) Q
        (sound (n + binds pattern.0) (more b (binds pattern.0)) (held_more n b (binds pattern.0) e) pattern.1 l.3.fits) (λ body k. (
          (h.0, k.0),
          omega (arith, k.1),
          (h.1, l.0, k.2),
          (h.2, l.1, k.3),
          (h.3, l.2, k.4),
          ap (λ z. In chan.0 replicated pattern.0 z) k.5,
          takes_tag (input_byte replicated) rest (value_bytes place chan.0 ++ (pattern_bytes place pattern.0 ++ process_bytes place body.0)) body.1
              (takes_both rest (value_bytes place chan.0) chan.1 (pattern_bytes place pattern.0 ++ process_bytes place body.0) body.1 h.4
              (takes_both chan.1 (pattern_bytes place pattern.0) pattern.1 (process_bytes place body.0) body.1 l.3 k.6)),
        ))))

    if_read : (n b : ℕ) → Held n b → (rest : List ℕ) → IsBytes rest → IfSome (if_at labels part b rest) (IsProcessRead n (suc left) (6 ∷ rest))
    unfolding if_at
    if_read n b e rest fits =
        let Q : Process × List ℕ → Type 0 = IsProcessRead n (suc left) (6 ∷ rest) in
        if_then (value_at labels b NESTING_LIMIT rest) (λ test. part b test.1 >>= λ p. part b p.1 >>= λ q. Some (If test.0 p.0 q.0, q.1)) (ValueRead n rest) Q
        (value n b e rest fits) (λ test h.
        if_then (part b test.1) (λ p. part b p.1 >>= λ q. Some (If test.0 p.0 q.0, q.1)) (IsProcessRead n left test.1) Q
        (sound n b e test.1 h.4.fits) (λ p k.
        if_then (part b p.1) (λ q. Some (If test.0 p.0 q.0, q.1)) (IsProcessRead n left p.1) Q
        (sound n b e p.1 k.6.fits) (λ q m. (
          (h.0, k.0, m.0),
          omega (arith, k.1, m.1),
          (h.1, k.2, m.2),
          (h.2, k.3, m.3),
          (h.3, k.4, m.4),
          ap (λ z. If test.0 z (bare q.0)) k.5 ∙ ap (λ z. If test.0 p.0 z) m.5,
          takes_tag 6 rest (value_bytes place test.0 ++ (process_bytes place p.0 ++ process_bytes place q.0)) q.1
              (takes_both rest (value_bytes place test.0) test.1 (process_bytes place p.0 ++ process_bytes place q.0) q.1 h.4
              (takes_both test.1 (process_bytes place p.0) p.1 (process_bytes place q.0) q.1 k.6 m.6)),
        ))))

    tagged_read : (n b : ℕ) → Held n b → (tag : ℕ) (rest : List ℕ) → IsBytes rest → IfSome (tagged_at labels part b tag rest) (IsProcessRead n (suc left) (tag ∷ rest))
    unfolding tagged_at
    tagged_read n b e tag rest fits =
        let P : Process × List ℕ → Type 0 = IsProcessRead n (suc left) (tag ∷ rest) in
        let L : ℕ = suc left in
        if_either (eqb tag 0) _ _ P (λ f. at_tag n L tag 0 rest (Some (Zero, rest)) f (tt, omega arith, tt, tt, tt, refl, record { parts = refl; fits = fits }))
        (if_either (eqb tag 1) _ _ P (λ f. at_tag n L tag 1 rest (par_at part b rest) f (par_read n b e rest fits))
        (if_either (eqb tag 2) _ _ P (λ f. at_tag n L tag 2 rest (new_at part b rest) f (new_read n b e rest fits))
        (if_either (eqb tag 3) _ _ P (λ f. at_tag n L tag 3 rest (out_at labels b rest) f (out_read n b left e rest fits))
        (if_either (eqb tag 4) _ _ P (λ f. at_tag n L tag 4 rest (in_at labels false part b rest) f (in_read false n b e rest fits))
        (if_either (eqb tag 5) _ _ P (λ f. at_tag n L tag 5 rest (in_at labels true part b rest) f (in_read true n b e rest fits))
        (if_either (eqb tag 6) _ _ P (λ f. at_tag n L tag 6 rest (if_at labels part b rest) f (if_read n b e rest fits)) tt))))))

    node_read : (n b : ℕ) → Held n b → (bytes : List ℕ) → IsBytes bytes → IfSome (node_at labels part b bytes) (IsProcessRead n (suc left) bytes)
    unfolding node_at
    node_read n b e [] fits = tt
    node_read n b e (tag ∷ rest) fits = tagged_read n b e tag rest (IsBytes-rest tag rest fits)

  pub process_read : (left n b : ℕ) → Held n b → (bytes : List ℕ) → IsBytes bytes → IfSome (process_at labels left b bytes) (IsProcessRead n left bytes)
  unfolding process_at
  process_read zero n b e bytes fits = tt
  process_read (suc left) n b e bytes fits = node_read left (process_at labels left) (process_read left) n b e bytes fits

  -- a process of an object, and all of the bytes are its bytes
  abbrev pub IsWholeRead : List ℕ → Process → Type 0
  IsWholeRead bytes p = IsClosed p × (depth_of p ≤ DEPTH_LIMIT) × Nests NESTING_LIMIT p × HasBytes Placed p × LabelsRise Before p × (bare p ≡ p) × (bytes ≡ process_bytes place p)

  pub whole_read : (bytes : List ℕ) → IsBytes bytes → IfSome (whole_at labels bytes) (IsWholeRead bytes)
  unfolding whole_at
  whole_read bytes fits =
      if_then (process_at labels DEPTH_LIMIT 0 bytes) (λ p. cond (eqb (length p.1) 0) (Some p.0) None) (IsProcessRead 0 DEPTH_LIMIT bytes) (IsWholeRead bytes)
      (process_read DEPTH_LIMIT 0 0 (omega arith) bytes fits) (λ p h.
      if_either (eqb (length p.1) 0) (Some p.0) None (IsWholeRead bytes) (λ e.
      (h.0, h.1, h.2, h.3, h.4, h.5, h.6.parts ∙ ap (λ z. process_bytes place p.0 ++ z) (nil_from_length p.1 (eqb-true (length p.1) 0 e)) ∙ append-nil (process_bytes place p.0))) tt)
