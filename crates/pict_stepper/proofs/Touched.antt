-- What a step doesn't touch stays as it is.
use Rattle.std.proofs.Common.{ℕ, ◌≡◌, ◌+◌, ◌≤◌, refl, sym, ◌∙◌, ap, arith, Bool, true, false, not, ◌||◌, cond, nat_eq, nat_le, List, [], ◌∷◌, ◌++◌, map, filter, Option, Some, None}
use Rattle.std.proofs.lemmas.Bool.Decides.{nat_tests}
use Rattle.pict_core.specs.Term.{Process, In}
use Rattle.pict_core.specs.Substitution.{substitute}
use Rattle.pict_core.specs.Configuration.{Mark, Ready, Parked, Entry, Configuration}
use Rattle.pict_core.specs.Step.{Label, gone, kept, added, with_process, with_channel}
use Rattle.pict_core.specs.Table.{Row, ends, forks, makes_channel, takes_first, takes_second, primitive_ends, primitive_answers, output_parks, output_meets_reader, output_meets_server, input_parks, reader_meets_message, server_meets_message}
use Rattle.pict_stepper.specs.Told.{is_either, is_stamp_of, stamp_of}
use Rattle.pict_stepper.specs.Touched.{is_touched}

-- ---- lists of entries, of which a test at stamps keeps some

-- the entry at the stamp is not kept
abbrev pub Drops : (ℕ → Bool) → ℕ → Type 0
Drops f s = (n : ℕ) → nat_eq s n ≡ true → f n ≡ false

abbrev pub keeping : (ℕ → Bool) → List Entry → List Entry
keeping f es = filter (λ e. f e.stamp) es

dropped : (f : ℕ → Bool) (e : Entry) (es : List Entry) → f e.stamp ≡ false → keeping f (e ∷ es) ≡ keeping f es
dropped f e es off = ap (λ c. cond c (e ∷ keeping f es) (keeping f es)) off

gone_cons : (f : ℕ → Bool) (e : Entry) (xs ys : List Entry) (b : Bool) → (b ≡ true → f e.stamp ≡ false) → keeping f xs ≡ keeping f ys
    → keeping f (cond (not b) (e ∷ xs) xs) ≡ keeping f (e ∷ ys)
gone_cons f e xs ys true off h = h ∙ sym (dropped f e ys (off refl))
gone_cons f e xs ys false off h = ap (λ zs. cond (f e.stamp) (e ∷ zs) zs) h

keeping_gone : (f : ℕ → Bool) (s : ℕ) (es : List Entry) → Drops f s → keeping f (filter (λ e. not (nat_eq s e.stamp)) es) ≡ keeping f es
keeping_gone f s [] off = refl
keeping_gone f s (e ∷ es) off = gone_cons f e (filter (λ d. not (nat_eq s d.stamp)) es) es (nat_eq s e.stamp) (off e.stamp) (keeping_gone f s es off)

kept_cons : (f : ℕ → Bool) (p : Process) (e : Entry) (xs ys : List Entry) (b : Bool) → (b ≡ true → f e.stamp ≡ false) → keeping f xs ≡ keeping f ys
    → keeping f (cond b (record e { process = p }) e ∷ xs) ≡ keeping f (e ∷ ys)
kept_cons f p e xs ys true off h = dropped f (record e { process = p }) xs (off refl) ∙ h ∙ sym (dropped f e ys (off refl))
kept_cons f p e xs ys false off h = ap (λ zs. cond (f e.stamp) (e ∷ zs) zs) h

keeping_kept : (f : ℕ → Bool) (s : ℕ) (p : Process) (es : List Entry) → Drops f s → keeping f (map (with_process s p) es) ≡ keeping f es
keeping_kept f s p [] off = refl
keeping_kept f s p (e ∷ es) off = kept_cons f p e (map (with_process s p) es) es (nat_eq s e.stamp) (off e.stamp) (keeping_kept f s p es off)

keeping_added : (f : ℕ → Bool) (x : Entry) (es : List Entry) → f x.stamp ≡ false → keeping f (es ++ x ∷ []) ≡ keeping f es
keeping_added f x [] off = dropped f x [] off
keeping_added f x (e ∷ es) off = ap (λ zs. cond (f e.stamp) (e ∷ zs) zs) (keeping_added f x es off)

-- ---- stamps that are touched

abbrev pub is_other : ℕ → ℕ → Option ℕ → ℕ → Bool
is_other n s r k = not (is_touched n s r k)

or_true : (a : Bool) → a || true ≡ true
or_true true = refl
or_true false = refl

drops_actor : (n s : ℕ) (r : Option ℕ) → Drops (is_other n s r) s
drops_actor n s r k h = ap (λ b. not ((b || is_stamp_of r k) || nat_le n k)) h

drops_partner : (n s r : ℕ) → Drops (is_other n s (Some r)) r
drops_partner n s r k h = ap (λ b. not ((nat_eq s k || b) || nat_le n k)) h ∙ ap (λ b. not (b || nat_le n k)) (or_true (nat_eq s k))

drops_new : (n s : ℕ) (r : Option ℕ) (k : ℕ) → n ≤ k → is_other n s r k ≡ false
drops_new n s r k h =
    let new : nat_le n k ≡ true = grind (arith, nat_tests, h) in
    ap (λ b. not (is_either s r k || b)) new ∙ ap not (or_true (is_either s r k))

-- ---- configurations

abbrev pub others : ℕ → ℕ → Option ℕ → Configuration → List Entry
others n s r C = keeping (is_other n s r) C.entries

of_gone : (n s : ℕ) (r : Option ℕ) (k : ℕ) (C : Configuration) → Drops (is_other n s r) k → others n s r (gone k C) ≡ others n s r C
of_gone n s r k C off = keeping_gone (is_other n s r) k C.entries off

of_kept : (n s : ℕ) (r : Option ℕ) (p : Process) (C : Configuration) → others n s r (kept s p C) ≡ others n s r C
of_kept n s r p C = keeping_kept (is_other n s r) s p C.entries (drops_actor n s r)

of_added : (n s : ℕ) (r : Option ℕ) (mark : Mark) (p : Process) (C : Configuration) → n ≤ C.next_stamp → others n s r (added mark p C) ≡ others n s r C
of_added n s r mark p C h = keeping_added (is_other n s r) (record { stamp = C.next_stamp; mark = mark; process = p }) C.entries (drops_new n s r C.next_stamp h)

-- who acts parks, or ends, and somebody comes
of_ended : (n s : ℕ) (r : Option ℕ) (mark : Mark) (p : Process) (C : Configuration) → n ≤ C.next_stamp → others n s r (added mark p (gone s C)) ≡ others n s r C
of_ended n s r mark p C h = of_added n s r mark p (gone s C) h ∙ of_gone n s r s C (drops_actor n s r)

-- both end, and somebody comes
of_met : (n s r : ℕ) (p : Process) (C : Configuration) → n ≤ C.next_stamp → others n s (Some r) (added Ready p (gone r (gone s C))) ≡ others n s (Some r) C
of_met n s r p C h =
    of_added n s (Some r) Ready p (gone r (gone s C)) h ∙ of_gone n s (Some r) r (gone s C) (drops_partner n s r) ∙ of_gone n s (Some r) s C (drops_actor n s (Some r))

pub others_stay : (n : ℕ) (C : Configuration) (s : ℕ) (o : Option Entry) (p : Process) (D : Configuration) (label : Label) → n ≤ C.next_stamp → Row C s o p D label
    → others n s (stamp_of o) D ≡ others n s (stamp_of o) C
others_stay n C s o p D label h ends = of_gone n s (stamp_of o) s C (drops_actor n s (stamp_of o))
others_stay n C s o p D label h (forks {p = a} {q = b}) = of_added n s (stamp_of o) Ready b (kept s a C) h ∙ of_kept n s (stamp_of o) a C
others_stay n C s o p D label h makes_channel = of_kept n s (stamp_of o) _ (with_channel C)
others_stay n C s o p D label h takes_first = of_kept n s (stamp_of o) _ C
others_stay n C s o p D label h takes_second = of_kept n s (stamp_of o) _ C
others_stay n C s o p D label h (primitive_ends e l) = of_gone n s (stamp_of o) s C (drops_actor n s (stamp_of o))
others_stay n C s o p D label h (primitive_answers e l) = of_kept n s (stamp_of o) _ C
others_stay n C s o p D label h output_parks = of_ended n s None Parked _ C h
others_stay n C s o p D label h (output_meets_reader {u = u} e m) = of_met n s u.stamp _ C h
others_stay n C s o p D label h (output_meets_server {w = w} {u = u} {pattern = pattern} {body = body} {bound = bound} e m) =
    let later : n ≤ C.next_stamp + 1 = omega (arith, h) in
    of_added n s (Some u.stamp) Parked (In w true pattern body) (added Ready (substitute 0 bound body) (gone u.stamp (gone s C))) later
    ∙ of_met n s u.stamp (substitute 0 bound body) C h
others_stay n C s o p D label h input_parks = of_ended n s None Parked _ C h
others_stay n C s o p D label h (reader_meets_message {u = u} e m) = of_met n s u.stamp _ C h
others_stay n C s o p D label h (server_meets_message {u = u} {body = body} {bound = bound} e m) =
    of_added n s (Some u.stamp) Ready (substitute 0 bound body) (gone u.stamp C) h ∙ of_gone n s (Some u.stamp) u.stamp C (drops_partner n s u.stamp)
