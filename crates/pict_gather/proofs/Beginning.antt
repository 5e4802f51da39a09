-- A text that was begun is the last of the texts, and these are its program and the names, or its refusal.
use Rattle.std.proofs.Common.{◌≡◌, ℕ, ◌+◌, ◌-◌, ◌≤◌, List, [], ◌∷◌, ◌++◌, length, Ok, Err, IfSome, IfOk, IfErr, ap, subst, ◌∙◌, arith}
use Rattle.std.specs.Prelude.{Result}
use Rattle.pict_syntax.specs.declared.source.Source.{Source}
use Rattle.pict_syntax.specs.declared.source.Sources.{Sources}
use Rattle.pict_syntax.specs.declared.tree.Program.{Program as RProgram}
use Rattle.pict_syntax.specs.PlainTrees.{program_of}
use Rattle.pict_gather.specs.declared.gathering.Gathering.{Gathering}
use Rattle.pict_gather.specs.declared.error.ReadError.{ReadError}
use Rattle.pict_gather.specs.declared.error.ReadError.TheVariants.{Named, Memory}
use Rattle.pict_gather.specs.Phases.{accepts, refuses}
use Rattle.pict_gather.specs.Sources.{bytes_in, visited}
use Rattle.pict_gather.specs.Reading.{Reads}
use Rattle.pict_gather.specs.Gathered.{with_source}
use Rattle.pict_gather.specs.Answers.{read_said}
use Rattle.pict_gather.specs.Kept.{IsKept, HasBegun, IsUnread}
use Rattle.pict_gather.proofs.Growing.{one_more}

-- ---- the texts with one more

bytes_append : (xs : List Source) (x : Source) → bytes_in (xs ++ x ∷ []) ≡ bytes_in xs + length x.text
bytes_append [] x = omega arith
bytes_append (y ∷ xs) x = let e = bytes_append xs x in omega (arith, e)

visited_more : (xs : List Source) (x : Source) → 1 ≤ length xs → bytes_in (visited (xs ++ x ∷ [])) ≡ bytes_in (visited xs) + length x.text
visited_more [] x h = absurd (omega (arith, h))
visited_more (y ∷ xs) x h = bytes_append xs x

begun_here : (s : Sources) (g : Gathering) (name t : List ℕ) (p : RProgram) (new : Sources) (h : Gathering) (n : ℕ) → IsKept s g → length s.list.items ≤ 64 → length t ≤ g.left
    → new.list.items ≡ with_source s.list.items name t → length h.names ≤ length g.names + length t → n ≡ length s.list.items
    → Reads g.names n t (accepts (record { names = h.names; program = program_of p }))
    → h.ended.items ≡ g.ended.items → h.decs.items ≡ g.decs.items → h.left ≡ g.left - length t → HasBegun s g name t p new h
begun_here s g name t p new h n kept few fits is grown number reads ended decs left =
    let x : Source = record { name = name; text = t } in
    let more : bytes_in (visited new.list.items) ≡ bytes_in (visited s.list.items) + length t = ap (λ l. bytes_in (visited l)) is ∙ visited_more s.list.items x kept.some in
    let long : length new.list.items ≡ length s.list.items + 1 = ap length is ∙ one_more s.list.items name t in
    record {
      sources = is;
      ended = ended;
      decs = decs;
      kept = record { some = omega (arith, long); few = omega (arith, long, few); left = omega (arith, more, left, fits, kept.left); names = omega (arith, more, grown, kept.names) };
      reads = subst (λ m. Reads g.names m t (accepts (record { names = h.names; program = program_of p }))) number reads;
    }

-- what reading the text says of it
module _ (s : Sources) (g : Gathering) (name t : List ℕ) (new : Sources) (h : Gathering) (n : ℕ) (is : new.list.items ≡ with_source s.list.items name t) (number : n ≡ length s.list.items) where
  pub begun_said : IsKept s g → length s.list.items ≤ 64 → length t ≤ g.left → length h.names ≤ length g.names + length t → h.ended.items ≡ g.ended.items → h.decs.items ≡ g.decs.items → h.left ≡ g.left - length t
      → (said : Result RProgram ReadError) → IfSome (read_said h.names said) (Reads g.names n t) → IfOk said (λ p. HasBegun s g name t p new h)
  begun_said kept few fits grown ended decs left (Ok p) reads = begun_here s g name t p new h n kept few fits is grown number reads ended decs left
  begun_said kept few fits grown ended decs left (Err e) reads = tt

  pub unread_said : (said : Result RProgram ReadError) → IfSome (read_said h.names said) (Reads g.names n t) → IfErr said (IsUnread s g name t new)
  unread_said (Ok p) reads = tt
  unread_said (Err (Named code span)) reads = record { sources = is; reads = subst (λ m. Reads g.names m t (refuses (code, span))) number reads }
  unread_said (Err Memory) reads = tt

pub last_is : (ys xs : List Source) (n m a b : List ℕ) → ys ≡ with_source xs n a → n ≡ m → a ≡ b → ys ≡ with_source xs m b
last_is ys xs n m a b e f g = e ∙ ap (λ k. with_source xs k a) f ∙ ap (λ k. with_source xs m k) g
