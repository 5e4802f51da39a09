-- Words of the shape of `replay`, by how many they are.
use Rattle.std.proofs.Common.{◌≡◌, ◌≢◌, ℕ, ◌⊎◌, Bool, true, false, List, [], ◌∷◌, ◌++◌, length, refl, sym, ◌∙◌, ap, subst, arith, codes}
use Rattle.pict_words.specs.Words.{Options, Command, AsksToReplay, HasShape, IsFileWord, bare_words}
use Rattle.pict_words.specs.Asked.{IsReplayOf}
use Rattle.pict_words.proofs.Shapes.{at}

pub same_options : (o p : Options) → o.bare ≡ p.bare → o.fuel ≡ p.fuel → o.file ≡ p.file → o ≡ p
same_options o p bare fuel file i = record { bare = bare i; fuel = fuel i; file = file i }

abbrev replay_words : Bool → List ℕ → List ℕ → List (List ℕ)
replay_words bare file trace = codes "replay" ∷ (bare_words bare ++ file ∷ trace ∷ [])

unlike : (xs ys : List (List ℕ)) → xs ≡ ys → length xs ≢ length ys → ⊥
unlike xs ys e other = other (ap length e)

-- ---- what words of the shape say

pub three_replay : (a f t : List ℕ) (bare : Bool) (file trace : List ℕ) → a ∷ f ∷ t ∷ [] ≡ replay_words bare file trace → (bare ≡ false) × (a ≡ codes "replay") × (f ≡ file) × (t ≡ trace)
three_replay a f t false file trace e = (refl, ap (at 0) e, ap (at 1) e, ap (at 2) e)
three_replay a f t true file trace e = absurd (unlike _ _ e (λ (x : 3 ≡ 4). omega (arith, x)))

pub four_replay : (a b f t : List ℕ) (bare : Bool) (file trace : List ℕ)
    → a ∷ b ∷ f ∷ t ∷ [] ≡ replay_words bare file trace → (bare ≡ true) × (a ≡ codes "replay") × (f ≡ file) × (t ≡ trace) × (b ≡ codes "--bare")
four_replay a b f t true file trace e = (refl, ap (at 0) e, ap (at 2) e, ap (at 3) e, ap (at 1) e)
four_replay a b f t false file trace e = absurd (unlike _ _ e (λ (x : 4 ≡ 3). omega (arith, x)))

parts : (x y : Bool) (f g t s : List ℕ) → replay_words x f t ≡ replay_words y g s → (x ≡ y) × (f ≡ g) × (t ≡ s)
parts false y f g t s e = let x = three_replay _ f t y g s e in (sym x.0, x.2, x.3)
parts true y f g t s e = let x = four_replay _ _ f t y g s e in (sym x.0, x.2, x.3)

pub same_replay : (words : List (List ℕ)) (o p : Options) (a b : List ℕ) → AsksToReplay o a words → AsksToReplay p b words → o ≡ p
same_replay words o p a b s t =
    let x = parts o.bare p.bare o.file p.file a b (sym s.shape ∙ t.shape) in same_options o p x.0 (s.fuel ∙ sym t.fuel) x.1

pub same_trace : (words : List (List ℕ)) (o p : Options) (a b : List ℕ) → AsksToReplay o a words → AsksToReplay p b words → a ≡ b
same_trace words o p a b s t = (parts o.bare p.bare o.file p.file a b (sym s.shape ∙ t.shape)).2

-- ---- three and four

pub three_asked : (a f t : List ℕ) (command : Command) → a ≡ codes "replay" → IsReplayOf false f t command → HasShape (a ∷ f ∷ t ∷ []) command
three_asked a f t command word h =
    subst (HasShape (a ∷ f ∷ t ∷ [])) (sym h.is) (record { shape = ap (λ w. w ∷ f ∷ t ∷ []) word; fuel = refl; file = h.first; second = h.second })

pub four_asked : (a b f t : List ℕ) (command : Command) → a ≡ codes "replay" → b ≡ codes "--bare" → IsReplayOf true f t command → HasShape (a ∷ b ∷ f ∷ t ∷ []) command
four_asked a b f t command word bare h =
    subst (HasShape (a ∷ b ∷ f ∷ t ∷ [])) (sym h.is) (record { shape = λ i. word i ∷ bare i ∷ f ∷ t ∷ []; fuel = refl; file = h.first; second = h.second })

-- no words of this list ask for a replay
abbrev pub AsksNoReplay : List (List ℕ) → Type 0
AsksNoReplay words = (o : Options) (name : List ℕ) → AsksToReplay o name words → ⊥

pub three_not : (a f t : List ℕ) → (a ≡ codes "replay" → IsFileWord f → IsFileWord t → ⊥) → AsksNoReplay (a ∷ f ∷ t ∷ [])
three_not a f t never o name s =
    let x = three_replay a f t o.bare o.file name s.shape in never x.1 (subst IsFileWord (sym x.2) s.file) (subst IsFileWord (sym x.3) s.second)

pub four_not : (a b f t : List ℕ) → (a ≡ codes "replay" → b ≡ codes "--bare" → IsFileWord f → IsFileWord t → ⊥) → AsksNoReplay (a ∷ b ∷ f ∷ t ∷ [])
four_not a b f t never o name s =
    let x = four_replay a b f t o.bare o.file name s.shape in never x.1 x.4 (subst IsFileWord (sym x.2) s.file) (subst IsFileWord (sym x.3) s.second)

-- words of another number ask for none
pub other_number : (words : List (List ℕ)) → length words ≢ 3 → length words ≢ 4 → AsksNoReplay words
other_number words no_three no_four o name s = by o.bare (ap length s.shape)
  where
    by : (bare : Bool) → length words ≡ length (replay_words bare o.file name) → ⊥
    by false e = no_three e
    by true e = no_four e

-- what isn't asked for in these words isn't in the same ones
pub none_in : (r : Type 0) (words lent : List (List ℕ)) → words ≡ lent → (r → AsksNoReplay lent) → r → AsksNoReplay words
none_in r words lent same none e = subst AsksNoReplay (sym same) (none e)

-- ---- words ask for a replay or don't

abbrev pub ByReplay : List (List ℕ) → Type 0
ByReplay words = ((o : Options) × (name : List ℕ) × AsksToReplay o name words) ⊎ AsksNoReplay words
