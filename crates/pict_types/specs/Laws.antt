-- The laws of renaming, filling and replacing, and of what a type mentions.
use Rattle.std.specs.Prelude.{◌≡◌, ℕ, Bool, false, List, [], ◌∷◌, ◌++◌}
use Rattle.pict_types.specs.Types.{PlainType, PlainArg}
use Rattle.pict_types.specs.Kinds.{Kind, IsWellFormed}
use Rattle.pict_types.specs.Renaming.{rename, moved}
use Rattle.pict_types.specs.Replacing.{Filling, fill, no_filling, Replacement, replacement_beyond, replace, no_replacement, arguments}
use Rattle.pict_types.specs.Composing.{renaming_then_filling, filling_then_renaming, filling_then_filling, renaming_then_replacement, replacement_then_renaming, filling_then_replacement, replacement_then_filling, replacement_then_replacement, replace_arg}
use Rattle.pict_types.specs.NormalTypes.{IsNormal, ArgIsNormal, ArgsAreNormal, FillsNormal, ReplacesNormal}
use Rattle.pict_types.specs.Mentions.{mentions, mentions_innermost, lowered, IsClosed}

-- one after the other is one
abbrev pub RenamedTwice : Type 0
RenamedTwice = (f g : ℕ → ℕ) (t : PlainType) → rename g (rename f t) ≡ rename (λ i. g (f i)) t

abbrev pub RenamedThenFilled : Type 0
RenamedThenFilled = (f : ℕ → ℕ) (s : Filling) (t : PlainType) → fill s (rename f t) ≡ fill (renaming_then_filling f s) t

abbrev pub FilledThenRenamed : Type 0
FilledThenRenamed = (s : Filling) (f : ℕ → ℕ) (t : PlainType) → rename f (fill s t) ≡ fill (filling_then_renaming s f) t

abbrev pub FilledTwice : Type 0
FilledTwice = (s u : Filling) (t : PlainType) → fill u (fill s t) ≡ fill (filling_then_filling s u) t

abbrev pub RenamedThenReplaced : Type 0
RenamedThenReplaced = (f : ℕ → ℕ) (r : Replacement) (t : PlainType) → replace r (rename f t) ≡ replace (renaming_then_replacement f r) t

abbrev pub ReplacedThenRenamed : Type 0
ReplacedThenRenamed = (r : Replacement) (f : ℕ → ℕ) (t : PlainType) → rename f (replace r t) ≡ replace (replacement_then_renaming r f) t

abbrev pub FilledThenReplaced : Type 0
FilledThenReplaced = (s : Filling) (r : Replacement) (t : PlainType) → replace r (fill s t) ≡ replace (filling_then_replacement s r) t

-- where no bound Top is put in
abbrev pub ReplacedThenFilled : Type 0
ReplacedThenFilled =
    (r : Replacement) (s : Filling) (t : PlainType) → FillsNormal s → fill s (replace r t) ≡ replace (replacement_then_filling r s) t

abbrev pub ReplacedTwice : Type 0
ReplacedTwice =
    (r q : Replacement) (t : PlainType) → ReplacesNormal q → replace q (replace r t) ≡ replace (replacement_then_replacement r q) t

-- to put each variable for itself changes nothing
abbrev pub RenamedToItself : Type 0
RenamedToItself = (t : PlainType) → rename (λ i. i) t ≡ t

abbrev pub FilledWithItself : Type 0
FilledWithItself = (t : PlainType) → IsNormal t → fill no_filling t ≡ t

abbrev pub ReplacedByItself : Type 0
ReplacedByItself = (t : PlainType) → IsNormal t → replace no_replacement t ≡ t

abbrev pub WellFormedIsNormal : Type 0
WellFormedIsNormal = (ns : List (List ℕ)) (ks : List Kind) (t : PlainType) → IsWellFormed ns ks t → IsNormal t

-- the arguments at once are all but the last, and then the last
abbrev pub ComesLast : List PlainArg → PlainArg → PlainType → Type 0
ComesLast args a t =
    replace (arguments (args ++ a ∷ [])) t ≡ replace (arguments (a ∷ [])) (replace (replacement_beyond (arguments args)) t)

abbrev pub ArgumentsOneByOne : Type 0
ArgumentsOneByOne = (args : List PlainArg) (a : PlainArg) (t : PlainType) → ArgsAreNormal args → ArgIsNormal a → ComesLast args a t

-- an argument put in and then a replacement, or the other way round
abbrev pub ChangesPlaces : PlainArg → Replacement → PlainType → Type 0
ChangesPlaces a r t =
    replace r (replace (arguments (a ∷ [])) t) ≡ replace (arguments (replace_arg r a ∷ [])) (replace (replacement_beyond r) t)

abbrev pub ArgumentsChangePlaces : Type 0
ArgumentsChangePlaces = (a : PlainArg) (r : Replacement) (t : PlainType) → ReplacesNormal r → ChangesPlaces a r t

-- a type depends only on the variables that it mentions
abbrev pub RenameAlike : (ℕ → Bool) → (ℕ → ℕ) → (ℕ → ℕ) → Type 0
RenameAlike p f g = (i : ℕ) → p i ≡ false → f i ≡ g i

abbrev pub RenamedByMentioned : Type 0
RenamedByMentioned =
    (p : ℕ → Bool) (f g : ℕ → ℕ) (t : PlainType) → mentions p t ≡ false → RenameAlike p f g → rename f t ≡ rename g t

abbrev pub ReplaceAlike : (ℕ → Bool) → Replacement → Replacement → Type 0
ReplaceAlike p r q = (i : ℕ) → p i ≡ false → (r.type_of i ≡ q.type_of i) × (r.head_of i ≡ q.head_of i)

abbrev pub ReplacedByMentioned : Type 0
ReplacedByMentioned =
    (p : ℕ → Bool) (r q : Replacement) (t : PlainType) → mentions p t ≡ false → ReplaceAlike p r q → replace r t ≡ replace q t

abbrev pub ClosedIsRenamedToItself : Type 0
ClosedIsRenamedToItself = (f : ℕ → ℕ) (t : PlainType) → IsClosed t → rename f t ≡ t

abbrev pub ClosedIsReplacedByItself : Type 0
ClosedIsReplacedByItself = (r : Replacement) (t : PlainType) → IsClosed t → IsNormal t → replace r t ≡ t

-- what a renamed type mentions
abbrev pub MentionsRenamed : Type 0
MentionsRenamed = (p : ℕ → Bool) (f : ℕ → ℕ) (t : PlainType) → mentions p (rename f t) ≡ mentions (λ i. p (f i)) t

-- a lowered type moved back is itself, and a moved type lowered
abbrev pub LoweredThenMoved : Type 0
LoweredThenMoved = (n : ℕ) (t : PlainType) → mentions_innermost n t ≡ false → rename (moved n 0) (lowered n t) ≡ t

abbrev pub MovedThenLowered : Type 0
MovedThenLowered = (n : ℕ) (t : PlainType) → lowered n (rename (moved n 0) t) ≡ t

abbrev pub MovedMentionsNone : Type 0
MovedMentionsNone = (n : ℕ) (t : PlainType) → mentions_innermost n (rename (moved n 0) t) ≡ false
