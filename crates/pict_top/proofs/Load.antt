-- The command `load` asks the shelf for nothing.
use Rattle.std.proofs.Common.{◌≡◌, ℕ, inl, inr, List, Option, refl, ap, sym, ◌∙◌, subst}
use Rattle.std.specs.Prelude.{codes}
use Rattle.pict_load.specs.Text.{load_text}
use Rattle.pict_outside.specs.Texts.{Texts}
use Rattle.pict_words.specs.Words.{Command, Load, HasShape}
use Rattle.pict_words.proofs.Commands.{one_command}
use Rattle.pict_top.specs.declared.status.Status.TheVariants as status
use Rattle.pict_top.specs.Origins.{origin_of, only, given, given_each}
use Rattle.pict_top.specs.Outcome.{Outcome}
use Rattle.pict_top.specs.Owed.{Owes, OwesWords, OwesWithEach, FaultsCommand, FaultsWords}
use Rattle.pict_top.proofs.Reading.{IsTold, own_there, each_there, second_there}
use Rattle.pict_top.proofs.Files.{not_missing}
use Rattle.pict_top.proofs.One.{at_most_one}

-- no other command has the shape
pub is_load : (words : List (List ℕ)) (n : ℕ) (command : Command) → HasShape words (Load n) → HasShape words command → command ≡ Load n
is_load words n command shape other = one_command words command (Load n) other shape

pub told_load : (held : Option Texts) (n : ℕ) → IsTold held (origin_of (Load n))
told_load held n = (only (codes "load") (load_text n), refl)

told : (words : List (List ℕ)) (n : ℕ) (held : Option Texts) → HasShape words (Load n) → (command : Command) → HasShape words command → IsTold held (origin_of command)
told words n held shape command other = subst (λ c. IsTold held (origin_of c)) (sym (is_load words n command shape other)) (told_load held n)

pub one_of_load : (words : List (List ℕ)) (n : ℕ) (held : Option Texts) (o p : Outcome) → HasShape words (Load n) → OwesWords words held o → OwesWords words held p → o ≡ p
one_of_load words n held o p shape = at_most_one words held o p (told words n held shape)

-- there is no file whose reading could fail
pub never_asked : (words : List (List ℕ)) (n : ℕ) (held : Option Texts) → HasShape words (Load n) → (o : Outcome) → FaultsWords words held o → ⊥
never_asked words n held shape o (command, other, faults) =
    let own : FaultsCommand held (Load n) o = subst (λ c. FaultsCommand held c o) (is_load words n command shape other) faults in own.0

-- nor one that is missing
pub load_not_missing : (words : List (List ℕ)) (n : ℕ) (held : Option Texts) (o : Outcome) → HasShape words (Load n) → OwesWords words held o → o.status ≡ status.Missing → ⊥
load_not_missing words n held o shape (inr (none, e)) is = none (Load n) shape
load_not_missing words n held o shape (inl (command, other, owes)) is =
    let own : Owes (given held (origin_of (Load n))) (Load n) o = subst (λ c. Owes (given held (origin_of c)) c o) (is_load words n command shape other) owes in
    not_missing (given held (origin_of (Load n))) (Load n) o (own_there held _ _) (λ trace e. absurd cc) own is

-- where the shelf has each text it is asked for, no file is missing
pub each_not_missing : (words : List (List ℕ)) (held : Option Texts) (o : Outcome) → OwesWithEach words held o → o.status ≡ status.Missing → ⊥
each_not_missing words held o (inr (none, e)) is = let x = sym (ap (λ y. y.status) e) ∙ is in absurd cc
each_not_missing words held o (inl (command, shape, owes)) is = not_missing (given_each held (origin_of command)) command o (each_there held (origin_of command)) (second_there held command) owes is
