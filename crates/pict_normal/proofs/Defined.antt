-- A definition that stands for a variable: its measures, and that it stays where it mentions no variable.
use Rattle.std.proofs.Common.{◌≡◌, ℕ, ◌+◌, ◌-◌, Bool, true, false, not, List, length, drop, refl, sym, ◌∙◌, ap, arith}
use Rattle.pict_types.specs.declared.measure.Measures.{Measures}
use Rattle.pict_types.specs.Types.{PlainArg, PlainType, Var}
use Rattle.pict_types.specs.Around.{weights_inside, heights_inside}
use Rattle.pict_types.specs.Counting.{variables_inside}
use Rattle.pict_types.specs.Entries.{Definition, PlainContext}
use Rattle.pict_types.specs.Measures.{weigh, rise}
use Rattle.pict_types.specs.Mentions.{mentions, IsClosed}
use Rattle.pict_types.specs.Places.{IsWhatAt}
use Rattle.pict_types.specs.PlainContext.{plain_context}
use Rattle.pict_types.specs.Renaming.{rename, moved}
use Rattle.pict_types.specs.Replacing.{replacement_past, type_in}
use Rattle.pict_types.proofs.Mentioned.{AgreeBut, rename_agrees, renamed_mentions}
use Rattle.pict_types.proofs.Past.{moved_type, type_high}
use Rattle.pict_types.proofs.Renamed.{rename_same}
use Rattle.pict_normal.specs.declared.puts.Puts.{Puts}
use Rattle.pict_normal.specs.Meanings.{meanings}
use Rattle.pict_normal.specs.Placed.{replaced}
use Rattle.pict_normal.specs.Putting.{IsDefined}
use Rattle.pict_normal.proofs.Behind.{heights_behind, moved_rises, moved_weighs, weights_behind}
use Rattle.pict_normal.proofs.Meant.{definition_type}

-- what stands for a definition under binders is its type, moved past them and the variables inside it
definition_under : (c : PlainContext) (d i j : ℕ) (a : PlainArg) → i ≡ j + d → IsWhatAt c j (Definition a) → (replacement_past d (meanings c)).type_of i ≡ rename (moved (variables_inside j c + d) 0) (type_in a)
definition_under c d i j a e is =
    type_high (meanings c) d i j e
    ∙ ap (rename (moved d 0)) (sym (definition_type c j a is))
    ∙ moved_type d (variables_inside j c) (type_in a)

pub defined_put : (p : Puts) (ms : List Measures) (i place : ℕ) (d : IsDefined p (length ms) i place)
    → replaced p ms (Var i) ≡ rename (moved (variables_inside place (plain_context p.context.now) + length ms) 0) (type_in d.arg)
defined_put p ms i place d =
    ap (λ s. (replacement_past (length ms) s).type_of i) d.put
    ∙ definition_under (plain_context p.context.now) (length ms) i place d.arg d.behind d.there

pub definition_weighs : (ms : List Measures) (ws : List ℕ) (k : ℕ) (t : PlainType) → weigh (drop k ws) t ≡ weigh (weights_inside ms ws) (rename (moved (k + length ms) 0) t)
definition_weighs ms ws k t =
    let n : k ≡ k + length ms - length ms = omega arith in
    ap (λ x. weigh (drop x ws) t) n ∙ moved_weighs (weights_inside ms ws) (drop (k + length ms - length ms) ws) (k + length ms) t (weights_behind ms ws (k + length ms) (omega arith))

pub definition_rises : (ms : List Measures) (hs : List ℕ) (k : ℕ) (t : PlainType) → rise (drop k hs) t ≡ rise (heights_inside ms hs) (rename (moved (k + length ms) 0) t)
definition_rises ms hs k t =
    let n : k ≡ k + length ms - length ms = omega arith in
    ap (λ x. rise (drop x hs) t) n ∙ moved_rises (heights_inside ms hs) (drop (k + length ms - length ms) hs) (k + length ms) t (heights_behind ms hs (k + length ms) (omega arith))

-- a type that mentions no variable stays as it is
pub closed_renamed : (f : ℕ → ℕ) (t : PlainType) → IsClosed t → rename f t ≡ t
closed_renamed f t h = rename_agrees t agree h ∙ rename_same t (record { each = λ i. refl })
  where
    agree : AgreeBut (λ i. true) f (λ i. i)
    agree = record { each = λ i h. absurd cc }

not_true : (b : Bool) → not b ≡ true → b ≡ false
not_true false h = refl
not_true true h = absurd cc

pub defined_closed : (p : Puts) (ms : List Measures) (i place : ℕ) (d : IsDefined p (length ms) i place) → not (mentions (λ j. true) (type_in d.arg)) ≡ true → IsClosed (replaced p ms (Var i))
defined_closed p ms i place d h =
    ap (mentions (λ j. true)) (defined_put p ms i place d)
    ∙ renamed_mentions (λ j. true) (moved (variables_inside place (plain_context p.context.now) + length ms) 0) (type_in d.arg)
    ∙ not_true (mentions (λ j. true) (type_in d.arg)) h

-- what stands for a variable and mentions none is the type that was moved
pub closed_put : (p : Puts) (ms : List Measures) (i by : ℕ) (t : PlainType) → rename (moved by 0) t ≡ replaced p ms (Var i) → IsClosed (replaced p ms (Var i)) → t ≡ replaced p ms (Var i)
closed_put p ms i by t put h =
    let none : IsClosed t = sym (renamed_mentions (λ j. true) (moved by 0) t) ∙ ap (mentions (λ j. true)) put ∙ h in
    sym (closed_renamed (moved by 0) t none) ∙ put
