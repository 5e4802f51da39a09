use Rattle.std.proofs.Common.{ℕ, List, ◌≡◌, sym, ap, ◌∙◌, subst}
use Rattle.pict_core.specs.Plain.{plain_val}
use Rattle.pict_desk.specs.Known.{pair_at, known, operand_value}
use Rattle.pict_heap.specs.HeapState.{HeapState, value_of, IsWord}
use Rattle.pict_heap.specs.Packed.{packed, FitsWord}
use Rattle.pict_heap.specs.declared.word.Word.{Word}
use Rattle.pict_desk.specs.AtHand.{IsWordFor}
use Rattle.pict_desk.specs.Pairs.{ArePairs}
use Rattle.pict_desk.proofs.Pairs.{value_packed}
use Rattle.pict_desk.proofs.Making.{pair_packed}
use Rattle.pict_desk.proofs.Recording.{plain_var}
use Rattle.pict_desk.proofs.operands.word_at_hand.Goals as goal

-- the word of a level's pair stands for its value
level_word : (h : HeapState) (values : List (ℕ × ℕ)) (level : ℕ) (w : Word) → ArePairs h values → ((x : Word) → FitsWord x → packed x ≡ pair_at values level → w ≡ x) → IsWordFor h (known h values level) w
level_word h values level w pairs back =
    let p = pairs level in
    let same : w ≡ p.word = back p.word p.fits p.packs in
    record {
      word = subst (IsWord h) (sym same) p.is;
      fits = subst FitsWord (sym same) p.fits;
      value = ap (value_of h) same ∙ sym (value_packed h p.word (pair_at values level) p.fits p.packs);
    }

pub word_at-requires : goal.word_at-requires
word_at-requires c = let p = c.requires.pairs in pair_packed p.0 c.args.values.now p.1 c.in-Var.level

pub returns-in-Var-clause-word : goal.returns-in-Var-clause-word
returns-in-Var-clause-word c h pairs =
    subst (λ v. IsWordFor h v c.word_at.result) (sym (ap (λ v. operand_value (known h c.args.values.now) (plain_val v)) c.in-Var.is ∙ ap (operand_value (known h c.args.values.now)) (plain_var c.in-Var.level)))
    (level_word h c.args.values.now c.in-Var.level c.word_at.result pairs c.word_at.ensures)
