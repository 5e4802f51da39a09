-- A name in its group: it stands there already, or for the first time.
use Rattle.std.proofs.Common.{◌≡◌, ℕ, Bool, true, false, nat_eq, List, [], ◌∷◌, ◌++◌, Some, None, refl, sym, ◌∙◌, ap, append-nil}
use Rattle.std.specs.Prelude.{◌||◌, if◌then◌else◌}
use Rattle.pict_syntax.specs.declared.code.Code.{Code}
use Rattle.pict_syntax.specs.declared.id.Id.{Id}
use Rattle.pict_binders.specs.declared.binders.Binder.{Binder}
use Rattle.pict_scope.specs.declared.layer.Layer.{Layer}
use Rattle.pict_scope.specs.declared.error.ScopeError.TheVariants.{Named}
use Rattle.pict_scope.specs.declared.reader.Reader.{Reader}
use Rattle.pict_binders.specs.Numbered.{names_of, nearest}
use Rattle.pict_scope.specs.Layers.{here, outside}
use Rattle.pict_scope.specs.Around.{binder_of, is_among, with_group}
use Rattle.pict_scope.specs.Marks.{first_stop, value_meanings, type_meanings, binders_read}
use Rattle.pict_scope.specs.Outlines.{once, opens, marks, twice_if}
use Rattle.pict_scope.specs.Reads.{around, Reads, Refuses}

among_some : (bs : List Binder) (n k : ℕ) → nearest bs n ≡ Some k → is_among (names_of bs) n ≡ true
among_some [] n k h = absurd (cc)
among_some (b ∷ bs) n k h = go (nat_eq b.name n) (among_some bs n k) h
  where
    go : (t : Bool) → (nearest bs n ≡ Some k → is_among (names_of bs) n ≡ true) → (if t then Some b.number else nearest bs n) ≡ Some k → (t || is_among (names_of bs) n) ≡ true
    go true r e = refl
    go false r e = r e

among_none : (bs : List Binder) (n : ℕ) → nearest bs n ≡ None → is_among (names_of bs) n ≡ false
among_none [] n h = refl
among_none (b ∷ bs) n h = go (nat_eq b.name n) (among_none bs n) h
  where
    go : (t : Bool) → (nearest bs n ≡ None → is_among (names_of bs) n ≡ false) → (if t then Some b.number else nearest bs n) ≡ None → (t || is_among (names_of bs) n) ≡ false
    go true r e = absurd (cc)
    go false r e = r e

pub once_again : (c : Code) (x : Id) (a : Reader) (k : ℕ) → Some k ≡ nearest (here a.group) x.name.0 → Refuses (once c x) a (Named c x.span)
unfolding marks
once_again c x a k h = record { is_first = ap (λ t. first_stop (twice_if t c x)) (among_some (here a.group) x.name.0 k (sym h)) }

pub once_first : (c : Code) (x : Id) (a : Reader) (g : Layer) → None ≡ nearest (here a.group) x.name.0 → here g ≡ binder_of x 0 ∷ here a.group → outside g ≡ outside a.group → Reads (once c x) a (record a { group = g })
unfolding opens marks
once_first c x a g h k l =
    let none : is_among (names_of (here a.group)) x.name.0 ≡ false = among_none (here a.group) x.name.0 (sym h) in
    record {
      around_ = ap (λ bs. with_group (names_of bs) (around a)) k;
      answers = record {
        none_stops = ap (λ t. first_stop (twice_if t c x)) none;
        values = sym (append-nil _) ∙ ap (λ t. a.value_targets.items ++ value_meanings (twice_if t c x)) (sym none);
        types_ = sym (append-nil _) ∙ ap (λ t. a.type_targets.items ++ type_meanings (twice_if t c x)) (sym none);
        order = sym (append-nil _) ∙ ap (λ t. a.order.items ++ binders_read (twice_if t c x)) (sym none);
      };
      outside_ = record { pattern_values = refl; pattern_types = refl; group = l };
    }
