-- The own type binders of a pattern or of a function: what is written, and what is opened.
use Rattle.std.proofs.Common.{◌≡◌, Bool, true, false, if◌then◌else◌, Option, None, refl, sym, ap₂, subst}
use Rattle.pict_syntax.specs.declared.code.Code.TheVariants.{Y16}
use Rattle.pict_syntax.specs.declared.span.Span.{Span}
use Rattle.pict_syntax.specs.declared.type_tree.TypeBinder.{TypeBinder as RTypeBinder}
use Rattle.std.specs.Option.{option_map}
use Rattle.pict_syntax.specs.PlainTrees.{binder_of, held_bound, kind_of}
use Rattle.pict_syntax.specs.Trees.{KindTree, Bound, unbounded, bound, TypeBinder, type_binder}
use Rattle.pict_types.specs.Types.{PlainType, PlainBound, is_top}
use Rattle.pict_types.specs.Replacing.{bound_by}
use Rattle.pict_normal.specs.Normal.{normal, normal_bound}
use Rattle.pict_rules.specs.Shapes.{kind_agrees, written_bound}
use Rattle.pict_rules.specs.Environments.{Environment}
use Rattle.pict_rules.specs.Rules.{nothing_, need, is_same, ok, stuck, ensure}
use Rattle.pict_rules.specs.Clauses.{done, need_same_bound, stop_of_binder, written_kind, binder_span}
use Rattle.pict_rules.specs.Derivations.{Runs, give_, refuse_, met, failed}
use Rattle.pict_infer.specs.declared.error.InferError.{InferError}
use Rattle.pict_infer.specs.Answering.{IsRefused, IsStopped}
use Rattle.pict_infer.specs.Opening.{binder_agrees, bound_or_free, expanded_bound, IsTheSame, SaysTheSame}
use Rattle.pict_infer.proofs.Forming.{clear, stopped}

-- the refusal of a type binder with a written bound
pub stop_read : (e : Environment) (b : RTypeBinder) (k : Option KindTree) (w : Bound) → option_map kind_of b.kind ≡ k → held_bound b.bound ≡ w → stop_of_binder e (binder_of b) ≡ stop_of_binder e (type_binder b.span b.id k w)
stop_read e b k w p q = ap₂ (λ (x : Option KindTree) (y : Bound). stop_of_binder e (type_binder b.span b.id x y)) p q

-- what a written bound says is what the rules know of it
pub bound_is_normal : (e : Environment) (w : Bound) → bound_or_free (expanded_bound e w) ≡ normal_bound e.names e.context w
bound_is_normal e unbounded = refl
bound_is_normal e (bound t) = refl

-- a type binder against a type field
same_bound_ok : (e : Environment) (w : Bound) (b : PlainBound) (i : Span) → SaysTheSame (expanded_bound e w) b → Runs (need_same_bound e w b Y16 i done) (ok tt)
same_bound_ok e unbounded b i h = give_
same_bound_ok e (bound t) b i h = go (is_top (normal e.names e.context t)) h
  where
    go : (x : Bool) → IsTheSame x (normal e.names e.context t) b → Runs (if x then done else need (is_same (bound_by (normal e.names e.context t)) b) Y16 i done) (ok tt)
    go true h = give_
    go false h = met h give_

same_bound_stuck : (e : Environment) (w : Bound) (b : PlainBound) (i : Span) → (SaysTheSame (expanded_bound e w) b → ⊥) → Runs (need_same_bound e w b Y16 i done) (stuck Y16 i)
same_bound_stuck e unbounded b i h = absurd (h tt)
same_bound_stuck e (bound t) b i h = go (is_top (normal e.names e.context t)) h
  where
    go : (x : Bool) → (IsTheSame x (normal e.names e.context t) b → ⊥) → Runs (if x then done else need (is_same (bound_by (normal e.names e.context t)) b) Y16 i done) (stuck Y16 i)
    go true h = absurd (h tt)
    go false h = failed h

pub agrees : (e : Environment) (b : TypeBinder) (r : PlainBound) (o : Option PlainType) → stop_of_binder e b ≡ None → o ≡ expanded_bound e (written_bound b) → kind_agrees (written_kind b) r ≡ true → SaysTheSame o r → Runs (binder_agrees e b r) (ok tt)
agrees e b r o s w k h =
    clear (stop_of_binder e b) s (subst (λ (x : Bool). Runs {s = nothing_} (ensure x Y16 (binder_span b) (need_same_bound e (written_bound b) r Y16 (binder_span b) done)) (ok tt)) (sym k)
    (same_bound_ok e (written_bound b) r (binder_span b) (subst (λ p. SaysTheSame p r) w h)))

pub other_kind : (e : Environment) (b : TypeBinder) (r : PlainBound) → stop_of_binder e b ≡ None → kind_agrees (written_kind b) r ≡ false → Runs (binder_agrees e b r) (stuck Y16 (binder_span b))
other_kind e b r s k =
    clear (stop_of_binder e b) s (subst (λ (x : Bool). Runs {s = nothing_} (ensure x Y16 (binder_span b) (need_same_bound e (written_bound b) r Y16 (binder_span b) done)) (stuck Y16 (binder_span b))) (sym k) refuse_)

pub other_bound : (e : Environment) (b : TypeBinder) (r : PlainBound) (o : Option PlainType) → stop_of_binder e b ≡ None → o ≡ expanded_bound e (written_bound b) → kind_agrees (written_kind b) r ≡ true → (SaysTheSame o r → ⊥) → Runs (binder_agrees e b r) (stuck Y16 (binder_span b))
other_bound e b r o s w k h =
    clear (stop_of_binder e b) s (subst (λ (x : Bool). Runs {s = nothing_} (ensure x Y16 (binder_span b) (need_same_bound e (written_bound b) r Y16 (binder_span b) done)) (stuck Y16 (binder_span b))) (sym k)
    (same_bound_stuck e (written_bound b) r (binder_span b) (λ p. h (subst (λ q. SaysTheSame q r) (sym w) p))))

pub refused_binder : (e : Environment) (b : TypeBinder) (r : PlainBound) (y : InferError) → IsStopped (stop_of_binder e b) y → IsRefused (binder_agrees e b r) y
refused_binder e b r y h = stopped (stop_of_binder e b) _ y h
