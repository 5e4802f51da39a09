-- A program that is read from its beginning to its end.
use Rattle.std.proofs.Common.{◌≡◌, ℕ, List, [], ◌++◌, map, None, ◌∙◌, ap, subst}
use Rattle.pict_syntax.specs.declared.tree.Dec.{Dec as RDec}
use Rattle.pict_syntax.specs.Trees.{Decs, no_decs}
use Rattle.pict_syntax.specs.PlainTrees.{decs_on}
use Rattle.pict_scope.specs.declared.error.ScopeError.{ScopeError}
use Rattle.pict_scope.specs.declared.error.ScopeError.TheVariants.{Named, Memory}
use Rattle.pict_scope.specs.declared.reader.Reader.{Reader}
use Rattle.pict_scope.specs.Marks.{value_meanings, type_meanings, binders_read, by_place}
use Rattle.pict_scope.specs.Outlines.{marks}
use Rattle.pict_scope.specs.Held.{each, in_dec_tree}
use Rattle.pict_scope.specs.Reads.{around, Answers, Reads, Refuses, IsRefusal}
use Rattle.pict_scope.specs.Refusals.{IsScopeStop}
use Rattle.pict_scope.specs.Scopes.{outermost, program_marks, scope_stop, value_targets, type_targets}
use Rattle.pict_scope.proofs.ValueForms.{all_decs}

pub record IsResolved (texts : List (List ℕ)) (p : Decs) (r : Reader) : Type 0 where
  pub no_stop : scope_stop texts p ≡ None
  pub values : map (by_place r.order.items) r.value_targets.items ≡ value_targets texts p
  pub types_ : r.type_targets.items ≡ type_targets texts p

-- at the beginning
pub record IsAtStart (texts : List (List ℕ)) (r : Reader) : Type 0 where
  pub around_ : around r ≡ outermost texts
  pub values : r.value_targets.items ≡ []
  pub types_ : r.type_targets.items ≡ []
  pub order : r.order.items ≡ []

answers_all : (texts : List (List ℕ)) (xs : List RDec) (a b : Reader) → IsAtStart texts a → Reads (each in_dec_tree xs) a b → Answers (program_marks texts (decs_on no_decs xs)) a b
answers_all texts xs a b s h =
    subst (λ o. Answers (marks o (outermost texts)) a b) (all_decs xs) (subst (λ x. Answers (marks (each in_dec_tree xs) x) a b) s.around_ h.answers)

pub resolved : (texts : List (List ℕ)) (xs ys : List RDec) (a b : Reader) → ys ≡ xs → IsAtStart texts a → Reads (each in_dec_tree ys) a b → IsResolved texts (decs_on no_decs xs) b
resolved texts xs ys a b is s l =
    let h = subst (λ zs. Reads (each in_dec_tree zs) a b) is l in
    let ms = program_marks texts (decs_on no_decs xs) in
    let k = answers_all texts xs a b s h in
    let order : b.order.items ≡ binders_read ms = k.order ∙ ap (λ l. l ++ binders_read ms) s.order in
    let values : b.value_targets.items ≡ value_meanings ms = k.values ∙ ap (λ l. l ++ value_meanings ms) s.values in
    record {
      no_stop = k.none_stops;
      values = ap (λ l. map (by_place l) b.value_targets.items) order ∙ ap (map (by_place (binders_read ms))) values;
      types_ = k.types_ ∙ ap (λ l. l ++ type_meanings ms) s.types_;
    }

pub stopped : (texts : List (List ℕ)) (xs ys : List RDec) (a : Reader) (e : ScopeError) → ys ≡ xs → IsAtStart texts a → Refuses (each in_dec_tree ys) a e → IsScopeStop texts (decs_on no_decs xs) e
stopped texts xs ys a Memory is s l = tt
stopped texts xs ys a (Named c i) is s l =
    let h = subst (λ zs. Refuses (each in_dec_tree zs) a (Named c i)) is l in
    subst (λ o. IsRefusal (marks o (outermost texts)) (Named c i)) (all_decs xs) (subst (λ x. IsRefusal (marks (each in_dec_tree xs) x) (Named c i)) s.around_ h.is_first)
