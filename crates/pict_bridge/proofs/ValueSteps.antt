-- The steps of values: what the rules find of a value holds of what sends it.
use Rattle.std.proofs.Common.{◌≡◌, ℕ, true, false, List, Some, None, refl, sym, subst, ℤ, ◌⊎◌, inl, inr}
use Rattle.pict_syntax.specs.declared.code.Code.{Code}
use Rattle.pict_syntax.specs.declared.code.Code.TheVariants.{Y14}
use Rattle.pict_syntax.specs.declared.name.Name.{Name}
use Rattle.pict_syntax.specs.declared.span.Span.{Span}
use Rattle.pict_syntax.specs.Trees.{Decs, use_chan, fold_chan, block_chan, apply_chan, right_chan, left_chan, Val, of_chan, number_val, character_val, string_val, true_val, false_val, fields_val, if_val, lambda_val, Vals, LabelledVals, FieldVals, field_vals, Abs}
use Rattle.pict_types.specs.Types.{Write, Respond, PlainType, Int, Char, Str, Boolean, Chan, Fields, no_bound, PlainTypes, PlainLabels}
use Rattle.pict_normal.specs.Normal.{normal, kind_stop}
use Rattle.pict_scope.specs.Scopes.{scope_stop}
use Rattle.pict_core.specs.Term as core
use Rattle.pict_rules.specs.Shapes.{none_written}
use Rattle.pict_rules.specs.Environments.{Environment, opened_since, type_of_use}
use Rattle.pict_rules.specs.Rules.{nothing_, type_, gives, has, is_condition, values_give, labelled_values_give}
use Rattle.pict_rules.specs.Clauses.{gives_below}
use Rattle.pict_rules.specs.Regular.{IsTypeIn, IsGood}
use Rattle.pict_rules.proofs.RegularExpanded.{expands_well}
use Rattle.pict_rules.proofs.RegularValues.{use_formed}
use Rattle.pict_translation.specs.Simple.{use_of, simple}
use Rattle.pict_translation.specs.Translation.{sending}
use Rattle.pict_typing.specs.Values.{int_has, char_has, text_has, boolean_has}
use Rattle.pict_bridge.proofs.Reaching.{Gives, gives_, refuses, needs, chooses, parts, ensures, unless, limits, in_records, in_recursives, in_sents, outside}
use Rattle.pict_bridge.specs.Realising.{around}
use Rattle.pict_bridge.proofs.Realised.{type_means}
use Rattle.pict_bridge.proofs.Judged.{SentBy, ReadsAt, ApplicationSent, IsExpectedAbove, IsSound, Step}
use Rattle.pict_bridge.proofs.Rightly.{rightly, well}
use Rattle.pict_bridge.proofs.Whole.{whole_sends, sent_above, use_has}
use Rattle.pict_bridge.proofs.ValueForms.{if_sent_by, lambda_sent_by, fold_sent_by, block_given, block_had, right_sent_by, left_sent_by}
use Rattle.pict_bridge.proofs.FieldForms.{stand_once, fields_had, fields_given}

-- ---- values that are sent whole

number_sent : (e : Environment) (s : Span) (n : ℤ) → SentBy e (number_val s n) Int
unfolding simple sending
number_sent e s n vs f w r = record { on_its_way = int_has; sends = whole_sends (core.Int n) s r.closed tt int_has }

character_sent : (e : Environment) (s : Span) (b : ℕ) → SentBy e (character_val s b) Char
unfolding simple sending
character_sent e s b vs f w r = record { on_its_way = char_has; sends = whole_sends (core.Char b) s r.closed tt char_has }

string_sent : (e : Environment) (s : Span) (b : List ℕ) → SentBy e (string_val s b) Str
unfolding simple sending
string_sent e s b vs f w r = record { on_its_way = text_has; sends = whole_sends (core.Text b) s r.closed tt text_has }

true_sent : (e : Environment) (s : Span) → SentBy e (true_val s) Boolean
unfolding simple sending
true_sent e s vs f w r = record { on_its_way = boolean_has; sends = whole_sends (core.Boolean true) s r.closed tt boolean_has }

false_sent : (e : Environment) (s : Span) → SentBy e (false_val s) Boolean
unfolding simple sending
false_sent e s vs f w r = record { on_its_way = boolean_has; sends = whole_sends (core.Boolean false) s r.closed tt boolean_has }

use_sent : (e : Environment) (s : Span) (n : Name) → IsTypeIn e (type_of_use e n.0) → SentBy e (of_chan (use_chan s n)) (type_of_use e n.0)
unfolding simple sending
use_sent e s n q vs f w r = record { on_its_way = use_has n.0 r; sends = whole_sends (use_of (around e vs) n.0) s r.closed (type_means (type_of_use e n.0) r q) (use_has n.0 r) }

lambda_sent : (e : Environment) (s : Span) (a : Abs) (r t : PlainType) → IsTypeIn e r → ReadsAt e a r → (t ≡ Chan Respond r) ⊎ (t ≡ Chan Write r) → SentBy e (lambda_val s a) t
lambda_sent e s a r t q h (inl i) = subst (SentBy e (lambda_val s a)) (sym i) (λ vs f w k. lambda_sent_by e s a r q h vs f w k)
lambda_sent e s a r t q h (inr i) = subst (SentBy e (lambda_val s a)) (sym i) (λ vs f w k. lambda_sent_by e s a r q h vs f w k)

application_val_sent : (e : Environment) (s : Span) (v : Val) (us : FieldVals) (u : PlainType) → ApplicationSent e s v us u → SentBy e (of_chan (apply_chan s v us)) u
unfolding simple sending
application_val_sent e s v us u h vs f w r = record { on_its_way = h vs f w r; sends = h vs f w r }

application_given : (e : Environment) (s : Span) (v : Val) (us : FieldVals) (u : PlainType) → ApplicationSent e s v us u × IsExpectedAbove e None u → SentBy e (of_chan (apply_chan s v us)) u
application_given e s v us u h = application_val_sent e s v us u h.0

application_had : (e : Environment) (s : Span) (v : Val) (us : FieldVals) (t u : PlainType) → IsTypeIn e u → IsTypeIn e t → ApplicationSent e s v us u × IsExpectedAbove e (Some t) u → SentBy e (of_chan (apply_chan s v us)) t
application_had e s v us t u p q h = sent_above e (of_chan (apply_chan s v us)) u t p q h.1 (application_val_sent e s v us u h.0)

record_formed : (e : Environment) (vs : Vals) (ls : LabelledVals) (ps : PlainTypes) (ms : PlainLabels) → IsGood e (values_give vs) ps → IsGood e (labelled_values_give ls) ms → IsTypeIn e (Fields no_bound ps ms)
record_formed e vs ls ps ms h k = (tt, (h, k.0))

module _ (names : List (List ℕ)) (program : Decs) (clean : scope_stop names program ≡ None) where
  -- the value gives a subtype of the type
  below_step : (e : Environment) (v : Val) (t : PlainType) (c : Code) → IsTypeIn e t → Gives names program IsSound nothing_ (λ x. SentBy e v t) (gives_below e v t c)
  below_step e v t c q = parts (λ s d r h. needs (λ k. gives_ (sent_above e v s t (well s clean r d) q k h)))

  pub condition_step : (e : Environment) (v : Val) → Step names program nothing_ e (is_condition v)
  condition_step e v r = below_step e v Boolean _ tt

  pub gives_step : (e : Environment) (v : Val) → Step names program type_ e (gives v)
  gives_step e (of_chan (use_chan s n)) r = gives_ (use_sent e s n (use_formed e n.0 (rightly clean r).1.0))
  gives_step e (number_val s n) r = gives_ (number_sent e s n)
  gives_step e (character_val s b) r = gives_ (character_sent e s b)
  gives_step e (string_val s b) r = gives_ (string_sent e s b)
  gives_step e (true_val s) r = gives_ (true_sent e s)
  gives_step e (false_val s) r = gives_ (false_sent e s)
  gives_step e (fields_val s (field_vals ts vs ls)) r =
      let k = rightly clean r in
      ensures (none_written ts) _ _ (λ n. parts (λ ps d r2 h. parts (λ ms d3 r3 i. limits e (Fields no_bound ps ms) s (gives_ (
      fields_given e s ts vs ls ps ms (record_formed e vs ls ps ms (well ps clean r2 d) (well ms clean r3 d3)) k.0.1.1 h i)))))
  gives_step e (if_val at c v w) r =
      parts (λ x d r2 h. parts (λ s d3 r3 i. parts (λ t d4 r4 j.
      let p = well s clean r3 d3 in
      let q = well t clean r4 d4 in
      chooses (λ k. gives_ (if_sent_by e at c v w t h (sent_above e v s t p q k i) j)) (
      chooses (λ k. gives_ (if_sent_by e at c v w s h i (sent_above e w t s q p k j))) refuses))))
  gives_step e (lambda_val s a) r = parts (λ t d r2 h. limits e (Chan Respond t) s (gives_ (lambda_sent e s a t (Chan Respond t) (well t clean r2 d) h (inl refl))))
  gives_step e (of_chan (fold_chan s None v)) r = refuses
  gives_step e (of_chan (fold_chan s (Some a) v)) r =
      let k = rightly clean r in
      unless (kind_stop e.names e.context a) (λ q.
      in_recursives (normal e.names e.context a) _ _ (λ b u is un. limits e u s (parts (λ x d r2 h. gives_ (
      subst (SentBy e (of_chan (fold_chan s (Some a) v))) (sym is) (fold_sent_by e s (Some a) v b (subst (IsTypeIn e) is (expands_well e.names e.context a k.1.0.entries k.0.0 q)) (subst (SentBy e v) un h)))))))
  gives_step e (of_chan (block_chan s ds v)) r =
      parts (λ d x r2 h. parts (λ t y r3 k. outside (opened_since e d) t Y14 s (λ u is m. gives_ (
      subst (SentBy e (of_chan (block_chan s ds v))) (sym is) (block_given e d s ds v t (well d clean r2 x).1.texts h k m)))))
  gives_step e (of_chan (apply_chan s f vs)) r = parts (λ t d r2 h. gives_ (application_given e s f vs t h))
  gives_step e (of_chan (right_chan s f vs)) r = parts (λ t d r2 h. gives_ (right_sent_by e s f vs t (well t clean r2 d) h))
  gives_step e (of_chan (left_chan s f vs)) r = parts (λ t d r2 h. gives_ (left_sent_by e s f vs t (well t clean r2 d) h))

  pub has_step : (e : Environment) (v : Val) (t : PlainType) → Step names program nothing_ e (has v t)
  has_step e (fields_val s f) t r =
      let k = rightly clean r in
      in_records t (λ bs ps ls q. parts (λ args d r2 h. gives_ (
      let w = well args clean r2 d in
      subst (SentBy e (fields_val s f)) (sym q) (fields_had e s f bs ps ls args (subst (IsTypeIn e) q k.1.1) w.0 w.1 (stand_once f k.0) h))))
      (below_step e (fields_val s f) t _ k.1.1)
  has_step e (if_val at c v w) t r = parts (λ x d r2 h. parts (λ y d3 r3 i. parts (λ z d4 r4 j. gives_ (if_sent_by e at c v w t h i j))))
  has_step e (lambda_val s a) t r =
      let k = rightly clean r in
      in_sents t
      (λ u q. parts (λ x d r2 h. gives_ (lambda_sent e s a u t (subst (IsTypeIn e) q k.1.1) h (inl q))))
      (λ u q. parts (λ x d r2 h. gives_ (lambda_sent e s a u t (subst (IsTypeIn e) q k.1.1) h (inr q))))
      (below_step e (lambda_val s a) t _ k.1.1)
  has_step e (of_chan (fold_chan s None v)) t r =
      let k = rightly clean r in
      in_recursives t _ _ (λ b u is un. limits e u s (parts (λ x d r2 h. gives_ (
      subst (SentBy e (of_chan (fold_chan s None v))) (sym is) (fold_sent_by e s None v b (subst (IsTypeIn e) is k.1.1) (subst (SentBy e v) un h))))))
  has_step e (of_chan (block_chan s ds v)) t r = parts (λ d x r2 h. parts (λ y z r3 k. gives_ (block_had e d s ds v t (well d clean r2 x).1.texts h k)))
  has_step e (of_chan (apply_chan s f vs)) t r =
      let k = rightly clean r in
      parts (λ u d r2 h. gives_ (application_had e s f vs t u (well u clean r2 d) k.1.1 h))
  has_step e (of_chan (right_chan s f vs)) t r = let k = rightly clean r in parts (λ x d r2 h. gives_ (right_sent_by e s f vs t k.1.1 h))
  has_step e (of_chan (left_chan s f vs)) t r = let k = rightly clean r in parts (λ x d r2 h. gives_ (left_sent_by e s f vs t k.1.1 h))
  has_step e (of_chan (fold_chan s (Some a) v)) t r = below_step e (of_chan (fold_chan s (Some a) v)) t _ (rightly clean r).1.1
  has_step e (of_chan (use_chan s n)) t r = below_step e (of_chan (use_chan s n)) t _ (rightly clean r).1.1
  has_step e (number_val s n) t r = below_step e (number_val s n) t _ (rightly clean r).1.1
  has_step e (character_val s b) t r = below_step e (character_val s b) t _ (rightly clean r).1.1
  has_step e (string_val s b) t r = below_step e (string_val s b) t _ (rightly clean r).1.1
  has_step e (true_val s) t r = below_step e (true_val s) t _ (rightly clean r).1.1
  has_step e (false_val s) t r = below_step e (false_val s) t _ (rightly clean r).1.1
