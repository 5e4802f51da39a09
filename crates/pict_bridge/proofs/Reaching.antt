-- What holds of all that the rules reach from a program, from one step for each judgement: in a step the results of what
-- is asked are known, and so are the conditions that hold.
use Rattle.std.proofs.Common.{◌≡◌, ℕ, List, Bool, true, false, if◌then◌else◌, Option, Some, None, refl}
use Rattle.pict_syntax.specs.declared.code.Code.{Code}
use Rattle.pict_syntax.specs.declared.span.Span.{Span}
use Rattle.pict_syntax.specs.Trees.{Decs}
use Rattle.pict_syntax.specs.Stops.{Stop}
use Rattle.pict_types.specs.Types.{Capability, Both, Read, Write, Respond, PlainType, Top, Int, Char, Str, Boolean, Var, Apply, Chan, Fields, Rec, PlainTypes, PlainLabels, PlainBounds}
use Rattle.pict_types.specs.Mentions.{mentions_innermost, lowered}
use Rattle.pict_types.specs.Replacing.{unfolding_of}
use Rattle.pict_normal.specs.Normal.{size_stop}
use Rattle.pict_rules.specs.Environments.{Environment, context_of}
use Rattle.pict_rules.specs.Shapes.{Function}
use Rattle.pict_rules.specs.Rules.{Sort, nothing_, Result, Judgement, Condition, is_subtype, IsMet, Rule, give, refuse, need, either, part, Answer, unless_stopped, ensure, within_limits}
use Rattle.pict_rules.specs.Clauses.{if_record, need_recursive, need_channel, need_function, if_sent, need_both, if_labelled, need_outside, expect}
use Rattle.pict_rules.specs.Typing.{rule}
use Rattle.pict_rules.specs.Derivations.{Runs, Holds, give_, refuse_, met, failed, yes, no, part_ok, part_stuck}
use Rattle.pict_rules.specs.Reached.{Asks, this_part, past_part, past_need, past_yes, past_no, Reached, asked_by}
use Rattle.pict_rules.proofs.Results.{IfGiven}

abbrev pub ResultProperty : Type 1
ResultProperty = (t : Sort) → Environment → Judgement t → Result t → Type 0

-- each result that the rule gives has P, where what it asks gives results that have G
abbrev Lines : List (List ℕ) → Decs → ResultProperty → {s : Sort} → (Result s → Type 0) → Rule s → Type 0
Lines names p G P (give x) = P x
Lines names p G P (refuse c i) = Unit {0}
Lines names p G P (need q c i r) = IsMet q → Lines names p G P r
Lines names p G P (either q r r') = (IsMet q → Lines names p G P r) × ((IsMet q → ⊥) → Lines names p G P r')
Lines names p G P (part {r = t} e j k) = (x : Result t) → Holds e j x → Reached names p t e j → G t e j x → Lines names p G P (k x)

pub record Gives (names : List (List ℕ)) (p : Decs) (G : ResultProperty) (s : Sort) (P : Result s → Type 0) (r : Rule s) : Type 0 where
  lines : Lines names p G P r

-- the step of a judgement that the rules reach
abbrev pub Steps : List (List ℕ) → Decs → ResultProperty → Type 0
Steps names p G = (s : Sort) (e : Environment) (j : Judgement s) → Reached names p s e j → Gives names p G s (G s e j) (rule e j)

module _ (names : List (List ℕ)) (p : Decs) (G : ResultProperty) (step : Steps names p G) where
  answered : {s : Sort} (P : Result s → Type 0) {r : Rule s} {a : Answer s} → Runs r a → ((t : Sort) (e : Environment) (j : Judgement t) → Asks s r t e j → Reached names p t e j) → Lines names p G P r → IfGiven P a
  answered P give_ asks l = l
  answered P refuse_ asks l = tt
  answered P (met q d) asks l = answered P d (λ t e j a. asks t e j (past_need q a)) (l q)
  answered P (failed n) asks l = tt
  answered P (yes q d) asks l = answered P d (λ t e j a. asks t e j (past_yes q a)) (l.0 q)
  answered P (no n d) asks l = answered P d (λ t e j a. asks t e j (past_no n a)) (l.1 n)
  answered P (part_ok {t = t} {e = e} {j = j} {x = x} d f) asks l =
      let reached = asks t e j this_part in
      answered P f (λ u h i a. asks u h i (past_part d a)) (l x d reached (answered (G t e j) d (λ u h i a. asked_by reached a) (step t e j reached).lines))
  answered P (part_stuck d) asks l = tt

  -- then all results are as they should be
  pub by_steps : {s : Sort} (e : Environment) (j : Judgement s) (x : Result s) → Reached names p s e j → Holds e j x → G s e j x
  by_steps {s = s} e j x r d = answered (G s e j) d (λ u h i a. asked_by r a) (step s e j r).lines

-- ---- lines

module _ {names : List (List ℕ)} {p : Decs} {G : ResultProperty} {s : Sort} {P : Result s → Type 0} where
  pub gives_ : {x : Result s} → P x → Gives names p G s P (give x)
  gives_ h = record { lines = h }

  pub refuses : {c : Code} {i : Span} → Gives names p G s P (refuse c i)
  refuses = record { lines = tt }

  pub needs : {q : Condition} {c : Code} {i : Span} {r : Rule s} → (IsMet q → Gives names p G s P r) → Gives names p G s P (need q c i r)
  needs h = record { lines = λ q. (h q).lines }

  pub chooses : {q : Condition} {r r' : Rule s} → (IsMet q → Gives names p G s P r) → Gives names p G s P r' → Gives names p G s P (either q r r')
  chooses h k = record { lines = (λ q. (h q).lines, λ n. k.lines) }

  pub parts : {t : Sort} {e : Environment} {j : Judgement t} {k : Result t → Rule s} → ((x : Result t) → Holds e j x → Reached names p t e j → G t e j x → Gives names p G s P (k x)) → Gives names p G s P (part e j k)
  parts f = record { lines = λ x d r g. (f x d r g).lines }

  pub splits : (b : Bool) {r q : Rule s} → (b ≡ true → Gives names p G s P r) → (b ≡ false → Gives names p G s P q) → Gives names p G s P (if b then r else q)
  splits true h k = h refl
  splits false h k = k refl

  pub ensures : (b : Bool) (c : Code) (i : Span) {r : Rule s} → (b ≡ true → Gives names p G s P r) → Gives names p G s P (ensure b c i r)
  ensures b c i h = splits b h (λ e. refuses)

  pub unless : (o : Option Stop) {r : Rule s} → (o ≡ None → Gives names p G s P r) → Gives names p G s P (unless_stopped o r)
  unless None h = h refl
  unless (Some x) h = refuses

  pub limits : (e : Environment) (t : PlainType) (i : Span) {r : Rule s} → Gives names p G s P r → Gives names p G s P (within_limits e t i r)
  limits e t i h = unless (size_stop e.context t i) (λ z. h)

  pub in_records : (t : PlainType) {k : PlainBounds → PlainTypes → PlainLabels → Rule s} {r : Rule s} → ((bs : PlainBounds) (ps : PlainTypes) (ls : PlainLabels) → t ≡ Fields bs ps ls → Gives names p G s P (k bs ps ls)) → Gives names p G s P r → Gives names p G s P (if_record t k r)
  in_records Top f h = h
  in_records Int f h = h
  in_records Char f h = h
  in_records Str f h = h
  in_records Boolean f h = h
  in_records (Var x) f h = h
  in_records (Apply x ts) f h = h
  in_records (Chan m t) f h = h
  in_records (Fields bs ps ls) f h = f bs ps ls refl
  in_records (Rec t) f h = h

  pub in_recursives : (t : PlainType) (c : Code) (i : Span) {k : PlainType → Rule s} → ((b u : PlainType) → t ≡ Rec b → u ≡ unfolding_of b → Gives names p G s P (k u)) → Gives names p G s P (need_recursive t c i k)
  in_recursives Top c i f = refuses
  in_recursives Int c i f = refuses
  in_recursives Char c i f = refuses
  in_recursives Str c i f = refuses
  in_recursives Boolean c i f = refuses
  in_recursives (Var x) c i f = refuses
  in_recursives (Apply x ts) c i f = refuses
  in_recursives (Chan m t) c i f = refuses
  in_recursives (Fields bs ps ls) c i f = refuses
  in_recursives (Rec t) c i f = f t (unfolding_of t) refl refl

  pub in_channels : (t : PlainType) (c : Code) (i : Span) {k : Capability → PlainType → Rule s} → ((m : Capability) (u : PlainType) → t ≡ Chan m u → Gives names p G s P (k m u)) → Gives names p G s P (need_channel t c i k)
  in_channels Top c i f = refuses
  in_channels Int c i f = refuses
  in_channels Char c i f = refuses
  in_channels Str c i f = refuses
  in_channels Boolean c i f = refuses
  in_channels (Var x) c i f = refuses
  in_channels (Apply x ts) c i f = refuses
  in_channels (Chan m t) c i f = f m t refl
  in_channels (Fields bs ps ls) c i f = refuses
  in_channels (Rec t) c i f = refuses

  pub in_boths : (t : PlainType) (c : Code) (i : Span) {r : Rule s} → ((u : PlainType) → t ≡ Chan Both u → Gives names p G s P r) → Gives names p G s P (need_both t c i r)
  in_boths Top c i h = refuses
  in_boths Int c i h = refuses
  in_boths Char c i h = refuses
  in_boths Str c i h = refuses
  in_boths Boolean c i h = refuses
  in_boths (Var x) c i h = refuses
  in_boths (Apply x ts) c i h = refuses
  in_boths (Chan Both t) c i h = h t refl
  in_boths (Chan Respond t) c i h = refuses
  in_boths (Chan Write t) c i h = refuses
  in_boths (Chan Read t) c i h = refuses
  in_boths (Fields bs ps ls) c i h = refuses
  in_boths (Rec t) c i h = refuses

  pub in_functions : (o : Option Function) (c : Code) (i : Span) {k : Function → Rule s} → ((f : Function) → o ≡ Some f → Gives names p G s P (k f)) → Gives names p G s P (need_function o c i k)
  in_functions None c i f = refuses
  in_functions (Some x) c i f = f x refl

  pub in_labels : (o : Option PlainType) {k : PlainType → Rule s} {r : Rule s} → ((t : PlainType) → o ≡ Some t → Gives names p G s P (k t)) → (o ≡ None → Gives names p G s P r) → Gives names p G s P (if_labelled o k r)
  in_labels None f h = h refl
  in_labels (Some t) f h = f t refl

  pub outside : (n : ℕ) (t : PlainType) (c : Code) (i : Span) {k : PlainType → Rule s} → ((u : PlainType) → u ≡ lowered n t → mentions_innermost n t ≡ false → Gives names p G s P (k u)) → Gives names p G s P (need_outside n t c i k)
  outside n t c i h = splits (mentions_innermost n t) (λ e. refuses) (λ e. h (lowered n t) refl e)

  pub expects : (e : Environment) (o : Option PlainType) (u : PlainType) (c : Code) (i : Span) {r : Rule s} → ((t : PlainType) → o ≡ Some t → IsMet (is_subtype (context_of e) u t) → Gives names p G s P r) → (o ≡ None → Gives names p G s P r) → Gives names p G s P (expect e o u c i r)
  expects e None u c i h k = k refl
  expects e (Some t) u c i h k = needs (λ q. h t refl q)

-- nothing is wanted
pub any_lines : (names : List (List ℕ)) (p : Decs) (G : ResultProperty) {s : Sort} (r : Rule s) → Gives names p G s (λ x. Unit {0}) r
any_lines names p G (give x) = gives_ tt
any_lines names p G (refuse c i) = refuses
any_lines names p G (need q c i r) = needs (λ h. any_lines names p G r)
any_lines names p G (either q r r') = chooses (λ h. any_lines names p G r) (any_lines names p G r')
any_lines names p G (part e j k) = parts (λ x d r g. any_lines names p G (k x))

pub in_sents : {names : List (List ℕ)} {p : Decs} {G : ResultProperty} {P : Result nothing_ → Type 0} (t : PlainType) {k : PlainType → Rule nothing_} {r : Rule nothing_} → ((u : PlainType) → t ≡ Chan Respond u → Gives names p G nothing_ P (k u)) → ((u : PlainType) → t ≡ Chan Write u → Gives names p G nothing_ P (k u)) → Gives names p G nothing_ P r → Gives names p G nothing_ P (if_sent t k r)
in_sents Top f g h = h
in_sents Int f g h = h
in_sents Char f g h = h
in_sents Str f g h = h
in_sents Boolean f g h = h
in_sents (Var x) f g h = h
in_sents (Apply x ts) f g h = h
in_sents (Chan Both t) f g h = h
in_sents (Chan Respond t) f g h = f t refl
in_sents (Chan Write t) f g h = g t refl
in_sents (Chan Read t) f g h = h
in_sents (Fields bs ps ls) f g h = h
in_sents (Rec t) f g h = h
