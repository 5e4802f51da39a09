-- Values, form by form: what the parts give carries over to the whole.
use Rattle.std.proofs.Common.{◌≡◌, ℕ, ◌+◌, true, false, List, [], ◌∷◌, ◌++◌, map, length, Option, Some, None, refl, sym, ◌∙◌, ap, subst, append_assoc, append-nil, arith}
use Rattle.pict_syntax.specs.declared.id.Id.{Id}
use Rattle.pict_syntax.specs.declared.span.Span.{Span}
use Rattle.pict_syntax.specs.Trees.{RType, Abs, Decs, fold_chan, block_chan, right_chan, left_chan, Val, of_chan, true_val, if_val, lambda_val, Vals, no_vals, more_vals}
use Rattle.pict_types.specs.Types.{Both, Write, PlainType, Boolean, Chan, Rec}
use Rattle.pict_types.specs.Replacing.{unfolding_of}
use Rattle.pict_types.specs.Renaming.{rename, moved}
use Rattle.pict_types.specs.Mentions.{mentions_innermost, lowered}
use Rattle.pict_types.proofs.Mentioned.{lowered_moved}
use Rattle.pict_core.specs.Term as core
use Rattle.pict_rules.specs.Shapes.{vals_onto, applied_to, right_nested, left_nested, from_first}
use Rattle.pict_rules.specs.Environments.{Environment, context_of, opened_since, shifted_by}
use Rattle.pict_rules.specs.Regular.{IsTypeIn}
use Rattle.pict_translation.specs.Placed.{output, choice, beside}
use Rattle.pict_translation.specs.Arguments.{Argument, argument, sent_as_one, application, right, left, left_after, no_argument}
use Rattle.pict_translation.specs.Simple.{Around, use_of, simple}
use Rattle.pict_translation.specs.Translation.{sending, arguments, reader, decs_core}
use Rattle.pict_typing.specs.Worlds.{World, IsType, with_variable, shifted}
use Rattle.pict_typing.specs.Values.{HasType, folded, sends_unfolding}
use Rattle.pict_typing.specs.Processes as typed
use Rattle.pict_typing.specs.Processes.{AreClosedTypes}
use Rattle.pict_bridge.proofs.Growing.{value_grown}
use Rattle.pict_bridge.specs.Opening.{meaning}
use Rattle.pict_bridge.proofs.PatternSteps.{unfolding_means}
use Rattle.pict_bridge.specs.Standing.{Stands, Sends, OnItsWay}
use Rattle.pict_bridge.specs.Realising.{around, Realises, IsSent}
use Rattle.pict_bridge.proofs.Standing.{not_longer, has_longer, type_longer, with_stands, one_longer, last_sends, last_receives}
use Rattle.pict_bridge.proofs.Realised.{type_means, realises_longer, meaning_later}
use Rattle.pict_bridge.proofs.Judged.{Values, SentBy, ReadsAt, Declares}
use Rattle.pict_bridge.proofs.Whole.{whole_sends, new_stands}

-- ---- if c then v else w

pub if_sent_by : (e : Environment) (at : Span) (c v w : Val) (t : PlainType) → SentBy e c Boolean → SentBy e v t → SentBy e w t → SentBy e (if_val at c v w) t
unfolding simple sending
if_sent_by e at c v w t x y z vs f u r = record { on_its_way = go; sends = go }
  where
    a : Around
    a = around e vs

    go : Sends u (meaning f t) (sending a (if_val at c v w))
    go u2 h l m =
        let r2 = realises_longer l r in
        with_stands u2 Boolean (simple a c) (sending a c) (λ b. choice b (sending a v h) (sending a w h)) tt (x vs f u2 r2).on_its_way
        (λ u3 b l2 n.
        let r3 = realises_longer l2 r2 in
        let m2 = has_longer r2.closed l2 m in
        typed.test n ((y vs f u3 r3).sends u3 h (not_longer u3) m2) ((z vs f u3 r3).sends u3 h (not_longer u3) m2))

-- ---- \A: new f (A at f | k!f)

pub lambda_sent_by : (e : Environment) (s : Span) (a : Abs) (r : PlainType) → IsTypeIn e r → ReadsAt e a r → (vs : Values) (f : ℕ → ℕ) (w : World) → Realises e vs f w → IsSent w (Chan Write (meaning f r)) (around e vs) (lambda_val s a)
unfolding simple sending
lambda_sent_by e s a r q h vs f w k = record { on_its_way = go; sends = go }
  where
    R : PlainType
    R = meaning f r

    go : Sends w (Chan Write R) (sending (around e vs) (lambda_val s a))
    go v c l m =
        let k2 = realises_longer l k in
        let t = type_means r k2 q in
        new_stands v R (λ x. beside (reader (around e vs) a x true) (output c x s)) t
        (typed.beside
        (h vs f (with_variable (Chan Both R) v) (realises_longer (one_longer (Chan Both R) v) k2) (core.Var (length v.variables)) true (last_receives R v t))
        (typed.output (Chan Write R) (type_longer R (one_longer (Chan Both R) v) t) (has_longer k2.closed (one_longer (Chan Both R) v) m) (last_sends R v t)))

-- ---- (rec v), which hands its channel on

pub fold_sent_by : (e : Environment) (s : Span) (o : RType) (v : Val) (b : PlainType) → IsTypeIn e (Rec b) → SentBy e v (unfolding_of b) → SentBy e (of_chan (fold_chan s o v)) (Rec b)
unfolding simple sending
fold_sent_by e s o v b q h vs f w r = let y = folds (simple a v) x.on_its_way in record { on_its_way = y.0; sends = y.1 }
  where
    a : Around
    a = around e vs

    x : IsSent w (meaning f (unfolding_of b)) a v
    x = h vs f w r

    R : PlainType
    R = meaning f (Rec b)

    whole : IsType w R
    whole = type_means (Rec b) r q

    -- where values of the recursive type may be sent, so may values of its unfolding
    handed : Sends w R (sending a v)
    handed u k l m = x.sends u k l (subst (λ z. HasType u k (Chan Write z)) (sym (unfolding_means f b)) (sends_unfolding (type_means (Rec b) (realises_longer l r) q) m))

    folds : (p : Option core.Val) → OnItsWay w (meaning f (unfolding_of b)) p (sending a v) → OnItsWay w R p (λ k. sent_as_one p k s (sending a v k)) × Sends w R (λ k. sent_as_one p k s (sending a v k))
    folds None y = (handed, handed)
    folds (Some u) y =
        let k : HasType w u R = folded whole (subst (HasType w u) (unfolding_means f b) y) in
        (k, whole_sends u s r.closed whole k)

-- ---- (d.. v): the declarations around V(v, k)

since_is : (e d : Environment) (count : ℕ) → length (context_of d) ≡ length (context_of e) + count → opened_since e d ≡ count
since_is e d count h = omega (arith, h)

-- the value is sent at the type within the declarations, where the type outside them is the same with their variables between
block_sent : (e d : Environment) (s : Span) (ds : Decs) (v : Val) (t u : PlainType) → d.names ≡ e.names → Declares e (λ a rest. decs_core a ds rest) d → SentBy d v u → rename (moved (opened_since e d) 0) t ≡ u → SentBy e (of_chan (block_chan s ds v)) t
unfolding simple sending
block_sent e d s ds v t u n h k q vs f w r = record { on_its_way = go; sends = go }
  where
    go : Sends w (meaning f t) (sending (around e vs) (of_chan (block_chan s ds v)))
    go w2 c l m = h vs f w2 (realises_longer l r) (λ a. sending a v c) (λ us g w3 fo rd.
        let x = k us g w3 rd in
        let since : opened_since e d ≡ fo.count = since_is e d fo.count fo.length_ in
        let same : shifted fo.more (meaning f t) ≡ meaning g u =
        sym (meaning_later g f fo.count fo.more t fo.extends_) ∙ ap (λ i. meaning g (rename (moved i 0) t)) (sym since) ∙ ap (meaning g) q in
        let y : HasType w3 c (Chan Write (meaning g u)) = subst (λ z. HasType w3 c (Chan Write z)) same (value_grown (realises_longer l r).closed fo.grows m) in
        subst (λ ns. Stands w3 (sending (record { names = ns; values = us }) v c)) n (x.sends w3 c (not_longer w3) y))

pub block_given : (e d : Environment) (s : Span) (ds : Decs) (v : Val) (t : PlainType) → d.names ≡ e.names → Declares e (λ a rest. decs_core a ds rest) d → SentBy d v t → mentions_innermost (opened_since e d) t ≡ false → SentBy e (of_chan (block_chan s ds v)) (lowered (opened_since e d) t)
block_given e d s ds v t n h k m = block_sent e d s ds v (lowered (opened_since e d) t) t n h k (lowered_moved (opened_since e d) t m)

pub block_had : (e d : Environment) (s : Span) (ds : Decs) (v : Val) (t : PlainType) → d.names ≡ e.names → Declares e (λ a rest. decs_core a ds rest) d → SentBy d v (shifted_by (opened_since e d) t) → SentBy e (of_chan (block_chan s ds v)) t
block_had e d s ds v t n h k = block_sent e d s ds v t (shifted_by (opened_since e d) t) n h k refl

-- ---- (f > a b ..) and (f < a b ..): the nested applications

abbrev value_argument : Around → Val → Argument
value_argument a v = argument (simple a v) (sending a v)

abbrev value_arguments : Around → List Val → List Argument
value_arguments a vs = map (value_argument a) vs

arguments_are : (a : Around) (vs : Vals) (more : List Val) → arguments a vs ++ value_arguments a more ≡ value_arguments a (vals_onto vs more)
unfolding sending
arguments_are a no_vals more = refl
arguments_are a (more_vals vs v) more = append_assoc (arguments a vs) (value_argument a v ∷ []) (value_arguments a more) ∙ arguments_are a vs (v ∷ more)

all_arguments : (a : Around) (vs : Vals) → arguments a vs ≡ value_arguments a (vals_onto vs [])
all_arguments a vs = sym (append-nil (arguments a vs)) ∙ arguments_are a vs []

applied_is : (a : Around) (s : Span) (f : Id) (v w : Val) → application (use_of a f.name.0) s (value_argument a v) (value_argument a w) ≡ value_argument a (applied_to s f v w)
unfolding simple sending
applied_is a s f v w = refl

right_is : (a : Around) (s : Span) (f : Id) (v : Val) (vs : List Val) → right (use_of a f.name.0) s (value_argument a v ∷ value_arguments a vs) ≡ value_argument a (right_nested s f v vs)
right_is a s f v [] = refl
right_is a s f v (w ∷ vs) = ap (application (use_of a f.name.0) s (value_argument a v)) (right_is a s f w vs) ∙ applied_is a s f v (right_nested s f w vs)

left_is : (a : Around) (s : Span) (f : Id) (v : Val) (vs : List Val) → left_after (use_of a f.name.0) s (value_argument a v) (value_arguments a vs) ≡ value_argument a (left_nested s f v vs)
left_is a s f v [] = refl
left_is a s f v (w ∷ vs) = ap (λ z. left_after (use_of a f.name.0) s z (value_arguments a vs)) (applied_is a s f v w) ∙ left_is a s f (applied_to s f v w) vs

-- where no value stands, the truth value is sent
none_sends : {w : World} {t : PlainType} (a : Around) (s : Span) → AreClosedTypes w.names w.messages → IsType w t → IsSent w t a (true_val s) → Sends w t no_argument.sent
unfolding simple
none_sends a s k f x = whole_sends (core.Boolean true) (record { text = 0; start = 0; end = 0 }) k f x.on_its_way

pub right_sent_by : (e : Environment) (s : Span) (f : Id) (vs : Vals) (t : PlainType) → IsTypeIn e t → SentBy e (from_first (right_nested s f) s (vals_onto vs [])) t → SentBy e (of_chan (right_chan s f vs)) t
unfolding simple sending
right_sent_by e s f us t q h vs g w r = record { on_its_way = go; sends = go }
  where
    a : Around
    a = around e vs

    nested : (all : List Val) → IsSent w (meaning g t) a (from_first (right_nested s f) s all) → Sends w (meaning g t) (right (use_of a f.name.0) s (value_arguments a all)).sent
    nested [] x = none_sends a s r.closed (type_means t r q) x
    nested (v ∷ all) x = subst (λ (z : Argument). Sends w (meaning g t) z.sent) (sym (right_is a s f v all)) x.sends

    go : Sends w (meaning g t) (right (use_of a f.name.0) s (arguments a us)).sent
    go = subst (λ z. Sends w (meaning g t) (right (use_of a f.name.0) s z).sent) (sym (all_arguments a us)) (nested (vals_onto us []) (h vs g w r))

pub left_sent_by : (e : Environment) (s : Span) (f : Id) (vs : Vals) (t : PlainType) → IsTypeIn e t → SentBy e (from_first (left_nested s f) s (vals_onto vs [])) t → SentBy e (of_chan (left_chan s f vs)) t
unfolding simple sending
left_sent_by e s f us t q h vs g w r = record { on_its_way = go; sends = go }
  where
    a : Around
    a = around e vs

    nested : (all : List Val) → IsSent w (meaning g t) a (from_first (left_nested s f) s all) → Sends w (meaning g t) (left (use_of a f.name.0) s (value_arguments a all)).sent
    nested [] x = none_sends a s r.closed (type_means t r q) x
    nested (v ∷ all) x = subst (λ (z : Argument). Sends w (meaning g t) z.sent) (sym (left_is a s f v all)) x.sends

    go : Sends w (meaning g t) (left (use_of a f.name.0) s (arguments a us)).sent
    go = subst (λ z. Sends w (meaning g t) (left (use_of a f.name.0) s z).sent) (sym (all_arguments a us)) (nested (vals_onto us []) (h vs g w r))
