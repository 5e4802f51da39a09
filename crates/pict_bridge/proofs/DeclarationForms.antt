-- Declarations, form by form: they stand around a rest that stands in what they leave.
use Rattle.std.proofs.Common.{◌≡◌, ◌≤◌, ℕ, suc, ◌+◌, true, List, [], ◌∷◌, ◌++◌, map, length, Some, refl, sym, ◌∙◌, ap, ap₂, subst, arith, append-nil}
use Rattle.pict_syntax.specs.declared.id.Id.{Id}
use Rattle.pict_syntax.specs.declared.span.Span.{Span}
use Rattle.pict_syntax.specs.Trees.{TypeTree, Pat, Val, Dec, new_dec, run_dec, let_dec, def_dec, await_dec, Decs, no_decs, more_decs, Definitions, Proc}
use Rattle.pict_types.specs.Types.{Both, Read, Respond, PlainType, Chan, Fields, no_type, no_label, no_bound}
use Rattle.pict_types.specs.Renaming.{rename, moved}
use Rattle.pict_core.specs.Term as core
use Rattle.pict_rules.specs.Environments.{Environment, Extension, KnownValue, context_of, extended, one_value}
use Rattle.pict_rules.specs.Rules.{Signature}
use Rattle.pict_rules.specs.Clauses.{signature_values, with_signatures, empty_record}
use Rattle.pict_rules.specs.Regular.{IsTypeIn, AreSignatures}
use Rattle.pict_rules.specs.SameNames.{value_names}
use Rattle.pict_rules.proofs.BoundIds.{value_ids}
use Rattle.pict_rules.proofs.Names.{id_names}
use Rattle.pict_translation.specs.Placed.{Placed, beside, new_channels, input, served}
use Rattle.pict_translation.specs.Patterns.{pat_core}
use Rattle.pict_translation.specs.Simple.{Around, bound, binding, pat_bound}
use Rattle.pict_translation.specs.Translation.{sending, reader, dec_core, decs_core, servers, definition_names, unit_pat}
use Rattle.pict_typing.specs.Worlds.{World, IsType, with_variable, shifted}
use Rattle.pict_typing.specs.Values.{HasType}
use Rattle.pict_typing.specs.Opening.{opens_record, opens_none, opens_no_label}
use Rattle.pict_typing.specs.Processes as typed
use Rattle.pict_typing.specs.Processes.{IsTyped}
use Rattle.pict_bridge.specs.Embedding.{WorldGrows}
use Rattle.pict_bridge.specs.Opening.{meaning}
use Rattle.pict_bridge.proofs.Joining.{type_after}
use Rattle.pict_bridge.proofs.Opened.{embeds_after}
use Rattle.pict_bridge.proofs.PatternSteps.{OpensAgainst}
use Rattle.pict_bridge.specs.Standing.{Stands, Longer}
use Rattle.pict_bridge.specs.Realising.{around, Realises}
use Rattle.pict_bridge.proofs.Standing.{not_longer, longer_more, longer_grows, has_longer, same_shift, one_longer, last_has, last_sends, last_receives}
use Rattle.pict_bridge.proofs.NamesOnce.{times}
use Rattle.pict_bridge.proofs.Realised.{type_means, realises_longer, with_name, realises_one}
use Rattle.pict_bridge.proofs.Judged.{Values, SentBy, ProcessStands, BodyStands, BodiesStand, SignaturesRead, no_signature, more_signatures, Follows, Declares}
use Rattle.pict_bridge.proofs.Whole.{new_stands}
use Rattle.pict_bridge.proofs.ReadForms.{pattern_reads}
use Rattle.pict_rules.proofs.RegularJoined.{values_unmoved}

-- ---- what follows

grows_on : {g h : ℕ → ℕ} (k : ℕ → ℕ) {w v u : World} → WorldGrows g w v → WorldGrows h v u → ((i : ℕ) → h (g i) ≡ k i) → WorldGrows k w u
grows_on {g = g} {h = h} k x y e = record {
  names_ = y.names_ ∙ x.names_;
  messages_ = y.messages_ ∙ x.messages_;
  embeds = embeds_after k x.embeds y.embeds e;
  variables_ = λ l t q. y.variables_ l (rename g t) (x.variables_ l t q) ∙ ap Some (type_after h g k t e);
}

pub follows_longer : {e : Environment} {f : ℕ → ℕ} {w u : World} {d : Environment} → length (context_of d) ≡ length (context_of e) → Longer w u → Follows e f w d f u
follows_longer {f = f} {w = w} {u = u} n l = record {
  more = 0;
  count = 0;
  grows = subst (λ g. WorldGrows g w u) (λ j i. none i j) (longer_grows l);
  length_ = n ∙ omega arith;
  extends_ = λ i. ap f (omega arith) ∙ none (f i);
}
  where
    none : (i : ℕ) → i ≡ i + 0
    none i = omega arith

pub follows_on : {e d c : Environment} {f g h : ℕ → ℕ} {w v u : World} → Follows e f w d g v → Follows d g v c h u → Follows e f w c h u
follows_on {f = f} {h = h} x y = record {
  more = x.more + y.more;
  count = x.count + y.count;
  grows = grows_on (moved (x.more + y.more) 0) x.grows y.grows (λ i. omega arith);
  length_ = y.length_ ∙ ap (λ n. n + y.count) x.length_ ∙ omega arith;
  extends_ = λ i. ap h (omega arith) ∙ y.extends_ (i + x.count) ∙ ap (λ n. n + y.more) (x.extends_ i) ∙ omega arith;
}

-- ---- declarations in order

pub none_declared : (e : Environment) → Declares e (λ a rest. decs_core a no_decs rest) e
unfolding sending
none_declared e vs f w r rest k = k vs f w (follows_longer refl (not_longer w)) r

pub more_declared : (e d c : Environment) (ds : Decs) (x : Dec) → d.names ≡ e.names → Declares e (λ a rest. decs_core a ds rest) d → Declares d (λ a rest. dec_core a x rest) c → Declares e (λ a rest. decs_core a (more_decs ds x) rest) c
unfolding sending
more_declared e d c ds x n h k vs f w r rest m =
    h vs f w r (λ a. dec_core a x rest) (λ us g u fo q.
    subst (λ ns. Stands u (dec_core (record { names = ns; values = us }) x rest)) n
    (k us g u q rest (λ zs j v fo2 q2. subst (λ ns. Stands v (rest (record { names = ns; values = zs }))) (sym n) (m zs j v (follows_on fo fo2) q2))))

-- ---- single declarations

pub new_declared : (e : Environment) (s : Span) (x : Id) (t : TypeTree) (u : PlainType) → IsTypeIn e u → Declares e (λ a rest. dec_core a (new_dec s x t) rest) (extended e (one_value x (Chan Both u)))
unfolding sending
new_declared e s x t u q vs f w r rest k =
    new_stands w (meaning f u) (λ c. rest (bound (x.name.0 ∷ []) (c ∷ []) (around e vs))) (type_means u r q)
    (k ((x.name.0, core.Var (length w.variables)) ∷ vs) f (with_variable (Chan Both (meaning f u)) w) (follows_longer refl longer)
    (subst (λ zs. Realises (record { names = e.names; context = e.context; values = record { name = x.name.0; has = Chan Both u } ∷ zs }) ((x.name.0, core.Var (length w.variables)) ∷ vs) f (with_variable (Chan Both (meaning f u)) w)) (sym (values_unmoved e.values))
    (realises_one x.name.0 (Chan Both u) (core.Var (length w.variables)) (realises_longer longer r) (last_has (Chan Both (meaning f u)) w))))
  where
    longer : Longer w (with_variable (Chan Both (meaning f u)) w)
    longer = one_longer (Chan Both (meaning f u)) w

pub run_declared : (e : Environment) (s : Span) (p : Proc) → ProcessStands e p → Declares e (λ a rest. dec_core a (run_dec s p) rest) e
unfolding sending
run_declared e s p h vs f w r rest k = typed.beside (h vs f w r) (k vs f w (follows_longer refl (not_longer w)) r)

pub let_declared : (e : Environment) (s : Span) (p : Pat) (v : Val) (t : PlainType) (x : Extension) → OpensAgainst e p t x → ((m : ℕ) → times m (id_names (value_ids p)) ≤ 1) → value_names x.values ≡ id_names (value_ids p) → IsTypeIn e t → SentBy e v t → Declares e (λ a rest. dec_core a (let_dec s p v) rest) (extended e x)
unfolding sending
let_declared e s p v t x o once names q h vs f w r rest k =
    new_stands w T (λ c. beside (input c true (pat_core e.names p) (λ xs. rest (pat_bound p xs (around e vs)))) (sending (around e vs) v c)) whole
    (typed.beside
    (pattern_reads e p t x rest o once names q vs f inner (realises_longer longer r) (λ us g u fo m. k us g u (follows_on (follows_longer refl longer) fo) m) (core.Var (length w.variables)) true (last_receives T w whole))
    ((h vs f inner (realises_longer longer r)).sends inner (core.Var (length w.variables)) (not_longer inner) (last_sends T w whole)))
  where
    T : PlainType
    T = meaning f t

    whole : IsType w T
    whole = type_means t r q

    inner : World
    inner = with_variable (Chan Both T) w

    longer : Longer w inner
    longer = one_longer (Chan Both T) w

-- v; is val [] = v
pub await_declared : (e : Environment) (s : Span) (v : Val) → SentBy e v empty_record → Declares e (λ a rest. dec_core a (await_dec s v) rest) e
unfolding sending
await_declared e s v h vs f w r rest k =
    new_stands w T (λ c. beside (input c true unit_pat (λ xs. rest (around e vs))) (sending (around e vs) v c)) (tt, (tt, tt))
    (typed.beside
    (typed.input T (tt, (tt, tt)) (last_receives T w (tt, (tt, tt))) (opens_record tt opens_none opens_no_label) (subst (λ z. IsTyped (record inner { variables = z }) (rest (around e vs) (length inner.variables + (0 + 0)))) (sym (append-nil (map (shifted 0) inner.variables) ∙ same_shift inner.variables)) (subst (λ n. IsTyped inner (rest (around e vs) n)) (omega arith) (k vs f inner (follows_longer refl longer) (realises_longer longer r)))))
    ((h vs f inner (realises_longer longer r)).sends inner (core.Var (length w.variables)) (not_longer inner) (last_sends T w (tt, (tt, tt)))))
  where
    T : PlainType
    T = Fields no_bound no_type no_label

    inner : World
    inner = with_variable (Chan Both T) w

    longer : Longer w inner
    longer = one_longer (Chan Both T) w

-- where nothing is known anew but a type
pub same_declared : (e d : Environment) (x : Dec) → ((a : Around) (rest : Around → Placed) → dec_core a x rest ≡ rest a) → length (context_of d) ≡ length (context_of e) → ((vs : Values) (f : ℕ → ℕ) (w : World) → Realises e vs f w → Realises d vs f w) → Declares e (λ a rest. dec_core a x rest) d
same_declared e d x is n h vs f w r rest k = subst (Stands w) (sym (is (around e vs) rest)) (k vs f w (follows_longer n (not_longer w)) (h vs f w r))

-- ---- def

-- a list of servers, each at a channel of its type
abbrev Serve : World → (ℕ → ℕ) → List (core.Val → Placed) → List PlainType → Type 0
Serve w f [] [] = Unit {0}
Serve w f [] (t ∷ ts) = ⊥
Serve w f (s ∷ ss) [] = ⊥
Serve w f (s ∷ ss) (t ∷ ts) = ((x : core.Val) → HasType w x (Chan Read (meaning f t)) → Stands w (s x)) × Serve w f ss ts

serve_last : (w : World) (f : ℕ → ℕ) (ss : List (core.Val → Placed)) (ts : List PlainType) (s : core.Val → Placed) (t : PlainType) → Serve w f ss ts → ((x : core.Val) → HasType w x (Chan Read (meaning f t)) → Stands w (s x)) → Serve w f (ss ++ s ∷ []) (ts ++ t ∷ [])
serve_last w f [] [] s t h k = (k, tt)
serve_last w f [] (u ∷ ts) s t h k = absurd h
serve_last w f (r ∷ ss) [] s t h k = absurd h
serve_last w f (r ∷ ss) (u ∷ ts) s t h k = (h.0, serve_last w f ss ts s t h.1 k)

-- channels with messages of these types
abbrev AreChannels : World → (ℕ → ℕ) → List core.Val → List PlainType → Type 0
AreChannels w f [] [] = Unit {0}
AreChannels w f [] (t ∷ ts) = ⊥
AreChannels w f (x ∷ xs) [] = ⊥
AreChannels w f (x ∷ xs) (t ∷ ts) = HasType w x (Chan Read (meaning f t)) × AreChannels w f xs ts

served_stands : (w : World) (f : ℕ → ℕ) (ss : List (core.Val → Placed)) (xs : List core.Val) (ts : List PlainType) (rest : Placed) → Serve w f ss ts → AreChannels w f xs ts → Stands w rest → Stands w (served ss xs rest)
served_stands w f [] xs ts rest h k r = r
served_stands w f (s ∷ ss) [] ts rest h k r = r
served_stands w f (s ∷ ss) (x ∷ xs) [] rest h k r = absurd h
served_stands w f (s ∷ ss) (x ∷ xs) (t ∷ ts) rest h k r = typed.beside (h.0 x k.0) (served_stands w f ss xs ts rest h.1 k.1 r)

-- what the signatures take
abbrev TakeAll : List Signature → List PlainType → Type 0
TakeAll [] [] = Unit {0}
TakeAll [] (t ∷ ts) = ⊥
TakeAll (s ∷ ss) [] = ⊥
TakeAll (s ∷ ss) (t ∷ ts) = (s.has ≡ Chan Respond t) × TakeAll ss ts

take_last : (ss : List Signature) (ts : List PlainType) (s : Signature) (t : PlainType) → TakeAll ss ts → s.has ≡ Chan Respond t → TakeAll (ss ++ s ∷ []) (ts ++ t ∷ [])
take_last [] [] s t h k = (k, tt)
take_last [] (u ∷ ts) s t h k = absurd h
take_last (r ∷ ss) [] s t h k = absurd h
take_last (r ∷ ss) (u ∷ ts) s t h k = (h.0, take_last ss ts s t h.1 k)

abbrev signature_names : List Signature → List ℕ
signature_names [] = []
signature_names (s ∷ ss) = s.name.name.0 ∷ signature_names ss

names_last : (ss : List Signature) (s : Signature) → signature_names (ss ++ s ∷ []) ≡ signature_names ss ++ s.name.name.0 ∷ []
names_last [] s = refl
names_last (r ∷ ss) s = ap (λ z. r.name.name.0 ∷ z) (names_last ss s)

bodies_last : (e : Environment) (ss : List Signature) (s : Signature) → BodiesStand e (ss ++ s ∷ []) → BodiesStand e ss × BodyStands (extended e s.adds) s.body
bodies_last e [] s h = (tt, h.0)
bodies_last e (r ∷ ss) s h = let x = bodies_last e ss s h.1 in ((h.0, x.0), x.1)

record Signed (e : Environment) (ds : Definitions) (ss : List Signature) : Type 0 where
  takes : List PlainType
  take : TakeAll ss takes
  names_ : definition_names ds ≡ signature_names ss
  serve : (zs : List KnownValue) → BodiesStand (record { names = e.names; context = e.context; values = zs }) ss → (vs : Values) (f : ℕ → ℕ) (w : World) → Realises (record { names = e.names; context = e.context; values = zs }) vs f w → Serve w f (servers (around e vs) ds) takes

signed : (e : Environment) {ds : Definitions} {ss : List Signature} → SignaturesRead e ds ss → Signed e ds ss
unfolding sending
signed e no_signature = record { takes = []; take = tt; names_ = refl; serve = λ zs h vs f w r. tt }
signed e (more_signatures {ds = ds} {x = x} {a = a} {ss = ss} {s = s} h k) =
    let y = signed e h in
    record {
      takes = y.takes ++ k.takes ∷ [];
      take = take_last ss y.takes s k.takes y.take k.has_;
      names_ = ap₂ (λ ns (i : Id). ns ++ i.name.0 ∷ []) y.names_ (sym k.name_) ∙ sym (names_last ss s);
      serve = λ zs bodies vs f w r.
          let b = bodies_last (record { names = e.names; context = e.context; values = zs }) ss s bodies in
          serve_last w f (servers (around e vs) ds) y.takes (λ c. reader (around e vs) a c true) k.takes (y.serve zs b.0 vs f w r) (λ c m. k.reads zs b.1 vs f w r c true m);
    }

-- a list of well formed types
abbrev TypesIn : Environment → List PlainType → Type 0
TypesIn e [] = Unit {0}
TypesIn e (t ∷ ts) = IsTypeIn e t × TypesIn e ts

-- new x1 .. new xn, and what goes on with these channels
news_stand : (e : Environment) (ss : List Signature) (ts : List PlainType) (F : List core.Val → Placed) (vs : Values) (f : ℕ → ℕ) (w : World) → TakeAll ss ts → TypesIn e ts → Realises e vs f w
    → ((xs : List core.Val) (u : World) → Longer w u → AreChannels u f xs ts → Realises (with_signatures e ss) (binding (signature_names ss) xs vs) f u → Stands u (F xs)) → Stands w (new_channels (length ss) F)
news_stand e [] [] F vs f w h q r k = k [] w (not_longer w) tt r
news_stand e [] (t ∷ ts) F vs f w h q r k = absurd h
news_stand e (s ∷ ss) [] F vs f w h q r k = absurd h
news_stand e (s ∷ ss) (t ∷ ts) F vs f w h q r k =
    new_stands w T (λ x. new_channels (length ss) (λ xs. F (x ∷ xs))) whole
    (news_stand (with_name e s.name.name.0 s.has) ss ts (λ xs. F (c ∷ xs)) ((s.name.name.0, c) ∷ vs) f inner h.1 q.1 named_ (λ xs u l m n.
    k (c ∷ xs) u (longer_more longer l) (has_longer r2.closed l (last_receives T w whole), m) n))
  where
    T : PlainType
    T = meaning f t

    whole : IsType w T
    whole = type_means t r q.0

    inner : World
    inner = with_variable (Chan Both T) w

    c : core.Val
    c = core.Var (length w.variables)

    longer : Longer w inner
    longer = one_longer (Chan Both T) w

    r2 : Realises e vs f inner
    r2 = realises_longer longer r

    named_ : Realises (with_name e s.name.name.0 s.has) ((s.name.name.0, c) ∷ vs) f inner
    named_ = realises_one s.name.name.0 s.has c r2 (subst (λ z. HasType inner c (meaning f z)) (sym h.0) (last_sends T w whole))

taken_in : (e : Environment) (ss : List Signature) (ts : List PlainType) → TakeAll ss ts → AreSignatures e ss → TypesIn e ts
taken_in e [] [] h k = tt
taken_in e [] (t ∷ ts) h k = absurd h
taken_in e (s ∷ ss) [] h k = absurd h
taken_in e (s ∷ ss) (t ∷ ts) h k = (subst (IsTypeIn e) h.0 k.0, taken_in e ss ts h.1 k.1.1.1)

count_names : (ss : List Signature) → length (signature_names ss) ≡ length ss
count_names [] = refl
count_names (s ∷ ss) = ap suc (count_names ss)

pub def_declared : (e : Environment) (s : Span) (ds : Definitions) (ss : List Signature) → AreSignatures e ss → SignaturesRead e ds ss → BodiesStand (with_signatures e ss) ss → Declares e (λ a rest. dec_core a (def_dec s ds) rest) (with_signatures e ss)
unfolding sending
def_declared e s ds ss q h bodies vs f w r rest k =
    subst (λ n. Stands w (new_channels n F)) (sym (ap length x.names_ ∙ count_names ss))
    (news_stand e ss x.takes F vs f w x.take (taken_in e ss x.takes x.take q) r (λ xs u l m n.
    let n2 = subst (λ ns. Realises (with_signatures e ss) (binding ns xs vs) f u) (sym x.names_) n in
    served_stands u f (servers (bound (definition_names ds) xs (around e vs)) ds) xs x.takes (rest (bound (definition_names ds) xs (around e vs))) (x.serve (signature_values ss e.values) bodies (binding (definition_names ds) xs vs) f u n2) m
    (k (binding (definition_names ds) xs vs) f u (follows_longer refl l) n2)))
  where
    x : Signed e ds ss
    x = signed e h

    F : List core.Val → Placed
    F xs = served (servers (bound (definition_names ds) xs (around e vs)) ds) xs (rest (bound (definition_names ds) xs (around e vs)))
