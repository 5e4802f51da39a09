-- What stands around a rest: one layer more, and what each form does to the whole.
use Rattle.std.proofs.Common.{◌≡◌, ℕ, zero, suc, ◌+◌, Bool, true, List, [], ◌∷◌, ◌++◌, refl, sym, ◌∙◌, ap, arith, rules}
use Rattle.std.proofs.lemmas.List.{map-append}
use Rattle.pict_core.specs.Term as core
use Rattle.pict_syntax.specs.declared.primitive.Primitive.{Primitive}
use Rattle.pict_core.specs.Plain.{plain_core, plain_pat, plain_val}
use Rattle.pict_core.specs.declared.value.CoreVal.{the_lemmas as value_lemmas}
use Rattle.pict_core.specs.declared.value.CoreVal.TheVariants as value
use Rattle.pict_core.specs.declared.pattern.CorePat.{the_lemmas as pattern_lemmas}
use Rattle.pict_core.specs.declared.pattern.CorePat.TheVariants as pattern
use Rattle.pict_core.specs.declared.process.Core.{Core}
use Rattle.pict_translation.specs.Placed.{Placed, new_channel, new_channels, each}
use Rattle.pict_derive.specs.Layers as layers
use Rattle.pict_derive.specs.Layers.{around, NewLayer, BesideLayer, ReaderLayer}
use Rattle.pict_derive.specs.declared.outside.Layer.{Layer}
use Rattle.pict_derive.specs.declared.outside.Outside.{Outside}
use Rattle.pict_derive.specs.Built.{layer_of, layers_of, surround}

around-append : (ls ms : List layers.Layer) (rest : core.Process) → around (ls ++ ms) rest ≡ around ls (around ms rest)
around-append [] ms rest = refl
around-append (NewLayer ∷ ls) ms rest = ap core.New (around-append ls ms rest)
around-append (BesideLayer p ∷ ls) ms rest = ap (core.Par p) (around-append ls ms rest)
around-append (ReaderLayer x p s ∷ ls) ms rest = ap (λ r. core.Par (core.In x true p r) s) (around-append ls ms rest)

pub more_layers : (old new : List Layer) (layer : Layer) (p : core.Process) → new ≡ old ++ layer ∷ [] → around (layers_of new) p ≡ around (layers_of old) (around (layer_of layer ∷ []) p)
more_layers old new layer p is =
    ap (λ ls. around (layers_of ls) p) is
    ∙ ap (λ ls. around ls p) (map-append layer_of old (layer ∷ []))
    ∙ around-append (layers_of old) (layer_of layer ∷ []) p

pub one_less : (layers rest : List Layer) (layer : Layer) (inner outer : Core) → layers ≡ rest ++ layer ∷ [] → plain_core outer ≡ around (layer_of layer ∷ []) (plain_core inner) → around (layers_of layers) (plain_core inner) ≡ around (layers_of rest) (plain_core outer)
one_less layers rest layer inner outer is put = more_layers rest layers layer (plain_core inner) is ∙ ap (around (layers_of rest)) (sym put)

-- ---- the plain values of a variable and of a pattern that binds all

pub plain_bind : plain_pat pattern.Bind ≡ core.Bind
plain_bind = search (rules, pattern_lemmas)

pub plain_any : plain_pat pattern.Any ≡ core.Any
plain_any = search (rules, pattern_lemmas)

pub plain_var : (n : ℕ) → plain_val (value.Var n) ≡ core.Var n
plain_var n = search (rules, value_lemmas)

pub plain_primitive : (p : Primitive) → plain_val (value.Prim p) ≡ core.PrimitiveVal p
plain_primitive p = search (rules, value_lemmas)

pub plain_bool : (b : Bool) → plain_val (value.Bool b) ≡ core.Boolean b
plain_bool b = search (rules, value_lemmas)

-- ---- what each call does to the whole

-- n?*x = body, put beside a rest
pub nested : (f : core.Val → Placed) (level depth d : ℕ) (made body : core.Process) → depth ≡ d + 1 → body ≡ f (core.Var (d + 1)) (d + 2) → made ≡ core.In (plain_val (value.Var level)) true (plain_pat pattern.Bind) body → made ≡ each (core.Var level) f depth
nested f level depth d made body at is made_is =
    let two : d + 2 ≡ depth + 1 = omega arith in
    made_is
    ∙ ap (λ x. core.In x true (plain_pat pattern.Bind) body) (plain_var level)
    ∙ ap (λ p. core.In (core.Var level) true p body) plain_bind
    ∙ ap (core.In (core.Var level) true core.Bind) (is ∙ ap (λ n. f (core.Var n) (d + 2)) (sym at) ∙ ap (f (core.Var depth)) two)

channels_more : (n : ℕ) (f : List core.Val → Placed) (d : ℕ) → new_channels (suc n) f d ≡ new_channels n (λ xs. new_channel (λ x. f (xs ++ x ∷ []))) d
channels_more zero f d = refl
channels_more (suc n) f d = ap core.New (channels_more n (λ xs. f (core.Var d ∷ xs)) (d + 1))

-- one channel more inside those that stand there
pub channel_more : (o : Outside) (n : ℕ) (f : List core.Val → Placed) → surround o (new_channels (n + 1) f) ≡ surround o (new_channels n (λ xs. new_channel (λ x. f (xs ++ x ∷ []))))
channel_more o n f =
    let one : n + 1 ≡ suc n = omega arith in
    ap (λ m. surround o (new_channels m f)) one ∙ ap (around (layers_of o.layers.items)) (channels_more n f o.depth)
