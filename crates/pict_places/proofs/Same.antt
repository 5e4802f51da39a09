-- Nodes are the same exactly where `==` says so.
use Rattle.std.proofs.Common.{◌≡◌, ◌↔◌, refl, sym, ap, ◌∙◌, Bool, IsTrue, List, Option, Some, None, Decides}
use Rattle.std.proofs.lemmas.Bool.Decides.{Decides-eqb, Decides-and, Decides-like}
use Rattle.std.specs.Option.{option_eq}
use denote.Enum.Bare.{sameb, same_true, true_same}
use Rattle.pict_syntax.specs.declared.span.Span.{Span}
use Rattle.pict_places.specs.contracts.origin.NodeKind.{the_type}
use Rattle.pict_places.specs.contracts.origin.NodePartialEq.TheImpl.{eq-value}
use Rattle.pict_places.specs.declared.origin.NodeKind.{NodeKind}
use Rattle.pict_places.specs.declared.origin.Node.{Node}

option_decides : {A : Type 0} (E : A → A → Bool) → ((a b : A) → Decides (E a b) (a ≡ b)) → (x y : Option A) → Decides (option_eq E x y) (x ≡ y)
option_decides E each None None = (λ h. refl, λ h. refl)
option_decides E each None (Some y) = (λ h. cc, λ h. cc)
option_decides E each (Some x) None = (λ h. cc, λ h. cc)
option_decides E each (Some x) (Some y) = (λ h. ap Some ((each x y).0 h), λ h. let same : x ≡ y = cc in (each x y).1 same)

span_one : (s t : Span) → (s.text ≡ t.text) × ((s.start ≡ t.start) × (s.end ≡ t.end)) → s ≡ t
span_one s t h = λ i. record { text = h.0 i; start = h.1.0 i; end = h.1.1 i }

span_parts : (s t : Span) → s ≡ t → (s.text ≡ t.text) × ((s.start ≡ t.start) × (s.end ≡ t.end))
span_parts s t e = (ap (λ (x : Span). x.text) e, (ap (λ (x : Span). x.start) e, ap (λ (x : Span). x.end) e))

node_one : (a b : Node) → (a.kind ≡ b.kind) × (a.place ≡ b.place) → a ≡ b
node_one a b h = λ i. record { kind = h.0 i; place = h.1 i }

node_parts : (a b : Node) → a ≡ b → (a.kind ≡ b.kind) × (a.place ≡ b.place)
node_parts a b e = (ap (λ (x : Node). x.kind) e, ap (λ (x : Node). x.place) e)

kind_decides : (k l : NodeKind) → Decides (sameb the_type k l) (k ≡ l)
kind_decides k l = (same_true the_type tt k l, true_same the_type k l)

pub node_decides : (a b : Node) → Decides (eq-value.it a b) (a ≡ b)
node_decides a b =
    Decides-like (eq-value.it a b) (node_one a b) (node_parts a b)
    (Decides-and _ _ (kind_decides a.kind b.kind)
    (option_decides _ (λ s t. Decides-like _ (span_one s t) (span_parts s t)
    (Decides-and _ _ (Decides-eqb s.text t.text) (Decides-and _ _ (Decides-eqb s.start t.start) (Decides-eqb s.end t.end)))) a.place b.place))

-- lists that are these two are the same where a test decides it
pub same_lists : (xs ys ms ns : List Node) (r : Bool) → xs ≡ ms → ys ≡ ns → Decides r (xs ≡ ys) → IsTrue r ↔ (ms ≡ ns)
same_lists xs ys ms ns r e f d = (λ t. sym e ∙ d.0 t ∙ f, λ h. d.1 (e ∙ h ∙ sym f))
