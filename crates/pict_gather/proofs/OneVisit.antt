-- Over a shelf that tells its texts the visit of a text comes to exactly one thing.
use Rattle.std.proofs.lemmas.Bool.{cases_lt}
use Rattle.std.proofs.lemmas.List.{length-drop}
use Rattle.std.proofs.Common.{◌≡◌, inl, inr, ℕ, zero, suc, ◌+◌, ◌≤◌, List, [], ◌∷◌, length, Option, Some, None, refl, sym, ap, subst, ◌∙◌, arith}
use Rattle.pict_syntax.specs.declared.limits.TheConstants.{TEXT_LIMIT}
use Rattle.pict_syntax.specs.declared.tree.Import.{Import}
use Rattle.pict_syntax.specs.Stops.{Stop}
use Rattle.pict_outside.specs.Texts.{Texts, text_of}
use Rattle.pict_gather.specs.Phases.{Phase, accepts, refuses}
use Rattle.pict_gather.specs.Reading.{Read, Reads}
use Rattle.pict_gather.specs.Fetching.{Fetch, text, missing, fault, MayGive}
use Rattle.pict_gather.specs.Gathered.{Gathered, EarlyEnd, refused, with_source, begun, finished, bytes_visited, settled, Visits, too_long, unread, cut_off, whole, Along, none, next, stop, Leads, at_once, absent, unfetched, visit}
use Rattle.pict_gather.specs.Laws.{OneVisit}
use Rattle.pict_gather.proofs.Growing.{few, one_more, leads_grow}
use Rattle.pict_gather.proofs.OneReading.{one_reading}

pub read_once : (names : List (List ℕ)) (n : ℕ) (t : List ℕ) (a b : Phase Stop Read) → Reads names n t a → Reads names n t b → a ≡ b
read_once names n t a b x y = let o = one_reading names n t in o.2 a x ∙ sym (o.2 b y)

pub same_read : {x y : Read} → (let a : Phase Stop Read = accepts x in let b : Phase Stop Read = accepts y in a ≡ b) → x ≡ y
same_read e = cc

pub same_stop : {x y : Stop} → (let a : Phase Stop Read = refuses x in let b : Phase Stop Read = refuses y in a ≡ b) → x ≡ y
same_stop e = cc

same_gathered : {x y : Gathered} → (let a : Phase EarlyEnd Gathered = accepts x in let b : Phase EarlyEnd Gathered = accepts y in a ≡ b) → x ≡ y
same_gathered e = cc

-- ---- at most one

-- under a name it gives one thing
abbrev Single : (List ℕ → Fetch → Type 0) → Type 0
Single G = (name : List ℕ) (f h : Fetch) → G name f → G name h → f ≡ h

same_text : {t u : List ℕ} → (let a : Fetch = text t in let b : Fetch = text u in a ≡ b) → t ≡ u
same_text e = cc

no_text : {t : List ℕ} → missing ≡ text t → ⊥
no_text e = cc

no_fault : missing ≡ fault → ⊥
no_fault e = cc

no_text_fault : {t : List ℕ} → fault ≡ text t → ⊥
no_text_fault e = cc

module _ (G : List ℕ → Fetch → Type 0) (single : Single G) where
  mutual
    visits_once : {g : Gathered} {name t : List ℕ} (a b : Phase EarlyEnd Gathered) → Visits G g name t a → Visits G g name t b → a ≡ b
    visits_once a b (too_long l) (too_long m) = refl
    visits_once a b (too_long l) (unread m r) = absurd (omega (arith, l, m))
    visits_once a b (too_long l) (cut_off m r f) = absurd (omega (arith, l, m))
    visits_once a b (too_long l) (whole m r f) = absurd (omega (arith, l, m))
    visits_once a b (unread l r) (too_long m) = absurd (omega (arith, l, m))
    visits_once {g = g} {name = name} {t = t} a b (unread l r) (unread m s) =
        let e = same_stop (read_once g.names (length g.sources) t _ _ r s) in
        ap (λ (z : Stop). refuses (refused (with_source g.sources name t) z.0 z.1)) e
    visits_once {g = g} {t = t} a b (unread l r) (cut_off m s f) = let e = read_once g.names (length g.sources) t _ _ r s in absurd cc
    visits_once {g = g} {t = t} a b (unread l r) (whole m s f) = let e = read_once g.names (length g.sources) t _ _ r s in absurd cc
    visits_once a b (cut_off l r f) (too_long m) = absurd (omega (arith, l, m))
    visits_once {g = g} {t = t} a b (cut_off l r f) (unread m s) = let e = read_once g.names (length g.sources) t _ _ r s in absurd cc
    visits_once {g = g} {name = name} {t = t} a b (cut_off {r = x} l r f) (cut_off {r = y} m s h) =
        let e : x ≡ y = same_read (read_once g.names (length g.sources) t _ _ r s) in
        along_once _ _ f (subst (λ (z : Read). Along G (begun g name t z) z.program.imports b) (sym e) h)
    visits_once {g = g} {name = name} {t = t} a b (cut_off {r = x} {e = p} l r f) (whole {h = k} {r = y} m s h) =
        let e : x ≡ y = same_read (read_once g.names (length g.sources) t _ _ r s) in
        let no : refuses p ≡ accepts k = along_once _ _ f (subst (λ (z : Read). Along G (begun g name t z) z.program.imports (accepts k)) (sym e) h) in absurd cc
    visits_once a b (whole l r f) (too_long m) = absurd (omega (arith, l, m))
    visits_once {g = g} {t = t} a b (whole l r f) (unread m s) = let e = read_once g.names (length g.sources) t _ _ r s in absurd cc
    visits_once {g = g} {name = name} {t = t} a b (whole {h = k} {r = x} l r f) (cut_off {r = y} {e = p} m s h) =
        let e : x ≡ y = same_read (read_once g.names (length g.sources) t _ _ r s) in
        let no : accepts k ≡ refuses p = along_once _ _ f (subst (λ (z : Read). Along G (begun g name t z) z.program.imports (refuses p)) (sym e) h) in absurd cc
    visits_once {g = g} {name = name} {t = t} a b (whole {h = i} {r = x} l r f) (whole {h = j} {r = y} m s h) =
        let e : x ≡ y = same_read (read_once g.names (length g.sources) t _ _ r s) in
        let same : i ≡ j = same_gathered (along_once _ _ f (subst (λ (z : Read). Along G (begun g name t z) z.program.imports (accepts j)) (sym e) h)) in
        ap (λ (z : Read). accepts (finished name z.program.decs i)) e ∙ ap (λ k. accepts (finished name y.program.decs k)) same

    along_once : {g : Gathered} {xs : List Import} (a b : Phase EarlyEnd Gathered) → Along G g xs a → Along G g xs b → a ≡ b
    along_once a b none none = refl
    along_once a b (next {h = h} {xs = xs} l f) (next {h = k} m n) =
        let e : h ≡ k = same_gathered (leads_once _ _ l m) in
        along_once a b f (subst (λ i. Along G i xs b) (sym e) n)
    along_once a b (next {h = h} l f) (stop {e = s} m) = let no : accepts h ≡ refuses s = leads_once _ _ l m in absurd cc
    along_once a b (stop {e = s} l) (next {h = h} m f) = let no : refuses s ≡ accepts h = leads_once _ _ l m in absurd cc
    along_once a b (stop l) (stop m) = leads_once _ _ l m

    leads_once : {g : Gathered} {x : Import} (a b : Phase EarlyEnd Gathered) → Leads G g x a → Leads G g x b → a ≡ b
    leads_once a b (at_once e) (at_once f) = cc
    leads_once a b (at_once e) (absent f m) = absurd cc
    leads_once a b (at_once e) (unfetched f m) = absurd cc
    leads_once a b (at_once e) (visit f m v) = absurd cc
    leads_once a b (absent e m) (at_once f) = absurd cc
    leads_once a b (absent e m) (absent f n) = refl
    leads_once {x = x} a b (absent e m) (unfetched f n) = absurd (no_fault (single x.name _ _ m n))
    leads_once {x = x} a b (absent e m) (visit f n v) = absurd (no_text (single x.name _ _ m n))
    leads_once a b (unfetched e m) (at_once f) = absurd cc
    leads_once {x = x} a b (unfetched e m) (absent f n) = absurd (no_fault (single x.name _ _ n m))
    leads_once a b (unfetched e m) (unfetched f n) = refl
    leads_once {x = x} a b (unfetched e m) (visit f n v) = absurd (no_text_fault (single x.name _ _ m n))
    leads_once a b (visit e m v) (at_once f) = absurd cc
    leads_once {x = x} a b (visit e m v) (absent f n) = absurd (no_text (single x.name _ _ n m))
    leads_once {x = x} a b (visit e m v) (unfetched f n) = absurd (no_text_fault (single x.name _ _ n m))
    leads_once {g = g} {x = x} a b (visit {t = t} e m v) (visit {t = u} f n w) =
        visits_once a b v (subst (λ r. Visits G g x.name r b) (sym (same_text (single x.name _ _ m n))) w)

-- ---- at least one: so many texts more may be begun

abbrev Answers : (Phase EarlyEnd Gathered → Type 0) → Type 0
Answers P = (a : Phase EarlyEnd Gathered) × P a

abbrev given : Option (List ℕ) → Fetch
given None = missing
given (Some t) = text t

-- under each name it gives a text or none
abbrev Told : (List ℕ → Fetch → Type 0) → Type 0
Told G = (name : List ℕ) → (f : Option (List ℕ)) × G name (given f)

-- each import leads somewhere, as long as there is room for so many texts
abbrev Leading : (List ℕ → Fetch → Type 0) → ℕ → Type 0
Leading G n = (g : Gathered) (x : Import) → 65 ≤ length g.sources + n → Answers (Leads G g x)

module _ (G : List ℕ → Fetch → Type 0) where
  no_fewer : {g h : Gathered} {x : Import} → Leads G g x (accepts h) → length g.sources ≤ length h.sources
  no_fewer l = leads_grow l

  onward : (g : Gathered) (x : Import) (xs : List Import) (a : Phase EarlyEnd Gathered) → Leads G g x a
      → ((h : Gathered) → length g.sources ≤ length h.sources → Answers (Along G h xs)) → Answers (Along G g (x ∷ xs))
  onward g x xs (refuses e) l more = (refuses e, stop l)
  onward g x xs (accepts h) l more = let f = more h (no_fewer l) in (f.0, next l f.1)

  module _ (n : ℕ) (leading : Leading G n) where
    some_along : (g : Gathered) (xs : List Import) → 65 ≤ length g.sources + n → Answers (Along G g xs)
    some_along g [] room = (accepts g, none)
    some_along g (x ∷ xs) room = onward g x xs (leading g x room).0 (leading g x room).1 (λ h m. some_along h xs (omega (arith, m, room)))

    some_visit : (g : Gathered) (name t : List ℕ) → 64 ≤ length g.sources + n → Answers (Visits G g name t)
    some_visit g name t room = elim (cases_lt TEXT_LIMIT (bytes_visited g + length t)) [
      | inl long ↦ (_, too_long long)
      | inr short ↦ let r = one_reading g.names (length g.sources) t in read short r.0 r.1
    ]
      where
        over : bytes_visited g + length t ≤ TEXT_LIMIT → (r : Read) → Reads g.names (length g.sources) t (accepts r) → (a : Phase EarlyEnd Gathered) → Along G (begun g name t r) r.program.imports a
            → Answers (Visits G g name t)
        over short r is (accepts h) f = (_, whole short is f)
        over short r is (refuses e) f = (_, cut_off short is f)

        read : bytes_visited g + length t ≤ TEXT_LIMIT → (said : Phase Stop Read) → Reads g.names (length g.sources) t said → Answers (Visits G g name t)
        read short (refuses (code, span)) is = (_, unread short is)
        read short (accepts r) is =
            let f = some_along (begun g name t r) r.program.imports (let m = one_more g.sources name t in omega (arith, m, room)) in
            over short r is f.0 f.1

  led : (g : Gathered) (x : Import) (o : Option (Phase EarlyEnd Gathered)) → settled g x ≡ o → (f : Option (List ℕ)) → G x.name (given f)
      → ((t : List ℕ) → settled g x ≡ None → Answers (Visits G g x.name t)) → Answers (Leads G g x)
  led g x (Some a) e f is visited_as = (a, at_once e)
  led g x None e None is visited_as = (_, absent e is)
  led g x None e (Some t) is visited_as = let v = visited_as t e in (v.0, visit e is v.1)

  leading : Told G → (n : ℕ) → Leading G n
  leading told zero g x room =
      led g x (settled g x) refl (told x.name).0 (told x.name).1 (λ t e. let m = few g x e in absurd (omega (arith, room, m, length-drop 1 g.sources)))
  leading told (suc n) g x room =
      led g x (settled g x) refl (told x.name).0 (told x.name).1 (λ t e. some_visit n (leading told n) g x.name t (omega (arith, room)))

-- ---- a shelf that tells its texts

gives_single : (texts : Texts) → Single (MayGive (Some texts))
gives_single texts name (text t) (text u) e f = cc
gives_single texts name (text t) missing e f = absurd cc
gives_single texts name (text t) fault e f = absurd f
gives_single texts name missing (text u) e f = absurd cc
gives_single texts name missing missing e f = refl
gives_single texts name missing fault e f = absurd f
gives_single texts name fault h e f = absurd e

gives_told : (texts : Texts) → Told (MayGive (Some texts))
gives_told texts name = (text_of texts name, by (text_of texts name) refl)
  where
    by : (f : Option (List ℕ)) → text_of texts name ≡ f → MayGive (Some texts) name (given f)
    by None e = e
    by (Some t) e = e

pub one_visit : OneVisit
one_visit texts g name t =
    let G : List ℕ → Fetch → Type 0 = MayGive (Some texts) in
    let v = some_visit G 64 (leading G (gives_told texts) 64) g name t (omega arith) in
    (v.0, v.1, λ b is. visits_once G (gives_single texts) b v.0 is v.1)
