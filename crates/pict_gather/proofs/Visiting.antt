-- How the answers of the calls of a visit make up those of the definition.
use Rattle.std.proofs.Common.{◌≡◌, ℕ, ◌≤◌, List, [], ◌∷◌, ◌++◌, length, Option, None, refl, sym, ap, subst, ◌∙◌, arith, IfSome, Ok, Err}
use Rattle.std.specs.Prelude.{Result}
use Rattle.pict_syntax.specs.declared.code.Code.TheVariants.{B1, I1}
use Rattle.pict_syntax.specs.declared.source.Source.{Source}
use Rattle.pict_syntax.specs.declared.source.Sources.{Sources}
use Rattle.pict_syntax.specs.declared.span.Span.{Span}
use Rattle.pict_syntax.specs.declared.tree.Dec.{Dec as RDec}
use Rattle.pict_syntax.specs.declared.tree.Import.{Import}
use Rattle.pict_syntax.specs.declared.tree.Program.{Program as RProgram}
use Rattle.pict_syntax.specs.PlainTrees.{dec_of, decs_on, program_of}
use Rattle.pict_syntax.specs.Trees.{Decs, no_decs, more_decs}
use Rattle.pict_outside.specs.Texts.{Texts}
use Rattle.pict_gather.specs.declared.gathering.Gathering.{Gathering}
use Rattle.pict_gather.specs.declared.error.ReadError.{ReadError}
use Rattle.pict_gather.specs.declared.error.ReadError.TheVariants as read
use Rattle.pict_gather.specs.declared.error.VisitError.{VisitError}
use Rattle.pict_gather.specs.declared.error.VisitError.TheVariants.{Named, Failed, Memory}
use Rattle.pict_gather.specs.Phases.{Phase, accepts, refuses}
use Rattle.pict_gather.specs.Fetching.{Fetch, text, missing, MayGive, MayGiveOrFail}
use Rattle.pict_gather.specs.Gathered.{Gathered, EarlyEnd, refused, failed, behind, with_source, next_place, begun, finished, settled, Visits, too_long, unread, cut_off, whole, Along, Leads, absent, unfetched, visit}
use Rattle.pict_gather.specs.Answers.{of_read_error}
use Rattle.pict_gather.specs.Found.{IsFault, IsTooLong}
use Rattle.pict_gather.specs.Kept.{gathered_in, IsKept, said, said_error, gives_for, gives_error, HasBegun, IsUnread}

-- ---- the declarations of a text come behind those before

on_both : (ds : Decs) (xs ys : List RDec) → decs_on ds (xs ++ ys) ≡ decs_on (decs_on ds xs) ys
unfolding decs_on
on_both ds [] ys = refl
on_both ds (x ∷ xs) ys = on_both (more_decs ds (dec_of x)) xs ys

behind_on : (ds es : Decs) (ys : List RDec) → decs_on (behind ds es) ys ≡ behind ds (decs_on es ys)
unfolding decs_on
behind_on ds es [] = refl
behind_on ds es (y ∷ ys) = behind_on ds (more_decs es (dec_of y)) ys

pub declared_behind : (xs ys : List RDec) → decs_on no_decs (xs ++ ys) ≡ behind (decs_on no_decs xs) (decs_on no_decs ys)
declared_behind xs ys = on_both no_decs xs ys ∙ behind_on (decs_on no_decs xs) no_decs ys

-- ---- what was gathered, part by part

abbrev pub parts : List Source → List (List ℕ) → List (List ℕ) → Decs → Gathered
parts sources ended names decs = record { sources = sources; ended = ended; names = names; decs = decs }

pub same_parts : {a b : List Source} {c d : List (List ℕ)} {e f : List (List ℕ)} {g h : Decs} → a ≡ b → c ≡ d → e ≡ f → g ≡ h → parts a c e g ≡ parts b d f h
same_parts {a = a} {b = b} {c = c} {d = d} {e = e} {f = f} {g = g} {h = h} i j k l =
    ap (λ z. parts z c e g) i ∙ ap (λ z. parts b z e g) j ∙ ap (λ z. parts b d z g) k ∙ ap (λ z. parts b d f z) l

module _ (held : Option Texts) (s : Sources) (g : Gathering) where
  abbrev before : Gathered
  before = gathered_in s g

  -- ---- one visit

  module _ (kept : IsKept s g) (name t : List ℕ) (fits : length t ≤ g.left) where
    pub unread_visit : (r : Sources) (e : ReadError) → IsUnread s g name t r e → IfSome (said_error (of_read_error e) r) (Visits (gives_error (of_read_error e) held) before name t)
    unread_visit r (read.Named code span) u =
        subst (λ l. Visits (MayGive held) before name t (refuses (refused l code span))) (sym u.sources) (unread (let l = kept.left in omega (arith, l, fits)) u.reads)
    unread_visit r read.Memory u = tt

    module _ (p : RProgram) (r : Sources) (h : Gathering) (b : HasBegun s g name t p r h) where
      -- what the code has once a text was begun is what the definition says
      begun_is : gathered_in r h ≡ begun before name t (record { names = h.names; program = program_of p })
      begun_is = same_parts b.sources b.ended refl (ap (decs_on no_decs) b.decs)

      from_here : (G : List ℕ → Fetch → Type 0) (a : Phase EarlyEnd Gathered) → Along G (gathered_in r h) p.imports.items a
          → Along G (begun before name t (record { names = h.names; program = program_of p })) p.imports.items a
      from_here G a f = subst (λ x. Along G x p.imports.items a) begun_is f

      pub cut_off_visit : (q : Sources) (e : VisitError) → IfSome (said_error e q) (Along (gives_error e held) (gathered_in r h) p.imports.items) → IfSome (said_error e q) (Visits (gives_error e held) before name t)
      cut_off_visit q (Named code span) f = cut_off (let l = kept.left in omega (arith, l, fits)) b.reads (from_here (MayGive held) (refuses (refused q.list.items code span)) f)
      cut_off_visit q Failed f = cut_off (let l = kept.left in omega (arith, l, fits)) b.reads (from_here (MayGiveOrFail held) (refuses (failed q.list.items)) f)
      cut_off_visit q Memory f = tt

      pub whole_visit : (q : Sources) (k m : Gathering) → Along (MayGive held) (gathered_in r h) p.imports.items (accepts (gathered_in q k))
          → m.ended.items ≡ k.ended.items ++ name ∷ [] → m.decs.items ≡ k.decs.items ++ p.decs.items → m.names ≡ k.names → Visits (MayGive held) before name t (accepts (gathered_in q m))
      whole_visit q k m f ended decs names =
          let e : gathered_in q m ≡ finished name (program_of p).decs (gathered_in q k) =
          same_parts refl ended names (ap (decs_on no_decs) decs ∙ declared_behind k.decs.items p.decs.items) in
          subst (λ x. Visits (MayGive held) before name t (accepts x)) (sym e)
          (whole (let l = kept.left in omega (arith, l, fits)) b.reads (from_here (MayGive held) (accepts (gathered_in q k)) f))

  -- ---- one import

  module _ (x : Import) (open_ : settled before x ≡ None) (r : Sources) where
    lead_on : {T : Type 0} (q : Sources) (k : Gathering) (t : List ℕ) (result : Result T VisitError) → MayGive held x.name (text t)
        → IfSome (said result q k) (Visits (gives_for result held) before x.name t) → IfSome (said result q k) (Leads (gives_for result held) before x)
    lead_on q k t (Ok u) gives v = visit open_ gives v
    lead_on q k t (Err (Named code span)) gives v = visit open_ gives v
    lead_on q k t (Err Failed) gives v = visit open_ gives v
    lead_on q k t (Err Memory) gives v = tt

    pub lead_visit : {T : Type 0} (told_held : Option Texts) (t : List ℕ) (q : Sources) (k : Gathering) (result : Result T VisitError) → told_held ≡ held → r.list.items ≡ s.list.items → MayGive held x.name (text t)
        → IfSome (said result q k) (Visits (gives_for result told_held) (gathered_in r g) x.name t) → IfSome (said result q k) (Leads (gives_for result held) before x)
    lead_visit told_held t q k result is same gives v =
        lead_on q k t result gives
        (subst (λ l. IfSome (said result q k) (Visits (gives_for result held) (parts l g.ended.items g.names (decs_on no_decs g.decs.items)) x.name t)) same
        (subst (λ m. IfSome (said result q k) (Visits (gives_for result m) (gathered_in r g) x.name t)) is v))

    pub lead_fault : (e : VisitError) → IsFault x.name s.list.items r.list.items e → IfSome (said_error e r) (Leads (gives_error e held) before x)
    lead_fault (Named code span) f = absurd f
    lead_fault Failed f = subst (λ l. Leads (MayGiveOrFail held) before x (refuses (failed l))) (sym f) (unfetched open_ tt)
    lead_fault Memory f = tt

    pub lead_missing : r.list.items ≡ s.list.items → MayGive held x.name missing → Leads (MayGive held) before x (refuses (refused r.list.items I1 x.span))
    lead_missing same gives = subst (λ l. Leads (MayGive held) before x (refuses (refused l I1 x.span))) (sym same) (absent open_ gives)

    pub lead_too_long : (span : Span) → IsKept s g → r.list.items ≡ with_source s.list.items x.name [] → span ≡ next_place before → IsTooLong held x.name g.left
        → Leads (MayGive held) before x (refuses (refused r.list.items B1 span))
    lead_too_long span kept more at long =
        let v : Leads (MayGive held) before x (refuses (refused (with_source s.list.items x.name []) B1 (next_place before))) =
        visit open_ long.gives (too_long (let l = kept.left in let m = long.long in omega (arith, l, m))) in
        subst (λ l. Leads (MayGive held) before x (refuses (refused l B1 span))) (sym more)
        (subst (λ i. Leads (MayGive held) before x (refuses (refused (with_source s.list.items x.name []) B1 i))) (sym at) v)
