-- Scopes of small programs, by the form of their trees.
use Rattle.std.specs.Prelude.{◌≡◌, ℕ, List, [], ◌∷◌, Some, None}
use Rattle.pict_syntax.specs.declared.name.Name.{Name}
use Rattle.pict_syntax.specs.declared.span.Span.{Span}
use Rattle.pict_syntax.specs.declared.id.Id.{Id}
use Rattle.pict_syntax.specs.Trees.{TypeTree, int_type, use_type, fields_type, TypeBinder, type_binder, unbounded, bound, no_types, more_types, no_binders, more_binders, no_labelled_types, Pat, bind_pat, fields_pat, field_pats, no_pats, more_pats, no_labelled_pats, Dec, new_dec, run_dec, let_dec, def_dec, alias_dec, Decs, no_decs, more_decs, no_definitions, more_definitions, Abs, process_abs, function_abs, Chan, use_chan, block_chan, Val, of_chan, Proc, send_proc, group_proc, no_procs, more_procs}
use Rattle.pict_named.specs.Phrases.{Use, value_uses, type_uses}
use Rattle.pict_named.specs.Extents.{program_phrase}

-- an identifier of this name, by its place, and a use of one with what is around it
abbrev named : ℕ → Name
named n = record { 0 = n }

abbrev at : ℕ → Span
at place = record { text = 1; start = place; end = place }

abbrev id : ℕ → ℕ → Id
id n place = record { name = named n; span = at place }

abbrev use_in : ℕ → List Id → Use
use_in n around = record { name = n; around = around }

abbrev both : Dec → Dec → Decs
both d e = more_decs (more_decs no_decs d) e

abbrev chan : ℕ → Chan
chan n = use_chan (at 0) (named n)

abbrev val : ℕ → Val
val n = of_chan (chan n)

abbrev of_type : ℕ → TypeTree
of_type n = use_type (at 0) (named n)

abbrev binder : ℕ → ℕ → TypeBinder
binder n place = type_binder (at 0) (id n place) None unbounded

abbrev name_pat : ℕ → ℕ → Pat
name_pat n place = bind_pat (at 0) (id n place) None

abbrev typed_pat : ℕ → ℕ → ℕ → Pat
typed_pat n place t = bind_pat (at 0) (id n place) (Some (of_type t))

-- the pattern `[#X x:X]`
abbrev record_pat : TypeBinder → Pat → Pat
record_pat b p = fields_pat (at 0) (field_pats (more_binders no_binders b) (more_pats no_pats p) no_labelled_pats)

abbrev two_pats : Pat → Pat → Pat
two_pats p q = fields_pat (at 0) (field_pats no_binders (more_pats (more_pats no_pats p) q) no_labelled_pats)

abbrev int_alias : ℕ → ℕ → Dec
int_alias n place = alias_dec (at 0) (id n place) (int_type (at 0))

abbrev sends : ℕ → ℕ → Proc
sends c v = send_proc (at 0) (chan c) (val v)

abbrev in_group : Dec → Proc → Proc
in_group d p = group_proc (at 0) (more_decs no_decs d) (more_procs no_procs p)

abbrev def_one : ℕ → ℕ → Abs → Dec
def_one n place f = def_dec (at 0) (more_definitions no_definitions (id n place) f)

-- `new x:Int val x = x run x!x`: the value of the `val` stands in the scope of the channel alone, and what is behind it in both, that
-- of the `val` nearer
abbrev value_of_a_pattern : Decs
value_of_a_pattern = more_decs (both (new_dec (at 0) (id 0 1) (int_type (at 0))) (let_dec (at 0) (name_pat 0 2) (val 0))) (run_dec (at 0) (sends 0 0))

abbrev NotInItsOwnValue : Type 0
NotInItsOwnValue = value_uses [] (program_phrase value_of_a_pattern)
    ≡ use_in 0 (id 0 1 ∷ []) ∷ use_in 0 (id 0 2 ∷ id 0 1 ∷ []) ∷ use_in 0 (id 0 2 ∷ id 0 1 ∷ []) ∷ []

-- `def f x = (val g = x g!f) and g y = f!y`: in the body of `f` the `val` is nearer than the `def`, though it is read before the `g` of
-- the `def`; each abstraction stands in the scope of both names
abbrev def_with_a_val : Decs
def_with_a_val =
    let f = process_abs (at 0) (name_pat 1 2) (in_group (let_dec (at 0) (name_pat 2 3) (val 1)) (sends 2 0)) in
    let g = process_abs (at 0) (name_pat 3 5) (sends 0 3) in
    more_decs no_decs (def_dec (at 0) (more_definitions (more_definitions no_definitions (id 0 1) f) (id 2 4) g))

abbrev InnerIsNearer : Type 0
InnerIsNearer = value_uses [] (program_phrase def_with_a_val)
    ≡ use_in 1 (id 1 2 ∷ id 2 4 ∷ id 0 1 ∷ []) ∷ use_in 2 (id 2 3 ∷ id 1 2 ∷ id 2 4 ∷ id 0 1 ∷ [])
    ∷ use_in 0 (id 2 3 ∷ id 1 2 ∷ id 2 4 ∷ id 0 1 ∷ []) ∷ use_in 0 (id 3 5 ∷ id 2 4 ∷ id 0 1 ∷ [])
    ∷ use_in 3 (id 3 5 ∷ id 2 4 ∷ id 0 1 ∷ []) ∷ []

-- `type Y = Int type Y = [Y]`: a definition of a type isn't in its own scope
abbrev type_in_itself : Decs
type_in_itself = both (int_alias 0 1) (alias_dec (at 0) (id 0 2) (fields_type (at 0) no_binders (more_types no_types (of_type 0)) no_labelled_types))

abbrev NotInItself : Type 0
NotInItself = type_uses [] (program_phrase type_in_itself) ≡ use_in 0 (id 0 1 ∷ []) ∷ []

-- `type Y = Int def f [[#Y y:Y] z:Y] = (new b:Y b!z)`: the `Y` of the nested record binds over its later fields and the body, and not
-- over the later fields of the record around it
abbrev nested_pattern : Decs
nested_pattern =
    let p = two_pats (record_pat (binder 0 3) (typed_pat 2 4 0)) (typed_pat 3 5 0) in
    both (int_alias 0 1) (def_one 1 2 (process_abs (at 0) p (in_group (new_dec (at 0) (id 4 6) (of_type 0)) (sends 4 3))))

abbrev OverItsOwnRecordAndTheBody : Type 0
OverItsOwnRecordAndTheBody = type_uses [] (program_phrase nested_pattern)
    ≡ use_in 0 (id 0 3 ∷ id 0 1 ∷ []) ∷ use_in 0 (id 0 1 ∷ []) ∷ use_in 0 (id 0 3 ∷ id 0 1 ∷ []) ∷ []

-- `type X = Int type Z = Int def f [#X<X [#Z x:Z]]:[X Z] = (new b:Z x)`: a binder isn't in the scope of its own bound; one directly
-- among the fields binds over the result type, and one in a nested pattern doesn't; both bind over the body
abbrev result_type : Decs
result_type =
    let f = field_pats (more_binders no_binders (type_binder (at 0) (id 0 4) None (bound (of_type 0))))
    (more_pats no_pats (record_pat (binder 1 5) (typed_pat 3 6 1))) no_labelled_pats in
    let r = fields_type (at 0) no_binders (more_types (more_types no_types (of_type 0)) (of_type 1)) no_labelled_types in
    let v = of_chan (block_chan (at 0) (more_decs no_decs (new_dec (at 0) (id 4 7) (of_type 1))) (val 3)) in
    more_decs (both (int_alias 0 1) (int_alias 1 2)) (def_one 2 3 (function_abs (at 0) f (Some r) v))

abbrev DirectlyOverTheResult : Type 0
DirectlyOverTheResult = type_uses [] (program_phrase result_type)
    ≡ use_in 0 (id 1 2 ∷ id 0 1 ∷ []) ∷ use_in 1 (id 1 5 ∷ id 0 4 ∷ id 1 2 ∷ id 0 1 ∷ []) ∷ use_in 0 (id 0 4 ∷ id 1 2 ∷ id 0 1 ∷ [])
    ∷ use_in 1 (id 0 4 ∷ id 1 2 ∷ id 0 1 ∷ []) ∷ use_in 1 (id 1 5 ∷ id 0 4 ∷ id 1 2 ∷ id 0 1 ∷ []) ∷ []

pub record WorkedScopes : Type 0 where
  pub not_in_its_own_value : NotInItsOwnValue
  pub inner_is_nearer : InnerIsNearer
  pub not_in_itself : NotInItself
  pub over_its_own_record_and_the_body : OverItsOwnRecordAndTheBody
  pub directly_over_the_result : DirectlyOverTheResult
