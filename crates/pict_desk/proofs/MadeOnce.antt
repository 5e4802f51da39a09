-- Words that are made once: which operands have them, and that they stay.
use Rattle.std.proofs.Common.{ℕ, zero, suc, ◌+◌, ◌<◌, ◌≡◌, ◌||◌, ◌==◌, Bool, true, false, List, [], ◌∷◌, ◌++◌, length, map, take, get_or, refl, sym, ap, ◌∙◌, subst, arith, Option, Some, None, ◌↔◌, Vec, Global}
use Rattle.std.proofs.lemmas.Bool.Decides.{nat_tests}
use Rattle.std.specs.List.{slice_get}
use Rattle.pict_syntax.specs.declared.name.Name.{Name}
use Rattle.pict_core.specs.Closed.{IsOver, AreOver, LabelledOver, IsUnder}
use Rattle.pict_core.specs.Plain.{plain_val, plain_field, vals_of, labelled_of}
use Rattle.pict_core.specs.Term.{Val, Vals, Labelled, Var, Chan, Int, Char, Boolean, Text, PrimitiveVal, Record, no_vals, more_vals, no_labelled, more_labelled, Out}
use Rattle.pict_core.specs.declared.value.CoreVal.{CoreVal}
use Rattle.pict_core.specs.declared.value.CoreVal.TheVariants as value
use Rattle.pict_core.proofs.Fields.{plain_val-Fields}
use Rattle.pict_code.specs.Frames.{in_value}
use Rattle.pict_code.specs.Instruction as op
use Rattle.pict_code.specs.Instruction.{Node, Op}
use Rattle.pict_code.specs.Nodes.{nodes_of}
use Rattle.pict_code.specs.ReadBack.{core_of}
use Rattle.pict_code.proofs.Agreeing.{agree_val}
use Rattle.pict_code.proofs.Closings.{part_under}
use Rattle.pict_heap.specs.HeapState.{HeapState, KeepsWords}
use Rattle.pict_heap.specs.declared.word.Word.{Word}
use Rattle.pict_desk.specs.Known.{operand_value}
use Rattle.pict_desk.proofs.Nodes.{part_of, is_out, op_is}
use Rattle.pict_desk.proofs.Making.{take_more, keeps_all, keeps_more}
use Rattle.pict_desk.proofs.Recording.{plain_var}
use Rattle.pict_desk.specs.Code.{IsCode}
use Rattle.pict_desk.specs.Constants.{HasNoVariable, HaveNoVariable, LabelledHaveNone, IsConstant, IsConstantFor, AreConstants, HasMessageOver, OnlyMakes}
use Rattle.pict_desk.specs.declared.desk.Desk.{Desk}

-- ---- operands without variables

or_left : (a b : Bool) → a || b ≡ false → a ≡ false
or_left true b h = cc
or_left false b h = refl

or_right : (a b : Bool) → a || b ≡ false → b ≡ false
or_right true b h = cc
or_right false b h = h

or_both : (a b : Bool) → a ≡ false → b ≡ false → a || b ≡ false
or_both true b h k = cc
or_both false b h k = k

-- the value of an operand without variables is the same, whatever those of levels are
pub same_value : (v : Val) → HasNoVariable v → (f g : ℕ → Val) → operand_value f v ≡ operand_value g v
same_value v none f g = agree_val (record { variable = f; channel = Chan }) (record { variable = g; channel = Chan }) (λ _. refl) v (λ level h. let e = none level in cc)

mutual
  -- an operand without variables is over none
  pub over_none : (n : ℕ) (v : Val) → HasNoVariable v → IsOver n 0 v → IsOver 0 0 v
  over_none n (Var level) none o = let e = none level in absurd (grind (arith, e))
  over_none n (Chan c) none o = o
  over_none n (Int i) none o = tt
  over_none n (Char b) none o = tt
  over_none n (Boolean b) none o = tt
  over_none n (Text bs) none o = tt
  over_none n (PrimitiveVal p) none o = tt
  over_none n (Record vs ls) none o =
      (all_over_none n vs (λ level. or_left _ _ (none level)) o.0, labelled_over_none n ls (λ level. or_right _ _ (none level)) o.1, o.2)

  all_over_none : (n : ℕ) (vs : Vals) → HaveNoVariable vs → AreOver n 0 vs → AreOver 0 0 vs
  all_over_none n no_vals none o = tt
  all_over_none n (more_vals v vs) none o = (over_none n v (λ level. or_left _ _ (none level)) o.0, all_over_none n vs (λ level. or_right _ _ (none level)) o.1)

  labelled_over_none : (n : ℕ) (ls : Labelled) → LabelledHaveNone ls → LabelledOver n 0 ls → LabelledOver 0 0 ls
  labelled_over_none n no_labelled none o = tt
  labelled_over_none n (more_labelled label v ls) none o =
      (over_none n v (λ level. or_left _ _ (none level)) o.0, labelled_over_none n ls (λ level. or_right _ _ (none level)) o.1)

-- ---- one field more

values_append : (vs : List Val) (v : Val) → HaveNoVariable (vals_of vs) → HasNoVariable v → HaveNoVariable (vals_of (vs ++ v ∷ []))
values_append [] v none one level = or_both _ _ (one level) refl
values_append (u ∷ vs) v none one level =
    or_both _ _ (or_left (in_value level u) _ (none level)) (values_append vs v (λ l. or_right (in_value l u) _ (none l)) one level)

labelled_append : (fs : List (Name × Val)) (f : Name × Val) → LabelledHaveNone (labelled_of fs) → HasNoVariable f.1 → LabelledHaveNone (labelled_of (fs ++ f ∷ []))
labelled_append [] f none one level = or_both _ _ (one level) refl
labelled_append (u ∷ fs) f none one level =
    or_both _ _ (or_left (in_value level u.1) _ (none level)) (labelled_append fs f (λ l. or_right (in_value l u.1) _ (none l)) one level)

pub none_more : (xs : List CoreVal) (i : ℕ) (x : CoreVal) → i < length xs → x ≡ get_or xs i x
    → HaveNoVariable (vals_of (map plain_val (take i xs))) → HasNoVariable (plain_val x) → HaveNoVariable (vals_of (map plain_val (take (i + 1) xs)))
none_more xs i x low is none one =
    subst (λ vs. HaveNoVariable (vals_of vs)) (sym (take_more plain_val xs i x low is)) (values_append (map plain_val (take i xs)) (plain_val x) none one)

pub labelled_none_more : (xs : List (Name × CoreVal)) (i : ℕ) (x : Name × CoreVal) → i < length xs → x ≡ get_or xs i x
    → LabelledHaveNone (labelled_of (map plain_field (take i xs))) → HasNoVariable (plain_val x.1) → LabelledHaveNone (labelled_of (map plain_field (take (i + 1) xs)))
labelled_none_more xs i x low is none one =
    subst (λ fs. LabelledHaveNone (labelled_of fs)) (sym (take_more plain_field xs i x low is)) (labelled_append (map plain_field (take i xs)) (plain_field x) none one)

-- where none has a variable, one hasn't
pub none_at : (xs : List CoreVal) (i : ℕ) (x : CoreVal) → i < length xs → x ≡ get_or xs i x → HaveNoVariable (vals_of (map plain_val xs)) → HasNoVariable (plain_val x)
none_at [] i x low is none = absurd (omega arith)
none_at (y ∷ ys) zero x low is none = subst (λ z. HasNoVariable (plain_val z)) (sym is) (λ level. or_left _ _ (none level))
none_at (y ∷ ys) (suc i) x low is none = none_at ys i x (omega arith) is (λ level. or_right (in_value level (plain_val y)) _ (none level))

pub labelled_none_at : (xs : List (Name × CoreVal)) (i : ℕ) (x : Name × CoreVal) → i < length xs → x ≡ get_or xs i x → LabelledHaveNone (labelled_of (map plain_field xs)) → HasNoVariable (plain_val x.1)
labelled_none_at [] i x low is none = absurd (omega arith)
labelled_none_at (y ∷ ys) zero x low is none = subst (λ z. HasNoVariable (plain_val z.1)) (sym is) (λ level. or_left _ _ (none level))
labelled_none_at (y ∷ ys) (suc i) x low is none = labelled_none_at ys i x (omega arith) is (λ level. or_right (in_value level (plain_val y.1)) _ (none level))

-- a variable
pub variable_in : (v : CoreVal) (l : ℕ) → v ≡ value.Var l → ¬ HasNoVariable (plain_val v)
variable_in v l is none =
    let here : (l == l) ≡ false = ap (in_value l) (sym (ap plain_val is ∙ plain_var l)) ∙ none l in
    grind (arith, nat_tests)

-- those of a record
module _ (v : CoreVal) (ps : Vec CoreVal Global) (ls : Vec (Name × CoreVal) Global) (is : v ≡ value.Fields ps ls) where
  whole : plain_val v ≡ Record (vals_of (map plain_val ps.items)) (labelled_of (map plain_field ls.items))
  whole = ap plain_val is ∙ plain_val-Fields ps ls

  pub none_in_record : HasNoVariable (plain_val v) ↔ (HaveNoVariable (vals_of (map plain_val ps.items)) × LabelledHaveNone (labelled_of (map plain_field ls.items)))
  none_in_record = (
    λ none. let in_both : HasNoVariable (Record (vals_of (map plain_val ps.items)) (labelled_of (map plain_field ls.items))) = subst HasNoVariable whole none in
        ((λ level. or_left _ _ (in_both level)), (λ level. or_right _ _ (in_both level))),
    λ both. subst HasNoVariable (sym whole) (λ level. or_both _ _ (both.0 level) (both.1 level)),
  )

-- ---- messages of outputs

-- the message of a node's output is over the variables around it
pub messages_over : (nodes : List Node) → IsCode nodes → (number : ℕ) (node : Node) → slice_get nodes number ≡ Some node → HasMessageOver node.op
messages_over nodes is number node here chan message at o =
    let core = core_of nodes in
    let there : slice_get (nodes_of core) number ≡ Some node = ap (λ (ns : List Node). slice_get ns number) is.nodes_are ∙ here in
    let p = part_of core number node there in
    let n = p.0.around in
    let out = is_out number n chan message at p.0.process (op_is core number node p.0 (op.Out chan message at) p.1 o) in
    let under : IsUnder n 0 (Out chan message at) = subst (IsUnder n 0) out (part_under core number p.0 is.closed p.1.at) in
    (n, under.1)

-- ---- constants stay while the heap grows

module _ (old new : HeapState) (keeps : KeepsWords old new) where
  constant_keeps : (v : Val) (constant : Option Word) → IsConstant old v constant → IsConstant new v constant
  constant_keeps v None c = c
  constant_keeps v (Some w) c = record { word = keeps.words w c.word; value = λ levels. keeps.values w c.word ∙ c.value levels }

  constant_for_keeps : (o : Op) (constant : Option Word) → IsConstantFor old o constant → IsConstantFor new o constant
  constant_for_keeps (op.Out chan message at) constant c = constant_keeps message constant c
  constant_for_keeps op.Zero constant c = c
  constant_for_keeps (op.Par left right) constant c = c
  constant_for_keeps (op.New level part) constant c = c
  constant_for_keeps (op.In chan pattern part) constant c = c
  constant_for_keeps (op.Serve chan pattern part) constant c = c
  constant_for_keeps (op.If test left right) constant c = c

  pub constants_keep : (nodes : List Node) (constants : List (Option Word)) → AreConstants old nodes constants → AreConstants new nodes constants
  constants_keep [] [] c = tt
  constants_keep (node ∷ nodes) (constant ∷ constants) c = (constant_for_keeps node.op constant c.0, constants_keep nodes constants c.1)
  constants_keep [] (constant ∷ constants) c = absurd c
  constants_keep (node ∷ nodes) [] c = absurd c

  -- one more
  pub constants_more : (nodes : List Node) (constants : List (Option Word)) (node : Node) (constant : Option Word) → AreConstants old nodes constants → IsConstantFor new node.op constant
      → AreConstants new (nodes ++ node ∷ []) (constants ++ constant ∷ [])
  constants_more [] [] node constant c one = (one, tt)
  constants_more (n ∷ nodes) (k ∷ constants) node constant c one = (constant_for_keeps n.op k c.0, constants_more nodes constants node constant c.1 one)
  constants_more [] (k ∷ constants) node constant c one = absurd c
  constants_more (n ∷ nodes) [] node constant c one = absurd c

-- ---- the constant of a node

pub as_many : (h : HeapState) (nodes : List Node) (constants : List (Option Word)) → AreConstants h nodes constants → length constants ≡ length nodes
as_many h [] [] c = refl
as_many h (node ∷ nodes) (constant ∷ constants) c = ap suc (as_many h nodes constants c.1)
as_many h [] (constant ∷ constants) c = absurd c
as_many h (node ∷ nodes) [] c = absurd c

pub constant_at : (h : HeapState) (nodes : List Node) (constants : List (Option Word)) (number : ℕ) (node : Node) (other : Option Word) → AreConstants h nodes constants
    → slice_get nodes number ≡ Some node → IsConstantFor h node.op (get_or constants number other)
constant_at h [] constants number node other c at = cc
constant_at h (n ∷ nodes) [] number node other c at = absurd c
constant_at h (n ∷ nodes) (k ∷ constants) zero node other c at = let same : n ≡ node = cc in subst (λ (m : Node). IsConstantFor h m.op k) same c.0
constant_at h (n ∷ nodes) (k ∷ constants) (suc number) node other c at = constant_at h nodes constants number node other c.1 at

-- ---- words are made

pub makes_nothing : (d : Desk) → OnlyMakes d d
makes_nothing d = record { words = keeps_all d.heap; values = refl }

pub makes_more : (a b c : Desk) → OnlyMakes a b → OnlyMakes b c → OnlyMakes a c
makes_more a b c m n = record { words = keeps_more a.heap b.heap c.heap m.words n.words; values = n.values ∙ m.values }
