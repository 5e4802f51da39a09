-- The values of a heap's words have no variable, and what is put for variables leaves them.
use Rattle.std.proofs.Common.{ℕ, zero, suc, ◌≡◌, List, [], ◌∷◌, ◌++◌, map, refl, Option, Some, None, option_map, unwrap_or, pos}
use Rattle.std.specs.List.{fold, slice_index_or}
use Rattle.pict_core.specs.Term as term
use Rattle.pict_core.specs.Term.{Val, Vals, Labelled, Chan}
use Rattle.pict_core.specs.Plain.{vals_of, labelled_of}
use Rattle.pict_core.specs.Substitution.{Replacement, replace_value, replace_values, replace_labelled}
use Rattle.pict_syntax.specs.declared.name.Name.{Name}
use Rattle.pict_heap.specs.HeapState.{HeapState, RecordState, word_value, field_value, record_value, more_values, heap_values, value_of}
use Rattle.pict_heap.specs.Packed.{unpacked}
use Rattle.pict_heap.specs.declared.word.Word.{Word}
use Rattle.pict_heap.specs.declared.word.Word.TheVariants as word
use Rattle.pict_desk.specs.Known.{value_in}

-- a value without variables
abbrev mutual
  pub HasNoVar : Val → Type 0
  HasNoVar (term.Var level) = ⊥
  HasNoVar (term.Record vs ls) = HaveNoVar vs × FieldsHaveNoVar ls
  HasNoVar _ = Unit {0}

  pub HaveNoVar : Vals → Type 0
  HaveNoVar term.no_vals = Unit {0}
  HaveNoVar (term.more_vals v vs) = HasNoVar v × HaveNoVar vs

  pub FieldsHaveNoVar : Labelled → Type 0
  FieldsHaveNoVar term.no_labelled = Unit {0}
  FieldsHaveNoVar (term.more_labelled label v ls) = HasNoVar v × FieldsHaveNoVar ls

-- ---- words of a heap

AllNoVar : List Val → Type 0
AllNoVar [] = Unit {0}
AllNoVar (v ∷ vs) = HasNoVar v × AllNoVar vs

item_no_var : (vs : List Val) (i : ℕ) (d : Val) → HasNoVar d → AllNoVar vs → HasNoVar (slice_index_or vs i d)
unfolding AllNoVar
item_no_var [] i d h a = h
item_no_var (v ∷ vs) zero d h a = a.0
item_no_var (v ∷ vs) (suc i) d h a = item_no_var vs i d h a.1

append_no_var : (vs ws : List Val) → AllNoVar vs → AllNoVar ws → AllNoVar (vs ++ ws)
unfolding AllNoVar
append_no_var [] ws a b = b
append_no_var (v ∷ vs) ws a b = (a.0, append_no_var vs ws a.1 b)

module _ (texts : List (List ℕ)) (values : List Val) (all : AllNoVar values) where
  word_no_var : (w : Word) → HasNoVar (word_value texts values w)
  word_no_var (word.Int n) = tt
  word_no_var (word.Char n) = tt
  word_no_var (word.Bool n) = tt
  word_no_var (word.Chan n) = tt
  word_no_var (word.Prim n) = tt
  word_no_var (word.Text n) = tt
  word_no_var (word.Fields n) = item_no_var values n _ (tt, tt) all

  words_no_var : (ws : List Word) → HaveNoVar (vals_of (map (word_value texts values) ws))
  words_no_var [] = tt
  words_no_var (w ∷ ws) = (word_no_var w, words_no_var ws)

  fields_no_var : (fs : List (Name × Word)) → FieldsHaveNoVar (labelled_of (map (field_value texts values) fs))
  fields_no_var [] = tt
  fields_no_var (f ∷ fs) = (word_no_var f.1, fields_no_var fs)

records_no_var : (texts : List (List ℕ)) (rs : List RecordState) (values : List Val) → AllNoVar values → AllNoVar (fold (more_values texts) values rs)
unfolding AllNoVar
records_no_var texts [] values all = all
records_no_var texts (r ∷ rs) values all =
    records_no_var texts rs (more_values texts values r) (append_no_var values (record_value texts values r ∷ []) all ((words_no_var texts values all r.positional, fields_no_var texts values all r.labelled), tt))

pub value_no_var : (h : HeapState) (w : Word) → HasNoVar (value_of h w)
unfolding AllNoVar
value_no_var h w = word_no_var h.texts (heap_values h.texts h.records) (records_no_var h.texts h.records [] tt) w

pair_no_var : (h : HeapState) (o : Option Word) → HasNoVar (unwrap_or (option_map (value_of h) o) (term.Int (pos 0)))
pair_no_var h None = tt
pair_no_var h (Some w) = value_no_var h w

pub value_in-no_var : (h : HeapState) (tag payload : ℕ) → HasNoVar (value_in h tag payload)
value_in-no_var h tag payload = pair_no_var h (unpacked tag payload)

-- ---- what is put for variables

mutual
  pub value_stays : (r : Replacement) → ((n : ℕ) → r.channel n ≡ Chan n) → (v : Val) → HasNoVar v → replace_value r v ≡ v
  value_stays r h (term.Var level) o = absurd o
  value_stays r h (term.Chan n) o = h n
  value_stays r h (term.Int n) o = refl
  value_stays r h (term.Char n) o = refl
  value_stays r h (term.Boolean n) o = refl
  value_stays r h (term.Text n) o = refl
  value_stays r h (term.PrimitiveVal n) o = refl
  value_stays r h (term.Record vs ls) o = cc (values_stay r h vs o.0, labelled_stay r h ls o.1)

  values_stay : (r : Replacement) → ((n : ℕ) → r.channel n ≡ Chan n) → (vs : Vals) → HaveNoVar vs → replace_values r vs ≡ vs
  values_stay r h term.no_vals o = refl
  values_stay r h (term.more_vals v vs) o = cc (value_stays r h v o.0, values_stay r h vs o.1)

  labelled_stay : (r : Replacement) → ((n : ℕ) → r.channel n ≡ Chan n) → (ls : Labelled) → FieldsHaveNoVar ls → replace_labelled r ls ≡ ls
  labelled_stay r h term.no_labelled o = refl
  labelled_stay r h (term.more_labelled l v ls) o = cc (value_stays r h v o.0, labelled_stay r h ls o.1)
