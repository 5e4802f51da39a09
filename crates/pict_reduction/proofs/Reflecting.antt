-- Matching and the primitives on a value as it is read: its channels are variables, and nothing else changes.
use Rattle.std.proofs.Common.{ℕ, zero, suc, ◌≡◌, ℤ, pos, negsuc, Bool, true, false, nat_eq, cond, List, [], ◌∷◌, ◌++◌, map, refl, sym, ap, ◌∙◌, Option, Some, None, option_and_then, option_map}
use Rattle.pict_syntax.specs.declared.primitive.Primitive.{Primitive}
use Rattle.pict_syntax.specs.declared.primitive.Primitive.TheVariants as primitive
use Rattle.pict_core.specs.Term.{Val, Vals, Labelled, Pat, Pats, LabelledPats, Bind, Any, RecordPat, no_pats, more_pats, no_labelled_pats, more_labelled_pats, Var, Chan, Int, Char, Boolean, Text, PrimitiveVal, Record, no_vals, more_vals, no_labelled, more_labelled}
use Rattle.pict_core.specs.Substitution.{Replacement, replace_value, replace_values, replace_labelled}
use Rattle.pict_core.specs.Matching.{match_value, match_values, match_labelled, both, in_record, at_head, at_end, field_at}
use Rattle.pict_core.specs.Primitives.{Effect, effect_of, at_int, at_char, at_bool, at_text, at_two, at_three, divided_by}
use Rattle.pict_reduction.specs.Reading.{naming}
use Rattle.pict_reduction.proofs.Natural.{replace_effect}
use Rattle.pict_core.proofs.Replacing.{two}

module _ (n : ℕ) where
  abbrev r : Replacement
  r = naming n

  -- ---- matching

  abbrev bound_read : Option (List Val) → Option (List Val)
  bound_read o = option_map (map (replace_value r)) o

  map_append : (xs ys : List Val) → map (replace_value r) (xs ++ ys) ≡ map (replace_value r) xs ++ map (replace_value r) ys
  map_append [] ys = refl
  map_append (x ∷ xs) ys = ap (λ l. replace_value r x ∷ l) (map_append xs ys)

  both_read : (a b : Option (List Val)) → both (bound_read a) (bound_read b) ≡ bound_read (both a b)
  both_read None b = refl
  both_read (Some vs) None = refl
  both_read (Some vs) (Some ws) = ap Some (sym (map_append vs ws))

  field_cons : (v : Val) (rest rest' : Option Val) → rest' ≡ option_map (replace_value r) rest → (b : Bool) → cond b (Some (replace_value r v)) rest' ≡ option_map (replace_value r) (cond b (Some v) rest)
  field_cons v rest rest' h true = refl
  field_cons v rest rest' h false = h

  field_read : (label : ℕ) (ls : Labelled) → field_at label (replace_labelled r ls) ≡ option_map (replace_value r) (field_at label ls)
  field_read label no_labelled = refl
  field_read label (more_labelled l v ls) = field_cons v (field_at label ls) (field_at label (replace_labelled r ls)) (field_read label ls) (nat_eq label l)

  record_read : (f : Vals → Option (List Val)) (g : Labelled → Option (List Val)) → ((vs : Vals) → f (replace_values r vs) ≡ bound_read (f vs)) → ((ls : Labelled) → g (replace_labelled r ls) ≡ bound_read (g ls))
      → (v : Val) → in_record (λ vs ls. both (f vs) (g ls)) (replace_value r v) ≡ bound_read (in_record (λ vs ls. both (f vs) (g ls)) v)
  record_read f g h k (Var x) = refl
  record_read f g h k (Chan x) = refl
  record_read f g h k (Int x) = refl
  record_read f g h k (Char x) = refl
  record_read f g h k (Boolean x) = refl
  record_read f g h k (Text x) = refl
  record_read f g h k (PrimitiveVal x) = refl
  record_read f g h k (Record vs ls) = two both (h vs) (k ls) ∙ both_read (f vs) (g ls)

  head_read : (f : Val → Option (List Val)) (g : Vals → Option (List Val)) → ((v : Val) → f (replace_value r v) ≡ bound_read (f v)) → ((vs : Vals) → g (replace_values r vs) ≡ bound_read (g vs))
      → (vs : Vals) → at_head (λ v rest. both (f v) (g rest)) (replace_values r vs) ≡ bound_read (at_head (λ v rest. both (f v) (g rest)) vs)
  head_read f g h k no_vals = refl
  head_read f g h k (more_vals v vs) = two both (h v) (k vs) ∙ both_read (f v) (g vs)

  end_read : (vs : Vals) → at_end (replace_values r vs) ≡ bound_read (at_end vs)
  end_read no_vals = refl
  end_read (more_vals v vs) = refl

  found_read : (f : Val → Option (List Val)) → ((v : Val) → f (replace_value r v) ≡ bound_read (f v)) → (o : Option Val) → option_and_then f (option_map (replace_value r) o) ≡ bound_read (option_and_then f o)
  found_read f h None = refl
  found_read f h (Some v) = h v

  mutual
    pub match_read : (p : Pat) (v : Val) → match_value p (replace_value r v) ≡ bound_read (match_value p v)
    match_read Bind v = refl
    match_read Any v = refl
    match_read (RecordPat ps ls) v = record_read (match_values ps) (match_labelled ls) (match_all_read ps) (match_labelled_read ls) v

    match_all_read : (ps : Pats) (vs : Vals) → match_values ps (replace_values r vs) ≡ bound_read (match_values ps vs)
    match_all_read no_pats vs = end_read vs
    match_all_read (more_pats p ps) vs = head_read (match_value p) (match_values ps) (match_read p) (match_all_read ps) vs

    match_labelled_read : (ps : LabelledPats) (ls : Labelled) → match_labelled ps (replace_labelled r ls) ≡ bound_read (match_labelled ps ls)
    match_labelled_read no_labelled_pats ls = refl
    match_labelled_read (more_labelled_pats label p ps) ls =
        two both (ap (option_and_then (match_value p)) (field_read label ls) ∙ found_read (match_value p) (match_read p) (field_at label ls)) (match_labelled_read ps ls)
        ∙ both_read (option_and_then (match_value p) (field_at label ls)) (match_labelled ps ls)

  -- ---- primitives

  abbrev effect_read : Option Effect → Option Effect
  effect_read o = option_map (replace_effect r) o

  int_read : (v : Val) (f g : ℤ → Option Effect) → ((i : ℤ) → g i ≡ effect_read (f i)) → at_int (replace_value r v) g ≡ effect_read (at_int v f)
  int_read (Var x) f g h = refl
  int_read (Chan x) f g h = refl
  int_read (Int x) f g h = h x
  int_read (Char x) f g h = refl
  int_read (Boolean x) f g h = refl
  int_read (Text x) f g h = refl
  int_read (PrimitiveVal x) f g h = refl
  int_read (Record x y) f g h = refl

  char_read : (v : Val) (f g : ℕ → Option Effect) → ((i : ℕ) → g i ≡ effect_read (f i)) → at_char (replace_value r v) g ≡ effect_read (at_char v f)
  char_read (Var x) f g h = refl
  char_read (Chan x) f g h = refl
  char_read (Int x) f g h = refl
  char_read (Char x) f g h = h x
  char_read (Boolean x) f g h = refl
  char_read (Text x) f g h = refl
  char_read (PrimitiveVal x) f g h = refl
  char_read (Record x y) f g h = refl

  bool_read : (v : Val) (f g : Bool → Option Effect) → ((i : Bool) → g i ≡ effect_read (f i)) → at_bool (replace_value r v) g ≡ effect_read (at_bool v f)
  bool_read (Var x) f g h = refl
  bool_read (Chan x) f g h = refl
  bool_read (Int x) f g h = refl
  bool_read (Char x) f g h = refl
  bool_read (Boolean x) f g h = h x
  bool_read (Text x) f g h = refl
  bool_read (PrimitiveVal x) f g h = refl
  bool_read (Record x y) f g h = refl

  text_read : (v : Val) (f g : List ℕ → Option Effect) → ((i : List ℕ) → g i ≡ effect_read (f i)) → at_text (replace_value r v) g ≡ effect_read (at_text v f)
  text_read (Var x) f g h = refl
  text_read (Chan x) f g h = refl
  text_read (Int x) f g h = refl
  text_read (Char x) f g h = refl
  text_read (Boolean x) f g h = refl
  text_read (Text x) f g h = h x
  text_read (PrimitiveVal x) f g h = refl
  text_read (Record x y) f g h = refl

  two_read : (v : Val) (f : Val → Val → Option Effect) → ((u k : Val) → f (replace_value r u) (replace_value r k) ≡ effect_read (f u k)) → at_two (replace_value r v) f ≡ effect_read (at_two v f)
  two_read (Var x) f h = refl
  two_read (Chan x) f h = refl
  two_read (Int x) f h = refl
  two_read (Char x) f h = refl
  two_read (Boolean x) f h = refl
  two_read (Text x) f h = refl
  two_read (PrimitiveVal x) f h = refl
  two_read (Record no_vals ls) f h = refl
  two_read (Record (more_vals u no_vals) ls) f h = refl
  two_read (Record (more_vals u (more_vals k no_vals)) ls) f h = h u k
  two_read (Record (more_vals u (more_vals k (more_vals x xs))) ls) f h = refl

  three_read : (v : Val) (f : Val → Val → Val → Option Effect) → ((u w k : Val) → f (replace_value r u) (replace_value r w) (replace_value r k) ≡ effect_read (f u w k)) → at_three (replace_value r v) f ≡ effect_read (at_three v f)
  three_read (Var x) f h = refl
  three_read (Chan x) f h = refl
  three_read (Int x) f h = refl
  three_read (Char x) f h = refl
  three_read (Boolean x) f h = refl
  three_read (Text x) f h = refl
  three_read (PrimitiveVal x) f h = refl
  three_read (Record no_vals ls) f h = refl
  three_read (Record (more_vals u no_vals) ls) f h = refl
  three_read (Record (more_vals u (more_vals w no_vals)) ls) f h = refl
  three_read (Record (more_vals u (more_vals w (more_vals k no_vals))) ls) f h = h u w k
  three_read (Record (more_vals u (more_vals w (more_vals k (more_vals x xs)))) ls) f h = refl

  divided_read : (b : ℤ) (e e' : Option Effect) → e' ≡ effect_read e → divided_by b e' ≡ effect_read (divided_by b e)
  divided_read (pos zero) e e' h = refl
  divided_read (pos (suc n)) e e' h = h
  divided_read (negsuc n) e e' h = h

  ruleset operands_read = (two_read, three_read, int_read, char_read, bool_read, text_read, divided_read)

  pub primitive_read : (f : Primitive) (v : Val) → effect_of f (replace_value r v) ≡ effect_read (effect_of f v)
  primitive_read primitive.Print v = text_read v _ _ (λ b. refl)
  primitive_read _ v = search operands_read depth 8
