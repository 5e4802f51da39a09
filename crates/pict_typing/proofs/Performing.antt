-- A primitive acts on each value that it takes, and what it leaves is typed.
use Rattle.std.proofs.Common.{◌≡◌, ℕ, zero, suc, ℤ, pos, negsuc, Option, Bool, List, [], refl, Some, None}
use Rattle.pict_syntax.specs.declared.primitive.Primitive.{Primitive}
use Rattle.pict_syntax.specs.declared.primitive.Primitive.TheVariants as primitive
use Rattle.pict_types.specs.Types.{Write, PlainType, Int, Char, Str, Boolean, Chan, Fields, no_type, types, PlainLabels, no_bound}
use Rattle.pict_types.specs.PrimitiveTypes.{takes, empty_record}
use Rattle.pict_core.specs.Term as core
use Rattle.pict_core.specs.Term.{Val, Record, no_vals, no_labelled}
use Rattle.pict_core.specs.Primitives.{Effect, Leaves, Nothing, Answer, Trap, effect_of, at_int, at_char, at_bool, at_text, at_two, at_three, divided_by}
use Rattle.pict_typing.specs.Erasing.{erased}
use Rattle.pict_typing.specs.Worlds.{over, IsTypeIn}
use Rattle.pict_typing.specs.Values.{HasType, int_has, char_has, boolean_has, text_has, record_has, none_have, none_labelled}
use Rattle.pict_typing.specs.Processes.{AreClosedTypes}
use Rattle.pict_typing.proofs.Forms.{Fits, int_fits, char_fits, boolean_fits, text_fits, record_fits, none_fit, more_fit, fits_have}

module _ (names : List (List ℕ)) (ms : List PlainType) (closed_ : AreClosedTypes names ms) where
  -- an answer has some type, and values of this type may be sent where it goes
  abbrev pub LeavesTyped : Leaves → Type 0
  LeavesTyped Nothing = Unit {0}
  LeavesTyped (Answer k a) = (t : PlainType) × IsTypeIn names [] t × HasType (over names ms) k (Chan Write t) × HasType (over names ms) a t
  LeavesTyped Trap = Unit {0}

  -- the argument has the primitive's shape
  pub record Performs (e : Option Effect) : Type 0 where
    pub effect : Effect
    pub is : e ≡ Some effect
    pub leaves : LeavesTyped effect.leaves

  answered : {k a : Val} (printed : Option (List ℕ)) (t : PlainType) → IsTypeIn names [] t → Fits names ms k (Chan Write t) → HasType (over names ms) a t → Performs (Some (record { printed = printed; leaves = Answer k a }))
  answered printed t w x h = record { effect = record { printed = printed; leaves = Answer _ _ }; is = refl; leaves = (t, w, fits_have names ms closed_ w x, h) }

  int_answered : {k : Val} {n : ℤ} → Fits names ms k (Chan Write Int) → Performs (Some (record { printed = None; leaves = Answer k (core.Int n) }))
  int_answered x = answered None Int tt x int_has

  char_answered : {k : Val} {byte : ℕ} → Fits names ms k (Chan Write Char) → Performs (Some (record { printed = None; leaves = Answer k (core.Char byte) }))
  char_answered x = answered None Char tt x char_has

  boolean_answered : {k : Val} {b : Bool} → Fits names ms k (Chan Write Boolean) → Performs (Some (record { printed = None; leaves = Answer k (core.Boolean b) }))
  boolean_answered x = answered None Boolean tt x boolean_has

  text_answered : {k : Val} {bytes : List ℕ} → Fits names ms k (Chan Write Str) → Performs (Some (record { printed = None; leaves = Answer k (core.Text bytes) }))
  text_answered x = answered None Str tt x text_has

  divided : (n : ℤ) {e : Option Effect} → Performs e → Performs (divided_by n e)
  divided (pos zero) x = record { effect = record { printed = None; leaves = Trap }; is = refl; leaves = tt }
  divided (pos (suc n)) x = x
  divided (negsuc n) x = x

  nothing_left : (bytes : List ℕ) → Performs (Some (record { printed = Some bytes; leaves = Nothing }))
  nothing_left bytes = record { effect = record { printed = Some bytes; leaves = Nothing }; is = refl; leaves = tt }

  empty_has : HasType (over names ms) (Record no_vals no_labelled) empty_record
  empty_has = record_has tt none_have none_labelled (tt, (tt, tt))

  int_performs : {v : Val} {f : ℤ → Option Effect} → Fits names ms v Int → ((n : ℤ) → Performs (f n)) → Performs (at_int v f)
  int_performs int_fits h = h _

  char_performs : {v : Val} {f : ℕ → Option Effect} → Fits names ms v Char → ((byte : ℕ) → Performs (f byte)) → Performs (at_char v f)
  char_performs char_fits h = h _

  boolean_performs : {v : Val} {f : Bool → Option Effect} → Fits names ms v Boolean → ((b : Bool) → Performs (f b)) → Performs (at_bool v f)
  boolean_performs boolean_fits h = h _

  text_performs : {v : Val} {f : List ℕ → Option Effect} → Fits names ms v Str → ((bytes : List ℕ) → Performs (f bytes)) → Performs (at_text v f)
  text_performs text_fits h = h _

  two_perform : {v : Val} {s r : PlainType} {ls : PlainLabels} {f : Val → Val → Option Effect} → Fits names ms v (Fields no_bound (types s (types r no_type)) ls)
      → ((u k : Val) → Fits names ms u s → Fits names ms k r → Performs (f u k)) → Performs (at_two v f)
  two_perform (record_fits h (more_fit x (more_fit k none_fit)) l) perform = perform _ _ x k

  three_perform : {v : Val} {s t r : PlainType} {ls : PlainLabels} {f : Val → Val → Val → Option Effect}
      → Fits names ms v (Fields no_bound (types s (types t (types r no_type))) ls)
      → ((u w k : Val) → Fits names ms u s → Fits names ms w t → Fits names ms k r → Performs (f u w k)) → Performs (at_three v f)
  three_perform (record_fits h (more_fit x (more_fit y (more_fit k none_fit))) l) perform = perform _ _ _ x y k

  -- the record without fields, once something is printed
  empty_answered : {k : Val} (bytes : List ℕ) → Fits names ms k (Chan Write empty_record) → Performs (Some (record { printed = Some bytes; leaves = Answer k (Record no_vals no_labelled) }))
  empty_answered bytes x = answered (Some bytes) empty_record (tt, (tt, tt)) x empty_has

  ruleset operands_perform = (two_perform, three_perform, int_performs, char_performs, boolean_performs, text_performs, divided)

  ruleset answers_perform = (nothing_left, int_answered, char_answered, boolean_answered, text_answered, empty_answered)

  pub performs : (p : Primitive) {v : Val} → Fits names ms v (erased (takes p)) → Performs (effect_of p v)
  performs primitive.Print x = text_performs x (λ bytes. nothing_left bytes)
  performs _ x = search (operands_perform, answers_perform) depth 8
