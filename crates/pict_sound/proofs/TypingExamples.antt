-- A process that is typed, and processes that have no typing.
use Rattle.std.proofs.Common.{◌≡◌, ℕ, pos, List, [], ◌∷◌, refl, false, true, None}
use Rattle.pict_syntax.specs.declared.span.Span.{Span}
use Rattle.pict_syntax.specs.declared.primitive.Primitive.TheVariants.{Print, Printi}
use Rattle.pict_types.specs.Types.{Both, Read, Write, PlainType, Int, Var, Chan, Fields, Rec, no_type, types, no_label, Free, no_bound, bounds, Plain, TypeContext}
use Rattle.pict_sub.specs.Subtyping.{same, upward, downward, both_read, both_write}
use Rattle.pict_core.specs.Term as core
use Rattle.pict_core.specs.Term.{Val, Record, no_vals, more_vals, no_labelled, Pat, Bind, Any, RecordPat, no_pats, more_pats, no_labelled_pats, Process, Zero, New, Par, Out, In, If}
use Rattle.pict_core.specs.Configuration.{Ready, opening}
use Rattle.pict_core.specs.Step.{Wrong, least, is_partner, free_step}
use Rattle.pict_typing.specs.Worlds.{World, IsTypeIn, over}
use Rattle.pict_typing.specs.Values.{HasType, variable_has, int_has, primitive_has, record_has, packed, folded, sends_unfolding, raised, none_have, more_have, none_labelled}
use Rattle.pict_typing.specs.Opening.{Opens, binds_one, opens_unfolding, opens_field, opens_record, opens_none, opens_more, opens_no_label}
use Rattle.pict_typing.specs.Processes.{IsTyped, fresh, beside, output, input, test}
use Rattle.pict_reduction.specs.Reached.{at_start}
use Rattle.pict_sound.proofs.NeverWrong.{typed_is_never_wrong}

abbrev nowhere : Span
nowhere = record { text = 0; start = 0; end = 0 }

-- ---- a package, a fold and a replicated reader

abbrev three_values : Val → Val → Val → Val
three_values u v w = Record (more_vals u (more_vals v (more_vals w no_vals))) no_labelled

abbrev three_variables : Pat
three_variables = RecordPat (more_pats Bind (more_pats Bind (more_pats Bind no_pats))) no_labelled_pats

-- M = rec M = [#X X !X !M]: a value of some type, who takes such values, and where a further message like this may go
abbrev message_type : PlainType
message_type = Rec (Fields (bounds Free no_bound) (types (Var 0) (types (Chan Write (Var 0)) (types (Chan Write (Var 1)) no_type))) no_label)

-- new k (k![1 printi k] | k?*[x f r] = (f!x | r![x f r])): it prints 1 over and over, and never learns what it prints
abbrev first_message : Val
first_message = three_values (core.Int (pos 1)) (core.PrimitiveVal Printi) (core.Var 0)

abbrev further_message : Val
further_message = three_values (core.Var 1) (core.Var 2) (core.Var 3)

abbrev printing_over : Process
printing_over = New (Par (Out (core.Var 0) first_message nowhere) (In (core.Var 0) true three_variables (Par (Out (core.Var 2) (core.Var 1) nowhere) (Out (core.Var 3) further_message nowhere))))

-- M and its unfolding are well formed among any type variables
formed : (c : TypeContext) → IsTypeIn [] c message_type
formed c = ((tt, tt), ((refl, (refl, (refl, tt))), tt))

unfolding_formed : (c : TypeContext) → IsTypeIn [] c (Fields (bounds Free no_bound) (types (Var 0) (types (Chan Write (Var 0)) (types (Chan Write message_type) no_type))) no_label)
unfolding_formed c = ((tt, tt), ((refl, (refl, (formed (Free ∷ c), tt))), tt))

-- k has ^M; then, in the body, x has X, f has !X and r has !M
abbrev with_channel : World
with_channel = record { names = []; messages = []; type_variables = []; variables = Chan Both message_type ∷ [] }

abbrev with_message : World
with_message = record { names = []; messages = []; type_variables = Free ∷ []; variables = Chan Both message_type ∷ Var 0 ∷ Chan Write (Var 0) ∷ Chan Write message_type ∷ [] }

channel_sends : HasType with_channel (core.Var 0) (Chan Write message_type)
channel_sends = raised (Chan Both message_type) (formed []) (formed []) (variable_has refl) (downward both_write same)

channel_reads : HasType with_channel (core.Var 0) (Chan Read message_type)
channel_reads = raised (Chan Both message_type) (formed []) (formed []) (variable_has refl) (upward both_read same)

-- Int stands for X
first_has : HasType with_channel first_message message_type
first_has =
    folded (formed []) (packed (Plain Int) (record { formed = tt; of_kind = tt; below = tt }) (unfolding_formed []) (record_has tt (more_have int_has (more_have primitive_has (more_have channel_sends none_have))) none_labelled (tt, ((tt, (tt, (formed [], tt))), tt))))

-- X stands for itself
further_has : HasType with_message further_message message_type
further_has =
    folded (formed (Free ∷ [])) (packed (Plain (Var 0)) (record { formed = refl; of_kind = tt; below = tt }) (unfolding_formed (Free ∷ [])) (record_has tt (more_have (variable_has refl) (more_have (variable_has refl) (more_have (variable_has refl) none_have))) none_labelled (tt, ((refl, (refl, (formed (Free ∷ []), tt))), tt))))

opens : Opens [] [] three_variables message_type (Free ∷ []) 1 (Var 0 ∷ Chan Write (Var 0) ∷ Chan Write message_type ∷ [])
opens = opens_unfolding (opens_field (opens_record tt (opens_more binds_one (opens_more binds_one (opens_more binds_one opens_none))) opens_no_label))

prints_over : IsTyped (over [] []) printing_over
prints_over =
    fresh message_type (formed []) (beside
    (output message_type (formed []) channel_sends first_has)
    (input message_type (formed []) channel_reads opens (beside
    (output (Var 0) refl (variable_has refl) (variable_has refl))
    (output message_type (formed (Free ∷ [])) (variable_has refl) further_has))))

-- ---- a result channel handed on under a fold

abbrev one_value : Val → Val
one_value v = Record (more_vals v no_vals) no_labelled

abbrev one_variable : Pat
one_variable = RecordPat (more_pats Bind no_pats) no_labelled_pats

-- U = [Int] is the unfolding of S = (rec S = [Int])
abbrev unfolded_type : PlainType
unfolded_type = Fields no_bound (types Int no_type) no_label

abbrev folded_type : PlainType
folded_type = Rec unfolded_type

-- the type [!T] of a message that holds a result channel
abbrev result_to : PlainType → PlainType
result_to t = Fields no_bound (types (Chan Write t) no_type) no_label

-- new f (new g (f?*[r] = g![r] | g?*[r] = r![1])): f has ^[!S] and g has ^[!U], so that r, which has !S, is used at !U
abbrev hands_on : Process
hands_on = New (New (Par (In (core.Var 0) true one_variable (Out (core.Var 1) (one_value (core.Var 2)) nowhere)) (In (core.Var 1) true one_variable (Out (core.Var 2) (one_value (core.Int (pos 1))) nowhere))))

result_formed : IsTypeIn [] [] unfolded_type
result_formed = (tt, ((tt, tt), tt))

folded_formed : IsTypeIn [] [] (result_to folded_type)
folded_formed = (tt, ((result_formed, tt), tt))

plain_formed : IsTypeIn [] [] (result_to unfolded_type)
plain_formed = (tt, ((result_formed, tt), tt))

abbrev with_functions : List PlainType → World
with_functions ts = record { names = []; messages = []; type_variables = []; variables = Chan Both (result_to folded_type) ∷ Chan Both (result_to unfolded_type) ∷ ts }

-- f?*[r] = g![r]
f_typed : IsTyped (with_functions []) (In (core.Var 0) true one_variable (Out (core.Var 1) (one_value (core.Var 2)) nowhere))
f_typed =
    input (result_to folded_type) folded_formed (raised (Chan Both (result_to folded_type)) folded_formed folded_formed (variable_has refl) (upward both_read same)) (opens_record tt (opens_more binds_one opens_none) opens_no_label) (output (result_to unfolded_type) plain_formed (raised (Chan Both (result_to unfolded_type)) plain_formed plain_formed (variable_has refl) (downward both_write same)) (record_has tt (more_have handed none_have) none_labelled plain_formed))
  where
    handed : HasType (with_functions (Chan Write folded_type ∷ [])) (core.Var 2) (Chan Write unfolded_type)
    handed = sends_unfolding {t = unfolded_type} result_formed (variable_has refl)

-- g?*[r] = r![1]
g_typed : IsTyped (with_functions []) (In (core.Var 1) true one_variable (Out (core.Var 2) (one_value (core.Int (pos 1))) nowhere))
g_typed =
    input (result_to unfolded_type) plain_formed (raised (Chan Both (result_to unfolded_type)) plain_formed plain_formed (variable_has refl) (upward both_read same)) (opens_record tt (opens_more binds_one opens_none) opens_no_label) (output unfolded_type result_formed (variable_has refl) (record_has tt (more_have int_has none_have) none_labelled result_formed))

is_handed_on : IsTyped (over [] []) hands_on
is_handed_on = fresh (result_to folded_type) folded_formed (fresh (result_to unfolded_type) plain_formed (beside f_typed g_typed))

-- ---- processes without a typing: each but the last is wrong at once

at_once : (p : Process) → free_step (opening p) (record { acting = 0; partner = None }) ≡ Wrong → least (is_partner p) (opening p).entries ≡ None → (names : List (List ℕ)) → IsTyped (over names []) p → ⊥
at_once p wrong alone names h =
    typed_is_never_wrong names p (opening p) h at_start (record { choice = record { acting = 0; partner = None }; chosen = record { actor = record { stamp = 0; mark = Ready; process = p }; stands = refl; ready = refl; partner = alone }; wrong = wrong })

-- print!1
prints_number : (names : List (List ℕ)) → IsTyped (over names []) (Out (core.PrimitiveVal Print) (core.Int (pos 1)) nowhere) → ⊥
prints_number = at_once _ refl refl

-- print?x = 0
receives_from_primitive : (names : List (List ℕ)) → IsTyped (over names []) (In (core.PrimitiveVal Print) false Bind Zero) → ⊥
receives_from_primitive = at_once _ refl refl

-- if 1 0 0
tests_number : (names : List (List ℕ)) → IsTyped (over names []) (If (core.Int (pos 1)) Zero Zero) → ⊥
tests_number = at_once _ refl refl

-- if true 0 print!1: never wrong, but both branches have to be typed
branches_to_number : (names : List (List ℕ)) → IsTyped (over names []) (If (core.Boolean true) Zero (Out (core.PrimitiveVal Print) (core.Int (pos 1)) nowhere)) → ⊥
branches_to_number names (test b p q) = prints_number names q
