-- Regularity of all judgements, and of all that the rules reach from a program.
use Rattle.std.proofs.Common.{◌≡◌, ℕ, List, None}
use Rattle.pict_syntax.specs.Trees.{Decs}
use Rattle.pict_scope.specs.Scopes.{scope_stop}
use Rattle.pict_rules.specs.Environments.{Environment}
use Rattle.pict_rules.specs.Rules.{Sort, Judgement, gives, has, is_condition, values_give, labelled_values_give, application, fields_fit, written_arguments, values_fit, labelled_values_fit, value_fits, given_fits, abstraction_gives, abstraction_against, pattern_gives, fields_give, binders_give, patterns_give, labelled_patterns_give, pattern_against, fields_against, binders_against, patterns_against, labelled_patterns_against, declaration, declarations, signatures, signature, bodies, body, process, processes, receives}
use Rattle.pict_rules.specs.Typing.{rule}
use Rattle.pict_rules.specs.Reached.{Asks, Reached, whole, asked_by}
use Rattle.pict_rules.specs.Regular.{IsLabelledOnce, IsRegular, IsAsked, IsGood, Regularity, ReachedIsRegular}
use Rattle.pict_rules.proofs.Results.{Property, Each, with_result, by_steps, beside, asked_by_steps}
use Rattle.pict_rules.proofs.Regularity.{IsRightlyAsked, IsGoodResult, Step}
use Rattle.pict_rules.proofs.LabelledOnce.{all_labelled_once}
use Rattle.pict_scope.proofs.LabelsScoped.{scoped_distinct}
use Rattle.pict_rules.proofs.RegularProcesses.{condition_regular, process_regular, processes_regular, receives_regular, body_regular, bodies_regular, positional_regular}
use Rattle.pict_rules.proofs.RegularValues.{has_regular, gives_regular}
use Rattle.pict_rules.proofs.RegularPatterns.{pattern_regular, patterns_regular, against_regular, patterns_against_regular, declarations_regular}
use Rattle.pict_rules.proofs.RegularFields.{fields_regular, binders_regular, binders_against_regular, fields_against_regular, labels_against_regular}
use Rattle.pict_rules.proofs.RegularDeclarations.{abstraction_regular, signatures_regular, signature_regular, declaration_regular}
use Rattle.pict_rules.proofs.RegularAbstractions.{abstraction_against_regular}
use Rattle.pict_rules.proofs.RegularFound.{matching_regular, positional_found_regular, labelled_found_regular}
use Rattle.pict_rules.proofs.RegularArguments.{written_regular, value_regular, fields_fit_regular, application_regular}
use Rattle.pict_rules.proofs.RegularLabels.{labelled_values_regular, labelled_patterns_regular}

step : (s : Sort) (e : Environment) (j : Judgement s) → IsLabelledOnce j → IsRegular e → IsAsked e j → Step s e j
step s e (gives v) d r a = gives_regular e v d r
step s e (has v t) d r a = has_regular e v t r a
step s e (is_condition v) d r a = condition_regular e v r
step s e (values_give vs) d r a = positional_regular e vs r
step s e (labelled_values_give ls) d r a = labelled_values_regular e ls d r
step s e (application i f vs t) d r a = application_regular e i f vs t r a
step s e (fields_fit i f bs ps ms g) d r a = fields_fit_regular e i f bs ps ms g r a
step s e (written_arguments i ts bs) d r a = written_regular e i ts bs d r a
step s e (values_fit i vs ps g) d r a = positional_found_regular e i vs ps g r a.0 a.1
step s e (labelled_values_fit i ls ms g) d r a = labelled_found_regular e i ls ms g r a.0 a.1
step s e (value_fits i v t g) d r a = value_regular e i v t g r a
step s e (given_fits i v t u g) d r a = matching_regular e i v t u g a.1.1
step s e (abstraction_gives f) d r a = abstraction_regular e f d r
step s e (abstraction_against f t) d r a = abstraction_against_regular e f t d r a
step s e (pattern_gives p) d r a = pattern_regular e p d r
step s e (fields_give f) d r a = fields_regular e f r
step s e (binders_give bs) d r a = binders_regular e bs d r
step s e (patterns_give ps) d r a = patterns_regular e ps r
step s e (labelled_patterns_give ls) d r a = labelled_patterns_regular e ls d r
step s e (pattern_against p t) d r a = against_regular e p t d r a
step s e (fields_against i f bs ps ms) d r a = fields_against_regular e i f bs ps ms r a
step s e (binders_against bs rs) d r a = binders_against_regular e bs rs r a
step s e (patterns_against ps ts) d r a = patterns_against_regular e ps ts r a
step s e (labelled_patterns_against ls ms) d r a = labels_against_regular e ls ms r a
step s e (declaration c) d r a = declaration_regular e c d r
step s e (declarations ds) d r a = declarations_regular e ds r
step s e (signatures ds) d r a = signatures_regular e ds r
step s e (signature x f) d r a = signature_regular e x f d r
step s e (bodies ss) d r a = bodies_regular e ss r a
step s e (body b) d r a = body_regular e b r a
step s e (process p) d r a = process_regular e p r
step s e (processes ps) d r a = processes_regular e ps r
step s e (receives c f) d r a = receives_regular e c f r

abbrev IsRight : Property
IsRight t e j = IsLabelledOnce j × IsRightlyAsked t e j

right_step : (s : Sort) (e : Environment) (j : Judgement s) → IsRight s e j → Each IsRight (with_result IsGoodResult) s (IsGood e j) (rule e j)
right_step s e j h = beside (all_labelled_once s e j h.0) (step s e j h.0 h.1.0 h.1.1)

pub regularity : Regularity
regularity s e j x d r a p = by_steps IsRight IsGoodResult right_step e j x (d, (r, a)) p

reached_right : (names : List (List ℕ)) (p : Decs) {s : Sort} {e : Environment} {j : Judgement s} → scope_stop names p ≡ None → Reached names p s e j → IsRight s e j
reached_right names p h whole = (scoped_distinct names p h, (record { entries = tt; known = tt }, tt))
reached_right names p h (asked_by {s = s} {e = e} {j = j} r a) = asked_by_steps IsRight IsGoodResult right_step e j (reached_right names p h r) a

pub reached_regular : ReachedIsRegular
reached_regular names p s e j h r = reached_right names p h r

-- so what a rule asks is asked of what is well formed, without a label twice, where the rule's judgement is
pub asked_right : {s t : Sort} {e d : Environment} (j : Judgement s) {i : Judgement t} → IsLabelledOnce j → IsRegular e → IsAsked e j → Asks s (rule e j) t d i → IsLabelledOnce i × (IsRegular d × IsAsked d i)
asked_right {e = e} j l r a h = asked_by_steps IsRight IsGoodResult right_step e j (l, (r, a)) h
