-- Each judgement has an answer, whatever the environment.
use Rattle.std.proofs.Common.{List, [], ◌∷◌}
use Rattle.pict_rules.specs.Environments.{Environment}
use Rattle.pict_rules.specs.Rules.{Sort, nothing_, Judgement, gives, has, is_condition, values_give, labelled_values_give, application, fields_fit, written_arguments, values_fit, labelled_values_fit, value_fits, given_fits, abstraction_gives, abstraction_against, pattern_gives, fields_give, binders_give, patterns_give, labelled_patterns_give, pattern_against, fields_against, binders_against, patterns_against, labelled_patterns_against, declaration, declarations, signatures, signature, bodies, body, process, processes, receives, Signature, Body, process_body, value_body}
use Rattle.pict_rules.specs.Typing.{rule}
use Rattle.pict_rules.proofs.Answered.{Decides, Answered, given, needed, parted, unstopped, ensured}
use Rattle.pict_rules.proofs.PatternsAnswered.{binders_answered, binders_agree, pattern_answered, fields_answered, patterns_answered, labels_answered, against_answered, fields_against_answered, patterns_against_answered, labels_against_answered}
use Rattle.pict_rules.proofs.ValuesAnswered.{EachBody, condition, give_all, give_labels, one_field, all_positional, all_labelled, all_arguments, fields_rule, apply, all_signed, all_bodies, receive_answered, val_answered, chan_answered, each_val, each_labelled, each_field, abs_answered, each_abs, dec_answered, decs_answered, proc_answered, procs_answered}

body_answered : Decides → (b : Body) (e : Environment) → Answered nothing_ (rule e (body b))
body_answered d (process_body q) e = parted (proc_answered d q e) (λ x. given)
body_answered d (value_body v t) e = parted ((val_answered d v).has_ e t) (λ x. given)

bodies_answered : Decides → (ss : List Signature) → EachBody ss
bodies_answered d [] = tt
bodies_answered d (s ∷ ss) = (body_answered d s.body, bodies_answered d ss)

pub every_answered : {s : Sort} → Decides → (e : Environment) (j : Judgement s) → Answered s (rule e j)
every_answered d e (gives v) = (val_answered d v).gives_ e
every_answered d e (has v t) = (val_answered d v).has_ e t
every_answered d e (is_condition v) = condition d e v (val_answered d v)
every_answered d e (values_give vs) = give_all e vs (each_val d vs)
every_answered d e (labelled_values_give ls) = give_labels e ls (each_labelled d ls)
every_answered d e (application s f vs t) = apply d e s f vs t (val_answered d f) (each_field d vs)
every_answered d e (fields_fit s f bs ps ms g) = fields_rule d e s f bs ps ms g (each_field d f)
every_answered d e (written_arguments s ts bs) = all_arguments d e s ts bs
every_answered d e (values_fit s vs ps g) = all_positional d e s vs ps g (each_val d vs)
every_answered d e (labelled_values_fit s ls ms g) = all_labelled d e s ls ms g (each_labelled d ls)
every_answered d e (value_fits s v t g) = one_field d e s v t g (val_answered d v)
every_answered d e (given_fits s v t u g) = ensured _ _ _ (unstopped _ (needed d given))
every_answered d e (abstraction_gives a) = (abs_answered d a).gives_ e
every_answered d e (abstraction_against a t) = (abs_answered d a).against_ e t
every_answered d e (pattern_gives p) = pattern_answered d p e
every_answered d e (fields_give f) = fields_answered d f e
every_answered d e (binders_give bs) = binders_answered e bs
every_answered d e (patterns_give ps) = patterns_answered d ps e
every_answered d e (labelled_patterns_give ls) = labels_answered d ls e
every_answered d e (pattern_against p t) = against_answered d p e t
every_answered d e (fields_against s f rs ts ms) = fields_against_answered d f e s rs ts ms
every_answered d e (binders_against bs rs) = binders_agree d e bs rs
every_answered d e (patterns_against ps ts) = patterns_against_answered d ps e ts
every_answered d e (labelled_patterns_against ls ms) = labels_against_answered d ls e ms
every_answered d e (declaration c) = dec_answered d c e
every_answered d e (declarations ds) = decs_answered d ds e
every_answered d e (signatures ds) = all_signed ds e (each_abs d ds)
every_answered d e (signature x a) = (abs_answered d a).signature_ e x
every_answered d e (bodies ss) = all_bodies e ss (bodies_answered d ss)
every_answered d e (body b) = body_answered d b e
every_answered d e (process p) = proc_answered d p e
every_answered d e (processes ps) = procs_answered d ps e
every_answered d e (receives c a) = receive_answered e c a (chan_answered d c) (abs_answered d a)
