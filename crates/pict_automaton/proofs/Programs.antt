-- The machine reads declarations, and no list of tokens has two trees.
use Rattle.std.proofs.Math.Seq.{take-suc}
use Rattle.std.proofs.Common.{List, None, Some, [], add-one, ap, append-nil, append_assoc, get_or, length, refl, subst, sym, take, ℕ, ◌++◌, ◌+◌, ◌<◌, ◌∙◌, ◌∷◌, ◌≡◌}
use Rattle.pict_syntax.specs.declared.token.Token.{Token}
use Rattle.pict_syntax.specs.Trees.{def_dec, Decs, no_decs, more_decs, more_definitions}
use Rattle.pict_syntax.specs.Phrases.{join}
use Rattle.pict_syntax.specs.Grammar.{abs_span, AreDecs, IsDec}
use Rattle.pict_syntax.specs.Place.{IsPrefix, IsFirstWrong, IsWrongEnd, OneTree}
use Rattle.pict_syntax.specs.Programs.{declarations}
use Rattle.pict_automaton.specs.Places.{State, at_top, for_value, have_definition, need, stop, top_declarations, waiting}
use Rattle.pict_automaton.specs.Machine.{step, run, start, ended}
use Rattle.pict_automaton.proofs.Reading.{next}
use Rattle.pict_automaton.proofs.Ahead.{Calm}
use Rattle.pict_automaton.proofs.ReadsValues.{starts_declaration, reads_declarations, ends_declaration}
use Rattle.pict_automaton.proofs.Inclusions.{under, a_led}
use Rattle.pict_automaton.proofs.Says.{state_says}
use Rattle.pict_automaton.proofs.SaysValues.{step_says}
use Rattle.pict_automaton.proofs.Finish.{Going, finishes}

-- the machine reads declarations
pub reads_program : (ts : List Token) (p : Decs) → declarations.tree ts p → ended (run start ts) ≡ Some p
unfolding IsDec
reads_program ts no_decs e = ap (λ l. ended (run start l)) e
reads_program ts (more_decs ds d) h =
    let n : next Calm h.1 = subst (next Calm) (append-nil h.1) ((starts_declaration d).begins h.1 [] h.4) in
    ap (λ l. ended (run start l)) (sym h.2)
    ∙ ap ended ((reads_declarations ds (top_declarations no_decs)).runs h.0 h.1 h.3 n)
    ∙ ends_declaration d ds h.1 h.4

pub one_tree : OneTree declarations
one_tree ts p q a b = let e = reads_program ts p a in let f = reads_program ts q b in cc

pub run_append : (x : State) (a b : List Token) → run x (a ++ b) ≡ run (run x a) b
run_append x [] b = refl
run_append x (t ∷ a) b = run_append (step t.kind t.span x) a b

pub run_stop : (r : List Token) → run stop r ≡ stop
run_stop [] = refl
run_stop (t ∷ r) = run_stop r

-- where it stops, the tokens begin no declarations
pub no_prefix : (ts : List Token) → run start ts ≡ stop → IsPrefix declarations ts → ⊥
no_prefix ts e (r, p, t) =
    let done : None ≡ Some p = sym (ap ended (run_append start ts r ∙ ap (λ x. run x r) e ∙ run_stop r)) ∙ reads_program (ts ++ r) p t in cc

says_step : (x : State) (us : List Token) (t : Token) → state_says x us → state_says (step t.kind t.span x) (us ++ t ∷ [])
says_step x us t h = (step_says t.kind t.span x).«in» (us ++ t ∷ []) (us, t ∷ [], refl, h, refl)

run_says : (x : State) (us ts : List Token) → state_says x us → state_says (run x ts) (us ++ ts)
run_says x us [] h = subst (state_says x) (sym (append-nil us)) h
run_says x us (t ∷ ts) h = subst (state_says (run (step t.kind t.span x) ts)) (append_assoc us (t ∷ []) ts) (run_says (step t.kind t.span x) (us ++ t ∷ []) ts (says_step x us t h))

start_says : state_says start []
unfolding IsDec
start_says = refl

no_program : {p : Decs} → None ≡ Some p → ⊥
no_program e = cc

ended_says : (x : State) (p : Decs) (ts : List Token) → ended x ≡ Some p → state_says x ts → declarations.tree ts p
unfolding IsDec
ended_says (need (for_value (waiting (at_top ds)))) p ts e h = let f : ds ≡ p = cc in subst (λ q. AreDecs q ts) f h
ended_says (have_definition j ds x a (top_declarations es)) p ts e h =
    let f : more_decs es (def_dec (join j (abs_span a)) (more_definitions ds x a)) ≡ p = cc in
    subst (λ q. AreDecs q ts) f ((under (a_led (abs_span a))).«in» ts h)
ended_says _ p ts e h = absurd (no_program e)

-- what it ends with are the declarations of these tokens
pub tree_of : (ts : List Token) (p : Decs) → ended (run start ts) ≡ Some p → declarations.tree ts p
tree_of ts p e = ended_says (run start ts) p ts e (run_says start [] ts start_says)

-- where it goes on, the tokens begin declarations
pub prefix_of : (ts : List Token) → Going (run start ts) → IsPrefix declarations ts
prefix_of ts g =
    let f = finishes (run start ts) g in
    (f.rest, f.program, tree_of (ts ++ f.rest) f.program (ap ended (run_append start ts f.rest) ∙ f.ends))

-- one token more
pub run_next : (ts : List Token) (i : ℕ) (d : Token) → i < length ts → run start (take (i + 1) ts) ≡ step (get_or ts i d).kind (get_or ts i d).span (run start (take i ts))
run_next ts i d h =
    ap (run start) (ap (λ n. take n ts) (add-one i) ∙ take-suc ts i d h) ∙ run_append start (take i ts) (get_or ts i d ∷ [])

-- where a token stops the machine it is the first wrong one
pub first_wrong : (ts : List Token) (i : ℕ) (d : Token) → i < length ts → (x : State) → Going x → x ≡ run start (take i ts) → step (get_or ts i d).kind (get_or ts i d).span x ≡ stop → IsFirstWrong declarations ts i
first_wrong ts i d h x g e s = (
  h,
  prefix_of (take i ts) (subst Going e g),
  no_prefix (take (i + 1) ts) (run_next ts i d h ∙ ap (step (get_or ts i d).kind (get_or ts i d).span) (sym e) ∙ s),
)

-- where declarations can't end, it is the wrong place
pub wrong_end : (ts : List Token) (x : State) → Going x → x ≡ run start ts → ended x ≡ None → IsWrongEnd declarations ts
wrong_end ts x g e n =
    (prefix_of ts (subst Going e g), λ p t. no_program (sym n ∙ ap ended e ∙ reads_program ts p t))
