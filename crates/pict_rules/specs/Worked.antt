-- Three short texts, and what the rules say of them.
use Rattle.std.specs.Prelude.{ℕ, pos, List, [], ◌∷◌, codes, Some}
use Rattle.pict_syntax.specs.declared.code.Code.TheVariants.{Y2, Y4}
use Rattle.pict_syntax.specs.declared.id.Id.{Id}
use Rattle.pict_syntax.specs.declared.span.Span.{Span}
use Rattle.pict_syntax.specs.Trees.{int_type, both_type, read_type, no_binders, bind_pat, fields_pat, field_pats, no_pats, more_pats, no_labelled_pats, Dec, new_dec, run_dec, def_dec, Decs, no_decs, more_decs, no_definitions, more_definitions, process_abs, use_chan, number_val, string_val, send_proc}
use Rattle.pict_rules.specs.Derivations.{IsTyped, IsStuckAt}

-- from one byte of the text to before another
abbrev from : ℕ → ℕ → Span
from i j = record { text = 1; start = i; end = j }

abbrev named : ℕ → Span → Id
named n s = record { name = record { 0 = n }; span = s }

-- the names `c` and `f`
abbrev pub two_names : List (List ℕ)
two_names = codes "c" ∷ codes "f" ∷ []

-- `new c:^Int`
abbrev new_c : Dec
new_c = new_dec (from 0 10) (named 0 (from 4 5)) (both_type (from 6 10) (int_type (from 7 10)))

-- `new c:^Int run c!1`: a message of the channel's type
abbrev pub number_sent : Decs
number_sent =
    more_decs (more_decs no_decs new_c) (run_dec (from 11 18)
    (send_proc (from 15 18) (use_chan (from 15 16) (record { 0 = 0 })) (number_val (from 17 18) (pos 1))))

-- `new c:^Int run c!"x"`: a message of another type
abbrev pub text_sent : Decs
text_sent =
    more_decs (more_decs no_decs new_c) (run_dec (from 11 20)
    (send_proc (from 15 20) (use_chan (from 15 16) (record { 0 = 0 })) (string_val (from 17 20) (codes "x"))))

-- `def f [c:?Int] = c!1`: no right to send
abbrev pub sent_on_input : Decs
sent_on_input =
    more_decs no_decs (def_dec (from 0 20) (more_definitions no_definitions (named 1 (from 4 5))
    (process_abs (from 6 20)
    (fields_pat (from 6 14)
    (field_pats no_binders
    (more_pats no_pats (bind_pat (from 7 13) (named 0 (from 7 8)) (Some (read_type (from 9 13) (int_type (from 10 13))))))
    no_labelled_pats))
    (send_proc (from 17 20) (use_chan (from 17 18) (record { 0 = 0 })) (number_val (from 19 20) (pos 1))))))

-- the first is typed; the second is refused at its string, and the third at its channel
pub record WorkedTexts : Type 0 where
  pub typed : IsTyped two_names number_sent
  pub other_type : IsStuckAt two_names text_sent Y4 (from 17 20)
  pub no_right : IsStuckAt two_names sent_on_input Y2 (from 17 18)
