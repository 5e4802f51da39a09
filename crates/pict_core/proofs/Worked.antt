-- Worked programs: the definition's runs, computed.
use Rattle.std.proofs.Common.{ℕ, zero, suc, ◌≡◌, true, false, List, [], ◌∷◌, ◌++◌, refl, pos, negsuc, codes}
use Rattle.std.specs.Fmt.{digits}
use Rattle.std.specs.Int.{int_wrap}
use Rattle.pict_syntax.specs.declared.primitive.Primitive.TheVariants as primitive
use Rattle.pict_syntax.specs.declared.span.Span.{Span}
use Rattle.pict_core.specs.Term.{Val, Process, Var, Chan, Int, Text, PrimitiveVal, Record, no_vals, more_vals, no_labelled, Bind, Zero, Par, New, Out, In, RecordPat, no_pats, more_pats, no_labelled_pats}
use Rattle.pict_core.specs.Configuration.{Configuration, opening}
use Rattle.pict_core.specs.Step.{Label, Comm, Print, StepOutcome, Steps, Traps, Wrong, Finished, next}
use Rattle.pict_core.specs.Run.{shown}

-- the labels of up to so many steps, the number of the steps before the first that is no step, and its outcome
record Walk : Type 0 where
  labels : List (ℕ × Label)
  steps : ℕ
  outcome : StepOutcome

abbrev stepped : (ℕ → List (ℕ × Label) → Configuration → Walk) → ℕ → List (ℕ × Label) → StepOutcome → Walk
stepped go n labels (Steps C label) = go (suc n) (labels ++ shown (suc n) label) C
stepped go n labels (Traps at) = record { labels = labels; steps = n; outcome = Traps at }
stepped go n labels Wrong = record { labels = labels; steps = n; outcome = Wrong }
stepped go n labels Finished = record { labels = labels; steps = n; outcome = Finished }

abbrev walk : ℕ → ℕ → List (ℕ × Label) → Configuration → Walk
walk zero n labels C = record { labels = labels; steps = n; outcome = next C }
walk (suc more) n labels C = stepped (λ m shown_so_far D. walk more m shown_so_far D) n labels (next C)

abbrev run_of : Process → Walk
run_of p = walk 100 0 [] (opening p)

abbrev here : Span
here = record { text = 1; start = 0; end = 0 }

abbrev print_int : Val → Process
print_int v = Out (PrimitiveVal primitive.Printi) v here

abbrev int : ℕ → Val
int n = Int (pos n)

abbrev three : Val → Val → Val → Val
three u v w = Record (more_vals u (more_vals v (more_vals w no_vals))) no_labelled

abbrev finished_after : ℕ → List (ℕ × Label) → Walk
finished_after n labels = record { labels = labels; steps = n; outcome = Finished }

-- run print!"hello"
one_printing : run_of (Par (Out (PrimitiveVal primitive.Print) (Text (codes "hello")) here) Zero) ≡ finished_after 3 ((2, Print (codes "hello")) ∷ [])
one_printing = refl

-- new c:^Int run c!1 run c?n = printi!n
one_message : run_of (New (Par (Out (Var 0) (int 1) here) (Par (In (Var 0) false Bind (print_int (Var 1))) Zero))) ≡ finished_after 7 ((5, Comm 0 (int 1)) ∷ (7, Print (codes "1")) ∷ [])
unfolding digits
one_message = refl

-- new c:^Int run c!1 run c!2 run c!3, and three times run c?x = printi!x
in_order : run_of (New (Par (Out (Var 0) (int 1) here) (Par (Out (Var 0) (int 2) here) (Par (Out (Var 0) (int 3) here)
    (Par (In (Var 0) false Bind (print_int (Var 1))) (Par (In (Var 0) false Bind (print_int (Var 1))) (Par (In (Var 0) false Bind (print_int (Var 1))) Zero)))))))
    ≡ finished_after 17 ((9, Comm 0 (int 1)) ∷ (11, Comm 0 (int 2)) ∷ (12, Print (codes "1")) ∷ (14, Comm 0 (int 3)) ∷ (15, Print (codes "2")) ∷ (17, Print (codes "3")) ∷ [])
unfolding digits
in_order = refl

-- new c:^Int run c?*x = printi!x run c?y = print!"p" run c!1 run c!2 run c!3: the replicated reader that served goes behind the plain one
server_behind : run_of (New (Par (In (Var 0) true Bind (print_int (Var 1))) (Par (In (Var 0) false Bind (Out (PrimitiveVal primitive.Print) (Text (codes "p")) here))
    (Par (Out (Var 0) (int 1) here) (Par (Out (Var 0) (int 2) here) (Par (Out (Var 0) (int 3) here) Zero))))))
    ≡ finished_after 15 ((7, Comm 0 (int 1)) ∷ (9, Comm 0 (int 2)) ∷ (10, Print (codes "1")) ∷ (12, Comm 0 (int 3)) ∷ (13, Print (codes "p")) ∷ (15, Print (codes "3")) ∷ [])
unfolding digits
server_behind = refl

-- new c:^Int run c!1 run c!2 run c?*x = printi!x: the replicated reader keeps the turn while there are messages
server_keeps_turn : run_of (New (Par (Out (Var 0) (int 1) here) (Par (Out (Var 0) (int 2) here) (Par (In (Var 0) true Bind (print_int (Var 1))) Zero))))
    ≡ finished_after 12 ((7, Comm 0 (int 1)) ∷ (8, Comm 0 (int 2)) ∷ (11, Print (codes "1")) ∷ (12, Print (codes "2")) ∷ [])
unfolding digits
server_keeps_turn = refl

-- the empty text: the inert process takes one step
inert : run_of Zero ≡ finished_after 1 []
inert = refl

-- new c:^Int run c!1
unread : run_of (New (Par (Out (Var 0) (int 1) here) Zero)) ≡ finished_after 4 []
unread = refl

-- new c:^Int run c?n = print!"x"
unsent : run_of (New (Par (In (Var 0) false Bind (Out (PrimitiveVal primitive.Print) (Text (codes "x")) here)) Zero)) ≡ finished_after 4 []
unsent = refl

-- run printi!(+ 9223372036854775807 1)
wraps : run_of (Par (New (Par (In (Var 0) true Bind (print_int (Var 1))) (Out (PrimitiveVal primitive.Add) (three (int 9223372036854775807) (int 1) (Var 0)) here))) Zero)
    ≡ finished_after 8 ((7, Comm 0 (Int (negsuc 9223372036854775807))) ∷ (8, Print (codes "-9223372036854775808")) ∷ [])
unfolding digits int_wrap
wraps = refl

-- (pr "a"); run printi!(div 1 0): the eleventh step traps
zero_divisor : run_of (New (Par (In (Var 0) true (RecordPat no_pats no_labelled_pats)
    (Par (New (Par (In (Var 1) true Bind (print_int (Var 2))) (Out (PrimitiveVal primitive.Divide) (three (int 1) (int 0) (Var 1)) here))) Zero))
    (Out (PrimitiveVal primitive.Pr) (Record (more_vals (Text (codes "a")) (more_vals (Var 0) no_vals)) no_labelled) here)))
    ≡ record { labels = (4, Print (codes "a")) ∷ (5, Comm 0 (Record no_vals no_labelled)) ∷ []; steps = 10; outcome = Traps here }
zero_divisor = refl

-- val f = \(x:Int) = (+ x 1) run printi!(f 2)
function : run_of (New (Par (In (Var 0) true Bind (Par (New (Par (In (Var 2) true Bind (print_int (Var 3))) (Out (Var 1) (Record (more_vals (int 2) (more_vals (Var 2) no_vals)) no_labelled) here))) Zero))
    (New (Par (In (Var 1) true (RecordPat (more_pats Bind (more_pats Bind no_pats)) no_labelled_pats) (Out (PrimitiveVal primitive.Add) (three (Var 2) (int 1) (Var 3)) here)) (Out (Var 0) (Var 1) here)))))
    ≡ finished_after 16 ((7, Comm 0 (Chan 1)) ∷ (13, Comm 1 (Record (more_vals (int 2) (more_vals (Chan 2) no_vals)) no_labelled)) ∷ (15, Comm 2 (int 3)) ∷ (16, Print (codes "3")) ∷ [])
unfolding digits int_wrap
function = refl

-- new c:^Int run c!"x" run c?n = printi!n: a message of a wrong shape
wrong_shape : run_of (New (Par (Out (Var 0) (Text (codes "x")) here) (Par (In (Var 0) false Bind (print_int (Var 1))) Zero)))
    ≡ record { labels = (5, Comm 0 (Text (codes "x"))) ∷ []; steps = 6; outcome = Wrong }
wrong_shape = refl
